-- The catalogue grows as each composition in turn is made longer by one unit at its rear.
use Rattle.std.proofs.Common.{◌≡◌, ℕ, zero, suc, ◌+◌, ◌<◌, Bool, true, false, cond, inl, inr, List, [], ◌∷◌, ◌++◌, take}
use Rattle.std.proofs.Common.{get_or, length, refl, ap, ◌∙◌, sym, subst, arith, All, Contains, length-append}
use Rattle.std.proofs.Common.{length-take, append_assoc}
use Rattle.std.specs.List.{flat_map}
use Rattle.std.proofs.lemmas.Bool.{cases_eq}
use Rattle.std.proofs.lemmas.List.{take_more, take-append-le, append-nil, get_or-take, get_or_default}
use Rattle.std.proofs.lemmas.List.Concat.{flat_map-append}
use Rattle.std.proofs.lemmas.List.Elements.{All-from_get_or, Contains-get_or, Contains-append_left}
use Rattle.std.proofs.lemmas.List.Elements.{Contains-append_right, Contains-append_cases}
use Rattle.compositions.specs.Catalogue.{comes_before}
use Rattle.compositions.specs.Extensions.{where_it_fits, extensions}
use Rattle.compositions.proofs.Order.{Ordered, Ordered-append, pairs-from_Ordered, before_shorter, before_push}
use Rattle.compositions.proofs.Order.{before_last, contains_cons, contains_head, contains_tail, contains_none}

-- what holds of each member holds of all
all_from_members : (P : List ℕ → Type 0) (xs : List (List ℕ)) → ((x : List ℕ) → Contains xs x → P x) → All P xs
all_from_members P xs h = All-from_get_or P xs [] (λ i below. h (get_or xs i []) (Contains-get_or xs i [] below))

pub flat_map_member : (f : List ℕ → List (List ℕ)) (xs : List (List ℕ)) (y : List ℕ) → Contains (flat_map f xs) y → (x : List ℕ) × Contains xs x × Contains (f x) y
flat_map_member f [] y h = absurd (contains_none y h)
flat_map_member f (x ∷ xs) y h = elim (Contains-append_cases (f x) (flat_map f xs) y h) [
  | inl here ↦ (x, contains_head x xs, here)
  | inr later ↦ let found = flat_map_member f xs y later in (found.0, contains_tail x xs found.0 found.1, found.2)
]

pub flat_map_there : (f : List ℕ → List (List ℕ)) (xs : List (List ℕ)) (x y : List ℕ) → Contains xs x → Contains (f x) y → Contains (flat_map f xs) y
flat_map_there f [] x y h k = absurd (contains_none x h)
flat_map_there f (z ∷ zs) x y h k = elim (contains_cons z zs x h) [
  | inl e ↦ Contains-append_left (f z) (flat_map f zs) y (subst (λ (w : List ℕ). Contains (f w) y) (sym e) k)
  | inr later ↦ Contains-append_right (f z) (flat_map f zs) y (flat_map_there f zs x y later k)
]

kept_member : (b : Bool) (ms x : List ℕ) → Contains (cond b (ms ∷ []) []) x → (ms ≡ x) × (b ≡ true)
kept_member true ms x h = elim (contains_cons ms [] x h) [ inl e ↦ (e, refl) | inr t ↦ absurd (contains_none x t) ]
kept_member false ms x h = absurd (contains_none x h)

kept_there : (b : Bool) (ms : List ℕ) → b ≡ true → Contains (cond b (ms ∷ []) []) ms
kept_there b ms e = subst (λ (c : Bool). Contains (cond c (ms ∷ []) []) ms) (sym e) (contains_head ms [])

kept_ordered : (b : Bool) (ms : List ℕ) → Ordered (cond b (ms ∷ []) [])
kept_ordered true ms = (λ k d below. absurd (omega arith), tt)
kept_ordered false ms = tt

module _ (fits : List ℕ → Bool) where
  -- an extension is the front with a unit of one of the types, and fits
  pub extension_member : (n : ℕ) (front x : List ℕ) → Contains (extensions fits n front) x → (m : ℕ) × (m < n) × (x ≡ front ++ m ∷ []) × (fits x ≡ true)
  extension_member zero front x h = absurd (contains_none x h)
  extension_member (suc n) front x h = elim (Contains-append_cases (extensions fits n front) (where_it_fits fits (front ++ n ∷ [])) x h) [
    | inl earlier ↦ let found = extension_member n front x earlier in (found.0, omega (arith, found.1), found.2, found.3)
    | inr last ↦
        let found = kept_member (fits (front ++ n ∷ [])) (front ++ n ∷ []) x last in
        (n, omega arith, sym found.0, subst (λ (w : List ℕ). fits w ≡ true) found.0 found.1)
  ]

  -- and each of these that fits is there
  pub extension_there : (n m : ℕ) (front : List ℕ) → m < n → fits (front ++ m ∷ []) ≡ true → Contains (extensions fits n front) (front ++ m ∷ [])
  extension_there zero m front below h = absurd (omega arith)
  extension_there (suc n) m front below h = elim (cases_eq m n) [
    | inl e ↦ Contains-append_right (extensions fits n front) (where_it_fits fits (front ++ n ∷ [])) (front ++ m ∷ [])
        (subst (λ (k : ℕ). Contains (where_it_fits fits (front ++ k ∷ [])) (front ++ m ∷ [])) e (kept_there (fits (front ++ m ∷ [])) (front ++ m ∷ []) h))
    | inr differs ↦ Contains-append_left (extensions fits n front) (where_it_fits fits (front ++ n ∷ [])) (front ++ m ∷ [])
        (extension_there n m front (omega (arith, differs)) h)
  ]

  pub extensions_ordered : (n : ℕ) (front : List ℕ) → Ordered (extensions fits n front)
  extensions_ordered zero front = tt
  extensions_ordered (suc n) front =
      Ordered-append (extensions fits n front) (where_it_fits fits (front ++ n ∷ [])) (extensions_ordered n front)
      (kept_ordered (fits (front ++ n ∷ [])) (front ++ n ∷ []))
      (λ x y h k.
      let earlier = extension_member n front x h in
      let last = kept_member (fits (front ++ n ∷ [])) (front ++ n ∷ []) y k in
      let before : comes_before (front ++ earlier.0 ∷ []) (front ++ n ∷ []) ≡ true = before_last front earlier.0 n earlier.1 in
      subst (λ (w : List ℕ). comes_before w y ≡ true) (sym earlier.2)
      (subst (λ (w : List ℕ). comes_before (front ++ earlier.0 ∷ []) w ≡ true) last.0 before))

  pub extensions_fit : (n : ℕ) (front : List ℕ) → All (λ ms. fits ms ≡ true) (extensions fits n front)
  extensions_fit n front = all_from_members (λ ms. fits ms ≡ true) (extensions fits n front) (λ x h. (extension_member n front x h).3)

  -- the list of what was found, when the first so many of it have been made longer by each of n types
  pub record Grown (n : ℕ) (list : List (List ℕ)) (at : ℕ) : Type 0 where
    pub is : list ≡ extensions fits n [] ++ flat_map (extensions fits n) (take at list)
    pub in_order : Ordered ([] ∷ list)

  pub grown_start : (n : ℕ) → Grown n (extensions fits n []) 0
  grown_start n = record {
    is = sym (append-nil (extensions fits n []));
    in_order = (
      all_from_members (λ ms. comes_before [] ms ≡ true) (extensions fits n [])
          (λ x h. let found = extension_member n [] x h in
          subst (λ (w : List ℕ). comes_before [] w ≡ true) (sym found.2) (before_shorter [] (found.0 ∷ []) (omega arith))),
      extensions_ordered n [],
    );
  }

  -- what was found is a front with a unit of one of the types, and fits
  grown_member : (n : ℕ) (list : List (List ℕ)) (at : ℕ) → Grown n list at → (x : List ℕ) → Contains list x
      → (front : List ℕ) × (m : ℕ) × Contains ([] ∷ take at list) front × (x ≡ front ++ m ∷ []) × (fits x ≡ true)
  grown_member n list at g x h =
      let inside : Contains (flat_map (extensions fits n) ([] ∷ take at list)) x = subst (λ (l : List (List ℕ)). Contains l x) g.is h in
      let found = flat_map_member (extensions fits n) ([] ∷ take at list) x inside in
      let made = extension_member n found.0 x found.2 in
      (found.0, made.0, found.1, made.2, made.3)

  pub grown_fit : (n : ℕ) (list : List (List ℕ)) (at : ℕ) → Grown n list at → All (λ ms. fits ms ≡ true) list
  grown_fit n list at g = all_from_members (λ ms. fits ms ≡ true) list (λ x h. (grown_member n list at g x h).4)

  -- the fronts of what was found come before the next one to be made longer
  front_before : (list : List (List ℕ)) (at : ℕ) → Ordered ([] ∷ list) → at < length list → (d front : List ℕ) → Contains ([] ∷ take at list) front → comes_before front (get_or list at d) ≡ true
  front_before list at in_order below d front h = elim (contains_cons [] (take at list) front h) [
    | inl e ↦ subst (λ (w : List ℕ). comes_before w (get_or list at d) ≡ true) e (in_order.0 at d below)
    | inr later ↦
        let earlier : later.0 < at = omega (arith, later.1, length-take at list) in
        let here : get_or list later.0 d ≡ front = get_or_default list later.0 d front (omega arith) ∙ sym (get_or-take at list later.0 front earlier) ∙ later.2 in
        subst (λ (w : List ℕ). comes_before w (get_or list at d) ≡ true) here
        (pairs-from_Ordered list in_order.1 later.0 at d earlier below)
  ]

  -- the list stays in order as the next one is made longer by some of the types
  pub grown_in_order : (n : ℕ) (list : List (List ℕ)) (at : ℕ) (next : List ℕ) → Grown n list at → at < length list → next ≡ get_or list at next → (k : ℕ) → Ordered ([] ∷ (list ++ extensions fits k next))
  grown_in_order n list at next g below is_next k =
      Ordered-append ([] ∷ list) (extensions fits k next) g.in_order (extensions_ordered k next)
      (λ x y h l.
      let made = extension_member k next y l in
      subst (λ (w : List ℕ). comes_before x w ≡ true) (sym made.2)
      (elim (contains_cons [] list x h) [
        | inl e ↦ subst (λ (w : List ℕ). comes_before w (next ++ made.0 ∷ []) ≡ true) e
            (before_shorter [] (next ++ made.0 ∷ []) (omega (arith, length-append next (made.0 ∷ []))))
        | inr found ↦
            let parent = grown_member n list at g x found in
            let first : comes_before parent.0 next ≡ true = subst (λ (w : List ℕ). comes_before parent.0 w ≡ true) (sym is_next) (front_before list at g.in_order below next parent.0 parent.2) in
            subst (λ (w : List ℕ). comes_before w (next ++ made.0 ∷ []) ≡ true) (sym parent.3)
            (before_push parent.0 next parent.1 made.0 first)
      ]))

  pub grown_more : (n : ℕ) (list : List (List ℕ)) (at : ℕ) (next : List ℕ) → Grown n list at → at < length list → next ≡ get_or list at next → Grown n (list ++ extensions fits n next) (at + 1)
  grown_more n list at next g below is_next =
      let E : List ℕ → List (List ℕ) = extensions fits n in
      let done : take (at + 1) (list ++ E next) ≡ take at list ++ next ∷ [] =
      take-append-le (at + 1) list (E next) (omega arith) ∙ take_more list at next below ∙ ap (λ (w : List ℕ). take at list ++ w ∷ []) (sym is_next) in
      let made : flat_map E (take (at + 1) (list ++ E next)) ≡ flat_map E (take at list) ++ E next =
      ap (flat_map E) done ∙ flat_map-append E (take at list) (next ∷ []) ∙ ap (λ (w : List (List ℕ)). flat_map E (take at list) ++ w) (append-nil (E next)) in
      record {
        is = ap (λ (w : List (List ℕ)). w ++ E next) g.is ∙ append_assoc (E []) (flat_map E (take at list)) (E next) ∙ ap (λ (w : List (List ℕ)). E [] ++ w) (sym made);
        in_order = grown_in_order n list at next g below is_next n;
      }
