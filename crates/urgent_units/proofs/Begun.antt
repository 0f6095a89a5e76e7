-- Where the leg began that a unit is on: the first trip of its run. It is the trip itself where the unit was taken from
-- the yard for it, and that of the trip that it was kept from else.
use Rattle.std.proofs.Common.{◌≡◌, ℕ, zero, suc, ◌+◌, ◌≤◌, ◌<◌, Bool, true, false, List, [], ◌∷◌, length, refl, sym, ap, ◌∙◌, subst, arith, inl, inr, ◌⊎◌, ◌≢◌, get_or}
use Rattle.std.specs.Prelude.{if◌then◌else◌, ◌==◌}
use Rattle.std.proofs.lemmas.Bool.{cases_Bool, cases_eq, cond-true, cond-false, eq-eqb, eqb-true}
use Rattle.timetable.specs.Lists.{count_of}
use Rattle.timetable.proofs.Ones.{one_same, one_other}
use Rattle.urgent_units.specs.Runs.{runs_of, with_trip, first_of, last_trip_of, last_from}
use Rattle.urgent_units.proofs.ListSums.{over, over_same}

-- ---- sums over runs, trip by trip

-- where a run began with trip f and has come to trip p: what g gives of the first and the last trip of each run
abbrev pub runs_sum : (ℕ → ℕ → Bool) → (ℕ → ℕ → ℕ) → ℕ → ℕ → List ℕ → ℕ
runs_sum goes g f p [] = g f p
runs_sum goes g f p (b ∷ ts) = if goes p b then runs_sum goes g f b ts else g f p + runs_sum goes g b b ts

-- the same of whole runs
abbrev pub of_runs : (ℕ → ℕ → ℕ) → List (List ℕ) → ℕ
of_runs g runs = over (λ run. g (first_of run) (last_trip_of run)) runs

pub record Summed (goes : ℕ → ℕ → Bool) (g : ℕ → ℕ → ℕ) (t : ℕ) (ts : List ℕ) : Type 0 where
  pub more : List ℕ
  pub others : List (List ℕ)
  pub is : runs_of goes (t ∷ ts) ≡ (t ∷ more) ∷ others
  pub sums : (f : ℕ) → runs_sum goes g f t ts ≡ g f (last_from t more) + of_runs g others

pub summed : (goes : ℕ → ℕ → Bool) (g : ℕ → ℕ → ℕ) (t : ℕ) (ts : List ℕ) → Summed goes g t ts
summed goes g t [] = record { more = []; others = []; is = refl; sums = λ f. omega arith }
summed goes g t (b ∷ ts) =
    let rest = summed goes g b ts in
    let runs = ap (with_trip goes t) rest.is in
    elim (cases_Bool (goes t b)) [
      | inl goes_on ↦ record {
        more = b ∷ rest.more;
        others = rest.others;
        is = runs ∙ cond-true (goes t b) ((t ∷ b ∷ rest.more) ∷ rest.others) ((t ∷ []) ∷ (b ∷ rest.more) ∷ rest.others) goes_on;
        sums = λ f. cond-true (goes t b) (runs_sum goes g f b ts) (g f t + runs_sum goes g b b ts) goes_on ∙ rest.sums f;
      }
      | inr ends ↦ record {
        more = [];
        others = (b ∷ rest.more) ∷ rest.others;
        is = runs ∙ cond-false (goes t b) ((t ∷ b ∷ rest.more) ∷ rest.others) ((t ∷ []) ∷ (b ∷ rest.more) ∷ rest.others) ends;
        sums = λ f. cond-false (goes t b) (runs_sum goes g f b ts) (g f t + runs_sum goes g b b ts) ends ∙ omega (arith, rest.sums b);
      }
    ]

pub sum_of_runs : (goes : ℕ → ℕ → Bool) (g : ℕ → ℕ → ℕ) (t : ℕ) (ts : List ℕ) → of_runs g (runs_of goes (t ∷ ts)) ≡ runs_sum goes g t t ts
sum_of_runs goes g t ts = let s = summed goes g t ts in ap (of_runs g) s.is ∙ sym (s.sums t)

-- ---- where the run of a trip began

-- of trip x among these, where the run of the first of them began with trip f
abbrev pub begun_in : (ℕ → ℕ → Bool) → ℕ → ℕ → List ℕ → ℕ → ℕ
begun_in goes f p [] x = f
begun_in goes f p (b ∷ ts) x = if p == x then f else begun_in goes (if goes p b then f else b) b ts x

abbrev pub begun : (ℕ → ℕ → Bool) → List ℕ → ℕ → ℕ
begun goes [] x = x
begun goes (t ∷ ts) x = begun_in goes t t ts x

begun_here : (goes : ℕ → ℕ → Bool) (f p : ℕ) (ts : List ℕ) → begun_in goes f p ts p ≡ f
begun_here goes f p [] = refl
begun_here goes f p (b ∷ ts) = cond-true (p == p) f (begun_in goes (if goes p b then f else b) b ts p) (eq-eqb p p refl)

begun_later : (goes : ℕ → ℕ → Bool) (f p b : ℕ) (ts : List ℕ) (x : ℕ) → p ≢ x → begun_in goes f p (b ∷ ts) x ≡ begun_in goes (if goes p b then f else b) b ts x
begun_later goes f p b ts x differs = cond-false (p == x) f (begun_in goes (if goes p b then f else b) b ts x) (not_same p x differs)
  where
    not_same : (p x : ℕ) → p ≢ x → (p == x) ≡ false
    not_same p x differs = elim (cases_Bool (p == x)) [
      | inl is ↦ absurd (differs (eqb-true p x is))
      | inr isnt ↦ isnt
    ]

-- ---- along a duty

-- What is known of a unit's trips from one of them on: which of them keep it into which, which take it and which give it.
pub record Along (goes : ℕ → ℕ → Bool) (keeps : ℕ → ℕ → Type 0) (takes gives : ℕ → Type 0) (p : ℕ) (ts : List ℕ) : Type 0 where
  -- none is there twice
  pub once : (x : ℕ) → count_of x (p ∷ ts) ≤ 1
  -- it goes on where it is kept
  pub goes_on : (a b : ℕ) → goes a b ≡ true → keeps a b
  -- what keeps it doesn't give it, nor does what it is kept into take it
  pub kept_not_given : (a b : ℕ) → keeps a b → gives a → ⊥
  pub kept_not_taken : (a b : ℕ) → keeps a b → takes b → ⊥
  -- it is kept into one trip alone
  pub one_way : (a b c : ℕ) → keeps a b → keeps a c → b ≡ c

-- each trip but the last goes on to the next, or gives it; the last gives it
abbrev pub Ends : (ℕ → ℕ → Bool) → (ℕ → Type 0) → ℕ → List ℕ → Type 0
Ends goes gives p [] = gives p
Ends goes gives p (b ∷ ts) = ((goes p b ≡ true) ⊎ gives p) × Ends goes gives b ts

module _ (goes : ℕ → ℕ → Bool) (keeps : ℕ → ℕ → Type 0) (takes gives : ℕ → Type 0) where
  tail_along : (p b : ℕ) (ts : List ℕ) → Along goes keeps takes gives p (b ∷ ts) → Along goes keeps takes gives b ts
  tail_along p b ts along = record {
    once = λ x. (let few = along.once x in omega (arith, few));
    goes_on = along.goes_on;
    kept_not_given = along.kept_not_given;
    kept_not_taken = along.kept_not_taken;
    one_way = along.one_way;
  }

  -- what keeps the unit into a trip goes on to it, and began where it did
  pub kept_began : (ts : List ℕ) (p f : ℕ) → Along goes keeps takes gives p ts → Ends goes gives p ts → (a x : ℕ) → 1 ≤ count_of a (p ∷ ts) → keeps a x
      → (1 ≤ count_of x ts) × (begun_in goes f p ts x ≡ begun_in goes f p ts a)
  kept_began [] p f along ends a x there kept = elim (cases_eq p a) [
    | inl is ↦ absurd (along.kept_not_given a x kept (subst gives is ends))
    | inr differs ↦ absurd (omega (arith, there, one_other p a differs))
  ]
  kept_began (b ∷ ts) p f along ends a x there kept = elim (cases_eq p a) [
    | inl is ↦ elim ends.0 [
      | inl goes_on ↦
          let same : b ≡ x = along.one_way p b x (along.goes_on p b goes_on) (subst (λ (t : ℕ). keeps t x) (sym is) kept) in
          let here = one_same b x same in
          let few = along.once x in
          let apart : p ≢ x = λ e. (let two = one_same p x e in absurd (omega (arith, here, few, two))) in
          let began = begun_later goes f p b ts x apart ∙ ap (λ (k : ℕ). begun_in goes k b ts x) (cond-true (goes p b) f b goes_on) ∙ ap (λ (t : ℕ). begun_in goes f b ts t) (sym same) ∙ begun_here goes f b ts in
          (omega (arith, here), began ∙ sym (begun_here goes f p (b ∷ ts)) ∙ ap (λ (t : ℕ). begun_in goes f p (b ∷ ts) t) is)
      | inr given ↦ absurd (along.kept_not_given a x kept (subst gives is given))
    ]
    | inr differs ↦
        let other = one_other p a differs in
        let rest = kept_began ts b (if goes p b then f else b) (tail_along p b ts along) ends.1 a x (omega (arith, there, other)) kept in
        let few = along.once x in
        let apart : p ≢ x = λ e. (let two = one_same p x e in absurd (omega (arith, rest.0, few, two))) in
        (omega (arith, rest.0), begun_later goes f p b ts x apart ∙ rest.1 ∙ sym (begun_later goes f p b ts a differs))
  ]

  -- a trip that takes the unit begins a run
  pub taken_begins : (ts : List ℕ) (p f : ℕ) → Along goes keeps takes gives p ts → (takes p → f ≡ p) → (x : ℕ) → 1 ≤ count_of x (p ∷ ts) → takes x → begun_in goes f p ts x ≡ x
  taken_begins [] p f along begins x there taken = elim (cases_eq p x) [
    | inl is ↦ begins (subst takes (sym is) taken) ∙ is
    | inr differs ↦ absurd (omega (arith, there, one_other p x differs))
  ]
  taken_begins (b ∷ ts) p f along begins x there taken = elim (cases_eq p x) [
    | inl is ↦ sym (ap (λ (t : ℕ). begun_in goes f p (b ∷ ts) t) is) ∙ begun_here goes f p (b ∷ ts) ∙ begins (subst takes (sym is) taken) ∙ is
    | inr differs ↦
        let other = one_other p x differs in
        let first : takes b → (if goes p b then f else b) ≡ b = λ t. elim (cases_Bool (goes p b)) [
          | inl goes_on ↦ absurd (along.kept_not_taken p b (along.goes_on p b goes_on) t)
          | inr ends ↦ cond-false (goes p b) f b ends
        ] in
        begun_later goes f p b ts x differs ∙ taken_begins ts b (if goes p b then f else b) (tail_along p b ts along) first x (omega (arith, there, other)) taken
  ]

  -- ---- what runs come to, trip by trip

  -- of the trips that give the unit
  pub sum_of_given : (out : ℕ → Bool) → ((x : ℕ) → gives x → out x ≡ true) → ((x : ℕ) → out x ≡ true → gives x) → (g : ℕ → ℕ → ℕ) (ts : List ℕ) (p f : ℕ)
      → Along goes keeps takes gives p ts → Ends goes gives p ts → runs_sum goes g f p ts ≡ over (λ x. if out x then g (begun_in goes f p ts x) x else 0) (p ∷ ts)
  sum_of_given out there back g [] p f along ends = omega (arith, cond-true {A = ℕ} (out p) (g f p) 0 (there p ends))
  sum_of_given out there back g (b ∷ ts) p f along ends =
      let rest : (k : ℕ) → (if goes p b then f else b) ≡ k → over (λ x. if out x then g (begun_in goes f p (b ∷ ts) x) x else 0) (b ∷ ts) ≡ over (λ x. if out x then g (begun_in goes k b ts x) x else 0) (b ∷ ts) =
      λ k is. over_same (λ x. if out x then g (begun_in goes f p (b ∷ ts) x) x else 0) (λ x. if out x then g (begun_in goes k b ts x) x else 0) (b ∷ ts)
      (λ i d below.
      let x = get_or (b ∷ ts) i d in
      let in_it = among (b ∷ ts) i d below in
      let few = along.once x in
      let apart : p ≢ x = λ e. (let two = one_same p x e in absurd (omega (arith, in_it, few, two))) in
      ap (λ (n : ℕ). if out x then g n x else 0) (begun_later goes f p b ts x apart ∙ ap (λ (j : ℕ). begun_in goes j b ts x) is)) in
      elim ends.0 [
        | inl goes_on ↦
            let none : out p ≡ false = refuted (out p) (λ h. along.kept_not_given p b (along.goes_on p b goes_on) (back p h)) in
            let zero = cond-false {A = ℕ} (out p) (g (begun_in goes f p (b ∷ ts) p) p) 0 none in
            let later = sum_of_given out there back g ts b f (tail_along p b ts along) ends.1 in
            cond-true (goes p b) (runs_sum goes g f b ts) (g f p + runs_sum goes g b b ts) goes_on
            ∙ omega (arith, zero, later, rest f (cond-true (goes p b) f b goes_on))
        | inr given ↦
            let not_on : goes p b ≡ false = refuted (goes p b) (λ h. along.kept_not_given p b (along.goes_on p b h) given) in
            let here = cond-true {A = ℕ} (out p) (g (begun_in goes f p (b ∷ ts) p) p) 0 (there p given) in
            let first = ap (λ (n : ℕ). g n p) (begun_here goes f p (b ∷ ts)) in
            let later = sum_of_given out there back g ts b b (tail_along p b ts along) ends.1 in
            cond-false (goes p b) (runs_sum goes g f b ts) (g f p + runs_sum goes g b b ts) not_on
            ∙ omega (arith, here, first, later, rest b (cond-false (goes p b) f b not_on))
      ]
    where
      refuted : (b : Bool) → (b ≡ true → ⊥) → b ≡ false
      refuted true h = absurd (h refl)
      refuted false h = refl

      among : (xs : List ℕ) (i d : ℕ) → i < length xs → 1 ≤ count_of (get_or xs i d) xs
      among [] i d below = absurd (omega (arith, below))
      among (x ∷ xs) zero d below = (let here = one_same x x refl in omega (arith, here))
      among (x ∷ xs) (suc i) d below = (let later : 1 ≤ count_of (get_or xs i d) xs = among xs i d (omega (arith, below)) in omega (arith, later))
