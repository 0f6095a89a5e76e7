-- What the rule of a link says of the places that stay in a train, by the kind of the link.
use Rattle.std.proofs.Common.{◌≡◌, ℕ, ◌-◌, ◌≤◌, List, [], ◌∷◌, ◌++◌, length, take, drop, map, Bool, true, false, cond}
use Rattle.std.proofs.Common.{eqb, Option, Some, None, refl, sym, ap, ◌∙◌, subst, arith, ◌≢◌, ◌⊎◌, inl, inr}
use Rattle.std.specs.Prelude.{◌&&◌, nat_le, unwrap_or, is_some}
use Rattle.std.specs.List.{flat_map}
use Rattle.std.proofs.lemmas.Bool.{cases_eq, cond-true, cond-false, false≢true, and_parts, and_from, eq-eqb, ne_eqb}
use Rattle.std.proofs.lemmas.Bool.{leb-true, le-leb, lt-leb}
use Rattle.std.proofs.lemmas.List.{take-append-drop, length-map, append-nil, map-id}
use Rattle.std.proofs.Math.Seq.{take-append_seam, drop-append_seam}
use Rattle.std.proofs.lemmas.Slice.Eq.{bytes_eq-Decides}
use Rattle.rules.specs.declared.records.End.{End}
use Rattle.rules.specs.declared.records.LinkKind.{LinkKind}
use Rattle.rules.specs.declared.records.LinkKind.TheVariants.{Turn, Join, Split}
use Rattle.timetable.specs.Links.{list_of, itself, turned, turn_of, kind_holds, join_holds, split_holds, arriving_in}
use Rattle.timetable.specs.Links.{departing_in, kept_by, given_by, taken_by}
use Rattle.timetable.specs.Lists.{count_of, has}
use Rattle.timetable.specs.Turns.{Parts, same, may_stay, staying, beyond, fits_at, kept_length, kept_count, may_shunt}
use Rattle.timetable.specs.Turns.{turn_parts}
use Rattle.rules.proofs.Turning.{greatest-some, stays, turn_parts-some, turn_parts-is, parts_at-is}
use Rattle.timetable.proofs.Shares.{same_lists}
use Rattle.timetable.proofs.TypeRule.{turned-map}
use Rattle.inventory.specs.Places.{going_by, left_by, come_by, fetched_by}
use Rattle.inventory.proofs.Sums.{one, one_same, one_other}
use Rattle.inventory.proofs.Order.{in_list}

-- ---- a turn

-- the number that is kept, and the parts
pub record TurnIs (f : ℕ → ℕ) (uncouple couple : End) (exchange : Bool) (arriving departing from_types to_types : List ℕ) : Type 0 where
  pub number : kept_length uncouple couple from_types to_types ≡ Some (kept_count uncouple couple from_types to_types)
  pub parts : turn_of f uncouple couple exchange arriving departing ≡ record {
    kept = staying uncouple arriving (kept_count uncouple couple from_types to_types);
    given = beyond uncouple arriving (kept_count uncouple couple from_types to_types);
    taken = beyond couple departing (kept_count uncouple couple from_types to_types);
  }
  pub one : staying uncouple arriving (kept_count uncouple couple from_types to_types) ≡ staying couple departing (kept_count uncouple couple from_types to_types)
  pub few : may_shunt exchange (length arriving - kept_count uncouple couple from_types to_types) (length departing - kept_count uncouple couple from_types to_types) ≡ true
  pub within : kept_count uncouple couple from_types to_types ≤ length to_types

kept_within : (uncouple couple : End) (arriving departing : List ℕ) (n : ℕ) → kept_length uncouple couple arriving departing ≡ Some n → n ≤ length departing
unfolding kept_length
kept_within uncouple couple arriving departing n e =
    let found = greatest-some (fits_at uncouple couple arriving departing) (length arriving) n e in
    let outer = and_parts (may_stay uncouple (length arriving) n && may_stay couple (length departing) n) (same (staying uncouple arriving n) (staying couple departing n)) found.passes in
    (stays couple departing n (and_parts (may_stay uncouple (length arriving) n) (may_stay couple (length departing) n) outer.0).1).within

turn_is : (f : ℕ → ℕ) (uncouple couple : End) (exchange : Bool) (arriving departing from_types to_types : List ℕ) → map f arriving ≡ from_types → map f departing ≡ to_types
    → is_some (turn_parts f uncouple couple exchange arriving departing) ≡ true → TurnIs f uncouple couple exchange arriving departing from_types to_types
turn_is f uncouple couple exchange arriving departing from_types to_types from_are to_are holds = on (turn_parts f uncouple couple exchange arriving departing) refl holds
  where
    on : (o : Option Parts) → turn_parts f uncouple couple exchange arriving departing ≡ o → is_some o ≡ true → TurnIs f uncouple couple exchange arriving departing from_types to_types
    on None is h = absurd (false≢true h)
    on (Some parts) is h =
        let of = turn_parts-some f uncouple couple exchange arriving departing parts is in
        let number : kept_length uncouple couple from_types to_types ≡ Some of.number =
        ap (λ (xs : List ℕ). kept_length uncouple couple xs to_types) (sym from_are) ∙ ap (λ (xs : List ℕ). kept_length uncouple couple (map f arriving) xs) (sym to_are) ∙ of.kept in
        let count : of.number ≡ kept_count uncouple couple from_types to_types = sym (ap (λ (o : Option ℕ). unwrap_or o 0) number) in
        let at_number = of.parts_at in
        record {
          number = number ∙ ap (λ (n : ℕ). Some n) count;
          parts = ap (λ (o : Option Parts). unwrap_or o (record { kept = []; given = arriving; taken = departing })) is ∙ at_number.are
              ∙ ap (λ (n : ℕ). record { kept = staying uncouple arriving n; given = beyond uncouple arriving n; taken = beyond couple departing n }) count;
          one = subst (λ n. staying uncouple arriving n ≡ staying couple departing n) count at_number.one;
          few = subst (λ n. may_shunt exchange (length arriving - n) (length departing - n) ≡ true) count at_number.few;
          within = kept_within uncouple couple from_types to_types (kept_count uncouple couple from_types to_types) (number ∙ ap (λ (n : ℕ). Some n) count);
        }

turn_holds : (f : ℕ → ℕ) (uncouple couple : End) (exchange : Bool) (arriving departing from_types to_types : List ℕ) (n : ℕ) → map f arriving ≡ from_types → map f departing ≡ to_types
    → kept_length uncouple couple from_types to_types ≡ Some n → staying uncouple arriving n ≡ staying couple departing n → may_shunt exchange (length from_types - n) (length to_types - n) ≡ true
    → is_some (turn_parts f uncouple couple exchange arriving departing) ≡ true
turn_holds f uncouple couple exchange arriving departing from_types to_types n from_are to_are number one few =
    let long : length from_types ≡ length arriving = ap length (sym from_are) ∙ length-map arriving f in
    let long' : length to_types ≡ length departing = ap length (sym to_are) ∙ length-map departing f in
    ap is_some (turn_parts-is f uncouple couple exchange arriving departing n
    (ap (λ (xs : List ℕ). kept_length uncouple couple xs (map f departing)) from_are ∙ ap (λ (xs : List ℕ). kept_length uncouple couple from_types xs) to_are ∙ number))
    ∙ ap is_some (parts_at-is uncouple couple exchange arriving departing n one
    (subst (λ k. may_shunt exchange (k - n) (length departing - n) ≡ true) long (subst (λ k. may_shunt exchange (length from_types - n) (k - n) ≡ true) long' few)))

-- ---- names of one trip

pub same_alone : (x y : ℕ) → 1 ≤ count_of x (y ∷ []) → y ≡ x
same_alone x y c = elim (in_list x y [] c) [ inl e ↦ e | inr nowhere ↦ absurd (omega arith) ]

same_of_two : (x y z : ℕ) → 1 ≤ count_of x (y ∷ z ∷ []) → (y ≡ x) ⊎ (z ≡ x)
same_of_two x y z c = elim (in_list x y (z ∷ []) c) [ inl e ↦ inl e | inr later ↦ inr (same_alone x z later) ]

joined : (first second departing : List ℕ) → join_holds first second departing ≡ true → departing ≡ first ++ second
unfolding join_holds
joined first second departing h = sym (same_lists (first ++ second) departing h)

join_come : (first second departing : List ℕ) (here : Bool) → here ≡ true → departing ≡ first ++ second → departing ≡ cond here first [] ++ (cond here second [] ++ [])
join_come first second departing true is h = h ∙ ap (λ (l : List ℕ). first ++ l) (sym (append-nil second))
join_come first second departing false is h = absurd (false≢true is)

come_join : (first second departing : List ℕ) (here : Bool) → here ≡ true → departing ≡ cond here first [] ++ (cond here second [] ++ []) → departing ≡ first ++ second
come_join first second departing true is h = h ∙ ap (λ (l : List ℕ). first ++ l) (append-nil second)
come_join first second departing false is h = absurd (false≢true is)

join_back : (first second departing : List ℕ) → departing ≡ first ++ second → join_holds first second departing ≡ true
unfolding join_holds
join_back first second departing e = (bytes_eq-Decides (first ++ second) departing).1 (sym e)

split_some : (arriving first second : List ℕ) → split_holds arriving first second ≡ true → (1 ≤ length first) × (1 ≤ length second)
unfolding split_holds
split_some arriving first second holds =
    let outer = and_parts (same arriving (first ++ second) && nat_le 1 (length first)) (nat_le 1 (length second)) holds in
    let inner = and_parts (same arriving (first ++ second)) (nat_le 1 (length first)) outer.0 in
    (leb-true 1 (length first) inner.1, leb-true 1 (length second) outer.1)

split_back : (arriving first second : List ℕ) (n : ℕ) → first ≡ take n arriving → second ≡ drop n arriving → 1 ≤ length first → 1 ≤ length second → split_holds arriving first second ≡ true
unfolding split_holds
split_back arriving first second n e e' some some' =
    let whole : arriving ≡ first ++ second = sym (take-append-drop n arriving) ∙ ap (λ (l : List ℕ). l ++ drop n arriving) (sym e) ∙ ap (λ (l : List ℕ). first ++ l) (sym e') in
    and_from _ _ (and_from _ _ ((bytes_eq-Decides arriving (first ++ second)).1 whole) (le-leb 1 (length first) some)) (le-leb 1 (length second) some')

-- ---- from the rule: what is kept, given and taken is read off the types too

module _ (f : ℕ → ℕ) (types plan : List (List ℕ)) (types_are : (t : ℕ) → map f (list_of plan t) ≡ list_of types t) where
  turned_types : (r : Bool) (a : ℕ) → map f (turned r (list_of plan a)) ≡ turned r (list_of types a)
  turned_types r a = sym (turned-map f r (list_of plan a)) ∙ ap (turned r) (types_are a)

  turn_at : (a y : ℕ) (uncouple couple : End) (exchange r : Bool) → kind_holds f (Turn a y uncouple couple exchange) r plan ≡ true
      → TurnIs f uncouple couple exchange (turned r (list_of plan a)) (list_of plan y) (turned r (list_of types a)) (list_of types y)
  turn_at a y uncouple couple exchange r holds =
      turn_is f uncouple couple exchange (turned r (list_of plan a)) (list_of plan y) (turned r (list_of types a)) (list_of types y) (turned_types r a) (types_are y) holds

  pub kind_given : (kind : LinkKind) (r : Bool) (a : ℕ) → kind_holds f kind r plan ≡ true → 1 ≤ count_of a (arriving_in kind) → given_by f kind r plan ≡ left_by kind r types (list_of plan a)
  kind_given (Turn x y uncouple couple exchange) r a holds named =
      ap (λ (p : Parts). p.given) (turn_at x y uncouple couple exchange r holds).parts
      ∙ ap (λ (t : ℕ). beyond uncouple (turned r (list_of plan t)) (kept_count uncouple couple (turned r (list_of types x)) (list_of types y))) (same_alone a x named)
  kind_given (Join x1 x2 y) r a holds named = refl
  kind_given (Split x y1 y2) r a holds named = refl

  pub kind_taken : (kind : LinkKind) (r : Bool) (b : ℕ) → kind_holds f kind r plan ≡ true → 1 ≤ count_of b (departing_in kind) → taken_by f kind r plan ≡ fetched_by kind r types (list_of plan b)
  kind_taken (Turn x y uncouple couple exchange) r b holds named =
      ap (λ (p : Parts). p.taken) (turn_at x y uncouple couple exchange r holds).parts
      ∙ ap (λ (t : ℕ). beyond couple (list_of plan t) (kept_count uncouple couple (turned r (list_of types x)) (list_of types y))) (same_alone b y named)
  kind_taken (Join x1 x2 y) r b holds named = refl
  kind_taken (Split x y1 y2) r b holds named = refl

  split_lists : (x y1 y2 : ℕ) (r : Bool) → split_holds (turned r (list_of plan x)) (list_of plan y1) (list_of plan y2) ≡ true
      → (take (length (list_of types y1)) (turned r (list_of plan x)) ≡ list_of plan y1) × (drop (length (list_of types y1)) (turned r (list_of plan x)) ≡ list_of plan y2)
  unfolding split_holds
  split_lists x y1 y2 r holds =
      let whole = same_lists (turned r (list_of plan x)) (list_of plan y1 ++ list_of plan y2) (and_parts _ _ (and_parts _ _ holds).0).0 in
      let long : length (list_of types y1) ≡ length (list_of plan y1) = ap length (sym (types_are y1)) ∙ length-map (list_of plan y1) f in (
        ap (λ (n : ℕ). take n (turned r (list_of plan x))) long ∙ ap (take (length (list_of plan y1))) whole ∙ take-append_seam (list_of plan y1) (list_of plan y2),
        ap (λ (n : ℕ). drop n (turned r (list_of plan x))) long ∙ ap (drop (length (list_of plan y1))) whole ∙ drop-append_seam (list_of plan y1) (list_of plan y2),
      )

  pub kind_kept : (kind : LinkKind) (r : Bool) (a b : ℕ) → kind_holds f kind r plan ≡ true → 1 ≤ count_of a (arriving_in kind)
      → kept_by f kind r plan a b ≡ going_by kind r types b (list_of plan a)
  kind_kept (Turn x y uncouple couple exchange) r a b holds named =
      let here : eqb a x ≡ true = eq-eqb a x (sym (same_alone a x named)) in
      ap (λ (t : Bool). cond (t && eqb b y) (turn_of f uncouple couple exchange (turned r (list_of plan x)) (list_of plan y)).kept []) here
      ∙ ap (λ (p : Parts). cond (eqb b y) p.kept []) (turn_at x y uncouple couple exchange r holds).parts
      ∙ ap (λ (t : ℕ). cond (eqb b y) (staying uncouple (turned r (list_of plan t)) (kept_count uncouple couple (turned r (list_of types x)) (list_of types y))) []) (same_alone a x named)
  kind_kept (Join x1 x2 y) r a b holds named =
      ap (λ (t : Bool). cond (t && eqb b y) (turned r (list_of plan a)) []) (le-leb 1 (count_of a (x1 ∷ x2 ∷ [])) named)
  kind_kept (Split x y1 y2) r a b holds named =
      let here : eqb a x ≡ true = eq-eqb a x (sym (same_alone a x named)) in
      let lists = split_lists x y1 y2 r holds in
      ap (λ (t : Bool). cond (t && has b (y1 ∷ y2 ∷ [])) (list_of plan b) []) here
      ∙ on (cases_eq b y1) (cases_eq b y2) lists.0 lists.1
      ∙ ap (λ (t : ℕ). going_by (Split x y1 y2) r types b (list_of plan t)) (same_alone a x named)
    where
      on : (b ≡ y1) ⊎ (b ≡ y1 → ⊥) → (b ≡ y2) ⊎ (b ≡ y2 → ⊥)
          → take (length (list_of types y1)) (turned r (list_of plan x)) ≡ list_of plan y1 → drop (length (list_of types y1)) (turned r (list_of plan x)) ≡ list_of plan y2
          → cond (has b (y1 ∷ y2 ∷ [])) (list_of plan b) [] ≡ going_by (Split x y1 y2) r types b (list_of plan x)
      on (inl e) second first_is second_is =
          let o = one_same y1 b (sym e) in
          cond-true (has b (y1 ∷ y2 ∷ [])) (list_of plan b) [] (le-leb 1 (count_of b (y1 ∷ y2 ∷ [])) (omega arith)) ∙ ap (list_of plan) e ∙ sym first_is
          ∙ sym (cond-true (eqb b y1) _ _ (eq-eqb b y1 e))
      on (inr ne) (inl e) first_is second_is =
          let o = one_same y2 b (sym e) in
          cond-true (has b (y1 ∷ y2 ∷ [])) (list_of plan b) [] (le-leb 1 (count_of b (y1 ∷ y2 ∷ [])) (omega arith)) ∙ ap (list_of plan) e ∙ sym second_is
          ∙ sym (cond-false (eqb b y1) _ _ (ne_eqb b y1 ne) ∙ cond-true (eqb b y2) _ _ (eq-eqb b y2 e))
      on (inr ne) (inr ne') first_is second_is =
          let o = one_other y1 b (λ e. ne (sym e)) in
          let o' = one_other y2 b (λ e. ne' (sym e)) in
          cond-false (has b (y1 ∷ y2 ∷ [])) (list_of plan b) [] (lt-leb 1 (count_of b (y1 ∷ y2 ∷ [])) (omega arith))
          ∙ sym (cond-false (eqb b y1) _ _ (ne_eqb b y1 ne) ∙ cond-false (eqb b y2) _ _ (ne_eqb b y2 ne'))

  -- what came with the trains is what goes on in them
  pub kind_come : (kind : LinkKind) (r : Bool) (b : ℕ) → kind_holds f kind r plan ≡ true → ((t : ℕ) → count_of t (departing_in kind) ≤ 1) → 1 ≤ count_of b (departing_in kind)
      → come_by kind r types (list_of plan b) ≡ flat_map (λ a. going_by kind r types b (list_of plan a)) (arriving_in kind)
  kind_come (Turn x y uncouple couple exchange) r b holds once named =
      let is = same_alone b y named in
      subst (λ t. staying couple (list_of plan t) (kept_count uncouple couple (turned r (list_of types x)) (list_of types y))
      ≡ cond (eqb t y) (staying uncouple (turned r (list_of plan x)) (kept_count uncouple couple (turned r (list_of types x)) (list_of types y))) [] ++ []) is
      (sym (turn_at x y uncouple couple exchange r holds).one ∙ sym (append-nil _ ∙ cond-true (eqb y y) _ [] (eq-eqb y y refl)))
  kind_come (Join x1 x2 y) r b holds once named =
      let is = same_alone b y named in
      subst (λ t. list_of plan t ≡ cond (eqb t y) (turned r (list_of plan x1)) [] ++ (cond (eqb t y) (turned r (list_of plan x2)) [] ++ [])) is
      (join_come (turned r (list_of plan x1)) (turned r (list_of plan x2)) (list_of plan y) (eqb y y) (eq-eqb y y refl)
      (joined (turned r (list_of plan x1)) (turned r (list_of plan x2)) (list_of plan y) holds))
  kind_come (Split x y1 y2) r b holds once named =
      let lists = split_lists x y1 y2 r holds in
      on (cases_eq b y1) (same_of_two b y1 y2 named) lists.0 lists.1 ∙ sym (append-nil (going_by (Split x y1 y2) r types b (list_of plan x)))
    where
      on : (b ≡ y1) ⊎ (b ≡ y1 → ⊥) → (y1 ≡ b) ⊎ (y2 ≡ b)
          → take (length (list_of types y1)) (turned r (list_of plan x)) ≡ list_of plan y1 → drop (length (list_of types y1)) (turned r (list_of plan x)) ≡ list_of plan y2
          → list_of plan b ≡ going_by (Split x y1 y2) r types b (list_of plan x)
      on (inl e) either first_is second_is = ap (list_of plan) e ∙ sym first_is ∙ sym (cond-true (eqb b y1) _ _ (eq-eqb b y1 e))
      on (inr ne) (inl e) first_is second_is = absurd (ne (sym e))
      on (inr ne) (inr e) first_is second_is =
          ap (list_of plan) (sym e) ∙ sym second_is ∙ sym (cond-false (eqb b y1) _ _ (ne_eqb b y1 ne) ∙ cond-true (eqb b y2) _ _ (eq-eqb b y2 (sym e)))

  -- ---- and back: where what came is what goes on, the rule on types is the rule on units

  pub kind_back : (kind : LinkKind) (r : Bool) → kind_holds itself kind r types ≡ true
      → ((b : ℕ) → 1 ≤ count_of b (departing_in kind) → come_by kind r types (list_of plan b) ≡ flat_map (λ a. going_by kind r types b (list_of plan a)) (arriving_in kind))
      → ((t : ℕ) → count_of t (departing_in kind) ≤ 1) → kind_holds f kind r plan ≡ true
  kind_back (Turn x y uncouple couple exchange) r holds come once =
      let of_types = turn_is itself uncouple couple exchange (turned r (list_of types x)) (list_of types y) (turned r (list_of types x)) (list_of types y) (map-id (turned r (list_of types x))) (map-id (list_of types y)) holds in
      let here = come y (let o = one_same y y refl in omega arith) in
      turn_holds f uncouple couple exchange (turned r (list_of plan x)) (list_of plan y) (turned r (list_of types x)) (list_of types y)
      (kept_count uncouple couple (turned r (list_of types x)) (list_of types y)) (turned_types r x) (types_are y) of_types.number
      (sym (here ∙ append-nil _ ∙ cond-true (eqb y y) _ [] (eq-eqb y y refl))) of_types.few
  kind_back (Join x1 x2 y) r holds come once =
      join_back (turned r (list_of plan x1)) (turned r (list_of plan x2)) (list_of plan y)
      (come_join (turned r (list_of plan x1)) (turned r (list_of plan x2)) (list_of plan y) (eqb y y) (eq-eqb y y refl) (come y (let o = one_same y y refl in omega arith)))
  kind_back (Split x y1 y2) r holds come once =
      let o = one_same y1 y1 refl in
      let o' = one_same y2 y2 refl in
      let ne : y2 ≢ y1 = λ e. (let o'' = one_same y2 y1 e in let few = once y1 in absurd (omega arith)) in
      let first = come y1 (omega arith) ∙ append-nil _ ∙ cond-true (eqb y1 y1) _ _ (eq-eqb y1 y1 refl) in
      let second = come y2 (omega arith) ∙ append-nil _ ∙ cond-false (eqb y2 y1) _ _ (ne_eqb y2 y1 ne) ∙ cond-true (eqb y2 y2) _ _ (eq-eqb y2 y2 refl) in
      let long : length (list_of types y1) ≡ length (list_of plan y1) = ap length (sym (types_are y1)) ∙ length-map (list_of plan y1) f in
      let long' : length (list_of types y2) ≡ length (list_of plan y2) = ap length (sym (types_are y2)) ∙ length-map (list_of plan y2) f in
      let some = split_some (turned r (list_of types x)) (list_of types y1) (list_of types y2) holds in
      let some_first = some.0 in
      let some_second = some.1 in
      split_back (turned r (list_of plan x)) (list_of plan y1) (list_of plan y2) (length (list_of types y1)) first second (omega arith) (omega arith)

-- a turn keeps no more than its departing list has
pub kind_within : (types : List (List ℕ)) (kind : LinkKind) (r : Bool) (b x y : ℕ) (uncouple couple : End) (exchange : Bool) → kind_holds itself kind r types ≡ true → 1 ≤ count_of b (departing_in kind)
    → kind ≡ Turn x y uncouple couple exchange → kept_count uncouple couple (turned r (list_of types x)) (list_of types y) ≤ length (list_of types b)
kind_within types kind r b x y uncouple couple exchange holds named e =
    let holds' : kind_holds itself (Turn x y uncouple couple exchange) r types ≡ true = subst (λ k. kind_holds itself k r types ≡ true) e holds in
    let named' : 1 ≤ count_of b (departing_in (Turn x y uncouple couple exchange)) = subst (λ k. 1 ≤ count_of b (departing_in k)) e named in
    let is : TurnIs itself uncouple couple exchange (turned r (list_of types x)) (list_of types y) (turned r (list_of types x)) (list_of types y) =
    turn_is itself uncouple couple exchange (turned r (list_of types x)) (list_of types y) (turned r (list_of types x)) (list_of types y) (map-id (turned r (list_of types x))) (map-id (list_of types y)) holds' in
    subst (λ t. kept_count uncouple couple (turned r (list_of types x)) (list_of types y) ≤ length (list_of types t)) (same_alone b y named') is.within
