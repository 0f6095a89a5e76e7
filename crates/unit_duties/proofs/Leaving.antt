-- Units that no longer wait.
use Rattle.std.proofs.Common.{◌≡◌, ℕ, List, [], ◌∷◌, Bool, true, false, sym, ap, ◌∙◌, subst, arith, inl, inr}
use Rattle.std.specs.Prelude.{filter, not, ◌==◌}
use Rattle.std.specs.BTreeSet.{BTreeSet}
use Rattle.std.specs.List.{Contains, list_any}
use Rattle.std.proofs.lemmas.Bool.{cases_Bool, cond-true, cond-false, false≢true, leb-false, lt-leb}
use Rattle.std.proofs.lemmas.List.Elements.{Contains-append_cases, Contains-append_left, Contains-append_right}
use Rattle.std.proofs.lemmas.List.Elements.{Contains-push_cases}
use Rattle.timetable.specs.Lists.{count_of, has}
use Rattle.timetable.proofs.ListedUnits.{list_any-has}
use Rattle.unit_duties.specs.declared.yards.Waiting.{Waiting}
use Rattle.unit_duties.specs.Yards.{AreLeft}

-- ---- what passes a test

alone : {X : Type 0} (y x : X) → Contains (y ∷ []) x → y ≡ x
alone y x there = elim (Contains-push_cases [] y x there) [
  | inl none ↦ absurd (let no = none.1 in omega arith)
  | inr is ↦ is
]

filter_has : {X : Type 0} (p : X → Bool) (xs : List X) (x : X) → Contains (filter p xs) x → Contains xs x × (p x ≡ true)
filter_has p [] x there = absurd (let no = there.1 in omega arith)
filter_has {X} p (y ∷ ys) x there = elim (cases_Bool (p y)) [
  | inl passes ↦
      let listed : Contains (y ∷ filter p ys) x = subst (λ (zs : List X). Contains zs x) (cond-true (p y) (y ∷ filter p ys) (filter p ys) passes) there in
      elim (Contains-append_cases (y ∷ []) (filter p ys) x listed) [
        | inl first ↦ let is = alone y x first in (Contains-append_left (y ∷ []) ys x first, subst (λ (z : X). p z ≡ true) is passes)
        | inr later ↦ let rest = filter_has p ys x later in (Contains-append_right (y ∷ []) ys x rest.0, rest.1)
      ]
  | inr fails ↦
      let listed : Contains (filter p ys) x = subst (λ (zs : List X). Contains zs x) (cond-false (p y) (y ∷ filter p ys) (filter p ys) fails) there in
      let rest = filter_has p ys x listed in
      (Contains-append_right (y ∷ []) ys x rest.0, rest.1)
]

filter_keeps : {X : Type 0} (p : X → Bool) (xs : List X) (x : X) → Contains xs x → p x ≡ true → Contains (filter p xs) x
filter_keeps p [] x there passes = absurd (let no = there.1 in omega arith)
filter_keeps {X} p (y ∷ ys) x there passes = elim (Contains-append_cases (y ∷ []) ys x there) [
  | inl first ↦
      let is = alone y x first in
      let here : p y ≡ true = subst (λ (z : X). p z ≡ true) (sym is) passes in
      subst (λ (zs : List X). Contains zs x) (sym (cond-true (p y) (y ∷ filter p ys) (filter p ys) here)) (Contains-append_left (y ∷ []) (filter p ys) x first)
  | inr later ↦
      let rest = filter_keeps p ys x later passes in
      elim (cases_Bool (p y)) [
        | inl here ↦ subst (λ (zs : List X). Contains zs x) (sym (cond-true (p y) (y ∷ filter p ys) (filter p ys) here)) (Contains-append_right (y ∷ []) (filter p ys) x rest)
        | inr fails ↦ subst (λ (zs : List X). Contains zs x) (sym (cond-false (p y) (y ∷ filter p ys) (filter p ys) fails)) rest
      ]
]

-- ---- units that are not listed

abbrev pub is_out : List ℕ → Waiting → Bool
is_out us w = not (list_any (λ v. v == w.unit) us)

not_listed : (us : List ℕ) (w : Waiting) → is_out us w ≡ true → count_of w.unit us ≡ 0
not_listed us w out = from (list_any (λ v. v == w.unit) us) (list_any-has us w.unit) out
  where
    from : (b : Bool) → b ≡ has w.unit us → not b ≡ true → count_of w.unit us ≡ 0
    from true e h = absurd (false≢true h)
    from false e h = let few = leb-false 1 (count_of w.unit us) (sym e) in omega arith

is_not_listed : (us : List ℕ) (w : Waiting) → count_of w.unit us ≡ 0 → is_out us w ≡ true
is_not_listed us w none = ap not (list_any-has us w.unit ∙ lt-leb 1 (count_of w.unit us) (omega arith))

pub are_left : (us : List ℕ) (yards after : BTreeSet Waiting) → after.keys ≡ filter (is_out us) yards.keys → AreLeft us yards after
are_left us yards after kept = record {
  each = λ w. (
    λ there. let both = filter_has (is_out us) yards.keys w (subst (λ (ws : List Waiting). Contains ws w) kept there) in (both.0, not_listed us w both.1),
    λ known. subst (λ (ws : List Waiting). Contains ws w) (sym kept) (filter_keeps (is_out us) yards.keys w known.0 (is_not_listed us w known.1)),
  );
}
