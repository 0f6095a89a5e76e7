use Rattle.std.proofs.Common.{◌≡◌, pos, unsigned_abs, sym, ◌∙◌, ap, subst, arith, w64}
use Rattle.std.proofs.lemmas.Bool.{false≢true}
use Rattle.std.proofs.lemmas.Int.{ints}
use mir.Val.{to_z, of_z}
use Rattle.branch_tree.specs.Places.{IsAt, IsPlaceOf}
use Rattle.branch_tree.proofs.Puts.{no_size}
use Rattle.branch_tree.proofs.Putting.{PutDone, Looked, put_there, put_at_new, put_none, put_refused}
use Rattle.branch_tree.proofs.multipliers.Multipliers.put.Goals as goal

change-passed : (c : goal.After-change) → to_z w64 (of_z w64 c.args.value) ≡ c.args.value
change-passed c = omega (arith, ints)

change-looked : (c : goal.After-change) → Looked c.self.inside.entries.items c.args.index c.place_of-place.result c.args.value
change-looked c = record {
  multipliers = c.self.invariant.0;
  place_of = subst (λ xs. IsPlaceOf xs c.args.index c.place_of-place.result) c.deref.ensures.value c.place_of-place.ensures;
  small = omega (arith, c.unsigned_abs.ensures.value, ap unsigned_abs (change-passed c));
}

there : (c : goal.After-change) → PutDone c.args.self.now c.args.index c.args.value c.change.new.entries.items
there c = put_there c.args.self.now c.self.inside.entries.items c.change.new.entries.items c.args.index c.place_of-place.result c.args.value _ c.self.view_is (change-passed c) c.change.ensures.items
    (change-looked c) (subst (λ xs. IsAt xs c.place_of-place.result c.args.index) c.deref-2.ensures.value (c.is_at.ensures.0 c.if-is_at.true))

pub invariant_of-self : goal.invariant_of-self
invariant_of-self c = ((there c).multipliers, omega (arith, c.self.invariant.1))

pub returns-then-is_at-clause-put : goal.returns-then-is_at-clause-put
returns-then-is_at-clause-put c = (there c).put

pub returns-then-is_at-clause-list : goal.returns-then-is_at-clause-list
returns-then-is_at-clause-list c = (there c).list

pub returns-then-is_at-clause-multipliers : goal.returns-then-is_at-clause-multipliers
returns-then-is_at-clause-multipliers c = (there c).multipliers

pub returns-then-is_at-clause-refusal : goal.returns-then-is_at-clause-refusal
returns-then-is_at-clause-refusal c = (there c).refusal

zero-passed : (c : goal.Then-value-eq0) → to_z w64 (of_z w64 c.args.value) ≡ c.args.value
zero-passed c = omega (arith, ints)

zero-looked : (c : goal.Then-value-eq0) → Looked c.self.inside.entries.items c.args.index c.place_of-place.result c.args.value
zero-looked c = record {
  multipliers = c.self.invariant.0;
  place_of = subst (λ xs. IsPlaceOf xs c.args.index c.place_of-place.result) c.deref.ensures.value c.place_of-place.ensures;
  small = omega (arith, c.unsigned_abs.ensures.value, ap unsigned_abs (zero-passed c));
}

zero-away : (c : goal.Then-value-eq0) → IsAt c.self.inside.entries.items c.place_of-place.result c.args.index → ⊥
zero-away c at = false≢true (sym c.if-is_at.false ∙ c.is_at.ensures.1 (subst (λ xs. IsAt xs c.place_of-place.result c.args.index) (sym c.deref-2.ensures.value) at))

pub returns-then-value-eq0-clause-put : goal.returns-then-value-eq0-clause-put
returns-then-value-eq0-clause-put c =
    let none : c.args.value ≡ pos 0 = omega (arith, ints) in
    (put_none c.args.self.now c.self.inside.entries.items c.args.index c.place_of-place.result c.args.value c.self.view_is (zero-looked c) (zero-away c) (ap unsigned_abs none)).put

pub returns-then-value-eq0-clause-list : goal.returns-then-value-eq0-clause-list
returns-then-value-eq0-clause-list c =
    let none : c.args.value ≡ pos 0 = omega (arith, ints) in
    (put_none c.args.self.now c.self.inside.entries.items c.args.index c.place_of-place.result c.args.value c.self.view_is (zero-looked c) (zero-away c) (ap unsigned_abs none)).list

full-passed : (c : goal.Then-len-eq-MAX_ENTRIES) → to_z w64 (of_z w64 c.args.value) ≡ c.args.value
full-passed c = omega (arith, ints)

full-looked : (c : goal.Then-len-eq-MAX_ENTRIES) → Looked c.self.inside.entries.items c.args.index c.place_of-place.result c.args.value
full-looked c = record {
  multipliers = c.self.invariant.0;
  place_of = subst (λ xs. IsPlaceOf xs c.args.index c.place_of-place.result) c.deref.ensures.value c.place_of-place.ensures;
  small = omega (arith, c.unsigned_abs.ensures.value, ap unsigned_abs (full-passed c));
}

full-away : (c : goal.Then-len-eq-MAX_ENTRIES) → IsAt c.self.inside.entries.items c.place_of-place.result c.args.index → ⊥
full-away c at = false≢true (sym c.if-is_at.false ∙ c.is_at.ensures.1 (subst (λ xs. IsAt xs c.place_of-place.result c.args.index) (sym c.deref-2.ensures.value) at))

pub returns-then-len-eq-MAX_ENTRIES-clause-refusal : goal.returns-then-len-eq-MAX_ENTRIES-clause-refusal
returns-then-len-eq-MAX_ENTRIES-clause-refusal c =
    put_refused c.args.self.now c.self.inside.entries.items c.args.index c.place_of-place.result c.args.value c.self.view_is (full-looked c) (full-away c)
    (λ none. c.if-value-eq0.false (ap (of_z w64) (no_size c.args.value none))) (omega (arith, c.len.ensures))

enter-passed : (c : goal.After-enter) → to_z w64 (of_z w64 c.args.value) ≡ c.args.value
enter-passed c = omega (arith, ints)

enter-looked : (c : goal.After-enter) → Looked c.self.inside.entries.items c.args.index c.place_of-place.result c.args.value
enter-looked c = record {
  multipliers = c.self.invariant.0;
  place_of = subst (λ xs. IsPlaceOf xs c.args.index c.place_of-place.result) c.deref.ensures.value c.place_of-place.ensures;
  small = omega (arith, c.unsigned_abs.ensures.value, ap unsigned_abs (enter-passed c));
}

enter-away : (c : goal.After-enter) → IsAt c.self.inside.entries.items c.place_of-place.result c.args.index → ⊥
enter-away c at = false≢true (sym c.if-is_at.false ∙ c.is_at.ensures.1 (subst (λ xs. IsAt xs c.place_of-place.result c.args.index) (sym c.deref-2.ensures.value) at))

entered : (c : goal.After-enter) → PutDone c.args.self.now c.args.index c.args.value c.enter.new.entries.items
entered c = put_at_new c.args.self.now c.self.inside.entries.items c.enter.new.entries.items c.args.index c.place_of-place.result c.args.value _ c.self.view_is (enter-passed c) c.enter.ensures.items
    (enter-looked c) (enter-away c) (λ none. c.if-value-eq0.false (ap (of_z w64) (no_size c.args.value none))) (omega (arith, c.len.ensures, (enter-looked c).multipliers.few))

pub invariant_of-self-2 : goal.invariant_of-self-2
invariant_of-self-2 c = ((entered c).multipliers, omega (arith, c.self.invariant.1))

pub returns-clause-put : goal.returns-clause-put
returns-clause-put c = (entered c).put

pub returns-clause-list : goal.returns-clause-list
returns-clause-list c = (entered c).list

pub returns-clause-multipliers : goal.returns-clause-multipliers
returns-clause-multipliers c = (entered c).multipliers
