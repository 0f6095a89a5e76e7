-- The problem is a relaxation of its solutions where there is a composition.
use Rattle.std.proofs.Common.{◌≡◌, ℕ, zero, suc, ◌<◌, List, [], ◌∷◌, length, Bool, true, false, nat_lt, ltb, eqb}
use Rattle.std.proofs.Common.{if◌then◌else◌, ℤ, pos, ◌*ℤ◌, ◌≤ℤ◌, ◌<ℤ◌, inl, refl, ap, arith}
use Rattle.std.proofs.lemmas.Bool.{ltb-true, ne_eqb, false_from_ne_true}
use Rattle.std.proofs.lemmas.Int.{ints}
use Rattle.timetable.specs.Lists.{count_of}
use Rattle.branch_tree.specs.Meanings.{IsRelaxation}
use Rattle.worked_bounds.specs.LonePicks.{is_short, lone_picks}

positive_short : (b : Bool) → (b ≡ false → ⊥) → pos 0 <ℤ (pos 1 *ℤ (if b then pos 1 else pos 0))
positive_short true short = omega (arith, ints)
positive_short false short = absurd (short refl)

each_once : (trip : ℕ) → count_of trip (0 ∷ 1 ∷ []) ≡ (if nat_lt trip 2 then 1 else 0)
each_once zero = refl
each_once (suc zero) = refl
each_once (suc (suc trip)) =
    let first : eqb 0 (suc (suc trip)) ≡ false = ne_eqb 0 (suc (suc trip)) (λ same. omega (arith, same)) in
    let second : eqb 1 (suc (suc trip)) ≡ false = ne_eqb 1 (suc (suc trip)) (λ same. omega (arith, same)) in
    let past : ltb (suc (suc trip)) 2 ≡ false =
    false_from_ne_true (ltb (suc (suc trip)) 2) (λ less. omega (arith, ltb-true (suc (suc trip)) 2 less)) in
    rw (first, second, past) refl

no_slack : (slack : ℤ) → slack ≡ pos 0 → slack ≤ℤ pos 0
no_slack slack none = omega (arith, ints, none)

pub lone_picks_relax : (catalogue : List (List ℕ)) → 0 < length catalogue → IsRelaxation (lone_picks catalogue)
lone_picks_relax catalogue some = record {
  follow_length = λ picks follow. ap length follow.0;
  near_in = λ picks region near. near.1;
  near_follow = λ picks region near. (near.0, some);
  solution_near = λ picks region solution inside. (solution.0, inside);
  solution_met = λ picks index solution below.
      let none : (if is_short catalogue then pos 1 else pos 0) ≡ pos 0 =
      ap (λ b. if b then pos 1 else pos 0) solution.1 in
      record { not_positive = no_slack (if is_short catalogue then pos 1 else pos 0) none; none = λ free. none };
  broken = λ picks follow none. record {
    index = omega arith;
    unit = inl refl;
    positive = positive_short (is_short catalogue) (λ enough. none (follow.0, enough));
    sign = λ below. refl;
  };
  order = each_once;
}
