-- What evaluations of a region show, and what an offer leaves.
use Rattle.std.proofs.Common.{◌≡◌, List, [], ◌∷◌, ℕ, Bool, true, false, Option, Some, None, ◌⊎◌, ◌↔◌, IsTrue, inl}
use Rattle.std.proofs.Common.{◌≤ℤ◌, ◌<ℤ◌, inr, refl, sym, ◌∙◌, subst, ℤ, pos, negsuc, int_lt, w8, w64, to_z, of_z, ap}
use Rattle.std.proofs.Common.{Result, Ok, Err, OnOk, is_ok, is_none}
use Rattle.std.specs.Result.{result_err}
use Rattle.std.proofs.lemmas.Bool.{false≢true}
use Rattle.rail_base.specs.declared.numbers.Money.{Money}
use Rattle.branch_tree.specs.declared.multipliers.Entry.{Entry}
use Rattle.branch_tree.specs.declared.relaxation.BoundAnswer.{BoundAnswer}
use Rattle.branch_tree.specs.declared.relaxation.BoundAnswer.TheVariants.{Empty, Value}
use Rattle.branch_tree.specs.declared.relaxation.Settled.TheVariants.{Broken}
use Rattle.branch_tree.specs.declared.relaxation.Weight.{Weight}
use Rattle.branch_tree.specs.declared.relaxation.Weight.TheVariants.{Cost, NoCost}
use Rattle.branch_tree.specs.Entries.{refusal_of, put_in}
use Rattle.branch_tree.specs.Bounds.{IsBound, IsEmpty, IsSettled}
use Rattle.branch_tree.specs.Claims.{CostedPicks, is_below}
use Rattle.branch_tree.specs.Meanings.{Meanings, IsRelaxation, DoFitFor}
use Rattle.branch_tree.proofs.Duality.{bounds_are_chain_values}
use Rattle.branch_tree.proofs.Settling.{broken_picks_have_rays}
use Rattle.search.specs.declared.evaluation.Ending.{Ending}
use Rattle.search.specs.declared.evaluation.Ending.TheVariants as endings
use Rattle.search.specs.declared.evaluation.EvaluationEnd.TheVariants.{Ended}
use Rattle.search.specs.Evaluations.{HasNoRay, IsEnding, IsEvaluated, IsOutcome, IsRayTest, IsSettledAs}
use Rattle.search.specs.Offers.{HasCheaperIn, IsOffered}
use Rattle.search.proofs.Below.{lower, not_lower}

-- the test of a chain value without cost
pub ray_test : (problem : Meanings) (region : List (List Bool)) (multipliers : List Entry) (value : Money) (old new : List ℕ) (positive : Bool) →
    IsBound problem region multipliers NoCost (Value value) old new → (IsTrue positive ↔ (pos 0 <ℤ value.0)) → IsRayTest problem region multipliers positive
ray_test problem region multipliers value old new true is tested = (value.0, bounds_are_chain_values problem region multipliers NoCost value old new is, tested.0 refl)
ray_test problem region multipliers value old new false is tested = record {
  value = value.0;
  chain_value = bounds_are_chain_values problem region multipliers NoCost value old new is;
  not_positive = at (int_lt (pos 0) value.0) refl;
}
  where
    at : (below : Bool) → int_lt (pos 0) value.0 ≡ below → value.0 ≤ℤ pos 0
    at true e = absurd (false≢true (tested.1 (lower (pos 0) value.0 e)))
    at false e = not_lower (pos 0) value.0 e

-- an offer that was not made leaves the best solution
pub not_offered : (problem : Meanings) (region : List (List Bool)) (best : Option CostedPicks) → IsOffered problem region best best
not_offered problem region best = record { no_dearer = λ bound below. below; either = inl refl }

cheaper_again : (problem : Meanings) (region : List (List Bool)) (old middle new : Option CostedPicks) →
    ((bound : ℤ) → is_below bound middle ≡ true → is_below bound old ≡ true) → HasCheaperIn problem region middle new → HasCheaperIn problem region old new
cheaper_again problem region old middle None no_dearer has = has
cheaper_again problem region old middle (Some plan) no_dearer has = (has.0, no_dearer plan.cost has.1)

-- one offer after another
pub offered_again : (problem : Meanings) (region : List (List Bool)) (old middle new : Option CostedPicks) →
    IsOffered problem region old middle → IsOffered problem region middle new → IsOffered problem region old new
offered_again problem region old middle new first next = record {
  no_dearer = λ bound below. first.no_dearer bound (next.no_dearer bound below);
  either = elim next.either as (λ _. (new ≡ old) ⊎ HasCheaperIn problem region old new) [
    | inl same ↦ elim first.either as (λ _. (new ≡ old) ⊎ HasCheaperIn problem region old new) [
      | inl before ↦ inl cc
      | inr has ↦ inr (subst (λ best. HasCheaperIn problem region old best) (sym same) has)
    ]
    | inr has ↦ inr (cheaper_again problem region old middle new first.no_dearer has)
  ];
}

-- the multiplier that is named for picks
named_is : (problem : Meanings) (picks : List ℕ) (index : ℕ) (sign : ℤ) → IsSettled problem picks (Broken index sign) → problem.broken picks ≡ record { index = index; value = sign }
named_is problem picks index sign settled = ap2 settled.2 settled.3
  where
    ap2 : (problem.broken picks).index ≡ index → (problem.broken picks).value ≡ sign → problem.broken picks ≡ record { index = index; value = sign }
    ap2 e f = λ i. record { index = e i; value = f i }

named_fits : (problem : Meanings) → IsRelaxation problem → (picks : List ℕ) (index : ℕ) (sign : ℤ) → problem.Follow picks →
    IsSettled problem picks (Broken index sign) → DoFitFor problem (record { index = index; value = sign } ∷ [])
named_fits problem relaxation picks index sign follow settled =
    subst (λ entry. DoFitFor problem (entry ∷ [])) (named_is problem picks index sign settled)
    (broken_picks_have_rays problem relaxation picks follow settled.0).fits

-- a sign that is passed on stays the same
passed : (problem : Meanings) (picks : List ℕ) (index : ℕ) (sign : ℤ) → IsSettled problem picks (Broken index sign) → to_z w8 (of_z w8 sign) ≡ sign
passed problem picks index sign settled = elim settled.1.unit as (λ _. to_z w8 (of_z w8 sign) ≡ sign) [
  | inl e ↦ subst (λ (v : ℤ). to_z w8 (of_z w8 v) ≡ v) (sym e ∙ settled.3) refl
  | inr e ↦ subst (λ (v : ℤ). to_z w8 (of_z w8 v) ≡ v) (sym e ∙ settled.3) refl
]

pub passed_unit : (problem : Meanings) (picks : List ℕ) (index : ℕ) (sign : ℤ) → IsSettled problem picks (Broken index sign) →
    (to_z w8 (of_z w8 sign) ≡ pos 1) ⊎ (to_z w8 (of_z w8 sign) ≡ negsuc 0)
passed_unit problem picks index sign settled = elim settled.1.unit as (λ _. (to_z w8 (of_z w8 sign) ≡ pos 1) ⊎ (to_z w8 (of_z w8 sign) ≡ negsuc 0)) [
  | inl e ↦ inl (passed problem picks index sign settled ∙ (sym settled.3 ∙ e))
  | inr e ↦ inr (passed problem picks index sign settled ∙ (sym settled.3 ∙ e))
]

-- what is named by a sign that was passed on
named_by : (problem : Meanings) (picks : List ℕ) (index : ℕ) (sign : ℤ) (named : List Entry) → IsSettled problem picks (Broken index sign) →
    named ≡ record { index = index; value = to_z w8 (of_z w8 sign) } ∷ [] → named ≡ record { index = index; value = sign } ∷ []
named_by problem picks index sign named settled e =
    subst (λ (v : ℤ). named ≡ record { index = index; value = v } ∷ []) (passed problem picks index sign settled) e

pub passed_fits : (problem : Meanings) → IsRelaxation problem → (picks : List ℕ) (index : ℕ) (sign : ℤ) (named : List Entry) → problem.Follow picks →
    IsSettled problem picks (Broken index sign) → named ≡ record { index = index; value = to_z w8 (of_z w8 sign) } ∷ [] → DoFitFor problem named
passed_fits problem relaxation picks index sign named follow settled e =
    subst (λ entries. DoFitFor problem entries) (sym (named_by problem picks index sign named settled e))
    (named_fits problem relaxation picks index sign follow settled)

left_open_by : (problem : Meanings) (region : List (List Bool)) (best : Option CostedPicks) (picks : List ℕ) (index : ℕ) (sign : ℤ) →
    IsSettled problem picks (Broken index sign) → HasNoRay problem region (record { index = index; value = sign } ∷ []) → IsSettledAs problem region best picks None
left_open_by problem region best picks index sign settled none = inr (record {
  no_solution = settled.0;
  no_ray = subst (λ entry. HasNoRay problem region (entry ∷ [])) (sym (named_is problem picks index sign settled)) none;
})

pub left_open_by_passed : (problem : Meanings) (region : List (List Bool)) (best : Option CostedPicks) (picks : List ℕ) (index : ℕ) (sign : ℤ) (named : List Entry) →
    IsSettled problem picks (Broken index sign) → named ≡ record { index = index; value = to_z w8 (of_z w8 sign) } ∷ [] →
    HasNoRay problem region named → IsSettledAs problem region best picks None
left_open_by_passed problem region best picks index sign named settled e none = left_open_by problem region best picks index sign settled
    (subst (λ entries. HasNoRay problem region entries) (named_by problem picks index sign named settled e) none)

-- where nothing is named
pub settled_unnamed : (problem : Meanings) (region : List (List Bool)) (best : Option CostedPicks) (picks : List ℕ) (found : Option (List Entry)) →
    ((named : List Entry) → found ≡ Some named → ⊥) → IsSettledAs problem region best picks found → IsSettledAs problem region best picks None
settled_unnamed problem region best picks None not is = is
settled_unnamed problem region best picks (Some named) not is = absurd (not named refl)

-- what is named by a sign that was passed on is the multiplier that is named for the picks
pub named_broken : (problem : Meanings) (picks : List ℕ) (index : ℕ) (sign : ℤ) (named : List Entry) → IsSettled problem picks (Broken index sign) →
    named ≡ record { index = index; value = to_z w8 (of_z w8 sign) } ∷ [] → named ≡ problem.broken picks ∷ []
named_broken problem picks index sign named settled e =
    named_by problem picks index sign named settled e ∙ ap (λ (entry : Entry). entry ∷ []) (sym (named_is problem picks index sign settled))

-- an evaluation ends by an end of its region
pub is_ending : (problem : Meanings) (region : List (List Bool)) (multipliers : List Entry) (best : Option CostedPicks) (ending : Ending) →
    IsOutcome problem region multipliers best (Ended ending) → IsEnding problem region ending
is_ending problem region multipliers best endings.Empty is = is
is_ending problem region multipliers best (endings.Ray ray) is = is.0

-- where there is no value nothing is near
pub empty_unvalued : (problem : Meanings) (region : List (List Bool)) (multipliers : List Entry) (weight : Weight) (answer : BoundAnswer) (old new : List ℕ) →
    ((value : Money) → answer ≡ Value value → ⊥) → IsBound problem region multipliers weight answer old new → IsEmpty problem region
empty_unvalued problem region multipliers weight Empty old new not is = is.0
empty_unvalued problem region multipliers weight (Value value) old new not is = absurd (not value refl)

-- the choice for a region, as an evaluation
pub evaluated : (problem : Meanings) → IsRelaxation problem → (region : List (List Bool)) (multipliers : List Entry) (value : Money) (old new : List ℕ) →
    DoFitFor problem multipliers → IsBound problem region multipliers Cost (Value value) old new →
    IsEvaluated problem region (record { value = value; multipliers = multipliers; picks = new })
evaluated problem relaxation region multipliers value old new fits is = record {
  fits = fits;
  choice = is.0;
  follow = relaxation.near_follow new region is.0.near;
  value = is.1;
}

-- one multiplier of size 1 is put among none
alone : (index : ℕ) (sign : ℤ) → (sign ≡ pos 1) ⊎ (sign ≡ negsuc 0) → refusal_of [] index (to_z w64 (of_z w64 (to_z w8 (of_z w8 sign)))) ≡ None
alone index sign either = elim either as (λ _. refusal_of [] index (to_z w64 (of_z w64 (to_z w8 (of_z w8 sign)))) ≡ None) [
  | inl e ↦ subst (λ (v : ℤ). refusal_of [] index (to_z w64 (of_z w64 (to_z w8 (of_z w8 v)))) ≡ None) (sym e) refl
  | inr e ↦ subst (λ (v : ℤ). refusal_of [] index (to_z w64 (of_z w64 (to_z w8 (of_z w8 v)))) ≡ None) (sym e) refl
]

pub alone_accepted : (old : List Entry) (index : ℕ) (sign value : ℤ) → old ≡ [] → value ≡ to_z w8 (of_z w8 sign) → (sign ≡ pos 1) ⊎ (sign ≡ negsuc 0) →
    refusal_of old index (to_z w64 (of_z w64 value)) ≡ None
alone_accepted old index sign value none same either =
    subst (λ (entries : List Entry). refusal_of entries index (to_z w64 (of_z w64 value)) ≡ None) (sym none)
    (subst (λ (v : ℤ). refusal_of [] index (to_z w64 (of_z w64 v)) ≡ None) (sym same) (alone index sign either))

-- then it is the only one
put_alone : (index : ℕ) (sign : ℤ) → (sign ≡ pos 1) ⊎ (sign ≡ negsuc 0) →
    put_in [] index (to_z w64 (of_z w64 (to_z w8 (of_z w8 sign)))) ≡ record { index = index; value = sign } ∷ []
put_alone index sign either = elim either as (λ _. put_in [] index (to_z w64 (of_z w64 (to_z w8 (of_z w8 sign)))) ≡ record { index = index; value = sign } ∷ []) [
  | inl e ↦ subst (λ (v : ℤ). put_in [] index (to_z w64 (of_z w64 (to_z w8 (of_z w8 v)))) ≡ record { index = index; value = v } ∷ []) (sym e) refl
  | inr e ↦ subst (λ (v : ℤ). put_in [] index (to_z w64 (of_z w64 (to_z w8 (of_z w8 v)))) ≡ record { index = index; value = v } ∷ []) (sym e) refl
]

pub alone_put : (old new : List Entry) (index : ℕ) (sign value : ℤ) → old ≡ [] → value ≡ to_z w8 (of_z w8 sign) → (sign ≡ pos 1) ⊎ (sign ≡ negsuc 0) →
    new ≡ put_in old index (to_z w64 (of_z w64 value)) → new ≡ record { index = index; value = sign } ∷ []
alone_put old new index sign value none same either put =
    put ∙ (ap (λ (entries : List Entry). put_in entries index (to_z w64 (of_z w64 value))) none ∙
    (ap (λ (v : ℤ). put_in [] index (to_z w64 (of_z w64 v))) same ∙ put_alone index sign either))

-- a result without an error is Ok, and then what OnOk says holds
pub right_by : {X E : Type 0} (result : Result X E) → result_err result ≡ None → is_ok result ≡ true
right_by (Ok x) none = refl
right_by (Err e) none = ap is_none none

pub held_where_right : {X E P : Type 0} (result : Result X E) → is_ok result ≡ true → OnOk result P → P
held_where_right (Ok x) right is = is
held_where_right (Err e) right is = absurd (false≢true right)
