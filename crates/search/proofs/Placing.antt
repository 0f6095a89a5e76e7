-- What is known of a node from its work.
use Rattle.std.proofs.Common.{◌≡◌, ℕ, List, [], Bool, true, false, Option, Some, None, MatchOption, inl, inr, refl, sym}
use Rattle.std.proofs.Common.{length, subst, arith, ℤ, pos, ◌+ℤ◌}
use Rattle.std.proofs.lemmas.Bool.{both_ways}
use Rattle.std.proofs.lemmas.Int.{ints}
use Rattle.rail_base.specs.declared.numbers.Money.{Money}
use Rattle.branch_tree.specs.declared.multipliers.Entry.{Entry}
use Rattle.branch_tree.specs.declared.relaxation.Weight.TheVariants.{Cost}
use Rattle.branch_tree.specs.Bounds.{IsChainValue}
use Rattle.branch_tree.specs.Claims.{CostedPicks, IsNotEvident, is_below, is_open}
use Rattle.branch_tree.specs.Meanings.{Meanings}
use Rattle.branch_tree.proofs.Duality.{bounds_are_chain_values}
use Rattle.search.specs.declared.evaluation.Ending.{Ending}
use Rattle.search.specs.declared.evaluation.Ending.TheVariants.{Empty, Ray}
use Rattle.search.specs.declared.evaluation.Evaluation.{Evaluation}
use Rattle.search.specs.declared.nodes.SearchNode.{SearchNode}
use Rattle.search.specs.declared.nodes.SearchNode.TheVariants.{Fixed}
use Rattle.search.specs.declared.work.Work.{Work}
use Rattle.search.specs.Evaluations.{AreSettled, IsEnding, IsEvaluated, leaf_of}
use Rattle.search.specs.Nodes.{IsLeafOf, tree_node}
use Rattle.search.proofs.Below.{below_less, no_better}
use Rattle.search.specs.NodesInWork.{IsWorkedOn, ended_by, is_open_work, left_by, node_by, node_from}
use Rattle.search.specs.Putting.{IsNumbered}

pub chain_of : (problem : Meanings) (region : List (List Bool)) (evaluation : Evaluation) → IsEvaluated problem region evaluation → IsChainValue problem region evaluation.multipliers Cost evaluation.value.0
chain_of problem region evaluation is = bounds_are_chain_values problem region evaluation.multipliers Cost evaluation.value [] evaluation.picks (is.choice, is.value)

-- a node after its first evaluation
module _ (problem : Meanings) (region : List (List Bool)) (best : Option CostedPicks) where
  not_evident_by : (value : Money) (picks : List ℕ) → IsEvaluated problem region (record { value = value; multipliers = []; picks = picks }) → AreSettled problem region best picks →
      is_below value.0 best ≡ true → IsNotEvident problem region
  not_evident_by value picks is settled below = elim settled as (λ _. IsNotEvident problem region) [
    | inl solution ↦
        let cost : problem.cost picks ≡ value.0 = let priced : (problem.cost picks +ℤ pos 0) ≡ value.0 = is.value in omega (arith, ints, priced) in
        absurd (both_ways (is_below value.0 best) (subst (λ (amount : ℤ). is_below amount best ≡ false) cost solution.1) below)
    | inr opens ↦ record {
      picks = picks;
      choice = is.choice;
      no_solution = opens.no_solution;
      value = opens.no_ray.value;
      chain_value = opens.no_ray.chain_value;
      not_positive = opens.no_ray.not_positive;
    }
  ]

  begun_by : (value : Money) (multipliers : List Entry) (picks : List ℕ) → length region ≡ problem.trips → multipliers ≡ [] → IsEvaluated problem region (record { value = value; multipliers = multipliers; picks = picks }) →
      AreSettled problem region best picks →
      IsWorkedOn problem best (record {
        region = region;
        first = value;
        kept = record { value = value; multipliers = multipliers; picks = picks };
        last = record { value = value; multipliers = multipliers; picks = picks };
        cut = None;
        end = None;
      })
  begun_by value multipliers picks sets none is settled = record {
    sets = sets;
    kept = is;
    last = is;
    first = subst (λ entries. IsChainValue problem region entries Cost value.0) none (chain_of problem region (record { value = value; multipliers = multipliers; picks = picks }) is);
    settled = no_better problem region best picks settled;
    raised = omega (arith, ints);
    not_evident = not_evident_by value picks (subst (λ entries. IsEvaluated problem region (record { value = value; multipliers = entries; picks = picks })) none is) settled;
    ended = tt;
  }

  pub begun : (evaluation : Evaluation) → length region ≡ problem.trips → IsEvaluated problem region evaluation → evaluation.multipliers ≡ [] → AreSettled problem region best evaluation.picks →
      IsWorkedOn problem best (record { region = region; first = evaluation.value; kept = evaluation; last = evaluation; cut = None; end = None })
  begun evaluation sets is none settled = begun_by evaluation.value evaluation.multipliers evaluation.picks sets none is settled

  -- a leaf without a bound
  pub ended_leaf : (ending : Ending) → IsEnding problem region ending → IsLeafOf problem best region (Fixed (leaf_of ending))
  ended_leaf Empty is = record {
    leaf = refl;
    known = record { proved = record { proper = tt; fitting = tt; bound = tt; ray = tt; empty = is }; raised = tt; settled = tt; branches = λ opens. absurd (both_ways false refl opens) };
  }
  ended_leaf (Ray multipliers) is = record {
    leaf = refl;
    known = record { proved = record { proper = tt; fitting = is.0; bound = tt; ray = is.1; empty = tt }; raised = tt; settled = tt; branches = λ opens. absurd (both_ways false refl opens) };
  }

-- a leaf with a bound
bound_leaf : (problem : Meanings) (best : Option CostedPicks) (number : ℕ) (work : Work) → IsWorkedOn problem best work → (below : Bool) → is_below work.kept.value.0 best ≡ below →
    IsLeafOf problem best work.region (node_by number below work)
bound_leaf problem best number work is true e = record {
  leaf = refl;
  known = record {
    proved = record { proper = tt; fitting = is.kept.fits; bound = chain_of problem work.region work.kept is.kept; ray = tt; empty = tt };
    raised = (work.first.0, is.first, is.raised);
    settled = (work.kept.picks, is.kept.choice, is.settled);
    branches = λ opens. record { own = refl; choice = is.kept.choice; not_evident = is.not_evident (below_less work.first.0 work.kept.value.0 best is.raised opens) };
  };
}
bound_leaf problem best number work is false e = record {
  leaf = refl;
  known = record {
    proved = record { proper = tt; fitting = is.kept.fits; bound = chain_of problem work.region work.kept is.kept; ray = tt; empty = tt };
    raised = (work.first.0, is.first, is.raised);
    settled = (work.kept.picks, is.kept.choice, is.settled);
    branches = λ opens. absurd (both_ways (is_below work.kept.value.0 best) e opens);
  };
}

leaf_by : (problem : Meanings) (best : Option CostedPicks) (number : ℕ) (work : Work) → IsWorkedOn problem best work → (end : Option Ending) → work.end ≡ end →
    IsLeafOf problem best work.region (ended_by (node_by number (is_below work.kept.value.0 best) work) end)
leaf_by problem best number work is None e = bound_leaf problem best number work is (is_below work.kept.value.0 best) refl
leaf_by problem best number work is (Some ending) e =
    ended_leaf problem work.region best ending (subst (λ end. MatchOption end (Unit {0}) (IsEnding problem work.region)) e is.ended)

pub leaf_from : (problem : Meanings) (best : Option CostedPicks) (number : ℕ) (work : Work) → IsWorkedOn problem best work → IsLeafOf problem best work.region (node_from number best work)
leaf_from problem best number work is = leaf_by problem best number work is work.end refl

-- a node that is opens was left opens
open_by : (best : Option CostedPicks) (number : ℕ) (work : Work) (below : Bool) → is_below work.kept.value.0 best ≡ below → (end : Option Ending) →
    is_open best (tree_node (ended_by (node_by number below work) end)) ≡ true → left_by below end ≡ true
open_by best number work true e None opens = refl
open_by best number work false e None opens = absurd (both_ways (is_below work.kept.value.0 best) e opens)
open_by best number work below e (Some Empty) opens = absurd (both_ways false refl opens)
open_by best number work below e (Some (Ray multipliers)) opens = absurd (both_ways false refl opens)

pub left_open_from : (best : Option CostedPicks) (number : ℕ) (work : Work) → is_open best (tree_node (node_from number best work)) ≡ true → is_open_work best work ≡ true
left_open_from best number work opens = open_by best number work (is_below work.kept.value.0 best) refl work.end opens

-- the same, as `into_node` answers it
pub leaf_made_from : (problem : Meanings) (best : Option CostedPicks) (number : ℕ) (work : Work) (region : List (List Bool)) (node : SearchNode) → node ≡ node_from number best work → work.region ≡ region →
    IsWorkedOn problem best work → IsLeafOf problem best region node
leaf_made_from problem best number work region node made same is =
    subst (λ one. IsLeafOf problem best region one) (sym made) (subst (λ at. IsLeafOf problem best at (node_from number best work)) same (leaf_from problem best number work is))

pub left_open_made : (best : Option CostedPicks) (number : ℕ) (work : Work) (node : SearchNode) → node ≡ node_from number best work → is_open best (tree_node node) ≡ true → is_open_work best work ≡ true
left_open_made best number work node made opens = left_open_from best number work (subst (λ one. is_open best (tree_node one) ≡ true) made opens)

-- a node from work has the number that was given
numbered_by : (number : ℕ) (below : Bool) (work : Work) → IsNumbered number (node_by number below work)
numbered_by number true work = refl
numbered_by number false work = tt

numbered_ended : (number : ℕ) (node : SearchNode) (end : Option Ending) → IsNumbered number node → IsNumbered number (ended_by node end)
numbered_ended number node None is = is
numbered_ended number node (Some ending) is = tt

pub numbered_from : (best : Option CostedPicks) (number : ℕ) (work : Work) (node : SearchNode) → node ≡ node_from number best work → IsNumbered number node
numbered_from best number work node made =
    subst (λ one. IsNumbered number one) (sym made)
    (numbered_ended number (node_by number (is_below work.kept.value.0 best) work) work.end (numbered_by number (is_below work.kept.value.0 best) work))

-- a leaf without a bound is not open
pub ended_not_open : (best : Option CostedPicks) (ending : Ending) → is_open best (leaf_of ending) ≡ true → ⊥
ended_not_open best Empty opens = both_ways false refl opens
ended_not_open best (Ray multipliers) opens = both_ways false refl opens
