-- A node in work stays one as its evaluations go on.
use Rattle.std.proofs.Common.{◌≡◌, ℕ, List, sym, subst, Bool, true, false, if◌then◌else◌, Option, Some, refl, ap, arith, ◌∙◌, ℤ, ◌≤ℤ◌, ◌<ℤ◌, int_lt}
use Rattle.std.proofs.lemmas.Int.{ints}
use Rattle.branch_tree.specs.declared.cuts.Cut.{Cut}
use Rattle.branch_tree.specs.Claims.{CostedPicks, IsNoBetter, is_below}
use Rattle.branch_tree.specs.declared.multipliers.Entry.{Entry}
use Rattle.branch_tree.specs.Entries.{DoFit}
use Rattle.branch_tree.specs.Meanings.{Meanings, DoFitFor}
use Rattle.advisors.specs.Proposed.{Proposed}
use Rattle.advisors.specs.Proposals.{DoesFit}
use Rattle.search.specs.declared.evaluation.Ending.{Ending}
use Rattle.search.specs.declared.evaluation.Evaluation.{Evaluation}
use Rattle.search.specs.declared.work.Work.{Work}
use Rattle.search.specs.Evaluations.{AreSettled, IsEnding, IsEvaluated}
use Rattle.search.specs.Nodes.{IsSubregion}
use Rattle.search.specs.Offers.{IsOffered}
use Rattle.search.specs.NodesInWork.{Advances, IsWorkedOn, learned}
use Rattle.search.proofs.Below.{lower, no_better, no_better_on}
use Rattle.search.proofs.Evaluating.{not_offered, offered_again}
use Rattle.search.proofs.Offering.{offered_within}

-- the multipliers of a proposal for a problem's indices fit the problem
pub fits_for : (problem : Meanings) (proposal : Proposed) (multipliers : List Entry) → proposal.indices ≡ problem.indices → proposal.free_from ≡ problem.free_from →
    DoesFit proposal → multipliers ≡ proposal.multipliers → DoFitFor problem multipliers
fits_for problem proposal multipliers indices free_from does same =
    subst (λ (entries : List Entry). DoFitFor problem entries) (sym same)
    (subst (λ (bound : ℕ). DoFit bound problem.free_from proposal.multipliers) indices
    (subst (λ (from : ℕ). DoFit proposal.indices from proposal.multipliers) free_from does.fit))

pub worked_with_cut : (problem : Meanings) (best : Option CostedPicks) (work : Work) (cut : Option Cut) → IsWorkedOn problem best work → IsWorkedOn problem best (record work { cut = cut })
worked_with_cut problem best work cut is = record {
  sets = is.sets;
  kept = is.kept;
  last = is.last;
  first = is.first;
  settled = is.settled;
  raised = is.raised;
  not_evident = is.not_evident;
  ended = is.ended;
}

-- the better evaluation of two
record IsBetter (problem : Meanings) (best : Option CostedPicks) (work : Work) (kept : Evaluation) : Type 0 where
  is : IsEvaluated problem work.region kept
  settled : IsNoBetter problem best kept.picks
  raised : work.first.0 ≤ℤ kept.value.0

better : (problem : Meanings) (old new : Option CostedPicks) (work : Work) (evaluation : Evaluation) → IsWorkedOn problem old work → IsEvaluated problem work.region evaluation → AreSettled problem work.region new evaluation.picks →
    IsOffered problem work.region old new → (greater : Bool) → int_lt work.kept.value.0 evaluation.value.0 ≡ greater → IsBetter problem new work (if greater then evaluation else work.kept)
better problem old new work evaluation is evaluated settled offered true e =
    let above : work.kept.value.0 <ℤ evaluation.value.0 = lower work.kept.value.0 evaluation.value.0 e in
    record { is = evaluated; settled = no_better problem work.region new evaluation.picks settled; raised = omega (arith, ints, is.raised) }
better problem old new work evaluation is evaluated settled offered false e =
    record { is = is.kept; settled = no_better_on problem old new work.kept.picks offered.no_dearer is.settled; raised = is.raised }

pub worked_after : (problem : Meanings) (old new : Option CostedPicks) (work : Work) (evaluation : Evaluation) → IsWorkedOn problem old work → IsEvaluated problem work.region evaluation →
    AreSettled problem work.region new evaluation.picks → IsOffered problem work.region old new → IsWorkedOn problem new (learned work evaluation)
worked_after problem old new work evaluation is evaluated settled offered =
    let kept : IsBetter problem new work (if int_lt work.kept.value.0 evaluation.value.0 then evaluation else work.kept) =
    better problem old new work evaluation is evaluated settled offered (int_lt work.kept.value.0 evaluation.value.0) refl in
    record {
      sets = is.sets;
      kept = kept.is;
      settled = kept.settled;
      last = evaluated;
      first = is.first;
      raised = kept.raised;
      not_evident = λ below. is.not_evident (offered.no_dearer work.first.0 below);
      ended = is.ended;
    }

-- a node in work stays one with a better best solution
pub worked_with : (problem : Meanings) (old new : Option CostedPicks) (work : Work) → ((bound : ℤ) → is_below bound new ≡ true → is_below bound old ≡ true) → IsWorkedOn problem old work → IsWorkedOn problem new work
worked_with problem old new work dearer is = record {
  sets = is.sets;
  kept = is.kept;
  last = is.last;
  first = is.first;
  settled = no_better_on problem old new work.kept.picks dearer is.settled;
  raised = is.raised;
  not_evident = λ below. is.not_evident (dearer work.first.0 below);
  ended = is.ended;
}

-- and with an end that is shown
pub worked_ended : (problem : Meanings) (old new : Option CostedPicks) (work : Work) (ending : Ending) → IsWorkedOn problem old work → IsOffered problem work.region old new → IsEnding problem work.region ending →
    IsWorkedOn problem new (record work { end = Some ending })
worked_ended problem old new work ending is offered ended =
    let better_with = worked_with problem old new work offered.no_dearer is in
    record { sets = better_with.sets; kept = better_with.kept; last = better_with.last; first = better_with.first; settled = better_with.settled; raised = better_with.raised; not_evident = better_with.not_evident; ended = ended }

-- ---- one step after another

pub not_advanced : (problem : Meanings) (root : List (List Bool)) (best : Option CostedPicks) (work : Work) → IsWorkedOn problem best work → Advances problem root best best work work
not_advanced problem root best work is = record { region = refl; offered = not_offered problem root best; worked = is }

-- a step in a region of the root, after which the problem is as before
pub advanced_within : {P : Type 0} (meanings : P → Meanings) (p q : P) (root region : List (List Bool)) (first middle last : Option CostedPicks) (before work after : Work) → q ≡ p → IsSubregion root region →
    Advances (meanings p) root first middle before work → Advances (meanings q) region middle last work after → Advances (meanings p) root first last before after
advanced_within meanings p q root region first middle last before work after same within one two =
    let next = subst (λ problem. Advances (meanings problem) region middle last work after) same two in
    record {
      region = next.region ∙ one.region;
      offered = offered_again (meanings p) root first middle last one.offered (offered_within (meanings p) root region middle last within next.offered);
      worked = next.worked;
    }

-- a step in the region of the node
pub advanced_on : {P : Type 0} (meanings : P → Meanings) (p q : P) (first middle last : Option CostedPicks) (before work after : Work) → q ≡ p →
    Advances (meanings p) before.region first middle before work → Advances (meanings q) work.region middle last work after → Advances (meanings p) before.region first last before after
advanced_on meanings p q first middle last before work after same one two =
    advanced_within meanings p q before.region work.region first middle last before work after same (subst (λ sets. IsSubregion before.region sets) (sym one.region) (λ picks inside. inside)) one two

-- a cut is remembered
pub advanced_by_cut : (problem : Meanings) (root : List (List Bool)) (best : Option CostedPicks) (cut : Option Cut) (before after : Work) → after ≡ record before { cut = cut } → IsWorkedOn problem best before →
    Advances problem root best best before after
advanced_by_cut problem root best cut before after remembered is = record {
  region = ap (λ (work : Work). work.region) remembered;
  offered = not_offered problem root best;
  worked = subst (λ work. IsWorkedOn problem best work) (sym remembered) (worked_with_cut problem best before cut is);
}

-- a better solution is offered
pub advanced_by_offer : (problem : Meanings) (root : List (List Bool)) (old new : Option CostedPicks) (work : Work) → IsOffered problem root old new → IsWorkedOn problem old work → Advances problem root old new work work
advanced_by_offer problem root old new work offered is = record { region = refl; offered = offered; worked = worked_with problem old new work offered.no_dearer is }

-- what a node inherits, improvements and advice, one after another
pub advanced_thrice : {P : Type 0} (meanings : P → Meanings) (p q r s : P) (root : List (List Bool)) (first second third last : Option CostedPicks) (begun inherited improved advised : Work) → q ≡ p → r ≡ p → s ≡ p →
    IsSubregion root begun.region → IsWorkedOn (meanings p) first begun → Advances (meanings q) begun.region first second begun inherited → Advances (meanings r) root second third inherited improved →
    Advances (meanings s) improved.region third last improved advised → Advances (meanings p) root first last begun advised
advanced_thrice meanings p q r s root first second third last begun inherited improved advised same_q same_r same_s within worked one two three =
    let by_inherited : Advances (meanings p) root first second begun inherited =
    advanced_within meanings p q root begun.region first first second begun begun inherited same_q within (not_advanced (meanings p) root first begun worked) one in
    let by_improved : Advances (meanings p) root first third begun improved = advanced_within meanings p r root root first second third begun inherited improved same_r (λ picks inside. inside) by_inherited two in
    advanced_within meanings p s root improved.region first third last begun improved advised same_s (subst (λ sets. IsSubregion root sets) (sym by_improved.region) within) by_improved three
