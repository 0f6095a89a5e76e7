-- What a valid answer says is true of all plans.
use Rattle.std.proofs.Common.{ℕ, List, [], sym, subst}
use Rattle.timetable.specs.Accepted.{IsSoundDay}
use Rattle.timetable.specs.Day.{Day}
use Rattle.branch_tree.specs.Claims.{IsConcluded}
use Rattle.branch_tree.specs.Meanings.{Meanings}
use Rattle.branch_tree.specs.Regions.{root_of}
use Rattle.branch_tree.proofs.Concluding.{proved_is_concluded}
use Rattle.price_bound.specs.DayMeanings.{meanings_of}
use Rattle.price_bound.proofs.Whole.{relaxes}
use Rattle.answer_text.specs.declared.answer.Answer.{Answer}
use Rattle.rules.specs.declared.heads.Head.{Head}
use Rattle.answer_check.specs.Headline.{IsTrueOf}
use Rattle.answer_check.specs.Validity.{HasPicks, IsValid, conclusion_of}
use Rattle.answer_check.proofs.RegionTruths.{concluded_is_true_in, true_in_roots}
use Rattle.answer_check.proofs.Unchanged.{unchanged_means}

-- what is concluded of all solutions is true of all plans
pub holds : (day : Day) (sound : IsSoundDay day) (runs : List (List ℕ)) (picks : List ℕ) (head : Head)
    → HasPicks day head runs picks → IsConcluded (meanings_of day) (root_of day) (conclusion_of head picks)
    → IsTrueOf day head runs
holds day sound runs picks head planned concluded =
    (true_in_roots day head runs picks sound planned).0
    (concluded_is_true_in day [] (root_of day) head runs picks planned
    (subst (λ (m : Meanings). IsConcluded m (root_of day) (conclusion_of head picks)) (sym (unchanged_means day)) concluded))

-- what a valid answer says is true
pub valid_answers_are_true : (day : Day) (answer : Answer) → IsSoundDay day → IsValid day answer
    → IsTrueOf day answer.head answer.runs
valid_answers_are_true day answer sound valid =
    holds day sound answer.runs valid.picks answer.head valid.planned
    (proved_is_concluded (meanings_of day) (relaxes day sound) (root_of day)
    (conclusion_of answer.head valid.picks) answer.branchings answer.tree valid.proved)
