-- Reading goes line by line.
use Rattle.std.proofs.Common.{◌≡◌, ℕ, List, [], ◌∷◌, Some, None, Result, Ok, Err, refl, sym, ap, ◌∙◌}
use Rattle.answer_text.specs.declared.answer.Answer.{Answer}
use Rattle.answer_text.specs.declared.refusal.AnswerRefusal.{AnswerRefusal}
use Rattle.answer_text.specs.declared.refusal.AnswerRefusal.TheVariants.{BadLine, TooManyNodes}
use Rattle.answer_text.specs.ReadStates.{ReadState, at_title, at_head, at_branchings, at_runs, at_nodes, at_last}
use Rattle.answer_text.specs.ReadStates.{after_line, ending_at, fault_at, fault_of_rest, going_on, line_in, line_number}
use Rattle.answer_text.specs.ReadStates.{reading}

-- a line is wanted yet
abbrev pub IsOpen : ReadState → Type 0
IsOpen (at_last answer) = ⊥
IsOpen place = Unit {0}

abbrev follow : ReadState → Result (List ℕ × List (List ℕ)) AnswerRefusal → Result Answer AnswerRefusal
follow place (Ok next) = going_on (after_line 8001 place next.0) (fault_at place next.0) (λ later. reading later next.1)
follow place (Err refusal) = Err refusal

pub open_end : (place : ReadState) (left : List ℕ) → IsOpen place → ending_at place left ≡ Err (fault_of_rest (line_number place) left)
open_end at_title left open_here = refl
open_end at_head left open_here = refl
open_end (at_branchings head) left open_here = refl
open_end (at_runs head branchings runs) left open_here = refl
open_end (at_nodes head branchings runs nodes) left open_here = refl
open_end (at_last answer) left open_here = absurd open_here

abbrev step_of : ReadState → List (List ℕ) → Result Answer AnswerRefusal
step_of place rest = follow place (line_in (line_number place) rest)

step : (place : ReadState) (rest : List (List ℕ)) → IsOpen place → reading place rest ≡ step_of place rest
unfolding reading
step place [] open_here = refl
step place (left ∷ []) open_here = open_end place left open_here
step place (line ∷ next ∷ rest) open_here = refl

-- there is no next line
pub step_cut : (place : ReadState) (rest : List (List ℕ)) (refusal : AnswerRefusal) → IsOpen place → line_in (line_number place) rest ≡ Err refusal → reading place rest ≡ Err refusal
step_cut place rest refusal open_here cut = step place rest open_here ∙ ap (follow place) cut

-- the next line fits
pub step_on : (place later : ReadState) (rest after : List (List ℕ)) (line : List ℕ) → IsOpen place → line_in (line_number place) rest ≡ Ok (line, after)
    → after_line 8001 place line ≡ Some later → reading place rest ≡ reading later after
step_on place later rest after line open_here cut fits = step place rest open_here ∙ ap (follow place) cut ∙ rw fits refl

pub fault_is : (place : ReadState) (line : List ℕ) → IsOpen place → after_line 8002 place line ≡ None → fault_at place line ≡ BadLine (line_number place)
fault_is at_title line open_here none = rw none refl
fault_is at_head line open_here none = rw none refl
fault_is (at_branchings head) line open_here none = rw none refl
fault_is (at_runs head branchings runs) line open_here none = rw none refl
fault_is (at_nodes head branchings runs nodes) line open_here none = rw none refl
fault_is (at_last answer) line open_here none = absurd open_here

pub over_is : (place later : ReadState) (line : List ℕ) → IsOpen place → after_line 8002 place line ≡ Some later → fault_at place line ≡ TooManyNodes
over_is at_title later line open_here some = rw some refl
over_is at_head later line open_here some = rw some refl
over_is (at_branchings head) later line open_here some = rw some refl
over_is (at_runs head branchings runs) later line open_here some = rw some refl
over_is (at_nodes head branchings runs nodes) later line open_here some = rw some refl
over_is (at_last answer) later line open_here some = absurd open_here

-- the next line is wrong
pub step_wrong : (place : ReadState) (rest after : List (List ℕ)) (line : List ℕ) (number : ℕ) → IsOpen place → number ≡ line_number place → line_in (line_number place) rest ≡ Ok (line, after)
    → after_line 8001 place line ≡ None → after_line 8002 place line ≡ None → reading place rest ≡ Err (BadLine number)
step_wrong place rest after line number open_here count cut none still =
    step place rest open_here ∙ ap (follow place) cut ∙ rw none (ap Err (fault_is place line open_here still ∙ ap BadLine (sym count)))

-- the next line is one node more than there may be
pub step_over : (place later : ReadState) (rest after : List (List ℕ)) (line : List ℕ) → IsOpen place → line_in (line_number place) rest ≡ Ok (line, after)
    → after_line 8001 place line ≡ None → after_line 8002 place line ≡ Some later → reading place rest ≡ Err TooManyNodes
step_over place later rest after line open_here cut none some =
    step place rest open_here ∙ ap (follow place) cut ∙ rw none (ap Err (over_is place later line open_here some))
