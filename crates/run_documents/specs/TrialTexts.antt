-- The document of a trial day that was planned.
use Rattle.std.specs.Prelude.{ℕ, List, ◌++◌}
use Rattle.answer_text.specs.declared.answer.Answer.{Answer}
use Rattle.rules.specs.declared.heads.Head.{Head}
use Rattle.rules.specs.declared.heads.Head.TheVariants.{Optimal, Infeasible, Bounded, BoundedPlan}
use Rattle.answer_text.specs.Texts.{head_line, text_of}
use Rattle.run_documents.specs.Lines.{line_end, trial_line}

-- what an answer says, in a line, where it says all of the day; else the whole answer
abbrev pub summary_by : Head → Answer → List ℕ
summary_by (Optimal cost) answer = head_line (Optimal cost) ++ line_end
summary_by Infeasible answer = head_line Infeasible ++ line_end
summary_by (Bounded bound) answer = text_of answer
summary_by (BoundedPlan bound cost) answer = text_of answer

abbrev pub trial_text : ℕ → ℕ → Answer → List ℕ
trial_text seed trips answer = trial_line seed trips ++ summary_by answer.head answer
