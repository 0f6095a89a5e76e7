use Rattle.std.proofs.Common.{rules, ◌≡◌, ℕ, List, Result, sym, subst, ◌∙◌}
use Rattle.std.specs.Prelude.{IfOk, IfErr}
use Rattle.answer_text.specs.declared.answer.Answer.{Answer}
use Rattle.answer_text.specs.declared.refusal.AnswerRefusal.{AnswerRefusal}
use Rattle.run_documents.specs.AnswerFiles.{AreNoAnswer, IsAnswerOf}
use Rattle.run_documents.proofs.answer_file.answer_in.Goals as goal

pub returns-in-Ok-2-clause-told : goal.returns-in-Ok-2-clause-told
returns-in-Ok-2-clause-told g c files holds =
    let read_in : IsAnswerOf c.items.result.now c.in-Ok-2.answer = subst (λ (read : Result Answer AnswerRefusal). IfOk read (IsAnswerOf c.items.result.now)) c.in-Ok-2.is c.in_ok-answer.ensures.read in
    let items : c.items.result.now ≡ c.in-Ok.bytes = c.items.ensures in
    subst (λ (bytes : List ℕ). IsAnswerOf bytes c.in-Ok-2.answer) (items ∙ (c.in-Ok.ensures.told files holds).0) read_in

pub returns-clause-told : goal.returns-clause-told
returns-clause-told g c files holds =
    let read_in : AreNoAnswer c.items.result.now c.in-Err.refusal = subst (λ (read : Result Answer AnswerRefusal). IfErr read (AreNoAnswer c.items.result.now)) c.in-Err.is c.in_ok-answer.ensures.refused in
    let items : c.items.result.now ≡ c.in-Ok.bytes = c.items.ensures in
    subst (λ (bytes : List ℕ). AreNoAnswer bytes c.in-Err.refusal) (items ∙ (c.in-Ok.ensures.told files holds).0) read_in
