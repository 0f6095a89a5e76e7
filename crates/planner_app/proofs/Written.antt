-- What is written of an outcome, and the status of it, where it is known which outcome it is.
use Rattle.std.proofs.Common.{◌≡◌, ◌≢◌, ℕ, List, Option, refl, sym, subst}
use Rattle.rail_io.specs.Sinks.{Appends}
use Rattle.statuses.specs.Written.{IsUndisturbed}
use Rattle.run_documents.specs.declared.outcome.Outcome.{Outcome}
use Rattle.run_documents.specs.declared.outcome.Outcome.TheVariants.{NoMemory}
use Rattle.run_documents.specs.Texts.{IsDocument}
use Rattle.planner_app.specs.Statuses.{status_of}

-- the document of an outcome was written, and no call failed
pub record IsWritten (it : Outcome) (before after : Option (List ℕ)) : Type 0 where
  pub text : List ℕ
  pub document : IsDocument it text
  pub appended : Appends text before after
  pub undisturbed : IsUndisturbed (status_of it)

pub written_as : {it other : Outcome} {before after : Option (List ℕ)} → it ≡ other → IsWritten it before after → IsWritten other before after
written_as {before = before} {after = after} is written = subst (λ (o : Outcome). IsWritten o before after) is written

-- this line is the text that was written
pub appends_line : (line : List ℕ) {it : Outcome} {before after : Option (List ℕ)} (written : IsWritten it before after) → written.text ≡ line
    → Appends line before after
appends_line line {before = before} {after = after} written is = subst (λ (text : List ℕ). Appends text before after) is written.appended

-- memory did not run out
pub not_memory : {it : Outcome} {before after : Option (List ℕ)} → it ≡ NoMemory → IsWritten it before after → ⊥
not_memory none written = (written_as none written).undisturbed.2 refl

-- what goes with the status of an outcome
pub with_status : (Ends : ℕ → Type 0) {it other : Outcome} → it ≡ other → Ends (status_of other) → Ends (status_of it)
with_status Ends is ends = subst (λ (o : Outcome). Ends (status_of o)) (sym is) ends

-- an outcome of a command: it isn't that the words are not understood, and it tells of a file that could not be read
-- only where the folder's count of faults rose
pub record IsOfCommand (it : Outcome) (DidRise : Type 0) : Type 0 where
  pub not_usage : status_of it ≢ 2
  pub unread : status_of it ≡ 5 → DidRise

pub of_command : {it other : Outcome} {DidRise : Type 0} → it ≡ other → IsOfCommand other DidRise → IsOfCommand it DidRise
of_command {DidRise = DidRise} is status = subst (λ (o : Outcome). IsOfCommand o DidRise) (sym is) status

-- one that tells of no file that could not be read
pub read_status : (it : Outcome) {DidRise : Type 0} → status_of it ≢ 2 → status_of it ≢ 5 → IsOfCommand it DidRise
read_status it not_two not_five = record { not_usage = not_two; unread = λ five. absurd (not_five five) }
