-- What words ask for is one command, and its numbers are within their limits; where no day is read none is asked.
use Rattle.std.proofs.Common.{◌≡◌, ℕ, ◌≤◌, List, [], ◌∷◌, Option, Some, None, sym, ap, ◌∙◌, arith, Bool}
use Rattle.std.proofs.Common.{codes, refl, subst}
use Rattle.std.specs.Prelude.{◌+◌, ◌*◌}
use Rattle.rail_base.specs.declared.limits.TheConstants.{MAX_BRANCHINGS, MAX_ROUNDS}
use Rattle.day_files.specs.declared.errors.ReadError.{ReadError}
use Rattle.day_files.specs.declared.errors.ReadError.TheVariants.{CannotRead, Refused, NoMemory}
use Rattle.run_documents.specs.declared.outcome.Outcome.{Outcome}
use Rattle.run_documents.specs.Errors.{outcome_of_error}
use Rattle.plain_words.specs.Items.{WordList, values_in}
use Rattle.commands.specs.declared.command.Command.{Command}
use Rattle.commands.specs.declared.command.Command.TheVariants as command
use Rattle.commands.specs.declared.command.TheConstants.{USUAL_NODES, USUAL_ROUNDS}
use Rattle.plain_words.specs.Numbers.{IsOption}
use Rattle.commands.specs.PlainForm.{IsPlainForm, IsSearch}
use Rattle.commands.proofs.Meanings.{plain_form}
use Rattle.rail_io.specs.Folders.{FolderState}
use Rattle.search.specs.Questions.{AreAsked, AreTheSame, LeavesAdvisors}
use Rattle.search.proofs.Leaving.{left_as, left_by}
use Rattle.planner_app.specs.Advice.{AreAskedFor}
use Rattle.planner_app.specs.Asked.{AskForNoFolder, Grants, HasGrant, IsWithinLimits, folder_of}
use Rattle.planner_app.specs.Outcomes.{ComesTo}

-- words are the plain form of one command at most
pub one_command : (words : WordList) (one other : Command) → IsPlainForm words one → IsPlainForm words other → one ≡ other
one_command words one other first second =
    let both : ◌≡◌ {A = Option Command} (Some one) (Some other) = sym (plain_form words one first) ∙ plain_form words other second in
    cc

-- ---- the limits of its numbers

option_within : (usual most : ℕ) (values : WordList) (number : ℕ) → usual ≤ most → IsOption usual most values number
    → number ≤ most
option_within usual most [] number fits is = omega (arith, fits, is)
option_within usual most (text ∷ []) number fits is = is.limit
option_within usual most (text ∷ again ∷ texts) number fits is = absurd is

search_within : (n k : ℕ) (nodes rounds : WordList) → IsSearch n k nodes rounds → (n ≤ MAX_BRANCHINGS) × (k ≤ MAX_ROUNDS)
search_within n k nodes rounds is = (
  option_within USUAL_NODES MAX_BRANCHINGS nodes n (omega arith) is.0,
  option_within USUAL_ROUNDS MAX_ROUNDS rounds k (omega arith) is.1,
)

-- no more branchings, rounds and trips are asked for than may be
pub within_limits : (words : WordList) (named : Command) → IsPlainForm words named → IsWithinLimits named
within_limits words (command.Plan dir nodes rounds) form =
    search_within nodes rounds (values_in (codes "--nodes") form.items) (values_in (codes "--rounds") form.items) form.meant.1
within_limits words (command.Trial seed trips nodes rounds) form =
    let both = search_within nodes rounds (values_in (codes "--nodes") form.items) (values_in (codes "--rounds") form.items) form.meant.1 in
    (record { even = form.meant.0.even; some = form.meant.0.some; few = form.meant.0.trips_number.limit }, both.0, both.1)
within_limits words (command.Simulate dir) form = tt
within_limits words (command.Check dir) form = tt
within_limits words (command.Duties dir) form = tt
within_limits words (command.Yards dir) form = tt
within_limits words (command.Costs dir) form = tt

-- ---- words ask for what their command does

module _ (words : WordList) (named : Command) (form : IsPlainForm words named) where
  granted : (nodes rounds : ℕ) → HasGrant named nodes rounds → Grants words nodes rounds
  granted nodes rounds is = record { named = named; asked = form; granted = is }

  pub its_grant : (nodes rounds : ℕ) → Grants words nodes rounds → HasGrant named nodes rounds
  its_grant nodes rounds is = subst (λ (it : Command). HasGrant it nodes rounds) (one_command words is.named named is.asked form) is.granted

  pub advisors_left : {A : Type 0} (identity asked : A → ℕ) (has_quit : A → Bool) (before after : List A)
      → LeavesAdvisors (HasGrant named) before after identity asked has_quit → LeavesAdvisors (Grants words) before after identity asked has_quit
  advisors_left identity asked has_quit before after leaves =
      left_as (HasGrant named) (Grants words) identity asked has_quit before after granted its_grant leaves

  pub no_folder : AskForNoFolder words → folder_of named ≡ None
  no_folder none = none named form

-- ---- what a command comes to

-- a command that searches leaves the advisors as its one grant allows
pub searched_by : {A : Type 0} (identity asked : A → ℕ) (has_quit : A → Bool) (named searching : Command) → named ≡ searching → (nodes rounds : ℕ)
    → HasGrant searching nodes rounds → ((n k : ℕ) → HasGrant searching n k → (nodes ≡ n) × (rounds ≡ k)) → (before after : List A)
    → AreTheSame before after identity → AreAsked before after asked has_quit 0 (rounds * (2 * nodes + 1))
    → LeavesAdvisors (HasGrant named) before after identity asked has_quit
searched_by identity asked has_quit named searching is nodes rounds granted only before after same within =
    subst (λ (it : Command). LeavesAdvisors (HasGrant it) before after identity asked has_quit) (sym is)
    (left_by (HasGrant searching) identity asked has_quit nodes rounds granted only before after same within)

-- a command on a folder comes to what it does by another name of the folder
pub comes_there : (old new : FolderState) (it : Outcome)
    (make : List ℕ → Command) (named : Command) (dir there : List ℕ) → there ≡ dir → named ≡ make dir
    → ComesTo (make there) old new it → ComesTo named old new it
comes_there old new it make named dir there here is comes = subst (λ (c : Command). ComesTo c old new it) (ap make here ∙ sym is) comes

-- where no day is read, no advisor is asked
pub none_asked_for : {A : Type 0} (asked : A → ℕ) (has_quit : A → Bool) (rounds : ℕ) (error : ReadError) (it : Outcome)
    (advisors : List A) → it ≡ outcome_of_error error → AreAskedFor rounds it advisors advisors asked has_quit
none_asked_for asked has_quit rounds error it advisors is =
    subst (λ (other : Outcome). AreAskedFor rounds other advisors advisors asked has_quit) (sym is) (by error)
  where
    by : (error : ReadError) → AreAskedFor rounds (outcome_of_error error) advisors advisors asked has_quit
    by (CannotRead read) = refl
    by (Refused why) = refl
    by NoMemory = tt
