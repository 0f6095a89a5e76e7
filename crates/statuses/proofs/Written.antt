-- What was written is what another run would have written whose documents are these too.
use Rattle.std.proofs.Common.{ℕ, List, Option}
use Rattle.statuses.specs.Written.{Nothing, Part, Whole, Wrote}

pub Wrote-as : {P Q : List ℕ → Type 0} {said status : ℕ} {before after : Option (List ℕ)} {faults faults' : ℕ} → ((text : List ℕ) → P text → Q text)
    → Wrote P said status before after faults faults' → Wrote Q said status before after faults faults'
Wrote-as goes (Whole text is appended says) = Whole text (goes text is) appended says
Wrote-as goes (Part text is appended rose says) = Part text (goes text is) appended rose says
Wrote-as goes (Nothing same says) = Nothing same says
