-- The lines that a run writes, and the texts of faults in them.
use Rattle.std.specs.Prelude.{ℕ, List, [], ◌++◌, codes}
use Rattle.std.specs.Fmt.{decimal, signed_decimal}
use Rattle.rail_base.specs.declared.numbers.Money.{Money}
use Rattle.rail_csv.specs.declared.rows.Table.{Table}
use Rattle.day_files.specs.declared.errors.Refusal.{Refusal}
pub use Rattle.day_files.specs.Lines.{file_refused_line, file_unread_line, line_end}
use Rattle.day_files.specs.Names.{file_name}
use Rattle.day_files.specs.Texts.{refusal_file, refusal_text}
use Rattle.answer_text.specs.declared.refusal.AnswerRefusal.{AnswerRefusal}
use Rattle.answer_text.specs.declared.refusal.AnswerRefusal.TheVariants.{BadLine, MissingEnd, Trailing, TooManyNodes}
use Rattle.answer_text.specs.declared.refusal.AnswerRefusal.TheVariants.{NoMemory}
use Rattle.day_simulator.specs.declared.events.StepFault.{StepFault}
use Rattle.day_simulator.specs.declared.events.StepFault.TheVariants.{NotNow, NoUnits, NotAdmissible, LinkBroken}
use Rattle.day_simulator.specs.declared.events.StepFault.TheVariants.{NotInYard, Balance}

-- ---- why a plan stops

-- a unit that a trip should take is not there and ready
abbrev pub not_ready_text : ℕ → ℕ → List ℕ
not_ready_text unit trip = codes "unit " ++ (decimal unit ++ (codes " is not ready for trip " ++ decimal trip))

-- a station has another number of units of a type at the end than is wanted
abbrev pub balance_text : ℕ → ℕ → ℕ → ℕ → List ℕ
balance_text station unit_type count wanted =
    codes "station " ++ (decimal station ++ (codes " has " ++ (decimal count
    ++ (codes " units of type " ++ (decimal unit_type ++ (codes ", " ++ (decimal wanted ++ codes " wanted")))))))

-- why a plan stops
abbrev pub fault_text : StepFault → List ℕ
fault_text (NotNow event) = codes "event out of turn"
fault_text (NoUnits trip) = codes "trip " ++ (decimal trip ++ codes " has no units")
fault_text (NotAdmissible trip) = codes "trip " ++ (decimal trip ++ codes " has no admissible composition")
fault_text (LinkBroken link) = codes "link " ++ (decimal link ++ codes " is broken")
fault_text (NotInYard unit trip) = not_ready_text unit trip
fault_text (Balance station unit_type count wanted) = balance_text station unit_type count wanted

-- ---- the lines, each with its line feed

-- the plan runs, at this cost
abbrev pub runs_line : Money → List ℕ
runs_line cost = codes "runs " ++ (signed_decimal cost.0 ++ line_end)

-- the plan stops with this fault
abbrev pub stops_line : StepFault → List ℕ
stops_line fault = codes "stops: " ++ (fault_text fault ++ line_end)

-- how the program is used: the commands, one a line
abbrev pub usage_text : List ℕ
usage_text =
    codes "usage: railplan plan DIR [--nodes N] [--rounds K]\n"
    ++ (codes "       railplan simulate DIR\n"
    ++ (codes "       railplan check DIR\n"
    ++ (codes "       railplan duties DIR\n"
    ++ (codes "       railplan yards DIR\n"
    ++ (codes "       railplan costs DIR\n"
    ++ codes "       railplan trial SEED TRIPS [--nodes N] [--rounds K]\n")))))

-- a valid answer has no plan to report on
abbrev pub no_plan_line : List ℕ
no_plan_line = codes "no plan" ++ line_end

-- which trial day was planned
abbrev pub trial_line : ℕ → ℕ → List ℕ
trial_line seed trips = codes "trial " ++ (decimal seed ++ (codes " " ++ (decimal trips ++ line_end)))

-- the file of a table is refused, by its name and why
abbrev pub refused_line : Refusal → List ℕ
refused_line refusal = file_refused_line (file_name (refusal_file refusal)) (refusal_text refusal)

-- the file of a table could not be read, by its name
abbrev pub cannot_read_line : Table → List ℕ
cannot_read_line table = file_unread_line (file_name table)

-- why bytes are no answer; want of memory has the empty text, which is never written
abbrev pub answer_refusal_text : AnswerRefusal → List ℕ
answer_refusal_text (BadLine line) = codes "line " ++ decimal line
answer_refusal_text MissingEnd = codes "no end line"
answer_refusal_text (Trailing line) = codes "line " ++ (decimal line ++ codes " after the end")
answer_refusal_text TooManyNodes = codes "too many nodes"
answer_refusal_text NoMemory = []

abbrev pub too_long_text : List ℕ
too_long_text = codes "too long"
