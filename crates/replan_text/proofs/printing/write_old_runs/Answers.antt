use Rattle.std.proofs.Common.{ℕ, ◌++◌, ◌∷◌, [], ap, ◌∙◌}
use Rattle.std.specs.Prelude.{string_bytes}
use Rattle.answer_text.specs.Lines.{text_of_lines}
use Rattle.answer_text.specs.Texts.{run_line}
use Rattle.replan_text.proofs.OldRuns.{none_written, none_yet, one_written}
use Rattle.replan_text.proofs.printing.write_old_runs.Goals as goal
use Rattle.replan_text.proofs.printing.write_old_runs.Goals.{then-trip-numbers+in_ok-write_run, else-trip-numbers}

pub loop-trip-init : goal.loop-trip-init
loop-trip-init c = none_yet (string_bytes c.args.text.now) c.args.numbers.now

pub loop-trip-preserved : goal.loop-trip-preserved
loop-trip-preserved c = elim c.if-trip-numbers.branch [
  | then-trip-numbers+in_ok-write_run w ↦
      one_written (string_bytes c.args.text.now) (string_bytes c.loop-trip.text) (string_bytes c.if-trip-numbers.text) c.args.numbers.now c.args.runs.now c.loop-trip.trip
      w.index-numbers-trip.result w.index-runs-trip.result w.if-trip-numbers.true c.loop-trip-test.true w.index-numbers-trip.is w.index-runs-trip.is c.loop-trip.invariant
      (ap string_bytes w.text-is ∙ w.in_ok-write_run.ensures
      ∙ ap (λ (n : ℕ). string_bytes c.loop-trip.text ++ text_of_lines (run_line n w.index-runs-trip.result ∷ [])) w.place.ensures.number)
  | else-trip-numbers w ↦
      ap string_bytes w.text-is
      ∙ none_written (string_bytes c.args.text.now) (string_bytes c.loop-trip.text) c.args.numbers.now c.args.runs.now c.loop-trip.trip w.if-trip-numbers.false c.loop-trip.invariant
]
