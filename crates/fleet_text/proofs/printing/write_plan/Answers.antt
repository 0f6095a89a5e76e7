use Rattle.std.proofs.Common.{ℕ, List, ◌++◌, ap, ◌∙◌}
use Rattle.std.specs.Prelude.{string_bytes}
use Rattle.answer_text.specs.Lines.{text_of_lines}
use Rattle.answer_text.specs.Texts.{run_lines}
use Rattle.fleet_text.specs.FleetLines.{places_told}
use Rattle.fleet_text.proofs.Written.{adds_on}
use Rattle.fleet_text.proofs.printing.write_plan.Goals as goal

pub returns : goal.returns
returns c =
    adds_on _ _ _ (places_told c.args.types c.args.chosen.stock) (run_lines 0 c.args.chosen.plan) c.in_ok-write_places.ensures
    (c.in_ok-write_runs.ensures
    ∙ ap (λ (runs : List (List ℕ)). string_bytes c.write_places.new.text ++ text_of_lines (run_lines 0 runs)) (c.deref.ensures.value ∙ c.into_lists-runs.ensures))
