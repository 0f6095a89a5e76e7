use Rattle.std.proofs.Common.{ap, ◌∙◌}
use Rattle.run_documents.specs.Lines.{not_ready_text}
use Rattle.run_documents.proofs.document.not_ready_text.Goals as goal

-- the numbers that are printed are those that the clause sees
pub returns : goal.returns
returns c =
    c.in_ok-format.ensures.ok
    ∙ ap (λ unit. not_ready_text unit c.trip.inside.0) c.unit.view_is
    ∙ ap (λ trip. not_ready_text c.args.unit trip) c.trip.view_is
