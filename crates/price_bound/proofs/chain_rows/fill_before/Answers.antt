-- Where no link leads on there is no cell.
use Rattle.std.proofs.Common.{◌≡◌, ℕ, ◌+◌, Option, None, length, replicate, sym, ap, ◌∙◌, subst}
use Rattle.timetable.specs.Links.{outgoing}
use Rattle.price_bound.specs.declared.cells.Cell.{Cell}
use Rattle.price_bound.specs.CellRows.{all_bare, comps_of}
use Rattle.price_bound.specs.CellSizes.{AreSmallCells}
use Rattle.price_bound.specs.Pricing.{priced_by}
use Rattle.price_bound.proofs.ChainCells.{const_row, none_small}
use Rattle.price_bound.proofs.EdgeGroups.{bare_none, row_of_none}
use Rattle.price_bound.proofs.RunsAhead.{row_runs}
use Rattle.price_bound.proofs.chain_rows.fill_before.Goals as goal

pub returns-in-None-clause-row : goal.returns-in-None-clause-row
returns-in-None-clause-row c =
    let none : Option Cell = None in
    let last : outgoing c.args.pricing.now.instance.now c.args.trip ≡ None = sym c.outgoing.ensures.value ∙ c.in-None.is in
    c.clear.ensures ∙ const_row none c.args.row.now ∙ ap (λ (n : ℕ). replicate n none) c.requires.row
    ∙ sym (ap all_bare (row_of_none (priced_by c.args.pricing.now) c.args.trip c.args.ahead.now last)
    ∙ bare_none (comps_of (priced_by c.args.pricing.now)))

pub returns-in-None-clause-small : goal.returns-in-None-clause-small
returns-in-None-clause-small c bound small =
    let none : Option Cell = None in
    subst (AreSmallCells (bound + 21000000000000000)) (sym (c.clear.ensures ∙ const_row none c.args.row.now))
    (none_small (bound + 21000000000000000) (length c.args.row.now))

pub returns-in-None-clause-runs : goal.returns-in-None-clause-runs
returns-in-None-clause-runs c =
    row_runs (priced_by c.args.pricing.now) c.args.trip c.args.ahead.now c.clear.new.self (returns-in-None-clause-row c)

pub returns-in-Some-clause-runs : goal.returns-in-Some-clause-runs
returns-in-Some-clause-runs c =
    row_runs (priced_by c.args.pricing.now) c.args.trip c.args.ahead.now c.fill_by_link.new.row c.fill_by_link.ensures.row
