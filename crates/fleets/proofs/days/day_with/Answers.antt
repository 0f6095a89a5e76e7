-- The tables with the rows of the fleet make the day with it.
use Rattle.std.proofs.Common.{◌≡◌, ◌∙◌, Ok, ap, sym}
use Rattle.rail_csv.specs.declared.rows.StockRow.{StockRow}
use Rattle.std.proofs.Common.{List}
use Rattle.timetable.specs.Build.{day_of}
use Rattle.timetable.proofs.Accepting.{same_ok}
use Rattle.fleets.specs.Fleets.{tables_with, with_fleet}
use Rattle.fleets.proofs.FleetDays.{tables_make_days_of_fleets}
use Rattle.fleets.proofs.days.day_with.Goals as goal

pub returns-in-Ok-build : goal.returns-in-Ok-build
returns-in-Ok-build c =
    let read : c.in-Ok.tables ≡ c.requires.made.tables = same_ok c.in-Ok.tables c.requires.made.tables (sym c.in-Ok.ensures.exact ∙ c.requires.made.read) in
    let made : day_of (tables_with c.args.instance.now c.args.fleet.now c.in-Ok.tables) ≡ Ok (with_fleet c.args.fleet.now c.args.instance.now) =
    tables_make_days_of_fleets c.in-Ok.tables c.args.instance.now c.args.fleet.now (ap day_of read ∙ c.requires.made.made) c.requires.fleet in
    let rows : c.with_rows.result ≡ tables_with c.args.instance.now c.args.fleet.now c.in-Ok.tables =
    c.with_rows.ensures ∙ ap (λ (rows : List StockRow). record c.in-Ok.tables { stock = rows }) c.in_ok-rows.ensures.rows in
    same_ok c.in-Ok-build.day (with_fleet c.args.fleet.now c.args.instance.now) (sym c.in-Ok-build.ensures.exact ∙ ap day_of rows ∙ made)
