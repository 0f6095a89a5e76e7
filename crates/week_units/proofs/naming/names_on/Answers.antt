use Rattle.std.proofs.Common.{◌≡◌, ◌∙◌, ℕ, List, ap, arith, length}
use Rattle.rules.specs.declared.records.Unit as unit
use Rattle.timetable.specs.Day.{Units, unit_count}
use Rattle.timetable.specs.Lists.{listed}
use Rattle.timetable.specs.Renumbering.{kth_number}
use Rattle.week_units.specs.Listed.{units_listed}
use Rattle.week_units.proofs.NamedDays.{kth_are_names, stock_listed}
use Rattle.week_units.proofs.naming.names_on.Goals as goal

pub returns : goal.returns
returns c =
    let units = units_listed c.args.units.now in
    let own = c.in_ok-own.own.items in
    let all : c.loop-unit.unit ≡ length own = omega arith in
    kth_are_names units c.args.instance.now c.loop-unit.numbers.items c.requires.as_many
    (c.loop-unit.invariant
    ∙ ap (λ (n : ℕ). listed (kth_number (units_listed own) units) n) all
    ∙ ap (λ (us : List unit.Unit). listed (kth_number (units_listed us) units) (length us)) c.in_ok-own.ensures
    ∙ ap (λ (us : Units). listed (kth_number us units) (unit_count c.args.instance.now))
    (stock_listed c.args.instance.now))
