use Rattle.std.proofs.Common.{◌≡◌, ◌∙◌, sym, subst}
use Rattle.day_tables.specs.declared.building.tables.Tables.{Tables}
use Rattle.trial_day.specs.AcceptedTables.{MakeADay}
use Rattle.trial_day.specs.Trial.{trial_tables_of, trial_weights}
use Rattle.trial_day.proofs.Accepting.{trial_days_are_accepted}
use Rattle.trial_day.proofs.building.trial_tables.Goals as goal

pub returns-clause-accepted : goal.returns-clause-accepted
unfolding trial_tables_of
returns-clause-accepted c =
    let types = c.of.ensures ∙ c.in_ok-types.ensures in
    let stations = c.of-2.ensures ∙ c.in_ok-stations.ensures in
    let stock = c.of-3.ensures ∙ c.in_ok-stock.ensures in
    let trips = c.of-4.ensures ∙ c.in_ok-trips.ensures in
    let links = c.of-5.ensures ∙ c.in_ok-links.ensures in
    let made : ◌≡◌ {A = Tables} (record { types = c.of.result; stations = c.of-2.result; stock = c.of-3.result; trips = c.of-4.result; links = c.of-5.result; weights = trial_weights }) (trial_tables_of c.args.seed c.args.trips) =
    λ i. record { types = types i; stations = stations i; stock = stock i; trips = trips i; links = links i; weights = trial_weights } in
    subst MakeADay (sym made) (trial_days_are_accepted c.args.seed c.args.trips c.requires.size)
