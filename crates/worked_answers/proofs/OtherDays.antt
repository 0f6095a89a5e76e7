-- What answers and plans come to on other days, by the laws.
use Rattle.std.proofs.Common.{◌∙◌, arith}
use Rattle.timetable.specs.Accepted.{IsDay, AreUnitsOf}
use Rattle.timetable.specs.Day.{stock_units, type_of}
use Rattle.timetable.specs.DerivedDays.{OtherStockKeepsTimetables, old_number, with_stock, without_trips}
use Rattle.timetable.specs.LinkCounts.{LinksCount, TripsCount}
use Rattle.timetable.specs.Renumbering.{KthUnitsAreAmong, KthUnitsAreRenumbered, PlansRunAmong, kth_number}
use Rattle.timetable.specs.Running.{RunsInParts}
use Rattle.inventory.specs.NamingLaws.{NamedPlansRun, NamesStay, PlansNameTheirPast, ServedPlansRunWithUnits}
use Rattle.inventory.specs.ServingLaws.{PlansOfUnitsAreServed, StandAtStart, UnitsAreLeft, units_after}
use Rattle.unit_duties.specs.LaterDays.{DaysWithoutAreLater, PlansNameTheirPastLater}
use Rattle.answer_check.specs.Laws.{RenumberedIsTrue}
use Rattle.worked_answers.specs.OtherDays.{AnswersHoldOfUnits, PastsAreTakenUp, PlansAreNamedAgain}
use Rattle.worked_answers.specs.OtherDays.{PlansAreNamedWithout, PlansRunInLargerFleets, UnitsStayAtLinks}
use Rattle.worked_answers.specs.OtherDays.{UnitsStayInTrains, WeeksGoOn, plan_with, plan_without}

pub hold_of_units : KthUnitsAreRenumbered → RenumberedIsTrue → AnswersHoldOfUnits
hold_of_units kth is_true day units grant answer same headline =
    is_true (stock_units day) units (kth_number (stock_units day) units) day answer.head answer.runs
    (kth (stock_units day) units same).renumbers headline.holds

-- of each type as many more units end the day at each station as stood there more, and so many more are wanted
pub run_in_fleets : KthUnitsAreAmong → PlansRunAmong → RunsInParts → PlansRunInLargerFleets
run_in_fleets kth among parts day rows plan fleet runs =
    let more = kth (stock_units day) (stock_units (with_stock rows day)) fleet.more in
    let of_more =
    among (stock_units day) (stock_units (with_stock rows day))
    (kth_number (stock_units day) (stock_units (with_stock rows day))) day rows plan more.among runs.is_plan in
    let of_day = (parts (stock_units day) day plan).0 runs in
    (parts (stock_units (with_stock rows day)) (with_stock rows day)
    (plan_with day (stock_units (with_stock rows day)) plan)).1 (
      of_more.runs of_day.0,
      λ s m station unit_type.
          let ends = of_more.ends s m in
          let wanted = fleet.wanted s m station unit_type in
          let balance = of_day.1 s m station unit_type in
          omega (arith, ends, wanted, balance),
    )

pub go_on : UnitsAreLeft → OtherStockKeepsTimetables → ServedPlansRunWithUnits → PlansOfUnitsAreServed → WeeksGoOn
go_on left keeps named served units day plan rows next =
    let timetable = next.sound.limits.timetable in
    let gone = left units day plan timetable next.are_units in
    let is_day : IsDay (with_stock rows day) = record {
      timetable = (keeps day rows).timetable timetable;
      units = next.next_units;
    } in
    let links = (keeps day rows).links next.sound.links in
    let are_units : AreUnitsOf (units_after units day plan) (with_stock rows day) = record {
      home = gone.are_units.home;
      unit_type = gone.are_units.unit_type;
      few = gone.are_units.few;
    } in
    let stand : StandAtStart (units_after units day plan) (with_stock rows day) =
    λ s m station unit_type. gone.standing s m ∙ next.starts s m station unit_type in
    record {
      named = λ types are_served.
          named (units_after units day plan) (with_stock rows day) types is_day links next.stocked are_units stand
          are_served;
      served = λ after.
          served (units_after units day plan) (with_stock rows day) after is_day links next.stocked are_units stand;
    }

pub named_again : PlansNameTheirPast → NamedPlansRun → PlansAreNamedAgain
named_again past named day minute plan types sound agree runs served =
    named day types minute plan sound.limits sound.links sound.stock served
    (past day plan types minute sound.limits sound.links agree runs)

pub taken_up : NamesStay → NamedPlansRun → PastsAreTakenUp
taken_up stay named day minute plan some types sound agree before served =
    named day types minute plan sound.limits sound.links sound.stock served
    (stay day some types minute plan sound.limits sound.links agree before)

pub named_without : DaysWithoutAreLater → PlansNameTheirPastLater → NamedPlansRun → PlansAreNamedWithout
named_without later past named day gone minute plan types sound sound_later spared agree runs served =
    named (without_trips gone day) types minute (plan_without day gone plan) sound_later.limits sound_later.links
    sound_later.stock served
    (past day (without_trips gone day) (old_number day gone) minute plan types sound_later.limits sound.links
    sound_later.links (later day gone minute sound.limits.timetable sound.links spared) agree runs)

pub stay_at_links : LinksCount → UnitsStayAtLinks
stay_at_links law unit_type link lists u a holds arrives some none =
    let counts = (law unit_type link lists u holds).arriving a arrives in
    omega (arith, counts, some, none)

pub stay_in_trains : TripsCount → UnitsStayInTrains
stay_in_trains law day plan t u sound runs some none =
    let counts = (law (type_of day) day plan t u sound.links runs.links).arriving in
    omega (arith, counts, some, none)
