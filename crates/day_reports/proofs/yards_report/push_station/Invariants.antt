use Rattle.std.proofs.Common.{◌≡◌, ◌++◌}
use Rattle.timetable.specs.Lists.{joined}
use Rattle.timetable.specs.Picks.{picked}
use Rattle.day_reports.specs.YardRows.{fields_of_yard}
use Rattle.day_reports.proofs.yards_report.push_station.Given as goal

abbrev pub invariant-loop-number : goal.invariant-loop-number
invariant-loop-number l =
    let lists = picked l.instance l.picks in
    l.report ≡ l.fn.report ++ joined (λ m. fields_of_yard (record { day = l.instance; lists = lists; station = l.station; unit_type = m })) l.number
