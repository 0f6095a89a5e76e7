use Rattle.std.proofs.Common.{rules}
use Rattle.week_files.proofs.ReadDays.{ended_at, none_read, one_more_read, out_of_memory, read_all}
use Rattle.week_files.proofs.days.days_in.Goals as goal

pub loop-place-init : goal.loop-place-init
loop-place-init g c = none_read _ _ c.new-days.result.items c.new-days.ensures.items

pub loop-place-preserved : goal.loop-place-preserved
loop-place-preserved g c =
    one_more_read _ _ _ _ _ _ c.loop-place.invariant c.numbered_day.ensures.only_reads c.in_ok-day.day _ c.in_ok-keep.ensures.kept
    c.in_ok-day.ensures.made c.in_ok-day.ensures.told c.in_ok-day.ensures.fault_counted

pub returns-clause-told : goal.returns-clause-told
returns-clause-told g c = λ files tells.
    read_all _ _ _ _ _ c.loop-place.invariant c.args.count c.loop-place.auto.place-end c.loop-place-test.false files tells

pub returns-in_err-day-clause-told : goal.returns-in_err-day-clause-told
returns-in_err-day-clause-told g c = λ files tells.
    let ended =
    (ended_at _ _ _ _ _ _ c.loop-place.invariant c.numbered_day.ensures.only_reads c.args.count c.in_err-day.field-0.0
    c.loop-place-test.true c.in_err-day.ensures.number c.in_err-day.ensures.told c.in_err-day.ensures.says c.in_err-day.ensures.caused
    c.in_err-day.ensures.fault_counted) in
    let so = ended.told files tells in
    search rules

pub returns-in_err-day-clause-says : goal.returns-in_err-day-clause-says
returns-in_err-day-clause-says g c =
    let ended =
    (ended_at _ _ _ _ _ _ c.loop-place.invariant c.numbered_day.ensures.only_reads c.args.count c.in_err-day.field-0.0
    c.loop-place-test.true c.in_err-day.ensures.number c.in_err-day.ensures.told c.in_err-day.ensures.says c.in_err-day.ensures.caused
    c.in_err-day.ensures.fault_counted) in
    let so = ended.says in
    search rules

pub returns-in_err-day-clause-caused : goal.returns-in_err-day-clause-caused
returns-in_err-day-clause-caused g c =
    let ended =
    (ended_at _ _ _ _ _ _ c.loop-place.invariant c.numbered_day.ensures.only_reads c.args.count c.in_err-day.field-0.0
    c.loop-place-test.true c.in_err-day.ensures.number c.in_err-day.ensures.told c.in_err-day.ensures.says c.in_err-day.ensures.caused
    c.in_err-day.ensures.fault_counted) in
    let so = ended.caused in
    search rules

pub returns-in_err-day-clause-fault_counted : goal.returns-in_err-day-clause-fault_counted
returns-in_err-day-clause-fault_counted g c = λ counting.
    let ended =
    (ended_at _ _ _ _ _ _ c.loop-place.invariant c.numbered_day.ensures.only_reads c.args.count c.in_err-day.field-0.0
    c.loop-place-test.true c.in_err-day.ensures.number c.in_err-day.ensures.told c.in_err-day.ensures.says c.in_err-day.ensures.caused
    c.in_err-day.ensures.fault_counted) in
    let so = ended.counted counting in
    search rules

pub returns-in_err-day-clause-only_reads : goal.returns-in_err-day-clause-only_reads
returns-in_err-day-clause-only_reads g c =
    (ended_at _ _ _ _ _ _ c.loop-place.invariant c.numbered_day.ensures.only_reads c.args.count c.in_err-day.field-0.0
    c.loop-place-test.true c.in_err-day.ensures.number c.in_err-day.ensures.told c.in_err-day.ensures.says c.in_err-day.ensures.caused
    c.in_err-day.ensures.fault_counted).only_reads

pub returns-in_err-keep-clause-told : goal.returns-in_err-keep-clause-told
returns-in_err-keep-clause-told g c = λ files tells.
    let ended =
    (out_of_memory _ _ _ _ _ _ c.loop-place.invariant c.numbered_day.ensures.only_reads c.args.count c.in_err-keep.field-0.0
    c.loop-place-test.true c.in_err-keep.ensures.err c.in_ok-day.ensures.fault_counted) in
    let so = ended.told files tells in
    search rules

pub returns-in_err-keep-clause-says : goal.returns-in_err-keep-clause-says
returns-in_err-keep-clause-says g c =
    let ended =
    (out_of_memory _ _ _ _ _ _ c.loop-place.invariant c.numbered_day.ensures.only_reads c.args.count c.in_err-keep.field-0.0
    c.loop-place-test.true c.in_err-keep.ensures.err c.in_ok-day.ensures.fault_counted) in
    let so = ended.says in
    search rules

pub returns-in_err-keep-clause-caused : goal.returns-in_err-keep-clause-caused
returns-in_err-keep-clause-caused g c =
    let ended =
    (out_of_memory _ _ _ _ _ _ c.loop-place.invariant c.numbered_day.ensures.only_reads c.args.count c.in_err-keep.field-0.0
    c.loop-place-test.true c.in_err-keep.ensures.err c.in_ok-day.ensures.fault_counted) in
    let so = ended.caused in
    search rules

pub returns-in_err-keep-clause-fault_counted : goal.returns-in_err-keep-clause-fault_counted
returns-in_err-keep-clause-fault_counted g c = λ counting.
    let ended =
    (out_of_memory _ _ _ _ _ _ c.loop-place.invariant c.numbered_day.ensures.only_reads c.args.count c.in_err-keep.field-0.0
    c.loop-place-test.true c.in_err-keep.ensures.err c.in_ok-day.ensures.fault_counted) in
    let so = ended.counted counting in
    search rules

pub returns-in_err-keep-clause-only_reads : goal.returns-in_err-keep-clause-only_reads
returns-in_err-keep-clause-only_reads g c =
    (out_of_memory _ _ _ _ _ _ c.loop-place.invariant c.numbered_day.ensures.only_reads c.args.count c.in_err-keep.field-0.0
    c.loop-place-test.true c.in_err-keep.ensures.err c.in_ok-day.ensures.fault_counted).only_reads
