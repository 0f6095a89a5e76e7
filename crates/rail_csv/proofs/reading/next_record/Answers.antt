use Rattle.rail_csv.proofs.Records.{took, ended, no_lengths}
use Rattle.rail_csv.proofs.reading.next_record.Goals as goal

pub returns-in_default : goal.returns-in_default
returns-in_default c =
    let r = c.requires in
    let step = rw c.in_default.is at ((c.next.ensures.steps r.turns r.trim).0 r.ready) in
    ended c.args.records.now c.next.new.self c.next.new.self.left r step

pub returns : goal.returns
returns c =
    let r = c.requires in
    let step = rw (c.in-Some.is, c.in_ok-found.ensures) at ((c.next.ensures.steps r.turns r.trim).0 r.ready) in
    let flexible = rw (c.in-Some.is, c.in_ok-found.ensures) at (c.next.ensures.steps r.turns r.trim).3 in
    took c.args.records.now c.next.new.self c.in_ok-found.found r step flexible

pub record_of-requires : goal.record_of-requires
record_of-requires c =
    let r = c.requires in
    let step = rw c.in-Some.is at ((c.next.ensures.steps r.turns r.trim).0 r.ready) in
    no_lengths c.args.records.now c.next.new.self c.in-Some.read r step
