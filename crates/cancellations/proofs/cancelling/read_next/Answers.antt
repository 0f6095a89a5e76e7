use Rattle.std.proofs.Common.{ℕ, List, arith, subst}
use Rattle.csv.specs.Records.{fields_of}
use Rattle.rail_csv.specs.Records.{records_left}
use Rattle.cancellations.specs.Cancellations.{Cancels}
use Rattle.cancellations.proofs.cancelling.read_next.Goals as goal

pub returns-in_default-cancelled_by-clause-err : goal.returns-in_default-cancelled_by-clause-err
returns-in_default-cancelled_by-clause-err c =
    let t = rw c.in-Some.is at c.in_ok-row.ensures in
    record {
      fields = fields_of c.in-Some.row;
      after = records_left c.next_record.new.records;
      first = t.first;
      number = omega (arith, c.len.ensures, c.args.trips.now.ok.0);
      wrong = subst (λ (others : List ℕ). (t : ℕ) → Cancels c.args.instance.now c.args.now others (fields_of c.in-Some.row) t → ⊥) c.deref.ensures.value
          c.in_default-cancelled_by.ensures.none;
    }

pub returns-clause-ok : goal.returns-clause-ok
returns-clause-ok c =
    let t = rw c.in-Some.is at c.in_ok-row.ensures in
    record {
      reads = t.next;
      fields = fields_of c.in-Some.row;
      first = t.first;
      trip = c.in-Some-cancelled_by.trip;
      cancels = subst (λ (others : List ℕ). Cancels c.args.instance.now c.args.now others (fields_of c.in-Some.row) c.in-Some-cancelled_by.trip) c.deref.ensures.value
          c.in-Some-cancelled_by.ensures.some;
      items = c.in_ok-push.ensures.items;
    }
