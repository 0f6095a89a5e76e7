use Rattle.std.proofs.Common.{◌+◌, length, ℕ, List, ◌++◌, ◌∷◌, [], sym, subst, ap, ◌∙◌}
use Rattle.csv.specs.Records.{fields_of}
use Rattle.rail_csv.specs.Records.{records_left}
use Rattle.urgent_units.specs.declared.wish.WishRow.{WishRow}
use Rattle.urgent_units.specs.WishReading.{AreRows, IsRightAfter}
use Rattle.urgent_units.specs.Wishes.{AreRight, IsFirstBad}
use Rattle.urgent_units.proofs.WishRows.{first_bad, right_with, rows_with}
use Rattle.urgent_units.proofs.wish_table.read_next.Goals as goal

pub returns-in_default-right_row-clause-err : goal.returns-in_default-right_row-clause-err
returns-in_default-right_row-clause-err c seen right =
    let t = rw c.in-Some.is at c.in_ok-found.ensures in
    subst (λ (rs : List (List (List ℕ))). IsFirstBad c.args.instance.now (seen ++ rs) c.next_number.result) (sym t.first)
    (first_bad c.args.instance.now seen (records_left c.next_record.new.records) c.args.rows.now.items (fields_of c.in-Some.found) c.next_number.result right (c.next_number.ensures ∙ ap (λ (rows : List WishRow). length rows + 1) c.deref-in_default-right_row.ensures.value)
    (subst (λ (rows : List WishRow). (row : WishRow) → ¬ IsRightAfter c.args.instance.now rows (fields_of c.in-Some.found) row) c.deref.ensures.value c.in_default-right_row.ensures))

pub returns-clause-ok : goal.returns-clause-ok
returns-clause-ok c seen right =
    let t = rw c.in-Some.is at c.in_ok-found.ensures in
    record {
      next = t.next;
      fields = fields_of c.in-Some.found;
      first = t.first;
      right = subst (λ (rows : List WishRow). AreRight c.args.instance.now (seen ++ fields_of c.in-Some.found ∷ []) rows) (sym c.in_ok-push.ensures.items)
          (right_with c.args.instance.now seen c.args.rows.now.items (fields_of c.in-Some.found) c.in-Some-right_row.row right (subst (λ (rows : List WishRow). IsRightAfter c.args.instance.now rows (fields_of c.in-Some.found) c.in-Some-right_row.row) c.deref.ensures.value c.in-Some-right_row.ensures));
    }

pub returns-clause-rows : goal.returns-clause-rows
returns-clause-rows c =
    subst (AreRows c.args.instance.now) (sym c.in_ok-push.ensures.items)
    (rows_with c.args.instance.now c.args.rows.now.items (fields_of c.in-Some.found) c.in-Some-right_row.row c.requires.rows (subst (λ (rows : List WishRow). IsRightAfter c.args.instance.now rows (fields_of c.in-Some.found) c.in-Some-right_row.row) c.deref.ensures.value c.in-Some-right_row.ensures))
