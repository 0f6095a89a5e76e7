-- No link names a trip, and no flag is up.
use Rattle.std.proofs.Common.{◌≡◌, List, [], length, false, rules, replicate, subst, sym, ap, ◌∙◌}
use Rattle.day_tables.specs.Flags.{IsFlagged}
use Rattle.rules.specs.declared.records.Link.{Link}
use Rattle.day_tables.specs.Links.{arriving_in, departing_in}
use Rattle.day_tables.proofs.Flags.{flags_down}
use Rattle.day_tables.proofs.building.linked.Linked.new.Goals as goal

pub invariant_of-result : goal.invariant_of-result
invariant_of-result c =
    let first : c.in_ok-vec.field-0.items ≡ replicate c.args.trips false = search rules in
    let second : c.in_ok-vec-2.field-0.items ≡ replicate c.args.trips false = search rules in
    record {
      as_many = ap length second ∙ sym (ap length first);
      arriving = subst (λ (links : List Link). IsFlagged arriving_in links c.in_ok-vec.field-0.items) (sym c.new.ensures.items) (subst (IsFlagged arriving_in []) (sym first) (flags_down arriving_in c.args.trips));
      departing = subst (λ (links : List Link). IsFlagged departing_in links c.in_ok-vec-2.field-0.items) (sym c.new.ensures.items) (subst (IsFlagged departing_in []) (sym second) (flags_down departing_in c.args.trips));
    }
