-- The flags of the trips that the link names are put up.
use Rattle.std.proofs.Common.{◌≡◌, ◌∙◌, ℕ, length, ap, sym, subst}
use Rattle.day_tables.specs.Flags.{LinksOfTrips}
use Rattle.day_tables.specs.LinkRows.{NamesBelow}
use Rattle.day_tables.specs.Links.{arriving_in, departing_in}
use Rattle.day_tables.proofs.Flags.{length-marked, flags_after}
use Rattle.day_tables.proofs.building.linked.Linked.push.Goals as goal

pub mark_named-requires : goal.mark_named-requires
mark_named-requires c = subst (λ (n : ℕ). NamesBelow n c.args.link.now.kind) (sym (ap (λ (so : LinksOfTrips). so.trips) c.self.view_is)) c.requires

pub mark_named-requires-2 : goal.mark_named-requires-2
mark_named-requires-2 c = subst (λ (n : ℕ). NamesBelow n c.args.link.now.kind) (sym (c.self.invariant.as_many ∙ ap (λ (so : LinksOfTrips). so.trips) c.self.view_is)) c.requires

pub invariant_of-self-2 : goal.invariant_of-self-2
invariant_of-self-2 c =
    let as_many : length c.mark_named-2.new.flags.items ≡ length c.mark_named.new.flags.items = ap length c.mark_named-2.ensures ∙ length-marked (departing_in c.args.link.now.kind) c.self.inside.departing.items
    ∙ c.self.invariant.as_many ∙ sym (ap length c.mark_named.ensures ∙ length-marked (arriving_in c.args.link.now.kind) c.self.inside.arriving.items) in
    record {
      as_many = as_many;
      arriving = flags_after arriving_in c.self.inside.links.items c.push.new.self.items c.args.link.now c.self.inside.arriving.items c.mark_named.new.flags.items c.self.invariant.arriving c.in_ok-push.ensures.items c.mark_named.ensures;
      departing = flags_after departing_in c.self.inside.links.items c.push.new.self.items c.args.link.now c.self.inside.departing.items c.mark_named-2.new.flags.items c.self.invariant.departing c.in_ok-push.ensures.items c.mark_named-2.ensures;
    }
