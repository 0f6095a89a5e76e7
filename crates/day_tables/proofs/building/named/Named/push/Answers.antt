-- The name of the entry comes last among the names, as the entry does among the entries.
use Rattle.std.proofs.Common.{◌∙◌, ◌≡◌, false}
use Rattle.std.specs.Prelude.{string_bytes}
use Rattle.day_tables.specs.NamedEntries.{has_name}
use Rattle.day_tables.proofs.Names.{names_after}
use Rattle.day_tables.proofs.building.named.Named.push.Goals as goal

pub invariant_of-self-in-Ok : goal.invariant_of-self-in-Ok
invariant_of-self-in-Ok g c =
    let named : string_bytes c.in_ok-name.name ≡ g.T.HasName.name_of c.args.entry = c.in_ok-name.ensures.ok ∙ c.as_str.ensures.value ∙ c.name.ensures in
    let new : has_name g.T.HasName.name_of c.self.inside.entries.items (g.T.HasName.name_of c.args.entry) ≡ false = (λ i. has_name g.T.HasName.name_of (c.self.view_is i) (g.T.HasName.name_of c.args.entry)) ∙ c.requires in
    names_after g.T.HasName.name_of c.self.inside.names.keys c.insert.new.self.keys c.self.inside.entries.items c.push.new.self.items c.in_ok-name.name c.args.entry
    c.self.invariant named new c.in-Ok.ensures.keys c.in_ok-push.ensures.items
