-- A name of the set is that of an entry.
use Rattle.std.proofs.Common.{◌∙◌}
use Rattle.std.specs.Prelude.{string_bytes}
use Rattle.day_tables.specs.NamedEntries.{has_name}
use Rattle.day_tables.proofs.Names.{has_among}
use Rattle.day_tables.proofs.building.named.Named.has.Goals as goal

pub returns : goal.returns
returns g c =
    c.contains.ensures ∙ has_among string_bytes g.T.HasName.name_of c.self.inside.names.keys c.self.inside.entries.items c.as_str.result.now c.self.invariant
    ∙ (λ i. has_name g.T.HasName.name_of (c.self.view_is i) (c.as_str.ensures.value i))
