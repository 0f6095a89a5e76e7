-- The place of a name in the set is that of its entry.
use Rattle.std.proofs.Common.{◌∙◌, ◌≡◌, ◌<◌, ℕ, length, ap, subst}
use Rattle.std.specs.Prelude.{string_bytes, IfSome}
use Rattle.day_tables.specs.NamedEntries.{find_name}
use Rattle.day_tables.proofs.Names.{as_many, find_among}
use Rattle.day_tables.proofs.building.named.Named.find.Goals as goal

pub returns-clause-value : goal.returns-clause-value
returns-clause-value g c =
    c.get_index_of.ensures.index ∙ find_among string_bytes g.T.HasName.name_of c.self.inside.names.keys c.self.inside.entries.items c.as_str.result.now c.self.invariant
    ∙ (λ i. find_name g.T.HasName.name_of (c.self.view_is i) (c.as_str.ensures.value i))

pub returns-clause-within : goal.returns-clause-within
returns-clause-within g c =
    let names : length c.self.inside.names.keys ≡ length c.args.self.now = as_many string_bytes g.T.HasName.name_of c.self.inside.names.keys c.self.inside.entries.items c.self.invariant ∙ ap length c.self.view_is in
    subst (λ (n : ℕ). IfSome c.get_index_of.result (λ place. place < n)) names c.get_index_of.ensures.within
