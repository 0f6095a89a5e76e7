use Rattle.std.proofs.Common.{[], ◌∷◌, sym, ap, ◌∙◌}
use Rattle.advisors.specs.EntriesByIndex.{below}
use Rattle.advisors.specs.Puts.{moved_entry, with_entries, with_entry}
use Rattle.advisors.proofs.Turns.{with_entries-append}
use Rattle.advisors.proofs.subgradient.put_through.Goals as goal

pub returns-clause-put : goal.returns-clause-put
returns-clause-put c =
    c.put_if_room.ensures.put ∙ ap (λ p. with_entry p c.moved_entry.result) c.put_all.ensures.put
    ∙ ap (λ entries. with_entry (with_entries c.args.to.now entries) c.moved_entry.result) (c.count_below.ensures.before ∙ ap (λ n. below n c.args.entries.now) c.from-index.ensures)
    ∙ ap (with_entry (with_entries c.args.to.now (below c.args.slack.index c.args.entries.now))) c.moved_entry.ensures
    ∙ sym (with_entries-append c.args.to.now (below c.args.slack.index c.args.entries.now) (moved_entry c.args.look.now c.args.slack ∷ []))
