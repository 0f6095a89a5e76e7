-- The table that is filled with picks holds their counts.
use Rattle.std.proofs.Common.{ℕ, List, length, ℤ, ap, sym, subst, ◌∙◌}
use Rattle.timetable.specs.Picks.{picked}
use Rattle.inventory.specs.Counted.{IsCountTable}
use Rattle.inventory.specs.Loaded.{Loaded}
use Rattle.inventory.proofs.Holds.{filled}
use Rattle.inventory.proofs.ledger.Ledger.load.Goals as goal

pub invariant_of-self : goal.invariant_of-self
invariant_of-self c =
    let day = c.self.inside.instance.now in
    let before = c.self.invariant in (
      ap length c.copy_from.ensures ∙ c.requires.trips ∙ sym (ap (λ (loaded : Loaded). length loaded.day.trips) c.self.view_is),
      before.1,
      subst (λ (picks : List ℕ). IsCountTable day (picked day picks) c.fill.new.self) (sym c.copy_from.ensures)
          (subst (λ (T : List (List (List ℤ))). IsCountTable day (picked day c.args.picks.now) T) (sym c.fill.ensures.filled)
          (filled day before.1 (picked day c.args.picks.now) c.self.inside.counts (before.2).places c.fill.ensures.few)),
    )
