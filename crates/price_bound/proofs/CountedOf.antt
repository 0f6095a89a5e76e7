-- What is known of picks that are looked at with their counts.
use Rattle.std.proofs.Common.{◌≡◌, ℕ, List, subst, ap, sym, ◌∙◌, ℤ, pos, neg_ℤ, ◌≤ℤ◌}
use Rattle.timetable.specs.Day.{Day}
use Rattle.timetable.specs.Picks.{picked}
use Rattle.inventory.specs.Counts.{count_of_place, end_count_of}
use Rattle.inventory.specs.Loaded.{Loaded}
use Rattle.transitions.specs.declared.edge.Edge.{Edge}
use Rattle.price_bound.specs.Entered.{Counted, IsCounted}
use Rattle.price_bound.proofs.FewTaken.{least_count, least_last}
use Rattle.price_bound.proofs.Whole.{are_picks}

pub counted_of : (counted : Counted) (day : Day) (graphs : List (List Edge)) (ledger : Loaded) (picks : List ℕ) → record { day = day; picks = picks } ≡ counted
    → IsCounted day graphs ledger picks → IsCounted counted.day graphs ledger counted.picks
counted_of counted day graphs ledger picks view is = subst (λ (x : Counted). IsCounted x.day graphs ledger x.picks) view is

module _ (counted : Counted) (graphs : List (List Edge)) (ledger : Loaded) (is : IsCounted counted.day graphs ledger counted.picks) where
  -- a count of the ledger, and an end of it
  pub count_is : (s m k : ℕ) (count : ℤ) → count ≡ count_of_place ledger.day ledger.lists s m k → count ≡ count_of_place counted.day (picked counted.day counted.picks) s m k
  count_is s m k count e = e ∙ ap (λ (x : Loaded). count_of_place x.day x.lists s m k) is.counted

  pub end_is : (s m : ℕ) (count : ℤ) → count ≡ end_count_of ledger.day ledger.lists s m → count ≡ end_count_of counted.day (picked counted.day counted.picks) s m
  end_is s m count e = e ∙ ap (λ (x : Loaded). end_count_of x.day x.lists s m) is.counted

  pub least_counted : (s m k : ℕ) (count : ℤ) → count ≡ count_of_place ledger.day ledger.lists s m k → neg_ℤ (pos 2400) ≤ℤ count
  least_counted s m k count e =
      subst (λ (x : ℤ). neg_ℤ (pos 2400) ≤ℤ x) (sym (count_is s m k count e)) (least_count counted.day counted.picks is.accepted.limits (are_picks counted.day counted.picks is.follow) s m _)

  pub least_end : (s m : ℕ) (count : ℤ) → count ≡ end_count_of ledger.day ledger.lists s m → neg_ℤ (pos 2400) ≤ℤ count
  least_end s m count e =
      subst (λ (x : ℤ). neg_ℤ (pos 2400) ≤ℤ x) (sym (end_is s m count e)) (least_last counted.day counted.picks is.accepted.limits (are_picks counted.day counted.picks is.follow) s m)
