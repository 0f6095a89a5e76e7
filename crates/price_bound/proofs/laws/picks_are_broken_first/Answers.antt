use Rattle.price_bound.proofs.BrokenPlaces.{broken_at_first_fault, broken_at_first_missed, solved_without_fault}
use Rattle.price_bound.proofs.MissedParts.{parts_are_missed_or_not}
use Rattle.price_bound.proofs.laws.picks_are_broken_first.Goals as goal

pub returns : goal.returns
returns c = record { parts = parts_are_missed_or_not; missed = broken_at_first_missed; fault = broken_at_first_fault; solved = solved_without_fault }
