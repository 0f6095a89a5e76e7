-- The place at which picks that follow are broken, and the sign.
use Rattle.std.proofs.Common.{◌≡◌, ℕ, List, Some, slice_get, refl, subst, sym, ℤ, pos}
use Rattle.std.proofs.lemmas.Option.{slice_get_within}
use Rattle.timetable.specs.Accepted.{IsSoundDay}
use Rattle.timetable.specs.declared.day.indices.Place.{Place}
use Rattle.timetable.specs.Day.{Day}
use Rattle.timetable.specs.Indices.{IsIndexOf, IsPlace, places_of}
use Rattle.timetable.proofs.Indices.{get_place, have_multipliers, index_in}
use Rattle.branch_tree.specs.declared.relaxation.Settled.TheVariants.{Broken}
use Rattle.branch_tree.specs.Bounds.{IsSettled}
use Rattle.price_bound.specs.BrokenLaws.{AreBrokenAt, BrokenAtFirstMissed, BrokenAtFirstFault, SolvedWithoutFault}
use Rattle.price_bound.specs.DayMeanings.{meanings_of}
use Rattle.price_bound.specs.BrokenPlaces.{fault_sign, place_of_fault}
use Rattle.price_bound.specs.Slacks.{broken_index, sign_of, slack_at}
use Rattle.price_bound.proofs.SettledBy.{fault_first, fault_place, fault_signed, first_place, named, sigma_first}
use Rattle.price_bound.proofs.SettledBy.{sigma_signed, solution}

-- a place of the day has an index
has_index : (day : Day) (place : Place) → IsPlace day place → IsIndexOf day place (index_in day place)
has_index day place is =
    let at : slice_get (places_of day) (index_in day place) ≡ Some place = get_place day place is in record {
      within = slice_get_within (places_of day) (index_in day place) place at;
      at = at;
      alone = λ i here. (have_multipliers day).once i (index_in day place) place here at;
    }

-- where picks are broken first
broken_first : (day : Day) (picks : List ℕ) → IsSoundDay day → (place : Place) (sign : ℤ) → IsPlace day place → sign_of (slack_at day picks place) ≡ sign
    → ((index : ℕ) → IsIndexOf day place index → broken_index day picks ≡ Some index) → AreBrokenAt day picks place sign
broken_first day picks accepted place sign is signed first =
    let index_of : IsIndexOf day place (index_in day place) = has_index day place is in
    let settled : IsSettled (meanings_of day) picks (Broken (index_in day place) sign) =
    named day picks accepted place sign (Broken (index_in day place) sign) (record { index_of = index_of; is = refl }) signed first in record {
      index_of = subst (IsIndexOf day place) (sym settled.2) index_of;
      sign_is = settled.3;
    }

pub broken_at_first_missed : BrokenAtFirstMissed
broken_at_first_missed day picks place accepted follow first =
    broken_first day picks accepted place (pos 1) (first_place day picks accepted place first) (sigma_signed day picks accepted place first) (sigma_first day picks accepted place first)

pub broken_at_first_fault : BrokenAtFirstFault
broken_at_first_fault day picks fault accepted follow none is =
    broken_first day picks accepted (place_of_fault fault) (fault_sign day fault) (fault_place day picks accepted fault is) (fault_signed day picks accepted fault is)
    (fault_first day picks accepted fault none is)

pub solved_without_fault : SolvedWithoutFault
solved_without_fault day picks accepted follow none is = solution day picks accepted follow none is
