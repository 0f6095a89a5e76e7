-- Picks that are near a region: they lie in it and follow, and the part of each join and split lies in it too.
use Rattle.std.specs.Prelude.{ℕ, ◌≡◌, ◌<◌, List, length, Bool, IsTrue, Some, slice_get}
use Rattle.rules.specs.declared.records.Link.{Link}
use Rattle.timetable.specs.Compositions.{compositions_of, composition_at}
use Rattle.timetable.specs.Day.{Day}
use Rattle.timetable.specs.Handovers.{second_of}
use Rattle.timetable.specs.Picks.{picked}
use Rattle.branch_tree.specs.Regions.{are_in, has}
use Rattle.price_bound.specs.FollowingPicks.{Follow, part_of}

-- types are those of a composition that a region has for a trip
pub record LieIn (day : Day) (region : List (List Bool)) (t : ℕ) (types : List ℕ) : Type 0 where
  pub comp : ℕ
  pub listed : comp < length (compositions_of day)
  pub are : composition_at day comp ≡ types
  pub inside : IsTrue (has region t comp)

pub record AreNear (day : Day) (picks : List ℕ) (region : List (List Bool)) : Type 0 where
  pub inside : IsTrue (are_in picks region)
  pub follow : Follow day picks
  pub parts : (l t : ℕ) (link : Link) → slice_get day.links l ≡ Some link → second_of link.kind ≡ Some t →
      LieIn day region t (part_of link (picked day picks))
