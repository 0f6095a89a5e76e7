-- The hand-overs of a day: one for each join and each split, in the order of the links.
use Rattle.std.specs.Prelude.{ℕ, ◌+◌, ◌≡◌, ◌<◌, List, [], ◌∷◌, ◌++◌, Option, Some, None, slice_get}
use Rattle.std.specs.List.{All, AllPairs, Contains}
use Rattle.timetable.specs.declared.day.records.Handover.{Handover}
use Rattle.rules.specs.declared.records.Link.{Link}
use Rattle.timetable.specs.Day.{Day}
pub use Rattle.rules.specs.NamedTrips.{second_of}

-- ---- what hand-overs are

-- the hand-over is that of its link, which is a join or a split
pub record IsHandover (links : List Link) (handover : Handover) : Type 0 where
  pub link : Link
  pub at : slice_get links handover.link ≡ Some link
  pub second : second_of link.kind ≡ Some handover.second

-- These are the hand-overs of the day: each is that of its link, every join and every split has one, and they are
-- numbered in the order of the links, so that no link has two.
pub record AreHandovers (day : Day) (handovers : List Handover) : Type 0 where
  pub each : All (IsHandover day.links) handovers
  pub all : (l t : ℕ) (link : Link) → slice_get day.links l ≡ Some link → second_of link.kind ≡ Some t
      → Contains handovers (record { link = l; second = t })
  pub rise : AllPairs (λ a b. a.link < b.link) handovers

-- ---- the hand-overs

-- the hand-over of the link of a number, if it has a second trip
abbrev pub handover_at : ℕ → Option ℕ → List Handover
handover_at number None = []
handover_at number (Some second) = record { link = number; second = second } ∷ []

-- those of links that are numbered from a number on
abbrev pub handovers_from : ℕ → List Link → List Handover
handovers_from number [] = []
handovers_from number (link ∷ links) = handover_at number (second_of link.kind) ++ handovers_from (number + 1) links

unfoldable pub handovers_of : Day → List Handover
handovers_of day = handovers_from 0 day.links
