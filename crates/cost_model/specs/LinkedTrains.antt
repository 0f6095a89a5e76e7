-- The trains between which a link leads.
use Rattle.std.specs.Prelude.{ℕ, ◌≡◌, List, Some, slice_get}
use Rattle.rules.specs.declared.records.Link.{Link}
use Rattle.timetable.specs.Chains.{leads_from, leads_to}
use Rattle.timetable.specs.Day.{Day}
use Rattle.timetable.specs.Links.{list_of}

-- where the trips have these lists, the link of this number leads a chain from the one list to the other
pub record LeadsBetween (day : Day) (number : ℕ) (lists : List (List ℕ)) (arriving departing : List ℕ) : Type 0 where
  pub link : Link
  pub at : slice_get day.links number ≡ Some link
  pub from : list_of lists (leads_from link.kind) ≡ arriving
  pub to : list_of lists (leads_to link.kind) ≡ departing
