-- What the relaxation of a day means.
use Rattle.std.specs.Prelude.{ℕ, ◌≡◌, List, [], ◌∷◌, ◌++◌, length, pos}
use Rattle.timetable.specs.Accepted.{IsSoundDay}
use Rattle.timetable.specs.Chains.{chains_of}
use Rattle.timetable.specs.Compositions.{compositions_of}
use Rattle.timetable.specs.Cost.{cost_of}
use Rattle.timetable.specs.Day.{Day}
use Rattle.timetable.specs.Indices.{lambdas_of, places_of}
use Rattle.timetable.specs.Picks.{IsSolution, picked}
use Rattle.branch_tree.specs.Meanings.{IsRelaxation, Meanings}
use Rattle.inventory.specs.Loaded.{Loaded}
use Rattle.transitions.specs.declared.edge.Edge.{Edge}
use Rattle.transitions.specs.Edges.{AreGraphs}
use Rattle.price_bound.specs.FollowingPicks.{Follow}
use Rattle.price_bound.specs.Near.{AreNear}
use Rattle.price_bound.specs.Slacks.{broken_at, slack_of}

-- lists one after another
abbrev pub one_after_another : List (List ℕ) → List ℕ
one_after_another [] = []
one_after_another (list ∷ lists) = list ++ one_after_another lists

-- the trips chain by chain, each from its first trip on
unfoldable pub trips_by_chain : Day → List ℕ
trips_by_chain day = one_after_another (chains_of day)

-- Picks cost what their compositions cost. They are a solution where a plan of named units runs that has their types.
abbrev pub meanings_of : Day → Meanings
meanings_of day = record {
  trips = length day.trips;
  indices = length (places_of day);
  free_from = length (lambdas_of day);
  catalogue = compositions_of day;
  order = trips_by_chain day;
  cost = λ picks. pos (cost_of day (picked day picks));
  slack = slack_of day;
  Follow = Follow day;
  IsSolution = IsSolution day;
  AreNear = AreNear day;
  broken = broken_at day;
}

-- Every accepted day is a relaxation of its solutions.
abbrev pub DaysAreRelaxations : Type 0
DaysAreRelaxations = (day : Day) → IsSoundDay day → IsRelaxation (meanings_of day)

-- what is kept while a day is worked on: its edges, and a ledger of its yards
pub record IsWorkedOn (day : Day) (graphs : List (List Edge)) (ledger : Loaded) : Type 0 where
  pub accepted : IsSoundDay day
  pub graphs_are : AreGraphs day graphs
  pub counted : ledger.day ≡ day
