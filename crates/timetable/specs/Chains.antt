-- The chains of a day: links lead from trip to trip, and every trip lies in one chain.
use Rattle.std.specs.Prelude.{ℕ, zero, suc, ◌+◌, ◌≡◌, ◌<◌, ◌≤◌, List, [], ◌∷◌, ◌++◌, length, Bool, false, ◌==◌}
use Rattle.std.specs.Prelude.{if◌then◌else◌, Option, Some, None, option_map, option_and_then, unwrap_or, slice_get}
use Rattle.std.specs.List.{All, AllPairs}
use Rattle.rules.specs.declared.records.Link.{Link}
use Rattle.rules.specs.declared.records.LinkKind.{LinkKind}
use Rattle.timetable.specs.Day.{Day}
use Rattle.timetable.specs.Links.{arriving_in, departing_in}
use Rattle.timetable.specs.LinkTables.{link_naming}
use Rattle.timetable.specs.Lists.{count_of}
use Rattle.timetable.specs.Running.{EachFollows}
pub use Rattle.rules.specs.NamedTrips.{leads_from, leads_to}

-- ---- what chains are

-- a link of the day leads a chain from trip a to trip b
pub record Leads (day : Day) (a b : ℕ) : Type 0 where
  pub number : ℕ
  pub link : Link
  pub at : slice_get day.links number ≡ Some link
  pub from : leads_from link.kind ≡ a
  pub to : leads_to link.kind ≡ b

-- no link leads the chain to its first trip
abbrev pub Begins : Day → List ℕ → Type 0
Begins day [] = ⊥
Begins day (t ∷ ts) = (a : ℕ) → ¬ Leads day a t

-- no link leads the chain on from its last trip
abbrev pub Ends : Day → List ℕ → Type 0
Ends day [] = ⊥
Ends day (t ∷ []) = (b : ℕ) → ¬ Leads day t b
Ends day (t ∷ s ∷ ts) = Ends day (s ∷ ts)

-- a whole chain, with one trip or more: a link leads from each of its trips to the next
pub record IsChain (day : Day) (chain : List ℕ) : Type 0 where
  pub begins : Begins day chain
  pub follows : EachFollows (Leads day) chain
  pub ends : Ends day chain

-- how often a trip is in the chains
abbrev pub times_in : List (List ℕ) → ℕ → ℕ
times_in [] t = 0
times_in (chain ∷ chains) t = count_of t chain + times_in chains t

abbrev pub first_of : List ℕ → ℕ
first_of [] = 0
first_of (t ∷ ts) = t

-- These lists are the chains of the day: each is whole, every trip of the day is in one of them, and there once, and
-- they are numbered by their first trips in rising order.
pub record AreChains (day : Day) (chains : List (List ℕ)) : Type 0 where
  pub each : All (IsChain day) chains
  pub once : (t : ℕ) → t < length day.trips → times_in chains t ≡ 1
  pub known : (t : ℕ) → length day.trips ≤ t → times_in chains t ≡ 0
  pub rise : AllPairs (λ a b. first_of a < first_of b) chains

-- ---- the chains

-- the trip that a link leads a trip's chain on to
abbrev pub next_by : LinkKind → ℕ → Option ℕ
next_by kind t = if leads_from kind == t then Some (leads_to kind) else None

abbrev pub next_in : List Link → ℕ → Option ℕ
next_in links t =
    option_and_then (λ (link : Link). next_by link.kind t)
    (option_and_then (slice_get links) (link_naming arriving_in links t))

-- whether a link leads a chain to the trip
abbrev pub is_led_in : List Link → ℕ → Bool
is_led_in links t =
    unwrap_or (option_map (λ (link : Link). leads_to link.kind == t)
    (option_and_then (slice_get links) (link_naming departing_in links t))) false

-- a trip and those that follow it, at most n trips
abbrev pub follow : (ℕ → Option ℕ) → ℕ → Option ℕ → List ℕ
follow next zero o = []
follow next (suc n) None = []
follow next (suc n) (Some t) = t ∷ follow next n (next t)

-- the chain that begins with a trip, of a day of n trips
abbrev pub chain_from : List Link → ℕ → ℕ → List ℕ
chain_from links n t = follow (next_in links) n (Some t)

-- the chains that begin with trips below a bound
abbrev pub chains_below : List Link → ℕ → ℕ → List (List ℕ)
chains_below links n zero = []
chains_below links n (suc t) =
    if is_led_in links t then chains_below links n t else chains_below links n t ++ chain_from links n t ∷ []

unfoldable pub chains_of : Day → List (List ℕ)
chains_of day = chains_below day.links (length day.trips) (length day.trips)
