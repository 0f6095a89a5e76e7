-- What is known of the entries of an accepted day.
use Rattle.std.proofs.Common.{◌≡◌, inl, inr, ℕ, zero, suc, ◌<◌, ◌≤◌, List, [], ◌∷◌, length, get_or, Some, Ok, sym}
use Rattle.std.proofs.Common.{subst, arith, slice_get}
use Rattle.std.specs.Prelude.{IsTrue}
use Rattle.std.specs.List.{All}
use Rattle.std.proofs.lemmas.List.Elements.{All-get_or}
use Rattle.std.proofs.lemmas.Bool.{cases_lt}
use Rattle.std.proofs.lemmas.Bool.Decides.{nat_tests}
use Rattle.std.proofs.lemmas.Option.{slice_get-get_or, same_Some}
use Rattle.rail_csv.specs.Rows.{AreTypeRows, AreStationRows, AreTripRows, IsWeightsRow}
use Rattle.timetable.specs.declared.day.records.Handover.{Handover}
use Rattle.rules.specs.declared.records.Link.{Link}
use Rattle.rules.specs.declared.records.LinkKind.{LinkKind}
use Rattle.rules.specs.declared.records.LinkKind.TheVariants.{Turn, Join, Split}
use Rattle.day_tables.specs.declared.building.tables.Tables.{Tables}
use Rattle.timetable.specs.Accepted.{AreLinks, DoMeet}
use Rattle.timetable.specs.Build.{day_of}
use Rattle.timetable.specs.Chains.{times_in, AreChains}
use Rattle.timetable.specs.Day.{Day, units_of}
use Rattle.timetable.specs.Handovers.{second_of, IsHandover}
use Rattle.timetable.specs.LinkRows.{NamesBelow}
use Rattle.timetable.specs.Links.{arriving_in, departing_in}
use Rattle.timetable.specs.Lists.{has, count_of}
use Rattle.timetable.specs.Within.{AreWeights, EachPair, IsLinkAt, IsDayWithin}
use Rattle.timetable.proofs.Days.{IsMade, day_is_made, units_within}
use Rattle.timetable.proofs.Entries.{are_types, are_stations, are_stock, are_trips}
use Rattle.timetable.proofs.Linking.{are_links, do_all_meet}
use Rattle.timetable.proofs.LinkNames.{has_itself, has_first, has_second, names_below}

-- what holds of every arriving and departing trip holds of each pair
each_pair_of : (P : ℕ → ℕ → Type 0) (kind : LinkKind) → ((a b : ℕ) → IsTrue (has a (arriving_in kind)) → IsTrue (has b (departing_in kind)) → P a b) → EachPair P kind
each_pair_of P (Turn a b uncouple couple exchange) every = every a b (has_itself a) (has_itself b)
each_pair_of P (Join a1 a2 b) every = (every a1 b (has_first a1 a2) (has_itself b), every a2 b (has_second a1 a2) (has_itself b))
each_pair_of P (Split a b1 b2) every = (every a b1 (has_itself a) (has_first b1 b2), every a b2 (has_itself a) (has_second b1 b2))

links_within : (day : Day) → AreLinks day → DoMeet day → All (IsLinkAt day) day.links
links_within day links meet l d below =
    let link : Link = get_or day.links l d in
    let at : slice_get day.links l ≡ Some link = slice_get-get_or day.links l d below in
    record {
      trips = names_below day links l link at;
      meet = each_pair_of _ link.kind (λ a b here there. meet.station l a b link at here there);
      in_time = each_pair_of _ link.kind (λ a b here there. links.in_time l a b link at here there);
    }

-- the entries of the day of tables whose rows keep within the rules
pub entries_within : (tables : Tables) (day : Day) → AreTypeRows tables.types → AreStationRows tables.stations → AreTripRows tables.trips → IsWeightsRow tables.weights → day_of tables ≡ Ok day → IsDayWithin day
unfolding units_of
entries_within tables day types stations trips weights e =
    let made : IsMade tables day = day_is_made tables day e in
    record {
      types = are_types tables.types day.types types made.types;
      stations = are_stations tables.stations day.stations stations made.stations;
      units = units_within (length day.stations) (length day.types) day.stock (are_stock day.stations day.types tables.stock day.stock made.stock);
      trips = are_trips day.stations day.types tables.trips day.trips trips made.trips;
      links = links_within day (are_links day tables.links made.links) (do_all_meet day tables.links made.links);
      weights = subst AreWeights (sym made.weights) (record { carriage = weights.carriage.1; shortage = weights.shortage.1; shunting = weights.shunting.1 });
    }

-- the entry that is read has what all have
pub entry_has : {X : Type 0} (P : X → Type 0) (xs : List X) (place n : ℕ) (x : X) → All P xs → place ≡ n → n < length xs → x ≡ get_or xs place x → P x
entry_has P xs place n x all same below is = subst P (sym is) (All-get_or P xs place x (omega arith) all)

-- ---- the trips of chains and of hand-overs

member_counted : (xs : List ℕ) (k d : ℕ) → k < length xs → 1 ≤ count_of (get_or xs k d) xs
member_counted [] k d below = absurd (omega arith)
member_counted (x ∷ xs) zero d below = grind (arith, nat_tests)
member_counted (x ∷ xs) (suc k) d below = let later : 1 ≤ count_of (get_or xs k d) xs = member_counted xs k d (omega arith) in omega arith

chain_counted : (chains : List (List ℕ)) (i t : ℕ) (d : List ℕ) → i < length chains → count_of t (get_or chains i d) ≤ times_in chains t
chain_counted [] i t d below = absurd (omega arith)
chain_counted (chain ∷ chains) zero t d below = omega arith
chain_counted (chain ∷ chains) (suc i) t d below = omega (arith, chain_counted chains i t d (omega arith))

-- the trips of chains are there
pub chains_within : (day : Day) (chains : List (List ℕ)) → AreChains day chains → All (λ chain. All (λ t. t < length day.trips) chain) chains
chains_within day chains are i d below k e inside =
    let t : ℕ = get_or (get_or chains i d) k e in
    elim (cases_lt t (length day.trips)) [
      | inl known ↦ known
      | inr past ↦ absurd (omega (arith, are.known t past, member_counted (get_or chains i d) k e inside, chain_counted chains i t d below))
    ]

-- the second trip of a link is there
pub second_below : (n : ℕ) (kind : LinkKind) (t : ℕ) → NamesBelow n kind → second_of kind ≡ Some t → t < n
second_below n (Turn a b uncouple couple exchange) t within is = absurd cc
second_below n (Join a1 a2 b) t within is = subst (λ (k : ℕ). k < n) (same_Some a2 t is) within.1
second_below n (Split a b1 b2) t within is = subst (λ (k : ℕ). k < n) (same_Some b2 t is) within.2

pub second_within : (day : Day) → AreLinks day → (handover : Handover) → IsHandover day.links handover → handover.second < length day.trips
second_within day links handover is = second_below (length day.trips) is.link.kind handover.second (names_below day links handover.link is.link is.at) is.second
