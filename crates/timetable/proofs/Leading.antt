-- Where links lead: what the tables of links find is what leads, and no trip is led to by two, or leads on to two.
use Rattle.std.proofs.Common.{◌≡◌, ℕ, ◌<◌, ◌≤◌, Bool, true, false, List, [], Option, Some, None, Ok, refl, sym, ap}
use Rattle.std.proofs.Common.{subst, ◌∙◌, arith, length}
use Rattle.std.specs.Prelude.{◌==◌, slice_get, option_map, option_and_then, unwrap_or}
use Rattle.std.proofs.lemmas.Bool.{eqb-true, eq-eqb, cond-true, le-leb}
use Rattle.std.proofs.lemmas.Bool.Decides.{nat_tests}
use Rattle.std.proofs.lemmas.Option.{same_Some, cond_some, option_and_then_some}
use Rattle.rail_csv.specs.declared.rows.LinkRow.{LinkRow}
use Rattle.rules.specs.declared.records.Link.{Link}
use Rattle.rules.specs.declared.records.Trip.{Trip}
use Rattle.rules.specs.declared.records.LinkKind.{LinkKind}
use Rattle.rules.specs.declared.records.LinkKind.TheVariants.{Turn, Join, Split}
use Rattle.timetable.specs.Accepted.{IsDay, AreLinks}
use Rattle.timetable.specs.Chains.{leads_from, leads_to, Leads, next_by, next_in, is_led_in}
use Rattle.timetable.specs.Day.{Day, leaves}
use Rattle.timetable.specs.Links.{arriving_in, departing_in}
use Rattle.timetable.specs.LinkTables.{link_naming}
use Rattle.timetable.specs.LinkRows.{links_in, NamesBelow}
use Rattle.timetable.specs.Lists.{count_of}
use Rattle.timetable.proofs.Linking.{are_links}
use Rattle.timetable.proofs.NamedTrips.{place_is}

-- the trips that a link leads from and to are trips that it names
pub from_below : (n : ℕ) (kind : LinkKind) → NamesBelow n kind → leads_from kind < n
from_below n (Turn a b uncouple couple exchange) names = names.0
from_below n (Join a1 a2 b) names = names.0
from_below n (Split a b1 b2) names = names.0

pub to_below : (n : ℕ) (kind : LinkKind) → NamesBelow n kind → leads_to kind < n
to_below n (Turn a b uncouple couple exchange) names = names.1
to_below n (Join a1 a2 b) names = names.2
to_below n (Split a b1 b2) names = names.1

-- a link leads from an arriving trip of its own to a departing one
from_arrives : (kind : LinkKind) → 1 ≤ count_of (leads_from kind) (arriving_in kind)
from_arrives (Turn a b uncouple couple exchange) = grind (arith, nat_tests)
from_arrives (Join a1 a2 b) = grind (arith, nat_tests)
from_arrives (Split a b1 b2) = grind (arith, nat_tests)

to_departs : (kind : LinkKind) → 1 ≤ count_of (leads_to kind) (departing_in kind)
to_departs (Turn a b uncouple couple exchange) = grind (arith, nat_tests)
to_departs (Join a1 a2 b) = grind (arith, nat_tests)
to_departs (Split a b1 b2) = grind (arith, nat_tests)

test_passed : {X : Type 0} (test : X → Bool) (o : Option X) → unwrap_or (option_map test o) false ≡ true → (x : X) × (o ≡ Some x) × (test x ≡ true)
test_passed test None e = absurd cc
test_passed test (Some x) e = (x, refl, e)

-- the trip that is found is led to
pub leads_next : (day : Day) (a b : ℕ) → next_in day.links a ≡ Some b → Leads day a b
leads_next day a b e =
    option_and_then_some (λ (link : Link). next_by link.kind a) (option_and_then (slice_get day.links) (link_naming arriving_in day.links a)) b e
    (λ link found is. option_and_then_some (slice_get day.links) (link_naming arriving_in day.links a) link found
    (λ number named at.
    let (from, to) = cond_some (leads_from link.kind == a) (leads_to link.kind) b is in
    record { number = number; link = link; at = at; from = eqb-true (leads_from link.kind) a from; to = to }))

-- a trip that passes the test is led to
pub leads_led : (day : Day) (b : ℕ) → is_led_in day.links b ≡ true → (a : ℕ) × Leads day a b
leads_led day b e =
    let (link, found, to) = test_passed (λ (link : Link). leads_to link.kind == b) (option_and_then (slice_get day.links) (link_naming departing_in day.links b)) e in
    option_and_then_some (slice_get day.links) (link_naming departing_in day.links b) link found
    (λ number named at. (leads_from link.kind, record { number = number; link = link; at = at; from = refl; to = eqb-true (leads_to link.kind) b to }))

module _ (day : Day) (links : AreLinks day) where
  arrives_here : (a b : ℕ) (l : Leads day a b) → 1 ≤ count_of a (arriving_in l.link.kind)
  arrives_here a b l = subst (λ (t : ℕ). 1 ≤ count_of t (arriving_in l.link.kind)) l.from (from_arrives l.link.kind)

  departs_here : (a b : ℕ) (l : Leads day a b) → 1 ≤ count_of b (departing_in l.link.kind)
  departs_here a b l = subst (λ (t : ℕ). 1 ≤ count_of t (departing_in l.link.kind)) l.to (to_departs l.link.kind)

  -- the link that leads is the one that the tables find
  found_from : (a b : ℕ) (l : Leads day a b) → link_naming arriving_in day.links a ≡ Some l.number
  found_from a b l = place_is arriving_in day.links a l.number l.link (links.arriving_once a) l.at (arrives_here a b l)

  found_to : (a b : ℕ) (l : Leads day a b) → link_naming departing_in day.links b ≡ Some l.number
  found_to a b l = place_is departing_in day.links b l.number l.link (links.departing_once b) l.at (departs_here a b l)

  pub next_leads : (a b : ℕ) → Leads day a b → next_in day.links a ≡ Some b
  next_leads a b l =
      ap (λ (o : Option ℕ). option_and_then (λ (link : Link). next_by link.kind a) (option_and_then (slice_get day.links) o)) (found_from a b l)
      ∙ ap (λ (o : Option Link). option_and_then (λ (link : Link). next_by link.kind a) o) l.at
      ∙ cond-true (leads_from l.link.kind == a) (Some (leads_to l.link.kind)) None (eq-eqb (leads_from l.link.kind) a l.from)
      ∙ ap Some l.to

  pub led_leads : (a b : ℕ) → Leads day a b → is_led_in day.links b ≡ true
  led_leads a b l =
      ap (λ (o : Option ℕ). unwrap_or (option_map (λ (link : Link). leads_to link.kind == b) (option_and_then (slice_get day.links) o)) false) (found_to a b l)
      ∙ ap (λ (o : Option Link). unwrap_or (option_map (λ (link : Link). leads_to link.kind == b) o) false) l.at
      ∙ eq-eqb (leads_to l.link.kind) b l.to

  -- a trip leads on to one trip at most
  pub one_next : (a b c : ℕ) → Leads day a b → Leads day a c → b ≡ c
  one_next a b c to_b to_c = same_Some b c (sym (next_leads a b to_b) ∙ next_leads a c to_c)

  -- a trip is led to by one trip at most
  pub one_before : (a b c : ℕ) → Leads day a c → Leads day b c → a ≡ b
  one_before a b c from_a from_b =
      let number : from_a.number ≡ from_b.number = same_Some from_a.number from_b.number (sym (found_to a c from_a) ∙ found_to b c from_b) in
      let link : from_a.link ≡ from_b.link = same_Some from_a.link from_b.link (sym from_a.at ∙ ap (slice_get day.links) number ∙ from_b.at) in
      sym from_a.from ∙ ap (λ (l : Link). leads_from l.kind) link ∙ from_b.from

  -- trips that lead, and trips that are led to, are there
  pub leads_below : (a b : ℕ) → Leads day a b → a < length day.trips
  leads_below a b l = links.arriving l.number a l.link l.at (le-leb 1 (count_of a (arriving_in l.link.kind)) (arrives_here a b l))

  pub led_below : (a b : ℕ) → Leads day a b → b < length day.trips
  led_below a b l = links.departing l.number b l.link l.at (le-leb 1 (count_of b (departing_in l.link.kind)) (departs_here a b l))

  -- along a chain trips leave later and later
  pub leads_later : IsDay day → (a b : ℕ) → Leads day a b → leaves day a < leaves day b
  leads_later limits a b l =
      let in_time = links.in_time l.number a b l.link l.at (le-leb 1 (count_of a (arriving_in l.link.kind)) (arrives_here a b l)) (le-leb 1 (count_of b (departing_in l.link.kind)) (departs_here a b l)) in
      omega (arith, limits.timetable.time a (leads_below a b l))

-- a trip that follows in the chain of a trip of accepted links is there
pub next_known : (trips : List Trip) (rows : List LinkRow) (links read : List Link) → links_in trips rows ≡ Ok links → read ≡ links → (t b : ℕ) → next_in read t ≡ Some b → b < length trips
next_known trips rows links read e same t b is =
    let day : Day = record { types = []; stations = []; stock = []; trips = trips; links = links; weights = record { carriage = 0; shortage = 0; shunting = 0 } } in
    led_below day (are_links day rows e) t b (leads_next day t b (ap (λ (ls : List Link). next_in ls t) (sym same) ∙ is))
