-- The trips that a link names.
use Rattle.std.proofs.Common.{◌≡◌, ℕ, ◌<◌, [], ◌∷◌, length, Some, IsTrue, arith, slice_get}
use Rattle.std.proofs.lemmas.Bool.{le-leb}
use Rattle.std.proofs.lemmas.Bool.Decides.{nat_tests}
use Rattle.rules.specs.declared.records.Link.{Link}
use Rattle.rules.specs.declared.records.LinkKind.{LinkKind}
use Rattle.rules.specs.declared.records.LinkKind.TheVariants.{Turn, Join, Split}
use Rattle.day_tables.specs.Accepted.{AreLinks}
use Rattle.day_tables.specs.Day.{Day}
use Rattle.day_tables.specs.LinkRows.{NamesBelow}
use Rattle.day_tables.specs.Links.{arriving_in, departing_in}
use Rattle.day_tables.specs.Lists.{count_of, has}

-- a list of one or two has each of them
pub has_itself : (a : ℕ) → IsTrue (has a (a ∷ []))
has_itself a = le-leb 1 (count_of a (a ∷ [])) (grind (arith, nat_tests))

pub has_first : (a b : ℕ) → IsTrue (has a (a ∷ b ∷ []))
has_first a b = le-leb 1 (count_of a (a ∷ b ∷ [])) (grind (arith, nat_tests))

pub has_second : (a b : ℕ) → IsTrue (has b (a ∷ b ∷ []))
has_second a b = le-leb 1 (count_of b (a ∷ b ∷ [])) (grind (arith, nat_tests))

-- a link names trips of the day
pub names_below : (day : Day) → AreLinks day → (l : ℕ) (link : Link) → slice_get day.links l ≡ Some link → NamesBelow (length day.trips) link.kind
names_below day links l link at =
    of_kind link.kind (λ t h. links.arriving l t link at h) (λ t h. links.departing l t link at h)
  where
    of_kind : (kind : LinkKind) → ((t : ℕ) → IsTrue (has t (arriving_in kind)) → t < length day.trips) → ((t : ℕ) → IsTrue (has t (departing_in kind)) → t < length day.trips)
        → NamesBelow (length day.trips) kind
    of_kind (Turn a b uncouple couple exchange) arrive depart = (arrive a (has_itself a), depart b (has_itself b))
    of_kind (Join a1 a2 b) arrive depart = (arrive a1 (has_first a1 a2), arrive a2 (has_second a1 a2), depart b (has_itself b))
    of_kind (Split a b1 b2) arrive depart = (arrive a (has_itself a), depart b1 (has_first b1 b2), depart b2 (has_second b1 b2))
