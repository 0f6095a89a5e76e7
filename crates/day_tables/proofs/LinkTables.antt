-- The links that name a trip, listed by trip.
use Rattle.std.proofs.Common.{◌≡◌, inl, inr, ℕ, zero, suc, ◌<◌, List, [], ◌∷◌, ◌++◌, length, get_or, refl, sym, ap}
use Rattle.std.proofs.Common.{subst, ◌∙◌, arith, length-append, Option, Some, None, slice_get}
use Rattle.std.specs.Prelude.{option_and_then, IfSome}
use Rattle.std.proofs.lemmas.Bool.{cases_lt}
use Rattle.std.proofs.lemmas.Option.{get_or_from_slice_get, slice_get-get_or, slice_get_within}
use Rattle.rules.specs.declared.records.Link.{Link}
use Rattle.rules.specs.declared.records.LinkKind.{LinkKind}
use Rattle.day_tables.specs.LinkTables.{link_naming, link_table}
use Rattle.day_tables.specs.Lists.{has}
use Rattle.day_tables.proofs.NamedTrips.{position_some}

pub length-link_table : (side : LinkKind → List ℕ) (links : List Link) (n : ℕ) → length (link_table side links n) ≡ n
length-link_table side links zero = refl
length-link_table side links (suc n) = omega (arith, length-append (link_table side links n) (link_naming side links n ∷ []), length-link_table side links n)

at_end : {X : Type 0} (xs : List X) (x : X) → slice_get (xs ++ x ∷ []) (length xs) ≡ Some x
at_end [] x = refl
at_end (y ∷ ys) x = at_end ys x

before_end : {X : Type 0} (xs : List X) (x : X) (k : ℕ) → k < length xs → slice_get (xs ++ x ∷ []) k ≡ slice_get xs k
before_end [] x k below = absurd (omega arith)
before_end (y ∷ ys) x zero below = refl
before_end (y ∷ ys) x (suc k) below = before_end ys x k (omega arith)

-- the entry of a trip
pub link_table_at : (side : LinkKind → List ℕ) (links : List Link) (n t : ℕ) → t < n → slice_get (link_table side links n) t ≡ Some (link_naming side links t)
link_table_at side links zero t below = absurd (omega arith)
link_table_at side links (suc n) t below = elim (cases_lt t n) [
  | inl before ↦ before_end (link_table side links n) (link_naming side links n) t (omega (arith, length-link_table side links n)) ∙ link_table_at side links n t before
  | inr last ↦
      let here : n ≡ t = omega arith in
      let table : List (Option ℕ) = link_table side links n in
      subst (λ (k : ℕ). slice_get (table ++ link_naming side links n ∷ []) k ≡ Some (link_naming side links k)) here
      (subst (λ (k : ℕ). slice_get (table ++ link_naming side links n ∷ []) k ≡ Some (link_naming side links n)) (length-link_table side links n) (at_end table (link_naming side links n)))
]

-- the entry that is read
pub table_entry : (side : LinkKind → List ℕ) (links : List Link) (n t : ℕ) (table : List (Option ℕ)) (d : Option ℕ) → table ≡ link_table side links n → t < n → get_or table t d ≡ link_naming side links t
table_entry side links n t table d is below =
    subst (λ (xs : List (Option ℕ)). get_or xs t d ≡ link_naming side links t) (sym is)
    (get_or_from_slice_get (link_table side links n) t (link_naming side links t) d (link_table_at side links n t below))

-- a table of these links and so many trips
pub table_of : (side : LinkKind → List ℕ) (table : List (Option ℕ)) (read links : List Link) (n trips : ℕ) → table ≡ link_table side read n → read ≡ links → n ≡ trips → table ≡ link_table side links trips
table_of side table read links n trips is same count = is ∙ ap (λ (ls : List Link). link_table side ls n) same ∙ ap (λ (k : ℕ). link_table side links k) count

-- what the entry of a trip says is the link that names it
pub entry_says : (side : LinkKind → List ℕ) (links : List Link) (table : List (Option ℕ)) (place t : ℕ) (d o : Option ℕ) → table ≡ link_table side links (length table) → t < length table
    → place ≡ t → get_or table place d ≡ o → link_naming side links t ≡ o
entry_says side links table place t d o is below same entry = sym (table_entry side links (length table) t table d is below) ∙ ap (λ (k : ℕ). get_or table k d) (sym same) ∙ entry

-- the link that names a trip is there
pub names_within : (side : LinkKind → List ℕ) (links : List Link) (t number : ℕ) → link_naming side links t ≡ Some number → number < length links
names_within side links t number e =
    let (link, at, named) = position_some (λ (link : Link). has t (side link.kind)) links number e in
    slice_get_within links number link at

-- an entry of a table is the number of a link
pub entry_within : (side : LinkKind → List ℕ) (links : List Link) (t : ℕ) (entry : Option ℕ) → entry ≡ link_naming side links t → IfSome entry (λ number. number < length links)
entry_within side links t None is = tt
entry_within side links t (Some number) is = names_within side links t number (sym is)

-- the link that is read by its number is the one that names the trip
pub link_read : (side : LinkKind → List ℕ) (links : List Link) (t number place : ℕ) (d : Link) → link_naming side links t ≡ Some number → place ≡ number
    → option_and_then (slice_get links) (link_naming side links t) ≡ Some (get_or links place d)
link_read side links t number place d e same =
    ap (λ (o : Option ℕ). option_and_then (slice_get links) o) e
    ∙ slice_get-get_or links number d (names_within side links t number e)
    ∙ ap (λ (k : ℕ). Some (get_or links k d)) (sym same)

-- no link is read where none names the trip
pub link_unread : (side : LinkKind → List ℕ) (links : List Link) (t : ℕ) → link_naming side links t ≡ None → option_and_then (slice_get links) (link_naming side links t) ≡ None
link_unread side links t e = ap (λ (o : Option ℕ). option_and_then (slice_get links) o) e

-- a table has an entry for each trip
pub table_length : (side : LinkKind → List ℕ) (read : List Link) (n : ℕ) (table passed : List (Option ℕ)) → table ≡ link_table side read n → passed ≡ table → length passed ≡ n
table_length side read n table passed is same = ap (λ (xs : List (Option ℕ)). length xs) (same ∙ is) ∙ length-link_table side read n

-- a table that is passed on with its links is their table
pub table_passed : (side : LinkKind → List ℕ) (read links links_passed : List Link) (n : ℕ) (table passed : List (Option ℕ)) → table ≡ link_table side read n → read ≡ links → passed ≡ table → links_passed ≡ links
    → passed ≡ link_table side links_passed (length passed)
table_passed side read links links_passed n table passed is same passes passes_links =
    table_of side passed read links_passed n (length passed) (passes ∙ is) (same ∙ sym passes_links) (sym (table_length side read n table passed is passes))
