-- Links that are noted at the trips that they name, from the last link to the first: each trip has the first that names
-- it.
use Rattle.std.proofs.Common.{◌≡◌, ◌≢◌, ℕ, suc, ◌+◌, ◌-◌, ◌<◌, ◌≤◌, Bool, true, false, ltb, List, [], ◌∷◌, length}
use Rattle.std.proofs.Common.{get_or, drop, set, replicate, refl, sym, ap, subst, ◌∙◌, arith, zero-add, Option, Some}
use Rattle.std.proofs.Common.{None, inl, inr}
use Rattle.std.specs.Prelude.{option_map, position, if◌then◌else◌}
use Rattle.std.specs.List.{position_or_len}
use Rattle.std.proofs.lemmas.Bool.{cases_lt, cases_eq, lt-ltb, le-ltb, le-leb, lt-leb, eq-eqb, ne_eqb}
use Rattle.std.proofs.Math.Seq.{drop-cons}
use Rattle.std.proofs.lemmas.List.{get_or-set_same, get_or-set_other, get_or-replicate, length-set, ext_get_or}
use Rattle.std.proofs.lemmas.List.{length-replicate, drop_all}
use Rattle.rules.specs.declared.records.Link.{Link}
use Rattle.rules.specs.declared.records.LinkKind.{LinkKind}
use Rattle.day_tables.specs.LinkTables.{link_naming, link_table, noted}
use Rattle.day_tables.specs.Lists.{count_of, has}
use Rattle.day_tables.proofs.LinkTables.{length-link_table, table_entry}

-- ---- the trips of one link

pub length-noted : (entry : Option ℕ) (ts : List ℕ) (table : List (Option ℕ)) → length (noted entry ts table) ≡ length table
length-noted entry [] table = refl
length-noted entry (s ∷ ts) table = length-noted entry ts (set table s entry) ∙ length-set table s entry

-- a trip that is not among them keeps its entry
noted_other : (entry : Option ℕ) (ts : List ℕ) (table : List (Option ℕ)) (t : ℕ) → count_of t ts ≡ 0 → get_or (noted entry ts table) t None ≡ get_or table t None
noted_other entry [] table t none = refl
noted_other entry (s ∷ ts) table t none = elim (cases_eq s t) [
  | inl same ↦
      let one : (if true then 1 else 0) + count_of t ts ≡ 0 = subst (λ (b : Bool). (if b then 1 else 0) + count_of t ts ≡ 0) (eq-eqb s t same) none in
      absurd (omega arith)
  | inr differ ↦
      let rest : count_of t ts ≡ 0 = omega arith in
      let other : t ≢ s = λ e. differ (sym e) in
      noted_other entry ts (set table s entry) t rest ∙ get_or-set_other table s t entry None other
]

-- a trip that is among them has the entry
noted_named : (entry : Option ℕ) (ts : List ℕ) (table : List (Option ℕ)) (t : ℕ) → t < length table → 1 ≤ count_of t ts → get_or (noted entry ts table) t None ≡ entry
noted_named entry [] table t below named = absurd (omega arith)
noted_named entry (s ∷ ts) table t below named = elim (cases_lt 0 (count_of t ts)) [
  | inl again ↦
      let within : t < length (set table s entry) = omega (arith, length-set table s entry) in
      noted_named entry ts (set table s entry) t within (omega arith)
  | inr never ↦
      let none : count_of t ts ≡ 0 = omega arith in
      elim (cases_eq s t) [
        | inl same ↦
            noted_other entry ts (set table s entry) t none ∙ subst (λ (k : ℕ). get_or (set table k entry) t None ≡ entry) (sym same) (get_or-set_same table t entry None below)
        | inr differ ↦
            let left : 1 ≤ (if false then 1 else 0) + count_of t ts = subst (λ (b : Bool). 1 ≤ (if b then 1 else 0) + count_of t ts) (ne_eqb s t differ) named in
            absurd (omega arith)
      ]
]

-- ---- one link more

-- where the first doesn't pass, the place is one further than among the others
next_place : {X : Type 0} (p : X → Bool) (x : X) (xs : List X) → p x ≡ false → position p (x ∷ xs) ≡ option_map (λ j. 1 + j) (position p xs)
next_place p x xs fails = elim (cases_lt (position_or_len p xs) (length xs)) [
  | inl below ↦
      let inner : ltb (position_or_len p xs) (length xs) ≡ true = lt-ltb _ _ below in
      let outer : ltb (1 + position_or_len p xs) (suc (length xs)) ≡ true = lt-ltb _ _ (omega arith) in
      rw (fails, inner, outer) refl
  | inr past ↦
      let inner : ltb (position_or_len p xs) (length xs) ≡ false = le-ltb _ _ past in
      let outer : ltb (1 + position_or_len p xs) (suc (length xs)) ≡ false = le-ltb _ _ (omega arith) in
      rw (fails, inner, outer) refl
]

first_place : {X : Type 0} (p : X → Bool) (x : X) (xs : List X) → p x ≡ true → position p (x ∷ xs) ≡ Some 0
first_place p x xs passes =
    let inside : ltb 0 (suc (length xs)) ≡ true = lt-ltb _ _ (omega arith) in
    rw (passes, inside) refl

-- numbers counted from a link on, and from the link before it
abbrev pub from_on : ℕ → Option ℕ → Option ℕ
from_on k o = option_map (λ j. k + j) o

counted_on : (k : ℕ) (o : Option ℕ) → from_on (suc k) o ≡ from_on k (option_map (λ j. 1 + j) o)
counted_on k None = refl
counted_on k (Some j) = ap (λ (n : ℕ). Some n) (more k j)
  where
    more : (k j : ℕ) → suc k + j ≡ k + (1 + j)
    more k j = omega arith

counted_here : (k : ℕ) → Some k ≡ from_on k (Some 0)
counted_here k = ap (λ (n : ℕ). Some n) (none k)
  where
    none : (k : ℕ) → k ≡ k + 0
    none k = omega arith

entry_more : (side : LinkKind → List ℕ) (k t : ℕ) (link : Link) (rest : List Link) (table : List (Option ℕ)) → t < length table
    → get_or table t None ≡ from_on (suc k) (link_naming side rest t) → get_or (noted (Some k) (side link.kind) table) t None ≡ from_on k (link_naming side (link ∷ rest) t)
entry_more side k t link rest table below so_far = elim (cases_lt 0 (count_of t (side link.kind))) [
  | inl named ↦
      let is : has t (side link.kind) ≡ true = le-leb 1 (count_of t (side link.kind)) (omega arith) in
      noted_named (Some k) (side link.kind) table t below (omega arith) ∙ counted_here k ∙ ap (λ (o : Option ℕ). from_on k o) (sym (first_place (λ (l : Link). has t (side l.kind)) link rest is))
  | inr unnamed ↦
      let none : count_of t (side link.kind) ≡ 0 = omega arith in
      let is : has t (side link.kind) ≡ false = lt-leb 1 (count_of t (side link.kind)) (omega arith) in
      noted_other (Some k) (side link.kind) table t none ∙ so_far ∙ counted_on k (link_naming side rest t)
      ∙ ap (λ (o : Option ℕ). from_on k o) (sym (next_place (λ (l : Link). has t (side l.kind)) link rest is))
]

-- ---- all of them

-- the table of so many trips says the links from one on
pub record AreNoted (side : LinkKind → List ℕ) (links : List Link) (trips left : ℕ) (table : List (Option ℕ)) : Type 0 where
  pub count : length table ≡ trips
  pub within : left ≤ length links
  pub entries : (t : ℕ) → t < trips → get_or table t None ≡ from_on left (link_naming side (drop left links) t)

-- before the last link there is none
pub none_noted : (side : LinkKind → List ℕ) (links : List Link) (trips : ℕ) → AreNoted side links trips (length links) (replicate trips None)
none_noted side links trips = record {
  count = length-replicate trips None;
  within = omega arith;
  entries = λ t below. get_or-replicate trips t None None below ∙ ap (λ (ls : List Link). from_on (length links) (link_naming side ls t)) (sym (drop_all (length links) links (omega arith)));
}

-- the link before it, too
pub one_noted : (side : LinkKind → List ℕ) (links : List Link) (trips left : ℕ) (table next : List (Option ℕ)) (d : Link) → AreNoted side links trips left table → 0 < left
    → next ≡ noted (Some (left - 1)) (side (get_or links (left - 1) d).kind) table → AreNoted side links trips (left - 1) next
one_noted side links trips left table next d so_far some is =
    let k : ℕ = left - 1 in
    let link : Link = get_or links k d in
    let one_more : left ≡ suc k = omega arith in
    let within = so_far.within in
    let count = so_far.count in
    record {
      count = ap (λ (xs : List (Option ℕ)). length xs) is ∙ length-noted (Some k) (side link.kind) table ∙ count;
      within = omega arith;
      entries = λ t below.
          ap (λ (xs : List (Option ℕ)). get_or xs t None) is
          ∙ entry_more side k t link (drop (suc k) links) table (omega arith) (subst (λ (n : ℕ). get_or table t None ≡ from_on n (link_naming side (drop n links) t)) one_more (so_far.entries t below))
          ∙ ap (λ (ls : List Link). from_on k (link_naming side ls t)) (sym (drop-cons links k d (omega arith)));
    }

-- once the first link is noted, the table is that of all links
pub all_noted : (side : LinkKind → List ℕ) (links : List Link) (trips : ℕ) (table : List (Option ℕ)) → AreNoted side links trips 0 table → table ≡ link_table side links trips
all_noted side links trips table n =
    ext_get_or None table (link_table side links trips) (n.count ∙ sym (length-link_table side links trips)) (λ t below.
    n.entries t (subst (λ (k : ℕ). t < k) n.count below) ∙ from_none (link_naming side links t)
    ∙ sym (table_entry side links trips t (link_table side links trips) None refl (subst (λ (k : ℕ). t < k) n.count below)))
  where
    from_none : (o : Option ℕ) → from_on 0 o ≡ o
    from_none None = refl
    from_none (Some j) = ap (λ (n : ℕ). Some n) (zero-add j)
