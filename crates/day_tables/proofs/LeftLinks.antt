-- The links that are left once some trips are gone: they name trips that are left, each by its number then.
use Rattle.std.proofs.Common.{◌≡◌, ◌∙◌, ◌⊎◌, inl, inr, ℕ, zero, suc, ◌+◌, ◌≤◌, Bool, true, false, List, [], ◌∷◌}
use Rattle.std.proofs.Common.{map, refl, sym, ap, subst, arith, Some, slice_get, IsTrue}
use Rattle.std.specs.Prelude.{not, ◌==◌, if◌then◌else◌, filter}
use Rattle.std.specs.List.{list_any}
use Rattle.std.proofs.lemmas.Bool.{cases_eq, or_parts, ne_eqb, eq-eqb, leb-true, le-leb}
use Rattle.std.proofs.lemmas.List.Folds.{list_any-append}
use Rattle.rules.specs.declared.records.Link.{Link}
use Rattle.rules.specs.declared.records.LinkKind.{LinkKind}
use Rattle.rules.specs.declared.records.LinkKind.TheVariants.{Turn, Join, Split}
use Rattle.day_tables.specs.Accepted.{times_named}
use Rattle.day_tables.specs.DerivedDays.{new_number, kind_with, link_with, names_gone, links_left}
use Rattle.day_tables.specs.Links.{arriving_in, departing_in}
use Rattle.day_tables.specs.Lists.{count_of, has}
use Rattle.day_tables.proofs.LeftEntries.{one_number}

-- a link of before
pub record WasLink (gone : List ℕ) (links : List Link) (link : Link) : Type 0 where
  pub place : ℕ
  pub before : Link
  pub at : slice_get links place ≡ Some before
  pub stays : names_gone gone before.kind ≡ false
  pub is : link_with (new_number gone) before ≡ link

-- a trip of before that is among some
pub record WasTrip (gone ts : List ℕ) (t : ℕ) : Type 0 where
  pub before : ℕ
  pub among : IsTrue (has before ts)
  pub stays : has before gone ≡ false
  pub number : new_number gone before ≡ t

pub arriving_then : (number : ℕ → ℕ) (kind : LinkKind) → arriving_in (kind_with number kind) ≡ map number (arriving_in kind)
arriving_then number (Turn a b uncouple couple exchange) = refl
arriving_then number (Join a1 a2 b) = refl
arriving_then number (Split a b1 b2) = refl

pub departing_then : (number : ℕ → ℕ) (kind : LinkKind) → departing_in (kind_with number kind) ≡ map number (departing_in kind)
departing_then number (Turn a b uncouple couple exchange) = refl
departing_then number (Join a1 a2 b) = refl
departing_then number (Split a b1 b2) = refl

module _ (gone : List ℕ) where
  -- none of some trips is gone
  abbrev pub AllStay : List ℕ → Type 0
  AllStay ts = list_any (λ t. has t gone) ts ≡ false

  pub arriving_stay : (kind : LinkKind) → names_gone gone kind ≡ false → AllStay (arriving_in kind)
  arriving_stay kind stay =
      (or_parts (list_any (λ t. has t gone) (arriving_in kind)) (list_any (λ t. has t gone) (departing_in kind))
      (sym (list_any-append (λ t. has t gone) (arriving_in kind) (departing_in kind)) ∙ stay)).0

  pub departing_stay : (kind : LinkKind) → names_gone gone kind ≡ false → AllStay (departing_in kind)
  departing_stay kind stay =
      (or_parts (list_any (λ t. has t gone) (arriving_in kind)) (list_any (λ t. has t gone) (departing_in kind))
      (sym (list_any-append (λ t. has t gone) (arriving_in kind) (departing_in kind)) ∙ stay)).1

  -- a number is among theirs as often as the trip is among them
  count_then : (ts : List ℕ) (k : ℕ) → has k gone ≡ false → AllStay ts → count_of (new_number gone k) (map (new_number gone) ts) ≡ count_of k ts
  count_then [] k stays all = refl
  count_then (t ∷ ts) k stays all =
      let (here, later) = or_parts (has t gone) (list_any (λ t. has t gone) ts) all in
      let rest : count_of (new_number gone k) (map (new_number gone) ts) ≡ count_of k ts = count_then ts k stays later in
      elim (cases_eq t k) [
        | inl is ↦
            let one : (new_number gone t == new_number gone k) ≡ true = eq-eqb (new_number gone t) (new_number gone k) (ap (new_number gone) is) in
            let other : (t == k) ≡ true = eq-eqb t k is in
            (λ i. (if one i then 1 else 0) + rest i) ∙ sym (ap (λ (b : Bool). (if b then 1 else 0) + count_of k ts) other)
        | inr differ ↦
            let one : (new_number gone t == new_number gone k) ≡ false = ne_eqb (new_number gone t) (new_number gone k) (λ same. differ (one_number gone t k here stays same)) in
            let other : (t == k) ≡ false = ne_eqb t k differ in
            (λ i. (if one i then 1 else 0) + rest i) ∙ sym (ap (λ (b : Bool). (if b then 1 else 0) + count_of k ts) other)
      ]

  -- a number that is among theirs is that of one of them
  none_or_was : (ts : List ℕ) (t : ℕ) → AllStay ts → (count_of t (map (new_number gone) ts) ≡ 0) ⊎ WasTrip gone ts t
  none_or_was [] t all = inl refl
  none_or_was (k ∷ ts) t all =
      let (here, later) = or_parts (has k gone) (list_any (λ t. has t gone) ts) all in
      elim (cases_eq (new_number gone k) t) [
        | inl is ↦
            let itself : (k == k) ≡ true = eq-eqb k k refl in
            let once : count_of k (k ∷ ts) ≡ 1 + count_of k ts = ap (λ (b : Bool). (if b then 1 else 0) + count_of k ts) itself in
            inr (record { before = k; among = le-leb 1 (count_of k (k ∷ ts)) (omega arith); stays = here; number = is })
        | inr differ ↦
            let other : (new_number gone k == t) ≡ false = ne_eqb (new_number gone k) t differ in
            let rest : count_of t (map (new_number gone) (k ∷ ts)) ≡ 0 + count_of t (map (new_number gone) ts) = ap (λ (b : Bool). (if b then 1 else 0) + count_of t (map (new_number gone) ts)) other in
            elim (none_or_was ts t later) [
              | inl none ↦ inl (omega arith)
              | inr was ↦
                  let some : 1 ≤ count_of was.before ts = leb-true 1 (count_of was.before ts) was.among in
                  inr (record { before = was.before; among = le-leb 1 (count_of was.before (k ∷ ts)) (omega arith); stays = was.stays; number = was.number })
            ]
      ]

  pub was_trip : (ts : List ℕ) (t : ℕ) → AllStay ts → IsTrue (has t (map (new_number gone) ts)) → WasTrip gone ts t
  was_trip ts t all some = elim (none_or_was ts t all) [
    | inl none ↦ let counted : 1 ≤ count_of t (map (new_number gone) ts) = leb-true 1 (count_of t (map (new_number gone) ts)) some in absurd (omega arith)
    | inr was ↦ was
  ]

  -- ---- all links

  -- a link more, which is left or not
  pub link_step : (b : Bool) (link : Link) (rest : List Link) → names_gone gone link.kind ≡ b
      → links_left gone (link ∷ rest) ≡ (if b then links_left gone rest else link_with (new_number gone) link ∷ links_left gone rest)
  link_step true link rest is = ap (λ (b : Bool). map (link_with (new_number gone)) (if not b then link ∷ filter (λ link. not (names_gone gone link.kind)) rest else filter (λ link. not (names_gone gone link.kind)) rest)) is
  link_step false link rest is = ap (λ (b : Bool). map (link_with (new_number gone)) (if not b then link ∷ filter (λ link. not (names_gone gone link.kind)) rest else filter (λ link. not (names_gone gone link.kind)) rest)) is

  was_one_more : (link : Link) (rest : List Link) (found : Link) → WasLink gone rest found → WasLink gone (link ∷ rest) found
  was_one_more link rest found was = record { place = suc was.place; before = was.before; at = was.at; stays = was.stays; is = was.is }

  was_step : (b : Bool) (link : Link) (rest : List Link) (l : ℕ) (found : Link) → names_gone gone link.kind ≡ b → ((i : ℕ) → slice_get (links_left gone rest) i ≡ Some found → WasLink gone rest found)
      → slice_get (if b then links_left gone rest else link_with (new_number gone) link ∷ links_left gone rest) l ≡ Some found → WasLink gone (link ∷ rest) found
  was_step true link rest l found is later at = was_one_more link rest found (later l at)
  was_step false link rest zero found is later at = record { place = 0; before = link; at = refl; stays = is; is = cc }
  was_step false link rest (suc l) found is later at = was_one_more link rest found (later l at)

  -- a link that is left is one of before
  pub was_link : (links : List Link) (l : ℕ) (link : Link) → slice_get (links_left gone links) l ≡ Some link → WasLink gone links link
  was_link [] l link at = absurd cc
  was_link (x ∷ rest) l link at =
      was_step (names_gone gone x.kind) x rest l link refl (λ i is. was_link rest i link is)
      (subst (λ (ls : List Link). slice_get ls l ≡ Some link) (link_step (names_gone gone x.kind) x rest refl) at)

  module _ (side : LinkKind → List ℕ) (mapped : (kind : LinkKind) → side (kind_with (new_number gone) kind) ≡ map (new_number gone) (side kind))
      (stay : (kind : LinkKind) → names_gone gone kind ≡ false → AllStay (side kind)) where
    times_step : (b : Bool) (link : Link) (rest : List Link) (k : ℕ) → names_gone gone link.kind ≡ b → has k gone ≡ false
        → times_named side (links_left gone rest) (new_number gone k) ≤ times_named side rest k
        → times_named side (if b then links_left gone rest else link_with (new_number gone) link ∷ links_left gone rest) (new_number gone k) ≤ times_named side (link ∷ rest) k
    times_step true link rest k is stays later = omega arith
    times_step false link rest k is stays later =
        let here : count_of (new_number gone k) (side (kind_with (new_number gone) link.kind)) ≡ count_of k (side link.kind) =
        ap (count_of (new_number gone k)) (mapped link.kind) ∙ count_then (side link.kind) k stays (stay link.kind is) in
        omega arith

    -- a trip that stays is named no more often
    times_then : (links : List Link) (k : ℕ) → has k gone ≡ false → times_named side (links_left gone links) (new_number gone k) ≤ times_named side links k
    times_then [] k stays = omega arith
    times_then (link ∷ rest) k stays =
        subst (λ (ls : List Link). times_named side ls (new_number gone k) ≤ times_named side (link ∷ rest) k) (sym (link_step (names_gone gone link.kind) link rest refl))
        (times_step (names_gone gone link.kind) link rest k refl stays (times_then rest k stays))

    named_step : (b : Bool) (link : Link) (rest : List Link) (t : ℕ) → names_gone gone link.kind ≡ b
        → ((times_named side (links_left gone rest) t ≡ 0) ⊎ ((k : ℕ) × (has k gone ≡ false) × (new_number gone k ≡ t)))
        → (times_named side (if b then links_left gone rest else link_with (new_number gone) link ∷ links_left gone rest) t ≡ 0) ⊎ ((k : ℕ) × (has k gone ≡ false) × (new_number gone k ≡ t))
    named_step true link rest t is later = later
    named_step false link rest t is (inr found) = inr found
    named_step false link rest t is (inl none) = elim (none_or_was (side link.kind) t (stay link.kind is)) [
      | inl here ↦ let same = ap (count_of t) (mapped link.kind) in inl (omega arith)
      | inr was ↦ inr (was.before, was.stays, was.number)
    ]

    -- no link names a number but that of a trip that stays
    never_or_was : (links : List Link) (t : ℕ) → (times_named side (links_left gone links) t ≡ 0) ⊎ ((k : ℕ) × (has k gone ≡ false) × (new_number gone k ≡ t))
    never_or_was [] t = inl refl
    never_or_was (link ∷ rest) t =
        subst (λ (ls : List Link). (times_named side ls t ≡ 0) ⊎ ((k : ℕ) × (has k gone ≡ false) × (new_number gone k ≡ t))) (sym (link_step (names_gone gone link.kind) link rest refl))
        (named_step (names_gone gone link.kind) link rest t refl (never_or_was rest t))

    pub once_then : (links : List Link) → ((k : ℕ) → times_named side links k ≤ 1) → (t : ℕ) → times_named side (links_left gone links) t ≤ 1
    once_then links once t = elim (never_or_was links t) [
      | inl none ↦ omega arith
      | inr found ↦
          let (k, stays, is) = found in
          let before : times_named side links k ≤ 1 = once k in
          let fewer : times_named side (links_left gone links) (new_number gone k) ≤ times_named side links k = times_then links k stays in
          let same : times_named side (links_left gone links) (new_number gone k) ≡ times_named side (links_left gone links) t = ap (times_named side (links_left gone links)) is in
          omega arith
    ]
