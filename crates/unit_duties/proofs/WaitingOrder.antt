-- The order of waiting units, by their numbers.
use Rattle.std.proofs.Common.{◌≡◌, ◌≢◌, ℕ, ◌<◌, ◌≤◌, ◌⊎◌, inl, inr, List, ◌∷◌, Bool, true, false, cond, not, eqb, Less}
use Rattle.std.proofs.Common.{Equal, Greater, is_gt, refl, sym, ap, ◌∙◌, subst, arith, ⊎_elim}
use Rattle.std.specs.declared.cmp.Ordering.{Ordering}
use Rattle.std.specs.Prelude.{IsTrue, ◌↔◌, IfSome, slice_get}
use Rattle.std.specs.BTreeSet.{BTreeSet, contains}
use Rattle.std.specs.Cmp.{IsTotalOrder}
use Rattle.std.specs.List.{Contains}
use Rattle.std.specs.Ordering.{nat_cmp, ordering_then, is_eq}
use Rattle.std.proofs.lemmas.Bool.{cases_eq, cases_lt, cases_Bool, cond-true, cond-false, false≢true}
use Rattle.std.proofs.lemmas.Bool.Decides.{nat_tests}
use Rattle.std.proofs.lemmas.Map.Views.{btree_set_contains_iff}
use Rattle.unit_duties.specs.declared.yards.Waiting.{Waiting}
use Rattle.unit_duties.specs.Yards.{Waits, IsFirstReady, IsTaken}
use Rattle.unit_duties.specs.contracts.yards.WaitingOrd.TheImpl.{cmp-value}
use Rattle.unit_duties.specs.contracts.yards.WaitingOrd.TheImpl.Laws.{total-law}

-- the order that is derived
abbrev pub order : Waiting → Waiting → Ordering
order = cmp-value.it

less : (x y : ℕ) → x < y → nat_cmp x y ≡ Less
less x y h = grind (arith, nat_tests)

equal : (x y : ℕ) → x ≡ y → nat_cmp x y ≡ Equal
equal x y h = grind (arith, nat_tests)

greater : (x y : ℕ) → y < x → nat_cmp x y ≡ Greater
greater x y h = grind (arith, nat_tests)

-- three ways in which two numbers stand to each other
three : (x y : ℕ) → (x < y) ⊎ ((x ≡ y) ⊎ (y < x))
three x y = ⊎_elim (λ (lt : x < y). inl lt) (λ (ge : y ≤ x). ⊎_elim (λ (e : x ≡ y). inr (inl e)) (λ (ne : x ≢ y). inr (inr (omega arith))) (cases_eq x y)) (cases_lt x y)

then_is : (c d o : Ordering) → c ≡ d → ordering_then c o ≡ ordering_then d o
then_is c d o e = ap (λ (k : Ordering). ordering_then k o) e

-- numbers that are compared before others
not_greater : (x y : ℕ) (o : Ordering) → is_gt (ordering_then (nat_cmp x y) o) ≡ false → (x < y) ⊎ ((x ≡ y) × (is_gt o ≡ false))
not_greater x y o h = elim (three x y) [
  | inl lt ↦ inl lt
  | inr (inl e) ↦ inr (e, ap is_gt (sym (then_is (nat_cmp x y) Equal o (equal x y e))) ∙ h)
  | inr (inr gt) ↦ let bad : true ≡ false = ap is_gt (sym (then_is (nat_cmp x y) Greater o (greater x y gt))) ∙ h in absurd (cc)
]

is_not_greater : (x y : ℕ) (o : Ordering) → (x < y) ⊎ ((x ≡ y) × (is_gt o ≡ false)) → is_gt (ordering_then (nat_cmp x y) o) ≡ false
is_not_greater x y o (inl lt) = ap is_gt (then_is (nat_cmp x y) Less o (less x y lt))
is_not_greater x y o (inr h) = ap is_gt (then_is (nat_cmp x y) Equal o (equal x y h.0)) ∙ h.1

both_equal : (x y : ℕ) (o : Ordering) → ordering_then (nat_cmp x y) o ≡ Equal → (x ≡ y) × (o ≡ Equal)
both_equal x y o h = elim (three x y) [
  | inl lt ↦ let bad : Less ≡ Equal = sym (then_is (nat_cmp x y) Less o (less x y lt)) ∙ h in absurd (cc)
  | inr (inl e) ↦ (e, sym (then_is (nat_cmp x y) Equal o (equal x y e)) ∙ h)
  | inr (inr gt) ↦ let bad : Greater ≡ Equal = sym (then_is (nat_cmp x y) Greater o (greater x y gt)) ∙ h in absurd (cc)
]

last_not_greater : (x y : ℕ) → is_gt (nat_cmp x y) ≡ false → x ≤ y
last_not_greater x y h = elim (three x y) [
  | inl lt ↦ omega arith
  | inr (inl e) ↦ omega arith
  | inr (inr gt) ↦ let bad : true ≡ false = ap is_gt (sym (greater x y gt)) ∙ h in absurd (cc)
]

last_is_not_greater : (x y : ℕ) → x ≤ y → is_gt (nat_cmp x y) ≡ false
last_is_not_greater x y h = ⊎_elim (λ (lt : x < y). ap is_gt (less x y lt)) (λ (ge : y ≤ x). ap is_gt (equal x y (omega arith))) (cases_lt x y)

last_equal : (x y : ℕ) → nat_cmp x y ≡ Equal → x ≡ y
last_equal x y h = elim (three x y) [
  | inl lt ↦ let bad : Less ≡ Equal = sym (less x y lt) ∙ h in absurd (cc)
  | inr (inl e) ↦ e
  | inr (inr gt) ↦ let bad : Greater ≡ Equal = sym (greater x y gt) ∙ h in absurd (cc)
]

-- a unit that is in the order no later than one of the same station and type
pub no_later : (a b : Waiting) → is_gt (order a b) ≡ false → a.station ≡ b.station → a.unit_type ≡ b.unit_type → (a.ready < b.ready) ⊎ ((a.ready ≡ b.ready) × (a.unit ≤ b.unit))
no_later a b h s m = elim (not_greater a.station b.station _ h) [
  | inl lt ↦ absurd (omega arith)
  | inr more ↦ elim (not_greater a.unit_type b.unit_type _ more.1) [
    | inl lt ↦ absurd (omega arith)
    | inr last ↦ elim (not_greater a.ready b.ready _ last.1) [
      | inl lt ↦ inl lt
      | inr end ↦ inr (end.0, last_not_greater a.unit b.unit end.1)
    ]
  ]
]

-- what lies between two of one station and type is of them too
pub is_between : (s m r u : ℕ) (a : Waiting) → is_gt (order (record { station = s; unit_type = m; ready = 0; unit = 0 }) a) ≡ false
    → is_gt (order a (record { station = s; unit_type = m; ready = r; unit = u })) ≡ false → (a.station ≡ s) × (a.unit_type ≡ m)
is_between s m r u a low high = elim (not_greater s a.station _ low) [
  | inl lt ↦ elim (not_greater a.station s _ high) [ inl gt ↦ absurd (omega arith) | inr same ↦ let e = same.0 in absurd (omega arith) ]
  | inr more ↦ elim (not_greater m a.unit_type _ more.1) [
    | inl lt ↦ elim (not_greater a.station s _ high) [
      | inl gt ↦ let e = more.0 in absurd (omega arith)
      | inr same ↦ elim (not_greater a.unit_type m _ same.1) [ inl gt ↦ absurd (omega arith) | inr last ↦ let e = last.0 in absurd (omega arith) ]
    ]
    | inr last ↦ (sym more.0, sym last.0)
  ]
]

-- the first that may be of a station and type is no later than each of them
pub from_first : (s m r u : ℕ) → is_gt (order (record { station = s; unit_type = m; ready = 0; unit = 0 }) (record { station = s; unit_type = m; ready = r; unit = u })) ≡ false
from_first s m r u = is_not_greater s s _ (inr (refl, is_not_greater m m _ (inr (refl, rest))))
  where
    rest : is_gt (ordering_then (nat_cmp 0 r) (nat_cmp 0 u)) ≡ false
    rest = ⊎_elim (λ (lt : 0 < r). is_not_greater 0 r _ (inl lt)) (λ (ge : r ≤ 0). is_not_greater 0 r _ (inr (omega arith, last_is_not_greater 0 u (omega arith)))) (cases_lt 0 r)

-- units that are alike in the order are one
pub tells_apart : (a b : Waiting) → order a b ≡ Equal → a ≡ b
tells_apart a b h =
    let station = both_equal a.station b.station _ h in
    let unit_type = both_equal a.unit_type b.unit_type _ station.1 in
    let ready = both_equal a.ready b.ready _ unit_type.1 in
    same a b station.0 unit_type.0 ready.0 (last_equal a.unit b.unit ready.1)
  where
    same : (a b : Waiting) → a.station ≡ b.station → a.unit_type ≡ b.unit_type → a.ready ≡ b.ready → a.unit ≡ b.unit → a ≡ b
    same a b p q r t =
        ap (λ (x : ℕ). record { station = x; unit_type = a.unit_type; ready = a.ready; unit = a.unit }) p
        ∙ ap (λ (x : ℕ). record { station = b.station; unit_type = x; ready = a.ready; unit = a.unit }) q
        ∙ ap (λ (x : ℕ). record { station = b.station; unit_type = b.unit_type; ready = x; unit = a.unit }) r
        ∙ ap (λ (x : ℕ). record { station = b.station; unit_type = b.unit_type; ready = b.ready; unit = x }) t

pub waiting_total : IsTotalOrder order
waiting_total = total-law

-- a set has what is among its keys
pub has_key : (yards : BTreeSet Waiting) (w : Waiting) → IsTrue (contains order yards w) ↔ Contains yards.keys w
has_key yards w = btree_set_contains_iff waiting_total tells_apart yards w

-- what is known of the first of a list, where it has one
pub of_first : (P : Waiting → Type 0) (ws rest : List Waiting) (w : Waiting) → ws ≡ w ∷ rest → IfSome (slice_get ws 0) P → P w
of_first P ws rest w e h = subst (λ (l : List Waiting). IfSome (slice_get l 0) P) e h

-- a test for a difference that failed, or passed
pub not_differing : (x y : ℕ) (b : Bool) → b ≡ not (eqb x y) → b ≡ false → x ≡ y
not_differing x y b e f = grind (arith, nat_tests)

pub differing : (x y : ℕ) (b : Bool) → b ≡ not (eqb x y) → b ≡ true → x ≡ y → ⊥
differing x y b e f same = grind (arith, nat_tests)

-- what was found is the first that is ready
pub found_ready : (yards : BTreeSet Waiting) (s m minute : ℕ) (first : Waiting) → Contains yards.keys first → first.station ≡ s → first.unit_type ≡ m → first.ready ≤ minute
    → ((r u : ℕ) → Waits yards s m r u → is_gt (order first (record { station = s; unit_type = m; ready = r; unit = u })) ≡ false) → IsFirstReady yards s m minute first
found_ready yards s m minute first there es em ready least = record {
  there = subst (λ (x : ℕ). Contains yards.keys (record { station = x; unit_type = m; ready = first.ready; unit = first.unit })) es
      (subst (λ (x : ℕ). Contains yards.keys (record { station = first.station; unit_type = x; ready = first.ready; unit = first.unit })) em there);
  station = es;
  unit_type = em;
  ready = ready;
  first = λ r u waits. no_later first (record { station = s; unit_type = m; ready = r; unit = u }) (least r u waits) es em;
}

-- ---- one unit more or fewer

order_self : (w : Waiting) → order w w ≡ Equal
order_self w =
    then_is (nat_cmp w.station w.station) Equal (ordering_then (nat_cmp w.unit_type w.unit_type) (ordering_then (nat_cmp w.ready w.ready) (nat_cmp w.unit w.unit))) (equal w.station w.station refl)
    ∙ then_is (nat_cmp w.unit_type w.unit_type) Equal (ordering_then (nat_cmp w.ready w.ready) (nat_cmp w.unit w.unit)) (equal w.unit_type w.unit_type refl)
    ∙ then_is (nat_cmp w.ready w.ready) Equal (nat_cmp w.unit w.unit) (equal w.ready w.ready refl) ∙ equal w.unit w.unit refl

is_equal : (o : Ordering) → is_eq o ≡ true → o ≡ Equal
is_equal Less h = absurd (false≢true h)
is_equal Equal h = refl
is_equal Greater h = absurd (false≢true h)

alike : (v w : Waiting) → is_eq (order v w) ≡ true → v ≡ w
alike v w h = tells_apart v w (is_equal (order v w) h)

same_alike : (v w : Waiting) → v ≡ w → is_eq (order v w) ≡ true
same_alike v w e = ap is_eq (ap (order v) (sym e) ∙ order_self v)

-- what a set has that one unit was taken from
pub taken_from : (yards after : BTreeSet Waiting) (v : Waiting) → ((q : Waiting) → contains order after q ≡ cond (is_eq (order v q)) false (contains order yards q))
    → (w : Waiting) → Contains after.keys w ↔ (Contains yards.keys w × (w ≡ v → ⊥))
taken_from yards after v updates w = (out, back)
  where
    out : Contains after.keys w → Contains yards.keys w × (w ≡ v → ⊥)
    out h =
        let there : contains order after w ≡ true = (has_key after w).1 h in
        ⊎_elim
        (λ (is : is_eq (order v w) ≡ true). absurd (false≢true (sym (updates w ∙ cond-true (is_eq (order v w)) false (contains order yards w) is) ∙ there)))
        (λ (isnt : is_eq (order v w) ≡ false).
        ((has_key yards w).0 (sym (updates w ∙ cond-false (is_eq (order v w)) false (contains order yards w) isnt) ∙ there), λ e. absurd (false≢true (sym isnt ∙ same_alike v w (sym e)))))
        (cases_Bool (is_eq (order v w)))

    back : Contains yards.keys w × (w ≡ v → ⊥) → Contains after.keys w
    back h = ⊎_elim
        (λ (is : is_eq (order v w) ≡ true). absurd (h.1 (sym (alike v w is))))
        (λ (isnt : is_eq (order v w) ≡ false). (has_key after w).0 (updates w ∙ cond-false (is_eq (order v w)) false (contains order yards w) isnt ∙ (has_key yards w).1 h.0))
        (cases_Bool (is_eq (order v w)))

-- what a set has that one unit was put into
pub put_into : (yards after : BTreeSet Waiting) (v : Waiting) → ((q : Waiting) → contains order after q ≡ cond (is_eq (order v q)) true (contains order yards q))
    → (w : Waiting) → Contains after.keys w ↔ ((w ≡ v) ⊎ Contains yards.keys w)
put_into yards after v updates w = (out, back)
  where
    out : Contains after.keys w → (w ≡ v) ⊎ Contains yards.keys w
    out h =
        let there : contains order after w ≡ true = (has_key after w).1 h in
        ⊎_elim
        (λ (is : is_eq (order v w) ≡ true). inl (sym (alike v w is)))
        (λ (isnt : is_eq (order v w) ≡ false). inr ((has_key yards w).0 (sym (updates w ∙ cond-false (is_eq (order v w)) true (contains order yards w) isnt) ∙ there)))
        (cases_Bool (is_eq (order v w)))

    back : (w ≡ v) ⊎ Contains yards.keys w → Contains after.keys w
    back h = ⊎_elim
        (λ (is : is_eq (order v w) ≡ true). (has_key after w).0 (updates w ∙ cond-true (is_eq (order v w)) true (contains order yards w) is))
        (λ (isnt : is_eq (order v w) ≡ false). ⊎_elim
        (λ (e : w ≡ v). absurd (false≢true (sym isnt ∙ same_alike v w (sym e))))
        (λ (old : Contains yards.keys w). (has_key after w).0 (updates w ∙ cond-false (is_eq (order v w)) true (contains order yards w) isnt ∙ (has_key yards w).1 old)) h)
        (cases_Bool (is_eq (order v w)))

-- the first that was ready was taken
pub first_taken : (yards after : BTreeSet Waiting) (s m minute : ℕ) (first : Waiting) → IsFirstReady yards s m minute first
    → ((q : Waiting) → contains order after q ≡ cond (is_eq (order first q)) false (contains order yards q)) → IsTaken yards s m minute after first.unit
first_taken yards after s m minute first found updates =
    let v : Waiting = record { station = s; unit_type = m; ready = first.ready; unit = first.unit } in
    let is : first ≡ v =
    ap (λ (x : ℕ). record { station = x; unit_type = first.unit_type; ready = first.ready; unit = first.unit }) found.station
    ∙ ap (λ (x : ℕ). record { station = s; unit_type = x; ready = first.ready; unit = first.unit }) found.unit_type in
    record {
      ready = first.ready;
      is_first = subst (λ (w : Waiting). IsFirstReady yards s m minute w) is found;
      others = subst (λ (x : Waiting). (w : Waiting) → Contains after.keys w ↔ (Contains yards.keys w × (w ≡ x → ⊥))) is (taken_from yards after first updates);
    }
