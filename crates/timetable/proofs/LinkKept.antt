-- What stays in the train from one trip of a link to another.
use Rattle.std.proofs.Common.{◌≡◌, ℕ, ◌<◌, List, [], ◌∷◌, Bool, true, false, cond, leb, refl, sym, ap, ◌∙◌, subst, arith, inl, inr}
use Rattle.std.specs.Prelude.{◌==◌, ◌&&◌, ◌⊎◌, IsTrue}
use Rattle.std.proofs.lemmas.Bool.{cases_eq, cond-true, cond-false, eq-eqb, ne_eqb, leb-true, le-leb}
use Rattle.rules.specs.declared.records.End.{End}
use Rattle.rules.specs.declared.records.LinkKind.{LinkKind}
use Rattle.rules.specs.declared.records.LinkKind.TheVariants.{Turn, Join, Split}
use Rattle.timetable.specs.LinkRows.{NamesBelow}
use Rattle.timetable.specs.Links.{list_of, turned, turn_of, arriving_in, departing_in, kept_by}
use Rattle.timetable.specs.Lists.{count_of, has}
use Rattle.timetable.proofs.LinkKinds.{same_alone}
use Rattle.timetable.proofs.Ones.{one_same, one_other}

-- ---- whether a trip is named

pub has_alone : (t a : ℕ) → has t (a ∷ []) ≡ (t == a)
has_alone t a = elim (cases_eq t a) [
  | inl e ↦ let one = one_same a t (sym e) in le-leb 1 (count_of t (a ∷ [])) (omega arith) ∙ sym (eq-eqb t a e)
  | inr ne ↦ let none = one_other a t (λ e. ne (sym e)) in ap (λ (n : ℕ). leb 1 n) (let zero : count_of t (a ∷ []) ≡ 0 = omega arith in zero) ∙ sym (ne_eqb t a ne)
]

in_two : (t a b : ℕ) → IsTrue (has t (a ∷ b ∷ [])) → (a ≡ t) ⊎ (b ≡ t)
in_two t a b named = elim (cases_eq a t) [
  | inl e ↦ inl e
  | inr ne ↦ elim (cases_eq b t) [
    | inl e ↦ inr e
    | inr ne' ↦
        let first = one_other a t ne in
        let second = one_other b t ne' in
        let some = leb-true 1 (count_of t (a ∷ b ∷ [])) named in
        absurd (omega arith)
  ]
]

-- trips that a link names are below what all its trips are below
pub arriving_below : (kind : LinkKind) (bound t : ℕ) → NamesBelow bound kind → IsTrue (has t (arriving_in kind)) → t < bound
arriving_below (Turn a b uncouple couple exchange) bound t below named =
    subst (λ (x : ℕ). x < bound) (same_alone t a (leb-true 1 (count_of t (a ∷ [])) named)) below.0
arriving_below (Join a1 a2 b) bound t below named = elim (in_two t a1 a2 named) [
  | inl e ↦ subst (λ (x : ℕ). x < bound) e below.0
  | inr e ↦ subst (λ (x : ℕ). x < bound) e below.1
]
arriving_below (Split a b1 b2) bound t below named =
    subst (λ (x : ℕ). x < bound) (same_alone t a (leb-true 1 (count_of t (a ∷ [])) named)) below.0

pub departing_below : (kind : LinkKind) (bound t : ℕ) → NamesBelow bound kind → IsTrue (has t (departing_in kind)) → t < bound
departing_below (Turn a b uncouple couple exchange) bound t below named =
    subst (λ (x : ℕ). x < bound) (same_alone t b (leb-true 1 (count_of t (b ∷ [])) named)) below.1
departing_below (Join a1 a2 b) bound t below named =
    subst (λ (x : ℕ). x < bound) (same_alone t b (leb-true 1 (count_of t (b ∷ [])) named)) below.2
departing_below (Split a b1 b2) bound t below named = elim (in_two t b1 b2 named) [
  | inl e ↦ subst (λ (x : ℕ). x < bound) e below.1
  | inr e ↦ subst (λ (x : ℕ). x < bound) e below.2
]

-- ---- what is kept

module _ (type_of : ℕ → ℕ) (r : Bool) (lists : List (List ℕ)) (from to : ℕ) where
  -- between two trips that the link leads from one to the other
  abbrev kept_between : LinkKind → List ℕ
  kept_between (Turn a b uncouple couple exchange) = (turn_of type_of uncouple couple exchange (turned r (list_of lists a)) (list_of lists b)).kept
  kept_between (Join a1 a2 b) = turned r (list_of lists from)
  kept_between (Split a b1 b2) = list_of lists to

  kept_is : (kind : LinkKind) → kept_by type_of kind r lists from to ≡ cond (has from (arriving_in kind) && has to (departing_in kind)) (kept_between kind) []
  kept_is (Turn a b uncouple couple exchange) = rw (has_alone from a, has_alone to b) refl
  kept_is (Join a1 a2 b) = rw (has_alone to b) refl
  kept_is (Split a b1 b2) = rw (has_alone from a) refl

  pub nothing_kept : (kind : LinkKind) → has from (arriving_in kind) && has to (departing_in kind) ≡ false → [] ≡ kept_by type_of kind r lists from to
  nothing_kept kind apart = sym (kept_is kind ∙ cond-false (has from (arriving_in kind) && has to (departing_in kind)) (kept_between kind) [] apart)

  all_kept : (kind : LinkKind) → has from (arriving_in kind) && has to (departing_in kind) ≡ true → kept_between kind ≡ kept_by type_of kind r lists from to
  all_kept kind led = sym (kept_is kind ∙ cond-true (has from (arriving_in kind) && has to (departing_in kind)) (kept_between kind) [] led)

  module _ (kind : LinkKind) (led : has from (arriving_in kind) && has to (departing_in kind) ≡ true) where
    pub turn_kept : (a b : ℕ) (uncouple couple : End) (exchange : Bool) → kind ≡ Turn a b uncouple couple exchange
        → (turn_of type_of uncouple couple exchange (turned r (list_of lists a)) (list_of lists b)).kept ≡ kept_by type_of kind r lists from to
    turn_kept a b uncouple couple exchange is = ap kept_between (sym is) ∙ all_kept kind led

    pub join_kept : (a1 a2 b : ℕ) → kind ≡ Join a1 a2 b → turned r (list_of lists from) ≡ kept_by type_of kind r lists from to
    join_kept a1 a2 b is = ap kept_between (sym is) ∙ all_kept kind led

    pub split_kept : (a b1 b2 : ℕ) → kind ≡ Split a b1 b2 → list_of lists to ≡ kept_by type_of kind r lists from to
    split_kept a b1 b2 is = ap kept_between (sym is) ∙ all_kept kind led
