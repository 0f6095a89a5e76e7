-- Lists of units of the day, told by a test.
use Rattle.std.proofs.Common.{◌≡◌, ℕ, ◌+◌, ◌<◌, ◌≤◌, List, [], ◌∷◌, Bool, true, false, IsTrue, inl, inr, refl, sym}
use Rattle.std.proofs.Common.{subst, arith}
use Rattle.std.specs.Prelude.{if◌then◌else◌, nat_le, nat_lt, length, Option, unwrap_or}
use Rattle.std.specs.List.{list_all}
use Rattle.std.proofs.lemmas.Bool.{and_cases, and_parts, cases_eq, eq-eqb, le-leb, leb-true, ltb-false, ltb-true}
use Rattle.std.proofs.lemmas.Bool.{ne_eqb}
use Rattle.std.proofs.lemmas.Option.{slice_get_past}
use Rattle.timetable.specs.Links.{list_of}
use Rattle.timetable.specs.Lists.{count_of, has}

-- the units of a list that passes are known
pub known_units : (n : ℕ) (us : List ℕ) → list_all (λ u. nat_lt u n) us ≡ true → (u : ℕ) → IsTrue (has u us) → u < n
known_units n [] all u here = absurd cc
known_units n (v ∷ us) all u here =
    let parts = and_parts (nat_lt v n) (list_all (λ w. nat_lt w n) us) all in
    elim (cases_eq v u) [
      | inl is ↦ subst (λ (k : ℕ). k < n) is (ltb-true v n parts.0)
      | inr differ ↦
          let left : nat_le 1 (0 + count_of u us) ≡ true =
          subst (λ (b : Bool). nat_le 1 ((if b then 1 else 0) + count_of u us) ≡ true) (ne_eqb v u differ) here in
          let counted : 1 ≤ count_of u us = omega (arith, leb-true 1 (0 + count_of u us) left) in
          known_units n us parts.1 u (le-leb 1 (count_of u us) counted)
    ]

-- a list that doesn't pass has one that is not known
pub unknown_units : (n : ℕ) (us : List ℕ) → list_all (λ u. nat_lt u n) us ≡ false → ((u : ℕ) → IsTrue (has u us) → u < n) → ⊥
unknown_units n [] none known = cc
unknown_units n (v ∷ us) none known = elim (and_cases (nat_lt v n) (list_all (λ w. nat_lt w n) us) none) [
  | inl past ↦
      let once : 1 ≤ (if true then 1 else 0) + count_of v us = omega arith in
      let counted : 1 ≤ count_of v (v ∷ us) = subst (λ (b : Bool). 1 ≤ (if b then 1 else 0) + count_of v us) (sym (eq-eqb v v refl)) once in
      let within : v < n = known v (le-leb 1 (count_of v (v ∷ us)) counted) in
      omega (arith, within, ltb-false v n past)
  | inr later ↦ unknown_units n us later (λ u there.
      let counted : 1 ≤ count_of u us = leb-true 1 (count_of u us) there in
      known u (le-leb 1 (count_of u (v ∷ us)) (omega (arith, counted))))
]

-- a trip that is past the lists has no units
pub none_past : (n : ℕ) (lists : List (List ℕ)) (t : ℕ) → length lists ≤ t → (u : ℕ) → IsTrue (has u (list_of lists t)) → u < n
unfolding list_of
none_past n lists t past u here =
    let none : IsTrue (has u []) = subst (λ (o : Option (List ℕ)). IsTrue (has u (unwrap_or o []))) (slice_get_past lists t past) here in
    absurd cc
