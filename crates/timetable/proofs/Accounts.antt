-- What becomes of the units that arrive, and where those that depart come from, by counts alone, where every link's
-- rule holds.
use Rattle.std.proofs.Common.{◌≡◌, ℕ, ◌+◌, ◌<◌, ◌≤◌, List, sym, ap, ◌∙◌, arith, ◌≢◌, ⊎_elim, ◌⊎◌, inl, inr}
use Rattle.std.proofs.lemmas.Bool.{cases_eq, cases_lt}
use Rattle.timetable.specs.Day.{Day, leaves, arrives, type_of}
use Rattle.timetable.specs.Lists.{count_of}
use Rattle.timetable.specs.Links.{list_of, kept, given, taken, kept_with, given_with, taken_with}

-- what arrives with a trip is given to the yard, or kept for one of two trips at most
pub record GivesWith (type_of : ℕ → ℕ) (day : Day) (lists : List (List ℕ)) (a : ℕ) : Type 0 where
  pub first : ℕ
  pub second : ℕ
  pub apart : first ≢ second
  pub total : (u : ℕ) → count_of u (list_of lists a) ≡ count_of u (given_with type_of day lists a) + count_of u (kept_with type_of day lists a first) + count_of u (kept_with type_of day lists a second)
  pub others : (u b : ℕ) → b ≢ first → b ≢ second → count_of u (kept_with type_of day lists a b) ≡ 0

-- what departs with a trip is taken from the yard, or was kept from one of two trips at most
pub record TakesWith (type_of : ℕ → ℕ) (day : Day) (lists : List (List ℕ)) (b : ℕ) : Type 0 where
  pub first : ℕ
  pub second : ℕ
  pub apart : first ≢ second
  pub total : (u : ℕ) → count_of u (list_of lists b) ≡ count_of u (taken_with type_of day lists b) + count_of u (kept_with type_of day lists first b) + count_of u (kept_with type_of day lists second b)
  pub others : (u a : ℕ) → a ≢ first → a ≢ second → count_of u (kept_with type_of day lists a b) ≡ 0

-- all units of all trips are accounted for
pub record AreAccountedWith (type_of : ℕ → ℕ) (day : Day) (lists : List (List ℕ)) : Type 0 where
  pub gives : (a : ℕ) → GivesWith type_of day lists a
  pub takes : (b : ℕ) → TakesWith type_of day lists b
  pub time : (u a b : ℕ) → 1 ≤ count_of u (kept_with type_of day lists a b) → arrives day a ≤ leaves day b

-- of the units of a plan
abbrev pub AreAccounted : Day → List (List ℕ) → Type 0
AreAccounted day plan = AreAccountedWith (type_of day) day plan

-- what follows for one unit
module _ (day : Day) (plan : List (List ℕ)) (accounted : AreAccounted day plan) where
  pub kept_arrives : (u a b : ℕ) → count_of u (kept day plan a b) ≤ count_of u (list_of plan a)
  kept_arrives u a b =
      ⊎_elim (λ (e : b ≡ (accounted.gives a).first). let t = (accounted.gives a).total u in let c = ap (λ x. count_of u (kept day plan a x)) e in omega arith)
      (λ (ne : b ≢ (accounted.gives a).first).
      ⊎_elim (λ (e : b ≡ (accounted.gives a).second). let t = (accounted.gives a).total u in let c = ap (λ x. count_of u (kept day plan a x)) e in omega arith)
      (λ (ne' : b ≢ (accounted.gives a).second). let z = (accounted.gives a).others u b ne ne' in omega arith) (cases_eq b (accounted.gives a).second))
      (cases_eq b (accounted.gives a).first)

  pub kept_departs : (u a b : ℕ) → count_of u (kept day plan a b) ≤ count_of u (list_of plan b)
  kept_departs u a b =
      ⊎_elim (λ (e : a ≡ (accounted.takes b).first). let t = (accounted.takes b).total u in let c = ap (λ x. count_of u (kept day plan x b)) e in omega arith)
      (λ (ne : a ≢ (accounted.takes b).first).
      ⊎_elim (λ (e : a ≡ (accounted.takes b).second). let t = (accounted.takes b).total u in let c = ap (λ x. count_of u (kept day plan x b)) e in omega arith)
      (λ (ne' : a ≢ (accounted.takes b).second). let z = (accounted.takes b).others u a ne ne' in omega arith) (cases_eq a (accounted.takes b).second))
      (cases_eq a (accounted.takes b).first)

  -- a unit that is in its train once is given or kept, and not both
  pub not_given_and_kept : (u a b : ℕ) → count_of u (list_of plan a) ≤ 1 → 1 ≤ count_of u (given day plan a) → 1 ≤ count_of u (kept day plan a b) → ⊥
  not_given_and_kept u a b once g k =
      ⊎_elim (λ (e : b ≡ (accounted.gives a).first). let t = (accounted.gives a).total u in let c = ap (λ x. count_of u (kept day plan a x)) e in absurd (omega arith))
      (λ (ne : b ≢ (accounted.gives a).first).
      ⊎_elim (λ (e : b ≡ (accounted.gives a).second). let t = (accounted.gives a).total u in let c = ap (λ x. count_of u (kept day plan a x)) e in absurd (omega arith))
      (λ (ne' : b ≢ (accounted.gives a).second). let z = (accounted.gives a).others u b ne ne' in absurd (omega arith)) (cases_eq b (accounted.gives a).second))
      (cases_eq b (accounted.gives a).first)

  -- a unit that is in a train once is taken or kept, and not both
  pub not_taken_and_kept : (u a b : ℕ) → count_of u (list_of plan b) ≤ 1 → 1 ≤ count_of u (taken day plan b) → 1 ≤ count_of u (kept day plan a b) → ⊥
  not_taken_and_kept u a b once g k =
      ⊎_elim (λ (e : a ≡ (accounted.takes b).first). let t = (accounted.takes b).total u in let c = ap (λ x. count_of u (kept day plan x b)) e in absurd (omega arith))
      (λ (ne : a ≢ (accounted.takes b).first).
      ⊎_elim (λ (e : a ≡ (accounted.takes b).second). let t = (accounted.takes b).total u in let c = ap (λ x. count_of u (kept day plan x b)) e in absurd (omega arith))
      (λ (ne' : a ≢ (accounted.takes b).second). let z = (accounted.takes b).others u a ne ne' in absurd (omega arith)) (cases_eq a (accounted.takes b).second))
      (cases_eq a (accounted.takes b).first)

  -- a unit that arrives once is kept for one trip alone
  pub kept_for_one : (u a b c : ℕ) → count_of u (list_of plan a) ≤ 1 → 1 ≤ count_of u (kept day plan a b) → 1 ≤ count_of u (kept day plan a c) → b ≡ c
  kept_for_one u a b c once kb kc =
      ⊎_elim (λ (e : b ≡ c). e)
      (λ (ne : b ≢ c). absurd (two (one_of b kb) (one_of c kc) ne)) (cases_eq b c)
    where
      g : GivesWith (type_of day) day plan a
      g = accounted.gives a

      one_of : (x : ℕ) → 1 ≤ count_of u (kept day plan a x) → (x ≡ (accounted.gives a).first) ⊎ (x ≡ (accounted.gives a).second)
      one_of x k = ⊎_elim (λ e. inl e) (λ ne. ⊎_elim (λ e. inr e) (λ ne'. let z = (accounted.gives a).others u x ne ne' in absurd (omega arith)) (cases_eq x (accounted.gives a).second)) (cases_eq x (accounted.gives a).first)

      two : (b ≡ (accounted.gives a).first) ⊎ (b ≡ (accounted.gives a).second) → (c ≡ (accounted.gives a).first) ⊎ (c ≡ (accounted.gives a).second) → b ≢ c → ⊥
      two (inl e) (inl f) ne = ne (e ∙ sym f)
      two (inr e) (inr f) ne = ne (e ∙ sym f)
      two (inl e) (inr f) ne = let t = (accounted.gives a).total u in let x = ap (λ x. count_of u (kept day plan a x)) e in let y = ap (λ x. count_of u (kept day plan a x)) f in absurd (omega arith)
      two (inr e) (inl f) ne = let t = (accounted.gives a).total u in let x = ap (λ x. count_of u (kept day plan a x)) e in let y = ap (λ x. count_of u (kept day plan a x)) f in absurd (omega arith)

  -- where a unit that departs comes from
  pub comes_from : (u b : ℕ) → 1 ≤ count_of u (list_of plan b) → (1 ≤ count_of u (taken day plan b)) ⊎ ((a : ℕ) × (1 ≤ count_of u (kept day plan a b)))
  comes_from u b c =
      let t = (accounted.takes b).total u in
      ⊎_elim (λ (x : 0 < count_of u (taken day plan b)). inl (omega arith))
      (λ (x : count_of u (taken day plan b) ≤ 0).
      ⊎_elim (λ (y : 0 < count_of u (kept day plan (accounted.takes b).first b)). inr ((accounted.takes b).first, omega arith))
      (λ (y : count_of u (kept day plan (accounted.takes b).first b) ≤ 0). inr ((accounted.takes b).second, omega arith))
      (cases_lt 0 (count_of u (kept day plan (accounted.takes b).first b))))
      (cases_lt 0 (count_of u (taken day plan b)))

  -- where a unit that arrives goes to
  pub goes_to : (u a : ℕ) → 1 ≤ count_of u (list_of plan a) → count_of u (given day plan a) ≡ 0 → (b : ℕ) × (1 ≤ count_of u (kept day plan a b))
  goes_to u a c none =
      let t = (accounted.gives a).total u in
      ⊎_elim (λ (y : 0 < count_of u (kept day plan a (accounted.gives a).first)). ((accounted.gives a).first, omega arith))
      (λ (y : count_of u (kept day plan a (accounted.gives a).first) ≤ 0). ((accounted.gives a).second, omega arith))
      (cases_lt 0 (count_of u (kept day plan a (accounted.gives a).first)))
