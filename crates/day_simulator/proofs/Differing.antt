-- The first count that differs, found in a loop over stations or types.
use Rattle.std.proofs.Common.{◌≡◌, ℕ, zero, suc, ◌+◌, ◌≤◌, List, [], ◌∷◌, ◌++◌, length, Option, Some, None, Bool, true}
use Rattle.std.proofs.Common.{false, cond, refl, sym, ap, ◌∙◌, arith, eq-eqb, ne_eqb, ◌≢◌, ⊎_elim}
use Rattle.std.specs.Prelude.{◌==◌}
use Rattle.std.proofs.lemmas.Bool.{cases_lt}
use Rattle.timetable.specs.Day.{Day, wanted_of}
use Rattle.timetable.specs.Lists.{below}
use Rattle.day_simulator.specs.declared.events.StepFault.{StepFault}
use Rattle.day_simulator.specs.declared.events.StepFault.TheVariants.{Balance}
use Rattle.day_simulator.specs.State.{State}
use Rattle.day_simulator.specs.Finish.{yard_count, first_differing_type, first_differing, or_else}

or_else_assoc : (a b c : Option StepFault) → or_else (or_else a b) c ≡ or_else a (or_else b c)
or_else_assoc None b c = refl
or_else_assoc (Some f) b c = refl

or_else_none : (a : Option StepFault) → or_else a None ≡ a
or_else_none None = refl
or_else_none (Some f) = refl

module _ (day : Day) (state : State) where
  -- what is wrong with one type at a station
  abbrev pub fault_at : ℕ → ℕ → Option StepFault
  fault_at s m = cond (yard_count day state s m == wanted_of day s m) None (Some (Balance s m (yard_count day state s m) (wanted_of day s m)))

  -- the counts that were read differ, or agree
  pub differs_at : (s m count wanted : ℕ) → count ≡ yard_count day state s m → wanted ≡ wanted_of day s m → count ≢ wanted → fault_at s m ≡ Some (Balance s m count wanted)
  differs_at s m count wanted is_count is_wanted ne = rw (← is_count, ← is_wanted, ne_eqb count wanted ne) refl

  pub agrees_at : (s m count wanted : ℕ) → count ≡ yard_count day state s m → wanted ≡ wanted_of day s m → count ≡ wanted → fault_at s m ≡ None
  agrees_at s m count wanted is_count is_wanted e = rw (← is_count, ← is_wanted, eq-eqb count wanted e) refl

  types_cons : (s m : ℕ) (ms : List ℕ) → first_differing_type day state s (m ∷ ms) ≡ or_else (fault_at s m) (first_differing_type day state s ms)
  types_cons s m ms = by_test (yard_count day state s m == wanted_of day s m)
    where
      by_test : (b : Bool) → cond b (first_differing_type day state s ms) (Some (Balance s m (yard_count day state s m) (wanted_of day s m)))
          ≡ or_else (cond b None (Some (Balance s m (yard_count day state s m) (wanted_of day s m)))) (first_differing_type day state s ms)
      by_test true = refl
      by_test false = refl

  types_append : (s : ℕ) (ms ns : List ℕ) → first_differing_type day state s (ms ++ ns) ≡ or_else (first_differing_type day state s ms) (first_differing_type day state s ns)
  types_append s [] ns = refl
  types_append s (m ∷ ms) ns =
      types_cons s m (ms ++ ns) ∙ ap (or_else (fault_at s m)) (types_append s ms ns) ∙ sym (or_else_assoc (fault_at s m) _ _)
      ∙ ap (λ (o : Option StepFault). or_else o (first_differing_type day state s ns)) (sym (types_cons s m ms))

  stations_append : (ss rs : List ℕ) → first_differing day state (ss ++ rs) ≡ or_else (first_differing day state ss) (first_differing day state rs)
  stations_append [] rs = refl
  stations_append (s ∷ ss) rs =
      ap (or_else (first_differing_type day state s (below (length day.types)))) (stations_append ss rs) ∙ sym (or_else_assoc (first_differing_type day state s (below (length day.types))) _ _)

  -- one more type
  pub types_more : (s n : ℕ) → first_differing_type day state s (below (n + 1)) ≡ or_else (first_differing_type day state s (below n)) (fault_at s n)
  types_more s n =
      let next : n + 1 ≡ suc n = omega arith in
      ap (λ (k : ℕ). first_differing_type day state s (below k)) next ∙ types_append s (below n) (n ∷ [])
      ∙ ap (or_else (first_differing_type day state s (below n))) (types_cons s n [] ∙ or_else_none (fault_at s n))

  -- one more station
  pub stations_more : (n : ℕ) → first_differing day state (below (n + 1)) ≡ or_else (first_differing day state (below n)) (first_differing_type day state n (below (length day.types)))
  stations_more n =
      let next : n + 1 ≡ suc n = omega arith in
      ap (λ (k : ℕ). first_differing day state (below k)) next ∙ stations_append (below n) (n ∷ [])
      ∙ ap (or_else (first_differing day state (below n))) (or_else_none (first_differing_type day state n (below (length day.types))))

  -- the first of some is the first of more
  pub types_later : (s k n : ℕ) (f : StepFault) → k ≤ n → first_differing_type day state s (below k) ≡ Some f → first_differing_type day state s (below n) ≡ Some f
  types_later s k zero f le found = let none : k ≡ 0 = omega arith in ap (λ (j : ℕ). first_differing_type day state s (below j)) (sym none) ∙ found
  types_later s k (suc n) f le found = ⊎_elim (λ lt. later (types_later s k n f (omega arith) found)) (λ ge. here (omega arith)) (cases_lt k (suc n))
    where
      later : first_differing_type day state s (below n) ≡ Some f → first_differing_type day state s (below (suc n)) ≡ Some f
      later e = types_append s (below n) (n ∷ []) ∙ ap (λ (o : Option StepFault). or_else o (first_differing_type day state s (n ∷ []))) e

      here : k ≡ suc n → first_differing_type day state s (below (suc n)) ≡ Some f
      here e = ap (λ (j : ℕ). first_differing_type day state s (below j)) (sym e) ∙ found

  pub stations_later : (k n : ℕ) (f : StepFault) → k ≤ n → first_differing day state (below k) ≡ Some f → first_differing day state (below n) ≡ Some f
  stations_later k zero f le found = let none : k ≡ 0 = omega arith in ap (λ (j : ℕ). first_differing day state (below j)) (sym none) ∙ found
  stations_later k (suc n) f le found = ⊎_elim (λ lt. later (stations_later k n f (omega arith) found)) (λ ge. here (omega arith)) (cases_lt k (suc n))
    where
      later : first_differing day state (below n) ≡ Some f → first_differing day state (below (suc n)) ≡ Some f
      later e = stations_append (below n) (n ∷ []) ∙ ap (λ (o : Option StepFault). or_else o (first_differing day state (n ∷ []))) e

      here : k ≡ suc n → first_differing day state (below (suc n)) ≡ Some f
      here e = ap (λ (j : ℕ). first_differing day state (below j)) (sym e) ∙ found
