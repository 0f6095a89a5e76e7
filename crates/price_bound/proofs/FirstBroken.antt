-- Where picks are broken first: at a hand-over, else at a fault of the yards.
use Rattle.std.proofs.Common.{◌≡◌, ◌≢◌, ◌<◌, ◌≤◌, ◌+◌, ℕ, List, ◌++◌, length, get_or, Option, Some, None, Bool, true}
use Rattle.std.proofs.Common.{false, ◌==◌, slice_get, unwrap_or, position, ltb, refl, sym, ap, subst, ◌∙◌, arith, pos}
use Rattle.std.proofs.Common.{◌-ℤ◌, int_lt, inl, inr, ◌⊎◌}
use Rattle.std.specs.Prelude.{option_map}
use Rattle.std.specs.List.{position_or_len}
use Rattle.std.proofs.lemmas.Bool.{cases_eq, cond-true, eq-eqb, ne_eqb, false≢true, lt-ltb}
use Rattle.std.proofs.lemmas.List.Sums.{position_or_len_is}
use Rattle.std.proofs.lemmas.Option.{get_or_from_slice_get, slice_get-get_or, slice_get_within}
use Rattle.timetable.specs.declared.day.indices.Place.{Place}
use Rattle.timetable.specs.declared.day.indices.Place.TheVariants.{Lambda, Mu, Sigma}
use Rattle.timetable.specs.declared.day.records.Handover.{Handover}
use Rattle.timetable.specs.Day.{Day}
use Rattle.timetable.specs.Handovers.{handovers_of}
use Rattle.timetable.specs.Indices.{IsLambda, IsPlace, Precedes, lambdas_of, mus_of, sigmas_of, places_of}
use Rattle.timetable.proofs.Indices.{have_multipliers, known_place}
use Rattle.timetable.proofs.Listing.{get_first, get_second}
use Rattle.timetable.proofs.NamedTrips.{position_some}
use Rattle.price_bound.specs.FollowingPicks.{pick_of}
use Rattle.price_bound.specs.Parts.{HasPart, IsPartAt, Misses, second_pick}
use Rattle.price_bound.specs.Slacks.{handover_slack, is_positive, one_if, slack_at}
use Rattle.price_bound.proofs.Steps.{entry_below}
use Rattle.price_bound.proofs.Whole.{mu_there}

-- ---- the first that passes

pub first_at : {X : Type 0} (p : X → Bool) (xs : List X) (i : ℕ) (x : X) → slice_get xs i ≡ Some x → p x ≡ true
    → ((k : ℕ) (y : X) → k < i → slice_get xs k ≡ Some y → p y ≡ false) → position p xs ≡ Some i
first_at p xs i x at is before =
    let lt = slice_get_within xs i x at in
    let first = position_or_len_is p xs i x (omega arith)
    (λ k below. before k (get_or xs k x) below (slice_get-get_or xs k x (omega arith)))
    (λ within. ap p (get_or_from_slice_get xs i x x at) ∙ is) in
    cond-true (ltb (position_or_len p xs) (length xs)) (Some (position_or_len p xs)) None (lt-ltb _ _ (omega arith))
    ∙ ap Some first

pub none_at : {X : Type 0} (p : X → Bool) (xs : List X) → ((k : ℕ) (y : X) → slice_get xs k ≡ Some y → p y ≡ false) → position p xs ≡ None
none_at {X} p xs none = by (position p xs) refl
  where
    by : (o : Option ℕ) → position p xs ≡ o → position p xs ≡ None
    by None e = e
    by (Some i) e = let (x, at, passes) = position_some p xs i e in absurd (false≢true (sym (none i x at) ∙ passes))

-- ---- the places of one kind, and those before one of them

module _ (day : Day) where
  pub lambda_index : (k : ℕ) (y : Place) → slice_get (lambdas_of day) k ≡ Some y → slice_get (places_of day) k ≡ Some y
  lambda_index k y at = get_first (lambdas_of day) (mus_of day ++ sigmas_of day) k (slice_get_within (lambdas_of day) k y at) ∙ at

  pub mu_index : (k : ℕ) (y : Place) → slice_get (mus_of day) k ≡ Some y → slice_get (places_of day) (length (lambdas_of day) + k) ≡ Some y
  mu_index k y at =
      get_second (lambdas_of day) (mus_of day ++ sigmas_of day) k ∙ get_first (mus_of day) (sigmas_of day) k (slice_get_within (mus_of day) k y at) ∙ at

  pub sigma_index : (k : ℕ) (y : Place) → slice_get (sigmas_of day) k ≡ Some y → slice_get (places_of day) (length (lambdas_of day) + (length (mus_of day) + k)) ≡ Some y
  sigma_index k y at = get_second (lambdas_of day) (mus_of day ++ sigmas_of day) (length (mus_of day) + k) ∙ get_second (mus_of day) (sigmas_of day) k ∙ at

  in_turn : (i j : ℕ) (x y : Place) → i < j → slice_get (places_of day) i ≡ Some x → slice_get (places_of day) j ≡ Some y → Precedes x y
  in_turn i j x y less at_i at_j =
      let order : Precedes (get_or (places_of day) i x) (get_or (places_of day) j x) = (have_multipliers day).in_order i j x less (slice_get_within (places_of day) j y at_j) in
      subst (λ (p : Place). Precedes p y) (get_or_from_slice_get (places_of day) i x x at_i)
      (subst (λ (p : Place). Precedes (get_or (places_of day) i x) p) (get_or_from_slice_get (places_of day) j y x at_j) order)

  no_lambda : (i s m k : ℕ) → slice_get (places_of day) i ≡ Some (Lambda s m k) → length (lambdas_of day) ≤ i → ⊥
  no_lambda i s m k at past = let early = ((have_multipliers day).lambdas i (Lambda s m k) at).0 tt in absurd (omega arith)

  no_mu : (k s m : ℕ) → slice_get (places_of day) (length (lambdas_of day) + (length (mus_of day) + k)) ≡ Some (Mu s m) → ⊥
  no_mu k s m at =
      let known : IsPlace day (Mu s m) = known_place day (length (lambdas_of day) + (length (mus_of day) + k)) (Mu s m) at in
      let (n, here) = mu_there day s m known.0 known.1 in
      let one = (have_multipliers day).once (length (lambdas_of day) + n) (length (lambdas_of day) + (length (mus_of day) + k)) (Mu s m) (mu_index n (Mu s m) here) at in
      let within = slice_get_within (mus_of day) n (Mu s m) here in
      absurd (omega arith)

  pub each_sigma : (P : Place → Type 0) → ((h c : ℕ) → IsPlace day (Sigma h c) → P (Sigma h c)) → (k : ℕ) (y : Place) → slice_get (sigmas_of day) k ≡ Some y → P y
  each_sigma P each k (Lambda s m j) at = absurd (no_lambda (length (lambdas_of day) + (length (mus_of day) + k)) s m j (sigma_index k (Lambda s m j) at) (omega arith))
  each_sigma P each k (Mu s m) at = absurd (no_mu k s m (sigma_index k (Mu s m) at))
  each_sigma P each k (Sigma h c) at = each h c (known_place day (length (lambdas_of day) + (length (mus_of day) + k)) (Sigma h c) (sigma_index k (Sigma h c) at))

  pub sigmas_before : (P : Place → Type 0) (n h comp : ℕ) → slice_get (sigmas_of day) n ≡ Some (Sigma h comp)
      → ((h' c : ℕ) → IsPlace day (Sigma h' c) → (h' < h) ⊎ ((h' ≡ h) × (c < comp)) → P (Sigma h' c))
      → (k : ℕ) (y : Place) → k < n → slice_get (sigmas_of day) k ≡ Some y → P y
  sigmas_before P n h comp here each k y less at =
      each_sigma (λ (x : Place). Precedes x (Sigma h comp) → P x) (λ h' c known before. each h' c known before) k y at
      (in_turn (length (lambdas_of day) + (length (mus_of day) + k)) (length (lambdas_of day) + (length (mus_of day) + n)) y (Sigma h comp) (omega arith) (sigma_index k y at) (sigma_index n (Sigma h comp) here))

  pub each_lambda : (P : Place → Type 0) → ((s m j : ℕ) → IsPlace day (Lambda s m j) → P (Lambda s m j)) → (k : ℕ) (y : Place) → slice_get (lambdas_of day) k ≡ Some y → P y
  each_lambda P each k y at = by y at (((have_multipliers day).lambdas k y (lambda_index k y at)).1 (slice_get_within (lambdas_of day) k y at))
    where
      by : (y : Place) → slice_get (lambdas_of day) k ≡ Some y → IsLambda y → P y
      by (Lambda s m j) at lambda = each s m j (known_place day k (Lambda s m j) (lambda_index k (Lambda s m j) at))
      by (Mu s m) at lambda = absurd lambda
      by (Sigma h c) at lambda = absurd lambda

  pub lambdas_before : (P : Place → Type 0) (n s m j : ℕ) → slice_get (lambdas_of day) n ≡ Some (Lambda s m j)
      → ((s' m' j' : ℕ) → IsPlace day (Lambda s' m' j') → Precedes (Lambda s' m' j') (Lambda s m j) → P (Lambda s' m' j'))
      → (k : ℕ) (y : Place) → k < n → slice_get (lambdas_of day) k ≡ Some y → P y
  lambdas_before P n s m j here each k y less at =
      each_lambda (λ (x : Place). Precedes x (Lambda s m j) → P x) (λ s' m' j' known before. each s' m' j' known before) k y at
      (in_turn k n y (Lambda s m j) less (lambda_index k y at) (lambda_index n (Lambda s m j) here))

  pub mus_before : (P : Place → Type 0) (n s m : ℕ) → slice_get (mus_of day) n ≡ Some (Mu s m)
      → ((s' m' : ℕ) → IsPlace day (Mu s' m') → Precedes (Mu s' m') (Mu s m) → P (Mu s' m'))
      → (k : ℕ) (y : Place) → k < n → slice_get (mus_of day) k ≡ Some y → P y
  mus_before P n s m here each k y less at =
      by y at (in_turn (length (lambdas_of day) + k) (length (lambdas_of day) + n) y (Mu s m) (omega arith) (mu_index k y at) (mu_index n (Mu s m) here))
    where
      by : (y : Place) → slice_get (mus_of day) k ≡ Some y → Precedes y (Mu s m) → P y
      by (Lambda s' m' j) at before = absurd (no_lambda (length (lambdas_of day) + k) s' m' j (mu_index k (Lambda s' m' j) at) (omega arith))
      by (Mu s' m') at before = each s' m' (known_place day (length (lambdas_of day) + k) (Mu s' m') (mu_index k (Mu s' m') at)) before
      by (Sigma h c) at before = absurd before

-- ---- the slacks of a hand-over

pub balanced_at : (part c : ℕ) → one_if (c == part) -ℤ one_if (part == c) ≡ pos 0
balanced_at part c = elim (cases_eq c part) [
  | inl e ↦
      ap (λ (b : Bool). one_if b -ℤ one_if (part == c)) (eq-eqb c part e) ∙ ap (λ (b : Bool). one_if true -ℤ one_if b) (eq-eqb part c (sym e))
  | inr ne ↦
      ap (λ (b : Bool). one_if b -ℤ one_if (part == c)) (ne_eqb c part ne) ∙ ap (λ (b : Bool). one_if false -ℤ one_if b) (ne_eqb part c (λ e. ne (sym e)))
]

missed_here : (part pick : ℕ) → pick ≢ part → one_if (part == part) -ℤ one_if (pick == part) ≡ pos 1
missed_here part pick ne =
    ap (λ (b : Bool). one_if b -ℤ one_if (pick == part)) (eq-eqb part part refl) ∙ ap (λ (b : Bool). one_if true -ℤ one_if b) (ne_eqb pick part ne)

none_elsewhere : (part pick c : ℕ) → c ≢ part → int_lt (pos 0) (one_if (c == part) -ℤ one_if (pick == c)) ≡ false
none_elsewhere part pick c ne = ap (λ (b : Bool). int_lt (pos 0) (one_if b -ℤ one_if (pick == c))) (ne_eqb c part ne) ∙ by (pick == c)
  where
    by : (b : Bool) → int_lt (pos 0) (one_if false -ℤ one_if b) ≡ false
    by true = refl
    by false = refl

module _ (day : Day) (picks : List ℕ) where
  -- the slack of a hand-over and a composition, by the part
  pub sigma_slack : (h part c : ℕ) → IsPartAt day picks h part → IsPlace day (Sigma h c) → slack_at day picks (Sigma h c) ≡ one_if (c == part) -ℤ one_if (second_pick day picks h == c)
  sigma_slack h part c is known =
      let (handover, at) = entry_below (handovers_of day) h known.0 in
      let second : second_pick day picks h ≡ pick_of picks handover.second =
      ap (λ (o : Option Handover). unwrap_or (option_map (λ (x : Handover). pick_of picks x.second) o) 0) at in
      ap (λ (o : Option Handover). unwrap_or (option_map (handover_slack day picks c) o) (pos 0)) at
      ∙ ap (λ (b : Bool). one_if b -ℤ one_if (pick_of picks handover.second == c)) (is.alone handover c at known.1)
      ∙ ap (λ (pick : ℕ). one_if (c == part) -ℤ one_if (pick == c)) (sym second)

  pub had : (h c : ℕ) → HasPart day picks h → IsPlace day (Sigma h c) → slack_at day picks (Sigma h c) ≡ pos 0
  had h c has known = sigma_slack h (second_pick day picks h) c has known ∙ balanced_at (second_pick day picks h) c

  pub had_none : (h c : ℕ) → HasPart day picks h → IsPlace day (Sigma h c) → is_positive day picks (Sigma h c) ≡ false
  had_none h c has known = ap (int_lt (pos 0)) (had h c has known)

  pub missed : (h comp : ℕ) → Misses day picks h comp → h < length (handovers_of day) → slack_at day picks (Sigma h comp) ≡ pos 1
  missed h comp misses known = sigma_slack h comp comp misses.part (known, misses.part.listed) ∙ missed_here comp (second_pick day picks h) misses.other

  pub missed_none : (h comp c : ℕ) → Misses day picks h comp → IsPlace day (Sigma h c) → c ≢ comp → is_positive day picks (Sigma h c) ≡ false
  missed_none h comp c misses known ne = ap (int_lt (pos 0)) (sigma_slack h comp c misses.part known) ∙ none_elsewhere comp (second_pick day picks h) c ne
