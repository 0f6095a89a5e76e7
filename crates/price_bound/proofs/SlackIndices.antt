-- The slack at each index, and the entries from one index to the next.
use Rattle.std.proofs.Common.{◌≡◌, ◌≢◌, ◌<◌, ◌≤◌, ◌+◌, ◌-◌, ◌*◌, ℕ, zero, suc, List, ◌++◌, length, Option, Some, Bool}
use Rattle.std.proofs.Common.{true, false, ◌==◌, slice_get, unwrap_or, refl, sym, ap, subst, ◌∙◌, arith, length-append}
use Rattle.std.proofs.Common.{ℤ, pos, negsuc, ◌-ℤ◌}
use Rattle.std.specs.Prelude.{option_map}
use Rattle.std.proofs.Math.Nat.{zero-mul, suc-mul}
use Rattle.std.proofs.lemmas.Bool.{eq-eqb, ne_eqb}
use Rattle.std.proofs.lemmas.Option.{slice_get_within}
use Rattle.timetable.specs.declared.day.indices.Place.{Place}
use Rattle.timetable.specs.declared.day.indices.Place.TheVariants.{Lambda, Mu, Sigma}
use Rattle.timetable.specs.Compositions.{compositions_of}
use Rattle.timetable.specs.Day.{Day}
use Rattle.timetable.specs.Handovers.{handovers_of}
use Rattle.timetable.specs.Indices.{IsPlace, lambdas_at, lambdas_of, mus_of, places_of, sigmas_of}
use Rattle.timetable.specs.Lists.{joined, listed}
use Rattle.timetable.specs.Minutes.{minutes_of}
use Rattle.timetable.proofs.Indices.{have_multipliers}
use Rattle.timetable.proofs.Listing.{get_joined, get_listed, length-listed}
use Rattle.branch_tree.specs.declared.multipliers.Entry.{Entry}
use Rattle.branch_tree.specs.Entries.{IsPastLast, entry_of}
use Rattle.price_bound.specs.Entered.{end_index, entered, handover_index, station_index, yard_index}
use Rattle.price_bound.specs.Parts.{IsPartAt, second_pick}
use Rattle.price_bound.specs.Slacks.{one_if, slack_at, slack_of}
use Rattle.price_bound.proofs.Entering.{entries_next, few_entries, none_up_to, past_last}
use Rattle.price_bound.proofs.FirstBroken.{balanced_at, lambda_index, mu_index, sigma_index, sigma_slack}
use Rattle.price_bound.proofs.Whole.{mu_there}

-- one more list that is joined
joined_next : {X : Type 0} (f : ℕ → List X) (n : ℕ) → length (joined f (n + 1)) ≡ length (joined f n) + length (f n)
joined_next f n = let e : n + 1 ≡ suc n = omega arith in ap (λ (k : ℕ). length (joined f k)) e ∙ length-append (joined f n) (f n)

module _ (day : Day) where
  -- ---- the numbers of the places

  pub yard_next : (s m : ℕ) → yard_index day s (m + 1) ≡ yard_index day s m + length (minutes_of day s)
  yard_next s m =
      let next = joined_next (lambdas_at day s) m in
      let all = length-listed (λ k. Lambda s m k) (length (minutes_of day s)) in
      omega arith

  pub stations_last : station_index day (length day.stations) ≡ length (lambdas_of day)
  unfolding lambdas_of
  stations_last = refl

  pub end_next : (s : ℕ) → end_index day (s + 1) ≡ end_index day s + length day.types
  end_next s =
      let next = joined_next (λ s. listed (λ m. Mu s m) (length day.types)) s in
      let all = length-listed (λ m. Mu s m) (length day.types) in
      omega arith

  pub ends_last : end_index day (length day.stations) ≡ length (lambdas_of day) + length (mus_of day)
  unfolding mus_of
  ends_last = refl

  pub handover_next : (h : ℕ) → handover_index day (h + 1) ≡ handover_index day h + length (compositions_of day)
  handover_next h =
      let next = joined_next (λ h. listed (λ c. Sigma h c) (length (compositions_of day))) h in
      let all = length-listed (λ c. Sigma h c) (length (compositions_of day)) in
      omega arith

  pub handovers_first : handover_index day 0 ≡ length (lambdas_of day) + length (mus_of day)
  handovers_first = omega arith

  pub handovers_last : handover_index day (length (handovers_of day)) ≡ length (places_of day)
  unfolding sigmas_of
  handovers_last = let e = length-append (lambdas_of day) (mus_of day ++ sigmas_of day) in let e' = length-append (mus_of day) (sigmas_of day) in omega arith

  lambda_there : (s m k : ℕ) → IsPlace day (Lambda s m k) → slice_get (lambdas_of day) (station_index day s + (length (joined (lambdas_at day s) m) + k)) ≡ Some (Lambda s m k)
  unfolding lambdas_of
  lambda_there s m k (station, unit_type, minute) =
      let at_station : ℕ → List Place = λ s. joined (lambdas_at day s) (length day.types) in
      let j : ℕ = length (joined (lambdas_at day s) m) + k in
      let here : slice_get (at_station s) j ≡ Some (Lambda s m k) =
      get_joined (lambdas_at day s) (length day.types) m k unit_type (omega (arith, minute, length-listed (λ k. Lambda s m k) (length (minutes_of day s))))
      ∙ get_listed (λ k. Lambda s m k) (length (minutes_of day s)) k minute in
      get_joined at_station (length day.stations) s j station (slice_get_within (at_station s) j (Lambda s m k) here) ∙ here

  mu_in : (s m : ℕ) → IsPlace day (Mu s m) → slice_get (mus_of day) (length (joined (λ s. listed (λ m. Mu s m) (length day.types)) s) + m) ≡ Some (Mu s m)
  unfolding mus_of
  mu_in s m (station, unit_type) =
      get_joined (λ s. listed (λ m. Mu s m) (length day.types)) (length day.stations) s m station (omega (arith, unit_type, length-listed (λ m. Mu s m) (length day.types)))
      ∙ get_listed (λ m. Mu s m) (length day.types) m unit_type

  sigma_in : (h c : ℕ) → IsPlace day (Sigma h c) → slice_get (sigmas_of day) (length (joined (λ h. listed (λ c. Sigma h c) (length (compositions_of day))) h) + c) ≡ Some (Sigma h c)
  unfolding sigmas_of
  sigma_in h c (known, below) =
      get_joined (λ h. listed (λ c. Sigma h c) (length (compositions_of day))) (length (handovers_of day)) h c known (omega (arith, below, length-listed (λ c. Sigma h c) (length (compositions_of day))))
      ∙ get_listed (λ c. Sigma h c) (length (compositions_of day)) c below

  lambda_at : (s m k i : ℕ) → IsPlace day (Lambda s m k) → i ≡ yard_index day s m + k → slice_get (places_of day) i ≡ Some (Lambda s m k)
  lambda_at s m k i is e =
      let here : i ≡ station_index day s + (length (joined (lambdas_at day s) m) + k) = omega arith in
      ap (slice_get (places_of day)) here ∙ lambda_index day (station_index day s + (length (joined (lambdas_at day s) m) + k)) (Lambda s m k) (lambda_there s m k is)

  mu_at : (s m i : ℕ) → IsPlace day (Mu s m) → i ≡ end_index day s + m → slice_get (places_of day) i ≡ Some (Mu s m)
  mu_at s m i is e =
      let j : ℕ = length (joined (λ s. listed (λ m. Mu s m) (length day.types)) s) + m in
      let here : i ≡ length (lambdas_of day) + j = omega arith in
      ap (slice_get (places_of day)) here ∙ mu_index day j (Mu s m) (mu_in s m is)

  sigma_at : (h c i : ℕ) → IsPlace day (Sigma h c) → i ≡ handover_index day h + c → slice_get (places_of day) i ≡ Some (Sigma h c)
  sigma_at h c i is e =
      let j : ℕ = length (joined (λ h. listed (λ c. Sigma h c) (length (compositions_of day))) h) + c in
      let here : i ≡ length (lambdas_of day) + (length (mus_of day) + j) = omega arith in
      ap (slice_get (places_of day)) here ∙ sigma_index day j (Sigma h c) (sigma_in h c is)

  -- the first number of a hand-over
  pub handover_number : (h : ℕ) → handover_index day h ≡ length (lambdas_of day) + length (mus_of day) + h * length (compositions_of day)
  handover_number h = let all = rows h in omega arith
    where
      rows : (n : ℕ) → length (joined (λ h. listed (λ c. Sigma h c) (length (compositions_of day))) n) ≡ n * length (compositions_of day)
      rows zero = sym (zero-mul (length (compositions_of day)))
      rows (suc n) =
          let next = length-append (joined (λ h. listed (λ c. Sigma h c) (length (compositions_of day))) n) (listed (λ c. Sigma n c) (length (compositions_of day))) in
          let all = length-listed (λ c. Sigma n c) (length (compositions_of day)) in
          let rest = rows n in
          let product = suc-mul n (length (compositions_of day)) in
          omega arith

  -- ---- below which numbers they are

  pub lambda_below : (s m k i : ℕ) → IsPlace day (Lambda s m k) → i ≡ yard_index day s m + k → i < length (lambdas_of day)
  lambda_below s m k i is e = ((have_multipliers day).lambdas i (Lambda s m k) (lambda_at s m k i is e)).0 tt

  pub mu_below : (s m i : ℕ) → IsPlace day (Mu s m) → i ≡ end_index day s + m → i < length (lambdas_of day) + length (mus_of day)
  mu_below s m i is e =
      let (n, here) = mu_there day s m is.0 is.1 in
      let one = (have_multipliers day).once i (length (lambdas_of day) + n) (Mu s m) (mu_at s m i is e) (mu_index day n (Mu s m) here) in
      let within = slice_get_within (mus_of day) n (Mu s m) here in
      omega arith

  pub sigma_below : (h c i : ℕ) → IsPlace day (Sigma h c) → i ≡ handover_index day h + c → i < length (places_of day)
  sigma_below h c i is e = slice_get_within (places_of day) i (Sigma h c) (sigma_at h c i is e)

  -- ---- the slacks

  module _ (picks : List ℕ) where
    slack_there : (place : Place) (i : ℕ) → slice_get (places_of day) i ≡ Some place → slack_of day picks i ≡ slack_at day picks place
    unfolding slack_of
    slack_there place i at = ap (λ (o : Option Place). unwrap_or (option_map (slack_at day picks) o) (pos 0)) at

    pub lambda_slack : (s m k i : ℕ) → IsPlace day (Lambda s m k) → i ≡ yard_index day s m + k → slack_of day picks i ≡ slack_at day picks (Lambda s m k)
    lambda_slack s m k i is e = slack_there (Lambda s m k) i (lambda_at s m k i is e)

    pub mu_slack : (s m i : ℕ) → IsPlace day (Mu s m) → i ≡ end_index day s + m → slack_of day picks i ≡ slack_at day picks (Mu s m)
    mu_slack s m i is e = slack_there (Mu s m) i (mu_at s m i is e)

    -- one more slack is entered
    pub entered_next : (old new : List Entry) (i : ℕ) (value : ℤ) → old ≡ entered day picks i → new ≡ old ++ entry_of i value → slack_of day picks i ≡ value → new ≡ entered day picks (i + 1)
    entered_next old new i value before added is =
        let e : suc i ≡ i + 1 = omega arith in
        added ∙ ap (λ (entries : List Entry). entries ++ entry_of i value) before ∙ ap (λ (v : ℤ). entered day picks i ++ entry_of i v) (sym is)
        ∙ sym (entries_next (slack_of day picks) i) ∙ ap (entered day picks) e

    pub few_entered : (entries : List Entry) (i : ℕ) → entries ≡ entered day picks i → length entries ≤ i
    few_entered entries i is = subst (λ (x : List Entry). length x ≤ i) (sym is) (few_entries (slack_of day picks) i)

    pub past_entered : (entries : List Entry) (i index : ℕ) → entries ≡ entered day picks i → i ≤ index → IsPastLast entries index
    past_entered entries i index is le = subst (λ (x : List Entry). IsPastLast x index) (sym is) (past_last (slack_of day picks) i index le)

    -- ---- at a hand-over

    module _ (h part : ℕ) (is : IsPartAt day picks h part) (known : h < length (handovers_of day)) where
      abbrev at : ℕ → ℕ
      at c = handover_index day h + c

      sigma_value : (c : ℕ) → c < length (compositions_of day) → slack_of day picks (at c) ≡ one_if (c == part) -ℤ one_if (second_pick day picks h == c)
      sigma_value c listed = slack_there (Sigma h c) (at c) (sigma_at h c (at c) (known, listed) refl) ∙ sigma_slack day picks h part c is (known, listed)

      pub at_part : second_pick day picks h ≢ part → slack_of day picks (at part) ≡ pos 1
      at_part ne =
          sigma_value part is.listed ∙ ap (λ (b : Bool). one_if b -ℤ one_if (second_pick day picks h == part)) (eq-eqb part part refl)
          ∙ ap (λ (b : Bool). one_if true -ℤ one_if b) (ne_eqb (second_pick day picks h) part ne)

      pub at_second : second_pick day picks h ≢ part → second_pick day picks h < length (compositions_of day) → slack_of day picks (at (second_pick day picks h)) ≡ negsuc 0
      at_second ne listed =
          sigma_value (second_pick day picks h) listed ∙ ap (λ (b : Bool). one_if b -ℤ one_if (second_pick day picks h == second_pick day picks h)) (ne_eqb (second_pick day picks h) part ne)
          ∙ ap (λ (b : Bool). one_if false -ℤ one_if b) (eq-eqb (second_pick day picks h) (second_pick day picks h) refl)

      elsewhere : (c : ℕ) → c < length (compositions_of day) → c ≢ part → c ≢ second_pick day picks h → slack_of day picks (at c) ≡ pos 0
      elsewhere c listed ne ne' =
          sigma_value c listed ∙ ap (λ (b : Bool). one_if b -ℤ one_if (second_pick day picks h == c)) (ne_eqb c part ne)
          ∙ ap (λ (b : Bool). one_if false -ℤ one_if b) (ne_eqb (second_pick day picks h) c (λ e. ne' (sym e)))

      between : (from to : ℕ) → to ≤ length (compositions_of day) → ((c : ℕ) → from ≤ c → c < to → (c ≢ part) × (c ≢ second_pick day picks h))
          → from ≤ to → entered day picks (at to) ≡ entered day picks (at from)
      between from to within apart le =
          none_up_to (slack_of day picks) (at from) (at to) (omega arith)
          (λ i least below.
          let c : ℕ = i - handover_index day h in
          let e : at c ≡ i = omega arith in
          let ne = apart c (omega arith) (omega arith) in
          subst (λ (k : ℕ). slack_of day picks k ≡ pos 0) e (elsewhere c (omega arith) ne.0 ne.1))

      one_step : (c : ℕ) (v : ℤ) → slack_of day picks (at c) ≡ v → entered day picks (at (suc c)) ≡ entered day picks (at c) ++ entry_of (at c) v
      one_step c v e =
          let next : at (suc c) ≡ suc (at c) = omega arith in
          ap (entered day picks) next ∙ entries_next (slack_of day picks) (at c) ∙ ap (λ (x : ℤ). entered day picks (at c) ++ entry_of (at c) x) e

      -- the second trip has the part
      pub no_entry : second_pick day picks h ≡ part → entered day picks (handover_index day (h + 1)) ≡ entered day picks (handover_index day h)
      no_entry same = ap (entered day picks) (handover_next h) ∙ all
        where
          none : (c : ℕ) → c < length (compositions_of day) → slack_of day picks (at c) ≡ pos 0
          none c listed =
              sigma_value c listed ∙ ap (λ (n : ℕ). one_if (c == part) -ℤ one_if (n == c)) same ∙ balanced_at part c

          all : entered day picks (at (length (compositions_of day))) ≡ entered day picks (handover_index day h)
          all = none_up_to (slack_of day picks) (handover_index day h) (at (length (compositions_of day))) (omega arith)
              (λ i least below.
              let c : ℕ = i - handover_index day h in
              let e : at c ≡ i = omega arith in
              subst (λ (k : ℕ). slack_of day picks k ≡ pos 0) e (none c (omega arith)))

      -- two entries, the lower one first
      module _ (low high : ℕ) (v w : ℤ) (rises : low < high) (within : high < length (compositions_of day))
          (apart : (c : ℕ) → c ≢ low → c ≢ high → (c ≢ part) × (c ≢ second_pick day picks h))
          (low_is : slack_of day picks (at low) ≡ v) (high_is : slack_of day picks (at high) ≡ w) where
        pub after_low : entered day picks (handover_index day h) ++ entry_of (at low) v ≡ entered day picks (at (suc low))
        after_low =
            let start : handover_index day h ≡ at 0 = omega arith in
            ap (λ (i : ℕ). entered day picks i ++ entry_of (at low) v) start
            ∙ ap (λ (entries : List Entry). entries ++ entry_of (at low) v) (sym (between 0 low (omega arith) (λ c least below. apart c (λ e. absurd (omega arith)) (λ e. absurd (omega arith))) (omega arith)))
            ∙ sym (one_step low v low_is)

        pub after_high : (entered day picks (handover_index day h) ++ entry_of (at low) v) ++ entry_of (at high) w ≡ entered day picks (handover_index day (h + 1))
        after_high =
            let last : at (length (compositions_of day)) ≡ handover_index day (h + 1) = sym (handover_next h) in
            ap (λ (entries : List Entry). entries ++ entry_of (at high) w) after_low
            ∙ ap (λ (entries : List Entry). entries ++ entry_of (at high) w) (sym (between (suc low) high (omega arith) (λ c least below. apart c (λ e. absurd (omega arith)) (λ e. absurd (omega arith))) (omega arith)))
            ∙ sym (one_step high w high_is)
            ∙ sym (between (suc high) (length (compositions_of day)) (omega arith) (λ c least below. apart c (λ e. absurd (omega arith)) (λ e. absurd (omega arith))) (omega arith))
            ∙ ap (entered day picks) last
