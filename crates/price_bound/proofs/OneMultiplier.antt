-- What one multiplier adds to a priced value, term by term: a constant, what each trip adds, and what each link adds.
use Rattle.std.proofs.Common.{◌≡◌, ℕ, zero, suc, ◌+◌, ◌<◌, List, [], ◌∷◌, length, get_or, Bool, true, false, Option}
use Rattle.std.proofs.Common.{Some, None, refl, sym, ap, ◌∙◌, subst, arith, ℤ, pos, neg_ℤ, ◌+ℤ◌, ◌-ℤ◌, ◌*ℤ◌, inl, inr}
use Rattle.std.proofs.Common.{unwrap_or, slice_get}
use Rattle.std.specs.Prelude.{◌==◌, ◌&&◌, if◌then◌else◌, nat_le, option_map}
use Rattle.std.proofs.lemmas.Bool.{cases_eq, eq-eqb, ne_eqb}
use Rattle.std.proofs.lemmas.Int.{ints}
use Rattle.timetable.specs.declared.day.indices.Place.{Place}
use Rattle.timetable.specs.declared.day.indices.Place.TheVariants.{Lambda, Mu, Sigma}
use Rattle.timetable.specs.declared.day.records.Handover.{Handover}
use Rattle.rules.specs.declared.records.Link.{Link}
use Rattle.timetable.specs.Accepted.{AreLinks}
use Rattle.timetable.specs.Compositions.{composition_at}
use Rattle.timetable.specs.Day.{Day, leaves, from_of, to_of, wanted_of, ready_at}
use Rattle.timetable.specs.Handovers.{IsHandover, handovers_of}
use Rattle.timetable.specs.Links.{itself, given_with, taken_with}
use Rattle.timetable.specs.Lists.{count_of, sum_below}
use Rattle.timetable.specs.Minutes.{minutes_of}
use Rattle.timetable.specs.Picks.{picked}
use Rattle.timetable.specs.Starts.{start_of}
use Rattle.timetable.specs.Turns.{same}
use Rattle.timetable.proofs.Handovers.{are_handovers}
use Rattle.timetable.proofs.LinkNames.{names_below}
use Rattle.timetable.proofs.Within.{second_below}
use Rattle.std.proofs.lemmas.Option.{slice_get_within, get_or_from_slice_get}
use Rattle.inventory.specs.Counts.{takes_of, gives_of, taken_until, ready_until, all_taken, all_given}
use Rattle.branch_tree.specs.IntSums.{int_sum}
use Rattle.price_bound.specs.FollowingPicks.{part_of, pick_of}
use Rattle.price_bound.specs.Regrouped.{constant_by, of_handover}
use Rattle.price_bound.specs.Slacks.{handover_slack, is_part, one_if, slack_at}
use Rattle.price_bound.specs.YardPrices.{of_type, price_by}
use Rattle.price_bound.proofs.IntLaws.{below_add, below_neg, below_none, below_same, below_times, int_below, only_at, only_here}
use Rattle.price_bound.proofs.IntLaws.{only_other, only_within, sum_none, times_add, times_neg, times_none, times_one}

-- ---- counted units

pos_next : (a b : ℕ) (v x y : ℤ) → x ≡ v *ℤ pos b → y ≡ v *ℤ pos a → y +ℤ x ≡ v *ℤ pos (a + b)
pos_next a b v x y e f = both x y (v *ℤ pos b) (v *ℤ pos a) (v *ℤ pos (a + b)) e f (times_add v (pos a) (pos b))
  where
    both : (x y p q r : ℤ) → x ≡ p → y ≡ q → r ≡ q +ℤ p → y +ℤ x ≡ r
    both x y p q r e f g = omega (arith, ints, e, f, g)

if_one : (b : Bool) (v : ℤ) → (if b then v else pos 0) ≡ v *ℤ pos (if b then 1 else 0)
if_one true v = sym (times_one v)
if_one false v = sym (times_none v)

-- a value for each unit of a type is the value times their number
units_counted : (m : ℕ) (v : ℤ) (types : List ℕ) → int_sum (λ u. of_type u m v) types ≡ v *ℤ pos (count_of m types)
units_counted m v [] = sym (times_none v)
units_counted m v (u ∷ types) =
    pos_next (if u == m then 1 else 0) (count_of m types) v (int_sum (λ k. of_type k m v) types) (of_type u m v) (units_counted m v types) (if_one (u == m) v)

tested_counted : (b : Bool) (m : ℕ) (v : ℤ) (types : List ℕ) → int_sum (λ u. if b then of_type u m v else pos 0) types ≡ v *ℤ pos (if b then count_of m types else 0)
tested_counted true m v types = units_counted m v types
tested_counted false m v types = sum_none (λ u. pos 0) types (λ u. refl) ∙ sym (times_none v)

-- a value times a sum of numbers
below_pos : (f : ℕ → ℕ) (n : ℕ) → pos (sum_below f n) ≡ int_below (λ k. pos (f k)) n
below_pos f zero = refl
below_pos f (suc n) = ap (λ (v : ℤ). v +ℤ pos (f n)) (below_pos f n)

times_below : (v : ℤ) (f : ℕ → ℕ) (g : ℕ → ℤ) (n : ℕ) → ((k : ℕ) → g k ≡ v *ℤ pos (f k)) → v *ℤ pos (sum_below f n) ≡ int_below g n
times_below v f g n each =
    ap (λ (x : ℤ). v *ℤ x) (below_pos f n) ∙ below_times v (λ k. pos (f k)) n ∙ sym (below_same g (λ k. v *ℤ pos (f k)) n (λ k lt. each k))

module _ (day : Day) (picks : List ℕ) where
  abbrev lists : List (List ℕ)
  lists = picked day picks

  abbrev trips : ℕ
  trips = length day.trips

  -- ---- what a multiplier adds at a trip and at a link

  abbrev takes : Place → ℤ → ℕ → ℤ
  takes place v t = int_sum (λ m. price_by day (from_of day t) (leaves day t) m place v) (taken_with itself day lists t)

  abbrev gives : Place → ℤ → ℕ → ℤ
  gives place v t = int_sum (λ m. price_by day (to_of day t) (ready_at day t) m place v) (given_with itself day lists t)

  abbrev pub is_second : ℕ → Handover → ℕ → Bool
  is_second t handover c = (handover.second == t) && (pick_of picks t == c)

  abbrev seconds : Place → ℤ → ℕ → ℤ
  seconds place v t = of_handover day (is_second t) place v

  abbrev pub has_part : ℕ → Link → Handover → ℕ → Bool
  has_part l link handover c = (handover.link == l) && same (part_of link lists) (composition_at day c)

  abbrev parts : Place → ℤ → ℕ → ℤ
  parts place v l = unwrap_or (option_map (λ link. of_handover day (has_part l link) place v) (slice_get day.links l)) (pos 0)

  -- ---- departure minutes, and ends of the day

  no_parts : (place : Place) (v : ℤ) → ((l : ℕ) → parts place v l ≡ pos 0) → int_below (parts place v) (length day.links) ≡ pos 0
  no_parts place v none = below_none (parts place v) (length day.links) (λ l lt. none l)

  unwrap_none : {X : Type 0} (o : Option X) → unwrap_or (option_map (λ (x : X). pos 0) o) (pos 0) ≡ pos 0
  unwrap_none None = refl
  unwrap_none (Some x) = refl

  taken_there : (s m k : ℕ) (v : ℤ) → v *ℤ pos (taken_until day lists s m (get_or (minutes_of day s) k 0)) ≡ int_below (takes (Lambda s m k) v) trips
  unfolding taken_until
  taken_there s m k v = times_below v (λ t. if (from_of day t == s) && nat_le (leaves day t) (get_or (minutes_of day s) k 0) then takes_of day lists m t else 0)
      (takes (Lambda s m k) v) trips
      (λ t. tested_counted ((from_of day t == s) && nat_le (leaves day t) (get_or (minutes_of day s) k 0)) m v (taken_with itself day lists t))

  given_there : (s m k : ℕ) (v : ℤ) → v *ℤ pos (ready_until day lists s m (get_or (minutes_of day s) k 0)) ≡ int_below (gives (Lambda s m k) v) trips
  unfolding ready_until
  given_there s m k v = times_below v (λ t. if (to_of day t == s) && nat_le (ready_at day t) (get_or (minutes_of day s) k 0) then gives_of day lists m t else 0)
      (gives (Lambda s m k) v) trips
      (λ t. tested_counted ((to_of day t == s) && nat_le (ready_at day t) (get_or (minutes_of day s) k 0)) m v (given_with itself day lists t))

  all_taken_there : (s m : ℕ) (v : ℤ) → v *ℤ pos (all_taken day lists s m) ≡ int_below (takes (Mu s m) v) trips
  unfolding all_taken
  all_taken_there s m v = times_below v (λ t. if from_of day t == s then takes_of day lists m t else 0) (takes (Mu s m) v) trips
      (λ t. tested_counted (from_of day t == s) m v (taken_with itself day lists t))

  all_given_there : (s m : ℕ) (v : ℤ) → v *ℤ pos (all_given day lists s m) ≡ int_below (gives (Mu s m) v) trips
  unfolding all_given
  all_given_there s m v = times_below v (λ t. if to_of day t == s then gives_of day lists m t else 0) (gives (Mu s m) v) trips
      (λ t. tested_counted (to_of day t == s) m v (given_with itself day lists t))

  -- the terms of all trips
  abbrev at_trip : Place → ℤ → ℕ → ℤ
  at_trip place v t = takes place v t +ℤ neg_ℤ (gives place v t) +ℤ neg_ℤ (seconds place v t)

  at_trips : (place : Place) (v : ℤ) → int_below (at_trip place v) trips
      ≡ int_below (takes place v) trips +ℤ neg_ℤ (int_below (gives place v) trips) +ℤ neg_ℤ (int_below (seconds place v) trips)
  at_trips place v =
      below_add (λ t. takes place v t +ℤ neg_ℤ (gives place v t)) (λ t. neg_ℤ (seconds place v t)) trips
      ∙ three (int_below (λ t. takes place v t +ℤ neg_ℤ (gives place v t)) trips) (int_below (takes place v) trips) (int_below (λ t. neg_ℤ (gives place v t)) trips)
      (int_below (gives place v) trips) (int_below (λ t. neg_ℤ (seconds place v t)) trips) (int_below (seconds place v) trips)
      (below_add (takes place v) (λ t. neg_ℤ (gives place v t)) trips) (below_neg (gives place v) trips) (below_neg (seconds place v) trips)
    where
      three : (r a b b' c c' : ℤ) → r ≡ a +ℤ b → b ≡ neg_ℤ b' → c ≡ neg_ℤ c' → r +ℤ c ≡ a +ℤ neg_ℤ b' +ℤ neg_ℤ c'
      three r a b b' c c' e f g = omega (arith, ints, e, f, g)

  -- what the multiplier of a place adds
  record IsTaken (place : Place) (v : ℤ) : Type 0 where
    pub total : v *ℤ slack_at day picks place ≡ constant_by day place v +ℤ int_below (at_trip place v) trips +ℤ int_below (parts place v) (length day.links)

  yard_total : (place : Place) (v slack start taken given : ℤ) → slack ≡ start +ℤ (taken +ℤ neg_ℤ given) → v *ℤ start ≡ constant_by day place v
      → v *ℤ taken ≡ int_below (takes place v) trips → v *ℤ given ≡ int_below (gives place v) trips → int_below (seconds place v) trips ≡ pos 0
      → int_below (parts place v) (length day.links) ≡ pos 0
      → v *ℤ slack ≡ constant_by day place v +ℤ int_below (at_trip place v) trips +ℤ int_below (parts place v) (length day.links)
  yard_total place v slack start taken given is constant taking giving second part =
      ap (λ (x : ℤ). v *ℤ x) is ∙ times_add v start (taken +ℤ neg_ℤ given)
      ∙ all (v *ℤ start) (v *ℤ (taken +ℤ neg_ℤ given)) (v *ℤ taken) (v *ℤ neg_ℤ given) (v *ℤ given) (constant_by day place v) (int_below (takes place v) trips)
      (int_below (gives place v) trips) (int_below (seconds place v) trips) (int_below (at_trip place v) trips) (int_below (parts place v) (length day.links))
      constant (times_add v taken (neg_ℤ given)) (times_neg v given) taking giving second part (at_trips place v)
    where
      all : (a b x ny y c p q r s z : ℤ) → a ≡ c → b ≡ x +ℤ ny → ny ≡ neg_ℤ y → x ≡ p → y ≡ q → r ≡ pos 0 → z ≡ pos 0 → s ≡ p +ℤ neg_ℤ q +ℤ neg_ℤ r → a +ℤ b ≡ c +ℤ s +ℤ z
      all a b x ny y c p q r s z e f g h i j k l = omega (arith, ints, e, f, g, h, i, j, k, l)

  lambda_slack : (s r t : ℕ) → neg_ℤ (pos (s + r) -ℤ pos t) ≡ neg_ℤ (pos s) +ℤ (pos t +ℤ neg_ℤ (pos r))
  lambda_slack s r t = omega (arith, ints)

  mu_slack : (w s r t : ℕ) → pos w -ℤ (pos (s + r) -ℤ pos t) ≡ (pos w -ℤ pos s) +ℤ (pos t +ℤ neg_ℤ (pos r))
  mu_slack w s r t = omega (arith, ints)

  yard_none : (place : Place) (v : ℤ) → ((t : ℕ) → seconds place v t ≡ pos 0) → int_below (seconds place v) trips ≡ pos 0
  yard_none place v none = below_none (seconds place v) trips (λ t lt. none t)

  lambda_taken : (s m k : ℕ) (v : ℤ) → IsTaken (Lambda s m k) v
  lambda_taken s m k v = record {
    total =
        let minute : ℕ = get_or (minutes_of day s) k 0 in
        yard_total (Lambda s m k) v (slack_at day picks (Lambda s m k)) (neg_ℤ (pos (start_of day s m))) (pos (taken_until day lists s m minute)) (pos (ready_until day lists s m minute))
        (lambda_slack (start_of day s m) (ready_until day lists s m minute) (taken_until day lists s m minute)) refl
        (taken_there s m k v) (given_there s m k v) (yard_none (Lambda s m k) v (λ t. refl)) (no_parts (Lambda s m k) v (λ l. unwrap_none (slice_get day.links l)));
  }

  mu_taken : (s m : ℕ) (v : ℤ) → IsTaken (Mu s m) v
  mu_taken s m v = record {
    total =
        yard_total (Mu s m) v (slack_at day picks (Mu s m)) (pos (wanted_of day s m) -ℤ pos (start_of day s m)) (pos (all_taken day lists s m)) (pos (all_given day lists s m))
        (mu_slack (wanted_of day s m) (start_of day s m) (all_given day lists s m) (all_taken day lists s m)) refl
        (all_taken_there s m v) (all_given_there s m v) (yard_none (Mu s m) v (λ t. refl)) (no_parts (Mu s m) v (λ l. unwrap_none (slice_get day.links l)));
  }

  -- ---- hand-overs

  no_units : (h c : ℕ) (v : ℤ) (types : List ℕ) → int_sum (λ m. pos 0) types ≡ pos 0
  no_units h c v types = sum_none (λ (m : ℕ). pos 0) types (λ m. refl)

  one_times : (b : Bool) (v : ℤ) → v *ℤ one_if b ≡ (if b then v else pos 0)
  one_times true v = times_one v
  one_times false v = times_none v

  -- a test that is made at one number alone
  if_only : (x k : ℕ) (b : ℕ → Bool) (v : ℤ) → (if (x == k) && b k then v else pos 0) ≡ only_at x (if b x then v else pos 0) k
  if_only x k b v = elim (cases_eq x k) [
    | inl same ↦ subst (λ (j : ℕ). (if (x == j) && b j then v else pos 0) ≡ only_at x (if b x then v else pos 0) j) same
        (ap (λ (c : Bool). if c && b x then v else pos 0) (eq-eqb x x refl) ∙ sym (only_here x (if b x then v else pos 0)))
    | inr differ ↦ ap (λ (c : Bool). if c && b k then v else pos 0) (ne_eqb x k differ) ∙ sym (only_other x k (if b x then v else pos 0) differ)
  ]

  module _ (links : AreLinks day) where
    second_total : (handover : Handover) (c : ℕ) (v : ℤ) → handover.second < trips
        → int_below (λ t. if is_second t handover c then v else pos 0) trips ≡ (if pick_of picks handover.second == c then v else pos 0)
    second_total handover c v below =
        below_same (λ t. if is_second t handover c then v else pos 0) (only_at handover.second (if pick_of picks handover.second == c then v else pos 0)) trips
        (λ t lt. if_only handover.second t (λ k. pick_of picks k == c) v)
        ∙ only_within handover.second (if pick_of picks handover.second == c then v else pos 0) trips below

    part_at : (handover : Handover) (c : ℕ) (v : ℤ) (l : ℕ) (o : Option Link) → slice_get day.links l ≡ o
        → unwrap_or (option_map (λ link. if has_part l link handover c then v else pos 0) o) (pos 0) ≡ only_at handover.link (if is_part day picks handover c then v else pos 0) l
    part_at handover c v l None at = elim (cases_eq handover.link l) [
      | inl e ↦
          ap (λ (o : Option Link). if unwrap_or (option_map (λ (x : Link). same (part_of x lists) (composition_at day c)) o) false then v else pos 0) (sym (ap (slice_get day.links) e ∙ at))
          ∙ sym (only_here handover.link (if is_part day picks handover c then v else pos 0))
          ∙ ap (only_at handover.link (if is_part day picks handover c then v else pos 0)) e
      | inr differ ↦ sym (only_other handover.link l (if is_part day picks handover c then v else pos 0) differ)
    ]
    part_at handover c v l (Some link) at = elim (cases_eq handover.link l) [
      | inl e ↦
          ap (λ (b : Bool). if b && same (part_of link lists) (composition_at day c) then v else pos 0) (eq-eqb handover.link l e)
          ∙ ap (λ (o : Option Link). if unwrap_or (option_map (λ (x : Link). same (part_of x lists) (composition_at day c)) o) false then v else pos 0) (sym (ap (slice_get day.links) e ∙ at))
          ∙ sym (only_here handover.link (if is_part day picks handover c then v else pos 0))
          ∙ ap (only_at handover.link (if is_part day picks handover c then v else pos 0)) e
      | inr differ ↦
          ap (λ (b : Bool). if b && same (part_of link lists) (composition_at day c) then v else pos 0) (ne_eqb handover.link l differ)
          ∙ sym (only_other handover.link l (if is_part day picks handover c then v else pos 0) differ)
    ]

    part_total : (handover : Handover) (c : ℕ) (v : ℤ) → handover.link < length day.links
        → int_below (λ l. unwrap_or (option_map (λ link. if has_part l link handover c then v else pos 0) (slice_get day.links l)) (pos 0)) (length day.links)
        ≡ (if is_part day picks handover c then v else pos 0)
    part_total handover c v below =
        below_same (λ l. unwrap_or (option_map (λ link. if has_part l link handover c then v else pos 0) (slice_get day.links l)) (pos 0))
        (only_at handover.link (if is_part day picks handover c then v else pos 0)) (length day.links)
        (λ l lt. part_at handover c v l (slice_get day.links l) refl)
        ∙ only_within handover.link (if is_part day picks handover c then v else pos 0) (length day.links) below

    sigma_sum : (h c : ℕ) (v : ℤ) (o : Option Handover) → slice_get (handovers_of day) h ≡ o
        → v *ℤ unwrap_or (option_map (handover_slack day picks c) o) (pos 0)
        ≡ int_below (λ l. unwrap_or (option_map (λ link. if unwrap_or (option_map (λ handover. has_part l link handover c) o) false then v else pos 0) (slice_get day.links l)) (pos 0)) (length day.links)
        +ℤ neg_ℤ (int_below (λ t. if unwrap_or (option_map (λ handover. is_second t handover c) o) false then v else pos 0) trips)
    sigma_sum h c v None at =
        times_none v ∙ sym (zeros (int_below (λ l. unwrap_or (option_map (λ (link : Link). pos 0) (slice_get day.links l)) (pos 0)) (length day.links)) (int_below (λ t. pos 0) trips)
        (below_none (λ l. unwrap_or (option_map (λ (link : Link). pos 0) (slice_get day.links l)) (pos 0)) (length day.links) (λ l lt. unwrap_none (slice_get day.links l)))
        (below_none (λ t. pos 0) trips (λ t lt. refl)))
      where
        zeros : (a b : ℤ) → a ≡ pos 0 → b ≡ pos 0 → a +ℤ neg_ℤ b ≡ pos 0
        zeros a b e f = omega (arith, ints, e, f)
    sigma_sum h c v (Some handover) at =
        let of_link : IsHandover day.links handover = subst (IsHandover day.links) (get_or_from_slice_get (handovers_of day) h handover handover at)
        ((are_handovers day).each h handover (slice_get_within (handovers_of day) h handover at)) in
        times_add v (one_if (is_part day picks handover c)) (neg_ℤ (one_if (pick_of picks handover.second == c)))
        ∙ both (v *ℤ one_if (is_part day picks handover c)) (v *ℤ neg_ℤ (one_if (pick_of picks handover.second == c))) (v *ℤ one_if (pick_of picks handover.second == c))
        (if is_part day picks handover c then v else pos 0) (if pick_of picks handover.second == c then v else pos 0)
        (int_below (λ l. unwrap_or (option_map (λ link. if has_part l link handover c then v else pos 0) (slice_get day.links l)) (pos 0)) (length day.links))
        (int_below (λ t. if is_second t handover c then v else pos 0) trips)
        (one_times (is_part day picks handover c) v) (times_neg v (one_if (pick_of picks handover.second == c))) (one_times (pick_of picks handover.second == c) v)
        (part_total handover c v (slice_get_within day.links handover.link of_link.link of_link.at))
        (second_total handover c v (second_below trips of_link.link.kind handover.second (names_below day links handover.link of_link.link of_link.at) of_link.second))
      where
        both : (a b x p q r s : ℤ) → a ≡ p → b ≡ neg_ℤ x → x ≡ q → r ≡ p → s ≡ q → a +ℤ b ≡ r +ℤ neg_ℤ s
        both a b x p q r s e f g i j = omega (arith, ints, e, f, g, i, j)

    sigma_taken : (h c : ℕ) (v : ℤ) → IsTaken (Sigma h c) v
    sigma_taken h c v = record {
      total =
          sigma_sum h c v (slice_get (handovers_of day) h) refl
          ∙ put (int_below (takes (Sigma h c) v) trips) (int_below (gives (Sigma h c) v) trips) (int_below (seconds (Sigma h c) v) trips) (int_below (at_trip (Sigma h c) v) trips) (int_below (parts (Sigma h c) v) (length day.links))
          (below_none (takes (Sigma h c) v) trips (λ t lt. no_units h c v (taken_with itself day lists t)))
          (below_none (gives (Sigma h c) v) trips (λ t lt. no_units h c v (given_with itself day lists t)))
          (at_trips (Sigma h c) v);
    }
      where
        put : (x y s a p : ℤ) → x ≡ pos 0 → y ≡ pos 0 → a ≡ x +ℤ neg_ℤ y +ℤ neg_ℤ s → p +ℤ neg_ℤ s ≡ pos 0 +ℤ a +ℤ p
        put x y s a p e f g = omega (arith, ints, e, f, g)

    pub place_taken : (place : Place) (v : ℤ) → v *ℤ slack_at day picks place
        ≡ constant_by day place v +ℤ int_below (at_trip place v) trips +ℤ int_below (parts place v) (length day.links)
    place_taken (Lambda s m k) v = (lambda_taken s m k v).total
    place_taken (Mu s m) v = (mu_taken s m v).total
    place_taken (Sigma h c) v = (sigma_taken h c v).total
