-- The sum of multiplier times slack, over all multipliers: a constant, the prices of what trips take and give, and the
-- multipliers of parts and of second trips.
use Rattle.std.proofs.Common.{◌≡◌, ℕ, List, length, Option, Some, None, refl, ap, ◌∙◌, arith, ℤ, pos, neg_ℤ, ◌+ℤ◌, ◌*ℤ◌}
use Rattle.std.proofs.Common.{unwrap_or, slice_get}
use Rattle.std.specs.Prelude.{option_map}
use Rattle.std.proofs.lemmas.Int.{ints}
use Rattle.timetable.specs.declared.day.indices.Place.{Place}
use Rattle.rules.specs.declared.records.Link.{Link}
use Rattle.timetable.specs.Accepted.{AreLinks}
use Rattle.timetable.specs.Day.{Day, leaves, from_of, to_of, ready_at}
use Rattle.timetable.specs.Indices.{places_of}
use Rattle.timetable.specs.Links.{given_with, itself, taken_with}
use Rattle.timetable.specs.Picks.{picked}
use Rattle.branch_tree.specs.declared.multipliers.Entry.{Entry}
use Rattle.branch_tree.specs.IntSums.{int_sum}
use Rattle.price_bound.specs.FollowingPicks.{part_of, pick_of}
use Rattle.price_bound.specs.Regrouped.{constant_by, constant_of, of_handover, second_price}
use Rattle.price_bound.specs.Slacks.{slack_at, slack_of}
use Rattle.price_bound.specs.YardPrices.{by_place, giving, price_by, taking, yard_price}
use Rattle.price_bound.proofs.IntLaws.{below_none, below_same, below_sums, int_below, sum_add, sum_neg, sum_none, sum_same}
use Rattle.price_bound.proofs.IntLaws.{sum_sums, times_none}
use Rattle.price_bound.proofs.Regrouped.{part_price}
use Rattle.price_bound.proofs.OneMultiplier.{has_part, is_second, place_taken}

module _ (day : Day) (picks : List ℕ) (links : AreLinks day) where
  abbrev lists : List (List ℕ)
  lists = picked day picks

  -- ---- one multiplier

  -- what a multiplier gives, by what it belongs to, if anything
  abbrev given_by_place : Option Place → ℤ → (Place → ℤ → ℤ) → ℤ
  given_by_place o v f = unwrap_or (option_map (λ place. f place v) o) (pos 0)

  abbrev takes : Option Place → ℤ → ℕ → ℤ
  takes o v t = int_sum (λ m. given_by_place o v (price_by day (from_of day t) (leaves day t) m)) (taken_with itself day lists t)

  abbrev gives : Option Place → ℤ → ℕ → ℤ
  gives o v t = int_sum (λ m. given_by_place o v (price_by day (to_of day t) (ready_at day t) m)) (given_with itself day lists t)

  abbrev seconds : Option Place → ℤ → ℕ → ℤ
  seconds o v t = given_by_place o v (of_handover day (is_second day picks t))

  abbrev parts : Option Place → ℤ → ℕ → ℤ
  parts o v l = unwrap_or (option_map (λ link. given_by_place o v (of_handover day (has_part day picks l link))) (slice_get day.links l)) (pos 0)

  abbrev at_trip : Option Place → ℤ → ℕ → ℤ
  at_trip o v t = takes o v t +ℤ neg_ℤ (gives o v t) +ℤ neg_ℤ (seconds o v t)

  unwrap_none : {X : Type 0} (o : Option X) → unwrap_or (option_map (λ (x : X). pos 0) o) (pos 0) ≡ pos 0
  unwrap_none None = refl
  unwrap_none (Some x) = refl

  one_total : (o : Option Place) (v : ℤ) → v *ℤ unwrap_or (option_map (slack_at day picks) o) (pos 0)
      ≡ given_by_place o v (constant_by day) +ℤ int_below (at_trip o v) (length day.trips) +ℤ int_below (parts o v) (length day.links)
  one_total (Some place) v = place_taken day picks links place v
  one_total None v =
      zeros (v *ℤ pos 0) (int_below (at_trip None v) (length day.trips)) (int_below (parts None v) (length day.links)) (times_none v)
      (below_none (at_trip None v) (length day.trips) (λ t lt.
      none (takes None v t) (gives None v t) (sum_none (λ (m : ℕ). pos 0) (taken_with itself day lists t) (λ m. refl)) (sum_none (λ (m : ℕ). pos 0) (given_with itself day lists t) (λ m. refl))))
      (below_none (parts None v) (length day.links) (λ l lt. unwrap_none (slice_get day.links l)))
    where
      zeros : (a b c : ℤ) → a ≡ pos 0 → b ≡ pos 0 → c ≡ pos 0 → a ≡ pos 0 +ℤ b +ℤ c
      zeros a b c e f g = omega (arith, ints, e, f, g)

      none : (a b : ℤ) → a ≡ pos 0 → b ≡ pos 0 → a +ℤ neg_ℤ b +ℤ neg_ℤ (pos 0) ≡ pos 0
      none a b e f = omega (arith, ints, e, f)

  -- ---- all multipliers

  abbrev place_of : Entry → Option Place
  place_of entry = slice_get (places_of day) entry.index

  abbrev term : Entry → ℤ
  term entry = entry.value *ℤ slack_of day picks entry.index

  one_term : (entry : Entry) → term entry
      ≡ by_place day (constant_by day) entry +ℤ int_below (at_trip (place_of entry) entry.value) (length day.trips) +ℤ int_below (parts (place_of entry) entry.value) (length day.links)
  unfolding slack_of
  one_term entry = one_total (place_of entry) entry.value

  units_total : (entries : List Entry) (s minute : ℕ) (types : List ℕ)
      → int_sum (λ entry. int_sum (λ m. by_place day (price_by day s minute m) entry) types) entries ≡ int_sum (yard_price day entries s minute) types
  unfolding yard_price
  units_total entries s minute types = sum_sums (λ entry m. by_place day (price_by day s minute m) entry) entries types

  -- the price of what a trip takes, less that of what it gives, less the multipliers of its pick where it is the second
  -- trip
  abbrev pub at_trips : List Entry → ℕ → ℤ
  at_trips entries t =
      taking day entries t (taken_with itself day lists t) +ℤ neg_ℤ (giving day entries t (given_with itself day lists t)) +ℤ neg_ℤ (second_price day entries t (pick_of picks t))

  trips_total : (entries : List Entry) (t : ℕ) → int_sum (λ entry. at_trip (place_of entry) entry.value t) entries ≡ at_trips entries t
  unfolding second_price
  trips_total entries t =
      sum_add (λ entry. takes (place_of entry) entry.value t +ℤ neg_ℤ (gives (place_of entry) entry.value t)) (λ entry. neg_ℤ (seconds (place_of entry) entry.value t)) entries
      ∙ three (int_sum (λ entry. takes (place_of entry) entry.value t +ℤ neg_ℤ (gives (place_of entry) entry.value t)) entries)
      (int_sum (λ entry. takes (place_of entry) entry.value t) entries) (int_sum (λ entry. neg_ℤ (gives (place_of entry) entry.value t)) entries)
      (int_sum (λ entry. gives (place_of entry) entry.value t) entries) (int_sum (λ entry. neg_ℤ (seconds (place_of entry) entry.value t)) entries)
      (int_sum (λ entry. seconds (place_of entry) entry.value t) entries)
      (taking day entries t (taken_with itself day lists t)) (giving day entries t (given_with itself day lists t))
      (sum_add (λ entry. takes (place_of entry) entry.value t) (λ entry. neg_ℤ (gives (place_of entry) entry.value t)) entries)
      (sum_neg (λ entry. gives (place_of entry) entry.value t) entries)
      (sum_neg (λ entry. seconds (place_of entry) entry.value t) entries)
      (units_total entries (from_of day t) (leaves day t) (taken_with itself day lists t))
      (units_total entries (to_of day t) (ready_at day t) (given_with itself day lists t))
    where
      three : (r a b b' c c' x y : ℤ) → r ≡ a +ℤ b → b ≡ neg_ℤ b' → c ≡ neg_ℤ c' → a ≡ x → b' ≡ y → r +ℤ c ≡ x +ℤ neg_ℤ y +ℤ neg_ℤ c'
      three r a b b' c c' x y e f g h i = omega (arith, ints, e, f, g, h, i)

  -- the multipliers of the part of a link's hand-over
  abbrev pub at_link : List Entry → ℕ → ℤ
  at_link entries l = unwrap_or (option_map (λ link. part_price day entries l (part_of link lists)) (slice_get day.links l)) (pos 0)

  links_total : (entries : List Entry) (l : ℕ) (o : Option Link)
      → int_sum (λ entry. unwrap_or (option_map (λ link. by_place day (of_handover day (has_part day picks l link)) entry) o) (pos 0)) entries
      ≡ unwrap_or (option_map (λ link. part_price day entries l (part_of link lists)) o) (pos 0)
  unfolding part_price
  links_total entries l None = sum_none (λ (entry : Entry). pos 0) entries (λ entry. refl)
  links_total entries l (Some link) = refl

  pub slacks_total : (entries : List Entry) → int_sum (λ entry. entry.value *ℤ slack_of day picks entry.index) entries
      ≡ constant_of day entries +ℤ int_below (at_trips entries) (length day.trips) +ℤ int_below (at_link entries) (length day.links)
  unfolding constant_of
  slacks_total entries =
      sum_same term (λ entry. by_place day (constant_by day) entry +ℤ int_below (at_trip (place_of entry) entry.value) (length day.trips) +ℤ int_below (parts (place_of entry) entry.value) (length day.links))
      entries one_term
      ∙ sum_add (λ entry. by_place day (constant_by day) entry +ℤ int_below (at_trip (place_of entry) entry.value) (length day.trips)) (λ entry. int_below (parts (place_of entry) entry.value) (length day.links)) entries
      ∙ ap (λ (v : ℤ). v +ℤ int_sum (λ entry. int_below (parts (place_of entry) entry.value) (length day.links)) entries)
      (sum_add (by_place day (constant_by day)) (λ entry. int_below (at_trip (place_of entry) entry.value) (length day.trips)) entries)
      ∙ ap (λ (v : ℤ). int_sum (by_place day (constant_by day)) entries +ℤ v +ℤ int_sum (λ entry. int_below (parts (place_of entry) entry.value) (length day.links)) entries)
      (below_sums (λ entry. at_trip (place_of entry) entry.value) entries (length day.trips)
      ∙ below_same (λ t. int_sum (λ entry. at_trip (place_of entry) entry.value t) entries) (at_trips entries) (length day.trips) (λ t lt. trips_total entries t))
      ∙ ap (λ (v : ℤ). int_sum (by_place day (constant_by day)) entries +ℤ int_below (at_trips entries) (length day.trips) +ℤ v)
      (below_sums (λ entry. parts (place_of entry) entry.value) entries (length day.links)
      ∙ below_same (λ l. int_sum (λ entry. parts (place_of entry) entry.value l) entries) (at_link entries) (length day.links) (λ l lt. links_total entries l (slice_get day.links l)))
