-- Tables to which all multipliers are added, and that are then added up and looked into, hold the prices under them.
use Rattle.std.proofs.Common.{◌≡◌, ℕ, suc, ◌+◌, ◌*◌, ◌<◌, ◌≤◌, ◌⊎◌, List, [], ◌∷◌, ◌++◌, length, get_or, map, Bool}
use Rattle.std.proofs.Common.{true, false, ◌&&◌, Option, Some, None, refl, sym, ap, ◌∙◌, subst, arith, ℤ, pos, ◌+ℤ◌}
use Rattle.std.proofs.Common.{inl, inr, unwrap_or, slice_get, append_assoc, length-append}
use Rattle.std.specs.Prelude.{◌==◌, fold, if◌then◌else◌, nat_le, nat_lt, option_map}
use Rattle.std.proofs.lemmas.Int.{ints}
use Rattle.std.proofs.lemmas.List.{append-nil, get_or-map, get_or_append_left, get_or_default, length-map}
use Rattle.std.proofs.lemmas.List.Elements.{All-get_or}
use Rattle.std.proofs.lemmas.Option.{get_or_from_slice_get}
use Rattle.rail_base.specs.declared.limits.TheConstants.{MAX_ENTRIES, MAX_MULTIPLIER}
use Rattle.timetable.specs.declared.day.indices.Place.{Place}
use Rattle.timetable.specs.declared.day.indices.Place.TheVariants.{Lambda, Mu, Sigma}
use Rattle.timetable.specs.declared.day.records.Handover.{Handover}
use Rattle.timetable.specs.Compositions.{compositions_of}
use Rattle.timetable.specs.Day.{Day, leaves, ready_at}
use Rattle.timetable.specs.Handovers.{handovers_of}
use Rattle.timetable.specs.Indices.{places_of}
use Rattle.timetable.specs.Lists.{listed}
use Rattle.timetable.specs.Minutes.{minutes_of}
use Rattle.timetable.proofs.Listing.{get_listed, length-listed}
use Rattle.inventory.specs.Counted.{HasPlaces, counts_of, number_at}
use Rattle.inventory.specs.CountTable.{changed, earlier}
use Rattle.inventory.proofs.Filled.{place_within}
use Rattle.inventory.proofs.Holds.{map_entry}
use Rattle.inventory.proofs.Tables.{changed_places}
use Rattle.branch_tree.specs.declared.multipliers.Entry.{Entry}
use Rattle.branch_tree.specs.Entries.{AreMultipliers}
use Rattle.branch_tree.specs.IntSums.{int_sum}
use Rattle.price_bound.specs.declared.price_tables.PriceTables.{PriceTables}
use Rattle.price_bound.specs.declared.yard_places.YardPlace.{YardPlace}
use Rattle.price_bound.specs.EdgeValues.{part_multiplier}
use Rattle.price_bound.specs.PriceTables.{AreSized, ArePrices, HasSize, amount_at, cleared, looked_up, with_entry}
use Rattle.price_bound.specs.PriceTables.{with_handover, with_place}
use Rattle.price_bound.specs.Regrouped.{of_handover, second_price}
use Rattle.price_bound.specs.CellSizes.{IsSmall, most_price}
use Rattle.price_bound.specs.YardPrices.{by_place, of_type, price_by, yard_price}
use Rattle.price_bound.specs.YardTables.{ArePlaces, CanLook, amounts_at, given_at, later_sums, taken_at}
use Rattle.price_bound.proofs.Adding.{changed_amount, changed_size, cleared_again, cleared_amount, cleared_number}
use Rattle.price_bound.proofs.Adding.{cleared_places, cleared_size, small_by_size, small_more, small_zero, sum_small}
use Rattle.price_bound.proofs.IntLaws.{none_more, sum_append}
use Rattle.price_bound.proofs.YardPuts.{all_from, all_next, all_put, from_at, none_from, prices_from, put_at, put_by}
use Rattle.price_bound.proofs.YardPuts.{put_more}
use Rattle.price_bound.proofs.YardSums.{length-sums, sums_are}

-- the prices of yards: all that is put is added up, from the last minute to the first
abbrev pub summed : PriceTables → List (List (List ℤ))
summed tables = map (map later_sums) tables.yards

-- and trips look there
abbrev pub with_prices : PriceTables → PriceTables
with_prices tables = looked_up (record tables { yards = summed tables })

module _ (day : Day) where
  abbrev trips : ℕ
  trips = length day.trips

  abbrev comps : ℕ
  comps = length (compositions_of day)

  -- ---- what a multiplier gives by its place, to each amount

  abbrev pub to_second : ℕ → ℕ → Place → ℤ → ℤ
  to_second t comp = of_handover day (λ handover c. (handover.second == t) && (comp == c))

  abbrev pub to_part : ℕ → ℕ → Place → ℤ → ℤ
  to_part l comp = of_handover day (λ handover c. (handover.link == l) && (comp == c))

  -- the amounts are small
  record AreSmall (tables : PriceTables) : Type 0 where
    pub yards : (s m k : ℕ) → s < length day.stations → m < length day.types → k ≤ length (minutes_of day s)
        → IsSmall 2000000000000000000 (number_at tables.yards s m k)
    pub seconds : (t c : ℕ) → t < trips → c < comps → IsSmall 2000000000000000000 (amount_at tables.seconds t c)
    pub parts : (l c : ℕ) → l < length day.links → c < comps → IsSmall 2000000000000000000 (amount_at tables.parts l c)

  -- the amounts are more by what is given, which depends on the amount
  record AreMore (give : (Place → ℤ → ℤ) → ℤ) (old new : PriceTables) : Type 0 where
    pub sized : AreSized day new
    pub yards : (s m k : ℕ) → s < length day.stations → m < length day.types → k ≤ length (minutes_of day s)
        → number_at new.yards s m k ≡ number_at old.yards s m k +ℤ give (put_at day s m k)
    pub seconds : (t c : ℕ) → t < trips → c < comps → amount_at new.seconds t c ≡ amount_at old.seconds t c +ℤ give (to_second t c)
    pub parts : (l c : ℕ) → l < length day.links → c < comps → amount_at new.parts l c ≡ amount_at old.parts l c +ℤ give (to_part l c)

  plain : (a : ℤ) → a ≡ a +ℤ pos 0
  plain a = omega (arith, ints)

  module _ (old : PriceTables) (sized : AreSized day old) (small : AreSmall old) (v : ℤ) (small_v : IsSmall 2000000000000000000 v) where
    handover_more : (h c : ℕ) (o : Option Handover) → slice_get (handovers_of day) h ≡ o
        → AreMore (λ f. f (Sigma h c) v) old (unwrap_or (option_map (λ handover. with_handover handover c v old) o) old)
    handover_more h c None at = record {
      sized = sized;
      yards = λ s m k lt lt' le. plain (number_at old.yards s m k);
      seconds = λ t k lt lt'. none_more (amount_at old.seconds t k) (to_second t k (Sigma h c) v)
          (ap (λ (o : Option Handover). if unwrap_or (option_map (λ handover. (handover.second == t) && (k == c)) o) false then v else pos 0) at);
      parts = λ l k lt lt'. none_more (amount_at old.parts l k) (to_part l k (Sigma h c) v)
          (ap (λ (o : Option Handover). if unwrap_or (option_map (λ handover. (handover.link == l) && (k == c)) o) false then v else pos 0) at);
    }
    handover_more h c (Some handover) at = record {
      sized = record {
        takes = sized.takes;
        gives = sized.gives;
        seconds = changed_size trips comps old.seconds sized.seconds handover.second c v;
        parts = changed_size (length day.links) comps old.parts sized.parts handover.link c v;
        clear_seconds = λ none. absurd (let no : true ≡ false = none in cc);
        clear_parts = λ none. absurd (let no : true ≡ false = none in cc);
        yards = sized.yards;
        taken_at = sized.taken_at;
        given_at = sized.given_at;
      };
      yards = λ s m k lt lt' le. plain (number_at old.yards s m k);
      seconds = λ t k lt lt'. changed_amount trips comps old.seconds sized.seconds handover.second c v t k lt lt' (small.seconds t k lt lt') small_v
          ∙ ap (λ (o : Option Handover). amount_at old.seconds t k +ℤ (if unwrap_or (option_map (λ handover. (handover.second == t) && (k == c)) o) false then v else pos 0)) (sym at);
      parts = λ l k lt lt'. changed_amount (length day.links) comps old.parts sized.parts handover.link c v l k lt lt' (small.parts l k lt lt') small_v
          ∙ ap (λ (o : Option Handover). amount_at old.parts l k +ℤ (if unwrap_or (option_map (λ handover. (handover.link == l) && (k == c)) o) false then v else pos 0)) (sym at);
    }

    yard_more : (station unit_type place : ℕ) (of : (Place → ℤ → ℤ) → ℤ) → ((s m k : ℕ) → of (put_at day s m k) ≡ put_by s m k station unit_type place v)
        → ((t c : ℕ) → of (to_second t c) ≡ pos 0) → ((l c : ℕ) → of (to_part l c) ≡ pos 0)
        → AreMore of old (record old { yards = changed station unit_type place v old.yards })
    yard_more station unit_type place of put second part = record {
      sized = record {
        takes = sized.takes;
        gives = sized.gives;
        seconds = sized.seconds;
        parts = sized.parts;
        clear_seconds = sized.clear_seconds;
        clear_parts = sized.clear_parts;
        yards = changed_places day old.yards sized.yards station unit_type place v;
        taken_at = sized.taken_at;
        given_at = sized.given_at;
      };
      yards = λ s m k lt lt' le.
          put_more day old.yards sized.yards station unit_type place v s m k lt lt' le (small.yards s m k lt lt' le) small_v
          ∙ ap (λ (x : ℤ). number_at old.yards s m k +ℤ x) (sym (put s m k));
      seconds = λ t c lt lt'. none_more (amount_at old.seconds t c) (of (to_second t c)) (second t c);
      parts = λ l c lt lt'. none_more (amount_at old.parts l c) (of (to_part l c)) (part l c);
    }

    place_more : (place : Place) → AreMore (λ f. f place v) old (with_place day place v old)
    place_more (Lambda s m k) = yard_more s m k (λ f. f (Lambda s m k) v) (λ s' m' k'. refl) (λ t c. refl) (λ l c. refl)
    place_more (Mu s m) = yard_more s m (length (minutes_of day s)) (λ f. f (Mu s m) v) (λ s' m' k'. refl) (λ t c. refl) (λ l c. refl)
    place_more (Sigma h c) = handover_more h c (slice_get (handovers_of day) h) refl

    by_option : (o : Option Place) → AreMore (λ f. unwrap_or (option_map (λ place. f place v) o) (pos 0)) old (unwrap_or (option_map (λ place. with_place day place v old) o) old)
    by_option (Some place) = place_more place
    by_option None = record {
      sized = sized;
      yards = λ s m k lt lt' le. plain (number_at old.yards s m k);
      seconds = λ t k lt lt'. plain (amount_at old.seconds t k);
      parts = λ l k lt lt'. plain (amount_at old.parts l k);
    }

  entry_more : (old : PriceTables) (entry : Entry) → AreSized day old → AreSmall old → IsSmall 2000000000000000000 entry.value
      → AreMore (λ f. by_place day f entry) old (with_entry day old entry)
  entry_more old entry sized small small_v = by_option old sized small entry.value small_v (slice_get (places_of day) entry.index)

  -- ---- what a multiplier gives is its value, or nothing

  abbrev IsValueOrNone : ℤ → ℤ → Type 0
  IsValueOrNone v x = (x ≡ v) ⊎ (x ≡ pos 0)

  if_value : (b : Bool) (v x : ℤ) → IsValueOrNone v x → IsValueOrNone v (if b then x else pos 0)
  if_value true v x is = is
  if_value false v x is = inr refl

  price_value : (s minute m : ℕ) (place : Place) (v : ℤ) → IsValueOrNone v (price_by day s minute m place v)
  price_value s minute m (Lambda station unit_type k) v =
      if_value ((s == station) && nat_le minute (get_or (minutes_of day station) k 0)) v (of_type m unit_type v) (if_value (m == unit_type) v v (inl refl))
  price_value s minute m (Mu station unit_type) v = if_value (s == station) v (of_type m unit_type v) (if_value (m == unit_type) v v (inl refl))
  price_value s minute m (Sigma h c) v = inr refl

  put_value : (s m k : ℕ) (place : Place) (v : ℤ) → IsValueOrNone v (put_at day s m k place v)
  put_value s m k (Lambda station unit_type place) v =
      if_value ((s == station) && (k == place)) v (of_type m unit_type v) (if_value (m == unit_type) v v (inl refl))
  put_value s m k (Mu station unit_type) v =
      if_value ((s == station) && (k == length (minutes_of day station))) v (of_type m unit_type v) (if_value (m == unit_type) v v (inl refl))
  put_value s m k (Sigma h c) v = inr refl

  from_value : (s m k : ℕ) (place : Place) (v : ℤ) → IsValueOrNone v (from_at day s m k place v)
  from_value s m k (Lambda station unit_type place) v =
      if_value ((s == station) && nat_lt k (suc place)) v (of_type m unit_type v) (if_value (m == unit_type) v v (inl refl))
  from_value s m k (Mu station unit_type) v =
      if_value ((s == station) && nat_lt k (suc (length (minutes_of day station)))) v (of_type m unit_type v) (if_value (m == unit_type) v v (inl refl))
  from_value s m k (Sigma h c) v = inr refl

  handover_value : (test : Handover → ℕ → Bool) (place : Place) (v : ℤ) → IsValueOrNone v (of_handover day test place v)
  handover_value test (Lambda s m k) v = inr refl
  handover_value test (Mu s m) v = inr refl
  handover_value test (Sigma h c) v = if_value (unwrap_or (option_map (λ handover. test handover c) (slice_get (handovers_of day) h)) false) v v (inl refl)

  small_value : (b : ℕ) (v x : ℤ) → IsValueOrNone v x → IsSmall b v → IsSmall b x
  small_value b v x (inl same) small = subst (IsSmall b) (sym same) small
  small_value b v x (inr none) small = subst (IsSmall b) (sym none) (small_zero b)

  place_small : (f : Place → ℤ → ℤ) → ((place : Place) (v : ℤ) → IsValueOrNone v (f place v)) → (b : ℕ) (entry : Entry) → IsSmall b entry.value → IsSmall b (by_place day f entry)
  place_small f each b entry small = on (slice_get (places_of day) entry.index)
    where
      on : (o : Option Place) → IsSmall b (unwrap_or (option_map (λ place. f place entry.value) o) (pos 0))
      on None = small_zero b
      on (Some place) = small_value b entry.value (f place entry.value) (each place entry.value) small

  -- ---- all multipliers

  abbrev AreFew : List Entry → Type 0
  AreFew entries = (length entries ≤ MAX_ENTRIES) × ((k : ℕ) (d : Entry) → k < length entries → IsSmall MAX_MULTIPLIER ((get_or entries k d).value))

  entries_small : (f : Place → ℤ → ℤ) → ((place : Place) (v : ℤ) → IsValueOrNone v (f place v)) → (entries : List Entry) → AreFew entries
      → IsSmall most_price (int_sum (by_place day f) entries)
  entries_small f each entries few =
      small_more (length entries * MAX_MULTIPLIER) most_price (int_sum (by_place day f) entries) (omega (arith, few.0))
      (sum_small (by_place day f) MAX_MULTIPLIER entries (λ k d lt. place_small f each MAX_MULTIPLIER (get_or entries k d) (few.1 k d lt)))

  pub yard_small : (entries : List Entry) (s minute m : ℕ) → AreFew entries → IsSmall most_price (yard_price day entries s minute m)
  unfolding yard_price
  yard_small entries s minute m few = entries_small (price_by day s minute m) (price_value s minute m) entries few

  pub second_small : (entries : List Entry) (t c : ℕ) → AreFew entries → IsSmall most_price (second_price day entries t c)
  unfolding second_price
  second_small entries t c few = entries_small (to_second t c) (handover_value (λ handover k. (handover.second == t) && (c == k))) entries few

  pub part_small : (entries : List Entry) (l c : ℕ) → AreFew entries → IsSmall most_price (part_multiplier day entries l c)
  unfolding part_multiplier
  part_small entries l c few = entries_small (to_part l c) (handover_value (λ handover k. (handover.link == l) && (c == k))) entries few

  large : (x : ℤ) → IsSmall most_price x → IsSmall 2000000000000000000 x
  large x small = small_more most_price 2000000000000000000 x (omega arith) small

  -- the multipliers so far are put where they begin to count, and added to those of hand-overs
  record ArePut (entries : List Entry) (tables : PriceTables) : Type 0 where
    pub sized : AreSized day tables
    pub yards : (s m k : ℕ) → s < length day.stations → m < length day.types → k ≤ length (minutes_of day s)
        → number_at tables.yards s m k ≡ all_put day entries s m k
    pub seconds : (t c : ℕ) → t < trips → c < comps → amount_at tables.seconds t c ≡ second_price day entries t c
    pub parts : (l c : ℕ) → l < length day.links → c < comps → amount_at tables.parts l c ≡ part_multiplier day entries l c

  put_small : (entries : List Entry) (tables : PriceTables) → AreFew entries → ArePut entries tables → AreSmall tables
  put_small entries tables few are = record {
    yards = λ s m k lt lt' le. subst (IsSmall 2000000000000000000) (sym (are.yards s m k lt lt' le))
        (large (all_put day entries s m k) (entries_small (put_at day s m k) (put_value s m k) entries few));
    seconds = λ t c lt lt'. subst (IsSmall 2000000000000000000) (sym (are.seconds t c lt lt')) (large (second_price day entries t c) (second_small entries t c few));
    parts = λ l c lt lt'. subst (IsSmall 2000000000000000000) (sym (are.parts l c lt lt')) (large (part_multiplier day entries l c) (part_small entries l c few));
  }

  -- one multiplier more
  pushed : (f : Place → ℤ → ℤ) (done : List Entry) (entry : Entry) → int_sum (by_place day f) (done ++ entry ∷ []) ≡ int_sum (by_place day f) done +ℤ by_place day f entry
  pushed f done entry = sum_append (by_place day f) done (entry ∷ []) ∙ last (int_sum (by_place day f) done) (by_place day f entry)
    where
      last : (a b : ℤ) → a +ℤ (b +ℤ pos 0) ≡ a +ℤ b
      last a b = omega (arith, ints)

  next : (done : List Entry) (entry : Entry) (tables : PriceTables) → AreFew done → IsSmall MAX_MULTIPLIER entry.value → ArePut done tables
      → ArePut (done ++ entry ∷ []) (with_entry day tables entry)
  unfolding second_price part_multiplier
  next done entry tables few small are =
      let more : AreMore (λ f. by_place day f entry) tables (with_entry day tables entry) =
      entry_more tables entry are.sized (put_small done tables few are) (small_more MAX_MULTIPLIER 2000000000000000000 entry.value (omega arith) small) in
      record {
        sized = more.sized;
        yards = λ s m k lt lt' le. more.yards s m k lt lt' le ∙ ap (λ (v : ℤ). v +ℤ by_place day (put_at day s m k) entry) (are.yards s m k lt lt' le)
            ∙ sym (pushed (put_at day s m k) done entry);
        seconds = λ t c lt lt'. more.seconds t c lt lt' ∙ ap (λ (v : ℤ). v +ℤ by_place day (to_second t c) entry) (are.seconds t c lt lt') ∙ sym (pushed (to_second t c) done entry);
        parts = λ l c lt lt'. more.parts l c lt lt' ∙ ap (λ (v : ℤ). v +ℤ by_place day (to_part l c) entry) (are.parts l c lt lt') ∙ sym (pushed (to_part l c) done entry);
      }

  first_few : (done rest : List Entry) → AreFew (done ++ rest) → AreFew done
  first_few done rest few = (
    omega (arith, few.0, length-append done rest),
    λ k d lt. subst (λ (e : Entry). IsSmall MAX_MULTIPLIER e.value) (get_or_append_left done rest d k lt) (few.1 k d (omega (arith, lt, length-append done rest))),
  )

  at_seam : (done : List Entry) (entry : Entry) (rest : List Entry) (d : Entry) → get_or (done ++ entry ∷ rest) (length done) d ≡ entry
  at_seam [] entry rest d = refl
  at_seam (x ∷ done) entry rest d = at_seam done entry rest d

  go : (done rest : List Entry) (tables : PriceTables) → AreFew (done ++ rest) → ArePut done tables → ArePut (done ++ rest) (fold (with_entry day) tables rest)
  go done [] tables few are = subst (λ (es : List Entry). ArePut es tables) (sym (append-nil done)) are
  go done (entry ∷ rest) tables few are =
      let same : (done ++ entry ∷ []) ++ rest ≡ done ++ entry ∷ rest = append_assoc done (entry ∷ []) rest in
      let here : IsSmall MAX_MULTIPLIER entry.value =
      subst (λ (e : Entry). IsSmall MAX_MULTIPLIER e.value) (at_seam done entry rest entry) (few.1 (length done) entry (omega (arith, length-append done (entry ∷ rest)))) in
      subst (λ (es : List Entry). ArePut es (fold (with_entry day) (with_entry day tables entry) rest)) same
      (go (done ++ entry ∷ []) rest (with_entry day tables entry) (subst AreFew (sym same) few) (next done entry tables (first_few done (entry ∷ rest) few) here are))

  pub are_few : (entries : List Entry) → AreMultipliers entries → AreFew entries
  are_few entries are = (are.few, λ k d lt. small_by_size MAX_MULTIPLIER (get_or entries k d).value (are.within k d lt))

  all_are_put : (entries : List Entry) (tables : PriceTables) → AreMultipliers entries → AreSized day tables
      → ArePut entries (fold (with_entry day) (cleared tables) entries)
  unfolding second_price part_multiplier
  all_are_put entries tables multipliers sized = go [] entries (cleared tables) (are_few entries multipliers) start
    where
      start : ArePut [] (cleared tables)
      start = record {
        sized = record {
          takes = sized.takes;
          gives = sized.gives;
          seconds = cleared_size trips comps tables.seconds sized.seconds;
          parts = cleared_size (length day.links) comps tables.parts sized.parts;
          clear_seconds = λ none. cleared_again tables.seconds;
          clear_parts = λ none. cleared_again tables.parts;
          yards = cleared_places day tables.yards sized.yards;
          taken_at = sized.taken_at;
          given_at = sized.given_at;
        };
        yards = λ s m k lt lt' le. cleared_number tables.yards s m k;
        seconds = λ t c lt lt'. cleared_amount tables.seconds t c;
        parts = λ l c lt lt'. cleared_amount tables.parts l c;
      }

  -- ---- the prices are looked up where they are added up

  module _ (entries : List Entry) (multipliers : AreMultipliers entries) (tables : PriceTables) (are : ArePut entries tables) where
    abbrev sums : List (List (List ℤ))
    sums = summed tables

    summed_row : (s m : ℕ) → counts_of sums s m ≡ later_sums (counts_of tables.yards s m)
    summed_row s m =
        ap (λ (types : List (List ℤ)). get_or types m []) (map_entry (map later_sums) tables.yards s refl)
        ∙ map_entry later_sums (get_or tables.yards s []) m refl

    long : (s m k : ℕ) → s < length day.stations → m < length day.types → k ≤ length (minutes_of day s) → k < length (counts_of tables.yards s m)
    long s m k lt lt' le = omega (arith, le, are.sized.yards.minutes s m lt lt')

    no_more : (s m : ℕ) → s < length day.stations → m < length day.types → all_from day entries s m (length (counts_of tables.yards s m)) ≡ pos 0
    no_more s m lt lt' =
        ap (all_from day entries s m) (are.sized.yards.minutes s m lt lt' ∙ next_up (length (minutes_of day s))) ∙ none_from day entries s m
      where
        next_up : (n : ℕ) → n + 1 ≡ suc n
        next_up n = omega arith

    summed_number : (s m k : ℕ) → s < length day.stations → m < length day.types → k ≤ length (minutes_of day s)
        → number_at sums s m k ≡ all_from day entries s m k
    summed_number s m k lt lt' le =
        ap (λ (row : List ℤ). get_or row k (pos 0)) (summed_row s m)
        ∙ sums_are (counts_of tables.yards s m) (all_put day entries s m) (all_from day entries s m)
        (λ j below. are.yards s m j lt lt' (omega (arith, below, are.sized.yards.minutes s m lt lt'))) (no_more s m lt lt') (all_next day entries s m)
        (λ j. small_more most_price 4000000000000000000 (all_from day entries s m j) (omega arith)
        (entries_small (from_at day s m j) (from_value s m j) entries (are_few entries multipliers))) k (long s m k lt lt' le)

    summed_places : HasPlaces day sums
    summed_places = record {
      stations = length-map tables.yards (map later_sums) ∙ are.sized.yards.stations;
      types = λ s lt. ap length (map_entry (map later_sums) tables.yards s refl) ∙ length-map (get_or tables.yards s []) later_sums ∙ are.sized.yards.types s lt;
      minutes = λ s m lt lt'. ap length (summed_row s m) ∙ length-sums (counts_of tables.yards s m) ∙ are.sized.yards.minutes s m lt lt';
    }

    -- a trip's row, by its station and the place of a minute
    module _ (at : ℕ → YardPlace) (places : List YardPlace) (found : ArePlaces day at places) where
      looked_row : (t : ℕ) → t < trips → get_or (map (amounts_at sums) places) t [] ≡ amounts_at sums (at t)
      looked_row t lt =
          get_or-map (amounts_at sums) places t (at t) [] (omega (arith, lt, ap length found.each, length-listed at trips))
          ∙ ap (amounts_at sums) (ap (λ (ps : List YardPlace). get_or ps t (at t)) found.each ∙ get_or_from_slice_get (listed at trips) t (at t) (at t) (get_listed at trips t lt))

      known : (t : ℕ) → t < trips → (at t).station < length day.stations
      known t lt =
          subst (λ (p : YardPlace). p.station < length day.stations)
          (ap (λ (ps : List YardPlace). get_or ps t (at t)) found.each ∙ get_or_from_slice_get (listed at trips) t (at t) (at t) (get_listed at trips t lt))
          (All-get_or (λ (p : YardPlace). p.station < length day.stations) places t (at t) (omega (arith, lt, ap length found.each, length-listed at trips)) found.known)

      looked_size : HasSize trips (length day.types) (map (amounts_at sums) places)
      looked_size = record {
        height = length-map places (amounts_at sums) ∙ ap length found.each ∙ length-listed at trips;
        widths = λ t lt. ap length (looked_row t lt)
            ∙ length-map (get_or sums (at t).station []) (λ (row : List ℤ). get_or row (at t).place (pos 0))
            ∙ summed_places.types (at t).station (known t lt);
      }

      looked_price : (t m minute : ℕ) → t < trips → m < length day.types → (at t).place ≡ earlier minute (minutes_of day (at t).station)
          → amount_at (map (amounts_at sums) places) t m ≡ yard_price day entries (at t).station minute m
      unfolding yard_price
      looked_price t m minute lt lt' is =
          ap (λ (row : List ℤ). get_or row m (pos 0)) (looked_row t lt)
          ∙ get_or-map (λ (row : List ℤ). get_or row (at t).place (pos 0)) (get_or sums (at t).station []) m [] (pos 0)
          (omega (arith, lt', summed_places.types (at t).station (known t lt)))
          ∙ ap (number_at sums (at t).station m) is
          ∙ summed_number (at t).station m (earlier minute (minutes_of day (at t).station)) (known t lt) lt' (place_within (minutes_of day (at t).station) minute)
          ∙ prices_from day entries (at t).station minute m

    prices_are : ArePrices day entries (with_prices tables)
    prices_are = record {
      sized = record {
        takes = looked_size (taken_at day) tables.taken_at.items are.sized.taken_at;
        gives = looked_size (given_at day) tables.given_at.items are.sized.given_at;
        seconds = are.sized.seconds;
        parts = are.sized.parts;
        clear_seconds = are.sized.clear_seconds;
        clear_parts = are.sized.clear_parts;
        yards = summed_places;
        taken_at = are.sized.taken_at;
        given_at = are.sized.given_at;
      };
      takes = λ t m lt lt'. looked_price (taken_at day) tables.taken_at.items are.sized.taken_at t m (leaves day t) lt lt' refl;
      gives = λ t m lt lt'. looked_price (given_at day) tables.given_at.items are.sized.given_at t m (ready_at day t) lt lt' refl;
      seconds = are.seconds;
      parts = are.parts;
    }

  pub filled : (entries : List Entry) (tables : PriceTables) → AreMultipliers entries → AreSized day tables
      → ArePrices day entries (with_prices (fold (with_entry day) (cleared tables) entries))
  filled entries tables multipliers sized =
      prices_are entries multipliers (fold (with_entry day) (cleared tables) entries) (all_are_put entries tables multipliers sized)

  -- trips can look in what is added up of sized tables
  can_look : (tables : PriceTables) → AreSized day tables → (at : ℕ → YardPlace) (places : List YardPlace) → ArePlaces day at places
      → (table : List (List ℤ)) → HasSize trips (length day.types) table → CanLook (summed tables) places table
  can_look tables sized at places are table size =
      let many : length (summed tables) ≡ length day.stations = length-map tables.yards (map later_sums) ∙ sized.yards.stations in
      record {
        known = λ k d lt. omega (arith, many, are.known k d lt);
        rows = size.height ∙ sym (ap length are.each ∙ length-listed at trips);
        types = λ s d lt t e lt'.
            ap length (get_or_default table t e [] lt') ∙ size.widths t (omega (arith, lt', size.height))
            ∙ sym (ap length (get_or_default (summed tables) s d [] lt ∙ map_entry (map later_sums) tables.yards s refl)
            ∙ length-map (get_or tables.yards s []) later_sums ∙ sized.yards.types s (omega (arith, lt, many)));
      }

  -- so they can once all multipliers are put
  module _ (entries : List Entry) (tables : PriceTables) (multipliers : AreMultipliers entries) (sized : AreSized day tables) where
    abbrev put : PriceTables
    put = fold (with_entry day) (cleared tables) entries

    still_sized : AreSized day put
    still_sized = (all_are_put entries tables multipliers sized).sized

    pub takes_can : CanLook (summed put) put.taken_at.items put.takes
    takes_can = can_look put still_sized (taken_at day) put.taken_at.items still_sized.taken_at put.takes still_sized.takes

    pub gives_can : CanLook (summed put) put.given_at.items put.gives
    gives_can = can_look put still_sized (given_at day) put.given_at.items still_sized.given_at put.gives still_sized.gives
