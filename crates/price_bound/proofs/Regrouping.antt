-- Priced values are regrouped: over all multipliers what each adds at a trip is the price of the units that the trip
-- takes and gives, and what links give and take is told link by link.
use Rattle.std.proofs.Common.{◌≡◌, ℕ, zero, suc, ◌+◌, ◌≤◌, List, [], ◌∷◌, length, Bool, Option, Some, None, refl, sym}
use Rattle.std.proofs.Common.{ap, ◌∙◌, subst, arith, ℤ, pos, neg_ℤ, ◌+ℤ◌, ◌-ℤ◌, ◌*ℤ◌, inl, inr, unwrap_or, slice_get}
use Rattle.std.proofs.Common.{⊎_elim}
use Rattle.std.specs.Prelude.{if◌then◌else◌, is_none, option_map, option_and_then}
use Rattle.std.proofs.lemmas.Bool.{cases_eq}
use Rattle.std.proofs.lemmas.Int.{ints}
use Rattle.rules.specs.declared.records.Link.{Link}
use Rattle.rules.specs.declared.records.LinkKind.{LinkKind}
use Rattle.rules.specs.declared.records.LinkKind.TheVariants.{Turn, Join, Split}
use Rattle.timetable.specs.Accepted.{AreLinks}
use Rattle.timetable.specs.Chains.{leads_from, leads_to}
use Rattle.timetable.specs.Cost.{kind_cost, link_cost}
use Rattle.timetable.specs.Day.{Day}
use Rattle.timetable.specs.Links.{arriving_in, departing_in, given_by, given_with, incoming, itself, link_into}
use Rattle.timetable.specs.Links.{link_out, list_of, outgoing, taken_by, taken_with}
use Rattle.timetable.specs.Lists.{count_of, sum_below}
use Rattle.timetable.specs.Picks.{picked}
use Rattle.timetable.proofs.LinkNames.{names_below}
use Rattle.timetable.proofs.NamedTrips.{IsNamed, named_or_not}
use Rattle.timetable.proofs.Ones.{one_same, one_other}
use Rattle.branch_tree.specs.declared.multipliers.Entry.{Entry}
use Rattle.branch_tree.specs.declared.relaxation.Weight.{Weight}
use Rattle.branch_tree.specs.declared.relaxation.Weight.TheVariants.{Cost, NoCost}
use Rattle.branch_tree.specs.IntSums.{int_sum}
use Rattle.branch_tree.specs.Meanings.{weighted}
use Rattle.price_bound.specs.FollowingPicks.{part_of, pick_of}
use Rattle.price_bound.specs.Regrouped.{constant_of, second_price, trip_value}
use Rattle.price_bound.specs.Slacks.{slack_of}
use Rattle.price_bound.specs.YardPrices.{giving, taking}
use Rattle.price_bound.proofs.ByLink.{adds_all, adds_at, adds_none, adds_one, adds_to}
use Rattle.price_bound.proofs.IntLaws.{below_add, below_neg, below_none, below_same, int_below, only_at, only_here, only_none}
use Rattle.price_bound.proofs.SlackSums.{at_link, at_trips, slacks_total}
use Rattle.price_bound.proofs.Regrouped.{AreRegrouped, link_value, part_price, regrouped, value_at_link}
use Rattle.price_bound.proofs.Solving.{LeadWithin, lead_within, list_picked}

-- ---- the links' trips

-- a trip that is alone on a side
alone : (t x : ℕ) → 1 ≤ count_of t (x ∷ []) → x ≡ t
alone t x here = elim (cases_eq x t) [
  | inl same ↦ same
  | inr differ ↦ absurd (omega (arith, here, one_other x t differ))
]

pub from_named : (kind : LinkKind) → 1 ≤ count_of (leads_from kind) (arriving_in kind)
from_named (Turn a b uncouple couple exchange) = omega (arith, one_same a a refl)
from_named (Join a1 a2 b) = omega (arith, one_same a1 a1 refl)
from_named (Split a b1 b2) = omega (arith, one_same a a refl)

pub to_named : (kind : LinkKind) → 1 ≤ count_of (leads_to kind) (departing_in kind)
to_named (Turn a b uncouple couple exchange) = omega (arith, one_same b b refl)
to_named (Join a1 a2 b) = omega (arith, one_same b b refl)
to_named (Split a b1 b2) = omega (arith, one_same b1 b1 refl)

module _ (day : Day) (entries : List Entry) (lists : List (List ℕ)) where
  -- what a link takes and gives is priced at the trips that it leads between
  abbrev pub takes_by : Link → ℤ
  takes_by link = taking day entries (leads_to link.kind) (taken_by itself link.kind link.reverse lists)

  abbrev pub gives_by : Link → ℤ
  gives_by link = giving day entries (leads_from link.kind) (given_by itself link.kind link.reverse lists)

  taken_at : (t : ℕ) (kind : LinkKind) (r : Bool) → 1 ≤ count_of t (departing_in kind)
      → taking day entries t (taken_by itself kind r lists) ≡ only_at (leads_to kind) (taking day entries (leads_to kind) (taken_by itself kind r lists)) t
  taken_at t (Turn a b uncouple couple exchange) r here =
      let kind : LinkKind = Turn a b uncouple couple exchange in
      let at_b : taking day entries b (taken_by itself kind r lists) ≡ only_at b (taking day entries b (taken_by itself kind r lists)) b = sym (only_here b (taking day entries b (taken_by itself kind r lists))) in
      subst (λ (x : ℕ). taking day entries x (taken_by itself kind r lists) ≡ only_at b (taking day entries b (taken_by itself kind r lists)) x) (alone t b here) at_b
  taken_at t (Join a1 a2 b) r here = sym (only_none b t)
  taken_at t (Split a b1 b2) r here = sym (only_none b1 t)

  given_at : (t : ℕ) (kind : LinkKind) (r : Bool) → 1 ≤ count_of t (arriving_in kind)
      → giving day entries t (given_by itself kind r lists) ≡ only_at (leads_from kind) (giving day entries (leads_from kind) (given_by itself kind r lists)) t
  given_at t (Turn a b uncouple couple exchange) r here =
      let kind : LinkKind = Turn a b uncouple couple exchange in
      let at_a : giving day entries a (given_by itself kind r lists) ≡ only_at a (giving day entries a (given_by itself kind r lists)) a = sym (only_here a (giving day entries a (given_by itself kind r lists))) in
      subst (λ (x : ℕ). giving day entries x (given_by itself kind r lists) ≡ only_at a (giving day entries a (given_by itself kind r lists)) x) (alone t a here) at_a
  given_at t (Join a1 a2 b) r here = sym (only_none a1 t)
  given_at t (Split a b1 b2) r here = sym (only_none a t)

  module _ (links : AreLinks day) where
    abbrev pub taken_to : ℕ → ℤ
    taken_to = adds_to departing_in leads_to to_named day.links links.departing_once (λ l. takes_by)

    abbrev pub given_to : ℕ → ℤ
    given_to = adds_to arriving_in leads_from from_named day.links links.arriving_once (λ l. gives_by)

    -- the units of a trip that no link leads into
    abbrev pub begins : ℕ → ℤ
    begins t = if is_none (incoming day t) then taking day entries t (list_of lists t) else pos 0

    abbrev pub ends : ℕ → ℤ
    ends t = if is_none (outgoing day t) then giving day entries t (list_of lists t) else pos 0

    left_none : (a b c : ℤ) → b ≡ a → c ≡ pos 0 → a ≡ b +ℤ c
    left_none a b c e f = omega (arith, ints, e, f)

    right_none : (a b c : ℤ) → b ≡ pos 0 → c ≡ a → a ≡ b +ℤ c
    right_none a b c e f = omega (arith, ints, e, f)

    -- what a trip takes: all its units, or what its link takes
    pub takes_split : (t : ℕ) → taking day entries t (taken_with itself day lists t) ≡ begins t +ℤ taken_to t
    unfolding incoming taken_with
    takes_split t = ⊎_elim
        (λ (n : (link : Link) × IsNamed departing_in day.links t link).
        let link : Link = n.0 in
        let found : link_into day t ≡ Some link = ap (option_and_then (slice_get day.links)) (n.1).found ∙ (n.1).at in
        let by_link : taking day entries t (taken_with itself day lists t) ≡ taking day entries t (taken_by itself link.kind link.reverse lists) =
        ap (λ (o : Option Link). taking day entries t (unwrap_or (option_map (λ (x : Link). taken_by itself x.kind x.reverse lists) o) (list_of lists t))) found in
        let none : begins t ≡ pos 0 = ap (λ (o : Option ℕ). if is_none o then taking day entries t (list_of lists t) else pos 0) (n.1).found in
        let all : taken_to t ≡ taking day entries t (taken_with itself day lists t) =
        adds_one departing_in leads_to to_named day.links links.departing_once (λ l. takes_by) t (n.1).number link (n.1).at (n.1).named
        ∙ sym (taken_at t link.kind link.reverse (n.1).named) ∙ sym by_link in
        right_none (taking day entries t (taken_with itself day lists t)) (begins t) (taken_to t) none all)
        (λ none.
        let not_found : incoming day t ≡ None = none.0 in
        let by_none : taking day entries t (taken_with itself day lists t) ≡ taking day entries t (list_of lists t) =
        ap (λ (o : Option ℕ). taking day entries t (unwrap_or (option_map (λ (x : Link). taken_by itself x.kind x.reverse lists) (option_and_then (slice_get day.links) o)) (list_of lists t))) not_found in
        let all : begins t ≡ taking day entries t (list_of lists t) = ap (λ (o : Option ℕ). if is_none o then taking day entries t (list_of lists t) else pos 0) not_found in
        left_none (taking day entries t (taken_with itself day lists t)) (begins t) (taken_to t) (all ∙ sym by_none)
        (adds_none departing_in leads_to to_named day.links links.departing_once (λ l. takes_by) t
        (λ l link at is. let here = subst (λ (x : ℕ). 1 ≤ count_of x (departing_in link.kind)) is (to_named link.kind) in absurd (omega (arith, here, none.1 l link at)))))
        (named_or_not departing_in day.links t)

    pub gives_split : (t : ℕ) → giving day entries t (given_with itself day lists t) ≡ ends t +ℤ given_to t
    unfolding outgoing given_with
    gives_split t = ⊎_elim
        (λ (n : (link : Link) × IsNamed arriving_in day.links t link).
        let link : Link = n.0 in
        let found : link_out day t ≡ Some link = ap (option_and_then (slice_get day.links)) (n.1).found ∙ (n.1).at in
        let by_link : giving day entries t (given_with itself day lists t) ≡ giving day entries t (given_by itself link.kind link.reverse lists) =
        ap (λ (o : Option Link). giving day entries t (unwrap_or (option_map (λ (x : Link). given_by itself x.kind x.reverse lists) o) (list_of lists t))) found in
        let none : ends t ≡ pos 0 = ap (λ (o : Option ℕ). if is_none o then giving day entries t (list_of lists t) else pos 0) (n.1).found in
        let all : given_to t ≡ giving day entries t (given_with itself day lists t) =
        adds_one arriving_in leads_from from_named day.links links.arriving_once (λ l. gives_by) t (n.1).number link (n.1).at (n.1).named
        ∙ sym (given_at t link.kind link.reverse (n.1).named) ∙ sym by_link in
        right_none (giving day entries t (given_with itself day lists t)) (ends t) (given_to t) none all)
        (λ none.
        let not_found : outgoing day t ≡ None = none.0 in
        let by_none : giving day entries t (given_with itself day lists t) ≡ giving day entries t (list_of lists t) =
        ap (λ (o : Option ℕ). giving day entries t (unwrap_or (option_map (λ (x : Link). given_by itself x.kind x.reverse lists) (option_and_then (slice_get day.links) o)) (list_of lists t))) not_found in
        let all : ends t ≡ giving day entries t (list_of lists t) = ap (λ (o : Option ℕ). if is_none o then giving day entries t (list_of lists t) else pos 0) not_found in
        left_none (giving day entries t (given_with itself day lists t)) (ends t) (given_to t) (all ∙ sym by_none)
        (adds_none arriving_in leads_from from_named day.links links.arriving_once (λ l. gives_by) t
        (λ l link at is. let here = subst (λ (x : ℕ). 1 ≤ count_of x (arriving_in link.kind)) is (from_named link.kind) in absurd (omega (arith, here, none.1 l link at)))))
        (named_or_not arriving_in day.links t)

    within : (l : ℕ) (link : Link) → slice_get day.links l ≡ Some link → LeadWithin (length day.trips) link.kind
    within l link at = lead_within (length day.trips) link.kind (names_below day links l link at)

    two_sums : (f a b : ℕ → ℤ) (n : ℕ) (s : ℤ) → ((t : ℕ) → f t ≡ a t +ℤ b t) → s ≡ int_below b n → int_below f n ≡ int_below a n +ℤ s
    two_sums f a b n s each e =
        below_same f (λ t. a t +ℤ b t) n (λ t lt. each t) ∙ below_add a b n ∙ ap (λ (v : ℤ). int_below a n +ℤ v) (sym e)

    -- over all trips
    pub all_takes : int_below (λ t. taking day entries t (taken_with itself day lists t)) (length day.trips)
        ≡ int_below begins (length day.trips) +ℤ int_below (adds_at departing_in leads_to to_named day.links links.departing_once (λ l. takes_by)) (length day.links)
    all_takes = two_sums (λ t. taking day entries t (taken_with itself day lists t)) begins taken_to (length day.trips)
        (int_below (adds_at departing_in leads_to to_named day.links links.departing_once (λ l. takes_by)) (length day.links)) takes_split
        (adds_all departing_in leads_to to_named day.links links.departing_once (λ l. takes_by) (length day.trips) (λ l link at. (within l link at).to))

    pub all_gives : int_below (λ t. giving day entries t (given_with itself day lists t)) (length day.trips)
        ≡ int_below ends (length day.trips) +ℤ int_below (adds_at arriving_in leads_from from_named day.links links.arriving_once (λ l. gives_by)) (length day.links)
    all_gives = two_sums (λ t. giving day entries t (given_with itself day lists t)) ends given_to (length day.trips)
        (int_below (adds_at arriving_in leads_from from_named day.links links.arriving_once (λ l. gives_by)) (length day.links)) gives_split
        (adds_all arriving_in leads_from from_named day.links links.arriving_once (λ l. gives_by) (length day.trips) (λ l link at. (within l link at).from))

-- ---- costs

pos_below : (f : ℕ → ℕ) (n : ℕ) → pos (sum_below f n) ≡ int_below (λ k. pos (f k)) n
pos_below f zero = refl
pos_below f (suc n) = ap (λ (v : ℤ). v +ℤ pos (f n)) (pos_below f n)

-- a cost under a weight is taken apart
cost_split : (weight : Weight) (f g : ℕ → ℕ) (n m : ℕ) → weighted weight (pos (sum_below f n + sum_below g m))
    ≡ int_below (λ t. weighted weight (pos (f t))) n +ℤ int_below (λ l. weighted weight (pos (g l))) m
cost_split Cost f g n m = ap (λ (v : ℤ). v +ℤ pos (sum_below g m)) (pos_below f n) ∙ ap (λ (v : ℤ). int_below (λ k. pos (f k)) n +ℤ v) (pos_below g m)
cost_split NoCost f g n m = sym (none (int_below (λ (t : ℕ). pos 0) n) (int_below (λ (l : ℕ). pos 0) m) (below_none (λ t. pos 0) n (λ t lt. refl)) (below_none (λ l. pos 0) m (λ l lt. refl)))
  where
    none : (a b : ℤ) → a ≡ pos 0 → b ≡ pos 0 → a +ℤ b ≡ pos 0
    none a b e f = omega (arith, ints, e, f)

weightless : (weight : Weight) → weighted weight (pos 0) ≡ pos 0
weightless Cost = refl
weightless NoCost = refl

-- ---- sums of four terms

less : (f : ℕ → ℤ) (g : ℕ → ℤ) (n : ℕ) → int_below (λ t. f t -ℤ g t) n ≡ int_below f n -ℤ int_below g n
less f g n = below_add f (λ t. neg_ℤ (g t)) n ∙ ap (λ (v : ℤ). int_below f n +ℤ v) (below_neg g n)

-- one more, one less, and one less again
more_less_less : (a b c d : ℕ → ℤ) (n : ℕ) → int_below (λ t. a t +ℤ b t -ℤ c t -ℤ d t) n ≡ int_below a n +ℤ int_below b n -ℤ int_below c n -ℤ int_below d n
more_less_less a b c d n =
    less (λ t. a t +ℤ b t -ℤ c t) d n ∙ ap (λ (v : ℤ). v -ℤ int_below d n) (less (λ t. a t +ℤ b t) c n ∙ ap (λ (v : ℤ). v -ℤ int_below c n) (below_add a b n))

less_less : (a b c : ℕ → ℤ) (n : ℕ) → int_below (λ t. a t -ℤ b t -ℤ c t) n ≡ int_below a n -ℤ int_below b n -ℤ int_below c n
less_less a b c n = less (λ t. a t -ℤ b t) c n ∙ ap (λ (v : ℤ). v -ℤ int_below c n) (less a b n)

more_less_more : (a b c d : ℕ → ℤ) (n : ℕ) → int_below (λ t. a t +ℤ b t -ℤ c t +ℤ d t) n ≡ int_below a n +ℤ int_below b n -ℤ int_below c n +ℤ int_below d n
more_less_more a b c d n =
    below_add (λ t. a t +ℤ b t -ℤ c t) d n ∙ ap (λ (v : ℤ). v +ℤ int_below d n) (less (λ t. a t +ℤ b t) c n ∙ ap (λ (v : ℤ). v -ℤ int_below c n) (below_add a b n))

module _ (day : Day) (trip_cost : ℕ → ℕ → ℕ) (entries : List Entry) (weight : Weight) (picks : List ℕ) (links : AreLinks day) (long : length picks ≡ length day.trips) where
  abbrev lists : List (List ℕ)
  lists = picked day picks

  abbrev seconds : ℕ → ℤ
  seconds t = second_price day entries t (pick_of picks t)

  abbrev cost_at : ℕ → ℤ
  cost_at t = weighted weight (pos (trip_cost t (pick_of picks t)))

  abbrev shunting_at : ℕ → ℤ
  shunting_at l = weighted weight (pos (link_cost day l lists))

  abbrev takes_at : ℕ → ℤ
  takes_at = adds_at departing_in leads_to to_named day.links links.departing_once (λ l. takes_by day entries lists)

  abbrev gives_at : ℕ → ℤ
  gives_at = adds_at arriving_in leads_from from_named day.links links.arriving_once (λ l. gives_by day entries lists)

  trips_value : int_below (λ t. trip_value day trip_cost entries weight t (pick_of picks t)) (length day.trips)
      ≡ int_below cost_at (length day.trips) +ℤ int_below (begins day entries lists links) (length day.trips) -ℤ int_below (ends day entries lists links) (length day.trips)
      -ℤ int_below seconds (length day.trips)
  unfolding trip_value
  trips_value =
      below_same (λ t. trip_value day trip_cost entries weight t (pick_of picks t)) (λ t. cost_at t +ℤ begins day entries lists links t -ℤ ends day entries lists links t -ℤ seconds t) (length day.trips)
      (λ t lt. ap (λ (types : List ℕ). cost_at t +ℤ (if is_none (incoming day t) then taking day entries t types else pos 0) -ℤ (if is_none (outgoing day t) then giving day entries t types else pos 0) -ℤ seconds t)
      (sym (list_picked day picks t (omega (arith, lt, long)))))
      ∙ more_less_less cost_at (begins day entries lists links) (ends day entries lists links) seconds (length day.trips)

  link_parts : (l : ℕ) (o : Option Link) → unwrap_or (option_map (value_at_link day entries weight lists l) o) (pos 0)
      ≡ weighted weight (pos (unwrap_or (option_map (λ link. kind_cost day link.kind link.reverse lists) o) 0))
      +ℤ unwrap_or (option_map (takes_by day entries lists) o) (pos 0) -ℤ unwrap_or (option_map (gives_by day entries lists) o) (pos 0)
      +ℤ unwrap_or (option_map (λ link. part_price day entries l (part_of link lists)) o) (pos 0)
  link_parts l (Some link) = refl
  link_parts l None = ap (λ (v : ℤ). v +ℤ pos 0 -ℤ pos 0 +ℤ pos 0) (sym (weightless weight))

  links_value : int_below (link_value day entries weight lists) (length day.links)
      ≡ int_below shunting_at (length day.links) +ℤ int_below takes_at (length day.links) -ℤ int_below gives_at (length day.links) +ℤ int_below (at_link day picks links entries) (length day.links)
  unfolding link_value link_cost
  links_value =
      below_same (link_value day entries weight lists) (λ l. shunting_at l +ℤ takes_at l -ℤ gives_at l +ℤ at_link day picks links entries l) (length day.links)
      (λ l lt. link_parts l (slice_get day.links l))
      ∙ more_less_more shunting_at takes_at gives_at (at_link day picks links entries) (length day.links)

  trips_apart : int_below (at_trips day picks links entries) (length day.trips)
      ≡ (int_below (begins day entries lists links) (length day.trips) +ℤ int_below takes_at (length day.links))
      -ℤ (int_below (ends day entries lists links) (length day.trips) +ℤ int_below gives_at (length day.links)) -ℤ int_below seconds (length day.trips)
  trips_apart =
      less_less (λ t. taking day entries t (taken_with itself day lists t)) (λ t. giving day entries t (given_with itself day lists t)) seconds (length day.trips)
      ∙ ap (λ (v : ℤ). v -ℤ int_below (λ t. giving day entries t (given_with itself day lists t)) (length day.trips) -ℤ int_below seconds (length day.trips)) (all_takes day entries lists links)
      ∙ ap (λ (v : ℤ). (int_below (begins day entries lists links) (length day.trips) +ℤ int_below takes_at (length day.links)) -ℤ v -ℤ int_below seconds (length day.trips)) (all_gives day entries lists links)

  total : weighted weight (pos (sum_below (λ t. trip_cost t (pick_of picks t)) (length day.trips) + sum_below (λ l. link_cost day l lists) (length day.links)))
      +ℤ int_sum (λ entry. entry.value *ℤ slack_of day picks entry.index) entries ≡ regrouped day trip_cost entries weight picks
  unfolding regrouped
  total =
      all (weighted weight (pos (sum_below (λ t. trip_cost t (pick_of picks t)) (length day.trips) + sum_below (λ l. link_cost day l lists) (length day.links))))
      (int_sum (λ entry. entry.value *ℤ slack_of day picks entry.index) entries) (constant_of day entries)
      (int_below cost_at (length day.trips)) (int_below shunting_at (length day.links)) (int_below (at_trips day picks links entries) (length day.trips))
      (int_below (at_link day picks links entries) (length day.links)) (int_below (begins day entries lists links) (length day.trips)) (int_below takes_at (length day.links))
      (int_below (ends day entries lists links) (length day.trips)) (int_below gives_at (length day.links)) (int_below seconds (length day.trips))
      (int_below (λ t. trip_value day trip_cost entries weight t (pick_of picks t)) (length day.trips)) (int_below (link_value day entries weight lists) (length day.links))
      (cost_split weight (λ t. trip_cost t (pick_of picks t)) (λ l. link_cost day l lists) (length day.trips) (length day.links))
      (slacks_total day picks links entries) trips_apart trips_value links_value
    where
      all : (cost slack c w k t p b tk e gv s tv lv : ℤ) → cost ≡ w +ℤ k → slack ≡ c +ℤ t +ℤ p → t ≡ (b +ℤ tk) -ℤ (e +ℤ gv) -ℤ s → tv ≡ w +ℤ b -ℤ e -ℤ s → lv ≡ k +ℤ tk -ℤ gv +ℤ p
          → cost +ℤ slack ≡ c +ℤ tv +ℤ lv
      all cost slack c w k t p b tk e gv s tv lv f g h i j = omega (arith, ints, f, g, h, i, j)

-- priced values are regrouped
pub are_regrouped : AreRegrouped
are_regrouped day trip_cost entries weight picks links long = total day trip_cost entries weight picks links long
