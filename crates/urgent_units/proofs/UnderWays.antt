-- Units under way stay so when two of them exchange what is ahead, and when one takes the leg that leaves first.
use Rattle.std.proofs.Common.{◌≡◌, ◌≢◌, ℕ, suc, ◌+◌, ◌≤◌, ◌<◌, Bool, true, false, List, [], ◌∷◌, ◌++◌, append_assoc, length, map, drop, get_or, slice_set, refl, sym, ap, ◌∙◌, subst, arith, inl, inr, ◌⊎◌, Some}
use Rattle.std.specs.Prelude.{◌==◌, ◌&&◌, nat_le, slice_get}
use Rattle.std.specs.List.{All, count_by}
use Rattle.std.proofs.lemmas.Bool.{cases_eq, cases_lt, eqb-true, eq-eqb, false≢true, leb-true, le-leb}
use Rattle.std.proofs.lemmas.List.{get_or-set_same, get_or-set_other, length-set}
use Rattle.std.proofs.lemmas.List.Elements.{All-nil, All-cons, All-append}
use Rattle.timetable.specs.Accepted.{IsDay, AreLinks, DoMeet, IsStocked}
use Rattle.timetable.specs.Day.{Day, home_of, type_of, types_of, unit_count}
use Rattle.timetable.specs.Running.{Runs}
use Rattle.urgent_units.specs.declared.legs.Leg.{Leg}
use Rattle.urgent_units.specs.declared.swaps.MarkedLeg.{MarkedLeg}
use Rattle.urgent_units.specs.declared.swaps.Rider.{Rider}
use Rattle.urgent_units.specs.declared.swaps.Yards.{Yards}
use Rattle.urgent_units.specs.Exchanges.{RunsExchanged, StandsReady, exchanged_plan, legs_before, legs_from}
use Rattle.urgent_units.specs.Legs.{end_of, legs_of_unit}
use Rattle.urgent_units.specs.UnderWay.{Advances, IsOnItsWay, IsFirstToLeave, IsUnderWay, NoneBefore, added, agrees, brought_from, brought_to, departure_of, leaving_legs, legs_left, may_take, ones, ready_legs, standing}
use Rattle.urgent_units.proofs.Added.{added_at, added_counts, added_none, added_set, added_two, at_first, at_second, at_third, entry, exchanged_added, exchanged_long}
use Rattle.urgent_units.proofs.Crossing.{InTurn}
use Rattle.urgent_units.proofs.Exchanged.{exchanged_plans_run}
use Rattle.urgent_units.proofs.LegsAhead.{ahead_turn, all_back, all_gone, all_later, all_ready_later, before_parts, from_parts, legs_in, next_is}
use Rattle.urgent_units.proofs.UnitTurns.{legs_in_turn}

-- a unit that was read
pub here : (yards : Yards) (k : ℕ) (r d : Rider) → length yards.aheads.items ≡ length yards.riders.items → k < length yards.aheads.items → r ≡ get_or yards.riders.items k r → get_or yards.riders.items k d ≡ r
here yards k r d long within is = entry yards.riders.items k r d (omega (arith, long, within)) is

one_is : (b : Bool) → b ≡ true → ones b ≡ 1
one_is true h = refl
one_is false h = absurd (false≢true h)

none_is : (b : Bool) → b ≡ false → ones b ≡ 0
none_is true h = absurd (false≢true (sym h))
none_is false h = refl

refuted : (b : Bool) → (b ≡ true → ⊥) → b ≡ false
refuted true h = absurd (h refl)
refuted false h = refl

all_three : (a b c : Bool) → (a && (b && c)) ≡ true → (a ≡ true) × (b ≡ true) × (c ≡ true)
all_three true true true h = (refl, refl, refl)
all_three true true false h = absurd (false≢true h)
all_three true false c h = absurd (false≢true h)
all_three false b c h = absurd (false≢true h)

agrees_itself : (b : Bool) → agrees b b ≡ true
agrees_itself true = refl
agrees_itself false = refl

same_of : (a b : Bool) → agrees a b ≡ true → a ≡ b
same_of true true h = refl
same_of true false h = absurd (false≢true h)
same_of false true h = absurd (false≢true h)
same_of false false h = refl

-- the next leg leaves when it is said
departs_next : (legs : List MarkedLeg) (minute : ℕ) → minute ≤ departure_of legs → NoneBefore minute legs
departs_next [] minute le = tt
departs_next (x ∷ legs) minute le = le

none_sooner : (legs : List MarkedLeg) (a b : ℕ) → a ≤ b → NoneBefore b legs → NoneBefore a legs
none_sooner [] a b le none = tt
none_sooner (x ∷ legs) a b le none = omega (arith, le, none)

module _ (day : Day) (is_day : IsDay day) (links : AreLinks day) (meet : DoMeet day) (old : Yards) (way : IsUnderWay day old) (i : ℕ) (marked : MarkedLeg)
    (first : IsFirstToLeave old.aheads.items i) (next : slice_get (get_or old.aheads.items i []) 0 ≡ Some marked) where
  abbrev riders : List Rider
  riders = old.riders.items

  abbrev aheads : List (List MarkedLeg)
  aheads = old.aheads.items

  abbrev rest : List MarkedLeg
  rest = drop 1 (get_or aheads i [])

  abbrev minute : ℕ
  minute = marked.leg.departs

  ahead_is : get_or aheads i [] ≡ marked ∷ rest
  ahead_is = next_is (get_or aheads i []) marked next

  -- without it there is one leg less
  pub fewer_left : added (λ legs. length legs) (slice_set aheads i rest) + 1 ≡ legs_left old
  fewer_left =
      let set = added_set (λ (legs : List MarkedLeg). length legs) aheads i rest [] first.within in
      let is = ap (λ (legs : List MarkedLeg). length legs) ahead_is in
      omega (arith, set, is)

  at_i : i < length riders
  at_i = (let within = first.within in let long = way.long in omega (arith, within, long))

  -- no leg ahead leaves before this one
  none_sooner_than : (k : ℕ) → k < length riders → NoneBefore minute (get_or aheads k [])
  none_sooner_than k below =
      let departs = ap departure_of ahead_is in
      let least = first.first k (let long = way.long in omega (arith, below, long)) in
      departs_next (get_or aheads k []) minute (omega (arith, departs, least))

  turn : (d : Rider) (k : ℕ) (below : k < length riders) → InTurn (home_of day (get_or riders k d).unit) 0 ((way.come d k below).behind ++ legs_in (get_or aheads k []))
  turn d k below =
      subst (InTurn (home_of day (get_or riders k d).unit) 0) (way.come d k below).are (legs_in_turn day is_day links meet old.plan way.runs (get_or riders k d).unit (way.known d k below)).0

  -- the leg leaves from where its unit stands, which is ready for it, and takes time
  pub record Boards (d : Rider) : Type 0 where
    pub station : marked.leg.from ≡ (get_or riders i d).station
    pub ready : (get_or riders i d).ready ≤ minute
    pub takes : marked.leg.departs < marked.leg.ready
    pub later : NoneBefore marked.leg.ready rest

  boards : (d : Rider) → Boards d
  boards d =
      let come = way.come d i at_i in
      let on = ahead_turn come.behind (legs_in (get_or aheads i [])) (home_of day (get_or riders i d).unit) 0 (turn d i at_i) in
      let here : InTurn (end_of (home_of day (get_or riders i d).unit) come.behind) on.since (legs_in (marked ∷ rest)) = subst (λ (legs : List MarkedLeg). InTurn (end_of (home_of day (get_or riders i d).unit) come.behind) on.since (legs_in legs)) ahead_is on.turn in
      record {
        station = here.0 ∙ come.there;
        ready = subst (NoneBefore (get_or riders i d).ready) ahead_is come.on_time;
        takes = here.2;
        later = of_rest rest here.3;
      }
    where
      of_rest : (legs : List MarkedLeg) → InTurn marked.leg.to (marked.leg.ready + 1) (legs_in legs) → NoneBefore marked.leg.ready legs
      of_rest [] turn = tt
      of_rest (x ∷ legs) turn = (let since = turn.1 in omega (arith, since))

  -- ---- a unit that may take the leg

  -- no leg ahead is ready by then
  none_ready : (d : Rider) (b : Bool) (s : ℕ) → ready_legs b s minute aheads ≡ 0
  none_ready d b s = added_none (λ legs. added (λ x. ones (agrees b x.is_brought && ((x.leg.to == s) && nat_le x.leg.ready minute))) legs) aheads []
      (λ k below.
      let in_riders : k < length riders = (let long = way.long in omega (arith, below, long)) in
      let come = way.come d k in_riders in
      let on = ahead_turn come.behind (legs_in (get_or aheads k [])) (home_of day (get_or riders k d).unit) 0 (turn d k in_riders) in
      let later = all_ready_later minute (get_or aheads k []) (end_of (home_of day (get_or riders k d).unit) come.behind) on.since on.turn (none_sooner_than k in_riders) in
      added_none (λ x. ones (agrees b x.is_brought && ((x.leg.to == s) && nat_le x.leg.ready minute))) (get_or aheads k []) marked
      (λ j within. none_is (agrees b (get_or (get_or aheads k []) j marked).is_brought && (((get_or (get_or aheads k []) j marked).leg.to == s) && nat_le (get_or (get_or aheads k []) j marked).leg.ready minute))
      (refuted (agrees b (get_or (get_or aheads k []) j marked).is_brought && (((get_or (get_or aheads k []) j marked).leg.to == s) && nat_le (get_or (get_or aheads k []) j marked).leg.ready minute)) (λ h.
      let all = all_three (agrees b (get_or (get_or aheads k []) j marked).is_brought) ((get_or (get_or aheads k []) j marked).leg.to == s) (nat_le (get_or (get_or aheads k []) j marked).leg.ready minute) h in
      let by = leb-true (get_or (get_or aheads k []) j marked).leg.ready minute all.2 in
      let past = later j marked within in
      absurd (omega (arith, by, past))))))

  pub some_may_take : Rider → 1 ≤ count_by (may_take marked) riders
  some_may_take d =
      let enough = way.enough marked.is_brought marked.leg.from minute in
      let none = none_ready d marked.is_brought marked.leg.from in
      let g : MarkedLeg → ℕ = λ x. ones (agrees marked.is_brought x.is_brought && ((x.leg.from == marked.leg.from) && nat_le x.leg.departs minute)) in
      let here = added_at (λ (legs : List MarkedLeg). added g legs) aheads i [] first.within in
      let is = ap (added g) ahead_is in
      let one = one_is (agrees marked.is_brought marked.is_brought && ((marked.leg.from == marked.leg.from) && nat_le minute minute)) all_true in
      let counts = added_counts (may_take marked) riders in
      omega (arith, enough, none, here, is, one, counts)
    where
      all_true : (agrees marked.is_brought marked.is_brought && ((marked.leg.from == marked.leg.from) && nat_le minute minute)) ≡ true
      all_true =
          ap (λ (x : Bool). x && ((marked.leg.from == marked.leg.from) && nat_le minute minute)) (agrees_itself marked.is_brought)
          ∙ ap (λ (x : Bool). true && (x && nat_le minute minute)) (eq-eqb marked.leg.from marked.leg.from refl)
          ∙ ap (λ (x : Bool). true && (true && x)) (le-leb minute minute (omega arith))

  -- ---- two units exchange what is ahead

  module _ (stocked : IsStocked day) (j : ℕ) (a b : Rider) (at_j : j < length riders) (a_is : (d : Rider) → get_or riders i d ≡ a) (b_is : (d : Rider) → get_or riders j d ≡ b)
      (takes : may_take marked b ≡ true) (other : agrees marked.is_brought a.is_brought ≡ false) where
    may : (agrees marked.is_brought b.is_brought ≡ true) × ((b.station == marked.leg.from) ≡ true) × (nat_le b.ready minute ≡ true)
    may = all_three (agrees marked.is_brought b.is_brought) (b.station == marked.leg.from) (nat_le b.ready minute) takes

    differ : i ≢ j
    differ e =
        let same : a ≡ b = sym (a_is a) ∙ ap (λ (k : ℕ). get_or riders k a) e ∙ b_is a in
        absurd (false≢true (sym other ∙ ap (λ (r : Rider). agrees marked.is_brought r.is_brought) same ∙ may.0))

    pub given_agrees : (d : Rider) → agrees marked.is_brought (get_or (slice_set (slice_set riders i b) j a) i d).is_brought ≡ true
    given_agrees d = ap (λ (r : Rider). agrees marked.is_brought r.is_brought) (at_first riders i j a b differ at_i at_j a_is b_is d) ∙ may.0

    -- at different places stand different units
    units_differ : (d : Rider) (k l : ℕ) → k < length riders → l < length riders → k ≢ l → (get_or riders k d).unit ≢ (get_or riders l d).unit
    units_differ d k l at_k at_l places e =
        let u = (get_or riders l d).unit in
        let two = added_two (λ (r : Rider). ones (r.unit == u)) riders k l d places at_k at_l in
        let one = one_is ((get_or riders k d).unit == u) (eq-eqb (get_or riders k d).unit u e) in
        let one' = one_is (u == u) (eq-eqb u u refl) in
        let few = way.apart u in
        absurd (omega (arith, two, one, one', few))

    come_a : IsOnItsWay day old.plan a (get_or aheads i [])
    come_a = subst (λ (r : Rider). IsOnItsWay day old.plan r (get_or aheads i [])) (a_is a) (way.come a i at_i)

    come_b : IsOnItsWay day old.plan b (get_or aheads j [])
    come_b = subst (λ (r : Rider). IsOnItsWay day old.plan r (get_or aheads j [])) (b_is b) (way.come b j at_j)

    known_a : a.unit < unit_count day
    known_a = subst (λ (r : Rider). r.unit < unit_count day) (a_is a) (way.known a i at_i)

    known_b : b.unit < unit_count day
    known_b = subst (λ (r : Rider). r.unit < unit_count day) (b_is b) (way.known b j at_j)

    at_a : Boards a
    at_a = boards a

    a_station : a.station ≡ marked.leg.from
    a_station = sym (ap (λ (r : Rider). r.station) (a_is a)) ∙ sym at_a.station

    a_ready : a.ready ≤ minute
    a_ready = subst (λ (r : Rider). r.ready ≤ minute) (a_is a) at_a.ready

    b_ready : b.ready ≤ minute
    b_ready = leb-true b.ready minute may.2

    -- each of them stands ready in the yard
    record Ready (r : Rider) (behind ahead : List Leg) : Type 0 where
      stands : StandsReady day old.plan r.unit marked.leg.from minute
      before : legs_before minute (legs_of_unit day old.plan r.unit) ≡ behind
      from : legs_from minute (legs_of_unit day old.plan r.unit) ≡ ahead

    ready_at_yard : (r : Rider) (legs : List MarkedLeg) (come : IsOnItsWay day old.plan r legs) → r.unit < unit_count day → r.station ≡ marked.leg.from → r.ready ≤ minute → NoneBefore minute legs → Ready r come.behind (legs_in legs)
    ready_at_yard r legs come known station ready none =
        let line : InTurn (home_of day r.unit) 0 (come.behind ++ legs_in legs) = subst (InTurn (home_of day r.unit) 0) come.are (legs_in_turn day is_day links meet old.plan way.runs r.unit known).0 in
        let on = ahead_turn come.behind (legs_in legs) (home_of day r.unit) 0 line in
        let back : All (λ leg. leg.ready ≤ minute) come.behind = λ k d below. (let here = come.ready k d below in omega (arith, here, ready)) in
        let gone = all_gone minute come.behind (legs_in legs) (home_of day r.unit) 0 line back in
        let later = all_later minute legs (end_of (home_of day r.unit) come.behind) on.since on.turn none in
        let before = ap (legs_before minute) come.are ∙ before_parts minute come.behind (legs_in legs) gone later in
        record {
          stands = record {
            ready = subst (All (λ leg. leg.departs < minute → leg.ready ≤ minute)) (sym come.are) (all_back minute come.behind (legs_in legs) back later);
            there = ap (end_of (home_of day r.unit)) before ∙ come.there ∙ station;
          };
          before = before;
          from = ap (legs_from minute) come.are ∙ from_parts minute come.behind (legs_in legs) gone later;
        }

    ready_a : Ready a come_a.behind (legs_in (get_or aheads i []))
    ready_a = ready_at_yard a (get_or aheads i []) come_a known_a a_station a_ready (none_sooner_than i at_i)

    ready_b : Ready b come_b.behind (legs_in (get_or aheads j []))
    ready_b = ready_at_yard b (get_or aheads j []) come_b known_b (eqb-true b.station marked.leg.from may.1) b_ready (none_sooner_than j at_j)

    law : RunsExchanged day old.plan a.unit b.unit minute
    law = exchanged_plans_run day old.plan a.unit b.unit marked.leg.from minute is_day links stocked way.runs known_a known_b
        (λ e. units_differ a i j at_i at_j differ (ap (λ (r : Rider). r.unit) (a_is a) ∙ e ∙ sym (ap (λ (r : Rider). r.unit) (b_is a))))
        (sym (ap (λ (r : Rider). type_of day r.unit) (a_is a)) ∙ way.one_type a i at_i ∙ sym (way.one_type a j at_j) ∙ ap (λ (r : Rider). type_of day r.unit) (b_is a))
        ready_a.stands ready_b.stands

    module _ (new : Yards) (plan_is : new.plan ≡ exchanged_plan day a.unit b.unit minute old.plan) (riders_are : new.riders.items ≡ slice_set (slice_set riders i b) j a) (aheads_are : new.aheads.items ≡ aheads) where
      sums : (f : Rider → ℕ) → added f new.riders.items ≡ added f riders
      sums f = ap (added f) riders_are ∙ exchanged_added riders i j a b differ at_i at_j a_is b_is f

      long : length new.riders.items ≡ length riders
      long = ap (λ (rs : List Rider). length rs) riders_are ∙ exchanged_long riders i j a b differ at_i at_j a_is b_is

      -- where each of the units stands now
      place : (d : Rider) (k : ℕ) → k < length riders → ((k ≡ i) × (get_or new.riders.items k d ≡ b)) ⊎ (((k ≡ j) × (get_or new.riders.items k d ≡ a)) ⊎ ((k ≢ i) × (k ≢ j) × (get_or new.riders.items k d ≡ get_or riders k d)))
      place d k below = elim (cases_eq k i) [
        | inl same ↦ inl ((same, ap (λ (rs : List Rider). get_or rs k d) riders_are ∙ ap (λ (n : ℕ). get_or (slice_set (slice_set riders i b) j a) n d) same ∙ at_first riders i j a b differ at_i at_j a_is b_is d))
        | inr not_i ↦ elim (cases_eq k j) [
          | inl same ↦ inr (inl ((same, ap (λ (rs : List Rider). get_or rs k d) riders_are ∙ ap (λ (n : ℕ). get_or (slice_set (slice_set riders i b) j a) n d) same ∙ at_second riders i j a b differ at_i at_j a_is b_is d)))
          | inr not_j ↦ inr (inr ((not_i, not_j, ap (λ (rs : List Rider). get_or rs k d) riders_are ∙ at_third riders i j a b differ at_i at_j a_is b_is d k not_i not_j)))
        ]
      ]

      -- what holds of all units holds of them
      each : (P : Rider → Type 0) → ((d : Rider) (k : ℕ) → k < length riders → P (get_or riders k d)) → (d : Rider) (k : ℕ) → k < length new.riders.items → P (get_or new.riders.items k d)
      each P all d k below = elim (place d k (omega (arith, below, long))) [
        | inl at ↦ subst P (b_is d ∙ sym at.1) (all d j at_j)
        | inr others ↦ elim others [
          | inl at ↦ subst P (a_is d ∙ sym at.1) (all d i at_i)
          | inr at ↦ subst P (sym at.2) (all d k (omega (arith, below, long)))
        ]
      ]

      ahead_of : (k : ℕ) → get_or new.aheads.items k [] ≡ get_or aheads k []
      ahead_of k = ap (λ (all : List (List MarkedLeg)). get_or all k []) aheads_are

      come : (d : Rider) (k : ℕ) → k < length new.riders.items → IsOnItsWay day new.plan (get_or new.riders.items k d) (get_or new.aheads.items k [])
      come d k below = subst (λ (legs : List MarkedLeg). IsOnItsWay day new.plan (get_or new.riders.items k d) legs) (sym (ahead_of k))
          (subst (λ (p : List (List ℕ)). IsOnItsWay day p (get_or new.riders.items k d) (get_or aheads k [])) (sym plan_is) (elim (place d k (omega (arith, below, long))) [
            | inl at ↦ subst (λ (r : Rider). IsOnItsWay day changed r (get_or aheads k [])) (sym at.1) (subst (λ (n : ℕ). IsOnItsWay day changed b (get_or aheads n [])) (sym at.0) of_b)
            | inr others ↦ elim others [
              | inl at ↦ subst (λ (r : Rider). IsOnItsWay day changed r (get_or aheads k [])) (sym at.1) (subst (λ (n : ℕ). IsOnItsWay day changed a (get_or aheads n [])) (sym at.0) of_a)
              | inr at ↦ subst (λ (r : Rider). IsOnItsWay day changed r (get_or aheads k [])) (sym at.2) (of_third d k (omega (arith, below, long)) at.0 at.1)
            ]
          ]))
        where
          changed : List (List ℕ)
          changed = exchanged_plan day a.unit b.unit minute old.plan

          of_b : IsOnItsWay day (exchanged_plan day a.unit b.unit minute old.plan) b (get_or aheads i [])
          of_b = record {
            behind = come_b.behind;
            are = law.second ∙ ap (λ (legs : List Leg). legs ++ legs_from minute (legs_of_unit day old.plan a.unit)) ready_b.before ∙ ap (λ (legs : List Leg). come_b.behind ++ legs) ready_a.from;
            there = come_b.there;
            ready = come_b.ready;
            on_time = none_sooner (get_or aheads i []) b.ready minute b_ready (none_sooner_than i at_i);
          }

          of_a : IsOnItsWay day (exchanged_plan day a.unit b.unit minute old.plan) a (get_or aheads j [])
          of_a = record {
            behind = come_a.behind;
            are = law.first ∙ ap (λ (legs : List Leg). legs ++ legs_from minute (legs_of_unit day old.plan b.unit)) ready_a.before ∙ ap (λ (legs : List Leg). come_a.behind ++ legs) ready_b.from;
            there = come_a.there;
            ready = come_a.ready;
            on_time = none_sooner (get_or aheads j []) a.ready minute a_ready (none_sooner_than j at_j);
          }

          of_third : (d : Rider) (k : ℕ) → k < length riders → k ≢ i → k ≢ j → IsOnItsWay day (exchanged_plan day a.unit b.unit minute old.plan) (get_or riders k d) (get_or aheads k [])
          of_third d k below not_i not_j =
              let its = way.come d k below in
              record {
                behind = its.behind;
                are = law.others (get_or riders k d).unit
                    (λ e. units_differ d k i below at_i not_i (e ∙ sym (ap (λ (r : Rider). r.unit) (a_is d))))
                    (λ e. units_differ d k j below at_j not_j (e ∙ sym (ap (λ (r : Rider). r.unit) (b_is d)))) ∙ its.are;
                there = its.there;
                ready = its.ready;
                on_time = its.on_time;
              }

      pub given_way : IsUnderWay day new
      given_way = record {
        runs = subst (Runs day) (sym plan_is) law.naming.runs;
        long = ap (λ (all : List (List MarkedLeg)). length all) aheads_are ∙ way.long ∙ sym long;
        known = each (λ r. r.unit < unit_count day) way.known;
        unit_type = way.unit_type;
        one_type = each (λ r. type_of day r.unit ≡ way.unit_type) way.one_type;
        apart = λ u. (let same = sums (λ r. ones (r.unit == u)) in let few = way.apart u in omega (arith, same, few));
        come = come;
        enough = λ w s m.
            let stands = sums (λ r. ones (agrees w r.is_brought && ((r.station == s) && nat_le r.ready m))) in
            let leave = ap (leaving_legs w s m) aheads_are in
            let ready = ap (ready_legs w s m) aheads_are in
            let enough = way.enough w s m in
            omega (arith, stands, leave, ready, enough);
      }

      pub given_advances : Advances day old new
      given_advances = record {
        types = ap (map (types_of day)) plan_is ∙ law.naming.types;
        carried = λ u. sums (λ r. ones (r.is_brought && (r.unit == u)));
        stations = λ s.
            let at = sums (λ r. ones (r.is_brought && (r.station == s))) in
            let to = ap (brought_to s) aheads_are in
            let from = ap (brought_from s) aheads_are in
            omega (arith, at, to, from);
      }

  -- ---- a unit takes the leg

  module _ (a : Rider) (a_is : (d : Rider) → get_or riders i d ≡ a) (for_it : agrees marked.is_brought a.is_brought ≡ true) (new : Yards) (plan_is : new.plan ≡ old.plan)
      (riders_are : new.riders.items ≡ slice_set riders i (record a { station = marked.leg.to; ready = marked.leg.ready })) (aheads_are : new.aheads.items ≡ slice_set aheads i rest) where
    abbrev gone : Rider
    gone = record a { station = marked.leg.to; ready = marked.leg.ready }

    same : marked.is_brought ≡ a.is_brought
    same = same_of marked.is_brought a.is_brought for_it

    come_here : IsOnItsWay day old.plan a (get_or aheads i [])
    come_here = subst (λ (r : Rider). IsOnItsWay day old.plan r (get_or aheads i [])) (a_is a) (way.come a i at_i)

    it_boards : Boards a
    it_boards = boards a

    from_here : marked.leg.from ≡ a.station
    from_here = it_boards.station ∙ ap (λ (r : Rider). r.station) (a_is a)

    ready_here : a.ready ≤ minute
    ready_here = subst (λ (r : Rider). r.ready ≤ minute) (a_is a) it_boards.ready

    rider_sums : (f : Rider → ℕ) → added f new.riders.items + f a ≡ added f riders + f gone
    rider_sums f =
        let set = added_set f riders i gone a at_i in
        let is = ap f (a_is a) in
        let all = ap (added f) riders_are in
        omega (arith, set, is, all)

    leg_sums : (g : MarkedLeg → ℕ) → added (λ legs. added g legs) new.aheads.items + g marked ≡ added (λ legs. added g legs) aheads
    leg_sums g =
        let set = added_set (λ (legs : List MarkedLeg). added g legs) aheads i rest [] first.within in
        let is = ap (added g) ahead_is in
        let all = ap (λ (legs : List (List MarkedLeg)). added (λ legs. added g legs) legs) aheads_are in
        omega (arith, set, is, all)

    ridden_long : length new.riders.items ≡ length riders
    ridden_long = ap (λ (rs : List Rider). length rs) riders_are ∙ length-set riders i gone

    ridden_place : (d : Rider) (k : ℕ) → ((k ≡ i) × (get_or new.riders.items k d ≡ gone) × (get_or new.aheads.items k [] ≡ rest)) ⊎ ((k ≢ i) × (get_or new.riders.items k d ≡ get_or riders k d) × (get_or new.aheads.items k [] ≡ get_or aheads k []))
    ridden_place d k = elim (cases_eq k i) [
      | inl at ↦ inl ((
        at,
        ap (λ (rs : List Rider). get_or rs k d) riders_are ∙ ap (λ (n : ℕ). get_or (slice_set riders i gone) n d) at ∙ get_or-set_same riders i gone d at_i,
        ap (λ (all : List (List MarkedLeg)). get_or all k []) aheads_are ∙ ap (λ (n : ℕ). get_or (slice_set aheads i rest) n []) at ∙ get_or-set_same aheads i rest [] first.within,
      ))
      | inr other ↦ inr ((
        other,
        ap (λ (rs : List Rider). get_or rs k d) riders_are ∙ get_or-set_other riders i k gone d other,
        ap (λ (all : List (List MarkedLeg)). get_or all k []) aheads_are ∙ get_or-set_other aheads i k rest [] other,
      ))
    ]

    ridden_each : (P : ℕ → Type 0) → ((d : Rider) (k : ℕ) → k < length riders → P (get_or riders k d).unit) → (d : Rider) (k : ℕ) → k < length new.riders.items → P (get_or new.riders.items k d).unit
    ridden_each P all d k below = elim (ridden_place d k) [
      | inl at ↦ subst (λ (r : Rider). P r.unit) (sym at.1) (subst (λ (r : Rider). P r.unit) (a_is d) (all d i at_i))
      | inr at ↦ subst (λ (r : Rider). P r.unit) (sym at.1) (all d k (omega (arith, below, ridden_long)))
    ]

    come_on : IsOnItsWay day old.plan gone rest
    come_on = record {
      behind = come_here.behind ++ marked.leg ∷ [];
      are = come_here.are ∙ ap (λ (legs : List MarkedLeg). come_here.behind ++ legs_in legs) ahead_is ∙ sym (append_assoc come_here.behind (marked.leg ∷ []) (legs_in rest));
      there = end_more come_here.behind (home_of day a.unit);
      ready = All-append (λ (leg : Leg). leg.ready ≤ marked.leg.ready) come_here.behind (marked.leg ∷ [])
          (λ k d below. (let back = come_here.ready k d below in let takes = it_boards.takes in omega (arith, back, takes, ready_here)))
          (All-cons (λ (leg : Leg). leg.ready ≤ marked.leg.ready) marked.leg [] (omega arith) (All-nil (λ (leg : Leg). leg.ready ≤ marked.leg.ready)));
      on_time = it_boards.later;
    }
      where
        end_more : (behind : List Leg) (at : ℕ) → end_of at (behind ++ marked.leg ∷ []) ≡ marked.leg.to
        end_more [] at = refl
        end_more (leg ∷ behind) at = end_more behind leg.to

    ridden_come : (d : Rider) (k : ℕ) → k < length new.riders.items → IsOnItsWay day new.plan (get_or new.riders.items k d) (get_or new.aheads.items k [])
    ridden_come d k below = subst (λ (p : List (List ℕ)). IsOnItsWay day p (get_or new.riders.items k d) (get_or new.aheads.items k [])) (sym plan_is) (elim (ridden_place d k) [
      | inl at ↦ subst (λ (r : Rider). IsOnItsWay day old.plan r (get_or new.aheads.items k [])) (sym at.1) (subst (IsOnItsWay day old.plan gone) (sym at.2) come_on)
      | inr at ↦ subst (λ (r : Rider). IsOnItsWay day old.plan r (get_or new.aheads.items k [])) (sym at.1) (subst (IsOnItsWay day old.plan (get_or riders k d)) (sym at.2) (way.come d k (omega (arith, below, ridden_long))))
    ])

    -- before the minute no leg ahead leaves
    none_leave : (w : Bool) (s m : ℕ) → m < minute → leaving_legs w s m aheads ≡ 0
    none_leave w s m early = added_none (λ legs. added (λ x. ones (agrees w x.is_brought && ((x.leg.from == s) && nat_le x.leg.departs m))) legs) aheads []
        (λ k below.
        let in_riders : k < length riders = (let l = way.long in omega (arith, below, l)) in
        let its = way.come a k in_riders in
        let on = ahead_turn its.behind (legs_in (get_or aheads k [])) (home_of day (get_or riders k a).unit) 0 (turn a k in_riders) in
        let later = all_later minute (get_or aheads k []) (end_of (home_of day (get_or riders k a).unit) its.behind) on.since on.turn (none_sooner_than k in_riders) in
        of_legs (get_or aheads k []) later)
      where
        of_legs : (legs : List MarkedLeg) → All (λ leg. minute ≤ leg.departs) (legs_in legs) → added (λ x. ones (agrees w x.is_brought && ((x.leg.from == s) && nat_le x.leg.departs m))) legs ≡ 0
        of_legs [] later = refl
        of_legs (x ∷ legs) later =
            let rest_none = of_legs legs (λ k d below. later (suc k) d (omega (arith, below))) in
            let here = later 0 x.leg (omega arith) in
            let none = none_is (agrees w x.is_brought && ((x.leg.from == s) && nat_le x.leg.departs m)) (refuted (agrees w x.is_brought && ((x.leg.from == s) && nat_le x.leg.departs m)) (λ h.
            let all = all_three (agrees w x.is_brought) (x.leg.from == s) (nat_le x.leg.departs m) h in
            let by = leb-true x.leg.departs m all.2 in
            absurd (omega (arith, by, here, early)))) in
            omega (arith, rest_none, none)

    enough_on : (w : Bool) (s m : ℕ) → leaving_legs w s m new.aheads.items ≤ standing w s m new.riders.items + ready_legs w s m new.aheads.items
    enough_on w s m =
        let enough = way.enough w s m in
        let stands = rider_sums (λ r. ones (agrees w r.is_brought && ((r.station == s) && nat_le r.ready m))) in
        let leave = leg_sums (λ x. ones (agrees w x.is_brought && ((x.leg.from == s) && nat_le x.leg.departs m))) in
        let ready = leg_sums (λ x. ones (agrees w x.is_brought && ((x.leg.to == s) && nat_le x.leg.ready m))) in
        let arrives : ones (agrees w a.is_brought && ((marked.leg.to == s) && nat_le marked.leg.ready m)) ≡ ones (agrees w marked.is_brought && ((marked.leg.to == s) && nat_le marked.leg.ready m)) =
        ap (λ (x : Bool). ones (agrees w x && ((marked.leg.to == s) && nat_le marked.leg.ready m))) (sym same) in
        elim (cases_lt m minute) [
          | inl early ↦ (let none = none_leave w s m early in omega (arith, leave, none))
          | inr late ↦
              let boards_it : ones (agrees w a.is_brought && ((a.station == s) && nat_le a.ready m)) ≡ ones (agrees w marked.is_brought && ((marked.leg.from == s) && nat_le marked.leg.departs m)) =
              ap (λ (x : Bool). ones (agrees w x && ((a.station == s) && nat_le a.ready m))) (sym same)
              ∙ ap (λ (t : ℕ). ones (agrees w marked.is_brought && ((t == s) && nat_le a.ready m))) (sym from_here)
              ∙ ap (λ (x : Bool). ones (agrees w marked.is_brought && ((marked.leg.from == s) && x))) (le-leb a.ready m (omega (arith, late, ready_here)) ∙ sym (le-leb minute m late)) in
              omega (arith, enough, stands, leave, ready, arrives, boards_it)
        ]

    pub ridden_way : IsUnderWay day new
    ridden_way = record {
      runs = subst (Runs day) (sym plan_is) way.runs;
      long = ap (λ (all : List (List MarkedLeg)). length all) aheads_are ∙ length-set aheads i rest ∙ way.long ∙ sym ridden_long;
      known = ridden_each (λ u. u < unit_count day) way.known;
      unit_type = way.unit_type;
      one_type = ridden_each (λ u. type_of day u ≡ way.unit_type) way.one_type;
      apart = λ u. (let sum = rider_sums (λ r. ones (r.unit == u)) in let few = way.apart u in omega (arith, sum, few));
      come = ridden_come;
      enough = enough_on;
    }

    pub ridden_advances : Advances day old new
    ridden_advances = record {
      types = ap (map (types_of day)) plan_is;
      carried = λ u. (let sum = rider_sums (λ r. ones (r.is_brought && (r.unit == u))) in omega (arith, sum));
      stations = λ s.
          let at = rider_sums (λ r. ones (r.is_brought && (r.station == s))) in
          let to = leg_sums (λ x. ones (x.is_brought && (x.leg.to == s))) in
          let from = leg_sums (λ x. ones (x.is_brought && (x.leg.from == s))) in
          let here : ones (a.is_brought && (a.station == s)) ≡ ones (marked.is_brought && (marked.leg.from == s)) =
          ap (λ (x : Bool). ones (x && (a.station == s))) (sym same) ∙ ap (λ (t : ℕ). ones (marked.is_brought && (t == s))) (sym from_here) in
          let there : ones (a.is_brought && (marked.leg.to == s)) ≡ ones (marked.is_brought && (marked.leg.to == s)) = ap (λ (x : Bool). ones (x && (marked.leg.to == s))) (sym same) in
          omega (arith, at, to, from, here, there);
    }
