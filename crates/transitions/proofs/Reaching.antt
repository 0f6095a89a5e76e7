-- Each edge of a link is between compositions that the catalogue's units lead to.
use Rattle.std.proofs.Common.{◌≡◌, ℕ, ◌-◌, ◌<◌, ◌≤◌, Bool, true, List, ◌++◌, length, take, drop, inl, inr, refl, sym}
use Rattle.std.proofs.Common.{ap, subst, ◌∙◌, arith, length-append}
use Rattle.std.specs.Prelude.{◌⊎◌, nat_le, ◌&&◌, ◌||◌, ◌==◌}
use Rattle.std.proofs.lemmas.Bool.{and_parts, or_cases, eqb-true, leb-true, cases_lt}
use Rattle.std.proofs.lemmas.List.{take-append-drop}
use Rattle.std.proofs.lemmas.Slice.Eq.{bytes_eq-Decides}
use Rattle.std.proofs.Math.Seq.{take-length, take-append_seam}
use Rattle.rules.specs.declared.records.UnitType.{UnitType}
use Rattle.compositions.specs.Composition.{fits_in}
use Rattle.rail_base.specs.declared.limits.TheConstants.{MAX_EXCHANGED}
use Rattle.rules.specs.declared.records.End.{End}
use Rattle.rules.specs.declared.records.End.TheVariants as at
use Rattle.rules.specs.declared.records.LinkKind.{LinkKind}
use Rattle.rules.specs.declared.records.LinkKind.TheVariants.{Turn, Join, Split}
use Rattle.timetable.specs.Admissible.{longest_of, is_admissible}
use Rattle.timetable.specs.Chains.{leads_from, leads_to}
use Rattle.timetable.specs.Compositions.{composition_at}
use Rattle.timetable.specs.Day.{Day}
use Rattle.timetable.specs.Links.{turned, join_holds, split_holds}
use Rattle.timetable.specs.Turns.{staying, beyond, may_shunt}
use Rattle.transitions.specs.declared.edge.Edge.{Edge}
use Rattle.transitions.specs.declared.pairs.Pair.{Pair}
use Rattle.transitions.specs.Edges.{IsAdmittedComp, IsKindEdge}
use Rattle.transitions.specs.Pairs.{uncoupled_at, joined_at, AreAmongFirst, IsFront, IsLeft, IsExchanged, IsMade}
use Rattle.transitions.proofs.Kept.{turned_twice, length-turned}
use Rattle.transitions.proofs.Listed.{NumberOf, number_of}
use Rattle.transitions.proofs.Numbers.{some_unit}
use Rattle.transitions.proofs.PartsFit.{left_fits, right_fits}
use Rattle.transitions.proofs.Shunting.{StayOfBoth, turns, beyond_long}

-- the pairs that are looked for: of a composition that may depart, and of one that may arrive
abbrev pub IsMadeOn : Day → LinkKind → Bool → ℕ → Pair → Type 0
IsMadeOn day kind r few pair = IsAdmittedComp day (leads_to kind) pair.to × IsMade day kind r few pair

abbrev pub IsLeftOn : Day → LinkKind → Bool → Pair → Type 0
IsLeftOn day kind r pair = IsAdmittedComp day (leads_from kind) pair.from × IsLeft day r (uncoupled_at kind) (length (composition_at day pair.from)) pair

-- all units of a list
stay_all : (end : End) (ms : List ℕ) → staying end ms (length ms) ≡ ms
stay_all at.None ms = refl
stay_all at.Rear ms = take-length ms
stay_all at.Front ms = let none : length ms - length ms ≡ 0 = omega arith in ap (λ (n : ℕ). drop n ms) none

-- what stays of a list
record IsPart (end : End) (whole part : List ℕ) : Type 0 where
  some : 1 ≤ length part
  within : length part ≤ length whole
  is : staying end whole (length part) ≡ part

-- a turn with something on both sides is an exchange of few units
few_of : (exchange : Bool) (off on : ℕ) → 1 ≤ off → 1 ≤ on → may_shunt exchange off on ≡ true → (exchange ≡ true) × (off ≤ MAX_EXCHANGED) × (on ≤ MAX_EXCHANGED)
few_of exchange off on some some' may = elim (or_cases (off == 0 || on == 0) (exchange && nat_le off MAX_EXCHANGED && nat_le on MAX_EXCHANGED) may) [
  | inl none ↦ elim (or_cases (off == 0) (on == 0) none) [
    | inl e ↦ let zero : off ≡ 0 = eqb-true off 0 e in absurd (omega (arith, zero))
    | inr e ↦ let zero : on ≡ 0 = eqb-true on 0 e in absurd (omega (arith, zero))
  ]
  | inr few ↦
      let outer = and_parts (exchange && nat_le off MAX_EXCHANGED) (nat_le on MAX_EXCHANGED) few in
      let inner = and_parts exchange (nat_le off MAX_EXCHANGED) outer.0 in
      (inner.0, leb-true off MAX_EXCHANGED inner.1, leb-true on MAX_EXCHANGED outer.1)
]

-- what stays and what goes are the whole
rejoined : (end : End) (whole : List ℕ) (n : ℕ) → joined_at end (staying end whole n) (beyond end whole n) ≡ whole
rejoined at.None whole n = refl
rejoined at.Rear whole n = take-append-drop n whole
rejoined at.Front whole n = take-append-drop (length whole - n) whole

-- what goes fits where the whole does
beyond_fits : (types : List UnitType) (longest : ℕ) (r : Bool) (end : End) (whole : List ℕ) (n : ℕ) → fits_in types longest whole ≡ true
    → 1 ≤ length (beyond end (turned r whole) n) → fits_in types longest (beyond end (turned r whole) n) ≡ true
beyond_fits types longest r at.None whole n fits some = absurd (omega arith)
beyond_fits types longest r at.Rear whole n fits some =
    right_fits types longest r whole (take n (turned r whole)) (drop n (turned r whole)) fits (sym (take-append-drop n (turned r whole))) some
beyond_fits types longest r at.Front whole n fits some =
    left_fits types longest r whole (take (length (turned r whole) - n) (turned r whole)) (drop (length (turned r whole) - n) (turned r whole)) fits
    (sym (take-append-drop (length (turned r whole) - n) (turned r whole))) some

-- and so it is a composition that may run there
beyond_runs : (day : Day) (t : ℕ) (r : Bool) (end : End) (comp n : ℕ) → IsAdmittedComp day t comp → 1 ≤ length (beyond end (turned r (composition_at day comp)) n)
    → NumberOf day t (beyond end (turned r (composition_at day comp)) n)
unfolding is_admissible
beyond_runs day t r end comp n runs some =
    number_of day t (beyond end (turned r (composition_at day comp)) n) (beyond_fits day.types (longest_of day t) r end (composition_at day comp) n runs.admissible some)

module _ (day : Day) (r : Bool) (from to : ℕ) where
  abbrev The : Pair
  The = record { from = from; to = to }

  -- an arriving composition that is a part of the departing one
  front_from : (end : End) → IsPart end (composition_at day to) (turned r (composition_at day from)) → IsFront day r end (length (composition_at day to)) The
  front_from end part = record {
    units = length (turned r (composition_at day from));
    some = part.some;
    within = part.within;
    is = sym (turned_twice r (composition_at day from)) ∙ ap (turned r) (sym part.is);
  }

  left_from : (end : End) → IsPart end (turned r (composition_at day from)) (composition_at day to) → IsLeft day r end (length (composition_at day from)) The
  left_from end part = record {
    units = length (composition_at day to);
    some = part.some;
    within = omega (arith, part.within, length-turned r (composition_at day from));
    is = sym part.is;
  }

  -- so many units stay of both compositions
  module _ (few : ℕ) (first : AreAmongFirst day few) (uncouple couple : End) (exchange : Bool) (a b : ℕ) (arriving : IsAdmittedComp day a from) (departing : IsAdmittedComp day b to)
      (n : ℕ) (stay : StayOfBoth uncouple couple (turned r (composition_at day from)) (composition_at day to) n) where
    -- all of the arriving composition
    turn_front : length (turned r (composition_at day from)) ≡ n → IsFront day r couple (length (composition_at day to)) The
    turn_front all = record {
      units = n;
      some = stay.some;
      within = stay.of_departing;
      is = sym (turned_twice r (composition_at day from))
          ∙ ap (turned r) (sym (stay_all uncouple (turned r (composition_at day from))) ∙ ap (staying uncouple (turned r (composition_at day from))) all ∙ stay.one);
    }

    -- all of the departing composition
    turn_left : length (composition_at day to) ≡ n → IsLeft day r uncouple (length (composition_at day from)) The
    turn_left all = record {
      units = n;
      some = stay.some;
      within = omega (arith, stay.of_arriving, length-turned r (composition_at day from));
      is = sym (stay_all couple (composition_at day to)) ∙ ap (staying couple (composition_at day to)) all ∙ sym stay.one;
    }

    -- not all of either
    turn_exchanged : n < length (turned r (composition_at day from)) → n < length (composition_at day to)
        → length (turned r (composition_at day from)) - n ≤ MAX_EXCHANGED → length (composition_at day to) - n ≤ MAX_EXCHANGED
        → IsExchanged day r uncouple couple few MAX_EXCHANGED The
    turn_exchanged off on few_off few_on =
        let long = beyond_long uncouple (turned r (composition_at day from)) n stay.of_arriving stay.arriving_long in
        let part = beyond_runs day a r uncouple from n arriving (omega (arith, long, off)) in
        let short = ap length part.is in
        let rest : length (composition_at day to) - (length (composition_at day to) - n) ≡ n = omega (arith, on) in
        let some = stay.some in
        record {
          coupled = length (composition_at day to) - n;
          some = omega (arith, on);
          within = few_on;
          less = omega (arith, on, some);
          joined = record {
            part = part.comp;
            below = first.all part.comp part.runs.listed (omega (arith, short, long, few_off));
            is = sym (turned_twice r (composition_at day from))
                ∙ ap (turned r)
                (sym (rejoined uncouple (turned r (composition_at day from)) n)
                ∙ ap (λ (ms : List ℕ). joined_at uncouple ms (beyond uncouple (turned r (composition_at day from)) n)) (stay.one ∙ ap (staying couple (composition_at day to)) (sym rest))
                ∙ ap (joined_at uncouple (staying couple (composition_at day to) (length (composition_at day to) - (length (composition_at day to) - n)))) (sym part.is));
          };
        }

    turn_reaches : may_shunt exchange (length (turned r (composition_at day from)) - n) (length (composition_at day to) - n) ≡ true
        → IsMadeOn day (Turn a b uncouple couple exchange) r few The ⊎ IsLeftOn day (Turn a b uncouple couple exchange) r The
    turn_reaches may = elim (cases_lt n (length (turned r (composition_at day from)))) [
      | inr all ↦ inl (departing, inl (turn_front (omega (arith, all, stay.of_arriving))))
      | inl off ↦
          elim (cases_lt n (length (composition_at day to))) [
            | inr all ↦ inr (arriving, turn_left (omega (arith, all, stay.of_departing)))
            | inl on ↦
                let is = few_of exchange (length (turned r (composition_at day from)) - n) (length (composition_at day to) - n) (omega (arith, off)) (omega (arith, on)) may in
                inl (departing, inr (is.0, turn_exchanged off on is.1 is.2))
          ]
    ]

-- a front and what is behind it
front_part : (front behind whole : List ℕ) → 1 ≤ length front → front ++ behind ≡ whole → IsPart at.Rear whole front
front_part front behind whole some is =
    subst (λ (ms : List ℕ). IsPart at.Rear ms front) is
    (record { some = some; within = omega (arith, length-append front behind); is = take-append_seam front behind })

joined : (day : Day) (r : Bool) (from to part t : ℕ) → IsAdmittedComp day t from → join_holds (turned r (composition_at day from)) (turned r (composition_at day part)) (composition_at day to) ≡ true
    → IsPart at.Rear (composition_at day to) (turned r (composition_at day from))
unfolding join_holds
joined day r from to part t runs rule =
    front_part (turned r (composition_at day from)) (turned r (composition_at day part)) (composition_at day to)
    (omega (arith, some_unit day t from runs, length-turned r (composition_at day from)))
    ((bytes_eq-Decides (turned r (composition_at day from) ++ turned r (composition_at day part)) (composition_at day to)).0 rule)

parted : (day : Day) (r : Bool) (from to part t : ℕ) → IsAdmittedComp day t to → split_holds (turned r (composition_at day from)) (composition_at day to) (composition_at day part) ≡ true
    → IsPart at.Rear (turned r (composition_at day from)) (composition_at day to)
unfolding split_holds
parted day r from to part t runs rule =
    front_part (composition_at day to) (composition_at day part) (turned r (composition_at day from)) (some_unit day t to runs)
    (sym ((bytes_eq-Decides (turned r (composition_at day from)) (composition_at day to ++ composition_at day part)).0 (and_parts _ _ (and_parts _ _ rule).0).0))

pub reaches : (day : Day) (kind : LinkKind) (r : Bool) (few : ℕ) → AreAmongFirst day few → (edge : Edge) → IsKindEdge day kind r edge
    → IsMadeOn day kind r few (record { from = edge.from; to = edge.to }) ⊎ IsLeftOn day kind r (record { from = edge.from; to = edge.to })
reaches day (Turn a b uncouple couple exchange) r few first edge e =
    let found = turns uncouple couple exchange (turned r (composition_at day edge.from)) (composition_at day edge.to) edge.shunt e.rule in
    turn_reaches day r edge.from edge.to few first uncouple couple exchange a b e.arriving e.departing found.0 found.1.stay found.1.few
reaches day (Join a1 a2 b) r few first edge e = inl (e.departing, inl (front_from day r edge.from edge.to at.Rear (joined day r edge.from edge.to e.part a1 e.first e.rule)))
reaches day (Split a b1 b2) r few first edge e = inr (e.arriving, left_from day r edge.from edge.to at.Rear (parted day r edge.from edge.to e.part b1 e.first e.rule))
