-- A day that goes through to its end has tested the rule of each link.
use Rattle.std.proofs.Common.{◌≡◌, ℕ, ◌≤◌, List, [], ◌∷◌, length, Bool, true, false, cond, eqb, Option, Some, None, Ok}
use Rattle.std.proofs.Common.{refl, sym, ap, ◌∙◌, subst, arith, ◌≢◌, ⊎_elim}
use Rattle.std.specs.Prelude.{not, slice_get, unwrap_or, option_map}
use Rattle.std.proofs.lemmas.Bool.{cases_eq, le-leb}
use Rattle.timetable.specs.Day.{Day, type_of, types_of}
use Rattle.timetable.specs.Lists.{count_of}
use Rattle.timetable.specs.Accepted.{AreLinks}
use Rattle.timetable.specs.Admissible.{is_admissible}
use Rattle.rules.specs.declared.records.Link.{Link}
use Rattle.rules.specs.declared.records.LinkKind.{LinkKind}
use Rattle.rules.specs.declared.records.LinkKind.TheVariants.{Turn, Join, Split}
use Rattle.timetable.specs.Links.{list_of, link_holds, arriving_in, departing_in, incoming, outgoing, taken}
use Rattle.day_simulator.specs.declared.events.DayEvent.{DayEvent}
use Rattle.day_simulator.specs.declared.events.DayEvent.TheVariants.{Depart, Arrive}
use Rattle.day_simulator.specs.declared.events.StepFault.{StepFault}
use Rattle.day_simulator.specs.declared.events.StepFault.TheVariants.{NotNow, NoUnits, NotAdmissible, LinkBroken}
use Rattle.day_simulator.specs.declared.events.StepFault.TheVariants.{NotInYard}
use Rattle.day_simulator.specs.State.{State, first_state}
use Rattle.day_simulator.specs.Steps.{is_now, is_tested_at, broken, broken_into, broken_out, first_missing, fault_of}
use Rattle.day_simulator.specs.Steps.{after, steps}
use Rattle.day_simulator.specs.Orders.{IsOrder, departures, arrivals}
use Rattle.timetable.proofs.Ones.{one_same, one_other}
use Rattle.timetable.proofs.NamedTrips.{place_is}
use Rattle.timetable.proofs.Linked.{LinksHold}
use Rattle.day_simulator.proofs.Linked.{holds_from_none}
use Rattle.day_simulator.proofs.Going.{tests_pass, option_map_none}
use Rattle.day_simulator.proofs.Whole.{no_fault}

first_none : (o : Option ℕ) (rest : Option StepFault) → unwrap_or (option_map (λ l. Some (LinkBroken l)) o) rest ≡ None → o ≡ None
first_none None rest e = refl
first_none (Some l) rest e = absurd (cc)

passed : {X : Type 0} (now : Bool) (x : X) (rest : Option X) → cond (not now) (Some x) rest ≡ None → rest ≡ None
passed true x rest e = e
passed false x rest e = absurd (cc)

into_from_none : (day : Day) (plan : List (List ℕ)) (state : State) (t : ℕ) → fault_of day plan state (Depart t) ≡ None → broken_into day plan t ≡ None
unfolding fault_of
into_from_none day plan state t e =
    let missing : Option StepFault = option_map (λ u. NotInYard u t) (first_missing day t state.locations (taken day plan t)) in
    let both = tests_pass (is_now day state (Depart t)) (eqb (length (list_of plan t)) 0) (is_admissible day t (types_of day (list_of plan t))) (NotNow (Depart t)) (NoUnits t) (NotAdmissible t)
    (unwrap_or (option_map (λ l. Some (LinkBroken l)) (broken_into day plan t)) missing) e in
    first_none (broken_into day plan t) missing both.1

out_from_none : (day : Day) (plan : List (List ℕ)) (state : State) (t : ℕ) → fault_of day plan state (Arrive t) ≡ None → broken_out day plan t ≡ None
unfolding fault_of
out_from_none day plan state t e =
    option_map_none (λ l. LinkBroken l) (broken_out day plan t)
    (passed (is_now day state (Arrive t)) (NotNow (Arrive t)) (option_map (λ l. LinkBroken l) (broken_out day plan t)) e)

-- no rule was broken where these events were made
record Tested (day : Day) (plan : List (List ℕ)) (es : List DayEvent) : Type 0 where
  into : (t : ℕ) → 1 ≤ departures t es → broken_into day plan t ≡ None
  out : (t : ℕ) → 1 ≤ arrivals t es → broken_out day plan t ≡ None

tested : (day : Day) (plan : List (List ℕ)) (es : List DayEvent) (state final : State) → steps day plan state es ≡ Ok final → Tested day plan es
tested day plan [] state final e = record { into = λ t c. absurd (omega arith); out = λ t c. absurd (omega arith) }
tested day plan (Depart s ∷ es) state final e =
    let both = no_fault (fault_of day plan state (Depart s)) (steps day plan (after day plan state (Depart s)) es) final e in
    let rest = tested day plan es (after day plan state (Depart s)) final both.1 in
    record {
      into = λ t c. ⊎_elim (λ (same : s ≡ t). subst (λ x. broken_into day plan x ≡ None) same (into_from_none day plan state s both.0))
          (λ (ne : s ≢ t). let o = one_other s t ne in rest.into t (omega arith)) (cases_eq s t);
      out = rest.out;
    }
tested day plan (Arrive s ∷ es) state final e =
    let both = no_fault (fault_of day plan state (Arrive s)) (steps day plan (after day plan state (Arrive s)) es) final e in
    let rest = tested day plan es (after day plan state (Arrive s)) final both.1 in
    record {
      into = rest.into;
      out = λ t c. ⊎_elim (λ (same : s ≡ t). subst (λ x. broken_out day plan x ≡ None) same (out_from_none day plan state s both.0))
          (λ (ne : s ≢ t). let o = one_other s t ne in rest.out t (omega arith)) (cases_eq s t);
    }

module _ (day : Day) (plan : List (List ℕ)) (links : AreLinks day) (es : List DayEvent) (order : IsOrder day es) where
  -- a rule that is tested where a trip departs
  by_departure : (l t : ℕ) (link : Link) → Tested day plan es → slice_get day.links l ≡ Some link → 1 ≤ count_of t (departing_in link.kind) → is_tested_at true link.kind ≡ true → link_holds (type_of day) link plan ≡ true
  unfolding broken_into incoming
  by_departure l t link done at named here =
      let trip = links.departing l t link at (le-leb 1 (count_of t (departing_in link.kind)) named) in
      let once = order.departs_once t trip in
      let none = done.into t (omega arith) in
      let found = place_is departing_in day.links t l link (links.departing_once t) at named in
      holds_from_none day plan true l link at here (ap (broken day plan true) (sym found) ∙ none)

  -- a rule that is tested where a trip arrives
  by_arrival : (l t : ℕ) (link : Link) → Tested day plan es → slice_get day.links l ≡ Some link → 1 ≤ count_of t (arriving_in link.kind) → is_tested_at false link.kind ≡ true → link_holds (type_of day) link plan ≡ true
  unfolding broken_out outgoing
  by_arrival l t link done at named here =
      let trip = links.arriving l t link at (le-leb 1 (count_of t (arriving_in link.kind)) named) in
      let once = order.arrives_once t trip in
      let none = done.out t (omega arith) in
      let found = place_is arriving_in day.links t l link (links.arriving_once t) at named in
      holds_from_none day plan false l link at here (ap (broken day plan false) (sym found) ∙ none)

  pub links_hold : (final : State) → steps day plan (first_state day) es ≡ Ok final → LinksHold day plan
  links_hold final e = record {
    holds = λ l link at. by_kind l link at link.kind refl (tested day plan es (first_state day) final e);
  }
    where
      by_kind : (l : ℕ) (link : Link) → slice_get day.links l ≡ Some link → (kind : LinkKind) → link.kind ≡ kind → Tested day plan es → link_holds (type_of day) link plan ≡ true
      by_kind l link at (Turn x y uncouple couple exchange) e done =
          let o = one_same x x refl in
          by_arrival l x link done at (subst (λ k. 1 ≤ count_of x (arriving_in k)) (sym e) (omega arith)) (subst (λ k. is_tested_at false k ≡ true) (sym e) refl)
      by_kind l link at (Join x1 x2 y) e done =
          let o = one_same y y refl in
          by_departure l y link done at (subst (λ k. 1 ≤ count_of y (departing_in k)) (sym e) (omega arith)) (subst (λ k. is_tested_at true k ≡ true) (sym e) refl)
      by_kind l link at (Split x y1 y2) e done =
          let o = one_same x x refl in
          by_arrival l x link done at (subst (λ k. 1 ≤ count_of x (arriving_in k)) (sym e) (omega arith)) (subst (λ k. is_tested_at false k ≡ true) (sym e) refl)
