-- A day with links, as the machine tests them: where each link's rule holds no test fails, and each trip into another
-- arrives in time.
use Rattle.std.proofs.Common.{◌≡◌, ℕ, ◌≤◌, List, [], true, false, Bool, Some, None, ap, ◌∙◌, subst, arith, ⊎_elim}
use Rattle.std.specs.Prelude.{if◌then◌else◌, ◌&&◌, not, slice_get, unwrap_or, option_map, option_and_then}
use Rattle.std.proofs.lemmas.Bool.{cases_Bool, le-leb, and_right, and_from, cond-true, cond-false}
use Rattle.timetable.specs.Day.{Day, leaves, arrives, type_of}
use Rattle.timetable.specs.Lists.{count_of}
use Rattle.timetable.specs.Accepted.{AreLinks}
use Rattle.rules.specs.declared.records.Link.{Link}
use Rattle.timetable.specs.Links.{link_holds, arriving_in, departing_in, incoming, outgoing, trips_into}
use Rattle.day_simulator.specs.Steps.{is_tested_at, broken, broken_into, broken_out}
use Rattle.timetable.proofs.NamedTrips.{IsNamed, named_or_not}
use Rattle.timetable.proofs.Linked.{LinksHold, into_is, links_account}
use Rattle.day_simulator.proofs.Unbroken.{IsUnbroken}

none_broken : (day : Day) (plan : List (List ℕ)) (departure : Bool) (l : ℕ) (link : Link) → slice_get day.links l ≡ Some link → link_holds (type_of day) link plan ≡ true → broken day plan departure (Some l) ≡ None
none_broken day plan departure l link at holds =
    ap (λ o. option_and_then (λ (link : Link). if is_tested_at departure link.kind && not (link_holds (type_of day) link plan) then Some l else None) o) at
    ∙ cond-false (is_tested_at departure link.kind && not (link_holds (type_of day) link plan)) (Some l) None (and_right (is_tested_at departure link.kind) (not (link_holds (type_of day) link plan)) (ap not holds))

-- a link that is tested here and not broken holds
pub holds_from_none : (day : Day) (plan : List (List ℕ)) (departure : Bool) (l : ℕ) (link : Link) → slice_get day.links l ≡ Some link → is_tested_at departure link.kind ≡ true → broken day plan departure (Some l) ≡ None → link_holds (type_of day) link plan ≡ true
holds_from_none day plan departure l link at tested none =
    ⊎_elim (λ (is : link_holds (type_of day) link plan ≡ true). is)
    (λ (isnt : link_holds (type_of day) link plan ≡ false).
    let found : broken day plan departure (Some l) ≡ Some l =
    ap (λ o. option_and_then (λ (link : Link). if is_tested_at departure link.kind && not (link_holds (type_of day) link plan) then Some l else None) o) at
    ∙ cond-true (is_tested_at departure link.kind && not (link_holds (type_of day) link plan)) (Some l) None (and_from (is_tested_at departure link.kind) (not (link_holds (type_of day) link plan)) tested (ap not isnt)) in
    absurd (cc))
    (cases_Bool (link_holds (type_of day) link plan))

module _ (day : Day) (plan : List (List ℕ)) (links : AreLinks day) where
  pub arrive_in_time : (a b : ℕ) → 1 ≤ count_of a (trips_into day b) → arrives day a ≤ leaves day b
  unfolding incoming
  arrive_in_time a b c = ⊎_elim
      (λ (h : (link : Link) × IsNamed departing_in day.links b link).
      let same : trips_into day b ≡ arriving_in (h.0).kind = ap (λ o. unwrap_or (option_map (λ (link : Link). arriving_in link.kind) o) []) (into_is day b h.0 h.1) in
      let c' : 1 ≤ count_of a (arriving_in (h.0).kind) = subst (λ l. 1 ≤ count_of a l) same c in
      links.in_time (h.1).number a b h.0 (h.1).at (le-leb 1 (count_of a (arriving_in (h.0).kind)) c') (le-leb 1 (count_of b (departing_in (h.0).kind)) (h.1).named))
      (λ none.
      let same : trips_into day b ≡ [] = ap (λ o. unwrap_or (option_map (λ (link : Link). arriving_in link.kind) (option_and_then (slice_get day.links) o)) []) none.0 in
      let c' : 1 ≤ 0 = subst (λ l. 1 ≤ count_of a l) same c in
      absurd (omega arith))
      (named_or_not departing_in day.links b)

  none_into : LinksHold day plan → (t : ℕ) → broken_into day plan t ≡ None
  unfolding broken_into incoming
  none_into h t = ⊎_elim
      (λ (n : (link : Link) × IsNamed departing_in day.links t link). ap (broken day plan true) (n.1).found ∙ none_broken day plan true (n.1).number n.0 (n.1).at (h.holds (n.1).number n.0 (n.1).at))
      (λ none. ap (broken day plan true) none.0)
      (named_or_not departing_in day.links t)

  none_out : LinksHold day plan → (t : ℕ) → broken_out day plan t ≡ None
  unfolding broken_out outgoing
  none_out h t = ⊎_elim
      (λ (n : (link : Link) × IsNamed arriving_in day.links t link). ap (broken day plan false) (n.1).found ∙ none_broken day plan false (n.1).number n.0 (n.1).at (h.holds (n.1).number n.0 (n.1).at))
      (λ none. ap (broken day plan false) none.0)
      (named_or_not arriving_in day.links t)

  pub linked_hands : LinksHold day plan → IsUnbroken day plan
  linked_hands h = record { before = arrive_in_time; into = none_into h; out = none_out h; accounts = links_account day plan links h }
