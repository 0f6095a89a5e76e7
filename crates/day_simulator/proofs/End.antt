-- The end of the day: no event is missing, and each count of a yard is how many units end there.
use Rattle.std.proofs.Common.{◌≡◌, ℕ, ◌<◌, ◌≤◌, List, [], ◌∷◌, length, true, false, eqb, Option, Some, None}
use Rattle.std.proofs.Common.{Ok, refl, sym, ap, ◌∙◌, subst, arith, ◌≢◌, ⊎_elim}
use Rattle.std.specs.Prelude.{if◌then◌else◌, ◌==◌, ◌&&◌, not}
use Rattle.std.proofs.lemmas.Bool.{cases_eq, cases_lt, cond-true, cond-false, cases_Bool, eqb-true, eq-eqb}
use Rattle.timetable.specs.Day.{Day, type_of, unit_count, wanted_of}
use Rattle.timetable.specs.Lists.{count_of, below}
use Rattle.timetable.specs.Duties.{last_place}
use Rattle.rules.proofs.OfTheStock.{ending}
use Rattle.timetable.specs.Running.{ending_of}
use Rattle.day_simulator.specs.declared.events.DayEvent.{DayEvent}
use Rattle.day_simulator.specs.declared.events.DayEvent.TheVariants.{Depart, Arrive}
use Rattle.day_simulator.specs.declared.events.UnitLocation.TheVariants.{Yard}
use Rattle.day_simulator.specs.declared.events.Stage.TheVariants as stage
use Rattle.day_simulator.specs.declared.events.StepFault.{StepFault}
use Rattle.day_simulator.specs.declared.events.StepFault.TheVariants.{Balance}
use Rattle.day_simulator.specs.State.{State, location_of, stage_of, is_waiting, has_arrived, is_in_yard}
use Rattle.day_simulator.specs.Finish.{first_not_made, yard_count, first_differing_type, or_else, first_differing}
use Rattle.day_simulator.specs.Finish.{ended}
use Rattle.timetable.proofs.Ones.{one_same, one_other, count_below_in, count_below_out}
use Rattle.timetable.proofs.Sums.{sum_same}

-- where every trip has arrived, each event was made
pub all_made : (state : State) (es : List DayEvent) → ((t : ℕ) → stage_of state.stages t ≡ stage.Arrived) → first_not_made state es ≡ None
all_made state [] h = refl
all_made state (Depart t ∷ es) h = cond-true (not (is_waiting (stage_of state.stages t))) (first_not_made state es) (Some (Depart t)) (ap (λ s. not (is_waiting s)) (h t)) ∙ all_made state es h
all_made state (Arrive t ∷ es) h = cond-true (has_arrived (stage_of state.stages t)) (first_not_made state es) (Some (Arrive t)) (ap has_arrived (h t)) ∙ all_made state es h

types_balance : (day : Day) (state : State) (s : ℕ) (ms : List ℕ) → first_differing_type day state s ms ≡ None → (m : ℕ) → 1 ≤ count_of m ms → yard_count day state s m ≡ wanted_of day s m
types_balance day state s [] e m c = absurd (omega arith)
types_balance day state s (n ∷ ms) e m c =
    ⊎_elim
    (λ (is : eqb (yard_count day state s n) (wanted_of day s n) ≡ true).
    let rest = sym (cond-true (eqb (yard_count day state s n) (wanted_of day s n)) (first_differing_type day state s ms) (Some (Balance s n (yard_count day state s n) (wanted_of day s n))) is) ∙ e in
    ⊎_elim (λ (same : n ≡ m). subst (λ x. yard_count day state s x ≡ wanted_of day s x) same (eqb-true _ _ is))
    (λ (ne : n ≢ m). let o = one_other n m ne in types_balance day state s ms rest m (omega arith)) (cases_eq n m))
    (λ (isnt : eqb (yard_count day state s n) (wanted_of day s n) ≡ false).
    let some : Some (Balance s n (yard_count day state s n) (wanted_of day s n)) ≡ None =
    sym (cond-false (eqb (yard_count day state s n) (wanted_of day s n)) (first_differing_type day state s ms) (Some (Balance s n (yard_count day state s n) (wanted_of day s n))) isnt) ∙ e in
    absurd (cc))
    (cases_Bool (eqb (yard_count day state s n) (wanted_of day s n)))

types_none : (day : Day) (state : State) (s : ℕ) (ms : List ℕ) → ((m : ℕ) → 1 ≤ count_of m ms → yard_count day state s m ≡ wanted_of day s m) → first_differing_type day state s ms ≡ None
types_none day state s [] h = refl
types_none day state s (n ∷ ms) h =
    let o = one_same n n refl in
    cond-true (eqb (yard_count day state s n) (wanted_of day s n)) (first_differing_type day state s ms) (Some (Balance s n (yard_count day state s n) (wanted_of day s n))) (eq-eqb _ _ (h n (omega arith)))
    ∙ types_none day state s ms (λ m c. h m (omega arith))

-- there is no fault of two where each is none
pub or_else_none : (a b : Option StepFault) → or_else a b ≡ None → (a ≡ None) × (b ≡ None)
or_else_none None b e = (refl, e)
or_else_none (Some f) b e = absurd (cc)

stations_balance : (day : Day) (state : State) (ss : List ℕ) → first_differing day state ss ≡ None → (s m : ℕ) → 1 ≤ count_of s ss → 1 ≤ count_of m (below (length day.types)) → yard_count day state s m ≡ wanted_of day s m
stations_balance day state [] e s m c d = absurd (omega arith)
stations_balance day state (r ∷ ss) e s m c d =
    let both = or_else_none (first_differing_type day state r (below (length day.types))) (first_differing day state ss) e in
    ⊎_elim (λ (same : r ≡ s). subst (λ x. yard_count day state x m ≡ wanted_of day x m) same (types_balance day state r (below (length day.types)) both.0 m d))
    (λ (ne : r ≢ s). let o = one_other r s ne in stations_balance day state ss both.1 s m (omega arith) d) (cases_eq r s)

stations_none : (day : Day) (state : State) (ss : List ℕ) → ((s m : ℕ) → 1 ≤ count_of s ss → 1 ≤ count_of m (below (length day.types)) → yard_count day state s m ≡ wanted_of day s m) → first_differing day state ss ≡ None
stations_none day state [] h = refl
stations_none day state (r ∷ ss) h =
    let o = one_same r r refl in
    ap (λ a. or_else a (first_differing day state ss)) (types_none day state r (below (length day.types)) (λ m d. h r m (omega arith) d))
    ∙ stations_none day state ss (λ s m c d. h s m (omega arith) d)

is_below : (n k : ℕ) → 1 ≤ count_of k (below n) → k < n
is_below n k c = ⊎_elim (λ (lt : k < n). lt) (λ (ge : n ≤ k). let z = count_below_out k n ge in absurd (omega arith)) (cases_lt k n)

-- every count is what is wanted, exactly where no count differs
pub balance_from_none : (day : Day) (state : State) → first_differing day state (below (length day.stations)) ≡ None → (s m : ℕ) → s < length day.stations → m < length day.types → yard_count day state s m ≡ wanted_of day s m
balance_from_none day state e s m c d =
    let a = count_below_in s (length day.stations) c in
    let b = count_below_in m (length day.types) d in
    stations_balance day state (below (length day.stations)) e s m (omega arith) (omega arith)

pub none_from_balance : (day : Day) (state : State) → ((s m : ℕ) → s < length day.stations → m < length day.types → yard_count day state s m ≡ wanted_of day s m) → first_differing day state (below (length day.stations)) ≡ None
none_from_balance day state h = stations_none day state (below (length day.stations)) (λ s m c d. h s m (is_below (length day.stations) s c) (is_below (length day.types) m d))

-- where each unit is in the yard at the end of its duty, a yard's count is how many units end there
pub same_count : (day : Day) (plan : List (List ℕ)) (state : State) → ((u : ℕ) → u < unit_count day → (r : ℕ) × (location_of state.locations u ≡ Yard (last_place day plan u) r)) → (s m : ℕ) → yard_count day state s m ≡ ending day plan s m
unfolding yard_count ending_of
same_count day plan state h s m =
    sum_same (λ u. if is_in_yard s (location_of state.locations u) && (type_of day u == m) then 1 else 0) (λ u. if (last_place day plan u == s) && (type_of day u == m) then 1 else 0) (unit_count day)
    (λ u lt. ap (λ p. if is_in_yard s p && (type_of day u == m) then 1 else 0) (h u lt).1)

pub ended_ok : (event : Option DayEvent) (fault : Option StepFault) (n cost : ℕ) → ended event fault n ≡ Ok cost → (event ≡ None) × (fault ≡ None) × (cost ≡ n)
ended_ok (Some e) fault n cost h = absurd (cc)
ended_ok None (Some f) n cost h = absurd (cc)
ended_ok None None n cost h = (refl, refl, (cc))
