-- From the steps and the end of a day to the whole day.
use Rattle.std.proofs.Common.{◌≡◌, ◌<◌, ℕ, zero, suc, ◌≤◌, List, [], ◌++◌, ◌∷◌, Result, Ok, Err, refl, sym, ap, ◌∙◌}
use Rattle.std.proofs.Common.{subst, length, arith, pos}
use Rattle.std.specs.Prelude.{MatchResult}
use Rattle.std.specs.List.{All, AllByRecursion}
use Rattle.std.proofs.lemmas.List.Elements.{All-from_recursion}
use Rattle.std.proofs.lemmas.Bool.{cond_both}
use Rattle.rail_base.specs.declared.numbers.Money.{Money}
use Rattle.timetable.specs.Day.{Day}
use Rattle.timetable.specs.Accepted.{IsDay, AreLinks}
use Rattle.timetable.specs.Running.{IsPlan, Runs}
use Rattle.timetable.specs.Cost.{plan_cost}
use Rattle.timetable.specs.Lists.{below}
use Rattle.day_simulator.specs.declared.events.DayEvent.{DayEvent}
use Rattle.day_simulator.specs.declared.events.StepFault.{StepFault}
use Rattle.day_simulator.specs.Calls.{MakesSteps, Finishes, IsCost}
use Rattle.day_simulator.specs.Machine.{Machine}
use Rattle.day_simulator.specs.State.{State, first_state, trip_of}
use Rattle.day_simulator.specs.Steps.{steps, fixed_order, insert_event, sorted_events, events_by_trip}
use Rattle.day_simulator.specs.Finish.{finish_of, finish_after, simulation}
use Rattle.day_simulator.proofs.Theorem.{run_in_fixed_order}

-- the events of a day are of its trips
known_insert : (day : Day) (n : ℕ) (e : DayEvent) (es : List DayEvent) → trip_of e < n → AllByRecursion (λ f. trip_of f < n) es → AllByRecursion (λ f. trip_of f < n) (insert_event day e es)
known_insert day n e [] h hs = (h, tt)
known_insert day n e (f ∷ fs) h hs =
    cond_both _ (e ∷ f ∷ fs) (f ∷ insert_event day e fs) (AllByRecursion (λ g. trip_of g < n)) (λ _. (h, hs)) (λ _. (hs.0, known_insert day n e fs h hs.1))

known_sorted : (day : Day) (n : ℕ) (es : List DayEvent) → AllByRecursion (λ f. trip_of f < n) es → AllByRecursion (λ f. trip_of f < n) (sorted_events day es)
known_sorted day n [] hs = tt
known_sorted day n (e ∷ es) hs = known_insert day n e (sorted_events day es) hs.0 (known_sorted day n es hs.1)

known_by_trip : (n : ℕ) (ts : List ℕ) → AllByRecursion (λ t. t < n) ts → AllByRecursion (λ f. trip_of f < n) (events_by_trip ts)
known_by_trip n [] hs = tt
known_by_trip n (t ∷ ts) hs = (hs.0, (hs.0, known_by_trip n ts hs.1))

known_push : (n : ℕ) (ts : List ℕ) (t : ℕ) → AllByRecursion (λ s. s < n) ts → t < n → AllByRecursion (λ s. s < n) (ts ++ t ∷ [])
known_push n [] t hs h = (h, tt)
known_push n (s ∷ ts) t hs h = (hs.0, known_push n ts t hs.1 h)

known_below : (m n : ℕ) → m ≤ n → AllByRecursion (λ t. t < n) (below m)
known_below zero n le = tt
known_below (suc m) n le = known_push n (below m) m (known_below m n (omega arith)) (omega arith)

pub known_order : (day : Day) → All (λ e. trip_of e < length day.trips) (fixed_order day)
unfolding fixed_order
known_order day =
    let n = length day.trips in
    All-from_recursion (λ (e : DayEvent). trip_of e < n) (fixed_order day) (known_sorted day n _ (known_by_trip n _ (known_below n n (omega arith))))

same_error : (f g : StepFault) → ◌≡◌ {A = Result (Unit {0}) StepFault} (Err f) (Err g) → f ≡ g
same_error f g h = cc

not_both : {f : StepFault} → ◌≡◌ {A = Result (Unit {0}) StepFault} (Err f) (Ok tt) → ⊥
not_both h = cc

not_money : {money : Money} {f : StepFault} → ◌≡◌ {A = Result Money StepFault} (Ok money) (Err f) → ⊥
not_money h = cc

same_fault : (f g : StepFault) → ◌≡◌ {A = Result Money StepFault} (Err f) (Err g) → f ≡ g
same_fault f g h = cc

-- the steps that stop
pub stopped : (old : Machine) (es : List DayEvent) (f : StepFault) (new : Machine) → MakesSteps old es (Err f) new → steps old.day old.plan old.state es ≡ Err f
stopped old es f new = by_cases (steps old.day old.plan old.state es)
  where
    by_cases : (r : Result State StepFault) → MatchResult r (λ state. (◌≡◌ {A = Result (Unit {0}) StepFault} (Err f) (Ok tt)) × (new ≡ record old { state = state })) (λ g. ◌≡◌ {A = Result (Unit {0}) StepFault} (Err f) (Err g)) → r ≡ Err f
    by_cases (Ok state) h = absurd (not_both h.0)
    by_cases (Err g) h = ap Err (sym (same_error f g h))

-- the steps that all go through
pub went : (old : Machine) (es : List DayEvent) (new : Machine) → MakesSteps old es (Ok tt) new → (state : State) × (steps old.day old.plan old.state es ≡ Ok state) × (new ≡ record old { state = state })
went old es new = by_cases (steps old.day old.plan old.state es)
  where
    by_cases : (r : Result State StepFault) → MatchResult r (λ state. (◌≡◌ {A = Result (Unit {0}) StepFault} (Ok tt) (Ok tt)) × (new ≡ record old { state = state })) (λ g. ◌≡◌ {A = Result (Unit {0}) StepFault} (Ok tt) (Err g)) → (state : State) × (r ≡ Ok state) × (new ≡ record old { state = state })
    by_cases (Ok state) h = (state, refl, h.1)
    by_cases (Err g) h = absurd (not_both (sym h))

-- the end that is well, and the one that isn't
pub ended_well : (now : Machine) (money : Money) → Finishes now (Ok money) → (cost : ℕ) × (finish_of now.day now.plan now.state ≡ Ok cost) × IsCost cost money
ended_well now money = by_cases (finish_of now.day now.plan now.state)
  where
    by_cases : (r : Result ℕ StepFault) → MatchResult r (λ cost. IsCost cost money) (λ f. ◌≡◌ {A = Result Money StepFault} (Ok money) (Err f)) → (cost : ℕ) × (r ≡ Ok cost) × IsCost cost money
    by_cases (Ok cost) h = (cost, refl, h)
    by_cases (Err f) h = absurd (not_money h)

pub ended_badly : (now : Machine) (f : StepFault) → Finishes now (Err f) → finish_of now.day now.plan now.state ≡ Err f
ended_badly now f = by_cases (finish_of now.day now.plan now.state)
  where
    by_cases : (r : Result ℕ StepFault) → MatchResult r (λ cost. ⊥) (λ g. ◌≡◌ {A = Result Money StepFault} (Err f) (Err g)) → r ≡ Err f
    by_cases (Ok cost) h = absurd h
    by_cases (Err g) h = ap Err (sym (same_fault f g h))

-- the same steps, seen from equal beginnings
pub steps_of : (old old' : Machine) (es es' : List DayEvent) (r r' : Result (Unit {0}) StepFault) (new : Machine) → old ≡ old' → es ≡ es' → r ≡ r' → MakesSteps old es r new → MakesSteps old' es' r' new
steps_of old old' es es' r r' new a b c made =
    subst (λ (x : Result (Unit {0}) StepFault). MakesSteps old' es' x new) c
    (subst (λ (x : List DayEvent). MakesSteps old' x r new) b (subst (λ (x : Machine). MakesSteps x es r new) a made))

pub finishes_as : (now : Machine) (r r' : Result Money StepFault) → r ≡ r' → Finishes now r → Finishes now r'
finishes_as now r r' e ends = subst (Finishes now) e ends

module _ (day : Day) (plan : List (List ℕ)) where
  -- the day at its start
  abbrev pub beginning : Machine
  beginning = record { day = day; plan = plan; state = first_state day }

  pub simulation_stops : (f : StepFault) (new : Machine) → MakesSteps beginning (fixed_order day) (Err f) new → simulation day plan ≡ Err f
  unfolding simulation
  simulation_stops f new made = ap (finish_after day plan) (stopped beginning (fixed_order day) f new made)

  pub simulation_ends_badly : (f : StepFault) (new : Machine) → MakesSteps beginning (fixed_order day) (Ok tt) new → Finishes new (Err f) → simulation day plan ≡ Err f
  unfolding simulation
  simulation_ends_badly f new made ends =
      let w = went beginning (fixed_order day) new made in
      ap (finish_after day plan) w.1 ∙ ended_badly (record beginning { state = w.0 }) f (subst (λ (p : Machine). Finishes p (Err f)) w.2 ends)

  pub simulation_ends_well : (money : Money) (new : Machine) → MakesSteps beginning (fixed_order day) (Ok tt) new → Finishes new (Ok money) → (cost : ℕ) × (simulation day plan ≡ Ok cost) × IsCost cost money
  unfolding simulation
  simulation_ends_well money new made ends =
      let w = went beginning (fixed_order day) new made in
      let e = ended_well (record beginning { state = w.0 }) money (subst (λ (p : Machine). Finishes p (Ok money)) w.2 ends) in
      (e.0, ap (finish_after day plan) w.1 ∙ e.1, e.2)

  -- a plan that costs something by the machine runs, and costs that
  pub runs_at_cost : IsDay day → AreLinks day → IsPlan day plan → (cost : ℕ) (money : Money) → simulation day plan ≡ Ok cost → IsCost cost money → Runs day plan × IsCost (plan_cost day plan) money
  runs_at_cost sound links is_plan cost money ran is =
      let law = (run_in_fixed_order day plan sound links is_plan).1 cost ran in
      (law.0, is ∙ ap pos law.1)

  -- one that stops doesn't run
  pub never_runs : IsDay day → AreLinks day → IsPlan day plan → (f : StepFault) → simulation day plan ≡ Err f → Runs day plan → ⊥
  never_runs sound links is_plan f stops runs =
      let both : ◌≡◌ {A = Result ℕ StepFault} (Ok (plan_cost day plan)) (Err f) = sym ((run_in_fixed_order day plan sound links is_plan).0 runs) ∙ stops in
      cc
