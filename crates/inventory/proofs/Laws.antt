-- The laws of naming.
use Rattle.std.proofs.Common.{◌≡◌, ℕ, ◌<◌, List, [], ◌∷◌, length, Bool, false, refl, sym, ap, ◌∙◌, subst, arith}
use Rattle.std.specs.Prelude.{filter, nat_lt}
use Rattle.std.proofs.lemmas.Bool.{cond-false, le-ltb}
use Rattle.timetable.specs.Day.{Day, leaves, home_of, unit_count}
use Rattle.timetable.specs.Duties.{in_order, duty}
use Rattle.timetable.specs.Links.{list_of}
use Rattle.timetable.specs.Lists.{has, below}
use Rattle.timetable.specs.Running.{BeginsAt, EachFollows}
use Rattle.inventory.specs.NamedBefore.{IsNamedBefore, MayFollowByPlaces, duty_before}
use Rattle.inventory.specs.NamedUnits.{named_from, latest_first}
use Rattle.inventory.specs.NamingLaws.{RunsOn, ServedPlansRun, NamedPlansRun}
use Rattle.inventory.proofs.Order.{filter_in_order, is_there, latest_in_turn}
use Rattle.inventory.proofs.Standing.{AreRight}
use Rattle.inventory.proofs.Following.{AreLed, given_trips, reverse_twice}
use Rattle.inventory.proofs.Righting.{AreNamedBy, given_lists, all_right}
use Rattle.inventory.proofs.Named.{named_by_rule, length-named}
use Rattle.inventory.proofs.Running.{plan_runs, types_all}

-- the trips of a unit before the minute
given_is_duty : (day : Day) (types : List (List ℕ)) (minute : ℕ) (plan : List (List ℕ)) (u : ℕ) → duty_before day plan minute u ≡ given_trips day types minute plan u (latest_first day)
unfolding duty given_trips latest_first
given_is_duty day types minute plan u =
    ap (filter (λ t. nat_lt (leaves day t) minute))
    (filter_in_order day (λ t. has u (list_of plan t)) (below (length day.trips))
    ∙ ap (filter (λ t. has u (list_of plan t))) (sym (reverse_twice (in_order day (below (length day.trips))))))

pub all_led : (day : Day) (types : List (List ℕ)) (minute : ℕ) (plan : List (List ℕ)) → IsNamedBefore day types minute plan → (u : ℕ) → u < unit_count day → AreLed day types minute plan u (latest_first day)
all_led day types minute plan named u lt = record {
  begins = subst (BeginsAt day (home_of day u)) (given_is_duty day types minute plan u) (named.homes u lt);
  follows = subst (EachFollows (MayFollowByPlaces day types plan u)) (given_is_duty day types minute plan u) (named.follows u lt);
}

pub named_plans_run : NamedPlansRun
named_plans_run day types minute plan is_day links stocked served named =
    let by : AreNamedBy day types minute plan (list_of (named_from day types minute plan)) (latest_first day) = named_by_rule day types minute plan links is_day in
    let rights : AreRight day types (list_of (named_from day types minute plan)) (latest_first day) =
    all_right day types minute plan (list_of (named_from day types minute plan)) links is_day stocked served named (latest_first day) (latest_in_turn day) by (all_led day types minute plan named) in
    record {
      runs = plan_runs day types (named_from day types minute plan) links is_day stocked served (length-named day types minute plan) rights;
      types_are = types_all day types (named_from day types minute plan) links is_day stocked served (length-named day types minute plan) rights;
      agrees = λ t lt early. given_lists day types minute plan (list_of (named_from day types minute plan)) links is_day stocked served named (latest_first day) by t (is_there day t lt) early;
    }

-- before minute 0 no trip leaves
filter_none : (q : ℕ → Bool) (xs : List ℕ) → ((x : ℕ) → q x ≡ false) → filter q xs ≡ []
filter_none q [] none = refl
filter_none q (x ∷ xs) none = cond-false (q x) (x ∷ filter q xs) (filter q xs) (none x) ∙ filter_none q xs none

pub none_before : (day : Day) (types : List (List ℕ)) → IsNamedBefore day types 0 []
none_before day types =
    let none : (u : ℕ) → duty_before day [] 0 u ≡ [] = λ u. filter_none (λ t. nat_lt (leaves day t) 0) (duty day [] u) (λ t. le-ltb (leaves day t) 0 (omega arith)) in
    record {
      lists = λ t lt early. absurd (omega arith);
      links = λ t lt early. absurd (omega arith);
      homes = λ u lt. subst (BeginsAt day (home_of day u)) (sym (none u)) tt;
      follows = λ u lt. subst (EachFollows (MayFollowByPlaces day types [] u)) (sym (none u)) tt;
    }

pub served_plans_run : ServedPlansRun
served_plans_run day types is_day links stocked served =
    let run : RunsOn day types 0 [] (named_from day types 0 []) = named_plans_run day types 0 [] is_day links stocked served (none_before day types) in
    record { runs = run.runs; types_are = run.types_are }
