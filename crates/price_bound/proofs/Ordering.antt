-- The trips chain by chain: each trip once.
use Rattle.std.proofs.Common.{◌≡◌, ◌<◌, ◌≤◌, ◌+◌, ℕ, List, [], ◌∷◌, length, nat_lt, Bool, true, false, if◌then◌else◌}
use Rattle.std.proofs.Common.{refl, ap, ◌∙◌}
use Rattle.std.proofs.lemmas.Bool.{ltb-true, ltb-false}
use Rattle.timetable.specs.Accepted.{IsSoundDay}
use Rattle.timetable.specs.Chains.{chains_of, times_in}
use Rattle.timetable.specs.Day.{Day}
use Rattle.timetable.specs.Lists.{count_of}
use Rattle.timetable.proofs.Shares.{count_of-append}
use Rattle.timetable.proofs.WholeChains.{are_chains}
use Rattle.price_bound.specs.DayMeanings.{one_after_another, trips_by_chain}

pub count_joined : (t : ℕ) (lists : List (List ℕ)) → count_of t (one_after_another lists) ≡ times_in lists t
count_joined t [] = refl
count_joined t (list ∷ lists) = count_of-append t list (one_after_another lists) ∙ ap (λ n. count_of t list + n) (count_joined t lists)

-- a trip of the day is there once, and another number isn't
by_trip : (day : Day) (t times : ℕ) (b : Bool) → nat_lt t (length day.trips) ≡ b → (t < length day.trips → times ≡ 1) → (length day.trips ≤ t → times ≡ 0)
    → times ≡ (if b then 1 else 0)
by_trip day t times true is once none = once (ltb-true t (length day.trips) is)
by_trip day t times false is once none = none (ltb-false t (length day.trips) is)

pub each_once : (day : Day) → IsSoundDay day → (t : ℕ) → count_of t (trips_by_chain day) ≡ (if nat_lt t (length day.trips) then 1 else 0)
unfolding trips_by_chain
each_once day accepted t =
    let chains = are_chains day accepted.links accepted.limits in
    count_joined t (chains_of day)
    ∙ by_trip day t (times_in (chains_of day) t) (nat_lt t (length day.trips)) refl (chains.once t) (chains.known t)
