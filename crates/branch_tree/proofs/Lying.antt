-- Picks in a region, trip by trip.
use Rattle.std.proofs.Common.{◌≡◌, ℕ, zero, suc, ◌+◌, ◌<◌, List, [], ◌∷◌, length, get_or, slice_get, Some, Bool, true}
use Rattle.std.proofs.Common.{false, refl, sym, ◌∙◌, ap, arith, ⊎_elim}
use Rattle.std.proofs.lemmas.Bool.{cases_lt, false_from_ne_true, false≢true}
use Rattle.std.proofs.lemmas.List.{get_or_read}
use Rattle.std.proofs.lemmas.Option.{get_or_from_slice_get}
use Rattle.branch_tree.specs.Laws.{PicksLieByTrip}
use Rattle.branch_tree.specs.Regions.{are_in, has}
use Rattle.branch_tree.specs.Sets.{is_member}
use Rattle.branch_tree.proofs.Settling.{both}
use Rattle.branch_tree.proofs.Members.{both_true}

in_length : (picks : List ℕ) (region : List (List Bool)) → are_in picks region ≡ true → length picks ≡ length region
in_length [] [] inside = refl
in_length [] (set ∷ sets) inside = absurd cc
in_length (pick ∷ picks) [] inside = absurd cc
in_length (pick ∷ picks) (set ∷ sets) inside = omega (arith, in_length picks sets (both (is_member set pick) (are_in picks sets) inside).1)

in_each : (picks : List ℕ) (region : List (List Bool)) → are_in picks region ≡ true → (trip : ℕ) → trip < length region → has region trip (get_or picks trip 0) ≡ true
in_each [] [] inside trip below = absurd (omega (arith, below))
in_each [] (set ∷ sets) inside trip below = absurd cc
in_each (pick ∷ picks) [] inside trip below = absurd cc
in_each (pick ∷ picks) (set ∷ sets) inside zero below = (both (is_member set pick) (are_in picks sets) inside).0
in_each (pick ∷ picks) (set ∷ sets) inside (suc trip) below = in_each picks sets (both (is_member set pick) (are_in picks sets) inside).1 trip (omega (arith, below))

pub each_in : (picks : List ℕ) (region : List (List Bool)) → length picks ≡ length region → ((trip : ℕ) → trip < length region → has region trip (get_or picks trip 0) ≡ true) → are_in picks region ≡ true
each_in [] [] same each = refl
each_in [] (set ∷ sets) same each = absurd (omega (arith, same))
each_in (pick ∷ picks) [] same each = absurd (omega (arith, same))
each_in (pick ∷ picks) (set ∷ sets) same each =
    both_true (is_member set pick) (are_in picks sets) (each 0 (omega arith)) (each_in picks sets (omega (arith, same)) (λ trip below. each (suc trip) (omega (arith, below))))

pub picks_lie_by_trip : PicksLieByTrip
picks_lie_by_trip picks region = ((λ inside. (in_length picks region inside, in_each picks region inside)), (λ by. each_in picks region by.0 by.1))

-- picks are not in a region where one is not in its trip's set, or where there are not as many
pub one_out : (picks : List ℕ) (region : List (List Bool)) (trip : ℕ) → trip < length region → has region trip (get_or picks trip 0) ≡ false → are_in picks region ≡ false
one_out picks region trip below out = false_from_ne_true (are_in picks region) (λ inside. false≢true (sym out ∙ in_each picks region inside trip below))

pub length_out : (picks : List ℕ) (region : List (List Bool)) → (length picks ≡ length region → ⊥) → are_in picks region ≡ false
length_out picks region differ = false_from_ne_true (are_in picks region) (λ inside. differ (in_length picks region inside))

-- what is read of a trip's set and pick tells whether the pick is in the set
pub asked_at : (picks : List ℕ) (sets region : List (List Bool)) (trip comp : ℕ) (members : List Bool) → sets ≡ region → trip < length region →
    members ≡ get_or sets trip members → slice_get picks trip ≡ Some comp → has region trip (get_or picks trip 0) ≡ is_member members comp
asked_at picks sets region trip comp members view below read found =
    ap (λ all. has all trip (get_or picks trip 0)) (sym view)
    ∙ ap (λ pick. has sets trip pick) (get_or_from_slice_get picks trip comp 0 found)
    ∙ ap (λ set. is_member set comp) (sym (get_or_read sets trip members (omega (arith, below, ap length view)) read []))

pub one_more : (picks : List ℕ) (region : List (List Bool)) (asked : ℕ) → ((trip : ℕ) → trip < asked → has region trip (get_or picks trip 0) ≡ true) →
    has region asked (get_or picks asked 0) ≡ true → (trip : ℕ) → trip < asked + 1 → has region trip (get_or picks trip 0) ≡ true
one_more picks region asked before here trip below =
    ⊎_elim (λ less. before trip less) (λ past. let at : trip ≡ asked = omega (arith, past, below) in ap (λ t. has region t (get_or picks t 0)) at ∙ here) (cases_lt trip asked)
