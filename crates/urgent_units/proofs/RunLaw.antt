-- The longest runs of trips are those of which each trip goes on to the next, and the last of a run does not go on to the
-- first of the next run; and there are no others.
use Rattle.std.proofs.Common.{◌≡◌, ℕ, zero, suc, ◌≤◌, Bool, true, false, List, [], ◌∷◌, ◌++◌, length, refl, sym, ap, ◌∙◌, subst, arith, inl, inr, Some}
use Rattle.std.specs.Prelude.{slice_get}
use Rattle.std.specs.List.{flat_map}
use Rattle.std.proofs.lemmas.Bool.{cases_Bool, cond-true, cond-false}
use Rattle.std.proofs.lemmas.List.Elements.{All-nil, All-cons, All-head, All-tail}
use Rattle.urgent_units.specs.Laws.{RunsAreLongest}
use Rattle.urgent_units.specs.Runs.{AreLongestRuns, runs_of, with_trip, first_of, last_trip_of}
use Rattle.urgent_units.proofs.InTurn.{starts}

abbrev GoOn : (ℕ → ℕ → Bool) → List ℕ → Type 0
GoOn goes run = (k a b : ℕ) → slice_get run k ≡ Some a → slice_get run (suc k) ≡ Some b → goes a b ≡ true

abbrev IsSome : List ℕ → Type 0
IsSome run = 1 ≤ length run

no_run : {X : Type 0} {P : Type 0} (k : ℕ) (x : X) → slice_get [] k ≡ Some x → P
no_run k x e = absurd cc

-- ---- they are the longest

none_longest : (goes : ℕ → ℕ → Bool) → AreLongestRuns goes [] []
none_longest goes = record {
  whole = refl;
  some = All-nil IsSome;
  go_on = All-nil (GoOn goes);
  longest = λ r run next at. no_run r run at;
}

alone : (goes : ℕ → ℕ → Bool) (t : ℕ) → GoOn goes (t ∷ [])
alone goes t zero a b at next = no_run zero b next
alone goes t (suc k) a b at next = no_run k a at

one_longest : (goes : ℕ → ℕ → Bool) (t : ℕ) → AreLongestRuns goes (t ∷ []) ((t ∷ []) ∷ [])
one_longest goes t = record {
  whole = refl;
  some = All-cons IsSome (t ∷ []) [] (omega arith) (All-nil IsSome);
  go_on = All-cons (GoOn goes) (t ∷ []) [] (alone goes t) (All-nil (GoOn goes));
  longest = apart;
}
  where
    apart : (r : ℕ) (run next : List ℕ) → slice_get ((t ∷ []) ∷ []) r ≡ Some run → slice_get ((t ∷ []) ∷ []) (suc r) ≡ Some next → goes (last_trip_of run) (first_of next) ≡ false
    apart zero run next at after = no_run zero next after
    apart (suc r) run next at after = no_run r run at

-- a trip that goes on joins the first run
joined_longest : (goes : ℕ → ℕ → Bool) (t b : ℕ) (ts more : List ℕ) (others : List (List ℕ)) → goes t b ≡ true → AreLongestRuns goes (b ∷ ts) ((b ∷ more) ∷ others) → AreLongestRuns goes (t ∷ b ∷ ts) ((t ∷ b ∷ more) ∷ others)
joined_longest goes t b ts more others goes_on rest = record {
  whole = ap (λ (xs : List ℕ). t ∷ xs) rest.whole;
  some = All-cons IsSome (t ∷ b ∷ more) others (omega arith) (All-tail IsSome (b ∷ more) others rest.some);
  go_on = All-cons (GoOn goes) (t ∷ b ∷ more) others first (All-tail (GoOn goes) (b ∷ more) others rest.go_on);
  longest = apart;
}
  where
    first : GoOn goes (t ∷ b ∷ more)
    first zero x y at next =
        let left : t ≡ x = cc in
        let right : b ≡ y = cc in
        subst (λ (z : ℕ). goes z y ≡ true) left (subst (λ (z : ℕ). goes t z ≡ true) right goes_on)
    first (suc k) x y at next = All-head (GoOn goes) (b ∷ more) others rest.go_on k x y at next

    apart : (r : ℕ) (run next : List ℕ) → slice_get ((t ∷ b ∷ more) ∷ others) r ≡ Some run → slice_get ((t ∷ b ∷ more) ∷ others) (suc r) ≡ Some next → goes (last_trip_of run) (first_of next) ≡ false
    apart zero run next at after =
        let same : (t ∷ b ∷ more) ≡ run = cc in
        subst (λ (xs : List ℕ). goes (last_trip_of xs) (first_of next) ≡ false) same (rest.longest zero (b ∷ more) next refl after)
    apart (suc r) run next at after = rest.longest (suc r) run next at after

-- and one that doesn't is a run by itself
apart_longest : (goes : ℕ → ℕ → Bool) (t b : ℕ) (ts more : List ℕ) (others : List (List ℕ)) → goes t b ≡ false → AreLongestRuns goes (b ∷ ts) ((b ∷ more) ∷ others) → AreLongestRuns goes (t ∷ b ∷ ts) ((t ∷ []) ∷ (b ∷ more) ∷ others)
apart_longest goes t b ts more others ends rest = record {
  whole = ap (λ (xs : List ℕ). t ∷ xs) rest.whole;
  some = All-cons IsSome (t ∷ []) ((b ∷ more) ∷ others) (omega arith) rest.some;
  go_on = All-cons (GoOn goes) (t ∷ []) ((b ∷ more) ∷ others) (alone goes t) rest.go_on;
  longest = apart;
}
  where
    apart : (r : ℕ) (run next : List ℕ) → slice_get ((t ∷ []) ∷ (b ∷ more) ∷ others) r ≡ Some run → slice_get ((t ∷ []) ∷ (b ∷ more) ∷ others) (suc r) ≡ Some next → goes (last_trip_of run) (first_of next) ≡ false
    apart zero run next at after =
        let left : (t ∷ []) ≡ run = cc in
        let right : (b ∷ more) ≡ next = cc in
        subst (λ (xs : List ℕ). goes (last_trip_of xs) (first_of next) ≡ false) left (subst (λ (xs : List ℕ). goes t (first_of xs) ≡ false) right ends)
    apart (suc r) run next at after = rest.longest r run next at after

are_longest : (goes : ℕ → ℕ → Bool) (trips : List ℕ) → AreLongestRuns goes trips (runs_of goes trips)
are_longest goes [] = none_longest goes
are_longest goes (t ∷ []) = one_longest goes t
are_longest goes (t ∷ b ∷ ts) =
    let rest = starts goes b ts in
    let later : AreLongestRuns goes (b ∷ ts) ((b ∷ rest.more) ∷ rest.others) = subst (AreLongestRuns goes (b ∷ ts)) rest.is (are_longest goes (b ∷ ts)) in
    let runs = ap (with_trip goes t) rest.is in
    elim (cases_Bool (goes t b)) [
      | inl goes_on ↦
          subst (AreLongestRuns goes (t ∷ b ∷ ts)) (sym (runs ∙ cond-true (goes t b) ((t ∷ b ∷ rest.more) ∷ rest.others) ((t ∷ []) ∷ (b ∷ rest.more) ∷ rest.others) goes_on))
          (joined_longest goes t b ts rest.more rest.others goes_on later)
      | inr ends ↦
          subst (AreLongestRuns goes (t ∷ b ∷ ts)) (sym (runs ∙ cond-false (goes t b) ((t ∷ b ∷ rest.more) ∷ rest.others) ((t ∷ []) ∷ (b ∷ rest.more) ∷ rest.others) ends))
          (apart_longest goes t b ts rest.more rest.others ends later)
    ]

-- ---- and no others are

heads : {x y : ℕ} {xs ys : List ℕ} → x ∷ xs ≡ y ∷ ys → x ≡ y
heads e = cc

tails : {x y : ℕ} {xs ys : List ℕ} → x ∷ xs ≡ y ∷ ys → xs ≡ ys
tails e = cc

-- the runs but for the first trip
first_off : (goes : ℕ → ℕ → Bool) (t b : ℕ) (ts more : List ℕ) (others : List (List ℕ)) → AreLongestRuns goes (t ∷ ts) ((t ∷ b ∷ more) ∷ others) → AreLongestRuns goes ts ((b ∷ more) ∷ others)
first_off goes t b ts more others are = record {
  whole = tails are.whole;
  some = All-cons IsSome (b ∷ more) others (omega arith) (All-tail IsSome (t ∷ b ∷ more) others are.some);
  go_on = All-cons (GoOn goes) (b ∷ more) others (λ k x y at next. All-head (GoOn goes) (t ∷ b ∷ more) others are.go_on (suc k) x y at next) (All-tail (GoOn goes) (t ∷ b ∷ more) others are.go_on);
  longest = apart;
}
  where
    apart : (r : ℕ) (run next : List ℕ) → slice_get ((b ∷ more) ∷ others) r ≡ Some run → slice_get ((b ∷ more) ∷ others) (suc r) ≡ Some next → goes (last_trip_of run) (first_of next) ≡ false
    apart zero run next at after =
        let same : (b ∷ more) ≡ run = cc in
        subst (λ (xs : List ℕ). goes (last_trip_of xs) (first_of next) ≡ false) same (are.longest zero (t ∷ b ∷ more) next refl after)
    apart (suc r) run next at after = are.longest (suc r) run next at after

run_off : (goes : ℕ → ℕ → Bool) (t : ℕ) (ts : List ℕ) (others : List (List ℕ)) → AreLongestRuns goes (t ∷ ts) ((t ∷ []) ∷ others) → AreLongestRuns goes ts others
run_off goes t ts others are = record {
  whole = tails are.whole;
  some = All-tail IsSome (t ∷ []) others are.some;
  go_on = All-tail (GoOn goes) (t ∷ []) others are.go_on;
  longest = λ r run next at after. are.longest (suc r) run next at after;
}

no_others : (goes : ℕ → ℕ → Bool) (trips : List ℕ) (runs : List (List ℕ)) → AreLongestRuns goes trips runs → runs ≡ runs_of goes trips
no_others goes [] [] are = refl
no_others goes [] (run ∷ runs) are = absurd (empty run runs are.whole (All-head IsSome run runs are.some))
  where
    empty : (run : List ℕ) (runs : List (List ℕ)) → run ++ flat_map (λ run. run) runs ≡ [] → 1 ≤ length run → ⊥
    empty [] runs whole some = absurd (omega (arith, some))
    empty (x ∷ run) runs whole some = absurd cc
no_others goes (t ∷ ts) [] are = absurd (nothing are.whole)
  where
    nothing : [] ≡ t ∷ ts → ⊥
    nothing e = absurd cc
no_others goes (t ∷ ts) ([] ∷ others) are = absurd (let some = All-head IsSome [] others are.some in omega (arith, some))
no_others goes (t ∷ ts) ((x ∷ []) ∷ others) are =
    let same : x ≡ t = heads are.whole in
    let ours : AreLongestRuns goes (t ∷ ts) ((t ∷ []) ∷ others) = subst (λ (z : ℕ). AreLongestRuns goes (t ∷ ts) ((z ∷ []) ∷ others)) same are in
    let rest : others ≡ runs_of goes ts = no_others goes ts others (run_off goes t ts others ours) in
    ap (λ (z : ℕ). (z ∷ []) ∷ others) same ∙ by others ours ∙ ap (with_trip goes t) rest
  where
    by : (others : List (List ℕ)) → AreLongestRuns goes (t ∷ ts) ((t ∷ []) ∷ others) → (t ∷ []) ∷ others ≡ with_trip goes t others
    by [] ours = refl
    by (run ∷ runs) ours = sym (cond-false (goes t (first_of run)) ((t ∷ run) ∷ runs) ((t ∷ []) ∷ run ∷ runs) (ours.longest zero (t ∷ []) run refl refl))
no_others goes (t ∷ ts) ((x ∷ b ∷ more) ∷ others) are =
    let same : x ≡ t = heads are.whole in
    let ours : AreLongestRuns goes (t ∷ ts) ((t ∷ b ∷ more) ∷ others) = subst (λ (z : ℕ). AreLongestRuns goes (t ∷ ts) ((z ∷ b ∷ more) ∷ others)) same are in
    let rest : (b ∷ more) ∷ others ≡ runs_of goes ts = no_others goes ts ((b ∷ more) ∷ others) (first_off goes t b ts more others ours) in
    let goes_on : goes t b ≡ true = All-head (GoOn goes) (t ∷ b ∷ more) others ours.go_on zero t b refl refl in
    ap (λ (z : ℕ). (z ∷ b ∷ more) ∷ others) same
    ∙ sym (cond-true (goes t b) ((t ∷ b ∷ more) ∷ others) ((t ∷ []) ∷ (b ∷ more) ∷ others) goes_on)
    ∙ ap (with_trip goes t) rest

pub runs_are_longest : RunsAreLongest
runs_are_longest goes trips runs =
    (λ is. subst (AreLongestRuns goes trips) (sym is) (are_longest goes trips), λ are. no_others goes trips runs are)
