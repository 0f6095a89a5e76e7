-- Runs of trips of which some leave before a minute and the others then or later.
use Rattle.std.proofs.Common.{◌≡◌, ℕ, ◌≤◌, ◌<◌, Bool, true, false, List, [], ◌∷◌, ◌++◌, map, refl, sym, ap, ◌∙◌, subst, arith, inl, inr}
use Rattle.std.specs.Prelude.{if◌then◌else◌, filter, nat_lt, not}
use Rattle.std.specs.List.{All}
use Rattle.std.proofs.lemmas.Bool.{cases_Bool, cond-true, cond-false, lt-ltb, le-ltb}
use Rattle.std.proofs.lemmas.List.{append-nil}
use Rattle.std.proofs.lemmas.List.Elements.{All-nil, All-cons, All-head, All-tail, filter-append}
use Rattle.timetable.specs.Day.{Day, leaves, ready_at}
use Rattle.timetable.specs.Lists.{count_of}
use Rattle.timetable.proofs.Ones.{one_same}
use Rattle.urgent_units.specs.declared.legs.Leg.{Leg}
use Rattle.urgent_units.specs.Exchanges.{legs_before, legs_from}
use Rattle.urgent_units.specs.Legs.{leg_of}
use Rattle.urgent_units.specs.Runs.{runs_of, with_trip, first_of, last_from}

-- ---- the first run

-- the first run of trips begins with the first of them, and has no others
pub record FirstRun (goes : ℕ → ℕ → Bool) (t : ℕ) (ts : List ℕ) : Type 0 where
  pub more : List ℕ
  pub others : List (List ℕ)
  pub is : runs_of goes (t ∷ ts) ≡ (t ∷ more) ∷ others
  pub last : 1 ≤ count_of (last_from t more) (t ∷ ts)

pub first_run : (goes : ℕ → ℕ → Bool) (t : ℕ) (ts : List ℕ) → FirstRun goes t ts
first_run goes t [] = record { more = []; others = []; is = refl; last = (let one = one_same t t refl in omega (arith, one)) }
first_run goes t (b ∷ ts) =
    let rest = first_run goes b ts in
    let runs = ap (with_trip goes t) rest.is in
    elim (cases_Bool (goes t b)) [
      | inl goes_on ↦ record {
        more = b ∷ rest.more;
        others = rest.others;
        is = runs ∙ cond-true (goes t b) ((t ∷ b ∷ rest.more) ∷ rest.others) ((t ∷ []) ∷ (b ∷ rest.more) ∷ rest.others) goes_on;
        last = (let there = rest.last in omega (arith, there));
      }
      | inr ends ↦ record {
        more = [];
        others = (b ∷ rest.more) ∷ rest.others;
        is = runs ∙ cond-false (goes t b) ((t ∷ b ∷ rest.more) ∷ rest.others) ((t ∷ []) ∷ (b ∷ rest.more) ∷ rest.others) ends;
        last = (let one = one_same t t refl in omega (arith, one));
      }
    ]

-- ---- runs one after another

-- trips whose last one doesn't go on to the first of the others
abbrev pub Part : (ℕ → ℕ → Bool) → List ℕ → List ℕ → Type 0
Part goes [] bs = Unit {0}
Part goes (t ∷ ts) [] = Unit {0}
Part goes (t ∷ ts) (b ∷ bs) = goes (last_from t ts) b ≡ false

runs_joined : (goes : ℕ → ℕ → Bool) (t : ℕ) (ts : List ℕ) (b : ℕ) (bs : List ℕ) → goes (last_from t ts) b ≡ false → runs_of goes ((t ∷ ts) ++ b ∷ bs) ≡ runs_of goes (t ∷ ts) ++ runs_of goes (b ∷ bs)
runs_joined goes t [] b bs ends =
    let rest = first_run goes b bs in
    ap (with_trip goes t) rest.is
    ∙ cond-false (goes t b) ((t ∷ b ∷ rest.more) ∷ rest.others) ((t ∷ []) ∷ (b ∷ rest.more) ∷ rest.others) ends
    ∙ ap (λ (runs : List (List ℕ)). (t ∷ []) ∷ runs) (sym rest.is)
runs_joined goes t (c ∷ ts) b bs ends =
    let later = runs_joined goes c ts b bs ends in
    let rest = first_run goes c ts in
    let more = runs_of goes (b ∷ bs) in
    ap (with_trip goes t) (later ∙ ap (λ (runs : List (List ℕ)). runs ++ more) rest.is)
    ∙ either (goes t c) (c ∷ rest.more) rest.others more
    ∙ ap (λ (runs : List (List ℕ)). with_trip goes t runs ++ more) (sym rest.is)
  where
    either : (x : Bool) (run : List ℕ) (others more : List (List ℕ)) → (if x then (t ∷ run) ∷ (others ++ more) else (t ∷ []) ∷ run ∷ (others ++ more)) ≡ (if x then (t ∷ run) ∷ others else (t ∷ []) ∷ run ∷ others) ++ more
    either true run others more = refl
    either false run others more = refl

pub runs_apart : (goes : ℕ → ℕ → Bool) (ts bs : List ℕ) → Part goes ts bs → runs_of goes (ts ++ bs) ≡ runs_of goes ts ++ runs_of goes bs
runs_apart goes [] bs part = refl
runs_apart goes (t ∷ ts) [] part = ap (λ (xs : List ℕ). runs_of goes xs) (append-nil (t ∷ ts)) ∙ sym (append-nil (runs_of goes (t ∷ ts)))
runs_apart goes (t ∷ ts) (b ∷ bs) part = runs_joined goes t ts b bs part

pub runs_same : (goes other : ℕ → ℕ → Bool) (ts : List ℕ) → ((a b : ℕ) → 1 ≤ count_of a ts → goes a b ≡ other a b) → runs_of goes ts ≡ runs_of other ts
runs_same goes other [] same = refl
runs_same goes other (t ∷ ts) same =
    ap (with_trip goes t) (runs_same goes other ts (λ a b there. same a b (omega (arith, there)))) ∙ first (runs_of other ts)
  where
    first : (runs : List (List ℕ)) → with_trip goes t runs ≡ with_trip other t runs
    first [] = refl
    first (run ∷ runs) = ap (λ (x : Bool). if x then (t ∷ run) ∷ runs else (t ∷ []) ∷ run ∷ runs) (same t (first_of run) (let one = one_same t t refl in omega (arith, one)))

-- ---- their legs

module _ (day : Day) (goes : ℕ → ℕ → Bool) where
  abbrev pub legs_over : List ℕ → List Leg
  legs_over ts = map (leg_of day) (runs_of goes ts)

  -- what holds of a leg with one trip more in front holds of the leg, if it speaks of the end alone
  fewer : (P : ℕ → Type 0) (t c : ℕ) (ts : List ℕ) → All (λ leg. P leg.ready) (legs_over (t ∷ c ∷ ts)) → All (λ leg. P leg.ready) (legs_over (c ∷ ts))
  fewer P t c ts each =
      let rest = first_run goes c ts in
      let runs = ap (with_trip goes t) rest.is in
      let E : Leg → Type 0 = λ leg. P leg.ready in
      subst (λ (runs : List (List ℕ)). All E (map (leg_of day) runs)) (sym rest.is)
      (elim (cases_Bool (goes t c)) [
        | inl goes_on ↦
            let is = runs ∙ cond-true (goes t c) ((t ∷ c ∷ rest.more) ∷ rest.others) ((t ∷ []) ∷ (c ∷ rest.more) ∷ rest.others) goes_on in
            let all = subst (λ (runs : List (List ℕ)). All E (map (leg_of day) runs)) is each in
            All-cons E (leg_of day (c ∷ rest.more)) (map (leg_of day) rest.others) (All-head E (leg_of day (t ∷ c ∷ rest.more)) (map (leg_of day) rest.others) all)
            (All-tail E (leg_of day (t ∷ c ∷ rest.more)) (map (leg_of day) rest.others) all)
        | inr ends ↦
            let is = runs ∙ cond-false (goes t c) ((t ∷ c ∷ rest.more) ∷ rest.others) ((t ∷ []) ∷ (c ∷ rest.more) ∷ rest.others) ends in
            let all = subst (λ (runs : List (List ℕ)). All E (map (leg_of day) runs)) is each in
            All-tail E (leg_of day (t ∷ [])) (map (leg_of day) ((c ∷ rest.more) ∷ rest.others)) all
      ])

  -- the last trip brings the last leg to its end
  pub last_holds : (P : ℕ → Type 0) (ts : List ℕ) (t : ℕ) → All (λ leg. P leg.ready) (legs_over (t ∷ ts)) → P (ready_at day (last_from t ts))
  last_holds P [] t each = each 0 (leg_of day (t ∷ [])) (omega arith)
  last_holds P (c ∷ ts) t each = last_holds P ts c (fewer P t c ts each)

  -- each leg leaves with one of the trips
  pub legs_leave : (P : ℕ → Type 0) (ts : List ℕ) → ((x : ℕ) → 1 ≤ count_of x ts → P (leaves day x)) → All (λ leg. P leg.departs) (legs_over ts)
  legs_leave P [] holds = All-nil (λ (leg : Leg). P leg.departs)
  legs_leave P (t ∷ []) holds =
      All-cons (λ (leg : Leg). P leg.departs) (leg_of day (t ∷ [])) [] (holds t (let one = one_same t t refl in omega (arith, one))) (All-nil (λ (leg : Leg). P leg.departs))
  legs_leave P (t ∷ c ∷ ts) holds =
      let rest = first_run goes c ts in
      let runs = ap (with_trip goes t) rest.is in
      let E : Leg → Type 0 = λ leg. P leg.departs in
      let here = holds t (let one = one_same t t refl in omega (arith, one)) in
      let all = subst (λ (runs : List (List ℕ)). All E (map (leg_of day) runs)) rest.is (legs_leave P (c ∷ ts) (λ x there. holds x (omega (arith, there)))) in
      elim (cases_Bool (goes t c)) [
        | inl goes_on ↦
            let is = runs ∙ cond-true (goes t c) ((t ∷ c ∷ rest.more) ∷ rest.others) ((t ∷ []) ∷ (c ∷ rest.more) ∷ rest.others) goes_on in
            subst (λ (runs : List (List ℕ)). All E (map (leg_of day) runs)) (sym is)
            (All-cons E (leg_of day (t ∷ c ∷ rest.more)) (map (leg_of day) rest.others) here (All-tail E (leg_of day (c ∷ rest.more)) (map (leg_of day) rest.others) all))
        | inr ends ↦
            let is = runs ∙ cond-false (goes t c) ((t ∷ c ∷ rest.more) ∷ rest.others) ((t ∷ []) ∷ (c ∷ rest.more) ∷ rest.others) ends in
            subst (λ (runs : List (List ℕ)). All E (map (leg_of day) runs)) (sym is)
            (All-cons E (leg_of day (t ∷ [])) (map (leg_of day) ((c ∷ rest.more) ∷ rest.others)) here all)
      ]

  -- ---- at a minute

  module _ (minute : ℕ) where
    abbrev pub Back : Leg → Type 0
    Back leg = leg.departs < minute → leg.ready ≤ minute

    -- where each leg that has left before the minute is back at it, none goes on over it
    pub none_over : (ts : List ℕ) (t b : ℕ) (bs : List ℕ) → ((x : ℕ) → 1 ≤ count_of x (t ∷ ts) → leaves day x < minute) → ((x : ℕ) → 1 ≤ count_of x (b ∷ bs) → (minute ≤ leaves day x) × (leaves day x < ready_at day x))
        → All Back (legs_over ((t ∷ ts) ++ b ∷ bs)) → goes (last_from t ts) b ≡ false
    none_over [] t b bs early late each = elim (cases_Bool (goes t b)) [
      | inr ends ↦ ends
      | inl goes_on ↦
          let rest = first_run goes b bs in
          let is = ap (with_trip goes t) rest.is ∙ cond-true (goes t b) ((t ∷ b ∷ rest.more) ∷ rest.others) ((t ∷ []) ∷ (b ∷ rest.more) ∷ rest.others) goes_on in
          let all = subst (λ (runs : List (List ℕ)). All Back (map (leg_of day) runs)) is each in
          let back = All-head Back (leg_of day (t ∷ b ∷ rest.more)) (map (leg_of day) rest.others) all (early t (let one = one_same t t refl in omega (arith, one))) in
          let far = late (last_from b rest.more) rest.last in
          absurd (omega (arith, back, far.0, far.1))
    ]
    none_over (c ∷ ts) t b bs early late each =
        let rest = first_run goes c (ts ++ b ∷ bs) in
        let runs = ap (with_trip goes t) rest.is in
        none_over ts c b bs (λ x there. early x (omega (arith, there))) late
        (subst (λ (runs : List (List ℕ)). All Back (map (leg_of day) runs)) (sym rest.is)
        (elim (cases_Bool (goes t c)) [
          | inl goes_on ↦
              let is = runs ∙ cond-true (goes t c) ((t ∷ c ∷ rest.more) ∷ rest.others) ((t ∷ []) ∷ (c ∷ rest.more) ∷ rest.others) goes_on in
              let all = subst (λ (runs : List (List ℕ)). All Back (map (leg_of day) runs)) is each in
              let back = All-head Back (leg_of day (t ∷ c ∷ rest.more)) (map (leg_of day) rest.others) all (early t (let one = one_same t t refl in omega (arith, one))) in
              All-cons Back (leg_of day (c ∷ rest.more)) (map (leg_of day) rest.others) (λ _. back) (All-tail Back (leg_of day (t ∷ c ∷ rest.more)) (map (leg_of day) rest.others) all)
          | inr ends ↦
              let is = runs ∙ cond-false (goes t c) ((t ∷ c ∷ rest.more) ∷ rest.others) ((t ∷ []) ∷ (c ∷ rest.more) ∷ rest.others) ends in
              let all = subst (λ (runs : List (List ℕ)). All Back (map (leg_of day) runs)) is each in
              All-tail Back (leg_of day (t ∷ [])) (map (leg_of day) ((c ∷ rest.more) ∷ rest.others)) all
        ]))

    filter_all : (p : Leg → Bool) (legs : List Leg) → All (λ leg. p leg ≡ true) legs → filter p legs ≡ legs
    filter_all p [] all = refl
    filter_all p (leg ∷ legs) all =
        cond-true (p leg) (leg ∷ filter p legs) (filter p legs) (All-head (λ (leg : Leg). p leg ≡ true) leg legs all)
        ∙ ap (λ (xs : List Leg). leg ∷ xs) (filter_all p legs (All-tail (λ (leg : Leg). p leg ≡ true) leg legs all))

    filter_none : (p : Leg → Bool) (legs : List Leg) → All (λ leg. p leg ≡ false) legs → filter p legs ≡ []
    filter_none p [] all = refl
    filter_none p (leg ∷ legs) all =
        cond-false (p leg) (leg ∷ filter p legs) (filter p legs) (All-head (λ (leg : Leg). p leg ≡ false) leg legs all)
        ∙ filter_none p legs (All-tail (λ (leg : Leg). p leg ≡ false) leg legs all)

    module _ (ts bs : List ℕ) (early : (x : ℕ) → 1 ≤ count_of x ts → leaves day x < minute) (late : (x : ℕ) → 1 ≤ count_of x bs → minute ≤ leaves day x) where
      -- the legs before the minute are those over the trips before it
      pub before_are : legs_before minute (legs_over ts ++ legs_over bs) ≡ legs_over ts
      before_are =
          let p : Leg → Bool = λ leg. nat_lt leg.departs minute in
          filter-append p (legs_over ts) (legs_over bs)
          ∙ ap (λ (xs : List Leg). xs ++ filter p (legs_over bs)) (filter_all p (legs_over ts) (legs_leave (λ m. nat_lt m minute ≡ true) ts (λ x there. lt-ltb (leaves day x) minute (early x there))))
          ∙ ap (λ (xs : List Leg). legs_over ts ++ xs) (filter_none p (legs_over bs) (legs_leave (λ m. nat_lt m minute ≡ false) bs (λ x there. le-ltb (leaves day x) minute (late x there))))
          ∙ append-nil (legs_over ts)

      pub from_are : legs_from minute (legs_over ts ++ legs_over bs) ≡ legs_over bs
      from_are =
          let p : Leg → Bool = λ leg. not (nat_lt leg.departs minute) in
          filter-append p (legs_over ts) (legs_over bs)
          ∙ ap (λ (xs : List Leg). xs ++ filter p (legs_over bs)) (filter_none p (legs_over ts) (legs_leave (λ m. not (nat_lt m minute) ≡ false) ts (λ x there. ap not (lt-ltb (leaves day x) minute (early x there)))))
          ∙ filter_all p (legs_over bs) (legs_leave (λ m. not (nat_lt m minute) ≡ true) bs (λ x there. ap not (le-ltb (leaves day x) minute (late x there))))
