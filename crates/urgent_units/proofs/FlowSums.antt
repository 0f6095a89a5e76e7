-- What flows into the moments of a station up to one of them, and what flows out of these.
use Rattle.std.proofs.Common.{◌≡◌, ◌≢◌, ℕ, zero, suc, ◌+◌, ◌-◌, ◌≤◌, ◌<◌, Bool, true, false, List, [], ◌∷◌, ◌++◌, append_assoc, length, map, take, drop, get_or, refl, sym, ap, ◌∙◌, subst, arith, inl, inr, ◌⊎◌}
use Rattle.std.specs.Prelude.{if◌then◌else◌, ◌&&◌, ◌==◌, nat_le, nat_lt}
use Rattle.std.specs.List.{All, sum_by}
use Rattle.std.proofs.lemmas.Bool.{cases_Bool, cases_lt, cases_eq, cond-true, cond-false, eq-eqb, eqb-true, le-leb, leb-true, lt-ltb, le-ltb, false≢true}
use Rattle.std.proofs.lemmas.List.{map-append}
use Rattle.std.proofs.lemmas.List.Elements.{All-head, All-tail, All-append, All-nil, All-cons}
use Rattle.std.proofs.lemmas.List.Sums.{sum_by-cons, sum_by-append}
use Rattle.flow_network.specs.declared.network.Arc.{Arc}
use Rattle.flow_network.specs.Flows.{IsFlow, IsSameNet, Net, empty}
use Rattle.flow_network.proofs.Largest.{crossing, kept_in}
use Rattle.timetable.specs.Accepted.{IsDay}
use Rattle.timetable.specs.Day.{Day, home_of}
use Rattle.timetable.specs.Lists.{count_of, joined, listed, sum_below}
use Rattle.timetable.proofs.Ones.{one_same}
use Rattle.urgent_units.specs.declared.legs.Leg.{Leg}
use Rattle.urgent_units.specs.declared.legs.UnitLegs.{UnitLegs}
use Rattle.urgent_units.specs.declared.wish.Wish.{Wish}
use Rattle.urgent_units.specs.Held.{held}
use Rattle.urgent_units.specs.LegParts.{AreLegs, IsLegAt}
use Rattle.urgent_units.specs.Legs.{TypeLegs, all_legs}
use Rattle.urgent_units.specs.Moments.{minutes_at, moment_count, moment_of}
use Rattle.urgent_units.specs.UnderWay.{added, ones}
use Rattle.urgent_units.specs.Wishes.{IsWish}
use Rattle.urgent_units.specs.YardFlow.{marked_from, taken_units}
use Rattle.urgent_units.specs.YardNetwork.{home_arc, leg_arc, node_of, source_of, wait_arc, wait_arcs, yard_arcs, yard_network}
use Rattle.urgent_units.proofs.CutNodes.{part_below}
use Rattle.urgent_units.proofs.Moments.{earlier_within}
use Rattle.urgent_units.proofs.NetworkCapacity.{all_joined, capacity_empty}

refuted : (b : Bool) → (b ≡ true → ⊥) → b ≡ false
refuted true h = absurd (h refl)
refuted false h = refl

-- ---- the arcs in parts

pub record Parts (xs ys arcs : List Arc) : Type 0 where
  pub is : arcs ≡ take (length xs) arcs ++ drop (length xs) arcs
  pub front : map empty (take (length xs) arcs) ≡ xs
  pub back : map empty (drop (length xs) arcs) ≡ ys

pub parts : (xs ys arcs : List Arc) → map empty arcs ≡ xs ++ ys → Parts xs ys arcs
parts [] ys arcs same = record { is = refl; front = refl; back = same }
parts (x ∷ xs) ys [] same = absurd cc
parts (x ∷ xs) ys (a ∷ arcs) same =
    let head : empty a ≡ x = cc in
    let tail : map empty arcs ≡ xs ++ ys = cc in
    let rest = parts xs ys arcs tail in
    record {
      is = ap (λ (arcs : List Arc). a ∷ arcs) rest.is;
      front = ap (λ (y : Arc). y ∷ map empty (take (length xs) arcs)) head ∙ ap (λ (arcs : List Arc). x ∷ arcs) rest.front;
      back = rest.back;
    }

all_first : {X : Type 0} (P : X → Type 0) (xs ys : List X) → All P (xs ++ ys) → All P xs
all_first P [] ys each = All-nil P
all_first P (x ∷ xs) ys each = All-cons P x xs (All-head P x (xs ++ ys) each) (all_first P xs ys (All-tail P x (xs ++ ys) each))

all_second : {X : Type 0} (P : X → Type 0) (xs ys : List X) → All P (xs ++ ys) → All P ys
all_second P [] ys each = each
all_second P (x ∷ xs) ys each = all_second P xs ys (All-tail P x (xs ++ ys) each)

-- arcs along which nothing goes stay so
empty_map : {X : Type 0} (f : X → Arc) (xs : List X) → ((x : X) → empty (f x) ≡ f x) → map empty (map f xs) ≡ map f xs
empty_map f [] same = refl
empty_map f (x ∷ xs) same = ap (λ (a : Arc). a ∷ map empty (map f xs)) (same x) ∙ ap (λ (arcs : List Arc). f x ∷ arcs) (empty_map f xs same)

empty_listed : (f : ℕ → Arc) (n : ℕ) → ((k : ℕ) → empty (f k) ≡ f k) → map empty (listed f n) ≡ listed f n
empty_listed f zero same = refl
empty_listed f (suc n) same =
    map-append empty (listed f n) (f n ∷ []) ∙ ap (λ (arcs : List Arc). arcs ++ empty (f n) ∷ []) (empty_listed f n same) ∙ ap (λ (a : Arc). listed f n ++ a ∷ []) (same n)

empty_joined : (f : ℕ → List Arc) (n : ℕ) → ((k : ℕ) → map empty (f k) ≡ f k) → map empty (joined f n) ≡ joined f n
empty_joined f zero same = refl
empty_joined f (suc n) same =
    map-append empty (joined f n) (f n) ∙ ap (λ (arcs : List Arc). arcs ++ map empty (f n)) (empty_joined f n same) ∙ ap (λ (arcs : List Arc). joined f n ++ arcs) (same n)

pub empty_yard_arcs : (day : Day) (legs : TypeLegs) (wish : Wish) → map empty (yard_arcs day legs wish) ≡ map (leg_arc legs) (all_legs legs) ++ (map (home_arc day legs) wish.units ++ joined (wait_arcs legs) legs.stations)
empty_yard_arcs day legs wish =
    let ls = map (leg_arc legs) (all_legs legs) in
    let hs = map (home_arc day legs) wish.units in
    let ws = joined (wait_arcs legs) legs.stations in
    ap (map empty) (append_assoc ls hs ws)
    ∙ map-append empty ls (hs ++ ws)
    ∙ ap (λ (arcs : List Arc). arcs ++ map empty (hs ++ ws)) (empty_map (leg_arc legs) (all_legs legs) (λ leg. refl))
    ∙ ap (λ (arcs : List Arc). ls ++ arcs) (map-append empty hs ws
    ∙ ap (λ (arcs : List Arc). arcs ++ map empty ws) (empty_map (home_arc day legs) wish.units (λ u. refl))
    ∙ ap (λ (arcs : List Arc). hs ++ arcs) (empty_joined (wait_arcs legs) legs.stations (λ s. empty_listed (wait_arc legs s) (moment_count legs s - 1) (λ k. refl))))

-- ---- one unit at the most

ones_flow : (b : Bool) (n : ℕ) → n ≤ 1 → (if b then n else 0) ≡ ones (nat_lt 0 n && b)
ones_flow b n few = elim (cases_lt 0 n) [
  | inl some ↦ by_some b (omega (arith, some, few)) ∙ ap (λ (x : Bool). ones (x && b)) (sym (lt-ltb 0 n some))
  | inr none ↦ by_none b (omega (arith, none)) ∙ ap (λ (x : Bool). ones (x && b)) (sym (le-ltb 0 n none))
]
  where
    by_some : (b : Bool) → n ≡ 1 → (if b then n else 0) ≡ ones (true && b)
    by_some true one = one
    by_some false one = refl

    by_none : (b : Bool) → n ≡ 0 → (if b then n else 0) ≡ ones (false && b)
    by_none true none = none
    by_none false none = refl

abbrev Within : Arc → Type 0
Within a = a.flow ≤ a.capacity

module _ (legs : TypeLegs) (r : ℕ → Bool) where
  -- along legs, by what is said of their ends
  legs_sum : (e : Arc → ℕ) → ((a : Arc) → e (empty a) ≡ e a) → (test : Leg → Bool) (ls : List Leg) (arcs : List Arc) → map empty arcs ≡ map (leg_arc legs) ls → All Within arcs → All (λ leg. r (e (leg_arc legs leg)) ≡ test leg) ls
      → sum_by (λ a. if r (e a) then a.flow else 0) arcs ≡ added (λ x. ones (x.is_brought && test x.leg)) (marked_from ls arcs)
  legs_sum e keeps test [] [] same within each = refl
  legs_sum e keeps test [] (a ∷ arcs) same within each = absurd cc
  legs_sum e keeps test (leg ∷ ls) [] same within each = absurd cc
  legs_sum e keeps test (leg ∷ ls) (a ∷ arcs) same within each =
      let head : empty a ≡ leg_arc legs leg = cc in
      let tail : map empty arcs ≡ map (leg_arc legs) ls = cc in
      let rest = legs_sum e keeps test ls arcs tail (All-tail Within a arcs within) (All-tail (λ (leg : Leg). r (e (leg_arc legs leg)) ≡ test leg) leg ls each) in
      let capacity = ap (λ (a : Arc). a.capacity) head in
      let few = All-head Within a arcs within in
      let is : r (e a) ≡ test leg = ap r (sym (keeps a) ∙ ap e head) ∙ All-head (λ (leg : Leg). r (e (leg_arc legs leg)) ≡ test leg) leg ls each in
      let one = ap (λ (b : Bool). if b then a.flow else 0) is ∙ ones_flow (test leg) a.flow (omega (arith, capacity, few)) in
      omega (arith, sum_by-cons (λ a. if r (e a) then a.flow else 0) a arcs, rest, one)

  -- from the source to homes
  homes_sum : (day : Day) (test : ℕ → Bool) (us : List ℕ) (arcs : List Arc) → map empty arcs ≡ map (home_arc day legs) us → All Within arcs → ((u : ℕ) → 1 ≤ count_of u us → r (node_of legs (home_of day u) 0) ≡ test u)
      → sum_by (λ a. if r a.to then a.flow else 0) arcs ≡ added (λ u. ones (test u)) (taken_units us arcs)
  homes_sum day test [] [] same within each = refl
  homes_sum day test [] (a ∷ arcs) same within each = absurd cc
  homes_sum day test (u ∷ us) [] same within each = absurd cc
  homes_sum day test (u ∷ us) (a ∷ arcs) same within each =
      let head : empty a ≡ home_arc day legs u = cc in
      let tail : map empty arcs ≡ map (home_arc day legs) us = cc in
      let rest = homes_sum day test us arcs tail (All-tail Within a arcs within) (λ v there. each v (omega (arith, there))) in
      let capacity = ap (λ (a : Arc). a.capacity) head in
      let few = All-head Within a arcs within in
      let is : r a.to ≡ test u = ap (λ (a : Arc). r a.to) head ∙ each u (let one = one_same u u refl in omega (arith, one)) in
      let one = ap (λ (b : Bool). if b then a.flow else 0) is ∙ ones_flow (test u) a.flow (omega (arith, capacity, few)) in
      omega (arith, sum_by-cons (λ a. if r a.to then a.flow else 0) a arcs, rest, one, either (nat_lt 0 a.flow))
    where
      either : (b : Bool) → added (λ u. ones (test u)) (if b then u ∷ taken_units us arcs else taken_units us arcs) ≡ ones (b && test u) + added (λ u. ones (test u)) (taken_units us arcs)
      either true = refl
      either false = omega arith

  -- nothing from homes
  no_homes : (day : Day) (us : List ℕ) (arcs : List Arc) → map empty arcs ≡ map (home_arc day legs) us → r (source_of legs) ≡ false → sum_by (λ a. if r a.from then a.flow else 0) arcs ≡ 0
  no_homes day [] [] same out = refl
  no_homes day [] (a ∷ arcs) same out = absurd cc
  no_homes day (u ∷ us) [] same out = absurd cc
  no_homes day (u ∷ us) (a ∷ arcs) same out =
      let head : empty a ≡ home_arc day legs u = cc in
      let tail : map empty arcs ≡ map (home_arc day legs) us = cc in
      let rest = no_homes day us arcs tail out in
      let one = cond-false {A = ℕ} (r a.from) a.flow 0 (ap (λ (a : Arc). r a.from) head ∙ out) in
      omega (arith, sum_by-cons (λ a. if r a.from then a.flow else 0) a arcs, rest, one)

  -- what comes to nodes in arcs that lead to none of these from others leaves these too
  abbrev Stays : Arc → Type 0
  Stays a = r a.to ≡ true → r a.from ≡ true

  waits_in : (arcs ws : List Arc) → map empty arcs ≡ ws → All Stays ws → sum_by (λ a. if r a.to then a.flow else 0) arcs ≤ sum_by (λ a. if r a.from then a.flow else 0) arcs
  waits_in [] ws same each = omega arith
  waits_in (a ∷ arcs) [] same each = absurd cc
  waits_in (a ∷ arcs) (w ∷ ws) same each =
      let head : empty a ≡ w = cc in
      let tail : map empty arcs ≡ ws = cc in
      let rest = waits_in arcs ws tail (All-tail Stays w ws each) in
      let stays : r a.to ≡ true → r a.from ≡ true = λ h. ap (λ (a : Arc). r a.from) head ∙ All-head Stays w ws each (sym (ap (λ (a : Arc). r a.to) head) ∙ h) in
      omega (arith, sum_by-cons (λ a. if r a.to then a.flow else 0) a arcs, sum_by-cons (λ a. if r a.from then a.flow else 0) a arcs, rest, less (r a.to) (r a.from) a.flow stays)
    where
      less : (b c : Bool) (n : ℕ) → (b ≡ true → c ≡ true) → (if b then n else 0) ≤ (if c then n else 0)
      less true c n so = omega (arith, cond-true {A = ℕ} c n 0 (so refl))
      less false c n so = omega arith

  -- and what leaves these comes to them, or goes out of them
  waits_out : (arcs : List Arc) → All Within arcs → sum_by (λ a. if r a.from then a.flow else 0) arcs ≤ sum_by (λ a. if r a.to then a.flow else 0) arcs + sum_by (crossing r) arcs
  waits_out [] within = omega arith
  waits_out (a ∷ arcs) within =
      let rest = waits_out arcs (All-tail Within a arcs within) in
      omega (arith, sum_by-cons (λ a. if r a.to then a.flow else 0) a arcs, sum_by-cons (λ a. if r a.from then a.flow else 0) a arcs, sum_by-cons (crossing r) a arcs, rest, one (r a.from) (r a.to) (All-head Within a arcs within))
    where
      one : (b c : Bool) → a.flow ≤ a.capacity → (if b then a.flow else 0) ≤ (if c then a.flow else 0) + (if b then (if c then 0 else a.capacity) else 0)
      one true true le = omega arith
      one true false le = omega (arith, le)
      one false c le = omega arith

pub all_listed : {X : Type 0} (P : X → Type 0) (f : ℕ → X) (n : ℕ) → ((k : ℕ) → k < n → P (f k)) → All P (listed f n)
all_listed P f zero each = All-nil P
all_listed P f (suc n) each = All-append P (listed f n) (f n ∷ []) (all_listed P f n (λ k below. each k (omega (arith, below)))) (All-cons P (f n) [] (each n (omega arith)) (All-nil P))

pub all_joined_up : {X : Type 0} (P : X → Type 0) (f : ℕ → List X) (n : ℕ) → ((k : ℕ) → k < n → All P (f k)) → All P (joined f n)
all_joined_up P f zero each = All-nil P
all_joined_up P f (suc n) each = All-append P (joined f n) (f n) (all_joined_up P f n (λ k below. each k (omega (arith, below)))) (each n (omega arith))

-- ---- the moments of a station up to one of them

module _ (legs : TypeLegs) (s last : ℕ) (at_s : s < legs.stations) (at_last : last < moment_count legs s) where
  abbrev base : ℕ
  base = sum_below (moment_count legs) s

  abbrev pub up_to : ℕ → Bool
  up_to n = nat_le base n && nat_le n (base + last)

  interval : (t k : ℕ) → t < legs.stations → k < moment_count legs t → up_to (node_of legs t k) ≡ ((t == s) && nat_le k last)
  interval t k at_t at_k = elim (cases_lt t s) [
    | inl before ↦
        let less = part_below (moment_count legs) t s k before at_k in
        ap (λ (b : Bool). b && nat_le (node_of legs t k) (base + last)) (refuted (nat_le base (node_of legs t k)) (λ h. absurd (let le = leb-true base (node_of legs t k) h in omega (arith, le, less))))
        ∙ sym (ap (λ (b : Bool). b && nat_le k last) (not_same t s (λ e. absurd (omega (arith, before, e)))))
    | inr from ↦ elim (cases_lt s t) [
      | inl later ↦
          let less = part_below (moment_count legs) s t last later at_last in
          second (nat_le base (node_of legs t k)) (nat_le (node_of legs t k) (base + last)) (refuted (nat_le (node_of legs t k) (base + last)) (λ h. absurd (let le = leb-true (node_of legs t k) (base + last) h in omega (arith, le, less))))
          ∙ sym (ap (λ (b : Bool). b && nat_le k last) (not_same t s (λ e. absurd (omega (arith, later, e)))))
      | inr upto ↦
          let same : t ≡ s = omega (arith, from, upto) in
          subst (λ (q : ℕ). (nat_le base (sum_below (moment_count legs) q + k) && nat_le (sum_below (moment_count legs) q + k) (base + last)) ≡ ((q == s) && nat_le k last)) (sym same)
          (ap (λ (b : Bool). b && nat_le (base + k) (base + last)) (le-leb base (base + k) (omega arith))
          ∙ shifted ∙ sym (ap (λ (b : Bool). b && nat_le k last) (eq-eqb s s refl)))
    ]
  ]
    where
      second : (a b : Bool) → b ≡ false → (a && b) ≡ false
      second true b h = h
      second false b h = refl

      not_same : (x y : ℕ) → ¬ (x ≡ y) → (x == y) ≡ false
      not_same x y differs = elim (cases_Bool (x == y)) [
        | inl same ↦ absurd (differs (eqb-true x y same))
        | inr isnt ↦ isnt
      ]

      shifted : nat_le (base + k) (base + last) ≡ nat_le k last
      shifted = elim (cases_lt last k) [
        | inl past ↦ refuted (nat_le (base + k) (base + last)) (λ h. absurd (let le = leb-true (base + k) (base + last) h in omega (arith, le, past))) ∙ sym (refuted (nat_le k last) (λ h. absurd (let le = leb-true k last h in omega (arith, le, past))))
        | inr le ↦ le-leb (base + k) (base + last) (omega (arith, le)) ∙ sym (le-leb k last le)
      ]

  source_out : up_to (source_of legs) ≡ false
  source_out =
      let less = part_below (moment_count legs) s legs.stations last at_s at_last in
      second (nat_le base (source_of legs)) (nat_le (source_of legs) (base + last)) (refuted (nat_le (source_of legs) (base + last)) (λ h. absurd (let le = leb-true (source_of legs) (base + last) h in omega (arith, le, less))))
    where
      second : (a b : Bool) → b ≡ false → (a && b) ≡ false
      second true b h = h
      second false b h = refl

  -- ---- waiting

  -- who is there at a moment was there at the one before
  stays_there : (t k : ℕ) → t < legs.stations → k + 1 < moment_count legs t → Stays legs up_to (wait_arc legs t k)
  stays_there t k at_t at_k there =
      let next = interval t (suc k) at_t (omega (arith, at_k)) in
      let now = interval t k at_t (omega (arith, at_k)) in
      now ∙ both (t == s) (sym next ∙ there)
    where
      both : (a : Bool) → (a && nat_le (suc k) last) ≡ true → (a && nat_le k last) ≡ true
      both true h = le-leb k last (let le = leb-true (suc k) last h in omega (arith, le))
      both false h = absurd (false≢true h)

  -- out of them go those that are held at the last of them, where it has a next one
  one_wait : (t n : ℕ) → t < legs.stations → n + 1 < moment_count legs t → crossing up_to (wait_arc legs t n) ≡ (if (t == s) && nat_le n last then (if (t == s) && nat_le (suc n) last then 0 else held legs t n) else 0)
  one_wait t n at_t at_n =
      ap (λ (b : Bool). if b then (if up_to (node_of legs t (suc n)) then 0 else held legs t n) else 0) (interval t n at_t (omega (arith, at_n)))
      ∙ ap (λ (b : Bool). if (t == s) && nat_le n last then (if b then 0 else held legs t n) else 0) (interval t (suc n) at_t (omega (arith, at_n)))

  waits_elsewhere : (t n : ℕ) → t ≢ s → t < legs.stations → n ≤ moment_count legs t - 1 → sum_by (crossing up_to) (listed (wait_arc legs t) n) ≡ 0
  waits_elsewhere t zero differs at_t within = refl
  waits_elsewhere t (suc n) differs at_t within =
      let rest = waits_elsewhere t n differs at_t (omega (arith, within)) in
      let one = one_wait t n at_t (omega (arith, within)) in
      let none = ap (λ (b : Bool). if b && nat_le n last then (if b && nat_le (suc n) last then 0 else held legs t n) else 0) (not_same t s differs) in
      omega (arith, sum_by-append (crossing up_to) (listed (wait_arc legs t) n) (wait_arc legs t n ∷ []), sum_by-cons (crossing up_to) (wait_arc legs t n) [], rest, one, none)
    where
      not_same : (x y : ℕ) → x ≢ y → (x == y) ≡ false
      not_same x y differs = elim (cases_Bool (x == y)) [
        | inl same ↦ absurd (differs (eqb-true x y same))
        | inr isnt ↦ isnt
      ]

  waits_here : (n : ℕ) → n ≤ moment_count legs s - 1 → sum_by (crossing up_to) (listed (wait_arc legs s) n) ≡ (if nat_lt last n then held legs s last else 0)
  waits_here zero within = sym (cond-false {A = ℕ} (nat_lt last 0) (held legs s last) 0 (le-ltb last 0 (omega arith)))
  waits_here (suc n) within =
      let rest = waits_here n (omega (arith, within)) in
      let one = one_wait s n at_s (omega (arith, within)) in
      let here = ap (λ (b : Bool). if b && nat_le n last then (if b && nat_le (suc n) last then 0 else held legs s n) else 0) (eq-eqb s s refl) in
      let whole = sum_by-append (crossing up_to) (listed (wait_arc legs s) n) (wait_arc legs s n ∷ []) in
      let alone = sum_by-cons (crossing up_to) (wait_arc legs s n) [] in
      elim (cases_lt n last) [
        | inl before ↦
            let value : (if true && nat_le n last then (if true && nat_le (suc n) last then 0 else held legs s n) else 0) ≡ 0 =
            cond-true {A = ℕ} (nat_le n last) (if nat_le (suc n) last then 0 else held legs s n) 0 (le-leb n last (omega (arith, before)))
            ∙ cond-true {A = ℕ} (nat_le (suc n) last) 0 (held legs s n) (le-leb (suc n) last (omega (arith, before))) in
            let was = cond-false {A = ℕ} (nat_lt last n) (held legs s last) 0 (le-ltb last n (omega (arith, before))) in
            let is = cond-false {A = ℕ} (nat_lt last (suc n)) (held legs s last) 0 (le-ltb last (suc n) (omega (arith, before))) in
            omega (arith, rest, one, here, whole, alone, value, was, is)
        | inr from ↦ elim (cases_eq n last) [
          | inl same ↦
              let value : (if true && nat_le n last then (if true && nat_le (suc n) last then 0 else held legs s n) else 0) ≡ held legs s n =
              cond-true {A = ℕ} (nat_le n last) (if nat_le (suc n) last then 0 else held legs s n) 0 (le-leb n last (omega (arith, same)))
              ∙ cond-false {A = ℕ} (nat_le (suc n) last) 0 (held legs s n) (refuted (nat_le (suc n) last) (λ h. absurd (let le = leb-true (suc n) last h in omega (arith, le, same)))) in
              let was = cond-false {A = ℕ} (nat_lt last n) (held legs s last) 0 (le-ltb last n (omega (arith, same))) in
              let is = cond-true {A = ℕ} (nat_lt last (suc n)) (held legs s last) 0 (lt-ltb last (suc n) (omega (arith, same))) in
              omega (arith, rest, one, here, whole, alone, value, was, is, ap (held legs s) same)
          | inr differs ↦
              let value : (if true && nat_le n last then (if true && nat_le (suc n) last then 0 else held legs s n) else 0) ≡ 0 =
              cond-false {A = ℕ} (nat_le n last) (if nat_le (suc n) last then 0 else held legs s n) 0 (refuted (nat_le n last) (λ h. absurd (let le = leb-true n last h in omega (arith, le, from, differs)))) in
              let was = cond-true {A = ℕ} (nat_lt last n) (held legs s last) 0 (lt-ltb last n (omega (arith, from, differs))) in
              let is = cond-true {A = ℕ} (nat_lt last (suc n)) (held legs s last) 0 (lt-ltb last (suc n) (omega (arith, from, differs))) in
              omega (arith, rest, one, here, whole, alone, value, was, is)
        ]
      ]

  abbrev pub left : ℕ
  left = if nat_lt last (moment_count legs s - 1) then held legs s last else 0

  waits_all : (n : ℕ) → n ≤ legs.stations → sum_by (crossing up_to) (joined (wait_arcs legs) n) ≤ (if nat_lt s n then left else 0)
  waits_all zero within = omega arith
  waits_all (suc n) within =
      let rest = waits_all n (omega (arith, within)) in
      let whole = sum_by-append (crossing up_to) (joined (wait_arcs legs) n) (wait_arcs legs n) in
      elim (cases_eq n s) [
        | inl same ↦
            let here = subst (λ (t : ℕ). sum_by (crossing up_to) (wait_arcs legs t) ≡ left) (sym same) (waits_here (moment_count legs s - 1) (omega arith)) in
            let was = cond-false {A = ℕ} (nat_lt s n) left 0 (le-ltb s n (omega (arith, same))) in
            let is = cond-true {A = ℕ} (nat_lt s (suc n)) left 0 (lt-ltb s (suc n) (omega (arith, same))) in
            omega (arith, rest, whole, here, was, is)
        | inr differs ↦
            let none = waits_elsewhere n (moment_count legs n - 1) differs (omega (arith, within)) (omega arith) in
            let is : (if nat_lt s (suc n) then left else 0) ≡ (if nat_lt s n then left else 0) = ap (λ (b : Bool). if b then left else 0) (next_same differs) in
            omega (arith, rest, whole, none, is)
      ]
    where
      next_same : n ≢ s → nat_lt s (suc n) ≡ nat_lt s n
      next_same differs = elim (cases_lt s n) [
        | inl less ↦ lt-ltb s (suc n) (omega (arith, less)) ∙ sym (lt-ltb s n less)
        | inr from ↦ le-ltb s (suc n) (omega (arith, from, differs)) ∙ sym (le-ltb s n from)
      ]

  all_stay : All (Stays legs up_to) (joined (wait_arcs legs) legs.stations)
  all_stay = all_joined_up (Stays legs up_to) (wait_arcs legs) legs.stations (λ t at_t. all_listed (Stays legs up_to) (wait_arc legs t) (moment_count legs t - 1) (λ k at_k. stays_there t k at_t (omega (arith, at_k))))

  -- ---- in a flow

  -- a leg leaves the station at one of these moments, or is ready there
  abbrev pub test_from : Leg → Bool
  test_from leg = (leg.from == s) && nat_le (moment_of legs leg.from leg.departs) last

  abbrev pub test_to : Leg → Bool
  test_to leg = (leg.to == s) && nat_le (moment_of legs leg.to leg.ready) last

  abbrev pub homes_here : Day → ℕ → Bool
  homes_here day u = (home_of day u == s) && nat_le 0 last

  module _ (day : Day) (wish : Wish) (net : Net) (are : AreLegs legs) (is_day : IsDay day) (stations : length day.stations ≡ legs.stations) (is_wish : IsWish day wish) (same : IsSameNet (yard_network day legs wish) net) (flow : IsFlow net)
      (out : (wish.depot ≢ s) ⊎ (last < moment_count legs s - 1)) where
    abbrev leg_arcs : List Arc
    leg_arcs = map (leg_arc legs) (all_legs legs)

    abbrev home_arcs : List Arc
    home_arcs = map (home_arc day legs) wish.units

    abbrev all_wait_arcs : List Arc
    all_wait_arcs = joined (wait_arcs legs) legs.stations

    arcs_are : map empty net.arcs ≡ leg_arcs ++ (home_arcs ++ all_wait_arcs)
    unfolding yard_network
    arcs_are = same.arcs ∙ empty_yard_arcs day legs wish

    first_part : Parts leg_arcs (home_arcs ++ all_wait_arcs) net.arcs
    first_part = parts leg_arcs (home_arcs ++ all_wait_arcs) net.arcs arcs_are

    abbrev pub on_legs : List Arc
    on_legs = take (length leg_arcs) net.arcs

    abbrev others : List Arc
    others = drop (length leg_arcs) net.arcs

    second_part : Parts home_arcs all_wait_arcs others
    second_part = parts home_arcs all_wait_arcs others first_part.back

    abbrev pub on_homes : List Arc
    on_homes = take (length home_arcs) others

    abbrev on_waits : List Arc
    on_waits = drop (length home_arcs) others

    within_all : All Within net.arcs
    within_all = λ k d below. (flow.arcs k d below).within

    within_legs : All Within on_legs
    within_legs = all_first Within on_legs others (subst (All Within) first_part.is within_all)

    within_others : All Within others
    within_others = all_second Within on_legs others (subst (All Within) first_part.is within_all)

    within_homes : All Within on_homes
    within_homes = all_first Within on_homes on_waits (subst (All Within) second_part.is within_others)

    within_waits : All Within on_waits
    within_waits = all_second Within on_homes on_waits (subst (All Within) second_part.is within_others)

    sum_parts : (f : Arc → ℕ) → sum_by f net.arcs ≡ sum_by f on_legs + sum_by f on_homes + sum_by f on_waits
    sum_parts f =
        let one = ap (sum_by f) first_part.is ∙ sum_by-append f on_legs others in
        let two = ap (sum_by f) second_part.is ∙ sum_by-append f on_homes on_waits in
        omega (arith, one, two)

    depot : wish.depot < legs.stations
    depot = (let at = is_wish.depot in omega (arith, at, stations))

    source_is : up_to net.source ≡ false
    unfolding yard_network
    source_is = ap up_to same.source ∙ source_out

    sink_is : up_to net.sink ≡ false
    unfolding yard_network
    sink_is = ap up_to same.sink ∙ interval wish.depot (moment_count legs wish.depot - 1) depot (omega arith) ∙ at_sink out
      where
        first_false : (a b : Bool) → a ≡ false → (a && b) ≡ false
        first_false true b h = absurd (false≢true (sym h))
        first_false false b h = refl

        second_false : (a b : Bool) → b ≡ false → (a && b) ≡ false
        second_false true b h = h
        second_false false b h = refl

        at_sink : (wish.depot ≢ s) ⊎ (last < moment_count legs s - 1) → ((wish.depot == s) && nat_le (moment_count legs wish.depot - 1) last) ≡ false
        at_sink (inl differs) = first_false (wish.depot == s) (nat_le (moment_count legs wish.depot - 1) last) (refuted (wish.depot == s) (λ h. differs (eqb-true wish.depot s h)))
        at_sink (inr earlier) = elim (cases_eq wish.depot s) [
          | inr differs ↦ first_false (wish.depot == s) (nat_le (moment_count legs wish.depot - 1) last) (refuted (wish.depot == s) (λ h. differs (eqb-true wish.depot s h)))
          | inl here ↦ second_false (wish.depot == s) (nat_le (moment_count legs wish.depot - 1) last) (refuted (nat_le (moment_count legs wish.depot - 1) last) (λ h. absurd (
              let le = leb-true (moment_count legs wish.depot - 1) last h in
              let same_count = ap (moment_count legs) here in
              omega (arith, le, earlier, same_count))))
        ]

    legs_at : All (IsLegAt legs) (all_legs legs)
    legs_at = all_joined (IsLegAt legs) (λ (unit : UnitLegs). unit.legs) legs.units are.each

    moment_in : (t m : ℕ) → moment_of legs t m < moment_count legs t
    moment_in t m = omega (arith, earlier_within m (minutes_at legs t))

    leaving_is : sum_by (λ a. if up_to a.from then a.flow else 0) on_legs ≡ added (λ x. ones (x.is_brought && test_from x.leg)) (marked_from (all_legs legs) on_legs)
    leaving_is = legs_sum legs up_to (λ a. a.from) (λ a. refl) test_from (all_legs legs) on_legs first_part.front within_legs
        (λ k d below. let at = legs_at k d below in interval (get_or (all_legs legs) k d).from (moment_of legs (get_or (all_legs legs) k d).from (get_or (all_legs legs) k d).departs) at.from (moment_in (get_or (all_legs legs) k d).from (get_or (all_legs legs) k d).departs))

    coming_is : sum_by (λ a. if up_to a.to then a.flow else 0) on_legs ≡ added (λ x. ones (x.is_brought && test_to x.leg)) (marked_from (all_legs legs) on_legs)
    coming_is = legs_sum legs up_to (λ a. a.to) (λ a. refl) test_to (all_legs legs) on_legs first_part.front within_legs
        (λ k d below. let at = legs_at k d below in interval (get_or (all_legs legs) k d).to (moment_of legs (get_or (all_legs legs) k d).to (get_or (all_legs legs) k d).ready) at.to (moment_in (get_or (all_legs legs) k d).to (get_or (all_legs legs) k d).ready))

    homes_are : sum_by (λ a. if up_to a.to then a.flow else 0) on_homes ≡ added (λ u. ones (homes_here day u)) (taken_units wish.units on_homes)
    homes_are = homes_sum legs up_to day (homes_here day) wish.units on_homes second_part.front within_homes
        (λ u there. interval (home_of day u) 0 (let at = is_day.units.home u (is_wish.known u (le-leb 1 (count_of u wish.units) there)) in omega (arith, at, stations)) (omega arith))

    balance : sum_by (λ a. if up_to a.to then a.flow else 0) net.arcs ≡ sum_by (λ a. if up_to a.from then a.flow else 0) net.arcs
    balance = kept_in up_to net flow source_is sink_is

    -- no more units that are brought leave than are there
    pub out_few : added (λ x. ones (x.is_brought && test_from x.leg)) (marked_from (all_legs legs) on_legs)
        ≤ added (λ x. ones (x.is_brought && test_to x.leg)) (marked_from (all_legs legs) on_legs) + added (λ u. ones (homes_here day u)) (taken_units wish.units on_homes)
    out_few =
        let to = sum_parts (λ a. if up_to a.to then a.flow else 0) in
        let from = sum_parts (λ a. if up_to a.from then a.flow else 0) in
        let none = no_homes legs up_to day wish.units on_homes second_part.front source_out in
        let waits = waits_in legs up_to on_waits all_wait_arcs second_part.back all_stay in
        omega (arith, balance, to, from, none, waits, leaving_is, coming_is, homes_are)

    -- and no more stay than are held
    pub in_few : added (λ x. ones (x.is_brought && test_to x.leg)) (marked_from (all_legs legs) on_legs) + added (λ u. ones (homes_here day u)) (taken_units wish.units on_homes)
        ≤ added (λ x. ones (x.is_brought && test_from x.leg)) (marked_from (all_legs legs) on_legs) + left
    in_few =
        let to = sum_parts (λ a. if up_to a.to then a.flow else 0) in
        let from = sum_parts (λ a. if up_to a.from then a.flow else 0) in
        let none = no_homes legs up_to day wish.units on_homes second_part.front source_out in
        let waits = waits_out legs up_to on_waits within_waits in
        let bound = waits_all legs.stations (omega arith) in
        let all = sym (capacity_empty up_to on_waits) ∙ ap (sum_by (crossing up_to)) second_part.back in
        let here = cond-true {A = ℕ} (nat_lt s legs.stations) left 0 (lt-ltb s legs.stations at_s) in
        omega (arith, balance, to, from, none, waits, bound, all, here, leaving_is, coming_is, homes_are)
