-- Each place that is there has one index.
use Rattle.std.proofs.Common.{◌≡◌, ◌↔◌, inl, inr, ◌⊎◌, ⊎_elim, ℕ, zero, suc, ◌+◌, ◌-◌, ◌*◌, ◌/◌, ◌%◌, ◌<◌, ◌≤◌, List}
use Rattle.std.proofs.Common.{[], ◌∷◌, ◌++◌, length, get_or, refl, sym, ap, subst, ◌∙◌, arith, length-append, Some}
use Rattle.std.proofs.Common.{slice_get}
use Rattle.std.specs.Prelude.{⊤}
use Rattle.std.proofs.Math.Nat.{zero-mul, mul-zero, suc-mul, mod-lt, div-lt_iff_lt-mul}
use Rattle.std.proofs.lemmas.Nat.{div-add-mod'}
use Rattle.std.specs.List.{All, AllPairs}
use Rattle.std.proofs.lemmas.Bool.{cases_lt}
use Rattle.std.proofs.lemmas.List.Elements.{All-nil, All-cons, All-head, All-tail, All-push, All-append, All-weaker}
use Rattle.std.proofs.lemmas.List.Elements.{All-contains}
use Rattle.std.proofs.lemmas.List.Kept.{AllPairs-cons}
use Rattle.std.proofs.lemmas.Option.{get_or_from_slice_get, slice_get_within}
use Rattle.timetable.specs.declared.day.indices.Place.{Place}
use Rattle.timetable.specs.declared.day.indices.Place.TheVariants.{Lambda, Mu, Sigma}
use Rattle.timetable.specs.Compositions.{compositions_of}
use Rattle.timetable.specs.Day.{Day}
use Rattle.timetable.specs.Handovers.{handovers_of}
use Rattle.timetable.specs.Indices.{IsPlace, IsLambda, IsIndexOf, Precedes, lambdas_at, lambdas_of, mus_of, sigmas_of}
use Rattle.timetable.specs.Indices.{places_of, HaveMultipliers}
use Rattle.timetable.specs.Lists.{listed, joined, sum_below}
use Rattle.timetable.specs.Minutes.{minutes_of}
use Rattle.timetable.proofs.Listing.{get_first, get_second, get_listed, get_joined, length-listed}
use Rattle.timetable.proofs.Sums.{sum_next}

-- ---- what is there has an index

-- the number of a place: those before it
pub index_in : Day → Place → ℕ
index_in day (Lambda s m k) = length (joined (λ s. joined (lambdas_at day s) (length day.types)) s) + (length (joined (lambdas_at day s) m) + k)
index_in day (Mu s m) = length (lambdas_of day) + (length (joined (λ s. listed (λ m. Mu s m) (length day.types)) s) + m)
index_in day (Sigma h c) = length (lambdas_of day) + (length (mus_of day) + (length (joined (λ h. listed (λ c. Sigma h c) (length (compositions_of day))) h) + c))

-- an entry of lists of lists
get_each : {X : Type 0} (f : ℕ → List X) (n s k : ℕ) (x : X) → s < n → slice_get (f s) k ≡ Some x → slice_get (joined f n) (length (joined f s) + k) ≡ Some x
get_each f n s k x below is = get_joined f n s k below (slice_get_within (f s) k x is) ∙ is

get_lambda : (day : Day) (s m k : ℕ) → IsPlace day (Lambda s m k) → slice_get (lambdas_of day) (index_in day (Lambda s m k)) ≡ Some (Lambda s m k)
unfolding lambdas_of index_in
get_lambda day s m k (station, unit_type, minute) =
    get_each (λ s. joined (lambdas_at day s) (length day.types)) (length day.stations) s (length (joined (lambdas_at day s) m) + k) (Lambda s m k) station
    (get_each (lambdas_at day s) (length day.types) m k (Lambda s m k) unit_type (get_listed (λ k. Lambda s m k) (length (minutes_of day s)) k minute))

get_mu : (day : Day) (s m : ℕ) → IsPlace day (Mu s m) → slice_get (mus_of day) (length (joined (λ s. listed (λ m. Mu s m) (length day.types)) s) + m) ≡ Some (Mu s m)
unfolding mus_of
get_mu day s m (station, unit_type) =
    get_each (λ s. listed (λ m. Mu s m) (length day.types)) (length day.stations) s m (Mu s m) station (get_listed (λ m. Mu s m) (length day.types) m unit_type)

get_sigma : (day : Day) (h c : ℕ) → IsPlace day (Sigma h c)
    → slice_get (sigmas_of day) (length (joined (λ h. listed (λ c. Sigma h c) (length (compositions_of day))) h) + c) ≡ Some (Sigma h c)
unfolding sigmas_of
get_sigma day h c (handover, comp) =
    get_each (λ h. listed (λ c. Sigma h c) (length (compositions_of day))) (length (handovers_of day)) h c (Sigma h c) handover (get_listed (λ c. Sigma h c) (length (compositions_of day)) c comp)

pub get_place : (day : Day) (place : Place) → IsPlace day place → slice_get (places_of day) (index_in day place) ≡ Some place
unfolding index_in
get_place day (Lambda s m k) is =
    let here : slice_get (lambdas_of day) (index_in day (Lambda s m k)) ≡ Some (Lambda s m k) = get_lambda day s m k is in
    get_first (lambdas_of day) (mus_of day ++ sigmas_of day) (index_in day (Lambda s m k)) (slice_get_within (lambdas_of day) (index_in day (Lambda s m k)) (Lambda s m k) here) ∙ here
get_place day (Mu s m) is =
    let place : ℕ = length (joined (λ s. listed (λ m. Mu s m) (length day.types)) s) + m in
    let here : slice_get (mus_of day) place ≡ Some (Mu s m) = get_mu day s m is in
    get_second (lambdas_of day) (mus_of day ++ sigmas_of day) place ∙ get_first (mus_of day) (sigmas_of day) place (slice_get_within (mus_of day) place (Mu s m) here) ∙ here
get_place day (Sigma h c) is =
    let place : ℕ = length (joined (λ h. listed (λ c. Sigma h c) (length (compositions_of day))) h) + c in
    get_second (lambdas_of day) (mus_of day ++ sigmas_of day) (length (mus_of day) + place) ∙ get_second (mus_of day) (sigmas_of day) place ∙ get_sigma day h c is

-- ---- nothing else has

all_listed : {X : Type 0} (P : X → Type 0) (f : ℕ → X) (n : ℕ) → ((k : ℕ) → k < n → P (f k)) → All P (listed f n)
all_listed P f zero each = All-nil P
all_listed P f (suc n) each = All-push P (listed f n) (f n) (all_listed P f n (λ k below. each k (omega arith))) (each n (omega arith))

all_joined : {X : Type 0} (P : X → Type 0) (f : ℕ → List X) (n : ℕ) → ((k : ℕ) → k < n → All P (f k)) → All P (joined f n)
all_joined P f zero each = All-nil P
all_joined P f (suc n) each = All-append P (joined f n) (f n) (all_joined P f n (λ k below. each k (omega arith))) (each n (omega arith))

all_places : (day : Day) → All (IsPlace day) (places_of day)
unfolding lambdas_of mus_of sigmas_of
all_places day =
    All-append (IsPlace day) (lambdas_of day) (mus_of day ++ sigmas_of day)
    (all_joined (IsPlace day) (λ s. joined (lambdas_at day s) (length day.types)) (length day.stations) (λ s station.
    all_joined (IsPlace day) (lambdas_at day s) (length day.types) (λ m unit_type.
    all_listed (IsPlace day) (λ k. Lambda s m k) (length (minutes_of day s)) (λ k minute. (station, unit_type, minute)))))
    (All-append (IsPlace day) (mus_of day) (sigmas_of day)
    (all_joined (IsPlace day) (λ s. listed (λ m. Mu s m) (length day.types)) (length day.stations) (λ s station.
    all_listed (IsPlace day) (λ m. Mu s m) (length day.types) (λ m unit_type. (station, unit_type))))
    (all_joined (IsPlace day) (λ h. listed (λ c. Sigma h c) (length (compositions_of day))) (length (handovers_of day)) (λ h handover.
    all_listed (IsPlace day) (λ c. Sigma h c) (length (compositions_of day)) (λ c comp. (handover, comp)))))

-- ---- they are in order

pairs_append : {X : Type 0} (R : X → X → Type 0) (xs ys : List X) → AllPairs R xs → AllPairs R ys → All (λ x. All (R x) ys) xs → AllPairs R (xs ++ ys)
pairs_append R [] ys firsts lasts across = lasts
pairs_append R (x ∷ xs) ys firsts lasts across =
    AllPairs-cons R x (xs ++ ys)
    (All-append (R x) xs ys (λ i d below. firsts 0 (suc i) d (omega arith) (omega arith)) (All-head (λ x. All (R x) ys) x xs across))
    (pairs_append R xs ys (λ i j d order below. firsts (suc i) (suc j) d (omega arith) (omega arith)) lasts (All-tail (λ x. All (R x) ys) x xs across))

pairs_nil : {X : Type 0} (R : X → X → Type 0) → AllPairs R []
pairs_nil R i j d order below = absurd (omega arith)

pairs_listed : {X : Type 0} (R : X → X → Type 0) (f : ℕ → X) (n : ℕ) → ((i j : ℕ) → i < j → j < n → R (f i) (f j)) → AllPairs R (listed f n)
pairs_listed R f zero each = pairs_nil R
pairs_listed R f (suc n) each =
    pairs_append R (listed f n) (f n ∷ []) (pairs_listed R f n (λ i j order below. each i j order (omega arith)))
    (AllPairs-cons R (f n) [] (All-nil (R (f n))) (pairs_nil R))
    (all_listed (λ x. All (R x) (f n ∷ [])) f n (λ k below. All-cons (R (f k)) (f n) [] (each k n below (omega arith)) (All-nil (R (f k)))))

pairs_joined : {X : Type 0} (R : X → X → Type 0) (f : ℕ → List X) (n : ℕ) → ((k : ℕ) → AllPairs R (f k)) → ((i j : ℕ) → i < j → All (λ x. All (R x) (f j)) (f i)) → AllPairs R (joined f n)
pairs_joined R f zero each across = pairs_nil R
pairs_joined R f (suc n) each across =
    pairs_append R (joined f n) (f n) (pairs_joined R f n each across) (each n) (all_joined (λ x. All (R x) (f n)) f n (λ k below. across k n below))

lambdas_in_order : (day : Day) → AllPairs Precedes (lambdas_of day)
unfolding lambdas_of
lambdas_in_order day =
    pairs_joined Precedes (λ s. joined (lambdas_at day s) (length day.types)) (length day.stations)
    (λ s. pairs_joined Precedes (lambdas_at day s) (length day.types)
    (λ m. pairs_listed Precedes (λ k. Lambda s m k) (length (minutes_of day s)) (λ i j order below. inr (refl, inr (refl, order))))
    (λ m m' lower. all_listed (λ x. All (Precedes x) (lambdas_at day s m')) (λ k. Lambda s m k) (length (minutes_of day s))
    (λ k minute. all_listed (Precedes (Lambda s m k)) (λ k. Lambda s m' k) (length (minutes_of day s)) (λ k' minute'. inr (refl, inl lower)))))
    (λ s s' lower. all_joined (λ x. All (Precedes x) (joined (lambdas_at day s') (length day.types))) (lambdas_at day s) (length day.types)
    (λ m unit_type. all_listed (λ x. All (Precedes x) (joined (lambdas_at day s') (length day.types))) (λ k. Lambda s m k) (length (minutes_of day s))
    (λ k minute. all_joined (Precedes (Lambda s m k)) (lambdas_at day s') (length day.types)
    (λ m' unit_type'. all_listed (Precedes (Lambda s m k)) (λ k. Lambda s' m' k) (length (minutes_of day s')) (λ k' minute'. inl lower)))))

mus_in_order : (day : Day) → AllPairs Precedes (mus_of day)
unfolding mus_of
mus_in_order day =
    pairs_joined Precedes (λ s. listed (λ m. Mu s m) (length day.types)) (length day.stations)
    (λ s. pairs_listed Precedes (λ m. Mu s m) (length day.types) (λ i j order below. inr (refl, order)))
    (λ s s' lower. all_listed (λ x. All (Precedes x) (listed (λ m. Mu s' m) (length day.types))) (λ m. Mu s m) (length day.types)
    (λ m unit_type. all_listed (Precedes (Mu s m)) (λ m. Mu s' m) (length day.types) (λ m' unit_type'. inl lower)))

sigmas_in_order : (day : Day) → AllPairs Precedes (sigmas_of day)
unfolding sigmas_of
sigmas_in_order day =
    pairs_joined Precedes (λ h. listed (λ c. Sigma h c) (length (compositions_of day))) (length (handovers_of day))
    (λ h. pairs_listed Precedes (λ c. Sigma h c) (length (compositions_of day)) (λ i j order below. inr (refl, order)))
    (λ h h' lower. all_listed (λ x. All (Precedes x) (listed (λ c. Sigma h' c) (length (compositions_of day)))) (λ c. Sigma h c) (length (compositions_of day))
    (λ c comp. all_listed (Precedes (Sigma h c)) (λ c. Sigma h' c) (length (compositions_of day)) (λ c' comp'. inl lower)))

-- which places are of which kind
are_lambdas : (day : Day) → All IsLambda (lambdas_of day)
unfolding lambdas_of
are_lambdas day =
    all_joined IsLambda (λ s. joined (lambdas_at day s) (length day.types)) (length day.stations)
    (λ s station. all_joined IsLambda (lambdas_at day s) (length day.types)
    (λ m unit_type. all_listed IsLambda (λ k. Lambda s m k) (length (minutes_of day s)) (λ k minute. tt)))

abbrev IsMu : Place → Type 0
IsMu (Lambda s m k) = ⊥
IsMu (Mu s m) = ⊤
IsMu (Sigma h c) = ⊥

abbrev IsSigma : Place → Type 0
IsSigma (Lambda s m k) = ⊥
IsSigma (Mu s m) = ⊥
IsSigma (Sigma h c) = ⊤

are_mus : (day : Day) → All IsMu (mus_of day)
unfolding mus_of
are_mus day =
    all_joined IsMu (λ s. listed (λ m. Mu s m) (length day.types)) (length day.stations)
    (λ s station. all_listed IsMu (λ m. Mu s m) (length day.types) (λ m unit_type. tt))

are_sigmas : (day : Day) → All IsSigma (sigmas_of day)
unfolding sigmas_of
are_sigmas day =
    all_joined IsSigma (λ h. listed (λ c. Sigma h c) (length (compositions_of day))) (length (handovers_of day))
    (λ h handover. all_listed IsSigma (λ c. Sigma h c) (length (compositions_of day)) (λ c comp. tt))

lambda_first : (x y : Place) → IsLambda x → IsMu y ⊎ IsSigma y → Precedes x y
lambda_first (Lambda s m k) (Lambda s' m' k') lambda other = absurd (⊎_elim (λ (no : ⊥). no) (λ (no : ⊥). no) other)
lambda_first (Lambda s m k) (Mu s' m') lambda other = tt
lambda_first (Lambda s m k) (Sigma h c) lambda other = tt
lambda_first (Mu s m) y lambda other = absurd lambda
lambda_first (Sigma h c) y lambda other = absurd lambda

mu_first : (x y : Place) → IsMu x → IsSigma y → Precedes x y
mu_first (Lambda s m k) y mu other = absurd mu
mu_first (Mu s m) (Lambda s' m' k) mu other = absurd other
mu_first (Mu s m) (Mu s' m') mu other = absurd other
mu_first (Mu s m) (Sigma h c) mu other = tt
mu_first (Sigma h c) y mu other = absurd mu

-- the places after those of departure minutes
are_others : (day : Day) → All (λ y. IsMu y ⊎ IsSigma y) (mus_of day ++ sigmas_of day)
are_others day =
    All-append (λ y. IsMu y ⊎ IsSigma y) (mus_of day) (sigmas_of day)
    (All-weaker IsMu (λ y. IsMu y ⊎ IsSigma y) (λ y is. inl is) (mus_of day) (are_mus day))
    (All-weaker IsSigma (λ y. IsMu y ⊎ IsSigma y) (λ y is. inr is) (sigmas_of day) (are_sigmas day))

in_order : (day : Day) → AllPairs Precedes (places_of day)
in_order day =
    pairs_append Precedes (lambdas_of day) (mus_of day ++ sigmas_of day) (lambdas_in_order day)
    (pairs_append Precedes (mus_of day) (sigmas_of day) (mus_in_order day) (sigmas_in_order day)
    (All-weaker IsMu (λ x. All (Precedes x) (sigmas_of day))
    (λ x mu. All-weaker IsSigma (Precedes x) (λ y sigma. mu_first x y mu sigma) (sigmas_of day) (are_sigmas day)) (mus_of day) (are_mus day)))
    (All-weaker IsLambda (λ x. All (Precedes x) (mus_of day ++ sigmas_of day))
    (λ x lambda. All-weaker (λ y. IsMu y ⊎ IsSigma y) (Precedes x) (λ y other. lambda_first x y lambda other) (mus_of day ++ sigmas_of day) (are_others day))
    (lambdas_of day) (are_lambdas day))

-- ---- so none is there twice

not_twice : (a : ℕ) (rest : Type 0) → (rest → ⊥) → (a < a) ⊎ ((a ≡ a) × rest) → ⊥
not_twice a rest none (inl lower) = absurd (omega arith)
not_twice a rest none (inr both) = none both.1

not_before_itself : (x : Place) → Precedes x x → ⊥
not_before_itself (Lambda s m k) before =
    not_twice s ((m < m) ⊎ ((m ≡ m) × (k < k))) (λ later. not_twice m (k < k) (λ (lower : k < k). absurd (omega arith)) later) before
not_before_itself (Mu s m) before = not_twice s (m < m) (λ (lower : m < m). absurd (omega arith)) before
not_before_itself (Sigma h c) before = not_twice h (c < c) (λ (lower : c < c). absurd (omega arith)) before

earlier : (places : List Place) → AllPairs Precedes places → (i j : ℕ) (place : Place) → slice_get places i ≡ Some place → slice_get places j ≡ Some place → i < j → ⊥
earlier places order i j place at_i at_j lower =
    let before : Precedes (get_or places i place) (get_or places j place) = order i j place lower (slice_get_within places j place at_j) in
    not_before_itself place (subst (λ (x : Place). Precedes x place) (get_or_from_slice_get places i place place at_i)
    (subst (λ (x : Place). Precedes (get_or places i place) x) (get_or_from_slice_get places j place place at_j) before))

pub at_once : (places : List Place) → AllPairs Precedes places → (i j : ℕ) (place : Place) → slice_get places i ≡ Some place → slice_get places j ≡ Some place → i ≡ j
at_once places order i j place at_i at_j = ⊎_elim
    (λ (lower : i < j). absurd (earlier places order i j place at_i at_j lower))
    (λ (least : j ≤ i). ⊎_elim (λ (lower : j < i). absurd (earlier places order j i place at_j at_i lower)) (λ (most : i ≤ j). omega arith) (cases_lt j i))
    (cases_lt i j)

-- ---- those of departure minutes come first

no_lambda : (y : Place) → IsMu y ⊎ IsSigma y → IsLambda y → ⊥
no_lambda (Lambda s m k) other lambda = ⊎_elim (λ (no : ⊥). no) (λ (no : ⊥). no) other
no_lambda (Mu s m) other lambda = lambda
no_lambda (Sigma h c) other lambda = lambda

entry_is : {X : Type 0} (P : X → Type 0) (xs : List X) (i : ℕ) (x : X) → All P xs → slice_get xs i ≡ Some x → P x
entry_is P xs i x all at = subst P (get_or_from_slice_get xs i x x at) (all i x (slice_get_within xs i x at))

pub lambdas_first : (day : Day) (i : ℕ) (place : Place) → slice_get (places_of day) i ≡ Some place → IsLambda place ↔ (i < length (lambdas_of day))
lambdas_first day i place at = (
  λ lambda. ⊎_elim (λ (below : i < length (lambdas_of day)). below)
      (λ (later : length (lambdas_of day) ≤ i).
      let rest : ℕ = i - length (lambdas_of day) in
      let is : length (lambdas_of day) + rest ≡ i = omega arith in
      let here : slice_get (mus_of day ++ sigmas_of day) rest ≡ Some place =
      sym (get_second (lambdas_of day) (mus_of day ++ sigmas_of day) rest) ∙ ap (λ (k : ℕ). slice_get (places_of day) k) is ∙ at in
      absurd (no_lambda place (entry_is (λ y. IsMu y ⊎ IsSigma y) (mus_of day ++ sigmas_of day) rest place (are_others day) here) lambda))
      (cases_lt i (length (lambdas_of day))),
  λ below. entry_is IsLambda (lambdas_of day) i place (are_lambdas day) (sym (get_first (lambdas_of day) (mus_of day ++ sigmas_of day) i below) ∙ at),
)

-- ---- the law

pub have_multipliers : (day : Day) → HaveMultipliers day (places_of day) (length (lambdas_of day))
have_multipliers day = record {
  each = λ place there. All-contains (IsPlace day) (places_of day) place (all_places day) there;
  all = λ place is.
      (let here : slice_get (places_of day) (index_in day place) ≡ Some place = get_place day place is in
      (index_in day place, slice_get_within (places_of day) (index_in day place) place here, get_or_from_slice_get (places_of day) (index_in day place) place place here));
  once = at_once (places_of day) (in_order day);
  in_order = in_order day;
  lambdas = lambdas_first day;
}

-- a place of a day is at its number, and at no other
pub is_index : (day : Day) (place : Place) (i : ℕ) → IsPlace day place → i ≡ index_in day place → slice_get (places_of day) i ≡ Some place
is_index day place i is at = ap (λ (k : ℕ). slice_get (places_of day) k) at ∙ get_place day place is

-- ---- how many there are

-- lists of one length that are joined
even : {X : Type 0} (f : ℕ → List X) (w n : ℕ) → ((k : ℕ) → length (f k) ≡ w) → length (joined f n) ≡ n * w
even f w zero each = sym (zero-mul w)
even f w (suc n) each = length-append (joined f n) (f n) ∙ ap (λ (k : ℕ). k + length (f n)) (even f w n each) ∙ ap (λ (k : ℕ). n * w + k) (each n) ∙ sym (suc-mul n w)

distribute : (k a b : ℕ) → k * (a + b) ≡ k * a + k * b
distribute zero a b = omega (arith, zero-mul (a + b), zero-mul a, zero-mul b)
distribute (suc k) a b = omega (arith, suc-mul k (a + b), suc-mul k a, suc-mul k b, distribute k a b)

-- how many lambdas the stations before one have
pub lambdas_before : (day : Day) (n : ℕ) → length (joined (λ s. joined (lambdas_at day s) (length day.types)) n) ≡ length day.types * sum_below (λ s. length (minutes_of day s)) n
lambdas_before day zero = sym (mul-zero (length day.types))
lambdas_before day (suc n) =
    let f : ℕ → List Place = λ s. joined (lambdas_at day s) (length day.types) in
    let count : ℕ = length (minutes_of day n) in
    let total : ℕ = sum_below (λ s. length (minutes_of day s)) n in
    length-append (joined f n) (f n)
    ∙ ap (λ (k : ℕ). k + length (f n)) (lambdas_before day n)
    ∙ ap (λ (k : ℕ). length day.types * total + k) (even (lambdas_at day n) count (length day.types) (λ m. length-listed (λ k. Lambda n m k) count))
    ∙ sym (distribute (length day.types) total count)

pub length-lambdas : (day : Day) → length (lambdas_of day) ≡ length day.types * sum_below (λ s. length (minutes_of day s)) (length day.stations)
unfolding lambdas_of
length-lambdas day = lambdas_before day (length day.stations)

pub length-mus : (day : Day) → length (mus_of day) ≡ length day.stations * length day.types
unfolding mus_of
length-mus day = even (λ s. listed (λ m. Mu s m) (length day.types)) (length day.types) (length day.stations) (λ s. length-listed (λ m. Mu s m) (length day.types))

pub length-sigmas : (day : Day) → length (sigmas_of day) ≡ length (handovers_of day) * length (compositions_of day)
unfolding sigmas_of
length-sigmas day =
    even (λ h. listed (λ c. Sigma h c) (length (compositions_of day))) (length (compositions_of day)) (length (handovers_of day)) (λ h. length-listed (λ c. Sigma h c) (length (compositions_of day)))

-- ---- the number of a place

pub lambda_number : (day : Day) (s m k : ℕ) → index_in day (Lambda s m k) ≡ length day.types * sum_below (λ s. length (minutes_of day s)) s + (m * length (minutes_of day s) + k)
unfolding index_in
lambda_number day s m k =
    ap (λ (n : ℕ). n + (length (joined (lambdas_at day s) m) + k)) (lambdas_before day s)
    ∙ ap (λ (n : ℕ). length day.types * sum_below (λ s. length (minutes_of day s)) s + (n + k))
    (even (lambdas_at day s) (length (minutes_of day s)) m (λ m. length-listed (λ k. Lambda s m k) (length (minutes_of day s))))

pub mu_number : (day : Day) (s m : ℕ) → index_in day (Mu s m) ≡ length (lambdas_of day) + (s * length day.types + m)
unfolding index_in
mu_number day s m =
    ap (λ (n : ℕ). length (lambdas_of day) + (n + m)) (even (λ s. listed (λ m. Mu s m) (length day.types)) (length day.types) s (λ s. length-listed (λ m. Mu s m) (length day.types)))

pub sigma_number : (day : Day) (h c : ℕ) → index_in day (Sigma h c) ≡ length (lambdas_of day) + (length (mus_of day) + (h * length (compositions_of day) + c))
unfolding index_in
sigma_number day h c =
    ap (λ (n : ℕ). length (lambdas_of day) + (length (mus_of day) + (n + c)))
    (even (λ h. listed (λ c. Sigma h c) (length (compositions_of day))) (length (compositions_of day)) h (λ h. length-listed (λ c. Sigma h c) (length (compositions_of day))))

-- ---- the place of a number

-- of so many rows of a width, a number below their product is in a row, at a place in it
pub record InRows (n rows width : ℕ) : Type 0 where
  pub some : 1 ≤ width
  pub row : n / width < rows
  pub place : n % width < width
  pub is : n / width * width + n % width ≡ n

pub in_rows : (n rows width : ℕ) → n < rows * width → InRows n rows width
in_rows n rows zero below = absurd (omega (arith, mul-zero rows))
in_rows n rows (suc w) below = record {
  some = omega arith;
  row = (div-lt_iff_lt-mul {k = suc w} {x = n} {y = rows} (omega arith)).1 below;
  place = mod-lt n {m = suc w} (omega arith);
  is = div-add-mod' n (suc w);
}

pub mu_of : (day : Day) (n : ℕ) → n < length (mus_of day) → slice_get (places_of day) (length (lambdas_of day) + n) ≡ Some (Mu (n / length day.types) (n % length day.types))
mu_of day n below =
    let rows : InRows n (length day.stations) (length day.types) = in_rows n (length day.stations) (length day.types) (omega (arith, length-mus day)) in
    is_index day (Mu (n / length day.types) (n % length day.types)) (length (lambdas_of day) + n) (rows.row, rows.place)
    (ap (λ (k : ℕ). length (lambdas_of day) + k) (sym rows.is) ∙ sym (mu_number day (n / length day.types) (n % length day.types)))

pub sigma_of : (day : Day) (n : ℕ) → n < length (sigmas_of day)
    → slice_get (places_of day) (length (lambdas_of day) + (length (mus_of day) + n)) ≡ Some (Sigma (n / length (compositions_of day)) (n % length (compositions_of day)))
sigma_of day n below =
    let rows : InRows n (length (handovers_of day)) (length (compositions_of day)) = in_rows n (length (handovers_of day)) (length (compositions_of day)) (omega (arith, length-sigmas day)) in
    is_index day (Sigma (n / length (compositions_of day)) (n % length (compositions_of day))) (length (lambdas_of day) + (length (mus_of day) + n)) (rows.row, rows.place)
    (ap (λ (k : ℕ). length (lambdas_of day) + (length (mus_of day) + k)) (sym rows.is) ∙ sym (sigma_number day (n / length (compositions_of day)) (n % length (compositions_of day))))

-- of a station, those that are left after the stations before it
pub lambda_of : (day : Day) (index left s : ℕ) → s < length day.stations → index ≡ length day.types * sum_below (λ s. length (minutes_of day s)) s + left → left < length day.types * length (minutes_of day s)
    → slice_get (places_of day) index ≡ Some (Lambda s (left / length (minutes_of day s)) (left % length (minutes_of day s)))
lambda_of day index left s station is below =
    let rows : InRows left (length day.types) (length (minutes_of day s)) = in_rows left (length day.types) (length (minutes_of day s)) below in
    is_index day (Lambda s (left / length (minutes_of day s)) (left % length (minutes_of day s))) index (station, rows.row, rows.place)
    (is ∙ ap (λ (k : ℕ). length day.types * sum_below (λ s. length (minutes_of day s)) s + k) (sym rows.is) ∙ sym (lambda_number day s (left / length (minutes_of day s)) (left % length (minutes_of day s))))

-- where there are such places there are types, and compositions
pub some_types : (day : Day) (n : ℕ) → n < length (mus_of day) → 1 ≤ length day.types
some_types day n below = (in_rows n (length day.stations) (length day.types) (omega (arith, length-mus day))).some

pub some_compositions : (day : Day) (n : ℕ) → n < length (sigmas_of day) → 1 ≤ length (compositions_of day)
some_compositions day n below = (in_rows n (length (handovers_of day)) (length (compositions_of day)) (omega (arith, length-sigmas day))).some

-- what is known of the place of a number
pub known_place : (day : Day) (i : ℕ) (place : Place) → slice_get (places_of day) i ≡ Some place → IsPlace day place
known_place day i place at = entry_is (IsPlace day) (places_of day) i place (all_places day) at

-- ---- from station to station

-- what is left of a number after the stations before one
abbrev pub IsLeft : Day → ℕ → ℕ → ℕ → Type 0
IsLeft day index s left = index ≡ length day.types * sum_below (λ s. length (minutes_of day s)) s + left

pub passed : (day : Day) (index left s types count : ℕ) → types ≡ length day.types → count ≡ length (minutes_of day s) → IsLeft day index s left → types * count ≤ left → IsLeft day index (s + 1) (left - types * count)
passed day index left s types count t n is least =
    let here : types * count ≡ length day.types * length (minutes_of day s) = ap (λ (k : ℕ). k * count) t ∙ ap (λ (k : ℕ). length day.types * k) n in
    let next : length day.types * sum_below (λ s. length (minutes_of day s)) (s + 1) ≡ length day.types * sum_below (λ s. length (minutes_of day s)) s + length day.types * length (minutes_of day s) =
    ap (λ (k : ℕ). length day.types * k) (sum_next (λ s. length (minutes_of day s)) s)
    ∙ distribute (length day.types) (sum_below (λ s. length (minutes_of day s)) s) (length (minutes_of day s)) in
    is ∙ omega (arith, here, next, least)

pub none_left : (day : Day) (index left s : ℕ) → length day.stations ≤ s → s ≤ length day.stations → IsLeft day index s left → index < length (lambdas_of day) → ⊥
none_left day index left s most least is below =
    let last : s ≡ length day.stations = omega arith in
    let all : IsLeft day index (length day.stations) left = subst (λ (n : ℕ). IsLeft day index n left) last is in
    absurd (omega (arith, all, length-lambdas day))

pub lambda_left : (day : Day) (index left s types count : ℕ) → s < length day.stations → types ≡ length day.types → count ≡ length (minutes_of day s) → IsLeft day index s left → left < types * count
    → slice_get (places_of day) index ≡ Some (Lambda s (left / count) (left % count))
lambda_left day index left s types count station t n is below =
    let here : types * count ≡ length day.types * length (minutes_of day s) = ap (λ (k : ℕ). k * count) t ∙ ap (λ (k : ℕ). length day.types * k) n in
    subst (λ (k : ℕ). slice_get (places_of day) index ≡ Some (Lambda s (left / k) (left % k))) (sym n) (lambda_of day index left s station is (omega (arith, here)))

-- ---- the index of a place

-- what stands at an index has it, and no other
pub is_index_of : (day : Day) (place : Place) (i : ℕ) → slice_get (places_of day) i ≡ Some place → IsIndexOf day place i
is_index_of day place i at = record {
  within = slice_get_within (places_of day) i place at;
  at = at;
  alone = λ j at_j. at_once (places_of day) (in_order day) j i place at_j at;
}

pub lambda_index : (day : Day) (s m k types before count row : ℕ) → IsPlace day (Lambda s m k) → types ≡ length day.types → before ≡ sum_below (λ s. length (minutes_of day s)) s → count ≡ length (minutes_of day s)
    → row ≡ m * count + k → IsIndexOf day (Lambda s m k) (types * before + row)
lambda_index day s m k types before count row is t b n r =
    is_index_of day (Lambda s m k) (types * before + row) (is_index day (Lambda s m k) (types * before + row) is
    (ap (λ (x : ℕ). x * before + row) t ∙ ap (λ (x : ℕ). length day.types * x + row) b
    ∙ ap (λ (x : ℕ). length day.types * sum_below (λ s. length (minutes_of day s)) s + x) (r ∙ ap (λ (x : ℕ). m * x + k) n)
    ∙ sym (lambda_number day s m k)))

pub mu_index : (day : Day) (s m first types row : ℕ) → IsPlace day (Mu s m) → first ≡ length (lambdas_of day) → types ≡ length day.types → row ≡ s * types + m → IsIndexOf day (Mu s m) (first + row)
mu_index day s m first types row is f t r =
    is_index_of day (Mu s m) (first + row) (is_index day (Mu s m) (first + row) is
    (ap (λ (x : ℕ). x + row) f ∙ ap (λ (x : ℕ). length (lambdas_of day) + x) (r ∙ ap (λ (x : ℕ). s * x + m) t) ∙ sym (mu_number day s m)))

pub sigma_index : (day : Day) (h c first mus comps row : ℕ) → IsPlace day (Sigma h c) → first ≡ length (lambdas_of day) → mus ≡ length (mus_of day) → comps ≡ length (compositions_of day) → row ≡ h * comps + c
    → IsIndexOf day (Sigma h c) (first + mus + row)
sigma_index day h c first mus comps row is f u n r =
    let rows : row ≡ h * length (compositions_of day) + c = r ∙ ap (λ (x : ℕ). h * x + c) n in
    is_index_of day (Sigma h c) (first + mus + row) (is_index day (Sigma h c) (first + mus + row) is (omega (arith, f, u, rows, sigma_number day h c)))
