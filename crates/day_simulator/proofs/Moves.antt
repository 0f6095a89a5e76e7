-- One unit along the events still to come: where it is, and which of its trips it may board next.
use Rattle.std.proofs.Common.{◌≡◌, ℕ, ◌+◌, ◌*◌, ◌<◌, ◌≤◌, List, [], ◌∷◌, length, true, false, eqb, leb, refl, sym, ap}
use Rattle.std.proofs.Common.{subst, arith, ◌≢◌, ⊎_elim, inl, inr}
use Rattle.std.specs.Prelude.{unwrap_or}
use Rattle.std.proofs.lemmas.Bool.{cases_eq, cases_lt, leb-true, le-leb, eqb-true, eq-eqb, and_parts, and_from}
use Rattle.std.proofs.lemmas.Bool.{false≢true}
use Rattle.std.proofs.lemmas.Option.{slice_get_past}
use Rattle.timetable.specs.Day.{Day, leaves, arrives, from_of, to_of, reallocation_of}
use Rattle.timetable.specs.Lists.{count_of, IsDistinct}
use Rattle.timetable.specs.Accepted.{IsDay}
use Rattle.timetable.specs.Links.{list_of, kept, given, taken}
use Rattle.rules.proofs.OfTheStock.{MayFollow}
use Rattle.timetable.specs.Running.{IsPlan}
use Rattle.day_simulator.specs.declared.events.DayEvent.{DayEvent}
use Rattle.day_simulator.specs.declared.events.DayEvent.TheVariants.{Depart, Arrive}
use Rattle.day_simulator.specs.declared.events.UnitLocation.{UnitLocation}
use Rattle.day_simulator.specs.declared.events.UnitLocation.TheVariants.{Yard, Aboard, Standing}
use Rattle.day_simulator.specs.State.{is_ready, moment_of}
use Rattle.day_simulator.specs.Orders.{departures, arrivals}
use Rattle.timetable.proofs.Ones.{one_same, one_other}
use Rattle.day_simulator.proofs.Lawful.{Lawful, left_depart, left_arrive, arrived_before, departs_after, from_arrival}
use Rattle.day_simulator.proofs.Unbroken.{IsUnbroken}
use Rattle.timetable.proofs.Accounts.{kept_arrives, kept_departs, not_given_and_kept, not_taken_and_kept, kept_for_one}
use Rattle.timetable.proofs.Accounts.{comes_from, goes_to}

-- a trip that has a unit is a trip of the day
pub is_trip : (day : Day) (plan : List (List ℕ)) (u t : ℕ) → IsPlan day plan → 1 ≤ count_of u (list_of plan t) → t < length day.trips
unfolding list_of
is_trip day plan u t is_plan c =
    ⊎_elim (λ (lt : t < length day.trips). lt)
    (λ (ge : length day.trips ≤ t).
    let trips = is_plan.trips in
    let past = slice_get_past plan t (omega arith) in
    let c' : 1 ≤ 0 = subst (λ o. 1 ≤ count_of u (unwrap_or o [])) past c in
    absurd (omega arith))
    (cases_lt t (length day.trips))

-- a unit is where the events still to come say: in the train of its trip that is under way, or of its trip that arrived
-- and whose next trip is still to depart, and else in a yard
pub record Fits (day : Day) (plan : List (List ℕ)) (u : ℕ) (place : UnitLocation) (es : List DayEvent) : Type 0 where
  pub under_way : (t : ℕ) → 1 ≤ count_of u (list_of plan t) → departures t es ≡ 0 → 1 ≤ arrivals t es → place ≡ Aboard t
  pub pending : (a b : ℕ) → 1 ≤ count_of u (kept day plan a b) → arrivals a es ≡ 0 → 1 ≤ departures b es → place ≡ Standing a
  pub aboard : (t : ℕ) → place ≡ Aboard t → (1 ≤ count_of u (list_of plan t)) × (departures t es ≡ 0) × (1 ≤ arrivals t es)
  pub standing : (a : ℕ) → place ≡ Standing a → (b : ℕ) × (1 ≤ count_of u (kept day plan a b)) × (arrivals a es ≡ 0) × (1 ≤ departures b es)

-- the lists of the trips that have departed have no unit twice
pub record DistinctSoFar (plan : List (List ℕ)) (es : List DayEvent) : Type 0 where
  pub distinct : (a : ℕ) → departures a es ≡ 0 → IsDistinct (list_of plan a)

-- how a unit boards a trip
abbrev pub Boards : Day → List (List ℕ) → ℕ → UnitLocation → ℕ → Type 0
Boards day plan u (Yard s r) t = (1 ≤ count_of u (taken day plan t)) × (from_of day t ≡ s) × (r ≤ leaves day t)
Boards day plan u (Aboard a) t = MayFollow day plan u a t
Boards day plan u (Standing a) t = 1 ≤ count_of u (kept day plan a t)

-- a unit can board these trips one after another
abbrev pub BoardsAll : Day → List (List ℕ) → ℕ → UnitLocation → List ℕ → Type 0
BoardsAll day plan u place [] = Unit {0}
BoardsAll day plan u place (t ∷ ts) = Boards day plan u place t × BoardsAll day plan u (Aboard t) ts

-- what a unit that boards a trip comes from
pub record Boarding (day : Day) (plan : List (List ℕ)) (u t : ℕ) (place : UnitLocation) : Type 0 where
  pub boards : Boards day plan u place t
  pub not_aboard : (s : ℕ) → place ≡ Aboard s → ⊥
  pub stood : (a : ℕ) → place ≡ Standing a → 1 ≤ count_of u (kept day plan a t)

module _ (day : Day) (plan : List (List ℕ)) (is_day : IsDay day) (is_plan : IsPlan day plan) (accounted : IsUnbroken day plan) where
  pub fits_board : (u t : ℕ) (place : UnitLocation) (es : List DayEvent) → Lawful day (Depart t ∷ es) → DistinctSoFar plan (Depart t ∷ es) → 1 ≤ count_of u (list_of plan t) → Fits day plan u place (Depart t ∷ es) → Boarding day plan u t place → Fits day plan u (Aboard t) es
  fits_board u t place es lawful so_far mine fits boarding =
      let left = left_depart day t es lawful in
      record {
        under_way = λ s c d a. ⊎_elim (λ (e : t ≡ s). ap Aboard e)
            (λ (ne : t ≢ s). let o = one_other t s ne in absurd (boarding.not_aboard s (fits.under_way s c (omega arith) a))) (cases_eq t s);
        pending = λ a b k gone yet.
            let stands : place ≡ Standing a = fits.pending a b k gone (omega arith) in
            let too = lawful.departs_too a in
            let once = so_far.distinct a (omega arith) u in
            let same : b ≡ t = kept_for_one day plan accounted.accounts u a b t once k (boarding.stood a stands) in
            let yet' : 1 ≤ departures t es = subst (λ x. 1 ≤ departures x es) same yet in
            let none = left.departs in
            absurd (omega arith);
        aboard = λ s e.
            let same : t ≡ s = cc in
            let none = left.departs in
            let yet = left.arrives in
            subst (λ x. (1 ≤ count_of u (list_of plan x)) × (departures x es ≡ 0) × (1 ≤ arrivals x es)) same (mine, none, omega arith);
        standing = λ a e. absurd (cc);
      }

  pub fits_pass_depart : (u t : ℕ) (place : UnitLocation) (es : List DayEvent) → count_of u (list_of plan t) ≡ 0 → Fits day plan u place (Depart t ∷ es) → Fits day plan u place es
  fits_pass_depart u t place es none fits = record {
    under_way = λ s c d a.
        let ne : t ≢ s = λ e. (let z = subst (λ x. count_of u (list_of plan x) ≡ 0) e none in absurd (omega arith)) in
        let o = one_other t s ne in
        fits.under_way s c (omega arith) a;
    pending = λ a b k gone yet. fits.pending a b k gone (omega arith);
    aboard = λ s e. let f = fits.aboard s e in (f.0, (let d = f.1 in omega arith), f.2);
    standing = λ a e.
        let f = fits.standing a e in
        let le = kept_departs day plan accounted.accounts u a f.0 in
        let k = f.1 in
        let ne : t ≢ f.0 = λ e. (let z = subst (λ x. count_of u (list_of plan x) ≡ 0) e none in absurd (omega arith)) in
        let o = one_other t f.0 ne in
        (f.0, f.1, f.2, (let d = f.3 in omega arith));
  }

  pub arrives_aboard : (u t : ℕ) (place : UnitLocation) (es : List DayEvent) → Lawful day (Arrive t ∷ es) → 1 ≤ count_of u (list_of plan t) → Fits day plan u place (Arrive t ∷ es) → place ≡ Aboard t
  arrives_aboard u t place es lawful mine fits =
      let o = one_same t t refl in
      fits.under_way t mine (left_arrive day t es is_day lawful).departs (omega arith)

  pub fits_give : (u t s r : ℕ) (place : UnitLocation) (es : List DayEvent) → Lawful day (Arrive t ∷ es) → DistinctSoFar plan (Arrive t ∷ es) → 1 ≤ count_of u (list_of plan t) → 1 ≤ count_of u (given day plan t) → Fits day plan u place (Arrive t ∷ es) → Fits day plan u (Yard s r) es
  fits_give u t s r place es lawful so_far mine gives fits =
      let left = left_arrive day t es is_day lawful in
      let at : place ≡ Aboard t = arrives_aboard u t place es lawful mine fits in
      record {
        under_way = λ x c d a.
            let there : place ≡ Aboard x = fits.under_way x c d (omega arith) in
            let same : t ≡ x = cc in
            let none = subst (λ y. arrivals y es ≡ 0) same left.arrives in
            absurd (omega arith);
        pending = λ a b k gone yet.
            ⊎_elim (λ (e : t ≡ a).
            let k' = subst (λ y. 1 ≤ count_of u (kept day plan y b)) (sym e) k in
            absurd (not_given_and_kept day plan accounted.accounts u t b (so_far.distinct t left.departs u) gives k'))
            (λ (ne : t ≢ a).
            let o = one_other t a ne in
            let there : place ≡ Standing a = fits.pending a b k (omega arith) yet in
            absurd (cc))
            (cases_eq t a);
        aboard = λ x e. absurd (cc);
        standing = λ x e. absurd (cc);
      }

  pub fits_keep : (u t : ℕ) (place : UnitLocation) (es : List DayEvent) → Lawful day (Arrive t ∷ es) → 1 ≤ count_of u (list_of plan t) → count_of u (given day plan t) ≡ 0 → Fits day plan u place (Arrive t ∷ es) → Fits day plan u (Standing t) es
  fits_keep u t place es lawful mine not_given fits =
      let left = left_arrive day t es is_day lawful in
      let at : place ≡ Aboard t = arrives_aboard u t place es lawful mine fits in
      let goes = goes_to day plan accounted.accounts u t mine not_given in
      let le = kept_departs day plan accounted.accounts u t goes.0 in
      let k = goes.1 in
      let trip = is_trip day plan u goes.0 is_plan (omega arith) in
      let yet = departs_after day t goes.0 es trip (accounted.accounts.time u t goes.0 goes.1) lawful in
      record {
        under_way = λ x c d a.
            let there : place ≡ Aboard x = fits.under_way x c d (omega arith) in
            let same : t ≡ x = cc in
            let none = subst (λ y. arrivals y es ≡ 0) same left.arrives in
            absurd (omega arith);
        pending = λ a b k gone yet.
            ⊎_elim (λ (e : t ≡ a). ap Standing e)
            (λ (ne : t ≢ a).
            let o = one_other t a ne in
            let there : place ≡ Standing a = fits.pending a b k (omega arith) yet in
            absurd (cc))
            (cases_eq t a);
        aboard = λ x e. absurd (cc);
        standing = λ x e.
            let same : t ≡ x = cc in
            subst (λ y. (b : ℕ) × (1 ≤ count_of u (kept day plan y b)) × (arrivals y es ≡ 0) × (1 ≤ departures b es)) same (goes.0, goes.1, left.arrives, yet);
      }

  pub fits_pass_arrive : (u t : ℕ) (place : UnitLocation) (es : List DayEvent) → count_of u (list_of plan t) ≡ 0 → Fits day plan u place (Arrive t ∷ es) → Fits day plan u place es
  fits_pass_arrive u t place es none fits = record {
    under_way = λ s c d a. fits.under_way s c d (omega arith);
    pending = λ a b k gone yet.
        let le = kept_arrives day plan accounted.accounts u a b in
        let ne : t ≢ a = λ e. (let z = subst (λ x. count_of u (list_of plan x) ≡ 0) e none in absurd (omega arith)) in
        let o = one_other t a ne in
        fits.pending a b k (omega arith) yet;
    aboard = λ s e.
        let f = fits.aboard s e in
        let c = f.0 in
        let ne : t ≢ s = λ e. (let z = subst (λ x. count_of u (list_of plan x) ≡ 0) e none in absurd (omega arith)) in
        let o = one_other t s ne in
        (f.0, f.1, (let a = f.2 in omega arith));
    standing = λ a e. let f = fits.standing a e in (f.0, f.1, (let g = f.2 in omega arith), f.3);
  }

  -- a unit that was kept for a trip stands in the train that it is kept from when the trip departs
  pub kept_stands : (u a t : ℕ) (place : UnitLocation) (es : List DayEvent) → Lawful day (Depart t ∷ es) → 1 ≤ count_of u (kept day plan a t) → Fits day plan u place (Depart t ∷ es) → place ≡ Standing a
  kept_stands u a t place es lawful k fits =
      let o = one_same t t refl in
      fits.pending a t k (arrived_before day a t es (accounted.accounts.time u a t k) lawful) (omega arith)

  -- a unit of a trip that departs, where those that it takes are ready, comes from a yard or from a train that it is
  -- kept from
  pub boarding_of : (u t : ℕ) (place : UnitLocation) (es : List DayEvent) → Lawful day (Depart t ∷ es) → 1 ≤ count_of u (list_of plan t) → (1 ≤ count_of u (taken day plan t) → is_ready (from_of day t) (leaves day t) place ≡ true) → Fits day plan u place (Depart t ∷ es) → Boarding day plan u t place
  boarding_of u t place es lawful mine ready fits =
      ⊎_elim (λ (c : 1 ≤ count_of u (taken day plan t)). from_yard place c (ready c))
      (λ (k : (a : ℕ) × (1 ≤ count_of u (kept day plan a t))). from_train k.0 k.1 (kept_stands u k.0 t place es lawful k.1 fits))
      (comes_from day plan accounted.accounts u t mine)
    where
      from_yard : (p : UnitLocation) → 1 ≤ count_of u (taken day plan t) → is_ready (from_of day t) (leaves day t) p ≡ true → Boarding day plan u t p
      from_yard (Yard s r) c is =
          let both = and_parts (eqb s (from_of day t)) (leb r (leaves day t)) is in
          record { boards = (c, sym (eqb-true s (from_of day t) both.0), leb-true r (leaves day t) both.1); not_aboard = λ x e. absurd (cc); stood = λ x e. absurd (cc) }
      from_yard (Aboard s) c is = absurd (false≢true is)
      from_yard (Standing s) c is = absurd (false≢true is)

      from_train : (a : ℕ) → 1 ≤ count_of u (kept day plan a t) → place ≡ Standing a → Boarding day plan u t place
      from_train a k e = subst (λ p. Boarding day plan u t p) (sym e)
          (record { boards = k; not_aboard = λ x e. absurd (cc); stood = λ x e. (let same : a ≡ x = cc in subst (λ y. 1 ≤ count_of u (kept day plan y t)) same k) })

  -- such a unit is in the trip's list once
  pub boards_once : (u t : ℕ) (place : UnitLocation) (es : List DayEvent) → Lawful day (Depart t ∷ es) → DistinctSoFar plan (Depart t ∷ es) → count_of u (taken day plan t) ≤ 1 → (1 ≤ count_of u (taken day plan t) → is_ready (from_of day t) (leaves day t) place ≡ true) → Fits day plan u place (Depart t ∷ es) → count_of u (list_of plan t) ≤ 1
  boards_once u t place es lawful so_far once ready fits =
      let total = (accounted.accounts.takes t).total u in
      let first = kept_once (accounted.accounts.takes t).first in
      let second = kept_once (accounted.accounts.takes t).second in
      ⊎_elim (λ (x : 0 < count_of u (taken day plan t)).
      let f = not_kept (accounted.accounts.takes t).first (omega arith) in
      let s = not_kept (accounted.accounts.takes t).second (omega arith) in
      omega arith)
      (λ (x : count_of u (taken day plan t) ≤ 0).
      ⊎_elim (λ (y : 0 < count_of u (kept day plan (accounted.accounts.takes t).first t)).
      let s : count_of u (kept day plan (accounted.accounts.takes t).second t) ≡ 0 =
      ⊎_elim (λ (z : 0 < count_of u (kept day plan (accounted.accounts.takes t).second t)). absurd (not_both (omega arith) (omega arith)))
      (λ (z : count_of u (kept day plan (accounted.accounts.takes t).second t) ≤ 0). omega arith) (cases_lt 0 (count_of u (kept day plan (accounted.accounts.takes t).second t))) in
      omega arith)
      (λ (y : count_of u (kept day plan (accounted.accounts.takes t).first t) ≤ 0). omega arith)
      (cases_lt 0 (count_of u (kept day plan (accounted.accounts.takes t).first t))))
      (cases_lt 0 (count_of u (taken day plan t)))
    where
      kept_once : (a : ℕ) → count_of u (kept day plan a t) ≤ 1
      kept_once a =
          ⊎_elim (λ (y : 0 < count_of u (kept day plan a t)).
          let gone = arrived_before day a t es (accounted.accounts.time u a t (omega arith)) lawful in
          let too = lawful.departs_too a in
          let le = kept_arrives day plan accounted.accounts u a t in
          let d = so_far.distinct a (omega arith) u in
          omega arith)
          (λ (y : count_of u (kept day plan a t) ≤ 0). omega arith) (cases_lt 0 (count_of u (kept day plan a t)))

      not_kept : (a : ℕ) → 1 ≤ count_of u (taken day plan t) → count_of u (kept day plan a t) ≡ 0
      not_kept a c =
          ⊎_elim (λ (y : 0 < count_of u (kept day plan a t)).
          let stands = kept_stands u a t place es lawful (omega arith) fits in
          let is : false ≡ true = subst (λ p. is_ready (from_of day t) (leaves day t) p ≡ true) stands (ready c) in
          absurd (false≢true is))
          (λ (y : count_of u (kept day plan a t) ≤ 0). omega arith) (cases_lt 0 (count_of u (kept day plan a t)))

      not_both : 1 ≤ count_of u (kept day plan (accounted.accounts.takes t).first t) → 1 ≤ count_of u (kept day plan (accounted.accounts.takes t).second t) → ⊥
      not_both f s =
          let x = kept_stands u (accounted.accounts.takes t).first t place es lawful f fits in
          let y = kept_stands u (accounted.accounts.takes t).second t place es lawful s fits in
          let same : (accounted.accounts.takes t).first ≡ (accounted.accounts.takes t).second = cc in
          (accounted.accounts.takes t).apart same

  -- the other way round: a unit that can board the trip, and is taken for it, is ready in the yard
  pub ready_from_boards : (u t : ℕ) (place : UnitLocation) (es : List DayEvent) → Lawful day (Depart t ∷ es) → count_of u (list_of plan t) ≤ 1 → 1 ≤ count_of u (taken day plan t) → Fits day plan u place (Depart t ∷ es) → Boards day plan u place t → is_ready (from_of day t) (leaves day t) place ≡ true
  unfolding moment_of
  ready_from_boards u t (Yard s r) es lawful once c fits h = and_from (eqb s (from_of day t)) (leb r (leaves day t)) (eq-eqb s (from_of day t) (sym h.1)) (le-leb r (leaves day t) h.2)
  ready_from_boards u t (Aboard a) es lawful once c fits (inl k) = absurd (not_taken_and_kept day plan accounted.accounts u a t once c (leb-true 1 _ k))
  ready_from_boards u t (Aboard a) es lawful once c fits (inr y) =
      let f = fits.aboard a refl in
      let late = from_arrival day (2 * leaves day t + 1) a es lawful.never_falls.0 f.2 in
      let ready = y.ready in
      absurd (omega arith)
  ready_from_boards u t (Standing a) es lawful once c fits k = absurd (not_taken_and_kept day plan accounted.accounts u a t once c k)

  -- what a unit in a trip can board next, once the trip has given it to the yard
  pub boards_all_give : (u t : ℕ) (ts : List ℕ) → count_of u (list_of plan t) ≤ 1 → 1 ≤ count_of u (given day plan t) → BoardsAll day plan u (Aboard t) ts → BoardsAll day plan u (Yard (to_of day t) (arrives day t + reallocation_of day (to_of day t))) ts
  boards_all_give u t [] once gives h = tt
  boards_all_give u t (b ∷ ts) once gives h = (on h.0, h.1)
    where
      on : MayFollow day plan u t b → Boards day plan u (Yard (to_of day t) (arrives day t + reallocation_of day (to_of day t))) b
      on (inl k) = absurd (not_given_and_kept day plan accounted.accounts u t b once gives (leb-true 1 _ k))
      on (inr y) = (leb-true 1 _ y.taken, sym y.station, y.ready)

  pub boards_all_give_back : (u t : ℕ) (ts : List ℕ) → 1 ≤ count_of u (given day plan t) → BoardsAll day plan u (Yard (to_of day t) (arrives day t + reallocation_of day (to_of day t))) ts → BoardsAll day plan u (Aboard t) ts
  boards_all_give_back u t [] gives h = tt
  boards_all_give_back u t (b ∷ ts) gives h =
      (inr (record { given = le-leb 1 _ gives; taken = le-leb 1 _ h.0.0; station = sym h.0.1; ready = h.0.2 }), h.1)

  -- the same, once it stands in the train for its next trip
  pub boards_all_keep : (u t : ℕ) (ts : List ℕ) → count_of u (given day plan t) ≡ 0 → BoardsAll day plan u (Aboard t) ts → BoardsAll day plan u (Standing t) ts
  boards_all_keep u t [] none h = tt
  boards_all_keep u t (b ∷ ts) none h = (on h.0, h.1)
    where
      on : MayFollow day plan u t b → 1 ≤ count_of u (kept day plan t b)
      on (inl k) = leb-true 1 _ k
      on (inr y) = let g = leb-true 1 (count_of u (given day plan t)) y.given in absurd (omega arith)

  pub boards_all_keep_back : (u t : ℕ) (ts : List ℕ) → BoardsAll day plan u (Standing t) ts → BoardsAll day plan u (Aboard t) ts
  boards_all_keep_back u t [] h = tt
  boards_all_keep_back u t (b ∷ ts) h = (inl (le-leb 1 _ h.0), h.1)
