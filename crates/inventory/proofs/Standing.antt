-- Where units stand once trips have run, the latest first: a unit that goes on in a train has run on no later trip, and
-- each yard has what stood there at the start, less what was taken, and what was given and is ready.
use Rattle.std.proofs.Common.{◌≡◌, ℕ, ◌+◌, ◌<◌, ◌≤◌, List, [], ◌∷◌, Bool, true, false, cond, Option, Some, None, refl}
use Rattle.std.proofs.Common.{sym, ap, ◌∙◌, subst, arith, ◌≢◌, ◌⊎◌, inl, inr}
use Rattle.std.specs.Prelude.{if◌then◌else◌}
use Rattle.std.proofs.lemmas.Bool.{cases_eq, cases_lt, cond-true, cond-false, false≢true, le-leb, lt-leb}
use Rattle.timetable.specs.Accepted.{IsDay, AreLinks}
use Rattle.timetable.specs.Day.{Day, leaves, from_of, home_of, types_of, unit_count}
use Rattle.timetable.specs.Links.{list_of, trips_into}
use Rattle.timetable.specs.Lists.{count_of, has}
use Rattle.inventory.specs.Places.{going_on, given_places, kept_places, taken_places, coming}
use Rattle.inventory.specs.NamedUnits.{InYard, after_trip, standing, may_be_taken}
use Rattle.inventory.proofs.Sums.{one_same}
use Rattle.inventory.proofs.Order.{in_list, IsTurn, AreInTurn, leaves_before}
use Rattle.inventory.proofs.Linked.{Goes, goes, leads_into, coming_from, places_share}

pub le_has : (u : ℕ) (us : List ℕ) → 1 ≤ count_of u us → has u us ≡ true
le_has u us c = le-leb 1 (count_of u us) c

pub none_has : (u : ℕ) (us : List ℕ) → count_of u us ≡ 0 → has u us ≡ false
none_has u us c = lt-leb 1 (count_of u us) (omega arith)

-- trip b, once earlier trips have run, has units of the day, none twice, with its types; what came is what goes on to
-- it, and what it takes stands in the yard and is ready
pub record IsRight (day : Day) (types : List (List ℕ)) (lists : ℕ → List ℕ) (b : ℕ) (before : List ℕ) : Type 0 where
  pub types_are : types_of day (lists b) ≡ list_of types b
  pub known : (u : ℕ) → 1 ≤ count_of u (lists b) → u < unit_count day
  pub distinct : (u : ℕ) → count_of u (lists b) ≤ 1
  pub kept_are : kept_places day types b (lists b) ≡ coming day types lists b
  pub taken_are : (u : ℕ) → 1 ≤ count_of u (taken_places day types b (lists b)) → may_be_taken (from_of day b) (leaves day b) (standing day types lists before u) ≡ true

abbrev pub AreRight : Day → List (List ℕ) → (ℕ → List ℕ) → List ℕ → Type 0
AreRight day types lists [] = Unit {0}
AreRight day types lists (b ∷ before) = IsRight day types lists b before × AreRight day types lists before

module _ (day : Day) (types : List (List ℕ)) (lists : ℕ → List ℕ) where
  -- the latest trip that a unit ran on
  unfoldable pub latest : List ℕ → ℕ → Option ℕ
  latest [] u = None
  latest (t ∷ before) u = if has u (lists t) then Some t else latest before u

  -- where it stands after that
  unfoldable pub stands_after : ℕ → Option ℕ → Option InYard
  stands_after u None = Some (record { station = home_of day u; ready = 0 })
  stands_after u (Some t) = after_trip day types lists t u

  pub standing_is : (done : List ℕ) (u : ℕ) → standing day types lists done u ≡ stands_after u (latest done u)
  unfolding standing latest stands_after
  standing_is [] u = refl
  standing_is (t ∷ before) u = on (has u (lists t)) (standing_is before u)
    where
      on : (b : Bool) → standing day types lists before u ≡ stands_after u (latest before u)
          → cond b (after_trip day types lists t u) (standing day types lists before u) ≡ stands_after u (cond b (Some t) (latest before u))
      on true e = refl
      on false e = e

  pub after_none : (u : ℕ) → stands_after u None ≡ Some (record { station = home_of day u; ready = 0 })
  unfolding stands_after
  after_none u = refl

  pub after_some : (u t : ℕ) → stands_after u (Some t) ≡ after_trip day types lists t u
  unfolding stands_after
  after_some u t = refl

  pub latest_here : (t : ℕ) (before : List ℕ) (u : ℕ) → 1 ≤ count_of u (lists t) → latest (t ∷ before) u ≡ Some t
  unfolding latest
  latest_here t before u c = cond-true (has u (lists t)) (Some t) (latest before u) (le_has u (lists t) c)

  pub latest_before : (t : ℕ) (before : List ℕ) (u : ℕ) → count_of u (lists t) ≡ 0 → latest (t ∷ before) u ≡ latest before u
  unfolding latest
  latest_before t before u c = cond-false (has u (lists t)) (Some t) (latest before u) (none_has u (lists t) c)

  -- it is a trip that ran, and has the unit
  pub latest_some : (done : List ℕ) (u a : ℕ) → latest done u ≡ Some a → (1 ≤ count_of a done) × (1 ≤ count_of u (lists a))
  unfolding latest
  latest_some [] u a e = absurd (cc)
  latest_some (t ∷ before) u a e = elim (cases_lt 0 (count_of u (lists t))) [
    | inl here ↦
        let found : Some t ≡ Some a = sym (cond-true (has u (lists t)) (Some t) (latest before u) (le_has u (lists t) (omega arith))) ∙ e in
        let same : t ≡ a = cc in
        let o = one_same t a same in
        let c = ap (λ x. count_of u (lists x)) same in
        (omega arith, omega arith)
    | inr none ↦
        let rest = latest_some before u a (sym (cond-false (has u (lists t)) (Some t) (latest before u) (none_has u (lists t) (omega arith))) ∙ e) in
        let there = rest.0 in
        (omega arith, rest.1)
  ]

  pub right_of : (done : List ℕ) → AreRight day types lists done → (a u : ℕ) → 1 ≤ count_of a done → count_of u (lists a) ≤ 1
  right_of [] right a u c = absurd (omega arith)
  right_of (b ∷ before) right a u c = elim (in_list a b before c) [
    | inl e ↦ subst (λ x. count_of u (lists x) ≤ 1) e (right.0.distinct u)
    | inr later ↦ right_of before right.1 a u later
  ]

  module _ (links : AreLinks day) (is_day : IsDay day) where
    -- what goes on is not given, and goes on in one trip only
    pub not_given : (a b u : ℕ) (us : List ℕ) → count_of u us ≤ 1 → 1 ≤ count_of u (going_on day types a b us) → count_of u (given_places day types a us) ≡ 0
    not_given a b u us few c =
        let g : Goes day types a = goes day types links a in
        let all = g.total u us in
        elim (cases_eq b g.first) [
          | inl e ↦ let same = ap (λ x. count_of u (going_on day types a x us)) e in omega arith
          | inr ne ↦ elim (cases_eq b g.second) [
            | inl e ↦ let same = ap (λ x. count_of u (going_on day types a x us)) e in omega arith
            | inr ne' ↦ let none = g.others u b us ne ne' in absurd (omega arith)
          ]
        ]

    pub going_less : (a b u : ℕ) (us : List ℕ) → count_of u (going_on day types a b us) ≤ count_of u us
    going_less a b u us =
        let g : Goes day types a = goes day types links a in
        let all = g.total u us in
        elim (cases_eq b g.first) [
          | inl e ↦ let same = ap (λ x. count_of u (going_on day types a x us)) e in omega arith
          | inr ne ↦ elim (cases_eq b g.second) [
            | inl e ↦ let same = ap (λ x. count_of u (going_on day types a x us)) e in omega arith
            | inr ne' ↦ let none = g.others u b us ne ne' in omega arith
          ]
        ]

    pub one_way : (a b c u : ℕ) (us : List ℕ) → b ≢ c → count_of u us ≤ 1 → 1 ≤ count_of u (going_on day types a b us) → 1 ≤ count_of u (going_on day types a c us) → ⊥
    one_way a b c u us apart few h k =
        let g : Goes day types a = goes day types links a in
        let all = g.total u us in
        elim (cases_eq b g.first) [
          | inl e ↦ let same = ap (λ x. count_of u (going_on day types a x us)) e in elim (cases_eq c g.second) [
            | inl e' ↦ let same' = ap (λ x. count_of u (going_on day types a x us)) e' in absurd (omega arith)
            | inr ne ↦ let none = g.others u c us (λ e'. apart (e ∙ sym e')) ne in absurd (omega arith)
          ]
          | inr ne ↦ elim (cases_eq b g.second) [
            | inl e ↦ let same = ap (λ x. count_of u (going_on day types a x us)) e in elim (cases_eq c g.first) [
              | inl e' ↦ let same' = ap (λ x. count_of u (going_on day types a x us)) e' in absurd (omega arith)
              | inr other ↦ let none = g.others u c us other (λ e'. apart (e ∙ sym e')) in absurd (omega arith)
            ]
            | inr ne' ↦ let none = g.others u b us ne ne' in absurd (omega arith)
          ]
        ]

    -- what goes on may not be taken from a yard
    pub not_in_yard : (done : List ℕ) (a b u s minute : ℕ) → count_of u (lists a) ≤ 1 → latest done u ≡ Some a → 1 ≤ count_of u (going_on day types a b (lists a))
        → may_be_taken s minute (standing day types lists done u) ≡ false
    unfolding stands_after
    not_in_yard done a b u s minute few is c =
        let none : standing day types lists done u ≡ None =
        standing_is done u ∙ ap (stands_after u) is
        ∙ cond-false (has u (given_places day types a (lists a))) _ None (none_has u (given_places day types a (lists a)) (not_given a b u (lists a) few c)) in
        ap (may_be_taken s minute) none

    -- a train that leads into a trip has left before it
    pub leads_before : (a b : ℕ) (before : List ℕ) → IsTurn day b before → 1 ≤ count_of a (trips_into day b) → 1 ≤ count_of a before
    leads_before a b before turn c =
        let leads = leads_into day types links a b c in
        let from = leads.from in
        let travels = is_day.timetable.time a leads.from in
        let in_time = leads.in_time in
        turn.all a leads.from (leaves_before day a b (omega arith))

    -- a unit that goes on to a trip that hasn't left has run on no later trip
    abbrev pub GoOn : List ℕ → Type 0
    GoOn done = (a b u : ℕ) → 1 ≤ count_of a done → count_of b done ≡ 0 → 1 ≤ count_of u (going_on day types a b (lists a)) → latest done u ≡ Some a

    pub go_on : (done : List ℕ) → AreInTurn day done → AreRight day types lists done → GoOn done
    go_on [] turns right a b u there new c = absurd (omega arith)
    go_on (t ∷ before) turns right a b u there new c =
        let rest : GoOn before = go_on before turns.1 right.1 in
        elim (in_list a t before there) [
          | inl e ↦
              let less = going_less a b u (lists a) in
              let same = ap (λ x. count_of u (lists x)) e in
              latest_here t before u (omega arith) ∙ ap (λ (x : ℕ). Some x) e
          | inr earlier ↦
              let is = rest a b u earlier (omega arith) c in
              elim (cases_lt 0 (count_of u (lists t))) [
                | inl here ↦ absurd (nowhere rest earlier is here (places_share day types t u (lists t)) (cases_lt 0 (count_of u (taken_places day types t (lists t)))))
                | inr none ↦ latest_before t before u (omega arith) ∙ is
              ]
        ]
      where
        nowhere : GoOn before → 1 ≤ count_of a before → latest before u ≡ Some a → 0 < count_of u (lists t)
            → count_of u (lists t) ≡ count_of u (kept_places day types t (lists t)) + count_of u (taken_places day types t (lists t))
            → (0 < count_of u (taken_places day types t (lists t))) ⊎ (count_of u (taken_places day types t (lists t)) ≤ 0) → ⊥
        nowhere rest earlier is here shares (inl taken) =
            false≢true (sym (not_in_yard before a b u (from_of day t) (leaves day t) (right_of before right.1 a u earlier) is c) ∙ right.0.taken_are u (omega arith))
        nowhere rest earlier is here shares (inr kept) =
            let came = ap (count_of u) right.0.kept_are in
            let from = coming_from day types lists u t (omega arith) in
            let ran = leads_before from.0 t before turns.0 from.1 in
            let fresh = turns.0.fresh in
            let is' = rest from.0 t u ran fresh from.2 in
            let found : Some from.0 ≡ Some a = sym is' ∙ is in
            let same : from.0 ≡ a = cc in
            let ne : t ≢ b = λ e. (let o = one_same t b e in absurd (omega arith)) in
            one_way a t b u (lists a) ne (right_of before right.1 a u earlier) (subst (λ x. 1 ≤ count_of u (going_on day types x t (lists x))) same from.2) c
