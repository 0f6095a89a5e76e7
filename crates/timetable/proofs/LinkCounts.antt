-- How often a unit is in the lists of trips.
use Rattle.std.proofs.Common.{◌≡◌, ℕ, ◌+◌, ◌<◌, ◌≤◌, List, [], ◌∷◌, length, Bool, true, cond, refl, sym, ap, ◌∙◌}
use Rattle.std.proofs.Common.{subst, arith, ◌≢◌, inl, inr}
use Rattle.std.specs.Prelude.{if◌then◌else◌, ◌==◌, ◌&&◌, ◌⊎◌, IsTrue}
use Rattle.std.specs.List.{sum_by}
use Rattle.std.proofs.lemmas.Bool.{cases_eq, cases_lt, cond-true, cond-false, eq-eqb, ne_eqb, leb-true, le-leb, and_from}
use Rattle.rules.specs.declared.records.LinkKind.{LinkKind}
use Rattle.rules.specs.declared.records.LinkKind.TheVariants.{Turn, Join, Split}
use Rattle.timetable.specs.Accepted.{AreLinks}
use Rattle.timetable.specs.Day.{Day}
use Rattle.timetable.specs.LinkCounts.{EachLinkHolds, LinksCount, TripCounts, TripsCount}
use Rattle.timetable.specs.Links.{list_of, turned, turn_of, kind_holds, link_holds, arriving_in, departing_in, kept_by}
use Rattle.timetable.specs.Links.{given_by, taken_by, kept_with}
use Rattle.timetable.specs.Lists.{count_of, has, sum_below}
use Rattle.timetable.proofs.Accounts.{AreAccountedWith}
use Rattle.timetable.proofs.Linked.{StaysBy, stays_by_with, links_account_with}
use Rattle.timetable.proofs.LinkKinds.{same_alone}
use Rattle.timetable.proofs.Ones.{one_same}
use Rattle.timetable.proofs.Reindexing.{sum_at}
use Rattle.timetable.proofs.Shares.{turn_shares, join_counts, split_counts, count_of-turned}
use Rattle.timetable.proofs.Sums.{sum_same, sum_add, sum_zero}

-- ---- at a link

module _ (type_of : ℕ → ℕ) (r : Bool) (lists : List (List ℕ)) (u : ℕ) where
  abbrev times : LinkKind → ℕ → ℕ → ℕ
  times kind a b = count_of u (kept_by type_of kind r lists a b)

  -- what is kept between two trips that the link names
  chosen : (test : Bool) (us : List ℕ) → test ≡ true → count_of u (cond test us []) ≡ count_of u us
  chosen test us is = ap (count_of u) (cond-true test us [] is)

  itself_named : (x : ℕ) (ys : List ℕ) → has x (x ∷ ys) ≡ true
  itself_named x ys = let one = one_same x x refl in le-leb 1 (count_of x (x ∷ ys)) (omega arith)

  second_named : (x y : ℕ) → has y (x ∷ y ∷ []) ≡ true
  second_named x y = let one = one_same y y refl in le-leb 1 (count_of y (x ∷ y ∷ [])) (omega arith)

  both_same : (x y : ℕ) → (x == x) && (y == y) ≡ true
  both_same x y = and_from _ _ (eq-eqb x x refl) (eq-eqb y y refl)

  arrives_of : (kind : LinkKind) (a : ℕ) → kind_holds type_of kind r lists ≡ true → IsTrue (has a (arriving_in kind))
      → count_of u (list_of lists a) ≡ count_of u (given_by type_of kind r lists) + sum_by (λ b. times kind a b) (departing_in kind)
  arrives_of (Turn x y uncouple couple exchange) a holds named =
      subst (λ a. count_of u (list_of lists a) ≡ count_of u (given_by type_of (Turn x y uncouple couple exchange) r lists) + sum_by (λ b. times (Turn x y uncouple couple exchange) a b) (y ∷ []))
      (same_alone a x (leb-true 1 (count_of a (x ∷ [])) named))
      (let shares = (turn_shares type_of uncouple couple exchange (turned r (list_of lists x)) (list_of lists y)).arrives u in
      let turns = count_of-turned u r (list_of lists x) in
      let stays = chosen ((x == x) && (y == y)) (turn_of type_of uncouple couple exchange (turned r (list_of lists x)) (list_of lists y)).kept (both_same x y) in
      omega arith)
  arrives_of (Join x1 x2 y) a holds named =
      let turns = count_of-turned u r (list_of lists a) in
      let stays = chosen (has a (x1 ∷ x2 ∷ []) && (y == y)) (turned r (list_of lists a)) (and_from _ _ named (eq-eqb y y refl)) in
      omega arith
  arrives_of (Split x y1 y2) a holds named =
      subst (λ a. count_of u (list_of lists a) ≡ 0 + sum_by (λ b. times (Split x y1 y2) a b) (y1 ∷ y2 ∷ [])) (same_alone a x (leb-true 1 (count_of a (x ∷ [])) named))
      (let turns = count_of-turned u r (list_of lists x) in
      let parts = split_counts u (turned r (list_of lists x)) (list_of lists y1) (list_of lists y2) holds in
      let first = chosen ((x == x) && has y1 (y1 ∷ y2 ∷ [])) (list_of lists y1) (and_from _ _ (eq-eqb x x refl) (itself_named y1 (y2 ∷ []))) in
      let second = chosen ((x == x) && has y2 (y1 ∷ y2 ∷ [])) (list_of lists y2) (and_from _ _ (eq-eqb x x refl) (second_named y1 y2)) in
      omega arith)

  departs_of : (kind : LinkKind) (b : ℕ) → kind_holds type_of kind r lists ≡ true → IsTrue (has b (departing_in kind))
      → count_of u (list_of lists b) ≡ count_of u (taken_by type_of kind r lists) + sum_by (λ a. times kind a b) (arriving_in kind)
  departs_of (Turn x y uncouple couple exchange) b holds named =
      subst (λ b. count_of u (list_of lists b) ≡ count_of u (taken_by type_of (Turn x y uncouple couple exchange) r lists) + sum_by (λ a. times (Turn x y uncouple couple exchange) a b) (x ∷ []))
      (same_alone b y (leb-true 1 (count_of b (y ∷ [])) named))
      (let shares = (turn_shares type_of uncouple couple exchange (turned r (list_of lists x)) (list_of lists y)).departs u in
      let stays = chosen ((x == x) && (y == y)) (turn_of type_of uncouple couple exchange (turned r (list_of lists x)) (list_of lists y)).kept (both_same x y) in
      omega arith)
  departs_of (Join x1 x2 y) b holds named =
      subst (λ b. count_of u (list_of lists b) ≡ 0 + sum_by (λ a. times (Join x1 x2 y) a b) (x1 ∷ x2 ∷ [])) (same_alone b y (leb-true 1 (count_of b (y ∷ [])) named))
      (let parts = join_counts u (turned r (list_of lists x1)) (turned r (list_of lists x2)) (list_of lists y) holds in
      let first = chosen (has x1 (x1 ∷ x2 ∷ []) && (y == y)) (turned r (list_of lists x1)) (and_from _ _ (itself_named x1 (x2 ∷ [])) (eq-eqb y y refl)) in
      let second = chosen (has x2 (x1 ∷ x2 ∷ []) && (y == y)) (turned r (list_of lists x2)) (and_from _ _ (second_named x1 x2) (eq-eqb y y refl)) in
      omega arith)
  departs_of (Split x y1 y2) b holds named =
      let stays = chosen ((x == x) && has b (y1 ∷ y2 ∷ [])) (list_of lists b) (and_from _ _ (eq-eqb x x refl) named) in
      omega arith

pub links_count : LinksCount
unfolding link_holds
links_count type_of link lists u holds = record {
  arriving = λ a named. arrives_of type_of link.reverse lists u link.kind a holds named;
  departing = λ b named. departs_of type_of link.reverse lists u link.kind b holds named;
}

-- ---- on a day

-- a sum in which two numbers count alone
sum_of_two : (f : ℕ → ℕ) (x y n : ℕ) → x ≢ y → ((k : ℕ) → k ≢ x → k ≢ y → f k ≡ 0) → ((k : ℕ) → n ≤ k → f k ≡ 0) → sum_below f n ≡ f x + f y
sum_of_two f x y n apart others outside =
    let parted = sum_same f (λ k. (if x == k then f k else 0) + (if y == k then f k else 0)) n (λ k lt. in_two k) in
    let sums = sum_add (λ k. if x == k then f k else 0) (λ k. if y == k then f k else 0) n in
    let first = at x in
    let second = at y in
    omega arith
  where
    in_two : (k : ℕ) → f k ≡ (if x == k then f k else 0) + (if y == k then f k else 0)
    in_two k = elim (cases_eq x k) [
      | inl e ↦
          let here = cond-true {A = ℕ} (x == k) (f k) 0 (eq-eqb x k e) in
          let other = cond-false {A = ℕ} (y == k) (f k) 0 (ne_eqb y k (λ is. apart (e ∙ sym is))) in
          omega arith
      | inr ne ↦ elim (cases_eq y k) [
        | inl e ↦
            let here = cond-true {A = ℕ} (y == k) (f k) 0 (eq-eqb y k e) in
            let other = cond-false {A = ℕ} (x == k) (f k) 0 (ne_eqb x k ne) in
            omega arith
        | inr ne' ↦
            let none = others k (λ e. ne (sym e)) (λ e. ne' (sym e)) in
            let first = cond-false {A = ℕ} (x == k) (f k) 0 (ne_eqb x k ne) in
            let second = cond-false {A = ℕ} (y == k) (f k) 0 (ne_eqb y k ne') in
            omega arith
      ]
    ]

    at : (z : ℕ) → sum_below (λ k. if z == k then f k else 0) n ≡ f z
    at z = elim (cases_lt z n) [
      | inl lt ↦ sum_at f z n lt
      | inr past ↦
          let none = sum_zero (λ k. if z == k then f k else 0) n (λ k lt. cond-false {A = ℕ} (z == k) (f k) 0 (ne_eqb z k (λ e. absurd (omega arith)))) in
          let zero = outside z past in
          omega arith
    ]

module _ (type_of : ℕ → ℕ) (day : Day) (lists : List (List ℕ)) (links : AreLinks day) (hold : EachLinkHolds type_of day lists) where
  accounted : AreAccountedWith type_of day lists
  accounted = links_account_with type_of day lists links (record { holds = hold })

  -- nothing is kept from or for a trip that is not there
  none_kept : (u a b : ℕ) → (count_of u (kept_with type_of day lists a b) ≡ 0) ⊎ ((a < length day.trips) × (b < length day.trips))
  none_kept u a b = elim (cases_lt 0 (count_of u (kept_with type_of day lists a b))) [
    | inl some ↦
        let by : StaysBy day a b = stays_by_with type_of day lists u a b (omega arith) in
        inr (links.arriving by.number a by.link by.at by.arriving, links.departing by.number b by.link by.at by.departing)
    | inr none ↦ inl (omega arith)
  ]

  none_for : (u a b : ℕ) → length day.trips ≤ b → count_of u (kept_with type_of day lists a b) ≡ 0
  none_for u a b past = elim (none_kept u a b) [ inl none ↦ none | inr there ↦ absurd (let lt = there.1 in omega arith) ]

  none_from : (u a b : ℕ) → length day.trips ≤ a → count_of u (kept_with type_of day lists a b) ≡ 0
  none_from u a b past = elim (none_kept u a b) [ inl none ↦ none | inr there ↦ absurd (let lt = there.0 in omega arith) ]

  counts_at : (t u : ℕ) → TripCounts type_of day lists t u
  counts_at t u =
      let gives = accounted.gives t in
      let takes = accounted.takes t in
      let given_all = gives.total u in
      let taken_all = takes.total u in
      let goes = sum_of_two (λ b. count_of u (kept_with type_of day lists t b)) gives.first gives.second (length day.trips) gives.apart (gives.others u) (λ b past. none_for u t b past) in
      let comes = sum_of_two (λ a. count_of u (kept_with type_of day lists a t)) takes.first takes.second (length day.trips) takes.apart (takes.others u) (λ a past. none_from u a t past) in
      record { arriving = omega arith; departing = omega arith }

pub trips_count : TripsCount
trips_count type_of day lists t u links hold = counts_at type_of day lists links hold t u
