-- What a link of each kind gives, keeps and takes, by counts.
use Rattle.std.proofs.Common.{◌≡◌, ℕ, suc, ◌+◌, ◌<◌, ◌≤◌, List, [], ◌∷◌, Bool, true, false, cond, eqb, refl, sym, ap}
use Rattle.std.proofs.Common.{subst, arith, ◌≢◌, ⊎_elim, ◌⊎◌, inl, inr}
use Rattle.std.specs.Prelude.{◌&&◌}
use Rattle.std.proofs.lemmas.Bool.{cases_eq, cases_lt, leb-true, le-leb, eqb-true, eq-eqb, and_parts, and_from}
use Rattle.std.proofs.lemmas.Bool.{cond-true}
use Rattle.day_tables.specs.Lists.{count_of, has}
use Rattle.rules.specs.declared.records.LinkKind.{LinkKind}
use Rattle.rules.specs.declared.records.LinkKind.TheVariants.{Turn, Join, Split}
use Rattle.day_tables.specs.Links.{list_of, turned, turn_of, kind_holds, arriving_in, departing_in, kept_by, given_by}
use Rattle.day_tables.specs.Links.{taken_by}
use Rattle.day_tables.proofs.Ones.{one_same, one_other}
use Rattle.day_tables.proofs.Shares.{turn_shares, join_counts, split_counts, count_of-turned}

pub same_alone : (x y : ℕ) → 1 ≤ count_of x (y ∷ []) → y ≡ x
same_alone x y c = ⊎_elim (λ (e : y ≡ x). e) (λ (ne : y ≢ x). let o = one_other y x ne in absurd (omega arith)) (cases_eq y x)

alone : (x y : ℕ) → x ≡ y → 1 ≤ count_of x (y ∷ [])
alone x y e = let o = one_same y x (sym e) in omega arith

-- what a link keeps from one trip to another, where it is any, makes the link's names
pub record Names (kind : LinkKind) (a b : ℕ) : Type 0 where
  pub arriving : 1 ≤ count_of a (arriving_in kind)
  pub departing : 1 ≤ count_of b (departing_in kind)

some_kept : (u : ℕ) (t : Bool) (xs : List ℕ) → 1 ≤ count_of u (cond t xs []) → t ≡ true
some_kept u true xs c = refl
some_kept u false xs c = absurd (omega arith)

pub kept_names : (type_of : ℕ → ℕ) (u : ℕ) (kind : LinkKind) (r : Bool) (plan : List (List ℕ)) (a b : ℕ) → 1 ≤ count_of u (kept_by type_of kind r plan a b) → Names kind a b
kept_names type_of u (Turn x y uncouple couple exchange) r plan a b c =
    let both = and_parts (eqb a x) (eqb b y) (some_kept u (eqb a x && eqb b y) (turn_of type_of uncouple couple exchange (turned r (list_of plan x)) (list_of plan y)).kept c) in
    record { arriving = alone a x (eqb-true a x both.0); departing = alone b y (eqb-true b y both.1) }
kept_names type_of u (Join x1 x2 y) r plan a b c =
    let both = and_parts (has a (x1 ∷ x2 ∷ [])) (eqb b y) (some_kept u (has a (x1 ∷ x2 ∷ []) && eqb b y) (turned r (list_of plan a)) c) in
    record { arriving = leb-true 1 (count_of a (x1 ∷ x2 ∷ [])) both.0; departing = alone b y (eqb-true b y both.1) }
kept_names type_of u (Split x y1 y2) r plan a b c =
    let both = and_parts (eqb a x) (has b (y1 ∷ y2 ∷ [])) (some_kept u (eqb a x && has b (y1 ∷ y2 ∷ [])) (list_of plan b) c) in
    record { arriving = alone a x (eqb-true a x both.0); departing = leb-true 1 (count_of b (y1 ∷ y2 ∷ [])) both.1 }

pub kept_zero : (type_of : ℕ → ℕ) (u : ℕ) (kind : LinkKind) (r : Bool) (plan : List (List ℕ)) (a b : ℕ) → (count_of a (arriving_in kind) ≡ 0) ⊎ (count_of b (departing_in kind) ≡ 0) → count_of u (kept_by type_of kind r plan a b) ≡ 0
kept_zero type_of u kind r plan a b none =
    ⊎_elim
    (λ (c : 0 < count_of u (kept_by type_of kind r plan a b)).
    let names = kept_names type_of u kind r plan a b (omega arith) in
    let x = names.arriving in
    let y = names.departing in
    ⊎_elim (λ (z : count_of a (arriving_in kind) ≡ 0). absurd (omega arith)) (λ (z : count_of b (departing_in kind) ≡ 0). absurd (omega arith)) none)
    (λ (c : count_of u (kept_by type_of kind r plan a b) ≤ 0). omega arith)
    (cases_lt 0 (count_of u (kept_by type_of kind r plan a b)))

-- a trip that is named once
not_alone : (x y : ℕ) → x ≢ y → count_of x (y ∷ []) ≡ 0
not_alone x y ne = let o = one_other y x (λ e. ne (sym e)) in omega arith

not_both : (x y z : ℕ) → x ≢ y → x ≢ z → count_of x (y ∷ z ∷ []) ≡ 0
not_both x y z ne ne' = let o = one_other y x (λ e. ne (sym e)) in let o' = one_other z x (λ e. ne' (sym e)) in omega arith

pub two_apart : (x y : ℕ) → count_of x (x ∷ y ∷ []) ≤ 1 → x ≢ y
two_apart x y once e = let o = one_same x x refl in let o' = one_same y x (sym e) in absurd (omega arith)

-- what arrives by a link is given, or kept for two trips at most
pub record KindGives (type_of : ℕ → ℕ) (kind : LinkKind) (r : Bool) (plan : List (List ℕ)) (a : ℕ) : Type 0 where
  pub first : ℕ
  pub second : ℕ
  pub apart : first ≢ second
  pub total : (u : ℕ) → count_of u (list_of plan a) ≡ count_of u (given_by type_of kind r plan) + count_of u (kept_by type_of kind r plan a first) + count_of u (kept_by type_of kind r plan a second)
  pub others : (u b : ℕ) → b ≢ first → b ≢ second → count_of u (kept_by type_of kind r plan a b) ≡ 0

-- what departs by a link is taken, or was kept from two trips at most
pub record KindTakes (type_of : ℕ → ℕ) (kind : LinkKind) (r : Bool) (plan : List (List ℕ)) (b : ℕ) : Type 0 where
  pub first : ℕ
  pub second : ℕ
  pub apart : first ≢ second
  pub total : (u : ℕ) → count_of u (list_of plan b) ≡ count_of u (taken_by type_of kind r plan) + count_of u (kept_by type_of kind r plan first b) + count_of u (kept_by type_of kind r plan second b)
  pub others : (u a : ℕ) → a ≢ first → a ≢ second → count_of u (kept_by type_of kind r plan a b) ≡ 0

pub kind_gives : (type_of : ℕ → ℕ) (kind : LinkKind) (r : Bool) (plan : List (List ℕ)) (a : ℕ) → kind_holds type_of kind r plan ≡ true → ((t : ℕ) → count_of t (departing_in kind) ≤ 1) → 1 ≤ count_of a (arriving_in kind) → KindGives type_of kind r plan a
kind_gives type_of (Turn x y uncouple couple exchange) r plan a holds once named =
    subst (λ z. KindGives type_of (Turn x y uncouple couple exchange) r plan z) (same_alone a x named) (record {
      first = y;
      second = suc y;
      apart = λ e. absurd (omega arith);
      total = λ u.
          let shares = (turn_shares type_of uncouple couple exchange (turned r (list_of plan x)) (list_of plan y)).arrives u in
          let turns = count_of-turned u r (list_of plan x) in
          let kept : count_of u (kept_by type_of (Turn x y uncouple couple exchange) r plan x y) ≡ count_of u (turn_of type_of uncouple couple exchange (turned r (list_of plan x)) (list_of plan y)).kept =
          ap (count_of u) (cond-true (eqb x x && eqb y y) (turn_of type_of uncouple couple exchange (turned r (list_of plan x)) (list_of plan y)).kept [] (and_from _ _ (eq-eqb x x refl) (eq-eqb y y refl))) in
          let none = kept_zero type_of u (Turn x y uncouple couple exchange) r plan x (suc y) (inr (not_alone (suc y) y (λ e. absurd (omega arith)))) in
          omega arith;
      others = λ u b ne ne'. kept_zero type_of u (Turn x y uncouple couple exchange) r plan x b (inr (not_alone b y ne));
    })
kind_gives type_of (Join x1 x2 y) r plan a holds once named = record {
  first = y;
  second = suc y;
  apart = λ e. absurd (omega arith);
  total = λ u.
      let turns = count_of-turned u r (list_of plan a) in
      let kept : count_of u (kept_by type_of (Join x1 x2 y) r plan a y) ≡ count_of u (turned r (list_of plan a)) =
      ap (count_of u) (cond-true (has a (x1 ∷ x2 ∷ []) && eqb y y) (turned r (list_of plan a)) [] (and_from _ _ (le-leb 1 (count_of a (x1 ∷ x2 ∷ [])) named) (eq-eqb y y refl))) in
      let none = kept_zero type_of u (Join x1 x2 y) r plan a (suc y) (inr (not_alone (suc y) y (λ e. absurd (omega arith)))) in
      omega arith;
  others = λ u b ne ne'. kept_zero type_of u (Join x1 x2 y) r plan a b (inr (not_alone b y ne));
}
kind_gives type_of (Split x y1 y2) r plan a holds once named =
    subst (λ z. KindGives type_of (Split x y1 y2) r plan z) (same_alone a x named) (record {
      first = y1;
      second = y2;
      apart = two_apart y1 y2 (once y1);
      total = λ u.
          let turns = count_of-turned u r (list_of plan x) in
          let parts = split_counts u (turned r (list_of plan x)) (list_of plan y1) (list_of plan y2) holds in
          let one' = one_same y1 y1 refl in
          let two' = one_same y2 y2 refl in
          let kept : count_of u (kept_by type_of (Split x y1 y2) r plan x y1) ≡ count_of u (list_of plan y1) =
          ap (count_of u) (cond-true (eqb x x && has y1 (y1 ∷ y2 ∷ [])) (list_of plan y1) [] (and_from _ _ (eq-eqb x x refl) (le-leb 1 (count_of y1 (y1 ∷ y2 ∷ [])) (omega arith)))) in
          let kept' : count_of u (kept_by type_of (Split x y1 y2) r plan x y2) ≡ count_of u (list_of plan y2) =
          ap (count_of u) (cond-true (eqb x x && has y2 (y1 ∷ y2 ∷ [])) (list_of plan y2) [] (and_from _ _ (eq-eqb x x refl) (le-leb 1 (count_of y2 (y1 ∷ y2 ∷ [])) (omega arith)))) in
          omega arith;
      others = λ u b ne ne'. kept_zero type_of u (Split x y1 y2) r plan x b (inr (not_both b y1 y2 ne ne'));
    })

pub kind_takes : (type_of : ℕ → ℕ) (kind : LinkKind) (r : Bool) (plan : List (List ℕ)) (b : ℕ) → kind_holds type_of kind r plan ≡ true → ((t : ℕ) → count_of t (arriving_in kind) ≤ 1) → 1 ≤ count_of b (departing_in kind) → KindTakes type_of kind r plan b
kind_takes type_of (Turn x y uncouple couple exchange) r plan b holds once named =
    subst (λ z. KindTakes type_of (Turn x y uncouple couple exchange) r plan z) (same_alone b y named) (record {
      first = x;
      second = suc x;
      apart = λ e. absurd (omega arith);
      total = λ u.
          let shares = (turn_shares type_of uncouple couple exchange (turned r (list_of plan x)) (list_of plan y)).departs u in
          let kept : count_of u (kept_by type_of (Turn x y uncouple couple exchange) r plan x y) ≡ count_of u (turn_of type_of uncouple couple exchange (turned r (list_of plan x)) (list_of plan y)).kept =
          ap (count_of u) (cond-true (eqb x x && eqb y y) (turn_of type_of uncouple couple exchange (turned r (list_of plan x)) (list_of plan y)).kept [] (and_from _ _ (eq-eqb x x refl) (eq-eqb y y refl))) in
          let none = kept_zero type_of u (Turn x y uncouple couple exchange) r plan (suc x) y (inl (not_alone (suc x) x (λ e. absurd (omega arith)))) in
          omega arith;
      others = λ u a ne ne'. kept_zero type_of u (Turn x y uncouple couple exchange) r plan a y (inl (not_alone a x ne));
    })
kind_takes type_of (Join x1 x2 y) r plan b holds once named =
    subst (λ z. KindTakes type_of (Join x1 x2 y) r plan z) (same_alone b y named) (record {
      first = x1;
      second = x2;
      apart = two_apart x1 x2 (once x1);
      total = λ u.
          let turns = count_of-turned u r (list_of plan x1) in
          let turns' = count_of-turned u r (list_of plan x2) in
          let parts = join_counts u (turned r (list_of plan x1)) (turned r (list_of plan x2)) (list_of plan y) holds in
          let one' = one_same x1 x1 refl in
          let two' = one_same x2 x2 refl in
          let kept : count_of u (kept_by type_of (Join x1 x2 y) r plan x1 y) ≡ count_of u (turned r (list_of plan x1)) =
          ap (count_of u) (cond-true (has x1 (x1 ∷ x2 ∷ []) && eqb y y) (turned r (list_of plan x1)) [] (and_from _ _ (le-leb 1 (count_of x1 (x1 ∷ x2 ∷ [])) (omega arith)) (eq-eqb y y refl))) in
          let kept' : count_of u (kept_by type_of (Join x1 x2 y) r plan x2 y) ≡ count_of u (turned r (list_of plan x2)) =
          ap (count_of u) (cond-true (has x2 (x1 ∷ x2 ∷ []) && eqb y y) (turned r (list_of plan x2)) [] (and_from _ _ (le-leb 1 (count_of x2 (x1 ∷ x2 ∷ [])) (omega arith)) (eq-eqb y y refl))) in
          omega arith;
      others = λ u a ne ne'. kept_zero type_of u (Join x1 x2 y) r plan a y (inl (not_both a x1 x2 ne ne'));
    })
kind_takes type_of (Split x y1 y2) r plan b holds once named = record {
  first = x;
  second = suc x;
  apart = λ e. absurd (omega arith);
  total = λ u.
      let kept : count_of u (kept_by type_of (Split x y1 y2) r plan x b) ≡ count_of u (list_of plan b) =
      ap (count_of u) (cond-true (eqb x x && has b (y1 ∷ y2 ∷ [])) (list_of plan b) [] (and_from _ _ (eq-eqb x x refl) (le-leb 1 (count_of b (y1 ∷ y2 ∷ [])) named))) in
      let none = kept_zero type_of u (Split x y1 y2) r plan (suc x) b (inl (not_alone (suc x) x (λ e. absurd (omega arith)))) in
      omega arith;
  others = λ u a ne ne'. kept_zero type_of u (Split x y1 y2) r plan a b (inl (not_alone a x ne));
}
