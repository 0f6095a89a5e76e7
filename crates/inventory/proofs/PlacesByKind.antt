-- The places of a link, by its kind, whatever the lists are: each unit of an arriving train goes on or is given, each
-- of a departing one came with a train or is taken; and a list that is put together has its places where they should
-- be.
use Rattle.std.proofs.Common.{◌≡◌, ℕ, suc, ◌+◌, ◌-◌, ◌≤◌, List, [], ◌∷◌, ◌++◌, length, take, drop, map, Bool, true}
use Rattle.std.proofs.Common.{false, cond, eqb, refl, sym, ap, ◌∙◌, subst, arith, ◌≢◌, length-append, length-drop}
use Rattle.std.proofs.lemmas.Bool.{cond-true, cond-false, eq-eqb, ne_eqb}
use Rattle.std.proofs.lemmas.List.{take-append-drop, length-map, map-append, take-map, drop-map, length-take-le}
use Rattle.std.proofs.Math.Seq.{take-append_seam, drop-append_seam}
use Rattle.rules.specs.declared.records.End.{End}
use Rattle.rules.specs.declared.records.End.TheVariants as at
use Rattle.rules.specs.declared.records.LinkKind.{LinkKind}
use Rattle.rules.specs.declared.records.LinkKind.TheVariants.{Turn, Join, Split}
use Rattle.timetable.specs.Links.{list_of, turned, departing_in}
use Rattle.timetable.specs.Lists.{count_of}
use Rattle.timetable.specs.Turns.{staying, beyond, kept_count}
use Rattle.rules.proofs.Turning.{staying_counts, staying-map, beyond-map}
use Rattle.timetable.proofs.Shares.{count_of-turned}
use Rattle.timetable.proofs.TypeRule.{turned-map}
use Rattle.inventory.specs.Places.{going_by, left_by, come_by, fetched_by, coupled_at, coupled_by}
use Rattle.inventory.proofs.Sums.{one_same}

-- ---- an arriving train

-- what goes on goes on in one of two trips, and the rest is given
pub record KindGoes (kind : LinkKind) (r : Bool) (types : List (List ℕ)) : Type 0 where
  pub first : ℕ
  pub second : ℕ
  pub apart : first ≢ second
  pub total : (u : ℕ) (us : List ℕ) → count_of u us ≡ count_of u (left_by kind r types us) + count_of u (going_by kind r types first us) + count_of u (going_by kind r types second us)
  pub others : (u b : ℕ) (us : List ℕ) → b ≢ first → b ≢ second → count_of u (going_by kind r types b us) ≡ 0

count_if : (u : ℕ) (b : Bool) (us : List ℕ) → b ≡ true → count_of u (cond b us []) ≡ count_of u us
count_if u b us e = ap (count_of u) (cond-true b us [] e)

count_unless : (u : ℕ) (b : Bool) (us : List ℕ) → b ≡ false → count_of u (cond b us []) ≡ 0
count_unless u b us e = ap (count_of u) (cond-false b us [] e)

pub kind_goes : (kind : LinkKind) (r : Bool) (types : List (List ℕ)) → ((t : ℕ) → count_of t (departing_in kind) ≤ 1) → KindGoes kind r types
kind_goes (Turn x y uncouple couple exchange) r types once = record {
  first = y;
  second = suc y;
  apart = λ e. absurd (omega arith);
  total = λ u us.
      let n = kept_count uncouple couple (turned r (list_of types x)) (list_of types y) in
      let turns = count_of-turned u r us in
      let shares = staying_counts u uncouple (turned r us) (kept_count uncouple couple (turned r (list_of types x)) (list_of types y)) in
      let here = count_if u (eqb y y) (staying uncouple (turned r us) (kept_count uncouple couple (turned r (list_of types x)) (list_of types y))) (eq-eqb y y refl) in
      let other = count_unless u (eqb (suc y) y) (staying uncouple (turned r us) (kept_count uncouple couple (turned r (list_of types x)) (list_of types y))) (ne_eqb (suc y) y (λ e. absurd (omega arith))) in
      omega arith;
  others = λ u b us ne ne'. count_unless u (eqb b y) (staying uncouple (turned r us) (kept_count uncouple couple (turned r (list_of types x)) (list_of types y))) (ne_eqb b y ne);
}
kind_goes (Join x1 x2 y) r types once = record {
  first = y;
  second = suc y;
  apart = λ e. absurd (omega arith);
  total = λ u us.
      let turns = count_of-turned u r us in
      let here = count_if u (eqb y y) (turned r us) (eq-eqb y y refl) in
      let other = count_unless u (eqb (suc y) y) (turned r us) (ne_eqb (suc y) y (λ e. absurd (omega arith))) in
      omega arith;
  others = λ u b us ne ne'. count_unless u (eqb b y) (turned r us) (ne_eqb b y ne);
}
kind_goes (Split x y1 y2) r types once =
    let ne : y1 ≢ y2 = λ e. (let o = one_same y1 y1 refl in let o' = one_same y2 y1 (sym e) in let few = once y1 in absurd (omega arith)) in
    record {
      first = y1;
      second = y2;
      apart = ne;
      total = λ u us.
          let turns = count_of-turned u r us in
          let shares = staying_counts u at.Rear (turned r us) (length (list_of types y1)) in
          let here = ap (count_of u) (cond-true (eqb y1 y1) (take (length (list_of types y1)) (turned r us)) (cond (eqb y1 y2) (drop (length (list_of types y1)) (turned r us)) []) (eq-eqb y1 y1 refl)) in
          let there = ap (count_of u) (cond-false (eqb y2 y1) (take (length (list_of types y1)) (turned r us)) (cond (eqb y2 y2) (drop (length (list_of types y1)) (turned r us)) []) (ne_eqb y2 y1 (λ e. ne (sym e))))
          in
          let there' = count_if u (eqb y2 y2) (drop (length (list_of types y1)) (turned r us)) (eq-eqb y2 y2 refl) in
          omega arith;
      others = λ u b us no no'.
          ap (count_of u) (cond-false (eqb b y1) (take (length (list_of types y1)) (turned r us)) (cond (eqb b y2) (drop (length (list_of types y1)) (turned r us)) []) (ne_eqb b y1 no))
          ∙ count_unless u (eqb b y2) (drop (length (list_of types y1)) (turned r us)) (ne_eqb b y2 no');
    }

-- ---- a departing train

pub kind_shares : (kind : LinkKind) (r : Bool) (types : List (List ℕ)) (u : ℕ) (us : List ℕ) → count_of u us ≡ count_of u (come_by kind r types us) + count_of u (fetched_by kind r types us)
kind_shares (Turn x y uncouple couple exchange) r types u us = staying_counts u couple us (kept_count uncouple couple (turned r (list_of types x)) (list_of types y))
kind_shares (Join x1 x2 y) r types u us = omega arith
kind_shares (Split x y1 y2) r types u us = omega arith

-- ---- types

pub going-map : (f : ℕ → ℕ) (kind : LinkKind) (r : Bool) (types : List (List ℕ)) (b : ℕ) (us : List ℕ) → map f (going_by kind r types b us) ≡ going_by kind r types b (map f us)
going-map f (Turn x y uncouple couple exchange) r types b us =
    map_if f (eqb b y) (staying uncouple (turned r us) (kept_count uncouple couple (turned r (list_of types x)) (list_of types y))) (staying uncouple (turned r (map f us)) (kept_count uncouple couple (turned r (list_of types x)) (list_of types y)))
    (sym (ap (λ (l : List ℕ). staying uncouple l (kept_count uncouple couple (turned r (list_of types x)) (list_of types y))) (turned-map f r us)
    ∙ staying-map f uncouple (turned r us) (kept_count uncouple couple (turned r (list_of types x)) (list_of types y))))
  where
    map_if : (f : ℕ → ℕ) (b : Bool) (us vs : List ℕ) → map f us ≡ vs → map f (cond b us []) ≡ cond b vs []
    map_if f true us vs e = e
    map_if f false us vs e = refl
going-map f (Join x1 x2 y) r types b us = map_if f (eqb b y) (turned r us) (turned r (map f us)) (sym (turned-map f r us))
  where
    map_if : (f : ℕ → ℕ) (b : Bool) (us vs : List ℕ) → map f us ≡ vs → map f (cond b us []) ≡ cond b vs []
    map_if f true us vs e = e
    map_if f false us vs e = refl
going-map f (Split x y1 y2) r types b us =
    map_both (eqb b y1) (eqb b y2) (take (length (list_of types y1)) (turned r us)) (take (length (list_of types y1)) (turned r (map f us))) (drop (length (list_of types y1)) (turned r us)) (drop (length (list_of types y1)) (turned r (map f us)))
    (sym (ap (take (length (list_of types y1))) (turned-map f r us) ∙ take-map f (length (list_of types y1)) (turned r us)))
    (sym (ap (drop (length (list_of types y1))) (turned-map f r us) ∙ drop-map f (length (list_of types y1)) (turned r us)))
  where
    map_both : (b c : Bool) (us vs xs ys : List ℕ) → map f us ≡ vs → map f xs ≡ ys → map f (cond b us (cond c xs [])) ≡ cond b vs (cond c ys [])
    map_both true c us vs xs ys e e' = e
    map_both false true us vs xs ys e e' = e'
    map_both false false us vs xs ys e e' = refl

pub left-map : (f : ℕ → ℕ) (kind : LinkKind) (r : Bool) (types : List (List ℕ)) (us : List ℕ) → map f (left_by kind r types us) ≡ left_by kind r types (map f us)
left-map f (Turn x y uncouple couple exchange) r types us =
    sym (ap (λ (l : List ℕ). beyond uncouple l (kept_count uncouple couple (turned r (list_of types x)) (list_of types y))) (turned-map f r us)
    ∙ beyond-map f uncouple (turned r us) (kept_count uncouple couple (turned r (list_of types x)) (list_of types y)))
left-map f (Join x1 x2 y) r types us = refl
left-map f (Split x y1 y2) r types us = refl

pub fetched-map : (f : ℕ → ℕ) (kind : LinkKind) (r : Bool) (types : List (List ℕ)) (us : List ℕ) → map f (fetched_by kind r types us) ≡ fetched_by kind r types (map f us)
fetched-map f (Turn x y uncouple couple exchange) r types us = sym (beyond-map f couple us (kept_count uncouple couple (turned r (list_of types x)) (list_of types y)))
fetched-map f (Join x1 x2 y) r types us = refl
fetched-map f (Split x y1 y2) r types us = refl

-- ---- a list put together

-- the list has the types, and its places are where they should be
pub record IsPutTogether (f : ℕ → ℕ) (kind : LinkKind) (r : Bool) (types : List (List ℕ)) (whole come fetched : List ℕ) : Type 0 where
  pub types_are : map f (coupled_by kind come fetched) ≡ whole
  pub come_is : come_by kind r types (coupled_by kind come fetched) ≡ come
  pub fetched_is : fetched_by kind r types (coupled_by kind come fetched) ≡ fetched

nothing : (f : ℕ → ℕ) (us : List ℕ) → map f us ≡ [] → us ≡ []
nothing f [] e = refl
nothing f (x ∷ us) e = absurd (cc)

same_front : (xs ys : List ℕ) (n : ℕ) → length xs ≡ n → (take n (xs ++ ys) ≡ xs) × (drop n (xs ++ ys) ≡ ys)
same_front xs ys n e = (subst (λ k. take k (xs ++ ys) ≡ xs) e (take-append_seam xs ys), subst (λ k. drop k (xs ++ ys) ≡ ys) e (drop-append_seam xs ys))

at_end : (f : ℕ → ℕ) (couple : End) (n : ℕ) (whole come fetched : List ℕ) → n ≤ length whole → map f come ≡ staying couple whole n → map f fetched ≡ beyond couple whole n
    → (map f (coupled_at couple come fetched) ≡ whole) × (staying couple (coupled_at couple come fetched) n ≡ come) × (beyond couple (coupled_at couple come fetched) n ≡ fetched)
at_end f at.None n whole come fetched within come_are fetched_are = (come_are, refl, sym (nothing f fetched fetched_are))
at_end f at.Rear n whole come fetched within come_are fetched_are =
    let long : length come ≡ n = sym (length-map come f) ∙ ap length come_are ∙ length-take-le n whole within in
    let parts = same_front come fetched n long in
    (map-append f come fetched ∙ ap (λ (l : List ℕ). l ++ map f fetched) come_are ∙ ap (λ (l : List ℕ). take n whole ++ l) fetched_are ∙ take-append-drop n whole, parts.0, parts.1)
at_end f at.Front n whole come fetched within come_are fetched_are =
    let long : length fetched ≡ length whole - n = sym (length-map fetched f) ∙ ap length fetched_are ∙ length-take-le (length whole - n) whole (omega arith) in
    let long' : length come ≡ length whole - (length whole - n) = sym (length-map come f) ∙ ap length come_are ∙ length-drop (length whole - n) whole in
    let all = length-append fetched come in
    let parts = same_front fetched come (length (fetched ++ come) - n) (omega arith) in
    (map-append f fetched come ∙ ap (λ (l : List ℕ). l ++ map f come) fetched_are ∙ ap (λ (l : List ℕ). take (length whole - n) whole ++ l) come_are ∙ take-append-drop (length whole - n) whole, parts.1, parts.0)

pub put_together_is : (f : ℕ → ℕ) (kind : LinkKind) (r : Bool) (types : List (List ℕ)) (whole come fetched : List ℕ)
    → ((x y : ℕ) (uncouple couple : End) (exchange : Bool) → kind ≡ Turn x y uncouple couple exchange → kept_count uncouple couple (turned r (list_of types x)) (list_of types y) ≤ length whole)
    → map f come ≡ come_by kind r types whole → map f fetched ≡ fetched_by kind r types whole → IsPutTogether f kind r types whole come fetched
put_together_is f (Turn x y uncouple couple exchange) r types whole come fetched within come_are fetched_are =
    let parts = at_end f couple (kept_count uncouple couple (turned r (list_of types x)) (list_of types y)) whole come fetched (within x y uncouple couple exchange refl) come_are fetched_are in
    record { types_are = parts.0; come_is = parts.1; fetched_is = parts.2 }
put_together_is f (Join x1 x2 y) r types whole come fetched within come_are fetched_are = record { types_are = come_are; come_is = refl; fetched_is = sym (nothing f fetched fetched_are) }
put_together_is f (Split x y1 y2) r types whole come fetched within come_are fetched_are = record { types_are = come_are; come_is = refl; fetched_is = sym (nothing f fetched fetched_are) }
