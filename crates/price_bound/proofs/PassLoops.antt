-- The passes over the compositions, step by step.
use Rattle.std.proofs.Common.{◌≡◌, ◌≢◌, ℕ, suc, ◌+◌, ◌<◌, ◌≤◌, List, length, set, map, Bool, true, false, ◌⊎◌, Some}
use Rattle.std.proofs.Common.{None, sym, ap, ◌∙◌, subst, arith, ℤ, pos, ◌+ℤ◌, ◌-ℤ◌, ◌≤ℤ◌, inl, inr, length-set}
use Rattle.std.specs.Prelude.{◌&&◌, if◌then◌else◌, nat_lt}
use Rattle.std.proofs.lemmas.Bool.{and_parts, cases_Bool, cases_eq, ltb-true}
use Rattle.std.proofs.lemmas.Int.{ints}
use Rattle.std.proofs.lemmas.List.{get_or-set_same, get_or-set_other}
use Rattle.timetable.specs.Admissible.{is_admissible}
use Rattle.timetable.specs.Compositions.{compositions_of, composition_at}
use Rattle.transitions.specs.Edges.{IsAdmittedComp}
use Rattle.branch_tree.specs.Regions.{has}
use Rattle.price_bound.specs.declared.passes.Passes.{Passes}
use Rattle.price_bound.specs.CellRows.{cell_in, offered_from}
use Rattle.price_bound.specs.declared.cells.Cell.{Cell}
use Rattle.price_bound.specs.CellSizes.{AreSmallCells, IsSmall}
use Rattle.price_bound.specs.ChainStages.{Priced, cost_on, may_have, priced_cost_of}
use Rattle.price_bound.specs.CompositionTrees.{IsMadeOf, place_at}
use Rattle.price_bound.specs.HeldValues.{HoldsCell, least_none, no_value}
use Rattle.price_bound.specs.LeastOverTrees.{lower}
use Rattle.price_bound.specs.PassValues.{AreAhead, AreLonger, ArePassValues, AreShorter, IsEndAhead, IsForPasses}
use Rattle.price_bound.specs.PassValues.{comps_for, most_held, most_summed, no_sum, priced_for, value_at}
use Rattle.price_bound.specs.Regrouped.{trip_value}
use Rattle.price_bound.proofs.CompositionTrees.{composition_tree, least_fewer_of, least_more_of, made_of_listed, turned_back}
use Rattle.price_bound.proofs.CompositionTrees.{turned_once}
use Rattle.price_bound.proofs.LeastOverTrees.{AreDown, AreUp, IsTree, LowerCase, down_one, first, lower_case, made_of_lower, second}
use Rattle.price_bound.proofs.LeastOverTrees.{up_one, up_rest}
use Rattle.price_bound.proofs.PassValues.{held_turning, least_turning, offered_small}

-- for each composition that is another one below a number after a reversal, and may run on the arriving trip, the value
-- of the cell that the edges offer
pub record ArePassed (passes : Passes) (ahead : List ℤ) (at : ℕ) (values : List ℤ) : Type 0 where
  pub long : length values ≡ comps_for passes
  pub each : (comp : ℕ) → comp < at → IsAdmittedComp (priced_for passes).day passes.turn.arriving
      (place_at passes.turned.now comp)
      → HoldsCell least_none (value_at values (place_at passes.turned.now comp))
      (offered_from (priced_for passes) (Some passes.link) (map cell_in ahead) (place_at passes.turned.now comp))

-- ---- what may run

-- what has a priced cost on a trip may run on it
pub priced_cost_runs : (priced : Priced) (t comp : ℕ) (priced_cost : ℤ) → priced_cost_of priced t comp ≡ Some priced_cost → IsAdmittedComp priced.day t comp
priced_cost_runs priced t comp priced_cost is = on (cases_Bool (may_have priced.day priced.region t comp))
  where
    on : (may_have priced.day priced.region t comp ≡ true) ⊎ (may_have priced.day priced.region t comp ≡ false) → IsAdmittedComp priced.day t comp
    on (inl may) =
        let both = and_parts (has priced.region t comp) (nat_lt comp (length (compositions_of priced.day)) && is_admissible priced.day t (composition_at priced.day comp)) may in
        let parts = and_parts (nat_lt comp (length (compositions_of priced.day))) (is_admissible priced.day t (composition_at priced.day comp)) both.1 in
        record { listed = ltb-true comp (length (compositions_of priced.day)) parts.0; admissible = parts.1 }
    on (inr never) = absurd (let none : None ≡ Some priced_cost = sym (ap (λ (b : Bool). if b then Some (trip_value priced.day (cost_on priced) priced.entries priced.weight t comp) else None) never) ∙ is in cc)

-- ---- the lower of two

pub lower_small : (bound : ℕ) (a b : ℤ) → IsSmall bound a → IsSmall bound b → IsSmall bound (lower a b)
lower_small bound a b small small_too = on (lower_case a b)
  where
    on : LowerCase a b → IsSmall bound (lower a b)
    on (first same under) = subst (IsSmall bound) (sym same) small
    on (second same under) = subst (IsSmall bound) (sym same) small_too

pub sum_fits : (a b : ℤ) → IsSmall most_held a → IsSmall 6000000000000000 b → IsSmall most_summed (a +ℤ b)
sum_fits a b small small_too =
    let p = small.above in let q = small.below in let r = small_too.above in let s = small_too.below in
    record { above = omega (arith, ints, p, r); below = omega (arith, ints, q, s) }

sum_high : (a b : ℤ) → no_value ≤ℤ a → IsSmall 6000000000000000 b → no_sum ≤ℤ (a +ℤ b)
sum_high a b high small = let p = small.above in omega (arith, ints, high, p)

level : (x y : ℤ) → x ≡ y → y ≤ℤ x
level x y e = omega (arith, ints, e)

-- ---- the passes

module _ (passes : Passes) (is : IsForPasses passes) (ahead : List ℤ) (are : AreAhead passes ahead) where
  abbrev comps : ℕ
  comps = comps_for passes

  abbrev shorter_of : ℕ → ℕ
  shorter_of = place_at passes.shorter.now

  abbrev longer_of : ℕ → ℕ
  longer_of = place_at passes.longer.now

  abbrev place : ℕ → ℕ
  place = place_at passes.turned.now

  abbrev credited : ℕ → ℤ
  credited comp = value_at ahead comp +ℤ value_at passes.credits.now comp

  abbrev debited : ℕ → ℤ
  debited comp = value_at ahead comp +ℤ value_at passes.debits.now comp

  tree_off : IsTree (IsMadeOf (priced_for passes).day passes.turn.uncouple) shorter_of comps
  tree_off = composition_tree (priced_for passes).day passes.turn.uncouple shorter_of is.off

  tree_on : IsTree (IsMadeOf (priced_for passes).day passes.turn.couple) longer_of comps
  tree_on = composition_tree (priced_for passes).day passes.turn.couple longer_of is.on

  abbrev Down : ℕ → List ℤ → Type 0
  Down from longer = AreDown (IsMadeOf (priced_for passes).day passes.turn.couple) longer_of comps tree_on debited no_sum from (value_at longer)

  abbrev Up : ℕ → List ℤ → Type 0
  Up at shorter = AreUp (IsMadeOf (priced_for passes).day passes.turn.uncouple) shorter_of comps tree_off credited no_sum at (value_at shorter)

  -- ---- downwards

  -- a composition that is made of one from the end of the row ahead on has no cell, so that its sum is high
  high_from : (end : ℕ) → IsEndAhead passes ahead end → (comp from : ℕ) → IsMadeOf (priced_for passes).day passes.turn.couple comp from → end ≤ from
      → no_sum ≤ℤ debited comp
  high_from end past comp from of under =
      let listed : comp < comps = made_of_listed (priced_for passes).day passes.turn.couple comp from of in
      let within : from ≤ comp = made_of_lower (IsMadeOf (priced_for passes).day passes.turn.couple) longer_of comps tree_on comp from listed of in
      let high : no_value ≤ℤ value_at ahead comp =
      subst (HoldsCell no_value (value_at ahead comp)) (past.none comp (omega (arith, within, under))) (are.is.holds comp listed) in
      sum_high (value_at ahead comp) (value_at passes.debits.now comp) high (is.sums.debits_small comp listed)

  pub longer_none : (end : ℕ) → IsEndAhead passes ahead end → (longer : List ℤ) → length longer ≡ suc comps
      → ((comp : ℕ) → comp ≤ comps → value_at longer comp ≡ no_sum) → AreLonger passes ahead end longer
  longer_none end past longer long none = record {
    long = long;
    least = λ comp within. record {
      reached = inl (level (value_at longer comp) no_sum (none comp within));
      below = λ a over. subst (λ (x : ℤ). x ≤ℤ debited a) (sym (none comp within)) (high_from end past a over.0 over.4 over.1);
    };
    small = λ comp within. high (value_at longer comp) (none comp within);
  }
    where
      high : (x : ℤ) → x ≡ no_sum → IsSmall most_summed x
      high x e = record { above = omega (arith, ints, e); below = omega (arith, ints, e) }

  pub debited_small : (at : ℕ) → at < comps → IsSmall most_summed (debited at)
  debited_small at below = sum_fits (value_at ahead at) (value_at passes.debits.now at) (are.small at below) (is.sums.debits_small at below)

  pub credited_small : (at : ℕ) → at < comps → IsSmall most_summed (credited at)
  credited_small at below = sum_fits (value_at ahead at) (value_at passes.credits.now at) (are.small at below) (is.sums.credits_small at below)

  pub longer_one : (at : ℕ) → at < comps → (longer new : List ℤ) → AreLonger passes ahead (suc at) longer
      → new ≡ set longer (longer_of at) (lower (value_at longer (longer_of at)) (lower (value_at longer at) (debited at)))
      → AreLonger passes ahead at new
  longer_one at below longer new done made =
      let rest : ℕ = longer_of at in
      let rest_within : rest ≤ comps = (is.on at below).within in
      let put : ℤ = lower (value_at longer rest) (lower (value_at longer at) (debited at)) in
      let here : value_at new rest ≡ put =
      ap (λ (xs : List ℤ). value_at xs rest) made ∙ get_or-set_same longer rest put (pos 0) (omega (arith, rest_within, done.long)) in
      let others : (comp : ℕ) → comp ≢ rest → value_at new comp ≡ value_at longer comp = λ comp differ.
      ap (λ (xs : List ℤ). value_at xs comp) made ∙ get_or-set_other longer rest comp put (pos 0) differ in
      let before : Down (suc at) longer = record { each = done.least } in
      let after : Down at new =
      down_one (IsMadeOf (priced_for passes).day passes.turn.couple) longer_of comps tree_on debited no_sum at below (value_at longer) (value_at new)
      before here others in
      let put_small : IsSmall most_summed put =
      lower_small most_summed (value_at longer rest) (lower (value_at longer at) (debited at)) (done.small rest rest_within)
      (lower_small most_summed (value_at longer at) (debited at) (done.small at (omega (arith, below))) (debited_small at below)) in
      record {
        long = ap length made ∙ length-set longer rest put ∙ done.long;
        least = after.each;
        small = λ comp within. elim (cases_eq comp rest) [
          | inl same ↦ subst (λ (k : ℕ). IsSmall most_summed (value_at new k)) (sym same) (subst (IsSmall most_summed) (sym here) put_small)
          | inr differ ↦ subst (IsSmall most_summed) (sym (others comp differ)) (done.small comp within)
        ];
      }

  -- ---- upwards

  pub shorter_none : (shorter : List ℤ) → length shorter ≡ suc comps → value_at shorter comps ≡ no_sum → AreShorter passes ahead 0 shorter
  shorter_none shorter long root = record {
    long = long;
    root = root;
    least = λ comp under. absurd (omega (arith, under));
    small = λ comp under. absurd (omega (arith, under));
  }

  up_of : (at : ℕ) (shorter : List ℤ) → AreShorter passes ahead at shorter → Up at shorter
  up_of at shorter done = record { root = level (value_at shorter comps) no_sum done.root; each = done.least }

  pub fewer_small : (at : ℕ) → at < comps → (shorter : List ℤ) → AreShorter passes ahead at shorter → IsSmall most_summed (value_at shorter (shorter_of at))
  fewer_small at below shorter done = elim (tree_off.falls at below) [
    | inl down ↦ done.small (shorter_of at) down
    | inr top ↦ high (value_at shorter (shorter_of at)) (ap (value_at shorter) top ∙ done.root)
  ]
    where
      high : (x : ℤ) → x ≡ no_sum → IsSmall most_summed x
      high x e = record { above = omega (arith, ints, e); below = omega (arith, ints, e) }

  pub shorter_one : (at : ℕ) → at < comps → (shorter new : List ℤ) → AreShorter passes ahead at shorter
      → new ≡ set shorter at (lower (value_at shorter (shorter_of at)) (credited at)) → AreShorter passes ahead (suc at) new
  shorter_one at below shorter new done made =
      let put : ℤ = lower (value_at shorter (shorter_of at)) (credited at) in
      let here : value_at new at ≡ put =
      ap (λ (xs : List ℤ). value_at xs at) made ∙ get_or-set_same shorter at put (pos 0) (omega (arith, below, done.long)) in
      let others : (comp : ℕ) → comp ≢ at → value_at new comp ≡ value_at shorter comp = λ comp differ.
      ap (λ (xs : List ℤ). value_at xs comp) made ∙ get_or-set_other shorter at comp put (pos 0) differ in
      let after : Up (suc at) new =
      up_one (IsMadeOf (priced_for passes).day passes.turn.uncouple) shorter_of comps tree_off credited no_sum at below (value_at shorter) (value_at new)
      (up_of at shorter done) here others in
      let put_small : IsSmall most_summed put =
      lower_small most_summed (value_at shorter (shorter_of at)) (credited at) (fewer_small at below shorter done) (credited_small at below) in
      record {
        long = ap length made ∙ length-set shorter at put ∙ done.long;
        root = others comps (λ same. absurd (omega (arith, same, below))) ∙ done.root;
        least = after.each;
        small = λ comp under. elim (cases_eq comp at) [
          | inl same ↦ subst (λ (k : ℕ). IsSmall most_summed (value_at new k)) (sym same) (subst (IsSmall most_summed) (sym here) put_small)
          | inr differ ↦ subst (IsSmall most_summed) (sym (others comp differ)) (done.small comp (omega (arith, under, differ)))
        ];
      }

  -- ---- the values

  abbrev put_value : List ℤ → List ℤ → ℕ → ℤ
  put_value shorter longer at =
      lower (value_at ahead at)
      (passes.shunting.0 +ℤ lower (value_at shorter (shorter_of at) -ℤ value_at passes.credits.now at) (value_at longer at -ℤ value_at passes.debits.now at))

  abbrev Held : List ℤ → ℕ → Type 0
  Held values from = HoldsCell least_none (value_at values from) (offered_from (priced_for passes) (Some passes.link) (map cell_in ahead) from)

  pass_value : (at : ℕ) → at < comps → IsAdmittedComp (priced_for passes).day passes.turn.arriving (place at) → (shorter longer : List ℤ)
      → AreShorter passes ahead at shorter → AreLonger passes ahead 0 longer
      → HoldsCell least_none (put_value shorter longer at) (offered_from (priced_for passes) (Some passes.link) (map cell_in ahead) (place at))
  pass_value at below runs shorter longer up down =
      let there = turned_back (priced_for passes).day passes.turn.reverse place is.places at below in
      held_turning (priced_for passes) passes.link passes.turn.reverse passes.turn.arriving passes.turn.departing passes.turn.uncouple passes.turn.couple is.turn
      (map cell_in ahead) (value_at ahead) are.is (value_at passes.credits.now) (value_at passes.debits.now) passes.shunting.0 is.sums (place at) at runs below
      there.1 (put_value shorter longer at)
      (least_turning (priced_for passes) passes.link passes.turn.reverse passes.turn.arriving passes.turn.departing passes.turn.uncouple passes.turn.couple is.turn
      (map cell_in ahead) (value_at ahead) are.is (value_at passes.credits.now) (value_at passes.debits.now) passes.shunting.0 is.sums (place at) at runs below
      there.1 (value_at shorter (shorter_of at)) (value_at longer at)
      (least_fewer_of (priced_for passes).day passes.turn.uncouple shorter_of is.off credited no_sum (value_at shorter (shorter_of at)) at below
      (up_rest (IsMadeOf (priced_for passes).day passes.turn.uncouple) shorter_of comps tree_off credited no_sum at below (value_at shorter) (up_of at shorter up)))
      (least_more_of (priced_for passes).day passes.turn.couple longer_of is.on debited no_sum (value_at longer at) at below (down.least at (omega (arith, below)))))

  pub passed_none : (values : List ℤ) → length values ≡ comps → ArePassed passes ahead 0 values
  passed_none values long = record { long = long; each = λ comp under runs. absurd (omega (arith, under)) }

  pub passed_one : (at : ℕ) → at < comps → (shorter longer values new : List ℤ) → AreShorter passes ahead at shorter → AreLonger passes ahead 0 longer
      → ArePassed passes ahead at values → new ≡ set values (place at) (put_value shorter longer at) → ArePassed passes ahead (suc at) new
  passed_one at below shorter longer values new up down done made =
      let here : value_at new (place at) ≡ put_value shorter longer at =
      ap (λ (xs : List ℤ). value_at xs (place at)) made
      ∙ get_or-set_same values (place at) (put_value shorter longer at) (pos 0) (omega (arith, (is.places at below).listed, done.long)) in
      let others : (comp : ℕ) → comp ≢ place at → value_at new comp ≡ value_at values comp = λ comp differ.
      ap (λ (xs : List ℤ). value_at xs comp) made ∙ get_or-set_other values (place at) comp (put_value shorter longer at) (pos 0) differ in
      record {
        long = ap length made ∙ length-set values (place at) (put_value shorter longer at) ∙ done.long;
        each = λ comp under runs. elim (cases_eq comp at) [
          | inl same ↦ subst (λ (k : ℕ). Held new (place k)) (sym same)
              (subst (λ (x : ℤ). HoldsCell least_none x (offered_from (priced_for passes) (Some passes.link) (map cell_in ahead) (place at))) (sym here)
              (pass_value at below (subst (λ (k : ℕ). IsAdmittedComp (priced_for passes).day passes.turn.arriving (place k)) same runs) shorter longer up down))
          | inr differ ↦
              let before : comp < at = omega (arith, under, differ) in
              let apart : place comp ≢ place at = λ same.
              differ (turned_once (priced_for passes).day passes.turn.reverse place is.places comp at (omega (arith, before, below)) below same) in
              subst (λ (x : ℤ). HoldsCell least_none x (offered_from (priced_for passes) (Some passes.link) (map cell_in ahead) (place comp)))
              (sym (others (place comp) apart)) (done.each comp before runs)
        ];
      }

  pub passed_all : (values : List ℤ) → ArePassed passes ahead comps values → ArePassValues passes ahead values
  passed_all values done = record {
    long = done.long;
    each = λ from below runs.
        let there = turned_back (priced_for passes).day passes.turn.reverse place is.places from below in
        subst (λ (k : ℕ). Held values k) there.2
        (done.each (place from) there.0 (subst (λ (k : ℕ). IsAdmittedComp (priced_for passes).day passes.turn.arriving k) (sym there.2) runs));
  }

  -- ---- how large values are

  pub off_fits : (at : ℕ) → at < comps → (fewer x : ℤ) → IsSmall most_summed fewer → x ≡ (fewer -ℤ value_at passes.credits.now at) → IsSmall 9112000000000000000 x
  off_fits at below fewer x small e = less fewer (value_at passes.credits.now at) x small (is.sums.credits_small at below) e
    where
      less : (a b x : ℤ) → IsSmall most_summed a → IsSmall 6000000000000000 b → x ≡ (a -ℤ b) → IsSmall 9112000000000000000 x
      less a b x p q e = let r = p.above in let s = p.below in let t = q.above in let v = q.below in
          record { above = omega (arith, ints, r, v, e); below = omega (arith, ints, s, t, e) }

  pub on_fits : (at : ℕ) → at < comps → (longer x : ℤ) → IsSmall most_summed longer → x ≡ (longer -ℤ value_at passes.debits.now at) → IsSmall 9112000000000000000 x
  on_fits at below longer x small e = less longer (value_at passes.debits.now at) x small (is.sums.debits_small at below) e
    where
      less : (a b x : ℤ) → IsSmall most_summed a → IsSmall 6000000000000000 b → x ≡ (a -ℤ b) → IsSmall 9112000000000000000 x
      less a b x p q e = let r = p.above in let s = p.below in let t = q.above in let v = q.below in
          record { above = omega (arith, ints, r, v, e); below = omega (arith, ints, s, t, e) }

  pub passed_small : (from : ℕ) → from < comps → IsAdmittedComp (priced_for passes).day passes.turn.arriving from → (it : Cell)
      → offered_from (priced_for passes) (Some passes.link) (map cell_in ahead) from ≡ Some it → (bound : ℕ) → AreSmallCells bound (map cell_in ahead)
      → IsSmall (bound + 13000000000000000) it.value
  passed_small from below runs it at bound each =
      let there = is.places from below in
      offered_small (priced_for passes) passes.link passes.turn.reverse passes.turn.arriving passes.turn.departing passes.turn.uncouple passes.turn.couple is.turn
      (map cell_in ahead) (value_at ahead) are.is (value_at passes.credits.now) (value_at passes.debits.now) passes.shunting.0 is.sums from (place from) runs
      there.listed there.is it at bound each
