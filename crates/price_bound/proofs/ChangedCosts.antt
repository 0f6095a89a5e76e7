-- What changes add, change by change, is what they add trip by trip.
use Rattle.std.proofs.Common.{◌≡◌, ◌≢◌, ℕ, zero, suc, ◌+◌, ◌<◌, ◌≤◌, List, [], ◌∷◌, length, refl, sym, ap, ◌∙◌, arith, Bool, true}
use Rattle.std.proofs.Common.{false, cond, eqb, get_or, take, ◌++◌, Some, None, slice_get}
use Rattle.std.specs.List.{All, AllPairs}
use Rattle.std.proofs.lemmas.Bool.{eq-eqb, ne_eqb}
use Rattle.std.proofs.lemmas.List.Elements.{All-head, All-tail}
use Rattle.std.proofs.lemmas.List.{take_more}
use Rattle.timetable.specs.Lists.{sum_below}
use Rattle.timetable.proofs.Sums.{sum_one_more, sum_zero}
use Rattle.price_bound.specs.declared.changes.Change.{Change}
use Rattle.price_bound.specs.ChangedDays.{added_cost, own_cost}
use Rattle.price_bound.specs.Changes.{AreFrom, IsOwnCount, change_cost}
use Rattle.price_bound.specs.FollowingPicks.{pick_of}

-- trips before all changes have none
no_change : (changes : List Change) (t comp : ℕ) → All (λ change. t < change.trip) changes → change_cost changes t comp ≡ 0
no_change [] t comp later = refl
no_change (change ∷ changes) t comp later =
    let less : t < change.trip = All-head (λ (c : Change). t < c.trip) change changes later in
    let differ : eqb change.trip t ≡ false = ne_eqb change.trip t (λ e. absurd (omega (arith, e, less))) in
    ap (λ (b : Bool). cond b (cond (eqb change.base comp) 0 change.cost) (change_cost changes t comp)) differ
    ∙ no_change changes t comp (All-tail (λ (c : Change). t < c.trip) change changes later)

later_all : (change : Change) (changes : List Change) → AllPairs (λ a b. a.trip < b.trip) (change ∷ changes)
    → All (λ c. change.trip < c.trip) changes
later_all change changes rising k d lt = rising 0 (suc k) d (omega arith) (omega (arith, lt))

rest_rising : (change : Change) (changes : List Change) → AllPairs (λ a b. a.trip < b.trip) (change ∷ changes)
    → AllPairs (λ a b. a.trip < b.trip) changes
rest_rising change changes rising i j d lt below = rising (suc i) (suc j) d (omega (arith, lt)) (omega (arith, below))

module _ (change : Change) (changes : List Change) (picks : List ℕ) (rising : AllPairs (λ a b. a.trip < b.trip) (change ∷ changes)) where
  abbrev whole : ℕ → ℕ
  whole t = change_cost (change ∷ changes) t (pick_of picks t)

  abbrev rest : ℕ → ℕ
  rest t = change_cost changes t (pick_of picks t)

  abbrev first : ℕ
  first = own_cost picks change

  at_first : whole change.trip ≡ rest change.trip + first
  at_first =
      let itself : eqb change.trip change.trip ≡ true = eq-eqb change.trip change.trip refl in
      let here : whole change.trip ≡ first = ap (λ (b : Bool). cond b first (rest change.trip)) itself in
      let none : rest change.trip ≡ 0 = no_change changes change.trip (pick_of picks change.trip) (later_all change changes rising) in
      here ∙ sum first (rest change.trip) none
    where
      sum : (n m : ℕ) → m ≡ 0 → n ≡ m + n
      sum n m e = omega (arith, e)

  elsewhere : (t : ℕ) → t ≢ change.trip → whole t ≡ rest t
  elsewhere t differ =
      let apart : eqb change.trip t ≡ false = ne_eqb change.trip t (λ e. differ (sym e)) in
      ap (λ (b : Bool). cond b (cond (eqb change.base (pick_of picks t)) 0 change.cost) (rest t)) apart

  one_change : (n : ℕ) → change.trip < n → sum_below whole n ≡ sum_below rest n + first
  one_change n below = sum_one_more whole rest change.trip first n below at_first elsewhere

pub added_by_trips : (changes : List Change) (picks : List ℕ) (n : ℕ) → AllPairs (λ a b. a.trip < b.trip) changes
    → All (λ change. change.trip < n) changes
    → sum_below (λ t. change_cost changes t (pick_of picks t)) n ≡ added_cost changes picks
added_by_trips [] picks n rising below = sum_zero (λ _. 0) n (λ k lt. refl)
added_by_trips (change ∷ changes) picks n rising below =
    let more = one_change change changes picks rising n (All-head (λ (c : Change). c.trip < n) change changes below) in
    let others = added_by_trips changes picks n (rest_rising change changes rising) (All-tail (λ (c : Change). c.trip < n) change changes below) in
    omega (arith, more, others)

-- so many changes
added_push : (changes : List Change) (picks : List ℕ) (change : Change)
    → added_cost (changes ++ change ∷ []) picks ≡ added_cost changes picks + own_cost picks change
added_push [] picks change = omega arith
added_push (first ∷ changes) picks change = omega (arith, added_push changes picks change)

pub added_more : (changes : List Change) (picks : List ℕ) (i : ℕ) (d : Change) → i < length changes
    → added_cost (take (i + 1) changes) picks ≡ added_cost (take i changes) picks + own_cost picks (get_or changes i d)
added_more changes picks i d below =
    ap (λ (cs : List Change). added_cost cs picks) (take_more changes i d below) ∙ added_push (take i changes) picks (get_or changes i d)

-- ---- the changes of one trip

-- none is left
pub own_none : (t : ℕ) → IsOwnCount [] t 0
own_none t = record {
  within = omega arith;
  own = λ comp. refl;
  left = record { rising = λ i j d lt below. absurd (omega (arith, below)); later = λ k d lt. absurd (omega (arith, lt)) };
  others = λ s comp lt. refl;
}

module _ (change : Change) (changes : List Change) (t : ℕ) (are : AreFrom (change ∷ changes) t) where
  -- the first is of a later trip
  pub own_later : change.trip ≢ t → IsOwnCount (change ∷ changes) t 0
  own_later differ = record {
    within = omega arith;
    own = λ comp. sym (no_change (change ∷ changes) t comp later);
    left = record { rising = are.rising; later = later };
    others = λ s comp lt. refl;
  }
    where
      first : t < change.trip
      first = let least : t ≤ change.trip = are.later 0 change (omega arith) in omega (arith, least, differ)

      later : All (λ c. t < c.trip) (change ∷ changes)
      later zero d lt = first
      later (suc k) d lt = let more : change.trip < (get_or changes k d).trip = later_all change changes are.rising k d (omega (arith, lt)) in omega (arith, first, more)

  -- the first is the trip's
  pub own_first : change.trip ≡ t → IsOwnCount (change ∷ changes) t 1
  own_first same = record {
    within = omega arith;
    own = λ comp.
        ap (λ (b : Bool). cond b (cond (eqb change.base comp) 0 change.cost) 0) (eq-eqb change.trip t same)
        ∙ sym (ap (λ (b : Bool). cond b (cond (eqb change.base comp) 0 change.cost) (change_cost changes t comp)) (eq-eqb change.trip t same));
    left = record {
      rising = rest_rising change changes are.rising;
      later = λ k d lt. let more : change.trip < (get_or changes k d).trip = later_all change changes are.rising k d lt in omega (arith, more, same);
    };
    others = λ s comp lt. sym
        (ap (λ (b : Bool). cond b (cond (eqb change.base comp) 0 change.cost) (change_cost changes s comp))
        (ne_eqb change.trip s (λ e. absurd (omega (arith, e, same, lt)))));
  }

-- by the first change, if there is one
pub own_by_none : (changes : List Change) (t : ℕ) → AreFrom changes t → slice_get changes 0 ≡ None → IsOwnCount changes t 0
own_by_none [] t are none = own_none t
own_by_none (change ∷ changes) t are none = absurd cc

pub own_by_later : (changes : List Change) (t : ℕ) (change : Change) → AreFrom changes t → slice_get changes 0 ≡ Some change → change.trip ≢ t
    → IsOwnCount changes t 0
own_by_later [] t change are some differ = absurd cc
own_by_later (first ∷ changes) t change are some differ =
    let same : first ≡ change = cc in own_later first changes t are (λ e. differ (sym (ap (λ (c : Change). c.trip) same) ∙ e))

pub own_by_first : (changes : List Change) (t : ℕ) (change : Change) → AreFrom changes t → slice_get changes 0 ≡ Some change → change.trip ≡ t
    → IsOwnCount changes t 1
own_by_first [] t change are some is = absurd cc
own_by_first (first ∷ changes) t change are some is =
    let same : first ≡ change = cc in own_first first changes t are (ap (λ (c : Change). c.trip) same ∙ is)
