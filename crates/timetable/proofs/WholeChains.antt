-- The chains of an accepted day: each is whole, and each trip is in one of them, once.
use Rattle.std.proofs.Common.{◌≡◌, inl, inr, ℕ, zero, suc, ◌+◌, ◌<◌, ◌≤◌, Bool, false, List, [], ◌∷◌, ◌++◌, length}
use Rattle.std.proofs.Common.{get_or, Option, Some, None, refl, sym, ap, subst, ◌∙◌, arith, length-append}
use Rattle.std.specs.Prelude.{nat_lt, ◌==◌, if◌then◌else◌}
use Rattle.std.specs.List.{All, AllPairs}
use Rattle.std.proofs.lemmas.Bool.{cases_Bool, cases_eq, cond_both, cond-true, cond-false, both_ways, ne_eqb, lt-ltb}
use Rattle.std.proofs.lemmas.Bool.{le-ltb}
use Rattle.std.proofs.lemmas.Bool.Decides.{nat_tests}
use Rattle.std.proofs.lemmas.List.Elements.{All-nil, All-head, All-tail, All-push, All-get_or, All-weaker}
use Rattle.std.proofs.lemmas.List.Quantifiers.{all_pairs_push}
use Rattle.rules.specs.declared.records.Link.{Link}
use Rattle.timetable.specs.Accepted.{IsDay, AreLinks}
use Rattle.timetable.specs.Chains.{Leads, Ends, IsChain, times_in, first_of, AreChains, next_in, is_led_in, follow}
use Rattle.timetable.specs.Chains.{chain_from, chains_below, chains_of}
use Rattle.timetable.specs.Day.{Day, leaves}
use Rattle.timetable.specs.Lists.{count_of, sum_below, count_below}
use Rattle.timetable.specs.Running.{EachFollows}
use Rattle.timetable.proofs.Sums.{sum_less, sum_ones}
use Rattle.timetable.proofs.Leading.{leads_next, leads_led, next_leads, led_leads, one_next, one_before, leads_below}
use Rattle.timetable.proofs.Leading.{led_below, leads_later}

-- ---- one chain

-- nothing follows nothing
pub follow_none : (next : ℕ → Option ℕ) (n : ℕ) → follow next n None ≡ []
follow_none next zero = refl
follow_none next (suc n) = refl

-- how many trips leave later than a trip
later : Day → ℕ → ℕ
later day t = count_below (λ s. nat_lt (leaves day t) (leaves day s)) (length day.trips)

few_later : (day : Day) (t : ℕ) → t < length day.trips → later day t < length day.trips
unfolding later
few_later day t below =
    let ones : sum_below (λ _. 1) (length day.trips) ≡ length day.trips = sum_ones (length day.trips) in
    let less : later day t < sum_below (λ _. 1) (length day.trips) =
    sum_less (λ s. if nat_lt (leaves day t) (leaves day s) then 1 else 0) (λ _. 1) (length day.trips) t (λ i. grind (arith, nat_tests)) below (grind (arith, nat_tests)) in
    omega arith

fewer_later : (day : Day) (a b : ℕ) → b < length day.trips → leaves day a < leaves day b → later day b < later day a
unfolding later
fewer_later day a b below rises =
    sum_less (λ s. if nat_lt (leaves day b) (leaves day s) then 1 else 0) (λ s. if nat_lt (leaves day a) (leaves day s) then 1 else 0) (length day.trips) b
    (λ i. grind (arith, nat_tests)) below (grind (arith, nat_tests))

-- what follows a trip is what leads on from it
follows : (day : Day) (n t : ℕ) → EachFollows (Leads day) (follow (next_in day.links) n (Some t))
follows day zero t = tt
follows day (suc zero) t = tt
follows day (suc (suc n)) t = on (next_in day.links t) refl (follows day (suc n))
  where
    on : (o : Option ℕ) → next_in day.links t ≡ o → ((b : ℕ) → EachFollows (Leads day) (follow (next_in day.links) (suc n) (Some b)))
        → EachFollows (Leads day) (t ∷ follow (next_in day.links) (suc n) o)
    on None is rest = tt
    on (Some b) is rest = (leads_next day t b is, rest b)

-- the trips that follow are led to
pub unled_later : (day : Day) (x : ℕ) (xs : List ℕ) (t : ℕ) → EachFollows (Leads day) (x ∷ xs) → ((a : ℕ) → ¬ Leads day a t) → count_of t xs ≡ 0
unled_later day x [] t each unled = refl
unled_later day x (y ∷ ys) t each unled =
    let other : (y ≡ t → ⊥) = λ is. unled x (subst (λ (z : ℕ). Leads day x z) is each.0) in
    ap (λ (test : Bool). (if test then 1 else 0) + count_of t ys) (ne_eqb y t other) ∙ omega (arith, unled_later day y ys t each.1 unled)

-- how often a trip is in one more chain
times_pushed : (chains : List (List ℕ)) (chain : List ℕ) (t : ℕ) → times_in (chains ++ chain ∷ []) t ≡ times_in chains t + count_of t chain
times_pushed [] chain t = omega arith
times_pushed (first ∷ chains) chain t = omega (arith, times_pushed chains chain t)

-- a trip that no link leads to is in a chain only as its first trip
count_first : (day : Day) (n k t : ℕ) → 1 ≤ n → ((a : ℕ) → ¬ Leads day a t) → count_of t (chain_from day.links n k) ≡ (if k == t then 1 else 0)
count_first day zero k t some unled = absurd (omega arith)
count_first day (suc n) k t some unled = omega (arith, unled_later day k (follow (next_in day.links) n (next_in day.links k)) t (follows day (suc n) k) unled)

before_and : (t k times : ℕ) → (k ≡ t → ⊥) → times ≡ (if nat_lt t k then 1 else 0) → times ≡ (if nat_lt t (suc k) then 1 else 0)
before_and t k times other before = grind (arith, nat_tests)

and_here : (t k times here all : ℕ) → times ≡ (if nat_lt t k then 1 else 0) → here ≡ (if k == t then 1 else 0) → all ≡ times + here → all ≡ (if nat_lt t (suc k) then 1 else 0)
and_here t k times here all before is sum = grind (arith, nat_tests)

first_is : (links : List Link) (n t : ℕ) → 1 ≤ n → first_of (chain_from links n t) ≡ t
first_is links zero t some = absurd (omega arith)
first_is links (suc n) t some = refl

first_below : (links : List Link) (n k : ℕ) → k ≤ n → All (λ chain. first_of chain < k) (chains_below links n k)
first_below links n zero few = All-nil (λ chain. first_of chain < zero)
first_below links n (suc k) few =
    let earlier : All (λ chain. first_of chain < suc k) (chains_below links n k) =
    All-weaker (λ chain. first_of chain < k) (λ chain. first_of chain < suc k) (λ chain below. omega arith) (chains_below links n k) (first_below links n k (omega arith)) in
    cond_both (is_led_in links k) (chains_below links n k) (chains_below links n k ++ chain_from links n k ∷ []) (λ chains. All (λ chain. first_of chain < suc k) chains)
    (λ led. earlier)
    (λ unled. All-push (λ chain. first_of chain < suc k) (chains_below links n k) (chain_from links n k) earlier (omega (arith, first_is links n k (omega arith))))

-- chains are numbered by their first trips
firsts_rise : (links : List Link) (n k : ℕ) → k ≤ n → AllPairs (λ a b. first_of a < first_of b) (chains_below links n k)
firsts_rise links n zero few = λ i j d order below. absurd (omega arith)
firsts_rise links n (suc k) few =
    let earlier : AllPairs (λ a b. first_of a < first_of b) (chains_below links n k) = firsts_rise links n k (omega arith) in
    cond_both (is_led_in links k) (chains_below links n k) (chains_below links n k ++ chain_from links n k ∷ []) (λ chains. AllPairs (λ a b. first_of a < first_of b) chains)
    (λ led. earlier)
    (λ unled. all_pairs_push (λ a b. first_of a < first_of b) (chains_below links n k) (chain_from links n k) earlier
    (λ i d below. (let less : first_of (get_or (chains_below links n k) i d) < k = All-get_or (λ chain. first_of chain < k) (chains_below links n k) i d below (first_below links n k (omega arith)) in
    omega (arith, first_is links n k (omega arith)))))

-- there are no more chains than trips
pub few_chains : (links : List Link) (n k : ℕ) → length (chains_below links n k) ≤ k
few_chains links n zero = omega arith
few_chains links n (suc k) =
    cond_both (is_led_in links k) (chains_below links n k) (chains_below links n k ++ chain_from links n k ∷ []) (λ chains. length chains ≤ suc k)
    (λ led. omega (arith, few_chains links n k))
    (λ unled. omega (arith, few_chains links n k, length-append (chains_below links n k) (chain_from links n k ∷ [])))

module _ (day : Day) (links : AreLinks day) (limits : IsDay day) where
  -- so many trips are enough to come to the end
  ends : (n t : ℕ) → later day t < n → Ends day (follow (next_in day.links) n (Some t))
  ends zero t enough = absurd (omega arith)
  ends (suc zero) t enough = λ b leads.
      let fewer : later day b < later day t = fewer_later day t b (led_below day links t b leads) (leads_later day links limits t b leads) in
      absurd (omega arith)
  ends (suc (suc n)) t enough = on (next_in day.links t) refl (ends (suc n))
    where
      on : (o : Option ℕ) → next_in day.links t ≡ o → ((b : ℕ) → later day b < suc n → Ends day (follow (next_in day.links) (suc n) (Some b)))
          → Ends day (t ∷ follow (next_in day.links) (suc n) o)
      on None is rest = λ b leads. let none : None ≡ Some b = sym is ∙ next_leads day links t b leads in absurd cc
      on (Some b) is rest =
          let leads : Leads day t b = leads_next day t b is in
          let fewer : later day b < later day t = fewer_later day t b (led_below day links t b leads) (leads_later day links limits t b leads) in
          rest b (omega arith)

  -- the chain from a trip that no link leads to
  is_chain : (n t : ℕ) → later day t < n → is_led_in day.links t ≡ false → IsChain day (chain_from day.links n t)
  is_chain zero t enough unled = absurd (omega arith)
  is_chain (suc n) t enough unled = record {
    begins = λ a leads. both_ways (is_led_in day.links t) unled (led_leads day links a t leads);
    follows = follows day (suc n) t;
    ends = ends (suc n) t enough;
  }

  -- where one trip leads on to another, the other is in a chain after its first as often as the one is in it
  moved : (x : ℕ) (xs : List ℕ) (a t : ℕ) → EachFollows (Leads day) (x ∷ xs) → Ends day (x ∷ xs) → Leads day a t → count_of t xs ≡ count_of a (x ∷ xs)
  moved x [] a t each end leads =
      let other : (x ≡ a → ⊥) = λ is. end t (subst (λ (z : ℕ). Leads day z t) (sym is) leads) in
      sym (ap (λ (test : Bool). (if test then 1 else 0) + 0) (ne_eqb x a other))
  moved x (y ∷ ys) a t each end leads = elim (cases_eq x a) [
    | inl is ↦
        let same : y ≡ t = one_next day links a y t (subst (λ (z : ℕ). Leads day z y) is each.0) leads in
        let rest = moved y ys a t each.1 end leads in
        grind (arith, nat_tests)
    | inr differ ↦
        let other : (y ≡ t → ⊥) = λ is. differ (one_before day links x a t (subst (λ (z : ℕ). Leads day x z) is each.0) leads) in
        let rest = moved y ys a t each.1 end leads in
        grind (arith, nat_tests)
  ]

  -- where one trip leads on to another, the chains have the other as often as the one
  times_led : (chains : List (List ℕ)) (a t : ℕ) → All (IsChain day) chains → Leads day a t → times_in chains t ≡ times_in chains a
  times_led [] a t each leads = refl
  times_led (chain ∷ chains) a t each leads =
      let here : count_of t chain ≡ count_of a chain = of_chain chain (All-head (IsChain day) chain chains each) in
      omega (arith, times_led chains a t (All-tail (IsChain day) chain chains each) leads)
    where
      of_chain : (chain : List ℕ) → IsChain day chain → count_of t chain ≡ count_of a chain
      of_chain [] is = absurd is.begins
      of_chain (x ∷ xs) is =
          let other : (x ≡ t → ⊥) = λ same. is.begins a (subst (λ (z : ℕ). Leads day a z) (sym same) leads) in
          ap (λ (test : Bool). (if test then 1 else 0) + count_of t xs) (ne_eqb x t other) ∙ omega (arith, moved x xs a t is.follows is.ends leads)

  -- ---- all chains

  each_chain : (k : ℕ) → k ≤ length day.trips → All (IsChain day) (chains_below day.links (length day.trips) k)
  each_chain zero few = All-nil (IsChain day)
  each_chain (suc k) few =
      cond_both (is_led_in day.links k) (chains_below day.links (length day.trips) k) (chains_below day.links (length day.trips) k ++ chain_from day.links (length day.trips) k ∷ [])
      (λ chains. All (IsChain day) chains)
      (λ led. each_chain k (omega arith))
      (λ unled. All-push (IsChain day) (chains_below day.links (length day.trips) k) (chain_from day.links (length day.trips) k) (each_chain k (omega arith))
      (is_chain (length day.trips) k (few_later day k (omega arith)) unled))

  -- a trip that no link leads to is in the chain that begins with it, once
  times_unled : (k t : ℕ) → k ≤ length day.trips → ((a : ℕ) → ¬ Leads day a t) → times_in (chains_below day.links (length day.trips) k) t ≡ (if nat_lt t k then 1 else 0)
  times_unled zero t few unled = grind (arith, nat_tests)
  times_unled (suc k) t few unled =
      cond_both (is_led_in day.links k) (chains_below day.links (length day.trips) k) (chains_below day.links (length day.trips) k ++ chain_from day.links (length day.trips) k ∷ [])
      (λ chains. times_in chains t ≡ (if nat_lt t (suc k) then 1 else 0))
      (λ led.
      let (a, leads) = leads_led day k led in
      let other : (k ≡ t → ⊥) = λ same. unled a (subst (λ (z : ℕ). Leads day a z) same leads) in
      before_and t k (times_in (chains_below day.links (length day.trips) k) t) other (times_unled k t (omega arith) unled))
      (λ first.
      let here : count_of t (chain_from day.links (length day.trips) k) ≡ (if k == t then 1 else 0) = count_first day (length day.trips) k t (omega arith) unled in
      and_here t k (times_in (chains_below day.links (length day.trips) k) t) (count_of t (chain_from day.links (length day.trips) k))
      (times_in (chains_below day.links (length day.trips) k ++ chain_from day.links (length day.trips) k ∷ []) t)
      (times_unled k t (omega arith) unled) here (times_pushed (chains_below day.links (length day.trips) k) (chain_from day.links (length day.trips) k) t))

  -- every trip is in the chains once: so is the trip that leads to it, which leaves earlier
  times_once : (bound t : ℕ) → leaves day t < bound → t < length day.trips → times_in (chains_below day.links (length day.trips) (length day.trips)) t ≡ 1
  times_once zero t early below = absurd (omega arith)
  times_once (suc bound) t early below = elim (cases_Bool (is_led_in day.links t)) [
    | inl led ↦
        let (a, leads) = leads_led day t led in
        let earlier : leaves day a < leaves day t = leads_later day links limits a t leads in
        times_led (chains_below day.links (length day.trips) (length day.trips)) a t (each_chain (length day.trips) (omega arith)) leads
        ∙ times_once bound a (omega arith) (leads_below day links a t leads)
    | inr unled ↦
        times_unled (length day.trips) t (omega arith) (λ a leads. both_ways (is_led_in day.links t) unled (led_leads day links a t leads))
        ∙ cond-true (nat_lt t (length day.trips)) 1 0 (lt-ltb t (length day.trips) below)
  ]

  pub are_chains : AreChains day (chains_of day)
  unfolding chains_of
  are_chains = record {
    each = each_chain (length day.trips) (omega arith);
    once = λ t below. times_once (suc (leaves day t)) t (omega arith) below;
    known = λ t above.
        (times_unled (length day.trips) t (omega arith) (λ a leads. (let below = led_below day links a t leads in absurd (omega arith)))
        ∙ cond-false (nat_lt t (length day.trips)) 1 0 (le-ltb t (length day.trips) above));
    rise = firsts_rise day.links (length day.trips) (length day.trips) (omega arith);
  }
