-- How often advisors were asked for the days so far.
use Rattle.std.proofs.Common.{◌≡◌, ℕ, zero, suc, ◌+◌, ◌*◌, ◌≤◌, ◌^◌, List, [], ◌∷◌, All, Bool, ◌∙◌, ◌<◌, ap, sym, arith}
use Rattle.std.proofs.Math.Nat.{mul-le-mul_left, mul-le-mul_right}
use Rattle.std.proofs.lemmas.List.Elements.{All-cons, All-head, All-nil, All-tail}
use Rattle.search.specs.Questions.{AreAsked, AreTheSame, in_rounds}
use Rattle.search.proofs.Asking.{are_asked_again, are_asked_within}

-- fewer times, where there are rounds
pub fewer_in_rounds : (rounds fewer times : ℕ) → fewer ≤ times → in_rounds rounds fewer ≤ in_rounds rounds times
fewer_in_rounds zero fewer times few = omega arith
fewer_in_rounds (suc rounds) fewer times few = few

sum_in_rounds : (rounds one two : ℕ) → in_rounds rounds (one + two) ≤ in_rounds rounds one + in_rounds rounds two
sum_in_rounds zero one two = omega arith
sum_in_rounds (suc rounds) one two = omega arith

module _ {A : Type 0} (asked identity : A → ℕ) (has_quit : A → Bool) (rounds grant : ℕ) where
  -- how often they may be asked for a day
  abbrev pub each : ℕ
  each = rounds * (2 * grant + 1)

  -- They were asked for so many days, whose trees have so many branchings.
  pub record AskedFor (first now : List A) (days made : ℕ) : Type 0 where
    pub same : AreTheSame first now identity
    pub within : AreAsked first now asked has_quit 0 (days * each)
    pub counted : AreAsked first now asked has_quit (in_rounds rounds made) (rounds * (2 * made + days))

  pub asked_once : (first now : List A) (made : ℕ) → AreTheSame first now identity → AreAsked first now asked has_quit 0 each
      → AreAsked first now asked has_quit (in_rounds rounds made) (rounds * (2 * made + 1)) → AskedFor first now 1 made
  asked_once first now made same within counted = record {
    same = same;
    within = are_asked_within asked has_quit 0 each 0 (1 * each) first now (omega arith) (omega arith) within;
    counted = counted;
  }

  -- a day more
  pub asked_once_more : (first now next : List A) (days made more : ℕ) → AskedFor first now days made → AreTheSame now next identity → AreAsked now next asked has_quit 0 each
      → AreAsked now next asked has_quit (in_rounds rounds more) (rounds * (2 * more + 1)) → AskedFor first next (days + 1) (made + more)
  asked_once_more first now next days made more so same within counted = record {
    same = same ∙ so.same;
    within = are_asked_within asked has_quit (0 + 0) (days * each + each) 0 ((days + 1) * each) first next (omega arith) (omega arith)
        (are_asked_again asked has_quit 0 (days * each) 0 each first now next so.within within);
    counted = are_asked_within asked has_quit (in_rounds rounds made + in_rounds rounds more) (rounds * (2 * made + days) + rounds * (2 * more + 1))
        (in_rounds rounds (made + more)) (rounds * (2 * (made + more) + (days + 1))) first next (sum_in_rounds rounds made more) (omega arith)
        (are_asked_again asked has_quit (in_rounds rounds made) (rounds * (2 * made + days)) (in_rounds rounds more) (rounds * (2 * more + 1)) first now next so.counted counted);
  }

  pub asked_in_all : (first now : List A) (days made all : ℕ) → AskedFor first now days made → days ≤ all → AreAsked first now asked has_quit 0 (all * each)
  asked_in_all first now days made all so few =
      let times : days * each ≤ all * each = mul-le-mul_right each few in
      are_asked_within asked has_quit 0 (days * each) 0 (all * each) first now (omega arith) times so.within

  pub asked_as_counted : (first now : List A) (splits days made : ℕ) → AskedFor first now (days + 1) made → splits ≡ days
      → AreAsked first now asked has_quit (in_rounds rounds made) (rounds * (2 * made + (splits + 1)))
  asked_as_counted first now splits days made so same =
      let times : rounds * (2 * made + (days + 1)) ≡ rounds * (2 * made + (splits + 1)) = ap (λ (n : ℕ). rounds * (2 * made + (n + 1))) (sym same) in
      are_asked_within asked has_quit (in_rounds rounds made) (rounds * (2 * made + (days + 1))) (in_rounds rounds made) (rounds * (2 * made + (splits + 1))) first now
      (omega arith) (omega (arith, times)) so.counted

  -- after a day more that came to nothing
  pub asked_in_vain : (first now next : List A) (days made all : ℕ) → AskedFor first now days made → days < all → AreAsked now next asked has_quit 0 each
      → AreAsked first next asked has_quit 0 (all * each)
  asked_in_vain first now next days made all so few within =
      let more : days + 1 ≤ all = omega (arith, few) in
      let times : (days + 1) * each ≤ all * each = mul-le-mul_right each more in
      are_asked_within asked has_quit (0 + 0) (days * each + each) 0 (all * each) first next (omega arith) (omega (arith, times))
      (are_asked_again asked has_quit 0 (days * each) 0 each first now next so.within within)

  -- they may be asked yet
  pub may_be_asked : (most : ℕ) (first now : List A) → most ≤ 2 ^ 62 → All (λ advisor. asked advisor ≤ 2 ^ 62) first → AreAsked first now asked has_quit 0 most
      → All (λ advisor. asked advisor ≤ 2 ^ 63) now
  may_be_asked most [] [] few before are = All-nil (λ advisor. asked advisor ≤ 2 ^ 63)
  may_be_asked most [] (y ∷ ys) few before are = absurd are
  may_be_asked most (x ∷ xs) [] few before are = absurd are
  may_be_asked most (x ∷ xs) (y ∷ ys) few before are =
      let here : asked x ≤ 2 ^ 62 = All-head (λ advisor. asked advisor ≤ 2 ^ 62) x xs before in
      All-cons (λ advisor. asked advisor ≤ 2 ^ 63) y ys (omega (arith, are.0.at_most, here, few)) (may_be_asked most xs ys few (All-tail (λ advisor. asked advisor ≤ 2 ^ 62) x xs before) are.1)

-- so often at most for so many days
pub few_times : (rounds grant days : ℕ) → rounds ≤ 100 → grant ≤ 200 → days ≤ 401 → days * (rounds * (2 * grant + 1)) ≤ 16080100
few_times rounds grant days few_rounds few_branchings few_days =
    let each : rounds * (2 * grant + 1) ≤ rounds * 401 = mul-le-mul_left rounds (let few : 2 * grant + 1 ≤ 401 = omega (arith, few_branchings) in few) in
    let most : rounds * (2 * grant + 1) ≤ 40100 = omega (arith, each, few_rounds) in
    let all : days * (rounds * (2 * grant + 1)) ≤ days * 40100 = mul-le-mul_left days most in
    omega (arith, all, few_days)
