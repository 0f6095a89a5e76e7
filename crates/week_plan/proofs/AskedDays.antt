-- How often advisors were asked for the answers to the days so far.
use Rattle.std.proofs.Common.{◌≡◌, ℕ, ◌+◌, ◌*◌, ◌<◌, ◌≤◌, ◌^◌, List, [], ◌∷◌, ◌++◌, All, Bool, refl, sym, ◌∙◌, subst, arith}
use Rattle.std.proofs.Math.Nat.{mul-le-mul_left}
use Rattle.std.proofs.lemmas.List.Elements.{All-cons, All-head, All-nil, All-tail}
use Rattle.search.specs.Questions.{AreAsked, AreTheSame, in_rounds}
use Rattle.search.proofs.Asking.{are_asked_again, are_asked_within, are_unasked}
use Rattle.answer_text.specs.declared.answer.Answer.{Answer}
use Rattle.answer_check.specs.ProvedTrees.{open_leaves}
use Rattle.week_plan.specs.DayAnswers.{least_asked, most_asked}

least_more : (rounds : ℕ) (answers : List Answer) (answer : Answer) → least_asked rounds (answers ++ answer ∷ []) ≡ least_asked rounds answers + in_rounds rounds (answer.branchings + open_leaves answer)
least_more rounds [] answer = omega arith
least_more rounds (one ∷ answers) answer = omega (arith, least_more rounds answers answer)

most_more : (rounds : ℕ) (answers : List Answer) (answer : Answer) → most_asked rounds (answers ++ answer ∷ []) ≡ most_asked rounds answers + rounds * (2 * answer.branchings + 1)
most_more rounds [] answer = omega arith
most_more rounds (one ∷ answers) answer = omega (arith, most_more rounds answers answer)

-- so often at most for so many days
abbrev pub days_asked : ℕ → ℕ → ℕ → ℕ
days_asked rounds grant days = days * (rounds * (2 * grant + 1))

one_day_more : (most days all : ℕ) → days < all → days * most + most ≤ all * most
one_day_more most days all lt = let times = mul-le-mul_left most (let more : days + 1 ≤ all = omega arith in more) in omega (arith, times)

few_times : (rounds grant days : ℕ) → rounds ≤ 100 → grant ≤ 4000 → days ≤ 7 → days_asked rounds grant days ≤ 2 ^ 62
few_times rounds grant days few_rounds few_branchings few_days =
    let each = mul-le-mul_left rounds (let few : 2 * grant + 1 ≤ 8001 = omega arith in few) in
    let most : rounds * (2 * grant + 1) ≤ 800100 = omega (arith, each) in
    let all = mul-le-mul_left days most in
    omega (arith, all)

module _ {A : Type 0} (asked identity : A → ℕ) (has_quit : A → Bool) (rounds grant : ℕ) where
  pub record AskedSoFar (first now : List A) (days : ℕ) (answers : List Answer) : Type 0 where
    pub same : AreTheSame first now identity
    pub within : AreAsked first now asked has_quit 0 (days_asked rounds grant days)
    pub counted : AreAsked first now asked has_quit (least_asked rounds answers) (most_asked rounds answers)

  none_asked : (first : List A) → AskedSoFar first first 0 []
  none_asked first = record { same = refl; within = are_unasked asked has_quit (days_asked rounds grant 0) first; counted = are_unasked asked has_quit 0 first }

  asked_more : (first now next : List A) (days : ℕ) (answers : List Answer) (answer : Answer) → AskedSoFar first now days answers → AreTheSame now next identity
      → AreAsked now next asked has_quit 0 (rounds * (2 * grant + 1)) → AreAsked now next asked has_quit (in_rounds rounds (answer.branchings + open_leaves answer)) (rounds * (2 * answer.branchings + 1))
      → AskedSoFar first next (days + 1) (answers ++ answer ∷ [])
  asked_more first now next days answers answer so same within counted = record {
    same = same ∙ so.same;
    within = are_asked_within asked has_quit (0 + 0) (days_asked rounds grant days + rounds * (2 * grant + 1)) 0 (days_asked rounds grant (days + 1)) first next (omega arith) (one_day_more (rounds * (2 * grant + 1)) days (days + 1) (omega arith))
        (are_asked_again asked has_quit 0 (days_asked rounds grant days) 0 (rounds * (2 * grant + 1)) first now next so.within within);
    counted = subst (λ (least : ℕ). AreAsked first next asked has_quit least (most_asked rounds (answers ++ answer ∷ []))) (sym (least_more rounds answers answer))
        (subst (λ (most : ℕ). AreAsked first next asked has_quit (least_asked rounds answers + in_rounds rounds (answer.branchings + open_leaves answer)) most) (sym (most_more rounds answers answer))
        (are_asked_again asked has_quit (least_asked rounds answers) (most_asked rounds answers) (in_rounds rounds (answer.branchings + open_leaves answer)) (rounds * (2 * answer.branchings + 1)) first now next so.counted counted));
  }

  -- the same of a list that is said to be these answers
  pub none_asked_yet : (first : List A) (some : List Answer) → some ≡ [] → AskedSoFar first first 0 some
  none_asked_yet first some is = subst (AskedSoFar first first 0) (sym is) (none_asked first)

  pub asked_once_more : (first now next : List A) (days : ℕ) (answers : List Answer) (answer : Answer) (some : List Answer) → some ≡ answers ++ answer ∷ [] → AskedSoFar first now days answers → AreTheSame now next identity
      → AreAsked now next asked has_quit 0 (rounds * (2 * grant + 1)) → AreAsked now next asked has_quit (in_rounds rounds (answer.branchings + open_leaves answer)) (rounds * (2 * answer.branchings + 1))
      → AskedSoFar first next (days + 1) some
  asked_once_more first now next days answers answer some is so same within counted =
      subst (AskedSoFar first next (days + 1)) (sym is) (asked_more first now next days answers answer so same within counted)

  -- how often for seven days
  pub asked_in_all : (first now : List A) (days all : ℕ) (answers : List Answer) → AskedSoFar first now days answers → days ≤ all → AreAsked first now asked has_quit 0 (days_asked rounds grant all)
  asked_in_all first now days all answers so few =
      let most = rounds * (2 * grant + 1) in
      let times = mul-le-mul_left most few in
      are_asked_within asked has_quit 0 (days_asked rounds grant days) 0 (days_asked rounds grant all) first now (omega arith) (omega (arith, times)) so.within

  pub asked_in_vain : (first now next : List A) (days all : ℕ) (answers : List Answer) → AskedSoFar first now days answers → days < all → AreAsked now next asked has_quit 0 (rounds * (2 * grant + 1))
      → AreAsked first next asked has_quit 0 (days_asked rounds grant all)
  asked_in_vain first now next days all answers so few within =
      are_asked_within asked has_quit (0 + 0) (days_asked rounds grant days + rounds * (2 * grant + 1)) 0 (days_asked rounds grant all) first next (omega arith) (one_day_more (rounds * (2 * grant + 1)) days all few)
      (are_asked_again asked has_quit 0 (days_asked rounds grant days) 0 (rounds * (2 * grant + 1)) first now next so.within within)

  -- they may be asked for one day more
  may_be_asked : (most : ℕ) (first now : List A) → most ≤ 2 ^ 62 → All (λ advisor. asked advisor ≤ 2 ^ 62) first → AreAsked first now asked has_quit 0 most → All (λ advisor. asked advisor ≤ 2 ^ 63) now
  may_be_asked most [] [] few before are = All-nil (λ advisor. asked advisor ≤ 2 ^ 63)
  may_be_asked most [] (y ∷ ys) few before are = absurd are
  may_be_asked most (x ∷ xs) [] few before are = absurd are
  may_be_asked most (x ∷ xs) (y ∷ ys) few before are =
      let here : asked x ≤ 2 ^ 62 = All-head (λ advisor. asked advisor ≤ 2 ^ 62) x xs before in
      All-cons (λ advisor. asked advisor ≤ 2 ^ 63) y ys (omega (arith, are.0.at_most, here, few)) (may_be_asked most xs ys few (All-tail (λ advisor. asked advisor ≤ 2 ^ 62) x xs before) are.1)

  pub asked_yet : (first now : List A) (days : ℕ) (answers : List Answer) → rounds ≤ 100 → grant ≤ 4000 → days ≤ 7 → All (λ advisor. asked advisor ≤ 2 ^ 62) first → AskedSoFar first now days answers → All (λ advisor. asked advisor ≤ 2 ^ 63) now
  asked_yet first now days answers few_rounds few_branchings few_days before so = may_be_asked (days_asked rounds grant days) first now (few_times rounds grant days few_rounds few_branchings few_days) before so.within
