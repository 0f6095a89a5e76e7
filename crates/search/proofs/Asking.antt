-- How often advisors are asked, in one round and in several.
use Rattle.std.proofs.Common.{◌≡◌, ℕ, zero, suc, ◌+◌, ◌<◌, ◌≤◌, ◌^◌, List, [], ◌∷◌, length, get_or, set, replicate}
use Rattle.std.proofs.Common.{map, Bool, true, false, refl, sym, ap, subst, arith, ◌∙◌, ◌⊎◌, inl, inr}
use Rattle.std.proofs.lemmas.Bool.{both_ways, cases_eq}
use Rattle.std.proofs.lemmas.List.{get_or_read, get_or-set_other, get_or-set_same}
use Rattle.std.proofs.lemmas.List.Elements.{All-cons, All-nil, All-head, All-tail}
use Rattle.search.specs.Questions.{AreAsked, AreDueAskedOnce, AreLeftAlone, AreOnlyAsked, AreTheSame, IsAsked, IsAskedOnce, MayBeAsked, in_rounds}

-- ---- one advisor

pub unasked : (least most times : ℕ) (has_quit : Bool) → (has_quit ≡ false → least ≡ 0) → IsAsked least most times times has_quit has_quit
unasked least most times has_quit none = record {
  not_fewer = omega arith;
  at_most = omega arith;
  at_least = λ stays. omega (arith, none stays);
  still_quit = λ had. had;
  not_asked = λ had. refl;
}

pub asked_one : (least before after : ℕ) (had_quit has_quit : Bool) → least ≤ 1 → after ≡ before + 1 → had_quit ≡ false → IsAsked least 1 before after had_quit has_quit
asked_one least before after had_quit has_quit few more stays = record {
  not_fewer = omega (arith, more);
  at_most = omega (arith, more);
  at_least = λ still. omega (arith, more);
  still_quit = λ had. absurd (both_ways had_quit stays had);
  not_asked = λ had. absurd (both_ways had_quit stays had);
}

quits_later : (had has : Bool) → (had ≡ true → has ≡ true) → has ≡ false → had ≡ false
quits_later true has stays still = absurd (both_ways has still (stays refl))
quits_later false has stays still = refl

pub asked_again : (least most more_least more_most first second third : ℕ) (a b c : Bool) → IsAsked least most first second a b → IsAsked more_least more_most second third b c →
    IsAsked (least + more_least) (most + more_most) first third a c
asked_again least most more_least more_most first second third a b c one two = record {
  not_fewer = omega (arith, one.not_fewer, two.not_fewer);
  at_most = omega (arith, one.at_most, two.at_most);
  at_least = λ still. omega (arith, one.at_least (quits_later b c two.still_quit still), two.at_least still);
  still_quit = λ had. two.still_quit (one.still_quit had);
  not_asked = λ had. let second_is : second ≡ first = one.not_asked had in let third_is : third ≡ second = two.not_asked (one.still_quit had) in cc;
}

pub asked_within : (least most fewer more before after : ℕ) (a b : Bool) → fewer ≤ least → most ≤ more → IsAsked least most before after a b → IsAsked fewer more before after a b
asked_within least most fewer more before after a b few many is = record {
  not_fewer = is.not_fewer;
  at_most = omega (arith, is.at_most);
  at_least = λ still. omega (arith, is.at_least still);
  still_quit = is.still_quit;
  not_asked = is.not_asked;
}

-- ---- all of them

module _ {A : Type 0} (asked : A → ℕ) (has_quit : A → Bool) where
  pub are_unasked : (most : ℕ) (advisors : List A) → AreAsked advisors advisors asked has_quit 0 most
  are_unasked most [] = tt
  are_unasked most (one ∷ others) = (unasked 0 most (asked one) (has_quit one) (λ stays. refl), are_unasked most others)

  pub are_asked_again : (least most more_least more_most : ℕ) (first second third : List A) → AreAsked first second asked has_quit least most → AreAsked second third asked has_quit more_least more_most →
      AreAsked first third asked has_quit (least + more_least) (most + more_most)
  are_asked_again least most more_least more_most [] [] [] one two = tt
  are_asked_again least most more_least more_most [] [] (z ∷ zs) one two = absurd two
  are_asked_again least most more_least more_most [] (y ∷ ys) zs one two = absurd one
  are_asked_again least most more_least more_most (x ∷ xs) [] zs one two = absurd one
  are_asked_again least most more_least more_most (x ∷ xs) (y ∷ ys) [] one two = absurd two
  are_asked_again least most more_least more_most (x ∷ xs) (y ∷ ys) (z ∷ zs) one two = (
    asked_again least most more_least more_most (asked x) (asked y) (asked z) (has_quit x) (has_quit y) (has_quit z) one.0 two.0,
    are_asked_again least most more_least more_most xs ys zs one.1 two.1,
  )

  pub are_asked_within : (least most fewer more : ℕ) (before after : List A) → fewer ≤ least → most ≤ more → AreAsked before after asked has_quit least most → AreAsked before after asked has_quit fewer more
  are_asked_within least most fewer more [] [] few many is = tt
  are_asked_within least most fewer more [] (y ∷ ys) few many is = absurd is
  are_asked_within least most fewer more (x ∷ xs) [] few many is = absurd is
  are_asked_within least most fewer more (x ∷ xs) (y ∷ ys) few many is =
      (asked_within least most fewer more (asked x) (asked y) (has_quit x) (has_quit y) few many is.0, are_asked_within least most fewer more xs ys few many is.1)

  -- what may be asked yet, after some were asked
  pub may_be_asked_yet : (least most times : ℕ) (before after : List A) → MayBeAsked before asked (most + times) → AreAsked before after asked has_quit least most → MayBeAsked after asked times
  may_be_asked_yet least most times [] [] room is = All-nil (λ advisor. asked advisor + times < 2 ^ 64)
  may_be_asked_yet least most times [] (y ∷ ys) room is = absurd is
  may_be_asked_yet least most times (x ∷ xs) [] room is = absurd is
  may_be_asked_yet least most times (x ∷ xs) (y ∷ ys) room is =
      let here : asked x + (most + times) < 2 ^ 64 = All-head (λ advisor. asked advisor + (most + times) < 2 ^ 64) x xs room in
      All-cons (λ advisor. asked advisor + times < 2 ^ 64) y ys (omega (arith, is.0.at_most, here))
      (may_be_asked_yet least most times xs ys (All-tail (λ advisor. asked advisor + (most + times) < 2 ^ 64) x xs room) is.1)

  pub length-asked : (least most : ℕ) (before after : List A) → AreAsked before after asked has_quit least most → length after ≡ length before
  length-asked least most [] [] is = refl
  length-asked least most [] (y ∷ ys) is = absurd is
  length-asked least most (x ∷ xs) [] is = absurd is
  length-asked least most (x ∷ xs) (y ∷ ys) is = omega (arith, length-asked least most xs ys is.1)

  -- each was asked once, where none had enough
  pub each_asked : (before after : List A) → ((place : ℕ) (none : A) → place < length before → has_quit (get_or after place none) ≡ false → asked (get_or after place none) ≡ asked (get_or before place none) + 1) →
      AreAsked before after asked has_quit 0 1 → AreAsked before after asked has_quit 1 1
  each_asked [] [] each is = tt
  each_asked [] (y ∷ ys) each is = absurd is
  each_asked (x ∷ xs) [] each is = absurd is
  each_asked (x ∷ xs) (y ∷ ys) each is = (
    record {
      not_fewer = is.0.not_fewer;
      at_most = is.0.at_most;
      at_least = λ still. let here : asked y ≡ asked x + 1 = each zero x (omega arith) still in omega (arith, here);
      still_quit = is.0.still_quit;
      not_asked = is.0.not_asked;
    },
    each_asked xs ys (λ place none below stays. each (suc place) none (omega (arith, below)) stays) is.1,
  )

  -- the advisor at a place is asked, which was not asked yet
  asked_there : (place : ℕ) (first now : List A) (old new : A) → place < length now → get_or now place old ≡ get_or first place old → old ≡ get_or now place old →
      IsAsked 0 1 (asked old) (asked new) (has_quit old) (has_quit new) → AreAsked first now asked has_quit 0 1 → AreAsked first (set now place new) asked has_quit 0 1
  asked_there place first [] old new within not_yet here one is = absurd (omega (arith, within))
  asked_there place [] (y ∷ ys) old new within not_yet here one is = absurd is
  asked_there zero (x ∷ xs) (y ∷ ys) old new within not_yet here one is =
      (subst (λ advisor. IsAsked 0 1 (asked advisor) (asked new) (has_quit advisor) (has_quit new)) (here ∙ not_yet) one, is.1)
  asked_there (suc place) (x ∷ xs) (y ∷ ys) old new within not_yet here one is = (is.0, asked_there place xs ys old new (omega (arith, within)) not_yet here one is.1)

-- an advisor that was asked is put back at its place
pub same_but_asked : {A : Type 0} (identity : A → ℕ) (advisors : List A) (place : ℕ) (old new : A) → old ≡ get_or advisors place old → identity new ≡ identity old →
    AreTheSame advisors (set advisors place new) identity
same_but_asked identity [] place old new here same = refl
same_but_asked identity (first ∷ advisors) zero old new here same = ap (λ (one : ℕ). one ∷ map identity advisors) (same ∙ ap identity here)
same_but_asked identity (first ∷ advisors) (suc place) old new here same = ap (λ (others : List ℕ). identity first ∷ others) (same_but_asked identity advisors place old new here same)

-- ---- asked, and nothing else

module _ {A : Type 0} (identity asked : A → ℕ) (has_quit : A → Bool) where
  pub only_unasked : (most : ℕ) (advisors : List A) → AreOnlyAsked advisors advisors identity asked has_quit most
  only_unasked most advisors = record { same = refl; times = are_unasked asked has_quit most advisors }

  pub only_asked_again : (most more : ℕ) (first second third : List A) → AreOnlyAsked first second identity asked has_quit most → AreOnlyAsked second third identity asked has_quit more →
      AreOnlyAsked first third identity asked has_quit (most + more)
  only_asked_again most more first second third one two =
      record { same = two.same ∙ one.same; times = are_asked_again asked has_quit 0 most 0 more first second third one.times two.times }

  pub only_asked_within : (most more : ℕ) (before after : List A) → most ≤ more → AreOnlyAsked before after identity asked has_quit most → AreOnlyAsked before after identity asked has_quit more
  only_asked_within most more before after many is = record { same = is.same; times = are_asked_within asked has_quit 0 most 0 more before after (omega arith) many is.times }

  -- the advisor at the next place of a round
  pub then_asked : (place : ℕ) (first now : List A) (old new : A) → place < length now → get_or now place old ≡ get_or first place old → old ≡ get_or now place old → has_quit old ≡ false → IsAskedOnce identity asked old new →
      AreOnlyAsked first now identity asked has_quit 1 → AreOnlyAsked first (set now place new) identity asked has_quit 1
  then_asked place first now old new within not_yet here stays once is = record {
    same = same_but_asked identity now place old new here once.same ∙ is.same;
    times = asked_there asked has_quit place first now old new within not_yet here (asked_one 0 (asked old) (asked new) (has_quit old) (has_quit new) (omega arith) once.once stays) is.times;
  }

-- ---- counts of rounds

pub in_rounds_less : (rounds times more : ℕ) → times ≤ more → in_rounds rounds times ≤ in_rounds rounds more
in_rounds_less zero times more less = omega arith
in_rounds_less (suc rounds) times more less = less

pub in_rounds_sum : (rounds times more : ℕ) → in_rounds rounds (times + more) ≡ in_rounds rounds times + in_rounds rounds more
in_rounds_sum zero times more = omega arith
in_rounds_sum (suc rounds) times more = refl

pub in_rounds_most : (rounds times : ℕ) → in_rounds rounds times ≤ times
in_rounds_most zero times = omega arith
in_rounds_most (suc rounds) times = omega arith

pub in_rounds_none : (rounds times : ℕ) → rounds ≡ 0 → in_rounds rounds times ≡ 0
in_rounds_none zero times none = refl
in_rounds_none (suc rounds) times none = absurd (omega (arith, none))

pub in_rounds_zero : (rounds : ℕ) → in_rounds rounds 0 ≡ 0
in_rounds_zero zero = refl
in_rounds_zero (suc rounds) = refl

pub zero_or_more : (n : ℕ) → (n ≡ 0) ⊎ (1 ≤ n)
zero_or_more zero = inl refl
zero_or_more (suc n) = inr (omega arith)

-- ---- rounds, one after another

module _ {A : Type 0} (asked : A → ℕ) (has_quit : A → Bool) where
  -- one round more, where each was asked once in the first
  pub asked_once : (rounds : ℕ) (first before after : List A) → AreAsked first before asked has_quit 0 rounds → (1 ≤ rounds → AreAsked first before asked has_quit 1 rounds) →
      (rounds ≡ 0 → AreAsked before after asked has_quit 1 1) → AreAsked before after asked has_quit 0 1 → AreAsked first after asked has_quit 1 (rounds + 1)
  asked_once rounds first before after is least once more = elim (zero_or_more rounds) as (λ _. AreAsked first after asked has_quit 1 (rounds + 1)) [
    | inl none ↦ are_asked_again asked has_quit 0 rounds 1 1 first before after is (once none)
    | inr some ↦ are_asked_again asked has_quit 1 rounds 0 1 first before after (least some) more
  ]

  -- all rounds
  pub asked_in_all : (rounds made : ℕ) (first last : List A) → rounds ≤ made → made ≤ rounds → AreAsked first last asked has_quit 0 made → (1 ≤ made → AreAsked first last asked has_quit 1 made) →
      AreAsked first last asked has_quit (in_rounds rounds 1) rounds
  asked_in_all rounds made first last all most is least = elim (zero_or_more rounds) as (λ _. AreAsked first last asked has_quit (in_rounds rounds 1) rounds) [
    | inl none ↦ are_asked_within asked has_quit 0 made (in_rounds rounds 1) rounds first last (omega (arith, in_rounds_none rounds 1 none)) most is
    | inr some ↦ are_asked_within asked has_quit 1 made (in_rounds rounds 1) rounds first last (in_rounds_most rounds 1) most (least (omega (arith, some, all)))
  ]

-- no advisor has enough at first
pub none_enough : (count place : ℕ) → get_or (replicate count false) place false ≡ false
none_enough zero place = refl
none_enough (suc count) zero = refl
none_enough (suc count) (suc place) = none_enough count place

-- ---- each advisor in a round

-- the advisors from a place on are as they were
abbrev pub AreNotYetAsked : {A : Type 0} → List A → List A → ℕ → Type 0
AreNotYetAsked {A} before after places = (place : ℕ) → (none : A) → places ≤ place → get_or after place none ≡ get_or before place none

module _ {A : Type 0} (asked : A → ℕ) (has_quit : A → Bool) where
  -- the next advisor is asked
  pub then_asked_once : (enough : List Bool) (place : ℕ) (first now : List A) (old new : A) → place < length now → ((none : A) → get_or now place none ≡ get_or first place none) → old ≡ get_or now place old →
      asked new ≡ asked old + 1 → AreDueAskedOnce first now asked has_quit enough place → AreDueAskedOnce first (set now place new) asked has_quit enough (place + 1)
  then_asked_once enough place first now old new within not_yet here once so_far = λ other none below flag stays.
      elim (cases_eq other place) as (λ _. asked (get_or (set now place new) other none) ≡ asked (get_or first other none) + 1) [
        | inl same ↦ subst (λ (p : ℕ). asked (get_or (set now place new) p none) ≡ asked (get_or first p none) + 1) (sym same)
            (let before : asked old ≡ asked (get_or first place none) = ap asked (get_or_read now place old within here none ∙ not_yet none) in
            let after : asked (get_or (set now place new) place none) ≡ asked new = ap asked (get_or-set_same now place new none within) in
            omega (arith, before, after, once))
        | inr elsewhere ↦
            let same : get_or (set now place new) other none ≡ get_or now other none = get_or-set_other now place other new none elsewhere in
            ap asked same ∙ so_far other none (omega (arith, below, elsewhere)) flag (ap has_quit (sym same) ∙ stays)
      ]

  -- those that have enough are left alone, where the one that is asked had not
  pub still_alone : (enough : List Bool) (place : ℕ) (first now : List A) (new : A) → get_or enough place false ≡ false → AreLeftAlone first now enough → AreLeftAlone first (set now place new) enough
  still_alone enough place first now new none_yet alone = λ other none flag. elim (cases_eq other place) as (λ _. get_or (set now place new) other none ≡ get_or first other none) [
    | inl here ↦ absurd (both_ways (get_or enough place false) none_yet (subst (λ (p : ℕ). get_or enough p false ≡ true) here flag))
    | inr elsewhere ↦ get_or-set_other now place other new none elsewhere ∙ alone other none flag
  ]

  -- the next advisor is passed over, which has enough or has quit
  pub then_passed : (enough : List Bool) (place : ℕ) (first now : List A) → ((none : A) → get_or enough place false ≡ false → has_quit (get_or now place none) ≡ false → ⊥) →
      AreDueAskedOnce first now asked has_quit enough place → AreDueAskedOnce first now asked has_quit enough (place + 1)
  then_passed enough place first now passed once = λ other none below flag stays.
      elim (cases_eq other place) as (λ _. asked (get_or now other none) ≡ asked (get_or first other none) + 1) [
        | inl here ↦ absurd (passed none (subst (λ (p : ℕ). get_or enough p false ≡ false) here flag) (subst (λ (p : ℕ). has_quit (get_or now p none) ≡ false) here stays))
        | inr elsewhere ↦ once other none (omega (arith, below, elsewhere)) flag stays
      ]
