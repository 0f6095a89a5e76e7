-- The numbers below a bound rise.
use Rattle.std.proofs.Common.{ℕ, zero, suc, ◌<◌, List, [], ◌∷◌, ◌++◌, arith}
use Rattle.timetable.specs.Lists.{below}

-- each trip is later than trip t, and each is later than those before it
abbrev pub AllLater : ℕ → List ℕ → Type 0
AllLater t [] = Unit {0}
AllLater t (s ∷ ss) = (t < s) × AllLater t ss

abbrev pub Rise : List ℕ → Type 0
Rise [] = Unit {0}
Rise (t ∷ ts) = AllLater t ts × Rise ts

all_later-push : (t n : ℕ) (ts : List ℕ) → AllLater t ts → t < n → AllLater t (ts ++ n ∷ [])
all_later-push t n [] h lt = (lt, tt)
all_later-push t n (s ∷ ss) h lt = (h.0, all_later-push t n ss h.1 lt)

-- each trip is below n
abbrev pub AllBelow : ℕ → List ℕ → Type 0
AllBelow n [] = Unit {0}
AllBelow n (t ∷ ts) = (t < n) × AllBelow n ts

all_below-more : (n : ℕ) (ts : List ℕ) → AllBelow n ts → AllBelow (suc n) (ts ++ n ∷ [])
all_below-more n [] h = (omega arith, tt)
all_below-more n (t ∷ ts) h = (omega (arith, h.0), all_below-more n ts h.1)

rise-push : (n : ℕ) (ts : List ℕ) → Rise ts → AllBelow n ts → Rise (ts ++ n ∷ [])
rise-push n [] h b = (tt, tt)
rise-push n (t ∷ ts) h b = (all_later-push t n ts h.0 b.0, rise-push n ts h.1 b.1)

pub all_below : (n : ℕ) → AllBelow n (below n)
all_below zero = tt
all_below (suc n) = all_below-more n (below n) (all_below n)

pub below_rises : (n : ℕ) → Rise (below n)
below_rises zero = tt
below_rises (suc n) = rise-push n (below n) (below_rises n) (all_below n)
