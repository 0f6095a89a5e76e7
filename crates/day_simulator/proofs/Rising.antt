-- Trips that leave one strictly after another are in one order only.
use Rattle.std.proofs.Common.{◌≡◌, ℕ, ◌+◌, ◌*◌, ◌<◌, ◌≤◌, List, [], ◌∷◌, Bool, true, false, refl, sym, ap, ◌∙◌, subst}
use Rattle.std.proofs.Common.{arith, ◌≢◌, ⊎_elim, ◌⊎◌, inl, inr}
use Rattle.std.proofs.lemmas.Bool.{cases_eq, cases_Bool, cond-true, cond-false, false≢true}
use Rattle.timetable.specs.Day.{Day, leaves}
use Rattle.timetable.specs.Lists.{count_of}
use Rattle.day_simulator.specs.declared.events.DayEvent.{DayEvent}
use Rattle.day_simulator.specs.declared.events.DayEvent.TheVariants.{Depart, Arrive}
use Rattle.day_simulator.specs.State.{moment_of}
use Rattle.day_simulator.specs.Orders.{departures, NeverFalls}
use Rattle.timetable.proofs.Ones.{one, one_same, one_other}
use Rattle.day_simulator.proofs.Lawful.{from_departure}
use Rattle.day_simulator.proofs.Legs.{legs}

-- each trip leaves strictly before all the later ones
abbrev pub Rises : Day → List ℕ → Type 0
Rises day [] = Unit {0}
Rises day (a ∷ ts) = ((b : ℕ) → 1 ≤ count_of b ts → leaves day a < leaves day b) × Rises day ts

-- each trip leaves no later than the later ones
abbrev pub NeverEarlier : Day → List ℕ → Type 0
NeverEarlier day [] = Unit {0}
NeverEarlier day (a ∷ ts) = ((b : ℕ) → 1 ≤ count_of b ts → leaves day a ≤ leaves day b) × NeverEarlier day ts

-- a trip that leaves strictly before the first of rising trips leaves before all of them
pub rises_more : (day : Day) (a b : ℕ) (ts : List ℕ) → leaves day a < leaves day b → Rises day (b ∷ ts) → Rises day (a ∷ b ∷ ts)
rises_more day a b ts lt h = (all, h)
  where
    all : (c : ℕ) → 1 ≤ count_of c (b ∷ ts) → leaves day a < leaves day c
    all c k = ⊎_elim (λ (e : b ≡ c). subst (λ x. leaves day a < leaves day x) e lt)
        (λ (ne : b ≢ c). let o = one_other b c ne in let later = h.0 c (omega arith) in omega arith) (cases_eq b c)

same_counts_tail : (x y t : ℕ) (xs ys : List ℕ) → x ≡ y → count_of t (x ∷ xs) ≡ count_of t (y ∷ ys) → count_of t xs ≡ count_of t ys
same_counts_tail x y t xs ys e h = let o = ap (λ z. one z t) e in omega arith

pub one_rising : (day : Day) (xs ys : List ℕ) → Rises day xs → NeverEarlier day ys → ((t : ℕ) → count_of t xs ≡ count_of t ys) → xs ≡ ys
one_rising day [] [] rises late same = refl
one_rising day [] (y ∷ ys) rises late same = let o = one_same y y refl in let s = same y in absurd (omega arith)
one_rising day (x ∷ xs) [] rises late same = let o = one_same x x refl in let s = same x in absurd (omega arith)
one_rising day (x ∷ xs) (y ∷ ys) rises late same =
    let head = first (cases_eq x y) in
    let tail = one_rising day xs ys rises.1 late.1 (λ t. same_counts_tail x y t xs ys head (same t)) in
    ap (λ z. z ∷ xs) head ∙ ap (λ zs. y ∷ zs) tail
  where
    first : (x ≡ y) ⊎ (x ≡ y → ⊥) → x ≡ y
    first (inl e) = e
    first (inr ne) =
        let x_same = one_same x x refl in
        let y_same = one_same y y refl in
        let x_other = one_other x y ne in
        let y_other = one_other y x (λ e. ne (sym e)) in
        let x_count = same x in
        let y_count = same y in
        let before = rises.0 y (omega arith) in
        let after' = late.0 x (omega arith) in
        absurd (omega arith)

count_of-legs : (p : ℕ → Bool) (t : ℕ) (es : List DayEvent) → p t ≡ true → count_of t (legs p es) ≡ departures t es
count_of-legs p t [] is = refl
count_of-legs p t (Arrive s ∷ es) is = count_of-legs p t es is
count_of-legs p t (Depart s ∷ es) is =
    let ih = count_of-legs p t es is in
    ⊎_elim
    (λ (here : p s ≡ true). ap (count_of t) (cond-true (p s) (s ∷ legs p es) (legs p es) here) ∙ ap (λ n. one s t + n) ih)
    (λ (not_here : p s ≡ false).
    let ne : s ≢ t = λ e. false≢true (sym not_here ∙ ap p e ∙ is) in
    let o = one_other s t ne in
    ap (count_of t) (cond-false (p s) (s ∷ legs p es) (legs p es) not_here) ∙ (omega arith))
    (cases_Bool (p s))

count_of-legs_none : (p : ℕ → Bool) (t : ℕ) (es : List DayEvent) → p t ≡ false → count_of t (legs p es) ≡ 0
count_of-legs_none p t [] is = refl
count_of-legs_none p t (Arrive s ∷ es) is = count_of-legs_none p t es is
count_of-legs_none p t (Depart s ∷ es) is =
    let ih = count_of-legs_none p t es is in
    ⊎_elim
    (λ (here : p s ≡ true).
    let ne : s ≢ t = λ e. false≢true (sym is ∙ ap p (sym e) ∙ here) in
    let o = one_other s t ne in
    ap (count_of t) (cond-true (p s) (s ∷ legs p es) (legs p es) here) ∙ (omega arith))
    (λ (not_here : p s ≡ false). ap (count_of t) (cond-false (p s) (s ∷ legs p es) (legs p es) not_here) ∙ ih)
    (cases_Bool (p s))

-- a trip that is boarded passes the test, and departs
pub in_legs : (p : ℕ → Bool) (t : ℕ) (es : List DayEvent) → 1 ≤ count_of t (legs p es) → (p t ≡ true) × (1 ≤ departures t es)
in_legs p t es c =
    ⊎_elim (λ (is : p t ≡ true). let n = count_of-legs p t es is in (is, omega arith))
    (λ (isnt : p t ≡ false). let n = count_of-legs_none p t es isnt in absurd (omega arith)) (cases_Bool (p t))

legs_never_earlier : (day : Day) (p : ℕ → Bool) (es : List DayEvent) → NeverFalls day es → NeverEarlier day (legs p es)
unfolding moment_of
legs_never_earlier day p [] h = tt
legs_never_earlier day p (Arrive s ∷ es) h = legs_never_earlier day p es h.1
legs_never_earlier day p (Depart s ∷ es) h =
    let rest = legs_never_earlier day p es h.1 in
    ⊎_elim
    (λ (here : p s ≡ true). subst (λ l. NeverEarlier day l) (sym (cond-true (p s) (s ∷ legs p es) (legs p es) here))
    ((λ b c. let later = from_departure day (2 * leaves day s + 1) b es h.0 (in_legs p b es c).1 in omega arith), rest))
    (λ (not_here : p s ≡ false). subst (λ l. NeverEarlier day l) (sym (cond-false (p s) (s ∷ legs p es) (legs p es) not_here)) rest)
    (cases_Bool (p s))

-- where the trips of a unit rise along one order, they come alike along each other order
pub same_legs : (day : Day) (p : ℕ → Bool) (es fs : List DayEvent) → NeverFalls day fs → ((t : ℕ) → departures t es ≡ departures t fs) → Rises day (legs p es) → legs p es ≡ legs p fs
same_legs day p es fs sorted same rises =
    one_rising day (legs p es) (legs p fs) rises (legs_never_earlier day p fs sorted)
    (λ t. ⊎_elim (λ (is : p t ≡ true). count_of-legs p t es is ∙ same t ∙ sym (count_of-legs p t fs is))
    (λ (isnt : p t ≡ false). count_of-legs_none p t es isnt ∙ sym (count_of-legs_none p t fs isnt)) (cases_Bool (p t)))
