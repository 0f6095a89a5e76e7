-- A plan that runs has one list of picks, so that its answer has one conclusion.
use Rattle.std.proofs.Common.{◌≡◌, ℕ, suc, ◌<◌, List, [], ◌∷◌, length, IsTrue, refl, sym, ◌∙◌, ap, arith}
use Rattle.std.specs.Prelude.{All}
use Rattle.timetable.specs.Compositions.{compositions_of, composition_at}
use Rattle.timetable.specs.Day.{Day}
use Rattle.timetable.specs.Picks.{RunsByPicks, picked}
use Rattle.price_bound.proofs.Solving.{same_number}
use Rattle.answer_text.specs.declared.answer.Answer.{Answer}
use Rattle.rules.specs.declared.heads.Head.{Head}
use Rattle.rules.specs.declared.heads.Head.TheVariants.{Optimal, Infeasible, Bounded, BoundedPlan}
use Rattle.answer_text.specs.Limits.{has_plan}
use Rattle.answer_check.specs.Validity.{HasPicks, conclusion_of}

abbrev AreKnown : Day → List ℕ → Type 0
AreKnown day picks = All (λ comp. comp < length (compositions_of day)) picks

-- picks of one list of compositions are one
one_picks : (day : Day) (one other : List ℕ) → AreKnown day one → AreKnown day other → picked day one ≡ picked day other → one ≡ other
one_picks day [] [] known known' same = refl
one_picks day [] (b ∷ other) known known' same = absurd cc
one_picks day (a ∷ one) [] known known' same = absurd cc
one_picks day (a ∷ one) (b ∷ other) known known' same =
    let first : composition_at day a ≡ composition_at day b = cc in
    let rest : picked day one ≡ picked day other = cc in
    let here : a ≡ b = same_number day a b (known 0 0 (omega arith)) (known' 0 0 (omega arith)) first in
    let more : one ≡ other = one_picks day one other (λ k d below. known (suc k) d (omega (arith, below)))
    (λ k d below. known' (suc k) d (omega (arith, below))) rest in
    ap (λ (n : ℕ). n ∷ one) here ∙ ap (λ (ns : List ℕ). b ∷ ns) more

planned_once : (day : Day) (runs : List (List ℕ)) (one other : List ℕ) → RunsByPicks day runs one → RunsByPicks day runs other → one ≡ other
planned_once day runs one other first second =
    one_picks day one other first.are_picks.known second.are_picks.known (first.types ∙ sym second.types)

concluded_once : (day : Day) (head : Head) (runs : List (List ℕ)) (one other : List ℕ) → (IsTrue (has_plan head) → RunsByPicks day runs one)
    → (IsTrue (has_plan head) → RunsByPicks day runs other) → conclusion_of head one ≡ conclusion_of head other
concluded_once day (Optimal cost) runs one other first second =
    ap (λ (picks : List ℕ). conclusion_of (Optimal cost) picks) (planned_once day runs one other (first refl) (second refl))
concluded_once day Infeasible runs one other first second = refl
concluded_once day (Bounded bound) runs one other first second = refl
concluded_once day (BoundedPlan bound cost) runs one other first second =
    ap (λ (picks : List ℕ). conclusion_of (BoundedPlan bound cost) picks) (planned_once day runs one other (first refl) (second refl))

-- an answer concludes one thing
pub one_conclusion : (day : Day) (answer : Answer) (one other : List ℕ) → HasPicks day answer.head answer.runs one
    → HasPicks day answer.head answer.runs other
    → conclusion_of answer.head one ≡ conclusion_of answer.head other
one_conclusion day answer one other = concluded_once day answer.head answer.runs one other
