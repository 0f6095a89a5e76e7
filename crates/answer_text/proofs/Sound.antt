-- What the words of a line are read as: its words are the words of that, which is within the limits.
use Rattle.std.proofs.Common.{◌≡◌, ℕ, zero, suc, ◌<◌, ◌≤◌, true, cond, eqb, ℤ, List, [], ◌∷◌, ◌++◌, length, map, All}
use Rattle.std.proofs.Common.{Some, None, refl, sym, ap, subst, ◌∙◌, append_assoc, arith, inl, inr}
use Rattle.std.specs.Prelude.{codes, unsigned_abs}
use Rattle.std.specs.Fmt.{decimal, signed_decimal}
use Rattle.std.specs.List.{AllByRecursion}
use Rattle.std.specs.Str.{bytes_eq}
use Rattle.std.proofs.lemmas.Bool.Decides.{nat_tests}
use Rattle.std.proofs.lemmas.List.{append-nil}
use Rattle.std.proofs.lemmas.List.Elements.{All-from_recursion}
use Rattle.std.proofs.lemmas.Slice.Eq.{bytes_eq-Decides}
use Rattle.rail_base.specs.declared.limits.TheConstants.{MAX_BRANCHINGS}
use Rattle.rules.specs.declared.heads.Head.{Head}
use Rattle.rules.specs.declared.heads.Head.TheVariants.{Optimal, Infeasible, Bounded, BoundedPlan}
use Rattle.answer_text.specs.declared.limits.TheConstants.{MAX_AMOUNT}
use Rattle.answer_text.specs.Limits.{IsAmount, IsHead, IsRun}
use Rattle.answer_text.specs.Numbers.{◌>>=◌, at_end, next_number, next_signed, number_in, signed_in}
use Rattle.answer_text.specs.ReadLines.{bounded_in, bounded_plan_in, branchings_in, head_in, next_is, optimal_in}
use Rattle.answer_text.specs.ReadLines.{run_in, units_in}
use Rattle.answer_text.specs.Texts.{branchings_words, head_words, run_words}
use Rattle.answer_text.proofs.Numerals.{number_sound}
use Rattle.answer_text.proofs.Signs.{bind_some, branch, signed_sound, some_is}

pub none_some : {A : Type 0} → (x : A) → None ≡ Some x → ⊥
none_some x e = absurd cc

pub equal_bytes : (word wanted : List ℕ) → bytes_eq word wanted ≡ true → word ≡ wanted
equal_bytes word wanted h = (bytes_eq-Decides word wanted).0 h

-- ---- one word

pub next_number_sound : (most : ℕ) (words : List (List ℕ)) (x : ℕ × List (List ℕ)) → next_number most words ≡ Some x → (words ≡ decimal x.0 ∷ x.1) × (x.0 ≤ most)
unfolding next_number
next_number_sound most [] x e = absurd cc
next_number_sound most (word ∷ words) x e =
    let found = bind_some (number_in most word) (λ number. Some (number, words)) x e in
    let sound = number_sound most word found.0 found.1 in
    subst (λ (y : ℕ × List (List ℕ)). (word ∷ words ≡ decimal y.0 ∷ y.1) × (y.0 ≤ most)) (some_is (found.0, words) x found.2)
    (ap (λ (w : List ℕ). w ∷ words) sound.0, sound.1)

pub next_signed_sound : (most : ℕ) (words : List (List ℕ)) (x : ℤ × List (List ℕ)) → next_signed most words ≡ Some x → (words ≡ signed_decimal x.0 ∷ x.1) × (unsigned_abs x.0 ≤ most)
unfolding next_signed
next_signed_sound most [] x e = absurd cc
next_signed_sound most (word ∷ words) x e =
    let found = bind_some (signed_in most word) (λ number. Some (number, words)) x e in
    let sound = signed_sound most word found.0 found.1 in
    subst (λ (y : ℤ × List (List ℕ)). (word ∷ words ≡ signed_decimal y.0 ∷ y.1) × (unsigned_abs y.0 ≤ most)) (some_is (found.0, words) x found.2)
    (ap (λ (w : List ℕ). w ∷ words) sound.0, sound.1)

pub next_is_sound : (wanted : List ℕ) (words rest : List (List ℕ)) → next_is wanted words ≡ Some rest → words ≡ wanted ∷ rest
unfolding next_is
next_is_sound wanted [] rest e = absurd cc
next_is_sound wanted (word ∷ words) rest e =
    elim (branch (bytes_eq word wanted) (Some words) None (Some rest) e) [
      | inl here ↦ (λ i. equal_bytes word wanted here.0 i ∷ some_is words rest here.1 i)
      | inr other ↦ absurd (none_some rest other.1)
    ]

no_words : (words : List (List ℕ)) → eqb (length words) 0 ≡ true → words ≡ []
no_words [] h = refl
no_words (word ∷ words) h = absurd (longer (length words) h)
  where
    longer : (n : ℕ) → eqb (suc n) 0 ≡ true → ⊥
    longer n h = grind (arith, nat_tests)

pub at_end_sound : {X : Type 0} → (words : List (List ℕ)) (value found : X) → at_end words value ≡ Some found → (words ≡ []) × (value ≡ found)
unfolding at_end
at_end_sound words value found e =
    elim (branch (eqb (length words) 0) (Some value) None (Some found) e) [
      | inl here ↦ (no_words words here.0, some_is value found here.1)
      | inr other ↦ absurd (none_some found other.1)
    ]

-- ---- the head

optimal_sound : (words : List (List ℕ)) (head : Head) → optimal_in words ≡ Some head → (codes "optimal" ∷ words ≡ head_words head) × IsHead head
unfolding optimal_in
optimal_sound words head e =
    let cost = bind_some (next_signed MAX_AMOUNT words) (λ cost. at_end cost.1 (Optimal (record { 0 = cost.0 }))) head e in
    let read = next_signed_sound MAX_AMOUNT words cost.0 cost.1 in
    let last = at_end_sound cost.0.1 (Optimal (record { 0 = cost.0.0 })) head cost.2 in
    subst (λ (h : Head). (codes "optimal" ∷ words ≡ head_words h) × IsHead h) last.1
    (ap (λ (ws : List (List ℕ)). codes "optimal" ∷ ws) (read.0 ∙ ap (λ (ws : List (List ℕ)). signed_decimal cost.0.0 ∷ ws) last.0), read.1)

bounded_plan_sound : (bound : ℤ) (words : List (List ℕ)) (head : Head) → IsAmount bound → bounded_plan_in bound words ≡ Some head
    → (codes "bounded" ∷ signed_decimal bound ∷ words ≡ head_words head) × IsHead head
unfolding bounded_plan_in
bounded_plan_sound bound words head within e =
    let plan = bind_some (next_is (codes "plan") words) (λ rest. next_signed MAX_AMOUNT rest >>= λ cost. at_end cost.1 (BoundedPlan (record { 0 = bound }) (record { 0 = cost.0 }))) head e in
    let cost = bind_some (next_signed MAX_AMOUNT plan.0) (λ cost. at_end cost.1 (BoundedPlan (record { 0 = bound }) (record { 0 = cost.0 }))) head plan.2 in
    let word = next_is_sound (codes "plan") words plan.0 plan.1 in
    let read = next_signed_sound MAX_AMOUNT plan.0 cost.0 cost.1 in
    let last = at_end_sound cost.0.1 (BoundedPlan (record { 0 = bound }) (record { 0 = cost.0.0 })) head cost.2 in
    subst (λ (h : Head). (codes "bounded" ∷ signed_decimal bound ∷ words ≡ head_words h) × IsHead h) last.1
    (ap (λ (ws : List (List ℕ)). codes "bounded" ∷ signed_decimal bound ∷ ws) (word ∙ ap (λ (ws : List (List ℕ)). codes "plan" ∷ ws) (read.0 ∙ ap (λ (ws : List (List ℕ)). signed_decimal cost.0.0 ∷ ws) last.0)), (within, read.1))

bounded_sound : (words : List (List ℕ)) (head : Head) → bounded_in words ≡ Some head → (codes "bounded" ∷ words ≡ head_words head) × IsHead head
unfolding bounded_in
bounded_sound words head e =
    let bound = bind_some (next_signed MAX_AMOUNT words) (λ bound. cond (eqb (length bound.1) 0) (Some (Bounded (record { 0 = bound.0 }))) (bounded_plan_in bound.0 bound.1)) head e in
    let read = next_signed_sound MAX_AMOUNT words bound.0 bound.1 in
    elim (branch (eqb (length bound.0.1) 0) (Some (Bounded (record { 0 = bound.0.0 }))) (bounded_plan_in bound.0.0 bound.0.1) (Some head) bound.2) [
      | inl alone ↦
          subst (λ (h : Head). (codes "bounded" ∷ words ≡ head_words h) × IsHead h) (some_is (Bounded (record { 0 = bound.0.0 })) head alone.1)
          (ap (λ (ws : List (List ℕ)). codes "bounded" ∷ ws) (read.0 ∙ ap (λ (ws : List (List ℕ)). signed_decimal bound.0.0 ∷ ws) (no_words bound.0.1 alone.0)), read.1)
      | inr planned ↦
          let sound = bounded_plan_sound bound.0.0 bound.0.1 head read.1 planned.1 in
          (ap (λ (ws : List (List ℕ)). codes "bounded" ∷ ws) read.0 ∙ sound.0, sound.1)
    ]

pub first_is : (word wanted : List ℕ) (words : List (List ℕ)) → bytes_eq word wanted ≡ true → word ∷ words ≡ wanted ∷ words
first_is word wanted words h = ap (λ (w : List ℕ). w ∷ words) (equal_bytes word wanted h)

pub head_sound : (words : List (List ℕ)) (head : Head) → head_in words ≡ Some head → (words ≡ head_words head) × IsHead head
unfolding head_in
head_sound [] head e = absurd cc
head_sound (word ∷ words) head e =
    elim (branch (bytes_eq word (codes "optimal")) (optimal_in words)
    (cond (bytes_eq word (codes "infeasible")) (at_end words Infeasible) (cond (bytes_eq word (codes "bounded")) (bounded_in words) None)) (Some head) e) [
      | inl optimal ↦ let sound = optimal_sound words head optimal.1 in (first_is word (codes "optimal") words optimal.0 ∙ sound.0, sound.1)
      | inr others ↦ elim (branch (bytes_eq word (codes "infeasible")) (at_end words Infeasible) (cond (bytes_eq word (codes "bounded")) (bounded_in words) None) (Some head) others.1) [
        | inl none ↦
            let last = at_end_sound words Infeasible head none.1 in
            subst (λ (h : Head). (word ∷ words ≡ head_words h) × IsHead h) last.1
            (first_is word (codes "infeasible") words none.0 ∙ ap (λ (ws : List (List ℕ)). codes "infeasible" ∷ ws) last.0, tt)
        | inr rest ↦ elim (branch (bytes_eq word (codes "bounded")) (bounded_in words) None (Some head) rest.1) [
          | inl bounded ↦ let sound = bounded_sound words head bounded.1 in (first_is word (codes "bounded") words bounded.0 ∙ sound.0, sound.1)
          | inr nothing ↦ absurd (none_some head nothing.1)
        ]
      ]
    ]

-- ---- the number of branchings

pub branchings_sound : (words : List (List ℕ)) (number : ℕ) → branchings_in words ≡ Some number → (words ≡ branchings_words number) × (number ≤ MAX_BRANCHINGS)
unfolding branchings_in
branchings_sound words number e =
    let word = bind_some (next_is (codes "branchings") words) (λ rest. next_number MAX_BRANCHINGS rest >>= λ x. at_end x.1 x.0) number e in
    let count = bind_some (next_number MAX_BRANCHINGS word.0) (λ x. at_end x.1 x.0) number word.2 in
    let read = next_number_sound MAX_BRANCHINGS word.0 count.0 count.1 in
    let last = at_end_sound count.0.1 count.0.0 number count.2 in
    subst (λ (n : ℕ). (words ≡ branchings_words n) × (n ≤ MAX_BRANCHINGS)) last.1
    (next_is_sound (codes "branchings") words word.0 word.1 ∙ ap (λ (ws : List (List ℕ)). codes "branchings" ∷ ws) (read.0 ∙ ap (λ (ws : List (List ℕ)). decimal count.0.0 ∷ ws) last.0), read.1)

-- ---- a run

units_sound : (room : ℕ) (units : List ℕ) (words : List (List ℕ)) (all : List ℕ) → units_in room units words ≡ Some all
    → (more : List ℕ) × (all ≡ units ++ more) × (words ≡ map decimal more) × (length more ≤ room) × AllByRecursion (λ unit. unit < 2000) more
unfolding units_in
units_sound room units [] all e = ([], sym (some_is units all e) ∙ sym (append-nil units), refl, omega arith, tt)
units_sound zero units (word ∷ words) all e = absurd cc
units_sound (suc room) units (word ∷ words) all e =
    let unit = bind_some (number_in 1999 word) (λ unit. units_in room (units ++ unit ∷ []) words) all e in
    let read = number_sound 1999 word unit.0 unit.1 in
    let rest = units_sound room (units ++ unit.0 ∷ []) words all unit.2 in
    (unit.0 ∷ rest.0, rest.1 ∙ append_assoc units (unit.0 ∷ []) rest.0, (λ i. read.0 i ∷ rest.2 i), omega (arith, rest.3), (omega (arith, read.1), rest.4))

pub run_sound : (trip : ℕ) (words : List (List ℕ)) (units : List ℕ) → run_in trip words ≡ Some units → (words ≡ run_words trip units) × IsRun units
unfolding run_in
run_sound trip words units e =
    let word = bind_some (next_is (codes "run") words) (λ rest. next_number 400 rest >>= λ number. cond (eqb number.0 trip) (units_in 6 [] number.1) None) units e in
    let count = bind_some (next_number 400 word.0) (λ number. cond (eqb number.0 trip) (units_in 6 [] number.1) None) units word.2 in
    let read = next_number_sound 400 word.0 count.0 count.1 in
    elim (branch (eqb count.0.0 trip) (units_in 6 [] count.0.1) None (Some units) count.2) [
      | inl here ↦
          let all = units_sound 6 [] count.0.1 units here.1 in (
            next_is_sound (codes "run") words word.0 word.1 ∙ ap (λ (ws : List (List ℕ)). codes "run" ∷ ws)
                (read.0 ∙ (λ i. decimal (equal count.0.0 trip here.0 i) ∷ (all.2 ∙ ap (map decimal) (sym all.1)) i)),
            record { few = omega (arith, all.3, ap length all.1); numbers = subst (λ (us : List ℕ). All (λ unit. unit < 2000) us) (sym all.1) (All-from_recursion (λ unit. unit < 2000) all.0 all.4) },
          )
      | inr other ↦ absurd (none_some units other.1)
    ]
  where
    equal : (a b : ℕ) → eqb a b ≡ true → a ≡ b
    equal a b h = grind (arith, nat_tests)
