-- Sets of compositions: their members, and when two are the same.
use Rattle.std.proofs.Common.{◌≡◌, ℕ, zero, suc, ◌+◌, ◌<◌, ◌≤◌, List, [], ◌∷◌, length, take, Bool, true, false, ◌&&◌}
use Rattle.std.proofs.Common.{refl, sym, ◌∙◌, ap, arith, add-one, ⊎_elim}
use Rattle.std.specs.Int.{from_bool}
use Rattle.std.proofs.lemmas.List.{get_or_past}
use Rattle.std.proofs.lemmas.List.FromFn.{length-map-range_with_len, get_or-map-range_with_len, fill_by_all}
use Rattle.std.proofs.lemmas.Bool.{cases_lt}
use Rattle.branch_tree.specs.Sets.{is_member, HasMember, size_of, tested, restricted_from, restricted}

pub length-tested : (test : ℕ → Bool) (bound : ℕ) → length (tested test bound) ≡ bound
unfolding tested
length-tested test bound = length-map-range_with_len test 0 bound

-- a number below the bound is a member where it passes the test
pub is_member-tested : (test : ℕ → Bool) (bound comp : ℕ) → comp < bound → is_member (tested test bound) comp ≡ test comp
unfolding tested
is_member-tested test bound comp below = get_or-map-range_with_len test 0 bound comp comp false below (omega arith)

-- numbers from the end on are no members
pub is_member-past : (members : List Bool) (comp : ℕ) → length members ≤ comp → is_member members comp ≡ false
is_member-past members comp past = get_or_past members comp false past

-- nothing is a member where nothing passes
pub none-tested : (bound comp : ℕ) → is_member (tested (λ _. false) bound) comp ≡ false
none-tested bound comp =
    ⊎_elim (λ below. is_member-tested (λ _. false) bound comp below)
    (λ past. is_member-past (tested (λ _. false) bound) comp (omega (arith, past, length-tested (λ _. false) bound))) (cases_lt comp bound)

-- a list of the bound's length whose members pass the test is the set of those that pass it
pub is_tested : (test : ℕ → Bool) (bound : ℕ) (members : List Bool) → length members ≡ bound → ((comp : ℕ) → comp < bound → is_member members comp ≡ test comp) → members ≡ tested test bound
unfolding tested
is_tested test bound members len same = fill_by_all test members bound false len same

-- two sets of one length with the same members are the same
pub same_members : (xs ys : List Bool) → length xs ≡ length ys → ((comp : ℕ) → comp < length xs → is_member xs comp ≡ is_member ys comp) → xs ≡ ys
same_members [] [] len same = refl
same_members [] (y ∷ ys) len same = absurd (omega (arith, len))
same_members (x ∷ xs) [] len same = absurd (omega (arith, len))
same_members (x ∷ xs) (y ∷ ys) len same =
    let head : x ≡ y = same 0 (omega arith) in
    let tail : xs ≡ ys = same_members xs ys (omega (arith, len)) (λ comp below. same (suc comp) (omega (arith, below))) in cc

pub length-restricted_from : (first : ℕ) (test : ℕ → Bool) (members : List Bool) → length (restricted_from first test members) ≡ length members
length-restricted_from first test [] = refl
length-restricted_from first test (member ∷ members) = ap suc (length-restricted_from (suc first) test members)

-- a number is kept where it is a member and passes the test
pub is_member-restricted_from : (first : ℕ) (test : ℕ → Bool) (members : List Bool) (comp : ℕ) → is_member (restricted_from first test members) comp ≡ (is_member members comp && test (first + comp))
is_member-restricted_from first test [] comp = refl
is_member-restricted_from first test (member ∷ members) zero = ap (λ n. member && test n) (omega arith)
is_member-restricted_from first test (member ∷ members) (suc comp) =
    is_member-restricted_from (suc first) test members comp ∙ ap (λ n. is_member members comp && test n) (omega arith)

pub is_member-restricted : (test : ℕ → Bool) (members : List Bool) (comp : ℕ) → is_member (restricted test members) comp ≡ (is_member members comp && test comp)
is_member-restricted test members comp = is_member-restricted_from 0 test members comp ∙ ap (λ n. is_member members comp && test n) (omega arith)

-- a list of the same length with the members that pass the test is the set that is kept
pub is_kept : (test : ℕ → Bool) (members new : List Bool) → length new ≡ length members → ((comp : ℕ) → comp < length new → is_member new comp ≡ (is_member members comp && test comp)) → new ≡ restricted test members
is_kept test members new len same =
    same_members new (restricted test members) (len ∙ sym (length-restricted_from 0 test members)) (λ comp below. same comp below ∙ sym (is_member-restricted test members comp))

-- how many members there are among the first numbers, and one more
size_of-take-suc : (members : List Bool) (comp : ℕ) → comp < length members → size_of (take (suc comp) members) ≡ size_of (take comp members) + from_bool (is_member members comp)
size_of-take-suc [] comp below = absurd (omega (arith, below))
size_of-take-suc (true ∷ members) zero below = omega arith
size_of-take-suc (false ∷ members) zero below = omega arith
size_of-take-suc (member ∷ members) (suc comp) below = omega (arith, size_of-take-suc members comp (omega (arith, below)))

pub size_of-take : (members : List Bool) (comp : ℕ) → comp < length members → size_of (take (comp + 1) members) ≡ size_of (take comp members) + from_bool (is_member members comp)
size_of-take members comp below = rw add-one (size_of-take-suc members comp below)

pub from_bool-most : (b : Bool) → from_bool b ≤ 1
from_bool-most true = omega arith
from_bool-most false = omega arith

pub both_true : (a b : Bool) → a ≡ true → b ≡ true → (a && b) ≡ true
both_true a b p q = rw (p, q) refl

-- nothing is kept where no member passes the test
pub none_kept : (test : ℕ → Bool) (members : List Bool) → ((comp : ℕ) → comp < length members → (is_member members comp && test comp) ≡ false) → HasMember (restricted test members) → ⊥
none_kept test members none (comp, there) =
    let at : is_member (restricted test members) comp ≡ (is_member members comp && test comp) = is_member-restricted test members comp in
    let gone : (is_member members comp && test comp) ≡ false = ⊎_elim (λ below. none comp below) (λ past. ap (λ b. b && test comp) (is_member-past members comp past)) (cases_lt comp (length members)) in
    cc
