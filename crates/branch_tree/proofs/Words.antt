-- The bits of a set of compositions.
use Rattle.std.proofs.Common.{◌≡◌, ℕ, ◌/◌, ◌%◌, ◌^◌, ◌<◌, ◌≢◌, List, length, get_or, set, Bool, true, false, eqb}
use Rattle.std.proofs.Common.{bit_and, ◌⊎◌, sym, ◌∙◌, ap, arith, inl, inr, ⊎_elim}
use Rattle.std.proofs.lemmas.Bool.{cases_lt}
use Rattle.std.specs.Int.{bit_at}
use Rattle.std.proofs.lemmas.List.{get_or-set_other, length-set}
use Rattle.std.proofs.lemmas.Nat.Bits.{bit_at-zero, shr_and_one}
use Rattle.std.proofs.lemmas.Grind.{get_or-set_at}
use Rattle.std.proofs.lemmas.Bool.Decides.{eqb_tells}
use Rattle.rail_base.specs.declared.limits.TheConstants.{MAX_COMPOSITIONS}
use Rattle.branch_tree.specs.Sets.{is_member, set_of}
use Rattle.branch_tree.specs.Bits.{HasNoOther, bit_of, members_of}
use Rattle.branch_tree.proofs.Members.{length-tested, is_member-tested, is_member-past, is_tested}

pub length-members_of : (words : List ℕ) → length (members_of words) ≡ MAX_COMPOSITIONS
unfolding members_of
length-members_of words = length-tested (bit_of words) MAX_COMPOSITIONS

pub is_member-members_of : (words : List ℕ) (comp : ℕ) → comp < MAX_COMPOSITIONS → is_member (members_of words) comp ≡ bit_of words comp
unfolding members_of
is_member-members_of words comp below = is_member-tested (bit_of words) MAX_COMPOSITIONS comp below

-- a list of that length with the bits of the words is the set that they hold
pub is_members_of : (words : List ℕ) (members : List Bool) → length members ≡ MAX_COMPOSITIONS → ((comp : ℕ) → comp < MAX_COMPOSITIONS → is_member members comp ≡ bit_of words comp) → members ≡ members_of words
unfolding members_of
is_members_of words members len same = is_tested (bit_of words) MAX_COMPOSITIONS members len same

-- the test of one bit
pub bit_of-tested : (words : List ℕ) (comp : ℕ) → eqb (bit_and (get_or words (comp / 64) 0 / 2 ^ (comp % 64)) 1) 1 ≡ bit_of words comp
bit_of-tested words comp = ap (λ n. eqb n 1) (shr_and_one (get_or words (comp / 64) 0) (comp % 64))

-- two numbers with the same word and the same place in it are the same
same_place : (a b : ℕ) → a / 64 ≡ b / 64 → a % 64 ≡ b % 64 → a ≡ b
same_place a b q r = omega (arith, q, r)

-- a word with one bit changed changes that member alone
pub one_bit : (words : List ℕ) (comp new : ℕ) (value : Bool) → comp < MAX_COMPOSITIONS → comp / 64 < length words →
    eqb (bit_at new (comp % 64)) 1 ≡ value →
    ((i : ℕ) → i < 64 → i ≢ comp % 64 → bit_at new i ≡ bit_at (get_or words (comp / 64) 0) i) →
    set (members_of words) comp value ≡ members_of (set words (comp / 64) new)
one_bit words comp new value below within here others = is_members_of (set words (comp / 64) new) (set (members_of words) comp value)
    (length-set (members_of words) comp value ∙ length-members_of words)
    (λ other low. one_bit_at words comp new value below within here others other low (eqb_tells other comp) (eqb_tells (other / 64) (comp / 64)))
  where
    one_bit_at : (words : List ℕ) (comp new : ℕ) (value : Bool) → comp < MAX_COMPOSITIONS → comp / 64 < length words →
        eqb (bit_at new (comp % 64)) 1 ≡ value →
        ((i : ℕ) → i < 64 → i ≢ comp % 64 → bit_at new i ≡ bit_at (get_or words (comp / 64) 0) i) →
        (other : ℕ) → other < MAX_COMPOSITIONS →
        ((eqb other comp ≡ true) × (other ≡ comp)) ⊎ ((eqb other comp ≡ false) × (other ≢ comp)) →
        ((eqb (other / 64) (comp / 64) ≡ true) × (other / 64 ≡ comp / 64)) ⊎ ((eqb (other / 64) (comp / 64) ≡ false) × (other / 64 ≢ comp / 64)) →
        is_member (set (members_of words) comp value) other ≡ bit_of (set words (comp / 64) new) other
    one_bit_at words comp new value below within here others other low (inl (_, same)) _ =
        let inside : comp < length (members_of words) = omega (arith, below, length-members_of words) in
        get_or-set_at (members_of words) comp other value false same inside
        ∙ sym (ap (λ w. eqb (bit_at w (other % 64)) 1) (get_or-set_at words (comp / 64) (other / 64) new 0 (ap (λ n. n / 64) same) within)
        ∙ ap (λ n. eqb (bit_at new (n % 64)) 1) same ∙ here)
    one_bit_at words comp new value below within here others other low (inr (_, differ)) (inl (_, word)) =
        get_or-set_other (members_of words) comp other value false differ ∙ is_member-members_of words other low
        ∙ sym (ap (λ w. eqb (bit_at w (other % 64)) 1) (get_or-set_at words (comp / 64) (other / 64) new 0 word within)
        ∙ ap (λ b. eqb b 1) (others (other % 64) (omega arith) (λ place. differ (same_place other comp word place)))
        ∙ ap (λ q. eqb (bit_at (get_or words q 0) (other % 64)) 1) (sym word))
    one_bit_at words comp new value below within here others other low (inr (_, differ)) (inr (_, word)) =
        get_or-set_other (members_of words) comp other value false differ ∙ is_member-members_of words other low
        ∙ sym (ap (λ w. eqb (bit_at w (other % 64)) 1) (get_or-set_other words (comp / 64) (other / 64) new 0 word))

-- words that are all 0 hold no members
pub none_of : (words : List ℕ) → ((place : ℕ) → get_or words place 0 ≡ 0) → members_of words ≡ set_of (λ comp. false)
none_of words zeros = sym (is_members_of words (set_of (λ comp. false)) (length-tested (λ comp. false) MAX_COMPOSITIONS)
    (λ comp low. is_member-tested (λ comp. false) MAX_COMPOSITIONS comp low
    ∙ sym (ap (λ w. eqb (bit_at w (comp % 64)) 1) (zeros (comp / 64)) ∙ ap (λ b. eqb b 1) (bit_at-zero (comp % 64)))))

-- words with no other bits have none after the bit of a composition is changed
pub one_bit-other : (words : List ℕ) (comp new : ℕ) → HasNoOther words → comp < MAX_COMPOSITIONS → comp / 64 < length words →
    ((i : ℕ) → i < 64 → i ≢ comp % 64 → bit_at new i ≡ bit_at (get_or words (comp / 64) 0) i) → HasNoOther (set words (comp / 64) new)
one_bit-other words comp new none below within others other past = at (eqb_tells (other / 64) (comp / 64))
  where
    at : ((eqb (other / 64) (comp / 64) ≡ true) × (other / 64 ≡ comp / 64)) ⊎ ((eqb (other / 64) (comp / 64) ≡ false) × (other / 64 ≢ comp / 64)) → bit_of (set words (comp / 64) new) other ≡ false
    at (inl (_, word)) =
        ap (λ w. eqb (bit_at w (other % 64)) 1) (get_or-set_at words (comp / 64) (other / 64) new 0 word within)
        ∙ ap (λ b. eqb b 1) (others (other % 64) (omega arith) (λ place. omega (arith, past, below, same_place other comp word place)))
        ∙ ap (λ q. eqb (bit_at (get_or words q 0) (other % 64)) 1) (sym word) ∙ none other past
    at (inr (_, differ)) = ap (λ w. eqb (bit_at w (other % 64)) 1) (get_or-set_other words (comp / 64) (other / 64) new 0 differ) ∙ none other past

-- a number is a member exactly where its bit is 1
pub is_member-bit : (words : List ℕ) (comp : ℕ) → HasNoOther words → is_member (members_of words) comp ≡ bit_of words comp
is_member-bit words comp none =
    ⊎_elim (λ below. is_member-members_of words comp below)
    (λ past. is_member-past (members_of words) comp (omega (arith, past, length-members_of words)) ∙ sym (none comp past)) (cases_lt comp MAX_COMPOSITIONS)
