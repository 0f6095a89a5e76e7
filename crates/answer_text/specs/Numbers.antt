-- What the words of a line spell: a number without leading zeros, with its sign, within a limit.
use Rattle.std.specs.Prelude.{ℕ, ℤ, pos, neg_ℤ, List, [], ◌∷◌, length, Bool, true, false, not, ◌&&◌, ◌==◌, nat_le}
use Rattle.std.specs.Prelude.{nat_lt, slice_index, if◌then◌else◌, Option, Some, None}
use Rattle.std.specs.Str.{all_ascii_digits}
use Rattle.std.specs.Str.Parse.{digits_value}
use Rattle.answer_text.specs.declared.limits.TheConstants.{MAX_ANSWER_DIGITS}
use Rattle.answer_text.specs.Lines.{minus}

-- one step, and then the next where it gave a value
infixl 10 ◌>>=◌
abbrev pub ◌>>=◌ : {A B : Type 0} → Option A → (A → Option B) → Option B
(Some x) >>= next = next x
None >>= next = None

-- a word begins with 0 and goes on
abbrev pub has_leading_zero : List ℕ → Bool
has_leading_zero word = (slice_index word 0 == 48) && nat_lt 1 (length word)

-- 1 to `MAX_ANSWER_DIGITS` digits, of which the first is 0 only where it is alone
abbrev pub is_number : List ℕ → Bool
is_number word = nat_le 1 (length word) && nat_le (length word) MAX_ANSWER_DIGITS
    && not (has_leading_zero word) && all_ascii_digits word

-- a number up to a limit
unfoldable pub number_in : ℕ → List ℕ → Option ℕ
number_in most word = if is_number word && nat_le (digits_value 10 word) most then Some (digits_value 10 word) else None

-- a size with a sign
abbrev pub signed_of : Bool → ℕ → ℤ
signed_of negative size = if negative then neg_ℤ (pos size) else pos size

-- a number with its sign, up to a limit in size; 0 has none
unfoldable pub signed_in : ℕ → List ℕ → Option ℤ
signed_in most [] = None
signed_in most (byte ∷ word) =
    if byte == minus
    then (number_in most word >>= λ size. if size == 0 then None else Some (signed_of true size))
    else (number_in most (byte ∷ word) >>= λ size. Some (signed_of false size))

-- the same, where it is not 0
unfoldable pub nonzero_in : ℕ → List ℕ → Option ℤ
nonzero_in most [] = None
nonzero_in most (byte ∷ word) =
    if byte == minus
    then (number_in most word >>= λ size. if size == 0 then None else Some (signed_of true size))
    else (number_in most (byte ∷ word) >>= λ size. if size == 0 then None else Some (signed_of false size))

-- the next word as a number up to a limit, and the words after it
unfoldable pub next_number : ℕ → List (List ℕ) → Option (ℕ × List (List ℕ))
next_number most [] = None
next_number most (word ∷ words) = number_in most word >>= λ number. Some (number, words)

-- the next word as a number with its sign, and the words after it
unfoldable pub next_signed : ℕ → List (List ℕ) → Option (ℤ × List (List ℕ))
next_signed most [] = None
next_signed most (word ∷ words) = signed_in most word >>= λ number. Some (number, words)

-- a value, where no word is left
unfoldable pub at_end : {X : Type 0} → List (List ℕ) → X → Option X
at_end words value = if length words == 0 then Some value else None
