-- Numbers on the command line.
use Rattle.std.specs.Prelude.{ℕ, ◌≡◌, ◌≤◌, List, [], ◌∷◌, length, true, ◌&&◌, nat_le, if◌then◌else◌, Option, Some, None}
use Rattle.rail_csv.specs.Fields.{are_digits, number_of}
use Rattle.plain_words.specs.declared.numbers.TheConstants.{MAX_WORD_DIGITS}
use Rattle.plain_words.specs.Items.{WordList}

-- ---- what they mean

-- a number is at least one digit, no more than a number may have, and at most so much
pub record IsNumber (most : ℕ) (text : List ℕ) (number : ℕ) : Type 0 where
  pub not_empty : 1 ≤ length text
  pub not_long : length text ≤ MAX_WORD_DIGITS
  pub digits : are_digits text ≡ true
  pub spelled : number_of text ≡ number
  pub limit : number ≤ most

-- the number of an option's value, and its usual number where it has none
abbrev pub IsNumberOr : ℕ → ℕ → Option (List ℕ) → ℕ → Type 0
IsNumberOr usual most None number = number ≡ usual
IsNumberOr usual most (Some text) number = IsNumber most text number

-- an option is given at most once, and has its usual number where it is not given
abbrev pub IsOption : ℕ → ℕ → WordList → ℕ → Type 0
IsOption usual most [] number = number ≡ usual
IsOption usual most (text ∷ []) number = IsNumber most text number
IsOption usual most (text ∷ again ∷ texts) number = ⊥

-- ---- what a text spells

abbrev pub number_up_to : ℕ → List ℕ → Option ℕ
number_up_to most text = if nat_le 1 (length text) && (nat_le (length text) MAX_WORD_DIGITS && (are_digits text
    && nat_le (number_of text) most)) then Some (number_of text) else None

-- the number of an option, which has its usual number where it is not given
abbrev pub option_number : ℕ → ℕ → Option (List ℕ) → Option ℕ
option_number usual most None = Some usual
option_number usual most (Some text) = number_up_to most text
