-- Which texts are answers, and what is wrong with the others: the first line that no answer has at its place.
use Rattle.std.specs.Prelude.{ℕ, ◌+◌, ◌≡◌, ◌≢◌, Bool, true, false, List, [], ◌∷◌, ◌++◌, length}
use Rattle.rail_base.specs.declared.limits.TheConstants.{MAX_NODES}
use Rattle.answer_text.specs.declared.answer.Answer.{Answer}
use Rattle.answer_text.specs.declared.refusal.AnswerRefusal.{AnswerRefusal}
use Rattle.answer_text.specs.declared.refusal.AnswerRefusal.TheVariants.{BadLine, MissingEnd, Trailing, TooManyNodes}
use Rattle.answer_text.specs.declared.refusal.AnswerRefusal.TheVariants.{NoMemory}
use Rattle.answer_text.specs.Limits.{IsAnswerWithin}
use Rattle.answer_text.specs.Lines.{line_feed, text_of_lines}
use Rattle.answer_text.specs.Texts.{lines_of, text_of}

-- bytes are the text of an answer within the limits
pub record IsText (bytes : List ℕ) (answer : Answer) : Type 0 where
  pub within : IsAnswerWithin MAX_NODES answer
  pub text : bytes ≡ text_of answer

-- an answer with at most so many nodes has these lines first
abbrev pub Begin : ℕ → List (List ℕ) → Type 0
Begin most lines = (answer : Answer) × (rest : List (List ℕ)) × IsAnswerWithin most answer
    × (lines_of answer ≡ lines ++ rest)

-- an answer has these lines first, and then more
abbrev pub AreUnfinished : List (List ℕ) → Type 0
AreUnfinished lines = (answer : Answer) × (next : List ℕ) × (rest : List (List ℕ)) × IsAnswerWithin MAX_NODES answer
    × (lines_of answer ≡ lines ++ next ∷ rest)

-- after these lines comes a line that an answer with at most so many nodes has there
abbrev pub GoOn : ℕ → List (List ℕ) → List ℕ → Type 0
GoOn most lines bytes = (line : List ℕ) × (rest : List ℕ) × (bytes ≡ line ++ line_feed ∷ rest)
    × Begin most (lines ++ line ∷ [])

-- the line of a number is the first wrong one: those before it are right, and it is there and does not fit its place
pub record IsBadLine (bytes : List ℕ) (number : ℕ) : Type 0 where
  pub before : List (List ℕ)
  pub after : List ℕ
  pub parts : bytes ≡ text_of_lines before ++ after
  pub right : AreUnfinished before
  pub number_is : number ≡ length before + 1
  pub there : after ≢ []
  -- not even where there may be one node more
  pub wrong : GoOn (MAX_NODES + 1) before after → ⊥

-- all lines are right, and the bytes end before the line `end`
pub record IsMissingEnd (bytes : List ℕ) : Type 0 where
  pub before : List (List ℕ)
  pub parts : bytes ≡ text_of_lines before
  pub right : AreUnfinished before

-- something follows the text of an answer
pub record IsTrailing (bytes : List ℕ) (number : ℕ) : Type 0 where
  pub answer : Answer
  pub after : List ℕ
  pub within : IsAnswerWithin MAX_NODES answer
  pub parts : bytes ≡ text_of answer ++ after
  pub number_is : number ≡ length (lines_of answer) + 1
  pub there : after ≢ []

-- the lines before are right, and the next one would be so if there might be one node more
pub record AreTooManyNodes (bytes : List ℕ) : Type 0 where
  pub before : List (List ℕ)
  pub after : List ℕ
  pub parts : bytes ≡ text_of_lines before ++ after
  pub right : AreUnfinished before
  pub one_more : GoOn (MAX_NODES + 1) before after
  pub full : GoOn MAX_NODES before after → ⊥

-- want of memory
abbrev pub is_memory : AnswerRefusal → Bool
is_memory NoMemory = true
is_memory refusal = false

-- why bytes are refused; want of memory has no cause in them
abbrev pub IsAnswerRefusal : List ℕ → AnswerRefusal → Type 0
IsAnswerRefusal bytes (BadLine number) = IsBadLine bytes number
IsAnswerRefusal bytes MissingEnd = IsMissingEnd bytes
IsAnswerRefusal bytes (Trailing number) = IsTrailing bytes number
IsAnswerRefusal bytes TooManyNodes = AreTooManyNodes bytes
IsAnswerRefusal bytes NoMemory = ⊥
