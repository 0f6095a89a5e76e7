-- Reading by lines: what was read so far, which line fits next, and what becomes of a document.
use Rattle.std.specs.Prelude.{ℕ, ◌+◌, ◌≡◌, ◌==◌, nat_lt, List, [], ◌∷◌, ◌++◌, length, if◌then◌else◌, Option, Some, None}
use Rattle.std.specs.Prelude.{is_some, Result, Ok, Err}
use Rattle.std.specs.Str.{bytes_eq}
use Rattle.rail_base.specs.declared.limits.TheConstants.{MAX_NODES, MAX_TRIPS}
use Rattle.branch_tree.specs.declared.tree.Node.{Node}
use Rattle.answer_text.specs.declared.answer.Answer.{Answer}
use Rattle.rules.specs.declared.heads.Head.{Head}
use Rattle.answer_text.specs.declared.refusal.AnswerRefusal.{AnswerRefusal}
use Rattle.answer_text.specs.declared.refusal.AnswerRefusal.TheVariants.{BadLine, MissingEnd, Trailing, TooManyNodes}
use Rattle.answer_text.specs.Limits.{has_plan}
use Rattle.answer_text.specs.Lines.{line_feed}
use Rattle.answer_text.specs.Numbers.{◌>>=◌}
use Rattle.answer_text.specs.Pieces.{pieces, words_of}
use Rattle.answer_text.specs.ReadLines.{head_in, branchings_in, run_in, node_in}
use Rattle.answer_text.specs.Texts.{title_line, tree_line, end_line, head_line, opening_lines, run_lines, body_lines}
use Rattle.answer_text.specs.Texts.{lines_of}

-- what was read of a document
pub data ReadState : Type 0 where
  at_title : ReadState
  at_head : ReadState
  at_branchings : Head → ReadState
  at_runs : Head → ℕ → List (List ℕ) → ReadState
  at_nodes : Head → ℕ → List (List ℕ) → List Node → ReadState
  at_last : Answer → ReadState

-- the lines that were read
abbrev pub lines_before : ReadState → List (List ℕ)
lines_before at_title = []
lines_before at_head = title_line ∷ []
lines_before (at_branchings head) = title_line ∷ head_line head ∷ []
lines_before (at_runs head branchings runs) = opening_lines head branchings ++ run_lines 0 runs
lines_before (at_nodes head branchings runs nodes) = body_lines head branchings runs nodes
lines_before (at_last answer) = lines_of answer

-- the number of the next line
abbrev pub line_number : ReadState → ℕ
line_number place = length (lines_before place) + 1

-- how many runs there may be
abbrev pub most_runs : Head → ℕ
most_runs head = if has_plan head then MAX_TRIPS else 0

unfoldable pub after_run_line : Head → ℕ → List (List ℕ) → List ℕ → Option ReadState
after_run_line head branchings runs line =
    if bytes_eq line tree_line then Some (at_nodes head branchings runs [])
    else if nat_lt (length runs) (most_runs head)
    then (run_in (length runs) (words_of line) >>= λ units. Some (at_runs head branchings (runs ++ units ∷ [])))
    else None

-- at most so many nodes
unfoldable pub after_node_line : ℕ → Head → ℕ → List (List ℕ) → List Node → List ℕ → Option ReadState
after_node_line most head branchings runs nodes line =
    if bytes_eq line end_line
    then (if length nodes == 0 then None
    else Some (at_last (record { head = head; branchings = branchings; runs = runs; tree = nodes })))
    else if nat_lt (length nodes) most
    then (node_in (words_of line) >>= λ node. Some (at_nodes head branchings runs (nodes ++ node ∷ [])))
    else None

-- the place after one more line, where the line fits
unfoldable pub after_line : ℕ → ReadState → List ℕ → Option ReadState
after_line most at_title line = if bytes_eq line title_line then Some at_head else None
after_line most at_head line = head_in (words_of line) >>= λ head. Some (at_branchings head)
after_line most (at_branchings head) line =
    branchings_in (words_of line) >>= λ branchings. Some (at_runs head branchings [])
after_line most (at_runs head branchings runs) line = after_run_line head branchings runs line
after_line most (at_nodes head branchings runs nodes) line = after_node_line most head branchings runs nodes line
after_line most (at_last answer) line = None

-- why a line does not fit its place: it stands after the end, or is one node more than there may be, or is wrong
abbrev pub fault_at : ReadState → List ℕ → AnswerRefusal
fault_at (at_last answer) line = Trailing (line_number (at_last answer))
fault_at place line =
    if is_some (after_line (MAX_NODES + 1) place line) then TooManyNodes else BadLine (line_number place)

-- what is wrong with bytes that no line feed follows, where the line of a number is wanted
abbrev pub fault_of_rest : ℕ → List ℕ → AnswerRefusal
fault_of_rest number [] = MissingEnd
fault_of_rest number (byte ∷ bytes) = BadLine number

-- what becomes of a document that ends at a place, with some bytes after its last line feed
abbrev pub ending_at : ReadState → List ℕ → Result Answer AnswerRefusal
ending_at (at_last answer) [] = Ok answer
ending_at (at_last answer) (byte ∷ bytes) = Err (Trailing (line_number (at_last answer)))
ending_at place left = Err (fault_of_rest (line_number place) left)

-- the next line and the pieces after it, or why there is none
abbrev pub line_in : ℕ → List (List ℕ) → Result (List ℕ × List (List ℕ)) AnswerRefusal
line_in number [] = Err MissingEnd
line_in number (left ∷ []) = Err (fault_of_rest number left)
line_in number (line ∷ next ∷ rest) = Ok (line, next ∷ rest)

-- an answer whose last line has this number, where a node stands before that line and nothing behind it
abbrev pub whole : Answer → ℕ → List ℕ → Result Answer AnswerRefusal
whole answer number after =
    if length answer.tree == 0 then Err (BadLine number)
    else if length after == 0 then Ok answer else Err (Trailing (number + 1))

-- bytes have no line of a number, and why
abbrev pub HasNone : ℕ → List ℕ → AnswerRefusal → Type 0
HasNone number bytes refusal = line_in number (pieces line_feed bytes) ≡ Err refusal

-- bytes begin with the line of a number, and then come others
abbrev pub IsNext : ℕ → List ℕ → List ℕ → List ℕ → Type 0
IsNext number bytes line rest = line_in number (pieces line_feed bytes) ≡ Ok (line, pieces line_feed rest)

-- one line, and then what is next
abbrev pub going_on : Option ReadState → AnswerRefusal → (ReadState → Result Answer AnswerRefusal)
    → Result Answer AnswerRefusal
going_on (Some place) fault next = next place
going_on None fault next = Err fault

-- what becomes of a document after a place, by its pieces between line feeds
unfoldable pub reading : ReadState → List (List ℕ) → Result Answer AnswerRefusal
reading place [] = Err MissingEnd
reading place (left ∷ []) = ending_at place left
reading place (line ∷ next ∷ rest) =
    going_on (after_line MAX_NODES place line) (fault_at place line) (λ later. reading later (next ∷ rest))
