-- The document of the answer to a week, line by line.
use Rattle.std.specs.Prelude.{ℕ, suc, List, [], ◌∷◌, ◌++◌, codes, map, unwrap_or}
use Rattle.std.specs.Fmt.{decimal}
use Rattle.answer_text.specs.declared.answer.Answer.{Answer}
use Rattle.rules.specs.declared.heads.Head.{Head}
use Rattle.answer_text.specs.Lines.{spaced, text_of_lines}
use Rattle.answer_text.specs.Texts.{end_line, head_line, lines_of}
use Rattle.week_plan.specs.declared.answers.Week.{Week}

-- what is said of all week plans
abbrev pub week_line : Head → List ℕ
week_line head = codes "week " ++ head_line head

-- the lines of things that are counted from a number on, one after another
abbrev pub counted_from : {X : Type 0} → (ℕ → X → List (List ℕ)) → ℕ → List X → List (List ℕ)
counted_from lines number [] = []
counted_from lines number (x ∷ xs) = lines number x ++ counted_from lines (suc number) xs

-- a day by its number, and the document of its answer
abbrev pub day_line : ℕ → List ℕ
day_line day = spaced (codes "day" ∷ decimal day ∷ [])

abbrev pub day_lines : ℕ → Answer → List (List ℕ)
day_lines day answer = day_line day ∷ lines_of answer

abbrev pub answers_lines : ℕ → List Answer → List (List ℕ)
answers_lines day answers = counted_from day_lines day answers

-- the numbers of the week's units that the units of a day are
abbrev pub names_line : ℕ → List ℕ → List ℕ
names_line day names = spaced (codes "names" ∷ decimal day ∷ map decimal names)

abbrev pub names_of_day : ℕ → List ℕ → List (List ℕ)
names_of_day day names = names_line day names ∷ []

abbrev pub names_lines : ℕ → List (List ℕ) → List (List ℕ)
names_lines day named = counted_from names_of_day day named

-- all lines of the answer to a week, its days counted from 1
abbrev pub week_lines : Week → List (List ℕ)
week_lines week =
    week_line week.head ∷ (answers_lines 1 week.days ++ (names_lines 1 (unwrap_or week.named []) ++ (end_line ∷ [])))

-- the text of the answer to a week
abbrev pub week_text : Week → List ℕ
week_text week = text_of_lines (week_lines week)
