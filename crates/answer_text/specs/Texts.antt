-- The one text of an answer, line by line.
use Rattle.std.specs.Prelude.{ℕ, suc, List, [], ◌∷◌, ◌++◌, length, map, codes}
use Rattle.std.specs.Fmt.{decimal, signed_decimal}
use Rattle.rail_base.specs.Times.{colon}
use Rattle.branch_tree.specs.declared.cuts.Cut.{Cut}
use Rattle.branch_tree.specs.declared.cuts.Cut.TheVariants.{Only, AtMost}
use Rattle.branch_tree.specs.declared.multipliers.Entry.{Entry}
use Rattle.branch_tree.specs.declared.tree.Node.{Node}
use Rattle.branch_tree.specs.declared.tree.Node.TheVariants.{Branch, CostLeaf, RayLeaf, EmptyLeaf}
use Rattle.answer_text.specs.declared.answer.Answer.{Answer}
use Rattle.rules.specs.declared.heads.Head.{Head}
use Rattle.rules.specs.declared.heads.Head.TheVariants.{Optimal, Infeasible, Bounded, BoundedPlan}
use Rattle.answer_text.specs.Lines.{after_spaces, line_feed, spaced, text_of_lines}

abbrev pub title_line : List ℕ
title_line = codes "railplan answer 1"

abbrev pub tree_line : List ℕ
tree_line = codes "tree"

abbrev pub end_line : List ℕ
end_line = codes "end"

-- what the answer says of the day
abbrev pub head_words : Head → List (List ℕ)
head_words (Optimal cost) = codes "optimal" ∷ signed_decimal cost.0 ∷ []
head_words Infeasible = codes "infeasible" ∷ []
head_words (Bounded bound) = codes "bounded" ∷ signed_decimal bound.0 ∷ []
head_words (BoundedPlan bound cost) =
    codes "bounded" ∷ signed_decimal bound.0 ∷ codes "plan" ∷ signed_decimal cost.0 ∷ []

abbrev pub branchings_words : ℕ → List (List ℕ)
branchings_words branchings = codes "branchings" ∷ decimal branchings ∷ []

-- the run of a trip by its number: its units, front to rear
abbrev pub run_words : ℕ → List ℕ → List (List ℕ)
run_words trip units = codes "run" ∷ decimal trip ∷ map decimal units

-- an index and its value, with a colon between
abbrev pub entry_word : Entry → List ℕ
entry_word entry = decimal entry.index ++ (colon ∷ signed_decimal entry.value)

-- how many entries there are, and the entries
abbrev pub entries_words : List Entry → List (List ℕ)
entries_words entries = decimal (length entries) ∷ map entry_word entries

-- the end of a line of entries, with its line feed
abbrev pub entries_end : List Entry → List ℕ
entries_end entries = after_spaces (entries_words entries) ++ (line_feed ∷ [])

abbrev pub cut_words : Cut → List (List ℕ)
cut_words (Only trip comp) = codes "only" ∷ decimal trip ∷ decimal comp ∷ []
cut_words (AtMost trip unit_type count) = codes "most" ∷ decimal trip ∷ decimal unit_type ∷ decimal count ∷ []

abbrev pub node_words : Node → List (List ℕ)
node_words (Branch cut) = cut_words cut
node_words (CostLeaf bound multipliers) = codes "cost" ∷ signed_decimal bound.0 ∷ entries_words multipliers
node_words (RayLeaf multipliers) = codes "ray" ∷ entries_words multipliers
node_words EmptyLeaf = codes "empty" ∷ []

-- ---- the lines of an answer, without their line feeds

abbrev pub head_line : Head → List ℕ
head_line head = spaced (head_words head)

abbrev pub branchings_line : ℕ → List ℕ
branchings_line branchings = spaced (branchings_words branchings)

abbrev pub run_line : ℕ → List ℕ → List ℕ
run_line trip units = spaced (run_words trip units)

abbrev pub node_line : Node → List ℕ
node_line node = spaced (node_words node)

-- the runs of trips that follow one another by number
abbrev pub run_lines : ℕ → List (List ℕ) → List (List ℕ)
run_lines trip [] = []
run_lines trip (units ∷ runs) = run_line trip units ∷ run_lines (suc trip) runs

abbrev pub node_lines : List Node → List (List ℕ)
node_lines nodes = map node_line nodes

-- what stands before the first run line
abbrev pub opening_lines : Head → ℕ → List (List ℕ)
opening_lines head branchings = title_line ∷ head_line head ∷ branchings_line branchings ∷ []

-- what stands before the line `end`
abbrev pub body_lines : Head → ℕ → List (List ℕ) → List Node → List (List ℕ)
body_lines head branchings runs nodes =
    opening_lines head branchings ++ (run_lines 0 runs ++ (tree_line ∷ node_lines nodes))

-- all lines of an answer, in order
abbrev pub lines_of : Answer → List (List ℕ)
lines_of answer = body_lines answer.head answer.branchings answer.runs answer.tree ++ (end_line ∷ [])

-- the text of an answer
abbrev pub text_of : Answer → List ℕ
text_of answer = text_of_lines (lines_of answer)
