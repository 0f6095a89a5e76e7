-- The document of the answer to a disturbed day, line by line.
use Rattle.std.specs.Prelude.{ℕ, List, [], ◌∷◌, ◌++◌, codes, if◌then◌else◌, unwrap_or}
use Rattle.std.specs.Fmt.{decimal}
use Rattle.branch_tree.specs.declared.tree.Node.{Node}
use Rattle.branch_tree.specs.Trees.{branchings_of}
use Rattle.rules.specs.declared.heads.Head.{Head}
use Rattle.rules.specs.declared.heads.Head.TheVariants.{Optimal, Infeasible, Bounded, BoundedPlan}
use Rattle.answer_text.specs.Limits.{has_plan}
use Rattle.answer_text.specs.Lines.{spaced, text_of_lines}
use Rattle.answer_text.specs.Texts.{branchings_line, end_line, head_words, node_lines, run_line, tree_line}
use Rattle.replan.specs.declared.replanning.Replanned.{Replanned}

-- to how many trips the plan, where there is one, gives other types than were planned
abbrev pub changes_words : Head → ℕ → List (List ℕ)
changes_words head changes = if has_plan head then codes "changes" ∷ decimal changes ∷ [] else []

-- what the answer says
abbrev pub said_line : Head → ℕ → List ℕ
said_line head changes = spaced (codes "replan" ∷ (head_words head ++ changes_words head changes))

-- the runs of trips by the numbers that they had
abbrev pub old_run_lines : List ℕ → List (List ℕ) → List (List ℕ)
old_run_lines [] runs = []
old_run_lines (number ∷ numbers) [] = []
old_run_lines (number ∷ numbers) (units ∷ runs) = run_line number units ∷ old_run_lines numbers runs

-- how many branchings were made, and the tree
abbrev pub node_lines_of : List Node → List (List ℕ)
node_lines_of tree = branchings_line (branchings_of tree) ∷ tree_line ∷ node_lines tree

-- these are told where the answer is `bounded`
abbrev pub tree_lines : Head → List Node → List (List ℕ)
tree_lines (Optimal price) tree = []
tree_lines Infeasible tree = []
tree_lines (Bounded bound) tree = node_lines_of tree
tree_lines (BoundedPlan bound price) tree = node_lines_of tree

-- all lines, where the trips of the later day had these numbers
abbrev pub lines_of : List ℕ → Replanned → List (List ℕ)
lines_of numbers replanned =
    said_line replanned.head replanned.changes ∷ (old_run_lines numbers (unwrap_or replanned.plan [])
    ++ (tree_lines replanned.head replanned.tree ++ end_line ∷ []))

-- the document
abbrev pub document_of : List ℕ → Replanned → List ℕ
document_of numbers replanned = text_of_lines (lines_of numbers replanned)
