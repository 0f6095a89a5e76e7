-- The lines that a check writes, and the texts of what it finds.
use Rattle.std.specs.Prelude.{ℕ, List, ◌++◌, codes, Option, Some, None}
use Rattle.std.specs.Fmt.{decimal, signed_decimal}
use Rattle.rail_base.specs.declared.numbers.Money.{Money}
use Rattle.rules.specs.declared.heads.Head.{Head}
use Rattle.answer_text.specs.Texts.{head_line}
use Rattle.cert_check.specs.declared.verdict.Reason.{Reason}
use Rattle.cert_check.specs.declared.verdict.Reason.TheVariants.{TreeShape, BranchingsDiffer, NotProper}
use Rattle.cert_check.specs.declared.verdict.Reason.TheVariants.{MultiplierIndex, BoundDiffers, RayNotPositive}
use Rattle.cert_check.specs.declared.verdict.Reason.TheVariants.{NotEmpty, PicksFail, CostDiffers, LeafBelowCost}
use Rattle.cert_check.specs.declared.verdict.Reason.TheVariants.{CostLeafLeft, LeastBoundDiffers}
use Rattle.answer_check.specs.declared.checking.AnswerVerdict.{AnswerVerdict}
use Rattle.answer_check.specs.declared.checking.AnswerVerdict.TheVariants.{Valid, RunsDiffer, UnknownUnit, Stops, Claim}
use Rattle.run_documents.specs.Lines.{fault_text, line_end}

-- what was found, or that there is nothing
abbrev pub found_text : Option Money → List ℕ
found_text None = codes "nothing"
found_text (Some money) = signed_decimal money.0

-- what is said of a node by its number
abbrev pub node_text : ℕ → List ℕ → List ℕ
node_text node said = codes "node " ++ (decimal node ++ said)

abbrev pub branchings_text : ℕ → ℕ → List ℕ
branchings_text said found = decimal said ++ (codes " branchings said, " ++ (decimal found ++ codes " found"))

abbrev pub bound_text : ℕ → Money → Option Money → List ℕ
bound_text node said found =
    node_text node (codes " says " ++ (signed_decimal said.0 ++ (codes ", found " ++ found_text found)))

abbrev pub ray_text : ℕ → Option Money → List ℕ
ray_text node found = codes "ray of node " ++ (decimal node ++ (codes " is " ++ found_text found))

abbrev pub cost_text : Money → Money → List ℕ
cost_text said found =
    codes "cost " ++ (signed_decimal said.0 ++ (codes " said, " ++ (signed_decimal found.0 ++ codes " found")))

abbrev pub below_text : ℕ → Money → Money → List ℕ
below_text node bound cost =
    node_text node (codes " has bound " ++ (signed_decimal bound.0 ++ (codes " below " ++ signed_decimal cost.0)))

abbrev pub least_text : Money → Option Money → List ℕ
least_text said found =
    codes "bound " ++ (signed_decimal said.0 ++ (codes " said, " ++ (found_text found ++ codes " found")))

-- why a tree does not prove what is said
abbrev pub reason_text : Reason → List ℕ
reason_text (TreeShape node) = codes "tree breaks at node " ++ decimal node
reason_text (BranchingsDiffer said found) = branchings_text said found
reason_text (NotProper node) = node_text node (codes " cuts nothing")
reason_text (MultiplierIndex node) = node_text node (codes " has a wrong multiplier")
reason_text (BoundDiffers node said found) = bound_text node said found
reason_text (RayNotPositive node found) = ray_text node found
reason_text (NotEmpty node) = node_text node (codes " is not empty")
reason_text PicksFail = codes "plan fails"
reason_text (CostDiffers said found) = cost_text said found
reason_text (LeafBelowCost node bound cost) = below_text node bound cost
reason_text (CostLeafLeft node) = node_text node (codes " is a cost leaf")
reason_text (LeastBoundDiffers said found) = least_text said found

abbrev pub runs_differ_text : ℕ → ℕ → List ℕ
runs_differ_text said found = decimal said ++ (codes " runs for " ++ (decimal found ++ codes " trips"))

abbrev pub unknown_unit_text : ℕ → List ℕ
unknown_unit_text trip = codes "run " ++ (decimal trip ++ codes " names an unknown unit")

abbrev pub invalid_line : List ℕ → List ℕ
invalid_line text = codes "invalid: " ++ (text ++ line_end)

-- the line of a check: what a valid answer says, or the first thing that is wrong
abbrev pub check_line : Head → AnswerVerdict → List ℕ
check_line head Valid = codes "valid " ++ (head_line head ++ line_end)
check_line head (RunsDiffer said found) = invalid_line (runs_differ_text said found)
check_line head (UnknownUnit trip) = invalid_line (unknown_unit_text trip)
check_line head (Stops fault) = invalid_line (fault_text fault)
check_line head (Claim reason) = invalid_line (reason_text reason)
