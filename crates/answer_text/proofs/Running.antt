-- Many lines after a place: the lines of an answer lead from the title to the whole answer.
use Rattle.std.proofs.Common.{◌≡◌, ℕ, suc, ◌+◌, ◌<◌, ◌≤◌, true, false, eqb, ltb, List, [], ◌∷◌, ◌++◌, length, Option}
use Rattle.std.proofs.Common.{Some, None, refl, sym, ap, ◌∙◌, append_assoc, arith, inl, inr}
use Rattle.std.specs.List.{AllByRecursion}
use Rattle.std.specs.Str.{bytes_eq}
use Rattle.std.proofs.lemmas.Bool.Decides.{nat_tests}
use Rattle.std.proofs.lemmas.List.{append-nil, length_push}
use Rattle.std.proofs.lemmas.List.Elements.{recursion_from_All}
use Rattle.branch_tree.specs.declared.cuts.Cut.TheVariants.{Only, AtMost}
use Rattle.branch_tree.specs.declared.tree.Node.{Node}
use Rattle.branch_tree.specs.declared.tree.Node.TheVariants.{Branch, CostLeaf, RayLeaf, EmptyLeaf}
use Rattle.answer_text.specs.declared.answer.Answer.{Answer}
use Rattle.rules.specs.declared.heads.Head.{Head}
use Rattle.rules.specs.declared.heads.Head.TheVariants.{Optimal, Infeasible, Bounded, BoundedPlan}
use Rattle.answer_text.specs.Limits.{has_plan, IsHead, IsNode, IsRun, IsAnswerWithin}
use Rattle.answer_text.specs.Lines.{spaced}
use Rattle.answer_text.specs.Numbers.{◌>>=◌}
use Rattle.answer_text.specs.Pieces.{words_of}
use Rattle.answer_text.specs.ReadLines.{branchings_in, head_in, node_in, run_in}
use Rattle.answer_text.specs.ReadStates.{ReadState, at_last, at_nodes, at_runs, at_title, after_line, after_node_line}
use Rattle.answer_text.specs.ReadStates.{after_run_line, most_runs}
use Rattle.answer_text.specs.Texts.{body_lines, branchings_line, branchings_words, end_line, head_line, head_words}
use Rattle.answer_text.specs.Texts.{lines_of, node_line, node_lines, node_words, opening_lines, run_line, run_lines}
use Rattle.answer_text.specs.Texts.{run_words, tree_line}
use Rattle.answer_text.proofs.Again.{branchings_again, head_again, node_again, run_again}
use Rattle.answer_text.proofs.Clean.{branchings_lacks, head_lacks, node_lacks, run_lacks}
use Rattle.answer_text.proofs.Splitting.{all_lack, both, lacks, spaced-lacks, words-spaced}

-- the place after lines, where they fit
abbrev pub steps : ℕ → ReadState → List (List ℕ) → Option ReadState
steps most place [] = Some place
steps most place (line ∷ lines) = after_line most place line >>= λ later. steps most later lines

pub steps-append : (most : ℕ) (place : ReadState) (front back : List (List ℕ)) → steps most place (front ++ back) ≡ (steps most place front >>= λ later. steps most later back)
steps-append most place [] back = refl
steps-append most place (line ∷ front) back = go (after_line most place line) (λ later. steps-append most later front back)
  where
    go : (found : Option ReadState) → ((later : ReadState) → steps most later (front ++ back) ≡ (steps most later front >>= λ last. steps most last back)) → (found >>= λ later. steps most later (front ++ back)) ≡ ((found >>= λ later. steps most later front) >>= λ later. steps most later back)
    go None rest = refl
    go (Some later) rest = rest later

-- ---- words of lines

found_words : (words : List (List ℕ)) → 1 ≤ length words → all_lack 32 words ≡ true → words_of (spaced words) ≡ words
found_words [] some h = absurd (omega (arith, some))
found_words (word ∷ words) some h = let parts = both (lacks 32 word) (all_lack 32 words) h in words-spaced word words parts.0 parts.1

some_head : (head : Head) → 1 ≤ length (head_words head)
some_head (Optimal cost) = omega arith
some_head Infeasible = omega arith
some_head (Bounded bound) = omega arith
some_head (BoundedPlan bound cost) = omega arith

some_node : (node : Node) → 1 ≤ length (node_words node)
some_node (Branch (Only trip comp)) = omega arith
some_node (Branch (AtMost trip unit_type count)) = omega arith
some_node (CostLeaf bound multipliers) = omega arith
some_node (RayLeaf multipliers) = omega arith
some_node EmptyLeaf = omega arith

head_found : (head : Head) → IsHead head → head_in (words_of (head_line head)) ≡ Some head
head_found head h = ap head_in (found_words (head_words head) (some_head head) (head_lacks 32 head (inr refl) h)) ∙ head_again head h

branchings_found : (number : ℕ) → number ≤ 4000 → branchings_in (words_of (branchings_line number)) ≡ Some number
branchings_found number h = ap branchings_in (found_words (branchings_words number) (omega arith) (branchings_lacks 32 number (inr refl) h)) ∙ branchings_again number h

run_found : (trip : ℕ) (units : List ℕ) → trip < 400 → IsRun units → run_in trip (words_of (run_line trip units)) ≡ Some units
run_found trip units lt h = ap (run_in trip) (found_words (run_words trip units) (omega arith) (run_lacks 32 trip units (inr refl) lt h)) ∙ run_again trip units lt h

node_found : (node : Node) → IsNode node → node_in (words_of (node_line node)) ≡ Some node
node_found node h = ap node_in (found_words (node_words node) (some_node node) (node_lacks 32 node (inr refl) h)) ∙ node_again node h

-- a run line is not the line `tree`, and a node line not the line `end`
run_other : (trip : ℕ) (units : List ℕ) → bytes_eq (run_line trip units) tree_line ≡ false
run_other trip units = refl

node_other : (node : Node) → bytes_eq (node_line node) end_line ≡ false
node_other (Branch (Only trip comp)) = refl
node_other (Branch (AtMost trip unit_type count)) = refl
node_other (CostLeaf bound multipliers) = refl
node_other (RayLeaf multipliers) = refl
node_other EmptyLeaf = refl

-- ---- the lines of an answer, one after the other

lt_to : (a b : ℕ) → a < b → ltb a b ≡ true
lt_to a b h = grind (arith, nat_tests)

node_step : (most : ℕ) (head : Head) (branchings : ℕ) (runs : List (List ℕ)) (nodes : List Node) (node : Node) → length nodes < most → IsNode node
    → after_line most (at_nodes head branchings runs nodes) (node_line node) ≡ Some (at_nodes head branchings runs (nodes ++ node ∷ []))
unfolding after_line after_node_line
node_step most head branchings runs nodes node room h = rw (node_other node, lt_to (length nodes) most room, node_found node h) refl

end_step : (most : ℕ) (head : Head) (branchings : ℕ) (runs : List (List ℕ)) (nodes : List Node) → 1 ≤ length nodes
    → after_line most (at_nodes head branchings runs nodes) end_line ≡ Some (at_last (record { head = head; branchings = branchings; runs = runs; tree = nodes }))
unfolding after_line after_node_line
end_step most head branchings runs nodes some = rw (positive (length nodes) some) refl
  where
    positive : (n : ℕ) → 1 ≤ n → eqb n 0 ≡ false
    positive n h = grind (arith, nat_tests)

nodes_steps : (most : ℕ) (head : Head) (branchings : ℕ) (runs : List (List ℕ)) (nodes more : List Node) → length nodes + length more ≤ most → 1 ≤ length nodes + length more → AllByRecursion IsNode more
    → steps most (at_nodes head branchings runs nodes) (node_lines more ++ end_line ∷ []) ≡ Some (at_last (record { head = head; branchings = branchings; runs = runs; tree = nodes ++ more }))
nodes_steps most head branchings runs nodes [] few some h =
    rw (end_step most head branchings runs nodes (omega (arith, some)))
    (ap (λ (ns : List Node). Some (at_last (record { head = head; branchings = branchings; runs = runs; tree = ns }))) (sym (append-nil nodes)))
nodes_steps most head branchings runs nodes (node ∷ more) few some h =
    rw (node_step most head branchings runs nodes node (omega (arith, few)) h.0)
    (nodes_steps most head branchings runs (nodes ++ node ∷ []) more (omega (arith, few, length_push nodes node)) (omega (arith, length_push nodes node)) h.1
    ∙ ap (λ (ns : List Node). Some (at_last (record { head = head; branchings = branchings; runs = runs; tree = ns }))) (append_assoc nodes (node ∷ []) more))

run_step : (most : ℕ) (head : Head) (branchings : ℕ) (runs : List (List ℕ)) (units : List ℕ) → length runs < most_runs head → length runs < 400 → IsRun units
    → after_line most (at_runs head branchings runs) (run_line (length runs) units) ≡ Some (at_runs head branchings (runs ++ units ∷ []))
unfolding after_line after_run_line
run_step most head branchings runs units room lt h = rw (run_other (length runs) units, lt_to (length runs) (most_runs head) room, run_found (length runs) units lt h) refl

tree_step : (most : ℕ) (head : Head) (branchings : ℕ) (runs : List (List ℕ)) → after_line most (at_runs head branchings runs) tree_line ≡ Some (at_nodes head branchings runs [])
unfolding after_line after_run_line
tree_step most head branchings runs = refl

runs_steps : (most : ℕ) (head : Head) (branchings : ℕ) (runs more : List (List ℕ)) (rest : List (List ℕ)) (trip : ℕ) → trip ≡ length runs → length runs + length more ≤ most_runs head → length runs + length more ≤ 400
    → AllByRecursion IsRun more → steps most (at_runs head branchings runs) (run_lines trip more ++ rest) ≡ steps most (at_runs head branchings (runs ++ more)) rest
runs_steps most head branchings runs [] rest trip at few room h = ap (λ (rs : List (List ℕ)). steps most (at_runs head branchings rs) rest) (sym (append-nil runs))
runs_steps most head branchings runs (units ∷ more) rest trip at few room h =
    let one : after_line most (at_runs head branchings runs) (run_line trip units) ≡ Some (at_runs head branchings (runs ++ units ∷ [])) =
    ap (λ (n : ℕ). after_line most (at_runs head branchings runs) (run_line n units)) at ∙ run_step most head branchings runs units (omega (arith, few)) (omega (arith, room)) h.0 in
    rw one
    (runs_steps most head branchings (runs ++ units ∷ []) more rest (suc trip) (omega (arith, at, length_push runs units)) (omega (arith, few, length_push runs units)) (omega (arith, room, length_push runs units)) h.1
    ∙ ap (λ (rs : List (List ℕ)). steps most (at_runs head branchings rs) rest) (append_assoc runs (units ∷ []) more))

opening_steps : (most : ℕ) (head : Head) (branchings : ℕ) (rest : List (List ℕ)) → IsHead head → branchings ≤ 4000
    → steps most at_title (opening_lines head branchings ++ rest) ≡ steps most (at_runs head branchings []) rest
unfolding after_line
opening_steps most head branchings rest h few = rw (head_found head h, branchings_found branchings few) refl

planned_few : (head : Head) (runs : List (List ℕ)) → (has_plan head ≡ false → runs ≡ []) → length runs ≤ 400 → length runs ≤ most_runs head
planned_few (Optimal cost) runs planned few = few
planned_few Infeasible runs planned few = omega (arith, ap length (planned refl))
planned_few (Bounded bound) runs planned few = omega (arith, ap length (planned refl))
planned_few (BoundedPlan bound cost) runs planned few = few

-- the lines of an answer lead to the answer
pub answer_steps : (most : ℕ) (answer : Answer) → IsAnswerWithin most answer → steps most at_title (lines_of answer) ≡ Some (at_last answer)
answer_steps most answer within =
    let head = answer.head in
    let branchings = answer.branchings in
    let runs = answer.runs in
    let nodes = answer.tree in
    let after_runs : List (List ℕ) = tree_line ∷ (node_lines nodes ++ end_line ∷ []) in
    let grouped : lines_of answer ≡ opening_lines head branchings ++ (run_lines 0 runs ++ after_runs) =
    append_assoc (opening_lines head branchings) (run_lines 0 runs ++ (tree_line ∷ node_lines nodes)) (end_line ∷ [])
    ∙ ap (λ (ls : List (List ℕ)). opening_lines head branchings ++ ls) (append_assoc (run_lines 0 runs) (tree_line ∷ node_lines nodes) (end_line ∷ [])) in
    ap (steps most at_title) grouped
    ∙ opening_steps most head branchings (run_lines 0 runs ++ after_runs) within.head within.branchings
    ∙ runs_steps most head branchings [] runs after_runs 0 refl (omega (arith, planned_few head runs within.planned within.few_runs)) (omega (arith, within.few_runs)) (recursion_from_All IsRun runs within.runs)
    ∙ rw (tree_step most head branchings runs) (nodes_steps most head branchings runs [] nodes (omega (arith, within.few_nodes)) (omega (arith, within.some)) (recursion_from_All IsNode nodes within.nodes))

-- ---- the lines have no line feeds

runs_lack : (trip : ℕ) (runs : List (List ℕ)) → trip + length runs ≤ 400 → AllByRecursion IsRun runs → all_lack 10 (run_lines trip runs) ≡ true
runs_lack trip [] few h = refl
runs_lack trip (units ∷ runs) few h = rw (spaced-lacks (run_words trip units) (run_lacks 10 trip units (inl refl) (omega (arith, few)) h.0), runs_lack (suc trip) runs (omega (arith, few)) h.1) refl

nodes_lack : (nodes : List Node) → AllByRecursion IsNode nodes → all_lack 10 (node_lines nodes) ≡ true
nodes_lack [] h = refl
nodes_lack (node ∷ nodes) h = rw (spaced-lacks (node_words node) (node_lacks 10 node (inl refl) h.0), nodes_lack nodes h.1) refl

pub all_lack-append : (mark : ℕ) (front back : List (List ℕ)) → all_lack mark front ≡ true → all_lack mark back ≡ true → all_lack mark (front ++ back) ≡ true
all_lack-append mark [] back p q = q
all_lack-append mark (text ∷ front) back p q =
    let parts = both (lacks mark text) (all_lack mark front) p in
    rw (parts.0, all_lack-append mark front back parts.1 q) refl

pub answer_lacks : (most : ℕ) (answer : Answer) → IsAnswerWithin most answer → all_lack 10 (lines_of answer) ≡ true
answer_lacks most answer within =
    let opening : all_lack 10 (opening_lines answer.head answer.branchings) ≡ true =
    rw (spaced-lacks (head_words answer.head) (head_lacks 10 answer.head (inl refl) within.head), spaced-lacks (branchings_words answer.branchings) (branchings_lacks 10 answer.branchings (inl refl) within.branchings)) refl in
    let runs = runs_lack 0 answer.runs (omega (arith, within.few_runs)) (recursion_from_All IsRun answer.runs within.runs) in
    let nodes = nodes_lack answer.tree (recursion_from_All IsNode answer.tree within.nodes) in
    all_lack-append 10 (body_lines answer.head answer.branchings answer.runs answer.tree) (end_line ∷ [])
    (all_lack-append 10 (opening_lines answer.head answer.branchings) (run_lines 0 answer.runs ++ (tree_line ∷ node_lines answer.tree)) opening
    (all_lack-append 10 (run_lines 0 answer.runs) (tree_line ∷ node_lines answer.tree) runs (rw nodes refl))) refl
