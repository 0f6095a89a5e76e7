-- What a line at a place makes of the rest of a document, as the loops over lines see it.
use Rattle.std.proofs.Common.{◌≡◌, ℕ, suc, ◌+◌, ◌<◌, ◌≤◌, Bool, true, false, cond, eqb, ltb, List, [], ◌∷◌, ◌++◌}
use Rattle.std.proofs.Common.{length, Option, Some, None, Result, Ok, Err, refl, sym, ap, subst, ◌∙◌, arith}
use Rattle.std.specs.Str.{bytes_eq}
use Rattle.std.proofs.lemmas.Bool.Decides.{nat_tests}
use Rattle.std.proofs.lemmas.List.{length-append}
use Rattle.rail_base.proofs.Answers.{Unless-from}
use Rattle.rail_base.specs.Answers.{Gives}
use Rattle.branch_tree.specs.declared.tree.Node.{Node}
use Rattle.answer_text.specs.declared.answer.Answer.{Answer}
use Rattle.rules.specs.declared.heads.Head.{Head}
use Rattle.answer_text.specs.declared.refusal.AnswerRefusal.{AnswerRefusal}
use Rattle.answer_text.specs.declared.refusal.AnswerRefusal.TheVariants.{BadLine, Trailing, TooManyNodes}
use Rattle.answer_text.specs.Grammar.{is_memory}
use Rattle.answer_text.specs.Pieces.{pieces, words_of}
use Rattle.answer_text.specs.ReadLines.{node_in, run_in, head_in, branchings_in}
use Rattle.answer_text.specs.ReadStates.{ReadState, at_branchings, at_head, at_last, at_nodes, at_runs, at_title}
use Rattle.answer_text.specs.ReadStates.{after_line, after_node_line, after_run_line, line_in, line_number, most_runs}
use Rattle.answer_text.specs.ReadStates.{reading, whole}
use Rattle.answer_text.specs.Texts.{body_lines, end_line, node_lines, run_lines, title_line, tree_line}
use Rattle.answer_text.proofs.Cutting.{not_blank, some_pieces}
use Rattle.answer_text.proofs.Steps.{step_cut, step_on, step_wrong, step_over}

-- a refusal that the reading gives
pub fails : (refusal : AnswerRefusal) (reads : Result Answer AnswerRefusal) → reads ≡ Err refusal → Gives is_memory (Err refusal) reads
fails refusal reads e = Unless-from (is_memory refusal) e

-- an answer or a refusal that the reading gives
pub gives : (said reads : Result Answer AnswerRefusal) → reads ≡ said → Gives is_memory said reads
gives (Ok answer) reads e = e
gives (Err refusal) reads e = fails refusal reads e

-- ---- numbers of lines

length_runs : (trip : ℕ) (runs : List (List ℕ)) → length (run_lines trip runs) ≡ length runs
length_runs trip [] = refl
length_runs trip (units ∷ runs) = ap suc (length_runs (suc trip) runs)

length_nodes : (nodes : List Node) → length (node_lines nodes) ≡ length nodes
length_nodes [] = refl
length_nodes (node ∷ nodes) = ap suc (length_nodes nodes)

pub run_number : (head : Head) (branchings : ℕ) (runs : List (List ℕ)) → line_number (at_runs head branchings runs) ≡ 4 + length runs
run_number head branchings runs = omega (arith, length_runs 0 runs)

body_length : (head : Head) (branchings : ℕ) (runs : List (List ℕ)) (nodes : List Node) → length (body_lines head branchings runs nodes) ≡ 4 + length runs + length nodes
body_length head branchings runs nodes = omega (arith, length-append (run_lines 0 runs) (tree_line ∷ node_lines nodes), length_runs 0 runs, length_nodes nodes)

pub node_number : (head : Head) (branchings : ℕ) (runs : List (List ℕ)) (nodes : List Node) → line_number (at_nodes head branchings runs nodes) ≡ 5 + length runs + length nodes
node_number head branchings runs nodes = omega (arith, body_length head branchings runs nodes)

pub last_number : (answer : Answer) → line_number (at_last answer) ≡ 6 + length answer.runs + length answer.tree
last_number answer =
    omega (arith, length-append (body_lines answer.head answer.branchings answer.runs answer.tree) (end_line ∷ []), body_length answer.head answer.branchings answer.runs answer.tree)

at_number : (number line : ℕ) (rest : List (List ℕ)) (r : Result (List ℕ × List (List ℕ)) AnswerRefusal) → line ≡ number → line_in number rest ≡ r → line_in line rest ≡ r
at_number number line rest r e cut = ap (λ (n : ℕ). line_in n rest) e ∙ cut

-- ---- the last line

lt_from : (a b : ℕ) → a < b → ltb a b ≡ true
lt_from a b h = grind (arith, nat_tests)

lt_not : (a b : ℕ) → b ≤ a → ltb a b ≡ false
lt_not a b h = grind (arith, nat_tests)

positive : (n : ℕ) → eqb (suc n) 0 ≡ false
positive n = grind (arith, nat_tests)

pub after_last : (answer : Answer) (bytes : List ℕ) → reading (at_last answer) (pieces 10 bytes) ≡ cond (eqb (length bytes) 0) (Ok answer) (Err (Trailing (line_number (at_last answer))))
unfolding reading after_line
after_last answer [] = refl
after_last answer (byte ∷ bytes) = rw (positive (length bytes)) (behind (pieces 10 (byte ∷ bytes)) (λ h. not_blank 10 byte bytes h) (some 10 byte bytes))
  where
    some : (mark byte : ℕ) (bytes : List ℕ) → pieces mark (byte ∷ bytes) ≡ [] → ⊥
    some mark byte bytes h = omega (arith, ap length h, some_pieces mark (byte ∷ bytes))

    behind : (rest : List (List ℕ)) → (rest ≡ [] ∷ [] → ⊥) → (rest ≡ [] → ⊥) → reading (at_last answer) rest ≡ Err (Trailing (line_number (at_last answer)))
    behind [] other some = absurd (some refl)
    behind ([] ∷ []) other some = absurd (other refl)
    behind ((first ∷ left) ∷ []) other some = refl
    behind (line ∷ next ∷ rest) other some = refl

pub node_end : (head : Head) (branchings : ℕ) (runs : List (List ℕ)) (nodes : List Node) (rest : List (List ℕ)) (line after : List ℕ) (number : ℕ) → number ≡ 5 + length runs + length nodes
    → line_in number rest ≡ Ok (line, pieces 10 after) → bytes_eq line end_line ≡ true
    → reading (at_nodes head branchings runs nodes) rest ≡ whole (record { head = head; branchings = branchings; runs = runs; tree = nodes }) number after
unfolding after_line after_node_line
node_end head branchings runs [] rest line after number count cut ends =
    step_wrong (at_nodes head branchings runs []) rest (pieces 10 after) line number tt (count ∙ sym (node_number head branchings runs []))
    (at_number number (line_number (at_nodes head branchings runs [])) rest (Ok (line, pieces 10 after)) (node_number head branchings runs [] ∙ sym count) cut) (rw ends refl) (rw ends refl)
node_end head branchings runs (node ∷ nodes) rest line after number count cut ends =
    let answer : Answer = record { head = head; branchings = branchings; runs = runs; tree = node ∷ nodes } in
    let place : ReadState = at_nodes head branchings runs (node ∷ nodes) in
    let on = step_on place (at_last answer) rest (pieces 10 after) line tt (at_number number (line_number place) rest (Ok (line, pieces 10 after)) (node_number head branchings runs (node ∷ nodes) ∙ sym count) cut)
    (rw (ends, positive (length nodes)) refl) in
    let last : line_number (at_last answer) ≡ number + 1 = omega (arith, last_number answer, count) in
    on ∙ after_last answer after ∙ rw (last, positive (length nodes)) refl

-- ---- node lines

pub node_cut : (head : Head) (branchings : ℕ) (runs : List (List ℕ)) (nodes : List Node) (rest : List (List ℕ)) (number : ℕ) (refusal : AnswerRefusal) → number ≡ 5 + length runs + length nodes
    → line_in number rest ≡ Err refusal → reading (at_nodes head branchings runs nodes) rest ≡ Err refusal
node_cut head branchings runs nodes rest number refusal count cut =
    step_cut (at_nodes head branchings runs nodes) rest refusal tt (at_number number (line_number (at_nodes head branchings runs nodes)) rest (Err refusal) (node_number head branchings runs nodes ∙ sym count) cut)

no_node : (most : ℕ) (head : Head) (branchings : ℕ) (runs : List (List ℕ)) (nodes : List Node) (line : List ℕ) → bytes_eq line end_line ≡ false → node_in (words_of line) ≡ None
    → after_line most (at_nodes head branchings runs nodes) line ≡ None
unfolding after_line after_node_line
no_node most head branchings runs nodes line other none = rw (other, none) (neither (ltb (length nodes) most))
  where
    neither : (b : Bool) → cond {A = Option ReadState} b None None ≡ None
    neither true = refl
    neither false = refl

pub node_wrong : (head : Head) (branchings : ℕ) (runs : List (List ℕ)) (nodes : List Node) (rest after : List (List ℕ)) (line : List ℕ) (number : ℕ) → number ≡ 5 + length runs + length nodes
    → line_in number rest ≡ Ok (line, after) → bytes_eq line end_line ≡ false → node_in (words_of line) ≡ None → reading (at_nodes head branchings runs nodes) rest ≡ Err (BadLine number)
node_wrong head branchings runs nodes rest after line number count cut other none =
    step_wrong (at_nodes head branchings runs nodes) rest after line number tt (count ∙ sym (node_number head branchings runs nodes))
    (at_number number (line_number (at_nodes head branchings runs nodes)) rest (Ok (line, after)) (node_number head branchings runs nodes ∙ sym count) cut)
    (no_node 8001 head branchings runs nodes line other none) (no_node 8002 head branchings runs nodes line other none)

pub node_over : (head : Head) (branchings : ℕ) (runs : List (List ℕ)) (nodes : List Node) (rest after : List (List ℕ)) (line : List ℕ) (number : ℕ) (node : Node) → number ≡ 5 + length runs + length nodes
    → line_in number rest ≡ Ok (line, after) → bytes_eq line end_line ≡ false → node_in (words_of line) ≡ Some node → length nodes ≡ 8001 → reading (at_nodes head branchings runs nodes) rest ≡ Err TooManyNodes
unfolding after_line after_node_line
node_over head branchings runs nodes rest after line number node count cut other some full =
    step_over (at_nodes head branchings runs nodes) (at_nodes head branchings runs (nodes ++ node ∷ [])) rest after line tt
    (at_number number (line_number (at_nodes head branchings runs nodes)) rest (Ok (line, after)) (node_number head branchings runs nodes ∙ sym count) cut)
    (rw (other, lt_not (length nodes) 8001 (omega (arith, full))) refl) (rw (other, lt_from (length nodes) 8002 (omega (arith, full)), some) refl)

pub node_on : (head : Head) (branchings : ℕ) (runs : List (List ℕ)) (nodes : List Node) (rest after : List (List ℕ)) (line : List ℕ) (number : ℕ) (node : Node) → number ≡ 5 + length runs + length nodes
    → line_in number rest ≡ Ok (line, after) → bytes_eq line end_line ≡ false → node_in (words_of line) ≡ Some node → length nodes < 8001
    → reading (at_nodes head branchings runs nodes) rest ≡ reading (at_nodes head branchings runs (nodes ++ node ∷ [])) after
unfolding after_line after_node_line
node_on head branchings runs nodes rest after line number node count cut other some room =
    step_on (at_nodes head branchings runs nodes) (at_nodes head branchings runs (nodes ++ node ∷ [])) rest after line tt
    (at_number number (line_number (at_nodes head branchings runs nodes)) rest (Ok (line, after)) (node_number head branchings runs nodes ∙ sym count) cut)
    (rw (other, lt_from (length nodes) 8001 room, some) refl)

-- ---- run lines

pub run_cut : (head : Head) (branchings : ℕ) (runs : List (List ℕ)) (rest : List (List ℕ)) (number : ℕ) (refusal : AnswerRefusal) → number ≡ 4 + length runs
    → line_in number rest ≡ Err refusal → reading (at_runs head branchings runs) rest ≡ Err refusal
run_cut head branchings runs rest number refusal count cut =
    step_cut (at_runs head branchings runs) rest refusal tt (at_number number (line_number (at_runs head branchings runs)) rest (Err refusal) (run_number head branchings runs ∙ sym count) cut)

pub run_end : (head : Head) (branchings : ℕ) (runs : List (List ℕ)) (rest after : List (List ℕ)) (line : List ℕ) (number : ℕ) → number ≡ 4 + length runs
    → line_in number rest ≡ Ok (line, after) → bytes_eq line tree_line ≡ true → reading (at_runs head branchings runs) rest ≡ reading (at_nodes head branchings runs []) after
unfolding after_line after_run_line
run_end head branchings runs rest after line number count cut here =
    step_on (at_runs head branchings runs) (at_nodes head branchings runs []) rest after line tt
    (at_number number (line_number (at_runs head branchings runs)) rest (Ok (line, after)) (run_number head branchings runs ∙ sym count) cut) (rw here refl)

pub run_over : (head : Head) (branchings : ℕ) (runs : List (List ℕ)) (rest after : List (List ℕ)) (line : List ℕ) (number : ℕ) → number ≡ 4 + length runs
    → line_in number rest ≡ Ok (line, after) → bytes_eq line tree_line ≡ false → length runs ≡ most_runs head → reading (at_runs head branchings runs) rest ≡ Err (BadLine number)
unfolding after_line after_run_line
run_over head branchings runs rest after line number count cut other full =
    step_wrong (at_runs head branchings runs) rest after line number tt (count ∙ sym (run_number head branchings runs))
    (at_number number (line_number (at_runs head branchings runs)) rest (Ok (line, after)) (run_number head branchings runs ∙ sym count) cut)
    (rw (other, lt_not (length runs) (most_runs head) (omega (arith, full))) refl) (rw (other, lt_not (length runs) (most_runs head) (omega (arith, full))) refl)

pub run_wrong : (head : Head) (branchings : ℕ) (runs : List (List ℕ)) (rest after : List (List ℕ)) (line : List ℕ) (number : ℕ) → number ≡ 4 + length runs
    → line_in number rest ≡ Ok (line, after) → bytes_eq line tree_line ≡ false → run_in (length runs) (words_of line) ≡ None → reading (at_runs head branchings runs) rest ≡ Err (BadLine number)
unfolding after_line after_run_line
run_wrong head branchings runs rest after line number count cut other none =
    step_wrong (at_runs head branchings runs) rest after line number tt (count ∙ sym (run_number head branchings runs))
    (at_number number (line_number (at_runs head branchings runs)) rest (Ok (line, after)) (run_number head branchings runs ∙ sym count) cut)
    (rw (other, none) (neither (ltb (length runs) (most_runs head)))) (rw (other, none) (neither (ltb (length runs) (most_runs head))))
  where
    neither : (b : Bool) → cond {A = Option ReadState} b None None ≡ None
    neither true = refl
    neither false = refl

pub run_on : (head : Head) (branchings : ℕ) (runs : List (List ℕ)) (rest after : List (List ℕ)) (line : List ℕ) (number : ℕ) (units : List ℕ) → number ≡ 4 + length runs
    → line_in number rest ≡ Ok (line, after) → bytes_eq line tree_line ≡ false → run_in (length runs) (words_of line) ≡ Some units → length runs < most_runs head
    → reading (at_runs head branchings runs) rest ≡ reading (at_runs head branchings (runs ++ units ∷ [])) after
unfolding after_line after_run_line
run_on head branchings runs rest after line number units count cut other some room =
    step_on (at_runs head branchings runs) (at_runs head branchings (runs ++ units ∷ [])) rest after line tt
    (at_number number (line_number (at_runs head branchings runs)) rest (Ok (line, after)) (run_number head branchings runs ∙ sym count) cut)
    (rw (other, lt_from (length runs) (most_runs head) room, some) refl)

-- ---- the lines before

pub title_on : (rest after : List (List ℕ)) (line : List ℕ) → line_in 1 rest ≡ Ok (line, after) → bytes_eq line title_line ≡ true → reading at_title rest ≡ reading at_head after
unfolding after_line
title_on rest after line cut here = step_on at_title at_head rest after line tt cut (rw here refl)

pub title_wrong : (rest after : List (List ℕ)) (line : List ℕ) → line_in 1 rest ≡ Ok (line, after) → bytes_eq line title_line ≡ false → reading at_title rest ≡ Err (BadLine 1)
unfolding after_line
title_wrong rest after line cut other = step_wrong at_title rest after line 1 tt refl cut (rw other refl) (rw other refl)

pub title_cut : (rest : List (List ℕ)) (refusal : AnswerRefusal) → line_in 1 rest ≡ Err refusal → reading at_title rest ≡ Err refusal
title_cut rest refusal cut = step_cut at_title rest refusal tt cut

pub head_on : (rest after : List (List ℕ)) (line : List ℕ) (head : Head) → line_in 2 rest ≡ Ok (line, after) → head_in (words_of line) ≡ Some head → reading at_head rest ≡ reading (at_branchings head) after
unfolding after_line
head_on rest after line head cut some = step_on at_head (at_branchings head) rest after line tt cut (rw some refl)

pub head_wrong : (rest after : List (List ℕ)) (line : List ℕ) → line_in 2 rest ≡ Ok (line, after) → head_in (words_of line) ≡ None → reading at_head rest ≡ Err (BadLine 2)
unfolding after_line
head_wrong rest after line cut none = step_wrong at_head rest after line 2 tt refl cut (rw none refl) (rw none refl)

pub head_cut : (rest : List (List ℕ)) (refusal : AnswerRefusal) → line_in 2 rest ≡ Err refusal → reading at_head rest ≡ Err refusal
head_cut rest refusal cut = step_cut at_head rest refusal tt cut

pub branchings_on : (head : Head) (rest after : List (List ℕ)) (line : List ℕ) (number : ℕ) → line_in 3 rest ≡ Ok (line, after) → branchings_in (words_of line) ≡ Some number
    → reading (at_branchings head) rest ≡ reading (at_runs head number []) after
unfolding after_line
branchings_on head rest after line number cut some = step_on (at_branchings head) (at_runs head number []) rest after line tt cut (rw some refl)

pub branchings_wrong : (head : Head) (rest after : List (List ℕ)) (line : List ℕ) → line_in 3 rest ≡ Ok (line, after) → branchings_in (words_of line) ≡ None → reading (at_branchings head) rest ≡ Err (BadLine 3)
unfolding after_line
branchings_wrong head rest after line cut none = step_wrong (at_branchings head) rest after line 3 tt refl cut (rw none refl) (rw none refl)

pub branchings_cut : (head : Head) (rest : List (List ℕ)) (refusal : AnswerRefusal) → line_in 3 rest ≡ Err refusal → reading (at_branchings head) rest ≡ Err refusal
branchings_cut head rest refusal cut = step_cut (at_branchings head) rest refusal tt cut

-- what is read after a step is what was to be read
pub moved : (said reads whole : Result Answer AnswerRefusal) → whole ≡ reads → Gives is_memory said reads → Gives is_memory said whole
moved said reads whole e g = subst (λ (r : Result Answer AnswerRefusal). Gives is_memory said r) (sym e) g
