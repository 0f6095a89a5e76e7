-- How long the text of an answer is at most.
use Rattle.std.proofs.Common.{◌≡◌, ℕ, suc, ◌+◌, ◌*◌, ◌^◌, ◌<◌, ◌≤◌, ℤ, pos, negsuc, List, [], ◌∷◌, ◌++◌, length, map}
use Rattle.std.proofs.Common.{arith, ap, refl, ◌∙◌}
use Rattle.std.specs.Prelude.{codes, unsigned_abs}
use Rattle.std.specs.Fmt.{decimal, signed_decimal}
use Rattle.std.specs.List.{AllByRecursion}
use Rattle.std.proofs.lemmas.Fmt.{length-decimal-le_wide}
use Rattle.std.proofs.lemmas.List.{length-append}
use Rattle.std.proofs.lemmas.List.Elements.{recursion_from_All}
use Rattle.branch_tree.specs.declared.cuts.Cut.{Cut}
use Rattle.branch_tree.specs.declared.cuts.Cut.TheVariants.{Only, AtMost}
use Rattle.branch_tree.specs.declared.multipliers.Entry.{Entry}
use Rattle.branch_tree.specs.declared.tree.Node.{Node}
use Rattle.branch_tree.specs.declared.tree.Node.TheVariants.{Branch, CostLeaf, RayLeaf, EmptyLeaf}
use Rattle.branch_tree.specs.Trees.{branchings_of}
use Rattle.branch_tree.proofs.Covering.{leaves_exceed_branches}
use Rattle.rules.specs.declared.heads.Head.{Head}
use Rattle.rules.specs.declared.heads.Head.TheVariants.{Optimal, Infeasible, Bounded, BoundedPlan}
use Rattle.answer_text.specs.Laws.{TextsFitFiles}
use Rattle.answer_text.specs.Limits.{AreEntries, IsAmount, IsCut, IsHead, IsNode, IsRun}
use Rattle.answer_text.specs.Lines.{after_spaces, spaced, text_of_lines}
use Rattle.answer_text.specs.Texts.{branchings_line, cut_words, end_line, entries_words, entry_word, head_line}
use Rattle.answer_text.specs.Texts.{head_words, node_line, node_lines, opening_lines, run_line, run_lines, run_words}
use Rattle.answer_text.specs.Texts.{title_line, tree_line}
use Rattle.answer_text.proofs.Written.{text_of_lines-append}

-- ---- words

number_size : (digits n : ℕ) → 0 < digits → n < 10 ^ digits → digits ≤ 21 → n < 10 ^ 21 → length (decimal n) ≤ digits
number_size digits n some small few wide = length-decimal-le_wide digits n some small (omega (arith, wide))

signed_size : (digits : ℕ) (z : ℤ) → 0 < digits → unsigned_abs z < 10 ^ digits → digits ≤ 21 → unsigned_abs z < 10 ^ 21
    → length (signed_decimal z) ≤ digits + 1
signed_size digits (pos n) some small few wide = omega (arith, number_size digits n some small few wide)
signed_size digits (negsuc n) some small few wide = omega (arith, number_size digits (suc n) some small few wide)

-- a word of a line without entries
abbrev IsShort : List ℕ → Type 0
IsShort word = length word ≤ 22

short_number : (n : ℕ) → n < 10 ^ 21 → IsShort (decimal n)
short_number n small = omega (arith, number_size 21 n (omega arith) small (omega arith) small)

short_amount : (z : ℤ) → IsAmount z → IsShort (signed_decimal z)
short_amount z within = signed_size 21 z (omega arith) (omega (arith, within)) (omega arith) (omega (arith, within))

entry_size : (entry : Entry) → entry.index ≤ 999999 → unsigned_abs entry.value ≤ 1000000000000 → length (entry_word entry) ≤ 21
entry_size entry p q =
    let index = number_size 6 entry.index (omega arith) (omega (arith, p)) (omega arith) (omega (arith, p)) in
    let value = signed_size 13 entry.value (omega arith) (omega (arith, q)) (omega arith) (omega (arith, q)) in
    omega (arith, length-append (decimal entry.index) (58 ∷ signed_decimal entry.value), index, value)

-- ---- lines

after_spaces_size : (most : ℕ) (words : List (List ℕ)) → AllByRecursion (λ word. length word ≤ most) words
    → length (after_spaces words) ≤ (most + 1) * length words
after_spaces_size most [] h = omega arith
after_spaces_size most (word ∷ words) h =
    let rest : length (after_spaces words) ≤ (most + 1) * length words = after_spaces_size most words h.1 in
    let here : length word ≤ most = h.0 in
    omega (arith, length-append word (after_spaces words), rest, here, one_more (most + 1) (length words))
  where
    one_more : (size count : ℕ) → size * suc count ≡ size + size * count
    one_more size count = omega arith

-- words with spaces between take no more than words that each have one before
spaced_size : (words : List (List ℕ)) → length (spaced words) ≤ length (after_spaces words)
spaced_size [] = omega arith
spaced_size (word ∷ words) = omega arith

-- at most eight short words
line_size : (words : List (List ℕ)) → AllByRecursion IsShort words → length words ≤ 8 → length (spaced words) ≤ 184
line_size words short few =
    omega (arith, spaced_size words, after_spaces_size 22 words short, scaled (length words) few)
  where
    scaled : (count : ℕ) → count ≤ 8 → (22 + 1) * count ≤ 184
    scaled count few = omega (arith, few)

head_size : (head : Head) → IsHead head → length (head_line head) ≤ 184
head_size (Optimal cost) h = line_size (head_words (Optimal cost)) (omega arith, (short_amount cost.0 h, tt)) (omega arith)
head_size Infeasible h = line_size (head_words Infeasible) (omega arith, tt) (omega arith)
head_size (Bounded bound) h = line_size (head_words (Bounded bound)) (omega arith, (short_amount bound.0 h, tt)) (omega arith)
head_size (BoundedPlan bound cost) h =
    line_size (head_words (BoundedPlan bound cost)) (omega arith, (short_amount bound.0 h.0, (omega arith, (short_amount cost.0 h.1, tt)))) (omega arith)

branchings_size : (branchings : ℕ) → branchings ≤ 4000 → length (branchings_line branchings) ≤ 184
branchings_size branchings h =
    line_size (codes "branchings" ∷ decimal branchings ∷ []) (omega arith, (short_number branchings (omega (arith, h)), tt)) (omega arith)

short_units : (units : List ℕ) → AllByRecursion (λ unit. unit < 2000) units → AllByRecursion IsShort (map decimal units)
short_units [] h = tt
short_units (unit ∷ units) h = (short_number unit (omega (arith, h.0)), short_units units h.1)

map_size : {X : Type 0} → (word_of : X → List ℕ) (xs : List X) → length (map word_of xs) ≡ length xs
map_size word_of [] = refl
map_size word_of (x ∷ xs) = ap suc (map_size word_of xs)

run_size : (trip : ℕ) (units : List ℕ) → trip < 400 → IsRun units → length (run_line trip units) ≤ 184
run_size trip units within run =
    line_size (run_words trip units)
    (omega arith, (short_number trip (omega (arith, within)), short_units units (recursion_from_All (λ unit. unit < 2000) units run.numbers)))
    (omega (arith, run.few, map_size decimal units))

cut_size : (cut : Cut) → IsCut cut → length (node_line (Branch cut)) ≤ 184
cut_size (Only trip comp) h =
    line_size (cut_words (Only trip comp)) (omega arith, (short_number trip (omega (arith, h.0)), (short_number comp (omega (arith, h.1)), tt))) (omega arith)
cut_size (AtMost trip unit_type count) h =
    line_size (cut_words (AtMost trip unit_type count))
    (omega arith, (short_number trip (omega (arith, h.0)), (short_number unit_type (omega (arith, h.1)), (short_number count (omega (arith, h.2)), tt))))
    (omega arith)

each_entry : (entries : List Entry) → AllByRecursion (λ entry. entry.index ≤ 999999) entries
    → AllByRecursion (λ entry. unsigned_abs entry.value ≤ 1000000000000) entries
    → AllByRecursion (λ word. length word ≤ 21) (map entry_word entries)
each_entry [] p q = tt
each_entry (entry ∷ entries) p q = (entry_size entry p.0 q.0, each_entry entries p.1 q.1)

entries_size : (entries : List Entry) → AreEntries entries → length (after_spaces (entries_words entries)) ≤ 22023
entries_size entries h =
    let each : length (after_spaces (map entry_word entries)) ≤ (21 + 1) * length (map entry_word entries) =
    after_spaces_size 21 (map entry_word entries) (each_entry entries
    (recursion_from_All (λ entry. entry.index ≤ 999999) entries h.indices)
    (recursion_from_All (λ entry. unsigned_abs entry.value ≤ 1000000000000) entries h.multipliers.within)) in
    let count : length (decimal (length entries)) ≤ 22 = short_number (length entries) (omega (arith, h.multipliers.few)) in
    omega (
      arith,
      length-append (decimal (length entries)) (after_spaces (map entry_word entries)),
      each,
      count,
      scaled (length (map entry_word entries)) (omega (arith, map_size entry_word entries, h.multipliers.few)),
    )
  where
    scaled : (count : ℕ) → count ≤ 1000 → (21 + 1) * count ≤ 22000
    scaled count few = omega (arith, few)

cost_size : (bound : ℤ) (entries : List Entry) → IsAmount bound → AreEntries entries
    → length (spaced (codes "cost" ∷ signed_decimal bound ∷ entries_words entries)) ≤ 22050
cost_size bound entries within h =
    let amount : length (signed_decimal bound) ≤ 22 = short_amount bound within in
    omega (arith, length-append (signed_decimal bound) (after_spaces (entries_words entries)), amount, entries_size entries h)

ray_size : (entries : List Entry) → AreEntries entries → length (spaced (codes "ray" ∷ entries_words entries)) ≤ 22050
ray_size entries h = omega (arith, entries_size entries h)

-- ---- all lines

-- how many bytes lines take, each with its line feed
abbrev size_of : List (List ℕ) → ℕ
size_of lines = length (text_of_lines lines)

size-cons : (line : List ℕ) (lines : List (List ℕ)) → size_of (line ∷ lines) ≡ length line + 1 + size_of lines
size-cons line lines = omega (arith, length-append line (10 ∷ text_of_lines lines))

size-append : (front back : List (List ℕ)) → size_of (front ++ back) ≡ size_of front + size_of back
size-append front back = ap length (text_of_lines-append front back) ∙ length-append (text_of_lines front) (text_of_lines back)

runs_size : (trip : ℕ) (runs : List (List ℕ)) → trip + length runs ≤ 400 → AllByRecursion IsRun runs
    → size_of (run_lines trip runs) ≤ 200 * length runs
runs_size trip [] within h = omega arith
runs_size trip (units ∷ runs) within h =
    let rest = runs_size (suc trip) runs (omega (arith, within)) h.1 in
    let here = run_size trip units (omega (arith, within)) h.0 in
    omega (arith, size-cons (run_line trip units) (run_lines (suc trip) runs), rest, here)

-- a leaf's line may be long, and a branch's is short
node_size : (node : Node) (nodes : List Node) → IsNode node
    → length (node_line node) + 1 + 22000 * branchings_of (node ∷ nodes) ≤ 22200 + 22000 * branchings_of nodes
node_size (Branch cut) nodes h = omega (arith, cut_size cut h)
node_size (CostLeaf bound multipliers) nodes h = omega (arith, cost_size bound.0 multipliers h.0 h.1)
node_size (RayLeaf multipliers) nodes h = omega (arith, ray_size multipliers h)
node_size EmptyLeaf nodes h = omega arith

nodes_size : (nodes : List Node) → AllByRecursion IsNode nodes
    → size_of (node_lines nodes) + 22000 * branchings_of nodes ≤ 22200 * length nodes
nodes_size [] h = omega arith
nodes_size (node ∷ nodes) h =
    omega (arith, size-cons (node_line node) (node_lines nodes), node_size node nodes h.0, nodes_size nodes h.1)

pub texts_fit_files : TextsFitFiles
texts_fit_files answer within whole =
    let runs = run_lines 0 answer.runs in
    let nodes = node_lines answer.tree in
    let opening = opening_lines answer.head answer.branchings in
    let of_runs : size_of runs ≤ 200 * length answer.runs =
    runs_size 0 answer.runs (omega (arith, within.few_runs)) (recursion_from_All IsRun answer.runs within.runs) in
    let of_nodes = nodes_size answer.tree (recursion_from_All IsNode answer.tree within.nodes) in
    let count = leaves_exceed_branches answer.tree whole in
    let of_opening : size_of opening ≤ 600 =
    omega (
      arith,
      size-cons title_line (head_line answer.head ∷ branchings_line answer.branchings ∷ []),
      size-cons (head_line answer.head) (branchings_line answer.branchings ∷ []),
      size-cons (branchings_line answer.branchings) [],
      head_size answer.head within.head,
      branchings_size answer.branchings within.branchings,
    ) in
    let of_body : size_of (opening ++ (runs ++ (tree_line ∷ nodes))) ≡ size_of opening + (size_of runs + (5 + size_of nodes)) =
    omega (arith, size-append opening (runs ++ (tree_line ∷ nodes)), size-append runs (tree_line ∷ nodes), size-cons tree_line nodes) in
    let of_all = size-append (opening ++ (runs ++ (tree_line ∷ nodes))) (end_line ∷ []) in
    let of_end : size_of (end_line ∷ []) ≡ 4 = refl in
    omega (arith, of_all, of_body, of_end, of_opening, of_runs, of_nodes, count, within.few_runs, within.few_nodes)
