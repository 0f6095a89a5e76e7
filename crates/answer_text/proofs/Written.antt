-- Lines and words that are added one after the other.
use Rattle.std.proofs.Common.{◌≡◌, ℕ, suc, ◌+◌, ◌<◌, List, [], ◌∷◌, ◌++◌, length, get_or, take, map, Some, refl, sym}
use Rattle.std.proofs.Common.{ap, ◌∙◌, append_assoc, arith}
use Rattle.std.proofs.lemmas.List.{append-nil, take_more, map_more, length-take}
use Rattle.std.proofs.lemmas.Option.{get_or_from_slice_get, slice_get_within}
use Rattle.std.specs.List.{slice_get}
use Rattle.branch_tree.specs.declared.tree.Node.{Node}
use Rattle.answer_text.specs.Lines.{after_spaces, text_of_lines}
use Rattle.answer_text.specs.Texts.{node_line, node_lines, run_line, run_lines}

pub after_spaces-push : (words : List (List ℕ)) (word : List ℕ) → after_spaces (words ++ word ∷ []) ≡ after_spaces words ++ (32 ∷ word)
after_spaces-push [] word = ap (λ (text : List ℕ). 32 ∷ text) (append-nil word)
after_spaces-push (first ∷ words) word =
    ap (λ (text : List ℕ). 32 ∷ (first ++ text)) (after_spaces-push words word)
    ∙ ap (λ (text : List ℕ). 32 ∷ text) (sym (append_assoc first (after_spaces words) (32 ∷ word)))

pub text_of_lines-append : (front back : List (List ℕ)) → text_of_lines (front ++ back) ≡ text_of_lines front ++ text_of_lines back
text_of_lines-append [] back = refl
text_of_lines-append (line ∷ front) back =
    ap (λ (text : List ℕ). line ++ (10 ∷ text)) (text_of_lines-append front back)
    ∙ sym (append_assoc line (10 ∷ text_of_lines front) (text_of_lines back))

run_lines-push : (trip : ℕ) (runs : List (List ℕ)) (units : List ℕ) → run_lines trip (runs ++ units ∷ []) ≡ run_lines trip runs ++ run_line (length runs + trip) units ∷ []
run_lines-push trip [] units = ap (λ (k : ℕ). run_line k units ∷ []) (omega arith)
run_lines-push trip (first ∷ runs) units =
    let place : length runs + suc trip ≡ suc (length runs) + trip = omega arith in
    ap (λ (lines : List (List ℕ)). run_line trip first ∷ lines) (run_lines-push (suc trip) runs units
    ∙ ap (λ (k : ℕ). run_lines (suc trip) runs ++ run_line k units ∷ []) place)

-- one more run at the end
pub run_lines-more : (runs : List (List ℕ)) (units : List ℕ) → run_lines 0 (runs ++ units ∷ []) ≡ run_lines 0 runs ++ run_line (length runs) units ∷ []
run_lines-more runs units =
    let place : length runs + 0 ≡ length runs = omega arith in
    run_lines-push 0 runs units ∙ ap (λ (k : ℕ). run_lines 0 runs ++ run_line k units ∷ []) place

-- lines after what was written before
after_lines : (start text new : List ℕ) (lines : List (List ℕ)) (line : List ℕ) → text ≡ start ++ text_of_lines lines → new ≡ text ++ text_of_lines (line ∷ [])
    → new ≡ start ++ text_of_lines (lines ++ line ∷ [])
after_lines start text new lines line before now =
    now ∙ ap (λ (front : List ℕ). front ++ text_of_lines (line ∷ [])) before ∙ append_assoc start (text_of_lines lines) (text_of_lines (line ∷ []))
    ∙ ap (λ (back : List ℕ). start ++ back) (sym (text_of_lines-append lines (line ∷ [])))

pub run_written : (start text new : List ℕ) (runs : List (List ℕ)) (trip : ℕ) (units : List ℕ) → trip < length runs → units ≡ get_or runs trip units
    → text ≡ start ++ text_of_lines (run_lines 0 (take trip runs)) → new ≡ text ++ text_of_lines (run_line trip units ∷ [])
    → new ≡ start ++ text_of_lines (run_lines 0 (take (trip + 1) runs))
run_written start text new runs trip units within here before now =
    let count : length (take trip runs) ≡ trip = omega (arith, length-take trip runs) in
    let more : run_lines 0 (take (trip + 1) runs) ≡ run_lines 0 (take trip runs) ++ run_line trip units ∷ [] =
    ap (run_lines 0) (take_more runs trip units within) ∙ ap (λ (u : List ℕ). run_lines 0 (take trip runs ++ u ∷ [])) (sym here)
    ∙ run_lines-more (take trip runs) units ∙ ap (λ (k : ℕ). run_lines 0 (take trip runs) ++ run_line k units ∷ []) count in
    after_lines start text new (run_lines 0 (take trip runs)) (run_line trip units) before now ∙ ap (λ (lines : List (List ℕ)). start ++ text_of_lines lines) (sym more)

pub node_written : (start text new : List ℕ) (nodes : List Node) (place : ℕ) (node : Node) → slice_get nodes place ≡ Some node
    → text ≡ start ++ text_of_lines (node_lines (take place nodes)) → new ≡ text ++ text_of_lines (node_line node ∷ [])
    → new ≡ start ++ text_of_lines (node_lines (take (place + 1) nodes))
node_written start text new nodes place node here before now =
    let more : node_lines (take (place + 1) nodes) ≡ node_lines (take place nodes) ++ node_line node ∷ [] =
    map_more node_line nodes place node (slice_get_within nodes place node here)
    ∙ ap (λ (n : Node). node_lines (take place nodes) ++ node_line n ∷ []) (get_or_from_slice_get nodes place node node here) in
    after_lines start text new (node_lines (take place nodes)) (node_line node) before now ∙ ap (λ (lines : List (List ℕ)). start ++ text_of_lines lines) (sym more)

-- one more word of a line
pub word_written : {X : Type 0} → (start text new front : List ℕ) (word_of : X → List ℕ) (xs : List X) (place : ℕ) (x d : X) → place < length xs → x ≡ get_or xs place d
    → text ≡ start ++ (front ++ after_spaces (map word_of (take place xs))) → new ≡ text ++ (32 ∷ word_of x)
    → new ≡ start ++ (front ++ after_spaces (map word_of (take (place + 1) xs)))
word_written {X = X} start text new front word_of xs place x d within here before now =
    let more : after_spaces (map word_of (take (place + 1) xs)) ≡ after_spaces (map word_of (take place xs)) ++ (32 ∷ word_of x) =
    ap after_spaces (map_more word_of xs place d within) ∙ ap (λ (y : X). after_spaces (map word_of (take place xs) ++ word_of y ∷ [])) (sym here)
    ∙ after_spaces-push (map word_of (take place xs)) (word_of x) in
    now ∙ ap (λ (t : List ℕ). t ++ (32 ∷ word_of x)) before ∙ append_assoc start (front ++ after_spaces (map word_of (take place xs))) (32 ∷ word_of x)
    ∙ ap (λ (t : List ℕ). start ++ t) (append_assoc front (after_spaces (map word_of (take place xs))) (32 ∷ word_of x) ∙ ap (λ (t : List ℕ). front ++ t) (sym more))

-- lines after lines
pub lines_written : (text new : List ℕ) (lines more : List (List ℕ)) → text ≡ text_of_lines lines → new ≡ text ++ text_of_lines more → new ≡ text_of_lines (lines ++ more)
lines_written text new lines more before now =
    now ∙ ap (λ (front : List ℕ). front ++ text_of_lines more) before ∙ sym (text_of_lines-append lines more)

-- the lines of an answer, as they are added
pub in_order : (opening runs nodes : List (List ℕ)) (tree last : List ℕ) → ((((opening ++ runs) ++ tree ∷ []) ++ nodes) ++ last ∷ []) ≡ (opening ++ (runs ++ (tree ∷ nodes))) ++ last ∷ []
in_order opening runs nodes tree last =
    ap (λ (lines : List (List ℕ)). lines ++ last ∷ []) (append_assoc (opening ++ runs) (tree ∷ []) nodes ∙ append_assoc opening runs (tree ∷ nodes))
