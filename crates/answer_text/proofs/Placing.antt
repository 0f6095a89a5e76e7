-- One line after a place: what was read before and this line are what is read then, within the limits.
use Rattle.std.proofs.Common.{◌≡◌, ℕ, ◌<◌, ◌≤◌, Bool, true, false, cond, eqb, ltb, List, [], ◌∷◌, ◌++◌, length, Some}
use Rattle.std.proofs.Common.{None, refl, sym, ap, subst, ◌∙◌, append_assoc, arith, inl, inr}
use Rattle.std.specs.List.{AllByRecursion}
use Rattle.std.specs.Str.{bytes_eq}
use Rattle.std.proofs.lemmas.Bool.Decides.{nat_tests}
use Rattle.std.proofs.lemmas.List.{length_push, map_push}
use Rattle.std.proofs.lemmas.List.Elements.{All-from_recursion}
use Rattle.rail_base.specs.declared.limits.TheConstants.{MAX_BRANCHINGS}
use Rattle.branch_tree.specs.declared.tree.Node.{Node}
use Rattle.answer_text.specs.declared.answer.Answer.{Answer}
use Rattle.rules.specs.declared.heads.Head.{Head}
use Rattle.answer_text.specs.Limits.{has_plan, IsHead, IsNode, IsRun, IsAnswerWithin}
use Rattle.answer_text.specs.Numbers.{◌>>=◌}
use Rattle.answer_text.specs.Pieces.{words_of}
use Rattle.answer_text.specs.ReadLines.{branchings_in, head_in, node_in, run_in}
use Rattle.answer_text.specs.ReadStates.{ReadState, at_branchings, at_head, at_last, at_nodes, at_runs, at_title}
use Rattle.answer_text.specs.ReadStates.{after_line, after_node_line, after_run_line, lines_before, most_runs}
use Rattle.answer_text.specs.Texts.{body_lines, end_line, head_line, node_line, node_lines, opening_lines, run_lines}
use Rattle.answer_text.specs.Texts.{title_line, tree_line, branchings_words, head_words, node_words, run_words}
use Rattle.answer_text.proofs.Leaves.{node_sound}
use Rattle.answer_text.proofs.Signs.{bind_some, branch, some_is}
use Rattle.answer_text.proofs.Sound.{branchings_sound, equal_bytes, head_sound, none_some, run_sound}
use Rattle.answer_text.proofs.Splitting.{spaced-words}
use Rattle.answer_text.proofs.Written.{run_lines-more}

-- what was read is within the limits, with at most so many nodes
abbrev pub IsReadState : ℕ → ReadState → Type 0
IsReadState most at_title = Unit {0}
IsReadState most at_head = Unit {0}
IsReadState most (at_branchings head) = IsHead head
IsReadState most (at_runs head branchings runs) = IsHead head × (branchings ≤ MAX_BRANCHINGS) × (length runs ≤ most_runs head) × AllByRecursion IsRun runs
IsReadState most (at_nodes head branchings runs nodes) =
    IsHead head × (branchings ≤ MAX_BRANCHINGS) × (length runs ≤ most_runs head) × AllByRecursion IsRun runs × (length nodes ≤ most) × AllByRecursion IsNode nodes
IsReadState most (at_last answer) = IsAnswerWithin most answer

-- a place that a line leads to
pub record Leads (most : ℕ) (place later : ReadState) (line : List ℕ) : Type 0 where
  pub lines : lines_before later ≡ lines_before place ++ line ∷ []
  pub within : IsReadState most later

AllByRecursion-push : {X : Type 0} → (P : X → Type 0) (xs : List X) (x : X) → AllByRecursion P xs → P x → AllByRecursion P (xs ++ x ∷ [])
AllByRecursion-push P [] x h p = (p, tt)
AllByRecursion-push P (first ∷ xs) x h p = (h.0, AllByRecursion-push P xs x h.1 p)

lt_from : (a b : ℕ) → ltb a b ≡ true → a < b
lt_from a b h = grind (arith, nat_tests)

title_leads : (most : ℕ) (later : ReadState) (line : List ℕ) → after_line most at_title line ≡ Some later → Leads most at_title later line
unfolding after_line
title_leads most later line e =
    elim (branch (bytes_eq line title_line) (Some at_head) None (Some later) e) [
      | inl here ↦ subst (λ (p : ReadState). Leads most at_title p line) (some_is at_head later here.1)
          (record { lines = ap (λ (l : List ℕ). l ∷ []) (sym (equal_bytes line title_line here.0)); within = tt })
      | inr other ↦ absurd (none_some later other.1)
    ]

head_leads : (most : ℕ) (later : ReadState) (line : List ℕ) → after_line most at_head line ≡ Some later → Leads most at_head later line
unfolding after_line
head_leads most later line e =
    let head = bind_some (head_in (words_of line)) (λ head. Some (at_branchings head)) later e in
    let sound = head_sound (words_of line) head.0 head.1 in
    subst (λ (p : ReadState). Leads most at_head p line) (some_is (at_branchings head.0) later head.2)
    (record { lines = ap (λ (l : List ℕ). title_line ∷ l ∷ []) (sym (spaced-words line (head_words head.0) sound.0)); within = sound.1 })

branchings_leads : (most : ℕ) (head : Head) (later : ReadState) (line : List ℕ) → IsHead head → after_line most (at_branchings head) line ≡ Some later → Leads most (at_branchings head) later line
unfolding after_line
branchings_leads most head later line within e =
    let number = bind_some (branchings_in (words_of line)) (λ number. Some (at_runs head number [])) later e in
    let sound = branchings_sound (words_of line) number.0 number.1 in
    subst (λ (p : ReadState). Leads most (at_branchings head) p line) (some_is (at_runs head number.0 []) later number.2)
    (record {
      lines = ap (λ (l : List ℕ). title_line ∷ head_line head ∷ l ∷ []) (sym (spaced-words line (branchings_words number.0) sound.0));
      within = (within, sound.1, omega arith, tt);
    })

runs_lead : (most : ℕ) (head : Head) (branchings : ℕ) (runs : List (List ℕ)) (later : ReadState) (line : List ℕ) → IsReadState most (at_runs head branchings runs)
    → after_line most (at_runs head branchings runs) line ≡ Some later → Leads most (at_runs head branchings runs) later line
unfolding after_line after_run_line
runs_lead most head branchings runs later line within e =
    elim (branch (bytes_eq line tree_line) (Some (at_nodes head branchings runs []))
    (cond (ltb (length runs) (most_runs head)) (run_in (length runs) (words_of line) >>= λ units. Some (at_runs head branchings (runs ++ units ∷ []))) None) (Some later) e) [
      | inl tree ↦ subst (λ (p : ReadState). Leads most (at_runs head branchings runs) p line) (some_is (at_nodes head branchings runs []) later tree.1)
          (record {
            lines = ap (λ (l : List ℕ). opening_lines head branchings ++ (run_lines 0 runs ++ l ∷ [])) (sym (equal_bytes line tree_line tree.0));
            within = (within.0, within.1, within.2, within.3, omega arith, tt);
          })
      | inr other ↦ elim (branch (ltb (length runs) (most_runs head)) (run_in (length runs) (words_of line) >>= λ units. Some (at_runs head branchings (runs ++ units ∷ []))) None (Some later) other.1) [
        | inl room ↦
            let units = bind_some (run_in (length runs) (words_of line)) (λ units. Some (at_runs head branchings (runs ++ units ∷ []))) later room.1 in
            let sound = run_sound (length runs) (words_of line) units.0 units.1 in
            subst (λ (p : ReadState). Leads most (at_runs head branchings runs) p line) (some_is (at_runs head branchings (runs ++ units.0 ∷ [])) later units.2)
            (record {
              lines = ap (λ (ls : List (List ℕ)). opening_lines head branchings ++ ls) (run_lines-more runs units.0 ∙ ap (λ (l : List ℕ). run_lines 0 runs ++ l ∷ []) (sym (spaced-words line (run_words (length runs) units.0) sound.0)));
              within = (within.0, within.1, omega (arith, length_push runs units.0, lt_from (length runs) (most_runs head) room.0), AllByRecursion-push IsRun runs units.0 within.3 sound.1);
            })
        | inr full ↦ absurd (none_some later full.1)
      ]
    ]

-- an answer that was read is within the limits
pub whole_within : (most : ℕ) (head : Head) (branchings : ℕ) (runs : List (List ℕ)) (nodes : List Node) → IsReadState most (at_nodes head branchings runs nodes) → eqb (length nodes) 0 ≡ false
    → IsAnswerWithin most (record { head = head; branchings = branchings; runs = runs; tree = nodes })
whole_within most head branchings runs nodes within some = record {
  head = within.0;
  branchings = within.1;
  planned = λ none. no_runs runs (omega (arith, within.2, none_left (has_plan head) none));
  few_runs = omega (arith, within.2, at_most (has_plan head));
  runs = All-from_recursion IsRun runs within.3;
  some = some_nodes (length nodes) some;
  few_nodes = within.4;
  nodes = All-from_recursion IsNode nodes within.5;
}
  where
    no_runs : (list : List (List ℕ)) → length list ≤ 0 → list ≡ []
    no_runs [] h = refl
    no_runs (first ∷ list) h = absurd (omega (arith, h))

    none_left : (b : Bool) → b ≡ false → cond {A = ℕ} b 400 0 ≡ 0
    none_left true e = absurd cc
    none_left false e = refl

    at_most : (b : Bool) → cond {A = ℕ} b 400 0 ≤ 400
    at_most true = omega arith
    at_most false = omega arith

    some_nodes : (n : ℕ) → eqb n 0 ≡ false → 1 ≤ n
    some_nodes n h = grind (arith, nat_tests)

nodes_lead : (most : ℕ) (head : Head) (branchings : ℕ) (runs : List (List ℕ)) (nodes : List Node) (later : ReadState) (line : List ℕ) → IsReadState most (at_nodes head branchings runs nodes)
    → after_line most (at_nodes head branchings runs nodes) line ≡ Some later → Leads most (at_nodes head branchings runs nodes) later line
unfolding after_line after_node_line
nodes_lead most head branchings runs nodes later line within e =
    let answer : Answer = record { head = head; branchings = branchings; runs = runs; tree = nodes } in
    elim (branch (bytes_eq line end_line) (cond (eqb (length nodes) 0) None (Some (at_last answer)))
    (cond (ltb (length nodes) most) (node_in (words_of line) >>= λ node. Some (at_nodes head branchings runs (nodes ++ node ∷ []))) None) (Some later) e) [
      | inl last ↦ elim (branch (eqb (length nodes) 0) None (Some (at_last answer)) (Some later) last.1) [
        | inl empty ↦ absurd (none_some later empty.1)
        | inr some ↦ subst (λ (p : ReadState). Leads most (at_nodes head branchings runs nodes) p line) (some_is (at_last answer) later some.1)
            (record { lines = ap (λ (l : List ℕ). body_lines head branchings runs nodes ++ l ∷ []) (sym (equal_bytes line end_line last.0)); within = whole_within most head branchings runs nodes within some.0 })
      ]
      | inr other ↦ elim (branch (ltb (length nodes) most) (node_in (words_of line) >>= λ node. Some (at_nodes head branchings runs (nodes ++ node ∷ []))) None (Some later) other.1) [
        | inl room ↦
            let node = bind_some (node_in (words_of line)) (λ node. Some (at_nodes head branchings runs (nodes ++ node ∷ []))) later room.1 in
            let sound = node_sound (words_of line) node.0 node.1 in
            subst (λ (p : ReadState). Leads most (at_nodes head branchings runs nodes) p line) (some_is (at_nodes head branchings runs (nodes ++ node.0 ∷ [])) later node.2)
            (record {
              lines = ap (λ (ls : List (List ℕ)). opening_lines head branchings ++ (run_lines 0 runs ++ (tree_line ∷ ls))) (map_push node_line nodes node.0 ∙ ap (λ (l : List ℕ). node_lines nodes ++ l ∷ []) (sym (spaced-words line (node_words node.0) sound.0)))
                  ∙ ap (λ (ls : List (List ℕ)). opening_lines head branchings ++ ls) (sym (append_assoc (run_lines 0 runs) (tree_line ∷ node_lines nodes) (line ∷ [])));
              within = (within.0, within.1, within.2, within.3, omega (arith, length_push nodes node.0, lt_from (length nodes) most room.0), AllByRecursion-push IsNode nodes node.0 within.5 sound.1);
            })
        | inr full ↦ absurd (none_some later full.1)
      ]
    ]

-- one line after a place
pub leads : (most : ℕ) (place later : ReadState) (line : List ℕ) → IsReadState most place → after_line most place line ≡ Some later → Leads most place later line
unfolding after_line
leads most at_title later line within e = title_leads most later line e
leads most at_head later line within e = head_leads most later line e
leads most (at_branchings head) later line within e = branchings_leads most head later line within e
leads most (at_runs head branchings runs) later line within e = runs_lead most head branchings runs later line within e
leads most (at_nodes head branchings runs nodes) later line within e = nodes_lead most head branchings runs nodes later line within e
leads most (at_last answer) later line within e = absurd (none_some later e)
