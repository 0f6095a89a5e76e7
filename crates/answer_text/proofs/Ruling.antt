-- What reading makes of a document: its answer has this text, and a refusal names the first wrong line.
use Rattle.std.proofs.Common.{◌≡◌, ◌≢◌, ℕ, suc, ◌≤◌, Bool, true, false, ◌&&◌, cond, eqb, ltb, List, [], ◌∷◌, ◌++◌}
use Rattle.std.proofs.Common.{length, Option, Some, None, Result, Ok, Err, refl, sym, ap, subst, ◌∙◌, append_assoc}
use Rattle.std.proofs.Common.{arith}
use Rattle.std.specs.Prelude.{not, is_some, IfErr, IfOk}
use Rattle.std.specs.Str.{bytes_eq}
use Rattle.std.proofs.lemmas.Bool.Decides.{nat_tests}
use Rattle.std.proofs.lemmas.List.{append-nil}
use Rattle.rail_base.specs.Answers.{Gives, Unless}
use Rattle.branch_tree.specs.declared.tree.Node.TheVariants.{EmptyLeaf}
use Rattle.answer_text.specs.declared.answer.Answer.{Answer}
use Rattle.rules.specs.declared.heads.Head.{Head}
use Rattle.rules.specs.declared.heads.Head.TheVariants.{Infeasible}
use Rattle.answer_text.specs.declared.refusal.AnswerRefusal.{AnswerRefusal}
use Rattle.answer_text.specs.declared.refusal.AnswerRefusal.TheVariants.{BadLine, MissingEnd, Trailing, TooManyNodes}
use Rattle.answer_text.specs.declared.refusal.AnswerRefusal.TheVariants.{NoMemory}
use Rattle.answer_text.specs.Grammar.{is_memory, AreUnfinished, Begin, GoOn, IsBadLine, IsAnswerRefusal, IsText}
use Rattle.answer_text.specs.Limits.{IsAnswerWithin}
use Rattle.answer_text.specs.Lines.{text_of_lines}
use Rattle.answer_text.specs.Numbers.{◌>>=◌}
use Rattle.answer_text.specs.Pieces.{pieces, with_byte, words_of}
use Rattle.answer_text.specs.ReadLines.{node_in}
use Rattle.answer_text.specs.ReadStates.{ReadState, at_branchings, at_head, at_last, at_nodes, at_runs, at_title}
use Rattle.answer_text.specs.ReadStates.{after_line, after_node_line, ending_at, fault_at, going_on, line_number}
use Rattle.answer_text.specs.ReadStates.{lines_before, reading}
use Rattle.answer_text.specs.Texts.{branchings_line, end_line, head_line, lines_of, node_line, opening_lines, run_lines}
use Rattle.answer_text.specs.Texts.{text_of, title_line, tree_line}
use Rattle.answer_text.proofs.Cutting.{some_pieces}
use Rattle.answer_text.proofs.Placing.{IsReadState, leads, whole_within}
use Rattle.answer_text.proofs.Running.{answer_lacks, answer_steps, steps, steps-append}
use Rattle.answer_text.proofs.Signs.{bind_some}
use Rattle.answer_text.proofs.Sound.{none_some}
use Rattle.answer_text.proofs.Splitting.{all_lack, both, joined, joined-pieces, lacks, pieces-lines}
use Rattle.answer_text.proofs.Steps.{IsOpen}
use Rattle.answer_text.proofs.Written.{text_of_lines-append}

-- ---- one node more changes nothing else

wider : (n : ℕ) → ltb n 8001 ≡ true → ltb n 8002 ≡ true
wider n h = grind (arith, nat_tests)

room_more : (b c : Bool) (x : Option ReadState) (later : ReadState) → (b ≡ true → c ≡ true) → cond b x None ≡ Some later → cond c x None ≡ Some later
room_more true true x later f e = e
room_more true false x later f e = absurd (no (f refl))
  where
    no : false ≡ true → ⊥
    no h = absurd cc
room_more false c x later f e = absurd (none_some later e)

end_more : (b : Bool) (x y z : Option ReadState) (later : ReadState) → (y ≡ Some later → z ≡ Some later) → cond b x y ≡ Some later → cond b x z ≡ Some later
end_more true x y z later f e = e
end_more false x y z later f e = f e

pub more_room : (place later : ReadState) (line : List ℕ) → after_line 8001 place line ≡ Some later → after_line 8002 place line ≡ Some later
unfolding after_line after_node_line
more_room at_title later line e = e
more_room at_head later line e = e
more_room (at_branchings head) later line e = e
more_room (at_runs head branchings runs) later line e = e
more_room (at_nodes head branchings runs nodes) later line e =
    let whole : Option ReadState = cond (eqb (length nodes) 0) None (Some (at_last (record { head = head; branchings = branchings; runs = runs; tree = nodes }))) in
    let on : Option ReadState = node_in (words_of line) >>= λ node. Some (at_nodes head branchings runs (nodes ++ node ∷ [])) in
    end_more (bytes_eq line end_line) whole (cond (ltb (length nodes) 8001) on None) (cond (ltb (length nodes) 8002) on None) later (room_more (ltb (length nodes) 8001) (ltb (length nodes) 8002) on later (wider (length nodes))) e
more_room (at_last answer) later line e = e

-- ---- places that are reached

pub record Reached (place : ReadState) : Type 0 where
  pub within : IsReadState 8001 place
  pub by : steps 8001 at_title (lines_before place) ≡ Some place
  pub by_more : steps 8002 at_title (lines_before place) ≡ Some place

one_more : (most : ℕ) (place later : ReadState) (lines : List (List ℕ)) (line : List ℕ) → steps most at_title lines ≡ Some place → after_line most place line ≡ Some later → steps most at_title (lines ++ line ∷ []) ≡ Some later
one_more most place later lines line before fits =
    steps-append most at_title lines (line ∷ []) ∙ ap (λ (found : Option ReadState). found >>= λ p. steps most p (line ∷ [])) before ∙ ap (λ (found : Option ReadState). found >>= λ p. Some p) fits

pub reached_next : (place later : ReadState) (line : List ℕ) → Reached place → after_line 8001 place line ≡ Some later → Reached later
reached_next place later line reached fits =
    let led = leads 8001 place later line reached.within fits in
    record {
      within = led.within;
      by = ap (steps 8001 at_title) led.lines ∙ one_more 8001 place later (lines_before place) line reached.by fits;
      by_more = ap (steps 8002 at_title) led.lines ∙ one_more 8002 place later (lines_before place) line reached.by_more (more_room place later line fits);
    }

-- ---- each place but the last is before more lines of some answer

-- the place before nodes, and one empty leaf after it
with_leaf : (most : ℕ) (head : Head) (branchings : ℕ) (runs : List (List ℕ)) → 1 ≤ most → IsReadState most (at_runs head branchings runs)
    → IsAnswerWithin most (record { head = head; branchings = branchings; runs = runs; tree = EmptyLeaf ∷ [] })
with_leaf most head branchings runs some within =
    whole_within most head branchings runs (EmptyLeaf ∷ []) (within.0, within.1, within.2, within.3, some, (tt, tt)) refl

before_tree : (opening runs : List (List ℕ)) (tree node last : List ℕ) → (opening ++ (runs ++ (tree ∷ node ∷ []))) ++ last ∷ [] ≡ (opening ++ runs) ++ tree ∷ node ∷ last ∷ []
before_tree opening runs tree node last =
    append_assoc opening (runs ++ (tree ∷ node ∷ [])) (last ∷ []) ∙ ap (λ (ls : List (List ℕ)). opening ++ ls) (append_assoc runs (tree ∷ node ∷ []) (last ∷ []))
    ∙ sym (append_assoc opening runs (tree ∷ node ∷ last ∷ []))

before_node : (opening runs : List (List ℕ)) (tree node last : List ℕ) → (opening ++ (runs ++ (tree ∷ node ∷ []))) ++ last ∷ [] ≡ (opening ++ (runs ++ (tree ∷ []))) ++ node ∷ last ∷ []
before_node opening runs tree node last =
    before_tree opening runs tree node last
    ∙ ap (λ (ls : List (List ℕ)). ls) (append_assoc opening runs (tree ∷ node ∷ last ∷ [])
    ∙ ap (λ (ls : List (List ℕ)). opening ++ ls) (sym (append_assoc runs (tree ∷ []) (node ∷ last ∷ []))) ∙ sym (append_assoc opening (runs ++ (tree ∷ [])) (node ∷ last ∷ [])))

Finishes : ℕ → ReadState → Type 0
Finishes most place = (answer : Answer) × (next : List ℕ) × (rest : List (List ℕ)) × IsAnswerWithin most answer × (lines_of answer ≡ lines_before place ++ next ∷ rest)

finish : (most : ℕ) (place : ReadState) → 1 ≤ most → IsReadState most place → IsOpen place → Finishes most place
unfolding Finishes
finish most at_title some within open_here = (
  record { head = Infeasible; branchings = 0; runs = []; tree = EmptyLeaf ∷ [] },
  title_line,
  head_line Infeasible ∷ branchings_line 0 ∷ tree_line ∷ node_line EmptyLeaf ∷ end_line ∷ [],
  with_leaf most Infeasible 0 [] some (tt, omega arith, omega arith, tt),
  refl,
)
finish most at_head some within open_here = (
  record { head = Infeasible; branchings = 0; runs = []; tree = EmptyLeaf ∷ [] },
  head_line Infeasible,
  branchings_line 0 ∷ tree_line ∷ node_line EmptyLeaf ∷ end_line ∷ [],
  with_leaf most Infeasible 0 [] some (tt, omega arith, omega arith, tt),
  refl,
)
finish most (at_branchings head) some within open_here = (
  record { head = head; branchings = 0; runs = []; tree = EmptyLeaf ∷ [] },
  branchings_line 0,
  tree_line ∷ node_line EmptyLeaf ∷ end_line ∷ [],
  with_leaf most head 0 [] some (within, omega arith, omega arith, tt),
  refl,
)
finish most (at_runs head branchings runs) some within open_here = (
  record { head = head; branchings = branchings; runs = runs; tree = EmptyLeaf ∷ [] },
  tree_line,
  node_line EmptyLeaf ∷ end_line ∷ [],
  with_leaf most head branchings runs some within,
  before_tree (opening_lines head branchings) (run_lines 0 runs) tree_line (node_line EmptyLeaf) end_line,
)
finish most (at_nodes head branchings runs []) some within open_here = (
  record { head = head; branchings = branchings; runs = runs; tree = EmptyLeaf ∷ [] },
  node_line EmptyLeaf,
  end_line ∷ [],
  with_leaf most head branchings runs some (within.0, within.1, within.2, within.3),
  before_node (opening_lines head branchings) (run_lines 0 runs) tree_line (node_line EmptyLeaf) end_line,
)
finish most (at_nodes head branchings runs (node ∷ nodes)) some within open_here =
    (record { head = head; branchings = branchings; runs = runs; tree = node ∷ nodes }, end_line, [], whole_within most head branchings runs (node ∷ nodes) within (positive (length nodes)), refl)
  where
    positive : (n : ℕ) → eqb (suc n) 0 ≡ false
    positive n = grind (arith, nat_tests)
finish most (at_last answer) some within open_here = absurd open_here

is_open : (place : ReadState) → IsOpen place → Reached place → AreUnfinished (lines_before place)
unfolding Finishes
is_open place open_here reached = finish 8001 place (omega arith) reached.within open_here

pub begin : (most : ℕ) (place : ReadState) → 1 ≤ most → IsReadState most place → Begin most (lines_before place)
unfolding Finishes
begin most at_title some within = let f = finish most at_title some within tt in (f.0, f.1 ∷ f.2, f.3, f.4)
begin most at_head some within = let f = finish most at_head some within tt in (f.0, f.1 ∷ f.2, f.3, f.4)
begin most (at_branchings head) some within = let f = finish most (at_branchings head) some within tt in (f.0, f.1 ∷ f.2, f.3, f.4)
begin most (at_runs head branchings runs) some within = let f = finish most (at_runs head branchings runs) some within tt in (f.0, f.1 ∷ f.2, f.3, f.4)
begin most (at_nodes head branchings runs nodes) some within = let f = finish most (at_nodes head branchings runs nodes) some within tt in (f.0, f.1 ∷ f.2, f.3, f.4)
begin most (at_last answer) some within = (answer, [], within, sym (append-nil (lines_of answer)))

-- ---- one line is cut from bytes in one way

lacks_not : (mark : ℕ) (front back : List ℕ) → lacks mark (front ++ mark ∷ back) ≡ true → ⊥
lacks_not mark [] back h = absurd (self mark (lacks mark back) h)
  where
    self : (mark : ℕ) (rest : Bool) → (not (eqb mark mark) && rest) ≡ true → ⊥
    self mark rest h = grind (arith, nat_tests)
lacks_not mark (byte ∷ front) back h = lacks_not mark front back (both (not (eqb byte mark)) (lacks mark (front ++ mark ∷ back)) h).1

same_line : (line other rest tail : List ℕ) → lacks 10 line ≡ true → lacks 10 other ≡ true → line ++ 10 ∷ rest ≡ other ++ 10 ∷ tail → line ≡ other
same_line [] [] rest tail p q e = refl
same_line [] (byte ∷ other) rest tail p q e = absurd (first byte (lacks 10 other) (cc) q)
  where
    first : (byte : ℕ) (rest : Bool) → 10 ≡ byte → (not (eqb byte 10) && rest) ≡ true → ⊥
    first byte rest e h = grind (arith, nat_tests)
same_line (byte ∷ line) [] rest tail p q e = absurd (first byte (lacks 10 line) (cc) p)
  where
    first : (byte : ℕ) (rest : Bool) → byte ≡ 10 → (not (eqb byte 10) && rest) ≡ true → ⊥
    first byte rest e h = grind (arith, nat_tests)
same_line (byte ∷ line) (second ∷ other) rest tail p q e =
    let rest_same = same_line line other rest tail (both (not (eqb byte 10)) (lacks 10 line) p).1 (both (not (eqb second 10)) (lacks 10 other) q).1 (cc) in
    let head_same : byte ≡ second = cc in
    (λ i. head_same i ∷ rest_same i)

pub lacks_in : (front : List (List ℕ)) (line : List ℕ) (back : List (List ℕ)) → all_lack 10 ((front ++ line ∷ []) ++ back) ≡ true → lacks 10 line ≡ true
lacks_in [] line back h = (both (lacks 10 line) (all_lack 10 back) h).0
lacks_in (first ∷ front) line back h = lacks_in front line back (both (lacks 10 first) (all_lack 10 ((front ++ line ∷ []) ++ back)) h).1

-- a line that some answer has at this place is a line that fits
fits_there : (most : ℕ) (place : ReadState) (line : List ℕ) → steps most at_title (lines_before place) ≡ Some place → after_line most place line ≡ None → Begin most (lines_before place ++ line ∷ []) → ⊥
fits_there most place line before none begun =
    let all = answer_steps most begun.0 begun.2 in
    let cut : steps most at_title (lines_of begun.0) ≡ None =
    ap (steps most at_title) begun.3 ∙ steps-append most at_title (lines_before place ++ line ∷ []) begun.1
    ∙ ap (λ (found : Option ReadState). found >>= λ p. steps most p begun.1)
    (steps-append most at_title (lines_before place) (line ∷ []) ∙ ap (λ (found : Option ReadState). found >>= λ p. steps most p (line ∷ [])) before
    ∙ ap (λ (found : Option ReadState). found >>= λ p. Some p) none) in
    none_some (at_last begun.0) (sym cut ∙ all)

-- no line that fits goes on
goes_not : (most : ℕ) (place : ReadState) (line rest : List ℕ) → steps most at_title (lines_before place) ≡ Some place → lacks 10 line ≡ true → after_line most place line ≡ None → GoOn most (lines_before place) (line ++ 10 ∷ rest) → ⊥
goes_not most place line rest before clean none on =
    let begun = on.3 in
    let other_clean : lacks 10 on.0 ≡ true = lacks_in (lines_before place) on.0 begun.1 (ap (all_lack 10) (sym begun.3) ∙ answer_lacks most begun.0 begun.2) in
    let same = same_line line on.0 rest on.1 clean other_clean on.2 in
    fits_there most place line before none (subst (λ (l : List ℕ). Begin most (lines_before place ++ l ∷ [])) (sym same) begun)

-- ---- the law

-- what a result says of the bytes
abbrev pub Rules : List ℕ → Result Answer AnswerRefusal → Type 0
Rules bytes (Ok answer) = IsText bytes answer
Rules bytes (Err refusal) = IsAnswerRefusal bytes refusal

not_empty : (byte : ℕ) (bytes : List ℕ) → byte ∷ bytes ≢ []
not_empty byte bytes h = absurd cc

some_line : (line rest : List ℕ) → line ++ 10 ∷ rest ≢ []
some_line [] rest h = absurd cc
some_line (byte ∷ line) rest h = absurd cc

bad_end : (place : ReadState) (byte : ℕ) (left bytes : List ℕ) → IsOpen place → Reached place → lacks 10 (byte ∷ left) ≡ true → bytes ≡ text_of_lines (lines_before place) ++ byte ∷ left → IsBadLine bytes (line_number place)
bad_end place byte left bytes o r c e = record {
  before = lines_before place;
  after = byte ∷ left;
  parts = e;
  right = is_open place o r;
  number_is = refl;
  there = not_empty byte left;
  wrong = λ on. lacks_not 10 on.0 on.1 (ap (lacks 10) (sym on.2) ∙ c);
}

open_ending : (place : ReadState) (left bytes : List ℕ) → IsOpen place → Reached place → lacks 10 left ≡ true → bytes ≡ text_of_lines (lines_before place) ++ left → Rules bytes (ending_at place left)
open_ending at_title [] bytes o r c e = record { before = lines_before at_title; parts = e ∙ append-nil _; right = is_open at_title o r }
open_ending at_head [] bytes o r c e = record { before = lines_before at_head; parts = e ∙ append-nil _; right = is_open at_head o r }
open_ending (at_branchings head) [] bytes o r c e = record { before = lines_before (at_branchings head); parts = e ∙ append-nil _; right = is_open (at_branchings head) o r }
open_ending (at_runs head branchings runs) [] bytes o r c e = record { before = lines_before (at_runs head branchings runs); parts = e ∙ append-nil _; right = is_open (at_runs head branchings runs) o r }
open_ending (at_nodes head branchings runs nodes) [] bytes o r c e = record { before = lines_before (at_nodes head branchings runs nodes); parts = e ∙ append-nil _; right = is_open (at_nodes head branchings runs nodes) o r }
open_ending at_title (byte ∷ left) bytes o r c e = bad_end at_title byte left bytes o r c e
open_ending at_head (byte ∷ left) bytes o r c e = bad_end at_head byte left bytes o r c e
open_ending (at_branchings head) (byte ∷ left) bytes o r c e = bad_end (at_branchings head) byte left bytes o r c e
open_ending (at_runs head branchings runs) (byte ∷ left) bytes o r c e = bad_end (at_runs head branchings runs) byte left bytes o r c e
open_ending (at_nodes head branchings runs nodes) (byte ∷ left) bytes o r c e = bad_end (at_nodes head branchings runs nodes) byte left bytes o r c e
open_ending (at_last answer) left bytes o r c e = absurd o

ending : (place : ReadState) (left bytes : List ℕ) → Reached place → lacks 10 left ≡ true → bytes ≡ text_of_lines (lines_before place) ++ left → Rules bytes (ending_at place left)
ending (at_last answer) [] bytes r c e = record { within = r.within; text = e ∙ append-nil (text_of answer) }
ending (at_last answer) (byte ∷ left) bytes r c e = record { answer = answer; after = byte ∷ left; within = r.within; parts = e; number_is = refl; there = not_empty byte left }
ending at_title left bytes r c e = open_ending at_title left bytes tt r c e
ending at_head left bytes r c e = open_ending at_head left bytes tt r c e
ending (at_branchings head) left bytes r c e = open_ending (at_branchings head) left bytes tt r c e
ending (at_runs head branchings runs) left bytes r c e = open_ending (at_runs head branchings runs) left bytes tt r c e
ending (at_nodes head branchings runs nodes) left bytes r c e = open_ending (at_nodes head branchings runs nodes) left bytes tt r c e

-- a place within the limits is so where there may be one node more
pub wide : (place : ReadState) → IsReadState 8001 place → IsReadState 8002 place
wide at_title h = h
wide at_head h = h
wide (at_branchings head) h = h
wide (at_runs head branchings runs) h = h
wide (at_nodes head branchings runs nodes) h = (h.0, h.1, h.2, h.3, omega (arith, h.4), h.5)
wide (at_last answer) h = record { head = h.head; branchings = h.branchings; planned = h.planned; few_runs = h.few_runs; runs = h.runs; some = h.some; few_nodes = omega (arith, h.few_nodes); nodes = h.nodes }

-- a line that does not fit an open place
faulty : (place : ReadState) (line rest bytes : List ℕ) → IsOpen place → Reached place → lacks 10 line ≡ true → bytes ≡ text_of_lines (lines_before place) ++ (line ++ 10 ∷ rest) → after_line 8001 place line ≡ None
    → (found : Option ReadState) → after_line 8002 place line ≡ found → IsAnswerRefusal bytes (cond (is_some found) TooManyNodes (BadLine (line_number place)))
faulty place line rest bytes o r c e none None more = record {
  before = lines_before place;
  after = line ++ 10 ∷ rest;
  parts = e;
  right = is_open place o r;
  number_is = refl;
  there = some_line line rest;
  wrong = goes_not 8002 place line rest r.by_more c more;
}
faulty place line rest bytes o r c e none (Some later) more =
    let led = leads 8002 place later line (wide place r.within) more in
    record {
      before = lines_before place;
      after = line ++ 10 ∷ rest;
      parts = e;
      right = is_open place o r;
      one_more = (line, rest, refl, subst (Begin 8002) led.lines (begin 8002 later (omega arith) led.within));
      full = goes_not 8001 place line rest r.by c none;
    }

fault : (place : ReadState) (line rest bytes : List ℕ) → Reached place → lacks 10 line ≡ true → bytes ≡ text_of_lines (lines_before place) ++ (line ++ 10 ∷ rest) → after_line 8001 place line ≡ None → IsAnswerRefusal bytes (fault_at place line)
fault (at_last answer) line rest bytes r c e none = record { answer = answer; after = line ++ 10 ∷ rest; within = r.within; parts = e; number_is = refl; there = some_line line rest }
fault at_title line rest bytes r c e none = faulty at_title line rest bytes tt r c e none (after_line 8002 at_title line) refl
fault at_head line rest bytes r c e none = faulty at_head line rest bytes tt r c e none (after_line 8002 at_head line) refl
fault (at_branchings head) line rest bytes r c e none = faulty (at_branchings head) line rest bytes tt r c e none (after_line 8002 (at_branchings head) line) refl
fault (at_runs head branchings runs) line rest bytes r c e none = faulty (at_runs head branchings runs) line rest bytes tt r c e none (after_line 8002 (at_runs head branchings runs) line) refl
fault (at_nodes head branchings runs nodes) line rest bytes r c e none = faulty (at_nodes head branchings runs nodes) line rest bytes tt r c e none (after_line 8002 (at_nodes head branchings runs nodes) line) refl

more_text : (before : List (List ℕ)) (line rest : List ℕ) → text_of_lines before ++ (line ++ 10 ∷ rest) ≡ text_of_lines (before ++ line ∷ []) ++ rest
more_text before line rest =
    ap (λ (t : List ℕ). text_of_lines before ++ t) (sym (append_assoc line (10 ∷ []) rest)) ∙ sym (append_assoc (text_of_lines before) (line ++ 10 ∷ []) rest)
    ∙ ap (λ (t : List ℕ). t ++ rest) (sym (text_of_lines-append before (line ∷ [])))

pub rules : (place : ReadState) (rest : List (List ℕ)) (bytes : List ℕ) → Reached place → 1 ≤ length rest → all_lack 10 rest ≡ true → bytes ≡ text_of_lines (lines_before place) ++ joined 10 rest → Rules bytes (reading place rest)
unfolding reading
rules place [] bytes r some clean e = absurd (omega (arith, some))
rules place (left ∷ []) bytes r some clean e = ending place left bytes r (both (lacks 10 left) true clean).0 e
rules place (line ∷ next ∷ rest) bytes r some clean e =
    let parts = both (lacks 10 line) (all_lack 10 (next ∷ rest)) clean in
    go (after_line 8001 place line) refl parts.0 parts.1 (λ later. rules later (next ∷ rest) bytes)
  where
    go : (found : Option ReadState) → after_line 8001 place line ≡ found → lacks 10 line ≡ true → all_lack 10 (next ∷ rest) ≡ true
        → ((later : ReadState) → Reached later → 1 ≤ length (next ∷ rest) → all_lack 10 (next ∷ rest) ≡ true → bytes ≡ text_of_lines (lines_before later) ++ joined 10 (next ∷ rest) → Rules bytes (reading later (next ∷ rest)))
        → Rules bytes (going_on found (fault_at place line) (λ later. reading later (next ∷ rest)))
    go None h c d others = fault place line (joined 10 (next ∷ rest)) bytes r c e h
    go (Some later) h c d others =
        let led = leads 8001 place later line r.within h in
        others later (reached_next place later line r h) (omega arith) d
        (e ∙ more_text (lines_before place) line (joined 10 (next ∷ rest)) ∙ ap (λ (ls : List (List ℕ)). text_of_lines ls ++ joined 10 (next ∷ rest)) (sym led.lines))

pieces_lack : (mark : ℕ) (text : List ℕ) → all_lack mark (pieces mark text) ≡ true
pieces_lack mark [] = refl
pieces_lack mark (byte ∷ text) = split (eqb byte mark) refl (pieces mark text) (pieces_lack mark text)
  where
    split : (b : Bool) → eqb byte mark ≡ b → (rest : List (List ℕ)) → all_lack mark rest ≡ true → all_lack mark (cond b ([] ∷ rest) (with_byte byte rest)) ≡ true
    split true h rest clean = clean
    split false h [] clean = rw h refl
    split false h (piece ∷ rest) clean = rw h clean

-- what becomes of any bytes is right
pub all_rules : (bytes : List ℕ) → Rules bytes (reading at_title (pieces 10 bytes))
all_rules bytes =
    rules at_title (pieces 10 bytes) bytes (record { within = tt; by = refl; by_more = refl }) (some_pieces 10 bytes) (pieces_lack 10 bytes) (sym (joined-pieces 10 bytes))

-- ---- and again

pub cut_on : (place later : ReadState) (line : List ℕ) (rest : List (List ℕ)) → 1 ≤ length rest → after_line 8001 place line ≡ Some later → reading place (line ∷ rest) ≡ reading later rest
unfolding reading
cut_on place later line [] some fits = absurd (omega (arith, some))
cut_on place later line (next ∷ rest) some fits = rw fits refl

longer : (lines : List (List ℕ)) → 1 ≤ length (lines ++ [] ∷ [])
longer [] = omega arith
longer (line ∷ lines) = omega arith

at_is : (place : ReadState) (answer : Answer) → Some place ≡ Some (at_last answer) → place ≡ at_last answer
at_is place answer e = cc

run_out : (place : ReadState) (lines : List (List ℕ)) (answer : Answer) → steps 8001 place lines ≡ Some (at_last answer) → reading place (lines ++ [] ∷ []) ≡ Ok answer
unfolding reading
run_out place [] answer e = ap (λ (p : ReadState). ending_at p []) (at_is place answer e)
run_out place (line ∷ lines) answer e =
    let found = bind_some (after_line 8001 place line) (λ later. steps 8001 later lines) (at_last answer) e in
    cut_on place found.0 line (lines ++ [] ∷ []) (longer lines) found.1 ∙ run_out found.0 lines answer found.2

-- the text of an answer is read as that answer
pub again : (bytes : List ℕ) (answer : Answer) → IsText bytes answer → reading at_title (pieces 10 bytes) ≡ Ok answer
again bytes answer h =
    let lines = lines_of answer in
    let cut : pieces 10 bytes ≡ lines ++ [] ∷ [] =
    ap (pieces 10) (h.text ∙ sym (append-nil (text_of answer))) ∙ pieces-lines lines [] (answer_lacks 8001 answer h.within) in
    ap (reading at_title) cut ∙ run_out at_title lines answer (answer_steps 8001 answer h.within)

-- ---- what is answered, want of memory apart

pub found : (bytes : List ℕ) (said : Result Answer AnswerRefusal) → Gives is_memory said (reading at_title (pieces 10 bytes)) → IfOk said (λ answer. IsText bytes answer)
found bytes (Ok answer) given = subst (Rules bytes) given (all_rules bytes)
found bytes (Err refusal) given = tt

pub refused_for : (bytes : List ℕ) (said : Result Answer AnswerRefusal) → Gives is_memory said (reading at_title (pieces 10 bytes)) → IfErr said (λ refusal. Unless (is_memory refusal) (IsAnswerRefusal bytes refusal))
refused_for bytes (Ok answer) given = tt
refused_for bytes (Err (BadLine number)) given = subst (Rules bytes) given (all_rules bytes)
refused_for bytes (Err MissingEnd) given = subst (Rules bytes) given (all_rules bytes)
refused_for bytes (Err (Trailing number)) given = subst (Rules bytes) given (all_rules bytes)
refused_for bytes (Err TooManyNodes) given = subst (Rules bytes) given (all_rules bytes)
refused_for bytes (Err NoMemory) given = tt

pub accepted : (bytes : List ℕ) (said : Result Answer AnswerRefusal) → Gives is_memory said (reading at_title (pieces 10 bytes)) → (answer : Answer) → IsText bytes answer → Gives is_memory said (Ok answer)
accepted bytes said given answer h = subst (λ (r : Result Answer AnswerRefusal). Gives is_memory said r) (again bytes answer h) given
