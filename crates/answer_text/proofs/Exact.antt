-- Each refusal comes exactly where its cause is so: the causes exclude one another.
use Rattle.std.proofs.Common.{◌≡◌, ◌≢◌, ℕ, suc, ◌+◌, ◌≤◌, true, false, eqb, List, [], ◌∷◌, ◌++◌, length, Option, Some}
use Rattle.std.proofs.Common.{None, Result, Err, refl, sym, ap, subst, ◌∙◌, append_assoc, arith}
use Rattle.std.proofs.lemmas.Bool.Decides.{nat_tests}
use Rattle.std.proofs.lemmas.List.{append-nil}
use Rattle.rail_base.specs.Answers.{Gives}
use Rattle.answer_text.specs.declared.answer.Answer.{Answer}
use Rattle.answer_text.specs.declared.refusal.AnswerRefusal.{AnswerRefusal}
use Rattle.answer_text.specs.declared.refusal.AnswerRefusal.TheVariants.{BadLine, MissingEnd, Trailing, TooManyNodes}
use Rattle.answer_text.specs.declared.refusal.AnswerRefusal.TheVariants.{NoMemory}
use Rattle.answer_text.specs.Grammar.{is_memory, AreUnfinished, Begin, GoOn, IsAnswerRefusal}
use Rattle.answer_text.specs.Lines.{text_of_lines}
use Rattle.answer_text.specs.Numbers.{◌>>=◌}
use Rattle.answer_text.specs.Pieces.{pieces}
use Rattle.answer_text.specs.ReadStates.{ReadState, at_branchings, at_head, at_last, at_nodes, at_runs, at_title}
use Rattle.answer_text.specs.ReadStates.{after_line, fault_at, line_number, lines_before, reading}
use Rattle.answer_text.specs.Texts.{lines_of}
use Rattle.answer_text.proofs.Cutting.{not_blank, some_pieces}
use Rattle.answer_text.proofs.Placing.{leads}
use Rattle.answer_text.proofs.Ruling.{Reached, begin, cut_on, lacks_in, more_room, reached_next, wide}
use Rattle.answer_text.proofs.Running.{answer_lacks, answer_steps, steps, steps-append}
use Rattle.answer_text.proofs.Signs.{bind_some, some_is}
use Rattle.answer_text.proofs.Sound.{none_some}
use Rattle.answer_text.proofs.Splitting.{all_lack, both, joined, joined-pieces, lacks, pieces-front, pieces-lines}
use Rattle.answer_text.proofs.Steps.{IsOpen, fault_is, open_end, over_is}
use Rattle.answer_text.proofs.Turns.{after_last}

-- ---- lines that were read

-- the place after lines is reached, and has these lines before it
record Passed (place later : ReadState) (lines : List (List ℕ)) : Type 0 where
  reached : Reached later
  before : lines_before later ≡ lines_before place ++ lines

passed : (place later : ReadState) (lines : List (List ℕ)) → Reached place → steps 8001 place lines ≡ Some later → Passed place later lines
passed place later [] r e = subst (λ (p : ReadState). Passed place p []) (some_is place later e) (record { reached = r; before = sym (append-nil (lines_before place)) })
passed place later (line ∷ lines) r e =
    let found = bind_some (after_line 8001 place line) (λ next. steps 8001 next lines) later e in
    let led = leads 8001 place found.0 line r.within found.1 in
    let rest = passed found.0 later lines (reached_next place found.0 line r found.1) found.2 in
    record {
      reached = rest.reached;
      before = rest.before ∙ ap (λ (ls : List (List ℕ)). ls ++ lines) led.lines ∙ append_assoc (lines_before place) (line ∷ []) lines;
    }

longer : (lines tail : List (List ℕ)) → 1 ≤ length tail → 1 ≤ length (lines ++ tail)
longer [] tail some = some
longer (line ∷ lines) tail some = omega arith

run_on : (place later : ReadState) (lines tail : List (List ℕ)) → 1 ≤ length tail → steps 8001 place lines ≡ Some later → reading place (lines ++ tail) ≡ reading later tail
run_on place later [] tail some e = ap (λ (p : ReadState). reading p tail) (some_is place later e)
run_on place later (line ∷ lines) tail some e =
    let found = bind_some (after_line 8001 place line) (λ next. steps 8001 next lines) later e in
    cut_on place found.0 line (lines ++ tail) (longer lines tail some) found.1 ∙ run_on found.0 later lines tail some found.2

front_lacks : (front back : List (List ℕ)) → all_lack 10 (front ++ back) ≡ true → all_lack 10 front ≡ true
front_lacks [] back h = refl
front_lacks (line ∷ front) back h =
    let parts = both (lacks 10 line) (all_lack 10 (front ++ back)) h in
    rw (parts.0, front_lacks front back parts.1) refl

-- lines of which an answer has more are read, and lead to a place where a line is wanted
record Stands (bytes : List ℕ) (lines : List (List ℕ)) (after : List ℕ) : Type 0 where
  place : ReadState
  reached : Reached place
  before : lines_before place ≡ lines
  open_here : IsOpen place
  reads : reading at_title (pieces 10 bytes) ≡ reading place (pieces 10 after)

is_open : (place : ReadState) (line : List ℕ) (later : ReadState) → after_line 8001 place line ≡ Some later → IsOpen place
unfolding after_line
is_open at_title line later e = tt
is_open at_head line later e = tt
is_open (at_branchings head) line later e = tt
is_open (at_runs head branchings runs) line later e = tt
is_open (at_nodes head branchings runs nodes) line later e = tt
is_open (at_last answer) line later e = absurd (none_some later e)

start : Reached at_title
start = record { within = tt; by = refl; by_more = refl }

stands : (bytes : List ℕ) (lines : List (List ℕ)) (after : List ℕ) → AreUnfinished lines → bytes ≡ text_of_lines lines ++ after → Stands bytes lines after
stands bytes lines after more e =
    let answer = more.0 in
    let all : (steps 8001 at_title lines >>= λ p. steps 8001 p (more.1 ∷ more.2)) ≡ Some (at_last answer) =
    sym (steps-append 8001 at_title lines (more.1 ∷ more.2)) ∙ ap (steps 8001 at_title) (sym more.4) ∙ answer_steps 8001 answer more.3 in
    let found = bind_some (steps 8001 at_title lines) (λ p. steps 8001 p (more.1 ∷ more.2)) (at_last answer) all in
    let next = bind_some (after_line 8001 found.0 more.1) (λ p. steps 8001 p more.2) (at_last answer) found.2 in
    let came = passed at_title found.0 lines start found.1 in
    let clean = front_lacks lines (more.1 ∷ more.2) (ap (all_lack 10) (sym more.4) ∙ answer_lacks 8001 answer more.3) in
    record {
      place = found.0;
      reached = came.reached;
      before = came.before;
      open_here = is_open found.0 more.1 next.0 next.1;
      reads = ap (reading at_title) (ap (pieces 10) e ∙ pieces-lines lines after clean) ∙ run_on at_title found.0 lines (pieces 10 after) (some_pieces 10 after) found.1;
    }

number : (place : ReadState) (lines : List (List ℕ)) → lines_before place ≡ lines → line_number place ≡ length lines + 1
number place lines e = ap (λ (ls : List (List ℕ)). length ls + 1) e

-- ---- the four causes

fits_begin : (place later : ReadState) (line : List ℕ) → Reached place → after_line 8001 place line ≡ Some later → Begin 8001 (lines_before place ++ line ∷ [])
fits_begin place later line r e =
    let led = leads 8001 place later line r.within e in
    subst (Begin 8001) led.lines (begin 8001 later (omega arith) led.within)

fits_begin_more : (place later : ReadState) (line : List ℕ) → Reached place → after_line 8002 place line ≡ Some later → Begin 8002 (lines_before place ++ line ∷ [])
fits_begin_more place later line r e =
    let led = leads 8002 place later line (wide place r.within) e in
    subst (Begin 8002) led.lines (begin 8002 later (omega arith) led.within)

wrong_line : (place : ReadState) (after : List ℕ) → IsOpen place → Reached place → after ≢ [] → (GoOn 8002 (lines_before place) after → ⊥) → reading place (pieces 10 after) ≡ Err (BadLine (line_number place))
unfolding reading
wrong_line place [] o r there wrong = absurd (there refl)
wrong_line place (byte ∷ after) o r there wrong = go (pieces 10 (byte ∷ after)) (joined-pieces 10 (byte ∷ after)) (not_blank 10 byte after) (some_pieces 10 (byte ∷ after))
  where
    none_at : (found : Option ReadState) → ((later : ReadState) → found ≡ Some later → ⊥) → found ≡ None
    none_at None f = refl
    none_at (Some later) f = absurd (f later refl)

    go : (rest : List (List ℕ)) → joined 10 rest ≡ byte ∷ after → (rest ≡ [] ∷ [] → ⊥) → 1 ≤ length rest → reading place rest ≡ Err (BadLine (line_number place))
    go [] e blank some = absurd (omega (arith, some))
    go ([] ∷ []) e blank some = absurd (blank refl)
    go ((first ∷ left) ∷ []) e blank some = open_end place (first ∷ left) o
    go (line ∷ next ∷ rest) e blank some =
        let more = none_at (after_line 8002 place line) (λ later fits. wrong (line, joined 10 (next ∷ rest), sym e, fits_begin_more place later line r fits)) in
        let none = none_at (after_line 8001 place line) (λ later fits. none_some later (sym more ∙ more_room place later line fits)) in
        rw none (ap Err (fault_is place line o more))

over_line : (place : ReadState) (after : List ℕ) → IsOpen place → Reached place → GoOn 8002 (lines_before place) after → (GoOn 8001 (lines_before place) after → ⊥) → reading place (pieces 10 after) ≡ Err TooManyNodes
unfolding reading
over_line place after o r on full =
    let begun = on.3 in
    let clean : lacks 10 on.0 ≡ true = lacks_in (lines_before place) on.0 begun.1 (ap (all_lack 10) (sym begun.3) ∙ answer_lacks 8002 begun.0 begun.2) in
    let cut : pieces 10 after ≡ on.0 ∷ pieces 10 on.1 = ap (pieces 10) on.2 ∙ pieces-front 10 on.0 on.1 clean in
    let all : (steps 8002 at_title (lines_before place ++ on.0 ∷ []) >>= λ p. steps 8002 p begun.1) ≡ Some (at_last begun.0) =
    sym (steps-append 8002 at_title (lines_before place ++ on.0 ∷ []) begun.1) ∙ ap (steps 8002 at_title) (sym begun.3) ∙ answer_steps 8002 begun.0 begun.2 in
    let front = bind_some (steps 8002 at_title (lines_before place ++ on.0 ∷ [])) (λ p. steps 8002 p begun.1) (at_last begun.0) all in
    let here : (after_line 8002 place on.0 >>= λ p. Some p) ≡ Some front.0 =
    sym (steps-append 8002 at_title (lines_before place) (on.0 ∷ []) ∙ ap (λ (found : Option ReadState). found >>= λ p. steps 8002 p (on.0 ∷ [])) r.by_more) ∙ front.1 in
    let fits = bind_some (after_line 8002 place on.0) (λ p. Some p) front.0 here in
    let none = none_at (after_line 8001 place on.0) (λ later e. full (on.0, on.1, on.2, fits_begin place later on.0 r e)) in
    ap (reading place) cut ∙ faulty (pieces 10 on.1) on.0 (some_pieces 10 on.1) none ∙ ap Err (over_is place fits.0 on.0 o fits.1)
  where
    none_at : (found : Option ReadState) → ((later : ReadState) → found ≡ Some later → ⊥) → found ≡ None
    none_at None f = refl
    none_at (Some later) f = absurd (f later refl)

    faulty : (rest : List (List ℕ)) (line : List ℕ) → 1 ≤ length rest → after_line 8001 place line ≡ None → reading place (line ∷ rest) ≡ Err (fault_at place line)
    faulty [] line some none = absurd (omega (arith, some))
    faulty (next ∷ rest) line some none = rw none refl

trailing : (answer : Answer) (after : List ℕ) → after ≢ [] → reading (at_last answer) (pieces 10 after) ≡ Err (Trailing (line_number (at_last answer)))
trailing answer [] there = absurd (there refl)
trailing answer (byte ∷ after) there = after_last answer (byte ∷ after) ∙ rw (positive (length after)) refl
  where
    positive : (n : ℕ) → eqb (suc n) 0 ≡ false
    positive n = grind (arith, nat_tests)

missing : (place : ReadState) → IsOpen place → reading place ([] ∷ []) ≡ Err MissingEnd
unfolding reading
missing place o = open_end place [] o

pub exact : (bytes : List ℕ) (refusal : AnswerRefusal) → IsAnswerRefusal bytes refusal → reading at_title (pieces 10 bytes) ≡ Err refusal
exact bytes (BadLine n) h =
    let s = stands bytes h.before h.after h.right h.parts in
    let wrong = subst (λ (ls : List (List ℕ)). GoOn 8002 ls h.after → ⊥) (sym s.before) h.wrong in
    s.reads ∙ wrong_line s.place h.after s.open_here s.reached h.there wrong ∙ ap (λ (k : ℕ). Err (BadLine k)) (number s.place h.before s.before ∙ sym h.number_is)
exact bytes MissingEnd h =
    let s = stands bytes h.before [] h.right (h.parts ∙ sym (append-nil (text_of_lines h.before))) in
    s.reads ∙ missing s.place s.open_here
exact bytes (Trailing n) h =
    let lines = lines_of h.answer in
    ap (reading at_title) (ap (pieces 10) h.parts ∙ pieces-lines lines h.after (answer_lacks 8001 h.answer h.within))
    ∙ run_on at_title (at_last h.answer) lines (pieces 10 h.after) (some_pieces 10 h.after) (answer_steps 8001 h.answer h.within)
    ∙ trailing h.answer h.after h.there ∙ ap (λ (k : ℕ). Err (Trailing k)) (sym h.number_is)
exact bytes TooManyNodes h =
    let s = stands bytes h.before h.after h.right h.parts in
    let on = subst (λ (ls : List (List ℕ)). GoOn 8002 ls h.after) (sym s.before) h.one_more in
    let full = subst (λ (ls : List (List ℕ)). GoOn 8001 ls h.after → ⊥) (sym s.before) h.full in
    s.reads ∙ over_line s.place h.after s.open_here s.reached on full
exact bytes NoMemory h = absurd h

-- so a refusal whose cause is so is the answer, want of memory apart
pub exactly : (bytes : List ℕ) (said : Result Answer AnswerRefusal) → Gives is_memory said (reading at_title (pieces 10 bytes)) → (refusal : AnswerRefusal) → IsAnswerRefusal bytes refusal → Gives is_memory said (Err refusal)
exactly bytes said given refusal h = subst (λ (r : Result Answer AnswerRefusal). Gives is_memory said r) (exact bytes refusal h) given
