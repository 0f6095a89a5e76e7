use Rattle.std.proofs.Common.{◌≡◌, ◌+◌, ◌<◌, ◌∙◌, ℕ, List, length, sym, ap, arith}
use Rattle.std.proofs.lemmas.List.{length_push}
use Rattle.std.proofs.lemmas.Result.{err_from_is_err_and}
use Rattle.answer_text.specs.Pieces.{pieces, words_of}
use Rattle.answer_text.specs.ReadLines.{run_in}
use Rattle.answer_text.specs.ReadStates.{at_runs, reading}
use Rattle.answer_text.proofs.Turns.{fails, moved, run_cut, run_end, run_on, run_over, run_wrong}
use Rattle.answer_text.proofs.reading.read_from_runs.Goals as goal

pub returns-in_err-line : goal.returns-in_err-line
returns-in_err-line c =
    let p = err_from_is_err_and c.from_residual.result c.from_residual.ensures.1 in
    rw (p.1, p.2) (fails c.in_err-line.field-0.0 _ (sym c.loop-runs.invariant.same
    ∙ run_cut c.args.head c.args.branchings c.loop-runs.runs.items (pieces 10 c.loop-runs.rest.now) (4 + c.len-count.result) c.in_err-line.field-0.0 (omega (arith, c.len-count.ensures)) c.in_err-line.ensures))

pub read_from_nodes-requires : goal.read_from_nodes-requires
read_from_nodes-requires c = omega (arith, c.loop-runs.invariant.few, c.most_runs-most.ensures.few)

pub returns-then-is_line : goal.returns-then-is_line
returns-then-is_line c =
    moved c.read_from_nodes.result _ _ (sym c.loop-runs.invariant.same
    ∙ run_end c.args.head c.args.branchings c.loop-runs.runs.items (pieces 10 c.loop-runs.rest.now) (pieces 10 c.in_ok-line.after.now) c.in_ok-line.line.now (4 + c.len-count.result) (omega (arith, c.len-count.ensures))
    c.in_ok-line.ensures (sym c.is_line.ensures ∙ c.if-is_line.true)) c.read_from_nodes.ensures

pub returns-then-count-most : goal.returns-then-count-most
returns-then-count-most c =
    sym c.loop-runs.invariant.same
    ∙ run_over c.args.head c.args.branchings c.loop-runs.runs.items (pieces 10 c.loop-runs.rest.now) (pieces 10 c.in_ok-line.after.now) c.in_ok-line.line.now (4 + c.len-count.result) (omega (arith, c.len-count.ensures))
    c.in_ok-line.ensures (sym c.is_line.ensures ∙ c.if-is_line.false) (omega (arith, c.len-count.ensures, c.if-count-most.true, c.most_runs-most.ensures.value))

pub returns-in_default : goal.returns-in_default
returns-in_default c =
    let count : length c.loop-runs.runs.items ≡ c.len-count.result = omega (arith, c.len-count.ensures) in
    sym c.loop-runs.invariant.same
    ∙ run_wrong c.args.head c.args.branchings c.loop-runs.runs.items (pieces 10 c.loop-runs.rest.now) (pieces 10 c.in_ok-line.after.now) c.in_ok-line.line.now (4 + c.len-count.result) (omega (arith, c.len-count.ensures))
    c.in_ok-line.ensures (sym c.is_line.ensures ∙ c.if-is_line.false) (ap (λ (n : ℕ). run_in n (words_of c.in_ok-line.line.now)) count ∙ sym c.in_ok-units.ensures ∙ c.in_default.is)

pub loop-runs-preserved : goal.loop-runs-preserved
loop-runs-preserved c =
    let runs = c.loop-runs.runs.items in
    let count : length runs ≡ c.len-count.result = omega (arith, c.len-count.ensures) in
    let room : length runs < c.most_runs-most.result = omega (arith, c.loop-runs.invariant.few, count, c.if-count-most.false) in
    record {
      few = omega (arith, ap length c.in_ok-push.ensures.items, length_push runs c.in-Some.units, room);
      same = ap (λ (list : List (List ℕ)). reading (at_runs c.args.head c.args.branchings list) (pieces 10 c.in_ok-line.after.now)) c.in_ok-push.ensures.items
          ∙ sym (run_on c.args.head c.args.branchings runs (pieces 10 c.loop-runs.rest.now) (pieces 10 c.in_ok-line.after.now) c.in_ok-line.line.now (4 + c.len-count.result) c.in-Some.units (omega (arith, c.len-count.ensures))
          c.in_ok-line.ensures (sym c.is_line.ensures ∙ c.if-is_line.false) (ap (λ (n : ℕ). run_in n (words_of c.in_ok-line.line.now)) count ∙ sym c.in_ok-units.ensures ∙ c.in-Some.is)
          (omega (arith, room, c.most_runs-most.ensures.value)))
          ∙ c.loop-runs.invariant.same;
    }
