use Rattle.std.proofs.Common.{◌+◌, ◌<◌, ◌∙◌, ℕ, List, length, sym, ap, arith}
use Rattle.std.proofs.lemmas.List.{length_push}
use Rattle.std.proofs.lemmas.Result.{err_from_is_err_and}
use Rattle.branch_tree.specs.declared.tree.Node.{Node}
use Rattle.answer_text.specs.Pieces.{pieces}
use Rattle.answer_text.specs.ReadStates.{at_nodes, reading, whole}
use Rattle.answer_text.proofs.Turns.{fails, gives, node_cut, node_end, node_on, node_over, node_wrong}
use Rattle.answer_text.proofs.reading.read_from_nodes.Goals as goal

pub returns-in_err-line : goal.returns-in_err-line
returns-in_err-line c =
    let p = err_from_is_err_and c.from_residual-in_err-line.result c.from_residual-in_err-line.ensures.1 in
    let number : ℕ = 5 + c.len-trips.result + c.len.result in
    rw (p.1, p.2) (fails c.in_err-line.field-0.0 _ (sym c.loop-tree.invariant.same
    ∙ node_cut c.args.head c.args.branchings c.args.runs.items c.loop-tree.tree (pieces 10 c.loop-tree.rest.now) number c.in_err-line.field-0.0 (omega (arith, c.len-trips.ensures, c.len.ensures.value)) c.in_err-line.ensures))

pub returns-then-is_line : goal.returns-then-is_line
returns-then-is_line c =
    let number : ℕ = 5 + c.len-trips.result + c.len.result in
    let made = c.whole.ensures
    ∙ ap (λ (runs : List (List ℕ)). whole (record { head = c.args.head; branchings = c.args.branchings; runs = runs; tree = c.loop-tree.tree }) number c.in_ok-line.after.now) (c.of.ensures ∙ c.loop-tree.invariant.kept) in
    gives c.whole.result _ (sym c.loop-tree.invariant.same
    ∙ node_end c.args.head c.args.branchings c.args.runs.items c.loop-tree.tree (pieces 10 c.loop-tree.rest.now) c.in_ok-line.line.now c.in_ok-line.after.now number (omega (arith, c.len-trips.ensures, c.len.ensures.value))
    c.in_ok-line.ensures (sym c.is_line.ensures ∙ c.if-is_line.true) ∙ sym made)

pub returns-in_default : goal.returns-in_default
returns-in_default c =
    let number : ℕ = 5 + c.len-trips.result + c.len.result in
    sym c.loop-tree.invariant.same
    ∙ node_wrong c.args.head c.args.branchings c.args.runs.items c.loop-tree.tree (pieces 10 c.loop-tree.rest.now) (pieces 10 c.in_ok-line.after.now) c.in_ok-line.line.now number (omega (arith, c.len-trips.ensures, c.len.ensures.value))
    c.in_ok-line.ensures (sym c.is_line.ensures ∙ c.if-is_line.false) (sym c.in_ok-node.ensures ∙ c.in_default.is)

pub returns-then-len-eq-MAX_NODES : goal.returns-then-len-eq-MAX_NODES
returns-then-len-eq-MAX_NODES c =
    let number : ℕ = 5 + c.len-trips.result + c.len.result in
    sym c.loop-tree.invariant.same
    ∙ node_over c.args.head c.args.branchings c.args.runs.items c.loop-tree.tree (pieces 10 c.loop-tree.rest.now) (pieces 10 c.in_ok-line.after.now) c.in_ok-line.line.now number c.in-Some.node
    (omega (arith, c.len-trips.ensures, c.len.ensures.value)) c.in_ok-line.ensures (sym c.is_line.ensures ∙ c.if-is_line.false) (sym c.in_ok-node.ensures ∙ c.in-Some.is)
    (sym c.len-in-loop-tree.ensures.value ∙ c.if-len-eq-MAX_NODES.true)

pub loop-tree-preserved : goal.loop-tree-preserved
loop-tree-preserved c =
    let number : ℕ = 5 + c.len-trips.result + c.len.result in
    let tree = c.loop-tree.tree in
    let room : length tree < 8001 = omega (arith, c.loop-tree.invariant.few, c.len-in-loop-tree.ensures.value, c.if-len-eq-MAX_NODES.false) in
    record {
      few = omega (arith, ap length c.in_ok-push.ensures.pushed, length_push tree c.in-Some.node, room);
      kept = c.loop-tree.invariant.kept;
      same = ap (λ (nodes : List Node). reading (at_nodes c.args.head c.args.branchings c.args.runs.items nodes) (pieces 10 c.in_ok-line.after.now)) c.in_ok-push.ensures.pushed
          ∙ sym (node_on c.args.head c.args.branchings c.args.runs.items tree (pieces 10 c.loop-tree.rest.now) (pieces 10 c.in_ok-line.after.now) c.in_ok-line.line.now number c.in-Some.node
          (omega (arith, c.len-trips.ensures, c.len.ensures.value)) c.in_ok-line.ensures (sym c.is_line.ensures ∙ c.if-is_line.false) (sym c.in_ok-node.ensures ∙ c.in-Some.is) room)
          ∙ c.loop-tree.invariant.same;
    }
