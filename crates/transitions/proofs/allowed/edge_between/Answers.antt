-- By the kind of the link.
use Rattle.std.proofs.Common.{◌≡◌, Some, sym, ap, subst, ◌∙◌}
use Rattle.std.specs.Prelude.{◌↔◌}
use Rattle.rules.specs.declared.records.LinkKind.{LinkKind}
use Rattle.timetable.specs.Chains.{leads_from, leads_to}
use Rattle.timetable.specs.Handovers.{second_of}
use Rattle.transitions.specs.Between.{IsBetween}
use Rattle.transitions.specs.Edges.{IsAdmittedComp, IsKindEdge}
use Rattle.transitions.proofs.Numbers.{runs_long}
use Rattle.transitions.proofs.allowed.edge_between.Goals as goal

pub join_edge-requires-clause-second : goal.join_edge-requires-clause-second
join_edge-requires-clause-second c = runs_long c.args.instance.now c.in-Join.second c.as_slice-second.result.now (c.as_slice-second.ensures.value ∙ c.requires.admitted.second c.in-Join.second (ap second_of c.in-Join.is))

pub split_edge-requires-clause-second : goal.split_edge-requires-clause-second
split_edge-requires-clause-second c = runs_long c.args.instance.now c.in-Split.second c.as_slice-second.result.now (c.as_slice-second.ensures.value ∙ c.requires.admitted.second c.in-Split.second (ap second_of c.in-Split.is))

pub returns-in-Turn : goal.returns-in-Turn
returns-in-Turn c = λ edge.
    let arriving = (c.may_run.ensures c.args.instance.now (leads_from c.args.link.now.kind) (c.deref.ensures.value ∙ c.requires.admitted.arriving)).0 c.if-not-may_run.false in
    let departing = (c.may_run-else-not-may_run.ensures c.args.instance.now (leads_to c.args.link.now.kind) (c.deref-else-not-may_run.ensures.value ∙ c.requires.admitted.departing)).0 c.if-not-may_run-2.false in
    subst (λ (k : LinkKind). (c.turn_edge.result ≡ Some edge) ↔ (IsKindEdge c.args.instance.now k c.args.link.now.reverse edge × IsBetween c.args.pair.now.from c.args.pair.now.to edge)) (sym c.in-Turn.is)
    (c.turn_edge.ensures c.in-Turn.arriving c.in-Turn.departing c.in-Turn.uncouple c.in-Turn.couple c.in-Turn.exchange c.in-Turn.is
    (subst (λ (k : LinkKind). IsAdmittedComp c.args.instance.now (leads_from k) c.args.pair.now.from) c.in-Turn.is arriving)
    (subst (λ (k : LinkKind). IsAdmittedComp c.args.instance.now (leads_to k) c.args.pair.now.to) c.in-Turn.is departing) edge)

pub returns-in-Join : goal.returns-in-Join
returns-in-Join c = λ edge.
    let arriving = (c.may_run.ensures c.args.instance.now (leads_from c.args.link.now.kind) (c.deref.ensures.value ∙ c.requires.admitted.arriving)).0 c.if-not-may_run.false in
    let departing = (c.may_run-else-not-may_run.ensures c.args.instance.now (leads_to c.args.link.now.kind) (c.deref-else-not-may_run.ensures.value ∙ c.requires.admitted.departing)).0 c.if-not-may_run-2.false in
    subst (λ (k : LinkKind). (c.join_edge.result ≡ Some edge) ↔ (IsKindEdge c.args.instance.now k c.args.link.now.reverse edge × IsBetween c.args.pair.now.from c.args.pair.now.to edge)) (sym c.in-Join.is)
    (c.join_edge.ensures c.in-Join.first c.in-Join.second c.in-Join.departing
    (c.as_slice-second.ensures.value ∙ c.requires.admitted.second c.in-Join.second (ap second_of c.in-Join.is)) (subst (λ (k : LinkKind). IsAdmittedComp c.args.instance.now (leads_from k) c.args.pair.now.from) c.in-Join.is arriving)
    (subst (λ (k : LinkKind). IsAdmittedComp c.args.instance.now (leads_to k) c.args.pair.now.to) c.in-Join.is departing) edge)

pub returns-in-Split : goal.returns-in-Split
returns-in-Split c = λ edge.
    let arriving = (c.may_run.ensures c.args.instance.now (leads_from c.args.link.now.kind) (c.deref.ensures.value ∙ c.requires.admitted.arriving)).0 c.if-not-may_run.false in
    let departing = (c.may_run-else-not-may_run.ensures c.args.instance.now (leads_to c.args.link.now.kind) (c.deref-else-not-may_run.ensures.value ∙ c.requires.admitted.departing)).0 c.if-not-may_run-2.false in
    subst (λ (k : LinkKind). (c.split_edge.result ≡ Some edge) ↔ (IsKindEdge c.args.instance.now k c.args.link.now.reverse edge × IsBetween c.args.pair.now.from c.args.pair.now.to edge)) (sym c.in-Split.is)
    (c.split_edge.ensures c.in-Split.arriving c.in-Split.first c.in-Split.second
    (c.as_slice-second.ensures.value ∙ c.requires.admitted.second c.in-Split.second (ap second_of c.in-Split.is)) (subst (λ (k : LinkKind). IsAdmittedComp c.args.instance.now (leads_from k) c.args.pair.now.from) c.in-Split.is arriving)
    (subst (λ (k : LinkKind). IsAdmittedComp c.args.instance.now (leads_to k) c.args.pair.now.to) c.in-Split.is departing) edge)
