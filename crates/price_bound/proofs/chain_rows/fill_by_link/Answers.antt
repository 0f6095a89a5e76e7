-- The link is the one that leads on from the trip, so that its trips are the turn's.
use Rattle.std.proofs.Common.{◌≡◌, ℕ, true, sym, ap, ◌∙◌, subst}
use Rattle.timetable.specs.Chains.{leads_from, leads_to}
use Rattle.transitions.specs.Edges.{IsAdmittedComp}
use Rattle.price_bound.specs.declared.passes.PlainTurn.{PlainTurn}
use Rattle.price_bound.specs.declared.priced.Pricing.{Pricing}
use Rattle.price_bound.specs.Credits.{is_whole}
use Rattle.price_bound.specs.PassRooms.{IsPlain}
use Rattle.price_bound.proofs.chain_rows.fill_by_link.Goals as goal

pub new-passes-requires-clause-credits : goal.new-passes-requires-clause-credits
new-passes-requires-clause-credits c =
    let plain : IsPlain c.link-link_at.result.now c.in-Some.turn = c.in-Some.ensures.plain in
    let leads = c.requires.leads c.args.link c.link-link_at.result.now c.requires.link c.link-link_at.ensures.value in
    subst (λ (t : ℕ). is_whole c.args.pricing.now.sums.now.summed.items t ≡ true) (sym leads.0 ∙ ap leads_from plain.kind)
    (c.has_many-has_many.ensures c.if-not-has_many.false)

pub fill_by_passes-requires-clause-arriving : goal.fill_by_passes-requires-clause-arriving
fill_by_passes-requires-clause-arriving c =
    let plain : IsPlain c.link-link_at.result.now c.in-Some.turn = c.in-Some.ensures.plain in
    let leads = c.requires.leads c.args.link c.link-link_at.result.now c.requires.link c.link-link_at.ensures.value in
    c.new-priced_costs.ensures.trip ∙ sym leads.0 ∙ ap leads_from plain.kind
    ∙ sym (ap (λ (turn : PlainTurn). turn.arriving) c.new-passes.ensures.turn)

pub fill_by_passes-requires-clause-runs : goal.fill_by_passes-requires-clause-runs
fill_by_passes-requires-clause-runs c comp cell at =
    let plain : IsPlain c.link-link_at.result.now c.in-Some.turn = c.in-Some.ensures.plain in
    let leads = c.requires.leads c.args.link c.link-link_at.result.now c.requires.link c.link-link_at.ensures.value in
    let to : leads_to c.link-link_at.result.now.kind ≡ c.new-passes.result.turn.departing =
    ap leads_to plain.kind ∙ sym (ap (λ (turn : PlainTurn). turn.departing) c.new-passes.ensures.turn) in
    subst (λ (pricing : Pricing). IsAdmittedComp pricing.instance.now c.new-passes.result.turn.departing comp) (sym c.new-passes.ensures.pricing)
    (subst (λ (t : ℕ). IsAdmittedComp c.args.pricing.now.instance.now t comp) to (leads.1 comp cell at))
