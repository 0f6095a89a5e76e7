-- The slacks of a hand-over, the lower index first.
use Rattle.std.proofs.Common.{◌≡◌, ◌<◌, ◌+◌, ℕ, length, refl, sym, ap, subst, ◌∙◌, arith, pos, negsuc}
use Rattle.timetable.specs.Compositions.{compositions_of}
use Rattle.timetable.specs.Handovers.{handovers_of}
use Rattle.price_bound.specs.Entered.{Counted, entered}
use Rattle.price_bound.specs.Parts.{IsPartAt, second_pick}
use Rattle.price_bound.proofs.CountedOf.{counted_of}
use Rattle.price_bound.proofs.PairEntered.{mid_past, pair_entered, part_first, second_first, second_known}
use Rattle.price_bound.proofs.SlackIndices.{no_entry, past_entered, sigma_below}
use Rattle.price_bound.proofs.slacks.CountedPicks.put_handover.Goals as goal

pub overflow_add-first : goal.overflow_add-first
overflow_add-first c =
    let it = counted_of c.args.self.now c.self.inside.instance.now c.self.inside.graphs.now c.self.inside.ledger.now c.self.inside.picks.now c.self.view_is c.self.invariant in
    let here : c.args.handover < length (handovers_of c.args.self.now.day) = c.requires.handover in
    let is : IsPartAt c.args.self.now.day c.args.self.now.picks c.args.handover c.part.inside.0 =
    subst (λ (x : Counted). IsPartAt x.day x.picks c.args.handover c.part.inside.0) c.self.view_is (subst (λ (p : ℕ). IsPartAt c.self.inside.instance.now c.self.inside.picks.now c.args.handover p) (sym c.part.view_is) c.part_at-part.ensures) in
    let second : c.second.inside.0 ≡ second_pick c.args.self.now.day c.args.self.now.picks c.args.handover =
    c.second.view_is ∙ c.second_at-second.ensures ∙ ap (λ (x : Counted). second_pick x.day x.picks c.args.handover) c.self.view_is in
    let known : second_pick c.args.self.now.day c.args.self.now.picks c.args.handover < length (compositions_of c.args.self.now.day) = second_known c.args.self.now.day c.args.self.now.picks it.accepted.links it.follow c.args.handover here in
    let below = sigma_below c.args.self.now.day c.args.handover c.part.inside.0 (c.args.first + c.part.inside.0) (here, is.listed) (ap (λ (n : ℕ). n + c.part.inside.0) c.requires.first) in
    let few = it.few in
    omega arith

pub put_slack-requires-clause-rising : goal.put_slack-requires-clause-rising
put_slack-requires-clause-rising c =
    past_entered c.args.self.now.day c.args.self.now.picks c.args.into.now c.args.first (c.args.first + c.part.inside.0) c.requires.slacks (omega arith)

pub overflow_add-first-then-part-second : goal.overflow_add-first-then-part-second
overflow_add-first-then-part-second c =
    let it = counted_of c.args.self.now c.self.inside.instance.now c.self.inside.graphs.now c.self.inside.ledger.now c.self.inside.picks.now c.self.view_is c.self.invariant in
    let here : c.args.handover < length (handovers_of c.args.self.now.day) = c.requires.handover in
    let is : IsPartAt c.args.self.now.day c.args.self.now.picks c.args.handover c.part.inside.0 =
    subst (λ (x : Counted). IsPartAt x.day x.picks c.args.handover c.part.inside.0) c.self.view_is (subst (λ (p : ℕ). IsPartAt c.self.inside.instance.now c.self.inside.picks.now c.args.handover p) (sym c.part.view_is) c.part_at-part.ensures) in
    let second : c.second.inside.0 ≡ second_pick c.args.self.now.day c.args.self.now.picks c.args.handover =
    c.second.view_is ∙ c.second_at-second.ensures ∙ ap (λ (x : Counted). second_pick x.day x.picks c.args.handover) c.self.view_is in
    let known : second_pick c.args.self.now.day c.args.self.now.picks c.args.handover < length (compositions_of c.args.self.now.day) = second_known c.args.self.now.day c.args.self.now.picks it.accepted.links it.follow c.args.handover here in
    let listed : c.second.inside.0 < length (compositions_of c.args.self.now.day) = omega arith in
    let below = sigma_below c.args.self.now.day c.args.handover c.second.inside.0 (c.args.first + c.second.inside.0) (here, listed) (ap (λ (n : ℕ). n + c.second.inside.0) c.requires.first) in
    let few = it.few in
    omega arith

pub put_slack-requires-then-part-second-clause-rising : goal.put_slack-requires-then-part-second-clause-rising
put_slack-requires-then-part-second-clause-rising c =
    let it = counted_of c.args.self.now c.self.inside.instance.now c.self.inside.graphs.now c.self.inside.ledger.now c.self.inside.picks.now c.self.view_is c.self.invariant in
    let here : c.args.handover < length (handovers_of c.args.self.now.day) = c.requires.handover in
    let is : IsPartAt c.args.self.now.day c.args.self.now.picks c.args.handover c.part.inside.0 =
    subst (λ (x : Counted). IsPartAt x.day x.picks c.args.handover c.part.inside.0) c.self.view_is (subst (λ (p : ℕ). IsPartAt c.self.inside.instance.now c.self.inside.picks.now c.args.handover p) (sym c.part.view_is) c.part_at-part.ensures) in
    let second : c.second.inside.0 ≡ second_pick c.args.self.now.day c.args.self.now.picks c.args.handover =
    c.second.view_is ∙ c.second_at-second.ensures ∙ ap (λ (x : Counted). second_pick x.day x.picks c.args.handover) c.self.view_is in
    let known : second_pick c.args.self.now.day c.args.self.now.picks c.args.handover < length (compositions_of c.args.self.now.day) = second_known c.args.self.now.day c.args.self.now.picks it.accepted.links it.follow c.args.handover here in
    let pair = part_first c.args.self.now.day c.args.self.now.picks c.args.handover c.part.inside.0 is here known (omega arith) in
    let high : c.args.first + c.second.inside.0 ≡ c.args.first + second_pick c.args.self.now.day c.args.self.now.picks c.args.handover = ap (λ (n : ℕ). c.args.first + n) second in
    mid_past c.args.self.now.day c.args.self.now.picks c.args.handover c.part.inside.0 c.part.inside.0 (second_pick c.args.self.now.day c.args.self.now.picks c.args.handover) (pos 1) (negsuc 0) pair c.args.first c.requires.first c.args.into.now c.requires.slacks (c.args.first + c.part.inside.0) refl c.put_slack.new.into c.put_slack.ensures (c.args.first + c.second.inside.0) high

pub overflow_add-first-then-second-part : goal.overflow_add-first-then-second-part
overflow_add-first-then-second-part c =
    let it = counted_of c.args.self.now c.self.inside.instance.now c.self.inside.graphs.now c.self.inside.ledger.now c.self.inside.picks.now c.self.view_is c.self.invariant in
    let here : c.args.handover < length (handovers_of c.args.self.now.day) = c.requires.handover in
    let is : IsPartAt c.args.self.now.day c.args.self.now.picks c.args.handover c.part.inside.0 =
    subst (λ (x : Counted). IsPartAt x.day x.picks c.args.handover c.part.inside.0) c.self.view_is (subst (λ (p : ℕ). IsPartAt c.self.inside.instance.now c.self.inside.picks.now c.args.handover p) (sym c.part.view_is) c.part_at-part.ensures) in
    let second : c.second.inside.0 ≡ second_pick c.args.self.now.day c.args.self.now.picks c.args.handover =
    c.second.view_is ∙ c.second_at-second.ensures ∙ ap (λ (x : Counted). second_pick x.day x.picks c.args.handover) c.self.view_is in
    let known : second_pick c.args.self.now.day c.args.self.now.picks c.args.handover < length (compositions_of c.args.self.now.day) = second_known c.args.self.now.day c.args.self.now.picks it.accepted.links it.follow c.args.handover here in
    let listed : c.second.inside.0 < length (compositions_of c.args.self.now.day) = omega arith in
    let below = sigma_below c.args.self.now.day c.args.handover c.second.inside.0 (c.args.first + c.second.inside.0) (here, listed) (ap (λ (n : ℕ). n + c.second.inside.0) c.requires.first) in
    let few = it.few in
    omega arith

pub put_slack-requires-then-second-part-clause-rising : goal.put_slack-requires-then-second-part-clause-rising
put_slack-requires-then-second-part-clause-rising c =
    past_entered c.args.self.now.day c.args.self.now.picks c.args.into.now c.args.first (c.args.first + c.second.inside.0) c.requires.slacks (omega arith)

pub overflow_add-first-then-second-part-2 : goal.overflow_add-first-then-second-part-2
overflow_add-first-then-second-part-2 c =
    let it = counted_of c.args.self.now c.self.inside.instance.now c.self.inside.graphs.now c.self.inside.ledger.now c.self.inside.picks.now c.self.view_is c.self.invariant in
    let here : c.args.handover < length (handovers_of c.args.self.now.day) = c.requires.handover in
    let is : IsPartAt c.args.self.now.day c.args.self.now.picks c.args.handover c.part.inside.0 =
    subst (λ (x : Counted). IsPartAt x.day x.picks c.args.handover c.part.inside.0) c.self.view_is (subst (λ (p : ℕ). IsPartAt c.self.inside.instance.now c.self.inside.picks.now c.args.handover p) (sym c.part.view_is) c.part_at-part.ensures) in
    let second : c.second.inside.0 ≡ second_pick c.args.self.now.day c.args.self.now.picks c.args.handover =
    c.second.view_is ∙ c.second_at-second.ensures ∙ ap (λ (x : Counted). second_pick x.day x.picks c.args.handover) c.self.view_is in
    let known : second_pick c.args.self.now.day c.args.self.now.picks c.args.handover < length (compositions_of c.args.self.now.day) = second_known c.args.self.now.day c.args.self.now.picks it.accepted.links it.follow c.args.handover here in
    let below = sigma_below c.args.self.now.day c.args.handover c.part.inside.0 (c.args.first + c.part.inside.0) (here, is.listed) (ap (λ (n : ℕ). n + c.part.inside.0) c.requires.first) in
    let few = it.few in
    omega arith

pub put_slack-requires-then-second-part-2-clause-rising : goal.put_slack-requires-then-second-part-2-clause-rising
put_slack-requires-then-second-part-2-clause-rising c =
    let it = counted_of c.args.self.now c.self.inside.instance.now c.self.inside.graphs.now c.self.inside.ledger.now c.self.inside.picks.now c.self.view_is c.self.invariant in
    let here : c.args.handover < length (handovers_of c.args.self.now.day) = c.requires.handover in
    let is : IsPartAt c.args.self.now.day c.args.self.now.picks c.args.handover c.part.inside.0 =
    subst (λ (x : Counted). IsPartAt x.day x.picks c.args.handover c.part.inside.0) c.self.view_is (subst (λ (p : ℕ). IsPartAt c.self.inside.instance.now c.self.inside.picks.now c.args.handover p) (sym c.part.view_is) c.part_at-part.ensures) in
    let second : c.second.inside.0 ≡ second_pick c.args.self.now.day c.args.self.now.picks c.args.handover =
    c.second.view_is ∙ c.second_at-second.ensures ∙ ap (λ (x : Counted). second_pick x.day x.picks c.args.handover) c.self.view_is in
    let known : second_pick c.args.self.now.day c.args.self.now.picks c.args.handover < length (compositions_of c.args.self.now.day) = second_known c.args.self.now.day c.args.self.now.picks it.accepted.links it.follow c.args.handover here in
    let pair = second_first c.args.self.now.day c.args.self.now.picks c.args.handover c.part.inside.0 is here known (omega arith) in
    let low : c.args.first + c.second.inside.0 ≡ c.args.first + second_pick c.args.self.now.day c.args.self.now.picks c.args.handover = ap (λ (n : ℕ). c.args.first + n) second in
    mid_past c.args.self.now.day c.args.self.now.picks c.args.handover c.part.inside.0 (second_pick c.args.self.now.day c.args.self.now.picks c.args.handover) c.part.inside.0 (negsuc 0) (pos 1) pair c.args.first c.requires.first c.args.into.now c.requires.slacks (c.args.first + c.second.inside.0) low c.put_slack-then-second-part.new.into c.put_slack-then-second-part.ensures (c.args.first + c.part.inside.0) refl

pub returns-then-part-second-clause-slacks : goal.returns-then-part-second-clause-slacks
returns-then-part-second-clause-slacks c =
    let it = counted_of c.args.self.now c.self.inside.instance.now c.self.inside.graphs.now c.self.inside.ledger.now c.self.inside.picks.now c.self.view_is c.self.invariant in
    let here : c.args.handover < length (handovers_of c.args.self.now.day) = c.requires.handover in
    let is : IsPartAt c.args.self.now.day c.args.self.now.picks c.args.handover c.part.inside.0 =
    subst (λ (x : Counted). IsPartAt x.day x.picks c.args.handover c.part.inside.0) c.self.view_is (subst (λ (p : ℕ). IsPartAt c.self.inside.instance.now c.self.inside.picks.now c.args.handover p) (sym c.part.view_is) c.part_at-part.ensures) in
    let second : c.second.inside.0 ≡ second_pick c.args.self.now.day c.args.self.now.picks c.args.handover =
    c.second.view_is ∙ c.second_at-second.ensures ∙ ap (λ (x : Counted). second_pick x.day x.picks c.args.handover) c.self.view_is in
    let known : second_pick c.args.self.now.day c.args.self.now.picks c.args.handover < length (compositions_of c.args.self.now.day) = second_known c.args.self.now.day c.args.self.now.picks it.accepted.links it.follow c.args.handover here in
    let pair = part_first c.args.self.now.day c.args.self.now.picks c.args.handover c.part.inside.0 is here known (omega arith) in
    let high : c.args.first + c.second.inside.0 ≡ c.args.first + second_pick c.args.self.now.day c.args.self.now.picks c.args.handover = ap (λ (n : ℕ). c.args.first + n) second in
    pair_entered c.args.self.now.day c.args.self.now.picks c.args.handover c.part.inside.0 c.part.inside.0 (second_pick c.args.self.now.day c.args.self.now.picks c.args.handover) (pos 1) (negsuc 0) pair c.args.first c.requires.first c.args.into.now c.requires.slacks (c.args.first + c.part.inside.0) refl c.put_slack.new.into c.put_slack.ensures (c.args.first + c.second.inside.0) c.put_slack-then-part-second.new.into high c.put_slack-then-part-second.ensures

pub returns-then-second-part-clause-slacks : goal.returns-then-second-part-clause-slacks
returns-then-second-part-clause-slacks c =
    let it = counted_of c.args.self.now c.self.inside.instance.now c.self.inside.graphs.now c.self.inside.ledger.now c.self.inside.picks.now c.self.view_is c.self.invariant in
    let here : c.args.handover < length (handovers_of c.args.self.now.day) = c.requires.handover in
    let is : IsPartAt c.args.self.now.day c.args.self.now.picks c.args.handover c.part.inside.0 =
    subst (λ (x : Counted). IsPartAt x.day x.picks c.args.handover c.part.inside.0) c.self.view_is (subst (λ (p : ℕ). IsPartAt c.self.inside.instance.now c.self.inside.picks.now c.args.handover p) (sym c.part.view_is) c.part_at-part.ensures) in
    let second : c.second.inside.0 ≡ second_pick c.args.self.now.day c.args.self.now.picks c.args.handover =
    c.second.view_is ∙ c.second_at-second.ensures ∙ ap (λ (x : Counted). second_pick x.day x.picks c.args.handover) c.self.view_is in
    let known : second_pick c.args.self.now.day c.args.self.now.picks c.args.handover < length (compositions_of c.args.self.now.day) = second_known c.args.self.now.day c.args.self.now.picks it.accepted.links it.follow c.args.handover here in
    let pair = second_first c.args.self.now.day c.args.self.now.picks c.args.handover c.part.inside.0 is here known (omega arith) in
    let low : c.args.first + c.second.inside.0 ≡ c.args.first + second_pick c.args.self.now.day c.args.self.now.picks c.args.handover = ap (λ (n : ℕ). c.args.first + n) second in
    pair_entered c.args.self.now.day c.args.self.now.picks c.args.handover c.part.inside.0 (second_pick c.args.self.now.day c.args.self.now.picks c.args.handover) c.part.inside.0 (negsuc 0) (pos 1) pair c.args.first c.requires.first c.args.into.now c.requires.slacks (c.args.first + c.second.inside.0) low c.put_slack-then-second-part.new.into c.put_slack-then-second-part.ensures (c.args.first + c.part.inside.0) c.put_slack-then-second-part-2.new.into refl c.put_slack-then-second-part-2.ensures

pub returns-else-second-part-clause-slacks : goal.returns-else-second-part-clause-slacks
returns-else-second-part-clause-slacks c =
    let it = counted_of c.args.self.now c.self.inside.instance.now c.self.inside.graphs.now c.self.inside.ledger.now c.self.inside.picks.now c.self.view_is c.self.invariant in
    let here : c.args.handover < length (handovers_of c.args.self.now.day) = c.requires.handover in
    let is : IsPartAt c.args.self.now.day c.args.self.now.picks c.args.handover c.part.inside.0 =
    subst (λ (x : Counted). IsPartAt x.day x.picks c.args.handover c.part.inside.0) c.self.view_is (subst (λ (p : ℕ). IsPartAt c.self.inside.instance.now c.self.inside.picks.now c.args.handover p) (sym c.part.view_is) c.part_at-part.ensures) in
    let second : c.second.inside.0 ≡ second_pick c.args.self.now.day c.args.self.now.picks c.args.handover =
    c.second.view_is ∙ c.second_at-second.ensures ∙ ap (λ (x : Counted). second_pick x.day x.picks c.args.handover) c.self.view_is in
    let known : second_pick c.args.self.now.day c.args.self.now.picks c.args.handover < length (compositions_of c.args.self.now.day) = second_known c.args.self.now.day c.args.self.now.picks it.accepted.links it.follow c.args.handover here in
    let same : second_pick c.args.self.now.day c.args.self.now.picks c.args.handover ≡ c.part.inside.0 = omega arith in
    c.requires.slacks ∙ ap (entered c.args.self.now.day c.args.self.now.picks) c.requires.first ∙ sym (no_entry c.args.self.now.day c.args.self.now.picks c.args.handover c.part.inside.0 is here same)
