-- A trip more is one of those that still followed; at the end none follows.
use Rattle.std.proofs.Common.{◌≡◌, ◌∙◌, ◌-◌, ◌+◌, ◌<◌, ◌++◌, [], ◌∷◌, ℕ, suc, List, length, Option, Some, None, refl}
use Rattle.std.proofs.Common.{sym, ap, arith, append_assoc, append-nil}
use Rattle.std.specs.Prelude.{IfSome}
use Rattle.timetable.specs.Chains.{next_in, follow, chain_from}
use Rattle.timetable.proofs.WholeChains.{follow_none}
use Rattle.timetable.proofs.day.chains.chain_from.Goals.{else-loop-test, then-loop-test+in_default}
use Rattle.timetable.proofs.day.chains.chain_from.Goals as goal

one_more : (next : ℕ → Option ℕ) (left fewer : ℕ) (before after whole : List ℕ) (following o : Option ℕ) (t : ℕ) → left ≡ suc fewer → following ≡ Some t → after ≡ before ++ t ∷ [] → o ≡ next t
    → before ++ follow next left following ≡ whole → after ++ follow next fewer o ≡ whole
one_more next left fewer before after whole following o t count is pushed follows so_far =
    ap (λ (trips : List ℕ). trips ++ follow next fewer o) pushed
    ∙ append_assoc before (t ∷ []) (follow next fewer o)
    ∙ ap (λ (p : Option ℕ). before ++ t ∷ follow next fewer p) follows
    ∙ ap (λ (n : ℕ). before ++ follow next n (Some t)) (sym count)
    ∙ ap (λ (p : Option ℕ). before ++ follow next left p) (sym is)
    ∙ so_far

at_end : (next : ℕ → Option ℕ) (left : ℕ) (before whole : List ℕ) (following : Option ℕ) → follow next left following ≡ [] → before ++ follow next left following ≡ whole → before ≡ whole
at_end next left before whole following none so_far = sym (append-nil before) ∙ ap (λ (trips : List ℕ). before ++ trips) (sym none) ∙ so_far

each_known : (o : Option ℕ) (n : ℕ) → ((b : ℕ) → o ≡ Some b → b < n) → IfSome o (λ t. t < n)
each_known None n known = tt
each_known (Some b) n known = known b refl

pub loop-preserved : goal.loop-preserved
loop-preserved c =
    let trips : ℕ = length c.args.outgoing.now in (
      one_more (next_in c.args.links.now) (trips - c.loop.counter) (trips - (c.loop.counter + 1)) c.loop.trips.items c.push.new.self.items
          (chain_from c.args.links.now trips c.args.first) c.loop.following c.next_in-following.result c.in-Some.trip
          (let more : c.loop.counter < length c.args.outgoing.now = omega arith in omega arith) c.in-Some.is c.in_ok-push.ensures.items c.next_in-following.ensures c.loop.invariant.0,
      each_known c.next_in-following.result trips (λ b is. c.requires.known c.in-Some.trip b (sym c.next_in-following.ensures ∙ is)),
    )

pub returns : goal.returns
returns c =
    let trips : ℕ = length c.args.outgoing.now in
    let whole : List ℕ = chain_from c.args.links.now trips c.args.first in
    elim c.loop-test.branch [
      | else-loop-test w ↦
          let none : trips - c.loop.counter ≡ 0 = omega arith in
          at_end (next_in c.args.links.now) (trips - c.loop.counter) c.loop.trips.items whole c.loop.following
          (ap (λ (n : ℕ). follow (next_in c.args.links.now) n c.loop.following) none) c.loop.invariant.0
      | then-loop-test+in_default w ↦
          at_end (next_in c.args.links.now) (trips - c.loop.counter) c.loop.trips.items whole c.loop.following
          (ap (λ (o : Option ℕ). follow (next_in c.args.links.now) (trips - c.loop.counter) o) w.in_default.is ∙ follow_none (next_in c.args.links.now) (trips - c.loop.counter)) c.loop.invariant.0
    ]
