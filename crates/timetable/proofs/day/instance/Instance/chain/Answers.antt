-- The chain is one of those of an accepted day.
use Rattle.std.proofs.Common.{◌≡◌, ℕ, ◌<◌, List, length, get_or, refl, sym, ap, subst, arith}
use Rattle.std.specs.List.{All}
use Rattle.timetable.specs.Chains.{IsChain, chains_of}
use Rattle.timetable.specs.Day.{Day}
use Rattle.timetable.specs.InstanceParts.{day_in}
use Rattle.timetable.proofs.WholeChains.{are_chains}
use Rattle.timetable.proofs.Within.{entry_has, chains_within}
use Rattle.timetable.proofs.day.instance.Instance.chain.Goals as goal

-- what all chains have, this one has
one_chain : (day now : Day) (P : List ℕ → Type 0) (chains : List (List ℕ)) (number : ℕ) (chain read : List ℕ) → All P (chains_of day) → chains ≡ chains_of day → day ≡ now → number < length (chains_of now)
    → chain ≡ read → read ≡ get_or chains number read → P chain
one_chain day now P chains number chain read all are same below is at =
    let within : number < length chains = omega (arith, ap (λ (day : Day). length (chains_of day)) same, ap (λ (xs : List (List ℕ)). length xs) are) in
    subst P (sym is) (entry_has P chains number number read (subst (All P) (sym are) all) refl within at)

pub returns-clause-whole : goal.returns-clause-whole
returns-clause-whole c =
    let day : Day = day_in c.self.inside in
    rw (← c.self.view_is)
    (one_chain day c.args.self.now (IsChain day) c.self.inside.chains.items c.args.chain c.items.result.now c.index.result.now (are_chains day c.self.invariant.links c.self.invariant.day).each
    c.self.invariant.chains c.self.view_is c.requires c.items.ensures c.index.ensures)

pub returns-clause-within : goal.returns-clause-within
returns-clause-within c =
    let day : Day = day_in c.self.inside in
    rw (← c.self.view_is)
    (one_chain day c.args.self.now (λ chain. All (λ t. t < length day.trips) chain) c.self.inside.chains.items c.args.chain c.items.result.now c.index.result.now
    (chains_within day (chains_of day) (are_chains day c.self.invariant.links c.self.invariant.day)) c.self.invariant.chains c.self.view_is c.requires c.items.ensures c.index.ensures)
