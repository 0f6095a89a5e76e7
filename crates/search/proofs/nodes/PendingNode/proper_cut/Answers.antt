use Rattle.std.proofs.Common.{◌≡◌, Some, subst, arith}
use Rattle.std.proofs.lemmas.Bool.{both_ways}
use Rattle.branch_tree.specs.declared.cuts.Cut.{Cut}
use Rattle.branch_tree.specs.Cuts.{IsProper}
use Rattle.search.proofs.Choosing.{cut_by_pick, length-inside, own_by_pick}
use Rattle.search.proofs.nodes.PendingNode.proper_cut.Goals.{in-Some+else-is_proper, in_default}
use Rattle.search.proofs.nodes.PendingNode.proper_cut.Goals as goal

pub get-requires : goal.get-requires
get-requires c = omega (arith, length-inside c.args.self.now.picks c.args.self.now.region c.requires.inside, c.divisible_trip-trip.ensures.within)

pub returns-clause-proper : goal.returns-clause-proper
returns-clause-proper c =
    cut_by_pick c.args.catalogue.now c.args.self.now.picks c.args.self.now.region c.divisible_trip-trip.result c.get.result c.requires.inside c.requires.within
    c.divisible_trip-trip.ensures.within c.divisible_trip-trip.ensures.several c.get.ensures

pub returns-clause-own : goal.returns-clause-own
returns-clause-own c =
    let none : (asked : Cut) → c.args.self.now.cut ≡ Some asked → IsProper c.args.catalogue.now c.args.self.now.region asked → ⊥ =
    elim c.match-self.branch as (λ _. (asked : Cut) → c.args.self.now.cut ≡ Some asked → IsProper c.args.catalogue.now c.args.self.now.region asked → ⊥) [
      | in-Some+else-is_proper w ↦ λ asked same proper.
          let cut_is : asked ≡ w.in-Some.cut = cc in
          both_ways w.is_proper.result w.if-is_proper.false (w.is_proper.ensures.1 (subst (λ (cut : Cut). IsProper c.args.catalogue.now c.args.self.now.region cut) cut_is proper))
      | in_default w ↦ λ asked same proper. w.in_default.not-Some asked same
    ] in
    own_by_pick c.args.catalogue.now c.args.self.now c.divisible_trip-trip.result c.get.result none c.divisible_trip-trip.ensures c.get.ensures
