-- The best naming: what is known of a flow through the network of legs, of its cut, and of the plan that is made of it.
use Rattle.std.proofs.Common.{◌≡◌, ◌+◌, ◌≤◌, ℕ, List, Bool, ◌++◌, length, length-append, map, Some, None, ap, sym, subst, ◌∙◌, arith}
use Rattle.std.proofs.lemmas.List.{length-map}
use Rattle.flow_network.specs.declared.network.Arc.{Arc}
use Rattle.flow_network.specs.Flows.{IsFlow, IsReach, IsSameNet, Net, empty}
use Rattle.timetable.specs.Accepted.{IsDay, AreLinks, DoMeet}
use Rattle.timetable.specs.Day.{Day, types_of}
use Rattle.timetable.specs.Lists.{joined}
use Rattle.timetable.specs.Running.{Runs}
use Rattle.urgent_units.specs.declared.best_naming.Swapped.{Swapped}
use Rattle.urgent_units.specs.declared.swaps.Yards.{Yards}
use Rattle.urgent_units.specs.declared.wish.Wish.{Wish}
use Rattle.urgent_units.specs.Answers.{BringsMost}
use Rattle.urgent_units.specs.Cuts.{HasMoments, cut_value, value_of}
use Rattle.urgent_units.specs.LegParts.{AreLegs}
use Rattle.urgent_units.specs.Legs.{TypeLegs, all_legs, legs_of}
use Rattle.urgent_units.specs.Namings.{brought}
use Rattle.urgent_units.specs.UnderWay.{Advances, IsUnderWay, legs_left}
use Rattle.urgent_units.specs.Wishes.{IsWish}
use Rattle.urgent_units.specs.YardFlow.{AreAtHome}
use Rattle.urgent_units.specs.YardNetwork.{home_arc, leg_arc, reached_cut, source_of, wait_arcs, yard_network}
use Rattle.urgent_units.proofs.CutLaw.{cuts_bound_namings}
use Rattle.urgent_units.proofs.CutNodes.{reached_has}
use Rattle.urgent_units.proofs.EndSums.{brings_value, has_value, naming}
use Rattle.urgent_units.proofs.FlowSums.{empty_yard_arcs}
use Rattle.urgent_units.proofs.StartSums.{start_way}

module _ (day : Day) (plan : List (List ℕ)) (wish : Wish) (is_day : IsDay day) (links : AreLinks day) (meet : DoMeet day) (is_wish : IsWish day wish) (runs : Runs day plan)
    (legs : TypeLegs) (legs_are : legs ≡ legs_of day plan wish.unit_type) (are : AreLegs legs) (network net : Net) (network_is : network ≡ yard_network day legs wish) (same : IsSameNet network net) (flow : IsFlow net) where
  abbrev its_legs : TypeLegs
  its_legs = legs_of day plan wish.unit_type

  its_are : AreLegs its_legs
  its_are = subst AreLegs legs_are are

  its_same : IsSameNet (yard_network day its_legs wish) net
  its_same = subst (λ (n : Net). IsSameNet n net) (network_is ∙ ap (λ (l : TypeLegs). yard_network day l wish) legs_are) same

  pub nodes_are : net.nodes ≡ source_of legs + 1
  unfolding yard_network
  nodes_are = same.nodes ∙ ap (λ (n : Net). n.nodes) network_is

  arcs_same : map empty net.arcs ≡ map empty network.arcs
  arcs_same = same.arcs

  arcs_are : map empty net.arcs ≡ map (leg_arc legs) (all_legs legs) ++ (map (home_arc day legs) wish.units ++ joined (wait_arcs legs) legs.stations)
  unfolding yard_network
  arcs_are = arcs_same ∙ ap (λ (n : Net). map empty n.arcs) network_is ∙ empty_yard_arcs day legs wish

  -- there are arcs for all legs and all urgent units
  pub arcs_enough : length (all_legs legs) + length wish.units ≤ length net.arcs
  arcs_enough =
      let ls = map (leg_arc legs) (all_legs legs) in
      let hs = map (home_arc day legs) wish.units in
      let ws = joined (wait_arcs legs) legs.stations in
      let long = sym (length-map net.arcs empty) ∙ ap (λ (arcs : List Arc). length arcs) arcs_are in
      let one = length-append ls (hs ++ ws) in
      let two = length-append hs ws in
      let by_legs = length-map (all_legs legs) (leg_arc legs) in
      let by_homes = length-map wish.units (home_arc day legs) in
      omega (arith, long, one, two, by_legs, by_homes)

  module _ (reached : List Bool) (reach : IsReach net reached) (cut : List (List Bool)) (cut_is : cut ≡ reached_cut legs reached) where
    pub reached_long : length reached ≡ source_of legs + 1
    reached_long = reach.nodes ∙ nodes_are

    pub cut_has : HasMoments legs cut
    cut_has = subst (HasMoments legs) (sym cut_is) (reached_has legs reached)

    its_cut_has : HasMoments its_legs cut
    its_cut_has = subst (λ (l : TypeLegs). HasMoments l cut) legs_are cut_has

    its_cut : cut ≡ reached_cut its_legs reached
    its_cut = cut_is ∙ ap (λ (l : TypeLegs). reached_cut l reached) legs_are

    its_value : value_of day legs wish cut ≡ value_of day its_legs wish (reached_cut its_legs reached)
    its_value = ap (λ (l : TypeLegs). value_of day l wish cut) legs_are ∙ ap (value_of day its_legs wish) its_cut

    -- the cut has a value
    pub not_none : value_of day legs wish cut ≡ None → ⊥
    not_none none =
        let some = has_value day plan wish is_day links meet is_wish runs net its_are its_same flow reached reach in
        let both : None ≡ Some (cut_value day its_legs wish (reached_cut its_legs reached)) = sym none ∙ its_value ∙ some in
        absurd (none_some both)
      where
        none_some : {n : ℕ} → None ≡ Some n → ⊥
        none_some e = absurd cc

    module _ (start end : Yards) (home : AreAtHome plan legs wish net.arcs start) where
      its_home : AreAtHome plan its_legs wish net.arcs start
      its_home = subst (λ (l : TypeLegs). AreAtHome plan l wish net.arcs start) legs_are home

      pub begins : IsUnderWay day start
      begins = start_way day plan wish is_day links meet is_wish runs net its_are its_same flow start its_home

      pub brings_most : IsUnderWay day end → Advances day start end → legs_left end ≡ 0 → (count : ℕ) → value_of day legs wish cut ≡ Some count → (swapped : Swapped)
          → swapped.plan ≡ end.plan → swapped.count ≡ count → swapped.cut ≡ cut → BringsMost day plan wish swapped
      brings_most way on none count is swapped plan_is count_is swapped_cut =
          let its = naming day plan wish is_day links meet is_wish runs net its_are its_same flow start end its_home way on none in
          let value : value_of day its_legs wish (reached_cut its_legs reached) ≡ Some count = sym its_value ∙ is in
          let brings = brings_value day plan wish is_day links meet is_wish runs net its_are its_same flow start end its_home way on none reached reach count value in
          record {
            runs = subst (Runs day) (sym plan_is) its.runs;
            types = ap (map (types_of day)) plan_is ∙ its.types;
            brings = ap (brought day wish) plan_is ∙ brings ∙ sym count_is;
            moments = subst (HasMoments its_legs) (sym swapped_cut) its_cut_has;
            cut = ap (value_of day its_legs wish) (swapped_cut ∙ its_cut) ∙ value ∙ ap (λ (n : ℕ). Some n) (sym count_is);
            best = λ other named. subst (λ (n : ℕ). brought day wish other ≤ n) (sym count_is)
                (cuts_bound_namings day plan other wish (reached_cut its_legs reached) count is_day links meet is_wish runs named value);
          }
