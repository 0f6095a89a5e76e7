use Rattle.std.proofs.Common.{◌≤◌, false, length, sym, ◌∙◌, ap, arith, ⊎_elim, rules}
use Rattle.std.proofs.lemmas.Bool.{cases_lt}
use Rattle.rail_base.specs.declared.limits.TheConstants.{MAX_COMPOSITIONS}
use Rattle.timetable.specs.Admissible.{is_admissible}
use Rattle.timetable.specs.Compositions.{compositions_of, composition_at}
use Rattle.branch_tree.specs.Sets.{is_member}
use Rattle.branch_tree.proofs.Admitted.{none_past}
use Rattle.branch_tree.proofs.Members.{length-tested, none-tested, is_tested}
use Rattle.branch_tree.proofs.regions.admissible_set.Goals as goal

pub loop-comp-init : goal.loop-comp-init
loop-comp-init c = record {
  all = ap length c.empty-set.ensures ∙ length-tested (λ comp. false) MAX_COMPOSITIONS;
  asked = λ comp below. absurd (omega (arith, below));
  others = λ comp _. ap (λ set. is_member set comp) c.empty-set.ensures ∙ none-tested MAX_COMPOSITIONS comp;
}

pub returns : goal.returns
returns c =
    let day = c.args.instance.now in
    let end : length (compositions_of day) ≤ c.loop-comp.comp = omega (arith, ap length c.catalogue.ensures) in
    is_tested (λ comp. is_admissible day c.args.trip (composition_at day comp)) MAX_COMPOSITIONS c.loop-comp.set c.loop-comp.invariant.all
    (λ comp _. ⊎_elim (λ below. c.loop-comp.invariant.asked comp below)
    (λ past. c.loop-comp.invariant.others comp past ∙ sym (none_past day c.args.trip comp (omega (arith, end, past))))
    (cases_lt comp c.loop-comp.comp))

pub loop-comp-preserved : goal.loop-comp-preserved
loop-comp-preserved c = search rules
