use Rattle.branch_tree.specs.declared.cuts.Cut.TheVariants.{Only}
use Rattle.worked_answers.proofs.KeptRegions.{kept_side}
use Rattle.worked_answers.proofs.kept.kept_region.Goals as goal

pub cut-requires : goal.cut-requires
cut-requires c = c.is_proper.ensures.0 c.if-not-is_proper.false

pub returns : goal.returns
returns c =
    kept_side c.args.day.now c.catalogue-known.result.now (Only c.args.trip c.args.comp) c.in_ok-region.region
    c.cut.new.self c.regions_are_over_their_day.ensures.roots c.regions_are_over_their_day.ensures.sides
    c.roots_have_all_solutions.ensures.filled c.sides_are_filled.ensures.law c.is_sound.ensures c.in_ok-region.ensures
    (c.is_proper.ensures.0 c.if-not-is_proper.false) c.cut.ensures.region
