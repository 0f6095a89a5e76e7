use Rattle.std.proofs.Common.{arith, ◌∙◌}
use Rattle.std.proofs.lemmas.Result.{err_from_is_err_and}
use Rattle.compositions.specs.Catalogue.{IsCatalogue}
use Rattle.compositions.proofs.Building.{first_grown, next_grown, first_too_many, next_too_many, next_is}
use Rattle.compositions.proofs.Fitting.{catalogue_done, one_catalogue}
use Rattle.compositions.proofs.Listing.{catalogue_listed}
use Rattle.compositions.proofs.catalogue.Catalogue.build.Goals as goal

pub returns-in_err-add_extensions-clause-too_many :
    goal.returns-in_err-add_extensions-clause-too_many
returns-in_err-add_extensions-clause-too_many c =
    let p = err_from_is_err_and c.from_residual.result c.from_residual.ensures.1 in
    rw (p.1, p.2) (λ e. first_too_many c.args.types.now c.args.longest c.new-compositions.result.items
    c.new-compositions.ensures.items (c.in_err-add_extensions.ensures.too_many e))

pub loop-next-init : goal.loop-next-init
loop-next-init c = (
  first_grown c.args.types.now c.args.longest c.new-compositions.result.items c.add_extensions.new.compositions.items
      c.new-compositions.ensures.items c.in_ok-add_extensions.ensures.ok,
  c.in_ok-add_extensions.ensures.within,
)

pub returns-in_err-add_extensions-2-clause-too_many :
    goal.returns-in_err-add_extensions-2-clause-too_many
returns-in_err-add_extensions-2-clause-too_many c =
    let p = err_from_is_err_and c.from_residual-in_err-add_extensions-2.result c.from_residual-in_err-add_extensions-2.ensures.1 in
    rw (p.1, p.2) (λ e. next_too_many c.args.types.now c.args.longest c.loop-next.compositions.items c.loop-next.next c.units.result.now
    c.loop-next.invariant.0 (omega arith)
    (next_is c.loop-next.compositions.items c.loop-next.next c.index.result.now c.units.result.now (c.units.ensures.value ∙ c.copied-front.ensures) c.index.ensures)
    (c.in_err-add_extensions-2.ensures.too_many e))

pub loop-next-preserved : goal.loop-next-preserved
loop-next-preserved c = (
  next_grown c.args.types.now c.args.longest c.loop-next.compositions.items c.add_extensions-in-loop-next.new.compositions.items c.loop-next.next c.units.result.now
      c.loop-next.invariant.0 (omega arith)
      (next_is c.loop-next.compositions.items c.loop-next.next c.index.result.now c.units.result.now (c.units.ensures.value ∙ c.copied-front.ensures) c.index.ensures)
      c.in_ok-add_extensions-2.ensures.ok,
  c.in_ok-add_extensions-2.ensures.within,
)

pub invariant_of-result : goal.invariant_of-result
invariant_of-result c =
    let done : IsCatalogue c.args.types.now c.args.longest c.loop-next.compositions.items =
    catalogue_done c.args.types.now c.args.longest c.loop-next.compositions.items c.loop-next.next c.loop-next.invariant.0 (omega arith) in
    (c.loop-next.invariant.1, done.listed.in_order)

pub returns-clause-ok : goal.returns-clause-ok
returns-clause-ok c =
    one_catalogue c.args.types.now c.args.longest c.loop-next.compositions.items _
    (catalogue_done c.args.types.now c.args.longest c.loop-next.compositions.items c.loop-next.next c.loop-next.invariant.0 (omega arith))
    (catalogue_listed c.args.types.now c.args.longest)

pub returns-in_err-add_extensions-clause-law : goal.returns-in_err-add_extensions-clause-law
returns-in_err-add_extensions-clause-law c = catalogue_listed c.args.types.now c.args.longest

pub returns-in_err-add_extensions-2-clause-law : goal.returns-in_err-add_extensions-2-clause-law
returns-in_err-add_extensions-2-clause-law c = catalogue_listed c.args.types.now c.args.longest

pub returns-clause-law : goal.returns-clause-law
returns-clause-law c = catalogue_listed c.args.types.now c.args.longest
