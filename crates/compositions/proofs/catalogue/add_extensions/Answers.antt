use Rattle.std.proofs.Common.{suc}
use Rattle.std.proofs.lemmas.Result.{err_from_is_err_and}
use Rattle.compositions.specs.Composition.{fits_in}
use Rattle.compositions.proofs.Building.{one_type_more}
use Rattle.compositions.proofs.catalogue.add_extensions.Goals as goal

pub returns-in_err-add_extension-clause-too_many :
    goal.returns-in_err-add_extension-clause-too_many
returns-in_err-add_extension-clause-too_many c =
    let p = err_from_is_err_and c.from_residual.result c.from_residual.ensures.1 in
    rw (p.1, p.2) (λ e. (
      suc c.loop-number.number,
      one_type_more (fits_in c.args.types.now c.args.longest) c.args.compositions.now.items c.loop-number.compositions.items c.args.front.now
          c.loop-number.number c.loop-number.invariant.0 (c.in_err-add_extension.ensures.too_many e),
    ))
