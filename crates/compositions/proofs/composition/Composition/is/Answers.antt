use Rattle.std.proofs.Common.{◌≡◌, ◌∙◌, sym}
use Rattle.std.specs.Bool.{Decides}
use Rattle.std.proofs.lemmas.Slice.Eq.{slice_eq-Decides}
use Rattle.std.proofs.lemmas.Bool.Decides.{Decides-eqb}
use Rattle.compositions.proofs.composition.Composition.is.Goals as goal

pub returns : goal.returns
returns c =
    let d : Decides c.eq.result (c.units.result.now ≡ c.units-2.result.now) = slice_eq-Decides Decides-eqb _ _ _ c.eq.ensures in (
      λ h. sym c.units.ensures.value ∙ d.0 h ∙ c.units-2.ensures.value,
      λ e. d.1 (c.units.ensures.value ∙ e ∙ sym c.units-2.ensures.value),
    )
