use Rattle.std.proofs.Common.{◌≡◌, List, ℕ, length, ◌∙◌, sym, ap}
use Rattle.compositions.specs.Catalogue.{comes_before}
use Rattle.compositions.proofs.Order.{before_by_slices}
use Rattle.compositions.proofs.composition.Composition.is_before.Goals as goal

pub returns : goal.returns
returns c =
    let same_length : length c.units.result.now ≡ length c.units-2.result.now =
    ap length c.units.ensures.value ∙ sym c.len.ensures.value ∙ c.if-len.false ∙ c.len-2.ensures.value ∙ sym (ap length c.units-2.ensures.value) in
    before_by_slices c.units.result.now c.units-2.result.now c.lt.result same_length c.lt.ensures
    ∙ ap (λ (ms : List ℕ). comes_before ms c.units-2.result.now) c.units.ensures.value
    ∙ ap (λ (ms : List ℕ). comes_before c.args.self.now ms) c.units-2.ensures.value
