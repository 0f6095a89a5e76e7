use Rattle.std.proofs.Common.{◌≡◌, ℕ, List, sym, subst, rules}
use Rattle.std.specs.Prelude.{filter}
use Rattle.std.proofs.lemmas.Fn.{filter_same}
use Rattle.unit_duties.specs.Yards.{AreLeft}
use Rattle.unit_duties.proofs.Leaving.{is_out, are_left}
use Rattle.unit_duties.proofs.naming.keep.Goals as goal

pub returns-clause-left : goal.returns-clause-left
returns-clause-left c =
    let us : List ℕ = c.units-units.result.now in
    let kept : c.retain.new.self.keys ≡ filter (is_out us) c.args.yards.now.keys = filter_same _ (is_out c.units-units.result.now) _ (λ x b f' k. search rules) _ _ c.retain.ensures.filtered in
    let items : c.in_ok-to_vec.field-0.items ≡ us = search rules in
    subst (λ (l : List ℕ). AreLeft l c.args.yards.now c.retain.new.self) (sym items) (are_left us c.args.yards.now c.retain.new.self kept)
