use Rattle.std.proofs.Common.{◌≡◌, ℕ, true, false, List, Some, sym, subst, ap, ◌∙◌}
use Rattle.std.specs.Str.{bytes_eq}
use Rattle.rail_io.proofs.Finding.{first_with-is_held, first_with-here, first_with-later}
use Rattle.rail_io.proofs.memory.find_file.Goals as goal

pub loop-file-init : goal.loop-file-init
loop-file-init c = first_with-is_held c.args.path.now c.args.files.now

pub returns-then-eq : goal.returns-then-eq
returns-then-eq c =
    let passes : bytes_eq c.args.path.now c.file-item.result.path ≡ true =
    subst (λ (path : List ℕ). bytes_eq c.args.path.now path ≡ true) c.as_str.ensures.value (sym c.eq.ensures ∙ c.if-eq.true) in
    sym c.loop-file.invariant ∙ first_with-here _ _ _ _ c.loop-file-test.true c.file-item.is passes ∙ ap Some (sym c.items.ensures)

pub loop-file-preserved : goal.loop-file-preserved
loop-file-preserved c =
    let fails : bytes_eq c.args.path.now c.file-item.result.path ≡ false =
    subst (λ (path : List ℕ). bytes_eq c.args.path.now path ≡ false) c.as_str.ensures.value (sym c.eq.ensures ∙ c.if-eq.false) in
    sym (first_with-later _ _ _ _ c.loop-file-test.true c.file-item.is fails) ∙ c.loop-file.invariant
