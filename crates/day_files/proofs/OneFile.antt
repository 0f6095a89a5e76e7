-- The path of a file in a folder below a folder.
use Rattle.std.proofs.Common.{ℕ, refl, append_assoc, ap, ◌∙◌, ◌++◌}
use Rattle.std.specs.Prelude.{codes}
use Rattle.day_files.specs.OneFile.{PathsNest}

pub paths_nest : PathsNest
paths_nest dir below name =
    append_assoc dir (codes "/" ++ below) (codes "/" ++ name) ∙ ap (λ rest. dir ++ rest) (append_assoc (codes "/") below (codes "/" ++ name))
