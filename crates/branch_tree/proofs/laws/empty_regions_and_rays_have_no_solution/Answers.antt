use Rattle.branch_tree.proofs.Duality.{empty_has_no_solution, rays_have_no_solution}
use Rattle.branch_tree.proofs.laws.empty_regions_and_rays_have_no_solution.Goals as goal

pub returns : goal.returns
returns g c = record {
  empty = λ problem accepted. empty_has_no_solution (g.R.Relaxation.meanings problem) (g.met.R.Relaxation.relaxes problem accepted);
  ray = λ problem accepted. rays_have_no_solution (g.R.Relaxation.meanings problem) (g.met.R.Relaxation.relaxes problem accepted);
}
