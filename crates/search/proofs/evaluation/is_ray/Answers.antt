use Rattle.std.proofs.Common.{[]}
use Rattle.search.proofs.Evaluating.{ray_test}
use Rattle.search.proofs.evaluation.is_ray.Goals as goal

pub returns-clause-ray : goal.returns-clause-ray
returns-clause-ray g c = ray_test _ _ _ _ [] _ _ c.in-Value.ensures.bound c.is_positive.ensures
