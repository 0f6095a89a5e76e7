-- Where a check is in a tree: the nodes to come, the region of the next, and the sides that led to it.
use Rattle.std.proofs.Common.{◌≡◌, ℕ, ◌+◌, ◌<◌, List, Bool, [], ◌∷◌, ◌++◌, length, All, drop, slice_get, Some, refl}
use Rattle.std.proofs.Common.{sym, ◌∙◌, ap, subst}
use Rattle.branch_tree.specs.declared.tree.Node.{Node}
use Rattle.branch_tree.specs.Claims.{IsProvedAt}
use Rattle.branch_tree.specs.Meanings.{Meanings}
use Rattle.branch_tree.specs.Trees.{IsWhole, cut_of, nodes_in, regions_below}
use Rattle.cert_check.specs.declared.path.TakenSide.{TakenSide}
use Rattle.cert_check.specs.declared.verdict.Reason.{Reason}
use Rattle.cert_check.specs.Paths.{root_from, left_in, AreTaken, IsAtFirst}
use Rattle.cert_check.specs.Reasons.{node_tests, tests_from}
use Rattle.cert_check.specs.Tests.{FirstFails}
use Rattle.cert_check.proofs.OnTheWay.{IsOnWay, HasNext, has_next, way_begins, goes_on_at, stops_at}
use Rattle.cert_check.proofs.Retracing.{length-root_from, taken_inside}

-- the sides led from a root to the first of the regions to come, and their marks lead back
pub record IsLed (catalogue : List (List ℕ)) (regions : List (List (List Bool))) (root : List (List Bool))
    (taken : List TakenSide) (region : List (List Bool)) : Type 0 where
  pub first : IsAtFirst catalogue regions taken region
  pub back : root_from taken region ≡ root
  pub marks : AreTaken catalogue taken region

pub record IsHere (problem : Meanings) (root : List (List Bool)) (all : List Node) (number : ℕ) (taken : List TakenSide) (region : List (List Bool)) : Type 0 where
  pub regions : List (List (List Bool))
  pub way : IsOnWay problem root all number regions (drop number all)
  pub led : IsLed problem.catalogue regions root taken region

pub begins : (problem : Meanings) (root : List (List Bool)) (all : List Node) (taken : List TakenSide) → IsWhole all → taken ≡ [] → IsHere problem root all 0 taken root
begins problem root all taken whole none = subst (λ some. IsHere problem root all 0 some root) (sym none) (record {
  regions = root ∷ [];
  way = way_begins problem root all whole;
  led = record { first = (refl, refl); back = refl; marks = tt };
})

pub length_here : (problem : Meanings) (root : List (List Bool)) (all : List Node) (number : ℕ) (taken : List TakenSide) (region : List (List Bool)) → IsHere problem root all number taken region → length region ≡ length root
length_here problem root all number taken region here = sym (length-root_from taken region) ∙ ap length here.led.back

pub inside_here : (problem : Meanings) (root : List (List Bool)) (all : List Node) (number : ℕ) (taken : List TakenSide) (region : List (List Bool)) → IsHere problem root all number taken region →
    All (λ one. one.mark.trip < length region) taken
inside_here problem root all number taken region here = taken_inside problem.catalogue taken region here.led.marks

ahead : (catalogue : List (List ℕ)) (regions : List (List (List Bool))) (taken : List TakenSide) (region : List (List Bool)) → HasNext regions → IsAtFirst catalogue regions taken region →
    regions ≡ region ∷ left_in catalogue taken region
ahead catalogue [] taken region next first = absurd (nothing next.region next.rest next.is)
  where
    nothing : (r : List (List Bool)) (rs : List (List (List Bool))) → ◌≡◌ {A = List (List (List Bool))} [] (r ∷ rs) → ⊥
    nothing r rs same = absurd (cc)
ahead catalogue (one ∷ regions) taken region next first = ap (λ r. r ∷ regions) (sym first.0) ∙ ap (λ rs. region ∷ rs) (sym first.1)

way_here : (problem : Meanings) (root : List (List Bool)) (all : List Node) (number : ℕ) (taken : List TakenSide) (region : List (List Bool)) (node : Node) →
    number < length all → slice_get all number ≡ Some node → IsHere problem root all number taken region → IsOnWay problem root all number (region ∷ left_in problem.catalogue taken region) (drop number all)
way_here problem root all number taken region node inside at here =
    subst (λ regions. IsOnWay problem root all number regions (drop number all))
    (ahead problem.catalogue here.regions taken region (has_next problem root all number here.regions node inside at here.way) here.led.first) here.way

pub stops : (problem : Meanings) (root : List (List Bool)) (all : List Node) (number : ℕ) (taken : List TakenSide) (region : List (List Bool)) (node : Node) (reason : Reason) →
    number < length all → slice_get all number ≡ Some node → IsHere problem root all number taken region → FirstFails (node_tests problem number region node) reason →
    FirstFails (tests_from problem 0 (nodes_in cut_of problem.catalogue (root ∷ []) all)) reason
stops problem root all number taken region node reason inside at here fails =
    stops_at problem root all number region (left_in problem.catalogue taken region) node reason inside at fails (way_here problem root all number taken region node inside at here)

-- the way from a node that passed its tests to the next
pub record GoesOn (catalogue : List (List ℕ)) (node : Node) (taken : List TakenSide) (region : List (List Bool)) (new : List TakenSide) (next : List (List Bool)) : Type 0 where
  pub first : IsAtFirst catalogue (regions_below catalogue region (cut_of node) ++ left_in catalogue taken region) new next
  pub back : root_from new next ≡ root_from taken region
  pub marks : AreTaken catalogue new next

pub goes_on : (problem : Meanings) (root : List (List Bool)) (all : List Node) (number : ℕ) (taken : List TakenSide) (region : List (List Bool)) (node : Node) (new : List TakenSide) (next : List (List Bool)) →
    number < length all → slice_get all number ≡ Some node → IsHere problem root all number taken region → IsProvedAt problem region node →
    GoesOn problem.catalogue node taken region new next → IsHere problem root all (number + 1) new next
goes_on problem root all number taken region node new next inside at here proved on = record {
  regions = regions_below problem.catalogue region (cut_of node) ++ left_in problem.catalogue taken region;
  way = goes_on_at problem root all number region (left_in problem.catalogue taken region) node inside at proved (way_here problem root all number taken region node inside at here);
  led = record { first = on.first; back = on.back ∙ here.led.back; marks = on.marks };
}
