-- Tests made one after another: what is passed is valid, and where one stops it is at the first that is failed.
use Rattle.std.proofs.Common.{◌≡◌, ◌≢◌, ℕ, List, [], ◌∷◌, ◌++◌, ℤ, sym, ◌∙◌, ap, subst, inl}
use Rattle.timetable.specs.Day.{Day}
use Rattle.branch_tree.specs.Trees.{IsLeastOf}
use Rattle.fleet_boxes.specs.declared.nodes.BoxNode.{BoxNode}
use Rattle.fleet_boxes.specs.Boxes.{box_of}
use Rattle.fleet_boxes.specs.ProvedBoxes.{values_of}
use Rattle.fleet_check.specs.declared.found.Fleet.{Fleet}
use Rattle.fleet_check.specs.declared.leaves.Leaves.{Leaves}
use Rattle.fleet_check.specs.declared.verdict.FleetVerdict.TheVariants.{SplitsDiffer}
use Rattle.fleet_check.specs.declared.verdict.Stop.{Stop}
use Rattle.fleet_check.specs.declared.verdict.Stop.TheVariants.{Found}
use Rattle.fleet_check.specs.Heads.{DoesFollow}
use Rattle.fleet_check.specs.Tests.{StopsAt, Test}
use Rattle.fleet_check.specs.Verdicts.{DoSplitsDiffer, DoesHeadFail, HasPlanSaid, IsMisshapen, IsValid, IsWhole, fleet_tests}
use Rattle.fleet_check.specs.Verdicts.{plan_tests, price_said, tests_from}
use Rattle.fleet_check.specs.Walks.{AreLeavesOf}
use Rattle.fleet_check.proofs.Passing.{passed_nodes, passed_plan, passed_splits}
use Rattle.fleet_check.proofs.Shapes.{not_misshapen}
use Rattle.fleet_check.proofs.Testing.{stops_behind, stops_front}

module _ (day : Day) (prices : List ℕ) (fleet : Fleet) where
  -- the tests after those of the nodes, and after that of the splits
  abbrev after_splits : List Test
  after_splits =
      plan_tests day prices fleet.chosen (price_said fleet.head) ++ (DoesHeadFail (values_of day prices fleet.boxes) fleet.head ∷ [])

  abbrev after_nodes : List Test
  after_nodes = (DoSplitsDiffer fleet.splits fleet.boxes ∷ []) ++ after_splits

  -- the first tests are passed, and one of those to come is not
  behind_shape : (stop : Stop) → IsWhole fleet.boxes → StopsAt (tests_from day 0 (box_of day ∷ []) fleet.boxes ++ after_nodes) stop
      → StopsAt (fleet_tests day prices fleet) stop
  behind_shape stop whole stops =
      stops_behind (IsMisshapen fleet.boxes ∷ []) (tests_from day 0 (box_of day ∷ []) fleet.boxes ++ after_nodes) stop
      (not_misshapen fleet.boxes whole, tt) stops

  behind_nodes : (stop : Stop) (leaves : Leaves) → IsWhole fleet.boxes → AreLeavesOf day prices fleet.boxes leaves → StopsAt after_nodes stop
      → StopsAt (fleet_tests day prices fleet) stop
  behind_nodes stop leaves whole are stops =
      behind_shape stop whole (stops_behind (tests_from day 0 (box_of day ∷ []) fleet.boxes) after_nodes stop
      (passed_nodes day 0 (box_of day ∷ []) fleet.boxes are.proved) stops)

  pub stops_shape : (nodes : List BoxNode) (stop : Stop) → nodes ≡ fleet.boxes → StopsAt (IsMisshapen nodes ∷ []) stop
      → StopsAt (fleet_tests day prices fleet) stop
  stops_shape nodes stop same stops =
      stops_front (IsMisshapen fleet.boxes ∷ []) (tests_from day 0 (box_of day ∷ []) fleet.boxes ++ after_nodes) stop
      (subst (λ (ns : List BoxNode). StopsAt (IsMisshapen ns ∷ []) stop) same stops)

  pub stops_nodes : (nodes : List BoxNode) (stop : Stop) → nodes ≡ fleet.boxes → IsWhole nodes
      → StopsAt (tests_from day 0 (box_of day ∷ []) nodes) stop → StopsAt (fleet_tests day prices fleet) stop
  stops_nodes nodes stop same whole stops =
      behind_shape stop (subst IsWhole same whole)
      (stops_front (tests_from day 0 (box_of day ∷ []) fleet.boxes) after_nodes stop
      (subst (λ (ns : List BoxNode). StopsAt (tests_from day 0 (box_of day ∷ []) ns) stop) same stops))

  module _ (nodes : List BoxNode) (leaves : Leaves) (stop : Stop) (same : nodes ≡ fleet.boxes) (whole : IsWhole nodes)
      (are : AreLeavesOf day prices nodes leaves) where
    all_are : AreLeavesOf day prices fleet.boxes leaves
    all_are = subst (λ (ns : List BoxNode). AreLeavesOf day prices ns leaves) same are

    pub stops_splits : stop ≡ Found (SplitsDiffer fleet.splits leaves.splits) → fleet.splits ≢ leaves.splits
        → StopsAt (fleet_tests day prices fleet) stop
    stops_splits is differs =
        let fails : StopsAt after_nodes (Found (SplitsDiffer fleet.splits leaves.splits)) =
        inl (ap (SplitsDiffer fleet.splits) all_are.splits, λ said. differs (said ∙ sym all_are.splits)) in
        behind_nodes stop leaves (subst IsWhole same whole) all_are (subst (StopsAt after_nodes) (sym is) fails)

    pub stops_chosen : fleet.splits ≡ leaves.splits → StopsAt (plan_tests day prices fleet.chosen (price_said fleet.head)) stop
        → StopsAt (fleet_tests day prices fleet) stop
    stops_chosen counted stops =
        behind_nodes stop leaves (subst IsWhole same whole) all_are
        (stops_behind (DoSplitsDiffer fleet.splits fleet.boxes ∷ []) after_splits stop
        (passed_splits fleet.splits fleet.boxes (counted ∙ all_are.splits), tt)
        (stops_front (plan_tests day prices fleet.chosen (price_said fleet.head)) (DoesHeadFail (values_of day prices fleet.boxes) fleet.head ∷ []) stop stops))

    pub stops_head : fleet.splits ≡ leaves.splits → HasPlanSaid day prices fleet.chosen (price_said fleet.head)
        → ((values : List ℤ) → IsLeastOf values leaves.least → StopsAt (DoesHeadFail values fleet.head ∷ []) stop)
        → StopsAt (fleet_tests day prices fleet) stop
    stops_head counted planned stops =
        behind_nodes stop leaves (subst IsWhole same whole) all_are
        (stops_behind (DoSplitsDiffer fleet.splits fleet.boxes ∷ []) after_splits stop
        (passed_splits fleet.splits fleet.boxes (counted ∙ all_are.splits), tt)
        (stops_behind (plan_tests day prices fleet.chosen (price_said fleet.head)) (DoesHeadFail (values_of day prices fleet.boxes) fleet.head ∷ []) stop
        (passed_plan day prices fleet.chosen (price_said fleet.head) planned) (stops (values_of day prices fleet.boxes) all_are.least)))

  pub all_valid : (nodes : List BoxNode) (leaves : Leaves) → nodes ≡ fleet.boxes → AreLeavesOf day prices nodes leaves
      → fleet.splits ≡ leaves.splits → HasPlanSaid day prices fleet.chosen (price_said fleet.head)
      → ((values : List ℤ) → IsLeastOf values leaves.least → DoesFollow values fleet.head) → IsValid day prices fleet
  all_valid nodes leaves same are counted planned follows =
      let all : AreLeavesOf day prices fleet.boxes leaves = subst (λ (ns : List BoxNode). AreLeavesOf day prices ns leaves) same are in
      record {
        proved = all.proved;
        splits = counted ∙ all.splits;
        chosen = planned;
        head = follows (values_of day prices fleet.boxes) all.least;
      }
