-- What is valid passes each test, and each test is failed for one verdict at most.
use Rattle.std.proofs.Common.{◌≡◌, ◌≢◌, ℕ, suc, ◌<◌, ◌≤◌, List, [], ◌∷◌, ◌++◌, length, take, ℤ, pos, Option, Some, None}
use Rattle.std.proofs.Common.{refl, sym, ◌∙◌, ap, subst, arith, ⊎_elim, inl, inr}
use Rattle.std.specs.Prelude.{◌⊎◌}
use Rattle.rail_base.specs.declared.numbers.Money.{Money}
use Rattle.std.proofs.lemmas.Bool.{cases_lt}
use Rattle.std.proofs.lemmas.List.{length-take-le, take-take}
use Rattle.timetable.specs.Day.{Day}
use Rattle.rules.specs.declared.heads.Head.{Head}
use Rattle.fleet_boxes.specs.declared.boxes.FleetBox.{FleetBox}
use Rattle.fleet_boxes.specs.declared.nodes.BoxNode.{BoxNode}
use Rattle.fleet_boxes.specs.declared.nodes.BoxNode.TheVariants.{Split, Bound, Nothing}
use Rattle.fleet_boxes.specs.Boxes.{box_of}
use Rattle.fleet_boxes.specs.ProvedBoxes.{AreTrees, IsProvedAt, boxes_below, price_of, values_of}
use Rattle.fleet_check.specs.declared.found.Chosen.{Chosen}
use Rattle.fleet_check.specs.declared.found.Fleet.{Fleet}
use Rattle.fleet_check.specs.declared.verdict.FleetVerdict.{FleetVerdict}
use Rattle.fleet_check.specs.declared.verdict.FleetVerdict.TheVariants.{Valid, TreeShape, SplitOutside, LeafFails}
use Rattle.fleet_check.specs.declared.verdict.FleetVerdict.TheVariants.{SplitsDiffer, PlanFails, PriceDiffers, HeadFails}
use Rattle.fleet_check.specs.Chosen.{DoesRun}
use Rattle.fleet_check.specs.Heads.{DoesFollow}
use Rattle.fleet_check.specs.Laws.{FleetVerdictsAreOne}
use Rattle.fleet_check.specs.Tests.{FirstFails, IsPassed, NoneFails}
use Rattle.fleet_check.specs.Verdicts.{DoSplitsDiffer, DoesHeadFail, FailsAt, HasPlanSaid, IsAfterTree}
use Rattle.fleet_check.specs.Verdicts.{IsMisshapen, IsValid, IsVerdict, IsWhole, failure_at, fleet_tests, plan_tests, price_said}
use Rattle.fleet_check.specs.Verdicts.{splits_in, tests_from}
use Rattle.fleet_check.proofs.Shapes.{not_after, not_misshapen, whole_of_trees}
use Rattle.fleet_check.proofs.Testing.{Each, IsOne, each_append, first_is_one, never_valid, none_append, not_both}

-- ---- what is valid passes

pub passed_node : (day : Day) (number : ℕ) (box : FleetBox) (node : BoxNode) → IsProvedAt day box node → IsPassed (FailsAt day number box node)
passed_node day number box node proved verdict fails = fails.1 proved

pub passed_nodes : (day : Day) (number : ℕ) (boxes : List FleetBox) (nodes : List BoxNode) → AreTrees (IsProvedAt day) (length day.types) boxes nodes
    → NoneFails (tests_from day number boxes nodes)
passed_nodes day number boxes [] trees = tt
passed_nodes day number [] (node ∷ nodes) trees = absurd trees
passed_nodes day number (box ∷ boxes) (node ∷ nodes) trees =
    (passed_node day number box node trees.0, passed_nodes day (suc number) (boxes_below (length day.types) box node ++ boxes) nodes trees.1)

no_chosen : (chosen : Chosen) → ◌≡◌ {A = Option Chosen} (Some chosen) None → ⊥
no_chosen chosen same = absurd cc

some_chosen : (chosen : Chosen) → ◌≡◌ {A = Option Chosen} None (Some chosen) → ⊥
some_chosen chosen same = absurd cc

same_chosen : (one other : Chosen) → ◌≡◌ {A = Option Chosen} (Some one) (Some other) → other ≡ one
same_chosen one other same = cc

pub passed_plan : (day : Day) (prices : List ℕ) (chosen : Option Chosen) (said : Option ℤ) → HasPlanSaid day prices chosen said
    → NoneFails (plan_tests day prices chosen said)
passed_plan day prices None None has = ((λ verdict fails. fails), ((λ verdict fails. fails), tt))
passed_plan day prices (Some chosen) None has = absurd (no_chosen chosen has)
passed_plan day prices None (Some price) has = absurd (some_chosen has.one has.is)
passed_plan day prices (Some chosen) (Some price) has =
    let same : has.one ≡ chosen = same_chosen chosen has.one has.is in (
      (λ verdict fails. fails.1 (subst (DoesRun day) same has.runs)),
      ((λ verdict fails. fails.1 (has.costs ∙ ap (λ (one : Chosen). pos (price_of day prices one.stock one.plan)) same)), tt),
    )

pub passed_splits : (said : ℕ) (nodes : List BoxNode) → said ≡ splits_in nodes → IsPassed (DoSplitsDiffer said nodes)
passed_splits said nodes same verdict fails = fails.1 same

pub passed_head : (values : List ℤ) (head : Head) → DoesFollow values head → IsPassed (DoesHeadFail values head)
passed_head values head follows verdict fails = fails.1 follows

pub valid_passes : (day : Day) (prices : List ℕ) (fleet : Fleet) → IsValid day prices fleet → NoneFails (fleet_tests day prices fleet)
valid_passes day prices fleet valid = (
  not_misshapen fleet.boxes (whole_of_trees (IsProvedAt day) (length day.types) (box_of day) fleet.boxes valid.proved),
  none_append (tests_from day 0 (box_of day ∷ []) fleet.boxes)
      ((DoSplitsDiffer fleet.splits fleet.boxes ∷ []) ++ (plan_tests day prices fleet.chosen (price_said fleet.head) ++ (DoesHeadFail (values_of day prices fleet.boxes) fleet.head ∷ [])))
      (passed_nodes day 0 (box_of day ∷ []) fleet.boxes valid.proved) (
        passed_splits fleet.splits fleet.boxes valid.splits,
        none_append (plan_tests day prices fleet.chosen (price_said fleet.head)) (DoesHeadFail (values_of day prices fleet.boxes) fleet.head ∷ [])
            (passed_plan day prices fleet.chosen (price_said fleet.head) valid.chosen)
            (passed_head (values_of day prices fleet.boxes) fleet.head valid.head, tt),
      ),
)

-- ---- one verdict

-- one place after a whole tree is not below another
not_below_after : (nodes : List BoxNode) (low high : ℕ) → low < high → IsAfterTree nodes low → IsAfterTree nodes high → ⊥
not_below_after nodes low high less first second =
    let long : length (take high nodes) ≡ high = length-take-le high nodes (omega (arith, second.0)) in
    not_after (take high nodes) low (omega (arith, less, long)) (subst IsWhole (sym (take-take low high nodes (omega (arith, less)))) first.1) second.1

one_place : (nodes : List BoxNode) (node other : ℕ) → IsAfterTree nodes node → IsAfterTree nodes other → node ≡ other
one_place nodes node other first second = ⊎_elim
    (λ less. absurd (not_below_after nodes node other less first second))
    (λ most. ⊎_elim (λ less. absurd (not_below_after nodes other node less second first)) (λ least. level node other most least) (cases_lt other node))
    (cases_lt node other)
  where
    level : (a b : ℕ) → b ≤ a → a ≤ b → a ≡ b
    level a b p q = omega (arith, p, q)

one_shape : (nodes : List BoxNode) → IsOne (IsMisshapen nodes)
one_shape nodes = record {
  one = λ one other (node, is, wrong) (node', is', wrong'). is ∙ ap TreeShape (⊎_elim
      (λ after. ⊎_elim (λ after'. one_place nodes node node' after after') (λ missing. absurd (missing.1 node (omega (arith, after.0)) after.1)) wrong')
      (λ missing. ⊎_elim (λ after. absurd (missing.1 node' (omega (arith, after.0)) after.1)) (λ missing'. missing.0 ∙ sym missing'.0) wrong')
      wrong) ∙ sym is';
  wrong = λ (node, is, wrong). not_shape node is;
}
  where
    not_shape : (node : ℕ) → Valid ≡ TreeShape node → ⊥
    not_shape node same = absurd cc

not_failure : (number : ℕ) (node : BoxNode) → Valid ≡ failure_at number node → ⊥
not_failure number (Split station unit_type at) same = absurd cc
not_failure number (Bound bound branchings tree) same = absurd cc
not_failure number (Nothing branchings tree) same = absurd cc

one_from : (day : Day) (number : ℕ) (boxes : List FleetBox) (nodes : List BoxNode) → Each IsOne (tests_from day number boxes nodes)
one_from day number boxes [] = tt
one_from day number [] (node ∷ nodes) = tt
one_from day number (box ∷ boxes) (node ∷ nodes) = (
  record { one = λ one other a b. a.0 ∙ sym b.0; wrong = λ fails. not_failure number node fails.0 },
  one_from day (suc number) (boxes_below (length day.types) box node ++ boxes) nodes,
)

not_splits : (said found : ℕ) → Valid ≡ SplitsDiffer said found → ⊥
not_splits said found same = absurd cc

not_plan : Valid ≡ PlanFails → ⊥
not_plan same = absurd cc

not_head : Valid ≡ HeadFails → ⊥
not_head same = absurd cc

one_plan : (day : Day) (prices : List ℕ) (chosen : Option Chosen) (said : Option ℤ) → Each IsOne (plan_tests day prices chosen said)
one_plan day prices None None =
    (record { one = λ one other a b. absurd a; wrong = λ fails. fails }, (record { one = λ one other a b. absurd a; wrong = λ fails. fails }, tt))
one_plan day prices None (Some price) =
    (record { one = λ one other a b. a ∙ sym b; wrong = λ fails. not_plan fails }, (record { one = λ one other a b. absurd a; wrong = λ fails. fails }, tt))
one_plan day prices (Some chosen) None =
    (record { one = λ one other a b. a ∙ sym b; wrong = λ fails. not_plan fails }, (record { one = λ one other a b. absurd a; wrong = λ fails. fails }, tt))
one_plan day prices (Some chosen) (Some price) = (
  record { one = λ one other a b. a.0 ∙ sym b.0; wrong = λ fails. not_plan fails.0 },
  (record { one = λ one other a b. a.0 ∙ sym b.0; wrong = λ fails. absurd (not_price _ _ fails.0) }, tt),
)
  where
    not_price : (said found : Money) → Valid ≡ PriceDiffers said found → ⊥
    not_price said found same = absurd cc

are_one : (day : Day) (prices : List ℕ) (fleet : Fleet) → Each IsOne (fleet_tests day prices fleet)
are_one day prices fleet = (
  one_shape fleet.boxes,
  each_append IsOne (tests_from day 0 (box_of day ∷ []) fleet.boxes)
      ((DoSplitsDiffer fleet.splits fleet.boxes ∷ []) ++ (plan_tests day prices fleet.chosen (price_said fleet.head) ++ (DoesHeadFail (values_of day prices fleet.boxes) fleet.head ∷ [])))
      (one_from day 0 (box_of day ∷ []) fleet.boxes) (
        record { one = λ one other a b. a.0 ∙ sym b.0; wrong = λ fails. not_splits fleet.splits (splits_in fleet.boxes) fails.0 },
        each_append IsOne (plan_tests day prices fleet.chosen (price_said fleet.head)) (DoesHeadFail (values_of day prices fleet.boxes) fleet.head ∷ [])
            (one_plan day prices fleet.chosen (price_said fleet.head))
            (record { one = λ one other a b. a.0 ∙ sym b.0; wrong = λ fails. not_head fails.0 }, tt),
      ),
)

-- ---- the verdict

pub says_valid : (day : Day) (prices : List ℕ) (fleet : Fleet) → IsValid day prices fleet → IsVerdict day prices fleet Valid
says_valid day prices fleet valid = record {
  valid = ((λ same. valid), (λ is. refl));
  first = λ differs. absurd (differs refl);
}

-- a test that is failed is not failed for the verdict that all is valid
pub not_valid : (day : Day) (prices : List ℕ) (fleet : Fleet) (verdict : FleetVerdict) → FirstFails (fleet_tests day prices fleet) verdict
    → verdict ≡ Valid → ⊥
not_valid day prices fleet verdict first same =
    never_valid (fleet_tests day prices fleet) (are_one day prices fleet) (subst (FirstFails (fleet_tests day prices fleet)) same first)

pub says_failed : (day : Day) (prices : List ℕ) (fleet : Fleet) (verdict : FleetVerdict) → FirstFails (fleet_tests day prices fleet) verdict
    → IsVerdict day prices fleet verdict
says_failed day prices fleet verdict first = record {
  valid = (
    (λ same. absurd (not_valid day prices fleet verdict first same)),
    (λ valid. absurd (not_both (fleet_tests day prices fleet) verdict (valid_passes day prices fleet valid) first)),
  );
  first = λ differs. first;
}

-- a verdict is that all is valid, or it isn't
or_not : (verdict : FleetVerdict) → (verdict ≡ Valid) ⊎ (verdict ≢ Valid)
or_not Valid = inl refl
or_not (TreeShape node) = inr (λ same. absurd cc)
or_not (SplitOutside node) = inr (λ same. absurd cc)
or_not (LeafFails node) = inr (λ same. absurd cc)
or_not (SplitsDiffer said found) = inr (λ same. absurd cc)
or_not PlanFails = inr (λ same. absurd cc)
or_not (PriceDiffers said found) = inr (λ same. absurd cc)
or_not HeadFails = inr (λ same. absurd cc)

pub verdicts_are_one : FleetVerdictsAreOne
verdicts_are_one day prices fleet one other first second = elim (or_not one) [
  | inl valid ↦ valid ∙ sym (second.valid.1 (first.valid.0 valid))
  | inr wrong ↦ elim (or_not other) [
    | inl valid ↦ first.valid.1 (second.valid.0 valid) ∙ sym valid
    | inr differs ↦ first_is_one (fleet_tests day prices fleet) one other (are_one day prices fleet) (first.first wrong) (second.first differs)
  ]
]
