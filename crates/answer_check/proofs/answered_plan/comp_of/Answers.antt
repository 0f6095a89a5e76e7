use Rattle.std.proofs.Common.{rules, ◌≡◌, ◌∙◌, ℕ, List, length, inl, inr, Some, Contains, sym, subst, refl, ap, arith}
use Rattle.std.specs.Prelude.{slice_get}
use Rattle.std.specs.Option.{IsNone}
use Rattle.timetable.specs.Compositions.{compositions_of}
use Rattle.timetable.specs.Day.{types_of}
use Rattle.timetable.specs.Links.{list_of}
use Rattle.answer_check.proofs.Admitting.{AreFew, comp_found, contained, some_units}
use Rattle.answer_check.proofs.answered_plan.comp_of.Goals as goal

pub unreachable-requires : goal.unreachable-requires
unreachable-requires c =
    let types : List ℕ = types_of c.args.instance.now (list_of c.args.plan.now c.args.trip) in
    let few : AreFew types = some_units c.args.instance.now c.args.trip types (c.requires.runs.lists c.args.trip c.requires.trip).admissible in
    let same : length c.as_slice.result.now ≡ length types = ap length (c.as_slice.ensures.value ∙ c.types-types.ensures.types) in
    elim (c.of.ensures.none.0 (subst IsNone (sym c.in_default.is) refl)) [
      | inl none ↦ omega (arith, none, few.some, same)
      | inr many ↦ omega (arith, many, few.few, same)
    ]

pub unreachable-requires-in_default-find : goal.unreachable-requires-in_default-find
unreachable-requires-in_default-find c =
    let types : List ℕ = types_of c.args.instance.now (list_of c.args.plan.now c.args.trip) in
    let given : c.in-Some.composition ≡ c.as_slice.result.now = search rules in
    let same : c.in-Some.composition ≡ types = given ∙ c.as_slice.ensures.value ∙ c.types-types.ensures.types in
    let there : Contains (compositions_of c.args.instance.now) types =
    contained c.args.instance.now c.args.trip types (c.requires.runs.lists c.args.trip c.requires.trip).admissible in
    c.find.ensures.none.0 (subst IsNone (sym c.in_default-find.is) refl)
    (subst (λ (catalogue : List (List ℕ)). Contains catalogue c.in-Some.composition) (sym c.catalogue.ensures)
    (subst (λ (ms : List ℕ). Contains (compositions_of c.args.instance.now) ms) (sym same) there))

pub returns : goal.returns
returns c =
    let given : c.in-Some.composition ≡ c.as_slice.result.now = search rules in
    let found : slice_get c.catalogue.result.now c.in-Some-find.comp ≡ Some c.in-Some.composition = search rules in
    comp_found c.args.instance.now (types_of c.args.instance.now (list_of c.args.plan.now c.args.trip)) c.in-Some-find.comp
    (ap (λ (catalogue : List (List ℕ)). slice_get catalogue c.in-Some-find.comp) (sym c.catalogue.ensures) ∙ found
    ∙ ap (λ (ms : List ℕ). Some ms) (given ∙ c.as_slice.ensures.value ∙ c.types-types.ensures.types))
