use Rattle.std.proofs.Common.{rules, ℕ, ◌≡◌, inl, inr, subst, arith}
use Rattle.std.proofs.lemmas.Bool.{cases_lt}
use Rattle.timetable.specs.Day.{unit_count}
use Rattle.timetable.specs.Links.{list_of}
use Rattle.timetable.specs.Running.{AreUnits}
use Rattle.answer_check.proofs.KnownUnits.{known_units, none_past, unknown_units}
use Rattle.answer_check.proofs.answered_plan.first_unknown.Goals as goal

pub returns-then-not-is_known : goal.returns-then-not-is_known
returns-then-not-is_known c = record {
  within = search rules;
  before = c.loop-trip.invariant;
  unknown = unknown_units (unit_count c.args.instance.now) (list_of c.args.lists.now c.loop-trip.trip) (search rules);
}

pub loop-trip-preserved : goal.loop-trip-preserved
loop-trip-preserved c t below = elim (cases_lt t c.loop-trip.trip) [
  | inl before ↦ c.loop-trip.invariant t before
  | inr past ↦
      let here : c.loop-trip.trip ≡ t = omega (arith, below, past) in
      subst (λ (k : ℕ). AreUnits c.args.instance.now (list_of c.args.lists.now k)) here
      (known_units (unit_count c.args.instance.now) (list_of c.args.lists.now c.loop-trip.trip) (search rules))
]

pub returns : goal.returns
returns c t = elim (cases_lt t c.loop-trip.trip) [
  | inl before ↦ c.loop-trip.invariant t before
  | inr past ↦ none_past (unit_count c.args.instance.now) c.args.lists.now t (omega (arith, past, c.loop-trip-test.false))
]
