-- Units that are alike in number, types and stations are as good as one another.
use Rattle.std.proofs.Common.{◌≡◌, ℕ, ◌<◌, ◌≤◌, List, [], ◌∷◌, length, Bool, sym, ap, ◌∙◌, subst, arith, cond}
use Rattle.std.specs.Prelude.{◌==◌, ◌&&◌, if◌then◌else◌}
use Rattle.rail_base.specs.declared.limits.TheConstants.{MAX_UNITS}
use Rattle.timetable.specs.Day.{Day, Units, stock_units}
use Rattle.timetable.specs.Duties.{duty, ends_at, last_place_of}
use Rattle.timetable.specs.Lists.{count_below}
use Rattle.timetable.specs.Renumbering.{IsRenumbering, before_unit, is_at, standing_at}
use Rattle.timetable.proofs.Sums.{sum_same}
use Rattle.inventory.specs.ServingLaws.{units_after}
use Rattle.week_units.specs.Listed.{AreAlike}
use Rattle.week_units.specs.Names.{AreNames, AreNamesDayByDay, by_name, name_in}
use Rattle.week_units.proofs.Beginning.{BeginWith, BeginsWith}

module _ (units others : Units) (alike : AreAlike units others) where
  at_same : (s m u : ℕ) → u < units.count → is_at others s m u ≡ is_at units s m u
  at_same s m u lt = ap (λ (p : ℕ). (p == s) && (others.unit_type u == m)) (alike.home u lt) ∙ ap (λ (p : ℕ). (units.home u == s) && (p == m)) (alike.unit_type u lt)

  count_same : (s m n : ℕ) → n ≤ units.count → count_below (is_at others s m) n ≡ count_below (is_at units s m) n
  count_same s m n le =
      sum_same (λ u. if is_at others s m u then 1 else 0) (λ u. if is_at units s m u then 1 else 0) n
      (λ u lt. ap (λ (b : Bool). cond {A = ℕ} b 1 0) (at_same s m u (omega arith)))

  standing_same : (s m : ℕ) → standing_at others s m ≡ standing_at units s m
  standing_same s m = ap (λ (n : ℕ). count_below (is_at others s m) n) alike.count ∙ count_same s m units.count (omega arith)

  renumbering_same : (some : Units) (number : ℕ → ℕ) → IsRenumbering some units number → IsRenumbering some others number
  renumbering_same some number is = record {
    among = record {
      known = λ u lt. subst (λ (n : ℕ). number u < n) (sym alike.count) (is.among.known u lt);
      once = is.among.once;
      unit_type = λ u lt. alike.unit_type (number u) (is.among.known u lt) ∙ is.among.unit_type u lt;
      home = λ u lt. alike.home (number u) (is.among.known u lt) ∙ is.among.home u lt;
    };
    count = alike.count ∙ is.count;
  }

  before_same : (v : ℕ) → v < units.count → before_unit others v ≡ before_unit units v
  before_same v lt =
      ap (λ (s : ℕ). count_below (is_at others s (others.unit_type v)) v) (alike.home v lt)
      ∙ ap (λ (m : ℕ). count_below (is_at others (units.home v) m) v) (alike.unit_type v lt)
      ∙ count_same (units.home v) (units.unit_type v) v (omega arith)

  names_same : (day : Day) (names : List ℕ) → AreNames units day names → AreNames others day names
  names_same day names are = record {
    each = are.each;
    renumbers = renumbering_same (stock_units day) (name_in names) are.renumbers;
    kth = λ u lt. before_same (name_in names u) (are.renumbers.among.known u lt) ∙ are.kth u lt;
  }

  after_same : (day : Day) (plan : List (List ℕ)) → AreAlike (units_after units day plan) (units_after others day plan)
  unfolding last_place_of
  after_same day plan = record {
    count = alike.count;
    unit_type = alike.unit_type;
    home = λ u lt. ap (λ (s : ℕ). ends_at day s (duty day plan u)) (alike.home u lt);
  }

  begins_same : (first day : Day) → BeginsWith first units day → BeginsWith first others day
  begins_same first day begins = record {
    sound = begins.sound;
    rows = begins.rows;
    are_units = record {
      home = λ u lt. let known : u < units.count = subst (λ (n : ℕ). u < n) alike.count lt in subst (λ (s : ℕ). s < length day.stations) (sym (alike.home u known)) (begins.are_units.home u known);
      unit_type = λ u lt. let known : u < units.count = subst (λ (n : ℕ). u < n) alike.count lt in subst (λ (m : ℕ). m < length day.types) (sym (alike.unit_type u known)) (begins.are_units.unit_type u known);
      few = subst (λ (n : ℕ). n ≤ MAX_UNITS) (sym alike.count) begins.are_units.few;
    };
    as_many = λ s m. begins.as_many s m ∙ sym (standing_same s m);
  }

pub alike_back : (units others : Units) → AreAlike units others → AreAlike others units
alike_back units others alike = record {
  count = sym alike.count;
  unit_type = λ u lt. sym (alike.unit_type u (subst (λ (n : ℕ). u < n) alike.count lt));
  home = λ u lt. sym (alike.home u (subst (λ (n : ℕ). u < n) alike.count lt));
}

pub names_day_by_day : (units others : Units) → AreAlike units others → (days : List Day) (plans : List (List (List ℕ))) (names : List (List ℕ)) → AreNamesDayByDay units days plans names → AreNamesDayByDay others days plans names
names_day_by_day units others alike [] plans [] are = are
names_day_by_day units others alike [] plans (names ∷ rest) are = absurd are
names_day_by_day units others alike (day ∷ days) [] names are = absurd are
names_day_by_day units others alike (day ∷ days) (plan ∷ plans) [] are = absurd are
names_day_by_day units others alike (day ∷ days) (plan ∷ plans) (names ∷ rest) are = (
  names_same units others alike day names are.0,
  names_day_by_day (units_after units day (by_name names plan)) (units_after others day (by_name names plan)) (after_same units others alike day (by_name names plan)) days plans rest are.1,
)

pub begin_alike : (first : Day) (days : List Day) (units others : Units) → AreAlike units others → BeginWith first units days → BeginWith first others days
begin_alike first [] units others alike begin = begin
begin_alike first (day ∷ days) units others alike begin = begins_same units others alike first day begin
