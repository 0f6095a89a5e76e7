-- What is asked of a region in which a trip keeps its composition and of a change, and what is true of an answer there.
use Rattle.std.proofs.Common.{◌≡◌, ◌<◌, ◌≤◌, ℕ, List, [], ◌∷◌, Bool, length, sym, subst, arith}
use Rattle.std.proofs.lemmas.List.Elements.{All-cons, All-nil}
use Rattle.rail_base.specs.declared.limits.TheConstants.{MAX_CHANGE}
use Rattle.timetable.specs.Accepted.{IsSoundDay}
use Rattle.timetable.specs.Compositions.{compositions_of}
use Rattle.timetable.specs.Day.{Day}
use Rattle.branch_tree.specs.declared.cuts.Cut.{Cut}
use Rattle.branch_tree.specs.declared.cuts.Side.TheVariants.{Left}
use Rattle.branch_tree.specs.Claims.{IsConcluded}
use Rattle.branch_tree.specs.Cuts.{IsProper, side_of}
use Rattle.branch_tree.specs.Laws.{RootsAreFilled, RootsAreOver, SidesAreFilled, SidesAreOver}
use Rattle.branch_tree.specs.Regions.{IsFilled, IsOver, root_of}
use Rattle.price_bound.specs.declared.changes.Change.{Change}
use Rattle.price_bound.specs.ChangedDays.{AreChanges, ChangedDay, changed_day, changed_meanings}
use Rattle.answer_text.specs.declared.answer.Answer.{Answer}
use Rattle.answer_check.specs.ProvedTrees.{HasProvedTreeIn}
use Rattle.answer_check.specs.RegionTruths.{ConcludedIsTrueIn, IsTrueIn}
use Rattle.answer_check.specs.Validity.{HasPicks, conclusion_of}

-- a side of a proper cut of the region of an accepted day is over the day, and each trip has a composition in it
pub kept_side : (day : Day) (catalogue : List (List ℕ)) (cut : Cut) (root after : List (List Bool))
    → RootsAreOver → SidesAreOver → RootsAreFilled → SidesAreFilled → IsSoundDay day → root ≡ root_of day
    → IsProper catalogue root cut → after ≡ side_of catalogue cut Left root
    → IsOver (length day.trips) (compositions_of day) after × IsFilled after
kept_side day catalogue cut root after over sides filled filled_sides sound rooted proper is =
    let over_root : IsOver (length day.trips) (compositions_of day) root =
    subst (λ (r : List (List Bool)). IsOver (length day.trips) (compositions_of day) r) (sym rooted) (over day) in
    let filled_root : IsFilled root = subst (λ (r : List (List Bool)). IsFilled r) (sym rooted) (filled day sound) in (
      subst (λ (r : List (List Bool)). IsOver (length day.trips) (compositions_of day) r) (sym is)
          (sides (length day.trips) (compositions_of day) catalogue cut Left root over_root),
      subst (λ (r : List (List Bool)). IsFilled r) (sym is) (filled_sides catalogue cut Left root proper filled_root),
    )

-- one change is changes
pub one_change : (day : Day) (change : Change) → change.trip < length day.trips
    → change.base < length (compositions_of day) → change.cost ≤ MAX_CHANGE → AreChanges day (change ∷ [])
one_change day change trip base cost = record {
  rising = λ i j d lt below. absurd (omega (arith, lt, below));
  trips = All-cons (λ (c : Change). c.trip < length day.trips) change [] trip
      (All-nil (λ (c : Change). c.trip < length day.trips));
  bases = All-cons (λ (c : Change). c.base < length (compositions_of day)) change [] base
      (All-nil (λ (c : Change). c.base < length (compositions_of day)));
  costs = All-cons (λ (c : Change). c.cost ≤ MAX_CHANGE) change [] cost
      (All-nil (λ (c : Change). c.cost ≤ MAX_CHANGE));
}

-- what an answer with a proved tree says is true of the plans that run by picks in the region
pub true_within : (day named : Day) (changes : List Change) (bounds : ChangedDay) (region : List (List Bool))
    (naming : List ℕ → List (List ℕ)) (grant : ℕ) (answer : Answer) → ConcludedIsTrueIn → named ≡ day
    → bounds ≡ changed_day day changes → HasProvedTreeIn named (changed_meanings bounds) region naming grant answer
    → (picks : List ℕ) × IsTrueIn day changes region answer.head answer.runs picks
true_within day named changes bounds region naming grant answer law same is tree =
    let planned : HasPicks day answer.head answer.runs tree.valid.picks =
    subst (λ (d : Day). HasPicks d answer.head answer.runs tree.valid.picks) same tree.valid.planned in
    let concluded : IsConcluded (changed_meanings (changed_day day changes)) region
    (conclusion_of answer.head tree.valid.picks) =
    subst (λ (b : ChangedDay). IsConcluded (changed_meanings b) region (conclusion_of answer.head tree.valid.picks)) is
    tree.concluded in
    (tree.valid.picks, law day changes region answer.head answer.runs tree.valid.picks planned concluded)

-- the region is over what the bounds of the day under changes mean
pub over_changed : (day : Day) (changes : List Change) (bounds : ChangedDay) (region : List (List Bool))
    → bounds ≡ changed_day day changes → IsOver (length day.trips) (compositions_of day) region
    → IsOver (length bounds.day.trips) (compositions_of bounds.day) region
over_changed day changes bounds region is over =
    subst (λ (b : ChangedDay). IsOver (length b.day.trips) (compositions_of b.day) region) (sym is) over
