-- The root region of the rest of a day: what it has for each trip.
use Rattle.std.proofs.Common.{◌≡◌, ℕ, ◌<◌, List, [], length, Bool, true, false, get_or, refl, sym, ap, ◌∙◌, arith}
use Rattle.std.proofs.Common.{inl, inr}
use Rattle.std.specs.Prelude.{◌||◌, not}
use Rattle.std.proofs.lemmas.Bool.{and_from, and_parts, cases_lt}
use Rattle.std.proofs.lemmas.List.{get_or_past}
use Rattle.std.proofs.lemmas.List.FromFn.{get_or-map-range_with_len, length-map-range_with_len}
use Rattle.rail_base.specs.declared.limits.TheConstants.{MAX_COMPOSITIONS}
use Rattle.timetable.specs.Admissible.{is_admissible}
use Rattle.timetable.specs.Compositions.{compositions_of, composition_at}
use Rattle.timetable.specs.Turns.{same}
use Rattle.timetable.proofs.Shares.{same_lists}
use Rattle.branch_tree.specs.Regions.{IsFilled, IsOver, has, set_at}
use Rattle.branch_tree.specs.Sets.{is_member, set_of}
use Rattle.branch_tree.proofs.Admitted.{none_past}
use Rattle.branch_tree.proofs.Members.{is_member-past, is_member-tested, length-tested}
use Rattle.inventory.specs.NamedBefore.{IsFrozen}
use Rattle.replan.specs.Disturbances.{Disturbed, later_day, planned_types, trips_later}
use Rattle.replan.specs.Laws.{IsUnderWay}
use Rattle.replan.specs.RestsOfDays.{is_frozen, may_have, past_root, planned_comp}
use Rattle.replan.proofs.Frozen.{frozen_passes, passes_frozen}
use Rattle.replan.proofs.PlannedTypes.{are_same, planned_admissible, planned_is, planned_listed}

-- what is said of a trip that is frozen, or of any other
either : (frozen same : Bool) → (frozen ≡ true → same ≡ true) → (not frozen || same) ≡ true
either true same is = is refl
either false same is = refl

of_frozen : (frozen same : Bool) → (not frozen || same) ≡ true → frozen ≡ true → same ≡ true
of_frozen true same both is = both
of_frozen false same both is = absurd cc

module _ (disturbed : Disturbed) where
  -- how many trips have a set
  pub past_length : length (past_root disturbed) ≡ trips_later disturbed
  unfolding past_root
  past_length = length-map-range_with_len (λ t. set_of (may_have disturbed t)) 0 (trips_later disturbed)

  -- the set of a trip
  pub past_set : (t : ℕ) (d : List Bool) → t < trips_later disturbed → get_or (past_root disturbed) t d ≡ set_of (may_have disturbed t)
  unfolding past_root
  past_set t d lt = get_or-map-range_with_len (λ t. set_of (may_have disturbed t)) 0 (trips_later disturbed) t t d lt (omega arith)

  -- a composition that a trip may have is of the catalogue
  may_listed : (t comp : ℕ) → may_have disturbed t comp ≡ true → comp < length (compositions_of (later_day disturbed))
  may_listed t comp may = elim (cases_lt comp (length (compositions_of (later_day disturbed)))) [
    | inl below ↦ below
    | inr past ↦
        let admitted : is_admissible (later_day disturbed) t (composition_at (later_day disturbed) comp) ≡ true =
        (and_parts (is_admissible (later_day disturbed) t (composition_at (later_day disturbed) comp)) _ may).0 in
        let none : is_admissible (later_day disturbed) t (composition_at (later_day disturbed) comp) ≡ false = none_past (later_day disturbed) t comp past in
        absurd cc
  ]

  -- a trip has exactly the compositions that it may have
  pub past_has : (t comp : ℕ) → t < trips_later disturbed → comp < MAX_COMPOSITIONS → has (past_root disturbed) t comp ≡ may_have disturbed t comp
  past_has t comp lt few =
      ap (λ (members : List Bool). is_member members comp) (past_set t [] lt) ∙ is_member-tested (may_have disturbed t) MAX_COMPOSITIONS comp few

  has_may : (t comp : ℕ) → t < trips_later disturbed → has (past_root disturbed) t comp ≡ true → may_have disturbed t comp ≡ true
  has_may t comp lt there = elim (cases_lt comp MAX_COMPOSITIONS) [
    | inl few ↦ sym (past_has t comp lt few) ∙ there
    | inr past ↦
        let set : has (past_root disturbed) t comp ≡ is_member (set_of (may_have disturbed t)) comp = ap (λ (members : List Bool). is_member members comp) (past_set t [] lt) in
        let none : is_member (set_of (may_have disturbed t)) comp ≡ false =
        is_member-past (set_of (may_have disturbed t)) comp (omega (arith, past, length-tested (may_have disturbed t) MAX_COMPOSITIONS)) in
        absurd cc
  ]

  -- it is over the later day
  pub past_over : IsOver (trips_later disturbed) (compositions_of (later_day disturbed)) (past_root disturbed)
  past_over = record {
    each = past_length;
    within = λ t comp there. elim (cases_lt t (trips_later disturbed)) [
      | inl lt ↦ may_listed t comp (has_may t comp lt there)
      | inr past ↦
          let none : set_at (past_root disturbed) t ≡ [] = get_or_past (past_root disturbed) t [] (omega (arith, past, past_length)) in
          let out : has (past_root disturbed) t comp ≡ false = ap (λ (members : List Bool). is_member members comp) none in
          absurd cc
    ];
  }

  -- a frozen trip has no other composition than the planned one
  pub past_frozen : (t comp : ℕ) → t < trips_later disturbed → has (past_root disturbed) t comp ≡ true → IsFrozen (later_day disturbed) disturbed.minute t
      → composition_at (later_day disturbed) comp ≡ planned_types disturbed t
  past_frozen t comp lt there frozen =
      same_lists (composition_at (later_day disturbed) comp) (planned_types disturbed t)
      (of_frozen (is_frozen (later_day disturbed) disturbed.minute t) (same (composition_at (later_day disturbed) comp) (planned_types disturbed t))
      (and_parts (is_admissible (later_day disturbed) t (composition_at (later_day disturbed) comp)) _ (has_may t comp lt there)).1
      (frozen_passes (later_day disturbed) disturbed.minute t frozen))

  -- an admissible composition, which has the planned types where the trip is frozen, is one that the trip may have
  pub in_past : (t comp : ℕ) → is_admissible (later_day disturbed) t (composition_at (later_day disturbed) comp) ≡ true
      → (IsFrozen (later_day disturbed) disturbed.minute t → composition_at (later_day disturbed) comp ≡ planned_types disturbed t)
      → may_have disturbed t comp ≡ true
  in_past t comp admitted planned =
      and_from (is_admissible (later_day disturbed) t (composition_at (later_day disturbed) comp))
      (not (is_frozen (later_day disturbed) disturbed.minute t) || same (composition_at (later_day disturbed) comp) (planned_types disturbed t)) admitted
      (either (is_frozen (later_day disturbed) disturbed.minute t) (same (composition_at (later_day disturbed) comp) (planned_types disturbed t))
      (λ passes. are_same (composition_at (later_day disturbed) comp) (planned_types disturbed t)
      (planned (passes_frozen (later_day disturbed) disturbed.minute t passes))))

  module _ (way : IsUnderWay disturbed) where
    -- the planned composition is one that its trip may have
    pub planned_may : (t : ℕ) → t < trips_later disturbed → may_have disturbed t (planned_comp disturbed t) ≡ true
    planned_may t lt =
        in_past t (planned_comp disturbed t)
        (ap (is_admissible (later_day disturbed) t) (planned_is disturbed way t lt) ∙ planned_admissible disturbed way t lt)
        (λ frozen. planned_is disturbed way t lt)

    few_listed : (comp : ℕ) → comp < length (compositions_of (later_day disturbed)) → comp < MAX_COMPOSITIONS
    few_listed comp listed = omega (arith, listed, way.later.compositions)

    -- so each trip has one
    pub past_filled : IsFilled (past_root disturbed)
    past_filled t d below =
        let lt : t < trips_later disturbed = omega (arith, below, past_length) in (
          planned_comp disturbed t,
          ap (λ (members : List Bool). is_member members (planned_comp disturbed t)) (past_set t d lt)
              ∙ is_member-tested (may_have disturbed t) MAX_COMPOSITIONS (planned_comp disturbed t) (few_listed (planned_comp disturbed t) (planned_listed disturbed way t lt))
              ∙ planned_may t lt,
        )
