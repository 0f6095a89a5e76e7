-- The root region of the rest of a day, made trip by trip from the region of the later day.
use Rattle.std.proofs.Common.{◌≡◌, ◌≢◌, ℕ, ◌+◌, ◌<◌, ◌≤◌, List, [], length, Bool, true, false, refl, sym, ap, subst, ◌∙◌, arith, inl, inr}
use Rattle.std.specs.Prelude.{◌&&◌, ◌||◌, ◌==◌, not}
use Rattle.std.proofs.lemmas.Bool.{cases_Bool, cases_eq, cases_lt, eq-eqb, ne_eqb}
use Rattle.std.proofs.lemmas.List.{get_or-set_other, get_or-set_same, length-set}
use Rattle.std.proofs.lemmas.List.FromFn.{fill_by_all, get_or-map-range_with_len, length-map-range_with_len}
use Rattle.rail_base.specs.declared.limits.TheConstants.{MAX_COMPOSITIONS}
use Rattle.timetable.specs.Admissible.{is_admissible}
use Rattle.timetable.specs.Compositions.{compositions_of, composition_at}
use Rattle.timetable.specs.Turns.{same}
use Rattle.timetable.proofs.Shares.{same_lists}
use Rattle.branch_tree.specs.declared.cuts.Cut.TheVariants.{Only}
use Rattle.branch_tree.specs.declared.cuts.Side.TheVariants.{Left}
use Rattle.branch_tree.specs.Cuts.{side_of}
use Rattle.branch_tree.specs.Regions.{has, root_of, set_at}
use Rattle.branch_tree.specs.Sets.{is_member, restricted, set_of}
use Rattle.branch_tree.proofs.Admitted.{none_past}
use Rattle.branch_tree.proofs.Members.{is_kept, is_member-tested, is_tested, length-tested}
use Rattle.replan.specs.Disturbances.{Disturbed, later_day, planned_types, trips_later}
use Rattle.replan.specs.Laws.{IsUnderWay}
use Rattle.replan.specs.RestsOfDays.{is_frozen, may_have, past_root, planned_comp}
use Rattle.replan.proofs.PlannedTypes.{are_same, planned_admissible, planned_alone, planned_is, planned_listed}

abbrev is_open : Disturbed → ℕ → ℕ → Bool
is_open disturbed t comp = is_admissible (later_day disturbed) t (composition_at (later_day disturbed) comp)

-- the sets of the trips below a number are those of the root region; the others are those of the later day
pub record IsPastRootTo (disturbed : Disturbed) (n : ℕ) (root : List (List Bool)) : Type 0 where
  pub each : length root ≡ trips_later disturbed
  pub done : (t : ℕ) → t < n → t < trips_later disturbed → set_at root t ≡ set_of (may_have disturbed t)
  pub left : (t : ℕ) → n ≤ t → t < trips_later disturbed → set_at root t ≡ set_of (is_open disturbed t)

module _ (disturbed : Disturbed) where
  pub past_none : (root : List (List Bool)) → root ≡ root_of (later_day disturbed) → IsPastRootTo disturbed 0 root
  unfolding root_of
  past_none root is = record {
    each = ap (λ (sets : List (List Bool)). length sets) is ∙ length-map-range_with_len (λ t. set_of (is_open disturbed t)) 0 (trips_later disturbed);
    done = λ t lt below. absurd (omega (arith, lt));
    left = λ t le below.
        ap (λ (sets : List (List Bool)). set_at sets t) is ∙ get_or-map-range_with_len (λ t. set_of (is_open disturbed t)) 0 (trips_later disturbed) t t [] below (omega arith);
  }

  pub past_all : (n : ℕ) (root : List (List Bool)) → n ≡ trips_later disturbed → IsPastRootTo disturbed n root → root ≡ past_root disturbed
  unfolding past_root
  past_all n root is to = fill_by_all (λ t. set_of (may_have disturbed t)) root (trips_later disturbed) [] to.each (λ t lt. to.done t (omega (arith, lt, is)) lt)

  -- ---- a trip that is not frozen

  both_free : (may frozen alike : Bool) → frozen ≡ false → may ≡ (may && (not frozen || alike))
  both_free true true alike is = absurd cc
  both_free true false alike is = refl
  both_free false frozen alike is = refl

  free_set : (t : ℕ) → is_frozen (later_day disturbed) disturbed.minute t ≡ false → set_of (is_open disturbed t) ≡ set_of (may_have disturbed t)
  free_set t free =
      is_tested (may_have disturbed t) MAX_COMPOSITIONS (set_of (is_open disturbed t)) (length-tested (is_open disturbed t) MAX_COMPOSITIONS)
      (λ comp lt. is_member-tested (is_open disturbed t) MAX_COMPOSITIONS comp lt
      ∙ both_free (is_open disturbed t comp) (is_frozen (later_day disturbed) disturbed.minute t) (same (composition_at (later_day disturbed) comp) (planned_types disturbed t)) free)

  pub past_free : (n : ℕ) (root : List (List Bool)) → IsPastRootTo disturbed n root → is_frozen (later_day disturbed) disturbed.minute n ≡ false
      → IsPastRootTo disturbed (n + 1) root
  past_free n root to free = record {
    each = to.each;
    done = λ t lt below. elim (cases_eq t n) [
      | inl is ↦
          to.left t (omega (arith, is)) below
          ∙ free_set t (subst (λ (k : ℕ). is_frozen (later_day disturbed) disturbed.minute k ≡ false) (sym is) free)
      | inr differs ↦ to.done t (omega (arith, lt, differs)) below
    ];
    left = λ t le below. to.left t (omega (arith, le)) below;
  }

  -- ---- a frozen one

  module _ (way : IsUnderWay disturbed) where
    open_listed : (t comp : ℕ) → is_open disturbed t comp ≡ true → comp < length (compositions_of (later_day disturbed))
    open_listed t comp is = elim (cases_lt comp (length (compositions_of (later_day disturbed)))) [
      | inl below ↦ below
      | inr past ↦ let none : is_open disturbed t comp ≡ false = none_past (later_day disturbed) t comp past in absurd cc
    ]

    -- of the admissible compositions the planned one alone has the planned types
    alike : (t comp : ℕ) → t < trips_later disturbed → is_open disturbed t comp ≡ true
        → same (composition_at (later_day disturbed) comp) (planned_types disturbed t) ≡ (comp == planned_comp disturbed t)
    alike t comp lt is = elim (cases_eq comp (planned_comp disturbed t)) [
      | inl planned ↦
          are_same (composition_at (later_day disturbed) comp) (planned_types disturbed t)
          (ap (composition_at (later_day disturbed)) planned ∙ planned_is disturbed way t lt)
          ∙ sym (eq-eqb comp (planned_comp disturbed t) planned)
      | inr differs ↦ elim (cases_Bool (same (composition_at (later_day disturbed) comp) (planned_types disturbed t))) [
        | inl types ↦
            absurd (differs (planned_alone disturbed way t comp lt (open_listed t comp is)
            (same_lists (composition_at (later_day disturbed) comp) (planned_types disturbed t) types)))
        | inr other ↦ other ∙ sym (ne_eqb comp (planned_comp disturbed t) differs)
      ]
    ]

    both_frozen : (may frozen types planned : Bool) → frozen ≡ true → (may ≡ true → types ≡ planned) → (may && (not frozen || types)) ≡ (may && planned)
    both_frozen true true types planned is alike = alike refl
    both_frozen true false types planned is alike = absurd cc
    both_frozen false frozen types planned is alike = refl

    frozen_set : (t : ℕ) → t < trips_later disturbed → is_frozen (later_day disturbed) disturbed.minute t ≡ true
        → restricted (λ comp. comp == planned_comp disturbed t) (set_of (is_open disturbed t)) ≡ set_of (may_have disturbed t)
    frozen_set t lt frozen =
        sym (is_kept (λ comp. comp == planned_comp disturbed t) (set_of (is_open disturbed t)) (set_of (may_have disturbed t))
        (length-tested (may_have disturbed t) MAX_COMPOSITIONS ∙ sym (length-tested (is_open disturbed t) MAX_COMPOSITIONS))
        (λ comp within.
        let few : comp < MAX_COMPOSITIONS = omega (arith, within, length-tested (may_have disturbed t) MAX_COMPOSITIONS) in
        is_member-tested (may_have disturbed t) MAX_COMPOSITIONS comp few
        ∙ both_frozen (is_open disturbed t comp) (is_frozen (later_day disturbed) disturbed.minute t)
        (same (composition_at (later_day disturbed) comp) (planned_types disturbed t)) (comp == planned_comp disturbed t) frozen (alike t comp lt)
        ∙ sym (ap (λ (may : Bool). may && (comp == planned_comp disturbed t)) (is_member-tested (is_open disturbed t) MAX_COMPOSITIONS comp few))))

    pub past_kept : (n : ℕ) (root kept_root : List (List Bool)) → n < trips_later disturbed → IsPastRootTo disturbed n root
        → is_frozen (later_day disturbed) disturbed.minute n ≡ true
        → kept_root ≡ side_of (compositions_of (later_day disturbed)) (Only n (planned_comp disturbed n)) Left root
        → IsPastRootTo disturbed (n + 1) kept_root
    past_kept n root kept_root lt to frozen is =
        let below : n < length root = omega (arith, lt, to.each) in
        record {
          each = ap (λ (sets : List (List Bool)). length sets) is ∙ length-set root n (restricted (λ comp. comp == planned_comp disturbed n) (set_at root n)) ∙ to.each;
          done = λ t less within. elim (cases_eq t n) [
            | inl here ↦
                subst (λ (k : ℕ). set_at kept_root k ≡ set_of (may_have disturbed k)) (sym here)
                (ap (λ (sets : List (List Bool)). set_at sets n) is
                ∙ get_or-set_same root n (restricted (λ comp. comp == planned_comp disturbed n) (set_at root n)) [] below
                ∙ ap (λ (members : List Bool). restricted (λ comp. comp == planned_comp disturbed n) members) (to.left n (omega arith) lt)
                ∙ frozen_set n lt frozen)
            | inr differs ↦
                ap (λ (sets : List (List Bool)). set_at sets t) is
                ∙ get_or-set_other root n t (restricted (λ comp. comp == planned_comp disturbed n) (set_at root n)) [] differs
                ∙ to.done t (omega (arith, less, differs)) within
          ];
          left = λ t le within.
              let differs : t ≢ n = omega (arith, le) in
              ap (λ (sets : List (List Bool)). set_at sets t) is
              ∙ get_or-set_other root n t (restricted (λ comp. comp == planned_comp disturbed n) (set_at root n)) [] differs
              ∙ to.left t (omega (arith, le)) within;
        }

    -- the planned composition is one of those that the trip has so far
    pub planned_there : (n : ℕ) (root : List (List Bool)) → n < trips_later disturbed → IsPastRootTo disturbed n root → has root n (planned_comp disturbed n) ≡ true
    planned_there n root lt to =
        let listed : planned_comp disturbed n < length (compositions_of (later_day disturbed)) = planned_listed disturbed way n lt in
        ap (λ (members : List Bool). is_member members (planned_comp disturbed n)) (to.left n (omega arith) lt)
        ∙ is_member-tested (is_open disturbed n) MAX_COMPOSITIONS (planned_comp disturbed n) (omega (arith, listed, way.later.compositions))
        ∙ ap (is_admissible (later_day disturbed) n) (planned_is disturbed way n lt) ∙ planned_admissible disturbed way n lt
