-- Types that may run on a trip are a composition of the day.
use Rattle.std.proofs.Common.{◌≡◌, ℕ, ◌<◌, ◌≤◌, List, length, Bool, [], true, Option, Some, None, inl}
use Rattle.std.proofs.Common.{inr, sym, ap, subst, ◌∙◌, arith, get_or, slice_get}
use Rattle.std.specs.Prelude.{◌↔◌, ◌&&◌, ◌==◌, nat_lt}
use Rattle.std.proofs.lemmas.Bool.{and_parts, or_cases, eqb-true, ltb-true, cases_eq, cases_lt}
use Rattle.std.proofs.lemmas.Option.{slice_get_within, get_or_from_slice_get, unwrap_or-slice_get}
use Rattle.compositions.specs.Catalogue.{is_lower, comes_before}
use Rattle.compositions.proofs.Fitting.{Fits-from_test}
use Rattle.compositions.proofs.Listing.{catalogue_listed}
use Rattle.timetable.specs.Admissible.{is_admissible}
use Rattle.timetable.specs.Compositions.{greatest_platform, compositions_of, composition_at}
use Rattle.timetable.specs.Day.{Day}
use Rattle.timetable.specs.Links.{turned}
use Rattle.timetable.proofs.AdmittedTypes.{CompositionOf, composition_of}
use Rattle.rail_base.specs.declared.limits.TheConstants.{MAX_EXCHANGED}
use Rattle.transitions.specs.Edges.{IsAdmittedComp}
use Rattle.transitions.specs.Pairs.{AreAmongFirst}
use Rattle.transitions.proofs.Kept.{length-turned}

-- the number of the composition of types that may run on a trip
pub record NumberOf (day : Day) (t : ℕ) (ms : List ℕ) : Type 0 where
  pub comp : ℕ
  pub runs : IsAdmittedComp day t comp
  pub is : composition_at day comp ≡ ms

pub number_of : (day : Day) (t : ℕ) (ms : List ℕ) → is_admissible day t ms ≡ true → NumberOf day t ms
number_of day t ms fits =
    let as_listed : CompositionOf day ms = composition_of day t ms fits in
    record {
      comp = as_listed.comp;
      runs = record { listed = as_listed.listed; admissible = subst (λ (ns : List ℕ). is_admissible day t ns ≡ true) (sym as_listed.is) fits };
      is = as_listed.is;
    }

-- a composition of the catalogue has at most six units
pub few_units : (day : Day) (comp : ℕ) → comp < length (compositions_of day) → length (composition_at day comp) ≤ 6
few_units day comp listed =
    let fits = Fits-from_test day.types (greatest_platform day) (get_or (compositions_of day) comp []) ((catalogue_listed day.types (greatest_platform day)).listed.fit comp [] listed) in
    omega (arith, fits.few, ap length (unwrap_or-slice_get (compositions_of day) comp []))

-- a list of more units is not there
pub too_long : (day : Day) (r : Bool) (ms : List ℕ) → 6 < length ms → (o : Option ℕ) → o ≡ None → (comp : ℕ) → (o ≡ Some comp) ↔ ((comp < length (compositions_of day)) × (composition_at day comp ≡ turned r ms))
too_long day r ms long o none comp = (
  λ some. let e : None ≡ Some comp = sym none ∙ some in absurd cc,
  λ there. absurd (omega (arith, few_units day comp there.0, ap length there.1, length-turned r ms)),
)

-- what comes before has no more units
no_longer : (ms ns : List ℕ) → comes_before ms ns ≡ true → length ms ≤ length ns
no_longer ms ns before = elim (or_cases (nat_lt (length ms) (length ns)) (length ms == length ns && is_lower ms ns) before) [
  | inl l ↦ let shorter = ltb-true (length ms) (length ns) l in omega arith
  | inr l ↦ let same = eqb-true (length ms) (length ns) (and_parts (length ms == length ns) (is_lower ms ns) l).0 in omega (arith, same)
]

-- before the first composition of more units than an exchange may uncouple stand all of no more
pub among_first : (day : Day) (list : List (List ℕ)) (part : ℕ) (ms : List ℕ) → list ≡ compositions_of day → slice_get list part ≡ Some ms → MAX_EXCHANGED < length ms → AreAmongFirst day part
among_first day list part ms is at long =
    let here : slice_get (compositions_of day) part ≡ Some ms = ap (λ (l : List (List ℕ)). slice_get l part) (sym is) ∙ at in
    let below : part < length (compositions_of day) = slice_get_within (compositions_of day) part ms here in
    let first : get_or (compositions_of day) part [] ≡ ms = get_or_from_slice_get (compositions_of day) part ms [] here in
    record {
      within = omega (arith, below);
      all = λ comp listed short. elim (cases_lt comp part) [
        | inl l ↦ l
        | inr past ↦
            let there : composition_at day comp ≡ get_or (compositions_of day) comp [] = unwrap_or-slice_get (compositions_of day) comp [] in
            elim (cases_eq part comp) [
              | inl same ↦
                  let e : get_or (compositions_of day) part [] ≡ get_or (compositions_of day) comp [] = ap (λ (n : ℕ). get_or (compositions_of day) n []) same in
                  absurd (omega (arith, short, long, ap length there, ap length e, ap length first))
              | inr differs ↦
                  let before = no_longer (get_or (compositions_of day) part []) (get_or (compositions_of day) comp [])
                  ((catalogue_listed day.types (greatest_platform day)).listed.in_order part comp [] (omega (arith, past, differs)) listed) in
                  absurd (omega (arith, short, long, before, ap length there, ap length first))
            ]
      ];
    }
