-- The shunt of a turn tells how many units its parts give and take.
use Rattle.std.proofs.Common.{◌≡◌, ℕ, ◌≤◌, List, length, Bool, true, false, Option, Some, None, refl, ap, ◌∙◌, subst}
use Rattle.std.proofs.Common.{arith, unwrap_or}
use Rattle.std.specs.Prelude.{◌==◌, if◌then◌else◌, option_map}
use Rattle.std.proofs.lemmas.Bool.{eqb-true, eq-eqb, ne_eqb}
use Rattle.std.proofs.lemmas.Bool.Decides.{nat_tests}
use Rattle.rules.specs.declared.records.End.{End}
use Rattle.timetable.specs.Links.{itself}
use Rattle.timetable.specs.Turns.{Parts, turn_parts}
use Rattle.timetable.proofs.WholeTurns.{have_parts}
use Rattle.transitions.specs.declared.edge.Shunt.{Shunt}
use Rattle.transitions.specs.declared.edge.Shunt.TheVariants.{Keep, Uncouple, Couple, Exchange}
use Rattle.transitions.specs.Laws.{TellsUnits, IsShuntOfParts, ShuntsCountUnits}
use Rattle.transitions.specs.Turns.{shunt_by_units, shunt_of, turn_shunt}

-- ---- by units

-- the shunt by two tests: whether none is given, and whether none is taken
abbrev shunt_by_tests : Bool → Bool → ℕ → ℕ → Shunt
shunt_by_tests none_given none_taken given taken =
    if none_given then (if none_taken then Keep else Couple taken) else if none_taken then Uncouple given else Exchange given taken

by_tests : (none_given none_taken : Bool) (given taken : ℕ) → (given == 0) ≡ none_given → (taken == 0) ≡ none_taken
    → shunt_by_units given taken ≡ shunt_by_tests none_given none_taken given taken
by_tests none_given none_taken given taken g t =
    ap (λ (b : Bool). shunt_by_tests b (taken == 0) given taken) g ∙ ap (λ (b : Bool). shunt_by_tests none_given b given taken) t

some_units : (n : ℕ) → (n == 0) ≡ false → 1 ≤ n
some_units n e = grind (arith, nat_tests)

not_none : (n units : ℕ) → 1 ≤ units → n ≡ units → (n == 0) ≡ false
not_none n units some is = ne_eqb n 0 (λ none. absurd (omega (arith, none, is)))

tells_by_tests : (none_given none_taken : Bool) (given taken : ℕ) → (given == 0) ≡ none_given → (taken == 0) ≡ none_taken
    → TellsUnits (shunt_by_tests none_given none_taken given taken) given taken
tells_by_tests true true given taken g t = (eqb-true given 0 g, eqb-true taken 0 t)
tells_by_tests true false given taken g t = (some_units taken t, eqb-true given 0 g, refl)
tells_by_tests false true given taken g t = (some_units given g, refl, eqb-true taken 0 t)
tells_by_tests false false given taken g t = (some_units given g, some_units taken t, refl, refl)

tells : (given taken : ℕ) → TellsUnits (shunt_by_units given taken) given taken
tells given taken = tells_by_tests (given == 0) (taken == 0) given taken refl refl

told : (shunt : Shunt) (given taken : ℕ) → TellsUnits shunt given taken → shunt_by_units given taken ≡ shunt
told Keep given taken (none_given, none_taken) = by_tests true true given taken (eq-eqb given 0 none_given) (eq-eqb taken 0 none_taken)
told (Uncouple units) given taken (some, is, none) = by_tests false true given taken (not_none given units some is) (eq-eqb taken 0 none) ∙ ap (λ (n : ℕ). Uncouple n) is
told (Couple units) given taken (some, none, is) = by_tests true false given taken (eq-eqb given 0 none) (not_none taken units some is) ∙ ap (λ (n : ℕ). Couple n) is
told (Exchange uncouple couple) given taken (some_off, some_on, is_off, is_on) =
    by_tests false false given taken (not_none given uncouple some_off is_off) (not_none taken couple some_on is_on)
    ∙ ap (λ (n : ℕ). Exchange n taken) is_off ∙ ap (λ (n : ℕ). Exchange uncouple n) is_on

-- ---- by parts

module _ (uncouple couple : End) (exchange : Bool) (arriving departing : List ℕ) (shunt : Shunt) where
  of_parts : turn_shunt uncouple couple exchange arriving departing ≡ Some shunt → IsShuntOfParts uncouple couple exchange arriving departing shunt
  unfolding turn_shunt
  of_parts e = on (turn_parts itself uncouple couple exchange arriving departing) refl e
    where
      on : (o : Option Parts) → turn_parts itself uncouple couple exchange arriving departing ≡ o → option_map shunt_of o ≡ Some shunt
          → IsShuntOfParts uncouple couple exchange arriving departing shunt
      on None is some = absurd cc
      on (Some parts) is some =
          let one : shunt_by_units (length parts.given) (length parts.taken) ≡ shunt = ap (λ (o : Option Shunt). unwrap_or o Keep) some in
          record {
            parts = parts;
            are = (have_parts itself uncouple couple exchange arriving departing parts).0 is;
            units = subst (λ (s : Shunt). TellsUnits s (length parts.given) (length parts.taken)) one (tells (length parts.given) (length parts.taken));
          }

  by_parts : IsShuntOfParts uncouple couple exchange arriving departing shunt → turn_shunt uncouple couple exchange arriving departing ≡ Some shunt
  unfolding turn_shunt
  by_parts of =
      ap (option_map shunt_of) ((have_parts itself uncouple couple exchange arriving departing of.parts).1 of.are)
      ∙ ap (λ (s : Shunt). Some s) (told shunt (length of.parts.given) (length of.parts.taken) of.units)

pub shunts_count_units : ShuntsCountUnits
shunts_count_units uncouple couple exchange arriving departing shunt =
    (of_parts uncouple couple exchange arriving departing shunt, by_parts uncouple couple exchange arriving departing shunt)
