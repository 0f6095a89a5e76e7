-- Picks of which each was found to be one that may run on its trip.
use Rattle.std.proofs.Common.{◌≡◌, ◌∙◌, ◌<◌, ◌+◌, ℕ, List, [], length, Option, Some, get_or, slice_get, unwrap_or}
use Rattle.std.proofs.Common.{⊎_elim, sym, ap, subst, arith}
use Rattle.std.specs.Prelude.{IsTrue, option_map}
use Rattle.std.proofs.lemmas.Bool.{cases_lt}
use Rattle.std.proofs.lemmas.Option.{slice_get-get_or, slice_get-map}
use Rattle.timetable.specs.Admissible.{is_admissible}
use Rattle.timetable.specs.Compositions.{composition_at}
use Rattle.timetable.specs.Day.{Day}
use Rattle.timetable.specs.Links.{list_of}
use Rattle.timetable.specs.Picks.{ArePicks, picked}
use Rattle.transitions.specs.Edges.{IsAdmittedComp}
use Rattle.unit_duties.specs.Broken.{AreAdmissible}

-- the picks of the trips below a number may run
abbrev pub MayRunBelow : Day → List ℕ → ℕ → Type 0
MayRunBelow day picks bound = (t comp : ℕ) → t < bound → slice_get picks t ≡ Some comp → IsAdmittedComp day t comp

one : (x y : ℕ) → Some x ≡ Some y → x ≡ y
one x y e = cc

pub one_more : (day : Day) (picks : List ℕ) (n found : ℕ) → MayRunBelow day picks n → slice_get picks n ≡ Some found
    → IsAdmittedComp day n found → MayRunBelow day picks (n + 1)
one_more day picks n found before at runs t comp below here =
    ⊎_elim (λ less. before t comp less here)
    (λ past.
    let last : n ≡ t = omega (arith, past, below) in
    let same : found ≡ comp = one found comp (sym at ∙ ap (slice_get picks) last ∙ here) in
    subst (λ (k : ℕ). IsAdmittedComp day k comp) last (subst (IsAdmittedComp day n) same runs))
    (cases_lt t n)

module _ (day : Day) (picks : List ℕ) (many : length picks ≡ length day.trips) (each : MayRunBelow day picks (length day.trips)) where
  pub are_picks : ArePicks day picks
  are_picks = record {
    trips = many;
    known = λ t d lt. (each t (get_or picks t d) (omega (arith, many, lt)) (slice_get-get_or picks t d lt)).listed;
  }

  types_at : (t comp : ℕ) → slice_get picks t ≡ Some comp → list_of (picked day picks) t ≡ composition_at day comp
  unfolding list_of
  types_at t comp at = ap (λ (o : Option (List ℕ)). unwrap_or o []) (slice_get-map (composition_at day) picks t ∙ ap (option_map (composition_at day)) at)

  pub are_admissible : AreAdmissible day picks
  are_admissible = record {
    each = λ t lt.
        let at : slice_get picks t ≡ Some (get_or picks t 0) = slice_get-get_or picks t 0 (omega (arith, many, lt)) in
        subst (λ us. IsTrue (is_admissible day t us)) (sym (types_at t (get_or picks t 0) at)) (each t (get_or picks t 0) lt at).admissible;
  }
