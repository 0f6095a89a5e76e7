-- The shunt of a turn, by the number of units that stay.
use Rattle.std.proofs.Common.{◌≡◌, ℕ, ◌-◌, ◌≤◌, List, length, map, Bool, true, Option, Some, None, refl, sym, ap}
use Rattle.std.proofs.Common.{◌∙◌, arith, length-take, length-drop}
use Rattle.std.specs.Prelude.{option_map}
use Rattle.std.proofs.lemmas.List.{map-id}
use Rattle.rules.specs.declared.records.End.{End}
use Rattle.rules.specs.declared.records.End.TheVariants as at
use Rattle.rules.specs.declared.records.LinkKind.{LinkKind}
use Rattle.rules.specs.declared.records.LinkKind.TheVariants.{Turn}
use Rattle.timetable.specs.Links.{itself}
use Rattle.timetable.specs.Turns.{Parts, staying, beyond, kept_length, may_shunt, turn_parts}
use Rattle.rules.proofs.Turning.{kept-is, is_staying, turn_parts-some}
use Rattle.transitions.specs.declared.edge.Shunt.{Shunt}
use Rattle.transitions.specs.Turns.{shunt_of, turn_shunt, turn_shunt_of}

-- so many stay of both lists
pub record StayOfBoth (uncouple couple : End) (arriving departing : List ℕ) (n : ℕ) : Type 0 where
  pub some : 1 ≤ n
  pub of_arriving : n ≤ length arriving
  pub of_departing : n ≤ length departing
  pub arriving_long : length (staying uncouple arriving n) ≡ n
  pub departing_long : length (staying couple departing n) ≡ n
  pub one : staying uncouple arriving n ≡ staying couple departing n

-- what goes is as long as the rest
pub beyond_long : (end : End) (whole : List ℕ) (n : ℕ) → n ≤ length whole → length (staying end whole n) ≡ n → length (beyond end whole n) ≡ length whole - n
beyond_long at.None whole n within long = omega (arith, long)
beyond_long at.Rear whole n within long = length-drop n whole
beyond_long at.Front whole n within long = omega (arith, length-take (length whole - n) whole)

module _ (uncouple couple : End) (exchange : Bool) (arriving departing : List ℕ) where
  pub stay_of_both : (n : ℕ) → kept_length uncouple couple arriving departing ≡ Some n → StayOfBoth uncouple couple arriving departing n
  stay_of_both n e =
      let is = kept-is uncouple couple arriving departing n e in
      let off = is_staying uncouple arriving (staying uncouple arriving n) is.0.fits.uncoupled in
      let on = is_staying couple departing (staying uncouple arriving n) is.0.fits.coupled in
      let long = is.1 in
      record {
        some = omega (arith, is.0.fits.some, long);
        of_arriving = omega (arith, off.within, long);
        of_departing = omega (arith, on.within, long);
        arriving_long = long;
        departing_long = ap length is.2 ∙ long;
        one = sym is.2;
      }

  of_itself : kept_length uncouple couple (map itself arriving) (map itself departing) ≡ kept_length uncouple couple arriving departing
  of_itself =
      ap (λ (ms : List ℕ). kept_length uncouple couple ms (map itself departing)) (map-id arriving)
      ∙ ap (λ (ms : List ℕ). kept_length uncouple couple arriving ms) (map-id departing)

  -- a turn whose rule holds: so many stay, and no more are shunted than may be
  pub record Turns (n : ℕ) : Type 0 where
    pub stay : StayOfBoth uncouple couple arriving departing n
    pub few : may_shunt exchange (length arriving - n) (length departing - n) ≡ true

  pub turns : (shunt : Shunt) → turn_shunt uncouple couple exchange arriving departing ≡ Some shunt → (n : ℕ) × Turns n
  unfolding turn_shunt
  turns shunt e = on (turn_parts itself uncouple couple exchange arriving departing) refl e
    where
      on : (o : Option Parts) → turn_parts itself uncouple couple exchange arriving departing ≡ o → option_map shunt_of o ≡ Some shunt → (n : ℕ) × Turns n
      on None is some = absurd cc
      on (Some parts) is some =
          let of = turn_parts-some itself uncouple couple exchange arriving departing parts is in
          (of.number, record { stay = stay_of_both of.number (sym of_itself ∙ of.kept); few = of.parts_at.few })

-- the shunt of a link of a kind is by the parts of the turn
pub kind_by_parts : (kind : LinkKind) (a b : ℕ) (uncouple couple : End) (exchange : Bool) → kind ≡ Turn a b uncouple couple exchange
    → (arriving departing : List ℕ) (o : Option Parts) → turn_parts itself uncouple couple exchange arriving departing ≡ o
    → turn_shunt_of kind arriving departing ≡ option_map shunt_of o
unfolding turn_shunt
kind_by_parts kind a b uncouple couple exchange is arriving departing o e =
    ap (λ (k : LinkKind). turn_shunt_of k arriving departing) is ∙ ap (option_map shunt_of) e
