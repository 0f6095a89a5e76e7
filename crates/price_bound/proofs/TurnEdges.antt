-- Which edges a turn without exchange has: the units stay, or some of them go at the one end, or some come at the other.
use Rattle.std.proofs.Common.{◌≡◌, ◌≢◌, ℕ, ◌<◌, ◌≤◌, List, [], ◌∷◌, length, map, Bool, true, false, ◌&&◌}
use Rattle.std.proofs.Common.{◌||◌, Some, None, refl, sym, ap, ◌∙◌, subst, arith, inl, inr, append-nil}
use Rattle.std.specs.Prelude.{◌==◌, nat_le}
use Rattle.std.proofs.lemmas.Bool.{or_cases, or_left, or_right, eqb-true, false≢true}
use Rattle.std.proofs.lemmas.List.{map-id}
use Rattle.rules.specs.declared.records.End.{End}
use Rattle.rules.specs.declared.records.End.TheVariants as at
use Rattle.timetable.specs.Compositions.{compositions_of, composition_at}
use Rattle.timetable.specs.Day.{Day}
use Rattle.timetable.specs.Links.{itself, turned}
use Rattle.timetable.specs.Turns.{AreParts, Consists, IsKeptList, IsWithout, Parts}
use Rattle.rules.proofs.Turning.{is_staying}
use Rattle.transitions.specs.declared.edge.Edge.{Edge}
use Rattle.transitions.specs.declared.edge.Shunt.{Shunt}
use Rattle.transitions.specs.declared.edge.Shunt.TheVariants.{Keep, Uncouple, Couple, Exchange}
use Rattle.transitions.specs.Edges.{IsTurnEdge, IsAdmittedComp}
use Rattle.transitions.specs.Laws.{IsShuntOfParts, TellsUnits}
use Rattle.transitions.specs.Turns.{turn_shunt}
use Rattle.transitions.proofs.Counting.{shunts_count_units}
use Rattle.price_bound.specs.CompositionTrees.{IsMadeOf}
use Rattle.price_bound.proofs.CompositionTrees.{length_consists, listed_some, number_once}

-- ---- lists

none_goes : (end : End) (whole stays goes : List ℕ) → Consists end whole stays goes → length goes ≡ 0 → whole ≡ stays
none_goes at.None whole stays goes consists none = consists.0
none_goes at.Rear whole stays [] consists none = consists ∙ append-nil stays
none_goes at.Rear whole stays (x ∷ xs) consists none = absurd (omega (arith, none))
none_goes at.Front whole stays [] consists none = consists
none_goes at.Front whole stays (x ∷ xs) consists none = absurd (omega (arith, none))

all_stay : (end : End) (whole : List ℕ) → Consists end whole whole []
all_stay at.None whole = (refl, refl)
all_stay at.Rear whole = sym (append-nil whole)
all_stay at.Front whole = refl

without : (end : End) (whole stays goes : List ℕ) → Consists end whole stays goes → IsWithout end whole stays
without at.None whole stays goes consists = sym consists.0
without at.Rear whole stays goes consists = (goes, sym consists)
without at.Front whole stays goes consists = (goes, sym consists)

no_longer : (end : End) (whole part : List ℕ) → IsWithout end whole part → length part ≤ length whole
no_longer end whole part is = (is_staying end whole part is).within

-- the list that is the shorter of the two, and a part of the other, is what a turn keeps
keeps_off : (u c : End) (arriving departing gone : List ℕ) → 1 ≤ length departing → Consists u arriving departing gone → IsKeptList u c arriving departing departing
keeps_off u c arriving departing gone some consists = record {
  fits = record { some = some; uncoupled = without u arriving departing gone consists; coupled = without c departing departing [] (all_stay c departing) };
  longest = λ other fits. no_longer c departing other fits.coupled;
}

keeps_on : (u c : End) (arriving departing more : List ℕ) → 1 ≤ length arriving → Consists c departing arriving more → IsKeptList u c arriving departing arriving
keeps_on u c arriving departing more some consists = record {
  fits = record { some = some; uncoupled = without u arriving arriving [] (all_stay u arriving); coupled = without c departing arriving more consists };
  longest = λ other fits. no_longer u arriving other fits.uncoupled;
}

of_themselves : (u c : End) (arriving departing kept : List ℕ) → IsKeptList u c arriving departing kept
    → IsKeptList u c (map itself arriving) (map itself departing) (map itself kept)
of_themselves u c arriving departing kept is =
    subst (λ (ms : List ℕ). IsKeptList u c ms (map itself departing) (map itself kept)) (sym (map-id arriving))
    (subst (λ (ms : List ℕ). IsKeptList u c arriving ms (map itself kept)) (sym (map-id departing))
    (subst (λ (ms : List ℕ). IsKeptList u c arriving departing ms) (sym (map-id kept)) is))

-- ---- shunts without exchange

module _ (u c : End) (arriving departing : List ℕ) where
  -- what a shunt does
  pub data IsShunt : Shunt → Type 0 where
    keeps : arriving ≡ departing → IsShunt Keep
    uncouples : {units : ℕ} → (gone : List ℕ) → Consists u arriving departing gone → 1 ≤ length gone → IsShunt (Uncouple units)
    couples : {units : ℕ} → (came : List ℕ) → Consists c departing arriving came → 1 ≤ length came → IsShunt (Couple units)

  is_shunt : (shunt : Shunt) → turn_shunt u c false arriving departing ≡ Some shunt → IsShunt shunt
  is_shunt shunt rule =
      let of : IsShuntOfParts u c false arriving departing shunt = (shunts_count_units u c false arriving departing shunt).0 rule in
      on shunt of.parts of.are of.units
    where
      on : (shunt : Shunt) (parts : Parts) → AreParts itself u c false arriving departing parts → TellsUnits shunt (length parts.given) (length parts.taken)
          → IsShunt shunt
      on Keep parts are (none_given, none_taken) =
          keeps (none_goes u arriving parts.kept parts.given are.arrive none_given ∙ sym (none_goes c departing parts.kept parts.taken are.depart none_taken))
      on (Uncouple units) parts are (some, is, none) =
          uncouples parts.given
          (subst (λ (ms : List ℕ). Consists u arriving ms parts.given) (sym (none_goes c departing parts.kept parts.taken are.depart none)) are.arrive)
          (omega (arith, some, is))
      on (Couple units) parts are (some, none, is) =
          couples parts.taken
          (subst (λ (ms : List ℕ). Consists c departing ms parts.taken) (sym (none_goes u arriving parts.kept parts.given are.arrive none)) are.depart)
          (omega (arith, some, is))
      on (Exchange uncoupled coupled) parts are (some_off, some_on, is_off, is_on) =
          elim (or_cases (length parts.given == 0 || length parts.taken == 0) (false && nat_le (length parts.given) 2 && nat_le (length parts.taken) 2) are.few) [
            | inl one ↦ elim (or_cases (length parts.given == 0) (length parts.taken == 0) one) [
              | inl none ↦ absurd (omega (arith, some_off, is_off, eqb-true (length parts.given) 0 none))
              | inr none ↦ absurd (omega (arith, some_on, is_on, eqb-true (length parts.taken) 0 none))
            ]
            | inr more ↦ absurd (false≢true more)
          ]

  keep_shunt : 1 ≤ length arriving → arriving ≡ departing → turn_shunt u c false arriving departing ≡ Some Keep
  keep_shunt some same = (shunts_count_units u c false arriving departing Keep).1 (record {
    parts = record { kept = arriving; given = []; taken = [] };
    are = record {
      types = of_themselves u c arriving departing arriving (keeps_on u c arriving departing [] some stays);
      arrive = all_stay u arriving;
      depart = stays;
      few = refl;
    };
    units = (refl, refl);
  })
    where
      stays : Consists c departing arriving []
      stays = subst (λ (ms : List ℕ). Consists c ms arriving []) same (all_stay c arriving)

  uncouple_shunt : (gone : List ℕ) → 1 ≤ length departing → 1 ≤ length gone → Consists u arriving departing gone
      → turn_shunt u c false arriving departing ≡ Some (Uncouple (length gone))
  uncouple_shunt gone some some_gone consists = (shunts_count_units u c false arriving departing (Uncouple (length gone))).1 (record {
    parts = record { kept = departing; given = gone; taken = [] };
    are = record {
      types = of_themselves u c arriving departing departing (keeps_off u c arriving departing gone some consists);
      arrive = consists;
      depart = all_stay c departing;
      few = or_left _ _ (or_right (length gone == 0) true refl);
    };
    units = (some_gone, refl, refl);
  })

  couple_shunt : (came : List ℕ) → 1 ≤ length arriving → 1 ≤ length came → Consists c departing arriving came
      → turn_shunt u c false arriving departing ≡ Some (Couple (length came))
  couple_shunt came some some_came consists = (shunts_count_units u c false arriving departing (Couple (length came))).1 (record {
    parts = record { kept = arriving; given = []; taken = came };
    are = record {
      types = of_themselves u c arriving departing arriving (keeps_on u c arriving departing came some consists);
      arrive = all_stay u arriving;
      depart = consists;
      few = refl;
    };
    units = (some_came, refl, refl);
  })

-- ---- edges

-- the number of another composition differs
pub some_more : (day : Day) (end : End) (comp part : ℕ) → comp < length (compositions_of day) → (of : IsMadeOf day end comp part) → comp ≢ part → 1 ≤ length of.more
some_more day end comp part listed of differ = by of.more of.is
  where
    by : (more : List ℕ) → Consists end (composition_at day comp) (composition_at day part) more → 1 ≤ length more
    by [] consists = absurd (differ (number_once day comp part listed of.listed (none_goes end (composition_at day comp) (composition_at day part) [] consists refl)))
    by (x ∷ more) consists = omega arith

other_number : (day : Day) (end : End) (comp part : ℕ) (more : List ℕ) → Consists end (composition_at day comp) (composition_at day part) more → 1 ≤ length more → comp ≢ part
other_number day end comp part more consists some same =
    omega (arith, some, length_consists end (composition_at day comp) (composition_at day part) more consists, ap (λ (k : ℕ). length (composition_at day k)) same)

-- from a composition that is this one after a reversal
module _ (day : Day) (r : Bool) (a b : ℕ) (u c : End) (from arrived : ℕ) (runs : IsAdmittedComp day a from) (listed : arrived < length (compositions_of day))
    (is : composition_at day arrived ≡ turned r (composition_at day from)) where
  -- what an edge does
  pub data IsTurned (to : ℕ) : Shunt → Type 0 where
    keeps_all : arrived ≡ to → IsTurned to Keep
    uncouples_some : {units : ℕ} → IsMadeOf day u arrived to → arrived ≢ to → IsTurned to (Uncouple units)
    couples_some : {units : ℕ} → IsMadeOf day c to arrived → to ≢ arrived → IsTurned to (Couple units)

  pub of_edge : (edge : Edge) → edge.from ≡ from → IsTurnEdge day r a b u c false edge → IsTurned edge.to edge.shunt
  of_edge edge origin allowed =
      let arriving : turned r (composition_at day edge.from) ≡ composition_at day arrived = ap (λ (k : ℕ). turned r (composition_at day k)) origin ∙ sym is in
      on edge.shunt (is_shunt u c (composition_at day arrived) (composition_at day edge.to) edge.shunt
      (subst (λ (ms : List ℕ). turn_shunt u c false ms (composition_at day edge.to) ≡ Some edge.shunt) arriving allowed.rule))
    where
      on : (shunt : Shunt) → IsShunt u c (composition_at day arrived) (composition_at day edge.to) shunt → IsTurned edge.to shunt
      on Keep (keeps same) = keeps_all (number_once day arrived edge.to listed allowed.departing.listed same)
      on (Uncouple units) (uncouples gone consists some) =
          uncouples_some (record { listed = allowed.departing.listed; more = gone; is = consists }) (other_number day u arrived edge.to gone consists some)
      on (Couple units) (couples came consists some) =
          couples_some (record { listed = listed; more = came; is = consists }) (other_number day c edge.to arrived came consists some)
      on (Exchange _ _) shunts = elim shunts [ ]

  -- an edge of this shunt
  abbrev turn_edge : ℕ → Shunt → Edge
  turn_edge to shunt = record { from = from; to = to; shunt = shunt; part = None }

  makes : (to : ℕ) (shunt : Shunt) → IsAdmittedComp day b to → turn_shunt u c false (composition_at day arrived) (composition_at day to) ≡ Some shunt
      → IsTurnEdge day r a b u c false (turn_edge to shunt)
  makes to shunt runs_too rule = record {
    arriving = runs;
    departing = runs_too;
    rule = subst (λ (ms : List ℕ). turn_shunt u c false ms (composition_at day to) ≡ Some shunt) is rule;
    no_part = refl;
  }

  pub keep_edge : IsAdmittedComp day b arrived → IsTurnEdge day r a b u c false (turn_edge arrived Keep)
  keep_edge runs_too = makes arrived Keep runs_too (keep_shunt u c (composition_at day arrived) (composition_at day arrived) (listed_some day arrived listed) refl)

  pub uncouple_edge : (to : ℕ) → IsAdmittedComp day b to → IsMadeOf day u arrived to → arrived ≢ to
      → (units : ℕ) × IsTurnEdge day r a b u c false (turn_edge to (Uncouple units))
  uncouple_edge to runs_too of differ = (
    length of.more,
    makes to (Uncouple (length of.more)) runs_too (uncouple_shunt u c (composition_at day arrived) (composition_at day to) of.more
        (listed_some day to runs_too.listed) (some_more day u arrived to listed of differ) of.is),
  )

  pub couple_edge : (to : ℕ) → IsAdmittedComp day b to → IsMadeOf day c to arrived → to ≢ arrived
      → (units : ℕ) × IsTurnEdge day r a b u c false (turn_edge to (Couple units))
  couple_edge to runs_too of differ = (
    length of.more,
    makes to (Couple (length of.more)) runs_too (couple_shunt u c (composition_at day arrived) (composition_at day to) of.more
        (listed_some day arrived listed) (some_more day c to arrived runs_too.listed of differ) of.is),
  )
