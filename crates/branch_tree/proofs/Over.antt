-- Regions over a catalogue: the root of a day, the sides of cuts, and cuts that are proper.
use Rattle.std.proofs.Common.{◌≡◌, ℕ, zero, suc, ◌<◌, ◌≤◌, ◌≢◌, List, [], ◌∷◌, length, Bool, true, false, not, ◌==◌}
use Rattle.std.proofs.Common.{if◌then◌else◌, refl, sym, ◌∙◌, ap, arith, ⊎_elim}
use Rattle.std.proofs.lemmas.Bool.{cases_lt, eq-eqb, ne_eqb}
use Rattle.std.proofs.lemmas.Grind.{get_or-set_at}
use Rattle.std.proofs.lemmas.List.{get_or_past, length-set, set_past}
use Rattle.std.proofs.lemmas.List.FromFn.{length-map-range_with_len, get_or-map-range_with_len}
use Rattle.rail_base.specs.declared.limits.TheConstants.{MAX_COMPOSITIONS}
use Rattle.timetable.specs.Day.{Day}
use Rattle.timetable.specs.Admissible.{is_admissible}
use Rattle.timetable.specs.Compositions.{compositions_of, composition_at}
use Rattle.branch_tree.specs.declared.cuts.Cut.{Cut}
use Rattle.branch_tree.specs.declared.cuts.Cut.TheVariants.{Only}
use Rattle.branch_tree.specs.declared.cuts.Side.{Side}
use Rattle.branch_tree.specs.declared.cuts.Side.TheVariants.{Left, Right}
use Rattle.branch_tree.specs.Cuts.{trip_of, is_on, side_of}
use Rattle.branch_tree.specs.Laws.{RootsAreOver, SidesAreOver, SomeCutsAreProper}
use Rattle.branch_tree.specs.Regions.{has, set_at, root_of}
use Rattle.branch_tree.specs.Sets.{is_member, HasMember, size_of, set_of, restricted}
use Rattle.branch_tree.proofs.Admitted.{none_past}
use Rattle.branch_tree.proofs.Settling.{both}
use Rattle.branch_tree.proofs.Dividing.{cuts_keep}
use Rattle.branch_tree.proofs.Members.{is_member-tested, is_member-past, is_member-restricted, length-tested, both_true}

no : false ≡ true → ⊥
no wrong = cc

-- a member of a tested set passes the test
tested_member : (test : ℕ → Bool) (comp : ℕ) → is_member (set_of test) comp ≡ true → test comp ≡ true
tested_member test comp there =
    ⊎_elim (λ below. sym (is_member-tested test MAX_COMPOSITIONS comp below) ∙ there)
    (λ past. absurd (no (sym (is_member-past (set_of test) comp (omega (arith, past, length-tested test MAX_COMPOSITIONS))) ∙ there)))
    (cases_lt comp MAX_COMPOSITIONS)

admissible_below : (day : Day) (trip comp : ℕ) → is_admissible day trip (composition_at day comp) ≡ true → comp < length (compositions_of day)
admissible_below day trip comp admitted =
    ⊎_elim (λ below. below) (λ past. absurd (no (sym (none_past day trip comp past) ∙ admitted))) (cases_lt comp (length (compositions_of day)))

pub roots_are_over : RootsAreOver
unfolding root_of
roots_are_over day = record {
  each = length-map-range_with_len (λ trip. set_of (λ comp. is_admissible day trip (composition_at day comp))) 0 (length day.trips);
  within = λ trip comp there.
      ⊎_elim (λ below. admissible_below day trip comp (tested_member (λ c. is_admissible day trip (composition_at day c)) comp
      (sym (ap (λ members. is_member members comp) (get_or-map-range_with_len (λ t. set_of (λ c. is_admissible day t (composition_at day c))) 0 (length day.trips) trip trip [] below (omega arith))) ∙ there)))
      (λ past. absurd (no (sym (ap (λ members. is_member members comp) (get_or_past (root_of day) trip [] (omega (arith, past, root_length)))) ∙ there)))
      (cases_lt trip (length day.trips));
}
  where
    root_length : length (root_of day) ≡ length day.trips
    root_length = length-map-range_with_len (λ trip. set_of (λ comp. is_admissible day trip (composition_at day comp))) 0 (length day.trips)

pub sides_are_over : SidesAreOver
sides_are_over trips catalogue other cut side region over = record {
  each = length-set region (trip_of cut) (restricted (is_on other cut side) (set_at region (trip_of cut))) ∙ over.each;
  within = λ trip comp there.
      ⊎_elim (λ inside. over.within trip comp (both (has region trip comp) (if trip == trip_of cut then is_on other cut side comp else true) (sym (cuts_keep other cut side region trip comp inside) ∙ there)).0)
      (λ past. over.within trip comp (sym (ap (λ r. has r trip comp) (set_past region (trip_of cut) (restricted (is_on other cut side) (set_at region (trip_of cut))) past)) ∙ there))
      (cases_lt (trip_of cut) (length region));
}

-- a set with members has one
some_member : (members : List Bool) → 1 ≤ size_of members → HasMember members
some_member [] some = absurd (omega (arith, some))
some_member (true ∷ members) some = (0, refl)
some_member (false ∷ members) some = let rest : HasMember members = some_member members (omega (arith, some)) in (suc rest.0, rest.1)

-- another member than this one
record HasOther (members : List Bool) (comp : ℕ) : Type 0 where
  other : ℕ
  there : is_member members other ≡ true
  differs : other ≢ comp

other_member : (members : List Bool) (comp : ℕ) → 1 < size_of members → HasOther members comp
other_member [] comp more = absurd (omega (arith, more))
other_member (true ∷ members) zero more = let rest : HasMember members = some_member members (omega (arith, more)) in record { other = suc rest.0; there = rest.1; differs = λ same. omega (arith, same) }
other_member (true ∷ members) (suc comp) more = record { other = 0; there = refl; differs = λ same. omega (arith, same) }
other_member (false ∷ members) zero more = let rest : HasMember members = some_member members (omega (arith, more)) in record { other = suc rest.0; there = rest.1; differs = λ same. omega (arith, same) }
other_member (false ∷ members) (suc comp) more =
    let rest : HasOther members comp = other_member members comp (omega (arith, more)) in record { other = suc rest.other; there = rest.there; differs = λ same. rest.differs (omega (arith, same)) }

-- a member that is on a side of a cut is in the set on that side
on_side : (catalogue : List (List ℕ)) (region : List (List Bool)) (cut : Cut) (side : Side) (comp : ℕ) → trip_of cut < length region →
    is_member (set_at region (trip_of cut)) comp ≡ true → is_on catalogue cut side comp ≡ true → HasMember (set_at (side_of catalogue cut side region) (trip_of cut))
on_side catalogue region cut side comp inside there on = (
  comp,
  ap (λ members. is_member members comp) (get_or-set_at region (trip_of cut) (trip_of cut) (restricted (is_on catalogue cut side) (set_at region (trip_of cut))) [] refl inside)
      ∙ is_member-restricted (is_on catalogue cut side) (set_at region (trip_of cut)) comp ∙ both_true (is_member (set_at region (trip_of cut)) comp) (is_on catalogue cut side comp) there on,
)

pub some_cuts_are_proper : SomeCutsAreProper
some_cuts_are_proper catalogue region trip comp inside listed there more =
    let another : HasOther (set_at region trip) comp = other_member (set_at region trip) comp more in
    record {
      in_range = (inside, listed);
      left = on_side catalogue region (Only trip comp) Left comp inside there (eq-eqb comp comp refl);
      right = on_side catalogue region (Only trip comp) Right another.other inside another.there (ap not (ne_eqb another.other comp another.differs));
    }
