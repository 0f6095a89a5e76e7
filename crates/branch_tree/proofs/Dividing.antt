-- Cuts of regions: what a side has, which picks are on it, and what a set put back restores.
use Rattle.std.proofs.Common.{◌≡◌, ℕ, zero, suc, ◌<◌, ◌≢◌, List, [], ◌∷◌, length, get_or, set, Bool, true, false, not}
use Rattle.std.proofs.Common.{◌&&◌, ◌==◌, if◌then◌else◌, eqb, ◌⊎◌, inl, inr, refl, sym, ◌∙◌, ap, arith}
use Rattle.std.proofs.lemmas.Bool.Decides.{eqb_tells}
use Rattle.std.proofs.lemmas.Grind.{get_or-set_at}
use Rattle.std.proofs.lemmas.List.{get_or-set_other, set-get_or}
use Rattle.branch_tree.specs.declared.cuts.Cut.{Cut}
use Rattle.branch_tree.specs.declared.cuts.Side.{Side}
use Rattle.branch_tree.specs.declared.cuts.Side.TheVariants.{Left, Right}
use Rattle.branch_tree.specs.Cuts.{trip_of, is_on, is_met, side_of}
use Rattle.branch_tree.specs.Laws.{CutsKeep, CutsDivide, CutsAreUndone}
use Rattle.branch_tree.specs.Regions.{are_in, has, set_at}
use Rattle.branch_tree.specs.Sets.{is_member, restricted}
use Rattle.branch_tree.proofs.Members.{is_member-restricted}

and-true : (b : Bool) → b ≡ (b && true)
and-true true = refl
and-true false = refl

and-false : (b : Bool) → false ≡ (b && false)
and-false true = refl
and-false false = refl

swap_and : (a b c : Bool) → (a && (b && c)) ≡ (b && (a && c))
swap_and true true c = refl
swap_and true false c = refl
swap_and false true c = refl
swap_and false false c = refl

keeps_at : (catalogue : List (List ℕ)) (cut : Cut) (side : Side) (region : List (List Bool)) (trip comp : ℕ) → trip_of cut < length region →
    ((eqb trip (trip_of cut) ≡ true) × (trip ≡ trip_of cut)) ⊎ ((eqb trip (trip_of cut) ≡ false) × (trip ≢ trip_of cut)) →
    has (side_of catalogue cut side region) trip comp ≡ (has region trip comp && (if trip == trip_of cut then is_on catalogue cut side comp else true))
keeps_at catalogue cut side region trip comp inside (inl (p, same)) =
    ap (λ members. is_member members comp) (get_or-set_at region (trip_of cut) trip (restricted (is_on catalogue cut side) (set_at region (trip_of cut))) [] same inside)
    ∙ is_member-restricted (is_on catalogue cut side) (set_at region (trip_of cut)) comp
    ∙ ap (λ t. is_member (set_at region t) comp && is_on catalogue cut side comp) (sym same)
    ∙ ap (λ b. has region trip comp && (if b then is_on catalogue cut side comp else true)) (sym p)
keeps_at catalogue cut side region trip comp inside (inr (p, other)) =
    ap (λ members. is_member members comp) (get_or-set_other region (trip_of cut) trip (restricted (is_on catalogue cut side) (set_at region (trip_of cut))) [] other)
    ∙ and-true (has region trip comp)
    ∙ ap (λ b. has region trip comp && (if b then is_on catalogue cut side comp else true)) (sym p)

pub cuts_keep : CutsKeep
cuts_keep catalogue cut side region trip comp inside = keeps_at catalogue cut side region trip comp inside (eqb_tells trip (trip_of cut))

-- picks are in a region apart from a trip
are_in_but : List ℕ → List (List Bool) → ℕ → Bool
are_in_but [] [] trip = true
are_in_but [] (members ∷ sets) trip = false
are_in_but (comp ∷ comps) [] trip = false
are_in_but (comp ∷ comps) (members ∷ sets) zero = are_in comps sets
are_in_but (comp ∷ comps) (members ∷ sets) (suc trip) = is_member members comp && are_in_but comps sets trip

-- picks are in a region with one set changed where the pick of that trip is in the new set and the others are in theirs
are_in-set : (picks : List ℕ) (region : List (List Bool)) (trip : ℕ) (members : List Bool) → trip < length region →
    are_in picks (set region trip members) ≡ (is_member members (get_or picks trip 0) && are_in_but picks region trip)
unfolding are_in_but
are_in-set picks [] trip members inside = absurd (omega (arith, inside))
are_in-set [] (old ∷ sets) zero members inside = and-false (is_member members 0)
are_in-set [] (old ∷ sets) (suc trip) members inside = and-false (is_member members 0)
are_in-set (comp ∷ comps) (old ∷ sets) zero members inside = refl
are_in-set (comp ∷ comps) (old ∷ sets) (suc trip) members inside =
    ap (λ b. is_member old comp && b) (are_in-set comps sets trip members (omega (arith, inside)))
    ∙ swap_and (is_member old comp) (is_member members (get_or comps trip 0)) (are_in_but comps sets trip)

are_in-whole : (picks : List ℕ) (region : List (List Bool)) (trip : ℕ) → trip < length region →
    are_in picks region ≡ (is_member (set_at region trip) (get_or picks trip 0) && are_in_but picks region trip)
are_in-whole picks region trip inside =
    ap (are_in picks) (sym (set-get_or region trip [])) ∙ are_in-set picks region trip (set_at region trip) inside

are_in-side : (catalogue : List (List ℕ)) (cut : Cut) (side : Side) (region : List (List Bool)) (picks : List ℕ) → trip_of cut < length region →
    are_in picks (side_of catalogue cut side region) ≡ ((is_member (set_at region (trip_of cut)) (get_or picks (trip_of cut) 0) && is_on catalogue cut side (get_or picks (trip_of cut) 0)) && are_in_but picks region (trip_of cut))
are_in-side catalogue cut side region picks inside =
    are_in-set picks region (trip_of cut) (restricted (is_on catalogue cut side) (set_at region (trip_of cut))) inside
    ∙ ap (λ b. b && are_in_but picks region (trip_of cut)) (is_member-restricted (is_on catalogue cut side) (set_at region (trip_of cut)) (get_or picks (trip_of cut) 0))

one_side : (member met rest : Bool) → (member && rest) ≡ true → ((member && met) && rest) ≡ not ((member && not met) && rest)
one_side true true true both = refl
one_side true false true both = refl
one_side true met false both = absurd (cc)
one_side false met rest both = absurd (cc)

on_side : (member on rest : Bool) → (member && rest) ≡ true → ((member && on) && rest) ≡ on
on_side true true true both = refl
on_side true false true both = refl
on_side true on false both = absurd (cc)
on_side false on rest both = absurd (cc)

within : (member on rest : Bool) → ((member && on) && rest) ≡ true → (member && rest) ≡ true
within true true rest all = all
within true false rest all = absurd (cc)
within false on rest all = absurd (cc)

pub cuts_divide : CutsDivide
cuts_divide catalogue cut region picks inside = record {
  one = λ there. are_in-side catalogue cut Left region picks inside
      ∙ one_side (is_member (set_at region (trip_of cut)) (get_or picks (trip_of cut) 0)) (is_met catalogue cut (get_or picks (trip_of cut) 0)) (are_in_but picks region (trip_of cut))
      (sym (are_in-whole picks region (trip_of cut) inside) ∙ there)
      ∙ sym (ap not (are_in-side catalogue cut Right region picks inside));
  which = λ side there. are_in-side catalogue cut side region picks inside
      ∙ on_side (is_member (set_at region (trip_of cut)) (get_or picks (trip_of cut) 0)) (is_on catalogue cut side (get_or picks (trip_of cut) 0)) (are_in_but picks region (trip_of cut))
      (sym (are_in-whole picks region (trip_of cut) inside) ∙ there);
  inside = λ side there. are_in-whole picks region (trip_of cut) inside
      ∙ within (is_member (set_at region (trip_of cut)) (get_or picks (trip_of cut) 0)) (is_on catalogue cut side (get_or picks (trip_of cut) 0)) (are_in_but picks region (trip_of cut))
      (sym (are_in-side catalogue cut side region picks inside) ∙ there);
}

-- a set written twice at a place is what was written last
set_twice : (region : List (List Bool)) (trip : ℕ) (a b : List Bool) → set (set region trip a) trip b ≡ set region trip b
set_twice [] trip a b = refl
set_twice (old ∷ sets) zero a b = refl
set_twice (old ∷ sets) (suc trip) a b = ap (λ rest. old ∷ rest) (set_twice sets trip a b)

pub cuts_are_undone : CutsAreUndone
cuts_are_undone catalogue cut side region =
    set_twice region (trip_of cut) (restricted (is_on catalogue cut side) (set_at region (trip_of cut))) (set_at region (trip_of cut)) ∙ set-get_or region (trip_of cut) []
