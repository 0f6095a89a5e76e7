-- Keeping one composition of a trip and no other, in a region.
use Rattle.std.proofs.Common.{◌≡◌, ℕ, ◌<◌, List, [], length, Bool, true, set, refl, sym, ap, ◌∙◌, inl, inr}
use Rattle.std.specs.Prelude.{◌&&◌, ◌==◌, not}
use Rattle.std.proofs.lemmas.Bool.{cases_Bool, cases_eq, eq-eqb, ne_eqb}
use Rattle.std.proofs.lemmas.List.{get_or-set_same, set-get_or}
use Rattle.branch_tree.specs.declared.cuts.Cut.TheVariants.{Only}
use Rattle.branch_tree.specs.declared.cuts.Side.{Side}
use Rattle.branch_tree.specs.declared.cuts.Side.TheVariants.{Left, Right}
use Rattle.branch_tree.specs.Cuts.{IsProper, is_on, side_of}
use Rattle.branch_tree.specs.Regions.{has, set_at}
use Rattle.branch_tree.specs.Sets.{HasMember, is_member, restricted}
use Rattle.branch_tree.proofs.Members.{both_true, is_kept, is_member-restricted}

module _ (catalogue : List (List ℕ)) (region : List (List Bool)) (trip comp : ℕ) (below : trip < length region) where
  abbrev members : List Bool
  members = set_at region trip

  side_has : (side : Side) (c : ℕ) → is_member members c ≡ true → is_on catalogue (Only trip comp) side c ≡ true
      → HasMember (set_at (side_of catalogue (Only trip comp) side region) trip)
  side_has side c member on = (
    c,
    ap (λ (set : List Bool). is_member set c) (get_or-set_same region trip (restricted (is_on catalogue (Only trip comp) side) members) [] below)
        ∙ is_member-restricted (is_on catalogue (Only trip comp) side) members c
        ∙ both_true (is_member members c) (is_on catalogue (Only trip comp) side c) member on,
  )

  module _ (listed : comp < length catalogue) (there : has region trip comp ≡ true) (never : IsProper catalogue region (Only trip comp) → ⊥) where
    alone : (c : ℕ) → is_member members c ≡ (is_member members c && (c == comp))
    alone c = elim (cases_Bool (is_member members c)) [
      | inl member ↦ elim (cases_eq c comp) [
        | inl same ↦ member ∙ sym (both_true (is_member members c) (c == comp) member (eq-eqb c comp same))
        | inr differs ↦
            absurd (never (record {
              in_range = (below, listed);
              left = side_has Left comp there (eq-eqb comp comp refl);
              right = side_has Right c member (ap not (ne_eqb c comp differs));
            }))
      ]
      | inr isnt ↦ isnt ∙ sym (ap (λ (b : Bool). b && (c == comp)) isnt)
    ]

    kept_alone : members ≡ restricted (is_on catalogue (Only trip comp) Left) members
    kept_alone = is_kept (is_on catalogue (Only trip comp) Left) members members refl (λ c lt. alone c)

    -- where the cut is not proper, there is no other to be cut off
    pub nothing_cut : region ≡ side_of catalogue (Only trip comp) Left region
    nothing_cut = sym (ap (λ (restricted : List Bool). set region trip restricted) (sym kept_alone) ∙ set-get_or region trip [])
