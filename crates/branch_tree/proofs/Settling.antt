-- Picks that follow and are no solution: the multiplier that is named for them shows that their region has none.
use Rattle.std.proofs.Common.{◌≡◌, ℕ, zero, suc, ◌<◌, ◌≤◌, List, [], ◌∷◌, Bool, true, false, ◌&&◌, ◌==◌, ℤ, pos, ◌+ℤ◌}
use Rattle.std.proofs.Common.{◌*ℤ◌, ◌≤ℤ◌, ◌<ℤ◌, refl, sym, ◌∙◌, ap, subst, arith, ⊎_elim}
use Rattle.std.proofs.lemmas.Bool.{cases_lt, eqb-true}
use Rattle.std.proofs.lemmas.Int.{ints}
use Rattle.std.proofs.lemmas.List.Elements.{All-cons, All-nil, All-head, All-tail}
use Rattle.rail_base.specs.declared.limits.TheConstants.{MAX_COMPOSITIONS}
use Rattle.branch_tree.specs.declared.relaxation.Weight.TheVariants.{NoCost}
use Rattle.branch_tree.specs.Laws.{BrokenPicksHaveRays, SinglePicksAreEvident}
use Rattle.branch_tree.specs.Meanings.{Meanings, IsRelaxation, IsBroken, priced}
use Rattle.branch_tree.specs.Regions.{are_in, alone, IsSingle}
use Rattle.branch_tree.specs.Sets.{is_member, size_of, set_of}
use Rattle.branch_tree.proofs.Members.{is_member-tested, is_member-past, length-tested}

pub both : (a b : Bool) → (a && b) ≡ true → (a ≡ true) × (b ≡ true)
both true true all = (refl, refl)
both true false all = absurd cc
both false b all = absurd cc

-- the set of one composition has no other
pub only_member : (pick comp : ℕ) → is_member (set_of (λ n. n == pick)) comp ≡ true → comp ≡ pick
only_member pick comp there =
    ⊎_elim (λ below. eqb-true comp pick (sym (is_member-tested (λ n. n == pick) MAX_COMPOSITIONS comp below) ∙ there))
    (λ past. absurd (gone (is_member-past (set_of (λ n. n == pick)) comp (omega (arith, past, length-tested (λ n. n == pick) MAX_COMPOSITIONS)))))
    (cases_lt comp MAX_COMPOSITIONS)
  where
    gone : is_member (set_of (λ n. n == pick)) comp ≡ false → ⊥
    gone none = cc

-- no other picks lie in the region of picks alone
pub alone_same : (others picks : List ℕ) → are_in others (alone picks) ≡ true → others ≡ picks
alone_same [] [] inside = refl
alone_same [] (pick ∷ picks) inside = absurd cc
alone_same (other ∷ others) [] inside = absurd cc
alone_same (other ∷ others) (pick ∷ picks) inside =
    let parts : (is_member (set_of (λ n. n == pick)) other ≡ true) × (are_in others (alone picks) ≡ true) = both (is_member (set_of (λ n. n == pick)) other) (are_in others (alone picks)) inside in
    let head : other ≡ pick = only_member pick other parts.0 in
    let tail : others ≡ picks = alone_same others picks parts.1 in
    ap (λ n. n ∷ others) head ∙ ap (λ ns. pick ∷ ns) tail

no_sum : (term : ℤ) → pos 0 <ℤ term → pos 0 <ℤ (pos 0 +ℤ (term +ℤ pos 0))
no_sum term positive = omega (arith, ints, positive)

-- the named multiplier alone, without cost, has a positive priced value for the picks that it is named for
broken_priced : (problem : Meanings) (picks : List ℕ) → IsBroken problem picks (problem.broken picks) → pos 0 <ℤ priced problem (problem.broken picks ∷ []) NoCost picks
broken_priced problem picks broken = no_sum ((problem.broken picks).value *ℤ problem.slack picks (problem.broken picks).index) broken.positive

pub broken_picks_have_rays : (problem : Meanings) → IsRelaxation problem → BrokenPicksHaveRays problem
broken_picks_have_rays problem relaxation picks follow none =
    let broken : IsBroken problem picks (problem.broken picks) = relaxation.broken picks follow none in
    record {
      fits = All-cons (λ entry. (entry.index < problem.indices) × (entry.index < problem.free_from → pos 0 ≤ℤ entry.value)) (problem.broken picks) []
          (broken.index, λ below. not_negative (problem.broken picks).value (broken.sign below)) (All-nil (λ entry. (entry.index < problem.indices) × (entry.index < problem.free_from → pos 0 ≤ℤ entry.value)));
      positive = λ value chain.
          let same : chain.picks ≡ picks = alone_same chain.picks picks (relaxation.near_in chain.picks (alone picks) chain.near) in
          subst (λ v. pos 0 <ℤ v) (ap (priced problem (problem.broken picks ∷ []) NoCost) (sym same) ∙ chain.reached) (broken_priced problem picks broken);
    }
  where
    not_negative : (value : ℤ) → value ≡ pos 1 → pos 0 ≤ℤ value
    not_negative value one = omega (arith, ints, one)

pub member_counts : (members : List Bool) (comp : ℕ) → is_member members comp ≡ true → 1 ≤ size_of members
member_counts [] comp there = absurd cc
member_counts (true ∷ members) comp there = omega arith
member_counts (false ∷ members) zero there = absurd cc
member_counts (false ∷ members) (suc comp) there = omega (arith, member_counts members comp there)

-- a set of size 1 has one member
one_member : (members : List Bool) (a b : ℕ) → size_of members ≡ 1 → is_member members a ≡ true → is_member members b ≡ true → a ≡ b
one_member [] a b size p q = absurd cc
one_member (true ∷ members) zero zero size p q = refl
one_member (true ∷ members) zero (suc b) size p q = absurd (omega (arith, size, member_counts members b q))
one_member (true ∷ members) (suc a) b size p q = absurd (omega (arith, size, member_counts members a p))
one_member (false ∷ members) zero b size p q = absurd cc
one_member (false ∷ members) (suc a) zero size p q = absurd cc
one_member (false ∷ members) (suc a) (suc b) size p q = ap suc (one_member members a b (omega (arith, size)) p q)

single_same : (region : List (List Bool)) (picks others : List ℕ) → IsSingle region → are_in picks region ≡ true → are_in others region ≡ true → picks ≡ others
single_same [] [] [] single p q = refl
single_same [] [] (other ∷ others) single p q = absurd cc
single_same [] (pick ∷ picks) others single p q = absurd cc
single_same (set ∷ sets) [] others single p q = absurd cc
single_same (set ∷ sets) (pick ∷ picks) [] single p q = absurd cc
single_same (set ∷ sets) (pick ∷ picks) (other ∷ others) single p q =
    let first : (is_member set pick ≡ true) × (are_in picks sets ≡ true) = both (is_member set pick) (are_in picks sets) p in
    let second : (is_member set other ≡ true) × (are_in others sets ≡ true) = both (is_member set other) (are_in others sets) q in
    let head : pick ≡ other = one_member set pick other (All-head (λ s. size_of s ≡ 1) set sets single) first.0 second.0 in
    let tail : picks ≡ others = single_same sets picks others (All-tail (λ s. size_of s ≡ 1) set sets single) first.1 second.1 in
    ap (λ n. n ∷ picks) head ∙ ap (λ ns. other ∷ ns) tail

pub single_picks_are_evident : (problem : Meanings) → IsRelaxation problem → SinglePicksAreEvident problem
single_picks_are_evident problem relaxation region single leaf =
    let chain = leaf.chain_value in
    let same : leaf.picks ≡ chain.picks = single_same region leaf.picks chain.picks single (relaxation.near_in leaf.picks region leaf.choice.near) (relaxation.near_in chain.picks region chain.near) in
    let broken : IsBroken problem leaf.picks (problem.broken leaf.picks) = relaxation.broken leaf.picks (relaxation.near_follow leaf.picks region leaf.choice.near) leaf.no_solution in
    not_both leaf.value (subst (λ v. pos 0 <ℤ v) (ap (priced problem (problem.broken leaf.picks ∷ []) NoCost) same ∙ chain.reached) (broken_priced problem leaf.picks broken)) leaf.not_positive
  where
    not_both : (value : ℤ) → pos 0 <ℤ value → value ≤ℤ pos 0 → ⊥
    not_both value p q = omega (arith, ints, p, q)
