-- A put as a whole: of an entry that is there, and of a new one.
use Rattle.std.proofs.Common.{◌≡◌, ℕ, ◌<◌, ◌≤◌, List, length, ℤ, unsigned_abs, Some, None, sym, ◌∙◌, ap, subst}
use Rattle.std.specs.List.{insert}
use Rattle.rail_base.specs.declared.limits.TheConstants.{MAX_ENTRIES, MAX_MULTIPLIER}
use Rattle.branch_tree.specs.declared.multipliers.Entry.{Entry}
use Rattle.branch_tree.specs.declared.multipliers.PutRefusal.TheVariants.{Full}
use Rattle.branch_tree.specs.Entries.{AreMultipliers, IsPut, put_in, refusal_of}
use Rattle.branch_tree.specs.Places.{IsAt, IsPlaceOf, changed}
use Rattle.branch_tree.proofs.PutIn.{put_in-changed, put_in-new, put_in-none}
use Rattle.branch_tree.proofs.Puts.{put_changed, put_new, put_nothing, none_there, multipliers-changed}
use Rattle.branch_tree.proofs.Puts.{multipliers-inserted, is_entered-there, is_entered-absent, not_refused_there}
use Rattle.branch_tree.proofs.Puts.{not_refused_zero, not_refused_room, refused_full}

-- the entries after a put that is not refused
pub record PutDone (old : List Entry) (index : ℕ) (value : ℤ) (new : List Entry) : Type 0 where
  pub multipliers : AreMultipliers new
  pub put : IsPut old index value new
  pub list : new ≡ put_in old index value
  pub refusal : None ≡ refusal_of old index value

-- what a put knows when it has looked for the place of an index
pub record Looked (entries : List Entry) (index place : ℕ) (value : ℤ) : Type 0 where
  pub multipliers : AreMultipliers entries
  pub place_of : IsPlaceOf entries index place
  pub small : unsigned_abs value ≤ MAX_MULTIPLIER

done : (old entries new made : List Entry) (index : ℕ) (value : ℤ) → entries ≡ old → new ≡ made → PutDone entries index value made → PutDone old index value new
done old entries new made index value view same whole = subst (λ xs. PutDone xs index value new) view (subst (λ xs. PutDone entries index value xs) (sym same) whole)

pub put_there : (old entries new : List Entry) (index place : ℕ) (value passed : ℤ) → entries ≡ old → passed ≡ value → new ≡ changed entries place passed →
    Looked entries index place value → IsAt entries place index → PutDone old index value new
put_there old entries new index place value passed view same made looked at =
    done old entries new (changed entries place value) index value view (made ∙ ap (changed entries place) same) (record {
      multipliers = multipliers-changed entries place value looked.multipliers looked.small;
      put = put_changed entries index place value looked.multipliers.rising looked.place_of at;
      list = sym (put_in-changed entries index place value looked.multipliers.rising looked.place_of at);
      refusal = sym (not_refused_there entries index value looked.small (is_entered-there entries index place at));
    })

pub put_at_new : (old entries new : List Entry) (index place : ℕ) (value passed : ℤ) → entries ≡ old → passed ≡ value → new ≡ insert entries place (record { index = index; value = passed }) →
    Looked entries index place value → (IsAt entries place index → ⊥) → (unsigned_abs value ≡ 0 → ⊥) → length entries < MAX_ENTRIES → PutDone old index value new
put_at_new old entries new index place value passed view same made looked away some room =
    done old entries new (insert entries place (record { index = index; value = value })) index value view (made ∙ ap (λ v. insert entries place (record { index = index; value = v })) same) (record {
      multipliers = multipliers-inserted entries place index value looked.multipliers looked.place_of away looked.small some room;
      put = put_new entries index place value looked.place_of;
      list = sym (put_in-new entries index place value looked.multipliers.rising looked.place_of away some);
      refusal = sym (not_refused_room entries index value looked.small room);
    })

pub put_none : (old entries : List Entry) (index place : ℕ) (value : ℤ) → entries ≡ old → Looked entries index place value → (IsAt entries place index → ⊥) → unsigned_abs value ≡ 0 → PutDone old index value old
put_none old entries index place value view looked away none =
    done old entries old entries index value view (sym view) (record {
      multipliers = looked.multipliers;
      list = sym (put_in-none entries index place value looked.multipliers.rising looked.place_of away none);
      put = put_nothing entries index value none (none_there entries index place looked.multipliers.rising looked.place_of away);
      refusal = sym (not_refused_zero entries index value none);
    })

pub put_refused : (old entries : List Entry) (index place : ℕ) (value : ℤ) → entries ≡ old → Looked entries index place value → (IsAt entries place index → ⊥) → (unsigned_abs value ≡ 0 → ⊥) → MAX_ENTRIES ≤ length entries →
    Some Full ≡ refusal_of old index value
put_refused old entries index place value view looked away some full =
    sym (refused_full entries index value looked.small some (is_entered-absent entries index (none_there entries index place looked.multipliers.rising looked.place_of away)) full)
    ∙ ap (λ xs. refusal_of xs index value) view
