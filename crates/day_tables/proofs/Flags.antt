-- Flags of trips: what they tell after a link is added.
use Rattle.std.proofs.Common.{◌≡◌, ◌∙◌, ℕ, ◌+◌, ◌<◌, Bool, true, false, List, [], ◌∷◌, ◌++◌, length, get_or, replicate}
use Rattle.std.proofs.Common.{refl, sym, ap, subst, arith, length-set, set, zero-add}
use Rattle.std.specs.Prelude.{◌||◌, ◌==◌, nat_le, if◌then◌else◌}
use Rattle.std.specs.List.{list_any}
use Rattle.std.proofs.lemmas.Bool.{le-leb}
use Rattle.std.proofs.lemmas.List.{get_or-set_same, get_or-set_other, get_or-replicate, length-replicate}
use Rattle.std.proofs.lemmas.List.Folds.{list_any-append}
use Rattle.rules.specs.declared.records.Link.{Link}
use Rattle.rules.specs.declared.records.LinkKind.{LinkKind}
use Rattle.day_tables.specs.Flags.{marked, IsFlagged}
use Rattle.day_tables.specs.Lists.{has, count_of}
use Rattle.std.proofs.lemmas.Bool.Decides.{Decides-eqb}

-- no flag is put down or lost
pub length-marked : (ts : List ℕ) (flags : List Bool) → length (marked ts flags) ≡ length flags
length-marked [] flags = refl
length-marked (t ∷ ts) flags = length-marked ts (set flags t true) ∙ length-set flags t true

-- a number is the head of a list, or in its tail
has_head : (t u : ℕ) (us : List ℕ) → has t (u ∷ us) ≡ ((u == t) || has t us)
has_head t u us = by (u == t)
  where
    by : (b : Bool) → nat_le 1 ((if b then 1 else 0) + count_of t us) ≡ (b || has t us)
    by true = le-leb 1 (1 + count_of t us) (omega arith)
    by false = ap (nat_le 1) (zero-add (count_of t us))

-- the flag of t after that of u is put up
flag_set : (flags : List Bool) (t u : ℕ) (d : Bool) → t < length flags → get_or (set flags u true) t d ≡ ((u == t) || get_or flags t d)
flag_set flags t u d below = by (u == t) refl
  where
    by : (b : Bool) → (u == t) ≡ b → get_or (set flags u true) t d ≡ (b || get_or flags t d)
    by true e = let same : u ≡ t = (Decides-eqb u t).0 e in rw same (get_or-set_same flags t true d below)
    by false e = get_or-set_other flags u t true d (λ same. cc (e, (Decides-eqb u t).1 (sym same)))

or_swap : (a b c : Bool) → (b || (a || c)) ≡ ((a || b) || c)
or_swap true true c = refl
or_swap true false c = refl
or_swap false b c = refl

or_last : (a b : Bool) → (a || b) ≡ (b || (a || false))
or_last true true = refl
or_last true false = refl
or_last false true = refl
or_last false false = refl

-- a flag is up where it was, and where it is put up
pub flag_marked : (ts : List ℕ) (flags : List Bool) (t : ℕ) (d : Bool) → t < length flags → get_or (marked ts flags) t d ≡ (has t ts || get_or flags t d)
flag_marked [] flags t d below = refl
flag_marked (u ∷ us) flags t d below =
    flag_marked us (set flags u true) t d (omega (arith, length-set flags u true))
    ∙ ap (λ (b : Bool). has t us || b) (flag_set flags t u d below)
    ∙ or_swap (u == t) (has t us) (get_or flags t d)
    ∙ ap (λ (b : Bool). b || get_or flags t d) (sym (has_head t u us))

-- no link names a trip, and no flag is up
pub flags_down : (side : LinkKind → List ℕ) (n : ℕ) → IsFlagged side [] (replicate n false)
flags_down side n = record { up = λ t d below. get_or-replicate n t false d (omega (arith, length-replicate n false)) }

-- a link is added, and the flags of its trips are put up
pub flags_after : (side : LinkKind → List ℕ) (links after : List Link) (link : Link) (flags raised : List Bool) → IsFlagged side links flags → after ≡ links ++ link ∷ []
    → raised ≡ marked (side link.kind) flags → IsFlagged side after raised
flags_after side links after link flags raised before added put_up = subst (λ (fs : List Bool). IsFlagged side after fs) (sym put_up) (subst (λ (ls : List Link). IsFlagged side ls (marked (side link.kind) flags)) (sym added) (record {
  up = λ t d below.
      let there : t < length flags = omega (arith, length-marked (side link.kind) flags) in
      flag_marked (side link.kind) flags t d there
      ∙ ap (λ (b : Bool). has t (side link.kind) || b) (before.up t d there)
      ∙ or_last (has t (side link.kind)) (list_any (λ l. has t (side l.kind)) links)
      ∙ sym (list_any-append (λ (l : Link). has t (side l.kind)) links (link ∷ []));
}))
