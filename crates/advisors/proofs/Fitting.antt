-- Multipliers that fit still do after a put that is not refused, and after a refusal.
use Rattle.std.proofs.Common.{◌≡◌, ℕ, ◌<◌, List, [], ◌∷◌, filter, nat_lt, Bool, true, false, ◌==◌, if◌then◌else◌, ℤ}
use Rattle.std.proofs.Common.{pos, ◌≤ℤ◌, unsigned_abs, Result, Ok, Err, OnOk, OnErr, sym, subst}
use Rattle.std.proofs.lemmas.List.Elements.{All-append, All-filter, All-cons, All-nil}
use Rattle.branch_tree.specs.declared.multipliers.Entry.{Entry}
use Rattle.branch_tree.specs.declared.multipliers.PutRefusal.{PutRefusal}
use Rattle.branch_tree.specs.Entries.{AreMultipliers, DoFit, entry_of, put_in}
use Rattle.advisors.specs.Proposed.{Proposed}
use Rattle.advisors.specs.Proposals.{DoesFit}

-- an entry that is at one of the indices, and negative only where it may be
abbrev EntryFits : ℕ → ℕ → Entry → Type 0
EntryFits indices free_from entry = (entry.index < indices) × (entry.index < free_from → pos 0 ≤ℤ entry.value)

entry-fits : (indices free_from index : ℕ) (value : ℤ) → index < indices → (index < free_from → pos 0 ≤ℤ value) → DoFit indices free_from (entry_of index value)
entry-fits indices free_from index value inside sign = of (unsigned_abs value == 0)
  where
    of : (b : Bool) → DoFit indices free_from (if b then [] else record { index = index; value = value } ∷ [])
    of true = All-nil (EntryFits indices free_from)
    of false = All-cons (EntryFits indices free_from) (record { index = index; value = value }) [] (inside, sign) (All-nil (EntryFits indices free_from))

pub put-fits : (indices free_from index : ℕ) (value : ℤ) (entries : List Entry) → DoFit indices free_from entries →
    index < indices → (index < free_from → pos 0 ≤ℤ value) → DoFit indices free_from (put_in entries index value)
put-fits indices free_from index value entries fit inside sign =
    let Fits : Entry → Type 0 = EntryFits indices free_from in
    All-append Fits (filter (λ entry. nat_lt entry.index index) entries) _
    (All-filter (λ entry. nat_lt entry.index index) Fits entries fit)
    (All-append Fits (entry_of index value) (filter (λ entry. nat_lt index entry.index) entries)
    (entry-fits indices free_from index value inside sign)
    (All-filter (λ entry. nat_lt index entry.index) Fits entries fit))

-- what a put of the multipliers leaves of a proposal that fits
pub still-fits : (result : Result (Unit {0}) PutRefusal) (before : Proposed) (after : List Entry) (index : ℕ) (value : ℤ) → DoesFit before →
    index < before.indices → (index < before.free_from → pos 0 ≤ℤ value) →
    OnOk result (after ≡ put_in before.multipliers index value) → OnOk result (AreMultipliers after) → OnErr result (after ≡ before.multipliers) →
    DoesFit (record before { multipliers = after })
still-fits (Ok done) before after index value fits inside sign list multipliers unchanged = record {
  multipliers = multipliers;
  fit = subst (λ entries. DoFit before.indices before.free_from entries) (sym list)
      (put-fits before.indices before.free_from index value before.multipliers fits.fit inside sign);
}
still-fits (Err refusal) before after index value fits inside sign list multipliers unchanged = record {
  multipliers = subst AreMultipliers (sym unchanged) fits.multipliers;
  fit = subst (λ entries. DoFit before.indices before.free_from entries) (sym unchanged) fits.fit;
}
