-- A table of cancelled trips cancels one list of them, or is refused for one thing.
use Rattle.std.proofs.Common.{◌≡◌, ℕ, ◌<◌, ◌≢◌, List, [], ◌∷◌, length, refl, sym, ap, subst, ◌∙◌, arith, inl, inr}
use Rattle.std.proofs.Common.{append-nil, length-append}
use Rattle.std.proofs.lemmas.Bool.{cases_order}
use Rattle.timetable.specs.Accepted.{HaveNames}
use Rattle.timetable.specs.Day.{Day}
use Rattle.cancellations.specs.declared.cancelling.CancelRefusal.{CancelRefusal}
use Rattle.cancellations.specs.declared.cancelling.CancelRefusal.TheVariants.{WrongHeader, BadRow, NoMemory}
use Rattle.cancellations.specs.Cancellations.{CancelAll, CancelEach, IsFirstWrong, IsCancelRefusal, header}
use Rattle.cancellations.specs.Laws.{TablesAreDecided}
use Rattle.cancellations.proofs.Rows.{none_further, one_list}

abbrev Rows : Type 0
Rows = List (List (List ℕ))

-- the rows under a header are one
one_table : (records rows others : Rows) → records ≡ header ∷ rows → records ≡ header ∷ others → rows ≡ others
one_table records rows others a b = let same : header ∷ rows ≡ header ∷ others = sym a ∙ b in cc

module _ (day : Day) (minute : ℕ) (names : HaveNames day) where
  cancels_or_not : (rows : Rows) (row : ℕ) (trips : List ℕ) → IsFirstWrong day minute rows row → CancelEach day minute rows trips → ⊥
  cancels_or_not rows row trips wrong each =
      none_further day minute names rows row rows [] trips wrong (sym (append-nil rows)) each
      (omega (arith, ap length wrong.whole, length-append wrong.before (wrong.fields ∷ wrong.after)))

  -- of two first wrong rows none comes before the other
  not_before : (rows : Rows) (row other : ℕ) (first : IsFirstWrong day minute rows row) (second : IsFirstWrong day minute rows other)
      → length first.before < length second.before → ⊥
  not_before rows row other first second less =
      none_further day minute names rows row second.before (second.fields ∷ second.after) second.trips first second.whole second.right less

  one_row : (rows : Rows) (row other : ℕ) → IsFirstWrong day minute rows row → IsFirstWrong day minute rows other → row ≡ other
  one_row rows row other first second = elim (cases_order (length first.before) (length second.before)) [
    | inl same ↦ omega (arith, same, first.number, second.number)
    | inr differ ↦ elim differ [
      | inl less ↦ absurd (not_before rows row other first second less)
      | inr more ↦ absurd (not_before rows other row second first more)
    ]
  ]

  module _ (records : Rows) where
    one : (some others : List ℕ) → CancelAll day minute records some → CancelAll day minute records others → some ≡ others
    one some others a b =
        let same : b.rows ≡ a.rows = one_table records b.rows a.rows b.under_header a.under_header in
        one_list day minute names a.rows some others a.rows_cancel (subst (λ (rows : Rows). CancelEach day minute rows others) same b.rows_cancel)

    refused : (trips : List ℕ) (refusal : CancelRefusal) → CancelAll day minute records trips → IsCancelRefusal day minute records refusal → refusal ≡ NoMemory
    refused trips WrongHeader all why = absurd (why all.rows all.under_header)
    refused trips (BadRow row) all why =
        let same : why.0 ≡ all.rows = one_table records why.0 all.rows why.1 all.under_header in
        absurd (cancels_or_not all.rows row trips (subst (λ (rows : Rows). IsFirstWrong day minute rows row) same why.2) all.rows_cancel)
    refused trips NoMemory all why = refl

    one_refusal : (some other : CancelRefusal) → some ≢ NoMemory → other ≢ NoMemory → IsCancelRefusal day minute records some
        → IsCancelRefusal day minute records other → some ≡ other
    one_refusal WrongHeader WrongHeader n m a b = refl
    one_refusal WrongHeader (BadRow row) n m a b = absurd (a b.0 b.1)
    one_refusal WrongHeader NoMemory n m a b = absurd (m refl)
    one_refusal (BadRow row) WrongHeader n m a b = absurd (b a.0 a.1)
    one_refusal (BadRow row) (BadRow other) n m a b =
        let same : b.0 ≡ a.0 = one_table records b.0 a.0 b.1 a.1 in
        ap (λ (k : ℕ). BadRow k) (one_row a.0 row other a.2 (subst (λ (rows : Rows). IsFirstWrong day minute rows other) same b.2))
    one_refusal (BadRow row) NoMemory n m a b = absurd (m refl)
    one_refusal NoMemory other n m a b = absurd (n refl)

pub tables_are_decided : TablesAreDecided
tables_are_decided day minute records names = record {
  one = one day minute names records;
  refused = refused day minute names records;
  one_refusal = one_refusal day minute names records;
}
