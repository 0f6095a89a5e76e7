-- Rows that were read so far, and what comes of the next one.
use Rattle.std.proofs.Common.{◌≡◌, ℕ, ◌+◌, ◌≤◌, List, [], ◌∷◌, ◌++◌, length, refl, sym, ap, subst, ◌∙◌, arith, append_assoc, append-nil}
use Rattle.std.proofs.Common.{length-append}
use Rattle.rail_base.specs.declared.limits.TheConstants.{MAX_TABLE_BYTES}
use Rattle.rail_csv.specs.Records.{Records, ReadsOn, records_left}
use Rattle.rail_csv.specs.Tables.{records_of}
use Rattle.timetable.specs.Day.{Day}
use Rattle.cancellations.specs.declared.cancelling.CancelRefusal.{CancelRefusal}
use Rattle.cancellations.specs.declared.cancelling.CancelRefusal.TheVariants.{WrongHeader, BadRow, NoMemory}
use Rattle.cancellations.specs.Cancellations.{CancelAll, CancelEach, IsCancelRefusal, header}
use Rattle.cancellations.specs.ReadRows.{IsRowsRefusal, HasNoMore, HasOneMore, IsNextRowRefusal}
use Rattle.cancellations.proofs.Reading.{few_records}
use Rattle.cancellations.proofs.Rows.{more_cancel, none_cancel}

abbrev Rows : Type 0
Rows = List (List (List ℕ))

-- the rows before those that are left cancel these trips
pub record ReadSoFar (day : Day) (minute : ℕ) (rows : Rows) (records : Records) (trips : List ℕ) : Type 0 where
  pub reads : ReadsOn records
  pub front : Rows
  pub whole : rows ≡ front ++ records_left records
  pub right : CancelEach day minute front trips

module _ (day : Day) (minute : ℕ) where
  pub none_read : (records : Records) (trips : List ℕ) → ReadsOn records → trips ≡ [] → ReadSoFar day minute (records_left records) records trips
  none_read records trips reads none = record {
    reads = reads;
    front = [];
    whole = refl;
    right = subst (CancelEach day minute []) (sym none) (none_cancel day minute);
  }

  module _ (rows : Rows) where
    pub one_more_read : (before after : Records) (trips more : List ℕ) → ReadSoFar day minute rows before trips → HasOneMore day minute trips more before after
        → ReadSoFar day minute rows after more
    one_more_read before after trips more so one = record {
      reads = one.reads;
      front = so.front ++ one.fields ∷ [];
      whole = so.whole ∙ ap (λ (left : Rows). so.front ++ left) one.first ∙ sym (append_assoc so.front (one.fields ∷ []) (records_left after));
      right = subst (CancelEach day minute (so.front ++ one.fields ∷ [])) (sym one.items)
          (more_cancel day minute so.front trips one.fields one.trip so.right one.cancels);
    }

    pub all_read : (before : Records) (trips same : List ℕ) → ReadSoFar day minute rows before trips → HasNoMore trips same before → CancelEach day minute rows same
    all_read before trips same so none =
        let whole : rows ≡ so.front = so.whole ∙ ap (λ (left : Rows). so.front ++ left) none.none ∙ append-nil so.front in
        subst (λ (rs : Rows). CancelEach day minute rs same) (sym whole) (subst (CancelEach day minute so.front) (sym none.items) so.right)

    pub next_refused : (before : Records) (trips : List ℕ) (why : CancelRefusal) → ReadSoFar day minute rows before trips
        → IsNextRowRefusal day minute trips (records_left before) why → IsRowsRefusal day minute rows why
    next_refused before trips WrongHeader so wrong = wrong
    next_refused before trips (BadRow row) so wrong = record {
      before = so.front;
      fields = wrong.fields;
      after = wrong.after;
      whole = so.whole ∙ ap (λ (left : Rows). so.front ++ left) wrong.first;
      number = wrong.number ∙ ap (λ (n : ℕ). n + 1) so.right.count;
      trips = trips;
      right = so.right;
      wrong = wrong.wrong;
    }
    next_refused before trips NoMemory so wrong = wrong

    -- the trips so far and the rows that are left are as many as the rows
    pub few_left : (before : Records) (trips : List ℕ) → ReadSoFar day minute rows before trips → length rows ≤ MAX_TABLE_BYTES
        → length trips + length (records_left before) ≤ MAX_TABLE_BYTES
    few_left before trips so few =
        let all : length rows ≡ length so.front + length (records_left before) = ap length so.whole ∙ length-append so.front (records_left before) in
        omega (arith, all, so.right.count, few)

  module _ (bytes : List ℕ) (rows : Rows) (under : records_of bytes ≡ header ∷ rows) where
    pub few_under : length bytes ≤ MAX_TABLE_BYTES → length rows ≤ MAX_TABLE_BYTES
    few_under small = omega (arith, ap length under, few_records bytes, small)

    pub all_cancel : (trips : List ℕ) → CancelEach day minute rows trips → CancelAll day minute (records_of bytes) trips
    all_cancel trips each = record { rows = rows; under_header = under; rows_cancel = each }

    pub all_refused : (why : CancelRefusal) → IsRowsRefusal day minute rows why → IsCancelRefusal day minute (records_of bytes) why
    all_refused WrongHeader wrong = absurd wrong
    all_refused (BadRow row) wrong = (rows, under, wrong)
    all_refused NoMemory wrong = wrong
