-- The records of a text, one read after the other.
use Rattle.std.proofs.Common.{◌≡◌, ℕ, zero, suc, ◌+◌, ◌<◌, ◌≤◌, Bool, true, false, cond, List, [], ◌∷◌, ◌++◌, length}
use Rattle.std.proofs.Common.{Option, Some, None, Result, Ok, Err, Bor, unwrap_or, refl, sym, ap, subst, ◌∙◌, arith, inl, inr, ◌⊎◌}
use Rattle.std.specs.Prelude.{IfErr}
use Rattle.std.proofs.Common.{add-one}
use Rattle.std.proofs.lemmas.List.{length_push}
use Rattle.csv.specs.Machine.{Read, next_record, step, is_end, fields_after, field_after, ends_at_end}
use Rattle.csv.specs.Reading.{records_from, records_next, default_config, strip_bom, source_of, is_bom, Reached, Ready}
use Rattle.csv.specs.Reading.{RowStep, reader_trim, reader_config, reader_state, reader_headers, names_headers}
use Rattle.csv.specs.Reading.{owned_rows_reader, owned_rows_left, is_flexible, error_kind, ExplainsRead, FlexibleStep, NotLengths}
use Rattle.csv.specs.Records.{Row, fields_of}
use Rattle.csv.specs.declared.error.Error.{Error}
use Rattle.csv.specs.declared.error.ErrorKind.{ErrorKind}
use Rattle.csv.specs.declared.error.ErrorKind.TheVariants as kind
use Rattle.csv.specs.declared.parser.State.{State}
use Rattle.csv.specs.declared.parser.State.TheVariants as st
use Rattle.csv.specs.declared.parser.Action.{Action}
use Rattle.csv.specs.declared.parser.Action.TheVariants as act
use Rattle.csv.specs.declared.reader.Reader.{Reader}
use Rattle.csv.specs.declared.reader.Trim.TheVariants as trim
use Rattle.csv.proofs.ReadFacts.{rows-more, rows-end}
use Rattle.rail_csv.specs.Tables.{records_of}
use Rattle.rail_csv.specs.Records.{Records, ReadsOn, Took, unread, text_left, records_left, rest_of}

chosen : (b : Bool) (x y : Option Read) (p : Read) → cond b x y ≡ Some p → ((b ≡ true) × (x ≡ Some p)) ⊎ ((b ≡ false) × (y ≡ Some p))
chosen true x y p e = inl (refl, e)
chosen false x y p e = inr (refl, e)

same_read : (x y : Read) → Some x ≡ Some y → x ≡ y
same_read x y e = cc

-- what an empty text still gives leaves nothing
ends_empty : (b : Bool) (fields : List (List ℕ)) (p : Read) → cond b (Some (fields, st.StartRecord, [])) None ≡ Some p → (p.0 ≡ fields) × (p.1 ≡ st.StartRecord) × (p.2 ≡ [])
ends_empty true fields p e =
    let same : (fields, st.StartRecord, []) ≡ p = same_read (fields, st.StartRecord, []) p e in
    subst (λ (q : Read). (q.0 ≡ fields) × (q.1 ≡ st.StartRecord) × (q.2 ≡ [])) same (refl, refl, refl)
ends_empty false fields p e = absurd cc

at_end : (s : State) (fields : List (List ℕ)) (field : List ℕ) (p : Read) → next_record default_config s fields field [] ≡ Some p → (p.0 ≡ fields ++ (field ∷ [])) × (p.1 ≡ st.StartRecord) × (p.2 ≡ [])
unfolding next_record
at_end s fields field p e = ends_empty (ends_at_end s) (fields ++ (field ∷ [])) p e

few_after : (action : Action) (fields : List (List ℕ)) (field : List ℕ) → length (fields_after action fields field) ≤ length fields + 1
few_after act.EndField fields field = omega (arith, length_push fields field)
few_after act.Skip fields field = omega arith
few_after act.Copy fields field = omega arith
few_after act.EndRecord fields field = omega (arith, length_push fields field)

-- a record takes bytes off the front, and has at most a field for each byte and one more
takes : (s : State) (fields : List (List ℕ)) (field : List ℕ) (text : List ℕ) (p : Read) → next_record default_config s fields field text ≡ Some p
    → (length p.2 ≤ length text) × (length p.0 ≤ length fields + length text + 1)
unfolding next_record
takes s fields field [] p e =
    let ended = at_end s fields field p e in
    (omega (arith, ap (length {A = ℕ}) ended.2), omega (arith, ap (length {A = List ℕ}) ended.0, length_push fields field))
takes s fields field (c ∷ text) p e =
    elim (chosen (is_end (step default_config s c).1) _ _ p e) [
      | inl done ↦
          let same = same_read (fields_after (step default_config s c).1 fields field, (step default_config s c).0, text) p done.1 in
          (omega (arith, ap (λ (q : Read). length q.2) same), omega (arith, ap (λ (q : Read). length q.0) same, few_after (step default_config s c).1 fields field))
      | inr more ↦
          let rest = takes (step default_config s c).0 (fields_after (step default_config s c).1 fields field) (field_after (step default_config s c).1 c field) text p more.1 in
          (omega (arith, rest.0), omega (arith, rest.1, few_after (step default_config s c).1 fields field))
    ]

-- a record takes at least one byte of a text that has one
takes_some : (s : State) (c : ℕ) (text : List ℕ) (p : Read) → next_record default_config s [] [] (c ∷ text) ≡ Some p → length p.2 ≤ length text
unfolding next_record
takes_some s c text p e =
    elim (chosen (is_end (step default_config s c).1) _ _ p e) [
      | inl done ↦
          let same = same_read (fields_after (step default_config s c).1 [] [], (step default_config s c).0, text) p done.1 in
          omega (arith, ap (λ (q : Read). length q.2) same)
      | inr more ↦
          (takes (step default_config s c).0 (fields_after (step default_config s c).1 [] []) (field_after (step default_config s c).1 c []) text p more.1).0
    ]

nothing_left : (n : ℕ) → records_from default_config n st.StartRecord [] ≡ []
unfolding records_from next_record
nothing_left zero = refl
nothing_left (suc n) = refl

next_equal : (o : Option Read) (f g : State → List ℕ → List (List (List ℕ))) → ((p : Read) → o ≡ Some p → f p.1 p.2 ≡ g p.1 p.2) → records_next f o ≡ records_next g o
next_equal None f g h = refl
next_equal (Some p) f g h = ap (λ (rest : List (List (List ℕ))). p.0 ∷ rest) (h p refl)

-- the records are the same, however many turns are granted past the length of the text
enough : (n m : ℕ) (s : State) (text : List ℕ) → length text < n → length text < m → records_from default_config n s text ≡ records_from default_config m s text
unfolding records_from
enough zero m s text hn hm = absurd (omega arith)
enough (suc n) zero s text hn hm = absurd (omega arith)
enough (suc n) (suc m) s [] hn hm =
    next_equal (next_record default_config s [] [] []) (records_from default_config n) (records_from default_config m) (λ p e.
    let ended = at_end s [] [] p e in
    rw (ended.1, ended.2) (nothing_left n ∙ sym (nothing_left m)))
enough (suc n) (suc m) s (c ∷ text) hn hm =
    next_equal (next_record default_config s [] [] (c ∷ text)) (records_from default_config n) (records_from default_config m) (λ p e.
    let less : length p.2 ≤ length text = takes_some s c text p e in
    enough n m p.1 p.2 (omega arith) (omega arith))

opened : (s : State) (text : List ℕ) (o : Option Read) → next_record default_config s [] [] text ≡ o → rest_of s text ≡ records_next (records_from default_config (length text)) o
unfolding records_from
opened s text o e = ap (λ (n : ℕ). records_from default_config n s text) (add-one (length text)) ∙ ap (records_next (records_from default_config (length text))) e

fewer_turns : (s : State) (text : List ℕ) (p : Read) → next_record default_config s [] [] text ≡ Some p → records_from default_config (length text) p.1 p.2 ≡ rest_of p.1 p.2
fewer_turns s [] p e =
    let ended = at_end s [] [] p e in
    rw (ended.1, ended.2) (nothing_left 0 ∙ sym (nothing_left 1))
fewer_turns s (c ∷ text) p e =
    let less : length p.2 ≤ length text = takes_some s c text p e in
    enough (length (c ∷ text)) (length p.2 + 1) p.1 p.2 (omega arith) (omega arith)

-- a record that is read is the first of those that are left
pub rest_some : (s : State) (text : List ℕ) (p : Read) → next_record default_config s [] [] text ≡ Some p → rest_of s text ≡ p.0 ∷ rest_of p.1 p.2
rest_some s text p e = opened s text (Some p) e ∙ ap (λ (rest : List (List (List ℕ))). p.0 ∷ rest) (fewer_turns s text p e)

-- where none is read, none is left
pub rest_none : (s : State) (text : List ℕ) → next_record default_config s [] [] text ≡ None → rest_of s text ≡ []
rest_none s text e = opened s text None e

source_is : (o : Option (List ℕ)) (text : List ℕ) → o ≡ Some text → unwrap_or o [] ≡ text
source_is o text e = ap (λ (x : Option (List ℕ)). unwrap_or x []) e

same_left : (f g : List (List ℕ)) (s t : State) (x y : List ℕ) → f ≡ g → s ≡ t → x ≡ y → f ∷ rest_of s x ≡ g ∷ rest_of t y
same_left f g s t x y a b c = rw (a, b, c) refl

pub took : (a b : Records) (x : Row) → ReadsOn a → RowStep unread a.rdr b.rdr b.left (Some (Ok x)) → FlexibleStep a.rdr b.rdr (Some (Ok x)) → Took a b (fields_of x)
unfolding Reached
took a b x reads turn flexible =
    let more = rows-more unread a.rdr b.rdr (fields_of x) default_config a.rdr.state (text_left a) (text_left a) [] reads.config reads.source (refl, refl) turn.0 in
    let p = more.2.0 in
    let sizes = takes a.rdr.state [] [] (text_left a) p more.2.1 in
    let text_is : text_left b ≡ more.0 = source_is (source_of unread b.rdr) more.0 more.1 in
    let left_now : records_left a ≡ p.0 ∷ rest_of p.1 p.2 = rest_some a.rdr.state (text_left a) p more.2.1 in
    let left_then = same_left p.0 (fields_of x) p.1 b.rdr.state p.2 (text_left b) (sym more.2.2) more.2.3.0 (more.2.3.1 ∙ sym text_is) in
    record {
      next = record {
        flexible = flexible ∙ reads.flexible;
        trim = turn.0.3 ∙ reads.trim;
        ready = inl turn.1;
        turns = turn.2;
        config = turn.0.2 ∙ reads.config;
        source = more.1 ∙ ap (λ (t : List ℕ). Some t) (sym text_is);
        small = omega (arith, reads.small, sizes.0, ap (length {A = ℕ}) more.2.3.1, ap (length {A = ℕ}) text_is);
      };
      first = left_now ∙ left_then;
      few = omega (arith, reads.small, sizes.1, ap (length {A = List ℕ}) more.2.2);
    }

-- a reader of records of any length tells of no length
explained : (a b : Reader (Bor (List ℕ))) (why : ErrorKind) → is_flexible a ≡ true → ExplainsRead unread a b false why → NotLengths why
explained a b (kind.Io e) flexible told = tt
explained a b (kind.Utf8 pos err) flexible told = tt
explained a b (kind.UnequalLengths pos expected len) flexible told =
    let clash : true ≡ false = sym flexible ∙ told.0 in
    absurd cc
explained a b kind.OutOfMemory flexible told = tt
explained a b (kind.Serialize text) flexible told = tt
explained a b (kind.Deserialize pos err) flexible told = tt

pub no_lengths : (a b : Records) (turn : Result Row Error) → ReadsOn a → RowStep unread a.rdr b.rdr b.left (Some turn) → IfErr turn (λ e. NotLengths (error_kind e))
no_lengths a b (Ok x) reads step = tt
no_lengths a b (Err e) reads step = explained a.rdr b.rdr e.kind reads.flexible step

-- a turn that gave none ended the text
pub ended : (a b : Records) (left : ℕ) → ReadsOn a → RowStep unread a.rdr b.rdr left None → records_left a ≡ []
ended a b left reads turn = rest_none a.rdr.state (text_left a) (rows-end unread a.rdr b.rdr [] default_config (text_left a) reads.config reads.source turn)

-- a text with no byte order mark at its front is no longer
pub strip-le : (text : List ℕ) → length (strip_bom text) ≤ length text
unfolding strip_bom
strip-le [] = omega arith
strip-le (a ∷ []) = omega arith
strip-le (a ∷ b ∷ []) = omega arith
strip-le (a ∷ b ∷ c ∷ rest) = short (is_bom a b c) a b c rest
  where
    short : (mark : Bool) (a b c : ℕ) (rest : List ℕ) → length (cond mark rest (a ∷ b ∷ c ∷ rest)) ≤ length (a ∷ b ∷ c ∷ rest)
    short true a b c rest = omega arith
    short false a b c rest = omega arith

-- a reader of a table begins with all of its records
pub record Begins (it : Records) (bytes : List ℕ) : Type 0 where
  pub reads : ReadsOn it
  pub all : records_left it ≡ records_of bytes

pub begins : (it : Records) (reader : Reader (Bor (List ℕ))) (bytes : List ℕ) → owned_rows_reader it ≡ reader → is_flexible reader ≡ true → reader_trim reader ≡ trim.None → names_headers reader ≡ false → reader_headers reader ≡ None
    → reader_config reader ≡ default_config → reader_state reader ≡ st.StartRecord → source_of unread reader ≡ Some (strip_bom bytes) → 0 < owned_rows_left it → length bytes ≤ 4194304 → Begins it bytes
begins it reader bytes is flexible trims names headers config state source turns small =
    let text_is : text_left it ≡ strip_bom bytes = ap (λ (r : Reader (Bor (List ℕ))). unwrap_or (source_of unread r) []) is ∙ source_is (source_of unread reader) (strip_bom bytes) source in
    let state_is : reader_state (owned_rows_reader it) ≡ st.StartRecord = ap reader_state is ∙ state in
    let ready : Ready reader = inr (inr (names, headers)) in
    record {
      reads = record {
        flexible = ap is_flexible is ∙ flexible;
        trim = ap reader_trim is ∙ trims;
        ready = subst (λ (r : Reader (Bor (List ℕ))). Ready r) (sym is) ready;
        turns = turns;
        config = ap reader_config is ∙ config;
        source = ap (source_of unread) is ∙ source ∙ ap (λ (t : List ℕ). Some t) (sym text_is);
        small = omega (arith, ap (length {A = ℕ}) text_is, strip-le bytes, small);
      };
      all = rw (state_is, text_is) refl;
    }
