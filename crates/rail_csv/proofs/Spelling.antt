-- Fields are read as a row exactly where they spell it and it is within the ranges of its columns.
use Rattle.std.proofs.Common.{◌≡◌, ℕ, zero, suc, ◌+◌, ◌*◌, ◌≤◌, ◌<◌, Bool, true, false, cond, leb, ◌&&◌, eqb}
use Rattle.std.proofs.Common.{List, [], ◌∷◌, length, map, Option, Some, None, Result, Ok, Err, All, codes}
use Rattle.std.proofs.Common.{refl, sym, ap, subst, ◌∙◌, arith}
use Rattle.std.specs.Prelude.{IfSome}
use Rattle.std.specs.List.{AllZip, list_all}
use Rattle.std.specs.Str.{bytes_eq, is_utf8}
use Rattle.std.proofs.lemmas.Bool.{and_from, and_parts, eqb-true, eq-eqb, leb-true, le-leb, lt-ltb, ltb-true}
use Rattle.std.proofs.lemmas.Bool.Decides.{nat_tests}
use Rattle.std.proofs.lemmas.List.Elements.{All-weaker}
use Rattle.std.proofs.lemmas.List.Sums.{AllPass-from_list_all, list_all-from_AllPass}
use Rattle.std.proofs.lemmas.Slice.Eq.{bytes_eq-Decides}
use Rattle.rail_base.specs.Names.{is_name}
use Rattle.rail_base.specs.declared.limits.TheConstants.{MAX_CARRIAGES, MAX_SEATS, MAX_FIRST_SEATS, MAX_METRES}
use Rattle.rail_base.specs.declared.limits.TheConstants.{MAX_PLATFORM, MAX_REALLOCATION, MAX_STOCK, MAX_MINUTES}
use Rattle.rail_base.specs.declared.limits.TheConstants.{MAX_KM, MAX_DEMAND, MAX_FIRST_DEMAND, MAX_WEIGHT}
use Rattle.rail_base.specs.declared.limits.TheConstants.{MAX_COMPOSITION_UNITS, MAX_UNITS}
use Rattle.rail_csv.specs.declared.limits.TheConstants.{LAST_HOUR, LAST_MINUTE_OF_AN_HOUR, MINUTES_OF_AN_HOUR}
use Rattle.rail_csv.specs.declared.refusal.TableRefusal.{TableRefusal}
use Rattle.rail_csv.specs.declared.rows.KindWord.{KindWord}
use Rattle.rail_csv.specs.declared.rows.KindWord.TheVariants as kinds
use Rattle.rules.specs.declared.records.End.{End}
use Rattle.rules.specs.declared.records.End.TheVariants as ends
use Rattle.rail_csv.specs.declared.rows.TypeRow.{TypeRow}
use Rattle.rail_csv.specs.declared.rows.StationRow.{StationRow}
use Rattle.rail_csv.specs.declared.rows.StockRow.{StockRow}
use Rattle.rail_csv.specs.declared.rows.TripRow.{TripRow}
use Rattle.rail_csv.specs.declared.rows.LinkRow.{LinkRow}
use Rattle.rail_csv.specs.declared.rows.WeightsRow.{WeightsRow}
use Rattle.rail_csv.specs.declared.rows.PlanRow.{PlanRow}
use Rattle.rail_csv.specs.Fields.{is_number, number_of, is_time, time_of, has_time_form, hour_text, minute_text}
use Rattle.rail_csv.specs.Fields.{pieces_of, numbers_of, is_unit}
use Rattle.rail_csv.specs.Columns.{field, field_or, number_column, time_column, name_column, optional_name_column}
use Rattle.rail_csv.specs.Columns.{kind_column, answer_column, end_column, units_column}
use Rattle.rail_csv.specs.Tables.{Columns, row_of, type_columns, station_columns, stock_columns, trip_columns}
use Rattle.rail_csv.specs.Tables.{link_columns, weight_columns, plan_columns}
use Rattle.rail_csv.specs.Rows.{IsName, LiesBetween, IsMinute, IsTypeRow, IsStationRow, IsStockRow, IsTripRow}
use Rattle.rail_csv.specs.Rows.{IsLinkRow, IsWeightsRow, IsPlanRow}
use Rattle.rail_csv.specs.Spelling.{SpellsNumber, SpellsTime, SpellsName, SpellsOptionalName, kind_word, SpellsKind}
use Rattle.rail_csv.specs.Spelling.{answer_word, SpellsAnswer, end_word, SpellsEnd, SpellsUnits, SpellsIfThere}
use Rattle.rail_csv.specs.Spelling.{SpellsTypeRow, SpellsStationRow, SpellsStockRow, SpellsTripRow, SpellsLinkRow}
use Rattle.rail_csv.specs.Spelling.{SpellsWeightsRow, SpellsPlanRow, IsRightRow, EachReadsWhatIsSpelled}
use Rattle.rail_csv.proofs.RowFaults.{all_text, text_all}
use Rattle.rail_csv.proofs.Steps.{same, step, step_on, passed, pass, passed_both, pass_both}

-- ---- a row

-- a record that is read as a row has as many fields, all of them UTF-8
pub is_right_row : {Row : Type 0} (width : ℕ) (columns : Columns Row) (number : ℕ) (fields : List (List ℕ)) (row : Row)
    → row_of width columns number fields ≡ Ok row → IsRightRow width columns number fields row
unfolding row_of
is_right_row width columns number fields row e =
    let k = passed_both (eqb (length fields) width) (list_all is_utf8 fields) (columns number fields) row _ _ e in
    (eqb-true (length fields) width k.0, all_text fields k.1, k.2)

-- and back
pub right_row_is : {Row : Type 0} (width : ℕ) (columns : Columns Row) (number : ℕ) (fields : List (List ℕ)) (row : Row)
    → IsRightRow width columns number fields row → row_of width columns number fields ≡ Ok row
unfolding row_of
right_row_is width columns number fields row (wide, text, read) =
    pass_both (eqb (length fields) width) (list_all is_utf8 fields) (columns number fields) row _ _
    (eq-eqb (length fields) width wide) (text_all fields text) read

-- ---- names

name_meets : (row column : ℕ) (text name : List ℕ) → name_column row column text ≡ Ok name
    → SpellsName text name × IsName name
unfolding name_column
name_meets row column text name e =
    let k = passed (is_name text) (Ok text) name _ e in
    let spelled : text ≡ name = same text name k.1 in
    (spelled, subst IsName spelled k.0)

name_goes : (row column : ℕ) (text name : List ℕ) → SpellsName text name → IsName name
    → name_column row column text ≡ Ok name
unfolding name_column
name_goes row column text name spelled is =
    pass (is_name text) (Ok text) name _ (subst IsName (sym spelled) is) (ap (λ (t : List ℕ). Ok t) spelled)

-- a name, if there is one
abbrev IsNameIfAny : Option (List ℕ) → Type 0
IsNameIfAny name = IfSome name (λ n. IsName n)

optional_name_meets : (row column : ℕ) (text : List ℕ) (name : Option (List ℕ))
    → optional_name_column row column text ≡ Ok name → SpellsOptionalName text name × IsNameIfAny name
unfolding optional_name_column
optional_name_meets row column [] name e =
    subst (λ (o : Option (List ℕ)). SpellsOptionalName [] o × IsNameIfAny o) (same None name e) (refl, tt)
optional_name_meets row column (byte ∷ text) name e =
    step e _ (name_meets row column (byte ∷ text)) (λ found found_is e1.
    subst (λ (o : Option (List ℕ)). SpellsOptionalName (byte ∷ text) o × IsNameIfAny o) (same (Some found) name e1)
    found_is)

-- an empty text is no name
empty_is_none : (name : List ℕ) → SpellsName [] name → IsName name → ⊥
unfolding is_name
empty_is_none name spelled is = let empty : is_name [] ≡ true = subst IsName (sym spelled) is in absurd cc

optional_name_goes : (row column : ℕ) (text : List ℕ) (name : Option (List ℕ)) → SpellsOptionalName text name
    → IsNameIfAny name → optional_name_column row column text ≡ Ok name
unfolding optional_name_column
optional_name_goes row column [] None spelled is = refl
optional_name_goes row column [] (Some name) spelled is = absurd (empty_is_none name spelled is)
optional_name_goes row column (byte ∷ text) None spelled is = absurd cc
optional_name_goes row column (byte ∷ text) (Some name) spelled is =
    step_on _ (name_goes row column (byte ∷ text) name spelled is) refl

-- ---- numbers

within : (low high n : ℕ) → (leb low n && leb n high) ≡ true → LiesBetween low high n
within low high n h =
    let parts = and_parts (leb low n) (leb n high) h in
    (leb-true low n parts.0, leb-true n high parts.1)

is_within : (low high n : ℕ) → LiesBetween low high n → (leb low n && leb n high) ≡ true
is_within low high n (least, most) = and_from (leb low n) (leb n high) (le-leb low n least) (le-leb n high most)

number_meets : (low high row column : ℕ) (text : List ℕ) (n : ℕ) → number_column low high row column text ≡ Ok n
    → SpellsNumber text n × LiesBetween low high n
unfolding number_column
number_meets low high row column text n e =
    let value : ℕ = number_of text in
    let k = passed_both (is_number text) (leb low value && leb value high) (Ok value) n _ _ e in
    let spelled : value ≡ n = same value n k.2 in
    ((k.0, spelled), subst (LiesBetween low high) spelled (within low high value k.1))

number_goes : (low high row column : ℕ) (text : List ℕ) (n : ℕ) → SpellsNumber text n → LiesBetween low high n
    → number_column low high row column text ≡ Ok n
unfolding number_column
number_goes low high row column text n (number, spelled) ranged =
    let value : ℕ = number_of text in
    pass_both (is_number text) (leb low value && leb value high) (Ok value) n _ _ number
    (is_within low high value (subst (LiesBetween low high) (sym spelled) ranged)) (ap (λ (v : ℕ). Ok v) spelled)

-- ---- times

below_day : (form : Bool) (hour minute : ℕ) → (form && leb hour LAST_HOUR && leb minute LAST_MINUTE_OF_AN_HOUR) ≡ true
    → MINUTES_OF_AN_HOUR * hour + minute < MAX_MINUTES
below_day form hour minute h = grind (arith, nat_tests)

time_meets : (row column : ℕ) (text : List ℕ) (minute : ℕ) → time_column row column text ≡ Ok minute
    → SpellsTime text minute × IsMinute minute
unfolding time_column
time_meets row column text minute e =
    let k = passed (is_time text) (Ok (time_of text)) minute _ e in
    let spelled : time_of text ≡ minute = same (time_of text) minute k.1 in
    let hour : ℕ = number_of (hour_text text) in
    ((k.0, spelled), subst IsMinute spelled (below_day (has_time_form text) hour (number_of (minute_text text)) k.0))

time_goes : (row column : ℕ) (text : List ℕ) (minute : ℕ) → SpellsTime text minute
    → time_column row column text ≡ Ok minute
unfolding time_column
time_goes row column text minute (time, spelled) =
    pass (is_time text) (Ok (time_of text)) minute _ time (ap (λ (m : ℕ). Ok m) spelled)

-- ---- words

-- a word, and what comes where the text is another
worded_at : {A : Type 0} (word_of : A → List ℕ) (text : List ℕ) (a value : A) (other : Result A TableRefusal) (b : Bool)
    → (b ≡ true → text ≡ word_of a) → cond b (Ok a) other ≡ Ok value → (other ≡ Ok value → text ≡ word_of value)
    → text ≡ word_of value
worded_at word_of text a value other true is e others = is refl ∙ ap word_of (same a value e)
worded_at word_of text a value other false is e others = others e

worded : {A : Type 0} (word_of : A → List ℕ) (text : List ℕ) (a value : A) (other : Result A TableRefusal)
    → cond (bytes_eq text (word_of a)) (Ok a) other ≡ Ok value → (other ≡ Ok value → text ≡ word_of value)
    → text ≡ word_of value
worded word_of text a value other e others =
    worded_at word_of text a value other (bytes_eq text (word_of a)) (bytes_eq-Decides text (word_of a)).0 e others

no_word : {A : Type 0} (d : TableRefusal) (value : A) → ◌≡◌ {A = Result A TableRefusal} (Err d) (Ok value) → ⊥
no_word d value e = absurd cc

kind_meets : (row column : ℕ) (text : List ℕ) (kind : KindWord) → kind_column row column text ≡ Ok kind
    → SpellsKind text kind
unfolding kind_column
kind_meets row column text kind e =
    worded kind_word text kinds.Turn kind _ e (λ e1.
    worded kind_word text kinds.Join kind _ e1 (λ e2.
    worded kind_word text kinds.Split kind _ e2 (λ e3. absurd (no_word _ kind e3))))

kind_read : (row column : ℕ) (kind : KindWord) → kind_column row column (kind_word kind) ≡ Ok kind
unfolding kind_column
kind_read row column kinds.Turn = refl
kind_read row column kinds.Join = refl
kind_read row column kinds.Split = refl

kind_goes : (row column : ℕ) (text : List ℕ) (kind : KindWord) → SpellsKind text kind
    → kind_column row column text ≡ Ok kind
kind_goes row column text kind spelled = ap (kind_column row column) spelled ∙ kind_read row column kind

answer_meets : (row column : ℕ) (text : List ℕ) (answer : Bool) → answer_column row column text ≡ Ok answer
    → SpellsAnswer text answer
unfolding answer_column
answer_meets row column text answer e =
    worded answer_word text true answer _ e (λ e1.
    worded answer_word text false answer _ e1 (λ e2. absurd (no_word _ answer e2)))

answer_read : (row column : ℕ) (answer : Bool) → answer_column row column (answer_word answer) ≡ Ok answer
unfolding answer_column
answer_read row column true = refl
answer_read row column false = refl

answer_goes : (row column : ℕ) (text : List ℕ) (answer : Bool) → SpellsAnswer text answer
    → answer_column row column text ≡ Ok answer
answer_goes row column text answer spelled = ap (answer_column row column) spelled ∙ answer_read row column answer

end_meets : (row column : ℕ) (text : List ℕ) (end : End) → end_column row column text ≡ Ok end → SpellsEnd text end
unfolding end_column
end_meets row column text end e =
    worded end_word text ends.None end _ e (λ e1.
    worded end_word text ends.Front end _ e1 (λ e2.
    worded end_word text ends.Rear end _ e2 (λ e3. absurd (no_word _ end e3))))

end_read : (row column : ℕ) (end : End) → end_column row column (end_word end) ≡ Ok end
unfolding end_column
end_read row column ends.None = refl
end_read row column ends.Front = refl
end_read row column ends.Rear = refl

end_goes : (row column : ℕ) (text : List ℕ) (end : End) → SpellsEnd text end → end_column row column text ≡ Ok end
end_goes row column text end spelled = ap (end_column row column) spelled ∙ end_read row column end

-- ---- units

-- at most six units, each with a number that a unit may have
abbrev AreUnits : List ℕ → Type 0
AreUnits units = (length units ≤ MAX_COMPOSITION_UNITS) × All (λ unit. unit < MAX_UNITS) units

units_are : (units : List ℕ) → (leb (length units) MAX_COMPOSITION_UNITS && list_all is_unit units) ≡ true → AreUnits units
units_are units h =
    let parts = and_parts (leb (length units) MAX_COMPOSITION_UNITS) (list_all is_unit units) h in (
      leb-true (length units) MAX_COMPOSITION_UNITS parts.0,
      All-weaker (λ unit. is_unit unit ≡ true) (λ unit. unit < MAX_UNITS) (λ unit is. ltb-true unit MAX_UNITS is)
          units (AllPass-from_list_all is_unit units parts.1),
    )

are_units : (units : List ℕ) → AreUnits units → (leb (length units) MAX_COMPOSITION_UNITS && list_all is_unit units) ≡ true
are_units units (few, each) =
    and_from (leb (length units) MAX_COMPOSITION_UNITS) (list_all is_unit units) (le-leb (length units) MAX_COMPOSITION_UNITS few)
    (list_all-from_AllPass is_unit units
    (All-weaker (λ unit. unit < MAX_UNITS) (λ unit. is_unit unit ≡ true) (λ unit below. lt-ltb unit MAX_UNITS below)
    units each))

each_spelled : (pieces : List (List ℕ)) → list_all is_number pieces ≡ true
    → AllZip SpellsNumber pieces (map number_of pieces)
each_spelled [] h = tt
each_spelled (piece ∷ pieces) h =
    let parts = and_parts (is_number piece) (list_all is_number pieces) h in
    ((parts.0, refl), each_spelled pieces parts.1)

all_numbers : (pieces : List (List ℕ)) (units : List ℕ) → AllZip SpellsNumber pieces units
    → (list_all is_number pieces ≡ true) × (map number_of pieces ≡ units)
all_numbers [] [] h = (refl, refl)
all_numbers [] (unit ∷ units) h = absurd h
all_numbers (piece ∷ pieces) [] h = absurd h
all_numbers (piece ∷ pieces) (unit ∷ units) ((number, spelled), others) =
    let rest = all_numbers pieces units others in
    let rest_spelled : map number_of pieces ≡ units = rest.1 in
    (and_from (is_number piece) (list_all is_number pieces) number rest.0, cc)

units_meet : (row column : ℕ) (text units : List ℕ) → units_column row column text ≡ Ok units
    → SpellsUnits text units × AreUnits units
unfolding units_column
units_meet row column text units e =
    let numbers : List ℕ = numbers_of text in
    let k = passed_both (list_all is_number (pieces_of text))
    (leb (length numbers) MAX_COMPOSITION_UNITS && list_all is_unit numbers) (Ok numbers) units _ _ e in
    let spelled : numbers ≡ units = same numbers units k.2 in (
      subst (SpellsUnits text) spelled (each_spelled (pieces_of text) k.0),
      subst AreUnits spelled (units_are numbers k.1),
    )

units_go : (row column : ℕ) (text units : List ℕ) → SpellsUnits text units → AreUnits units
    → units_column row column text ≡ Ok units
unfolding units_column
units_go row column text units spells are =
    let numbers : List ℕ = numbers_of text in
    let (each, spelled) = all_numbers (pieces_of text) units spells in
    pass_both (list_all is_number (pieces_of text)) (leb (length numbers) MAX_COMPOSITION_UNITS && list_all is_unit numbers)
    (Ok numbers) units _ _ each (are_units numbers (subst AreUnits (sym spelled) are))
    (ap (λ (us : List ℕ). Ok us) spelled)

-- ---- a column that the first version lacks

-- the text that stands for a field spells the value that stands for it, and no other
record StandsFor {A : Type 0} (Spells : List ℕ → A → Type 0) (missing : List ℕ) (lacking : A) : Type 0 where
  spelled : Spells missing lacking
  alone : (a : A) → Spells missing a → a ≡ lacking

if_there : {A : Type 0} (Spells : List ℕ → A → Type 0) (missing : List ℕ) (lacking : A)
    → StandsFor Spells missing lacking → (fields : List (List ℕ)) (column : ℕ) (a : A)
    → Spells (field_or missing fields column) a → SpellsIfThere Spells lacking fields column a
if_there Spells missing lacking stands [] column a spells = stands.alone a spells
if_there Spells missing lacking stands (text ∷ fields) zero a spells = spells
if_there Spells missing lacking stands (text ∷ fields) (suc column) a spells =
    if_there Spells missing lacking stands fields column a spells

there_or : {A : Type 0} (Spells : List ℕ → A → Type 0) (missing : List ℕ) (lacking : A)
    → StandsFor Spells missing lacking → (fields : List (List ℕ)) (column : ℕ) (a : A)
    → SpellsIfThere Spells lacking fields column a → Spells (field_or missing fields column) a
there_or Spells missing lacking stands [] column a same = subst (Spells missing) (sym same) stands.spelled
there_or Spells missing lacking stands (text ∷ fields) zero a spells = spells
there_or Spells missing lacking stands (text ∷ fields) (suc column) a spells =
    there_or Spells missing lacking stands fields column a spells

no_seats : StandsFor SpellsNumber (codes "0") 0
unfolding number_of
no_seats = record { spelled = (refl, refl); alone = λ n spelled. sym spelled.1 }

no_is_false : (answer : Bool) → SpellsAnswer (codes "no") answer → answer ≡ false
no_is_false true spelled = absurd cc
no_is_false false spelled = refl

no_exchange : StandsFor SpellsAnswer (codes "no") false
no_exchange = record { spelled = refl; alone = no_is_false }

seats_if_there : (fields : List (List ℕ)) (column n : ℕ) → SpellsNumber (field_or (codes "0") fields column) n
    → SpellsIfThere SpellsNumber 0 fields column n
seats_if_there fields column n spells = if_there SpellsNumber (codes "0") 0 no_seats fields column n spells

seats_or : (fields : List (List ℕ)) (column n : ℕ) → SpellsIfThere SpellsNumber 0 fields column n
    → SpellsNumber (field_or (codes "0") fields column) n
seats_or fields column n spells = there_or SpellsNumber (codes "0") 0 no_seats fields column n spells

exchange_if_there : (fields : List (List ℕ)) (column : ℕ) (answer : Bool)
    → SpellsAnswer (field_or (codes "no") fields column) answer → SpellsIfThere SpellsAnswer false fields column answer
exchange_if_there fields column answer spells =
    if_there SpellsAnswer (codes "no") false no_exchange fields column answer spells

exchange_or : (fields : List (List ℕ)) (column : ℕ) (answer : Bool)
    → SpellsIfThere SpellsAnswer false fields column answer → SpellsAnswer (field_or (codes "no") fields column) answer
exchange_or fields column answer spells =
    there_or SpellsAnswer (codes "no") false no_exchange fields column answer spells

-- ---- the seven tables

pub type_meets : (row : ℕ) (fields : List (List ℕ)) (r : TypeRow) → type_columns row fields ≡ Ok r
    → SpellsTypeRow fields r × IsTypeRow r
unfolding type_columns
type_meets row fields r e =
    step e _ (name_meets row 0 (field fields 0)) (λ name name_is e1.
    step e1 _ (number_meets 1 MAX_CARRIAGES row 1 (field fields 1)) (λ carriages carriages_is e2.
    step e2 _ (number_meets 1 MAX_SEATS row 2 (field fields 2)) (λ seats seats_is e3.
    step e3 _ (number_meets 1 MAX_METRES row 3 (field fields 3)) (λ metres metres_is e4.
    step e4 _ (name_meets row 4 (field fields 4)) (λ family family_is e5.
    step e5 _ (number_meets 0 MAX_FIRST_SEATS row 5 (field_or (codes "0") fields 5)) (λ first first_is e6.
    subst (λ (t : TypeRow). SpellsTypeRow fields t × IsTypeRow t)
    (same (record {
      name = name;
      carriages = carriages;
      seats = seats;
      metres = metres;
      family = family;
      first = first;
    }) r e6) (
      record {
        name = name_is.0;
        carriages = carriages_is.0;
        seats = seats_is.0;
        metres = metres_is.0;
        family = family_is.0;
        first = seats_if_there fields 5 first first_is.0;
      },
      record {
        name = name_is.1;
        carriages = carriages_is.1;
        seats = seats_is.1;
        metres = metres_is.1;
        family = family_is.1;
        first = first_is.1;
      },
    )))))))

type_goes : (row : ℕ) (fields : List (List ℕ)) (r : TypeRow) → SpellsTypeRow fields r → IsTypeRow r
    → type_columns row fields ≡ Ok r
unfolding type_columns
type_goes row fields r spells is =
    step_on _ (name_goes row 0 (field fields 0) r.name spells.name is.name)
    (step_on _ (number_goes 1 MAX_CARRIAGES row 1 (field fields 1) r.carriages spells.carriages is.carriages)
    (step_on _ (number_goes 1 MAX_SEATS row 2 (field fields 2) r.seats spells.seats is.seats)
    (step_on _ (number_goes 1 MAX_METRES row 3 (field fields 3) r.metres spells.metres is.metres)
    (step_on _ (name_goes row 4 (field fields 4) r.family spells.family is.family)
    (step_on _ (number_goes 0 MAX_FIRST_SEATS row 5 (field_or (codes "0") fields 5) r.first
    (seats_or fields 5 r.first spells.first) is.first) refl)))))

pub station_meets : (row : ℕ) (fields : List (List ℕ)) (r : StationRow) → station_columns row fields ≡ Ok r
    → SpellsStationRow fields r × IsStationRow r
unfolding station_columns
station_meets row fields r e =
    step e _ (name_meets row 0 (field fields 0)) (λ name name_is e1.
    step e1 _ (number_meets 1 MAX_PLATFORM row 1 (field fields 1)) (λ platform platform_is e2.
    step e2 _ (number_meets 0 MAX_REALLOCATION row 2 (field fields 2)) (λ reallocation reallocation_is e3.
    subst (λ (t : StationRow). SpellsStationRow fields t × IsStationRow t)
    (same (record { name = name; platform = platform; reallocation = reallocation }) r e3) (
      record { name = name_is.0; platform = platform_is.0; reallocation = reallocation_is.0 },
      record { name = name_is.1; platform = platform_is.1; reallocation = reallocation_is.1 },
    ))))

station_goes : (row : ℕ) (fields : List (List ℕ)) (r : StationRow) → SpellsStationRow fields r → IsStationRow r
    → station_columns row fields ≡ Ok r
unfolding station_columns
station_goes row fields r spells is =
    step_on _ (name_goes row 0 (field fields 0) r.name spells.name is.name)
    (step_on _ (number_goes 1 MAX_PLATFORM row 1 (field fields 1) r.platform spells.platform is.platform)
    (step_on _ (number_goes 0 MAX_REALLOCATION row 2 (field fields 2) r.reallocation spells.reallocation
    is.reallocation) refl))

pub stock_meets : (row : ℕ) (fields : List (List ℕ)) (r : StockRow) → stock_columns row fields ≡ Ok r
    → SpellsStockRow fields r × IsStockRow r
unfolding stock_columns
stock_meets row fields r e =
    step e _ (name_meets row 0 (field fields 0)) (λ station station_is e1.
    step e1 _ (name_meets row 1 (field fields 1)) (λ unit_type unit_type_is e2.
    step e2 _ (number_meets 0 MAX_STOCK row 2 (field fields 2)) (λ start start_is e3.
    step e3 _ (number_meets 0 MAX_STOCK row 3 (field fields 3)) (λ end end_is e4.
    subst (λ (t : StockRow). SpellsStockRow fields t × IsStockRow t)
    (same (record { station = station; unit_type = unit_type; start = start; end = end }) r e4) (
      record { station = station_is.0; unit_type = unit_type_is.0; start = start_is.0; end = end_is.0 },
      record { station = station_is.1; unit_type = unit_type_is.1; start = start_is.1; end = end_is.1 },
    )))))

stock_goes : (row : ℕ) (fields : List (List ℕ)) (r : StockRow) → SpellsStockRow fields r → IsStockRow r
    → stock_columns row fields ≡ Ok r
unfolding stock_columns
stock_goes row fields r spells is =
    step_on _ (name_goes row 0 (field fields 0) r.station spells.station is.station)
    (step_on _ (name_goes row 1 (field fields 1) r.unit_type spells.unit_type is.unit_type)
    (step_on _ (number_goes 0 MAX_STOCK row 2 (field fields 2) r.start spells.start is.start)
    (step_on _ (number_goes 0 MAX_STOCK row 3 (field fields 3) r.end spells.end is.end) refl)))

pub trip_meets : (row : ℕ) (fields : List (List ℕ)) (r : TripRow) → trip_columns row fields ≡ Ok r
    → SpellsTripRow fields r × IsTripRow r
unfolding trip_columns
trip_meets row fields r e =
    step e _ (name_meets row 0 (field fields 0)) (λ name name_is e1.
    step e1 _ (name_meets row 1 (field fields 1)) (λ from from_is e2.
    step e2 _ (time_meets row 2 (field fields 2)) (λ departure departure_is e3.
    step e3 _ (name_meets row 3 (field fields 3)) (λ to to_is e4.
    step e4 _ (time_meets row 4 (field fields 4)) (λ arrival arrival_is e5.
    step e5 _ (number_meets 1 MAX_KM row 5 (field fields 5)) (λ km km_is e6.
    step e6 _ (number_meets 0 MAX_DEMAND row 6 (field fields 6)) (λ demand demand_is e7.
    step e7 _ (number_meets 0 MAX_FIRST_DEMAND row 7 (field_or (codes "0") fields 7)) (λ first first_is e8.
    subst (λ (t : TripRow). SpellsTripRow fields t × IsTripRow t)
    (same (record {
      name = name;
      from = from;
      departure = departure;
      to = to;
      arrival = arrival;
      km = km;
      demand = demand;
      first = first;
    }) r e8) (
      record {
        name = name_is.0;
        from = from_is.0;
        departure = departure_is.0;
        to = to_is.0;
        arrival = arrival_is.0;
        km = km_is.0;
        demand = demand_is.0;
        first = seats_if_there fields 7 first first_is.0;
      },
      record {
        name = name_is.1;
        from = from_is.1;
        departure = departure_is.1;
        to = to_is.1;
        arrival = arrival_is.1;
        km = km_is.1;
        demand = demand_is.1;
        first = first_is.1;
      },
    )))))))))

trip_goes : (row : ℕ) (fields : List (List ℕ)) (r : TripRow) → SpellsTripRow fields r → IsTripRow r
    → trip_columns row fields ≡ Ok r
unfolding trip_columns
trip_goes row fields r spells is =
    step_on _ (name_goes row 0 (field fields 0) r.name spells.name is.name)
    (step_on _ (name_goes row 1 (field fields 1) r.from spells.from is.from)
    (step_on _ (time_goes row 2 (field fields 2) r.departure spells.departure)
    (step_on _ (name_goes row 3 (field fields 3) r.to spells.to is.to)
    (step_on _ (time_goes row 4 (field fields 4) r.arrival spells.arrival)
    (step_on _ (number_goes 1 MAX_KM row 5 (field fields 5) r.km spells.km is.km)
    (step_on _ (number_goes 0 MAX_DEMAND row 6 (field fields 6) r.demand spells.demand is.demand)
    (step_on _ (number_goes 0 MAX_FIRST_DEMAND row 7 (field_or (codes "0") fields 7) r.first
    (seats_or fields 7 r.first spells.first) is.first) refl)))))))

pub link_meets : (row : ℕ) (fields : List (List ℕ)) (r : LinkRow) → link_columns row fields ≡ Ok r
    → SpellsLinkRow fields r × IsLinkRow r
unfolding link_columns
link_meets row fields r e =
    step e _ (kind_meets row 0 (field fields 0)) (λ kind kind_is e1.
    step e1 _ (name_meets row 1 (field fields 1)) (λ arriving arriving_is e2.
    step e2 _ (optional_name_meets row 2 (field fields 2)) (λ arriving2 arriving2_is e3.
    step e3 _ (name_meets row 3 (field fields 3)) (λ departing departing_is e4.
    step e4 _ (optional_name_meets row 4 (field fields 4)) (λ departing2 departing2_is e5.
    step e5 _ (answer_meets row 5 (field fields 5)) (λ reverse reverse_is e6.
    step e6 _ (end_meets row 6 (field fields 6)) (λ uncouple uncouple_is e7.
    step e7 _ (end_meets row 7 (field fields 7)) (λ couple couple_is e8.
    step e8 _ (answer_meets row 8 (field_or (codes "no") fields 8)) (λ exchange exchange_is e9.
    subst (λ (t : LinkRow). SpellsLinkRow fields t × IsLinkRow t)
    (same (record {
      kind = kind;
      arriving = arriving;
      arriving2 = arriving2;
      departing = departing;
      departing2 = departing2;
      reverse = reverse;
      uncouple = uncouple;
      couple = couple;
      exchange = exchange;
    }) r e9) (
      record {
        kind = kind_is;
        arriving = arriving_is.0;
        arriving2 = arriving2_is.0;
        departing = departing_is.0;
        departing2 = departing2_is.0;
        reverse = reverse_is;
        uncouple = uncouple_is;
        couple = couple_is;
        exchange = exchange_if_there fields 8 exchange exchange_is;
      },
      record {
        arriving = arriving_is.1;
        arriving2 = arriving2_is.1;
        departing = departing_is.1;
        departing2 = departing2_is.1;
      },
    ))))))))))

link_goes : (row : ℕ) (fields : List (List ℕ)) (r : LinkRow) → SpellsLinkRow fields r → IsLinkRow r
    → link_columns row fields ≡ Ok r
unfolding link_columns
link_goes row fields r spells is =
    step_on _ (kind_goes row 0 (field fields 0) r.kind spells.kind)
    (step_on _ (name_goes row 1 (field fields 1) r.arriving spells.arriving is.arriving)
    (step_on _ (optional_name_goes row 2 (field fields 2) r.arriving2 spells.arriving2 is.arriving2)
    (step_on _ (name_goes row 3 (field fields 3) r.departing spells.departing is.departing)
    (step_on _ (optional_name_goes row 4 (field fields 4) r.departing2 spells.departing2 is.departing2)
    (step_on _ (answer_goes row 5 (field fields 5) r.reverse spells.reverse)
    (step_on _ (end_goes row 6 (field fields 6) r.uncouple spells.uncouple)
    (step_on _ (end_goes row 7 (field fields 7) r.couple spells.couple)
    (step_on _ (answer_goes row 8 (field_or (codes "no") fields 8) r.exchange
    (exchange_or fields 8 r.exchange spells.exchange)) refl))))))))

pub weight_meets : (row : ℕ) (fields : List (List ℕ)) (r : WeightsRow) → weight_columns row fields ≡ Ok r
    → SpellsWeightsRow fields r × IsWeightsRow r
unfolding weight_columns
weight_meets row fields r e =
    step e _ (number_meets 0 MAX_WEIGHT row 0 (field fields 0)) (λ carriage carriage_is e1.
    step e1 _ (number_meets 0 MAX_WEIGHT row 1 (field fields 1)) (λ shortage shortage_is e2.
    step e2 _ (number_meets 0 MAX_WEIGHT row 2 (field fields 2)) (λ shunting shunting_is e3.
    subst (λ (t : WeightsRow). SpellsWeightsRow fields t × IsWeightsRow t)
    (same (record { carriage = carriage; shortage = shortage; shunting = shunting }) r e3) (
      record { carriage = carriage_is.0; shortage = shortage_is.0; shunting = shunting_is.0 },
      record { carriage = carriage_is.1; shortage = shortage_is.1; shunting = shunting_is.1 },
    ))))

weight_goes : (row : ℕ) (fields : List (List ℕ)) (r : WeightsRow) → SpellsWeightsRow fields r → IsWeightsRow r
    → weight_columns row fields ≡ Ok r
unfolding weight_columns
weight_goes row fields r spells is =
    step_on _ (number_goes 0 MAX_WEIGHT row 0 (field fields 0) r.carriage spells.carriage is.carriage)
    (step_on _ (number_goes 0 MAX_WEIGHT row 1 (field fields 1) r.shortage spells.shortage is.shortage)
    (step_on _ (number_goes 0 MAX_WEIGHT row 2 (field fields 2) r.shunting spells.shunting is.shunting) refl))

pub plan_meets : (row : ℕ) (fields : List (List ℕ)) (r : PlanRow) → plan_columns row fields ≡ Ok r
    → SpellsPlanRow fields r × IsPlanRow r
unfolding plan_columns
plan_meets row fields r e =
    step e _ (name_meets row 0 (field fields 0)) (λ trip trip_is e1.
    step e1 _ (units_meet row 1 (field fields 1)) (λ units units_is e2.
    subst (λ (t : PlanRow). SpellsPlanRow fields t × IsPlanRow t) (same (record { trip = trip; units = units }) r e2) (
      record { trip = trip_is.0; units = units_is.0 },
      record { trip = trip_is.1; few = units_is.1.0; units = units_is.1.1 },
    )))

plan_goes : (row : ℕ) (fields : List (List ℕ)) (r : PlanRow) → SpellsPlanRow fields r → IsPlanRow r
    → plan_columns row fields ≡ Ok r
unfolding plan_columns
plan_goes row fields r spells is =
    step_on _ (name_goes row 0 (field fields 0) r.trip spells.trip is.trip)
    (step_on _ (units_go row 1 (field fields 1) r.units spells.units (is.few, is.units)) refl)

pub each_reads : EachReadsWhatIsSpelled
each_reads = record {
  types = λ number fields row. (type_meets number fields row, λ is. type_goes number fields row is.0 is.1);
  stations = λ number fields row. (station_meets number fields row, λ is. station_goes number fields row is.0 is.1);
  stock = λ number fields row. (stock_meets number fields row, λ is. stock_goes number fields row is.0 is.1);
  trips = λ number fields row. (trip_meets number fields row, λ is. trip_goes number fields row is.0 is.1);
  links = λ number fields row. (link_meets number fields row, λ is. link_goes number fields row is.0 is.1);
  weights = λ number fields row. (weight_meets number fields row, λ is. weight_goes number fields row is.0 is.1);
  plan = λ number fields row. (plan_meets number fields row, λ is. plan_goes number fields row is.0 is.1);
}
