-- The rows of the table of prices.
use Rattle.std.proofs.Common.{◌≡◌, ℕ, suc, ◌+◌, ◌<◌, ◌≤◌, List, [], ◌∷◌, ◌++◌, length, Some}
use Rattle.std.proofs.Common.{refl, sym, ap, ◌∙◌, subst, arith}
use Rattle.std.specs.Prelude.{IsTrue, slice_get, nat_le, ◌&&◌}
use Rattle.std.specs.List.{All}
use Rattle.std.proofs.lemmas.Bool.{and_parts, leb-true}
use Rattle.std.proofs.lemmas.List.{append_assoc, append-nil, length-append}
use Rattle.std.proofs.lemmas.List.Elements.{All-cons, All-nil}
use Rattle.rules.specs.declared.records.UnitType.{UnitType}
use Rattle.rail_csv.specs.Columns.{field}
use Rattle.rail_csv.specs.Fields.{are_digits, is_number, number_of}
use Rattle.rail_csv.specs.Records.{Records, ReadsOn, Took, records_left}
use Rattle.rail_csv.specs.declared.limits.TheConstants.{MAX_NUMBER_DIGITS}
use Rattle.rail_csv.proofs.Numerals.{number_fits}
use Rattle.timetable.specs.Day.{Day}
use Rattle.fleet_boxes.specs.declared.prices.TheConstants.{MAX_PRICE}
use Rattle.fleet_check.specs.PriceTables.{AreAllRight, AreRight, IsFirstBad, IsMissing, SpellsPrice}

-- ---- what records spell

-- a record of a type spells one cost
pub one_cost : (unit_type : UnitType) (fields : List (List ℕ)) (cost other : ℕ) → SpellsPrice unit_type fields cost
    → SpellsPrice unit_type fields other → cost ≡ other
one_cost unit_type fields cost other one two = sym one.number.1 ∙ two.number.1

-- as many costs as records
pub as_many : (records : List (List (List ℕ))) (types : List UnitType) (costs : List ℕ) → AreRight records types costs
    → length costs ≡ length records
as_many [] types [] right = refl
as_many [] types (cost ∷ costs) right = absurd right
as_many (r ∷ records) [] costs right = absurd right
as_many (r ∷ records) (t ∷ types) [] right = absurd right
as_many (r ∷ records) (t ∷ types) (cost ∷ costs) right = ap suc (as_many records types costs right.1)

-- no more records than types
pub few_records : (records : List (List (List ℕ))) (types : List UnitType) (costs : List ℕ) → AreRight records types costs
    → length records ≤ length types
few_records [] types costs right = omega arith
few_records (r ∷ records) [] costs right = absurd right
few_records (r ∷ records) (t ∷ types) [] right = absurd right
few_records (r ∷ records) (t ∷ types) (cost ∷ costs) right = omega (arith, few_records records types costs right.1)

pub same_costs : (records : List (List (List ℕ))) (types : List UnitType) (costs others : List ℕ) → AreRight records types costs
    → AreRight records types others → costs ≡ others
same_costs [] types [] [] one two = refl
same_costs [] types [] (other ∷ others) one two = absurd two
same_costs [] types (cost ∷ costs) others one two = absurd one
same_costs (r ∷ records) [] costs others one two = absurd one
same_costs (r ∷ records) (t ∷ types) [] others one two = absurd one
same_costs (r ∷ records) (t ∷ types) (cost ∷ costs) [] one two = absurd two
same_costs (r ∷ records) (t ∷ types) (cost ∷ costs) (other ∷ others) one two =
    ap (λ (c : ℕ). c ∷ costs) (one_cost t r cost other one.0 two.0)
    ∙ ap (λ (cs : List ℕ). other ∷ cs) (same_costs records types costs others one.1 two.1)

-- the front of right records is right
pub right_front : (records more : List (List (List ℕ))) (types : List UnitType) (costs : List ℕ)
    → AreRight (records ++ more) types costs → (front : List ℕ) × AreRight records types front
right_front [] more types costs right = ([], tt)
right_front (r ∷ records) more [] costs right = absurd right
right_front (r ∷ records) more (t ∷ types) [] right = absurd right
right_front (r ∷ records) more (t ∷ types) (cost ∷ costs) right =
    let rest = right_front records more types costs right.1 in (cost ∷ rest.0, (right.0, rest.1))

-- ---- one record more

pub right_with : (seen : List (List (List ℕ))) (types : List UnitType) (costs : List ℕ) (unit_type : UnitType)
    (fields : List (List ℕ)) (cost : ℕ) → AreRight seen types costs → slice_get types (length costs) ≡ Some unit_type
    → SpellsPrice unit_type fields cost → AreRight (seen ++ fields ∷ []) types (costs ++ cost ∷ [])
right_with [] [] [] unit_type fields cost right at spells = absurd cc
right_with [] (t ∷ types) [] unit_type fields cost right at spells =
    let same : unit_type ≡ t = cc in (subst (λ (u : UnitType). SpellsPrice u fields cost) same spells, tt)
right_with [] types (c ∷ costs) unit_type fields cost right at spells = absurd right
right_with (r ∷ seen) [] costs unit_type fields cost right at spells = absurd right
right_with (r ∷ seen) (t ∷ types) [] unit_type fields cost right at spells = absurd right
right_with (r ∷ seen) (t ∷ types) (c ∷ costs) unit_type fields cost right at spells =
    (right.0, right_with seen types costs unit_type fields cost right.1 at spells)

pub wrong_with : (seen : List (List (List ℕ))) (types : List UnitType) (costs more : List ℕ) (unit_type : UnitType)
    (fields : List (List ℕ)) → AreRight seen types costs → slice_get types (length costs) ≡ Some unit_type
    → ((cost : ℕ) → ¬ SpellsPrice unit_type fields cost) → ¬ AreRight (seen ++ fields ∷ []) types more
wrong_with [] [] [] more unit_type fields right at none wrong = absurd cc
wrong_with [] (t ∷ types) [] [] unit_type fields right at none wrong = absurd wrong
wrong_with [] (t ∷ types) [] (m ∷ more) unit_type fields right at none wrong =
    let same : t ≡ unit_type = cc in none m (subst (λ (u : UnitType). SpellsPrice u fields m) same wrong.0)
wrong_with [] types (c ∷ costs) more unit_type fields right at none wrong = absurd right
wrong_with (r ∷ seen) [] costs more unit_type fields right at none wrong = absurd right
wrong_with (r ∷ seen) (t ∷ types) [] more unit_type fields right at none wrong = absurd right
wrong_with (r ∷ seen) (t ∷ types) (c ∷ costs) [] unit_type fields right at none wrong = absurd wrong
wrong_with (r ∷ seen) (t ∷ types) (c ∷ costs) (m ∷ more) unit_type fields right at none wrong =
    wrong_with seen types costs more unit_type fields right.1 at none wrong.1

-- no type is left for one record more
pub too_many : (seen : List (List (List ℕ))) (types : List UnitType) (costs more : List ℕ) (fields : List (List ℕ))
    → AreRight seen types costs → length costs ≡ length types → ¬ AreRight (seen ++ fields ∷ []) types more
too_many seen types costs more fields right all wrong =
    let few = few_records (seen ++ fields ∷ []) types more wrong in
    let wide = length-append seen (fields ∷ []) in
    omega (arith, few, wide, all, as_many seen types costs right)

-- ---- the rows that were read so far

pub record ReadSoFar (all : List (List (List ℕ))) (types : List UnitType) (left : Records) (costs : List ℕ) (number : ℕ)
    : Type 0 where
  pub seen : List (List (List ℕ))
  pub parts : all ≡ seen ++ records_left left
  pub next : ReadsOn left
  pub right : AreRight seen types costs
  pub counted : length costs ≡ number

pub none_read : (types : List UnitType) (left : Records) (costs : List ℕ) → ReadsOn left → costs ≡ []
    → ReadSoFar (records_left left) types left costs 0
none_read types left costs next none = record {
  seen = [];
  parts = refl;
  next = next;
  right = subst (AreRight [] types) (sym none) tt;
  counted = ap (length {A = ℕ}) none;
}

-- one row more
pub one_more : (all : List (List (List ℕ))) (types : List UnitType) (before after : Records) (costs more : List ℕ)
    (number : ℕ) (unit_type : UnitType) (fields : List (List ℕ)) (cost : ℕ) → ReadSoFar all types before costs number
    → slice_get types number ≡ Some unit_type → Took before after fields → SpellsPrice unit_type fields cost
    → more ≡ costs ++ cost ∷ [] → ReadSoFar all types after more (number + 1)
one_more all types before after costs more number unit_type fields cost so_far at took spells is = record {
  seen = so_far.seen ++ fields ∷ [];
  parts = so_far.parts ∙ ap (λ (rs : List (List (List ℕ))). so_far.seen ++ rs) took.first
      ∙ sym (append_assoc so_far.seen (fields ∷ []) (records_left after));
  next = took.next;
  right = subst (AreRight (so_far.seen ++ fields ∷ []) types) (sym is)
      (right_with so_far.seen types costs unit_type fields cost so_far.right
      (ap (λ (k : ℕ). slice_get types k) so_far.counted ∙ at) spells);
  counted =
      let long = length-append costs (cost ∷ []) in
      omega (arith, ap (length {A = ℕ}) is, long, so_far.counted);
}

pub all_read : (all : List (List (List ℕ))) (types : List UnitType) (left : Records) (costs : List ℕ) (number : ℕ)
    → ReadSoFar all types left costs number → number ≡ length types → records_left left ≡ [] → AreAllRight all types costs
all_read all types left costs number so_far whole none =
    let seen : so_far.seen ≡ all =
    sym (append-nil so_far.seen) ∙ sym (ap (λ (rs : List (List (List ℕ))). so_far.seen ++ rs) none) ∙ sym so_far.parts in
    record {
      right = subst (λ (rs : List (List (List ℕ))). AreRight rs types costs) seen so_far.right;
      all = so_far.counted ∙ whole;
    }

-- ---- why the rows are refused

pub bad_row : (day : Day) (all : List (List (List ℕ))) (before after : Records) (costs : List ℕ) (number : ℕ)
    (fields : List (List ℕ)) → ReadSoFar all day.types before costs number → Took before after fields
    → ((seen : List (List (List ℕ))) (more : List ℕ) → AreRight seen day.types costs → ¬ AreRight (seen ++ fields ∷ []) day.types more)
    → IsFirstBad day all (number + 1)
bad_row day all before after costs number fields so_far took wrong = record {
  before = so_far.seen;
  bad = fields;
  others = records_left after;
  parts = so_far.parts ∙ ap (λ (rs : List (List (List ℕ))). so_far.seen ++ rs) took.first;
  counted = omega (arith, so_far.counted, as_many so_far.seen day.types costs so_far.right);
  costs = costs;
  right = so_far.right;
  wrong = λ more. wrong so_far.seen more so_far.right;
}

pub wrong_row : (day : Day) (all : List (List (List ℕ))) (before after : Records) (costs : List ℕ) (number : ℕ)
    (unit_type : UnitType) (fields : List (List ℕ)) → ReadSoFar all day.types before costs number → Took before after fields
    → slice_get day.types number ≡ Some unit_type → ((cost : ℕ) → ¬ SpellsPrice unit_type fields cost)
    → IsFirstBad day all (number + 1)
wrong_row day all before after costs number unit_type fields so_far took at none =
    bad_row day all before after costs number fields so_far took
    (λ seen more right. wrong_with seen day.types costs more unit_type fields right
    (ap (λ (k : ℕ). slice_get day.types k) so_far.counted ∙ at) none)

pub row_too_many : (day : Day) (all : List (List (List ℕ))) (before after : Records) (costs : List ℕ) (number : ℕ)
    (fields : List (List ℕ)) → ReadSoFar all day.types before costs number → Took before after fields
    → number ≡ length day.types → IsFirstBad day all (number + 1)
row_too_many day all before after costs number fields so_far took whole =
    bad_row day all before after costs number fields so_far took
    (λ seen more right. too_many seen day.types costs more fields right (so_far.counted ∙ whole))

pub row_missing : (day : Day) (all : List (List (List ℕ))) (left : Records) (costs : List ℕ) (number : ℕ)
    → ReadSoFar all day.types left costs number → number < length day.types → records_left left ≡ []
    → IsMissing day all number
row_missing day all left costs number so_far below none =
    let seen : so_far.seen ≡ all =
    sym (append-nil so_far.seen) ∙ sym (ap (λ (rs : List (List (List ℕ))). so_far.seen ++ rs) none) ∙ sym so_far.parts in
    let right = subst (λ (rs : List (List (List ℕ))). AreRight rs day.types costs) seen so_far.right in
    let many = as_many all day.types costs right in
    record {
      counted = omega (arith, many, so_far.counted);
      costs = costs;
      right = right;
      left = omega (arith, many, so_far.counted, below);
    }

-- ---- costs are within the limit

few_number : (text : List ℕ) (number : ℕ) → IsTrue (is_number text) → number_of text ≡ number → number ≤ MAX_PRICE
few_number text number is spelled =
    let parts = and_parts (nat_le 1 (length text) && nat_le (length text) MAX_NUMBER_DIGITS) (are_digits text) is in
    let short = and_parts (nat_le 1 (length text)) (nat_le (length text) MAX_NUMBER_DIGITS) parts.0 in
    let below : number_of text < 1000000000 = number_fits text 9 (leb-true (length text) 9 short.1) parts.1 in
    omega (arith, below, spelled)

pub few_costs : (records : List (List (List ℕ))) (types : List UnitType) (costs : List ℕ) → AreRight records types costs
    → All (λ cost. cost ≤ MAX_PRICE) costs
few_costs [] types [] right = All-nil (λ cost. cost ≤ MAX_PRICE)
few_costs [] types (cost ∷ costs) right = absurd right
few_costs (r ∷ records) [] costs right = absurd right
few_costs (r ∷ records) (t ∷ types) [] right = absurd right
few_costs (r ∷ records) (t ∷ types) (cost ∷ costs) right =
    All-cons (λ cost. cost ≤ MAX_PRICE) cost costs (few_number (field r 1) cost right.0.number.0 right.0.number.1)
    (few_costs records types costs right.1)
