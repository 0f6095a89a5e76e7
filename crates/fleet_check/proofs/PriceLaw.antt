-- A table of prices says one list of prices, or it is refused for one cause.
use Rattle.std.proofs.Common.{◌≡◌, ◌≢◌, ℕ, ◌<◌, List, [], ◌∷◌, ◌++◌, length, refl, sym, ap, ◌∙◌, subst, arith, inl, inr}
use Rattle.std.proofs.lemmas.Bool.{cases_lt}
use Rattle.std.proofs.lemmas.List.{append_assoc}
use Rattle.timetable.specs.Day.{Day}
use Rattle.fleet_check.specs.declared.refusal.PriceRefusal.{PriceRefusal}
use Rattle.fleet_check.specs.declared.refusal.PriceRefusal.TheVariants.{WrongHeader, BadRow, MissingRow, NoMemory}
use Rattle.fleet_check.specs.Laws.{PricesAreDecided}
use Rattle.fleet_check.specs.PriceTables.{AreAllRight, AreRight, ArePricesOf, HasRecords, IsFirstBad, IsMissing}
use Rattle.fleet_check.specs.PriceTables.{IsPriceRefusal, price_header}
use Rattle.fleet_check.proofs.PriceRows.{as_many, right_front, same_costs}

same_records : (bytes : List ℕ) (one other : List (List (List ℕ))) → HasRecords bytes one → HasRecords bytes other → one ≡ other
same_records bytes one other first second =
    let both : price_header ∷ one ≡ price_header ∷ other = sym first ∙ second in cc

-- right records have no bad one
never_bad : (day : Day) (records : List (List (List ℕ))) (costs : List ℕ) (number : ℕ) → AreRight records day.types costs
    → IsFirstBad day records number → ⊥
never_bad day records costs number right bad =
    let parts : records ≡ (bad.before ++ bad.bad ∷ []) ++ bad.others = bad.parts ∙ sym (append_assoc bad.before (bad.bad ∷ []) bad.others) in
    let front = right_front (bad.before ++ bad.bad ∷ []) bad.others day.types costs
    (subst (λ (rs : List (List (List ℕ))). AreRight rs day.types costs) parts right) in
    bad.wrong front.0 front.1

-- the front of a list that has fewer than another front is a front of that
record IsFront {X : Type 0} (xs ys : List X) : Type 0 where
  rest : List X
  parts : ys ≡ xs ++ rest

shorter_front : {X : Type 0} (xs ys : List X) (x y : X) (more others : List X) → xs ++ x ∷ more ≡ ys ++ y ∷ others
    → length xs < length ys → IsFront (xs ++ x ∷ []) ys
shorter_front [] [] x y more others same below = absurd (omega (arith, below))
shorter_front {X} [] (b ∷ ys) x y more others same below =
    let first : x ≡ b = cc in
    record { rest = ys; parts = ap (λ (z : X). z ∷ ys) (sym first) }
shorter_front (a ∷ xs) [] x y more others same below = absurd (omega (arith, below))
shorter_front {X} (a ∷ xs) (b ∷ ys) x y more others same below =
    let first : a ≡ b = cc in
    let rest : xs ++ x ∷ more ≡ ys ++ y ∷ others = cc in
    let front = shorter_front xs ys x y more others rest (omega (arith, below)) in
    record { rest = front.rest; parts = ap (λ (z : X). z ∷ ys) (sym first) ∙ ap (λ (zs : List X). a ∷ zs) front.parts }

not_before : (day : Day) (records : List (List (List ℕ))) (number other : ℕ) (one : IsFirstBad day records number)
    (two : IsFirstBad day records other) → length one.before < length two.before → ⊥
not_before day records number other one two below =
    let front = shorter_front one.before two.before one.bad two.bad one.others two.others (sym one.parts ∙ two.parts) below in
    let right = right_front (one.before ++ one.bad ∷ []) front.rest day.types two.costs
    (subst (λ (rs : List (List (List ℕ))). AreRight rs day.types two.costs) front.parts two.right) in
    one.wrong right.0 right.1

one_bad : (day : Day) (records : List (List (List ℕ))) (number other : ℕ) → IsFirstBad day records number
    → IsFirstBad day records other → number ≡ other
one_bad day records number other one two = elim (cases_lt (length one.before) (length two.before)) [
  | inl below ↦ absurd (not_before day records number other one two below)
  | inr past ↦ elim (cases_lt (length two.before) (length one.before)) [
    | inl below ↦ absurd (not_before day records other number two one below)
    | inr same ↦ omega (arith, past, same, one.counted, two.counted)
  ]
]

one_refusal : (day : Day) (bytes : List ℕ) (refusal other : PriceRefusal) → IsPriceRefusal day bytes refusal
    → IsPriceRefusal day bytes other → refusal ≢ NoMemory → other ≢ NoMemory → refusal ≡ other
one_refusal day bytes NoMemory other one two some more = absurd (some refl)
one_refusal day bytes refusal NoMemory one two some more = absurd (more refl)
one_refusal day bytes WrongHeader WrongHeader one two some more = refl
one_refusal day bytes WrongHeader (BadRow other) one two some more = absurd (one two.0 two.1)
one_refusal day bytes WrongHeader (MissingRow other) one two some more = absurd (one two.0 two.1)
one_refusal day bytes (BadRow number) WrongHeader one two some more = absurd (two one.0 one.1)
one_refusal day bytes (MissingRow number) WrongHeader one two some more = absurd (two one.0 one.1)
one_refusal day bytes (BadRow number) (BadRow other) one two some more =
    ap BadRow (one_bad day two.0 number other
    (subst (λ (rs : List (List (List ℕ))). IsFirstBad day rs number) (same_records bytes one.0 two.0 one.1 two.1) one.2) two.2)
one_refusal day bytes (BadRow number) (MissingRow other) one two some more =
    absurd (never_bad day two.0 two.2.costs number two.2.right
    (subst (λ (rs : List (List (List ℕ))). IsFirstBad day rs number) (same_records bytes one.0 two.0 one.1 two.1) one.2))
one_refusal day bytes (MissingRow number) (BadRow other) one two some more =
    absurd (never_bad day one.0 one.2.costs other one.2.right
    (subst (λ (rs : List (List (List ℕ))). IsFirstBad day rs other) (same_records bytes two.0 one.0 two.1 one.1) two.2))
one_refusal day bytes (MissingRow number) (MissingRow other) one two some more =
    ap MissingRow (one.2.counted ∙ ap (length {A = List (List ℕ)}) (same_records bytes one.0 two.0 one.1 two.1) ∙ sym two.2.counted)

-- a table that says prices lacks none of them
never_missing : (day : Day) (records : List (List (List ℕ))) (costs : List ℕ) (number : ℕ) → AreAllRight records day.types costs
    → IsMissing day records number → ⊥
never_missing day records costs number right missing =
    let same : missing.costs ≡ costs = same_costs records day.types missing.costs costs missing.right right.right in
    let many : length missing.costs ≡ length records = as_many records day.types missing.costs missing.right in
    omega (arith, missing.left, many, ap (length {A = ℕ}) same, right.all)

not_refused : (day : Day) (bytes prices : List ℕ) (refusal : PriceRefusal) → ArePricesOf day bytes prices
    → IsPriceRefusal day bytes refusal → refusal ≡ NoMemory
not_refused day bytes prices WrongHeader is wrong = absurd (wrong is.records is.table)
not_refused day bytes prices (BadRow number) is wrong =
    absurd (never_bad day is.records prices number is.right.right
    (subst (λ (rs : List (List (List ℕ))). IsFirstBad day rs number) (same_records bytes wrong.0 is.records wrong.1 is.table) wrong.2))
not_refused day bytes prices (MissingRow number) is wrong =
    absurd (never_missing day is.records prices number is.right
    (subst (λ (rs : List (List (List ℕ))). IsMissing day rs number) (same_records bytes wrong.0 is.records wrong.1 is.table) wrong.2))
not_refused day bytes prices NoMemory is wrong = refl

one_list : (day : Day) (bytes prices other : List ℕ) → ArePricesOf day bytes prices → ArePricesOf day bytes other → prices ≡ other
one_list day bytes prices other one two =
    same_costs two.records day.types prices other
    (subst (λ (rs : List (List (List ℕ))). AreRight rs day.types prices) (same_records bytes one.records two.records one.table two.table) one.right.right)
    two.right.right

pub prices_are_decided : PricesAreDecided
prices_are_decided day bytes = record {
  prices = one_list day bytes;
  refused = not_refused day bytes;
  refusals = one_refusal day bytes;
}
