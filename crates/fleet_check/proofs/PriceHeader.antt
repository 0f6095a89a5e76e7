-- The header of the table of prices.
use Rattle.std.proofs.Common.{◌≡◌, ℕ, true, false, List, [], ◌∷◌, length, take, Some, refl, sym, ap, ◌∙◌, subst, arith}
use Rattle.std.proofs.lemmas.Bool.{false≢true}
use Rattle.rail_csv.specs.Tables.{is_header}
use Rattle.rail_csv.proofs.Headers.{has_header}
use Rattle.fleet_check.specs.PriceTables.{price_header}

-- a record that is taken for the header is the header
pub taken_for_header : (fields : List (List ℕ)) → is_header price_header 2 fields ≡ true → fields ≡ price_header
taken_for_header fields is =
    let has = has_header price_header 2 fields [] is in
    let two : length price_header ≡ 2 = refl in
    let wide : length fields ≡ 2 = omega (arith, has.least, has.most) in
    same (subst (λ (n : ℕ). Some fields ≡ Some (take n price_header)) wide has.header)
  where
    same : Some fields ≡ Some price_header → fields ≡ price_header
    same e = cc

-- the header is taken for it
pub header_is_taken : is_header price_header 2 price_header ≡ true
header_is_taken = refl

-- and a record that is not taken for it is another
pub other_record : (fields : List (List ℕ)) (records others : List (List (List ℕ))) → is_header price_header 2 fields ≡ false → ¬ (fields ∷ others ≡ price_header ∷ records)
other_record fields records others not_taken e =
    let same : fields ≡ price_header = cc in
    false≢true (sym not_taken ∙ ap (is_header price_header 2) same ∙ header_is_taken)
