-- The names of the trips: they are names by the rule of the tables, and no two trips have one name.
use Rattle.std.proofs.Common.{◌≡◌, ◌≢◌, ℕ, suc, ◌+◌, ◌<◌, ◌≤◌, ◌-◌, ◌%◌, ◌^◌, true, List, [], ◌∷◌, ◌++◌, length, get_or}
use Rattle.std.proofs.Common.{refl, sym, ap, subst, ◌∙◌, arith}
use Rattle.std.specs.Prelude.{not, ◌==◌, nat_le}
use Rattle.std.specs.List.{list_all}
use Rattle.std.specs.Fmt.{decimal}
use Rattle.std.proofs.lemmas.Bool.{and_from, le-leb, ne_eqb, not_from_false}
use Rattle.std.proofs.lemmas.Fmt.{decimal_by_steps, decimal_injective, length-decimal-le}
use Rattle.std.proofs.lemmas.List.{get_or_push, length_push}
use Rattle.std.proofs.lemmas.List.Folds.{list_all-append}
use Rattle.std.proofs.Math.Nat.{mod-lt}
use Rattle.rail_base.specs.Names.{is_name, is_name_byte}
use Rattle.trial_day.specs.Trial.{out_name, back_name}

-- bytes of a name, of which the last is no space
record IsTail (bytes : List ℕ) : Type 0 where
  fine : list_all is_name_byte bytes ≡ true
  some : 0 < length bytes
  last : get_or bytes (length bytes - 1) 0 ≢ 32

digit_byte : (d : ℕ) → d < 10 → is_name_byte (48 + d) ≡ true
digit_byte d small = and_from (nat_le 32 (48 + d)) (not ((48 + d) == 127)) (le-leb 32 (48 + d) (omega arith)) (not_from_false ((48 + d) == 127) (ne_eqb (48 + d) 127 (λ e. absurd (omega (arith, e)))))

one_digit : (n : ℕ) → n < 10 → IsTail ((48 + n) ∷ [])
one_digit n small = record {
  fine = and_from (is_name_byte (48 + n)) true (digit_byte n small) refl;
  some = omega arith;
  last = λ e. absurd (omega (arith, e));
}

more_digits : (n : ℕ) (ds : List ℕ) → 10 ≤ n → IsTail ds → IsTail (ds ++ ((48 + n % 10) ∷ []))
more_digits n ds large tail =
    let small : n % 10 < 10 = mod-lt n (omega arith) in
    let one : IsTail ((48 + n % 10) ∷ []) = one_digit (n % 10) small in
    let ends : length (ds ++ (48 + n % 10) ∷ []) - 1 ≡ length ds = omega (arith, length_push ds (48 + n % 10)) in
    record {
      fine = list_all-append is_name_byte ds ((48 + n % 10) ∷ []) ∙ and_from (list_all is_name_byte ds) (list_all is_name_byte ((48 + n % 10) ∷ [])) tail.fine one.fine;
      some = omega (arith, length_push ds (48 + n % 10));
      last = λ e. one.last (sym (ap (λ (k : ℕ). get_or (ds ++ (48 + n % 10) ∷ []) k 0) ends ∙ get_or_push ds (48 + n % 10) 0 (length ds) refl) ∙ e);
    }

digits_tail : (n : ℕ) → n < 2 ^ 64 → IsTail (decimal n)
digits_tail n small = decimal_by_steps (λ _ ds. IsTail ds) one_digit more_digits n small

-- a letter, and a number in decimal digits
lettered_name : (letter : ℕ) (ds : List ℕ) → is_name_byte letter ≡ true → letter ≢ 32 → IsTail ds → length ds ≤ 10 → is_name (letter ∷ ds) ≡ true
unfolding is_name
lettered_name letter [] fine no_space tail few = absurd (omega (arith, tail.some))
lettered_name letter (d ∷ ds) fine no_space tail few =
    let bytes : List ℕ = letter ∷ d ∷ ds in
    let ends : suc (length (d ∷ ds) - 1) ≡ length bytes - 1 = omega arith in
    let last : get_or bytes (length bytes - 1) 0 ≢ 32 = subst (λ (k : ℕ). get_or bytes k 0 ≢ 32) ends tail.last in
    and_from _ _ (and_from _ _ (and_from _ _ (and_from _ _ (le-leb 1 (length bytes) (omega arith)) (le-leb (length bytes) 64 (omega arith)))
    (and_from _ _ fine tail.fine))
    (not_from_false (letter == 32) (ne_eqb letter 32 no_space)))
    (not_from_false _ (ne_eqb _ 32 last))

pub out_is_name : (pair : ℕ) → pair < 2 ^ 32 → is_name (out_name pair) ≡ true
out_is_name pair small = lettered_name 70 (decimal pair) refl (λ e. absurd (omega (arith, e))) (digits_tail pair (omega arith)) (length-decimal-le 10 pair (omega arith) (omega arith) (omega arith))

pub back_is_name : (pair : ℕ) → pair < 2 ^ 32 → is_name (back_name pair) ≡ true
back_is_name pair small = lettered_name 82 (decimal pair) refl (λ e. absurd (omega (arith, e))) (digits_tail pair (omega arith)) (length-decimal-le 10 pair (omega arith) (omega arith) (omega arith))

-- ---- names apart

tail_of : List ℕ → List ℕ
tail_of [] = []
tail_of (x ∷ xs) = xs

pub out_apart : (i j : ℕ) → i < 2 ^ 32 → j < 2 ^ 32 → out_name i ≡ out_name j → i ≡ j
unfolding tail_of
out_apart i j small_i small_j e = decimal_injective i j (omega arith) (omega arith) (ap tail_of e)

pub back_apart : (i j : ℕ) → i < 2 ^ 32 → j < 2 ^ 32 → back_name i ≡ back_name j → i ≡ j
unfolding tail_of
back_apart i j small_i small_j e = decimal_injective i j (omega arith) (omega arith) (ap tail_of e)

pub out_not_back : (i j : ℕ) → out_name i ≡ back_name j → ⊥
out_not_back i j e = let same : 70 ≡ 82 = ap (λ (bytes : List ℕ). get_or bytes 0 0) e in absurd (omega (arith, same))
