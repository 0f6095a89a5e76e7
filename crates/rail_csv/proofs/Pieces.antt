-- The pieces of a text between spaces, one after the other.
use Rattle.std.proofs.Common.{◌≡◌, ℕ, ◌+◌, ◌<◌, ◌≤◌, Bool, true, false, cond, eqb, ◌&&◌, List, [], ◌∷◌, ◌++◌, length}
use Rattle.std.proofs.Common.{take, get_or, map, Option, Some, None, if◌then◌else◌, refl, sym, ap, ◌∙◌, arith}
use Rattle.std.specs.List.{list_all, slice_split}
use Rattle.std.proofs.lemmas.List.{map_more, take_all}
use Rattle.std.proofs.lemmas.List.Folds.{list_all_more, list_all_at}
use Rattle.rail_csv.specs.Fields.{is_number, number_of, pieces_of}

-- what a text is found to spell
abbrev pub found : List ℕ → Option ℕ
found text = if is_number text then Some (number_of text) else None

pub pieces_split : (text : List ℕ) → 1 ≤ length text → pieces_of text ≡ slice_split (λ b. eqb b 32) text
pieces_split [] h = absurd (omega arith)
pieces_split (byte ∷ text) h = refl

by_test : (b : Bool) (x n : ℕ) → cond b (Some x) None ≡ Some n → (b ≡ true) × (n ≡ x)
by_test true x n e = (refl, cc)
by_test false x n e = absurd cc

by_none : (b : Bool) (x : ℕ) → cond b (Some x) None ≡ None → b ≡ false
by_none true x e = absurd cc
by_none false x e = refl

pub is_found : (text : List ℕ) (r : Option ℕ) (n : ℕ) → r ≡ found text → r ≡ Some n → (is_number text ≡ true) × (n ≡ number_of text)
is_found text r n e s = by_test (is_number text) (number_of text) n (sym e ∙ s)

pub is_lost : (text : List ℕ) (r : Option ℕ) → r ≡ found text → r ≡ None → is_number text ≡ false
is_lost text r e s = by_none (is_number text) (number_of text) (sym e ∙ s)

-- a piece that is no number
pub none_found : (pieces : List (List ℕ)) (i : ℕ) (piece : List ℕ) → (i < length pieces) × (piece ≡ get_or pieces i piece) → is_number piece ≡ false → list_all is_number pieces ≡ false
none_found pieces i piece here lost = list_all_at is_number pieces i piece here.0 (ap is_number (sym here.1) ∙ lost)

-- one more piece that is a number
pub one_more : (pieces : List (List ℕ)) (i : ℕ) (piece : List ℕ) → (i < length pieces) × (piece ≡ get_or pieces i piece) → is_number piece ≡ true
    → list_all is_number (take i pieces) ≡ true → list_all is_number (take (i + 1) pieces) ≡ true
one_more pieces i piece here good before =
    list_all_more is_number pieces i piece here.0 ∙ ap (λ (b : Bool). b && is_number (get_or pieces i piece)) before ∙ ap is_number (sym here.1) ∙ good

pub numbers_more : (pieces : List (List ℕ)) (i : ℕ) (piece : List ℕ) → (i < length pieces) × (piece ≡ get_or pieces i piece)
    → map number_of (take (i + 1) pieces) ≡ map number_of (take i pieces) ++ number_of piece ∷ []
numbers_more pieces i piece here =
    map_more number_of pieces i piece here.0 ∙ ap (λ (p : List ℕ). map number_of (take i pieces) ++ number_of p ∷ []) (sym here.1)

-- all pieces were read
pub all_found : (pieces : List (List ℕ)) (n : ℕ) (units : List ℕ) → length pieces ≤ n → list_all is_number (take n pieces) ≡ true → units ≡ map number_of (take n pieces)
    → Some units ≡ (if list_all is_number pieces then Some (map number_of pieces) else None)
all_found pieces n units le good e =
    let whole : take n pieces ≡ pieces = take_all n pieces le in
    let all : list_all is_number pieces ≡ true = ap (list_all is_number) (sym whole) ∙ good in
    rw (all, e, whole) refl

-- the piece that was read is the next one
pub at_piece : (text : List ℕ) (i : ℕ) (piece : List ℕ) → 1 ≤ length text
    → (i < length (slice_split (λ b. eqb b 32) text)) × (piece ≡ get_or (slice_split (λ b. eqb b 32) text) i piece)
    → (i < length (pieces_of text)) × (piece ≡ get_or (pieces_of text) i piece)
at_piece text i piece some here = rw (pieces_split text some) here
