-- The rows after one more use of an argument that was not used before.
use Rattle.std.proofs.Common.{◌≡◌, ◌∙◌, refl, ap, sym, List, [], ◌∷◌, ◌++◌, Bool, true, false, Some, None, cond, Option}
use Rattle.std.specs.Prelude.{◌||◌, slice_get, option_and_then}
use Rattle.std.specs.Str.{bytes_eq}
use Rattle.std.proofs.lemmas.Bool.{or_parts}
use Rattle.clap.specs.declared.parser.matches.ValueSource.TheVariants.{CommandLine}
use Rattle.clap.specs.declared.builder.value_parser.Reading.{Reading}
use Rattle.clap.specs.Walk.{Row, Text, at_row, more_values, without, with_values, has_row}

-- one use, of an argument with one value
abbrev pub put : Text → Reading → Text → List Row → List Row
put id how v rows = with_values id how CommandLine (v ∷ []) (without id rows)

abbrev pub one_row : Text → Reading → Text → Row
one_row id how v = record { id = id; values = v ∷ []; count = None; source = Some CommandLine; reading = how }

-- a change at an id that no row has
at_no_row : (id : Text) (change : Row → List Row) (missing rows : List Row) → has_row id rows ≡ false
    → at_row id change missing rows ≡ rows ++ missing
at_no_row id change missing [] new = refl
at_no_row id change missing (r ∷ rs) new =
    let (here, later) = or_parts (bytes_eq r.id id) (has_row id rs) new in
    ap (λ (b : Bool). cond b (change r ++ rs) (r ∷ at_row id change missing rs)) here
    ∙ ap (λ (rows : List Row). r ∷ rows) (at_no_row id change missing rs later)

append_nothing : (rows : List Row) → rows ++ [] ≡ rows
append_nothing [] = refl
append_nothing (r ∷ rs) = ap (λ (rows : List Row). r ∷ rows) (append_nothing rs)

-- the first use of an argument is one more row
pub put_is : (id : Text) (how : Reading) (v : Text) (rows : List Row) → has_row id rows ≡ false
    → put id how v rows ≡ rows ++ one_row id how v ∷ []
put_is id how v rows new =
    ap (λ (left : List Row). with_values id how CommandLine (v ∷ []) left)
    (at_no_row id (λ _. []) [] rows new ∙ append_nothing rows)
    ∙ at_no_row id (more_values CommandLine (v ∷ [])) (one_row id how v ∷ []) rows new

-- what is there afterwards
pub has_row-more : (asked id : Text) (how : Reading) (v : Text) (rows : List Row)
    → has_row asked (rows ++ one_row id how v ∷ []) ≡ (has_row asked rows || bytes_eq id asked)
has_row-more asked id how v [] = or_false (bytes_eq id asked)
  where
    or_false : (b : Bool) → (b || false) ≡ b
    or_false true = refl
    or_false false = refl
has_row-more asked id how v (r ∷ rs) =
    ap (λ (b : Bool). bytes_eq r.id asked || b) (has_row-more asked id how v rs)
    ∙ sym (or_assoc (bytes_eq r.id asked) (has_row asked rs) (bytes_eq id asked))
  where
    or_assoc : (a b c : Bool) → (a || b || c) ≡ (a || (b || c))
    or_assoc true b c = refl
    or_assoc false b c = refl

-- the first value of a row
abbrev pub value_in : Option Row → Option Text
value_in found = option_and_then (λ r. slice_get r.values 0) found
