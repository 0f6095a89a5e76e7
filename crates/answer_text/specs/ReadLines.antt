-- What a line is read as, word by word.
use Rattle.std.specs.Prelude.{ℕ, zero, suc, ℤ, ◌-◌, ◌+◌, ◌==◌, ◌<◌, nat_lt, List, [], ◌∷◌, ◌++◌, length, codes}
use Rattle.std.specs.Prelude.{if◌then◌else◌, Option, Some, None}
use Rattle.std.specs.List.{AllByRecursion}
use Rattle.std.specs.Str.{bytes_eq}
use Rattle.rail_base.specs.Times.{colon}
use Rattle.rail_base.specs.declared.limits.TheConstants.{MAX_BRANCHINGS, MAX_COMPOSITION_UNITS, MAX_COMPOSITIONS}
use Rattle.rail_base.specs.declared.limits.TheConstants.{MAX_ENTRIES, MAX_MULTIPLIER, MAX_TRIPS, MAX_TYPES, MAX_UNITS}
use Rattle.branch_tree.specs.declared.cuts.Cut.TheVariants.{Only, AtMost}
use Rattle.branch_tree.specs.declared.multipliers.Entry.{Entry}
use Rattle.branch_tree.specs.declared.tree.Node.{Node}
use Rattle.branch_tree.specs.declared.tree.Node.TheVariants.{Branch, CostLeaf, RayLeaf, EmptyLeaf}
use Rattle.rules.specs.declared.heads.Head.{Head}
use Rattle.rules.specs.declared.heads.Head.TheVariants.{Optimal, Infeasible, Bounded, BoundedPlan}
use Rattle.answer_text.specs.declared.limits.TheConstants.{MAX_AMOUNT, MAX_INDEX}
use Rattle.answer_text.specs.Pieces.{pieces}
use Rattle.answer_text.specs.Numbers.{◌>>=◌, number_in, nonzero_in, next_number, next_signed, at_end}

-- the next word is this one: the words behind it
unfoldable pub next_is : List ℕ → List (List ℕ) → Option (List (List ℕ))
next_is wanted [] = None
next_is wanted (word ∷ words) = if bytes_eq word wanted then Some words else None

-- ---- what the answer says

unfoldable pub optimal_in : List (List ℕ) → Option Head
optimal_in words = do
  cost ← next_signed MAX_AMOUNT words
  at_end cost.1 (Optimal (record { 0 = cost.0 }))

unfoldable pub bounded_plan_in : ℤ → List (List ℕ) → Option Head
bounded_plan_in bound words = do
  rest ← next_is (codes "plan") words
  cost ← next_signed MAX_AMOUNT rest
  at_end cost.1 (BoundedPlan (record { 0 = bound }) (record { 0 = cost.0 }))

unfoldable pub bounded_in : List (List ℕ) → Option Head
bounded_in words = next_signed MAX_AMOUNT words >>= λ bound.
    if length bound.1 == 0 then Some (Bounded (record { 0 = bound.0 })) else bounded_plan_in bound.0 bound.1

unfoldable pub head_in : List (List ℕ) → Option Head
head_in [] = None
head_in (word ∷ words) =
    if bytes_eq word (codes "optimal") then optimal_in words
    else if bytes_eq word (codes "infeasible") then at_end words Infeasible
    else if bytes_eq word (codes "bounded") then bounded_in words
    else None

-- ---- the number of branchings

unfoldable pub branchings_in : List (List ℕ) → Option ℕ
branchings_in words = do
  rest ← next_is (codes "branchings") words
  number ← next_number MAX_BRANCHINGS rest
  at_end number.1 number.0

-- ---- a run

-- the units before, and so many more at most
unfoldable pub units_in : ℕ → List ℕ → List (List ℕ) → Option (List ℕ)
units_in room units [] = Some units
units_in zero units (word ∷ words) = None
units_in (suc room) units (word ∷ words) =
    number_in (MAX_UNITS - 1) word >>= λ unit. units_in room (units ++ unit ∷ []) words

-- the run of the trip of this number
unfoldable pub run_in : ℕ → List (List ℕ) → Option (List ℕ)
run_in trip words = do
  rest ← next_is (codes "run") words
  number ← next_number MAX_TRIPS rest
  if number.0 == trip then units_in MAX_COMPOSITION_UNITS [] number.1 else None

-- ---- a node

unfoldable pub only_in : List (List ℕ) → Option Node
only_in words = do
  trip ← next_number (MAX_TRIPS - 1) words
  comp ← next_number (MAX_COMPOSITIONS - 1) trip.1
  at_end comp.1 (Branch (Only trip.0 comp.0))

unfoldable pub most_in : List (List ℕ) → Option Node
most_in words = do
  trip ← next_number (MAX_TRIPS - 1) words
  unit_type ← next_number (MAX_TYPES - 1) trip.1
  count ← next_number (MAX_COMPOSITION_UNITS - 1) unit_type.1
  at_end count.1 (Branch (AtMost trip.0 unit_type.0 count.0))

-- an index and a value with a colon between
unfoldable pub entry_of : List ℕ → List (List ℕ) → Option Entry
entry_of index [] = None
entry_of index (value ∷ more) =
    if length more == 0
    then (number_in MAX_INDEX index >>= λ number. nonzero_in MAX_MULTIPLIER value >>= λ amount.
    Some (record { index = number; value = amount }))
    else None

unfoldable pub entry_in : List (List ℕ) → Option Entry
entry_in [] = None
entry_in (index ∷ more) = entry_of index more

-- the next word as an entry, and the words after it
unfoldable pub next_entry : List (List ℕ) → Option (Entry × List (List ℕ))
next_entry [] = None
next_entry (word ∷ words) = entry_in (pieces colon word) >>= λ entry. Some (entry, words)

-- all indices are below this one
abbrev pub AreBelow : ℕ → List Entry → Type 0
AreBelow least entries = AllByRecursion (λ entry. entry.index < least) entries

-- the entries before, and so many more, with rising indices from the least one on
unfoldable pub entries_in : ℕ → ℕ → List Entry → List (List ℕ) → Option (List Entry)
entries_in zero least entries words = at_end words entries
entries_in (suc count) least entries words = next_entry words >>= λ next.
    if nat_lt next.0.index least then None
    else entries_in count (next.0.index + 1) (entries ++ next.0 ∷ []) next.1

-- the number of entries and the entries
unfoldable pub counted_in : List (List ℕ) → Option (List Entry)
counted_in words = do
  count ← next_number MAX_ENTRIES words
  entries_in count.0 0 [] count.1

unfoldable pub cost_in : List (List ℕ) → Option Node
cost_in words = do
  bound ← next_signed MAX_AMOUNT words
  entries ← counted_in bound.1
  Some (CostLeaf (record { 0 = bound.0 }) entries)

unfoldable pub ray_in : List (List ℕ) → Option Node
ray_in words = do
  entries ← counted_in words
  Some (RayLeaf entries)

unfoldable pub empty_in : List (List ℕ) → Option Node
empty_in words = at_end words EmptyLeaf

unfoldable pub node_in : List (List ℕ) → Option Node
node_in [] = None
node_in (word ∷ words) =
    if bytes_eq word (codes "only") then only_in words
    else if bytes_eq word (codes "most") then most_in words
    else if bytes_eq word (codes "cost") then cost_in words
    else if bytes_eq word (codes "ray") then ray_in words
    else if bytes_eq word (codes "empty") then empty_in words
    else None
