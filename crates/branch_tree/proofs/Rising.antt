-- Entries with rising indices: their heads and tails, and an index on either side of a place.
use Rattle.std.proofs.Common.{◌≡◌, ◌≢◌, ℕ, zero, suc, ◌+◌, ◌<◌, ◌≤◌, List, [], ◌∷◌, ◌++◌, length, get_or, All, pos}
use Rattle.std.proofs.Common.{refl, sym, ap, subst, arith, ⊎_elim}
use Rattle.std.proofs.lemmas.Bool.{cases_lt}
use Rattle.std.proofs.lemmas.List.Elements.{All-append, All-cons, All-nil, All-head, All-tail}
use Rattle.std.proofs.lemmas.List.{length-append}
use Rattle.rail_base.specs.declared.limits.TheConstants.{MAX_SLACKS}
use Rattle.branch_tree.specs.declared.multipliers.Entry.{Entry}
use Rattle.branch_tree.specs.Entries.{AreRising, AreSlackEntries, IsPastLast}

-- the index at a place does not depend on what is read past the end
pub same_read : (entries : List Entry) (place : ℕ) (d e : Entry) → place < length entries → get_or entries place d ≡ get_or entries place e
same_read [] place d e below = absurd (omega (arith, below))
same_read (entry ∷ entries) zero d e below = refl
same_read (entry ∷ entries) (suc place) d e below = same_read entries place d e (omega (arith, below))

pub rising-tail : (entry : Entry) (entries : List Entry) → AreRising (entry ∷ entries) → AreRising entries
rising-tail entry entries rising = λ i j d less inside. rising (suc i) (suc j) d (omega (arith, less)) (omega (arith, inside))

pub rising-head : (entry : Entry) (entries : List Entry) → AreRising (entry ∷ entries) → All (λ other. entry.index < other.index) entries
rising-head entry entries rising = λ k d inside. rising 0 (suc k) d (omega arith) (omega (arith, inside))

pub rising-cons : (entry : Entry) (entries : List Entry) → All (λ other. entry.index < other.index) entries → AreRising entries → AreRising (entry ∷ entries)
rising-cons entry entries above rising zero zero d less inside = absurd (omega (arith, less))
rising-cons entry entries above rising zero (suc j) d less inside = above j d (omega (arith, inside))
rising-cons entry entries above rising (suc i) zero d less inside = absurd (omega (arith, less))
rising-cons entry entries above rising (suc i) (suc j) d less inside = rising i j d (omega (arith, less)) (omega (arith, inside))

-- where the entry at a place has a lower index, so have those up to it
pub rising-before : (entries : List Entry) (index place : ℕ) (e : Entry) → AreRising entries → place < length entries → (get_or entries place e).index < index →
    (k : ℕ) (d : Entry) → k < place + 1 → (get_or entries k d).index < index
rising-before entries index place e rising inside low k d less =
    let same : get_or entries place d ≡ get_or entries place e = same_read entries place d e inside in
    ⊎_elim
    (λ before. omega (arith, rising k place d before inside, ap (λ entry. entry.index) same))
    (λ past. let at : k ≡ place = omega (arith, past, less) in
    omega (arith, ap (λ n. (get_or entries n d).index) at, ap (λ entry. entry.index) same))
    (cases_lt k place)

-- where the entry at a place has no lower index, neither have those from it on
pub rising-after : (entries : List Entry) (index place : ℕ) (e : Entry) → AreRising entries → place < length entries → index ≤ (get_or entries place e).index →
    (k : ℕ) (d : Entry) → place ≤ k → k < length entries → index ≤ (get_or entries k d).index
rising-after entries index place e rising inside high k d from within =
    let same : get_or entries place d ≡ get_or entries place e = same_read entries place d e inside in
    ⊎_elim
    (λ beyond. omega (arith, rising place k d beyond within, ap (λ entry. entry.index) same))
    (λ past. let at : k ≡ place = omega (arith, past, from) in
    omega (arith, ap (λ n. (get_or entries n d).index) at, ap (λ entry. entry.index) same))
    (cases_lt place k)

-- an index past that of the last entry is past those of all
pub past_all : (entries : List Entry) (index : ℕ) → AreRising entries → IsPastLast entries index → All (λ entry. entry.index < index) entries
past_all [] index rising past = All-nil (λ entry. entry.index < index)
past_all (entry ∷ []) index rising past = All-cons (λ e. e.index < index) entry [] past (All-nil (λ e. e.index < index))
past_all (entry ∷ next ∷ entries) index rising past =
    let rest : All (λ e. e.index < index) (next ∷ entries) = past_all (next ∷ entries) index (rising-tail entry (next ∷ entries) rising) past in
    All-cons (λ e. e.index < index) entry (next ∷ entries) (omega (arith, rising-head entry (next ∷ entries) rising 0 next (omega arith), All-head (λ e. e.index < index) next entries rest)) rest

rising-push : (entries : List Entry) (new : Entry) → AreRising entries → All (λ entry. entry.index < new.index) entries → AreRising (entries ++ new ∷ [])
rising-push [] new rising below = rising-cons new [] (All-nil (λ other. new.index < other.index)) rising
rising-push (entry ∷ entries) new rising below =
    rising-cons entry (entries ++ new ∷ [])
    (All-append (λ other. entry.index < other.index) entries (new ∷ []) (rising-head entry entries rising)
    (All-cons (λ other. entry.index < other.index) new [] (All-head (λ e. e.index < new.index) entry entries below) (All-nil (λ other. entry.index < other.index))))
    (rising-push entries new (rising-tail entry entries rising) (All-tail (λ e. e.index < new.index) entry entries below))

-- slacks with one more at the end
pub slacks-push : (old new : List Entry) (entry : Entry) → AreSlackEntries old → IsPastLast old entry.index → entry.value ≢ pos 0 → length old < MAX_SLACKS →
    new ≡ old ++ entry ∷ [] → AreSlackEntries new
slacks-push old new entry slacks past some room is =
    subst AreSlackEntries (sym is) (record {
      rising = rising-push old entry slacks.rising (past_all old entry.index slacks.rising past);
      not_zero = All-append (λ e. e.value ≢ pos 0) old (entry ∷ []) slacks.not_zero (All-cons (λ e. e.value ≢ pos 0) entry [] some (All-nil (λ e. e.value ≢ pos 0)));
      few = omega (arith, room, length-append old (entry ∷ []));
    })
