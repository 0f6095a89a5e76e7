-- What a call answers, where a definition says what it is to be and want of memory alone is free.
use Rattle.std.specs.Prelude.{◌≡◌, Bool, true, false, List, Result, Ok, Err, ⊤}
use Rattle.std.specs.Global.{Vec}

-- one step of a definition, and then the next where it went well
infixl 10 ◌>>=◌
abbrev pub ◌>>=◌ : {A B E : Type 0} → Result A E → (A → Result B E) → Result B E
(Ok x) >>= next = next x
(Err e) >>= next = Err e

-- a fact, unless it is set free
abbrev pub Unless : Bool → Type 0 → Type 0
Unless true P = ⊤
Unless false P = P

-- a refusal is the one that the definition gives, unless it is want of memory
abbrev pub Fails : {X E : Type 0} → (E → Bool) → E → Result X E → Type 0
Fails is_memory e said = Unless (is_memory e) (said ≡ Err e)

-- an answer is the one that the definition gives, unless memory ran out
abbrev pub Gives : {X E : Type 0} → (E → Bool) → Result X E → Result X E → Type 0
Gives is_memory (Ok x) said = said ≡ Ok x
Gives is_memory (Err e) said = Fails is_memory e said

-- the same of an answer that is a vector, where the definition gives a list
abbrev pub GivesRows : {X E : Type 0} → (E → Bool) → Result (Vec X) E → Result (List X) E → Type 0
GivesRows is_memory (Ok rows) said = said ≡ Ok rows.items
GivesRows is_memory (Err e) said = Fails is_memory e said
