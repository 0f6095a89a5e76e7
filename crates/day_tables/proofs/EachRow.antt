-- A loop over the rows of a table goes on by one row.
use Rattle.std.proofs.Common.{◌≡◌, ℕ, ◌+◌, ◌<◌, List, [], ◌∷◌, ◌++◌, length, drop, replicate, get_or, ap, sym, ◌∙◌, append_assoc}
use Rattle.std.proofs.Common.{Result, Ok, Err, Bool}
use Rattle.std.proofs.lemmas.List.{drop_more}
use Rattle.rail_base.proofs.Answers.{Unless-then, Unless-from}
use Rattle.rail_base.specs.Answers.{◌>>=◌, Fails}
use Rattle.day_tables.specs.Day.{units_in}
use Rattle.day_tables.specs.Rowwise.{accept_each}
use Rattle.rules.specs.declared.records.Stock.{Stock}
use Rattle.rules.specs.declared.records.Unit.{Unit}

-- the rows from one on are that row and those after it
pub row_first : {A : Type 0} (rows : List A) (i : ℕ) (row : A) → i < length rows → row ≡ get_or rows i row → drop i rows ≡ row ∷ drop (i + 1) rows
row_first rows i row inside is = drop_more rows i row inside ∙ ap (λ first. first ∷ drop (i + 1) rows) (sym is)

-- what the first row gave is added, and what all rows give is the same
pub first_more : {A B E : Type 0} (accept : List B → A → Result B E) (before after : List B) (row : A) (later rows : List A) (b : B) (whole : Result (List B) E)
    → rows ≡ row ∷ later → accept before row ≡ Ok b → after ≡ before ++ b ∷ [] → accept_each accept before rows ≡ whole → accept_each accept after later ≡ whole
first_more {A} {B} {E} accept before after row later rows b whole is gives added so_far =
    let rest : B → Result (List B) E = λ x. accept_each accept (before ++ x ∷ []) later in
    ap (λ (bs : List B). accept_each accept bs later) added
    ∙ sym (ap (λ (r : Result B E). r >>= rest) gives)
    ∙ sym (ap (λ (those : List A). accept_each accept before those) is)
    ∙ so_far

-- what a row gave is added, and what all rows give is the same
pub one_more : {A B E : Type 0} (accept : List B → A → Result B E) (before after : List B) (rows : List A) (i : ℕ) (row : A) (b : B) (whole : Result (List B) E)
    → i < length rows → row ≡ get_or rows i row → accept before row ≡ Ok b → after ≡ before ++ b ∷ []
    → accept_each accept before (drop i rows) ≡ whole → accept_each accept after (drop (i + 1) rows) ≡ whole
one_more accept before after rows i row b whole inside is gives added so_far =
    first_more accept before after row (drop (i + 1) rows) (drop i rows) b whole (row_first rows i row inside is) gives added so_far

-- what refuses the first row refuses all
first_refused : {A B E : Type 0} (accept : List B → A → Result B E) (before : List B) (row : A) (later rows : List A) (e : E) (whole : Result (List B) E)
    → rows ≡ row ∷ later → accept before row ≡ Err e → accept_each accept before rows ≡ whole → whole ≡ Err e
first_refused {A} {B} {E} accept before row later rows e whole is refuses so_far =
    let rest : B → Result (List B) E = λ x. accept_each accept (before ++ x ∷ []) later in
    sym so_far ∙ ap (λ (those : List A). accept_each accept before those) is ∙ ap (λ (r : Result B E). r >>= rest) refuses

-- the same of an answer that want of memory sets free
pub first_fails : {A B E : Type 0} (accept : List B → A → Result B E) (is_memory : E → Bool) (before : List B) (row : A) (later rows : List A) (e : E) (whole : Result (List B) E)
    → rows ≡ row ∷ later → accept before row ≡ Err e → accept_each accept before rows ≡ whole → Fails is_memory e whole
first_fails accept is_memory before row later rows e whole is refuses so_far = Unless-from (is_memory e) (first_refused accept before row later rows e whole is refuses so_far)

-- what refuses a row refuses all
pub one_refused : {A B E : Type 0} (accept : List B → A → Result B E) (before : List B) (rows : List A) (i : ℕ) (row : A) (e : E) (whole : Result (List B) E)
    → i < length rows → row ≡ get_or rows i row → accept before row ≡ Err e → accept_each accept before (drop i rows) ≡ whole → whole ≡ Err e
one_refused accept before rows i row e whole inside is refuses so_far =
    first_refused accept before row (drop (i + 1) rows) (drop i rows) e whole (row_first rows i row inside is) refuses so_far

-- what refuses a row refuses all, unless it is want of memory
pub one_failed : {A B E : Type 0} (accept : List B → A → Result B E) (is_memory : E → Bool) (before : List B) (rows : List A) (i : ℕ) (row : A) (e : E) (whole : Result (List B) E)
    → i < length rows → row ≡ get_or rows i row → Fails is_memory e (accept before row) → accept_each accept before (drop i rows) ≡ whole → Fails is_memory e whole
one_failed accept is_memory before rows i row e whole inside is fails so_far =
    Unless-then (is_memory e) _ _ (λ refuses. one_refused accept before rows i row e whole inside is refuses so_far) fails

-- the units of a row are added, and all units are the same
pub units_more : (units after : List Unit) (stock : List Stock) (i : ℕ) (row : Stock) (whole : List Unit)
    → i < length stock → row ≡ get_or stock i row → after ≡ units ++ replicate row.start (record { unit_type = row.unit_type; home = row.station })
    → units ++ units_in (drop i stock) ≡ whole → after ++ units_in (drop (i + 1) stock) ≡ whole
units_more units after stock i row whole inside is added so_far =
    let new : List Unit = replicate row.start (record { unit_type = row.unit_type; home = row.station }) in
    ap (λ (us : List Unit). us ++ units_in (drop (i + 1) stock)) added
    ∙ append_assoc units new (units_in (drop (i + 1) stock))
    ∙ sym (ap (λ (later : List Stock). units ++ units_in later) (row_first stock i row inside is))
    ∙ so_far
