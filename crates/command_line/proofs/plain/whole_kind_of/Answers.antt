use Rattle.std.proofs.Common.{◌≡◌, ◌∙◌, sym, refl, ap, ℕ, Bool, true, false, List, length, take, nat_eq, bytes_eq, codes}
use Rattle.std.proofs.lemmas.Slice.Eq.{bytes_eq-Decides}
use Rattle.std.specs.List.{starts_with}
use Rattle.command_line.specs.Parts.{begins_with}
use Rattle.command_line.proofs.plain.whole_kind_of.Goals as goal

turned : (xs ys : List ℕ) → bytes_eq xs ys ≡ true → bytes_eq ys xs ≡ true
turned xs ys is = (bytes_eq-Decides ys xs).1 (sym ((bytes_eq-Decides xs ys).0 is))

swapped : (xs ys : List ℕ) (same other : Bool) → bytes_eq xs ys ≡ same → bytes_eq ys xs ≡ other → other ≡ same
swapped xs ys true other is e = sym e ∙ turned xs ys is
swapped xs ys false true is e = sym (turned ys xs e) ∙ is
swapped xs ys false false is e = refl

-- what a word begins with
begins : (front word bytes : List ℕ) (found is : Bool) → bytes ≡ word → found ≡ starts_with nat_eq bytes front → found ≡ is
    → begins_with front word ≡ is
begins front word bytes found is same value known = swapped front (take (length front) word) is (begins_with front word)
    (ap (λ (read : List ℕ). starts_with nat_eq read front) (sym same) ∙ sym value ∙ known) refl

pub returns-then-starts_with : goal.returns-then-starts_with
returns-then-starts_with c =
    let nodes = begins (codes "--nodes=") c.args.word.now c.as_bytes.result.now c.starts_with.result true
    c.as_bytes.ensures.value c.starts_with.ensures.value c.if-starts_with.true in
    rw nodes refl

pub returns-then-starts_with-2 : goal.returns-then-starts_with-2
returns-then-starts_with-2 c =
    let nodes = begins (codes "--nodes=") c.args.word.now c.as_bytes.result.now c.starts_with.result false
    c.as_bytes.ensures.value c.starts_with.ensures.value c.if-starts_with.false in
    let rounds = begins (codes "--rounds=") c.args.word.now c.as_bytes-2.result.now c.starts_with-2.result true
    c.as_bytes-2.ensures.value c.starts_with-2.ensures.value c.if-starts_with-2.true in
    rw (nodes, rounds) refl

pub returns : goal.returns
returns c =
    let nodes = begins (codes "--nodes=") c.args.word.now c.as_bytes.result.now c.starts_with.result false
    c.as_bytes.ensures.value c.starts_with.ensures.value c.if-starts_with.false in
    let rounds = begins (codes "--rounds=") c.args.word.now c.as_bytes-2.result.now c.starts_with-2.result false
    c.as_bytes-2.ensures.value c.starts_with-2.ensures.value c.if-starts_with-2.false in
    rw (nodes, rounds) refl
