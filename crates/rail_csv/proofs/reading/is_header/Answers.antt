use Rattle.std.proofs.Common.{◌≡◌, [], get_or, sym, ◌∙◌, arith}
use borrow.Author.Count.{below_more}
use Rattle.csv.specs.Records.{fields_of}
use Rattle.rail_csv.proofs.Headers.{words, as_many, word_at, test_differs, test_agrees, too_few, too_many_fields}
use Rattle.rail_csv.proofs.Headers.{not_header, same_header}
use Rattle.rail_csv.proofs.reading.is_header.Goals as goal

pub returns-then-width-fewest : goal.returns-then-width-fewest
returns-then-width-fewest c = too_few (words c.args.words.now) c.args.fewest (fields_of c.args.found.now) (omega (arith, c.len-width.ensures))

pub returns-then-width-words : goal.returns-then-width-words
returns-then-width-words c = too_many_fields (words c.args.words.now) c.args.fewest (fields_of c.args.found.now) (omega (arith, c.len-width.ensures, as_many c.args.words.now))

pub returns-then-ne : goal.returns-then-ne
returns-then-ne c =
    let column = c.loop-column.column in
    not_header (words c.args.words.now) c.args.fewest (fields_of c.args.found.now) column (omega (arith, c.len-width.ensures)) (λ same.
    test_differs c.field_bytes.result.now c.as_bytes.result.now c.ne.result c.ne.ensures c.if-ne.true
    (c.field_bytes.ensures ∙ same ∙ word_at c.args.words.now column _ (omega arith) ∙ sym c.as_bytes.ensures.value))

pub loop-column-preserved : goal.loop-column-preserved
loop-column-preserved c =
    let column = c.loop-column.column in
    let same = test_agrees c.field_bytes.result.now c.as_bytes.result.now c.ne.result c.ne.ensures c.if-ne.false in
    below_more (λ k. get_or (fields_of c.args.found.now) k [] ≡ get_or (words c.args.words.now) k []) column c.loop-column.invariant
    (sym c.field_bytes.ensures ∙ same ∙ c.as_bytes.ensures.value ∙ sym (word_at c.args.words.now column _ (omega arith)))

pub returns : goal.returns
returns c =
    same_header (words c.args.words.now) c.args.fewest (fields_of c.args.found.now) (omega (arith, c.len-width.ensures)) (omega (arith, c.len-width.ensures, as_many c.args.words.now))
    (λ k lt. c.loop-column.invariant k (omega (arith, c.len-width.ensures)))
