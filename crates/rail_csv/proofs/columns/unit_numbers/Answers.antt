use Rattle.std.proofs.Common.{◌∙◌, length, refl, ap, arith}
use Rattle.std.proofs.lemmas.Iterator.Splits.{YieldsList-from_str_split}
use Rattle.std.proofs.lemmas.Iterator.Consumers.{YieldsList-turn, YieldsList-end}
use Rattle.std.proofs.lemmas.List.{length_push}
use Rattle.rail_csv.specs.Fields.{pieces_of}
use Rattle.rail_csv.proofs.Pieces.{found, pieces_split, at_piece, is_found, is_lost, none_found, one_more, numbers_more}
use Rattle.rail_csv.proofs.Pieces.{all_found}
use Rattle.rail_csv.proofs.columns.unit_numbers.Goals as goal

pub returns-in_default : goal.returns-in_default
returns-in_default c =
    let turn = YieldsList-turn (YieldsList-from_str_split 32 c.args.text.now (omega arith) (cc) (cc) (cc)) c.loop-piece.yielded _ c.loop-piece.yielded_by _ _ c.in-Some.piece c.in-Some.is c.next.ensures.steps in
    let here = at_piece c.args.text.now (length c.loop-piece.yielded) c.in-Some.piece.now c.requires turn in
    let lost = is_lost c.in-Some.piece.now c.number_of.result (c.number_of.ensures ∙ ap found c.as_bytes.ensures.value) c.in_default.is in
    let none = none_found (pieces_of c.args.text.now) (length c.loop-piece.yielded) c.in-Some.piece.now here lost in
    rw none refl

pub loop-piece-preserved : goal.loop-piece-preserved
loop-piece-preserved c =
    let turn = YieldsList-turn (YieldsList-from_str_split 32 c.args.text.now (omega arith) (cc) (cc) (cc)) c.loop-piece.yielded _ c.loop-piece.yielded_by _ _ c.in-Some.piece c.in-Some.is c.next.ensures.steps in
    let here = at_piece c.args.text.now (length c.loop-piece.yielded) c.in-Some.piece.now c.requires turn in
    let known = is_found c.in-Some.piece.now c.number_of.result c.in-Some-number_of.number (c.number_of.ensures ∙ ap found c.as_bytes.ensures.value) c.in-Some-number_of.is in
    let more = length_push c.loop-piece.yielded c.in-Some.piece in
    let one = numbers_more (pieces_of c.args.text.now) (length c.loop-piece.yielded) c.in-Some.piece.now here in
    record {
      numbers = rw more (one_more (pieces_of c.args.text.now) (length c.loop-piece.yielded) c.in-Some.piece.now here known.0 c.loop-piece.invariant.numbers);
      units = rw more (cc (known.1, c.loop-piece.invariant.units, c.in_ok-push.ensures.items, one));
    }

pub returns : goal.returns
returns c =
    let ended = YieldsList-end (YieldsList-from_str_split 32 c.args.text.now (omega arith) (cc) (cc) (cc)) c.loop-piece.yielded _ c.loop-piece.yielded_by _ _ c.in-None.is c.next.ensures.steps in
    all_found (pieces_of c.args.text.now) (length c.loop-piece.yielded) c.loop-piece.units.items (omega (arith, ended.1, ap length (pieces_split c.args.text.now c.requires))) c.loop-piece.invariant.numbers c.loop-piece.invariant.units
