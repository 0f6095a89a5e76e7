use Rattle.std.proofs.Common.{◌≡◌, length, get_or, subst, ap, ◌∙◌, arith}
use Rattle.std.proofs.lemmas.List.Edits.{get_or-insert_at, length-insert}
use Rattle.search.specs.Frontiers.{IsEntered}
use Rattle.search.proofs.Returning.{on_ok_both, on_ok_known}
use Rattle.search.proofs.solving.Search.put_node.Goals as goal

pub index-requires : goal.index-requires
index-requires g c = omega (arith, ap length c.in_ok-insert.ensures.items, length-insert c.args.self.now.nodes.items c.args.node.place c.in_ok-made.made c.requires.next.place, c.requires.next.place)

pub returns-clause-put : goal.returns-clause-put
returns-clause-put g c =
    let here : c.index.result.now ≡ c.in_ok-made.made =
    c.index.ensures ∙ (ap (λ nodes. get_or nodes c.args.node.place c.index.result.now) c.in_ok-insert.ensures.items ∙
    get_or-insert_at c.args.self.now.nodes.items c.args.node.place c.in_ok-made.made c.index.result.now c.requires.next.place) in
    on_ok_both c.enter.result c.enter.ensures.node c.enter.ensures.others (λ entered others. record {
      leaf = c.in_ok-made.made;
      known = c.in_ok-made.ensures.leaf;
      made = c.in_ok-made.ensures.made;
      nodes = c.in_ok-insert.ensures.items;
      entered = λ best. subst (λ node. IsEntered best c.enter.new.self node) here (entered best);
      others = others;
    })

pub returns-clause-offered : goal.returns-clause-offered
returns-clause-offered g c = on_ok_known c.enter.result c.in_ok-made.ensures.offered

pub returns-clause-accepted : goal.returns-clause-accepted
returns-clause-accepted g c = on_ok_known c.enter.result c.in_ok-made.ensures.accepted
