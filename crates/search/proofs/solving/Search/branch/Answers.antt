use Rattle.std.proofs.Common.{◌≡◌, ℕ, ◌+◌, ◌*◌, ◌≤◌, All, length, set, if◌then◌else◌, subst, sym, ap, ◌∙◌, arith}
use Rattle.std.proofs.lemmas.List.{length-set}
use Rattle.std.proofs.lemmas.List.Edits.{length-insert}
use Rattle.branch_tree.specs.Claims.{is_open}
use Rattle.branch_tree.specs.Meanings.{DoFitFor}
use Rattle.branch_tree.specs.Trees.{branchings_of}
use Rattle.branch_tree.specs.declared.tree.Node.TheVariants.{Branch}
use Rattle.search.specs.declared.nodes.SearchNode.TheVariants.{Fixed}
use Rattle.search.specs.Ends.{made_or_open}
use Rattle.search.specs.Frontiers.{IsEntered}
use Rattle.search.specs.Nodes.{IsLeafOf, IsSearched, branched, tree_node, tree_nodes}
use Rattle.search.specs.Offers.{IsOffered}
use Rattle.search.specs.Putting.{IsMade, IsNumbered}
use Rattle.search.specs.Conclusions.{plan_in}
use Rattle.search.proofs.Asking.{may_be_asked_yet, only_asked_again, only_asked_within, only_unasked}
use Rattle.search.proofs.Counting.{asked_for_both, asked_if_open}
use Rattle.search.proofs.Entering.{entered_on}
use Rattle.search.proofs.Growing.{after_branch, branchings_after, kept_up, put_after, sides_within}
use Rattle.search.proofs.Returning.{on_ok_both}
use Rattle.search.proofs.solving.Search.branch.Goals as goal

pub returns-in_err-division-clause-advisors : goal.returns-in_err-division-clause-advisors
returns-in_err-division-clause-advisors g c = only_unasked _ _ _ (2 * c.args.terms.now.allowed.rounds) c.args.advisors.now.items

pub divide_at-requires-clause-searched : goal.divide_at-requires-clause-searched
divide_at-requires-clause-searched g c = (c.args.terms.now.root.now, c.requires.under_way.searched)

pub put_node-requires-clause-node : goal.put_node-requires-clause-node
put_node-requires-clause-node g c = record {
  sets = c.in_ok-division.ensures.left_sets;
  within = (sides_within _ c.args.terms.now.root.now _ _ _ _ c.in_ok-division.ensures c.requires.under_way.searched).0;
  fits = c.in_ok-division.ensures.fits;
}

pub put_node-requires-2-clause-node : goal.put_node-requires-2-clause-node
put_node-requires-2-clause-node g c =
    let same = sym c.put_node.ensures.same in
    record {
      sets = c.in_ok-division.ensures.right_sets ∙ ap (λ p. (g.R.Relaxation.meanings p).trips) same;
      within = (sides_within _ c.args.terms.now.root.now _ _ _ _ c.in_ok-division.ensures c.requires.under_way.searched).1;
      fits = subst (λ p. DoFitFor (g.R.Relaxation.meanings p) c.in_ok-division.division.multipliers) same c.in_ok-division.ensures.fits;
    }

pub put_node-requires-clause-next : goal.put_node-requires-clause-next
put_node-requires-clause-next g c =
    let count : length (set c.args.self.now.nodes.items c.args.place (Fixed (Branch c.in_ok-division.division.cut))) ≡ length c.args.self.now.nodes.items =
    length-set c.args.self.now.nodes.items c.args.place (Fixed (Branch c.in_ok-division.division.cut)) in
    record { place = omega (arith, count, c.requires.next.opens.within); number = omega (arith, c.len.ensures) }

pub put_node-requires-2-clause-next : goal.put_node-requires-2-clause-next
put_node-requires-2-clause-next g c =
    let before = set c.args.self.now.nodes.items c.args.place (Fixed (Branch c.in_ok-division.division.cut)) in
    let one = c.in_ok-put_node.ensures.put in
    let count : length before ≡ length c.args.self.now.nodes.items = length-set c.args.self.now.nodes.items c.args.place (Fixed (Branch c.in_ok-division.division.cut)) in
    let few : c.args.place + 1 ≤ length before = omega (arith, count, c.requires.next.opens.within) in
    record {
      place = omega (arith, ap length one.nodes, length-insert before (c.args.place + 1) one.leaf few, few);
      number = omega (arith, c.len-2.ensures);
    }

pub put_node-requires-clause-room : goal.put_node-requires-clause-room
put_node-requires-clause-room g c = λ place none below. omega (arith, c.requires.room place none below)

pub put_node-requires-2-clause-room : goal.put_node-requires-2-clause-room
put_node-requires-2-clause-room g c =
    may_be_asked_yet _ _ 0 c.args.terms.now.allowed.rounds c.args.terms.now.allowed.rounds c.args.advisors.now.items c.put_node.new.advisors.items
    (λ place none below. omega (arith, c.requires.room place none below)) c.put_node.ensures.advisors.times

pub returns-in_err-put_node-clause-advisors : goal.returns-in_err-put_node-clause-advisors
returns-in_err-put_node-clause-advisors g c =
    only_asked_within _ _ _ c.args.terms.now.allowed.rounds (2 * c.args.terms.now.allowed.rounds) c.args.advisors.now.items c.put_node.new.advisors.items (omega arith) c.put_node.ensures.advisors

pub returns-clause-advisors : goal.returns-clause-advisors
returns-clause-advisors g c =
    only_asked_within _ _ _ (c.args.terms.now.allowed.rounds + c.args.terms.now.allowed.rounds) (2 * c.args.terms.now.allowed.rounds) c.args.advisors.now.items c.put_node-2.new.advisors.items (omega arith)
    (only_asked_again _ _ _ c.args.terms.now.allowed.rounds c.args.terms.now.allowed.rounds c.args.advisors.now.items c.put_node.new.advisors.items c.put_node-2.new.advisors.items c.put_node.ensures.advisors c.put_node-2.ensures.advisors)

pub returns-clause-branched : goal.returns-clause-branched
returns-clause-branched g c =
    let problem = g.R.Relaxation.meanings (g.R.Relaxation.problem c.args.problem.now) in
    let root = c.args.terms.now.root.now in
    let rounds : ℕ = c.args.terms.now.allowed.rounds in
    let old = plan_in c.args.self.now.best in
    let middle = plan_in c.put_node.new.self.best in
    let new = plan_in c.put_node-2.new.self.best in
    let nodes = c.args.self.now.nodes.items in
    let place = c.args.place in
    let division = c.in_ok-division.division in
    let at = c.in_ok-division.ensures in
    let searched = c.requires.under_way.searched in
    let one = c.in_ok-put_node.ensures.put in
    let first = c.in_ok-put_node.ensures.offered in
    let advisors = c.args.advisors.now.items in
    let between = c.put_node.new.advisors.items in
    let later = c.put_node-2.new.advisors.items in
    let after = c.put_node-2.new.self.frontier in
    let count : length (set nodes place (Fixed (Branch division.cut))) ≡ length nodes = length-set nodes place (Fixed (Branch division.cut)) in
    let first_number : c.len.result ≡ length nodes = omega (arith, c.len.ensures, count) in
    let second_number : c.len-2.result ≡ length nodes + 1 =
    omega (arith, c.len-2.ensures, ap length one.nodes, length-insert (set nodes place (Fixed (Branch division.cut))) (place + 1) one.leaf (omega (arith, count, c.requires.next.opens.within)), count) in
    on_ok_both c.put_node-2.result c.put_node-2.ensures.put c.put_node-2.ensures.offered (λ other offered.
    let right_leaf : IsLeafOf problem new division.right other.leaf = subst (λ p. IsLeafOf (g.R.Relaxation.meanings p) new division.right other.leaf) c.put_node.ensures.same other.known.leaf in
    let second : IsOffered problem root middle new = subst (λ p. IsOffered (g.R.Relaxation.meanings p) root middle new) c.put_node.ensures.same offered in
    let items : c.put_node-2.new.self.nodes.items ≡ branched nodes place division.cut one.leaf other.leaf =
    put_after nodes place division.cut one.leaf other.leaf c.put_node.new.self.nodes.items c.put_node-2.new.self.nodes.items c.requires.next.opens.within one.nodes other.nodes in
    let left_opens : ℕ = if is_open middle (tree_node one.leaf) then 1 else 0 in
    let right_opens : ℕ = if is_open new (tree_node other.leaf) then 1 else 0 in
    record {
      under_way = record {
        searched = subst (λ items. IsSearched problem root new items) (sym items) (after_branch problem root old middle new nodes place division one.leaf other.leaf at one.known.leaf first right_leaf second searched);
        entered = subst (λ items. All (IsEntered new after) items) (sym items)
            (entered_on problem root old middle new c.args.self.now.frontier after nodes place division one.leaf other.leaf at first second
            (other.others new one.leaf (one.entered new)) (other.entered new) (λ node entered. other.others new node (one.others new node entered)) c.requires.under_way.entered);
      };
      one = ap (λ items. branchings_of (tree_nodes items)) items ∙ branchings_after problem old middle new nodes place division one.leaf other.leaf at one.known.leaf right_leaf;
      branched = record {
        division = division;
        left = one.leaf;
        right = other.leaf;
        at = at;
        nodes = items;
        left_number = subst (λ (n : ℕ). IsNumbered n one.leaf) first_number one.known.number;
        right_number = subst (λ (n : ℕ). IsNumbered n other.leaf) second_number other.known.number;
        middle = middle;
        first = first;
        second = second;
        between = between;
        left_made = subst (λ (n : ℕ). IsMade (λ b. (goal.Advisor-dyn g (b.vtable, b.value)).has_quit b.value) (λ b. (goal.Advisor-dyn g (b.vtable, b.value)).has_answered b.value) problem root rounds advisors between old middle division.left division.multipliers n one.leaf) first_number one.made;
        right_made = subst (λ (n : ℕ). IsMade (λ b. (goal.Advisor-dyn g (b.vtable, b.value)).has_quit b.value) (λ b. (goal.Advisor-dyn g (b.vtable, b.value)).has_answered b.value) problem root rounds between later middle new division.right division.multipliers n other.leaf) second_number
            (subst (λ p. IsMade (λ b. (goal.Advisor-dyn g (b.vtable, b.value)).has_quit b.value) (λ b. (goal.Advisor-dyn g (b.vtable, b.value)).has_answered b.value) (g.R.Relaxation.meanings p) root rounds between later middle new division.right division.multipliers c.len-2.result other.leaf) c.put_node.ensures.same other.made);
      };
      counted = (
        left_opens + right_opens,
        subst (λ items. made_or_open new (tree_nodes items) ≤ made_or_open old (tree_nodes nodes) + (left_opens + right_opens)) (sym items)
            (kept_up problem root old middle new nodes place division one.leaf other.leaf at one.known.leaf first right_leaf second),
        asked_for_both _ _ rounds left_opens right_opens advisors between later
            (asked_if_open _ _ rounds (is_open middle (tree_node one.leaf)) advisors between c.put_node.ensures.advisors.times one.known.done)
            (asked_if_open _ _ rounds (is_open new (tree_node other.leaf)) between later c.put_node-2.ensures.advisors.times other.known.done),
      );
    })
