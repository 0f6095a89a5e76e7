use Rattle.std.proofs.Common.{◌≡◌, ℕ, ◌+◌, ◌*◌, ◌≤◌, ◌∷◌, [], All, false, length, sym, ap, subst, ◌∙◌, arith, inl, inr}
use Rattle.std.proofs.Math.Nat.{mul-le-mul_left}
use Rattle.branch_tree.specs.Trees.{branchings_of}
use Rattle.search.specs.Questions.{AreAsked, in_rounds}
use Rattle.search.specs.Ends.{made_or_open}
use Rattle.search.specs.Frontiers.{HasLeastRank, IsEntered, IsOpenAt, is_open_node}
use Rattle.search.specs.Nodes.{tree_nodes}
use Rattle.search.specs.Putting.{IsUnderWay}
use Rattle.search.specs.Conclusions.{plan_in}
use Rattle.search.proofs.Asking.{are_asked_within, may_be_asked_yet, only_asked_within}
use Rattle.search.proofs.Counting.{asked_on, asked_at_most, few_rounds, only_within_grant, room_for}
use Rattle.search.proofs.Finishing.{length-tree, none_left}
use Rattle.search.proofs.solving.run.Goals as goal

pub begin-requires-clause-room : goal.begin-requires-clause-room
begin-requires-clause-room g c =
    room_for (λ b. (goal.Advisor-dyn g (b.vtable, b.value)).asked b.value) (λ b. (goal.Advisor-dyn g (b.vtable, b.value)).has_quit b.value) c.args.terms.now.allowed.rounds c.args.advisors.now.items c.requires.asked (omega (arith, c.requires.allowed.rounds))

pub returns-in_err-search-clause-advisors : goal.returns-in_err-search-clause-advisors
returns-in_err-search-clause-advisors g c =
    let once : 1 ≤ 2 * c.args.terms.now.allowed.branchings + 1 = omega arith in
    only_asked_within _ _ _ c.args.terms.now.allowed.rounds (c.args.terms.now.allowed.rounds * (2 * c.args.terms.now.allowed.branchings + 1)) c.args.advisors.now.items c.begin.new.advisors.items
    (omega (arith, mul-le-mul_left c.args.terms.now.allowed.rounds once)) c.begin.ensures.advisors

pub loop-branching-init : goal.loop-branching-init
loop-branching-init g c =
    let nodes = c.in_ok-search.search.nodes.items in
    let best = plan_in c.in_ok-search.search.best in
    let problem = g.R.Relaxation.meanings (g.R.Relaxation.problem c.args.problem.now) in
    let rounds : ℕ = c.args.terms.now.allowed.rounds in
    record {
      same = c.begin.ensures.same;
      accepted = c.in_ok-search.ensures.accepted;
      under_way = c.in_ok-search.ensures.under_way;
      made = let one : length nodes ≡ 1 = ap length c.in_ok-search.ensures.made.1 in
          omega (arith, one, length-tree problem c.args.terms.now.root.now best nodes c.in_ok-search.ensures.under_way.searched);
      advisors = c.begin.ensures.advisors.same;
      asked = are_asked_within _ _ (in_rounds rounds (made_or_open best (tree_nodes nodes))) rounds (in_rounds rounds (made_or_open best (tree_nodes nodes))) (rounds * (2 * 0 + 1))
          c.args.advisors.now.items c.begin.new.advisors.items (omega arith) (omega arith) c.in_ok-search.ensures.counted;
    }

pub next_open-requires : goal.next_open-requires
next_open-requires g c =
    let same : c.deref.result.now ≡ c.loop-branching.search.nodes.items = cc in
    record { entered = subst (λ items. All (IsEntered (plan_in c.loop-branching.search.best) c.loop-branching.search.frontier) items) (sym same) c.loop-branching.invariant.under_way.entered }

pub returns-in_default-clause-searched : goal.returns-in_default-clause-searched
returns-in_default-clause-searched g c =
    let problem = g.R.Relaxation.meanings (g.R.Relaxation.problem c.args.problem.now) in
    let root = c.args.terms.now.root.now in
    let best = plan_in c.loop-branching.search.best in
    let nodes = c.loop-branching.search.nodes.items in
    let searched = c.loop-branching.invariant.under_way.searched in
    let same : c.deref.result.now ≡ nodes = cc in
    record {
      searched = searched;
      granted = omega (arith, c.loop-branching.invariant.made, c.loop-branching-test.true);
      ended = inr (none_left problem root best (root ∷ []) nodes searched.walks (subst (λ items. All (λ node. is_open_node best node ≡ false) items) same c.in_default.ensures.next));
    }

pub returns-in_default-clause-advisors : goal.returns-in_default-clause-advisors
returns-in_default-clause-advisors g c =
    only_within_grant _ _ _ c.args.terms.now.allowed.rounds c.loop-branching._branching c.args.terms.now.allowed.branchings (in_rounds c.args.terms.now.allowed.rounds (made_or_open (plan_in c.loop-branching.search.best) (tree_nodes c.loop-branching.search.nodes.items)))
    c.args.advisors.now.items c.loop-branching.advisors.items (omega (arith, c.loop-branching-test.true)) c.loop-branching.invariant.advisors c.loop-branching.invariant.asked

pub returns-in_default-clause-counted : goal.returns-in_default-clause-counted
returns-in_default-clause-counted g c =
    subst (λ (made : ℕ). AreAsked c.args.advisors.now.items c.loop-branching.advisors.items (λ b. (goal.Advisor-dyn g (b.vtable, b.value)).asked b.value) (λ b. (goal.Advisor-dyn g (b.vtable, b.value)).has_quit b.value)
    (in_rounds c.args.terms.now.allowed.rounds (made_or_open (plan_in c.loop-branching.search.best) (tree_nodes c.loop-branching.search.nodes.items))) (c.args.terms.now.allowed.rounds * (2 * made + 1))) (sym c.loop-branching.invariant.made) c.loop-branching.invariant.asked

pub branch-search-requires-in-loop-branching-clause-accepted : goal.branch-search-requires-in-loop-branching-clause-accepted
branch-search-requires-in-loop-branching-clause-accepted g c = subst (λ p. g.R.Relaxation.IsWellPosed p) (sym c.loop-branching.invariant.same) c.loop-branching.invariant.accepted

pub branch-search-requires-in-loop-branching-clause-under_way : goal.branch-search-requires-in-loop-branching-clause-under_way
branch-search-requires-in-loop-branching-clause-under_way g c =
    let way = subst (λ p. IsUnderWay (g.R.Relaxation.meanings p) c.args.terms.now.root.now c.loop-branching.search) (sym c.loop-branching.invariant.same) c.loop-branching.invariant.under_way in
    let best = plan_in c.loop-branching.search.best in
    let same : c.deref.result.now ≡ c.loop-branching.search.nodes.items = cc in
    record { searched = way.searched; entered = subst (λ items. All (IsEntered best c.next_open.new.self) items) same c.next_open.ensures.entered }

pub branch-search-requires-in-loop-branching-clause-next : goal.branch-search-requires-in-loop-branching-clause-next
branch-search-requires-in-loop-branching-clause-next g c =
    let best = plan_in c.loop-branching.search.best in
    let same : c.deref.result.now ≡ c.loop-branching.search.nodes.items = cc in
    record {
      opens = subst (λ items. IsOpenAt best items c.in-Some.place) same c.in-Some.ensures.next;
      least = subst (λ items. HasLeastRank best items c.in-Some.place) same c.in-Some.ensures.least;
    }

pub branch-search-requires-in-loop-branching-clause-few : goal.branch-search-requires-in-loop-branching-clause-few
branch-search-requires-in-loop-branching-clause-few g c =
    let many : length c.loop-branching.search.nodes.items ≡ 2 * branchings_of (tree_nodes c.loop-branching.search.nodes.items) + 1 =
    length-tree (g.R.Relaxation.meanings (g.R.Relaxation.problem c.args.problem.now)) c.args.terms.now.root.now (plan_in c.loop-branching.search.best) c.loop-branching.search.nodes.items c.loop-branching.invariant.under_way.searched in
    omega (arith, many, c.loop-branching.invariant.made, c.loop-branching-test.true, c.requires.allowed.branchings)

pub branch-search-requires-in-loop-branching-clause-room : goal.branch-search-requires-in-loop-branching-clause-room
branch-search-requires-in-loop-branching-clause-room g c =
    may_be_asked_yet (λ b. (goal.Advisor-dyn g (b.vtable, b.value)).asked b.value) (λ b. (goal.Advisor-dyn g (b.vtable, b.value)).has_quit b.value)
    (in_rounds c.args.terms.now.allowed.rounds (made_or_open (plan_in c.loop-branching.search.best) (tree_nodes c.loop-branching.search.nodes.items))) (c.args.terms.now.allowed.rounds * (2 * c.loop-branching._branching + 1)) (2 * c.args.terms.now.allowed.rounds)
    c.args.advisors.now.items c.loop-branching.advisors.items
    (room_for (λ b. (goal.Advisor-dyn g (b.vtable, b.value)).asked b.value) (λ b. (goal.Advisor-dyn g (b.vtable, b.value)).has_quit b.value) (c.args.terms.now.allowed.rounds * (2 * c.loop-branching._branching + 1) + 2 * c.args.terms.now.allowed.rounds) c.args.advisors.now.items c.requires.asked
    (few_rounds c.args.terms.now.allowed.rounds c.loop-branching._branching c.requires.allowed.rounds (omega (arith, c.loop-branching-test.true, c.requires.allowed.branchings))))
    c.loop-branching.invariant.asked

pub returns-in_err-branch-clause-advisors : goal.returns-in_err-branch-clause-advisors
returns-in_err-branch-clause-advisors g c = record {
  same = c.branch-search-in-loop-branching.ensures.advisors.same ∙ c.loop-branching.invariant.advisors;
  times = asked_at_most _ _ c.args.terms.now.allowed.rounds c.loop-branching._branching c.args.terms.now.allowed.branchings
      (in_rounds c.args.terms.now.allowed.rounds (made_or_open (plan_in c.loop-branching.search.best) (tree_nodes c.loop-branching.search.nodes.items)))
      c.args.advisors.now.items c.loop-branching.advisors.items c.branch-search-in-loop-branching.new.advisors.items (omega (arith, c.loop-branching-test.true)) c.loop-branching.invariant.asked
      c.branch-search-in-loop-branching.ensures.advisors.times;
}

pub loop-branching-preserved : goal.loop-branching-preserved
loop-branching-preserved g c =
    let before = plan_in c.loop-branching.search.best in
    let after = plan_in c.branch-search-in-loop-branching.new.self.best in
    let branched = c.in_ok-branch.ensures.branched in
    record {
      same = c.branch-search-in-loop-branching.ensures.same ∙ c.loop-branching.invariant.same;
      accepted = c.loop-branching.invariant.accepted;
      under_way = subst (λ p. IsUnderWay (g.R.Relaxation.meanings p) c.args.terms.now.root.now c.branch-search-in-loop-branching.new.self) c.loop-branching.invariant.same branched.under_way;
      made = branched.one ∙ ap (λ (made : ℕ). made + 1) c.loop-branching.invariant.made;
      advisors = c.branch-search-in-loop-branching.ensures.advisors.same ∙ c.loop-branching.invariant.advisors;
      asked = asked_on _ _ c.args.terms.now.allowed.rounds c.loop-branching._branching (made_or_open before (tree_nodes c.loop-branching.search.nodes.items)) (made_or_open after (tree_nodes c.branch-search-in-loop-branching.new.self.nodes.items))
          branched.counted.0 c.args.advisors.now.items c.loop-branching.advisors.items c.branch-search-in-loop-branching.new.advisors.items c.loop-branching.invariant.asked branched.counted.1 branched.counted.2;
    }

pub returns-clause-searched : goal.returns-clause-searched
returns-clause-searched g c = record {
  searched = c.loop-branching.invariant.under_way.searched;
  granted = omega (arith, c.loop-branching.invariant.made, c.loop-branching.auto._branching-end);
  ended = inl (omega (arith, c.loop-branching.invariant.made, c.loop-branching.auto._branching-end, c.loop-branching-test.false));
}

pub returns-clause-advisors : goal.returns-clause-advisors
returns-clause-advisors g c =
    only_within_grant _ _ _ c.args.terms.now.allowed.rounds c.loop-branching._branching c.args.terms.now.allowed.branchings (in_rounds c.args.terms.now.allowed.rounds (made_or_open (plan_in c.loop-branching.search.best) (tree_nodes c.loop-branching.search.nodes.items)))
    c.args.advisors.now.items c.loop-branching.advisors.items (omega (arith, c.loop-branching.auto._branching-end)) c.loop-branching.invariant.advisors c.loop-branching.invariant.asked

pub returns-clause-counted : goal.returns-clause-counted
returns-clause-counted g c =
    subst (λ (made : ℕ). AreAsked c.args.advisors.now.items c.loop-branching.advisors.items (λ b. (goal.Advisor-dyn g (b.vtable, b.value)).asked b.value) (λ b. (goal.Advisor-dyn g (b.vtable, b.value)).has_quit b.value)
    (in_rounds c.args.terms.now.allowed.rounds (made_or_open (plan_in c.loop-branching.search.best) (tree_nodes c.loop-branching.search.nodes.items))) (c.args.terms.now.allowed.rounds * (2 * made + 1))) (sym c.loop-branching.invariant.made) c.loop-branching.invariant.asked
