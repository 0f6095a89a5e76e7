use Rattle.std.proofs.Common.{◌≡◌, ◌∙◌, ◌+◌, ◌*◌, ◌≤◌, ℕ, List, All, ap, arith, inl, inr, subst, sym}
use Rattle.std.proofs.Math.Nat.{mul-le-mul_right}
use Rattle.search.proofs.Asking.{are_asked_within}
use Rattle.fleet_size.specs.declared.slots.Slot.{Slot}
use Rattle.fleet_size.specs.Found.{branchings_in}
use Rattle.fleet_size.specs.Slots.{IsNext, nodes_in, price_in}
use Rattle.fleet_size.specs.Values.{CanBeValued, IsDone}
use Rattle.fleet_size.proofs.Asked.{AskedFor, asked_as_counted, asked_in_all, asked_in_vain, asked_once, asked_once_more, few_times, may_be_asked}
use Rattle.fleet_size.proofs.Founds.{search_can_be_valued}
use Rattle.fleet_size.proofs.Offering.{matched}
use Rattle.fleet_size.proofs.searching.run.Goals as goal

pub returns-in_err-search-clause-asked : goal.returns-in_err-search-clause-asked
returns-in_err-search-clause-asked g c =
    let rounds = c.args.problem.granted.rounds in
    let grant = c.args.problem.granted.branchings in
    let each = rounds * (2 * grant + 1) in
    let times : 1 * each ≤ (c.args.problem.granted.splits + 1) * each = mul-le-mul_right each (let one : 1 ≤ c.args.problem.granted.splits + 1 = omega arith in one) in
    are_asked_within _ _ 0 each 0 ((c.args.problem.granted.splits + 1) * each) c.args.advisors.now.items c.begun.new.advisors.items (omega arith) (omega (arith, times)) c.begun.ensures.asked

pub loop-split-init : goal.loop-split-init
loop-split-init g c = record {
  search = c.in_ok-search.ensures.search;
  splits = c.in_ok-search.ensures.none;
  asked = asked_once _ _ _ c.args.problem.granted.rounds c.args.problem.granted.branchings c.args.advisors.now.items c.begun.new.advisors.items
      (branchings_in (nodes_in c.in_ok-search.search.slots.items)) c.begun.ensures.advisors c.begun.ensures.asked c.in_ok-search.ensures.counted;
}

pub next_open-requires : goal.next_open-requires
next_open-requires g c =
    let same : c.deref.result.now ≡ c.loop-split.search.slots.items = cc in
    subst (λ (slots : List Slot). All (CanBeValued c.args.problem.prices.now) slots) (sym same)
    (search_can_be_valued c.args.problem.tables.instance.now c.args.problem.prices.now c.args.problem.granted.branchings
    c.loop-split.search c.is_sound.ensures c.requires.prices c.loop-split.invariant.search)

pub returns-in_default-clause-search : goal.returns-in_default-clause-search
returns-in_default-clause-search g c = c.loop-split.invariant.search

pub returns-in_default-clause-ended : goal.returns-in_default-clause-ended
returns-in_default-clause-ended g c =
    let same : c.deref.result.now ≡ c.loop-split.search.slots.items = cc in
    let done : All (IsDone c.args.problem.prices.now (price_in c.loop-split.search.best)) c.loop-split.search.slots.items =
    subst (λ (slots : List Slot). All (IsDone c.args.problem.prices.now (price_in c.loop-split.search.best)) slots) same c.in_default.ensures in
    ((omega (arith, c.loop-split.invariant.splits, c.loop-split-test.true)), inr done)

pub returns-in_default-clause-advisors : goal.returns-in_default-clause-advisors
returns-in_default-clause-advisors g c = c.loop-split.invariant.asked.same

pub returns-in_default-clause-asked : goal.returns-in_default-clause-asked
returns-in_default-clause-asked g c =
    asked_in_all _ _ _ c.args.problem.granted.rounds c.args.problem.granted.branchings c.args.advisors.now.items c.loop-split.advisors.items (c.loop-split._split + 1)
    (branchings_in (nodes_in c.loop-split.search.slots.items)) (c.args.problem.granted.splits + 1) c.loop-split.invariant.asked (omega (arith, c.loop-split-test.true))

pub returns-in_default-clause-counted : goal.returns-in_default-clause-counted
returns-in_default-clause-counted g c =
    asked_as_counted _ _ _ c.args.problem.granted.rounds c.args.problem.granted.branchings c.args.advisors.now.items c.loop-split.advisors.items c.loop-split.search.splits
    c.loop-split._split (branchings_in (nodes_in c.loop-split.search.slots.items)) c.loop-split.invariant.asked c.loop-split.invariant.splits

pub split-requires-clause-search : goal.split-requires-clause-search
split-requires-clause-search g c = c.loop-split.invariant.search

pub split-requires-clause-few : goal.split-requires-clause-few
split-requires-clause-few g c = omega (arith, c.loop-split.invariant.splits, c.loop-split-test.true)

pub split-requires-clause-next : goal.split-requires-clause-next
split-requires-clause-next g c =
    let same : c.deref.result.now ≡ c.loop-split.search.slots.items = cc in
    subst (λ (slots : List Slot). IsNext slots c.in-Some.next) same
    (matched (All (IsDone c.args.problem.prices.now (price_in c.loop-split.search.best)) c.deref.result.now) (IsNext c.deref.result.now) c.next_open.result c.in-Some.next c.in-Some.is c.next_open.ensures)

pub split-requires-clause-asked : goal.split-requires-clause-asked
split-requires-clause-asked g c =
    let rounds = c.args.problem.granted.rounds in
    let grant = c.args.problem.granted.branchings in
    let most : (c.loop-split._split + 1) * (rounds * (2 * grant + 1)) ≤ 16080100 =
    few_times rounds grant (c.loop-split._split + 1) c.requires.granted.rounds c.requires.granted.branchings (omega (arith, c.requires.granted.splits, c.loop-split-test.true)) in
    may_be_asked _ (λ b. (goal.Advisor-dyn g (b.vtable, b.value)).identity b.value) _ rounds grant ((c.loop-split._split + 1) * (rounds * (2 * grant + 1))) c.args.advisors.now.items c.loop-split.advisors.items
    (omega (arith, most)) c.requires.asked c.loop-split.invariant.asked.within

pub returns-in_err-split-clause-advisors : goal.returns-in_err-split-clause-advisors
returns-in_err-split-clause-advisors g c = c.split.ensures.advisors ∙ c.loop-split.invariant.asked.same

pub returns-in_err-split-clause-asked : goal.returns-in_err-split-clause-asked
returns-in_err-split-clause-asked g c =
    asked_in_vain _ _ _ c.args.problem.granted.rounds c.args.problem.granted.branchings c.args.advisors.now.items c.loop-split.advisors.items c.split.new.advisors.items (c.loop-split._split + 1)
    (branchings_in (nodes_in c.loop-split.search.slots.items)) (c.args.problem.granted.splits + 1) c.loop-split.invariant.asked (omega (arith, c.loop-split-test.true)) c.split.ensures.asked

pub loop-split-preserved : goal.loop-split-preserved
loop-split-preserved g c =
    let (made, is, counted) = c.in_ok-split.ensures.counted in
    record {
      search = c.in_ok-split.ensures.search;
      splits = c.in_ok-split.ensures.one ∙ ap (λ (n : ℕ). n + 1) c.loop-split.invariant.splits;
      asked = subst (λ (all : ℕ). AskedFor (λ b. (goal.Advisor-dyn g (b.vtable, b.value)).asked b.value) (λ b. (goal.Advisor-dyn g (b.vtable, b.value)).identity b.value)
          (λ b. (goal.Advisor-dyn g (b.vtable, b.value)).has_quit b.value) c.args.problem.granted.rounds c.args.problem.granted.branchings c.args.advisors.now.items c.split.new.advisors.items
          (c.loop-split._split + 1 + 1) all) (sym is)
          (asked_once_more _ _ _ c.args.problem.granted.rounds c.args.problem.granted.branchings c.args.advisors.now.items c.loop-split.advisors.items c.split.new.advisors.items (c.loop-split._split + 1)
          (branchings_in (nodes_in c.loop-split.search.slots.items)) made c.loop-split.invariant.asked c.split.ensures.advisors c.split.ensures.asked counted);
    }

pub returns-clause-search : goal.returns-clause-search
returns-clause-search g c = c.loop-split.invariant.search

pub returns-clause-ended : goal.returns-clause-ended
returns-clause-ended g c =
    let splits : c.loop-split.search.splits ≡ c.args.problem.granted.splits = omega (arith, c.loop-split.invariant.splits) in
    ((omega (arith, splits)), inl splits)

pub returns-clause-advisors : goal.returns-clause-advisors
returns-clause-advisors g c = c.loop-split.invariant.asked.same

pub returns-clause-asked : goal.returns-clause-asked
returns-clause-asked g c =
    asked_in_all _ _ _ c.args.problem.granted.rounds c.args.problem.granted.branchings c.args.advisors.now.items c.loop-split.advisors.items (c.loop-split._split + 1)
    (branchings_in (nodes_in c.loop-split.search.slots.items)) (c.args.problem.granted.splits + 1) c.loop-split.invariant.asked (omega arith)

pub returns-clause-counted : goal.returns-clause-counted
returns-clause-counted g c =
    asked_as_counted _ _ _ c.args.problem.granted.rounds c.args.problem.granted.branchings c.args.advisors.now.items c.loop-split.advisors.items c.loop-split.search.splits
    c.loop-split._split (branchings_in (nodes_in c.loop-split.search.slots.items)) c.loop-split.invariant.asked c.loop-split.invariant.splits
