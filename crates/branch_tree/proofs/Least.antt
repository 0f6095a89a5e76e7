-- The least of the bounds of cost leaves.
use Rattle.std.proofs.Common.{◌≡◌, ℕ, ◌+◌, ◌<◌, List, [], ◌∷◌, ◌++◌, length, take, slice_get, Bool, true, false}
use Rattle.std.proofs.Common.{if◌then◌else◌, ℤ, int_lt, ◌≤ℤ◌, All, Contains, Option, Some, None, refl, sym, ◌∙◌, ap, subst}
use Rattle.std.proofs.Common.{arith}
use Rattle.std.proofs.lemmas.Int.{ints}
use Rattle.std.proofs.lemmas.List.{append-nil, take_more}
use Rattle.std.proofs.lemmas.List.Elements.{All-nil, All-cons, All-push, All-weaker, Contains-push, Contains-append_left}
use Rattle.std.proofs.lemmas.Option.{get_or_from_slice_get}
use Rattle.rail_base.specs.declared.numbers.Money.{Money}
use Rattle.branch_tree.specs.declared.tree.Node.{Node}
use Rattle.branch_tree.specs.declared.tree.Node.TheVariants.{Branch, CostLeaf, RayLeaf, EmptyLeaf}
use Rattle.branch_tree.specs.LeastBounds.{least_of, lower_of}
use Rattle.branch_tree.specs.Trees.{IsLeast, IsLeastOf, bound_of, bounds_of}
use Rattle.branch_tree.proofs.Duality.{between}

-- the bounds of one node more
bounds_of-append : (nodes : List Node) (node : Node)
    → bounds_of (nodes ++ node ∷ []) ≡ bounds_of nodes ++ bounds_of (node ∷ [])
bounds_of-append [] node = refl
bounds_of-append (Branch cut ∷ nodes) node = bounds_of-append nodes node
bounds_of-append (CostLeaf bound multipliers ∷ nodes) node =
    ap (λ bounds. bound.0 ∷ bounds) (bounds_of-append nodes node)
bounds_of-append (RayLeaf multipliers ∷ nodes) node = bounds_of-append nodes node
bounds_of-append (EmptyLeaf ∷ nodes) node = bounds_of-append nodes node

level : (a : ℤ) → a ≤ℤ a
level a = omega (arith, ints)

less : (a b : ℤ) → int_lt a b ≡ true → a ≤ℤ b
less a b lower = omega (arith, ints, lower)

not_less : (a b : ℤ) → int_lt a b ≡ false → b ≤ℤ a
not_less a b not_lower = omega (arith, ints, not_lower)

-- the least of bounds and one more
least-push : (bounds : List ℤ) (least bound : Money) → IsLeast bounds least.0
    → IsLeast (bounds ++ bound.0 ∷ []) (lower_of least bound).0
least-push bounds least bound is = by_order (int_lt bound.0 least.0) refl
  where
    by_order : (b : Bool) → int_lt bound.0 least.0 ≡ b → IsLeast (bounds ++ bound.0 ∷ []) (if b then bound else least).0
    by_order true lower = record {
      one = Contains-push bounds bound.0;
      all = All-push (λ number. bound.0 ≤ℤ number) bounds bound.0
          (All-weaker (λ number. least.0 ≤ℤ number) (λ number. bound.0 ≤ℤ number)
          (λ number above. between bound.0 least.0 number (less bound.0 least.0 lower) above) bounds is.all)
          (level bound.0);
    }
    by_order false not_lower = record {
      one = Contains-append_left bounds (bound.0 ∷ []) least.0 is.one;
      all = All-push (λ number. least.0 ≤ℤ number) bounds bound.0 is.all (not_less bound.0 least.0 not_lower);
    }

one_least : (bound : Money) → IsLeast (bound.0 ∷ []) bound.0
one_least bound = record {
  one = Contains-push [] bound.0;
  all = All-cons (λ number. bound.0 ≤ℤ number) bound.0 [] (omega (arith, ints))
      (All-nil (λ number. bound.0 ≤ℤ number));
}

-- the least of the bounds of nodes, and of one node more
least_more : (nodes : List Node) (node : Node) (least : Option Money) → IsLeastOf (bounds_of nodes) least
    → IsLeastOf (bounds_of (nodes ++ node ∷ [])) (least_of least (bound_of node))
least_more nodes (Branch cut) least is =
    subst (λ bounds. IsLeastOf bounds least)
    (sym (bounds_of-append nodes (Branch cut) ∙ append-nil (bounds_of nodes))) is
least_more nodes (RayLeaf multipliers) least is =
    subst (λ bounds. IsLeastOf bounds least)
    (sym (bounds_of-append nodes (RayLeaf multipliers) ∙ append-nil (bounds_of nodes))) is
least_more nodes EmptyLeaf least is =
    subst (λ bounds. IsLeastOf bounds least)
    (sym (bounds_of-append nodes EmptyLeaf ∙ append-nil (bounds_of nodes))) is
least_more nodes (CostLeaf bound multipliers) None is =
    subst (λ bounds. IsLeast bounds bound.0)
    (sym (bounds_of-append nodes (CostLeaf bound multipliers) ∙ ap (λ bounds. bounds ++ bound.0 ∷ []) is))
    (one_least bound)
least_more nodes (CostLeaf bound multipliers) (Some least) is =
    subst (λ bounds. IsLeast bounds (lower_of least bound).0)
    (sym (bounds_of-append nodes (CostLeaf bound multipliers))) (least-push (bounds_of nodes) least bound is)

-- one node further
pub least_at : (all : List Node) (number : ℕ) (node : Node) (least : Option Money) → number < length all
    → slice_get all number ≡ Some node → IsLeastOf (bounds_of (take number all)) least
    → IsLeastOf (bounds_of (take (number + 1) all)) (least_of least (bound_of node))
least_at all number node least inside at is =
    let past : take (number + 1) all ≡ take number all ++ node ∷ [] =
    take_more all number node inside ∙ ap (λ one. take number all ++ one ∷ []) (get_or_from_slice_get all number node node at) in
    subst (λ nodes. IsLeastOf (bounds_of nodes) (least_of least (bound_of node))) (sym past)
    (least_more (take number all) node least is)
