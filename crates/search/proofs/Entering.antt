-- Which nodes a frontier has, as ranks are put in and taken out and nodes are branched.
use Rattle.std.proofs.Common.{◌≡◌, ℕ, zero, suc, ◌<◌, ◌&&◌, List, [], ◌∷◌, length, All, Bool, true, false, ℤ, IsSome}
use Rattle.std.proofs.Common.{Option, Some, None, nat_eq, if◌then◌else◌, refl, sym, ap, subst, ◌∙◌, arith}
use Rattle.std.proofs.lemmas.Bool.Decides.{Decides-int_eq}
use Rattle.std.proofs.lemmas.Cmp.{int_eq_equiv, nat_eq_equiv}
use Rattle.std.proofs.lemmas.List.Elements.{All-cons, All-head, All-tail}
use Rattle.std.proofs.lemmas.Map.Lookups.{exact_signed, exact_unsigned}
use Rattle.std.specs.declared.cmp.Ordering.{Ordering}
use Rattle.std.specs.declared.cmp.Ordering.TheVariants.{Less, Equal, Greater}
use Rattle.std.specs.Ordering.{int_cmp, nat_cmp, ordering_then, int_eq, is_eq}
use Rattle.std.specs.BTreeMap.{ContainsKey, Updates, get}
use Rattle.rail_base.specs.declared.numbers.Money.{Money}
use Rattle.branch_tree.specs.declared.cuts.Cut.{Cut}
use Rattle.branch_tree.specs.declared.tree.Node.TheVariants.{Branch}
use Rattle.branch_tree.specs.Claims.{CostedPicks, is_below}
use Rattle.branch_tree.specs.Meanings.{Meanings}
use Rattle.search.specs.declared.frontier.Frontier.{Frontier}
use Rattle.search.specs.declared.nodes.Division.{Division}
use Rattle.search.specs.declared.nodes.SearchNode.{SearchNode}
use Rattle.search.specs.declared.nodes.SearchNode.TheVariants.{Fixed, Pending}
use Rattle.search.specs.Frontiers.{IsEntered, is_open_node, has_rank, rank_order}
use Rattle.search.specs.Nodes.{IsDivisionAt, branched}
use Rattle.search.specs.Offers.{IsOffered}
use Rattle.search.proofs.Evaluating.{offered_again}

-- ---- ranks

-- ranks that are equal in their order have the same bound and number
same_rank : (a b : ℤ) (m n : ℕ) (first second : Ordering) → int_cmp a b ≡ first → nat_cmp m n ≡ second → is_eq (ordering_then first second) ≡ true → (a ≡ b) × (m ≡ n)
same_rank a b m n Less second one two e = absurd (let no : false ≡ true = e in cc)
same_rank a b m n Greater second one two e = absurd (let no : false ≡ true = e in cc)
same_rank a b m n Equal Less one two e = absurd (let no : false ≡ true = e in cc)
same_rank a b m n Equal Greater one two e = absurd (let no : false ≡ true = e in cc)
same_rank a b m n Equal Equal one two e = (exact_signed a b one, exact_unsigned m n two)

-- a node of another rank
other_rank : (a b : ℤ) (m n : ℕ) → (int_eq b a && nat_eq n m) ≡ false → is_eq (ordering_then (int_cmp a b) (nat_cmp m n)) ≡ false
other_rank a b m n other = at (is_eq (ordering_then (int_cmp a b) (nat_cmp m n))) refl
  where
    at : (same : Bool) → is_eq (ordering_then (int_cmp a b) (nat_cmp m n)) ≡ same → is_eq (ordering_then (int_cmp a b) (nat_cmp m n)) ≡ false
    at true e =
        let both = same_rank a b m n (int_cmp a b) (nat_cmp m n) refl refl e in
        let bounds : int_eq b a ≡ true = subst (λ z. int_eq b z ≡ true) (sym both.0) (int_eq_equiv.refl b) in
        let numbers : nat_eq n m ≡ true = subst (λ (k : ℕ). nat_eq n k ≡ true) (sym both.1) (nat_eq_equiv.refl n) in
        absurd (let no : true ≡ false = sym numbers ∙ ap (λ b. b && nat_eq n m) (sym bounds) ∙ other in cc)
    at false e = e

-- ---- ranks put in and taken out

-- a rank that is put in takes no other out
pub still_entered : (old new : Frontier) (bound : Money) (number : ℕ) → Updates rank_order old.ranks new.ranks (bound, number) (Some tt) → (best : Option CostedPicks) (node : SearchNode) → IsEntered best old node → IsEntered best new node
still_entered old new bound number put best (Fixed node) entered = tt
still_entered old new bound number put best (Pending node) entered = λ below. at (is_eq (rank_order (bound, number) (node.bound, node.number))) refl (entered below)
  where
    at : (same : Bool) → is_eq (rank_order (bound, number) (node.bound, node.number)) ≡ same → ContainsKey rank_order old.ranks (node.bound, node.number) → ContainsKey rank_order new.ranks (node.bound, node.number)
    at true e has = subst (λ found. IsSome found) (sym (put.0 (node.bound, node.number) ∙ ap (λ (same : Bool). if same then Some tt else get rank_order old.ranks (node.bound, node.number)) e)) refl
    at false e has = subst (λ found. IsSome found) (sym (put.2 (node.bound, node.number) e)) has

-- a rank that no node has is taken out
pub entered_but : (old new : Frontier) (bound : Money) (number : ℕ) → Updates rank_order old.ranks new.ranks (bound, number) None → (best : Option CostedPicks) (node : SearchNode) →
    (is_open_node best node ≡ true → has_rank bound number node ≡ false) → IsEntered best old node → IsEntered best new node
entered_but old new bound number out best (Fixed node) other entered = tt
entered_but old new bound number out best (Pending node) other entered = λ below.
    subst (λ found. IsSome found) (sym (out.2 (node.bound, node.number) (other_rank bound.0 node.bound.0 number node.number (other below)))) (entered below)

-- a node that leaves room for a better solution has no rank whose bound leaves none
pub shut_rank : (best : Option CostedPicks) (bound : Money) (number : ℕ) (node : SearchNode) → is_below bound.0 best ≡ false → is_open_node best node ≡ true → has_rank bound number node ≡ false
shut_rank best bound number (Fixed node) shut opens = refl
shut_rank best bound number (Pending node) shut opens = at (int_eq node.bound.0 bound.0) refl
  where
    at : (same : Bool) → int_eq node.bound.0 bound.0 ≡ same → (int_eq node.bound.0 bound.0 && nat_eq node.number number) ≡ false
    at true e =
        let same : node.bound.0 ≡ bound.0 = (Decides-int_eq node.bound.0 bound.0).0 e in
        absurd (let no : true ≡ false = sym opens ∙ ap (λ z. is_below z best) same ∙ shut in cc)
    at false e = ap (λ b. b && nat_eq node.number number) e

-- ---- a branching

-- the better the best solution, the less is asked of a frontier
entered_with : (old new : Option CostedPicks) → ((bound : ℤ) → is_below bound new ≡ true → is_below bound old ≡ true) → (frontier : Frontier) (node : SearchNode) → IsEntered old frontier node → IsEntered new frontier node
entered_with old new dearer frontier (Fixed node) entered = tt
entered_with old new dearer frontier (Pending node) entered = λ below. entered (dearer node.bound.0 below)

all_entered : (P Q : SearchNode → Type 0) → ((node : SearchNode) → P node → Q node) → (nodes : List SearchNode) → All P nodes → All Q nodes
all_entered P Q follows nodes all = λ place none within. follows _ (all place none within)

entered_after : (P Q : SearchNode → Type 0) → ((node : SearchNode) → P node → Q node) → (nodes : List SearchNode) (place : ℕ) (cut : Cut) (left right : SearchNode) → place < length nodes →
    Q (Fixed (Branch cut)) → Q left → Q right → All P nodes → All Q (branched nodes place cut left right)
entered_after P Q follows [] place cut left right within branch one other all = absurd (omega (arith, within))
entered_after P Q follows (node ∷ nodes) zero cut left right within branch one other all =
    All-cons Q (Fixed (Branch cut)) (left ∷ right ∷ nodes) branch
    (All-cons Q left (right ∷ nodes) one (All-cons Q right nodes other (all_entered P Q follows nodes (All-tail P node nodes all))))
entered_after P Q follows (node ∷ nodes) (suc place) cut left right within branch one other all =
    All-cons Q node (branched nodes place cut left right) (follows node (All-head P node nodes all))
    (entered_after P Q follows nodes place cut left right (omega (arith, within)) branch one other (All-tail P node nodes all))

-- the nodes after a branching are entered, as those before are
pub entered_on : (problem : Meanings) (root : List (List Bool)) (old middle new : Option CostedPicks) (before after : Frontier) (nodes : List SearchNode) (place : ℕ) (division : Division) (left right : SearchNode) →
    IsDivisionAt problem old nodes place division → IsOffered problem root old middle → IsOffered problem root middle new →
    IsEntered new after left → IsEntered new after right → ((node : SearchNode) → IsEntered new before node → IsEntered new after node) →
    All (IsEntered old before) nodes → All (IsEntered new after) (branched nodes place division.cut left right)
entered_on problem root old middle new before after nodes place division left right at first second one other others all =
    entered_after (IsEntered old before) (IsEntered new after)
    (λ node entered. others node (entered_with old new (offered_again problem root old middle new first second).no_dearer before node entered))
    nodes place division.cut left right at.within tt one other all
