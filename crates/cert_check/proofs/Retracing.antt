-- Sides that are taken and given back: the root region, the right sides that are left, and the marks.
use Rattle.std.proofs.Common.{◌≡◌, ℕ, ◌<◌, List, Bool, [], ◌∷◌, ◌++◌, length, set, All, Some, refl, sym, ◌∙◌, ap, subst}
use Rattle.std.proofs.lemmas.List.{append-nil, append_assoc, length-set}
use Rattle.std.proofs.lemmas.List.Elements.{All-nil, All-cons, All-pop}
use Rattle.branch_tree.specs.declared.cuts.Cut.{Cut}
use Rattle.branch_tree.specs.declared.cuts.Cut.TheVariants.{Only, AtMost}
use Rattle.branch_tree.specs.declared.cuts.Mark.{Mark}
use Rattle.branch_tree.specs.declared.cuts.Side.{Side}
use Rattle.branch_tree.specs.declared.cuts.Side.TheVariants.{Left, Right}
use Rattle.branch_tree.specs.Cuts.{trip_of, side_of, IsInRange, IsProper}
use Rattle.branch_tree.specs.Regions.{set_at}
use Rattle.branch_tree.proofs.Dividing.{cuts_are_undone}
use Rattle.cert_check.specs.declared.path.TakenSide.{TakenSide}
use Rattle.cert_check.specs.Paths.{root_from, left_in, other_side, AreTaken, IsTakenIn, IsAtFirst}

-- the region before the last side was taken
abbrev pub before_last : TakenSide → List (List Bool) → List (List Bool)
before_last one region = set region one.mark.trip one.mark.before

pub root_from-last : (taken : List TakenSide) (one : TakenSide) (region : List (List Bool)) → root_from (taken ++ one ∷ []) region ≡ root_from taken (before_last one region)
root_from-last [] one region = refl
root_from-last (first ∷ taken) one region = ap (λ r. set r first.mark.trip first.mark.before) (root_from-last taken one region)

pub left_in-last : (catalogue : List (List ℕ)) (taken : List TakenSide) (one : TakenSide) (region : List (List Bool)) →
    left_in catalogue (taken ++ one ∷ []) region ≡ other_side catalogue one.cut one.side (before_last one region) ++ left_in catalogue taken (before_last one region)
left_in-last catalogue [] one region = sym (append-nil (other_side catalogue one.cut one.side (before_last one region)))
left_in-last catalogue (first ∷ taken) one region =
    ap (λ regions. regions ++ other_side catalogue first.cut first.side (root_from (first ∷ (taken ++ one ∷ [])) region)) (left_in-last catalogue taken one region)
    ∙ ap (λ r. (other_side catalogue one.cut one.side (before_last one region) ++ left_in catalogue taken (before_last one region)) ++ other_side catalogue first.cut first.side r) (root_from-last (first ∷ taken) one region)
    ∙ append_assoc (other_side catalogue one.cut one.side (before_last one region)) (left_in catalogue taken (before_last one region)) (other_side catalogue first.cut first.side (root_from (first ∷ taken) (before_last one region)))

pub taken_more : (catalogue : List (List ℕ)) (taken : List TakenSide) (one : TakenSide) (region : List (List Bool)) →
    AreTaken catalogue taken (before_last one region) → IsTakenIn catalogue (before_last one region) one → AreTaken catalogue (taken ++ one ∷ []) region
taken_more catalogue [] one region are last = (last, tt)
taken_more catalogue (first ∷ taken) one region are last =
    (subst (λ r. IsTakenIn catalogue r first) (sym (root_from-last (first ∷ taken) one region)) are.0, taken_more catalogue taken one region are.1 last)

-- what is known of the last side that was taken, and of those before it
pub record LastTaken (catalogue : List (List ℕ)) (taken : List TakenSide) (one : TakenSide) (region : List (List Bool)) : Type 0 where
  pub last : IsTakenIn catalogue (before_last one region) one
  pub rest : AreTaken catalogue taken (before_last one region)

pub last_taken : (catalogue : List (List ℕ)) (taken : List TakenSide) (one : TakenSide) (region : List (List Bool)) → AreTaken catalogue (taken ++ one ∷ []) region → LastTaken catalogue taken one region
last_taken catalogue [] one region are = record { last = are.0; rest = tt }
last_taken catalogue (first ∷ taken) one region are =
    let behind : LastTaken catalogue taken one region = last_taken catalogue taken one region are.1 in
    record { last = behind.last; rest = (subst (λ r. IsTakenIn catalogue r first) (root_from-last (first ∷ taken) one region) are.0, behind.rest) }

-- a mark puts back what its cut took away
pub undone : (catalogue : List (List ℕ)) (cut : Cut) (side : Side) (region : List (List Bool)) (trip : ℕ) (before : List Bool) →
    trip ≡ trip_of cut → before ≡ set_at region (trip_of cut) → set (side_of catalogue cut side region) trip before ≡ region
undone catalogue cut side region trip before is was =
    ap (λ t. set (side_of catalogue cut side region) t before) is ∙ ap (set (side_of catalogue cut side region) (trip_of cut)) was ∙ cuts_are_undone catalogue cut side region

-- a side that was just taken
pub record TakesSide (catalogue : List (List ℕ)) (cut : Cut) (side : Side) (region : List (List Bool)) (taken : List TakenSide) (new : List TakenSide) (next : List (List Bool)) : Type 0 where
  pub left : left_in catalogue new next ≡ other_side catalogue cut side region ++ left_in catalogue taken region
  pub root : root_from new next ≡ root_from taken region
  pub are : AreTaken catalogue new next

pub takes_side : (catalogue : List (List ℕ)) (cut : Cut) (side : Side) (region : List (List Bool)) (taken new : List TakenSide) (next : List (List Bool)) (mark : Mark) →
    AreTaken catalogue taken region → IsProper catalogue region cut → next ≡ side_of catalogue cut side region → mark.trip ≡ trip_of cut → mark.before ≡ set_at region (trip_of cut) →
    new ≡ taken ++ record { cut = cut; side = side; mark = mark } ∷ [] → TakesSide catalogue cut side region taken new next
takes_side catalogue cut side region taken new next mark are proper cuts is was pushed =
    let one : TakenSide = record { cut = cut; side = side; mark = mark } in
    let back : before_last one next ≡ region = ap (before_last one) cuts ∙ undone catalogue cut side region mark.trip mark.before is was in
    record {
      left = ap (λ all. left_in catalogue all next) pushed ∙ left_in-last catalogue taken one next
          ∙ ap (λ r. other_side catalogue cut side r ++ left_in catalogue taken r) back;
      root = ap (λ all. root_from all next) pushed ∙ root_from-last taken one next ∙ ap (root_from taken) back;
      are = subst (λ all. AreTaken catalogue all next) (sym pushed) (taken_more catalogue taken one next
          (subst (AreTaken catalogue taken) (sym back) are) (subst (λ r. IsTakenIn catalogue r one) (sym back) (record { proper = proper; trip = is })));
    }

-- a cut whose numbers are in range is of a trip of the region
in_range : (catalogue : List (List ℕ)) (region : List (List Bool)) (cut : Cut) → IsInRange catalogue region cut → trip_of cut < length region
in_range catalogue region (Only trip comp) range = range.0
in_range catalogue region (AtMost trip unit_type count) range = range.0

-- the trip of the last side's mark is one of the region
trip_inside : (catalogue : List (List ℕ)) (taken : List TakenSide) (one : TakenSide) (region : List (List Bool)) → LastTaken catalogue taken one region → one.mark.trip < length region
trip_inside catalogue taken one region last = subst (λ trip. trip < length region) (sym last.last.trip)
    (subst (λ n. trip_of one.cut < n) (length-set region one.mark.trip one.mark.before) (in_range catalogue (before_last one region) one.cut last.last.proper.in_range))

-- ---- back from the last side

-- what is so after the last side was given back
pub record GivesBack (catalogue : List (List ℕ)) (all : List TakenSide) (region : List (List Bool)) (one : TakenSide) (taken : List TakenSide) (next : List (List Bool)) : Type 0 where
  pub inside : one.mark.trip < length region
  pub proper : next ≡ before_last one region → IsProper catalogue next one.cut
  pub marks : next ≡ before_last one region → AreTaken catalogue taken next
  pub root : next ≡ before_last one region → root_from taken next ≡ root_from all region
  pub left : next ≡ before_last one region → left_in catalogue all region ≡ other_side catalogue one.cut one.side next ++ left_in catalogue taken next

pub gives_back : (catalogue : List (List ℕ)) (all : List TakenSide) (region : List (List Bool)) (one : TakenSide) (taken : List TakenSide) (next : List (List Bool)) →
    AreTaken catalogue all region → all ≡ taken ++ one ∷ [] → GivesBack catalogue all region one taken next
gives_back catalogue all region one taken next are popped =
    let last : LastTaken catalogue taken one region = last_taken catalogue taken one region (subst (λ some. AreTaken catalogue some region) popped are) in
    record {
      inside = trip_inside catalogue taken one region last;
      proper = λ back. subst (λ r. IsProper catalogue r one.cut) (sym back) last.last.proper;
      marks = λ back. subst (AreTaken catalogue taken) (sym back) last.rest;
      root = λ back. ap (root_from taken) back ∙ sym (root_from-last taken one region) ∙ ap (λ some. root_from some region) (sym popped);
      left = λ back. ap (λ some. left_in catalogue some region) popped ∙ left_in-last catalogue taken one region
          ∙ ap (λ r. other_side catalogue one.cut one.side r ++ left_in catalogue taken r) (sym back);
    }

-- the right side of the last cut, whose left one was given back, is the first of the regions that were to come
pub goes_right : (catalogue : List (List ℕ)) (cut : Cut) (side : Side) (region : List (List Bool)) (regions : List (List (List Bool))) (taken new : List TakenSide) (next : List (List Bool)) →
    side ≡ Left → regions ≡ other_side catalogue cut side region ++ left_in catalogue taken region → next ≡ side_of catalogue cut Right region →
    left_in catalogue new next ≡ other_side catalogue cut Right region ++ left_in catalogue taken region → IsAtFirst catalogue regions new next
goes_right catalogue cut side region regions taken new next left are cuts rest =
    subst (λ all. IsAtFirst catalogue all new next) (sym (are ∙ ap (λ s. other_side catalogue cut s region ++ left_in catalogue taken region) left)) (cuts, rest)

-- a right side that was given back leaves no other
pub stays_right : (catalogue : List (List ℕ)) (cut : Cut) (side : Side) (region : List (List Bool)) (taken : List TakenSide) (regions : List (List (List Bool))) →
    side ≡ Right → regions ≡ other_side catalogue cut side region ++ left_in catalogue taken region → left_in catalogue taken region ≡ regions
stays_right catalogue cut side region taken regions right are = sym (are ∙ ap (λ s. other_side catalogue cut s region ++ left_in catalogue taken region) right)

-- ---- all the way back

-- the trips of the marks are ones of the region: that of the last, and those before
pub record LastInside (taken : List TakenSide) (one : TakenSide) (region : List (List Bool)) : Type 0 where
  pub last : one.mark.trip < length region
  pub rest : All (λ other. other.mark.trip < length region) taken

pub last_inside : (all taken : List TakenSide) (one : TakenSide) (region : List (List Bool)) → all ≡ taken ++ one ∷ [] → All (λ other. other.mark.trip < length region) all → LastInside taken one region
last_inside all taken one region popped inside =
    let both = All-pop (λ (other : TakenSide). other.mark.trip < length region) all taken (Some one) popped inside in
    record { last = both.1; rest = both.0 }

-- a region has as many trips as its root
pub length-root_from : (taken : List TakenSide) (region : List (List Bool)) → length (root_from taken region) ≡ length region
length-root_from [] region = refl
length-root_from (one ∷ taken) region = length-set (root_from taken region) one.mark.trip one.mark.before ∙ length-root_from taken region

pub taken_inside : (catalogue : List (List ℕ)) (taken : List TakenSide) (region : List (List Bool)) → AreTaken catalogue taken region → All (λ one. one.mark.trip < length region) taken
taken_inside catalogue [] region are = All-nil (λ (one : TakenSide). one.mark.trip < length region)
taken_inside catalogue (one ∷ taken) region are =
    All-cons (λ (other : TakenSide). other.mark.trip < length region) one taken
    (subst (λ n. one.mark.trip < n) (length-root_from (one ∷ taken) region) (subst (λ trip. trip < length (root_from (one ∷ taken) region)) (sym are.0.trip)
    (in_range catalogue (root_from (one ∷ taken) region) one.cut are.0.proper.in_range)))
    (taken_inside catalogue taken region are.1)
