-- One node more that is reached.
use Rattle.std.proofs.Common.{◌≡◌, ◌≢◌, ℕ, zero, suc, ◌+◌, ◌^◌, ◌≤◌, ◌<◌, Bool, true, false, List, [], ◌∷◌, length, get_or, set, refl, sym, ap, ◌∙◌, subst, arith, inl, inr}
use Rattle.std.proofs.Common.{Option, Some, None, is_some, is_none, option_map, unwrap_or, length-set}
use Rattle.std.specs.Prelude.{if◌then◌else◌, ◌==◌, ◌||◌, cond, take}
use Rattle.std.specs.List.{All, count_by}
use Rattle.std.proofs.lemmas.List.Elements.{All-more}
use Rattle.std.proofs.lemmas.Bool.{cases_Bool, cases_eq, cond-true, cond-false, eq-eqb, false≢true}
use Rattle.std.proofs.lemmas.List.{get_or-set_same, get_or-set_other}
use Rattle.std.proofs.lemmas.List.Sums.{sum_by-set}
use Rattle.flow_network.specs.declared.network.Arc.{Arc}
use Rattle.flow_network.specs.declared.reach.Step.{Step}
use Rattle.flow_network.specs.Steps.{CanReach, ClosesBoth, IsReaching, LeadsTo, has, head_of, has_residual, rank_of, step_to, tail_of}

-- ---- tests

pub neither : (a b : Bool) → (a || b) ≡ false → (a ≡ false) × (b ≡ false)
neither true b h = absurd cc
neither false b h = (refl, h)

pub not_some : (o : Option Step) → is_some o ≡ false → o ≡ None
not_some None h = refl
not_some (Some s) h = absurd cc

some_is : (o : Option Step) → is_some o ≡ true → (s : Step) × (o ≡ Some s)
some_is None h = absurd cc
some_is (Some s) h = (s, refl)

pub same_some : {s t : Step} → Some s ≡ Some t → s ≡ t
same_some e = cc

pub no_none : {s : Step} → None ≡ Some s → ⊥
no_none e = absurd cc

pub differ : (a b : ℕ) → (a == b) ≡ false → a ≢ b
differ a b h e = false≢true (sym h ∙ eq-eqb a b e)

-- ---- a node with its step

module _ (arcs : List Arc) (nodes source found : ℕ) (steps : List (Option Step)) (number : ℕ) (is_along : Bool) (h : ℕ) (reaching : IsReaching arcs nodes source steps found) (below : h < length steps)
    (new : has source steps h ≡ false) where
  abbrev s : Step
  s = record { arc = number; is_along = is_along; rank = found }

  abbrev more : List (Option Step)
  more = set steps h (Some s)

  here : step_to more h ≡ Some s
  here = get_or-set_same steps h (Some s) None below

  other : (n : ℕ) → n ≢ h → step_to more n ≡ step_to steps n
  other n differs = get_or-set_other steps h n (Some s) None differs

  none_here : step_to steps h ≡ None
  none_here = not_some (step_to steps h) (neither (h == source) (is_some (step_to steps h)) new).1

  not_source : h ≢ source
  not_source = differ h source (neither (h == source) (is_some (step_to steps h)) new).0

  still : (n : ℕ) → has source steps n ≡ true → has source more n ≡ true
  still n reached = elim (cases_eq n h) [
    | inl same ↦ absurd (false≢true (sym new ∙ sym (ap (has source steps) same) ∙ reached))
    | inr differs ↦ ap (λ (o : Option Step). (n == source) || is_some o) (other n differs) ∙ reached
  ]

  rank_same : (n : ℕ) → has source steps n ≡ true → rank_of source more n ≡ rank_of source steps n
  rank_same n reached = elim (cases_eq n h) [
    | inl same ↦ absurd (false≢true (sym new ∙ sym (ap (has source steps) same) ∙ reached))
    | inr differs ↦ ap (λ (o : Option Step). if n == source then 0 else unwrap_or (option_map (λ step. step.rank) o) 0) (other n differs)
  ]

  rank_less : (n : ℕ) → has source steps n ≡ true → rank_of source steps n < found
  rank_less n reached = elim (cases_Bool (n == source)) [
    | inl is ↦ omega (arith, reaching.some, cond-true {A = ℕ} (n == source) 0 (unwrap_or (option_map (λ step. step.rank) (step_to steps n)) 0) is)
    | inr isnt ↦
        let step = some_is (step_to steps n) (sym (ap (λ (b : Bool). b || is_some (step_to steps n)) isnt) ∙ reached) in
        let rank : rank_of source steps n ≡ step.0.rank =
        cond-false {A = ℕ} (n == source) 0 (unwrap_or (option_map (λ step. step.rank) (step_to steps n)) 0) isnt
        ∙ ap (λ (o : Option Step). unwrap_or (option_map (λ step. step.rank) o) 0) step.1 in
        omega (arith, rank, reaching.ranks n step.0 step.1)
  ]

  leads_still : (n : ℕ) (step : Step) → LeadsTo arcs source steps n step → LeadsTo arcs source more n step
  leads_still n step leads = record {
    there = leads.there;
    head = leads.head;
    passes = leads.passes;
    from = λ d. still (tail_of step.is_along (get_or arcs step.arc d)) (leads.from d);
    earlier = λ d. (let same = rank_same (tail_of step.is_along (get_or arcs step.arc d)) (leads.from d) in let less = leads.earlier d in omega (arith, same, less));
  }

  pub fewer_none : count_by is_none more + 1 ≡ count_by is_none steps
  fewer_none =
      let sum = sum_by-set (λ (o : Option Step). cond (is_none o) 1 0) steps h (Some s) None below in
      let was = ap (λ (o : Option Step). cond {A = ℕ} (is_none o) 1 0) none_here in
      omega (arith, sum, was)

  pub extended : (d : Arc) → number < length arcs → h ≡ head_of is_along (get_or arcs number d) → has source steps (tail_of is_along (get_or arcs number d)) ≡ true
      → has_residual is_along (get_or arcs number d) ≡ true → IsReaching arcs nodes source more (found + 1)
  extended d there head from opens = record {
    long = length-set steps h (Some s) ∙ reaching.long;
    start = other source (λ e. not_source (sym e)) ∙ reaching.start;
    traced = λ n step to. elim (cases_eq n h) [
      | inl same ↦
          let step_is : s ≡ step = same_some (sym here ∙ ap (step_to more) (sym same) ∙ to) in
          subst (λ (x : Step). LeadsTo arcs source more n x) step_is (subst (λ (k : ℕ). LeadsTo arcs source more k s) (sym same) leads)
      | inr differs ↦ leads_still n step (reaching.traced n step (sym (other n differs) ∙ to))
    ];
    some = omega arith;
    ranks = λ n step to. elim (cases_eq n h) [
      | inl same ↦
          let rank : found ≡ step.rank = ap (λ (x : Step). x.rank) (same_some (sym here ∙ ap (step_to more) (sym same) ∙ to)) in
          omega (arith, rank)
      | inr differs ↦ (let less = reaching.ranks n step (sym (other n differs) ∙ to) in omega (arith, less))
    ];
    room = (let room = reaching.room in omega (arith, room, fewer_none));
  }
    where
      at : (e : Arc) → get_or arcs number e ≡ get_or arcs number d
      at e = get_any arcs number e there
        where
          get_any : (xs : List Arc) (i : ℕ) (e : Arc) → i < length xs → get_or xs i e ≡ get_or xs i d
          get_any [] i e below = absurd (omega (arith, below))
          get_any (x ∷ xs) zero e below = refl
          get_any (x ∷ xs) (suc i) e below = get_any xs i e (omega (arith, below))

      leads : LeadsTo arcs source more h s
      leads = record {
        there = there;
        head = λ e. ap (head_of is_along) (at e) ∙ sym head;
        passes = λ e. ap (has_residual is_along) (at e) ∙ opens;
        from = λ e. ap (λ (a : Arc). has source more (tail_of is_along a)) (at e) ∙ still (tail_of is_along (get_or arcs number d)) from;
        earlier = λ e. (
            let same = ap (λ (a : Arc). rank_of source more (tail_of is_along a)) (at e) in
            let kept = rank_same (tail_of is_along (get_or arcs number d)) from in
            let less = rank_less (tail_of is_along (get_or arcs number d)) from in
            omega (arith, same, kept, less));
      }

pub head_below : (is_along : Bool) (arc : Arc) (n : ℕ) → (arc.from < n) × (arc.to < n) → head_of is_along arc < n
head_below true arc n ends = ends.1
head_below false arc n ends = ends.0

abbrev pub no_arc : Arc
no_arc = record { from = 0; to = 0; capacity = 0; flow = 0 }

-- ---- more can be reached still

pub can_from : (arcs : List Arc) (nodes source : ℕ) (steps : List (Option Step)) (found : ℕ) → nodes < 2 ^ 32 → source < nodes → All (λ arc. (arc.from < nodes) × (arc.to < nodes)) arcs → IsReaching arcs nodes source steps found
    → CanReach arcs source steps found
can_from arcs nodes source steps found few start within reaching =
    let long = sym reaching.long in
    record {
      few = subst (λ (n : ℕ). n < 2 ^ 32) long few;
      start = subst (λ (n : ℕ). source < n) long start;
      between = subst (λ (n : ℕ). All (λ arc. (arc.from < n) × (arc.to < n)) arcs) long within;
      reaching = subst (λ (n : ℕ). IsReaching arcs n source steps found) long reaching;
    }

pub can_still : (arcs : List Arc) (source : ℕ) (before steps : List (Option Step)) (found_before found : ℕ) → CanReach arcs source before found_before → IsReaching arcs (length before) source steps found → CanReach arcs source steps found
can_still arcs source before steps found_before found can reaching = can_from arcs (length before) source steps found can.few can.start can.between reaching

-- ---- a pass over the arcs

-- what the arcs so far lead on to is reached, from where so many nodes were not
pub record IsPassing (arcs : List Arc) (nodes source before : ℕ) (more : Bool) (number : ℕ) (steps : List (Option Step)) (found : ℕ) : Type 0 where
  pub reaching : IsReaching arcs nodes source steps found
  pub fewer : count_by is_none steps ≤ before
  pub some_more : more ≡ true → count_by is_none steps < before
  pub closes : more ≡ false → All (ClosesBoth source steps) (take number arcs)

pub passed_on : (arcs : List Arc) (nodes source before : ℕ) (more more' result : Bool) (number : ℕ) (steps steps' : List (Option Step)) (found found' : ℕ) → number < length arcs
    → IsPassing arcs nodes source before more number steps found → IsReaching arcs (length steps) source steps' found' → count_by is_none steps' ≤ count_by is_none steps
    → (result ≡ true → count_by is_none steps' < count_by is_none steps) → (result ≡ false → steps' ≡ steps) → (result ≡ false → (d : Arc) → ClosesBoth source steps' (get_or arcs number d))
    → (result ≡ true → more' ≡ true) → (result ≡ false → more' ≡ more) → IsPassing arcs nodes source before more' (number + 1) steps' found'
passed_on arcs nodes source before more more' result number steps steps' found found' below was reaching fewer some same closes goes stays = elim (cases_Bool result) [
  | inl found_more ↦ record {
    reaching = subst (λ (n : ℕ). IsReaching arcs n source steps' found') was.reaching.long reaching;
    fewer = (let few = was.fewer in omega (arith, few, fewer));
    some_more = λ _. (let few = was.fewer in let less = some found_more in omega (arith, few, less));
    closes = λ none. absurd (false≢true (sym none ∙ goes found_more));
  }
  | inr none_more ↦ record {
    reaching = subst (λ (n : ℕ). IsReaching arcs n source steps' found') was.reaching.long reaching;
    fewer = (let few = was.fewer in omega (arith, few, fewer));
    some_more = λ is. (let less = was.some_more (sym (stays none_more) ∙ is) in omega (arith, less, fewer));
    closes = λ none. All-more (ClosesBoth source steps') arcs number no_arc below
        (subst (λ (ss : List (Option Step)). All (ClosesBoth source ss) (take number arcs)) (sym (same none_more)) (was.closes (sym (stays none_more) ∙ none)))
        (closes none_more no_arc);
  }
]
