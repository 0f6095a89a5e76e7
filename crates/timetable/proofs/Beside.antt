-- How many entries stay in the train at a turn, of units and of types alike, and what is given and taken beside them.
use Rattle.std.proofs.Common.{◌≡◌, ℕ, ◌-◌, ◌≤◌, arith, List, [], length, map, Bool, true, false, Option, Some, None, refl, sym, ap}
use Rattle.std.proofs.Common.{subst, ◌∙◌, unwrap_or}
use Rattle.std.specs.Prelude.{option_and_then, option_map, is_some, ◌&&◌, if◌then◌else◌}
use Rattle.std.proofs.lemmas.Bool.{and_from, cond-true, cond-false}
use Rattle.std.proofs.lemmas.List.{length-map, length-reverse, map-id}
use Rattle.rules.specs.declared.records.End.{End}
use Rattle.rules.specs.declared.records.LinkKind.{LinkKind}
use Rattle.rules.specs.declared.records.LinkKind.TheVariants.{Turn}
use Rattle.timetable.specs.Chains.{leads_from, leads_to}
use Rattle.timetable.specs.Links.{itself, list_of, turned, turn_of, kind_holds, given_by, taken_by}
use Rattle.timetable.specs.Beside.{AreBeside}
use Rattle.timetable.specs.Turns.{Parts, same, staying, beyond, parts_beside, kept_of, kept_length, may_shunt, parts_at}
use Rattle.timetable.specs.Turns.{turn_parts}
use Rattle.rules.proofs.Turning.{kept-is, staying-map, beyond-map}
use Rattle.timetable.proofs.TypeRule.{turned-map}

-- ---- the parts where so many stay

module _ {X : Type 0} (f : X → ℕ) (uncouple couple : End) (exchange : Bool) (arriving departing : List X) (n : ℕ) where
  abbrev stand_there : Bool
  stand_there = same (map f (staying uncouple arriving n)) (map f (staying couple departing n))

  abbrev are_few : Bool
  are_few = may_shunt exchange (length arriving - n) (length departing - n)

  parts_by_tests : parts_at uncouple couple exchange (map f arriving) (map f departing) n
      ≡ (if stand_there && are_few then Some (parts_beside uncouple couple (map f arriving) (map f departing) n) else None)
  parts_by_tests = rw (← staying-map f uncouple arriving n, ← staying-map f couple departing n, ← length-map arriving f, ← length-map departing f) refl

  -- the same entries stand at the kept places, and no more are shunted than may be
  pub stay : stand_there ≡ true → are_few ≡ true → Some (parts_beside uncouple couple (map f arriving) (map f departing) n) ≡ parts_at uncouple couple exchange (map f arriving) (map f departing) n
  stay same few = sym (parts_by_tests ∙ cond-true (stand_there && are_few) _ None (and_from _ _ same few))

  -- others stand there
  pub differ : stand_there ≡ false → None ≡ parts_at uncouple couple exchange (map f arriving) (map f departing) n
  differ others = sym (parts_by_tests ∙ cond-false (stand_there && are_few) _ None (ap (λ (b : Bool). b && are_few) others))

-- ---- of a link

-- the numbers of a list that turned round
pub turned_numbers : {X : Type 0} (f : X → ℕ) (r : Bool) (xs ys : List X) (zs : List ℕ) → ys ≡ turned r xs → map f xs ≡ zs → map f ys ≡ turned r zs
turned_numbers f r xs ys zs turns numbers = ap (map f) turns ∙ sym (turned-map f r xs) ∙ ap (turned r) numbers

pub few_turned : {X : Type 0} (n : ℕ) (r : Bool) (xs ys : List X) → ys ≡ turned r xs → length xs ≤ n → length ys ≤ n
few_turned n false xs ys turns few = subst (λ (zs : List _). length zs ≤ n) (sym turns) few
few_turned n true xs ys turns few = let long = length-reverse xs in subst (λ (zs : List _). length zs ≤ n) (sym turns) (omega arith)

module _ (type_of : ℕ → ℕ) (kind : LinkKind) (r : Bool) (lists : List (List ℕ)) (a b : ℕ) (uncouple couple : End) (exchange : Bool)
    (is : kind ≡ Turn a b uncouple couple exchange) (stays : Option ℕ) where
  -- by what a turn keeps
  pub beside : (kept : Option ℕ) (arriving departing : List ℕ)
      → kept ≡ kept_of kind (map type_of (turned r (list_of lists (leads_from kind)))) (map type_of (list_of lists (leads_to kind)))
      → arriving ≡ turned r (list_of lists a) → departing ≡ list_of lists b
      → option_map (parts_beside uncouple couple arriving departing) stays ≡ option_and_then (parts_at uncouple couple exchange arriving departing) kept
      → AreBeside type_of kind r lists stays
  unfolding turn_parts
  beside kept arriving departing kept_is arriving_is departing_is parts =
      subst (λ (k : LinkKind). AreBeside type_of k r lists stays) (sym is)
      (subst (λ (o : Option ℕ). option_map (parts_beside uncouple couple (turned r (list_of lists a)) (list_of lists b)) stays ≡ option_and_then (parts_at uncouple couple exchange (turned r (list_of lists a)) (list_of lists b)) o)
      (subst (λ (k : LinkKind). kept ≡ kept_of k (map type_of (turned r (list_of lists (leads_from k)))) (map type_of (list_of lists (leads_to k)))) is kept_is)
      (subst (λ (us : List ℕ). option_map (parts_beside uncouple couple (turned r (list_of lists a)) us) stays ≡ option_and_then (parts_at uncouple couple exchange (turned r (list_of lists a)) us) kept) departing_is
      (subst (λ (us : List ℕ). option_map (parts_beside uncouple couple us departing) stays ≡ option_and_then (parts_at uncouple couple exchange us departing) kept) arriving_is parts)))

  module _ (are : AreBeside type_of kind r lists stays) where
    are_beside : option_map (parts_beside uncouple couple (turned r (list_of lists a)) (list_of lists b)) stays ≡ turn_parts type_of uncouple couple exchange (turned r (list_of lists a)) (list_of lists b)
    are_beside = subst (λ (k : LinkKind). AreBeside type_of k r lists stays) is are

    -- the rule holds where some stay
    pub holds_where_some : is_some stays ≡ kind_holds type_of kind r lists
    holds_where_some =
        sym (ap (λ (k : LinkKind). kind_holds type_of k r lists) is ∙ ap is_some (sym are_beside) ∙ by stays)
      where
        by : (o : Option ℕ) → is_some (option_map (parts_beside uncouple couple (turned r (list_of lists a)) (list_of lists b)) o) ≡ is_some o
        by None = refl
        by (Some n) = refl

    -- what stays is kept, and nothing where the rule is broken
    pub stays_on : {X : Type 0} (f : X → ℕ) (arriving : List X) → map f arriving ≡ turned r (list_of lists a)
        → map f (unwrap_or (option_map (staying uncouple arriving) stays) []) ≡ (turn_of type_of uncouple couple exchange (turned r (list_of lists a)) (list_of lists b)).kept
    stays_on {X} f arriving e =
        by stays
        ∙ ap (λ (o : Option Parts). (unwrap_or o (record { kept = []; given = turned r (list_of lists a); taken = list_of lists b })).kept) are_beside
      where
        by : (o : Option ℕ) → map f (unwrap_or (option_map (staying uncouple arriving) o) [])
            ≡ (unwrap_or (option_map (parts_beside uncouple couple (turned r (list_of lists a)) (list_of lists b)) o) (record { kept = []; given = turned r (list_of lists a); taken = list_of lists b })).kept
        by None = refl
        by (Some n) = sym (staying-map f uncouple arriving n) ∙ ap (λ (us : List ℕ). staying uncouple us n) e

    -- what goes is given, and all where the rule is broken
    module _ {X : Type 0} (f : X → ℕ) where
      gone : (end : End) (xs : List X) (ys : List ℕ) → map f xs ≡ ys → (o : Option ℕ)
          → map f (unwrap_or (option_map (beyond end xs) o) xs) ≡ unwrap_or (option_map (beyond end ys) o) ys
      gone end xs ys e None = e
      gone end xs ys e (Some n) = sym (beyond-map f end xs n) ∙ ap (λ (us : List ℕ). beyond end us n) e

      pub goes : (arriving : List X) → map f arriving ≡ turned r (list_of lists a)
          → map f (unwrap_or (option_map (beyond uncouple arriving) stays) arriving) ≡ given_by type_of kind r lists
      goes arriving e =
          gone uncouple arriving (turned r (list_of lists a)) e stays ∙ by stays
          ∙ ap (λ (o : Option Parts). (unwrap_or o (record { kept = []; given = turned r (list_of lists a); taken = list_of lists b })).given) are_beside
          ∙ ap (λ (k : LinkKind). given_by type_of k r lists) (sym is)
        where
          by : (o : Option ℕ) → unwrap_or (option_map (beyond uncouple (turned r (list_of lists a))) o) (turned r (list_of lists a))
              ≡ (unwrap_or (option_map (parts_beside uncouple couple (turned r (list_of lists a)) (list_of lists b)) o) (record { kept = []; given = turned r (list_of lists a); taken = list_of lists b })).given
          by None = refl
          by (Some n) = refl

      -- what comes is taken, and all where the rule is broken
      pub comes : (departing : List X) → map f departing ≡ list_of lists b
          → map f (unwrap_or (option_map (beyond couple departing) stays) departing) ≡ taken_by type_of kind r lists
      comes departing e =
          gone couple departing (list_of lists b) e stays ∙ by stays
          ∙ ap (λ (o : Option Parts). (unwrap_or o (record { kept = []; given = turned r (list_of lists a); taken = list_of lists b })).taken) are_beside
          ∙ ap (λ (k : LinkKind). taken_by type_of k r lists) (sym is)
        where
          by : (o : Option ℕ) → unwrap_or (option_map (beyond couple (list_of lists b)) o) (list_of lists b)
              ≡ (unwrap_or (option_map (parts_beside uncouple couple (turned r (list_of lists a)) (list_of lists b)) o) (record { kept = []; given = turned r (list_of lists a); taken = list_of lists b })).taken
          by None = refl
          by (Some n) = refl

-- ---- of types

module _ (uncouple couple : End) (exchange : Bool) (arriving departing : List ℕ) (kept stays : Option ℕ) (kept_is : kept ≡ kept_length uncouple couple arriving departing)
    (parts : option_map (parts_beside uncouple couple (map itself arriving) (map itself departing)) stays
    ≡ option_and_then (parts_at uncouple couple exchange (map itself arriving) (map itself departing)) kept) where
  -- of themselves, types have the same types
  pub types_beside : option_map (parts_beside uncouple couple arriving departing) stays ≡ turn_parts itself uncouple couple exchange arriving departing
  unfolding turn_parts
  types_beside =
      subst (λ (xs : List ℕ). option_map (parts_beside uncouple couple xs departing) stays ≡ option_and_then (parts_at uncouple couple exchange xs departing) (kept_length uncouple couple (map itself arriving) (map itself departing))) (map-id arriving)
      (subst (λ (xs : List ℕ). option_map (parts_beside uncouple couple (map itself arriving) xs) stays ≡ option_and_then (parts_at uncouple couple exchange (map itself arriving) xs) (kept_length uncouple couple (map itself arriving) (map itself departing))) (map-id departing)
      (parts ∙ ap (option_and_then (parts_at uncouple couple exchange (map itself arriving) (map itself departing)))
      (kept_is ∙ sym (ap (λ (xs : List ℕ). kept_length uncouple couple xs (map itself departing)) (map-id arriving) ∙ ap (λ (xs : List ℕ). kept_length uncouple couple arriving xs) (map-id departing)))))

  -- so many types stay
  pub types_stay : ((n : ℕ) → stays ≡ Some n → kept ≡ Some n) → stays ≡ option_map (λ parts. length parts.kept) (turn_parts itself uncouple couple exchange arriving departing)
  types_stay are_kept = by stays are_kept ∙ ap (option_map (λ parts. length parts.kept)) types_beside
    where
      by : (o : Option ℕ) → ((n : ℕ) → o ≡ Some n → kept ≡ Some n) → o ≡ option_map (λ parts. length parts.kept) (option_map (parts_beside uncouple couple arriving departing) o)
      by None are = refl
      by (Some n) are = ap Some (sym (kept-is uncouple couple arriving departing n (sym kept_is ∙ are n refl)).1)
