-- The rule of a link stays where units get other numbers and keep their types, and the parts are those of before. So
-- the rule on units is the rule on their types too, and the parts are those of the types.
use Rattle.std.proofs.Common.{◌≡◌, ℕ, List, [], ◌∷◌, ◌++◌, length, map, reverse, Bool, true, false, Option, Some}
use Rattle.std.proofs.Common.{None, refl, sym, ap, ◌∙◌, slice_get, unwrap_or, cond}
use Rattle.std.specs.Prelude.{option_map, option_and_then, is_some, nat_le, ◌&&◌, ◌==◌}
use Rattle.std.proofs.lemmas.Bool.{and_parts, and_from, false≢true}
use Rattle.std.proofs.lemmas.List.{length-map, map-append, map-id, reverse-append}
use Rattle.std.proofs.lemmas.Option.{slice_get-map}
use Rattle.std.proofs.lemmas.Slice.Eq.{bytes_eq-Decides}
use Rattle.rules.specs.declared.records.End.{End}
use Rattle.rules.specs.declared.records.Link.{Link}
use Rattle.rules.specs.declared.records.LinkKind.{LinkKind}
use Rattle.rules.specs.declared.records.LinkKind.TheVariants.{Turn, Join, Split}
use Rattle.timetable.specs.Links.{list_of, itself, turn_of, turned, join_holds, split_holds, kind_holds, link_holds}
use Rattle.timetable.specs.Links.{kept_by, given_by, taken_by, link_out, link_into, outgoing, incoming}
use Rattle.timetable.specs.Links.{kept_with, given_with, taken_with}
use Rattle.timetable.specs.Lists.{has}
use Rattle.timetable.specs.Day.{Day}
use Rattle.timetable.specs.Turns.{Parts, same, turn_parts}
use Rattle.rules.proofs.Turning.{map_parts, turn_parts-renumbered}

-- a list that turned round
pub reverse-map : {X : Type 0} (f : X → ℕ) (xs : List X) → reverse (map f xs) ≡ map f (reverse xs)
reverse-map f [] = refl
reverse-map f (x ∷ xs) =
    reverse-append (f x ∷ []) (map f xs) ∙ ap (λ (ys : List ℕ). ys ++ f x ∷ []) (reverse-map f xs)
    ∙ sym (ap (map f) (reverse-append (x ∷ []) xs) ∙ map-append f (reverse xs) (x ∷ []))

pub turned-map : {X : Type 0} (f : X → ℕ) (reversed : Bool) (xs : List X) → turned reversed (map f xs) ≡ map f (turned reversed xs)
turned-map f true xs = reverse-map f xs
turned-map f false xs = refl

module _ (f : ℕ → ℕ) where
  same-map : (xs ys : List ℕ) → same xs ys ≡ true → same (map f xs) (map f ys) ≡ true
  same-map xs ys e = (bytes_eq-Decides (map f xs) (map f ys)).1 (ap (map f) ((bytes_eq-Decides xs ys).0 e))

  -- a join and a split of units are a join and a split of their types
  pub join-map : (first second departing : List ℕ) → join_holds first second departing ≡ true → join_holds (map f first) (map f second) (map f departing) ≡ true
  unfolding join_holds
  join-map first second departing e = rw (← map-append f first second) (same-map (first ++ second) departing e)

  pub split-map : (arriving first second : List ℕ) → split_holds arriving first second ≡ true → split_holds (map f arriving) (map f first) (map f second) ≡ true
  unfolding split_holds
  split-map arriving first second e =
      let outer = and_parts (same arriving (first ++ second) && nat_le 1 (length first)) (nat_le 1 (length second)) e in
      let inner = and_parts (same arriving (first ++ second)) (nat_le 1 (length first)) outer.0 in
      rw (← map-append f first second, length-map first f, length-map second f) (and_from _ _ (and_from _ _ (same-map arriving (first ++ second) inner.0) inner.1) outer.1)

  -- the list of a trip
  pub list_of-map : (plan : List (List ℕ)) (t : ℕ) → list_of (map (map f) plan) t ≡ map f (list_of plan t)
  unfolding list_of
  list_of-map plan t = ap (λ (o : Option (List ℕ)). unwrap_or o []) (slice_get-map (map f) plan t) ∙ of_option (slice_get plan t)
    where
      of_option : (o : Option (List ℕ)) → unwrap_or (option_map (map f) o) [] ≡ map f (unwrap_or o [])
      of_option None = refl
      of_option (Some us) = refl

choice-map : (f : ℕ → ℕ) (test : Bool) (us : List ℕ) → cond test (map f us) [] ≡ map f (cond test us [])
choice-map f true us = refl
choice-map f false us = refl

-- units with other numbers, of which each has its type
module _ (f type_of other_type : ℕ → ℕ) where
  abbrev pub KeepsTypes : List ℕ → Type 0
  KeepsTypes us = map other_type (map f us) ≡ map type_of us

  turned-keeps : (r : Bool) (us : List ℕ) → KeepsTypes us → KeepsTypes (turned r us)
  turned-keeps r us keeps =
      ap (map other_type) (sym (turned-map f r us)) ∙ sym (turned-map other_type r (map f us)) ∙ ap (λ (ms : List ℕ). turned r ms) keeps ∙ turned-map type_of r us

  module _ (uncouple couple : End) (exchange : Bool) (arriving departing : List ℕ) (arrive : KeepsTypes arriving) (depart : KeepsTypes departing) where
    -- where the rule of the turn holds
    turn_of-renumbered : is_some (turn_parts type_of uncouple couple exchange arriving departing) ≡ true
        → (is_some (turn_parts other_type uncouple couple exchange (map f arriving) (map f departing)) ≡ true)
        × (turn_of other_type uncouple couple exchange (map f arriving) (map f departing) ≡ map_parts f (turn_of type_of uncouple couple exchange arriving departing))
    turn_of-renumbered holds = at (turn_parts type_of uncouple couple exchange arriving departing) refl holds
      where
        at : (o : Option Parts) → turn_parts type_of uncouple couple exchange arriving departing ≡ o → is_some o ≡ true
            → (is_some (turn_parts other_type uncouple couple exchange (map f arriving) (map f departing)) ≡ true)
            × (turn_of other_type uncouple couple exchange (map f arriving) (map f departing) ≡ map_parts f (turn_of type_of uncouple couple exchange arriving departing))
        at None is h = absurd (false≢true h)
        at (Some parts) is h =
            let mapped = turn_parts-renumbered f type_of other_type uncouple couple exchange arriving departing parts arrive depart is in (
              ap is_some mapped,
              ap (λ (o : Option Parts). unwrap_or o (record { kept = []; given = map f arriving; taken = map f departing })) mapped
                  ∙ ap (λ (o : Option Parts). map_parts f (unwrap_or o (record { kept = []; given = arriving; taken = departing }))) (sym is),
            )

  module _ (plan : List (List ℕ)) (keeps : (t : ℕ) → KeepsTypes (list_of plan t)) where
    -- the rule of a kind of link
    kind-renumbered : (kind : LinkKind) (r : Bool) → kind_holds type_of kind r plan ≡ true → kind_holds other_type kind r (map (map f) plan) ≡ true
    kind-renumbered (Turn a b uncouple couple exchange) r holds =
        rw (list_of-map f plan a, list_of-map f plan b, turned-map f r (list_of plan a))
        (turn_of-renumbered uncouple couple exchange (turned r (list_of plan a)) (list_of plan b) (turned-keeps r (list_of plan a) (keeps a)) (keeps b) holds).0
    kind-renumbered (Join a1 a2 b) r holds =
        rw (list_of-map f plan a1, list_of-map f plan a2, list_of-map f plan b, turned-map f r (list_of plan a1), turned-map f r (list_of plan a2))
        (join-map f (turned r (list_of plan a1)) (turned r (list_of plan a2)) (list_of plan b) holds)
    kind-renumbered (Split a b1 b2) r holds =
        rw (list_of-map f plan a, list_of-map f plan b1, list_of-map f plan b2, turned-map f r (list_of plan a))
        (split-map f (turned r (list_of plan a)) (list_of plan b1) (list_of plan b2) holds)

    -- the link's rule
    pub link-renumbered : (link : Link) → link_holds type_of link plan ≡ true → link_holds other_type link (map (map f) plan) ≡ true
    unfolding link_holds
    link-renumbered link holds = kind-renumbered link.kind link.reverse holds

    -- what a turn keeps, gives and takes
    turn-renumbered : (r : Bool) (uncouple couple : End) (exchange : Bool) (a b : ℕ) → is_some (turn_parts type_of uncouple couple exchange (turned r (list_of plan a)) (list_of plan b)) ≡ true
        → turn_of other_type uncouple couple exchange (turned r (list_of (map (map f) plan) a)) (list_of (map (map f) plan) b) ≡ map_parts f (turn_of type_of uncouple couple exchange (turned r (list_of plan a)) (list_of plan b))
    turn-renumbered r uncouple couple exchange a b holds =
        ap (λ (us : List ℕ). turn_of other_type uncouple couple exchange (turned r us) (list_of (map (map f) plan) b)) (list_of-map f plan a)
        ∙ ap (λ (us : List ℕ). turn_of other_type uncouple couple exchange (turned r (map f (list_of plan a))) us) (list_of-map f plan b)
        ∙ ap (λ (us : List ℕ). turn_of other_type uncouple couple exchange us (map f (list_of plan b))) (turned-map f r (list_of plan a))
        ∙ (turn_of-renumbered uncouple couple exchange (turned r (list_of plan a)) (list_of plan b) (turned-keeps r (list_of plan a) (keeps a)) (keeps b) holds).1

    -- what is kept, given and taken by a link whose rule holds
    kept_by-renumbered : (kind : LinkKind) (r : Bool) (from to : ℕ) → kind_holds type_of kind r plan ≡ true → kept_by other_type kind r (map (map f) plan) from to ≡ map f (kept_by type_of kind r plan from to)
    kept_by-renumbered (Turn a b uncouple couple exchange) r from to holds =
        ap (λ (parts : Parts). cond ((from == a) && (to == b)) parts.kept []) (turn-renumbered r uncouple couple exchange a b holds)
        ∙ choice-map f ((from == a) && (to == b)) (turn_of type_of uncouple couple exchange (turned r (list_of plan a)) (list_of plan b)).kept
    kept_by-renumbered (Join a1 a2 b) r from to holds =
        ap (λ (us : List ℕ). cond (has from (a1 ∷ a2 ∷ []) && (to == b)) us []) (ap (λ (us : List ℕ). turned r us) (list_of-map f plan from) ∙ turned-map f r (list_of plan from))
        ∙ choice-map f (has from (a1 ∷ a2 ∷ []) && (to == b)) (turned r (list_of plan from))
    kept_by-renumbered (Split a b1 b2) r from to holds =
        ap (λ (us : List ℕ). cond ((from == a) && has to (b1 ∷ b2 ∷ [])) us []) (list_of-map f plan to)
        ∙ choice-map f ((from == a) && has to (b1 ∷ b2 ∷ [])) (list_of plan to)

    given_by-renumbered : (kind : LinkKind) (r : Bool) → kind_holds type_of kind r plan ≡ true → given_by other_type kind r (map (map f) plan) ≡ map f (given_by type_of kind r plan)
    given_by-renumbered (Turn a b uncouple couple exchange) r holds = ap (λ (parts : Parts). parts.given) (turn-renumbered r uncouple couple exchange a b holds)
    given_by-renumbered (Join a1 a2 b) r holds = refl
    given_by-renumbered (Split a b1 b2) r holds = refl

    taken_by-renumbered : (kind : LinkKind) (r : Bool) → kind_holds type_of kind r plan ≡ true → taken_by other_type kind r (map (map f) plan) ≡ map f (taken_by type_of kind r plan)
    taken_by-renumbered (Turn a b uncouple couple exchange) r holds = ap (λ (parts : Parts). parts.taken) (turn-renumbered r uncouple couple exchange a b holds)
    taken_by-renumbered (Join a1 a2 b) r holds = refl
    taken_by-renumbered (Split a b1 b2) r holds = refl

    -- what is kept, given and taken on a day, where each link's rule holds
    module _ (day : Day) (holds : (l : ℕ) (link : Link) → slice_get day.links l ≡ Some link → link_holds type_of link plan ≡ true) where
      kind_at : (o : Option ℕ) (link : Link) → option_and_then (slice_get day.links) o ≡ Some link → kind_holds type_of link.kind link.reverse plan ≡ true
      unfolding link_holds
      kind_at None link e = absurd cc
      kind_at (Some l) link e = holds l link e

      pub kept-renumbered : (a b : ℕ) → kept_with other_type day (map (map f) plan) a b ≡ map f (kept_with type_of day plan a b)
      unfolding kept_with
      kept-renumbered a b = of_link (link_out day a) refl
        where
          of_link : (o : Option Link) → link_out day a ≡ o
              → unwrap_or (option_map (λ link. kept_by other_type link.kind link.reverse (map (map f) plan) a b) o) [] ≡ map f (unwrap_or (option_map (λ link. kept_by type_of link.kind link.reverse plan a b) o) [])
          of_link None e = refl
          of_link (Some link) e = kept_by-renumbered link.kind link.reverse a b (kind_at (outgoing day a) link e)

      pub given-renumbered : (t : ℕ) → given_with other_type day (map (map f) plan) t ≡ map f (given_with type_of day plan t)
      unfolding given_with
      given-renumbered t = of_link (link_out day t) refl
        where
          of_link : (o : Option Link) → link_out day t ≡ o
              → unwrap_or (option_map (λ link. given_by other_type link.kind link.reverse (map (map f) plan)) o) (list_of (map (map f) plan) t) ≡ map f (unwrap_or (option_map (λ link. given_by type_of link.kind link.reverse plan) o) (list_of plan t))
          of_link None e = list_of-map f plan t
          of_link (Some link) e = given_by-renumbered link.kind link.reverse (kind_at (outgoing day t) link e)

      pub taken-renumbered : (t : ℕ) → taken_with other_type day (map (map f) plan) t ≡ map f (taken_with type_of day plan t)
      unfolding taken_with
      taken-renumbered t = of_link (link_into day t) refl
        where
          of_link : (o : Option Link) → link_into day t ≡ o
              → unwrap_or (option_map (λ link. taken_by other_type link.kind link.reverse (map (map f) plan)) o) (list_of (map (map f) plan) t) ≡ map f (unwrap_or (option_map (λ link. taken_by type_of link.kind link.reverse plan) o) (list_of plan t))
          of_link None e = list_of-map f plan t
          of_link (Some link) e = taken_by-renumbered link.kind link.reverse (kind_at (incoming day t) link e)

-- ---- the rule on units is the rule on their types

module _ (f : ℕ → ℕ) where
  pub link-map : (link : Link) (plan : List (List ℕ)) → link_holds f link plan ≡ true → link_holds itself link (map (map f) plan) ≡ true
  link-map link plan holds = link-renumbered f f itself plan (λ t. map-id (map f (list_of plan t))) link holds

  module _ (day : Day) (plan : List (List ℕ)) (holds : (l : ℕ) (link : Link) → slice_get day.links l ≡ Some link → link_holds f link plan ≡ true) where
    pub given-map : (t : ℕ) → given_with itself day (map (map f) plan) t ≡ map f (given_with f day plan t)
    given-map t = given-renumbered f f itself plan (λ t. map-id (map f (list_of plan t))) day holds t

    pub taken-map : (t : ℕ) → taken_with itself day (map (map f) plan) t ≡ map f (taken_with f day plan t)
    taken-map t = taken-renumbered f f itself plan (λ t. map-id (map f (list_of plan t))) day holds t
