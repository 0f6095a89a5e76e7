-- The compositions of a day are a tree at each end: what a composition is without its last unit at the end is a
-- composition with a lower number, or has no units.
use Rattle.std.proofs.Common.{◌≡◌, ◌≢◌, ℕ, ◌+◌, ◌<◌, ◌≤◌, ◌⊎◌, List, [], ◌∷◌, ◌++◌, length, take, get_or, Bool}
use Rattle.std.proofs.Common.{true, false, refl, sym, ap, ◌∙◌, subst, arith, inl, inr, append_assoc, append-nil}
use Rattle.std.proofs.Common.{length-append, Some, ℤ, Contains}
use Rattle.std.proofs.lemmas.Bool.{cases_eq, cases_lt, cases_order}
use Rattle.std.proofs.lemmas.List.{get_or_default, get_or_past}
use Rattle.std.proofs.lemmas.Option.{unwrap_or-slice_get}
use Rattle.std.proofs.Math.Seq.{take-append_seam}
use Rattle.rules.specs.declared.records.End.{End}
use Rattle.rules.specs.declared.records.End.TheVariants as at
use Rattle.compositions.specs.Catalogue.{comes_before}
use Rattle.compositions.specs.Composition.{fits_in}
use Rattle.compositions.proofs.Fitting.{Fits-from_test, last_apart}
use Rattle.compositions.proofs.Listing.{catalogue_listed}
use Rattle.compositions.proofs.Order.{before_irreflexive, before_shorter, before_transitive}
use Rattle.timetable.specs.Compositions.{compositions_of, composition_at, greatest_platform}
use Rattle.timetable.specs.Day.{Day}
use Rattle.timetable.specs.Links.{turned}
use Rattle.timetable.specs.Turns.{Consists}
use Rattle.transitions.proofs.Kept.{length-turned, turned_twice}
use Rattle.transitions.proofs.Numbers.{at_number, same_place}
use Rattle.transitions.proofs.PartsFit.{left_fits, right_fits}
use Rattle.price_bound.specs.CompositionTrees.{AreRests, AreTurnedPlaces, IsMadeOf, IsUnitMore}
use Rattle.price_bound.specs.LeastOverTrees.{IsLeastOver, IsOver}
use Rattle.price_bound.proofs.LeastOverTrees.{IsTree, least_same}

-- ---- lists

pub length_consists : (end : End) (whole stays goes : List ℕ) → Consists end whole stays goes → length whole ≡ length stays + length goes
length_consists at.None whole stays goes (all, none) = omega (arith, ap length all, ap length none)
length_consists at.Rear whole stays goes is = ap length is ∙ length-append stays goes
length_consists at.Front whole stays goes is = omega (arith, ap length is, length-append goes stays)

without_last : (xs ys : List ℕ) (x y : ℕ) → xs ++ x ∷ [] ≡ ys ++ y ∷ [] → xs ≡ ys
without_last xs ys x y e =
    let long : length xs ≡ length ys = omega (arith, ap length e, length-append xs (x ∷ []), length-append ys (y ∷ [])) in
    sym (take-append_seam xs (x ∷ [])) ∙ ap (take (length xs)) e ∙ ap (λ (n : ℕ). take n (ys ++ y ∷ [])) long ∙ take-append_seam ys (y ∷ [])

tail_is : (x y : ℕ) (xs ys : List ℕ) → x ∷ xs ≡ y ∷ ys → xs ≡ ys
tail_is x y xs ys e = cc

-- what a whole is made of is the whole, or is a part of its rest
less_parts : (end : End) (whole rest part more : List ℕ) (unit : ℕ) → IsUnitMore end whole rest unit → Consists end whole part more
    → (whole ≡ part) ⊎ ((less : List ℕ) × Consists end rest part less)
less_parts at.None whole rest part more unit is consists = inl consists.0
less_parts at.Rear whole rest part [] unit is consists = inl (consists ∙ append-nil part)
less_parts at.Rear whole rest part (x ∷ xs) unit is consists =
    let (front, last, apart, long) = last_apart x xs in
    let e : (part ++ front) ++ last ∷ [] ≡ rest ++ unit ∷ [] =
    append_assoc part front (last ∷ []) ∙ ap (λ (ms : List ℕ). part ++ ms) (sym apart) ∙ sym consists ∙ is in
    inr (front, sym (without_last (part ++ front) rest last unit e))
less_parts at.Front whole rest part [] unit is consists = inl consists
less_parts at.Front whole rest part (x ∷ xs) unit is consists = inr (xs, tail_is unit x rest (xs ++ part) (sym is ∙ consists))

-- a part of the rest is a part of the whole
less_more : (end : End) (whole rest part less : List ℕ) (unit : ℕ) → 1 ≤ length part → IsUnitMore end whole rest unit → Consists end rest part less
    → (more : List ℕ) × Consists end whole part more
less_more at.None whole rest part less unit some is consists = absurd (omega (arith, some, ap length is, ap length consists.0))
less_more at.Rear whole rest part less unit some is consists =
    (less ++ unit ∷ [], is ∙ ap (λ (ms : List ℕ). ms ++ unit ∷ []) consists ∙ append_assoc part less (unit ∷ []))
less_more at.Front whole rest part less unit some is consists = (unit ∷ less, is ∙ ap (λ (ms : List ℕ). unit ∷ ms) consists)

-- what is made of a whole is made of its rest, with a unit or more
less_join : (end : End) (longer whole rest more : List ℕ) (unit : ℕ) → 1 ≤ length rest → IsUnitMore end whole rest unit → Consists end longer whole more
    → (much : List ℕ) × Consists end longer rest much × (1 ≤ length much)
less_join at.None longer whole rest more unit some is consists = absurd (omega (arith, some, ap length is))
less_join at.Rear longer whole rest more unit some is consists =
    (unit ∷ more, consists ∙ ap (λ (ms : List ℕ). ms ++ more) is ∙ append_assoc rest (unit ∷ []) more, omega arith)
less_join at.Front longer whole rest more unit some is consists =
    (more ++ unit ∷ [], consists ∙ ap (λ (ms : List ℕ). more ++ ms) is ∙ sym (append_assoc more (unit ∷ []) rest), omega (arith, length-append more (unit ∷ [])))

-- what is made of a rest is the rest, or is made of one whose rest it is
pub record IsBetween (end : End) (longer rest : List ℕ) : Type 0 where
  pub whole : List ℕ
  pub unit : ℕ
  pub more : List ℕ
  pub is : IsUnitMore end whole rest unit
  pub consists : Consists end longer whole more
  pub some : 1 ≤ length whole

less_along : (end : End) (longer rest more : List ℕ) → Consists end longer rest more → (longer ≡ rest) ⊎ IsBetween end longer rest
less_along at.None longer rest more consists = inl consists.0
less_along at.Rear longer rest [] consists = inl (consists ∙ append-nil rest)
less_along at.Rear longer rest (x ∷ xs) consists = inr (record {
  whole = rest ++ x ∷ [];
  unit = x;
  more = xs;
  is = refl;
  consists = consists ∙ sym (append_assoc rest (x ∷ []) xs);
  some = omega (arith, length-append rest (x ∷ []));
})
less_along at.Front longer rest [] consists = inl consists
less_along at.Front longer rest (x ∷ xs) consists =
    let (front, last, apart, long) = last_apart x xs in
    inr (record {
      whole = last ∷ rest;
      unit = last;
      more = front;
      is = refl;
      consists = consists ∙ ap (λ (ms : List ℕ). ms ++ rest) apart ∙ append_assoc front (last ∷ []) rest;
      some = omega arith;
    })

-- there is one rest
less_one : (end : End) (whole rest other : List ℕ) (x y : ℕ) → 1 ≤ length rest → IsUnitMore end whole rest x → IsUnitMore end whole other y → other ≡ rest
less_one at.None whole rest other x y some is is_too = absurd (omega (arith, some, ap length is))
less_one at.Rear whole rest other x y some is is_too = without_last other rest y x (sym is_too ∙ is)
less_one at.Front whole rest other x y some is is_too = tail_is y x other rest (sym is_too ∙ is)

-- a rest with units is shorter
less_long : (end : End) (whole rest : List ℕ) (unit : ℕ) → 1 ≤ length rest → IsUnitMore end whole rest unit → length rest < length whole
less_long at.None whole rest unit some is = absurd (omega (arith, some, ap length is))
less_long at.Rear whole rest unit some is = omega (arith, ap length is, length-append rest (unit ∷ []))
less_long at.Front whole rest unit some is = omega (arith, ap length is)

-- ---- numbers

module _ (day : Day) where
  listed_fits : (comp : ℕ) → comp < length (compositions_of day) → fits_in day.types (greatest_platform day) (composition_at day comp) ≡ true
  listed_fits comp listed =
      subst (λ (ms : List ℕ). fits_in day.types (greatest_platform day) ms ≡ true) (sym (unwrap_or-slice_get (compositions_of day) comp []))
      ((catalogue_listed day.types (greatest_platform day)).listed.fit comp [] listed)

  pub listed_some : (comp : ℕ) → comp < length (compositions_of day) → 1 ≤ length (composition_at day comp)
  listed_some comp listed = (Fits-from_test day.types (greatest_platform day) (composition_at day comp) (listed_fits comp listed)).some

  pub number_once : (a b : ℕ) → a < length (compositions_of day) → b < length (compositions_of day) → composition_at day a ≡ composition_at day b → a ≡ b
  number_once a b listed listed_too same =
      same_place (compositions_of day) (catalogue_listed day.types (greatest_platform day)).listed.in_order a b (composition_at day b)
      (at_number day a listed ∙ ap (λ (ms : List ℕ). Some ms) same) (at_number day b listed_too)

  pub number_past : (comp : ℕ) → length (compositions_of day) ≤ comp → composition_at day comp ≡ []
  number_past comp past = unwrap_or-slice_get (compositions_of day) comp [] ∙ get_or_past (compositions_of day) comp [] past

  -- a number with units is one of a composition
  with_units : (comp : ℕ) → 1 ≤ length (composition_at day comp) → comp < length (compositions_of day)
  with_units comp some = elim (cases_lt comp (length (compositions_of day))) [
    | inl listed ↦ listed
    | inr past ↦ absurd (omega (arith, some, ap length (number_past comp past)))
  ]

  -- what fits has a number
  number_fits : (ms : List ℕ) → fits_in day.types (greatest_platform day) ms ≡ true → (comp : ℕ) × (comp < length (compositions_of day)) × (composition_at day comp ≡ ms)
  number_fits ms fits =
      let there = (catalogue_listed day.types (greatest_platform day)).complete ms fits in
      (there.0, there.1, unwrap_or-slice_get (compositions_of day) there.0 [] ∙ get_or_default (compositions_of day) there.0 [] ms there.1 ∙ there.2)

  part_fits : (end : End) (whole part more : List ℕ) → fits_in day.types (greatest_platform day) whole ≡ true → 1 ≤ length part → Consists end whole part more
      → fits_in day.types (greatest_platform day) part ≡ true
  part_fits at.None whole part more fits some consists = subst (λ (ms : List ℕ). fits_in day.types (greatest_platform day) ms ≡ true) consists.0 fits
  part_fits at.Rear whole part more fits some consists = left_fits day.types (greatest_platform day) false whole part more fits consists some
  part_fits at.Front whole part more fits some consists = right_fits day.types (greatest_platform day) false whole more part fits consists some

  -- a composition without some of its units is one
  pub part_number : (end : End) (comp : ℕ) (part more : List ℕ) → comp < length (compositions_of day) → 1 ≤ length part → Consists end (composition_at day comp) part more
      → (number : ℕ) × (number < length (compositions_of day)) × (composition_at day number ≡ part)
  part_number end comp part more listed some consists =
      number_fits part (part_fits end (composition_at day comp) part more (listed_fits comp listed) some consists)

  -- so is a composition after a reversal
  pub turned_there : (r : Bool) (comp : ℕ) → comp < length (compositions_of day) → Contains (compositions_of day) (turned r (composition_at day comp))
  turned_there r comp listed =
      (catalogue_listed day.types (greatest_platform day)).complete (turned r (composition_at day comp))
      (left_fits day.types (greatest_platform day) r (composition_at day comp) (turned r (composition_at day comp)) [] (listed_fits comp listed)
      (sym (append-nil (turned r (composition_at day comp)))) (omega (arith, length-turned r (composition_at day comp), listed_some comp listed)))

  pub part_there : (end : End) (comp : ℕ) (part more : List ℕ) → comp < length (compositions_of day) → 1 ≤ length part → Consists end (composition_at day comp) part more
      → Contains (compositions_of day) part
  part_there end comp part more listed some consists =
      (catalogue_listed day.types (greatest_platform day)).complete part (part_fits end (composition_at day comp) part more (listed_fits comp listed) some consists)

  -- places after a reversal, where the numbers are given
  pub turned_once : (r : Bool) (place : ℕ → ℕ) → AreTurnedPlaces day r place → (a b : ℕ) → a < length (compositions_of day) → b < length (compositions_of day)
      → place a ≡ place b → a ≡ b
  turned_once r place are a b listed listed_too same =
      number_once a b listed listed_too
      (sym (turned_twice r (composition_at day a)) ∙ ap (turned r) (sym (are a listed).is ∙ ap (composition_at day) same ∙ (are b listed_too).is)
      ∙ turned_twice r (composition_at day b))

  pub turned_back : (r : Bool) (place : ℕ → ℕ) → AreTurnedPlaces day r place → (comp : ℕ) → comp < length (compositions_of day)
      → (place comp < length (compositions_of day)) × (composition_at day comp ≡ turned r (composition_at day (place comp))) × (place (place comp) ≡ comp)
  turned_back r place are comp listed =
      let there : place comp < length (compositions_of day) = (are comp listed).listed in
      let back : composition_at day comp ≡ turned r (composition_at day (place comp)) =
      sym (turned_twice r (composition_at day comp)) ∙ ap (turned r) (sym (are comp listed).is) in
      (there, back, number_once (place (place comp)) comp (are (place comp) there).listed listed ((are (place comp) there).is ∙ sym back))

  -- fewer units have a lower number
  pub fewer_lower : (a b : ℕ) → a < length (compositions_of day) → b < length (compositions_of day) → length (composition_at day a) < length (composition_at day b) → a < b
  fewer_lower a b listed listed_too fewer = elim (cases_order a b) [
    | inl same ↦ absurd (omega (arith, fewer, ap (λ (k : ℕ). length (composition_at day k)) same))
    | inr differ ↦ elim differ [
      | inl less ↦ less
      | inr more ↦
          let before : comes_before (get_or (compositions_of day) b []) (get_or (compositions_of day) a []) ≡ true =
          (catalogue_listed day.types (greatest_platform day)).listed.in_order b a [] more listed in
          let here : composition_at day a ≡ get_or (compositions_of day) a [] = unwrap_or-slice_get (compositions_of day) a [] in
          let there : composition_at day b ≡ get_or (compositions_of day) b [] = unwrap_or-slice_get (compositions_of day) b [] in
          let after : comes_before (get_or (compositions_of day) a []) (get_or (compositions_of day) b []) ≡ true =
          before_shorter (get_or (compositions_of day) a []) (get_or (compositions_of day) b []) (omega (arith, fewer, ap length here, ap length there)) in
          absurd (before_irreflexive (get_or (compositions_of day) a [])
          (before_transitive (get_or (compositions_of day) a []) (get_or (compositions_of day) b []) (get_or (compositions_of day) a []) after before))
    ]
  ]

  pub made_of_listed : (end : End) (comp part : ℕ) → IsMadeOf day end comp part → comp < length (compositions_of day)
  made_of_listed end comp part of =
      with_units comp (omega (arith, listed_some part of.listed, length_consists end (composition_at day comp) (composition_at day part) of.more of.is))

-- ---- trees

module _ (day : Day) (end : End) (rest : ℕ → ℕ) (rests : AreRests day end rest) where
  abbrev comps : ℕ
  comps = length (compositions_of day)

  abbrev Of : ℕ → ℕ → Type 0
  Of comp part = IsMadeOf day end comp part

  rest_falls : (c : ℕ) → c < comps → (rest c < c) ⊎ (rest c ≡ comps)
  rest_falls c listed = elim (cases_eq (rest c) comps) [
    | inl top ↦ inr top
    | inr differ ↦
        let below : rest c < comps = omega (arith, (rests c listed).within, differ) in
        inl (fewer_lower day (rest c) c below listed
        (less_long end (composition_at day c) (composition_at day (rest c)) ((rests c listed).unit) (listed_some day (rest c) below) (rests c listed).is))
  ]

  itself_of : (e : End) (c : ℕ) → (more : List ℕ) × Consists e (composition_at day c) (composition_at day c) more
  itself_of at.None c = ([], (refl, refl))
  itself_of at.Rear c = ([], sym (append-nil (composition_at day c)))
  itself_of at.Front c = ([], refl)

  pub made_itself : (c : ℕ) → c < comps → Of c c
  made_itself c listed = let it = itself_of end c in record { listed = listed; more = it.0; is = it.1 }

  made_listed : (c a : ℕ) → Of c a → c < comps
  made_listed c a of = made_of_listed day end c a of

  root_none : (a : ℕ) → Of comps a → ⊥
  root_none a of = absurd (omega (arith, made_listed comps a of))

  made_more : (c a : ℕ) → c < comps → Of (rest c) a → Of c a
  made_more c a listed of =
      let it = less_more end (composition_at day c) (composition_at day (rest c)) (composition_at day a) of.more ((rests c listed).unit) (listed_some day a of.listed) (rests c listed).is of.is in
      record { listed = of.listed; more = it.0; is = it.1 }

  made_parts : (c a : ℕ) → c < comps → Of c a → (c ≡ a) ⊎ Of (rest c) a
  made_parts c a listed of =
      elim (less_parts end (composition_at day c) (composition_at day (rest c)) (composition_at day a) of.more ((rests c listed).unit) (rests c listed).is of.is) [
        | inl same ↦ inl (number_once day c a listed of.listed same)
        | inr less ↦ inr (record { listed = of.listed; more = less.0; is = less.1 })
      ]

  made_join : (c q p : ℕ) → q < comps → p < comps → rest q ≡ p → Of c q → Of c p
  made_join c q p listed listed_too is of =
      let whole : IsUnitMore end (composition_at day q) (composition_at day p) ((rests q listed).unit) =
      subst (λ (k : ℕ). IsUnitMore end (composition_at day q) (composition_at day k) ((rests q listed).unit)) is (rests q listed).is in
      let it = less_join end (composition_at day c) (composition_at day q) (composition_at day p) of.more ((rests q listed).unit) (listed_some day p listed_too) whole of.is in
      record { listed = listed_too; more = it.0; is = it.1 }

  made_along : (c p : ℕ) → Of c p → (c ≡ p) ⊎ ((q : ℕ) × (q < comps) × (rest q ≡ p) × Of c q)
  made_along c p of = elim (less_along end (composition_at day c) (composition_at day p) of.more of.is) [
    | inl same ↦ inl (number_once day c p (made_listed c p of) of.listed same)
    | inr it ↦
        let (q, listed, is) = part_number day end c it.whole it.more (made_listed c p of) it.some it.consists in
        let some : 1 ≤ length (composition_at day p) = listed_some day p of.listed in
        let whole : IsUnitMore end (composition_at day q) (composition_at day p) it.unit =
        subst (λ (ms : List ℕ). IsUnitMore end ms (composition_at day p) it.unit) (sym is) it.is in
        let same : composition_at day (rest q) ≡ composition_at day p =
        less_one end (composition_at day q) (composition_at day p) (composition_at day (rest q)) it.unit ((rests q listed).unit) some whole (rests q listed).is in
        inr (
          q,
          listed,
          number_once day (rest q) p (with_units day (rest q) (omega (arith, some, ap length same))) of.listed same,
          record {
            listed = listed;
            more = it.more;
            is = subst (λ (ms : List ℕ). Consists end (composition_at day c) ms it.more) (sym is) it.consists;
          },
        )
  ]

  pub composition_tree : IsTree (IsMadeOf day end) rest comps
  composition_tree = record {
    falls = rest_falls;
    itself = made_itself;
    more = made_more;
    parts = made_parts;
    root = root_none;
    join = made_join;
    along = made_along;
  }

  -- what the rest is made of is what the composition is made of, but itself
  fewer_of : (c a : ℕ) → c < comps → Of (rest c) a → Of c a × (c ≢ a)
  fewer_of c a listed of = (
    made_more c a listed of,
    λ same.
        let below : rest c < comps = made_listed (rest c) a of in
        let long : length (composition_at day a) ≤ length (composition_at day (rest c)) =
        omega (arith, length_consists end (composition_at day (rest c)) (composition_at day a) of.more of.is) in
        let short : length (composition_at day (rest c)) < length (composition_at day c) =
        less_long end (composition_at day c) (composition_at day (rest c)) ((rests c listed).unit) (listed_some day (rest c) below) (rests c listed).is in
        omega (arith, long, short, ap (λ (k : ℕ). length (composition_at day k)) same),
  )

  of_fewer : (c a : ℕ) → c < comps → Of c a → c ≢ a → Of (rest c) a
  of_fewer c a listed of differ = elim (made_parts c a listed of) [ inl same ↦ absurd (differ same) | inr fewer ↦ fewer ]

  pub least_fewer_of : (value : ℕ → ℤ) (none least : ℤ) (c : ℕ) → c < comps → IsLeastOver (Of (rest c)) value none least
      → IsLeastOver (λ a. Of c a × (c ≢ a)) value none least
  least_fewer_of value none least c listed p =
      least_same (Of (rest c)) (λ a. Of c a × (c ≢ a)) value none least (λ a of. fewer_of c a listed of) (λ a of. of_fewer c a listed of.0 of.1) p

  -- what is made of one whose rest is a composition is what is made of that, but itself
  more_of : (p c : ℕ) → p < comps → IsOver Of rest comps 0 p c → Of c p × (c ≢ p)
  more_of p c listed over =
      let of : Of c over.0 = over.4 in (
        made_join c over.0 p over.2 listed over.3 of,
        λ same.
            let long : length (composition_at day over.0) ≤ length (composition_at day c) =
            omega (arith, length_consists end (composition_at day c) (composition_at day over.0) of.more of.is) in
            let short : length (composition_at day (rest over.0)) < length (composition_at day over.0) =
            less_long end (composition_at day over.0) (composition_at day (rest over.0)) ((rests over.0 over.2).unit)
            (listed_some day (rest over.0) (subst (λ (k : ℕ). k < comps) (sym over.3) listed)) (rests over.0 over.2).is in
            omega (arith, long, short, ap (λ (k : ℕ). length (composition_at day k)) same, ap (λ (k : ℕ). length (composition_at day k)) over.3),
      )

  of_more : (p c : ℕ) → Of c p → c ≢ p → IsOver Of rest comps 0 p c
  of_more p c of differ = elim (made_along c p of) [
    | inl same ↦ absurd (differ same)
    | inr there ↦ (there.0, omega arith, there.1, there.2, there.3)
  ]

  pub least_more_of : (value : ℕ → ℤ) (none least : ℤ) (p : ℕ) → p < comps → IsLeastOver (IsOver Of rest comps 0 p) value none least
      → IsLeastOver (λ c. Of c p × (c ≢ p)) value none least
  least_more_of value none least p listed is =
      least_same (IsOver Of rest comps 0 p) (λ c. Of c p × (c ≢ p)) value none least (λ c over. more_of p c listed over) (λ c of. of_more p c of.0 of.1) is
