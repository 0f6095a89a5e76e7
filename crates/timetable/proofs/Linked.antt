-- A day with links: where each link's rule holds, trips hand over to one another as they should.
use Rattle.std.proofs.Common.{◌≡◌, ℕ, ◌≤◌, List, [], true, Option, Some, None, ap, ◌∙◌, subst, arith, ◌≢◌, ⊎_elim, inl}
use Rattle.std.proofs.Common.{inr}
use Rattle.std.specs.Prelude.{slice_get, unwrap_or, option_map, option_and_then, IsTrue}
use Rattle.std.proofs.lemmas.Bool.{cases_eq, le-leb}
use Rattle.timetable.specs.Day.{Day, leaves, arrives, type_of}
use Rattle.timetable.specs.Lists.{count_of, has}
use Rattle.timetable.specs.Accepted.{AreLinks}
use Rattle.rules.specs.declared.records.Link.{Link}
use Rattle.timetable.specs.Links.{list_of, link_holds, kind_holds, arriving_in, departing_in, incoming, outgoing}
use Rattle.timetable.specs.Links.{link_into, link_out, kept_by, given_by, taken_by, kept, kept_with, given_with}
use Rattle.timetable.specs.Links.{taken_with}
use Rattle.timetable.proofs.NamedTrips.{IsNamed, named_or_not, named_here, named_twice}
use Rattle.timetable.proofs.LinkKinds.{kept_names, kept_zero, kind_gives, kind_takes, KindGives, KindTakes}
use Rattle.timetable.proofs.Accounts.{AreAccounted, AreAccountedWith, GivesWith, TakesWith}

-- the rule of each link holds over lists, of units or of types
pub record LinksHoldWith (type_of : ℕ → ℕ) (day : Day) (lists : List (List ℕ)) : Type 0 where
  pub holds : (l : ℕ) (link : Link) → slice_get day.links l ≡ Some link → link_holds type_of link lists ≡ true

abbrev pub LinksHold : Day → List (List ℕ) → Type 0
LinksHold day plan = LinksHoldWith (type_of day) day plan

-- the link that leads on from a trip
pub out_is : (day : Day) (t : ℕ) (link : Link) → IsNamed arriving_in day.links t link → link_out day t ≡ Some link
unfolding outgoing
out_is day t link n = ap (option_and_then (slice_get day.links)) n.found ∙ n.at

pub into_is : (day : Day) (t : ℕ) (link : Link) → IsNamed departing_in day.links t link → link_into day t ≡ Some link
unfolding incoming
into_is day t link n = ap (option_and_then (slice_get day.links)) n.found ∙ n.at

-- the link by which units stay in the train from one trip to another
pub record StaysBy (day : Day) (a b : ℕ) : Type 0 where
  pub number : ℕ
  pub link : Link
  pub at : slice_get day.links number ≡ Some link
  pub arriving : IsTrue (has a (arriving_in link.kind))
  pub departing : IsTrue (has b (departing_in link.kind))

module _ (type_of : ℕ → ℕ) where
  kept_at : (day : Day) (lists : List (List ℕ)) (a b : ℕ) (o : Option Link) → link_out day a ≡ o → kept_with type_of day lists a b ≡ unwrap_or (option_map (λ link. kept_by type_of link.kind link.reverse lists a b) o) []
  unfolding kept_with
  kept_at day lists a b o e = ap (λ o. unwrap_or (option_map (λ link. kept_by type_of link.kind link.reverse lists a b) o) []) e

  given_at : (day : Day) (lists : List (List ℕ)) (t : ℕ) (o : Option Link) → link_out day t ≡ o → given_with type_of day lists t ≡ unwrap_or (option_map (λ link. given_by type_of link.kind link.reverse lists) o) (list_of lists t)
  unfolding given_with
  given_at day lists t o e = ap (λ o. unwrap_or (option_map (λ link. given_by type_of link.kind link.reverse lists) o) (list_of lists t)) e

  taken_at : (day : Day) (lists : List (List ℕ)) (t : ℕ) (o : Option Link) → link_into day t ≡ o → taken_with type_of day lists t ≡ unwrap_or (option_map (λ link. taken_by type_of link.kind link.reverse lists) o) (list_of lists t)
  unfolding taken_with
  taken_at day lists t o e = ap (λ o. unwrap_or (option_map (λ link. taken_by type_of link.kind link.reverse lists) o) (list_of lists t)) e

  pub stays_by_with : (day : Day) (lists : List (List ℕ)) (u a b : ℕ) → 1 ≤ count_of u (kept_with type_of day lists a b) → StaysBy day a b
  unfolding outgoing
  stays_by_with day lists u a b c = ⊎_elim
      (λ (h : (link : Link) × IsNamed arriving_in day.links a link).
      let same = kept_at day lists a b (Some h.0) (out_is day a h.0 h.1) in
      let c' : 1 ≤ count_of u (kept_by type_of (h.0).kind (h.0).reverse lists a b) = subst (λ l. 1 ≤ count_of u l) same c in
      let names = kept_names type_of u (h.0).kind (h.0).reverse lists a b c' in
      record {
        number = (h.1).number;
        link = h.0;
        at = (h.1).at;
        arriving = le-leb 1 (count_of a (arriving_in (h.0).kind)) names.arriving;
        departing = le-leb 1 (count_of b (departing_in (h.0).kind)) names.departing;
      })
      (λ none.
      let same : kept_with type_of day lists a b ≡ [] = kept_at day lists a b None (ap (option_and_then (slice_get day.links)) none.0) in
      let c' : 1 ≤ 0 = subst (λ l. 1 ≤ count_of u l) same c in
      absurd (omega arith))
      (named_or_not arriving_in day.links a)

  rule_of : (day : Day) (link : Link) (lists : List (List ℕ)) → link_holds type_of link lists ≡ true → kind_holds type_of link.kind link.reverse lists ≡ true
  unfolding link_holds
  rule_of day link lists h = h

  module _ (day : Day) (lists : List (List ℕ)) (links : AreLinks day) where
    kept_in_time : (u a b : ℕ) → 1 ≤ count_of u (kept_with type_of day lists a b) → arrives day a ≤ leaves day b
    kept_in_time u a b c =
        let by : StaysBy day a b = stays_by_with day lists u a b c in
        links.in_time by.number a b by.link by.at by.arriving by.departing

    gives_of : LinksHoldWith type_of day lists → (a : ℕ) → GivesWith type_of day lists a
    unfolding outgoing
    gives_of h a = ⊎_elim
        (λ (n : (link : Link) × IsNamed arriving_in day.links a link).
        let is = out_is day a n.0 (n.1) in
        let k : KindGives type_of (n.0).kind (n.0).reverse lists a =
        kind_gives type_of (n.0).kind (n.0).reverse lists a (rule_of day n.0 lists (h.holds (n.1).number n.0 (n.1).at))
        (λ t. let le = named_here departing_in day.links t (n.1).number n.0 (n.1).at in let once = links.departing_once t in omega arith) (n.1).named in
        record {
          first = k.first;
          second = k.second;
          apart = k.apart;
          total = λ u.
              let total = k.total u in
              let g = ap (count_of u) (given_at day lists a (Some n.0) is) in
              let f = ap (count_of u) (kept_at day lists a k.first (Some n.0) is) in
              let s = ap (count_of u) (kept_at day lists a k.second (Some n.0) is) in
              omega arith;
          others = λ u b ne ne'. ap (count_of u) (kept_at day lists a b (Some n.0) is) ∙ k.others u b ne ne';
        })
        (λ none.
        let is : link_out day a ≡ None = ap (option_and_then (slice_get day.links)) none.0 in
        record {
          first = 0;
          second = 1;
          apart = λ e. absurd (omega arith);
          total = λ u.
              let g = ap (count_of u) (given_at day lists a None is) in
              let f = ap (count_of u) (kept_at day lists a 0 None is) in
              let s = ap (count_of u) (kept_at day lists a 1 None is) in
              omega arith;
          others = λ u b ne ne'. ap (count_of u) (kept_at day lists a b None is);
        })
        (named_or_not arriving_in day.links a)

    -- what is kept for a trip, by the link that leads into it
    kept_into : (u a b : ℕ) (link : Link) → IsNamed departing_in day.links b link → count_of u (kept_with type_of day lists a b) ≡ count_of u (kept_by type_of link.kind link.reverse lists a b)
    unfolding outgoing
    kept_into u a b link n = ⊎_elim
        (λ (m : (other : Link) × IsNamed arriving_in day.links a other).
        ap (count_of u) (kept_at day lists a b (Some m.0) (out_is day a m.0 m.1))
        ∙ ⊎_elim
        (λ (e : (m.1).number ≡ n.number).
        let there : slice_get day.links n.number ≡ Some m.0 = subst (λ l. slice_get day.links l ≡ Some m.0) e (m.1).at in
        let here = n.at in
        let same : m.0 ≡ link = cc in
        ap (λ (x : Link). count_of u (kept_by type_of x.kind x.reverse lists a b)) same)
        (λ (ne : (m.1).number ≢ n.number).
        let once = links.departing_once b in
        let two = named_twice departing_in day.links b n.number (m.1).number link m.0 ne n.at (m.1).at in
        let named = n.named in
        let x = kept_zero type_of u (m.0).kind (m.0).reverse lists a b (inr (omega arith)) in
        let once' = links.arriving_once a in
        let two' = named_twice arriving_in day.links a n.number (m.1).number link m.0 ne n.at (m.1).at in
        let named' = (m.1).named in
        let y = kept_zero type_of u link.kind link.reverse lists a b (inl (omega arith)) in
        omega arith)
        (cases_eq (m.1).number n.number))
        (λ none.
        let is : link_out day a ≡ None = ap (option_and_then (slice_get day.links)) none.0 in
        let x : count_of u (kept_with type_of day lists a b) ≡ 0 = ap (count_of u) (kept_at day lists a b None is) in
        let y = kept_zero type_of u link.kind link.reverse lists a b (inl (none.1 n.number link n.at)) in
        omega arith)
        (named_or_not arriving_in day.links a)

    -- nothing is kept for a trip that no link leads into
    kept_into_none : (u a b : ℕ) → ((l : ℕ) (link : Link) → slice_get day.links l ≡ Some link → count_of b (departing_in link.kind) ≡ 0) → count_of u (kept_with type_of day lists a b) ≡ 0
    unfolding outgoing
    kept_into_none u a b nowhere = ⊎_elim
        (λ (m : (other : Link) × IsNamed arriving_in day.links a other).
        ap (count_of u) (kept_at day lists a b (Some m.0) (out_is day a m.0 m.1))
        ∙ kept_zero type_of u (m.0).kind (m.0).reverse lists a b (inr (nowhere (m.1).number m.0 (m.1).at)))
        (λ none. ap (count_of u) (kept_at day lists a b None (ap (option_and_then (slice_get day.links)) none.0)))
        (named_or_not arriving_in day.links a)

    takes_of : LinksHoldWith type_of day lists → (b : ℕ) → TakesWith type_of day lists b
    unfolding incoming
    takes_of h b = ⊎_elim
        (λ (n : (link : Link) × IsNamed departing_in day.links b link).
        let is = into_is day b n.0 (n.1) in
        let k : KindTakes type_of (n.0).kind (n.0).reverse lists b =
        kind_takes type_of (n.0).kind (n.0).reverse lists b (rule_of day n.0 lists (h.holds (n.1).number n.0 (n.1).at))
        (λ t. let le = named_here arriving_in day.links t (n.1).number n.0 (n.1).at in let once = links.arriving_once t in omega arith) (n.1).named in
        record {
          first = k.first;
          second = k.second;
          apart = k.apart;
          total = λ u.
              let total = k.total u in
              let g = ap (count_of u) (taken_at day lists b (Some n.0) is) in
              let f = kept_into u k.first b n.0 n.1 in
              let s = kept_into u k.second b n.0 n.1 in
              omega arith;
          others = λ u a ne ne'. kept_into u a b n.0 n.1 ∙ k.others u a ne ne';
        })
        (λ none.
        let is : link_into day b ≡ None = ap (option_and_then (slice_get day.links)) none.0 in
        record {
          first = 0;
          second = 1;
          apart = λ e. absurd (omega arith);
          total = λ u.
              let g = ap (count_of u) (taken_at day lists b None is) in
              let f = kept_into_none u 0 b none.1 in
              let s = kept_into_none u 1 b none.1 in
              omega arith;
          others = λ u a ne ne'. kept_into_none u a b none.1;
        })
        (named_or_not departing_in day.links b)

    pub links_account_with : LinksHoldWith type_of day lists → AreAccountedWith type_of day lists
    links_account_with h = record { gives = gives_of h; takes = takes_of h; time = kept_in_time }

-- of the units of a plan
pub stays_by : (day : Day) (plan : List (List ℕ)) (u a b : ℕ) → 1 ≤ count_of u (kept day plan a b) → StaysBy day a b
stays_by day plan = stays_by_with (type_of day) day plan

pub links_account : (day : Day) (plan : List (List ℕ)) → AreLinks day → LinksHold day plan → AreAccounted day plan
links_account day plan = links_account_with (type_of day) day plan
