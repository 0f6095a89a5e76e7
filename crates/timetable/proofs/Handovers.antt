-- The hand-overs of a day: each is that of a join or a split, and each of these has one.
use Rattle.std.proofs.Common.{◌≡◌, ℕ, zero, suc, ◌+◌, ◌<◌, ◌≤◌, List, [], ◌∷◌, ◌++◌, Option, Some, None, refl}
use Rattle.std.proofs.Common.{sym, ap, subst, ◌∙◌, arith, slice_get, length, drop, get_or, append_assoc}
use Rattle.std.specs.List.{All, AllPairs, Contains}
use Rattle.std.proofs.lemmas.List.Elements.{All-nil, All-cons, All-append, All-weaker, Contains-append_left}
use Rattle.std.proofs.lemmas.List.Elements.{Contains-append_right, Contains-push}
use Rattle.std.proofs.lemmas.List.Kept.{AllPairs-cons}
use Rattle.std.proofs.lemmas.Option.{same_Some}
use Rattle.rules.specs.declared.records.Link.{Link}
use Rattle.timetable.specs.declared.day.records.Handover.{Handover}
use Rattle.timetable.specs.Day.{Day}
use Rattle.timetable.specs.Handovers.{second_of, IsHandover, AreHandovers, handover_at, handovers_from, handovers_of}
use Rattle.timetable.proofs.EachRow.{row_first}

-- links numbered from a number on, among all links
record AreFrom (all : List Link) (number : ℕ) (links : List Link) : Type 0 where
  at : (k : ℕ) → slice_get all (number + k) ≡ slice_get links k

later_links : (all : List Link) (number : ℕ) (link : Link) (links : List Link) → AreFrom all number (link ∷ links) → AreFrom all (number + 1) links
later_links all number link links from = record {
  at = λ k. (let same : number + 1 + k ≡ number + suc k = omega arith in ap (λ (n : ℕ). slice_get all n) same ∙ from.at (suc k));
}

-- each is that of its link
each_from : (all : List Link) (number : ℕ) (links : List Link) → AreFrom all number links → All (IsHandover all) (handovers_from number links)
each_from all number [] from = All-nil (IsHandover all)
each_from all number (link ∷ links) from =
    All-append (IsHandover all) (handover_at number (second_of link.kind)) (handovers_from (number + 1) links) (on (second_of link.kind) refl)
    (each_from all (number + 1) links (later_links all number link links from))
  where
    on : (o : Option ℕ) → second_of link.kind ≡ o → All (IsHandover all) (handover_at number o)
    on None is = All-nil (IsHandover all)
    on (Some t) is = All-cons (IsHandover all) (record { link = number; second = t }) [] (record {
      link = link;
      at = (let same : number ≡ number + 0 = omega arith in ap (λ (n : ℕ). slice_get all n) same ∙ from.at 0);
      second = is;
    }) (All-nil (IsHandover all))

-- every join and every split has one
all_from : (number l t : ℕ) (link : Link) (links : List Link) → slice_get links l ≡ Some link → second_of link.kind ≡ Some t → Contains (handovers_from number links) (record { link = number + l; second = t })
all_from number l t link [] at is = absurd cc
all_from number zero t link (first ∷ links) at is =
    let same : second_of first.kind ≡ Some t = ap (λ (l : Link). second_of l.kind) (same_Some first link at) ∙ is in
    let here : Contains (handover_at number (second_of first.kind)) (record { link = number; second = t }) =
    subst (λ (o : Option ℕ). Contains (handover_at number o) (record { link = number; second = t })) (sym same) (Contains-push [] (record { link = number; second = t })) in
    let count : number ≡ number + 0 = omega arith in
    subst (λ (n : ℕ). Contains (handovers_from number (first ∷ links)) (record { link = n; second = t })) count
    (Contains-append_left (handover_at number (second_of first.kind)) (handovers_from (number + 1) links) (record { link = number; second = t }) here)
all_from number (suc l) t link (first ∷ links) at is =
    let count : number + 1 + l ≡ number + suc l = omega arith in
    subst (λ (n : ℕ). Contains (handovers_from number (first ∷ links)) (record { link = n; second = t })) count
    (Contains-append_right (handover_at number (second_of first.kind)) (handovers_from (number + 1) links) (record { link = number + 1 + l; second = t })
    (all_from (number + 1) l t link links at is))

-- they follow one another as their links do
least_from : (number : ℕ) (links : List Link) → All (λ handover. number ≤ handover.link) (handovers_from number links)
least_from number [] = All-nil (λ handover. number ≤ handover.link)
least_from number (link ∷ links) =
    All-append (λ handover. number ≤ handover.link) (handover_at number (second_of link.kind)) (handovers_from (number + 1) links) (on (second_of link.kind))
    (All-weaker (λ handover. number + 1 ≤ handover.link) (λ handover. number ≤ handover.link) (λ handover below. omega arith) (handovers_from (number + 1) links) (least_from (number + 1) links))
  where
    on : (o : Option ℕ) → All (λ handover. number ≤ handover.link) (handover_at number o)
    on None = All-nil (λ handover. number ≤ handover.link)
    on (Some t) = All-cons (λ handover. number ≤ handover.link) (record { link = number; second = t }) [] (omega arith) (All-nil (λ handover. number ≤ handover.link))

rise_from : (number : ℕ) (links : List Link) → AllPairs (λ a b. a.link < b.link) (handovers_from number links)
rise_from number [] = λ i j d order below. absurd (omega arith)
rise_from number (link ∷ links) = on (second_of link.kind) (rise_from (number + 1) links)
  where
    on : (o : Option ℕ) → AllPairs (λ a b. a.link < b.link) (handovers_from (number + 1) links) → AllPairs (λ a b. a.link < b.link) (handover_at number o ++ handovers_from (number + 1) links)
    on None rest = rest
    on (Some t) rest =
        AllPairs-cons (λ a b. a.link < b.link) (record { link = number; second = t }) (handovers_from (number + 1) links)
        (All-weaker (λ handover. number + 1 ≤ handover.link) (λ handover. number < handover.link) (λ handover below. omega arith) (handovers_from (number + 1) links) (least_from (number + 1) links)) rest

pub are_handovers : (day : Day) → AreHandovers day (handovers_of day)
unfolding handovers_of
are_handovers day = record {
  each = each_from day.links 0 day.links (record { at = λ k. (let same : 0 + k ≡ k = omega arith in ap (λ (n : ℕ). slice_get day.links n) same) });
  all = λ l t link at is.
      (let same : 0 + l ≡ l = omega arith in
      subst (λ (n : ℕ). Contains (handovers_from 0 day.links) (record { link = n; second = t })) same (all_from 0 l t link day.links at is));
  rise = rise_from 0 day.links;
}

-- the hand-over of a link is added, if it has one, and all hand-overs are the same
pub handovers_more : (handovers after : List Handover) (links : List Link) (i : ℕ) (link : Link) (whole : List Handover)
    → i < length links → link ≡ get_or links i link → after ≡ handovers ++ handover_at i (second_of link.kind)
    → handovers ++ handovers_from i (drop i links) ≡ whole → after ++ handovers_from (i + 1) (drop (i + 1) links) ≡ whole
handovers_more handovers after links i link whole inside is added so_far =
    ap (λ (hs : List Handover). hs ++ handovers_from (i + 1) (drop (i + 1) links)) added
    ∙ append_assoc handovers (handover_at i (second_of link.kind)) (handovers_from (i + 1) (drop (i + 1) links))
    ∙ sym (ap (λ (later : List Link). handovers ++ handovers_from i later) (row_first links i link inside is))
    ∙ so_far
