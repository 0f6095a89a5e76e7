-- What links add, told at the trips that they lead from or to: a trip has what the one link adds that leads there.
use Rattle.std.proofs.Common.{◌≡◌, ◌≢◌, ℕ, ◌<◌, ◌≤◌, List, length, Option, Some, sym, ap, ◌∙◌, subst, arith, ℤ, pos}
use Rattle.std.proofs.Common.{inl, inr, unwrap_or, slice_get}
use Rattle.std.specs.Prelude.{option_map}
use Rattle.std.proofs.lemmas.Bool.{cases_eq}
use Rattle.rules.specs.declared.records.Link.{Link}
use Rattle.rules.specs.declared.records.LinkKind.{LinkKind}
use Rattle.timetable.specs.Accepted.{times_named}
use Rattle.timetable.specs.Lists.{count_of}
use Rattle.timetable.proofs.NamedTrips.{named_twice}
use Rattle.price_bound.proofs.IntLaws.{below_none, below_placed, below_same, int_below, only_at, only_here, only_other}
use Rattle.price_bound.proofs.IntLaws.{only_within}
use Rattle.price_bound.proofs.Steps.{entry_below}
use Rattle.std.proofs.lemmas.Option.{slice_get_within}

-- A side of links, a trip of it for each link, and what each link adds.
module _ (side : LinkKind → List ℕ) (lead : LinkKind → ℕ) (named : (kind : LinkKind) → 1 ≤ count_of (lead kind) (side kind)) (links : List Link)
    (once : (t : ℕ) → times_named side links t ≤ 1) (g : ℕ → Link → ℤ) where
  abbrev pub lead_at : ℕ → ℕ
  lead_at l = unwrap_or (option_map (λ (link : Link). lead link.kind) (slice_get links l)) 0

  abbrev pub adds_at : ℕ → ℤ
  adds_at l = unwrap_or (option_map (g l) (slice_get links l)) (pos 0)

  -- what the links add at a trip
  abbrev pub adds_to : ℕ → ℤ
  adds_to t = int_below (λ l. only_at (lead_at l) (adds_at l) t) (length links)

  module _ (t : ℕ) where
    -- no other link leads there
    apart : (k l : ℕ) (link other : Link) → l ≢ k → slice_get links k ≡ Some link → slice_get links l ≡ Some other → 1 ≤ count_of t (side link.kind) → lead other.kind ≢ t
    apart k l link other differ at there here is =
        let two = named_twice side links t k l link other differ at there in
        let one : 1 ≤ count_of t (side other.kind) = subst (λ (x : ℕ). 1 ≤ count_of x (side other.kind)) is (named other.kind) in
        absurd (omega (arith, two, one, here, once t))

    at_one : (k l : ℕ) (link : Link) → slice_get links k ≡ Some link → 1 ≤ count_of t (side link.kind) → l < length links
        → only_at (lead_at l) (adds_at l) t ≡ only_at k (only_at (lead link.kind) (g k link) t) l
    at_one k l link at here lt = elim (cases_eq k l) [
      | inl same ↦
          subst (λ (j : ℕ). only_at (lead_at j) (adds_at j) t ≡ only_at k (only_at (lead link.kind) (g k link) t) j) same
          (ap (λ (o : Option Link). only_at (unwrap_or (option_map (λ (x : Link). lead x.kind) o) 0) (unwrap_or (option_map (g k) o) (pos 0)) t) at
          ∙ sym (only_here k (only_at (lead link.kind) (g k link) t)))
      | inr differ ↦
          let (other, there) = entry_below links l lt in
          let elsewhere : lead other.kind ≢ t = apart k l link other (λ e. differ (sym e)) at there here in
          ap (λ (o : Option Link). only_at (unwrap_or (option_map (λ (x : Link). lead x.kind) o) 0) (unwrap_or (option_map (g l) o) (pos 0)) t) there
          ∙ only_other (lead other.kind) t (g l other) elsewhere
          ∙ sym (only_other k l (only_at (lead link.kind) (g k link) t) differ)
    ]

    -- the one link that names the trip on this side
    pub adds_one : (k : ℕ) (link : Link) → slice_get links k ≡ Some link → 1 ≤ count_of t (side link.kind) → adds_to t ≡ only_at (lead link.kind) (g k link) t
    adds_one k link at here =
        below_same (λ l. only_at (lead_at l) (adds_at l) t) (only_at k (only_at (lead link.kind) (g k link) t)) (length links) (λ l lt. at_one k l link at here lt)
        ∙ only_within k (only_at (lead link.kind) (g k link) t) (length links) (slice_get_within links k link at)

    -- none names it
    pub adds_none : ((l : ℕ) (link : Link) → slice_get links l ≡ Some link → lead link.kind ≢ t) → adds_to t ≡ pos 0
    adds_none none = below_none (λ l. only_at (lead_at l) (adds_at l) t) (length links) (λ l lt.
        let (other, there) = entry_below links l lt in
        ap (λ (o : Option Link). only_at (unwrap_or (option_map (λ (x : Link). lead x.kind) o) 0) (unwrap_or (option_map (g l) o) (pos 0)) t) there
        ∙ only_other (lead other.kind) t (g l other) (none l other there))

  -- what all links add is what they add at all trips
  pub adds_all : (n : ℕ) → ((l : ℕ) (link : Link) → slice_get links l ≡ Some link → lead link.kind < n) → int_below adds_at (length links) ≡ int_below adds_to n
  adds_all n below = below_placed lead_at adds_at (length links) n (λ l lt.
      let (link, at) = entry_below links l lt in
      subst (λ (o : Option Link). unwrap_or (option_map (λ (x : Link). lead x.kind) o) 0 < n) (sym at) (below l link at))
