-- The cells of a row are those of compositions that may run on its trip, and along a chain the link that leads on from a
-- trip leads to the next one.
use Rattle.std.proofs.Common.{◌≡◌, ℕ, zero, suc, ◌<◌, ◌≤◌, List, [], ◌∷◌, length, get_or, Option, Some, None, refl, sym, ap, ◌∙◌, subst, arith}
use Rattle.std.proofs.Common.{ℤ, pos, inl, inr, slice_get}
use Rattle.std.proofs.lemmas.Bool.{cases_lt}
use Rattle.std.proofs.lemmas.List.{get_or_past}
use Rattle.rules.specs.declared.records.Link.{Link}
use Rattle.timetable.specs.Accepted.{AreLinks}
use Rattle.timetable.specs.Chains.{Leads, leads_from, leads_to}
use Rattle.timetable.specs.Day.{Day}
use Rattle.timetable.specs.Links.{arriving_in, outgoing}
use Rattle.timetable.specs.Lists.{count_of}
use Rattle.timetable.specs.Running.{EachFollows}
use Rattle.timetable.proofs.NamedTrips.{place_is}
use Rattle.transitions.specs.Edges.{IsAdmittedComp}
use Rattle.price_bound.specs.declared.cells.Cell.{Cell}
use Rattle.price_bound.specs.CellRows.{LeadsTo, MayRunOn, all_bare, bare, comps_of, last_row_on, offered_from, row_on}
use Rattle.price_bound.specs.ChainStages.{Priced, priced_cost_of}
use Rattle.price_bound.specs.Paths.{with_priced_cost}
use Rattle.price_bound.proofs.ChainCells.{get-bare}
use Rattle.price_bound.proofs.EdgeGroups.{last_cell, last_long, row_cell, row_long}
use Rattle.price_bound.proofs.PassLoops.{priced_cost_runs}
use Rattle.price_bound.proofs.Regrouping.{from_named}

module _ (priced : Priced) (t : ℕ) where
  runs_by : (comp : ℕ) (cell : Cell) (priced_cost : Option ℤ) (o : Option Cell) → priced_cost_of priced t comp ≡ priced_cost
      → bare (with_priced_cost priced_cost o) ≡ Some cell → IsAdmittedComp priced.day t comp
  runs_by comp cell None o is at = absurd (let none : None ≡ Some cell = at in cc)
  runs_by comp cell (Some priced_cost) o is at = priced_cost_runs priced t comp priced_cost is

  runs_of : (row : List (Option Cell)) (offered : ℕ → Option Cell) → length row ≡ comps_of priced
      → ((comp : ℕ) → comp < comps_of priced → get_or row comp None ≡ with_priced_cost (priced_cost_of priced t comp) (offered comp))
      → MayRunOn priced.day t (all_bare row)
  runs_of row offered long each comp cell at = elim (cases_lt comp (comps_of priced)) [
    | inl below ↦ runs_by comp cell (priced_cost_of priced t comp) (offered comp) refl
        (sym (get-bare row comp ∙ ap bare (each comp below)) ∙ at)
    | inr past ↦
        let none : None ≡ Some cell =
        sym (get-bare row comp ∙ ap bare (get_or_past row comp None (omega (arith, past, long)))) ∙ at in
        absurd cc
  ]

  pub row_runs : (ahead new : List (Option Cell)) → new ≡ all_bare (row_on priced t ahead) → MayRunOn priced.day t new
  row_runs ahead new is = subst (MayRunOn priced.day t) (sym is)
      (runs_of (row_on priced t ahead) (offered_from priced (outgoing priced.day t) ahead) (row_long priced t ahead) (row_cell priced t ahead))

  pub last_runs : (new : List (Option Cell)) → new ≡ all_bare (last_row_on priced t) → MayRunOn priced.day t new
  last_runs new is = subst (MayRunOn priced.day t) (sym is)
      (runs_of (last_row_on priced t) (λ comp. Some (record { value = pos 0; next = 0 })) (last_long priced t) (last_cell priced t))

-- ---- along a chain

follows_at : (day : Day) (chain : List ℕ) (place : ℕ) → EachFollows (Leads day) chain → suc place < length chain
    → Leads day (get_or chain place 0) (get_or chain (suc place) 0)
follows_at day [] place follows below = absurd (omega (arith, below))
follows_at day (t ∷ []) place follows below = absurd (omega (arith, below))
follows_at day (t ∷ u ∷ ts) zero follows below = follows.0
follows_at day (t ∷ u ∷ ts) (suc place) follows below = follows_at day (u ∷ ts) place follows.1 (omega (arith, below))

out_is : (day : Day) (links : AreLinks day) (a b : ℕ) (leads : Leads day a b) → outgoing day a ≡ Some leads.number
unfolding outgoing
out_is day links a b leads = place_is arriving_in day.links a leads.number leads.link (links.arriving_once a) leads.at
    (subst (λ (t : ℕ). 1 ≤ count_of t (arriving_in leads.link.kind)) leads.from (from_named leads.link.kind))

pub leads_ahead : (day : Day) (links : AreLinks day) (chain : List ℕ) (place : ℕ) (ahead : List (Option Cell))
    → EachFollows (Leads day) chain → suc place < length chain → MayRunOn day (get_or chain (suc place) 0) ahead
    → LeadsTo day (get_or chain place 0) ahead
leads_ahead day links chain place ahead follows below runs l link out at =
    let leads : Leads day (get_or chain place 0) (get_or chain (suc place) 0) = follows_at day chain place follows below in
    let both : Some leads.number ≡ Some l = sym (out_is day links (get_or chain place 0) (get_or chain (suc place) 0) leads) ∙ out in
    let number : leads.number ≡ l = cc in
    let some : Some leads.link ≡ Some link = sym leads.at ∙ ap (slice_get day.links) number ∙ at in
    let same : leads.link ≡ link = cc in (
      ap (λ (x : Link). leads_from x.kind) (sym same) ∙ leads.from,
      subst (λ (b : ℕ). MayRunOn day b ahead) (sym leads.to ∙ ap (λ (x : Link). leads_to x.kind) same) runs,
    )
