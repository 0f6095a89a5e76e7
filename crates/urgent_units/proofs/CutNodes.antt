-- The nodes of moments, and the cut of those that are reached.
use Rattle.std.proofs.Common.{◌≡◌, ℕ, zero, suc, ◌+◌, ◌<◌, Bool, false, List, [], length, sym, ap, ◌∙◌, arith, inl, inr, Option, unwrap_or}
use Rattle.std.proofs.lemmas.Bool.{cases_lt}
use Rattle.flow_network.specs.Flows.{is_reached}
use Rattle.timetable.specs.Lists.{listed, sum_below}
use Rattle.timetable.proofs.Listing.{get_listed, length-listed}
use Rattle.urgent_units.specs.Cuts.{HasMoments, is_in, moments_in}
use Rattle.urgent_units.specs.Legs.{TypeLegs}
use Rattle.urgent_units.specs.Moments.{moment_count}
use Rattle.urgent_units.specs.YardNetwork.{node_of, reached_cut, source_of}
use Rattle.urgent_units.proofs.CutMoments.{flag, is_in-flag}

-- ---- nodes

pub part_below : (f : ℕ → ℕ) (s n k : ℕ) → s < n → k < f s → sum_below f s + k < sum_below f n
part_below f s zero k below within = absurd (omega (arith, below))
part_below f s (suc n) k below within = elim (cases_lt s n) [
  | inl before ↦ omega (arith, part_below f s n k before within)
  | inr last ↦ (let same : s ≡ n = omega (arith, below, last) in omega (arith, within, ap f same, ap (sum_below f) same))
]

-- the node of a moment comes before the source
pub node_below : (legs : TypeLegs) (s k : ℕ) → s < legs.stations → k < moment_count legs s → node_of legs s k < source_of legs
node_below legs s k below within = part_below (moment_count legs) s legs.stations k below within

-- ---- the cut of the nodes that are reached

module _ (legs : TypeLegs) (reached : List Bool) where
  abbrev flags_at : ℕ → List Bool
  flags_at s = listed (λ k. is_reached reached (node_of legs s k)) (moment_count legs s)

  moments_are : (s : ℕ) → s < legs.stations → moments_in (reached_cut legs reached) s ≡ flags_at s
  unfolding reached_cut
  moments_are s below = ap (λ (o : Option (List Bool)). unwrap_or o []) (get_listed flags_at legs.stations s below)

  pub reached_has : HasMoments legs (reached_cut legs reached)
  unfolding reached_cut
  reached_has = record {
    stations = length-listed flags_at legs.stations;
    moments = λ s below.
        ap (λ (ms : List Bool). length ms) (moments_are s below) ∙ length-listed (λ k. is_reached reached (node_of legs s k)) (moment_count legs s);
  }

  pub reached_in : (s k : ℕ) → s < legs.stations → k < moment_count legs s → is_reached reached (node_of legs s k) ≡ is_in (reached_cut legs reached) s k
  reached_in s k below within =
      sym (is_in-flag (reached_cut legs reached) s k ∙ ap (λ (ms : List Bool). flag ms k) (moments_are s below)
      ∙ ap (λ (o : Option Bool). unwrap_or o false) (get_listed (λ j. is_reached reached (node_of legs s j)) (moment_count legs s) k within))
