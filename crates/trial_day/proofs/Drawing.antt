-- The rows of one more pair, and the draws that they are made of.
use Rattle.std.proofs.Common.{◌≡◌, ◌∙◌, ℕ, suc, ◌+◌, ◌*◌, List, [], ◌∷◌, ◌++◌, ap, append_assoc, arith}
use Rattle.rail_csv.specs.declared.rows.TripRow.{TripRow}
use Rattle.trial_day.specs.Draws.{next_state, number_from, state_after}
use Rattle.trial_day.specs.Trial.{out_row, back_row, drawn_out, drawn_back, trial_trips}

module _ (seed pair state one two : ℕ) (at : state ≡ state_after seed (2 * pair)) (first : one ≡ next_state state) (second : two ≡ next_state one) where
  -- the states that the draws of a pair leave
  state_one : one ≡ state_after seed (suc (2 * pair))
  unfolding state_after
  state_one = first ∙ ap next_state at

  state_two : two ≡ state_after seed (suc (2 * pair + 1))
  unfolding state_after
  state_two = let same : suc (2 * pair) ≡ 2 * pair + 1 = omega arith in second ∙ ap next_state state_one ∙ ap (λ (n : ℕ). state_after seed (suc n)) same

  pub state_more : two ≡ state_after seed (2 * (pair + 1))
  state_more = let same : suc (2 * pair + 1) ≡ 2 * (pair + 1) = omega arith in state_two ∙ ap (state_after seed) same

  pub trips_more : (rows after : List TripRow) (out back : TripRow) (demand_out demand_back : ℕ) → rows ≡ trial_trips seed pair → demand_out ≡ 100 + number_from one 400 → demand_back ≡ 100 + number_from two 400
      → out ≡ out_row pair demand_out → back ≡ back_row pair demand_back → after ≡ (rows ++ out ∷ []) ++ back ∷ [] → after ≡ trial_trips seed (pair + 1)
  trips_more rows after out back demand_out demand_back so_far seats_out seats_back is_out is_back pushed =
      let row_out : out ≡ drawn_out seed pair = is_out ∙ ap (out_row pair) (seats_out ∙ ap (λ (state : ℕ). 100 + number_from state 400) state_one) in
      let row_back : back ≡ drawn_back seed pair = is_back ∙ ap (back_row pair) (seats_back ∙ ap (λ (state : ℕ). 100 + number_from state 400) state_two) in
      let next : suc pair ≡ pair + 1 = omega arith in
      pushed ∙ (λ i. (so_far i ++ row_out i ∷ []) ++ row_back i ∷ []) ∙ append_assoc (trial_trips seed pair) (drawn_out seed pair ∷ []) (drawn_back seed pair ∷ []) ∙ ap (trial_trips seed) next
