-- The numbers that a seed draws, one after another.
use Rattle.std.specs.Prelude.{ℕ, zero, suc, ◌+◌, ◌*◌, ◌/◌, ◌%◌, ◌^◌}

-- the state that follows a state
abbrev pub next_state : ℕ → ℕ
next_state state = (state * 1103515245 + 12345) % 2 ^ 31

-- the state of a seed after so many draws
unfoldable pub state_after : ℕ → ℕ → ℕ
state_after seed zero = seed % 2 ^ 31
state_after seed (suc draws) = next_state (state_after seed draws)

-- the number below n that a draw gives which leaves this state
abbrev pub number_from : ℕ → ℕ → ℕ
number_from state n = (state / 65536) % n

-- the number below n that a seed draws after so many draws
abbrev pub drawn : ℕ → ℕ → ℕ → ℕ
drawn seed draws n = number_from (state_after seed (suc draws)) n
