-- Numbers drawn from a state. Assumes nothing: these are definitions.
--     next_state      the state after one number is drawn
--     number_at       the number that a state gives
--     state_below     the state after a number below a limit is drawn
--     number_below    that number
use Rattle.std.specs.Prelude.{ℕ, ◌+◌, ◌*◌, ◌/◌, ◌%◌, ◌^◌, ◌==◌, if◌then◌else◌}

abbrev pub next_state : ℕ → ℕ
next_state s = (s * 6364136223846793005 + 1442695040888963407) % 2 ^ 64

abbrev pub number_at : ℕ → ℕ
number_at s = s / 2 ^ 33

-- below 0 there is no number: 0 stands for it, and the state stays
abbrev pub state_below : ℕ → ℕ → ℕ
state_below many s = if many == 0 then s else next_state s

abbrev pub number_below : ℕ → ℕ → ℕ
number_below many s = if many == 0 then 0 else number_at (next_state s) % many
