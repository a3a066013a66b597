-- How numbers are drawn.
--   advanced   the state after the next number is drawn
--   drawn      the number that is drawn below a bound
use Rattle.std.specs.Prelude.{ℕ, ◌+◌, ◌*◌, ◌/◌, ◌%◌, ◌^◌}

-- a step of a linear congruence modulo 2^64
abbrev pub advanced : ℕ → ℕ
advanced state = (state * 6364136223846793005 % 2 ^ 64 + 1442695040888963407) % 2 ^ 64

-- by 16 of the state's upper bits
abbrev pub drawn : ℕ → ℕ → ℕ
drawn state bound = state / 2 ^ 33 % 65536 % bound
