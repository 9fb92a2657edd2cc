-- The choices of an order: a linear congruential sequence modulo 2^32, of whose numbers the upper
-- half is used.
use Rattle.std.specs.Prelude.{ℕ, zero, suc, ◌+◌, ◌*◌, ◌/◌, ◌%◌, ◌^◌, ◌==◌, if◌then◌else◌}

-- the number that follows a number
abbrev pub following : ℕ → ℕ
following number = (1664525 * number + 1013904223) % 2 ^ 32

-- what a number chooses among so many
abbrev pub choice : ℕ → ℕ → ℕ
choice count number = number / 2 ^ 16 % count

-- the number after so many turns
abbrev pub after_turns : (turns number : ℕ) → ℕ
after_turns zero number = number
after_turns (suc turns) number = after_turns turns (following number)

-- how often so many turns choose this place among so many
abbrev pub how_often : (place count turns number : ℕ) → ℕ
how_often place count zero number = 0
how_often place count (suc turns) number =
    (if choice count (following number) == place then 1 else 0)
    + how_often place count turns (following number)
