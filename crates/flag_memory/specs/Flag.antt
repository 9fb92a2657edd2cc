-- The flag word (Shasta, section 3.2): the value that every word of a line holds where the node may
-- not read it, so that a load that gives another value needs no look at the line's state.
use Rattle.std.specs.Prelude.{ℕ, zero, suc, ◌%◌, if◌then◌else◌, ◌==◌, List, [], ◌∷◌, ◌++◌}

-- the byte at an offset of the flag words 0xffffff03, little-endian
abbrev pub flag_byte : ℕ → ℕ
flag_byte k = if k % 4 == 0 then 3 else 255

-- so many bytes of flag words
abbrev pub flags : ℕ → List ℕ
flags zero = []
flags (suc n) = flags n ++ flag_byte n ∷ []
