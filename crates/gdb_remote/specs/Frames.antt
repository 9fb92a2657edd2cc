-- Packets as they are sent (GDB manual, 'Remote Protocol: Overview').
use Rattle.std.specs.Prelude.{ℕ, ◌%◌, ◌==◌, ◌||◌, if◌then◌else◌, List, [], ◌∷◌, ◌++◌, bit_xor, sum}
use Rattle.std.specs.List.{flat_map}
use Rattle.gdb_remote.specs.Hexadecimal.{byte_digits}

-- the sum of the bytes between `$` and `#`, as they are sent, modulo 256
abbrev pub checksum : List ℕ → ℕ
checksum sent = sum sent % 256

-- `#`, `$`, `*` and `}` are sent after a `}`, and differ there in the bit of 32
abbrev pub escape_of : ℕ → List ℕ
escape_of b =
    if b == 35 || (b == 36 || (b == 42 || b == 125)) then 125 ∷ bit_xor b 32 ∷ [] else b ∷ []

abbrev pub escaped : List ℕ → List ℕ
escaped body = flat_map escape_of body

-- what is sent, as it stands between `$` and `#`, with its checksum
abbrev pub enclosed : List ℕ → List ℕ
enclosed sent = 36 ∷ (sent ++ 35 ∷ byte_digits (checksum sent))

-- the packet of a body
abbrev pub framed : List ℕ → List ℕ
framed body = enclosed (escaped body)
