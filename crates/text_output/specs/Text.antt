-- Addresses in texts, and the lines of errors that no rule gives.
use Rattle.std.specs.Prelude.{ℕ, List, ◌++◌, codes}
use Rattle.rv32_text.specs.Listing.{word_digits}

-- a word in eight hexadecimal digits, after 0x
abbrev pub hex8 : ℕ → List ℕ
hex8 n = codes "0x" ++ word_digits n

abbrev pub cannot_write : List ℕ → List ℕ
cannot_write name = codes "shasta: cannot write " ++ (name ++ codes "\n")

abbrev pub cannot_write_output : List ℕ
cannot_write_output = codes "shasta: cannot write output\n"

abbrev pub out_of_memory : List ℕ
out_of_memory = codes "shasta: out of memory\n"
