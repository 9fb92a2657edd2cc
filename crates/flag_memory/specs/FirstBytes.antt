-- The first contents of the shared memory: what a program's file has for its addresses.
use Rattle.std.specs.Prelude.{ℕ, ◌+◌, ◌-◌, ◌^◌, ◌≤◌, Bool, ◌&&◌, nat_lt, nat_le, List, length, slice_index, find, All, AllPairs}
use Rattle.std.specs.Option.{option_map_or}

-- bytes from an address on
pub record FirstRange : Type 0 where
  pub address : ℕ
  pub bytes : List ℕ

-- the range has a byte for the address
abbrev pub holds : ℕ → FirstRange → Bool
holds a r = nat_le r.address a && nat_lt a (r.address + length r.bytes)

-- the byte of an address by a search of the list, and 0 where no range has one
abbrev pub first_byte : List FirstRange → ℕ → ℕ
first_byte rs a = option_map_or (λ r. slice_index r.bytes (a - r.address)) (find (holds a) rs) 0

-- ranges of addresses, ascending, without overlap
pub record AreFirstBytes (rs : List FirstRange) : Type 0 where
  pub low : All (λ r. r.address + length r.bytes ≤ 2 ^ 32) rs
  pub ascending : AllPairs (λ r q. r.address + length r.bytes ≤ q.address) rs
