-- What instructions reach, an instruction at a time.
use Rattle.std.specs.Prelude.{◌≡◌, pos, ◌+ℤ◌, int_le, Bool, ◌&&◌, ◌||◌, IsTrue, List, [], ◌∷◌, ◌++◌, Option, unwrap_or, option_and_then}
use Rattle.std.specs.Option.{option_map}
use Rattle.rv32_decode.specs.declared.Instr.{Instr}
use Rattle.templates.specs.Runs.{Reach, reach_by, reach_of, span_of, is_store, has_access, lesser, greater}

-- what one instruction reaches, where it accesses memory
abbrev pub access_reach : Instr → Option Reach
access_reach i = option_map (λ x. reach_by (x ∷ []) (is_store i)) (span_of i)

-- what two reach by the first one's base register
abbrev pub join : Reach → Reach → Reach
join x y = record {
  base = x.base;
  low = lesser x.low y.low;
  high = greater x.high y.high;
  stores = x.stores || y.stores;
}

-- what instructions that begin with an access reach, with one more after them
abbrev pub Extends : Reach → Instr → Reach → Type 0
Extends old i new =
    (is : List Instr) → IsTrue (has_access is 0) → old ≡ reach_of is → new ≡ reach_of (is ++ i ∷ [])

-- the accesses lie within 64 bytes, whose offsets an immediate can have
abbrev pub is_near : Reach → Bool
is_near r = int_le r.high (r.low +ℤ pos 63) && int_le r.high (pos 2047)

-- what the first instruction reaches: nothing, where there is none or it accesses no memory
abbrev pub first_reach : Option Instr → Reach
first_reach i = unwrap_or (option_and_then access_reach i) (reach_of [])
