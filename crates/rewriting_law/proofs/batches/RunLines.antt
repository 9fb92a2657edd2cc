-- The two lines that a run reaches: each access lies in one of them, and what their states allow.
use Rattle.std.proofs.Common.{◌≡◌, ℕ, ◌+◌, ◌-◌, ◌/◌, ◌%◌, ◌^◌, ◌<◌, ◌≤◌, ◌⊎◌, eqb, Bool, true, false, sym, ap, ◌∙◌, subst, inl, inr, arith}
use Rattle.std.specs.Prelude.{ℤ, pos, negsuc, ◌+ℤ◌, ◌≤ℤ◌, not, bit_and, bit_or}
use Rattle.std.specs.Int.Bits.{or_add_and}
use Rattle.std.proofs.lemmas.Bool.Decides.{eqb_tells, nat_tests}
use Rattle.std.proofs.lemmas.Int.{ints}
use Rattle.std.proofs.lemmas.Nat.{and_le_l, and_le_r}
use Rattle.std.proofs.lemmas.Nat.Bits.{and_pow, bit_at_or}
use Rattle.rewriting_law.proofs.Names.{size_of, Width, Class, Shared, Program, is_mapped, is_writable, line_of, offset_address, Reach, NodeMemory, is_readable_state, is_writable_state, meets_need, refuses_need, need_of_run}
use Rattle.rewriting_law.proofs.templates.States.{StateFits, Later, grants, ReadLook, Gone, Readable, Unreadable, read_look, WriteLook, Fixed, Writable, Unwritable, write_look}
use Rattle.rewriting_law.proofs.templates.RegisterLemmas.{equal}
use Rattle.rewriting_law.proofs.batches.RunStretches.{Within}

-- a number between two that are at most 63 apart is in the line of one of them
near : (x u v : ℕ) → u ≤ v → v ≤ 63 → ((x + u) / 64 ≡ x / 64) ⊎ ((x + u) / 64 ≡ (x + v) / 64)
near x u v below small = elim (eqb_tells ((x + u) / 64) (x / 64)) [
  | inl e ↦ inl e.1
  | inr e ↦ inr (omega (arith, e.1))
]

-- where the first of three addresses is of the lower half
spread : (value low middle high : ℕ) → low ≤ middle → middle ≤ high → high ≤ low + 63
    → (value + low) % 2 ^ 32 < 2 ^ 31
    → ((value + middle) % 2 ^ 32 / 64 ≡ (value + low) % 2 ^ 32 / 64)
    ⊎ ((value + middle) % 2 ^ 32 / 64 ≡ (value + high) % 2 ^ 32 / 64)
spread value low middle high from to small half =
    let x = (value + low) % 2 ^ 32 in
    let e : (value + middle) % 2 ^ 32 ≡ x + (middle - low) = omega arith in
    let f : (value + high) % 2 ^ 32 ≡ x + (high - low) = omega arith in
    rw (e, f) (near x (middle - low) (high - low) (omega arith) (omega arith))

-- an offset between two that are at most 63 apart is in the line of one of them
in_lines : (value : ℕ) (low middle high : ℤ) → low ≤ℤ middle → middle ≤ℤ high
    → high ≤ℤ (low +ℤ pos 63) → offset_address value low < 2 ^ 31
    → (line_of (offset_address value middle) ≡ line_of (offset_address value low))
    ⊎ (line_of (offset_address value middle) ≡ line_of (offset_address value high))
in_lines value (pos l) (pos m) (pos h) from to small half =
    spread value l m h (omega (arith, ints)) (omega (arith, ints)) (omega (arith, ints)) half
in_lines value (negsuc l) (pos m) (pos h) from to small half =
    let few : h + l + 1 ≤ 63 = omega (arith, ints) in
    let up : m ≤ h = omega (arith, ints) in
    let e : (value + m) % 2 ^ 32 ≡ (value + (2 ^ 32 + m)) % 2 ^ 32 = omega arith in
    let f : (value + h) % 2 ^ 32 ≡ (value + (2 ^ 32 + h)) % 2 ^ 32 = omega arith in
    rw (e, f) (spread value (2 ^ 32 - 1 - l) (2 ^ 32 + m) (2 ^ 32 + h) (omega arith) (omega arith)
    (omega arith) half)
in_lines value (negsuc l) (negsuc m) (pos h) from to small half =
    let few : h + l + 1 ≤ 63 = omega (arith, ints) in
    let up : m ≤ l = omega (arith, ints) in
    let f : (value + h) % 2 ^ 32 ≡ (value + (2 ^ 32 + h)) % 2 ^ 32 = omega arith in
    rw f (spread value (2 ^ 32 - 1 - l) (2 ^ 32 - 1 - m) (2 ^ 32 + h) (omega arith) (omega arith)
    (omega arith) half)
in_lines value (negsuc l) (negsuc m) (negsuc h) from to small half =
    let few : l ≤ h + 63 = omega (arith, ints) in
    let up : m ≤ l = omega (arith, ints) in
    let down : h ≤ m = omega (arith, ints) in
    spread value (2 ^ 32 - 1 - l) (2 ^ 32 - 1 - m) (2 ^ 32 - 1 - h) (omega arith) (omega arith)
    (omega arith) half
in_lines value (negsuc l) (pos m) (negsuc h) from to small half = absurd (omega (arith, ints))
in_lines value (pos l) (negsuc m) (pos h) from to small half = absurd (omega (arith, ints))
in_lines value (pos l) (negsuc m) (negsuc h) from to small half = absurd (omega (arith, ints))
in_lines value (pos l) (pos m) (negsuc h) from to small half = absurd (omega (arith, ints))

-- a line serves a run: it may be read, and written where the run stores
pub record Serves (program : Program) (stores : Bool) (state : ℕ → ℕ) (line : ℕ) : Type 0 where
  pub mapped : is_mapped (program.class line) ≡ true
  pub readable : is_readable_state (state line) ≡ true
  pub writable : stores ≡ true → is_writable (program.class line) ≡ true
  pub granted : stores ≡ true → is_writable_state (state line) ≡ true

-- and so do both lines of a run
pub record BothServe (program : Program) (reach : Reach) (value : ℕ) (state : ℕ → ℕ) : Type 0 where
  pub low : Serves program reach.stores state (line_of (offset_address value reach.low))
  pub high : Serves program reach.stores state (line_of (offset_address value reach.high))

-- they serve it still, whatever the other processors of the node, and messages that take nothing
-- away, make of them
pub serves_later : (program : Program) (stores : Bool) (n m : NodeMemory) (line : ℕ) → Later n m
    → Serves program stores n.state line → Serves program stores m.state line
serves_later program stores n m line later serves = record {
  mapped = serves.mapped;
  readable = later.reads line serves.readable;
  writable = serves.writable;
  granted = λ h. later.writes line (serves.granted h);
}

pub both_later : (program : Program) (reach : Reach) (value : ℕ) (n m : NodeMemory) → Later n m
    → BothServe program reach value n.state → BothServe program reach value m.state
both_later program reach value n m later both = record {
  low = serves_later program reach.stores n m (line_of (offset_address value reach.low)) later
      both.low;
  high = serves_later program reach.stores n m (line_of (offset_address value reach.high)) later
      both.high;
}

-- so the line of each access does
pub access_serves : (program : Program) (reach : Reach) (value : ℕ) (state : ℕ → ℕ) (imm : ℤ)
    (w : Width) → reach.high ≤ℤ (reach.low +ℤ pos 63)
    → offset_address value reach.low < 2 ^ 31 → Within reach imm w
    → BothServe program reach value state
    → Serves program reach.stores state (line_of (offset_address value imm))
access_serves program reach value state imm w small half within serve =
    elim (in_lines value reach.low imm reach.high within.0
    (below imm (size_of w - 1) reach.high within.1) small half) [
      | inl e ↦ subst (Serves program reach.stores state) (sym e) serve.low
      | inr e ↦ subst (Serves program reach.stores state) (sym e) serve.high
    ]
  where
    below : (x : ℤ) (n : ℕ) (y : ℤ) → (x +ℤ pos n) ≤ℤ y → x ≤ℤ y
    below x n y h = omega (arith, ints)

-- states as numbers
zero_if : (v : ℕ) → eqb v 0 ≡ true → v ≡ 0
zero_if v h = grind (arith, nat_tests)

or_zero : (v w : ℕ) → bit_or v w ≡ 0 → (v ≡ 0) × (w ≡ 0)
or_zero v w h =
    let e = or_add_and v w in
    let f = and_le_l v w in
    let g = and_le_r v w in
    (omega (arith, e, f, g), omega (arith, e, f, g))

or_clear : (v w : ℕ) → bit_and (bit_or v w) 2 ≡ 0 → (bit_and v 2 ≡ 0) × (bit_and w 2 ≡ 0)
or_clear v w z =
    let a = and_pow (bit_or v w) 1 in
    let b = and_pow v 1 in
    let c = and_pow w 1 in
    let o = bit_at_or v w 1 in
    (omega (arith, a, b, c, o, z), omega (arith, a, b, c, o, z))

-- the test of a head: what the register holds of two state bytes
abbrev pub masked : Bool → ℕ → ℕ
masked true v = v
masked false v = bit_and v 2

-- where it is 0 both lines meet what the run needs
pub both_met : (stores : Bool) (v w : ℕ) → eqb (masked stores (bit_or v w)) 0 ≡ true
    → (meets_need (need_of_run stores) v ≡ true) × (meets_need (need_of_run stores) w ≡ true)
both_met true v w h =
    let two = or_zero v w (zero_if (bit_or v w) h) in (equal v 0 two.0, equal w 0 two.1)
both_met false v w h =
    let two = or_clear v w (zero_if (bit_and (bit_or v w) 2) h) in
    (equal (bit_and v 2) 0 two.0, equal (bit_and w 2) 0 two.1)

-- a line that meets what the run needs serves it
pub serves_if : (program : Program) (stores : Bool) (state : ℕ → ℕ) (line : ℕ)
    → StateFits (program.class line) (state line)
    → meets_need (need_of_run stores) (state line) ≡ true → Serves program stores state line
serves_if program true state line fits meets = go (write_look (program.class line) (state line)
    fits)
  where
    go : WriteLook (program.class line) (state line) → Serves program true state line
    go (Fixed no_store fixed unwritable) = let bad : false ≡ true = sym unwritable ∙ meets in cc
    go (Unwritable shared free unwritable) =
        let bad : false ≡ true = sym unwritable ∙ meets in cc
    go (Writable writable mapped free may) =
        let zero : state line ≡ 0 = zero_if (state line) meets in
        record {
          mapped = mapped;
          readable = ap is_readable_state zero;
          writable = λ h. writable;
          granted = λ h. may;
        }
serves_if program false state line fits meets = go (read_look (program.class line) (state line)
    fits)
  where
    go : ReadLook (program.class line) (state line) → Serves program false state line
    go (Gone unmapped gone unreadable) = let bad : false ≡ true = sym unreadable ∙ meets in cc
    go (Unreadable shared known unreadable) =
        let bad : false ≡ true = sym unreadable ∙ meets in cc
    go (Readable mapped known readable) = record {
      mapped = mapped;
      readable = readable;
      writable = λ h. (let bad : false ≡ true = h in cc);
      granted = λ h. (let bad : false ≡ true = h in cc);
    }

-- a line that doesn't meet it, and doesn't refuse it, is shared
pub shared_if : (stores : Bool) (class : Class) (state : ℕ) → StateFits class state
    → refuses_need (need_of_run stores) state ≡ false
    → meets_need (need_of_run stores) state ≡ false → class ≡ Shared
shared_if true class state fits refuses meets = go (write_look class state fits)
  where
    go : WriteLook class state → class ≡ Shared
    go (Fixed no_store fixed unwritable) = let bad : true ≡ false = sym fixed ∙ refuses in cc
    go (Writable writable mapped free may) = let bad : true ≡ false = sym may ∙ meets in cc
    go (Unwritable shared free unwritable) = shared
shared_if false class state fits refuses meets = go (read_look class state fits)
  where
    go : ReadLook class state → class ≡ Shared
    go (Gone unmapped gone unreadable) =
        let bad : true ≡ false = sym (ap not gone) ∙ refuses in cc
    go (Readable mapped known readable) = let bad : true ≡ false = sym readable ∙ meets in cc
    go (Unreadable shared known unreadable) = shared

-- what a line meets is what it grants
pub unmet_if : (stores : Bool) (state : ℕ) → meets_need (need_of_run stores) state ≡ false
    → grants (need_of_run stores) state ≡ false
unmet_if true state h = h
unmet_if false state h = h
