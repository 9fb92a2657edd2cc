-- Loads and stores of the copy, by what a node stores.
use Rattle.std.proofs.Common.{◌≡◌, ℕ, ◌+◌, ◌-◌, ◌*◌, ◌/◌, ◌%◌, ◌^◌, ◌<◌, ◌≤◌, ◌&&◌, ◌==◌, Bool, true, false, cond, leb, ltb, Option, Some, None, refl, sym, ap, ◌∙◌, inl, inr, arith}
use Rattle.std.proofs.Math.Path.{fun_ext}
use Rattle.std.proofs.lemmas.Bool.Decides.{nat_tests}
use Rattle.std.proofs.lemmas.Bool.{cases_lt}
use Rattle.rv32_decode.specs.declared.Width.{Width}
use Rattle.rv32_decode.specs.declared.Width.TheVariants.{Byte, Half, Word}
use Rattle.rv32_decode.specs.Widths.{is_aligned, size_of}
use Rattle.exec_map.specs.byte_range.Memory.{raw, stored}
use Rattle.elf32_read.specs.Elf.{Elf}
use Rattle.std.specs.Prelude.{◌↔◌, IsSome, is_some}
use Rattle.block_layout.specs.Layout.{Shape, IsValid, is_shared, blocks, lines, first_line, start, block_of, has_line, shared_before, shared_lines, place_of}
use Rattle.exec_map.specs.byte_range.Lines.{LineBytes, place_of as lines_place}
use Rattle.node_model.specs.state_table.States.{States, line_byte, line_byte_in}
use Rattle.exec_map.specs.Contents.{class_of_line, is_shared as is_shared_class}
use Rattle.exec_map.specs.rv32_program.declared.Class.{Class}
use Rattle.exec_map.specs.rv32_program.declared.Class.TheVariants as class
use Rattle.node_model.specs.flag_memory.Copy.{Copy, memory}
use Rattle.node_model.specs.flag_memory.Flag.{flag_byte}
use Rattle.node_model.specs.Node.{first_state}
use Rattle.node_memory.specs.Shelf.{Shelf, HasLines, HasFixed, AreFirstLines, copy_of}
use Rattle.node_memory.proofs.MemoryLemmas.{fixed_place}

pub copy_shared : (c : Copy) (a : ℕ) → is_shared c.layout (a / 64) ≡ true → copy_of c a ≡ memory c a
unfolding copy_of
copy_shared c a s = ap (λ (t : Bool). cond t (memory c a) (flag_byte a)) s

pub copy_outside : (c : Copy) (a : ℕ) → is_shared c.layout (a / 64) ≡ false → copy_of c a ≡ flag_byte a
unfolding copy_of
copy_outside c a s = ap (λ (t : Bool). cond t (memory c a) (flag_byte a)) s

-- each byte of the copy by address is small where that of its memory is
pub copy_small : (c : Copy) (a : ℕ) → memory c a < 2 ^ 8 → copy_of c a < 2 ^ 8
unfolding copy_of
copy_small c a small = go (is_shared c.layout (a / 64))
  where
    flag : (b : Bool) → cond b 3 255 < 2 ^ 8
    flag true = omega arith
    flag false = omega arith

    go : (shared : Bool) → cond shared (memory c a) (flag_byte a) < 2 ^ 8
    go true = small
    go false = flag (a % 4 == 0)

is_shared_tells : (k : Class) → is_shared_class k ≡ true → k ≡ class.Shared
is_shared_tells class.Shared e = refl
is_shared_tells class.ReadOnly e = cc
is_shared_tells class.Private e = cc
is_shared_tells class.Unmapped e = cc

pub shared_class : (s : Shelf) (line : ℕ) → HasLines s.program s.states s.copy → is_shared s.copy.layout line ≡ true
    → class_of_line s.program line ≡ class.Shared
shared_class s line h e = is_shared_tells (class_of_line s.program line) (sym (h.shared line) ∙ e)

pub not_shared_class : (s : Shelf) (line : ℕ) → HasLines s.program s.states s.copy → is_shared s.copy.layout line ≡ false
    → class_of_line s.program line ≡ class.Shared → ⊥
not_shared_class s line h e is =
    let both : true ≡ false = sym (ap is_shared_class is) ∙ sym (h.shared line) ∙ e in cc

pub low_address : (s : Shelf) (a : ℕ) → HasLines s.program s.states s.copy → is_shared s.copy.layout (a / 64) ≡ true → a < 2 ^ 31
low_address s a h e = let low = h.low (a / 64) e in omega (arith, low)

-- the bytes of one line
shared_on : (c : Copy) (a k : ℕ) → is_shared c.layout (a / 64) ≡ true → (a + k) / 64 ≡ a / 64
    → copy_of c (a + k) ≡ memory c (a + k)
shared_on c a k e line = copy_shared c (a + k) (ap (is_shared c.layout) line ∙ e)

pub raw_of_copy : (w : Width) (c : Copy) (a : ℕ) → is_aligned w a ≡ true → is_shared c.layout (a / 64) ≡ true
    → raw w (memory c) a ≡ raw w (copy_of c) a
unfolding raw
raw_of_copy Byte c a aligned e = sym (copy_shared c a e)
raw_of_copy Half c a aligned e =
    let even : a % 2 ≡ 0 = grind (arith, nat_tests) in
    let b0 = copy_shared c a e in
    let b1 = shared_on c a 1 e (omega arith) in
    omega (arith, b0, b1)
raw_of_copy Word c a aligned e =
    let four : a % 4 ≡ 0 = grind (arith, nat_tests) in
    let b0 = copy_shared c a e in
    let b1 = shared_on c a 1 e (omega arith) in
    let b2 = shared_on c a 2 e (omega arith) in
    let b3 = shared_on c a 3 e (omega arith) in
    omega (arith, b0, b1, b2, b3)

in_line : (w : Width) (a x : ℕ) → is_aligned w a ≡ true → a ≤ x → x < a + size_of w → x / 64 ≡ a / 64
in_line Byte a x aligned low high = omega arith
in_line Half a x aligned low high = let even : a % 2 ≡ 0 = grind (arith, nat_tests) in omega arith
in_line Word a x aligned low high = let four : a % 4 ≡ 0 = grind (arith, nat_tests) in omega arith

stored_at : (w : Width) (m : ℕ → ℕ) (a value x : ℕ) → stored w m a value x
    ≡ cond (leb a x && ltb x (a + size_of w)) (value / 2 ^ (8 * (x - a)) % 2 ^ 8) (m x)
unfolding stored
stored_at w m a value x = refl

-- a store of the copy, where the line is shared
pub stored_in_copy : (w : Width) (old new : Copy) (a value : ℕ) → is_aligned w a ≡ true
    → is_shared old.layout (a / 64) ≡ true → new.layout ≡ old.layout
    → memory new ≡ stored w (memory old) a value → copy_of new ≡ stored w (copy_of old) a value
stored_in_copy w old new a value aligned e layout is = fun_ext (λ x. go x (is_shared old.layout (x / 64)) refl)
  where
    same_layout : (x : ℕ) (t : Bool) → is_shared old.layout (x / 64) ≡ t → is_shared new.layout (x / 64) ≡ t
    same_layout x t q = ap (λ (z : Shape). is_shared z (x / 64)) layout ∙ q

    outside : (x : ℕ) (t : Bool) → (leb a x && ltb x (a + size_of w)) ≡ t → is_shared old.layout (x / 64) ≡ false
        → flag_byte x ≡ cond t (value / 2 ^ (8 * (x - a)) % 2 ^ 8) (flag_byte x)
    outside x true q out =
        let low : a ≤ x = grind (arith, nat_tests) in
        let high : x < a + size_of w = grind (arith, nat_tests) in
        let line = in_line w a x aligned low high in
        let both : true ≡ false = sym e ∙ ap (is_shared old.layout) (sym line) ∙ out in
        absurd (cc)
    outside x false q out = refl

    go : (x : ℕ) (t : Bool) → is_shared old.layout (x / 64) ≡ t → copy_of new x ≡ stored w (copy_of old) a value x
    go x true q =
        copy_shared new x (same_layout x true q) ∙ ap (λ (g : ℕ → ℕ). g x) is ∙ stored_at w (memory old) a value x
        ∙ ap (cond (leb a x && ltb x (a + size_of w)) (value / 2 ^ (8 * (x - a)) % 2 ^ 8)) (sym (copy_shared old x q))
        ∙ sym (stored_at w (copy_of old) a value x)
    go x false q =
        copy_outside new x (same_layout x false q) ∙ outside x (leb a x && ltb x (a + size_of w)) refl q
        ∙ ap (cond (leb a x && ltb x (a + size_of w)) (value / 2 ^ (8 * (x - a)) % 2 ^ 8)) (sym (copy_outside old x q))
        ∙ sym (stored_at w (copy_of old) a value x)

-- 2. Places of the shared bytes

-- what the layout's law says of places
pub record PlaceLaws : Type 0 where
  pub ends : (s : Shape) (b line : ℕ) → (has_line s b line ≡ true) ↔
      ((first_line s b ≤ line) × (line < first_line s b + lines s b))
  pub has : (s : Shape) (b line : ℕ) → IsValid s → b < blocks s → has_line s b line ≡ true
      → block_of s line ≡ Some b
  pub found : (s : Shape) (b line : ℕ) → IsValid s → block_of s line ≡ Some b → (b < blocks s)
      × (has_line s b line ≡ true)
  pub shared : (s : Shape) (line : ℕ) → (is_shared s line ≡ true) ↔ IsSome (block_of s line)
  pub place : (s : Shape) (b line : ℕ) → IsValid s → b < blocks s → has_line s b line ≡ true
      → shared_before s line ≡ start s b + (line - first_line s b)
  pub within : (s : Shape) (b : ℕ) → IsValid s → b < blocks s → start s b + lines s b ≤ shared_lines s
  pub count : (s : Shape) → IsValid s → shared_lines s ≤ 2 ^ 26

pub place_of_is : (s : Shape) (line k : ℕ) → place_of s line ≡ Some k
    → (is_shared s line ≡ true) × (k ≡ shared_before s line)
unfolding place_of
place_of_is s line k is = go (is_shared s line) is
  where
    go : (t : Bool) → cond t (Some (shared_before s line)) None ≡ Some k → (t ≡ true) × (k ≡ shared_before s line)
    go true e = (refl, cc)
    go false e = absurd (cc)

-- a line that has no place isn't shared
pub place_none : (s : Shape) (line : ℕ) → place_of s line ≡ None → is_shared s line ≡ false
unfolding place_of
place_none s line is = go (is_shared s line) is
  where
    go : (t : Bool) → cond t (Some (shared_before s line)) None ≡ None → t ≡ false
    go true e = absurd (cc)
    go false e = refl

pub place_of_line : (s : Shape) (line at : ℕ) → is_shared s line ≡ true → at ≡ 64 * shared_before s line → place_of s line ≡ Some (at / 64)
unfolding place_of
place_of_line s line at on is = rw on (let z : shared_before s line ≡ at / 64 = omega (arith, is) in ap (λ x. Some x) z)

-- the place of the line of an address, by that of its byte
pub place_of_address : (s : Shape) (a at : ℕ) → is_shared s (a / 64) ≡ true → at ≡ 64 * shared_before s (a / 64) + a % 64
    → place_of s (a / 64) ≡ Some (at / 64)
place_of_address s a at on is =
    let whole : 64 * (at / 64) ≡ 64 * shared_before s (a / 64) = omega (arith, is) in
    place_of_line s (a / 64) (64 * (at / 64)) on whole ∙ ap (λ x. Some x) (back (at / 64))
  where
    back : (x : ℕ) → 64 * x / 64 ≡ x
    back x = omega arith

pub block_none : (s : Shape) (line : ℕ) → is_shared s line ≡ false → block_of s line ≡ None
unfolding block_of
block_none s line out = rw out refl

module _ (laws : PlaceLaws) (s : Shape) (valid : IsValid s) where
  -- there are no more places than lines
  pub before_low : (line : ℕ) → is_shared s line ≡ true → shared_before s line < 2 ^ 26
  before_low line on = go (block_of s line) refl
    where
      none_true : false ≡ true → ⊥
      none_true e = cc

      go : (o : Option ℕ) → block_of s line ≡ o → shared_before s line < 2 ^ 26
      go None is = absurd (none_true (sym (ap is_some is) ∙ (laws.shared s line).0 on))
      go (Some b) is =
          let f = laws.found s b line valid is in
          let e = (laws.ends s b line).0 f.1 in
          let low = e.0 in
          let high = e.1 in
          let p = laws.place s b line valid f.0 f.1 in
          let w = laws.within s b valid f.0 in
          let c = laws.count s valid in
          omega (arith, low, high, p, w, c)

-- lines whose places are from 0 on
pub record FirstOf (s : Shape) (first count : ℕ) : Type 0 where
  pub fits : first + count ≤ 2 ^ 26
  pub each : (line : ℕ) → first ≤ line → line < first + count
      → (is_shared s line ≡ true) × (shared_before s line ≡ line - first)

-- a block more
pub more_first : (laws : PlaceLaws) (s : Shape) (valid : IsValid s) (first count b : ℕ) → FirstOf s first count
    → b < blocks s → first_line s b ≡ first + count → start s b ≡ count → first_line s b + lines s b ≤ 2 ^ 26
    → FirstOf s first (count + lines s b)
more_first laws s valid first count b old bb at begins low = record {
  fits = omega (arith, at, low);
  each = λ line above below. elim (cases_lt line (first + count)) [
    | inl l ↦ old.each line above l
    | inr h ↦
        (let in_b = (laws.ends s b line).1 (omega (arith, at, h), omega (arith, at, below)) in
        let on = (laws.shared s line).1 (ap is_some (laws.has s b line valid bb in_b)) in
        let p = laws.place s b line valid bb in_b in
        (on, omega (arith, p, at, begins, h)))
  ];
}

pub first_lines : (laws : PlaceLaws) (s : Shape) (valid : IsValid s) (first count : ℕ) → FirstOf s first count
    → AreFirstLines s (64 * first) (64 * count)
first_lines laws s valid first count of = record {
  fits = let f = of.fits in omega (arith, f);
  first = λ a low high.
      let e = of.each (a / 64) (omega (arith, low)) (omega (arith, high)) in
      let p = e.1 in
      (e.0, omega (arith, p, low));
}

-- the state byte of a line that isn't shared is that of its class
class_state : (e : Elf) (states : States) (copy : Copy) (line : ℕ) → HasLines e states copy
    → is_shared copy.layout line ≡ false → line_byte states line ≡ first_state (class_of_line e line) false
class_state e states copy line h out =
    let none : block_of states.layout line ≡ None = block_none states.layout line (ap (λ (z : Shape). is_shared z line) h.one ∙ out) in
    ap (line_byte_in states line) none ∙ h.others line out

-- the state byte of a read-only line
pub fixed_byte : (e : Elf) (states : States) (copy : Copy) (m : LineBytes) (line : ℕ) → HasLines e states copy → HasFixed e m
    → is_shared copy.layout line ≡ false → is_some (lines_place m.ranges line) ≡ true → 5 ≡ line_byte states line
fixed_byte e states copy m line h fixed out there =
    sym (class_state e states copy line h out ∙ ap (λ (k : Class). first_state k false) (fixed_place e m line fixed there))

-- the state byte of a private line
pub private_byte : (e : Elf) (states : States) (copy : Copy) (line : ℕ) → HasLines e states copy
    → class_of_line e line ≡ class.Private → 0 ≡ line_byte states line
private_byte e states copy line h is =
    let out : is_shared copy.layout line ≡ false = h.shared line ∙ ap is_shared_class is in
    sym (class_state e states copy line h out ∙ ap (λ (k : Class). first_state k false) is)
