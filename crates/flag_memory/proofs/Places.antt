-- Where the bytes of addresses stand among those of the shared lines, by the laws of a layout.
use Rattle.std.proofs.Common.{Bool, cond, ◌⊎◌, false, ◌≡◌, ℕ, ◌+◌, ◌-◌, ◌*◌, ◌/◌, ◌%◌, ◌^◌, ◌<◌, ◌≤◌, true, Option, Some, None, ap, arith, inl, inr, refl}
use Rattle.std.specs.Prelude.{◌↔◌, IsSome, slice_index}
use Rattle.std.proofs.lemmas.Bool.Decides.{eqb_tells, leb_tells, nat_tests}
use Rattle.block_layout.specs.Layout.{Shape, IsValid, blocks, lines, first_line, start, block_of, has_line, is_shared, shared_before, shared_lines, place_of}
use Rattle.rv32_decode.specs.declared.Width.{Width}
use Rattle.rv32_decode.specs.declared.Width.TheVariants.{Byte, Half, Word}
use Rattle.rv32_decode.specs.Widths.{size_of, is_aligned}
use Rattle.flag_memory.specs.Copy.{Copy, memory, place}

-- where the lines of blocks stand among the shared lines
pub record Laws (s : Shape) : Type 0 where
  pub within : (b : ℕ) → b < blocks s → start s b + lines s b ≤ shared_lines s
  pub apart : (b c : ℕ) → c < blocks s → b < c → start s b + lines s b ≤ start s c
  pub found : (b line : ℕ) → block_of s line ≡ Some b → (b < blocks s) × (has_line s b line ≡ true)
  pub has : (b line : ℕ) → b < blocks s → has_line s b line ≡ true → block_of s line ≡ Some b
  pub ends : (b line : ℕ) → (has_line s b line ≡ true) ↔ ((first_line s b ≤ line) × (line < first_line s b + lines s b))
  pub shared : (line : ℕ) → (is_shared s line ≡ true) ↔ IsSome (block_of s line)
  pub place : (b line : ℕ) → b < blocks s → has_line s b line ≡ true → shared_before s line ≡ start s b + (line - first_line s b)
  pub count : shared_lines s ≤ 2 ^ 26

pub laws : (s : Shape) → IsValid s
    → ((t : Shape) (b : ℕ) → IsValid t → b < blocks t → start t b + lines t b ≤ shared_lines t)
    → ((t : Shape) (b c : ℕ) → IsValid t → c < blocks t → b < c → start t b + lines t b ≤ start t c)
    → ((t : Shape) (b line : ℕ) → IsValid t → block_of t line ≡ Some b → (b < blocks t) × (has_line t b line ≡ true))
    → ((t : Shape) (b line : ℕ) → IsValid t → b < blocks t → has_line t b line ≡ true → block_of t line ≡ Some b)
    → ((t : Shape) (b line : ℕ) → (has_line t b line ≡ true) ↔ ((first_line t b ≤ line) × (line < first_line t b + lines t b)))
    → ((t : Shape) (line : ℕ) → (is_shared t line ≡ true) ↔ IsSome (block_of t line))
    → ((t : Shape) (b line : ℕ) → IsValid t → b < blocks t → has_line t b line ≡ true → shared_before t line ≡ start t b + (line - first_line t b))
    → ((t : Shape) → IsValid t → shared_lines t ≤ 2 ^ 26)
    → Laws s
laws s v within apart found has ends shared place count = record {
  within = λ b h. within s b v h;
  apart = λ b c h k. apart s b c v h k;
  found = λ b line h. found s b line v h;
  has = λ b line h k. has s b line v h k;
  ends = λ b line. ends s b line;
  shared = λ line. shared s line;
  place = λ b line h k. place s b line v h k;
  count = count s v;
}

bool_is : (b : Bool) → (b ≡ true) ⊎ (b ≡ false)
bool_is true = inl refl
bool_is false = inr refl

-- a line has a place where it is shared
pub place_some : (s : Shape) (line p : ℕ) → place_of s line ≡ Some p → (is_shared s line ≡ true) × (p ≡ shared_before s line)
unfolding place_of
place_some s line p e = elim (bool_is (is_shared s line)) [
  | inl t ↦ (let f : Some (shared_before s line) ≡ Some p = rw t at e in (t, cc))
  | inr t ↦ (let f : None ≡ Some p = rw t at e in cc)
]

pub place_none : (s : Shape) (line : ℕ) → place_of s line ≡ None → is_shared s line ≡ false
unfolding place_of
place_none s line e = elim (bool_is (is_shared s line)) [
  | inl t ↦ (let f : Some (shared_before s line) ≡ None = rw t at e in cc)
  | inr t ↦ t
]

-- a shared line by its block
pub record AtBlock (s : Shape) (line : ℕ) : Type 0 where
  pub block : ℕ
  pub below : block < blocks s
  pub first : first_line s block ≤ line
  pub last : line < first_line s block + lines s block
  pub is : shared_before s line ≡ start s block + (line - first_line s block)

some_at : (o : Option ℕ) → IsSome o → (b : ℕ) × (o ≡ Some b)
some_at None h = absurd cc
some_at (Some b) h = (b, refl)

pub at_block : (s : Shape) (line : ℕ) → Laws s → is_shared s line ≡ true → AtBlock s line
at_block s line l shared = go (some_at (block_of s line) ((l.shared line).0 shared))
  where
    go : (b : ℕ) × (block_of s line ≡ Some b) → AtBlock s line
    go (b, e) =
        let f = l.found b line e in
        let g = (l.ends b line).0 f.1 in
        record { block = b; below = f.0; first = g.0; last = g.1; is = l.place b line f.0 f.1 }

pub before_low : (s : Shape) (line : ℕ) → Laws s → is_shared s line ≡ true → shared_before s line < shared_lines s
before_low s line l shared =
    let b = at_block s line l shared in
    omega (arith, b.first, b.last, b.is, l.within b.block b.below)

pub before_same : (s : Shape) (x y : ℕ) → Laws s → is_shared s x ≡ true → is_shared s y ≡ true → shared_before s x ≡ shared_before s y → x ≡ y
before_same s x y l p q e = go (at_block s x l p) (at_block s y l q)
  where
    go : AtBlock s x → AtBlock s y → x ≡ y
    go b c = elim (eqb_tells b.block c.block) [
      | inl t ↦
          (let f : first_line s b.block ≡ first_line s c.block = ap (first_line s) t.1 in
          let g : start s b.block ≡ start s c.block = ap (start s) t.1 in
          omega (arith, b.first, b.is, c.first, c.is, e, f, g))
      | inr t ↦ elim (leb_tells b.block c.block) [
        | inl u ↦ absurd (omega (arith, l.apart b.block c.block c.below (omega (arith, t.1, u.1)), b.first, b.last, b.is, c.first, c.is, e))
        | inr u ↦ absurd (omega (arith, l.apart c.block b.block b.below u.1, c.first, c.last, b.first, b.is, c.is, e))
      ]
    ]

-- the same of addresses
pub place_low : (s : Shape) (a : ℕ) → Laws s → is_shared s (a / 64) ≡ true → place s a < 64 * shared_lines s
place_low s a l shared = omega (arith, before_low s (a / 64) l shared)

pub place_same : (s : Shape) (x y : ℕ) → Laws s → is_shared s (x / 64) ≡ true → is_shared s (y / 64) ≡ true → place s x ≡ place s y → x ≡ y
place_same s x y l p q e =
    let before : shared_before s (x / 64) ≡ shared_before s (y / 64) = omega arith in
    let line : x / 64 ≡ y / 64 = before_same s (x / 64) (y / 64) l p q before in
    omega arith

-- an access doesn't leave its line
pub aligned_room : (w : Width) (a : ℕ) → is_aligned w a ≡ true → a % 64 + size_of w ≤ 64
aligned_room Byte a h = omega arith
aligned_room Half a h = let e : a % 2 ≡ 0 = grind (arith, nat_tests) in omega arith
aligned_room Word a h = let e : a % 4 ≡ 0 = grind (arith, nat_tests) in omega arith

pub line_more : (a k n : ℕ) → a % 64 + n ≤ 64 → k < n → (a + k) / 64 ≡ a / 64
line_more a k n room below = omega arith

pub place_more : (s : Shape) (a k n : ℕ) → a % 64 + n ≤ 64 → k < n → place s (a + k) ≡ place s a + k
place_more s a k n room below =
    let line : (a + k) / 64 ≡ a / 64 = line_more a k n room below in
    let offset : (a + k) % 64 ≡ a % 64 + k = omega arith in
    rw (line, offset) (omega arith)

-- each byte of a copy's memory is small where each of its bytes is
pub memory_small : (c : Copy) (a : ℕ) → ((k : ℕ) → slice_index c.bytes k < 2 ^ 8) → memory c a < 2 ^ 8
unfolding memory
memory_small c a each = go (is_shared c.layout (a / 64))
  where
    go : (shared : Bool) → cond shared (slice_index c.bytes (place c.layout a)) 0 < 2 ^ 8
    go true = each (place c.layout a)
    go false = omega arith
