-- Where lines stand among the lines of ranges, and what loads and stores there are.
use Rattle.std.proofs.Common.{◌≡◌, ◌≢◌, ℕ, ◌+◌, ◌-◌, ◌*◌, ◌/◌, ◌%◌, ◌^◌, ◌<◌, ◌≤◌, ◌⊎◌, true, false, is_some, leb, ltb, List, [], ◌∷◌, Option, Some, None, length, get_or, refl, ap, sym, ◌∙◌, arith, inl, inr}
use Rattle.std.proofs.Math.Path.{fun_ext}
use Rattle.std.specs.Option.{option_map}
use Rattle.std.proofs.lemmas.List.{get_or_past}
use Rattle.std.proofs.lemmas.Bool.Decides.{eqb_tells, leb_tells, nat_tests}
use Rattle.rv32_decode.specs.Widths.{is_aligned, size_of}
use Rattle.rv32_decode.specs.declared.Width.{Width}
use Rattle.rv32_decode.specs.declared.Width.TheVariants.{Byte, Half, Word}
use Rattle.byte_range.specs.Memory.{raw, stored}
use Rattle.byte_range.specs.Range.{Range, memory_of}
use Rattle.byte_range.specs.Lines.{LineBytes, has_line, place_of, line_count, lines_memory, Ascend}
use Rattle.byte_range.specs.declared.lines.LineRange.{LineRange}
use Rattle.byte_range.proofs.RangeLemmas.{ltb_tells}

-- whether a range has a line, and what that says
pub line_tells : (r : LineRange) (line : ℕ) → ((has_line r line ≡ true) × (r.first ≤ line) × (line < r.first + r.count)) ⊎ ((has_line r line ≡ false) × ((line < r.first) ⊎ (r.first + r.count ≤ line)))
line_tells r line = elim (leb_tells r.first line) [
  | inl l ↦ elim (ltb_tells line (r.first + r.count)) [
    | inl h ↦ inl (rw (l.0, h.0) refl, l.1, h.1)
    | inr h ↦ inr (rw (l.0, h.0) refl, inr h.1)
  ]
  | inr l ↦ inr (rw l.0 refl, inl l.1)
]

-- a number that is a function's, of a number that may be there
pub map_some : (p : Option ℕ) (f : ℕ → ℕ) (o : ℕ) → option_map f p ≡ Some o → (k : ℕ) × (p ≡ Some k) × (o ≡ f k)
map_some None f o is = absurd (cc)
map_some (Some k) f o is = (k, refl, cc)

pub place_small : (rs : List LineRange) (line k : ℕ) → place_of rs line ≡ Some k → k < line_count rs
place_small [] line k is = absurd (cc)
place_small (r ∷ rs) line k is = elim (line_tells r line) [
  | inl y ↦ (let e : Some (line - r.first) ≡ Some k = rw y.0 at is in let f : line - r.first ≡ k = cc in omega arith)
  | inr n ↦
      (let e : option_map (λ j. r.count + j) (place_of rs line) ≡ Some k = rw n.0 at is in
      let m = map_some (place_of rs line) (λ j. r.count + j) k e in
      let below = place_small rs line m.0 m.1 in
      omega (arith, m.2))
]

-- two lines don't stand at one place
pub place_apart : (rs : List LineRange) (l m k : ℕ) → place_of rs l ≡ Some k → place_of rs m ≡ Some k → l ≡ m
place_apart [] l m k is_l is_m = absurd (cc)
place_apart (r ∷ rs) l m k is_l is_m = elim (line_tells r l) [
  | inl y ↦
      (let e : Some (l - r.first) ≡ Some k = rw y.0 at is_l in
      let f : l - r.first ≡ k = cc in
      elim (line_tells r m) [
        | inl z ↦ (let g : Some (m - r.first) ≡ Some k = rw z.0 at is_m in let h : m - r.first ≡ k = cc in omega arith)
        | inr n ↦
            (let g : option_map (λ j. r.count + j) (place_of rs m) ≡ Some k = rw n.0 at is_m in
            let s = map_some (place_of rs m) (λ j. r.count + j) k g in
            absurd (omega (arith, s.2)))
      ])
  | inr n ↦
      (let e : option_map (λ j. r.count + j) (place_of rs l) ≡ Some k = rw n.0 at is_l in
      let s = map_some (place_of rs l) (λ j. r.count + j) k e in
      elim (line_tells r m) [
        | inl z ↦ (let g : Some (m - r.first) ≡ Some k = rw z.0 at is_m in let h : m - r.first ≡ k = cc in absurd (omega (arith, s.2)))
        | inr o ↦
            (let g : option_map (λ j. r.count + j) (place_of rs m) ≡ Some k = rw o.0 at is_m in
            let t = map_some (place_of rs m) (λ j. r.count + j) k g in
            let same : t.0 ≡ s.0 = omega (arith, s.2, t.2) in
            place_apart rs l m s.0 s.1 (t.1 ∙ ap (λ j. Some j) same))
      ])
]

pub count_fits : (low : ℕ) (rs : List LineRange) → Ascend low rs → low + line_count rs ≤ 2 ^ 25
count_fits low [] is = omega (arith, is)
count_fits low (r ∷ rs) is = let rest = count_fits (r.first + r.count) rs is.1 in omega (arith, is.0)

abbrev pub flat_range : List ℕ → Range
flat_range bytes = record { base = 0; bytes = bytes }

-- a byte of the list, as one of a range from 0 on
pub flat_byte : (bytes : List ℕ) (i : ℕ) → get_or bytes i 0 ≡ memory_of (flat_range bytes) (λ _. 0) i
unfolding memory_of
flat_byte bytes i =
    let l : leb 0 i ≡ true = grind (arith, nat_tests) in
    let zero_less : i - 0 ≡ i = omega arith in
    let zero_more : 0 + length bytes ≡ length bytes = omega arith in
    elim (ltb_tells i (length bytes)) [
      | inl h ↦ rw (l, zero_more, h.0, zero_less) refl
      | inr h ↦ rw (l, zero_more, h.0) (get_or_past bytes i 0 h.1)
    ]

-- a byte of a line that has a place
pub line_byte : (m : LineBytes) (outside : ℕ → ℕ) (x k : ℕ) → place_of m.ranges (x / 64) ≡ Some k → lines_memory m outside x ≡ memory_of (flat_range m.bytes) (λ _. 0) (64 * k + x % 64)
unfolding lines_memory
line_byte m outside x k is = rw is (flat_byte m.bytes (64 * k + x % 64))

pub line_byte_outside : (m : LineBytes) (outside : ℕ → ℕ) (x : ℕ) → place_of m.ranges (x / 64) ≡ None → lines_memory m outside x ≡ outside x
unfolding lines_memory
line_byte_outside m outside x is = rw is refl

-- it is small where each byte of the list is
pub line_small : (m : LineBytes) (outside : ℕ → ℕ) (a : ℕ) → ((k : ℕ) → memory_of (flat_range m.bytes) (λ _. 0) k < 2 ^ 8) → (place : Option ℕ) → is_some place ≡ true → place_of m.ranges (a / 64) ≡ place → lines_memory m outside a < 2 ^ 8
line_small m outside a each None there is = absurd (cc)
line_small m outside a each (Some k) there is = rw (line_byte m outside a k is) (each (64 * k + a % 64))

-- a byte so many addresses on, in the same line
byte_on : (m : LineBytes) (outside : ℕ → ℕ) (a k i : ℕ) → place_of m.ranges (a / 64) ≡ Some k → a % 64 + i < 64 → memory_of (flat_range m.bytes) (λ _. 0) (64 * k + a % 64 + i) ≡ lines_memory m outside (a + i)
byte_on m outside a k i is within =
    let same : (a + i) / 64 ≡ a / 64 = omega arith in
    let rest : (a + i) % 64 ≡ a % 64 + i = omega arith in
    let at : place_of m.ranges ((a + i) / 64) ≡ Some k = rw same is in
    let on : 64 * k + (a + i) % 64 ≡ 64 * k + a % 64 + i = omega arith in
    sym (rw on at (line_byte m outside (a + i) k at))

-- an aligned load of the bytes of a line is one of the bytes by their place
pub raw_in_lines : (w : Width) (m : LineBytes) (outside : ℕ → ℕ) (a k : ℕ) → is_aligned w a ≡ true → place_of m.ranges (a / 64) ≡ Some k → raw w (memory_of (flat_range m.bytes) (λ _. 0)) (64 * k + a % 64) ≡ raw w (lines_memory m outside) a
unfolding raw
raw_in_lines Byte m outside a k aligned is = sym (line_byte m outside a k is)
raw_in_lines Half m outside a k aligned is =
    let even : a % 2 ≡ 0 = grind (arith, nat_tests) in
    let b0 = line_byte m outside a k is in
    let b1 = byte_on m outside a k 1 is (omega arith) in
    omega (arith, b0, b1)
raw_in_lines Word m outside a k aligned is =
    let four : a % 4 ≡ 0 = grind (arith, nat_tests) in
    let b0 = line_byte m outside a k is in
    let b1 = byte_on m outside a k 1 is (omega arith) in
    let b2 = byte_on m outside a k 2 is (omega arith) in
    let b3 = byte_on m outside a k 3 is (omega arith) in
    omega (arith, b0, b1, b2, b3)

-- an aligned access ends in the line in which it starts
pub ends_in_line : (w : Width) (a : ℕ) → is_aligned w a ≡ true → a % 64 + size_of w ≤ 64
ends_in_line Byte a aligned = omega arith
ends_in_line Half a aligned = let even : a % 2 ≡ 0 = grind (arith, nat_tests) in omega arith
ends_in_line Word a aligned = let four : a % 4 ≡ 0 = grind (arith, nat_tests) in omega arith

-- a byte elsewhere stays
stored_off : (w : Width) (f : ℕ → ℕ) (a v x : ℕ) → (x < a) ⊎ (a + size_of w ≤ x) → stored w f a v x ≡ f x
unfolding stored
stored_off w f a v x (inl low) = let l : leb a x ≡ false = grind (arith, nat_tests) in rw l refl
stored_off w f a v x (inr high) =
    let l : leb a x ≡ true = grind (arith, nat_tests) in
    let h : ltb x (a + size_of w) ≡ false = grind (arith, nat_tests) in
    rw (l, h) refl

-- a byte of another line
stored_off_line : (w : Width) (f : ℕ → ℕ) (a v x : ℕ) → a % 64 + size_of w ≤ 64 → x / 64 ≢ a / 64 → stored w f a v x ≡ f x
stored_off_line w f a v x ends apart = stored_off w f a v x (elim (leb_tells a x) [
  | inl l ↦ inr (omega arith)
  | inr l ↦ inl l.1
])

-- the same byte of a store at another address
stored_moved : (w : Width) (f g : ℕ → ℕ) (o a y x v : ℕ) → o + x ≡ a + y → f y ≡ g x → stored w f o v y ≡ stored w g a v x
unfolding stored
stored_moved w f g o a y x v shift same = elim (leb_tells a x) [
  | inl l ↦
      (let l1 : leb o y ≡ true = grind (arith, nat_tests) in
      let d : y - o ≡ x - a = omega arith in
      elim (ltb_tells x (a + size_of w)) [
        | inl h ↦ (let h1 : ltb y (o + size_of w) ≡ true = grind (arith, nat_tests) in rw (l.0, h.0, l1, h1, d) refl)
        | inr h ↦ (let h1 : ltb y (o + size_of w) ≡ false = grind (arith, nat_tests) in rw (l.0, h.0, l1, h1) same)
      ])
  | inr l ↦ (let l1 : leb o y ≡ false = grind (arith, nat_tests) in rw (l.0, l1) same)
]

-- an aligned store by the bytes' place is one into the bytes of the line
pub stored_in_lines : (w : Width) (m : LineBytes) (outside : ℕ → ℕ) (bytes : List ℕ) (a v k : ℕ) → is_aligned w a ≡ true → place_of m.ranges (a / 64) ≡ Some k → memory_of (flat_range bytes) (λ _. 0) ≡ stored w (memory_of (flat_range m.bytes) (λ _. 0)) (64 * k + a % 64) v → lines_memory (record { ranges = m.ranges; bytes = bytes }) outside ≡ stored w (lines_memory m outside) a v
stored_in_lines w m outside bytes a v k aligned is flat = fun_ext (λ x. go x (place_of m.ranges (x / 64)) refl)
  where
    new : LineBytes
    new = record { ranges = m.ranges; bytes = bytes }

    old_flat : ℕ → ℕ
    old_flat = memory_of (flat_range m.bytes) (λ _. 0)

    go : (x : ℕ) (p : Option ℕ) → place_of m.ranges (x / 64) ≡ p → lines_memory new outside x ≡ stored w (lines_memory m outside) a v x
    go x None at =
        line_byte_outside new outside x at
        ∙ sym (line_byte_outside m outside x at)
        ∙ sym (stored_off_line w (lines_memory m outside) a v x (ends_in_line w a aligned) (λ e. let both : None ≡ Some k = sym at ∙ ap (place_of m.ranges) e ∙ is in cc))
    go x (Some j) at =
        let y = 64 * j + x % 64 in
        let o = 64 * k + a % 64 in
        let moves : lines_memory new outside x ≡ stored w old_flat o v y = line_byte new outside x j at ∙ ap (λ (f : ℕ → ℕ). f y) flat in
        let same : old_flat y ≡ lines_memory m outside x = sym (line_byte m outside x j at) in
        let ends = ends_in_line w a aligned in
        elim (eqb_tells (x / 64) (a / 64)) [
          | inl e ↦
              (let both : Some j ≡ Some k = sym at ∙ ap (place_of m.ranges) e.1 ∙ is in
              let jk : j ≡ k = cc in
              moves ∙ stored_moved w old_flat (lines_memory m outside) o a y x v (omega (arith, e.1)) same)
          | inr n ↦
              (let jk : j ≢ k = λ e. n.1 (place_apart m.ranges (x / 64) (a / 64) k (at ∙ ap (λ i. Some i) e) is) in
              let y_line : y / 64 ≡ j = omega arith in
              let o_line : o / 64 ≡ k = omega arith in
              let o_rest : o % 64 ≡ a % 64 = omega arith in
              moves
              ∙ stored_off_line w old_flat o v y (omega arith) (λ e. jk (omega arith))
              ∙ same
              ∙ sym (stored_off_line w (lines_memory m outside) a v x ends n.1))
        ]
