-- The pieces of an index: their order, and the block at a place of one.
use Rattle.std.proofs.Common.{◌≡◌, ℕ, zero, suc, ◌+◌, ◌-◌, ◌*◌, ◌/◌, ◌^◌, ◌<◌, ◌≤◌, Bool, true, false, ◌&&◌, leb, ltb, List, [], ◌∷◌, length, get_or, Option, Some, None, refl, sym, ap, ◌∙◌, subst, inl, inr, arith}
use Rattle.std.specs.Option.{unwrap_or}
use Rattle.std.specs.List.Sorted.{IsNonDecreasingBy, IsPartitionPoint}
use Rattle.std.proofs.lemmas.Bool.{cases_Bool, cases_lt, leb-true, leb-false}
use Rattle.std.proofs.lemmas.Bool.Decides.{nat_tests}
use Rattle.std.proofs.lemmas.Nat.{div-mul-add, div-add-mod', mod_below}
use Rattle.std.proofs.lemmas.List.Sorted.{IsNonDecreasingBy-from_all_adjacent}
use Rattle.std.specs.Fn.{Called, ComputesKey}
use Rattle.std.specs.List.Sorted.{IsPartitionedBy}
use Rattle.std.proofs.lemmas.List.Sorted.{IsPartitionPoint-from_clause, IsPartitionedBy-leb}
use denote.Param.Members.{Mut}
use denote.Ref.{Bor}
use Rattle.block_layout.specs.declared.index.BlockRun.{BlockRun}
use Rattle.block_layout.specs.declared.index.Index.{Index}
use Rattle.block_layout.specs.Layout.{Shape, IsValid, is_shared, range_of, size_at, first_at, begins_block, home_at, home_in_turn, named_home, blocks_before, shared_before, blocks, shared_lines, first_line, lines, home, start, block_of, place_of, has_line}
use Rattle.block_layout.specs.Index.{IsBlockAt, IsPiece, AreChained, IsIndexBelow, IsIndex, IsPieceOf, IsBegun}
use Rattle.block_layout.proofs.Passing.{count, count_mono, count_below, count_le, same_place}
use Rattle.block_layout.proofs.Blocks.{IsCut, is_cut, first_le, line_within, same_size, same_first}
use Rattle.block_layout.proofs.Numbers.{before_is, shared_is, size_is, start_is, home_is, begins_parts, first_begins, block_at, block_has, block_of_shared, block_of_none, shared_low, ends_law, place_law, place_of_shared, place_of_none}

chained_first : (b n : ℕ) (ps : List BlockRun) (d : BlockRun) → AreChained b ps n → 0 < length ps → (get_or ps 0 d).block ≡ b
chained_first b n [] d c h = absurd (omega arith)
chained_first b n (p ∷ ps) d c h = c.0

chained_next : (b n : ℕ) (ps : List BlockRun) (i : ℕ) (d : BlockRun) → AreChained b ps n → i + 1 < length ps → (get_or ps (i + 1) d).block ≡ (get_or ps i d).block + (get_or ps i d).count
chained_next b n [] i d c h = absurd (omega arith)
chained_next b n (p ∷ ps) zero d c h =
    let e : 0 + 1 ≡ suc 0 = omega arith in
    rw e (chained_first (p.block + p.count) n ps d c.1 (omega arith))
chained_next b n (p ∷ ps) (suc i) d c h =
    let e : suc i + 1 ≡ suc (i + 1) = omega arith in
    rw e (chained_next (p.block + p.count) n ps i d c.1 (omega arith))

pub chained_last : (b n : ℕ) (ps : List BlockRun) (i : ℕ) (d : BlockRun) → AreChained b ps n → i + 1 ≡ length ps → n ≡ (get_or ps i d).block + (get_or ps i d).count
chained_last b n [] i d c h = absurd (omega arith)
chained_last b n (p ∷ []) zero d c h = sym c.1
chained_last b n (p ∷ []) (suc i) d c h = absurd (omega arith)
chained_last b n (p ∷ q ∷ ps) zero d c h = absurd (omega arith)
chained_last b n (p ∷ q ∷ ps) (suc i) d c h = chained_last (p.block + p.count) n (q ∷ ps) i d c.1 (omega arith)

chained_none : (b n : ℕ) (ps : List BlockRun) → AreChained b ps n → length ps ≡ 0 → b ≡ n
chained_none b n [] c h = c
chained_none b n (p ∷ ps) c h = absurd (omega arith)

pub blocks_rise : (s : Shape) (line : ℕ) (x : Index) → IsIndexBelow s line x → IsNonDecreasingBy (λ p. p.block) x.pieces.items
blocks_rise s line x h = IsNonDecreasingBy-from_all_adjacent (λ (p : BlockRun). p.block) x.pieces.items (λ k d within. omega (arith, chained_next 0 x.blocks x.pieces.items k d h.chained within))

-- the first block of a piece
piece_begins : (s : Shape) (p : BlockRun) → IsPiece s p → IsBlockAt s p.block p.first p.size p.home p.start
piece_begins s p h =
    let t : IsBlockAt s (p.block + 0) (p.first + 0 * p.size) p.size p.home (p.start + 0 * p.size) = h.each 0 h.some in
    let a : p.block + 0 ≡ p.block = omega arith in
    let b : p.first + 0 * p.size ≡ p.first = omega arith in
    let c : p.start + 0 * p.size ≡ p.start = omega arith in
    let P : ℕ → Type 0 = λ z. IsBlockAt s z p.first p.size p.home p.start in
    let Q : ℕ → Type 0 = λ z. IsBlockAt s (p.block + 0) z p.size p.home p.start in
    let R : ℕ → Type 0 = λ z. IsBlockAt s (p.block + 0) (p.first + 0 * p.size) p.size p.home z in
    subst P a (subst Q b (subst R c t))

pub before_mono : (s : Shape) (m n : ℕ) → m ≤ n → blocks_before s m ≤ blocks_before s n
before_mono s m n h = omega (arith, count_mono (begins_block s) m n h, before_is s m, before_is s n)

pub firsts_rise : (s : Shape) (line : ℕ) (x : Index) → IsIndexBelow s line x → IsNonDecreasingBy (λ p. p.first) x.pieces.items
firsts_rise s line x h = IsNonDecreasingBy-from_all_adjacent (λ (p : BlockRun). p.first) x.pieces.items (λ k d within.
    let p = get_or x.pieces.items k d in
    let q = get_or x.pieces.items (k + 1) d in
    let a : IsPiece s p = h.pieces k d (omega arith) in
    let b : IsPiece s q = h.pieces (k + 1) d within in
    let next : q.block ≡ p.block + p.count = chained_next 0 x.blocks x.pieces.items k d h.chained within in
    let f : IsBlockAt s p.block p.first p.size p.home p.start = piece_begins s p a in
    let g : IsBlockAt s q.block q.first q.size q.home q.start = piece_begins s q b in
    elim (cases_lt q.first p.first) [
      | inl less ↦
          let up : blocks_before s q.first ≤ blocks_before s p.first = before_mono s q.first p.first (omega arith) in
          absurd (omega (arith, a.some, f.number, g.number))
      | inr more ↦ more
    ])

no_piece : BlockRun
no_piece = record { first = 0; size = 0; count = 0; home = None; block = 0; start = 0 }

pub chained_within : (b n : ℕ) (ps : List BlockRun) (i : ℕ) (d : BlockRun) → AreChained b ps n → i < length ps → (get_or ps i d).block + (get_or ps i d).count ≤ n
chained_within b n [] i d c h = absurd (omega arith)
chained_within b n (p ∷ ps) zero d c h = chained_up (p.block + p.count) n ps c.1
  where
    chained_up : (b n : ℕ) (ps : List BlockRun) → AreChained b ps n → b ≤ n
    chained_up b n [] c = omega arith
    chained_up b n (p ∷ ps) c = omega (arith, c.0, chained_up (p.block + p.count) n ps c.1)
chained_within b n (p ∷ ps) (suc i) d c h = chained_within (p.block + p.count) n ps i d c.1 (omega arith)

pub all_blocks : (s : Shape) (x : Index) → IsIndex s x → x.blocks ≡ blocks s
unfolding blocks
all_blocks s x h = h.all.blocks

pub all_lines : (s : Shape) (x : Index) → IsIndex s x → x.lines ≡ shared_lines s
unfolding shared_lines
all_lines s x h = h.all.lines

-- the piece before the point where the pieces' blocks pass b
pub block_point : (s : Shape) (x : Index) (b i : ℕ) → IsIndex s x → b < blocks s → i ≤ length x.pieces.items → IsPartitionPoint (λ p. leb p.block b ≡ true) (λ p. leb p.block b ≡ false) x.pieces.items i → (0 < i) × ((d : BlockRun) → IsPieceOf s b (get_or x.pieces.items (i - 1) d))
block_point s x b i h below within point = (some, λ d. record { valid = h.valid; from = from d; to = to d; is = h.all.pieces (i - 1) d (omega (arith, some)) })
  where
    ps : List BlockRun
    ps = x.pieces.items

    count_is : x.blocks ≡ blocks s
    count_is = all_blocks s x h

    some : 0 < i
    some = elim (cases_lt 0 i) [
      | inl y ↦ y
      | inr n ↦ elim (cases_lt 0 (length ps)) [
        | inl full ↦
            let first : (get_or ps 0 no_piece).block ≡ 0 = chained_first 0 x.blocks ps no_piece h.all.chained full in
            let above : b < (get_or ps 0 no_piece).block = leb-false _ _ (point.1 0 no_piece (omega arith) full) in
            absurd (omega arith)
        | inr empty ↦
            let none : 0 ≡ x.blocks = chained_none 0 x.blocks ps h.all.chained (omega arith) in
            absurd (omega (arith, count_is))
      ]
    ]

    from : (d : BlockRun) → (get_or ps (i - 1) d).block ≤ b
    from d = leb-true _ _ (point.0 (i - 1) d (omega arith) (omega (arith, some)))

    to : (d : BlockRun) → b < (get_or ps (i - 1) d).block + (get_or ps (i - 1) d).count
    to d = elim (cases_lt i (length ps)) [
      | inl more ↦
          let e : i - 1 + 1 ≡ i = omega (arith, some) in
          let next : (get_or ps (i - 1 + 1) d).block ≡ (get_or ps (i - 1) d).block + (get_or ps (i - 1) d).count = chained_next 0 x.blocks ps (i - 1) d h.all.chained (omega (arith, some)) in
          let same : (get_or ps (i - 1 + 1) d).block ≡ (get_or ps i d).block = ap (λ k. (get_or ps k d).block) e in
          let above : b < (get_or ps i d).block = leb-false _ _ (point.1 i d (omega arith) more) in
          omega arith
      | inr last ↦
          let end : x.blocks ≡ (get_or ps (i - 1) d).block + (get_or ps (i - 1) d).count = chained_last 0 x.blocks ps (i - 1) d h.all.chained (omega (arith, some)) in
          omega (arith, count_is)
    ]

-- a block of a piece, and its bounds
pub block_of_piece : (s : Shape) (b : ℕ) (p : BlockRun) → IsPieceOf s b p → IsBlockAt s b (p.first + (b - p.block) * p.size) p.size p.home (p.start + (b - p.block) * p.size)
block_of_piece s b p h =
    let e : p.block + (b - p.block) ≡ b = omega (arith, h.from) in
    let P : ℕ → Type 0 = λ z. IsBlockAt s z (p.first + (b - p.block) * p.size) p.size p.home (p.start + (b - p.block) * p.size) in
    subst P e (h.is.each (b - p.block) (omega (arith, h.from, h.to)))

pub record IsSmall (b line size start : ℕ) : Type 0 where
  pub low_block : b < 2 ^ 26
  pub low_line : line < 2 ^ 26
  pub some : 0 < size
  pub few : size ≤ 64
  pub low_start : start < 2 ^ 26

pub is_small : (s : Shape) (b f size : ℕ) (home : Option ℕ) (start : ℕ) → IsValid s → IsBlockAt s b f size home start → IsSmall b f size start
is_small s b f size home start v t =
    let parts : (is_shared s f ≡ true) × (first_at s f ≡ f) = begins_parts s f t.begins in
    let low : f < 2 ^ 26 = shared_low s f v parts.0 in
    let c : IsCut s f = is_cut s f v parts.0 in
    record {
      low_block = omega (arith, t.number, before_is s f, count_le (begins_block s) f);
      low_line = low;
      some = omega (arith, t.size_is, c.some);
      few = omega (arith, t.size_is, c.few);
      low_start = omega (arith, t.start_is, shared_is s f, count_le (is_shared s) f);
    }

pub small_of_piece : (s : Shape) (b : ℕ) (p : BlockRun) → IsPieceOf s b p → IsSmall b (p.first + (b - p.block) * p.size) p.size (p.start + (b - p.block) * p.size)
small_of_piece s b p h = is_small s b _ _ _ _ h.valid (block_of_piece s b p h)

-- what stands in an index is what the layout says
pub first_line_is : (s : Shape) (b : ℕ) (p : BlockRun) → IsPieceOf s b p → p.first + (b - p.block) * p.size ≡ first_line s b
first_line_is s b p h =
    let t = block_of_piece s b p h in
    let f = p.first + (b - p.block) * p.size in
    sym ((block_at s f h.valid t.begins).1) ∙ ap (first_line s) t.number

pub lines_is : (s : Shape) (b : ℕ) (p : BlockRun) → IsPieceOf s b p → p.size ≡ lines s b
lines_is s b p h =
    let t = block_of_piece s b p h in
    sym t.size_is ∙ ap (size_at s) (first_line_is s b p h) ∙ sym (size_is s b)

pub start_of_piece : (s : Shape) (b : ℕ) (p : BlockRun) → IsPieceOf s b p → p.start + (b - p.block) * p.size ≡ start s b
start_of_piece s b p h =
    let t = block_of_piece s b p h in
    sym t.start_is ∙ ap (shared_before s) (first_line_is s b p h) ∙ sym (start_is s b)

home_at_is : (s : Shape) (f : ℕ) → home_at s f ≡ unwrap_or (named_home (range_of s f)) (home_in_turn s.nodes f)
unfolding home_at
home_at_is s f = refl

pub home_of_piece : (s : Shape) (b : ℕ) (p : BlockRun) → IsPieceOf s b p → unwrap_or p.home (home_in_turn s.nodes (p.first + (b - p.block) * p.size)) ≡ home s b
home_of_piece s b p h =
    let t = block_of_piece s b p h in
    let f = p.first + (b - p.block) * p.size in
    ap (λ o. unwrap_or o (home_in_turn s.nodes f)) (sym t.home_is) ∙ sym (home_at_is s f) ∙ ap (home_at s) (first_line_is s b p h) ∙ sym (home_is s b)

-- the block of a shared line is the last that begins at the line or below
last_begin : (s : Shape) (line g : ℕ) → IsValid s → is_shared s line ≡ true → begins_block s g ≡ true → g ≤ line → blocks_before s g ≤ blocks_before s (first_at s line)
last_begin s line g v h begins below = elim (cases_lt (first_at s line) g) [
  | inl behind ↦
      let c : IsCut s line = is_cut s line v h in
      let e : first_at s g ≡ first_at s line = same_first s line g c (omega arith) (omega (arith, line_within s line c)) in
      absurd (omega (arith, (begins_parts s g begins).1))
  | inr before ↦ before_mono s g (first_at s line) before
]

next_begin : (s : Shape) (line g : ℕ) → IsValid s → is_shared s line ≡ true → line < g → blocks_before s (first_at s line) < blocks_before s g
next_begin s line g v h above =
    let c : IsCut s line = is_cut s line v h in
    let t : count (begins_block s) (first_at s line) < count (begins_block s) g = count_below (begins_block s) (first_at s line) g (first_begins s line c) (omega (arith, first_le s line)) in
    omega (arith, before_is s (first_at s line), before_is s g)

-- a shared line behind the pieces that begin above it
pub line_in_piece : (s : Shape) (x : Index) (line i : ℕ) → IsIndex s x → i ≤ length x.pieces.items → IsPartitionPoint (λ p. leb p.first line ≡ true) (λ p. leb p.first line ≡ false) x.pieces.items i → is_shared s line ≡ true → (0 < i) × ((d : BlockRun) → IsPieceOf s (blocks_before s (first_at s line)) (get_or x.pieces.items (i - 1) d))
line_in_piece s x line i h within point shared = (some, λ d. record { valid = h.valid; from = from d; to = to d; is = h.all.pieces (i - 1) d (omega (arith, some)) })
  where
    ps : List BlockRun
    ps = x.pieces.items

    b : ℕ
    b = blocks_before s (first_at s line)

    below : b < x.blocks
    below = omega (arith, all_blocks s x h, (block_has s line h.valid shared).0)

    begins : (k : ℕ) (d : BlockRun) → k < length ps → IsBlockAt s (get_or ps k d).block (get_or ps k d).first (get_or ps k d).size (get_or ps k d).home (get_or ps k d).start
    begins k d less = piece_begins s (get_or ps k d) (h.all.pieces k d less)

    behind : (k : ℕ) (d : BlockRun) → i ≤ k → k < length ps → b < (get_or ps k d).block
    behind k d from less =
        let above : line < (get_or ps k d).first = leb-false _ _ (point.1 k d from less) in
        omega (arith, next_begin s line (get_or ps k d).first h.valid shared above, (begins k d less).number)

    some : 0 < i
    some = elim (cases_lt 0 i) [
      | inl y ↦ y
      | inr n ↦ elim (cases_lt 0 (length ps)) [
        | inl full ↦
            let first : (get_or ps 0 no_piece).block ≡ 0 = chained_first 0 x.blocks ps no_piece h.all.chained full in
            absurd (omega (arith, behind 0 no_piece (omega arith) full))
        | inr empty ↦
            let none : 0 ≡ x.blocks = chained_none 0 x.blocks ps h.all.chained (omega arith) in
            absurd (omega (arith, below))
      ]
    ]

    from : (d : BlockRun) → (get_or ps (i - 1) d).block ≤ b
    from d =
        let t = begins (i - 1) d (omega (arith, some)) in
        let low : (get_or ps (i - 1) d).first ≤ line = leb-true _ _ (point.0 (i - 1) d (omega arith) (omega (arith, some))) in
        omega (arith, last_begin s line (get_or ps (i - 1) d).first h.valid shared t.begins low, t.number)

    to : (d : BlockRun) → b < (get_or ps (i - 1) d).block + (get_or ps (i - 1) d).count
    to d = elim (cases_lt i (length ps)) [
      | inl more ↦
          let e : i - 1 + 1 ≡ i = omega (arith, some) in
          let next : (get_or ps (i - 1 + 1) d).block ≡ (get_or ps (i - 1) d).block + (get_or ps (i - 1) d).count = chained_next 0 x.blocks ps (i - 1) d h.all.chained (omega (arith, some)) in
          let same : (get_or ps (i - 1 + 1) d).block ≡ (get_or ps i d).block = ap (λ k. (get_or ps k d).block) e in
          omega (arith, behind i d (omega arith) more)
      | inr last ↦
          let end : x.blocks ≡ (get_or ps (i - 1) d).block + (get_or ps (i - 1) d).count = chained_last 0 x.blocks ps (i - 1) d h.all.chained (omega (arith, some)) in
          omega (arith, below)
    ]

-- the place of a line's block in its piece
place_is : (s : Shape) (line : ℕ) (p : BlockRun) → is_shared s line ≡ true → IsPieceOf s (blocks_before s (first_at s line)) p → (line - p.first) / p.size ≡ blocks_before s (first_at s line) - p.block
place_is s line p shared h =
    let b = blocks_before s (first_at s line) in
    let t = block_of_piece s b p h in
    let f = p.first + (b - p.block) * p.size in
    let c : IsCut s line = is_cut s line h.valid shared in
    let same : f ≡ first_at s line = same_place (begins_block s) f (first_at s line) t.begins (first_begins s line c) (sym (before_is s f) ∙ t.number ∙ before_is s (first_at s line)) in
    let size : p.size ≡ size_at s line = sym t.size_is ∙ ap (size_at s) same ∙ same_size s line (first_at s line) c (omega arith) (omega (arith, c.some)) in
    let e : (b - p.block) * p.size + (line - f) ≡ line - p.first = omega (arith, first_le s line) in
    ap (λ n. n / p.size) (sym e) ∙ div-mul-add (b - p.block) p.size (line - f) (omega (arith, first_le s line, line_within s line c))

-- a line of a piece's block is shared
line_shared : (s : Shape) (line : ℕ) (p : BlockRun) → IsValid s → IsPiece s p → p.first ≤ line → (line - p.first) / p.size < p.count → is_shared s line ≡ true
line_shared s line p v h low below =
    let k = (line - p.first) / p.size in
    let t = h.each k below in
    let f = p.first + k * p.size in
    let parts : (is_shared s f ≡ true) × (first_at s f ≡ f) = begins_parts s f t.begins in
    let c : IsCut s f = is_cut s f v parts.0 in
    c.shared line
    (omega (arith, parts.1, div-add-mod' (line - p.first) p.size))
    (omega (arith, parts.1, t.size_is, c.some, div-add-mod' (line - p.first) p.size, mod_below (line - p.first) p.size (omega (arith, t.size_is, c.some))))

-- a piece that begins at a line or below has the line's block or isn't behind it
pub block_begun : (s : Shape) (line : ℕ) (p : BlockRun) → IsBegun s line p → (line - p.first) / p.size < p.count → Some (p.block + (line - p.first) / p.size) ≡ block_of s line
block_begun s line p h below =
    let shared : is_shared s line ≡ true = line_shared s line p h.valid h.is h.low below in
    let t : IsPieceOf s (blocks_before s (first_at s line)) p = h.has shared in
    let e : p.block + (line - p.first) / p.size ≡ blocks_before s (first_at s line) = omega (arith, place_is s line p shared t, t.from) in
    ap Some e ∙ sym (block_of_shared s line shared)

pub none_begun : (s : Shape) (line : ℕ) (p : BlockRun) → IsBegun s line p → p.count ≤ (line - p.first) / p.size → None ≡ block_of s line
none_begun s line p h past = elim (cases_Bool (is_shared s line)) [
  | inl shared ↦
      let t : IsPieceOf s (blocks_before s (first_at s line)) p = h.has shared in
      absurd (omega (arith, place_is s line p shared t, t.from, t.to))
  | inr n ↦ sym (block_of_none s line n)
]

pub small_begun : (s : Shape) (line : ℕ) (p : BlockRun) (k : ℕ) → IsBegun s line p → k < p.count → IsSmall (p.block + k) (p.first + k * p.size) p.size (p.start + k * p.size)
small_begun s line p k h below = is_small s (p.block + k) _ _ _ _ h.valid (h.is.each k below)

pub some_size : (s : Shape) (p : BlockRun) → IsValid s → IsPiece s p → 0 < p.size
some_size s p v h = (is_small s (p.block + 0) _ _ _ _ v (h.each 0 h.some)).some

-- the same of what `partition_point` answers, with t the shape that a layout's fields make
pub block_found : {F : Type 0} {g : Mut F (Bor BlockRun × Unit {0}) Bool} {f : F} (s t : Shape) (x : Index) (xs : List BlockRun) (b i : ℕ) → t ≡ s → IsIndex t x → xs ≡ x.pieces.items → b < blocks s → i ≤ length xs → ((q : BlockRun → Bool) → ComputesKey g q f → IsPartitionedBy q xs → IsPartitionPoint (λ y. q y ≡ true) (λ y. q y ≡ false) xs i) → ((a : Bor BlockRun × Unit {0}) (r : Bool) (f' : F) → Called g f a r f' → (r ≡ leb a.0.now.block b) × (f' ≡ f)) → (0 < i) × ((d : BlockRun) → IsPieceOf s b (get_or x.pieces.items (i - 1) d))
block_found s t x xs b i view h same below within clause calls =
    let P : Shape → Type 0 = λ z. IsIndex z x in
    let is : IsIndex s x = subst P view h in
    let Q : List BlockRun → Type 0 = λ ys. IsPartitionPoint (λ p. leb p.block b ≡ true) (λ p. leb p.block b ≡ false) ys i in
    let R : List BlockRun → Type 0 = λ ys. IsNonDecreasingBy (λ p. p.block) ys in
    let rise : IsNonDecreasingBy (λ p. p.block) xs = subst R (sym same) (blocks_rise s _ x is.all) in
    let point = IsPartitionPoint-from_clause (λ (p : BlockRun). leb p.block b) xs i clause (IsPartitionedBy-leb (λ (p : BlockRun). p.block) xs b rise) calls in
    block_point s x b i is below (omega (arith, ap length same)) (subst Q same point)

not_shared : (s : Shape) (line : ℕ) → (is_shared s line ≡ true → ⊥) → is_shared s line ≡ false
not_shared s line h = elim (cases_Bool (is_shared s line)) [ inl y ↦ absurd (h y) | inr n ↦ n ]

pub line_found : {F : Type 0} {g : Mut F (Bor BlockRun × Unit {0}) Bool} {f : F} (s t : Shape) (x : Index) (xs : List BlockRun) (line i : ℕ) → t ≡ s → IsIndex t x → xs ≡ x.pieces.items → i ≤ length xs → ((q : BlockRun → Bool) → ComputesKey g q f → IsPartitionedBy q xs → IsPartitionPoint (λ y. q y ≡ true) (λ y. q y ≡ false) xs i) → ((a : Bor BlockRun × Unit {0}) (r : Bool) (f' : F) → Called g f a r f' → (r ≡ leb a.0.now.first line) × (f' ≡ f)) → (i ≡ 0 → is_shared s line ≡ false) × ((d : BlockRun) → 0 < i → IsBegun s line (get_or x.pieces.items (i - 1) d))
line_found s t x xs line i view h same within clause calls =
    let P : Shape → Type 0 = λ z. IsIndex z x in
    let is : IsIndex s x = subst P view h in
    let Q : List BlockRun → Type 0 = λ ys. IsPartitionPoint (λ p. leb p.first line ≡ true) (λ p. leb p.first line ≡ false) ys i in
    let R : List BlockRun → Type 0 = λ ys. IsNonDecreasingBy (λ p. p.first) ys in
    let rise : IsNonDecreasingBy (λ p. p.first) xs = subst R (sym same) (firsts_rise s _ x is.all) in
    let point = IsPartitionPoint-from_clause (λ (p : BlockRun). leb p.first line) xs i clause (IsPartitionedBy-leb (λ (p : BlockRun). p.first) xs line rise) calls in
    let there = subst Q same point in
    let few : i ≤ length x.pieces.items = omega (arith, ap length same) in
    let found = line_in_piece s x line i is few there in (
      λ none. not_shared s line (λ y. let t : 0 < i = (found y).0 in omega arith),
      λ d some. record {
        valid = is.valid;
        is = is.all.pieces (i - 1) d (omega arith);
        low = leb-true _ _ (there.0 (i - 1) d (omega arith) (omega arith));
        has = λ y. (found y).1 d;
      },
    )

has_is : (s : Shape) (b line : ℕ) → has_line s b line ≡ (leb (first_line s b) line && ltb line (first_line s b + lines s b))
unfolding has_line
has_is s b line = refl

test_from : (f z line : ℕ) → f ≤ line → ltb (line - f) z ≡ (leb f line && ltb line (f + z))
test_from f z line h = grind (arith, nat_tests)

test_below : (f z line : ℕ) → line < f → leb f line ≡ (leb f line && ltb line (f + z))
test_below f z line h = grind (arith, nat_tests)

both : (s : Shape) (b line : ℕ) (p : BlockRun) → IsPieceOf s b p → (leb (p.first + (b - p.block) * p.size) line && ltb line (p.first + (b - p.block) * p.size + p.size)) ≡ has_line s b line
both s b line p h =
    ap (λ f. leb f line && ltb line (f + p.size)) (first_line_is s b p h)
    ∙ ap (λ z. leb (first_line s b) line && ltb line (first_line s b + z)) (lines_is s b p h)
    ∙ sym (has_is s b line)

-- the tests of a line against a block of a piece
pub has_piece : (s : Shape) (b line : ℕ) (p : BlockRun) → IsPieceOf s b p → p.first + (b - p.block) * p.size ≤ line → ltb (line - (p.first + (b - p.block) * p.size)) p.size ≡ has_line s b line
has_piece s b line p h low = test_from (p.first + (b - p.block) * p.size) p.size line low ∙ both s b line p h

pub lacks_piece : (s : Shape) (b line : ℕ) (p : BlockRun) → IsPieceOf s b p → line < p.first + (b - p.block) * p.size → leb (p.first + (b - p.block) * p.size) line ≡ has_line s b line
lacks_piece s b line p h below = test_below (p.first + (b - p.block) * p.size) p.size line below ∙ both s b line p h

-- the place of a line of a piece
pub place_begun : (s : Shape) (line : ℕ) (p : BlockRun) → IsBegun s line p → (line - p.first) / p.size < p.count → Some (p.start + (line - p.first)) ≡ place_of s line
place_begun s line p h below =
    let shared : is_shared s line ≡ true = line_shared s line p h.valid h.is h.low below in
    let b = blocks_before s (first_at s line) in
    let t : IsPieceOf s b p = h.has shared in
    let has : (b < blocks s) × (has_line s b line ≡ true) = block_has s line h.valid shared in
    let ends : (first_line s b ≤ line) × (line < first_line s b + lines s b) = (ends_law s b line).0 has.1 in
    let place : shared_before s line ≡ start s b + (line - first_line s b) = place_law s b line h.valid has.0 has.1 in
    let e : p.start + (line - p.first) ≡ shared_before s line = omega (arith, start_of_piece s b p t, first_line_is s b p t) in
    ap Some e ∙ sym (place_of_shared s line shared)

pub place_small : (s : Shape) (line : ℕ) (p : BlockRun) → IsBegun s line p → (line - p.first) / p.size < p.count → p.start + (line - p.first) < 2 ^ 32
place_small s line p h below =
    let e : Some (p.start + (line - p.first)) ≡ place_of s line = place_begun s line p h below in
    let shared : is_shared s line ≡ true = line_shared s line p h.valid h.is h.low below in
    let f : Some (p.start + (line - p.first)) ≡ Some (shared_before s line) = e ∙ place_of_shared s line shared in
    let g : p.start + (line - p.first) ≡ shared_before s line = cc in
    omega (arith, shared_is s line, count_le (is_shared s) line, shared_low s line h.valid shared)

pub no_place : (s : Shape) (line : ℕ) (p : BlockRun) → IsBegun s line p → p.count ≤ (line - p.first) / p.size → None ≡ place_of s line
no_place s line p h past = elim (cases_Bool (is_shared s line)) [
  | inl shared ↦
      let t : IsPieceOf s (blocks_before s (first_at s line)) p = h.has shared in
      absurd (omega (arith, place_is s line p shared t, t.from, t.to))
  | inr n ↦ sym (place_of_none s line n)
]
