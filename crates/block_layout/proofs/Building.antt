-- The index of the lines below a line, while lines are added.
use Rattle.std.proofs.Common.{◌≡◌, ℕ, zero, suc, ◌+◌, ◌-◌, ◌*◌, ◌%◌, ◌^◌, ◌<◌, ◌≤◌, Bool, true, false, leb, ltb, List, [], ◌∷◌, ◌++◌, length, get_or, Option, refl, sym, ap, ◌∙◌, subst, inl, inr, arith}
use Rattle.std.specs.List.{All, find}
use Rattle.std.proofs.lemmas.Bool.{cases_lt, false≢true, false_from_ne_true, and_left, and_right, le-ltb, lt-leb}
use Rattle.std.proofs.lemmas.List.{get_or_append_left, get_or_default, get_or_push, length_push}
use Rattle.std.proofs.lemmas.List.Elements.{All-push}
use Rattle.std.proofs.lemmas.Nat.{div-add-mod'}
use Rattle.block_layout.specs.declared.index.BlockRun.{BlockRun}
use Rattle.block_layout.specs.declared.index.Index.{Index}
use Rattle.block_layout.specs.declared.ranges.Lines.{Lines}
use Rattle.block_layout.specs.declared.layout.BlockRange.{BlockRange}
use Rattle.block_layout.specs.Layout.{Shape, IsValid, AreRanges, is_shared, is_in, is_among, names, range_of, lines_in, named_home, size_at, first_at, begins_block, blocks_before, shared_before}
use Rattle.block_layout.specs.Index.{IsBlockAt, IsPiece, AreChained, IsIndexBelow, IsFollowedBy, AddsPiece}
use Rattle.block_layout.proofs.Among.{any_at, any_none}
use Rattle.block_layout.proofs.Passing.{count, count_none, count_more, count_same, count_run, count_gap, count_le}
use Rattle.block_layout.proofs.Blocks.{IsCut, is_cut, size_of, first_of, same_first}
use Rattle.block_layout.proofs.Numbers.{before_is, shared_is, begins_parts, begins_from}
use Rattle.block_layout.proofs.Pieces.{chained_within, before_mono}

-- what the code looks up of a line
pub size_here : (s : Shape) (rs : List BlockRange) (line size : ℕ) → rs ≡ s.named → size ≡ lines_in (find (names line) rs) → size ≡ size_at s line
size_here s rs line size same is = is ∙ ap (λ qs. lines_in (find (names line) qs)) same ∙ sym (size_of s line (range_of s line) refl)

pub home_here : (s : Shape) (rs : List BlockRange) (line : ℕ) (home : Option ℕ) → rs ≡ s.named → home ≡ named_home (find (names line) rs) → home ≡ named_home (range_of s line)
home_here s rs line home same is = is ∙ ap (λ qs. named_home (find (names line) qs)) same

pub some_here : (s : Shape) (line : ℕ) → IsValid s → is_shared s line ≡ true → 0 < size_at s line
some_here s line v h = (is_cut s line v h).some

-- a block begins with a shared line that is a multiple of its size
pub begins_here : (s : Shape) (line : ℕ) → is_shared s line ≡ true → line % size_at s line ≡ 0 → begins_block s line ≡ true
begins_here s line h e = begins_from s line h (omega (arith, first_of s line, div-add-mod' line (size_at s line)))

pub goes_on_here : (s : Shape) (line : ℕ) → (line % size_at s line ≡ 0 → ⊥) → begins_block s line ≡ false
goes_on_here s line h = false_from_ne_true (begins_block s line) (λ b. h (omega (arith, (begins_parts s line b).1, first_of s line, div-add-mod' line (size_at s line))))

shared_more : (s : Shape) (line : ℕ) → is_shared s line ≡ true → shared_before s (line + 1) ≡ shared_before s line + 1
shared_more s line h =
    let e : line + 1 ≡ suc line = omega arith in
    rw e (omega (arith, shared_is s (suc line), shared_is s line, count_more (is_shared s) line h))

blocks_more : (s : Shape) (line : ℕ) → begins_block s line ≡ true → blocks_before s (line + 1) ≡ blocks_before s line + 1
blocks_more s line h =
    let e : line + 1 ≡ suc line = omega arith in
    rw e (omega (arith, before_is s (suc line), before_is s line, count_more (begins_block s) line h))

blocks_same : (s : Shape) (line : ℕ) → begins_block s line ≡ false → blocks_before s (line + 1) ≡ blocks_before s line
blocks_same s line h =
    let e : line + 1 ≡ suc line = omega arith in
    rw e (omega (arith, before_is s (suc line), before_is s line, count_same (begins_block s) line h))

-- the counts of an index are small
pub few_blocks : (s : Shape) (line : ℕ) (x : Index) → IsIndexBelow s line x → x.blocks ≤ line
few_blocks s line x h = omega (arith, h.blocks, before_is s line, count_le (begins_block s) line)

pub few_lines : (s : Shape) (line : ℕ) (x : Index) → IsIndexBelow s line x → x.lines ≤ line
few_lines s line x h = omega (arith, h.lines, shared_is s line, count_le (is_shared s) line)

-- a line that begins no block
pub line_goes_on : (s : Shape) (line : ℕ) (x y : Index) → IsIndexBelow s line x → is_shared s line ≡ true → begins_block s line ≡ false → y.pieces.items ≡ x.pieces.items → y.blocks ≡ x.blocks → y.lines ≡ x.lines + 1 → IsIndexBelow s (line + 1) y
line_goes_on s line x y h shared goes_on pieces blocks lines =
    let P : List BlockRun → Type 0 = λ ps. All (IsPiece s) ps in
    let Q : List BlockRun → Type 0 = λ ps. AreChained 0 ps x.blocks in
    let R : ℕ → Type 0 = λ n. AreChained 0 y.pieces.items n in
    record {
      pieces = subst P (sym pieces) h.pieces;
      chained = subst R (sym blocks) (subst Q (sym pieces) h.chained);
      blocks = omega (arith, h.blocks, blocks_same s line goes_on);
      lines = omega (arith, h.lines, shared_more s line shared);
    }

-- the last block of a piece
record IsLastBlock (s : Shape) (p : BlockRun) (k : ℕ) : Type 0 where
  pub count_is : p.count ≡ k + 1
  pub block : IsBlockAt s (p.block + k) (p.first + k * p.size) p.size p.home (p.start + k * p.size)
  pub cut : IsCut s (p.first + k * p.size)
  pub first : first_at s (p.first + k * p.size) ≡ p.first + k * p.size
  pub end : p.first + p.count * p.size ≡ p.first + k * p.size + p.size

last_block : (s : Shape) (p : BlockRun) → IsValid s → IsPiece s p → IsLastBlock s p (p.count - 1)
last_block s p v h =
    let k = p.count - 1 in
    let e : p.count ≡ k + 1 = omega (arith, h.some) in
    let t = h.each k (omega (arith, h.some)) in
    let parts : (is_shared s (p.first + k * p.size) ≡ true) × (first_at s (p.first + k * p.size) ≡ p.first + k * p.size) = begins_parts s (p.first + k * p.size) t.begins in
    let product : p.count * p.size ≡ (k + 1) * p.size = ap (λ n. n * p.size) e in
    record { count_is = e; block = t; cut = is_cut s (p.first + k * p.size) v parts.0; first = parts.1; end = omega arith }

piece_ends : (s : Shape) (line : ℕ) (p : BlockRun) → IsValid s → begins_block s line ≡ true → IsPiece s p → p.block + p.count ≤ blocks_before s line → p.first + p.count * p.size ≤ line
piece_ends s line p v begins h within =
    let k = p.count - 1 in
    let f = p.first + k * p.size in
    let l = last_block s p v h in
    elim (cases_lt line (f + p.size)) [
      | inl near ↦ elim (cases_lt f line) [
        | inl behind ↦
            let same : first_at s line ≡ first_at s f = same_first s f line l.cut (omega (arith, l.first)) (omega (arith, l.first, l.block.size_is)) in
            absurd (omega (arith, l.first, (begins_parts s line begins).1))
        | inr before ↦
            let up : blocks_before s line ≤ blocks_before s f = before_mono s line f before in
            absurd (omega (arith, l.block.number, l.count_is))
      ]
      | inr far ↦ omega (arith, l.end)
    ]

pub pieces_end : (s : Shape) (line : ℕ) (x : Index) → IsValid s → begins_block s line ≡ true → IsIndexBelow s line x → All (λ p. p.first + p.count * p.size ≤ line) x.pieces.items
pieces_end s line x v begins h = λ k d less. piece_ends s line (get_or x.pieces.items k d) v begins (h.pieces k d less) (omega (arith, chained_within 0 x.blocks x.pieces.items k d h.chained less, h.blocks))

pub pieces_count : (s : Shape) (line : ℕ) (x : Index) → line ≤ 2 ^ 26 → IsIndexBelow s line x → All (λ p. p.count ≤ 2 ^ 26) x.pieces.items
pieces_count s line x low h = λ k d less. omega (arith, chained_within 0 x.blocks x.pieces.items k d h.chained less, few_blocks s line x h)

chained_push : (b n : ℕ) (ps : List BlockRun) (q : BlockRun) → AreChained b ps n → q.block ≡ n → AreChained b (ps ++ q ∷ []) (n + q.count)
chained_push b n [] q c e = (omega arith, omega arith)
chained_push b n (p ∷ ps) q c e = (c.0, chained_push (p.block + p.count) n ps q c.1 e)

chained_extend : (b n : ℕ) (front : List BlockRun) (p : BlockRun) → AreChained b (front ++ p ∷ []) n → AreChained b (front ++ record p { count = p.count + 1 } ∷ []) (n + 1)
chained_extend b n [] p c = (c.0, omega (arith, c.1))
chained_extend b n (q ∷ front) p c = (c.0, chained_extend (q.block + q.count) n front p c.1)

chained_end : (b n : ℕ) (front : List BlockRun) (p : BlockRun) → AreChained b (front ++ p ∷ []) n → n ≡ p.block + p.count
chained_end b n [] p c = sym c.1
chained_end b n (q ∷ front) p c = chained_end (q.block + q.count) n front p c.1

all_front : (P : BlockRun → Type 0) (front : List BlockRun) (p : BlockRun) → All P (front ++ p ∷ []) → All P front
all_front P front p all = λ k d less.
    let e : get_or (front ++ p ∷ []) k d ≡ get_or front k d = get_or_append_left front (p ∷ []) d k less in
    subst P e (all k d (omega (arith, length_push front p)))

all_last : (P : BlockRun → Type 0) (front : List BlockRun) (p : BlockRun) → All P (front ++ p ∷ []) → P p
all_last P front p all = subst P (get_or_push front p p (length front) refl) (all (length front) p (omega (arith, length_push front p)))

-- a block that begins with the line
here_is : (s : Shape) (line : ℕ) (x : Index) (home : Option ℕ) → IsIndexBelow s line x → begins_block s line ≡ true → home ≡ named_home (range_of s line) → IsBlockAt s x.blocks line (size_at s line) home x.lines
here_is s line x home h begins home_is = record { begins = begins; number = sym h.blocks; size_is = refl; home_is = sym home_is; start_is = sym h.lines }

moved : (s : Shape) (b c f g size : ℕ) (home : Option ℕ) (i j : ℕ) → c ≡ b → g ≡ f → j ≡ i → IsBlockAt s b f size home i → IsBlockAt s c g size home j
moved s b c f g size home i j p q r h =
    let P : ℕ → Type 0 = λ z. IsBlockAt s z f size home i in
    let Q : ℕ → Type 0 = λ z. IsBlockAt s c z size home i in
    let R : ℕ → Type 0 = λ z. IsBlockAt s c g size home z in
    subst R (sym r) (subst Q (sym q) (subst P (sym p) h))

-- a piece of the block that begins with the line
piece_alone : (s : Shape) (line : ℕ) (x : Index) (next : BlockRun) → next.first ≡ line → next.size ≡ size_at s line → next.count ≡ 1 → next.block ≡ x.blocks → next.start ≡ x.lines → IsBlockAt s x.blocks line (size_at s line) next.home x.lines → IsPiece s next
piece_alone s line x next first size one block start t = record {
  some = omega arith;
  each = λ k less.
      let none : k ≡ 0 = omega arith in
      let product : k * next.size ≡ 0 * next.size = ap (λ n. n * next.size) none in
      let P : ℕ → Type 0 = λ z. IsBlockAt s (next.block + k) (next.first + k * next.size) z next.home (next.start + k * next.size) in
      subst P (sym size) (moved s x.blocks (next.block + k) line (next.first + k * next.size) (size_at s line) next.home x.lines (next.start + k * next.size) (omega arith) (omega arith) (omega arith) t);
}

-- the last piece with one block more
piece_extended : (s : Shape) (line : ℕ) (x : Index) (p next : BlockRun) → IsValid s → IsPiece s p → IsIndexBelow s line x → x.blocks ≡ p.block + p.count → next.first ≡ line → next.size ≡ size_at s line → IsFollowedBy p next → IsBlockAt s x.blocks line (size_at s line) next.home x.lines → IsPiece s (record p { count = p.count + 1 })
piece_extended s line x p next v h below number first size follows t = record {
  some = omega arith;
  each = λ k less. elim (cases_lt k p.count) [
    | inl old ↦ h.each k old
    | inr new ↦
        let here : k ≡ p.count = omega arith in
        let l = last_block s p v h in
        let f = p.first + (p.count - 1) * p.size in
        let run : count (is_shared s) (f + p.size) ≡ count (is_shared s) f + p.size =
        count_run (is_shared s) f p.size (λ y from to. l.cut.shared y (omega (arith, l.first)) (omega (arith, l.first, l.block.size_is))) in
        let at : f + p.size ≡ line = omega (arith, l.end, follows.first_is) in
        let before : shared_before s line ≡ shared_before s f + p.size =
        ap (shared_before s) (sym at) ∙ shared_is s (f + p.size) ∙ run ∙ ap (λ n. n + p.size) (sym (shared_is s f)) in
        let product : k * p.size ≡ p.count * p.size = ap (λ n. n * p.size) here in
        let wide : p.count * p.size ≡ (p.count - 1) * p.size + p.size = omega (arith, l.end) in
        let same : size_at s line ≡ p.size = sym size ∙ sym follows.size_is in
        let home : next.home ≡ p.home = sym follows.home_is in
        let P : ℕ → Type 0 = λ z. IsBlockAt s (p.block + k) (p.first + k * p.size) z p.home (p.start + k * p.size) in
        let Q : Option ℕ → Type 0 = λ z. IsBlockAt s (p.block + k) (p.first + k * p.size) (size_at s line) z (p.start + k * p.size) in
        subst P same (subst Q home (moved s x.blocks (p.block + k) line (p.first + k * p.size) (size_at s line) next.home x.lines (p.start + k * p.size) (omega arith) (omega (arith, follows.first_is)) (omega (arith, below.lines, l.block.start_is)) t))
  ];
}

-- a line that begins a block
pub line_begins : (s : Shape) (line : ℕ) (x y : Index) (next : BlockRun) → IsValid s → IsIndexBelow s line x → is_shared s line ≡ true → begins_block s line ≡ true → next.first ≡ line → next.size ≡ size_at s line → next.count ≡ 1 → next.home ≡ named_home (range_of s line) → next.block ≡ x.blocks → next.start ≡ x.lines → AddsPiece x.pieces.items next y.pieces.items → y.blocks ≡ x.blocks + 1 → y.lines ≡ x.lines + 1 → IsIndexBelow s (line + 1) y
line_begins s line x y next v h shared begins first size one home block start (inr fresh) blocks lines =
    let P : List BlockRun → Type 0 = λ ps. All (IsPiece s) ps in
    let Q : List BlockRun → Type 0 = λ ps. AreChained 0 ps (x.blocks + next.count) in
    let R : ℕ → Type 0 = λ n. AreChained 0 y.pieces.items n in
    let count_is : x.blocks + next.count ≡ y.blocks = omega arith in
    record {
      pieces = subst P (sym fresh) (All-push (IsPiece s) x.pieces.items next h.pieces (piece_alone s line x next first size one block start (here_is s line x next.home h begins home)));
      chained = subst R count_is (subst Q (sym fresh) (chained_push 0 x.blocks x.pieces.items next h.chained block));
      blocks = omega (arith, h.blocks, blocks_more s line begins);
      lines = omega (arith, h.lines, shared_more s line shared);
    }
line_begins s line x y next v h shared begins first size one home block start (inl e) blocks lines =
    let P : List BlockRun → Type 0 = λ ps. All (IsPiece s) ps in
    let Q : List BlockRun → Type 0 = λ ps. AreChained 0 ps x.blocks in
    let R : List BlockRun → Type 0 = λ ps. AreChained 0 ps (x.blocks + 1) in
    let S : ℕ → Type 0 = λ n. AreChained 0 y.pieces.items n in
    let old : All (IsPiece s) (e.front ++ e.last ∷ []) = subst P e.old_is h.pieces in
    let chain : AreChained 0 (e.front ++ e.last ∷ []) x.blocks = subst Q e.old_is h.chained in
    let more : IsPiece s (record e.last { count = e.last.count + 1 }) =
    piece_extended s line x e.last next v (all_last (IsPiece s) e.front e.last old) h (chained_end 0 x.blocks e.front e.last chain) first size e.followed (here_is s line x next.home h begins home) in
    record {
      pieces = subst P (sym e.new_is) (All-push (IsPiece s) e.front (record e.last { count = e.last.count + 1 }) (all_front (IsPiece s) e.front e.last old) more);
      chained = subst S (sym blocks) (subst R (sym e.new_is) (chained_extend 0 x.blocks e.front e.last chain));
      blocks = omega (arith, h.blocks, blocks_more s line begins);
      lines = omega (arith, h.lines, shared_more s line shared);
    }

-- the line behind the first so many ranges
abbrev pub end_of : List Lines → ℕ → ℕ
end_of rs zero = 0
end_of rs (suc i) = (get_or rs i (record { first = 0; lines = 0 })).first + (get_or rs i (record { first = 0; lines = 0 })).lines

-- the index of no line
pub index_none : (s : Shape) (x : Index) → x.pieces.items ≡ [] → x.blocks ≡ 0 → x.lines ≡ 0 → IsIndexBelow s 0 x
index_none s x pieces blocks lines =
    let P : List BlockRun → Type 0 = λ ps. All (IsPiece s) ps in
    let Q : List BlockRun → Type 0 = λ ps. AreChained 0 ps x.blocks in
    record {
      pieces = subst P (sym pieces) (λ k d less. absurd (omega arith));
      chained = subst Q (sym pieces) (sym blocks);
      blocks = omega (arith, before_is s 0, count_none (begins_block s));
      lines = omega (arith, shared_is s 0, count_none (is_shared s));
    }

not_begun : (s : Shape) (line : ℕ) → is_shared s line ≡ false → begins_block s line ≡ false
not_begun s line h = false_from_ne_true (begins_block s line) (λ b. false≢true (sym h ∙ (begins_parts s line b).0))

-- the index where no further line is shared
index_gap : (s : Shape) (m n : ℕ) (x : Index) → m ≤ n → ((y : ℕ) → m ≤ y → y < n → is_shared s y ≡ false) → IsIndexBelow s m x → IsIndexBelow s n x
index_gap s m n x up none h = record {
  pieces = h.pieces;
  chained = h.chained;
  blocks = omega (arith, h.blocks, before_is s m, before_is s n, count_gap (begins_block s) m n up (λ y a b. not_begun s y (none y a b)));
  lines = omega (arith, h.lines, shared_is s m, shared_is s n, count_gap (is_shared s) m n up none);
}

shared_as : (s : Shape) (line : ℕ) (b : Bool) → is_in s.shared line ≡ b → is_shared s line ≡ b
unfolding is_shared
shared_as s line b h = h

end_low : (rs : List Lines) (i k : ℕ) (d : Lines) → AreRanges rs → i ≤ length rs → k < i → (get_or rs k d).first + (get_or rs k d).lines ≤ end_of rs i
end_low rs zero k d ranges within less = absurd (omega arith)
end_low rs (suc i) k d ranges within less = elim (cases_lt k i) [
  | inl before ↦
      let a : (get_or rs k d).first + (get_or rs k d).lines ≤ (get_or rs i d).first = ranges.ascending k i d before (omega arith) in
      let e : get_or rs i d ≡ get_or rs i (record { first = 0; lines = 0 }) = get_or_default rs i d (record { first = 0; lines = 0 }) (omega arith) in
      omega (arith, ap (λ (r : Lines). r.first) e)
  | inr here ↦
      let same : k ≡ i = omega arith in
      let e : get_or rs k d ≡ get_or rs i (record { first = 0; lines = 0 }) = ap (λ n. get_or rs n d) same ∙ get_or_default rs i d (record { first = 0; lines = 0 }) (omega arith) in
      omega (arith, ap (λ (r : Lines). r.first) e, ap (λ (r : Lines). r.lines) e)
]

-- between two ranges no line is shared
none_between : (s : Shape) (i y : ℕ) → IsValid s → i ≤ length s.shared → end_of s.shared i ≤ y → ((d : Lines) → i < length s.shared → y < (get_or s.shared i d).first) → is_shared s y ≡ false
none_between s i y v within from to = shared_as s y false (any_none (is_among y) s.shared (λ k d less. elim (cases_lt k i) [
  | inl before ↦
      let past : (get_or s.shared k d).first + (get_or s.shared k d).lines ≤ end_of s.shared i = end_low s.shared i k d v.shared within before in
      and_right (leb (get_or s.shared k d).first y) (ltb y ((get_or s.shared k d).first + (get_or s.shared k d).lines)) (le-ltb y _ (omega arith))
  | inr behind ↦ elim (cases_lt i k) [
    | inl later ↦
        let up : (get_or s.shared i d).first + (get_or s.shared i d).lines ≤ (get_or s.shared k d).first = v.shared.ascending i k d later less in
        let next : y < (get_or s.shared i d).first = to d (omega arith) in
        and_left (leb (get_or s.shared k d).first y) (ltb y ((get_or s.shared k d).first + (get_or s.shared k d).lines)) (lt-leb _ y (omega arith))
    | inr here ↦
        let same : i ≡ k = omega arith in
        let next : y < (get_or s.shared k d).first = let P : ℕ → Type 0 = λ n. y < (get_or s.shared n d).first in subst P same (to d (omega arith)) in
        and_left (leb (get_or s.shared k d).first y) (ltb y ((get_or s.shared k d).first + (get_or s.shared k d).lines)) (lt-leb _ y next)
  ]
]))

end_within : (rs : List Lines) (i : ℕ) → AreRanges rs → i ≤ length rs → end_of rs i ≤ 2 ^ 26
end_within rs zero ranges within = omega arith
end_within rs (suc i) ranges within = ranges.low i (record { first = 0; lines = 0 }) (omega arith)

end_first : (rs : List Lines) (i : ℕ) (d : Lines) → AreRanges rs → i < length rs → end_of rs i ≤ (get_or rs i d).first
end_first rs zero d ranges within = omega arith
end_first rs (suc i) d ranges within =
    let up : (get_or rs i d).first + (get_or rs i d).lines ≤ (get_or rs (suc i) d).first = ranges.ascending i (suc i) d (omega arith) within in
    let e : get_or rs i d ≡ get_or rs i (record { first = 0; lines = 0 }) = get_or_default rs i d (record { first = 0; lines = 0 }) (omega arith) in
    omega (arith, ap (λ (r : Lines). r.first) e, ap (λ (r : Lines). r.lines) e)

-- the next range, before its lines are added
pub record IsNextRange (s : Shape) (r : Lines) (x : Index) : Type 0 where
  pub shared : (line : ℕ) → is_among line r ≡ true → is_shared s line ≡ true
  pub low : r.first + r.lines ≤ 2 ^ 26
  pub below : IsIndexBelow s r.first x

pub next_range : (s : Shape) (x : Index) (i : ℕ) (d : Lines) → IsValid s → i < length s.shared → IsIndexBelow s (end_of s.shared i) x → IsNextRange s (get_or s.shared i d) x
next_range s x i d v within h = record {
  shared = λ line e. shared_as s line true (any_at (is_among line) s.shared i d within e);
  low = v.shared.low i d within;
  below = index_gap s (end_of s.shared i) (get_or s.shared i d).first x (end_first s.shared i d v.shared within)
      (λ y from to. none_between s i y v (omega arith) from (λ e less. let P : Lines → Type 0 = λ r. y < r.first in subst P (get_or_default s.shared i d e within) to)) h;
}

pub index_all : (s : Shape) (x : Index) (i : ℕ) → IsValid s → i ≡ length s.shared → IsIndexBelow s (end_of s.shared i) x → IsIndexBelow s (2 ^ 26) x
index_all s x i v all h = index_gap s (end_of s.shared i) (2 ^ 26) x (end_within s.shared i v.shared (omega arith)) (λ y from to. none_between s i y v (omega arith) from (λ d less. absurd (omega arith))) h
