-- The bytes of one block change alone.
use Rattle.std.proofs.Common.{◌≡◌, ℕ, zero, suc, ◌+◌, ◌-◌, ◌*◌, ◌/◌, ◌%◌, ◌<◌, ◌≤◌, true, false, ltb, List, [], ◌++◌, length, take, drop, append_assoc, length-append, length-drop, refl, sym, ap, ◌∙◌, subst, arith, inl, inr}
use Rattle.std.specs.Prelude.{slice_range, slice_index}
use Rattle.std.proofs.Math.Path.{fun_ext}
use Rattle.std.proofs.Math.Seq.{drop-append_seam, take-append_seam}
use Rattle.std.proofs.lemmas.List.{length-take-le, drop-append-le, take-append-le, drop-take, take-take}
use Rattle.std.proofs.lemmas.Slice.{drop-append-drop}
use Rattle.std.proofs.lemmas.Bool.Decides.{eqb_tells, leb_tells, nat_tests}
use Rattle.std.proofs.lemmas.Grind.{common_steps}
use Rattle.block_layout.specs.Layout.{Shape, blocks, lines, first_line, start, has_line, is_shared, shared_before, shared_lines}
use Rattle.block_layout.specs.Update.{changed}
use Rattle.byte_range.proofs.ByteLemmas.{written}
use Rattle.flag_memory.specs.Flag.{flags}
use Rattle.flag_memory.specs.Copy.{Copy, memory, place, block_start, block_end, bytes_in, bytes_of}
use Rattle.flag_memory.specs.Bytes.{overwritten}
use Rattle.flag_memory.proofs.Places.{Laws}
use Rattle.flag_memory.proofs.Words.{memory_at, copy_with}

pub flags_len : (n : ℕ) → length (flags n) ≡ n
flags_len zero = refl
flags_len (suc n) = grind (arith, common_steps, flags_len n)

seam : (n : ℕ) (a rest : List ℕ) → length a ≡ n → drop n (a ++ rest) ≡ rest
seam n a rest e = rw (← e) (drop-append_seam a rest)

range_same : (ys xs : List ℕ) (s : ℕ) → s + length xs ≤ length ys → slice_range (overwritten ys s xs) s (s + length xs) ≡ xs
range_same ys xs s within =
    let e : length (take s ys) ≡ s = length-take-le s ys (omega arith) in
    let n : s + length xs - s ≡ length xs = omega arith in
    rw (seam s (take s ys) (xs ++ drop (s + length xs) ys) e, n) (take-append_seam xs (drop (s + length xs) ys))

range_before : (ys xs : List ℕ) (s i j : ℕ) → s + length xs ≤ length ys → j ≤ s → i ≤ j → slice_range (overwritten ys s xs) i j ≡ slice_range ys i j
range_before ys xs s i j within below first =
    let rest = xs ++ drop (s + length xs) ys in
    let e : length (take s ys) ≡ s = length-take-le s ys (omega arith) in
    let p : drop i (take s ys ++ rest) ≡ drop i (take s ys) ++ rest = drop-append-le i (take s ys) rest (omega arith) in
    let m : length (drop i (take s ys)) ≡ s - i = length-drop i (take s ys) ∙ ap (λ n. n - i) e in
    let q : take (j - i) (drop i (take s ys) ++ rest) ≡ take (j - i) (drop i (take s ys)) = take-append-le (j - i) (drop i (take s ys)) rest (omega arith) in
    let t : take s ys ≡ take (i + (s - i)) ys = ap (λ n. take n ys) (omega arith) in
    let u : drop i (take s ys) ≡ take (s - i) (drop i ys) = ap (drop i) t ∙ drop-take i (s - i) ys in
    ap (take (j - i)) p ∙ q ∙ ap (take (j - i)) u ∙ take-take (j - i) (s - i) (drop i ys) (omega arith)

range_after : (ys xs : List ℕ) (s i j : ℕ) → s + length xs ≤ length ys → s + length xs ≤ i → slice_range (overwritten ys s xs) i j ≡ slice_range ys i j
range_after ys xs s i j within above =
    let e : length (take s ys) ≡ s = length-take-le s ys (omega arith) in
    let n : length (take s ys ++ xs) ≡ s + length xs = length-append (take s ys) xs ∙ ap (λ k. k + length xs) e in
    ap (λ zs. take (j - i) (drop i zs)) (sym (append_assoc (take s ys) xs (drop (s + length xs) ys)))
    ∙ ap (take (j - i)) (drop-append-drop (s + length xs) ys (take s ys ++ xs) i above n)

overwritten_len : (ys xs : List ℕ) (s : ℕ) → s + length xs ≤ length ys → length (overwritten ys s xs) ≡ length ys
overwritten_len ys xs s within =
    omega (arith, length-append (take s ys) (xs ++ drop (s + length xs) ys), length-append xs (drop (s + length xs) ys), length-take-le s ys (omega arith), length-drop (s + length xs) ys)

-- a block's part of the bytes
bytes_at : (s : Shape) (ys : List ℕ) (x : ℕ) → x < blocks s → bytes_in s ys x ≡ slice_range ys (block_start s x) (block_end s x)
bytes_at s ys x below = let t : ltb x (blocks s) ≡ true = grind (arith, nat_tests) in rw t refl

bytes_past : (s : Shape) (ys : List ℕ) (x : ℕ) → blocks s ≤ x → bytes_in s ys x ≡ []
bytes_past s ys x past = let t : ltb x (blocks s) ≡ false = grind (arith, nat_tests) in rw t refl

-- the bytes of a block are overwritten, and those of the others stay
put_is : (s : Shape) (ys xs : List ℕ) (b : ℕ) → Laws s → length ys ≡ 64 * shared_lines s → b < blocks s → length xs ≡ 64 * lines s b → bytes_in s (overwritten ys (block_start s b) xs) ≡ changed (bytes_in s ys) b xs
put_is s ys xs b l len within size = fun_ext (λ x. elim (eqb_tells x b) [
  | inl q ↦ rw q.0 (rw q.1 same)
  | inr q ↦ rw q.0 (other x q.1)
])
  where
    fits : block_start s b + length xs ≤ length ys
    fits = omega (arith, l.within b within)

    same : bytes_in s (overwritten ys (block_start s b) xs) b ≡ xs
    same = bytes_at s (overwritten ys (block_start s b) xs) b within ∙ rw (← size) (range_same ys xs (block_start s b) fits)

    other : (x : ℕ) → (x ≡ b → ⊥) → bytes_in s (overwritten ys (block_start s b) xs) x ≡ bytes_in s ys x
    other x ne = elim (leb_tells (blocks s) x) [
      | inl p ↦ bytes_past s (overwritten ys (block_start s b) xs) x p.1 ∙ sym (bytes_past s ys x p.1)
      | inr p ↦ bytes_at s (overwritten ys (block_start s b) xs) x p.1 ∙ elim (leb_tells b x) [
        | inl r ↦ range_after ys xs (block_start s b) (block_start s x) (block_end s x) fits (omega (arith, l.apart b x p.1 (omega (arith, r.1))))
        | inr r ↦ range_before ys xs (block_start s b) (block_start s x) (block_end s x) fits (omega (arith, l.apart x b within r.1)) (omega arith)
      ] ∙ sym (bytes_at s ys x p.1)
    ]

-- the bytes of a vector that were written as a slice, from a copy of this value
pub put_in : (s : Shape) (seen : Copy) (ys zs xs all : List ℕ) (b at n : ℕ) → Laws s → copy_with s ys ≡ seen → length ys ≡ 64 * shared_lines s → n ≡ length ys → zs ≡ ys → b < blocks s → length xs ≡ 64 * lines s b → at ≡ start s b → all ≡ overwritten zs (64 * at) xs → bytes_of (copy_with s (take n (all ++ drop (length all) ys))) ≡ changed (bytes_of seen) b xs
put_in s seen ys zs xs all b at n l view len is_n same within size start_is is =
    let fits : block_start s b + length xs ≤ length ys = omega (arith, l.within b within) in
    let e : all ≡ overwritten ys (block_start s b) xs = is ∙ ap (λ ws. overwritten ws (64 * at) xs) same ∙ ap (λ k. overwritten ys (64 * k) xs) start_is in
    let m : length all ≡ length ys = ap length e ∙ overwritten_len ys xs (block_start s b) fits in
    let t : take n (all ++ drop (length all) ys) ≡ overwritten ys (block_start s b) xs = written ys all n is_n m ∙ e in
    subst (λ (h : Copy). bytes_of (copy_with s (take n (all ++ drop (length all) ys))) ≡ changed (bytes_of h) b xs) view
    (ap (bytes_in s) t ∙ put_is s ys xs b l len within size)

-- the bytes of a block are those of its addresses
range_at : (ys : List ℕ) (i j k : ℕ) → i + k < j → j ≤ length ys → slice_index (slice_range ys i j) k ≡ slice_index ys (i + k)
range_at ys i j k below within = grind (arith, common_steps)

pub block_byte : (s : Shape) (ys : List ℕ) (b k : ℕ) → Laws s → length ys ≡ 64 * shared_lines s → b < blocks s → k < 64 * lines s b → slice_index (bytes_in s ys b) k ≡ memory (copy_with s ys) (64 * first_line s b + k)
block_byte s ys b k l len below within =
    let a : ℕ = 64 * first_line s b + k in
    let line : (64 * first_line s b + k) / 64 ≡ first_line s b + k / 64 = omega arith in
    let offset : (64 * first_line s b + k) % 64 ≡ k % 64 = omega arith in
    let has : has_line s b (first_line s b + k / 64) ≡ true = (l.ends b (first_line s b + k / 64)).1 (omega arith, omega (arith, within)) in
    let found = l.has b (first_line s b + k / 64) below has in
    let shared : is_shared s (first_line s b + k / 64) ≡ true = (l.shared (first_line s b + k / 64)).1 (rw found refl) in
    let on : is_shared s ((64 * first_line s b + k) / 64) ≡ true = rw line shared in
    let before : shared_before s (first_line s b + k / 64) ≡ start s b + k / 64 = l.place b (first_line s b + k / 64) below has ∙ omega arith in
    let at : place s (64 * first_line s b + k) ≡ block_start s b + k = rw (line, offset, before) (omega arith) in
    ap (λ zs. slice_index zs k) (bytes_at s ys b below)
    ∙ range_at ys (block_start s b) (block_end s b) k (omega (arith, within)) (omega (arith, l.within b below, len))
    ∙ ap (slice_index ys) (sym at)
    ∙ sym (memory_at (copy_with s ys) (64 * first_line s b + k) on)
