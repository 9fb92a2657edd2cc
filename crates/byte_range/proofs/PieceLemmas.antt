-- Which piece has a line.
use Rattle.std.proofs.Common.{◌≡◌, ℕ, zero, suc, ◌+◌, ◌-◌, ◌*◌, ◌/◌, ◌%◌, ◌^◌, ◌<◌, ◌≤◌, Bool, true, false, cond, leb, ltb, List, [], ◌∷◌, ◌++◌, Some, None, length, map, get_or, take, refl, ap, arith, inl, inr}
use Rattle.std.specs.Option.{option_map}
use Rattle.std.specs.Prelude.{slice_get}
use Rattle.std.specs.List.Sorted.{IsPartitionedBy, IsPartitionPoint}
use Rattle.std.proofs.lemmas.Bool.Decides.{nat_tests}
use Rattle.byte_range.specs.Lines.{place_of, line_count, Ascend}
use Rattle.byte_range.specs.Pieces.{lines_of, pieces_from, first_address, first_length, offset_in, IsPieceOf}
use Rattle.byte_range.specs.declared.lines.LineRange.{LineRange}
use Rattle.byte_range.specs.declared.lines.PlacedRange.{PlacedRange}
use Rattle.byte_range.proofs.LineLemmas.{line_tells, count_fits}

-- the first range, by its bytes
pub offset_in_first : (ps : List PlacedRange) (base len a k : ℕ) → Ascend 0 (map lines_of ps) → base ≡ first_address ps → len ≡ first_length ps → a < 2 ^ 32 → k ≡ (a + (4294967296 - base)) % 4294967296 → k < len → Some k ≡ offset_in (map lines_of ps) a
offset_in_first [] base len a k ascend at long small is within = absurd (omega arith)
offset_in_first (p ∷ ps) base len a k ascend at long small is within =
    let fits = count_fits (p.lines.first + p.lines.count) (map lines_of ps) ascend.1 in
    let from : base ≤ a = omega arith in
    let by : k ≡ a - base = omega arith in
    elim (line_tells p.lines (a / 64)) [
      | inl y ↦ rw y.0 (ap (λ i. Some i) (omega (arith, y.1, y.2)))
      | inr n ↦ elim n.1 [ inl low ↦ absurd (omega arith) | inr high ↦ absurd (omega arith) ]
    ]

-- the first lines ascend
pub firsts_ascend : (low : ℕ) (ps : List PlacedRange) (d : PlacedRange) (j : ℕ) → Ascend low (map lines_of ps) → j < length ps → low ≤ (get_or ps j d).lines.first
firsts_ascend low [] d j ascend within = absurd (omega arith)
firsts_ascend low (p ∷ ps) d zero ascend within = ascend.0
firsts_ascend low (p ∷ ps) d (suc j) ascend within =
    let rest = firsts_ascend (p.lines.first + p.lines.count) ps d j ascend.1 (omega arith) in
    omega (arith, ascend.0)

-- the pieces that start at a line or before it come first
abbrev pub Splits : ℕ → List PlacedRange → ℕ → Type 0
Splits line [] i = i ≡ 0
Splits line (p ∷ ps) zero = (line < p.lines.first) × Splits line ps zero
Splits line (p ∷ ps) (suc i) = (p.lines.first ≤ line) × Splits line ps i

pub splits_of : (line : ℕ) (ps : List PlacedRange) (i : ℕ) → i ≤ length ps → ((k : ℕ) (d : PlacedRange) → k < i → (get_or ps k d).lines.first ≤ line) → ((k : ℕ) (d : PlacedRange) → i ≤ k → k < length ps → line < (get_or ps k d).lines.first) → Splits line ps i
splits_of line [] i fits low high = omega arith
splits_of line (p ∷ ps) zero fits low high = (high 0 p (omega arith) (omega arith), splits_of line ps zero (omega arith) (λ k d below. absurd (omega arith)) (λ k d from below. high (suc k) d (omega arith) (omega arith)))
splits_of line (p ∷ ps) (suc i) fits low high = (low 0 p (omega arith), splits_of line ps i (omega arith) (λ k d below. low (suc k) d (omega arith)) (λ k d from below. high (suc k) d (omega arith) (omega arith)))

pub firsts_between : (low : ℕ) (ps : List PlacedRange) (d : PlacedRange) (i j : ℕ) → Ascend low (map lines_of ps) → i ≤ j → j < length ps → (get_or ps i d).lines.first ≤ (get_or ps j d).lines.first
firsts_between low [] d i j ascend below within = absurd (omega arith)
firsts_between low (p ∷ ps) d zero zero ascend below within = omega arith
firsts_between low (p ∷ ps) d (suc i) zero ascend below within = absurd (omega arith)
firsts_between low (p ∷ ps) d zero (suc j) ascend below within =
    let next = firsts_ascend (p.lines.first + p.lines.count) ps d j ascend.1 (omega arith) in
    omega arith
firsts_between low (p ∷ ps) d (suc i) (suc j) ascend below within = firsts_between (p.lines.first + p.lines.count) ps d i j ascend.1 (omega arith) (omega arith)

pub starts_parted : (line : ℕ) (ps : List PlacedRange) → Ascend 0 (map lines_of ps) → IsPartitionedBy (λ p. leb p.lines.first line) ps
starts_parted line ps ascend i j d below within test =
    let order = firsts_between 0 ps d i j ascend below within in
    grind (arith, nat_tests)

pub point_splits : (line : ℕ) (ps : List PlacedRange) (i : ℕ) → i ≤ length ps → IsPartitionPoint (λ p. leb p.lines.first line ≡ true) (λ p. leb p.lines.first line ≡ false) ps i → Splits line ps i
point_splits line ps i fits point = splits_of line ps i fits
    (λ k d below. let t = point.0 k d (omega arith) below in grind (arith, nat_tests))
    (λ k d from below. let t = point.1 k d from below in grind (arith, nat_tests))

pub starts_few : (n : ℕ) (ps : List PlacedRange) (i : ℕ) (d : PlacedRange) → ps ≡ pieces_from n (map lines_of ps) → i < length ps → (get_or ps i d).start + (get_or ps i d).lines.count ≤ n + line_count (map lines_of ps)
starts_few n [] i d starts within = absurd (omega arith)
starts_few n (p ∷ ps) zero d starts within = let at : p.start ≡ n = ap (λ (qs : List PlacedRange). (get_or qs 0 p).start) starts in omega arith
starts_few n (p ∷ ps) (suc i) d starts within =
    let tail : ps ≡ pieces_from (n + p.lines.count) (map lines_of ps) = cc in
    let rest = starts_few (n + p.lines.count) ps i d tail (omega arith) in
    omega arith

-- no piece starts at the line or before it
pub place_none : (line : ℕ) (ps : List PlacedRange) → Splits line ps zero → place_of (map lines_of ps) line ≡ None
place_none line [] splits = refl
place_none line (p ∷ ps) splits = elim (line_tells p.lines line) [
  | inl y ↦ absurd (omega (arith, y.1, splits.0))
  | inr n ↦ rw (n.0, place_none line ps splits.1) refl
]

pub splits_within : (line : ℕ) (ps : List PlacedRange) (i : ℕ) → Splits line ps (suc i) → i < length ps
splits_within line [] i splits = absurd (omega (arith, splits))
splits_within line (p ∷ ps) zero splits = omega arith
splits_within line (p ∷ ps) (suc i) splits = let rest = splits_within line ps i splits.1 in omega arith

pub splits_at : (line : ℕ) (ps : List PlacedRange) (k i : ℕ) (d : PlacedRange) → k ≤ i → Splits line ps (suc i) → (get_or ps k d).lines.first ≤ line
splits_at line [] k i d below splits = absurd (omega (arith, splits))
splits_at line (p ∷ ps) zero i d below splits = splits.0
splits_at line (p ∷ ps) (suc k) zero d below splits = absurd (omega arith)
splits_at line (p ∷ ps) (suc k) (suc i) d below splits = splits_at line ps k i d (omega arith) splits.1

-- the places grow
pub starts_grow : (n : ℕ) (ps : List PlacedRange) (i : ℕ) (d : PlacedRange) → ps ≡ pieces_from n (map lines_of ps) → i < length ps → n ≤ (get_or ps i d).start
starts_grow n [] i d starts within = absurd (omega arith)
starts_grow n (p ∷ ps) zero d starts within = let at : p.start ≡ n = ap (λ (qs : List PlacedRange). (get_or qs 0 p).start) starts in omega arith
starts_grow n (p ∷ ps) (suc i) d starts within =
    let tail : ps ≡ pieces_from (n + p.lines.count) (map lines_of ps) = cc in
    let rest = starts_grow (n + p.lines.count) ps i d tail (omega arith) in
    omega arith

add_in : (b : Bool) (c n s k : ℕ) → n + c ≤ s → option_map (λ j. c + j) (cond b (Some (s + k - (n + c))) None) ≡ cond b (Some (s + k - n)) None
add_in true c n s k above = ap (λ i. Some i) (omega arith)
add_in false c n s k above = refl

-- the last of the pieces that start there or before has the line, or none has it
pub place_last : (n low line : ℕ) (ps : List PlacedRange) (i : ℕ) (d : PlacedRange) → ps ≡ pieces_from n (map lines_of ps) → Ascend low (map lines_of ps) → Splits line ps (suc i) → place_of (map lines_of ps) line ≡ cond (ltb (line - (get_or ps i d).lines.first) (get_or ps i d).lines.count) (Some ((get_or ps i d).start + (line - (get_or ps i d).lines.first) - n)) None
place_last n low line [] i d starts ascend splits = absurd (omega arith)
place_last n low line (p ∷ ps) zero d starts ascend splits =
    let at : p.start ≡ n = ap (λ (qs : List PlacedRange). (get_or qs 0 p).start) starts in
    elim (line_tells p.lines line) [
      | inl y ↦
          (let t : ltb (line - p.lines.first) p.lines.count ≡ true = grind (arith, nat_tests, y.1, y.2) in
          rw (y.0, t) (ap (λ i. Some i) (omega arith)))
      | inr m ↦
          (let t : ltb (line - p.lines.first) p.lines.count ≡ false = elim m.1 [ inl low ↦ absurd (omega (arith, splits.0)) | inr high ↦ grind (arith, nat_tests) ] in
          rw (m.0, t, place_none line ps splits.1) refl)
    ]
place_last n low line (p ∷ ps) (suc i) d starts ascend splits =
    let tail : ps ≡ pieces_from (n + p.lines.count) (map lines_of ps) = cc in
    let head = splits_at line ps zero i d (omega arith) splits.1 in
    let next = firsts_ascend (p.lines.first + p.lines.count) ps d 0 ascend.1 (omega (arith, splits_within line ps i splits.1)) in
    let grown = starts_grow (n + p.lines.count) ps i d tail (splits_within line ps i splits.1) in
    elim (line_tells p.lines line) [
      | inl y ↦ absurd (omega (arith, y.2, head, next))
      | inr m ↦ rw (m.0, place_last (n + p.lines.count) (p.lines.first + p.lines.count) line ps i d tail ascend.1 splits.1) (add_in (ltb (line - (get_or ps i d).lines.first) (get_or ps i d).lines.count) p.lines.count n (get_or ps i d).start (line - (get_or ps i d).lines.first) grown)
    ]

-- from the first list on
pub place_halved : (line : ℕ) (ps : List PlacedRange) (i : ℕ) (d : PlacedRange) → ps ≡ pieces_from 0 (map lines_of ps) → Ascend 0 (map lines_of ps) → Splits line ps (suc i) → place_of (map lines_of ps) line ≡ cond (ltb (line - (get_or ps i d).lines.first) (get_or ps i d).lines.count) (Some ((get_or ps i d).start + (line - (get_or ps i d).lines.first))) None
place_halved line ps i d starts ascend splits =
    let less : (get_or ps i d).start + (line - (get_or ps i d).lines.first) - 0 ≡ (get_or ps i d).start + (line - (get_or ps i d).lines.first) = omega arith in
    rw less at (place_last 0 0 line ps i d starts ascend splits)

pub is_piece_of : (line : ℕ) (ps : List PlacedRange) (i : ℕ) (d : PlacedRange) → ps ≡ pieces_from 0 (map lines_of ps) → Ascend 0 (map lines_of ps) → Splits line ps (suc i) → IsPieceOf (map lines_of ps) line (get_or ps i d)
is_piece_of line ps i d starts ascend splits =
    let within = splits_within line ps i splits in
    let few = starts_few 0 ps i d starts within in
    let fits = count_fits 0 (map lines_of ps) ascend in
    record {
      starts = splits_at line ps i i d (omega arith) splits;
      place = place_halved line ps i d starts ascend splits;
      few = omega arith;
    }

-- pieces that are made one by one
pub map_pieces : (n : ℕ) (rs : List LineRange) → map lines_of (pieces_from n rs) ≡ rs
map_pieces n [] = refl
map_pieces n (r ∷ rs) = ap (λ (qs : List LineRange). r ∷ qs) (map_pieces (n + r.count) rs)

pub pieces_push : (n : ℕ) (rs : List LineRange) (r : LineRange) → pieces_from n (rs ++ r ∷ []) ≡ pieces_from n rs ++ record { lines = r; start = n + line_count rs } ∷ []
pieces_push n [] r = let e : n + 0 ≡ n = omega arith in rw e refl
pieces_push n (q ∷ rs) r =
    let e : n + (q.count + line_count rs) ≡ n + q.count + line_count rs = omega arith in
    rw e (ap (λ (ps : List PlacedRange). record { lines = q; start = n } ∷ ps) (pieces_push (n + q.count) rs r))

pub count_push : (rs : List LineRange) (r : LineRange) → line_count (rs ++ r ∷ []) ≡ line_count rs + r.count
count_push [] r = omega arith
count_push (q ∷ rs) r = let e = count_push rs r in omega arith

pub count_within : (rs : List LineRange) (i : ℕ) (d : LineRange) → i < length rs → line_count (take i rs) + (get_or rs i d).count ≤ line_count rs
count_within [] i d within = absurd (omega arith)
count_within (r ∷ rs) zero d within = omega arith
count_within (r ∷ rs) (suc i) d within = let e = count_within rs i d (omega arith) in omega arith

pub first_some : (rs : List LineRange) (r : LineRange) → Some r ≡ slice_get rs 0 → (first_address (pieces_from 0 rs) ≡ 64 * r.first) × (first_length (pieces_from 0 rs) ≡ 64 * r.count)
first_some [] r is = absurd (cc)
first_some (q ∷ rs) r is = let e : r ≡ q = cc in rw e (refl, refl)

pub first_none : (rs : List LineRange) → None ≡ slice_get rs 0 → (first_address (pieces_from 0 rs) ≡ 0) × (first_length (pieces_from 0 rs) ≡ 0)
first_none [] is = (refl, refl)
first_none (q ∷ rs) is = absurd (cc)

pub first_fits : (rs : List LineRange) (r : LineRange) → Ascend 0 rs → Some r ≡ slice_get rs 0 → r.first + r.count ≤ 2 ^ 25
first_fits [] r ascend is = absurd (cc)
first_fits (q ∷ rs) r ascend is = let e : r ≡ q = cc in let fits = count_fits (q.first + q.count) rs ascend.1 in rw e (omega arith)

pub take_whole : (rs : List LineRange) (i : ℕ) → length rs ≤ i → take i rs ≡ rs
take_whole [] zero within = refl
take_whole [] (suc i) within = refl
take_whole (r ∷ rs) zero within = absurd (omega arith)
take_whole (r ∷ rs) (suc i) within = ap (λ (qs : List LineRange). r ∷ qs) (take_whole rs i (omega arith))
