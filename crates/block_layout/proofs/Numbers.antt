-- Blocks by their numbers.
use Rattle.std.proofs.Common.{◌≡◌, ℕ, suc, ◌+◌, ◌-◌, ◌*◌, ◌/◌, ◌^◌, ◌<◌, ◌≤◌, ◌↔◌, Bool, true, false, leb, ltb, eqb, List, [], ◌∷◌, get_or, Option, Some, None, IsSome, refl, sym, ap, ◌∙◌, subst, inl, inr, arith}
use Rattle.std.specs.List.{list_any}
use Rattle.std.specs.Option.{unwrap_or}
use Rattle.std.proofs.lemmas.Bool.{cases_Bool, cases_lt, false≢true, and_parts, and_from, leb-true, ltb-true, eqb-true, le-leb, lt-ltb, eq-eqb}
use Rattle.std.proofs.lemmas.Nat.{mod_below}
use Rattle.block_layout.specs.declared.layout.BlockRange.{BlockRange}
use Rattle.block_layout.specs.declared.ranges.Lines.{Lines}
use Rattle.block_layout.specs.Layout.{Shape, IsValid, IsRange, is_shared, is_in, is_among, is_home, names, range_of, size_at, first_at, begins_block, home_at, home_in_turn, named_home, passing, blocks_before, shared_before, blocks, shared_lines, first_line, lines, home, start, block_of, place_of, has_line}
use Rattle.block_layout.proofs.Passing.{count, count_mono, count_below, count_le, count_run, count_subset, get_at, IsPassing, at_place}
use Rattle.block_layout.proofs.Blocks.{IsFound, find_found, IsCut, is_cut, first_le, line_within, same_size, same_first}

pub any_found : {X : Type 0} (p : X → Bool) (xs : List X) → list_any p xs ≡ true → (x : X) × IsFound p xs x
any_found p [] h = absurd (false≢true h)
any_found p (x ∷ xs) h = elim (cases_Bool (p x)) [
  | inl y ↦ (x, record { place = 0; within = omega arith; is = refl; passes = y })
  | inr n ↦
      let t = any_found p xs (rw n at h) in
      (t.0, record { place = suc t.1.place; within = omega (arith, t.1.within); is = t.1.is; passes = t.1.passes })
]

in_shared : (s : Shape) (line : ℕ) → is_shared s line ≡ true → is_in s.shared line ≡ true
unfolding is_shared
in_shared s line h = h

pub shared_low : (s : Shape) (line : ℕ) → IsValid s → is_shared s line ≡ true → line < 2 ^ 26
shared_low s line v h =
    let t = any_found (is_among line) s.shared (in_shared s line h) in
    let P : Lines → Type 0 = λ r. r.first + r.lines ≤ 2 ^ 26 in
    let low : t.0.first + t.0.lines ≤ 2 ^ 26 = subst P t.1.is (v.shared.low t.1.place t.0 t.1.within) in
    let parts : (leb t.0.first line ≡ true) × (ltb line (t.0.first + t.0.lines) ≡ true) = and_parts _ _ t.1.passes in
    omega (arith, ltb-true _ _ parts.1)

pub begins_parts : (s : Shape) (line : ℕ) → begins_block s line ≡ true → (is_shared s line ≡ true) × (first_at s line ≡ line)
unfolding begins_block
begins_parts s line h =
    let t : (is_shared s line ≡ true) × (eqb (first_at s line) line ≡ true) = and_parts _ _ h in
    (t.0, eqb-true _ _ t.1)

pub begins_from : (s : Shape) (line : ℕ) → is_shared s line ≡ true → first_at s line ≡ line → begins_block s line ≡ true
unfolding begins_block
begins_from s line a b = and_from (is_shared s line) (eqb (first_at s line) line) a (eq-eqb (first_at s line) line b)

-- the first line of a block begins it
pub first_begins : (s : Shape) (line : ℕ) → IsCut s line → begins_block s (first_at s line) ≡ true
first_begins s line c =
    begins_from s (first_at s line) (c.shared (first_at s line) (omega arith) (omega (arith, c.some))) (same_first s line (first_at s line) c (omega arith) (omega (arith, c.some)))

blocks_is : (s : Shape) → blocks s ≡ count (begins_block s) (2 ^ 26)
unfolding blocks blocks_before
blocks_is s = refl

pub before_is : (s : Shape) (line : ℕ) → blocks_before s line ≡ count (begins_block s) line
unfolding blocks_before
before_is s line = refl

pub shared_is : (s : Shape) (line : ℕ) → shared_before s line ≡ count (is_shared s) line
unfolding shared_before
shared_is s line = refl

all_shared : (s : Shape) → shared_lines s ≡ shared_before s (2 ^ 26)
unfolding shared_lines
all_shared s = refl

line_is : (s : Shape) (b : ℕ) → first_line s b ≡ get_or (passing (begins_block s) (2 ^ 26)) b 0
unfolding first_line
line_is s b = refl

pub size_is : (s : Shape) (b : ℕ) → lines s b ≡ size_at s (first_line s b)
unfolding lines
size_is s b = refl

pub start_is : (s : Shape) (b : ℕ) → start s b ≡ shared_before s (first_line s b)
unfolding start
start_is s b = refl

pub home_is : (s : Shape) (b : ℕ) → home s b ≡ home_at s (first_line s b)
unfolding home
home_is s b = refl

-- what is known of a block
pub record IsBlock (s : Shape) (b : ℕ) : Type 0 where
  pub begins : begins_block s (first_line s b) ≡ true
  pub number : blocks_before s (first_line s b) ≡ b
  pub first : first_at s (first_line s b) ≡ first_line s b
  pub size : lines s b ≡ size_at s (first_line s b)
  pub cut : IsCut s (first_line s b)

pub is_block : (s : Shape) (b : ℕ) → IsValid s → b < blocks s → IsBlock s b
is_block s b v h =
    let p = at_place (begins_block s) (2 ^ 26) b (omega (arith, blocks_is s)) in
    let P : ℕ → Type 0 = λ f. IsPassing (begins_block s) (2 ^ 26) b f in
    let q : IsPassing (begins_block s) (2 ^ 26) b (first_line s b) = subst P (sym (line_is s b)) p in
    let t : (is_shared s (first_line s b) ≡ true) × (first_at s (first_line s b) ≡ first_line s b) = begins_parts s (first_line s b) q.passes in
    record {
      begins = q.passes;
      number = before_is s (first_line s b) ∙ q.place;
      first = t.1;
      size = size_is s b;
      cut = is_cut s (first_line s b) v t.0;
    }

-- the block that begins with a line
pub block_at : (s : Shape) (f : ℕ) → IsValid s → begins_block s f ≡ true → (blocks_before s f < blocks s) × (first_line s (blocks_before s f) ≡ f)
block_at s f v h =
    let low : f < 2 ^ 26 = shared_low s f v (begins_parts s f h).0 in
    let a : count (begins_block s) f < count (begins_block s) (2 ^ 26) = count_below (begins_block s) f (2 ^ 26) h low in (
      omega (arith, before_is s f, blocks_is s),
      line_is s (blocks_before s f) ∙ ap (λ i. get_or (passing (begins_block s) (2 ^ 26)) i 0) (before_is s f) ∙ get_at (begins_block s) f (2 ^ 26) h low,
    )

home_low : (s : Shape) (f : ℕ) (o : Option BlockRange) → IsValid s → range_of s f ≡ o → unwrap_or (named_home o) (home_in_turn s.nodes f) < s.nodes
home_low s f None v e = mod_below (64 * f / 4096) s.nodes v.some_node
home_low s f (Some r) v e =
    let t : IsFound (names f) s.named r = find_found (names f) s.named r e in
    let P : BlockRange → Type 0 = λ z. IsRange s.shared s.nodes z in
    let is : IsRange s.shared s.nodes r = subst P t.is (v.named t.place r t.within) in
    given r.home is.home
  where
    given : (h : Option ℕ) → is_home s.nodes h ≡ true → unwrap_or h (home_in_turn s.nodes f) < s.nodes
    given None y = mod_below (64 * f / 4096) s.nodes v.some_node
    given (Some n) y = ltb-true n s.nodes y

pub home_at_low : (s : Shape) (f : ℕ) → IsValid s → home_at s f < s.nodes
unfolding home_at
home_at_low s f v = home_low s f (range_of s f) v refl

pub home_law : (s : Shape) (b : ℕ) → IsValid s → b < blocks s → home s b < s.nodes
home_law s b v h = let t : home_at s (first_line s b) < s.nodes = home_at_low s (first_line s b) v in omega (arith, home_is s b)

pub some_law : (s : Shape) (b : ℕ) → IsValid s → b < blocks s → 0 < lines s b
some_law s b v h = let t = is_block s b v h in omega (arith, t.size, t.cut.some)

pub few_law : (s : Shape) (b : ℕ) → IsValid s → b < blocks s → lines s b ≤ 64
few_law s b v h = let t = is_block s b v h in omega (arith, t.size, t.cut.few)

pub low_law : (s : Shape) (b : ℕ) → IsValid s → b < blocks s → first_line s b + lines s b ≤ 2 ^ 26
low_law s b v h =
    let t = is_block s b v h in
    let last = first_line s b + lines s b - 1 in
    let low : last < 2 ^ 26 = shared_low s last v (t.cut.shared last (omega (arith, t.size, t.first, t.cut.some)) (omega (arith, t.size, t.first, t.cut.some))) in
    omega arith

-- so many lines of a block are shared
pub shared_run : (s : Shape) (b k : ℕ) → IsValid s → b < blocks s → k ≤ lines s b → shared_before s (first_line s b + k) ≡ start s b + k
shared_run s b k v h few =
    let t = is_block s b v h in
    let run : count (is_shared s) (first_line s b + k) ≡ count (is_shared s) (first_line s b) + k =
    count_run (is_shared s) (first_line s b) k (λ x from to. t.cut.shared x (omega (arith, t.first)) (omega (arith, t.first, t.size))) in
    omega (arith, shared_is s (first_line s b + k), shared_is s (first_line s b), start_is s b)

shared_mono : (s : Shape) (m n : ℕ) → m ≤ n → shared_before s m ≤ shared_before s n
shared_mono s m n h = omega (arith, count_mono (is_shared s) m n h, shared_is s m, shared_is s n)

pub within_law : (s : Shape) (b : ℕ) → IsValid s → b < blocks s → start s b + lines s b ≤ shared_lines s
within_law s b v h =
    let run : shared_before s (first_line s b + lines s b) ≡ start s b + lines s b = shared_run s b (lines s b) v h (omega arith) in
    let up : shared_before s (first_line s b + lines s b) ≤ shared_before s (2 ^ 26) = shared_mono s _ _ (low_law s b v h) in
    omega (arith, all_shared s)

-- a later block begins behind an earlier one
pub begins_behind : (s : Shape) (b c : ℕ) → IsValid s → c < blocks s → b < c → first_line s b + lines s b ≤ first_line s c
begins_behind s b c v h below =
    let t = is_block s b v (omega arith) in
    let u = is_block s c v h in
    elim (cases_lt (first_line s c) (first_line s b + lines s b)) [
      | inl near ↦ elim (cases_lt (first_line s c) (first_line s b)) [
        | inl before ↦
            let up : count (begins_block s) (first_line s c) ≤ count (begins_block s) (first_line s b) = count_mono (begins_block s) (first_line s c) (first_line s b) (omega arith) in
            absurd (omega (arith, before_is s (first_line s b), before_is s (first_line s c), t.number, u.number))
        | inr behind ↦
            let e : first_at s (first_line s c) ≡ first_at s (first_line s b) = same_first s (first_line s b) (first_line s c) t.cut (omega (arith, t.first)) (omega (arith, t.first, t.size)) in
            let same : first_line s b ≡ first_line s c = sym t.first ∙ sym e ∙ u.first in
            let n : blocks_before s (first_line s b) ≡ blocks_before s (first_line s c) = ap (blocks_before s) same in
            absurd (omega (arith, t.number, u.number))
      ]
      | inr far ↦ far
    ]

pub apart_law : (s : Shape) (b c : ℕ) → IsValid s → c < blocks s → b < c → start s b + lines s b ≤ start s c
apart_law s b c v h below =
    let run : shared_before s (first_line s b + lines s b) ≡ start s b + lines s b = shared_run s b (lines s b) v (omega arith) (omega arith) in
    let up : shared_before s (first_line s b + lines s b) ≤ shared_before s (first_line s c) = shared_mono s _ _ (begins_behind s b c v h below) in
    omega (arith, start_is s c)

has_parts : (s : Shape) (b line : ℕ) → has_line s b line ≡ true → (first_line s b ≤ line) × (line < first_line s b + lines s b)
unfolding has_line
has_parts s b line h =
    let t : (leb (first_line s b) line ≡ true) × (ltb line (first_line s b + lines s b) ≡ true) = and_parts _ _ h in
    (leb-true _ _ t.0, ltb-true _ _ t.1)

pub has_from : (s : Shape) (b line : ℕ) → first_line s b ≤ line → line < first_line s b + lines s b → has_line s b line ≡ true
unfolding has_line
has_from s b line p q = and_from (leb (first_line s b) line) (ltb line (first_line s b + lines s b)) (le-leb _ _ p) (lt-ltb _ _ q)

pub ends_law : (s : Shape) (b line : ℕ) → (has_line s b line ≡ true) ↔ ((first_line s b ≤ line) × (line < first_line s b + lines s b))
ends_law s b line = (has_parts s b line, λ t. has_from s b line t.0 t.1)

pub block_of_shared : (s : Shape) (line : ℕ) → is_shared s line ≡ true → block_of s line ≡ Some (blocks_before s (first_at s line))
unfolding block_of
block_of_shared s line h = rw h refl

pub block_of_none : (s : Shape) (line : ℕ) → is_shared s line ≡ false → block_of s line ≡ None
unfolding block_of
block_of_none s line h = rw h refl

-- the block of a shared line has it
pub block_has : (s : Shape) (line : ℕ) → IsValid s → is_shared s line ≡ true → (blocks_before s (first_at s line) < blocks s) × (has_line s (blocks_before s (first_at s line)) line ≡ true)
block_has s line v h =
    let c : IsCut s line = is_cut s line v h in
    let t : (blocks_before s (first_at s line) < blocks s) × (first_line s (blocks_before s (first_at s line)) ≡ first_at s line) = block_at s (first_at s line) v (first_begins s line c) in
    let size : size_at s (first_at s line) ≡ size_at s line = same_size s line (first_at s line) c (omega arith) (omega (arith, c.some)) in
    let long : lines s (blocks_before s (first_at s line)) ≡ size_at s line = size_is s _ ∙ ap (size_at s) t.1 ∙ size in
    (t.0, has_from s _ line (omega (arith, t.1, first_le s line)) (omega (arith, t.1, line_within s line c)))

pub found_law : (s : Shape) (b line : ℕ) → IsValid s → block_of s line ≡ Some b → (b < blocks s) × (has_line s b line ≡ true)
found_law s b line v e = elim (cases_Bool (is_shared s line)) [
  | inl y ↦
      let f : Some (blocks_before s (first_at s line)) ≡ Some b = sym (block_of_shared s line y) ∙ e in
      let same : blocks_before s (first_at s line) ≡ b = cc in
      let P : ℕ → Type 0 = λ c. (c < blocks s) × (has_line s c line ≡ true) in
      subst P same (block_has s line v y)
  | inr n ↦
      let f : None ≡ Some b = sym (block_of_none s line n) ∙ e in
      absurd (cc)
]

-- a line of a block is shared, and its block begins with the block's first line
pub line_of_block : (s : Shape) (b line : ℕ) → IsValid s → b < blocks s → has_line s b line ≡ true → (is_shared s line ≡ true) × (first_at s line ≡ first_line s b)
line_of_block s b line v h has =
    let t = is_block s b v h in
    let ends : (first_line s b ≤ line) × (line < first_line s b + lines s b) = has_parts s b line has in (
      t.cut.shared line (omega (arith, t.first)) (omega (arith, t.first, t.size)),
      same_first s (first_line s b) line t.cut (omega (arith, t.first)) (omega (arith, t.first, t.size)) ∙ t.first,
    )

pub has_law : (s : Shape) (b line : ℕ) → IsValid s → b < blocks s → has_line s b line ≡ true → block_of s line ≡ Some b
has_law s b line v h has =
    let t = is_block s b v h in
    let l : (is_shared s line ≡ true) × (first_at s line ≡ first_line s b) = line_of_block s b line v h has in
    block_of_shared s line l.0 ∙ ap Some (ap (blocks_before s) l.1 ∙ t.number)

some_block : (s : Shape) (line : ℕ) → is_shared s line ≡ true → IsSome (block_of s line)
some_block s line h = rw (block_of_shared s line h) refl

is_some_block : (s : Shape) (line : ℕ) → IsSome (block_of s line) → is_shared s line ≡ true
is_some_block s line h = elim (cases_Bool (is_shared s line)) [
  | inl y ↦ y
  | inr n ↦ absurd (false≢true (rw (block_of_none s line n) at h))
]

pub shared_law : (s : Shape) (line : ℕ) → (is_shared s line ≡ true) ↔ IsSome (block_of s line)
shared_law s line = (some_block s line, is_some_block s line)

pub place_law : (s : Shape) (b line : ℕ) → IsValid s → b < blocks s → has_line s b line ≡ true → shared_before s line ≡ start s b + (line - first_line s b)
place_law s b line v h has =
    let ends : (first_line s b ≤ line) × (line < first_line s b + lines s b) = has_parts s b line has in
    let e : first_line s b + (line - first_line s b) ≡ line = omega arith in
    ap (shared_before s) (sym e) ∙ shared_run s b (line - first_line s b) v h (omega arith)

pub count_law : (s : Shape) → IsValid s → shared_lines s ≤ 2 ^ 26
count_law s v = omega (arith, all_shared s, shared_is s (2 ^ 26), count_le (is_shared s) (2 ^ 26))

pub blocks_law : (s : Shape) → IsValid s → blocks s ≤ shared_lines s
blocks_law s v =
    let t : count (begins_block s) (2 ^ 26) ≤ count (is_shared s) (2 ^ 26) = count_subset (begins_block s) (is_shared s) (2 ^ 26) (λ x h. (begins_parts s x h).0) in
    omega (arith, blocks_is s, all_shared s, shared_is s (2 ^ 26))

pub place_of_shared : (s : Shape) (line : ℕ) → is_shared s line ≡ true → place_of s line ≡ Some (shared_before s line)
unfolding place_of
place_of_shared s line h = rw h refl

pub place_of_none : (s : Shape) (line : ℕ) → is_shared s line ≡ false → place_of s line ≡ None
unfolding place_of
place_of_none s line h = rw h refl

pub placed_law : (s : Shape) (b line : ℕ) → IsValid s → b < blocks s → has_line s b line ≡ true → place_of s line ≡ Some (start s b + (line - first_line s b))
placed_law s b line v h has = place_of_shared s line (line_of_block s b line v h has).0 ∙ ap Some (place_law s b line v h has)
