-- The lines of blocks by what is kept.
use Rattle.std.proofs.Common.{◌≡◌, ℕ, zero, suc, ◌+◌, ◌<◌, ◌≤◌, List, [], ◌∷◌, ◌++◌, length, drop, refl, sym, ap, ◌∙◌, arith, slice_index_or}
use Rattle.std.specs.Prelude.{All}
use Rattle.std.specs.List.{range_with_len, flat_map}
use Rattle.std.proofs.lemmas.List.{append-nil, append_assoc}
use Rattle.std.proofs.lemmas.List.Elements.{All-nil, All-cons, All-head, All-tail}
use Rattle.elf_symbols.specs.Symbols.{Symbol}
use Rattle.block_layout.specs.Layout.{Shape}
use Rattle.node_model.specs.declared.NodeCounts.{NodeCounts}
use Rattle.block_view.specs.declared.costs.BlockCosts.{BlockCosts}
use Rattle.block_view.specs.declared.order.Ranked.{Ranked}
use Rattle.block_view.specs.Kept.{counts_at, counts_in, sites_in, IsCostOf}
use Rattle.block_view.specs.Text.{block_text, block_lines, Section, AreSites, IsAscending}

pub found_counts : (ss : List BlockCosts) (b : ℕ) (d : BlockCosts) → b < length ss
    → counts_at (slice_index_or ss b d).nodes.items ≡ counts_in ss b
found_counts [] b d low = absurd (omega (arith, low))
found_counts (s ∷ ss) zero d low = refl
found_counts (s ∷ ss) (suc b) d low = found_counts ss b d (omega (arith, low))

pub found_sites : (ss : List BlockCosts) (b : ℕ) (d : BlockCosts) → b < length ss
    → (slice_index_or ss b d).misses.entries ≡ sites_in ss b
found_sites [] b d low = absurd (omega (arith, low))
found_sites (s ∷ ss) zero d low = refl
found_sites (s ∷ ss) (suc b) d low = found_sites ss b d (omega (arith, low))

pub kept_counts : (ss : List BlockCosts) (b : ℕ) (f : ℕ → NodeCounts) (p : List ℕ) → b < length ss
    → ((d : BlockCosts) → IsCostOf (slice_index_or ss b d) f p) → (i : ℕ) → counts_in ss b i ≡ f i
kept_counts [] b f p low h i = absurd (omega (arith, low))
kept_counts (s ∷ ss) zero f p low h i = (h s).counted i
kept_counts (s ∷ ss) (suc b) f p low h i = kept_counts ss b f p (omega (arith, low)) h i

pub kept_sites : (ss : List BlockCosts) (b : ℕ) (f : ℕ → NodeCounts) (p : List ℕ) → b < length ss
    → ((d : BlockCosts) → IsCostOf (slice_index_or ss b d) f p) → IsAscending (sites_in ss b)
    → AreSites p (sites_in ss b)
kept_sites [] b f p low h up = absurd (omega (arith, low))
kept_sites (s ∷ ss) zero f p low h up =
    record { each = (h s).missed; some = (h s).some; ascending = up }
kept_sites (s ∷ ss) (suc b) f p low h up = kept_sites ss b f p (omega (arith, low)) h up

-- likewise at each block that is ranked
pub ranked_sites : (ss : List BlockCosts) (m : ℕ) (f : ℕ → ℕ → NodeCounts) (p : ℕ → List ℕ) (rs : List Ranked)
    → m ≤ length ss → ((b : ℕ) (d : BlockCosts) → b < length ss → IsCostOf (slice_index_or ss b d) (f b) (p b))
    → All (λ r. r.block < m) rs → All (λ r. IsAscending (sites_in ss r.block)) rs
    → All (λ r. AreSites (p r.block) (sites_in ss r.block)) rs
ranked_sites ss m f p [] all h below up = All-nil (λ (r : Ranked). AreSites (p r.block) (sites_in ss r.block))
ranked_sites ss m f p (r ∷ rs) all h below up =
    let low = All-head (λ (x : Ranked). x.block < m) r rs below in
    let there : r.block < length ss = omega (arith, low, all) in
    All-cons (λ (x : Ranked). AreSites (p x.block) (sites_in ss x.block)) r rs
    (kept_sites ss r.block (f r.block) (p r.block) there (λ d. h r.block d there)
    (All-head (λ (x : Ranked). IsAscending (sites_in ss x.block)) r rs up))
    (ranked_sites ss m f p rs all h (All-tail (λ (x : Ranked). x.block < m) r rs below)
    (All-tail (λ (x : Ranked). IsAscending (sites_in ss x.block)) r rs up))

pub lines_as : (layout : Shape) (symbols : List Symbol) (m : ℕ) (f g : ℕ → Section) (rs : List Ranked)
    → All (λ r. r.block < m) rs → ((b : ℕ) → b < m → f b ≡ g b)
    → block_lines layout symbols f rs ≡ block_lines layout symbols g rs
lines_as layout symbols m f g [] below same = refl
lines_as layout symbols m f g (r ∷ rs) below same =
    let here = same r.block (All-head (λ x. x.block < m) r rs below) in
    let rest = lines_as layout symbols m f g rs (All-tail (λ x. x.block < m) r rs below) same in
    λ t. block_text layout symbols (here t) r ++ rest t

-- a line more
more_lines : (f : ℕ → List ℕ) (n a : ℕ)
    → flat_map f (range_with_len a (n + 1)) ≡ flat_map f (range_with_len a n) ++ f (a + n)
more_lines f zero a = append-nil (f a) ∙ ap f (omega arith)
more_lines f (suc n) a =
    let count : suc n + 1 ≡ suc (n + 1) = omega arith in
    ap (λ k. flat_map f (range_with_len a k)) count ∙ ap (λ x. f a ++ x) (more_lines f n (a + 1))
    ∙ sym (append_assoc (f a) (flat_map f (range_with_len (a + 1) n)) (f (a + 1 + n)))
    ∙ ap (λ k. (f a ++ flat_map f (range_with_len (a + 1) n)) ++ f k) (omega arith)

pub next_line : (f : ℕ → List ℕ) (n : ℕ) (start old new : List ℕ) → old ≡ start ++ flat_map f (range_with_len 0 n)
    → new ≡ old ++ f n → new ≡ start ++ flat_map f (range_with_len 0 (n + 1))
next_line f n start old new before h =
    h ∙ ap (λ x. x ++ f n) before ∙ append_assoc start (flat_map f (range_with_len 0 n)) (f n)
    ∙ ap (λ x. start ++ x) (sym (more_lines f n 0 ∙ ap (λ k. flat_map f (range_with_len 0 n) ++ f k) (omega arith)))

-- the lines of a block more
pub next_block : (layout : Shape) (symbols : List Symbol) (of : ℕ → Section) (rs : List Ranked) (i : ℕ)
    (d : Ranked) (out new all : List ℕ) → i < length rs → out ++ block_lines layout symbols of (drop i rs) ≡ all
    → new ≡ out ++ block_text layout symbols (of (slice_index_or rs i d).block) (slice_index_or rs i d)
    → new ++ block_lines layout symbols of (drop (i + 1) rs) ≡ all
next_block layout symbols of [] i d out new all low before h = absurd (omega (arith, low))
next_block layout symbols of (r ∷ rs) zero d out new all low before h =
    let e : zero + 1 ≡ suc zero = omega arith in
    let own = block_text layout symbols (of r.block) r in
    ap (λ k. new ++ block_lines layout symbols of (drop k (r ∷ rs))) e
    ∙ ap (λ x. x ++ block_lines layout symbols of rs) h
    ∙ append_assoc out own (block_lines layout symbols of rs) ∙ before
next_block layout symbols of (r ∷ rs) (suc i) d out new all low before h =
    let e : suc i + 1 ≡ suc (i + 1) = omega arith in
    ap (λ k. new ++ block_lines layout symbols of (drop k (r ∷ rs))) e
    ∙ next_block layout symbols of rs i d out new all (omega (arith, low)) before h
