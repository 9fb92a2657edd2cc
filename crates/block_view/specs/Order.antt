-- The blocks that cost something, those that cost most first.
use Rattle.std.specs.Prelude.{◌≡◌, ℕ, ◌+◌, ◌^◌, ◌<◌, ◌≤◌, nat_lt, All, List, map, filter, length, slice_index_or}
use Rattle.std.specs.List.{range_with_len}
use Rattle.std.specs.List.Sorted.{IsPermutation}
use Rattle.event_text.specs.run_trace.Traced.{Traced}
use Rattle.block_view.specs.declared.order.Ranked.{Ranked}
use Rattle.block_view.specs.Counts.{cost_of}

-- a block, and what it costs
abbrev pub rank_of : (n b : ℕ) → List Traced → Ranked
rank_of n b trace = record { block = b; cost = cost_of n b trace }

-- of m blocks those that cost something, ascending
abbrev pub costly : (n m : ℕ) → List Traced → List Ranked
costly n m trace =
    filter (λ r. nat_lt 0 r.cost) (map (λ b. rank_of n b trace) (range_with_len 0 m))

-- the same, by what they cost: the greatest first, then by their numbers
pub record IsOrder (blocks ranked : List Ranked) : Type 0 where
  pub same : IsPermutation blocks ranked
  pub falling : (k : ℕ) (d : Ranked) → k + 1 < length ranked
      → (slice_index_or ranked (k + 1) d).cost ≤ (slice_index_or ranked k d).cost
  pub ties : (k : ℕ) (d : Ranked) → k + 1 < length ranked
      → (slice_index_or ranked k d).cost ≡ (slice_index_or ranked (k + 1) d).cost
      → (slice_index_or ranked k d).block ≤ (slice_index_or ranked (k + 1) d).block

-- blocks below n, ascending, with costs below 2^64
pub record AreUpTo (blocks : List Ranked) (n : ℕ) : Type 0 where
  pub below : All (λ r. r.block < n) blocks
  pub fit : All (λ r. r.cost < 2 ^ 64) blocks
  pub ascending : (k : ℕ) (d : Ranked) → k + 1 < length blocks
      → (slice_index_or blocks k d).block ≤ (slice_index_or blocks (k + 1) d).block
