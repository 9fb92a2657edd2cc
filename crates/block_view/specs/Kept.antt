-- Helps the code alone: what is kept of each block.
use Rattle.std.specs.Prelude.{◌≡◌, ℕ, zero, suc, ◌+◌, ◌<◌, Bool, true, false, ◌==◌, if◌then◌else◌, List, [], ◌∷◌, ◌++◌, length, slice_index_or, Option, unwrap_or}
use Rattle.std.specs.Option.{option_to_list}
use Rattle.std.specs.Ordering.{nat_cmp}
use Rattle.std.specs.BTreeMap.{BTreeMap, get}
use Rattle.block_layout.specs.Layout.{Shape, blocks}
use Rattle.block_layout.specs.Update.{changed}
use Rattle.node_model.specs.declared.NodeCounts.{NodeCounts}
use Rattle.node_model.specs.Node.{no_counts}
use Rattle.event_text.specs.node_machine.declared.wanted.Wanted.{Wanted}
use Rattle.event_text.specs.run_trace.Traced.{Traced, What}
use Rattle.event_text.specs.run_trace.Sums.{count_asked, count_in, counts_from}
use Rattle.event_text.specs.Shown.{is_block}
use Rattle.block_view.specs.Text.{IsNoted, Section}
use Rattle.block_view.specs.Sharing.{writes_of}
use Rattle.block_view.specs.Writers.{AreSharedBy, shared_in}
use Rattle.block_view.specs.Counts.{count_about, block_counts, times, asks_in, misses_of}
use Rattle.block_view.specs.declared.costs.BlockCosts.{BlockCosts}
use Rattle.block_view.specs.declared.sums.Sums.{Sums}

-- what each node counts, of those that have counted
abbrev pub counts_at : List NodeCounts → (node : ℕ) → NodeCounts
counts_at counts i = slice_index_or counts i no_counts

-- how often an address is noted
abbrev pub noted : BTreeMap ℕ ℕ → (address : ℕ) → ℕ
noted misses a = unwrap_or (get nat_cmp misses a) 0

-- the costs of a block of which the nodes count this, and for which was asked here
pub record IsCostOf (s : BlockCosts) (counts : ℕ → NodeCounts) (places : List ℕ) : Type 0 where
  pub counted : (i : ℕ) → counts_at s.nodes.items i ≡ counts i
  pub missed : (a : ℕ) → noted s.misses a ≡ times a places
  pub some : (a : ℕ) → IsNoted (get nat_cmp s.misses a)

-- the costs of blocks of which the nodes count this, and for which was asked here
abbrev pub AreCostsOf : List BlockCosts → (ℕ → ℕ → NodeCounts) → (ℕ → List ℕ) → Type 0
AreCostsOf blocks counts places =
    (b : ℕ) (d : BlockCosts) → b < length blocks
    → IsCostOf (slice_index_or blocks b d) (counts b) (places b)

-- where a word asks
abbrev pub place_asked : Option ℕ → (asks : Bool) → List ℕ
place_asked place false = []
place_asked place true = option_to_list place

-- what is counted after a node has wanted a block
abbrev pub counts_with : (ℕ → ℕ → NodeCounts) → (node : ℕ) → Wanted → ℕ → ℕ → NodeCounts
counts_with counts node w b = if is_block b w.block
    then changed (counts b) node (count_asked w (counts b node)) else counts b

abbrev pub places_with : (ℕ → List ℕ) → (place : Option ℕ) → Wanted → ℕ → List ℕ
places_with places place w b = if is_block b w.block
    then places b ++ place_asked place w.asks else places b

-- what is counted after node `node` did this
abbrev pub counts_for : (ℕ → ℕ → NodeCounts) → (node : ℕ) → What → ℕ → ℕ → NodeCounts
counts_for counts node w b i =
    if node == i then count_about b w (counts b i) else counts b i

-- where was asked after this was done
abbrev pub places_for : (ℕ → List ℕ) → What → ℕ → List ℕ
places_for places w b = places b ++ asks_in b w

-- what is counted, and where was asked, after an event
abbrev pub counts_by : (ℕ → ℕ → NodeCounts) → Traced → ℕ → ℕ → NodeCounts
counts_by counts x = counts_for counts x.node x.what

abbrev pub places_by : (ℕ → List ℕ) → Traced → ℕ → List ℕ
places_by places x = places_for places x.what

-- n nodes count this
pub record AreTotals (n : ℕ) (kept : List NodeCounts) (counts : ℕ → NodeCounts) : Type 0 where
  pub all : length kept ≡ n
  pub each : (i : ℕ) → i < n → counts_at kept i ≡ counts i

abbrev pub total_by : (ℕ → NodeCounts) → Traced → ℕ → NodeCounts
total_by counts x i = if x.node == i then count_in x.what (counts i) else counts i

-- this is kept of the events seen so far
pub record AreSumsOf (s : Sums) (seen : List Traced) : Type 0 where
  pub count : length s.costs.blocks.items ≡ blocks s.layout.now
  pub costs : AreCostsOf s.costs.blocks.items (λ b i. block_counts b i seen) (λ b. misses_of b seen)
  pub totals : AreTotals s.layout.now.nodes s.totals.nodes.items (λ i. counts_from i seen no_counts)
  pub writers : length s.sharing.blocks.items ≡ blocks s.layout.now
  pub sharing : AreSharedBy s.sharing.blocks.items (λ b. writes_of b seen)

abbrev pub layout_in : Sums → Shape
layout_in s = s.layout.now

-- what is kept of each block
abbrev pub counts_in : List BlockCosts → (b : ℕ) → ℕ → NodeCounts
counts_in [] b i = no_counts
counts_in (s ∷ ss) zero i = counts_at s.nodes.items i
counts_in (s ∷ ss) (suc b) i = counts_in ss b i

abbrev pub sites_in : List BlockCosts → (b : ℕ) → List (ℕ × ℕ)
sites_in [] b = []
sites_in (s ∷ ss) zero = s.misses.entries
sites_in (s ∷ ss) (suc b) = sites_in ss b

abbrev pub kept_in : Sums → (b : ℕ) → Section
kept_in s b = record {
  shared = shared_in s.sharing.blocks.items b;
  counts = counts_in s.costs.blocks.items b;
  sites = sites_in s.costs.blocks.items b;
}
