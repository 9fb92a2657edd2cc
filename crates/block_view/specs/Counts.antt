-- What the events of a run cost each block.
use Rattle.std.specs.Prelude.{◌≡◌, ℕ, Bool, true, false, ◌==◌, ◌⊎◌, nat_lt, if◌then◌else◌, List, [], ◌∷◌, length, map, filter, All, Option}
use Rattle.std.specs.Option.{option_map_or}
use Rattle.std.specs.List.{range_with_len, sum_by, count_by, flat_map}
use Rattle.node_model.specs.declared.NodeCounts.{NodeCounts}
use Rattle.node_model.specs.Node.{no_counts}
use Rattle.node_model.specs.Turns.{count_row}
use Rattle.event_text.specs.node_machine.declared.wanted.Wanted.{Wanted}
use Rattle.event_text.specs.run_trace.Traced.{OfWord, Traced, What, Word, Taken}
use Rattle.event_text.specs.run_trace.Sums.{count_wants, counts_from}
use Rattle.event_text.specs.Shown.{is_block}

-- 1. What a node counts of a block

-- what a word wants of a block
abbrev pub wants_of : (b : ℕ) → List Wanted → List Wanted
wants_of b wants = filter (λ w. is_block b w.block) wants

-- a word counts of a block what it asks of it; a message counts of its block
abbrev pub count_about : (b : ℕ) → What → NodeCounts → NodeCounts
count_about b (Word w) c = count_wants (wants_of b w.wants) c
count_about b (Taken t) c =
    if is_block b t.message.block then count_row t.gives_up (length t.sends) c else c

-- what these events of node i count of a block, beside what it has counted
abbrev pub block_counts_from : (b i : ℕ) → List Traced → NodeCounts → NodeCounts
block_counts_from b i [] c = c
block_counts_from b i (x ∷ xs) c =
    block_counts_from b i xs (if x.node == i then count_about b x.what c else c)

abbrev pub block_counts : (b i : ℕ) → List Traced → NodeCounts
block_counts b i trace = block_counts_from b i trace no_counts

-- the messages of n nodes that count so
abbrev pub messages_in : (ℕ → NodeCounts) → (n : ℕ) → ℕ
messages_in counts n = sum_by (λ c. c.messages) (map counts (range_with_len 0 n))

-- what a block costs: the messages of all n nodes about it
abbrev pub cost_of : (n b : ℕ) → List Traced → ℕ
cost_of n b trace = messages_in (λ i. block_counts b i trace) n

-- 2. The code that misses

-- the original's addresses of a word that asks for a block: one for each request
abbrev pub asks_at : (b : ℕ) → OfWord → List ℕ
asks_at b w = option_map_or
    (λ place. map (λ v. place.address) (filter (λ v. v.asks) (wants_of b w.wants))) w.place []

abbrev pub asks_in : (b : ℕ) → What → List ℕ
asks_in b (Word w) = asks_at b w
asks_in b (Taken t) = []

-- where requests for a block were made, in order
abbrev pub misses_of : (b : ℕ) → List Traced → List ℕ
misses_of b trace = flat_map (λ x. asks_in b x.what) trace

-- how many of these were made at an address
abbrev pub times : (a : ℕ) → List ℕ → ℕ
times a places = count_by (λ p. p == a) places

-- 3. Sums

abbrev pub is_below : (m : ℕ) → Option ℕ → Bool
is_below m block = option_map_or (λ b. nat_lt b m) block false

-- an event counts of the first m blocks alone
abbrev pub IsOfBlocks : (m : ℕ) → What → Type 0
IsOfBlocks m (Word w) = All (λ v. v.asks ≡ true → is_below m v.block ≡ true) w.wants
IsOfBlocks m (Taken t) =
    (is_below m t.message.block ≡ true) ⊎ ((t.gives_up ≡ false) × (length t.sends ≡ 0))

-- one of the counts of node i, summed over m blocks
abbrev pub sum_over : (m i : ℕ) → List Traced → (NodeCounts → ℕ) → ℕ
sum_over m i trace number = sum_by (λ b. number (block_counts b i trace)) (range_with_len 0 m)

-- these counts of node i are sums over m blocks; a false miss and a fallback are of no block
pub record AreSumsTo (m i : ℕ) (trace : List Traced) (c : NodeCounts) : Type 0 where
  pub read : sum_over m i trace (λ c. c.read) ≡ c.read
  pub exclusive : sum_over m i trace (λ c. c.exclusive) ≡ c.exclusive
  pub upgrade : sum_over m i trace (λ c. c.upgrade) ≡ c.upgrade
  pub invalidations : sum_over m i trace (λ c. c.invalidations) ≡ c.invalidations
  pub messages : sum_over m i trace (λ c. c.messages) ≡ c.messages

-- what node i counts in these events is the sum over m blocks
abbrev pub AreSums : (m i : ℕ) → List Traced → Type 0
AreSums m i trace = AreSumsTo m i trace (counts_from i trace no_counts)
