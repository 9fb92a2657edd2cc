-- What a record of a run is.
use Rattle.std.specs.Prelude.{◌≡◌, ◌≢◌, ℕ, ◌+◌, ◌^◌, ◌<◌, ◌≤◌, List, [], ◌∷◌, length, All, Some, IfSome}
use Rattle.block_layout.specs.declared.layout.BlockRange.{BlockRange}
use Rattle.node_model.specs.declared.Entry.{Entry}
use Rattle.run_limits.specs.Ranges.{IsNodeCount, IsBudget}
use Rattle.node_model.specs.jump_map.Image.{most_words}
use Rattle.run_record.specs.declared.Record.{Record}

-- a block's size has at most five digits, and its home at most two
pub record IsBlockLine (r : BlockRange) : Type 0 where
  pub size : r.block ≤ 99999
  pub home : IfSome r.home (λ node. node ≤ 99)

-- a message from one of so many nodes, taken after the stamp of the node's last take: each of the
-- words executed since then, and the take itself, have stamps of their own
pub record IsTakeBehind (nodes last : ℕ) (e : Entry) : Type 0 where
  pub from : e.from < nodes
  pub stamp : last + e.words + 1 ≤ e.stamp
  pub low : e.stamp < 2 ^ 63
  pub few_words : e.words < 2 ^ 63

-- the takes of a node, one after another
abbrev pub AreTakesBehind : (nodes last : ℕ) → List Entry → Type 0
AreTakesBehind nodes last [] = Unit {0}
AreTakesBehind nodes last (e ∷ es) = IsTakeBehind nodes last e × AreTakesBehind nodes e.stamp es

-- how many words rewritten code may have: one at least, and together less than 16 MiB
pub record IsCodeLength (words : ℕ) : Type 0 where
  pub some : 1 ≤ words
  pub few : words ≤ most_words

-- 1 to 16 nodes, with a journal each, a budget of 1 to 2^32 words, and rewritten words where their
-- number is named
pub record IsRecord (r : Record) : Type 0 where
  pub nodes : IsNodeCount r.nodes
  pub budget : IsBudget r.budget
  pub code : IfSome r.code IsCodeLength
  pub blocks : All IsBlockLine r.blocks
  pub each : length r.journals ≡ r.nodes
  pub journals : All (AreTakesBehind r.nodes 0) r.journals

-- the record names another number of words than rewritten code has
pub record NamesOtherCode (r : Record) (words : ℕ) : Type 0 where
  pub named : ℕ
  pub code_is : r.code ≡ Some named
  pub other : named ≢ words
