-- Blocks that several nodes write, each at words of its own.
use Rattle.std.specs.Prelude.{ℕ, ◌/◌, Bool, not, ◌&&◌, ◌||◌, ◌==◌, if◌then◌else◌, List, [], ◌∷◌}
use Rattle.std.specs.Option.{option_map_or}
use Rattle.std.specs.List.{flat_map, list_any, list_all}
use Rattle.event_text.specs.run_trace.declared.traced.Accessed.{Accessed}
use Rattle.event_text.specs.run_trace.Traced.{Traced, What, Word, Taken}
use Rattle.event_text.specs.run_trace.Passing.{is_write}
use Rattle.event_text.specs.Shown.{is_block}

-- a write: the node that makes it, and the aligned word of four bytes that it writes in
pub record Write : Type 0 where
  pub node : ℕ
  pub word : ℕ

-- an access that writes in a block
abbrev pub writes_in : (b : ℕ) → Accessed → Bool
writes_in b a = is_write a.kind && is_block b a.block

-- what an access of node i writes in a block
abbrev pub written_at : (b i : ℕ) → Accessed → List Write
written_at b i a =
    if writes_in b a then record { node = i; word = a.address / 4 } ∷ [] else []

-- what node i writes in a block
abbrev pub written_by : (b i : ℕ) → What → List Write
written_by b i (Word w) = option_map_or (written_at b i) w.access []
written_by b i (Taken t) = []

-- the writes in a block, in order
abbrev pub writes_of : (b : ℕ) → List Traced → List Write
writes_of b trace = flat_map (λ x. written_by b x.node x.what) trace

-- some two of these writes have different nodes
abbrev pub are_of_several : List Write → Bool
are_of_several writes = list_any (λ v. list_any (λ w. not (v.node == w.node)) writes) writes

-- any two with the same word have the same node
abbrev pub are_apart : List Write → Bool
are_apart writes =
    list_all (λ v. list_all (λ w. not (v.word == w.word) || (v.node == w.node)) writes) writes

-- several nodes write in the block, and no two of them the same word
abbrev pub is_falsely_shared : (b : ℕ) → List Traced → Bool
is_falsely_shared b trace = are_of_several (writes_of b trace) && are_apart (writes_of b trace)
