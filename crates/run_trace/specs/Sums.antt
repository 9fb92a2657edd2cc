-- What a trace counts.
use Rattle.std.specs.Prelude.{ℕ, ◌==◌, if◌then◌else◌, List, [], ◌∷◌, map, length}
use Rattle.std.specs.List.{range_with_len}
use Rattle.std.specs.Option.{option_map_or}
use Rattle.replay.specs.node_model.declared.NodeCounts.{NodeCounts}
use Rattle.replay.specs.node_model.Node.{no_counts, counts_after}
use Rattle.replay.specs.node_model.Turns.{count_want, count_row}
use Rattle.replay.specs.node_machine.declared.wanted.Wanted.{Wanted}
use Rattle.run_trace.specs.Traced.{Traced, What, Word, Taken}

-- a block that is asked for counts by its state before
abbrev pub count_asked : Wanted → NodeCounts → NodeCounts
count_asked w c =
    if w.asks then option_map_or (λ state. count_want w.need state c) w.state c else c

abbrev pub count_wants : List Wanted → NodeCounts → NodeCounts
count_wants [] c = c
count_wants (w ∷ ws) c = count_wants ws (count_asked w c)

abbrev pub count_in : What → NodeCounts → NodeCounts
count_in (Word w) c = count_wants w.wants (counts_after w.tally c)
count_in (Taken t) c = counts_after t.tally (count_row t.gives_up (length t.sends) c)

-- what these events of node i count, beside what it has counted
abbrev pub counts_from : (i : ℕ) → List Traced → NodeCounts → NodeCounts
counts_from i [] c = c
counts_from i (x ∷ xs) c = counts_from i xs (if x.node == i then count_in x.what c else c)

-- what each of n nodes counts
abbrev pub counts_by_node : (n : ℕ) → List Traced → List NodeCounts
counts_by_node n trace = map (λ i. counts_from i trace no_counts) (range_with_len 0 n)
