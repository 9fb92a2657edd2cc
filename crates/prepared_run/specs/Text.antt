-- The lines of a run's nodes, and that of a record whose events are refused.
use Rattle.std.specs.Prelude.{ℕ, ◌+◌, List, [], ◌∷◌, ◌++◌, codes}
use Rattle.std.specs.Fmt.{decimal}
use Rattle.replay.specs.node_model.declared.NodeCounts.{NodeCounts}
use Rattle.replay.specs.Refusals as replays
use Rattle.replay.specs.declared.refused.ReplayRule.{ReplayRule}

-- what a node counts
abbrev pub counts_text : NodeCounts → List ℕ
counts_text c =
    codes "read " ++ (decimal c.read ++ (codes " exclusive " ++ (decimal c.exclusive
    ++ (codes " upgrade " ++ (decimal c.upgrade ++ (codes " false " ++ (decimal c.falses
    ++ (codes " invalidations " ++ (decimal c.invalidations ++ (codes " fallbacks "
    ++ (decimal c.fallbacks ++ (codes " messages " ++ decimal c.messages))))))))))))

-- a line for each node, from this number on
abbrev pub node_lines : ℕ → List NodeCounts → List ℕ
node_lines i [] = []
node_lines i (c ∷ cs) =
    codes "node " ++ (decimal i ++ (codes " " ++ (counts_text c
    ++ (codes "\n" ++ node_lines (i + 1) cs))))

-- the line of a rule that refuses the events of a record: the node and its entry that tells of the
-- event that breaks it
abbrev pub event_line : ReplayRule → (node entry : ℕ) → List ℕ
event_line rule node entry =
    codes "shasta: record refused " ++ (decimal (replays.number_of rule)
    ++ (codes " at node " ++ (decimal node
    ++ (codes " entry " ++ (decimal entry ++ codes "\n")))))
