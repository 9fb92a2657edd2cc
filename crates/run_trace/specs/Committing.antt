-- What is seen of a word, of what tells whether it commits a step of the original.
use Rattle.std.specs.Prelude.{◌≡◌, true, List}
use Rattle.templates.specs.Commits.{commit_at}
use Rattle.templates.specs.declared.plans.PlanEntry.{PlanEntry}
use Rattle.replay.specs.node_model.jump_map.Maps.{old_of}
use Rattle.replay.specs.node_model.Node.{Work, Node, standing_of, word_outcome}
use Rattle.replay.specs.node_model.Turns.{silent, word_turn}
use Rattle.replay.specs.node_model.Core.{may_execute}
use Rattle.run_trace.specs.declared.committing.CommitSight.{CommitSight}
use Rattle.run_trace.specs.Looks.{IsReach}

-- this was seen before a node's next word
pub record IsCommitSight (work : Work) (plan : List PlanEntry) (n : Node) (s : CommitSight) : Type 0
  where
    pub kind : s.kind ≡ commit_at work.program plan (old_of work.image n.lane.at)
    pub reach : IsReach s.reach (word_outcome work n)

-- a node's next word is silent: it prints nothing and sends nothing, and the node may execute
-- another
pub record IsSilentNode (work : Work) (n : Node) : Type 0 where
  pub turn : word_turn work n ≡ silent (word_turn work n).node
  pub may : may_execute (standing_of work (word_turn work n).node) ≡ true
