-- Helps the code alone: what is seen of a word before and after it.
use Rattle.std.specs.Prelude.{◌≡◌, ℕ, List, Bool, true, false, not, ◌==◌, Option, None, Some, option_and_then, map}
use Rattle.std.specs.Option.{option_map, option_map_or}
use Rattle.replay.specs.node_model.rv32_step.OneMemory.{Access, Nothing, Reads, Writes, WritesIf, Exchanges}
use Rattle.rv32_program.specs.declared.End.{End}
use Rattle.rv32_program.specs.declared.End.TheVariants.{Exited}
use Rattle.templates.specs.declared.commits.CommitKind.{CommitKind}
use Rattle.templates.specs.declared.commits.CommitKind.TheVariants.{Never, Always, IfNotFlag, IfNoWait}
use Rattle.templates.specs.declared.plans.PlanEntry.{PlanEntry}
use Rattle.templates.specs.Commits.{commit_at}
use Rattle.templates.specs.Sequences.{flag_word}
use Rattle.replay.specs.node_model.jump_map.Maps.{old_of}
use Rattle.block_layout.specs.Layout.{Shape}
use Rattle.replay.specs.node_model.home_directory.dsm_messages.Headers.{sent_by}
use Rattle.replay.specs.node_model.declared.Standing.{Standing}
use Rattle.replay.specs.node_model.declared.Standing.TheVariants as standing
use Rattle.replay.specs.node_model.Node.{Work, Node, WordOutcome, word_outcome}
use Rattle.replay.specs.node_model.Turns.{word_turn}
use Rattle.replay.specs.node_machine.declared.node_state.NodeState.{NodeState}
use Rattle.replay.specs.node_machine.NodeState.{work_of, node_of}
use Rattle.replay.specs.node_machine.Wanted.{block_with, wanted_in, wants_of_word}
use Rattle.replay.specs.dsm_core.declared.seen.Seen.{Seen}
use Rattle.run_trace.specs.declared.traced.Accessed.{Accessed}
use Rattle.run_trace.specs.declared.words.Before.{Before}
use Rattle.run_trace.specs.declared.traced.AccessKind.TheVariants as access
use Rattle.run_trace.specs.declared.reach.Reached.{Reached}
use Rattle.run_trace.specs.declared.reach.WordAccess.{WordAccess}
use Rattle.run_trace.specs.declared.reach.WordAccess.TheVariants.{Nowhere, At, IfPrints}

-- an access, as it is reached
abbrev pub access_seen : Access → Option Reached
access_seen Nothing = None
access_seen (Reads kind a value) =
    Some (record { kind = access.Reads; address = a; value = Some value })
access_seen (Writes width a value) =
    Some (record { kind = access.Writes; address = a; value = None })
access_seen (WritesIf a value true) =
    Some (record { kind = access.Writes; address = a; value = None })
access_seen (WritesIf a value false) =
    Some (record { kind = access.WritesNot; address = a; value = None })
access_seen (Exchanges a old new) =
    Some (record { kind = access.Exchanges; address = a; value = Some old })

-- what is reached by a word that prints this
abbrev pub reached_by : WordAccess → Option ℕ → Option Reached
reached_by Nowhere printed = None
reached_by (At r) printed = Some r
reached_by (IfPrints a) printed =
    option_map (λ b. record { kind = access.Reads; address = a; value = Some b }) printed

-- a word reaches this
abbrev pub IsReach : WordAccess → WordOutcome → Type 0
IsReach reach o = reached_by reach o.printed ≡ access_seen o.access

-- with the block in which it lies
abbrev pub accessed_at : Shape → Reached → Accessed
accessed_at layout r = record {
  kind = r.kind;
  address = r.address;
  block = block_with layout r.address;
}

abbrev pub is_exited : Option End → Bool
is_exited (Some (Exited e)) = true
is_exited end = false

abbrev pub waits_in : Standing → Bool
waits_in standing.Waiting = true
waits_in s = false

-- a word of this kind commits, by what it reached and whether its node waits
abbrev pub commits_when : CommitKind → Option Reached → Bool → Bool
commits_when Never r waits = false
commits_when Always r waits = true
commits_when IfNotFlag r waits =
    option_map_or (λ v. not (v == flag_word)) (option_and_then (λ r. r.value) r) false
commits_when IfNoWait r waits = not waits

-- this was seen before a node's next word
pub record IsBefore (work : Work) (plan : List PlanEntry) (n : Node) (b : Before) : Type 0 where
  pub place : b.place ≡ old_of work.image n.lane.at
  pub kind : b.kind ≡ commit_at work.program plan (old_of work.image n.lane.at)
  pub reach : IsReach b.reach (word_outcome work n)
  pub counts : b.counts ≡ n.counts

-- this was seen before a node's next word, while it was made, and of the node after it
pub record IsAfterWord (work : Work) (plan : List PlanEntry) (n : Node) (b : Before) (s : Seen)
    (layout : Shape) (after : NodeState) : Type 0 where
  pub before : IsBefore work plan n b
  pub node : node_of after ≡ (word_turn work n).node
  pub work_is : work_of after ≡ work
  pub layout_is : layout ≡ work.layout
  pub sends : s.sends.items ≡ map sent_by (word_turn work n).sends
  pub wants : wanted_in s.wants ≡ wants_of_word work n
  pub printed : s.printed ≡ (word_turn work n).printed
