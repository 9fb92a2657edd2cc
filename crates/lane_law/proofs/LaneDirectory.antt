-- The directory protocol gives what nodes of several processors need of it.
use Rattle.std.proofs.Common.{ℕ, ◌<◌, Bool, List, sym, ◌∙◌}
use Rattle.lane_law.proofs.Names.{Shape, PlanEntry, Work, most_waits}
use Rattle.rewriting_law.proofs.protocol_side.ProtocolSide.{Protocol, ProtocolSide}
use Rattle.rewriting_law.proofs.one_memory.Messages.{AreLaidOut}
use Rattle.lane_law.proofs.LaneCode.{LaneCode}
use Rattle.rewriting_law.proofs.protocol_side.Directory.{Rest, directory}
use Rattle.rewriting_law.proofs.protocol_side.DirectorySide.{Layout, laid_out, directory_side, wants, want_writes, calm, lowers_first}
use Rattle.lane_law.proofs.LaneWants.{WantsMore}
use Rattle.lane_law.proofs.LaneTaking.{Calm}

module _ (work : Work) (lay : Layout work) (processors : ℕ) (node_of : ℕ → ℕ)
    (placed : (p : ℕ) → p < processors → node_of p < work.layout.nodes) (plan : List PlanEntry)
    (code : LaneCode work.layout work processors plan) where
  abbrev layout : Shape
  layout = work.layout

  abbrev protocol : Protocol
  protocol = directory layout

  abbrev side : ProtocolSide layout work protocol
  side = directory_side work lay

  abbrev laid : AreLaidOut layout work
  laid = laid_out work lay

  -- the first message from node j to node i takes something away
  abbrev pub lowers : Rest → (i j : ℕ) → Bool
  lowers rest i j = lowers_first (rest.list j i)

  pub wants_more : WantsMore layout work processors node_of placed plan protocol side laid
      (most_waits layout.nodes)
  wants_more locals rest memory h i low a b need at qs few are free unmet =
      let none = sym (are.waits b) ∙ free in (
        wants work lay locals rest memory h i low a b need at qs few are.waits none unmet,
        want_writes work lay locals rest memory h i low a b need at qs few are.waits none unmet,
      )

  pub calm_messages : Calm layout work processors node_of placed plan code protocol side laid lowers
  calm_messages locals rest memory h i j low lj has silent =
      calm work lay locals rest memory h i low j lj silent
