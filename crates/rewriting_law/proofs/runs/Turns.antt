-- What a turn leaves of its node's processor.
use Rattle.std.proofs.Common.{◌≡◌, ℕ, cond, Bool, true, false, List, [], ◌∷◌, Option, Some, None, refl, ◌∙◌}
use Rattle.rewriting_law.proofs.Names.{Shape, block_of, line_of, Need, Message, Bye, Miss, Row, AtHome, AtNode, row_of, Work, Node, Want, Resume, Resumed, lane_resumed, tally_resumed, stop_or, Turn, with_miss, want_in, want_all, with_byes, by_row_or, holding, handled, Phase, Waiting, has_no_wait, resumed}
use Rattle.dsm_protocol.specs.node_model.Node.{counts_after}

-- a node's number, and where its processor is, are as before
pub record SameProcessor (old new : Node) : Type 0 where
  pub me : new.me ≡ old.me
  pub lane : new.lane ≡ old.lane
  pub executed : new.executed ≡ old.executed
  pub phase : new.phase ≡ old.phase

-- a node once its wait is over
abbrev pub goes_on_from : Work → Node → Resume → Node
goes_on_from work n resume = record n {
  lane = lane_resumed n.lane n.local resume;
  phase = stop_or work.budget n.executed Resumed;
  counts = counts_after (tally_resumed n.local resume) n.counts;
}

-- what holds of a node, and of it where its word goes on, holds once it has resumed
pub resumed_is : (work : Work) (n : Node) (P : Node → Type 0) → P n
    → ((resume : Resume) → P (goes_on_from work n resume)) → (phase : Phase)
    → P (resumed work n phase)
resumed_is work n P here on (Waiting resume) =
    elim (has_no_wait work.layout n) as (λ z. P (cond z (goes_on_from work n resume) n)) [
      | true ↦ on resume
      | false ↦ here
    ]
resumed_is work n P here on other = here

itself : (n : Node) → SameProcessor n n
itself n = record { me = refl; lane = refl; executed = refl; phase = refl }

-- Byes change no node
pub byes_node : (nodes : ℕ) (t : Turn) (ends : Bool) → (with_byes nodes t ends).node ≡ t.node
byes_node nodes t true = refl
byes_node nodes t false = refl

module _ (layout : Shape) where
  miss_same : (b : ℕ) (need : Need) (t : Turn) (miss : Option Miss)
      → SameProcessor t.node (with_miss layout b need t miss).node
  miss_same b need t None = itself t.node
  miss_same b need t (Some miss) = record { me = refl; lane = refl; executed = refl; phase = refl }

  want_same : (t : Turn) (need : Need) (o : Option ℕ)
      → SameProcessor t.node (want_in layout t need o).node
  want_same t need None = itself t.node
  want_same t need (Some b) = miss_same b need t _

  -- what a node wants
  pub wants_same : (ws : List Want) (t : Turn) → SameProcessor t.node (want_all layout t ws).node
  wants_same [] t = itself t.node
  wants_same (w ∷ ws) t =
      let u = want_in layout t w.need (block_of layout (line_of w.at)) in
      let first = want_same t w.need (block_of layout (line_of w.at)) in
      let rest = wants_same ws u in
      record {
        me = rest.me ∙ first.me;
        lane = rest.lane ∙ first.lane;
        executed = rest.executed ∙ first.executed;
        phase = rest.phase ∙ first.phase;
      }

  row_same : (n : Node) (row : Option Row) → SameProcessor n (by_row_or layout n row).node
  row_same n None = itself n
  row_same n (Some (AtHome b row)) =
      record { me = refl; lane = refl; executed = refl; phase = refl }
  row_same n (Some (AtNode b row)) =
      record { me = refl; lane = refl; executed = refl; phase = refl }

  -- and a message
  pub handled_same : (n : Node) (j : ℕ) (message : Message)
      → SameProcessor n (handled layout n j message).node
  handled_same n j Bye = record { me = refl; lane = refl; executed = refl; phase = refl }
  handled_same n j other = row_same n (row_of layout n.me (holding layout n) j other)
