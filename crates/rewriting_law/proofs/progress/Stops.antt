-- A node is stopped by its budget alone.
use Rattle.std.proofs.Common.{◌≡◌, ℕ, ◌+◌, cond, eqb, Bool, true, false, List, [], ◌∷◌, sym, ap, ◌∙◌, refl, subst, inl, inr}
use Rattle.std.proofs.lemmas.Bool.Decides.{eqb_tells}
use Rattle.rewriting_law.proofs.Names.{Stopped, Wire, Work, Node, Move, Waits, Leaves, Phase, Running, Resumed, Ended, phase_after, stop_or, word_outcome, is_ended, after_word, after_wants, wants_of, handled, resumed, journaled, word_turn, after_message, take_turn, each_block_once, Core, Event, Exec, Take, take_first, event_step, after}
use Rattle.rewriting_law.proofs.runs.Turns.{byes_node, wants_same, handled_same, resumed_is}

-- a node that is stopped has executed its whole budget
abbrev pub IsWhole : ℕ → ℕ → Phase → Type 0
IsWhole budget executed phase =
    (b : ℕ) → phase ≡ Ended (Stopped b) → (b ≡ budget) × (executed ≡ budget)

stop_is_whole : (budget executed : ℕ) (phase : Phase) → IsWhole budget executed phase
    → IsWhole budget executed (stop_or budget executed phase)
stop_is_whole budget executed phase whole b h = elim (eqb_tells executed budget) [
  | inl t ↦ (
      let f : Ended (Stopped budget) ≡ Ended (Stopped b) =
      ap (λ y. cond y (Ended (Stopped budget)) phase) (sym t.0) ∙ h in
      let g : b ≡ budget = cc in
      (g, t.1))
  | inr t ↦ whole b (ap (λ y. cond y (Ended (Stopped budget)) phase) (sym t.0) ∙ h)
]

runs_whole : (budget executed : ℕ) → IsWhole budget executed Running
runs_whole budget executed b h = cc

resumed_whole : (budget executed : ℕ) → IsWhole budget executed Resumed
resumed_whole budget executed b h = cc

move_is_whole : (budget executed : ℕ) (m : Move)
    → IsWhole budget executed (phase_after budget executed m)
move_is_whole budget executed (Leaves e) b h = cc
move_is_whole budget executed (Waits resume want more) b h = cc
move_is_whole budget executed other b h =
    stop_is_whole budget executed Running (runs_whole budget executed) b h

module _ (work : Work) where
  abbrev IsWholeNode : Node → Type 0
  IsWholeNode n = IsWhole work.budget n.executed n.phase

  either_is_whole : (b : Bool) (m n : Node) → IsWholeNode m → IsWholeNode n
      → IsWholeNode (cond b m n)
  either_is_whole true m n g h = g
  either_is_whole false m n g h = h

  -- a word
  word_whole : (n : Node) → IsWholeNode (word_turn work n).node
  word_whole n =
      let t = after_wants work n in
      let same = wants_same work.layout
      (each_block_once work.layout (wants_of (word_outcome work n).move)) (after_word work n) in
      let whole : IsWhole work.budget t.node.executed t.node.phase =
      subst (λ e. IsWhole work.budget e t.node.phase) (sym same.executed)
      (subst (λ p. IsWhole work.budget (n.executed + 1) p) (sym same.phase)
      (move_is_whole work.budget (n.executed + 1) (word_outcome work n).move)) in
      subst IsWholeNode (sym (byes_node work.layout.nodes t (is_ended t.node.phase))) whole

  -- a message
  goes_whole : (n : Node) (phase : Phase) → n.phase ≡ phase → IsWholeNode n
      → IsWholeNode (resumed work n phase)
  goes_whole n phase is h =
      resumed_is work n IsWholeNode h
      (λ resume. stop_is_whole work.budget n.executed Resumed (resumed_whole work.budget n.executed))
      phase

  message_whole : (n : Node) (j : ℕ) (wire : Wire) → IsWholeNode n
      → IsWholeNode (take_turn work n j wire).node
  message_whole n j wire h =
      let m = journaled n j wire in
      let t = handled work.layout m j wire.message in
      let same = handled_same work.layout m j wire.message in
      let whole : IsWholeNode t.node =
      subst (λ e. IsWhole work.budget e t.node.phase) (sym same.executed)
      (subst (λ p. IsWhole work.budget n.executed p) (sym same.phase) h) in
      subst IsWholeNode (sym (byes_node work.layout.nodes (after_message work n j wire) _))
      (goes_whole t.node t.node.phase refl whole)

  take_whole : (c : Core) (i k j : ℕ) (wires : List Wire) → IsWholeNode (c.nodes i)
      → IsWholeNode (c.nodes k) → IsWholeNode ((take_first work c k j wires).nodes i)
  take_whole c i k j [] h g = h
  take_whole c i k j (wire ∷ rest) h g =
      either_is_whole (eqb i k) (take_turn work (c.nodes k) j wire).node (c.nodes i)
      (message_whole (c.nodes k) j wire g) h

  pub stopped : (es : List Event) (c : Core) → ((i : ℕ) → IsWholeNode (c.nodes i)) → (i : ℕ)
      → IsWholeNode ((after work c es).nodes i)
  stopped [] c h i = h i
  stopped (Exec k ∷ es) c h i =
      stopped es (event_step work c (Exec k)) (λ x.
      either_is_whole (eqb x k) (word_turn work (c.nodes k)).node (c.nodes x)
      (word_whole (c.nodes k)) (h x)) i
  stopped (Take k j ∷ es) c h i =
      stopped es (event_step work c (Take k j)) (λ x.
      take_whole c x k j (c.list j k) (h x) (h k)) i
