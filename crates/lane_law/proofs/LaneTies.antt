-- A node's turn, where it has several processors, beside what the turn changes of the node's blocks
-- and of the lists: it is a turn of the node as one of its lanes sees it.
use Rattle.std.proofs.Common.{◌≡◌, ℕ, ◌<◌, cond, eqb, Bool, true, false, List, [], ◌∷◌, ◌++◌, Option, Some, None, refl, sym, ap, ◌∙◌, subst}
use Rattle.std.specs.Prelude.{is_some, unwrap_or, ◌||◌}
use Rattle.std.specs.Option.{option_map_or, option_to_list}
use Rattle.lane_law.proofs.Names.{Shape, block_of, Need, Read, Write, Wait, line_of, is_in_block, PlanEntry, wanted, NodeCounts, Work, NodeMemory, Want, Turn, want_in, Core, LanePart, LaneNode, as_node, shared_by, LaneTurn, Asked, is_beyond, exceeds, ask, ask_all, blocks_of, still, LaneCore, with_turn}
use Rattle.rewriting_law.proofs.templates.RegisterLemmas.{equal}
use Rattle.rewriting_law.proofs.one_memory.Sharing.{with_local}
use Rattle.rewriting_law.proofs.one_memory.Pending.{wanted_in, is_pending, pending}
use Rattle.rewriting_law.proofs.protocol_side.ProtocolSide.{Handled}
use Rattle.rewriting_law.proofs.protocol_side.Directory.{Rest, directory}
use Rattle.rewriting_law.proofs.protocol_side.DirectorySide.{is_waiting}
use Rattle.rewriting_law.proofs.runs.TurnTies.{rest_of, SameRest, IsTurn, own_wait, AllFound, want_turned}
use Rattle.lane_law.proofs.LaneWants as wants

-- 1. A core as one lane of each node sees it

abbrev pub view : LaneCore → (k : ℕ) → Core
view c k = record { nodes = λ i. as_node (c.nodes i) k; list = c.list }

module _ (c : LaneCore) (i k : ℕ) where
  -- the node of this turn, with these lanes, reservations, holders and counts
  abbrev pub turned_node : Turn → (ℕ → LanePart) → (ℕ → Option ℕ) → (ℕ → ℕ) → NodeCounts → LaneNode
  turned_node t lanes reserved holder counts = record {
    lanes = lanes;
    shared = shared_by (record t.node { counts = counts }) reserved holder;
  }

  abbrev pub lane_turn : Turn → (ℕ → LanePart) → (ℕ → Option ℕ) → (ℕ → ℕ) → NodeCounts → Option ℕ
      → LaneTurn
  lane_turn t lanes reserved holder counts printed = record {
    node = turned_node t lanes reserved holder counts;
    sends = t.sends;
    printed = printed;
  }

  -- what nodes keep of blocks, and the lists, after the turn
  pub rest_then : (t : Turn) (u : Handled Rest) (lanes : ℕ → LanePart) (reserved : ℕ → Option ℕ)
      (holder : ℕ → ℕ) (counts : NodeCounts) (printed : Option ℕ) → IsTurn (view c k) i t u
      → SameRest u.rest
      (rest_of (view (with_turn c i (lane_turn t lanes reserved holder counts printed)) 0))
  rest_then t u lanes reserved holder counts printed h =
      let n = turned_node t lanes reserved holder counts in
      record {
        entry = λ x. (elim (eqb x i)
            as (λ z. (cond z n (c.nodes x)).shared.entry
            ≡ (cond z t.node (as_node (c.nodes x) k)).entry) [
              | true ↦ refl
              | false ↦ refl
            ]) ∙ h.rest.entry x;
        waiting = λ x. (elim (eqb x i)
            as (λ z. (cond z n (c.nodes x)).shared.waiting
            ≡ (cond z t.node (as_node (c.nodes x) k)).waiting) [
              | true ↦ refl
              | false ↦ refl
            ]) ∙ h.rest.waiting x;
        occupancy = λ x. (elim (eqb x i)
            as (λ z. (cond z n (c.nodes x)).shared.occupancy
            ≡ (cond z t.node (as_node (c.nodes x) k)).occupancy) [
              | true ↦ refl
              | false ↦ refl
            ]) ∙ h.rest.occupancy x;
        wait = λ x. (elim (eqb x i)
            as (λ z. (cond z n (c.nodes x)).shared.wait
            ≡ (cond z t.node (as_node (c.nodes x) k)).wait) [
              | true ↦ refl
              | false ↦ refl
            ]) ∙ h.rest.wait x;
        list = λ x y. h.rest.list x y;
      }

-- 2. Wants

beyond_same : (have need : Need) → is_beyond have need ≡ wants.exceeds (Some have) need
beyond_same Read Read = refl
beyond_same Read Write = refl
beyond_same Write Read = refl
beyond_same Write Write = refl

exceeds_same : (o : Option Wait) (need : Need) → exceeds o need ≡ wants.exceeds (wanted o) need
exceeds_same None need = refl
exceeds_same (Some x) need = beyond_same x.need need

module _ (layout : Shape) (work : Work) (processors : ℕ) (node_of : ℕ → ℕ)
    (placed : (p : ℕ) → p < processors → node_of p < work.layout.nodes) (plan : List PlanEntry)
    (c : Core) (i : ℕ) where
  abbrev pub LaneAsked : Type 0
  LaneAsked = wants.Asked layout work processors node_of placed plan (directory layout)

  -- what a node has asked for, and what it changes
  pub record IsAsked (t : Asked) (u : LaneAsked) : Type 0 where
    pub turned : IsTurn c i t.turn u.handled
    pub again : t.again ≡ u.again

  abbrev block_wanted : Want → ℕ
  block_wanted w =
      wants.block_wanted layout work processors node_of placed plan (directory layout) w

  abbrev ask_lane : (ℕ → NodeMemory) → LaneAsked → Want → LaneAsked
  ask_lane locals u w =
      wants.ask layout work processors node_of placed plan (directory layout) locals i u w

  ask_turned : (locals : ℕ → NodeMemory) (t : Asked) (u : LaneAsked) (w : Want)
      → block_of layout (line_of w.at) ≡ Some (block_wanted w) → IsAsked t u
      → IsAsked (ask layout w.need (block_of layout (line_of w.at)) t) (ask_lane locals u w)
  ask_turned locals t u w is h =
      subst (λ o. IsAsked (ask layout w.need o t) (ask_lane locals u w)) (sym is) (record {
        turned = subst (λ s. IsTurn c i (cond s t.turn (want_in layout t.turn w.need (Some b)))
            (ask_lane locals u w).handled) (sym some) (by (is_some waits));
        again = ap (λ x. x || exceeds (t.turn.node.wait b) w.need) h.again
            ∙ ap (λ x. u.again || x) (exceeds_same (t.turn.node.wait b) w.need
            ∙ ap (λ o. wants.exceeds (wanted o) w.need) same);
      })
    where
      b : ℕ
      b = block_wanted w

      waits : Option Need
      waits = wanted (u.handled.rest.wait i b)

      same : t.turn.node.wait b ≡ u.handled.rest.wait i b
      same = ap (λ (f : ℕ → Option Wait). f b) (own_wait c i t.turn u.handled h.turned)

      some : is_some (t.turn.node.wait b) ≡ is_some waits
      some = is_waiting (t.turn.node.wait b) ∙ ap (λ o. is_some (wanted o)) same

      by : (s : Bool) → IsTurn c i (cond s t.turn (want_in layout t.turn w.need (Some b)))
          (cond s u.handled ((directory layout).want (with_local locals i u.handled.local)
          u.handled.rest i b w.need))
      by true = h.turned
      by false = want_turned c i layout locals t.turn u.handled b w.need h.turned

  pub asks_turned : (locals : ℕ → NodeMemory) (ws : List Want) (t : Asked) (u : LaneAsked)
      → AllFound c i layout ws → IsAsked t u → IsAsked (ask_all layout ws t)
      (wants.ask_all layout work processors node_of placed plan (directory layout) locals i u ws)
  asks_turned locals [] t u found h = h
  asks_turned locals (w ∷ ws) t u found h =
      let is : block_of layout (line_of w.at) ≡ Some (block_wanted w) =
      found.0.1 ∙ ap (λ o. Some (unwrap_or o 0)) (sym found.0.1) in
      asks_turned locals ws (ask layout w.need (block_of layout (line_of w.at)) t)
      (ask_lane locals u w) found.1 (ask_turned locals t u w is h)

  -- 3. The blocks that a lane waits for

  -- where each want's block is waited for, all are
  pub all_still : (wait : ℕ → Option Wait) (ws : List Want) → AllFound c i layout ws
      → ((b : ℕ) (need : Need) → wanted_in layout b ws ≡ Some need → is_some (wait b) ≡ true)
      → still wait (blocks_of layout ws) ≡ blocks_of layout ws
  all_still wait [] found h = refl
  all_still wait (w ∷ ws) found h =
      let b = found.0.0 in
      let within : is_in_block layout b w.at ≡ true =
      ap (λ o. option_map_or (λ d. eqb d b) o false) found.0.1 ∙ equal b b refl in
      let here : is_some (wait b) ≡ true =
      h b w.need (ap (λ z. cond z (Some w.need) (wanted_in layout b ws)) within) in
      let rest = all_still wait ws found.1 (λ d need e. tail d need (is_in_block layout d w.at) refl e)
      in
      ap (λ o. still wait (option_to_list o ++ blocks_of layout ws)) found.0.1
      ∙ ap (λ z. cond z (b ∷ still wait (blocks_of layout ws)) (still wait (blocks_of layout ws)))
      here ∙ ap (λ bs. b ∷ bs) rest
      ∙ ap (λ o. option_to_list o ++ blocks_of layout ws) (sym found.0.1)
    where
      tail : (d : ℕ) (need : Need) (t : Bool) → is_in_block layout d w.at ≡ t
          → wanted_in layout d ws ≡ Some need → is_some (wait d) ≡ true
      tail d need true f e = h d w.need (ap (λ z. cond z (Some w.need) (wanted_in layout d ws)) f)
      tail d need false f e =
          h d need (ap (λ z. cond z (Some w.need) (wanted_in layout d ws)) f ∙ e)

  -- those that are left are those of the wants that are pending
  pub still_pending : (wait : ℕ → Option Wait) (needs : ℕ → Option Need)
      → ((b : ℕ) → is_some (wait b) ≡ is_some (needs b)) → (ws : List Want)
      → AllFound c i layout ws
      → still wait (blocks_of layout ws) ≡ blocks_of layout (pending layout needs ws)
  still_pending wait needs same [] found = refl
  still_pending wait needs same (w ∷ ws) found =
      let rest = still_pending wait needs same ws found.1 in
      let is : is_pending layout needs w ≡ is_some (wait b) =
      ap (λ o. option_map_or (λ d. is_some (needs d)) o false) found.0.1 ∙ sym (same b) in
      ap (λ o. still wait (option_to_list o ++ blocks_of layout ws)) found.0.1
      ∙ go (is_some (wait b)) rest
      ∙ ap (λ z. blocks_of layout (cond z (w ∷ pending layout needs ws) (pending layout needs ws)))
      (sym is)
    where
      b : ℕ
      b = found.0.0

      go : (z : Bool)
          → still wait (blocks_of layout ws) ≡ blocks_of layout (pending layout needs ws)
          → cond z (b ∷ still wait (blocks_of layout ws)) (still wait (blocks_of layout ws))
          ≡ blocks_of layout (cond z (w ∷ pending layout needs ws) (pending layout needs ws))
      go true e = ap (λ bs. b ∷ bs) e
          ∙ ap (λ o. option_to_list o ++ blocks_of layout (pending layout needs ws)) (sym found.0.1)
      go false e = e
