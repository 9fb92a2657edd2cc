-- A core of nodes of several processors beside the one memory: what holds between two events, and
-- what a node's turn leaves of it.
use Rattle.std.proofs.Common.{◌≡◌, ℕ, ◌<◌, ◌⊎◌, cond, eqb, Bool, true, false, List, ◌∷◌, ◌++◌, Option, refl, sym, ap, ◌∙◌, subst, Some}
use Rattle.lane_law.proofs.Names.{Shape, changed, Need, Wait, End, Exited, Stopped, Original, State, PlanEntry, wanted, NodeCounts, Work, ProcessorState, NodeMemory, Running, Resumed, Waiting, Ended, Turn, byes_to, LaneWork, LanePart, LaneNode, local_of, processors, node_of, lane_of, processor_of, LaneTurn, blocks_of, with_byes, LaneCore, with_turn}
use Rattle.rewriting_law.proofs.templates.RegisterLemmas.{equal, apart}
use Rattle.rewriting_law.proofs.one_memory.Sharing.{IsReadable, with_local, is_same}
use Rattle.rewriting_law.proofs.one_memory.Messages.{AreLaidOut}
use Rattle.rewriting_law.proofs.protocol_side.ProtocolSide.{Handled, Protocol, ProtocolSide}
use Rattle.rewriting_law.proofs.protocol_side.Spending.{Counts}
use Rattle.rewriting_law.proofs.protocol_side.Directory.{Rest, directory}
use Rattle.rewriting_law.proofs.protocol_side.DirectorySide.{Layout, Held, laid_out, directory_side}
use Rattle.rewriting_law.proofs.runs.TurnTies.{rest_at, IsTurn}
use Rattle.rewriting_law.proofs.runs.Behind.{held_like, counting, byes_behind}
use Rattle.lane_law.proofs.LaneCode.{LaneCode}
use Rattle.lane_law.proofs.LaneNumbers.{placed, same_processor}
use Rattle.rewriting_law.proofs.one_memory.SharedWords.{original, seen}
use Rattle.lane_law.proofs.LaneWants.{IsCovered}
use Rattle.lane_law.proofs.LaneMatching.{Doing, Runs, Awaits, HasEnded, Matches, StandsIn, IsHeld, again_in}
use Rattle.lane_law.proofs.LaneTies.{view, lane_turn, turned_node, rest_then}

-- nodes by processor
module _ (w : LaneWork) (nodes : ℕ → LaneNode) where
  abbrev pub part_in : (p : ℕ) → LanePart
  part_in p = (nodes (node_of w p)).lanes (lane_of w p)

  abbrev pub lanes_in : (p : ℕ) → ProcessorState
  lanes_in p = (part_in p).lane

  abbrev pub reserved_in : (p : ℕ) → Option ℕ
  reserved_in p = (nodes (node_of w p)).shared.reservation (lane_of w p)

  abbrev pub holder_in : (i b : ℕ) → ℕ
  holder_in i b = processor_of w i ((nodes i).shared.holder b)

-- a node's part, with whatever reservation
abbrev pub locals_in : (ℕ → LaneNode) → ℕ → NodeMemory
locals_in nodes i = local_of (nodes i).shared 0

module _ (w : LaneWork) (plan : List PlanEntry) (lay : Layout w.work) (some : 0 < w.lanes)
    (code : LaneCode w.work.layout w.work (processors w) plan) where
  abbrev pub layout : Shape
  layout = w.work.layout

  abbrev pub work : Work
  work = w.work

  abbrev pub at_node : (p : ℕ) → p < processors w → node_of w p < work.layout.nodes
  at_node = placed w some

  abbrev pub protocol : Protocol
  protocol = directory layout

  abbrev pub side : ProtocolSide layout work protocol
  side = directory_side work lay

  abbrev pub laid : AreLaidOut layout work
  laid = laid_out work lay

  abbrev pub one : Original
  one = original layout work (processors w) (node_of w) at_node

  -- one that is stopped has executed so many words
  abbrev pub HasSpent : End → ℕ → Type 0
  HasSpent (Stopped budget) words = words ≡ work.budget
  HasSpent (Exited e) words = Unit {0}

  -- how a lane is, by what its processor does
  abbrev pub IsPart : Doing → LanePart → Type 0
  IsPart Runs x = (x.phase ≡ Running) ⊎ (x.phase ≡ Resumed)
  IsPart (Awaits resume want more again) x =
      (x.phase ≡ Waiting resume) × (x.awaits ≡ blocks_of layout (want ∷ more)) × (x.again ≡ again)
  IsPart (HasEnded end) x = (x.phase ≡ Ended end) × HasSpent end x.executed

  abbrev pub MatchesHere : (ℕ → ProcessorState) → (ℕ → Doing) → (ℕ → NodeMemory) → (ℕ → Option ℕ) → Rest
      → (ℕ → ℕ → ℕ) → State → Type 0
  MatchesHere lanes doing locals reserved rest holder s =
      Matches layout work (processors w) (node_of w) at_node plan code protocol side laid lanes doing
      locals reserved rest holder s

  pub record MatchesCore (c : LaneCore) (s : State) : Type 0 where
    pub doing : ℕ → Doing
    pub parts : (p : ℕ) → p < processors w → IsPart (doing p) (part_in w c.nodes p)
    pub numbers : (i : ℕ) → i < layout.nodes → (c.nodes i).shared.me ≡ i
    -- what was wanted and taken so far
    pub counts : Counts
    pub matches : MatchesHere (lanes_in w c.nodes) doing (locals_in c.nodes) (reserved_in w c.nodes)
        (rest_at counts (view c 0)) (holder_in w c.nodes) s

  -- the same, stored otherwise
  module _ (lanes lanes' : ℕ → ProcessorState) (doing : ℕ → Doing) (locals locals' : ℕ → NodeMemory)
      (reserved reserved' : ℕ → Option ℕ) (old new : Rest) (holder holder' : ℕ → ℕ → ℕ) (s : State)
      (m : MatchesHere lanes doing locals reserved old holder s)
      (same_lanes : (p : ℕ) → p < processors w → lanes' p ≡ lanes p)
      (copies : (x : ℕ) → (locals' x).copy ≡ (locals x).copy)
      (states : (x : ℕ) → (locals' x).state ≡ (locals x).state)
      (same_reserved : (p : ℕ) → p < processors w → reserved' p ≡ reserved p)
      (held : Held work lay locals' new s.shared)
      (waits : (x b : ℕ) → wanted (new.wait x b) ≡ wanted (old.wait x b))
      (holders : (x b : ℕ) (need : Need) → x < layout.nodes → wanted (old.wait x b) ≡ Some need
      → holder' x b ≡ holder x b) where
    abbrev sees : (ℕ → NodeMemory) → (ℕ → Option ℕ) → ℕ → NodeMemory
    sees ls rs p = seen layout work (processors w) (node_of w) at_node ls rs p

    same_seen : (p : ℕ) → p < processors w → sees locals' reserved' p ≡ sees locals reserved p
    same_seen p low =
        let i = node_of w p in
        ap (λ f. record { copy = f; state = (locals' i).state; reservation = reserved' p })
        (copies i)
        ∙ ap (λ f. record { copy = (locals i).copy; state = f; reservation = reserved' p })
        (states i)
        ∙ ap (λ o. record { copy = (locals i).copy; state = (locals i).state; reservation = o })
        (same_reserved p low)

    pub matches_like : MatchesHere lanes' doing locals' reserved' new holder' s
    matches_like = record {
      shares = record {
        held = held;
        reservations = λ p low. same_reserved p low ∙ m.shares.reservations p low;
        readable = λ p low. subst (IsReadable layout work) (sym (same_seen p low))
            (m.shares.readable p low);
      };
      stands = λ p low. subst (λ l. StandsIn layout work (processors w) (node_of w) at_node plan code
          protocol side laid (doing p) (s.processors p) l (sees locals' reserved' p))
          (sym (same_lanes p low))
          (subst (StandsIn layout work (processors w) (node_of w) at_node plan code protocol side laid
          (doing p) (s.processors p) (lanes p)) (sym (same_seen p low)) (m.stands p low));
      held = λ i b need low e. subst (IsHeld layout work (processors w) (node_of w) at_node plan code
          protocol side laid doing i b need) (sym (holders i b need low (sym (waits i b) ∙ e)))
          (m.held i b need low (sym (waits i b) ∙ e));
      covered = λ p b need low e. subst (λ o. IsCovered o need (again_in layout work (processors w)
          (node_of w) at_node plan code protocol side laid (doing p))) (sym (waits (node_of w p) b))
          (m.covered p b need low e);
    }

  -- node i has changed by a turn, as lane k sees it
  module _ (c : LaneCore) (i k : ℕ) (t : Turn) (lanes : ℕ → LanePart) (reserved : ℕ → Option ℕ)
      (holder : ℕ → ℕ) (counts : NodeCounts) (printed : Option ℕ) where
    abbrev pub node_then : LaneNode
    node_then = turned_node c i k t lanes reserved holder counts

    abbrev pub nodes_then : ℕ → LaneNode
    nodes_then = changed c.nodes i node_then

    abbrev pub turn_then : LaneTurn
    turn_then = lane_turn c i k t lanes reserved holder counts printed

  -- what holds of nodes after a turn, whatever was sent in it
  pub record LeavesNodes (nodes : ℕ → LaneNode) (u : Handled Rest) (before : ℕ → LaneNode) (i : ℕ)
      (s : State) : Type 0 where
    pub doing : ℕ → Doing
    pub lanes : ℕ → ProcessorState
    pub locals : ℕ → NodeMemory
    pub reserved : ℕ → Option ℕ
    pub holder : ℕ → ℕ → ℕ
    pub matches : MatchesHere lanes doing locals reserved u.rest holder s
    pub parts : (p : ℕ) → p < processors w → IsPart (doing p) (part_in w nodes p)
    pub numbers : (x : ℕ) → x < layout.nodes → (nodes x).shared.me ≡ x
    pub same_lanes : (p : ℕ) → p < processors w → lanes_in w nodes p ≡ lanes p
    pub same_reserved : (p : ℕ) → p < processors w → reserved_in w nodes p ≡ reserved p
    pub holders : (x b : ℕ) (need : Need) → x < layout.nodes
        → wanted (u.rest.wait x b) ≡ Some need → holder_in w nodes x b ≡ holder x b
    pub here : (x : ℕ) → locals x ≡ with_local (locals_in before) i u.local x

  module _ (c : LaneCore) (i k : ℕ) (u : Handled Rest) (s : State) where
    -- the nodes' parts
    parts_after : (t : Turn) (lanes : ℕ → LanePart) (reserved : ℕ → Option ℕ) (holder : ℕ → ℕ)
        (counts : NodeCounts) (printed : Option ℕ) (v : Handled Rest) → IsTurn (view c k) i t v
        → v.local ≡ u.local → (x : ℕ)
        → (((locals_in (nodes_then c i k t lanes reserved holder counts printed) x).copy
        ≡ (with_local (locals_in c.nodes) i u.local x).copy)
        × ((locals_in (nodes_then c i k t lanes reserved holder counts printed) x).state
        ≡ (with_local (locals_in c.nodes) i u.local x).state))
    parts_after t lanes reserved holder counts printed v h same x =
        let n = node_then c i k t lanes reserved holder counts printed in
        (elim (eqb x i) as (λ z. ((local_of (cond z n (c.nodes x)).shared 0).copy
        ≡ (cond z u.local (locals_in c.nodes x)).copy)
        × ((local_of (cond z n (c.nodes x)).shared 0).state
        ≡ (cond z u.local (locals_in c.nodes x)).state)) [
          | true ↦ (
            ap (λ (y : NodeMemory). y.copy) (h.local ∙ same),
            ap (λ (y : NodeMemory). y.state) (h.local ∙ same),
          )
          | false ↦ (refl, refl)
        ])

    -- with what it sent in all
    core_plain : (t : Turn) (lanes : ℕ → LanePart) (reserved : ℕ → Option ℕ) (holder : ℕ → ℕ)
        (counts : NodeCounts) (printed : Option ℕ) (v : Handled Rest) → IsTurn (view c k) i t v
        → v.local ≡ u.local → ((x b : ℕ) → v.rest.wait x b ≡ u.rest.wait x b)
        → v.rest.counts ≡ u.rest.counts
        → ((locals : ℕ → NodeMemory) (memory : ℕ → ℕ) → Held work lay locals u.rest memory
        → Held work lay locals v.rest memory)
        → LeavesNodes (nodes_then c i k t lanes reserved holder counts printed) u c.nodes i s
        → MatchesCore (with_turn c i (turn_then c i k t lanes reserved holder counts printed)) s
    core_plain t lanes reserved holder counts printed v h same waits counted held l =
        let c' = with_turn c i (turn_then c i k t lanes reserved holder counts printed) in
        let ls = locals_in c'.nodes in
        let rest = rest_at u.rest.counts (view c' 0) in
        let turned = rest_then c i k t v lanes reserved holder counts printed h in
        let parts = parts_after t lanes reserved holder counts printed v h same in
        let copies : (x : ℕ) → (ls x).copy ≡ (l.locals x).copy =
        λ x. (parts x).0 ∙ ap (λ (y : NodeMemory). y.copy) (sym (l.here x)) in
        let states : (x : ℕ) → (ls x).state ≡ (l.locals x).state =
        λ x. (parts x).1 ∙ ap (λ (y : NodeMemory). y.state) (sym (l.here x)) in
        record {
          doing = l.doing;
          parts = l.parts;
          numbers = l.numbers;
          counts = u.rest.counts;
          matches = matches_like l.lanes (lanes_in w c'.nodes) l.doing l.locals ls l.reserved
              (reserved_in w c'.nodes) u.rest rest l.holder (holder_in w c'.nodes) s l.matches
              l.same_lanes copies states l.same_reserved
              (held_like work lay ls ls v.rest rest s.shared (λ x. refl)
              (counting work lay v.rest (view c' 0) u.rest.counts turned) (sym counted)
              (held ls s.shared
              (side.like l.locals ls u.rest s.shared (λ x. sym (copies x)) (λ x. sym (states x))
              l.matches.shares.held)))
              (λ x b. ap (λ (f : ℕ → Option Wait). wanted (f b)) (turned.wait x)
              ∙ ap wanted (waits x b)) l.holders;
        }

    -- and with its Byes
    pub core_then : (t : Turn) (lanes : ℕ → LanePart) (reserved : ℕ → Option ℕ) (holder : ℕ → ℕ)
        (counts : NodeCounts) (printed : Option ℕ) (ends : Bool) → IsTurn (view c k) i t u
        → LeavesNodes (nodes_then c i k t lanes reserved holder counts printed) u c.nodes i s
        → MatchesCore (with_turn c i (with_byes layout.nodes
        (turn_then c i k t lanes reserved holder counts printed) ends)) s
    core_then t lanes reserved holder counts printed false h l =
        core_plain t lanes reserved holder counts printed u h refl (λ x b. refl) refl
        (λ locals memory g. g) l
    core_then t lanes reserved holder counts printed true h l =
        let b = byes_behind work lay (view c k) i t u true h in
        core_plain (record t { sends = t.sends ++ byes_to layout.nodes }) lanes reserved holder counts
        printed b.left b.turned b.local b.waits b.counts b.held l

    -- what was counted is what the protocol counted
    pub core_counts : (t : Turn) (lanes : ℕ → LanePart) (reserved : ℕ → Option ℕ)
        (holder : ℕ → ℕ) (counts : NodeCounts) (printed : Option ℕ) (ends : Bool)
        (h : IsTurn (view c k) i t u)
        (l : LeavesNodes (nodes_then c i k t lanes reserved holder counts printed) u c.nodes i s)
        → (core_then t lanes reserved holder counts printed ends h l).counts ≡ u.rest.counts
    unfolding core_then core_plain
    core_counts t lanes reserved holder counts printed false h l = refl
    core_counts t lanes reserved holder counts printed true h l = refl

  -- 2. One lane of a node has changed

  module _ (nodes : ℕ → LaneNode) (p : ℕ) (n : LaneNode) where
    -- what is kept by lane, where lane k's is another
    pub by_lane : {A : Type 0} (field : LaneNode → ℕ → A) (value : A) (others : ℕ → A)
        → ((j : ℕ) → field n j ≡ cond (eqb j (lane_of w p)) value (others j)) → (q : ℕ)
        → field (changed nodes (node_of w p) n (node_of w q)) (lane_of w q) ≡ cond (eqb q p) value
        (cond (eqb (node_of w q) (node_of w p)) (others (lane_of w q))
        (field (nodes (node_of w q)) (lane_of w q)))
    by_lane field value others is q = go (eqb (node_of w q) (node_of w p)) refl
      where
        old : LaneNode
        old = nodes (node_of w q)

        not_there : (node_of w q ≡ node_of w p → lane_of w q ≡ lane_of w p → ⊥) → eqb q p ≡ false
        not_there h = apart q p (λ e. h (ap (node_of w) e) (ap (lane_of w) e))

        go : (z : Bool) → eqb (node_of w q) (node_of w p) ≡ z → field (cond z n old) (lane_of w q)
            ≡ cond (eqb q p) value (cond z (others (lane_of w q)) (field old (lane_of w q)))
        go false e =
            ap (λ t. cond t value (field old (lane_of w q))) (sym (not_there (λ at lane.
            let bad : false ≡ true = sym e ∙ equal (node_of w q) (node_of w p) at in cc)))
        go true e = is (lane_of w q) ∙ within (eqb (lane_of w q) (lane_of w p)) refl
          where
            at : node_of w q ≡ node_of w p
            at = is_same (node_of w q) (node_of w p) e

            within : (y : Bool) → eqb (lane_of w q) (lane_of w p) ≡ y
                → cond y value (others (lane_of w q)) ≡ cond (eqb q p) value (others (lane_of w q))
            within true f =
                ap (λ t. cond t value (others (lane_of w q)))
                (sym (equal q p (same_processor w some q p at
                (is_same (lane_of w q) (lane_of w p) f))))
            within false f =
                ap (λ t. cond t value (others (lane_of w q))) (sym (not_there (λ at lane.
                let bad : false ≡ true = sym f ∙ equal (lane_of w q) (lane_of w p) lane in cc)))
