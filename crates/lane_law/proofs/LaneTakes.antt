-- A message that a node of several processors takes, in a core: it leads to the core after it by the
-- breaks that it makes.
use Rattle.std.proofs.Common.{◌≡◌, ℕ, zero, suc, ◌<◌, cond, eqb, Bool, true, false, List, [], ◌∷◌, ◌++◌, Option, Some, None, refl, sym, ap, ◌∙◌, subst, inl, inr, ◌+◌, ◌≤◌, arith}
use Rattle.std.specs.Prelude.{is_some, not, ◌&&◌, if◌then◌else◌}
use Rattle.std.specs.Option.{option_to_list}
use Rattle.lane_law.proofs.Names.{Need, Wire, Wait, Row, row_of, taker_in, is_bye, Stopped, line_of, Processor, State, Pick, run, PlanEntry, wanted, Node, ProcessorState, NodeMemory, Want, Resume, Resumed, Waiting, Ended, lane_resumed, stop_or, Turn, holding, Order, order_by, order_of, break_by, messages_of, LaneWork, LanePart, LaneNode, local_of, as_node, processors, node_of, lane_of, processor_of, blocks_of, still, resume_part, resumed, counted, held_by, journaled, handled_for, have_ended, after_message, LaneCore, with_list, take_first, held_order, picks_of_take}
use Rattle.dsm_protocol.specs.Events.{row_of as row_at}
use Rattle.dsm_protocol.proofs.ProtocolSide as world
use Rattle.rewriting_law.proofs.one_memory.Messages.{cleared_by}
use Rattle.rewriting_law.proofs.one_memory.Sharing.{with_local, is_same}
use Rattle.rewriting_law.proofs.one_memory.Pending.{AllSought, is_pending, pending}
use Rattle.rewriting_law.proofs.protocol_side.ProtocolSide.{Handled}
use Rattle.rewriting_law.proofs.protocol_side.Spending.{Counts}
use Rattle.rewriting_law.proofs.progress.Short.{took_counts, took_one}
use Rattle.rewriting_law.proofs.protocol_side.Directory.{Rest, world_of, took, take_from, order_from, is_some_list}
use Rattle.rewriting_law.proofs.protocol_side.DirectorySide.{Layout, Held, is_waiting}
use Rattle.rewriting_law.proofs.runs.Turns.{handled_same}
use Rattle.rewriting_law.proofs.runs.TurnTies.{rest_at, IsTurn, own_wait, AllFound, message_turned}
use Rattle.lane_law.specs.Picks as picks
use Rattle.lane_law.proofs.LaneCode.{LaneCode}
use Rattle.lane_law.proofs.LaneMessages as messages
use Rattle.lane_law.proofs.LaneMatching as matching
use Rattle.lane_law.proofs.LaneTaking as taking
use Rattle.lane_law.proofs.LaneMatching.{Doing, Runs, Awaits, HasEnded, StandsIn}
use Rattle.lane_law.proofs.LaneDirectory as directory
use Rattle.lane_law.proofs.LaneTies.{view, still_pending}
use Rattle.lane_law.proofs.LaneCores.{part_in, lanes_in, reserved_in, holder_in, locals_in, at_node, protocol, side, laid, one, IsPart, MatchesCore, LeavesNodes, nodes_then, core_then, core_counts}
use Rattle.lane_law.proofs.LaneWords.{LeadsTo}

-- what taking a message counts: the message, unless it is a Bye
abbrev pub TakeCounts : (bye : Bool) → (old new : Counts) → Type 0
TakeCounts bye old new = (new.asked ≡ old.asked) × (old.taken + cond bye 0 1 ≤ new.taken)

-- the first of these messages is a Bye
abbrev pub bye_first : List Wire → Bool
bye_first [] = false
bye_first (v ∷ vs) = is_bye v.message

module _ (w : LaneWork) (plan : List PlanEntry) (lay : Layout w.work) (some : 0 < w.lanes)
    (code : LaneCode w.work.layout w.work (processors w) plan) where
  abbrev there : (q : ℕ) → q < processors w → node_of w q < w.work.layout.nodes
  there = at_node w plan lay some code

  abbrev pub MayTake : Doing → ProcessorState → Type 0
  MayTake = taking.MayTake w.work.layout w.work (processors w) (node_of w) there plan code
      (protocol w plan lay some code) (side w plan lay some code) (laid w plan lay some code)

  -- the first message from node j to node i takes something away
  abbrev pub lowers : Rest → (i j : ℕ) → Bool
  lowers = directory.lowers w.work lay (processors w) (node_of w) there plan code

  module _ (c : LaneCore) (s : State) (m : MatchesCore w plan lay some code c s) (i j : ℕ)
      (below : i < w.work.layout.nodes) (low : j < w.work.layout.nodes) (wire : Wire)
      (wires : List Wire) (front : c.list j i ≡ wire ∷ wires)
      (may : (p : ℕ) → p < processors w → node_of w p ≡ i
      → lowers (rest_at m.counts (view c 0)) i j ≡ true
      → MayTake (m.doing p) (lanes_in w c.nodes p)) where
    abbrev x : LaneNode
    x = c.nodes i

    abbrev rest : Rest
    rest = rest_at m.counts (view c 0)

    abbrev lanes : ℕ → ProcessorState
    lanes = lanes_in w c.nodes

    abbrev locals : ℕ → NodeMemory
    locals = locals_in c.nodes

    abbrev reserved : ℕ → Option ℕ
    reserved = reserved_in w c.nodes

    abbrev holder : ℕ → ℕ → ℕ
    holder = holder_in w c.nodes

    abbrev c1 : LaneCore
    c1 = with_list c j i wires

    -- 1. The message, as lane k sees the node

    abbrev n1 : (k : ℕ) → Node
    n1 k = journaled w x k j wire

    abbrev t : (k : ℕ) → Turn
    t k = handled_for w x j wire k

    abbrev locals_for : (k : ℕ) → ℕ → NodeMemory
    locals_for k y = local_of (c.nodes y).shared k

    abbrev taken_for : (k : ℕ) → Handled Rest
    taken_for k = (protocol w plan lay some code).take (locals_for k) rest i j

    row_taken : (k : ℕ) → took w.work.layout (local_of x.shared k) rest i j (messages_of wires)
        (row_of w.work.layout (n1 k).me (holding w.work.layout (n1 k)) j wire.message) ≡ taken_for k
    row_taken k =
        ap (λ me. took w.work.layout (local_of x.shared k) rest i j (messages_of wires)
        (row_of w.work.layout me (holding w.work.layout (n1 k)) j wire.message)) (m.numbers i below)
        ∙ ap (λ xs. take_from w.work.layout (locals_for k) rest i j (messages_of xs)) (sym front)

    turned : (k : ℕ) → IsTurn (view c1 k) i (t k) (taken_for k)
    turned k =
        subst (IsTurn (view c1 k) i (t k)) (row_taken k)
        (message_turned (view c1 k) i w.work.layout m.counts c.list j wires (λ y z. refl) (n1 k)
        (record {
          local = refl;
          entry = refl;
          waiting = refl;
          occupancy = refl;
          wait = refl;
        }) wire.message)

    abbrev n : Node
    n = (t 0).node

    abbrev taken : Handled Rest
    taken = taken_for 0

    abbrev wait_then : ℕ → Option Need
    wait_then = (protocol w plan lay some code).wait taken.rest i

    waited : (b : ℕ) → is_some (n.wait b) ≡ is_some (wait_then b)
    waited b = is_waiting (n.wait b) ∙ ap (λ (f : ℕ → Option Wait). is_some (wanted (f b)))
        (own_wait (view c1 0) i (t 0) taken (turned 0))

    has : is_some_list w.work.layout (messages_of (c.list j i)) ≡ true
    has = ap (λ xs. is_some_list w.work.layout (messages_of xs)) front

    -- 2. Reservations

    abbrev order : Option Order
    order = (protocol w plan lay some code).order locals rest i j

    same_block : (o : Option Order) (a : Option ℕ)
        → cleared_by w.work.layout o a ≡ cleared_by w.work.layout (held_order holder o) a
    same_block None a = refl
    same_block (Some y) a = refl

    held_for : (k : ℕ) → Held w.work lay (locals_for k) rest s.shared
    held_for k = (side w plan lay some code).like locals (locals_for k) rest s.shared (λ y. refl)
        (λ y. refl) m.matches.shares.held

    reserved_for : (k : ℕ) → (t k).node.local.reservation
        ≡ cleared_by w.work.layout (held_order holder order) (x.shared.reservation k)
    reserved_for k =
        let left = (side w plan lay some code).takes (locals_for k) rest s.shared (held_for k) i j
        below low has in
        ap (λ (y : NodeMemory). y.reservation) (turned k).local ∙ left.reservation
        ∙ same_block order (x.shared.reservation k)

    -- 3. Lanes

    abbrev executed : ℕ → ℕ
    executed p = (part_in w c.nodes p).executed

    abbrev doing_taken : ℕ → Doing → Doing
    doing_taken words a =
        taking.doing_taken w.work.layout w.work (processors w) (node_of w) there plan code
        (protocol w plan lay some code) (side w plan lay some code) (laid w plan lay some code) words
        wait_then a

    abbrev lane_taken : ProcessorState → Doing → ProcessorState
    lane_taken l a =
        taking.lane_taken w.work.layout w.work (processors w) (node_of w) there plan code
        (protocol w plan lay some code) (side w plan lay some code) (laid w plan lay some code) l
        taken.local wait_then a

    abbrev IsPartHere : Doing → LanePart → Type 0
    IsPartHere = IsPart w plan lay some code

    abbrev Found : List Want → Type 0
    Found ws = AllFound (view c 0) i w.work.layout ws

    sought_found : (q : Processor) (ws : List Want)
        → AllSought w.work.layout w.work plan (laid w plan lay some code) code.Stands q ws → Found ws
    sought_found q [] h = tt
    sought_found q (v ∷ vs) h =
        ((laid w plan lay some code).found (line_of v.at) h.0, sought_found q vs h.2)

    pending_found : (ws : List Want) → Found ws → Found (pending w.work.layout wait_then ws)
    pending_found [] h = h
    pending_found (v ∷ vs) h =
        (elim (is_pending w.work.layout wait_then v)
        as (λ z. Found (pending w.work.layout wait_then vs)
        → Found (cond z (v ∷ pending w.work.layout wait_then vs)
        (pending w.work.layout wait_then vs))) [
          | true ↦ (λ g. (h.0, g))
          | false ↦ (λ g. g)
        ]) (pending_found vs h.1)

    -- what it does, and where it is, once the message is taken
    abbrev IsTaken : Doing → LanePart → LanePart → Type 0
    IsTaken a old new =
        (new.lane ≡ lane_taken old.lane a) × IsPartHere (doing_taken old.executed a) new

    stop_part : (words : ℕ) (y : LanePart) → y.executed ≡ words
        → y.phase ≡ stop_or w.work.budget words Resumed
        → IsPartHere (matching.goes_or_stops w.work.layout w.work (processors w) (node_of w) there
        plan code (protocol w plan lay some code) (side w plan lay some code)
        (laid w plan lay some code) words) y
    stop_part words y same e = (elim (eqb words w.work.budget)
        as (λ z. eqb words w.work.budget ≡ z
        → y.phase ≡ cond z (Ended (Stopped w.work.budget)) Resumed
        → IsPartHere (cond z (HasEnded (Stopped w.work.budget)) Runs) y) [
          | true ↦ (λ g f. (f, same ∙ is_same words w.work.budget g))
          | false ↦ (λ g f. inr f)
        ]) refl e

    -- where these blocks of its are waited for still
    waits_on : (y : LanePart) (resume : Resume) (again : Bool) (ws : List Want) → Found ws
        → y.phase ≡ Waiting resume → y.again ≡ again
        → ((resume_part w.work n.local y (Waiting resume) (blocks_of w.work.layout ws)).lane
        ≡ taking.lane_still w.work.layout w.work (processors w) (node_of w) there plan code
        (protocol w plan lay some code) (side w plan lay some code) (laid w plan lay some code) y.lane
        taken.local resume ws again)
        × IsPartHere (matching.doing_still w.work.layout w.work (processors w) (node_of w) there plan
        code (protocol w plan lay some code) (side w plan lay some code)
        (laid w plan lay some code) y.executed resume ws again)
        (resume_part w.work n.local y (Waiting resume) (blocks_of w.work.layout ws))
    waits_on y resume again [] found phase same = (
      ap (λ z. cond z y.lane (lane_resumed y.lane n.local resume)) same
          ∙ ap (λ l. cond again y.lane (lane_resumed y.lane l resume)) (turned 0).local,
      stop_part y.executed (resume_part w.work n.local y (Waiting resume) []) refl refl,
    )
    waits_on y resume again (v ∷ vs) found phase same =
        subst (λ bs. ((resume_part w.work n.local y (Waiting resume) bs).lane ≡ y.lane)
        × (((resume_part w.work n.local y (Waiting resume) bs).phase ≡ Waiting resume)
        × ((resume_part w.work n.local y (Waiting resume) bs).awaits
        ≡ blocks_of w.work.layout (v ∷ vs))
        × ((resume_part w.work n.local y (Waiting resume) bs).again ≡ again)))
        (sym blocks) (refl, (phase, sym blocks, same))
      where
        blocks : blocks_of w.work.layout (v ∷ vs) ≡ found.0.0 ∷ blocks_of w.work.layout vs
        blocks = ap (λ o. option_to_list o ++ blocks_of w.work.layout vs) found.0.1

    part_taken : (a : Doing) (y : LanePart) (q : Processor) (l : NodeMemory) → IsPartHere a y
        → StandsIn w.work.layout w.work (processors w) (node_of w) there plan code
        (protocol w plan lay some code) (side w plan lay some code) (laid w plan lay some code) a q
        y.lane l → IsTaken a y (resumed w.work n y)
    part_taken Runs y q l (inl h) stands =
        subst (IsTaken Runs y)
        (ap (λ phase. resume_part w.work n.local y phase (still n.wait y.awaits)) (sym h)) (refl, inl h)
    part_taken Runs y q l (inr h) stands =
        subst (IsTaken Runs y)
        (ap (λ phase. resume_part w.work n.local y phase (still n.wait y.awaits)) (sym h)) (refl, inr h)
    part_taken (HasEnded end) y q l h stands =
        subst (IsTaken (HasEnded end) y)
        (ap (λ phase. resume_part w.work n.local y phase (still n.wait y.awaits)) (sym h.0)) (refl, h)
    part_taken (Awaits resume want more again) y q l h stands =
        let found = sought_found q (want ∷ more) stands.0.sought in
        let left = pending w.work.layout wait_then (want ∷ more) in
        let awaits : still n.wait y.awaits ≡ blocks_of w.work.layout left =
        ap (still n.wait) h.1
        ∙ still_pending w.work.layout w.work (processors w) (node_of w) there plan (view c 0) i n.wait
        wait_then waited (want ∷ more) found in
        subst (IsTaken (Awaits resume want more again) y)
        (sym (ap (λ phase. resume_part w.work n.local y phase (still n.wait y.awaits)) h.0
        ∙ ap (resume_part w.work n.local y (Waiting resume)) awaits))
        (waits_on y resume again left (pending_found (want ∷ more) found) h.0 h.2)

    -- 4. The event

    event : taking.TookMessage w.work.layout w.work (processors w) (node_of w) there plan code
        (protocol w plan lay some code) (side w plan lay some code) (laid w plan lay some code) lowers
        (directory.calm_messages w.work lay (processors w) (node_of w) there plan code) lanes m.doing
        locals reserved rest holder s m.matches executed i j below low has may
    event = taking.message_event w.work.layout w.work (processors w) (node_of w) there plan code
        (protocol w plan lay some code) (side w plan lay some code) (laid w plan lay some code) lowers
        (directory.calm_messages w.work lay (processors w) (node_of w) there plan code) lanes m.doing
        locals reserved rest holder s m.matches executed i j below low has may

    -- 5. The node after it

    abbrev node_now : LaneNode
    node_now = after_message w x j wire

    abbrev held_now : ℕ → ℕ
    held_now = held_by n.wait x.shared.holder

    abbrev nodes_now : ℕ → LaneNode
    nodes_now = nodes_then w plan lay some code c1 i 0 (t 0) (λ k. resumed w.work n (x.lanes k))
        (λ k. (t k).node.local.reservation) held_now (counted n x.lanes w.lanes) None

    -- what is kept by lane
    by_node : {A : Type 0} (field : LaneNode → ℕ → A) (f : A → A)
        → ((k : ℕ) → field node_now k ≡ f (field x k)) → (p : ℕ)
        → field (nodes_now (node_of w p)) (lane_of w p)
        ≡ cond (eqb (node_of w p) i) (f (field (c.nodes (node_of w p)) (lane_of w p)))
        (field (c.nodes (node_of w p)) (lane_of w p))
    by_node field f is p = go (eqb (node_of w p) i) refl
      where
        old : LaneNode
        old = c.nodes (node_of w p)

        go : (z : Bool) → eqb (node_of w p) i ≡ z → field (cond z node_now old) (lane_of w p)
            ≡ cond z (f (field old (lane_of w p))) (field old (lane_of w p))
        go false e = refl
        go true e = is (lane_of w p)
            ∙ ap (λ y. f (field (c.nodes y) (lane_of w p))) (sym (is_same (node_of w p) i e))

    parts_now : (p : ℕ) → part_in w nodes_now p
        ≡ cond (eqb (node_of w p) i) (resumed w.work n (part_in w c.nodes p)) (part_in w c.nodes p)
    parts_now p = by_node (λ y k. y.lanes k) (resumed w.work n) (λ k. refl) p

    reserved_now : (p : ℕ) → reserved_in w nodes_now p
        ≡ messages.reserved_then w.work.layout w.work (processors w) (node_of w) there reserved i
        (held_order holder order) p
    reserved_now p =
        by_node (λ y k. y.shared.reservation k)
        (cleared_by w.work.layout (held_order holder order)) reserved_for p

    abbrev lanes_then : ℕ → ProcessorState
    lanes_then p = if eqb (node_of w p) i then lane_taken (lanes p) (m.doing p) else lanes p

    abbrev doing_then : ℕ → Doing
    doing_then p = if eqb (node_of w p) i then doing_taken (executed p) (m.doing p) else m.doing p

    taken_here : (p : ℕ) → p < processors w
        → (lanes_in w nodes_now p ≡ lanes_then p) × IsPartHere (doing_then p) (part_in w nodes_now p)
    taken_here p lp =
        subst (λ (y : LanePart). (y.lane ≡ lanes_then p) × IsPartHere (doing_then p) y)
        (sym (parts_now p)) (elim (eqb (node_of w p) i)
        as (λ z. ((cond z (resumed w.work n (part_in w c.nodes p)) (part_in w c.nodes p)).lane
        ≡ cond z (lane_taken (lanes p) (m.doing p)) (lanes p))
        × IsPartHere (cond z (doing_taken (executed p) (m.doing p)) (m.doing p))
        (cond z (resumed w.work n (part_in w c.nodes p)) (part_in w c.nodes p))) [
          | true ↦ part_taken (m.doing p) (part_in w c.nodes p) (s.processors p) _ (m.parts p lp)
              (m.matches.stands p lp)
          | false ↦ (refl, m.parts p lp)
        ])

    holders_now : (y b : ℕ) (need : Need) → wanted (taken.rest.wait y b) ≡ Some need
        → holder_in w nodes_now y b ≡ holder y b
    holders_now y b need h = go (eqb y i) refl
      where
        go : (z : Bool) → eqb y i ≡ z
            → processor_of w y ((cond z node_now (c.nodes y)).shared.holder b) ≡ holder y b
        go false e = refl
        go true e =
            let same = is_same y i e in
            let is_wait_now = waited b
            ∙ ap is_some (ap (λ k. wanted (taken.rest.wait k b)) (sym same) ∙ h) in
            ap (λ z. processor_of w y (cond z (x.shared.holder b) 0)) is_wait_now
            ∙ ap (λ k. processor_of w y ((c.nodes k).shared.holder b)) (sym same)

    abbrev picks_here : List Pick
    picks_here = messages.breaks w.work.layout w.work (processors w) (node_of w) there reserved i
        (held_order holder order) (processors w)

    leaves : LeavesNodes w plan lay some code nodes_now taken c1.nodes i
        (run (one w plan lay some code) s picks_here)
    leaves = record {
      doing = doing_then;
      lanes = lanes_then;
      locals = with_local locals i taken.local;
      reserved = messages.reserved_then w.work.layout w.work (processors w) (node_of w) there
          reserved i (held_order holder order);
      holder = holder;
      matches = event.behind;
      parts = λ p lp. (taken_here p lp).1;
      numbers = λ y ly. (elim (eqb y i)
          as (λ z. eqb y i ≡ z → (cond z node_now (c.nodes y)).shared.me ≡ y) [
            | true ↦ (λ e. (handled_same w.work.layout (n1 0) j wire.message).me
                ∙ m.numbers i below ∙ sym (is_same y i e))
            | false ↦ (λ e. m.numbers y ly)
          ]) refl;
      same_lanes = λ p lp. (taken_here p lp).0;
      same_reserved = λ p lp. reserved_now p;
      holders = λ y b need ly h. holders_now y b need h;
      here = λ y. refl;
    }

    -- 6. Its picks

    order_same : order_of w.work.layout (as_node x 0) j wire.message ≡ order
    order_same =
        ap (λ me. order_by (taker_in wire.message)
        (row_of w.work.layout me (holding w.work.layout (as_node x 0)) j wire.message))
        (m.numbers i below)
        ∙ ap (λ xs. order_from w.work.layout locals rest i j (messages_of xs)) (sym front)

    breaks_same : (o : Option Order) (p : ℕ) → picks.breaks w c i o p
        ≡ messages.breaks w.work.layout w.work (processors w) (node_of w) there reserved i o p
    breaks_same o zero = refl
    breaks_same o (suc p) =
        ap (λ ks. ks ++ (if eqb (node_of w p) i then break_by w.work.layout p o (reserved p)
        else [])) (breaks_same o p)

    picks_are : picks_of_take w c i j (c.list j i) ≡ picks_here
    picks_are =
        ap (picks_of_take w c i j) front
        ∙ ap (λ o. picks.breaks w c i (held_order holder o) (processors w)) order_same
        ∙ breaks_same (held_order holder order) (processors w)

    -- 7. What it counts

    counted_row : (o : Option Row)
        → ((took w.work.layout (locals i) rest i j (messages_of wires) o).rest.counts.asked
        ≡ m.counts.asked) × (m.counts.taken
        ≤ (took w.work.layout (locals i) rest i j (messages_of wires) o).rest.counts.taken)
    counted_row o = took_counts w.work.layout (locals i) rest i j (messages_of wires) o

    counted_first : (b : Bool) → is_bye wire.message ≡ b → TakeCounts b m.counts
        (take_from w.work.layout locals rest i j (messages_of (wire ∷ wires))).rest.counts
    counted_first true bye =
        let row = counted_row (row_at w.work.layout (world_of w.work.layout locals rest) i j
        wire.message) in
        let most = row.1 in (row.0, omega (arith, most))
    counted_first false plain =
        let row = counted_row (row_at w.work.layout (world_of w.work.layout locals rest) i j
        wire.message) in
        let got = world.takes lay.laws w.work.layout lay.valid lay.laid
        (world_of w.work.layout locals rest) s.shared m.matches.shares.held.holds i j wire.message
        (messages_of wires) below low (ap messages_of front) plain in
        let one : (take_from w.work.layout locals rest i j
        (messages_of (wire ∷ wires))).rest.counts.taken ≡ m.counts.taken + 1 =
        ap (λ o. (took w.work.layout (locals i) rest i j (messages_of wires)
        o).rest.counts.taken) got.1
        ∙ took_one w.work.layout (locals i) rest i j (messages_of wires) got.0 in
        (row.0, omega (arith, one))

    counted_here : TakeCounts (is_bye wire.message) m.counts taken.rest.counts
    counted_here =
        subst (λ xs. TakeCounts (is_bye wire.message) m.counts
        (take_from w.work.layout locals rest i j (messages_of xs)).rest.counts) (sym front)
        (counted_first (is_bye wire.message) refl)

    abbrev ends : Bool
    ends = have_ended w node_now && not (have_ended w x)

    abbrev Counted : List Wire → Counts → Type 0
    Counted xs = TakeCounts (bye_first xs) m.counts

    pub take_leads : LeadsTo w plan lay some code s (picks_of_take w c i j (c.list j i)) (λ p. []) []
        (Counted (c.list j i)) (take_first w c i j (c.list j i))
    take_leads =
        subst (λ ks. LeadsTo w plan lay some code s ks (λ p. []) [] (Counted (c.list j i))
        (take_first w c i j (c.list j i))) (sym picks_are)
        (subst (λ xs. LeadsTo w plan lay some code s picks_here (λ p. []) [] (Counted xs)
        (take_first w c i j xs)) (sym front) (record {
          advanced = event.advanced;
          behind = core_then w plan lay some code c1 i 0 taken
              (run (one w plan lay some code) s picks_here) (t 0)
              (λ k. resumed w.work n (x.lanes k)) (λ k. (t k).node.local.reservation)
              held_now (counted n x.lanes w.lanes) None ends (turned 0) leaves;
          counted = subst (TakeCounts (is_bye wire.message) m.counts)
              (sym (core_counts w plan lay some code c1 i 0 taken
              (run (one w plan lay some code) s picks_here) (t 0)
              (λ k. resumed w.work n (x.lanes k)) (λ k. (t k).node.local.reservation)
              held_now (counted n x.lanes w.lanes) None ends (turned 0) leaves)) counted_here;
        }))
