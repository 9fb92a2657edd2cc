-- A word of a processor of a node that has others, in a core: it leads to the core after it by its
-- picks.
use Rattle.std.proofs.Common.{◌≡◌, ℕ, ◌+◌, ◌<◌, ◌≤◌, cond, eqb, Bool, true, false, List, [], ◌∷◌, Option, Some, None, refl, sym, ap, ◌∙◌, subst, inl, length, arith}
use Rattle.std.specs.Prelude.{is_some, not, ◌&&◌}
use Rattle.lane_law.proofs.Names.{Shape, block_of, changed, Need, Wait, Stopped, line_of, Processor, State, Pick, run, CommitKind, PlanEntry, commit_at, old_of, most_waits, wanted, Core, Work, Node, ProcessorState, NodeMemory, Want, Move, Next, Again, To, Enters, Waits, Leaves, WordOutcome, Running, Ended, lane_after, phase_after, stop_or, word_outcome, Turn, want_in, each_block_once, wants_of, after_word, is_wait, Miss, LaneWork, LanePart, LaneNode, as_node, processors, node_of, lane_of, processor_of, Asked, ask, ask_all, blocks_of, wants_at, word_asked, part_after, reserved_after, holder_after, held_by, have_ended, lost, LaneCore, Exec, event_step, printed_at, picks_at, values_at, IsLicensed}
use Rattle.rewriting_law.proofs.templates.RegisterLemmas.{equal}
use Rattle.rewriting_law.proofs.templates.States.{Suits}
use Rattle.rewriting_law.proofs.words.CodeSide.{AllWanted, Follows}
use Rattle.rewriting_law.proofs.one_memory.Advances.{Advanced}
use Rattle.rewriting_law.proofs.one_memory.Sharing.{with_local, is_same, local_here}
use Rattle.rewriting_law.proofs.one_memory.Pending.{wanted_in}
use Rattle.rewriting_law.proofs.protocol_side.ProtocolSide.{Handled}
use Rattle.rewriting_law.proofs.protocol_side.Spending.{Counts}
use Rattle.rewriting_law.proofs.protocol_side.Directory.{Rest, directory, missed}
use Rattle.rewriting_law.proofs.protocol_side.DirectorySide.{Layout, is_waiting}
use Rattle.rewriting_law.proofs.runs.Turns.{SameProcessor, wants_same}
use Rattle.rewriting_law.proofs.runs.TurnTies.{rest_at, IsTurn, own_wait, AllFound, word_turned}
use Rattle.lane_law.proofs.LaneCode.{LaneCode}
use Rattle.lane_law.proofs.LaneNumbers.{numbered, crowd, room}
use Rattle.rewriting_law.proofs.one_memory.SharedWords as sharing
use Rattle.lane_law.proofs.LaneWants as wants
use Rattle.lane_law.proofs.LaneWants.{IsCovered}
use Rattle.lane_law.proofs.LaneMatching as matching
use Rattle.lane_law.proofs.LaneMatching.{Doing, Runs, HasEnded, StandsIn, with_at, wait_in}
use Rattle.lane_law.proofs.LaneDirectory.{wants_more}
use Rattle.lane_law.proofs.LaneTies.{view, LaneAsked, IsAsked, asks_turned, all_still}
use Rattle.lane_law.proofs.LaneCores.{part_in, lanes_in, reserved_in, holder_in, locals_in, at_node, protocol, side, laid, one, IsPart, MatchesCore, LeavesNodes, node_then, nodes_then, core_then, core_counts, by_lane}

-- what a lane asks for leaves its processor as it was
module _ (layout : Shape) where
  ask_same : (t : Asked) (w : Want)
      → SameProcessor t.turn.node (ask layout w.need (block_of layout (line_of w.at)) t).turn.node
  ask_same t w = go (block_of layout (line_of w.at)) (wants_same layout (w ∷ []) t.turn)
    where
      itself : (n : Node) → SameProcessor n n
      itself n = record { me = refl; lane = refl; executed = refl; phase = refl }

      either : (b : Bool) (n m : Turn) → SameProcessor t.turn.node n.node
          → SameProcessor t.turn.node m.node → SameProcessor t.turn.node (cond b n m).node
      either true n m h g = h
      either false n m h g = g

      go : (o : Option ℕ) → SameProcessor t.turn.node (want_in layout t.turn w.need o).node
          → SameProcessor t.turn.node (ask layout w.need o t).turn.node
      go None h = itself t.turn.node
      go (Some b) h =
          either (is_some (t.turn.node.wait b)) t.turn (want_in layout t.turn w.need (Some b))
          (itself t.turn.node) h

  pub asks_same : (ws : List Want) (t : Asked)
      → SameProcessor t.turn.node (ask_all layout ws t).turn.node
  asks_same [] t = record { me = refl; lane = refl; executed = refl; phase = refl }
  asks_same (w ∷ ws) t =
      let u = ask layout w.need (block_of layout (line_of w.at)) t in
      let first = ask_same t w in
      let rest = asks_same ws u in
      record {
        me = rest.me ∙ first.me;
        lane = rest.lane ∙ first.lane;
        executed = rest.executed ∙ first.executed;
        phase = rest.phase ∙ first.phase;
      }

-- what a word counts: it wants two blocks at most, and takes nothing
abbrev pub WordCounts : (old new : Counts) → Type 0
WordCounts old new = (new.asked ≤ old.asked + 2) × (new.taken ≡ old.taken)

missed_counts : (layout : Shape) (n : NodeMemory) (rest : Rest) (i b : ℕ) (o : Option Miss)
    → ((missed layout n rest i b o).rest.counts.asked ≤ rest.counts.asked + 1)
    × ((missed layout n rest i b o).rest.counts.taken ≡ rest.counts.taken)
missed_counts layout n rest i b None = (omega arith, refl)
missed_counts layout n rest i b (Some miss) = (omega arith, refl)

module _ (layout : Shape) (work : Work) (processors : ℕ) (node_of : ℕ → ℕ)
    (placed : (p : ℕ) → p < processors → node_of p < work.layout.nodes) (plan : List PlanEntry)
    (c : Core) (i : ℕ) (locals : ℕ → NodeMemory) where
  abbrev Lane_asked : Type 0
  Lane_asked = LaneAsked layout work processors node_of placed plan c i

  abbrev ask_one : Lane_asked → Want → Lane_asked
  ask_one t v = wants.ask layout work processors node_of placed plan (directory layout) locals i t v

  abbrev AreCounts : ℕ → Lane_asked → Lane_asked → Type 0
  AreCounts d t u =
      (u.handled.rest.counts.asked ≤ t.handled.rest.counts.asked + d)
      × (u.handled.rest.counts.taken ≡ t.handled.rest.counts.taken)

  ask_counts : (t : Lane_asked) (v : Want) → AreCounts 1 t (ask_one t v)
  ask_counts t v =
      either (is_some (wants.waited layout work processors node_of placed plan (directory layout)
      t.handled i v)) (missed_counts layout _ t.handled.rest i _ _)
    where
      b : ℕ
      b = wants.block_wanted layout work processors node_of placed plan (directory layout) v

      new : Handled Rest
      new = (directory layout).want (with_local locals i t.handled.local) t.handled.rest i b v.need

      either : (z : Bool) → (new.rest.counts.asked ≤ t.handled.rest.counts.asked + 1)
          × (new.rest.counts.taken ≡ t.handled.rest.counts.taken)
          → ((cond z t.handled new).rest.counts.asked ≤ t.handled.rest.counts.asked + 1)
          × ((cond z t.handled new).rest.counts.taken ≡ t.handled.rest.counts.taken)
      either true h = (omega arith, refl)
      either false h = h

  asks_counts : (vs : List Want) (t : Lane_asked) → AreCounts (length vs) t
      (wants.ask_all layout work processors node_of placed plan (directory layout) locals i t vs)
  asks_counts [] t = (omega arith, refl)
  asks_counts (v ∷ vs) t =
      let first = ask_counts t v in
      let rest = asks_counts vs (ask_one t v) in
      let one = first.0 in
      let more = rest.0 in
      (omega (arith, one, more), rest.1 ∙ first.1)

-- these picks lead to this core, and what is read and printed is theirs, and what is counted
pub record LeadsTo (w : LaneWork) (plan : List PlanEntry) (lay : Layout w.work) (some : 0 < w.lanes)
    (code : LaneCode w.work.layout w.work (processors w) plan) (s : State) (ks : List Pick)
    (values : ℕ → List ℕ) (printed : List ℕ) (Counted : Counts → Type 0) (c : LaneCore) : Type 0
  where
    pub advanced : Advanced (one w plan lay some code) s ks values printed
    pub behind : MatchesCore w plan lay some code c (run (one w plan lay some code) s ks)
    pub counted : Counted behind.counts

module _ (w : LaneWork) (plan : List PlanEntry) (lay : Layout w.work) (some : 0 < w.lanes)
    (code : LaneCode w.work.layout w.work (processors w) plan) (four : w.lanes ≤ 4)
    (few : processors w ≤ 16) (c : LaneCore) (s : State) (m : MatchesCore w plan lay some code c s)
    (p : ℕ) (below : p < processors w) (runs : m.doing p ≡ Runs) where
  abbrev there : (q : ℕ) → q < processors w → node_of w q < w.work.layout.nodes
  there = at_node w plan lay some code

  abbrev i : ℕ
  i = node_of w p

  abbrev k : ℕ
  k = lane_of w p

  abbrev x : LaneNode
  x = c.nodes i

  abbrev n : Node
  n = as_node x k

  abbrev q : Processor
  q = s.processors p

  abbrev r : WordOutcome
  r = word_outcome w.work n

  abbrev kind : CommitKind
  kind = commit_at w.work.program plan (old_of w.work.image n.lane.at)

  abbrev rest : Rest
  rest = rest_at m.counts (view c 0)

  abbrev lanes : ℕ → ProcessorState
  lanes = lanes_in w c.nodes

  abbrev locals : ℕ → NodeMemory
  locals = locals_in c.nodes

  abbrev reserved : ℕ → Option ℕ
  reserved = reserved_in w c.nodes

  abbrev holder : ℕ → ℕ → ℕ
  holder = holder_in w c.nodes

  abbrev StandsBy : Doing → Processor → ProcessorState → NodeMemory → Type 0
  StandsBy = StandsIn w.work.layout w.work (processors w) (node_of w) there plan code
      (protocol w plan lay some code) (side w plan lay some code) (laid w plan lay some code)

  -- 1. What it wants

  suits : Suits w.work.program n.local
  suits =
      let h = (side w plan lay some code).suits locals rest s.shared m.matches.shares.held i
      (there p below) in
      record { states = h.states; flagged = h.flagged }

  here : (q.exit ≡ None) × code.Stands q n.lane n.local
  here = subst (λ a. StandsBy a q n.lane n.local) runs (m.matches.stands p below)

  all_found : (ws : List Want) → AllWanted w.work.layout w.work plan q n.local ws
      → AllFound (view c k) i w.work.layout ws
  all_found [] h = tt
  all_found (v ∷ vs) h =
      ((laid w plan lay some code).found (line_of v.at) h.0.shared, all_found vs h.2)

  follows_found : (mv : Move) → Follows w.work.layout w.work plan code.Stands q n.local r kind mv
      → AllFound (view c k) i w.work.layout (each_block_once w.work.layout (wants_of mv))
  follows_found (Leaves e) h = tt
  follows_found (Waits resume want more) h =
      all_found (each_block_once w.work.layout (want ∷ more)) h.1.wanted
  follows_found other h = tt

  found : AllFound (view c k) i w.work.layout (wants_at w x k)
  found = follows_found r.move (code.word_follows q n.lane n.local suits here.0 here.1)

  -- 2. What it asks for

  abbrev locals1 : ℕ → NodeMemory
  locals1 = with_local locals i r.local

  abbrev asked : LaneAsked w.work.layout w.work (processors w) (node_of w) there plan (view c k) i
  asked = wants.want_all w.work.layout w.work (processors w) (node_of w) there plan
      (protocol w plan lay some code) locals1 rest i (wants_at w x k)

  abbrev t : Asked
  t = word_asked w x k

  is_asked : IsAsked w.work.layout w.work (processors w) (node_of w) there plan (view c k) i t asked
  is_asked =
      asks_turned w.work.layout w.work (processors w) (node_of w) there plan (view c k) i locals1
      (wants_at w x k) (record { turn = after_word w.work n; again = false })
      (record { handled = record { local = locals1 i; rest = rest }; again = false }) found
      (record {
        turned = subst (λ y. IsTurn (view c k) i (after_word w.work n)
            (record { local = y; rest = rest })) (sym (local_here locals i r.local))
            (word_turned (view c k) i w.work m.counts);
        again = refl;
      })

  same : SameProcessor (after_word w.work n).node t.turn.node
  same = asks_same w.work.layout (wants_at w x k)
      (record { turn = after_word w.work n; again = false })

  -- 3. The event

  abbrev most : ℕ
  most = most_waits w.work.layout.nodes

  abbrev waits_now : List Want
  waits_now = matching.waits_there w.work.layout w.work (processors w) (node_of w) there plan code
      (protocol w plan lay some code) (side w plan lay some code) (laid w plan lay some code) most
      w.lanes (room w some four few) (crowd w some) lanes m.doing locals reserved rest holder s
      m.matches p below runs

  event : matching.Executed w.work.layout w.work (processors w) (node_of w) there plan code
      (protocol w plan lay some code) (side w plan lay some code) (laid w plan lay some code) most
      (wants_more w.work lay (processors w) (node_of w) there plan code) lanes m.doing locals
      reserved rest holder s m.matches p below runs (n.executed + 1) waits_now
      (matching.are_waits w.work.layout w.work (processors w) (node_of w) there plan code
      (protocol w plan lay some code) (side w plan lay some code) (laid w plan lay some code) most
      w.lanes (room w some four few) (crowd w some) lanes m.doing locals reserved rest holder s
      m.matches p below runs)
      (matching.has_room w.work.layout w.work (processors w) (node_of w) there plan code
      (protocol w plan lay some code) (side w plan lay some code) (laid w plan lay some code) most
      w.lanes (room w some four few) (crowd w some) lanes m.doing locals reserved rest holder s
      m.matches p below runs)
  event = matching.word_event w.work.layout w.work (processors w) (node_of w) there plan code
      (protocol w plan lay some code) (side w plan lay some code) (laid w plan lay some code) most
      (wants_more w.work lay (processors w) (node_of w) there plan code) lanes m.doing locals
      reserved rest holder s m.matches p below runs (n.executed + 1) waits_now
      (matching.are_waits w.work.layout w.work (processors w) (node_of w) there plan code
      (protocol w plan lay some code) (side w plan lay some code) (laid w plan lay some code) most
      w.lanes (room w some four few) (crowd w some) lanes m.doing locals reserved rest holder s
      m.matches p below runs)
      (matching.has_room w.work.layout w.work (processors w) (node_of w) there plan code
      (protocol w plan lay some code) (side w plan lay some code) (laid w plan lay some code) most
      w.lanes (room w some four few) (crowd w some) lanes m.doing locals reserved rest holder s
      m.matches p below runs)

  -- 4. The lane after it

  abbrev part : LanePart
  part = part_after w x k

  abbrev doing_then : Bool → Move → Doing
  doing_then again mv =
      matching.doing_after w.work.layout w.work (processors w) (node_of w) there plan code
      (protocol w plan lay some code) (side w plan lay some code) (laid w plan lay some code)
      (n.executed + 1) again mv

  abbrev IsPartHere : Doing → LanePart → Type 0
  IsPartHere = IsPart w plan lay some code

  stop_part : (executed : ℕ) (y : LanePart) → y.executed ≡ executed
      → y.phase ≡ stop_or w.work.budget executed Running
      → IsPartHere (matching.goes_or_stops w.work.layout w.work (processors w) (node_of w) there plan
      code (protocol w plan lay some code) (side w plan lay some code) (laid w plan lay some code)
      executed) y
  stop_part executed y words e = (elim (eqb executed w.work.budget)
      as (λ z. eqb executed w.work.budget ≡ z
      → y.phase ≡ cond z (Ended (Stopped w.work.budget)) Running
      → IsPartHere (cond z (HasEnded (Stopped w.work.budget)) Runs) y) [
        | true ↦ (λ g f. (f, words ∙ is_same executed w.work.budget g))
        | false ↦ (λ g f. inl f)
      ]) refl e

  part_by : (again : Bool) (mv : Move) (y : LanePart) → y.executed ≡ n.executed + 1
      → y.phase ≡ phase_after w.work.budget (n.executed + 1) mv → (is_wait mv ≡ true → y.awaits
      ≡ blocks_of w.work.layout (each_block_once w.work.layout (wants_of mv)))
      → y.again ≡ again → IsPartHere (doing_then again mv) y
  part_by again (Leaves e) y words phase awaits anew = (phase, tt)
  part_by again (Waits resume want more) y words phase awaits anew = (phase, awaits refl, anew)
  part_by again other y words phase awaits anew = stop_part (n.executed + 1) y words phase

  -- what a word that waits wants is waited for
  wants_wait : (mv : Move) → r.move ≡ mv → is_wait mv ≡ true → (b : ℕ) (need : Need)
      → wanted_in w.work.layout b (each_block_once w.work.layout (wants_of mv)) ≡ Some need
      → is_some (t.turn.node.wait b) ≡ true
  wants_wait (Leaves e) is waits b need h = let bad : false ≡ true = waits in cc
  wants_wait Next is waits b need h = let bad : false ≡ true = waits in cc
  wants_wait Again is waits b need h = let bad : false ≡ true = waits in cc
  wants_wait (To target) is waits b need h = let bad : false ≡ true = waits in cc
  wants_wait (Enters target) is waits b need h = let bad : false ≡ true = waits in cc
  wants_wait (Waits resume want more) is waits b need h =
      is_waiting (t.turn.node.wait b)
      ∙ ap (λ (f : ℕ → Option Wait). is_some (wanted (f b)))
      (own_wait (view c k) i t.turn asked.handled is_asked.turned)
      ∙ some_if (wanted (asked.handled.rest.wait i b)) covered
    where
      some_if : (o : Option Need) → IsCovered o need asked.again → is_some o ≡ true
      some_if None g = absurd g
      some_if (Some have) g = refl

      doing_now : with_at m.doing p (doing_then asked.again r.move) p
          ≡ doing_then asked.again (Waits resume want more)
      doing_now = ap (λ z. cond z (doing_then asked.again r.move) (m.doing p)) (equal p p refl)
          ∙ ap (doing_then asked.again) is

      covered : IsCovered (wanted (asked.handled.rest.wait i b)) need asked.again
      covered =
          subst (λ a. IsCovered (wanted (asked.handled.rest.wait i b)) need
          (matching.again_in w.work.layout w.work (processors w) (node_of w) there plan code
          (protocol w plan lay some code) (side w plan lay some code) (laid w plan lay some code) a))
          doing_now (event.behind.covered p b need below
          (ap (λ a. wait_in w.work.layout w.work (processors w) (node_of w) there plan code
          (protocol w plan lay some code) (side w plan lay some code) (laid w plan lay some code) a b)
          doing_now ∙ h))

  part_is : IsPartHere (doing_then asked.again r.move) part
  part_is =
      part_by asked.again r.move part same.executed same.phase
      (λ waits. all_still w.work.layout w.work (processors w) (node_of w) there plan (view c k) i
      t.turn.node.wait (wants_at w x k) found (wants_wait r.move refl waits)) is_asked.again

  -- 5. The node after it

  abbrev held_now : ℕ → ℕ
  held_now = held_by t.turn.node.wait (holder_after x k)

  abbrev node_now : LaneNode
  node_now = node_then w plan lay some code c i k t.turn (changed x.lanes k part)
      (reserved_after w x k) held_now t.turn.node.counts t.turn.printed

  abbrev nodes_now : ℕ → LaneNode
  nodes_now = nodes_then w plan lay some code c i k t.turn (changed x.lanes k part)
      (reserved_after w x k) held_now t.turn.node.counts t.turn.printed

  -- what is kept by lane of a node that is the same
  as_before : {A : Type 0} (field : LaneNode → ℕ → A) (f : A → A) (j : ℕ) (z : Bool)
      → eqb (node_of w j) i ≡ z
      → cond z (f (field x (lane_of w j))) (field (c.nodes (node_of w j)) (lane_of w j))
      ≡ cond z (f (field (c.nodes (node_of w j)) (lane_of w j)))
      (field (c.nodes (node_of w j)) (lane_of w j))
  as_before field f j false e = refl
  as_before field f j true e =
      ap (λ y. f (field (c.nodes y) (lane_of w j))) (sym (is_same (node_of w j) i e))

  either_way : {A : Type 0} (z : Bool) (a : A) → cond z a a ≡ a
  either_way true a = refl
  either_way false a = refl

  parts_now : (j : ℕ) → part_in w nodes_now j ≡ cond (eqb j p) part (part_in w c.nodes j)
  parts_now j =
      by_lane w plan lay some code c.nodes p node_now (λ y l. y.lanes l) part x.lanes (λ l. refl) j
      ∙ ap (cond (eqb j p) part) (as_before (λ y l. y.lanes l) (λ a. a) j (eqb (node_of w j) i) refl
      ∙ either_way (eqb (node_of w j) i) (part_in w c.nodes j))

  reserved_now : (j : ℕ) → reserved_in w nodes_now j
      ≡ sharing.reserved_after w.work.layout w.work (processors w) (node_of w) there (lost w.work.layout) reserved p r j
  reserved_now j =
      by_lane w plan lay some code c.nodes p node_now (λ y l. y.shared.reservation l)
      r.local.reservation (λ l. lost w.work.layout r.access (x.shared.reservation l)) (λ l. refl) j
      ∙ ap (cond (eqb j p) r.local.reservation)
      (as_before (λ y l. y.shared.reservation l) (lost w.work.layout r.access) j
      (eqb (node_of w j) i) refl)

  lanes_now : (j : ℕ)
      → lanes_in w nodes_now j ≡ with_at lanes p (lane_after w.work.image r.lane r.move) j
  lanes_now j = ap (λ (y : LanePart). y.lane) (parts_now j) ∙ (elim (eqb j p)
      as (λ z. (cond z part (part_in w c.nodes j)).lane
      ≡ cond z (lane_after w.work.image r.lane r.move) (lanes j)) [
        | true ↦ same.lane
        | false ↦ refl
      ])

  -- who holds a wait of its node
  holds_now : (o : Option Wait) (h : ℕ) → processor_of w i (cond (is_some o) h k)
      ≡ cond (not (is_some (wanted o))) p (processor_of w i h)
  holds_now None h = numbered w some p
  holds_now (Some have) h = refl

  holders_now : (y b : ℕ) (need : Need) → wanted (asked.handled.rest.wait y b) ≡ Some need
      → holder_in w nodes_now y b
      ≡ matching.holder_after w.work.layout w.work (processors w) (node_of w) there plan code
      (protocol w plan lay some code) (side w plan lay some code) (laid w plan lay some code) rest
      holder p i y b
  holders_now y b need h = go (eqb y i) refl
    where
      waits : wanted (asked.handled.rest.wait i b) ≡ Some need → is_some (t.turn.node.wait b) ≡ true
      waits g = is_waiting (t.turn.node.wait b)
          ∙ ap (λ (f : ℕ → Option Wait). is_some (wanted (f b)))
          (own_wait (view c k) i t.turn asked.handled is_asked.turned) ∙ ap is_some g

      go : (z : Bool) → eqb y i ≡ z
          → processor_of w y ((cond z node_now (c.nodes y)).shared.holder b)
          ≡ cond (z && not (is_some (wanted ((c.nodes y).shared.wait b)))) p (holder y b)
      go false e = refl
      go true e =
          let same = is_same y i e in
          let is_wait_now = waits (ap (λ j. wanted (asked.handled.rest.wait j b)) (sym same) ∙ h) in
          subst (λ j. processor_of w j (node_now.shared.holder b)
          ≡ cond (not (is_some (wanted ((c.nodes j).shared.wait b)))) p (holder j b)) (sym same)
          (ap (λ z. processor_of w i (cond z (holder_after x k b) 0)) is_wait_now
          ∙ holds_now (x.shared.wait b) (x.shared.holder b))

  leaves : LeavesNodes w plan lay some code nodes_now asked.handled c.nodes i
      (run (one w plan lay some code) s (picks_at w plan c (Exec p)))
  leaves = record {
    doing = with_at m.doing p (doing_then asked.again r.move);
    lanes = with_at lanes p (lane_after w.work.image r.lane r.move);
    locals = with_local locals1 i asked.handled.local;
    reserved = sharing.reserved_after w.work.layout w.work (processors w) (node_of w) there (lost w.work.layout) reserved
        p r;
    holder = matching.holder_after w.work.layout w.work (processors w) (node_of w) there plan code
        (protocol w plan lay some code) (side w plan lay some code) (laid w plan lay some code) rest
        holder p i;
    matches = event.behind;
    parts = λ j low. subst (IsPartHere (with_at m.doing p (doing_then asked.again r.move) j))
        (sym (parts_now j)) (elim (eqb j p)
        as (λ z. IsPartHere (cond z (doing_then asked.again r.move) (m.doing j))
        (cond z part (part_in w c.nodes j))) [ true ↦ part_is | false ↦ m.parts j low ]);
    numbers = λ y low. (elim (eqb y i)
        as (λ z. eqb y i ≡ z → (cond z node_now (c.nodes y)).shared.me ≡ y) [
          | true ↦ (λ e. same.me ∙ m.numbers i (there p below) ∙ sym (is_same y i e))
          | false ↦ (λ e. m.numbers y low)
        ]) refl;
    same_lanes = λ j low. lanes_now j;
    same_reserved = λ j low. reserved_now j;
    holders = λ y b need low h. holders_now y b need h;
    here = λ y. (elim (eqb y i)
        as (λ z. cond z asked.handled.local (cond z r.local (locals y))
        ≡ cond z asked.handled.local (locals y)) [ true ↦ refl | false ↦ refl ]);
  }

  few_wanted : (mv : Move) → Follows w.work.layout w.work plan code.Stands q n.local r kind mv
      → length (each_block_once w.work.layout (wants_of mv)) ≤ 2
  few_wanted (Leaves e) h = omega arith
  few_wanted (Waits resume want more) h = h.1.few
  few_wanted other h = omega arith

  abbrev ends : Bool
  ends = have_ended w node_now && not (have_ended w x)

  counted_here : WordCounts m.counts asked.handled.rest.counts
  counted_here =
      let all = asks_counts w.work.layout w.work (processors w) (node_of w) there plan (view c k) i
      locals1 (wants_at w x k)
      (record { handled = record { local = locals1 i; rest = rest }; again = false }) in
      let most = all.0 in
      let few = few_wanted r.move (code.word_follows q n.lane n.local suits here.0 here.1) in
      (omega (arith, most, few), all.1)

  pub word_leads : LeadsTo w plan lay some code s (picks_at w plan c (Exec p))
      (λ j. values_at w plan j c (Exec p)) (printed_at w c (Exec p)) (WordCounts m.counts)
      (event_step w c (Exec p)) × IsLicensed w plan c (Exec p)
  word_leads = (
    record {
      advanced = event.advanced;
      behind = core_then w plan lay some code c i k asked.handled
          (run (one w plan lay some code) s (picks_at w plan c (Exec p))) t.turn
          (changed x.lanes k part) (reserved_after w x k) held_now t.turn.node.counts
          t.turn.printed ends is_asked.turned leaves;
      counted = subst (WordCounts m.counts)
          (sym (core_counts w plan lay some code c i k asked.handled
          (run (one w plan lay some code) s (picks_at w plan c (Exec p))) t.turn
          (changed x.lanes k part) (reserved_after w x k) held_now t.turn.node.counts
          t.turn.printed ends is_asked.turned leaves)) counted_here;
    },
    event.licensed,
  )
