-- Core runs beside runs of the original processors.
use Rattle.std.proofs.Common.{◌≡◌, ℕ, ◌+◌, ◌<◌, ◌⊎◌, cond, eqb, Bool, true, false, List, [], ◌∷◌, Option, Some, None, refl, sym, ap, ◌∙◌, subst, inl, inr, append-nil, arith}
use Rattle.std.specs.Prelude.{is_some, option_and_then, not, ◌&&◌}
use Rattle.std.specs.Option.{option_map_or}
use Rattle.rewriting_law.proofs.Names.{Shape, blocks, Wire, Need, Wait, count_of, row_of, taker_in, Exit, Exited, Stopped, line_of, is_in_block, Original, Processor, State, Pick, opening, run, CommitKind, PlanEntry, commit_at, old_of, fetch, wanted, Work, Node, ProcessorState, NodeMemory, Want, Move, Waits, Leaves, Resume, WordOutcome, Phase, Running, Resumed, Waiting, Ended, lane_after, lane_resumed, phase_after, stop_or, takes_messages, standing_in, has_all_byes, word_outcome, Turn, holding, with_byes, is_ended, wants_of, after_word, after_wants, handled, has_no_wait, resumed, journaled, after_message, take_turn, each_block_once, Core, Event, Exec, Take, May, IsCoreRun, may_execute, may_take, opening_core, with_turn, with_list, take_first, event_step, after, printed_at, printed_by, messages_of, Order, is_wait, order_by, break_by, picks_of_take, picks_at, picks_of, values_at, values_of, AllLicensed, IsLicensed, original_by_node, EndsAs}
use Rattle.dsm_protocol.specs.node_model.declared.Standing.TheVariants as standing
use Rattle.rewriting_law.proofs.templates.RegisterLemmas.{equal, apart}
use Rattle.rewriting_law.proofs.words.CodeSide.{Pace, first_pace, pace_after, pace_at, AllWanted, Follows, CodeSide}
use Rattle.rewriting_law.proofs.one_memory.Sharing.{IsReadable, with_local, is_same, local_here}
use Rattle.rewriting_law.proofs.one_memory.Advances.{Advanced, FollowsTo, run_append, join}
use Rattle.rewriting_law.proofs.one_memory.Messages.{AreLaidOut}
use Rattle.rewriting_law.proofs.one_memory.Pending.{wanted_in, pending}
use Rattle.rewriting_law.proofs.protocol_side.ProtocolSide.{Handled, Protocol, ProtocolSide}
use Rattle.rewriting_law.proofs.protocol_side.Spending.{Counts, no_counts}
use Rattle.rewriting_law.proofs.one_memory.Wants.{ask_all}
use Rattle.rewriting_law.proofs.one_memory.Matching.{Activity, Runs, Awaits, HasEnded, StandsIn, wait_in, goes_or_stops, no_wait, doing_after, doing_still, lane_still, doing_taken, lane_taken, MayTake, EndsIn, ends_in, with_at, Matches, opening_matches, here, word_event, message_event}
use Rattle.rewriting_law.proofs.protocol_side.Directory.{Rest, took, take_from, order_from, is_some_list, directory}
use Rattle.rewriting_law.proofs.protocol_side.CountedBlocks.{none_counted, some_counted}
use Rattle.rewriting_law.proofs.protocol_side.DirectorySide.{Layout, Held, is_waiting, laid_out, directory_side}
use Rattle.rewriting_law.proofs.runs.Turns.{SameProcessor, byes_node, wants_same, handled_same, goes_on_from, resumed_is}
use Rattle.rewriting_law.proofs.runs.Behind.{held_like, counting, byes_behind}
use Rattle.rewriting_law.proofs.runs.TurnTies.{rest_at, rest_of, locals_of, IsTurn, local_after, own_wait, other_node, word_turned, AllFound, wants_turned, message_turned, resumed_blocks}
use Rattle.rewriting_law.proofs.protocol_side.Start.{opens}

resumed_me : (work : Work) (n : Node) (phase : Phase) → (resumed work n phase).me ≡ n.me
resumed_me work n = resumed_is work n (λ m. m.me ≡ n.me) refl (λ resume. refl)

module _ (work : Work) (plan : List PlanEntry) (lay : Layout work)
    (code : CodeSide work.layout work plan) where
  abbrev pub layout : Shape
  layout = work.layout

  abbrev protocol : Protocol
  protocol = directory layout

  abbrev side : ProtocolSide layout work protocol
  side = directory_side work lay

  abbrev laid : AreLaidOut layout work
  laid = laid_out work lay

  abbrev pub original : Original
  original = original_by_node work

  -- 1. What holds between two events

  -- a node's phase, by what its processor does
  abbrev pub IsPhase : Activity → Phase → Type 0
  IsPhase Runs phase = (phase ≡ Running) ⊎ (phase ≡ Resumed)
  IsPhase (Awaits resume want more) phase = phase ≡ Waiting resume
  IsPhase (HasEnded end) phase = phase ≡ Ended end

  -- one that runs has waited last only where it has just got what it waited for
  abbrev IsCalm : Pace → Phase → Type 0
  IsCalm p phase = phase ≡ Running → p.waited ≡ false

  abbrev lanes_of : Core → ℕ → ProcessorState
  lanes_of c i = (c.nodes i).lane

  abbrev MatchesHere : (ℕ → Pace) → (ℕ → ProcessorState) → (ℕ → Activity) → (ℕ → NodeMemory) → Rest → State
      → Type 0
  MatchesHere paces lanes doing locals rest s =
      Matches layout work plan code protocol side laid paces lanes doing locals rest s

  pub record MatchesCore (c : Core) (s : State) : Type 0 where
    pub paces : ℕ → Pace
    pub doing : ℕ → Activity
    pub calm : (i : ℕ) → i < layout.nodes → IsCalm (paces i) (c.nodes i).phase
    pub phases : (i : ℕ) → i < layout.nodes → IsPhase (doing i) (c.nodes i).phase
    pub numbers : (i : ℕ) → i < layout.nodes → (c.nodes i).me ≡ i
    -- what was wanted and taken so far
    pub counts : Counts
    pub matches : MatchesHere paces (lanes_of c) doing (locals_of c) (rest_at counts c) s

  matches_like : (paces : ℕ → Pace) (lanes lanes' : ℕ → ProcessorState) (doing : ℕ → Activity) (locals others : ℕ → NodeMemory)
      (old new : Rest) (s : State) → MatchesHere paces lanes doing locals old s
      → ((x : ℕ) → lanes' x ≡ lanes x) → ((x : ℕ) → others x ≡ locals x)
      → Held work lay others new s.shared
      → ((x b : ℕ) → wanted (new.wait x b) ≡ wanted (old.wait x b))
      → MatchesHere paces lanes' doing others new s
  matches_like paces lanes lanes' doing locals others old new s m same_lanes same held waits = record {
    shares = record {
      held = held;
      reservations = λ j low. ap (λ (n : NodeMemory). n.reservation) (same j)
          ∙ m.shares.reservations j low;
      readable = λ j low. subst (IsReadable layout work) (sym (same j)) (m.shares.readable j low);
    };
    stands = λ i low. subst (λ l. StandsIn layout work plan code protocol side laid (paces i) (doing i)
        (s.processors i) l (others i)) (sym (same_lanes i))
        (subst (StandsIn layout work plan code protocol side laid (paces i) (doing i) (s.processors i)
        (lanes i)) (sym (same i)) (m.stands i low));
    waits = λ i b low. waits i b ∙ m.waits i b low;
  }

  -- 2. A turn, with the Byes behind it

  -- a node's turn, with what it leaves
  module _ (c : Core) (i : ℕ) (t : Turn) (u : Handled Rest) (h : IsTurn c i t u) (ends : Bool)
      (paces : ℕ → Pace) (doing : ℕ → Activity) (p : Pace) (l : ProcessorState) (a : Activity) (s : State)
      (m : MatchesHere (with_at paces i p) (with_at (lanes_of c) i l) (with_at doing i a)
      (with_local (locals_of c) i u.local) u.rest s) where
    abbrev t' : Turn
    t' = with_byes layout.nodes t ends

    abbrev c' : Core
    c' = with_turn c i t'

    same_node : t'.node ≡ t.node
    same_node = byes_node layout.nodes t ends

    lane_is : t.node.lane ≡ l → (x : ℕ) → lanes_of c' x ≡ with_at (lanes_of c) i l x
    lane_is lane x = (elim (eqb x i)
        as (λ z. (cond z t'.node (c.nodes x)).lane ≡ cond z l (c.nodes x).lane) [
          | true ↦ ap (λ (n : Node). n.lane) same_node ∙ lane
          | false ↦ refl
        ])

    matches_then : t.node.lane ≡ l
        → MatchesHere (with_at paces i p) (lanes_of c') (with_at doing i a) (locals_of c')
        (rest_at u.rest.counts c') s
    matches_then lane =
        let b = byes_behind work lay c i t u ends h in
        let locals : (x : ℕ) → locals_of c' x ≡ with_local (locals_of c) i u.local x =
        (λ x. local_after c i t' b.left b.turned x
        ∙ ap (λ n. with_local (locals_of c) i n x) b.local) in
        matches_like (with_at paces i p) (with_at (lanes_of c) i l) (lanes_of c') (with_at doing i a)
        (with_local (locals_of c) i u.local) (locals_of c') u.rest (rest_at u.rest.counts c') s m
        (lane_is lane) locals
        (held_like work lay (with_local (locals_of c) i u.local) (locals_of c') b.left.rest
        (rest_at u.rest.counts c') s.shared locals
        (counting work lay b.left.rest c' u.rest.counts b.turned.rest) (sym b.counts)
        (b.held (with_local (locals_of c) i u.local) s.shared m.shares.held))
        (λ x d. ap (λ (f : ℕ → Option Wait). wanted (f d)) (b.turned.rest.wait x)
        ∙ ap wanted (b.waits x d))

    pub core_then : t.node.lane ≡ l → IsCalm p t.node.phase
        → ((x : ℕ) → x < layout.nodes → IsCalm (paces x) (c.nodes x).phase)
        → IsPhase a t.node.phase → t.node.me ≡ (c.nodes i).me
        → ((x : ℕ) → x < layout.nodes → IsPhase (doing x) (c.nodes x).phase)
        → ((x : ℕ) → x < layout.nodes → (c.nodes x).me ≡ x) → MatchesCore c' s
    core_then lane calm calms phase me phases numbers = record {
      paces = with_at paces i p;
      doing = with_at doing i a;
      calm = λ x low. (elim (eqb x i)
          as (λ z. IsCalm (cond z p (paces x)) (cond z t'.node (c.nodes x)).phase) [
            | true ↦ subst (λ (n : Node). IsCalm p n.phase) (sym same_node) calm
            | false ↦ calms x low
          ]);
      phases = λ x low. (elim (eqb x i)
          as (λ z. IsPhase (cond z a (doing x)) (cond z t'.node (c.nodes x)).phase) [
            | true ↦ subst (λ (n : Node). IsPhase a n.phase) (sym same_node) phase
            | false ↦ phases x low
          ]);
      numbers = λ x low. (elim (eqb x i)
          as (λ z. eqb x i ≡ z → (cond z t'.node (c.nodes x)).me ≡ x) [
            | true ↦ (λ e. ap (λ (n : Node). n.me) same_node ∙ me
                ∙ ap (λ k. (c.nodes k).me) (sym (is_same x i e)) ∙ numbers x low)
            | false ↦ (λ e. numbers x low)
          ]) refl;
      counts = u.rest.counts;
      matches = matches_then lane;
    }

  -- 3. Phases

  stop_phase : (executed : ℕ) (p : Phase) → (p ≡ Running) ⊎ (p ≡ Resumed)
      → IsPhase (goes_or_stops layout work plan code protocol side laid executed)
      (stop_or work.budget executed p)
  stop_phase executed p h = (elim (eqb executed work.budget)
      as (λ z. IsPhase (cond z (HasEnded (Stopped work.budget)) Runs)
      (cond z (Ended (Stopped work.budget)) p)) [ true ↦ refl | false ↦ h ])

  word_phase : (executed : ℕ) (mv : Move)
      → IsPhase (doing_after layout work plan code protocol side laid executed mv)
      (phase_after work.budget executed mv)
  word_phase executed (Leaves e) = refl
  word_phase executed (Waits resume want more) = refl
  word_phase executed other = stop_phase executed Running (inl refl)

  -- only a word that doesn't wait leaves a processor running
  word_calm : (executed : ℕ) (mv : Move) → phase_after work.budget executed mv ≡ Running
      → is_wait mv ≡ false
  word_calm executed (Leaves e) h = refl
  word_calm executed (Waits resume want more) h = let bad : Waiting resume ≡ Running = h in cc
  word_calm executed other h = refl

  resumed_calm : (n : Node) (phase : Phase) → n.phase ≡ phase → (resumed work n phase).phase ≡ Running
      → phase ≡ Running
  resumed_calm n Running is h = refl
  resumed_calm n Resumed is h = let bad : Resumed ≡ Running = sym is ∙ h in cc
  resumed_calm n (Ended end) is h = let bad : Ended end ≡ Running = sym is ∙ h in cc
  resumed_calm n (Waiting resume) is h = go (has_no_wait work.layout n) h
    where
      stops : (b : Bool) → cond b (Ended (Stopped work.budget)) Resumed ≡ Running → ⊥
      stops true e = cc
      stops false e = cc

      go : (b : Bool) → (cond b (goes_on_from work n resume) n).phase ≡ Running
          → Waiting resume ≡ Running
      go true e = absurd (stops (eqb n.executed work.budget) e)
      go false e = sym is ∙ e

  over_or_ended : (all : Bool) → may_execute (cond all standing.Over standing.Ended) ≡ false
  over_or_ended true = refl
  over_or_ended false = refl

  pub may_run : (n : Node) (a : Activity) (p : Phase) → IsPhase a p
      → may_execute (standing_in work n p) ≡ true → a ≡ Runs
  may_run n Runs p h e = refl
  may_run n (Awaits resume want more) p h e =
      let bad : false ≡ true = sym (ap (λ q. may_execute (standing_in work n q)) h) ∙ e in cc
  may_run n (HasEnded end) p h e =
      let bad : false ≡ true = sym (over_or_ended (has_all_byes work n))
      ∙ sym (ap (λ q. may_execute (standing_in work n q)) h) ∙ e in cc

  may_take_there : (n : Node) (x : Pace) (a : Activity) (p : Phase) → IsPhase a p → IsCalm x p
      → may_take (standing_in work n p) ≡ true
      → MayTake layout work plan code protocol side laid x a n.lane
  may_take_there n x (Awaits resume want more) p h calm e = tt
  may_take_there n x (HasEnded end) p h calm e = tt
  may_take_there n x Runs p (inr h) calm e =
      let bad : false ≡ true = sym (ap (λ q. may_take (standing_in work n q)) h) ∙ e in cc
  may_take_there n x Runs p (inl h) calm e = (
    go (takes_messages (option_and_then (λ w. w.what) (fetch work.image n.lane.at)))
        (sym (ap (λ q. may_take (standing_in work n q)) h) ∙ e),
    calm h,
  )
    where
      go : (u : Bool) → may_take (cond u standing.AtPoll standing.Running) ≡ true → u ≡ true
      go true e = refl
      go false e = let bad : false ≡ true = e in cc

  ends_as : (a : Activity) (p : Phase) (exit : Option Exit) → IsPhase a p
      → EndsIn layout work plan code protocol side laid a exit → EndsAs work.budget exit p
  ends_as Runs p exit (inl h) e = subst (EndsAs work.budget exit) (sym h) e
  ends_as Runs p exit (inr h) e = subst (EndsAs work.budget exit) (sym h) e
  ends_as (Awaits resume want more) p exit h e = subst (EndsAs work.budget exit) (sym h) e
  ends_as (HasEnded (Exited x)) p exit h e = subst (EndsAs work.budget exit) (sym h) e
  ends_as (HasEnded (Stopped b)) p exit h e = subst (EndsAs work.budget exit) (sym h) e

  -- 4. Events

  -- what was wanted and taken once node i has executed its next word
  abbrev pub counts_of_word : Counts → Core → ℕ → Counts
  counts_of_word counts c i =
      let r = word_outcome work (c.nodes i) in
      let locals = with_local (locals_of c) i r.local in
      (ask_all layout work plan protocol locals i
      (record { local = locals i; rest = rest_at counts c })
      (each_block_once layout (wants_of r.move))).rest.counts

  -- and once it has taken the first message from node j
  abbrev pub counts_of_take : Counts → Core → (i j : ℕ) → Counts
  counts_of_take counts c i j = (protocol.take (locals_of c) (rest_at counts c) i j).rest.counts

  abbrev pub counts_by : Counts → Core → Event → Counts
  counts_by counts c (Exec i) = counts_of_word counts c i
  counts_by counts c (Take i j) = counts_of_take counts c i j

  -- the paces behind an event
  abbrev pub pace_of_word : Core → (ℕ → Pace) → ℕ → Pace
  pace_of_word c paces i =
      pace_after (pace_at work (c.nodes i).lane (paces i))
      (commit_at work.program plan (old_of work.image (c.nodes i).lane.at))
      (word_outcome work (c.nodes i))

  abbrev pub paces_by : Core → (ℕ → Pace) → Event → ℕ → Pace
  paces_by c paces (Exec i) = with_at paces i (pace_of_word c paces i)
  paces_by c paces (Take i j) = with_at paces i (paces i)

  -- these picks lead to this core, and what is read and printed is theirs
  pub record LeadsTo (s : State) (ks : List Pick) (values : ℕ → List ℕ) (printed : List ℕ)
      (counts : Counts) (paces : ℕ → Pace) (c' : Core) : Type 0 where
    pub advanced : Advanced original s ks values printed
    pub behind : MatchesCore c' (run original s ks)
    pub counted : behind.counts ≡ counts
    pub paced : behind.paces ≡ paces

  module _ (c : Core) (s : State) (m : MatchesCore c s) (i : ℕ) (below : i < layout.nodes) where
    abbrev n : Node
    n = c.nodes i

    abbrev q : Processor
    q = s.processors i

    -- what a word waits for are blocks
    all_found : (ws : List Want) → AllWanted layout work plan q n.local ws → AllFound c i layout ws
    all_found [] h = tt
    all_found (w ∷ ws) h = (laid.found (line_of w.at) h.0.shared, all_found ws h.2)

    follows_found : (r : WordOutcome) (kind : CommitKind) (mv : Move)
        → Follows layout work plan (code.Stands (pace_of_word c m.paces i)) q n.local r kind mv
        → AllFound c i layout (each_block_once layout (wants_of mv))
    follows_found r kind (Leaves e) h = tt
    follows_found r kind (Waits resume want more) h =
        all_found (each_block_once layout (want ∷ more)) h.1.wanted
    follows_found r kind other h = tt

    -- a word
    module _ (runs : m.doing i ≡ Runs) where
      abbrev r : WordOutcome
      r = word_outcome work n

      abbrev locals1 : ℕ → NodeMemory
      locals1 = with_local (locals_of c) i r.local

      abbrev first : Handled Rest
      first = record { local = locals1 i; rest = rest_at m.counts c }

      abbrev asked : Handled Rest
      asked = ask_all layout work plan protocol locals1 i first
          (each_block_once layout (wants_of r.move))

      -- what the word does, by its move
      pub next_word : Follows layout work plan (code.Stands (pace_of_word c m.paces i)) q n.local r
          (commit_at work.program plan (old_of work.image n.lane.at)) r.move
      next_word =
          let there = here layout work plan code protocol side laid m.paces (lanes_of c) m.doing
          (locals_of c) (rest_at m.counts c) s m.matches i below runs (n.executed + 1) in
          code.word_follows (m.paces i) q n.lane n.local
          (side.suits (locals_of c) (rest_at m.counts c) s.shared m.matches.shares.held i below)
          there.0 there.1

      pub found : AllFound c i layout (each_block_once layout (wants_of r.move))
      found = follows_found r (commit_at work.program plan (old_of work.image n.lane.at)) r.move
          next_word

      turned : IsTurn c i (after_wants work n) asked
      turned =
          wants_turned c i layout work plan locals1 (each_block_once layout (wants_of r.move))
          (after_word work n) first found (subst (λ x. IsTurn c i (after_word work n)
          (record { local = x; rest = rest_at m.counts c }))
          (sym (local_here (locals_of c) i r.local)) (word_turned c i work m.counts))

      word_leads : LeadsTo s (picks_at work plan c (Exec i)) (λ p. values_at work plan p c (Exec i))
          (printed_at work c (Exec i)) (counts_of_word m.counts c i)
          (paces_by c m.paces (Exec i)) (event_step work c (Exec i))
          × IsLicensed work plan c (Exec i)
      unfolding core_then
      word_leads =
          let w = word_event layout work plan code protocol side laid m.paces (lanes_of c) m.doing
          (locals_of c) (rest_at m.counts c) s m.matches i below runs (n.executed + 1) in
          let t = after_wants work n in
          let same = wants_same layout (each_block_once layout (wants_of r.move))
          (after_word work n) in
          let ks = picks_at work plan c (Exec i) in (
            record {
              advanced = w.advanced;
              behind = core_then c i t asked turned (is_ended t.node.phase) m.paces m.doing
                  (pace_of_word c m.paces i) (lane_after work.image r.lane r.move)
                  (doing_after layout work plan code protocol side laid (n.executed + 1) r.move)
                  (run original s ks) w.behind same.lane
                  (λ e. word_calm (n.executed + 1) r.move (sym same.phase ∙ e)) m.calm
                  (subst (IsPhase (doing_after layout work plan code protocol side laid
                  (n.executed + 1) r.move)) (sym same.phase) (word_phase (n.executed + 1) r.move))
                  same.me m.phases m.numbers;
              counted = refl;
              paced = refl;
            },
            w.licensed,
          )

    -- a message
    module _ (j : ℕ) (lj : j < layout.nodes) (wire : Wire) (ws : List Wire)
        (front : c.list j i ≡ wire ∷ ws)
        (can : MayTake layout work plan code protocol side laid (m.paces i) (m.doing i) n.lane) where
      abbrev c1 : Core
      c1 = with_list c j i ws

      abbrev n1 : Node
      n1 = journaled n j wire

      abbrev t1 : Turn
      t1 = handled layout n1 j wire.message

      abbrev taken : Handled Rest
      taken = protocol.take (locals_of c) (rest_at m.counts c) i j

      abbrev wait_then : ℕ → Option Need
      wait_then = protocol.wait taken.rest i

      abbrev a_then : Activity
      a_then = doing_taken layout work plan code protocol side laid n.executed wait_then (m.doing i)

      abbrev l_then : ProcessorState
      l_then = lane_taken layout work plan code protocol side laid n.lane taken.local wait_then
          (m.doing i)

      row_taken : took layout n.local (rest_at m.counts c) i j (messages_of ws)
          (row_of layout n1.me (holding layout n1) j wire.message) ≡ taken
      row_taken =
          ap (λ k. took layout n.local (rest_at m.counts c) i j (messages_of ws)
          (row_of layout k (holding layout n1) j wire.message)) (m.numbers i below)
          ∙ ap (λ xs. take_from layout (locals_of c) (rest_at m.counts c) i j (messages_of xs))
          (sym front)

      handled_turned : IsTurn c1 i t1 taken
      handled_turned =
          subst (IsTurn c1 i t1) row_taken
          (message_turned c1 i layout m.counts c.list j ws (λ x y. refl) n1 (record {
            local = refl;
            entry = refl;
            waiting = refl;
            occupancy = refl;
            wait = refl;
          }) wire.message)

      abbrev n2 : Node
      n2 = resumed work t1.node t1.node.phase

      turned_on : IsTurn c1 i (after_message work n j wire) taken
      turned_on = other_node c1 i t1 n2 taken (resumed_blocks c1 i work t1.node t1.node.phase)
          handled_turned

      has : is_some_list layout (messages_of (c.list j i)) ≡ true
      has = ap (λ xs. is_some_list layout (messages_of xs)) front

      same1 : SameProcessor n1 t1.node
      same1 = handled_same layout n1 j wire.message

      abbrev phase_there : (a : Activity) → Type 0
      phase_there a =
          (n2.lane
          ≡ lane_taken layout work plan code protocol side laid n.lane taken.local wait_then a)
          × IsPhase (doing_taken layout work plan code protocol side laid n.executed wait_then a)
          n2.phase

      -- what the node waits for then
      waited : (b : ℕ) → is_some (t1.node.wait b) ≡ is_some (wait_then b)
      waited b = is_waiting (t1.node.wait b) ∙ ap (λ (f : ℕ → Option Wait). is_some (wanted (f b)))
          (own_wait c1 i t1 taken handled_turned)

      none_waits : ((b : ℕ) → wait_then b ≡ None) → has_no_wait layout t1.node ≡ true
      none_waits none =
          equal (count_of (λ b. is_some (t1.node.wait b)) (blocks layout)) 0
          (none_counted (λ b. is_some (t1.node.wait b)) (blocks layout)
          (λ b low. waited b ∙ ap is_some (none b)))

      one_waits : (b : ℕ) (need : Need) → b < blocks layout → wait_then b ≡ Some need
          → has_no_wait layout t1.node ≡ false
      one_waits b need low is =
          let some = some_counted (λ b. is_some (t1.node.wait b)) b (blocks layout) low
          (waited b ∙ ap is_some is) in
          apart (count_of (λ b. is_some (t1.node.wait b)) (blocks layout)) 0 (λ e.
          omega (arith, some, e))

      abbrev WaitsAs : Activity → Type 0
      WaitsAs a = (b : ℕ) → wait_then b ≡ wait_in layout work plan code protocol side laid a b

      abbrev on : Resume → Node
      on resume = goes_on_from work t1.node resume

      -- once its last wait has ended the processor goes on
      goes_there : (p : Processor) (l : ProcessorState) (x : NodeMemory) (resume : Resume) (ws : List Want)
          → n2 ≡ cond (has_no_wait layout t1.node) (on resume) t1.node
          → t1.node.phase ≡ Waiting resume
          → StandsIn layout work plan code protocol side laid (m.paces i)
          (doing_still layout work plan code protocol side laid n.executed resume ws) p l x
          → WaitsAs (doing_still layout work plan code protocol side laid n.executed resume ws)
          → (n2.lane
          ≡ lane_still layout work plan code protocol side laid n.lane taken.local resume ws)
          × IsPhase (doing_still layout work plan code protocol side laid n.executed resume ws)
          n2.phase
      goes_there p l x resume [] is phase stands waits =
          let none = none_waits (λ b. waits b
          ∙ no_wait layout work plan code protocol side laid n.executed b) in
          let to : n2 ≡ on resume = is ∙ ap (λ z. cond z (on resume) t1.node) none in (
            ap (λ (y : Node). y.lane) to ∙ ap (λ z. lane_resumed z t1.node.local resume) same1.lane
                ∙ ap (λ x. lane_resumed n.lane x resume) handled_turned.local,
            subst (IsPhase (goes_or_stops layout work plan code protocol side laid n.executed))
                (sym (ap (λ (y : Node). y.phase) to
                ∙ ap (λ k. stop_or work.budget k Resumed) same1.executed))
                (stop_phase n.executed Resumed (inr refl)),
          )
      goes_there p l x resume (w ∷ ws) is phase stands waits =
          let block = laid.found (line_of w.at) stands.sought.0 in
          let b = block.0 in
          let within : is_in_block layout b w.at ≡ true =
          ap (λ o. option_map_or (λ d. eqb d b) o false) block.1 ∙ equal b b refl in
          let some = one_waits b w.need (lay.laws.found layout b (line_of w.at) lay.valid block.1).0
          (waits b ∙ ap (λ z. cond z (Some w.need) (wanted_in layout b ws)) within) in
          let to : n2 ≡ t1.node = is ∙ ap (λ z. cond z (on resume) t1.node) some in
          (ap (λ (y : Node). y.lane) to ∙ same1.lane, ap (λ (y : Node). y.phase) to ∙ phase)

      phases_after : (a : Activity) → IsPhase a n.phase → (p : Processor) (l : ProcessorState) (x : NodeMemory)
          → StandsIn layout work plan code protocol side laid (m.paces i)
          (doing_taken layout work plan code protocol side laid n.executed wait_then a) p l x
          → WaitsAs (doing_taken layout work plan code protocol side laid n.executed wait_then a)
          → phase_there a
      phases_after Runs (inl h) p l x stands waits =
          let to : n2 ≡ t1.node = ap (resumed work t1.node) (same1.phase ∙ h) in (
            ap (λ (y : Node). y.lane) to ∙ same1.lane,
            inl (ap (λ (y : Node). y.phase) to ∙ same1.phase ∙ h),
          )
      phases_after Runs (inr h) p l x stands waits =
          let to : n2 ≡ t1.node = ap (resumed work t1.node) (same1.phase ∙ h) in (
            ap (λ (y : Node). y.lane) to ∙ same1.lane,
            inr (ap (λ (y : Node). y.phase) to ∙ same1.phase ∙ h),
          )
      phases_after (HasEnded end) h p l x stands waits =
          let to : n2 ≡ t1.node = ap (resumed work t1.node) (same1.phase ∙ h) in (
            ap (λ (y : Node). y.lane) to ∙ same1.lane,
            ap (λ (y : Node). y.phase) to ∙ same1.phase ∙ h,
          )
      phases_after (Awaits resume want more) h p l x stands waits =
          goes_there p l x resume (pending layout wait_then (want ∷ more))
          (ap (resumed work t1.node) (same1.phase ∙ h)) (same1.phase ∙ h) stands waits

      abbrev order_there : Option Order
      order_there = protocol.order (locals_of c) (rest_at m.counts c) i j

      picks_are : picks_of_take work c i j (c.list j i)
          ≡ break_by layout i order_there n.local.reservation
      picks_are =
          ap (picks_of_take work c i j) front
          ∙ ap (λ k. break_by layout i (order_by (taker_in wire.message)
          (row_of layout k (holding layout n) j wire.message)) n.local.reservation)
          (m.numbers i below) ∙ ap (λ xs. break_by layout i
          (order_from layout (locals_of c) (rest_at m.counts c) i j (messages_of xs))
          n.local.reservation) (sym front)

      message_leads : LeadsTo s (break_by layout i order_there n.local.reservation) (λ p. []) []
          (counts_of_take m.counts c i j) (paces_by c m.paces (Take i j))
          (with_turn c1 i (take_turn work n j wire))
      unfolding core_then
      message_leads =
          let e = message_event layout work plan code protocol side laid m.paces (lanes_of c) m.doing
          (locals_of c) (rest_at m.counts c) s m.matches i below n.executed j lj can has in
          let ks = break_by layout i order_there n.local.reservation in
          let at_here : with_at m.doing i a_then i ≡ a_then =
          ap (λ z. cond z a_then (m.doing i)) (equal i i refl) in
          let same_pace : with_at m.paces i (m.paces i) i ≡ m.paces i =
          ap (λ z. cond z (m.paces i) (m.paces i)) (equal i i refl) in
          let went = phases_after (m.doing i) (m.phases i below)
          ((run original s ks).processors i) (with_at (lanes_of c) i l_then i)
          (with_local (locals_of c) i taken.local i)
          (subst (λ a. StandsIn layout work plan code protocol side laid (m.paces i) a
          ((run original s ks).processors i) (with_at (lanes_of c) i l_then i)
          (with_local (locals_of c) i taken.local i)) at_here
          (subst (λ x. StandsIn layout work plan code protocol side laid x (with_at m.doing i a_then i)
          ((run original s ks).processors i) (with_at (lanes_of c) i l_then i)
          (with_local (locals_of c) i taken.local i)) same_pace (e.behind.stands i below)))
          (λ b. e.behind.waits i b below
          ∙ ap (λ a. wait_in layout work plan code protocol side laid a b) at_here) in
          record {
            advanced = e.advanced;
            behind = core_then c1 i (after_message work n j wire) taken turned_on
                (is_ended (after_message work n j wire).node.phase && not (is_ended n.phase))
                m.paces m.doing (m.paces i) l_then a_then (run original s ks) e.behind went.0
                (λ h. m.calm i below (sym same1.phase ∙ resumed_calm t1.node t1.node.phase refl h))
                m.calm went.1 (resumed_me work t1.node t1.node.phase ∙ same1.me) m.phases m.numbers;
            counted = refl {a = taken.rest.counts};
            paced = refl;
          }

      took_leads : LeadsTo s (picks_of_take work c i j (c.list j i)) (λ p. []) []
          (counts_of_take m.counts c i j) (paces_by c m.paces (Take i j)) (take_first work c i j (c.list j i))
      took_leads =
          subst (λ ks. LeadsTo s ks (λ p. []) [] (counts_of_take m.counts c i j)
          (paces_by c m.paces (Take i j)) (take_first work c i j (c.list j i))) (sym picks_are)
          (subst (λ xs. LeadsTo s (break_by layout i order_there n.local.reservation) (λ p. []) []
          (counts_of_take m.counts c i j) (paces_by c m.paces (Take i j)) (take_first work c i j xs))
          (sym front) message_leads)

  pub event_leads : (c : Core) (s : State) (m : MatchesCore c s) (e : Event) → May work c e
      → LeadsTo s (picks_at work plan c e) (λ p. values_at work plan p c e) (printed_at work c e)
      (counts_by m.counts c e) (paces_by c m.paces e) (event_step work c e)
      × IsLicensed work plan c e
  event_leads c s m (Exec i) may =
      word_leads c s m i may.0
      (may_run (c.nodes i) (m.doing i) (c.nodes i).phase (m.phases i may.0) may.1)
  event_leads c s m (Take i j) may = go (c.list j i) refl
    where
      go : (xs : List Wire) → c.list j i ≡ xs
          → LeadsTo s (picks_of_take work c i j (c.list j i)) (λ p. []) []
          (counts_of_take m.counts c i j) (paces_by c m.paces (Take i j))
          (take_first work c i j (c.list j i)) × Unit {0}
      go [] e = absurd (may.3 e)
      go (wire ∷ ws) e = (
        took_leads c s m i may.0 j may.1 wire ws e
            (may_take_there (c.nodes i) (m.paces i) (m.doing i) (c.nodes i).phase (m.phases i may.0)
            (m.calm i may.0) may.2),
        tt,
      )

  -- 5. Runs

  -- the exits after a run are those of its nodes' phases
  abbrev pub EndsBy : Core → List Event → ℕ → Option Exit → Type 0
  EndsBy c es p exit = EndsAs work.budget exit ((after work c es).nodes p).phase

  -- the run is, by its picks, a run of the original with the same values, output and exits; each
  -- access is licensed; and the nodes match the one memory after it
  pub record Composes (c : Core) (s : State) (es : List Event) : Type 0 where
    pub follows : FollowsTo original (EndsBy c es) s (picks_of work plan c es)
        (λ p. values_of work plan p c es) (printed_by work c es)
    pub licensed : AllLicensed work plan c es
    pub matches : MatchesCore (after work c es) (run original s (picks_of work plan c es))

  pub composes : (es : List Event) (c : Core) (s : State) → MatchesCore c s
      → IsCoreRun work c es → Composes c s es
  composes [] c s m may = record {
    follows = record {
      advanced = record {
        allowed = tt;
        same_values = λ p. refl;
        output = sym (append-nil s.output);
      };
      ends = λ p low. ends_as (m.doing p) (c.nodes p).phase (s.processors p).exit (m.phases p low)
          (ends_in layout work plan code protocol side laid (m.paces p) (m.doing p) (s.processors p)
          (c.nodes p).lane (c.nodes p).local (m.matches.stands p low));
    };
    licensed = tt;
    matches = m;
  }
  composes (e ∷ es) c s m may =
      let a = event_leads c s m e may.0 in
      let d = event_step work c e in
      let ks = picks_at work plan c e in
      let rest = composes es d (run original s ks) a.0.behind may.1 in
      record {
        follows = join original (EndsBy d es) s ks (picks_of work plan d es)
            (λ p. values_at work plan p c e) (λ p. values_of work plan p d es) (printed_at work c e)
            (printed_by work d es) a.0.advanced rest.follows;
        licensed = (a.1, rest.licensed);
        matches = subst (MatchesCore (after work d es))
            (sym (run_append original ks (picks_of work plan d es) s)) rest.matches;
      }

  -- 6. From the start

  pub start_matches : MatchesCore (opening_core work) (opening original)
  start_matches = record {
    paces = λ i. first_pace;
    doing = λ i. Runs;
    calm = λ i low e. refl;
    phases = λ i low. inl refl;
    numbers = λ i low. refl;
    counts = no_counts;
    matches = opening_matches layout work plan code protocol side laid
        (locals_of (opening_core work)) (rest_of (opening_core work)) (opens work lay) (λ i. refl)
        (λ i b low. refl);
  }

  pub start_counts : start_matches.counts ≡ no_counts
  unfolding start_matches
  start_counts = refl

  pub start_paces : start_matches.paces ≡ (λ i. first_pace)
  unfolding start_matches
  start_paces = refl

  pub composes_from_start : (es : List Event) → IsCoreRun work (opening_core work) es
      → Composes (opening_core work) (opening original) es
  composes_from_start es may = composes es (opening_core work) (opening original) start_matches may
