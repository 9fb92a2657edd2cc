-- Nodes of several processors beside the one memory: a message that one of them takes keeps what
-- holds between two events.
use Rattle.std.proofs.Common.{◌≡◌, ℕ, ◌<◌, ◌⊎◌, cond, eqb, Bool, true, false, List, [], ◌∷◌, length, ◌≤◌, Option, Some, None, refl, sym, ap, ◌∙◌, subst, inl, inr, arith}
use Rattle.std.specs.Prelude.{if◌then◌else◌, ◌==◌, is_some, option_and_then}
use Rattle.std.specs.Option.{option_map_or}
use Rattle.lane_law.proofs.Names.{Shape, block_of, has_line, Exited, Stopped, Class, Shared, ReadOnly, Private, Unmapped, line_of, is_in_block, stands_at_store, RunsToStore, Original, Processor, State, Pick, run, PlanEntry, fetch, Need, Write, Work, ProcessorState, NodeMemory, Want, Resume, lane_resumed, takes_messages, is_readable_state, is_writable_state, Order, held_order}
use Rattle.rewriting_law.proofs.templates.RegisterLemmas.{equal}
use Rattle.rewriting_law.proofs.templates.States.{StateFits, Suits, Later, grants}
use Rattle.rewriting_law.proofs.one_memory.Advances.{Advanced}
use Rattle.rewriting_law.proofs.one_memory.Sharing.{Sharing, with_local, is_same, local_here}
use Rattle.rewriting_law.proofs.one_memory.Messages.{AreLaidOut, cleared_by}
use Rattle.rewriting_law.proofs.one_memory.Pending.{wanted_in, is_pending, pending, StandsWaiting, waiting_stores, waits_on, pending_wanted, not_pending}
use Rattle.rewriting_law.proofs.protocol_side.ProtocolSide.{Handled, Protocol, ProtocolSide, TakeLeaves, sharing_by}
use Rattle.lane_law.proofs.LaneCode.{LaneCode}
use Rattle.rewriting_law.proofs.one_memory.SharedWords.{original, seen}
use Rattle.lane_law.proofs.LaneMessages.{breaks, reserved_then, Took, Taken, message_shares, cleared_left}
use Rattle.lane_law.proofs.LaneWants.{covers_grants, IsCovered}
use Rattle.lane_law.proofs.LaneMatching as matching
use Rattle.lane_law.proofs.LaneMatching.{Doing, Runs, Awaits, HasEnded, left_held}

module _ (layout : Shape) (work : Work) (processors : ℕ) (node_of : ℕ → ℕ)
    (placed : (p : ℕ) → p < processors → node_of p < work.layout.nodes) (plan : List PlanEntry)
    (code : LaneCode layout work processors plan) (protocol : Protocol)
    (side : ProtocolSide layout work protocol) (laid : AreLaidOut layout work) where
  abbrev sharing_at : protocol.Rest → Sharing layout work
  sharing_at rest = sharing_by layout work protocol side laid rest

  abbrev sees : (ℕ → NodeMemory) → (ℕ → Option ℕ) → ℕ → NodeMemory
  sees = seen layout work processors node_of placed

  abbrev StandsIn : Doing → Processor → ProcessorState → NodeMemory → Type 0
  StandsIn = matching.StandsIn layout work processors node_of placed plan code protocol side laid

  abbrev wait_in : Doing → ℕ → Option Need
  wait_in = matching.wait_in layout work processors node_of placed plan code protocol side laid

  abbrev again_in : Doing → Bool
  again_in = matching.again_in layout work processors node_of placed plan code protocol side laid

  abbrev IsHeld : (ℕ → Doing) → (i b : ℕ) → Need → ℕ → Type 0
  IsHeld = matching.IsHeld layout work processors node_of placed plan code protocol side laid

  abbrev Matches : (ℕ → ProcessorState) → (ℕ → Doing) → (ℕ → NodeMemory) → (ℕ → Option ℕ) → protocol.Rest
      → (ℕ → ℕ → ℕ) → State → Type 0
  Matches = matching.Matches layout work processors node_of placed plan code protocol side laid

  abbrev goes_or_stops : ℕ → Doing
  goes_or_stops =
      matching.goes_or_stops layout work processors node_of placed plan code protocol side laid

  abbrev doing_still : ℕ → Resume → List Want → Bool → Doing
  doing_still =
      matching.doing_still layout work processors node_of placed plan code protocol side laid

  no_wait : (executed b : ℕ) → wait_in (goes_or_stops executed) b ≡ None
  no_wait = matching.no_wait layout work processors node_of placed plan code protocol side laid

  stands_or_stops : (executed : ℕ) (q : Processor) (l : ProcessorState) (n : NodeMemory) → q.exit ≡ None
      → code.Stands q l n → StandsIn (goes_or_stops executed) q l n
  stands_or_stops =
      matching.stands_or_stops layout work processors node_of placed plan code protocol side laid

  of_held : (holder : ℕ → ℕ → ℕ) (o : Option Order) (x : Order) → held_order holder o ≡ Some x
      → (y : Order) × (o ≡ Some y) × (x.block ≡ y.block)
      × (x.requester ≡ holder y.requester y.block)
  of_held holder None x h = let bad : None ≡ Some x = h in cc
  of_held holder (Some y) x h =
      let same : record { block = y.block; requester = holder y.requester y.block } ≡ x = cc in (
        y,
        refl,
        sym (ap (λ (z : Order). z.block) same),
        sym (ap (λ (z : Order). z.requester) same),
      )

  abbrev pub lane_still : ProcessorState → NodeMemory → Resume → List Want → Bool → ProcessorState
  lane_still l n resume [] again = if again then l else lane_resumed l n resume
  lane_still l n resume (w ∷ ws) again = l

  abbrev pub doing_taken : ℕ → (ℕ → Option Need) → Doing → Doing
  doing_taken executed wait (Awaits resume want more again) =
      doing_still executed resume (pending layout wait (want ∷ more)) again
  doing_taken executed wait a = a

  abbrev pub lane_taken : ProcessorState → NodeMemory → (ℕ → Option Need) → Doing → ProcessorState
  lane_taken l n wait (Awaits resume want more again) =
      lane_still l n resume (pending layout wait (want ∷ more)) again
  lane_taken l n wait a = l

  -- what is pending is no more than what was wanted
  pending_few : (wait : ℕ → Option Need) (ws : List Want) (n : ℕ) → length ws ≤ n
      → length (pending layout wait ws) ≤ n
  pending_few wait [] n h = h
  pending_few wait (w ∷ ws) n h =
      go (is_pending layout wait w) (pending_few wait ws (length ws) (omega arith))
    where
      go : (u : Bool) → length (pending layout wait ws) ≤ length ws
          → length (cond u (w ∷ pending layout wait ws) (pending layout wait ws)) ≤ n
      go true g = omega (arith, g, h)
      go false g = omega (arith, g, h)

  -- a processor that runs may see its node lose a block before a poll or a call
  abbrev pub MayTake : Doing → ProcessorState → Type 0
  MayTake Runs l = takes_messages (option_and_then (λ w. w.what) (fetch work.image l.at)) ≡ true
  MayTake a l = Unit {0}

  -- what is waited for is still waited for, or isn't
  wait_still : (executed : ℕ) (wait : ℕ → Option Need) (resume : Resume) (again : Bool)
      (ws : List Want) (b : ℕ)
      → wait_in (doing_still executed resume ws again) b ≡ wanted_in layout b ws
  wait_still executed wait resume again [] b = no_wait executed b
  wait_still executed wait resume again (w ∷ ws) b = refl

  nothing : (t : Bool) → ◌≡◌ {A = Option Need} None (cond t None None)
  nothing true = refl
  nothing false = refl

  pub wait_taken : (executed : ℕ) (wait : ℕ → Option Need) (a : Doing) (b : ℕ)
      → wait_in (doing_taken executed wait a) b ≡ cond (is_some (wait b)) (wait_in a b) None
  wait_taken executed wait Runs b = nothing (is_some (wait b))
  wait_taken executed wait (HasEnded e) b = nothing (is_some (wait b))
  wait_taken executed wait (Awaits resume want more again) b =
      wait_still executed wait resume again (pending layout wait (want ∷ more)) b
      ∙ pending_wanted layout work plan laid code.Stands wait b (want ∷ more)

  again_still : (executed : ℕ) (resume : Resume) (again : Bool) (ws : List Want) (b : ℕ)
      (need : Need) → wait_in (doing_still executed resume ws again) b ≡ Some need
      → again_in (doing_still executed resume ws again) ≡ again
  again_still executed resume again [] b need h =
      let bad : None ≡ Some need = sym (no_wait executed b) ∙ h in cc
  again_still executed resume again (w ∷ ws) b need h = refl

  again_taken : (executed : ℕ) (wait : ℕ → Option Need) (a : Doing) (b : ℕ) (need : Need)
      → wait_in (doing_taken executed wait a) b ≡ Some need
      → again_in (doing_taken executed wait a) ≡ again_in a
  again_taken executed wait Runs b need h = refl
  again_taken executed wait (HasEnded e) b need h = refl
  again_taken executed wait (Awaits resume want more again) b need h =
      again_still executed resume again (pending layout wait (want ∷ more)) b need h

  module _ (lowers : protocol.Rest → ℕ → ℕ → Bool) where
    -- a message that takes nothing away: it orders nothing, and what may be written may still be
    abbrev pub Calm : Type 0
    Calm =
        (locals : ℕ → NodeMemory) (rest : protocol.Rest) (memory : ℕ → ℕ)
        → side.Holds locals rest memory → (i j : ℕ) → i < work.layout.nodes
        → j < work.layout.nodes → protocol.has_message rest i j ≡ true → lowers rest i j ≡ false
        → (protocol.order locals rest i j ≡ None)
        × ((line : ℕ) → is_writable_state ((locals i).state line) ≡ true
        → is_writable_state ((protocol.take locals rest i j).local.state line) ≡ true)

    module _ (calm : Calm) (lanes : ℕ → ProcessorState) (doing : ℕ → Doing) (locals : ℕ → NodeMemory)
        (reserved : ℕ → Option ℕ) (rest : protocol.Rest) (holder : ℕ → ℕ → ℕ) (s : State)
        (m : Matches lanes doing locals reserved rest holder s) (executed : ℕ → ℕ) (i j : ℕ)
        (below : i < work.layout.nodes) (low : j < work.layout.nodes)
        (has : protocol.has_message rest i j ≡ true)
        (may : (p : ℕ) → p < processors → node_of p ≡ i → lowers rest i j ≡ true
        → MayTake (doing p) (lanes p)) where
      abbrev one : Original
      one = original layout work processors node_of placed

      abbrev pub taken : Handled protocol.Rest
      taken = protocol.take locals rest i j

      abbrev pub order : Option Order
      order = held_order holder (protocol.order locals rest i j)

      abbrev wait_then : ℕ → Option Need
      wait_then = protocol.wait taken.rest i

      left : TakeLeaves layout work protocol side.Holds locals rest s.shared i
          (protocol.order locals rest i j) taken
      left = side.takes locals rest s.shared m.shares.held i j below low has

      -- who waits to write a block stands at a store into it
      waiting : (x b h : ℕ) → IsHeld doing x b Write h → ((s.processors h).exit ≡ None)
          × ((stands_at_store work.program layout b (s.processors h).registers
          (s.processors h).pc ≡ true)
          ⊎ RunsToStore work.program layout b (s.processors h).registers (s.processors h).pc)
      waiting x b h is = go (doing h) (m.stands h is.0) is.2
        where
          go : (a : Doing) → StandsIn a (s.processors h) (lanes h) (sees locals reserved h)
              → wait_in a b ≡ Some Write → ((s.processors h).exit ≡ None)
              × ((stands_at_store work.program layout b (s.processors h).registers
              (s.processors h).pc ≡ true)
              ⊎ RunsToStore work.program layout b (s.processors h).registers (s.processors h).pc)
          go Runs g e = let bad : None ≡ Some Write = e in cc
          go (HasEnded x) g e = let bad : None ≡ Some Write = e in cc
          go (Awaits resume want more again) g e = (
            g.0.runs,
            waiting_stores layout work plan laid code.Stands (s.processors h) b (want ∷ more)
                g.0.sought e,
          )

      -- the holder of the wait for which a block is taken away
      holds_for : (x : Order) → order ≡ Some x
          → (x.requester < processors) × (eqb i (node_of x.requester) ≡ false)
          × IsHeld doing (node_of x.requester) x.block Write x.requester
      holds_for x e =
          let f = of_held holder (protocol.order locals rest i j) x e in
          let y = f.0 in
          let r = left.requester y f.1 in
          let h : IsHeld doing y.requester y.block Write (holder y.requester y.block) =
          m.held y.requester y.block Write r.0 r.2 in
          let who : holder y.requester y.block ≡ x.requester = sym f.3 in
          let where_ : y.requester ≡ node_of x.requester =
          sym h.1 ∙ ap node_of who in (
            subst (λ z. z < processors) who h.0,
            ap (eqb i) (sym where_) ∙ r.1,
            subst (λ z. IsHeld doing (node_of x.requester) z Write x.requester) (sym f.2)
                (subst (IsHeld doing (node_of x.requester) y.block Write) who
                (subst (λ z. IsHeld doing z y.block Write (holder y.requester y.block)) where_ h)),
          )

      took : Took layout work processors node_of placed (sharing_at taken.rest) locals s i
          taken.local order
      took = record {
        held = left.held;
        reads = λ line c h. elim (left.reads line c h) [
          | inl e ↦ inl e
          | inr e ↦ inr (
            record { block = e.0.block; requester = holder e.0.requester e.0.block },
            ap (held_order holder) e.1,
            e.2,
          )
        ];
        lies = λ x e line h.
            let f = of_held holder (protocol.order locals rest i j) x e in
            left.lies f.0 f.1 line (ap (λ b. has_line layout b line) (sym f.2) ∙ h)
            ∙ ap (λ b. Some b) (sym f.2);
        among = λ x e. let h = holds_for x e in (h.0, h.1);
        runs = λ x e. (waiting (node_of x.requester) x.block x.requester (holds_for x e).2).0;
        stores = λ x e. (waiting (node_of x.requester) x.block x.requester (holds_for x e).2).1;
      }

      abbrev picks : List Pick
      picks = breaks layout work processors node_of placed reserved i order processors

      abbrev state_then : State
      state_then = run one s picks

      abbrev locals_then : ℕ → NodeMemory
      locals_then = with_local locals i taken.local

      abbrev reserved_now : ℕ → Option ℕ
      reserved_now = reserved_then layout work processors node_of placed reserved i order

      message : Taken layout work processors node_of placed (sharing_at rest)
          (sharing_at taken.rest) locals reserved s i taken.local m.shares order took picks
      message = message_shares layout work processors node_of placed (sharing_at rest)
          (sharing_at taken.rest) locals reserved s i taken.local m.shares order took

      suits_now : Suits work.program (locals i)
      suits_now = side.suits locals rest s.shared m.shares.held i below

      suits_then : Suits work.program taken.local
      suits_then = subst (Suits work.program) (local_here locals i taken.local)
          (side.suits locals_then taken.rest s.shared left.held i below)

      abbrev doing_then : ℕ → Doing
      doing_then p =
          if node_of p == i then doing_taken (executed p) wait_then (doing p) else doing p

      abbrev lanes_then : ℕ → ProcessorState
      lanes_then p =
          if node_of p == i then lane_taken (lanes p) taken.local wait_then (doing p) else lanes p

      -- a processor of the node
      module _ (p : ℕ) (lp : p < processors) (ours : eqb (node_of p) i ≡ true) where
        same : node_of p ≡ i
        same = is_same (node_of p) i ours

        abbrev processor : Processor
        processor = s.processors p

        abbrev lane : ProcessorState
        lane = lanes p

        -- what it sees then
        abbrev view : NodeMemory
        view = record taken.local { reservation = cleared_by layout order (reserved p) }

        suits_view : Suits work.program view
        suits_view = record { states = suits_then.states; flagged = suits_then.flagged }

        -- where nothing is taken away
        later_then : lowers rest i j ≡ false → Later (sees locals reserved p) view
        later_then e =
            let c = calm locals rest s.shared m.shares.held i j below low has e in
            record {
              reads = λ line h. reads_by c.0 line (work.program.class line) refl
                  (ap (λ k. is_readable_state ((locals k).state line)) (sym same) ∙ h);
              writes = λ line h. c.1 line
                  (ap (λ k. is_writable_state ((locals k).state line)) (sym same) ∙ h);
              reserved = λ x h. left_held (reserved p) (cleared_by layout order (reserved p))
                  (λ y g. (cleared_left layout order (reserved p) y g).0) x h;
            }
          where
            reads_by : protocol.order locals rest i j ≡ None → (line : ℕ) → (c : Class)
                → work.program.class line ≡ c → is_readable_state ((locals i).state line) ≡ true
                → is_readable_state (taken.local.state line) ≡ true
            reads_by none line Shared e h = elim (left.reads line e h) [
              | inl f ↦ f
              | inr f ↦ (let bad : None ≡ Some f.0 = sym none ∙ f.1 in cc)
            ]
            reads_by none line ReadOnly e h =
                ap is_readable_state (subst (λ c. StateFits c (taken.local.state line)) e
                (suits_then.states line)
                ∙ sym (subst (λ c. StateFits c ((locals i).state line)) e (suits_now.states line)))
                ∙ h
            reads_by none line Private e h =
                ap is_readable_state (subst (λ c. StateFits c (taken.local.state line)) e
                (suits_then.states line)
                ∙ sym (subst (λ c. StateFits c ((locals i).state line)) e (suits_now.states line)))
                ∙ h
            reads_by none line Unmapped e h =
                ap is_readable_state (subst (λ c. StateFits c (taken.local.state line)) e
                (suits_then.states line)
                ∙ sym (subst (λ c. StateFits c ((locals i).state line)) e (suits_now.states line)))
                ∙ h

        runs_on : doing p ≡ Runs → code.Stands processor lane (sees locals reserved p)
            → code.Stands processor lane view
        runs_on is st = go (lowers rest i j) refl
          where
            go : (u : Bool) → lowers rest i j ≡ u → code.Stands processor lane view
            go true e =
                code.messages_keep processor lane (sees locals reserved p) st
                (subst (λ a. MayTake a lane) is (may p lp same e)) view suits_view
            go false e = code.stays processor lane (sees locals reserved p) view st (later_then e)

        -- its last wait has ended: what it waited for is granted, or it executes its word again
        goes_on : (resume : Resume) (want : Want) (more : List Want) (again : Bool)
            → doing p ≡ Awaits resume want more again
            → StandsIn (Awaits resume want more again) processor lane (sees locals reserved p)
            → pending layout wait_then (want ∷ more) ≡ []
            → code.Stands processor (if again then lane else lane_resumed lane taken.local resume)
            view
        goes_on resume want more true is h none = h.1 view
        goes_on resume want more false is h none =
            h.0.resumed view suits_view want (inl refl)
            (served (protocol.wait rest i b) refl covers)
          where
            lies : (c : ℕ) × (block_of layout (line_of want.at) ≡ Some c)
            lies = laid.found (line_of want.at) h.0.sought.0

            b : ℕ
            b = lies.0

            inside : is_in_block layout b want.at ≡ true
            inside = ap (λ o. option_map_or (λ c. eqb c b) o false) lies.1 ∙ equal b b refl

            covers : IsCovered (protocol.wait rest i b) want.need false
            covers =
                subst (λ k. IsCovered (protocol.wait rest k b) want.need false) same
                (subst (λ a. IsCovered (protocol.wait rest (node_of p) b) want.need (again_in a)) is
                (m.covered p b want.need lp (ap (λ a. wait_in a b) is
                ∙ ap (λ t. cond t (Some want.need) (wanted_in layout b more)) inside)))

            ended : wait_then b ≡ None
            ended = not_pending layout work plan laid code.Stands wait_then want more none b lies.1

            served : (o : Option Need) → protocol.wait rest i b ≡ o → IsCovered o want.need false
                → grants want.need (taken.local.state (line_of want.at)) ≡ true
            served None e g = absurd g
            served (Some have) e (inl g) = let bad : false ≡ true = g in cc
            served (Some have) e (inr g) =
                covers_grants have want.need (taken.local.state (line_of want.at)) g
                (left.granted want.at b have lies.1 e ended)

        pub stands_then : (a : Doing) → doing p ≡ a → StandsIn a processor lane (sees locals reserved p)
            → StandsIn (doing_taken (executed p) wait_then a) processor
            (lane_taken lane taken.local wait_then a) view
        stands_then Runs is h = (h.0, runs_on is h.1)
        stands_then (HasEnded (Exited e)) is h = h
        stands_then (HasEnded (Stopped b)) is h = h
        stands_then (Awaits resume want more again) is h =
            go (pending layout wait_then (want ∷ more)) refl
          where
            go : (ws : List Want) → pending layout wait_then (want ∷ more) ≡ ws
                → StandsIn (doing_still (executed p) resume ws again) processor
                (lane_still lane taken.local resume ws again) view
            go [] e =
                stands_or_stops (executed p) processor
                (if again then lane else lane_resumed lane taken.local resume) view
                h.0.runs (goes_on resume want more again is h e)
            go (w ∷ ws) e = (
              subst (StandsWaiting layout work plan laid code.Stands processor lane resume) e
                  (waits_on layout work plan laid code.Stands wait_then processor lane resume (want ∷ more)
                  h.0),
              h.1,
              subst (λ ws. length ws ≤ 2) e (pending_few wait_then (want ∷ more) 2 h.2),
            )

      -- who held a wait that goes on holds it still
      held_then : (x b : ℕ) (need : Need) → x < work.layout.nodes
          → protocol.wait taken.rest x b ≡ Some need → IsHeld doing_then x b need (holder x b)
      held_then x b need lx is = go (eqb x i) refl
        where
          elsewhere : eqb x i ≡ false → IsHeld doing x b need (holder x b)
              → IsHeld doing_then x b need (holder x b)
          elsewhere e h = (
            h.0,
            h.1,
            ap (λ t. wait_in (cond t (doing_taken (executed (holder x b)) wait_then
                (doing (holder x b))) (doing (holder x b))) b) (ap (λ k. eqb k i) h.1 ∙ e) ∙ h.2,
          )

          at_node : x ≡ i → IsHeld doing x b need (holder x b)
              → IsHeld doing_then x b need (holder x b)
          at_node e h =
              let goes : is_some (wait_then b) ≡ true =
              ap (λ k. is_some (protocol.wait taken.rest k b)) (sym e) ∙ ap is_some is in (
                h.0,
                h.1,
                ap (λ t. wait_in (cond t (doing_taken (executed (holder x b)) wait_then
                    (doing (holder x b))) (doing (holder x b))) b)
                    (equal (node_of (holder x b)) i (h.1 ∙ e))
                    ∙ wait_taken (executed (holder x b)) wait_then (doing (holder x b)) b
                    ∙ ap (λ t. cond t (wait_in (doing (holder x b)) b) None) goes ∙ h.2,
              )

          go : (u : Bool) → eqb x i ≡ u → IsHeld doing_then x b need (holder x b)
          go false e = elsewhere e (m.held x b need lx (sym (left.others x b e) ∙ is))
          go true e =
              let same = is_same x i e in
              elim (left.own b) [
                | inl f ↦ at_node same (m.held x b need lx
                    (ap (λ k. protocol.wait rest k b) same ∙ sym f
                    ∙ ap (λ k. protocol.wait taken.rest k b) (sym same) ∙ is))
                | inr f ↦ (let bad : None ≡ Some need =
                    sym f ∙ ap (λ k. protocol.wait taken.rest k b) (sym same) ∙ is in cc)
              ]

      some_only : (o u : Option Need) (need : Need) → cond (is_some o) u None ≡ Some need
          → (u ≡ Some need) × (is_some o ≡ true)
      some_only None u need h = let bad : None ≡ Some need = h in cc
      some_only (Some x) u need h = (h, refl)

      covered_then : (p b : ℕ) (need : Need) → p < processors → wait_in (doing_then p) b ≡ Some need
          → IsCovered (protocol.wait taken.rest (node_of p) b) need (again_in (doing_then p))
      covered_then p b need lp = go (eqb (node_of p) i) refl
        where
          abbrev_then : Doing
          abbrev_then = doing_taken (executed p) wait_then (doing p)

          stays : is_some (wait_then b) ≡ true → wait_then b ≡ protocol.wait rest i b
          stays h = elim (left.own b) [
            | inl f ↦ f
            | inr f ↦ (let bad : false ≡ true = sym (ap is_some f) ∙ h in cc)
          ]

          go : (u : Bool) → eqb (node_of p) i ≡ u
              → wait_in (cond u abbrev_then (doing p)) b ≡ Some need
              → IsCovered (protocol.wait taken.rest (node_of p) b) need
              (again_in (cond u abbrev_then (doing p)))
          go false e h =
              subst (λ o. IsCovered o need (again_in (doing p))) (sym (left.others (node_of p) b e))
              (m.covered p b need lp h)
          go true e h =
              let same = is_same (node_of p) i e in
              let f = some_only (wait_then b) (wait_in (doing p) b) need
              (sym (wait_taken (executed p) wait_then (doing p) b) ∙ h) in
              let old : IsCovered (protocol.wait rest i b) need (again_in (doing p)) =
              subst (λ k. IsCovered (protocol.wait rest k b) need (again_in (doing p))) same
              (m.covered p b need lp f.0) in
              subst (λ k. IsCovered (protocol.wait taken.rest k b) need (again_in abbrev_then))
              (sym same) (subst (IsCovered (wait_then b) need)
              (sym (again_taken (executed p) wait_then (doing p) b need h))
              (subst (λ o. IsCovered o need (again_in (doing p))) (sym (stays f.1)) old))

      -- what a message leaves
      pub record TookMessage : Type 0 where
        pub advanced : Advanced one s picks (λ p. []) []
        pub behind : Matches lanes_then doing_then locals_then reserved_now taken.rest holder
            state_then

      pub message_event : TookMessage
      message_event = record {
        advanced = message.advanced;
        behind = record {
          shares = message.behind;
          stands = λ p lp. subst (λ (f : ℕ → Processor). StandsIn (doing_then p) (f p)
              (lanes_then p) (sees locals_then reserved_now p)) (sym message.same)
              ((elim (eqb (node_of p) i) as (λ u. eqb (node_of p) i ≡ u
              → StandsIn (cond u (doing_taken (executed p) wait_then (doing p)) (doing p))
              (s.processors p)
              (cond u (lane_taken (lanes p) taken.local wait_then (doing p)) (lanes p))
              (record (cond u taken.local (locals (node_of p))) {
                reservation = cond u (cleared_by layout order (reserved p)) (reserved p);
              })) [
                | true ↦ (λ e. stands_then p lp e (doing p) refl (m.stands p lp))
                | false ↦ (λ e. m.stands p lp)
              ]) refl);
          held = held_then;
          covered = covered_then;
        };
      }
