-- A core of nodes of several processors is never stuck: where some node isn't over, some event is
-- allowed.
use Rattle.std.proofs.Common.{◌≡◌, ◌≢◌, ℕ, zero, suc, ◌<◌, ◌≤◌, ◌⊎◌, cond, eqb, Bool, true, false, List, [], ◌∷◌, Option, Some, None, refl, sym, ap, ◌∙◌, subst, inl, inr, arith}
use Rattle.std.specs.Prelude.{not, ◌&&◌, ◌||◌}
use Rattle.std.specs.Option.{option_map_or}
use Rattle.lane_law.proofs.Names.{blocks, Need, Wait, count_of, End, line_of, is_in_block, State, opening, run, PlanEntry, wanted, has_message, Resume, Phase, Running, Resumed, Waiting, Ended, is_at_poll, has_all_byes, is_ended, may_execute, may_take, messages_of, LaneWork, LaneNode, as_node, processors, node_of, lane_of, processor_of, all_lanes, some_lane, has_ended, have_ended, LaneCore, LaneEvent, Exec, Take, May, IsLaneRun, opening_core, event_step, after, standing_in, standing_of, lane_lets, lowers_first, is_over, picks_at, GoesOn, AreAllOver, AreEmpty, HaveRows}
use Rattle.dsm_protocol.proofs.ProtocolSide as world
use Rattle.node_model.specs.declared.Standing.TheVariants as standing
use Rattle.rewriting_law.proofs.templates.RegisterLemmas.{equal}
use Rattle.rewriting_law.proofs.one_memory.Pending.{wanted_in}
use Rattle.rewriting_law.proofs.protocol_side.Directory.{world_of}
use Rattle.rewriting_law.proofs.protocol_side.DirectorySide.{Layout, not_waiting}
use Rattle.rewriting_law.proofs.runs.TurnTies.{rest_at}
use Rattle.rewriting_law.proofs.one_memory.Sharing.{is_same}
use Rattle.rewriting_law.proofs.progress.Calm.{is_calm, none_left}
use Rattle.rewriting_law.proofs.progress.Farewells.{has_bye}
use Rattle.rewriting_law.proofs.progress.Stuck.{search, count_all, count_full}
use Rattle.lane_law.proofs.LaneCode.{LaneCode}
use Rattle.lane_law.proofs.LaneNumbers.{node_numbered, lane_numbered, numbered_low}
use Rattle.rewriting_law.proofs.one_memory.SharedWords.{seen}
use Rattle.lane_law.proofs.LaneWants.{IsCovered}
use Rattle.lane_law.proofs.LaneMatching as matching
use Rattle.lane_law.proofs.LaneMatching.{Doing, Runs, Awaits, HasEnded, StandsIn}
use Rattle.lane_law.proofs.LaneTies.{view}
use Rattle.lane_law.proofs.LaneCores.{part_in, lanes_in, reserved_in, locals_in, at_node, protocol, side, laid, one, IsPart, MatchesCore}
use Rattle.lane_law.proofs.LaneRuns.{all_hold, event_leads, start_matches}
use Rattle.lane_law.proofs.LaneClosing.{Closing, ended_by, none_waits, row_there, event_closing, start_closing}

-- 1. Lanes of a node

some_holds : (holds : ℕ → Bool) (n : ℕ) → 0 < n → ((k : ℕ) → k < n → holds k ≡ true)
    → some_lane holds n ≡ true
some_holds holds zero low h = absurd (omega (arith, low))
some_holds holds (suc n) low h = ap (λ z. z || some_lane holds n) (h n (omega arith))

either_taken : (a b d : Bool) → a ≡ true → d ≡ true → (a && (not b || d)) ≡ true
either_taken true true true e f = refl
either_taken true true false e f = f
either_taken true false d e f = refl
either_taken false b d e f = e

undone : (b : Bool) → not b ≡ false → b ≡ true
undone true e = refl
undone false e = let bad : true ≡ false = e in cc

module _ (w : LaneWork) (plan : List PlanEntry) (lay : Layout w.work) (some : 0 < w.lanes)
    (code : LaneCode w.work.layout w.work (processors w) plan) where
  abbrev there : (q : ℕ) → q < processors w → node_of w q < w.work.layout.nodes
  there = at_node w plan lay some code

  abbrev nodes : ℕ
  nodes = w.work.layout.nodes

  at_poll_or_not : (poll : Bool) → may_execute (cond poll standing.AtPoll standing.Running) ≡ true
  at_poll_or_not true = refl
  at_poll_or_not false = refl

  -- a lane that may execute no word waits or has ended
  idle_phase : (x : LaneNode) (k : ℕ) (p : Phase) → may_execute (standing_in w x k p) ≡ false
      → ((resume : Resume) × (p ≡ Waiting resume)) ⊎ ((end : End) × (p ≡ Ended end))
  idle_phase x k Running e =
      let bad : true ≡ false = sym (at_poll_or_not (is_at_poll w.work (as_node x k))) ∙ e in cc
  idle_phase x k Resumed e = let bad : true ≡ false = e in cc
  idle_phase x k (Waiting resume) e = inl (resume, refl)
  idle_phase x k (Ended end) e = inr (end, refl)

  -- so it lets messages be taken
  idle_lets : (x : LaneNode) (k : ℕ) → may_execute (standing_of w x k) ≡ false
      → lane_lets w x k ≡ true
  idle_lets x k e = elim (idle_phase x k (x.lanes k).phase e) [
    | inl h ↦ ap (λ p. may_take (standing_in w x k p)) h.1
    | inr h ↦ ap (λ p. may_take (standing_in w x k p)) h.1
  ]

  -- 2. Where no word may be executed

  module _ (c : LaneCore) (s : State) (m : MatchesCore w plan lay some code c s)
      (f : Closing w c)
      (idle : (p : ℕ) → p < processors w
      → may_execute (standing_of w (c.nodes (node_of w p)) (lane_of w p)) ≡ false) where
    idle_lane : (y k : ℕ) → y < nodes → k < w.lanes
        → may_execute (standing_of w (c.nodes y) k) ≡ false
    idle_lane y k ly lk =
        subst (λ z. may_execute (standing_of w (c.nodes y) z) ≡ false) (lane_numbered w some y k lk)
        (subst (λ z. may_execute (standing_of w (c.nodes z) (lane_of w (processor_of w y k)))
        ≡ false) (node_numbered w some y k lk)
        (idle (processor_of w y k) (numbered_low w some y k ly lk)))

    lets : (y : ℕ) → y < nodes → (k : ℕ) → k < w.lanes → lane_lets w (c.nodes y) k ≡ true
    lets y ly k lk = idle_lets (c.nodes y) k (idle_lane y k ly lk)

    takes : (x y : ℕ) → x < nodes → y < nodes → c.list x y ≢ [] → (e : LaneEvent) × May w c e
    takes x y lx ly full = (
      Take y x,
      (
        ly,
        lx,
        full,
        either_taken (some_lane (lane_lets w (c.nodes y)) w.lanes) (lowers_first (c.list x y))
            (all_lanes (lane_lets w (c.nodes y)) w.lanes)
            (some_holds (lane_lets w (c.nodes y)) w.lanes some (lets y ly))
            (all_hold (lane_lets w (c.nodes y)) w.lanes (lets y ly)),
      ),
    )

    -- a processor that waits has its node wait for a block
    awaits : (p : ℕ) → p < processors w → (resume : Resume)
        → (part_in w c.nodes p).phase ≡ Waiting resume
        → (b : ℕ) × (b < blocks w.work.layout) × ((c.nodes (node_of w p)).shared.wait b ≢ None)
    awaits p low resume is = go (m.doing p) refl (m.parts p low)
      where
        abbrev_wait : ℕ → Option Wait
        abbrev_wait = (c.nodes (node_of w p)).shared.wait

        waits : (o : Option Wait) (need : Need) (again : Bool) → IsCovered (wanted o) need again
            → o ≢ None
        waits None need again h gone = absurd h
        waits (Some x) need again h gone = let bad : Some x ≡ None = gone in cc

        go : (a : Doing) → m.doing p ≡ a → IsPart w plan lay some code a (part_in w c.nodes p)
            → (b : ℕ) × (b < blocks w.work.layout) × (abbrev_wait b ≢ None)
        go Runs e (inl h) = let bad : Running ≡ Waiting resume = sym h ∙ is in cc
        go Runs e (inr h) = let bad : Resumed ≡ Waiting resume = sym h ∙ is in cc
        go (HasEnded end) e h = let bad : Ended end ≡ Waiting resume = sym h.0 ∙ is in cc
        go (Awaits r want more again) e h =
            let stands = subst (λ a. StandsIn w.work.layout w.work (processors w) (node_of w) there
            plan code (protocol w plan lay some code) (side w plan lay some code)
            (laid w plan lay some code) a (s.processors p) (lanes_in w c.nodes p)
            (seen w.work.layout w.work (processors w) (node_of w) there (locals_in c.nodes)
            (reserved_in w c.nodes) p)) e (m.matches.stands p low) in
            let block = (laid w plan lay some code).found (line_of want.at) stands.0.sought.0 in
            let b = block.0 in
            let within : is_in_block w.work.layout b want.at ≡ true =
            ap (λ o. option_map_or (λ d. eqb d b) o false) block.1 ∙ equal b b refl in
            let covered = m.matches.covered p b want.need low
            (ap (λ a. matching.wait_in w.work.layout w.work (processors w) (node_of w) there plan code
            (protocol w plan lay some code) (side w plan lay some code) (laid w plan lay some code)
            a b) e ∙ ap (λ z. cond z (Some want.need) (wanted_in w.work.layout b more)) within) in (
              b,
              (lay.laws.found w.work.layout b (line_of want.at) lay.valid block.1).0,
              waits (abbrev_wait b) want.need _ covered,
            )

    waiting_moves : (p : ℕ) → p < processors w → (resume : Resume)
        → (part_in w c.nodes p).phase ≡ Waiting resume → (e : LaneEvent) × May w c e
    waiting_moves p low resume is =
        let v = awaits p low resume is in
        let got = world.moves lay.laws w.work.layout lay.valid lay.laid
        (world_of w.work.layout (locals_in c.nodes) (rest_at m.counts (view c 0))) s.shared
        m.matches.shares.held.holds (node_of w p) v.0 (there p low) v.1 v.2 in
        takes got.0 got.1 got.2 got.3
        (λ e. let bad : false ≡ true =
        sym (ap (λ xs. has_message (messages_of xs)) e) ∙ got.4 in cc)

    -- a lane that hasn't ended
    lane_moves : (y k : ℕ) → y < nodes → k < w.lanes → not (has_ended (c.nodes y) k) ≡ true
        → (e : LaneEvent) × May w c e
    lane_moves y k ly lk more =
        elim (idle_phase (c.nodes y) k ((c.nodes y).lanes k).phase (idle_lane y k ly lk)) [
          | inl h ↦ waiting_moves (processor_of w y k) (numbered_low w some y k ly lk) h.0
              (ap (λ z. ((c.nodes z).lanes (lane_of w (processor_of w y k))).phase)
              (node_numbered w some y k lk)
              ∙ ap (λ z. ((c.nodes y).lanes z).phase) (lane_numbered w some y k lk) ∙ h.1)
          | inr h ↦ (let bad : false ≡ true = sym (ap (λ p. not (is_ended p)) h.1) ∙ more in cc)
        ]

    -- all have ended
    ended_moves : (i : ℕ) → i < nodes → ((x : ℕ) → x < nodes → have_ended w (c.nodes x) ≡ true)
        → is_over w (c.nodes i) ≡ false → (e : LaneEvent) × May w c e
    ended_moves i low all more =
        elim (search (λ x. not ((c.nodes i).shared.byes x)) nodes) [
          | inl x ↦ takes x.0 i x.1 low (missing x.0 x.2 (f.farewells.told x.0 i x.1 low
              (ended_by (have_ended w (c.nodes x.0)) ∙ all x.0 x.1)))
          | inr none ↦ (
              let full = count_all (c.nodes i).shared.byes nodes
              (λ x lx. undone ((c.nodes i).shared.byes x) (none x lx)) in
              let bad : true ≡ false =
              sym (ap (λ z. z && has_all_byes w.work (as_node (c.nodes i) 0)) (all i low)
              ∙ equal (count_of (c.nodes i).shared.byes nodes) nodes full) ∙ more in cc)
        ]
      where
        missing : (x : ℕ) → not ((c.nodes i).shared.byes x) ≡ true
            → ((c.nodes i).shared.byes x ≡ true) ⊎ (has_bye (c.list x i) ≡ true) → c.list x i ≢ []
        missing x left (inl e) empty = let bad : false ≡ true = sym (ap not e) ∙ left in cc
        missing x left (inr e) empty = let bad : false ≡ true = sym (ap has_bye empty) ∙ e in cc

    idle_event : (i : ℕ) → i < nodes → is_over w (c.nodes i) ≡ false → (e : LaneEvent) × May w c e
    idle_event i low more =
        elim (search (λ y. not (have_ended w (c.nodes y))) nodes) [
          | inl y ↦ some_lane_moves y.0 y.1 y.2
          | inr none ↦ ended_moves i low (λ x lx. undone (have_ended w (c.nodes x)) (none x lx)) more
        ]
      where
        some_lane_moves : (y : ℕ) → y < nodes → not (have_ended w (c.nodes y)) ≡ true
            → (e : LaneEvent) × May w c e
        some_lane_moves y ly left =
            elim (search (λ k. not (has_ended (c.nodes y) k)) w.lanes) [
              | inl k ↦ lane_moves y k.0 ly k.1 k.2
              | inr none ↦ (
                  let ended = all_hold (has_ended (c.nodes y)) w.lanes
                  (λ k lk. undone (has_ended (c.nodes y) k) (none k lk)) in
                  let bad : false ≡ true = sym (ap not ended) ∙ left in cc)
            ]

  some_event : (c : LaneCore) (s : State) → MatchesCore w plan lay some code c s → Closing w c
      → GoesOn w c
  some_event c s m f i low more =
      elim (search (λ p. may_execute (standing_of w (c.nodes (node_of w p)) (lane_of w p)))
      (processors w)) [
        | inl p ↦ (Exec p.0, (p.1, p.2))
        | inr idle ↦ idle_event c s m f idle i low more
      ]

  -- 3. Where all nodes are over

  both_of : (a b : Bool) → (a && b) ≡ true → (a ≡ true) × (b ≡ true)
  both_of true b e = (refl, e)
  both_of false b e = let bad : false ≡ true = e in cc

  -- no message is left
  over_empty : (c : LaneCore) (s : State) (m : MatchesCore w plan lay some code c s)
      → Closing w c → AreAllOver w c → AreEmpty w c
  over_empty c s m f all x y lx ly =
      let there = both_of (have_ended w (c.nodes y)) (has_all_byes w.work (as_node (c.nodes y) 0))
      (all y ly) in
      let taken = count_full (c.nodes y).shared.byes nodes x
      (is_same (count_of (c.nodes y).shared.byes nodes) nodes there.1) lx in
      none_left (c.list x y) (ap (λ z. is_calm z (c.list x y)) (sym taken) ∙ f.calm.lists x y lx ly)
      (world.settled lay.laws w.work.layout lay.valid lay.laid
      (world_of w.work.layout (locals_in c.nodes) (rest_at m.counts (view c 0))) s.shared
      m.matches.shares.held.holds (λ k b lk lb. not_waiting ((c.nodes k).shared.wait b)
      (none_waits w plan lay some code c s m f k lk
      (both_of (have_ended w (c.nodes k)) (has_all_byes w.work (as_node (c.nodes k) 0))
      (all k lk)).0 b)) x y lx ly)

  -- 4. From the start

  -- what holds after a run
  record Behind (c : LaneCore) : Type 0 where
    state : State
    matches : MatchesCore w plan lay some code c state
    closing : Closing w c

  after_run : w.lanes ≤ 4 → processors w ≤ 16 → (es : List LaneEvent) (c : LaneCore) (s : State)
      → MatchesCore w plan lay some code c s → Closing w c → IsLaneRun w c es
      → Behind (after w c es)
  after_run four few [] c s m f may = record { state = s; matches = m; closing = f }
  after_run four few (e ∷ es) c s m f may =
      after_run four few es (event_step w c e)
      (run (one w plan lay some code) s (picks_at w plan c e))
      (event_leads w plan lay some code four few c s m e may.0).0.behind
      (event_closing w plan lay some code c s m f e may.0) may.1

  pub never_stuck : w.lanes ≤ 4 → processors w ≤ 16 → (es : List LaneEvent)
      → IsLaneRun w (opening_core w) es → GoesOn w (after w (opening_core w) es)
  never_stuck four few es may =
      let b = after_run four few es (opening_core w) (opening (one w plan lay some code))
      (start_matches w plan lay some code) (start_closing w some) may in
      some_event (after w (opening_core w) es) b.state b.matches b.closing

  pub over : w.lanes ≤ 4 → processors w ≤ 16 → (es : List LaneEvent)
      → IsLaneRun w (opening_core w) es → AreAllOver w (after w (opening_core w) es)
      → AreEmpty w (after w (opening_core w) es)
  over four few es may all =
      let b = after_run four few es (opening_core w) (opening (one w plan lay some code))
      (start_matches w plan lay some code) (start_closing w some) may in
      over_empty (after w (opening_core w) es) b.state b.matches b.closing all

  pub rows : w.lanes ≤ 4 → processors w ≤ 16 → (es : List LaneEvent)
      → IsLaneRun w (opening_core w) es → HaveRows w (after w (opening_core w) es)
  rows four few es may i j wire ws li lj front plain =
      let b = after_run four few es (opening_core w) (opening (one w plan lay some code))
      (start_matches w plan lay some code) (start_closing w some) may in
      let r = row_there w plan lay some code (after w (opening_core w) es) b.state b.matches b.closing
      i j li lj wire ws front plain in
      (r.0, r.1)
