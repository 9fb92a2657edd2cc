-- Runs of nodes of several processors beside runs of the original processors.
use Rattle.std.proofs.Common.{◌≡◌, ℕ, zero, suc, ◌<◌, ◌≤◌, cond, Bool, true, false, List, [], ◌∷◌, Option, Some, None, refl, sym, ap, ◌∙◌, subst, inl, inr, append-nil, arith}
use Rattle.std.specs.Prelude.{not, ◌&&◌, ◌||◌, option_and_then}
use Rattle.std.proofs.lemmas.Bool.Decides.{eqb_tells, nat_tests}
use Rattle.lane_law.proofs.Names.{Wire, Exit, Exited, Stopped, Processor, State, opening, run, PlanEntry, fetch, ProcessorState, NodeMemory, takes_messages, may_execute, may_take, messages_of, EndsAs, LaneWork, LanePart, LaneNode, processors, node_of, lane_of, all_lanes, some_lane, LaneCore, LaneEvent, Exec, Take, May, IsLaneRun, opening_core, event_step, after, take_first, standing_in, lane_lets, lowers_first, printed_at, printed_by, picks_at, picks_of, picks_of_take, values_at, values_of, IsLicensed, AllLicensed, phase_of}
use Rattle.node_model.specs.declared.Standing.TheVariants as standing
use Rattle.rewriting_law.proofs.templates.States.{Suits}
use Rattle.rewriting_law.proofs.one_memory.Advances.{FollowsTo, run_append, join}
use Rattle.rewriting_law.proofs.protocol_side.Spending.{Counts, no_counts}
use Rattle.rewriting_law.proofs.protocol_side.DirectorySide.{Layout, lowers_first as lowers_message}
use Rattle.rewriting_law.proofs.protocol_side.Start.{opens}
use Rattle.rewriting_law.proofs.runs.TurnTies.{rest_at}
use Rattle.lane_law.proofs.LaneCode.{LaneCode, lane_first}
use Rattle.lane_law.proofs.LaneNumbers.{numbered, lane_low}
use Rattle.rewriting_law.proofs.one_memory.SharedWords.{seen}
use Rattle.lane_law.proofs.LaneMatching.{Doing, Runs, Awaits, HasEnded, StandsIn}
use Rattle.lane_law.proofs.LaneTies.{view}
use Rattle.lane_law.proofs.LaneCores.{part_in, lanes_in, reserved_in, locals_in, at_node, protocol, side, laid, one, IsPart, MatchesCore}
use Rattle.lane_law.proofs.LaneWords.{LeadsTo, WordCounts, word_leads}
use Rattle.lane_law.proofs.LaneTakes.{lowers, MayTake, TakeCounts, bye_first, take_leads}

-- what holds of each of the first lanes holds of all
pub all_hold : (holds : ℕ → Bool) (n : ℕ) → ((k : ℕ) → k < n → holds k ≡ true)
    → all_lanes holds n ≡ true
all_hold holds zero h = refl
all_hold holds (suc n) h =
    let rest = all_hold holds n (λ k low. h k (omega (arith, low))) in
    ap (λ z. z && all_lanes holds n) (h n (omega arith)) ∙ rest

-- what holds of all the first lanes holds of each
pub all_let : (holds : ℕ → Bool) (n k : ℕ) → k < n → all_lanes holds n ≡ true → holds k ≡ true
all_let holds zero k low e = absurd (omega (arith, low))
all_let holds (suc n) k low e = go (holds n) refl e (λ less rest. all_let holds n k less rest)
  where
    go : (z : Bool) → holds n ≡ z → (z && all_lanes holds n) ≡ true
        → (k < n → all_lanes holds n ≡ true → holds k ≡ true) → holds k ≡ true
    go false f g below = let bad : false ≡ true = g in cc
    go true f g below = elim (eqb_tells k n) [
      | inl same ↦ ap holds same.1 ∙ f
      | inr other ↦ (
          let apart = other.1 in
          let less : k < n = grind (arith, nat_tests) in below less g)
    ]

-- what an event counts
abbrev pub CountsBy : LaneCore → LaneEvent → (old new : Counts) → Type 0
CountsBy c (Exec p) old new = WordCounts old new
CountsBy c (Take i j) old new = TakeCounts (bye_first (c.list j i)) old new

module _ (w : LaneWork) (plan : List PlanEntry) (lay : Layout w.work) (some : 0 < w.lanes)
    (code : LaneCode w.work.layout w.work (processors w) plan) where
  abbrev IsPartHere : Doing → LanePart → Type 0
  IsPartHere = IsPart w plan lay some code

  abbrev there : (q : ℕ) → q < processors w → node_of w q < w.work.layout.nodes
  there = at_node w plan lay some code

  -- 1. What is allowed

  pub may_run : (x : LaneNode) (k : ℕ) (a : Doing) (y : LanePart) → IsPartHere a y
      → may_execute (standing_in w x k y.phase) ≡ true → a ≡ Runs
  may_run x k Runs y h e = refl
  may_run x k other y h e =
      let bad : false ≡ true = sym (ap (λ ph. may_execute (standing_in w x k ph)) h.0) ∙ e in cc

  may_take_there : (x : LaneNode) (k : ℕ) (a : Doing) → IsPartHere a (x.lanes k)
      → lane_lets w x k ≡ true → MayTake w plan lay some code a (x.lanes k).lane
  may_take_there x k (Awaits resume want more again) h e = tt
  may_take_there x k (HasEnded end) h e = tt
  may_take_there x k Runs (inr h) e =
      let bad : false ≡ true = sym (ap (λ ph. may_take (standing_in w x k ph)) h) ∙ e in cc
  may_take_there x k Runs (inl h) e =
      go (takes_messages (option_and_then (λ v. v.what) (fetch w.work.image (x.lanes k).lane.at)))
      (sym (ap (λ ph. may_take (standing_in w x k ph)) h) ∙ e)
    where
      go : (u : Bool) → may_take (cond u standing.AtPoll standing.Running) ≡ true → u ≡ true
      go true e = refl
      go false e = let bad : false ≡ true = e in cc

  lowers_same : (ws : List Wire) → lowers_message (messages_of ws) ≡ lowers_first ws
  lowers_same [] = refl
  lowers_same (v ∷ vs) = refl

  -- where something is taken away each lane lets it
  each_lets : (x : LaneNode) (ws : List Wire) → (some_lane (lane_lets w x) w.lanes
      && (not (lowers_first ws) || all_lanes (lane_lets w x) w.lanes)) ≡ true
      → lowers_first ws ≡ true → (k : ℕ) → k < w.lanes → lane_lets w x k ≡ true
  each_lets x ws e lowers k low =
      all_let (lane_lets w x) w.lanes k low
      (second (some_lane (lane_lets w x) w.lanes) (lowers_first ws) e lowers)
    where
      second : (a b : Bool) → (a && (not b || all_lanes (lane_lets w x) w.lanes)) ≡ true
          → b ≡ true → all_lanes (lane_lets w x) w.lanes ≡ true
      second true true e f = e
      second true false e f = let bad : false ≡ true = f in cc
      second false b e f = let bad : false ≡ true = e in cc

  -- 2. Events

  module _ (four : w.lanes ≤ 4) (few : processors w ≤ 16) where
    pub event_leads : (c : LaneCore) (s : State) (m : MatchesCore w plan lay some code c s)
        (e : LaneEvent) → May w c e
        → LeadsTo w plan lay some code s (picks_at w plan c e) (λ p. values_at w plan p c e)
        (printed_at w c e) (CountsBy c e m.counts) (event_step w c e) × IsLicensed w plan c e
    event_leads c s m (Exec p) may =
        word_leads w plan lay some code four few c s m p may.0
        (may_run (c.nodes (node_of w p)) (lane_of w p) (m.doing p) (part_in w c.nodes p)
        (m.parts p may.0) may.1)
    event_leads c s m (Take i j) may = go (c.list j i) refl
      where
        lets : (p : ℕ) → p < processors w → node_of w p ≡ i
            → lowers w plan lay some code (rest_at m.counts (view c 0)) i j ≡ true
            → MayTake w plan lay some code (m.doing p) (lanes_in w c.nodes p)
        lets p low same lowering =
            may_take_there (c.nodes (node_of w p)) (lane_of w p) (m.doing p) (m.parts p low)
            (subst (λ y. lane_lets w (c.nodes y) (lane_of w p) ≡ true) (sym same)
            (each_lets (c.nodes i) (c.list j i) may.3 (sym (lowers_same (c.list j i)) ∙ lowering)
            (lane_of w p) (lane_low w some p)))

        go : (xs : List Wire) → c.list j i ≡ xs
            → LeadsTo w plan lay some code s (picks_of_take w c i j (c.list j i)) (λ p. []) []
            (CountsBy c (Take i j) m.counts) (take_first w c i j (c.list j i)) × Unit {0}
        go [] e = absurd (may.2 e)
        go (wire ∷ ws) e =
            (take_leads w plan lay some code c s m i j may.0 may.1 wire ws e lets, tt)

    -- 3. Runs

    -- the exits after a run are those of its lanes' phases
    abbrev pub EndsBy : LaneCore → List LaneEvent → ℕ → Option Exit → Type 0
    EndsBy c es p exit = EndsAs w.work.budget exit (phase_of w (after w c es) p)

    ends_as : (a : Doing) (y : LanePart) (q : Processor) (l : ProcessorState) (n : NodeMemory) → IsPartHere a y
        → StandsIn w.work.layout w.work (processors w) (node_of w) there plan code
        (protocol w plan lay some code) (side w plan lay some code) (laid w plan lay some code) a q l n
        → EndsAs w.work.budget q.exit y.phase
    ends_as Runs y q l n (inl h) g = subst (EndsAs w.work.budget q.exit) (sym h) g.0
    ends_as Runs y q l n (inr h) g = subst (EndsAs w.work.budget q.exit) (sym h) g.0
    ends_as (Awaits resume want more again) y q l n h g =
        subst (EndsAs w.work.budget q.exit) (sym h.0) g.0.runs
    ends_as (HasEnded (Exited e)) y q l n h g = subst (EndsAs w.work.budget q.exit) (sym h.0) g
    ends_as (HasEnded (Stopped b)) y q l n h g = subst (EndsAs w.work.budget q.exit) (sym h.0) g

    -- the run is, by its picks, a run of the original with the same values, output and exits; each
    -- access is licensed; and the nodes match the one memory after it
    pub record Composes (c : LaneCore) (s : State) (es : List LaneEvent) : Type 0 where
      pub follows : FollowsTo (one w plan lay some code) (EndsBy c es) s (picks_of w plan c es)
          (λ p. values_of w plan p c es) (printed_by w c es)
      pub licensed : AllLicensed w plan c es
      pub matches : MatchesCore w plan lay some code (after w c es)
          (run (one w plan lay some code) s (picks_of w plan c es))

    pub composes : (es : List LaneEvent) (c : LaneCore) (s : State)
        → MatchesCore w plan lay some code c s → IsLaneRun w c es → Composes c s es
    composes [] c s m may = record {
      follows = record {
        advanced = record {
          allowed = tt;
          same_values = λ p. refl;
          output = sym (append-nil s.output);
        };
        ends = λ p low. ends_as (m.doing p) (part_in w c.nodes p) (s.processors p)
            (lanes_in w c.nodes p) _ (m.parts p low) (m.matches.stands p low);
      };
      licensed = tt;
      matches = m;
    }
    composes (e ∷ es) c s m may =
        let a = event_leads c s m e may.0 in
        let d = event_step w c e in
        let ks = picks_at w plan c e in
        let rest = composes es d (run (one w plan lay some code) s ks) a.0.behind may.1 in
        record {
          follows = join (one w plan lay some code) (EndsBy d es) s ks (picks_of w plan d es)
              (λ p. values_at w plan p c e) (λ p. values_of w plan p d es) (printed_at w c e)
              (printed_by w d es) a.0.advanced rest.follows;
          licensed = (a.1, rest.licensed);
          matches = subst (MatchesCore w plan lay some code (after w d es))
              (sym (run_append (one w plan lay some code) ks (picks_of w plan d es) s))
              rest.matches;
        }

  -- 4. From the start

  abbrev first_nodes : ℕ → LaneNode
  first_nodes = (opening_core w).nodes

  start_suits : (i : ℕ) → i < w.work.layout.nodes → Suits w.work.program (locals_in first_nodes i)
  start_suits i low =
      (side w plan lay some code).suits (locals_in first_nodes)
      (rest_at no_counts (view (opening_core w) 0)) w.work.program.first (opens w.work lay) i low

  start_stands : (p : ℕ) → p < processors w
      → code.Stands ((opening (one w plan lay some code)).processors p) (lanes_in w first_nodes p)
      (seen w.work.layout w.work (processors w) (node_of w) there (locals_in first_nodes)
      (reserved_in w first_nodes) p)
  start_stands p low =
      let h = start_suits (node_of w p) (there p low) in
      subst (λ y. code.Stands ((opening (one w plan lay some code)).processors p)
      (lane_first w.work.layout w.work (processors w) plan y)
      (seen w.work.layout w.work (processors w) (node_of w) there (locals_in first_nodes)
      (reserved_in w first_nodes) p)) (sym (numbered w some p))
      (code.starts p (seen w.work.layout w.work (processors w) (node_of w) there
      (locals_in first_nodes) (reserved_in w first_nodes) p)
      (record { states = h.states; flagged = h.flagged }))

  pub start_matches : MatchesCore w plan lay some code (opening_core w)
      (opening (one w plan lay some code))
  start_matches = record {
    doing = λ p. Runs;
    parts = λ p low. inl refl;
    numbers = λ i low. refl;
    counts = no_counts;
    matches = record {
      shares = record {
        held = opens w.work lay;
        reservations = λ p low. refl;
        readable = λ p low a h c. let bad : None ≡ Some a = h in cc;
      };
      stands = λ p low. (refl, start_stands p low);
      held = λ i b need low e. let bad : None ≡ Some need = e in cc;
      covered = λ p b need low e. let bad : None ≡ Some need = e in cc;
    };
  }

  pub start_counts : start_matches.counts ≡ no_counts
  unfolding start_matches
  start_counts = refl

  pub composes_from_start : (four : w.lanes ≤ 4) (few : processors w ≤ 16) (es : List LaneEvent)
      → IsLaneRun w (opening_core w) es
      → Composes four few (opening_core w) (opening (one w plan lay some code)) es
  composes_from_start four few es may =
      composes four few es (opening_core w) (opening (one w plan lay some code)) start_matches may
