-- The composed law, from the code's side and the directory protocol's.
use Rattle.std.proofs.Common.{◌≡◌, ◌≢◌, ℕ, ◌*◌, ◌/◌, ◌<◌, ◌≤◌, true, List, [], length, refl, sym, ap, ◌∙◌, subst, inl, arith}
use Rattle.std.specs.Prelude.{IsSome}
use Rattle.rewriting_law.proofs.Names.{Shape, IsValid, blocks, home, lines, block_of, IsAccepted, line_of, opening, PlanEntry, IsRewriting, Over, Work, Resume, Waiting, Ended, is_readable_state, is_writable_state, IsLaidOver, can_execute, standing_of, Event, Exec, May, IsCoreRun, opening_core, after, most_events, steps_of, AllLicensed, Interleaves, IsCoherent, GoesAlone, SameReservations, HaveRows, original_by_node, original_after, HasProtocolList, AscendsBetweenPolls, pc_at, committed, Stopped, commits, picks_of, AreFrugal, counts_after}
use Rattle.dsm_protocol.proofs.Openings.{LineLaws}
use Rattle.rewriting_law.proofs.words.CodeSide.{CodeSide}
use Rattle.rewriting_law.proofs.words.CodeFollows.{code_side}
use Rattle.rewriting_law.proofs.protocol_side.DirectorySide.{Layout, laid_out, coherent as nodes_coherent, alone, flagged}
use Rattle.rewriting_law.proofs.runs.TurnTies.{rest_at, locals_of}
use Rattle.rewriting_law.proofs.runs.Composed.{Composes, composes_from_start}
use Rattle.rewriting_law.proofs.runs.Alone.{one_alone}
use Rattle.rewriting_law.proofs.progress.Stuck.{never_stuck, moves, over, rows}
use Rattle.rewriting_law.proofs.progress.Short as bound
use Rattle.rewriting_law.proofs.progress.Costs as costs
use Rattle.rewriting_law.proofs.progress.Steps as steps
use Rattle.rewriting_law.proofs.progress.Ascending as ascending
use Rattle.rewriting_law.proofs.progress.Ascending.{Climb, behind_first, climbs_between, ascends_from_third, few_places, some_entry}

-- what the laws of blocks say of a layout
pub layout_of : LineLaws → ((s : Shape) (b : ℕ) → IsValid s → b < blocks s → 0 < lines s b)
    → ((s : Shape) (b : ℕ) → IsValid s → b < blocks s → lines s b ≤ 64)
    → ((s : Shape) (b : ℕ) → IsValid s → b < blocks s → home s b < s.nodes) → (work : Work)
    → IsValid work.layout → IsLaidOver work.program work.layout → Layout work
layout_of laws some few homes work valid over = record {
  laws = laws;
  valid = valid;
  some = λ b below. some work.layout b valid below;
  laid = record {
    some = valid.some_node;
    few = valid.few_nodes;
    homes = λ b below. homes work.layout b valid below;
    sizes = λ b below. few work.layout b valid below;
  };
  over = over;
}

module _ (work : Work) (plan : List PlanEntry) (accepted : IsAccepted work.program)
    (lay : Layout work) (rewriting : IsRewriting work.program plan work.image) (es : List Event)
    (may : IsCoreRun work (opening_core work) es) where
  abbrev code : CodeSide work.layout work plan
  code = code_side work.layout work plan accepted rewriting (laid_out work lay)

  composed : Composes work plan lay code
      (opening_core work) (opening (original_by_node work)) es
  composed = composes_from_start work plan lay
      code es may

  pub interleaves : Interleaves work plan es
  interleaves =
      let f = composed.follows in
      record {
        allowed = f.advanced.allowed;
        values = λ p low. f.advanced.same_values p;
        output = f.advanced.output;
        ends = f.ends;
      }

  pub licensed : AllLicensed work plan (opening_core work) es
  licensed = composed.licensed

  -- each word that commits is of the address where its processor is
  pub commits_there : (i : ℕ) → May work (after work (opening_core work) es) (Exec i)
      → commits work plan ((after work (opening_core work) es).nodes i) ≡ true
      → ((original_after work plan es).processors i).pc
      ≡ pc_at work ((after work (opening_core work) es).nodes i).lane
  commits_there i may commits =
      ascending.commits_there work plan lay code (after work (opening_core work) es)
      (original_after work plan es) composed.matches i may.0 may commits

  pub coherent : IsCoherent work (after work (opening_core work) es)
      (original_after work plan es).shared
  coherent =
      let c = after work (opening_core work) es in
      let memory = (original_after work plan es).shared in
      let counts = composed.matches.counts in
      let held = composed.matches.matches.shares.held in
      record {
        reads = λ i a low shared readable.
            nodes_coherent work lay (locals_of c) (rest_at counts c) memory held i low a shared
            readable;
        flags = λ i a low shared unreadable.
            flagged work lay (locals_of c) (rest_at counts c) memory held i low a shared unreadable;
        one_writer = λ i j x y b low_i low_j at_x at_y writable readable.
            let is_x : line_of (64 * x) ≡ x = omega arith in
            let is_y : line_of (64 * y) ≡ y = omega arith in
            alone work lay (locals_of c) (rest_at counts c) memory held i j low_i low_j (64 * x)
            (64 * y) b
            (ap (block_of work.layout) is_x ∙ at_x) (ap (block_of work.layout) is_y ∙ at_y)
            (ap (λ z. is_writable_state ((locals_of c i).state z)) is_x ∙ writable)
            (ap (λ z. is_readable_state ((locals_of c j).state z)) is_y ∙ readable);
      }

  pub protocol_list : HasProtocolList work (after work (opening_core work) es)
      (original_after work plan es).shared
  protocol_list =
      let held = composed.matches.matches.shares.held in
      record {
        holds = held.holds;
        starts = held.starts;
        states = λ i line b low at. (held.fits i low).block line b at;
      }

  pub same_reservations : SameReservations work (after work (opening_core work) es)
      (original_after work plan es)
  same_reservations p low = composed.matches.matches.shares.reservations p low

  -- one node
  pub goes_alone : work.layout.nodes ≡ 1
      → can_execute ((after work (opening_core work) es).nodes 0).phase ≡ true
      → GoesAlone work ((after work (opening_core work) es).nodes 0)
  goes_alone single runs = one_alone work plan lay code single es may runs

  -- some event is allowed
  pub goes_on : (i : ℕ) → i < work.layout.nodes
      → standing_of work ((after work (opening_core work) es).nodes i) ≢ Over
      → (e : Event) × May work (after work (opening_core work) es) e
  goes_on = never_stuck work plan lay code es may

  -- where a node waits, some list isn't empty
  pub waiting_moves : (i : ℕ) (resume : Resume) → i < work.layout.nodes
      → ((after work (opening_core work) es).nodes i).phase ≡ Waiting resume
      → (j : ℕ) × (k : ℕ) × (j < work.layout.nodes) × (k < work.layout.nodes)
      × ((after work (opening_core work) es).list j k ≢ [])
  waiting_moves = moves work plan lay code es may

  -- and where all nodes are over, each is
  pub all_empty : ((i : ℕ) → i < work.layout.nodes
      → standing_of work ((after work (opening_core work) es).nodes i) ≡ Over) → (j k : ℕ)
      → j < work.layout.nodes → k < work.layout.nodes
      → (after work (opening_core work) es).list j k ≡ []
  all_empty = over work plan lay code es may

  -- and the first message of a list has its row
  pub have_rows : HaveRows work (after work (opening_core work) es)
  have_rows = rows work plan lay code es may

  -- and the run is short
  pub short : 0 < work.budget → length es ≤ most_events work
  short some = bound.short work plan lay code some es may

  -- and its messages are no more than its misses may cost
  pub frugal : AreFrugal work.layout.nodes (counts_after work es)
  frugal = costs.frugal work plan lay code es may

  -- and a processor that was stopped has made a step for each 40 words
  pub steps_made : (i budget : ℕ) → i < work.layout.nodes
      → ((after work (opening_core work) es).nodes i).phase ≡ Ended (Stopped budget)
      → budget / 40 ≤ steps_of i (picks_of work plan (opening_core work) es)
  steps_made = steps.steps_made work plan lay code es may

  -- and between two polls a node's steps ascend from the third on
  pub ascends : (i : ℕ) → i < work.layout.nodes → AscendsBetweenPolls work plan es i
  ascends i low first between rest is none =
      let admissible = rewriting.admissible in
      let steps = committed work plan i (after work (opening_core work) first) between in
      let climbs : Climb work.program (behind_first steps) =
      climbs_between work plan lay code first between rest i low
      (subst (IsCoreRun work (opening_core work)) is may) none in
      record {
        ascend = ascends_from_third work.program steps climbs;
        few = few_places work.program plan steps admissible.ascends
            (λ a place from. admissible.complete a place)
            (some_entry plan work.program.entry (admissible.complete work.program.entry
            (inl (subst IsSome (sym accepted.starts) refl)))) climbs;
      }
