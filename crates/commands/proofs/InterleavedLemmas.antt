-- A whole run of nodes is an interleaved run of the original.
use Rattle.std.proofs.Common.{◌≡◌, ℕ, zero, suc, ◌+◌, ◌*◌, ◌<◌, ◌≤◌, ◌&&◌, not, cond, eqb, Bool, true, false, List, [], ◌∷◌, ◌++◌, length, map, get_or, Option, Some, None, refl, sym, ap, ◌∙◌, subst, inl, inr, arith}
use Rattle.std.specs.Prelude.{is_some, nat_lt, codes, IfSome, ◌^◌}
use Rattle.std.specs.Fmt.{digits}
use Rattle.std.specs.List.{filter, flat_map, range_with_len}
use Rattle.std.proofs.Math.Nat.{mod-lt}
use Rattle.std.proofs.lemmas.Bool.{cases_Bool, ltb-false}
use Rattle.std.proofs.lemmas.Bool.Decides.{eqb_tells}
use Rattle.std.proofs.lemmas.List.Sums.{sum_by-cons}
use Rattle.elf32_read.specs.Elf.{Elf}
use Rattle.exec_map.specs.Contents.{program_of, AreSharedRanges}
use Rattle.block_layout.specs.Layout.{Shape, IsValid}
use Rattle.block_layout.specs.declared.ranges.Lines.{Lines}
use Rattle.rv32_program.specs.declared.Exit.{Exit}
use Rattle.rv32_step.specs.OneMemory.{Original, State, Pick, Step, is_of, opening, step, IsRun, run}
use Rattle.random_order.specs.Orders.{following, choice}
use Rattle.one_memory.specs.ByOrder.{FollowsOrder, goes_on, live, one_more}
use Rattle.templates.specs.declared.plans.PlanEntry.{PlanEntry}
use Rattle.node_model.specs.Outcome.{Outcome}
use Rattle.node_model.specs.declared.Entry.{Entry}
use Rattle.rewriting_law.specs.Bounds.{steps_of}
use Rattle.lane_model.specs.Nodes.{LaneWork, processors}
use Rattle.lane_model.specs.Core.{LaneEvent, opening_core as opening_lanes, after as after_lanes}
use Rattle.lane_law.specs.Law.{original_by_lane, phase_of, original_after as lanes_after}
use Rattle.lane_law.specs.Picks.{picks_of as picks_of_lanes}
use Rattle.dsm_io.specs.States.{FilesState, SinkState}
use Rattle.command_line.specs.Tasks.{SimArguments, Task, Run, One, Sim, Replay}
use Rattle.command_line.specs.Commands as command
use Rattle.command_line.specs.Commands.{as_command}
use Rattle.command_line.specs.Asks.{Asks, AsksToRun}
use Rattle.commands.specs.Headline.{IsOutcomeByOrder, IsText, IsTextOfSim, Prints}
use Rattle.judged_files.specs.Code.{choice_of}
use Rattle.judged_files.specs.Inputs.{Inputs}
use Rattle.judged_files.specs.Records.{IsLayoutOfBlocks, IsTextOf}
use Rattle.run_record.proofs.Told.{whole}
use Rattle.run_record.specs.declared.Record.{Record}
use Rattle.run_record.specs.declared.version.Version.{Version}
use Rattle.run_record.specs.Record.{IsCodeLength}
use Rattle.run_record.specs.Text.{number_line, version_of, version_line, batch_line, code_line, block_line, block_lines, take_lines, journal_lines}
use Rattle.commands.specs.Inputs.{AreTold, inputs_of}
use Rattle.prepared_run.specs.Interleaved.{IsInterleaved, IsLaidOutBy, TellsOfOriginal, least_steps}
use Rattle.prepared_run.specs.Outcomes.{told, text_of}
use Rattle.prepared_run.proofs.Interleaving.{ends_from, layout_given, of_code, of_run, original_as, text_as}
use Rattle.commands.specs.Interleaved.{AreFilesTold, BeginsRecord, IsTextOfOriginal, PrintsOriginal, processors_on}
use Rattle.commands.proofs.RecordHeads.{blocks_are}
use Rattle.commands.specs.LaneRuns.{IsLaneRunOf, IsWholeLaneRun}

-- ---- records

-- the number of the version
abbrev version_number : Option ℕ → ℕ
version_number None = 1
version_number (Some words) = 2

version_is : (code : Option ℕ)
    → version_line (version_of code) ≡ number_line (codes "shasta-record ") (version_number code)
unfolding digits
version_is None = refl
version_is (Some words) = refl

version_low : (code : Option ℕ) → version_number code ≤ 2
version_low None = omega arith
version_low (Some words) = omega arith

abbrev batch_number : Bool → ℕ
batch_number true = 1
batch_number false = 0

batch_is : (batch : Bool) → batch_line batch ≡ number_line (codes "batch ") (batch_number batch)
unfolding digits
batch_is true = refl
batch_is false = refl

batch_low : (batch : Bool) → batch_number batch ≤ 1
batch_low true = omega arith
batch_low false = omega arith

code_low : (code : Option ℕ) → IfSome code IsCodeLength → IfSome code (λ words. words < 2 ^ 32)
code_low None h = tt
code_low (Some words) h = let few = h.few in omega (arith, few)

-- behind the blocks the first node's journal begins
first_node : (version : Version) (js : List (List Entry)) → 0 < length js
    → (behind : List ℕ) × (journal_lines version 0 js ≡ codes "node 0\n" ++ behind)
unfolding digits
first_node version [] some = absurd (omega (arith, some))
first_node version (es ∷ more) some =
    (take_lines version 0 es ++ (codes "end\n" ++ journal_lines version 1 more), refl)

begins : (kept : Record) (text : List ℕ) (shared : List Lines) → IsTextOf kept text
    → IsValid (record { shared = shared; named = kept.blocks; nodes = kept.nodes })
    → BeginsRecord text (record { shared = shared; named = kept.blocks; nodes = kept.nodes })
    kept.budget
begins kept text shared h valid =
    let some = valid.some_node in
    let each = h.is_record.each in
    let first = first_node (version_of kept.code) kept.journals (omega (arith, some, each)) in
    let blocks = ap (λ t. block_lines kept.blocks ++ t) first.1
    ∙ ap (λ t. t ++ (codes "node 0\n" ++ first.0)) (blocks_are kept.blocks) in
    let code = ap (λ t. code_line kept.code ++ t) blocks in
    let batch = ap (λ t. batch_line kept.batch ++ t) code
    ∙ ap (λ t. t ++ (code_line kept.code
    ++ (flat_map block_line kept.blocks ++ (codes "node 0\n" ++ first.0)))) (batch_is kept.batch) in
    let budget = ap (λ t. number_line (codes "budget ") kept.budget ++ t) batch in
    let nodes = ap (λ t. number_line (codes "nodes ") kept.nodes ++ t) budget in
    let all = ap (λ t. version_line (version_of kept.code) ++ t) nodes in
    record {
      version = version_number kept.code;
      batch = batch_number kept.batch;
      code = kept.code;
      behind = first.0;
      text_is = h.text_is ∙ whole kept ∙ all ∙ ap (λ t. t
          ++ (number_line (codes "nodes ") kept.nodes ++ (number_line (codes "budget ") kept.budget
          ++ (number_line (codes "batch ") (batch_number kept.batch) ++ (code_line kept.code
          ++ (flat_map block_line kept.blocks ++ (codes "node 0\n" ++ first.0)))))))
          (version_is kept.code);
      versions = version_low kept.code;
      batches = batch_low kept.batch;
      few_words = code_low kept.code h.is_record.code;
      limit = h.is_record.budget;
      words = h.of_words;
      valid = valid;
    }

-- so does the text of a record, of the layout of its blocks
begins_so : (kept : Record) (text : List ℕ) (elf : Elf) (layout : Shape) → IsTextOf kept text
    → IsLayoutOfBlocks elf kept layout → IsValid layout → AreSharedRanges elf layout.shared
    × ((layout.nodes ≡ kept.nodes) × BeginsRecord text layout kept.budget)
begins_so kept text elf layout h laid valid =
    let same = laid.layout_is in (
      subst (λ (s : Shape). AreSharedRanges elf s.shared) (sym same) laid.lines,
      (
        ap (λ (s : Shape). s.nodes) same,
        subst (λ s. BeginsRecord text s kept.budget) (sym same)
            (begins kept text laid.shared h (subst IsValid same valid)),
      ),
    )

-- ---- nodes of several processors

-- a whole run of them is, by its picks, an interleaved run
of_whole_lanes : (w : LaneWork) (plan : List PlanEntry) (events : List LaneEvent) (o : Outcome)
    → IsWholeLaneRun w plan events o
    → IsInterleaved (original_by_lane w) w.work.budget 0 o.output o.ends
of_whole_lanes w plan events o whole = record {
  picks = picks_of_lanes w plan (opening_lanes w) events;
  allowed = whole.original.allowed;
  output_is = whole.output;
  ends_are = ends_from w.work.budget (λ p. ((lanes_after w plan events).processors p).exit)
      (λ p. phase_of w (after_lanes w (opening_lanes w) events) p) 0 (processors w) o.ends
      (λ p low high. whole.original.ends p (omega (arith, high))) whole.ends;
  worked = λ p low none. omega arith;
}

of_lane_run : (inputs : Inputs) (nodes lanes budget : ℕ) (w : LaneWork) (events : List LaneEvent)
    (o : Outcome) (brief : Bool) (text : List ℕ)
    → IsLaneRunOf inputs nodes lanes budget w events o → text ≡ text_of (told brief o)
    → TellsOfOriginal inputs.executable (IsLaidOutBy inputs.layout nodes) (nodes * lanes) budget
    (least_steps (Some lanes) budget) text
of_lane_run inputs nodes lanes budget w events o brief text h is =
    let many : processors w ≡ nodes * lanes =
    ap (λ n. n * w.lanes) h.asked.count ∙ ap (λ m. nodes * m) h.lanes_are in
    let given = layout_given h.elf inputs.layout nodes w.work.layout h.asked.laid_out in
    record {
      elf = h.elf;
      executable = h.asked.rewritten.executable;
      layout = w.work.layout;
      lines = given.0;
      laid_out = given.1;
      output = o.output;
      ends = o.ends;
      counts = (told brief o).counts;
      interleaved = original_as w.work.program w.work.layout (processors w) w.work.budget
          (λ b. 0) (program_of h.elf) (nodes * lanes) budget o.output o.ends h.asked.program many
          h.asked.limit (of_whole_lanes w h.plan events o h.whole);
      text_is = is ∙ text_as brief o;
    }

-- ---- runs by an order

no_exit : (o : Option Exit) (b : Bool) → (not (is_some o) && b) ≡ true → o ≡ None
no_exit None b h = refl
no_exit (Some e) b h = absurd (cc)

-- a number that a test picks of a range
pub record IsPicked (test : ℕ → Bool) (a n p : ℕ) : Type 0 where
  pub passes : test p ≡ true
  pub high : p < a + n

wider : (test : ℕ → Bool) (a n p : ℕ) → IsPicked test (a + 1) n p → IsPicked test a (suc n) p
wider test a n p h = record { passes = h.passes; high = omega (arith, h.high) }

picked : (test : ℕ → Bool) (a n k : ℕ) → k < length (filter test (range_with_len a n))
    → IsPicked test a n (get_or (filter test (range_with_len a n)) k 0)
picked test a zero k lt = absurd (omega (arith, lt))
picked test a (suc n) zero lt = elim (cases_Bool (test a)) [
  | inl e ↦ rw e (record { passes = e; high = omega arith })
  | inr e ↦ rw e (wider test a n _ (picked test (a + 1) n zero (rw e at lt)))
]
picked test a (suc n) (suc k) lt = elim (cases_Bool (test a)) [
  | inl e ↦
      let more : suc k < suc (length (filter test (range_with_len (a + 1) n))) = rw e at lt in
      rw e (wider test a n _ (picked test (a + 1) n k (omega (arith, more))))
  | inr e ↦ rw e (wider test a n _ (picked test (a + 1) n (suc k) (rw e at lt)))
]

-- a processor that goes on may make a step
may_step : (o : Original) (budget : ℕ) (steps : ℕ → ℕ) (s : State) (k p : ℕ)
    → k < length (live o budget steps s) → p ≡ get_or (live o budget steps s) k 0
    → (p < o.nodes) × ((s.processors p).exit ≡ None)
may_step o budget steps s k p within at =
    let here = picked (goes_on budget steps s) 0 o.nodes k within in
    let goes : goes_on budget steps s p ≡ true = ap (goes_on budget steps s) at ∙ here.passes in
    let high = here.high in
    (omega (arith, high, at), no_exit (s.processors p).exit (nat_lt (steps p) budget) goes)

order_runs : (o : Original) (budget number : ℕ) (steps : ℕ → ℕ) (s : State) (ps : List ℕ)
    → FollowsOrder o budget number steps s ps → IsRun o s (map (λ p. Step p) ps)
order_runs o budget number steps s [] h = tt
order_runs o budget number steps s (p ∷ ps) h =
    let ls = live o budget steps s in
    let k = choice (length ls) (following number) in
    let some = h.0 in
    let within : k < length ls = mod-lt _ some in (
      may_step o budget steps s k p within h.1,
      order_runs o budget (following number) (one_more steps p) (step o s p).state ps h.2,
    )

-- a test that picks none of a range fails in it
none_passes : (test : ℕ → Bool) (a n : ℕ) → filter test (range_with_len a n) ≡ [] → (p : ℕ)
    → a ≤ p → p < a + n → test p ≡ false
none_passes test a zero none p low high = absurd (omega (arith, low, high))
none_passes test a (suc n) none p low high = elim (cases_Bool (test a)) [
  | inl e ↦
      let some : a ∷ filter test (range_with_len (a + 1) n) ≡ [] = rw e at none in absurd (cc)
  | inr e ↦
      let rest : filter test (range_with_len (a + 1) n) ≡ [] = rw e at none in
      elim (eqb_tells p a) [
        | inl h ↦ ap test h.1 ∙ e
        | inr h ↦
            let other = h.1 in
            none_passes test (a + 1) n rest p (omega (arith, low, other)) (omega (arith, high))
      ]
]

-- one that doesn't go on, and has no exit, has made the whole budget of steps
made_all : (budget : ℕ) (steps : ℕ → ℕ) (s : State) (p : ℕ) → goes_on budget steps s p ≡ false
    → (s.processors p).exit ≡ None → budget ≤ steps p
made_all budget steps s p stays none =
    ltb-false (steps p) budget
    (sym (ap (λ (x : Option Exit). not (is_some x) && nat_lt (steps p) budget) none) ∙ stays)

-- a step is counted
counted : (steps : ℕ → ℕ) (q p : ℕ) (ks : List Pick)
    → one_more steps q p + steps_of p ks ≡ steps p + steps_of p (Step q ∷ ks)
counted steps q p ks =
    let more : steps_of p (Step q ∷ ks) ≡ cond (eqb p q) 1 0 + steps_of p ks =
    sum_by-cons (λ x. cond (is_of p x) 1 0) (Step q) ks in
    elim (eqb_tells p q) [
      | inl h ↦
          let made : one_more steps q p ≡ steps p + 1 = rw h.0 refl in
          let now : steps_of p (Step q ∷ ks) ≡ 1 + steps_of p ks =
          more ∙ ap (λ b. cond b 1 0 + steps_of p ks) h.0 in
          omega (arith, made, now)
      | inr h ↦
          let made : one_more steps q p ≡ steps p = rw h.0 refl in
          let now : steps_of p (Step q ∷ ks) ≡ 0 + steps_of p ks =
          more ∙ ap (λ b. cond b 1 0 + steps_of p ks) h.0 in
          omega (arith, made, now)
    ]

-- where none goes on any more, each without an exit has made its budget of steps
order_worked : (o : Original) (budget number : ℕ) (steps : ℕ → ℕ) (s : State) (ps : List ℕ)
    → FollowsOrder o budget number steps s ps → (p : ℕ) → p < o.nodes
    → ((run o s (map (λ q. Step q) ps)).processors p).exit ≡ None
    → budget ≤ steps p + steps_of p (map (λ q. Step q) ps)
order_worked o budget number steps s [] h p low none =
    let all = made_all budget steps s p
    (none_passes (goes_on budget steps s) 0 o.nodes h p (omega arith) (omega (arith, low))) none in
    let more : budget ≤ steps p + 0 = omega (arith, all) in more
order_worked o budget number steps s (q ∷ qs) h p low none =
    let rest = order_worked o budget (following number) (one_more steps q) (step o s q).state qs h.2
    p low none in
    subst (λ n. budget ≤ n) (counted steps q p (map (λ r. Step r) qs)) rest

by_order : (inputs : Inputs) (nodes order budget : ℕ) (o : Outcome) (text : List ℕ)
    → IsOutcomeByOrder inputs nodes order budget o → text ≡ text_of (told false o)
    → TellsOfOriginal inputs.executable (IsLaidOutBy inputs.layout nodes) nodes budget budget text
by_order inputs nodes order budget o text h is =
    let original : Original = record { program = program_of h.elf; layout = h.layout; nodes = nodes } in
    let given = layout_given h.elf inputs.layout nodes h.layout h.laid_out in
    record {
      elf = h.elf;
      executable = h.executable;
      layout = h.layout;
      lines = given.0;
      laid_out = given.1;
      output = o.output;
      ends = o.ends;
      counts = o.counts;
      interleaved = record {
        picks = map (λ p. Step p) h.ordered.picks;
        allowed = order_runs original budget order (λ p. 0) (opening original) h.ordered.picks h.ordered.ordered;
        output_is = h.ordered.output_is;
        ends_are = h.ordered.ends_are;
        worked = λ p low none.
            let made : budget ≤ 0 + steps_of p (map (λ q. Step q) h.ordered.picks) =
            order_worked original budget order (λ q. 0) (opening original) h.ordered.picks
            h.ordered.ordered p low none in
            omega (arith, made);
      };
      text_is = is;
    }

-- ---- what is printed

of_sim : (inputs : Inputs) (a : SimArguments) (loss lanes : Option ℕ) (text : List ℕ) (status : ℕ)
    → IsTextOfSim (record a { loss = loss; lanes = lanes }) inputs text status
    → TellsOfOriginal inputs.executable (IsLaidOutBy inputs.layout a.execution.nodes)
    (processors_on a.execution.nodes lanes) a.execution.budget (least_steps lanes a.execution.budget)
    text
of_sim inputs a None None text status h =
    of_run inputs a.execution.nodes a.execution.budget h.is.work h.is.own h.outcome a.execution.brief
    text h.is.is_run h.text_is
of_sim inputs a (Some loss) None text status h =
    of_run inputs a.execution.nodes a.execution.budget h.is.work h.is.own h.outcome a.execution.brief
    text h.is.is_run h.text_is
of_sim inputs a loss (Some lanes) text status h =
    of_lane_run inputs a.execution.nodes lanes a.execution.budget h.is.work h.is.events h.outcome
    a.execution.brief text h.is.is_run h.text_is

tells : (p : Task) (files : FilesState) (contents : List ℕ → List ℕ) (text : List ℕ)
    (status : ℕ) → IsText (as_command p) files (inputs_of (as_command p) contents) text status
    → IsTextOfOriginal p contents text
tells (Run a) files contents text status h =
    of_run (inputs_of (command.Run a) contents) a.execution.nodes a.execution.budget h.is.work
    h.is.own h.outcome a.execution.brief text h.is.is_run h.text_is
tells (One a) files contents text status h =
    by_order (inputs_of (command.One a) contents) a.nodes a.order a.budget h.outcome text h.is
    h.text_is
tells (Sim a) files contents text status h =
    of_sim (inputs_of (command.Sim a) contents) a a.loss a.lanes text status h
tells (Replay a) files contents text status h =
    let inputs = inputs_of (command.Replay a) contents in
    let kept = h.is.kept in
    let asked = h.is.asked in
    let same = begins_so kept inputs.text h.is.elf h.is.work.layout asked.text asked.laid_out
    asked.valid in
    record {
      nodes = kept.nodes;
      budget = kept.budget;
      tells = of_code (choice_of kept.batch inputs.verified) inputs.executable h.is.elf h.is.plan
          h.is.work _ h.outcome
          (λ (layout : Shape). (layout.nodes ≡ kept.nodes) × BeginsRecord inputs.text layout kept.budget)
          kept.nodes kept.budget a.brief text h.is.of_code same.0 same.1 same.1.0 asked.limit
          h.text_is;
    }

pub prints_original : (p : Task) (contents : List ℕ → List ℕ) (files : FilesState)
    (before now : SinkState) (status : ℕ) → Prints (as_command p) contents files before now status
    → PrintsOriginal p contents before now
prints_original p contents files before now status h = record {
  text = h.text;
  is = tells p files contents h.text status h.is;
  put = h.put;
}

-- ---- what is asked

-- words that ask to run a program ask for the command
pub asks_as : (words : List (List ℕ)) (p : Task) → AsksToRun words p → Asks words (as_command p)
asks_as words (Run a) h = record { of_row = h.of_row; fits = h.fits }
asks_as words (One a) h = record { of_row = h.of_row; fits = h.fits }
asks_as words (Sim a) h = record { of_row = h.of_row; fits = h.fits }
asks_as words (Replay a) h = record { of_row = h.of_row; fits = h.fits }

pub told_as : (p : Task) (files : FilesState) (contents : List ℕ → List ℕ)
    → AreFilesTold p files contents → AreTold (as_command p) files contents
told_as (Run a) files contents h = h
told_as (One a) files contents h = h
told_as (Sim a) files contents h = h
told_as (Replay a) files contents h = h
