-- A run of nodes, by the law of rewriting.
use Rattle.std.proofs.Common.{◌≡◌, ℕ, ◌/◌, ◌<◌, ◌≤◌, ◌^◌, Bool, true, List, [], ◌∷◌, ◌++◌, Option, None, Some, refl, sym, ap, ◌∙◌, subst}
use Rattle.rv32_program.specs.declared.Class.{Class}
use Rattle.rv32_program.specs.declared.Class.TheVariants as class
use Rattle.rv32_program.specs.declared.End.TheVariants.{Stopped}
use Rattle.rv32_program.specs.Program.{IsAccepted}
use Rattle.block_layout.specs.Layout.{Shape, IsValid, is_in, is_shared as is_shared_line}
use Rattle.elf32_read.specs.Elf.{Elf}
use Rattle.exec_map.specs.Contents.{program_of, class_of_line, is_shared}
use Rattle.templates.specs.declared.plans.PlanEntry.{PlanEntry}
use Rattle.rewrite_verify.specs.jump_map.Image.{Cell, IsRewriting}
use Rattle.rewrite_verify.specs.rewriter.RewrittenFile.{rewritten_elf}
use Rattle.replay.specs.node_model.Node.{Work, Resume, IsLaidOver, Ended, Waiting, standing_of}
use Rattle.replay.specs.node_model.Outcome.{AreFrugal, counts_after}
use Rattle.replay.specs.node_model.Core.{Core, Event, AreAlike, IsCoreRun, IsOver, opening_core, after, event_step}
use Rattle.replay.specs.run_order.OwnRun.{Stamped, StandsForOwnRun, events_of, run_of}
use Rattle.replay.specs.run_record.declared.Record.{Record}
use Rattle.replay.specs.rewriting_law.Ascents.{AscendsBetweenPolls}
use Rattle.replay.specs.rewriting_law.Bounds.{RunsRewritten, steps_of}
use Rattle.replay.specs.rewriting_law.CoreRun.{picks_of}
use Rattle.replay.specs.rewriting_law.Licence.{AllLicensed}
use Rattle.replay.specs.rewriting_law.Interleaving.{Interleaves, IsCoherent, original_after}
use Rattle.replay.specs.dsm_core.CoreParts.{work_with}
use Rattle.judged_files.specs.Code.{Choice, choice_of, IsChosen, IsFileOf, IsRewritingOf}
use Rattle.judged_files.specs.Executables.{IsProgramOf}
use Rattle.prepared_run.specs.Ready.{GivesCode, GivesRuns, IsAskedWork}
use Rattle.judged_files.specs.Inputs.{Inputs}
use Rattle.judged_files.specs.Layouts.{IsLayoutOfLines, IsLayoutOfExecutable}
use Rattle.prepared_run.specs.WholeRuns.{HasMail}
use Rattle.judged_files.specs.Records.{IsLayoutOfBlocks}

-- ---- the layout

shared_as : (layout : Shape) (line : ℕ) → is_shared_line layout line ≡ is_in layout.shared line
unfolding is_shared_line
shared_as layout line = refl

laid_by : (k : Class) (t : Bool) → t ≡ is_shared k
    → ((k ≡ class.Shared) → (t ≡ true)) × ((t ≡ true) → (k ≡ class.Shared))
laid_by class.Shared t e = (λ h. e, λ h. refl)
laid_by class.ReadOnly t e = (λ h. cc, λ h. (let bad = sym e ∙ h in cc))
laid_by class.Private t e = (λ h. cc, λ h. (let bad = sym e ∙ h in cc))
laid_by class.Unmapped t e = (λ h. cc, λ h. (let bad = sym e ∙ h in cc))

pub shape_facts : (text : Option (List ℕ)) (shared : _) (nodes : ℕ) (layout : Shape)
    → IsLayoutOfLines text shared nodes layout → (layout.shared ≡ shared) × (layout.nodes ≡ nodes)
shape_facts None shared nodes layout h =
    (ap (λ (s : Shape). s.shared) h, ap (λ (s : Shape). s.nodes) h)
shape_facts (Some text) shared nodes layout h = (h.shared_is, h.nodes_is)

pub nodes_of : (elf : Elf) (text : Option (List ℕ)) (nodes : ℕ) (layout : Shape)
    → IsLayoutOfExecutable elf text nodes layout → layout.nodes ≡ nodes
nodes_of elf text nodes layout h = (shape_facts text h.shared nodes layout h.reads).1

pub laid_over : (elf : Elf) (text : Option (List ℕ)) (nodes : ℕ) (layout : Shape)
    → IsLayoutOfExecutable elf text nodes layout → IsLaidOver (program_of elf) layout
laid_over elf text nodes layout h line =
    laid_by (class_of_line elf line) (is_shared_line layout line) (shared_as layout line
    ∙ ap (λ rs. is_in rs line) (shape_facts text h.shared nodes layout h.reads).0
    ∙ h.lines.lines line)

-- likewise the layout of a record's blocks
pub laid_over_blocks : (elf : Elf) (kept : Record) (layout : Shape)
    → IsLayoutOfBlocks elf kept layout → IsLaidOver (program_of elf) layout
laid_over_blocks elf kept layout h line =
    laid_by (class_of_line elf line) (is_shared_line layout line) (shared_as layout line
    ∙ ap (λ (s : Shape). is_in s.shared line) h.layout_is
    ∙ h.lines.lines line)

-- ---- the run

-- nodes and lists that are alike have the same events
own_after : (work : Work) (core : Core) (own : List Stamped) → StandsForOwnRun work core own
    → StandsForOwnRun work (after work (opening_core work) (run_of own)) own
own_after work core own s = record {
  are_events = record {
    sorted = s.are_events.sorted;
    below = s.are_events.below;
    each = λ i low. s.are_events.each i low ∙ ap (events_of i) (s.ends.nodes i low);
  };
  is_run = s.is_run;
  ends = record { nodes = λ i low. refl; lists = λ j i from to. refl };
}

-- and are over together
over_after : (work : Work) (core other : Core) → AreAlike work.layout.nodes core other
    → IsOver work core → IsOver work other
over_after work core other alike over i low =
    ap (standing_of work) (sym (alike.nodes i low)) ∙ over i low

-- each core run of rewritten code has these facts
abbrev pub AllRuns : (Work → List PlanEntry → List Event → Type 0) → Type 0
AllRuns Has = (work : Work) (plan : List PlanEntry) (events : List Event)
    → IsAccepted work.program → IsValid work.layout → IsLaidOver work.program work.layout
    → IsRewriting work.program plan work.image → IsCoreRun work (opening_core work) events
    → Has work plan events

abbrev pub StopsLate : Type 0
StopsLate = (work : Work) (events : List Event) (i budget : ℕ)
    → IsCoreRun work (opening_core work) events
    → ((after work (opening_core work) events).nodes i).phase ≡ Ended (Stopped budget)
    → (budget ≡ work.budget)
    × (((after work (opening_core work) events).nodes i).executed ≡ work.budget)

abbrev pub MakesSteps : Type 0
MakesSteps = (work : Work) (plan : List PlanEntry) (events : List Event) (i budget : ℕ)
    → IsAccepted work.program → IsValid work.layout → IsLaidOver work.program work.layout
    → IsRewriting work.program plan work.image → IsCoreRun work (opening_core work) events
    → i < work.layout.nodes
    → ((after work (opening_core work) events).nodes i).phase ≡ Ended (Stopped budget)
    → budget / 40 ≤ steps_of i (picks_of work plan (opening_core work) events)

abbrev pub Ascends : Type 0
Ascends = (work : Work) (plan : List PlanEntry) (events : List Event) (i : ℕ)
    → IsAccepted work.program → IsValid work.layout → IsLaidOver work.program work.layout
    → IsRewriting work.program plan work.image → IsCoreRun work (opening_core work) events
    → i < work.layout.nodes → AscendsBetweenPolls work plan events i

abbrev pub WaitsForMail : Type 0
WaitsForMail = (work : Work) (plan : List PlanEntry) (events : List Event) (i : ℕ)
    (resume : Resume) → IsAccepted work.program → IsValid work.layout
    → IsLaidOver work.program work.layout → IsRewriting work.program plan work.image
    → IsCoreRun work (opening_core work) events → i < work.layout.nodes
    → ((after work (opening_core work) events).nodes i).phase ≡ Waiting resume
    → HasMail work.layout.nodes (after work (opening_core work) events)

abbrev pub EndsEmpty : Type 0
EndsEmpty = (work : Work) (plan : List PlanEntry) (events : List Event) (j k : ℕ)
    → IsAccepted work.program → IsValid work.layout → IsLaidOver work.program work.layout
    → IsRewriting work.program plan work.image → IsCoreRun work (opening_core work) events
    → IsOver work (after work (opening_core work) events)
    → j < work.layout.nodes → k < work.layout.nodes
    → (after work (opening_core work) events).list j k ≡ []

-- the front of a run is a run
run_front : (work : Work) (before behind : List Event) (c : Core)
    → IsCoreRun work c (before ++ behind) → IsCoreRun work c before
run_front work [] behind c may = tt
run_front work (e ∷ es) behind c may = (may.0, run_front work es behind (event_step work c e) may.1)

-- the parts of a run: an accepted program, its rewriting and the layout
pub record AreReady (choice : Choice) (file : List ℕ) (elf : Elf) (plan : List PlanEntry)
    (image : List Cell) (layout : Shape) : Type 0 where
  pub rewritten : IsRewritingOf choice file elf plan image
  pub accepted : IsAccepted (program_of elf)
  pub over : IsLaidOver (program_of elf) layout
  pub valid : IsValid layout

-- the program is that of the executable that was read
pub are_ready : (choice : Choice) (file : List ℕ) (original elf : Elf) (plan : List PlanEntry) (image : List Cell)
    (layout : Shape) → elf ≡ original → IsProgramOf file original
    → IsAccepted (program_of original) → IsChosen choice elf plan image
    → IsRewriting (program_of elf) plan image → IsLaidOver (program_of elf) layout
    → IsValid layout → AreReady choice file elf plan image layout
are_ready choice file original elf plan image layout is executable accepted chosen rewriting over valid =
    record {
      rewritten = record {
        executable = subst (IsProgramOf file) (sym is) executable;
        chosen = chosen;
        rewriting = rewriting;
      };
      accepted = subst (λ e. IsAccepted (program_of e)) (sym is) accepted;
      over = over;
      valid = valid;
    }

-- the laws of rewriting, of progress and of bounds
pub record HaveLaws : Type 0 where
  pub law : AllRuns Interleaves
  pub licensed : AllRuns (λ work plan events. AllLicensed work plan (opening_core work) events)
  pub coherent : AllRuns (λ work plan events. IsCoherent work
      (after work (opening_core work) events) (original_after work plan events).shared)
  pub stopped : StopsLate
  pub steps : MakesSteps
  pub polls : Ascends
  pub messages : AllRuns (λ work plan events. AreFrugal work.layout.nodes (counts_after work events))
  pub waits : WaitsForMail
  pub empty : EndsEmpty

module _ (choice : Choice) (file : List ℕ) (budget : ℕ) (elf : Elf) (plan : List PlanEntry)
    (image : List Cell) (layout : Shape) (r : AreReady choice file elf plan image layout) where
  pub runs_rewritten : 0 < budget → budget ≤ 2 ^ 32
      → RunsRewritten (work_with elf image layout budget)
  runs_rewritten some few = record {
    accepted = r.accepted;
    valid = r.valid;
    laid_over = r.over;
    plan = plan;
    rewriting = r.rewritten.rewriting;
    some = some;
    few = few;
  }

  -- by the law of rewriting
  pub gives_code : 0 < budget → budget ≤ 2 ^ 32 → HaveLaws
      → GivesCode choice file elf plan (work_with elf image layout budget)
  gives_code some few laws core own o stands ended outcome =
      let work : Work = work_with elf image layout budget in
      let events : List Event = run_of own in
      let rewriting = r.rewritten.rewriting in
      let same : Interleaves work plan events =
      laws.law work plan events r.accepted r.valid r.over rewriting stands.is_run in
      let all_over : IsOver work (after work (opening_core work) events) =
      over_after work core (after work (opening_core work) events) stands.ends ended in
      record {
        rewritten = r.rewritten;
        program = refl;
        runs = runs_rewritten some few;
        stands = own_after work core own stands;
        over = all_over;
        whole = record {
          run = stands.is_run;
          ends = outcome.ends;
          counts = outcome.counts;
          original = same;
          output = outcome.output ∙ sym same.output;
          licensed = laws.licensed work plan events r.accepted r.valid r.over rewriting
              stands.is_run;
          coherent = λ before behind is.
              laws.coherent work plan before r.accepted r.valid r.over rewriting
              (run_front work before behind (opening_core work)
              (subst (IsCoreRun work (opening_core work)) (sym is) stands.is_run));
          stopped = λ i b low phase. laws.stopped work events i b stands.is_run phase;
          steps = λ i b low phase. laws.steps work plan events i b r.accepted r.valid r.over rewriting
              stands.is_run low phase;
          polls = λ i low. laws.polls work plan events i r.accepted r.valid r.over rewriting
              stands.is_run low;
          messages = subst (AreFrugal layout.nodes) (sym outcome.counts)
              (laws.messages work plan events r.accepted r.valid r.over rewriting stands.is_run);
          waits = λ before behind i resume is low phase.
              laws.waits work plan before i resume r.accepted r.valid r.over rewriting
              (run_front work before behind (opening_core work)
              (subst (IsCoreRun work (opening_core work)) (sym is) stands.is_run)) low phase;
          empty = λ j k from to.
              laws.empty work plan events j k r.accepted r.valid r.over rewriting stands.is_run
              all_over from to;
        };
      }

-- a run of the code is a run of the inputs, where a file of code is that, and the layout is theirs
pub gives_runs : (inputs : Inputs) (nodes budget : ℕ) (elf : Elf) (plan : List PlanEntry)
    (image : List Cell) (layout : Shape) → IsFileOf (rewritten_elf elf image plan) inputs.code
    → IsLayoutOfExecutable elf inputs.layout nodes layout
    → GivesCode (choice_of inputs.batches inputs.verified) inputs.executable elf plan
    (work_with elf image layout budget)
    → GivesRuns inputs nodes budget (work_with elf image layout budget)
gives_runs inputs nodes budget elf plan image layout code laid_out gives core own o stands ended outcome =
    record {
      elf = elf;
      plan = plan;
      of_code = gives core own o stands ended outcome;
      code = code;
      laid_out = laid_out;
      count = nodes_of elf inputs.layout nodes layout laid_out;
      limit = refl;
    }

-- the work is what the inputs ask to be run
pub asked_work : (inputs : Inputs) (nodes budget : ℕ) (elf : Elf) (plan : List PlanEntry)
    (image : List Cell) (layout : Shape)
    → AreReady (choice_of inputs.batches inputs.verified) inputs.executable elf plan image layout
    → IsFileOf (rewritten_elf elf image plan) inputs.code
    → IsLayoutOfExecutable elf inputs.layout nodes layout
    → IsAskedWork inputs nodes budget elf plan (work_with elf image layout budget)
asked_work inputs nodes budget elf plan image layout ready code laid_out = record {
  rewritten = ready.rewritten;
  program = refl;
  code = code;
  laid_out = laid_out;
  count = nodes_of elf inputs.layout nodes layout laid_out;
  limit = refl;
}
