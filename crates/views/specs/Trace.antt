-- The trace of a recorded run, as a text.
use Rattle.std.specs.Prelude.{◌≡◌, ℕ, ◌-◌, ◌^◌, ◌/◌, Bool, true, false, List, ◌++◌, Option, None, Some, option_map, unwrap_or}
use Rattle.std.specs.Option.{option_map_or}
use Rattle.std.specs.List.{flat_map}
use Rattle.elf32_read.specs.Elf.{Elf}
use Rattle.block_layout.specs.Layout.{Shape, block_of}
use Rattle.templates.specs.declared.plans.PlanEntry.{PlanEntry}
use Rattle.node_model.specs.Node.{Work}
use Rattle.run_record.specs.declared.Record.{Record}
use Rattle.run_trace.specs.declared.tracer.Tracer.{Tracer}
use Rattle.run_trace.specs.Traced.{Traced}
use Rattle.run_trace.specs.Trace.{IsTraceOf}
use Rattle.run_trace.specs.Tracing.{HasTraced, plan_traced, record_traced, work_traced}
use Rattle.block_view.specs.event_text.declared.shown.EventFilter.{EventFilter}
use Rattle.block_view.specs.event_text.Events.{event_line}
use Rattle.block_view.specs.event_text.Shown.{head, shown, trace_text}
use Rattle.command_line.specs.Views.{RecordedFiles}
use Rattle.judged_files.specs.Inputs.{Inputs}
use Rattle.prepared_run.specs.Replays.{IsWorkOf}
use Rattle.views.specs.declared.trace.Selection.{Selection}

-- what is read of a recorded run, where files have these contents
abbrev pub recorded : RecordedFiles → (List ℕ → List ℕ) → Inputs
recorded run contents = record {
  executable = contents run.file;
  code = None;
  verified = option_map contents run.verified;
  layout = None;
  text = contents run.record_file;
  batches = true;
}

-- the events that are asked for, about one block, or about any or none
abbrev pub options_about : Selection → Option ℕ → EventFilter
options_about s block = record {
  from = unwrap_or s.from 0;
  to = unwrap_or s.to (2 ^ 64 - 1);
  node = s.node;
  block = block;
  words = false;
}

-- about the block in which an address lies, where one is asked for; none where it lies in no block
abbrev pub options_at : Shape → Selection → (address : Option ℕ) → Option EventFilter
options_at layout s None = Some (options_about s None)
options_at layout s (Some address) =
    option_map (λ b. options_about s (Some b)) (block_of layout (address / 64))

-- the text of a trace: the first line, and a line for each event that is asked for, of which there
-- are none where the address lies in no block
abbrev pub selected_text : Elf → Shape → Selection → List Traced → List ℕ
selected_text elf layout s trace =
    option_map_or (λ o. trace_text elf o trace) (options_at layout s s.address) head

-- the text of the trace of the run that a record asks for and tells of whole
pub record IsTraceText (inputs : Inputs) (s : Selection) (text : List ℕ) : Type 0 where
  pub kept : Record
  pub elf : Elf
  pub plan : List PlanEntry
  pub work : Work
  pub asked : IsWorkOf inputs kept elf plan work
  pub trace : List Traced
  pub is_trace : IsTraceOf work plan kept trace
  pub text_is : text ≡ selected_text elf work.layout s trace

-- of the events of the whole run, none is shown but those that are among these
abbrev pub ShowsNoMore : EventFilter → Tracer → (seen : List Traced) → Type 0
ShowsNoMore o t seen = (trace : List Traced)
    → IsTraceOf (work_traced t) (plan_traced t) (record_traced t) trace
    → shown o trace ≡ shown o seen

-- more events are traced, and their lines are appended
pub record HasPushedMore (elf : Elf) (o : EventFilter) (t : Tracer) (seen : List Traced)
    (lines now : List ℕ) : Type 0
  where
    pub more : List Traced
    pub traced : HasTraced t (seen ++ more)
    pub lines_are : now ≡ lines ++ flat_map (event_line elf) (shown o more)

-- the lines of more events are appended, or there are no more
abbrev pub HasPushedOn : Elf → EventFilter → Tracer → (seen : List Traced) → (lines now : List ℕ)
    → Bool → Type 0
HasPushedOn elf o t seen lines now true = HasPushedMore elf o t seen lines now
HasPushedOn elf o t seen lines now false = (now ≡ lines) × ShowsNoMore o t seen
