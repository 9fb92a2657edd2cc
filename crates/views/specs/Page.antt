-- The page of a recorded run.
use Rattle.std.specs.Prelude.{◌≡◌, ℕ, Bool, true, false, List, ◌++◌, None}
use Rattle.elf32_read.specs.Elf.{Elf}
use Rattle.block_layout.specs.Layout.{Shape}
use Rattle.templates.specs.declared.plans.PlanEntry.{PlanEntry}
use Rattle.node_model.specs.Node.{Work}
use Rattle.run_record.specs.declared.Record.{Record}
use Rattle.run_trace.specs.declared.tracer.Tracer.{Tracer}
use Rattle.run_trace.specs.Traced.{Traced}
use Rattle.run_trace.specs.Trace.{IsTraceOf}
use Rattle.run_trace.specs.Tracing.{HasTraced}
use Rattle.block_view.specs.event_text.declared.shown.EventFilter.{EventFilter}
use Rattle.block_view.specs.event_text.Shown.{shown}
use Rattle.page_view.specs.page_events.Shown.{Kept, kept}
use Rattle.page_view.specs.Page.{page_text}
use Rattle.judged_files.specs.Inputs.{Inputs}
use Rattle.prepared_run.specs.Replays.{IsWorkOf}
use Rattle.views.specs.declared.trace.Selection.{Selection}
use Rattle.views.specs.Trace.{ShowsNoMore, options_about}

-- the page of those events of a trace that are asked for
abbrev pub drawn_text : Elf → Shape → Selection → List Traced → List ℕ
drawn_text elf layout s trace = page_text elf layout s.to (shown (options_about s None) trace)

-- the page of the run that a record asks for and tells of whole
pub record IsPageText (inputs : Inputs) (s : Selection) (text : List ℕ) : Type 0 where
  pub kept : Record
  pub elf : Elf
  pub plan : List PlanEntry
  pub work : Work
  pub asked : IsWorkOf inputs kept elf plan work
  pub trace : List Traced
  pub is_trace : IsTraceOf work plan kept trace
  pub text_is : text ≡ drawn_text elf work.layout s trace

-- more events are traced, and those that are shown are added
pub record HasAddedMore (o : EventFilter) (t : Tracer) (seen : List Traced) (now : Kept)
    : Type 0 where
  pub more : List Traced
  pub traced : HasTraced t (seen ++ more)
  pub kept_is : now ≡ kept (shown o (seen ++ more))

-- more events that are shown are added, or there are no more
abbrev pub HasAddedOn : EventFilter → Tracer → (seen : List Traced) → Kept → Bool → Type 0
HasAddedOn o t seen now true = HasAddedMore o t seen now
HasAddedOn o t seen now false = (now ≡ kept (shown o seen)) × ShowsNoMore o t seen
