-- Views of a recorded run: what the files are, and how such a view succeeds and fails.
use Rattle.std.proofs.Common.{◌≡◌, ℕ, List, [], Option, Some, None, refl, sym, subst, inl, inr}
use Rattle.elf32_read.specs.Elf.{Elf}
use Rattle.elf_symbols.specs.Symbols.{Symbol, functions_of}
use Rattle.templates.specs.declared.plans.PlanEntry.{PlanEntry}
use Rattle.node_model.specs.Node.{Work}
use Rattle.run_record.specs.declared.Record.{Record as Kept}
use Rattle.replay.specs.Told.{Told}
use Rattle.replay.specs.Replay.{TellsWholeRun}
use Rattle.run_trace.specs.Trace.{trace_of}
use Rattle.command_line.specs.Views.{RecordedFiles, View, Trace, Blocks, reads, writes}
use Rattle.dsm_io.specs.States.{FilesState, SinkState}
use Rattle.text_output.specs.declared.failure.Failure.{Failure}
use Rattle.text_output.specs.declared.failure.Failure.TheVariants.{Input, NotWritten, Refused, Layout, Record, Text, Output, OutOfMemory}
use Rattle.text_output.specs.Failures.{FailsAs, IsLike, IsNever, IsRecordRefusal, Puts}
use Rattle.prepared_run.specs.Replays.{IsReplayRefusal, IsReplayRefused, IsBadReplayLayout, IsBadRecord, IsBrokenRun, IsWorkOf}
use Rattle.judged_files.specs.Inputs.{Inputs}
use Rattle.prepared_run.specs.Ready.{work_for}
use Rattle.prepared_run.specs.declared.ready.Prepared.{Prepared}
use Rattle.prepared_run.proofs.ReplayLemmas.{text_refused}
use Rattle.views.specs.Failures.{FailsAsRun, IsFailure, IsSuccess, IsTextOfBlocks, IsTextOfRun, IsTextOfTrace}
use Rattle.views.specs.Headline.{AreTold, IsLayoutRefused, IsRecordRefused, IsRefused, IsText}
use Rattle.views.specs.Blocks.{AreCostsOfRun, IsCostsText}
use Rattle.views.specs.Trace.{IsTraceText, recorded, selected_text}
use Rattle.views.specs.declared.trace.Selection.{Selection}
use Rattle.views.specs.Inputs.{AreInputs, list_of, run_files}
use Rattle.views.proofs.Inputs.{inputs_are}

-- 1. What is read

-- a view makes a recorded run once more, and these are its texts
pub record IsOfRun (v : View) (run : RecordedFiles) (IsTextFor : Inputs → List ℕ → ℕ → Type 0)
    : Type 0
  where
    pub reads_are : reads v ≡ list_of (run_files run)
    pub text : (contents : List ℕ → List ℕ) (t : List ℕ) (s : ℕ)
        → IsTextFor (recorded run contents) t s → IsText v contents t
    pub refused : (contents : List ℕ → List ℕ) (line : List ℕ)
        → IsReplayRefused (recorded run contents) line → IsRefused v contents line
    pub laid_out : (contents : List ℕ → List ℕ) (line : List ℕ)
        → IsBadReplayLayout (recorded run contents) line → IsLayoutRefused v contents line
    pub kept : (contents : List ℕ → List ℕ) (line : List ℕ)
        → IsBadRecord (recorded run contents) line → IsRecordRefused v contents line

abbrev pub with_verified : RecordedFiles → Option (List ℕ) → RecordedFiles
with_verified run verified = record run { verified = verified }

trace_with : (run : RecordedFiles) (from to block one : Option ℕ) (verified : Option (List ℕ))
    → reads (Trace (with_verified run verified) from to block one)
    ≡ list_of (run_files (with_verified run verified))
trace_with run from to block one None = refl
trace_with run from to block one (Some verified) = refl

pub trace_of_run : (run : RecordedFiles) (from to block one : Option ℕ)
    → IsOfRun (Trace run from to block one) run
    (λ i. IsTextOfTrace i (record { from = from; to = to; address = block; node = one }))
trace_of_run run from to block one = record {
  reads_are = trace_with run from to block one run.verified;
  text = λ contents t s h. h;
  refused = λ contents line h. h;
  laid_out = λ contents line h. h;
  kept = λ contents line h. h;
}

blocks_with : (run : RecordedFiles) (verified : Option (List ℕ))
    → reads (Blocks (with_verified run verified)) ≡ list_of (run_files (with_verified run verified))
blocks_with run None = refl
blocks_with run (Some verified) = refl

pub blocks_of_run : (run : RecordedFiles) → IsOfRun (Blocks run) run IsTextOfBlocks
blocks_of_run run = record {
  reads_are = blocks_with run run.verified;
  text = λ contents t s h. h;
  refused = λ contents line h. h;
  laid_out = λ contents line h. h;
  kept = λ contents line h. h;
}

-- and it writes no file
trace_writes : (run : RecordedFiles) (from to block one : Option ℕ) (verified : Option (List ℕ))
    → writes (Trace (with_verified run verified) from to block one) ≡ []
trace_writes run from to block one None = refl
trace_writes run from to block one (Some verified) = refl

pub trace_writes_none : (run : RecordedFiles) (from to block one : Option ℕ)
    → writes (Trace run from to block one) ≡ []
trace_writes_none run from to block one = trace_writes run from to block one run.verified

blocks_writes : (run : RecordedFiles) (verified : Option (List ℕ))
    → writes (Blocks (with_verified run verified)) ≡ []
blocks_writes run None = refl
blocks_writes run (Some verified) = refl

pub blocks_writes_none : (run : RecordedFiles) → writes (Blocks run) ≡ []
blocks_writes_none run = blocks_writes run run.verified

-- what was read is what the files are told to have
pub run_inputs : (v : View) (run : RecordedFiles) (files : FilesState) (inputs : Inputs)
    (contents : List ℕ → List ℕ) → reads v ≡ list_of (run_files run)
    → AreInputs files (run_files run) inputs → AreTold v files contents
    → inputs ≡ recorded run contents
run_inputs v run files inputs contents e h told =
    inputs_are v (run_files run) files inputs contents e h told

-- 2. How such a view succeeds, and how it fails

pub run_succeeds : (v : View) (run : RecordedFiles) (T : Inputs → List ℕ → ℕ → Type 0) → IsOfRun v run T
    → (files : FilesState) (before now : SinkState) (inputs : Inputs) → AreInputs files (run_files run) inputs
    → Puts (T inputs) 0 before now → IsSuccess v files before now
run_succeeds v run T of files before now inputs h puts = λ contents told. record {
  text = puts.0;
  is = of.text contents puts.0 0 (subst (λ i. T i puts.0 0)
      (run_inputs v run files inputs contents of.reads_are h told) puts.1);
  put = puts.2;
}

pub run_fails : (v : View) (run : RecordedFiles) (T : Inputs → List ℕ → ℕ → Type 0) → IsOfRun v run T
    → (files files_now : FilesState) (before now : SinkState) (inputs : Inputs) (f : Failure)
    → AreInputs files (run_files run) inputs → FailsAsRun (T inputs) inputs before now f
    → IsFailure v files files_now before now f
run_fails v run T of files files_now before now inputs (Input line) h failed = absurd failed
run_fails v run T of files files_now before now inputs (NotWritten line) h failed = absurd failed
run_fails v run T of files files_now before now inputs (Refused line) h failed = (
  failed.1,
  λ contents told. of.refused contents line.items (subst (λ i. IsReplayRefused i line.items)
      (run_inputs v run files inputs contents of.reads_are h told) failed.0),
)
run_fails v run T of files files_now before now inputs (Layout line) h failed = (
  failed.1,
  λ contents told. of.laid_out contents line.items (subst (λ i. IsBadReplayLayout i line.items)
      (run_inputs v run files inputs contents of.reads_are h told) failed.0),
)
run_fails v run T of files files_now before now inputs (Record line) h failed = (
  failed.1,
  λ contents told. of.kept contents line.items (subst (λ i. IsBadRecord i line.items)
      (run_inputs v run files inputs contents of.reads_are h told) failed.0),
)
run_fails v run T of files files_now before now inputs (Text line) h failed = failed
run_fails v run T of files files_now before now inputs Output h failed = (
  failed.0,
  λ contents told. record {
    text = failed.1.0;
    is = of.text contents failed.1.0 failed.1.1 (subst (λ i. T i failed.1.0 failed.1.1)
        (run_inputs v run files inputs contents of.reads_are h told) failed.1.2);
    put = failed.1.3;
  },
)
run_fails v run T of files files_now before now inputs OutOfMemory h failed = λ contents told. elim failed [
  | inl same ↦ inl same
  | inr part ↦ inr (record {
    text = part.0;
    is = of.text contents part.0 part.1 (subst (λ i. T i part.0 part.1)
        (run_inputs v run files inputs contents of.reads_are h told) part.2);
    put = part.3;
  })
]

-- 3. Refusals that come before anything is put

pub refused_run : (T : List ℕ → ℕ → Type 0) (inputs : Inputs) (state : SinkState) (f : Failure)
    → IsReplayRefusal inputs f → FailsAsRun T inputs state state f
refused_run T inputs state (Input line) h = absurd h
refused_run T inputs state (NotWritten line) h = absurd h
refused_run T inputs state (Refused line) h = (h, refl)
refused_run T inputs state (Layout line) h = (h, refl)
refused_run T inputs state (Record line) h = (h, refl)
refused_run T inputs state (Text line) h = absurd h
refused_run T inputs state Output h = absurd h
refused_run T inputs state OutOfMemory h = inl refl

-- the events of a run that is asked for are refused
pub broken_refused : (inputs : Inputs) (prepared : Prepared) (kept : Kept) (f : Failure)
    → IsWorkOf inputs kept prepared.program prepared.rewritten.plan (work_for prepared)
    → IsRecordRefusal (IsBrokenRun (work_for prepared) kept) f → IsReplayRefusal inputs f
broken_refused inputs prepared kept f asked h =
    text_refused inputs (IsBrokenRun (work_for prepared) kept) f (λ line broken. inr (inr (record {
      kept = kept;
      elf = prepared.program;
      plan = prepared.rewritten.plan;
      work = work_for prepared;
      asked = asked;
      broken = broken;
    }))) h

-- 4. The text of a trace

-- the text of the trace of a judged run is the text that is asked for
pub text_of_trace : (inputs : Inputs) (s : Selection) (kept : Kept) (elf : Elf) (plan : List PlanEntry)
    (work : Work) (told : List Told) → IsWorkOf inputs kept elf plan work → TellsWholeRun work kept told
    → IsTraceText inputs s (selected_text elf work.layout s (trace_of work plan told))
text_of_trace inputs s kept elf plan work told asked whole = record {
  kept = kept;
  elf = elf;
  plan = plan;
  work = work;
  asked = asked;
  trace = trace_of work plan told;
  is_trace = record { told = told; whole = whole; trace_is = refl };
  text_is = refl;
}

-- a failure while the text is put is one of the view
pub unput_run : (T : List ℕ → ℕ → Type 0) (inputs : Inputs) (text : List ℕ)
    → ((status : ℕ) → T text status) → (before now : SinkState) (f : Failure)
    → FailsAs (IsLike text) IsNever IsNever before now f → FailsAsRun T inputs before now f
unput_run T inputs text is before now (Input line) h = absurd h
unput_run T inputs text is before now (NotWritten line) h = absurd h
unput_run T inputs text is before now (Refused line) h = absurd h.0
unput_run T inputs text is before now (Layout line) h = absurd h.0
unput_run T inputs text is before now (Record line) h = absurd h
unput_run T inputs text is before now (Text line) h = absurd h
unput_run T inputs text is before now Output h =
    (h.0, (h.1.0, h.1.1, subst (λ x. T x h.1.1) (sym h.1.2) (is h.1.1), h.1.3))
unput_run T inputs text is before now OutOfMemory h = elim h [
  | inl same ↦ inl same
  | inr part ↦ inr (part.0, part.1, subst (λ x. T x part.1) (sym part.2) (is part.1), part.3)
]

-- 5. What blocks cost

-- the text of the costs of a run that is asked for
pub costs_are : (inputs : Inputs) (prepared : Prepared) (kept : Kept) (symbols : List Symbol) (text : List ℕ)
    → IsWorkOf inputs kept prepared.program prepared.rewritten.plan (work_for prepared)
    → symbols ≡ functions_of prepared.program → IsTextOfRun symbols prepared kept text → AreCostsOfRun inputs text
costs_are inputs prepared kept symbols text asked named h = record {
  kept = kept;
  elf = prepared.program;
  plan = prepared.rewritten.plan;
  work = work_for prepared;
  asked = asked;
  trace = h.trace;
  is_trace = h.is_trace;
  text_is = subst (λ s. IsCostsText s prepared.layout h.trace text) named h.text_is;
}

-- a failure while a text is put is one of the view whose text it is
pub costs_unput : (T : List ℕ → ℕ → Type 0) (inputs : Inputs) (before now : SinkState) (f : Failure)
    → FailsAs T (IsReplayRefused inputs) (IsBadReplayLayout inputs) before now f → FailsAsRun T inputs before now f
costs_unput T inputs before now (Input line) h = h
costs_unput T inputs before now (NotWritten line) h = h
costs_unput T inputs before now (Refused line) h = h
costs_unput T inputs before now (Layout line) h = h
costs_unput T inputs before now (Record line) h = absurd h
costs_unput T inputs before now (Text line) h = h
costs_unput T inputs before now Output h = h
costs_unput T inputs before now OutOfMemory h = h
