-- A record's run, made ready.
use Rattle.std.proofs.Common.{◌≡◌, ℕ, ◌<◌, ◌≤◌, ◌^◌, List, length, refl}
use Rattle.elf32_read.specs.Elf.{Elf}
use Rattle.block_layout.specs.Layout.{Shape}
use Rattle.templates.specs.declared.plans.PlanEntry.{PlanEntry}
use Rattle.rewrite_verify.specs.jump_map.Image.{Cell}
use Rattle.replay.specs.run_record.declared.Record.{Record as Kept}
use Rattle.replay.specs.run_record.Record.{NamesOtherCode}
use Rattle.replay.specs.dsm_core.CoreParts.{work_with}
use Rattle.text_output.specs.declared.failure.Failure.{Failure}
use Rattle.text_output.specs.declared.failure.Failure.TheVariants.{Input, NotWritten, Refused, Layout, Record, Text, Output, OutOfMemory}
use Rattle.text_output.specs.Failures.{IsRecordRefusal, IsRefusal}
use Rattle.prepared_run.specs.Replays.{IsReplayRefusal, IsBadRecord, IsBadReplayLayout, IsReplayRefused, IsWorkOf}
use Rattle.prepared_run.specs.Ready.{IsReadyFor}
use Rattle.judged_files.specs.Code.{choice_of}
use Rattle.judged_files.specs.Inputs.{Inputs}
use Rattle.judged_files.specs.Records.{IsLayoutOfBlocks, IsTextOf}
use Rattle.prepared_run.proofs.RunLemmas.{AreReady, HaveLaws, gives_code}

-- ---- refusals before the run

-- a refusal of the executable, or of the layout
pub replay_refused : (inputs : Inputs) (Reason OfLayout : List ℕ → Type 0) (f : Failure)
    → ((line : List ℕ) → Reason line → IsReplayRefused inputs line)
    → ((line : List ℕ) → OfLayout line → IsBadReplayLayout inputs line)
    → IsRefusal Reason OfLayout f → IsReplayRefusal inputs f
replay_refused inputs Reason OfLayout (Input line) reasons layouts h = h
replay_refused inputs Reason OfLayout (NotWritten line) reasons layouts h = h
replay_refused inputs Reason OfLayout (Refused line) reasons layouts h = reasons line.items h
replay_refused inputs Reason OfLayout (Layout line) reasons layouts h = layouts line.items h
replay_refused inputs Reason OfLayout (Record line) reasons layouts h = absurd h
replay_refused inputs Reason OfLayout (Text line) reasons layouts h = absurd h
replay_refused inputs Reason OfLayout Output reasons layouts h = h
replay_refused inputs Reason OfLayout OutOfMemory reasons layouts h = h

-- a refusal of the record's text
pub text_refused : (inputs : Inputs) (OfRecord : List ℕ → Type 0) (f : Failure)
    → ((line : List ℕ) → OfRecord line → IsBadRecord inputs line)
    → IsRecordRefusal OfRecord f → IsReplayRefusal inputs f
text_refused inputs OfRecord (Input line) records h = absurd h
text_refused inputs OfRecord (NotWritten line) records h = absurd h
text_refused inputs OfRecord (Refused line) records h = absurd h
text_refused inputs OfRecord (Layout line) records h = absurd h
text_refused inputs OfRecord (Record line) records h = records line.items h
text_refused inputs OfRecord (Text line) records h = absurd h
text_refused inputs OfRecord Output records h = absurd h
text_refused inputs OfRecord OutOfMemory records h = tt

-- ---- the run

-- the work is what the record asks to be run
pub asked_for : (inputs : Inputs) (kept : Kept) (elf : Elf) (plan : List PlanEntry)
    (image : List Cell) (layout : Shape) (budget : ℕ)
    → AreReady (choice_of kept.batch inputs.verified) inputs.executable elf plan image layout
    → IsTextOf kept inputs.text
    → (NamesOtherCode kept (length image) → ⊥) → IsLayoutOfBlocks elf kept layout → budget ≡ kept.budget
    → IsWorkOf inputs kept elf plan (work_with elf image layout budget)
asked_for inputs kept elf plan image layout budget ready text code laid_out limit = record {
  text = text;
  rewritten = ready.rewritten;
  same_code = code;
  program = refl;
  laid_out = laid_out;
  valid = ready.valid;
  limit = limit;
}

-- and its own runs are runs of the code
pub ready_for : (inputs : Inputs) (kept : Kept) (elf : Elf) (plan : List PlanEntry)
    (image : List Cell) (layout : Shape) (budget : ℕ)
    → AreReady (choice_of kept.batch inputs.verified) inputs.executable elf plan image layout
    → IsTextOf kept inputs.text
    → (NamesOtherCode kept (length image) → ⊥) → IsLayoutOfBlocks elf kept layout → budget ≡ kept.budget → 0 < budget → budget ≤ 2 ^ 32
    → HaveLaws → IsReadyFor inputs kept (work_with elf image layout budget)
ready_for inputs kept elf plan image layout budget ready text code laid_out limit some few laws = record {
  elf = elf;
  plan = plan;
  asked = asked_for inputs kept elf plan image layout budget ready text code laid_out limit;
  gives = gives_code (choice_of kept.batch inputs.verified) inputs.executable budget elf plan image layout
      ready some few laws;
}
