-- The executable of a number, into a file.
use Rattle.std.proofs.Common.{◌≡◌, ℕ, [], refl, inl, arith}
use Rattle.std.specs.Prelude.{Contains, IfOk, Result}
use Rattle.elf32_write.specs.Layout.{file_of}
use Rattle.workload.specs.Generated.{generated_elf}
use Rattle.text_output.specs.declared.failure.Failure.{Failure}
use Rattle.text_output.specs.declared.failure.Failure.TheVariants.{Input, NotWritten, Refused, Layout, Record, Text, Output, OutOfMemory}
use Rattle.command_line.specs.Commands.{GenerateArguments, Generate, writes}
use Rattle.dsm_io.specs.States.{SinkState, FilesState}
use Rattle.commands.specs.Answers.{HasBytes, IsUnwritten}
use Rattle.commands.specs.Failures.{IsPerformFailure}
use Rattle.text_output.specs.Failures.{IsWriteFailure, Puts}
use Rattle.commands.specs.Headline.{IsText}
use Rattle.judged_files.specs.Inputs.{Inputs}
use Rattle.commands.proofs.AnswerLemmas.{ok_as, same_taken}

pub has_generated : (a : GenerateArguments) → Contains (writes (Generate a)) a.output
has_generated a = (0, omega arith, refl)

pub generate_fails : (a : GenerateArguments) (inputs : Inputs) (before now : FilesState)
    (state : SinkState) (f : Failure) → IsWriteFailure before now a.output f
    → IsPerformFailure (Generate a) inputs before now state state f
generate_fails a inputs before now state (Input line) h = absurd h
generate_fails a inputs before now state (NotWritten line) h =
    let bytes : HasBytes (Generate a) inputs = (file_of (generated_elf a.number), refl) in
    let at : IsUnwritten (Generate a) before now (λ l. line.items ≡ l) =
    (a.output, has_generated a, h.0, h.1) in
    (refl, (bytes, at))
generate_fails a inputs before now state (Refused line) h = absurd h
generate_fails a inputs before now state (Layout line) h = absurd h
generate_fails a inputs before now state (Record line) h = absurd h
generate_fails a inputs before now state (Text line) h = absurd h
generate_fails a inputs before now state Output h = absurd h
generate_fails a inputs before now state OutOfMemory h = inl refl

-- nothing is put
pub generates : (a : GenerateArguments) (files : FilesState) (inputs : Inputs)
    (state : SinkState) (r : Result ℕ Failure) → IfOk r (λ status. status ≡ 0)
    → IfOk r (λ status. Puts (IsText (Generate a) files inputs) status state state)
generates a files inputs state r h =
    ok_as (λ status. status ≡ 0)
    (λ status. Puts (IsText (Generate a) files inputs) status state state) r
    (λ status zero. ([], (refl, zero), same_taken state.taken)) h
