-- The executable of an assembly text, into a file.
use Rattle.std.proofs.Common.{◌≡◌, ℕ, List, [], refl, inl, arith}
use Rattle.std.specs.Prelude.{Contains, IfOk, Result}
use Rattle.text_output.specs.declared.failure.Failure.{Failure}
use Rattle.text_output.specs.declared.failure.Failure.TheVariants.{Input, NotWritten, Refused, Layout, Record, Text, Output, OutOfMemory}
use Rattle.command_line.specs.Commands.{AssembleArguments, Assemble, writes}
use Rattle.dsm_io.specs.States.{SinkState, FilesState}
use Rattle.commands.specs.Answers.{IsUnwritten}
use Rattle.commands.specs.Failures.{IsPerformFailure, IsAssemblyFailure}
use Rattle.text_output.specs.Failures.{IsWriteFailure, Puts}
use Rattle.commands.specs.Headline.{IsText, IsAssembledFile, IsAssembledText}
use Rattle.judged_files.specs.Inputs.{Inputs}
use Rattle.commands.proofs.AnswerLemmas.{ok_as, same_taken}

pub has_assembled : (a : AssembleArguments) → Contains (writes (Assemble a)) a.output
has_assembled a = (0, omega arith, refl)

-- an assembled file wasn't written
pub assembly_unwritten : (text bytes : List ℕ) (before now : FilesState) (name : List ℕ)
    (f : Failure) → IsAssembledFile text bytes → IsWriteFailure before now name f
    → IsAssemblyFailure text before now name f
assembly_unwritten text bytes before now name (Input line) is h = absurd h
assembly_unwritten text bytes before now name (NotWritten line) is h = ((bytes, is), h)
assembly_unwritten text bytes before now name (Refused line) is h = absurd h
assembly_unwritten text bytes before now name (Layout line) is h = absurd h
assembly_unwritten text bytes before now name (Record line) is h = absurd h
assembly_unwritten text bytes before now name (Text line) is h = absurd h
assembly_unwritten text bytes before now name Output is h = absurd h
assembly_unwritten text bytes before now name OutOfMemory is h = h

pub assembly_fails : (a : AssembleArguments) (inputs : Inputs) (before now : FilesState)
    (state : SinkState) (f : Failure) → IsAssemblyFailure inputs.text before now a.output f
    → IsPerformFailure (Assemble a) inputs before now state state f
assembly_fails a inputs before now state (Input line) h = absurd h
assembly_fails a inputs before now state (NotWritten line) h =
    let at : IsUnwritten (Assemble a) before now (λ l. line.items ≡ l) =
    (a.output, has_assembled a, h.1.0, h.1.1) in
    (refl, (h.0, at))
assembly_fails a inputs before now state (Refused line) h = absurd h
assembly_fails a inputs before now state (Layout line) h = absurd h
assembly_fails a inputs before now state (Record line) h = absurd h
assembly_fails a inputs before now state (Text line) h = (h.0, refl)
assembly_fails a inputs before now state Output h = absurd h
assembly_fails a inputs before now state OutOfMemory h = inl refl

-- nothing is put
pub assembles : (a : AssembleArguments) (files : FilesState) (inputs : Inputs) (state : SinkState)
    (r : Result ℕ Failure) → IfOk r (IsAssembledText inputs.text [])
    → IfOk r (λ status. Puts (IsText (Assemble a) files inputs) status state state)
assembles a files inputs state r h =
    ok_as (IsAssembledText inputs.text [])
    (λ status. Puts (IsText (Assemble a) files inputs) status state state) r
    (λ status k. ([], k, same_taken state.taken)) h
