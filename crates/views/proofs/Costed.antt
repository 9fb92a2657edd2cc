-- The view `cost`: what it reads, and how it succeeds and fails.
use Rattle.std.proofs.Common.{◌≡◌, ℕ, List, [], Option, Some, None, refl, subst, inl, inr}
use Rattle.command_line.specs.Views.{Cost, CodeArguments, reads, writes}
use Rattle.dsm_io.specs.States.{FilesState, SinkState}
use Rattle.judged_files.specs.Inputs.{Inputs}
use Rattle.text_output.specs.declared.failure.Failure.{Failure}
use Rattle.text_output.specs.declared.failure.Failure.TheVariants.{Input, NotWritten, Refused, Layout, Record, Text, Output, OutOfMemory}
use Rattle.text_output.specs.Failures.{FailsAs, IsNever, Puts}
use Rattle.views.specs.Code.{IsCodeless}
use Rattle.views.specs.Cost.{IsTextOfCost}
use Rattle.views.specs.Failures.{IsFailure, IsSuccess}
use Rattle.views.specs.Inputs.{AreInputs, code_files, list_of}
use Rattle.views.proofs.Inputs.{inputs_are}

reads_with : (a : CodeArguments) (verified : Option (List ℕ))
    → reads (Cost (record a { verified = verified }) None)
    ≡ list_of (code_files (record a { verified = verified }))
reads_with a None = refl
reads_with a (Some verified) = refl

pub reads_are : (a : CodeArguments) → reads (Cost a None) ≡ list_of (code_files a)
reads_are a = reads_with a a.verified

writes_with : (a : CodeArguments) (verified : Option (List ℕ))
    → writes (Cost (record a { verified = verified }) None) ≡ []
writes_with a None = refl
writes_with a (Some verified) = refl

pub writes_none : (a : CodeArguments) → writes (Cost a None) ≡ []
writes_none a = writes_with a a.verified

pub cost_succeeds : (a : CodeArguments) (files : FilesState) (before now : SinkState) (i : Inputs)
    → AreInputs files (code_files a) i → Puts (IsTextOfCost i) 0 before now
    → IsSuccess (Cost a None) files before now
cost_succeeds a files before now i h puts = λ contents told. record {
  text = puts.0;
  is = subst (λ x. IsTextOfCost x puts.0 0)
      (inputs_are (Cost a None) (code_files a) files i contents (reads_are a) h told) puts.1;
  put = puts.2;
}

pub cost_fails : (a : CodeArguments) (files files_now : FilesState) (before now : SinkState)
    (i : Inputs) (f : Failure) → AreInputs files (code_files a) i
    → FailsAs (IsTextOfCost i) (IsCodeless i) IsNever before now f
    → IsFailure (Cost a None) files files_now before now f
cost_fails a files files_now before now i (Input line) h failed = absurd failed
cost_fails a files files_now before now i (NotWritten line) h failed = absurd failed
cost_fails a files files_now before now i (Refused line) h failed = (
  failed.1,
  λ contents told. subst (λ x. IsCodeless x line.items)
      (inputs_are (Cost a None) (code_files a) files i contents (reads_are a) h told) failed.0,
)
cost_fails a files files_now before now i (Layout line) h failed = absurd failed.0
cost_fails a files files_now before now i (Record line) h failed = absurd failed
cost_fails a files files_now before now i (Text line) h failed = failed
cost_fails a files files_now before now i Output h failed = (
  failed.0,
  λ contents told. record {
    text = failed.1.0;
    is = subst (λ x. IsTextOfCost x failed.1.0 0)
        (inputs_are (Cost a None) (code_files a) files i contents (reads_are a) h told) failed.1.2;
    put = failed.1.3;
  },
)
cost_fails a files files_now before now i OutOfMemory h failed = λ contents told. elim failed [
  | inl same ↦ inl same
  | inr part ↦ inr (record {
    text = part.0;
    is = subst (λ x. IsTextOfCost x part.0 0)
        (inputs_are (Cost a None) (code_files a) files i contents (reads_are a) h told) part.2;
    put = part.3;
  })
]
