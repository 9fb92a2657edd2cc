-- Helps the code alone: how the page of a speed-up is written, and how not.
use Rattle.std.specs.Prelude.{ℕ, ◌⊎◌, List, IfSome}
use Rattle.dsm_io.specs.States.{FilesState}
use Rattle.command_line.specs.Views.{TimeArguments}
use Rattle.text_output.specs.declared.failure.Failure.{Failure}
use Rattle.text_output.specs.Failures.{IsRefusal, IsWriteFailure}
use Rattle.judged_files.specs.Inputs.{Inputs}
use Rattle.judged_files.specs.Refusals.{IsRunRefused}
use Rattle.views.specs.Failures.{AreSame}
use Rattle.views.specs.Inputs.{AreInputs, IsInputFailure, time_files}
use Rattle.views.specs.Speedup.{IsBadLayoutOf, IsSpeedupPage, counts_to}

-- a file holds the page
pub record IsSpeedupWritten (a : TimeArguments) (output : List ℕ) (before now : FilesState)
    : Type 0
  where
    pub inputs : Inputs
    pub are_inputs : AreInputs before (time_files a) inputs
    pub written : IfSome (now.held output) (IsSpeedupPage inputs a)

-- how runs on such numbers of nodes are refused
abbrev pub IsSpeedupRefusal : Inputs → (counts : List ℕ) → Failure → Type 0
IsSpeedupRefusal inputs counts f =
    IsRefusal (IsRunRefused inputs) (IsBadLayoutOf inputs counts) f

pub record IsSpeedupRefused (a : TimeArguments) (files : FilesState) (f : Failure) : Type 0 where
  pub inputs : Inputs
  pub are_inputs : AreInputs files (time_files a) inputs
  pub refusal : IsSpeedupRefusal inputs (counts_to a.nodes) f

-- the page could not be written
pub record IsSpeedupUnwritten (a : TimeArguments) (output : List ℕ) (before now : FilesState)
    (f : Failure) : Type 0
  where
    pub inputs : Inputs
    pub are_inputs : AreInputs before (time_files a) inputs
    pub page : List ℕ
    pub is_page : IsSpeedupPage inputs a page
    pub failure : IsWriteFailure before now output f

abbrev pub IsSpeedupFailure : TimeArguments → (output : List ℕ) → FilesState → FilesState
    → Failure → Type 0
IsSpeedupFailure a output before now f =
    (AreSame before now
    × (IsInputFailure (time_files a) before now f ⊎ IsSpeedupRefused a before f))
    ⊎ IsSpeedupUnwritten a output before now f
