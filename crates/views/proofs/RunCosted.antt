-- The view `cost` of a recorded run: what it reads, and what its text is.
use Rattle.std.proofs.Common.{◌≡◌, ℕ, List, [], Option, Some, None, refl, subst}
use Rattle.elf_symbols.specs.Symbols.{Symbol, functions_of}
use Rattle.run_record.specs.declared.Record.{Record as Kept}
use Rattle.command_line.specs.Views.{CodeArguments, Cost, reads, writes}
use Rattle.judged_files.specs.Inputs.{Inputs}
use Rattle.prepared_run.specs.Ready.{work_for}
use Rattle.prepared_run.specs.Replays.{IsWorkOf}
use Rattle.prepared_run.specs.declared.ready.Prepared.{Prepared}
use Rattle.views.specs.Inputs.{list_of, run_files}
use Rattle.views.specs.RunCost.{IsRunCostText, IsTextOfRunCost, IsTextOfTold, run_of}
use Rattle.views.proofs.Costed.{writes_none}
use Rattle.views.proofs.Runs.{IsOfRun}

abbrev with_verified : CodeArguments → Option (List ℕ) → CodeArguments
with_verified a verified = record a { verified = verified }

reads_with : (a : CodeArguments) (r : List ℕ) (verified : Option (List ℕ))
    → reads (Cost (with_verified a verified) (Some r))
    ≡ list_of (run_files (run_of (with_verified a verified) r))
reads_with a r None = refl
reads_with a r (Some verified) = refl

writes_with : (a : CodeArguments) (r : List ℕ) (verified : Option (List ℕ))
    → writes (Cost (with_verified a verified) (Some r)) ≡ []
writes_with a r None = refl
writes_with a r (Some verified) = refl

pub cost_of_run : (a : CodeArguments) (r : List ℕ) → IsOfRun (Cost a (Some r)) (run_of a r) IsTextOfRunCost
cost_of_run a r = record {
  reads_are = reads_with a r a.verified;
  text = λ contents t s h. h;
  refused = λ contents line h. h;
  laid_out = λ contents line h. h;
  kept = λ contents line h. h;
}

cost_writes_none : (a : CodeArguments) (r : List ℕ) → writes (Cost a (Some r)) ≡ []
cost_writes_none a r = writes_with a r a.verified

-- `cost` writes no file
pub writes_nothing : (a : CodeArguments) (r : Option (List ℕ)) → writes (Cost a r) ≡ []
writes_nothing a None = writes_none a
writes_nothing a (Some r) = cost_writes_none a r

-- the text of a run that is asked for
pub told_are : (inputs : Inputs) (prepared : Prepared) (kept : Kept) (symbols : List Symbol) (text : List ℕ)
    → IsWorkOf inputs kept prepared.program prepared.rewritten.plan (work_for prepared)
    → symbols ≡ functions_of prepared.program
    → IsTextOfTold symbols (work_for prepared) prepared.rewritten.plan kept text → IsRunCostText inputs text
told_are inputs prepared kept symbols text asked named h = record {
  kept = kept;
  elf = prepared.program;
  plan = prepared.rewritten.plan;
  work = work_for prepared;
  asked = asked;
  told = subst (λ s. IsTextOfTold s (work_for prepared) prepared.rewritten.plan kept text) named h;
}
