use Rattle.rv32_program.specs.Program.{Program}
use Rattle.templates.specs.Code.{HasCode}
use Rattle.run_trace.specs.Entries.{AreEntriesOf}
use Rattle.run_trace.proofs.Kinded.{AreKindsTo}
use Rattle.run_trace.proofs.kinds.CommitKinds.of.Given as goal

abbrev pub invariant-loop-number : goal.invariant-loop-number
invariant-loop-number l = record {
  kinds : (program : Program) → HasCode program l.code → AreKindsTo program l.plan l.image l.kinds.items l.number;
  entries : AreEntriesOf l.plan l.entries;
}
