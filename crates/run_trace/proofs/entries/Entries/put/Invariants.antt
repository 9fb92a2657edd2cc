use Rattle.std.proofs.Common.{◌≡◌}
use Rattle.run_trace.proofs.Entering.{ArePutTo}
use Rattle.run_trace.proofs.entries.Entries.put.Given as goal

abbrev pub invariant-loop-quarter : goal.invariant-loop-quarter
invariant-loop-quarter l = record {
  runs : ArePutTo l.fn.self.runs l.self.runs l.entry l.first l.quarter;
  places : l.self.places ≡ l.fn.self.places;
  own : l.self.own ≡ l.fn.self.own;
}
