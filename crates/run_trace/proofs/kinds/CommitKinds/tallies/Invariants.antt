use Rattle.std.proofs.Common.{◌≡◌, ◌++◌, drop, map}
use Rattle.word_visits.specs.TallyTables.{AreTalliesIn, tallies_of}
use Rattle.run_trace.specs.Visited.{tally_by}
use Rattle.run_trace.proofs.kinds.CommitKinds.tallies.Given as goal

-- the tallies that are to come, behind those that there are, make the whole
abbrev pub invariant-loop-kind : goal.invariant-loop-kind
invariant-loop-kind l = record {
  value : tallies_of l.tallies ++ map tally_by (drop l.kind-index l.self.kinds.items)
      ≡ map tally_by l.self.kinds.items;
  table : AreTalliesIn l.image l.tallies;
}
