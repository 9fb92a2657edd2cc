use Rattle.std.proofs.Common.{◌≡◌, ◌++◌, drop, map}
use Rattle.word_visits.specs.VisitTables.{AreVisitsIn, visits_of}
use Rattle.run_trace.specs.Visited.{first_visits}
use Rattle.run_trace.proofs.kinds.CommitKinds.no_visits.Given as goal

-- the visits that are to come, behind those that there are, make the whole
abbrev pub invariant-loop-kind : goal.invariant-loop-kind
invariant-loop-kind l = record {
  value : visits_of l.visits ++ map first_visits (drop l.kind-index l.self.kinds.items)
      ≡ map first_visits l.self.kinds.items;
  micros : AreVisitsIn l.image l.visits;
}
