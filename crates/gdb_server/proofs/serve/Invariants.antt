use Rattle.gdb_server.specs.Parts.{standing}
use Rattle.gdb_server.proofs.Told.{IsServing, streams}
use Rattle.gdb_session.specs.declared.session.After.TheVariants.{GoesOn}
use Rattle.gdb_server.proofs.serve.Given as goal

abbrev pub invariant-loop-count : goal.invariant-loop-count
invariant-loop-count g l = IsServing g.T.Target.view g.T.Target.does g.T.Target.moves g.T.Target.tells l.fn.target
    (streams (g.S.Source.state l.fn.source) (g.S.Source.state l.source) (g.O.Sink.state l.fn.out) (g.O.Sink.state l.out))
    (standing l.server l.target GoesOn) l._count
