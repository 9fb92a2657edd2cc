use Rattle.std.proofs.Common.{sym, subst, arith}
use Rattle.run_record.specs.Record.{AreTakesBehind}
use Rattle.run_record.proofs.Growing.{takes_at}
use Rattle.run_record.proofs.text.push_journals.Goals as goal

pub push_journal-requires : goal.push_journal-requires
push_journal-requires c =
    let nodes = c.requires.0 in (
      nodes,
      subst (AreTakesBehind nodes 0) (sym c.deref.ensures.value)
          (takes_at nodes c.args.journals.now c.loop-node.node c.index-journals-node.result (omega arith) c.index-journals-node.is c.requires.1),
    )
