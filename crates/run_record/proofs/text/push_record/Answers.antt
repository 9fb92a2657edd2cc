use Rattle.std.proofs.Common.{sym, subst}
use Rattle.std.specs.List.{All}
use Rattle.run_record.specs.Record.{AreTakesBehind}
use Rattle.run_record.proofs.text.push_record.Goals as goal

pub push_journals-requires : goal.push_journals-requires
push_journals-requires c =
    let nodes = c.args.r.now.nodes in
    (nodes, subst (All (AreTakesBehind nodes 0)) (sym c.as_slice-2.ensures) c.requires.record.journals)
