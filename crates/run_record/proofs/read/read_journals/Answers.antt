use Rattle.std.proofs.Common.{◌≡◌, ◌+◌, ◌++◌, ◌∷◌, [], length, refl, sym, ap, ◌∙◌, subst, arith}
use Rattle.std.specs.Prelude.{codes}
use Rattle.std.specs.List.{All}
use Rattle.std.proofs.lemmas.Result.{err_from_is_err_and}
use Rattle.std.proofs.lemmas.List.{length_push}
use Rattle.std.proofs.lemmas.List.Elements.{All-push}
use Rattle.run_record.specs.Lists.{items_of}
use Rattle.run_record.specs.Reading.{IsFault, IsRead}
use Rattle.run_record.specs.Record.{AreTakesBehind}
use Rattle.run_record.specs.Rules.{Awaits, Node, Take, node_awaited}
use Rattle.run_record.specs.Text.{number_line, take_lines, journal_lines}
use Rattle.run_record.proofs.Passing.{read_on, handed_on}
use Rattle.run_record.proofs.Growing.{journal_more, items_more, awaited_here}
use Rattle.run_record.proofs.read.read_journals.Goals as goal

pub returns-in_err-read_node-clause-err : goal.returns-in_err-read_node-clause-err
returns-in_err-read_node-clause-err c =
    let p = err_from_is_err_and c.from_residual.result c.from_residual.ensures.1 in
    let P : Awaits → Type 0 = λ s. IsRead (Node c.args.version c.args.nodes 0) c.args.lines.now (journal_lines c.args.version 0 (items_of c.loop-node.journals.items)) s c.loop-node.lines in
    let so_far = subst P (awaited_here c.args.version c.args.nodes c.loop-node.node (omega arith)) c.loop-node.invariant.read_so_far in
    handed_on c.from_residual.result (IsFault (Node c.args.version c.args.nodes 0) c.args.lines.now) p.0 _ p.1 p.2
    (so_far.faults _ (c.in_err-read_node.ensures.err c.args.version c.args.nodes))

pub returns-in_err-read_takes-clause-err : goal.returns-in_err-read_takes-clause-err
returns-in_err-read_takes-clause-err c =
    let p = err_from_is_err_and c.from_residual-in_err-read_takes.result c.from_residual-in_err-read_takes.ensures.1 in
    let P : Awaits → Type 0 = λ s. IsRead (Node c.args.version c.args.nodes 0) c.args.lines.now (journal_lines c.args.version 0 (items_of c.loop-node.journals.items)) s c.loop-node.lines in
    let so_far = subst P (awaited_here c.args.version c.args.nodes c.loop-node.node (omega arith)) c.loop-node.invariant.read_so_far in
    handed_on c.from_residual-in_err-read_takes.result (IsFault (Node c.args.version c.args.nodes 0) c.args.lines.now) p.0 _ p.1 p.2
    (so_far.faults _ ((c.in_ok-read_node.ensures.ok c.args.version c.args.nodes).faults _ (c.in_err-read_takes.ensures.err c.loop-node.node)))

pub loop-node-preserved : goal.loop-node-preserved
loop-node-preserved c =
    let nodes = c.args.nodes in
    let node = c.loop-node.node in
    let v = c.args.version in
    let es = c.in_ok-read_takes.field-0 in
    let old = items_of c.loop-node.journals.items in
    let items : items_of c.push.new.self.items ≡ old ++ es.items ∷ [] = ap items_of c.in_ok-push.ensures.items ∙ items_more c.loop-node.journals.items es in
    let P : Awaits → Type 0 = λ s. IsRead (Node v nodes 0) c.args.lines.now (journal_lines v 0 old) s c.loop-node.lines in
    let so_far = subst P (awaited_here v nodes node (omega arith)) c.loop-node.invariant.read_so_far in
    let one = read_on (Node v nodes node) (Take v nodes node 0) (node_awaited v nodes (node + 1)) c.loop-node.lines c.read_node.new.lines c.read_takes.new.lines
    (number_line (codes "node ") node) (take_lines v 0 es.items ++ codes "end\n") (journal_lines v node (es.items ∷ [])) refl
    (c.in_ok-read_node.ensures.ok v nodes) (c.in_ok-read_takes.ensures.ok node) in
    record {
      read_so_far = read_on (Node v nodes 0) (Node v nodes node) (node_awaited v nodes (node + 1)) c.args.lines.now c.loop-node.lines c.read_takes.new.lines
          (journal_lines v 0 old) (journal_lines v node (es.items ∷ [])) (journal_lines v 0 (items_of c.push.new.self.items))
          (journal_more v 0 node old es.items (omega (arith, c.loop-node.invariant.each)) ∙ ap (journal_lines v 0) (sym items))
          so_far one;
      each = ap length items ∙ length_push old es.items ∙ ap (λ m. m + 1) c.loop-node.invariant.each;
      takes = subst (All (AreTakesBehind nodes 0)) (sym items) (All-push (AreTakesBehind nodes 0) old es.items c.loop-node.invariant.takes c.in_ok-read_takes.ensures.takes);
    }
