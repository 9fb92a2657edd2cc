use Rattle.std.proofs.Common.{subst, sym, rules, of_calls, arith}
use Rattle.block_layout.specs.declared.index.BlockRun.{BlockRun}
use Rattle.block_layout.specs.Index.{IsBegun}
use Rattle.block_layout.proofs.Pieces.{line_found}
use Rattle.block_layout.proofs.layout.Layout.piece_before.Goals as goal

pub returns-then-behind-eq0 : goal.returns-then-behind-eq0
returns-then-behind-eq0 c =
    let t = line_found c.args.self.now _ c.self.inside.index c.deref.result.now c.args.line c.partition_point-behind.result c.self.view_is c.self.invariant c.deref.ensures.value c.partition_point-behind.ensures.bound c.partition_point-behind.ensures.partitioned (λ a r f. search (rules, of_calls)) in
    t.0 (omega arith)

pub returns-else-behind-eq0 : goal.returns-else-behind-eq0
returns-else-behind-eq0 c =
    let t = line_found c.args.self.now _ c.self.inside.index c.deref.result.now c.args.line c.partition_point-behind.result c.self.view_is c.self.invariant c.deref.ensures.value c.partition_point-behind.ensures.bound c.partition_point-behind.ensures.partitioned (λ a r f. search (rules, of_calls)) in
    let P : BlockRun → Type 0 = λ p. IsBegun c.args.self.now c.args.line p in
    subst P (sym c.index.ensures) (t.1 c.index.result.now (omega arith))
