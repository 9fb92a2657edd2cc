use Rattle.std.proofs.Common.{subst, sym, rules, of_calls, arith}
use Rattle.block_layout.specs.declared.index.BlockRun.{BlockRun}
use Rattle.block_layout.specs.Index.{IsPieceOf}
use Rattle.block_layout.proofs.Pieces.{block_found}
use Rattle.block_layout.proofs.layout.Layout.piece_of.Goals as goal

pub overflow_sub-behind : goal.overflow_sub-behind
overflow_sub-behind c =
    let t = block_found c.args.self.now _ c.self.inside.index c.deref.result.now c.args.block c.partition_point-behind.result c.self.view_is c.self.invariant c.deref.ensures.value c.requires c.partition_point-behind.ensures.bound c.partition_point-behind.ensures.partitioned (λ a r f. search (rules, of_calls)) in
    omega (arith, t.0)

pub index-requires : goal.index-requires
index-requires c =
    let t = block_found c.args.self.now _ c.self.inside.index c.deref.result.now c.args.block c.partition_point-behind.result c.self.view_is c.self.invariant c.deref.ensures.value c.requires c.partition_point-behind.ensures.bound c.partition_point-behind.ensures.partitioned (λ a r f. search (rules, of_calls)) in
    omega (arith, t.0, c.partition_point-behind.ensures.bound, c.deref.ensures.len)

pub returns : goal.returns
returns c =
    let t = block_found c.args.self.now _ c.self.inside.index c.deref.result.now c.args.block c.partition_point-behind.result c.self.view_is c.self.invariant c.deref.ensures.value c.requires c.partition_point-behind.ensures.bound c.partition_point-behind.ensures.partitioned (λ a r f. search (rules, of_calls)) in
    let P : BlockRun → Type 0 = λ p. IsPieceOf c.args.self.now c.args.block p in
    subst P (sym c.index.ensures) (t.1 c.index.result.now)
