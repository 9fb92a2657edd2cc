use Rattle.std.proofs.Common.{◌≡◌, ◌≤◌, suc, leb, map, length, sym, subst, arith, rules}
use Rattle.std.specs.List.Sorted.{IsPartitionedBy}
use Rattle.std.proofs.lemmas.List.Sorted.{IsPartitionPoint-from_clause}
use Rattle.byte_range.specs.Pieces.{lines_of, IsPieceOf}
use Rattle.byte_range.proofs.PieceLemmas.{Splits, starts_parted, point_splits, place_none, is_piece_of}
use Rattle.byte_range.proofs.lines.LineMemory.last_piece.Goals as goal

pub returns-in_err-checked_sub : goal.returns-in_err-checked_sub
returns-in_err-checked_sub c =
    let ps = c.self.inside.pieces.items in
    let line = c.args.line in
    let items : c.deref.result.now ≡ ps = c.deref.ensures.value in
    let parted = subst (IsPartitionedBy (λ p. leb p.lines.first line)) (sym items) (starts_parted line ps c.self.invariant.ascend) in
    let point = IsPartitionPoint-from_clause (λ p. leb p.lines.first line) c.deref.result.now c.partition_point-behind.result c.partition_point-behind.ensures.partitioned parted (λ a r q k. search rules) in
    let fits : c.partition_point-behind.result ≤ length ps = rw items at c.partition_point-behind.ensures.bound in
    let splits = point_splits line ps c.partition_point-behind.result fits (rw items at point) in
    let none : c.partition_point-behind.result ≡ 0 = omega (arith, c.in_err-checked_sub.ensures) in
    rw (c.from_residual.ensures, ← c.self.view_is) (place_none line ps (subst (Splits line ps) none splits))

pub returns : goal.returns
returns c =
    let ps = c.self.inside.pieces.items in
    let line = c.args.line in
    let items : c.deref.result.now ≡ ps = c.deref.ensures.value in
    let parted = subst (IsPartitionedBy (λ p. leb p.lines.first line)) (sym items) (starts_parted line ps c.self.invariant.ascend) in
    let point = IsPartitionPoint-from_clause (λ p. leb p.lines.first line) c.deref.result.now c.partition_point-behind.result c.partition_point-behind.ensures.partitioned parted (λ a r q k. search rules) in
    let fits : c.partition_point-behind.result ≤ length ps = rw items at c.partition_point-behind.ensures.bound in
    let splits = point_splits line ps c.partition_point-behind.result fits (rw items at point) in
    let k = c.in_ok-checked_sub.field-0 in
    let last : c.partition_point-behind.result ≡ suc k = omega (arith, c.in_ok-checked_sub.ensures.0, c.in_ok-checked_sub.ensures.1) in
    rw (← c.self.view_is) (subst (IsPieceOf (map lines_of ps) line) (sym c.index.ensures) (is_piece_of line ps k c.index.result.now c.self.invariant.starts c.self.invariant.ascend (subst (Splits line ps) last splits)))
