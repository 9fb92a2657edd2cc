use Rattle.std.proofs.Common.{◌≡◌, ◌+◌, ◌≤◌, ℕ, Err, length, sym, ap, ◌∙◌, subst, arith}
use Rattle.std.proofs.lemmas.Result.{err_from_is_err_and}
use Rattle.block_layout.specs.Text.{IsFirstFault}
use Rattle.block_layout.specs.Reading.{lines_left, bytes_left}
use Rattle.block_layout.proofs.TextLines.{read_more, read_fault, bytes_shorter}
use Rattle.block_layout.proofs.read.named_in.Goals as goal

pub returns-in_err-named-clause-fault : goal.returns-in_err-named-clause-fault
returns-in_err-named-clause-fault c = λ rule n e.
    let p = err_from_is_err_and c.from_residual.result c.from_residual.ensures.1 in
    let t = c.in_err-named.ensures.fault rule n (ap Err (sym p.2) ∙ sym p.1 ∙ e) in
    let P : ℕ → Type 0 = λ m. IsFirstFault c.args.text.now c.args.shared.now c.args.nodes rule m in
    subst P (sym t.0) (read_fault c.args.text.now c.args.shared.now c.args.nodes c.loop-rest.named _ _ c.split_line.result.0.now c.loop-rest.number rule (ap lines_left c.in-Some.is ∙ c.split_line.ensures.lines) c.loop-rest.invariant.read_so_far t.1)

pub loop-rest-preserved : goal.loop-rest-preserved
loop-rest-preserved c = record {
  read_so_far = read_more c.args.text.now c.args.shared.now c.args.nodes c.loop-rest.named c.in_ok-named.named _ _ c.split_line.result.0.now c.loop-rest.number (ap lines_left c.in-Some.is ∙ c.split_line.ensures.lines) c.loop-rest.invariant.read_so_far c.in_ok-named.ensures.ok;
  short =
      let few : bytes_left c.split_line.result.1 ≤ length c.in-Some.lines.now = bytes_shorter c.split_line.result.1 (length c.in-Some.lines.now) c.split_line.ensures.shorter in
      let had : bytes_left c.loop-rest.rest ≡ length c.in-Some.lines.now + 1 = ap bytes_left c.in-Some.is in
      omega (arith, c.loop-rest.invariant.short);
}
