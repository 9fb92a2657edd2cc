use Rattle.std.proofs.Common.{[], ◌++◌, refl, sym, ap, ◌∙◌, subst, append_assoc}
use Rattle.std.proofs.lemmas.Result.{err_from_is_err_and}
use Rattle.dsm_io.specs.Causes.{Appends}
use Rattle.dsm_io.specs.States.{SinkState}
use Rattle.commands.specs.Headline.{listing}
use Rattle.text_output.specs.Failures.{IsPutFailure, IsLike, IsNever}
use Rattle.text_output.proofs.Pieces.{nothing_put, stops_behind}
use Rattle.commands.proofs.ListingLemmas.{IsUnderWay, reaches_first, rest_of, rest_more, line_gathered, lines_put, lines_fail}
use Rattle.commands.proofs.list.put_lines.Goals as goal
use Rattle.commands.proofs.list.put_lines.Goals.{then-len-ge-PIECE+in_ok-put, else-len-ge-PIECE}

pub loop-next-init : goal.loop-next-init
loop-next-init g c = record {
  pieces = [];
  put = nothing_put (g.O.Sink.state c.args.out.now).taken;
  faults = refl;
  reached = reaches_first c.args.program.now c.next_code-next.result c.new-lines.result.items
      c.new-lines.ensures.items c.next_code-next.ensures.some c.next_code-next.ensures.low
      c.next_code-next.ensures.none;
}

pub loop-next-preserved : goal.loop-next-preserved
loop-next-preserved g c =
    let start : SinkState = g.O.Sink.state c.args.out.now in
    let before : SinkState = g.O.Sink.state c.loop-next.out in
    let e = c.args.program.now in
    let more : IsUnderWay e start before c.push_line.new.lines.items c.next_code-next-in-Some.result =
    line_gathered e c.in-Some.address start before c.loop-next.lines.items
    c.push_line.new.lines.items c.loop-next.next c.next_code-next-in-Some.result
    c.loop-next.invariant c.in-Some.is c.in_ok-push_line.ensures
    c.next_code-next-in-Some.ensures.some c.next_code-next-in-Some.ensures.low
    c.next_code-next-in-Some.ensures.none in
    elim c.if-len-ge-PIECE.branch [
      | then-len-ge-PIECE+in_ok-put w ↦ (
          let after : SinkState = g.O.Sink.state w.put.new.out in
          let put : Appends before.taken after.taken c.push_line.new.lines.items =
          subst (Appends before.taken after.taken) w.deref.ensures.value w.in_ok-put.ensures.ok in
          let rest = lines_put e start before after c.push_line.new.lines.items w.clear.new.self.items
          c.next_code-next-in-Some.result more put w.in_ok-put.ensures.faults w.clear.ensures.items in
          rw (w.out-is, w.lines-is) rest)
      | else-len-ge-PIECE w ↦ (rw (w.out-is, w.lines-is) more)
    ]

pub returns-in_err-push_line-clause-failure : goal.returns-in_err-push_line-clause-failure
returns-in_err-push_line-clause-failure g c =
    let start : SinkState = g.O.Sink.state c.args.out.now in
    let now : SinkState = g.O.Sink.state c.loop-next.out in
    let e = c.args.program.now in
    let u = c.loop-next.invariant in
    let r = rest_of e c.loop-next.next (u.pieces ++ c.loop-next.lines.items) u.reached in
    let p = err_from_is_err_and c.from_residual.result c.from_residual.ensures.1 in
    rw p.1 (stops_behind (IsLike (listing e)) IsNever IsNever (listing e) 0 start now u.pieces
    (c.loop-next.lines.items ++ r.0) p.0 p.2 refl
    (r.1 ∙ append_assoc u.pieces c.loop-next.lines.items r.0) u.put)

pub returns-in_err-put-clause-failure : goal.returns-in_err-put-clause-failure
returns-in_err-put-clause-failure g c =
    let start : SinkState = g.O.Sink.state c.args.out.now in
    let before : SinkState = g.O.Sink.state c.loop-next.out in
    let now : SinkState = g.O.Sink.state c.put.new.out in
    let e = c.args.program.now in
    let u = c.loop-next.invariant in
    let lines = c.push_line.new.lines.items in
    let r = rest_more e c.in-Some.address c.loop-next.next (u.pieces ++ c.loop-next.lines.items)
    (u.pieces ++ lines) u.reached c.in-Some.is
    (ap (λ t. u.pieces ++ t) c.in_ok-push_line.ensures ∙ sym (append_assoc u.pieces c.loop-next.lines.items _)) in
    let p = err_from_is_err_and c.from_residual-in_err-put.result c.from_residual-in_err-put.ensures.1 in
    rw (p.1, p.2) (lines_fail e start before now u.pieces lines r.0 c.in_err-put.field-0.0 r.1 u.put u.faults
    (subst (λ t. IsPutFailure before now t c.in_err-put.field-0.0) c.deref.ensures.value c.in_err-put.ensures.failure))

pub returns-in_err-put-2-clause-failure : goal.returns-in_err-put-2-clause-failure
returns-in_err-put-2-clause-failure g c =
    let start : SinkState = g.O.Sink.state c.args.out.now in
    let before : SinkState = g.O.Sink.state c.loop-next.out in
    let now : SinkState = g.O.Sink.state c.put-2.new.out in
    let e = c.args.program.now in
    let u = c.loop-next.invariant in
    let lines = c.loop-next.lines.items in
    let r = rest_of e c.loop-next.next (u.pieces ++ lines) u.reached in
    let p = err_from_is_err_and c.from_residual-in_err-put-2.result c.from_residual-in_err-put-2.ensures.1 in
    rw (p.1, p.2) (lines_fail e start before now u.pieces lines r.0 c.in_err-put-2.field-0.0 r.1 u.put u.faults
    (subst (λ t. IsPutFailure before now t c.in_err-put-2.field-0.0) c.deref-2.ensures.value c.in_err-put-2.ensures.failure))
