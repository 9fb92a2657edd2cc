use Rattle.std.proofs.Common.{◌+◌, subst}
use Rattle.std.proofs.lemmas.Result.{err_from_is_err_and}
use Rattle.dsm_io.specs.Causes.{Appends}
use Rattle.dsm_io.specs.States.{SinkState}
use Rattle.text_output.specs.Failures.{IsPutFailure}
use Rattle.code_view.proofs.Lines.{member_of}
use Rattle.views.proofs.Entries.{IsUnderWay, entry_gathered, lines_fail, lines_put, lines_stop}
use Rattle.views.proofs.code.put_entries.Goals as goal
use Rattle.views.proofs.code.put_entries.Goals.{then-len-ge-PIECE+in_ok-put, else-len-ge-PIECE}

pub push_entry-requires-clause-shown : goal.push_entry-requires-clause-shown
push_entry-requires-clause-shown g c = record {
  code = c.requires.shown.code;
  run = c.requires.shown.runs.each c.entry-item.result
      (member_of c.args.view.now.plan.now c.entries-entry-items.result.now c.loop-entry.entry-index
      c.entry-item.result c.entries-entry-items.ensures.value c.loop-entry-test.true c.entry-item.is);
}

pub returns-in_err-number-clause-failure : goal.returns-in_err-number-clause-failure
returns-in_err-number-clause-failure g c =
    let p = err_from_is_err_and c.from_residual-in_err-number.result c.from_residual-in_err-number.ensures.1 in
    rw p.1 (lines_stop c.args.view.now (g.O.Sink.state c.args.out.now) (g.O.Sink.state c.loop-entry.out)
    c.loop-entry.lines.items c.loop-entry.entry-index c.loop-entry.number p.0 p.2 c.loop-entry.invariant)

pub returns-in_err-put-clause-failure : goal.returns-in_err-put-clause-failure
returns-in_err-put-clause-failure g c =
    let start : SinkState = g.O.Sink.state c.args.out.now in
    let before : SinkState = g.O.Sink.state c.loop-entry.out in
    let now : SinkState = g.O.Sink.state c.put.new.out in
    let v = c.args.view.now in
    let i = c.loop-entry.entry-index in
    let lines = c.push_entry.new.out.items in
    let next = c.in_ok-number.number in
    let more : IsUnderWay v start before lines (i + 1) next =
    entry_gathered v start before c.loop-entry.lines.items lines i c.loop-entry.number next
    c.entries-entry-items.result.now c.entry-item.result c.entries-entry-items.ensures.value
    c.loop-entry-test.true c.entry-item.is c.in_ok-number.ensures.behind c.in_ok-number.ensures.text
    c.loop-entry.invariant in
    let p = err_from_is_err_and c.from_residual-in_err-put.result c.from_residual-in_err-put.ensures.1 in
    rw (p.1, p.2) (lines_fail v start before now lines (i + 1) next c.in_err-put.field-0.0 more
    (subst (λ t. IsPutFailure before now t c.in_err-put.field-0.0) c.deref.ensures.value c.in_err-put.ensures.failure))

pub loop-entry-preserved : goal.loop-entry-preserved
loop-entry-preserved g c =
    let start : SinkState = g.O.Sink.state c.args.out.now in
    let before : SinkState = g.O.Sink.state c.loop-entry.out in
    let v = c.args.view.now in
    let i = c.loop-entry.entry-index in
    let lines = c.push_entry.new.out.items in
    let next = c.in_ok-number.number in
    let more : IsUnderWay v start before lines (i + 1) next =
    entry_gathered v start before c.loop-entry.lines.items lines i c.loop-entry.number next
    c.entries-entry-items.result.now c.entry-item.result c.entries-entry-items.ensures.value
    c.loop-entry-test.true c.entry-item.is c.in_ok-number.ensures.behind c.in_ok-number.ensures.text
    c.loop-entry.invariant in
    elim c.if-len-ge-PIECE.branch [
      | then-len-ge-PIECE+in_ok-put w ↦ (
          let after : SinkState = g.O.Sink.state w.put.new.out in
          let put : Appends before.taken after.taken lines =
          subst (Appends before.taken after.taken) w.deref.ensures.value w.in_ok-put.ensures.ok in
          let rest = lines_put v start before after lines w.clear.new.self.items (i + 1) next more put
          w.in_ok-put.ensures.faults w.clear.ensures.items in
          rw (w.out-is, w.lines-is) rest)
      | else-len-ge-PIECE w ↦ (rw (w.out-is, w.lines-is) more)
    ]

pub returns-in_err-put-2-clause-failure : goal.returns-in_err-put-2-clause-failure
returns-in_err-put-2-clause-failure g c =
    let start : SinkState = g.O.Sink.state c.args.out.now in
    let before : SinkState = g.O.Sink.state c.loop-entry.out in
    let now : SinkState = g.O.Sink.state c.put-2.new.out in
    let p = err_from_is_err_and c.from_residual-in_err-put-2.result c.from_residual-in_err-put-2.ensures.1 in
    rw (p.1, p.2) (lines_fail c.args.view.now start before now c.loop-entry.lines.items c.loop-entry.entry-index
    c.loop-entry.number c.in_err-put-2.field-0.0 c.loop-entry.invariant
    (subst (λ t. IsPutFailure before now t c.in_err-put-2.field-0.0) c.deref-2.ensures.value
    c.in_err-put-2.ensures.failure))
