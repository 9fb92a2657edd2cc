use Rattle.std.proofs.Common.{true, false, [], ◌++◌, append-nil, refl, sym, ap, ◌∙◌, subst}
use Rattle.std.proofs.lemmas.Result.{err_from_is_err_and}
use Rattle.dsm_io.specs.Causes.{Appends}
use Rattle.dsm_io.specs.States.{SinkState}
use Rattle.block_view.specs.event_text.Shown.{head}
use Rattle.text_output.specs.Failures.{IsPutFailure}
use Rattle.text_output.proofs.Pieces.{nothing_put}
use Rattle.run_trace.specs.Tracing.{record_traced, work_traced}
use Rattle.views.specs.Trace.{HasPushedMore, HasPushedOn}
use Rattle.views.proofs.Lines.{IsUnderWay, events_gathered, lines_fail, lines_put, lines_stop, same_self, tells_by, whole_put}
use Rattle.views.proofs.trace.put_events.Goals as goal

pub loop-lines-init : goal.loop-lines-init
loop-lines-init g c = record {
  seen = [];
  traced = c.requires.start;
  same = same_self c.args.tracer.now;
  pieces = [];
  put = nothing_put (g.O.Sink.state c.args.out.now).taken;
  faults = refl;
  reached = c.in_ok-push_head.ensures ∙ ap (λ l. l ++ head) c.new-lines.ensures.items ∙ sym (append-nil head);
}

pub push_next-requires-clause-traced : goal.push_next-requires-clause-traced
push_next-requires-clause-traced g c = (c.loop-lines.invariant.seen, c.loop-lines.invariant.traced)

pub push_next-requires-clause-whole : goal.push_next-requires-clause-whole
push_next-requires-clause-whole g c =
    let first = c.args.tracer.now in
    tells_by c.loop-lines.tracer (work_traced first) (record_traced first) c.loop-lines.invariant.same.work
    c.loop-lines.invariant.same.rec_is c.requires.whole

pub returns-in_err-push_next-clause-failure : goal.returns-in_err-push_next-clause-failure
returns-in_err-push_next-clause-failure g c = λ trace whole.
    let start : SinkState = g.O.Sink.state c.args.out.now in
    let now : SinkState = g.O.Sink.state c.loop-lines.out in
    let p = err_from_is_err_and c.from_residual-in_err-push_next.result
    c.from_residual-in_err-push_next.ensures.1 in
    rw p.1 (lines_stop c.args.program.now c.args.options.now c.args.tracer.now c.loop-lines.tracer start now
    c.loop-lines.lines.items trace p.0 (c.replay_law.ensures.one (record_traced c.loop-lines.tracer)) p.2
    c.loop-lines.invariant whole)

pub returns-in_err-put-clause-failure : goal.returns-in_err-put-clause-failure
returns-in_err-put-clause-failure g c = λ trace whole.
    let start : SinkState = g.O.Sink.state c.args.out.now in
    let before : SinkState = g.O.Sink.state c.loop-lines.out in
    let elf = c.args.program.now in
    let o = c.args.options.now in
    let first = c.args.tracer.now in
    let t = c.loop-lines.tracer in
    let u = c.push_next.new.tracer in
    let way = c.loop-lines.invariant in
    let lines = c.push_next.new.lines.items in
    let pushed : HasPushedMore elf o u way.seen c.loop-lines.lines.items lines =
    subst (HasPushedOn elf o u way.seen c.loop-lines.lines.items lines) c.if-branch.true
    (c.in_ok-push_next.ensures.next way.seen way.traced) in
    let more : IsUnderWay elf o first u start before lines =
    events_gathered elf o first t u start before c.loop-lines.lines.items lines way c.in_ok-push_next.ensures.same
    pushed in
    let now : SinkState = g.O.Sink.state c.put.new.out in
    let p = err_from_is_err_and c.from_residual-in_err-put.result c.from_residual-in_err-put.ensures.1 in
    rw (p.1, p.2) (lines_fail elf o first u start before now lines trace c.in_err-put.field-0.0
    (c.replay_law.ensures.one (record_traced u)) more whole
    (subst (λ x. IsPutFailure before now x c.in_err-put.field-0.0) c.deref.ensures.value c.in_err-put.ensures.failure))

pub loop-lines-preserved-then-len-ge-PIECE : goal.loop-lines-preserved-then-len-ge-PIECE
loop-lines-preserved-then-len-ge-PIECE g c =
    let start : SinkState = g.O.Sink.state c.args.out.now in
    let before : SinkState = g.O.Sink.state c.loop-lines.out in
    let elf = c.args.program.now in
    let o = c.args.options.now in
    let first = c.args.tracer.now in
    let t = c.loop-lines.tracer in
    let u = c.push_next.new.tracer in
    let way = c.loop-lines.invariant in
    let lines = c.push_next.new.lines.items in
    let pushed : HasPushedMore elf o u way.seen c.loop-lines.lines.items lines =
    subst (HasPushedOn elf o u way.seen c.loop-lines.lines.items lines) c.if-branch.true
    (c.in_ok-push_next.ensures.next way.seen way.traced) in
    let more : IsUnderWay elf o first u start before lines =
    events_gathered elf o first t u start before c.loop-lines.lines.items lines way c.in_ok-push_next.ensures.same
    pushed in
    let now : SinkState = g.O.Sink.state c.put.new.out in
    let put : Appends before.taken now.taken lines =
    subst (Appends before.taken now.taken) c.deref.ensures.value c.in_ok-put.ensures.ok in
    lines_put elf o first u start before now lines c.clear.new.self.items more put c.in_ok-put.ensures.faults
    c.clear.ensures.items

pub loop-lines-preserved : goal.loop-lines-preserved
loop-lines-preserved g c =
    let start : SinkState = g.O.Sink.state c.args.out.now in
    let before : SinkState = g.O.Sink.state c.loop-lines.out in
    let elf = c.args.program.now in
    let o = c.args.options.now in
    let first = c.args.tracer.now in
    let t = c.loop-lines.tracer in
    let u = c.push_next.new.tracer in
    let way = c.loop-lines.invariant in
    let lines = c.push_next.new.lines.items in
    let pushed : HasPushedMore elf o u way.seen c.loop-lines.lines.items lines =
    subst (HasPushedOn elf o u way.seen c.loop-lines.lines.items lines) c.if-branch.true
    (c.in_ok-push_next.ensures.next way.seen way.traced) in
    let more : IsUnderWay elf o first u start before lines =
    events_gathered elf o first t u start before c.loop-lines.lines.items lines way c.in_ok-push_next.ensures.same
    pushed in
    more

pub returns-in_err-put-2-clause-failure : goal.returns-in_err-put-2-clause-failure
returns-in_err-put-2-clause-failure g c = λ trace whole.
    let start : SinkState = g.O.Sink.state c.args.out.now in
    let before : SinkState = g.O.Sink.state c.loop-lines.out in
    let elf = c.args.program.now in
    let o = c.args.options.now in
    let first = c.args.tracer.now in
    let t = c.loop-lines.tracer in
    let u = c.push_next.new.tracer in
    let way = c.loop-lines.invariant in
    let none : HasPushedOn elf o u way.seen c.loop-lines.lines.items c.push_next.new.lines.items false =
    subst (HasPushedOn elf o u way.seen c.loop-lines.lines.items c.push_next.new.lines.items) c.if-branch.false
    (c.in_ok-push_next.ensures.next way.seen way.traced) in
    let now : SinkState = g.O.Sink.state c.put-2.new.out in
    let p = err_from_is_err_and c.from_residual-in_err-put-2.result c.from_residual-in_err-put-2.ensures.1 in
    let text = c.deref-2.ensures.value ∙ none.0 in
    rw (p.1, p.2) (lines_fail elf o first t start before now c.loop-lines.lines.items trace c.in_err-put-2.field-0.0
    (c.replay_law.ensures.one (record_traced t)) way whole
    (subst (λ x. IsPutFailure before now x c.in_err-put-2.field-0.0) text c.in_err-put-2.ensures.failure))

pub returns-clause-ok : goal.returns-clause-ok
returns-clause-ok g c = λ trace whole.
    let start : SinkState = g.O.Sink.state c.args.out.now in
    let before : SinkState = g.O.Sink.state c.loop-lines.out in
    let elf = c.args.program.now in
    let o = c.args.options.now in
    let first = c.args.tracer.now in
    let t = c.loop-lines.tracer in
    let u = c.push_next.new.tracer in
    let way = c.loop-lines.invariant in
    let none : HasPushedOn elf o u way.seen c.loop-lines.lines.items c.push_next.new.lines.items false =
    subst (HasPushedOn elf o u way.seen c.loop-lines.lines.items c.push_next.new.lines.items) c.if-branch.false
    (c.in_ok-push_next.ensures.next way.seen way.traced) in
    let now : SinkState = g.O.Sink.state c.put-2.new.out in
    whole_put elf o first t u start before now c.loop-lines.lines.items trace way c.in_ok-push_next.ensures.same none.1
    whole (subst (Appends before.taken now.taken) (c.deref-2.ensures.value ∙ none.0) c.in_ok-put-2.ensures.ok)
