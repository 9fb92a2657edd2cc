use Rattle.std.proofs.Common.{[], ◌++◌, append-nil, ap, refl, subst, sym, ◌∙◌}
use Rattle.dsm_io.specs.States.{SinkState}
use Rattle.block_view.specs.event_text.Shown.{head}
use Rattle.text_output.specs.Failures.{FailsAs, IsLike, IsNever, IsPutFailure}
use Rattle.text_output.proofs.Pieces.{nothing_put, put_fails}
use Rattle.views.proofs.Viewed.{err_as}
use Rattle.views.proofs.trace.put_head.Goals as goal

pub returns-clause-failure : goal.returns-clause-failure
returns-clause-failure g c =
    let before : SinkState = g.O.Sink.state c.args.out.now in
    let now : SinkState = g.O.Sink.state c.put.new.out in
    err_as (IsPutFailure before now c.deref.result.now) (FailsAs (IsLike head) IsNever IsNever before now) c.put.result
    (λ f h. put_fails (IsLike head) IsNever IsNever head 0 before before now [] head [] f refl
    (sym (append-nil head)) (nothing_put before.taken) refl
    (subst (λ t. IsPutFailure before now t f) (c.deref.ensures.value ∙ c.in_ok-push_head.ensures ∙ ap (λ l. l ++ head) c.new-line.ensures.items) h))
    c.put.ensures.failure
