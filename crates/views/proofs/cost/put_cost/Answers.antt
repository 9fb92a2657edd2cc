use Rattle.std.proofs.Common.{[], append-nil, refl, subst, sym}
use Rattle.std.proofs.lemmas.Result.{err_from_is_err_and}
use Rattle.dsm_io.specs.Causes.{Appends}
use Rattle.dsm_io.specs.States.{SinkState}
use Rattle.judged_files.specs.Given.{bytes_of}
use Rattle.text_output.specs.Failures.{FailsAs, IsNever, IsPutFailure, Puts}
use Rattle.text_output.proofs.Pieces.{nothing_put, put_fails, refused_first}
use Rattle.views.specs.Code.{IsCodeless}
use Rattle.views.specs.Cost.{IsTextOfCost}
use Rattle.views.proofs.Viewed.{err_as, on_ok_as}
use Rattle.views.proofs.cost.put_cost.Goals as goal

pub returns-in_err-text-clause-failure : goal.returns-in_err-text-clause-failure
returns-in_err-text-clause-failure g c =
    let inputs = bytes_of c.args.inputs.now in
    let state : SinkState = g.O.Sink.state c.args.out.now in
    let e = err_from_is_err_and c.from_residual.result c.from_residual.ensures.1 in
    rw (e.1, e.2) (refused_first (IsTextOfCost inputs) (IsCodeless inputs) IsNever (IsCodeless inputs) IsNever
    state c.in_err-text.field-0.0 (λ line h. h) (λ line h. h) c.in_err-text.ensures.refused)

pub returns-clause-ok : goal.returns-clause-ok
returns-clause-ok g c =
    let inputs = bytes_of c.args.inputs.now in
    let before : SinkState = g.O.Sink.state c.args.out.now in
    let now : SinkState = g.O.Sink.state c.put.new.out in
    let text = c.deref.result.now in
    let is : IsTextOfCost inputs text 0 =
    subst (λ t. IsTextOfCost inputs t 0) (sym c.deref.ensures.value) c.in_ok-text.ensures.ok in
    on_ok_as (Appends before.taken now.taken text) (Puts (IsTextOfCost inputs) 0 before now) c.put.result
    (λ put. (text, is, put)) c.put.ensures.ok

pub returns-clause-failure : goal.returns-clause-failure
returns-clause-failure g c =
    let inputs = bytes_of c.args.inputs.now in
    let before : SinkState = g.O.Sink.state c.args.out.now in
    let now : SinkState = g.O.Sink.state c.put.new.out in
    let text = c.deref.result.now in
    let is : IsTextOfCost inputs text 0 =
    subst (λ t. IsTextOfCost inputs t 0) (sym c.deref.ensures.value) c.in_ok-text.ensures.ok in
    err_as (IsPutFailure before now text) (FailsAs (IsTextOfCost inputs) (IsCodeless inputs) IsNever before now)
    c.put.result
    (λ f h. put_fails (IsTextOfCost inputs) (IsCodeless inputs) IsNever text 0 before before now [] text [] f is
    (sym (append-nil text)) (nothing_put before.taken) refl h) c.put.ensures.failure
