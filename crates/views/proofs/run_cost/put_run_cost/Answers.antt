use Rattle.std.proofs.Common.{◌∙◌, [], ap, append-nil, inl, refl, subst, sym}
use Rattle.std.proofs.lemmas.Result.{err_from_is_err_and}
use Rattle.block_layout.specs.Layout.{Shape}
use Rattle.dsm_io.specs.Causes.{Appends}
use Rattle.dsm_io.specs.States.{SinkState}
use Rattle.elf_symbols.specs.Symbols.{functions_of}
use Rattle.judged_files.specs.Executables.{IsUnread}
use Rattle.text_output.specs.Failures.{IsNever, IsPutFailure, Puts}
use Rattle.judged_files.specs.Given.{bytes_of}
use Rattle.prepared_run.specs.Replays.{IsBadReplayLayout, IsReplayRefused}
use Rattle.judged_files.specs.declared.refusal.Subject.TheVariants.{Executable}
use Rattle.text_output.proofs.Pieces.{never, nothing_put, put_fails}
use Rattle.prepared_run.proofs.ReplayLemmas.{replay_refused}
use Rattle.views.specs.RunCost.{IsRunCostText, IsTextOfRunCost}
use Rattle.views.specs.Failures.{FailsAsRun}
use Rattle.views.proofs.RunCosted.{told_are}
use Rattle.views.proofs.Runs.{broken_refused, costs_unput, refused_run}
use Rattle.views.proofs.Viewed.{err_as, on_ok_as}
use Rattle.views.proofs.run_cost.put_run_cost.Goals as goal

pub returns-in_err-elf-clause-failure : goal.returns-in_err-elf-clause-failure
returns-in_err-elf-clause-failure g c =
    let inputs = bytes_of c.args.inputs.now in
    let state : SinkState = g.O.Sink.state c.args.out.now in
    let e = err_from_is_err_and c.from_residual.result c.from_residual.ensures.1 in
    rw (e.1, e.2) (refused_run (IsTextOfRunCost inputs) inputs state c.in_err-elf.field-0.0
    (replay_refused inputs (IsUnread Executable inputs.executable) IsNever c.in_err-elf.field-0.0
    (λ line h. inl (inl h)) (never (IsBadReplayLayout inputs)) c.in_err-elf.ensures.refused))

pub returns-in_err-prepared-clause-failure : goal.returns-in_err-prepared-clause-failure
returns-in_err-prepared-clause-failure g c =
    let inputs = bytes_of c.args.inputs.now in
    let state : SinkState = g.O.Sink.state c.args.out.now in
    let e = err_from_is_err_and c.from_residual-in_err-prepared.result c.from_residual-in_err-prepared.ensures.1 in
    rw (e.1, e.2) (refused_run (IsTextOfRunCost inputs) inputs state c.in_err-prepared.field-0.0
    c.in_err-prepared.ensures.refused)

pub run_text-requires-clause-record : goal.run_text-requires-clause-record
run_text-requires-clause-record g c = c.in_ok-prepared.ensures.asked.text.is_record

pub run_text-requires-clause-nodes : goal.run_text-requires-clause-nodes
run_text-requires-clause-nodes g c = ap (λ (s : Shape). s.nodes) c.in_ok-prepared.ensures.asked.laid_out.layout_is

pub returns-in_err-text-clause-failure : goal.returns-in_err-text-clause-failure
returns-in_err-text-clause-failure g c =
    let inputs = bytes_of c.args.inputs.now in
    let state : SinkState = g.O.Sink.state c.args.out.now in
    let e = err_from_is_err_and c.from_residual-in_err-text.result c.from_residual-in_err-text.ensures.1 in
    rw (e.1, e.2) (refused_run (IsTextOfRunCost inputs) inputs state c.in_err-text.field-0.0
    (broken_refused inputs c.in_ok-prepared.prepared c.in_ok-prepared.kept c.in_err-text.field-0.0
    c.in_ok-prepared.ensures.asked c.in_err-text.ensures.refused))

pub returns-clause-ok : goal.returns-clause-ok
returns-clause-ok g c =
    let inputs = bytes_of c.args.inputs.now in
    let before : SinkState = g.O.Sink.state c.args.out.now in
    let now : SinkState = g.O.Sink.state c.put.new.out in
    let text = c.deref.result.now in
    let prepared = c.in_ok-prepared.prepared in
    let asked = c.in_ok-prepared.ensures.asked in
    let named = c.in_ok-symbols.ensures
    ∙ ap functions_of (c.in_ok-elf.ensures.ok.1 ∙ sym asked.rewritten.executable.reads.1) in
    let is : IsRunCostText inputs text = subst (IsRunCostText inputs) (sym c.deref.ensures.value)
    (told_are inputs prepared c.in_ok-prepared.kept c.in_ok-symbols.symbols c.in_ok-text.text.items asked named
    c.in_ok-text.ensures.ok) in
    on_ok_as (Appends before.taken now.taken text) (Puts (IsTextOfRunCost inputs) 0 before now) c.put.result
    (λ put. (text, is, put)) c.put.ensures.ok

pub returns-clause-failure : goal.returns-clause-failure
returns-clause-failure g c =
    let inputs = bytes_of c.args.inputs.now in
    let before : SinkState = g.O.Sink.state c.args.out.now in
    let now : SinkState = g.O.Sink.state c.put.new.out in
    let text = c.deref.result.now in
    let prepared = c.in_ok-prepared.prepared in
    let asked = c.in_ok-prepared.ensures.asked in
    let named = c.in_ok-symbols.ensures
    ∙ ap functions_of (c.in_ok-elf.ensures.ok.1 ∙ sym asked.rewritten.executable.reads.1) in
    let is : IsRunCostText inputs text = subst (IsRunCostText inputs) (sym c.deref.ensures.value)
    (told_are inputs prepared c.in_ok-prepared.kept c.in_ok-symbols.symbols c.in_ok-text.text.items asked named
    c.in_ok-text.ensures.ok) in
    err_as (IsPutFailure before now text) (FailsAsRun (IsTextOfRunCost inputs) inputs before now) c.put.result
    (λ f h. costs_unput (IsTextOfRunCost inputs) inputs before now f
    (put_fails (IsTextOfRunCost inputs) (IsReplayRefused inputs) (IsBadReplayLayout inputs) text 0 before before now []
    text [] f is (sym (append-nil text)) (nothing_put before.taken) refl h)) c.put.ensures.failure

pub run_text-requires-clause-plan : goal.run_text-requires-clause-plan
run_text-requires-clause-plan g c = c.in_ok-prepared.ensures.asked.rewritten.rewriting
