use Rattle.std.proofs.Common.{inl, inr, subst, sym}
use Rattle.std.proofs.lemmas.Result.{err_from_is_err_and}
use Rattle.judged_files.specs.Code.{IsUnchosen, choice_of}
use Rattle.judged_files.specs.Executables.{IsProgramOf, IsRejection, IsUnread}
use Rattle.judged_files.specs.Given.{bytes_of}
use Rattle.judged_files.specs.declared.refusal.Subject.TheVariants.{Executable}
use Rattle.text_output.specs.Failures.{IsNever}
use Rattle.text_output.proofs.Pieces.{refused_too}
use Rattle.views.specs.Code.{IsCodeless}
use Rattle.views.proofs.cost.cost_text.Goals as goal

pub returns-in_err-elf-clause-refused : goal.returns-in_err-elf-clause-refused
returns-in_err-elf-clause-refused c =
    let inputs = bytes_of c.args.inputs.now in
    let e = err_from_is_err_and c.from_residual.result c.from_residual.ensures.1 in
    rw (e.1, e.2) (refused_too (IsUnread Executable inputs.executable) IsNever (IsCodeless inputs) IsNever
    c.in_err-elf.field-0.0 (λ line h. inl (inl h)) (λ line h. h) c.in_err-elf.ensures.refused)

pub returns-in_err-program-clause-refused : goal.returns-in_err-program-clause-refused
returns-in_err-program-clause-refused c =
    let inputs = bytes_of c.args.inputs.now in
    let elf = c.in_ok-elf.elf in
    let e = err_from_is_err_and c.from_residual-in_err-program.result c.from_residual-in_err-program.ensures.1 in
    rw (e.1, e.2) (refused_too (IsRejection elf) IsNever (IsCodeless inputs) IsNever c.in_err-program.field-0.0
    (λ line h. inl (inr (elf, c.in_ok-elf.ensures.ok, h))) (λ line h. h) c.in_err-program.ensures.refused)

pub returns-in_err-rewritten-clause-refused : goal.returns-in_err-rewritten-clause-refused
returns-in_err-rewritten-clause-refused c =
    let inputs = bytes_of c.args.inputs.now in
    let p = c.in_ok-program.program in
    let executable : IsProgramOf inputs.executable p =
    subst (IsProgramOf inputs.executable) (sym c.in_ok-program.ensures.ok)
    (record { reads = c.in_ok-elf.ensures.ok; accepted = c.in_ok-program.ensures.acceptable }) in
    let e = err_from_is_err_and c.from_residual-in_err-rewritten.result c.from_residual-in_err-rewritten.ensures.1 in
    rw (e.1, e.2) (refused_too (IsUnchosen (choice_of inputs.batches inputs.verified) p) IsNever (IsCodeless inputs)
    IsNever c.in_err-rewritten.field-0.0 (λ line h. inr (p, executable, h)) (λ line h. h)
    c.in_err-rewritten.ensures.refused)
