use Rattle.std.proofs.Common.{◌≡◌, ap, ◌∙◌, inl, subst}
use Rattle.std.specs.Prelude.{Contains}
use Rattle.std.proofs.lemmas.Result.{err_from_is_err_and}
use Rattle.command_line.specs.Views.{time_of}
use Rattle.text_output.specs.Failures.{IsNever}
use Rattle.text_output.proofs.Pieces.{never, refused_too}
use Rattle.judged_files.specs.Executables.{IsUnread}
use Rattle.judged_files.specs.Given.{bytes_of}
use Rattle.judged_files.specs.Refusals.{IsBadRunLayout, IsRunRefused}
use Rattle.judged_files.specs.declared.refusal.Subject.TheVariants.{Executable}
use Rattle.speedup_page.specs.Page.{page_text}
use Rattle.views.specs.Speedup.{AreRowsOf, IsBadLayoutOf, counts_to, parameters_of}
use Rattle.views.specs.Time.{costs_of}
use Rattle.views.proofs.speedup.page_of.Goals as goal

pub returns-in_err-elf-clause-failure : goal.returns-in_err-elf-clause-failure
returns-in_err-elf-clause-failure c =
    let inputs = bytes_of c.args.inputs.now in
    let counts = counts_to c.args.arguments.now.nodes in
    let e = err_from_is_err_and c.from_residual.result c.from_residual.ensures.1 in
    rw (e.1, e.2) (refused_too (IsUnread Executable inputs.executable) IsNever (IsRunRefused inputs)
    (IsBadLayoutOf inputs counts) c.in_err-elf.field-0.0 (λ line h. inl (inl (inl h)))
    (never (IsBadLayoutOf inputs counts)) c.in_err-elf.ensures.refused)

pub returns-in_err-base-clause-failure : goal.returns-in_err-base-clause-failure
returns-in_err-base-clause-failure c =
    let inputs = bytes_of c.args.inputs.now in
    let counts = counts_to c.args.arguments.now.nodes in
    let first : Contains counts 1 =
    subst (λ ns. Contains ns 1) c.in_ok-counts.ensures.value c.in_ok-counts.ensures.first in
    let e = err_from_is_err_and c.from_residual-in_err-base.result c.from_residual-in_err-base.ensures.1 in
    rw (e.1, e.2) (refused_too (IsRunRefused inputs) (IsBadRunLayout inputs 1) (IsRunRefused inputs)
    (IsBadLayoutOf inputs counts) c.in_err-base.field-0.0 (λ line h. h) (λ line h. (1, first, h))
    c.in_err-base.ensures.refused)

pub returns-in_err-rows-clause-failure : goal.returns-in_err-rows-clause-failure
returns-in_err-rows-clause-failure c =
    let inputs = bytes_of c.args.inputs.now in
    let counts = counts_to c.args.arguments.now.nodes in
    let same : c.deref.result.now ≡ counts = c.deref.ensures.value ∙ c.in_ok-counts.ensures.value in
    let e = err_from_is_err_and c.from_residual-in_err-rows.result c.from_residual-in_err-rows.ensures.1 in
    rw (e.1, e.2) (refused_too (IsRunRefused inputs) (IsBadLayoutOf inputs c.deref.result.now) (IsRunRefused inputs)
    (IsBadLayoutOf inputs counts) c.in_err-rows.field-0.0 (λ line h. h)
    (λ line h. subst (λ ns. IsBadLayoutOf inputs ns line) same h) c.in_err-rows.ensures.refused)

pub returns-clause-ok : goal.returns-clause-ok
returns-clause-ok c =
    let inputs = bytes_of c.args.inputs.now in
    let a = time_of c.args.arguments.now in
    let rows = c.in_ok-rows.rows.items in
    let same : c.deref.result.now ≡ counts_to a.nodes =
    c.deref.ensures.value ∙ c.in_ok-counts.ensures.value in
    record {
      base = c.in_ok-base.base;
      is_base = c.in_ok-base.ensures.ok;
      rows = rows;
      are_rows = subst (λ ns. AreRowsOf inputs a.budget (costs_of a) ns rows) same c.in_ok-rows.ensures.ok;
      text_is = c.in_ok-page.ensures
          ∙ ap (page_text (parameters_of a) c.in_ok-base.base) c.deref-2.ensures.value;
    }
