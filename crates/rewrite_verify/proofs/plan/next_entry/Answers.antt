use Rattle.std.proofs.Common.{◌≡◌, ◌≢◌, ◌<◌, ◌∙◌, Some, ap, subst, sym, rules, arith}
use Rattle.std.specs.Prelude.{IfNone}
use Rattle.std.proofs.lemmas.Bool.{false≢true}
use Rattle.templates.specs.declared.plans.PlanEntry.{PlanEntry}
use Rattle.templates.specs.Code.{code_of}
use Rattle.templates.specs.Plans.{Serves}
use Rattle.rewrite_verify.specs.Reading.{HasNoEntry}
use Rattle.rewrite_verify.proofs.EntryLemmas.{says_entry}
use Rattle.rewrite_verify.proofs.plan.next_entry.Goals as goal
use Rattle.rewrite_verify.proofs.plan.next_entry.Goals.{else-serves-via-then-serves+else-free-from, then-entry-eq0, else-entry-eq0, else-serves-via-else-serves}

pub returns-in_err-entry-clause-none : goal.returns-in_err-entry-clause-none
returns-in_err-entry-clause-none c =
    let code = code_of c.args.live.now in
    let a = c.args.address in
    let bytes = c.args.bytes.now in
    subst (λ o. IfNone o (HasNoEntry code c.args.free a bytes)) (sym c.from_residual.ensures)
    (record {
      each = λ e address says serves.
          let some = c.read_entry.ensures.only e (says_entry code a bytes e serves address says) in
          let none = c.in_err-entry.was in
          absurd (cc (some, none));
    })

pub returns-else-serves-clause-none : goal.returns-else-serves-clause-none
returns-else-serves-clause-none c =
    let code = code_of c.args.live.now in
    let a = c.args.address in
    let bytes = c.args.bytes.now in
    let entry = c.in_ok-entry.entry in
    record {
      each = λ e address says serves.
          let is : Some entry ≡ Some e =
          sym c.in_ok-entry.was
          ∙ c.read_entry.ensures.only e (says_entry code a bytes e serves address says) in
          let same : entry ≡ e = cc in
          let here : Serves code entry = subst (Serves code) (sym same) serves in
          elim c.else-serves.branch [
            | else-serves-via-then-serves+else-free-from w ↦ elim w.if-entry-eq0.branch [
              | then-entry-eq0 w' ↦ absurd (search rules)
              | else-entry-eq0 w' ↦
                  let run : entry.run ≢ 0 = search rules in
                  let low : a < c.args.free = search rules in
                  ((λ z. run (ap (λ (x : PlanEntry). x.run) same ∙ z)), omega (arith, low, address))
            ]
            | else-serves-via-else-serves w ↦
                absurd (false≢true (sym w.if-serves.false ∙ c.serves.ensures.value.1 here))
          ];
    }
