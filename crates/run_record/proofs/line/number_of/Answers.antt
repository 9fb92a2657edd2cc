use Rattle.std.proofs.Common.{◌≡◌, Ok, not, refl, ◌∙◌, sym, ap, arith}
use Rattle.std.proofs.lemmas.Fmt.{parse-decimal}
use Rattle.std.specs.Fmt.{decimal}
use Rattle.std.proofs.lemmas.Bool.{false≢true}
use Rattle.std.proofs.lemmas.Bool.Decides.{Decides-eqb}
use Rattle.std.proofs.lemmas.Slice.Eq.{slice_eq-Decides}
use Rattle.run_record.proofs.Digits.{decimal_utf8}
use Rattle.run_record.proofs.line.number_of.Goals.{then-ne-via-then-ne, then-ne-via-else-ne+then-number-ge-NUMBER_END}
use Rattle.run_record.proofs.line.number_of.Goals as goal

pub returns-in_default-clause-only : goal.returns-in_default-clause-only
returns-in_default-clause-only c = λ n low e.
    absurd (c.in_default.ensures.cases.0 (decimal_utf8 c.args.digits.now n (omega arith) e))

pub returns-in_default-parse-clause-only : goal.returns-in_default-parse-clause-only
returns-in_default-parse-clause-only c = λ n low e.
    let t : c.parse.result ≡ Ok n = parse-decimal 64 n c.in-Ok.text.now c.parse.result (omega arith) (omega arith) (c.in-Ok.ensures.cases.0 ∙ e) c.parse.ensures.value.0 in
    absurd (cc)

pub returns-then-ne-clause-only : goal.returns-then-ne-clause-only
returns-then-ne-clause-only c = λ n low e.
    let t : c.parse.result ≡ Ok n = parse-decimal 64 n c.in-Ok.text.now c.parse.result (omega arith) (omega arith) (c.in-Ok.ensures.cases.0 ∙ e) c.parse.ensures.value.0 in
    let same : c.in-Ok-parse.number ≡ n = cc in
    let text : c.as_bytes.result.now ≡ c.args.digits.now = c.as_bytes.ensures.value ∙ c.format.ensures.text ∙ ap decimal same ∙ sym e in
    elim c.then-ne.branch [ then-ne-via-then-ne w ↦ (let no = w.if-ne.ensures in let yes = (slice_eq-Decides Decides-eqb c.as_bytes.result.now c.args.digits.now _ refl).1 text in absurd (false≢true (sym (no ∙ ap not yes)))) | then-ne-via-else-ne+then-number-ge-NUMBER_END w ↦ absurd (omega (arith, w.if-number-ge-NUMBER_END.true)) ]

pub returns-clause-only : goal.returns-clause-only
returns-clause-only c = λ n low e.
    let t : c.parse.result ≡ Ok n = parse-decimal 64 n c.in-Ok.text.now c.parse.result (omega arith) (omega arith) (c.in-Ok.ensures.cases.0 ∙ e) c.parse.ensures.value.0 in
    cc
