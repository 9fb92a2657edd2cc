use Rattle.std.proofs.Common.{◌≡◌, ◌+◌, ◌*◌, true, false, Option, Some, None, length, refl, sym, ap, ◌∙◌, arith}
use Rattle.std.specs.Prelude.{is_some, option_to_list}
use Rattle.rv32_decode.specs.declared.Instr.{Instr}
use Rattle.templates.specs.Code.{code_of}
use Rattle.templates.proofs.RunLemmas.{from_more_length, from_short}
use Rattle.templates.proofs.commits.words_of_run.Goals as goal
use Rattle.templates.proofs.commits.words_of_run.Goals.{then-is_some, else-is_some}

one_more : (o : Option Instr) → is_some o ≡ true → length (option_to_list o) ≡ 1
one_more None h = cc
one_more (Some i) h = omega arith

no_more : (o : Option Instr) → is_some o ≡ false → length (option_to_list o) ≡ 0
no_more None h = omega arith
no_more (Some i) h = cc

pub overflow_add-words : goal.overflow_add-words
overflow_add-words c =
    let short = from_short (code_of c.args.code.now) c.args.address c.loop-k.k in
    let words = c.loop-k.invariant in
    omega (arith, short, words)

pub loop-k-preserved : goal.loop-k-preserved
loop-k-preserved c =
    let code = code_of c.args.code.now in
    let there = code (c.args.address + 4 * c.loop-k.k) in
    let more = from_more_length code c.args.address c.loop-k.k (c.loop-k.k + 1) refl in
    let old = c.loop-k.invariant in
    let is = c.is_some.ensures ∙ ap (λ o. is_some o) c.behind.ensures.value in
    elim c.if-is_some.branch [
      | then-is_some w ↦ (let one = one_more there (sym is ∙ w.if-is_some.true) in let words = w.words-is in omega (arith, more, old, one, words))
      | else-is_some w ↦ (let none = no_more there (sym is ∙ w.if-is_some.false) in let words = w.words-is in omega (arith, more, old, none, words))
    ]
