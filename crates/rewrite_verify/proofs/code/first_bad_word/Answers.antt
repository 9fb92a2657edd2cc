use Rattle.std.proofs.Common.{◌∙◌, ◌≤◌, length, ap, arith}
use Rattle.rewriter.proofs.SizeLemmas.{code_size}
use Rattle.rewrite_verify.proofs.code.first_bad_word.Goals as goal

pub first_other-requires-clause-long : goal.first_other-requires-clause-long
first_other-requires-clause-long c =
    let size = ap length (c.deref.ensures.value ∙ c.in_ok-wanted.ensures.value)
    ∙ code_size c.args.image.now in
    let long = c.in-Some.ensures.value.long in
    let count = c.words.ensures.value in
    omega (arith, size, long, count)

pub first_other-requires-clause-whole : goal.first_other-requires-clause-whole
first_other-requires-clause-whole c =
    let size = ap length (c.deref.ensures.value ∙ c.in_ok-wanted.ensures.value)
    ∙ code_size c.args.image.now in
    let count = c.words.ensures.value in
    let few = c.words.ensures.few in
    (length c.args.image.now, size, omega (arith, count, few))

pub overflow_mul-result : goal.overflow_mul-result
overflow_mul-result c =
    let size = ap length (c.deref.ensures.value ∙ c.in_ok-wanted.ensures.value)
    ∙ code_size c.args.image.now in
    let within = c.in-Some-first_other.ensures.value.within in
    let count = c.words.ensures.value in
    let few : c.words.result ≤ 4194303 = c.words.ensures.few in
    omega (arith, size, within, count, few)

pub overflow_add-result : goal.overflow_add-result
overflow_add-result c =
    let size = ap length (c.deref.ensures.value ∙ c.in_ok-wanted.ensures.value)
    ∙ code_size c.args.image.now in
    let within = c.in-Some-first_other.ensures.value.within in
    let count = c.words.ensures.value in
    let few : c.words.result ≤ 4194303 = c.words.ensures.few in
    omega (arith, size, within, count, few)
