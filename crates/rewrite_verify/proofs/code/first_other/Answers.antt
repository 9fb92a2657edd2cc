use Rattle.std.proofs.Common.{◌≡◌, ◌∙◌, ◌+◌, ◌-◌, ◌*◌, take, drop, sym, refl, rules}
use Rattle.rewrite_verify.proofs.WordLemmas.{one_same, word_range}
use Rattle.rewrite_verify.proofs.code.first_other.Goals as goal

pub loop-k-preserved : goal.loop-k-preserved
loop-k-preserved c =
    let k = c.loop-k.k in
    let bytes = c.args.bytes.now in
    let wanted = c.args.wanted.now in
    let same : take (4 * k + 4 - 4 * k) (drop (4 * k) bytes)
    ≡ take (4 * k + 4 - 4 * k) (drop (4 * k) wanted) = search rules in
    one_same bytes wanted k
    (sym (word_range bytes k (4 * k) refl) ∙ same ∙ word_range wanted k (4 * k) refl)
    c.loop-k.invariant
