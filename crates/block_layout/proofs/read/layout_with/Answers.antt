use Rattle.std.proofs.Common.{◌≡◌, ℕ, Err, refl, sym, ap, ◌∙◌, subst}
use Rattle.std.proofs.lemmas.Result.{err_from_is_err_and}
use Rattle.block_layout.specs.declared.refused.LayoutRefused.TheVariants.{Broken}
use Rattle.block_layout.specs.Text.{IsFirstBroken}
use Rattle.block_layout.proofs.TextLines.{ranges_broken}
use Rattle.block_layout.proofs.read.layout_with.Goals as goal

pub returns-in_err-taken-clause-refused : goal.returns-in_err-taken-clause-refused
returns-in_err-taken-clause-refused c = λ rule number e.
    let p = err_from_is_err_and c.from_residual-in_err-taken.result c.from_residual-in_err-taken.ensures.1 in
    let whole = sym p.1 ∙ e in
    let error : c.in_err-taken.field-0.0 ≡ Broken rule number = cc (whole, p.2) in
    let t = c.in_err-taken.ensures.broken rule number (ap Err error) in
    let P : ℕ → Type 0 = λ m. IsFirstBroken c.args.named.now c.args.ranges.now c.args.n rule m in
    subst P (sym t.0) (ranges_broken c.args.named.now c.args.ranges.now c.args.n c.loop-place.taken c.loop-place.place _ _ rule c.loop-place-test.true refl c.loop-place.invariant t.1)
