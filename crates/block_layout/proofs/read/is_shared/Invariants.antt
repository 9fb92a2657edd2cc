use Rattle.std.proofs.Common.{◌≡◌, ◌<◌, ◌≤◌, ℕ, true}
use Rattle.block_layout.specs.Layout.{is_in}
use Rattle.block_layout.proofs.read.is_shared.Given as goal

abbrev pub invariant-loop-line : goal.invariant-loop-line
invariant-loop-line l = (x : ℕ) → l.first ≤ x → x < l.line → is_in l.shared x ≡ true
