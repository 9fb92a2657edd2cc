use Rattle.std.proofs.Common.{◌≡◌, ◌<◌, ◌≤◌, ℕ, None}
use Rattle.std.specs.List.{find}
use Rattle.block_layout.specs.Layout.{names}
use Rattle.block_layout.proofs.read.is_new.Given as goal

abbrev pub invariant-loop-line : goal.invariant-loop-line
invariant-loop-line l = (x : ℕ) → l.first ≤ x → x < l.line → find (names x) l.named ≡ None
