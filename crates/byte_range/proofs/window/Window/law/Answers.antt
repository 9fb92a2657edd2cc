use Rattle.std.proofs.Common.{◌^◌, ◌<◌, arith, subst}
use Rattle.byte_range.specs.Range.{Range}
use Rattle.byte_range.specs.Window.{window_memory}
use Rattle.byte_range.proofs.window.Window.law.Goals as goal

pub returns : goal.returns
returns c = record {
  small = λ a.
      subst (λ (r : Range). window_memory r a < 2 ^ 8) c.self.view_is
      (c.law.ensures.small (λ _. 0) a (omega arith));
}
