use Rattle.std.proofs.Common.{ℕ, ap, ◌∙◌}
use Rattle.std.specs.Prelude.{◌++◌}
use Rattle.std.specs.Fmt.{decimal}
use Rattle.recorded_run.proofs.Lines.{put}
use Rattle.recorded_run.proofs.texts.push_last.Goals as goal

pub returns-in_ok-extend_from_slice-in-Some-3 : goal.returns-in_ok-extend_from_slice-in-Some-3
returns-in_ok-extend_from_slice-in-Some-3 c =
    rw c.in-Some.is
    (put c.args.out.now.items c.extend_from_slice.new.self.items _ _ _ c.in_ok-extend_from_slice-in-Some.ensures.items
    (put c.extend_from_slice.new.self.items c.push_decimal.new.out.items _ _ _ (c.in_ok-push_decimal-in-Some.ensures
    ∙ ap (λ (k : ℕ). c.extend_from_slice.new.self.items ++ decimal k) c.from.ensures)
    (put c.push_decimal.new.out.items c.extend_from_slice-in-Some.new.self.items _ _ _ c.in_ok-extend_from_slice-in-Some-2.ensures.items
    (put c.extend_from_slice-in-Some.new.self.items c.push_decimal-in-Some.new.out.items _ _ _ c.in_ok-push_decimal-in-Some-2.ensures c.in_ok-extend_from_slice-in-Some-3.ensures.items))))

pub returns-in_ok-extend_from_slice-in-None : goal.returns-in_ok-extend_from_slice-in-None
returns-in_ok-extend_from_slice-in-None c = rw c.in-None.is c.in_ok-extend_from_slice-in-None.ensures.items
