use Rattle.std.proofs.Common.{ℕ, ap, ◌∙◌}
use Rattle.std.specs.Prelude.{◌++◌}
use Rattle.std.specs.Fmt.{decimal}
use Rattle.recorded_run.proofs.Lines.{put}
use Rattle.recorded_run.proofs.nodes.push_busy.Goals as goal

pub returns-in_ok-extend_from_slice-2 : goal.returns-in_ok-extend_from_slice-2
returns-in_ok-extend_from_slice-2 c =
    rw c.in-Some.is
    (put c.args.out.now.items c.extend_from_slice.new.self.items _ _ _ c.in_ok-extend_from_slice.ensures.items
    (put c.extend_from_slice.new.self.items c.push_decimal.new.out.items _ _ _ (c.in_ok-push_decimal.ensures
    ∙ ap (λ (k : ℕ). c.extend_from_slice.new.self.items ++ decimal k) c.from.ensures)
    (c.in_ok-extend_from_slice-2.ensures.items
    ∙ ap (λ x. c.push_decimal.new.out.items ++ x) c.need_name.ensures)))
