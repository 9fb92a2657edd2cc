use Rattle.std.proofs.Common.{ℕ, ap, ◌∙◌}
use Rattle.std.specs.Prelude.{◌++◌}
use Rattle.std.specs.Fmt.{decimal}
use Rattle.recorded_run.proofs.Lines.{put}
use Rattle.recorded_run.proofs.nodes.push_wait.Goals as goal

pub returns : goal.returns
returns c =
    put c.args.out.now.items c.extend_from_slice.new.self.items _ _ _ c.in_ok-extend_from_slice.ensures.items
    (put c.extend_from_slice.new.self.items c.push_decimal.new.out.items _ _ _ (c.in_ok-push_decimal.ensures
    ∙ ap (λ (k : ℕ). c.extend_from_slice.new.self.items ++ decimal k) c.from.ensures)
    (put c.push_decimal.new.out.items c.extend_from_slice-2.new.self.items _ _ _ (c.in_ok-extend_from_slice-2.ensures.items
    ∙ ap (λ x. c.push_decimal.new.out.items ++ x) c.need_name.ensures)
    (put c.extend_from_slice-2.new.self.items c.extend_from_slice-3.new.self.items _ _ _ c.in_ok-extend_from_slice-3.ensures.items
    (put c.extend_from_slice-3.new.self.items c.extend_from_slice-4.new.self.items _ _ _ (c.in_ok-extend_from_slice-4.ensures.items
    ∙ ap (λ x. c.extend_from_slice-3.new.self.items ++ x) c.state_name.ensures)
    (put c.extend_from_slice-4.new.self.items c.extend_from_slice-5.new.self.items _ _ _ c.in_ok-extend_from_slice-5.ensures.items
    (put c.extend_from_slice-5.new.self.items c.push_decimal-2.new.out.items _ _ _ (c.in_ok-push_decimal-2.ensures
    ∙ ap (λ (k : ℕ). c.extend_from_slice-5.new.self.items ++ decimal k) c.from-2.ensures)
    (put c.push_decimal-2.new.out.items c.push_due.new.out.items _ _ _ c.in_ok-push_due.ensures c.in_ok-extend_from_slice-6.ensures.items)))))))
