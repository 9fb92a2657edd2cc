use Rattle.std.proofs.Common.{ℕ, ap, ◌∙◌}
use Rattle.std.specs.Prelude.{◌++◌}
use Rattle.std.specs.Fmt.{decimal}
use Rattle.recorded_run.proofs.Lines.{put}
use Rattle.recorded_run.proofs.nodes.push_node_line.Goals as goal

pub returns : goal.returns
returns c =
    put c.args.out.now.items c.extend_from_slice.new.self.items _ _ _ c.in_ok-extend_from_slice.ensures.items
    (put c.extend_from_slice.new.self.items c.push_decimal.new.out.items _ _ _ (c.in_ok-push_decimal.ensures
    ∙ ap (λ (k : ℕ). c.extend_from_slice.new.self.items ++ decimal k) c.from.ensures)
    (put c.push_decimal.new.out.items c.extend_from_slice-2.new.self.items _ _ _ c.in_ok-extend_from_slice-2.ensures.items
    (put c.extend_from_slice-2.new.self.items c.push_decimal-2.new.out.items _ _ _ c.in_ok-push_decimal-2.ensures
    (put c.push_decimal-2.new.out.items c.extend_from_slice-3.new.self.items _ _ _ c.in_ok-extend_from_slice-3.ensures.items
    (put c.extend_from_slice-3.new.self.items c.extend_from_slice-4.new.self.items _ _ _ (c.in_ok-extend_from_slice-4.ensures.items
    ∙ ap (λ x. c.extend_from_slice-3.new.self.items ++ x) c.standing_name.ensures)
    c.in_ok-extend_from_slice-5.ensures.items)))))
