use Rattle.std.proofs.Common.{◌≡◌, true, false, refl, sym, ap, subst, ◌∙◌}
use Rattle.std.specs.Prelude.{IfOk}
use Rattle.debugged_run.specs.Seen.{has_ended}
use Rattle.debugged_run.specs.gdb_session.declared.target.Doing.TheVariants.{Exited, Stopped}
use Rattle.recorded_run.specs.Shown.{Recorded}
use Rattle.recorded_run.specs.Tells.{DoesUnless, is_at_end}
use Rattle.recorded_run.proofs.run.RecordedRunTarget.doing.Goals as goal

pub returns-then-has_ended-clause-does : goal.returns-then-has_ended-clause-does
returns-then-has_ended-clause-does c =
    let s = c.args.self.now in
    let p = c.args.processor in
    let ended : has_ended s.stand p ≡ true =
    sym (ap (λ (r : Recorded). has_ended r.stand p) c.self.view_is) ∙ sym c.has_ended.ensures ∙ c.if-has_ended.true in
    subst (λ b. DoesUnless b (is_at_end s) s p Exited) (sym ended) refl

pub returns-then-is_at_end-clause-does : goal.returns-then-is_at_end-clause-does
returns-then-is_at_end-clause-does c =
    let s = c.args.self.now in
    let p = c.args.processor in
    let runs : has_ended s.stand p ≡ false =
    sym (ap (λ (r : Recorded). has_ended r.stand p) c.self.view_is) ∙ sym c.has_ended.ensures ∙ c.if-has_ended.false in
    let end : is_at_end s ≡ true = sym c.is_at_end.ensures ∙ c.if-is_at_end.true in
    subst (λ b. DoesUnless b (is_at_end s) s p Stopped) (sym runs)
    (subst (λ b. DoesUnless false b s p Stopped) (sym end) refl)

pub returns-clause-does : goal.returns-clause-does
returns-clause-does c =
    let s = c.args.self.now in
    let p = c.args.processor in
    let runs : has_ended s.stand p ≡ false =
    sym (ap (λ (r : Recorded). has_ended r.stand p) c.self.view_is) ∙ sym c.has_ended.ensures ∙ c.if-has_ended.false in
    let before : is_at_end s ≡ false = sym c.is_at_end.ensures ∙ c.if-is_at_end.false in
    subst (λ b. IfOk c.doing_of_node.result (DoesUnless b (is_at_end s) s p)) (sym runs)
    (subst (λ b. IfOk c.doing_of_node.result (DoesUnless false b s p)) (sym before) c.doing_of_node.ensures.does)
