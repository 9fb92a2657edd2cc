use Rattle.std.proofs.Common.{◌≡◌, Bool, subst}
use Rattle.std.specs.Prelude.{MatchBool}
use Rattle.rv32_lines.specs.Statements.{Unread}
use Rattle.rv32_asm.proofs.Judging.{names_lowest}
use Rattle.rv32_asm.proofs.rules.broken_rule.Goals as goal

pub returns-in-Some : goal.returns-in-Some
returns-in-Some c = λ all before s l.
    names_lowest all before s c.in-Some.rule (subst (λ (b : Bool). MatchBool b (s ≡ Unread) (s ≡ Unread
    → ⊥)) c.if-is_unread.false (c.is_unread.ensures s l.read_so))
    (c.in-Some.ensures all before s l)
