use Rattle.std.proofs.Common.{Bool, ◌≤◌, ◌^◌, sym, subst, ◌∙◌, inl, inr}
use Rattle.std.specs.Prelude.{MatchBool, IsSomeAnd}
use Rattle.rv32_asm.specs.Standing.{TellsEntry}
use Rattle.rv32_asm.proofs.Naming.{entry_high, entry_low, entry_known, unnamed, named_known}
use Rattle.rv32_asm.proofs.rules.broken_entry.Goals as goal

pub returns-in-None : goal.returns-in-None
returns-in-None c = λ all before l told.
    let u = unnamed all c.args.labels.now c.args.name.now l (sym c.in-None.is ∙ c.find.ensures) in
    ((λ n. named_known all c.args.name.now n.0 n.1 u), inl u)

pub returns-then-is_high : goal.returns-then-is_high
returns-then-is_high c = λ all before l told.
    entry_high all c.args.labels.now c.args.name.now c.in-Some.label l (sym c.in-Some.is ∙ c.find.ensures)
    (subst (λ (b : Bool). MatchBool b (IsSomeAnd c.in-Some.label.address (λ a. 2 ^ 32 ≤ a))
    (IsSomeAnd c.in-Some.label.address (λ a. 2 ^ 32 ≤ a) → ⊥)) c.if-is_high.true c.is_high.ensures)

pub returns-then-has_entry : goal.returns-then-has_entry
returns-then-has_entry c = λ all before l told.
    let low = subst (λ (b : Bool). MatchBool b (IsSomeAnd c.in-Some.label.address (λ a. 2 ^ 32 ≤ a))
    (IsSomeAnd c.in-Some.label.address (λ a. 2 ^ 32 ≤ a) → ⊥)) c.if-is_high.false c.is_high.ensures in (
      entry_low all c.args.labels.now c.args.name.now c.in-Some.label l (sym c.in-Some.is ∙ c.find.ensures) low,
      inr
          (subst (TellsEntry before) c.if-has_entry.true told),
    )

pub returns-else-has_entry : goal.returns-else-has_entry
returns-else-has_entry c = λ all before l told.
    let low = subst (λ (b : Bool). MatchBool b (IsSomeAnd c.in-Some.label.address (λ a. 2 ^ 32 ≤ a))
    (IsSomeAnd c.in-Some.label.address (λ a. 2 ^ 32 ≤ a) → ⊥)) c.if-is_high.false c.is_high.ensures in
    let is = sym c.in-Some.is ∙ c.find.ensures in
    let other = subst (TellsEntry before) c.if-has_entry.false told in (
      entry_low all c.args.labels.now c.args.name.now c.in-Some.label l is low,
      λ e. elim e [
        | inl u ↦ entry_known all c.args.labels.now c.args.name.now c.in-Some.label l is u
        | inr n ↦ other n.0
            n.1
      ],
    )
