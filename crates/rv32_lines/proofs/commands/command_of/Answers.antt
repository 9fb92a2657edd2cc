use Rattle.std.proofs.Common.{◌≡◌, ◌++◌, [], None, Some, sym, ◌∙◌, inl, inr}
use Rattle.std.specs.Prelude.{codes}
use Rattle.rv32_lines.specs.Reading.{mnemonic_in, operands_in}
use Rattle.rv32_lines.proofs.Forms.{either_form, split_with, split_without, name_is, says_with, says_without, nothing_left}
use Rattle.rv32_lines.proofs.commands.command_of.Goals as goal

pub returns-in_err-mnemonic-clause-only : goal.returns-in_err-mnemonic-clause-only
returns-in_err-mnemonic-clause-only c = λ w s.
    let p = c.split_word.ensures in
    let t : None ≡ Some (mnemonic_in w) = c.in_err-mnemonic.ensures.only (mnemonic_in w)
    (name_is c.args.line.now c.split_word.result.0.now c.split_word.result.1.now w p.parts p.marks p.ends s) in
    absurd (cc)

pub returns-in-Some-clause-some : goal.returns-in-Some-clause-some
returns-in-Some-clause-some c =
    says_with c.args.line.now c.split_word.result.0.now c.split_word.result.1.now c.in-Some.operands.now
    c.in_ok-mnemonic.mnemonic c.with_operands.result c.split_word.ensures.parts c.in-Some.ensures.some
    c.in_ok-mnemonic.ensures.some c.with_operands.ensures.some

pub returns-in-Some-clause-only : goal.returns-in-Some-clause-only
returns-in-Some-clause-only c = λ w s.
    let p = c.split_word.ensures in
    let name = name_is c.args.line.now c.split_word.result.0.now c.split_word.result.1.now w p.parts p.marks p.ends s in
    let t : Some c.in_ok-mnemonic.mnemonic ≡ Some (mnemonic_in w) =
    c.in_ok-mnemonic.ensures.only (mnemonic_in w) name in
    let m : mnemonic_in w ≡ c.in_ok-mnemonic.mnemonic = cc in
    elim (either_form w) [
      | inl o ↦
          let parts = split_with c.args.line.now c.split_word.result.0.now c.split_word.result.1.now w p.parts p.marks
          p.ends s o in
          c.with_operands.ensures.only w s.written o m (c.in-Some.ensures.only (operands_in w) parts.1)
      | inr o ↦
          let parts = split_without c.args.line.now c.split_word.result.0.now c.split_word.result.1.now w p.parts
          p.marks p.ends s o in
          let bad : codes " " ++ c.in-Some.operands.now ≡ [] = sym c.in-Some.ensures.some ∙ parts.1 in
          absurd (cc)
    ]

pub returns-in-None-clause-some : goal.returns-in-None-clause-some
returns-in-None-clause-some c =
    says_without c.args.line.now c.split_word.result.0.now c.split_word.result.1.now c.in_ok-mnemonic.mnemonic
    c.without_operands.result c.split_word.ensures.parts
    (nothing_left c.split_word.result.1.now c.split_word.ensures.ends c.in-None.ensures.only)
    c.in_ok-mnemonic.ensures.some c.without_operands.ensures.some

pub returns-in-None-clause-only : goal.returns-in-None-clause-only
returns-in-None-clause-only c = λ w s.
    let p = c.split_word.ensures in
    let name = name_is c.args.line.now c.split_word.result.0.now c.split_word.result.1.now w p.parts p.marks p.ends s in
    let t : Some c.in_ok-mnemonic.mnemonic ≡ Some (mnemonic_in w) =
    c.in_ok-mnemonic.ensures.only (mnemonic_in w) name in
    let m : mnemonic_in w ≡ c.in_ok-mnemonic.mnemonic = cc in
    elim (either_form w) [
      | inl o ↦
          let parts = split_with c.args.line.now c.split_word.result.0.now c.split_word.result.1.now w p.parts p.marks
          p.ends s o in
          absurd (c.in-None.ensures.only (operands_in w) parts.1)
      | inr o ↦ c.without_operands.ensures.only w s.written o m
    ]
