use Rattle.std.proofs.Common.{◌≡◌, ◌∙◌, Some, None, ap, arith, length, sym}
use Rattle.command_line.specs.declared.table.Role.TheVariants as role
use Rattle.command_line.proofs.Rows.{given_raw}
use Rattle.command_line.proofs.Triples.{are_three, no_triple, three_some, was_empty}
use Rattle.command_line.proofs.parsing.three_operands_in.Goals as goal
use Rattle.command_line.proofs.parsing.three_operands_in.Goals.{else-is_empty, else-is_empty-2, then-is_empty, then-is_empty-2}

pub returns-in_err-words : goal.returns-in_err-words
returns-in_err-words c =
    let none = given_raw c.args.matches.now role.Operand c.id.result.now None c.id.ensures c.in_err-words.ensures in
    rw c.from_residual.ensures (λ f g h e.
    let long = ap length (sym none ∙ e.0) in omega (arith, long))

pub returns-then-is_empty-3 : goal.returns-then-is_empty-3
returns-then-is_empty-3 c = λ f g h k.
    let s = three_some _ c.in_ok-words.words.now _
    (given_raw c.args.matches.now role.Operand c.id.result.now (Some c.in_ok-words.words) c.id.ensures
    c.in_ok-words.ensures) (omega (arith, c.in-len3.len_at_least, c.in-len3.len_below)) f g h k in
    elim c.if-is_empty-2.branch [
      | then-is_empty-2 w ↦ elim c.if-is_empty.branch [
        | then-is_empty u ↦ was_empty _ _ c.is_empty.ensures u.if-is_empty.true s.0
        | else-is_empty u ↦ was_empty _ _ u.is_empty-else-is_empty.ensures
            (sym u.value-is ∙ w.if-is_empty-2.true) s.1
      ]
      | else-is_empty-2 w ↦ was_empty _ _ w.is_empty-else-is_empty-2.ensures
          (sym w.value-is ∙ c.if-is_empty-3.true) s.2
    ]

pub returns-else-is_empty-3 : goal.returns-else-is_empty-3
returns-else-is_empty-3 c =
    let given = given_raw c.args.matches.now role.Operand c.id.result.now (Some c.in_ok-words.words)
    c.id.ensures c.in_ok-words.ensures in
    let three : length c.in_ok-words.words.now ≡ 3 =
    omega (arith, c.in-len3.len_at_least, c.in-len3.len_below) in
    elim c.if-is_empty-2.branch [
      | then-is_empty-2 w ↦ absurd (cc (w.value-is, c.if-is_empty-3.false))
      | else-is_empty-2 w ↦ elim c.if-is_empty.branch [
        | then-is_empty u ↦ absurd (cc (u.value-is, w.if-is_empty-2.false))
        | else-is_empty u ↦ are_three _ c.in_ok-words.words.now _ given three _ _ _
            c.is_empty.ensures u.if-is_empty.false u.is_empty-else-is_empty.ensures
            (sym u.value-is ∙ w.if-is_empty-2.false) w.is_empty-else-is_empty-2.ensures
            (sym w.value-is ∙ c.if-is_empty-3.false)
      ]
    ]

pub returns-in-empty : goal.returns-in-empty
returns-in-empty c =
    no_triple _ c.in_ok-words.words.now
    (given_raw c.args.matches.now role.Operand c.id.result.now (Some c.in_ok-words.words) c.id.ensures
    c.in_ok-words.ensures) (λ e. omega (arith, e, c.in-empty.len_below))

pub returns-in-len1 : goal.returns-in-len1
returns-in-len1 c =
    no_triple _ c.in_ok-words.words.now
    (given_raw c.args.matches.now role.Operand c.id.result.now (Some c.in_ok-words.words) c.id.ensures
    c.in_ok-words.ensures) (λ e. omega (arith, e, c.in-len1.len_below))

pub returns-in-len2 : goal.returns-in-len2
returns-in-len2 c =
    no_triple _ c.in_ok-words.words.now
    (given_raw c.args.matches.now role.Operand c.id.result.now (Some c.in_ok-words.words) c.id.ensures
    c.in_ok-words.ensures) (λ e. omega (arith, e, c.in-len2.len_below))

pub returns-in_default : goal.returns-in_default
returns-in_default c =
    no_triple _ c.in_ok-words.words.now
    (given_raw c.args.matches.now role.Operand c.id.result.now (Some c.in_ok-words.words) c.id.ensures
    c.in_ok-words.ensures) (λ e. omega (arith, e, c.in_default.len_at_least))
