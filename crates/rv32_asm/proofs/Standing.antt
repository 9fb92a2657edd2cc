-- Places of statements.
use Rattle.std.proofs.Common.{◌≡◌, ℕ, ◌*◌, ◌/◌, List, length, Some, ap, ◌∙◌, arith}
use denote.Ref.{Bor}
use Rattle.rv32_lines.specs.Statements.{Statement, Bytes}
use Rattle.rv32_lines.specs.Reading.{IsReadStatement}
use Rattle.rv32_lines.specs.declared.statements.Statement.TheVariants as said
use Rattle.rv32_lines.proofs.Pairs.{bytes_length}
use Rattle.rv32_asm.specs.Places.{appends}

pub bytes_append : (digits : Bor (List ℕ)) (s : Statement) → IsReadStatement (said.Bytes digits) s
    → Some (length digits.now / 2) ≡ appends s
bytes_append digits (Bytes bytes) h =
    let n : length digits.now ≡ 2 * length bytes = ap length h.0 ∙ bytes_length bytes in
    let half : length digits.now / 2 ≡ length bytes = omega (arith, n) in
    ap Some half
bytes_append digits s h = absurd h
