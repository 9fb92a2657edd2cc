use Rattle.std.proofs.Common.{◌++◌, ◌∷◌, [], ◌/◌, ◌%◌, ◌^◌, ◌<◌, ◌≤◌, false, ap, sym, ◌∙◌, arith}
use Rattle.std.proofs.lemmas.List.{append_assoc}
use Rattle.std.specs.Fmt.{digits, digit_glyph}
use Rattle.block_view.proofs.Hexadecimal.{one_digit, last_digit}
use Rattle.block_view.proofs.names.+push_hexadecimal.Goals as goal
use Rattle.block_view.proofs.names.+push_hexadecimal.Goals.{then-n-ge16+in_ok-push_hexadecimal, else-n-ge16}

pub returns : goal.returns
returns t c =
    let old = c.args.out.now.items in
    let n = c.args.n in
    let d = c.digit.result in
    elim c.if-n-ge16.branch [
      | then-n-ge16+in_ok-push_hexadecimal w ↦
          let large : 16 ≤ n = omega (arith, w.if-n-ge16.true) in
          let small : n < 2 ^ 32 = omega (arith, c.ranges.n.fits) in
          c.in_ok-push.ensures.items ∙ (λ s. (w.out-is s).items ++ d ∷ [])
          ∙ ap (λ o. o ++ d ∷ []) w.in_ok-push_hexadecimal.ensures
          ∙ ap (λ x. (old ++ digits 16 false (n / 16)) ++ x ∷ []) c.digit.ensures
          ∙ append_assoc old (digits 16 false (n / 16)) (digit_glyph false (n % 16) ∷ [])
          ∙ ap (λ x. old ++ x) (sym (last_digit n large small))
      | else-n-ge16 w ↦
          let small : n < 16 = omega (arith, w.if-n-ge16.false) in
          c.in_ok-push.ensures.items ∙ (λ s. (w.out-is s).items ++ d ∷ [])
          ∙ ap (λ x. old ++ x ∷ []) c.digit.ensures ∙ ap (λ x. old ++ x) (sym (one_digit n small))
    ]
