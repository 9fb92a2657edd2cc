use Rattle.std.proofs.Common.{◌≡◌, ◌+◌, ◌*◌, ◌++◌, [], ◌∷◌, append_assoc, get_or, take, sym, ap, ◌∙◌, arith}
use Rattle.std.specs.Char.{digit_value}
use Rattle.rv32_lines.proofs.Pairs.{paired, paired_more, paired_all}
use Rattle.rv32_lines.proofs.bytes.append_bytes.Goals as goal

pub loop-place-preserved : goal.loop-place-preserved
loop-place-preserved c =
    let i = c.loop-place.place in
    let ds = c.args.digits.now in
    let value = 16 * digit_value (get_or ds i 0) + digit_value (get_or ds (i + 1) 0) in
    let pushed : c.push.new.self.items ≡ c.loop-place.out.items ++ value ∷ [] =
    c.in_ok-push.ensures.items ∙ ap (λ v. c.loop-place.out.items ++ v ∷ [])
    (ap (λ h. 16 * h + c.digit_value-low.result) c.digit_value-high.ensures.value ∙ ap
    (λ l. 16 * digit_value (get_or ds i 0) + l) c.digit_value-low.ensures.value) in
    record {
      within = omega (arith, c.loop-place-test.true);
      even = omega (arith, c.loop-place.invariant.even);
      so_far =
          pushed ∙ ap (λ t. t ++ value ∷ []) c.loop-place.invariant.so_far
          ∙ append_assoc c.args.out.now.items (paired (take i ds)) (value ∷ [])
          ∙ ap (λ t. c.args.out.now.items ++ t)
          (sym (paired_more ds i (omega (arith, c.loop-place-test.true)) c.loop-place.invariant.even));
    }

pub returns : goal.returns
returns c = λ bs e all.
    let i = c.loop-place.invariant in
    i.so_far ∙ ap (λ t. c.args.out.now.items ++ t)
    (paired_all c.args.digits.now bs c.loop-place.place e all i.within i.even
    (omega (arith, c.loop-place-test.false)))
