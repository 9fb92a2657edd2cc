use Rattle.std.proofs.Common.{◌≡◌, suc, ◌+◌, ◌++◌, ◌∷◌, [], sym, ap, ◌∙◌, append_assoc, arith}
use Rattle.std.proofs.lemmas.List.{append-nil}
use Rattle.exec_map.specs.Contents.{first_bytes, first_byte}
use Rattle.exec_map.proofs.FirstBytes.{first_bytes-none, first_bytes-more}
use Rattle.exec_map.proofs.Program.push_bytes0.Goals as goal

pub loop-place-init : goal.loop-place-init
loop-place-init c = sym (ap (λ bs. c.args.out.now.items ++ bs) (first_bytes-none c.args.self.now c.args.address) ∙ append-nil c.args.out.now.items)

pub loop-place-preserved : goal.loop-place-preserved
loop-place-preserved c =
    let e = c.args.self.now in
    let a = c.args.address in
    let n = c.loop-place.place in
    let same : suc n ≡ n + 1 = omega arith in
    c.in_ok-push.ensures.items
    ∙ ap (λ bs. bs ++ c.byte0.result ∷ []) c.loop-place.invariant
    ∙ ap (λ b. (c.args.out.now.items ++ first_bytes e a n) ++ b ∷ []) c.byte0.ensures
    ∙ append_assoc c.args.out.now.items (first_bytes e a n) (first_byte e (a + n) ∷ [])
    ∙ ap (λ bs. c.args.out.now.items ++ bs) (sym (first_bytes-more e a n) ∙ ap (first_bytes e a) same)

pub returns-clause-ok : goal.returns-clause-ok
returns-clause-ok c =
    let end : c.loop-place.place ≡ c.args.count = omega arith in
    c.loop-place.invariant ∙ ap (λ n. c.args.out.now.items ++ first_bytes c.args.self.now c.args.address n) end
