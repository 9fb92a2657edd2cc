use Rattle.std.proofs.Common.{◌≡◌, ℕ, ◌*◌, ◌-◌, ◌/◌, ap, arith, rules, subst, sym}
use Rattle.node_memory.specs.node_model.Node.{indirect}
use Rattle.node_words.specs.Address.{word_address}
use Rattle.node_memory.specs.Shelf.{ground_of, local_of}
use Rattle.node_words.specs.Kept.{Follows, lane_of}
use Rattle.node_words.proofs.StepLemmas.{enter_follows, new_address}
use Rattle.node_words.proofs.exec_state.ExecState.enter.Goals as goal

pub returns-in-Some-clause-steps : goal.returns-in-Some-clause-steps
returns-in-Some-clause-steps c done at place =
    let image = c.args.image.now in
    let b = c.args.self.now in
    let original = c.sum_by.result / 2 * 2 in
    let new = c.in-Some.new in
    let k = (new - 2684354560) / 4 in
    let is = new_address image original new (sym c.in-Some.ensures.value) in
    let same : word_address k ≡ new = omega (arith, is.1) in
    let follows = enter_follows image b.lane b.local at place original new k (search rules) (sym c.in-Some.ensures.value) same in
    subst (λ (a : ℕ). Follows image (indirect place (lane_of b.lane (word_address at)) (local_of b.local) 0 a)
    (ground_of b.local) (word_address c.to.new.self.at) b.lane b.local) (ap (λ x. x / 2 * 2) c.sum_by.ensures)
    (subst (λ (n : ℕ). Follows image (indirect place (lane_of b.lane (word_address at)) (local_of b.local) 0 original)
    (ground_of b.local) (word_address n) b.lane b.local) (sym c.to.ensures.at) follows)

pub returns-in-Some-clause-inside : goal.returns-in-Some-clause-inside
returns-in-Some-clause-inside c done =
    let is = new_address c.args.image.now (c.sum_by.result / 2 * 2) c.in-Some.new (sym c.in-Some.ensures.value) in
    let at = c.to.ensures.at in
    omega (arith, is.1, is.2, at)
