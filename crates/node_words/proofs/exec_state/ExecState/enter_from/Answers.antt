use Rattle.std.proofs.Common.{◌≡◌, ◌-◌, ◌/◌, sym, arith, rules, refl}
use Rattle.node_words.specs.Address.{word_address}
use Rattle.node_words.proofs.StepLemmas.{call_follows, new_address}
use Rattle.node_words.specs.declared.exec_state.ExecState.{ExecState}
use Rattle.node_words.proofs.UndoLogLemmas.{undoable_mild}
use Rattle.node_words.proofs.exec_state.ExecState.enter_from.Goals as goal

pub returns-clause-steps : goal.returns-clause-steps
returns-clause-steps c at =
    let image = c.args.image.now in
    let b = c.args.self.now in
    let new = c.in_ok-new.new in
    let k = (new - 2684354560) / 4 in
    let is = new_address image c.args.original new (sym c.in_ok-new.ensures.value) in
    let same : word_address k ≡ new = omega (arith, is.1) in
    call_follows image b.lane b.local _ at c.args.place c.args.rd c.args.original new k (search rules) (sym c.in_ok-new.ensures.value) same c.set.ensures

pub returns-clause-undoable : goal.returns-clause-undoable
returns-clause-undoable c =
    let b = c.args.self.now in
    let b' : ExecState = record b { lane = record b.lane { registers = c.set.new.self } } in
    undoable_mild b b' refl refl refl refl
