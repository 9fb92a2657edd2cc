use Rattle.std.proofs.lemmas.Option.{slice_get_within}
use Rattle.std.proofs.Common.{◌≡◌, ℕ, ◌+◌, ◌*◌, ◌/◌, Bool, true, false, Some, subst, refl, arith}
use Rattle.node_memory.specs.rv32_step.Registers.{registers_of}
use Rattle.node_memory.specs.micro_op.declared.micro_op.MicroOp.{MicroOp}
use Rattle.node_memory.specs.micro_op.Micro.{Enters, sum_address}
use Rattle.node_words.specs.declared.exec_state.ExecState.{ExecState}
use Rattle.node_words.specs.declared.strides.Going.{Going}
use Rattle.node_words.specs.Kept.{StepsTo}
use Rattle.node_words.specs.Strides.{IsTried, StridesBy, straight}
use Rattle.node_words.proofs.ReachLemmas.{Code, code_of}
use Rattle.node_words.proofs.StrideLemmas.{as_many}
use Rattle.node_words.proofs.AlongLemmas.{strides_straight}
use Rattle.node_words.proofs.WholeLemmas.{found_at, poll_enter_goes}
use Rattle.node_words.proofs.exec_state.ExecState.poll_enter.Goals as goal

pub returns : goal.returns
returns c = record { tried = by c.enter.result refl; inside = c.enter.ensures.inside }
  where
    b : ExecState
    b = c.args.self.now

    from : Going
    from = c.args.going.now

    to : Going
    to = c.enter.new.going

    code : Code
    code = code_of b c.args.image.now c.args.micros.now c.requires.few c.requires.micros

    entry : c.index-micros-going.result ≡ c.requires.there.entry
    entry = found_at c.args.micros.now (from.at + 1) _ c.requires.there.entry c.index-micros-going.is c.requires.there.there

    enters : MicroOp → ℕ → Type 0
    enters m k =
        StepsTo c.args.image.now (Enters (sum_address m (registers_of b.lane.registers) / 2 * 2)) k b.lane b.local b.lane
        b.local (Some to.at)

    by : (r : Bool) → c.enter.result ≡ r → IsTried r (StridesBy c.args.image.now (straight 2) from b to b) from b to b
    by true is =
        let many = as_many c.args.image.now c.args.micros.now c.requires.micros in
        let inside = slice_get_within c.args.micros.now (from.at + 1) c.requires.there.entry c.requires.there.there in
        strides_straight c.args.image.now 2 2 2 from to b b (c.enter.ensures.left is) (omega arith) (omega arith)
        (omega arith) (omega (arith, inside, many)) (c.enter.ensures.low is) (poll_enter_goes code from.at to.at b refl c.requires.poll c.requires.there
        (λ k. subst (λ (m : MicroOp). enters m k) entry (c.enter.ensures.steps is k)))
    by false is = record { place = c.enter.ensures.none is; lane = refl; local = refl }
