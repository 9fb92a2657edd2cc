use Rattle.std.proofs.Common.{◌≡◌, ℕ, ◌+◌, ◌-◌, ◌∙◌, subst, arith}
use Rattle.one_memory.specs.Turns.{Turns}
use Rattle.one_memory.proofs.TurnLemmas.{no_exit, turns_and_one, turns_both}
use Rattle.one_memory.proofs.processor.Processor.run.Goals as goal

pub returns-then-is_some-clause-turns : goal.returns-then-is_some-clause-turns
returns-then-is_some-clause-turns c =
    let p = c.args.p in
    let most = c.args.most in
    let m = c.args.memory.now in
    let k = c.args.self.now in
    let l = c.loop-left in
    let i = l.invariant in
    let r = c.run_served-left in
    let s = c.step_apart in
    let count : most - l.left + r.result + 1 ≡ most - (l.left - r.result - 1) = omega (arith, i.few, r.ensures.most, c.if-left-gt0.true) in
    subst (λ (n : ℕ). Turns p n m k s.new.memory s.new.self) count
    (turns_and_one p (most - l.left) r.result m l.memory r.new.memory s.new.memory k l.self r.new.self s.new.self
    (record { program = i.program; layout = i.layout }) (record { program = r.ensures.program; layout = r.ensures.layout })
    r.ensures.runs i.turns r.ensures.turns c.in_ok-step_apart.ensures.ok)

pub loop-left-preserved-else-is_some : goal.loop-left-preserved-else-is_some
loop-left-preserved-else-is_some c =
    let p = c.args.p in
    let most = c.args.most in
    let m = c.args.memory.now in
    let k = c.args.self.now in
    let l = c.loop-left in
    let i = l.invariant in
    let r = c.run_served-left in
    let s = c.step_apart in
    let count : most - l.left + r.result + 1 ≡ most - (l.left - r.result - 1) = omega (arith, i.few, r.ensures.most, c.if-left-gt0.true) in
    record {
      turns = subst (λ (n : ℕ). Turns p n m k s.new.memory s.new.self) count
          (turns_and_one p (most - l.left) r.result m l.memory r.new.memory s.new.memory k l.self r.new.self s.new.self
          (record { program = i.program; layout = i.layout }) (record { program = r.ensures.program; layout = r.ensures.layout })
          r.ensures.runs i.turns r.ensures.turns c.in_ok-step_apart.ensures.ok);
      exit = no_exit s.new.self.exit c.is_some.result c.is_some.ensures c.if-is_some.false;
      few = omega (arith, i.few);
      program = s.ensures.program ∙ r.ensures.program ∙ i.program;
      layout = s.ensures.layout ∙ r.ensures.layout ∙ i.layout;
    }

pub loop-left-preserved : goal.loop-left-preserved
loop-left-preserved c =
    let p = c.args.p in
    let most = c.args.most in
    let m = c.args.memory.now in
    let k = c.args.self.now in
    let l = c.loop-left in
    let i = l.invariant in
    let r = c.run_served-left in
    let count : most - l.left + r.result ≡ most - (l.left - r.result) = omega (arith, i.few, r.ensures.most) in
    record {
      turns = subst (λ (n : ℕ). Turns p n m k r.new.memory r.new.self) count
          (turns_both p (most - l.left) r.result m l.memory r.new.memory k l.self r.new.self
          (record { program = i.program; layout = i.layout }) i.turns r.ensures.turns);
      exit = r.ensures.runs;
      few = omega (arith, i.few);
      program = r.ensures.program ∙ i.program;
      layout = r.ensures.layout ∙ i.layout;
    }

pub returns-clause-turns : goal.returns-clause-turns
returns-clause-turns c =
    let most = c.args.most in
    let l = c.loop-left in
    let count : most - l.left ≡ most = omega (arith, c.loop-left-test.false) in
    subst (λ (n : ℕ). Turns c.args.p n c.args.memory.now c.args.self.now l.memory l.self) count l.invariant.turns
