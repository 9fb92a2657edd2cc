-- By whether the node may execute a word.
use Rattle.std.proofs.Common.{◌≡◌, ◌≤◌, ◌^◌, true, false, sym, ap, ◌∙◌, subst, arith}
use Rattle.block_layout.specs.Layout.{Shape}
use Rattle.dsm_core.specs.node_model.Node.{standing_of}
use Rattle.dsm_core.specs.node_model.Core.{may_execute}
use Rattle.dsm_core.specs.CoreParts.{work_of, core_of}
use Rattle.timed_sim.specs.Clock.{clock_of, first_to}
use Rattle.timed_sim.specs.Stored.{times_of}
use Rattle.timed_sim.specs.Stretches.{IsFrom}
use Rattle.timed_sim.proofs.Running.{spent_read}
use Rattle.timed_sim.proofs.Stretching.{from_later}
use Rattle.timed_sim.proofs.clocks.Clocks.node_free_until.Goals as goal

pub returns-then-not-may_execute : goal.returns-then-not-may_execute
returns-then-not-may_execute c =
    let p = c.args.core.now in
    let i = c.args.node in
    let at : c.standing.result ≡ standing_of (work_of p) ((core_of p).nodes i) =
    c.standing.ensures.value ∙ (λ t. standing_of (c.node.ensures.work t) (c.node.ensures.value t)) in
    let cannot : may_execute (standing_of (work_of p) ((core_of p).nodes i)) ≡ false =
    ap may_execute (sym at) ∙ sym c.may_execute.ensures ∙ c.if-not-may_execute.true in
    record {
      mail = λ may. let bad : true ≡ false = sym may ∙ cannot in absurd (cc);
      near = λ may. let bad : true ≡ false = sym may ∙ cannot in absurd (cc);
      other = λ none. subst (IsFrom c.time_of.result) c.next_of.ensures c.time_of.ensures;
    }

pub overflow_add-clock : goal.overflow_add-clock
overflow_add-clock c =
    let n = c.args.core.now.layout.nodes in
    let i = c.args.node in
    let is = spent_read n c.args.self.now i c.index.result.now c.requires.clocks c.requires.node
    c.index.ensures in
    let clock : c.clock.result ≤ 2 ^ 100 =
    subst (λ z. z ≤ 2 ^ 100) (sym (c.clock.ensures.value ∙ ap clock_of is))
    (c.requires.within.clocks i c.requires.node) in
    let most = c.requires.most in
    let more = c.from.ensures in
    omega (arith, clock, most, more)

pub returns : goal.returns
returns c =
    let p = c.args.core.now in
    let n = p.layout.nodes in
    let i = c.args.node in
    let at : c.standing.result ≡ standing_of (work_of p) ((core_of p).nodes i) =
    c.standing.ensures.value ∙ (λ t. standing_of (c.node.ensures.work t) (c.node.ensures.value t)) in
    let can : may_execute (standing_of (work_of p) ((core_of p).nodes i)) ≡ true =
    ap may_execute (sym at) ∙ sym c.may_execute.ensures ∙ c.if-not-may_execute.false in
    let nodes : c.nodes.result ≡ n =
    c.nodes.ensures.nodes ∙ ap (λ (s : Shape). s.nodes) c.layout.ensures.value in
    let first = c.first_to.ensures ∙ ap (λ k. first_to k (times_of k c.args.self.now) i) nodes in
    let is = spent_read n c.args.self.now i c.index.result.now c.requires.clocks c.requires.node
    c.index.ensures in
    let clock : c.clock.result ≡ clock_of ((times_of n c.args.self.now).spent i) =
    c.clock.ensures.value ∙ ap clock_of is in
    let most = c.requires.most in
    let more = c.from.ensures in
    let m = c.min.ensures in
    record {
      mail = λ may. from_later c.min.result c.time_of-first.result
          (first_to n (times_of n c.args.self.now) i) (omega (arith, m))
          (subst (IsFrom c.time_of-first.result) first c.time_of-first.ensures);
      near = λ may. omega (arith, m, clock, most, more);
      other = λ none. let bad : true ≡ false = sym can ∙ none in absurd (cc);
    }
