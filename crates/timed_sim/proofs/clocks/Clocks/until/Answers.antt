-- One node more is idle until the last clock, above which none is.
use Rattle.std.proofs.Common.{◌≡◌, ℕ, ◌≤◌, [], ◌∷◌, ◌++◌, length, sym, ap, ◌∙◌, subst, arith, length-append}
use Rattle.std.proofs.lemmas.List.FromFn.{map-range_with_len_more}
use Rattle.timed_sim.specs.declared.costs.Spent.{Spent}
use Rattle.timed_sim.specs.Clock.{clock_of, idle_until, last_clock}
use Rattle.timed_sim.specs.Stored.{times_of}
use Rattle.timed_sim.proofs.Running.{last_high, spent_read}
use Rattle.timed_sim.proofs.clocks.Clocks.until.Goals as goal

pub idle_until-requires : goal.idle_until-requires
idle_until-requires c =
    let n = c.args.count in
    let k = c.args.self.now in
    let i = c.loop-node.node in
    let low = c.loop-node-test.true in
    let is = spent_read n k i c.index.result.now c.requires.clocks low c.index.ensures in
    record {
      time = subst (λ z. clock_of c.index.result.now ≤ z) (sym c.requires.last)
          (subst (λ (s : Spent). clock_of s ≤ last_clock n (times_of n k).spent) (sym is)
          (last_high n i (times_of n k).spent low));
    }

pub loop-node-preserved : goal.loop-node-preserved
loop-node-preserved c =
    let n = c.args.count in
    let k = c.args.self.now in
    let l = c.loop-node in
    let more = c.push_reserved.ensures in
    let idle : ℕ → Spent = λ j. idle_until c.args.last ((times_of n k).spent j) in
    let is = spent_read n k l.node c.index.result.now c.requires.clocks c.loop-node-test.true c.index.ensures in
    let one : c.idle_until.result ≡ idle l.node =
    c.idle_until.ensures.value ∙ ap (idle_until c.args.last) is in
    record {
      all = more.items ∙ (λ t. l.invariant.all t ++ one t ∷ [])
          ∙ sym (map-range_with_len_more idle 0 l.node l.node (omega arith));
      many = omega (
        arith,
        ap length more.items,
        length-append l.all.items (c.idle_until.result ∷ []),
        l.invariant.many,
      );
      room = omega (arith, more.capacity, l.invariant.room);
    }
