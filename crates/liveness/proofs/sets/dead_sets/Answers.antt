use Rattle.std.proofs.Common.{get_or, ap, subst, arith}
use Rattle.std.proofs.lemmas.Option.{get_or_from_slice_get, slice_get_within}
use Rattle.rv32_decode.specs.declared.Instr.{Instr}
use Rattle.liveness.specs.declared.node.FlowNode.{FlowNode}
use Rattle.liveness.specs.Nodes.{IsUnneeded}
use Rattle.liveness.proofs.SetLemmas.{blank, dead_more}
use Rattle.liveness.proofs.sets.dead_sets.Goals as goal

pub loop-k-preserved : goal.loop-k-preserved
loop-k-preserved c =
    let k = c.loop-k.k in
    let sets = c.args.sets.now in
    let set = c.unneeded.result in
    let inv = c.loop-k.invariant in
    let word = c.index-words-k.result in
    let added = c.in_ok-push.ensures.items in
    let len = c.in_ok-push.ensures.len in
    let count = inv.count in
    record {
      count = omega (arith, len, count);
      each = dead_more c.args.words.now c.args.nodes.now sets c.loop-k.dead.items c.push.new.self.items k set inv.count added inv.each
          (λ w node at found.
          let is = get_or_from_slice_get c.args.words.now k w word at in
          let I : Instr → Type 0 = λ i. IsUnneeded i node sets set in
          let N : FlowNode → Type 0 = λ n. IsUnneeded (get_or c.args.words.now k word).instruction n sets set in
          subst I (ap (λ v. v.instruction) is) (subst N (get_or_from_slice_get c.args.nodes.now k node blank found) c.unneeded.ensures.value));
    }

pub returns-clause-each : goal.returns-clause-each
returns-clause-each c k w node at found =
    let within = slice_get_within c.args.words.now k w at in
    let done = c.loop-k-test.false in
    c.loop-k.invariant.each k w node (omega (arith, within, done)) at found
