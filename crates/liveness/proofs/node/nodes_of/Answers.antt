use Rattle.std.proofs.Common.{◌∙◌, length, sym, ap, arith}
use Rattle.std.proofs.lemmas.Option.{get_or_from_slice_get, slice_get_within}
use Rattle.std.specs.Prelude.{slice_index_or}
use Rattle.liveness.proofs.SetLemmas.{nodes_more}
use Rattle.liveness.proofs.node.nodes_of.Goals as goal

pub loop-k-preserved : goal.loop-k-preserved
loop-k-preserved c =
    let k = c.loop-k.k in
    let words = c.args.graph.now in
    let inv = c.loop-k.invariant in
    let word = c.index-words-k.result in
    let len = c.in_ok-push.ensures.len in
    let count = inv.count in
    let whole = c.words-words.ensures.value ∙ c.code.ensures.value in
    record {
      count = omega (arith, len, count);
      each = nodes_more words c.loop-k.nodes.items c.push.new.self.items k c.node_of.result inv.count c.in_ok-push.ensures.items inv.each
          (λ w at.
          let is = ap (λ ws. slice_index_or ws k word) whole ∙ get_or_from_slice_get words k w word at in
          c.node_of.ensures.value words w (sym (ap (λ v. v.instruction) is)) (c.edges.ensures.value w at));
    }

pub returns : goal.returns
returns c =
    let count = c.loop-k.invariant.count in
    let whole = ap (λ ws. length ws) (c.words-words.ensures.value ∙ c.code.ensures.value) in
    let done = c.loop-k-test.false in
    record {
      value = record {
        count = omega (arith, count, whole, done);
        each = λ k w node at found.
            let within = slice_get_within c.args.graph.now k w at in
            c.loop-k.invariant.each k w node (omega (arith, within, whole, done)) at found;
      };
    }
