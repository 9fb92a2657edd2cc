-- One node more has its words.
use Rattle.std.proofs.Common.{◌≡◌, ◌<◌, ◌≤◌, length, ap, ◌∙◌, arith}
use Rattle.std.proofs.lemmas.List.{length-set}
use Rattle.block_layout.specs.Layout.{Shape}
use Rattle.dsm_core.specs.CoreParts.{work_of, core_of}
use Rattle.timed_sim.specs.Stored.{times_of}
use Rattle.timed_sim.specs.Stretches.{words_until}
use Rattle.timed_sim.proofs.Stretching.{set_on}
use Rattle.timed_sim.proofs.clocks.Clocks.words_until.Goals as goal

pub loop-node-preserved : goal.loop-node-preserved
loop-node-preserved c =
    let p = c.args.core.now in
    let l = c.loop-node in
    let end = c.nodes-node-end.ensures.nodes ∙ ap (λ (s : Shape). s.nodes) c.layout.ensures.value in
    let small : l.node < length l.words =
    omega (arith, l.invariant.len, c.loop-node-test.true, end, c.requires.nodes) in
    record {
      len = length-set l.words l.node c.node_words_until.result ∙ l.invariant.len;
      words = set_on l.words
          (λ i w. w ≡ words_until (work_of p) (times_of p.layout.nodes c.args.self.now) (core_of p) c.args.end i)
          l.node c.node_words_until.result small l.invariant.words c.node_words_until.ensures.words;
      few = set_on l.words (λ i w. w ≤ 4096) l.node c.node_words_until.result small l.invariant.few
          c.node_words_until.ensures.few;
    }
