use Rattle.std.proofs.Common.{◌≡◌, ◌∙◌, ◌+◌, ◌-◌, ◌++◌, ap, arith, length, replicate, vec_len}
use Rattle.std.proofs.lemmas.List.{take_all}
use Rattle.std.proofs.lemmas.Bool.{eq-eqb, ne_eqb}
use Rattle.elf32_read.proofs.NameEndsLemmas.{ends_more, ends_skip, ends_whole}
use Rattle.elf32_read.proofs.contents.name_ends.Goals as goal
use Rattle.elf32_read.proofs.contents.name_ends.Goals.{then-names-index-eq0+in_ok-resize, else-names-index-eq0}

pub loop-index-preserved : goal.loop-index-preserved
loop-index-preserved c =
    let names = c.args.names.now in
    let n = c.loop-index.index in
    let ends = c.loop-index.ends.items in
    elim c.if-names-index-eq0.branch [
      | then-names-index-eq0+in_ok-resize w ↦
          let count : vec_len c.loop-index.ends ≡ length ends = c.loop-index.ends.ok.0 in
          let low = c.loop-index.invariant.low in
          rw w.ends-is (ends_more names ends w.resize.new.self.items n (omega (arith, c.loop-index-test.true))
          (eq-eqb _ 0 w.if-names-index-eq0.true)
          (w.in_ok-resize.ensures.items
          ∙ ap (λ xs. xs ++ replicate (n + 1 - vec_len c.loop-index.ends) n) (take_all (n + 1) ends (omega (arith, low)))
          ∙ ap (λ k. ends ++ replicate (n + 1 - k) n) count)
          c.loop-index.invariant)
      | else-names-index-eq0 w ↦
          rw w.ends-is (ends_skip names ends n (ne_eqb _ 0 w.if-names-index-eq0.false) c.loop-index.invariant)
    ]

pub returns : goal.returns
returns c =
    ends_whole c.args.names.now c.loop-index.ends.items c.loop-index.index
    (omega (arith, c.loop-index-test.false, c.loop-index.auto.index-end)) c.loop-index.invariant
