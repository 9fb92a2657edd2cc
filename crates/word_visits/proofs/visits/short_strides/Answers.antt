-- The next stride is shortened.
use Rattle.std.proofs.Common.{◌+◌, List, subst, sym}
use Rattle.node_words.specs.jump_map.declared.strides.StrideKind.{StrideKind}
use Rattle.word_visits.proofs.TableLemmas.{AreShortened, next_shortened}
use Rattle.word_visits.proofs.visits.short_strides.Goals as goal

pub loop-kind-preserved : goal.loop-kind-preserved
loop-kind-preserved c =
    let old = c.args.kinds.now in
    let l = c.loop-kind in
    subst (λ (ks : List StrideKind). AreShortened (l.kind-index + 1) old ks) (sym {A = List StrideKind} c.in_ok-push.ensures.items)
    (next_shortened l.kind-index old l.strides.items c.short_stride.result _ c.loop-kind-test.true c.short_stride.ensures.slowed
    c.short_stride.ensures.short l.invariant)
