-- The strides up to a word are parted, one after another.
use Rattle.std.proofs.Common.{◌+◌, ◌<◌, ◌≤◌, length, sym, subst, arith}
use Rattle.word_visits.proofs.TableLemmas.{ArePartedBelow, all_parted, none_parted, parted_clear, parted_slow}
use Rattle.word_visits.proofs.visits.part_strides.Goals as goal
use Rattle.word_visits.proofs.visits.part_strides.Goals.{then-not-is_clear, else-not-is_clear, then-number-kinds, else-number-kinds}

pub loop-at-init : goal.loop-at-init
loop-at-init c =
    let from = c.saturating_sub-at.ensures in
    none_parted c.args.number c.saturating_sub-at.result c.args.kinds.now (omega (arith, from))

pub loop-at-preserved : goal.loop-at-preserved
loop-at-preserved c =
    let old = c.args.kinds.now in
    let ks = c.loop-at.kinds in
    let number = c.args.number in
    let at = c.loop-at.at in
    let are = c.loop-at.invariant in
    let count = are.slowed.count in
    let test = c.loop-at-test.true in
    let both : (at < length ks) × (at ≤ number) = elim c.if-number-kinds.branch [
      | then-number-kinds w ↦
          let end = w.end-is in
          let inside = w.if-number-kinds.true in
          (omega (arith, test, end, inside, count), omega (arith, test, end))
      | else-number-kinds w ↦
          let end = w.end-is in
          let outside = w.if-number-kinds.false in
          (omega (arith, test, end, count), omega (arith, test, end, outside))
    ] in
    elim c.if-not-is_clear.branch [
      | then-not-is_clear w ↦ subst (ArePartedBelow number (at + 1) old) (sym w.kinds-is) (parted_slow number at old ks both.0 are)
      | else-not-is_clear w ↦ subst (ArePartedBelow number (at + 1) old) (sym w.kinds-is)
          (parted_clear number at old ks _ both.0 both.1 (c.is_clear.ensures w.if-not-is_clear.false) are)
    ]

pub returns-clause-parted : goal.returns-clause-parted
returns-clause-parted c =
    let ks = c.loop-at.kinds in
    let number = c.args.number in
    let are = c.loop-at.invariant in
    let count = are.slowed.count in
    let past = c.loop-at-test.false in
    λ _. all_parted number c.loop-at.at c.args.kinds.now ks c.requires.short (λ k below up.
    elim c.if-number-kinds.branch [
      | then-number-kinds w ↦ (let end = w.end-is in omega (arith, past, end, up))
      | else-number-kinds w ↦ (let end = w.end-is in omega (arith, past, end, below, count))
    ]) are
