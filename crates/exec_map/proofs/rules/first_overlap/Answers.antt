use Rattle.std.proofs.Common.{◌<◌, ◌≤◌, length, sym, ◌∙◌, arith}
use Rattle.exec_map.proofs.Overlaps.{overlap_from, overlap_within, next_place, next_first}
use Rattle.exec_map.proofs.rules.first_overlap.Goals as goal

pub returns-then-have_common_line-clause-some : goal.returns-then-have_common_line-clause-some
returns-then-have_common_line-clause-some c = record {
  overlap = overlap_from c.args.all.now c.loop-first.first c.loop-second.second _ (omega (arith, c.loop-second.auto.second)) c.loop-second-test.true (sym c.have_common_line.ensures ∙ c.if-have_common_line.true);
  least = c.loop-first.invariant;
  next = c.loop-second.invariant;
}

pub loop-second-preserved : goal.loop-second-preserved
loop-second-preserved c = λ m h.
    next_place c.args.all.now c.loop-first.first c.loop-second.second _ m h (c.loop-second.invariant m h) (sym c.have_common_line.ensures ∙ c.if-have_common_line.false)

pub loop-first-preserved : goal.loop-first-preserved
loop-first-preserved c = λ k m h.
    next_first c.args.all.now c.loop-first.first c.loop-second.second k m h (c.loop-first.invariant k m h) c.loop-second.invariant c.loop-second-test.false

pub returns-clause-none : goal.returns-clause-none
returns-clause-none c = λ k m h.
    let far = c.loop-first.invariant k m h in
    let within = overlap_within c.args.all.now k m h in
    let order : k < m = h.order in
    let end : length c.args.all.now ≤ c.loop-first.first = c.loop-first-test.false in
    absurd (omega arith)
