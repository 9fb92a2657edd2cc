-- Words that are tallied, one stride after another.
use Rattle.std.proofs.Common.{ℕ, ◌+◌, ◌-◌, ◌≤◌, ◌∙◌, length, refl, sym, subst, arith}
use Rattle.node_words.proofs.StrideLemmas.{as_many}
use Rattle.word_visits.specs.Counting.{PassesBy}
use Rattle.word_visits.specs.Entries.{looks_in, visits_in}
use Rattle.word_visits.proofs.SteppingLemmas.{HasStretch, stretch_apart, stretch_ends, stretch_same, stretch_still, stretch_straight, word_stretches}
use Rattle.word_visits.proofs.TableLemmas.{length_visits, looks_entry}
use Rattle.word_visits.proofs.counting.step_words.Goals.{After-steps_between, else-loop-going-test, then-loop-going-test+else-pass_stride+in-Some+then-going-strides-2, then-going-line-2, else-going-line-2, then-loop-going-test+else-pass_stride+in-None}
use Rattle.word_visits.proofs.counting.step_words.Goals as goal

pub steps_between-steps-requires-clause-within : goal.steps_between-steps-requires-clause-within
steps_between-steps-requires-clause-within c = λ _.
    let es = c.args.entries.now in
    let passes = c.if-pass_stride.ensures.passed (looks_in es) c.requires.free in
    let some = passes.some in
    let first = passes.first in
    let last = c.behind_at-last.ensures in
    let line = c.loop-going.invariant.line in
    let many = as_many c.args.image.now c.args.strides.micros.now c.requires.micros in
    let strides = c.requires.strides.count in
    let enough = c.requires.enough in
    let count = c.requires.count in
    omega (arith, some, first, last, line, many, strides, enough, count)

pub loop-going-preserved-then-going-line : goal.loop-going-preserved-then-going-line
loop-going-preserved-then-going-line c =
    let image = c.args.image.now in
    let es = c.args.entries.now in
    let here = c.loop-going.going in
    let to = c.pass_stride.new.going in
    let passes : PassesBy image (looks_in es) c.behind_at-last.result here c.loop-going.body to c.pass_stride.new.body =
    subst (λ (n : ℕ). PassesBy image (looks_in es) n here c.loop-going.body to c.pass_stride.new.body) (sym c.behind_at-last.ensures)
    (c.if-pass_stride.ensures.passed (looks_in es) c.requires.free) in
    let many = as_many image c.args.strides.micros.now c.requires.micros in
    let strides = c.requires.strides.count in
    let enough = c.requires.enough in
    let count = c.requires.count in
    let entries = length_visits 0 0 es in
    let h = c.loop-going.invariant in
    let all = stretch_apart image c.args.most c.args.from c.loop-going.first c.loop-going.line c.loop-going.steps
    c.steps_between-steps.result c.behind_at-last.result (c.loop-going.line - to.left - c.behind_at-last.result)
    (to.at - c.behind_at-last.result) c.args.body.now c.loop-going.body c.pass_stride.new.body es c.args.sums.now here to
    (omega (arith, many, strides, enough)) count refl refl c.pass_stride.ensures.counts c.pass_stride.ensures.undoable passes
    (c.steps_between-steps.ensures.sum (visits_in 0 0 es) (omega (arith, entries, count))) c.steps_between-steps.ensures.most
    (record { stepped = h.stepped; far = h.line }) in
    record { stepped = all.stepped; line = refl; inside = c.if-pass_stride.ensures.inside refl }

pub loop-going-preserved-else-going-line : goal.loop-going-preserved-else-going-line
loop-going-preserved-else-going-line c =
    let image = c.args.image.now in
    let es = c.args.entries.now in
    let many = as_many image c.args.strides.micros.now c.requires.micros in
    let strides = c.requires.strides.count in
    let enough = c.requires.enough in
    let h = c.loop-going.invariant in
    let all = stretch_straight image c.args.most c.args.from c.loop-going.first c.loop-going.line c.loop-going.steps _
    c.args.body.now c.loop-going.body c.pass_stride.new.body es c.args.sums.now c.loop-going.going c.pass_stride.new.going
    (omega (arith, many, strides, enough)) c.requires.count c.if-going-line.false c.pass_stride.ensures.counts
    c.pass_stride.ensures.undoable (c.if-pass_stride.ensures.passed (looks_in es) c.requires.free)
    (record { stepped = h.stepped; far = h.line }) in
    record { stepped = all.stepped; line = all.far; inside = c.if-pass_stride.ensures.inside refl }

pub loop-going-preserved : goal.loop-going-preserved
loop-going-preserved c =
    let image = c.args.image.now in
    let es = c.args.entries.now in
    let here = c.loop-going.going in
    let mid = c.pass_stride.new.going in
    let to = c.to.new.self in
    let b = c.loop-going.body in
    let m = c.pass_stride.new.body in
    let many = as_many image c.args.strides.micros.now c.requires.micros in
    let strides = c.requires.strides.count in
    let enough = c.requires.enough in
    let count = c.requires.count in
    let inside = c.loop-going.invariant.inside in
    let entries = length_visits 0 0 es in
    let long : length image ≤ length es = omega (arith, many, strides, enough) in
    let h = c.loop-going.invariant in
    let stays = c.if-pass_stride.ensures.passed (looks_in es) c.requires.free in
    let before = stretch_still image c.args.most c.args.from c.loop-going.first c.loop-going.line c.loop-going.steps
    c.args.body.now b m es c.args.sums.now here mid stays c.pass_stride.ensures.counts c.pass_stride.ensures.undoable
    (record { stepped = h.stepped; far = h.line }) in
    let passes = word_stretches image (looks_in es) c.in-Some.next here mid to b m c.pass_one.new.body c.requires.few
    (omega (arith, inside, many, strides)) stays c.to.ensures.left c.to.ensures.at c.to.ensures.low
    (λ says. c.in-Some.ensures.reads (sym (looks_entry es here.at _ (omega (arith, inside, enough))) ∙ says))
    c.in-Some.ensures.steps in
    let all : HasStretch image c.args.most c.args.from c.args.body.now es c.args.sums.now to c.if-going-line-2.first
    c.if-going-line-2.line c.if-going-line-2.steps c.pass_one.new.body = elim c.if-going-line-2.branch [
      | then-going-line-2 w ↦ stretch_same image c.args.most c.args.from to.at c.if-going-line-2.first (to.at + to.left)
          c.if-going-line-2.line (c.loop-going.steps + w.steps_between-steps-then-going-line-2.result) c.if-going-line-2.steps
          c.args.body.now c.pass_one.new.body c.pass_one.new.body es c.args.sums.now to to refl refl w.first-is w.line-is w.steps-is
          (stretch_apart image c.args.most c.args.from c.loop-going.first c.loop-going.line c.loop-going.steps
          w.steps_between-steps-then-going-line-2.result 0 (c.loop-going.line - to.left) to.at c.args.body.now m
          c.pass_one.new.body es c.args.sums.now mid to long count (omega arith) (omega arith) c.pass_one.ensures.counts
          c.pass_one.ensures.undoable passes
          (w.steps_between-steps-then-going-line-2.ensures.sum (visits_in 0 0 es) (omega (arith, entries, count)))
          w.steps_between-steps-then-going-line-2.ensures.most before)
      | else-going-line-2 w ↦ stretch_same image c.args.most c.args.from c.loop-going.first c.if-going-line-2.first
          c.loop-going.line c.if-going-line-2.line c.loop-going.steps c.if-going-line-2.steps c.args.body.now
          c.pass_one.new.body c.pass_one.new.body es c.args.sums.now to to refl refl w.first-is w.line-is w.steps-is
          (stretch_straight image c.args.most c.args.from c.loop-going.first c.loop-going.line c.loop-going.steps 0
          c.args.body.now m c.pass_one.new.body es c.args.sums.now mid to long count w.if-going-line-2.false
          c.pass_one.ensures.counts c.pass_one.ensures.undoable passes before)
    ] in
    record { stepped = all.stepped; line = all.far; inside = c.if-going-strides-2.false }

-- where no further word is executed
ends : (c : After-steps_between) → HasStretch c.args.image.now c.args.most c.args.from c.args.body.now c.args.entries.now
    c.args.sums.now c.loop-going-test.going c.loop-going-test.first c.loop-going-test.line c.loop-going-test.steps
    c.loop-going-test.body
ends c =
    let image = c.args.image.now in
    let es = c.args.entries.now in
    let here = c.loop-going.going in
    let b = c.loop-going.body in
    let many = as_many image c.args.strides.micros.now c.requires.micros in
    let strides = c.requires.strides.count in
    let enough = c.requires.enough in
    let count = c.requires.count in
    let inside = c.loop-going.invariant.inside in
    let entries = length_visits 0 0 es in
    let long : length image ≤ length es = omega (arith, many, strides, enough) in
    let h : HasStretch image c.args.most c.args.from c.args.body.now es c.args.sums.now here c.loop-going.first c.loop-going.line
    c.loop-going.steps b = record { stepped = c.loop-going.invariant.stepped; far = c.loop-going.invariant.line } in
    elim c.loop-going-test.branch [
      | else-loop-going-test w ↦ stretch_same image c.args.most c.args.from c.loop-going.first c.loop-going-test.first
          c.loop-going.line c.loop-going-test.line c.loop-going.steps c.loop-going-test.steps c.args.body.now b
          c.loop-going-test.body es c.args.sums.now here c.loop-going-test.going w.body-is w.going-is w.first-is w.line-is
          w.steps-is h
      | then-loop-going-test+else-pass_stride+in-Some+then-going-strides-2 w ↦
          let mid = w.pass_stride.new.going in
          let to = w.to.new.self in
          let m = w.pass_stride.new.body in
          let stays = w.if-pass_stride.ensures.passed (looks_in es) c.requires.free in
          let before = stretch_still image c.args.most c.args.from c.loop-going.first c.loop-going.line c.loop-going.steps
          c.args.body.now b m es c.args.sums.now here mid stays w.pass_stride.ensures.counts w.pass_stride.ensures.undoable h in
          let passes = word_stretches image (looks_in es) w.in-Some.next here mid to b m w.pass_one.new.body c.requires.few
          (omega (arith, inside, many, strides)) stays w.to.ensures.left w.to.ensures.at w.to.ensures.low
          (λ says. w.in-Some.ensures.reads (sym (looks_entry es here.at _ (omega (arith, inside, enough))) ∙ says))
          w.in-Some.ensures.steps in
          elim w.if-going-line-2.branch [
            | then-going-line-2 x ↦ stretch_same image c.args.most c.args.from to.at c.loop-going-test.first (to.at + to.left)
                c.loop-going-test.line (c.loop-going.steps + x.steps_between-steps-then-going-line-2.result)
                c.loop-going-test.steps c.args.body.now w.pass_one.new.body c.loop-going-test.body es c.args.sums.now to
                c.loop-going-test.going w.body-is w.going-is (w.first-is ∙ x.first-is) (w.line-is ∙ x.line-is)
                (w.steps-is ∙ x.steps-is)
                (stretch_apart image c.args.most c.args.from c.loop-going.first c.loop-going.line c.loop-going.steps
                x.steps_between-steps-then-going-line-2.result 0 (c.loop-going.line - to.left) to.at c.args.body.now m
                w.pass_one.new.body es c.args.sums.now mid to long count (omega arith) (omega arith)
                w.pass_one.ensures.counts w.pass_one.ensures.undoable passes
                (x.steps_between-steps-then-going-line-2.ensures.sum (visits_in 0 0 es) (omega (arith, entries, count)))
                x.steps_between-steps-then-going-line-2.ensures.most before)
            | else-going-line-2 x ↦ stretch_same image c.args.most c.args.from c.loop-going.first c.loop-going-test.first
                c.loop-going.line c.loop-going-test.line c.loop-going.steps c.loop-going-test.steps c.args.body.now
                w.pass_one.new.body c.loop-going-test.body es c.args.sums.now to c.loop-going-test.going w.body-is w.going-is
                (w.first-is ∙ x.first-is) (w.line-is ∙ x.line-is) (w.steps-is ∙ x.steps-is)
                (stretch_straight image c.args.most c.args.from c.loop-going.first c.loop-going.line c.loop-going.steps 0
                c.args.body.now m w.pass_one.new.body es c.args.sums.now mid to long count x.if-going-line-2.false
                w.pass_one.ensures.counts w.pass_one.ensures.undoable passes before)
          ]
      | then-loop-going-test+else-pass_stride+in-None w ↦
          let mid = w.pass_stride.new.going in
          let m = w.pass_stride.new.body in
          let stays = w.if-pass_stride.ensures.passed (looks_in es) c.requires.free in
          let before = stretch_still image c.args.most c.args.from c.loop-going.first c.loop-going.line c.loop-going.steps
          c.args.body.now b m es c.args.sums.now here mid stays w.pass_stride.ensures.counts w.pass_stride.ensures.undoable h in
          let none = w.in-None.ensures.steps in
          stretch_same image c.args.most c.args.from c.loop-going.first c.loop-going-test.first c.loop-going.line
          c.loop-going-test.line c.loop-going.steps c.loop-going-test.steps c.args.body.now w.pass_one.new.body
          c.loop-going-test.body es c.args.sums.now mid c.loop-going-test.going w.body-is w.going-is w.first-is w.line-is
          w.steps-is (stretch_still image c.args.most c.args.from c.loop-going.first c.loop-going.line c.loop-going.steps
          c.args.body.now m w.pass_one.new.body es c.args.sums.now mid mid
          (record { place = refl; lane = none.0; local = none.1 }) w.pass_one.ensures.counts w.pass_one.ensures.undoable before)
    ]

pub returns-clause-words : goal.returns-clause-words
returns-clause-words c = (ends (goal.at.returns-clause-words c).After-steps_between).stepped.words

pub returns-clause-steps : goal.returns-clause-steps
returns-clause-steps c =
    let es = c.args.entries.now in
    let entries = length_visits 0 0 es in
    let count = c.requires.count in
    let end = c.loop-going-test in
    stretch_ends c.args.image.now c.args.most c.args.from end.first end.line end.steps c.steps_between.result c.args.body.now
    end.body es c.args.sums.now end.going (c.steps_between.ensures.sum (visits_in 0 0 es) (omega (arith, entries, count)))
    (ends (goal.at.returns-clause-steps c).After-steps_between)

pub returns-clause-undoable : goal.returns-clause-undoable
returns-clause-undoable c = (ends (goal.at.returns-clause-undoable c).After-steps_between).stepped.undoable
