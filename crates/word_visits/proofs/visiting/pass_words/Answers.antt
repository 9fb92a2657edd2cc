-- Words that are passed, one stride after another.
use Rattle.std.proofs.Common.{◌≡◌, ℕ, ◌+◌, ◌-◌, ◌≤◌, ◌∙◌, false, length, refl, sym, ap, subst, arith}
use Rattle.node_words.specs.declared.strides.Going.{Going}
use Rattle.node_words.specs.Runs.{numbers_from}
use Rattle.node_words.proofs.StrideLemmas.{as_many}
use Rattle.node_words.proofs.UndoLogLemmas.{undoable_both}
use Rattle.word_visits.specs.declared.visit.Visit.{Visit}
use Rattle.word_visits.specs.Counting.{PassesBy}
use Rattle.word_visits.specs.Entries.{behind_at, looks_in, visits_in}
use Rattle.word_visits.specs.Visits.{visited_all}
use Rattle.word_visits.proofs.TableLemmas.{looks_entry, same_free}
use Rattle.word_visits.proofs.PassLemmas.{one_passes}
use Rattle.word_visits.proofs.CountingLemmas.{HasCounted, counting_apart, counting_ends, counting_starts, counting_still, counting_straight, last_begun, same_counted}
use Rattle.word_visits.proofs.visiting.pass_words.Goals as goal
use Rattle.word_visits.proofs.visiting.pass_words.Goals.{else-loop-going-test, then-loop-going-test+else-pass_stride+in-Some+then-going-strides-2, then-going-line-2, else-going-line-2, then-loop-going-test+else-pass_stride+in-None}

abbrev none : Visit
none = record { looks = false; begun = 0; ended = 0 }

pub loop-going-init : goal.loop-going-init
loop-going-init c = record {
  counted = counting_starts c.args.image.now c.args.most c.args.from c.args.behind.now c.args.body.now c.args.entries.now
      c.ranges.from.fits c.requires.ordered;
  line = refl;
  inside = c.if-going-strides.false;
}

-- a stretch ended with a stride

pub count-requires-clause-within : goal.count-requires-clause-within
count-requires-clause-within c =
    let l = c.loop-going in
    let h = l.invariant.counted in
    let image = c.args.image.now in
    let kinds = c.args.strides.kinds.now in
    let many = as_many image c.args.strides.micros.now c.requires.micros in
    let strides = c.requires.strides.count in
    let enough = c.requires.enough in
    let count = h.count in
    let line = l.invariant.line in
    let free = same_free (looks_in c.args.entries.now) (looks_in l.entries) kinds h.looks c.requires.free in
    let passes = c.if-pass_stride.ensures.passed (looks_in l.entries) free in
    let some = passes.some in
    let first = passes.first in
    let last = c.behind_at-last.ensures in
    λ _. omega (arith, line, some, first, last, many, strides, enough, count)

pub loop-going-preserved-then-going-line : goal.loop-going-preserved-then-going-line
loop-going-preserved-then-going-line c =
    let l = c.loop-going in
    let h = l.invariant.counted in
    let image = c.args.image.now in
    let kinds = c.args.strides.kinds.now in
    let many = as_many image c.args.strides.micros.now c.requires.micros in
    let strides = c.requires.strides.count in
    let enough = c.requires.enough in
    let count = h.count in
    let line = l.invariant.line in
    let here = l.going in
    let to = c.pass_stride.new.going in
    let last = c.behind_at-last.result in
    let free = same_free (looks_in c.args.entries.now) (looks_in l.entries) kinds h.looks c.requires.free in
    let passes = subst (λ (q : ℕ). PassesBy image (looks_in l.entries) q here l.body to c.pass_stride.new.body)
    (sym c.behind_at-last.ensures) (c.if-pass_stride.ensures.passed (looks_in l.entries) free) in
    let some = passes.some in
    let end : l.line - to.left - last ≡ here.at + (here.left - to.left - last) = omega (arith, line, some) in
    let f = c.count.ensures in
    record {
      counted = counting_apart image c.args.most c.args.from l.first (l.line - to.left - last) l.behind c.count.new.behind last
          c.args.body.now l.body c.pass_stride.new.body c.args.entries.now l.entries c.count.new.entries here to
          (omega (arith, many, strides, enough, count)) end c.pass_stride.ensures.counts c.pass_stride.ensures.undoable passes
          f.count f.visits f.looks f.ordered f.begun h;
      line = refl;
      inside = c.if-pass_stride.ensures.inside refl;
    }

-- it goes on

pub loop-going-preserved-else-going-line : goal.loop-going-preserved-else-going-line
loop-going-preserved-else-going-line c =
    let l = c.loop-going in
    let h = l.invariant.counted in
    let image = c.args.image.now in
    let kinds = c.args.strides.kinds.now in
    let many = as_many image c.args.strides.micros.now c.requires.micros in
    let strides = c.requires.strides.count in
    let enough = c.requires.enough in
    let count = h.count in
    let line = l.invariant.line in
    let here = l.going in
    let to = c.pass_stride.new.going in
    let last = behind_at kinds here.at in
    let free = same_free (looks_in c.args.entries.now) (looks_in l.entries) kinds h.looks c.requires.free in
    let passes = c.if-pass_stride.ensures.passed (looks_in l.entries) free in
    let some = passes.some in
    let same = c.if-going-line.false in
    record {
      counted = counting_straight image c.args.most c.args.from l.first l.behind last c.args.body.now l.body
          c.pass_stride.new.body c.args.entries.now l.entries here to (omega (arith, many, strides, enough, count))
          (omega (arith, line, some, same)) c.pass_stride.ensures.counts c.pass_stride.ensures.undoable passes h;
      line = sym same;
      inside = c.if-pass_stride.ensures.inside refl;
    }

-- a word by itself

pub loop-going-preserved : goal.loop-going-preserved
loop-going-preserved c =
    let l = c.loop-going in
    let h = l.invariant.counted in
    let image = c.args.image.now in
    let most = c.args.most in
    let from = c.args.from in
    let b0 = c.args.body.now in
    let old = c.args.entries.now in
    let es = l.entries in
    let kinds = c.args.strides.kinds.now in
    let many = as_many image c.args.strides.micros.now c.requires.micros in
    let strides = c.requires.strides.count in
    let enough = c.requires.enough in
    let count = h.count in
    let line = l.invariant.line in
    let inside = l.invariant.inside in
    let here = l.going in
    let m = c.pass_stride.new.body in
    let b' = c.pass_one.new.body in
    let to = c.to.new.self in
    let free = same_free (looks_in old) (looks_in es) kinds h.looks c.requires.free in
    let stays = c.if-pass_stride.ensures.passed (looks_in es) free in
    let looks = looks_entry es here.at none (omega (arith, inside, enough, count)) in
    let passes = one_passes image (looks_in es) here c.pass_stride.new.going to c.in-Some.next l.body m b' c.requires.few
    (omega (arith, inside, strides, many)) stays c.to.ensures.left c.to.ensures.at c.to.ensures.low
    (λ says. c.in-Some.ensures.reads (sym looks ∙ says)) c.in-Some.ensures.steps in
    let some = passes.some in
    let long : length image ≤ length es = omega (arith, many, strides, enough, count) in
    let counts = c.pass_one.ensures.counts ∙ c.pass_stride.ensures.counts in
    let undoable = undoable_both l.body m b' c.pass_stride.ensures.undoable c.pass_one.ensures.undoable in
    elim c.if-going-line-2.branch [
      | then-going-line-2 w ↦
          let f = w.count-then-going-line-2.ensures in
          let end : l.line - to.left ≡ here.at + (here.left - to.left - 0) = omega (arith, line, some) in
          let none_behind : to.at ≡ to.at - 0 = omega arith in
          record {
            counted = same_counted image most from b0 old to to (to.at - 0) c.if-going-line-2.first b' b'
                w.count-then-going-line-2.new.entries c.if-going-line-2.entries w.count-then-going-line-2.new.behind
                c.if-going-line-2.behind refl (w.first-is ∙ none_behind) refl w.entries-is w.behind-is
                (counting_apart image most from l.first (l.line - to.left) l.behind w.count-then-going-line-2.new.behind 0 b0
                l.body b' old es w.count-then-going-line-2.new.entries here to long end counts undoable passes f.count f.visits
                f.looks f.ordered f.begun h);
            line = w.line-is;
            inside = c.if-going-strides-2.false;
          }
      | else-going-line-2 w ↦
          let same = w.if-going-line-2.false in
          record {
            counted = same_counted image most from b0 old to to l.first c.if-going-line-2.first b' b' es
                c.if-going-line-2.entries l.behind c.if-going-line-2.behind refl w.first-is refl w.entries-is w.behind-is
                (counting_straight image most from l.first l.behind 0 b0 l.body b' old es here to long
                (omega (arith, line, some, same)) counts undoable passes h);
            line = w.line-is ∙ sym same;
            inside = c.if-going-strides-2.false;
          }
    ]

-- the end

pub returns : goal.returns
returns c =
    let l = c.loop-going in
    let h = l.invariant.counted in
    let image = c.args.image.now in
    let most = c.args.most in
    let from = c.args.from in
    let b0 = c.args.body.now in
    let old = c.args.entries.now in
    let es = l.entries in
    let kinds = c.args.strides.kinds.now in
    let many = as_many image c.args.strides.micros.now c.requires.micros in
    let strides = c.requires.strides.count in
    let enough = c.requires.enough in
    let count = h.count in
    let line = l.invariant.line in
    let inside = l.invariant.inside in
    let here = l.going in
    let free = same_free (looks_in old) (looks_in es) kinds h.looks c.requires.free in
    let long : length image ≤ length es = omega (arith, many, strides, enough, count) in
    let e = c.loop-going-test in
    let ended : HasCounted image most from b0 old e.going e.first e.body e.entries e.behind × (e.line ≡ e.going.at + e.going.left) =
    elim c.loop-going-test.branch [
      | else-loop-going-test w ↦ (
        same_counted image most from b0 old here e.going l.first e.first l.body e.body es e.entries l.behind e.behind w.going-is
            w.first-is w.body-is w.entries-is w.behind-is h,
        w.line-is ∙ line ∙ sym (ap (λ (g : Going). g.at + g.left) w.going-is),
      )
      | then-loop-going-test+else-pass_stride+in-Some+then-going-strides-2 w ↦
          let m = w.pass_stride.new.body in
          let b' = w.pass_one.new.body in
          let to = w.to.new.self in
          let stays = w.if-pass_stride.ensures.passed (looks_in es) free in
          let looks = looks_entry es here.at none (omega (arith, inside, enough, count)) in
          let passes = one_passes image (looks_in es) here w.pass_stride.new.going to w.in-Some.next l.body m b' c.requires.few
          (omega (arith, inside, strides, many)) stays w.to.ensures.left w.to.ensures.at w.to.ensures.low
          (λ says. w.in-Some.ensures.reads (sym looks ∙ says)) w.in-Some.ensures.steps in
          let some = passes.some in
          let counts = w.pass_one.ensures.counts ∙ w.pass_stride.ensures.counts in
          let undoable = undoable_both l.body m b' w.pass_stride.ensures.undoable w.pass_one.ensures.undoable in
          let sum = sym (ap (λ (g : Going). g.at + g.left) w.going-is) in
          elim w.if-going-line-2.branch [
            | then-going-line-2 w2 ↦
                let f = w2.count-then-going-line-2.ensures in
                let end : l.line - to.left ≡ here.at + (here.left - to.left - 0) = omega (arith, line, some) in
                let none_behind : to.at ≡ to.at - 0 = omega arith in (
                  same_counted image most from b0 old to e.going (to.at - 0) e.first b' e.body
                      w2.count-then-going-line-2.new.entries e.entries w2.count-then-going-line-2.new.behind e.behind w.going-is
                      (w.first-is ∙ w2.first-is ∙ none_behind) w.body-is (w.entries-is ∙ w2.entries-is) (w.behind-is ∙ w2.behind-is)
                      (counting_apart image most from l.first (l.line - to.left) l.behind w2.count-then-going-line-2.new.behind 0
                      b0 l.body b' old es w2.count-then-going-line-2.new.entries here to long end counts undoable passes f.count
                      f.visits f.looks f.ordered f.begun h),
                  w.line-is ∙ w2.line-is ∙ sum,
                )
            | else-going-line-2 w2 ↦
                let same = w2.if-going-line-2.false in (
                  same_counted image most from b0 old to e.going l.first e.first b' e.body es e.entries l.behind e.behind
                      w.going-is (w.first-is ∙ w2.first-is) w.body-is (w.entries-is ∙ w2.entries-is) (w.behind-is ∙ w2.behind-is)
                      (counting_straight image most from l.first l.behind 0 b0 l.body b' old es here to long
                      (omega (arith, line, some, same)) counts undoable passes h),
                  w.line-is ∙ w2.line-is ∙ sym same ∙ sum,
                )
          ]
      | then-loop-going-test+else-pass_stride+in-None w ↦
          let m = w.pass_stride.new.body in
          let b' = w.pass_one.new.body in
          let stays = w.if-pass_stride.ensures.passed (looks_in es) free in
          let steps = w.in-None.ensures.steps in
          let place = w.going-is ∙ stays.place in (
            same_counted image most from b0 old here e.going l.first e.first b' e.body es e.entries l.behind e.behind place
                w.first-is w.body-is w.entries-is w.behind-is
                (counting_still image most from l.first l.behind b0 l.body b' old es here (steps.0 ∙ stays.lane)
                (steps.1 ∙ stays.local) (w.pass_one.ensures.counts ∙ w.pass_stride.ensures.counts)
                (undoable_both l.body m b' w.pass_stride.ensures.undoable w.pass_one.ensures.undoable) h),
            w.line-is ∙ line ∙ sym (ap (λ (g : Going). g.at + g.left) place),
          )
    ] in
    let all = ended.0 in
    let last_line = ended.1 in
    let f = c.count-2.ensures in
    let there : e.line - e.going.left ≡ e.going.at = omega (arith, last_line) in
    let visits = f.visits
    ∙ ap (λ (k : ℕ). visited_all (numbers_from e.first (k - e.first)) (visits_in 0 0 e.entries)) there in
    record {
      words = all.words;
      visits = counting_ends image most from e.first e.behind b0 e.body old e.entries c.count-2.new.entries e.going visits all;
      looks = λ k. f.looks k ∙ all.looks k;
      ordered = f.ordered;
      begun = last_begun image most from e.first e.behind b0 e.body old e.entries c.count-2.new.entries e.going f.begun
          (λ same. f.none (same ∙ sym there)) all;
      most = omega arith;
      ground = all.ground;
      counts = all.counts;
      undoable = all.undoable;
    }
