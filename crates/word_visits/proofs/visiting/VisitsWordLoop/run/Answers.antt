-- What a run leaves is a table again.
use Rattle.std.proofs.Common.{◌≡◌, ◌+◌, ◌≤◌, ◌∙◌, List, ap, drop, length, sym, subst, true, arith}
use Rattle.word_visits.specs.declared.visit.Visit.{Visit}
use Rattle.word_visits.specs.Entries.{AreFree, begun_in, is_ordered, looks_in, visits_in}
use Rattle.node_words.specs.GoingOn.{BodyTells}
use Rattle.word_visits.specs.Counting.{BodyIsCounted}
use Rattle.word_visits.specs.Visits.{AreCounted}
use Rattle.word_visits.specs.VisitTables.{visits_of}
use Rattle.word_visits.proofs.VisitLemmas.{counted_tells}
use Rattle.word_visits.proofs.TableLemmas.{put_back, same_free}
use Rattle.word_visits.proofs.visiting.VisitsWordLoop.run.Goals as goal

pub invariant_of-self-2 : goal.invariant_of-self-2
invariant_of-self-2 c =
    let v = c.args.self.now in
    let old = v.entries.items in
    let new = c.pass_words-done.new.entries in
    let more = v.counted + c.pass_words-done.result.words in
    let count = c.pass_words-done.auto.entries ∙ c.deref_mut.ensures.len in
    let same = sym (put_back new (drop (length new) old) v.entries.len count) in
    let lent = ap begun_in c.deref_mut.ensures.value in
    let before = v.few in
    let begun = c.pass_words-done.ensures.begun in
    record {
      few = subst (λ (es : List Visit). begun_in es ≤ more) same (omega (arith, lent, before, begun));
      ordered = subst (λ (es : List Visit). is_ordered 0 0 c.pass_words-done.new.behind es ≡ true) same c.pass_words-done.ensures.ordered;
      free = subst (λ (es : List Visit). AreFree (looks_in es) v.kinds.items) same
          (same_free (looks_in old) (looks_in new) v.kinds.items
          (λ k. c.pass_words-done.ensures.looks k ∙ ap (λ (es : List Visit). looks_in es k) c.deref_mut.ensures.value) v.free);
    }

pub returns-clause-learns : goal.returns-clause-learns
returns-clause-learns c =
    let v = c.args.self.now in
    let old = v.entries.items in
    let run = c.pass_words-done in
    let new = run.new.entries in
    let image = c.args.image.now in
    let few = c.most_counted-most.result in
    let words = run.result.words in
    let count = run.auto.entries ∙ c.deref_mut.ensures.len in
    let same = sym (put_back new (drop (length new) old) v.entries.len count) in
    let counted = subst (λ (es : List Visit). BodyIsCounted image few c.args.from c.args.body.now words (visits_in 0 0 es)
    (visits_in 0 0 new)) c.deref_mut.ensures.value run.ensures.visits in
    subst (λ (es : List Visit). BodyTells (λ work k n. AreCounted work k n (visits_of v) (visits_in 0 0 es)) image c.args.most
    c.args.from c.args.body.now words) same
    (counted_tells image few c.args.most c.args.from words c.args.body.now (visits_of v) (visits_in 0 0 new)
    c.most_counted-most.ensures.most counted)
