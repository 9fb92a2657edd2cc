-- One more word, and one more sum.
use Rattle.std.proofs.Common.{◌≡◌, ℕ, ◌+◌, ◌-◌, ◌∙◌, cond, List, [], ◌∷◌, ◌++◌, length, sym, ap, subst, arith}
use Rattle.std.specs.Prelude.{slice_index_or}
use Rattle.std.proofs.lemmas.List.{get_or_append_left, length_push}
use Rattle.word_visits.specs.Sums.{RiseByOne}
use Rattle.word_visits.specs.VisitTables.{visits_of}
use Rattle.word_visits.specs.Visits.{WordVisits}
use Rattle.word_visits.proofs.TableLemmas.{length_visits}
use Rattle.word_visits.proofs.TallyLemmas.{next_sums, rise_below, rise_push, tallies_more}
use Rattle.word_visits.proofs.tallies.Tallies.push.Goals as goal

pub next_sum-sum-requires : goal.next_sum-sum-requires
next_sum-sum-requires c =
    let v = c.args.self.now in
    let ss = v.sums.items in
    let last = c.len-last.result - 1 in
    let number : c.len-last.result ≡ length ss = c.len-last.ensures ∙ v.sums.ok.0 in
    let count = v.count in
    let few = v.sums.ok.1 in
    let whole = v.sums.ok.0 in
    let small = v.sums.small in
    let value = c.index.ensures in
    let most = rise_below ss last c.index.result.now v.rise v.start (omega (arith, number, count)) in
    omega (arith, value, most, number, count, whole, few, small)

pub invariant_of-self-in-Break-branch-2 : goal.invariant_of-self-in-Break-branch-2
invariant_of-self-in-Break-branch-2 c =
    let v = c.args.self.now in
    let sums = c.reserve.ensures.items in
    let one = ap (λ (xs : List ℕ). length xs) sums in
    let same = ap (λ (vs : List WordVisits). length vs) c.in_err-push.ensures.err in
    let before = length_visits 0 0 v.words.entries.items in
    let after = length_visits 0 0 c.push.new.self.entries.items in
    let count = v.count in
    record {
      count = omega (arith, one, same, before, after, count);
      rise = subst RiseByOne (sym sums) v.rise;
      start = ap (λ (xs : List ℕ). slice_index_or xs 0 0) sums ∙ v.start;
    }

pub invariant_of-self-2 : goal.invariant_of-self-2
invariant_of-self-2 c =
    let v = c.args.self.now in
    let ss = v.sums.items in
    let last = c.len-last.result - 1 in
    let sum = c.next_sum-sum.result in
    let old = c.index.result.now in
    let number : c.len-last.result ≡ length ss = c.len-last.ensures ∙ v.sums.ok.0 in
    let count = v.count in
    let words : WordVisits = record { times = 0; looks = c.args.looks } in
    let sums : c.push_reserved.new.self.items ≡ ss ++ sum ∷ [] =
    c.push_reserved.ensures.items ∙ ap (λ (xs : List ℕ). xs ++ sum ∷ []) c.reserve.ensures.items in
    let one = ap (λ (xs : List ℕ). length xs) sums in
    let two : length (ss ++ sum ∷ []) ≡ length ss + 1 = length_push ss sum in
    let visits = ap (λ (vs : List WordVisits). length vs) c.in_ok-push.ensures.more in
    let more : length (visits_of v.words ++ words ∷ []) ≡ length (visits_of v.words) + 1 = length_push (visits_of v.words) words in
    let before = length_visits 0 0 v.words.entries.items in
    let after = length_visits 0 0 c.push.new.self.entries.items in
    let value = c.index.ensures in
    let next = next_sums c.args.counts old sum c.next_sum-sum.ensures in
    let least = next.0 in
    let most = next.1 in
    let rise = rise_push ss last sum old (omega (arith, number, count)) v.rise (omega (arith, value, least))
    (omega (arith, value, most)) in
    record {
      count = omega (arith, one, two, visits, more, before, after, count);
      rise = subst RiseByOne (sym sums) rise;
      start = ap (λ (xs : List ℕ). slice_index_or xs 0 0) sums
          ∙ get_or_append_left ss (sum ∷ []) 0 0 (omega (arith, count)) ∙ v.start;
    }

pub returns-clause-more : goal.returns-clause-more
returns-clause-more c =
    let v = c.args.self.now in
    let ss = v.sums.items in
    let vs = visits_of v.words in
    let last = c.len-last.result - 1 in
    let sum = c.next_sum-sum.result in
    let old = c.index.result.now in
    let number : c.len-last.result ≡ length ss = c.len-last.ensures ∙ v.sums.ok.0 in
    let count = v.count in
    let entries = length_visits 0 0 v.words.entries.items in
    let is : sum ≡ cond c.args.counts (slice_index_or ss last old + 1) (slice_index_or ss last old) =
    c.next_sum-sum.ensures ∙ ap (λ (s : ℕ). cond c.args.counts (s + 1) s) c.index.ensures in
    tallies_more vs (visits_of c.push.new.self) ss c.push_reserved.new.self.items c.args.counts c.args.looks last sum old
    (omega (arith, number, count, entries)) (omega (arith, number, count)) c.in_ok-push.ensures.more
    (c.push_reserved.ensures.items ∙ ap (λ (xs : List ℕ). xs ++ sum ∷ []) c.reserve.ensures.items) is
