-- The words of one number after another.
use Rattle.std.proofs.Common.{◌≡◌, ℕ, ◌+◌, ◌<◌, ◌≤◌, ◌++◌, List, length, replicate, take, get_or, sym, ap, ◌∙◌, arith, append_assoc, append-nil}
use Rattle.std.proofs.lemmas.List.{get_or-map, get_or_default, length-map, take_all}
use Rattle.std.proofs.lemmas.List.FromFn.{length-map-range_with_len}
use Rattle.check_costs.specs.declared.labels.Label.{Label}
use Rattle.check_costs.specs.Tally.{Executed, tally_in, tally_of}
use Rattle.run_trace.specs.Tracing.{kinds_traced}
use Rattle.word_visits.specs.Visits.{WordVisits, never}
use Rattle.word_visits.specs.VisitTables.{visits_of}
use Rattle.run_costs.specs.Counting.{word_by, words_by}
use Rattle.run_costs.proofs.Labels.{found_within}
use Rattle.run_costs.proofs.Visited.{words_by_more}
use Rattle.run_costs.proofs.counting.with_visits.Goals as goal

pub loop-number-init : goal.loop-number-init
loop-number-init c = λ first functions words head is. is ∙ ap (tally_of functions) (sym (append-nil words))

pub add_words-requires : goal.add_words-requires
add_words-requires c =
    let labels = c.args.labels.now in
    let r = c.requires.tally in
    let some = c.requires.some in
    let n = c.loop-number.number in
    let label = c.label_of.result in
    let first = get_or labels 0 label in
    let head : get_or labels 0 first ≡ first = sym (get_or_default labels 0 label first some) in
    let found = ap (λ (l : Label). l.function) (c.label_of.ensures first head) in
    let within = found_within labels r.0 n first r.3 some head in
    let counts = c.loop-number.invariant first r.0 r.1 head r.2 in
    let words = r.1 ++ words_by (word_by first labels (kinds_traced c.args.tracer.now)) 0 (take n (visits_of c.args.visits.now)) in
    let long = ap length counts ∙ length-map-range_with_len (tally_in words) 0 (r.0 + 1) in
    record { function = omega (arith, found, within, long) }

-- as many counts as words
pub index-requires : goal.index-requires
index-requires c =
    let count = ap length c.in_ok-times.ensures ∙ length-map (visits_of c.args.visits.now) (λ (v : WordVisits). v.times) in
    omega (arith, count, c.len-number-end.ensures, c.loop-number-test.true, c.loop-number.auto.number-end)

pub loop-number-preserved : goal.loop-number-preserved
loop-number-preserved c = λ first functions words head is.
    let vs = visits_of c.args.visits.now in
    let n = c.loop-number.number in
    let word = word_by first c.args.labels.now (kinds_traced c.args.tracer.now) in
    let before = words_by word 0 (take n vs) in
    let label = c.label_of.ensures first head in
    let commits = c.commits_visited-commits.ensures.value in
    let within : n < length vs =
    omega (arith, c.len-number-end.ensures, c.loop-number-test.true, c.loop-number.auto.number-end) in
    let times : c.index.result.now ≡ (get_or vs n never).times =
    c.index.ensures ∙ ap (λ (xs : List ℕ). get_or xs n c.index.result.now) c.in_ok-times.ensures
    ∙ get_or-map (λ (v : WordVisits). v.times) vs n never c.index.result.now within in
    let same : words ++ (before
    ++ replicate c.index.result.now (record { label = c.label_of.result; commits = c.commits_visited-commits.result }))
    ≡ words ++ words_by word 0 (take (n + 1) vs) =
    ap (λ (l : List Executed). words ++ l)
    ((λ j. before ++ replicate (times j) (record { label = label j; commits = commits j }))
    ∙ sym (words_by_more word vs n never within)) in
    c.in_ok-add_words.ensures functions (words ++ before) (c.loop-number.invariant first functions words head is)
    ∙ ap (tally_of functions) (append_assoc words before _ ∙ same)

pub returns : goal.returns
returns c = λ first functions words head is.
    let vs = visits_of c.args.visits.now in
    let word = word_by first c.args.labels.now (kinds_traced c.args.tracer.now) in
    let all : length vs ≤ c.loop-number.number =
    omega (arith, c.len-number-end.ensures, c.loop-number-test.false, c.loop-number.auto.number-end) in
    c.loop-number.invariant first functions words head is
    ∙ ap (λ ws. tally_of functions (words ++ words_by word 0 ws)) (take_all c.loop-number.number vs all)
