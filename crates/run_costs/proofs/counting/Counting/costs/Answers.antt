-- What was counted one by one, and what was counted by numbers.
use Rattle.std.proofs.Common.{◌≡◌, ℕ, ◌++◌, Bool, cond, length, map, get_or, ap, sym, ◌∙◌}
use Rattle.std.specs.List.{range_with_len}
use Rattle.std.proofs.lemmas.List.Sums.{sum_by-append}
use Rattle.check_costs.specs.Tally.{Executed, first_label, tally_of}
use Rattle.check_costs.proofs.Alike.{same_tally}
use Rattle.run_trace.specs.replay.dsm_core.CoreParts.{CoreParts, core_of}
use Rattle.word_visits.specs.VisitTables.{visits_of}
use Rattle.run_trace.specs.Tracing.{kinds_traced}
use Rattle.run_costs.specs.Counting.{plan_in, word_by, words_by, words_seen, words_visited, work_in}
use Rattle.run_costs.proofs.Counted.{nodes_seen}
use Rattle.run_costs.proofs.Labels.{labels_fit, some_labels}
use Rattle.run_costs.proofs.counting.Counting.costs.Goals as goal

pub with_visits-requires : goal.with_visits-requires
with_visits-requires c =
    let s = c.args.self in
    let symbols = c.requires.counted.0 in
    let h = c.requires.counted.2 in
    let are = c.deref.ensures.value ∙ h.labels in
    record {
      some = some_labels symbols (work_in s) (plan_in s) c.deref.result.now are;
      tally = (length symbols, h.singly, h.tallied, labels_fit symbols (work_in s) (plan_in s) c.deref.result.now are);
    }

pub returns-clause-counts : goal.returns-clause-counts
returns-clause-counts c = λ symbols seen h.
    let s = c.args.self in
    let first = first_label symbols in
    let labels = c.deref.ensures.value in
    let head : get_or c.deref.result.now 0 first ≡ first = ap (λ ls. get_or ls 0 first) (labels ∙ h.labels) in
    let count : (Executed → Bool) → Executed → ℕ = λ p w. cond (p w) 1 0 in
    c.into_counts.ensures (length symbols) _ (c.in_ok-tally.ensures first (length symbols) h.singly head h.tallied)
    ∙ ap (λ ws. tally_of (length symbols) (h.singly ++ ws))
    (λ j. words_by (word_by first (labels j) (kinds_traced s.tracer)) 0 (visits_of s.visits))
    ∙ same_tally (h.singly ++ words_visited symbols s) (words_seen symbols (work_in s) (plan_in s) seen)
    (λ p. sum_by-append (count p) h.singly (words_visited symbols s) ∙ sym (h.split p)) (length symbols)

pub returns-clause-nodes : goal.returns-clause-nodes
returns-clause-nodes c = λ symbols seen h.
    c.in_ok-nodes.ensures
    ∙ ap (λ (p : CoreParts). map (λ i. ((core_of p).nodes i).counts) (range_with_len 0 p.layout.nodes))
    c.core.ensures.value ∙ nodes_seen c.args.self.tracer seen h.traced
