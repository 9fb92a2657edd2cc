-- A recorded run whose words are counted, from its start to its end.
use Rattle.std.proofs.Common.{◌≡◌, ◌⊎◌, ℕ, false, List, ◌++◌, length, map, sym, ap, ◌∙◌, subst}
use Rattle.check_costs.specs.elf_symbols.Symbols.{Symbol}
use Rattle.check_costs.specs.declared.counts.WordCounts.{WordCounts}
use Rattle.check_costs.specs.Tally.{AreTotals, AreWithin, Executed, tally_of}
use Rattle.run_trace.specs.node_model.jump_map.templates.declared.plans.PlanEntry.{PlanEntry}
use Rattle.run_trace.specs.node_model.declared.NodeCounts.{NodeCounts}
use Rattle.run_trace.specs.node_model.Node.{Work}
use Rattle.run_trace.specs.node_model.Core.{opening_core}
use Rattle.run_trace.specs.node_model.Outcome.{counts_after}
use Rattle.run_trace.specs.replay.Refusals.{IsFirstBroken, IsUnfinished}
use Rattle.run_trace.specs.replay.Told.{events_told, what_told}
use Rattle.run_trace.specs.replay.declared.refused.ReplayRule.{ReplayRule}
use Rattle.run_trace.specs.replay.run_record.declared.Record.{Record}
use Rattle.run_trace.specs.Trace.{IsTraceOf}
use Rattle.run_trace.specs.Traced.{Traced}
use Rattle.run_trace.specs.Tracing.{IsSame}
use Rattle.run_costs.specs.declared.counting.Counting.{Counting}
use Rattle.run_costs.specs.Costs.{AreCostsOf, words_from, words_told}
use Rattle.run_costs.specs.Counting.{HasCounted, HasCountedMore, HasGoneOn, event_seen, plan_in, record_in, words_seen, work_in}
use Rattle.run_costs.proofs.Counted.{seen_all}
use Rattle.run_costs.proofs.Labels.{all_within}
use Rattle.run_costs.proofs.Words.{words_count, steps_count}

-- some events were made of this run, and their words were counted
pub record IsOnWay (symbols : List Symbol) (work : Work) (plan : List PlanEntry) (r : Record) (c : Counting)
    : Type 0
  where
    pub seen : List Traced
    pub counted : HasCounted symbols c seen
    pub work_is : work_in c ≡ work
    pub plan_is : plan_in c ≡ plan
    pub rec_is : record_in c ≡ r

-- some events more
pub on_way : (symbols : List Symbol) (work : Work) (plan : List PlanEntry) (r : Record) (c d : Counting)
    (way : IsOnWay symbols work plan r c) → IsSame c.tracer d.tracer → HasCountedMore symbols d way.seen
    → IsOnWay symbols work plan r d
on_way symbols work plan r c d way same on = record {
  seen = way.seen ++ on.0;
  counted = on.1;
  work_is = same.work ∙ way.work_is;
  plan_is = same.plan ∙ way.plan_is;
  rec_is = same.rec_is ∙ way.rec_is;
}

-- all events were made
pub all_counted : (symbols : List Symbol) (work : Work) (plan : List PlanEntry) (r : Record) (c d : Counting)
    (counts : List WordCounts) (nodes : List NodeCounts) (way : IsOnWay symbols work plan r c)
    → IsSame c.tracer d.tracer → HasGoneOn symbols d way.seen false
    → ((n : ℕ) (words : List Executed) → AreWithin n words → AreTotals words (tally_of n words))
    → counts ≡ tally_of (length symbols) (words_seen symbols (work_in d) (plan_in d) way.seen)
    → nodes ≡ counts_after (work_in d) (map event_seen way.seen) → AreCostsOf symbols work plan r counts nodes
all_counted symbols work plan r c d counts nodes way same on law counts_are nodes_are =
    let w : work_in d ≡ work = same.work ∙ way.work_is in
    let p : plan_in d ≡ plan = same.plan ∙ way.plan_is in
    let k : record_in d ≡ r = same.rec_is ∙ way.rec_is in
    let trace : IsTraceOf work plan r way.seen =
    subst (λ x. IsTraceOf x plan r way.seen) w (subst (λ x. IsTraceOf (work_in d) x r way.seen) p
    (subst (λ x. IsTraceOf (work_in d) (plan_in d) x way.seen) k on.trace)) in
    let told = trace.told in
    let events : map event_seen way.seen ≡ events_told told =
    ap (map event_seen) trace.trace_is
    ∙ seen_all work plan (opening_core work) (map what_told told) trace.whole.made in
    let words = words_told symbols work plan told in
    let are : counts ≡ tally_of (length symbols) words =
    counts_are ∙ (λ j. tally_of (length symbols) (words_seen symbols (w j) (p j) way.seen))
    ∙ ap (λ es. tally_of (length symbols) (words_from symbols work plan (opening_core work) es)) events in
    let sums : AreTotals words counts = subst (AreTotals words) (sym are)
    (law (length symbols) words (all_within symbols work plan (opening_core work) (events_told told))) in
    record {
      told = told;
      whole = trace.whole;
      counts_are = are;
      words = sums.words_are ∙ words_count symbols work plan (opening_core work) (events_told told);
      steps = sums.steps_are ∙ steps_count symbols work plan (opening_core work) (events_told told);
      kinds = sums.kinds_are;
      nodes_are = nodes_are ∙ (λ j. counts_after (w j) (events j));
    }

abbrev IsRefusedAt : Work → Record → ReplayRule → (node entry : ℕ) → Type 0
IsRefusedAt work kept rule node entry = IsFirstBroken work kept rule node entry ⊎ IsUnfinished work kept rule node entry

pub refused_by : (c : Counting) (work : Work) (kept : Record) (rule : ReplayRule) (node entry : ℕ) → work_in c ≡ work
    → record_in c ≡ kept → IsRefusedAt (work_in c) (record_in c) rule node entry → IsRefusedAt work kept rule node entry
refused_by c work kept rule node entry w k h =
    subst (λ x. IsRefusedAt work x rule node entry) k
    (subst (λ x. IsRefusedAt x (record_in c) rule node entry) w h)
