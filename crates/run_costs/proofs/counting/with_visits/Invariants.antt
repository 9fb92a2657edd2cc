use Rattle.std.proofs.Common.{◌≡◌, ◌++◌, ℕ, List, take}
use Rattle.std.specs.Prelude.{slice_index_or}
use Rattle.check_costs.specs.declared.labels.Label.{Label}
use Rattle.check_costs.specs.Given.{IsTallyOf}
use Rattle.check_costs.specs.Tally.{Executed}
use Rattle.word_visits.specs.VisitTables.{visits_of}
use Rattle.run_trace.specs.Tracing.{kinds_traced}
use Rattle.run_costs.specs.Counting.{word_by, words_by}
use Rattle.run_costs.proofs.counting.with_visits.Given as goal

-- the words of the numbers so far were added
abbrev pub invariant-loop-number : goal.invariant-loop-number
invariant-loop-number l =
    (first : Label) (functions : ℕ) (words : List Executed) → slice_index_or l.labels 0 first ≡ first
    → IsTallyOf functions words l.initial.tally → IsTallyOf functions
    (words ++ words_by (word_by first l.labels (kinds_traced l.tracer)) 0 (take l.number (visits_of l.visits))) l.tally
