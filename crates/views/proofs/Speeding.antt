-- The runs of a speed-up, by their rows.
use Rattle.std.proofs.Common.{◌≡◌, ℕ, zero, suc, ◌+◌, ◌<◌, ◌≤◌, List, [], ◌∷◌, ◌++◌, length, take, get_or, ap, ◌∙◌, arith, sym}
use Rattle.std.specs.Prelude.{All}
use Rattle.std.proofs.Math.Seq.{take-suc}
use Rattle.std.proofs.lemmas.List.Elements.{All-append}
use Rattle.std.proofs.lemmas.List.FromFn.{length-map-range_with_len}
use Rattle.elf32_read.specs.Elf.{Elf}
use Rattle.templates.specs.declared.plans.PlanEntry.{PlanEntry}
use Rattle.node_model.specs.Node.{Work}
use Rattle.node_model.specs.Core.{opening_core, after}
use Rattle.node_model.specs.Outcome.{Outcome}
use Rattle.timed_sim.specs.declared.costs.Costs.{Costs}
use Rattle.timed_sim.specs.declared.costs.Spent.{Spent}
use Rattle.timed_sim.specs.Clock.{IsOutcomeByClock, clock_of, events_in}
use Rattle.speedup_page.specs.declared.row.Row.{Row}
use Rattle.judged_files.specs.Inputs.{Inputs}
use Rattle.prepared_run.specs.Ready.{GivesRuns, IsAskedWork}
use Rattle.views.specs.Speedup.{AreRowsOf, IsRowOf, row_from}

-- rows, and one more
pub one_row : (inputs : Inputs) (budget : ℕ) (costs : Costs) (ns : List ℕ) (rs : List Row) (n : ℕ)
    (r : Row) → AreRowsOf inputs budget costs ns rs → IsRowOf inputs budget costs n r
    → AreRowsOf inputs budget costs (ns ++ n ∷ []) (rs ++ r ∷ [])
one_row inputs budget costs [] [] n r h row = (row, tt)
one_row inputs budget costs [] (s ∷ ss) n r h row = absurd h
one_row inputs budget costs (m ∷ ms) [] n r h row = absurd h
one_row inputs budget costs (m ∷ ms) (s ∷ ss) n r h row =
    (h.0, one_row inputs budget costs ms ss n r h.1 row)

-- a row that fits, beside others that do
all_one : (P : Row → Type 0) (r : Row) → P r → All P (r ∷ [])
all_one P r h zero d lt = h
all_one P r h (suc k) d lt = absurd (omega (arith, lt))

pub one_fit : (P : Row → Type 0) (rs : List Row) (r : Row) → All P rs → P r → All P (rs ++ r ∷ [])
one_fit P rs r all h = All-append P rs (r ∷ []) all (all_one P r h)

-- the first numbers, and one more
pub one_count : (ns : List ℕ) (i n : ℕ) → i < length ns → n ≡ get_or ns i n
    → take (i + 1) ns ≡ take i ns ++ n ∷ []
one_count ns i n lt is =
    let next : i + 1 ≡ suc i = omega arith in
    ap (λ k. take k ns) next ∙ take-suc ns i n lt ∙ ap (λ x. take i ns ++ x ∷ []) (sym is)

-- what each of the nodes has spent, which are no more than 16
pub few_spent : (work : Work) (plan : List PlanEntry) (costs : Costs) (o : Outcome)
    (spent : List Spent) (time steps n : ℕ) → IsOutcomeByClock work plan costs o spent time steps
    → work.layout.nodes ≡ n → n ≤ 16 → length spent ≤ 16
few_spent work plan costs o spent time steps n ran count few =
    let len = ap length ran.spent_is ∙ length-map-range_with_len _ 0 work.layout.nodes in
    omega (arith, len, count, few)

-- the row of a run by the clock
pub is_row : (inputs : Inputs) (nodes budget : ℕ) (costs : Costs) (elf : Elf)
    (plan : List PlanEntry) (work : Work) (o : Outcome) (spent : List Spent) (time steps : ℕ)
    (row : Row) → GivesRuns inputs nodes budget work
    → IsAskedWork inputs nodes budget elf plan work
    → IsOutcomeByClock work plan costs o spent time steps → All (λ s. clock_of s ≡ time) spent
    → row ≡ row_from nodes o.ends spent time steps → IsRowOf inputs budget costs nodes row
is_row inputs nodes budget costs elf plan work o spent time steps row gives asked ran sums is = record {
  elf = elf;
  plan = plan;
  work = work;
  asked = asked;
  own = ran.own;
  outcome = o;
  is_run = gives (after work (opening_core work) (events_in ran.run)) ran.own o ran.stands ran.over
      ran.outcome;
  spent = spent;
  time = time;
  steps = steps;
  by_clock = ran;
  sums = sums;
  row_is = is;
}
