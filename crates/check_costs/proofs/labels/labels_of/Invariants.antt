use Rattle.std.proofs.Common.{◌≡◌, ◌∷◌, ℕ, drop, take}
use Rattle.std.specs.List.{flat_map}
use Rattle.templates.specs.Code.{code_of}
use Rattle.templates.specs.Plans.{AscendsFrom}
use Rattle.check_costs.specs.Sweep.{HasCome}
use Rattle.check_costs.specs.Tally.{first_label, labels_at}
use Rattle.check_costs.proofs.labels.labels_of.Given as goal

-- the labels are those of the entries so far, and the sweep has come no further than the next
abbrev pub invariant-loop-entry : goal.invariant-loop-entry
invariant-loop-entry l = record {
  come : (before : ℕ) × HasCome l.symbols before l.functions
      × AscendsFrom before (drop l.entry-index l.plan);
  labels : l.labels.items ≡ first_label l.symbols
      ∷ flat_map (labels_at l.symbols (code_of l.code)) (take l.entry-index l.plan);
}
