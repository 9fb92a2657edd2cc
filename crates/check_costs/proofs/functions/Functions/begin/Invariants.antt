use Rattle.std.proofs.Common.{◌≡◌, ◌≤◌, ℕ, List}
use Rattle.elf_symbols.specs.Symbols.{Symbol}
use Rattle.check_costs.specs.Sweep.{HasCome}
use Rattle.check_costs.proofs.functions.Functions.begin.Given as goal

-- the sweep has come to the address, and the next function is that of this number
abbrev pub invariant-loop-number : goal.invariant-loop-number
invariant-loop-number l = record {
  sorted : l.self.sorted ≡ l.initial.self.sorted;
  next : l.self.begun ≡ l.number;
  come : (symbols : List Symbol) (before : ℕ) → HasCome symbols before l.initial.self → before ≤ l.address
      → HasCome symbols l.address l.self;
}
