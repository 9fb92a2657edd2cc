-- The numbers of templates, by which a plan is written into a file.
use Rattle.std.specs.Prelude.{ℕ}
use Rattle.templates.specs.declared.plans.Template.{Template}
use Rattle.templates.specs.declared.plans.Template.TheVariants.{Plain, Const, Branch, BranchBad, Jump, JumpBad, Indirect, Call, Trap, Stop, FlagLoad, StateLoad, Store, StoreCond}

abbrev pub number_of : Template → ℕ
number_of Plain = 0
number_of Const = 1
number_of Branch = 2
number_of BranchBad = 3
number_of Jump = 4
number_of JumpBad = 5
number_of Indirect = 6
number_of Call = 7
number_of Trap = 8
number_of Stop = 9
number_of FlagLoad = 10
number_of StateLoad = 11
number_of Store = 12
number_of StoreCond = 13
