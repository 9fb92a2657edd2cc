-- What the words of rewritten code are there for.
use Rattle.std.specs.Prelude.{ℕ, ◌==◌, if◌then◌else◌, Bool, false, List, ◌++◌, Option, map}
use Rattle.rv32_decode.specs.declared.LoadKind.TheVariants as load_kind
use Rattle.rv32_decode.specs.declared.Width.TheVariants.{Word}
use Rattle.rv32_decode.specs.declared.Instr.{Instr}
use Rattle.rv32_decode.specs.declared.Instr.TheVariants as instr
use Rattle.runtime_words.specs.declared.RtWord.TheVariants as word
use Rattle.templates.specs.declared.commits.CommitKind.{CommitKind}
use Rattle.templates.specs.declared.commits.CommitKind.TheVariants.{Never}
use Rattle.templates.specs.declared.places.Part.{Part}
use Rattle.templates.specs.declared.places.Part.TheVariants.{Single, Head, Fast, Fallback}
use Rattle.templates.specs.declared.plans.Template.{Template}
use Rattle.templates.specs.declared.plans.Template.TheVariants as template
use Rattle.templates.specs.declared.plans.PlanEntry.{PlanEntry}
use Rattle.templates.specs.Sequences.{ItemWord, Runs, SequenceItem, items_in}
use Rattle.check_costs.specs.declared.kinds.WordKind.{WordKind}
use Rattle.check_costs.specs.declared.kinds.WordKind.TheVariants.{Own, FlagCheck, StateCheck, StoreCheck, Batch, Poll, Jump, Spill}

-- 1. A word

-- a register goes to a spill word, or comes back: the spill words lie right below address 0
abbrev pub is_spill : Instr → Bool
is_spill (instr.Store Word rs1 rs2 imm) = rs1 == 0
is_spill (instr.Load load_kind.Word rd rs1 imm) = rs1 == 0
is_spill i = false

-- what the words of a place's own sequence are there for that don't commit: they check its access,
-- or lead elsewhere
abbrev pub check_of : Template → WordKind
check_of template.FlagLoad = FlagCheck
check_of template.StateLoad = StateCheck
check_of template.Store = StoreCheck
check_of template.StoreCond = StoreCheck
check_of t = Jump

abbrev pub served_by : Template → Part → WordKind
served_by t Single = check_of t
served_by t part = Batch

-- a poll polls, and a place without code has a trap; each other word that commits stands for the
-- original's own; the rest spill registers, or serve the place as its template says
abbrev pub kind_by : Template → Part → ItemWord → CommitKind → WordKind
kind_by t part (Runs word.Poll) commit = Poll
kind_by t part (Runs word.TrapFetch) commit = Jump
kind_by t part (Runs (word.Native i)) Never = if is_spill i then Spill else served_by t part
kind_by t part what Never = served_by t part
kind_by t part what commit = Own

abbrev pub kind_of : Template → Part → SequenceItem → WordKind
kind_of t part i = kind_by t part i.what i.commit

-- 2. The words of an entry

-- those of a part of its sequences, in this code
abbrev pub kinds_in : (ℕ → Option Instr) → PlanEntry → Part → List WordKind
kinds_in code e part = map (kind_of e.template part) (items_in code e part)

-- all of them, in the order of rewritten code
abbrev pub kinds_of : (ℕ → Option Instr) → PlanEntry → List WordKind
kinds_of code e =
    kinds_in code e Head ++ (kinds_in code e Fast
    ++ (kinds_in code e Fallback ++ kinds_in code e Single))
