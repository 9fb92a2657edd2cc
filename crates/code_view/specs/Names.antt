-- The names that the text of rewritten code uses.
use Rattle.std.specs.Prelude.{ℕ, Bool, true, false, List, codes}
use Rattle.rv32_decode.specs.declared.Width.{Width}
use Rattle.rv32_decode.specs.declared.Width.TheVariants.{Byte, Half, Word}
use Rattle.templates.specs.declared.commits.CommitKind.{CommitKind}
use Rattle.templates.specs.declared.commits.CommitKind.TheVariants.{Never, Always, IfNotFlag, IfNoWait}
use Rattle.templates.specs.declared.places.Part.{Part}
use Rattle.templates.specs.declared.places.Part.TheVariants.{Single, Head, Fast, Fallback}
use Rattle.templates.specs.declared.plans.Template.{Template}
use Rattle.templates.specs.declared.plans.Template.TheVariants.{Plain, Const, Branch, BranchBad, Jump, JumpBad, Indirect, Call, Trap, Stop, FlagLoad, StateLoad, Store, StoreCond}

-- how a place is served
abbrev pub template_name : Template → List ℕ
template_name Plain = codes "as it is"
template_name Const = codes "constant"
template_name Branch = codes "branch"
template_name BranchBad = codes "branch to no place"
template_name Jump = codes "jump"
template_name JumpBad = codes "jump to no place"
template_name Indirect = codes "indirect jump"
template_name Call = codes "call"
template_name Trap = codes "trap"
template_name Stop = codes "stop"
template_name FlagLoad = codes "load by its value"
template_name StateLoad = codes "load by the line's state"
template_name Store = codes "store"
template_name StoreCond = codes "conditional store"

-- a part of a place's sequences, in eight characters
abbrev pub part_name : Part → List ℕ
part_name Single = codes "single  "
part_name Head = codes "head    "
part_name Fast = codes "fast    "
part_name Fallback = codes "fallback"

-- whether a word commits a step of the original
abbrev pub commit_mark : CommitKind → List ℕ
commit_mark Never = codes "."
commit_mark Always = codes "*"
commit_mark IfNotFlag = codes "?"
commit_mark IfNoWait = codes "~"

-- how many bytes a miss is of
abbrev pub width_letter : Width → List ℕ
width_letter Byte = codes "b"
width_letter Half = codes "h"
width_letter Word = codes "w"

-- whether a run stores
abbrev pub batch_name : Bool → List ℕ
batch_name true = codes "batch.w"
batch_name false = codes "batch.r"
