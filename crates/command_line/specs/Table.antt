-- Helps the code alone: its options, by their words and kinds, and those of each command and
-- view.
use Rattle.std.specs.Prelude.{ℕ, ◌-◌, ◌^◌, Bool, false, List, [], ◌∷◌, None, codes, drop, map}
use Rattle.command_line.specs.declared.table.Access.TheVariants as access
use Rattle.command_line.specs.declared.table.CommandWord.{CommandWord}
use Rattle.command_line.specs.declared.table.CommandWord.TheVariants as word
use Rattle.command_line.specs.declared.table.Kind.{Kind}
use Rattle.command_line.specs.declared.table.Kind.TheVariants.{Number, MaybeNumber, MaybeAddress, File, Flag}
use Rattle.command_line.specs.declared.table.Setting.{Setting}
use Rattle.command_line.specs.declared.table.Setting.TheVariants.{Nodes, Order, Budget, Layout, Code, Verify, Record, Brief, NoBatch, Loss, PerNode, From, To, Block, Node, Latency, Line, Handling, Memory}
use Rattle.command_line.specs.declared.table.ViewWord.{ViewWord}
use Rattle.command_line.specs.declared.table.ViewWord.TheVariants as view
use Rattle.command_line.specs.Tasks.{Saying}
use Rattle.command_line.specs.Tasks as saying
use Rattle.command_line.specs.Asks.{takes_value}

-- the word of an option
abbrev pub option_word : Setting → List ℕ
option_word Nodes = codes "--nodes"
option_word Order = codes "--order"
option_word Budget = codes "--budget"
option_word Layout = codes "--layout"
option_word Code = codes "--code"
option_word Verify = codes "--verify"
option_word Record = codes "--record"
option_word Brief = codes "--brief"
option_word NoBatch = codes "--no-batch"
option_word Loss = codes "--loss"
option_word PerNode = codes "--per-node"
option_word From = codes "--from"
option_word To = codes "--to"
option_word Block = codes "--block"
option_word Node = codes "--node"
option_word Latency = codes "--latency"
option_word Line = codes "--line"
option_word Handling = codes "--handling"
option_word Memory = codes "--memory"

-- what an option is given
abbrev pub kind_of : Setting → Kind
kind_of Nodes = Number 1 16 1
kind_of Order = Number 0 (2 ^ 32 - 1) 0
kind_of Budget = Number 1 (2 ^ 32) 100000000
kind_of Layout = File access.Read
kind_of Code = File access.Read
kind_of Verify = File access.Read
kind_of Record = File access.Write
kind_of Brief = Flag
kind_of NoBatch = Flag
kind_of Loss = MaybeNumber 0 (2 ^ 32 - 1)
kind_of PerNode = MaybeNumber 2 4
kind_of From = MaybeNumber 0 (2 ^ 56 - 1)
kind_of To = MaybeNumber 0 (2 ^ 56 - 1)
kind_of Block = MaybeAddress
kind_of Node = MaybeNumber 0 15
kind_of Latency = Number 0 1000000 1200
kind_of Line = Number 0 1000000 300
kind_of Handling = Number 0 1000000 300
kind_of Memory = Number 0 1000000 300

-- what an option of a kind says where it is left out
abbrev pub left_out : Kind → Saying
left_out (Number low high default) = saying.Number low high default default
left_out (MaybeNumber low high) = saying.MaybeNumber low high None
left_out MaybeAddress = saying.MaybeAddress None
left_out (File access.Read) = saying.Read None
left_out (File access.Write) = saying.Write None
left_out Flag = saying.Flag false

-- whether an option takes a value
abbrev pub is_valued : Setting → Bool
is_valued setting = takes_value (left_out (kind_of setting))

-- options by their words, and whether each takes a value
abbrev pub offered : List Setting → List (List ℕ × Bool)
offered settings = map (λ s. (option_word s, is_valued s)) settings

-- the name of an option, without its dashes
abbrev pub name_of : Setting → List ℕ
name_of setting = drop 2 (option_word setting)

-- the text of a command's word, and the command's options
abbrev pub text_of : CommandWord → List ℕ
text_of word.Rewrite = codes "rewrite"
text_of word.Run = codes "run"
text_of word.List = codes "list"
text_of word.One = codes "one"
text_of word.Sim = codes "sim"
text_of word.Replay = codes "replay"
text_of word.Generate = codes "gen"
text_of word.Assemble = codes "asm"

abbrev pub execution_settings : List Setting
execution_settings = Nodes ∷ Budget ∷ Code ∷ Verify ∷ Layout ∷ Brief ∷ NoBatch ∷ []

abbrev pub settings_of : CommandWord → List Setting
settings_of word.Rewrite = NoBatch ∷ []
settings_of word.Run = Record ∷ execution_settings
settings_of word.List = []
settings_of word.One = Nodes ∷ Order ∷ Budget ∷ Layout ∷ []
settings_of word.Sim = Order ∷ Loss ∷ PerNode ∷ execution_settings
settings_of word.Replay = Verify ∷ Brief ∷ []
settings_of word.Generate = []
settings_of word.Assemble = []

-- the text of a view's word, and the view's options
abbrev pub view_text : ViewWord → List ℕ
view_text view.Help = codes "--help"
view_text view.Code = codes "code"
view_text view.Trace = codes "trace"
view_text view.Blocks = codes "blocks"
view_text view.Page = codes "page"
view_text view.Time = codes "time"
view_text view.Cost = codes "cost"
view_text view.Speedup = codes "speedup"
view_text view.Gdb = codes "gdb"

abbrev pub time_settings : List Setting
time_settings = Nodes ∷ Budget ∷ Verify ∷ Layout ∷ NoBatch ∷ Latency ∷ Line ∷ Handling ∷ []

abbrev pub view_settings : ViewWord → List Setting
view_settings view.Help = []
view_settings view.Code = Verify ∷ NoBatch ∷ []
view_settings view.Trace = Verify ∷ From ∷ To ∷ Block ∷ Node ∷ []
view_settings view.Blocks = Verify ∷ []
view_settings view.Page = Verify ∷ From ∷ To ∷ []
view_settings view.Time = time_settings
view_settings view.Cost = Verify ∷ NoBatch ∷ []
view_settings view.Speedup = time_settings
view_settings view.Gdb = Verify ∷ Memory ∷ []
