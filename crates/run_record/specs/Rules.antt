-- Why a text is no record's: the first line that breaks a rule, and the lowest rule that it breaks.
use Rattle.std.specs.Prelude.{◌≡◌, ℕ, ◌+◌, ◌^◌, ◌<◌, ◌≤◌, Bool, ◌==◌, if◌then◌else◌, List, [], ◌∷◌, codes, ◌⊎◌}
use Rattle.std.specs.List.{onto_first}
use Rattle.block_layout.specs.declared.layout.BlockRange.{BlockRange}
use Rattle.node_model.specs.declared.Entry.{Entry}
use Rattle.run_limits.specs.Ranges.{IsNodeCount, IsBudget}
use Rattle.run_record.specs.declared.line.TakeLine.{TakeLine}
use Rattle.run_record.specs.declared.refused.RecordRule.{RecordRule}
use Rattle.run_record.specs.declared.refused.RecordRule.TheVariants as rules
use Rattle.run_record.specs.declared.version.Version.{Version as Versions}
use Rattle.run_record.specs.declared.version.Version.TheVariants.{First, Second}
use Rattle.run_record.specs.Record.{IsBlockLine, IsTakeBehind, IsCodeLength}
use Rattle.run_record.specs.Telling.{HasWords}
use Rattle.run_record.specs.Text.{number_line, batch_line, block_line, take_line, least_stamp}

-- the numbers of the rules
abbrev pub number_of : RecordRule → ℕ
number_of rules.Syntax = 40
number_of rules.Stamps = 41
number_of rules.Node = 42
number_of rules.Version = 43
number_of rules.Code = 47

-- the lines of a text, each with its line feed; the last may lack it
abbrev pub text_lines : List ℕ → List (List ℕ)
text_lines [] = []
text_lines (c ∷ cs) =
    if c == 10 then (c ∷ []) ∷ text_lines cs else onto_first c (text_lines cs)

-- the line that is awaited after others, or nothing after the last one: those of the head, where
-- the version and the number of nodes are known after their own lines; a range, or the first node;
-- the node of this number; a take of the node after its last stamp, or its end
pub data Awaits : Type 0 where
  Version : Awaits
  Nodes : (version : Versions) → Awaits
  Budget : (version : Versions) → (nodes : ℕ) → Awaits
  Batch : (version : Versions) → (nodes : ℕ) → Awaits
  Code : (nodes : ℕ) → Awaits
  Range : (version : Versions) → (nodes : ℕ) → Awaits
  Node : (version : Versions) → (nodes node : ℕ) → Awaits
  Take : (version : Versions) → (nodes node last : ℕ) → Awaits
  Nothing : Awaits

-- the numbers of the versions
abbrev pub number_of_version : Versions → ℕ
number_of_version First = 1
number_of_version Second = 2

-- after the batching, the second version names the number of rewritten words
abbrev pub awaited_behind_batch : Versions → (nodes : ℕ) → Awaits
awaited_behind_batch First nodes = Range First nodes
awaited_behind_batch Second nodes = Code nodes

-- the line has this word and a number below 2^63
pub record HasNumber (line word : List ℕ) (number : ℕ) : Type 0 where
  pub line_is : line ≡ number_line word number
  pub low : number < 2 ^ 63

-- the line is that of the range, in the digits that it may have
pub record HasRange (line : List ℕ) (r : BlockRange) : Type 0 where
  pub line_is : line ≡ block_line r
  pub digits : IsBlockLine r
  pub words : HasWords r

-- the line is that of a take, whose numbers are below 2^63
pub record HasTake (line : List ℕ) (t : TakeLine) : Type 0 where
  pub line_is : line ≡ take_line t
  pub stamp_or_gap : t.stamp_or_gap < 2 ^ 63
  pub from : t.from < 2 ^ 63
  pub words : t.words < 2 ^ 63

-- the stamp that a take has by its line, after the stamp of the node's last take
abbrev pub stamp_of : Versions → (last : ℕ) → TakeLine → ℕ
stamp_of First last t = t.stamp_or_gap
stamp_of Second last t = least_stamp last t.words + t.stamp_or_gap

-- the take that a line tells of
abbrev pub entry_of : Versions → (last : ℕ) → TakeLine → Entry
entry_of version last t =
    record { stamp = stamp_of version last t; from = t.from; words = t.words }

-- a stamp that is below the least, or a gap by which the stamp isn't below 2^63
abbrev pub HasBadStamp : Versions → (last : ℕ) → TakeLine → Type 0
HasBadStamp First last t = stamp_of First last t < least_stamp last t.words
HasBadStamp Second last t = 2 ^ 63 ≤ stamp_of Second last t

-- the line of a node with any number
abbrev pub IsNodeLine : List ℕ → Type 0
IsNodeLine line = (number : ℕ) × HasNumber line (codes "node ") number

-- the line is in the grammar where this is awaited
abbrev pub IsInGrammar : Awaits → List ℕ → Type 0
IsInGrammar Version line = (number : ℕ) × HasNumber line (codes "shasta-record ") number
IsInGrammar (Nodes version) line = (number : ℕ) × HasNumber line (codes "nodes ") number
IsInGrammar (Budget version nodes) line =
    (number : ℕ) × (line ≡ number_line (codes "budget ") number) × IsBudget number
IsInGrammar (Batch version nodes) line = (batch : Bool) × (line ≡ batch_line batch)
IsInGrammar (Code nodes) line =
    (words : ℕ) × (line ≡ number_line (codes "code ") words) × IsCodeLength words
IsInGrammar (Range version nodes) line = ((r : BlockRange) × HasRange line r) ⊎ IsNodeLine line
IsInGrammar (Node version nodes node) line = IsNodeLine line
IsInGrammar (Take version nodes node last) line =
    ((t : TakeLine) × HasTake line t) ⊎ (line ≡ codes "end\n")
IsInGrammar Nothing line = ⊥

-- the line of a node has a number that isn't the next one
abbrev pub IsOtherNode : ℕ → List ℕ → Type 0
IsOtherNode node line =
    (number : ℕ) × HasNumber line (codes "node ") number × (number ≡ node → ⊥)

-- the line breaks the rule where this is awaited
abbrev pub Breaks : Awaits → List ℕ → RecordRule → Type 0
Breaks awaited line rules.Syntax = IsInGrammar awaited line → ⊥
Breaks Version line rules.Version =
    (number : ℕ) × HasNumber line (codes "shasta-record ") number
    × ((version : Versions) → number ≡ number_of_version version → ⊥)
Breaks (Nodes version) line rules.Node =
    (number : ℕ) × HasNumber line (codes "nodes ") number × (IsNodeCount number → ⊥)
Breaks (Range version nodes) line rules.Node = IsOtherNode 0 line
Breaks (Node version nodes node) line rules.Node = IsOtherNode node line
Breaks (Take version nodes node last) line rules.Node =
    (t : TakeLine) × HasTake line t × (nodes ≤ t.from)
Breaks (Take version nodes node last) line rules.Stamps =
    (t : TakeLine) × HasTake line t × HasBadStamp version last t
Breaks awaited line rule = ⊥

-- the rule is the lowest that the line breaks
pub record IsBroken (awaited : Awaits) (line : List ℕ) (rule : RecordRule) : Type 0 where
  pub breaks : Breaks awaited line rule
  pub lowest : (other : RecordRule) → number_of other < number_of rule →
      Breaks awaited line other → ⊥

-- the next node, or nothing after the last one
abbrev pub node_awaited : Versions → (nodes node : ℕ) → Awaits
node_awaited version nodes node = if node == nodes then Nothing else Node version nodes node

-- the line breaks no rule where the first is awaited, and the second is awaited after it
abbrev pub Leads : Awaits → List ℕ → Awaits → Type 0
Leads Version line next =
    (version : Versions) × HasNumber line (codes "shasta-record ") (number_of_version version)
    × (next ≡ Nodes version)
Leads (Nodes version) line next =
    (n : ℕ) × HasNumber line (codes "nodes ") n × IsNodeCount n × (next ≡ Budget version n)
Leads (Budget version nodes) line next =
    (n : ℕ) × (line ≡ number_line (codes "budget ") n) × IsBudget n
    × (next ≡ Batch version nodes)
Leads (Batch version nodes) line next =
    (b : Bool) × (line ≡ batch_line b) × (next ≡ awaited_behind_batch version nodes)
Leads (Code nodes) line next =
    (words : ℕ) × (line ≡ number_line (codes "code ") words) × IsCodeLength words
    × (next ≡ Range Second nodes)
Leads (Range version nodes) line next =
    ((r : BlockRange) × HasRange line r × (next ≡ Range version nodes))
    ⊎ (HasNumber line (codes "node ") 0 × (next ≡ Take version nodes 0 0))
Leads (Node version nodes node) line next =
    HasNumber line (codes "node ") node × (next ≡ Take version nodes node 0)
Leads (Take version nodes node last) line next =
    ((t : TakeLine) × HasTake line t × IsTakeBehind nodes last (entry_of version last t)
    × (next ≡ Take version nodes node (stamp_of version last t)))
    ⊎ ((line ≡ codes "end\n") × (next ≡ node_awaited version nodes (node + 1)))
Leads Nothing line next = ⊥

-- the first line that breaks a rule, of lines of which the first has this number, and the lowest
-- rule that it breaks; where lines end too early, the line after them breaks the first rule
abbrev pub IsFirstBroken : Awaits → ℕ → List (List ℕ) → RecordRule → ℕ → Type 0
IsFirstBroken awaited first [] rule number =
    (awaited ≡ Nothing → ⊥) × (rule ≡ rules.Syntax) × (number ≡ first)
IsFirstBroken awaited first (line ∷ lines) rule number =
    (IsBroken awaited line rule × (number ≡ first))
    ⊎ ((next : Awaits) × Leads awaited line next
    × IsFirstBroken next (first + 1) lines rule number)

-- the first line of a text that breaks a rule, counted from 1
abbrev pub IsFirstFault : List ℕ → RecordRule → ℕ → Type 0
IsFirstFault text rule number = IsFirstBroken Version 1 (text_lines text) rule number
