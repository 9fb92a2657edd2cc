-- The text of a record, in one of two versions: lines that end with a line feed, of fields with one
-- space between them. Numbers are decimal, without leading zeros.
use Rattle.std.specs.Prelude.{ℕ, ◌+◌, ◌-◌, Bool, true, false, List, [], ◌∷◌, ◌++◌, codes, Option, None, Some}
use Rattle.std.specs.Fmt.{decimal}
use Rattle.rv32_text.specs.Listing.{word_digits}
use Rattle.block_layout.specs.declared.layout.BlockRange.{BlockRange}
use Rattle.node_model.specs.declared.Entry.{Entry}
use Rattle.run_record.specs.declared.Record.{Record}
use Rattle.run_record.specs.declared.line.TakeLine.{TakeLine}
use Rattle.run_record.specs.declared.version.Version.{Version}
use Rattle.run_record.specs.declared.version.Version.TheVariants.{First, Second}

-- the end of a line: what stands before a number, and the number
abbrev pub number_line : List ℕ → ℕ → List ℕ
number_line before number = before ++ (decimal number ++ codes "\n")

-- a record that names the number of rewritten words has the second version, and else the first
abbrev pub version_of : Option ℕ → Version
version_of None = First
version_of (Some words) = Second

abbrev pub version_line : Version → List ℕ
version_line First = codes "shasta-record 1\n"
version_line Second = codes "shasta-record 2\n"

-- 1 where checks were batched, and 0 where they weren't
abbrev pub batch_line : Bool → List ℕ
batch_line true = codes "batch 1\n"
batch_line false = codes "batch 0\n"

-- the number of rewritten words, where the record names it
abbrev pub code_line : Option ℕ → List ℕ
code_line None = []
code_line (Some words) = number_line (codes "code ") words

-- the nodes, the budget, the batching and the rewritten words
abbrev pub settings : Record → List ℕ
settings r =
    number_line (codes "nodes ") r.nodes
    ++ (number_line (codes "budget ") r.budget ++ (batch_line r.batch ++ code_line r.code))

-- the lines before those of the blocks
abbrev pub head : Record → List ℕ
head r = version_line (version_of r.code) ++ settings r

-- the end of a range's line: the number of the home of its blocks, or a star for none
abbrev pub home_end : Option ℕ → List ℕ
home_end None = codes " *\n"
home_end (Some node) = number_line (codes " ") node

-- the line of a range: its start, its length, the size of a block and the home
abbrev pub block_line : BlockRange → List ℕ
block_line r =
    codes "block 0x" ++ (word_digits r.start ++ (codes " 0x" ++ (word_digits r.length
    ++ (codes " " ++ (decimal r.block ++ home_end r.home)))))

abbrev pub block_lines : List BlockRange → List ℕ
block_lines [] = []
block_lines (r ∷ rs) = block_line r ++ block_lines rs

-- the line of a take: its stamp or its gap, the sender, and the words executed since the take
-- before
abbrev pub take_line : TakeLine → List ℕ
take_line t =
    codes "take " ++ (decimal t.stamp_or_gap ++ (codes " " ++ (decimal t.from
    ++ number_line (codes " ") t.words)))

-- the least stamp of a take after the stamp of the node's last take: each of the words executed
-- since then, and the take itself, have stamps of their own
abbrev pub least_stamp : (last words : ℕ) → ℕ
least_stamp last words = last + words + 1

-- the first version tells a take's stamp, and the second its gap: how far it is above the least
abbrev pub stamp_or_gap_of : Version → (last : ℕ) → Entry → ℕ
stamp_or_gap_of First last e = e.stamp
stamp_or_gap_of Second last e = e.stamp - least_stamp last e.words

-- what the line of a take says, after the stamp of the node's last take
abbrev pub told_of : Version → (last : ℕ) → Entry → TakeLine
told_of version last e =
    record { stamp_or_gap = stamp_or_gap_of version last e; from = e.from; words = e.words }

abbrev pub take_lines : Version → (last : ℕ) → List Entry → List ℕ
take_lines version last [] = []
take_lines version last (e ∷ es) =
    take_line (told_of version last e) ++ take_lines version e.stamp es

-- for each node, from this number on: its number, its takes, the first after stamp 0, and an end
abbrev pub journal_lines : Version → ℕ → List (List Entry) → List ℕ
journal_lines version node [] = []
journal_lines version node (es ∷ more) =
    number_line (codes "node ") node ++ (take_lines version 0 es
    ++ (codes "end\n" ++ journal_lines version (node + 1) more))

-- the whole text
unfoldable pub record_text : Record → List ℕ
record_text r =
    head r ++ (block_lines r.blocks ++ journal_lines (version_of r.code) 0 r.journals)
