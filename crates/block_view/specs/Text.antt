-- The lines of blocks.
use Rattle.std.specs.Prelude.{◌≡◌, ℕ, ◌+◌, ◌-◌, ◌*◌, ◌<◌, Bool, false, nat_lt, if◌then◌else◌, All, List, [], ◌∷◌, ◌++◌, length, map, replicate, unwrap_or, Option, None, Some, codes}
use Rattle.std.specs.List.{range_with_len, flat_map}
use Rattle.std.specs.List.Sorted.{IsStrictlySortedBy}
use Rattle.std.specs.Fmt.{decimal, digits}
use Rattle.std.specs.Ordering.{nat_cmp}
use Rattle.std.specs.BTreeMap.{is_at}
use Rattle.std.specs.Map.{keys_of, lookup}
use Rattle.elf_symbols.specs.Shown.{shown_byte}
use Rattle.elf_symbols.specs.Symbols.{Symbol, symbol_at}
use Rattle.rv32_text.specs.Listing.{word_digits}
use Rattle.block_layout.specs.Layout.{Shape, blocks, first_line, lines, home}
use Rattle.node_model.specs.declared.NodeCounts.{NodeCounts}
use Rattle.event_text.specs.run_trace.Traced.{Traced}
use Rattle.block_view.specs.declared.order.Ranked.{Ranked}
use Rattle.block_view.specs.Counts.{block_counts, misses_of, times}
use Rattle.block_view.specs.Order.{costly, IsOrder}
use Rattle.block_view.specs.Sharing.{is_falsely_shared}

-- the line that says what stands in the column
unfoldable pub head : List ℕ
head = codes "messages  about a block, of a node about it, of code that asks for it; most first\n"

-- a number at the left of its column
abbrev pub columned : ℕ → List ℕ
columned n = decimal n ++ replicate (10 - length (decimal n)) 32

-- the first and the last address of a block
abbrev pub range_text : Shape → (b : ℕ) → List ℕ
range_text layout b =
    word_digits (64 * first_line layout b) ++ (codes "-"
    ++ word_digits (64 * first_line layout b + (64 * lines layout b - 1)))

-- the line of a block
abbrev pub block_line : Shape → Ranked → List ℕ
block_line layout r =
    columned r.cost ++ (range_text layout r.block ++ (codes " home "
    ++ (decimal (home layout r.block) ++ codes "\n")))

-- the line that says that a block is falsely shared
unfoldable pub sharing_words : List ℕ
sharing_words = codes "            false sharing: nodes write here, each at words of its own\n"

abbrev pub sharing_line : (shared : Bool) → List ℕ
sharing_line shared = if shared then sharing_words else []

abbrev pub counts_text : NodeCounts → List ℕ
counts_text c =
    codes " read " ++ (decimal c.read ++ (codes " exclusive " ++ (decimal c.exclusive
    ++ (codes " upgrade " ++ (decimal c.upgrade ++ (codes " invalidations "
    ++ (decimal c.invalidations ++ codes "\n")))))))

-- the line of a node that has sent messages about the block
abbrev pub node_line : (node : ℕ) → NodeCounts → List ℕ
node_line i c = if nat_lt 0 c.messages
    then columned c.messages ++ (codes "  node " ++ (decimal i ++ counts_text c)) else []

abbrev pub node_lines : (ℕ → NodeCounts) → (nodes : ℕ) → List ℕ
node_lines counts n = flat_map (λ i. node_line i (counts i)) (range_with_len 0 n)

-- a function, and how far after its first byte an address is
abbrev pub function_text : (address : ℕ) → Option Symbol → List ℕ
function_text a None = []
function_text a (Some s) =
    codes " " ++ (map shown_byte s.name ++ (codes "+0x" ++ digits 16 false (a - s.value)))

-- the line of an address of the original, whose code has asked so often
abbrev pub site_line : (symbols : List Symbol) → (address times : ℕ) → List ℕ
site_line symbols a n =
    columned n ++ (codes "  code " ++ (word_digits a
    ++ (function_text a (symbol_at symbols a) ++ codes "\n")))

abbrev pub site_lines : (symbols : List Symbol) → List (ℕ × ℕ) → List ℕ
site_lines symbols [] = []
site_lines symbols (s ∷ ss) = site_line symbols s.0 s.1 ++ site_lines symbols ss

-- what is said of a block: whether it is falsely shared, what each node counts of it, and which
-- code has asked for it how often
pub record Section : Type 0 where
  pub shared : Bool
  pub counts : ℕ → NodeCounts
  pub sites : List (ℕ × ℕ)

-- the lines of a block
abbrev pub block_text : Shape → (symbols : List Symbol) → Section → Ranked → List ℕ
block_text layout symbols s r =
    block_line layout r ++ (sharing_line s.shared
    ++ (node_lines s.counts layout.nodes ++ site_lines symbols s.sites))

abbrev pub block_lines : Shape → (symbols : List Symbol) → (ℕ → Section) → List Ranked → List ℕ
block_lines layout symbols sections [] = []
block_lines layout symbols sections (r ∷ rs) =
    block_text layout symbols (sections r.block) r ++ block_lines layout symbols sections rs

-- how often an address stands there
abbrev pub found : (address : ℕ) → List (ℕ × ℕ) → Option ℕ
found a sites = lookup (is_at (nat_cmp a)) sites

-- an address that stands there has been asked from
abbrev pub IsNoted : (times : Option ℕ) → Type 0
IsNoted None = Unit {0}
IsNoted (Some n) = 0 < n

-- the addresses ascend
abbrev pub IsAscending : List (ℕ × ℕ) → Type 0
IsAscending sites = IsStrictlySortedBy nat_cmp (keys_of sites)

-- the addresses among these places, ascending, each with how often it is there
pub record AreSites (places : List ℕ) (sites : List (ℕ × ℕ)) : Type 0 where
  pub each : (a : ℕ) → unwrap_or (found a sites) 0 ≡ times a places
  pub some : (a : ℕ) → IsNoted (found a sites)
  pub ascending : IsAscending sites

-- what is said of a block of a trace, of which these are the addresses
abbrev pub section_of : (b : ℕ) → List Traced → (sites : List (ℕ × ℕ)) → Section
section_of b seen sites = record {
  shared = is_falsely_shared b seen;
  counts = λ i. block_counts b i seen;
  sites = sites;
}

-- the lines of a trace were appended
pub record IsBlocksText
    (layout : Shape) (symbols : List Symbol) (seen : List Traced) (old new : List ℕ) : Type 0 where
  pub ranked : List Ranked
  pub order : IsOrder (costly layout.nodes (blocks layout) seen) ranked
  pub sites : ℕ → List (ℕ × ℕ)
  pub each : All (λ r. AreSites (misses_of r.block seen) (sites r.block)) ranked
  pub text :
      new ≡ old ++ (head
      ++ block_lines layout symbols (λ b. section_of b seen (sites b)) ranked)
