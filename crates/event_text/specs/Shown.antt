-- Which events of a trace have a line, and the text of a trace.
use Rattle.std.specs.Prelude.{ℕ, Bool, true, false, ◌&&◌, ◌||◌, ◌==◌, nat_le, List, [], ◌∷◌, ◌++◌, filter, Option, is_some, option_and_then, codes}
use Rattle.std.specs.Option.{option_map_or}
use Rattle.std.specs.List.{flat_map}
use Rattle.elf32_read.specs.Elf.{Elf}
use Rattle.run_trace.specs.node_machine.declared.wanted.Wanted.{Wanted}
use Rattle.run_trace.specs.declared.traced.Accessed.{Accessed}
use Rattle.run_trace.specs.Traced.{OfWord, What, Word, Taken, Traced}
use Rattle.event_text.specs.declared.shown.EventFilter.{EventFilter}
use Rattle.event_text.specs.Events.{event_line}

abbrev pub has_wants : List Wanted → Bool
has_wants [] = false
has_wants (w ∷ ws) = true

abbrev pub block_reached : Option Accessed → Option ℕ
block_reached a = option_and_then (λ (a : Accessed). a.block) a

-- a word that accesses shared memory, wants a block, prints or ends
abbrev pub is_eventful : OfWord → Bool
is_eventful w =
    is_some (block_reached w.access)
    || (has_wants w.wants || (is_some w.printed || is_some w.end))

-- every take, and the words that are asked for
abbrev pub is_of_kind : (words : Bool) → What → Bool
is_of_kind words (Word w) = words || is_eventful w
is_of_kind words (Taken t) = true

abbrev pub is_block : (b : ℕ) → Option ℕ → Bool
is_block b block = option_map_or (λ c. c == b) block false

abbrev pub one_wants : (b : ℕ) → List Wanted → Bool
one_wants b [] = false
one_wants b (w ∷ ws) = is_block b w.block || one_wants b ws

-- a word that accesses the block or wants it, or a message about it
abbrev pub is_about : (b : ℕ) → What → Bool
is_about b (Word w) = is_block b (block_reached w.access) || one_wants b w.wants
is_about b (Taken t) = is_block b t.message.block

-- the event is of a node, where one is asked for
abbrev pub is_of_node : Option ℕ → (node : ℕ) → Bool
is_of_node node i = option_map_or (λ k. k == i) node true

-- an event has a line
abbrev pub is_shown : EventFilter → Traced → Bool
is_shown o x =
    (nat_le o.from x.stamp && nat_le x.stamp o.to)
    && (is_of_node o.node x.node
    && (option_map_or (λ b. is_about b x.what) o.block true && is_of_kind o.words x.what))

-- the events that have one
abbrev pub shown : EventFilter → List Traced → List Traced
shown o trace = filter (is_shown o) trace

-- the first line
abbrev pub head : List ℕ
head = codes "stamp node: what it did\n"

-- the text of a trace
abbrev pub trace_text : Elf → EventFilter → List Traced → List ℕ
trace_text elf o trace = head ++ flat_map (event_line elf) (shown o trace)
