-- What is looked for among the events of a page.
use Rattle.std.specs.Prelude.{ℕ, Bool, false, ◌&&◌, ◌||◌, ◌==◌, nat_lt, List, [], ◌∷◌, filter, length, Option, None, option_and_then, position}
use Rattle.std.specs.List.{list_any}
use Rattle.event_text.specs.node_machine.declared.wanted.Wanted.{Wanted}
use Rattle.event_text.specs.run_trace.declared.traced.Accessed.{Accessed}
use Rattle.event_text.specs.run_trace.Misses.{is_miss}
use Rattle.event_text.specs.run_trace.Traced.{What, Word, Taken, Traced}
use Rattle.event_text.specs.Shown.{block_reached, is_block}
use Rattle.page_events.specs.declared.sought.Sought.{Sought}
use Rattle.page_events.specs.declared.sought.Sought.TheVariants.{Event, GoesOn, Misses, Takes, About, MissOf, TakeOf}

-- 1. What an event is about

abbrev pub block_wanted : Option Wanted → Option ℕ
block_wanted w = option_and_then (λ (w : Wanted). w.block) w

-- the block of a word's first want, else of its access
abbrev pub first_of : List Wanted → Option Accessed → Option ℕ
first_of [] access = block_reached access
first_of (w ∷ ws) access = w.block

abbrev pub second_of : List Wanted → Option ℕ
second_of (w ∷ v ∷ vs) = v.block
second_of ws = None

-- the block that an event is about, and another, which a word may want
abbrev pub first_block : What → Option ℕ
first_block (Word w) = first_of w.wants w.access
first_block (Taken t) = t.message.block

abbrev pub other_block : What → Option ℕ
other_block (Word w) = second_of w.wants
other_block (Taken t) = None

abbrev pub is_about : (b : ℕ) → What → Bool
is_about b what = is_block b (first_block what) || is_block b (other_block what)

-- 2. Misses and takes

-- a want that asks for this block
abbrev pub asks_for : (b : ℕ) → Wanted → Bool
asks_for b w = w.asks && is_block b w.block

abbrev pub one_asks_for : (b : ℕ) → List Wanted → Bool
one_asks_for b ws = list_any (asks_for b) ws

abbrev pub is_miss_of : (b : ℕ) → What → Bool
is_miss_of b (Word w) = one_asks_for b w.wants
is_miss_of b (Taken t) = false

-- a message after which the node waits no more
abbrev pub goes_on : What → Bool
goes_on (Word w) = false
goes_on (Taken t) = t.resumes

abbrev pub is_take_of : (b : ℕ) → What → Bool
is_take_of b (Word w) = false
is_take_of b (Taken t) = is_block b t.message.block

-- a message about the block that the node sent with this stamp
abbrev pub is_take_from : (from sent b : ℕ) → What → Bool
is_take_from from sent b (Word w) = false
is_take_from from sent b (Taken t) =
    (t.from == from) && ((t.sent == sent) && is_block b t.message.block)

-- 3. The search

abbrev pub is_sought : Sought → Traced → Bool
is_sought (Event node stamp) x = (x.node == node) && (x.stamp == stamp)
is_sought (GoesOn node after) x = (x.node == node) && (nat_lt after x.stamp && goes_on x.what)
is_sought (Misses node before) x = (x.node == node) && (nat_lt x.stamp before && is_miss x.what)
is_sought (Takes node from sent b) x = (x.node == node) && is_take_from from sent b x.what
is_sought (About b) x = is_about b x.what
is_sought (MissOf b) x = is_miss_of b x.what
is_sought (TakeOf b) x = is_take_of b x.what

-- the row of the first event that is sought
abbrev pub row_of : List Traced → Sought → Option ℕ
row_of events s = position (is_sought s) events

-- how many events are sought
abbrev pub count_of : List Traced → Sought → ℕ
count_of events s = length (filter (is_sought s) events)
