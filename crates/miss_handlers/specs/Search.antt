-- Helps the code alone: which messages a wait takes, and where the wait for a block stands.
use Rattle.std.specs.Prelude.{◌≡◌, ◌==◌, ℕ, ◌*◌, ◌<◌, Bool, false, ◌&&◌, nat_lt, nat_le, List, length, slice_index_or, Option, Some, None, is_none}
use Rattle.block_layout.specs.Layout.{blocks, home, lines}
use Rattle.home_directory.specs.state_table.declared.State.{State}
use Rattle.home_directory.specs.dsm_messages.declared.messages.Message.{Message}
use Rattle.home_directory.specs.dsm_messages.declared.messages.Message.TheVariants.{Data, Grant}
use Rattle.home_directory.specs.declared.wait.Wait.{Wait}
use Rattle.home_directory.specs.declared.wait.Answer.{Answer}
use Rattle.home_directory.specs.declared.wait.Answer.TheVariants.{ByData, ByGrant}
use Rattle.home_directory.specs.Table.{is_write, is_shared}
use Rattle.miss_handlers.specs.declared.Waiting.{Waiting}
use Rattle.miss_handlers.specs.Waits.{NodeWaits, wait_in, wait_of}

-- a wait without an answer takes Data
abbrev pub takes_data : Option Wait → Bool
takes_data None = false
takes_data (Some w) = is_none w.answer

-- a wait for writing takes Acks
abbrev pub takes_ack : Option Wait → Bool
takes_ack None = false
takes_ack (Some w) = is_write w.need && nat_lt w.counted 16

-- a wait for writing without an answer takes a Grant
abbrev pub takes_grant : Option Wait → Bool
takes_grant None = false
takes_grant (Some w) = is_write w.need && is_none w.answer

abbrev pub acks_in : Answer → ℕ
acks_in (ByData k buf) = k
acks_in (ByGrant k buf) = k

-- the place of the wait for b
abbrev pub IsWaitAt : ℕ → List Waiting → Option ℕ → Type 0
IsWaitAt b ws None = wait_in ws b ≡ None
IsWaitAt b ws (Some k) =
    (k < length ws)
    × ((d : Waiting) → wait_in ws b ≡ Some (slice_index_or ws k d).wait)
    × ((d : Waiting) → (slice_index_or ws k d).block ≡ b)

-- the message that brings an answer
abbrev pub bringing : ℕ → Answer → Message
bringing b (ByData k buf) = Data b k buf
bringing b (ByGrant k buf) = Grant b k buf

-- the wait for b takes an answer from node j
abbrev pub takes_answer : NodeWaits → (ℕ → State) → ℕ → ℕ → Answer → Bool
takes_answer w state j b (ByData k buf) =
    nat_lt b (blocks w.layout)
    && (nat_le 4096 buf.room
    && (length buf.bytes == 64 * lines w.layout b && takes_data (wait_of w b)))
takes_answer w state j b (ByGrant k buf) =
    nat_lt b (blocks w.layout)
    && (nat_le 4096 buf.room
    && (j == home w.layout b && (is_shared (state b) && takes_grant (wait_of w b))))
