-- Packets as they are read, byte by byte (GDB manual, 'Remote Protocol: Overview').
use Rattle.std.specs.Prelude.{ℕ, ◌+◌, ◌%◌, ◌==◌, nat_lt, if◌then◌else◌, List, [], ◌∷◌, ◌++◌, length, bit_xor, Option, Some, None, option_to_list, Bool, false}
use Rattle.gdb_remote.specs.declared.reader.ReaderState.{ReaderState}
use Rattle.gdb_remote.specs.declared.reader.ReaderState.TheVariants.{Between, Within, Escaped, High, Low, Skipping}
use Rattle.gdb_remote.specs.declared.reader.PacketEvent.{PacketEvent}
use Rattle.gdb_remote.specs.declared.reader.PacketEvent.TheVariants.{Packet, Damaged, TooLong, Interrupt, Acknowledged, AskedAgain}
use Rattle.gdb_remote.specs.Hexadecimal.{pair_value}

-- where a reader stands in a packet, the body so far, and the checksum of what was sent of it
pub record Reading : Type 0 where
  pub phase : ReaderState
  pub body : List ℕ
  pub sum : ℕ

-- what a reader is after a byte, and what the byte ends
pub record Step : Type 0 where
  pub reading : Reading
  pub event : Option PacketEvent

-- a reader that stands between two packets
abbrev pub new_reading : Reading
new_reading = record { phase = Between; body = []; sum = 0 }

-- no longer body is read
abbrev pub packet_size : ℕ
packet_size = 4096

abbrev pub quiet : Reading → Step
quiet r = record { reading = r; event = None }

abbrev pub telling : PacketEvent → Reading → Step
telling e r = record { reading = r; event = Some e }

abbrev pub in_phase : ReaderState → Reading → Reading
in_phase p r = record { phase = p; body = r.body; sum = r.sum }

-- a packet begins
abbrev pub begun : Reading
begun = record { phase = Within; body = []; sum = 0 }

abbrev pub between_step : Reading → ℕ → Step
between_step r b =
    if b == 36 then quiet begun
    else if b == 3 then telling Interrupt r
    else if b == 43 then telling Acknowledged r
    else if b == 45 then telling AskedAgain r
    else quiet r

-- one more byte was sent, which stands for this one of the body
abbrev pub gained : Reading → (sent meant : ℕ) → Step
gained r sent meant =
    if nat_lt (length r.body) packet_size
    then quiet (record { phase = Within; body = r.body ++ meant ∷ []; sum = (r.sum + sent) % 256 })
    else quiet (in_phase Skipping r)

-- `#` ends what is sent, and `$` begins another packet; a byte after a `}` is escaped
abbrev pub within_step : Reading → ℕ → Step
within_step r b =
    if b == 35 then quiet (in_phase High r)
    else if b == 36 then quiet begun
    else if b == 125
    then quiet (record { phase = Escaped; body = r.body; sum = (r.sum + b) % 256 })
    else gained r b b

abbrev pub escaped_step : Reading → ℕ → Step
escaped_step r b =
    if b == 35 then quiet (in_phase High r)
    else if b == 36 then quiet begun
    else gained r b (bit_xor b 32)

-- two digits that write this number
abbrev pub is_sum : ℕ → Option ℕ → Bool
is_sum sum None = false
is_sum sum (Some n) = n == sum

-- the checksum that was sent is judged
abbrev pub judged : Reading → (high low : ℕ) → Step
judged r high low =
    if is_sum r.sum (pair_value high low)
    then telling Packet (in_phase Between r)
    else telling Damaged (in_phase Between r)

-- the rest of a packet that is too long
abbrev pub skipping_step : Reading → ℕ → Step
skipping_step r b =
    if b == 35 then telling TooLong (in_phase Between r)
    else if b == 36 then quiet begun
    else quiet r

abbrev pub step_in : ReaderState → Reading → ℕ → Step
step_in Between r b = between_step r b
step_in Within r b = within_step r b
step_in Escaped r b = escaped_step r b
step_in High r b = quiet (in_phase (Low b) r)
step_in (Low high) r b = judged r high b
step_in Skipping r b = skipping_step r b

abbrev pub step : Reading → ℕ → Step
step r b = step_in r.phase r b

-- what a reader is after bytes, and what they end, one after another
abbrev pub reading_after : Reading → List ℕ → Reading
reading_after r [] = r
reading_after r (b ∷ bs) = reading_after (step r b).reading bs

abbrev pub events_of : Reading → List ℕ → List PacketEvent
events_of r [] = []
events_of r (b ∷ bs) = option_to_list (step r b).event ++ events_of (step r b).reading bs
