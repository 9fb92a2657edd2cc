-- Helps the code alone: what takes words back.
use Rattle.std.specs.Prelude.{◌≡◌, ℕ, ◌+◌, ◌*◌, ◌/◌, ◌%◌, ◌^◌, ◌<◌, true, List, [], ◌∷◌, ◌++◌, All}
use Rattle.rv32_decode.specs.declared.Width.{Width}
use Rattle.rv32_decode.specs.Widths.{is_aligned, size_of}
use Rattle.node_memory.specs.byte_range.Memory.{stored}
use Rattle.node_memory.specs.byte_range.Window.{window_memory}
use Rattle.rv32_program.specs.Program.{Program, class_at}
use Rattle.node_memory.specs.rv32_step.Memory.{shared_after, private_after}
use Rattle.node_memory.specs.exec_map.Contents.{program_of}
use Rattle.node_words.specs.declared.lane.ProcessorState as kept
use Rattle.node_words.specs.declared.store_log.Note.{Note}
use Rattle.node_words.specs.declared.undo_log.Saved.{Saved}
use Rattle.node_words.specs.declared.exec_state.ExecState.{ExecState}
use Rattle.node_memory.specs.node_model.Node.{Region, Memory, StateOf, Spill, Elsewhere, region_of}
use Rattle.node_memory.specs.Shelf.{Shelf, ground_of, local_of, copy_of}
use Rattle.node_words.specs.Kept.{lane_of}

-- the bytes that stores change: the copy's, and those of the window
pub record Held : Type 0 where
  pub copy : ℕ → ℕ
  pub private : ℕ → ℕ

abbrev pub held_of : kept.ProcessorState → Shelf → Held
held_of l s = record { copy = copy_of s.copy; private = window_memory l.private }

-- the bytes after a store at an address of a region
abbrev pub held_stored : Program → Width → (a value : ℕ) → Held → Region → Held
held_stored program w a value h Memory = record {
  copy = shared_after (class_at program a) h.copy (stored w h.copy a value);
  private = private_after (class_at program a) h.private (stored w h.private a value);
}
held_stored program w a value h (StateOf line) = h
held_stored program w a value h (Spill k) = h
held_stored program w a value h Elsewhere = h

-- the bytes once what a store overwrote is put back
abbrev pub undone : Program → Note → Held → Held
undone program n h = held_stored program n.width n.address n.value h (region_of n.address)

-- the bytes once the last note is put back, and so on to the first
abbrev pub taken_back : Program → List Note → Held → Held
taken_back program [] h = h
taken_back program (n ∷ ns) h = undone program n (taken_back program ns h)

abbrev pub IsAlignedNote : Note → Type 0
IsAlignedNote n = is_aligned n.width n.address ≡ true

-- the number's bytes are those from an address on
abbrev pub HasBytes : (ℕ → ℕ) → Width → (a value : ℕ) → Type 0
HasBytes bytes w a value =
    (k : ℕ) → k < size_of w → value / 2 ^ (8 * k) % 2 ^ 8 ≡ bytes (a + k)

-- what a store overwrites is noted
pub record Notes (memory : ℕ → ℕ) (w : Width) (a : ℕ) (old new : List Note) : Type 0 where
  pub value : ℕ
  pub note : new ≡ old ++ record { width = w; address = a; value = value } ∷ []
  pub aligned : is_aligned w a ≡ true
  pub bytes : HasBytes memory w a value

-- the lane's registers and words are saved
pub record Saves (saved : Saved) (l : kept.ProcessorState) : Type 0 where
  pub registers : saved.registers ≡ l.registers
  pub written : saved.written ≡ l.written
  pub off : saved.off ≡ l.off
  pub spills : saved.spills ≡ l.spills

-- what was saved and noted takes these bytes, and what else words see, back to those of another
-- lane and to what its words saw
pub record TakesBytesBack (saved : Saved) (notes : List Note) (h : Held) (s : Shelf)
    (first : kept.ProcessorState) (seen : Shelf) : Type 0 where
  pub aligned : All IsAlignedNote notes
  pub saves : Saves saved first
  pub held : taken_back (program_of seen.program) notes h ≡ held_of first seen
  pub state : (local_of s).state ≡ (local_of seen).state
  pub reservation : s.reservation ≡ seen.reservation
  pub ground_same : ground_of s ≡ ground_of seen

-- what was saved and noted takes a lane, and what words see, back to others. Of the lane it takes
-- the bytes back alone, since all else is saved
abbrev pub TakesBack : Saved → List Note → kept.ProcessorState → Shelf → kept.ProcessorState
    → Shelf → Type 0
TakesBack saved notes l s first seen = TakesBytesBack saved notes (held_of l s) s first seen

-- while stores are noted, whatever takes a body back takes back what it becomes
abbrev pub StaysUndoable : ExecState → ExecState → Type 0
StaysUndoable b b' = b.log.on ≡ true → (b'.log.on ≡ true)
    × ((saved : Saved) (first : kept.ProcessorState) (seen : Shelf)
    → TakesBack saved b.log.notes.items b.lane b.local first seen
    → TakesBack saved b'.log.notes.items b'.lane b'.local first seen)

-- lanes and what words see that differ in nothing
pub record AreSame (l : kept.ProcessorState) (s : Shelf) (first : kept.ProcessorState)
    (seen : Shelf) : Type 0 where
  pub lane : (at : ℕ) → lane_of l at ≡ lane_of first at
  pub local : local_of s ≡ local_of seen
