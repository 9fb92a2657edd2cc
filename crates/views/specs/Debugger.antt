-- A recorded run, as GDB sees it.
use Rattle.std.specs.Prelude.{◌≡◌, ℕ, ◌⊎◌, List, ◌++◌, map, None}
use Rattle.byte_source.specs.Sources.{SourceState}
use Rattle.dsm_io.specs.States.{SinkState}
use Rattle.judged_files.specs.Inputs.{Inputs}
use Rattle.prepared_run.specs.Replays.{IsWorkOf}
use Rattle.recorded_run.specs.record_picks.Picks.{ArePicksOf}
use Rattle.recorded_run.specs.debugged_run.time_machine.Stand.{IsInterleaved}
use Rattle.recorded_run.specs.debugged_run.one_memory.Shown.{pick_of}
use Rattle.recorded_run.specs.Shown.{Recorded, shown_from, work_shown}
use Rattle.recorded_run.specs.Tells.{Does, Moves, Tells}
use Rattle.gdb_server.specs.Ends.{Streams, HasServed, HasBroken, HasStopped, IsBeginning}
use Rattle.gdb_server.specs.Transcripts.{Standing, opening, Serves}
use Rattle.gdb_server.specs.declared.ServeEnd.{ServeEnd}

-- The recorded run that the inputs ask for, at the start of the run on one memory whose picks it
-- stands for. What is seen from a position in that is the state of the original's processors after
-- so many of these picks (`shown_from`).
pub record IsShown (inputs : Inputs) (s : Recorded) : Type 0 where
  pub asked : IsWorkOf inputs s.kept s.stand.run.program s.plan (work_shown s)
  pub nodes : s.stand.run.nodes ≡ s.stand.run.layout.nodes
  pub picks : ArePicksOf (work_shown s) s.plan s.kept (map pick_of s.stand.run.picks)
  pub interleaved : IsInterleaved s.stand.run
  pub start : s.stand.position ≡ 0
  pub fewest : s.behind ≡ None

-- the input and the output, before and after
abbrev pub streams : (input input_after : SourceState) (output output_after : SinkState) → Streams
streams input input_after output output_after = record {
  input = input;
  input_after = input_after;
  output = output;
  output_after = output_after;
}

-- a debugger was served at this run: the bytes put are a transcript of the bytes that came
pub record HasShown (inputs : Inputs) (io : Streams) : Type 0 where
  pub first : Recorded
  pub shown : IsShown inputs first
  pub end : ServeEnd
  pub last : Recorded
  pub served : HasServed shown_from Does Moves Tells first io end last

-- the output failed or memory was wanted while a debugger was served
pub record HasShownPart (inputs : Inputs) (io : Streams) : Type 0 where
  pub first : Recorded
  pub shown : IsShown inputs first
  pub broken : HasBroken shown_from Does Moves Tells first io

-- the input failed while a debugger was served
pub record HasShownUpTo (inputs : Inputs) (io : Streams) : Type 0 where
  pub first : Recorded
  pub shown : IsShown inputs first
  pub stopped : HasStopped shown_from Does Moves Tells first io

-- nothing was read and nothing was put
pub record IsUntouched (io : Streams) : Type 0 where
  pub input : io.input_after ≡ io.input
  pub output : io.output_after ≡ io.output

-- serving a debugger was cut short, or never began
abbrev pub IsCutShort : Inputs → Streams → Type 0
IsCutShort inputs io = IsUntouched io ⊎ (HasShownUpTo inputs io ⊎ HasShownPart inputs io)

-- a text that is put to a debugger: a transcript, and the beginning of what is put for a byte more
pub record IsSessionText (inputs : Inputs) (text : List ℕ) : Type 0 where
  pub first : Recorded
  pub shown : IsShown inputs first
  pub heard : List ℕ
  pub put : List ℕ
  pub standing : Standing Recorded
  pub serves : Serves shown_from Does Moves Tells (opening first) heard put standing
  pub byte : ℕ
  pub piece : List ℕ
  pub begins : IsBeginning shown_from Does Moves Tells standing byte piece
  pub text_is : text ≡ put ++ piece
