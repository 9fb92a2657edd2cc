-- How serving a debugger ends.
use Rattle.std.specs.Prelude.{◌≡◌, ℕ, ◌^◌, ◌-◌, ◌⊎◌, List, [], ◌∷◌, ◌++◌, length, take, Option}
use Rattle.dsm_io.specs.Causes.{Appends, Rose}
use Rattle.dsm_io.specs.States.{SinkState}
use Rattle.byte_source.specs.Sources.{Gives, IsAtEnd, SourceState}
use Rattle.gdb_session.specs.gdb_remote.declared.request.Point.{Point}
use Rattle.gdb_session.specs.declared.session.After.{After}
use Rattle.gdb_session.specs.declared.session.After.TheVariants.{GoesOn, Leaves, IsKilled}
use Rattle.gdb_session.specs.declared.target.Doing.{Doing}
use Rattle.gdb_session.specs.declared.target.Motion.{Motion}
use Rattle.gdb_session.specs.declared.target.Stop.{Stop}
use Rattle.gdb_session.specs.Views.{View}
use Rattle.gdb_server.specs.declared.ServeEnd.{ServeEnd}
use Rattle.gdb_server.specs.declared.ServeEnd.TheVariants.{InputEnds, Left, Killed}
use Rattle.gdb_server.specs.declared.ServeError.{ServeError}
use Rattle.gdb_server.specs.declared.ServeError.TheVariants.{Input, Output, OutOfMemory}
use Rattle.gdb_server.specs.Transcripts.{Standing, opening, put_at_once, Hears, Serves}

-- the input and the output, before and after
pub record Streams : Type 0 where
  pub input : SourceState
  pub input_after : SourceState
  pub output : SinkState
  pub output_after : SinkState

-- as many bytes are heard
abbrev pub most_heard : ℕ
most_heard = 2 ^ 64 - 1

-- the debugger left or killed the run with its last byte, or no more bytes come
abbrev pub IsEnd : ServeEnd → After → (heard : List ℕ) → Option (List ℕ) → Type 0
IsEnd InputEnds after heard rest =
    (after ≡ GoesOn) × (IsAtEnd rest ⊎ (length heard ≡ most_heard))
IsEnd Left after heard rest = after ≡ Leaves
IsEnd Killed after heard rest = after ≡ IsKilled

-- the bytes put are a transcript of the bytes that came, up to this standing
pub record HasServed {T : Type 0} (view : T → View) (does : T → ℕ → Doing → Type 0)
    (moves : T → Motion → List Point → Stop → T → Type 0) (tells : T → List ℕ → List ℕ → Option Stop → T → Type 0)
    (t : T) (io : Streams) (end : ServeEnd) (last : T) : Type 0 where
  pub heard : List ℕ
  pub put : List ℕ
  pub standing : Standing T
  pub serves : Serves view does moves tells (opening t) heard put standing
  pub came : Gives io.input.rest heard io.input_after.rest
  pub was_put : Appends io.output.taken io.output_after.taken put
  pub run_is : standing.target ≡ last
  pub ends : IsEnd end standing.after heard io.input_after.rest

-- the beginning of what is put for a byte: at once, or with the answer
abbrev pub IsBeginning : {T : Type 0} → (T → View) → (T → ℕ → Doing → Type 0)
    → (T → Motion → List Point → Stop → T → Type 0) → (T → List ℕ → List ℕ → Option Stop → T → Type 0)
    → Standing T → (byte : ℕ) → (piece : List ℕ) → Type 0
IsBeginning {T} view does moves tells s byte piece = (k : ℕ)
    × ((piece ≡ take k (put_at_once s.server byte))
    ⊎ ((put : List ℕ) × (x : Standing T) × Hears view does moves tells s byte put x
    × (piece ≡ take k put)))

-- The bytes put are a transcript of all bytes that came but the last, and the beginning of what is
-- put for that one.
pub record HasBroken {T : Type 0} (view : T → View) (does : T → ℕ → Doing → Type 0)
    (moves : T → Motion → List Point → Stop → T → Type 0) (tells : T → List ℕ → List ℕ → Option Stop → T → Type 0)
    (t : T) (io : Streams) : Type 0 where
  pub heard : List ℕ
  pub put : List ℕ
  pub standing : Standing T
  pub byte : ℕ
  pub piece : List ℕ
  pub serves : Serves view does moves tells (opening t) heard put standing
  pub came : Gives io.input.rest (heard ++ byte ∷ []) io.input_after.rest
  pub was_put : Appends io.output.taken io.output_after.taken (put ++ piece)
  pub begins : IsBeginning view does moves tells standing byte piece

-- The input failed: the bytes put are a transcript of the bytes that came.
pub record HasStopped {T : Type 0} (view : T → View) (does : T → ℕ → Doing → Type 0)
    (moves : T → Motion → List Point → Stop → T → Type 0) (tells : T → List ℕ → List ℕ → Option Stop → T → Type 0)
    (t : T) (io : Streams) : Type 0 where
  pub heard : List ℕ
  pub put : List ℕ
  pub standing : Standing T
  pub serves : Serves view does moves tells (opening t) heard put standing
  pub came : Gives io.input.rest heard io.input_after.rest
  pub was_put : Appends io.output.taken io.output_after.taken put

-- what a fault left
abbrev pub Fails : {T : Type 0} → (T → View) → (T → ℕ → Doing → Type 0)
    → (T → Motion → List Point → Stop → T → Type 0) → (T → List ℕ → List ℕ → Option Stop → T → Type 0)
    → T → Streams → ServeError → Type 0
Fails view does moves tells t io Input =
    HasStopped view does moves tells t io × Rose io.input.faults io.input_after.faults
Fails view does moves tells t io Output =
    HasBroken view does moves tells t io × Rose io.output.faults io.output_after.faults
Fails view does moves tells t io OutOfMemory = HasBroken view does moves tells t io
