-- Helps the code alone: what one byte does, and what is put of it.
use Rattle.std.specs.Prelude.{◌≡◌, ℕ, ◌⊎◌, List, [], take, Option}
use Rattle.dsm_io.specs.Causes.{Appends, Rose}
use Rattle.dsm_io.specs.States.{SinkState}
use Rattle.gdb_session.specs.gdb_remote.declared.request.Point.{Point}
use Rattle.gdb_session.specs.declared.session.After.{After}
use Rattle.gdb_session.specs.declared.target.Doing.{Doing}
use Rattle.gdb_session.specs.declared.target.Motion.{Motion}
use Rattle.gdb_session.specs.declared.target.Stop.{Stop}
use Rattle.gdb_session.specs.Servers.{Server}
use Rattle.gdb_session.specs.Views.{View}
use Rattle.gdb_server.specs.declared.ServeError.{ServeError}
use Rattle.gdb_server.specs.declared.ServeError.TheVariants.{Input, Output, OutOfMemory}
use Rattle.gdb_server.specs.Transcripts.{Standing, IsAnswered, Hears}
use Rattle.gdb_server.specs.Ends.{IsBeginning}

abbrev pub standing : {T : Type 0} → Server → T → After → Standing T
standing s t after = record { server = s; target = t; after = after }

-- a piece was put, and nothing failed
pub record HasPut (before now : SinkState) (piece : List ℕ) : Type 0 where
  pub takes : Appends before.taken now.taken piece
  pub faults : now.faults ≡ before.faults

-- a piece was put before an error, of which the output's is a fault
abbrev pub RisesBy : ServeError → SinkState → SinkState → Type 0
RisesBy Input before now = ⊥
RisesBy Output before now = Rose before.faults now.faults
RisesBy OutOfMemory before now = now.faults ≡ before.faults

pub record IsBroken (before now : SinkState) (piece : List ℕ) (e : ServeError) : Type 0 where
  pub takes : Appends before.taken now.taken piece
  pub rises : RisesBy e before now

pub record HasAnswered {T : Type 0} (view : T → View) (does : T → ℕ → Doing → Type 0)
    (moves : T → Motion → List Point → Stop → T → Type 0) (tells : T → List ℕ → List ℕ → Option Stop → T → Type 0)
    (s : Server) (t : T) (x : Standing T) (before now : SinkState) : Type 0 where
  pub packet : List ℕ
  pub answers : IsAnswered view does moves tells s t packet x
  pub puts : HasPut before now packet

-- a part of the packet of an answer was put, or nothing
pub record BreaksAnswerOff {T : Type 0} (view : T → View) (does : T → ℕ → Doing → Type 0)
    (moves : T → Motion → List Point → Stop → T → Type 0) (tells : T → List ℕ → List ℕ → Option Stop → T → Type 0)
    (s : Server) (t : T) (before now : SinkState) (e : ServeError) : Type 0 where
  pub k : ℕ
  pub piece : List ℕ
  pub part : (piece ≡ [])
      ⊎ ((packet : List ℕ) × (x : Standing T) × IsAnswered view does moves tells s t packet x
      × (piece ≡ take k packet))
  pub breaks : IsBroken before now piece e

pub record HasHeard {T : Type 0} (view : T → View) (does : T → ℕ → Doing → Type 0)
    (moves : T → Motion → List Point → Stop → T → Type 0) (tells : T → List ℕ → List ℕ → Option Stop → T → Type 0)
    (s : Standing T) (byte : ℕ) (x : Standing T) (before now : SinkState) : Type 0 where
  pub put : List ℕ
  pub hears : Hears view does moves tells s byte put x
  pub puts : HasPut before now put

pub record BreaksOff {T : Type 0} (view : T → View) (does : T → ℕ → Doing → Type 0)
    (moves : T → Motion → List Point → Stop → T → Type 0) (tells : T → List ℕ → List ℕ → Option Stop → T → Type 0)
    (s : Standing T) (byte : ℕ) (before now : SinkState) (e : ServeError) : Type 0 where
  pub piece : List ℕ
  pub begins : IsBeginning view does moves tells s byte piece
  pub breaks : IsBroken before now piece e
