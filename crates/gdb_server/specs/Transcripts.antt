-- What a server puts for the bytes of a debugger, one after another.
use Rattle.std.specs.Prelude.{◌≡◌, ℕ, List, [], ◌∷◌, ◌++◌, Option, Bool, true, false}
use Rattle.gdb_session.specs.gdb_remote.declared.reader.PacketEvent.{PacketEvent}
use Rattle.gdb_session.specs.gdb_remote.declared.request.Point.{Point}
use Rattle.gdb_session.specs.gdb_remote.Readings.{new_reading, step}
use Rattle.gdb_session.specs.gdb_remote.Requests.{request_of}
use Rattle.gdb_session.specs.declared.session.After.{After}
use Rattle.gdb_session.specs.declared.session.After.TheVariants.{GoesOn}
use Rattle.gdb_session.specs.declared.target.Doing.{Doing}
use Rattle.gdb_session.specs.declared.target.Motion.{Motion}
use Rattle.gdb_session.specs.declared.target.Stop.{Stop}
use Rattle.gdb_session.specs.Answers.{AnswersRequest, after_request}
use Rattle.gdb_session.specs.Servers.{Server, put_for, last_after, last_behind, is_request, packet_of}
use Rattle.gdb_session.specs.Sessions.{new_session}
use Rattle.gdb_session.specs.Views.{View}

-- a server and a run, and whether the debugger stays
pub record Standing (T : Type 0) : Type 0 where
  pub server : Server
  pub target : T
  pub after : After

-- nothing has come from the debugger yet
abbrev pub opening : {T : Type 0} → T → Standing T
opening t = record {
  server = record { reading = new_reading; session = new_session; last = [] };
  target = t;
  after = GoesOn;
}

-- what a byte ends, if it ends anything
abbrev pub event_of : Server → (byte : ℕ) → Option PacketEvent
event_of s byte = (step s.reading byte).event

-- the server after a byte, before a request is answered
abbrev pub heard_by : Server → (byte : ℕ) → Server
heard_by s byte = record {
  reading = (step s.reading byte).reading;
  session = s.session;
  last = last_after s.last (event_of s byte);
}

-- what is put for a byte at once
abbrev pub put_at_once : Server → (byte : ℕ) → List ℕ
put_at_once s byte = put_for s.session s.last (event_of s byte)

-- the request that was read last is answered by this packet
pub record IsAnswered {T : Type 0} (view : T → View) (does : T → ℕ → Doing → Type 0)
    (moves : T → Motion → List Point → Stop → T → Type 0) (tells : T → List ℕ → List ℕ → Option Stop → T → Type 0)
    (s : Server) (t : T) (packet : List ℕ) (x : Standing T) : Type 0 where
  pub answer : List ℕ
  pub answers : AnswersRequest view does moves tells
      (record {
        session = s.session;
        target = t;
        session_after = x.server.session;
        target_after = x.target;
        answer = answer;
      })
      s.reading.body (request_of s.reading.body)
  pub packet_is : packet ≡ packet_of x.after answer
  pub after_is : x.after ≡ after_request (request_of s.reading.body)
  pub reading_is : x.server.reading ≡ s.reading
  pub last_is : x.server.last ≡ last_behind x.after s.last answer

-- the packet of an answer, if a request was read
abbrev pub IsAnsweredIf : {T : Type 0} → (T → View) → (T → ℕ → Doing → Type 0)
    → (T → Motion → List Point → Stop → T → Type 0) → (T → List ℕ → List ℕ → Option Stop → T → Type 0)
    → Bool → Server → T → (packet : List ℕ) → Standing T → Type 0
IsAnsweredIf view does moves tells true s t packet x = IsAnswered view does moves tells s t packet x
IsAnsweredIf view does moves tells false s t packet x =
    (packet ≡ []) × (x ≡ record { server = s; target = t; after = GoesOn })

-- a byte comes while the debugger stays: what is put at once, and the packet of the answer
pub record Hears {T : Type 0} (view : T → View) (does : T → ℕ → Doing → Type 0)
    (moves : T → Motion → List Point → Stop → T → Type 0) (tells : T → List ℕ → List ℕ → Option Stop → T → Type 0)
    (s : Standing T) (byte : ℕ) (put : List ℕ) (x : Standing T) : Type 0 where
  pub packet : List ℕ
  pub stays : s.after ≡ GoesOn
  pub puts : put ≡ put_at_once s.server byte ++ packet
  pub answered : IsAnsweredIf view does moves tells (is_request (event_of s.server byte))
      (heard_by s.server byte) s.target packet x

-- A transcript: this is put for these bytes, from one standing to another.
abbrev pub Serves : {T : Type 0} → (T → View) → (T → ℕ → Doing → Type 0)
    → (T → Motion → List Point → Stop → T → Type 0) → (T → List ℕ → List ℕ → Option Stop → T → Type 0)
    → Standing T → (heard put : List ℕ) → Standing T → Type 0
Serves view does moves tells s [] put x = (put ≡ []) × (x ≡ s)
Serves view does moves tells s (byte ∷ bytes) put x =
    (next : Standing _) × (first : List ℕ) × (rest : List ℕ)
    × Hears view does moves tells s byte first next
    × Serves view does moves tells next bytes rest x
    × (put ≡ first ++ rest)
