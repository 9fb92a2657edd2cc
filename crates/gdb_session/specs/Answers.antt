-- The answer of a session to a request.
use Rattle.std.specs.Prelude.{ℕ, ◌≡◌, List, [], drop, Option, Some, None}
use Rattle.gdb_remote.specs.declared.request.Point.{Point}
use Rattle.gdb_remote.specs.declared.request.Direction.{Direction}
use Rattle.gdb_remote.specs.declared.request.Extent.{Extent}
use Rattle.gdb_remote.specs.declared.request.DebuggerRequest.{DebuggerRequest}
use Rattle.gdb_remote.specs.declared.request.DebuggerRequest.TheVariants.{Look, ThreadText, Set, Go, Monitor, Detach, Kill, Write, Malformed, Unknown}
use Rattle.gdb_session.specs.declared.session.After.{After}
use Rattle.gdb_session.specs.declared.session.After.TheVariants.{GoesOn, Leaves, IsKilled}
use Rattle.gdb_session.specs.declared.target.Doing.{Doing}
use Rattle.gdb_session.specs.declared.target.Motion.{Motion}
use Rattle.gdb_session.specs.declared.target.MotionReach.{MotionReach}
use Rattle.gdb_session.specs.declared.target.Stop.{Stop}
use Rattle.gdb_remote.specs.Hexadecimal.{bytes_digits, bytes_of}
use Rattle.gdb_session.specs.Views.{View}
use Rattle.gdb_session.specs.Sessions.{Session, refused, read_only, done, doing_text, look_text, setting_text, after_setting, processor_among, reach_among, moved, stopped, stop_text, told_text}

-- a session and a run, before a request and after it, and the answer
pub record Exchange (T : Type 0) : Type 0 where
  pub session : Session
  pub target : T
  pub session_after : Session
  pub target_after : T
  pub answer : List ℕ

-- the run is as it was, and the session is this one
abbrev pub Stands : {T : Type 0} → Exchange T → Session → List ℕ → Type 0
Stands x session answer =
    (x.answer ≡ answer) × (x.session_after ≡ session) × (x.target_after ≡ x.target)

-- what a processor does is told, if there is such a one
abbrev pub TellsDoing : {T : Type 0} → (T → ℕ → Doing → Type 0) → T → Option ℕ
    → (answer : List ℕ) → Type 0
TellsDoing does t None answer = answer ≡ refused
TellsDoing does t (Some p) answer =
    (d : Doing) × does t p d × (answer ≡ bytes_digits (doing_text d))

-- the run goes on, if the processor is one that there is
abbrev pub GoesSo : {T : Type 0} → (T → Motion → List Point → Stop → T → Type 0) → Exchange T
    → Direction → Option MotionReach → Type 0
GoesSo moves x d None = Stands x x.session refused
GoesSo moves x d (Some r) =
    (stop : Stop)
    × moves x.target (record { direction = d; reach = r }) x.session.points stop x.target_after
    × (x.session_after ≡ stopped x.session stop)
    × (x.answer ≡ stop_text stop)

abbrev pub Goes : {T : Type 0} → (T → View) → (T → Motion → List Point → Stop → T → Type 0)
    → Exchange T → Direction → Extent → Type 0
Goes view moves x d e = GoesSo moves x d (reach_among x.session (view x.target).processors e)

-- a command is done, and told of, if its bytes can be read; and where it moved the run, the session
-- has where that stands
abbrev pub Tells : {T : Type 0} → (T → List ℕ → List ℕ → Option Stop → T → Type 0) → Exchange T
    → Option (List ℕ) → Type 0
Tells tells x None = Stands x x.session refused
Tells tells x (Some command) =
    (told : List ℕ) × (stop : Option Stop) × tells x.target command told stop x.target_after
    × (x.session_after ≡ moved x.session stop)
    × (x.answer ≡ told_text told)

-- a request whose packet has this body is answered
abbrev pub AnswersRequest : {T : Type 0} → (T → View) → (T → ℕ → Doing → Type 0)
    → (T → Motion → List Point → Stop → T → Type 0)
    → (T → List ℕ → List ℕ → Option Stop → T → Type 0)
    → Exchange T → List ℕ → DebuggerRequest → Type 0
AnswersRequest view does moves tells x body (Look l) =
    Stands x x.session (look_text x.session (view x.target) l)
AnswersRequest view does moves tells x body (ThreadText t) =
    TellsDoing does x.target (processor_among (view x.target).processors t) x.answer
    × (x.session_after ≡ x.session) × (x.target_after ≡ x.target)
AnswersRequest view does moves tells x body (Set s) =
    Stands x (after_setting x.session (view x.target).processors s)
    (setting_text x.session (view x.target).processors s)
AnswersRequest view does moves tells x body (Go d e) = Goes view moves x d e
AnswersRequest view does moves tells x body Monitor = Tells tells x (bytes_of (drop 6 body))
AnswersRequest view does moves tells x body Detach = Stands x x.session done
AnswersRequest view does moves tells x body Kill = Stands x x.session []
AnswersRequest view does moves tells x body Write = Stands x x.session read_only
AnswersRequest view does moves tells x body Malformed = Stands x x.session refused
AnswersRequest view does moves tells x body Unknown = Stands x x.session []

-- whether the debugger stays
abbrev pub after_request : DebuggerRequest → After
after_request Detach = Leaves
after_request Kill = IsKilled
after_request r = GoesOn
