-- A session, and what is told of a run (GDB manual, 'Packets', 'Stop Reply Packets').
use Rattle.std.specs.Prelude.{ℕ, ◌+◌, ◌==◌, ◌&&◌, ◌||◌, not, nat_lt, min, Bool, true, false, zero, suc, List, [], ◌∷◌, ◌++◌, length, take, drop, filter, Option, Some, None, if◌then◌else◌, codes, is_some}
use Rattle.std.specs.Int.{to_le_bytes, w32}
use Rattle.std.specs.Fmt.{decimal}
use Rattle.gdb_remote.specs.declared.request.Thread.{Thread}
use Rattle.gdb_remote.specs.declared.request.Thread.TheVariants.{All, Any, Of}
use Rattle.gdb_remote.specs.declared.request.PointKind.{PointKind}
use Rattle.gdb_remote.specs.declared.request.PointKind.TheVariants as kind
use Rattle.gdb_remote.specs.declared.request.Point.{Point}
use Rattle.gdb_remote.specs.declared.request.Extent.{Extent}
use Rattle.gdb_remote.specs.declared.request.Extent.TheVariants as extent
use Rattle.gdb_remote.specs.declared.request.Look.{Look}
use Rattle.gdb_remote.specs.declared.request.Look.TheVariants.{Status, Registers, Register, Memory, Features, Description, Threads, MoreThreads, IsAlive, CurrentThread, Attached, Actions}
use Rattle.gdb_remote.specs.declared.request.SessionSetting.{SessionSetting}
use Rattle.gdb_remote.specs.declared.request.SessionSetting.TheVariants.{Choose, ChooseToMove, SetPoint, ClearPoint, NoAcknowledgements}
use Rattle.gdb_session.specs.declared.target.Doing.{Doing}
use Rattle.gdb_session.specs.declared.target.Doing.TheVariants.{Runs, Exited, Stopped, Waits}
use Rattle.gdb_session.specs.declared.target.MotionReach.{MotionReach}
use Rattle.gdb_session.specs.declared.target.MotionReach.TheVariants as reach
use Rattle.gdb_session.specs.declared.target.Stop.{Stop}
use Rattle.gdb_session.specs.declared.target.Why.{Why}
use Rattle.gdb_session.specs.declared.target.Why.TheVariants as why
use Rattle.gdb_remote.specs.Hexadecimal.{bytes_digits, word_digits}
use Rattle.gdb_session.specs.Views.{View}

-- the processor that is looked at, the thread that steps, the points that are set, why the run
-- stopped last, and whether packets are acknowledged
pub record Session : Type 0 where
  pub general : ℕ
  pub moving : Thread
  pub points : List Point
  pub stop : Stop
  pub acknowledges : Bool

-- the session at the beginning of a run
abbrev pub new_session : Session
new_session = record {
  general = 0;
  moving = Any;
  points = [];
  stop = record { processor = 0; why = why.Stepped };
  acknowledges = true;
}

-- errors: a request that can't be read or names no thread; no more points; no such address;
-- nothing can be written
abbrev pub refused : List ℕ
refused = codes "E01"

abbrev pub is_full : List ℕ
is_full = codes "E02"

abbrev pub unmapped : List ℕ
unmapped = codes "E14"

abbrev pub read_only : List ℕ
read_only = codes "E30"

abbrev pub done : List ℕ
done = codes "OK"

-- as many points can be set, and as many bytes are told at once
abbrev pub most_points : ℕ
most_points = 64

abbrev pub most_bytes : ℕ
most_bytes = 1024

-- the number of a processor's thread
abbrev pub thread_digits : ℕ → List ℕ
thread_digits processor = word_digits (processor + 1)

-- a register, its low byte first
abbrev pub register_digits : View → (processor number : ℕ) → List ℕ
register_digits v p n = bytes_digits (to_le_bytes w32 (v.register p n))

-- the registers below a number, and all of them
abbrev pub registers_below : View → (processor end : ℕ) → List ℕ
registers_below v p zero = []
registers_below v p (suc n) = registers_below v p n ++ register_digits v p n

unfoldable pub all_registers : View → (processor : ℕ) → List ℕ
all_registers v p = registers_below v p 33

-- the byte at an address, which has 32 bits
abbrev pub byte_at : View → (processor address : ℕ) → Option ℕ
byte_at v p a = if nat_lt a 4294967296 then v.byte p a else None

-- the bytes from an address on, up to the first that isn't mapped
abbrev pub if_mapped : Option ℕ → List ℕ → List ℕ
if_mapped None rest = []
if_mapped (Some b) rest = b ∷ rest

abbrev pub mapped_front : View → (processor address count : ℕ) → List ℕ
mapped_front v p a zero = []
mapped_front v p a (suc n) = if_mapped (byte_at v p a) (mapped_front v p (a + 1) n)

abbrev pub memory_text : View → (processor address count : ℕ) → List ℕ
memory_text v p a n =
    if n == 0 || not (is_some (byte_at v p a)) then unmapped
    else bytes_digits (mapped_front v p a n)

-- a piece of a text: after an `m` where more follows, and else after an `l`
abbrev pub piece : (offset length : ℕ) → List ℕ → List ℕ
piece offset n text =
    if nat_lt n (length (drop offset text)) then 109 ∷ take n (drop offset text)
    else 108 ∷ drop offset text

-- the threads of the processors below a number: an `m` before the first, and commas between
abbrev pub separator : ℕ → ℕ
separator p = if p == 0 then 109 else 44

abbrev pub threads_below : ℕ → List ℕ
threads_below zero = []
threads_below (suc p) = threads_below p ++ separator p ∷ thread_digits p

-- what a processor does, in words
abbrev pub doing_text : Doing → List ℕ
doing_text Runs = codes "runs"
doing_text Exited = codes "exited"
doing_text Stopped = codes "stopped by the budget"
doing_text (Waits block) = codes "waits for block " ++ decimal block

-- the processor of a thread, if there is such a one
abbrev pub processor_among : (processors : ℕ) → Thread → Option ℕ
processor_among n All = None
processor_among n Any = None
processor_among n (Of p) = if nat_lt p n then Some p else None

-- whether there is the processor of a thread
abbrev pub alive_text : View → Thread → List ℕ
alive_text v All = refused
alive_text v Any = refused
alive_text v (Of p) = if nat_lt p v.processors then done else refused

-- why a run stopped, after the number of the thread
abbrev pub why_text : Why → List ℕ
why_text why.Stepped = []
why_text (why.Point kind.Software a) = codes "swbreak:;"
why_text (why.Point kind.Hardware a) = codes "hwbreak:;"
why_text (why.Point kind.Write a) = codes "watch:" ++ (word_digits a ++ codes ";")
why_text (why.Point kind.Read a) = codes "rwatch:" ++ (word_digits a ++ codes ";")
why_text (why.Point kind.Access a) = codes "awatch:" ++ (word_digits a ++ codes ";")
why_text why.Beginning = codes "replaylog:begin;"
why_text why.End = codes "replaylog:end;"
why_text why.Interrupted = []

-- the signal: an interrupt, or a trap
abbrev pub signal_text : Why → List ℕ
signal_text why.Interrupted = codes "T02thread:"
signal_text w = codes "T05thread:"

abbrev pub stop_text : Stop → List ℕ
stop_text s = signal_text s.why ++ (thread_digits s.processor ++ (codes ";" ++ why_text s.why))

-- the registers' description (GDB manual, 'Target Description Format', 'RISC-V Features')
abbrev pub register_line : ℕ → List ℕ
register_line n = codes "<reg name='x" ++ (decimal n ++ codes "' bitsize='32'/>")

abbrev pub register_lines_below : ℕ → List ℕ
register_lines_below zero = []
register_lines_below (suc n) = register_lines_below n ++ register_line n

unfoldable pub description : List ℕ
description =
    codes "<?xml version='1.0'?><target><architecture>riscv:rv32</architecture>"
    ++ (codes "<feature name='org.gnu.gdb.riscv.cpu'>" ++ (register_lines_below 32
    ++ codes "<reg name='pc' bitsize='32' type='code_ptr'/></feature></target>"))

-- what the target can do
unfoldable pub features : List ℕ
features =
    codes "PacketSize=1000;QStartNoAckMode+;qXfer:features:read+;swbreak+;hwbreak+;"
    ++ codes "vContSupported+;ReverseStep+;ReverseContinue+"

-- what is told of the processor that is looked at, if there is one
abbrev pub of_chosen : Session → View → List ℕ → List ℕ
of_chosen s v text = if nat_lt s.general v.processors then text else refused

-- the answer to what only looks
abbrev pub look_text : Session → View → Look → List ℕ
look_text s v Status = stop_text s.stop
look_text s v Registers = of_chosen s v (all_registers v s.general)
look_text s v (Register n) =
    if nat_lt n 33 then of_chosen s v (register_digits v s.general n) else refused
look_text s v (Memory a n) = of_chosen s v (memory_text v s.general a (min n most_bytes))
look_text s v Features = features
look_text s v (Description offset n) = piece offset n description
look_text s v Threads = threads_below v.processors
look_text s v MoreThreads = codes "l"
look_text s v (IsAlive t) = alive_text v t
look_text s v CurrentThread = codes "QC" ++ thread_digits s.general
look_text s v Attached = codes "1"
look_text s v Actions = codes "vCont;c;C;s;S"

-- points of one kind and one place
abbrev pub kind_number : PointKind → ℕ
kind_number kind.Software = 0
kind_number kind.Hardware = 1
kind_number kind.Write = 2
kind_number kind.Read = 3
kind_number kind.Access = 4

abbrev pub is_same : Point → Point → Bool
is_same p q =
    kind_number p.kind == kind_number q.kind && (p.address == q.address && p.length == q.length)

abbrev pub without : Point → List Point → List Point
without p points = filter (λ q. not (is_same p q)) points

-- a thread that can be chosen: one that there is, any, or all
abbrev pub is_choice : (processors : ℕ) → Thread → Bool
is_choice n All = true
is_choice n Any = true
is_choice n (Of p) = nat_lt p n

-- the processor that is chosen by a thread, where that names one
abbrev pub processor_or : ℕ → Thread → ℕ
processor_or p All = p
processor_or p Any = p
processor_or p (Of q) = q

-- the answer to what sets something, and the session then
abbrev pub setting_text : Session → (processors : ℕ) → SessionSetting → List ℕ
setting_text s n (Choose t) = if is_choice n t then done else refused
setting_text s n (ChooseToMove t) = if is_choice n t then done else refused
setting_text s n (SetPoint p) =
    if nat_lt (length (without p s.points)) most_points then done else is_full
setting_text s n (ClearPoint p) = done
setting_text s n NoAcknowledgements = done

abbrev pub after_setting : Session → (processors : ℕ) → SessionSetting → Session
after_setting s n (Choose t) =
    if is_choice n t then record s { general = processor_or s.general t } else s
after_setting s n (ChooseToMove t) = if is_choice n t then record s { moving = t } else s
after_setting s n (SetPoint p) =
    if nat_lt (length (without p s.points)) most_points
    then record s { points = without p s.points ++ p ∷ [] }
    else record s { points = without p s.points }
after_setting s n (ClearPoint p) = record s { points = without p s.points }
after_setting s n NoAcknowledgements = record s { acknowledges = false }

-- the thread that moves, where any may
abbrev pub moving_of : Session → Thread → Thread
moving_of s All = All
moving_of s Any = s.moving
moving_of s (Of p) = Of p

-- how far the run goes, if the processor that is named is one that there is: a step is of the
-- processor that is looked at, where none is named
abbrev pub run_of : (processors : ℕ) → Thread → Option MotionReach
run_of n All = Some reach.Run
run_of n Any = Some reach.Run
run_of n (Of p) = if nat_lt p n then Some (reach.RunOf p) else None

abbrev pub step_of : (processors processor : ℕ) → Option MotionReach
step_of n p = if nat_lt p n then Some (reach.Step p) else None

abbrev pub reach_among : Session → (processors : ℕ) → Extent → Option MotionReach
reach_among s n (extent.Run t) = run_of n (moving_of s t)
reach_among s n (extent.Step t) = step_of n (processor_or s.general (moving_of s t))

-- the session where the run stopped so
abbrev pub stopped : Session → Stop → Session
stopped s stop = record s { general = stop.processor; stop = stop }

-- the session where a command moved the run, if it did
abbrev pub moved : Session → Option Stop → Session
moved s None = s
moved s (Some stop) = record s { stop = stop }

-- what a command told
abbrev pub told_text : List ℕ → List ℕ
told_text [] = done
told_text (b ∷ bs) = bytes_digits (b ∷ bs)
