-- The request that a packet's body spells (GDB manual, 'Packets', 'General Query Packets').
use Rattle.std.specs.Prelude.{ℕ, ◌+◌, ◌-◌, ◌^◌, ◌==◌, ◌||◌, nat_lt, nat_le, List, [], ◌∷◌, Option, Some, None, if◌then◌else◌, bytes_eq, codes, take, drop, option_and_then, option_map, position, unwrap_or}
use Rattle.gdb_remote.specs.declared.words.Keyword.{Keyword}
use Rattle.gdb_remote.specs.declared.words.Keyword.TheVariants as word
use Rattle.gdb_remote.specs.declared.request.Thread.{Thread}
use Rattle.gdb_remote.specs.declared.request.Thread.TheVariants.{All, Any, Of}
use Rattle.gdb_remote.specs.declared.request.PointKind.{PointKind}
use Rattle.gdb_remote.specs.declared.request.PointKind.TheVariants as kind
use Rattle.gdb_remote.specs.declared.request.Point.{Point}
use Rattle.gdb_remote.specs.declared.request.Direction.TheVariants.{Forwards, Backwards}
use Rattle.gdb_remote.specs.declared.request.Look.TheVariants as look
use Rattle.gdb_remote.specs.declared.request.SessionSetting.TheVariants as setting
use Rattle.gdb_remote.specs.declared.request.Extent.{Extent}
use Rattle.gdb_remote.specs.declared.request.Extent.TheVariants as extent
use Rattle.gdb_remote.specs.declared.request.DebuggerRequest.{DebuggerRequest}
use Rattle.gdb_remote.specs.declared.request.DebuggerRequest.TheVariants.{Look, ThreadText, Set, Go, Monitor, Detach, Kill, Write, Malformed, Unknown}
use Rattle.gdb_remote.specs.Hexadecimal.{number_of}
use Rattle.gdb_remote.specs.Words.{all_words, found_word}

infixl 10 ◌>>=◌
abbrev pub ◌>>=◌ : {A B : Type 0} → Option A → (A → Option B) → Option B
o >>= f = option_and_then f o

-- what stands before the first of this byte, and after it
abbrev pub cut : ℕ → List ℕ → Option (List ℕ × List ℕ)
cut at text = option_map (λ i. (take i text, drop (i + 1) text)) (position (λ b. b == at) text)

-- what stands before the first of this byte, or all where there is none
abbrev pub front : ℕ → List ℕ → List ℕ
front at text = unwrap_or (option_map (λ p. p.0) (cut at text)) text

-- a number of 32 bits
abbrev pub word_number : List ℕ → Option ℕ
word_number text = do
  n ← number_of text
  if nat_lt n (2 ^ 32) then Some n else None

-- two numbers with a comma between them
abbrev pub number_pair : List ℕ → Option (ℕ × ℕ)
number_pair text = do
  p ← cut 44 text
  a ← number_of p.0
  n ← number_of p.1
  Some (a, n)

-- a thread has the number of its processor and one; 0 is any thread, and -1 all of them
abbrev pub numbered_thread : ℕ → Option Thread
numbered_thread n =
    if n == 0 then Some Any else if nat_le n (2 ^ 16) then Some (Of (n - 1)) else None

abbrev pub thread_of : List ℕ → Option Thread
thread_of text =
    if bytes_eq text (codes "-1") then Some All else number_of text >>= numbered_thread

-- the kinds of points
abbrev pub kind_of : ℕ → Option PointKind
kind_of n =
    if n == 0 then Some kind.Software
    else if n == 1 then Some kind.Hardware
    else if n == 2 then Some kind.Write
    else if n == 3 then Some kind.Read
    else if n == 4 then Some kind.Access
    else None

-- a point: its kind, its address and its length
abbrev pub point_of : List ℕ → Option Point
point_of text = do
  p ← cut 44 text
  n ← number_of p.0
  k ← kind_of n
  q ← cut 44 p.1
  a ← word_number q.0
  l ← word_number q.1
  Some (record { kind = k; address = a; length = l })

-- a request, where its arguments can be read
abbrev pub read_as : {A : Type 0} → (A → DebuggerRequest) → Option A → DebuggerRequest
read_as f o = unwrap_or (option_map f o) Malformed

-- a request that has no arguments
abbrev pub alone : List ℕ → DebuggerRequest → DebuggerRequest
alone [] r = r
alone (b ∷ bs) r = Unknown

-- a request whose argument is a signal, which the target doesn't get
abbrev pub signalled : List ℕ → DebuggerRequest → DebuggerRequest
signalled text r = read_as (λ n. r) (number_of text)

-- an address, and how many bytes are wanted
abbrev pub memory_of : List ℕ → Option (ℕ × ℕ)
memory_of text = do
  p ← cut 44 text
  a ← word_number p.0
  n ← number_of p.1
  Some (a, n)

-- of the actions of threads only the first counts: one that has no thread is of all of them
abbrev pub act : List ℕ → Thread → Option DebuggerRequest
act verb thread =
    if bytes_eq (take 1 verb) (codes "c") || bytes_eq (take 1 verb) (codes "C")
    then Some (Go Forwards (extent.Run thread))
    else if bytes_eq (take 1 verb) (codes "s") || bytes_eq (take 1 verb) (codes "S")
    then Some (Go Forwards (extent.Step thread))
    else None

abbrev pub first_action : List ℕ → Option DebuggerRequest
first_action action =
    unwrap_or (option_map (λ p. thread_of p.1 >>= act p.0) (cut 58 action)) (act action All)

-- the request of a word and what stands after it
abbrev pub request_with : Keyword → List ℕ → DebuggerRequest
request_with word.Status rest = alone rest (Look look.Status)
request_with word.Registers rest = alone rest (Look look.Registers)
request_with word.Register rest = read_as (λ n. Look (look.Register n)) (number_of rest)
request_with word.Memory rest = read_as (λ p. Look (look.Memory p.0 p.1)) (memory_of rest)
request_with word.Features rest = Look look.Features
request_with word.Description rest =
    read_as (λ p. Look (look.Description p.0 p.1)) (number_pair rest)
request_with word.Threads rest = alone rest (Look look.Threads)
request_with word.MoreThreads rest = alone rest (Look look.MoreThreads)
request_with word.ThreadText rest = read_as (λ t. ThreadText t) (thread_of rest)
request_with word.IsAlive rest = read_as (λ t. Look (look.IsAlive t)) (thread_of rest)
request_with word.CurrentThread rest = alone rest (Look look.CurrentThread)
request_with word.Attached rest = Look look.Attached
request_with word.Actions rest = alone rest (Look look.Actions)
request_with word.Choose rest = read_as (λ t. Set (setting.Choose t)) (thread_of rest)
request_with word.ChooseToMove rest =
    read_as (λ t. Set (setting.ChooseToMove t)) (thread_of rest)
request_with word.SetPoint rest = read_as (λ p. Set (setting.SetPoint p)) (point_of rest)
request_with word.ClearPoint rest = read_as (λ p. Set (setting.ClearPoint p)) (point_of rest)
request_with word.NoAcknowledgements rest = alone rest (Set setting.NoAcknowledgements)
request_with word.Act rest = read_as (λ r. r) (first_action (front 59 rest))
request_with word.Continue rest = alone rest (Go Forwards (extent.Run Any))
request_with word.ContinueWith rest = signalled rest (Go Forwards (extent.Run Any))
request_with word.Step rest = alone rest (Go Forwards (extent.Step Any))
request_with word.StepWith rest = signalled rest (Go Forwards (extent.Step Any))
request_with word.ContinueBack rest = alone rest (Go Backwards (extent.Run Any))
request_with word.StepBack rest = alone rest (Go Backwards (extent.Step Any))
request_with word.Monitor rest = Monitor
request_with word.Detach rest = Detach
request_with word.Kill rest = Kill
request_with word.WriteRegisters rest = Write
request_with word.WriteRegister rest = Write
request_with word.WriteMemory rest = Write
request_with word.WriteBytes rest = Write

unfoldable pub request_of : List ℕ → DebuggerRequest
request_of text =
    unwrap_or (option_map (λ p. request_with p.0 p.1) (found_word all_words text)) Unknown
