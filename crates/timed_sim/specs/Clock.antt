-- Core runs whose events follow a clock. The unit is the time that a node takes for one word.
use Rattle.std.specs.Prelude.{◌≡◌, ℕ, zero, suc, ◌+◌, ◌-◌, ◌*◌, ◌≤◌, ◌==◌, ◌&&◌, max, nat_lt, if◌then◌else◌, List, [], ◌∷◌, ◌++◌, Option, Some, None, map, length, slice_index_or}
use Rattle.std.specs.List.{range_with_len}
use Rattle.templates.specs.declared.plans.PlanEntry.{PlanEntry}
use Rattle.block_layout.specs.Layout.{Shape, blocks, lines}
use Rattle.block_layout.specs.Update.{changed}
use Rattle.dsm_core.specs.dsm_messages.declared.messages.Need.{Need}
use Rattle.dsm_core.specs.dsm_messages.declared.messages.Need.TheVariants.{Read, Write}
use Rattle.dsm_core.specs.dsm_messages.declared.headers.MessageKind.{MessageKind}
use Rattle.dsm_core.specs.dsm_messages.declared.headers.MessageKind.TheVariants.{Data}
use Rattle.dsm_core.specs.dsm_messages.declared.headers.Sent.{Sent}
use Rattle.dsm_core.specs.dsm_messages.Headers.{sent_by}
use Rattle.dsm_core.specs.node_machine.declared.wanted.Wanted.{Wanted}
use Rattle.dsm_core.specs.node_model.declared.Standing.{Standing}
use Rattle.dsm_core.specs.node_model.declared.Standing.TheVariants.{Running, AtPoll, Waiting, Ended, Over}
use Rattle.dsm_core.specs.node_model.Node.{Work, standing_of}
use Rattle.dsm_core.specs.node_model.Core.{Core, Event, Exec, Take, IsCoreRun, IsOver, opening_core, event_step, after}
use Rattle.dsm_core.specs.node_model.Outcome.{Outcome, IsOutcomeOf}
use Rattle.dsm_core.specs.run_order.OwnRun.{Stamped, StandsForOwnRun, node_of, run_of}
use Rattle.dsm_core.specs.Seen.{sends_at, wants_at}
use Rattle.run_trace.specs.Steps.{steps_made}
use Rattle.timed_sim.specs.declared.costs.Costs.{Costs}
use Rattle.timed_sim.specs.declared.costs.Spent.{Spent}

-- each cost is a million words at most
pub record AreInRange (costs : Costs) : Type 0 where
  pub latency : costs.latency ≤ 1000000
  pub line : costs.line ≤ 1000000
  pub handling : costs.handling ≤ 1000000

-- 1. Clocks

-- the clock of a node shows all that it has spent
abbrev pub clock_of : Spent → ℕ
clock_of s = s.words + s.to_read + s.to_write + s.handling + s.idle

-- what two have spent, and what several have, together
abbrev pub both_spent : Spent → Spent → Spent
both_spent s t = record {
  words = s.words + t.words;
  to_read = s.to_read + t.to_read;
  to_write = s.to_write + t.to_write;
  handling = s.handling + t.handling;
  idle = s.idle + t.idle;
}

abbrev pub spent_beside : Spent → List Spent → Spent
spent_beside s [] = s
spent_beside s (t ∷ ts) = spent_beside (both_spent s t) ts

-- what each node has spent; what its last word that wanted a block wanted it for; and when the
-- messages on their way from j to i arrive, in the order of the list
pub record Times : Type 0 where
  pub spent : ℕ → Spent
  pub needs : ℕ → Need
  pub arrivals : (j i : ℕ) → List ℕ

abbrev pub nothing_spent : Spent
nothing_spent = record { words = 0; to_read = 0; to_write = 0; handling = 0; idle = 0 }

-- what nodes have spent together
abbrev pub total_spent : List Spent → Spent
total_spent ss = spent_beside nothing_spent ss

abbrev pub opening_times : Times
opening_times = record { spent = λ i. nothing_spent; needs = λ i. Read; arrivals = λ j i. [] }

-- 2. The next event

-- an event, and when it begins
pub record Due : Type 0 where
  pub time : ℕ
  pub event : Event

-- the one that begins first, and of equals the one before
abbrev pub earlier : Option Due → Option Due → Option Due
earlier None other = other
earlier (Some first) None = Some first
earlier (Some first) (Some other) = if nat_lt other.time first.time then Some other else Some first

-- of those below n, the one that begins first, and of equals that of the least number
abbrev pub earliest : (ℕ → Option Due) → (n : ℕ) → Option Due
earliest due zero = None
earliest due (suc k) = earlier (earliest due k) (due k)

-- node i takes the first message from j, when it arrives
abbrev pub first_from : (j i : ℕ) → List ℕ → Option Due
first_from j i [] = None
first_from j i (t ∷ ts) = Some (record { time = t; event = Take i j })

-- node i takes the message that arrives first
abbrev pub first_to : (n : ℕ) → Times → (i : ℕ) → Option Due
first_to n times i = earliest (λ j. first_from j i (times.arrivals j i)) n

-- at a poll: the message, where it has arrived by the clock, and else the word
abbrev pub at_poll : (word : Due) → Option Due → Due
at_poll word None = word
at_poll word (Some take) =
    if nat_lt word.time take.time then word else record { time = word.time; event = take.event }

-- a message is taken at the clock, or when it arrives, if that is later
abbrev pub from_clock : (clock : ℕ) → Option Due → Option Due
from_clock clock None = None
from_clock clock (Some take) =
    Some (record { time = max clock take.time; event = take.event })

-- the next event of a node, by where it stands, its word at its clock and its first message
abbrev pub next_by : Standing → (word : Due) → Option Due → Option Due
next_by Running word take = Some word
next_by AtPoll word take = Some (at_poll word take)
next_by Waiting word take = from_clock word.time take
next_by Ended word take = from_clock word.time take
next_by Over word take = None

abbrev pub next_of : Work → Times → Core → (i : ℕ) → Option Due
next_of work times c i = next_by (standing_of work (c.nodes i))
    (record { time = clock_of (times.spent i); event = Exec i })
    (first_to work.layout.nodes times i)

-- THE RULE: of all nodes' next events the one that begins first, and of equals that of the least
-- node
abbrev pub next : Work → Times → Core → Option Due
next work times c = earliest (next_of work times c) work.layout.nodes

-- 3. What an event takes

-- until the event begins a node waits to read, or to write, or has ended and is idle
abbrev pub with_gap : Standing → Need → (gap : ℕ) → Spent → Spent
with_gap Waiting Read gap s = record s { to_read = s.to_read + gap }
with_gap Waiting Write gap s = record s { to_write = s.to_write + gap }
with_gap standing need gap s = record s { idle = s.idle + gap }

-- a word takes 1, and taking a message what handling costs
abbrev pub with_event : Costs → Event → Spent → Spent
with_event costs (Exec i) s = record s { words = s.words + 1 }
with_event costs (Take i j) s = record s { handling = s.handling + costs.handling }

abbrev pub spent_after : Costs → Standing → Need → Due → Spent → Spent
spent_after costs standing need d s =
    with_event costs d.event (with_gap standing need (d.time - clock_of s) s)

-- what the first block was wanted for, if the word wanted any
abbrev pub need_after : List Wanted → Need → Need
need_after [] need = need
need_after (w ∷ ws) need = w.need

-- 4. Messages on their way

-- the lines of bytes that a message carries: those of its block, where it brings the bytes
abbrev pub lines_of_block : Shape → Option ℕ → ℕ
lines_of_block layout None = 0
lines_of_block layout (Some b) = if nat_lt b (blocks layout) then lines layout b else 0

abbrev pub lines_carried : Shape → MessageKind → Option ℕ → ℕ
lines_carried layout Data block = lines_of_block layout block
lines_carried layout kind block = 0

-- how long a message from node i is on its way: one to the node itself arrives at once
abbrev pub delay : Costs → Shape → (i : ℕ) → Sent → ℕ
delay costs layout i p =
    if p.to == i then 0
    else costs.latency + costs.line * lines_carried layout p.header.kind p.header.block

-- the delays of those for node k
abbrev pub delays_to : Costs → Shape → (i k : ℕ) → List Sent → List ℕ
delays_to costs layout i k [] = []
delays_to costs layout i k (p ∷ ps) =
    if p.to == k then delay costs layout i p ∷ delays_to costs layout i k ps
    else delays_to costs layout i k ps

-- the last of these, if there are any
abbrev pub last_of : List ℕ → ℕ
last_of times = slice_index_or times (length times - 1) 0

-- messages are sent at a time: none arrives before those sent before it on the same link
abbrev pub with_sent : (time : ℕ) → (delays times : List ℕ) → List ℕ
with_sent time [] times = times
with_sent time (d ∷ ds) times = with_sent time ds (times ++ max (time + d) (last_of times) ∷ [])

abbrev pub behind_first : List ℕ → List ℕ
behind_first [] = []
behind_first (t ∷ ts) = ts

-- a message that is taken is on its way no more
abbrev pub without_taken : Event → ((j i : ℕ) → List ℕ) → (j i : ℕ) → List ℕ
without_taken (Exec i) arrivals j k = arrivals j k
without_taken (Take i from) arrivals j k =
    if j == from && k == i then behind_first (arrivals j k) else arrivals j k

-- node i has sent these at a time
abbrev pub with_sends : Costs → Shape → (i time : ℕ) → List Sent → ((j i : ℕ) → List ℕ)
    → (j i : ℕ) → List ℕ
with_sends costs layout i time sends arrivals j k =
    if j == i then with_sent time (delays_to costs layout i k sends) (arrivals j k)
    else arrivals j k

-- 5. The times after an event

-- by where its node stood, and what it wants and sends: it sends when it ends
abbrev pub times_by : Costs → Shape → Standing → List Wanted → List Sent → Times → Due → Times
times_by costs layout standing wants sends times d =
    let i = node_of d.event in
    let spent = spent_after costs standing (times.needs i) d (times.spent i) in
    record {
      spent = changed times.spent i spent;
      needs = changed times.needs i (need_after wants (times.needs i));
      arrivals = with_sends costs layout i (clock_of spent) sends
          (without_taken d.event times.arrivals);
    }

abbrev pub times_after : Costs → Work → Times → Core → Due → Times
times_after costs work times c d =
    times_by costs work.layout (standing_of work (c.nodes (node_of d.event)))
    (wants_at work c d.event) (map sent_by (sends_at work c d.event)) times d

-- 6. The run

abbrev pub event_in : Due → Event
event_in d = d.event

-- the events without their times
abbrev pub events_in : List Due → List Event
events_in ds = map event_in ds

-- each event is the next by the rule
abbrev pub AreNext : Costs → Work → Times → Core → List Due → Type 0
AreNext costs work times c [] = Unit {0}
AreNext costs work times c (d ∷ ds) = (next work times c ≡ Some d)
    × AreNext costs work (times_after costs work times c d) (event_step work c d.event) ds

abbrev pub times_after_all : Costs → Work → Times → Core → List Due → Times
times_after_all costs work times c [] = times
times_after_all costs work times c (d ∷ ds) =
    times_after_all costs work (times_after costs work times c d) (event_step work c d.event) ds

-- the last of n clocks
abbrev pub last_clock : (n : ℕ) → (ℕ → Spent) → ℕ
last_clock zero spent = 0
last_clock (suc k) spent = max (last_clock k spent) (clock_of (spent k))

-- a node is idle until the last clock
abbrev pub idle_until : (last : ℕ) → Spent → Spent
idle_until last s = record s { idle = s.idle + (last - clock_of s) }

-- The outcome of the core run of a clock, what each node has spent its time on, the time at which
-- the last node is over, and how many steps of the original the run makes. The nodes make the
-- events that the rule gives until each is over. They are a core run like any other: the core that
-- they reach stands for its own run, whose outcome this is.
pub record IsOutcomeByClock (work : Work) (plan : List PlanEntry) (costs : Costs) (o : Outcome)
    (spent : List Spent) (last steps : ℕ)
    : Type 0 where
  pub run : List Due
  pub by_rule : AreNext costs work opening_times (opening_core work) run
  pub is_run : IsCoreRun work (opening_core work) (events_in run)
  pub over : IsOver work (after work (opening_core work) (events_in run))
  pub last_is : last ≡ last_clock work.layout.nodes
      (times_after_all costs work opening_times (opening_core work) run).spent
  pub spent_is : spent ≡ map (λ i. idle_until last
      ((times_after_all costs work opening_times (opening_core work) run).spent i))
      (range_with_len 0 work.layout.nodes)
  pub own : List Stamped
  pub stands : StandsForOwnRun work (after work (opening_core work) (events_in run)) own
  pub outcome : IsOutcomeOf work (run_of own) o
  pub steps_are : steps ≡ steps_made work plan (opening_core work) (events_in run)
