-- Helps the code alone: clocks and links, as they are stored.
use Rattle.std.specs.Prelude.{◌≡◌, ℕ, ◌+◌, ◌*◌, ◌<◌, ◌≤◌, List, [], ◌∷◌, All, map, length, slice_index_or}
use Rattle.std.specs.List.{range_with_len}
use Rattle.templates.specs.declared.plans.PlanEntry.{PlanEntry}
use Rattle.block_layout.specs.Layout.{Shape}
use Rattle.block_layout.specs.Update.{changed}
use Rattle.dsm_core.specs.dsm_messages.declared.messages.Need.TheVariants.{Read}
use Rattle.dsm_core.specs.dsm_messages.declared.headers.Sent.{Sent}
use Rattle.dsm_core.specs.node_model.Node.{Work}
use Rattle.dsm_core.specs.node_model.Core.{Core, Event, Exec, Take, AreAlike, event_step}
use Rattle.dsm_core.specs.CoreParts.{work_of, core_of, event_of}
use Rattle.run_trace.specs.Steps.{steps_made}
use Rattle.timed_sim.specs.declared.clocks.Clocks.{Clocks}
use Rattle.timed_sim.specs.declared.costs.Costs.{Costs}
use Rattle.timed_sim.specs.declared.costs.Spent.{Spent}
use Rattle.timed_sim.specs.declared.due.Due.{Due as Stored}
use Rattle.timed_sim.specs.declared.run.TimedRun.{TimedRun}
use Rattle.timed_sim.specs.Counted.{CountsFor}
use Rattle.timed_sim.specs.Clock.{AreInRange, Times, Due, nothing_spent, clock_of, with_sends, times_after, last_clock, idle_until}

abbrev pub due_of : Stored → Due
due_of d = record { time = d.time; event = event_of d.event }

-- the link from j to i
abbrev pub link_at : List (List ℕ) → (n j i : ℕ) → List ℕ
link_at links n j i = slice_index_or links (j * n + i) []

-- a link for each pair of up to 16 nodes
pub record AreLinks (n : ℕ) (links : List (List ℕ)) : Type 0 where
  pub few : n ≤ 16
  pub len : length links ≡ n * n

-- node i has sent these at a time
abbrev pub HaveSent : Costs → Shape → (i time : ℕ) → List Sent → (old new : List (List ℕ)) → Type 0
HaveSent costs layout i time sends old new = (j k : ℕ) → j < layout.nodes → k < layout.nodes
    → link_at new layout.nodes j k
    ≡ with_sends costs layout i time sends (link_at old layout.nodes) j k

-- the event is one of n nodes
abbrev pub IsBelow : (n : ℕ) → Event → Type 0
IsBelow n (Exec i) = i < n
IsBelow n (Take i j) = (i < n) × (j < n)

-- a word more was executed
abbrev pub one_word_more : Spent → Spent
one_word_more s = record s { words = s.words + 1 }

-- the times of n nodes
abbrev pub times_of : (n : ℕ) → Clocks → Times
times_of n c = record {
  spent = λ i. slice_index_or c.spent.items i nothing_spent;
  needs = λ i. slice_index_or c.needs.items i Read;
  arrivals = link_at c.links.items n;
}

-- what each of n nodes has spent, and wanted, and a link for each pair
pub record AreClocks (n : ℕ) (c : Clocks) : Type 0 where
  pub spent : length c.spent.items ≡ n
  pub needs : length c.needs.items ≡ n
  pub links : AreLinks n c.links.items

-- no clock of n nodes is above the most, and none of the messages between them arrives after it
pub record AreWithin (n most : ℕ) (times : Times) : Type 0 where
  pub clocks : (i : ℕ) → i < n → clock_of (times.spent i) ≤ most
  pub arrivals : (j i : ℕ) → j < n → i < n → All (λ t. t ≤ most) (times.arrivals j i)

-- the times are the same for n nodes
pub record AreSameTimes (n : ℕ) (s t : Times) : Type 0 where
  pub spent : (i : ℕ) → i < n → s.spent i ≡ t.spent i
  pub needs : (i : ℕ) → i < n → s.needs i ≡ t.needs i
  pub arrivals : (j i : ℕ) → j < n → i < n → s.arrivals j i ≡ t.arrivals j i

-- node i has executed a word more
abbrev pub with_word : (i : ℕ) → Times → Times
with_word i times = record {
  spent = changed times.spent i (one_word_more (times.spent i));
  needs = times.needs;
  arrivals = times.arrivals;
}

-- each message that is on its way has the time when it arrives
abbrev pub AreInStep : (n : ℕ) → Times → Core → Type 0
AreInStep n times c = (j i : ℕ) → j < n → i < n
    → length (times.arrivals j i) ≡ length (c.list j i)

-- the times of a run
abbrev pub times_in : TimedRun → Times
times_in r = times_of r.core.layout.nodes r.clocks

-- the plan of the rewritten code that it runs
abbrev pub plan_in : TimedRun → List PlanEntry
plan_in r = r.count.plan.now

-- where a run stands: its times, its core, and how many steps of the original it has made
pub record Moment : Type 0 where
  pub times : Times
  pub core : Core
  pub steps : ℕ

abbrev pub moment_of : TimedRun → Moment
moment_of r = record { times = times_in r; core = core_of r.core; steps = r.count.steps }

pub record IsReady (r : TimedRun) : Type 0 where
  pub clocks : AreClocks r.core.layout.nodes r.clocks
  pub costs : AreInRange r.costs
  pub undo_logs : r.undo_logs ≡ r.core.layout.nodes
  pub in_step : AreInStep r.core.layout.nodes (times_in r) (core_of r.core)
  pub counts : CountsFor (work_of r.core) (plan_in r) r.count

-- the event was made
pub record HasMade (costs : Costs) (work : Work) (times : Times) (c : Core) (d : Due)
    (new_times : Times) (new : Core)
    : Type 0 where
  pub core_is : AreAlike work.layout.nodes new (event_step work c d.event)
  pub times_are : AreSameTimes work.layout.nodes new_times (times_after costs work times c d)

-- the steps of an event were made
abbrev pub HaveBeenMade : (old new : TimedRun) → Event → Type 0
HaveBeenMade old new e = new.count.steps
    ≡ old.count.steps + steps_made (work_of old.core) (plan_in old) (core_of old.core) (e ∷ [])

-- nothing of the run has changed but how many words are tried at once
pub record IsKept (old new : TimedRun) : Type 0 where
  pub work : work_of new.core ≡ work_of old.core
  pub core : core_of new.core ≡ core_of old.core
  pub clocks : new.clocks ≡ old.clocks
  pub costs : new.costs ≡ old.costs
  pub undo_logs : new.undo_logs ≡ old.undo_logs
  pub count : new.count ≡ old.count

-- this is what n nodes have spent once each is idle until the last clock, and the last clock
pub record HasEnded (n : ℕ) (times : Times) (spent : List Spent) (last : ℕ) : Type 0 where
  pub last_is : last ≡ last_clock n times.spent
  pub spent_is : spent ≡ map (λ i. idle_until last (times.spent i)) (range_with_len 0 n)
