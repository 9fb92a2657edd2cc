-- Helps the code alone: words of several nodes that are made at once.
use Rattle.std.specs.Prelude.{◌≡◌, ℕ, ◌+◌, ◌-◌, ◌<◌, ◌≤◌, ◌^◌, true, false, if◌then◌else◌, List, length, Option, Some, None}
use Rattle.templates.specs.declared.plans.PlanEntry.{PlanEntry}
use Rattle.block_layout.specs.Layout.{Shape, blocks, lines}
use Rattle.dsm_core.specs.node_model.Node.{Work, standing_of}
use Rattle.dsm_core.specs.node_model.Core.{Core, AreAlike, IsCoreRun, after, may_execute}
use Rattle.run_trace.specs.Steps.{steps_made}
use Rattle.timed_sim.specs.declared.costs.Costs.{Costs}
use Rattle.timed_sim.specs.declared.costs.Spent.{Spent}
use Rattle.timed_sim.specs.Clock.{AreNext, Due, Times, clock_of, events_in, first_to, next_of, times_after_all}
use Rattle.timed_sim.specs.Stored.{AreSameTimes, AreWithin, Moment}

-- no node executes more words at once
abbrev pub most_words : ℕ
most_words = 4096

-- it is due at a time or later, if ever
abbrev pub IsFrom : (time : ℕ) → Option Due → Type 0
IsFrom time None = Unit {0}
IsFrom time (Some d) = time ≤ d.time

-- Before a time node i executes words alone, and not many: if it may execute one, no message
-- arrives for it before; else no other event of it begins before.
pub record IsFree (work : Work) (times : Times) (c : Core) (end i : ℕ) : Type 0 where
  pub mail : may_execute (standing_of work (c.nodes i)) ≡ true
      → IsFrom end (first_to work.layout.nodes times i)
  pub near : may_execute (standing_of work (c.nodes i)) ≡ true
      → end ≤ clock_of (times.spent i) + most_words
  pub other : may_execute (standing_of work (c.nodes i)) ≡ false
      → IsFrom end (next_of work times c i)

abbrev pub AreFree : Work → Times → Core → (end : ℕ) → Type 0
AreFree work times c end = (i : ℕ) → i < work.layout.nodes → IsFree work times c end i

-- how many words node i executes until a time
abbrev pub words_until : Work → Times → Core → (end i : ℕ) → ℕ
words_until work times c end i =
    if may_execute (standing_of work (c.nodes i)) then end - clock_of (times.spent i) else 0

abbrev pub more_words : ℕ → Spent → Spent
more_words words s = record s { words = s.words + words }

-- each node has executed so many words more
abbrev pub with_words : (words : ℕ → ℕ) → Times → Times
with_words words times = record {
  spent = λ i. more_words (words i) (times.spent i);
  needs = times.needs;
  arrivals = times.arrivals;
}

-- no block has more than 64 lines
abbrev pub HaveFewLines : Shape → Type 0
HaveFewLines layout = (b : ℕ) → b < blocks layout → lines layout b ≤ 64

-- events were made, each the next by the rule, one at least, and their steps were counted; no time
-- is far from those before, and the steps are few
pub record HaveMade (costs : Costs) (work : Work) (plan : List PlanEntry) (old new : Moment) : Type 0
  where
    pub dues : List Due
    pub some : 1 ≤ length dues
    pub by_rule : AreNext costs work old.times old.core dues
    pub is_run : IsCoreRun work old.core (events_in dues)
    pub core_is : AreAlike work.layout.nodes new.core (after work old.core (events_in dues))
    pub times_are : AreSameTimes work.layout.nodes new.times
        (times_after_all costs work old.times old.core dues)
    pub steps_are : new.steps ≡ old.steps + steps_made work plan old.core (events_in dues)
    pub within : HaveFewLines work.layout → (most : ℕ)
        → AreWithin work.layout.nodes most old.times
        → AreWithin work.layout.nodes (most + 2 ^ 26) new.times
    pub few : new.steps ≤ old.steps + 2 ^ 26
