-- How a record is refused that doesn't tell of a whole run.
use Rattle.std.specs.Prelude.{◌≡◌, ◌≢◌, ℕ, ◌+◌, ◌<◌, false, List, [], ◌∷◌, ◌++◌, map, length}
use Rattle.run_order.specs.node_model.Node.{Work, standing_of}
use Rattle.run_order.specs.node_model.declared.Standing.TheVariants.{Over}
use Rattle.run_order.specs.node_model.Core.{Core, Event, Exec, Take, may_execute, may_take, event_step, opening_core, after}
use Rattle.run_order.specs.OwnRun.{Stamped, maker}
use Rattle.run_record.specs.declared.Record.{Record}
use Rattle.replay.specs.declared.refused.ReplayRule.{ReplayRule}
use Rattle.replay.specs.declared.refused.ReplayRule.TheVariants.{NoMessage, NotThere, Stamp}
use Rattle.replay.specs.Told.{Told, AreToldBy, AreMadeAs, what_told, events_told, entries_of, maker_told}

-- the numbers of the rules
abbrev pub number_of : ReplayRule → ℕ
number_of NoMessage = 44
number_of NotThere = 45
number_of Stamp = 46

-- a take finds the list from its sender empty
abbrev pub LacksMessage : Core → Event → Type 0
LacksMessage c (Exec i) = ⊥
LacksMessage c (Take i j) = c.list j i ≡ []

-- the node doesn't stand where it may make the event
abbrev pub IsElsewhere : Work → Core → Event → Type 0
IsElsewhere work c (Exec i) = may_execute (standing_of work (c.nodes i)) ≡ false
IsElsewhere work c (Take i j) = may_take (standing_of work (c.nodes i)) ≡ false

-- an event breaks a rule where a core stands
abbrev pub Breaks : Work → Core → Stamped → ReplayRule → Type 0
Breaks work c x NoMessage = LacksMessage c x.event
Breaks work c x NotThere = IsElsewhere work c x.event
Breaks work c x Stamp = ((event_step work c x.event).nodes (maker x)).stamp ≢ x.stamp

-- The first event that breaks a rule, and the lowest rule that it breaks: all before it were made
-- as they are told of.
pub record IsFirstBroken (work : Work) (r : Record) (rule : ReplayRule) (node entry : ℕ) : Type 0
  where
    pub before : List Told
    pub event : Told
    pub behind : List Told
    pub are_told : AreToldBy r (before ++ event ∷ behind)
    pub made : AreMadeAs work (opening_core work) (map what_told before)
    pub node_is : node ≡ maker_told event
    pub entry_is : entry ≡ event.entry
    pub breaks : Breaks work (after work (opening_core work) (events_told before)) event.what rule
    pub lowest : (other : ReplayRule) → number_of other < number_of rule
        → Breaks work (after work (opening_core work) (events_told before)) event.what other → ⊥

-- All events were made as they are told of, and this node, the least of them, isn't over then: its
-- journal ends too early.
pub record IsUnfinished (work : Work) (r : Record) (rule : ReplayRule) (node entry : ℕ) : Type 0
  where
    pub told : List Told
    pub are_told : AreToldBy r told
    pub made : AreMadeAs work (opening_core work) (map what_told told)
    pub rule_is : rule ≡ NotThere
    pub is_node : node < work.layout.nodes
    pub entry_is : entry ≡ length (entries_of r node) + 1
    pub not_over : standing_of work
        ((after work (opening_core work) (events_told told)).nodes node) ≢ Over
    pub least : (i : ℕ) → i < node → standing_of work
        ((after work (opening_core work) (events_told told)).nodes i) ≡ Over
