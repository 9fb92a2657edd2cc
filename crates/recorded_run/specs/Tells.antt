-- What the commands of `monitor` tell, and where they leave the run.
use Rattle.std.specs.Prelude.{◌≡◌, ℕ, ◌-◌, ◌==◌, ◌&&◌, not, min, Bool, true, false, if◌then◌else◌, List, [], ◌∷◌, ◌++◌, ◌⊎◌, length, All, Option, Some, None, is_some, codes}
use Rattle.std.specs.Fmt.{decimal}
use Rattle.event_text.specs.node_machine.Wanted.{block_with}
use Rattle.event_text.specs.run_trace.node_model.Core.{Core}
use Rattle.event_text.specs.run_trace.Trace.{IsTraceOf}
use Rattle.event_text.specs.run_trace.Misses.{is_miss as asks}
use Rattle.event_text.specs.run_trace.Traced.{Traced}
use Rattle.event_text.specs.Events.{event_line}
use Rattle.debugged_run.specs.gdb_session.gdb_remote.declared.request.Point.{Point}
use Rattle.debugged_run.specs.gdb_session.declared.target.Doing.{Doing}
use Rattle.debugged_run.specs.gdb_session.declared.target.Doing.TheVariants.{Exited, Stopped}
use Rattle.debugged_run.specs.gdb_session.declared.target.Motion.{Motion}
use Rattle.debugged_run.specs.gdb_session.declared.target.Stop.{Stop}
use Rattle.debugged_run.specs.gdb_session.declared.target.Why.{Why}
use Rattle.debugged_run.specs.gdb_session.declared.target.Why.TheVariants as why
use Rattle.debugged_run.specs.one_memory.declared.Pick.{Pick}
use Rattle.debugged_run.specs.time_machine.declared.stops.StopPoint.{StopPoint}
use Rattle.debugged_run.specs.time_machine.declared.stops.StopPoint.TheVariants.{Watch as Watched}
use Rattle.debugged_run.specs.time_machine.declared.stops.WatchKind.TheVariants as watch
use Rattle.debugged_run.specs.time_machine.Moves.{EndsBackward}
use Rattle.debugged_run.specs.time_machine.Stand.{state_at}
use Rattle.debugged_run.specs.Commands.{where_text}
use Rattle.debugged_run.specs.Motions as of_run
use Rattle.debugged_run.specs.Motions.{mover_at}
use Rattle.debugged_run.specs.Seen.{has_ended}
use Rattle.recorded_run.specs.declared.command.Command.{Command}
use Rattle.recorded_run.specs.declared.command.Command.TheVariants.{Where, Output, Node, Block, Miss, BackToWrite, Unknown}
use Rattle.recorded_run.specs.declared.walk.LastEvent.{LastEvent}
use Rattle.recorded_run.specs.Commands.{command_of}
use Rattle.recorded_run.specs.Nodes.{NodeDoes, node_text_if, block_text_if}
use Rattle.recorded_run.specs.Shown.{Recorded, AreFirst, AreShown, work_shown, picks_made, name_of, last_of}

-- 1. The texts

-- the last event of the nodes, if they have made one
abbrev pub last_text : Option LastEvent → List ℕ
last_text None = codes "the nodes are at their start\n"
last_text (Some e) =
    codes "the nodes are behind the event of node " ++ (decimal e.node
    ++ (codes " with stamp " ++ (decimal e.stamp ++ codes "\n")))

unfoldable pub no_miss_text : List ℕ
no_miss_text = codes "no miss comes: the run is at its end\n"

-- who writes next, where a write was found
abbrev pub write_text : Option ℕ → (processor : ℕ) → List ℕ
write_text None p = codes "nothing wrote it: the run is at its start\n"
write_text (Some i) p =
    codes "the next pick is of processor " ++ (decimal p ++ codes ", and writes it\n")

unfoldable pub unknown_text : List ℕ
unknown_text =
    codes "no such command; there are where, output, node I, block 0xA, miss, back-to-write 0xA\n"

-- 2. Misses

-- the same run at a position, its nodes after an event, if one is named
abbrev pub moved : Recorded → (position : ℕ) → Option LastEvent → Recorded
moved s position behind =
    record s { stand = record s.stand { position = position }; behind = behind }

-- a word that asks for a block
abbrev pub is_miss : Traced → Bool
is_miss x = asks x.what

abbrev pub IsNoMiss : Traced → Type 0
IsNoMiss x = is_miss x ≡ false

-- after these events the next that is a miss was made, and it is told of
pub record GoesToMiss (s : Recorded) (seen : List Traced) (told : List ℕ) (t : Recorded) : Type 0
  where
    pub more : List Traced
    pub miss : Traced
    pub nodes : Core
    pub first : AreFirst (work_shown s) s.plan s.kept (seen ++ (more ++ miss ∷ [])) nodes
    pub none : All IsNoMiss more
    pub is : is_miss miss ≡ true
    pub told_is : told ≡ event_line s.stand.run.program miss
    pub goes : t
        ≡ moved s (picks_made (seen ++ (more ++ miss ∷ []))) (Some (name_of miss))

-- the record tells of no miss after these events, and the run goes to its end
pub record GoesToEnd (s : Recorded) (seen : List Traced) (told : List ℕ) (t : Recorded) : Type 0
  where
    pub more : List Traced
    pub whole : IsTraceOf (work_shown s) s.plan s.kept (seen ++ more)
    pub none : All IsNoMiss more
    pub told_is : told ≡ no_miss_text
    pub goes : t ≡ moved s (length s.stand.run.picks) None

-- 3. Writes

-- a step that writes the byte at an address
abbrev pub writes : (address : ℕ) → StopPoint
writes a = Watched (record { kind = watch.Write; address = a; size = 1 })

-- the run goes back to before the last pick that wrote a byte, or to its start
pub record GoesBackToWrite (s : Recorded) (address : ℕ) (told : List ℕ) (t : Recorded) : Type 0
  where
    pub hit : Option ℕ
    pub position : ℕ
    pub ends : EndsBackward s.stand.run (writes address ∷ []) s.stand.position hit position
    pub told_is : told ≡ write_text hit (mover_at s.stand.run.picks position)
    pub goes : t ≡ moved s position None

-- 4. The commands

-- the nodes that are shown tell this, and the run stays
abbrev pub Looks : Recorded → (List Traced → Core → List ℕ) → (told : List ℕ) → Recorded → Type 0
Looks s text told t =
    (seen : List Traced) × (c : Core) × AreShown s seen c × (told ≡ text seen c) × (t ≡ s)

-- what is told of the run and of its nodes' last event
abbrev pub stand_text : Recorded → List Traced → Core → List ℕ
stand_text s seen c =
    where_text s.stand.run.picks s.stand.position ++ last_text (last_of seen)

abbrev pub TellsAs : Recorded → Command → (told : List ℕ) → Recorded → Type 0
TellsAs s Where told t = Looks s (stand_text s) told t
TellsAs s Output told t = (told ≡ (state_at s.stand.run s.stand.position).output) × (t ≡ s)
TellsAs s (Node i) told t = Looks s (λ seen c. node_text_if (work_shown s) c i) told t
TellsAs s (Block a) told t = Looks s
    (λ seen c. block_text_if s.stand.run.layout c (block_with s.stand.run.layout a)) told t
TellsAs s Miss told t =
    (seen : List Traced) × (c : Core) × AreShown s seen c
    × (GoesToMiss s seen told t ⊎ GoesToEnd s seen told t)
TellsAs s (BackToWrite a) told t = GoesBackToWrite s a told t
TellsAs s Unknown told t = (told ≡ unknown_text) × (t ≡ s)

-- why a run stands at a position
abbrev pub why_at : List Pick → (position : ℕ) → Why
why_at picks k =
    if k == 0 then why.Beginning else if k == length picks then why.End else why.Stepped

-- where a run stands: at the processor of the node that made the event after which the nodes are
-- shown, if one was named; else at that of the next pick, or of the last at the end
abbrev pub stands_by : Option LastEvent → List Pick → (position : ℕ) → Stop
stands_by None picks k =
    record { processor = mover_at picks (min k (length picks - 1)); why = why_at picks k }
stands_by (Some e) picks k = record { processor = e.node; why = why.Stepped }

abbrev pub stands : Recorded → Stop
stands s = stands_by s.behind s.stand.run.picks s.stand.position

-- what is told of where the run stands after a command, if that moved it
abbrev pub stop_after : Command → Recorded → Option Stop
stop_after Miss t = Some (stands t)
stop_after (BackToWrite a) t = Some (stands t)
stop_after Where t = None
stop_after Output t = None
stop_after (Node i) t = None
stop_after (Block a) t = None
stop_after Unknown t = None

-- a command tells this, and leaves the run so
abbrev pub Tells : Recorded → (command told : List ℕ) → Option Stop → Recorded → Type 0
Tells s text told stop t =
    TellsAs s (command_of text) told t × (stop ≡ stop_after (command_of text) t)

-- a motion goes to another position, and the nodes are shown there
abbrev pub Moves : Recorded → Motion → List Point → Stop → Recorded → Type 0
Moves s m points told t =
    of_run.Moves s.stand m points told t.stand × (t ≡ record s { stand = t.stand; behind = None })

-- 5. What processors do

-- a processor does what its node does, of the nodes that are shown
abbrev pub DoesAsNode : Recorded → (processor : ℕ) → Doing → Type 0
DoesAsNode s p d =
    (seen : List Traced) × (c : Core) × AreShown s seen c × NodeDoes (work_shown s) (c.nodes p) d

-- the run is at its end, and no event is named
abbrev pub is_at_end : Recorded → Bool
is_at_end s = not (is_some s.behind) && s.stand.position == length s.stand.run.picks

-- but for one that ended by itself, and for the others at the end, which the budget stopped
abbrev pub DoesUnless : (ended at_end : Bool) → Recorded → (processor : ℕ) → Doing → Type 0
DoesUnless true at_end s p d = d ≡ Exited
DoesUnless false true s p d = d ≡ Stopped
DoesUnless false false s p d = DoesAsNode s p d

abbrev pub Does : Recorded → (processor : ℕ) → Doing → Type 0
Does s p d = DoesUnless (has_ended s.stand p) (is_at_end s) s p d
