-- A recorded run that is shown, and the walk that it keeps.
use Rattle.std.proofs.Common.{◌≡◌, ℕ, ◌<◌, true, List, [], ◌∷◌, ◌++◌, length, Option, Some, None, refl, sym, ap, ◌∙◌, subst, inl, inr, append_assoc}
use Rattle.std.specs.Prelude.{is_some}
use Rattle.block_layout.specs.Layout.{Shape}
use Rattle.templates.specs.declared.code.CodeWord.{CodeWord}
use Rattle.templates.specs.declared.plans.PlanEntry.{PlanEntry}
use Rattle.templates.specs.Code.{HasCode}
use Rattle.event_text.specs.Events.{event_line}
use Rattle.event_text.specs.run_trace.node_model.Node.{Work}
use Rattle.event_text.specs.run_trace.node_model.Core.{Core}
use Rattle.event_text.specs.replay.dsm_core.CoreParts.{CoreParts, core_of, work_in, work_with}
use Rattle.event_text.specs.replay.dsm_core.declared.work.Work.{Work as Asked}
use Rattle.event_text.specs.replay.run_record.declared.Record.{Record}
use Rattle.event_text.specs.replay.run_record.Record.{IsRecord}
use Rattle.event_text.specs.replay.Way.{core_in}
use Rattle.event_text.specs.run_trace.declared.traced.Traced.{Traced as Stored}
use Rattle.event_text.specs.run_trace.Given.{traced_of}
use Rattle.event_text.specs.run_trace.Traced.{Traced}
use Rattle.event_text.specs.run_trace.Trace.{IsTraceOf}
use Rattle.event_text.specs.run_trace.Tracing.{plan_traced, record_traced, replayer_in, work_traced}
use Rattle.debugged_run.specs.gdb_session.gdb_remote.declared.request.Point.{Point}
use Rattle.debugged_run.specs.gdb_session.declared.target.Motion.{Motion}
use Rattle.debugged_run.specs.gdb_session.declared.target.Stop.{Stop}
use Rattle.debugged_run.specs.Motions as of_run
use Rattle.debugged_run.specs.Motions.{mover_at}
use Rattle.debugged_run.specs.time_machine.Moves.{EndsBackward}
use Rattle.debugged_run.specs.time_machine.Stand.{Run, Stand}
use Rattle.recorded_run.specs.declared.command.Command.TheVariants.{Miss}
use Rattle.recorded_run.specs.declared.walk.LastEvent.{LastEvent}
use Rattle.recorded_run.specs.declared.walk.Walk.{Walk}
use Rattle.recorded_run.specs.Shown.{AreFewest, AreFirst, AreShown, AreUpTo, Recorded, StandsFor, last_of, name_of, work_shown}
use Rattle.recorded_run.specs.Tells.{GoesBackToWrite, Looks, Moves, TellsAs, moved, no_miss_text, write_text, writes}
use Rattle.recorded_run.specs.Walks.{GoesToNext, HasWalked, HoldsTogether, behind_none, IsAlong, IsAlongShown, IsKept, IsOfPicks, IsWalking, StandsAt, StandsBehind, StaysAlong}
use Rattle.recorded_run.proofs.Along.{first_of}
use Rattle.recorded_run.proofs.Walking.{last_more}

-- what is seen of these fields
abbrev pub shown_by : Stand → Asked → List PlanEntry → Record → Option LastEvent → Recorded
shown_by stand asked plan kept behind = record {
  stand = stand;
  image = asked.image.now;
  budget = asked.budget;
  plan = plan;
  kept = kept;
  behind = behind;
}

-- the nodes of a walk
abbrev pub parts_of : Walk → CoreParts
parts_of w = core_in (replayer_in w.tracer)

abbrev pub nodes_of : Walk → Core
nodes_of w = core_of (parts_of w)

-- 1. A run at its start

pub holds_at_start : (run : Run) (stand : Stand) (asked : Asked) (plan : List PlanEntry) (code : List CodeWord) (kept : Record)
    → stand ≡ record { run = run; position = 0 } → run.program ≡ asked.program.now → run.layout ≡ asked.layout.now
    → run.nodes ≡ asked.layout.now.nodes
    → StandsFor (work_in asked) plan kept run.picks → HasCode (work_in asked).program code → IsRecord kept
    → asked.layout.now.nodes ≡ kept.nodes → HoldsTogether stand asked plan code kept None None
holds_at_start run stand asked plan code kept is program layout as_many stands has_code is_record nodes =
    subst (λ (s : Stand). HoldsTogether s asked plan code kept None None) (sym is) (record {
      program = program;
      layout = layout;
      as_many = as_many;
      stands = stands;
      has_code = has_code;
      is_record = is_record;
      nodes = nodes;
      walk_is = tt;
      there = λ e no. absurd (cc);
    })

-- 2. The walk that is kept

some_event : (o : Option LastEvent) → is_some o ≡ true → (e : LastEvent) × (o ≡ Some e)
some_event None is = absurd (cc)
some_event (Some e) is = (e, refl)

pub no_event : (o : Option LastEvent) → (is_some o ≡ true → ⊥) → o ≡ None
no_event None is = refl
no_event (Some e) is = absurd (is refl)

module _ (stand : Stand) (asked : Asked) (plan : List PlanEntry) (code : List CodeWord) (kept : Record)
    (walk : Option Walk) (behind : Option LastEvent) (h : HoldsTogether stand asked plan code kept walk behind) where
  abbrev shown : Recorded
  shown = shown_by stand asked plan kept behind

  pub same_work : work_shown shown ≡ work_in asked
  same_work =
      ap (λ e. work_with e asked.image.now stand.run.layout asked.budget) h.program
      ∙ ap (λ (l : Shape). work_with asked.program.now asked.image.now l asked.budget) h.layout

  pub as_many_nodes : stand.run.nodes ≡ stand.run.layout.nodes
  as_many_nodes = h.as_many ∙ sym (ap (λ (l : Shape). l.nodes) h.layout)

  pub along_shown : (w : Walk) → IsAlong (work_in asked) plan kept w → IsAlongShown shown w
  along_shown w a = record { work_is = a.work_is ∙ sym same_work; plan_is = a.plan_is; rec_is = a.rec_is }

  pub along_asked : (w : Walk) → IsAlongShown shown w → IsAlong (work_in asked) plan kept w
  along_asked w a = record { work_is = a.work_is ∙ same_work; plan_is = a.plan_is; rec_is = a.rec_is }

  pub of_these : (w : Walk) → IsAlongShown shown w → IsOfPicks w stand.run.picks
  of_these w a =
      subst (λ r. StandsFor (work_traced w.tracer) (plan_traced w.tracer) r stand.run.picks) (sym a.rec_is)
      (subst (λ p. StandsFor (work_traced w.tracer) p kept stand.run.picks) (sym a.plan_is)
      (subst (λ x. StandsFor x plan kept stand.run.picks) (sym (a.work_is ∙ same_work)) h.stands))

  pub kept_along : (w : Walk) → walk ≡ Some w → IsAlongShown shown w × IsWalking w
  kept_along w is =
      let k : IsKept (work_in asked) plan kept (Some w) = subst (IsKept (work_in asked) plan kept) is h.walk_is in
      (along_shown w k.0, k.1)

  -- where the nodes are shown behind an event, the walk stands there
  pub never_lost : is_some behind ≡ true → walk ≡ None → ⊥
  never_lost some none =
      let e = some_event behind some in
      subst (λ o. StandsBehind o e.0) none (h.there e.0 e.1)

  pub stands_behind : (w : Walk) → is_some behind ≡ true → walk ≡ Some w → StandsAt shown w
  stands_behind w some is =
      let e = some_event behind some in
      let k = kept_along w is in
      let last : w.last ≡ Some e.0 = subst (λ o. StandsBehind o e.0) is (h.there e.0 e.1) in
      record {
        along = k.0;
        seen = k.1.0;
        walked = k.1.1;
        up_to = subst (λ o. AreUpTo o stand.position k.1.0) (sym e.1) (sym k.1.1.last_is ∙ last);
      }

  -- the fields hold together with another walk
  pub holds_with : (w : Option Walk) (b : Option LastEvent) → IsKept (work_in asked) plan kept w
      → ((e : LastEvent) → b ≡ Some e → StandsBehind w e) → HoldsTogether stand asked plan code kept w b
  holds_with w b is there = record {
    program = h.program;
    layout = h.layout;
    as_many = h.as_many;
    stands = h.stands;
    has_code = h.has_code;
    is_record = h.is_record;
    nodes = h.nodes;
    walk_is = is;
    there = there;
  }

  -- or with none
  pub holds_without : (w : Option Walk) → w ≡ None → behind ≡ None → HoldsTogether stand asked plan code kept w behind
  holds_without w gone none =
      subst (λ (o : Option Walk). HoldsTogether stand asked plan code kept o behind) (sym gone)
      (holds_with None behind tt (λ e is. absurd (cc (sym none ∙ is))))

  pub holds_alone : (w : Option Walk) → w ≡ None → HoldsTogether stand asked plan code kept w None
  holds_alone w gone =
      subst (λ (o : Option Walk). HoldsTogether stand asked plan code kept o None) (sym gone)
      (holds_with None None tt (λ e no. absurd (cc)))

  -- or at another position
  pub holds_moved : (other : Stand) → other.run ≡ stand.run → HoldsTogether other asked plan code kept walk None
  holds_moved other same = record {
    program = ap (λ (r : Run). r.program) same ∙ h.program;
    layout = ap (λ (r : Run). r.layout) same ∙ h.layout;
    as_many = ap (λ (r : Run). r.nodes) same ∙ h.as_many;
    stands = subst (λ (r : Run). StandsFor (work_in asked) plan kept r.picks) (sym same) h.stands;
    has_code = h.has_code;
    is_record = h.is_record;
    nodes = h.nodes;
    walk_is = h.walk_is;
    there = λ e no. absurd (cc);
  }

pub along_on : (s : Recorded) (w u : Walk) → IsAlongShown s w → StaysAlong w u → IsAlongShown s u
along_on s w u along on = record {
  work_is = on.work_is ∙ along.work_is;
  plan_is = on.plan_is ∙ along.plan_is;
  rec_is = on.rec_is ∙ along.rec_is;
}

pub stands_at : (s : Recorded) (w u : Walk) → IsAlongShown s w → StaysAlong w u → s.behind ≡ None
    → (seen : List Traced) → HasWalked u seen → AreFewest s.stand.position seen → StandsAt s u
stands_at s w u along on none seen walked fewest = record {
  along = along_on s w u along on;
  seen = seen;
  walked = walked;
  up_to = subst (λ o. AreUpTo o s.stand.position seen) (sym none) fewest;
}

-- 3. What is shown

first_shown : (s : Recorded) (w : Walk) (seen : List Traced) → IsAlongShown s w → HasWalked w seen
    → AreFirst (work_shown s) s.plan s.kept seen (nodes_of w)
first_shown s w seen along walked =
    subst (λ r. AreFirst (work_shown s) s.plan r seen (nodes_of w)) along.rec_is
    (subst (λ p. AreFirst (work_shown s) p (record_traced w.tracer) seen (nodes_of w)) along.plan_is
    (subst (λ x. AreFirst x (plan_traced w.tracer) (record_traced w.tracer) seen (nodes_of w)) along.work_is
    (first_of w.tracer seen walked.counted.traced)))

pub are_shown : (s : Recorded) (w : Walk) (h : StandsAt s w) → AreShown s h.seen (nodes_of w)
are_shown s w h = record { first = first_shown s w h.seen h.along h.walked; up_to = h.up_to }

pub looks : (s t : Recorded) (w : Walk) (text : List Traced → Core → List ℕ) (told : List ℕ) (h : StandsAt s w)
    → told ≡ text h.seen (nodes_of w) → t ≡ s → Looks s text told t
looks s t w text told h is same = (h.seen, nodes_of w, are_shown s w h, is, same)

-- the blocks of its nodes are those of the run
pub same_layout : (s : Recorded) (w : Walk) → IsAlongShown s w → (parts_of w).layout ≡ s.stand.run.layout
same_layout s w along = ap (λ (x : Work). x.layout) along.work_is

-- each processor has a node
pub node_there : (s : Recorded) (w : Walk) (p : ℕ) (parts : CoreParts) → parts ≡ parts_of w → IsAlongShown s w
    → s.stand.run.nodes ≡ s.stand.run.layout.nodes → p < s.stand.run.nodes → p < parts.layout.nodes
node_there s w p parts is along same low =
    subst (λ n. p < n)
    (same ∙ ap (λ (l : Shape). l.nodes) (sym (ap (λ (x : CoreParts). x.layout) is ∙ same_layout s w along))) low

-- the walk that was taken is kept again, and the run is as it was
pub kept_again : (s t u : Recorded) (b : Option LastEvent) → t ≡ behind_none s → u ≡ record t { behind = b } → b ≡ s.behind → u ≡ s
kept_again s t u b none is same =
    is ∙ ap (λ (x : Recorded). record x { behind = b }) none ∙ ap (λ (o : Option LastEvent). record s { behind = o }) same

-- a walk that stands where the nodes are shown stands behind the event that is named
pub last_there : (s : Recorded) (w : Walk) (h : StandsAt s w) (e : LastEvent) → s.behind ≡ Some e → w.last ≡ Some e
last_there s w h e is =
    h.walked.last_is ∙ subst (λ (o : Option LastEvent). AreUpTo o s.stand.position h.seen) is h.up_to

-- 4. Misses

last_seen : (seen more : List Traced) (x : Traced) → last_of (seen ++ (more ++ x ∷ [])) ≡ Some (name_of x)
last_seen seen more x = ap last_of (sym (append_assoc seen more (x ∷ []))) ∙ last_more (seen ++ more) x

pub goes_to_miss : (s t : Recorded) (w u : Walk) (x : Stored) (told : List ℕ) (h : StandsAt s w) → StaysAlong w u
    → GoesToNext u h.seen (Some x) → told ≡ event_line s.stand.run.program (traced_of x) → t ≡ moved s u.picks u.last
    → TellsAs s Miss told t
goes_to_miss s t w u x told h on next is there =
    let all : List Traced = h.seen ++ (next.0 ++ traced_of x ∷ []) in (
      h.seen,
      nodes_of w,
      are_shown s w h,
      inl (record {
        more = next.0;
        miss = traced_of x;
        nodes = nodes_of u;
        first = first_shown s u all (along_on s w u h.along on) next.2;
        none = next.1;
        is = next.3;
        told_is = is;
        goes = there ∙ ap (λ (k : ℕ). moved s k u.last) next.2.counted.picks_are
            ∙ ap (moved s _) (next.2.last_is ∙ last_seen h.seen next.0 (traced_of x));
      }),
    )

pub goes_to_end : (s t : Recorded) (w u : Walk) (told : List ℕ) (h : StandsAt s w) → StaysAlong w u
    → GoesToNext u h.seen None → told ≡ no_miss_text → t ≡ moved s (length s.stand.run.picks) None → TellsAs s Miss told t
goes_to_end s t w u told h on next is there =
    let along = along_on s w u h.along on in (
      h.seen,
      nodes_of w,
      are_shown s w h,
      inr (record {
        more = next.0;
        whole = subst (λ r. IsTraceOf (work_shown s) s.plan r (h.seen ++ next.0)) along.rec_is
            (subst (λ p. IsTraceOf (work_shown s) p (record_traced u.tracer) (h.seen ++ next.0)) along.plan_is
            (subst (λ x. IsTraceOf x (plan_traced u.tracer) (record_traced u.tracer) (h.seen ++ next.0)) along.work_is
            next.2));
        none = next.1;
        told_is = is;
        goes = there;
      }),
    )

-- 5. Another position

pub stands_moved : (a b : Stand) (k : ℕ) → a.run ≡ b.run → a.position ≡ k → a ≡ record b { position = k }
stands_moved a b k run position =
    ap (λ (r : Run). record { run = r; position = a.position }) run
    ∙ ap (λ (p : ℕ). record { run = b.run; position = p }) position

-- where no event was named, only the position is another
pub moved_there : (s t : Recorded) (a : Stand) (k : ℕ) → t ≡ behind_none s → a.run ≡ t.stand.run → a.position ≡ k
    → record t { stand = a } ≡ moved s k None
moved_there s t a k none run position =
    ap (λ (x : Recorded). record x { stand = a }) none
    ∙ ap (λ (d : Stand). record (behind_none s) { stand = d })
    (stands_moved a s.stand k (run ∙ ap (λ (x : Recorded). x.stand.run) none) position)

-- a run along which a walk is, at another position
pub along_moved : (s t : Recorded) (k : ℕ) (w : Walk) → t ≡ moved s k None → IsAlongShown s w → IsAlongShown t w
along_moved s t k w is along = subst (λ (x : Recorded). IsAlongShown x w) (sym is) along

pub along_none : (s t : Recorded) (w : Walk) → t ≡ behind_none s → IsAlongShown s w → IsAlongShown t w
along_none s t w is along = subst (λ (x : Recorded). IsAlongShown x w) (sym is) along

-- the events up to the miss are those of a run that is moved there
pub kept_there : (s t u : Recorded) (k : ℕ) (b : Option LastEvent) → t ≡ moved s k None → u ≡ record t { behind = b } → u ≡ moved s k b
kept_there s t u k b moved_is is = is ∙ ap (λ (x : Recorded). record x { behind = b }) moved_is

-- the run goes back to before a write, or to its start
pub goes_back : (s : Recorded) (first d : Stand) (a : ℕ) (hit : Option ℕ) (told : List ℕ) (t : Recorded) → first ≡ s.stand
    → d.run ≡ first.run → EndsBackward first.run (writes a ∷ []) first.position hit d.position
    → told ≡ write_text hit (mover_at d.run.picks d.position) → t ≡ record s { stand = d; behind = None }
    → GoesBackToWrite s a told t
goes_back s first d a hit told t same run ends is there =
    let run_is : d.run ≡ s.stand.run = run ∙ ap (λ (x : Stand). x.run) same in
    record {
      hit = hit;
      position = d.position;
      ends = subst (λ (x : Stand). EndsBackward x.run (writes a ∷ []) x.position hit d.position) same ends;
      told_is = is ∙ ap (λ (r : Run). write_text hit (mover_at r.picks d.position)) run_is;
      goes = there
          ∙ ap (λ (x : Stand). record s { stand = x; behind = None }) (stands_moved d s.stand d.position run_is refl);
    }

-- a motion goes to another position
pub moves_there : (s : Recorded) (first d : Stand) (m : Motion) (points : List Point) (told : Stop) (t : Recorded)
    → first ≡ s.stand → of_run.Moves first m points told d → t ≡ record s { stand = d; behind = None }
    → t.stand ≡ d → Moves s m points told t
moves_there s first d m points told t same moves there stand = (
  subst (λ (x : Stand). of_run.Moves s.stand m points told x) (sym stand)
      (subst (λ (x : Stand). of_run.Moves x m points told d) same moves),
  there ∙ ap (λ (x : Stand). record s { stand = x; behind = None }) (sym stand),
)
