-- A trace, one event after another.
use Rattle.std.proofs.Common.{◌≡◌, ℕ, List, [], ◌∷◌, ◌++◌, map, Some, refl, sym, ap, ap₂, ◌∙◌, subst, append_assoc, eq-eqb}
use Rattle.std.specs.Prelude.{option_to_list}
use Rattle.std.specs.Option.{option_map}
use Rattle.templates.specs.declared.plans.PlanEntry.{PlanEntry}
use Rattle.replay.specs.node_model.home_directory.dsm_messages.declared.messages.Wire.{Wire}
use Rattle.replay.specs.node_model.Node.{Work, Node}
use Rattle.replay.specs.node_model.Core.{Core, Event, Exec, Take, May, AreAlike, opening_core, event_step, take_first, after}
use Rattle.replay.specs.run_order.OwnRun.{Stamped, maker, node_of, run_of}
use Rattle.replay.specs.dsm_core.CoreParts.{core_of}
use Rattle.word_visits.specs.declared.visits.Visits.{Visits}
use Rattle.word_visits.specs.VisitTables.{AreVisitsIn, visits_of}
use Rattle.replay.specs.Told.{Told, what_told, events_told}
use Rattle.replay.specs.Way.{HasMade, HasMadeWord, core_in}
use Rattle.replay.proofs.Way.{event_alike}
use Rattle.run_trace.specs.declared.tracer.Tracer.{Tracer}
use Rattle.run_trace.specs.declared.traced.Traced.{Traced as Stored}
use Rattle.replay.specs.node_model.Turns.{word_turn, take_turn}
use Rattle.run_trace.specs.Traced.{Traced, What, Word, Taken, OfWord, OfTake, what_at, traced_at, first_traced, word_traced, take_traced}
use Rattle.run_trace.specs.Trace.{trace_from, trace_of}
use Rattle.run_trace.specs.Given.{traced_of}
use Rattle.run_trace.specs.Kinds.{AreKindsOf}
use Rattle.run_trace.specs.declared.kinds.CommitKinds.{CommitKinds}
use Rattle.run_trace.specs.Visited.{LookByKind}
use Rattle.run_trace.specs.Tracing.{AreVisitsOf, HasTraced, HasTracedMore, HasTracedOne, HasKinds, IsSame, work_traced, plan_traced}

what_alike : (work : Work) (plan : List PlanEntry) (c d : Core) (e : Event) → May work c e
    → AreAlike work.layout.nodes c d → what_at work plan c e ≡ what_at work plan d e
what_alike work plan c d (Exec i) may a =
    ap (λ (n : Node). what_at work plan (record c { nodes = λ k. n }) (Exec i)) (a.nodes i may.0)
what_alike work plan c d (Take i j) may a =
    ap₂ (λ (n : Node) (ws : List Wire). first_traced work n j ws) (a.nodes i may.0) (a.lists j i may.1 may.0)

traced_alike : (work : Work) (plan : List PlanEntry) (c d : Core) (x : Stamped) → May work c x.event
    → AreAlike work.layout.nodes c d → traced_at work plan c x ≡ traced_at work plan d x
traced_alike work plan c d x may a =
    ap (option_map (λ (w : What). record { stamp = x.stamp; node = maker x; what = w }))
    (what_alike work plan c d x.event may a)

pub what_append : (xs ys : List Told) → map what_told (xs ++ ys) ≡ map what_told xs ++ map what_told ys
what_append [] ys = refl
what_append (x ∷ xs) ys = ap (λ l. x.what ∷ l) (what_append xs ys)

pub trace_more : (work : Work) (plan : List PlanEntry) (c : Core) (xs ys : List Stamped)
    → trace_from work plan c (xs ++ ys)
    ≡ trace_from work plan c xs ++ trace_from work plan (after work c (run_of xs)) ys
trace_more work plan c [] ys = refl
trace_more work plan c (x ∷ xs) ys =
    let o = option_to_list (traced_at work plan c x) in
    let d = event_step work c x.event in
    ap (λ l. o ++ l) (trace_more work plan d xs ys)
    ∙ sym (append_assoc o (trace_from work plan d xs) (trace_from work plan (after work d (run_of xs)) ys))

trace_one : (work : Work) (plan : List PlanEntry) (before : List Told) (told : Told) (x : Traced)
    → traced_at work plan (after work (opening_core work) (events_told before)) told.what ≡ Some x
    → trace_of work plan (before ++ told ∷ []) ≡ trace_of work plan before ++ x ∷ []
trace_one work plan before told x is =
    let o = opening_core work in
    ap (trace_from work plan o) (what_append before (told ∷ []))
    ∙ trace_more work plan o (map what_told before) (told.what ∷ [])
    ∙ ap (λ l. trace_of work plan before ++ (option_to_list l ++ [])) is

-- a word, by what it did
pub exec_traced : (work : Work) (plan : List PlanEntry) (c : Core) (x : Stamped) (i s : ℕ) (w : OfWord)
    → x.event ≡ Exec i → x.stamp ≡ s → word_traced work plan (c.nodes i) ≡ w
    → traced_at work plan c x ≡ Some (record { stamp = s; node = i; what = Word w })
exec_traced work plan c x i s w is stamp did =
    (λ t. option_map (λ (v : What). record { stamp = x.stamp; node = node_of (is t); what = v }) (what_at work plan c (is t)))
    ∙ (λ t. Some (record { stamp = stamp t; node = i; what = Word (did t) }))

pub exec_node : (work : Work) (c : Core) (i : ℕ)
    → (event_step work c (Exec i)).nodes i ≡ (word_turn work (c.nodes i)).node
exec_node work c i = rw (eq-eqb i i refl) refl

-- a take, by what it did
pub take_traced_at : (work : Work) (plan : List PlanEntry) (c : Core) (x : Stamped) (i j s : ℕ) (wire : Wire)
    (rest : List Wire) (w : OfTake) → x.event ≡ Take i j → x.stamp ≡ s → c.list j i ≡ wire ∷ rest
    → take_traced work (c.nodes i) j wire ≡ w
    → traced_at work plan c x ≡ Some (record { stamp = s; node = i; what = Taken w })
take_traced_at work plan c x i j s wire rest w is stamp front did =
    (λ t. option_map (λ (v : What). record { stamp = x.stamp; node = node_of (is t); what = v }) (what_at work plan c (is t)))
    ∙ (λ t. option_map (λ (v : What). record { stamp = stamp t; node = i; what = v }) (first_traced work (c.nodes i) j (front t)))
    ∙ (λ t. Some (record { stamp = s; node = i; what = Taken (did t) }))

pub take_node : (work : Work) (c : Core) (i j : ℕ) (wire : Wire) (rest : List Wire) → c.list j i ≡ wire ∷ rest
    → (event_step work c (Take i j)).nodes i ≡ (take_turn work (c.nodes i) j wire).node
take_node work c i j wire rest front = ap (λ ws. (take_first work c i j ws).nodes i) front
    ∙ rw (eq-eqb i i refl) refl

-- the kinds are those of the same words
kinds_same : (t u : Tracer) → HasKinds t → IsSame t u → HasKinds u
kinds_same t u kinds same = subst (λ (w : Work). AreKindsOf w.program (plan_traced u) w.image u.kinds) (sym same.work)
    (subst (λ p. AreKindsOf (work_traced t).program p (work_traced t).image u.kinds) (sym same.plan)
    (subst (λ (k : CommitKinds). AreKindsOf (work_traced t).program (plan_traced t) (work_traced t).image k) (sym same.kinds) kinds))

-- the visits are those of the same words
pub visits_same : (t u : Tracer) (v : Visits) → IsSame t u → AreVisitsOf t v → AreVisitsOf u v
visits_same t u v same are = record {
  micros = subst (λ (work : Work). AreVisitsIn work.image v) (sym same.work) are.micros;
  look = subst (λ (kinds : CommitKinds). LookByKind kinds (visits_of v)) (sym same.kinds) are.look;
}

-- one event more was made
traced_after : (t u : Tracer) (seen : List Traced) (x : Traced) (told : Told) (h : HasTraced t seen)
    → HasMade u.replayer (h.before ++ told ∷ []) → May (work_traced t) (core_of (core_in t.replayer)) told.what.event
    → traced_at (work_traced t) (plan_traced t) (core_of (core_in t.replayer)) told.what ≡ Some x
    → IsSame t u → HasTraced u (seen ++ x ∷ [])
traced_after t u seen x told h made may did same =
    let work = work_traced t in
    let plan = plan_traced t in
    let then = after work (opening_core work) (events_told h.before) in
    let is : traced_at work plan then told.what ≡ Some x =
    sym (traced_alike work plan (core_of (core_in t.replayer)) then told.what may h.made.way.alike) ∙ did in
    record {
      before = h.before ++ told ∷ [];
      made = made;
      kinds = kinds_same t u h.kinds same;
      seen_is = ap (λ l. l ++ x ∷ []) h.seen_is ∙ sym (trace_one work plan h.before told x is)
          ∙ ap₂ (λ w p. trace_of w p (h.before ++ told ∷ [])) (sym same.work) (sym same.plan);
    }

pub traced_on : (t u : Tracer) (seen : List Traced) (e : Event) (x : Stored) (h : HasTraced t seen)
    → HasTracedOne t u h.before e x → IsSame t u → HasTraced u (seen ++ traced_of x ∷ [])
traced_on t u seen e x h one same =
    traced_after t u seen (traced_of x) one.told h one.made one.may one.is same

-- a silent word more was made, which did this
pub word_after : (t u : Tracer) (seen : List Traced) (i s : ℕ) (w : OfWord) (h : HasTraced t seen)
    → HasMadeWord t.replayer u.replayer h.before i → ((core_of (core_in u.replayer)).nodes i).stamp ≡ s
    → word_traced (work_traced t) (plan_traced t) ((core_of (core_in t.replayer)).nodes i) ≡ w
    → IsSame t u → HasTraced u (seen ++ record { stamp = s; node = i; what = Word w } ∷ [])
word_after t u seen i s w h m stamp did same =
    let work = work_traced t in
    let c = core_of (core_in t.replayer) in
    traced_after t u seen _ m.told h m.made (subst (λ e. May work c e) (sym m.event_is) m.may)
    (exec_traced work (plan_traced t) c m.told.what i s w m.event_is (sym m.stamp ∙ stamp) did) same

-- none was made
pub traced_still : (t u : Tracer) (seen : List Traced) (h : HasTraced t seen) → HasMade u.replayer h.before
    → IsSame t u → HasTraced u seen
traced_still t u seen h made same = record {
  before = h.before;
  made = made;
  kinds = kinds_same t u h.kinds same;
  seen_is = h.seen_is ∙ ap₂ (λ w p. trace_of w p h.before) (sym same.work) (sym same.plan);
}

-- events more were made
pub events_traced : (t u : Tracer) (seen : List Traced) (told : List Told) (es : List Event) (h : HasTraced t seen)
    → HasMade u.replayer (h.before ++ told) → events_told told ≡ es → IsSame t u → HasTracedMore u seen h.before es
events_traced t u seen told es h made are same =
    let work = work_traced t in
    let plan = plan_traced t in
    let o = opening_core work in
    let more = trace_from work plan (after work o (events_told h.before)) (map what_told told) in
    record {
      told = told;
      events_are = are;
      more = more;
      traced = record {
        before = h.before ++ told;
        made = made;
        kinds = kinds_same t u h.kinds same;
        seen_is = ap (λ l. l ++ more) h.seen_is
            ∙ sym (ap (trace_from work plan o) (what_append h.before told)
            ∙ trace_more work plan o (map what_told h.before) (map what_told told))
            ∙ ap₂ (λ w p. trace_of w p (h.before ++ told)) (sym same.work) (sym same.plan);
      };
      before_is = refl;
    }

-- 2. What events of a run lead to

-- the same event leads cores that are alike to such cores
pub next_alike : (work : Work) (c d : Core) (e : Event) → May work c e → AreAlike work.layout.nodes c d
    → AreAlike work.layout.nodes (event_step work c e) (event_step work d e)
next_alike = event_alike

pub told_append : (xs ys : List Told) → events_told (xs ++ ys) ≡ events_told xs ++ events_told ys
told_append [] ys = refl
told_append (x ∷ xs) ys = ap (λ es. x.what.event ∷ es) (told_append xs ys)
