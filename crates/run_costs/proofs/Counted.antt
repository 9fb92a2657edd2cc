-- A recorded run whose words are counted, with one event more.
use Rattle.std.proofs.Common.{◌≡◌, ℕ, ◌+◌, Bool, cond, List, [], ◌∷◌, ◌++◌, length, map, replicate, get_or, arith, refl, sym, ap, ◌∙◌, subst, append_assoc, append-nil}
use Rattle.std.specs.Prelude.{All, option_to_list}
use Rattle.std.specs.List.{count_by, range_with_len}
use Rattle.std.specs.Option.{option_map, option_map_or}
use Rattle.std.proofs.lemmas.List.{map-append}
use Rattle.std.proofs.lemmas.List.Sums.{sum_by-append}
use Rattle.check_costs.specs.elf_symbols.Symbols.{Symbol}
use Rattle.check_costs.specs.declared.labels.Label.{Label}
use Rattle.check_costs.specs.declared.tally.Tally.{Tally}
use Rattle.check_costs.specs.Given.{IsTallyOf}
use Rattle.check_costs.specs.Tally.{Executed, first_label, labels_of, tally_of}
use Rattle.run_trace.specs.node_model.miss_handlers.dsm_messages.declared.messages.Wire.{Wire}
use Rattle.run_trace.specs.node_model.jump_map.templates.declared.code.CodeWord.{CodeWord}
use Rattle.run_trace.specs.node_model.jump_map.templates.declared.plans.PlanEntry.{PlanEntry}
use Rattle.run_trace.specs.node_model.jump_map.templates.Code.{HasCode, code_of}
use Rattle.run_trace.specs.node_model.Node.{Work}
use Rattle.run_trace.specs.node_model.Core.{AreAlike, Core, Event, Exec, Take, May, after, event_step, opening_core}
use Rattle.run_trace.specs.node_model.Outcome.{counts_after}
use Rattle.run_trace.specs.replay.run_order.OwnRun.{Stamped, node_of, run_of}
use Rattle.run_trace.specs.replay.dsm_core.CoreParts.{core_of}
use Rattle.run_trace.specs.replay.Told.{Told, AreMadeAs, events_told, what_told}
use Rattle.run_trace.specs.replay.dsm_core.declared.seen.Seen.{Seen}
use Rattle.run_trace.specs.replay.Way.{HasMadeOne, IsRunning, core_in}
use Rattle.run_trace.specs.declared.tracer.Tracer.{Tracer}
use Rattle.run_trace.specs.declared.traced.Traced.{Traced as Stored}
use Rattle.run_trace.specs.Given.{traced_of, what_of}
use Rattle.run_trace.specs.Trace.{trace_from}
use Rattle.run_trace.specs.Traced.{OfWord, Traced, What, Word, first_traced, traced_at, what_at, word_traced}
use Rattle.run_trace.specs.Tracing.{AreVisitsOf, HasTraced, HasTracedMore, HasTracedOne, HasTracedSilent, HasTracedWords, IsSame, kinds_traced, plan_traced, work_traced}
use Rattle.run_trace.specs.Visited.{CommitByNumber}
use Rattle.word_visits.specs.declared.visits.Visits.{Visits}
use Rattle.word_visits.specs.Visits.{AreCounted, WordVisits}
use Rattle.word_visits.specs.VisitTables.{visits_of}
use Rattle.run_trace.specs.replay.dsm_core.CoreWords.{HasPassedWords}
use Rattle.run_trace.proofs.Tracings.{events_traced, told_append, traced_on, visits_same}
use Rattle.run_costs.specs.declared.counting.Counting.{Counting}
use Rattle.run_costs.specs.Costs.{label_at, words_at, words_from}
use Rattle.run_costs.specs.Counting.{HasCounted, HasCountedMore, event_seen, plan_in, word_by, words_by, words_seen, words_visited, work_in}
use Rattle.run_costs.proofs.Visited.{none_by, run_adds, run_alike, words_behind}
use Rattle.run_costs.proofs.Words.{nodes_alike, words_alike, words_more}

-- 1. Events, by what is traced of them

pub running_of : (t : Tracer) (seen : List Traced) → HasTraced t seen → IsRunning t.replayer
running_of t seen h = record {
  lawful = h.made.lawful;
  nodes = h.made.nodes;
  way = (h.before, h.made.way);
}

seen_take : (work : Work) (c : Core) (stamp i j : ℕ) (wires : List Wire) → (wires ≡ [] → ⊥)
    → map event_seen (option_to_list (option_map (λ (w : What). record { stamp = stamp; node = i; what = w })
    (first_traced work (c.nodes i) j wires))) ≡ Take i j ∷ []
seen_take work c stamp i j [] some = absurd (some refl)
seen_take work c stamp i j (wire ∷ rest) some = refl

seen_one : (work : Work) (plan : List PlanEntry) (c : Core) (stamp : ℕ) (e : Event) → May work c e
    → map event_seen (option_to_list (traced_at work plan c (record { stamp = stamp; event = e }))) ≡ e ∷ []
seen_one work plan c stamp (Exec i) may = refl
seen_one work plan c stamp (Take i j) may = seen_take work c stamp i j (c.list j i) may.3

-- those of a trace are the events that were made
pub seen_all : (work : Work) (plan : List PlanEntry) (c : Core) (xs : List Stamped) → AreMadeAs work c xs
    → map event_seen (trace_from work plan c xs) ≡ run_of xs
seen_all work plan c [] made = refl
seen_all work plan c (x ∷ xs) made =
    let next = event_step work c x.event in
    map-append event_seen (option_to_list (traced_at work plan c x)) (trace_from work plan next xs)
    ∙ ap (λ es. es ++ map event_seen (trace_from work plan next xs)) (seen_one work plan c x.stamp x.event made.0.may)
    ∙ ap (λ es. x.event ∷ es) (seen_all work plan next xs made.1)

pub seen_told : (t : Tracer) (seen : List Traced) (h : HasTraced t seen) → map event_seen seen ≡ events_told h.before
seen_told t seen h =
    ap (map event_seen) h.seen_is
    ∙ seen_all (work_traced t) (plan_traced t) (opening_core (work_traced t)) (map what_told h.before) h.made.way.made

-- the core is as these events leave it
pub alike_seen : (t : Tracer) (seen : List Traced) → HasTraced t seen
    → AreAlike (work_traced t).layout.nodes (core_of (core_in t.replayer))
    (after (work_traced t) (opening_core (work_traced t)) (map event_seen seen))
alike_seen t seen h =
    subst (λ es. AreAlike (work_traced t).layout.nodes (core_of (core_in t.replayer))
    (after (work_traced t) (opening_core (work_traced t)) es)) (sym (seen_told t seen h)) h.made.way.alike

-- what the nodes count
pub nodes_seen : (t : Tracer) (seen : List Traced) → HasTraced t seen
    → map (λ i. ((core_of (core_in t.replayer)).nodes i).counts) (range_with_len 0 (core_in t.replayer).layout.nodes)
    ≡ counts_after (work_traced t) (map event_seen seen)
nodes_seen t seen h =
    nodes_alike (work_traced t).layout.nodes (core_of (core_in t.replayer))
    (after (work_traced t) (opening_core (work_traced t)) (map event_seen seen)) (alike_seen t seen h)

-- nothing was made
pub started : (symbols : List Symbol) (work : Work) (plan : List PlanEntry) (code : List CodeWord) (functions : ℕ)
    (c : Counting) → HasTraced c.tracer [] → work_in c ≡ work → plan_in c ≡ plan → HasCode work.program code
    → c.labels.items ≡ labels_of symbols (code_of code) plan → AreVisitsOf c.tracer c.visits
    → All (λ (v : WordVisits). v.times ≡ 0) (visits_of c.visits) → functions ≡ length symbols
    → IsTallyOf functions [] c.tally → HasCounted symbols c []
started symbols work plan code functions c traced w p same labels visits none named tallied = record {
  traced = traced;
  labels = labels ∙ (λ j. labels_of symbols (sym same j) (sym p j))
      ∙ ap (λ (x : Work). labels_of symbols x.program.code (plan_in c)) (sym w);
  visits = visits;
  singly = [];
  tallied = tallied ∙ ap (λ n. tally_of n []) named;
  split = λ p.
      let word = word_by (first_label symbols) c.labels.items (kinds_traced c.tracer) in
      let others = ap (count_by p) (none_by word 0 (visits_of c.visits) none) in
      omega (arith, others);
}

-- one event is the one that was made
seen_made : (t u : Tracer) (before : List Told) (e : Event) (x : Stored) → HasTracedOne t u before e x
    → event_seen (traced_of x) ≡ e
seen_made t u before e x one =
    let core = core_of (core_in t.replayer) in
    let told = one.told.what in
    ap (λ es. get_or es 0 e) (ap (λ o. map event_seen (option_to_list o)) (sym one.is)
    ∙ seen_one (work_traced t) (plan_traced t) core told.stamp told.event one.may) ∙ one.event_is

-- 2. One more

pub none_more : (symbols : List Symbol) (c : Counting) (seen : List Traced) → HasCounted symbols c seen
    → HasCountedMore symbols c seen
none_more symbols c seen h = ([], subst (HasCounted symbols c) (sym (append-nil seen)) h)

module _ (symbols : List Symbol) (c d : Counting) (seen : List Traced) (h : HasCounted symbols c seen)
    (same : IsSame c.tracer d.tracer) (labels : d.labels.items ≡ c.labels.items) (visits : d.visits ≡ c.visits)
  where
    -- the visits are still those of the words
    still_visits : AreVisitsOf d.tracer d.visits
    still_visits =
        visits_same c.tracer d.tracer d.visits same
        (subst (λ (v : Visits). AreVisitsOf c.tracer v) (sym visits) h.visits)

    -- and stand for the same words
    same_visited : words_visited symbols d ≡ words_visited symbols c
    same_visited =
        λ j. words_by (word_by (first_label symbols) (labels j) (same.kinds j)) 0 (visits_of (visits j))

    -- an event that was made, and executed these words
    pub counted_on : (x : Traced) (more : List Executed) → HasTraced d.tracer (seen ++ x ∷ [])
        → May (work_in c) (core_of (core_in c.tracer.replayer)) (event_seen x)
        → words_at symbols (work_in c) (plan_in c) (core_of (core_in c.tracer.replayer)) (event_seen x) ≡ more
        → IsTallyOf (length symbols) (h.singly ++ more) d.tally
        → HasCounted symbols d (seen ++ x ∷ [])
    counted_on x more traced may did tallied =
        let work = work_in c in
        let plan = plan_in c in
        let opening = opening_core work in
        let core = core_of (core_in c.tracer.replayer) in
        let then = after work opening (map event_seen seen) in
        let words : words_seen symbols work plan (seen ++ x ∷ []) ≡ words_seen symbols work plan seen ++ more =
        ap (words_from symbols work plan opening) (map-append event_seen seen (x ∷ []))
        ∙ words_more symbols work plan opening (map event_seen seen) (event_seen x)
        ∙ ap (λ ws. words_seen symbols work plan seen ++ ws)
        (sym (words_alike symbols work plan core then (event_seen x) may (alike_seen c.tracer seen h.traced)) ∙ did) in
        record {
          traced = traced;
          labels = labels ∙ h.labels ∙ (λ j. labels_of symbols (sym same.work j).program.code (sym same.plan j));
          visits = still_visits;
          singly = h.singly ++ more;
          tallied = tallied;
          split = λ p.
              let count : Executed → ℕ = λ w. cond (p w) 1 0 in
              let all = ap (count_by p)
              ((λ j. words_seen symbols (same.work j) (same.plan j) (seen ++ x ∷ [])) ∙ words) in
              let of_all = sum_by-append count (words_seen symbols work plan seen) more in
              let of_some = sum_by-append count h.singly more in
              let others = ap (count_by p) same_visited in
              let before = h.split p in
              omega (arith, all, of_all, of_some, others, before);
        }

    -- a word at node i
    counted_word : (i : ℕ) (x : Traced) (label : Label) (commits : Bool) → HasTraced d.tracer (seen ++ x ∷ [])
        → May (work_in c) (core_of (core_in c.tracer.replayer)) (Exec i) → event_seen x ≡ Exec i
        → label ≡ label_at symbols (work_in c) (plan_in c) ((core_of (core_in c.tracer.replayer)).nodes i).lane.at
        → commits ≡ (word_traced (work_in c) (plan_in c) ((core_of (core_in c.tracer.replayer)).nodes i)).commits
        → ((n : ℕ) (words : List Executed) → IsTallyOf n words c.tally
        → IsTallyOf n (words ++ record { label = label; commits = commits } ∷ []) d.tally)
        → HasCounted symbols d (seen ++ x ∷ [])
    counted_word i x label commits traced may is label_is commits_is add =
        let work = work_in c in
        let plan = plan_in c in
        let core = core_of (core_in c.tracer.replayer) in
        counted_on x (record { label = label; commits = commits } ∷ []) traced
        (subst (May work core) (sym is) may) (ap (words_at symbols work plan core) is
        ∙ (λ j. record { label = sym label_is j; commits = sym commits_is j } ∷ []))
        (add (length symbols) h.singly h.tallied)

    pub word_counted : (i : ℕ) (x : Stored) (label : Label) (commits : Bool)
        → HasTracedOne c.tracer d.tracer h.traced.before (Exec i) x
        → label ≡ label_at symbols (work_in c) (plan_in c) ((core_of (core_in c.tracer.replayer)).nodes i).lane.at
        → ((w : OfWord) → what_of x.what ≡ Word w → commits ≡ w.commits)
        → ((n : ℕ) (words : List Executed) → IsTallyOf n words c.tally
        → IsTallyOf n (words ++ record { label = label; commits = commits } ∷ []) d.tally)
        → HasCountedMore symbols d seen
    word_counted i x label commits one label_is commits_is add =
        let work = work_in c in
        let plan = plan_in c in
        let core = core_of (core_in c.tracer.replayer) in
        let did : OfWord = word_traced work plan (core.nodes i) in
        let what : what_of x.what ≡ Word did =
        ap (λ o. option_map_or (λ (t : Traced). t.what) o (Word did))
        (sym one.is ∙ ap (λ (e : Event). option_map
        (λ (w : What). record { stamp = one.told.what.stamp; node = node_of e; what = w }) (what_at work plan core e))
        one.event_is) in (
          traced_of x ∷ [],
          counted_word i (traced_of x) label commits (traced_on c.tracer d.tracer seen (Exec i) x h.traced one same)
              (subst (May work core) one.event_is one.may) (seen_made c.tracer d.tracer h.traced.before (Exec i) x one)
              label_is (commits_is did what) add,
        )

    -- a word that only computes or accesses memory
    pub silent_counted : (i : ℕ) (label : Label) (commits : Bool) → HasTracedSilent c.tracer d.tracer seen i commits
        → May (work_in c) (core_of (core_in c.tracer.replayer)) (Exec i)
        → label ≡ label_at symbols (work_in c) (plan_in c) ((core_of (core_in c.tracer.replayer)).nodes i).lane.at
        → ((n : ℕ) (words : List Executed) → IsTallyOf n words c.tally
        → IsTallyOf n (words ++ record { label = label; commits = commits } ∷ []) d.tally)
        → HasCountedMore symbols d seen
    silent_counted i label commits s may label_is add =
        let x : Traced = record { stamp = s.stamp; node = i; what = Word s.word } in (
          x ∷ [],
          counted_word i x label commits s.traced may refl label_is
              (sym s.commits_so ∙ ap (λ (w : OfWord). w.commits) s.word_is) add,
        )

    -- no event more
    pub still_counted : HasTraced d.tracer seen → d.tally ≡ c.tally → HasCountedMore symbols d seen
    still_counted traced kept = none_more symbols d seen (record {
      traced = traced;
      labels = labels ∙ h.labels ∙ (λ j. labels_of symbols (sym same.work j).program.code (sym same.plan j));
      visits = still_visits;
      singly = h.singly;
      tallied = ap (λ (t : Tally). t.counts.items) kept ∙ h.tallied;
      split = λ p.
          let all = ap (count_by p) (λ j. words_seen symbols (same.work j) (same.plan j) seen) in
          let others = ap (count_by p) same_visited in
          let before = h.split p in
          omega (arith, all, others, before);
    })

-- 3. More, whose words were counted by their numbers

module _ (symbols : List Symbol) (c d : Counting) (seen : List Traced) (h : HasCounted symbols c seen)
    (same : IsSame c.tracer d.tracer) (labels : d.labels.items ≡ c.labels.items) (kept : d.tally ≡ c.tally)
  where
    -- events that executed the words that the visits stand for more
    events_counted : (es : List Event) (words : List Executed) → HasTracedMore d.tracer seen h.traced.before es
        → words_from symbols (work_in c) (plan_in c)
        (after (work_in c) (opening_core (work_in c)) (map event_seen seen)) es ≡ words
        → AreVisitsOf d.tracer d.visits
        → ((p : Executed → Bool) → count_by p (words_visited symbols d)
        ≡ count_by p (words_visited symbols c) + count_by p words) → HasCountedMore symbols d seen
    events_counted es words s did visits adds =
        let work = work_in c in
        let plan = plan_in c in
        let opening = opening_core work in
        let events = map event_seen seen in
        let all : map event_seen (seen ++ s.more) ≡ events ++ es =
        seen_told d.tracer (seen ++ s.more) s.traced ∙ ap events_told s.before_is
        ∙ told_append h.traced.before s.told
        ∙ (λ j. sym (seen_told c.tracer seen h.traced) j ++ s.events_are j) in
        let made : words_seen symbols (work_in d) (plan_in d) (seen ++ s.more)
        ≡ words_seen symbols work plan seen ++ words =
        (λ j. words_seen symbols (same.work j) (same.plan j) (seen ++ s.more))
        ∙ ap (words_from symbols work plan opening) all
        ∙ words_behind symbols work plan opening events es
        ∙ ap (λ ws. words_seen symbols work plan seen ++ ws) did in (
          s.more,
          record {
            traced = s.traced;
            labels = labels ∙ h.labels ∙ (λ j. labels_of symbols (sym same.work j).program.code (sym same.plan j));
            visits = visits;
            singly = h.singly;
            tallied = ap (λ (t : Tally). t.counts.items) kept ∙ h.tallied;
            split = λ p.
                let added = adds p in
                let every = ap (count_by p) made in
                let both = sum_by-append (λ (w : Executed). cond (p w) 1 0) (words_seen symbols work plan seen) words in
                let before = h.split p in
                omega (arith, added, every, both, before);
          },
        )

    -- so many words of a node
    pub words_counted : (i k : ℕ) → HasTracedWords d.tracer seen h.traced.before i k
        → HasPassedWords (work_in c) i k (core_of (core_in c.tracer.replayer)) (core_of (core_in d.tracer.replayer))
        → AreCounted (work_in c) k ((core_of (core_in c.tracer.replayer)).nodes i) (visits_of c.visits) (visits_of d.visits)
        → CommitByNumber (work_in c) (plan_in c) (kinds_traced c.tracer) i k (core_of (core_in c.tracer.replayer))
        → AreVisitsOf d.tracer d.visits → HasCountedMore symbols d seen
    words_counted i k s passed counted commit visits =
        let work = work_in c in
        let plan = plan_in c in
        let core = core_of (core_in c.tracer.replayer) in
        let then = after work (opening_core work) (map event_seen seen) in
        let words = words_from symbols work plan core (replicate k (Exec i)) in
        events_counted (replicate k (Exec i)) words s
        (sym (run_alike symbols work plan i k core then passed.last passed.goes_on (alike_seen c.tracer seen h.traced)))
        visits (λ p.
        let first = first_label symbols in
        let run = run_adds symbols work plan c.labels.items (kinds_traced c.tracer) h.labels p i k core
        (visits_of c.visits) (visits_of d.visits) counted commit in
        let others : words_visited symbols d
        ≡ words_by (word_by first c.labels.items (kinds_traced c.tracer)) 0 (visits_of d.visits) =
        λ j. words_by (word_by first (labels j) (same.kinds j)) 0 (visits_of d.visits) in
        ap (count_by p) others ∙ run)

    -- a take, which executes none
    pub take_counted : (visits : d.visits ≡ c.visits) (i k : ℕ) (x : Seen)
        → HasMadeOne c.tracer.replayer d.tracer.replayer h.traced.before (Take i k) x → HasCountedMore symbols d seen
    take_counted visits i k x one =
        let visited : words_visited symbols d ≡ words_visited symbols c =
        λ j. words_by (word_by (first_label symbols) (labels j) (same.kinds j)) 0 (visits_of (visits j)) in
        events_counted (Take i k ∷ []) []
        (events_traced c.tracer d.tracer seen (one.told ∷ []) (Take i k ∷ []) h.traced one.made
        (ap (λ (e : Event). e ∷ []) one.event_is) same)
        refl (visits_same c.tracer d.tracer d.visits same
        (subst (λ (v : Visits). AreVisitsOf c.tracer v) (sym visits) h.visits))
        (λ p. let same_count = ap (count_by p) visited in omega (arith, same_count))

-- 4. Some more

-- more behind some
pub joined : (symbols : List Symbol) (c d : Counting) (seen : List Traced) → HasCountedMore symbols c seen
    → ((l : List Traced) → HasCounted symbols c l → HasCountedMore symbols d l) → HasCountedMore symbols d seen
joined symbols c d seen on next =
    let more = next (seen ++ on.0) on.1 in
    (on.0 ++ more.0, subst (HasCounted symbols d) (append_assoc seen on.0 more.0) more.1)

pub same_self : (t : Tracer) → IsSame t t
same_self t = record { work = refl; plan = refl; rec_is = refl; kinds = refl }

pub same_on : (t u v : Tracer) → IsSame t u → IsSame u v → IsSame t v
same_on t u v a b = record {
  work = b.work ∙ a.work;
  plan = b.plan ∙ a.plan;
  rec_is = b.rec_is ∙ a.rec_is;
  kinds = b.kinds ∙ a.kinds;
}
