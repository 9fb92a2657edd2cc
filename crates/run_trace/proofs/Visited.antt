-- Words that are counted by their numbers: what stays of their visits, and which of them commit.
use Rattle.std.proofs.Common.{◌≡◌, ◌≢◌, ℕ, zero, suc, ◌+◌, ◌<◌, true, false, not, eqb, List, [], ◌∷◌, length, map, get_or, Option, refl, sym, ap, ◌∙◌, subst, ⊎_elim}
use Rattle.std.specs.Prelude.{All, IfOk, Ok, Err, option_and_then}
use Rattle.std.specs.declared.result.Result.{Result}
use Rattle.std.specs.Option.{option_map_or}
use Rattle.std.proofs.lemmas.Bool.{cases_eq}
use Rattle.std.proofs.lemmas.List.{get_or-set_same, get_or-set_other}
use Rattle.std.proofs.lemmas.List.Elements.{All-nil, All-cons}
use Rattle.replay.specs.node_model.rv32_step.OneMemory.{Access, Nothing, Reads, Writes, WritesIf, Exchanges, value_read}
use Rattle.templates.specs.Commits.{commit_at}
use Rattle.templates.specs.Sequences.{flag_word}
use Rattle.templates.specs.declared.commits.CommitKind.{CommitKind}
use Rattle.templates.specs.declared.commits.CommitKind.TheVariants.{Never, Always, IfNotFlag, IfNoWait}
use Rattle.templates.specs.declared.plans.PlanEntry.{PlanEntry}
use Rattle.replay.specs.node_model.jump_map.Image.{Cell, address_of_word}
use Rattle.replay.specs.node_model.jump_map.Maps.{old_of}
use Rattle.replay.specs.node_model.Node.{Node, Work, WordOutcome, standing_of, word_outcome}
use Rattle.replay.specs.node_model.Turns.{word_turn}
use Rattle.replay.specs.node_model.Core.{AreAlike, Core, Exec, May, may_execute, event_step}
use Rattle.replay.specs.rewriting_law.CoreRun.{commits}
use Rattle.word_visits.specs.declared.visits.Visits.{Visits}
use Rattle.word_visits.specs.Visits.{AreCounted, Counts, WordVisits, never, next_number, reads_other, visited, visits_at}
use Rattle.word_visits.specs.VisitTables.{AreVisitsIn, StayVisits, visits_of}
use Rattle.replay.specs.dsm_core.CoreWords.{GoesOnBy}
use Rattle.replay.specs.Way.{IsSilent}
use Rattle.run_trace.specs.declared.kinds.CommitKinds.{CommitKinds}
use Rattle.run_trace.specs.declared.reach.Reached.{Reached}
use Rattle.run_trace.specs.declared.tracer.Tracer.{Tracer}
use Rattle.run_trace.specs.Kinds.{AreKindsOf, kind_in}
use Rattle.run_trace.specs.Looks.{access_seen, commits_when}
use Rattle.run_trace.specs.Tracing.{AreVisitsOf, IsSame, work_traced}
use Rattle.run_trace.specs.Visited.{CommitByNumber, LookByKind, asks, commits_visited, first_visits, may_commit}
use Rattle.run_trace.proofs.Kinded.{index_at}
use Rattle.run_trace.proofs.Silent.{silent_commits}
use Rattle.run_trace.proofs.Tracings.{exec_node}

-- 1. Visits at the start

first_at : (kinds : List CommitKind) (k : ℕ)
    → (visits_at (map first_visits kinds) k).looks ≡ asks (get_or kinds k Never)
first_at [] k = refl
first_at (x ∷ xs) zero = refl
first_at (x ∷ xs) (suc k) = first_at xs k

first_look : (kinds : CommitKinds) (vs : List WordVisits) → vs ≡ map first_visits kinds.kinds.items
    → LookByKind kinds vs
first_look kinds vs is = λ k. ap (λ xs. (visits_at xs k).looks) is ∙ first_at kinds.kinds.items k

pub first_are : {E : Type 0} (t : Tracer) (image : List Cell) (r : Result Visits E) → image ≡ (work_traced t).image
    → IfOk r (λ v. visits_of v ≡ map first_visits t.kinds.kinds.items) → IfOk r (AreVisitsIn image)
    → IfOk r (AreVisitsOf t)
first_are t image (Ok v) same is micros = record {
  micros = subst (λ (cells : List Cell). AreVisitsIn cells v) same micros;
  look = first_look t.kinds (visits_of v) is;
}
first_are t image (Err e) same is micros = tt

none_in : (kinds : List CommitKind) → All (λ (v : WordVisits). v.times ≡ 0) (map first_visits kinds)
none_in [] = All-nil (λ (v : WordVisits). v.times ≡ 0)
none_in (x ∷ xs) = All-cons (λ (v : WordVisits). v.times ≡ 0) (first_visits x) (map first_visits xs) refl (none_in xs)

pub none_yet : (kinds : CommitKinds) (vs : List WordVisits) → vs ≡ map first_visits kinds.kinds.items
    → All (λ (v : WordVisits). v.times ≡ 0) vs
none_yet kinds vs is = subst (λ xs. All (λ (v : WordVisits). v.times ≡ 0) xs) (sym is) (none_in kinds.kinds.items)

-- 2. What stays of them

kept_at : (vs : List WordVisits) (j k : ℕ) → j < length vs → (visits_at (visited j vs) k).looks ≡ (visits_at vs k).looks
kept_at vs j k low =
    let one : WordVisits = record (visits_at vs j) { times = (visits_at vs j).times + 1 } in
    ⊎_elim
    (λ (s : k ≡ j). ap (λ i. (visits_at (visited j vs) i).looks) s
    ∙ ap (λ (v : WordVisits). v.looks) (get_or-set_same vs j one never low) ∙ ap (λ i. (visits_at vs i).looks) (sym s))
    (λ (o : k ≢ j). ap (λ (v : WordVisits). v.looks) (get_or-set_other vs j k one never o)) (cases_eq k j)

look_kept : (kinds : CommitKinds) (vs : List WordVisits) (j : ℕ) → j < length vs → LookByKind kinds vs
    → LookByKind kinds (visited j vs)
look_kept kinds vs j low look = λ k. kept_at vs j k low ∙ look k

look_still : (work : Work) (kinds : CommitKinds) (k : ℕ) (n : Node) (vs ws : List WordVisits)
    → AreCounted work k n vs ws → LookByKind kinds vs → LookByKind kinds ws
look_still work kinds zero n vs ws counted look = subst (λ xs. LookByKind kinds xs) counted look
look_still work kinds (suc k) n vs ws counted look =
    look_still work kinds k (word_turn work n).node (visited (next_number n) vs) ws counted.1
    (look_kept kinds vs (next_number n) counted.0.within look)

pub visits_still : (t u : Tracer) (k : ℕ) (n : Node) (v w : Visits) → IsSame t u → AreVisitsOf t v
    → StayVisits v w → AreCounted (work_traced t) k n (visits_of v) (visits_of w) → AreVisitsOf u w
visits_still t u k n v w same are stay counted = record {
  micros = subst (λ (work : Work). AreVisitsIn work.image w) (sym same.work)
      (stay (work_traced t).image are.micros);
  look = subst (λ (kinds : CommitKinds). LookByKind kinds (visits_of w)) (sym same.kinds)
      (look_still (work_traced t) t.kinds k n (visits_of v) (visits_of w) counted are.look);
}

-- 3. Which of them commit

kind_there : (kinds : CommitKinds) (k : ℕ) → kind_in kinds (address_of_word k) ≡ get_or kinds.kinds.items k Never
kind_there kinds k = ap (λ (o : Option ℕ). option_map_or (λ j. get_or kinds.kinds.items j Never) o Never) (index_at k)

read_same : (a : Access) → option_and_then (λ (r : Reached). r.value) (access_seen a) ≡ value_read a
read_same Nothing = refl
read_same (Reads kind a value) = refl
read_same (Writes width a value) = refl
read_same (WritesIf a value true) = refl
read_same (WritesIf a value false) = refl
read_same (Exchanges a old new) = refl

by_kind : (kind : CommitKind) (o : WordOutcome) → (asks kind ≡ true → reads_other o ≡ true)
    → commits_when kind (access_seen o.access) false ≡ may_commit kind
by_kind Never o other = refl
by_kind Always o other = refl
by_kind IfNotFlag o other =
    ap (λ x. option_map_or (λ v. not (eqb v flag_word)) x false) (read_same o.access) ∙ other refl
by_kind IfNoWait o other = refl

-- a silent word commits by its kind, where it reads something other than the flag word if that asks
pub kind_commits : (work : Work) (plan : List PlanEntry) (kinds : CommitKinds) (c : Core) (i k : ℕ)
    → AreKindsOf work.program plan work.image kinds → (c.nodes i).lane.at ≡ address_of_word k
    → (asks (get_or kinds.kinds.items k Never) ≡ true → reads_other (word_outcome work (c.nodes i)) ≡ true)
    → IsSilent work c (Exec i) → commits work plan (c.nodes i) ≡ commits_visited kinds k
kind_commits work plan kinds c i k are at other silent =
    let n = c.nodes i in
    let o = word_outcome work n in
    let kind = get_or kinds.kinds.items k Never in
    let is : commit_at work.program plan (old_of work.image n.lane.at) ≡ kind =
    sym (are n.lane.at) ∙ ap (kind_in kinds) at ∙ kind_there kinds k in
    sym (silent_commits work plan c i (access_seen o.access) silent refl)
    ∙ ap (λ (x : CommitKind). commits_when x (access_seen o.access) false) is
    ∙ by_kind kind o other

one_commits : (work : Work) (plan : List PlanEntry) (kinds : CommitKinds) (c : Core) (i : ℕ) (vs : List WordVisits)
    → AreKindsOf work.program plan work.image kinds → LookByKind kinds vs → Counts work (c.nodes i) vs
    → IsSilent work c (Exec i) → commits work plan (c.nodes i) ≡ commits_visited kinds (next_number (c.nodes i))
one_commits work plan kinds c i vs are look count silent =
    let k = next_number (c.nodes i) in
    kind_commits work plan kinds c i k are count.at (λ asked. count.other (look k ∙ asked)) silent

-- cores that are alike may make the same words
pub may_last : (work : Work) (c d : Core) (i : ℕ) → AreAlike work.layout.nodes c d → May work c (Exec i) → May work d (Exec i)
may_last work c d i a may =
    (may.0, subst (λ (x : Node). may_execute (standing_of work x) ≡ true) (a.nodes i may.0) may.1)

may_next : (work : Work) (i k : ℕ) (c d : Core) → GoesOnBy work i k c d → May work d (Exec i) → May work c (Exec i)
may_next work i zero c d goes may = subst (λ (x : Core). May work x (Exec i)) (sym goes) may
may_next work i (suc k) c d goes may = goes.0

pub commit_by_number : (work : Work) (plan : List PlanEntry) (kinds : CommitKinds) (i k : ℕ) (c d : Core)
    (vs ws : List WordVisits) → AreKindsOf work.program plan work.image kinds → LookByKind kinds vs → GoesOnBy work i k c d
    → May work d (Exec i) → AreCounted work k (c.nodes i) vs ws → CommitByNumber work plan kinds i k c
commit_by_number work plan kinds i zero c d vs ws are look goes may counted = tt
commit_by_number work plan kinds i (suc k) c d vs ws are look goes may counted =
    let n = c.nodes i in
    let next = event_step work c (Exec i) in
    let node = exec_node work c i in
    let silent : IsSilent work c (Exec i) = (
      goes.1,
      subst (λ (x : Node). may_execute (standing_of work x) ≡ true) node (may_next work i k next d goes.2 may).1,
    ) in (
      one_commits work plan kinds c i vs are look counted.0 silent,
      commit_by_number work plan kinds i k next d (visited (next_number n) vs) ws are
          (look_kept kinds vs (next_number n) counted.0.within look) goes.2 may
          (subst (λ (x : Node). AreCounted work k x (visited (next_number n) vs) ws) (sym node) counted.1),
    )
