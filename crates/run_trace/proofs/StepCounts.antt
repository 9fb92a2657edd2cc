-- How many steps events make, and words that are tallied.
use Rattle.std.proofs.Common.{◌≡◌, ℕ, zero, suc, ◌+◌, Bool, true, false, cond, List, [], ◌∷◌, ◌++◌, map, get_or, Option, None, Some, refl, sym, ap, ◌∙◌, arith}
use Rattle.std.specs.List.{count_by}
use Rattle.std.proofs.lemmas.List.Sums.{sum_by-append}
use Rattle.replay.specs.node_model.rv32_step.OneMemory.{Break, Step}
use Rattle.templates.specs.declared.commits.CommitKind.{CommitKind}
use Rattle.templates.specs.declared.commits.CommitKind.TheVariants.{Never}
use Rattle.templates.specs.declared.plans.PlanEntry.{PlanEntry}
use Rattle.replay.specs.node_model.home_directory.dsm_messages.declared.messages.Wire.{Wire}
use Rattle.replay.specs.node_model.Node.{Node, Work}
use Rattle.replay.specs.node_model.Core.{Core, Event, Exec, Take, after, event_step}
use Rattle.replay.specs.rewriting_law.CoreRun.{Order, break_by, commits, order_of, picks_at, picks_of, picks_of_take}
use Rattle.word_visits.specs.Tallies.{IsTallied, WordTally, step_at, tally_at}
use Rattle.word_visits.specs.Visits.{next_number}
use Rattle.run_trace.specs.declared.kinds.CommitKinds.{CommitKinds}
use Rattle.run_trace.specs.Committing.{IsSilentNode}
use Rattle.run_trace.specs.Kinds.{AreKindsOf}
use Rattle.run_trace.specs.Steps.{is_step, steps_made}
use Rattle.run_trace.specs.Visited.{AreTalliesOf, tally_by}
use Rattle.run_trace.proofs.Visited.{kind_commits}

-- 1. Events

no_steps : (b : Bool) (i r : ℕ) → count_by is_step (cond b (Break i r ∷ []) []) ≡ 0
no_steps true i r = refl
no_steps false i r = refl

no_break_steps : (work : Work) (i : ℕ) (order : Option Order) (reserved : Option ℕ)
    → count_by is_step (break_by work.layout i order reserved) ≡ 0
no_break_steps work i None reserved = refl
no_break_steps work i (Some order) None = refl
no_break_steps work i (Some order) (Some a) = no_steps _ i order.requester

pub no_take_steps : (work : Work) (c : Core) (i j : ℕ) (wires : List Wire)
    → count_by is_step (picks_of_take work c i j wires) ≡ 0
no_take_steps work c i j [] = refl
no_take_steps work c i j (wire ∷ rest) =
    no_break_steps work i (order_of work.layout (c.nodes i) j wire.message) (c.nodes i).local.reservation

-- how many steps an event makes
abbrev pub steps_by : Work → List PlanEntry → Core → Event → ℕ
steps_by work plan c (Exec i) = cond (commits work plan (c.nodes i)) 1 0
steps_by work plan c (Take i j) = 0

word_steps : (b : Bool) (i : ℕ) → count_by is_step (cond b (Step i ∷ []) []) ≡ cond b 1 0
word_steps true i = refl
word_steps false i = refl

pub steps_at : (work : Work) (plan : List PlanEntry) (c : Core) (e : Event)
    → count_by is_step (picks_at work plan c e) ≡ steps_by work plan c e
steps_at work plan c (Exec i) = word_steps (commits work plan (c.nodes i)) i
steps_at work plan c (Take i j) = no_take_steps work c i j (c.list j i)

pub steps_more : (work : Work) (plan : List PlanEntry) (c : Core) (e : Event) (es : List Event)
    → steps_made work plan c (e ∷ es)
    ≡ steps_by work plan c e + steps_made work plan (event_step work c e) es
steps_more work plan c e es =
    sum_by-append (λ p. cond (is_step p) 1 0) (picks_at work plan c e) (picks_of work plan (event_step work c e) es)
    ∙ ap (λ k. k + steps_made work plan (event_step work c e) es) (steps_at work plan c e)

pub steps_append : (work : Work) (plan : List PlanEntry) (c : Core) (xs ys : List Event)
    → steps_made work plan c (xs ++ ys)
    ≡ steps_made work plan c xs + steps_made work plan (after work c xs) ys
steps_append work plan c [] ys = omega arith
steps_append work plan c (x ∷ xs) ys =
    let all = steps_more work plan c x (xs ++ ys) in
    let first = steps_more work plan c x xs in
    let rest = steps_append work plan (event_step work c x) xs ys in
    omega (arith, all, first, rest)

-- 2. Words that are tallied

tally_there : (kinds : List CommitKind) (k : ℕ)
    → tally_at (map tally_by kinds) k ≡ tally_by (get_or kinds k Never)
tally_there [] k = refl
tally_there (x ∷ xs) zero = refl
tally_there (x ∷ xs) (suc k) = tally_there xs k

-- a silent word that is tallied commits a step where it counts
pub tallied_step : (work : Work) (plan : List PlanEntry) (kinds : CommitKinds) (n : Node) (ts : List WordTally)
    → AreKindsOf work.program plan work.image kinds → AreTalliesOf kinds ts → IsTallied work n ts
    → IsSilentNode work n → cond (commits work plan n) 1 0 ≡ step_at ts (next_number n)
tallied_step work plan kinds n ts are of tallied silent =
    let alone : Core = record { nodes = λ i. n; list = λ j i. [] } in
    let k = next_number n in
    let there : tally_at ts k ≡ tally_by (get_or kinds.kinds.items k Never) =
    ap (λ xs. tally_at xs k) of ∙ tally_there kinds.kinds.items k in
    let does = kind_commits work plan kinds alone 0 k are tallied.at
    (λ asked. tallied.other (ap (λ (t : WordTally). t.looks) there ∙ asked)) (silent.turn, silent.may) in
    ap (λ b. cond b 1 0) (does ∙ sym (ap (λ (t : WordTally). t.counts) there))
