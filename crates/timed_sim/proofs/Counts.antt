-- How many steps words commit, one after another, and node by node.
use Rattle.std.proofs.Common.{◌≡◌, ◌≢◌, ℕ, zero, suc, ◌+◌, ◌*◌, ◌<◌, ◌≤◌, Bool, true, false, cond, List, [], ◌∷◌, ◌++◌, refl, sym, ap, ◌∙◌, subst, inl, inr, arith}
use Rattle.templates.specs.declared.plans.PlanEntry.{PlanEntry}
use Rattle.block_layout.specs.Update.{changed}
use Rattle.dsm_core.specs.rewriting_law.CoreRun.{commits}
use Rattle.dsm_core.specs.node_machine.Runs.{GoesOnBy}
use Rattle.word_visits.specs.Tallies.{AreTallied, WordTally, steps_of}
use Rattle.dsm_core.specs.node_model.declared.Standing.TheVariants.{Running, AtPoll}
use Rattle.dsm_core.specs.node_model.Node.{Work, Node, Phase, can_execute, is_at_poll, standing_in, standing_of}
use Rattle.dsm_core.specs.node_model.Node as node
use Rattle.dsm_core.specs.node_model.Turns.{word_turn}
use Rattle.dsm_core.specs.node_model.Core.{Core, Event, Exec, Take, May, AreAlike, IsCoreRun, after, event_step, may_execute}
use Rattle.dsm_core.specs.CoreWords.{HaveEachPassed}
use Rattle.timed_sim.specs.Tallied.{AreEachTallied, steps_below}
use Rattle.dsm_core.proofs.CoreRuns.{after_alike}
use Rattle.run_trace.specs.declared.kinds.CommitKinds.{CommitKinds}
use Rattle.run_trace.specs.Kinds.{AreKindsOf}
use Rattle.run_trace.specs.Steps.{steps_made}
use Rattle.run_trace.specs.Visited.{AreTalliesOf}
use Rattle.run_trace.proofs.StepCounts.{steps_append, steps_by, steps_more, tallied_step}
use Rattle.timed_sim.proofs.Numbered.{below_or_last, hit, other}

-- 1. Words of one node

-- a node's next word commits so many steps
abbrev pub steps_of_word : Work → List PlanEntry → Node → ℕ
steps_of_word work plan n = cond (commits work plan n) 1 0

-- and so many of its next words
abbrev pub steps_of_words : Work → List PlanEntry → (words : ℕ) → Node → ℕ
steps_of_words work plan zero n = 0
steps_of_words work plan (suc k) n =
    steps_of_word work plan n + steps_of_words work plan k (word_turn work n).node

one_at_most : (b : Bool) → cond b 1 0 ≤ 1
one_at_most true = omega arith
one_at_most false = omega arith

words_few : (work : Work) (plan : List PlanEntry) (k : ℕ) (n : Node)
    → steps_of_words work plan k n ≤ k
words_few work plan zero n = omega arith
words_few work plan (suc k) n =
    let one = one_at_most (commits work plan n) in
    let rest = words_few work plan k (word_turn work n).node in
    omega (arith, one, rest)

poll_may : (b : Bool) → may_execute (cond b AtPoll Running) ≡ true
poll_may true = refl
poll_may false = refl

may_by : (work : Work) (n : Node) (p : Phase) → can_execute p ≡ true
    → may_execute (standing_in work n p) ≡ true
may_by work n node.Running can = poll_may (is_at_poll work n)
may_by work n node.Resumed can = refl
may_by work n (node.Waiting r) can = absurd (cc)
may_by work n (node.Ended e) can = absurd (cc)

-- a node that goes on by words may execute the first; where there is none it is the last
pub goes_may : (work : Work) (k : ℕ) (n m : Node) → GoesOnBy work k n m
    → may_execute (standing_of work m) ≡ true → may_execute (standing_of work n) ≡ true
goes_may work zero n m on may = ap (λ (z : Node). may_execute (standing_of work z)) on ∙ may
goes_may work (suc k) n m on may = may_by work n n.phase on.0

-- of words that are tallied, and print nothing and send nothing, those that count commit
words_tallied : (work : Work) (plan : List PlanEntry) (kinds : CommitKinds) (ts : List WordTally)
    (k : ℕ) (n m : Node) → AreKindsOf work.program plan work.image kinds → AreTalliesOf kinds ts
    → AreTallied work k n ts → GoesOnBy work k n m → may_execute (standing_of work m) ≡ true
    → steps_of work k n ts ≡ steps_of_words work plan k n
words_tallied work plan kinds ts zero n m are of tallied on may = refl
words_tallied work plan kinds ts (suc k) n m are of tallied on may =
    let next = (word_turn work n).node in
    let first = tallied_step work plan kinds n ts are of tallied.0 (record {
      turn = on.1;
      may = goes_may work k next m on.2 may;
    }) in
    let rest = words_tallied work plan kinds ts k next m are of tallied.1 on.2 may in
    λ t. sym first t + rest t

-- 2. Words of each node below a number

abbrev pub steps_of_each : Work → List PlanEntry → (words : ℕ → ℕ) → (ℕ → Node) → (n : ℕ) → ℕ
steps_of_each work plan words nodes zero = 0
steps_of_each work plan words nodes (suc k) =
    steps_of_each work plan words nodes k + steps_of_words work plan (words k) (nodes k)

pub each_few : (work : Work) (plan : List PlanEntry) (words : ℕ → ℕ) (nodes : ℕ → Node) (n : ℕ)
    → ((i : ℕ) → i < n → words i ≤ 4096) → steps_of_each work plan words nodes n ≤ 4096 * n
each_few work plan words nodes zero few = omega arith
each_few work plan words nodes (suc k) few =
    let before = each_few work plan words nodes k (λ i low. few i (omega (arith, low))) in
    let here = words_few work plan (words k) (nodes k) in
    let most = few k (omega arith) in
    omega (arith, before, here, most)

pub none_each : (work : Work) (plan : List PlanEntry) (words : ℕ → ℕ) (nodes : ℕ → Node) (n : ℕ)
    → ((i : ℕ) → i < n → words i ≡ 0) → steps_of_each work plan words nodes n ≡ 0
none_each work plan words nodes zero none = refl
none_each work plan words nodes (suc k) none =
    let before = none_each work plan words nodes k (λ i low. none i (omega (arith, low))) in
    let last = none k (omega arith) in
    λ t. before t + steps_of_words work plan (last t) (nodes k)

module _ (work : Work) (plan : List PlanEntry) (words : ℕ → ℕ) (nodes : ℕ → Node) (k w : ℕ) where
  each_below : (next : Node) (n : ℕ) → n ≤ k
      → steps_of_each work plan (changed words k w) (changed nodes k next) n
      ≡ steps_of_each work plan words nodes n
  each_below next zero le = refl
  each_below next (suc m) le =
      let before = each_below next m (omega (arith, le)) in
      let apart : m ≢ k = λ e. absurd (omega (arith, le, e)) in
      let count = other words k m w apart in
      let there = other nodes k m next apart in
      λ t. before t + steps_of_words work plan (count t) (there t)

  -- the steps of all words are those of the first of node k and those behind it
  pub each_fewer : (n : ℕ) → k < n → words k ≡ suc w
      → steps_of_each work plan words nodes n
      ≡ steps_of_word work plan (nodes k)
      + steps_of_each work plan (changed words k w)
      (changed nodes k (word_turn work (nodes k)).node) n
  each_fewer zero low is = absurd (omega (arith, low))
  each_fewer (suc m) low is =
      let next = (word_turn work (nodes k)).node in
      elim (below_or_last k m low) [
        | inl b ↦ (let before = each_fewer m b is in
            let apart : m ≢ k = λ e. absurd (omega (arith, b, e)) in
            let count = other words k m w apart in
            let there = other nodes k m next apart in
            let last : steps_of_words work plan (changed words k w m) (changed nodes k next m)
            ≡ steps_of_words work plan (words m) (nodes m) =
            λ t. steps_of_words work plan (count t) (there t) in
            omega (arith, before, last))
        | inr e ↦ (let before = each_below next m (omega (arith, e)) in
            let count = hit words k w in
            let there = hit nodes k next in
            let here : steps_of_words work plan (changed words k w m) (changed nodes k next m)
            ≡ steps_of_words work plan w next =
            ap (λ z. steps_of_words work plan (changed words k w z) (changed nodes k next z)) (sym e)
            ∙ (λ t. steps_of_words work plan (count t) (there t)) in
            let all : steps_of_words work plan (words m) (nodes m)
            ≡ steps_of_word work plan (nodes k) + steps_of_words work plan w next =
            ap (λ z. steps_of_words work plan (words z) (nodes z)) (sym e)
            ∙ ap (λ z. steps_of_words work plan z (nodes k)) is in
            omega (arith, before, here, all))
      ]

-- words of each node that are tallied
pub each_tallied : (work : Work) (plan : List PlanEntry) (kinds : CommitKinds) (ts : List WordTally)
    (words : ℕ → ℕ) (c d : Core) (n : ℕ) → n ≤ work.layout.nodes
    → AreKindsOf work.program plan work.image kinds → AreTalliesOf kinds ts
    → ((i : ℕ) → i < work.layout.nodes → 1 ≤ words i → May work c (Exec i))
    → HaveEachPassed work words c d → AreEachTallied work words c ts
    → steps_below work words n c ts ≡ steps_of_each work plan words c.nodes n
each_tallied work plan kinds ts words c d zero low are of may passed tallied = refl
each_tallied work plan kinds ts words c d (suc k) low are of may passed tallied =
    let lower : k < work.layout.nodes = omega (arith, low) in
    let before = each_tallied work plan kinds ts words c d k (omega (arith, low)) are of may passed
    tallied in
    let last : steps_of work (words k) (c.nodes k) ts
    ≡ steps_of_words work plan (words k) (c.nodes k) =
    by (words k) refl lower in
    λ t. before t + last t
  where
    by : (w : ℕ) → words k ≡ w → k < work.layout.nodes
        → steps_of work w (c.nodes k) ts ≡ steps_of_words work plan w (c.nodes k)
    by zero is lower = refl
    by (suc w) is lower =
        words_tallied work plan kinds ts (suc w) (c.nodes k) (d.nodes k) are of
        (subst (λ z. AreTallied work z (c.nodes k) ts) is (tallied k lower))
        (subst (λ z. GoesOnBy work z (c.nodes k) (d.nodes k)) is (passed.nodes k lower))
        (passed.may k (may k lower (omega (arith, is)))).1

-- 3. Events

-- an event makes no more than one step
pub event_few : (work : Work) (plan : List PlanEntry) (c : Core) (e : Event)
    → steps_made work plan c (e ∷ []) ≤ 1
event_few work plan c (Exec i) =
    let here = steps_more work plan c (Exec i) [] in
    let one = one_at_most (commits work plan (c.nodes i)) in
    omega (arith, here, one)
event_few work plan c (Take i j) =
    let here = steps_more work plan c (Take i j) [] in
    omega (arith, here)

-- cores that are the same make the same steps
by_alike : (work : Work) (plan : List PlanEntry) (c d : Core) (e : Event)
    → AreAlike work.layout.nodes c d → May work c e
    → steps_by work plan c e ≡ steps_by work plan d e
by_alike work plan c d (Exec i) alike may = ap (steps_of_word work plan) (alike.nodes i may.0)
by_alike work plan c d (Take i j) alike may = refl

steps_alike : (work : Work) (plan : List PlanEntry) (c d : Core) (es : List Event)
    → AreAlike work.layout.nodes c d → IsCoreRun work c es
    → steps_made work plan c es ≡ steps_made work plan d es
steps_alike work plan c d [] alike run = refl
steps_alike work plan c d (e ∷ es) alike run =
    let one = by_alike work plan c d e alike run.0 in
    let rest = steps_alike work plan (event_step work c e) (event_step work d e) es
    (after_alike work c d (e ∷ []) alike (run.0, tt)) run.1 in
    steps_more work plan c e es ∙ (λ t. one t + rest t) ∙ sym (steps_more work plan d e es)

-- events behind those of a run make as many steps as from a core that is the same
pub steps_behind : (work : Work) (plan : List PlanEntry) (o c : Core) (first more : List Event)
    → AreAlike work.layout.nodes c (after work o first) → IsCoreRun work c more
    → steps_made work plan o (first ++ more)
    ≡ steps_made work plan o first + steps_made work plan c more
steps_behind work plan o c first more alike run =
    steps_append work plan o first more
    ∙ ap (λ k. steps_made work plan o first + k)
    (sym (steps_alike work plan c (after work o first) more alike run))
