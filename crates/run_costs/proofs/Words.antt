-- The words of a run, one event after another, and how many they are.
use Rattle.std.proofs.Common.{◌≡◌, ℕ, ◌<◌, cond, List, [], ◌∷◌, ◌++◌, length, map, refl, sym, ap, ◌∙◌, arith, append_assoc, append-nil, inl, inr}
use Rattle.std.specs.List.{count_by, range_with_len}
use Rattle.std.proofs.lemmas.Bool.{cases_Bool}
use Rattle.std.proofs.lemmas.List.{same_lists}
use Rattle.std.proofs.lemmas.List.FromFn.{get_or-map-range_with_len, length-map-range_with_len}
use Rattle.std.proofs.lemmas.List.Sums.{sum_by-append}
use Rattle.check_costs.specs.elf_symbols.Symbols.{Symbol}
use Rattle.check_costs.specs.Tally.{Executed, steps_in}
use Rattle.run_trace.specs.node_model.jump_map.templates.declared.plans.PlanEntry.{PlanEntry}
use Rattle.run_trace.specs.node_model.declared.NodeCounts.{NodeCounts}
use Rattle.run_trace.specs.node_model.Node.{Work, Node}
use Rattle.run_trace.specs.node_model.Core.{Core, Event, Exec, Take, May, AreAlike, after, event_step}
use Rattle.run_trace.specs.replay.rewriting_law.CoreRun.{commits, picks_at, picks_of}
use Rattle.run_trace.specs.Steps.{is_step}
use Rattle.run_trace.proofs.StepCounts.{no_take_steps}
use Rattle.run_costs.specs.Costs.{is_word, next_word, words_at, words_from}

-- 1. One event more

pub words_more : (symbols : List Symbol) (work : Work) (plan : List PlanEntry) (c : Core) (es : List Event) (e : Event)
    → words_from symbols work plan c (es ++ e ∷ [])
    ≡ words_from symbols work plan c es ++ words_at symbols work plan (after work c es) e
words_more symbols work plan c [] e = append-nil (words_at symbols work plan c e)
words_more symbols work plan c (x ∷ es) e =
    let here = words_at symbols work plan c x in
    let next = event_step work c x in
    ap (λ ws. here ++ ws) (words_more symbols work plan next es e)
    ∙ sym (append_assoc here (words_from symbols work plan next es) (words_at symbols work plan (after work next es) e))

-- the words of an event are the same by cores that are alike
pub words_alike : (symbols : List Symbol) (work : Work) (plan : List PlanEntry) (c d : Core) (e : Event)
    → May work c e → AreAlike work.layout.nodes c d → words_at symbols work plan c e ≡ words_at symbols work plan d e
words_alike symbols work plan c d (Exec i) may a =
    ap (λ (n : Node). next_word symbols work plan n ∷ []) (a.nodes i may.0)
words_alike symbols work plan c d (Take i j) may a = refl

-- 2. How many they are

pub words_count : (symbols : List Symbol) (work : Work) (plan : List PlanEntry) (c : Core) (es : List Event)
    → length (words_from symbols work plan c es) ≡ count_by is_word es
words_count symbols work plan c [] = refl
words_count symbols work plan c (Exec i ∷ es) =
    let rest = words_count symbols work plan (event_step work c (Exec i)) es in
    let one = sum_by-append (λ e. cond (is_word e) 1 0) (Exec i ∷ []) es in
    omega (arith, rest, one)
words_count symbols work plan c (Take i j ∷ es) =
    let rest = words_count symbols work plan (event_step work c (Take i j)) es in
    let one = sum_by-append (λ e. cond (is_word e) 1 0) (Take i j ∷ []) es in
    omega (arith, rest, one)

-- the steps of an event
steps_at : (symbols : List Symbol) (work : Work) (plan : List PlanEntry) (c : Core) (e : Event)
    → steps_in (words_at symbols work plan c e) ≡ count_by is_step (picks_at work plan c e)
steps_at symbols work plan c (Exec i) = elim (cases_Bool (commits work plan (c.nodes i))) [
  | inl e ↦ rw e refl
  | inr e ↦ rw e refl
]
steps_at symbols work plan c (Take i j) = sym (no_take_steps work c i j (c.list j i))

pub steps_count : (symbols : List Symbol) (work : Work) (plan : List PlanEntry) (c : Core) (es : List Event)
    → steps_in (words_from symbols work plan c es) ≡ count_by is_step (picks_of work plan c es)
steps_count symbols work plan c [] = refl
steps_count symbols work plan c (e ∷ es) =
    let next = event_step work c e in
    let mine = sum_by-append (λ (w : Executed). cond w.commits 1 0) (words_at symbols work plan c e) (words_from symbols work plan next es) in
    let theirs = sum_by-append (λ p. cond (is_step p) 1 0) (picks_at work plan c e) (picks_of work plan next es) in
    let one = steps_at symbols work plan c e in
    let rest = steps_count symbols work plan next es in
    omega (arith, mine, theirs, one, rest)

-- 3. What nodes count

pub nodes_alike : (n : ℕ) (c d : Core) → AreAlike n c d
    → map (λ i. (c.nodes i).counts) (range_with_len 0 n) ≡ map (λ i. (d.nodes i).counts) (range_with_len 0 n)
nodes_alike n c d a =
    let f : ℕ → NodeCounts = λ i. (c.nodes i).counts in
    let g : ℕ → NodeCounts = λ i. (d.nodes i).counts in
    let long = length-map-range_with_len f 0 n in
    same_lists (map f (range_with_len 0 n)) (map g (range_with_len 0 n))
    (long ∙ sym (length-map-range_with_len g 0 n))
    (λ k e within. let low : k < n = omega (arith, within, long) in
    get_or-map-range_with_len f 0 n k k e low (omega arith)
    ∙ ap (λ (m : Node). m.counts) (a.nodes k low)
    ∙ sym (get_or-map-range_with_len g 0 n k k e low (omega arith)))
