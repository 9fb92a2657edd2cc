-- A core's stamps are in range, and so are the runs that go on from it.
use Rattle.std.proofs.Common.{◌≡◌, ℕ, ◌+◌, ◌*◌, ◌^◌, ◌<◌, ◌≤◌, List, ◌++◌, length, sym, subst, arith, length-append}
use Rattle.std.specs.Prelude.{All}
use Rattle.std.proofs.lemmas.Nat.{mul-le}
use Rattle.block_layout.specs.Layout.{IsValid}
use Rattle.rv32_program.specs.Program.{IsAccepted}
use Rattle.rewriting_law.specs.templates.declared.plans.PlanEntry.{PlanEntry}
use Rattle.node_machine.specs.jump_map.Image.{IsRewriting}
use Rattle.rewriting_law.specs.dsm_messages.declared.messages.Wire.{Wire}
use Rattle.run_order.specs.node_model.Node.{Work, Node, IsLaidOver}
use Rattle.run_order.specs.node_model.Core.{Core, Event, IsCoreRun, opening_core, after, AreAlike}
use Rattle.run_order.specs.OwnRun.{Stamped, OnlyAdds, events_of}
use Rattle.rewriting_law.specs.Bounds.{most_events}
use Rattle.dsm_core.specs.CoreParts.{CoreParts, work_of, core_of, IsCore, IsLedTo, GoesOnTo, HasStampsInRange}
use Rattle.dsm_core.specs.CoreSteps.{GoesOnFor}
use Rattle.dsm_core.proofs.CoreRuns.{goes_also, run_append, run_alike}

-- the law of short runs
abbrev pub AreShort : Type 0
AreShort = (work : Work) (plan : List PlanEntry) (events : List Event)
    → IsAccepted work.program → IsValid work.layout → IsLaidOver work.program work.layout
    → IsRewriting work.program plan work.image → 0 < work.budget
    → IsCoreRun work (opening_core work) events → length events ≤ most_events work

most : (n budget : ℕ) → n ≤ 16 → budget ≤ 2 ^ 32 → (4 * n + 5) * (n * budget) + n * n < 2 ^ 56
most n budget few range =
    let words = mul-le n budget 16 (2 ^ 32) few range in
    let runs = mul-le (4 * n + 5) (n * budget) 69 (16 * 2 ^ 32) (omega arith) words in
    let byes = mul-le n n 16 16 few few in
    omega (arith, runs, byes)

-- a run that goes on from a core is short
pub few_more : (p : CoreParts) (more : List Event) → AreShort → IsCore p
    → IsCoreRun (work_of p) (core_of p) more → length more ≤ most_events (work_of p)
few_more p more short is run =
    let work = work_of p in
    let r = is.are_parts.rewritten in
    let l = is.led_to in
    let last = after work (opening_core work) l.run in
    let all = run_append work (opening_core work) l.run more l.is_run
    (run_alike work (core_of p) last more l.leads run) in
    let a : length (l.run ++ more) ≤ most_events work =
    short work r.plan (l.run ++ more) r.accepted r.valid r.laid_over r.rewriting r.some all in
    let b : length (l.run ++ more) ≡ length l.run + length more = length-append l.run more in
    let m : ℕ = most_events work in
    less_of (length l.run) (length more) (length (l.run ++ more)) m b a
  where
    less_of : (a b c m : ℕ) → c ≡ a + b → c ≤ m → b ≤ m
    less_of a b c m e le = omega arith

short_run : (p : CoreParts) (events : List Event) → AreShort → IsCore p
    → IsCoreRun (work_of p) (opening_core (work_of p)) events → length events < 2 ^ 56
short_run p events short is run =
    let work = work_of p in
    let r = is.are_parts.rewritten in
    let m : ℕ = most_events work in
    let a : length events ≤ m =
    short work r.plan events r.accepted r.valid r.laid_over r.rewriting r.some run in
    let b : m < 2 ^ 56 = most p.layout.nodes p.budget is.are_parts.lists.few r.few in
    below (length events) m a b
  where
    below : (k m : ℕ) → k ≤ m → m < 2 ^ 56 → k < 2 ^ 56
    below k m p q = omega arith

-- the laws of stamps in a run
abbrev pub AreFewStamps : Type 0
AreFewStamps = (work : Work) (run : List Event) (i : ℕ) → IsCoreRun work (opening_core work) run
    → i < work.layout.nodes → ((after work (opening_core work) run).nodes i).stamp ≤ length run

abbrev pub AreFewWires : Type 0
AreFewWires = (work : Work) (run : List Event) (j k : ℕ) → IsCoreRun work (opening_core work) run
    → j < work.layout.nodes → k < work.layout.nodes
    → All (λ (wire : Wire). wire.stamp ≤ length run)
    ((after work (opening_core work) run).list j k)

pub in_range : (p : CoreParts) (d : Core) → AreShort → AreFewStamps → AreFewWires → IsCore p
    → IsLedTo (work_of p) d → HasStampsInRange p.layout.nodes d
in_range p d short stamps wires is l =
    let work = work_of p in
    let few = short_run p l.run short is l.is_run in
    record {
      nodes = λ i bi. subst (λ (n : Node). n.stamp < 2 ^ 56) (sym (l.leads.nodes i bi))
          (let a = stamps work l.run i l.is_run bi in omega (arith, a, few));
      wires = λ j i bj bi. subst (All (λ (wire : Wire). wire.stamp < 2 ^ 56))
          (sym (l.leads.lists j i bj bi))
          (λ k w below. let a = wires work l.run j i l.is_run bj bi k w below in
          omega (arith, a, few));
    }

pub runs_end : (p : CoreParts) (k : ℕ) (d : Core) → AreShort → IsCore p
    → GoesOnFor (work_of p) k (core_of p) d → k < 2 ^ 56
runs_end p k d short is goes =
    let m : ℕ = most_events (work_of p) in
    let a : length goes.goes.more ≤ m = few_more p goes.goes.more short is goes.goes.is_run in
    let b : m < 2 ^ 56 = most p.layout.nodes p.budget is.are_parts.lists.few
    is.are_parts.rewritten.few in
    let l = goes.count in
    between k (length goes.goes.more) m l a b
  where
    between : (k n m : ℕ) → k ≤ n → n ≤ m → m < 2 ^ 56 → k < 2 ^ 56
    between k n m p q r = omega arith

-- the law that a run only adds to each node's events
abbrev pub RunsAdd : Type 0
RunsAdd = (work : Work) (run more : List Event) → IsCoreRun work (opening_core work) (run ++ more)
    → OnlyAdds work.layout.nodes (after work (opening_core work) run)
    (after work (opening_core work) (run ++ more))

adds_alike : (n : ℕ) (a b c d : Core) → AreAlike n a b → AreAlike n c d → OnlyAdds n b d
    → OnlyAdds n a c
adds_alike n a b c d p q adds i bi =
    subst (λ (x : Node). (more : List Stamped) × (events_of i (c.nodes i) ≡ events_of i x ++ more))
    (sym (p.nodes i bi))
    (subst (λ (y : Node). (more : List Stamped) × (events_of i y ≡ events_of i (b.nodes i) ++ more))
    (sym (q.nodes i bi)) (adds i bi))

pub only_adds : (p : CoreParts) (d : Core) → RunsAdd → IsCore p
    → GoesOnTo (work_of p) (core_of p) d → OnlyAdds p.layout.nodes (core_of p) d
only_adds p d adds is goes =
    let work = work_of p in
    let l = is.led_to in
    let o = opening_core work in
    let all = goes_also work o (core_of p) d
    (record { more = l.run; is_run = l.is_run; leads = l.leads }) goes in
    adds_alike p.layout.nodes (core_of p) (after work o l.run) d (after work o (l.run ++ goes.more))
    l.leads all.leads (adds work l.run goes.more all.is_run)
