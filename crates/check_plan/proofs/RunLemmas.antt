-- The runs of a plan: there is one choice of them, they share no place, and each may be served.
use Rattle.std.proofs.Common.{◌≡◌, ◌≢◌, ℕ, zero, suc, ◌+◌, ◌<◌, ◌≤◌, ◌⊎◌, Bool, true, false, ◌==◌, List, ◌++◌, length, Option, Some, None, refl, sym, ap, ◌∙◌, subst, inl, inr, arith}
use Rattle.std.specs.Prelude.{Contains, IsTrue, not, map, take, filter, slice_index_or, option_to_list}
use Rattle.std.specs.List.{range_with_len}
use Rattle.std.proofs.lemmas.Bool.{false≢true, eq-eqb, cases_lt}
use Rattle.std.proofs.lemmas.Bool.Decides.{eqb_tells}
use Rattle.std.proofs.lemmas.List.{get_or-take, length-append}
use Rattle.std.proofs.lemmas.List.Filters.{length-filter_both}
use Rattle.std.proofs.lemmas.List.FromFn.{length-range_with_len}
use Rattle.rv32_decode.specs.declared.Instr.{Instr}
use Rattle.rv32_program.specs.Program.{Program}
use Rattle.rv32_program.specs.Liveness.{IsDeadAt}
use Rattle.templates.specs.declared.plans.Scratch.{Scratch}
use Rattle.templates.specs.declared.plans.Scratches.{Scratches}
use Rattle.templates.specs.declared.plans.PlanEntry.{PlanEntry}
use Rattle.templates.specs.Runs.{code_from, reach_at, IsRun, IsInRun, IsRunScratch, HasRunScratches}
use Rattle.templates.specs.Plans.{closes_loop_at, no_scratch, AscendsFrom, StartsNoRun, StartsRun, RunsApart, IsAdmissible}
use Rattle.templates.specs.WholePlan.{unspilled, spilled, in_order, scratches_of, run_candidates, IsRunChoice, IsLongestRun, IsInEarlierRun, IsRunEntry, HasEntries, HasRuns, IsPlanOf}
use Rattle.check_plan.proofs.ListLemmas.{passed, was_there, range_within, same_test, agree, once}
use Rattle.check_plan.proofs.OrderLemmas.{IsGood, order_length, each_good, order_apart, rises_filter, rises_range}
use Rattle.check_plan.proofs.ChoiceLemmas.{serves}
use Rattle.check_plan.proofs.OneLemmas.{one_entry, one_there, has_address, has_entry, same_plan}

-- ---- the first word of a run

few_from : (code : ℕ → Option Instr) (a n : ℕ) → length (code_from code a n) ≤ n
few_from code a zero = omega arith
few_from code a (suc n) =
    let more = few_from code (a + 4) n in
    let sum = length-append (option_to_list (code a)) (code_from code (a + 4) n) in
    let one = at_most_one (code a) in
    omega (arith, more, sum, one)
  where
    at_most_one : (o : Option Instr) → length (option_to_list o) ≤ 1
    at_most_one None = omega arith
    at_most_one (Some i) = omega arith

-- a code word stands where so many follow
first_word : (code : ℕ → Option Instr) (a n : ℕ) → n ≢ 0 → length (code_from code a n) ≡ n
    → (i : Instr) × (code a ≡ Some i)
first_word code a zero some coded = absurd (some refl)
first_word code a (suc n) some coded = go (code a) refl coded
  where
    go : (o : Option Instr) → code a ≡ o
        → length (option_to_list o ++ code_from code (a + 4) n) ≡ suc n
        → (i : Instr) × (code a ≡ Some i)
    go (Some i) is long = (i, is)
    go None is long = absurd (let few = few_from code (a + 4) n in omega (arith, few, long))

begins_at : (code : ℕ → Option Instr) (a n : ℕ) → IsRun code a n → (i : Instr) × (code a ≡ Some i)
begins_at code a n h = first_word code a n (let two = h.some in λ z. omega (arith, two, z)) h.coded

-- ---- there is one choice

one_run_choice : (code : ℕ → Option Instr) (a base : ℕ) (i : Instr) (x y : Scratches) → code a ≡ Some i
    → IsRunChoice code a base x → IsRunChoice code a base y → x ≡ y
one_run_choice code a base i x y at h g =
    let rs = run_candidates base in
    let tests : (r : ℕ) → Contains rs r → h.dead r ≡ g.dead r =
    λ r c. same_test (h.dead r) (g.dead r)
    (λ t. (g.dead_is r i c at).1 ((h.dead_is r i c at).0 t))
    (λ t. (h.dead_is r i c at).1 ((g.dead_is r i c at).0 t)) in
    let dead = agree h.dead g.dead rs tests in
    let other =
    agree (λ r. not (h.dead r)) (λ r. not (g.dead r)) rs (λ r c. ap not (tests r c)) in
    let order : in_order h.dead rs ≡ in_order g.dead rs =
    ap (λ xs. map unspilled xs ++ map spilled (filter (λ r. not (h.dead r)) rs)) dead
    ∙ ap (λ xs. map unspilled (filter g.dead rs) ++ map spilled xs) other in
    h.chosen ∙ ap (λ xs. scratches_of (take 3 xs)) order ∙ sym g.chosen

at_most : (code : ℕ → Option Instr) (a m n : ℕ) → IsLongestRun code a m → IsLongestRun code a n → m ≤ n
at_most code a zero n h g = omega arith
at_most code a (suc m) n h g = g.longest (suc m) (h.run (λ z. omega (arith, z)))

one_run : (code : ℕ → Option Instr) (a m n : ℕ) → IsLongestRun code a m → IsLongestRun code a n → m ≡ n
one_run code a m n h g =
    let low = at_most code a m n h g in
    let high = at_most code a n m g h in
    omega (arith, low, high)

-- a run that starts is a run
starts : (code : ℕ → Option Instr) (plan : List PlanEntry) (e : PlanEntry) → IsRunEntry code plan e
    → e.run ≢ 0 → IsRun code e.address e.run
starts code plan e h some = (h.longest (λ inside. some (h.later inside))).run some

same_run : (code : ℕ → Option Instr) (p q : List PlanEntry) (e f : PlanEntry) → IsRunEntry code p e
    → IsRunEntry code q f → e.address ≡ f.address
    → (IsInEarlierRun p e.address → IsInEarlierRun q f.address)
    → (IsInEarlierRun q f.address → IsInEarlierRun p e.address) → e.run ≡ f.run
same_run code p q e f h g same to from = elim (eqb_tells e.run f.run) [
  | inl is ↦ is.1
  | inr other ↦
      let no_e : IsInEarlierRun p e.address → ⊥ =
      λ inside. other.1 (h.later inside ∙ sym (g.later (to inside))) in
      let no_f : IsInEarlierRun q f.address → ⊥ =
      λ inside. other.1 (h.later (from inside) ∙ sym (g.later inside)) in
      absurd (other.1 (one_run code f.address e.run f.run
      (subst (λ a. IsLongestRun code a e.run) same (h.longest no_e)) (g.longest no_f)))
]

same_batch : (code : ℕ → Option Instr) (p q : List PlanEntry) (e f : PlanEntry) → IsRunEntry code p e
    → IsRunEntry code q f → e.address ≡ f.address → e.run ≡ f.run → e.batch ≡ f.batch
same_batch code p q e f h g same run = go f.run refl
  where
    go : (n : ℕ) → f.run ≡ n → e.batch ≡ f.batch
    go zero is = h.none (run ∙ is) ∙ sym (g.none is)
    go (suc n) is =
        let some : f.run ≢ 0 = λ z. omega (arith, is, z) in
        let first = begins_at code f.address f.run (starts code q f g some) in
        let here = subst (λ a. IsRunChoice code a (reach_at code a e.run).base e.batch) same
        (h.scratches (λ z. some (sym run ∙ z))) in
        one_run_choice code f.address (reach_at code f.address f.run).base first.0 e.batch f.batch
        first.1
        (subst (λ m. IsRunChoice code f.address (reach_at code f.address m).base e.batch) run here)
        (g.scratches some)

-- an address in an earlier run of one plan is so in another that has that run
moved : (p q : List PlanEntry) (a b : ℕ) → a ≡ b
    → ((e : PlanEntry) → e.address < a → Contains p e → Contains q e)
    → IsInEarlierRun p a → IsInEarlierRun q b
moved p q a b same there h = record {
  entry = h.entry;
  member = there h.entry h.earlier h.member;
  earlier = subst (λ c. h.entry.address < c) same h.earlier;
  inside = subst (IsInRun h.entry) same h.inside;
}

-- entries up to an address are the same
step : (code : ℕ → Option Instr) (polling : ℕ → Bool) (p q : List PlanEntry) (n : ℕ)
    → HasEntries code polling p → HasEntries code polling q → HasRuns true code p
    → HasRuns true code q → ((e : PlanEntry) → e.address < n → Contains p e → Contains q e)
    → ((e : PlanEntry) → e.address < n → Contains q e → Contains p e)
    → (e : PlanEntry) → e.address < suc n → Contains p e → Contains q e
step code polling p q n hp hq rp rq to from e lt c =
    let found = has_entry q e.address
    (hq.places.complete e.address (hp.places.sound e.address (has_address p e c))) in
    let f = found.0 in
    let same : e.address ≡ f.address = sym found.2 in
    let run : e.run ≡ f.run =
    same_run code p q e f (rp e c) (rq f found.1) same
    (moved p q e.address f.address same (λ g low. to g (omega (arith, low, lt))))
    (moved q p f.address e.address found.2 (λ g low. from g (omega (arith, low, lt, same)))) in
    let batch = same_batch code p q e f (rp e c) (rq f found.1) same run in
    let whole : e ≡ f =
    one_entry code polling e f (hp.each e c) (hq.each f found.1) same run batch in
    subst (Contains q) (sym whole) found.1

both : (code : ℕ → Option Instr) (polling : ℕ → Bool) (p q : List PlanEntry)
    → HasEntries code polling p → HasEntries code polling q → HasRuns true code p
    → HasRuns true code q → (n : ℕ)
    → ((e : PlanEntry) → e.address < n → Contains p e → Contains q e)
    × ((e : PlanEntry) → e.address < n → Contains q e → Contains p e)
both code polling p q hp hq rp rq zero =
    (λ e lt c. absurd (omega (arith, lt)), λ e lt c. absurd (omega (arith, lt)))
both code polling p q hp hq rp rq (suc n) =
    let h = both code polling p q hp hq rp rq n in (
      step code polling p q n hp hq rp rq h.0 h.1,
      step code polling q p n hq hp rq rp h.1 h.0,
    )

no_runs : (e f : PlanEntry) → StartsNoRun e → StartsNoRun f → (e.run ≡ f.run) × (e.batch ≡ f.batch)
no_runs e f h g = (h.run ∙ sym g.run, h.batch ∙ sym g.batch)

-- code has one plan, with batches and without
pub one_plan : (batches : Bool) (code : ℕ → Option Instr) (p q : List PlanEntry)
    → IsPlanOf batches code p → IsPlanOf batches code q → p ≡ q
one_plan false code p q h g =
    let polling : ℕ → Bool = λ a. closes_loop_at a (code a) in
    same_plan code polling p q h.entries g.entries (λ e f ce cf same.
    let runs = no_runs e f (h.runs e ce) (g.runs f cf) in
    one_entry code polling e f (h.entries.each e ce) (g.entries.each f cf) same runs.0 runs.1)
one_plan true code p q h g =
    let polling : ℕ → Bool = λ a. closes_loop_at a (code a) in
    same_plan code polling p q h.entries g.entries (λ e f ce cf same.
    let there = (both code polling p q h.entries g.entries h.runs g.runs (suc e.address)).0
    e (omega arith) ce in
    one_there 0 q e f g.entries.ascends there cf same)

-- ---- what is chosen may be taken

many : (base : ℕ) → 30 ≤ length (run_candidates base)
many base =
    let whole = length-filter_both (λ r. r == base) (λ r. not (r == base)) (λ r. refl)
    (range_with_len 1 31) in
    let all = length-range_with_len 1 31 in
    let one = once 1 31 base in
    omega (arith, whole, all, one)

taken : (code : ℕ → Option Instr) (a base : ℕ) (dead : ℕ → Bool) (x : Scratch)
    → ((r : ℕ) (i : Instr) → Contains (run_candidates base) r → code a ≡ Some i → IsTrue (dead r)
    → IsDeadAt code r a i) → IsGood dead (run_candidates base) x → IsRunScratch code a base x
taken code a base dead x tells h =
    let r = x.register in
    let bounds = range_within 1 31 r
    (was_there (λ q. not (q == base)) (range_with_len 1 31) r h.0) in
    let apart = passed (λ q. not (q == base)) (range_with_len 1 31) r h.0 in
    record {
      nonzero = let low = bounds.0 in λ e. omega (arith, low, e);
      small = let high = bounds.1 in omega (arith, high);
      other = λ e. false≢true (ap not (sym (eq-eqb r base e)) ∙ apart);
      dead = λ e i at. tells r i h.0 at (h.1 e);
    }

run_scratches : (code : ℕ → Option Instr) (a base : ℕ) (x : Scratches) → IsRunChoice code a base x
    → HasRunScratches code a base x
run_scratches code a base x h = subst (HasRunScratches code a base) (sym h.chosen) (record {
  s = may 0 (omega arith);
  t = may 1 (omega arith);
  u = may 2 (omega arith);
  s_t = differ 0 1 (omega arith) (omega arith);
  s_u = differ 0 2 (omega arith) (omega arith);
  t_u = differ 1 2 (omega arith) (omega arith);
})
  where
    long : 30 ≤ length (in_order h.dead (run_candidates base))
    long =
        let e = order_length h.dead (run_candidates base) in
        let m = many base in omega (arith, e, m)

    at : (k : ℕ) → k < 3
        → slice_index_or (take 3 (in_order h.dead (run_candidates base))) k no_scratch
        ≡ slice_index_or (in_order h.dead (run_candidates base)) k no_scratch
    at k lt = get_or-take 3 (in_order h.dead (run_candidates base)) k no_scratch lt

    may : (k : ℕ) → k < 3 → IsRunScratch code a base
        (slice_index_or (take 3 (in_order h.dead (run_candidates base))) k no_scratch)
    may k lt =
        let m = long in
        subst (IsRunScratch code a base) (sym (at k lt))
        (taken code a base h.dead
        (slice_index_or (in_order h.dead (run_candidates base)) k no_scratch)
        (λ r i c is t. (h.dead_is r i c is).0 t)
        (each_good h.dead (run_candidates base) k (omega (arith, lt, m))))

    differ : (j k : ℕ) → j < k → k < 3
        → (slice_index_or (take 3 (in_order h.dead (run_candidates base))) j no_scratch).register
        ≢ (slice_index_or (take 3 (in_order h.dead (run_candidates base))) k no_scratch).register
    differ j k lt le = λ e.
        let m = long in
        order_apart h.dead (run_candidates base)
        (rises_filter (λ r. not (r == base)) 0 (range_with_len 1 31) (rises_range 0 1 31 (omega arith)))
        j k lt (omega (arith, le, m))
        (sym (ap (λ y. y.register) (at j (omega (arith, lt, le)))) ∙ e ∙ ap (λ y. y.register) (at k le))

-- ---- the plan is admissible

serves_run : (code : ℕ → Option Instr) (plan : List PlanEntry) (e : PlanEntry)
    → IsRunEntry code plan e → StartsNoRun e ⊎ StartsRun code e
serves_run code plan e h = elim (eqb_tells e.run 0) [
  | inl none ↦ inl (record { run = none.1; batch = h.none none.1 })
  | inr some ↦ inr (record {
    run = starts code plan e h some.1;
    batch =
        run_scratches code e.address (reach_at code e.address e.run).base e.batch
        (h.scratches some.1);
  })
]

run_at : (batches : Bool) (code : ℕ → Option Instr) (plan : List PlanEntry) (e : PlanEntry)
    → HasRuns batches code plan → Contains plan e → StartsNoRun e ⊎ StartsRun code e
run_at false code plan e runs c = inl (runs e c)
run_at true code plan e runs c = serves_run code plan e (runs e c)

-- an address of two runs is in the later one alone
later_alone : (code : ℕ → Option Instr) (plan : List PlanEntry) (e f : PlanEntry) (a : ℕ)
    → IsRunEntry code plan f → Contains plan e → e.address < f.address → IsInRun e a → IsInRun f a → ⊥
later_alone code plan e f a h there lt he hf =
    let from = hf.from in
    let below = hf.below in
    let inside = he.below in
    let none : f.run ≡ 0 = h.later (record {
      entry = e;
      member = there;
      earlier = lt;
      inside = record { from = omega (arith, lt); below = omega (arith, from, inside) };
    }) in
    omega (arith, none, from, below)

no_run : (e : PlanEntry) (a : ℕ) → StartsNoRun e → IsInRun e a → ⊥
no_run e a h he =
    let none = h.run in
    let from = he.from in
    let below = he.below in
    omega (arith, none, from, below)

apart : (batches : Bool) (code : ℕ → Option Instr) (plan : List PlanEntry) → AscendsFrom 0 plan
    → HasRuns batches code plan → RunsApart plan
apart false code plan up runs e f a ce cf he hf = absurd (no_run e a (runs e ce) he)
apart true code plan up runs e f a ce cf he hf = elim (cases_lt e.address f.address) [
  | inl lt ↦ absurd (later_alone code plan e f a (runs f cf) ce lt he hf)
  | inr le ↦ elim (cases_lt f.address e.address) [
    | inl lt ↦ absurd (later_alone code plan f e a (runs e ce) cf lt hf he)
    | inr ge ↦ one_there 0 plan e f up ce cf (omega (arith, le, ge))
  ]
]

-- the plan of a program is admissible
pub admissible : (batches : Bool) (p : Program) (plan : List PlanEntry) → IsPlanOf batches p.code plan
    → IsAdmissible p plan
admissible batches p plan h = record {
  ascends = h.entries.ascends;
  complete = h.entries.places.complete;
  sound = h.entries.places.sound;
  serves = λ e c. serves p.code e (h.entries.each e c) (run_at batches p.code plan e h.runs c);
  apart = apart batches p.code plan h.entries.ascends h.runs;
}
