-- Entries that are changed one after another, and the plan that they make.
use Rattle.std.proofs.Common.{◌≡◌, ℕ, zero, suc, ◌+◌, ◌<◌, ◌≤◌, false, List, [], ◌∷◌, length, Option, Some, refl, sym, ap, ◌∙◌, subst, arith}
use Rattle.std.specs.Prelude.{Contains, map, slice_get, slice_set, slice_index_or}
use Rattle.rv32_decode.specs.declared.Instr.{Instr}
use Rattle.templates.specs.declared.plans.PlanEntry.{PlanEntry}
use Rattle.templates.specs.Places.{HasPlaces}
use Rattle.templates.specs.Plans.{AscendsFrom, addresses, closes_loop_at, StartsNoRun}
use Rattle.templates.specs.WholePlan.{IsEntry, IsCheckPlan, IsPlanOf}
use Rattle.poll_plan.specs.Polls.{with_polls}

-- the first k are changed
abbrev pub map_first : {X : Type 0} → (X → X) → ℕ → List X → List X
map_first f zero xs = xs
map_first f (suc k) [] = []
map_first f (suc k) (x ∷ xs) = f x ∷ map_first f k xs

length_first : {X : Type 0} (f : X → X) (k : ℕ) (xs : List X) → length (map_first f k xs) ≡ length xs
length_first f zero xs = refl
length_first f (suc k) [] = refl
length_first f (suc k) (x ∷ xs) = ap suc (length_first f k xs)

pub within : {X : Type 0} (f : X → X) (k : ℕ) (old now : List X) (end : ℕ) → now ≡ map_first f k old → end ≡ length old → k < end → k < length now
within f k old now end is len lt = let same = ap (λ xs. length xs) is ∙ length_first f k old in omega (arith, same, len, lt)

all_of : {X : Type 0} (f : X → X) (k : ℕ) (xs : List X) → length xs ≤ k → map_first f k xs ≡ map f xs
all_of f zero [] le = refl
all_of f zero (x ∷ xs) le = absurd (omega (arith, le))
all_of f (suc k) [] le = refl
all_of f (suc k) (x ∷ xs) le = ap (λ ys. f x ∷ ys) (all_of f k xs (omega (arith, le)))

-- where all are changed
pub all_first : {X : Type 0} (f : X → X) (k : ℕ) (old now : List X) (end : ℕ) → now ≡ map_first f k old → end ≡ length old → end ≤ k → now ≡ map f old
all_first f k old now end is len le = is ∙ all_of f k old (omega (arith, len, le))

set_first : {X : Type 0} (f : X → X) (k : ℕ) (xs : List X) (x : X) → slice_get (map_first f k xs) k ≡ Some x → slice_set (map_first f k xs) k (f x) ≡ map_first f (suc k) xs
set_first f zero [] x is = refl
set_first f zero (y ∷ ys) x is = let same : y ≡ x = cc in ap (λ z. f z ∷ ys) (sym same)
set_first f (suc k) [] x is = refl
set_first f (suc k) (y ∷ ys) x is = ap (λ zs. f y ∷ zs) (set_first f k ys x is)

-- the next one is changed
pub next_first : {X : Type 0} (f : X → X) (k : ℕ) (old now new : List X) (x y : X) → now ≡ map_first f k old → slice_get now k ≡ Some x → y ≡ f x → new ≡ slice_set now k y → new ≡ map_first f (k + 1) old
next_first f k old now new x y is at changed step =
    let one_more : suc k ≡ k + 1 = omega arith in
    step ∙ ap (λ z. slice_set now k z) changed ∙ ap (λ xs. slice_set xs k (f x)) is
    ∙ set_first f k old x (sym (ap (λ xs. slice_get xs k) is) ∙ at)
    ∙ ap (λ n. map_first f n old) one_more

-- an element of a list that was mapped
mapped : {X Y : Type 0} (f : X → Y) (xs : List X) (y : Y) → Contains (map f xs) y → (x : X) × Contains xs x × (f x ≡ y)
mapped f [] y h = absurd (let lt = h.1 in omega (arith, lt))
mapped {X} {Y} f (x ∷ xs) y h = go (mapped f xs y) h.0 h.1 h.2
  where
    go : (Contains (map f xs) y → (z : X) × Contains xs z × (f z ≡ y)) → (k : ℕ) → k < length (map f (x ∷ xs)) → slice_index_or (map f (x ∷ xs)) k y ≡ y → (z : X) × Contains (x ∷ xs) z × (f z ≡ y)
    go more zero lt is = (x, (0, omega arith, refl), is)
    go more (suc k) lt is =
        let r = more (k, omega (arith, lt), is) in
        let c = r.1 in
        let low = c.1 in
        (r.0, (suc c.0, omega (arith, low), c.2), r.2)

same_addresses : (code : ℕ → Option Instr) (plan : List PlanEntry) → addresses (map (with_polls code) plan) ≡ addresses plan
same_addresses code [] = refl
same_addresses code (e ∷ es) = ap (λ xs. e.address ∷ xs) (same_addresses code es)

ascends : (code : ℕ → Option Instr) (low : ℕ) (plan : List PlanEntry) → AscendsFrom low plan → AscendsFrom low (map (with_polls code) plan)
ascends code low [] h = h
ascends code low (e ∷ es) h = (h.0, ascends code (e.address + 1) es h.1)

-- an entry with its poll
entry : (code : ℕ → Option Instr) (e : PlanEntry) → IsEntry code false e → IsEntry code (closes_loop_at e.address (code e.address)) (with_polls code e)
entry code e h = record { template = h.template; single = h.single; polls = refl }

no_run : (code : ℕ → Option Instr) (e : PlanEntry) → StartsNoRun e → StartsNoRun (with_polls code e)
no_run code e h = record { run = h.run; batch = h.batch }

-- the plan of the checks, with polls, is the plan
pub whole : (code : ℕ → Option Instr) (old new : List PlanEntry) → new ≡ map (with_polls code) old → IsCheckPlan code old → IsPlanOf false code new
whole code old new is h = subst (IsPlanOf false code) (sym is) (record {
  entries = record {
    ascends = ascends code 0 old h.entries.ascends;
    places = subst (HasPlaces code) (sym (same_addresses code old)) h.entries.places;
    each = λ e c.
        let r = mapped (with_polls code) old e c in
        subst (λ x. IsEntry code (closes_loop_at x.address (code x.address)) x) r.2 (entry code r.0 (h.entries.each r.0 r.1));
  };
  runs = λ e c. let r = mapped (with_polls code) old e c in subst StartsNoRun r.2 (no_run code r.0 (h.runs r.0 r.1));
})
