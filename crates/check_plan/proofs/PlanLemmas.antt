-- Entries of places, and the plan that they make.
use Rattle.std.proofs.Common.{◌≡◌, ◌≢◌, ℕ, suc, ◌+◌, ◌-◌, ◌*◌, ◌^◌, ◌<◌, ◌≤◌, ◌↔◌, false, List, [], ◌∷◌, ◌++◌, length, get_or, Option, Some, refl, sym, ap, ◌∙◌, subst, inl, inr, arith}
use Rattle.std.specs.Prelude.{Contains, not, take, slice_index}
use Rattle.std.specs.List.{range_with_len}
use Rattle.std.specs.List.Sorted.{IsStrictlyIncreasing}
use Rattle.std.proofs.lemmas.Bool.{eqb-true, eq-eqb}
use Rattle.std.proofs.lemmas.List.{map-append, length-map, length-append}
use Rattle.std.proofs.lemmas.List.Elements.{Contains-push_cases}
use Rattle.std.proofs.Math.Seq.{take-suc, take-length}
use Rattle.rv32_decode.specs.Fields.{field, bit}
use Rattle.rv32_decode.specs.Registers.{IsMember}
use Rattle.rv32_decode.specs.declared.Instr.{Instr}
use Rattle.rv32_program.specs.Liveness.{IsDeadAfter}
use Rattle.templates.specs.declared.plans.Template.{Template}
use Rattle.templates.specs.declared.plans.Scratches.{Scratches}
use Rattle.templates.specs.declared.plans.PlanEntry.{PlanEntry}
use Rattle.templates.specs.Places.{HasPlaces}
use Rattle.templates.specs.Plans.{template_of, template_at, scratch_count, AscendsFrom, addresses, StartsNoRun}
use Rattle.templates.specs.WholePlan.{is_own, candidates, in_order, scratches_of, IsChoice, IsSingle, IsEntry, IsCheckPlan}
use Rattle.check_plan.proofs.ListLemmas.{was_there, range_within}

-- the entry of a code word
pub entry_some : (code : ℕ → Option Instr) (a : ℕ) (i : Instr) (dead count : ℕ) (t : Template) (x : Scratches) (e : PlanEntry)
    → code a ≡ Some i → t ≡ template_of i a → count ≡ scratch_count t
    → ((r : ℕ) → r ≢ 0 → r < 32 → (IsMember dead r ↔ IsDeadAfter code r a i))
    → x ≡ scratches_of (take count (in_order (bit dead) (candidates i)))
    → e.address ≡ a → e.template ≡ t → e.single ≡ x → e.polls ≡ false → IsEntry code false e
entry_some code a i dead count t x e at template many members chosen address is_template is_single polls = record {
  template = is_template ∙ template ∙ sym (ap (template_at e.address) here ∙ ap (template_of i) address);
  single = subst (λ o. IsSingle code e.address o e.single) (sym here) (subst (λ b. IsChoice code b i (scratch_count (template_of i b)) e.single) (sym address) choice);
  polls = polls;
}
  where
    here : code e.address ≡ Some i
    here = ap code address ∙ at

    choice : IsChoice code a i (scratch_count (template_of i a)) e.single
    choice = record {
      dead = bit dead;
      dead_is = λ r c.
          let bounds = range_within 1 31 r (was_there (λ q. not (is_own i q)) (range_with_len 1 31) r c) in
          let low = bounds.0 in
          let high = bounds.1 in
          let m = members r (λ z. omega (arith, low, z)) (omega (arith, high)) in
          (λ b. m.0 (eqb-true (field dead r 1) 1 b), λ d. eq-eqb (field dead r 1) 1 (m.1 d));
      chosen = is_single ∙ chosen ∙ ap (λ n. scratches_of (take n (in_order (bit dead) (candidates i)))) (many ∙ ap scratch_count template);
    }

-- the plan so far
pub record IsPlanned (code : ℕ → Option Instr) (places : List ℕ) (k : ℕ) (plan : List PlanEntry) : Type 0 where
  pub so_far : addresses plan ≡ take k places
  pub count : length plan ≡ k
  pub each : (e : PlanEntry) → Contains plan e → IsEntry code false e
  pub runs : (e : PlanEntry) → Contains plan e → StartsNoRun e

pub planned_none : (code : ℕ → Option Instr) (places : List ℕ) (plan : List PlanEntry) → plan ≡ [] → IsPlanned code places 0 plan
planned_none code places plan is = subst (IsPlanned code places 0) (sym is) (record {
  so_far = refl;
  count = refl;
  each = λ e c. absurd (let lt = c.1 in omega (arith, lt));
  runs = λ e c. absurd (let lt = c.1 in omega (arith, lt));
})

pub planned_more : (code : ℕ → Option Instr) (places : List ℕ) (k : ℕ) (old new : List PlanEntry) (e : PlanEntry) → k < length places
    → e.address ≡ get_or places k 0 → IsEntry code false e → StartsNoRun e → new ≡ old ++ e ∷ [] → IsPlanned code places k old → IsPlanned code places (k + 1) new
planned_more code places k old new e lt address entry run is h = subst (IsPlanned code places (k + 1)) (sym is) (record {
  so_far = map-append (λ x. x.address) old (e ∷ [])
      ∙ ap (λ xs. xs ++ e.address ∷ []) h.so_far
      ∙ ap (λ x. take k places ++ x ∷ []) address
      ∙ sym (ap (λ n. take n places) one_more ∙ take-suc places k 0 lt);
  count = let sum = length-append old (e ∷ []) in let count = h.count in omega (arith, sum, count);
  each = λ f c. elim (Contains-push_cases old e f c) [ inl before ↦ h.each f before | inr same ↦ subst (IsEntry code false) same entry ];
  runs = λ f c. elim (Contains-push_cases old e f c) [ inl before ↦ h.runs f before | inr same ↦ subst StartsNoRun same run ];
})
  where
    one_more : k + 1 ≡ suc k
    one_more = omega arith

pub planned_room : (code : ℕ → Option Instr) (places : List ℕ) (k : ℕ) (plan : List PlanEntry) → k < length places → length places ≤ 3 * 2 ^ 30
    → IsPlanned code places k plan → length plan < 2 ^ 32 - 1
planned_room code places k plan lt few h = let count = h.count in omega (arith, lt, few, count)

pub planned_all : (code : ℕ → Option Instr) (places : List ℕ) (k : ℕ) (plan : List PlanEntry) → length places ≤ k → k ≤ length places
    → IsPlanned code places k plan → addresses plan ≡ places
planned_all code places k plan le ge h =
    let e : k ≡ length places = omega (arith, le, ge) in h.so_far ∙ ap (λ n. take n places) e ∙ take-length places

tail_increases : (x : ℕ) (xs : List ℕ) → IsStrictlyIncreasing (x ∷ xs) → IsStrictlyIncreasing xs
tail_increases x xs h k lt = let e : suc k + 1 ≡ suc (k + 1) = omega arith in subst (λ j. slice_index xs k < slice_index (x ∷ xs) j) e (h (suc k) (omega arith))

ascends : (low : ℕ) (plan : List PlanEntry) → (0 < length plan → low ≤ slice_index (addresses plan) 0) → IsStrictlyIncreasing (addresses plan) → AscendsFrom low plan
ascends low [] le h = tt
ascends low (e ∷ es) le h = (
  le (omega arith),
  ascends (e.address + 1) es (λ some. let len = length-map es (λ x. x.address) in let lt : e.address < slice_index (addresses es) 0 = h 0 (omega (arith, len, some)) in omega (arith, lt))
      (tail_increases e.address (addresses es) h),
)

-- the entries of the places are the plan
pub is_plan : (code : ℕ → Option Instr) (places : List ℕ) (plan : List PlanEntry) → IsStrictlyIncreasing places → HasPlaces code places
    → addresses plan ≡ places → ((e : PlanEntry) → Contains plan e → IsEntry code false e) → ((e : PlanEntry) → Contains plan e → StartsNoRun e) → IsCheckPlan code plan
is_plan code places plan up h is each runs = record {
  entries = record {
    ascends = ascends 0 plan (λ some. omega arith) (subst IsStrictlyIncreasing (sym is) up);
    places = subst (HasPlaces code) (sym is) h;
    each = each;
  };
  runs = runs;
}
