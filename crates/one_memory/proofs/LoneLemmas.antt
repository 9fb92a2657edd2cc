-- A processor that goes on alone.
use Rattle.std.proofs.Common.{◌≡◌, ◌≢◌, ℕ, zero, suc, ◌+◌, ◌<◌, ◌≤◌, ◌&&◌, not, Bool, true, false, List, [], ◌∷◌, length, map, replicate, Option, Some, None, refl, sym, ap, ◌∙◌, subst, arith, inl, inr}
use Rattle.std.specs.Prelude.{is_some, IsSome, nat_lt}
use Rattle.std.proofs.lemmas.Bool.{cases_lt, lt-ltb, le-ltb}
use Rattle.std.proofs.lemmas.Bool.Decides.{eqb_tells}
use Rattle.rv32_program.specs.declared.Exit.{Exit}
use Rattle.rv32_step.specs.OneMemory.{Original, State, Step, run, step}
use Rattle.random_order.specs.Orders.{following, choice}
use Rattle.one_memory.specs.ByOrder.{one_more, goes_on, live, FollowsOrder, pick_among}
use Rattle.one_memory.specs.Machine.{state_of, original_of}
use Rattle.one_memory.specs.Turns.{after_steps, AreTurns}
use Rattle.one_memory.specs.declared.by_order.OriginalRun.{OriginalRun}
use Rattle.one_memory.specs.Running.{IsRunning, HasRun, steps_of}
use Rattle.one_memory.proofs.ListLemmas.{filter_none, filter_one, one_from_filter}
use Rattle.one_memory.proofs.OrderLemmas.{others, same_steps, is_live}

-- the first step of several
after_first : (o : Original) (p n : ℕ) (s : State) → after_steps o p (suc n) s ≡ after_steps o p n (step o s p).state
after_first o p zero s = refl
after_first o p (suc n) s = ap (λ t. (step o t p).state) (after_first o p n s)

pub run_is : (o : Original) (p n : ℕ) (s : State) → after_steps o p n s ≡ run o s (map (λ q. Step q) (replicate {A = ℕ} n p))
run_is o p zero s = refl
run_is o p (suc n) s = after_first o p n s ∙ run_is o p n (step o s p).state

-- what is known of processor p before its last n steps
pub record IsLone (o : Original) (budget p n : ℕ) (steps : ℕ → ℕ) (s : State) : Type 0 where
  pub among : p < o.nodes
  pub others : (q : ℕ) → q < o.nodes → q ≢ p → goes_on budget steps s q ≡ false
  pub runs : (k : ℕ) → k < n → ((after_steps o p k s).processors p).exit ≡ None
  pub fits : steps p + n ≤ budget
  pub ends : steps p + n < budget → IsSome ((after_steps o p n s).processors p).exit

some_exit : (e : Option Exit) (b : Bool) → IsSome e → (not (is_some e) && b) ≡ false
some_exit None b some = absurd (cc)
some_exit (Some x) b some = refl

at_end : (o : Original) (budget p : ℕ) (steps : ℕ → ℕ) (s : State) → IsLone o budget p zero steps s → goes_on budget steps s p ≡ false
at_end o budget p steps s h = elim (cases_lt (steps p + 0) budget) [
  | inl lt ↦ some_exit (s.processors p).exit _ (h.ends lt)
  | inr ge ↦
      let full : nat_lt (steps p) budget ≡ false = le-ltb (steps p) budget (omega (arith, ge)) in
      rw full (and_false (not (is_some (s.processors p).exit)))
]
  where
    and_false : (b : Bool) → (b && false) ≡ false
    and_false true = refl
    and_false false = refl

goes_before : (o : Original) (budget p n : ℕ) (steps : ℕ → ℕ) (s : State) → IsLone o budget p (suc n) steps s → goes_on budget steps s p ≡ true
goes_before o budget p n steps s h =
    let runs : (s.processors p).exit ≡ None = h.runs zero (omega arith) in
    let fits = h.fits in
    let more : nat_lt (steps p) budget ≡ true = lt-ltb (steps p) budget (omega (arith, fits)) in
    rw (runs, more) refl

lone_next : (o : Original) (budget p n : ℕ) (steps : ℕ → ℕ) (s : State) → IsLone o budget p (suc n) steps s → IsLone o budget p n (one_more steps p) (step o s p).state
lone_next o budget p n steps s h =
    let more = same_steps steps p in
    let fits = h.fits in
    record {
      among = h.among;
      others = λ q lt ne. others budget o p steps s (one_more steps p) (step o s p).state (record { steps_are = refl; state_is = refl }) q ne ∙ h.others q lt ne;
      runs = λ k lt. ap (λ (t : State). (t.processors p).exit) (sym (after_first o p k s)) ∙ h.runs (suc k) (omega (arith, lt));
      fits = omega (arith, more, fits);
      ends = λ lt. subst (λ (t : State). IsSome (t.processors p).exit) (after_first o p n s) (h.ends (omega (arith, lt, more)));
    }

one_choice : (p x : ℕ) → p ≡ pick_among (p ∷ []) x
one_choice p x = let z : choice 1 x ≡ 0 = omega arith in rw z refl

-- it is picked each time, whichever number the order has
pub follows_alone : (o : Original) (budget p n number : ℕ) (steps : ℕ → ℕ) (s : State) → IsLone o budget p n steps s → FollowsOrder o budget number steps s (replicate {A = ℕ} n p)
follows_alone o budget p zero number steps s h =
    filter_none (goes_on budget steps s) 0 o.nodes (λ q low high. elim (eqb_tells q p) [
      | inl e ↦ ap (goes_on budget steps s) e.1 ∙ at_end o budget p steps s h
      | inr e ↦ h.others q (omega (arith, high)) e.1
    ])
follows_alone o budget p (suc n) number steps s h =
    let one : live o budget steps s ≡ p ∷ [] = filter_one (goes_on budget steps s) 0 o.nodes p (λ q low high ne. h.others q (omega (arith, high)) ne) (goes_before o budget p n steps s h) (omega arith) (let among = h.among in omega (arith, among)) in (
      subst (λ (xs : List ℕ). 0 < length xs) (sym one) (omega arith),
      one_choice p (following number) ∙ sym (ap (λ (xs : List ℕ). pick_among xs (following number)) one),
      follows_alone o budget p n (following number) (one_more steps p) (step o s p).state (lone_next o budget p n steps s h),
    )

-- the one processor of a run that goes on has been stepped to its end
pub alone_to_end : (r : OriginalRun) (p n number : ℕ) (end : State) → IsRunning r → r.live.items ≡ p ∷ [] → AreTurns (original_of r.machine) p n (state_of r.machine) end → steps_of r p + n ≤ r.budget → (steps_of r p + n < r.budget → IsSome (end.processors p).exit) → HasRun r number end
alone_to_end r p n number end running alone turns fits ends =
    let o = original_of r.machine in
    let s = state_of r.machine in
    let one : live o r.budget (steps_of r) s ≡ p ∷ [] = sym running.live ∙ alone in
    let l = is_live o r.budget (steps_of r) s (p ∷ []) 0 p (sym one) (omega arith) refl in
    let lone : IsLone o r.budget p n (steps_of r) s = record {
      among = l.among;
      others = λ q lt ne. one_from_filter (goes_on r.budget (steps_of r) s) 0 o.nodes p q one (omega arith) (omega (arith, lt)) ne;
      runs = turns.runs;
      fits = fits;
      ends = λ lt. subst (λ (t : State). IsSome (t.processors p).exit) turns.state (ends lt);
    } in
    record {
      picks = replicate {A = ℕ} n p;
      ordered = follows_alone o r.budget p n number (steps_of r) s lone;
      end_is = turns.state ∙ run_is o p n s;
    }

-- what is known of the one processor that goes on
pub record IsLoneCounted (r : OriginalRun) (p : ℕ) : Type 0 where
  pub inside : p < length r.steps.items
  pub known : p < (original_of r.machine).nodes
  pub runs : ((state_of r.machine).processors p).exit ≡ None
  pub below : steps_of r p < r.budget

pub lone_counted : (r : OriginalRun) (p : ℕ) → IsRunning r → r.live.items ≡ p ∷ [] → IsLoneCounted r p
lone_counted r p running alone =
    let o = original_of r.machine in
    let one : live o r.budget (steps_of r) (state_of r.machine) ≡ p ∷ [] = sym running.live ∙ alone in
    let l = is_live o r.budget (steps_of r) (state_of r.machine) (p ∷ []) 0 p (sym one) (omega arith) refl in
    let among = l.among in
    let nodes = running.nodes in
    let len = running.steps in
    record { inside = omega (arith, among, nodes, len); known = among; runs = l.runs; below = l.below }
