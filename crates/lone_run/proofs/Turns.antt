-- One processor, stepped to its end.
use Rattle.std.proofs.Common.{◌≡◌, ℕ, zero, suc, ◌+◌, ◌<◌, ◌≤◌, ◌&&◌, not, Bool, true, false, List, [], ◌∷◌, length, map, replicate, Option, Some, None, refl, sym, ap, ◌∙◌, subst, arith, inl, inr}
use Rattle.std.specs.Prelude.{is_some, IsSome, nat_lt}
use Rattle.std.proofs.lemmas.Bool.{cases_lt, lt-ltb, le-ltb}
use Rattle.block_layout.specs.Layout.{Shape}
use Rattle.rv32_program.specs.Program.{Program}
use Rattle.rv32_program.specs.declared.End.{End}
use Rattle.rv32_program.specs.declared.Exit.{Exit}
use Rattle.rv32_step.specs.OneMemory.{Original, State, Step, opening, run, step}
use Rattle.random_order.specs.Orders.{following, choice}
use Rattle.one_memory.specs.ByOrder.{one_more, goes_on, live, FollowsOrder, pick_among, end_by}
use Rattle.one_memory.specs.Turns.{AreTurns, after_steps}
use Rattle.lone_run.specs.Lone.{IsLoneRun, alone}

-- an original of one processor
pub is_alone : (o : Original) (program : Program) (layout : Shape) → o.program ≡ program
    → o.layout ≡ layout → o.nodes ≡ 1 → o ≡ alone program layout
is_alone o program layout p l n =
    ap (λ x. record o { program = x }) p
    ∙ ap (λ x. record o { program = program; layout = x }) l
    ∙ ap (λ x. record o { program = program; layout = layout; nodes = x }) n

-- the first step of several
after_first : (o : Original) (n : ℕ) (s : State)
    → after_steps o 0 (suc n) s ≡ after_steps o 0 n (step o s 0).state
after_first o zero s = refl
after_first o (suc n) s = ap (λ t. (step o t 0).state) (after_first o n s)

abbrev picks : ℕ → List ℕ
picks n = replicate {A = ℕ} n 0

run_is : (o : Original) (n : ℕ) (s : State)
    → after_steps o 0 n s ≡ run o s (map (λ q. Step q) (picks n))
run_is o zero s = refl
run_is o (suc n) s = after_first o n s ∙ run_is o n (step o s 0).state

-- what is known of the processor before its last n steps
record IsLone (o : Original) (budget n : ℕ) (steps : ℕ → ℕ) (s : State) : Type 0 where
  pub runs : (k : ℕ) → k < n → ((after_steps o 0 k s).processors 0).exit ≡ None
  pub fits : steps 0 + n ≤ budget
  pub ends : steps 0 + n < budget → IsSome ((after_steps o 0 n s).processors 0).exit

stays : (e : Option Exit) (b : Bool) → e ≡ None → b ≡ true → (not (is_some e) && b) ≡ true
stays e b none fits = rw (none, fits) refl

some_exit : (e : Option Exit) (b : Bool) → IsSome e → (not (is_some e) && b) ≡ false
some_exit None b some = absurd (cc)
some_exit (Some x) b some = refl

and_false : (b : Bool) → (b && false) ≡ false
and_false true = refl
and_false false = refl

at_end : (o : Original) (budget : ℕ) (steps : ℕ → ℕ) (s : State) → IsLone o budget zero steps s
    → goes_on budget steps s 0 ≡ false
at_end o budget steps s h = elim (cases_lt (steps 0 + 0) budget) [
  | inl lt ↦ some_exit (s.processors 0).exit _ (h.ends lt)
  | inr ge ↦
      let full : nat_lt (steps 0) budget ≡ false = le-ltb (steps 0) budget (omega (arith, ge)) in
      rw full (and_false (not (is_some (s.processors 0).exit)))
]

goes_before : (o : Original) (budget n : ℕ) (steps : ℕ → ℕ) (s : State)
    → IsLone o budget (suc n) steps s → goes_on budget steps s 0 ≡ true
goes_before o budget n steps s h =
    let fits = h.fits in
    stays (s.processors 0).exit (nat_lt (steps 0) budget) (h.runs zero (omega arith))
    (lt-ltb (steps 0) budget (omega (arith, fits)))

lone_next : (o : Original) (budget n : ℕ) (steps : ℕ → ℕ) (s : State)
    → IsLone o budget (suc n) steps s → IsLone o budget n (one_more steps 0) (step o s 0).state
lone_next o budget n steps s h =
    let fits = h.fits in
    record {
      runs = λ k lt. ap (λ (t : State). (t.processors 0).exit) (sym (after_first o k s))
          ∙ h.runs (suc k) (omega (arith, lt));
      fits = omega (arith, fits);
      ends = λ lt. subst (λ (t : State). IsSome (t.processors 0).exit) (after_first o n s)
          (h.ends (omega (arith, lt)));
    }

-- those of one processor that go on
none_live : (program : Program) (layout : Shape) (budget : ℕ) (steps : ℕ → ℕ) (s : State)
    → goes_on budget steps s 0 ≡ false → live (alone program layout) budget steps s ≡ []
none_live program layout budget steps s e = rw e refl

one_live : (program : Program) (layout : Shape) (budget : ℕ) (steps : ℕ → ℕ) (s : State)
    → goes_on budget steps s 0 ≡ true → live (alone program layout) budget steps s ≡ 0 ∷ []
one_live program layout budget steps s e = rw e refl

one_choice : (x : ℕ) → 0 ≡ pick_among (0 ∷ []) x
one_choice x = let z : choice 1 x ≡ 0 = omega arith in rw z refl

-- it is picked each time, whichever number the order has
follows_alone : (program : Program) (layout : Shape) (budget n number : ℕ) (steps : ℕ → ℕ)
    (s : State) → IsLone (alone program layout) budget n steps s
    → FollowsOrder (alone program layout) budget number steps s (picks n)
follows_alone program layout budget zero number steps s h =
    none_live program layout budget steps s (at_end (alone program layout) budget steps s h)
follows_alone program layout budget (suc n) number steps s h =
    let o = alone program layout in
    let one = one_live program layout budget steps s (goes_before o budget n steps s h) in (
      subst (λ (xs : List ℕ). 0 < length xs) (sym one) (omega arith),
      one_choice (following number)
          ∙ sym (ap (λ (xs : List ℕ). pick_among xs (following number)) one),
      follows_alone program layout budget n (following number) (one_more steps 0)
          (step o s 0).state (lone_next o budget n steps s h),
    )

length_of : (n : ℕ) → length (picks n) ≡ n
length_of zero = refl
length_of (suc n) = ap (λ k. suc k) (length_of n)

-- it was stepped until it ended, or to the budget
pub run_whole : (program : Program) (layout : Shape) (budget n : ℕ) (s : State) (e : End)
    → AreTurns (alone program layout) 0 n (opening (alone program layout)) s → n ≤ budget
    → (n < budget → IsSome (s.processors 0).exit)
    → e ≡ end_by budget (s.processors 0).exit → IsLoneRun (alone program layout) budget n e
run_whole program layout budget n s e turns fits ends is =
    let o = alone program layout in
    let first = opening o in
    record {
      picks = picks n;
      ordered = λ number. follows_alone program layout budget n number (λ p. 0) first (record {
        runs = turns.runs;
        fits = omega (arith, fits);
        ends = λ lt. subst (λ (t : State). IsSome (t.processors 0).exit) turns.state
            (ends (omega (arith, lt)));
      });
      steps_are = sym (length_of n);
      end_is = ap (λ (t : State). end_by budget (t.processors 0).exit ∷ [])
          (sym (run_is o n first) ∙ sym turns.state) ∙ ap (λ x. x ∷ []) (sym is);
    }
