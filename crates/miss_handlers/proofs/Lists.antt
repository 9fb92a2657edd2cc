-- A list of waits, seen as a function of blocks.
use Rattle.std.proofs.Common.{◌≡◌, ℕ, zero, suc, ◌<◌, true, false, eqb, List, [], ◌∷◌, ◌++◌, length, get_or, refl, sym, ap, ◌∙◌, inl, inr, Option, Some, None, arith}
use Rattle.std.proofs.Math.Path.{fun_ext}
use Rattle.std.proofs.lemmas.Bool.Decides.{eqb_tells, nat_tests}
use Rattle.block_layout.specs.Layout.{Shape}
use Rattle.block_layout.specs.Update.{changed}
use Rattle.home_directory.specs.declared.wait.Wait.{Wait}
use Rattle.miss_handlers.specs.declared.Waiting.{Waiting}
use Rattle.miss_handlers.specs.Waits.{wait_in, AreWaits, IsWaitFor}
use Rattle.std.specs.Prelude.{remove}

module _ {A : Type 0} where
  pub changed_same : (f : ℕ → A) (b : ℕ) → changed f b (f b) ≡ f
  changed_same f b = fun_ext (λ x. elim (eqb_tells x b) [ inl q ↦ rw q.0 (ap f (sym q.1)) | inr q ↦ rw q.0 refl ])

  pub changed_twice : (f : ℕ → A) (b : ℕ) (x y : A) → changed (changed f b x) b y ≡ changed f b y
  changed_twice f b x y = fun_ext (λ k. elim (eqb_tells k b) [ inl q ↦ rw q.0 refl | inr q ↦ rw q.0 refl ])

  pub changed_back : (f : ℕ → A) (b : ℕ) (x y : A) → y ≡ f b → changed (changed f b x) b y ≡ f
  changed_back f b x y is = changed_twice f b x y ∙ ap (changed f b) is ∙ changed_same f b

pub add_at : (ws : List Waiting) (w : Waiting) (x : ℕ) → wait_in ws w.block ≡ None → wait_in (ws ++ w ∷ []) x ≡ changed (wait_in ws) w.block (Some w.wait) x
add_at [] w x none = refl
add_at (v ∷ ws) w x none = elim (eqb_tells w.block v.block) [
  | inl q ↦ (let h : Some v.wait ≡ None = rw q.0 at none in cc)
  | inr q ↦ (let h : wait_in ws w.block ≡ None = rw q.0 at none in
      elim (eqb_tells x v.block) [
        | inl p ↦ (let e : eqb x w.block ≡ false = grind (arith, nat_tests) in rw (p.0, e) refl)
        | inr p ↦ rw p.0 (add_at ws w x h)
      ])
]

pub add_is : (ws : List Waiting) (w : Waiting) → wait_in ws w.block ≡ None → wait_in (ws ++ w ∷ []) ≡ changed (wait_in ws) w.block (Some w.wait)
add_is ws w none = fun_ext (λ x. add_at ws w x none)

pub add_good : (l : Shape) (ws : List Waiting) (w : Waiting) → AreWaits l ws → IsWaitFor l w.block w.wait → wait_in ws w.block ≡ None → AreWaits l (ws ++ w ∷ [])
add_good l [] w all good none = (good, refl, tt)
add_good l (v ∷ ws) w all good none = elim (eqb_tells w.block v.block) [
  | inl q ↦ (let h : Some v.wait ≡ None = rw q.0 at none in cc)
  | inr q ↦ (let h : wait_in ws w.block ≡ None = rw q.0 at none in
      let e : eqb v.block w.block ≡ false = grind (arith, nat_tests) in
      (all.0, add_at ws w v.block h ∙ (rw e all.1), add_good l ws w all.2 good h))
]

found_at : (ws : List Waiting) (k : ℕ) (d : Waiting) → k < length ws → wait_in ws (get_or ws k d).block ≡ None → ⊥
found_at [] k d within none = omega arith
found_at (v ∷ ws) zero d within none = (let e : eqb v.block v.block ≡ true = grind (arith, nat_tests) in let h : Some v.wait ≡ None = rw e at none in cc)
found_at (v ∷ ws) (suc k) d within none = elim (eqb_tells (get_or ws k d).block v.block) [
  | inl q ↦ (let h : Some v.wait ≡ None = rw q.0 at none in cc)
  | inr q ↦ found_at ws k d (omega arith) (rw q.0 at none)
]

pub remove_at : (l : Shape) (ws : List Waiting) (k b x : ℕ) (d : Waiting) → AreWaits l ws → k < length ws → (get_or ws k d).block ≡ b → wait_in (remove ws k) x ≡ changed (wait_in ws) b None x
remove_at l [] k b x d all within at = absurd (omega arith)
remove_at l (v ∷ ws) zero b x d all within at = elim (eqb_tells x b) [
  | inl q ↦ (let e : x ≡ v.block = q.1 ∙ sym at in rw q.0 (ap (wait_in ws) e ∙ all.1))
  | inr q ↦ (let e : eqb x v.block ≡ false = grind (arith, nat_tests) in rw (q.0, e) refl)
]
remove_at l (v ∷ ws) (suc k) b x d all within at = elim (eqb_tells x v.block) [
  | inl p ↦ rw p.0 (elim (eqb_tells x b) [
    | inl q ↦ absurd (found_at ws k d (omega arith) (ap (wait_in ws) (at ∙ sym q.1 ∙ p.1) ∙ all.1))
    | inr q ↦ rw q.0 refl
  ])
  | inr p ↦ rw p.0 (remove_at l ws k b x d all.2 (omega arith) at)
]

none_changed : (f : ℕ → Option Wait) (b y : ℕ) → f y ≡ None → changed f b None y ≡ None
none_changed f b y is = elim (eqb_tells y b) [ inl q ↦ rw q.0 refl | inr q ↦ rw q.0 is ]

pub remove_good : (l : Shape) (ws : List Waiting) (k : ℕ) → AreWaits l ws → k < length ws → AreWaits l (remove ws k)
remove_good l [] k all within = absurd (omega arith)
remove_good l (v ∷ ws) zero all within = all.2
remove_good l (v ∷ ws) (suc k) all within = (all.0, remove_at l ws k (get_or ws k v).block v.block v all.2 (omega arith) refl ∙ none_changed (wait_in ws) (get_or ws k v).block v.block all.1, remove_good l ws k all.2 (omega arith))

pub remove_is : (l : Shape) (ws : List Waiting) (k b : ℕ) (d : Waiting) → AreWaits l ws → k < length ws → (get_or ws k d).block ≡ b → wait_in (remove ws k) ≡ changed (wait_in ws) b None
remove_is l ws k b d all within at = fun_ext (λ x. remove_at l ws k b x d all within at)

pub gone_is : (l : Shape) (ws : List Waiting) (k b : ℕ) (d : Waiting) → AreWaits l ws → k < length ws → (get_or ws k d).block ≡ b → wait_in (remove ws k) b ≡ None
gone_is l ws k b d all within at = remove_at l ws k b b d all within at ∙ (let e : eqb b b ≡ true = grind (arith, nat_tests) in rw e refl)

pub good_at : (l : Shape) (ws : List Waiting) (k : ℕ) (d : Waiting) → AreWaits l ws → k < length ws → IsWaitFor l (get_or ws k d).block (get_or ws k d).wait
good_at l [] k d all within = absurd (omega arith)
good_at l (v ∷ ws) zero d all within = all.0
good_at l (v ∷ ws) (suc k) d all within = good_at l ws k d all.2 (omega arith)
