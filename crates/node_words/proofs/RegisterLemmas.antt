-- Registers after writes.
use Rattle.std.proofs.Common.{◌≡◌, ◌≢◌, ℕ, Bool, true, false, cond, eqb, ltb, ◌&&◌, refl, sym, ap, ◌∙◌, inl, inr, arith}
use Rattle.std.proofs.Math.Path.{fun_ext}
use Rattle.std.proofs.lemmas.Bool.Decides.{eqb_tells, nat_tests}
use Rattle.node_memory.specs.rv32_step.Registers.{reg, put}
use Rattle.node_words.proofs.StepLemmas.{put_zero}

apart : (a b : ℕ) → a ≢ b → eqb a b ≡ false
apart a b h = grind (arith, nat_tests)

pub reg_zero : (f : ℕ → ℕ) → reg f 0 ≡ 0
unfolding reg
reg_zero f = refl

pub put_here : (f : ℕ → ℕ) (r v : ℕ) → r ≢ 0 → reg (put f r v) r ≡ v
unfolding reg put
put_here f r v n =
    let t : eqb r r ≡ true = grind (arith, nat_tests) in
    let u : ltb 0 r ≡ true = grind (arith, nat_tests) in
    rw (apart r 0 n, t, u) refl

pub put_other : (f : ℕ → ℕ) (r q v : ℕ) → q ≢ r → reg (put f r v) q ≡ reg f q
unfolding reg put
put_other f r q v n = let t : eqb q r ≡ false = grind (arith, nat_tests) in rw t refl

-- writes of two registers, in either order
pub put_swap : (f : ℕ → ℕ) (a b x y : ℕ) → a ≢ b → put (put f a x) b y ≡ put (put f b y) a x
unfolding put
put_swap f a b x y n = fun_ext (λ q. elim (eqb_tells q a) [
  | inl e ↦ let t : eqb q b ≡ false = apart q b (λ i. n (sym e.1 ∙ i)) in rw (e.0, t) refl
  | inr e ↦ rw e.0 refl
])

-- of two writes of a register the second is left
pub put_twice : (f : ℕ → ℕ) (a x y : ℕ) → put (put f a x) a y ≡ put f a y
unfolding put
put_twice f a x y = fun_ext (λ q. by (eqb q a && ltb 0 a) (f q))
  where
    by : (b : Bool) (z : ℕ) → cond b y (cond b x z) ≡ cond b y z
    by true z = refl
    by false z = refl

-- a register gets the value that it has
pub put_back : (f : ℕ → ℕ) (a : ℕ) → put f a (reg f a) ≡ f
unfolding reg put
put_back f a = elim (eqb_tells a 0) [
  | inl z ↦ rw z.1 (put_zero f 0)
  | inr n ↦ fun_ext (λ q. elim (eqb_tells q a) [
    | inl e ↦ let u : ltb 0 a ≡ true = let some = n.1 in grind (arith, nat_tests) in rw (e.0, u, n.0) (ap f (sym e.1))
    | inr e ↦ rw e.0 refl
  ])
]

-- of three writes the third takes the place of the first
pub put_over : (f : ℕ → ℕ) (s t x y z : ℕ) → s ≢ t → put (put (put f s x) t y) s z ≡ put (put f s z) t y
put_over f s t x y z n =
    put_swap (put f s x) t s y z (λ e. n (sym e)) ∙ ap (λ (h : ℕ → ℕ). put h t y) (put_twice f s x z)

-- a register taken back, which two others were written after
pub first_back : (f : ℕ → ℕ) (s t r x y v : ℕ) → s ≢ t → s ≢ r
    → put (put (put (put f s x) t y) r v) s (reg f s) ≡ put (put f t y) r v
first_back f s t r x y v st sr =
    put_swap (put (put f s x) t y) r s v (reg f s) (λ e. sr (sym e))
    ∙ ap (λ (h : ℕ → ℕ). put h r v) (put_over f s t x y (reg f s) st)
    ∙ ap (λ (h : ℕ → ℕ). put (put h t y) r v) (put_back f s)

-- and one that another was
pub second_back : (f : ℕ → ℕ) (t r y v w : ℕ) → t ≢ r → w ≡ reg f t → put (put (put f t y) r v) t w ≡ put f r v
second_back f t r y v w tr is =
    put_over f t r y v w tr ∙ ap (λ (x : ℕ). put (put f t x) r v) is ∙ ap (λ (h : ℕ → ℕ). put h r v) (put_back f t)
