-- How many waits there are.
use Rattle.std.proofs.Common.{◌≡◌, ◌≢◌, ℕ, zero, suc, ◌+◌, ◌<◌, Bool, true, false, eqb, List, [], ◌∷◌, length, refl, sym, ap, ◌∙◌, subst, inl, inr, Some, None, arith}
use Rattle.std.specs.Prelude.{is_some}
use Rattle.std.proofs.lemmas.Bool.Decides.{eqb_tells, nat_tests}
use Rattle.block_layout.specs.Layout.{Shape, blocks}
use Rattle.node_words.specs.home_directory.declared.wait.Wait.{Wait}
use Rattle.node_words.specs.home_directory.Home.{count_of}
use Rattle.node_words.specs.miss_handlers.declared.Waiting.{Waiting}
use Rattle.node_words.specs.miss_handlers.Waits.{wait_in, AreWaits}

count_alike : (p q : ℕ → Bool) (n : ℕ) → ((i : ℕ) → i < n → p i ≡ q i) → count_of p n ≡ count_of q n
count_alike p q zero h = refl
count_alike p q (suc n) h = let e = count_alike p q n (λ i l. h i (omega arith)) in let a =
    h n (omega arith) in grind (arith, nat_tests)

count_none : (n : ℕ) → count_of (λ b. false) n ≡ 0
count_none zero = refl
count_none (suc n) = count_none n

count_one : (p q : ℕ → Bool) (n i : ℕ) → i < n → p i ≡ true → q i ≡ false
    → ((x : ℕ) → x ≢ i → p x ≡ q x) → count_of p n ≡ count_of q n + 1
count_one p q zero i l is_in gone h = absurd (omega arith)
count_one p q (suc n) i l is_in gone h = elim (eqb_tells i n) [
  | inl e ↦ (let same = count_alike p q n (λ x lx. h x (λ z. omega arith)) in
      let a : p n ≡ true = subst (λ z. p z ≡ true) e.1 is_in in let b : q n
      ≡ false = subst (λ z. q z ≡ false) e.1 gone in grind (arith, nat_tests))
  | inr e ↦ (let rest = count_one p q n i
      (let z = e.1 in (let f : i ≢ n = z in omega (arith, lt_of i n l f))) is_in gone h in let a =
      h n (λ z. e.1 (sym z)) in grind (arith, nat_tests))
]
  where
    lt_of : (x y : ℕ) → x < suc y → x ≢ y → x < y
    lt_of x y a b = grind (arith, nat_tests)

pub waits_count : (l : Shape) (ws : List Waiting) → AreWaits l ws
    → count_of (λ b. is_some (wait_in ws b)) (blocks l) ≡ length ws
waits_count l [] a = count_none (blocks l)
waits_count l (w ∷ ws) a =
    let rest = waits_count l ws a.2 in
    let one = count_one (λ b. is_some (wait_in (w ∷ ws) b)) (λ b. is_some (wait_in ws b)) (blocks l)
    w.block a.0.block
    (let t : eqb w.block w.block ≡ true = grind (arith, nat_tests) in rw t refl) (ap is_some a.1)
    (λ x o. elim (eqb_tells x w.block) [ inl q ↦ absurd (o q.1) | inr q ↦ rw q.0 refl ]) in
    omega arith

some_none : (w : Wait) → Some w ≡ None → ⊥
some_none w e = cc

pub none_waits : (ws : List Waiting) → length ws ≡ 0 → (b : ℕ) → wait_in ws b ≡ None
none_waits [] e b = refl
none_waits (w ∷ ws) e b = absurd (omega (arith, e))

pub no_waits : (ws : List Waiting) → ((b : ℕ) → wait_in ws b ≡ None) → length ws ≡ 0
no_waits [] none = refl
no_waits (w ∷ ws) none =
    let t : eqb w.block w.block ≡ true = grind (arith, nat_tests) in
    let here : wait_in (w ∷ ws) w.block ≡ Some w.wait = rw t refl in
    absurd (some_none w.wait (sym here ∙ none w.block))
