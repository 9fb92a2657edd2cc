-- Up to 32 requests wait at a home, and each that comes finds room: each is of a node that waits,
-- for a block of its own, and the nodes have up to 32 waits in all.
use Rattle.std.proofs.Common.{◌≡◌, ◌≢◌, ℕ, zero, suc, ◌+◌, ◌*◌, ◌<◌, ◌≤◌, Bool, true, false, cond, eqb, List, [], ◌∷◌, ◌||◌, length, length-append, sym, refl, ap, ◌∙◌, subst, inl, inr, arith}
use Rattle.std.proofs.lemmas.Bool.Decides.{eqb_tells, nat_tests}
use Rattle.coherence.specs.Messages.{Need}
use Rattle.coherence.specs.Table.{Queueing, Stays, Joins, FirstLeaves, count, sum_below, has_from, update}
use Rattle.coherence.specs.Machine.{queue_after, occupancy_after, waiting_at}
use Rattle.coherence.proofs.Picture.{Once}
use Rattle.coherence.proofs.Counts.{count_less}
use Rattle.coherence.proofs.Weights.{sum_change}
use Rattle.coherence.proofs.Frame.{at_own, at_other}
use Rattle.coherence.proofs.Likes.{same_place}

-- no node twice, and each in p: no more than there are in p
few_in : (p : ℕ → Bool) (n : ℕ) (q : List (ℕ × Need)) → Once q
    → ((x : ℕ) → has_from x q ≡ true → (x < n) × (p x ≡ true)) → length q ≤ count p n
unfolding update
few_in p n [] once h = omega arith
few_in p n (a ∷ q) once h =
    let here = h a.0 (grind (arith, nat_tests)) in
    let less : ℕ → Bool = update p a.0 false in
    let c = count_less p less n a.0 here.0 here.1 (grind (arith, nat_tests))
    (λ x o. grind (arith, nat_tests)) in
    let rest = few_in less n q once.1 (λ x e.
    let old = h x (grind (arith, nat_tests)) in (
      old.0,
      (elim (eqb x a.0) as (λ t. eqb x a.0 ≡ t → cond t false (p x) ≡ true) [
        | true ↦ (λ t. absurd (let same : x ≡ a.0 = grind (arith, nat_tests) in
            let there : has_from a.0 q ≡ true = subst (λ z. has_from z q ≡ true) same e in
            let gone = once.0 in let bad : true ≡ false = sym there ∙ gone in cc))
        | false ↦ (λ t. old.1)
      ]) refl,
    )) in
    omega (arith, c, rest)

-- all the pairs of n nodes and m blocks that are in p, by the node or by the block
more_counted : (q : ℕ → Bool) (f : ℕ → ℕ) (n : ℕ)
    → sum_below (λ x. cond (q x) (suc (f x)) (f x)) n ≡ count q n + sum_below f n
more_counted q f zero = refl
more_counted q f (suc n) =
    let e = more_counted q f n in
    (elim (q n) as (λ t. cond t (suc (f n)) (f n) + sum_below (λ x. cond (q x) (suc (f x)) (f x)) n
    ≡ cond t (suc (count q n)) (count q n) + (f n + sum_below f n)) [
      | true ↦ omega (arith, e)
      | false ↦ omega (arith, e)
    ])

nothing : (n : ℕ) → sum_below (λ x. 0) n ≡ 0
nothing zero = refl
nothing (suc n) = let e = nothing n in omega (arith, e)

pairs_swap : (p : ℕ → ℕ → Bool) (n m : ℕ)
    → sum_below (λ b. count (λ x. p x b) n) m ≡ sum_below (λ x. count (p x) m) n
pairs_swap p n zero = sym (nothing n)
pairs_swap p n (suc m) =
    let e = pairs_swap p n m in
    let f = more_counted (λ x. p x m) (λ x. count (p x) m) n in
    omega (arith, e, f)

total_most : (p : ℕ → ℕ → Bool) (n m most : ℕ) → ((x : ℕ) → count (p x) m ≤ most)
    → sum_below (λ x. count (p x) m) n ≤ n * most
total_most p zero m most h = omega arith
total_most p (suc n) m most h =
    let a = total_most p n m most h in let b = h n in omega (arith, a, b)

sum_most : (f g : ℕ → ℕ) (m : ℕ) → ((b : ℕ) → f b ≤ g b) → sum_below f m ≤ sum_below g m
sum_most f g zero h = omega arith
sum_most f g (suc m) h = let a = sum_most f g m h in let b = h m in omega (arith, a, b)

sum_part : (f : ℕ → ℕ) (m b : ℕ) → b < m → f b ≤ sum_below f m
sum_part f zero b low = absurd (omega arith)
sum_part f (suc m) b low = elim (eqb_tells b m) [
  | inl q ↦ subst (λ z. f z ≤ f m + sum_below f m) (sym q.1) (omega arith)
  | inr q ↦ (let a = sum_part f m b (grind (arith, nat_tests)) in omega (arith, a))
]

module _ (p : ℕ → ℕ → Bool) (n m most : ℕ) (room : n * most ≤ 32)
    (few : (x : ℕ) → count (p x) m ≤ most) where
  pub at_most : (w : ℕ → List (ℕ × Need)) → ((b : ℕ) → Once (w b))
      → ((b x : ℕ) → has_from x (w b) ≡ true → (x < n) × (p x b ≡ true))
      → sum_below (λ b. length (w b)) m ≤ 32
  at_most w once among =
      let a = sum_most (λ b. length (w b)) (λ b. count (λ x. p x b) n) m
      (λ b. few_in (λ x. p x b) n (w b) (once b) (among b)) in
      let s = pairs_swap p n m in
      let t = total_most p n m most few in
      omega (arith, a, s, t, room)

  -- node r waits for block b, and its request isn't among them
  pub has_room : (w : ℕ → List (ℕ × Need)) → ((b : ℕ) → Once (w b))
      → ((b x : ℕ) → has_from x (w b) ≡ true → (x < n) × (p x b ≡ true)) → (b r : ℕ) (need : Need)
      → r < n → b < m → p r b ≡ true → has_from r (w b) ≡ false
      → sum_below (λ b. length (w b)) m < 32
  unfolding update
  has_room w once among b r need lr lb waits other =
      let more : ℕ → List (ℕ × Need) = update w b ((r, need) ∷ w b) in
      let own : more b ≡ (r, need) ∷ w b = grind (arith, nat_tests) in
      let c = sum_change (λ y. length (more y)) (λ y. length (w y)) m b lb
      (λ y o. grind (arith, nat_tests)) in
      let one = ap length own in
      let a = at_most more
      (λ d. (elim (eqb d b) as (λ t. Once (cond t ((r, need) ∷ w b) (w d))) [
        | true ↦ (other, once b)
        | false ↦ once d
      ])) (λ d x. (elim (eqb d b)
      as (λ t. eqb d b ≡ t → has_from x (cond t ((r, need) ∷ w b) (w d)) ≡ true
      → (x < n) × (p x d ≡ true)) [
        | true ↦ (λ t e. let same : b ≡ d = grind (arith, nat_tests) in
            subst (λ z. (x < n) × (p x z ≡ true)) same (by_sender x (eqb x r) refl e))
        | false ↦ (λ t e. among d x e)
      ]) refl) in
      omega (arith, a, c, one)
    where
      by_sender : (x : ℕ) (t : Bool) → eqb x r ≡ t → (t || has_from x (w b)) ≡ true
          → (x < n) × (p x b ≡ true)
      by_sender x true is e =
          let same : r ≡ x = grind (arith, nat_tests) in
          subst (λ z. (z < n) × (p z b ≡ true)) same (lr, waits)
      by_sender x false is e = among b x e

-- a row changes a queue and the number of all that wait alike
queue_length : (c : Queueing) (q : List (ℕ × Need)) (n : ℕ) → length q ≤ n
    → length (queue_after c q) + n ≡ occupancy_after c q n + length q
queue_length Stays q n few = omega arith
queue_length (Joins r need) q n few =
    let l = length-append q ((r, need) ∷ []) in omega (arith, l)
queue_length FirstLeaves [] n few = omega arith
queue_length FirstLeaves (p ∷ q) n few = omega (arith, few)

-- what wait at a node are counted; then a row for block b at node i
module _ (home : ℕ → ℕ) (w : ℕ → List (ℕ × Need)) (number : ℕ → ℕ) (m i b : ℕ) (low : b < m)
    (counted : (x : ℕ) → number x ≡ waiting_at home w m x) where
  changed_sum : (q : List (ℕ × Need)) (x : ℕ)
      → waiting_at home (update w b q) m x + length (cond (eqb (home b) x) (w b) [])
      ≡ waiting_at home w m x + length (cond (eqb (home b) x) q [])
  changed_sum q x =
      sum_change (λ y. length (cond (eqb (home y) x) (update w b q y) []))
      (λ y. length (cond (eqb (home y) x) (w y) [])) m b low
      (λ y o. ap (λ z. length (cond (eqb (home y) x) z [])) (at_other w b q y o))
      ∙ ap (λ z. waiting_at home w m x + length (cond (eqb (home b) x) z [])) (at_own w b q)

  abbrev Counted : Queueing → Type 0
  Counted c = (x : ℕ) → update number i (occupancy_after c (w b) (number i)) x
      ≡ waiting_at home (update w b (queue_after c (w b))) m x

  same_counted : Counted Stays
  same_counted x =
      let s = changed_sum (w b) x in
      let same : waiting_at home (update w b (w b)) m x ≡ waiting_at home w m x =
      omega (arith, s) in
      same_place number i x ∙ counted x ∙ sym same

  home_counted : (c : Queueing) → i ≡ home b → Counted c
  unfolding update
  home_counted c at x = elim (eqb_tells x i) [
    | inl e ↦ (let t : eqb (home b) x ≡ true = grind (arith, nat_tests) in
        let s = changed_sum (queue_after c (w b)) x in
        let s' : waiting_at home (update w b (queue_after c (w b))) m x + length (w b)
        ≡ waiting_at home w m x + length (queue_after c (w b)) = rw t at s in
        let part = sum_part (λ y. length (cond (eqb (home y) x) (w y) [])) m b low in
        let part' : length (w b) ≤ waiting_at home w m x = rw t at part in
        let all : number i ≡ waiting_at home w m x = ap number (sym e.1) ∙ counted x in
        let q = queue_length c (w b) (number i) (omega (arith, part', all)) in
        rw e.0 (omega (arith, s', all, q)))
    | inr e ↦ (let t : eqb (home b) x ≡ false = grind (arith, nat_tests) in
        let s = changed_sum (queue_after c (w b)) x in
        let s' : waiting_at home (update w b (queue_after c (w b))) m x + 0
        ≡ waiting_at home w m x + 0 = rw t at s in
        let all = counted x in
        rw e.0 (omega (arith, s', all)))
  ]

  pub queue_counted : (c : Queueing) → (c ≢ Stays → i ≡ home b) → Counted c
  queue_counted Stays at = same_counted
  queue_counted other at = home_counted other (at (λ e. cc))
