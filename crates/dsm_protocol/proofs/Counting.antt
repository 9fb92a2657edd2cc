-- A node waits for as many blocks as it has waits.
use Rattle.std.proofs.Common.{◌≡◌, ◌≢◌, ℕ, zero, suc, ◌+◌, ◌<◌, Bool, true, false, eqb, List, [], ◌∷◌, length, get_or, refl, sym, ap, ◌∙◌, subst, inl, inr, arith}
use Rattle.std.specs.Prelude.{is_some}
use Rattle.std.proofs.lemmas.Bool.Decides.{eqb_tells, nat_tests}
use Rattle.dsm_protocol.proofs.Names.{Shape, blocks, count_of, BareNode, pending, Nodes, no_node, node_at, world_of, AreReached, Waiting, wait_in, AreWaits}
use Rattle.std.proofs.lemmas.List.{get_or_default}

pub count_alike : (p q : ℕ → Bool) (n : ℕ) → ((i : ℕ) → i < n → p i ≡ q i)
    → count_of p n ≡ count_of q n
count_alike p q zero h = refl
count_alike p q (suc n) h = let e = count_alike p q n (λ i l. h i (omega arith)) in let a =
    h n (omega arith) in grind (arith, nat_tests)

count_none : (n : ℕ) → count_of (λ b. false) n ≡ 0
count_none zero = refl
count_none (suc n) = count_none n

pub count_one : (p q : ℕ → Bool) (n i : ℕ) → i < n → p i ≡ true → q i ≡ false
    → ((x : ℕ) → x ≢ i → p x ≡ q x) → count_of p n ≡ count_of q n + 1
count_one p q zero i l is_in gone h = absurd (omega arith)
count_one p q (suc n) i l is_in gone h = elim (eqb_tells i n) [
  | inl e ↦ (let same = count_alike p q n (λ x lx. h x (λ z. omega arith)) in
      let a : p n ≡ true = subst (λ z. p z ≡ true) e.1 is_in in let b : q n
      ≡ false = subst (λ z. q z ≡ false) e.1 gone in grind (arith, nat_tests))
  | inr e ↦ (let rest = count_one p q n i
      (let z = e.1 in (let f : i ≢ n = z in omega (arith, lt_of i n l f))) is_in gone h in let a =
      h n (λ z. e.1 (sym z)) in grind (arith, nat_tests))
]
  where
    lt_of : (x y : ℕ) → x < suc y → x ≢ y → x < y
    lt_of x y a b = grind (arith, nat_tests)

pub waits_count : (l : Shape) (ws : List Waiting) → AreWaits l ws
    → count_of (λ b. is_some (wait_in ws b)) (blocks l) ≡ length ws
waits_count l [] a = count_none (blocks l)
waits_count l (w ∷ ws) a =
    let rest = waits_count l ws a.2 in
    let one = count_one (λ b. is_some (wait_in (w ∷ ws) b)) (λ b. is_some (wait_in ws b)) (blocks l)
    w.block a.0.block
    (let t : eqb w.block w.block ≡ true = grind (arith, nat_tests) in rw t refl) (ap is_some a.1)
    (λ x o. elim (eqb_tells x w.block) [ inl q ↦ absurd (o q.1) | inr q ↦ rw q.0 refl ]) in
    omega arith

-- of a node of reached ones
module _ (p : Nodes) (r : AreReached p) (i : ℕ) (bi : i < p.layout.nodes) (old : BareNode)
    (is : old ≡ get_or p.nodes i old) (waits : AreWaits old.waits.layout old.waits.waits) where
  pending_is : length old.waits.waits ≡ pending p.layout (world_of p) i
  pending_is =
      let at : old ≡ node_at p i = is ∙ get_or_default p.nodes i old (no_node p.layout)
      (omega (arith, r.count)) in
      let l : old.waits.layout ≡ p.layout = ap (λ (n : BareNode). n.waits.layout) at
      ∙ (r.nodes i bi).waits in
      let e = waits_count p.layout old.waits.waits (subst (λ z. AreWaits z old.waits.waits) l waits)
      in
      sym e ∙ ap (λ (n : BareNode). count_of (λ b. is_some (wait_in n.waits.waits b))
      (blocks p.layout)) at

  pub pending_count : (result : ℕ) → result ≡ length old.waits.waits → result
      ≡ pending p.layout (world_of p) i
  pending_count result e = e ∙ pending_is

  pub pending_few : pending p.layout (world_of p) i < 2 → length old.waits.waits < 2
  pending_few f = let e = pending_is in omega arith
