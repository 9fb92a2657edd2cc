-- The sorted events of a run are a run.
use Rattle.std.proofs.Common.{◌≡◌, ◌≢◌, ℕ, ◌+◌, ◌<◌, ◌≤◌, Bool, true, false, cond, eqb, ltb, ◌&&◌, ◌||◌, List, [], ◌∷◌, ◌++◌, sym, refl, ap, ◌∙◌, subst, arith, eq-eqb, ne_eqb, eqb-true, ltb-true, ltb-false, inl, inr, ⊎_elim, true≢false, lt-ltb}
use Rattle.std.proofs.lemmas.Bool.{or_cases, or_parts, and_parts, and_from, cases_eq, cases_order}
use Rattle.node_model.specs.Node.{Node}
use Rattle.node_model.specs.Core.{Core, wires_to}
use Rattle.run_order.specs.Sorted.{Precedes, PrecedesAll, AreSorted}
use Rattle.run_order.proofs.History.{LocalEvent, if_from, taken, sent, of, From, Ascends, Climbs, IsLater, AreLater, Local, Run, Fits}
use Rattle.run_order.proofs.Merging.{merge, run_fits}

-- 1. Sorting

abbrev stamp_by : LocalEvent → ℕ
stamp_by d = d.stamp

abbrev doer : LocalEvent → ℕ
doer d = d.node

abbrev pub Before : LocalEvent → LocalEvent → Type 0
Before x y = Precedes stamp_by doer x y

abbrev pub BeforeAll : LocalEvent → List LocalEvent → Type 0
BeforeAll x xs = PrecedesAll stamp_by doer x xs

abbrev pub InOrder : List LocalEvent → Type 0
InOrder xs = AreSorted stamp_by doer xs

abbrev before : LocalEvent → LocalEvent → Bool
before x e = ltb x.stamp e.stamp || (eqb x.stamp e.stamp && ltb x.node e.node)

abbrev insert : LocalEvent → List LocalEvent → List LocalEvent
insert e [] = e ∷ []
insert e (x ∷ xs) = cond (before x e) (x ∷ insert e xs) (e ∷ x ∷ xs)

abbrev pub order : List LocalEvent → List LocalEvent
order [] = []
order (e ∷ es) = insert e (order es)

before_true : (x e : LocalEvent) → before x e ≡ true → Before x e
before_true x e h = ⊎_elim (λ l. inl (ltb-true _ _ l))
    (λ r. let p = and_parts (eqb x.stamp e.stamp) (ltb x.node e.node) r in
    inr (eqb-true _ _ p.0, ltb-true _ _ p.1))
    (or_cases (ltb x.stamp e.stamp) (eqb x.stamp e.stamp && ltb x.node e.node) h)

-- 2. The order of the sorted list

of_here : (x : LocalEvent) (xs : List LocalEvent) → of x.node (x ∷ xs) ≡ x ∷ of x.node xs
of_here x xs = rw (eq-eqb x.node x.node refl) refl

from_of_tail : (m i : ℕ) (x : LocalEvent) (xs : List LocalEvent) → From m (of i (x ∷ xs)) → From m (of i xs)
from_of_tail m i x xs f =
    (elim (eqb x.node i) as (λ b. From m (cond b (x ∷ of i xs) (of i xs)) → From m (of i xs))
    [ true ↦ (λ f. f.1) | false ↦ (λ f. f) ]) f

climbs_of_tail : (i : ℕ) (x : LocalEvent) (xs : List LocalEvent) → Climbs (of i (x ∷ xs)) → Climbs (of i xs)
climbs_of_tail i x xs f =
    (elim (eqb x.node i) as (λ b. Climbs (cond b (x ∷ of i xs) (of i xs)) → Climbs (of i xs))
    [ true ↦ (λ f. f.1) | false ↦ (λ f. f) ]) f

-- an event that is not before one of another stamp or node is after it
after_it : (x e : LocalEvent) → before x e ≡ false → (x.node ≡ e.node → e.stamp + 1 ≤ x.stamp)
    → Before e x
after_it x e h own =
    let p = or_parts (ltb x.stamp e.stamp) (eqb x.stamp e.stamp && ltb x.node e.node) h in
    let le : e.stamp ≤ x.stamp = ltb-false _ _ p.0 in
    ⊎_elim (λ (same : e.stamp ≡ x.stamp). ⊎_elim
    (λ (node : e.node ≡ x.node). let up = own (sym node) in absurd (omega arith))
    (λ r. ⊎_elim (λ (lt : e.node < x.node). inr (same, lt))
    (λ (lt : x.node < e.node). absurd (true≢false (sym
    (and_from _ _ (eq-eqb x.stamp e.stamp (sym same)) (lt-ltb x.node e.node lt)) ∙ p.1))) r)
    (cases_order e.node x.node))
    (λ r. ⊎_elim (λ (lt : e.stamp < x.stamp). inl lt)
    (λ (lt : x.stamp < e.stamp). absurd (omega arith)) r)
    (cases_order e.stamp x.stamp)

before_trans : (x y z : LocalEvent) → Before x y → Before y z → Before x z
before_trans x y z p q = ⊎_elim
    (λ (a : x.stamp < y.stamp). ⊎_elim (λ (b : y.stamp < z.stamp). inl (omega arith))
    (λ (b : (y.stamp ≡ z.stamp) × (y.node < z.node)). inl (omega arith)) q)
    (λ (a : (x.stamp ≡ y.stamp) × (x.node < y.node)). ⊎_elim
    (λ (b : y.stamp < z.stamp). inl (omega arith))
    (λ (b : (y.stamp ≡ z.stamp) × (y.node < z.node)). inr (omega arith, omega arith)) q) p

before_all : (x y : LocalEvent) (zs : List LocalEvent) → Before x y → BeforeAll y zs → BeforeAll x zs
before_all x y [] p q = tt
before_all x y (z ∷ zs) p q = (before_trans x y z p q.0, before_all x y zs p q.1)

all_insert : (x e : LocalEvent) (zs : List LocalEvent) → Before x e → BeforeAll x zs → BeforeAll x (insert e zs)
all_insert x e [] p q = (p, tt)
all_insert x e (z ∷ zs) p q =
    elim (before z e) as (λ b. BeforeAll x (cond b (z ∷ insert e zs) (e ∷ z ∷ zs)))
    [ true ↦ (q.0, all_insert x e zs p q.1) | false ↦ (p, q) ]

own_head : (e x : LocalEvent) (xs : List LocalEvent) → From (e.stamp + 1) (of e.node (x ∷ xs))
    → x.node ≡ e.node → e.stamp + 1 ≤ x.stamp
own_head e x xs f same =
    let g : From (e.stamp + 1) (x ∷ of e.node xs) =
    rw (eq-eqb x.node e.node same) at f in g.0

sorted_insert : (e : LocalEvent) (xs : List LocalEvent) → From (e.stamp + 1) (of e.node xs) → InOrder xs
    → InOrder (insert e xs)
sorted_insert e [] f s = (tt, tt)
sorted_insert e (x ∷ xs) f s =
    (elim (before x e) as (λ b. before x e ≡ b
    → InOrder (cond b (x ∷ insert e xs) (e ∷ x ∷ xs))) [
      | true ↦ (λ is. (
        all_insert x e xs (before_true x e is) s.0,
        sorted_insert e xs (from_of_tail (e.stamp + 1) e.node x xs f) s.1,
      ))
      | false ↦ (λ is. let p = after_it x e is (own_head e x xs f) in
          ((p, before_all e x xs p s.0), s))
    ]) refl

-- 3. Each node's events stand in the sorted list in their order

-- of two events of different nodes each node sees at most one
of_swap : (i : ℕ) (x e : LocalEvent) (xs : List LocalEvent) → x.node ≢ e.node
    → of i (x ∷ e ∷ xs) ≡ of i (e ∷ x ∷ xs)
of_swap i x e xs other = ⊎_elim
    (λ (p : x.node ≡ i). let not : e.node ≢ i = λ q. other (p ∙ sym q) in
    rw (ne_eqb e.node i not) refl)
    (λ (p : x.node ≢ i). rw (ne_eqb x.node i p) refl) (cases_eq x.node i)

of_cons : (i : ℕ) (x : LocalEvent) (xs ys : List LocalEvent) → of i xs ≡ of i ys
    → of i (x ∷ xs) ≡ of i (x ∷ ys)
of_cons i x xs ys e = ap (λ l. cond (eqb x.node i) (x ∷ l) l) e

of_insert : (i : ℕ) (e : LocalEvent) (xs : List LocalEvent) → From (e.stamp + 1) (of e.node xs)
    → of i (insert e xs) ≡ of i (e ∷ xs)
of_insert i e [] f = refl
of_insert i e (x ∷ xs) f =
    (elim (before x e) as (λ b. before x e ≡ b
    → of i (cond b (x ∷ insert e xs) (e ∷ x ∷ xs)) ≡ of i (e ∷ x ∷ xs)) [
      | true ↦ (λ is.
          let other : x.node ≢ e.node = λ same. let le = own_head e x xs f same in
          ⊎_elim (λ (l : x.stamp < e.stamp). absurd (omega arith))
          (λ (r : (x.stamp ≡ e.stamp) × (x.node < e.node)). absurd (omega arith))
          (before_true x e is) in
          of_cons i x (insert e xs) (e ∷ xs)
          (of_insert i e xs (from_of_tail (e.stamp + 1) e.node x xs f)) ∙ of_swap i x e xs other)
      | false ↦ (λ is. refl)
    ]) refl

climbs_head : (e : LocalEvent) (es : List LocalEvent) → Climbs (of e.node (e ∷ es))
    → From (e.stamp + 1) (of e.node es)
climbs_head e es up =
    let mine : Climbs (e ∷ of e.node es) = subst (λ l. Climbs l) (of_here e es) up in mine.0

pub of_order : (es : List LocalEvent) → ((i : ℕ) → Climbs (of i es)) → (i : ℕ)
    → of i (order es) ≡ of i es
of_order [] up i = refl
of_order (e ∷ es) up i =
    let rest : (k : ℕ) → of k (order es) ≡ of k es =
    of_order es (λ k. climbs_of_tail k e es (up k)) in
    of_insert i e (order es)
    (subst (λ l. From (e.stamp + 1) l) (sym (rest e.node)) (climbs_head e es (up e.node)))
    ∙ of_cons i e (order es) es (rest i)

pub sorted_order : (es : List LocalEvent) → ((i : ℕ) → Climbs (of i es)) → InOrder (order es)
sorted_order [] up = tt
sorted_order (e ∷ es) up =
    let tails : (k : ℕ) → Climbs (of k es) = λ k. climbs_of_tail k e es (up k) in
    sorted_insert e (order es)
    (subst (λ l. From (e.stamp + 1) l) (sym (of_order es tails e.node))
    (climbs_head e es (up e.node)))
    (sorted_order es tails)

before_from : (x : LocalEvent) (xs : List LocalEvent) → BeforeAll x xs → From x.stamp xs
before_from x [] p = tt
before_from x (y ∷ ys) p = (
  ⊎_elim (λ (l : x.stamp < y.stamp). omega arith)
      (λ (r : (x.stamp ≡ y.stamp) × (x.node < y.node)). omega arith) p.0,
  before_from x ys p.1,
)

ascends : (xs : List LocalEvent) → InOrder xs → Ascends xs
ascends [] s = tt
ascends (x ∷ xs) s = (before_from x xs s.0, ascends xs s.1)

-- 4. What fits in one order fits in another

-- what k takes is told by its own events, and what j sends by j's
pub taken_of : (j k : ℕ) (es : List LocalEvent) → taken j k (of k es) ≡ taken j k es
taken_of j k [] = refl
taken_of j k (e ∷ es) = ⊎_elim
    (λ (p : e.node ≡ k). rw (eq-eqb e.node k p) (rw (eq-eqb k e.node (sym p))
    (ap (λ l. if_from j e.took ++ l) (taken_of j k es))))
    (λ (p : e.node ≢ k). rw (ne_eqb e.node k p) (rw (ne_eqb k e.node (λ q. p (sym q)))
    (taken_of j k es))) (cases_eq e.node k)

pub sent_of : (j k : ℕ) (es : List LocalEvent) → sent j k (of j es) ≡ sent j k es
sent_of j k [] = refl
sent_of j k (e ∷ es) = ⊎_elim
    (λ (p : e.node ≡ j). rw (eq-eqb e.node j p) (rw (eq-eqb j e.node (sym p))
    (ap (λ l. wires_to e.stamp k e.posts ++ l) (sent_of j k es))))
    (λ (p : e.node ≢ j). rw (ne_eqb e.node j p) (rw (ne_eqb j e.node (λ q. p (sym q)))
    (sent_of j k es))) (cases_eq e.node j)

later_of : (es : List LocalEvent) → ((i : ℕ) → AreLater (of i es)) → AreLater es
later_of [] h = tt
later_of (e ∷ es) h =
    let mine : AreLater (e ∷ of e.node es) = subst (λ l. AreLater l) (of_here e es) (h e.node) in (
      mine.0,
      later_of es (λ i. (elim (eqb e.node i) as
          (λ b. AreLater (cond b (e ∷ of i es) (of i es)) → AreLater (of i es))
          [ true ↦ (λ f. f.1) | false ↦ (λ f. f) ]) (h i)),
    )

module _ (Moves : Node → LocalEvent → Node → Type 0)
    (grows : (s : Node) (e : LocalEvent) (t : Node) → Moves s e t
    → (s.stamp < e.stamp) × (t.stamp ≡ e.stamp) × IsLater e.stamp e.took) where
  local_from : (s : Node) (es : List LocalEvent) (t : Node) (m : ℕ) → Local Moves s es t → m ≤ s.stamp + 1
      → From m es × Climbs es × AreLater es
  local_from s [] t m l le = (tt, tt, tt)
  local_from s (e ∷ es) t m l le =
      let g = grows s e l.0 l.1 in
      let rest = local_from l.0 es t (e.stamp + 1) l.2 (omega arith) in
      let below = local_from l.0 es t m l.2 (omega arith) in
      ((omega arith, below.0), (rest.0, rest.1), (g.2, rest.2))

  -- only each node's own events count
  fits_of : (s t : Core) (es fs : List LocalEvent) → ((i : ℕ) → of i es ≡ of i fs) → Fits Moves s es t
      → Fits Moves s fs t
  fits_of s t es fs same fit = (
    (λ i. subst (λ l. Local Moves (s.nodes i) l (t.nodes i)) (same i) (fit.0 i)),
    λ j k.
        let a : taken j k es ≡ taken j k fs =
        sym (taken_of j k es) ∙ ap (λ l. taken j k l) (same k) ∙ taken_of j k fs in
        let b : sent j k es ≡ sent j k fs =
        sym (sent_of j k es) ∙ ap (λ l. sent j k l) (same j) ∙ sent_of j k fs in
        ap (λ l. l ++ t.list j k) (sym a) ∙ fit.1 j k ∙ ap (λ l. s.list j k ++ l) b,
  )

  fits_climbs : (s t : Core) (es : List LocalEvent) → Fits Moves s es t → (i : ℕ) → Climbs (of i es)
  fits_climbs s t es fit i =
      (local_from (s.nodes i) (of i es) (t.nodes i) 0 (fit.0 i) (omega arith)).1

  -- each node's events have growing stamps
  pub run_climbs : (s t : Core) (es : List LocalEvent) → Run Moves s es t → (i : ℕ) → Climbs (of i es)
  run_climbs s t es r i = fits_climbs s t es (run_fits Moves es s t r) i

  -- Events that fit are a run in the order of their stamps.
  pub ordered : (s t : Core) (es : List LocalEvent) → Fits Moves s es t → Run Moves s (order es) t
  ordered s t es fit =
      let up = fits_climbs s t es fit in
      let same = of_order es up in
      merge Moves (order es) s t (ascends (order es) (sorted_order es up))
      (later_of (order es) (λ i. subst (λ l. AreLater l) (sym (same i))
      (local_from (s.nodes i) (of i es) (t.nodes i) 0 (fit.0 i) (omega arith)).2))
      (fits_of s t es (order es) (λ i. sym (same i)) fit)

  -- The events of a run, in whatever order it made them, are a run in the order of their stamps.
  pub reordered : (s t : Core) (es : List LocalEvent) → Run Moves s es t → Run Moves s (order es) t
  reordered s t es r = ordered s t es (run_fits Moves es s t r)
