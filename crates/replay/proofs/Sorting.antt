-- Lists of what nodes made, each by ascending stamps, can be merged into one that is sorted; and what
-- comes before the next of all others is the first of it.
use Rattle.std.proofs.Common.{◌≡◌, ◌≢◌, ℕ, zero, suc, ◌+◌, ◌<◌, ◌≤◌, Bool, true, false, cond, eqb, ltb, ◌&&◌, ◌||◌, List, [], ◌∷◌, ◌++◌, sym, refl, ap, ◌∙◌, subst, arith, eq-eqb, ne_eqb, eqb-true, ltb-true, ltb-false, inl, inr, ⊎_elim, true≢false, lt-ltb}
use Rattle.std.proofs.lemmas.Bool.{or_cases, or_parts, and_parts, and_from, cases_eq, cases_order}
use Rattle.run_order.specs.Sorted.{Precedes, PrecedesAll, AreSorted, AreMadeBelow, made_by, AreSortedOf}

module _ {A : Type 0} (stamp node : A → ℕ) where
  abbrev pub made : ℕ → List A → List A
  made i xs = made_by stamp node i xs

  -- every stamp is this or a later one
  abbrev pub From : ℕ → List A → Type 0
  From m [] = Unit {0}
  From m (x ∷ xs) = (m ≤ stamp x) × From m xs

  -- each stamp is above those before it
  abbrev pub Climbs : List A → Type 0
  Climbs [] = Unit {0}
  Climbs (x ∷ xs) = From (stamp x + 1) xs × Climbs xs

  -- node i made them
  abbrev pub AreOf : ℕ → List A → Type 0
  AreOf i [] = Unit {0}
  AreOf i (x ∷ xs) = (node x ≡ i) × AreOf i xs

  pub from_more : (m k : ℕ) (xs : List A) → m ≤ k → From k xs → From m xs
  from_more m k [] le f = tt
  from_more m k (x ∷ xs) le f = (let a = f.0 in omega arith, from_more m k xs le f.1)

  pub made_here : (x : A) (xs : List A) → made (node x) (x ∷ xs) ≡ x ∷ made (node x) xs
  made_here x xs = rw (eq-eqb (node x) (node x) refl) refl

  -- 1. One more

  abbrev before : A → A → Bool
  before x e = ltb (stamp x) (stamp e) || (eqb (stamp x) (stamp e) && ltb (node x) (node e))

  abbrev insert : A → List A → List A
  insert e [] = e ∷ []
  insert e (x ∷ xs) = cond (before x e) (x ∷ insert e xs) (e ∷ x ∷ xs)

  before_true : (x e : A) → before x e ≡ true → Precedes stamp node x e
  before_true x e h = ⊎_elim (λ l. inl (ltb-true _ _ l))
      (λ r. let p = and_parts (eqb (stamp x) (stamp e)) (ltb (node x) (node e)) r in
      inr (eqb-true _ _ p.0, ltb-true _ _ p.1))
      (or_cases (ltb (stamp x) (stamp e)) (eqb (stamp x) (stamp e) && ltb (node x) (node e)) h)

  -- what is not before one of another stamp or node is after it
  after_it : (x e : A) → before x e ≡ false → (node x ≡ node e → stamp e + 1 ≤ stamp x)
      → Precedes stamp node e x
  after_it x e h own =
      let p = or_parts (ltb (stamp x) (stamp e))
      (eqb (stamp x) (stamp e) && ltb (node x) (node e)) h in
      let le : stamp e ≤ stamp x = ltb-false _ _ p.0 in
      ⊎_elim (λ (same : stamp e ≡ stamp x). ⊎_elim
      (λ (n : node e ≡ node x). let up = own (sym n) in absurd (omega arith))
      (λ r. ⊎_elim (λ (lt : node e < node x). inr (same, lt))
      (λ (lt : node x < node e). absurd (true≢false (sym
      (and_from _ _ (eq-eqb (stamp x) (stamp e) (sym same)) (lt-ltb (node x) (node e) lt)) ∙ p.1))) r)
      (cases_order (node e) (node x)))
      (λ r. ⊎_elim (λ (lt : stamp e < stamp x). inl lt)
      (λ (lt : stamp x < stamp e). absurd (omega arith)) r)
      (cases_order (stamp e) (stamp x))

  pub precedes_trans : (x y z : A) → Precedes stamp node x y → Precedes stamp node y z
      → Precedes stamp node x z
  precedes_trans x y z p q = ⊎_elim
      (λ (a : stamp x < stamp y). ⊎_elim (λ (b : stamp y < stamp z). inl (omega arith))
      (λ (b : (stamp y ≡ stamp z) × (node y < node z)). inl (omega arith)) q)
      (λ (a : (stamp x ≡ stamp y) × (node x < node y)). ⊎_elim
      (λ (b : stamp y < stamp z). inl (omega arith))
      (λ (b : (stamp y ≡ stamp z) × (node y < node z)). inr (omega arith, omega arith)) q) p

  precedes_all : (x y : A) (zs : List A) → Precedes stamp node x y → PrecedesAll stamp node y zs
      → PrecedesAll stamp node x zs
  precedes_all x y [] p q = tt
  precedes_all x y (z ∷ zs) p q = (precedes_trans x y z p q.0, precedes_all x y zs p q.1)

  all_insert : (x e : A) (zs : List A) → Precedes stamp node x e → PrecedesAll stamp node x zs
      → PrecedesAll stamp node x (insert e zs)
  all_insert x e [] p q = (p, tt)
  all_insert x e (z ∷ zs) p q =
      elim (before z e) as (λ b. PrecedesAll stamp node x (cond b (z ∷ insert e zs) (e ∷ z ∷ zs)))
      [ true ↦ (q.0, all_insert x e zs p q.1) | false ↦ (p, q) ]

  own_head : (e x : A) (xs : List A) → From (stamp e + 1) (made (node e) (x ∷ xs))
      → node x ≡ node e → stamp e + 1 ≤ stamp x
  own_head e x xs f same =
      let g : From (stamp e + 1) (x ∷ made (node e) xs) =
      rw (eq-eqb (node x) (node e) same) at f in g.0

  from_tail : (m i : ℕ) (x : A) (xs : List A) → From m (made i (x ∷ xs)) → From m (made i xs)
  from_tail m i x xs f =
      (elim (eqb (node x) i) as (λ b. From m (cond b (x ∷ made i xs) (made i xs)) → From m (made i xs))
      [ true ↦ (λ f. f.1) | false ↦ (λ f. f) ]) f

  sorted_insert : (e : A) (xs : List A) → From (stamp e + 1) (made (node e) xs)
      → AreSorted stamp node xs → AreSorted stamp node (insert e xs)
  sorted_insert e [] f s = (tt, tt)
  sorted_insert e (x ∷ xs) f s =
      (elim (before x e) as (λ b. before x e ≡ b
      → AreSorted stamp node (cond b (x ∷ insert e xs) (e ∷ x ∷ xs))) [
        | true ↦ (λ is. (
          all_insert x e xs (before_true x e is) s.0,
          sorted_insert e xs (from_tail (stamp e + 1) (node e) x xs f) s.1,
        ))
        | false ↦ (λ is. let p = after_it x e is (own_head e x xs f) in
            ((p, precedes_all e x xs p s.0), s))
      ]) refl

  made_swap : (i : ℕ) (x e : A) (xs : List A) → node x ≢ node e
      → made i (x ∷ e ∷ xs) ≡ made i (e ∷ x ∷ xs)
  made_swap i x e xs other = ⊎_elim
      (λ (p : node x ≡ i). let not : node e ≢ i = λ q. other (p ∙ sym q) in
      rw (ne_eqb (node e) i not) refl)
      (λ (p : node x ≢ i). rw (ne_eqb (node x) i p) refl) (cases_eq (node x) i)

  made_cons : (i : ℕ) (x : A) (xs ys : List A) → made i xs ≡ made i ys
      → made i (x ∷ xs) ≡ made i (x ∷ ys)
  made_cons i x xs ys e = ap (λ l. cond (eqb (node x) i) (x ∷ l) l) e

  made_insert : (i : ℕ) (e : A) (xs : List A) → From (stamp e + 1) (made (node e) xs)
      → made i (insert e xs) ≡ made i (e ∷ xs)
  made_insert i e [] f = refl
  made_insert i e (x ∷ xs) f =
      (elim (before x e) as (λ b. before x e ≡ b
      → made i (cond b (x ∷ insert e xs) (e ∷ x ∷ xs)) ≡ made i (e ∷ x ∷ xs)) [
        | true ↦ (λ is.
            let other : node x ≢ node e = λ same. let le = own_head e x xs f same in
            ⊎_elim (λ (l : stamp x < stamp e). absurd (omega arith))
            (λ (r : (stamp x ≡ stamp e) × (node x < node e)). absurd (omega arith))
            (before_true x e is) in
            made_cons i x (insert e xs) (e ∷ xs)
            (made_insert i e xs (from_tail (stamp e + 1) (node e) x xs f)) ∙ made_swap i x e xs other)
        | false ↦ (λ is. refl)
      ]) refl

  below_insert : (n : ℕ) (e : A) (xs : List A) → node e < n → AreMadeBelow stamp node n xs
      → AreMadeBelow stamp node n (insert e xs)
  below_insert n e [] lt u = (lt, tt)
  below_insert n e (x ∷ xs) lt u =
      elim (before x e) as (λ b. AreMadeBelow stamp node n (cond b (x ∷ insert e xs) (e ∷ x ∷ xs)))
      [ true ↦ (u.0, below_insert n e xs lt u.1) | false ↦ (lt, u) ]

  -- 2. Those of one node more

  abbrev weave : List A → List A → List A
  weave [] ys = ys
  weave (x ∷ xs) ys = insert x (weave xs ys)

  weave_own : (k : ℕ) (xs ys : List A) → AreOf k xs → Climbs xs → made k ys ≡ []
      → made k (weave xs ys) ≡ xs
  weave_own k [] ys own up none = none
  weave_own k (x ∷ xs) ys own up none =
      let rest = weave_own k xs ys own.1 up.1 none in
      made_insert k x (weave xs ys)
      (subst (λ i. From (stamp x + 1) (made i (weave xs ys))) (sym own.0)
      (subst (λ l. From (stamp x + 1) l) (sym rest) up.0))
      ∙ rw (eq-eqb (node x) k own.0) (ap (λ l. x ∷ l) rest)

  weave_from : (k : ℕ) (x : A) (xs ys : List A) → node x ≡ k → AreOf k xs → Climbs xs
      → From (stamp x + 1) xs → made k ys ≡ [] → From (stamp x + 1) (made (node x) (weave xs ys))
  weave_from k x xs ys is own up f none =
      subst (λ i. From (stamp x + 1) (made i (weave xs ys))) (sym is)
      (subst (λ l. From (stamp x + 1) l) (sym (weave_own k xs ys own up none)) f)

  weave_other : (k i : ℕ) (xs ys : List A) → AreOf k xs → Climbs xs → made k ys ≡ [] → k ≢ i
      → made i (weave xs ys) ≡ made i ys
  weave_other k i [] ys own up none other = refl
  weave_other k i (x ∷ xs) ys own up none other =
      made_insert i x (weave xs ys) (weave_from k x xs ys own.0 own.1 up.1 up.0 none)
      ∙ rw (ne_eqb (node x) i (λ e. other (sym own.0 ∙ e)))
      (weave_other k i xs ys own.1 up.1 none other)

  weave_sorted : (k : ℕ) (xs ys : List A) → AreOf k xs → Climbs xs → made k ys ≡ []
      → AreSorted stamp node ys → AreSorted stamp node (weave xs ys)
  weave_sorted k [] ys own up none s = s
  weave_sorted k (x ∷ xs) ys own up none s =
      sorted_insert x (weave xs ys) (weave_from k x xs ys own.0 own.1 up.1 up.0 none)
      (weave_sorted k xs ys own.1 up.1 none s)

  weave_below : (n k : ℕ) (xs ys : List A) → AreOf k xs → k < n → AreMadeBelow stamp node n ys
      → AreMadeBelow stamp node n (weave xs ys)
  weave_below n k [] ys own lt u = u
  weave_below n k (x ∷ xs) ys own lt u =
      below_insert n x (weave xs ys) (subst (λ i. i < n) (sym own.0) lt)
      (weave_below n k xs ys own.1 lt u)

  below_more : (n m : ℕ) (xs : List A) → n ≤ m → AreMadeBelow stamp node n xs
      → AreMadeBelow stamp node m xs
  below_more n m [] le u = tt
  below_more n m (x ∷ xs) le u = (let a = u.0 in omega arith, below_more n m xs le u.1)

  none_above : (n i : ℕ) (xs : List A) → n ≤ i → AreMadeBelow stamp node n xs → made i xs ≡ []
  none_above n i [] le u = refl
  none_above n i (x ∷ xs) le u =
      let other : node x ≢ i = λ e. (let a = u.0 in omega arith) in
      rw (ne_eqb (node x) i other) (none_above n i xs le u.1)

  -- the lists of n nodes can be merged
  pub merged : (n : ℕ) (lists : ℕ → List A)
      → ((i : ℕ) → i < n → AreOf i (lists i) × Climbs (lists i))
      → (xs : List A) × AreSortedOf stamp node n lists xs
  merged zero lists h = ([], record { sorted = tt; below = tt; each = λ i lt. absurd (omega arith) })
  merged (suc k) lists h =
      let rest = merged k lists (λ i lt. h i (omega arith)) in
      let mine = h k (omega arith) in
      let none : made k rest.0 ≡ [] = none_above k k rest.0 (omega arith) rest.1.below in (
        weave (lists k) rest.0,
        record {
          sorted = weave_sorted k (lists k) rest.0 mine.0 mine.1 none rest.1.sorted;
          below = weave_below (suc k) k (lists k) rest.0 mine.0 (omega arith)
              (below_more k (suc k) rest.0 (omega arith) rest.1.below);
          each = λ i lt. ⊎_elim
              (λ (e : k ≡ i). subst (λ j. made j (weave (lists k) rest.0) ≡ lists j) e
              (weave_own k (lists k) rest.0 mine.0 mine.1 none))
              (λ (e : k ≢ i). weave_other k i (lists k) rest.0 mine.0 mine.1 none e
              ∙ rest.1.each i (omega arith)) (cases_eq k i);
        },
      )

  -- 3. Parts of sorted lists

  pub sorted_behind : (xs ys : List A) → AreSorted stamp node (xs ++ ys) → AreSorted stamp node ys
  sorted_behind [] ys s = s
  sorted_behind (x ∷ xs) ys s = sorted_behind xs ys s.1

  pub below_behind : (n : ℕ) (xs ys : List A) → AreMadeBelow stamp node n (xs ++ ys)
      → AreMadeBelow stamp node n ys
  below_behind n [] ys u = u
  below_behind n (x ∷ xs) ys u = below_behind n xs ys u.1

  -- what is first of a node's list comes behind what comes before all
  first_behind : (h x : A) (i : ℕ) (t more : List A) → PrecedesAll stamp node h t
      → made i t ≡ x ∷ more → Precedes stamp node h x
  first_behind h x i [] more p e = absurd cc
  first_behind h x i (y ∷ ys) more p e =
      (elim (eqb (node y) i) as (λ b. cond b (y ∷ made i ys) (made i ys) ≡ x ∷ more
      → Precedes stamp node h x) [
        | true ↦ (λ e. let same : y ≡ x = cc in subst (λ z. Precedes stamp node h z) same p.0)
        | false ↦ (λ e. first_behind h x i ys more p.1 e)
      ]) e

  both_ways : (x y : A) → Precedes stamp node x y → Precedes stamp node y x → ⊥
  both_ways x y p q = ⊎_elim
      (λ (a : stamp x < stamp y). ⊎_elim (λ (b : stamp y < stamp x). omega arith)
      (λ (b : (stamp y ≡ stamp x) × (node y < node x)). omega arith) q)
      (λ (a : (stamp x ≡ stamp y) × (node x < node y)). ⊎_elim
      (λ (b : stamp y < stamp x). omega arith)
      (λ (b : (stamp y ≡ stamp x) × (node y < node x)). omega arith) q) p

  -- the first of a sorted list: what comes before the first of every other node
  pub record IsHead (n : ℕ) (left : ℕ → List A) (rest : List A) (i : ℕ) (x : A) (more : List A)
      : Type 0 where
    pub tail : List A
    pub rest_is : rest ≡ x ∷ tail
    pub own : made i tail ≡ more
    pub others : (k : ℕ) → k < n → k ≢ i → made k tail ≡ left k

  pub head_first : (n : ℕ) (left : ℕ → List A) (rest : List A) (i : ℕ) (x : A) (more : List A)
      → AreSorted stamp node rest → AreMadeBelow stamp node n rest
      → ((k : ℕ) → k < n → made k rest ≡ left k) → i < n → node x ≡ i → left i ≡ x ∷ more
      → ((k : ℕ) → k < n → k ≢ i → (y : A) (ys : List A) → left k ≡ y ∷ ys
      → Precedes stamp node x y) → IsHead n left rest i x more
  head_first n left [] i x more s u each bi is first before = absurd
      (let e : [] ≡ x ∷ more = each i bi ∙ first in cc)
  head_first n left (h ∷ t) i x more s u each bi is first before = ⊎_elim
      (λ (e : node h ≡ i).
      let all : h ∷ made i t ≡ x ∷ more = subst (λ j. h ∷ made j t ≡ x ∷ more) e
      (sym (made_here h t) ∙ subst (λ j. made j (h ∷ t) ≡ x ∷ more) (sym e) (each i bi ∙ first)) in
      let same : h ≡ x = cc in
      record {
        tail = t;
        rest_is = ap (λ z. z ∷ t) same;
        own = (let p : made i t ≡ more = cc in p);
        others = λ k bk other. sym (skip k h t (λ q. other (sym q ∙ e))) ∙ each k bk;
      })
      (λ (e : node h ≢ i).
      let mine : made i t ≡ x ∷ more = sym (skip i h t e) ∙ each i bi ∙ first in
      let hx = first_behind h x i t more s.0 mine in
      let xh = before (node h) u.0 e h (made (node h) t)
      (sym (each (node h) u.0) ∙ made_here h t) in
      absurd (both_ways x h xh hx)) (cases_eq (node h) i)
    where
      skip : (k : ℕ) (y : A) (ys : List A) → node y ≢ k → made k (y ∷ ys) ≡ made k ys
      skip k y ys other = rw (ne_eqb (node y) k other) refl

  -- nothing is left where nothing is left to any node
  pub none_left : (n : ℕ) (rest : List A) → AreMadeBelow stamp node n rest
      → ((k : ℕ) → k < n → made k rest ≡ []) → rest ≡ []
  none_left n [] u each = refl
  none_left n (h ∷ t) u each = absurd
      (let e : h ∷ made (node h) t ≡ [] = sym (made_here h t) ∙ each (node h) u.0 in cc)
