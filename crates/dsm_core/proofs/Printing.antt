-- The bytes of the nodes, sorted by (stamp, node), are those that the own run prints.
use Rattle.std.proofs.Common.{◌≡◌, ℕ, zero, suc, ◌+◌, ◌*◌, ◌<◌, ◌≤◌, ◌&&◌, Bool, true, false, cond, eqb, None, List, [], ◌∷◌, ◌++◌, map, length, get_or, refl, sym, ap, ap₂, ◌∙◌, subst, inl, inr, ◌⊎◌, ⊎_elim, arith, eq-eqb, eqb-true}
use Rattle.std.specs.List.{sum_by, range_with_len}
use Rattle.std.specs.List.Sorted.{IsPermutation, IsNonDecreasingBy}
use Rattle.std.proofs.lemmas.Bool.Decides.{eqb_tells}
use Rattle.std.proofs.lemmas.List.Sums.{sum_by-cons}
use Rattle.std.proofs.lemmas.List.Sorted.{sum_by-IsPermutation}
use Rattle.run_order.specs.node_model.declared.OutByte.{OutByte}
use Rattle.run_order.specs.node_model.declared.Standing.TheVariants.{Over, AtPoll, Running as Going}
use Rattle.run_order.specs.node_model.Node.{Work, Node, Phase, Running, Resumed, Waiting, Ended, end_of, standing_in, standing_of, is_at_poll}
use Rattle.run_order.specs.node_model.Core.{Core, AreAlike}
use Rattle.run_order.specs.Sorted.{Precedes, PrecedesAll, AreSorted, AreMadeBelow, made_by}
use Rattle.run_order.specs.Merge.{Printed, AreMerged, stamp_of, printer, byte_in, printed_of as merge_of}
use Rattle.dsm_core.specs.declared.outcome.Printed.{Printed as Stored}
use Rattle.dsm_core.specs.Printing.{printed_of, printed_below, place_of, byte_of}

-- 1. Sums over lists, which do not depend on the order

abbrev pub weigh : {X : Type 0} → (X → ℕ) → List X → ℕ
weigh f [] = 0
weigh f (x ∷ xs) = f x + weigh f xs

weigh_sum : {X : Type 0} (f : X → ℕ) (xs : List X) → weigh f xs ≡ sum_by f xs
weigh_sum f [] = refl
weigh_sum f (x ∷ xs) = ap (λ z. f x + z) (weigh_sum f xs) ∙ sym (sum_by-cons f x xs)

weigh_moved : {X : Type 0} (f : X → ℕ) (xs ys : List X) → IsPermutation xs ys
    → weigh f ys ≡ weigh f xs
weigh_moved f xs ys moved =
    weigh_sum f ys ∙ sum_by-IsPermutation f xs ys moved ∙ sym (weigh_sum f xs)

weigh_append : {X : Type 0} (f : X → ℕ) (xs ys : List X)
    → weigh f (xs ++ ys) ≡ weigh f xs + weigh f ys
weigh_append f [] ys = omega arith
weigh_append f (x ∷ xs) ys = joined (f x) (weigh f (xs ++ ys)) (weigh f xs) (weigh f ys)
    (weigh_append f xs ys)
  where
    joined : (a b c d : ℕ) → b ≡ c + d → a + b ≡ (a + c) + d
    joined a b c d e = omega arith

weigh_map : {X Y : Type 0} (f : Y → ℕ) (g : X → Y) (xs : List X)
    → weigh f (map g xs) ≡ weigh (λ x. f (g x)) xs
weigh_map f g [] = refl
weigh_map f g (x ∷ xs) = ap (λ z. f (g x) + z) (weigh_map f g xs)

-- 2. What the nodes below k printed, summed

abbrev made : ℕ → List Printed → List Printed
made i xs = made_by stamp_of printer i xs

-- the sum over what the nodes below k made
abbrev total : (Printed → ℕ) → ℕ → List Printed → ℕ
total f zero xs = 0
total f (suc k) xs = total f k xs + weigh f (made k xs)

total_none : (f : Printed → ℕ) (k : ℕ) → total f k [] ≡ 0
total_none f zero = refl
total_none f (suc k) = ap (λ z. z + 0) (total_none f k)

total_past : (f : Printed → ℕ) (k : ℕ) (x : Printed) (xs : List Printed) → k ≤ x.node
    → total f k (x ∷ xs) ≡ total f k xs
total_past f zero x xs le = refl
total_past f (suc k) x xs le = elim (eqb_tells x.node k) [
  | inl t ↦ absurd (let same = t.1 in omega (arith, same, le))
  | inr t ↦ ap₂ (λ a b. a + b) (total_past f k x xs (omega (arith, le)))
      (ap (λ b. weigh f (cond b (x ∷ made k xs) (made k xs))) t.0)
]

total_more : (f : Printed → ℕ) (k : ℕ) (x : Printed) (xs : List Printed) → x.node < k
    → total f k (x ∷ xs) ≡ f x + total f k xs
total_more f zero x xs lt = absurd (omega (arith, lt))
total_more f (suc k) x xs lt = elim (eqb_tells x.node k) [
  | inl t ↦ ap₂ (λ a b. a + b)
      (total_past f k x xs (let same = t.1 in omega (arith, same)))
      (ap (λ b. weigh f (cond b (x ∷ made k xs) (made k xs))) t.0)
      ∙ at_last (total f k xs) (f x) (weigh f (made k xs))
  | inr t ↦ ap₂ (λ a b. a + b)
      (total_more f k x xs (let other = t.1 in omega (arith, other, lt)))
      (ap (λ b. weigh f (cond b (x ∷ made k xs) (made k xs))) t.0)
      ∙ before (f x) (total f k xs) (weigh f (made k xs))
]
  where
    at_last : (a b c : ℕ) → a + (b + c) ≡ b + (a + c)
    at_last a b c = omega arith

    before : (a b c : ℕ) → (a + b) + c ≡ a + (b + c)
    before a b c = omega arith

total_all : (f : Printed → ℕ) (n : ℕ) (xs : List Printed)
    → AreMadeBelow stamp_of printer n xs → total f n xs ≡ weigh f xs
total_all f n [] below = total_none f n
total_all f n (x ∷ xs) below =
    total_more f n x xs below.0 ∙ ap (λ z. f x + z) (total_all f n xs below.1)

-- the stored bytes as those of the merge
abbrev pub merge_form : Stored → Printed
merge_form p = record { stamp = p.stamp; node = p.node; byte = p.byte }

weigh_output : (f : Printed → ℕ) (i : ℕ) (os : List OutByte)
    → weigh (λ x. f (merge_form x)) (map (printed_of i) os) ≡ weigh f (map (merge_of i) os)
weigh_output f i [] = refl
weigh_output f i (o ∷ os) = ap (λ z. f (merge_of i o) + z) (weigh_output f i os)

weigh_below : (f : Printed → ℕ) (nodes : ℕ → Node) (k : ℕ) (xs : List Printed)
    → ((i : ℕ) → i < k → made i xs ≡ map (merge_of i) (nodes i).output)
    → weigh (λ x. f (merge_form x)) (printed_below nodes k) ≡ total f k xs
weigh_below f nodes zero xs each = refl
weigh_below f nodes (suc k) xs each =
    weigh_append (λ x. f (merge_form x)) (printed_below nodes k)
    (map (printed_of k) (nodes k).output) ∙ ap₂ (λ a b. a + b)
    (weigh_below f nodes k xs (λ i lt. each i (omega (arith, lt))))
    (weigh_output f k (nodes k).output ∙ ap (weigh f) (sym (each k (omega arith))))

-- 3. One order

abbrev place : Printed → ℕ
place p = p.stamp * 256 + p.node

abbrev AtLeast : ℕ → List Printed → Type 0
AtLeast k [] = Unit {0}
AtLeast k (x ∷ xs) = (k ≤ place x) × AtLeast k xs

abbrev Rises : List Printed → Type 0
Rises [] = Unit {0}
Rises (x ∷ xs) = AtLeast (place x) xs × Rises xs

abbrev Member : Printed → List Printed → Type 0
Member x [] = ⊥
Member x (y ∷ ys) = (x ≡ y) ⊎ Member x ys

-- whether two are the same
abbrev same : Printed → Printed → Bool
same p q = eqb p.stamp q.stamp && (eqb p.node q.node && eqb p.byte q.byte)

same_self : (p : Printed) → same p p ≡ true
same_self p = rw (eq-eqb p.stamp p.stamp refl) (rw (eq-eqb p.node p.node refl)
    (eq-eqb p.byte p.byte refl))

same_is : (p q : Printed) (a b c : Bool) → eqb p.stamp q.stamp ≡ a → eqb p.node q.node ≡ b
    → eqb p.byte q.byte ≡ c → (a && (b && c)) ≡ true → p ≡ q
same_is p q true true true i j k e =
    ap₂ (λ (s : ℕ) (r : ℕ × ℕ). let z : Printed = record { stamp = s; node = r.0; byte = r.1 } in z)
    (eqb-true p.stamp q.stamp i)
    (ap₂ (λ (n b : ℕ). let r : ℕ × ℕ = (n, b) in r) (eqb-true p.node q.node j)
    (eqb-true p.byte q.byte k))
same_is p q true true false i j k e = absurd (let f : false ≡ true = e in cc)
same_is p q true false c i j k e = absurd (let f : false ≡ true = e in cc)
same_is p q false b c i j k e = absurd (let f : false ≡ true = e in cc)

abbrev one_at : Printed → Printed → ℕ
one_at p q = cond (same p q) 1 0

found : (p : Printed) (xs : List Printed) → 0 < weigh (one_at p) xs → Member p xs
found p [] some = absurd (omega (arith, some))
found p (x ∷ xs) some =
    (elim (same p x) as (λ b. same p x ≡ b → 0 < cond b 1 0 + weigh (one_at p) xs
    → Member p (x ∷ xs)) [
      | true ↦ (λ e some. inl (same_is p x (eqb p.stamp x.stamp) (eqb p.node x.node)
          (eqb p.byte x.byte) refl refl refl e))
      | false ↦ (λ e some. inr (found p xs (less (weigh (one_at p) xs) some)))
    ]) refl some
  where
    less : (a : ℕ) → 0 < 0 + a → 0 < a
    less a h = omega (arith, h)

found_head : (p : Printed) (xs ys : List Printed)
    → weigh (one_at p) (p ∷ xs) ≡ weigh (one_at p) ys → Member p ys
found_head p xs ys e = found p ys (more (weigh (one_at p) xs) (weigh (one_at p) ys)
    (ap (λ b. cond b 1 0 + weigh (one_at p) xs) (sym (same_self p)) ∙ e))
  where
    more : (a b : ℕ) → 1 + a ≡ b → 0 < b
    more a b e = omega (arith, e)

at_least : (k : ℕ) (x : Printed) (xs : List Printed) → AtLeast k xs → Member x xs → k ≤ place x
at_least k x [] all m = absurd m
at_least k x (y ∷ ys) all m =
    ⊎_elim (λ (e : x ≡ y). subst (λ (z : Printed). k ≤ place z) (sym e) all.0)
    (λ (m : Member x ys). at_least k x ys all.1 m) m

precedes : (x y : Printed) → x.node < 256 → Precedes stamp_of printer x y → place x < place y
precedes x y few p = ⊎_elim (λ (a : x.stamp < y.stamp). omega (arith, few, a))
    (λ (a : (x.stamp ≡ y.stamp) × (x.node < y.node)). let s = a.0 in let l = a.1 in
    omega (arith, s, l)) p

above : (x y : Printed) (ys : List Printed) → x.node < 256
    → PrecedesAll stamp_of printer x ys → Member y ys → place x < place y
above x y [] few p m = absurd m
above x y (z ∷ ys) few p m =
    ⊎_elim (λ (e : y ≡ z). subst (λ (w : Printed). place x < place w) (sym e)
    (precedes x z few p.0))
    (λ (m : Member y ys). above x y ys few p.1 m) m

same_head : (n : ℕ) (x y : Printed) (xs ys : List Printed) → n ≤ 256
    → AreSorted stamp_of printer (x ∷ xs) → AreMadeBelow stamp_of printer n (x ∷ xs)
    → Rises (y ∷ ys) → Member x (y ∷ ys) → Member y (x ∷ xs) → x ≡ y
same_head n x y xs ys few sorted below rises mx my =
    let low = below.0 in
    ⊎_elim (λ (e : x ≡ y). e) (λ (m : Member x ys). ⊎_elim (λ (e : y ≡ x). sym e)
    (λ (o : Member y xs). absurd (let a = at_least (place y) x ys rises.0 m in
    let b = above x y xs (omega (arith, few, low)) sorted.0 o in
    apart (place x) (place y) a b)) my) mx
  where
    apart : (a b : ℕ) → b ≤ a → a < b → ⊥
    apart a b p q = omega (arith, p, q)

one_order : (n : ℕ) (xs ys : List Printed) → n ≤ 256
    → AreSorted stamp_of printer xs → AreMadeBelow stamp_of printer n xs → Rises ys
    → ((f : Printed → ℕ) → weigh f xs ≡ weigh f ys) → xs ≡ ys
one_order n [] [] few sorted below rises e = refl
one_order n [] (y ∷ ys) few sorted below rises e = absurd
    (none (weigh (λ z. 1) ys) (e (λ z. 1)))
  where
    none : (a : ℕ) → 0 ≡ 1 + a → ⊥
    none a h = omega (arith, h)
one_order n (x ∷ xs) [] few sorted below rises e = absurd
    (none (weigh (λ z. 1) xs) (e (λ z. 1)))
  where
    none : (a : ℕ) → 1 + a ≡ 0 → ⊥
    none a h = omega (arith, h)
one_order n (x ∷ xs) (y ∷ ys) few sorted below rises e =
    let head = same_head n x y xs ys few sorted below rises
    (found_head x xs (y ∷ ys) (e (one_at x))) (found_head y ys (x ∷ xs) (sym (e (one_at y)))) in
    ap₂ (λ (z : Printed) (zs : List Printed). z ∷ zs) head
    (one_order n xs ys few sorted.1 below.1 rises.1 (λ f. cancel (f x) (weigh f xs) (weigh f ys)
    (e f ∙ ap (λ (z : Printed). f z + weigh f ys) (sym head))))
  where
    cancel : (a b c : ℕ) → a + b ≡ a + c → b ≡ c
    cancel a b c h = omega (arith, h)

-- 4. A sort by the place

at_least_sorted : (k : ℕ) (xs : List Stored)
    → ((j : ℕ) (d : Stored) → j < length xs → k ≤ place_of (get_or xs j d))
    → AtLeast k (map merge_form xs)
at_least_sorted k [] all = tt
at_least_sorted k (x ∷ xs) all = (
  all zero x (omega arith),
  at_least_sorted k xs (λ j d lt. all (suc j) d (omega (arith, lt))),
)

rises_sorted : (xs : List Stored) → IsNonDecreasingBy place_of xs → Rises (map merge_form xs)
rises_sorted [] up = tt
rises_sorted (x ∷ xs) up = (
  at_least_sorted (place_of x) xs
      (λ j d lt. up zero (suc j) d (omega arith) (omega (arith, lt))),
  rises_sorted xs (λ i j d le lt. up (suc i) (suc j) d (omega (arith, le)) (omega (arith, lt))),
)

bytes_in : (xs : List Stored) → map byte_of xs ≡ map byte_in (map merge_form xs)
bytes_in [] = refl
bytes_in (x ∷ xs) = ap (λ z. x.byte ∷ z) (bytes_in xs)

-- the bytes of the nodes, sorted by their place, are their merge
pub sorted_is : (n : ℕ) (nodes : ℕ → Node) (all sorted : List Stored) (merge : List Printed)
    → n ≤ 256 → all ≡ printed_below nodes n → IsPermutation all sorted
    → IsNonDecreasingBy place_of sorted → AreMerged n nodes merge
    → map byte_of sorted ≡ map byte_in merge
sorted_is n nodes all sorted merge few is moved up are =
    bytes_in sorted ∙ ap (map byte_in) (sym (one_order n merge (map merge_form sorted) few
    are.sorted are.below (rises_sorted sorted up) (λ f.
    sym (total_all f n merge are.below) ∙ sym (weigh_below f nodes n merge are.each)
    ∙ ap (weigh (λ x. f (merge_form x))) (sym is)
    ∙ sym (weigh_moved (λ x. f (merge_form x)) all sorted moved)
    ∙ sym (weigh_map f merge_form sorted))))

-- 5. A node that is over has ended

over_in : (work : Work) (n : Node) (p : Phase) → standing_in work n p ≡ Over → end_of p ≡ None → ⊥
over_in work n Running over none =
    (elim (is_at_poll work n) as (λ b. cond b AtPoll Going ≡ Over → ⊥)
    [ true ↦ (λ e. cc) | false ↦ (λ e. cc) ]) over
over_in work n Resumed over none = absurd cc
over_in work n (Waiting resume) over none = absurd cc
over_in work n (Ended end) over none = absurd cc

pub over_ends : (work : Work) (n : Node) → standing_of work n ≡ Over → end_of n.phase ≡ None → ⊥
over_ends work n over none = over_in work n n.phase over none

-- 6. What two cores that are alike say of their nodes

map_below : {X : Type 0} (f g : ℕ → X) (a k : ℕ) → ((i : ℕ) → i < a + k → f i ≡ g i)
    → map f (range_with_len a k) ≡ map g (range_with_len a k)
map_below f g a zero same = refl
map_below {X} f g a (suc k) same = ap₂ (λ (x : X) (xs : List X). x ∷ xs)
    (same a (omega arith)) (map_below f g (a + 1) k (λ i lt. same i (omega (arith, lt))))

-- the same is told of the nodes of the core that another is like
pub same_below : {X : Type 0} (n : ℕ) (f : Node → X) (c d : Core) → AreAlike n d c
    → map (λ i. f (c.nodes i)) (range_with_len 0 n) ≡ map (λ i. f (d.nodes i)) (range_with_len 0 n)
same_below n f c d alike = map_below (λ i. f (c.nodes i)) (λ i. f (d.nodes i)) 0 n
    (λ i lt. ap f (sym (alike.nodes i (omega (arith, lt)))))
