-- The events that are allowed, as a list.
use Rattle.std.proofs.Common.{◌≡◌, ◌≢◌, ◌↔◌, ℕ, zero, suc, ◌+◌, ◌<◌, ◌≤◌, Bool, true, false, cond, ◌&&◌, List, [], ◌∷◌, ◌++◌, map, Some, refl, sym, ap, ◌∙◌, subst, inl, inr, arith, append_assoc}
use Rattle.std.specs.Prelude.{slice_get, filter}
use Rattle.std.specs.List.{flat_map, range_with_len}
use Rattle.std.proofs.lemmas.List.{append-nil}
use Rattle.std.proofs.lemmas.List.FromFn.{filter_of_map_range_with_len_more}
use Rattle.std.proofs.lemmas.List.Elements.{filter-append}
use Rattle.std.proofs.lemmas.Bool.Decides.{eqb_tells}
use Rattle.lane_model.specs.node_model.Core.{may_execute}
use Rattle.lane_model.specs.Nodes.{LaneWork, processors, node_of, lane_of}
use Rattle.lane_model.specs.Core.{LaneCore, LaneEvent, Exec, Take, May, is_over, may_take_first, standing_of}
use Rattle.lane_law.specs.Law.{AreAllOver, GoesOn}
use Rattle.shared_sim.specs.ByOrder.{has_wire}
use Rattle.shared_sim.proofs.Choices.{both_true, has_some, nil_parts, some_wire}
use Rattle.smp_sim.specs.CoreParts.{AreAlike}
use Rattle.smp_sim.proofs.CoreRuns.{placed}
use Rattle.smp_sim.specs.ByOrder.{all_events, choices, is_allowed, takes_at}
use Rattle.smp_sim.specs.Listing.{IsThere}

-- 1. Events of processors and nodes that are there

abbrev pub AllThere : LaneWork → List LaneEvent → Type 0
AllThere w [] = Unit {0}
AllThere w (e ∷ es) = IsThere w e × AllThere w es

there_append : (w : LaneWork) (xs ys : List LaneEvent) → AllThere w xs → AllThere w ys
    → AllThere w (xs ++ ys)
there_append w [] ys a b = b
there_append w (x ∷ xs) ys a b = (a.0, there_append w xs ys a.1 b)

words_there : (w : LaneWork) (a k : ℕ) → a + k ≤ processors w
    → AllThere w (map (λ p. Exec p) (range_with_len a k))
words_there w a zero room = tt
words_there w a (suc k) room =
    let low : a < processors w = omega (arith, room) in
    (low, words_there w (a + 1) k (omega (arith, room)))

takes_there : (w : LaneWork) (i a k : ℕ) → i < w.work.layout.nodes → a + k ≤ w.work.layout.nodes
    → AllThere w (map (λ j. Take i j) (range_with_len a k))
takes_there w i a zero low room = tt
takes_there w i a (suc k) low room =
    ((low, omega (arith, room)), takes_there w i (a + 1) k low (omega (arith, room)))

nodes_there : (w : LaneWork) (a k : ℕ) → a + k ≤ w.work.layout.nodes
    → AllThere w (flat_map (takes_at w.work.layout.nodes) (range_with_len a k))
nodes_there w a zero room = tt
nodes_there w a (suc k) room =
    let n = w.work.layout.nodes in
    there_append w (takes_at n a) (flat_map (takes_at n) (range_with_len (a + 1) k))
    (takes_there w a 0 n (omega (arith, room)) (omega arith))
    (nodes_there w (a + 1) k (omega (arith, room)))

pub all_there : (w : LaneWork) → AllThere w (all_events w)
all_there w =
    let n = w.work.layout.nodes in
    there_append w (map (λ p. Exec p) (range_with_len 0 (processors w)))
    (flat_map (takes_at n) (range_with_len 0 n))
    (words_there w 0 (processors w) (omega arith)) (nodes_there w 0 n (omega arith))

-- 2. Cores that are alike have the same choices

pub same_filtered : (w : LaneWork) (f g : LaneEvent → Bool) (xs : List LaneEvent) → AllThere w xs
    → ((e : LaneEvent) → IsThere w e → f e ≡ g e) → filter f xs ≡ filter g xs
same_filtered w f g [] there same = refl
same_filtered w f g (x ∷ xs) there same =
    let rest = same_filtered w f g xs there.1 same in
    λ t. cond (same x there.0 t) (x ∷ rest t) (rest t)

allowed_alike : (w : LaneWork) (c d : LaneCore) → 0 < w.lanes → AreAlike w.work.layout.nodes c d
    → (e : LaneEvent) → IsThere w e → is_allowed w c e ≡ is_allowed w d e
allowed_alike w c d some a (Exec p) low =
    ap (λ x. may_execute (standing_of w x (lane_of w p))) (a.nodes (node_of w p) (placed w p some low))
allowed_alike w c d some a (Take i j) low =
    λ t. has_wire (a.lists j i low.1 low.0 t)
    && may_take_first w (a.nodes i low.0 t) (a.lists j i low.1 low.0 t)

pub choices_alike : (w : LaneWork) (c d : LaneCore) → 0 < w.lanes
    → AreAlike w.work.layout.nodes c d → choices w c ≡ choices w d
choices_alike w c d some a =
    same_filtered w (is_allowed w c) (is_allowed w d) (all_events w) (all_there w)
    (allowed_alike w c d some a)

-- 3. A choice is an event that is allowed

allowed_may : (w : LaneWork) (c : LaneCore) (e : LaneEvent) → IsThere w e
    → is_allowed w c e ≡ true → May w c e
allowed_may w c (Exec p) low can = (low, can)
allowed_may w c (Take i j) low can =
    let both = both_true (has_wire (c.list j i)) (may_take_first w (c.nodes i) (c.list j i)) can in
    (low.0, low.1, some_wire (c.list j i) both.0, both.1)

may_there : (w : LaneWork) (c : LaneCore) (e : LaneEvent) → May w c e → IsThere w e
may_there w c (Exec p) may = may.0
may_there w c (Take i j) may = (may.0, may.1)

may_allowed : (w : LaneWork) (c : LaneCore) (e : LaneEvent) → May w c e → is_allowed w c e ≡ true
may_allowed w c (Exec p) may = may.1
may_allowed w c (Take i j) may = λ t. has_some (c.list j i) may.2 t && may.3 t

abbrev pub AllMay : LaneWork → LaneCore → List LaneEvent → Type 0
AllMay w c [] = Unit {0}
AllMay w c (e ∷ es) = May w c e × AllMay w c es

chosen_one : (w : LaneWork) (c : LaneCore) (x : LaneEvent) (rest : List LaneEvent) (t : Bool)
    → is_allowed w c x ≡ t → IsThere w x → AllMay w c rest → AllMay w c (cond t (x ∷ rest) rest)
chosen_one w c x rest true is low all = (allowed_may w c x low is, all)
chosen_one w c x rest false is low all = all

chosen_may : (w : LaneWork) (c : LaneCore) (xs : List LaneEvent) → AllThere w xs
    → AllMay w c (filter (is_allowed w c) xs)
chosen_may w c [] there = tt
chosen_may w c (x ∷ xs) there =
    chosen_one w c x (filter (is_allowed w c) xs) (is_allowed w c x) refl there.0
    (chosen_may w c xs there.1)

one_may : (w : LaneWork) (c : LaneCore) (xs : List LaneEvent) (k : ℕ) (e : LaneEvent)
    → AllMay w c xs → slice_get xs k ≡ Some e → May w c e
one_may w c [] k e all here = absurd (cc)
one_may w c (x ∷ xs) zero e all here = let is : x ≡ e = cc in subst (May w c) is all.0
one_may w c (x ∷ xs) (suc k) e all here = one_may w c xs k e all.1 here

pub choice_may : (w : LaneWork) (c : LaneCore) (k : ℕ) (e : LaneEvent)
    → slice_get (choices w c) k ≡ Some e → May w c e
choice_may w c k e here =
    one_may w c (choices w c) k e (chosen_may w c (all_events w) (all_there w)) here

-- 4. Where there is no choice every node is over

head_false : (t : Bool) (x : LaneEvent) (xs : List LaneEvent) → cond t (x ∷ xs) xs ≡ []
    → (t ≡ false) × (xs ≡ [])
head_false true x xs e = absurd (cc)
head_false false x xs e = (refl, e)

above : (a i : ℕ) → a ≤ i → i ≢ a → a + 1 ≤ i
above a i low apart = omega (arith, apart, low)

none_in : (f : LaneEvent → Bool) (g : ℕ → List LaneEvent) (a k i : ℕ) → a ≤ i → i < a + k
    → filter f (flat_map g (range_with_len a k)) ≡ [] → filter f (g i) ≡ []
none_in f g a zero i low high none = absurd (omega (arith, low, high))
none_in f g a (suc k) i low high none =
    let more = flat_map g (range_with_len (a + 1) k) in
    let parts = nil_parts (filter f (g a)) (filter f more) (sym (filter-append f (g a) more) ∙ none) in
    elim (eqb_tells i a) [
      | inl e ↦ subst (λ z. filter f (g z) ≡ []) (sym e.1) parts.0
      | inr e ↦ none_in f g (a + 1) k i (above a i low e.1) (omega (arith, high)) parts.1
    ]

none_at : (f : LaneEvent → Bool) (g : ℕ → LaneEvent) (a k j : ℕ) → a ≤ j → j < a + k
    → filter f (map g (range_with_len a k)) ≡ [] → f (g j) ≡ false
none_at f g a zero j low high none = absurd (omega (arith, low, high))
none_at f g a (suc k) j low high none =
    let parts = head_false (f (g a)) (g a) (filter f (map g (range_with_len (a + 1) k))) none in
    elim (eqb_tells j a) [
      | inl e ↦ ap (λ z. f (g z)) e.1 ∙ parts.0
      | inr e ↦ none_at f g (a + 1) k j (above a j low e.1) (omega (arith, high)) parts.1
    ]

none_allowed : (w : LaneWork) (c : LaneCore) (e : LaneEvent) → IsThere w e → choices w c ≡ []
    → is_allowed w c e ≡ false
none_allowed w c e low none =
    let n = w.work.layout.nodes in
    let f = is_allowed w c in
    let words = map (λ p. Exec p) (range_with_len 0 (processors w)) in
    let takes = flat_map (takes_at n) (range_with_len 0 n) in
    let parts = nil_parts (filter f words) (filter f takes) (sym (filter-append f words takes) ∙ none) in
    go e low parts.0 parts.1
  where
    go : (x : LaneEvent) → IsThere w x
        → filter (is_allowed w c) (map (λ p. Exec p) (range_with_len 0 (processors w))) ≡ []
        → filter (is_allowed w c)
        (flat_map (takes_at w.work.layout.nodes) (range_with_len 0 w.work.layout.nodes)) ≡ []
        → is_allowed w c x ≡ false
    go (Exec p) here words takes =
        none_at (is_allowed w c) (λ q. Exec q) 0 (processors w) p (omega arith) (omega (arith, here)) words
    go (Take i j) here words takes =
        let n = w.work.layout.nodes in
        let bi : i < n = here.0 in
        let bj : j < n = here.1 in
        none_at (is_allowed w c) (λ k. Take i k) 0 n j (omega arith) (omega (arith, bj))
        (none_in (is_allowed w c) (takes_at n) 0 n i (omega arith) (omega (arith, bi)) takes)

nothing_may : (w : LaneWork) (c : LaneCore) (e : LaneEvent) → choices w c ≡ [] → May w c e → ⊥
nothing_may w c e none may =
    let no = none_allowed w c e (may_there w c e may) none in
    let both : true ≡ false = sym (may_allowed w c e may) ∙ no in
    absurd (cc)

pub over_without : (w : LaneWork) (c : LaneCore) → choices w c ≡ [] → GoesOn w c → AreAllOver w c
over_without w c none goes_on i low = go (is_over w (c.nodes i)) refl
  where
    go : (b : Bool) → is_over w (c.nodes i) ≡ b → is_over w (c.nodes i) ≡ true
    go true is = is
    go false is = let next = goes_on i low is in absurd (nothing_may w c next.0 none next.1)

-- 5. What a core tells of an event

not_told : (w : LaneWork) (c : LaneCore) (e : LaneEvent) (t : Bool) → IsThere w e
    → (May w c e → false ≡ true) → is_allowed w c e ≡ t → is_allowed w c e ≡ false
not_told w c e true low deny is =
    let both : false ≡ true = deny (allowed_may w c e low is) in absurd (cc)
not_told w c e false low deny is = is

pub told : (w : LaneWork) (c : LaneCore) (e : LaneEvent) (b : Bool) → IsThere w e
    → ((b ≡ true) ↔ May w c e) → is_allowed w c e ≡ b
told w c e true low iff = may_allowed w c e (iff.0 refl)
told w c e false low iff = not_told w c e (is_allowed w c e) low iff.1 refl

-- 6. Longer lists

pub one_more : (f : LaneEvent → Bool) (g : ℕ → LaneEvent) (j : ℕ) (before now old : List LaneEvent)
    → old ≡ before ++ filter f (map g (range_with_len 0 j)) → now ≡ old ++ filter f (g j ∷ [])
    → now ≡ before ++ filter f (map g (range_with_len 0 (j + 1)))
one_more f g j before now old listed more =
    let front = filter f (map g (range_with_len 0 j)) in
    more ∙ ap (λ xs. xs ++ filter f (g j ∷ [])) listed
    ∙ append_assoc before front (filter f (g j ∷ []))
    ∙ ap (λ xs. before ++ xs) (sym (filter_of_map_range_with_len_more f g 0 j j (omega arith)))

pub node_more : (f : LaneEvent → Bool) (g : ℕ → List LaneEvent) (i : ℕ)
    (before now old : List LaneEvent)
    → old ≡ before ++ filter f (flat_map g (range_with_len 0 i)) → now ≡ old ++ filter f (g i)
    → now ≡ before ++ filter f (flat_map g (range_with_len 0 (i + 1)))
node_more f g i before now old listed more =
    let front = filter f (flat_map g (range_with_len 0 i)) in
    let next : suc i ≡ i + 1 = omega arith in
    more ∙ ap (λ xs. xs ++ filter f (g i)) listed ∙ append_assoc before front (filter f (g i))
    ∙ ap (λ xs. before ++ xs) (sym (longer 0 i i (omega arith)))
    ∙ ap (λ z. before ++ filter f (flat_map g (range_with_len 0 z))) next
  where
    longer : (a k j : ℕ) → a + k ≡ j → filter f (flat_map g (range_with_len a (suc k)))
        ≡ filter f (flat_map g (range_with_len a k)) ++ filter f (g j)
    longer a zero j is =
        let last : a ≡ j = omega (arith, is) in
        ap (filter f) (append-nil (g a)) ∙ ap (λ z. filter f (g z)) last
    longer a (suc k) j is =
        let first = filter f (g a) in
        let rest = flat_map g (range_with_len (a + 1) k) in
        filter-append f (g a) (flat_map g (range_with_len (a + 1) (suc k)))
        ∙ ap (λ xs. first ++ xs) (longer (a + 1) k j (omega (arith, is)))
        ∙ sym (append_assoc first (filter f rest) (filter f (g j)))
        ∙ ap (λ xs. xs ++ filter f (g j)) (sym (filter-append f (g a) rest))
