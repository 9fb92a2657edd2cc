-- The events that are allowed, as a list.
use Rattle.std.proofs.Common.{◌≡◌, ◌≢◌, ◌↔◌, ℕ, zero, suc, ◌+◌, ◌<◌, ◌≤◌, Bool, true, false, cond, ◌&&◌, List, [], ◌∷◌, ◌++◌, map, Some, refl, sym, ap, ◌∙◌, subst, inl, inr, arith, append_assoc}
use Rattle.std.specs.Prelude.{slice_get, filter}
use Rattle.std.specs.List.{flat_map, range_with_len}
use Rattle.std.proofs.lemmas.List.{append-nil}
use Rattle.std.proofs.lemmas.List.FromFn.{filter_of_map_range_with_len_more}
use Rattle.std.proofs.lemmas.List.Elements.{filter-append}
use Rattle.std.proofs.lemmas.Bool.Decides.{eqb_tells}
use Rattle.dsm_core.specs.dsm_messages.declared.messages.Wire.{Wire}
use Rattle.dsm_core.specs.node_model.Node.{Work, Node, standing_of}
use Rattle.dsm_core.specs.node_model.Turns.{Turn, silent, word_turn}
use Rattle.dsm_core.specs.node_model.Core.{Core, Event, Exec, Take, May, may_execute, may_take, event_step, wires_to, AreAlike}
use Rattle.shared_sim.specs.ByOrder.{events_at, all_events, has_wire, is_allowed, choices}
use Rattle.shared_sim.specs.Turns.{HasNoMail}

-- 1. Events of nodes below n

abbrev pub IsBelow : ℕ → Event → Type 0
IsBelow n (Exec i) = i < n
IsBelow n (Take i j) = (i < n) × (j < n)

abbrev pub AllBelow : ℕ → List Event → Type 0
AllBelow n [] = Unit {0}
AllBelow n (e ∷ es) = IsBelow n e × AllBelow n es

below_append : (n : ℕ) (xs ys : List Event) → AllBelow n xs → AllBelow n ys → AllBelow n (xs ++ ys)
below_append n [] ys a b = b
below_append n (x ∷ xs) ys a b = (a.0, below_append n xs ys a.1 b)

pub takes_below : (n i a k : ℕ) → i < n → a + k ≤ n
    → AllBelow n (map (λ j. Take i j) (range_with_len a k))
takes_below n i a zero low room = tt
takes_below n i a (suc k) low room =
    ((low, omega arith), takes_below n i (a + 1) k low (omega arith))

events_below : (n a k : ℕ) → a + k ≤ n
    → AllBelow n (flat_map (events_at n) (range_with_len a k))
events_below n a zero room = tt
events_below n a (suc k) room =
    below_append n (events_at n a) (flat_map (events_at n) (range_with_len (a + 1) k))
    (omega arith, takes_below n a 0 n (omega arith) (omega arith))
    (events_below n (a + 1) k (omega arith))

pub all_below : (n : ℕ) → AllBelow n (all_events n)
all_below n = events_below n 0 n (omega arith)

pub same_filtered : (n : ℕ) (p q : Event → Bool) (xs : List Event) → AllBelow n xs
    → ((e : Event) → IsBelow n e → p e ≡ q e) → filter p xs ≡ filter q xs
same_filtered n p q [] below same = refl
same_filtered n p q (x ∷ xs) below same =
    let rest = same_filtered n p q xs below.1 same in
    λ t. cond (same x below.0 t) (x ∷ rest t) (rest t)

pub allowed_alike : (work : Work) (c d : Core) → AreAlike work.layout.nodes c d → (e : Event)
    → IsBelow work.layout.nodes e → is_allowed work c e ≡ is_allowed work d e
allowed_alike work c d a (Exec i) low = ap (λ (n : Node). may_execute (standing_of work n)) (a.nodes i low)
allowed_alike work c d a (Take i j) low =
    λ t. may_take (standing_of work (a.nodes i low.0 t)) && has_wire (a.lists j i low.1 low.0 t)

-- cores that are alike have the same choices
pub choices_alike : (work : Work) (c d : Core) → AreAlike work.layout.nodes c d
    → choices work c ≡ choices work d
choices_alike work c d a =
    same_filtered work.layout.nodes (is_allowed work c) (is_allowed work d)
    (all_events work.layout.nodes) (all_below work.layout.nodes) (allowed_alike work c d a)

-- 2. A choice is an event that is allowed

pub both_true : (x y : Bool) → (x && y) ≡ true → (x ≡ true) × (y ≡ true)
both_true true true e = (refl, refl)
both_true true false e = absurd (cc)
both_true false y e = absurd (cc)

pub and_false : (x y : Bool) → y ≡ false → (x && y) ≡ false
and_false true y e = e
and_false false y e = refl

pub some_wire : (ws : List Wire) → has_wire ws ≡ true → ws ≢ []
some_wire [] e none = absurd (cc)
some_wire (w ∷ ws) e none = absurd (cc)

pub has_some : (ws : List Wire) → ws ≢ [] → has_wire ws ≡ true
has_some [] some = absurd (some refl)
has_some (w ∷ ws) some = refl

pub allowed_may : (work : Work) (c : Core) (e : Event) → IsBelow work.layout.nodes e
    → is_allowed work c e ≡ true → May work c e
allowed_may work c (Exec i) low can = (low, can)
allowed_may work c (Take i j) low can =
    let both = both_true (may_take (standing_of work (c.nodes i))) (has_wire (c.list j i)) can in
    (low.0, low.1, both.0, some_wire (c.list j i) both.1)

pub may_below : (work : Work) (c : Core) (e : Event) → May work c e → IsBelow work.layout.nodes e
may_below work c (Exec i) may = may.0
may_below work c (Take i j) may = (may.0, may.1)

pub may_allowed : (work : Work) (c : Core) (e : Event) → May work c e → is_allowed work c e ≡ true
may_allowed work c (Exec i) may = may.1
may_allowed work c (Take i j) may = λ t. may.2 t && has_some (c.list j i) may.3 t

abbrev pub AllMay : Work → Core → List Event → Type 0
AllMay work c [] = Unit {0}
AllMay work c (e ∷ es) = May work c e × AllMay work c es

chosen_one : (work : Work) (c : Core) (x : Event) (rest : List Event) (t : Bool)
    → is_allowed work c x ≡ t → IsBelow work.layout.nodes x → AllMay work c rest
    → AllMay work c (cond t (x ∷ rest) rest)
chosen_one work c x rest true is low all = (allowed_may work c x low is, all)
chosen_one work c x rest false is low all = all

chosen_may : (work : Work) (c : Core) (xs : List Event) → AllBelow work.layout.nodes xs
    → AllMay work c (filter (is_allowed work c) xs)
chosen_may work c [] below = tt
chosen_may work c (x ∷ xs) below =
    chosen_one work c x (filter (is_allowed work c) xs) (is_allowed work c x) refl below.0
    (chosen_may work c xs below.1)

one_may : (work : Work) (c : Core) (xs : List Event) (k : ℕ) (e : Event) → AllMay work c xs
    → slice_get xs k ≡ Some e → May work c e
one_may work c [] k e all here = absurd (cc)
one_may work c (x ∷ xs) zero e all here = let is : x ≡ e = cc in subst (May work c) is all.0
one_may work c (x ∷ xs) (suc k) e all here = one_may work c xs k e all.1 here

pub choice_may : (work : Work) (c : Core) (k : ℕ) (e : Event) → slice_get (choices work c) k ≡ Some e
    → May work c e
choice_may work c k e here =
    one_may work c (choices work c) k e
    (chosen_may work c (all_events work.layout.nodes) (all_below work.layout.nodes)) here

-- 3. Where there is no choice, no event is allowed

pub nil_parts : {A : Type 0} (xs ys : List A) → xs ++ ys ≡ [] → (xs ≡ []) × (ys ≡ [])
nil_parts [] ys e = (refl, e)
nil_parts (x ∷ xs) ys e = absurd (cc)

pub head_false : (t : Bool) (x : Event) (xs : List Event) → cond t (x ∷ xs) xs ≡ []
    → (t ≡ false) × (xs ≡ [])
head_false true x xs e = absurd (cc)
head_false false x xs e = (refl, e)

pub none_in : (p : Event → Bool) (f : ℕ → List Event) (a k i : ℕ) → a ≤ i → i < a + k
    → filter p (flat_map f (range_with_len a k)) ≡ [] → filter p (f i) ≡ []
none_in p f a zero i low high none = absurd (omega arith)
none_in p f a (suc k) i low high none =
    let more = flat_map f (range_with_len (a + 1) k) in
    let parts = nil_parts (filter p (f a)) (filter p more) (sym (filter-append p (f a) more) ∙ none) in
    elim (eqb_tells i a) [
      | inl e ↦ subst (λ z. filter p (f z) ≡ []) (sym e.1) parts.0
      | inr e ↦ (let apart = e.1 in none_in p f (a + 1) k i (above a i low apart) (omega arith) parts.1)
    ]
  where
    above : (a i : ℕ) → a ≤ i → i ≢ a → a + 1 ≤ i
    above a i low apart = omega (arith, apart)

pub none_at : (p : Event → Bool) (g : ℕ → Event) (a k j : ℕ) → a ≤ j → j < a + k
    → filter p (map g (range_with_len a k)) ≡ [] → p (g j) ≡ false
none_at p g a zero j low high none = absurd (omega arith)
none_at p g a (suc k) j low high none =
    let parts = head_false (p (g a)) (g a) (filter p (map g (range_with_len (a + 1) k))) none in
    elim (eqb_tells j a) [
      | inl e ↦ ap (λ z. p (g z)) e.1 ∙ parts.0
      | inr e ↦ (let apart = e.1 in none_at p g (a + 1) k j (above a j low apart) (omega arith) parts.1)
    ]
  where
    above : (a i : ℕ) → a ≤ i → i ≢ a → a + 1 ≤ i
    above a i low apart = omega (arith, apart)

none_allowed : (work : Work) (c : Core) (e : Event) → IsBelow work.layout.nodes e
    → choices work c ≡ [] → is_allowed work c e ≡ false
none_allowed work c (Exec i) low none =
    let n = work.layout.nodes in
    let here = none_in (is_allowed work c) (events_at n) 0 n i (omega arith) (omega arith) none in
    (head_false (is_allowed work c (Exec i)) (Exec i) _ here).0
none_allowed work c (Take i j) low none =
    let n = work.layout.nodes in
    let bi = low.0 in
    let bj = low.1 in
    let here = none_in (is_allowed work c) (events_at n) 0 n i (omega arith) (omega arith) none in
    let takes = (head_false (is_allowed work c (Exec i)) (Exec i) _ here).1 in
    none_at (is_allowed work c) (λ k. Take i k) 0 n j (omega arith) (omega arith) takes

pub nothing_may : (work : Work) (c : Core) (e : Event) → choices work c ≡ [] → May work c e → ⊥
nothing_may work c e none may =
    let no = none_allowed work c e (may_below work c e may) none in
    let both : true ≡ false = sym (may_allowed work c e may) ∙ no in
    absurd (cc)

-- 4. A word that prints nothing and sends nothing

abbrev pub IsSilent : Work → Core → ℕ → Type 0
IsSilent work c i = word_turn work (c.nodes i) ≡ silent (word_turn work (c.nodes i)).node

abbrev pub after_word : Work → Core → ℕ → Core
after_word work c i = event_step work c (Exec i)

pub kept_list : (work : Work) (c : Core) (i j k : ℕ) → IsSilent work c i
    → (after_word work c i).list j k ≡ c.list j k
kept_list work c i j k still = elim (eqb_tells j i) [
  | inl e ↦ rw e.0 (ap (λ (t : Turn). c.list j k ++ wires_to (word_turn work (c.nodes i)).node.stamp k t.sends) still ∙ append-nil (c.list j k))
  | inr e ↦ rw e.0 refl
]

pub kept_node : (work : Work) (c : Core) (i k : ℕ) → k ≢ i
    → (after_word work c i).nodes k ≡ c.nodes k
kept_node work c i k apart = elim (eqb_tells k i) [ inl e ↦ absurd (apart e.1) | inr e ↦ rw e.0 refl ]

-- the same is allowed behind it, where its node has no mail and may execute another
pub kept_allowed : (work : Work) (c : Core) (i : ℕ) → IsSilent work c i
    → HasNoMail work.layout.nodes c i → May work c (Exec i)
    → may_execute (standing_of work ((after_word work c i).nodes i)) ≡ true
    → (e : Event) → IsBelow work.layout.nodes e
    → is_allowed work (after_word work c i) e ≡ is_allowed work c e
kept_allowed work c i still none may again = same
  where
    same_take : (k j : ℕ) → j < work.layout.nodes
        → is_allowed work (after_word work c i) (Take k j) ≡ is_allowed work c (Take k j)
    same_take k j low = elim (eqb_tells k i) [
      | inl e ↦
          (let d = after_word work c i in
          let empty : c.list j k ≡ [] = ap (c.list j) e.1 ∙ none j low in
          let here = and_false (may_take (standing_of work (c.nodes k))) (has_wire (c.list j k)) (ap has_wire empty) in
          let there = and_false (may_take (standing_of work (d.nodes k))) (has_wire (d.list j k)) (ap has_wire (kept_list work c i j k still ∙ empty)) in
          there ∙ sym here)
      | inr e ↦ (λ t. may_take (standing_of work (kept_node work c i k e.1 t)) && has_wire (kept_list work c i j k still t))
    ]

    same : (e : Event) → IsBelow work.layout.nodes e
        → is_allowed work (after_word work c i) e ≡ is_allowed work c e
    same (Exec k) low = elim (eqb_tells k i) [
      | inl e ↦
          (let d = after_word work c i in
          ap (λ z. may_execute (standing_of work (d.nodes z))) e.1 ∙ again
          ∙ sym (ap (λ z. may_execute (standing_of work (c.nodes z))) e.1 ∙ may.1))
      | inr e ↦ ap (λ (n : Node). may_execute (standing_of work n)) (kept_node work c i k e.1)
    ]
    same (Take k j) low = same_take k j low.1

pub kept_choices : (work : Work) (c : Core) (i : ℕ) → IsSilent work c i
    → HasNoMail work.layout.nodes c i → May work c (Exec i)
    → may_execute (standing_of work ((after_word work c i).nodes i)) ≡ true
    → choices work (after_word work c i) ≡ choices work c
kept_choices work c i still none may again =
    same_filtered work.layout.nodes (is_allowed work (after_word work c i)) (is_allowed work c)
    (all_events work.layout.nodes) (all_below work.layout.nodes) (kept_allowed work c i still none may again)

-- 5. Longer lists

pub filtered_more : (p : Event → Bool) (f : ℕ → List Event) (a k : ℕ)
    → filter p (flat_map f (range_with_len a (suc k)))
    ≡ filter p (flat_map f (range_with_len a k)) ++ filter p (f (a + k))
filtered_more p f a zero =
    let last : a ≡ a + 0 = omega arith in
    ap (filter p) (append-nil (f a)) ∙ ap (λ z. filter p (f z)) last
filtered_more p f a (suc k) =
    let first = filter p (f a) in
    let more = flat_map f (range_with_len (a + 1) k) in
    let last : a + 1 + k ≡ a + suc k = omega arith in
    filter-append p (f a) (flat_map f (range_with_len (a + 1) (suc k)))
    ∙ ap (λ xs. first ++ xs) (filtered_more p f (a + 1) k ∙ ap (λ z. filter p more ++ filter p (f z)) last)
    ∙ sym (append_assoc first (filter p more) (filter p (f (a + suc k))))
    ∙ ap (λ xs. xs ++ filter p (f (a + suc k))) (sym (filter-append p (f a) more))

-- a node without mail takes nothing
pub no_takes : (work : Work) (c : Core) (i a k : ℕ) → a + k ≤ work.layout.nodes
    → HasNoMail work.layout.nodes c i
    → filter (is_allowed work c) (map (λ j. Take i j) (range_with_len a k)) ≡ []
no_takes work c i a zero room none = refl
no_takes work c i a (suc k) room none =
    let no = and_false (may_take (standing_of work (c.nodes i))) (has_wire (c.list a i)) (ap has_wire (none a (omega arith))) in
    let rest = no_takes work c i (a + 1) k (omega arith) none in
    λ t. cond (no t) (Take i a ∷ rest t) (rest t)

-- a node that may take nothing takes nothing
pub takes_none : (work : Work) (c : Core) (i a k : ℕ)
    → may_take (standing_of work (c.nodes i)) ≡ false
    → filter (is_allowed work c) (map (λ j. Take i j) (range_with_len a k)) ≡ []
takes_none work c i a zero never = refl
takes_none work c i a (suc k) never =
    let rest = takes_none work c i (a + 1) k never in
    λ t. cond (never t && has_wire (c.list a i)) (Take i a ∷ rest t) (rest t)

-- 6. What a core tells of an event

not_told : (work : Work) (c : Core) (e : Event) (t : Bool) → IsBelow work.layout.nodes e
    → (May work c e → false ≡ true) → is_allowed work c e ≡ t → is_allowed work c e ≡ false
not_told work c e true low deny is =
    let both : false ≡ true = deny (allowed_may work c e low is) in absurd (cc)
not_told work c e false low deny is = is

pub told : (work : Work) (c : Core) (e : Event) (b : Bool) → IsBelow work.layout.nodes e
    → ((b ≡ true) ↔ May work c e) → is_allowed work c e ≡ b
told work c e true low iff = may_allowed work c e (iff.0 refl)
told work c e false low iff = not_told work c e (is_allowed work c e) low iff.1 refl

wire_told : (ws : List Wire) (b : Bool) → ((b ≡ true) ↔ (ws ≢ [])) → has_wire ws ≡ b
wire_told [] true iff = absurd (iff.0 refl refl)
wire_told [] false iff = refl
wire_told (w ∷ ws) true iff = refl
wire_told (w ∷ ws) false iff = sym (iff.1 (λ e. absurd (cc)))

-- of a node that may take messages
pub take_told : (work : Work) (c : Core) (i j : ℕ) (b : Bool)
    → may_take (standing_of work (c.nodes i)) ≡ true
    → ((b ≡ true) ↔ (c.list j i ≢ [])) → is_allowed work c (Take i j) ≡ b
take_told work c i j b may iff =
    (λ t. may t && has_wire (c.list j i)) ∙ wire_told (c.list j i) b iff

pub one_take_more : (work : Work) (c : Core) (i j : ℕ) (b : Bool) (before now : List Event)
    → now ≡ before ++ filter (is_allowed work c) (map (λ k. Take i k) (range_with_len 0 j))
    → is_allowed work c (Take i j) ≡ b → now ++ cond b (Take i j ∷ []) []
    ≡ before ++ filter (is_allowed work c) (map (λ k. Take i k) (range_with_len 0 (j + 1)))
one_take_more work c i j b before now listed is =
    let p = is_allowed work c in
    let takes = filter p (map (λ k. Take i k) (range_with_len 0 j)) in
    ap (λ xs. xs ++ cond b (Take i j ∷ []) []) listed
    ∙ append_assoc before takes (cond b (Take i j ∷ []) [])
    ∙ ap (λ xs. before ++ xs) (ap (λ t. takes ++ cond t (Take i j ∷ []) []) (sym is)
    ∙ sym (filter_of_map_range_with_len_more p (λ k. Take i k) 0 j j (omega arith)))

pub one_node : (b : Bool) (x : Event) (before takes : List Event)
    → (before ++ cond b (x ∷ []) []) ++ takes ≡ before ++ cond b (x ∷ takes) takes
one_node true x before takes = append_assoc before (x ∷ []) takes
one_node false x before takes = ap (λ xs. xs ++ takes) (append-nil before)
