-- The events that are allowed, node by node.
use Rattle.std.proofs.Common.{◌≡◌, ◌≢◌, ◌↔◌, ℕ, zero, suc, ◌+◌, ◌-◌, ◌<◌, ◌≤◌, Bool, true, false, cond, eqb, ◌&&◌, List, [], ◌∷◌, ◌++◌, map, length, get_or, Some, None, refl, sym, ap, ◌∙◌, subst, inl, inr, arith, length-append, Vec}
use Rattle.std.specs.Prelude.{slice_get, filter}
use Rattle.std.specs.List.{flat_map, range_with_len}
use Rattle.std.specs.Option.{option_map}
use Rattle.std.specs.declared.alloc.Global.{Global}
use Rattle.std.specs.Vec.{vec_items}
use Rattle.std.proofs.lemmas.List.{length-map}
use Rattle.std.proofs.lemmas.List.FromFn.{length-map-range_with_len}
use Rattle.std.proofs.lemmas.List.Elements.{filter-append}
use Rattle.std.proofs.lemmas.Bool.Decides.{eqb_tells}
use Rattle.std.proofs.lemmas.Option.{slice_get-map, slice_get_read}
use Rattle.dsm_core.specs.dsm_messages.declared.messages.Wire.{Wire}
use Rattle.dsm_core.specs.node_model.Node.{Work, Node, standing_of}
use Rattle.dsm_core.specs.node_model.Turns.{Turn, word_turn, take_turn}
use Rattle.dsm_core.specs.node_model.Core.{Core, Event, Exec, Take, AreAlike, may_execute, may_take, event_step, with_turn, with_list, take_first, wires_to}
use Rattle.dsm_core.specs.declared.cores.Event.{Event as Stored}
use Rattle.dsm_core.specs.CoreParts.{CoreParts, work_of, core_of, event_of}
use Rattle.dsm_core.specs.CoreWords.{GoesOnBy, HasExecutedOn, HasPassed}
use Rattle.shared_sim.specs.ByOrder.{events_at, all_events, has_wire, is_allowed, choices}
use Rattle.shared_sim.specs.Mail.{HasNoMail}
use Rattle.shared_sim.specs.Listing.{allowed_at, HasShape, Tells, Lists}
use Rattle.shared_sim.specs.Turns.{maker}
use Rattle.shared_sim.specs.declared.listing.Listing.{Listing}
use Rattle.shared_sim.proofs.Choices.{IsBelow, AllBelow, all_below, takes_below, same_filtered, filtered_more, and_false, nil_parts, kept_list, kept_node, after_word}

-- 1. The events behind those of the first nodes

abbrev pub allowed_from : Work → Core → (first count : ℕ) → List Event
allowed_from work c a k =
    filter (is_allowed work c) (flat_map (events_at work.layout.nodes) (range_with_len a k))

pub one_row : (work : Work) (c : Core) (a k : ℕ)
    → allowed_from work c a (suc k) ≡ allowed_at work c a ++ allowed_from work c (a + 1) k
one_row work c a k =
    filter-append (is_allowed work c) (events_at work.layout.nodes a)
    (flat_map (events_at work.layout.nodes) (range_with_len (a + 1) k))

get_first : {A : Type 0} (xs ys : List A) (k : ℕ) → k < length xs
    → slice_get (xs ++ ys) k ≡ slice_get xs k
get_first [] ys k low = absurd (omega (arith, low))
get_first (x ∷ xs) ys zero low = refl
get_first (x ∷ xs) ys (suc k) low = get_first xs ys k (omega (arith, low))

get_behind : {A : Type 0} (xs ys : List A) (k j : ℕ) → k ≡ length xs + j
    → slice_get (xs ++ ys) k ≡ slice_get ys j
get_behind [] ys k j is = let here : k ≡ j = omega (arith, is) in ap (slice_get ys) here
get_behind (x ∷ xs) ys zero j is = absurd (omega (arith, is))
get_behind (x ∷ xs) ys (suc k) j is = get_behind xs ys k j (omega (arith, is))

-- an event of the first of these nodes
pub here_at : (work : Work) (c : Core) (a k left : ℕ) (items : List Stored) (e : Stored)
    → map event_of items ≡ allowed_at work c a → left < length items → e ≡ get_or items left e
    → slice_get (allowed_from work c a (suc k)) left ≡ Some (event_of e)
here_at work c a k left items e listed low is =
    let row = allowed_at work c a in
    let len : length items ≡ length row = sym (length-map items event_of) ∙ ap length listed in
    ap (λ xs. slice_get xs left) (one_row work c a k)
    ∙ get_first row (allowed_from work c (a + 1) k) left (omega (arith, len, low))
    ∙ ap (λ xs. slice_get xs left) (sym listed) ∙ slice_get-map event_of items left
    ∙ ap (option_map event_of) (slice_get_read items (length items) left e refl low is)

-- one of those behind it
pub behind_at : (work : Work) (c : Core) (a k left : ℕ) (items : List Stored)
    → map event_of items ≡ allowed_at work c a → length items ≤ left
    → slice_get (allowed_from work c (a + 1) k) (left - length items)
    ≡ slice_get (allowed_from work c a (suc k)) left
behind_at work c a k left items listed high =
    let row = allowed_at work c a in
    let len : length items ≡ length row = sym (length-map items event_of) ∙ ap length listed in
    sym (ap (λ xs. slice_get xs left) (one_row work c a k)
    ∙ get_behind row (allowed_from work c (a + 1) k) left (left - length items) (omega (arith, len, high)))

pub none_behind : (work : Work) (c : Core) (a left place : ℕ)
    → slice_get (allowed_from work c a 0) left ≡ slice_get (choices work c) place
    → place < length (choices work c) → ⊥
none_behind work c a left place same low = past (choices work c) place (sym same) low
  where
    past : (xs : List Event) (k : ℕ) → slice_get xs k ≡ None → k < length xs → ⊥
    past [] k none low = absurd (omega (arith, low))
    past (x ∷ xs) zero none low = absurd (cc)
    past (x ∷ xs) (suc k) none low = past xs k none (omega (arith, low))

-- 2. How many there are

filter_few : (p : Event → Bool) (xs : List Event) → length (filter p xs) ≤ length xs
filter_few p [] = omega arith
filter_few p (x ∷ xs) = one (p x) (filter_few p xs)
  where
    one : (b : Bool) → length (filter p xs) ≤ length xs
        → length (cond b (x ∷ filter p xs) (filter p xs)) ≤ suc (length xs)
    one true rest = omega (arith, rest)
    one false rest = omega (arith, rest)

pub row_few : (work : Work) (c : Core) (i : ℕ) (items : List Stored)
    → map event_of items ≡ allowed_at work c i → length items ≤ work.layout.nodes + 1
row_few work c i items listed =
    let n = work.layout.nodes in
    let most = filter_few (is_allowed work c) (events_at n i) in
    let len : length items ≡ length (allowed_at work c i) = sym (length-map items event_of) ∙ ap length listed in
    let all : length (map (λ j. Take i j) (range_with_len 0 n)) ≡ n = length-map-range_with_len (λ j. Take i j) 0 n in
    omega (arith, most, len, all)

pub count_more : (work : Work) (c : Core) (i : ℕ) (items : List Stored)
    → map event_of items ≡ allowed_at work c i
    → length (allowed_from work c 0 (i + 1)) ≡ length (allowed_from work c 0 i) + length items
count_more work c i items listed =
    let next : i + 1 ≡ suc i = omega arith in
    let here : 0 + i ≡ i = omega arith in
    ap (λ k. length (allowed_from work c 0 k)) next
    ∙ ap length (filtered_more (is_allowed work c) (events_at work.layout.nodes) 0 i)
    ∙ length-append (allowed_from work c 0 i) (filter (is_allowed work c) (events_at work.layout.nodes (0 + i)))
    ∙ ap (λ k. length (allowed_from work c 0 i) + length (allowed_at work c k)) here
    ∙ ap (λ k. length (allowed_from work c 0 i) + k) (sym (sym (length-map items event_of) ∙ ap length listed))

-- 3. What is listed of a node stays so

events_below : (n i : ℕ) → i < n → AllBelow n (events_at n i)
events_below n i low = (low, takes_below n i 0 n low (omega arith))

-- where its events are allowed as before
pub same_row : (work : Work) (c d : Core) (i : ℕ) → i < work.layout.nodes
    → ((e : Event) → IsBelow work.layout.nodes e → is_allowed work d e ≡ is_allowed work c e)
    → allowed_at work d i ≡ allowed_at work c i
same_row work c d i low same =
    same_filtered work.layout.nodes (is_allowed work d) (is_allowed work c)
    (events_at work.layout.nodes i) (events_below work.layout.nodes i low) same

same_takes : (work : Work) (c d : Core) (i a k : ℕ) → a + k ≤ work.layout.nodes
    → ((j : ℕ) → j < work.layout.nodes → is_allowed work d (Take i j) ≡ is_allowed work c (Take i j))
    → filter (is_allowed work d) (map (λ j. Take i j) (range_with_len a k))
    ≡ filter (is_allowed work c) (map (λ j. Take i j) (range_with_len a k))
same_takes work c d i a zero room same = refl
same_takes work c d i a (suc k) room same =
    let rest = same_takes work c d i (a + 1) k (omega (arith, room)) same in
    let one = same a (omega (arith, room)) in
    λ t. cond (one t) (Take i a ∷ rest t) (rest t)

pub same_at : (work : Work) (c d : Core) (i : ℕ)
    → is_allowed work d (Exec i) ≡ is_allowed work c (Exec i)
    → ((j : ℕ) → j < work.layout.nodes → is_allowed work d (Take i j) ≡ is_allowed work c (Take i j))
    → allowed_at work d i ≡ allowed_at work c i
same_at work c d i word takes =
    let rest = same_takes work c d i 0 work.layout.nodes (omega arith) takes in
    λ t. cond (word t) (Exec i ∷ rest t) (rest t)

pub tells_same : (p q : CoreParts) (l : Listing) (i : ℕ)
    → work_of q ≡ work_of p
    → allowed_at (work_of p) (core_of q) i ≡ allowed_at (work_of p) (core_of p) i
    → (HasNoMail p.layout.nodes (core_of p) i → HasNoMail p.layout.nodes (core_of q) i)
    → Tells p l i → Tells q l i
tells_same p q l i work same mail tells = record {
  row = λ r. tells.row r ∙ sym (ap (λ (w : Work). allowed_at w (core_of q) i) work ∙ same);
  mail = λ none. subst (λ (w : Work). HasNoMail w.layout.nodes (core_of q) i) (sym work) (mail (tells.mail none));
}

-- 4. Nodes apart from that of an event

record LeavesAlone (i k : ℕ) (c d : Core) : Type 0 where
  pub node : d.nodes k ≡ c.nodes k
  pub lists : (j : ℕ) → j ≢ i → d.list j k ≡ c.list j k
  pub list : d.list i k ≡ [] → c.list i k ≡ []

turn_leaves : (c : Core) (i k : ℕ) (t : Turn) → k ≢ i → LeavesAlone i k c (with_turn c i t)
turn_leaves c i k t apart = record {
  node = elim (eqb_tells k i) [ inl e ↦ absurd (apart e.1) | inr e ↦ rw e.0 refl ];
  lists = λ j other. elim (eqb_tells j i) [ inl e ↦ absurd (other e.1) | inr e ↦ rw e.0 refl ];
  list = λ none. elim (eqb_tells i i) [
    | inl e ↦ (nil_parts (c.list i k) (wires_to t.node.stamp k t.sends)
        (sym (ap (λ b. cond b (c.list i k ++ wires_to t.node.stamp k t.sends) (c.list i k)) e.0) ∙ none)).0
    | inr e ↦ absurd (e.1 refl)
  ];
}

same_list : (c : Core) (x y i k : ℕ) (rest : List Wire) → k ≢ i
    → (with_list c y i rest).list x k ≡ c.list x k
same_list c x y i k rest apart = elim (eqb_tells k i) [
  | inl e ↦ absurd (apart e.1)
  | inr e ↦ ap (λ b. cond b rest (c.list x k)) (and_false (eqb x y) (eqb k i) e.0)
]

take_leaves : (work : Work) (c : Core) (i j k : ℕ) (ws : List Wire) → k ≢ i
    → LeavesAlone i k c (take_first work c i j ws)
take_leaves work c i j k [] apart = record { node = refl; lists = λ x other. refl; list = λ none. none }
take_leaves work c i j k (w ∷ rest) apart =
    let t = turn_leaves (with_list c j i rest) i k (take_turn work (c.nodes i) j w) apart in
    record {
      node = t.node;
      lists = λ x other. t.lists x other ∙ same_list c x j i k rest apart;
      list = λ none. sym (same_list c i j i k rest apart) ∙ t.list none;
    }

event_leaves : (work : Work) (c : Core) (e : Event) (k : ℕ) → k ≢ maker e
    → LeavesAlone (maker e) k c (event_step work c e)
event_leaves work c (Exec i) k apart = turn_leaves c i k (word_turn work (c.nodes i)) apart
event_leaves work c (Take i j) k apart = take_leaves work c i j k (c.list j i) apart

-- a node to which node i has sent nothing may make what it might before
tells_left : (p q : CoreParts) (l : Listing) (middle : Core) (i k : ℕ) → work_of q ≡ work_of p
    → k < p.layout.nodes → i < p.layout.nodes → LeavesAlone i k (core_of p) middle
    → AreAlike p.layout.nodes (core_of q) middle → (core_of q).list i k ≡ []
    → Tells p l k → Tells q l k
tells_left p q l middle i k work low made leaves alike none tells =
    tells_same p q l k work
    (same_at w c d k (ap (λ (n : Node). may_execute (standing_of w n)) node) take)
    (λ empty j below. kept j below ∙ empty j below) tells
  where
    w : Work
    w = work_of p

    c : Core
    c = core_of p

    d : Core
    d = core_of q

    node : d.nodes k ≡ c.nodes k
    node = alike.nodes k low ∙ leaves.node

    kept : (j : ℕ) → j < p.layout.nodes → d.list j k ≡ c.list j k
    kept j below = elim (eqb_tells j i) [
      | inl s ↦
          (let there = sym (alike.lists i k made low) ∙ none in
          ap (λ x. d.list x k) s.1 ∙ none ∙ sym (ap (λ x. c.list x k) s.1 ∙ leaves.list there))
      | inr s ↦ alike.lists j k below low ∙ leaves.lists j s.1
    ]

    take : (j : ℕ) → j < p.layout.nodes → is_allowed w d (Take k j) ≡ is_allowed w c (Take k j)
    take j below = λ t. may_take (standing_of w (node t)) && has_wire (kept j below t)

pub tells_after : (p q : CoreParts) (l : Listing) (e : Event) (k : ℕ) → work_of q ≡ work_of p
    → k < p.layout.nodes → maker e < p.layout.nodes
    → AreAlike p.layout.nodes (core_of q) (event_step (work_of p) (core_of p) e)
    → k ≢ maker e → (core_of q).list (maker e) k ≡ [] → Tells p l k → Tells q l k
tells_after p q l e k work low made alike apart none tells =
    tells_left p q l (event_step (work_of p) (core_of p) e) (maker e) k work low made
    (event_leaves (work_of p) (core_of p) e k apart) alike none tells

leaves_also : (i k : ℕ) (c d f : Core) → LeavesAlone i k c d → LeavesAlone i k d f → LeavesAlone i k c f
leaves_also i k c d f a b = record {
  node = b.node ∙ a.node;
  lists = λ j other. b.lists j other ∙ a.lists j other;
  list = λ none. a.list (b.list none);
}

goes_leaves : (work : Work) (i k words : ℕ) (c d : Core) → k ≢ i → GoesOnBy work i words c d
    → LeavesAlone i k c d
goes_leaves work i k zero c d apart on =
    subst (LeavesAlone i k c) on (record { node = refl; lists = λ j other. refl; list = λ none. none })
goes_leaves work i k (suc words) c d apart on =
    leaves_also i k c (after_word work c i) d (event_leaves work c (Exec i) k apart)
    (goes_leaves work i k words (after_word work c i) d apart on.2)

-- the same behind words of node i
pub tells_executed : (p q : CoreParts) (l : Listing) (i words k : ℕ) → work_of q ≡ work_of p
    → k < p.layout.nodes → i < p.layout.nodes
    → HasExecutedOn (work_of p) i words (core_of p) (core_of q)
    → k ≢ i → (core_of q).list i k ≡ [] → Tells p l k → Tells q l k
tells_executed p q l i words k work low made ran apart none tells =
    tells_left p q l (event_step (work_of p) ran.last (Exec i)) i k work low made
    (leaves_also i k (core_of p) ran.last (event_step (work_of p) ran.last (Exec i))
    (goes_leaves (work_of p) i k ran.before (core_of p) ran.last apart ran.goes_on)
    (event_leaves (work_of p) ran.last (Exec i) k apart)) ran.event none tells

-- and behind a word of node i that sent nothing
pub tells_passed : (p q : CoreParts) (l : Listing) (i k : ℕ) → work_of q ≡ work_of p
    → k < p.layout.nodes → HasPassed (work_of p) i (core_of p) (core_of q) → k ≢ i
    → Tells p l k → Tells q l k
tells_passed p q l i k work low passed apart tells =
    tells_same p q l k work
    (same_at w c d k (ap (λ (n : Node). may_execute (standing_of w n)) node) take)
    (λ empty j below. kept j below ∙ empty j below) tells
  where
    w : Work
    w = work_of p

    c : Core
    c = core_of p

    d : Core
    d = core_of q

    node : d.nodes k ≡ c.nodes k
    node = passed.event.nodes k low ∙ kept_node w c i k apart

    kept : (j : ℕ) → j < p.layout.nodes → d.list j k ≡ c.list j k
    kept j below = passed.event.lists j k below low ∙ kept_list w c i j k passed.silent

    take : (j : ℕ) → j < p.layout.nodes → is_allowed w d (Take k j) ≡ is_allowed w c (Take k j)
    take j below = λ t. may_take (standing_of w (node t)) && has_wire (kept j below t)

-- where the same is allowed and the same is on its way, the listing stands
pub lists_kept : (p q : CoreParts) (l : Listing) → work_of q ≡ work_of p
    → ((e : Event) → IsBelow p.layout.nodes e
    → is_allowed (work_of p) (core_of q) e ≡ is_allowed (work_of p) (core_of p) e)
    → ((j k : ℕ) → j < p.layout.nodes → k < p.layout.nodes → (core_of q).list j k ≡ (core_of p).list j k)
    → Lists p l → Lists q l
lists_kept p q l work same lists old = record {
  shape = subst (λ (w : Work). HasShape w.layout.nodes l) (sym work) old.shape;
  tells = λ k low. tells_same p q l k work (same_row (work_of p) (core_of p) (core_of q) k (here k low) same)
      (λ empty j below. lists j k below (here k low) ∙ empty j below) (old.tells k (here k low));
  count = old.count ∙ ap length (sym (ap (λ (w : Work). choices w (core_of q)) work
      ∙ same_filtered p.layout.nodes (is_allowed (work_of p) (core_of q)) (is_allowed (work_of p) (core_of p))
      (all_events p.layout.nodes) (all_below p.layout.nodes) same));
  few = old.few;
  calm = λ calm k low j below. lists j k (here j below) (here k low) ∙ old.calm calm k (here k low) j (here j below);
}
  where
    here : (k : ℕ) → k < q.layout.nodes → k < p.layout.nodes
    here k low = subst (λ (w : Work). k < w.layout.nodes) work low

pub shape_kept : (p q : CoreParts) (l : Listing) → work_of q ≡ work_of p
    → HasShape p.layout.nodes l → HasShape q.layout.nodes l
shape_kept p q l work shape = subst (λ (w : Work). HasShape w.layout.nodes l) (sym work) shape

-- 5. The rows of a listing

pub row_listed : (p : CoreParts) (l : Listing) (i : ℕ) (row : Vec Stored Global) → Tells p l i
    → row ≡ get_or l.nodes.items i row → map event_of row.items ≡ allowed_at (work_of p) (core_of p) i
row_listed p l i row tells is = ap (λ v. map event_of (vec_items v)) is ∙ tells.row row

pub no_wire : (b : Bool) (ws : List Wire) → ((b ≡ true) ↔ (ws ≢ [])) → b ≡ false → ws ≡ []
no_wire b [] iff not_so = refl
no_wire b (w ∷ ws) iff not_so = let yes : b ≡ true = iff.1 (λ e. absurd (cc)) in absurd (cc)
