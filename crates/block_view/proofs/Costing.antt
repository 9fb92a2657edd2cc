-- What is kept of each block.
use Rattle.std.proofs.Common.{◌≡◌, ◌≢◌, ℕ, zero, suc, ◌+◌, ◌<◌, ◌≤◌, Bool, true, false, cond, eqb, List, [], ◌∷◌, ◌++◌, length, map, filter, Option, Some, None, refl, sym, ap, ◌∙◌, subst, inl, inr, arith, slice_index_or}
use Rattle.std.specs.Option.{option_map, option_map_or}
use Rattle.std.specs.List.{range_with_len}
use Rattle.std.proofs.lemmas.Bool.{eq-eqb, ne_eqb}
use Rattle.std.proofs.lemmas.Bool.Decides.{eqb_tells}
use Rattle.std.proofs.lemmas.List.{length-append, append-nil, append_assoc, get_or_append_left}
use Rattle.std.proofs.Math.Seq.{get_or-append_seam}
use Rattle.std.proofs.lemmas.List.FromFn.{sum_by-map-range_with_len_more}
use Rattle.templates.specs.declared.places.Place.{Place}
use Rattle.node_model.specs.declared.NodeCounts.{NodeCounts}
use Rattle.node_model.specs.Node.{no_counts}
use Rattle.block_layout.specs.Update.{changed}
use Rattle.event_text.specs.node_machine.declared.wanted.Wanted.{Wanted}
use Rattle.event_text.specs.node_machine.Wanted.{wanted_in}
use Rattle.event_text.specs.run_trace.declared.traced.WordTraced.{WordTraced}
use Rattle.event_text.specs.run_trace.Given.{word_of}
use Rattle.event_text.specs.run_trace.Traced.{Traced, Word}
use Rattle.event_text.specs.run_trace.Sums.{count_asked, count_wants, count_in, counts_from}
use Rattle.event_text.specs.Shown.{is_block}
use Rattle.block_view.specs.declared.costs.BlockCosts.{BlockCosts}
use Rattle.block_view.specs.Counts.{messages_in, wants_of, count_about, block_counts_from, misses_of, asks_in, times}
use Rattle.block_view.specs.Kept.{counts_at, IsCostOf, AreCostsOf, place_asked, counts_with, places_with, counts_for, places_for}

-- 1. Counts of nodes

-- there are as many as this, or more, and each counts as before
pub record IsGrown (old : List NodeCounts) (count : ℕ) (new : List NodeCounts) : Type 0 where
  pub same : (i : ℕ) → counts_at new i ≡ counts_at old i
  pub long : count ≤ length new

pub one_node_more : (counts : ℕ → NodeCounts) (n : ℕ)
    → messages_in counts (n + 1) ≡ messages_in counts n + (counts n).messages
one_node_more counts n = sum_by-map-range_with_len_more (λ c. c.messages) counts 0 n n (omega arith)

pub same_messages : (f g : ℕ → NodeCounts) (n : ℕ) → ((i : ℕ) → f i ≡ g i) → messages_in f n ≡ messages_in g n
same_messages f g n same = λ t. messages_in (λ i. same i t) n

-- 2. Blocks

pub cost_as : (s : BlockCosts) (f g : ℕ → NodeCounts) (p q : List ℕ) → IsCostOf s f p → ((i : ℕ) → f i ≡ g i) → p ≡ q
    → IsCostOf s g q
cost_as s f g p q h same places = record {
  counted = λ i. h.counted i ∙ same i;
  missed = λ a. h.missed a ∙ ap (times a) places;
  some = h.some;
}

-- so many blocks that have cost nothing
pub record AreNone (blocks : List BlockCosts) (count : ℕ) : Type 0 where
  pub many : length blocks ≡ count
  pub none : AreCostsOf blocks (λ b i. no_counts) (λ b. [])

pub none_more : (blocks : List BlockCosts) (count : ℕ) (s : BlockCosts) → AreNone blocks count
    → IsCostOf s (λ i. no_counts) [] → AreNone (blocks ++ s ∷ []) (count + 1)
none_more blocks count s h new =
    let more = length-append blocks (s ∷ []) in
    record {
      many = omega (arith, more, h.many);
      none = λ b d within. elim (eqb_tells b (length blocks)) [
        | inl same ↦ subst (λ x. IsCostOf x (λ i. no_counts) [])
            (sym (ap (λ k. slice_index_or (blocks ++ s ∷ []) k d) same.1 ∙ get_or-append_seam blocks s [] d)) new
        | inr apart ↦
            let before : b < length blocks = omega (arith, within, more, apart.1) in
            subst (λ x. IsCostOf x (λ i. no_counts) []) (sym (get_or_append_left blocks (s ∷ []) d b before))
            (h.none b d before)
      ];
    }

-- 3. A word

same_either : {A : Type 0} (t : Bool) (x : A) → cond t x x ≡ x
same_either true x = refl
same_either false x = refl

module _ (counts : ℕ → ℕ → NodeCounts) (node b i : ℕ) (v : Wanted) where
  mine : (t : Bool)
      → (cond t (changed (counts b) node (count_asked v (counts b node))) (counts b)) i
      ≡ cond (eqb node i) (cond t (count_asked v (counts b i)) (counts b i)) (counts b i)
  mine false = sym (same_either (eqb node i) (counts b i))
  mine true = elim (eqb_tells i node) [
    | inl same ↦ ap (λ t. cond t (count_asked v (counts b node)) (counts b i)) same.0
        ∙ ap (λ k. count_asked v (counts b k)) (sym same.1)
        ∙ sym (ap (λ t. cond t (count_asked v (counts b i)) (counts b i)) (eq-eqb node i (sym same.1)))
    | inr apart ↦ ap (λ t. cond t (count_asked v (counts b node)) (counts b i)) apart.0
        ∙ sym (ap (λ t. cond t (count_asked v (counts b i)) (counts b i)) (other apart.1))
  ]
    where
      other : i ≢ node → eqb node i ≡ false
      other apart = ne_eqb node i (λ e. apart (sym e))

  of_first : (mine t : Bool) (rest : List Wanted) (c : NodeCounts)
      → cond mine (count_wants rest (cond mine (cond t (count_asked v c) c) c))
      (cond mine (cond t (count_asked v c) c) c)
      ≡ cond mine (count_wants (cond t (v ∷ rest) rest) c) c
  of_first true true rest c = refl
  of_first true false rest c = refl
  of_first false t rest c = refl

  first_want : (vs : List Wanted)
      → cond (eqb node i) (count_wants (wants_of b vs) (counts_with counts node v b i)) (counts_with counts node v b i)
      ≡ cond (eqb node i) (count_wants (wants_of b (v ∷ vs)) (counts b i)) (counts b i)
  first_want vs =
      ap (λ x. cond (eqb node i) (count_wants (wants_of b vs) x) x) (mine (is_block b v.block))
      ∙ of_first (eqb node i) (is_block b v.block) (wants_of b vs) (counts b i)

asks_of : Option Place → (b : ℕ) → List Wanted → List ℕ
asks_of place b vs = option_map_or (λ q. map (λ w. q.address) (filter (λ w. w.asks) (wants_of b vs))) place []

module _ (p : List ℕ) (v : Wanted) (r : List Wanted) where
  abbrev asking : List Wanted → List Wanted
  asking vs = filter (λ w. w.asks) vs

  abbrev at_place : Option Place → List Wanted → List ℕ
  at_place place vs = option_map_or (λ q. map (λ w. q.address) vs) place []

  first_of : (t asks : Bool) (place : Option Place)
      → cond t (p ++ place_asked (option_map (λ q. q.address) place) asks) p ++ at_place place (asking r)
      ≡ p ++ at_place place (cond t (cond asks (v ∷ asking r) (asking r)) (asking r))
  first_of false asks place = refl
  first_of true false place = ap (λ x. x ++ at_place place (asking r)) (append-nil p)
  first_of true true None = ap (λ x. x ++ []) (append-nil p)
  first_of true true (Some q) = append_assoc p (q.address ∷ []) (map (λ w. q.address) (asking r))

  asked_first : (t : Bool) → asking (cond t (v ∷ r) r) ≡ cond t (cond v.asks (v ∷ asking r) (asking r)) (asking r)
  asked_first true = refl
  asked_first false = refl

first_place : (places : ℕ → List ℕ) (place : Option Place) (v : Wanted) (vs : List Wanted) (b : ℕ)
    → places_with places (option_map (λ q. q.address) place) v b ++ asks_of place b vs
    ≡ places b ++ asks_of place b (v ∷ vs)
unfolding asks_of
first_place places place v vs b =
    let r = wants_of b vs in
    let t = is_block b v.block in
    first_of (places b) v r t v.asks place
    ∙ ap (λ ws. places b ++ option_map_or (λ (q : Place). map (λ w. q.address) ws) place [])
    (sym (asked_first (places b) v r t))

none_asked : (place : Option Place) (b : ℕ) → asks_of place b [] ≡ []
unfolding asks_of
none_asked None b = refl
none_asked (Some q) b = refl

-- a word that wants these blocks
pub one_wanted : (s : BlockCosts) (counts : ℕ → ℕ → NodeCounts) (places : ℕ → List ℕ) (node b : ℕ) (w : WordTraced)
    (place : Option ℕ) (v : Wanted) → wanted_in w.wants ≡ v ∷ [] → place ≡ option_map (λ q. q.address) w.place
    → IsCostOf s (counts_with counts node v b) (places_with places place v b)
    → IsCostOf s (counts_for counts node (Word (word_of w)) b) (places_for places (Word (word_of w)) b)
unfolding asks_of
one_wanted s counts places node b w place v are is h =
    cost_as s (counts_with counts node v b) (counts_for counts node (Word (word_of w)) b) (places_with places place v b)
    (places_for places (Word (word_of w)) b) h
    (λ i. sym (same_either (eqb node i) (counts_with counts node v b i)) ∙ first_want counts node b i v []
    ∙ ap (λ vs. cond (eqb node i) (count_wants (wants_of b vs) (counts b i)) (counts b i)) (sym are))
    (ap (λ o. places_with places o v b) is
    ∙ sym (append-nil (places_with places (option_map (λ q. q.address) w.place) v b))
    ∙ ap (λ x. places_with places (option_map (λ q. q.address) w.place) v b ++ x) (sym (none_asked w.place b))
    ∙ first_place places w.place v [] b ∙ ap (λ vs. places b ++ asks_of w.place b vs) (sym are))

pub two_wanted : (s : BlockCosts) (counts : ℕ → ℕ → NodeCounts) (places : ℕ → List ℕ) (node b : ℕ) (w : WordTraced)
    (place : Option ℕ) (v o : Wanted) → wanted_in w.wants ≡ v ∷ o ∷ [] → place ≡ option_map (λ q. q.address) w.place
    → IsCostOf s (counts_with (counts_with counts node v) node o b) (places_with (places_with places place v) place o b)
    → IsCostOf s (counts_for counts node (Word (word_of w)) b) (places_for places (Word (word_of w)) b)
unfolding asks_of
two_wanted s counts places node b w place v o are is h =
    let then : ℕ → ℕ → NodeCounts = counts_with counts node v in
    let address : Option ℕ = option_map (λ q. q.address) w.place in
    cost_as s (counts_with then node o b) (counts_for counts node (Word (word_of w)) b)
    (places_with (places_with places place v) place o b) (places_for places (Word (word_of w)) b) h
    (λ i. sym (same_either (eqb node i) (counts_with then node o b i)) ∙ first_want then node b i o []
    ∙ first_want counts node b i v (o ∷ [])
    ∙ ap (λ vs. cond (eqb node i) (count_wants (wants_of b vs) (counts b i)) (counts b i)) (sym are))
    (ap (λ x. places_with (places_with places x v) x o b) is
    ∙ sym (append-nil (places_with (places_with places address v) address o b))
    ∙ ap (λ x. places_with (places_with places address v) address o b ++ x) (sym (none_asked w.place b))
    ∙ first_place (places_with places address v) w.place o [] b
    ∙ first_place places w.place v (o ∷ []) b ∙ ap (λ vs. places b ++ asks_of w.place b vs) (sym are))

-- 4. One event more

pub counts_more : (b i : ℕ) (xs : List Traced) (x : Traced) (c : NodeCounts)
    → block_counts_from b i (xs ++ x ∷ []) c
    ≡ cond (eqb x.node i) (count_about b x.what (block_counts_from b i xs c)) (block_counts_from b i xs c)
counts_more b i [] x c = refl
counts_more b i (y ∷ ys) x c = counts_more b i ys x (cond (eqb y.node i) (count_about b y.what c) c)

pub total_more : (i : ℕ) (xs : List Traced) (x : Traced) (c : NodeCounts)
    → counts_from i (xs ++ x ∷ []) c ≡ cond (eqb x.node i) (count_in x.what (counts_from i xs c)) (counts_from i xs c)
total_more i [] x c = refl
total_more i (y ∷ ys) x c = total_more i ys x (cond (eqb y.node i) (count_in y.what c) c)

pub misses_more : (b : ℕ) (xs : List Traced) (x : Traced)
    → misses_of b (xs ++ x ∷ []) ≡ misses_of b xs ++ asks_in b x.what
misses_more b [] x = append-nil (asks_in b x.what)
misses_more b (y ∷ ys) x = ap (λ r. asks_in b y.what ++ r) (misses_more b ys x)
    ∙ sym (append_assoc (asks_in b y.what) (misses_of b ys) (asks_in b x.what))

-- counts as a list
pub as_list : (f : ℕ → NodeCounts) (n a : ℕ) (cs : List NodeCounts) → length cs ≡ n
    → ((i : ℕ) → i < n → counts_at cs i ≡ f (a + i)) → cs ≡ map f (range_with_len a n)
as_list f zero a [] many each = refl
as_list f zero a (c ∷ cs) many each = absurd cc
as_list f (suc n) a [] many each = absurd cc
as_list f (suc n) a (c ∷ cs) many each =
    let first : c ≡ f a = each 0 (omega arith) ∙ ap f (omega arith) in
    let rest = as_list f n (a + 1) cs (omega (arith, many))
    (λ i low. each (suc i) (omega (arith, low)) ∙ ap f (omega arith)) in
    λ t. first t ∷ rest t
