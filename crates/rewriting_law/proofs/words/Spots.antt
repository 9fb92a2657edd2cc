-- Where the words of an entry's two sequences stand: those of the batch that starts at its place,
-- and those of the place's own sequence.
use Rattle.std.proofs.Common.{◌≡◌, ℕ, zero, suc, ◌+◌, ◌-◌, ◌*◌, ◌<◌, ◌≤◌, ◌⊎◌, Bool, true, false, cond, leb, ◌&&◌, List, [], ◌∷◌, ◌++◌, length, Some, refl, sym, ap, ◌∙◌, inl, inr, arith, zero-add, length-append}
use Rattle.std.specs.Prelude.{slice_get}
use Rattle.std.proofs.lemmas.Bool.Decides.{nat_tests}
use Rattle.rewriting_law.proofs.Names.{Instr, Program, Part, Single, Head, Fast, Fallback, PlanEntry, Scratches, code_from, StartsNoRun, StartsRun, SequenceItem, items_of, reload, reload_by, reloads_of_run, run_items, to_head, fast_items, batch_items, batch_sequence, part_items, reload_count, address_in, PlacedItem, part_of_entry, entry_items}
use Rattle.rewriting_law.proofs.templates.Does.{SequenceKind, OfPlace, OfRun, place_of, place_in_batch}
use Rattle.rewriting_law.proofs.words.Fetching.{get_left, get_right, get_item, items_length, placed_at, placed_item, has_run, placed_batch, entry_parts}

-- 1. How long a fast part is

reload_more : (b : Bool) (k r : ℕ) (rest : List SequenceItem)
    → length (reload_by b k r rest) ≡ length (reload_by b k r []) + length rest
reload_more true k r rest = omega arith
reload_more false k r rest = omega arith

reloads_more : (x : Scratches) (rest : List SequenceItem)
    → length (reloads_of_run x rest) ≡ reload_count x + length rest
reloads_more x rest =
    let s = reload_more x.s.spilled 0 x.s.register (reload 1 x.t (reload 2 x.u rest)) in
    let t = reload_more x.t.spilled 1 x.t.register (reload 2 x.u rest) in
    let u = reload_more x.u.spilled 2 x.u.register rest in
    let s_alone = reload_more x.s.spilled 0 x.s.register (reload 1 x.t (reload 2 x.u [])) in
    let t_alone = reload_more x.t.spilled 1 x.t.register (reload 2 x.u []) in
    omega (arith, s, t, u, s_alone, t_alone)

run_length : (is : List Instr) (rest : List SequenceItem)
    → length (run_items is rest) ≡ length is + length rest
run_length [] rest = omega arith
run_length (i ∷ is) rest = let more = run_length is rest in omega (arith, more)

fast_length : (x : Scratches) (is : List Instr) (behind : ℕ)
    → length (fast_items x is behind) ≡ reload_count x + length is + 1
fast_length x is behind =
    let all = reloads_more x (run_items is (to_head behind)) in
    let run = run_length is (to_head behind) in omega (arith, all, run)

fast_covers : (a count : ℕ) (x : Scratches) (is : List Instr) → length is ≡ count → 0 < count
    → reload_count x + count ≤ length (batch_items a x is Fast)
fast_covers a count x [] coded some = absurd (omega (arith, coded, some))
fast_covers a count x (i ∷ is) coded some =
    let n = fast_length x (i ∷ is) (a + 4 * length (i ∷ is)) in omega (arith, n, coded)

-- 2. Where words belong

first_of_run : (e : PlanEntry) → address_in e Fast 0 ≡ e.address
first_of_run e = go (leb (reload_count e.batch) 0 && leb (suc 0) (reload_count e.batch + e.run))
  where
    go : (t : Bool) → cond t (e.address + 4 * (0 - reload_count e.batch)) e.address ≡ e.address
    go true = omega arith
    go false = refl

past_run : (e : PlanEntry) (k : ℕ) → reload_count e.batch + e.run ≤ k
    → address_in e Fast k ≡ e.address
past_run e k past =
    let t : leb (suc k) (reload_count e.batch + e.run) ≡ false = grind (arith, nat_tests) in
    let there = e.address + 4 * (k - reload_count e.batch) in
    ap (λ z. cond (leb (reload_count e.batch) k && z) there e.address) t
    ∙ go (leb (reload_count e.batch) k) there
  where
    go : (t : Bool) (there : ℕ) → cond (t && false) there e.address ≡ e.address
    go true there = refl
    go false there = refl

-- a word of two lists is of the first or of the second
split_get : {X : Type 0} (xs ys : List X) (k : ℕ) (x : X) → slice_get (xs ++ ys) k ≡ Some x
    → ((k < length xs) × (slice_get xs k ≡ Some x))
    ⊎ ((j : ℕ) × (k ≡ length xs + j) × (slice_get ys j ≡ Some x))
split_get [] ys k x h = inr (k, sym (zero-add k), h)
split_get (y ∷ xs) ys zero x h = inl (omega arith, h)
split_get (y ∷ xs) ys (suc k) x h = elim (split_get xs ys k x h) [
  | inl l ↦ (let low = l.0 in inl (omega (arith, low), l.1))
  | inr r ↦ (let is = r.1 in inr (r.0, omega (arith, is), r.2))
]

module _ (program : Program) where
  -- 3. Two sequences

  abbrev pub kind_of : Bool → PlanEntry → SequenceKind
  kind_of true e = OfRun (place_in_batch program e)
  kind_of false e = OfPlace

  pub own_kind : (b : Bool) (e : PlanEntry) → kind_of b e ≡ OfPlace → b ≡ false
  own_kind false e is = refl
  own_kind true e is = let bad : OfRun (place_in_batch program e) ≡ OfPlace = is in cc

  abbrev pub sequence : Bool → PlanEntry → List SequenceItem
  sequence true e = batch_sequence program.code e
  sequence false e = items_of e (program.code e.address)

  -- the number of a sequence's word among all words of the entry
  abbrev pub number : Bool → PlanEntry → ℕ → ℕ
  number true e k = k
  number false e k = length (placed_batch program e) + k

  pub next_number : (b : Bool) (e : PlanEntry) (k : ℕ) → number b e k + 1 ≡ number b e (k + 1)
  next_number true e k = refl
  next_number false e k = omega arith

  -- the batch has as many words as items
  pub batch_length : (e : PlanEntry)
      → length (batch_sequence program.code e) ≡ length (placed_batch program e)
  batch_length e =
      let items = part_items program e in
      let words_of = part_of_entry program e in
      let head = items_length (address_in e Head) Head 0 (items Head) in
      let fast = items_length (address_in e Fast) Fast 0 (items Fast) in
      let fallback = items_length (address_in e Fallback) Fallback 0 (items Fallback) in
      let all = length-append (items Head) (items Fast ++ items Fallback) in
      let more = length-append (items Fast) (items Fallback) in
      let all_words = length-append (words_of Head) (words_of Fast ++ words_of Fallback) in
      let more_words = length-append (words_of Fast) (words_of Fallback) in
      omega (arith, head, fast, fallback, all, more, all_words, more_words)

  -- and without a run it has none
  pub no_batch : (e : PlanEntry) → e.run ≡ 0 → batch_sequence program.code e ≡ []
  no_batch e none =
      let items = λ (n : ℕ) (part : Part). batch_items e.address e.batch
      (code_from program.code e.address n) part in
      ap (λ n. items n Head ++ (items n Fast ++ items n Fallback)) none

  pub entry_length : (e : PlanEntry) → length (entry_items program e)
      ≡ number false e (length (sequence false e))
  entry_length e =
      let all = ap length (entry_parts program e)
      ∙ length-append (placed_batch program e) (part_of_entry program e Single) in
      let single = items_length (address_in e Single) Single 0 (sequence false e) in
      omega (arith, all, single)

  -- 4. The words of a sequence

  -- an item of an entry's sequences: the word of its part that it is, which has this number among
  -- the entry's words and belongs to this place
  pub record Spot (e : PlanEntry) (place k : ℕ) (i : SequenceItem) : Type 0 where
    pub part : Part
    pub word : ℕ
    pub item : slice_get (part_items program e part) word ≡ Some i
    pub there : slice_get (entry_items program e) k ≡ Some (placed_item e part word i)
    pub address : address_in e part word ≡ place

  module _ (e : PlanEntry) (k : ℕ) (i : SequenceItem) where
    get_part : (part : Part) (word : ℕ) → slice_get (part_items program e part) word ≡ Some i
        → slice_get (part_of_entry program e part) word ≡ Some (placed_item e part word i)
    get_part part word h =
        get_item (address_in e part) part 0 (part_items program e part) word i h
        ∙ ap (λ j. Some (placed_at (address_in e part) part j i)) (zero-add word)

    own_spot : slice_get (sequence false e) k ≡ Some i → Spot e e.address (number false e k) i
    own_spot h = record {
      part = Single;
      word = k;
      item = h;
      there = ap (λ xs. slice_get xs (number false e k)) (entry_parts program e)
          ∙ get_right (placed_batch program e) (part_of_entry program e Single) k
          ∙ get_part Single k h;
      address = refl;
    }

    abbrev BatchSpot : Type 0
    BatchSpot = Spot e (place_in_batch program e k) k i

    abbrev words_of : Part → List PlacedItem
    words_of part = part_of_entry program e part

    head_spot : k < length (part_items program e Head)
        → slice_get (part_items program e Head) k ≡ Some i → BatchSpot
    head_spot low h =
        let before : k - length (part_items program e Head) ≡ 0 = omega (arith, low) in
        record {
          part = Head;
          word = k;
          item = h;
          there = get_left (words_of Head)
              (words_of Fast ++ (words_of Fallback ++ words_of Single)) k (placed_item e Head k i)
              (get_part Head k h);
          address = sym (ap (address_in e Fast) before ∙ first_of_run e);
        }

    fast_spot : (j : ℕ) → k ≡ length (part_items program e Head) + j
        → slice_get (part_items program e Fast) j ≡ Some i → BatchSpot
    fast_spot j is h =
        let heads = items_length (address_in e Head) Head 0 (part_items program e Head) in
        let at : k ≡ length (words_of Head) + j = omega (arith, is, heads) in
        let behind : j ≡ k - length (part_items program e Head) = omega (arith, is) in
        record {
          part = Fast;
          word = j;
          item = h;
          there = ap (slice_get (entry_items program e)) at ∙ get_right (words_of Head)
              (words_of Fast ++ (words_of Fallback ++ words_of Single)) j
              ∙ get_left (words_of Fast) (words_of Fallback ++ words_of Single) j
              (placed_item e Fast j i) (get_part Fast j h);
          address = ap (address_in e Fast) behind;
        }

    fallback_spot : StartsRun program.code e → (m j : ℕ)
        → k ≡ length (part_items program e Head) + m → m ≡ length (part_items program e Fast) + j
        → slice_get (part_items program e Fallback) j ≡ Some i → BatchSpot
    fallback_spot run m j is more h =
        let heads = items_length (address_in e Head) Head 0 (part_items program e Head) in
        let fasts = items_length (address_in e Fast) Fast 0 (part_items program e Fast) in
        let at : k ≡ length (words_of Head) + (length (words_of Fast) + j) =
        omega (arith, is, more, heads, fasts) in
        let some = run.run.some in
        let covers = fast_covers e.address e.run e.batch
        (code_from program.code e.address e.run) run.run.coded (omega (arith, some)) in
        let past : reload_count e.batch + e.run ≤ k - length (part_items program e Head) =
        omega (arith, is, more, covers) in
        record {
          part = Fallback;
          word = j;
          item = h;
          there = ap (slice_get (entry_items program e)) at
              ∙ get_right (words_of Head) (words_of Fast ++ (words_of Fallback ++ words_of Single))
              (length (words_of Fast) + j)
              ∙ get_right (words_of Fast) (words_of Fallback ++ words_of Single) j
              ∙ get_left (words_of Fallback) (words_of Single) j (placed_item e Fallback j i)
              (get_part Fallback j h);
          address = sym (past_run e (k - length (part_items program e Head)) past);
        }

    starts_run : StartsNoRun e ⊎ StartsRun program.code e → 0 < e.run → StartsRun program.code e
    starts_run (inl none) some = let e = none.run in absurd (omega (arith, e, some))
    starts_run (inr run) some = run

    batch_spot : StartsNoRun e ⊎ StartsRun program.code e
        → slice_get (batch_sequence program.code e) k ≡ Some i → BatchSpot
    batch_spot starts h = elim (split_get (part_items program e Head)
        (part_items program e Fast ++ part_items program e Fallback) k i h) [
          | inl l ↦ head_spot l.0 l.1
          | inr r ↦ elim (split_get (part_items program e Fast)
              (part_items program e Fallback) r.0 i r.2) [
                | inl l ↦ fast_spot r.0 r.1 l.1
                | inr m ↦ fallback_spot
                    (starts_run starts (has_run program e Fallback m.0 i m.2)) r.0 m.0 r.1 m.1 m.2
              ]
        ]

    -- where a word of a sequence stands
    pub spot : (b : Bool) → StartsNoRun e ⊎ StartsRun program.code e
        → slice_get (sequence b e) k ≡ Some i
        → Spot e (place_of (kind_of b e) e.address k) (number b e k) i
    spot true starts h = batch_spot starts h
    spot false starts h = own_spot h
