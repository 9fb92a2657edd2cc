-- The words of a place's sequences, as they are fetched from an image.
use Rattle.std.proofs.Common.{◌≡◌, ◌≢◌, ℕ, zero, suc, ◌+◌, ◌-◌, ◌*◌, ◌/◌, ◌%◌, ◌^◌, ◌<◌, ◌⊎◌, Bool, true, false, cond, eqb, leb, List, [], ◌∷◌, ◌++◌, length, map, get_or, Option, Some, None, refl, sym, ap, ◌∙◌, subst, inl, inr, arith, append_assoc, append-nil, zero-add, add_assoc, ◌&&◌}
use Rattle.std.specs.Prelude.{slice_get, option_and_then}
use Rattle.std.specs.List.{position_from}
use Rattle.std.specs.Option.{option_map, option_map_or}
use Rattle.std.proofs.lemmas.Option.{slice_get-map, slice_get_within, none-some, same_Some}
use Rattle.std.proofs.lemmas.Iterator.Adapters.{position_from-zero}
use Rattle.std.proofs.lemmas.Bool.Decides.{eqb_tells, nat_tests}
use Rattle.rewriting_law.proofs.Names.{Program, next_pc, TrapOff, Never, Part, Single, Head, Fast, Fallback, PlanEntry, AscendsFrom, addresses, IsAdmissible, code_from, SequenceItem, batch_items, part_items, commit_at, ImageWord, Cell, PlacedItem, read_cell, placed_items, address_in, part_of_entry, entry_items, words_before, head_of, item_word, words_at, plan_items, image_words, off_word, image_base, address_of_word, IsRewriting, cell_at, is_first_of, begins_at, new_of, old_of, fetch}
use Rattle.rewriting_law.proofs.words.Plans.{EntrySplit, AllBelow, below, Follows, place_in, entry_is}

pub get_left : {X : Type 0} (xs ys : List X) (k : ℕ) (x : X) → slice_get xs k ≡ Some x
    → slice_get (xs ++ ys) k ≡ Some x
get_left [] ys k x h = cc
get_left (y ∷ xs) ys zero x h = h
get_left (y ∷ xs) ys (suc k) x h = get_left xs ys k x h

pub get_right : {X : Type 0} (xs ys : List X) (k : ℕ)
    → slice_get (xs ++ ys) (length xs + k) ≡ slice_get ys k
get_right [] ys k = ap (slice_get ys) (zero-add k)
get_right (x ∷ xs) ys k =
    let e : length (x ∷ xs) + k ≡ suc (length xs + k) = omega arith in
    ap (slice_get (x ∷ xs ++ ys)) e ∙ get_right xs ys k

pub option_map_some : {A B : Type 0} (f : A → B) (o : Option A) (y : B) → option_map f o ≡ Some y
    → (x : A) × (o ≡ Some x) × (f x ≡ y)
option_map_some f None y h = absurd (none-some y h)
option_map_some f (Some x) y h = (x, refl, same_Some (f x) y h)

cell_here : (image : List Cell) (i : ℕ) (c : Cell) → slice_get image i ≡ Some c
    → cell_at image (address_of_word i) ≡ Some c
cell_here image i c h =
    let at = address_of_word i in
    let low : leb image_base at ≡ true = grind (arith, nat_tests) in
    let aligned : at % 4 ≡ 0 = omega arith in
    let place : (at - image_base) / 4 ≡ i = omega arith in
    rw (low, aligned, place) h

-- the word of an item at an address
abbrev pub word_of : (ℕ → ℕ) → ℕ → PlacedItem → ImageWord
word_of head at i = record { what = Some (item_word head at i.item); place = Some i.place }

-- an item of a part, whose words have these places, and one of an entry's part
abbrev pub placed_at : (ℕ → ℕ) → Part → ℕ → SequenceItem → PlacedItem
placed_at address part k i =
    record { item = i.what; place = record { address = address k; part = part; word = k } }

abbrev pub placed_item : PlanEntry → Part → ℕ → SequenceItem → PlacedItem
placed_item e part k i = record { item = i.what; place = place_in e part k }

get_word : (head : ℕ → ℕ) (at : ℕ) (is : List PlacedItem) (k : ℕ) (i : PlacedItem)
    → slice_get is k ≡ Some i
    → slice_get (words_at head at is) k ≡ Some (word_of head (at + 4 * k) i)
get_word head at [] k i h = cc
get_word head at (x ∷ is) zero i h =
    let same : x ≡ i = cc in
    let y : at ≡ at + 4 * 0 = omega arith in
    λ t. Some (word_of head (y t) (same t))
get_word head at (x ∷ is) (suc k) i h =
    let y : at + 4 + 4 * k ≡ at + 4 * suc k = omega arith in
    get_word head (at + 4) is k i h ∙ (λ t. Some (word_of head (y t) i))

pub get_item : (address : ℕ → ℕ) (part : Part) (j : ℕ) (is : List SequenceItem) (k : ℕ)
    (i : SequenceItem) → slice_get is k ≡ Some i
    → slice_get (placed_items address part j is) k ≡ Some (placed_at address part (j + k) i)
get_item address part j [] k i h = cc
get_item address part j (x ∷ is) zero i h =
    let same : x ≡ i = cc in
    let z : j ≡ j + 0 = omega arith in
    λ t. Some (placed_at address part (z t) (same t))
get_item address part j (x ∷ is) (suc k) i h =
    let z : j + 1 + k ≡ j + suc k = omega arith in
    get_item address part (j + 1) is k i h ∙ (λ t. Some (placed_at address part (z t) i))

pub items_length : (address : ℕ → ℕ) (part : Part) (j : ℕ) (is : List SequenceItem)
    → length (placed_items address part j is) ≡ length is
items_length address part j [] = refl
items_length address part j (i ∷ is) = ap suc (items_length address part (j + 1) is)

-- the first word of a place's single sequence, among words and among items
abbrev is_first : ℕ → ImageWord → Bool
is_first a w = option_map_or (is_first_of a) w.place false

abbrev is_first_item : ℕ → PlacedItem → Bool
is_first_item a i = is_first_of a i.place

position_cells : (a i : ℕ) (image : List Cell)
    → position_from (begins_at a) i image ≡ position_from (is_first a) i (map read_cell image)
position_cells a i [] = refl
position_cells a i (c ∷ cs) = ap (cond (begins_at a c) (Some i)) (position_cells a (i + 1) cs)

position_words : (head : ℕ → ℕ) (at a i : ℕ) (is : List PlacedItem)
    → position_from (is_first a) i (words_at head at is) ≡ position_from (is_first_item a) i is
position_words head at a i [] = refl
position_words head at a i (x ∷ is) =
    ap (cond (is_first_item a x) (Some i)) (position_words head (at + 4) a (i + 1) is)

-- none of the items is the first of the place's single sequence
abbrev NoFirst : ℕ → List PlacedItem → Type 0
NoFirst a [] = Unit {0}
NoFirst a (x ∷ xs) = (is_first_item a x ≡ false) × NoFirst a xs

no_first_behind : (a : ℕ) (xs ys : List PlacedItem) → NoFirst a xs → NoFirst a ys
    → NoFirst a (xs ++ ys)
no_first_behind a [] ys h g = g
no_first_behind a (x ∷ xs) ys h g = (h.0, no_first_behind a xs ys h.1 g)

no_first_items : (a : ℕ) (address : ℕ → ℕ) (part : Part) (k : ℕ) (is : List SequenceItem)
    → ((j : ℕ) → is_first_of a (record { address = address j; part = part; word = j }) ≡ false)
    → NoFirst a (placed_items address part k is)
no_first_items a address part k [] none = tt
no_first_items a address part k (i ∷ is) none =
    (none k, no_first_items a address part (k + 1) is none)

skip_items : (a i : ℕ) (xs ys : List PlacedItem) → NoFirst a xs
    → position_from (is_first_item a) i (xs ++ ys)
    ≡ position_from (is_first_item a) (i + length xs) ys
skip_items a i [] ys none =
    let z : i ≡ i + 0 = omega arith in ap (λ j. position_from (is_first_item a) j ys) z
skip_items a i (x ∷ xs) ys none =
    let z : i + 1 + length xs ≡ i + suc (length xs) = omega arith in
    ap (λ t. cond t (Some i) (position_from (is_first_item a) (i + 1) (xs ++ ys))) none.0
    ∙ skip_items a (i + 1) xs ys none.1 ∙ ap (λ j. position_from (is_first_item a) j ys) z

first_is_here : (a : ℕ) (address : ℕ → ℕ) (i : ℕ) (is : List SequenceItem)
    (ys : List PlacedItem) → address 0 ≡ a → 0 < length is
    → position_from (is_first_item a) i (placed_items address Single 0 is ++ ys) ≡ Some i
first_is_here a address i [] ys here h = absurd (omega arith)
first_is_here a address i (x ∷ is) ys here h =
    let t : eqb (address 0) a ≡ true = grind (arith, nat_tests) in
    ap (λ t. cond (t && true) (Some i)
    (position_from (is_first_item a) (i + 1) (placed_items address Single 1 is ++ ys))) t

never : (b : Bool) → (b && false) ≡ false
never true = refl
never false = refl

-- no entry of the address
abbrev pub AllApart : List PlanEntry → ℕ → Type 0
AllApart [] a = Unit {0}
AllApart (x ∷ xs) a = (x.address ≢ a) × AllApart xs a

below_apart : (xs : List PlanEntry) (a : ℕ) → AllBelow xs a → AllApart xs a
below_apart [] a h = tt
below_apart (x ∷ xs) a h = let lt = h.0 in (omega arith, below_apart xs a h.1)

-- the entry of an address, or none
pub member : (plan : List PlanEntry) (a : ℕ) → EntrySplit plan a ⊎ AllApart plan a
member [] a = inr tt
member (e ∷ es) a = elim (eqb_tells e.address a) [
  | inl t ↦ inl (record { before = []; entry = e; after = es; split = refl; here = t.1 })
  | inr t ↦ (elim (member es a) [
    | inl f ↦ inl (record {
      before = e ∷ f.before;
      entry = f.entry;
      after = f.after;
      split = ap (λ xs. e ∷ xs) f.split;
      here = f.here;
    })
    | inr none ↦ inr (t.1, none)
  ])
]

-- an address with no entry isn't a place
pub absent : (plan : List PlanEntry) (a k : ℕ) → AllApart plan a → k < length (addresses plan)
    → get_or (addresses plan) k a ≡ a → ⊥
absent [] a k h lt is = omega arith
absent (e ∷ es) a zero h lt is = h.0 is
absent (e ∷ es) a (suc k) h lt is = absent es a k h.1 (omega arith) is

-- where an entry's batch has a word a run starts
pub has_run : (program : Program) (e : PlanEntry) (part : Part) (k : ℕ) (i : SequenceItem)
    → slice_get (batch_items e.address e.batch (code_from program.code e.address e.run) part) k
    ≡ Some i → 0 < e.run
has_run program e part k i h = go e.run refl
  where
    go : (n : ℕ) → e.run ≡ n → 0 < n
    go (suc n) is = omega arith
    go zero is =
        absurd (none-some i (subst (λ n. slice_get
        (batch_items e.address e.batch (code_from program.code e.address n) part) k ≡ Some i) is h))

module _ (program : Program) where
  -- the words of the batch that starts at an entry's place
  abbrev pub placed_batch : PlanEntry → List PlacedItem
  placed_batch e =
      part_of_entry program e Head ++ (part_of_entry program e Fast
      ++ part_of_entry program e Fallback)

  pub entry_parts : (e : PlanEntry)
      → entry_items program e ≡ placed_batch e ++ part_of_entry program e Single
  entry_parts e =
      let head = part_of_entry program e Head in
      let fast = part_of_entry program e Fast in
      let fallback = part_of_entry program e Fallback in
      let single = part_of_entry program e Single in
      ap (λ xs. head ++ xs) (sym (append_assoc fast fallback single))
      ∙ sym (append_assoc head (fast ++ fallback) single)

  no_first_of_batch : (a : ℕ) (e : PlanEntry) → NoFirst a (placed_batch e)
  no_first_of_batch a e =
      no_first_behind a (part_of_entry program e Head)
      (part_of_entry program e Fast ++ part_of_entry program e Fallback)
      (no_first_items a (address_in e Head) Head 0 (part_items program e Head)
      (λ j. never (eqb (address_in e Head j) a)))
      (no_first_behind a (part_of_entry program e Fast) (part_of_entry program e Fallback)
      (no_first_items a (address_in e Fast) Fast 0 (part_items program e Fast)
      (λ j. never (eqb (address_in e Fast j) a)))
      (no_first_items a (address_in e Fallback) Fallback 0 (part_items program e Fallback)
      (λ j. never (eqb (address_in e Fallback j) a))))

  no_first_of_entry : (a : ℕ) (e : PlanEntry) → e.address ≢ a → NoFirst a (entry_items program e)
  no_first_of_entry a e other =
      let t : eqb e.address a ≡ false = grind (arith, nat_tests) in
      subst (NoFirst a) (sym (entry_parts e))
      (no_first_behind a (placed_batch e) (part_of_entry program e Single) (no_first_of_batch a e)
      (no_first_items a (address_in e Single) Single 0 (part_items program e Single)
      (λ j. ap (λ z. z && eqb j 0) t)))

  -- how many words the entries have
  abbrev pub words_in : List PlanEntry → ℕ
  words_in [] = 0
  words_in (e ∷ es) = length (entry_items program e) + words_in es

  words_in_append : (xs ys : List PlanEntry) → words_in (xs ++ ys) ≡ words_in xs + words_in ys
  words_in_append [] ys = sym (zero-add (words_in ys))
  words_in_append (x ∷ xs) ys =
      ap (λ z. length (entry_items program x) + z) (words_in_append xs ys)
      ∙ sym (add_assoc (length (entry_items program x)) (words_in xs) (words_in ys))

  -- the address of a word of the place's sequences
  abbrev pub word_address : {plan : List PlanEntry} {a : ℕ} → EntrySplit plan a → ℕ → ℕ
  word_address f k = address_of_word (suc (words_in f.before + k))

  -- the items of an entry, among those of a plan
  get_entry_item : (before : List PlanEntry) (e : PlanEntry) (after : List PlanEntry) (k : ℕ)
      (i : PlacedItem) → slice_get (entry_items program e) k ≡ Some i
      → slice_get (plan_items program (before ++ e ∷ after)) (words_in before + k) ≡ Some i
  get_entry_item [] e after k i h =
      ap (slice_get (plan_items program (e ∷ after))) (zero-add k)
      ∙ get_left (entry_items program e) (plan_items program after) k i h
  get_entry_item (x ∷ xs) e after k i h =
      let first = entry_items program x in
      let rest = plan_items program (xs ++ e ∷ after) in
      ap (slice_get (first ++ rest)) (add_assoc (length first) (words_in xs) k)
      ∙ get_right first rest (words_in xs + k) ∙ get_entry_item xs e after k i h

  -- the place of an entry, among those of a plan
  words_before_is : (a : ℕ) (before : List PlanEntry) (e : PlanEntry) (after : List PlanEntry)
      → AllBelow before a → e.address ≡ a
      → words_before program (before ++ e ∷ after) a ≡ words_in before
  words_before_is a [] e after low here =
      let t : eqb e.address a ≡ true = grind (arith, nat_tests) in rw t refl
  words_before_is a (x ∷ xs) e after low here =
      let lt = low.0 in
      let t : eqb x.address a ≡ false = grind (arith, nat_tests) in
      rw t (ap (λ z. length (entry_items program x) + z) (words_before_is a xs e after low.1 here))

  skip_entries : (a i : ℕ) (before after : List PlanEntry) → AllApart before a
      → position_from (is_first_item a) i (plan_items program (before ++ after))
      ≡ position_from (is_first_item a) (i + words_in before) (plan_items program after)
  skip_entries a i [] after h =
      let z : i ≡ i + 0 = omega arith in
      ap (λ j. position_from (is_first_item a) j (plan_items program after)) z
  skip_entries a i (x ∷ xs) after h =
      let n = length (entry_items program x) in
      skip_items a i (entry_items program x) (plan_items program (xs ++ after))
      (no_first_of_entry a x h.0) ∙ skip_entries a (i + n) xs after h.1
      ∙ ap (λ j. position_from (is_first_item a) j (plan_items program after))
      (add_assoc i n (words_in xs))

  module _ (plan : List PlanEntry) where
    all_below : (a : ℕ) → IsAdmissible program plan → (f : EntrySplit plan a) → AllBelow f.before a
    all_below a adm f =
        subst (AllBelow f.before) f.here
        (below 0 f.before f.entry f.after (subst (AscendsFrom 0) f.split adm.ascends))

    pub head_is : (a : ℕ) → IsAdmissible program plan → (f : EntrySplit plan a)
        → head_of program plan a ≡ word_address f 0
    head_is a adm f =
        let count = ap (λ p. words_before program p a) f.split
        ∙ words_before_is a f.before f.entry f.after (all_below a adm f) f.here in
        omega (arith, count)

    -- behind a code word's sequences come those of the next address
    pub record NextSplit (a : ℕ) (f : EntrySplit plan a) : Type 0 where
      pub next : EntrySplit plan (a + 4)
      pub starts : word_address next 0 ≡ word_address f (length (entry_items program f.entry))

    pub next_split : (a : ℕ) (f : EntrySplit plan a) → Follows plan a f → NextSplit a f
    next_split a f g =
        let whole : plan ≡ (f.before ++ f.entry ∷ []) ++ g.next ∷ g.rest =
        f.split ∙ ap (λ xs. f.before ++ f.entry ∷ xs) g.after
        ∙ sym (append_assoc f.before (f.entry ∷ []) (g.next ∷ g.rest)) in
        let next : EntrySplit plan (a + 4) = record {
          before = f.before ++ f.entry ∷ [];
          entry = g.next;
          after = g.rest;
          split = whole;
          here = g.here;
        } in
        let words = words_in_append f.before (f.entry ∷ []) in
        record { next = next; starts = omega (arith, words) }

    module _ (image : List Cell) (rewriting : IsRewriting program plan image) where
      -- a word of an image, where it stands
      pub record HasWord (k : ℕ) (w : ImageWord) : Type 0 where
        pub cell : Cell
        pub there : slice_get image k ≡ Some cell
        pub is : read_cell cell ≡ w

      has_word : (k : ℕ) (w : ImageWord) → slice_get (image_words program plan) k ≡ Some w
          → HasWord k w
      has_word k w h =
          let in_image = sym (slice_get-map read_cell image k)
          ∙ ap (λ xs. slice_get xs k) rewriting.expansion.words ∙ h in
          let c = option_map_some read_cell (slice_get image k) w in_image in
          record { cell = c.0; there = c.1; is = c.2 }

      fetch_is : (k : ℕ) (w : ImageWord) → HasWord k w → fetch image (address_of_word k) ≡ Some w
      fetch_is k w c =
          ap (option_map read_cell) (cell_here image k c.cell c.there) ∙ ap (λ x. Some x) c.is

      -- fetching word 0
      pub fetch_off : fetch image image_base ≡ Some (record { what = Some TrapOff; place = None })
      fetch_off = fetch_is 0 off_word (has_word 0 off_word refl)

      -- which belongs to no place
      pub no_place_off : old_of image image_base ≡ None
      no_place_off =
          let c = has_word 0 off_word refl in
          ap (option_and_then (λ (x : Cell). x.place)) (cell_here image 0 c.cell c.there)
          ∙ ap (λ (w : ImageWord). w.place) c.is

      -- an item of an entry's part, where it stands among the entry's words
      module _ (a : ℕ) (f : EntrySplit plan a) (k : ℕ) (part : Part) (word : ℕ)
          (i : SequenceItem) (h : slice_get (part_items program f.entry part) word ≡ Some i)
          (at : slice_get (entry_items program f.entry) k
          ≡ Some (placed_item f.entry part word i)) where
        abbrev pub here : PlacedItem
        here = placed_item f.entry part word i

        item_word_there : HasWord (suc (words_in f.before + k))
            (word_of (head_of program plan) (word_address f k) here)
        item_word_there =
            let head = head_of program plan in
            let y : address_of_word 1 + 4 * (words_in f.before + k) ≡ word_address f k =
            omega arith in
            let in_plan : slice_get (plan_items program plan) (words_in f.before + k) ≡ Some here =
            ap (λ p. slice_get (plan_items program p) (words_in f.before + k)) f.split
            ∙ get_entry_item f.before f.entry f.after k here at in
            has_word (suc (words_in f.before + k)) (word_of head (word_address f k) here)
            (get_word head (address_of_word 1) (plan_items program plan) _ here in_plan
            ∙ (λ t. Some (word_of head (y t) here)))

        -- fetching the word of this number of an entry's sequences
        pub fetch_word : fetch image (word_address f k)
            ≡ Some (word_of (head_of program plan) (word_address f k) here)
        fetch_word = fetch_is (suc (words_in f.before + k)) _ item_word_there

        -- the place of that word
        pub place_of_word : old_of image (word_address f k) ≡ Some here.place
        place_of_word =
            let c = item_word_there in
            ap (option_and_then (λ (x : Cell). x.place)) (cell_here image _ c.cell c.there)
            ∙ ap (λ (w : ImageWord). w.place) c.is

        -- the kind of commit of that word
        pub commit_of_word : commit_at program plan (old_of image (word_address f k)) ≡ i.commit
        commit_of_word =
            ap (commit_at program plan) place_of_word
            ∙ ap (λ o. option_map_or (λ (j : SequenceItem). j.commit)
            (option_and_then (λ e. slice_get (part_items program e part) word) o) Never)
            (entry_is program plan a rewriting.admissible f part word
            (λ fast. has_run program f.entry Fast word i
            (subst (λ p. slice_get (part_items program f.entry p) word ≡ Some i) fast h)))
            ∙ ap (λ o. option_map_or (λ (j : SequenceItem). j.commit) o Never) h

        -- a word's address is below 2^32, and has room for the next
        pub in_range : word_address f k < 2 ^ 31 + 2 ^ 30
        in_range =
            let c = item_word_there in
            let within = slice_get_within image (suc (words_in f.before + k)) c.cell c.there in
            let few = rewriting.expansion.few in
            omega arith

        pub next_word : next_pc (word_address f k) ≡ word_address f (k + 1)
        next_word = let range = in_range in omega arith

      position_in_image : (a : ℕ) → position_from (begins_at a) 0 image
          ≡ position_from (is_first_item a) 1 (plan_items program plan)
      position_in_image a =
          position_cells a 0 image ∙ ap (position_from (is_first a) 0) rewriting.expansion.words
          ∙ position_words (head_of program plan) (address_of_word 1) a 1 (plan_items program plan)

      new_by : (a : ℕ) (o : Option ℕ)
          → position_from (is_first_item a) 1 (plan_items program plan) ≡ o
          → new_of image a ≡ option_map address_of_word o
      new_by a o h =
          ap (option_map address_of_word)
          (position_from-zero (begins_at a) image ∙ position_in_image a ∙ h)

      -- the map sends a place to the first word of its single sequence
      pub new_of_place : (a : ℕ) (f : EntrySplit plan a)
          → 0 < length (part_items program f.entry Single)
          → new_of image a ≡ Some (word_address f (length (placed_batch f.entry)))
      new_of_place a f some =
          let e = f.entry in
          let n = length (placed_batch e) in
          let single = part_of_entry program e Single in
          let apart = below_apart f.before a (all_below a rewriting.admissible f) in
          let rest = plan_items program f.after in
          let first : position_from (is_first_item a) 1 (plan_items program plan)
          ≡ Some (1 + words_in f.before + n) =
          ap (λ p. position_from (is_first_item a) 1 (plan_items program p)) f.split
          ∙ skip_entries a 1 f.before (e ∷ f.after) apart
          ∙ ap (λ xs. position_from (is_first_item a) (1 + words_in f.before) (xs ++ rest))
          (entry_parts e) ∙ ap (position_from (is_first_item a) (1 + words_in f.before))
          (append_assoc (placed_batch e) single rest)
          ∙ skip_items a (1 + words_in f.before) (placed_batch e) (single ++ rest)
          (no_first_of_batch a e)
          ∙ first_is_here a (address_in e Single) (1 + words_in f.before + n)
          (part_items program e Single) rest f.here some in
          let z : 1 + words_in f.before + n ≡ suc (words_in f.before + n) = omega arith in
          new_by a (Some (1 + words_in f.before + n)) first ∙ ap (λ j. Some (address_of_word j)) z

      -- and knows no other address
      pub new_of_none : (a : ℕ) → AllApart plan a → new_of image a ≡ None
      new_of_none a apart =
          new_by a None (ap (λ p. position_from (is_first_item a) 1 (plan_items program p))
          (sym (append-nil plan)) ∙ skip_entries a 1 plan [] apart)
