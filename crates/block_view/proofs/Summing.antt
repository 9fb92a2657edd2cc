-- What a node counts is the sum of what it counts of each block.
use Rattle.std.proofs.Common.{◌≡◌, ◌≢◌, ℕ, zero, suc, ◌+◌, ◌<◌, ◌≤◌, Bool, true, false, cond, eqb, List, [], ◌∷◌, length, Option, Some, None, refl, sym, ap, ◌∙◌, subst, inl, inr, arith, add-zero}
use Rattle.std.specs.Prelude.{All}
use Rattle.std.specs.Option.{option_map_or}
use Rattle.std.specs.List.{range_with_len, sum_by}
use Rattle.std.proofs.lemmas.Bool.{ltb-true, eq-eqb, ne_eqb}
use Rattle.std.proofs.lemmas.Bool.Decides.{eqb_tells}
use Rattle.std.proofs.lemmas.List.Sums.{sum_by-append}
use Rattle.std.proofs.lemmas.List.Elements.{All-head, All-tail}
use Rattle.state_table.specs.declared.State.{State}
use Rattle.state_table.specs.StateByte.{can_read}
use Rattle.home_directory.specs.dsm_messages.declared.messages.Need.{Need}
use Rattle.home_directory.specs.dsm_messages.declared.messages.Need.TheVariants as need
use Rattle.node_model.specs.declared.NodeCounts.{NodeCounts}
use Rattle.node_model.specs.Node.{Tally, Nothing_counted, no_counts, counts_after}
use Rattle.node_model.specs.Turns.{count_want, count_row}
use Rattle.event_text.specs.node_machine.declared.wanted.Wanted.{Wanted}
use Rattle.event_text.specs.run_trace.Traced.{OfTake, Traced, What, Word, Taken}
use Rattle.event_text.specs.run_trace.Sums.{count_asked, count_wants, count_in, counts_from}
use Rattle.event_text.specs.Shown.{is_block}
use Rattle.block_view.specs.Counts.{wants_of, count_about, block_counts_from, is_below, IsOfBlocks, AreSums, sum_over}

-- 1. Sums over a range

first_and_rest : (f : ℕ → ℕ) (x : ℕ) (xs : List ℕ) → sum_by f (x ∷ xs) ≡ f x + sum_by f xs
first_and_rest f x xs = let h = sum_by-append f (x ∷ []) xs in omega (arith, h)

same_from : (f g : ℕ → ℕ) (m a : ℕ) → ((b : ℕ) → a ≤ b → g b ≡ f b)
    → sum_by g (range_with_len a m) ≡ sum_by f (range_with_len a m)
same_from f g zero a h = refl
same_from f g (suc m) a h =
    let rest = same_from f g m (a + 1) (λ b below. h b (omega (arith, below))) in
    let here = h a (omega arith) in
    let one = first_and_rest f a (range_with_len (a + 1) m) in
    let two = first_and_rest g a (range_with_len (a + 1) m) in
    omega (arith, rest, here, one, two)

more_at : (f g : ℕ → ℕ) (k d m a : ℕ) → a ≤ k → k < a + m → ((b : ℕ) → b ≢ k → g b ≡ f b)
    → g k ≡ f k + d → sum_by g (range_with_len a m) ≡ sum_by f (range_with_len a m) + d
more_at f g k d zero a low high others here = absurd (omega (arith, low, high))
more_at f g k d (suc m) a low high others here =
    let one = first_and_rest f a (range_with_len (a + 1) m) in
    let two = first_and_rest g a (range_with_len (a + 1) m) in
    elim (eqb_tells a k) [
      | inl same ↦
          let rest = same_from f g m (a + 1) (λ b above. others b (λ e. omega (arith, above, e, same.1))) in
          let first : g a ≡ f a + d = subst (λ x. g x ≡ f x + d) (sym same.1) here in
          omega (arith, rest, first, one, two)
      | inr apart ↦
          let first : g a ≡ f a = others a apart.1 in
          let beyond : a + 1 ≤ k = omega (arith, low, apart.1) in
          let rest = more_at f g k d m (a + 1) beyond (omega (arith, high)) others here in
          omega (arith, rest, first, one, two)
    ]

-- 2. Numbers to which each event adds

record Steady (number : NodeCounts → ℕ) : Type 0 where
  read : ℕ
  reads : (c : NodeCounts) (s : State) → number (count_want need.Read s c) ≡ number c + read
  upgrade : ℕ
  upgrades : (c : NodeCounts)
      → number (record c { upgrade = c.upgrade + 1; messages = c.messages + 1 }) ≡ number c + upgrade
  exclusive : ℕ
  exclusives : (c : NodeCounts)
      → number (record c { exclusive = c.exclusive + 1; messages = c.messages + 1 }) ≡ number c + exclusive
  row : (g : Bool) (n : ℕ) → ℕ
  rows : (g : Bool) (n : ℕ) (c : NodeCounts) → number (count_row g n c) ≡ number c + row g n
  none : row false 0 ≡ 0
  tally : (t : Tally) (c : NodeCounts) → number (counts_after t c) ≡ number c
  opening : number no_counts ≡ 0

-- what a function adds to a number
record Adds (number : NodeCounts → ℕ) (f : NodeCounts → NodeCounts) : Type 0 where
  more : ℕ
  is : (c : NodeCounts) → number (f c) ≡ number c + more

adds_none : (number : NodeCounts → ℕ) → Adds number (λ c. c)
adds_none number = record { more = 0; is = λ c. sym (add-zero (number c)) }

module _ (number : NodeCounts → ℕ) (s : Steady number) where
  of_write : (t : Bool) → Adds number
      (λ c. cond t (record c { upgrade = c.upgrade + 1; messages = c.messages + 1 })
      (record c { exclusive = c.exclusive + 1; messages = c.messages + 1 }))
  of_write true = record { more = s.upgrade; is = s.upgrades }
  of_write false = record { more = s.exclusive; is = s.exclusives }

  of_asked : (asks : Bool) (state : Option State) (n : Need)
      → Adds number (λ c. cond asks (option_map_or (λ x. count_want n x c) state c) c)
  of_asked false state n = adds_none number
  of_asked true None n = adds_none number
  of_asked true (Some x) need.Read = record { more = s.read; is = λ c. s.reads c x }
  of_asked true (Some x) need.Write = of_write (can_read x)

  asked : (v : Wanted) → Adds number (count_asked v)
  asked v = of_asked v.asks v.state v.need

-- 3. Sums over blocks

module _ (number : NodeCounts → ℕ) (s : Steady number) (m : ℕ) where
  -- what is counted of each block, and in all
  abbrev Sum : (ℕ → NodeCounts) → NodeCounts → Type 0
  Sum of all = sum_by (λ b. number (of b)) (range_with_len 0 m) ≡ number all

  at : (f : NodeCounts → NodeCounts) → Adds number f → (k : ℕ) → k < m → (of : ℕ → NodeCounts) (all : NodeCounts)
      → Sum of all → Sum (λ b. cond (eqb k b) (f (of b)) (of b)) (f all)
  at f adds k below of all sum =
      let more = more_at (λ b. number (of b)) (λ b. number (cond (eqb k b) (f (of b)) (of b))) k adds.more m 0
      (omega arith) (omega (arith, below))
      (λ b apart. ap (λ t. number (cond t (f (of b)) (of b))) (ne_eqb k b (λ e. apart (sym e))))
      (ap (λ t. number (cond t (f (of k)) (of k))) (eq-eqb k k refl) ∙ adds.is (of k)) in
      more ∙ ap (λ x. x + adds.more) sum ∙ sym (adds.is all)

  either : (f : NodeCounts → NodeCounts) → ((c : NodeCounts) → number (f c) ≡ number c) → (t : Bool) (c : NodeCounts)
      → number (cond t (f c) c) ≡ number c
  either f none true c = none c
  either f none false c = refl

  nowhere : (f : NodeCounts → NodeCounts) → ((c : NodeCounts) → number (f c) ≡ number c) → (t : ℕ → Bool)
      → (of : ℕ → NodeCounts) (all : NodeCounts) → Sum of all → Sum (λ b. cond (t b) (f (of b)) (of b)) (f all)
  nowhere f none t of all sum =
      same_from (λ b. number (of b)) (λ b. number (cond (t b) (f (of b)) (of b))) m 0
      (λ b low. either f none (t b) (of b)) ∙ sum ∙ sym (none all)

  in_block : (f : NodeCounts → NodeCounts) → Adds number f → (o : Option ℕ) → is_below m o ≡ true
      → (of : ℕ → NodeCounts) (all : NodeCounts) → Sum of all → Sum (λ b. cond (is_block b o) (f (of b)) (of b)) (f all)
  in_block f adds None below of all sum = let no : false ≡ true = below in absurd cc
  in_block f adds (Some k) below of all sum = at f adds k (ltb-true k m below) of all sum

  one_asked : (v : Wanted) (asks : Bool) → v.asks ≡ asks → (v.asks ≡ true → is_below m v.block ≡ true)
      → (of : ℕ → NodeCounts) (all : NodeCounts) → Sum of all
      → Sum (λ b. cond (is_block b v.block) (count_asked v (of b)) (of b)) (count_asked v all)
  one_asked v true is below of all sum =
      in_block (count_asked v) (asked number s v) v.block (below is) of all sum
  one_asked v false is below of all sum =
      nowhere (count_asked v)
      (λ c. ap (λ t. number (cond t (option_map_or (λ state. count_want v.need state c) v.state c) c)) is)
      (λ b. is_block b v.block) of all sum

  of_first : (t : Bool) (v : Wanted) (rest : List Wanted) (c : NodeCounts)
      → count_wants (cond t (v ∷ rest) rest) c ≡ count_wants rest (cond t (count_asked v c) c)
  of_first true v rest c = refl
  of_first false v rest c = refl

  all_asked : (vs : List Wanted) → All (λ v. v.asks ≡ true → is_below m v.block ≡ true) vs
      → (of : ℕ → NodeCounts) (all : NodeCounts) → Sum of all
      → Sum (λ b. count_wants (wants_of b vs) (of b)) (count_wants vs all)
  all_asked [] below of all sum = sum
  all_asked (v ∷ vs) below of all sum =
      let P : Wanted → Type 0 = λ w. w.asks ≡ true → is_below m w.block ≡ true in
      let next = one_asked v v.asks refl (All-head P v vs below) of all sum in
      let rest = all_asked vs (All-tail P v vs below) (λ b. cond (is_block b v.block) (count_asked v (of b)) (of b))
      (count_asked v all) next in
      same_from (λ b. number (count_wants (wants_of b vs) (cond (is_block b v.block) (count_asked v (of b)) (of b))))
      (λ b. number (count_wants (wants_of b (v ∷ vs)) (of b))) m 0
      (λ b low. ap number (of_first (is_block b v.block) v (wants_of b vs) (of b))) ∙ rest

  one_row : (t : OfTake) → IsOfBlocks m (Taken t) → (of : ℕ → NodeCounts) (all : NodeCounts) → Sum of all
      → Sum (λ b. count_about b (Taken t) (of b)) (count_row t.gives_up (length t.sends) all)
  one_row t (inl below) of all sum =
      in_block (count_row t.gives_up (length t.sends))
      (record { more = s.row t.gives_up (length t.sends); is = s.rows t.gives_up (length t.sends) })
      t.message.block below of all sum
  one_row t (inr none) of all sum =
      let zero_more : s.row t.gives_up (length t.sends) ≡ 0 = (λ i. s.row (none.0 i) (none.1 i)) ∙ s.none in
      nowhere (count_row t.gives_up (length t.sends))
      (λ c. s.rows t.gives_up (length t.sends) c ∙ ap (λ x. number c + x) zero_more ∙ add-zero (number c))
      (λ b. is_block b t.message.block) of all sum

  event : (w : What) → IsOfBlocks m w → (of : ℕ → NodeCounts) (all : NodeCounts) → Sum of all
      → Sum (λ b. count_about b w (of b)) (count_in w all)
  event (Word w) known of all sum =
      all_asked w.wants known of (counts_after w.tally all) (sum ∙ sym (s.tally w.tally all))
  event (Taken t) known of all sum =
      one_row t known of all sum ∙ sym (s.tally t.tally (count_row t.gives_up (length t.sends) all))

  of_node : (mine : Bool) (w : What) → IsOfBlocks m w → (of : ℕ → NodeCounts) (all : NodeCounts) → Sum of all
      → Sum (λ b. cond mine (count_about b w (of b)) (of b)) (cond mine (count_in w all) all)
  of_node true w known of all sum = event w known of all sum
  of_node false w known of all sum = sum

  along : (i : ℕ) (trace : List Traced) → All (λ x. IsOfBlocks m x.what) trace
      → (of : ℕ → NodeCounts) (all : NodeCounts) → Sum of all
      → Sum (λ b. block_counts_from b i trace (of b)) (counts_from i trace all)
  along i [] known of all sum = sum
  along i (x ∷ xs) known of all sum =
      let P : Traced → Type 0 = λ y. IsOfBlocks m y.what in
      along i xs (All-tail P x xs known) (λ b. cond (eqb x.node i) (count_about b x.what (of b)) (of b))
      (cond (eqb x.node i) (count_in x.what all) all)
      (of_node (eqb x.node i) x.what (All-head P x xs known) of all sum)

  opening : Sum (λ b. no_counts) no_counts
  opening = nothing m 0 ∙ sym s.opening
    where
      nothing : (n a : ℕ) → sum_by (λ b. number no_counts) (range_with_len a n) ≡ 0
      nothing zero a = refl
      nothing (suc n) a =
          let rest = nothing n (a + 1) in
          let none = s.opening in
          let one = first_and_rest (λ b. number no_counts) a (range_with_len (a + 1) n) in
          omega (arith, rest, none, one)

  number_sums : (i : ℕ) (trace : List Traced) → All (λ x. IsOfBlocks m x.what) trace
      → sum_over m i trace number ≡ number (counts_from i trace no_counts)
  number_sums i trace known = along i trace known (λ b. no_counts) no_counts opening

-- 4. The five numbers

-- a tally is of none of them
record Same (c d : NodeCounts) : Type 0 where
  read : c.read ≡ d.read
  exclusive : c.exclusive ≡ d.exclusive
  upgrade : c.upgrade ≡ d.upgrade
  invalidations : c.invalidations ≡ d.invalidations
  messages : c.messages ≡ d.messages

tally_same : (t : Tally) (c : NodeCounts) → Same (counts_after t c) c
tally_same Nothing_counted c =
    record { read = refl; exclusive = refl; upgrade = refl; invalidations = refl; messages = refl }
tally_same other c =
    record { read = refl; exclusive = refl; upgrade = refl; invalidations = refl; messages = refl }

invalidated : (g : Bool) (n : ℕ) (c : NodeCounts) → (count_row g n c).invalidations ≡ c.invalidations + cond g 1 0
invalidated true n c = refl
invalidated false n c = sym (add-zero c.invalidations)

no_more : (n : ℕ) → n ≡ n + 0
no_more n = sym (add-zero n)

reading : Steady (λ c. c.read)
reading = record {
  read = 1;
  reads = λ c x. refl;
  upgrade = 0;
  upgrades = λ c. no_more c.read;
  exclusive = 0;
  exclusives = λ c. no_more c.read;
  row = λ g n. 0;
  rows = λ g n c. no_more c.read;
  none = refl;
  tally = λ t c. (tally_same t c).read;
  opening = refl;
}

excluding : Steady (λ c. c.exclusive)
excluding = record {
  read = 0;
  reads = λ c x. no_more c.exclusive;
  upgrade = 0;
  upgrades = λ c. no_more c.exclusive;
  exclusive = 1;
  exclusives = λ c. refl;
  row = λ g n. 0;
  rows = λ g n c. no_more c.exclusive;
  none = refl;
  tally = λ t c. (tally_same t c).exclusive;
  opening = refl;
}

upgrading : Steady (λ c. c.upgrade)
upgrading = record {
  read = 0;
  reads = λ c x. no_more c.upgrade;
  upgrade = 1;
  upgrades = λ c. refl;
  exclusive = 0;
  exclusives = λ c. no_more c.upgrade;
  row = λ g n. 0;
  rows = λ g n c. no_more c.upgrade;
  none = refl;
  tally = λ t c. (tally_same t c).upgrade;
  opening = refl;
}

invalidating : Steady (λ c. c.invalidations)
invalidating = record {
  read = 0;
  reads = λ c x. no_more c.invalidations;
  upgrade = 0;
  upgrades = λ c. no_more c.invalidations;
  exclusive = 0;
  exclusives = λ c. no_more c.invalidations;
  row = λ g n. cond g 1 0;
  rows = invalidated;
  none = refl;
  tally = λ t c. (tally_same t c).invalidations;
  opening = refl;
}

sending : Steady (λ c. c.messages)
sending = record {
  read = 1;
  reads = λ c x. refl;
  upgrade = 1;
  upgrades = λ c. refl;
  exclusive = 1;
  exclusives = λ c. refl;
  row = λ g n. n;
  rows = λ g n c. refl;
  none = refl;
  tally = λ t c. (tally_same t c).messages;
  opening = refl;
}

pub sums : (m i : ℕ) (trace : List Traced) → All (λ x. IsOfBlocks m x.what) trace → AreSums m i trace
sums m i trace known = record {
  read = number_sums (λ c. c.read) reading m i trace known;
  exclusive = number_sums (λ c. c.exclusive) excluding m i trace known;
  upgrade = number_sums (λ c. c.upgrade) upgrading m i trace known;
  invalidations = number_sums (λ c. c.invalidations) invalidating m i trace known;
  messages = number_sums (λ c. c.messages) sending m i trace known;
}
