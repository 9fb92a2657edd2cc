-- What the wants of a protocol list allow, and what its takes take, over all blocks.
use Rattle.std.proofs.Common.{◌≡◌, ◌≢◌, ℕ, zero, suc, ◌+◌, ◌*◌, ◌<◌, ◌≤◌, ◌⊎◌, Bool, true, false, cond, eqb, ltb, List, [], ◌∷◌, ◌++◌, length, Option, Some, None, refl, sym, ap, ◌∙◌, subst, inl, inr, arith}
use Rattle.std.proofs.lemmas.Bool.Decides.{eqb_tells, nat_tests}
use Rattle.rewriting_law.proofs.Names.{Shape, blocks, Effect, effect_or, row, Setting, Proper, local, tally_after, take_in, may_want, apply, Need, Message, Post, Contents, need_of, wires_of, setting_of}
use Rattle.coherence.specs.Messages as m
use Rattle.coherence.specs.Table.{update}
use Rattle.coherence.specs.Machine.{Wire, Tally, Core, Event, Store, Want, Take, row_of, store_in, want_in, step, opening, after}
use Rattle.coherence.proofs.Theorem.{all_frugal}
use Rattle.home_directory.specs.dsm_messages.declared.messages.Need.TheVariants as need
use Rattle.dsm_protocol.proofs.Taking.{IsRowOf, steps_more}

-- how many blocks were wanted, to be read and to be written; how many messages were taken, and how
-- many sent
pub record Counts : Type 0 where
  pub asked : ℕ
  pub reads : ℕ
  pub writes : ℕ
  pub taken : ℕ
  pub sent : ℕ

abbrev pub no_counts : Counts
no_counts = record { asked = 0; reads = 0; writes = 0; taken = 0; sent = 0 }

abbrev pub reads_in : Option Need → ℕ
reads_in (Some need.Read) = 1
reads_in (Some need.Write) = 0
reads_in None = 0

abbrev pub writes_in : Option Need → ℕ
writes_in (Some need.Read) = 0
writes_in (Some need.Write) = 1
writes_in None = 0

-- a request was sent, for this
abbrev pub asks_more : Option Need → Counts → Counts
asks_more for k = record {
  asked = k.asked + 1;
  reads = k.reads + reads_in for;
  writes = k.writes + writes_in for;
  taken = k.taken;
  sent = k.sent + 1;
}

-- a message was taken, and so many sent
abbrev pub takes_more : ℕ → Counts → Counts
takes_more sends k = record {
  asked = k.asked;
  reads = k.reads;
  writes = k.writes;
  taken = k.taken + 1;
  sent = k.sent + sends;
}

-- 1. Sums

abbrev pub total : (ℕ → ℕ) → ℕ → ℕ
total f zero = 0
total f (suc n) = total f n + f n

pub total_most : (f g : ℕ → ℕ) (n : ℕ) → ((x : ℕ) → x < n → f x ≤ g x) → total f n ≤ total g n
total_most f g zero h = omega arith
total_most f g (suc n) h =
    let rest = total_most f g n (λ x low. h x (omega (arith, low))) in
    let here = h n (omega arith) in omega (arith, rest, here)

-- a sum with one of its parts changed
pub total_one : (f g : ℕ → ℕ) (b d : ℕ) → g b ≡ f b + d → ((x : ℕ) → x ≢ b → g x ≡ f x) → (n : ℕ)
    → ((n ≤ b) × (total g n ≡ total f n)) ⊎ ((b < n) × (total g n ≡ total f n + d))
total_one f g b d own other zero = inl (omega arith, refl)
total_one f g b d own other (suc n) = elim (total_one f g b d own other n) [
  | inl h ↦ elim (eqb_tells n b) [
    | inl q ↦ (
        let same = h.1 in
        let is : g n ≡ f n + d = ap g q.1 ∙ own ∙ ap (λ z. f z + d) (sym q.1) in
        let at = q.1 in inr (omega (arith, at), omega (arith, same, is)))
    | inr q ↦ (
        let low = h.0 in
        let same = h.1 in
        let is = other n q.1 in
        let apart = q.1 in
        let above : suc n ≤ b = grind (arith, nat_tests) in inl (above, omega (arith, same, is)))
  ]
  | inr h ↦ (
      let low = h.0 in
      let same = h.1 in
      let is = other n (λ e. let at : n ≡ b = e in absurd (omega (arith, low, at))) in
      inr (omega (arith, low), omega (arith, same, is)))
]

-- 2. Tallies

module _ (l : Shape) (first : ℕ → Contents) where
  abbrev s : Setting Contents
  s = setting_of l first

  abbrev takes_of : Core Contents → ℕ → ℕ
  takes_of c b = (c.tally b).takes

  abbrev allowances_of : Core Contents → ℕ → ℕ
  allowances_of c b = (c.tally b).allowance

  abbrev sends_of : Core Contents → ℕ → ℕ
  sends_of c b = (c.tally b).sends

  -- so many blocks were wanted at most, and so many messages taken and sent at least
  pub record CountedIn (c : Core Contents) (k : Counts) : Type 0 where
    pub allowed : total (allowances_of c) (blocks l) ≤ (2 * l.nodes + 2) * k.asked
    pub paid : total (allowances_of c) (blocks l) ≤ 4 * k.reads + (2 * l.nodes + 1) * k.writes
    pub taken : k.taken ≤ total (takes_of c) (blocks l)
    pub sent : k.sent ≤ total (sends_of c) (blocks l)

  -- by the list
  abbrev pub AreCounted : List (Event Contents) → Counts → Type 0
  AreCounted es k = CountedIn (after s es) k

  no_total : (n : ℕ) → total (λ b. 0) n ≡ 0
  no_total zero = refl
  no_total (suc n) = let rest = no_total n in omega (arith, rest)

  pub start_counted : AreCounted [] no_counts
  start_counted = record {
    allowed = (let none = no_total (blocks l) in omega (arith, none));
    paid = (let none = no_total (blocks l) in omega (arith, none));
    taken = omega arith;
    sent = omega arith;
  }

  abbrev then : List (Event Contents) → Event Contents → Core Contents
  then es e = step s (after s es) e

  is_then : (es : List (Event Contents)) (e : Event Contents) → after s (es ++ e ∷ []) ≡ then es e
  is_then es e = steps_more s es e (opening s)

  by_step : (es : List (Event Contents)) (e : Event Contents) (k : Counts)
      → CountedIn (then es e) k → AreCounted (es ++ e ∷ []) k
  by_step es e k h = subst (λ (c : Core Contents). CountedIn c k) (sym (is_then es e)) h

  -- no tally has changed
  still_counted : (c d : Core Contents) (k : Counts) → d.tally ≡ c.tally → CountedIn c k
      → CountedIn d k
  still_counted c d k same h = record {
    allowed = subst (λ (f : ℕ → Tally). total (λ x. (f x).allowance) (blocks l)
        ≤ (2 * l.nodes + 2) * k.asked) (sym same) h.allowed;
    paid = subst (λ (f : ℕ → Tally). total (λ x. (f x).allowance) (blocks l)
        ≤ 4 * k.reads + (2 * l.nodes + 1) * k.writes) (sym same) h.paid;
    taken = subst (λ (f : ℕ → Tally). k.taken ≤ total (λ x. (f x).takes) (blocks l)) (sym same)
        h.taken;
    sent = subst (λ (f : ℕ → Tally). k.sent ≤ total (λ x. (f x).sends) (blocks l)) (sym same)
        h.sent;
  }

  pub store_counted : (es : List (Event Contents)) (k : Counts) (i b : ℕ)
      (write : Contents → Contents) → AreCounted es k → AreCounted (es ++ Store i b write ∷ []) k
  store_counted es k i b write h =
      let c = after s es in
      let same : (then es (Store i b write)).tally ≡ c.tally = (elim (m.can_write (c.state i b))
      as (λ t. (cond t (store_in s c i b write) c).tally ≡ c.tally) [
        | true ↦ refl
        | false ↦ refl
      ]) in
      by_step es (Store i b write) k (still_counted c (then es (Store i b write)) k same h)

  -- one block's tally has changed
  module _ (f g : ℕ → Tally) (b : ℕ) (t : Tally) (is : (x : ℕ) → g x ≡ update f b t x) where
    own_tally : g b ≡ t
    unfolding update
    own_tally =
        let same : eqb b b ≡ true = grind (arith, nat_tests) in
        is b ∙ ap (λ z. cond z t (f b)) same

    other_tally : (x : ℕ) → x ≢ b → g x ≡ f x
    unfolding update
    other_tally x apart =
        let other : eqb x b ≡ false = grind (arith, nat_tests) in
        is x ∙ ap (λ z. cond z t (f x)) other

  allowance_most : 0 < l.nodes → (for : m.Need) → m.allowance_for l.nodes for ≤ 2 * l.nodes + 2
  allowance_most some m.Read = omega (arith, some)
  allowance_most some m.Write = omega arith

  pays : (for : Need) (d : ℕ) → m.allowance_for l.nodes (need_of for) ≡ d
      → d ≤ 4 * reads_in (Some for) + (2 * l.nodes + 1) * writes_in (Some for)
  pays need.Read d e = let is : 4 ≡ d = e in omega (arith, is)
  pays need.Write d e = let is : 2 * l.nodes + 1 ≡ d = e in omega (arith, is)

  more_paid : (r w x y t u d : ℕ) → t ≤ 4 * r + (2 * l.nodes + 1) * w
      → d ≤ 4 * x + (2 * l.nodes + 1) * y → u ≤ t + d
      → u ≤ 4 * (r + x) + (2 * l.nodes + 1) * (w + y)
  more_paid r w x y t u d before more is = omega (arith, before, more, is)

  pub want_counted : 0 < l.nodes → (es : List (Event Contents)) (k : Counts) (i b : ℕ)
      (for : Need) → AreCounted es k
      → (may_want s (after s es) i b (need_of for) ≡ true)
      → AreCounted (es ++ Want i b (need_of for) ∷ []) (asks_more (Some for) k)
  want_counted some es k i b for h may =
      by_step es (Want i b (need_of for)) (asks_more (Some for) k)
      (subst (λ t. CountedIn (cond t (want_in s c i b (need_of for)) c) (asks_more (Some for) k))
      (sym may) wanted)
    where
      c : Core Contents
      c = after s es

      cost : ℕ
      cost = m.allowance_for l.nodes (need_of for)

      own : Tally
      own = record {
        takes = (c.tally b).takes;
        sends = (c.tally b).sends + 1;
        allowance = (c.tally b).allowance + cost;
        cost = (c.tally b).cost;
      }

      d : Core Contents
      d = want_in s c i b (need_of for)

      there : d.tally b ≡ own
      there = own_tally c.tally d.tally b own (λ x. refl)

      elsewhere : (x : ℕ) → x ≢ b → d.tally x ≡ c.tally x
      elsewhere = other_tally c.tally d.tally b own (λ x. refl)

      below : b < blocks l
      below = grind (arith, nat_tests)

      grown : (f g : ℕ → ℕ) (n : ℕ) → g b ≡ f b + n → ((x : ℕ) → x ≢ b → g x ≡ f x)
          → total g (blocks l) ≡ total f (blocks l) + n
      grown f g n own other = elim (total_one f g b n own other (blocks l)) [
        | inl same ↦ (let above = same.0 in absurd (omega (arith, above, below)))
        | inr more ↦ more.1
      ]

      dear : total (allowances_of d) (blocks l) ≡ total (allowances_of c) (blocks l) + cost
      dear = grown (allowances_of c) (allowances_of d) cost
          (ap (λ (t : Tally). t.allowance) there)
          (λ x apart. ap (λ (t : Tally). t.allowance) (elsewhere x apart))

      takes : total (takes_of d) (blocks l) ≡ total (takes_of c) (blocks l) + 0
      takes = grown (takes_of c) (takes_of d) 0
          (let e = ap (λ (t : Tally). t.takes) there in omega (arith, e))
          (λ x apart. ap (λ (t : Tally). t.takes) (elsewhere x apart))

      sends : total (sends_of d) (blocks l) ≡ total (sends_of c) (blocks l) + 1
      sends = grown (sends_of c) (sends_of d) 1
          (ap (λ (t : Tally). t.sends) there)
          (λ x apart. ap (λ (t : Tally). t.sends) (elsewhere x apart))

      wanted : CountedIn d (asks_more (Some for) k)
      wanted = record {
        allowed = (
            let before = h.allowed in
            let most = allowance_most some (need_of for) in
            omega (arith, before, most, dear));
        paid = more_paid k.reads k.writes (reads_in (Some for)) (writes_in (Some for))
            (total (allowances_of c) (blocks l)) (total (allowances_of d) (blocks l)) cost h.paid
            (pays for cost refl) (omega (arith, dear));
        taken = (let before = h.taken in omega (arith, before, takes));
        sent = (let before = h.sent in omega (arith, before, sends));
      }

  -- one with a row is about a block of the layout
  block_below : (c : Core Contents) (i j : ℕ) (w : Wire Contents) (e : Effect Contents)
      → row_of s c i j w ≡ Some e → w.block < blocks l
  block_below c i j w e is = go (ltb w.block (blocks l)) refl is
    where
      go : (t : Bool) → ltb w.block (blocks l) ≡ t
          → cond t (row s.flag s.nodes (s.home w.block) i j (ltb (c.occupancy i) 32)
          (c.waiting w.block) (local c i w.block) w.body) None ≡ Some e → w.block < blocks l
      go true low h = grind (arith, nat_tests)
      go false low h = let bad : None ≡ Some e = h in cc

  wire_counted : (es : List (Event Contents)) (k : Counts) (i j : ℕ) (w : Wire Contents)
      (rest : List (Wire Contents)) (e : Effect Contents) (sends : ℕ)
      → (after s es).list j i ≡ w ∷ rest → row_of s (after s es) i j w ≡ Some e
      → sends ≤ length e.sends → AreCounted es k
      → AreCounted (es ++ Take i j ∷ []) (takes_more sends k)
  wire_counted es k i j w rest e sends front is few h =
      by_step es (Take i j) (takes_more sends k)
      (subst (λ ws. CountedIn (take_in s c i j ws) (takes_more sends k)) (sym front)
      (subst (λ o. CountedIn (apply c j i w.block rest (effect_or (local c i w.block) o))
      (takes_more sends k)) (sym is) counted))
    where
      c : Core Contents
      c = after s es

      d : Core Contents
      d = apply c j i w.block rest e

      own : Tally
      own = tally_after (c.tally w.block) e.sends

      there : d.tally w.block ≡ own
      there = own_tally c.tally d.tally w.block own (λ x. refl)

      elsewhere : (x : ℕ) → x ≢ w.block → d.tally x ≡ c.tally x
      elsewhere = other_tally c.tally d.tally w.block own (λ x. refl)

      below : w.block < blocks l
      below = block_below c i j w e is

      grown : (f g : ℕ → ℕ) (n : ℕ) → g w.block ≡ f w.block + n
          → ((x : ℕ) → x ≢ w.block → g x ≡ f x)
          → total g (blocks l) ≡ total f (blocks l) + n
      grown f g n own other = elim (total_one f g w.block n own other (blocks l)) [
        | inl same ↦ (let above = same.0 in absurd (omega (arith, above, below)))
        | inr more ↦ more.1
      ]

      same : total (allowances_of d) (blocks l) ≡ total (allowances_of c) (blocks l) + 0
      same = grown (allowances_of c) (allowances_of d) 0
          (let e = ap (λ (t : Tally). t.allowance) there in omega (arith, e))
          (λ x apart. ap (λ (t : Tally). t.allowance) (elsewhere x apart))

      one_more : total (takes_of d) (blocks l) ≡ total (takes_of c) (blocks l) + 1
      one_more = grown (takes_of c) (takes_of d) 1
          (ap (λ (t : Tally). t.takes) there)
          (λ x apart. ap (λ (t : Tally). t.takes) (elsewhere x apart))

      sent : total (sends_of d) (blocks l) ≡ total (sends_of c) (blocks l) + length e.sends
      sent = grown (sends_of c) (sends_of d) (length e.sends)
          (ap (λ (t : Tally). t.sends) there)
          (λ x apart. ap (λ (t : Tally). t.sends) (elsewhere x apart))

      counted : CountedIn d (takes_more sends k)
      counted = record {
        allowed = (let before = h.allowed in omega (arith, before, same));
        paid = (let before = h.paid in omega (arith, before, same));
        taken = (let before = h.taken in omega (arith, before, one_more));
        sent = (let before = h.sent in omega (arith, before, sent, few));
      }

  -- the row of a message sends so many messages, no more than the core's row does
  pub take_counted : (es : List (Event Contents)) (k : Counts) (i j : ℕ)
      (ms : List Message) (sends : List Post)
      → IsRowOf l first es i j ms sends → AreCounted es k
      → AreCounted (es ++ Take i j ∷ []) (takes_more (length sends) k)
  take_counted es k i j ms sends row h =
      wire_counted es k i j row.wire (wires_of ms) row.effect (length sends) row.front row.is
      row.few h

  -- the messages taken are no more than the wants allow
  pub few_taken : Proper s → (es : List (Event Contents)) (k : Counts) → AreCounted es k
      → k.taken ≤ (2 * l.nodes + 2) * k.asked
  few_taken proper es k h =
      let all = total_most (takes_of (after s es)) (allowances_of (after s es)) (blocks l)
      (λ b low. (all_frugal Contents s proper es).takes b) in
      let taken = h.taken in
      let allowed = h.allowed in
      omega (arith, all, taken, allowed)

  -- nor are those sent: four for each block that is wanted to be read, and 2n + 1 to be written
  pub few_sent : Proper s → (es : List (Event Contents)) (k : Counts) → AreCounted es k
      → k.sent ≤ 4 * k.reads + (2 * l.nodes + 1) * k.writes
  few_sent proper es k h =
      let all = total_most (sends_of (after s es)) (allowances_of (after s es)) (blocks l)
      (λ b low. (all_frugal Contents s proper es).sends b) in
      let sent = h.sent in
      let paid = h.paid in
      omega (arith, all, sent, paid)
