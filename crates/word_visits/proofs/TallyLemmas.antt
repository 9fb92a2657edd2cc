-- Words that are tallied, one after another, and how many of them count.
use Rattle.std.proofs.Common.{◌≡◌, ℕ, zero, suc, ◌+◌, ◌-◌, ◌<◌, ◌≤◌, Bool, true, false, cond, List, [], ◌∷◌, ◌++◌, length, refl, sym, ap, ◌∙◌, subst, inl, inr, arith}
use Rattle.std.specs.Prelude.{nat_lt, slice_index_or}
use Rattle.std.proofs.lemmas.Bool.Decides.{eqb_tells, nat_tests}
use Rattle.std.proofs.lemmas.List.{get_or_append_left, get_or_default, get_or_push, length_push}
use Rattle.node_words.specs.exec_map.Contents.{program_of}
use Rattle.node_words.specs.jump_map.Image.{Cell, address_of_word, number_of_word}
use Rattle.node_words.specs.node_model.Node.{Node, Running, Work, can_execute}
use Rattle.node_words.specs.node_model.Turns.{word_turn}
use Rattle.node_words.specs.node_memory.Shelf.{Ground, ground_of}
use Rattle.node_words.specs.declared.exec_state.ExecState.{ExecState}
use Rattle.node_words.specs.GoingOn.{BodyGoesOn, BodyTells, node_on}
use Rattle.node_words.specs.Runs.{AreWordsOf, GoesOnBy, numbers_from}
use Rattle.word_visits.specs.Tallies.{AreTallied, IsTallied, WordTally, step_at, steps_among, steps_of, tally_at}
use Rattle.word_visits.specs.TallyBodies.{BodyHasSteps, HaveSteps}
use Rattle.word_visits.specs.TallyLoops.{HasCounted}
use Rattle.word_visits.specs.TallyTables.{tallies_of}
use Rattle.word_visits.specs.declared.counting.TallyLoop.{TallyLoop}
use Rattle.word_visits.specs.Sums.{RiseByOne, tallies_in}
use Rattle.word_visits.specs.Visits.{WordVisits, next_number, visits_at}

-- 1. Sums that rise

pub rise_between : (ss : List ℕ) (k n e d f : ℕ) → RiseByOne ss → k + n ≡ e → e < length ss
    → (slice_index_or ss k d ≤ slice_index_or ss e f) × (slice_index_or ss e f ≤ slice_index_or ss k d + n)
rise_between ss k zero e d f rise sum below =
    let same : k ≡ e = omega (arith, sum) in
    let value : slice_index_or ss k d ≡ slice_index_or ss e f =
    get_or_default ss k d f (omega (arith, sum, below)) ∙ ap (λ (i : ℕ). slice_index_or ss i f) same in
    (omega (arith, value), omega (arith, value))
rise_between ss k (suc n) e d f rise sum below =
    let here = get_or_default ss k d 0 (omega (arith, sum, below)) in
    let one = rise k (omega (arith, sum, below)) in
    let rest = rise_between ss (k + 1) n e 0 f rise (omega (arith, sum)) below in
    let low = one.0 in
    let high = one.1 in
    let least = rest.0 in
    let most = rest.1 in
    (omega (arith, here, low, least), omega (arith, here, high, most))

-- those that begin at 0 are no larger than their numbers
pub rise_below : (ss : List ℕ) (k d : ℕ) → RiseByOne ss → slice_index_or ss 0 0 ≡ 0 → k < length ss → slice_index_or ss k d ≤ k
rise_below ss k d rise start below =
    let all = (rise_between ss 0 k k 0 d rise (omega arith) below).1 in
    omega (arith, all, start)

-- one more
pub rise_push : (ss : List ℕ) (k t d : ℕ) → length ss ≡ k + 1 → RiseByOne ss → slice_index_or ss k d ≤ t
    → t ≤ slice_index_or ss k d + 1 → RiseByOne (ss ++ t ∷ [])
rise_push ss k t d count rise least most = λ j within.
    let sum : length (ss ++ t ∷ []) ≡ length ss + 1 = length_push ss t in
    let old = get_or_append_left ss (t ∷ []) 0 j (omega (arith, within, sum)) in
    elim (eqb_tells j k) [
      | inl same ↦
          (let last = same.1 in
          let value : slice_index_or ss j 0 ≡ slice_index_or ss k d =
          ap (λ (i : ℕ). slice_index_or ss i 0) last ∙ get_or_default ss k 0 d (omega (arith, count)) in
          let new = get_or_push ss t 0 (j + 1) (omega (arith, count, last)) in
          (omega (arith, old, value, new, least), omega (arith, old, value, new, most)))
      | inr apart ↦
          (let other = apart.1 in
          let inside : j + 1 < length ss = omega (arith, within, sum, count, other) in
          let next = get_or_append_left ss (t ∷ []) 0 (j + 1) inside in
          let one = rise j inside in
          let low = one.0 in
          let high = one.1 in
          (omega (arith, old, next, low), omega (arith, old, next, high)))
    ]

-- 2. What is said of words by their sums

counts_at : (vs : List WordVisits) (ss : List ℕ) (k j : ℕ) → length ss ≡ length vs + 1 → j ≡ k + 1 → j < length ss
    → (tally_at (tallies_in vs ss) k).counts ≡ nat_lt (slice_index_or ss k 0) (slice_index_or ss j 0)
counts_at vs [] k j count next below = absurd (omega (arith, below))
counts_at [] (t ∷ ss) k j count next below = absurd (omega (arith, count, next, below))
counts_at (v ∷ vs) (t ∷ []) k j count next below = absurd (omega (arith, next, below))
counts_at (v ∷ vs) (t ∷ u ∷ ss) k zero count next below = absurd (omega (arith, next))
counts_at (v ∷ vs) (t ∷ u ∷ ss) zero (suc zero) count next below = refl
counts_at (v ∷ vs) (t ∷ u ∷ ss) zero (suc (suc j)) count next below = absurd (omega (arith, next))
counts_at (v ∷ vs) (t ∷ u ∷ ss) (suc k) (suc j) count next below =
    counts_at vs (u ∷ ss) k j (omega (arith, count)) (omega (arith, next)) (omega (arith, below))

one_if : (a b : ℕ) → a ≤ b → b ≤ a + 1 → cond (nat_lt a b) 1 0 + a ≡ b
one_if a b low high = go (nat_lt a b) refl
  where
    go : (t : Bool) → nat_lt a b ≡ t → cond t 1 0 + a ≡ b
    go true e = let less : a < b = grind (arith, nat_tests) in omega (arith, less, high)
    go false e = let least : b ≤ a = grind (arith, nat_tests) in omega (arith, least, low)

one_step : (vs : List WordVisits) (ss : List ℕ) (k : ℕ) → RiseByOne ss → length ss ≡ length vs + 1 → k + 1 < length ss
    → step_at (tallies_in vs ss) k + slice_index_or ss k 0 ≡ slice_index_or ss (k + 1) 0
one_step vs ss k rise count below =
    let a = slice_index_or ss k 0 in
    let b = slice_index_or ss (k + 1) 0 in
    let one = rise k below in
    let one_of : Bool → ℕ = λ t. cond t 1 0 in
    let step : step_at (tallies_in vs ss) k ≡ one_of (nat_lt a b) = ap one_of (counts_at vs ss k (k + 1) count refl below) in
    let sum = one_if a b one.0 one.1 in
    omega (arith, step, sum)

steps_sum : (vs : List WordVisits) (ss : List ℕ) (k n e d f : ℕ) → RiseByOne ss → length ss ≡ length vs + 1
    → k + n ≡ e → e < length ss
    → steps_among (tallies_in vs ss) (numbers_from k n) + slice_index_or ss k d ≡ slice_index_or ss e f
steps_sum vs ss k zero e d f rise count sum below =
    let same : k ≡ e = omega (arith, sum) in
    let value : slice_index_or ss k d ≡ slice_index_or ss e f =
    get_or_default ss k d f (omega (arith, sum, below)) ∙ ap (λ (i : ℕ). slice_index_or ss i f) same in
    omega (arith, value)
steps_sum vs ss k (suc n) e d f rise count sum below =
    let here = get_or_default ss k d 0 (omega (arith, sum, below)) in
    let one = one_step vs ss k rise count (omega (arith, sum, below)) in
    let rest = steps_sum vs ss (k + 1) n e 0 f rise count (omega (arith, sum)) below in
    omega (arith, here, one, rest)

pub steps_difference : (vs : List WordVisits) (ss : List ℕ) (first end d f : ℕ) → RiseByOne ss → length ss ≡ length vs + 1
    → first ≤ end → end < length ss
    → slice_index_or ss end f - slice_index_or ss first d ≡ steps_among (tallies_in vs ss) (numbers_from first (end - first))
steps_difference vs ss first end d f rise count low below =
    let sum = steps_sum vs ss first (end - first) end d f rise count (omega (arith, low)) below in
    omega (arith, sum)

pub difference_least : (ss : List ℕ) (first end d f : ℕ) → RiseByOne ss → first ≤ end → end < length ss
    → slice_index_or ss first d ≤ slice_index_or ss end f
difference_least ss first end d f rise low below = (rise_between ss first (end - first) end d f rise (omega (arith, low)) below).0

pub difference_most : (ss : List ℕ) (first end d f : ℕ) → RiseByOne ss → first ≤ end → end < length ss
    → slice_index_or ss end f - slice_index_or ss first d ≤ end - first
difference_most ss first end d f rise low below =
    let most = (rise_between ss first (end - first) end d f rise (omega (arith, low)) below).1 in
    omega (arith, most)

pub length_tallies : (vs : List WordVisits) (ss : List ℕ) → length ss ≡ length vs + 1
    → length (tallies_in vs ss) ≡ length vs
length_tallies [] ss count = refl
length_tallies (v ∷ vs) [] count = absurd (omega (arith, count))
length_tallies (v ∷ vs) (s ∷ ss) count =
    let rest = length_tallies vs ss (omega (arith, count)) in omega (arith, rest)

pub looks_tallied : (vs : List WordVisits) (ss : List ℕ) (k : ℕ) → length ss ≡ length vs + 1
    → (tally_at (tallies_in vs ss) k).looks ≡ (visits_at vs k).looks
looks_tallied [] ss k count = refl
looks_tallied (v ∷ vs) [] k count = absurd (omega (arith, count))
looks_tallied (v ∷ vs) (s ∷ ss) zero count = refl
looks_tallied (v ∷ vs) (s ∷ ss) (suc k) count = looks_tallied vs ss k (omega (arith, count))

tallies_push : (vs : List WordVisits) (ss : List ℕ) (v : WordVisits) (k t d : ℕ) → length vs ≡ k → length ss ≡ k + 1
    → tallies_in (vs ++ v ∷ []) (ss ++ t ∷ [])
    ≡ tallies_in vs ss ++ record { counts = nat_lt (slice_index_or ss k d) t; looks = v.looks } ∷ []
tallies_push vs [] v k t d words count = absurd (omega (arith, count))
tallies_push [] (s ∷ []) v zero t d words count = refl
tallies_push [] (s ∷ ss) v (suc k) t d words count = absurd (omega (arith, words))
tallies_push [] (s ∷ u ∷ ss) v zero t d words count = absurd (omega (arith, count))
tallies_push (w ∷ vs) (s ∷ ss) v zero t d words count = absurd (omega (arith, words))
tallies_push (w ∷ vs) (s ∷ []) v (suc k) t d words count = absurd (omega (arith, count))
tallies_push (w ∷ vs) (s ∷ u ∷ ss) v (suc k) t d words count =
    ap (λ (ts : List WordTally). record { counts = nat_lt s u; looks = w.looks } ∷ ts)
    (tallies_push vs (u ∷ ss) v k t d (omega (arith, words)) (omega (arith, count)))

-- one more word, that counts or doesn't
counts_is : (counts : Bool) (s : ℕ) → nat_lt s (cond counts (s + 1) s) ≡ counts
counts_is true s = let less : s < s + 1 = omega arith in grind (arith, nat_tests)
counts_is false s = let least : s ≤ s = omega arith in grind (arith, nat_tests)

pub next_sums : (counts : Bool) (s t : ℕ) → t ≡ cond counts (s + 1) s → (s ≤ t) × (t ≤ s + 1)
next_sums true s t is = (omega (arith, is), omega (arith, is))
next_sums false s t is = (omega (arith, is), omega (arith, is))

pub tallies_more : (vs us : List WordVisits) (ss zs : List ℕ) (counts looks : Bool) (k t d : ℕ) → length vs ≡ k
    → length ss ≡ k + 1 → us ≡ vs ++ record { times = 0; looks = looks } ∷ [] → zs ≡ ss ++ t ∷ []
    → t ≡ cond counts (slice_index_or ss k d + 1) (slice_index_or ss k d)
    → tallies_in us zs ≡ tallies_in vs ss ++ record { counts = counts; looks = looks } ∷ []
tallies_more vs us ss zs counts looks k t d words count more sums is =
    let s = slice_index_or ss k d in
    (λ i. tallies_in (more i) (sums i))
    ∙ tallies_push vs ss (record { times = 0; looks = looks }) k t d words count
    ∙ (λ i. tallies_in vs ss ++ record { counts = (ap (nat_lt s) is ∙ counts_is counts s) i; looks = looks } ∷ [])

-- 3. Words by their numbers

pub words_stepped : (work : Work) (ks : List ℕ) (n : Node) (ts : List WordTally) (looks : ℕ → Bool)
    → ((j : ℕ) → (tally_at ts j).looks ≡ looks j) → length work.image ≤ length ts → AreWordsOf work looks ks n
    → HaveSteps work (length ks) n ts (steps_among ts ks)
words_stepped work [] n ts looks same long are = record { tallied = tt; count = refl }
words_stepped work (k ∷ ks) n ts looks same long are =
    let back : number_of_word (address_of_word k) ≡ k = omega arith in
    let number : next_number n ≡ k = ap number_of_word are.0.at ∙ back in
    let within = are.0.within in
    let rest = words_stepped work ks (word_turn work n).node ts looks same long are.1 in
    let one : IsTallied work n ts = record {
      at = are.0.at ∙ ap address_of_word (sym number);
      within = subst (λ (j : ℕ). j < length ts) (sym number) (omega (arith, within, long));
      other = λ says. are.0.other (sym (same k) ∙ ap (λ (j : ℕ). (tally_at ts j).looks) (sym number) ∙ says);
    } in
    record {
      tallied = (one, rest.tallied);
      count = λ i. step_at ts (sym number i) + rest.count i;
    }

pub steps_append : (ts : List WordTally) (ks js : List ℕ) → steps_among ts (ks ++ js) ≡ steps_among ts ks + steps_among ts js
steps_append ts [] js = omega arith
steps_append ts (k ∷ ks) js = let rest = steps_append ts ks js in omega (arith, rest)

-- and others behind them

tallied_both : (work : Work) (j k t : ℕ) (n m : Node) (ts : List WordTally) → j + k ≡ t → GoesOnBy work j n m
    → AreTallied work j n ts → AreTallied work k m ts → AreTallied work t n ts
tallied_both work zero k t n m ts sum on one two =
    let same : k ≡ t = omega (arith, sum) in
    subst (λ (x : ℕ). AreTallied work x n ts) same (subst (λ (x : Node). AreTallied work k x ts) (sym on) two)
tallied_both work (suc j) k zero n m ts sum on one two = absurd (omega (arith, sum))
tallied_both work (suc j) k (suc t) n m ts sum on one two =
    (one.0, tallied_both work j k t (word_turn work n).node m ts (omega (arith, sum)) on.2 one.1 two)

steps_add : (work : Work) (j k t : ℕ) (n m : Node) (ts : List WordTally) → j + k ≡ t → GoesOnBy work j n m
    → steps_of work t n ts ≡ steps_of work j n ts + steps_of work k m ts
steps_add work zero k t n m ts sum on =
    let same : t ≡ k = omega (arith, sum) in
    let here : steps_of work t n ts ≡ steps_of work k m ts = λ i. steps_of work (same i) (on i) ts in
    omega (arith, here)
steps_add work (suc j) k zero n m ts sum on = absurd (omega (arith, sum))
steps_add work (suc j) k (suc t) n m ts sum on =
    let rest = steps_add work j k t (word_turn work n).node m ts (omega (arith, sum)) on.2 in
    omega (arith, rest)

have_both : (work : Work) (j k t s r u : ℕ) (n m : Node) (ts : List WordTally) → j + k ≡ t → u ≡ s + r
    → GoesOnBy work j n m → HaveSteps work j n ts s → HaveSteps work k m ts r → HaveSteps work t n ts u
have_both work j k t s r u n m ts sum steps on one two =
    let all = steps_add work j k t n m ts sum on in
    let first = one.count in
    let second = two.count in
    record {
      tallied = tallied_both work j k t n m ts sum on one.tallied two.tallied;
      count = omega (arith, all, first, second, steps);
    }

-- 4. Bodies

-- words of these numbers, after others
pub body_steps : (image : List Cell) (most from words at k t s u : ℕ) (ks : List ℕ) (b m : ExecState)
    (ts : List WordTally) (looks : ℕ → Bool) → words + k ≡ t → t ≤ most → length ks ≡ k → u ≡ s + steps_among ts ks
    → ((j : ℕ) → (tally_at ts j).looks ≡ looks j) → length image ≤ length ts → ground_of m.local ≡ ground_of b.local
    → BodyGoesOn image most from b words at m → BodyHasSteps image most from b words ts s
    → ((work : Work) (n : Node) (before : ℕ) → work.image ≡ image → work.program ≡ program_of m.local.program
    → can_execute n.phase ≡ true → n.executed + before + k < work.budget → AreWordsOf work looks ks (node_on n m at before))
    → BodyHasSteps image most from b t ts u
body_steps image most from words at k t s u ks b m ts looks sum few count steps same long ground on are passed =
    λ work n is program may room.
    let here = node_on n m at words in
    let words_are = passed work n words is (program ∙ sym (ap (λ (g : Ground). program_of g.program) ground)) may
    (omega (arith, room, sum, few)) in
    have_both work words k t s (steps_among ts ks) u (node_on n b from 0) here ts sum steps (on work n is program may room)
    (are work n is program may room)
    (subst (λ (x : ℕ). HaveSteps work x here ts (steps_among ts ks)) count
    (words_stepped work ks here ts looks same (subst (λ (cells : List Cell). length cells ≤ length ts) (sym is) long) words_are))

-- words that are tallied tell it, where there may be more of them, too
pub steps_tell : (image : List Cell) (few most from words steps : ℕ) (b : ExecState) (l m : TallyLoop) → few ≤ most
    → m.tallies.now ≡ l.tallies.now → m.steps ≡ l.steps + steps → BodyHasSteps image few from b words (tallies_of l.tallies.now) steps
    → BodyTells (λ work k n. HasCounted work k n l m) image most from b words
steps_tell image few most from words steps b l m less same more have = record {
  some = λ work n is program may room.
      let one = have work n is program may (omega (arith, less, room)) in
      let count = one.count in
      record { same = same; tallied = one.tallied; count = omega (arith, more, count) };
  none = λ zero work n.
      let here : Work = record work { image = image; program = program_of b.local.program; budget = few + 1 } in
      let runs : Node = record n { phase = Running; executed = 0 } in
      let one = subst (λ (k : ℕ). HaveSteps here k (node_on runs b from 0) (tallies_of l.tallies.now) steps) zero
      (have here runs refl refl refl (omega arith)) in
      let count = one.count in
      record { same = same; tallied = tt; count = omega (arith, more, count) };
}

-- 5. Tallied words are counted among visits of as many words, of which as many look
