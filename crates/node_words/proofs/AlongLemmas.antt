-- Words of a body by their numbers, and the words of a stride.
use Rattle.std.proofs.Common.{◌≡◌, ℕ, zero, suc, ◌+◌, ◌-◌, ◌^◌, ◌<◌, ◌≤◌, Bool, true, List, [], ◌∷◌, ◌++◌, Option, Some, None, length, refl, sym, ap, ◌∙◌, subst, arith}
use Rattle.node_memory.specs.exec_map.Contents.{program_of}
use Rattle.node_memory.specs.jump_map.Image.{Cell, address_of_word, most_words}
use Rattle.node_memory.specs.node_model.Node.{Node, Work, Phase, can_execute, next_outcome}
use Rattle.node_memory.specs.Shelf.{Ground, ground_of, local_of}
use Rattle.node_words.specs.declared.exec_state.ExecState.{ExecState}
use Rattle.node_words.specs.declared.strides.Going.{Going}
use Rattle.node_words.specs.Address.{word_address}
use Rattle.node_words.specs.GoingOn.{GoesFurther, node_on, phase_on}
use Rattle.node_words.specs.Kept.{Follows, lane_of}
use Rattle.node_words.specs.Runs.{AreWordsOf, GoesOnBy, LooksAtMost, numbers_from}
use Rattle.node_words.specs.Strides.{BodyHasWords, StridesBy, Trail, numbers_by, straight}
use Rattle.node_words.proofs.ReachLemmas.{are_both}
use Rattle.node_words.proofs.WordLemmas.{body_starts, goes_both, goes_one, still_may}

-- 1. From a body to another, whatever came before

phase_both : (p : Phase) (i j : ℕ) → phase_on (phase_on p i) j ≡ phase_on p (i + j)
phase_both p zero j = let sum : j ≡ 0 + j = omega arith in ap (phase_on p) sum
phase_both p (suc i) zero = let sum : suc i ≡ suc i + 0 = omega arith in ap (phase_on p) sum
phase_both p (suc i) (suc j) = let sum : suc (i + suc j) ≡ suc i + suc j = omega arith in ap (phase_on p) sum

pub on_from : (image : List Cell) (at at' k : ℕ) (b b' : ExecState) → GoesFurther image b at 0 b' at' k
    → (work : Work) (n : Node) (before : ℕ) → work.image ≡ image → work.program ≡ program_of b.local.program
    → can_execute n.phase ≡ true → n.executed + before + k < work.budget
    → GoesOnBy work k (node_on n b at before) (node_on n b' at' (before + k))
on_from image at at' k b b' further work n before same program may room =
    let here : Node = record n {
      executed = n.executed + before;
      stamp = n.stamp + before;
      phase = phase_on n.phase before;
    } in
    let on : GoesOnBy work k (node_on here b at 0) (node_on here b' at' k) =
    further.goes k at b (omega arith) refl (body_starts image k at b) work here same program (still_may n.phase before may) room in
    let e1 : n.executed + before + 0 ≡ n.executed + before = omega arith in
    let s1 : n.stamp + before + 0 ≡ n.stamp + before = omega arith in
    let e2 : n.executed + before + k ≡ n.executed + (before + k) = omega arith in
    let s2 : n.stamp + before + k ≡ n.stamp + (before + k) = omega arith in
    let one : node_on here b at 0 ≡ node_on n b at before = λ t. record n {
      lane = lane_of b.lane (word_address at);
      local = local_of b.local;
      executed = e1 t;
      stamp = s1 t;
      phase = phase_on n.phase before;
    } in
    let two : node_on here b' at' k ≡ node_on n b' at' (before + k) = λ t. record n {
      lane = lane_of b'.lane (word_address at');
      local = local_of b'.local;
      executed = e2 t;
      stamp = s2 t;
      phase = phase_both n.phase before k t;
    } in
    subst (λ (x : Node). GoesOnBy work k x (node_on n b' at' (before + k))) one
    (subst (λ (x : Node). GoesOnBy work k (node_on here b at 0) x) two on)

-- 2. Words one after another

-- a body goes on by so many words, those from a number on, of which none looks among so many
pub record BodyReaches (image : List Cell) (reach : ℕ) (b : ExecState) (at k : ℕ) (b' : ExecState) (at' : ℕ) : Type 0 where
  pub goes : (words : ℕ) → GoesFurther image b at words b' at' (words + k)
  pub words : BodyHasWords image (straight reach) at k (numbers_from at k) b

same_program : (b m : ExecState) (work : Work) → ground_of m.local ≡ ground_of b.local
    → work.program ≡ program_of b.local.program → work.program ≡ program_of m.local.program
same_program b m work ground program = program ∙ sym (ap (λ (g : Ground). program_of g.program) ground)

zeroed : (image : List Cell) (at at' k : ℕ) (b b' : ExecState)
    → ((words : ℕ) → GoesFurther image b at words b' at' (words + k)) → GoesFurther image b at 0 b' at' k
zeroed image at at' k b b' goes =
    let none : 0 + k ≡ k = omega arith in subst (λ (x : ℕ). GoesFurther image b at 0 b' at' x) none (goes 0)

pub further_both : (image : List Cell) (r r' s at j at1 k at2 t : ℕ) (b m b' : ExecState) → j + k ≡ t → at1 ≡ at + j
    → r ≤ s → j + r' ≤ s → BodyReaches image r b at j m at1 → BodyReaches image r' m at1 k b' at2
    → BodyReaches image s b at t b' at2
further_both image r r' s at j at1 k at2 t b m b' sum next less more one two = record {
  goes = λ w.
      let total : w + j + k ≡ w + t = omega (arith, sum) in
      subst (λ (x : ℕ). GoesFurther image b at w b' at2 x) total
      (goes_both image at w at1 (w + j) at2 (w + j + k) b m b' (one.goes w) (two.goes (w + j)));
  words = λ work n before looks same program may room look.
      are_both work looks j k t at at1 (node_on n b at before) (node_on n m at1 (before + j)) sum next
      (on_from image at at1 j b m (zeroed image at at1 j b m one.goes) work n before same program may
      (omega (arith, sum, room)))
      (one.words work n before looks same program may (omega (arith, sum, room))
      (λ x low high. look x low (omega (arith, high, less))))
      (two.words work n (before + j) looks same (same_program b m work (one.goes 0).ground_same program) may
      (omega (arith, sum, room))
      (λ x low high. look x (omega (arith, low, next)) (omega (arith, high, next, more))));
}

-- one
pub body_one : (image : List Cell) (at k : ℕ) (b b' : ExecState) → length image ≤ most_words → at < length image
    → Follows image (next_outcome (program_of b.local.program) image (lane_of b.lane (word_address at)) (local_of b.local))
    (ground_of b.local) (word_address k) b'.lane b'.local → BodyReaches image 1 b at 1 b' k
body_one image at k b b' few within follows = record {
  goes = λ w. goes_one image at w k b b' follows;
  words = λ work n before looks same program may room look. (
    record {
      at = number;
      within = subst (λ (cells : List Cell). at < length cells) (sym same) within;
      other = λ says. absurd (none at (look at (omega arith) (omega arith) says));
    },
    tt,
  );
}
  where
    number : word_address at ≡ address_of_word at
    number = omega (arith, few, within)

    none : (x : ℕ) → None ≡ Some x → ⊥
    none x is = cc

-- 3. A stride of such words

numbers_none : (ks : List ℕ) → ks ++ [] ≡ ks
numbers_none [] = refl
numbers_none (k ∷ ks) = ap (λ (xs : List ℕ). k ∷ xs) (numbers_none ks)

straight_numbers : (reach k : ℕ) (from to : Going) → to.left + k ≡ from.left
    → numbers_by (straight reach) from to ≡ numbers_from from.at k
straight_numbers reach k from to left =
    let count : from.left - to.left - 0 ≡ k = omega (arith, left) in
    numbers_none (numbers_from from.at (from.left - to.left - 0)) ∙ ap (numbers_from from.at) count

pub strides_straight : (image : List Cell) (r reach k : ℕ) (from to : Going) (b b' : ExecState) → to.left + k ≡ from.left
    → 0 < k → k ≤ reach → r ≤ reach → from.at + reach ≤ length image → to.at < 2 ^ 32
    → BodyReaches image r b from.at k b' to.at → StridesBy image (straight reach) from b to b'
strides_straight image r reach k from to b b' left some words few within low leads =
    let count : k ≡ from.left - to.left = omega (arith, left) in
    record {
      some = omega (arith, left, some);
      low = low;
      goes = λ words. subst (λ (n : ℕ). GoesFurther image b from.at words b' to.at (words + n)) count (leads.goes words);
      within = within;
      first = omega (arith, left, words);
      last = λ none. absurd (omega (arith, none));
      behind = omega arith;
      words = λ work n before looks same program may room look.
          subst (λ (ks : List ℕ). AreWordsOf work looks ks (node_on n b from.at before))
          (sym (straight_numbers reach k from to left))
          (leads.words work n before looks same program may (omega (arith, room, count))
          (λ x low high. look x low (omega (arith, high, few))));
    }

-- the same the other way
pub straight_reaches : (image : List Cell) (reach : ℕ) (from to : Going) (b b' : ExecState)
    → StridesBy image (straight reach) from b to b'
    → BodyReaches image reach b from.at (from.left - to.left) b' to.at
straight_reaches image reach from to b b' strides =
    let some = strides.some in
    let left : to.left + (from.left - to.left) ≡ from.left = omega (arith, some) in
    record {
      goes = strides.goes;
      words = λ work n before looks same program may room look.
          subst (λ (ks : List ℕ). AreWordsOf work looks ks (node_on n b from.at before))
          (straight_numbers reach (from.left - to.left) from to left)
          (strides.words work n before looks same program may room look);
    }

-- 4. A stride of words, and of others behind a jump

-- a body goes on by words from one number on, and then by those from another on
pub record BodyCrosses (image : List Cell) (told : Option ℕ) (b : ExecState) (at p j q : ℕ) (b' : ExecState) (at' : ℕ)
    : Type 0 where
  pub goes : (words : ℕ) → GoesFurther image b at words b' at' (words + (p + q))
  pub words : (work : Work) (n : Node) (before : ℕ) (looks : ℕ → Bool) → work.image ≡ image
      → work.program ≡ program_of b.local.program → can_execute n.phase ≡ true
      → n.executed + before + (p + q) < work.budget → LooksAtMost looks told at p → LooksAtMost looks told j q
      → AreWordsOf work looks (numbers_from at p ++ numbers_from j q) (node_on n b at before)

pub strides_crossing : (image : List Cell) (t : Trail) (p j q : ℕ) (from to : Going) (b b' : ExecState)
    → to.left + (p + q) ≡ from.left → 0 < p → t.behind ≡ q → to.at ≡ j + q → p ≤ t.reach → from.at ≤ j
    → j + q ≤ from.at + t.reach → from.at + t.reach ≤ length image → to.at < 2 ^ 32 → BodyCrosses image t.told b from.at p j q b' to.at
    → StridesBy image t from b to b'
strides_crossing image t p j q from to b b' left some is end first second reach within low leads =
    let count : p + q ≡ from.left - to.left = omega (arith, left) in
    let before : p ≡ from.left - to.left - t.behind = omega (arith, left, is) in
    let start : j ≡ to.at - t.behind = omega (arith, end, is) in
    record {
      some = omega (arith, left, some, is);
      low = low;
      goes = λ words. subst (λ (n : ℕ). GoesFurther image b from.at words b' to.at (words + n)) count (leads.goes words);
      within = within;
      first = omega (arith, left, first, is);
      last = λ _. omega (arith, end, reach);
      behind = omega (arith, end, is);
      words = λ work n words looks same program may room look.
          subst (λ (ks : List ℕ). AreWordsOf work looks ks (node_on n b from.at words))
          (λ i. numbers_from from.at (before i) ++ numbers_from (start i) (sym is i))
          (leads.words work n words looks same program may (omega (arith, room, count))
          (λ x low high. look x low (omega (arith, high, first)))
          (λ x low high. look x (omega (arith, low, second)) (omega (arith, high, reach))));
    }
