-- Words of a body that are passed at once, or by an entry, and how they are counted.
use Rattle.std.proofs.Common.{◌≡◌, ℕ, ◌+◌, ◌-◌, ◌^◌, ◌<◌, ◌≤◌, Bool, true, false, Option, Some, None, List, [], ◌∷◌, ◌++◌, length, refl, sym, ap, ◌∙◌, subst, arith}
use Rattle.std.specs.Prelude.{IfSome}
use Rattle.node_words.specs.exec_map.Contents.{program_of}
use Rattle.node_words.specs.jump_map.Image.{Cell, address_of_word, most_words}
use Rattle.node_words.specs.node_model.Node.{Node, WordOutcome, next_outcome, word_outcome}
use Rattle.node_words.specs.node_memory.Shelf.{Shelf, ground_of, local_of}
use Rattle.node_words.specs.declared.exec_state.ExecState.{ExecState}
use Rattle.node_words.specs.declared.strides.Going.{Going}
use Rattle.node_words.specs.Address.{word_address}
use Rattle.node_words.specs.GoingOn.{BodyGoesOn, GoesFurther, node_on, phase_on}
use Rattle.node_words.specs.Kept.{Follows, lane_of}
use Rattle.node_words.specs.Runs.{AreWordsOf, LooksAtMost, numbers_from, reads_other}
use Rattle.node_words.specs.Strides.{IsTried, Stays, StridesBy, Trail}
use Rattle.word_visits.specs.declared.visit.Visit.{Visit}
use Rattle.word_visits.specs.Counting.{BodyIsCounted, PassesBy, numbers_passed}
use Rattle.word_visits.specs.Visits.{WordVisits, visited, visited_all, visits_at}
use Rattle.word_visits.specs.Entries.{looks_in, visits_in}
use Rattle.node_words.proofs.ReachLemmas.{numbers_both}
use Rattle.node_words.proofs.WordLemmas.{goes_both, goes_none, goes_one}
use Rattle.word_visits.proofs.TableLemmas.{length_visits, looks_said}
use Rattle.word_visits.proofs.VisitLemmas.{body_counted, length_append, length_numbers, length_visited, looks_visited, visited_append}

-- 1. The next word of a body

abbrev pub outcome_of : List Cell → ExecState → ℕ → WordOutcome
outcome_of image b at =
    next_outcome (program_of b.local.program) image (lane_of b.lane (word_address at)) (local_of b.local)

pub some_has : (o : Option ℕ) (fact : Type 0) → fact → IfSome o (λ _. fact)
some_has None fact is = tt
some_has (Some k) fact is = is

-- 2. What is passed

-- a stride, which goes over no word that looks
pub stride_passes : (image : List Cell) (t : Trail) (looks : ℕ → Bool) (behind : ℕ) (from to : Going) (b b' : ExecState)
    → behind ≡ t.behind → LooksAtMost looks t.told from.at t.reach → StridesBy image t from b to b'
    → PassesBy image looks behind from b to b'
stride_passes image t looks behind from to b b' is look strides =
    let some = strides.some in
    let words = strides.first in
    let within = strides.within in
    let least = strides.behind in
    record {
      some = omega (arith, some, is);
      low = strides.low;
      goes = strides.goes;
      first = omega (arith, words, within, is);
      last = λ more. let end = strides.last (omega (arith, more, is)) in omega (arith, end, within);
      least = omega (arith, least, is);
      words = λ work n before same program may room.
          subst (λ (q : ℕ). AreWordsOf work looks (numbers_passed q from to) (node_on n b from.at before)) (sym is)
          (strides.words work n before looks same program may room look);
    }

pub tried_passes : (image : List Cell) (t : Trail) (looks : ℕ → Bool) (done : Bool) (from to : Going) (b b' : ExecState)
    → LooksAtMost looks t.told from.at t.reach → IsTried done (StridesBy image t from b to b') from b to b'
    → IsTried done (PassesBy image looks t.behind from b to b') from b to b'
tried_passes image t looks true from to b b' look tried = stride_passes image t looks t.behind from to b b' refl look tried
tried_passes image t looks false from to b b' look tried = tried

-- a word by itself
pub word_passes : (image : List Cell) (looks : ℕ → Bool) (from to : Going) (b b' : ExecState) → length image ≤ most_words
    → from.at < length image → to.left + 1 ≡ from.left → to.at < 2 ^ 32
    → (looks from.at ≡ true → reads_other (outcome_of image b from.at) ≡ true)
    → Follows image (outcome_of image b from.at) (ground_of b.local) (word_address to.at) b'.lane b'.local
    → PassesBy image looks 0 from b to b'
word_passes image looks from to b b' few within one low reads follows =
    let count : 1 ≡ from.left - to.left = omega (arith, one) in
    let words : 1 ≡ from.left - to.left - 0 = omega (arith, one) in
    let number : word_address from.at ≡ address_of_word from.at = omega (arith, few, within) in
    record {
      some = omega (arith, one);
      low = low;
      goes = λ w. subst (λ (k : ℕ). GoesFurther image b from.at w b' to.at (w + k)) count
          (goes_one image from.at w to.at b b' follows);
      first = omega (arith, one, within);
      last = λ none. absurd (omega (arith, none));
      least = omega arith;
      words = λ work n before same program may room.
          let here = node_on n b from.at before in
          let whole : outcome_of image b from.at ≡ word_outcome work here =
          λ t. next_outcome (sym program t) (sym same t) here.lane here.local in
          subst (λ (k : ℕ). AreWordsOf work looks (numbers_from from.at k ++ numbers_from (to.at - 0) 0) here) words (
            record {
              at = number;
              within = subst (λ (cells : List Cell). from.at < length cells) (sym same) within;
              other = λ says. sym (ap reads_other whole) ∙ reads says;
            },
            tt,
          );
    }

-- and a stride or a word behind what changed nothing
pub still_passes : (image : List Cell) (looks : ℕ → Bool) (behind : ℕ) (from mid to : Going) (b m b' : ExecState)
    → Stays from b mid m → PassesBy image looks behind mid m to b' → PassesBy image looks behind from b to b'
still_passes image looks behind from mid to b m b' stays passes = record {
  some = subst (λ (g : Going). to.left + behind < g.left) stays.place passes.some;
  low = passes.low;
  goes = λ words. goes_both image from.at words from.at words to.at (words + (from.left - to.left)) b m b'
      (goes_none image from.at words b m stays.lane stays.local)
      (subst (λ (g : Going). GoesFurther image m g.at words b' to.at (words + (g.left - to.left))) stays.place
      (passes.goes words));
  first = subst (λ (g : Going). g.at + (g.left - to.left - behind) ≤ length image) stays.place passes.first;
  last = passes.last;
  least = passes.least;
  words = λ work n before same program may room.
      let node : node_on n m from.at before ≡ node_on n b from.at before = λ i. record n {
        lane = lane_of (stays.lane i) (word_address from.at);
        local = local_of (stays.local i);
        executed = n.executed + before;
        stamp = n.stamp + before;
        phase = phase_on n.phase before;
      } in
      let own = program ∙ sym (ap (λ (s : Shelf). program_of s.program) stays.local) in
      let fits = subst (λ (g : Going). n.executed + before + (g.left - to.left) < work.budget) (sym stays.place) room in
      subst (λ (x : Node). AreWordsOf work looks (numbers_passed behind from to) x) node
      (subst (λ (g : Going). AreWordsOf work looks (numbers_passed behind g to) (node_on n m g.at before)) stays.place
      (passes.words work n before same own may fits));
}

-- the word from which a stride that wasn't passed would have begun
pub one_passes : (image : List Cell) (looks : ℕ → Bool) (from mid to : Going) (next : ℕ) (b m b' : ExecState)
    → length image ≤ most_words → from.at < length image → Stays from b mid m → to.left + 1 ≡ mid.left → to.at ≡ next
    → to.at < 2 ^ 32 → (looks from.at ≡ true → reads_other (outcome_of image m from.at) ≡ true)
    → Follows image (outcome_of image m from.at) (ground_of m.local) (word_address next) b'.lane b'.local
    → PassesBy image looks 0 from b to b'
one_passes image looks from mid to next b m b' few below stays left at low reads follows =
    let one = subst (λ (g : Going). to.left + 1 ≡ g.left) stays.place left in
    still_passes image looks 0 from from to b m b' (record { place = refl; lane = stays.lane; local = stays.local })
    (word_passes image looks from to m b' few below one low reads
    (subst (λ (k : ℕ). Follows image (outcome_of image m from.at) (ground_of m.local) (word_address k) b'.lane b'.local)
    (sym at) follows))

-- 3. How it is counted

looks_all : (ks : List ℕ) (vs : List WordVisits) (j : ℕ) → (visits_at (visited_all ks vs) j).looks ≡ (visits_at vs j).looks
looks_all [] vs j = refl
looks_all (k ∷ ks) vs j = looks_all ks (visited k vs) j ∙ looks_visited vs j k

length_all : (ks : List ℕ) (vs : List WordVisits) → length (visited_all ks vs) ≡ length vs
length_all [] vs = refl
length_all (k ∷ ks) vs = length_all ks (visited k vs) ∙ length_visited vs k

pub passed_counted : (image : List Cell) (most from behind : ℕ) (here to : Going) (first b b' : ExecState)
    (es : List Visit) (ks : List ℕ) (vs : List WordVisits) → here.left ≤ most → length image ≤ length es
    → ground_of b.local ≡ ground_of first.local → BodyGoesOn image most from first (most - here.left) here.at b
    → BodyIsCounted image most from first (most - here.left) vs (visited_all ks (visits_in 0 0 es))
    → PassesBy image (looks_in es) behind here b to b'
    → BodyIsCounted image most from first (most - to.left) vs
    (visited_all (numbers_passed behind here to) (visited_all ks (visits_in 0 0 es)))
passed_counted image most from behind here to first b b' es ks vs left long ground on are passes =
    let some = passes.some in
    let ws = visits_in 0 0 es in
    let all = length_all ks ws in
    let entries = length_visits 0 0 es in
    let p = here.left - to.left - behind in
    let one = length_numbers here.at p in
    let two = length_numbers (to.at - behind) behind in
    let both = length_append (numbers_from here.at p) (numbers_from (to.at - behind) behind) in
    body_counted image most from (most - here.left) here.at (here.left - to.left) (most - to.left)
    (numbers_passed behind here to) first b vs (visited_all ks ws) (looks_in es) (omega (arith, left, some)) (omega arith)
    (omega (arith, one, two, both, some)) (λ j. looks_all ks ws j ∙ looks_said 0 0 es j) (omega (arith, long, all, entries))
    ground on are passes.words

-- numbers up to one, and from it on
pub numbers_join : (i e f j k : ℕ) → i ≤ e → e ≤ f → j ≡ e - i → k ≡ f - e → numbers_from i j ++ numbers_from e k ≡ numbers_from i (f - i)
numbers_join i e f j k low high first second =
    let there : e ≡ i + j = omega (arith, low, first) in
    ap (λ (x : ℕ). numbers_from i j ++ numbers_from x k) there
    ∙ numbers_both i j k (f - i) (omega (arith, low, high, first, second))

-- where the words stand one after another
pub passed_straight : (first behind : ℕ) (here to : Going) (ws : List WordVisits) → first ≤ here.at
    → to.left + behind < here.left → to.at ≡ here.at + (here.left - to.left - behind) + behind
    → visited_all (numbers_passed behind here to) (visited_all (numbers_from first (here.at - first)) ws)
    ≡ visited_all (numbers_from first (to.at - first)) ws
passed_straight first behind here to ws low some straight =
    let p = here.left - to.left - behind in
    let inner : numbers_passed behind here to ≡ numbers_from here.at (to.at - here.at) =
    numbers_join here.at (to.at - behind) to.at p behind (omega (arith, straight)) (omega arith) (omega (arith, straight))
    (omega (arith, straight)) in
    sym (visited_append (numbers_from first (here.at - first)) (numbers_passed behind here to) ws)
    ∙ ap (λ (ks : List ℕ). visited_all (numbers_from first (here.at - first) ++ ks) ws) inner
    ∙ ap (λ (ks : List ℕ). visited_all ks ws)
    (numbers_join first here.at to.at (here.at - first) (to.at - here.at) low (omega (arith, straight)) refl refl)

-- where the last few stand behind a jump
pub passed_apart : (first behind end : ℕ) (here to : Going) (ws us : List WordVisits) → first ≤ here.at
    → behind ≤ to.at → end ≡ here.at + (here.left - to.left - behind)
    → us ≡ visited_all (numbers_from first (end - first)) ws
    → visited_all (numbers_passed behind here to) (visited_all (numbers_from first (here.at - first)) ws)
    ≡ visited_all (numbers_from (to.at - behind) (to.at - (to.at - behind))) us
passed_apart first behind end here to ws us low least is counted =
    let p = here.left - to.left - behind in
    let before = numbers_from first (here.at - first) in
    let last = numbers_from (to.at - behind) behind in
    let count : behind ≡ to.at - (to.at - behind) = omega (arith, least) in
    visited_append (numbers_from here.at p) last (visited_all before ws)
    ∙ ap (visited_all last) (sym (visited_append before (numbers_from here.at p) ws)
    ∙ ap (λ (ks : List ℕ). visited_all ks ws)
    (numbers_join first here.at end (here.at - first) p low (omega (arith, is)) refl (omega (arith, is)))
    ∙ sym counted)
    ∙ ap (λ (k : ℕ). visited_all (numbers_from (to.at - behind) k) us) count
