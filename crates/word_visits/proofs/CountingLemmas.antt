-- A body whose words are counted, from stride to stride.
use Rattle.std.proofs.Common.{◌≡◌, ℕ, ◌+◌, ◌-◌, ◌^◌, ◌<◌, ◌≤◌, Bool, true, List, length, refl, sym, ap, ◌∙◌, subst, inl, inr, arith}
use Rattle.std.proofs.lemmas.Bool.Decides.{eqb_tells}
use Rattle.node_words.specs.jump_map.Image.{Cell}
use Rattle.node_words.specs.node_memory.Shelf.{Shelf, ground_of}
use Rattle.node_words.specs.declared.exec_state.ExecState.{ExecState}
use Rattle.node_words.specs.declared.strides.Going.{Going}
use Rattle.node_words.specs.GoingOn.{BodyGoesOn}
use Rattle.node_words.specs.Runs.{numbers_from}
use Rattle.node_words.specs.UndoLogs.{StaysUndoable}
use Rattle.node_words.proofs.UndoLogLemmas.{undoable_both, undoable_same}
use Rattle.node_words.proofs.WordLemmas.{body_starts, goes_by, goes_none}
use Rattle.word_visits.specs.declared.visit.Visit.{Visit}
use Rattle.word_visits.specs.Counting.{BodyIsCounted, PassesBy}
use Rattle.word_visits.specs.Entries.{begun_in, is_ordered, looks_in, visits_in}
use Rattle.word_visits.specs.Visits.{visited_all}
use Rattle.word_visits.proofs.PassLemmas.{passed_apart, passed_counted, passed_straight}
use Rattle.word_visits.proofs.VisitLemmas.{none_counted}

-- the words up to the next one are counted, once the stretch is that they end with, from a number on
pub record HasCounted (image : List Cell) (most from : ℕ) (b0 : ExecState) (old : List Visit) (going : Going) (first : ℕ)
    (b : ExecState) (es : List Visit) (behind : ℕ) : Type 0 where
  pub words : BodyGoesOn image most from b0 (most - going.left) going.at b
  pub visits : BodyIsCounted image most from b0 (most - going.left) (visits_in 0 0 old)
      (visited_all (numbers_from first (going.at - first)) (visits_in 0 0 es))
  pub looks : (k : ℕ) → looks_in es k ≡ looks_in old k
  pub ordered : is_ordered 0 0 behind es ≡ true
  pub begun : begun_in es + (going.at - first) ≤ begun_in old + (most - going.left)
  pub start : first ≤ going.at
  pub within : first < going.at → going.at ≤ length es
  pub count : length es ≡ length old
  pub left : going.left ≤ most
  pub low : going.at < 2 ^ 32
  pub ground : ground_of b.local ≡ ground_of b0.local
  pub counts : b.counts ≡ b0.counts
  pub undoable : StaysUndoable b0 b

-- none yet
pub counting_starts : (image : List Cell) (most from behind : ℕ) (b : ExecState) (es : List Visit) → from < 2 ^ 32
    → is_ordered 0 0 behind es ≡ true
    → HasCounted image most from b es (record { at = from; left = most }) from b es behind
counting_starts image most from behind b es low ordered =
    let vs = visits_in 0 0 es in
    let none : 0 ≡ most - most = omega arith in
    let here : 0 ≡ from - from = omega arith in
    record {
      words = subst (λ (n : ℕ). BodyGoesOn image most from b n from b) none (body_starts image most from b);
      visits = subst (λ (n : ℕ). BodyIsCounted image most from b n vs (visited_all (numbers_from from (from - from)) vs)) none
          (subst (λ (k : ℕ). BodyIsCounted image most from b 0 vs (visited_all (numbers_from from k) vs)) here
          (none_counted image most from b vs));
      looks = λ k. refl;
      ordered = ordered;
      begun = omega arith;
      start = omega arith;
      within = λ some. absurd (omega (arith, some));
      count = refl;
      left = omega arith;
      low = low;
      ground = refl;
      counts = refl;
      undoable = undoable_same b;
    }

-- further by words of a stride

pub goes_further : (image : List Cell) (most from last : ℕ) (b0 b b' : ExecState) (here to : Going) → here.left ≤ most
    → ground_of b.local ≡ ground_of b0.local → BodyGoesOn image most from b0 (most - here.left) here.at b
    → (looks : ℕ → Bool) → PassesBy image looks last here b to b'
    → BodyGoesOn image most from b0 (most - to.left) to.at b'
goes_further image most from last b0 b b' here to left ground on looks passes =
    let some = passes.some in
    goes_by image most from (most - here.left) here.at here.at to.at to.at (here.left - to.left) (most - to.left) b0 b b' refl
    refl (omega (arith, some, left)) (omega arith) passes.goes ground on

-- which stand one after another
pub counting_straight : (image : List Cell) (most from first behind last : ℕ) (b0 b b' : ExecState) (old es : List Visit)
    (here to : Going) → length image ≤ length es → to.at ≡ here.at + (here.left - to.left - last) + last
    → b'.counts ≡ b.counts → StaysUndoable b b' → PassesBy image (looks_in es) last here b to b'
    → HasCounted image most from b0 old here first b es behind → HasCounted image most from b0 old to first b' es behind
counting_straight image most from first behind last b0 b b' old es here to long straight counts undoable passes h =
    let some = passes.some in
    let left = h.left in
    let start = h.start in
    let begun = h.begun in
    let end = passes.first in
    record {
      words = goes_further image most from last b0 b b' here to left h.ground h.words (looks_in es) passes;
      visits = subst (BodyIsCounted image most from b0 (most - to.left) (visits_in 0 0 old))
          (passed_straight first last here to (visits_in 0 0 es) start some straight)
          (passed_counted image most from last here to b0 b b' es (numbers_from first (here.at - first)) (visits_in 0 0 old)
          left long h.ground h.words h.visits passes);
      looks = h.looks;
      ordered = h.ordered;
      begun = omega (arith, begun, straight, some, left, start);
      start = omega (arith, start, straight);
      within = λ _. elim (eqb_tells last 0) [
        | inl none ↦ (let zero = none.1 in omega (arith, end, straight, zero, long))
        | inr more ↦ (let one = more.1 in let there = passes.last (omega (arith, one)) in omega (arith, there, long))
      ];
      count = h.count;
      left = omega (arith, some, left);
      low = passes.low;
      ground = (passes.goes 0).ground_same ∙ h.ground;
      counts = counts ∙ h.counts;
      undoable = undoable_both b0 b b' h.undoable undoable;
    }

-- of which the last stand behind a jump, where the stretch up to that is counted
pub counting_apart : (image : List Cell) (most from first end behind behind' last : ℕ) (b0 b b' : ExecState)
    (old es es' : List Visit) (here to : Going) → length image ≤ length es → end ≡ here.at + (here.left - to.left - last)
    → b'.counts ≡ b.counts → StaysUndoable b b' → PassesBy image (looks_in es) last here b to b'
    → length es' ≡ length es
    → visits_in 0 0 es' ≡ visited_all (numbers_from first (end - first)) (visits_in 0 0 es)
    → ((k : ℕ) → looks_in es' k ≡ looks_in es k) → is_ordered 0 0 behind' es' ≡ true → begun_in es' ≤ begun_in es + 1
    → HasCounted image most from b0 old here first b es behind
    → HasCounted image most from b0 old to (to.at - last) b' es' behind'
counting_apart image most from first end behind behind' last b0 b b' old es es' here to long is counts undoable passes count visits looks ordered more h =
    let some = passes.some in
    let left = h.left in
    let start = h.start in
    let begun = h.begun in
    let least = passes.least in
    record {
      words = goes_further image most from last b0 b b' here to left h.ground h.words (looks_in es) passes;
      visits = subst (BodyIsCounted image most from b0 (most - to.left) (visits_in 0 0 old))
          (passed_apart first last end here to (visits_in 0 0 es) (visits_in 0 0 es') start least is visits)
          (passed_counted image most from last here to b0 b b' es (numbers_from first (here.at - first)) (visits_in 0 0 old)
          left long h.ground h.words h.visits passes);
      looks = λ k. looks k ∙ h.looks k;
      ordered = ordered;
      begun = omega (arith, begun, more, some, left, start, least);
      start = omega arith;
      within = λ some_behind.
          let there = passes.last (omega (arith, some_behind, least)) in
          omega (arith, there, long, count);
      count = count ∙ h.count;
      left = omega (arith, some, left);
      low = passes.low;
      ground = (passes.goes 0).ground_same ∙ h.ground;
      counts = counts ∙ h.counts;
      undoable = undoable_both b0 b b' h.undoable undoable;
    }

-- where nothing changed
pub counting_still : (image : List Cell) (most from first behind : ℕ) (b0 b b' : ExecState) (old es : List Visit) (here : Going)
    → b'.lane ≡ b.lane → b'.local ≡ b.local → b'.counts ≡ b.counts → StaysUndoable b b'
    → HasCounted image most from b0 old here first b es behind → HasCounted image most from b0 old here first b' es behind
counting_still image most from first behind b0 b b' old es here lane local counts undoable h = record {
  words = (goes_none image here.at (most - here.left) b b' lane local).goes most from b0 (omega arith) h.ground h.words;
  visits = h.visits;
  looks = h.looks;
  ordered = h.ordered;
  begun = h.begun;
  start = h.start;
  within = h.within;
  count = h.count;
  left = h.left;
  low = h.low;
  ground = ap (λ (s : Shelf). ground_of s) local ∙ h.ground;
  counts = counts ∙ h.counts;
  undoable = undoable_both b0 b b' h.undoable undoable;
}

-- by other names
pub same_counted : (image : List Cell) (most from : ℕ) (b0 : ExecState) (old : List Visit) (going going' : Going)
    (first first' : ℕ) (b b' : ExecState) (es es' : List Visit) (behind behind' : ℕ) → going' ≡ going → first' ≡ first
    → b' ≡ b → es' ≡ es → behind' ≡ behind → HasCounted image most from b0 old going first b es behind
    → HasCounted image most from b0 old going' first' b' es' behind'
same_counted image most from b0 old going going' first first' b b' es es' behind behind' to start body entries last h =
    subst (λ (x : Going). HasCounted image most from b0 old x first' b' es' behind') (sym to)
    (subst (λ (x : ℕ). HasCounted image most from b0 old going x b' es' behind') (sym start)
    (subst (λ (x : ExecState). HasCounted image most from b0 old going first x es' behind') (sym body)
    (subst (λ (x : List Visit). HasCounted image most from b0 old going first b x behind') (sym entries)
    (subst (λ (x : ℕ). HasCounted image most from b0 old going first b es x) (sym last) h))))

-- the last stretch

pub counting_ends : (image : List Cell) (most from first behind : ℕ) (b0 b : ExecState) (old es es' : List Visit) (going : Going)
    → visits_in 0 0 es' ≡ visited_all (numbers_from first (going.at - first)) (visits_in 0 0 es)
    → HasCounted image most from b0 old going first b es behind
    → BodyIsCounted image most from b0 (most - going.left) (visits_in 0 0 old) (visits_in 0 0 es')
counting_ends image most from first behind b0 b old es es' going visits h =
    subst (BodyIsCounted image most from b0 (most - going.left) (visits_in 0 0 old)) (sym visits) h.visits

pub last_begun : (image : List Cell) (most from first behind : ℕ) (b0 b : ExecState) (old es es' : List Visit) (going : Going)
    → begun_in es' ≤ begun_in es + 1 → (first ≡ going.at → es' ≡ es)
    → HasCounted image most from b0 old going first b es behind
    → begun_in es' ≤ begun_in old + (most - going.left)
last_begun image most from first behind b0 b old es es' going more none h =
    let begun = h.begun in
    let start = h.start in
    elim (eqb_tells first going.at) [
      | inl same ↦ (let still = ap begun_in (none same.1) in omega (arith, still, begun))
      | inr apart ↦ (let other = apart.1 in omega (arith, more, begun, start, other))
    ]
