-- A body whose words are tallied, from stride to stride.
use Rattle.std.proofs.Common.{◌≡◌, ℕ, ◌+◌, ◌-◌, ◌^◌, ◌<◌, ◌≤◌, Bool, true, List, ◌++◌, length, refl, sym, ap, ◌∙◌, subst, inl, inr, arith}
use Rattle.std.proofs.lemmas.Bool.Decides.{eqb_tells}
use Rattle.node_words.specs.jump_map.Image.{Cell, most_words}
use Rattle.node_words.specs.node_memory.Shelf.{ground_of}
use Rattle.node_words.specs.declared.exec_state.ExecState.{ExecState}
use Rattle.node_words.specs.declared.strides.Going.{Going}
use Rattle.node_words.specs.Address.{word_address}
use Rattle.node_words.specs.GoingOn.{BodyGoesOn}
use Rattle.node_words.specs.Kept.{Follows}
use Rattle.node_words.specs.Runs.{numbers_from, reads_other}
use Rattle.node_words.specs.Strides.{Stays}
use Rattle.node_words.specs.UndoLogs.{StaysUndoable}
use Rattle.node_words.proofs.UndoLogLemmas.{undoable_both}
use Rattle.node_words.proofs.WordLemmas.{goes_none}
use Rattle.word_visits.specs.declared.visit.Visit.{Visit}
use Rattle.word_visits.specs.Counting.{PassesBy, numbers_passed}
use Rattle.word_visits.specs.Entries.{looks_in, visits_in}
use Rattle.word_visits.specs.Tallies.{WordTally, steps_among}
use Rattle.word_visits.specs.TallyBodies.{BodyHasSteps}
use Rattle.word_visits.specs.Sums.{tallies_in}
use Rattle.word_visits.proofs.CountingLemmas.{goes_further}
use Rattle.word_visits.proofs.PassLemmas.{numbers_join, outcome_of, word_passes}
use Rattle.word_visits.proofs.TableLemmas.{length_visits, looks_said}
use Rattle.word_visits.proofs.TallyLemmas.{body_steps, length_tallies, looks_tallied, steps_append}
use Rattle.word_visits.proofs.VisitLemmas.{length_append, length_numbers}

-- what entries and sums say
abbrev pub tallies_by : List Visit → List ℕ → List WordTally
tallies_by es ss = tallies_in (visits_in 0 0 es) ss

-- how many words of a stretch from a number on count
abbrev pub steps_from : List Visit → List ℕ → (first end : ℕ) → ℕ
steps_from es ss first end = steps_among (tallies_by es ss) (numbers_from first (end - first))

-- the words up to the next one are tallied, and so many of them count that stand before a stretch,
-- which they end with, from a number on
pub record HasStepped (image : List Cell) (most from : ℕ) (b0 : ExecState) (es : List Visit) (ss : List ℕ) (going : Going)
    (first steps : ℕ) (b : ExecState) : Type 0 where
  pub words : BodyGoesOn image most from b0 (most - going.left) going.at b
  pub counted : BodyHasSteps image most from b0 (most - going.left) (tallies_by es ss)
      (steps + steps_from es ss first going.at)
  pub few : steps + (going.at - first) ≤ most - going.left
  pub start : first ≤ going.at
  pub within : first < going.at → going.at ≤ length es
  pub left : going.left ≤ most
  pub low : going.at < 2 ^ 32
  pub ground : ground_of b.local ≡ ground_of b0.local
  pub counts : b.counts ≡ b0.counts
  pub undoable : StaysUndoable b0 b

-- how many words count with those of a stride
passed_steps : (image : List Cell) (most from behind s u : ℕ) (here to : Going) (first b b' : ExecState)
    (es : List Visit) (ss : List ℕ) → here.left ≤ most → length image ≤ length es → length ss ≡ length es + 1
    → u ≡ s + steps_among (tallies_by es ss) (numbers_passed behind here to) → ground_of b.local ≡ ground_of first.local
    → BodyGoesOn image most from first (most - here.left) here.at b
    → BodyHasSteps image most from first (most - here.left) (tallies_by es ss) s
    → PassesBy image (looks_in es) behind here b to b'
    → BodyHasSteps image most from first (most - to.left) (tallies_by es ss) u
passed_steps image most from behind s u here to first b b' es ss left long count sum ground on are passes =
    let some = passes.some in
    let vs = visits_in 0 0 es in
    let entries = length_visits 0 0 es in
    let sums : length ss ≡ length vs + 1 = omega (arith, count, entries) in
    let all = length_tallies vs ss sums in
    let p = here.left - to.left - behind in
    let one = length_numbers here.at p in
    let two = length_numbers (to.at - behind) behind in
    let both = length_append (numbers_from here.at p) (numbers_from (to.at - behind) behind) in
    body_steps image most from (most - here.left) here.at (here.left - to.left) (most - to.left) s u
    (numbers_passed behind here to) first b (tallies_by es ss) (looks_in es) (omega (arith, left, some)) (omega arith)
    (omega (arith, one, two, both, some)) sum (λ j. looks_tallied vs ss j sums ∙ looks_said 0 0 es j)
    (omega (arith, long, all, entries)) ground on are passes.words

-- which stand one after another

straight_steps : (ts : List WordTally) (first behind : ℕ) (here to : Going) → first ≤ here.at → to.left + behind < here.left
    → to.at ≡ here.at + (here.left - to.left - behind) + behind
    → steps_among ts (numbers_from first (to.at - first))
    ≡ steps_among ts (numbers_from first (here.at - first)) + steps_among ts (numbers_passed behind here to)
straight_steps ts first behind here to low some straight =
    let p = here.left - to.left - behind in
    let inner : numbers_passed behind here to ≡ numbers_from here.at (to.at - here.at) =
    numbers_join here.at (to.at - behind) to.at p behind (omega (arith, straight)) (omega arith) (omega (arith, straight))
    (omega (arith, straight)) in
    let join = numbers_join first here.at to.at (here.at - first) (to.at - here.at) low (omega (arith, straight)) refl refl in
    ap (steps_among ts) (sym join ∙ ap (λ (ks : List ℕ). numbers_from first (here.at - first) ++ ks) (sym inner))
    ∙ steps_append ts (numbers_from first (here.at - first)) (numbers_passed behind here to)

pub stepping_straight : (image : List Cell) (most from first steps last : ℕ) (b0 b b' : ExecState) (es : List Visit) (ss : List ℕ)
    (here to : Going) → length image ≤ length es → length ss ≡ length es + 1
    → to.at ≡ here.at + (here.left - to.left - last) + last → b'.counts ≡ b.counts → StaysUndoable b b'
    → PassesBy image (looks_in es) last here b to b' → HasStepped image most from b0 es ss here first steps b
    → HasStepped image most from b0 es ss to first steps b'
stepping_straight image most from first steps last b0 b b' es ss here to long count straight counts undoable passes h =
    let some = passes.some in
    let left = h.left in
    let start = h.start in
    let few = h.few in
    let end = passes.first in
    let sum = straight_steps (tallies_by es ss) first last here to start some straight in
    record {
      words = goes_further image most from last b0 b b' here to left h.ground h.words (looks_in es) passes;
      counted = passed_steps image most from last (steps + steps_from es ss first here.at) (steps + steps_from es ss first to.at)
          here to b0 b b' es ss left long count (omega (arith, sum)) h.ground h.words h.counted passes;
      few = omega (arith, few, straight, some, left, start);
      start = omega (arith, start, straight);
      within = λ _. elim (eqb_tells last 0) [
        | inl none ↦ (let zero = none.1 in omega (arith, end, straight, zero, long))
        | inr more ↦ (let one = more.1 in let there = passes.last (omega (arith, one)) in omega (arith, there, long))
      ];
      left = omega (arith, some, left);
      low = passes.low;
      ground = (passes.goes 0).ground_same ∙ h.ground;
      counts = counts ∙ h.counts;
      undoable = undoable_both b0 b b' h.undoable undoable;
    }

-- of which the last stand behind a jump, where the stretch up to that is added

apart_steps : (ts : List WordTally) (first behind end : ℕ) (here to : Going) → first ≤ here.at → behind ≤ to.at
    → end ≡ here.at + (here.left - to.left - behind)
    → steps_among ts (numbers_from first (end - first))
    + steps_among ts (numbers_from (to.at - behind) (to.at - (to.at - behind)))
    ≡ steps_among ts (numbers_from first (here.at - first)) + steps_among ts (numbers_passed behind here to)
apart_steps ts first behind end here to low least is =
    let p = here.left - to.left - behind in
    let before = numbers_from first (here.at - first) in
    let middle = numbers_from here.at p in
    let last = numbers_from (to.at - behind) behind in
    let count : to.at - (to.at - behind) ≡ behind = omega (arith, least) in
    let same = ap (λ (k : ℕ). steps_among ts (numbers_from (to.at - behind) k)) count in
    let join = ap (steps_among ts) (numbers_join first here.at end (here.at - first) p low (omega (arith, is)) refl (omega (arith, is))) in
    let one = steps_append ts before middle in
    let two = steps_append ts middle last in
    omega (arith, same, join, one, two)

pub stepping_apart : (image : List Cell) (most from first end steps more_steps r last : ℕ) (b0 b b' : ExecState)
    (es : List Visit) (ss : List ℕ) (here to : Going) → length image ≤ length es → length ss ≡ length es + 1
    → end ≡ here.at + (here.left - to.left - last) → b'.counts ≡ b.counts → StaysUndoable b b'
    → PassesBy image (looks_in es) last here b to b' → r ≡ steps_from es ss first end → r ≤ end - first → more_steps ≡ steps + r
    → HasStepped image most from b0 es ss here first steps b
    → HasStepped image most from b0 es ss to (to.at - last) more_steps b'
stepping_apart image most from first end steps more_steps r last b0 b b' es ss here to long count is counts undoable passes sum most_steps more h =
    let some = passes.some in
    let left = h.left in
    let start = h.start in
    let few = h.few in
    let least = passes.least in
    let all = apart_steps (tallies_by es ss) first last end here to start least is in
    record {
      words = goes_further image most from last b0 b b' here to left h.ground h.words (looks_in es) passes;
      counted = passed_steps image most from last (steps + steps_from es ss first here.at)
          (more_steps + steps_from es ss (to.at - last) to.at) here to b0 b b' es ss left long count
          (omega (arith, all, sum, more)) h.ground h.words h.counted passes;
      few = omega (arith, few, is, more, most_steps, some, left, start, least);
      start = omega arith;
      within = λ some_behind.
          let there = passes.last (omega (arith, some_behind, least)) in
          omega (arith, there, long);
      left = omega (arith, some, left);
      low = passes.low;
      ground = (passes.goes 0).ground_same ∙ h.ground;
      counts = counts ∙ h.counts;
      undoable = undoable_both b0 b b' h.undoable undoable;
    }

-- the last stretch
pub stepping_ends : (image : List Cell) (most from first steps u r : ℕ) (b0 b : ExecState) (es : List Visit) (ss : List ℕ)
    (going : Going) → r ≡ steps_from es ss first going.at → u ≡ steps + r
    → HasStepped image most from b0 es ss going first steps b
    → BodyHasSteps image most from b0 (most - going.left) (tallies_by es ss) u
stepping_ends image most from first steps u r b0 b es ss going sum more h =
    let all : steps + steps_from es ss first going.at ≡ u = omega (arith, sum, more) in
    subst (BodyHasSteps image most from b0 (most - going.left) (tallies_by es ss)) all h.counted

-- so it is with the line of the stretch: the number of the next word and how many more there may be
pub record HasStretch (image : List Cell) (most from : ℕ) (b0 : ExecState) (es : List Visit) (ss : List ℕ) (going : Going)
    (first line steps : ℕ) (b : ExecState) : Type 0 where
  pub stepped : HasStepped image most from b0 es ss going first steps b
  pub far : line ≡ going.at + going.left

pub stretch_same : (image : List Cell) (most from first first' line line' steps steps' : ℕ) (b0 b b' : ExecState)
    (es : List Visit) (ss : List ℕ) (here to : Going) → b' ≡ b → to ≡ here → first' ≡ first → line' ≡ line → steps' ≡ steps
    → HasStretch image most from b0 es ss here first line steps b → HasStretch image most from b0 es ss to first' line' steps' b'
stretch_same image most from first first' line line' steps steps' b0 b b' es ss here to body place start far count h =
    subst (λ (x : ExecState). HasStretch image most from b0 es ss to first' line' steps' x) (sym body)
    (subst (λ (x : Going). HasStretch image most from b0 es ss x first' line' steps' b) (sym place)
    (subst (λ (x : ℕ). HasStretch image most from b0 es ss here x line' steps' b) (sym start)
    (subst (λ (x : ℕ). HasStretch image most from b0 es ss here first x steps' b) (sym far)
    (subst (λ (x : ℕ). HasStretch image most from b0 es ss here first line x b) (sym count) h))))

-- where nothing changed
pub stretch_still : (image : List Cell) (most from first line steps : ℕ) (b0 b m : ExecState) (es : List Visit) (ss : List ℕ)
    (here mid : Going) → Stays here b mid m → m.counts ≡ b.counts → StaysUndoable b m
    → HasStretch image most from b0 es ss here first line steps b → HasStretch image most from b0 es ss mid first line steps m
stretch_still image most from first line steps b0 b m es ss here mid stays counts undoable h =
    let s = h.stepped in
    let still : HasStretch image most from b0 es ss here first line steps m = record {
      stepped = record {
        words = (goes_none image here.at (most - here.left) b m stays.lane stays.local).goes most from b0 (omega arith)
            s.ground s.words;
        counted = s.counted;
        few = s.few;
        start = s.start;
        within = s.within;
        left = s.left;
        low = s.low;
        ground = ap ground_of stays.local ∙ s.ground;
        counts = counts ∙ s.counts;
        undoable = undoable_both b0 b m s.undoable undoable;
      };
      far = h.far;
    } in
    subst (λ (x : Going). HasStretch image most from b0 es ss x first line steps m) (sym stays.place) still

-- where the words of a stride stand one after another
pub stretch_straight : (image : List Cell) (most from first line steps last : ℕ) (b0 b b' : ExecState) (es : List Visit)
    (ss : List ℕ) (here to : Going) → length image ≤ length es → length ss ≡ length es + 1 → to.at + to.left ≡ line
    → b'.counts ≡ b.counts → StaysUndoable b b' → PassesBy image (looks_in es) last here b to b'
    → HasStretch image most from b0 es ss here first line steps b → HasStretch image most from b0 es ss to first line steps b'
stretch_straight image most from first line steps last b0 b b' es ss here to long count far counts undoable passes h =
    let some = passes.some in
    let before = h.far in
    record {
      stepped = stepping_straight image most from first steps last b0 b b' es ss here to long count
          (omega (arith, some, before, far)) counts undoable passes h.stepped;
      far = sym far;
    }

-- where the last few stand behind a jump, or the next word does
pub stretch_apart : (image : List Cell) (most from first line steps r last end start : ℕ) (b0 b b' : ExecState)
    (es : List Visit) (ss : List ℕ) (here to : Going) → length image ≤ length es → length ss ≡ length es + 1
    → end ≡ line - to.left - last → start ≡ to.at - last → b'.counts ≡ b.counts → StaysUndoable b b'
    → PassesBy image (looks_in es) last here b to b' → r ≡ steps_from es ss first end → r ≤ end - first
    → HasStretch image most from b0 es ss here first line steps b
    → HasStretch image most from b0 es ss to start (to.at + to.left) (steps + r) b'
stretch_apart image most from first line steps r last end start b0 b b' es ss here to long count is begins counts undoable passes sum most_steps h =
    let some = passes.some in
    let before = h.far in
    record {
      stepped = subst (λ (x : ℕ). HasStepped image most from b0 es ss to x (steps + r) b') (sym begins)
          (stepping_apart image most from first end steps (steps + r) r last b0 b b' es ss here to long count
          (omega (arith, is, before, some)) counts undoable passes sum most_steps refl h.stepped);
      far = refl;
    }

-- a word by itself passes
pub word_stretches : (image : List Cell) (looks : ℕ → Bool) (next : ℕ) (here mid to : Going) (b m b' : ExecState)
    → length image ≤ most_words → here.at < length image → Stays here b mid m → to.left + 1 ≡ mid.left → to.at ≡ next
    → to.at < 2 ^ 32 → (looks here.at ≡ true → reads_other (outcome_of image m here.at) ≡ true)
    → Follows image (outcome_of image m here.at) (ground_of m.local) (word_address next) b'.lane b'.local
    → PassesBy image looks 0 mid m to b'
word_stretches image looks next here mid to b m b' few within stays one at low reads follows =
    let place : mid.at ≡ here.at = ap (λ (g : Going). g.at) stays.place in
    word_passes image looks mid to m b' few (omega (arith, place, within)) one low
    (subst (λ (k : ℕ). looks k ≡ true → reads_other (outcome_of image m k) ≡ true) (sym place) reads)
    (subst (λ (k : ℕ). Follows image (outcome_of image m mid.at) (ground_of m.local) (word_address k) b'.lane b'.local) (sym at)
    (subst (λ (k : ℕ). Follows image (outcome_of image m k) (ground_of m.local) (word_address next) b'.lane b'.local) (sym place)
    follows))

-- the last stretch
pub stretch_ends : (image : List Cell) (most from first line steps r : ℕ) (b0 b : ExecState) (es : List Visit) (ss : List ℕ)
    (going : Going) → r ≡ steps_from es ss first (line - going.left)
    → HasStretch image most from b0 es ss going first line steps b
    → BodyHasSteps image most from b0 (most - going.left) (tallies_by es ss) (steps + r)
stretch_ends image most from first line steps r b0 b es ss going sum h =
    let line_is = h.far in
    let end : line - going.left ≡ going.at = omega (arith, line_is) in
    stepping_ends image most from first steps (steps + r) r b0 b es ss going (sum ∙ ap (steps_from es ss first) end) refl h.stepped
