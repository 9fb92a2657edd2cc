-- Entries of a table of visits, and the stretches that they count.
use Rattle.std.proofs.Common.{◌≡◌, ℕ, zero, suc, ◌+◌, ◌-◌, ◌<◌, ◌≤◌, Bool, true, Option, Some, None, List, [], ◌∷◌, ◌++◌, length, map, set, take, drop, inl, inr, refl, sym, ap, ◌∙◌, subst, arith}
use Rattle.std.specs.Prelude.{◌⊎◌, nat_le, slice_index_or}
use Rattle.std.proofs.Math.Seq.{take-append_seam}
use Rattle.std.proofs.lemmas.Bool.{and_from, and_parts}
use Rattle.std.proofs.lemmas.Bool.Decides.{eqb_tells, nat_tests}
use Rattle.std.proofs.lemmas.List.{get_or_append_left, get_or_default, get_or_push, length-set, length_push}
use Rattle.std.proofs.lemmas.Option.{slice_get-get_or, slice_get_within}
use Rattle.node_words.specs.jump_map.Strides.{HasStrides, IsStride}
use Rattle.node_words.specs.micro_op.declared.micro_op.MicroOp.{MicroOp}
use Rattle.node_words.specs.jump_map.declared.strides.StrideKind.{StrideKind}
use Rattle.node_words.specs.jump_map.declared.strides.StrideKind.TheVariants.{Slow}
use Rattle.node_words.specs.Trails.{trail_of}
use Rattle.node_words.specs.Runs.{numbers_from}
use Rattle.word_visits.specs.declared.visit.Visit.{Visit}
use Rattle.word_visits.specs.Visits.{WordVisits, visited, visited_all, visits_at}
use Rattle.word_visits.specs.Entries.{AreFree, ArePartedAt, AreShort, AreSlowedTo, IsFree, IsSlowedTo, begun_in, is_ordered, looks_in, once_begun, once_ended, visits_by, visits_in}

-- 1. A stretch more begins at an entry, or ends before one

abbrev pub begun_at : ℕ → List Visit → List Visit
begun_at k [] = []
begun_at zero (e ∷ es) = once_begun e ∷ es
begun_at (suc k) (e ∷ es) = e ∷ begun_at k es

abbrev pub ended_at : ℕ → List Visit → List Visit
ended_at k [] = []
ended_at zero (e ∷ es) = once_ended e ∷ es
ended_at (suc k) (e ∷ es) = e ∷ ended_at k es

pub set_begun : (es : List Visit) (k : ℕ) (d x : Visit) → k < length es → x ≡ once_begun (slice_index_or es k d)
    → set es k x ≡ begun_at k es
set_begun [] k d x below is = absurd (omega (arith, below))
set_begun (e ∷ es) zero d x below is = ap (λ (y : Visit). y ∷ es) is
set_begun (e ∷ es) (suc k) d x below is = ap (λ (ys : List Visit). e ∷ ys) (set_begun es k d x (omega (arith, below)) is)

pub set_ended : (es : List Visit) (k : ℕ) (d x : Visit) → k < length es → x ≡ once_ended (slice_index_or es k d)
    → set es k x ≡ ended_at k es
set_ended [] k d x below is = absurd (omega (arith, below))
set_ended (e ∷ es) zero d x below is = ap (λ (y : Visit). y ∷ es) is
set_ended (e ∷ es) (suc k) d x below is = ap (λ (ys : List Visit). e ∷ ys) (set_ended es k d x (omega (arith, below)) is)

pub ended_past : (es : List Visit) (k : ℕ) → length es ≤ k → ended_at k es ≡ es
ended_past [] k past = refl
ended_past (e ∷ es) zero past = absurd (omega (arith, past))
ended_past (e ∷ es) (suc k) past = ap (λ (ys : List Visit). e ∷ ys) (ended_past es k (omega (arith, past)))

begun_length : (es : List Visit) (k : ℕ) → length (begun_at k es) ≡ length es
begun_length [] k = refl
begun_length (e ∷ es) zero = refl
begun_length (e ∷ es) (suc k) = let rest = begun_length es k in omega (arith, rest)

-- both are set
pub set_both : (es : List Visit) (k t : ℕ) (d f x : Visit) → k < length es → t < length es
    → x ≡ once_begun (slice_index_or es k d)
    → set (set es k x) t (once_ended (slice_index_or (set es k x) t f)) ≡ ended_at t (begun_at k es)
set_both es k t d f x within inside is =
    let one = set_begun es k d x within is in
    let count = begun_length es k in
    ap (λ (ys : List Visit). set ys t (once_ended (slice_index_or ys t f))) one
    ∙ set_ended (begun_at k es) t f (once_ended (slice_index_or (begun_at k es) t f)) (omega (arith, inside, count)) refl

-- or the first alone, where the other is behind the last
pub set_first : (es : List Visit) (k t : ℕ) (d x : Visit) → k < length es → length es ≤ t
    → x ≡ once_begun (slice_index_or es k d) → set es k x ≡ ended_at t (begun_at k es)
set_first es k t d x within past is =
    let count = begun_length es k in
    set_begun es k d x within is ∙ sym (ended_past (begun_at k es) t (omega (arith, past, count)))

-- which words look stays

begun_looks : (es : List Visit) (k j : ℕ) → looks_in (begun_at k es) j ≡ looks_in es j
begun_looks [] k j = refl
begun_looks (e ∷ es) zero zero = refl
begun_looks (e ∷ es) zero (suc j) = refl
begun_looks (e ∷ es) (suc k) zero = refl
begun_looks (e ∷ es) (suc k) (suc j) = begun_looks es k j

ended_looks : (es : List Visit) (k j : ℕ) → looks_in (ended_at k es) j ≡ looks_in es j
ended_looks [] k j = refl
ended_looks (e ∷ es) zero zero = refl
ended_looks (e ∷ es) zero (suc j) = refl
ended_looks (e ∷ es) (suc k) zero = refl
ended_looks (e ∷ es) (suc k) (suc j) = ended_looks es k j

ended_length : (es : List Visit) (k : ℕ) → length (ended_at k es) ≡ length es
ended_length [] k = refl
ended_length (e ∷ es) zero = refl
ended_length (e ∷ es) (suc k) = let rest = ended_length es k in omega (arith, rest)

begun_sum : (es : List Visit) (k : ℕ) → begun_in (begun_at k es) ≤ begun_in es + 1
begun_sum [] k = omega arith
begun_sum (e ∷ es) zero = omega arith
begun_sum (e ∷ es) (suc k) = let rest = begun_sum es k in omega (arith, rest)

ended_sum : (es : List Visit) (k : ℕ) → begun_in (ended_at k es) ≡ begun_in es
ended_sum [] k = refl
ended_sum (e ∷ es) zero = refl
ended_sum (e ∷ es) (suc k) = let rest = ended_sum es k in omega (arith, rest)

-- no entry's count is above the sum of all
pub one_begun : (es : List Visit) (k : ℕ) (d : Visit) → k < length es → (slice_index_or es k d).begun ≤ begun_in es
one_begun [] k d below = absurd (omega (arith, below))
one_begun (e ∷ es) zero d below = omega arith
one_begun (e ∷ es) (suc k) d below = let rest = one_begun es k d (omega (arith, below)) in omega (arith, rest)

-- at no entry more stretches ended than began before it, as a fact

abbrev pub AreOrdered : (begun ended behind : ℕ) → List Visit → Type 0
AreOrdered b d behind [] = d + behind ≡ b
AreOrdered b d behind (e ∷ es) =
    (d + e.ended ≤ b + e.begun) × AreOrdered (b + e.begun) (d + e.ended) behind es

pub ordered_is : (b d h : ℕ) (es : List Visit) → is_ordered b d h es ≡ true → AreOrdered b d h es
ordered_is b d h [] is = grind (arith, nat_tests)
ordered_is b d h (e ∷ es) is =
    let parts = and_parts (nat_le (d + e.ended) (b + e.begun)) (is_ordered (b + e.begun) (d + e.ended) h es) is in
    let here = parts.0 in (
      grind (arith, nat_tests),
      ordered_is (b + e.begun) (d + e.ended) h es parts.1,
    )

pub is_of_ordered : (b d h : ℕ) (es : List Visit) → AreOrdered b d h es → is_ordered b d h es ≡ true
is_of_ordered b d h [] are = grind (arith, nat_tests)
is_of_ordered b d h (e ∷ es) are =
    let here = are.0 in
    let test : nat_le (d + e.ended) (b + e.begun) ≡ true = grind (arith, nat_tests) in
    and_from (nat_le (d + e.ended) (b + e.begun)) (is_ordered (b + e.begun) (d + e.ended) h es) test
    (is_of_ordered (b + e.begun) (d + e.ended) h es are.1)

pub one_ended : (es : List Visit) (b d h k : ℕ) (x : Visit) → AreOrdered b d h es → k < length es
    → (slice_index_or es k x).ended ≤ b + begun_in es
one_ended [] b d h k x ordered below = absurd (omega (arith, below))
one_ended (e ∷ es) b d h zero x ordered below = let here = ordered.0 in omega (arith, here)
one_ended (e ∷ es) b d h (suc k) x ordered below =
    let rest = one_ended es (b + e.begun) (d + e.ended) h k x ordered.1 (omega (arith, below)) in omega (arith, rest)

pub few_behind : (es : List Visit) (b d h : ℕ) → AreOrdered b d h es → d + h ≤ b + begun_in es
few_behind [] b d h ordered = omega (arith, ordered)
few_behind (e ∷ es) b d h ordered =
    let rest = few_behind es (b + e.begun) (d + e.ended) h ordered.1 in omega (arith, rest)

-- 2. No more stretches end than begin

ordered_both : (b d b' d' h : ℕ) (es : List Visit) → b' ≡ b + 1 → d' ≡ d + 1 → AreOrdered b d h es → AreOrdered b' d' h es
ordered_both b d b' d' h [] begun ended ordered = omega (arith, begun, ended, ordered)
ordered_both b d b' d' h (e ∷ es) begun ended ordered =
    let here = ordered.0 in (
      omega (arith, begun, ended, here),
      ordered_both (b + e.begun) (d + e.ended) (b' + e.begun) (d' + e.ended) h es (omega (arith, begun)) (omega (arith, ended))
          ordered.1,
    )

-- how many end behind the last, where one more ends before an entry
abbrev pub EndsBehind : (h h' k : ℕ) → List Visit → Type 0
EndsBehind h h' k es = (k < length es → h' ≡ h) × (length es ≤ k → h' ≡ h + 1)

later : (h h' k : ℕ) (e : Visit) (es : List Visit) → EndsBehind h h' (suc k) (e ∷ es) → EndsBehind h h' k es
later h h' k e es ends = (λ low. ends.0 (omega (arith, low)), λ high. ends.1 (omega (arith, high)))

ordered_ended : (b d b' h h' k : ℕ) (es : List Visit) → b' ≡ b + 1 → EndsBehind h h' k es → AreOrdered b d h es
    → AreOrdered b' d h' (ended_at k es)
ordered_ended b d b' h h' k [] begun ends ordered =
    let more = ends.1 (omega arith) in omega (arith, begun, ordered, more)
ordered_ended b d b' h h' zero (e ∷ es) begun ends ordered =
    let here = ordered.0 in
    let same = ends.0 (omega arith) in (
      omega (arith, begun, here),
      ordered_both (b + e.begun) (d + e.ended) (b' + e.begun) (d + (e.ended + 1)) h' es (omega (arith, begun)) (omega arith)
          (subst (λ (x : ℕ). AreOrdered (b + e.begun) (d + e.ended) x es) (sym same) ordered.1),
    )
ordered_ended b d b' h h' (suc k) (e ∷ es) begun ends ordered =
    let here = ordered.0 in (
      omega (arith, begun, here),
      ordered_ended (b + e.begun) (d + e.ended) (b' + e.begun) h h' k es (omega (arith, begun)) (later h h' k e es ends)
          ordered.1,
    )

ordered_stretch : (b d h h' k t : ℕ) (es : List Visit) → k < t → k < length es → EndsBehind h h' t es → AreOrdered b d h es
    → AreOrdered b d h' (ended_at t (begun_at k es))
ordered_stretch b d h h' k t [] some within ends ordered = absurd (omega (arith, within))
ordered_stretch b d h h' k zero (e ∷ es) some within ends ordered = absurd (omega (arith, some))
ordered_stretch b d h h' zero (suc t) (e ∷ es) some within ends ordered =
    let here = ordered.0 in (
      omega (arith, here),
      ordered_ended (b + e.begun) (d + e.ended) (b + (e.begun + 1)) h h' t es (omega arith) (later h h' t e es ends) ordered.1,
    )
ordered_stretch b d h h' (suc k) (suc t) (e ∷ es) some within ends ordered = (
  ordered.0,
  ordered_stretch (b + e.begun) (d + e.ended) h h' k t es (omega (arith, some)) (omega (arith, within)) (later h h' t e es ends)
      ordered.1,
)

-- 3. The words of a stretch were executed once more

abbrev more : WordVisits → WordVisits
more v = record v { times = v.times + 1 }

abbrev bumped : (k n : ℕ) → List WordVisits → List WordVisits
bumped zero zero vs = vs
bumped zero (suc n) [] = []
bumped zero (suc n) (v ∷ vs) = more v ∷ bumped zero n vs
bumped (suc k) n [] = []
bumped (suc k) n (v ∷ vs) = v ∷ bumped k n vs

bumped_none : (k : ℕ) (vs : List WordVisits) → bumped k 0 vs ≡ vs
bumped_none zero vs = refl
bumped_none (suc k) [] = refl
bumped_none (suc k) (v ∷ vs) = ap (λ (ws : List WordVisits). v ∷ ws) (bumped_none k vs)

bumped_one : (k j n : ℕ) (vs : List WordVisits) → j ≡ k + 1 → bumped j n (visited k vs) ≡ bumped k (suc n) vs
bumped_one k zero n vs is = absurd (omega (arith, is))
bumped_one zero (suc j) n [] is = refl
bumped_one zero (suc j) n (v ∷ vs) is =
    let none : j ≡ 0 = omega (arith, is) in
    ap (λ (i : ℕ). more v ∷ bumped i n vs) none
bumped_one (suc k) (suc j) n [] is = refl
bumped_one (suc k) (suc j) n (v ∷ vs) is = ap (λ (ws : List WordVisits). v ∷ ws) (bumped_one k j n vs (omega (arith, is)))

all_bumped : (k n : ℕ) (vs : List WordVisits) → visited_all (numbers_from k n) vs ≡ bumped k n vs
all_bumped k zero vs = sym (bumped_none k vs)
all_bumped k (suc n) vs = all_bumped (k + 1) n (visited k vs) ∙ bumped_one k (k + 1) n vs refl

visits_both : (b d b' d' : ℕ) (es : List Visit) → b' ≡ b + 1 → d' ≡ d + 1 → visits_in b' d' es ≡ visits_in b d es
visits_both b d b' d' [] begun ended = refl
visits_both b d b' d' (e ∷ es) begun ended =
    let times : b' + e.begun - (d' + e.ended) ≡ b + e.begun - (d + e.ended) = omega (arith, begun, ended) in
    let rest = visits_both (b + e.begun) (d + e.ended) (b' + e.begun) (d' + e.ended) es (omega (arith, begun)) (omega (arith, ended)) in
    λ t. record { times = times t; looks = e.looks } ∷ rest t

visits_ended : (b d b' h n : ℕ) (es : List Visit) → b' ≡ b + 1 → AreOrdered b d h es
    → visits_in b' d (ended_at n es) ≡ bumped 0 n (visits_in b d es)
visits_ended b d b' h zero [] begun ordered = refl
visits_ended b d b' h (suc n) [] begun ordered = refl
visits_ended b d b' h zero (e ∷ es) begun ordered =
    let times : b' + e.begun - (d + (e.ended + 1)) ≡ b + e.begun - (d + e.ended) = omega (arith, begun) in
    let rest = visits_both (b + e.begun) (d + e.ended) (b' + e.begun) (d + (e.ended + 1)) es (omega (arith, begun)) (omega arith) in
    λ t. record { times = times t; looks = e.looks } ∷ rest t
visits_ended b d b' h (suc n) (e ∷ es) begun ordered =
    let here = ordered.0 in
    let times : b' + e.begun - (d + e.ended) ≡ b + e.begun - (d + e.ended) + 1 = omega (arith, begun, here) in
    let rest = visits_ended (b + e.begun) (d + e.ended) (b' + e.begun) h n es (omega (arith, begun)) ordered.1 in
    λ t. record { times = times t; looks = e.looks } ∷ rest t

visits_stretch : (b d h k n t : ℕ) (es : List Visit) → k + n ≡ t → 0 < n → AreOrdered b d h es
    → visits_in b d (ended_at t (begun_at k es)) ≡ bumped k n (visits_in b d es)
visits_stretch b d h zero zero t es sum some ordered = absurd (omega (arith, some))
visits_stretch b d h zero (suc n) t [] sum some ordered = refl
visits_stretch b d h zero (suc n) zero (e ∷ es) sum some ordered = absurd (omega (arith, sum))
visits_stretch b d h zero (suc n) (suc t) (e ∷ es) sum some ordered =
    let here = ordered.0 in
    let same : t ≡ n = omega (arith, sum) in
    let times : b + (e.begun + 1) - (d + e.ended) ≡ b + e.begun - (d + e.ended) + 1 = omega (arith, here) in
    let rest = visits_ended (b + e.begun) (d + e.ended) (b + (e.begun + 1)) h n es (omega arith) ordered.1 in
    (λ i. record { times = times i; looks = e.looks }
    ∷ visits_in (b + (e.begun + 1)) (d + e.ended) (ended_at (same i) es))
    ∙ ap (λ (ws : List WordVisits). more (visits_by (b + e.begun) (d + e.ended) e) ∷ ws) rest
visits_stretch b d h (suc k) n t [] sum some ordered = refl
visits_stretch b d h (suc k) n zero (e ∷ es) sum some ordered = absurd (omega (arith, sum))
visits_stretch b d h (suc k) n (suc t) (e ∷ es) sum some ordered =
    ap (λ (ws : List WordVisits). visits_by (b + e.begun) (d + e.ended) e ∷ ws)
    (visits_stretch (b + e.begun) (d + e.ended) h k n t es (omega (arith, sum)) some ordered.1)

-- 4. All of it, of a stretch from one number to another

pub record IsStretched (first end h' : ℕ) (old new : List Visit) : Type 0 where
  pub count : length new ≡ length old
  pub visits : visits_in 0 0 new ≡ visited_all (numbers_from first (end - first)) (visits_in 0 0 old)
  pub looks : (j : ℕ) → looks_in new j ≡ looks_in old j
  pub ordered : is_ordered 0 0 h' new ≡ true
  pub begun : begun_in new ≤ begun_in old + 1

pub stretched : (first end h h' : ℕ) (es new : List Visit) → first < end → end ≤ length es → is_ordered 0 0 h es ≡ true
    → EndsBehind h h' end es → new ≡ ended_at end (begun_at first es) → IsStretched first end h' es new
stretched first end h h' es new some within ordered ends is =
    let are = ordered_is 0 0 h es ordered in
    let least = begun_sum es first in
    let most = ended_sum (begun_at first es) end in
    let one = begun_length es first in
    let two = ended_length (begun_at first es) end in
    let stretch : IsStretched first end h' es (ended_at end (begun_at first es)) = record {
      count = omega (arith, one, two);
      visits = visits_stretch 0 0 h first (end - first) end es (omega (arith, some)) (omega (arith, some)) are
          ∙ sym (all_bumped first (end - first) (visits_in 0 0 es));
      looks = λ j. ended_looks (begun_at first es) end j ∙ begun_looks es first j;
      ordered = is_of_ordered 0 0 h' (ended_at end (begun_at first es))
          (ordered_stretch 0 0 h h' first end es some (omega (arith, some, within)) ends are);
      begun = omega (arith, least, most);
    } in
    subst (IsStretched first end h' es) (sym is) stretch

-- of which the end is before an entry, or behind the last

pub stretch_within : (first end h : ℕ) (es : List Visit) (d f x y : Visit) → first < end → end < length es
    → is_ordered 0 0 h es ≡ true → x ≡ once_begun (slice_index_or es first d)
    → y ≡ once_ended (slice_index_or (set es first x) end f) → IsStretched first end h es (set (set es first x) end y)
stretch_within first end h es d f x y some below ordered is ends =
    stretched first end h h es (set (set es first x) end y) some (omega (arith, below)) ordered
    (λ _. refl, λ past. absurd (omega (arith, past, below)))
    (ap (λ (z : Visit). set (set es first x) end z) ends
    ∙ set_both es first end d f x (omega (arith, some, below)) below is)

pub stretch_last : (first end h : ℕ) (es : List Visit) (d x : Visit) → first < end → end ≤ length es → length es ≤ end
    → is_ordered 0 0 h es ≡ true → x ≡ once_begun (slice_index_or es first d)
    → IsStretched first end (h + 1) es (set es first x)
stretch_last first end h es d x some within past ordered is =
    stretched first end h (h + 1) es (set es first x) some within ordered
    (λ low. absurd (omega (arith, past, low)), λ _. refl)
    (set_first es first end d x (omega (arith, some, within)) past is)

-- what entries say of a word that looks
pub looks_said : (b d : ℕ) (es : List Visit) (k : ℕ) → (visits_at (visits_in b d es) k).looks ≡ looks_in es k
looks_said b d [] k = refl
looks_said b d (e ∷ es) zero = refl
looks_said b d (e ∷ es) (suc k) = looks_said (b + e.begun) (d + e.ended) es k

pub looks_entry : (es : List Visit) (k : ℕ) (d : Visit) → k < length es
    → looks_in es k ≡ (slice_index_or es k d).looks
looks_entry [] k d below = absurd (omega (arith, below))
looks_entry (e ∷ es) zero d below = refl
looks_entry (e ∷ es) (suc k) d below = looks_entry es k d (omega (arith, below))

pub length_visits : (b d : ℕ) (es : List Visit) → length (visits_in b d es) ≡ length es
length_visits b d [] = refl
length_visits b d (e ∷ es) = let rest = length_visits (b + e.begun) (d + e.ended) es in omega (arith, rest)

-- 5. Strides that are slow instead

-- a slow one goes over no word
slow_free : (looks : ℕ → Bool) (k : ℕ) → IsFree looks k Slow
slow_free looks k = record { short = omega arith; free = λ x low high. absurd (omega (arith, low, high)) }

-- the same strides are free where the same words look
pub same_free : (looks also : ℕ → Bool) (ks : List StrideKind) → ((x : ℕ) → also x ≡ looks x) → AreFree looks ks
    → AreFree also ks
same_free looks also ks same free = λ k d below.
    let old = free k d below in
    record { short = old.short; free = λ x low high is. old.free x low high (sym (same x) ∙ is) }

pub free_short : (looks : ℕ → Bool) (ks : List StrideKind) → AreFree looks ks → AreShort ks
free_short looks ks free = λ k d below. (free k d below).short

pub slowed_none : (ks : List StrideKind) → AreSlowedTo ks ks
slowed_none ks = record { count = refl; each = λ k d below. inr refl }

abbrev kind_or : Option StrideKind → StrideKind
kind_or None = Slow
kind_or (Some kind) = kind

-- they are strides still
pub slowed_strides : (micros : List MicroOp) (old new : List StrideKind) → AreSlowedTo old new → HasStrides micros old
    → HasStrides micros new
slowed_strides micros old new slowed has = record {
  each = λ k is there.
      let below = slice_get_within new k is there in
      let count = slowed.count in
      let same : slice_index_or new k Slow ≡ is = ap kind_or (sym (slice_get-get_or new k Slow below) ∙ there) in
      let s = has.each k (slice_index_or old k Slow) (slice_get-get_or old k Slow (omega (arith, below, count))) in
      elim (slowed.each k Slow below) [
        | inl slow ↦ subst (IsStride micros k) (sym slow ∙ same)
            (record { micro = s.micro; there = s.there; plain = tt; whole = tt; inside = tt })
        | inr kept ↦ subst (IsStride micros k) (sym kept ∙ same) s
      ];
  count = slowed.count ∙ has.count;
}

-- so many strides were shortened
pub record AreShortened (number : ℕ) (old new : List StrideKind) : Type 0 where
  pub count : length new ≡ number
  pub each : (k : ℕ) (d : StrideKind) → k < length new → IsSlowedTo (slice_index_or old k d) (slice_index_or new k d)
  pub short : AreShort new

pub next_shortened : (number : ℕ) (old new : List StrideKind) (kind x : StrideKind) → number < length old
    → IsSlowedTo (slice_index_or old number x) kind → ((at : ℕ) → (trail_of kind at).reach ≤ 22)
    → AreShortened number old new → AreShortened (number + 1) old (new ++ kind ∷ [])
next_shortened number old new kind x inside slowed short are =
    let sum : length (new ++ kind ∷ []) ≡ length new + 1 = length_push new kind in
    let count = are.count in
    let last = λ (d : StrideKind). get_or_push new kind d number count in
    let before = λ (k : ℕ) (d : StrideKind) (within : k < length new). get_or_append_left new (kind ∷ []) d k within in
    record {
      count = omega (arith, sum, count);
      each = λ k d below. elim (eqb_tells k number) [
        | inl same ↦ subst (λ (i : ℕ). IsSlowedTo (slice_index_or old i d) (slice_index_or (new ++ kind ∷ []) i d)) (sym same.1)
            (subst (IsSlowedTo (slice_index_or old number d)) (sym (last d))
            (subst (λ (q : StrideKind). IsSlowedTo q kind) (get_or_default old number x d inside) slowed))
        | inr apart ↦
            let other = apart.1 in
            let within : k < length new = omega (arith, below, sum, other, count) in
            subst (IsSlowedTo (slice_index_or old k d)) (sym (before k d within)) (are.each k d within)
      ];
      short = λ k d below. elim (eqb_tells k number) [
        | inl same ↦ subst (λ (i : ℕ). (trail_of (slice_index_or (new ++ kind ∷ []) i d) i).reach ≤ 22) (sym same.1)
            (subst (λ (q : StrideKind). (trail_of q number).reach ≤ 22) (sym (last d)) (short number))
        | inr apart ↦
            let other = apart.1 in
            let within : k < length new = omega (arith, below, sum, other, count) in
            subst (λ (q : StrideKind). (trail_of q k).reach ≤ 22) (sym (before k d within)) (are.short k d within)
      ];
    }

-- one of them is made slow

set_slow : (ks : List StrideKind) (k j : ℕ) (d : StrideKind)
    → (slice_index_or (set ks k Slow) j d ≡ Slow) ⊎ (slice_index_or (set ks k Slow) j d ≡ slice_index_or ks j d)
set_slow [] k j d = inr refl
set_slow (x ∷ ks) zero zero d = inl refl
set_slow (x ∷ ks) zero (suc j) d = inr refl
set_slow (x ∷ ks) (suc k) zero d = inr refl
set_slow (x ∷ ks) (suc k) (suc j) d = set_slow ks k j d

set_here : (ks : List StrideKind) (k : ℕ) (d : StrideKind) → k < length ks → slice_index_or (set ks k Slow) k d ≡ Slow
set_here [] k d below = absurd (omega (arith, below))
set_here (x ∷ ks) zero d below = refl
set_here (x ∷ ks) (suc k) d below = set_here ks k d (omega (arith, below))

-- of the strides up to one, none goes over the word of a number
pub record ArePartedBelow (number at : ℕ) (old ks : List StrideKind) : Type 0 where
  pub slowed : AreSlowedTo old ks
  pub parted : (k : ℕ) (d : StrideKind) → number - 22 ≤ k → k < at → k ≤ number
      → number < k + (trail_of (slice_index_or ks k d) k).reach
      → (trail_of (slice_index_or ks k d) k).told ≡ Some number

pub none_parted : (number at : ℕ) (ks : List StrideKind) → at ≤ number - 22 → ArePartedBelow number at ks ks
none_parted number at ks from = record {
  slowed = slowed_none ks;
  parted = λ k d low high up over. absurd (omega (arith, from, low, high));
}

-- the next one doesn't go over it
pub parted_clear : (number at : ℕ) (old ks : List StrideKind) (x : StrideKind) → at < length ks → at ≤ number
    → ((j : ℕ) → number - at < (trail_of (slice_index_or ks at x) j).reach
    → (trail_of (slice_index_or ks at x) j).told ≡ Some (j + (number - at)))
    → ArePartedBelow number at old ks → ArePartedBelow number (at + 1) old ks
parted_clear number at old ks x below up clear are = record {
  slowed = are.slowed;
  parted = λ k d low high here over. elim (eqb_tells k at) [
    | inl same ↦
        let is = same.1 in
        let there : k + (number - at) ≡ number = omega (arith, is, up) in
        let kind : slice_index_or ks at x ≡ slice_index_or ks k d =
        get_or_default ks at x d below ∙ ap (λ (i : ℕ). slice_index_or ks i d) (sym is) in
        let far = subst (λ (q : StrideKind). number - at < (trail_of q k).reach) (sym kind) (omega (arith, over, is, up)) in
        subst (λ (q : StrideKind). (trail_of q k).told ≡ Some number) kind (clear k far ∙ ap (λ (n : ℕ). Some n) there)
    | inr apart ↦ (let other = apart.1 in are.parted k d low (omega (arith, high, other)) here over)
  ];
}

-- or no longer does
pub parted_slow : (number at : ℕ) (old ks : List StrideKind) → at < length ks → ArePartedBelow number at old ks
    → ArePartedBelow number (at + 1) old (set ks at Slow)
parted_slow number at old ks below are =
    let new = set ks at Slow in
    let count = length-set ks at Slow in
    record {
      slowed = record {
        count = count ∙ are.slowed.count;
        each = λ k d within. elim (set_slow ks at k d) [
          | inl slow ↦ inl slow
          | inr kept ↦ elim (are.slowed.each k d (omega (arith, within, count))) [
            | inl slow ↦ inl (kept ∙ slow)
            | inr old_kept ↦ inr (kept ∙ old_kept)
          ]
        ];
      };
      parted = λ k d low high up over. elim (eqb_tells k at) [
        | inl same ↦
            let is = same.1 in
            let slow = subst (λ (i : ℕ). slice_index_or new i d ≡ Slow) (sym is) (set_here ks at d below) in
            let none : (trail_of (slice_index_or new k d) k).reach ≡ 0 = ap (λ (q : StrideKind). (trail_of q k).reach) slow in
            absurd (omega (arith, over, none, up))
        | inr apart ↦
            let other = apart.1 in
            elim (set_slow ks at k d) [
              | inl slow ↦
                  let none : (trail_of (slice_index_or new k d) k).reach ≡ 0 = ap (λ (q : StrideKind). (trail_of q k).reach) slow in
                  absurd (omega (arith, over, none, up))
              | inr kind ↦
                  let far = subst (λ (q : StrideKind). number < k + (trail_of q k).reach) kind over in
                  subst (λ (q : StrideKind). (trail_of q k).told ≡ Some number) (sym kind)
                  (are.parted k d low (omega (arith, high, other)) up far)
            ]
      ];
    }

-- all of them
pub all_parted : (number at : ℕ) (old ks : List StrideKind) → AreShort old
    → ((k : ℕ) → k < length ks → k ≤ number → k < at) → ArePartedBelow number at old ks → ArePartedAt number ks
all_parted number at old ks short past are = λ k d below up over.
    let count = are.slowed.count in
    let high = past k below up in
    elim (are.slowed.each k d below) [
      | inl slow ↦
          let none : (trail_of (slice_index_or ks k d) k).reach ≡ 0 = ap (λ (q : StrideKind). (trail_of q k).reach) slow in
          absurd (omega (arith, over, none, up))
      | inr kept ↦
          let few = short k d (omega (arith, below, count)) in
          let far = subst (λ (q : StrideKind). number < k + (trail_of q k).reach) kept over in
          are.parted k d (omega (arith, far, few)) high up over
    ]

-- 6. One more entry

pub visits_push : (b d h : ℕ) (es : List Visit) (e : Visit) (v : WordVisits) → AreOrdered b d h es → e.begun ≡ 0
    → e.ended ≡ h → v ≡ record { times = 0; looks = e.looks }
    → visits_in b d (es ++ e ∷ []) ≡ visits_in b d es ++ v ∷ []
visits_push b d h [] e v ordered begun ended is =
    let times : b + e.begun - (d + e.ended) ≡ 0 = omega (arith, ordered, begun, ended) in
    (λ t. record { times = times t; looks = e.looks } ∷ []) ∙ ap (λ (w : WordVisits). w ∷ []) (sym is)
visits_push b d h (x ∷ es) e v ordered begun ended is =
    ap (λ (vs : List WordVisits). visits_by (b + x.begun) (d + x.ended) x ∷ vs)
    (visits_push (b + x.begun) (d + x.ended) h es e v ordered.1 begun ended is)

pub ordered_push : (b d h : ℕ) (es : List Visit) (e : Visit) → AreOrdered b d h es → e.begun ≡ 0 → e.ended ≡ h
    → AreOrdered b d 0 (es ++ e ∷ [])
ordered_push b d h [] e ordered begun ended =
    (omega (arith, ordered, begun, ended), omega (arith, ordered, begun, ended))
ordered_push b d h (x ∷ es) e ordered begun ended =
    (ordered.0, ordered_push (b + x.begun) (d + x.ended) h es e ordered.1 begun ended)

pub begun_push : (es : List Visit) (e : Visit) → e.begun ≡ 0 → begun_in (es ++ e ∷ []) ≡ begun_in es
begun_push [] e begun = omega (arith, begun)
begun_push (x ∷ es) e begun = let rest = begun_push es e begun in omega (arith, rest)

looks_push : (es : List Visit) (e : Visit) (x : ℕ) → looks_in (es ++ e ∷ []) x ≡ true
    → (looks_in es x ≡ true) ⊎ ((x ≡ length es) × (e.looks ≡ true))
looks_push [] e zero is = inr (refl, is)
looks_push [] e (suc x) is = absurd (cc)
looks_push (y ∷ es) e zero is = inl is
looks_push (y ∷ es) e (suc x) is = elim (looks_push es e x is) [
  | inl old ↦ inl old
  | inr new ↦ (let end = new.0 in inr (omega (arith, end), new.1))
]

-- and strides go over no word that looks, where none goes over its own if that does
pub free_push : (es : List Visit) (e : Visit) (old new : List StrideKind) → AreFree (looks_in es) old → AreSlowedTo old new
    → (e.looks ≡ true → ArePartedAt (length es) new) → AreFree (looks_in (es ++ e ∷ [])) new
free_push es e old new free slowed parted = λ k d below.
    let count = slowed.count in
    let looks = looks_in (es ++ e ∷ []) in
    elim (slowed.each k d below) [
      | inl slow ↦ subst (IsFree looks k) (sym slow) (slow_free looks k)
      | inr kept ↦
          let one = free k d (omega (arith, below, count)) in
          let kind = slice_index_or new k d in
          let before = subst (IsFree (looks_in es) k) (sym kept) one in record {
            short = before.short;
            free = λ x low high is. elim (looks_push es e x is) [
              | inl old_looks ↦ before.free x low high old_looks
              | inr new_looks ↦
                  let end = new_looks.0 in
                  parted new_looks.1 k d below (omega (arith, end, low)) (omega (arith, end, high)) ∙ ap (λ (n : ℕ). Some n) (sym end)
            ];
          }
    ]

-- a list after it was lent
pub put_back : {X : Type 0} (new rest : List X) (n : ℕ) → length new ≡ n → take n (new ++ rest) ≡ new
put_back new rest n count = ap (λ (k : ℕ). take k (new ++ rest)) (sym count) ∙ take-append_seam new rest

-- 7. The sums of stretches, entry by entry

abbrev pub times_in : (b d : ℕ) → List Visit → List ℕ
times_in b d es = map (λ (v : WordVisits). v.times) (visits_in b d es)

-- so many entries are summed, and the others are left
pub record AreSummed (behind number b d : ℕ) (es : List Visit) (ts : List ℕ) : Type 0 where
  pub times : ts ++ times_in b d (drop number es) ≡ times_in 0 0 es
  pub ordered : AreOrdered b d behind (drop number es)
  pub begun : b + begun_in (drop number es) ≡ begun_in es

pub none_summed : (behind : ℕ) (es : List Visit) → AreOrdered 0 0 behind es → AreSummed behind 0 0 0 es []
none_summed behind es ordered = record { times = refl; ordered = ordered; begun = omega arith }
