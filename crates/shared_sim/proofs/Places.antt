-- Where no message is on its way: the places at which the words of nodes stand.
use Rattle.std.proofs.Common.{◌≡◌, ◌≢◌, ℕ, zero, suc, ◌+◌, ◌-◌, ◌<◌, ◌≤◌, ◌==◌, Bool, true, false, cond, if◌then◌else◌, List, [], ◌∷◌, ◌++◌, map, length, get_or, set, Some, refl, sym, ap, ◌∙◌, subst, inl, inr, arith, length-append}
use Rattle.std.specs.Prelude.{slice_get, filter}
use Rattle.std.specs.List.{flat_map, range_with_len}
use Rattle.std.proofs.lemmas.List.{length-map, get_or-set_same, get_or-set_other}
use Rattle.std.proofs.lemmas.Bool.Decides.{eqb_tells}
use Rattle.random_order.specs.Orders.{following, choice, how_often}
use Rattle.dsm_core.specs.node_model.Node.{Work}
use Rattle.dsm_core.specs.node_model.Core.{Core, Event, Exec, Take, May}
use Rattle.dsm_core.specs.declared.cores.Event.{Event as Stored}
use Rattle.dsm_core.specs.CoreParts.{event_of}
use Rattle.shared_sim.specs.ByOrder.{events_at, is_allowed, choices}
use Rattle.shared_sim.specs.Mail.{HasNoMail}
use Rattle.shared_sim.specs.Listing.{allowed_at, IsCalm}
use Rattle.shared_sim.specs.Windows.{is_word_of, picks_of}
use Rattle.shared_sim.proofs.Choices.{no_takes, allowed_may}
use Rattle.shared_sim.proofs.Rows.{allowed_from, one_row}

-- 1. Events that aren't the word of node i

abbrev AllApart : ℕ → List Event → Type 0
AllApart i [] = Unit {0}
AllApart i (x ∷ xs) = (is_word_of i (Some x) ≡ false) × AllApart i xs

apart_append : (i : ℕ) (xs ys : List Event) → AllApart i xs → AllApart i ys → AllApart i (xs ++ ys)
apart_append i [] ys a b = b
apart_append i (x ∷ xs) ys a b = (a.0, apart_append i xs ys a.1 b)

apart_cond : (i : ℕ) (b : Bool) (x : Event) (xs : List Event) → is_word_of i (Some x) ≡ false
    → AllApart i xs → AllApart i (cond b (x ∷ xs) xs)
apart_cond i true x xs a rest = (a, rest)
apart_cond i false x xs a rest = rest

apart_filter : (i : ℕ) (p : Event → Bool) (xs : List Event) → AllApart i xs → AllApart i (filter p xs)
apart_filter i p [] a = tt
apart_filter i p (x ∷ xs) a = apart_cond i (p x) x (filter p xs) a.0 (apart_filter i p xs a.1)

takes_apart : (i k a m : ℕ) → AllApart i (map (λ j. Take k j) (range_with_len a m))
takes_apart i k a zero = tt
takes_apart i k a (suc m) = (refl, takes_apart i k (a + 1) m)

word_apart : (i k : ℕ) → k ≢ i → is_word_of i (Some (Exec k)) ≡ false
word_apart i k apart = elim (eqb_tells k i) [ inl e ↦ absurd (apart e.1) | inr e ↦ e.0 ]

above_apart : (n i a k : ℕ) → i < a → AllApart i (flat_map (events_at n) (range_with_len a k))
above_apart n i a zero low = tt
above_apart n i a (suc k) low =
    apart_append i (events_at n a) (flat_map (events_at n) (range_with_len (a + 1) k))
    (word_apart i a (λ e. absurd (omega (arith, e, low))), takes_apart i a 0 n)
    (above_apart n i (a + 1) k (omega (arith, low)))

below_apart : (n i a k : ℕ) → a + k ≤ i → AllApart i (flat_map (events_at n) (range_with_len a k))
below_apart n i a zero high = tt
below_apart n i a (suc k) high =
    apart_append i (events_at n a) (flat_map (events_at n) (range_with_len (a + 1) k))
    (word_apart i a (λ e. absurd (omega (arith, e, high))), takes_apart i a 0 n)
    (below_apart n i (a + 1) k (omega (arith, high)))

apart_get : (i : ℕ) (xs : List Event) (k : ℕ) → AllApart i xs → is_word_of i (slice_get xs k) ≡ false
apart_get i [] k a = refl
apart_get i (x ∷ xs) zero a = a.0
apart_get i (x ∷ xs) (suc k) a = apart_get i xs k a.1

-- 2. The place of a word

is_own_word : (i : ℕ) → is_word_of i (Some (Exec i)) ≡ true
is_own_word i = elim (eqb_tells i i) [ inl e ↦ e.0 | inr e ↦ absurd (e.1 refl) ]

at_place : (i : ℕ) (before behind : List Event) (k : ℕ) → k ≡ length before
    → is_word_of i (slice_get (before ++ Exec i ∷ behind) k) ≡ true
at_place i [] behind zero is = is_own_word i
at_place i [] behind (suc k) is = absurd (omega (arith, is))
at_place i (x ∷ xs) behind zero is = absurd (omega (arith, is))
at_place i (x ∷ xs) behind (suc k) is = at_place i xs behind k (omega (arith, is))

at_other : (i : ℕ) (before behind : List Event) (k : ℕ) → AllApart i before → AllApart i behind
    → k ≢ length before → is_word_of i (slice_get (before ++ Exec i ∷ behind) k) ≡ false
at_other i [] behind zero a b apart = absurd (apart refl)
at_other i [] behind (suc k) a b apart = apart_get i behind k b
at_other i (x ∷ xs) behind zero a b apart = a.0
at_other i (x ∷ xs) behind (suc k) a b apart = at_other i xs behind k a.1 b (λ e. apart (ap suc e))

one_place : (i : ℕ) (before behind : List Event) (k : ℕ) → AllApart i before → AllApart i behind
    → is_word_of i (slice_get (before ++ Exec i ∷ behind) k) ≡ (k == length before)
one_place i before behind k a b = elim (eqb_tells k (length before)) [
  | inl e ↦ at_place i before behind k e.1 ∙ sym e.0
  | inr e ↦ at_other i before behind k a b e.1 ∙ sym e.0
]

abbrev one_if : Bool → ℕ
one_if b = if b then 1 else 0

picks_at : (i place : ℕ) (es : List Event) (turns number : ℕ)
    → ((k : ℕ) → is_word_of i (slice_get es k) ≡ (k == place))
    → picks_of i es turns number ≡ how_often place (length es) turns number
picks_at i place es zero number is = refl
picks_at i place es (suc turns) number is =
    let rest = picks_at i place es turns (following number) is in
    let here = is (choice (length es) (following number)) in
    λ t. one_if (here t) + rest t

picks_none : (i : ℕ) (es : List Event) (turns number : ℕ)
    → ((k : ℕ) → is_word_of i (slice_get es k) ≡ false) → picks_of i es turns number ≡ 0
picks_none i es zero number is = refl
picks_none i es (suc turns) number is =
    let rest = picks_none i es turns (following number) is in
    let here = is (choice (length es) (following number)) in
    λ t. one_if (here t) + rest t

-- 3. The choices before and behind those of a node

split : (work : Work) (c : Core) (a k m t : ℕ) → t ≡ k + m
    → allowed_from work c a t ≡ allowed_from work c a k ++ allowed_from work c (a + k) m
split work c a zero m t is =
    let all : t ≡ m = omega (arith, is) in
    let start : a ≡ a + 0 = omega arith in
    ap (allowed_from work c a) all ∙ ap (λ z. allowed_from work c z m) start
split work c a (suc k) m zero is = absurd (omega (arith, is))
split work c a (suc k) m (suc t) is =
    let start : a + 1 + k ≡ a + suc k = omega arith in
    one_row work c a t
    ∙ ap (λ xs. allowed_at work c a ++ xs) (split work c (a + 1) k m t (omega (arith, is))
    ∙ ap (λ z. allowed_from work c (a + 1) k ++ allowed_from work c z m) start)
    ∙ sym (assoc (allowed_at work c a) (allowed_from work c (a + 1) k) (allowed_from work c (a + suc k) m))
    ∙ ap (λ xs. xs ++ allowed_from work c (a + suc k) m) (sym (one_row work c a k))
  where
    assoc : (xs ys zs : List Event) → (xs ++ ys) ++ zs ≡ xs ++ (ys ++ zs)
    assoc [] ys zs = refl
    assoc (x ∷ xs) ys zs = ap (λ r. x ∷ r) (assoc xs ys zs)

around : (work : Work) (c : Core) (i m : ℕ) → work.layout.nodes ≡ i + suc m
    → choices work c ≡ allowed_from work c 0 i ++ (allowed_at work c i ++ allowed_from work c (i + 1) m)
around work c i m is =
    let here : 0 + i ≡ i = omega arith in
    split work c 0 i (suc m) work.layout.nodes is
    ∙ ap (λ z. allowed_from work c 0 i ++ allowed_from work c z (suc m)) here
    ∙ ap (λ xs. allowed_from work c 0 i ++ xs) (one_row work c i m)

-- 4. The words of a node, in turns in which no message is on its way

pub calm_row : (work : Work) (c : Core) (i : ℕ) → HasNoMail work.layout.nodes c i
    → allowed_at work c i ≡ cond (is_allowed work c (Exec i)) (Exec i ∷ []) []
calm_row work c i none =
    let takes = no_takes work c i 0 work.layout.nodes (omega arith) none in
    λ t. cond (is_allowed work c (Exec i)) (Exec i ∷ takes t) (takes t)

-- a row with events is the word of its node
row_word : (work : Work) (c : Core) (i : ℕ) (b : Bool) → is_allowed work c (Exec i) ≡ b
    → 1 ≤ length (cond b (Exec i ∷ []) []) → (b ≡ true)
row_word work c i true is some = refl
row_word work c i false is some = absurd (omega (arith, some))

pub word_row : (work : Work) (c : Core) (i : ℕ) (items : List Stored) → i < work.layout.nodes
    → HasNoMail work.layout.nodes c i → map event_of items ≡ allowed_at work c i
    → 1 ≤ length items → (allowed_at work c i ≡ Exec i ∷ []) × May work c (Exec i)
word_row work c i items low none listed some =
    let row = calm_row work c i none in
    let len = sym (length-map items event_of) ∙ ap length (listed ∙ row) in
    let is = row_word work c i (is_allowed work c (Exec i)) refl (omega (arith, len, some)) in
    (row ∙ ap (λ b. cond b (Exec i ∷ []) []) is, allowed_may work c (Exec i) low is)

pub empty_row : (work : Work) (c : Core) (i : ℕ) (items : List Stored)
    → map event_of items ≡ allowed_at work c i → length items ≡ 0 → allowed_at work c i ≡ []
empty_row work c i [] listed none = sym listed
empty_row work c i (x ∷ xs) listed none = absurd (omega (arith, none))

pub word_picks : (work : Work) (c : Core) (i turns number : ℕ) → i < work.layout.nodes
    → allowed_at work c i ≡ Exec i ∷ [] → picks_of i (choices work c) turns number
    ≡ how_often (length (allowed_from work c 0 i)) (length (choices work c)) turns number
word_picks work c i turns number low row =
    let n = work.layout.nodes in
    let m = n - (i + 1) in
    let whole : n ≡ i + suc m = omega (arith, low) in
    let before = allowed_from work c 0 i in
    let behind = allowed_from work c (i + 1) m in
    let es : choices work c ≡ before ++ Exec i ∷ behind = around work c i m whole
    ∙ ap (λ r. before ++ (r ++ behind)) row in
    let a = apart_filter i (is_allowed work c) (flat_map (events_at n) (range_with_len 0 i)) (below_apart n i 0 i (omega arith)) in
    let b = apart_filter i (is_allowed work c) (flat_map (events_at n) (range_with_len (i + 1) m)) (above_apart n i (i + 1) m (omega arith)) in
    picks_at i (length before) (choices work c) turns number
    (λ k. ap (λ xs. is_word_of i (slice_get xs k)) es ∙ one_place i before behind k a b)

pub no_picks : (work : Work) (c : Core) (i turns number : ℕ) → i < work.layout.nodes
    → allowed_at work c i ≡ [] → picks_of i (choices work c) turns number ≡ 0
no_picks work c i turns number low row =
    let n = work.layout.nodes in
    let m = n - (i + 1) in
    let whole : n ≡ i + suc m = omega (arith, low) in
    let before = allowed_from work c 0 i in
    let behind = allowed_from work c (i + 1) m in
    let es : choices work c ≡ before ++ behind = around work c i m whole
    ∙ ap (λ r. before ++ (r ++ behind)) row in
    let a = apart_filter i (is_allowed work c) (flat_map (events_at n) (range_with_len 0 i)) (below_apart n i 0 i (omega arith)) in
    let b = apart_filter i (is_allowed work c) (flat_map (events_at n) (range_with_len (i + 1) m)) (above_apart n i (i + 1) m (omega arith)) in
    picks_none i (choices work c) turns number
    (λ k. ap (λ xs. is_word_of i (slice_get xs k)) es ∙ apart_get i (before ++ behind) k (apart_append i before behind a b))

-- there are no more places than nodes
pub calm_few : (work : Work) (c : Core) (a k : ℕ) → a + k ≤ work.layout.nodes
    → IsCalm work.layout.nodes c → length (allowed_from work c a k) ≤ k
calm_few work c a zero room calm = omega arith
calm_few work c a (suc k) room calm =
    let rest = calm_few work c (a + 1) k (omega (arith, room)) calm in
    let row = ap length (calm_row work c a (calm a (omega (arith, room)))) in
    let one = few (is_allowed work c (Exec a)) in
    let all = ap length (one_row work c a k) ∙ length-append (allowed_at work c a) (allowed_from work c (a + 1) k) in
    omega (arith, rest, row, one, all)
  where
    few : (b : Bool) → length (cond b (Exec a ∷ []) []) ≤ 1
    few true = omega arith
    few false = omega arith

-- 5. The words told so far

-- node i executes so many words, where each place is chosen as often as the tally says
abbrev pub IsCount : Work → Core → (tally : List ℕ) → ℕ → ℕ → Type 0
IsCount work c tally i words = (turns number : ℕ)
    → ((place : ℕ) → place < 16
    → get_or tally place 0 ≡ how_often place (length (choices work c)) turns number)
    → words ≡ picks_of i (choices work c) turns number

pub record AreCounted (work : Work) (c : Core) (tally words : List ℕ) (below : ℕ) : Type 0 where
  pub len : length words ≡ 16
  pub told : (i : ℕ) → i < below → IsCount work c tally i (get_or words i 0)
  pub may : (i : ℕ) → i < below → 1 ≤ get_or words i 0 → May work c (Exec i)
  pub none : (i : ℕ) → below ≤ i → get_or words i 0 ≡ 0

pub word_counted : (work : Work) (c : Core) (tally words : List ℕ) (i place : ℕ)
    → AreCounted work c tally words i → i < work.layout.nodes → i < 16 → place < 16
    → place ≡ length (allowed_from work c 0 i)
    → allowed_at work c i ≡ Exec i ∷ [] → May work c (Exec i)
    → AreCounted work c tally (set words i (get_or tally place 0)) (i + 1)
word_counted work c tally words i place old low small few at row may = record {
  len = set_len words i (get_or tally place 0) ∙ old.len;
  told = λ k below turns number often. elim (eqb_tells k i) [
    | inl e ↦ ap (λ z. get_or (set words i (get_or tally place 0)) z 0) e.1 ∙ same
        ∙ often place few ∙ ap (λ z. how_often z (length (choices work c)) turns number) at
        ∙ sym (word_picks work c i turns number low row)
        ∙ ap (λ z. picks_of z (choices work c) turns number) (sym e.1)
    | inr e ↦ other k e.1 ∙ old.told k (under k below e.1) turns number often
  ];
  may = λ k below some. elim (eqb_tells k i) [
    | inl e ↦ subst (λ z. May work c (Exec z)) (sym e.1) may
    | inr e ↦ old.may k (under k below e.1) (subst (λ z. 1 ≤ z) (other k e.1) some)
  ];
  none = λ k above. other k (apart k above) ∙ old.none k (omega (arith, above));
}
  where
    set_len : (xs : List ℕ) (k x : ℕ) → length (set xs k x) ≡ length xs
    set_len [] k x = refl
    set_len (y ∷ ys) zero x = refl
    set_len (y ∷ ys) (suc k) x = ap suc (set_len ys k x)

    same : get_or (set words i (get_or tally place 0)) i 0 ≡ get_or tally place 0
    same = get_or-set_same words i (get_or tally place 0) 0 (subst (λ z. i < z) (sym old.len) small)

    other : (k : ℕ) → k ≢ i → get_or (set words i (get_or tally place 0)) k 0 ≡ get_or words k 0
    other k e = get_or-set_other words i k (get_or tally place 0) 0 e

    under : (k : ℕ) → k < i + 1 → k ≢ i → k < i
    under k below e = omega (arith, below, e)

    apart : (k : ℕ) → i + 1 ≤ k → k ≢ i
    apart k above e = absurd (omega (arith, above, e))

pub none_counted : (work : Work) (c : Core) (tally words : List ℕ) (i : ℕ)
    → AreCounted work c tally words i → i < work.layout.nodes → allowed_at work c i ≡ []
    → AreCounted work c tally words (i + 1)
none_counted work c tally words i old low row = record {
  len = old.len;
  told = λ k below turns number often. elim (eqb_tells k i) [
    | inl e ↦ ap (λ z. get_or words z 0) e.1 ∙ old.none i (omega arith)
        ∙ sym (no_picks work c i turns number low row)
        ∙ ap (λ z. picks_of z (choices work c) turns number) (sym e.1)
    | inr e ↦ old.told k (under k below e.1) turns number often
  ];
  may = λ k below some. elim (eqb_tells k i) [
    | inl e ↦ (let zero_there = ap (λ z. get_or words z 0) e.1 ∙ old.none i (omega arith) in absurd (omega (arith, zero_there, some)))
    | inr e ↦ old.may k (under k below e.1) some
  ];
  none = λ k above. old.none k (omega (arith, above));
}
  where
    under : (k : ℕ) → k < i + 1 → k ≢ i → k < i
    under k below e = omega (arith, below, e)

pub one_word : (work : Work) (c : Core) (i : ℕ) (items : List Stored)
    → map event_of items ≡ allowed_at work c i → allowed_at work c i ≡ Exec i ∷ [] → length items ≡ 1
one_word work c i items listed word = sym (length-map items event_of) ∙ ap length (listed ∙ word)
