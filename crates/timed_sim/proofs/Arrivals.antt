-- The times on links, and the links as they are stored.
use Rattle.std.proofs.Common.{◌≡◌, ℕ, zero, suc, ◌+◌, ◌-◌, ◌*◌, ◌<◌, ◌≤◌, Bool, true, false, cond, eqb, ◌&&◌, List, [], ◌∷◌, ◌++◌, map, length, get_or, set, Option, Some, None, refl, sym, ap, ◌∙◌, subst, inl, inr, arith, length-append}
use Rattle.std.specs.Prelude.{All, max, nat_lt, remove, slice_index_or}
use Rattle.std.proofs.Math.Nat.{mul-le-mul, mul-le-mul_right}
use Rattle.std.proofs.lemmas.List.{get_or-set_same, get_or-set_other, get_or_default, length-set}
use Rattle.std.proofs.lemmas.List.Elements.{All-append}
use Rattle.std.proofs.lemmas.Bool.Decides.{eqb_tells, leb_tells, nat_tests}
use Rattle.block_layout.specs.Layout.{Shape, blocks, lines}
use Rattle.dsm_core.specs.dsm_messages.declared.messages.Post.{Post}
use Rattle.dsm_core.specs.dsm_messages.declared.headers.MessageKind.{MessageKind}
use Rattle.dsm_core.specs.dsm_messages.declared.headers.MessageKind.TheVariants as kind
use Rattle.dsm_core.specs.dsm_messages.declared.headers.Sent.{Sent}
use Rattle.dsm_core.specs.dsm_messages.Headers.{sent_by}
use Rattle.dsm_core.specs.node_model.Core.{wires_to}
use Rattle.timed_sim.specs.declared.costs.Costs.{Costs}
use Rattle.timed_sim.specs.Clock.{AreInRange, delay, delays_to, lines_carried, lines_of_block, last_of, with_sent, with_sends, behind_first}
use Rattle.timed_sim.specs.Stored.{link_at, AreLinks}
use Rattle.timed_sim.specs.Stretches.{HaveFewLines}

-- 1. As many times as messages

pub length_sent : (time : ℕ) (delays times : List ℕ)
    → length (with_sent time delays times) ≡ length times + length delays
length_sent time [] times = omega arith
length_sent time (d ∷ ds) times =
    let one = length-append times (max (time + d) (last_of times) ∷ []) in
    let rest = length_sent time ds (times ++ max (time + d) (last_of times) ∷ []) in
    omega (arith, one, rest)

pub length_delays : (costs : Costs) (layout : Shape) (i k stamp : ℕ) (ps : List Post)
    → length (delays_to costs layout i k (map sent_by ps)) ≡ length (wires_to stamp k ps)
length_delays costs layout i k stamp [] = refl
length_delays costs layout i k stamp (p ∷ ps) =
    by_test (eqb p.to k) (length_delays costs layout i k stamp ps)
  where
    by_test : (b : Bool)
        → length (delays_to costs layout i k (map sent_by ps)) ≡ length (wires_to stamp k ps)
        → length (cond b (delay costs layout i (sent_by p) ∷ delays_to costs layout i k (map sent_by ps))
        (delays_to costs layout i k (map sent_by ps)))
        ≡ length (cond b (record { stamp = stamp; message = p.message } ∷ wires_to stamp k ps)
        (wires_to stamp k ps))
    by_test true h = ap suc h
    by_test false h = h

pub length_behind : (ts : List ℕ) (n : ℕ) → length ts ≡ suc n → length (behind_first ts) ≡ n
length_behind [] n e = absurd (omega (arith, e))
length_behind (t ∷ ts) n e = omega (arith, e)

-- 2. None is late

abbrev pub AreBy : ℕ → List ℕ → Type 0
AreBy most ts = All (λ t. t ≤ most) ts

pub by_more : (most more : ℕ) (ts : List ℕ) → most ≤ more → AreBy most ts → AreBy more ts
by_more most more ts le by k d low = let h = by k d low in omega (arith, h, le)

last_by : (most : ℕ) (ts : List ℕ) → AreBy most ts → last_of ts ≤ most
last_by most [] by = omega arith
last_by most (t ∷ ts) by =
    let e : length (t ∷ ts) - 1 ≡ length ts = omega arith in
    subst (λ k. slice_index_or (t ∷ ts) k 0 ≤ most) (sym e) (by (length ts) 0 (omega arith))

pub behind_by : (most : ℕ) (ts : List ℕ) → AreBy most ts → AreBy most (behind_first ts)
behind_by most [] by = by
behind_by most (t ∷ ts) by = λ k d low. by (suc k) d (omega (arith, low))

one_by : (most t : ℕ) → t ≤ most → AreBy most (t ∷ [])
one_by most t le zero d low = le
one_by most t le (suc k) d low = absurd (omega (arith, low))

pub sent_by_then : (time most : ℕ) (delays times : List ℕ) → AreBy most times
    → All (λ d. time + d ≤ most) delays → AreBy most (with_sent time delays times)
sent_by_then time most [] times by soon = by
sent_by_then time most (d ∷ ds) times by soon =
    let here : time + d ≤ most = soon 0 0 (omega arith) in
    let last = last_by most times by in
    let first : max (time + d) (last_of times) ≤ most = omega (arith, here, last) in
    sent_by_then time most ds (times ++ max (time + d) (last_of times) ∷ [])
    (All-append (λ t. t ≤ most) times (max (time + d) (last_of times) ∷ []) by
    (one_by most (max (time + d) (last_of times)) first))
    (λ k e low. soon (suc k) e (omega (arith, low)))

-- 3. How long a message is on its way

few_of_block : (layout : Shape) (block : Option ℕ) → HaveFewLines layout
    → lines_of_block layout block ≤ 64
few_of_block layout None few = omega arith
few_of_block layout (Some b) few = by_test (nat_lt b (blocks layout)) refl
  where
    by_test : (t : Bool) → nat_lt b (blocks layout) ≡ t → cond t (lines layout b) 0 ≤ 64
    by_test true e = few b (let f = e in grind (arith, nat_tests))
    by_test false e = omega arith

few_carried : (layout : Shape) (k : MessageKind) (block : Option ℕ) → HaveFewLines layout
    → lines_carried layout k block ≤ 64
few_carried layout kind.Data block few = few_of_block layout block few
few_carried layout other block few = omega arith

delay_few : (costs : Costs) (layout : Shape) (i : ℕ) (p : Sent) → AreInRange costs
    → HaveFewLines layout → delay costs layout i p ≤ 65000000
delay_few costs layout i p range few = by_test (eqb p.to i)
  where
    by_test : (b : Bool) → cond b 0 (costs.latency
        + costs.line * lines_carried layout p.header.kind p.header.block) ≤ 65000000
    by_test true = omega arith
    by_test false =
        let carried : costs.line * lines_carried layout p.header.kind p.header.block ≤ 1000000 * 64 =
        mul-le-mul range.line (few_carried layout p.header.kind p.header.block few) in
        let latency = range.latency in
        omega (arith, carried, latency)

pub delays_few : (costs : Costs) (layout : Shape) (i k time : ℕ) (ps : List Sent)
    → AreInRange costs → HaveFewLines layout
    → All (λ d. time + d ≤ time + 65000000) (delays_to costs layout i k ps)
delays_few costs layout i k time [] range few = λ m d low. absurd (omega (arith, low))
delays_few costs layout i k time (p ∷ ps) range few =
    by_test (eqb p.to k) (delays_few costs layout i k time ps range few)
  where
    by_test : (b : Bool) → All (λ d. time + d ≤ time + 65000000) (delays_to costs layout i k ps)
        → All (λ d. time + d ≤ time + 65000000)
        (cond b (delay costs layout i p ∷ delays_to costs layout i k ps) (delays_to costs layout i k ps))
    by_test true rest zero d low =
        let one = delay_few costs layout i p range few in omega (arith, one)
    by_test true rest (suc m) d low = rest m d (omega (arith, low))
    by_test false rest m d low = rest m d low

-- 4. Links as they are stored

below_row : (n x j y : ℕ) → x < j → y < n → x * n + y < j * n
below_row n x j y less in_row = omega (arith, mul-le-mul_right {m = x + 1} {n = j} n (omega arith))

pub place_below : (n j i : ℕ) → j < n → i < n → j * n + i < n * n
place_below n j i row col = below_row n j n i row col

same_row : (n x y j i : ℕ) → y < n → i < n → x * n + y ≡ j * n + i → x ≡ j
same_row n x y j i in_row at_row same = elim (leb_tells j x) [
  | inl p ↦ elim (leb_tells x j) [
    | inl q ↦ omega arith
    | inr q ↦ absurd (omega (arith, below_row n j x i q.1 at_row))
  ]
  | inr p ↦ absurd (omega (arith, below_row n x j y p.1 in_row))
]

same_column : (n x y j i : ℕ) → y < n → i < n → x * n + y ≡ j * n + i → y ≡ i
same_column n x y j i in_row at_row same =
    omega (arith, ap (λ k. k * n) (same_row n x y j i in_row at_row same))

-- one link is replaced
pub link_set : (ls : List (List ℕ)) (n j i : ℕ) (q : List ℕ) (x y : ℕ) → length ls ≡ n * n → j < n
    → i < n → x < n → y < n
    → link_at (set ls (j * n + i) q) n x y ≡ cond (eqb x j && eqb y i) q (link_at ls n x y)
link_set ls n j i q x y len row col bx by = elim (eqb_tells (x * n + y) (j * n + i)) [
  | inl t ↦ (let a : x ≡ j = same_row n x y j i by col t.1 in let b : y
      ≡ i = same_column n x y j i by col t.1 in
      let e : (eqb x j && eqb y i) ≡ true = grind (arith, nat_tests) in
      rw e (ap (λ k. get_or (set ls (j * n + i) q) k []) t.1
      ∙ get_or-set_same ls (j * n + i) q [] (omega (arith, place_below n j i row col))))
  | inr t ↦ (let e : (eqb x j && eqb y i) ≡ false = elim (eqb_tells x j) [
    | inl g ↦ elim (eqb_tells y i) [
      | inl h ↦ absurd (t.1 (ap (λ k. k * n + y) g.1 ∙ ap (λ k. j * n + k) h.1))
      | inr h ↦ (let z = h.0 in grind (arith, nat_tests))
    ]
    | inr g ↦ (let z = g.0 in grind (arith, nat_tests))
  ] in
      rw e (get_or-set_other ls (j * n + i) (x * n + y) q [] t.1))
]

-- the link that was read is the one from j to i
pub link_read : (ls : List (List ℕ)) (n j i : ℕ) (old : List ℕ) → length ls ≡ n * n → j < n → i < n
    → old ≡ get_or ls (j * n + i) old → old ≡ link_at ls n j i
link_read ls n j i old len row col is = is
    ∙ get_or_default ls (j * n + i) old [] (omega (arith, place_below n j i row col))

-- a message was taken
pub link_taken : (ls : List (List ℕ)) (n j i : ℕ) (q : List ℕ) (x y : ℕ) → length ls ≡ n * n → j < n
    → i < n → x < n → y < n → q ≡ behind_first (link_at ls n j i)
    → link_at (set ls (j * n + i) q) n x y
    ≡ cond (eqb x j && eqb y i) (behind_first (link_at ls n x y)) (link_at ls n x y)
link_taken ls n j i q x y len row col bx by is =
    link_set ls n j i q x y len row col bx by ∙ (elim (eqb_tells x j) [
      | inl g ↦ elim (eqb_tells y i) [
        | inl h ↦ rw (g.0, h.0) (is ∙ ap (λ k. behind_first (link_at ls n k i)) (sym g.1)
            ∙ ap (λ k. behind_first (link_at ls n x k)) (sym h.1))
        | inr h ↦ rw (g.0, h.0) refl
      ]
      | inr g ↦ rw g.0 refl
    ])

-- 5. Messages are sent, one after another

module _ (costs : Costs) (layout : Shape) (i time : ℕ) where
  -- what the link from x to y has once these are sent
  abbrev pub sent_on : List (List ℕ) → List Sent → (x y : ℕ) → List ℕ
  sent_on ls sends x y = with_sends costs layout i time sends (link_at ls layout.nodes) x y

  abbrev pub arrival : (p : Sent) → List ℕ → ℕ
  arrival p times = max (time + delay costs layout i p) (last_of times)

  -- one more was sent
  pub sent_more : (ls : List (List ℕ)) (q : List ℕ) (p : Sent) (rest : List Sent)
      → length ls ≡ layout.nodes * layout.nodes → i < layout.nodes → p.to < layout.nodes
      → q ≡ link_at ls layout.nodes i p.to ++ arrival p (link_at ls layout.nodes i p.to) ∷ []
      → (x y : ℕ) → x < layout.nodes → y < layout.nodes
      → sent_on (set ls (i * layout.nodes + p.to) q) rest x y ≡ sent_on ls (p ∷ rest) x y
  sent_more ls q p rest len row col is x y bx by =
      let n = layout.nodes in
      let e = link_set ls n i p.to q x y len row col bx by in
      elim (eqb_tells x i) [
        | inl g ↦ elim (eqb_tells y p.to) [
          | inl h ↦ (let h2 : eqb p.to y ≡ true = (let z = h.1 in grind (arith, nat_tests)) in
              let f : link_at (set ls (i * n + p.to) q) n x y
              ≡ link_at ls n x y ++ arrival p (link_at ls n x y) ∷ [] = e
              ∙ (rw (g.0, h.0) (is
              ∙ ap (λ k. link_at ls n k p.to ++ arrival p (link_at ls n k p.to) ∷ []) (sym g.1)
              ∙ ap (λ k. link_at ls n x k ++ arrival p (link_at ls n x k) ∷ []) (sym h.1))) in
              rw g.0 (rw h2 (ap (with_sent time (delays_to costs layout i y rest)) f)))
          | inr h ↦ (let h2 : eqb p.to y ≡ false = (let z = h.1 in grind (arith, nat_tests)) in
              let f : link_at (set ls (i * n + p.to) q) n x y ≡ link_at ls n x y = e
              ∙ (rw (g.0, h.0) refl) in
              rw g.0 (rw h2 (ap (with_sent time (delays_to costs layout i y rest)) f)))
        ]
        | inr g ↦ (let f : link_at (set ls (i * n + p.to) q) n x y ≡ link_at ls n x y = e
            ∙ (rw g.0 refl) in rw g.0 f)
      ]

  -- of what node i sends this is left, and the rest is sent
  pub record HaveSentTo (old now : List (List ℕ)) (sends left : List Sent) : Type 0 where
    pub links : AreLinks layout.nodes now
    pub sent : (x y : ℕ) → x < layout.nodes → y < layout.nodes
        → sent_on now left x y ≡ sent_on old sends x y

  pub sent_first : (old now : List (List ℕ)) (sends left rest : List Sent) (p : Sent)
      (l q : List ℕ) → i < layout.nodes → p.to < layout.nodes → left ≡ p ∷ rest
      → l ≡ get_or now (i * layout.nodes + p.to) l
      → q ≡ l ++ arrival p l ∷ [] → HaveSentTo old now sends left
      → HaveSentTo old (set now (i * layout.nodes + p.to) q) sends rest
  sent_first old now sends left rest p l q row col all is more h =
      let n = layout.nodes in
      let read = link_read now n i p.to l h.links.len row col is in
      record {
        links = record {
          few = h.links.few;
          len = length-set now (i * n + p.to) q ∙ h.links.len;
        };
        sent = λ x y bx by. sent_more now q p rest h.links.len row col
            (more ∙ ap (λ z. z ++ arrival p z ∷ []) read) x y bx by
            ∙ ap (λ z. sent_on now z x y) (sym all) ∙ h.sent x y bx by;
      }

pub first_left : (left rest : List Sent) (p : Sent) → p ≡ get_or left 0 p → rest ≡ remove left 0
    → length rest + 1 ≡ length left → left ≡ p ∷ rest
first_left [] rest p first others one = absurd (omega (arith, one))
first_left (q ∷ left) rest p first others one = λ t. sym first t ∷ sym others t
