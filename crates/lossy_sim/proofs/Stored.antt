-- Links between n nodes, as they are stored.
use Rattle.std.proofs.Common.{◌≡◌, ◌≢◌, ℕ, ◌+◌, ◌*◌, ◌<◌, ◌≤◌, Bool, true, false, cond, eqb, ◌&&◌, List, [], ◌∷◌, ◌++◌, length, get_or, set, refl, sym, ap, ◌∙◌, subst, inl, inr, arith, append_assoc, append-nil, length-append}
use Rattle.std.specs.Prelude.{if◌then◌else◌}
use Rattle.std.proofs.lemmas.List.{get_or-set_same, get_or-set_other, get_or_default}
use Rattle.std.proofs.lemmas.Bool.Decides.{eqb_tells, leb_tells, nat_tests}
use Rattle.dsm_messages.specs.declared.messages.Post.{Post}
use Rattle.dsm_messages.specs.declared.messages.Wire.{Wire}
use Rattle.lossy_link.specs.Sender.{number_offered}
use Rattle.lossy_link.specs.Receiver.{Receiving}
use Rattle.node_model.specs.Core.{wires_to}
use Rattle.message_queues.proofs.Squares.{below_row, place_below}
use Rattle.lossy_sim.specs.Links.{LossyLink, new_link, with_offered}
use Rattle.lossy_sim.specs.Stored.{link_at, HaveOffered, HaveOfferedFew, HaveSentFewer}

same_row : (n x y j i : ℕ) → y < n → i < n → x * n + y ≡ j * n + i → x ≡ j
same_row n x y j i in_row at_row same = elim (leb_tells j x) [
  | inl p ↦ elim (leb_tells x j) [
    | inl q ↦ omega arith
    | inr q ↦ absurd (omega (arith, below_row n j x i q.1 at_row))
  ]
  | inr p ↦ absurd (omega (arith, below_row n x j y p.1 in_row))
]

same_column : (n x y j i : ℕ) → y < n → i < n → x * n + y ≡ j * n + i → y ≡ i
same_column n x y j i in_row at_row same =
    omega (arith, ap (λ k. k * n) (same_row n x y j i in_row at_row same))

-- one link is replaced
pub link_set : (ls : List LossyLink) (n j i : ℕ) (q : LossyLink) (x y : ℕ) → length ls ≡ n * n → j < n
    → i < n → x < n → y < n
    → link_at (set ls (j * n + i) q) n x y ≡ cond (eqb x j && eqb y i) q (link_at ls n x y)
link_set ls n j i q x y len row col bx by = elim (eqb_tells (x * n + y) (j * n + i)) [
  | inl t ↦ (let a : x ≡ j = same_row n x y j i by col t.1 in let b : y
      ≡ i = same_column n x y j i by col t.1 in
      let e : (eqb x j && eqb y i) ≡ true = grind (arith, nat_tests) in
      rw e (ap (λ k. get_or (set ls (j * n + i) q) k new_link) t.1
      ∙ get_or-set_same ls (j * n + i) q new_link (omega (arith, place_below n j i row col))))
  | inr t ↦ (let e : (eqb x j && eqb y i) ≡ false = elim (eqb_tells x j) [
    | inl g ↦ elim (eqb_tells y i) [
      | inl h ↦ absurd (t.1 (ap (λ k. k * n + y) g.1 ∙ ap (λ k. j * n + k) h.1))
      | inr h ↦ (let z = h.0 in grind (arith, nat_tests))
    ]
    | inr g ↦ (let z = g.0 in grind (arith, nat_tests))
  ] in
      rw e (get_or-set_other ls (j * n + i) (x * n + y) q new_link t.1))
]

-- the link that was read is the one from j to i
pub link_read : (ls : List LossyLink) (n j i : ℕ) (old : LossyLink) → length ls ≡ n * n → j < n → i < n
    → old ≡ get_or ls (j * n + i) old → old ≡ link_at ls n j i
link_read ls n j i old len row col is = is
    ∙ get_or_default ls (j * n + i) old new_link (omega (arith, place_below n j i row col))

-- these were offered, one after another
pub offered_both : (l : LossyLink) (ws vs : List Wire)
    → with_offered (with_offered l ws) vs ≡ with_offered l (ws ++ vs)
offered_both l ws vs = ap (λ u. record l { sender = record l.sender { items = u } })
    (append_assoc l.sender.items ws vs)

pub number_more : (l m : LossyLink) (w : Wire) → m ≡ with_offered l (w ∷ [])
    → number_offered m.sender ≡ number_offered l.sender + 1
number_more l m w is = ap (λ (z : LossyLink). number_offered z.sender) is
    ∙ omega (arith, length-append l.sender.items (w ∷ []))

-- a link by its place, whatever stands for one that isn't there
pub link_place : (ls : List LossyLink) (n j i : ℕ) (d : LossyLink) → length ls ≡ n * n → j < n → i < n
    → get_or ls (j * n + i) d ≡ link_at ls n j i
link_place ls n j i d len row col =
    get_or_default ls (j * n + i) d new_link (omega (arith, place_below n j i row col))

-- a node has offered on each link of its row, and on no other
pub offered_row : (ls ms : List LossyLink) (n j stamp : ℕ) (posts : List Post)
    → ((to : ℕ) (q : LossyLink) → to < n → get_or ms (j * n + to) q
    ≡ with_offered (get_or ls (j * n + to) q) (wires_to stamp to posts))
    → ((k : ℕ) (q : LossyLink) → ((to : ℕ) → to < n → k ≢ j * n + to)
    → get_or ms k q ≡ get_or ls k q)
    → HaveOffered ls ms n j stamp posts
offered_row ls ms n j stamp posts sent others x y bx by = elim (eqb_tells x j) [
  | inl g ↦ rw g.0 (ap (λ k. get_or ms (k * n + y) new_link) g.1 ∙ sent y new_link by
      ∙ ap (λ k. with_offered (get_or ls (k * n + y) new_link) (wires_to stamp y posts)) (sym g.1))
  | inr g ↦ rw g.0
      (others (x * n + y) new_link (λ to low e. g.1 (same_row n x y j to by low e)))
]

few_wires : (stamp k : ℕ) (posts : List Post) → length (wires_to stamp k posts) ≤ length posts
few_wires stamp k [] = omega arith
few_wires stamp k (p ∷ posts) = let few = few_wires stamp k posts in elim (eqb_tells p.to k) [
  | inl t ↦ rw t.0 (omega (arith, few))
  | inr t ↦ rw t.0 (omega (arith, few))
]

-- and so few
pub offered_few : (ls ms : List LossyLink) (n j stamp : ℕ) (posts : List Post) → length posts ≤ 18
    → HaveOffered ls ms n j stamp posts → HaveOfferedFew 18 ls ms n
offered_few ls ms n j stamp posts short offered most few x y bx by =
    subst (λ (z : LossyLink). number_offered z.sender < most + 18) (sym (offered x y bx by))
    (by_test (eqb x j))
  where
    l : LossyLink
    l = link_at ls n x y

    by_test : (b : Bool) → number_offered
        (if b then with_offered l (wires_to stamp y posts) else l).sender < most + 18
    by_test true = let less = few x y bx by in
        let wires = few_wires stamp y posts in
        omega (arith, less, wires, short, length-append l.sender.items (wires_to stamp y posts))
    by_test false = let less = few x y bx by in omega (arith, less)

-- nothing was offered
pub offered_nothing : (ls : List LossyLink) (n j stamp : ℕ) → HaveOffered ls ls n j stamp []
offered_nothing ls n j stamp x y bx by = sym (by_test (eqb x j))
  where
    by_test : (b : Bool) → (if b then with_offered (link_at ls n x y) [] else link_at ls n x y)
        ≡ link_at ls n x y
    by_test true = ap (λ u. record (link_at ls n x y) {
      sender = record (link_at ls n x y).sender { items = u };
    }) (append-nil (link_at ls n x y).sender.items)
    by_test false = refl

-- a message was delivered from j to i
pub few_delivered : (ls : List LossyLink) (n j i : ℕ) (q : LossyLink) (r : Receiving Wire) (most : ℕ)
    → length ls ≡ n * n → j < n → i < n → q ≡ record (link_at ls n j i) { receiver = r }
    → HaveSentFewer most ls n → HaveSentFewer most (set ls (j * n + i) q) n
few_delivered ls n j i q r most len row col is few x y bx by =
    let here : number_offered q.sender < most =
    subst (λ (z : LossyLink). number_offered z.sender < most) (sym is) (few j i row col) in
    subst (λ (z : LossyLink). number_offered z.sender < most)
    (sym (link_set ls n j i q x y len row col bx by))
    (by_test (eqb x j && eqb y i) here (few x y bx by))
  where
    by_test : (b : Bool) → number_offered q.sender < most
        → number_offered (link_at ls n x y).sender < most
        → number_offered (cond b q (link_at ls n x y)).sender < most
    by_test true h g = h
    by_test false h g = g

pub link_delivered : (ls : List LossyLink) (n j i : ℕ) (q : LossyLink) (r : Receiving Wire)
    (x y : ℕ) → length ls ≡ n * n → j < n → i < n → x < n → y < n
    → q ≡ record (link_at ls n j i) { receiver = r }
    → link_at (set ls (j * n + i) q) n x y
    ≡ cond (eqb x j && eqb y i) (record (link_at ls n x y) { receiver = r }) (link_at ls n x y)
link_delivered ls n j i q r x y len row col bx by is =
    link_set ls n j i q x y len row col bx by
    ∙ (elim (eqb_tells x j) [
      | inl g ↦ elim (eqb_tells y i) [
        | inl h ↦ rw (g.0, h.0) (is ∙ ap (λ k. record (link_at ls n k i) { receiver = r }) (sym g.1)
            ∙ ap (λ k. record (link_at ls n x k) { receiver = r }) (sym h.1))
        | inr h ↦ rw (g.0, h.0) refl
      ]
      | inr g ↦ rw g.0 refl
    ])
