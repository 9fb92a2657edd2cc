-- The network's turn, link by link.
use Rattle.std.proofs.Common.{◌≡◌, ◌≢◌, ℕ, suc, ◌+◌, ◌-◌, ◌*◌, ◌<◌, ◌≤◌, Bool, true, false, List, length, get_or, set, refl, sym, ap, ◌∙◌, subst, inl, inr, arith, length-drop}
use Rattle.std.proofs.lemmas.List.{get_or-set_same, get_or-set_other, get_or_default}
use Rattle.std.proofs.lemmas.Bool.Decides.{eqb_tells, leb_tells}
use Rattle.block_layout.specs.Update.{changed}
use Rattle.dsm_messages.specs.declared.messages.Wire.{Wire}
use Rattle.lossy_link.specs.Sender.{Sending, Acknowledges, number_offered}
use Rattle.message_queues.proofs.Squares.{place_below}
use Rattle.lossy_sim.specs.Links.{LossyLink, HasNetworkTurn, new_link, is_given, drawn_after, packets_drawn}
use Rattle.lossy_sim.specs.Stored.{link_at, HaveTurned, HaveOfferedFew}

-- 1. What was offered stays

acknowledged_same : (s : Sending Wire) (next : ℕ) (a : Sending Wire) → Acknowledges s next a
    → number_offered a ≡ number_offered s
acknowledged_same s next a h = elim (leb_tells (suc s.acknowledged) next) [
  | inl p ↦ elim (leb_tells next (number_offered s)) [
    | inl q ↦ ap (λ (z : Sending Wire). number_offered z) (h.counts p.1 q.1)
        ∙ (let below = p.1 in let within = q.1 in let left = length-drop (next - s.acknowledged) s.items in
        omega (arith, below, within, left))
    | inr q ↦ ap (λ (z : Sending Wire). number_offered z)
        (h.ignores (inr (let above = q.1 in omega (arith, above))))
  ]
  | inr p ↦ ap (λ (z : Sending Wire). number_offered z)
      (h.ignores (inl (let above = p.1 in omega (arith, above))))
]

pub offered_same : (number : ℕ) (l : LossyLink) (last : ℕ) (after : LossyLink)
    → HasNetworkTurn number l last after → number_offered after.sender ≡ number_offered l.sender
offered_same number l last after t =
    by_test (is_given l.silent (drawn_after number (packets_drawn l))) t.given t.not_given
  where
    by_test : (b : Bool) → (b ≡ true → Acknowledges l.sender after.receiver.next after.sender)
        → (b ≡ false → after.sender ≡ l.sender)
        → number_offered after.sender ≡ number_offered l.sender
    by_test true given not_given =
        acknowledged_same l.sender after.receiver.next after.sender (given refl)
    by_test false given not_given = ap (λ (z : Sending Wire). number_offered z) (not_given refl)

-- 2. Some of the links have had their turns

-- the first k links have had their turns, with the draws from one number of the losses to another
pub record HaveTurnedTo (k : ℕ) (old new : List LossyLink) (losses last : ℕ) : Type 0 where
  pub numbers : ℕ → ℕ
  pub first : numbers 0 ≡ losses
  pub turns : (p : ℕ) → p < k → HasNetworkTurn (numbers p) (get_or old p new_link)
      (numbers (suc p)) (get_or new p new_link)
  pub others : (p : ℕ) → k ≤ p → get_or new p new_link ≡ get_or old p new_link
  pub draws : last ≡ numbers k

pub turned_none : (ls : List LossyLink) (losses : ℕ) → HaveTurnedTo 0 ls ls losses losses
turned_none ls losses = record {
  numbers = λ p. losses;
  first = refl;
  turns = λ p below. absurd (omega (arith, below));
  others = λ p above. refl;
  draws = refl;
}

at_other : (f : ℕ → ℕ) (i x k : ℕ) → k ≢ i → changed f i x k ≡ f k
at_other f i x k other = elim (eqb_tells k i) [ inl t ↦ absurd (other t.1) | inr t ↦ rw t.0 refl ]

at_same : (f : ℕ → ℕ) (i x k : ℕ) → k ≡ i → changed f i x k ≡ x
at_same f i x k same = elim (eqb_tells k i) [ inl t ↦ rw t.0 refl | inr t ↦ absurd (t.1 same) ]

turn_is : (a b c d : ℕ) (l m q r : LossyLink) → b ≡ a → m ≡ l → d ≡ c → r ≡ q
    → HasNetworkTurn a l c q → HasNetworkTurn b m d r
turn_is a b c d l m q r ea el ec eq t =
    subst (λ z. HasNetworkTurn z m d r) (sym ea) (subst (λ z. HasNetworkTurn a z d r) (sym el)
    (subst (λ z. HasNetworkTurn a l z r) (sym ec) (subst (λ z. HasNetworkTurn a l c z) (sym eq) t)))

pub turned_more : (k : ℕ) (old new : List LossyLink) (losses last next : ℕ) (x q : LossyLink)
    → k < length new → x ≡ get_or new k x → HasNetworkTurn last x next q
    → HaveTurnedTo k old new losses last → HaveTurnedTo (k + 1) old (set new k q) losses next
turned_more k old new losses last next x q below is turn h = record {
  numbers = changed h.numbers (k + 1) next;
  first = at_other h.numbers (k + 1) next 0 (λ e. absurd (omega (arith, e))) ∙ h.first;
  turns = λ p less. elim (eqb_tells p k) [
    | inl t ↦ (let here = t.1 in
        turn_is last (changed h.numbers (k + 1) next p) next (changed h.numbers (k + 1) next (suc p))
        x (get_or old p new_link) q (get_or (set new k q) p new_link)
        (at_other h.numbers (k + 1) next p (λ e. absurd (omega (arith, e, here)))
        ∙ ap h.numbers here ∙ sym h.draws)
        (ap (λ z. get_or old z new_link) here ∙ sym (h.others k (omega arith))
        ∙ sym (is ∙ get_or_default new k x new_link below))
        (at_same h.numbers (k + 1) next (suc p) (omega (arith, here)))
        (ap (λ z. get_or (set new k q) z new_link) here
        ∙ get_or-set_same new k q new_link below) turn)
    | inr t ↦ (let other = t.1 in let lower : p < k = omega (arith, less, other) in
        turn_is (h.numbers p) (changed h.numbers (k + 1) next p) (h.numbers (suc p))
        (changed h.numbers (k + 1) next (suc p)) (get_or old p new_link) (get_or old p new_link)
        (get_or new p new_link) (get_or (set new k q) p new_link)
        (at_other h.numbers (k + 1) next p (λ e. absurd (omega (arith, e, lower)))) refl
        (at_other h.numbers (k + 1) next (suc p) (λ e. absurd (omega (arith, e, lower))))
        (get_or-set_other new k p q new_link other) (h.turns p lower))
  ];
  others = λ p above. get_or-set_other new k p q new_link (λ e. absurd (omega (arith, e, above)))
      ∙ h.others p (omega (arith, above));
  draws = sym (at_same h.numbers (k + 1) next (k + 1) refl);
}

-- 3. All of them have

pub turned_all : (n : ℕ) (old new : List LossyLink) (losses last : ℕ)
    → HaveTurnedTo (n * n) old new losses last → HaveTurned n old new losses last
turned_all n old new losses last h work nodes order e = record {
  numbers = h.numbers;
  first = h.first;
  turns = λ j i bj bi. subst (λ z. HasNetworkTurn (h.numbers (j * n + i)) (link_at old z j i)
      (h.numbers (suc (j * n + i))) (link_at new z j i)) (sym e)
      (h.turns (j * n + i) (place_below n j i bj bi));
  losses = h.draws;
  nodes = λ i below. refl;
  order = refl;
}

pub turned_few : (n : ℕ) (old new : List LossyLink) (losses last : ℕ)
    → HaveTurnedTo (n * n) old new losses last → HaveOfferedFew 0 old new n
turned_few n old new losses last h most few j i bj bi =
    let k = j * n + i in
    let same = offered_same (h.numbers k) (link_at old n j i) (h.numbers (suc k)) (link_at new n j i)
    (h.turns k (place_below n j i bj bi)) in
    let before = few j i bj bi in
    omega (arith, same, before)
