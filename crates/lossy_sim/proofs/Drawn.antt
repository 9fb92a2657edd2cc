-- A network turn of a link, draw by draw.
use Rattle.std.proofs.Common.{◌≡◌, ◌≢◌, ℕ, zero, suc, ◌+◌, ◌<◌, ◌==◌, ◌&&◌, not, Bool, true, false, List, [], ◌∷◌, ◌++◌, refl, ap, sym, ◌∙◌, subst, arith, append_assoc, append-nil, ne_eqb}
use Rattle.std.specs.Prelude.{if◌then◌else◌}
use Rattle.std.specs.List.{flat_map, range_with_len}
use Rattle.random_order.specs.Orders.{following, choice, after_turns}
use Rattle.random_order.proofs.Often.{turns_more}
use Rattle.lossy_link.specs.Sender.{Acknowledges}
use Rattle.lossy_link.specs.Receiver.{Receiving}
use Rattle.lossy_link.specs.Packets.{Receives}
use Rattle.lossy_link.specs.declared.packet.Packet.{Packet}
use Rattle.dsm_messages.specs.declared.messages.Wire.{Wire}
use Rattle.lossy_sim.specs.Links.{LossyLink, HasNetworkTurn, HaveCome, packet_at, packets_drawn, drawn_after, draw_for, received_by, kept_by, each_by, in_a_row, is_given}
use Rattle.lossy_sim.specs.Draws.{HasBrought, HasReceived}

-- 1. Lists

flat_more : (f : ℕ → List (Packet Wire)) (a k : ℕ)
    → flat_map f (range_with_len a (suc k)) ≡ flat_map f (range_with_len a k) ++ f (a + k)
flat_more f a zero = let last : a ≡ a + 0 = omega arith in append-nil (f a) ∙ ap f last
flat_more f a (suc k) =
    let last : a + 1 + k ≡ a + suc k = omega arith in
    ap (λ u. f a ++ u) (flat_more f (a + 1) k)
    ∙ sym (append_assoc (f a) (flat_map f (range_with_len (a + 1) k)) (f (a + 1 + k)))
    ∙ ap (λ z. flat_map f (range_with_len a (suc k)) ++ f z) last

flat_next : (f : ℕ → List (Packet Wire)) (k : ℕ)
    → flat_map f (range_with_len 0 (suc k)) ≡ flat_map f (range_with_len 0 k) ++ f k
flat_next f k = let same : 0 + k ≡ k = omega arith in
    flat_more f 0 k ∙ ap (λ z. flat_map f (range_with_len 0 k) ++ f z) same

pub come_also : (xs ys : List (Packet Wire)) (r mid after : Receiving Wire) → HaveCome r xs mid
    → HaveCome mid ys after → HaveCome r (xs ++ ys) after
come_also [] ys r mid after e h = subst (λ u. HaveCome u ys after) e h
come_also (p ∷ xs) ys r mid after (next, answer, g, rest) h =
    (next, answer, g, come_also xs ys next mid after rest h)

flat_none : (xs : List (Packet Wire)) → flat_map (received_by 0) xs ≡ []
flat_none [] = refl
flat_none (x ∷ xs) = flat_none xs

flat_kept_none : (xs : List (Packet Wire)) → flat_map (kept_by 0) xs ≡ []
flat_kept_none [] = refl
flat_kept_none (x ∷ xs) = flat_kept_none xs

flat_kept_all : (xs : List (Packet Wire)) → flat_map (kept_by 3) xs ≡ xs
flat_kept_all [] = refl
flat_kept_all (x ∷ xs) = ap (λ u. x ∷ u) (flat_kept_all xs)

flat_received_none : (xs : List (Packet Wire)) → flat_map (received_by 3) xs ≡ []
flat_received_none [] = refl
flat_received_none (x ∷ xs) = flat_received_none xs

-- 2. A draw

-- the next draw, for the packet behind k others
pub record HasDrawn (k number : ℕ) (l : LossyLink) (d last : ℕ) (after : LossyLink) : Type 0 where
  pub draw : d ≡ (if k == 0 && l.lost == 7 && not (choice 4 (following number) == 1) then 2
      else choice 4 (following number))
  pub link : after ≡ record l {
    lost = (if k == 0 then in_a_row l.lost (choice 4 (following number)) else l.lost);
  }
  pub draws : last ≡ following number

not_zero : (k : ℕ) → (suc k == 0) ≡ false
not_zero k = ne_eqb (suc k) 0 (λ z. absurd (omega (arith, z)))

same_draw : (k number before : ℕ) (l : LossyLink) (lost : ℕ) → before ≡ after_turns k number
    → lost ≡ (if k == 0 then l.lost else in_a_row l.lost (drawn_after number 0))
    → (if k == 0 && lost == 7 && not (choice 4 (following before) == 1) then 2
    else choice 4 (following before)) ≡ draw_for l number k
same_draw zero number before l lost e f = λ t.
    if 0 == 0 && f t == 7 && not (choice 4 (following (e t)) == 1) then 2
    else choice 4 (following (e t))
same_draw (suc k) number before l lost e f =
    let next : after_turns (suc (suc k)) number ≡ following (after_turns (suc k) number) =
    (let more : suc (suc k) ≡ suc k + 1 = omega arith in
    ap (λ m. after_turns m number) more ∙ turns_more (suc k) number) in
    ap (λ b. if b && lost == 7 && not (choice 4 (following before) == 1) then 2
    else choice 4 (following before)) (not_zero k)
    ∙ ap (λ m. choice 4 (following m)) e ∙ ap (choice 4) (sym next)
    ∙ sym (ap (λ b. if b && l.lost == 7 && not (drawn_after number (suc k) == 1) then 2
    else drawn_after number (suc k)) (not_zero k))

same_row : (k number before : ℕ) (l : LossyLink) (lost after : ℕ) → before ≡ after_turns k number
    → lost ≡ (if k == 0 then l.lost else in_a_row l.lost (drawn_after number 0))
    → after ≡ (if k == 0 then in_a_row lost (choice 4 (following before)) else lost)
    → after ≡ in_a_row l.lost (drawn_after number 0)
same_row zero number before l lost after e f g = g
    ∙ (λ t. in_a_row (f t) (choice 4 (following (e t))))
same_row (suc k) number before l lost after e f g =
    g ∙ ap (λ b. if b then in_a_row lost (choice 4 (following before)) else lost) (not_zero k)
    ∙ f ∙ ap (λ b. if b then l.lost else in_a_row l.lost (drawn_after number 0)) (not_zero k)

-- what was drawn is done
pub drawn_done : (k number n0 n1 d : ℕ) (l before mid after : LossyLink)
    → HasBrought number k l n0 before → HasDrawn k n0 before d n1 mid
    → after.sender ≡ mid.sender → after.silent ≡ mid.silent → after.lost ≡ mid.lost
    → HaveCome mid.receiver (flat_map (received_by d) (packet_at mid.sender k)) after.receiver
    → after.kept ≡ mid.kept ++ flat_map (kept_by d) (packet_at mid.sender k)
    → HasBrought number (k + 1) l n1 after
drawn_done k number n0 n1 d l before mid after h g sender silent lost come kept =
    let sends : mid.sender ≡ l.sender = ap (λ (x : LossyLink). x.sender) g.link ∙ h.sender in
    let is : d ≡ draw_for l number k = g.draw ∙ same_draw k number n0 l before.lost h.draws h.lost in
    let f : ℕ → List (Packet Wire) = λ m. flat_map (received_by (draw_for l number m)) (packet_at l.sender m) in
    let f' : ℕ → List (Packet Wire) = λ m. flat_map (kept_by (draw_for l number m)) (packet_at l.sender m) in
    let these : flat_map (received_by d) (packet_at mid.sender k) ≡ f k =
    λ t. flat_map (received_by (is t)) (packet_at (sends t) k) in
    let those : flat_map (kept_by d) (packet_at mid.sender k) ≡ f' k =
    λ t. flat_map (kept_by (is t)) (packet_at (sends t) k) in
    let from : mid.receiver ≡ before.receiver = ap (λ (x : LossyLink). x.receiver) g.link in
    let next : suc k ≡ k + 1 = omega arith in
    let more : l.kept ++ each_by received_by l number (suc k)
    ≡ (l.kept ++ each_by received_by l number k) ++ f k =
    ap (λ u. l.kept ++ u) (flat_next f k)
    ∙ sym (append_assoc l.kept (each_by received_by l number k) (f k)) in
    let row : after.lost ≡ in_a_row l.lost (drawn_after number 0) =
    same_row k number n0 l before.lost after.lost h.draws h.lost
    (lost ∙ ap (λ (x : LossyLink). x.lost) g.link) in
    subst (λ j. HasBrought number j l n1 after) next (record {
      sender = sender ∙ sends;
      come = subst (λ ps. HaveCome l.receiver ps after.receiver) (sym more)
          (come_also (l.kept ++ each_by received_by l number k) (f k) l.receiver before.receiver
          after.receiver h.come (subst (λ r. HaveCome r (f k) after.receiver) from
          (subst (λ ps. HaveCome mid.receiver ps after.receiver) these come)));
      kept = kept ∙ (λ t. (ap (λ (x : LossyLink). x.kept) g.link ∙ h.kept) t ++ those t)
          ∙ sym (flat_next f' k);
      lost = row ∙ sym (ap (λ b. if b then l.lost else in_a_row l.lost (drawn_after number 0)) (not_zero k));
      silent = silent ∙ ap (λ (x : LossyLink). x.silent) g.link ∙ h.silent;
      draws = g.draws ∙ ap following h.draws ∙ sym (turns_more k number)
          ∙ ap (λ m. after_turns m number) (sym next);
    })

pub drawn_lost : (k number n0 n1 d : ℕ) (l before mid : LossyLink) → HasDrawn k n0 before d n1 mid
    → d ≡ 0 → HasBrought number k l n0 before → HasBrought number (k + 1) l n1 mid
drawn_lost k number n0 n1 d l before mid g is h =
    drawn_done k number n0 n1 d l before mid mid h g refl refl refl
    (subst (λ ps. HaveCome mid.receiver ps mid.receiver)
    (sym (ap (λ d. flat_map (received_by d) (packet_at mid.sender k)) is ∙ flat_none (packet_at mid.sender k)))
    refl) (sym (append-nil mid.kept) ∙ ap (λ u. mid.kept ++ u)
    (sym (ap (λ d. flat_map (kept_by d) (packet_at mid.sender k)) is ∙ flat_kept_none (packet_at mid.sender k))))

pub drawn_kept : (k number n0 n1 d : ℕ) (l before mid after : LossyLink)
    → HasDrawn k n0 before d n1 mid → d ≡ 3
    → after ≡ record mid { kept = mid.kept ++ packet_at mid.sender k }
    → HasBrought number k l n0 before → HasBrought number (k + 1) l n1 after
drawn_kept k number n0 n1 d l before mid after g is e h =
    drawn_done k number n0 n1 d l before mid after h g
    (ap (λ (x : LossyLink). x.sender) e) (ap (λ (x : LossyLink). x.silent) e)
    (ap (λ (x : LossyLink). x.lost) e)
    (subst (λ ps. HaveCome mid.receiver ps after.receiver)
    (sym (ap (λ d. flat_map (received_by d) (packet_at mid.sender k)) is
    ∙ flat_received_none (packet_at mid.sender k)))
    (ap (λ (x : LossyLink). x.receiver) e))
    (ap (λ (x : LossyLink). x.kept) e ∙ ap (λ u. mid.kept ++ u)
    (sym (ap (λ d. flat_map (kept_by d) (packet_at mid.sender k)) is ∙ flat_kept_all (packet_at mid.sender k))))

pub drawn_once : (k number n0 n1 d : ℕ) (l before mid after : LossyLink)
    → HasDrawn k n0 before d n1 mid → d ≡ 2 → HasReceived k mid after
    → HasBrought number k l n0 before → HasBrought number (k + 1) l n1 after
drawn_once k number n0 n1 d l before mid after g is r h =
    drawn_done k number n0 n1 d l before mid after h g
    (ap (λ (x : LossyLink). x.sender) r.others) (ap (λ (x : LossyLink). x.silent) r.others)
    (ap (λ (x : LossyLink). x.lost) r.others)
    (subst (λ ps. HaveCome mid.receiver ps after.receiver)
    (sym (λ t. flat_map (received_by (is t)) (r.is t)))
    (after.receiver, r.answer, r.receives, refl))
    (ap (λ (x : LossyLink). x.kept) r.others ∙ sym (append-nil mid.kept) ∙ ap (λ u. mid.kept ++ u)
    (sym (λ t. flat_map (kept_by (is t)) (r.is t))))

pub drawn_twice : (k number n0 n1 d : ℕ) (l before mid one after : LossyLink)
    → HasDrawn k n0 before d n1 mid → d ≡ 1 → HasReceived k mid one → HasReceived k one after
    → HasBrought number k l n0 before → HasBrought number (k + 1) l n1 after
drawn_twice k number n0 n1 d l before mid one after g is r s h =
    let sends : one.sender ≡ mid.sender = ap (λ (x : LossyLink). x.sender) r.others in
    let both : s.packet ∷ [] ≡ r.packet ∷ [] =
    sym s.is ∙ ap (λ x. packet_at x k) sends ∙ r.is in
    let same : s.packet ≡ r.packet = cc in
    drawn_done k number n0 n1 d l before mid after h g
    (ap (λ (x : LossyLink). x.sender) s.others ∙ sends)
    (ap (λ (x : LossyLink). x.silent) s.others ∙ ap (λ (x : LossyLink). x.silent) r.others)
    (ap (λ (x : LossyLink). x.lost) s.others ∙ ap (λ (x : LossyLink). x.lost) r.others)
    (subst (λ ps. HaveCome mid.receiver ps after.receiver)
    (sym (λ t. flat_map (received_by (is t)) (r.is t))) (
      one.receiver,
      r.answer,
      r.receives,
      (
        after.receiver,
        s.answer,
        subst (λ p. Receives one.receiver p s.answer after.receiver) same s.receives,
        refl,
      ),
    ))
    (ap (λ (x : LossyLink). x.kept) s.others ∙ ap (λ (x : LossyLink). x.kept) r.others
    ∙ sym (append-nil mid.kept) ∙ ap (λ u. mid.kept ++ u)
    (sym (λ t. flat_map (kept_by (is t)) (r.is t))))

-- none of the others is left
pub three_of : (k number lost d : ℕ)
    → d ≡ (if k == 0 && lost == 7 && not (choice 4 (following number) == 1) then 2
    else choice 4 (following number)) → choice 4 (following number) < 4
    → d ≢ 0 → d ≢ 1 → d ≢ 2 → d ≡ 3
three_of k number lost d e low a b c =
    by_test (k == 0 && lost == 7 && not (choice 4 (following number) == 1)) d
    (choice 4 (following number)) e low a b c
  where
    by_test : (x : Bool) (d y : ℕ) → d ≡ (if x then 2 else y) → y < 4 → d ≢ 0 → d ≢ 1 → d ≢ 2 → d ≡ 3
    by_test true d y e low a b c = absurd (c e)
    by_test false d y e low a b c = left d (subst (λ z. z < 4) (sym e) low) a b c
      where
        left : (d : ℕ) → d < 4 → d ≢ 0 → d ≢ 1 → d ≢ 2 → d ≡ 3
        left zero low a b c = absurd (a refl)
        left (suc zero) low a b c = absurd (b refl)
        left (suc (suc zero)) low a b c = absurd (c refl)
        left (suc (suc (suc zero))) low a b c = refl
        left (suc (suc (suc (suc d)))) low a b c = absurd (omega arith)

-- 3. The acknowledgement

pub acknowledged : (number n0 n1 drawn : ℕ) (l before after : LossyLink)
    → HasBrought number (packets_drawn l) l n0 before → n1 ≡ following n0
    → drawn ≡ choice 4 (following n0) → after.receiver ≡ before.receiver
    → after.kept ≡ before.kept → after.lost ≡ before.lost
    → after.silent ≡ in_a_row before.silent drawn
    → (is_given before.silent drawn ≡ true → Acknowledges before.sender before.receiver.next after.sender)
    → (is_given before.silent drawn ≡ false → after.sender ≡ before.sender)
    → HasNetworkTurn number l n1 after
acknowledged number n0 n1 drawn l before after h draws is receiver kept lost silent given other =
    let k = packets_drawn l in
    let last : following n0 ≡ after_turns (k + 1) number = ap following h.draws ∙ sym (turns_more k number) in
    let next : k + 1 ≡ suc k = omega arith in
    let same : drawn ≡ drawn_after number k = is ∙ ap (choice 4) last
    ∙ ap (λ m. choice 4 (after_turns m number)) next in
    let told : is_given before.silent drawn ≡ is_given l.silent (drawn_after number k) =
    λ t. is_given (h.silent t) (same t) in
    record {
      come = subst (λ r. HaveCome l.receiver (l.kept ++ each_by received_by l number k) r) (sym receiver) h.come;
      kept = kept ∙ h.kept;
      lost = lost ∙ h.lost;
      given = λ g. subst (λ s. Acknowledges s after.receiver.next after.sender) h.sender
          (subst (λ (r : Receiving Wire). Acknowledges before.sender r.next after.sender) (sym receiver)
          (given (told ∙ g)));
      not_given = λ g. other (told ∙ g) ∙ h.sender;
      silent = silent ∙ (λ t. in_a_row (h.silent t) (same t));
      draws = draws ∙ last;
    }
