-- The next message of a link comes within so many network turns.
use Rattle.std.proofs.Common.{◌≡◌, ◌≢◌, ℕ, zero, suc, ◌+◌, ◌-◌, ◌^◌, ◌<◌, ◌≤◌, ◌⊎◌, ◌==◌, ◌&&◌, ◌||◌, not, Bool, true, false, Option, Some, None, List, [], ◌∷◌, ◌++◌, length, map, slice_get, get_or, set, refl, ap, sym, ◌∙◌, subst, inl, inr, ⊎_elim, arith, length-append, length-set, ne_eqb, ◌/◌}
use Rattle.std.specs.Prelude.{Contains, if◌then◌else◌, is_some, min}
use Rattle.std.specs.Option.{option_to_list}
use Rattle.std.specs.List.{flat_map, range_with_len}
use Rattle.std.proofs.Math.Nat.{min-le_left, min-eq_left, min-eq_right}
use Rattle.std.proofs.lemmas.Nat.{mod_below}
use Rattle.random_order.specs.Orders.{after_turns}
use Rattle.dsm_messages.specs.declared.messages.Wire.{Wire}
use Rattle.lossy_link.specs.Sender.{Sending, Acknowledges, number_offered}
use Rattle.lossy_link.specs.Receiver.{Receiving, IsWanted}
use Rattle.lossy_link.specs.Packets.{Receives}
use Rattle.lossy_link.specs.declared.packet.Packet.{Packet}
use Rattle.lossy_link.specs.Runs as lossy
use Rattle.lossy_link.specs.Runs.{offered, delivered}
use Rattle.lossy_link.proofs.Prefix as ends
use Rattle.lossy_link.proofs.Prefix.{every_run, counts}
use Rattle.lossy_sim.specs.Links.{LossyLink, HasNetworkTurn, HaveCome, packet_at, packets_drawn, drawn_after, draw_for, received_by, kept_by, each_by, in_a_row, is_given}
use Rattle.lossy_sim.specs.UnderWay.{Carries}
use Rattle.lossy_sim.specs.WithLoss.{has_next}
use Rattle.lossy_sim.proofs.UnderWay.{le_or_above, window_stays, next_of_come}

-- 1. What is received is held

in_cons : {X : Type 0} → (x y : X) (xs : List X) → Contains (x ∷ xs) y → (x ≡ y) ⊎ Contains xs y
in_cons x y xs (zero, h, e) = inl e
in_cons x y xs (suc k, h, e) = inr (k, omega arith, e)

in_left : {X : Type 0} → (xs ys : List X) (x : X) → Contains xs x → Contains (xs ++ ys) x
in_left [] ys x (k, h, e) = absurd (omega arith)
in_left (y ∷ xs) ys x (zero, h, e) = (0, omega arith, e)
in_left (y ∷ xs) ys x (suc k, h, e) =
    let rest = in_left xs ys x (k, omega arith, e) in
    (suc rest.0, omega (arith, rest.1), rest.2)

in_right : {X : Type 0} → (xs ys : List X) (x : X) → Contains ys x → Contains (xs ++ ys) x
in_right [] ys x h = h
in_right (y ∷ xs) ys x h =
    let rest = in_right xs ys x h in
    (suc rest.0, omega (arith, rest.1), rest.2)

in_one : {X : Type 0} → (x : X) (xs : List X) → Contains (x ∷ xs) x
in_one x xs = (0, omega arith, refl)

-- the first place of the window holds an item
abbrev Holds : Receiving Wire → Type 0
Holds r = is_some (get_or r.places 0 None) ≡ true

first_place : (r : Receiving Wire) → has_next r ≡ is_some (get_or r.places 0 None)
first_place r = let none : r.next - r.next ≡ 0 = omega arith in
    ap (λ i. is_some (get_or r.places i None)) none

still_set : (places : List (Option Wire)) (j k : ℕ) (item : Wire)
    → is_some (get_or places k None) ≡ true → is_some (get_or (set places j (Some item)) k None) ≡ true
still_set [] j k item h = h
still_set (x ∷ xs) zero zero item h = refl
still_set (x ∷ xs) zero (suc k) item h = h
still_set (x ∷ xs) (suc j) zero item h = h
still_set (x ∷ xs) (suc j) (suc k) item h = still_set xs j k item h

now_set : (places : List (Option Wire)) (item : Wire) → 1 ≤ length places
    → is_some (get_or (set places 0 (Some item)) 0 None) ≡ true
now_set [] item h = absurd (omega arith)
now_set (x ∷ xs) item h = refl

one_keeps : (r : Receiving Wire) (p : Packet Wire) (answer : Bool) (after : Receiving Wire)
    → Receives r p answer after → Holds r → Holds after
one_keeps r p true after h holds = subst Holds (sym (h.holds refl))
    (still_set r.places (p.number - r.next) 0 p.item holds)
one_keeps r p false after h holds = subst Holds (sym (h.refuses refl)) holds

one_length : (r : Receiving Wire) (p : Packet Wire) (answer : Bool) (after : Receiving Wire)
    → Receives r p answer after → length after.places ≡ length r.places
one_length r p true after h = ap (λ (u : Receiving Wire). length u.places) (h.holds refl)
    ∙ length-set r.places (p.number - r.next) (Some p.item)
one_length r p false after h = ap (λ (u : Receiving Wire). length u.places) (h.refuses refl)

one_next : (r : Receiving Wire) (p : Packet Wire) (answer : Bool) (after : Receiving Wire)
    → Receives r p answer after → after.next ≡ r.next
one_next r p true after h = ap (λ (u : Receiving Wire). u.next) (h.holds refl)
one_next r p false after h = ap (λ (u : Receiving Wire). u.next) (h.refuses refl)

one_brings : (r : Receiving Wire) (p : Packet Wire) (answer : Bool) (after : Receiving Wire)
    → Receives r p answer after → p.number ≡ r.next → p.number < 2 ^ 63 → 1 ≤ length r.places
    → Holds after
one_brings r p answer after h is small some =
    let place : p.number - r.next ≡ 0 = omega (arith, is) in
    let P : Option Wire → Type 0 = λ o. get_or r.places 0 None ≡ o → Holds after in
    elim (get_or r.places 0 None) as P [
      | None ↦ λ e. (let wanted : IsWanted r p.number = record {
        counted = small;
        ahead = omega (arith, is);
        within = omega (arith, is);
        new = ap (λ i. get_or r.places i None) place ∙ e;
      } in
          subst Holds (sym (h.holds (h.wanted.1 wanted)))
          (subst (λ i. is_some (get_or (set r.places i (Some p.item)) 0 None) ≡ true) (sym place)
          (now_set r.places p.item some)))
      | Some item ↦ λ e. one_keeps r p answer after h (ap is_some e)
    ] refl

come_keeps : (packets : List (Packet Wire)) (r after : Receiving Wire) → HaveCome r packets after
    → Holds r → Holds after
come_keeps [] r after e holds = subst Holds (sym e) holds
come_keeps (p ∷ more) r after (mid, answer, h, rest) holds =
    come_keeps more mid after rest (one_keeps r p answer mid h holds)

come_brings : (packets : List (Packet Wire)) (r after : Receiving Wire) (p : Packet Wire)
    → HaveCome r packets after → Contains packets p → p.number ≡ r.next → p.number < 2 ^ 63
    → 1 ≤ length r.places → Holds after
come_brings [] r after p e there is small some = absurd (omega (arith, there.1))
come_brings (q ∷ more) r after p (mid, answer, h, rest) there is small some = ⊎_elim
    (λ (e : q ≡ p). come_keeps more mid after rest
    (one_brings r q answer mid h (ap (λ (u : Packet Wire). u.number) e ∙ is)
    (subst (λ (u : Packet Wire). u.number < 2 ^ 63) (sym e) small) some))
    (λ (g : Contains more p). come_brings more mid after p rest g
    (is ∙ sym (one_next r q answer mid h)) small
    (subst (λ n. 1 ≤ n) (sym (one_length r q answer mid h)) some)) (in_cons q p more there)

-- 2. How near the next message is

pub record IsCounted (l : LossyLink) : Type 0 where
  pub lost : l.lost ≤ 7
  pub silent : l.silent ≤ 7

-- the packet of the next message was kept back
abbrev pub IsKept : LossyLink → Type 0
IsKept l = (p : Packet Wire) × Contains l.kept p × (p.number ≡ l.receiver.next)

-- Within so many network turns it comes: it is held; or it was kept back; or it is packet 0, which
-- may be lost until seven draws were 0; or the acknowledgement that makes it packet 0 may be.
abbrev pub Near : LossyLink → ℕ → Type 0
Near l m = (has_next l.receiver ≡ true) ⊎ ((IsKept l × (1 ≤ m))
    ⊎ (((l.sender.acknowledged ≡ l.receiver.next) × (9 ≤ m + l.lost)) ⊎ (18 ≤ m + l.silent)))

pub near_more : (l : LossyLink) (m : ℕ) → Near l m → Near l (suc m)
near_more l m = ⊎_elim (λ h. inl h) (⊎_elim
    (λ (h : IsKept l × (1 ≤ m)). inr (inl (h.0, omega (arith, h.1))))
    (⊎_elim
    (λ (h : (l.sender.acknowledged ≡ l.receiver.next) × (9 ≤ m + l.lost)).
    inr (inr (inl (h.0, omega (arith, h.1)))))
    (λ (h : 18 ≤ m + l.silent). inr (inr (inr (omega (arith, h)))))))

-- every link is so near
pub near_any : (l : LossyLink) → Near l 18
near_any l = inr (inr (inr (omega arith)))

-- one that isn't held needs a turn
pub near_needs : (l : LossyLink) (m : ℕ) → IsCounted l → Near l m → has_next l.receiver ≡ false → 1 ≤ m
near_needs l m few near none = ⊎_elim
    (λ (h : has_next l.receiver ≡ true). absurd (let bad : true ≡ false = sym h ∙ none in cc))
    (⊎_elim (λ (h : IsKept l × (1 ≤ m)). h.1)
    (⊎_elim
    (λ (h : (l.sender.acknowledged ≡ l.receiver.next) × (9 ≤ m + l.lost)).
    omega (arith, h.1, few.lost))
    (λ (h : 18 ≤ m + l.silent). omega (arith, h, few.silent))))
    near

row_few : (row drawn : ℕ) → in_a_row row drawn ≤ 7
row_few row drawn = by_test (drawn == 0)
  where
    by_test : (b : Bool) → (if b then min 7 (row + 1) else 0) ≤ 7
    by_test true = min-le_left 7 (row + 1)
    by_test false = omega arith

pub counted_turn : (number : ℕ) (l : LossyLink) (last : ℕ) (after : LossyLink) → IsCounted l
    → HasNetworkTurn number l last after → IsCounted after
counted_turn number l last after few h = record {
  lost = subst (λ n. n ≤ 7) (sym h.lost) (by_test (packets_drawn l == 0));
  silent = subst (λ n. n ≤ 7) (sym h.silent) (row_few l.silent (drawn_after number (packets_drawn l)));
}
  where
    by_test : (b : Bool) → (if b then l.lost else in_a_row l.lost (drawn_after number 0)) ≤ 7
    by_test true = few.lost
    by_test false = row_few l.lost (drawn_after number 0)

-- 3. A network turn brings it nearer

first_item : (xs : List Wire) → 1 ≤ length xs → (x : Wire) × (slice_get xs 0 ≡ Some x)
first_item [] h = absurd (omega arith)
first_item (x ∷ xs) h = (x, refl)

front_of : (f : ℕ → List (Packet Wire)) (k : ℕ) (p : Packet Wire) → 1 ≤ k → Contains (f 0) p
    → Contains (flat_map f (range_with_len 0 k)) p
front_of f zero p h there = absurd (omega arith)
front_of f (suc k) p h there = in_left (f 0) (flat_map f (range_with_len 1 k)) p there

some_drawn : (l : LossyLink) → 1 ≤ length l.sender.items → 1 ≤ packets_drawn l
some_drawn l h = let len = length l.sender.items in ⊎_elim
    (λ (few : len ≤ 8). omega (arith, min-eq_right {n = len} {m = 8} few, h))
    (λ (many : 8 < len). let low : 8 ≤ len = omega arith in omega (arith, min-eq_left {n = 8} {m = len} low))
    (le_or_above 8 len)

-- what becomes of packet 0 becomes of a packet of the window
first_fate : (fate : ℕ → Packet Wire → List (Packet Wire)) (l : LossyLink) (number : ℕ) (item : Wire)
    (p : Packet Wire) → slice_get l.sender.items 0 ≡ Some item → 1 ≤ packets_drawn l
    → Contains (fate (draw_for l number 0) (record { number = l.sender.acknowledged + 0; item = item })) p
    → Contains (each_by fate l number (packets_drawn l)) p
first_fate fate l number item p is some there =
    let first : Packet Wire = record { number = l.sender.acknowledged + 0; item = item } in
    let one : packet_at l.sender 0 ≡ first ∷ [] =
    ap (λ (o : Option Wire). map (λ (x : Wire). record { number = l.sender.acknowledged + 0; item = x })
    (option_to_list o)) is in
    front_of (λ m. flat_map (fate (draw_for l number m)) (packet_at l.sender m)) (packets_drawn l) p some
    (subst (λ xs. Contains (flat_map (fate (draw_for l number 0)) xs) p) (sym one)
    (in_left (fate (draw_for l number 0) first) [] p there))

fate_of : (d : ℕ) → d < 4 → (d ≡ 1) ⊎ ((d ≡ 2) ⊎ ((d ≡ 3) ⊎ (d ≡ 0)))
fate_of zero h = inr (inr (inr refl))
fate_of (suc zero) h = inl refl
fate_of (suc (suc zero)) h = inr (inl refl)
fate_of (suc (suc (suc zero))) h = inr (inr (inl refl))
fate_of (suc (suc (suc (suc d)))) h = absurd (omega arith)

two_or : (b : Bool) (x : ℕ) → x < 4 → (if b then 2 else x) < 4
two_or true x h = omega arith
two_or false x h = h

at_most_seven : (n : ℕ) → n ≤ 7 → min 7 n ≡ n
at_most_seven n h = min-eq_right {n = n} {m = 7} h

zero_of : (b : Bool) (x : ℕ) → (if b then 2 else x) ≡ 0 → (b ≡ false) × (x ≡ 0)
zero_of true x e = absurd (cc)
zero_of false x e = (refl, e)

draw_below : (l : LossyLink) (number : ℕ) → draw_for l number 0 < 4
draw_below l number = two_or (0 == 0 && l.lost == 7 && not (drawn_after number 0 == 1)) (drawn_after number 0)
    (mod_below (after_turns 1 number / 2 ^ 16) 4 (omega arith))

-- where packet 0 is lost, seven draws for it weren't 0, and one more is
lost_more : (l : LossyLink) (number : ℕ) → IsCounted l → draw_for l number 0 ≡ 0
    → in_a_row l.lost (drawn_after number 0) ≡ l.lost + 1
lost_more l number few e =
    let drawn = drawn_after number 0 in
    let b = 0 == 0 && l.lost == 7 && not (drawn == 1) in
    let z = zero_of b drawn e in
    let below : l.lost < 7 = ⊎_elim
    (λ (h : 7 ≤ l.lost). let is : l.lost ≡ 7 = omega (arith, few.lost) in
    let forced : b ≡ true = λ t. 0 == 0 && is t == 7 && not (z.1 t == 1) in
    absurd (let bad : true ≡ false = sym forced ∙ z.0 in cc))
    (λ (h : l.lost < 7). h)
    (le_or_above l.lost 7) in
    ap (in_a_row l.lost) z.1 ∙ at_most_seven (l.lost + 1) (omega (arith, below))

not_given_is : (b c : Bool) → (b || not c) ≡ false → (b ≡ false) × (c ≡ true)
not_given_is true c e = absurd (cc)
not_given_is false true e = (refl, refl)
not_given_is false false e = absurd (cc)

silent_more : (silent drawn : ℕ) → silent ≤ 7 → is_given silent drawn ≡ false
    → in_a_row silent drawn ≡ silent + 1
silent_more silent drawn few e =
    let z = not_given_is (silent == 7) (drawn == 0) e in
    let below : silent < 7 = ⊎_elim
    (λ (h : 7 ≤ silent). let is : silent ≡ 7 = omega (arith, few) in
    absurd (let bad : true ≡ false = sym (ap (λ n. n == 7) is) ∙ z.0 in cc))
    (λ (h : silent < 7). h)
    (le_or_above silent 7) in
    ap (λ b. if b then min 7 (silent + 1) else 0) z.1 ∙ at_most_seven (silent + 1) (omega (arith, below))

-- what is so of a link that carries something
record IsOpen (l : LossyLink) : Type 0 where
  places : 1 ≤ length l.receiver.places
  behind : l.sender.acknowledged ≤ l.receiver.next
  more : l.receiver.next < number_offered l.sender

opens : (l : LossyLink) (wires : List Wire) → Carries l wires → wires ≢ [] → IsOpen l
opens l wires c some =
    let link : lossy.Link Wire =
    record { sender = l.sender; receiver = l.receiver; packets = c.packets; nexts = c.nexts } in
    let g = every_run 8 c.events link c.run in
    let window : l.sender.window ≡ 8 = window_stays (lossy.new_link 8) c.events link c.run in
    let long : 1 ≤ length wires = at_least wires some in
    record {
      places = omega (arith, window, g.windows);
      behind = g.acknowledged;
      more = omega (
        arith,
        counts link (offered c.events) (delivered c.events) g,
        ap length c.split,
        length-append (delivered c.events) wires,
        g.next,
        long,
      );
    }
  where
    at_least : (xs : List Wire) → xs ≢ [] → 1 ≤ length xs
    at_least [] h = absurd (h refl)
    at_least (x ∷ xs) h = omega arith

-- the acknowledgement is given: packet 0 is the next
acknowledged_next : (s : Sending Wire) (next : ℕ) (t : Sending Wire) → s.acknowledged ≤ next
    → next ≤ number_offered s → Acknowledges s next t → t.acknowledged ≡ next
acknowledged_next s next t low there a = ⊎_elim
    (λ (old : next ≤ s.acknowledged). ap (λ (u : Sending Wire). u.acknowledged) (a.ignores (inl old))
    ∙ (let e : s.acknowledged ≡ next = omega arith in e))
    (λ (up : s.acknowledged < next). ap (λ (u : Sending Wire). u.acknowledged) (a.counts up there))
    (le_or_above s.acknowledged next)

module _ (number : ℕ) (l : LossyLink) (last : ℕ) (after : LossyLink) (h : HasNetworkTurn number l last after)
    (o : IsOpen l) (few : IsCounted l) (small : l.receiver.next < 2 ^ 63) where
  abbrev all_come : List (Packet Wire)
  all_come = l.kept ++ each_by received_by l number (packets_drawn l)

  same_next : after.receiver.next ≡ l.receiver.next
  same_next = next_of_come all_come l.receiver after.receiver h.come

  is_next : Holds after.receiver → has_next after.receiver ≡ true
  is_next holds = first_place after.receiver ∙ holds

  arrives : (p : Packet Wire) → Contains all_come p → p.number ≡ l.receiver.next
      → has_next after.receiver ≡ true
  arrives p there is = is_next (come_brings all_come l.receiver after.receiver p h.come there is
      (omega (arith, is, small)) o.places)

  -- what is acknowledged is what the receiver waits for, also where nothing is given
  stays_next : l.sender.acknowledged ≡ l.receiver.next → after.sender.acknowledged ≡ after.receiver.next
  stays_next e =
      let b = is_given l.silent (drawn_after number (packets_drawn l)) in
      let told : (b : Bool) → is_given l.silent (drawn_after number (packets_drawn l)) ≡ b
      → after.sender.acknowledged ≡ after.receiver.next =
      λ b. elim b as (λ b. is_given l.silent (drawn_after number (packets_drawn l)) ≡ b
      → after.sender.acknowledged ≡ after.receiver.next) [
        | true ↦ λ g. acknowledged_next l.sender after.receiver.next after.sender
            (omega (arith, e, same_next)) (omega (arith, same_next, o.more)) (h.given g)
        | false ↦ λ g. ap (λ (u : Sending Wire). u.acknowledged) (h.not_given g) ∙ e ∙ sym same_next
      ] in
      told b refl

  first_comes : (m : ℕ) → l.sender.acknowledged ≡ l.receiver.next → 9 ≤ suc m + l.lost → Near after m
  first_comes m e room =
      let many : 1 ≤ length l.sender.items = omega (arith, e, o.more) in
      let item = first_item l.sender.items many in
      let some = some_drawn l many in
      let p : Packet Wire = record { number = l.sender.acknowledged + 0; item = item.0 } in
      let is : p.number ≡ l.receiver.next = omega (arith, e) in
      let d = draw_for l number 0 in
      let comes : Contains (received_by d p) p → Near after m =
      λ there. inl (arrives p (in_right l.kept (each_by received_by l number (packets_drawn l)) p
      (first_fate received_by l number item.0 p item.1 some there)) is) in
      ⊎_elim
      (λ (k : d ≡ 1). comes (subst (λ d. Contains (received_by d p) p) (sym k) (in_one p (p ∷ []))))
      (⊎_elim
      (λ (k : d ≡ 2). comes (subst (λ d. Contains (received_by d p) p) (sym k) (in_one p [])))
      (⊎_elim
      (λ (k : d ≡ 3). inr (inl (
        (
          p,
          subst (λ ps. Contains ps p) (sym h.kept)
              (first_fate kept_by l number item.0 p item.1 some
              (subst (λ d. Contains (kept_by d p) p) (sym k) (in_one p []))),
          is ∙ sym same_next,
        ),
        omega (arith, room, few.lost),
      )))
      (λ (k : d ≡ 0).
      let drawn_some : (packets_drawn l == 0) ≡ false = ne_eqb (packets_drawn l) 0
      (λ (z : packets_drawn l ≡ 0). absurd (omega (arith, some, z))) in
      let more : after.lost ≡ l.lost + 1 = h.lost
      ∙ ap (λ b. if b then l.lost else in_a_row l.lost (drawn_after number 0)) drawn_some
      ∙ lost_more l number few k in
      inr (inr (inl (stays_next e, omega (arith, more, room))))))) (fate_of d (draw_below l number))

  told_comes : (m : ℕ) → 18 ≤ suc m + l.silent → Near after m
  told_comes m room =
      let drawn = drawn_after number (packets_drawn l) in
      let told : (b : Bool) → is_given l.silent drawn ≡ b → Near after m =
      λ b. elim b as (λ b. is_given l.silent drawn ≡ b → Near after m) [
        | true ↦ λ g. inr (inr (inl (
          acknowledged_next l.sender after.receiver.next after.sender
              (omega (arith, o.behind, same_next)) (omega (arith, same_next, o.more)) (h.given g),
          omega (arith, room, few.silent),
        )))
        | false ↦ λ g. (let more : after.silent ≡ l.silent + 1 =
            h.silent ∙ silent_more l.silent drawn few.silent g in
            inr (inr (inr (omega (arith, more, room)))))
      ] in
      told (is_given l.silent drawn) refl

  nearer : (m : ℕ) → Near l (suc m) → Near after m
  nearer m near = ⊎_elim
      (λ (k : has_next l.receiver ≡ true). inl (is_next
      (come_keeps all_come l.receiver after.receiver h.come (sym (first_place l.receiver) ∙ k))))
      (⊎_elim
      (λ (k : IsKept l × (1 ≤ suc m)). inl (arrives k.0.0
      (in_left l.kept (each_by received_by l number (packets_drawn l)) k.0.0 k.0.1) k.0.2)) (⊎_elim
      (λ (k : (l.sender.acknowledged ≡ l.receiver.next) × (9 ≤ suc m + l.lost)).
      first_comes m k.0 k.1)
      (λ (k : 18 ≤ suc m + l.silent). told_comes m k)))
      near

pub near_turn : (number : ℕ) (l : LossyLink) (last : ℕ) (after : LossyLink) (wires : List Wire) (m : ℕ)
    → Carries l wires → wires ≢ [] → IsCounted l → l.receiver.next < 2 ^ 63
    → HasNetworkTurn number l last after → Near l (suc m) → Near after m
near_turn number l last after wires m c some few small h near =
    nearer number l last after h (opens l wires c some) few small m near

pub next_of_turn : (number : ℕ) (l : LossyLink) (last : ℕ) (after : LossyLink)
    → HasNetworkTurn number l last after → after.receiver.next ≡ l.receiver.next
next_of_turn number l last after h =
    next_of_come (l.kept ++ each_by received_by l number (packets_drawn l)) l.receiver after.receiver h.come
