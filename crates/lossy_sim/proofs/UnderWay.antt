-- What is under way on a link, event by event.
use Rattle.std.proofs.Common.{◌≡◌, ℕ, zero, suc, ◌+◌, ◌<◌, ◌≤◌, ◌⊎◌, Bool, true, false, ◌==◌, Option, Some, None, List, [], ◌∷◌, ◌++◌, length, map, slice_get, refl, ap, sym, ◌∙◌, subst, inl, inr, ⊎_elim, arith, append_assoc, append-nil}
use Rattle.std.proofs.Math.Nat.{min-le_left}
use Rattle.std.specs.Prelude.{Contains, All, if◌then◌else◌}
use Rattle.std.specs.Option.{option_to_list}
use Rattle.std.specs.List.{flat_map, range_with_len}
use Rattle.std.proofs.lemmas.List.Elements.{All-nil, All-cons, All-head, All-tail, All-append, All-same, All-weaker}
use Rattle.dsm_messages.specs.declared.messages.Wire.{Wire}
use Rattle.lossy_link.specs.Sender.{Sending, Acknowledges, number_offered}
use Rattle.lossy_link.specs.Receiver.{Receiving, Delivers}
use Rattle.lossy_link.specs.Packets.{Receives}
use Rattle.lossy_link.specs.declared.packet.Packet.{Packet}
use Rattle.lossy_link.specs.Runs.{Event, Offer, Make, Receive, Deliver, Acknowledge, Link, IsLossyRun}
use Rattle.lossy_link.specs.Runs as lossy
use Rattle.lossy_sim.specs.Links.{LossyLink, HasNetworkTurn, HaveCome, new_link, with_offered, packet_at, packets_drawn, drawn_after, draw_for, received_by, kept_by, each_by, is_given}
use Rattle.lossy_sim.specs.UnderWay.{Carries}
use Rattle.lossy_sim.proofs.Carrying as any
use Rattle.lossy_sim.proofs.Carrying.{offer_carries, same_carries}

-- 1. Lists

pub le_or_above : (a n : ℕ) → (n ≤ a) ⊎ (a < n)
le_or_above zero zero = inl (omega arith)
le_or_above zero (suc n) = inr (omega arith)
le_or_above (suc a) zero = inl (omega arith)
le_or_above (suc a) (suc n) =
    ⊎_elim (λ (h : n ≤ a). inl (omega arith)) (λ (h : a < n). inr (omega arith)) (le_or_above a n)

in_rest : {X : Type 0} → (x y : X) (xs : List X) → Contains xs y → Contains (x ∷ xs) y
in_rest x y xs (k, lt, e) = (suc k, omega arith, e)

in_front : {X : Type 0} → (x : X) (xs : List X) → Contains (x ∷ xs) x
in_front x xs = (0, omega arith, refl)

-- what is so of each list of an `if` is so of it
either_way : {X : Type 0} → (Q : X → Type 0) (b : Bool) (x y : X) → Q x → Q y → Q (if b then x else y)
either_way Q true x y h k = h
either_way Q false x y h k = k

all_flat : {X A : Type 0} → (P : A → Type 0) (f : X → List A) (xs : List X)
    → All (λ x. All P (f x)) xs → All P (flat_map f xs)
all_flat P f [] h = All-nil P
all_flat P f (x ∷ xs) h = All-append P (f x) (flat_map f xs)
    (All-head (λ y. All P (f y)) x xs h) (all_flat P f xs (All-tail (λ y. All P (f y)) x xs h))

all_below : (P : ℕ → Type 0) (a n : ℕ) → ((m : ℕ) → m < a + n → P m) → All P (range_with_len a n)
all_below P a zero h = All-nil P
all_below P a (suc n) h = All-cons P a (range_with_len (a + 1) n) (h a (omega arith))
    (all_below P (a + 1) n (λ m lt. h m (omega arith)))

-- 2. Events of a link

abbrev seen : Sending Wire → Receiving Wire → List (Packet Wire) → List ℕ → Link Wire
seen s r ps ns = record { sender = s; receiver = r; packets = ps; nexts = ns }

abbrev Goes : Sending Wire → Receiving Wire → List (Packet Wire) → List ℕ → List Wire → Type 0
Goes s r ps ns wires = any.Carries 8 (seen s r ps ns) wires

acknowledged_window : (s : Sending Wire) (n : ℕ) (t : Sending Wire) → Acknowledges s n t
    → t.window ≡ s.window
acknowledged_window s n t h = ⊎_elim
    (λ (old : n ≤ s.acknowledged). ap (λ (u : Sending Wire). u.window) (h.ignores (inl old)))
    (λ (up : s.acknowledged < n). ⊎_elim
    (λ (there : n ≤ number_offered s). ap (λ (u : Sending Wire). u.window) (h.counts up there))
    (λ (far : number_offered s < n). ap (λ (u : Sending Wire). u.window) (h.ignores (inr far)))
    (le_or_above (number_offered s) n)) (le_or_above s.acknowledged n)

abbrev pub window_of : Link Wire → ℕ
window_of l = l.sender.window

pub window_stays : (l : Link Wire) (events : List (Event Wire)) (m : Link Wire) → IsLossyRun l events m
    → window_of m ≡ window_of l
window_stays l [] m e = ap window_of e
window_stays l (Offer item ∷ es) m (k, (s, o, e), more) =
    window_stays k es m more ∙ ap window_of e ∙ ap (λ (u : Sending Wire). u.window) o
window_stays l (Make n ∷ es) m (k, (p, h, e), more) = window_stays k es m more ∙ ap window_of e
window_stays l (Receive p ∷ es) m (k, (a, r, i, h, e), more) =
    window_stays k es m more ∙ ap window_of e
window_stays l (Deliver item ∷ es) m (k, (r, h, e), more) =
    window_stays k es m more ∙ ap window_of e
window_stays l (Acknowledge n ∷ es) m (k, (s, i, h, e), more) =
    window_stays k es m more ∙ ap window_of e ∙ acknowledged_window l.sender n s h

offer_each : (wires : List Wire) (s : Sending Wire) (r : Receiving Wire) (ps : List (Packet Wire))
    (ns : List ℕ) (before : List Wire) → Goes s r ps ns before
    → Goes (record s { items = s.items ++ wires }) r ps ns (before ++ wires)
offer_each [] s r ps ns before c =
    subst (λ u. Goes (record s { items = u }) r ps ns (before ++ [])) (sym (append-nil s.items))
    (subst (λ v. Goes s r ps ns v) (sym (append-nil before)) c)
offer_each (w ∷ ws) s r ps ns before c =
    let more = s.items ++ w ∷ [] in
    let one : Goes (record s { items = more }) r ps ns (before ++ w ∷ []) =
    offer_carries 8 (seen s r ps ns) before w (record s { items = more }) c refl in
    subst (λ u. Goes (record s { items = u }) r ps ns (before ++ w ∷ ws))
    (append_assoc s.items (w ∷ []) ws)
    (subst (λ v. Goes (record s { items = more ++ ws }) r ps ns v)
    (append_assoc before (w ∷ []) ws)
    (offer_each ws (record s { items = more }) r ps ns (before ++ w ∷ []) one))

next_stays : (r : Receiving Wire) (p : Packet Wire) (answer : Bool) (after : Receiving Wire)
    → Receives r p answer after → after.next ≡ r.next
next_stays r p true after h = ap (λ (u : Receiving Wire). u.next) (h.holds refl)
next_stays r p false after h = ap (λ (u : Receiving Wire). u.next) (h.refuses refl)

pub next_of_come : (packets : List (Packet Wire)) (r after : Receiving Wire)
    → HaveCome r packets after → after.next ≡ r.next
next_of_come [] r after e = ap (λ (u : Receiving Wire). u.next) e
next_of_come (p ∷ more) r after (mid, answer, h, rest) =
    next_of_come more mid after rest ∙ next_stays r p answer mid h

come_each : (packets : List (Packet Wire)) (s : Sending Wire) (r after : Receiving Wire)
    (ps : List (Packet Wire)) (ns : List ℕ) (wires : List Wire) → All (λ p. Contains ps p) packets
    → HaveCome r packets after → Goes s r ps ns wires → Goes s after ps ns wires
come_each [] s r after ps ns wires all e c = subst (λ u. Goes s u ps ns wires) (sym e) c
come_each (p ∷ more) s r after ps ns wires all (mid, answer, h, rest) c =
    come_each more s mid after ps ns wires (All-tail (λ q. Contains ps q) p more all) rest
    (same_carries 8 (seen s r ps ns) wires (Receive p) (seen s mid ps ns) c
    (answer, mid, All-head (λ q. Contains ps q) p more all, h, refl) refl refl)

-- 3. The packets of a window are made

record AreMade (s : Sending Wire) (k : ℕ) (old ps : List (Packet Wire)) : Type 0 where
  kept : (p : Packet Wire) → Contains old p → Contains ps p
  made : (m : ℕ) → m < k → All (λ p. Contains ps p) (packet_at s m)

abbrev Made : Sending Wire → Receiving Wire → (k : ℕ) → List (Packet Wire) → List ℕ → List Wire
    → Type 0
Made s r k ps ns wires = (qs : List (Packet Wire)) × Goes s r qs ns wires × AreMade s k ps qs

abbrev numbered : Sending Wire → ℕ → Wire → Packet Wire
numbered s k item = record { number = s.acknowledged + k; item = item }

make_next : (k : ℕ) (s : Sending Wire) (r : Receiving Wire) (ps : List (Packet Wire))
    (ns : List ℕ) (wires : List Wire) → k < s.window → Made s r k ps ns wires
    → (o : Option Wire) → slice_get s.items k ≡ o → Made s r (suc k) ps ns wires
make_next k s r ps ns wires within (qs, c, a) None e =
    let none : packet_at s k ≡ [] =
    ap (λ (o : Option Wire). map (numbered s k) (option_to_list o)) e in (
      qs,
      c,
      record {
        kept = a.kept;
        made = λ m lt. ⊎_elim
            (λ (h : k ≤ m). let same : k ≡ m = omega arith in
            subst (λ i. All (λ p. Contains qs p) (packet_at s i)) same
            (All-same (λ p. Contains qs p) (packet_at s k) [] none (All-nil (λ p. Contains qs p))))
            (λ (h : m < k). a.made m h)
            (le_or_above m k);
      },
    )
make_next k s r ps ns wires within (qs, c, a) (Some item) e =
    let p = numbered s k item in
    let one : packet_at s k ≡ p ∷ [] =
    ap (λ (o : Option Wire). map (numbered s k) (option_to_list o)) e in
    let In : Packet Wire → Type 0 = λ q. Contains (p ∷ qs) q in (
      p ∷ qs,
      same_carries 8 (seen s r qs ns) wires (Make k) (seen s r (p ∷ qs) ns) c
          (p, record { within = within; item = e; number = refl }, refl) refl refl,
      record {
        kept = λ q h. in_rest p q qs (a.kept q h);
        made = λ m lt. ⊎_elim
            (λ (h : k ≤ m). let same : k ≡ m = omega arith in
            subst (λ i. All In (packet_at s i)) same (All-same In (packet_at s k) (p ∷ []) one
            (All-cons In p [] (in_front p qs) (All-nil In))))
            (λ (h : m < k). All-weaker (λ q. Contains qs q) In (λ q i. in_rest p q qs i)
            (packet_at s m) (a.made m h)) (le_or_above m k);
      },
    )

make_each : (k : ℕ) (s : Sending Wire) (r : Receiving Wire) (ps : List (Packet Wire))
    (ns : List ℕ) (wires : List Wire) → k ≤ s.window → Goes s r ps ns wires → Made s r k ps ns wires
make_each zero s r ps ns wires few c = (
  ps,
  c,
  record {
    kept = λ p h. h;
    made = λ m lt. absurd (omega arith);
  },
)
make_each (suc k) s r ps ns wires few c = make_next k s r ps ns wires (omega arith)
    (make_each k s r ps ns wires (omega arith) c) (slice_get s.items k) refl

-- what comes of packets that were made was made
fate_among : (fate : ℕ → Packet Wire → List (Packet Wire)) (l : LossyLink) (number : ℕ)
    (ps qs : List (Packet Wire))
    → ((P : Packet Wire → Type 0) (d : ℕ) (p : Packet Wire) → P p → All P (fate d p))
    → AreMade l.sender 8 ps qs → All (λ p. Contains qs p) (each_by fate l number (packets_drawn l))
fate_among fate l number ps qs each a =
    let In : Packet Wire → Type 0 = λ q. Contains qs q in
    all_flat In (λ m. flat_map (fate (draw_for l number m)) (packet_at l.sender m)) (range_with_len 0 (packets_drawn l))
    (all_below (λ m. All In (flat_map (fate (draw_for l number m)) (packet_at l.sender m))) 0 (packets_drawn l)
    (λ m lt. all_flat In (fate (draw_for l number m)) (packet_at l.sender m)
    (All-weaker In (λ q. All In (fate (draw_for l number m) q))
    (λ q i. each In (draw_for l number m) q i) (packet_at l.sender m) (a.made m (omega (arith, lt, min-le_left 8 (length l.sender.items)))))))

one_of : (P : Packet Wire → Type 0) (p : Packet Wire) → P p → All P (p ∷ [])
one_of P p h = All-cons P p [] h (All-nil P)

all_received : (P : Packet Wire → Type 0) (d : ℕ) (p : Packet Wire) → P p → All P (received_by d p)
all_received P d p h = either_way (All P) (d == 1) (p ∷ p ∷ []) (if d == 2 then p ∷ [] else [])
    (All-cons P p (p ∷ []) h (one_of P p h))
    (either_way (All P) (d == 2) (p ∷ []) [] (one_of P p h) (All-nil P))

all_kept : (P : Packet Wire → Type 0) (d : ℕ) (p : Packet Wire) → P p → All P (kept_by d p)
all_kept P d p h = either_way (All P) (d == 3) (p ∷ []) [] (one_of P p h) (All-nil P)

-- 4. What is under way

pub new_carries : Carries new_link []
new_carries = record {
  events = [];
  packets = [];
  nexts = 0 ∷ [];
  run = refl;
  split = refl;
  kept = All-nil (λ p. Contains [] p);
  next = in_front 0 [];
}

abbrev base : (l : LossyLink) (wires : List Wire) (c : Carries l wires)
    → Goes l.sender l.receiver c.packets c.nexts wires
base l wires c = record { events = c.events; run = c.run; under_way = c.split }

pub offered_carries : (l : LossyLink) (before wires : List Wire) → Carries l before
    → Carries (with_offered l wires) (before ++ wires)
offered_carries l before wires c =
    let d = offer_each wires l.sender l.receiver c.packets c.nexts before (base l before c) in
    record {
      events = d.events;
      packets = c.packets;
      nexts = c.nexts;
      run = d.run;
      split = d.under_way;
      kept = c.kept;
      next = c.next;
    }

pub delivered_carries : (l : LossyLink) (wires : List Wire) (wire : Wire) (r : Receiving Wire)
    → Carries l wires → Delivers l.receiver wire r
    → (rest : List Wire) × (wires ≡ wire ∷ rest) × Carries (record l { receiver = r }) rest
delivered_carries l wires wire r c m =
    let d = any.deliver_carries 8 (seen l.sender l.receiver c.packets c.nexts) wires wire r
    (base l wires c) m in (
      d.0,
      d.1,
      record {
        events = d.2.events;
        packets = c.packets;
        nexts = r.next ∷ c.nexts;
        run = d.2.run;
        split = d.2.under_way;
        kept = c.kept;
        next = in_front r.next c.nexts;
      },
    )

-- a network turn leaves what is under way
pub network_carries : (l after : LossyLink) (wires : List Wire) (number last : ℕ) → Carries l wires
    → HasNetworkTurn number l last after → Carries after wires
network_carries l after wires number last c h =
    let window : l.sender.window ≡ 8 = window_stays (lossy.new_link 8) c.events
    (seen l.sender l.receiver c.packets c.nexts) c.run in
    let made = make_each 8 l.sender l.receiver c.packets c.nexts wires (omega (arith, window))
    (base l wires c) in
    let qs = made.0 in
    let In : Packet Wire → Type 0 = λ p. Contains qs p in
    let all : All In (l.kept ++ each_by received_by l number (packets_drawn l)) =
    All-append In l.kept (each_by received_by l number (packets_drawn l))
    (All-weaker (λ p. Contains c.packets p) In made.2.kept l.kept c.kept)
    (fate_among received_by l number c.packets qs all_received made.2) in
    let come : Goes l.sender after.receiver qs c.nexts wires =
    come_each (l.kept ++ each_by received_by l number (packets_drawn l)) l.sender l.receiver after.receiver qs c.nexts
    wires all h.come made.1 in
    let next : Contains c.nexts after.receiver.next =
    subst (λ n. Contains c.nexts n)
    (sym (next_of_come (l.kept ++ each_by received_by l number (packets_drawn l)) l.receiver after.receiver h.come))
    c.next in
    let drawn = drawn_after number (packets_drawn l) in
    let told : (b : Bool) → is_given l.silent drawn ≡ b → Goes after.sender after.receiver qs c.nexts wires =
    λ b. elim b as (λ b. is_given l.silent drawn ≡ b → Goes after.sender after.receiver qs c.nexts wires) [
      | true ↦ λ e. same_carries 8 (seen l.sender after.receiver qs c.nexts) wires
          (Acknowledge after.receiver.next) (seen after.sender after.receiver qs c.nexts) come
          (after.sender, next, h.given e, refl) refl refl
      | false ↦ λ e. subst (λ s. Goes s after.receiver qs c.nexts wires) (sym (h.not_given e)) come
    ] in
    let d = told (is_given l.silent drawn) refl in
    record {
      events = d.events;
      packets = qs;
      nexts = c.nexts;
      run = d.run;
      split = d.under_way;
      kept = All-same In after.kept (each_by kept_by l number (packets_drawn l)) h.kept
          (fate_among kept_by l number c.packets qs all_kept made.2);
      next = next;
    }
