-- What is delivered is what was offered, from the first item on.
use Rattle.std.proofs.Common.{◌≡◌, ℕ, zero, suc, ◌+◌, ◌-◌, ◌^◌, ◌<◌, ◌≤◌, ◌⊎◌, Bool, true, false, Option, Some, None, List, [], ◌∷◌, ◌++◌, length, get_or, take, drop, slice_get, refl, ap, sym, ◌∙◌, subst, inl, inr, ⊎_elim, arith, append_assoc, length-append, length-set, append-nil, length-take-le, take-append-drop}
use Rattle.std.specs.Prelude.{Contains}
use Rattle.std.proofs.lemmas.List.{length-replicate}
use Rattle.lossy_link.specs.Sender.{Sending, Offers, Acknowledges, number_offered}
use Rattle.lossy_link.specs.Receiver.{Receiving, Delivers, IsWanted, held}
use Rattle.lossy_link.specs.Packets.{Makes, Receives}
use Rattle.lossy_link.specs.declared.packet.Packet.{Packet}
use Rattle.lossy_link.specs.Runs.{Event, Offer, Make, Receive, Deliver, Acknowledge, Link, new_link, IsLossyRun, offered, delivered, IsPrefix}
use Rattle.lossy_link.proofs.Places.{none_held, moved_on, filled, length_moved}

-- 1. Lists

le_or_above : (a n : ℕ) → (n ≤ a) ⊎ (a < n)
le_or_above zero zero = inl (omega arith)
le_or_above zero (suc n) = inr (omega arith)
le_or_above (suc a) zero = inl (omega arith)
le_or_above (suc a) (suc n) =
    ⊎_elim (λ (h : n ≤ a). inl (omega arith)) (λ (h : a < n). inr (omega arith)) (le_or_above a n)

in_cons : {X : Type 0} → (x y : X) (xs : List X) → Contains (x ∷ xs) y → (x ≡ y) ⊎ Contains xs y
in_cons x y xs (zero, h, e) = inl e
in_cons x y xs (suc k, h, e) = inr (k, omega arith, e)

module _ {A : Type 0} where
  at_front : (xs zs : List A) (k : ℕ) (x : A) → slice_get xs k ≡ Some x → slice_get (xs ++ zs) k ≡ Some x
  at_front [] zs k x e = absurd (cc)
  at_front (y ∷ ys) zs zero x e = e
  at_front (y ∷ ys) zs (suc k) x e = at_front ys zs k x e

  behind : (xs zs : List A) (k n : ℕ) → n ≡ length xs + k → slice_get (xs ++ zs) n ≡ slice_get zs k
  behind [] zs k n e = let same : n ≡ k = omega arith in ap (slice_get zs) same
  behind (x ∷ xs) zs k zero e = absurd (omega arith)
  behind (x ∷ xs) zs k (suc n) e = behind xs zs k n (omega arith)

  -- a list with an element at its front is the element and the rest
  first_is : (xs : List A) (x : A) → slice_get xs 0 ≡ Some x → (rest : List A) × (xs ≡ x ∷ rest)
  first_is [] x e = absurd (cc)
  first_is (y ∷ ys) x e = (ys, cc)

-- 2. Links

module _ {A : Type 0} where
  -- what is so of a link, of what was offered so far and of what was delivered
  pub record Goes (l : Link A) (sent given : List A) : Type 0 where
    pub windows : l.sender.window ≡ length l.receiver.places
    -- the receiver counts what was delivered, the beginning of what was offered
    pub next : l.receiver.next ≡ length given
    pub prefix : IsPrefix given sent
    -- the sender has the items behind those that are acknowledged, and these were delivered
    pub pending : (front : List A) × (length front ≡ l.sender.acknowledged) × (sent ≡ front ++ l.sender.items)
    pub acknowledged : l.sender.acknowledged ≤ l.receiver.next
    -- each packet, and each place, has the item of its number
    pub packets : (p : Packet A) → Contains l.packets p → slice_get sent p.number ≡ Some p.item
    pub places : (k : ℕ) (item : A) → get_or l.receiver.places k None ≡ Some item
        → slice_get sent (l.receiver.next + k) ≡ Some item
    -- no acknowledgement is ahead of what was delivered
    pub nexts : (n : ℕ) → Contains l.nexts n → n ≤ l.receiver.next

  -- the packet that a sender makes has the item of its number
  made_of : (l : Link A) (sent given : List A) (k : ℕ) (p : Packet A) → Goes l sent given → Makes l.sender k p
      → slice_get sent p.number ≡ Some p.item
  made_of l sent given k p h m =
      rw h.pending.2 (behind h.pending.0 l.sender.items k p.number (omega (arith, m.number, h.pending.1)) ∙ m.item)

  begins : (window : ℕ) → Goes (new_link window) [] []
  begins window = record {
    windows = sym (length-replicate window None);
    next = refl;
    prefix = ([], refl);
    pending = ([], refl, refl);
    acknowledged = omega arith;
    packets = λ p h. absurd (omega (arith, h.1));
    places = λ k item e. absurd (none_held window k item e);
    nexts = λ n h. ⊎_elim (λ (e : 0 ≡ n). omega arith) (λ (g : Contains [] n). absurd (omega (arith, g.1)))
        (in_cons 0 n [] h);
  }

  offers : (l : Link A) (sent given : List A) (item : A) (s : Sending A) → Goes l sent given
      → Offers l.sender item s → Goes (record l { sender = s }) (sent ++ item ∷ []) given
  offers l sent given item s h e =
      let more = item ∷ [] in
      subst (λ t. Goes (record l { sender = t }) (sent ++ more) given) (sym e) (record {
        windows = h.windows;
        next = h.next;
        prefix = (h.prefix.0 ++ more, ap (λ u. u ++ more) h.prefix.1 ∙ append_assoc given h.prefix.0 more);
        pending = (
          h.pending.0,
          h.pending.1,
          ap (λ u. u ++ more) h.pending.2 ∙ append_assoc h.pending.0 l.sender.items more,
        );
        acknowledged = h.acknowledged;
        packets = λ p k. at_front sent more _ _ (h.packets p k);
        places = λ k it is. at_front sent more _ _ (h.places k it is);
        nexts = h.nexts;
      })

  makes : (l : Link A) (sent given : List A) (k : ℕ) (p : Packet A) → Goes l sent given → Makes l.sender k p
      → Goes (record l { packets = p ∷ l.packets }) sent given
  makes l sent given k p h m = record {
    windows = h.windows;
    next = h.next;
    prefix = h.prefix;
    pending = h.pending;
    acknowledged = h.acknowledged;
    packets = λ q i. ⊎_elim
        (λ (e : p ≡ q). subst (λ r. slice_get sent r.number ≡ Some r.item) e (made_of l sent given k p h m))
        (λ (g : Contains l.packets q). h.packets q g) (in_cons p q l.packets i);
    places = h.places;
    nexts = h.nexts;
  }

  receives : (l : Link A) (sent given : List A) (p : Packet A) (answer : Bool) (r : Receiving A)
      → Goes l sent given → Contains l.packets p → Receives l.receiver p answer r
      → Goes (record l { receiver = r }) sent given
  receives l sent given p false r h i m =
      subst (λ t. Goes (record l { receiver = t }) sent given) (sym (m.refuses refl)) h
  receives l sent given p true r h i m =
      let want = m.wanted.0 refl in
      let place = p.number - l.receiver.next in
      subst (λ t. Goes (record l { receiver = t }) sent given) (sym (m.holds refl)) (record {
        windows = h.windows ∙ sym (length-set l.receiver.places place (Some p.item));
        next = h.next;
        prefix = h.prefix;
        pending = h.pending;
        acknowledged = h.acknowledged;
        packets = h.packets;
        places = λ k item is. ⊎_elim
            (λ (e : (k ≡ place) × (Some p.item ≡ Some item)).
            let at : p.number ≡ l.receiver.next + k = omega (arith, e.0, want.ahead) in
            subst (λ n. slice_get sent n ≡ Some item) at (h.packets p i ∙ e.1))
            (λ e. h.places k item e) (filled l.receiver.places place k (Some p.item) item is);
        nexts = h.nexts;
      })

  delivers : (l : Link A) (sent given : List A) (item : A) (r : Receiving A) → Goes l sent given
      → Delivers l.receiver item r
      → Goes (record l { receiver = r; nexts = r.next ∷ l.nexts }) sent (given ++ item ∷ [])
  delivers l sent given item r h m =
      let n = l.receiver.next in
      let more = item ∷ [] in
      let first : get_or l.receiver.places 0 None ≡ Some item =
      subst (λ i. get_or l.receiver.places i None ≡ Some item) (omega arith) m.next_held in
      let here : slice_get sent n ≡ Some item =
      subst (λ i. slice_get sent i ≡ Some item) (omega arith) (h.places 0 item first) in
      let rest = first_is h.prefix.0 item (sym (behind given h.prefix.0 0 n (omega (arith, h.next)))
      ∙ subst (λ u. slice_get u n ≡ Some item) h.prefix.1 here) in
      subst (λ t. Goes (record l { receiver = t; nexts = t.next ∷ l.nexts }) sent (given ++ more))
      (sym m.moves_on) (record {
        windows = h.windows ∙ sym (length_moved l.receiver.places item first);
        next = omega (arith, h.next, length-append given more);
        prefix = (
          rest.0,
          h.prefix.1 ∙ ap (λ u. given ++ u) rest.1 ∙ sym (append_assoc given more rest.0),
        );
        pending = h.pending;
        acknowledged = omega (arith, h.acknowledged);
        packets = h.packets;
        places = λ k it is.
            subst (λ i. slice_get sent i ≡ Some it) (omega arith)
            (h.places (suc k) it (sym (moved_on l.receiver.places k) ∙ is));
        nexts = λ q i. ⊎_elim (λ (e : n + 1 ≡ q). omega arith)
            (λ (g : Contains l.nexts q). omega (arith, h.nexts q g)) (in_cons (n + 1) q l.nexts i);
      })

  acknowledges : (l : Link A) (sent given : List A) (next : ℕ) (s : Sending A) → Goes l sent given
      → Contains l.nexts next → Acknowledges l.sender next s → Goes (record l { sender = s }) sent given
  acknowledges l sent given next s h i m =
      let a = l.sender.acknowledged in
      let items = l.sender.items in
      let front = h.pending.0 in
      let reached : next ≤ l.receiver.next = h.nexts next i in
      let there : next ≤ a + length items =
      omega (
        arith,
        ap length h.prefix.1,
        ap length h.pending.2,
        length-append given h.prefix.0,
        length-append front items,
        h.next,
        h.pending.1,
      ) in
      ⊎_elim
      (λ (old : next ≤ a).
      subst (λ t. Goes (record l { sender = t }) sent given) (sym (m.ignores (inl old))) h)
      (λ (up : a < next).
      let newly = take (next - a) items in
      subst (λ t. Goes (record l { sender = t }) sent given) (sym (m.counts up there)) (record {
        windows = h.windows;
        next = h.next;
        prefix = h.prefix;
        pending = (
          front ++ newly,
          omega (arith, length-append front newly, length-take-le (next - a) items (omega arith), h.pending.1),
          h.pending.2 ∙ ap (λ u. front ++ u) (sym (take-append-drop (next - a) items))
              ∙ sym (append_assoc front newly (drop (next - a) items)),
        );
        acknowledged = reached;
        packets = h.packets;
        places = h.places;
        nexts = h.nexts;
      }))
      (le_or_above a next)

  goes : (l : Link A) (sent given : List A) (events : List (Event A)) (after : Link A) → Goes l sent given
      → IsLossyRun l events after → Goes after (sent ++ offered events) (given ++ delivered events)
  goes l sent given [] after h e =
      subst (λ t. Goes t (sent ++ []) (given ++ [])) (sym e) (rw (append-nil sent, append-nil given) h)
  goes l sent given (Offer item ∷ es) after h (then, (s, m, e), more) =
      rw (← append_assoc sent (item ∷ []) (offered es)) (goes then (sent ++ item ∷ []) given es after
      (subst (λ t. Goes t (sent ++ item ∷ []) given) (sym e) (offers l sent given item s h m)) more)
  goes l sent given (Make k ∷ es) after h (then, (p, m, e), more) =
      goes then sent given es after
      (subst (λ t. Goes t sent given) (sym e) (makes l sent given k p h m)) more
  goes l sent given (Receive p ∷ es) after h (then, (answer, r, i, m, e), more) =
      goes then sent given es after
      (subst (λ t. Goes t sent given) (sym e) (receives l sent given p answer r h i m)) more
  goes l sent given (Deliver item ∷ es) after h (then, (r, m, e), more) =
      rw (← append_assoc given (item ∷ []) (delivered es)) (goes then sent (given ++ item ∷ []) es after
      (subst (λ t. Goes t sent (given ++ item ∷ [])) (sym e) (delivers l sent given item r h m)) more)
  goes l sent given (Acknowledge next ∷ es) after h (then, (s, i, m, e), more) =
      goes then sent given es after
      (subst (λ t. Goes t sent given) (sym e) (acknowledges l sent given next s h i m)) more

  -- 3. What the law says

  pub every_run : (window : ℕ) (events : List (Event A)) (after : Link A)
      → IsLossyRun (new_link window) events after → Goes after (offered events) (delivered events)
  every_run window events after run = goes (new_link window) [] [] events after (begins window) run

  pub counts : (l : Link A) (sent given : List A) → Goes l sent given → number_offered l.sender ≡ length sent
  counts l sent given h =
      omega (arith, ap length h.pending.2, length-append h.pending.0 l.sender.items, h.pending.1)

  -- a packet that the sender makes, of an item that wasn't delivered, is wanted or held
  pub comes : (l : Link A) (sent given : List A) (k : ℕ) (p : Packet A) → Goes l sent given → Makes l.sender k p
      → p.number < 2 ^ 63 → l.receiver.next ≤ p.number
      → IsWanted l.receiver p.number ⊎ (held l.receiver p.number ≡ Some p.item)
  comes l sent given k p h m small ahead =
      let place = p.number - l.receiver.next in
      let at : l.receiver.next + place ≡ p.number = omega arith in
      let P : Option A → Type 0 =
      λ o. held l.receiver p.number ≡ o → IsWanted l.receiver p.number ⊎ (held l.receiver p.number ≡ Some p.item) in
      elim (held l.receiver p.number) as P [
        | None ↦ λ e. inl (record {
          counted = small;
          ahead = ahead;
          within = omega (arith, m.within, m.number, h.acknowledged, h.windows);
          new = e;
        })
        | Some item ↦ λ e. inr (e
            ∙ sym (subst (λ n. slice_get sent n ≡ Some item) at (h.places place item e))
            ∙ made_of l sent given k p h m)
      ] refl
