-- What a link has under way: what was offered and not delivered.
use Rattle.std.proofs.Common.{◌≡◌, ℕ, ◌+◌, ◌-◌, List, [], ◌∷◌, ◌++◌, refl, ap, sym, ◌∙◌, subst, append_assoc}
use Rattle.std.proofs.lemmas.List.{append-nil, append_cancel_left}
use Rattle.lossy_link.specs.Sender.{Sending, Offers}
use Rattle.lossy_link.specs.Receiver.{Receiving, Delivers}
use Rattle.lossy_link.specs.Runs.{Event, Offer, Make, Receive, Deliver, Acknowledge, Link, new_link, Leads, IsLossyRun, offered, delivered}
use Rattle.lossy_link.proofs.Prefix.{every_run}

module _ {A : Type 0} where
  -- one event more behind a run
  pub run_then : (l : Link A) (events : List (Event A)) (m : Link A) (event : Event A) (after : Link A)
      → IsLossyRun l events m → Leads m event after → IsLossyRun l (events ++ event ∷ []) after
  run_then l [] m event after e leads = (after, subst (λ k. Leads k event after) e leads, refl)
  run_then l (x ∷ xs) m event after (then, first, more) leads =
      (then, first, run_then then xs m event after more leads)

  pub offered-append : (xs ys : List (Event A)) → offered (xs ++ ys) ≡ offered xs ++ offered ys
  offered-append [] ys = refl
  offered-append (Offer item ∷ xs) ys = ap (λ u. item ∷ u) (offered-append xs ys)
  offered-append (Make k ∷ xs) ys = offered-append xs ys
  offered-append (Receive p ∷ xs) ys = offered-append xs ys
  offered-append (Deliver item ∷ xs) ys = offered-append xs ys
  offered-append (Acknowledge next ∷ xs) ys = offered-append xs ys

  pub delivered-append : (xs ys : List (Event A)) → delivered (xs ++ ys) ≡ delivered xs ++ delivered ys
  delivered-append [] ys = refl
  delivered-append (Offer item ∷ xs) ys = delivered-append xs ys
  delivered-append (Make k ∷ xs) ys = delivered-append xs ys
  delivered-append (Receive p ∷ xs) ys = delivered-append xs ys
  delivered-append (Deliver item ∷ xs) ys = ap (λ u. item ∷ u) (delivered-append xs ys)
  delivered-append (Acknowledge next ∷ xs) ys = delivered-append xs ys

  -- a run of a new link leads to this one, and these items were offered and not delivered
  pub record Carries (window : ℕ) (l : Link A) (pending : List A) : Type 0 where
    pub events : List (Event A)
    pub run : IsLossyRun (new_link window) events l
    pub under_way : offered events ≡ delivered events ++ pending

  pub new_carries : (window : ℕ) → Carries window (new_link window) []
  new_carries window = record { events = []; run = refl; under_way = refl }

  pub offer_carries : (window : ℕ) (l : Link A) (pending : List A) (item : A) (s : Sending A)
      → Carries window l pending → Offers l.sender item s
      → Carries window (record l { sender = s }) (pending ++ item ∷ [])
  offer_carries window l pending item s c o = record {
    events = c.events ++ Offer item ∷ [];
    run = run_then (new_link window) c.events l (Offer item) (record l { sender = s }) c.run (s, o, refl);
    under_way = offered-append c.events (Offer item ∷ []) ∙ ap (λ u. u ++ item ∷ []) c.under_way
        ∙ append_assoc (delivered c.events) pending (item ∷ [])
        ∙ ap (λ u. u ++ (pending ++ item ∷ [])) (sym (delivered-append c.events (Offer item ∷ []) ∙ append-nil (delivered c.events)));
  }

  -- an event that neither offers nor delivers leaves what is under way
  pub same_carries : (window : ℕ) (l : Link A) (pending : List A) (event : Event A) (after : Link A)
      → Carries window l pending → Leads l event after → offered (event ∷ []) ≡ []
      → delivered (event ∷ []) ≡ [] → Carries window after pending
  same_carries window l pending event after c leads o d = record {
    events = c.events ++ event ∷ [];
    run = run_then (new_link window) c.events l event after c.run leads;
    under_way = offered-append c.events (event ∷ []) ∙ ap (λ u. offered c.events ++ u) o
        ∙ append-nil (offered c.events) ∙ c.under_way
        ∙ ap (λ u. u ++ pending) (sym (delivered-append c.events (event ∷ [])
        ∙ ap (λ u. delivered c.events ++ u) d ∙ append-nil (delivered c.events)));
  }

  -- what is delivered is the first item under way
  pub deliver_carries : (window : ℕ) (l : Link A) (pending : List A) (item : A) (r : Receiving A)
      → Carries window l pending → Delivers l.receiver item r
      → (rest : List A) × (pending ≡ item ∷ rest)
      × Carries window (record l { receiver = r; nexts = r.next ∷ l.nexts }) rest
  deliver_carries window l pending item r c m =
      let after = record l { receiver = r; nexts = r.next ∷ l.nexts } in
      let event : Event A = Deliver item in
      let events = c.events ++ event ∷ [] in
      let run : IsLossyRun (new_link window) events after =
      run_then (new_link window) c.events l event after c.run (r, m, refl) in
      let h = every_run window events after run in
      let same : offered events ≡ offered c.events =
      offered-append c.events (event ∷ []) ∙ append-nil (offered c.events) in
      let split : delivered c.events ++ pending ≡ delivered c.events ++ item ∷ h.prefix.0 =
      sym c.under_way ∙ sym same ∙ h.prefix.1
      ∙ ap (λ u. u ++ h.prefix.0) (delivered-append c.events (event ∷ []))
      ∙ append_assoc (delivered c.events) (item ∷ []) h.prefix.0 in (
        h.prefix.0,
        append_cancel_left (delivered c.events) pending (item ∷ h.prefix.0) split,
        record { events = events; run = run; under_way = h.prefix.1 },
      )
