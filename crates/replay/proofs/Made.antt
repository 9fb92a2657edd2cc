-- Events that are made as they are told of.
use Rattle.std.proofs.Common.{◌≡◌, ◌≢◌, ℕ, ◌+◌, List, [], ◌∷◌, ◌++◌, map, Option, Some, None, sym, refl, ap, ap₂, ◌∙◌, subst, eq-eqb, ne_eqb}
use Rattle.dsm_core.specs.dsm_messages.declared.messages.Wire.{Wire}
use Rattle.run_order.specs.node_model.Node.{Work}
use Rattle.run_order.specs.node_model.Core.{Core, Event, Exec, Take, May, take_first, event_step, opening_core, IsCoreRun, after}
use Rattle.run_order.specs.OwnRun.{Stamped, StandsForOwnRun, events_of, stamp_in, maker, node_of, run_of}
use Rattle.run_order.specs.Sorted.{AreSorted, AreMadeBelow, made_by}
use Rattle.run_order.proofs.History.{LocalEvent, stamped, event_by, Run}
use Rattle.run_order.proofs.Moving.{Moves, grows, run_did, run_made, word_stamp}
use Rattle.run_order.proofs.Lists.{events_by}
use Rattle.run_order.proofs.Theorem.{run_tells}
use Rattle.dsm_core.proofs.CoreRuns.{alike_same}
use Rattle.replay.specs.Told.{Told, stamp_told, maker_told, what_told, events_told, IsMadeAs, AreMadeAs}
use Rattle.replay.proofs.Journals.{what_sorted, what_below}

-- 1. Lists

pub what_append : (xs ys : List Told)
    → map what_told (xs ++ ys) ≡ map what_told xs ++ map what_told ys
what_append [] ys = refl
what_append (x ∷ xs) ys = ap (λ l. x.what ∷ l) (what_append xs ys)

pub after_more : (work : Work) (c : Core) (xs ys : List Stamped)
    → after work c (run_of (xs ++ ys)) ≡ after work (after work c (run_of xs)) (run_of ys)
after_more work c [] ys = refl
after_more work c (x ∷ xs) ys = after_more work (event_step work c x.event) xs ys

pub made_append : (work : Work) (c : Core) (xs ys : List Stamped) → AreMadeAs work c xs
    → AreMadeAs work (after work c (run_of xs)) ys → AreMadeAs work c (xs ++ ys)
made_append work c [] ys a b = b
made_append work c (x ∷ xs) ys a b = (a.0, made_append work (event_step work c x.event) xs ys a.1 b)

pub made_behind : (work : Work) (c : Core) (xs ys : List Stamped) → AreMadeAs work c (xs ++ ys)
    → AreMadeAs work (after work c (run_of xs)) ys
made_behind work c [] ys a = a
made_behind work c (x ∷ xs) ys a = made_behind work (event_step work c x.event) xs ys a.1

pub made_run : (work : Work) (c : Core) (xs : List Stamped) → AreMadeAs work c xs
    → IsCoreRun work c (run_of xs)
made_run work c [] a = tt
made_run work c (x ∷ xs) a = (a.0.may, made_run work (event_step work c x.event) xs a.1)

-- 2. One event

pub word_at : (work : Work) (c : Core) (i : ℕ)
    → ((event_step work c (Exec i)).nodes i).stamp ≡ (c.nodes i).stamp + 1
word_at work c i = rw (eq-eqb i i refl) (word_stamp work (c.nodes i))

taken_apart : (work : Work) (c : Core) (i j k : ℕ) (ws : List Wire) → k ≢ i
    → (take_first work c i j ws).nodes k ≡ c.nodes k
taken_apart work c i j k [] other = refl
taken_apart work c i j k (w ∷ ws) other = rw (ne_eqb k i other) refl

pub nodes_apart : (work : Work) (c : Core) (e : Event) (k : ℕ) → k ≢ node_of e
    → (event_step work c e).nodes k ≡ c.nodes k
nodes_apart work c (Exec i) k other = rw (ne_eqb k i other) refl
nodes_apart work c (Take i j) k other = taken_apart work c i j k (c.list j i) other

-- 3. A run tells of its events

by_node : (i : ℕ) (o : Option (ℕ × Wire)) → node_of (event_by i o) ≡ i
by_node i None = refl
by_node i (Some p) = refl

-- one local_event of a run
record IsOne (work : Work) (c : Core) (d : LocalEvent) (u : Core) : Type 0 where
  may : May work c (stamped d).event
  leads : event_step work c (stamped d).event ≡ u
  stamp : (u.nodes (maker (stamped d))).stamp ≡ d.stamp

one_local_event : (work : Work) (c u : Core) (d : LocalEvent) (ds : List LocalEvent) (t : Core)
    → (r : Run (Moves work) c (d ∷ ds) t) → u ≡ r.0 → IsOne work c d u
one_local_event work c u d ds t r is =
    let one = run_made work (d ∷ []) c r.0 (r.0, r.1, refl) in record {
      may = one.run.0;
      leads = one.leads ∙ sym is;
      stamp = ap (λ k. (u.nodes k).stamp) (by_node d.node d.took)
          ∙ ap (λ (x : Core). (x.nodes d.node).stamp) is
          ∙ (grows work (c.nodes d.node) d (r.0.nodes d.node) r.1.0).1;
    }

-- what was made as it is told of are the history
pub deeds_are : (work : Work) (ds : List LocalEvent) (xs : List Stamped) (c t : Core)
    → Run (Moves work) c ds t → run_of (map stamped ds) ≡ run_of xs → AreMadeAs work c xs
    → map stamped ds ≡ xs
deeds_are work [] [] c t r e a = refl
deeds_are work [] (x ∷ xs) c t r e a = absurd cc
deeds_are work (d ∷ ds) [] c t r e a = absurd cc
deeds_are work (d ∷ ds) (x ∷ xs) c t r e a =
    let one = one_local_event work c r.0 d ds t r refl in
    let event : (stamped d).event ≡ x.event = cc in
    let tails : run_of (map stamped ds) ≡ run_of xs = cc in
    let leads : event_step work c x.event ≡ r.0 =
    ap (λ z. event_step work c z) (sym event) ∙ one.leads in
    let stamp : d.stamp ≡ x.stamp =
    sym one.stamp ∙ ap (λ z. (r.0.nodes (node_of z)).stamp) event
    ∙ ap (λ (u : Core). (u.nodes (maker x)).stamp) (sym leads) ∙ a.0.stamp in
    let first : stamped d ≡ x =
    ap₂ (λ s z. record { stamp = s; event = z }) stamp event in
    ap₂ (λ z zs. z ∷ zs) first (deeds_are work ds xs r.0 t r.2 tails
    (subst (λ (u : Core). AreMadeAs work u xs) leads a.1))

pub deeds_made : (work : Work) (ds : List LocalEvent) (c t : Core) → Run (Moves work) c ds t
    → AreMadeAs work c (map stamped ds)
deeds_made work [] c t r = tt
deeds_made work (d ∷ ds) c t r =
    let one = one_local_event work c r.0 d ds t r refl in
    let here : IsMadeAs work c (stamped d) = record {
      may = one.may;
      stamp = ap (λ (u : Core). (u.nodes (maker (stamped d))).stamp) one.leads ∙ one.stamp;
    } in (
      here,
      subst (λ (u : Core). AreMadeAs work u (map stamped ds)) (sym one.leads)
          (deeds_made work ds r.0 t r.2),
    )

-- the nodes tell of the events that were made
pub made_tells : (work : Work) (xs : List Stamped) → AreMadeAs work (opening_core work) xs
    → (i : ℕ) → made_by stamp_in maker i xs
    ≡ events_of i ((after work (opening_core work) (run_of xs)).nodes i)
made_tells work xs a i =
    let c = after work (opening_core work) (run_of xs) in
    let did = run_did work (run_of xs) (opening_core work)
    (made_run work (opening_core work) xs a) in
    let are : map stamped did.0 ≡ xs =
    deeds_are work did.0 xs (opening_core work) c did.2 did.1 a in
    ap (λ l. made_by stamp_in maker i l) (sym are) ∙ events_by i did.0
    ∙ sym (run_tells work did.0 c did.2 i).told

-- events that were made as they are told of, by (stamp, node), are the own run of the core after them
pub made_stands : (work : Work) (told : List Told) → AreSorted stamp_told maker_told told
    → AreMadeBelow stamp_told maker_told work.layout.nodes told
    → AreMadeAs work (opening_core work) (map what_told told)
    → StandsForOwnRun work (after work (opening_core work) (events_told told)) (map what_told told)
made_stands work told s u a = record {
  are_events = record {
    sorted = what_sorted told s;
    below = what_below work.layout.nodes told u;
    each = λ i bi. made_tells work (map what_told told) a i;
  };
  is_run = made_run work (opening_core work) (map what_told told) a;
  ends = alike_same work.layout.nodes (after work (opening_core work) (events_told told));
}
