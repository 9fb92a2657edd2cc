-- The picks that are seen in a trace are those of its events.
use Rattle.std.proofs.Common.{◌≡◌, ℕ, ◌<◌, List, [], ◌∷◌, ◌++◌, Option, refl, sym, ap, ◌∙◌, subst, append-nil}
use Rattle.std.proofs.lemmas.Grind.{flat_map-append}
use Rattle.std.specs.Prelude.{◌&&◌, not}
use Rattle.std.specs.Option.{option_map, option_to_list}
use Rattle.rv32_step.specs.OneMemory.{State, Pick, opening, run}
use Rattle.templates.specs.declared.plans.PlanEntry.{PlanEntry}
use Rattle.home_directory.specs.dsm_messages.declared.messages.Wire.{Wire}
use Rattle.home_directory.specs.dsm_messages.Headers.{header_of}
use Rattle.run_trace.specs.node_model.miss_handlers.Rows.{row_of}
use Rattle.run_trace.specs.node_model.Node.{Work, Node}
use Rattle.run_trace.specs.node_model.Turns.{Turn, holding, after_message, take_turn, is_ended}
use Rattle.run_trace.specs.node_model.Core.{Core, Event, Exec, Take, May, IsCoreRun, event_step, opening_core, after, take_first}
use Rattle.run_trace.specs.replay.Told.{AreMadeAs}
use Rattle.run_trace.specs.replay.run_order.OwnRun.{Stamped, run_of}
use Rattle.run_trace.specs.replay.rewriting_law.CoreRun.{order_of, picks_at, picks_of, picks_of_take}
use Rattle.run_trace.specs.replay.rewriting_law.Interleaving.{SameReservations, original_by_node, original_after}
use Rattle.run_trace.specs.Trace.{trace_from}
use Rattle.run_trace.specs.Traced.{What, first_traced, traced_at}
use Rattle.record_picks.specs.Seen.{picks_seen, all_seen}
use Rattle.record_picks.proofs.Lists.{run_both, after_more, run_more, picks_more}
use Rattle.record_picks.proofs.Takes.{named, seen, break_made, same_turn, changed_there}

-- after each core run from the start the nodes have the reservations of the run on one memory
abbrev pub AllReserve : Work → List PlanEntry → Type 0
AllReserve work plan = (events : List Event) → IsCoreRun work (opening_core work) events
    → SameReservations work (after work (opening_core work) events) (original_after work plan events)

module _ (work : Work) (plan : List PlanEntry) (law : AllReserve work plan) where
  abbrev core : List Event → Core
  core es = after work (opening_core work) es

  -- the reservations after one event more
  reserved_more : (es : List Event) (e : Event) → IsCoreRun work (opening_core work) es → May work (core es) e → (p : ℕ) → p < work.layout.nodes → ((event_step work (core es) e).nodes p).local.reservation ≡ (run (original_by_node work) (original_after work plan es) (picks_at work plan (core es) e)).reservations p
  reserved_more es e is may p low =
      let first : State = opening (original_by_node work) in
      ap (λ (c : Core). (c.nodes p).local.reservation) (sym (after_more work (opening_core work) es e))
      ∙ law (es ++ e ∷ []) (run_more work (opening_core work) es e is may) p low
      ∙ ap (λ (ks : List Pick). (run (original_by_node work) first ks).reservations p) (picks_more work plan (opening_core work) es e)
      ∙ ap (λ (s : State). s.reservations p) (run_both (original_by_node work) first (picks_of work plan (opening_core work) es) (picks_at work plan (core es) e))

  -- the reservation of a node after it has taken a message
  taken : (c : Core) (i j : ℕ) (wire : Wire) (rest : List Wire) → c.list j i ≡ wire ∷ rest → ((event_step work c (Take i j)).nodes i).local.reservation ≡ (after_message work (c.nodes i) j wire).node.local.reservation
  taken c i j wire rest first =
      let n : Node = c.nodes i in
      let t : Turn = after_message work n j wire in
      subst (λ (ws : List Wire). ((take_first work c i j ws).nodes i).local.reservation ≡ t.node.local.reservation) (sym first)
      (ap (λ (m : Node). m.local.reservation) (changed_there c.nodes i (take_turn work n j wire).node
      ∙ same_turn work.layout.nodes t (is_ended t.node.phase && not (is_ended n.phase))))

  -- the picks that are seen of taking the first of these messages
  of_wires : (es : List Event) (i j stamp : ℕ) (wires : List Wire) → IsCoreRun work (opening_core work) es → May work (core es) (Take i j) → (core es).list j i ≡ wires → all_seen (option_to_list (option_map (λ (w : What). record { stamp = stamp; node = i; what = w }) (first_traced work ((core es).nodes i) j wires))) ≡ picks_of_take work (core es) i j wires
  of_wires es i j stamp [] is may first = refl
  of_wires es i j stamp (wire ∷ rest) is may first =
      let n : Node = (core es).nodes i in
      let after_it : Option ℕ = (after_message work n j wire).node.local.reservation in
      let requester : Option ℕ = (header_of wire.message).requester in
      let later : after_it ≡ (run (original_by_node work) (original_after work plan es) (picks_of_take work (core es) i j (wire ∷ rest))).reservations i =
      subst (λ (ws : List Wire). after_it ≡ (run (original_by_node work) (original_after work plan es) (picks_of_take work (core es) i j ws)).reservations i) first
      (sym (taken (core es) i j wire rest first) ∙ reserved_more es (Take i j) is may i may.0) in
      append-nil (seen i n.local.reservation after_it requester)
      ∙ break_made (original_by_node work) (original_after work plan es) work.layout i (order_of work.layout n j wire.message) n.local.reservation
      after_it requester (law es is i may.0) later
      (λ x names. named wire.message (row_of work.layout n.me (holding work.layout n) j wire.message) x names)

  -- the picks that are seen of an event
  of_event : (es : List Event) (stamp : ℕ) (e : Event) → IsCoreRun work (opening_core work) es → May work (core es) e → all_seen (option_to_list (traced_at work plan (core es) (record { stamp = stamp; event = e }))) ≡ picks_at work plan (core es) e
  of_event es stamp (Exec i) is may = append-nil (picks_at work plan (core es) (Exec i))
  of_event es stamp (Take i j) is may = of_wires es i j stamp ((core es).list j i) is may refl

  -- and of all that come behind some
  of_events : (es : List Event) (c : Core) (xs : List Stamped) → c ≡ core es → IsCoreRun work (opening_core work) es → AreMadeAs work c xs → all_seen (trace_from work plan c xs) ≡ picks_of work plan c (run_of xs)
  of_events es c [] here is made = refl
  of_events es c (x ∷ xs) here is made =
      let may : May work (core es) x.event = subst (λ (d : Core). May work d x.event) here made.0.may in
      let next : event_step work c x.event ≡ core (es ++ x.event ∷ []) = ap (λ (d : Core). event_step work d x.event) here ∙ sym (after_more work (opening_core work) es x.event) in
      let one : all_seen (option_to_list (traced_at work plan c x)) ≡ picks_at work plan c x.event =
      subst (λ (d : Core). all_seen (option_to_list (traced_at work plan d x)) ≡ picks_at work plan d x.event) (sym here) (of_event es x.stamp x.event is may) in
      let more = of_events (es ++ x.event ∷ []) (event_step work c x.event) xs next (run_more work (opening_core work) es x.event is may) made.1 in
      flat_map-append picks_seen (option_to_list (traced_at work plan c x)) (trace_from work plan (event_step work c x.event) xs)
      ∙ ap (λ ks. ks ++ all_seen (trace_from work plan (event_step work c x.event) xs)) one
      ∙ ap (λ ks. picks_at work plan c x.event ++ ks) more

  -- the picks of a trace from the start
  pub of_trace : (xs : List Stamped) → AreMadeAs work (opening_core work) xs → all_seen (trace_from work plan (opening_core work) xs) ≡ picks_of work plan (opening_core work) (run_of xs)
  of_trace xs made = of_events [] (opening_core work) xs refl tt made
