-- What a record tells of, and what it doesn't.
use Rattle.std.proofs.Common.{◌≡◌, ◌≢◌, ℕ, zero, suc, ◌+◌, ◌-◌, ◌<◌, ◌≤◌, Bool, true, false, cond, eqb, ◌&&◌, ◌⊎◌, List, [], ◌∷◌, ◌++◌, map, length, sym, refl, ap, ◌∙◌, subst, append-nil, arith, eq-eqb, ne_eqb, ⊎_elim, inl, inr}
use Rattle.std.proofs.lemmas.Bool.{cases_eq}
use Rattle.dsm_core.specs.dsm_messages.declared.messages.Message.TheVariants.{Bye}
use Rattle.dsm_core.specs.dsm_messages.declared.messages.Post.{Post}
use Rattle.dsm_core.specs.dsm_messages.declared.messages.Wire.{Wire}
use Rattle.dsm_core.specs.home_directory.Home.{post}
use Rattle.run_order.specs.node_model.declared.Entry.{Entry as JournalEntry}
use Rattle.run_order.specs.node_model.declared.Standing.TheVariants.{Over}
use Rattle.run_order.specs.node_model.declared.Standing.TheVariants as standing
use Rattle.run_order.specs.node_model.Node.{Work, Node, Phase, Running, Resumed, Waiting, Ended, standing_in, standing_of, is_at_poll, word_step}
use Rattle.run_order.specs.node_model.Turns.{Turn, words_before, byes_to, is_ended, with_byes, after_wants, word_turn, take_turn, journaled}
use Rattle.run_order.specs.node_model.Core.{Core, Event, Exec, Take, May, IsOver, wires_to, take_first, event_step, opening_core, IsCoreRun, after}
use Rattle.run_order.specs.Sorted.{AreMadeBelow}
use Rattle.run_order.specs.Takes.{AreTakesWithin}
use Rattle.run_order.specs.OwnRun.{Stamped, StandsForOwnRun, AreEventsOf, events_in, events_of, words_from, last_take, stamp_in, maker, run_of}
use Rattle.run_order.proofs.Kept.{Kept, kept, word_kept, take_kept}
use Rattle.run_order.proofs.Unique.{one_sorted}
use Rattle.run_order.proofs.Theorem.{own_history}
use Rattle.run_record.specs.declared.Record.{Record}
use Rattle.replay.specs.declared.refused.ReplayRule.{ReplayRule}
use Rattle.replay.specs.declared.refused.ReplayRule.TheVariants.{NoMessage, NotThere, Stamp}
use Rattle.replay.specs.Told.{Told, told_in, stamp_told, maker_told, what_told, entries_of, AreToldBy, events_told, IsMadeAs, AreMadeAs}
use Rattle.replay.specs.Refusals.{Breaks, IsFirstBroken, IsUnfinished}
use Rattle.replay.specs.Replay.{TellsWholeRun, HasJournalsOf}
use Rattle.replay.proofs.Sorting.{merged}
use Rattle.replay.proofs.Journals.{AreBehind, behind_within, rising_in, what_in, what_made, what_sorted, what_below}
use Rattle.replay.proofs.Made.{what_append, made_behind, deeds_made}

-- 1. One list of events

pub one_told : (r : Record) (told other : List Told) → AreToldBy r told → AreToldBy r other
    → told ≡ other
one_told r told other a b =
    one_sorted stamp_told maker_told r.nodes (λ i. told_in i 1 0 (entries_of r i)) told other a b

-- 2. What tells of a whole run isn't refused

no_break : (work : Work) (t : Core) (s : ℕ) (e : Event) (rule : ReplayRule)
    → IsMadeAs work t (record { stamp = s; event = e })
    → Breaks work t (record { stamp = s; event = e }) rule → ⊥
no_break work t s (Exec i) NoMessage m b = b
no_break work t s (Take i j) NoMessage m b = m.may.3 b
no_break work t s (Exec i) NotThere m b =
    let e : true ≡ false = sym m.may.1 ∙ b in cc
no_break work t s (Take i j) NotThere m b =
    let e : true ≡ false = sym m.may.2 ∙ b in cc
no_break work t s e Stamp m b = b m.stamp

pub not_broken : (work : Work) (r : Record) (told : List Told) (rule : ReplayRule)
    (node entry : ℕ) → TellsWholeRun work r told → IsFirstBroken work r rule node entry → ⊥
not_broken work r told rule node entry h b =
    let o = opening_core work in
    let same : told ≡ b.before ++ b.event ∷ b.behind = one_told r told _ h.are_told b.are_told in
    let made : AreMadeAs work o (map what_told b.before ++ map what_told (b.event ∷ b.behind)) =
    subst (λ l. AreMadeAs work o l)
    (ap (λ l. map what_told l) same ∙ what_append b.before (b.event ∷ b.behind)) h.made in
    let here = made_behind work o (map what_told b.before) (map what_told (b.event ∷ b.behind)) made in
    no_break work (after work o (events_told b.before)) b.event.what.stamp b.event.what.event rule
    here.0 b.breaks

pub not_unfinished : (work : Work) (r : Record) (told : List Told) (rule : ReplayRule)
    (node entry : ℕ) → TellsWholeRun work r told → IsUnfinished work r rule node entry → ⊥
not_unfinished work r told rule node entry h u =
    let same : told ≡ u.told = one_told r told u.told h.are_told u.are_told in
    u.not_over (subst (λ l. standing_of work
    ((after work (opening_core work) (events_told l)).nodes node) ≡ Over) same (h.over node u.is_node))

-- 3. A node that is over has executed no word behind its last take

words_snoc : (journal : List JournalEntry) (e : JournalEntry)
    → words_before (journal ++ e ∷ []) ≡ words_before journal + e.words
words_snoc [] e = omega arith
words_snoc (x ∷ xs) e = let h = words_snoc xs e in omega arith

-- a node that has ended behind its last take has told itself so
pub record HasTold (work : Work) (i : ℕ) (c : Core) : Type 0 where
  pub before : words_before (c.nodes i).journal ≤ (c.nodes i).executed
  pub ended : is_ended (c.nodes i).phase ≡ true
      → ((c.nodes i).executed ≡ words_before (c.nodes i).journal) ⊎ (c.list i i ≢ [])

wires_append : (stamp k : ℕ) (ps qs : List Post)
    → wires_to stamp k (ps ++ qs) ≡ wires_to stamp k ps ++ wires_to stamp k qs
wires_append stamp k [] qs = refl
wires_append stamp k (p ∷ ps) qs =
    ap (λ l. cond (eqb p.to k) (record { stamp = stamp; message = p.message } ∷ l) l)
    (wires_append stamp k ps qs) ∙ both (eqb p.to k)
  where
    both : (b : Bool) → cond b (record { stamp = stamp; message = p.message }
        ∷ (wires_to stamp k ps ++ wires_to stamp k qs)) (wires_to stamp k ps ++ wires_to stamp k qs)
        ≡ cond b (record { stamp = stamp; message = p.message } ∷ wires_to stamp k ps)
        (wires_to stamp k ps) ++ wires_to stamp k qs
    both true = refl
    both false = refl

front_some : (xs ys : List Wire) → xs ≢ [] → xs ++ ys ≢ []
front_some [] ys h e = h refl
front_some (x ∷ xs) ys h e = absurd cc

back_some : (xs ys : List Wire) → ys ≢ [] → xs ++ ys ≢ []
back_some [] ys h e = h e
back_some (x ∷ xs) ys h e = absurd cc

bye_comes : (stamp i n : ℕ) → i < n → wires_to stamp i (byes_to n) ≢ []
bye_comes stamp i zero lt e = absurd (omega arith)
bye_comes stamp i (suc n) lt e =
    let parts : wires_to stamp i (byes_to n) ++ wires_to stamp i (post n Bye ∷ []) ≡ [] =
    sym (wires_append stamp i (byes_to n) (post n Bye ∷ [])) ∙ e in
    ⊎_elim (λ (same : n ≡ i).
    let last : wires_to stamp i (post n Bye ∷ []) ≢ [] = λ none.
    absurd (let f : (record { stamp = stamp; message = Bye }) ∷ [] ≡ [] =
    sym (ap (λ b. cond b ((record { stamp = stamp; message = Bye }) ∷ []) []) (eq-eqb n i same))
    ∙ none in cc) in
    back_some (wires_to stamp i (byes_to n)) (wires_to stamp i (post n Bye ∷ [])) last parts)
    (λ (other : n ≢ i). front_some (wires_to stamp i (byes_to n))
    (wires_to stamp i (post n Bye ∷ [])) (bye_comes stamp i n (omega arith)) parts) (cases_eq n i)

-- the turn in which a node ends tells the node itself
ends_told : (n i stamp : ℕ) (t : Turn) (b : Bool) → i < n → is_ended t.node.phase ≡ b
    → is_ended (with_byes n t b).node.phase ≡ true → wires_to stamp i (with_byes n t b).sends ≢ []
ends_told n i stamp t true lt is e none =
    back_some (wires_to stamp i t.sends) (wires_to stamp i (byes_to n)) (bye_comes stamp i n lt)
    (sym (wires_append stamp i t.sends (byes_to n)) ∙ none)
ends_told n i stamp t false lt is e none = absurd (let f : false ≡ true = sym is ∙ e in cc)

word_told : (work : Work) (i : ℕ) (c : Core) → i < work.layout.nodes → HasTold work i c
    → HasTold work i (event_step work c (Exec i))
word_told work i c bi h =
    let n = c.nodes i in
    let t = word_turn work n in
    let k : kept t.node ≡ kept (word_step work n) = word_kept work n in
    let executed : t.node.executed ≡ n.executed + 1 = ap (λ (z : Kept). z.executed) k in
    let journal : t.node.journal ≡ n.journal = ap (λ (z : Kept). z.journal) k in
    let words : words_before t.node.journal ≡ words_before n.journal = ap words_before journal in
    let le = h.before in
    record {
      before = rw (eq-eqb i i refl) (omega arith);
      ended = rw (eq-eqb i i refl) (λ e. inr (back_some (c.list i i)
          (wires_to t.node.stamp i t.sends)
          (ends_told work.layout.nodes i t.node.stamp (after_wants work n)
          (is_ended (after_wants work n).node.phase) bi refl e)));
    }

other_word : (work : Work) (i k : ℕ) (c : Core) → i ≢ k → HasTold work i c
    → HasTold work i (event_step work c (Exec k))
other_word work i k c other h = record {
  before = rw (ne_eqb i k other) h.before;
  ended = rw (ne_eqb i k other) h.ended;
}

first_told : (work : Work) (i j : ℕ) (c : Core) (ws : List Wire) → ws ≢ [] → HasTold work i c
    → HasTold work i (take_first work c i j ws)
first_told work i j c [] some h = absurd (some refl)
first_told work i j c (w ∷ rest) some h =
    let n = c.nodes i in
    let t = take_turn work n j w in
    let k : kept t.node ≡ kept (journaled n j w) = take_kept work n j w in
    let executed : t.node.executed ≡ n.executed = ap (λ (z : Kept). z.executed) k in
    let journal : t.node.journal ≡ (journaled n j w).journal = ap (λ (z : Kept). z.journal) k in
    let e : JournalEntry = record {
      stamp = (journaled n j w).stamp;
      from = j;
      words = n.executed - words_before n.journal;
    } in
    let words : words_before t.node.journal
    ≡ words_before n.journal + (n.executed - words_before n.journal) =
    ap words_before journal ∙ words_snoc n.journal e in
    let le = h.before in
    record {
      before = rw (eq-eqb i i refl) (omega arith);
      ended = rw (eq-eqb i i refl) (λ is. inl (omega arith));
    }

own_list : (a : Bool) (rest ws : List Wire) → cond (a && false) rest ws ≡ ws
own_list true rest ws = refl
own_list false rest ws = refl

other_take : (work : Work) (i k j : ℕ) (c : Core) (ws : List Wire) → i ≢ k → HasTold work i c
    → HasTold work i (take_first work c k j ws)
other_take work i k j c [] other h = h
other_take work i k j c (w ∷ rest) other h =
    let same : cond (eqb i j && false) rest (c.list i i) ≡ c.list i i =
    own_list (eqb i j) rest (c.list i i) in
    record {
      before = rw (ne_eqb i k other) h.before;
      ended = rw (ne_eqb i k other) (rw same h.ended);
    }

event_told : (work : Work) (i : ℕ) (c : Core) (e : Event) → i < work.layout.nodes → May work c e
    → HasTold work i c → HasTold work i (event_step work c e)
event_told work i c (Exec k) bi may h = ⊎_elim
    (λ (e : i ≡ k). subst (λ j. HasTold work i (event_step work c (Exec j))) e
    (word_told work i c bi h))
    (λ (e : i ≢ k). other_word work i k c e h) (cases_eq i k)
event_told work i c (Take k j) bi may h = ⊎_elim
    (λ (e : i ≡ k). subst (λ z. HasTold work i (event_step work c (Take z j))) e
    (first_told work i j c (c.list j i) (subst (λ z. c.list j z ≢ []) (sym e) may.3) h))
    (λ (e : i ≢ k). other_take work i k j c (c.list j k) e h) (cases_eq i k)

run_told : (work : Work) (i : ℕ) (c : Core) (es : List Event) → i < work.layout.nodes
    → IsCoreRun work c es → HasTold work i c → HasTold work i (after work c es)
run_told work i c [] bi run h = h
run_told work i c (e ∷ es) bi run h =
    run_told work i (event_step work c e) es bi run.1 (event_told work i c e bi run.0 h)

opening_told : (work : Work) (i : ℕ) → HasTold work i (opening_core work)
opening_told work i = record { before = omega arith; ended = λ e. absurd cc }

over_ended : (work : Work) (n : Node) (p : Phase) → standing_in work n p ≡ Over → is_ended p ≡ true
over_ended work n Running e = absurd (poll (is_at_poll work n) e)
  where
    poll : (b : Bool) → cond b standing.AtPoll standing.Running ≡ Over → ⊥
    poll true e = cc
    poll false e = cc
over_ended work n Resumed e = absurd cc
over_ended work n (Waiting r) e = absurd cc
over_ended work n (Ended end) e = refl

pub over_told : (work : Work) (run : List Event) (i : ℕ) → IsCoreRun work (opening_core work) run
    → i < work.layout.nodes → standing_of work ((after work (opening_core work) run).nodes i) ≡ Over
    → (after work (opening_core work) run).list i i ≡ []
    → ((after work (opening_core work) run).nodes i).executed
    ≡ words_before ((after work (opening_core work) run).nodes i).journal
over_told work run i may bi over none =
    let t = after work (opening_core work) run in
    let h = run_told work i (opening_core work) run bi may (opening_told work i) in
    ⊎_elim (λ (e : (t.nodes i).executed ≡ words_before (t.nodes i).journal). e)
    (λ (some : t.list i i ≢ []). absurd (some none))
    (h.ended (over_ended work (t.nodes i) (t.nodes i).phase over))

-- 4. The record of a core that is over tells of its own run

events_over : (i : ℕ) (n : Node) → n.executed ≡ words_before n.journal
    → events_of i n ≡ events_in i 0 n.journal
events_over i n e =
    let none : n.executed - words_before n.journal ≡ 0 = omega arith in
    ap (λ k. events_in i 0 n.journal ++ words_from i (last_take 0 n.journal) k) none
    ∙ append-nil (events_in i 0 n.journal)

pub again : (work : Work) (c : Core) (own : List Stamped) (r : Record)
    → StandsForOwnRun work c own → IsOver work c → HasJournalsOf work c r
    → ((i : ℕ) → i < work.layout.nodes → (after work (opening_core work) (run_of own)).list i i ≡ [])
    → ((i : ℕ) → i < work.layout.nodes → AreTakesWithin work.layout.nodes 0 (length (run_of own))
    ((after work (opening_core work) (run_of own)).nodes i).journal)
    → (told : List Told) × TellsWholeRun work r told × (map what_told told ≡ own)
again work c own r stands over has none takes =
    let o = opening_core work in
    let t = after work o (run_of own) in
    let lists : ℕ → List Told = λ i. told_in i 1 0 (entries_of r i) in
    let below : (i : ℕ) → i < r.nodes → i < work.layout.nodes =
    λ i bi. subst (λ k. i < k) has.nodes bi in
    let journal : (i : ℕ) → i < r.nodes → entries_of r i ≡ (t.nodes i).journal = λ i bi.
    has.journals i bi ∙ ap (λ (n : Node). n.journal) (stands.ends.nodes i (below i bi)) in
    let rising = λ (i : ℕ) (bi : i < r.nodes). rising_in i 1 0 (entries_of r i)
    (subst (λ l. AreBehind 0 l) (sym (journal i bi))
    (behind_within work.layout.nodes 0 (length (run_of own)) (t.nodes i).journal
    (takes i (below i bi)))) in
    let all = merged stamp_told maker_told r.nodes lists
    (λ i bi. ((rising i bi).own, (rising i bi).climbs)) in
    let done : (i : ℕ) → i < work.layout.nodes
    → standing_of work (t.nodes i) ≡ Over = λ i bi.
    ap (λ z. standing_of work z) (sym (stands.ends.nodes i bi)) ∙ over i bi in
    let mine : AreEventsOf work.layout.nodes c.nodes (map what_told all.0) = record {
      sorted = what_sorted all.0 all.1.sorted;
      below = what_below work.layout.nodes all.0
          (subst (λ k. AreMadeBelow stamp_told maker_told k all.0) has.nodes all.1.below);
      each = λ i bi.
          let low : i < r.nodes = subst (λ k. i < k) (sym has.nodes) bi in
          what_made i all.0 ∙ ap (λ l. map what_told l) (all.1.each i low)
          ∙ what_in i 1 0 (entries_of r i) ∙ ap (λ l. events_in i 0 l) (journal i low)
          ∙ sym (events_over i (t.nodes i)
          (over_told work (run_of own) i stands.is_run bi (done i bi) (none i bi)))
          ∙ ap (λ z. events_of i z) (sym (stands.ends.nodes i bi));
    } in
    let same : map what_told all.0 ≡ own = one_sorted stamp_in maker work.layout.nodes
    (λ i. events_of i (c.nodes i)) (map what_told all.0) own mine stands.are_events in
    let history = own_history work c own stands in
    let made : AreMadeAs work o own = subst (λ l. AreMadeAs work o l) (sym history.1)
    (deeds_made work history.0 o t history.2) in (
      all.0,
      record {
        are_told = all.1;
        made = subst (λ l. AreMadeAs work o l) (sym same) made;
        over = subst (λ l. IsOver work (after work o (run_of l))) (sym same) done;
      },
      same,
    )
