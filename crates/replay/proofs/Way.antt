-- A core on its way through the events that a record tells of.
use Rattle.std.proofs.Common.{◌≡◌, ◌≢◌, ℕ, ◌+◌, ◌<◌, Bool, true, false, List, [], ◌∷◌, ◌++◌, map, length, sym, refl, ap, ◌∙◌, subst, append_assoc, append-nil, arith, ⊎_elim}
use Rattle.std.proofs.lemmas.Bool.{cases_eq}
use Rattle.run_order.specs.node_model.declared.Standing.TheVariants.{Over}
use Rattle.run_order.specs.node_model.Node.{Work, Node, standing_of}
use Rattle.run_order.specs.node_model.Outcome.{Outcome, IsOutcomeOf}
use Rattle.run_order.specs.node_model.Core.{Core, Event, Exec, Take, May, IsOver, may_execute, may_take, AreAlike, event_step, opening_core, after}
use Rattle.run_order.specs.Sorted.{Precedes, AreMadeBelow, made_by}
use Rattle.run_order.specs.OwnRun.{Stamped, StandsForOwnRun, AreEventsOf, events_of, stamp_in, maker, run_of}
use Rattle.run_order.proofs.Unique.{one_sorted}
use Rattle.dsm_core.proofs.CoreRuns.{alike_also, may_alike, after_alike}
use Rattle.run_record.specs.declared.Record.{Record}
use Rattle.replay.specs.declared.refused.ReplayRule.{ReplayRule}
use Rattle.replay.specs.declared.refused.ReplayRule.TheVariants.{NoMessage, NotThere, Stamp}
use Rattle.replay.specs.Told.{Told, stamp_told, maker_told, what_told, entries_of, AreToldBy, events_told, IsMadeAs, AreMadeAs}
use Rattle.replay.specs.Refusals.{number_of, Breaks, IsFirstBroken, IsUnfinished}
use Rattle.replay.specs.Replay.{IsReplay}
use Rattle.replay.specs.Way.{IsBehind, IsOnWay}
use Rattle.replay.proofs.Sorting.{IsHead, head_first, sorted_behind, below_behind, none_left}
use Rattle.replay.proofs.Made.{what_append, after_more, made_append, nodes_apart, made_stands}

-- what is left to node i begins with an event that comes before those of all others
pub record IsAhead (n : ℕ) (left : ℕ → List Told) (i : ℕ) (x : Told) (more : List Told) : Type 0
  where
    pub below : i < n
    pub maker_is : maker_told x ≡ i
    pub left_is : left i ≡ x ∷ more
    pub before : (k : ℕ) → k < n → k ≢ i → (y : Told) (ys : List Told) → left k ≡ y ∷ ys
        → Precedes stamp_told maker_told x y

abbrev pub Head : (n : ℕ) → (ℕ → List Told) → List Told → ℕ → Told → List Told → Type 0
Head n left rest i x more = IsHead stamp_told maker_told n left rest i x more

head_of : (work : Work) (r : Record) (left : ℕ → List Told) (last : ℕ → ℕ) (c : Core)
    (i : ℕ) (x : Told) (more : List Told) → r.nodes ≡ work.layout.nodes
    → (w : IsOnWay work r left last c)
    → IsAhead work.layout.nodes left i x more → Head work.layout.nodes left w.1.rest i x more
head_of work r left last c i x more n w a =
    head_first stamp_told maker_told work.layout.nodes left w.1.rest i x more
    (sorted_behind stamp_told maker_told w.0 w.1.rest w.1.are_told.sorted)
    (subst (λ k. AreMadeBelow stamp_told maker_told k w.1.rest) n
    (below_behind stamp_told maker_told r.nodes w.0 w.1.rest w.1.are_told.below))
    w.1.each a.below a.maker_is a.left_is a.before

pub event_alike : (work : Work) (c d : Core) (e : Event) → May work c e
    → AreAlike work.layout.nodes c d
    → AreAlike work.layout.nodes (event_step work c e) (event_step work d e)
event_alike work c d e may a = after_alike work c d (e ∷ []) a (may, tt)

-- 1. One event more

pub record IsStep (work : Work) (c d : Core) (i : ℕ) (x : Told) : Type 0 where
  pub made : IsMadeAs work c x.what
  pub leads : AreAlike work.layout.nodes d (event_step work c x.what.event)

pub record AreNow (i : ℕ) (x : Told) (more : List Told) (left left2 : ℕ → List Told)
    (last last2 : ℕ → ℕ) : Type 0 where
  pub own : left2 i ≡ more
  pub others : (k : ℕ) → k ≢ i → left2 k ≡ left k
  pub stamp : last2 i ≡ stamp_told x
  pub lasts : (k : ℕ) → k ≢ i → last2 k ≡ last k

pub made_alike : (work : Work) (c d : Core) (x : Stamped) → AreAlike work.layout.nodes c d
    → maker x < work.layout.nodes → IsMadeAs work c x → IsMadeAs work d x
made_alike work c d x a b m = record {
  may = may_alike work c d x.event a m.may;
  stamp = ap (λ (n : Node). n.stamp)
      (sym ((event_alike work c d x.event m.may a).nodes (maker x) b)) ∙ m.stamp;
}

pub step_on : (work : Work) (r : Record) (left left2 : ℕ → List Told) (last last2 : ℕ → ℕ)
    (c d : Core) (i : ℕ) (x : Told) (more : List Told) → r.nodes ≡ work.layout.nodes
    → (w : IsOnWay work r left last c) → IsAhead work.layout.nodes left i x more
    → IsStep work c d i x → AreNow i x more left left2 last last2
    → IsBehind work r left2 last2 d (w.0 ++ x ∷ [])
step_on work r left left2 last last2 c d i x more n w a s now =
    let h = head_of work r left last c i x more n w a in
    let o = opening_core work in
    let t = after work o (events_told w.0) in
    let low : maker x.what < work.layout.nodes =
    subst (λ k. k < work.layout.nodes) (sym a.maker_is) a.below in
    let made : IsMadeAs work t x.what = made_alike work c t x.what w.1.alike low s.made in
    let all : map what_told (w.0 ++ x ∷ []) ≡ map what_told w.0 ++ x.what ∷ [] =
    what_append w.0 (x ∷ []) in
    let ends : after work o (events_told (w.0 ++ x ∷ [])) ≡ event_step work t x.what.event =
    ap (λ l. after work o (run_of l)) all ∙ after_more work o (map what_told w.0) (x.what ∷ []) in
    record {
      rest = h.tail;
      are_told = subst (λ l. AreToldBy r l)
          (ap (λ l. w.0 ++ l) h.rest_is ∙ sym (append_assoc w.0 (x ∷ []) h.tail)) w.1.are_told;
      made = subst (λ l. AreMadeAs work o l) (sym all)
          (made_append work o (map what_told w.0) (x.what ∷ []) w.1.made (made, tt));
      alike = subst (λ (u : Core). AreAlike work.layout.nodes d u) (sym ends)
          (alike_also work.layout.nodes d (event_step work c x.what.event)
          (event_step work t x.what.event) s.leads
          (event_alike work c t x.what.event s.made.may w.1.alike));
      each = λ k bk. ⊎_elim
          (λ (e : k ≡ i). subst (λ j. made_by stamp_told maker_told j h.tail ≡ left2 j) (sym e)
          (h.own ∙ sym now.own))
          (λ (e : k ≢ i). h.others k bk e ∙ sym (now.others k e)) (cases_eq k i);
      stamps = λ k bk. ap (λ (z : Node). z.stamp) (s.leads.nodes k bk) ∙ ⊎_elim
          (λ (e : k ≡ i). subst (λ j. ((event_step work c x.what.event).nodes j).stamp ≡ last2 j)
          (a.maker_is ∙ sym e) (s.made.stamp ∙ sym now.stamp ∙ ap last2 (sym a.maker_is)))
          (λ (e : k ≢ i). ap (λ (z : Node). z.stamp)
          (nodes_apart work c x.what.event k (λ q. e (q ∙ a.maker_is)))
          ∙ w.1.stamps k bk ∙ sym (now.lasts k e)) (cases_eq k i);
    }

-- 2. An event that can't be made

pub broken_on : (work : Work) (r : Record) (left : ℕ → List Told) (last : ℕ → ℕ) (c : Core)
    (i : ℕ) (x : Told) (more : List Told) (rule : ReplayRule) → r.nodes ≡ work.layout.nodes
    → (w : IsOnWay work r left last c) → IsAhead work.layout.nodes left i x more
    → Breaks work (after work (opening_core work) (events_told w.0)) x.what rule
    → ((other : ReplayRule) → number_of other < number_of rule
    → Breaks work (after work (opening_core work) (events_told w.0)) x.what other → ⊥)
    → IsFirstBroken work r rule i x.entry
broken_on work r left last c i x more rule n w a breaks lowest =
    let h = head_of work r left last c i x more n w a in
    record {
      before = w.0;
      event = x;
      behind = h.tail;
      are_told = subst (λ l. AreToldBy r (w.0 ++ l)) h.rest_is w.1.are_told;
      made = w.1.made;
      node_is = sym a.maker_is;
      entry_is = refl;
      breaks = breaks;
      lowest = lowest;
    }

-- a word at a node that may execute none
pub word_broken : (work : Work) (r : Record) (left : ℕ → List Told) (last : ℕ → ℕ) (c : Core)
    (i : ℕ) (x : Told) (more : List Told) → r.nodes ≡ work.layout.nodes
    → IsOnWay work r left last c → IsAhead work.layout.nodes left i x more
    → x.what.event ≡ Exec i → (May work c (Exec i) → ⊥) → IsFirstBroken work r NotThere i x.entry
word_broken work r left last c i x more n w a is not =
    let t = after work (opening_core work) (events_told w.0) in
    let breaks : may_execute (standing_of work (t.nodes i)) ≡ false =
    subst (λ (z : Node). may_execute (standing_of work z) ≡ false) (w.1.alike.nodes i a.below)
    (is_false (may_execute (standing_of work (c.nodes i))) refl) in
    broken_on work r left last c i x more NotThere n w a
    (subst (λ e. Breaks work t (record { stamp = x.what.stamp; event = e }) NotThere) (sym is) breaks)
    (λ other lt b. lower other lt (subst (λ e. Breaks work t
    (record { stamp = x.what.stamp; event = e }) other) is b))
  where
    is_false : (b : Bool) → may_execute (standing_of work (c.nodes i)) ≡ b
        → may_execute (standing_of work (c.nodes i)) ≡ false
    is_false true e = absurd (not (a.below, e))
    is_false false e = e

    lower : (other : ReplayRule) → number_of other < 45
        → Breaks work (after work (opening_core work) (events_told w.0))
        (record { stamp = x.what.stamp; event = Exec i }) other → ⊥
    lower NoMessage lt b = b
    lower NotThere lt b = absurd (omega arith)
    lower Stamp lt b = absurd (omega arith)

pub lacks : (work : Work) (r : Record) (left : ℕ → List Told) (last : ℕ → ℕ) (c : Core)
    (i j : ℕ) (x : Told) (more : List Told) → r.nodes ≡ work.layout.nodes
    → IsOnWay work r left last c → IsAhead work.layout.nodes left i x more
    → x.what.event ≡ Take i j → j < work.layout.nodes → c.list j i ≡ []
    → IsFirstBroken work r NoMessage i x.entry
lacks work r left last c i j x more n w a is bj none =
    let t = after work (opening_core work) (events_told w.0) in
    broken_on work r left last c i x more NoMessage n w a
    (subst (λ e. Breaks work t (record { stamp = x.what.stamp; event = e }) NoMessage) (sym is)
    (sym (w.1.alike.lists j i bj a.below) ∙ none)) (λ other lt b. lower other lt)
  where
    lower : (other : ReplayRule) → number_of other < 44 → ⊥
    lower NoMessage lt = omega arith
    lower NotThere lt = omega arith
    lower Stamp lt = omega arith

pub take_broken : (work : Work) (r : Record) (left : ℕ → List Told) (last : ℕ → ℕ) (c : Core)
    (i j : ℕ) (x : Told) (more : List Told) → r.nodes ≡ work.layout.nodes
    → IsOnWay work r left last c → IsAhead work.layout.nodes left i x more
    → x.what.event ≡ Take i j → j < work.layout.nodes → c.list j i ≢ []
    → (May work c (Take i j) → ⊥) → IsFirstBroken work r NotThere i x.entry
take_broken work r left last c i j x more n w a is bj some not =
    let t = after work (opening_core work) (events_told w.0) in
    let breaks : may_take (standing_of work (t.nodes i)) ≡ false =
    subst (λ (z : Node). may_take (standing_of work z) ≡ false) (w.1.alike.nodes i a.below)
    (is_false (may_take (standing_of work (c.nodes i))) refl) in
    broken_on work r left last c i x more NotThere n w a
    (subst (λ e. Breaks work t (record { stamp = x.what.stamp; event = e }) NotThere) (sym is) breaks)
    (λ other lt b. lower other lt (subst (λ e. Breaks work t
    (record { stamp = x.what.stamp; event = e }) other) is b))
  where
    is_false : (b : Bool) → may_take (standing_of work (c.nodes i)) ≡ b
        → may_take (standing_of work (c.nodes i)) ≡ false
    is_false true e = absurd (not (a.below, bj, e, some))
    is_false false e = e

    lower : (other : ReplayRule) → number_of other < 45
        → Breaks work (after work (opening_core work) (events_told w.0))
        (record { stamp = x.what.stamp; event = Take i j }) other → ⊥
    lower NoMessage lt b = some (w.1.alike.lists j i bj a.below ∙ b)
    lower NotThere lt b = absurd (omega arith)
    lower Stamp lt b = absurd (omega arith)

pub stamp_broken : (work : Work) (r : Record) (left : ℕ → List Told) (last : ℕ → ℕ) (c : Core)
    (i j : ℕ) (x : Told) (more : List Told) → r.nodes ≡ work.layout.nodes
    → IsOnWay work r left last c → IsAhead work.layout.nodes left i x more
    → x.what.event ≡ Take i j → May work c (Take i j)
    → ((event_step work c (Take i j)).nodes i).stamp ≢ x.what.stamp
    → IsFirstBroken work r Stamp i x.entry
stamp_broken work r left last c i j x more n w a is may other =
    let t = after work (opening_core work) (events_told w.0) in
    let same = (event_alike work c t (Take i j) may w.1.alike).nodes i a.below in
    let may2 = may_alike work c t (Take i j) w.1.alike may in
    broken_on work r left last c i x more Stamp n w a
    (subst (λ e. Breaks work t (record { stamp = x.what.stamp; event = e }) Stamp) (sym is)
    (λ e. other (ap (λ (z : Node). z.stamp) same ∙ e)))
    (λ rule lt b. lower may2 rule lt (subst (λ e. Breaks work t
    (record { stamp = x.what.stamp; event = e }) rule) is b))
  where
    lower : May work (after work (opening_core work) (events_told w.0)) (Take i j)
        → (rule : ReplayRule) → number_of rule < 46
        → Breaks work (after work (opening_core work) (events_told w.0))
        (record { stamp = x.what.stamp; event = Take i j }) rule → ⊥
    lower may2 NoMessage lt b = may2.3 b
    lower may2 NotThere lt b = absurd (let e : true ≡ false = sym may2.2 ∙ b in cc)
    lower may2 Stamp lt b = absurd (omega arith)

-- 3. The end

pub whole : (work : Work) (r : Record) (left : ℕ → List Told) (last : ℕ → ℕ) (c : Core)
    → r.nodes ≡ work.layout.nodes → (w : IsOnWay work r left last c)
    → ((i : ℕ) → i < work.layout.nodes → left i ≡ []) → AreToldBy r w.0
whole work r left last c n w none =
    let ended : w.1.rest ≡ [] = none_left stamp_told maker_told work.layout.nodes w.1.rest
    (subst (λ k. AreMadeBelow stamp_told maker_told k w.1.rest) n
    (below_behind stamp_told maker_told r.nodes w.0 w.1.rest w.1.are_told.below))
    (λ k bk. w.1.each k bk ∙ none k bk) in
    subst (λ l. AreToldBy r l) (ap (λ l. w.0 ++ l) ended ∙ append-nil w.0) w.1.are_told

pub unfinished : (work : Work) (r : Record) (left : ℕ → List Told) (last : ℕ → ℕ) (c : Core)
    (i entry : ℕ) → r.nodes ≡ work.layout.nodes → IsOnWay work r left last c
    → ((i : ℕ) → i < work.layout.nodes → left i ≡ []) → i < work.layout.nodes
    → entry ≡ length (entries_of r i) + 1 → standing_of work (c.nodes i) ≢ Over
    → ((k : ℕ) → k < i → standing_of work (c.nodes k) ≡ Over)
    → IsUnfinished work r NotThere i entry
unfinished work r left last c i entry n w none bi is not least = record {
  told = w.0;
  are_told = whole work r left last c n w none;
  made = w.1.made;
  rule_is = refl;
  is_node = bi;
  entry_is = is;
  not_over = λ e. not (ap (λ z. standing_of work z) (w.1.alike.nodes i bi) ∙ e);
  least = λ k lt. ap (λ z. standing_of work z) (sym (w.1.alike.nodes k (omega arith))) ∙ least k lt;
}

pub replayed : (work : Work) (r : Record) (left : ℕ → List Told) (last : ℕ → ℕ) (c : Core)
    (o : Outcome) → r.nodes ≡ work.layout.nodes → IsOnWay work r left last c
    → ((i : ℕ) → i < work.layout.nodes → left i ≡ []) → IsOver work c
    → (events : List Stamped) × StandsForOwnRun work c events
    × IsOutcomeOf work (run_of events) o → IsReplay work r o
replayed work r left last c o n w none over given =
    let t = after work (opening_core work) (events_told w.0) in
    let told = whole work r left last c n w none in
    let stands = made_stands work w.0 told.sorted
    (subst (λ k. AreMadeBelow stamp_told maker_told k w.0) n told.below) w.1.made in
    let other : AreEventsOf work.layout.nodes c.nodes (map what_told w.0) = record {
      sorted = stands.are_events.sorted;
      below = stands.are_events.below;
      each = λ i bi. stands.are_events.each i bi
          ∙ ap (λ z. events_of i z) (sym (w.1.alike.nodes i bi));
    } in
    let same : given.0 ≡ map what_told w.0 =
    one_sorted stamp_in maker work.layout.nodes (λ i. events_of i (c.nodes i)) given.0
    (map what_told w.0) given.1.are_events other in
    record {
      told = w.0;
      whole = record {
        are_told = told;
        made = w.1.made;
        over = λ i bi. ap (λ z. standing_of work z) (sym (w.1.alike.nodes i bi)) ∙ over i bi;
      };
      stands = stands;
      outcome = subst (λ l. IsOutcomeOf work (run_of l) o) same given.2;
    }
