-- What workers do, one thing after another.
use Rattle.std.proofs.Common.{◌≡◌, ◌≢◌, ℕ, ◌<◌, true, None, Result, Ok, Err, OnOk, List, [], ◌∷◌, ◌++◌, set, get_or, length, length-set, cond, eqb, eq-eqb, ne_eqb, refl, ap, ap₂, ◌∙◌, sym, subst, append_assoc, append-nil, ⊎_elim, Global}
use Rattle.std.proofs.lemmas.Bool.{cases_eq}
use Rattle.std.proofs.lemmas.List.{length-map}
use Rattle.std.specs.declared.collections.VecDeque.{VecDeque}
use Rattle.dsm_messages.specs.declared.messages.Post.{Post}
use Rattle.dsm_messages.specs.declared.messages.Wire.{Wire}
use Rattle.dsm_protocol.specs.node_model.Node.{Work, Node}
use Rattle.dsm_protocol.specs.node_model.Turns.{Turn, silent, word_turn}
use Rattle.dsm_protocol.specs.node_model.Core.{wires_to, may_execute}
use Rattle.dsm_core.specs.node_machine.declared.node_state.NodeState.{NodeState}
use Rattle.dsm_core.specs.node_machine.NodeState.{node_of, work_of}
use Rattle.dsm_core.specs.run_order.Apart.{LocalEvent, Executes, MayDo, LeadsBy, turn_of, taken_from, sent_to}
use Rattle.fifo_link.specs.End.{End}
use Rattle.node_threads.specs.Works.{Works, HasRows, standing, through, waiting, links_of, undelivered_from}
use Rattle.node_threads.specs.declared.worker.Worker.{Worker}
use Rattle.node_threads.proofs.Entries.{wires_same, wires_other, wires_get, map_same}
use Rattle.dsm_core.specs.node_machine.Runs.{GoesOnBy}
use Rattle.node_threads.proofs.History.{leads_append, taken_append, sent_append, words_of, words_lead, words_take, words_send}

-- no local_event, and no wire was moved
pub works_same : (a b : Worker) → b.undelivered ≡ None → work_of b.node ≡ work_of a.node
    → node_of b.node ≡ node_of a.node → b.sends ≡ a.sends → b.outboxes ≡ a.outboxes
    → ((j : ℕ) → through b.takes.items j ≡ through a.takes.items j)
    → links_of b.takes.items ≡ links_of a.takes.items → Works a b
works_same a b none work node sends outboxes takes links = record {
  history = [];
  work = work;
  leads = sym node;
  takes = λ j. takes j ∙ sym (ap (λ h. (through a.takes.items j ++ []) ++ undelivered_from j h) none
      ∙ append-nil (through a.takes.items j ++ []) ∙ append-nil (through a.takes.items j));
  pushed = λ k. [];
  sends = λ k. ap (λ s. through s.items k) sends ∙ sym (append-nil (through a.sends.items k));
  outboxes = λ k lt. append-nil (waiting a.outboxes.items k) ∙ ap (λ o. waiting o.items k) (sym outboxes);
  same_sends = ap (λ s. links_of s.items) sends;
  same_takes = links;
  same_outboxes = ap (λ o. length o.items) outboxes;
}

pub works_none : (a : Worker) → a.undelivered ≡ None → Works a a
works_none a none = works_same a a none refl refl refl refl (λ j. refl) refl

pub works_trans : (a b c : Worker) → Works a b → b.undelivered ≡ None → Works b c → Works a c
works_trans a b c x none y =
    let w : Work = work_of a.node in
    let n : Node = node_of a.node in
    let m : Node = node_of b.node in
    let leads : LeadsBy w m y.history (node_of c.node) =
    subst (λ v. LeadsBy v m y.history (node_of c.node)) x.work y.leads in
    let outboxes : (k : ℕ) → k < w.layout.nodes → waiting b.outboxes.items k ++ sent_to w k m y.history
    ≡ y.pushed k ++ waiting c.outboxes.items k =
    subst (λ v. (k : ℕ) → k < v.layout.nodes → waiting b.outboxes.items k ++ sent_to v k m y.history
    ≡ y.pushed k ++ waiting c.outboxes.items k) x.work y.outboxes in
    let takes : (j : ℕ) → through b.takes.items j
    ≡ through a.takes.items j ++ taken_from j x.history =
    λ j. x.takes j
    ∙ ap (λ h. (through a.takes.items j ++ taken_from j x.history) ++ undelivered_from j h) none
    ∙ append-nil (through a.takes.items j ++ taken_from j x.history) in
    record {
      history = x.history ++ y.history;
      work = y.work ∙ x.work;
      leads = leads_append w n m (node_of c.node) x.history y.history x.leads leads;
      takes = λ j. y.takes j
          ∙ ap (λ l. l ++ taken_from j y.history ++ undelivered_from j c.undelivered) (takes j)
          ∙ ap (λ l. l ++ undelivered_from j c.undelivered)
          (append_assoc (through a.takes.items j) (taken_from j x.history) (taken_from j y.history)
          ∙ ap (λ l. through a.takes.items j ++ l) (sym (taken_append j x.history y.history)));
      pushed = λ k. x.pushed k ++ y.pushed k;
      sends = λ k. y.sends k ∙ ap (λ l. l ++ y.pushed k) (x.sends k)
          ∙ append_assoc (through a.sends.items k) (x.pushed k) (y.pushed k);
      outboxes = λ k lt.
          ap (λ l. waiting a.outboxes.items k ++ l) (sent_append w k n m x.history y.history x.leads)
          ∙ sym (append_assoc (waiting a.outboxes.items k) (sent_to w k n x.history)
          (sent_to w k m y.history)) ∙ ap (λ l. l ++ sent_to w k m y.history) (x.outboxes k lt)
          ∙ append_assoc (x.pushed k) (waiting b.outboxes.items k) (sent_to w k m y.history)
          ∙ ap (λ l. x.pushed k ++ l) (outboxes k lt)
          ∙ sym (append_assoc (x.pushed k) (y.pushed k) (waiting c.outboxes.items k));
      same_sends = y.same_sends ∙ x.same_sends;
      same_takes = y.same_takes ∙ x.same_takes;
      same_outboxes = y.same_outboxes ∙ x.same_outboxes;
    }

-- the same, where what came last is known first
pub works_before : (a b c : Worker) → Works b c → b.undelivered ≡ None → Works a b → Works a c
works_before a b c y none x = works_trans a b c x none y

-- wires move from the outbox for node k to its link
pub works_flush : (b w : Worker) (k : ℕ) (end next : End) (out left : VecDeque Wire Global)
    → b.undelivered ≡ None → w.node ≡ b.node → w.takes.items ≡ b.takes.items → w.undelivered ≡ None
    → w.sends.items ≡ set b.sends.items k next → w.outboxes.items ≡ set b.outboxes.items k left
    → k < length b.sends.items → k < length b.outboxes.items
    → end ≡ get_or b.sends.items k end → out ≡ get_or b.outboxes.items k out
    → next.link ≡ end.link → next.capacity ≡ end.capacity
    → (pushed : List Wire) × (next.wires ≡ end.wires ++ pushed) × (out.items ≡ pushed ++ left.items)
    → Works b w
works_flush b w k end next out left none node takes undelivered sends outboxes ks ko is_end is_out link cap p =
    let F : End → List Wire = λ e. e.wires in
    let G : VecDeque Wire Global → List Wire = λ o. o.items in
    let ps : ℕ → List Wire = λ i. cond (eqb i k) p.0 [] in
    record {
      history = [];
      work = ap work_of node;
      leads = sym (ap node_of node);
      takes = λ j. ap (λ l. through l j) takes
          ∙ sym (ap (λ h. (through b.takes.items j ++ []) ++ undelivered_from j h) undelivered
          ∙ append-nil (through b.takes.items j ++ []) ∙ append-nil (through b.takes.items j));
      pushed = ps;
      sends = λ i. ap (λ l. through l i) sends ∙ ⊎_elim
          (λ (e : i ≡ k). rw (eq-eqb i k e)
          (subst (λ x. through (set b.sends.items k next) x ≡ through b.sends.items x ++ p.0)
          (sym e) (wires_same End Wire F b.sends.items k next ks ∙ p.1
          ∙ ap (λ l. l ++ p.0) (sym (wires_get End Wire F b.sends.items k end ks is_end)))))
          (λ (e : i ≢ k). rw (ne_eqb i k e)
          (wires_other End Wire F b.sends.items k i next e
          ∙ sym (append-nil (through b.sends.items i)))) (cases_eq i k);
      outboxes = λ i lt. append-nil (waiting b.outboxes.items i) ∙ ⊎_elim
          (λ (e : i ≡ k). rw (eq-eqb i k e)
          (subst (λ x. waiting b.outboxes.items x ≡ p.0 ++ waiting w.outboxes.items x) (sym e)
          (wires_get (VecDeque Wire Global) Wire G b.outboxes.items k out ko is_out ∙ p.2
          ∙ ap (λ l. p.0 ++ l) (sym (ap (λ l. waiting l k) outboxes
          ∙ wires_same (VecDeque Wire Global) Wire G b.outboxes.items k left ko)))))
          (λ (e : i ≢ k). rw (ne_eqb i k e)
          (sym (ap (λ l. waiting l i) outboxes
          ∙ wires_other (VecDeque Wire Global) Wire G b.outboxes.items k i left e))) (cases_eq i k);
      same_sends = ap links_of sends ∙ map_same End _ (λ (e : End). (e.link, e.capacity))
          b.sends.items k end next ks is_end (ap₂ (λ x y. (x, y)) link cap);
      same_takes = ap links_of takes;
      same_outboxes = ap length outboxes ∙ length-set b.outboxes.items k left;
    }

-- the node has made a local_event
pub works_local_event : (b w : Worker) (d : LocalEvent) → w.undelivered ≡ None → work_of w.node ≡ work_of b.node
    → MayDo (work_of b.node) (node_of b.node) d
    → node_of w.node ≡ (turn_of (work_of b.node) (node_of b.node) d).node
    → ((j : ℕ) → through w.takes.items j ≡ through b.takes.items j ++ taken_from j (d ∷ []))
    → links_of w.takes.items ≡ links_of b.takes.items → w.sends ≡ b.sends
    → ((k : ℕ) → k < (work_of b.node).layout.nodes → waiting w.outboxes.items k
    ≡ waiting b.outboxes.items k
    ++ wires_to (node_of w.node).stamp k (turn_of (work_of b.node) (node_of b.node) d).sends)
    → length w.outboxes.items ≡ length b.outboxes.items → Works b w
works_local_event b w d undelivered work may node took same_takes sends outboxes len =
    let t = turn_of (work_of b.node) (node_of b.node) d in
    record {
      history = d ∷ [];
      work = work;
      leads = (may, sym node);
      takes = λ j. took j
          ∙ sym (ap (λ h. (through b.takes.items j ++ taken_from j (d ∷ [])) ++ undelivered_from j h) undelivered
          ∙ append-nil (through b.takes.items j ++ taken_from j (d ∷ [])));
      pushed = λ k. [];
      sends = λ k. ap (λ s. through s.items k) sends ∙ sym (append-nil (through b.sends.items k));
      outboxes = λ k lt.
          ap (λ l. waiting b.outboxes.items k ++ l) (append-nil (wires_to t.node.stamp k t.sends))
          ∙ ap (λ (z : Node). waiting b.outboxes.items k ++ wires_to z.stamp k t.sends) (sym node)
          ∙ sym (outboxes k lt);
      same_sends = ap (λ s. links_of s.items) sends;
      same_takes = same_takes;
      same_outboxes = len;
    }

-- the same, where the node stands for the same as before its local_event
pub works_turn : (b w : Worker) (x : NodeState) (d : LocalEvent) (stamp : ℕ) (posts : List Post)
    → w.undelivered ≡ None → HasRows b → MayDo (work_of b.node) (node_of b.node) d
    → work_of x ≡ work_of b.node → node_of x ≡ node_of b.node → work_of w.node ≡ work_of x
    → node_of w.node ≡ (turn_of (work_of x) (node_of x) d).node
    → posts ≡ (turn_of (work_of x) (node_of x) d).sends → stamp ≡ (node_of w.node).stamp
    → ((j : ℕ) → through w.takes.items j ≡ through b.takes.items j ++ taken_from j (d ∷ []))
    → links_of w.takes.items ≡ links_of b.takes.items → w.sends ≡ b.sends
    → ((k : ℕ) → k < length b.outboxes.items → waiting w.outboxes.items k
    ≡ waiting b.outboxes.items k ++ wires_to stamp k posts)
    → length w.outboxes.items ≡ length b.outboxes.items → Works b w
works_turn b w x d stamp posts undelivered rows may wx nx work node sends at_stamp took links same outboxes len =
    let e : turn_of (work_of x) (node_of x) d ≡ turn_of (work_of b.node) (node_of b.node) d =
    ap₂ (λ v n. turn_of v n d) wx nx in
    works_local_event b w d undelivered (work ∙ wx) may (node ∙ ap (λ (t : Turn). t.node) e) took links same
    (λ k lt. outboxes k (subst (λ i. k < i) (sym rows.outboxes) lt)
    ∙ ap (λ s. waiting b.outboxes.items k ++ wires_to s k posts) at_stamp
    ∙ ap (λ l. waiting b.outboxes.items k ++ wires_to (node_of w.node).stamp k l)
    (sends ∙ ap (λ (t : Turn). t.sends) e))
    len

-- a word that sends nothing
pub works_pass : (b w : Worker) → w.undelivered ≡ None → may_execute (standing b.node) ≡ true
    → work_of w.node ≡ work_of b.node
    → word_turn (work_of b.node) (node_of b.node) ≡ silent (node_of w.node)
    → w.sends ≡ b.sends → w.takes ≡ b.takes → w.outboxes ≡ b.outboxes → Works b w
works_pass b w undelivered may work turn sends takes outboxes =
    works_local_event b w Executes undelivered work may (sym (ap (λ (t : Turn). t.node) turn))
    (λ j. ap (λ v. through v.items j) takes ∙ sym (append-nil (through b.takes.items j)))
    (ap (λ v. links_of v.items) takes) sends
    (λ k lt. ap (λ o. waiting o.items k) outboxes ∙ sym (append-nil (waiting b.outboxes.items k))
    ∙ ap (λ l. waiting b.outboxes.items k ++ wires_to (node_of w.node).stamp k l)
    (sym (ap (λ (t : Turn). t.sends) turn)))
    (ap (λ o. length o.items) outboxes)

-- words that send nothing
pub works_words : (b w : Worker) (words : ℕ) → w.undelivered ≡ None
    → work_of w.node ≡ work_of b.node
    → GoesOnBy (work_of b.node) words (node_of b.node) (node_of w.node)
    → w.sends ≡ b.sends → w.takes ≡ b.takes → w.outboxes ≡ b.outboxes → Works b w
works_words b w words undelivered work on sends takes outboxes = record {
  history = words_of words;
  work = work;
  leads = words_lead (work_of b.node) words (node_of b.node) (node_of w.node) on;
  takes = λ j. ap (λ v. through v.items j) takes
      ∙ sym (ap (λ l. (through b.takes.items j ++ l) ++ undelivered_from j w.undelivered) (words_take j words)
      ∙ ap (λ h. (through b.takes.items j ++ []) ++ undelivered_from j h) undelivered
      ∙ append-nil (through b.takes.items j ++ []) ∙ append-nil (through b.takes.items j));
  pushed = λ k. [];
  sends = λ k. ap (λ s. through s.items k) sends ∙ sym (append-nil (through b.sends.items k));
  outboxes = λ k lt. ap (λ l. waiting b.outboxes.items k ++ l)
      (words_send (work_of b.node) k words (node_of b.node) (node_of w.node) on)
      ∙ append-nil (waiting b.outboxes.items k) ∙ ap (λ o. waiting o.items k) (sym outboxes);
  same_sends = ap (λ s. links_of s.items) sends;
  same_takes = ap (λ v. links_of v.items) takes;
  same_outboxes = ap (λ o. length o.items) outboxes;
}

-- a message was left undelivered
pub works_undelivered : (b w : Worker) → w.node ≡ b.node → w.sends ≡ b.sends → w.outboxes ≡ b.outboxes
    → ((j : ℕ) → through w.takes.items j ≡ through b.takes.items j ++ undelivered_from j w.undelivered)
    → links_of w.takes.items ≡ links_of b.takes.items → Works b w
works_undelivered b w node sends outboxes took links = record {
  history = [];
  work = ap work_of node;
  leads = sym (ap node_of node);
  takes = λ j. took j
      ∙ ap (λ l. l ++ undelivered_from j w.undelivered) (sym (append-nil (through b.takes.items j)));
  pushed = λ k. [];
  sends = λ k. ap (λ s. through s.items k) sends ∙ sym (append-nil (through b.sends.items k));
  outboxes = λ k lt. append-nil (waiting b.outboxes.items k) ∙ ap (λ o. waiting o.items k) (sym outboxes);
  same_sends = ap (λ s. links_of s.items) sends;
  same_takes = links;
  same_outboxes = ap (λ o. length o.items) outboxes;
}

pub on_ok : {A E P Q : Type 0} (r : Result A E) → (P → Q) → OnOk r P → OnOk r Q
on_ok (Ok a) f p = f p
on_ok (Err e) f p = p

pub links_len : (xs ys : List End) → links_of xs ≡ links_of ys → length xs ≡ length ys
links_len xs ys e = sym (length-map xs _) ∙ ap length e ∙ length-map ys _

pub rows_kept : (a b : Worker) → Works a b → HasRows a → HasRows b
rows_kept a b x h =
    let n : (work_of a.node).layout.nodes ≡ (work_of b.node).layout.nodes =
    sym (ap (λ (v : Work). v.layout.nodes) x.work) in
    record {
      sends = links_len b.sends.items a.sends.items x.same_sends ∙ h.sends ∙ n;
      takes = links_len b.takes.items a.takes.items x.same_takes ∙ h.takes ∙ n;
      outboxes = x.same_outboxes ∙ h.outboxes ∙ n;
    }
