-- History of a node, one after another.
use Rattle.std.proofs.Common.{◌≡◌, ℕ, zero, suc, Bool, true, false, cond, eqb, List, [], ◌∷◌, ◌++◌, refl, ap, ◌∙◌, sym, subst, append_assoc}
use Rattle.dsm_messages.specs.declared.messages.Wire.{Wire}
use Rattle.dsm_protocol.specs.node_model.declared.Standing.TheVariants as standing
use Rattle.dsm_protocol.specs.node_model.Node.{Work, Node, Phase, Running, Resumed, Waiting, Ended, standing_in, is_at_poll, has_all_byes, can_execute}
use Rattle.dsm_protocol.specs.node_model.Turns.{Turn, word_turn}
use Rattle.dsm_protocol.specs.node_model.Core.{wires_to, may_execute}
use Rattle.dsm_core.specs.node_machine.Runs.{GoesOnBy}
use Rattle.dsm_core.specs.run_order.Apart.{LocalEvent, Executes, Takes, LeadsBy, turn_of, taken_from, sent_to}

pub leads_append : (work : Work) (n u m : Node) (ds es : List LocalEvent) → LeadsBy work n ds u
    → LeadsBy work u es m → LeadsBy work n (ds ++ es) m
leads_append work n u m [] es a b = subst (λ x. LeadsBy work x es m) (sym a) b
leads_append work n u m (d ∷ ds) es a b =
    (a.0, leads_append work (turn_of work n d).node u m ds es a.1 b)

push : (t : Bool) (w : Wire) (a b : List Wire)
    → cond t (w ∷ (a ++ b)) (a ++ b) ≡ cond t (w ∷ a) a ++ b
push true w a b = refl
push false w a b = refl

pub taken_append : (j : ℕ) (ds es : List LocalEvent)
    → taken_from j (ds ++ es) ≡ taken_from j ds ++ taken_from j es
taken_append j [] es = refl
taken_append j (Executes ∷ ds) es = taken_append j ds es
taken_append j (Takes i wire ∷ ds) es =
    ap (λ l. cond (eqb i j) (wire ∷ l) l) (taken_append j ds es)
    ∙ push (eqb i j) wire (taken_from j ds) (taken_from j es)

pub sent_append : (work : Work) (k : ℕ) (n u : Node) (ds es : List LocalEvent) → LeadsBy work n ds u
    → sent_to work k n (ds ++ es) ≡ sent_to work k n ds ++ sent_to work k u es
sent_append work k n u [] es a = ap (λ x. sent_to work k x es) a
sent_append work k n u (d ∷ ds) es a =
    let t = turn_of work n d in
    ap (λ l. wires_to t.node.stamp k t.sends ++ l) (sent_append work k t.node u ds es a.1)
    ∙ sym (append_assoc (wires_to t.node.stamp k t.sends) (sent_to work k t.node ds)
    (sent_to work k u es))

end_cannot : (byes : Bool) → may_execute (cond byes standing.Over standing.Ended) ≡ false
end_cannot true = refl
end_cannot false = refl

poll_may : (polls : Bool) → may_execute (cond polls standing.AtPoll standing.Running) ≡ true
poll_may true = refl
poll_may false = refl

-- a node with a phase of execution may execute a word
pub may_by : (work : Work) (n : Node) (p : Phase) → can_execute p ≡ true
    → may_execute (standing_in work n p) ≡ true
may_by work n Running can = poll_may (is_at_poll work n)
may_by work n Resumed can = refl
may_by work n (Waiting resume) can = can
may_by work n (Ended end) can = end_cannot (has_all_byes work n) ∙ can

-- so many words
abbrev pub words_of : ℕ → List LocalEvent
words_of zero = []
words_of (suc k) = Executes ∷ words_of k

pub words_lead : (work : Work) (words : ℕ) (n m : Node) → GoesOnBy work words n m
    → LeadsBy work n (words_of words) m
words_lead work zero n m on = on
words_lead work (suc k) n m on =
    (may_by work n n.phase on.0, words_lead work k (word_turn work n).node m on.2)

pub words_take : (j words : ℕ) → taken_from j (words_of words) ≡ []
words_take j zero = refl
words_take j (suc k) = words_take j k

-- words that go on send nothing
pub words_send : (work : Work) (k words : ℕ) (n m : Node) → GoesOnBy work words n m
    → sent_to work k n (words_of words) ≡ []
words_send work k zero n m on = refl
words_send work k (suc i) n m on =
    let next = (word_turn work n).node in
    ap (λ (t : Turn). wires_to next.stamp k t.sends ++ sent_to work k next (words_of i)) on.1
    ∙ words_send work k i next m on.2
