-- Each list of the loop was empty.
use Rattle.std.proofs.Common.{◌≡◌, ◌≢◌, true, false, List, [], ◌∷◌, refl, sym, subst, inl, inr, arith}
use Rattle.std.proofs.lemmas.Bool.Decides.{eqb_tells}
use Rattle.node_model.specs.dsm_messages.declared.messages.Wire.{Wire}
use Rattle.message_queues.specs.Queue.{wires_of}
use Rattle.message_queues.proofs.lists.has_mail.Goals as goal

not_some : (ws : List Wire) → (ws ≢ [] → ⊥) → ws ≡ []
not_some [] none = refl
not_some (w ∷ ws) none = absurd (none (λ e. absurd (cc)))

pub returns-then-has_wire : goal.returns-then-has_wire
returns-then-has_wire c = record {
  value = (
    λ t. (let bad : true ≡ false = t in absurd (cc)),
    λ none. absurd (c.has_wire.ensures.value.0 c.if-has_wire.true
        (none c.loop-from.from c.loop-from-test.true)),
  );
}

pub loop-from-preserved : goal.loop-from-preserved
loop-from-preserved c = record {
  empty = λ j below. elim (eqb_tells j c.loop-from.from) [
    | inl t ↦ subst (λ k. wires_of c.args.queues.now c.args.nodes k c.args.node ≡ []) (sym t.1)
        (not_some (wires_of c.args.queues.now c.args.nodes c.loop-from.from c.args.node)
        (λ some. (let is = c.has_wire.ensures.value.1 some in
        let isnt = c.if-has_wire.false in absurd (cc))))
    | inr t ↦ c.loop-from.invariant.empty j (let other = t.1 in omega (arith, other, below))
  ];
}
