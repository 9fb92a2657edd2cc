-- The first message that is left is sent on its channel, and the others follow.
use Rattle.std.proofs.Common.{refl, ◌≡◌, ℕ, ◌∷◌, ◌∙◌, [], List, true, false, eqb, sym, length, inl, inr, arith}
use Rattle.std.proofs.lemmas.Bool.Decides.{eqb_tells}
use Rattle.node_model.specs.dsm_messages.declared.messages.Post.{Post}
use Rattle.message_queues.proofs.Sending.{sent_next, sent_nowhere, sent_all}
use Rattle.message_queues.proofs.channel.send_all.Goals as goal

nothing_left : (posts : List Post) → length posts ≡ 0 → posts ≡ []
nothing_left [] e = refl
nothing_left (p ∷ posts) e = absurd (omega (arith, e))

is_zero : (k : ℕ) → eqb k 0 ≡ true → k ≡ 0
is_zero k e = elim (eqb_tells k 0) [
  | inl t ↦ t.1
  | inr t ↦ absurd (let bad : true ≡ false = sym e ∙ t.0 in cc)
]

pub loop-sends-init : goal.loop-sends-init
loop-sends-init g c =
    let len = c.len.ensures.value in
    let fits = c.len.ensures.fits in
    let fewer = g.met.C.Channel.fewer_fit in
    record {
      sent = record {
        count = refl;
        done = [];
        split = refl;
        sent = λ to d low. g.met.C.Channel.none_sent _;
        room = λ to d low. fewer _ (length c.args.sends.now.items) 18 (omega (arith, len, fits))
            (c.requires.room to d low);
        others = λ k d none. refl;
      };
    }

pub loop-sends-preserved-in-Continue-1 : goal.loop-sends-preserved-in-Continue-1
loop-sends-preserved-in-Continue-1 g c = record {
  sent = sent_next g.C.Channel.has_sent g.C.Channel.has_room c.args.channels.now.items
      c.loop-sends.channels.items c.args.first c.args.nodes c.args.stamp c.args.sends.now.items
      c.loop-sends.sends.items c.remove-post.new.self.items c.remove-post.result
      c.remove-post.ensures.value c.remove-post.ensures.items c.remove-post.ensures.len
      g.met.C.Channel.fewer_fit c.loop-sends.invariant.sent c.from-to.result
      c.index_mut.result.now c.send.new.self c.from-to.ensures c.requires.channels
      c.if-to-nodes.true c.index_mut.ensures.value c.in_ok-send.ensures.sent
      c.in_ok-send.ensures.room;
}

pub loop-sends-preserved-else-to-nodes : goal.loop-sends-preserved-else-to-nodes
loop-sends-preserved-else-to-nodes g c = record {
  sent = sent_nowhere g.C.Channel.has_sent g.C.Channel.has_room c.args.channels.now.items
      c.loop-sends.channels.items c.args.first c.args.nodes c.args.stamp c.args.sends.now.items
      c.loop-sends.sends.items c.remove-post.new.self.items c.remove-post.result
      c.remove-post.ensures.value c.remove-post.ensures.items c.remove-post.ensures.len
      g.met.C.Channel.fewer_fit c.loop-sends.invariant.sent c.from-to.result c.from-to.ensures
      c.if-to-nodes.false;
}

pub loop-sends-preserved-else-to-nodes-2 : goal.loop-sends-preserved-else-to-nodes-2
loop-sends-preserved-else-to-nodes-2 g c = record {
  sent = sent_nowhere g.C.Channel.has_sent g.C.Channel.has_room c.args.channels.now.items
      c.loop-sends.channels.items c.args.first c.args.nodes c.args.stamp c.args.sends.now.items
      c.loop-sends.sends.items c.remove-post.new.self.items c.remove-post.result
      c.remove-post.ensures.value c.remove-post.ensures.items c.remove-post.ensures.len
      g.met.C.Channel.fewer_fit c.loop-sends.invariant.sent c.from-to.result c.from-to.ensures
      c.if-to-nodes.false;
}

pub loop-sends-preserved-else-to-nodes-3 : goal.loop-sends-preserved-else-to-nodes-3
loop-sends-preserved-else-to-nodes-3 g c = record {
  sent = sent_nowhere g.C.Channel.has_sent g.C.Channel.has_room c.args.channels.now.items
      c.loop-sends.channels.items c.args.first c.args.nodes c.args.stamp c.args.sends.now.items
      c.loop-sends.sends.items c.remove-post.new.self.items c.remove-post.result
      c.remove-post.ensures.value c.remove-post.ensures.items c.remove-post.ensures.len
      g.met.C.Channel.fewer_fit c.loop-sends.invariant.sent c.from-to.result c.from-to.ensures
      c.if-to-nodes.false;
}

pub loop-sends-preserved-else-to-nodes-4 : goal.loop-sends-preserved-else-to-nodes-4
loop-sends-preserved-else-to-nodes-4 g c = record {
  sent = sent_nowhere g.C.Channel.has_sent g.C.Channel.has_room c.args.channels.now.items
      c.loop-sends.channels.items c.args.first c.args.nodes c.args.stamp c.args.sends.now.items
      c.loop-sends.sends.items c.remove-post.new.self.items c.remove-post.result
      c.remove-post.ensures.value c.remove-post.ensures.items c.remove-post.ensures.len
      g.met.C.Channel.fewer_fit c.loop-sends.invariant.sent c.from-to.result c.from-to.ensures
      c.if-to-nodes.false;
}

pub loop-sends-preserved-else-to-nodes-5 : goal.loop-sends-preserved-else-to-nodes-5
loop-sends-preserved-else-to-nodes-5 g c = record {
  sent = sent_nowhere g.C.Channel.has_sent g.C.Channel.has_room c.args.channels.now.items
      c.loop-sends.channels.items c.args.first c.args.nodes c.args.stamp c.args.sends.now.items
      c.loop-sends.sends.items c.remove-post.new.self.items c.remove-post.result
      c.remove-post.ensures.value c.remove-post.ensures.items c.remove-post.ensures.len
      g.met.C.Channel.fewer_fit c.loop-sends.invariant.sent c.from-to.result c.from-to.ensures
      c.if-to-nodes.false;
}

pub loop-sends-preserved-else-to-nodes-6 : goal.loop-sends-preserved-else-to-nodes-6
loop-sends-preserved-else-to-nodes-6 g c = record {
  sent = sent_nowhere g.C.Channel.has_sent g.C.Channel.has_room c.args.channels.now.items
      c.loop-sends.channels.items c.args.first c.args.nodes c.args.stamp c.args.sends.now.items
      c.loop-sends.sends.items c.remove-post.new.self.items c.remove-post.result
      c.remove-post.ensures.value c.remove-post.ensures.items c.remove-post.ensures.len
      g.met.C.Channel.fewer_fit c.loop-sends.invariant.sent c.from-to.result c.from-to.ensures
      c.if-to-nodes.false;
}

pub loop-sends-preserved : goal.loop-sends-preserved
loop-sends-preserved g c = record {
  sent = sent_nowhere g.C.Channel.has_sent g.C.Channel.has_room c.args.channels.now.items
      c.loop-sends.channels.items c.args.first c.args.nodes c.args.stamp c.args.sends.now.items
      c.loop-sends.sends.items c.remove-post.new.self.items c.remove-post.result
      c.remove-post.ensures.value c.remove-post.ensures.items c.remove-post.ensures.len
      g.met.C.Channel.fewer_fit c.loop-sends.invariant.sent c.from-to.result c.from-to.ensures
      c.if-to-nodes.false;
}

pub returns-clause-sent : goal.returns-clause-sent
returns-clause-sent g c = λ to d low.
    let empty = c.is_empty.ensures in
    let done = c.loop-sends-test.false in
    let none : c.loop-sends.sends.items ≡ [] =
    nothing_left c.loop-sends.sends.items (is_zero (length c.loop-sends.sends.items) (sym empty ∙ done)) in
    sent_all g.C.Channel.has_sent g.C.Channel.has_room c.args.channels.now.items
    c.loop-sends.channels.items c.args.first c.args.nodes c.args.stamp c.args.sends.now.items
    c.loop-sends.sends.items none c.loop-sends.invariant.sent to d low
