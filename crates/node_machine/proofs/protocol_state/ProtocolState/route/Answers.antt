use Rattle.std.proofs.Common.{List, sym, refl, subst}
use Rattle.node_words.specs.dsm_messages.declared.messages.Post.{Post}
use Rattle.node_words.specs.dsm_messages.declared.messages.Message.{Message}
use Rattle.node_words.specs.miss_handlers.Effects.{HasEffect, message_effect}
use Rattle.node_machine.specs.declared.protocol_state.ProtocolState.{ProtocolState}
use Rattle.node_words.specs.node_memory.Blocks.{blocks_at}
use Rattle.node_machine.specs.ProtocolState.{HasRouted}
use Rattle.node_machine.proofs.ProtocolLemmas.{others_routed, protocol_other}
use Rattle.node_machine.proofs.protocol_state.ProtocolState.route.Goals as goal

pub returns-in-Read-clause-routed : goal.returns-in-Read-clause-routed
returns-in-Read-clause-routed c =
    let d = c.args.self.now in
    let d' : ProtocolState = record { directory = c.ask_into.new.self; waits = d.waits; pool = d.pool } in
    subst (λ (m : Message). HasRouted c.args.local.now.copy.layout d d' c.args.local.now c.args.local.now c.ask_into.new.sends.items c.args.from m) (sym c.in-Read.is)
    (record {
      entries = c.ask_into.ensures.entries;
      sends = c.ask_into.ensures.sends;
      layout = c.ask_into.ensures.layout;
      me = c.ask_into.ensures.me;
      waits = refl;
      pool = refl;
      shelf = refl;
    })

pub returns-in-Write-clause-routed : goal.returns-in-Write-clause-routed
returns-in-Write-clause-routed c =
    let d = c.args.self.now in
    let d' : ProtocolState = record { directory = c.ask_into-in-Write.new.self; waits = d.waits; pool = d.pool } in
    subst (λ (m : Message). HasRouted c.args.local.now.copy.layout d d' c.args.local.now c.args.local.now c.ask_into-in-Write.new.sends.items c.args.from m) (sym c.in-Write.is)
    (record {
      entries = c.ask_into-in-Write.ensures.entries;
      sends = c.ask_into-in-Write.ensures.sends;
      layout = c.ask_into-in-Write.ensures.layout;
      me = c.ask_into-in-Write.ensures.me;
      waits = refl;
      pool = refl;
      shelf = refl;
    })

pub returns-in-Done-clause-routed : goal.returns-in-Done-clause-routed
returns-in-Done-clause-routed c =
    let d = c.args.self.now in
    let d' : ProtocolState = record { directory = c.done_into.new.self; waits = d.waits; pool = d.pool } in
    subst (λ (m : Message). HasRouted c.args.local.now.copy.layout d d' c.args.local.now c.args.local.now c.done_into.new.sends.items c.args.from m) (sym c.in-Done.is)
    (record {
      entries = c.done_into.ensures.entries;
      sends = c.done_into.ensures.sends;
      layout = c.done_into.ensures.layout;
      me = c.done_into.ensures.me;
      waits = refl;
      pool = refl;
      shelf = refl;
    })

pub returns-in_default-clause-routed : goal.returns-in_default-clause-routed
returns-in_default-clause-routed c =
    let d = c.args.self.now in
    let s = c.args.local.now in
    let d' : ProtocolState = record { directory = d.directory; waits = c.reply-post.new.waits; pool = c.reply-post.new.pool } in
    let posts = c.push_some.new.sends.items in
    others_routed d d' s c.reply-post.new.self posts c.args.from c.args.message
    c.in_default.not-Read c.in_default.not-Write c.in_default.not-Done (record {
      done = subst (λ l. HasEffect (blocks_at c.reply-post.new.waits c.reply-post.new.self) posts (message_effect l (blocks_at d.waits s) c.args.from c.args.message)) c.requires.protocol.waits
          (subst (λ (ps : List Post). HasEffect (blocks_at c.reply-post.new.waits c.reply-post.new.self) ps (message_effect d.waits.layout (blocks_at d.waits s) c.args.from c.args.message)) (sym c.push_some.ensures.value) c.reply-post.ensures.effect);
      directory = refl;
      states_layout = c.reply-post.ensures.states_layout;
      classes = c.reply-post.ensures.classes;
      copy_layout = c.reply-post.ensures.copy_layout;
      program = c.reply-post.ensures.program;
    })

pub returns-in_default-clause-protocol : goal.returns-in_default-clause-protocol
returns-in_default-clause-protocol c =
    let d = c.args.self.now in
    let s = c.args.local.now in
    let d' : ProtocolState = record { directory = d.directory; waits = c.reply-post.new.waits; pool = c.reply-post.new.pool } in
    protocol_other s.copy.layout d d' (message_effect d.waits.layout (blocks_at d.waits s) c.args.from c.args.message).gives_back
    c.requires.protocol refl c.reply-post.ensures.pool c.reply-post.ensures.count c.reply-post.ensures.layout

pub returns-in_default-clause-ground : goal.returns-in_default-clause-ground
returns-in_default-clause-ground c = λ t. record { program = c.reply-post.ensures.program t; layout = c.reply-post.ensures.copy_layout t }
