use Rattle.std.proofs.Common.{◌≡◌, ◌∙◌, ℕ, ap, sym, refl, [], ◌∷◌, Option, Some, None, arith}
use Rattle.node_words.specs.dsm_messages.declared.messages.Post.{Post}
use Rattle.node_words.specs.home_directory.declared.wait.Wait.{Wait}
use Rattle.node_words.specs.home_directory.Table.{Miss}
use Rattle.state_table.specs.States.{state_of}
use Rattle.node_words.specs.miss_handlers.Effects.{miss_of, post_of}
use Rattle.node_words.specs.miss_handlers.Waits.{wait_of}
use Rattle.node_words.specs.node_model.declared.NodeCounts.{NodeCounts}
use Rattle.node_words.specs.dsm_messages.declared.messages.Need.{Need}
use Rattle.state_table.specs.declared.State.{State}
use Rattle.node_words.specs.declared.exec_state.ExecState.{ExecState}
use Rattle.node_machine.specs.declared.protocol_state.ProtocolState.{ProtocolState}
use Rattle.node_words.specs.node_model.Turns.{count_want}
use Rattle.node_machine.proofs.BlockLemmas.{LineLaws}
use Rattle.node_machine.proofs.ProtocolLemmas.{HasWanted, want_turn, posts_of, counts_if, others_wait, waits_grow}
use Rattle.node_machine.proofs.protocol_state.ProtocolState.want_block.Goals as goal

none_post : (miss : Option Miss) → None ≡ post_of miss → miss ≡ None
none_post None e = refl
none_post (Some m) e = absurd (cc)

some_post : (miss : Option Miss) (p : Post) → Some p ≡ post_of miss → posts_of miss ≡ p ∷ []
some_post None p e = absurd (cc)
some_post (Some m) p e = cc

some_counts : (miss : Option Miss) (p : Post) (need : Need) (st : State) (c : NodeCounts) → Some p ≡ post_of miss
    → counts_if miss need st c ≡ count_want need st c
some_counts None p need st c e = absurd (cc)
some_counts (Some m) p need st c e = refl

pub returns-in-None-clause-turn : goal.returns-in-None-clause-turn
returns-in-None-clause-turn c n before p =
    let body = c.args.body.now in
    let d = c.args.self.now in
    let law = c.layout_law.ensures in
    let laws : LineLaws = record { ends = law.ends; has = law.has; found = law.found; shared = law.shared; some = law.some } in
    let body' : ExecState = record body { local = c.want.new.self; counts = body.counts } in
    let d' : ProtocolState = record { directory = d.directory; waits = c.want.new.waits; pool = c.want.new.pool } in
    let miss = miss_of d.waits body.local.states d.pool c.args.block c.args.need in
    let none : miss ≡ None = none_post miss c.in-None.ensures.post in
    let w : HasWanted d d' body.local c.want.new.self c.args.block c.args.need [] miss = record {
      sends = sym (ap posts_of none);
      state = c.in-None.ensures.state;
      wait = c.in-None.ensures.wait;
      directory = refl;
      states_layout = c.in-None.ensures.states_layout;
      classes = c.in-None.ensures.classes;
      copy = c.in-None.ensures.copy;
      reservation = c.in-None.ensures.reservation;
    } in
    want_turn laws n before p body body' d d' [] c.args.block c.args.need c.requires.protocol c.laws.ensures c.requires.block w
    (sym (ap (λ (x : Option Miss). counts_if x c.args.need (state_of body.local.states c.args.block) body.counts) none))

pub returns-in-Some-clause-turn : goal.returns-in-Some-clause-turn
returns-in-Some-clause-turn c n before p =
    let body = c.args.body.now in
    let d = c.args.self.now in
    let law = c.layout_law.ensures in
    let laws : LineLaws = record { ends = law.ends; has = law.has; found = law.found; shared = law.shared; some = law.some } in
    let body' : ExecState = record body { local = c.want.new.self; counts = c.count_want-body.result } in
    let d' : ProtocolState = record { directory = d.directory; waits = c.want.new.waits; pool = c.want.new.pool } in
    let miss = miss_of d.waits body.local.states d.pool c.args.block c.args.need in
    let w : HasWanted d d' body.local c.want.new.self c.args.block c.args.need (c.in-Some.post ∷ []) miss = record {
      sends = sym (some_post miss c.in-Some.post c.in-Some.ensures.post);
      state = c.in-Some.ensures.state;
      wait = c.in-Some.ensures.wait;
      directory = refl;
      states_layout = c.in-Some.ensures.states_layout;
      classes = c.in-Some.ensures.classes;
      copy = c.in-Some.ensures.copy;
      reservation = c.in-Some.ensures.reservation;
    } in
    want_turn laws n before p body body' d d' (c.in-Some.post ∷ []) c.args.block c.args.need c.requires.protocol c.laws.ensures c.requires.block w
    (c.count_want-body.ensures ∙ ap (λ (x : State). count_want c.args.need x body.counts) c.block_state-state.ensures
    ∙ sym (some_counts miss c.in-Some.post c.args.need (state_of body.local.states c.args.block) body.counts c.in-Some.ensures.post))

pub returns-in-None-clause-more : goal.returns-in-None-clause-more
returns-in-None-clause-more c =
    let d = c.args.self.now in
    let few = c.requires.few in
    let buffers = c.requires.protocol.buffers in
    (waits_grow d.pool c.want.new.pool d.waits c.want.new.waits (miss_of d.waits c.args.body.now.local.states d.pool c.args.block c.args.need)
    c.in-None.ensures.pool c.in-None.ensures.count (omega (arith, few, buffers))).0

pub returns-in-None-clause-one : goal.returns-in-None-clause-one
returns-in-None-clause-one c =
    let d = c.args.self.now in
    let few = c.requires.few in
    let buffers = c.requires.protocol.buffers in
    (waits_grow d.pool c.want.new.pool d.waits c.want.new.waits (miss_of d.waits c.args.body.now.local.states d.pool c.args.block c.args.need)
    c.in-None.ensures.pool c.in-None.ensures.count (omega (arith, few, buffers))).1

pub returns-in-None-clause-others : goal.returns-in-None-clause-others
returns-in-None-clause-others c b apart =
    let d = c.args.self.now in
    ap (λ (g : ℕ → Option Wait). g b) c.in-None.ensures.wait
    ∙ others_wait (wait_of d.waits) c.args.block b (miss_of d.waits c.args.body.now.local.states d.pool c.args.block c.args.need) apart

pub returns-in-Some-clause-more : goal.returns-in-Some-clause-more
returns-in-Some-clause-more c =
    let d = c.args.self.now in
    let few = c.requires.few in
    let buffers = c.requires.protocol.buffers in
    (waits_grow d.pool c.want.new.pool d.waits c.want.new.waits (miss_of d.waits c.args.body.now.local.states d.pool c.args.block c.args.need)
    c.in-Some.ensures.pool c.in-Some.ensures.count (omega (arith, few, buffers))).0

pub returns-in-Some-clause-one : goal.returns-in-Some-clause-one
returns-in-Some-clause-one c =
    let d = c.args.self.now in
    let few = c.requires.few in
    let buffers = c.requires.protocol.buffers in
    (waits_grow d.pool c.want.new.pool d.waits c.want.new.waits (miss_of d.waits c.args.body.now.local.states d.pool c.args.block c.args.need)
    c.in-Some.ensures.pool c.in-Some.ensures.count (omega (arith, few, buffers))).1

pub returns-in-Some-clause-others : goal.returns-in-Some-clause-others
returns-in-Some-clause-others c b apart =
    let d = c.args.self.now in
    ap (λ (g : ℕ → Option Wait). g b) c.in-Some.ensures.wait
    ∙ others_wait (wait_of d.waits) c.args.block b (miss_of d.waits c.args.body.now.local.states d.pool c.args.block c.args.need) apart
