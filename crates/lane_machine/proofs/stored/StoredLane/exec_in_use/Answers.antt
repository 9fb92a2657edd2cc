-- By the lemmas on a lane in use.
use Rattle.std.proofs.Common.{◌≡◌, ℕ, ◌+◌, ◌<◌, ◌∙◌, ap, subst, sym, refl, arith}
use Rattle.std.specs.Box.{with_value}
use Rattle.exec_map.specs.Contents.{program_of}
use Rattle.lane_model.specs.node_model.Node.{next_outcome}
use Rattle.node_machine.specs.node_words.declared.exec_state.ExecState.{ExecState}
use Rattle.node_machine.specs.node_words.Address.{word_address}
use Rattle.node_machine.specs.node_words.node_memory.Shelf.{ground_of, local_of}
use Rattle.node_machine.specs.node_words.Kept.{Follows, lane_of}
use Rattle.lane_machine.specs.declared.stored.StoredLane.{StoredLane}
use Rattle.lane_machine.specs.declared.stored.StoredShared.{StoredShared}
use Rattle.lane_machine.specs.Stored.{IsShared, work_of}
use Rattle.lane_machine.proofs.InUseLemmas.{held_on, in_use_turn, lane_on_is, shared_on_is, waits_on, work_on}
use Rattle.lane_machine.proofs.stored.StoredLane.exec_in_use.Goals as goal

-- the lane's next word leads to b, and to the word with an index
abbrev DoesAt : StoredLane → ExecState → ℕ → ExecState → Type 0
DoesAt m b next x = Follows m.state.image.now (next_outcome (program_of x.local.program) m.state.image.now
    (lane_of x.lane (word_address m.state.at)) (local_of x.local)) (ground_of x.local) (word_address next)
    b.lane b.local

pub returns-in-Some-clause-turn : goal.returns-in-Some-clause-turn
returns-in-Some-clause-turn c = λ yes l l' f f' s t x h.
    let m = c.args.self.now in
    let g = c.args.shared.now in
    let b = c.step_at.new.self in
    let steps = subst (DoesAt m b c.in-Some.at) c.deref_mut.ensures.value c.in-Some.ensures.steps in
    let counts = c.step_at.ensures.counts ∙ ap (λ (x : ExecState). x.counts) c.deref_mut.ensures.value in
    let budget = c.number.ensures.value in
    let below : m.state.executed + 1 < m.state.budget = omega (arith, budget) in
    (in_use_turn m g b c.in-Some.at c.requires.number steps counts l f s l' f' t x h c.requires.shared c.requires.idle
    c.requires.may c.requires.goes_on below c.requires.alone).0

pub returns-in-Some-clause-ended : goal.returns-in-Some-clause-ended
returns-in-Some-clause-ended c = λ yes l l' f f' s t x h.
    let m = c.args.self.now in
    let g = c.args.shared.now in
    let b = c.step_at.new.self in
    let steps = subst (DoesAt m b c.in-Some.at) c.deref_mut.ensures.value c.in-Some.ensures.steps in
    let counts = c.step_at.ensures.counts ∙ ap (λ (x : ExecState). x.counts) c.deref_mut.ensures.value in
    let budget = c.number.ensures.value in
    let below : m.state.executed + 1 < m.state.budget = omega (arith, budget) in
    (in_use_turn m g b c.in-Some.at c.requires.number steps counts l f s l' f' t x h c.requires.shared c.requires.idle
    c.requires.may c.requires.goes_on below c.requires.alone).1

pub returns-in-Some-clause-waits : goal.returns-in-Some-clause-waits
returns-in-Some-clause-waits c = λ yes.
    let m = c.args.self.now in
    let g = c.args.shared.now in
    let b = c.step_at.new.self in
    let steps = subst (DoesAt m b c.in-Some.at) c.deref_mut.ensures.value c.in-Some.ensures.steps in
    let counts = c.step_at.ensures.counts ∙ ap (λ (x : ExecState). x.counts) c.deref_mut.ensures.value in
    waits_on m g b c.in-Some.at c.requires.number steps counts c.requires.idle

pub returns-in-Some-clause-held : goal.returns-in-Some-clause-held
returns-in-Some-clause-held c = λ yes.
    let m = c.args.self.now in
    let g = c.args.shared.now in
    let b = c.step_at.new.self in
    let steps = subst (DoesAt m b c.in-Some.at) c.deref_mut.ensures.value c.in-Some.ensures.steps in
    let counts = c.step_at.ensures.counts ∙ ap (λ (x : ExecState). x.counts) c.deref_mut.ensures.value in
    held_on m g b c.in-Some.at c.requires.number steps counts

pub returns-in-Some-clause-work : goal.returns-in-Some-clause-work
returns-in-Some-clause-work c =
    let m = c.args.self.now in
    let g = c.args.shared.now in
    let b = c.step_at.new.self in
    let steps = subst (DoesAt m b c.in-Some.at) c.deref_mut.ensures.value c.in-Some.ensures.steps in
    let counts = c.step_at.ensures.counts ∙ ap (λ (x : ExecState). x.counts) c.deref_mut.ensures.value in
    work_on m g b c.in-Some.at c.requires.number steps counts

pub returns-in-Some-clause-lane : goal.returns-in-Some-clause-lane
returns-in-Some-clause-lane c =
    let m = c.args.self.now in
    let g = c.args.shared.now in
    let b = c.step_at.new.self in
    let steps = subst (DoesAt m b c.in-Some.at) c.deref_mut.ensures.value c.in-Some.ensures.steps in
    let counts = c.step_at.ensures.counts ∙ ap (λ (x : ExecState). x.counts) c.deref_mut.ensures.value in
    let budget = c.number.ensures.value in
    let below : m.state.executed + 1 < m.state.budget = omega (arith, budget) in
    lane_on_is m g b c.in-Some.at c.requires.number steps counts c.requires.lane below

pub returns-in-Some-clause-shared : goal.returns-in-Some-clause-shared
returns-in-Some-clause-shared c =
    let m = c.args.self.now in
    let g = c.args.shared.now in
    let b = c.step_at.new.self in
    let steps = subst (DoesAt m b c.in-Some.at) c.deref_mut.ensures.value c.in-Some.ensures.steps in
    let counts = c.step_at.ensures.counts ∙ ap (λ (x : ExecState). x.counts) c.deref_mut.ensures.value in
    shared_on_is m g b c.in-Some.at c.requires.number steps counts c.requires.shared

-- where the path that serves every word has to, the node is as it was

abbrev with_body : StoredShared → ExecState → StoredShared
with_body g b = record g { state = record g.state { body = with_value g.state.body b } }

kept_frame : (g : StoredShared) (b : ExecState) → b ≡ g.state.body.value → with_body g b ≡ g
kept_frame g b same = λ t. with_body g (same t)

none_changed : (c : goal.In-None) → with_body c.args.shared.now c.step_at.new.self ≡ c.args.shared.now
none_changed c = kept_frame c.args.shared.now c.step_at.new.self ((λ t. record {
  lane = c.in-None.ensures.steps.0 t;
  local = c.in-None.ensures.steps.1 t;
  counts = c.step_at.ensures.counts t;
  log = c.in-None.ensures.log refl t;
}) ∙ c.deref_mut.ensures.value)

pub returns-in-None-clause-kept : goal.returns-in-None-clause-kept
returns-in-None-clause-kept c = λ no. none_changed c

pub returns-in-None-clause-work : goal.returns-in-None-clause-work
returns-in-None-clause-work c = ap (work_of c.args.self.now) (none_changed c)

pub returns-in-None-clause-shared : goal.returns-in-None-clause-shared
returns-in-None-clause-shared c = subst IsShared (sym (none_changed c)) c.requires.shared
