use Rattle.std.proofs.Common.{◌≡◌, ◌+◌, ℕ, true, false, sym, ap, ◌∙◌, refl, subst, Some}
use Rattle.node_memory.specs.exec_map.Contents.{program_of}
use Rattle.node_memory.specs.node_model.Node.{WordOutcome, Next, only_moves, lane_after_call, put_byte, is_mapped_state, is_readable_state}
use Rattle.node_memory.specs.Shelf.{ground_of, local_of}
use Rattle.node_words.specs.Kept.{Does, lane_of}
use Rattle.node_words.specs.declared.lane.Move.TheVariants as again
use Rattle.node_words.specs.declared.lane.Tally.TheVariants as counted
use Rattle.node_words.proofs.StepLemmas.{put_mapped, put_unmapped, put_waits}
use Rattle.node_words.proofs.exec_state.ExecState.put.Goals as goal

pub returns-then-not-is_mapped-clause-does : goal.returns-then-not-is_mapped-clause-does
returns-then-not-is_mapped-clause-does c at =
    let b = c.args.self.now in
    let program = program_of b.local.program in
    let l = lane_of b.lane at in
    let n = local_of b.local in
    let x = c.state-state.result in
    let mapped : is_mapped_state x ≡ false = sym c.is_mapped.ensures ∙ c.if-not-is_mapped.true in
    let is = sym (put_unmapped program l n c.args.address x mapped) ∙ ap (put_byte program l n c.args.address) c.state-state.ensures in
    subst (λ (o : WordOutcome). Does o (ground_of b.local) at c.return_with.new.self.lane c.return_with.new.self.local c.return_with.result) is
    (subst (λ (v : ℕ). Does (only_moves (lane_after_call l v) n Next) (ground_of b.local) at c.return_with.new.self.lane c.return_with.new.self.local c.return_with.result) c.cut_short.ensures (c.return_with.ensures.does at))

pub returns-then-not-is_readable-clause-does : goal.returns-then-not-is_readable-clause-does
returns-then-not-is_readable-clause-does c at =
    let b = c.args.self.now in
    let program = program_of b.local.program in
    let l = lane_of b.lane at in
    let n = local_of b.local in
    let x = c.state-state.result in
    let mapped : is_mapped_state x ≡ true = sym c.is_mapped.ensures ∙ c.if-not-is_mapped.false in
    let readable : is_readable_state x ≡ false = sym c.is_readable.ensures ∙ c.if-not-is_readable.true in
    let is = sym (put_waits program l n c.args.address x mapped readable) ∙ ap (put_byte program l n c.args.address) c.state-state.ensures in
    subst (λ (o : WordOutcome). Does o (ground_of b.local) at b.lane b.local c.wait_for.result) is
    (rw c.wait_for.ensures (record {
      leaves = record { lane = refl; local = refl; ground_same = refl };
      output = refl;
      tally = refl;
      move = refl;
    }))

pub returns-clause-does : goal.returns-clause-does
returns-clause-does c at =
    let b = c.args.self.now in
    let program = program_of b.local.program in
    let l = lane_of b.lane at in
    let n = local_of b.local in
    let x = c.state-state.result in
    let mapped : is_mapped_state x ≡ true = sym c.is_mapped.ensures ∙ c.if-not-is_mapped.false in
    let readable : is_readable_state x ≡ true = sym c.is_readable.ensures ∙ c.if-not-is_readable.false in
    let is = sym (put_mapped program l n c.args.address x mapped readable) ∙ ap (put_byte program l n c.args.address) c.state-state.ensures in
    subst (λ (o : WordOutcome). Does o (ground_of b.local) at (record b.lane { written = b.lane.written + 1 }) b.local (record { output = Some c.byte-byte.result; tally = counted.Nothing; next = again.Again })) is
    (record {
      leaves = record { lane = refl; local = refl; ground_same = refl };
      output = ap (λ (v : ℕ). Some v) (c.byte-byte.ensures at);
      tally = refl;
      move = refl;
    })
