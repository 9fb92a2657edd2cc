use Rattle.std.proofs.Common.{List, refl, sym, ap, ◌∙◌, subst, All}
use Rattle.node_memory.specs.exec_map.Contents.{program_of}
use Rattle.rv32_program.specs.Program.{Program}
use Rattle.node_words.specs.declared.store_log.Note.{Note}
use Rattle.node_words.specs.UndoLogs.{IsAlignedNote, held_of, taken_back, undone}
use Rattle.node_words.proofs.UndoLogLemmas.{store_back, taken_back_push, seen_program, aligned_last, aligned_front, no_note}
use Rattle.node_words.proofs.exec_state.ExecState.put_back.Goals as goal

pub loop-note-init : goal.loop-note-init
loop-note-init c = record {
  aligned = c.requires.aligned;
  held = refl;
  same = (refl, refl);
  ground = refl;
  counts = refl;
}

pub store-requires : goal.store-requires
store-requires c = aligned_last c.pop.new.self.items c.in-Some.note (subst (All IsAlignedNote) c.in-Some.ensures.items c.loop-note.invariant.aligned)

pub loop-note-preserved : goal.loop-note-preserved
loop-note-preserved c =
    let l = c.loop-note in
    let n = c.in-Some.note in
    let p = program_of c.args.self.now.local.program in
    let ns = c.pop.new.self.items in
    let done = store_back 0 l.self.lane l.self.local c.store.new.self.lane c.store.new.self.local n (c.store.ensures.leaves 0) in
    let program = seen_program l.self.local c.args.self.now.local l.invariant.ground in
    let same = l.invariant.same in
    record {
      aligned = aligned_front ns n (subst (All IsAlignedNote) c.in-Some.ensures.items l.invariant.aligned);
      held = ap (taken_back p ns) (done.0 ∙ ap (λ (q : Program). undone q n (held_of l.self.lane l.self.local)) program)
          ∙ sym (taken_back_push p ns n (held_of l.self.lane l.self.local))
          ∙ ap (λ (xs : List Note). taken_back p xs (held_of l.self.lane l.self.local)) (sym c.in-Some.ensures.items)
          ∙ l.invariant.held;
      same = (done.1.0 ∙ same.0, done.1.1 ∙ same.1);
      ground = (c.store.ensures.leaves 0).ground_same ∙ l.invariant.ground;
      counts = c.store.ensures.counts ∙ l.invariant.counts;
    }

pub returns-clause-held : goal.returns-clause-held
returns-clause-held c =
    let l = c.loop-note in
    let p = program_of c.args.self.now.local.program in
    ap (λ (xs : List Note). taken_back p xs (held_of l.self.lane l.self.local)) (sym (no_note l.notes.items (sym l.notes.ok.0 ∙ c.in_default.ensures.cases.0))) ∙ l.invariant.held

pub returns-clause-state : goal.returns-clause-state
returns-clause-state c = c.loop-note.invariant.same.0

pub returns-clause-reservation : goal.returns-clause-reservation
returns-clause-reservation c = c.loop-note.invariant.same.1

pub returns-clause-ground : goal.returns-clause-ground
returns-clause-ground c = c.loop-note.invariant.ground

pub returns-clause-counts : goal.returns-clause-counts
returns-clause-counts c = c.loop-note.invariant.counts
