use Rattle.std.proofs.Common.{◌+◌, [], ◌∷◌, ◌++◌, map, refl, sym, ap, ◌∙◌, arith, append-nil}
use Rattle.std.specs.Prelude.{option_to_list}
use Rattle.templates.specs.Code.{code_of}
use Rattle.templates.specs.Runs.{code_from}
use Rattle.templates.specs.Expansion.{reads}
use Rattle.templates.proofs.RunLemmas.{from_step}
use Rattle.templates.proofs.BatchLemmas.{run_longer}
use Rattle.templates.proofs.batches.push_run.Goals as goal
use Rattle.templates.proofs.batches.push_run.Goals.{in-Some, in_default}

pub loop-k-preserved : goal.loop-k-preserved
loop-k-preserved c =
    let code = code_of c.args.code.now in
    let a = c.args.address in
    let k = c.loop-k.k in
    let h = c.loop-k.invariant in
    let count = h.count in
    elim c.match-behind.branch [
      | in-Some w ↦ (let there = sym c.behind.ensures.value ∙ w.in-Some.is in
          let more = from_step code a k (k + 1) refl ∙ ap (λ o. code_from code a k ++ option_to_list o) there in
          let one = w.push_native.ensures.count in
          rw w.sequence-is (record {
            words = run_longer c.args.sequence.now.items c.loop-k.sequence.items w.push_native.new.sequence.items
                (code_from code a k) (w.in-Some.i ∷ []) (code_from code a (k + 1)) more h.words w.push_native.ensures.words;
            count = omega (arith, count, one);
          }))
      | in_default w ↦ (let there = sym c.behind.ensures.value ∙ w.in_default.is in
          let more = from_step code a k (k + 1) refl ∙ ap (λ o. code_from code a k ++ option_to_list o) there in
          let same = sym (append-nil (map reads c.loop-k.sequence.items)) in
          rw w.sequence-is (record {
            words = run_longer c.args.sequence.now.items c.loop-k.sequence.items c.loop-k.sequence.items
                (code_from code a k) [] (code_from code a (k + 1)) more h.words same;
            count = omega (arith, count);
          }))
    ]
