use Rattle.std.proofs.Common.{[], ◌∷◌, ◌++◌, ℕ, List, take, sym, ap, ◌∙◌, subst, arith}
use Rattle.rv32_lines.specs.Reading.{IsReadStatement}
use Rattle.rv32_asm.specs.Places.{here}
use Rattle.rv32_asm.specs.Standing.{found_in, IsFound}
use Rattle.rv32_asm.proofs.Going.{cut_at}
use Rattle.rv32_asm.proofs.Labelling.{named_next, names_insert, names_again, names_kept, all_named, none_of, some_of}
use Rattle.rv32_asm.proofs.labels.Labels.of.Goals as goal
use Rattle.rv32_asm.proofs.labels.Labels.of.Goals.{in-Label+then-not-contains_key+in_ok-insert, in-Label+else-not-contains_key, in_default}

pub loop-line-preserved : goal.loop-line-preserved
loop-line-preserved c = record {
  room = omega (arith, c.loop-line.invariant.room, c.behind-place.ensures.grows);
  so_far = λ all r.
      let h = c.loop-line.invariant.so_far all r in
      let x = c.index-statements-line.result in
      let cut = cut_at c.args.statements.now all c.loop-line.line x r (omega (arith, c.loop-line-test.true))
      (sym c.index-statements-line.is) in
      let ss = take c.loop-line.line all in
      named_next c.args.statements.now all c.loop-line.line x c.loop-line.place c.behind-place.result c.loop-line.first
      c.match-statement.first cut h c.behind-place.ensures.value
      (elim c.match-statement.branch [
        | in-Label+then-not-contains_key+in_ok-insert w ↦
            subst (λ f. (name : List ℕ) → IsFound ss name (found_in c.loop-line.first name)
            → IsFound (ss ++ cut.statement ∷ []) name (found_in f name)) (sym w.first-is)
            (names_insert ss c.loop-line.first w.insert.new.self w.in-Label.name
            (record { line = c.loop-line.line; address = w.here-address.result }) cut.statement h.names
            (none_of w.contains_key.result (found_in c.loop-line.first w.in-Label.name.now) w.contains_key.ensures
            w.if-not-contains_key.true)
            (sym cut.count) (w.here-address.ensures.value ∙ ap here h.place_is)
            (λ name. w.in_ok-insert.ensures.updates.0 (record { ref_ptr = w.in-Label.name.ref_ptr; now = name }))
            (subst (λ x. IsReadStatement x cut.statement) w.in-Label.is cut.read_so))
        | in-Label+else-not-contains_key w ↦
            subst (λ f. (name : List ℕ) → IsFound ss name (found_in c.loop-line.first name)
            → IsFound (ss ++ cut.statement ∷ []) name (found_in f name)) (sym w.first-is)
            (names_again ss c.loop-line.first w.in-Label.name cut.statement
            (some_of w.contains_key.result (found_in c.loop-line.first w.in-Label.name.now) w.contains_key.ensures
            w.if-not-contains_key.false)
            (subst (λ x. IsReadStatement x cut.statement) w.in-Label.is cut.read_so))
        | in_default w ↦
            subst (λ f. (name : List ℕ) → IsFound ss name (found_in c.loop-line.first name)
            → IsFound (ss ++ cut.statement ∷ []) name (found_in f name)) (sym w.first-is)
            (names_kept ss c.loop-line.first x cut.statement cut.read_so w.in_default.not-Label)
      ]);
}

pub returns : goal.returns
returns c =
    λ all r. all_named c.args.statements.now all c.loop-line.line c.loop-line.place c.loop-line.first r
    (omega (arith, c.loop-line-test.false)) (c.loop-line.invariant.so_far all r)
