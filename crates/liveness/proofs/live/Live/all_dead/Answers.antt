use Rattle.std.proofs.Common.{◌≡◌, ◌↔◌, length, get_or, refl, sym, ap, ◌∙◌, subst, arith}
use Rattle.std.proofs.lemmas.Option.{slice_get_read, get_or_from_slice_get}
use Rattle.rv32_decode.specs.Registers.{IsMember}
use Rattle.rv32_program.specs.Liveness.{IsDeadAfter}
use Rattle.templates.specs.Code.{code_of}
use Rattle.liveness.proofs.TieLemmas.{dead_of, no_word}
use Rattle.liveness.proofs.live.Live.all_dead.Goals as goal

pub returns-in-Some : goal.returns-in-Some
returns-in-Some c =
    let words = c.self.inside.graph.now in
    let dead = c.self.inside.dead.items in
    let k = c.in-Some.k in
    let exact = c.self.invariant.1 in
    let count = exact.dead_count in
    let lt = c.in-Some.ensures.within in
    let at = slice_get_read dead (length dead) k c.index.result.now refl (omega (arith, count, lt)) c.index.ensures in
    let is : get_or dead k 0 ≡ c.of_bits.result = get_or_from_slice_get dead k c.index.result.now 0 at ∙ sym c.of_bits.ensures.value in
    record {
      members = λ i r h nz lt.
          subst (λ s. IsMember s r ↔ IsDeadAfter (code_of c.args.self.now) r c.args.i i) is
          (subst (λ ws. IsMember (get_or dead k 0) r ↔ IsDeadAfter (code_of ws) r c.args.i i) c.self.view_is
          (dead_of words c.self.inside.live.items dead c.args.i k i r c.self.invariant.0 exact (ap (λ ws. code_of ws c.args.i) c.self.view_is ∙ h) c.in-Some.ensures.value nz lt));
    }

pub returns-in-None : goal.returns-in-None
returns-in-None c = record {
  members = λ i r h nz lt. absurd (no_word c.self.inside.graph.now c.args.i i c.self.invariant.0 (ap (λ ws. code_of ws c.args.i) c.self.view_is ∙ h) c.in-None.ensures.value);
}
