use Rattle.std.proofs.Common.{◌≡◌, ◌<◌, ◌↔◌, ◌-◌, ◌^◌, length, get_or, refl, sym, ap, ◌∙◌, subst, arith}
use Rattle.std.proofs.lemmas.Option.{slice_get_read, get_or_from_slice_get}
use Rattle.rv32_decode.specs.Registers.{IsMember}
use Rattle.rv32_program.specs.Liveness.{IsDeadAt}
use Rattle.templates.specs.Code.{code_of}
use Rattle.liveness.proofs.TieLemmas.{dead_at_of, no_word}
use Rattle.liveness.proofs.live.Live.all_dead_at.Goals as goal

pub returns-in-Some : goal.returns-in-Some
returns-in-Some c =
    let words = c.self.inside.graph.now in
    let live = c.self.inside.live.items in
    let k = c.in-Some.k in
    let exact = c.self.invariant.1 in
    let count = exact.at_count in
    let lt = c.in-Some.ensures.within in
    let at = slice_get_read live (length live) k c.index-live.result.now refl (omega (arith, count, lt)) c.index-live.ensures in
    let read : get_or live k 0 ≡ c.index-live.result.now = get_or_from_slice_get live k c.index-live.result.now 0 at in
    let small : get_or live k 0 < 2 ^ 32 = let type = c.index-live.type_inv in omega (arith, read, type) in
    let is : 2 ^ 32 - 1 - get_or live k 0 ≡ c.of_bits.result = ap (λ n. 2 ^ 32 - 1 - n) read ∙ sym c.of_bits.ensures.value in
    record {
      members = λ i r h nz lt.
          subst (λ s. IsMember s r ↔ IsDeadAt (code_of c.args.self.now) r c.args.i i) is
          (subst (λ ws. IsMember (2 ^ 32 - 1 - get_or live k 0) r ↔ IsDeadAt (code_of ws) r c.args.i i) c.self.view_is
          (dead_at_of words live c.self.inside.dead.items c.args.i k i r c.self.invariant.0 exact (ap (λ ws. code_of ws c.args.i) c.self.view_is ∙ h) c.in-Some.ensures.value nz lt small));
    }

pub returns-in-None : goal.returns-in-None
returns-in-None c = record {
  members = λ i r h nz lt. absurd (no_word c.self.inside.graph.now c.args.i i c.self.invariant.0 (ap (λ ws. code_of ws c.args.i) c.self.view_is ∙ h) c.in-None.ensures.value);
}
