-- The lists that are stored are those of the core.
use Rattle.std.proofs.Common.{◌≡◌, ℕ, ◌<◌, false, List, [], subst}
use Rattle.std.specs.Prelude.{◌↔◌}
use Rattle.rewriting_law.specs.dsm_protocol.Queue.{Queue, wires_of}
use Rattle.dsm_core.specs.CoreParts.{CoreParts, core_of}
use Rattle.dsm_core.proofs.parts.Parts.has_mail.Goals as goal

pub returns : goal.returns
returns c =
    let p : CoreParts = record {
      program = c.self.inside.program.now;
      image = c.self.inside.image.now;
      layout = c.self.inside.layout;
      budget = c.self.inside.budget;
      nodes = c.self.inside.nodes.items;
      lists = c.self.inside.lists.items;
    } in
    let i = c.args.node in
    let given = subst (λ n. (c.has_mail.result ≡ false)
    ↔ ((j : ℕ) → j < n → wires_of c.deref.result.now n j i ≡ [])) c.nodes-count.ensures.nodes
    c.has_mail.ensures.value in
    let stored = subst (λ (qs : List Queue). (c.has_mail.result ≡ false)
    ↔ ((j : ℕ) → j < p.layout.nodes → wires_of qs p.layout.nodes j i ≡ [])) c.deref.ensures.value
    given in
    record {
      value = subst (λ (q : CoreParts). (c.has_mail.result ≡ false)
          ↔ ((j : ℕ) → j < q.layout.nodes → (core_of q).list j i ≡ [])) c.self.view_is stored;
    }
