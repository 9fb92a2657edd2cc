use Rattle.dsm_io.proofs.PairLemmas.{content_at, no_content}
use Rattle.dsm_io.proofs.store.Store.content.Goals as goal

pub returns-in-Some : goal.returns-in-Some
returns-in-Some c =
    content_at (λ p. (p.0, p.1.items)) c.self.inside.pairs.items c.deref.result.now c.args.self.now
    c.place.result c.in-Some.i c.index.result.now c.args.name.now c.as_slice.result.now
    c.in-Some.is c.place.ensures c.deref.ensures.value c.self.view_is c.index.ensures
    c.as_slice.ensures.value

pub returns-in-None : goal.returns-in-None
returns-in-None c =
    no_content (λ p. (p.0, p.1.items)) c.self.inside.pairs.items c.deref.result.now c.args.self.now
    c.place.result c.args.name.now c.in-None.is c.place.ensures c.deref.ensures.value
    c.self.view_is
