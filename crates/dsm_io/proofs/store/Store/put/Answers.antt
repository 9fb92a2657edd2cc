use Rattle.std.proofs.Common.{refl, ◌∙◌}
use Rattle.dsm_io.proofs.PairLemmas.{Writes-set, Writes-push}
use Rattle.dsm_io.proofs.store.Store.put.Goals as goal

pub returns-in-Some-clause-ok : goal.returns-in-Some-clause-ok
returns-in-Some-clause-ok c =
    Writes-set (λ p. (p.0, p.1.items)) c.self.inside.pairs.items c.deref.result.now c.args.self.now
    c.place.result c.in-Some.i c.index_mut-pair.result.now
    (c.index_mut-pair.result.now.0, c.in_ok-content.content) c.args.name.now c.args.bytes.now
    c.in-Some.is c.place.ensures c.deref.ensures.value c.self.view_is
    c.index_mut-pair.ensures.value refl c.in_ok-content.ensures.items

pub returns-in_ok-push-in-None-clause-ok : goal.returns-in_ok-push-in-None-clause-ok
returns-in_ok-push-in-None-clause-ok c =
    Writes-push (λ p. (p.0, p.1.items)) c.self.inside.pairs.items c.deref.result.now
    c.push.new.self.items c.args.self.now c.place.result (c.of.result, c.in_ok-content.content)
    c.args.name.now c.args.bytes.now c.in-None.is c.place.ensures c.deref.ensures.value
    c.self.view_is c.in_ok-push-in-None.ensures.items
    (c.of.ensures ∙ c.in_ok-word-in-None.ensures.ok) c.in_ok-content.ensures.items
