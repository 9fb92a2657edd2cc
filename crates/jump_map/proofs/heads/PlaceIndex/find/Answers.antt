use Rattle.std.proofs.Common.{rules, ap, ◌∙◌}
use Rattle.std.proofs.lemmas.List.Sorted.{answers_always}
use Rattle.jump_map.specs.Heads.{start_of}
use Rattle.jump_map.proofs.HeadLemmas.{at_found, at_low, at_none}
use Rattle.jump_map.proofs.heads.PlaceIndex.find.Goals as goal

pub returns-in-Ok-clause-value : goal.returns-in-Ok-clause-value
returns-in-Ok-clause-value c =
    let facts = c.in-Ok.ensures in
    at_found c.self.inside.starts.items _ c.in-Ok.k c.args.address c.index.result.now c.self.invariant c.deref.ensures.value facts.bound
    (facts.position (λ s. s.address) (answers_always _ _ _ (λ f a r g called. search rules))) c.index.ensures
    ∙ ap (λ ss. start_of ss c.args.address) c.self.view_is

pub returns-in-Ok-clause-head : goal.returns-in-Ok-clause-head
returns-in-Ok-clause-head c =
    (at_low c.self.inside.starts.items _ c.in-Ok.k c.index.result.now c.self.invariant c.deref.ensures.value c.in-Ok.ensures.bound c.index.ensures).0

pub returns-in-Ok-clause-single : goal.returns-in-Ok-clause-single
returns-in-Ok-clause-single c =
    (at_low c.self.inside.starts.items _ c.in-Ok.k c.index.result.now c.self.invariant c.deref.ensures.value c.in-Ok.ensures.bound c.index.ensures).1

pub returns-in-Err-clause-value : goal.returns-in-Err-clause-value
returns-in-Err-clause-value c =
    let facts = c.in-Err.ensures in
    at_none c.self.inside.starts.items _ c.in-Err.field-0 c.args.address c.self.invariant c.deref.ensures.value facts.bound
    (facts.position (λ s. s.address) (answers_always _ _ _ (λ f a r g called. search rules)))
    ∙ ap (λ ss. start_of ss c.args.address) c.self.view_is
