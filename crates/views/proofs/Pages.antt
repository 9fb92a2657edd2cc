-- The events of a page, one after another.
use Rattle.std.proofs.Common.{◌≡◌, true, false, cond, List, [], ◌∷◌, ◌++◌, sym, ap, ◌∙◌, subst, append-nil, append_assoc}
use Rattle.std.proofs.lemmas.List.Elements.{filter-append}
use Rattle.run_trace.specs.declared.tracer.Tracer.{Tracer}
use Rattle.run_trace.specs.Traced.{Traced}
use Rattle.run_trace.specs.Tracing.{HasTraced, IsSame, record_traced}
use Rattle.run_trace.proofs.Wholes.{HasOne}
use Rattle.block_view.specs.event_text.declared.shown.EventFilter.{EventFilter}
use Rattle.block_view.specs.event_text.Shown.{is_shown, shown}
use Rattle.page_view.specs.page_events.Shown.{Kept, kept}
use Rattle.views.specs.Page.{HasAddedMore}
use Rattle.views.specs.Trace.{ShowsNoMore}
use Rattle.views.proofs.Lines.{IsWhole, goes_further, same_on, whole_same}
use Rattle.views.proofs.Passed.{passed_hidden}

pub more_shown : (o : EventFilter) (seen : List Traced) (x : Traced) → is_shown o x ≡ true
    → kept (shown o seen ++ x ∷ []) ≡ kept (shown o (seen ++ x ∷ []))
more_shown o seen x e = sym (ap kept (filter-append (is_shown o) seen (x ∷ [])
    ∙ ap (λ b. shown o seen ++ cond b (x ∷ []) []) e))

pub no_more_shown : (o : EventFilter) (seen : List Traced) (x : Traced) → is_shown o x ≡ false
    → kept (shown o seen) ≡ kept (shown o (seen ++ x ∷ []))
no_more_shown o seen x e = sym (ap kept (filter-append (is_shown o) seen (x ∷ [])
    ∙ ap (λ b. shown o seen ++ cond b (x ∷ []) []) e ∙ append-nil (shown o seen)))

-- events were made, and those that are shown were added
pub record IsGathered (o : EventFilter) (first t : Tracer) (k : Kept) : Type 0 where
  pub seen : List Traced
  pub traced : HasTraced t seen
  pub same : IsSame first t
  pub kept_is : k ≡ kept (shown o seen)

-- more events
pub added : (o : EventFilter) (first t u : Tracer) (k now : Kept) (way : IsGathered o first t k) → IsSame t u
    → HasAddedMore o u way.seen now → IsGathered o first u now
added o first t u k now way same more = record {
  seen = way.seen ++ more.more;
  traced = more.traced;
  same = same_on first t u way.same same;
  kept_is = more.kept_is;
}

-- all that are asked for were made
pub all_gathered : (o : EventFilter) (first t u : Tracer) (k now : Kept) (trace : List Traced)
    → (way : IsGathered o first t k) → IsSame t u → now ≡ kept (shown o way.seen) → ShowsNoMore o u way.seen
    → IsWhole first trace → now ≡ kept (shown o trace)
all_gathered o first t u k now trace way same is all whole =
    is ∙ ap kept (sym (all trace (whole_same first u trace (same_on first t u way.same same) whole)))

-- words that were passed are kept with those before them
pub passed_kept : (o : EventFilter) (seen more : List Traced) (k : Kept) → shown o more ≡ [] → k ≡ kept (shown o seen)
    → k ≡ kept (shown o (seen ++ more))
passed_kept o seen more k hidden is = is ∙ ap kept (sym (passed_hidden o seen more hidden))

-- a word that ends a pass
pub word_added : (o : EventFilter) (t : Tracer) (seen more : List Traced) (x : Traced) (now : Kept)
    → HasTraced t (seen ++ (more ++ x ∷ [])) → now ≡ kept (shown o ((seen ++ more) ++ x ∷ []))
    → HasAddedMore o t seen now
word_added o t seen more x now traced is = record {
  more = more ++ x ∷ [];
  traced = traced;
  kept_is = is ∙ ap (λ xs. kept (shown o xs)) (append_assoc seen more (x ∷ []));
}

-- an event behind a pass that no word ends
pub event_added : (o : EventFilter) (t : Tracer) (seen more : List Traced) (x : Traced) (now : Kept)
    → HasTraced t ((seen ++ more) ++ x ∷ []) → now ≡ kept (shown o ((seen ++ more) ++ x ∷ []))
    → HasAddedMore o t seen now
event_added o t seen more x now traced is =
    word_added o t seen more x now (subst (HasTraced t) (append_assoc seen more (x ∷ [])) traced) is

-- of those that follow none is kept
pub full_gathered : (o : EventFilter) (first t : Tracer) (k : Kept) (trace : List Traced) → HasOne (record_traced t)
    → IsGathered o first t k → ((seen more : List Traced) → k ≡ kept seen → kept (seen ++ more) ≡ kept seen)
    → IsWhole first trace → k ≡ kept (shown o trace)
full_gathered o first t k trace one way full whole =
    let more = goes_further first t way.seen trace one way.traced way.same whole in
    let before = shown o way.seen in
    let behind = shown o more.0 in
    let all : shown o trace ≡ before ++ behind =
    ap (shown o) more.1 ∙ filter-append (is_shown o) way.seen more.0 in
    way.kept_is ∙ sym (ap kept all ∙ full before behind way.kept_is)
