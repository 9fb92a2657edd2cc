-- What is pushed behind words that were passed.
use Rattle.std.proofs.Common.{◌≡◌, ℕ, ◌<◌, ◌/◌, false, List, [], ◌∷◌, ◌++◌, Option, None, Some, refl, sym, ap, ◌∙◌, subst, append-nil, append_assoc}
use Rattle.std.specs.Prelude.{IfSome, option_map}
use Rattle.std.specs.List.{flat_map}
use Rattle.std.proofs.lemmas.List.Elements.{filter-append}
use Rattle.elf32_read.specs.Elf.{Elf}
use Rattle.block_layout.specs.Layout.{Shape, block_of}
use Rattle.run_trace.specs.declared.tracer.Tracer.{Tracer}
use Rattle.run_trace.specs.Traced.{Traced}
use Rattle.run_trace.specs.Tracing.{HasTraced, record_traced}
use Rattle.run_trace.proofs.Wholes.{HasOne}
use Rattle.block_view.specs.event_text.declared.shown.EventFilter.{EventFilter}
use Rattle.block_view.specs.event_text.Events.{event_line}
use Rattle.block_view.specs.event_text.Shown.{is_shown, shown}
use Rattle.views.specs.declared.trace.Selection.{Selection}
use Rattle.views.specs.Failures.{AreAllUpTo}
use Rattle.views.specs.Trace.{HasPushedMore, ShowsNoMore, options_about, options_at}
use Rattle.views.proofs.Ends.{ends_later}
use Rattle.views.proofs.Lines.{IsWhole, lines_of}
use Rattle.views.proofs.Ordered.{all_shown}

pub passed_hidden : (o : EventFilter) (seen more : List Traced) → shown o more ≡ []
    → shown o (seen ++ more) ≡ shown o seen
passed_hidden o seen more hidden =
    filter-append (is_shown o) seen more ∙ ap (λ l. shown o seen ++ l) hidden ∙ append-nil (shown o seen)

-- a word that ends a pass
pub word_pushed : (elf : Elf) (o : EventFilter) (t : Tracer) (seen more : List Traced) (x : Traced) (lines now : List ℕ)
    → shown o more ≡ [] → HasTraced t (seen ++ (more ++ x ∷ [])) → now ≡ lines ++ lines_of elf o (x ∷ [])
    → HasPushedMore elf o t seen lines now
word_pushed elf o t seen more x lines now hidden traced text = record {
  more = more ++ x ∷ [];
  traced = traced;
  lines_are = text ∙ ap (λ xs. lines ++ flat_map (event_line elf) xs)
      (sym (filter-append (is_shown o) more (x ∷ []) ∙ ap (λ l. l ++ shown o (x ∷ [])) hidden));
}

-- an event behind a pass that no word ends
pub event_pushed : (elf : Elf) (o : EventFilter) (t : Tracer) (seen more : List Traced) (x : Traced) (lines now : List ℕ)
    → shown o more ≡ [] → HasTraced t ((seen ++ more) ++ x ∷ []) → now ≡ lines ++ lines_of elf o (x ∷ [])
    → HasPushedMore elf o t seen lines now
event_pushed elf o t seen more x lines now hidden traced text =
    word_pushed elf o t seen more x lines now hidden
    (subst (HasTraced t) (append_assoc seen more (x ∷ [])) traced) text

-- all that are asked for were passed
pub no_more_pushed : (o : EventFilter) (t : Tracer) (seen more : List Traced) → shown o more ≡ []
    → ((trace : List Traced) → IsWhole t trace → AreAllUpTo o.to (seen ++ more) trace) → ShowsNoMore o t seen
no_more_pushed o t seen more hidden all = λ trace whole.
    all_shown o (seen ++ more) trace (all trace whole) ∙ passed_hidden o seen more hidden

-- the word that ends a pass is later than all that are asked for
pub late_word : (o : EventFilter) (t : Tracer) (seen more : List Traced) (x : Traced) → HasOne (record_traced t)
    → shown o more ≡ [] → HasTraced t (seen ++ (more ++ x ∷ [])) → o.to < x.stamp → ShowsNoMore o t seen
late_word o t seen more x one hidden traced late =
    no_more_pushed o t seen more hidden (λ trace whole. ends_later t o.to (seen ++ more) x trace one
    (subst (HasTraced t) (sym (append_assoc seen more (x ∷ []))) traced) late whole)

-- a view asks for no words that only compute
about_block : (s : Selection) (block : Option ℕ)
    → IfSome (option_map (λ b. options_about s (Some b)) block) (λ (o : EventFilter). o.words ≡ false)
about_block s None = tt
about_block s (Some b) = refl

pub no_words : (layout : Shape) (s : Selection) (address : Option ℕ)
    → IfSome (options_at layout s address) (λ (o : EventFilter). o.words ≡ false)
no_words layout s None = refl
no_words layout s (Some a) = about_block s (block_of layout (a / 64))
