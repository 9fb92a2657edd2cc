-- Words that are passed have no line, unless all words are asked for.
use Rattle.std.proofs.Common.{◌≡◌, Bool, true, false, ◌&&◌, ◌||◌, cond, List, [], ◌∷◌, Option, None, Some, refl, ap, ◌∙◌}
use Rattle.std.specs.Prelude.{All, is_some, nat_le}
use Rattle.std.specs.Option.{option_map_or}
use Rattle.std.proofs.lemmas.List.Elements.{All-head, All-tail}
use Rattle.run_trace.specs.declared.passed.Until.TheVariants.{Access}
use Rattle.run_trace.specs.declared.traced.Accessed.{Accessed}
use Rattle.run_trace.specs.Traced.{OfWord, What, Word, Taken, Traced}
use Rattle.run_trace.specs.Passing.{IsPassed, IsPassedWhat, IsPassedWord, ends}
use Rattle.event_text.specs.declared.shown.EventFilter.{EventFilter}
use Rattle.event_text.specs.Shown.{block_reached, is_about, is_eventful, is_of_kind, is_of_node, is_shown, shown}

-- every access ends such a pass
no_access : (a : Option Accessed) → option_map_or (λ (a : Accessed). ends Access a.kind) a false ≡ false
    → is_some (block_reached a) ≡ false
no_access None e = refl
no_access (Some a) e = absurd (let bad : true ≡ false = e in cc)

not_eventful : (w : OfWord) → IsPassedWord Access w → is_eventful w ≡ false
not_eventful w h =
    rw (no_access w.access h.goes_on) (rw h.plain.wants (rw h.plain.printed (rw h.plain.end refl)))

of_no_kind : (words : Bool) (what : What) → words ≡ false → IsPassedWhat Access what → is_of_kind words what ≡ false
of_no_kind words (Word w) e h = ap (λ b. b || is_eventful w) e ∙ not_eventful w h
of_no_kind words (Taken t) e h = absurd h

none_of : (a b c : Bool) → (a && (b && (c && false))) ≡ false
none_of true true true = refl
none_of true true false = refl
none_of true false c = refl
none_of false b c = refl

hidden : (o : EventFilter) (x : Traced) → o.words ≡ false → IsPassed Access x → is_shown o x ≡ false
hidden o x e h =
    rw (of_no_kind o.words x.what e h) (none_of (nat_le o.from x.stamp && nat_le x.stamp o.to)
    (is_of_node o.node x.node) (option_map_or (λ b. is_about b x.what) o.block true))

pub none_shown : (o : EventFilter) (xs : List Traced) → o.words ≡ false → All (IsPassed Access) xs → shown o xs ≡ []
none_shown o [] e h = refl
none_shown o (x ∷ xs) e h =
    ap (λ b. cond b (x ∷ shown o xs) (shown o xs)) (hidden o x e (All-head (IsPassed Access) x xs h))
    ∙ none_shown o xs e (All-tail (IsPassed Access) x xs h)
