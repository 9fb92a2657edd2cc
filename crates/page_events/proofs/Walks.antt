-- Loops over the events of a page.
use Rattle.std.proofs.Common.{◌≡◌, ℕ, zero, suc, ◌+◌, ◌<◌, ◌≤◌, List, [], ◌∷◌, ◌++◌, length, map, drop, refl, sym, ap, ◌∙◌, arith, get_or, append_assoc, append-nil}
use Rattle.std.proofs.lemmas.List.{drop-map, drop_more}
use Rattle.std.specs.List.{flat_map}
use Rattle.event_text.specs.run_trace.declared.traced.Traced.{Traced as Stored}
use Rattle.event_text.specs.run_trace.Given.{traced_of}
use Rattle.event_text.specs.run_trace.Traced.{Traced}

-- the events that are left begin with this one
pub first_left : (events : List Traced) (items : List Stored) (i : ℕ) (x : Stored)
    → map traced_of items ≡ events → i < length items → x ≡ get_or items i x
    → drop i events ≡ traced_of x ∷ drop (i + 1) events
first_left events items i x same lt is =
    ap (drop i) (sym same) ∙ drop-map traced_of i items
    ∙ ap (map traced_of) (drop_more items i x lt ∙ ap (λ y. y ∷ drop (i + 1) items) (sym is))
    ∙ ap (λ r. traced_of x ∷ r) (sym (drop-map traced_of (i + 1) items) ∙ ap (drop (i + 1)) same)

none_of : {A : Type 0} (items : List A) (i : ℕ) → length items ≤ i → drop i items ≡ []
none_of [] zero le = refl
none_of [] (suc i) le = refl
none_of (x ∷ xs) zero le = absurd (omega (arith, le))
none_of (x ∷ xs) (suc i) le = none_of xs i (omega (arith, le))

-- no event is left
pub none_left : (events : List Traced) (items : List Stored) (i : ℕ)
    → map traced_of items ≡ events → length items ≤ i → drop i events ≡ []
none_left events items i same le =
    ap (drop i) (sym same) ∙ drop-map traced_of i items ∙ ap (map traced_of) (none_of items i le)

-- the text of one more
pub past : {A : Type 0} (f : A → List ℕ) (all : List A) (i : ℕ) (x : A) (old new whole : List ℕ)
    → drop i all ≡ x ∷ drop (i + 1) all → new ≡ old ++ f x
    → old ++ flat_map f (drop i all) ≡ whole → new ++ flat_map f (drop (i + 1) all) ≡ whole
past f all i x old new whole left more before =
    let rest = flat_map f (drop (i + 1) all) in
    ap (λ t. t ++ rest) more ∙ append_assoc old (f x) rest
    ∙ ap (λ l. old ++ flat_map f l) (sym left) ∙ before

-- the text of all
pub whole_is : {A : Type 0} (f : A → List ℕ) (all : List A) (i : ℕ) (old whole : List ℕ)
    → drop i all ≡ [] → old ++ flat_map f (drop i all) ≡ whole → old ≡ whole
whole_is f all i old whole none before =
    sym (append-nil old) ∙ ap (λ l. old ++ flat_map f l) (sym none) ∙ before
