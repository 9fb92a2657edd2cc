-- The words of sequences as they are laid out are those of the definition.
use Rattle.std.proofs.Common.{◌≡◌, ℕ, zero, suc, ◌+◌, ◌*◌, ◌<◌, ◌≤◌, List, [], ◌∷◌, ◌++◌, length, get_or, drop, refl, sym, ap, ◌∙◌, arith}
use Rattle.templates.specs.rv32_program.Program.{Program}
use Rattle.templates.specs.declared.places.Part.{Part}
use Rattle.templates.specs.declared.plans.PlanEntry.{PlanEntry}
use Rattle.templates.specs.Sequences.{SequenceItem}
use Rattle.templates.specs.Expansion.{words_of}
use Rattle.jump_map.specs.Image.{PlacedItem, placed_items, entry_items, plan_items, words_at}
use Rattle.jump_map.specs.Laying.{laid_words}

pub laid_same : (head : ℕ → ℕ) (at : ℕ) (address : ℕ → ℕ) (part : Part) (k : ℕ) (items : List SequenceItem)
    → laid_words head at address part k (words_of items) ≡ words_at head at (placed_items address part k items)
laid_same head at address part k [] = refl
laid_same head at address part k (i ∷ is) =
    λ t. laid_words head at address part k (words_of (i ∷ [])) ++ laid_same head (at + 4) address part (k + 1) is t

pub placed_length : (address : ℕ → ℕ) (part : Part) (k : ℕ) (items : List SequenceItem)
    → length (placed_items address part k items) ≡ length items
placed_length address part k [] = refl
placed_length address part k (i ∷ is) = let more = placed_length address part (k + 1) is in omega arith

pub at_append : (head : ℕ → ℕ) (at : ℕ) (xs ys : List PlacedItem)
    → words_at head at (xs ++ ys) ≡ words_at head at xs ++ words_at head (at + 4 * length xs) ys
at_append head at [] ys = ap (λ n. words_at head n ys) (omega arith)
at_append head at (x ∷ xs) ys =
    let more : words_at head (at + 4) (xs ++ ys) ≡ words_at head (at + 4) xs ++ words_at head (at + 4 + 4 * length xs) ys = at_append head (at + 4) xs ys in
    let e : at + 4 + 4 * length xs ≡ at + 4 * length (x ∷ xs) = omega arith in
    (λ t. words_at head at (x ∷ []) ++ more t) ∙ (λ t. words_at head at (x ∷ []) ++ (words_at head (at + 4) xs ++ words_at head (e t) ys))

pub words_length : (head : ℕ → ℕ) (at : ℕ) (xs : List PlacedItem) → length (words_at head at xs) ≡ length xs
words_length head at [] = refl
words_length head at (x ∷ xs) = let more = words_length head (at + 4) xs in omega arith

-- past one entry more
pub items_more : (p : Program) (es : List PlanEntry) (i : ℕ) (d : PlanEntry) → i < length es
    → plan_items p (drop i es) ≡ entry_items p (get_or es i d) ++ plan_items p (drop (i + 1) es)
items_more p [] i d lt = absurd (omega arith)
items_more p (e ∷ es) zero d lt = refl
items_more p (e ∷ es) (suc i) d lt =
    let same : suc i + 1 ≡ suc (i + 1) = omega arith in
    items_more p es i d (omega arith) ∙ ap (λ j. entry_items p (get_or es i d) ++ plan_items p (drop j (e ∷ es))) (sym same)

pub items_done : (p : Program) (es : List PlanEntry) (i : ℕ) → length es ≤ i → plan_items p (drop i es) ≡ []
items_done p [] zero h = refl
items_done p [] (suc i) h = refl
items_done p (e ∷ es) zero h = absurd (omega arith)
items_done p (e ∷ es) (suc i) h = items_done p es i (omega arith)
