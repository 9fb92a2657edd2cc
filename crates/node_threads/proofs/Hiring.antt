-- Lists that are taken from the front, and built from behind.
use Rattle.std.proofs.Common.{◌≡◌, ◌<◌, None, List, [], ◌∷◌, ◌++◌, map, length, get_or, remove, refl, ap, ap₂, ◌∙◌, sym, subst, append_assoc, lt_irrefl}
use Rattle.node_threads.specs.Crew.{AllIdle}
use Rattle.node_threads.specs.declared.worker.Worker.{Worker}

snoc_then : (W X : Type 0) (f : W → X) (ws : List W) (w : W) (rest : List X)
    → map f (ws ++ w ∷ []) ++ rest ≡ map f ws ++ (f w ∷ rest)
snoc_then W X f [] w rest = refl
snoc_then W X f (v ∷ ws) w rest = ap (λ l. f v ∷ l) (snoc_then W X f ws w rest)

-- one entry more was moved
pub moved : (W X : Type 0) (f : W → X) (ws : List W) (w : W) (xs rest all : List X)
    → 0 < length xs → f w ≡ get_or xs 0 (f w) → rest ≡ remove xs 0 → map f ws ++ xs ≡ all
    → map f (ws ++ w ∷ []) ++ rest ≡ all
moved W X f ws w [] rest all some is left done = absurd (lt_irrefl _ some)
moved W X f ws w (x ∷ xs) rest all some is left done = snoc_then W X f ws w rest
    ∙ ap₂ (λ a b. map f ws ++ (a ∷ b)) is left ∙ done

-- one more without an undelivered wire
pub idle_snoc : (ws : List Worker) (w : Worker)
    → ((vs : List Worker) → AllIdle vs → AllIdle (ws ++ vs)) → w.undelivered ≡ None
    → (vs : List Worker) → AllIdle vs → AllIdle ((ws ++ w ∷ []) ++ vs)
idle_snoc ws w keep none vs h = subst AllIdle (sym (append_assoc ws (w ∷ []) vs))
    (keep (w ∷ vs) (none, h))
