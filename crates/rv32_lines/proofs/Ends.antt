-- Words at the ends of a text.
use Rattle.std.proofs.Common.{◌≡◌, ◌≢◌, ℕ, List, ◌++◌, Option, Some, None, sym, ◌∙◌}
use denote.Ref.{Bor}
use Rattle.std.specs.Prelude.{MatchOption, IfSome}
use Rattle.std.proofs.lemmas.List.{append_cancel_left, append_cancel_right}

pub found : (P : Bor (List ℕ) → Type 0) (Q : Type 0) (r : Option (Bor (List ℕ)))
    → MatchOption r Q P → IfSome r P
found P Q None h = tt
found P Q (Some x) h = h

pub front_only : (s p : List ℕ) (r : Option (Bor (List ℕ)))
    → MatchOption r ((rest : List ℕ) → s ≢ p ++ rest) (λ x. s ≡ p ++ x.now)
    → (rest : List ℕ) → s ≡ p ++ rest → MatchOption r ⊥ (λ x. x.now ≡ rest)
front_only s p None h rest e = h rest e
front_only s p (Some x) h rest e = append_cancel_left p x.now rest (sym h ∙ e)

pub back_only : (s p : List ℕ) (r : Option (Bor (List ℕ)))
    → MatchOption r ((front : List ℕ) → s ≢ front ++ p) (λ x. s ≡ x.now ++ p)
    → (front : List ℕ) → s ≡ front ++ p → MatchOption r ⊥ (λ x. x.now ≡ front)
back_only s p None h front e = h front e
back_only s p (Some x) h front e = append_cancel_right x.now front p (sym h ∙ e)
