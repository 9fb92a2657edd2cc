-- Texts behind one another.
use Rattle.std.proofs.Common.{◌≡◌, ℕ, List, ◌++◌, Result, Ok, Err, cond, ap, ◌∙◌, append_assoc}
use Rattle.std.specs.Prelude.{OnOk, is_ok}
use Rattle.std.proofs.lemmas.Result.{on_ok_weaker}

pub behind : (old mid new a b : List ℕ) → mid ≡ old ++ a → new ≡ mid ++ b → new ≡ old ++ (a ++ b)
behind old mid new a b e f = f ∙ ap (λ t. t ++ b) e ∙ append_assoc old a b

pub ok_behind : {T E : Type 0} (r : Result T E) (old mid new a b : List ℕ) → mid ≡ old ++ a
    → OnOk r (new ≡ mid ++ b) → OnOk r (new ≡ old ++ (a ++ b))
ok_behind r old mid new a b e h = on_ok_weaker r (λ f. behind old mid new a b e f) h

-- the last text, where there is memory for it
pub ok_last : {T E : Type 0} (r : Result T E) (old new text : List ℕ)
    → new ≡ cond (is_ok r) (old ++ text) old → OnOk r (new ≡ old ++ text)
ok_last (Ok x) old new text e = e
ok_last (Err x) old new text e = tt
