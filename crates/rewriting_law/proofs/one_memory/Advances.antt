-- Picks of the original, one after the other.
use Rattle.std.proofs.Common.{◌≡◌, ℕ, ◌<◌, List, [], ◌∷◌, ◌++◌, Option, refl, sym, ap, ◌∙◌, subst, append_assoc}
use Rattle.rewriting_law.proofs.Names.{Exit, Original, State, Pick, after_pick, pick_step, value_of_pick, IsRun, run, values_read}

module _ (original : Original) where
  pub run_append : (ks js : List Pick) (s : State)
      → run original s (ks ++ js) ≡ run original (run original s ks) js
  run_append [] js s = refl
  run_append (k ∷ ks) js s = run_append ks js (after_pick original s k)

  is_run_append : (ks js : List Pick) (s : State) → IsRun original s ks
      → IsRun original (run original s ks) js → IsRun original s (ks ++ js)
  is_run_append [] js s h g = g
  is_run_append (k ∷ ks) js s h g = (h.0, is_run_append ks js (after_pick original s k) h.1 g)

  values_append : (p : ℕ) (ks js : List Pick) (s : State) → values_read original p s (ks ++ js)
      ≡ values_read original p s ks ++ values_read original p (run original s ks) js
  values_append p [] js s = refl
  values_append p (k ∷ ks) js s =
      let here = value_of_pick p k (pick_step original s k) in
      let t = after_pick original s k in
      ap (λ xs. here ++ xs) (values_append p ks js t)
      ∙ sym (append_assoc here (values_read original p t ks)
      (values_read original p (run original t ks) js))

  -- the picks are a run from this state on, in which each processor reads these values, and these
  -- bytes are printed
  pub record Advanced (s : State) (picks : List Pick) (values : ℕ → List ℕ) (printed : List ℕ)
      : Type 0 where
    pub allowed : IsRun original s picks
    pub same_values : (p : ℕ) → values_read original p s picks ≡ values p
    pub output : (run original s picks).output ≡ s.output ++ printed

  -- and at its end the processors' exits are as they have to be
  pub record FollowsTo (Ends : ℕ → Option Exit → Type 0) (s : State) (picks : List Pick)
      (values : ℕ → List ℕ) (printed : List ℕ) : Type 0 where
    pub advanced : Advanced s picks values printed
    pub ends : (p : ℕ) → p < original.nodes → Ends p ((run original s picks).processors p).exit

  -- some picks more behind
  pub join_advanced : (s : State) (ks js : List Pick) (here there : ℕ → List ℕ)
      (out printed : List ℕ) → Advanced s ks here out → Advanced (run original s ks) js there printed
      → Advanced s (ks ++ js) (λ p. here p ++ there p) (out ++ printed)
  join_advanced s ks js here there out printed a b =
      let t = run original s ks in
      record {
        allowed = is_run_append ks js s a.allowed b.allowed;
        same_values = λ p. values_append p ks js s
            ∙ ap (λ xs. xs ++ values_read original p t js) (a.same_values p)
            ∙ ap (λ xs. here p ++ xs) (b.same_values p);
        output = ap (λ (u : State). u.output) (run_append ks js s) ∙ b.output
            ∙ ap (λ xs. xs ++ printed) a.output ∙ append_assoc s.output out printed;
      }

  -- some picks more at the front
  pub join : (Ends : ℕ → Option Exit → Type 0) (s : State) (ks js : List Pick)
      (here there : ℕ → List ℕ) (out printed : List ℕ) → Advanced s ks here out
      → FollowsTo Ends (run original s ks) js there printed
      → FollowsTo Ends s (ks ++ js) (λ p. here p ++ there p) (out ++ printed)
  join Ends s ks js here there out printed a rest =
      let t = run original s ks in
      record {
        advanced = record {
          allowed = is_run_append ks js s a.allowed rest.advanced.allowed;
          same_values = λ p. values_append p ks js s
              ∙ ap (λ xs. xs ++ values_read original p t js) (a.same_values p)
              ∙ ap (λ xs. here p ++ xs) (rest.advanced.same_values p);
          output = ap (λ (u : State). u.output) (run_append ks js s) ∙ rest.advanced.output
              ∙ ap (λ xs. xs ++ printed) a.output ∙ append_assoc s.output out printed;
        };
        ends = λ p low. subst (λ (u : State). Ends p (u.processors p).exit)
            (sym (run_append ks js s)) (rest.ends p low);
      }
