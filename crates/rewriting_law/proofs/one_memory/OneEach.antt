-- Nodes of one processor each, beside the one memory.
use Rattle.std.proofs.Common.{◌≡◌, ℕ, ◌<◌, cond, eqb, Bool, true, false, List, None, refl, sym, ap, ◌∙◌, subst}
use Rattle.std.specs.Prelude.{◌||◌}
use Rattle.rewriting_law.proofs.Names.{Shape, Processor, State, run, CommitKind, PlanEntry, Work, ProcessorState, NodeMemory, Move, WordOutcome, is_exit, commits_by}
use Rattle.rewriting_law.proofs.words.CodeSide.{Follows}
use Rattle.rewriting_law.proofs.one_memory.Originals.{original_with}
use Rattle.rewriting_law.proofs.one_memory.Sharing.{Sharing, IsReadable, with_local, is_same}
use Rattle.rewriting_law.proofs.one_memory.SharedWords as words
use Rattle.rewriting_law.proofs.one_memory.SharedWords.{ended, picked, reserved_after}

module _ (layout : Shape) (work : Work) where
  -- the nodes beside the one memory, but for where their processors stand
  abbrev pub Shares : Sharing layout work → (ℕ → NodeMemory) → State → Type 0
  Shares sharing locals s =
      words.Shares layout work work.layout.nodes (λ p. p) (λ p low. low) sharing locals
      (λ j. (locals j).reservation) s

  -- the same nodes
  pub shares_like : (sharing : Sharing layout work) (locals others : ℕ → NodeMemory) (s : State)
      → ((i : ℕ) → locals i ≡ others i) → Shares sharing locals s → Shares sharing others s
  shares_like sharing locals others s same h = record {
    held = sharing.like locals others s.shared (λ i. ap (λ (n : NodeMemory). n.copy) (same i))
        (λ i. ap (λ (n : NodeMemory). n.state) (same i)) h.held;
    reservations = λ j low. ap (λ (n : NodeMemory). n.reservation) (sym (same j)) ∙ h.reservations j low;
    readable = λ j low. subst (IsReadable layout work) (same j) (h.readable j low);
  }

  -- one node has changed, and maybe the protocol
  pub shares_with : (sharing sharing' : Sharing layout work) (locals : ℕ → NodeMemory) (s t : State)
      → Shares sharing locals s → (i : ℕ) (n : NodeMemory)
      → sharing'.Holds (with_local locals i n) t.shared → n.reservation ≡ t.reservations i
      → IsReadable layout work n
      → ((j : ℕ) → j < work.layout.nodes → eqb j i ≡ false → t.reservations j ≡ s.reservations j)
      → Shares sharing' (with_local locals i n) t
  shares_with sharing sharing' locals s t shares i n held own readable others = record {
    held = held;
    reservations = λ j low. (elim (eqb j i) as
        (λ u. eqb j i ≡ u → (cond u n (locals j)).reservation ≡ t.reservations j) [
          | true ↦ (λ e. own ∙ ap t.reservations (sym (is_same j i e)))
          | false ↦ (λ e. shares.reservations j low ∙ sym (others j low e))
        ]) refl;
    readable = λ j low. (elim (eqb j i) as (λ u. IsReadable layout work (cond u n (locals j))) [
      | true ↦ readable
      | false ↦ shares.readable j low
    ]);
  }

  module _ (plan : List PlanEntry) (Stands : Processor → ProcessorState → NodeMemory → Type 0)
      (sharing : Sharing layout work) (locals : ℕ → NodeMemory) (s : State)
      (shares : Shares sharing locals s) (i : ℕ) (below : i < work.layout.nodes)
      (running : (s.processors i).exit ≡ None) (r : WordOutcome) where
    abbrev pub Onward : Processor → Move → Type 0
    Onward = words.Onward layout work work.layout.nodes (λ p. p) (λ p low. low) plan Stands
        (ended layout) (λ x o. refl) sharing locals (λ j. (locals j).reservation) s shares i below
        running r

    abbrev pub WordAdvanced : Bool → Type 0
    WordAdvanced = words.WordAdvanced layout work work.layout.nodes (λ p. p) (λ p low. low) plan
        Stands (ended layout) (λ x o. refl) sharing locals (λ j. (locals j).reservation) s shares i
        below running r

    pub word_advanced : (kind : CommitKind)
        → Follows layout work plan Stands (s.processors i) (locals i) r kind r.move
        → WordAdvanced (is_exit r.move || commits_by kind r)
    word_advanced = words.word_advanced layout work work.layout.nodes (λ p. p) (λ p low. low) plan
        Stands (ended layout) (λ x o. refl) sharing locals (λ j. (locals j).reservation) s shares i
        below running r

    -- no other processor is of its node
    pub shares_behind : (b : Bool) → WordAdvanced b → Shares sharing (with_local locals i r.local)
        (run (original_with layout work) s (picked i b))
    shares_behind b a = record {
      held = a.behind.shared.held;
      reservations = λ j low. same j ∙ a.behind.shared.reservations j low;
      readable = λ j low x f c. a.behind.shared.readable j low x (sym (same j) ∙ f) c;
    }
      where
        same : (j : ℕ) → (with_local locals i r.local j).reservation
            ≡ reserved_after layout work work.layout.nodes (λ p. p) (λ p low. low) (ended layout)
            (λ j. (locals j).reservation) i r j
        same j = elim (eqb j i) as (λ u. (cond u r.local (locals j)).reservation ≡ cond u
            r.local.reservation (cond u (ended layout r.access (locals j).reservation)
            (locals j).reservation)) [ true ↦ refl | false ↦ refl ]
