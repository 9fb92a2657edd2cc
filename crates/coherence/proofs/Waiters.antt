-- A node that waits for a block may not write it.
use Rattle.std.proofs.Common.{◌≡◌, ℕ, false, Option, Some, None, sym, ap, ◌∙◌, refl, inl, inr, arith}
use Rattle.std.proofs.lemmas.Bool.Decides.{eqb_tells, nat_tests}
use Rattle.coherence.specs.Messages.{Need, Read, Write, State, Exclusive, Wait, can_read, can_write}
use Rattle.coherence.proofs.View.{View}
use Rattle.coherence.proofs.Picture.{Phase, Idle, ReadOpen, WriteOpen, Picture, readable, writable, wait_for, wait_in, Shows, WellFormed}

-- a state that may not be read may not be written
reads_first : (s : State) → can_read s ≡ false → can_write s ≡ false
reads_first Exclusive e = absurd cc
reads_first other e = refl

module _ {C : Type 0} (flag : C) (n h : ℕ) (v : View C) (p : Picture) where
  unreadable : (f : Phase) → Shows flag n h v p f → (i : ℕ) → readable p f i ≡ false
      → writable p f i ≡ false
  unreadable f s i out = sym (s.writes i) ∙ reads_first (v.state i) (s.reads i ∙ out)

  -- a node whose request hasn't begun
  by_request : (f : Phase) → Shows flag n h v p f → WellFormed n p f → (i : ℕ) (x : Wait C)
      → wait_for (p.requests i) ≡ Some x → writable p f i ≡ false
  by_request f s w i x e = by_need (p.requests i) refl e
    where
      by_need : (o : Option Need) → p.requests i ≡ o → wait_for o ≡ Some x → writable p f i ≡ false
      by_need None is e = absurd cc
      by_need (Some Read) is e = unreadable f s i (w.asks.reads i is)
      by_need (Some Write) is e = w.asks.writes i is

  waits_unwritable : (f : Phase) → Shows flag n h v p f → WellFormed n p f → (i : ℕ) (x : Wait C)
      → wait_in v.memory p f i ≡ Some x → writable p f i ≡ false
  waits_unwritable Idle s w i x e = by_request Idle s w i x e
  waits_unwritable (ReadOpen r sent) s w i x e = elim (eqb_tells i r) [
    | inl q ↦ unreadable (ReadOpen r sent) s i (ap p.sharers q.1 ∙ w.phase.stranger)
    | inr q ↦ by_request (ReadOpen r sent) s w i x (rw q.0 at e)
  ]
  waits_unwritable (WriteOpen up r place k c flight) s w i x e = elim (eqb_tells i r) [
    | inl q ↦ (let same = q.1 in let shares = w.directory.owner_shares in
        let is = w.phase.0.up_is in grind (arith, nat_tests))
    | inr q ↦ by_request (WriteOpen up r place k c flight) s w i x (rw q.0 at e)
  ]
  waits_unwritable other s w i x e = by_request other s w i x e

  pub waiter_reads : (f : Phase) → Shows flag n h v p f → WellFormed n p f → (i : ℕ) (x : Wait C)
      → v.wait i ≡ Some x → can_write (v.state i) ≡ false
  waiter_reads f s w i x e = s.writes i ∙ waits_unwritable f s w i x (sym (s.waits i) ∙ e)
