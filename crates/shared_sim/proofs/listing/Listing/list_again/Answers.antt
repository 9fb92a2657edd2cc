-- The node's own row, and those that stand.
use Rattle.std.proofs.Common.{subst, sym, inl, inr}
use Rattle.std.proofs.lemmas.Bool.Decides.{eqb_tells}
use Rattle.shared_sim.specs.Listing.{Tells}
use Rattle.shared_sim.proofs.listing.Listing.list_again.Goals as goal

pub sum_up-requires-clause-told : goal.sum_up-requires-clause-told
sum_up-requires-clause-told c = λ i low.
    let made = c.list.ensures in
    elim (eqb_tells i c.args.node) [
      | inl e ↦ subst (Tells c.args.core.now c.list.new.self) (sym e.1) made.told
      | inr e ↦ made.kept i e.1 (c.requires.others i low e.1)
    ]
