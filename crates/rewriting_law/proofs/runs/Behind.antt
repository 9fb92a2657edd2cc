-- What holds of nodes and lists that are stored otherwise, and where a node's Byes stand behind its
-- turn.
use Rattle.std.proofs.Common.{◌≡◌, ℕ, zero, suc, Bool, true, false, List, [], ◌∷◌, ◌++◌, refl, sym, ap, subst}
use Rattle.rewriting_law.proofs.Names.{Shape, first_line, state_with, Post, Bye, post, with_sends, AreByes, Work, NodeMemory, Turn, byes_to, with_byes, Core}
use Rattle.dsm_protocol.proofs.ProtocolSide as world
use Rattle.dsm_protocol.proofs.ByAddress.{bytes_in}
use Rattle.rewriting_law.proofs.protocol_side.ProtocolSide.{Handled}
use Rattle.rewriting_law.proofs.protocol_side.Spending.{Counts, AreCounted}
use Rattle.rewriting_law.proofs.protocol_side.Directory.{Rest, world_of}
use Rattle.rewriting_law.proofs.protocol_side.Blocks.{Fits}
use Rattle.rewriting_law.proofs.protocol_side.DirectorySide.{Layout, by_list, Held}
use Rattle.rewriting_law.proofs.runs.TurnTies.{rest_at, rest_of, SameRest, IsTurn, sends_more}

-- Byes alone
one_bye_more : (ps : List Post) (k : ℕ) → AreByes ps → AreByes (ps ++ post k Bye ∷ [])
one_bye_more [] k h = (refl, tt)
one_bye_more (p ∷ ps) k h = (h.0, one_bye_more ps k h.1)

pub byes_are : (n : ℕ) → AreByes (byes_to n)
byes_are zero = tt
byes_are (suc n) = one_bye_more (byes_to n) n (byes_are n)

module _ (work : Work) (lay : Layout work) where
  abbrev layout : Shape
  layout = work.layout

  -- the same parts, stored otherwise
  pub held_like : (locals others : ℕ → NodeMemory) (old new : Rest) (memory : ℕ → ℕ)
      → ((x : ℕ) → others x ≡ locals x) → SameRest old new → new.counts ≡ old.counts
      → Held work lay locals old memory → Held work lay others new memory
  held_like locals others old new memory same rest counts h = record {
    holds = by_list (world.like lay.laws layout lay.valid lay.laid (world_of layout locals old)
        (world_of layout others new) memory (record {
          entry = λ i b bi bb. ap (λ f. f b) (rest.entry i);
          waiting = λ i b bi. ap (λ f. f b) (rest.waiting i);
          occupancy = λ i bi. rest.occupancy i;
          state = λ i b bi bb.
              ap (λ (n : NodeMemory). state_with (n.state (first_line layout b))) (same i);
          bytes = λ i b bi bb. ap (λ (n : NodeMemory). bytes_in layout n.copy b) (same i);
          wait = λ i b bi bb. ap (λ f. f b) (rest.wait i);
          list = λ j i bj bi. rest.list j i;
        }) h.holds);
    fits = λ i low. subst (λ (n : NodeMemory). Fits lay.laws layout lay.valid lay.some work.program
        n.state) (sym (same i)) (h.fits i low);
    counted = subst (AreCounted layout h.holds.first h.holds.events) (sym counts) h.counted;
    starts = h.starts;
  }

  -- whatever was counted
  pub counting : (old : Rest) (c : Core) (counts : Counts) → SameRest old (rest_of c)
      → SameRest old (rest_at counts c)
  counting old c counts h = record {
    entry = h.entry;
    waiting = h.waiting;
    occupancy = h.occupancy;
    wait = h.wait;
    list = h.list;
  }

  -- Byes behind a turn

  pub record WithByes (c : Core) (i : ℕ) (t : Turn) (u : Handled Rest) (ends : Bool) : Type 0 where
    pub left : Handled Rest
    pub turned : IsTurn c i (with_byes layout.nodes t ends) left
    pub local : left.local ≡ u.local
    pub waits : (x b : ℕ) → left.rest.wait x b ≡ u.rest.wait x b
    pub counts : left.rest.counts ≡ u.rest.counts
    pub held : (locals : ℕ → NodeMemory) (memory : ℕ → ℕ) → Held work lay locals u.rest memory
        → Held work lay locals left.rest memory

  pub byes_behind : (c : Core) (i : ℕ) (t : Turn) (u : Handled Rest) (ends : Bool) → IsTurn c i t u
      → WithByes c i t u ends
  byes_behind c i t u false h = record {
    left = u;
    turned = h;
    local = refl;
    waits = λ x b. refl;
    counts = refl;
    held = λ locals memory g. g;
  }
  byes_behind c i t u true h =
      let left : Handled Rest = record u {
        rest = record u.rest { list = with_sends u.rest.list i (byes_to layout.nodes) };
      } in
      record {
        left = left;
        turned = sends_more c i t u (byes_to layout.nodes) h;
        local = refl;
        waits = λ x b. refl;
        counts = refl;
        held = λ locals memory g. record {
          holds = by_list (world.says_byes lay.laws layout lay.valid lay.laid
              (world_of layout locals u.rest) memory g.holds i (byes_to layout.nodes)
              (byes_are layout.nodes));
          fits = g.fits;
          counted = g.counted;
          starts = g.starts;
        };
      }
