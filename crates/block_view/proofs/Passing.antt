-- WrittenWords that are passed, and what is kept behind them.
use Rattle.std.proofs.Common.{◌≡◌, ℕ, Bool, true, false, ◌&&◌, ◌/◌, cond, eqb, List, [], ◌∷◌, ◌++◌, Option, Some, None, refl, sym, ap, ◌∙◌, subst, append-nil, append_assoc, slice_index_or}
use Rattle.std.specs.Prelude.{All, map, filter}
use Rattle.std.specs.Option.{option_map_or}
use Rattle.std.proofs.lemmas.List.Elements.{All-head, All-tail}
use Rattle.templates.specs.declared.places.Place.{Place}
use Rattle.node_model.specs.declared.NodeCounts.{NodeCounts}
use Rattle.node_model.specs.Node.{no_counts, counts_after}
use Rattle.event_text.specs.node_machine.declared.wanted.Wanted.{Wanted}
use Rattle.event_text.specs.run_trace.declared.passed.Until.TheVariants as until
use Rattle.event_text.specs.run_trace.declared.traced.Accessed.{Accessed}
use Rattle.event_text.specs.run_trace.Traced.{OfWord, What, Word, Taken, Traced}
use Rattle.event_text.specs.run_trace.Sums.{count_in, count_wants, counts_from}
use Rattle.event_text.specs.run_trace.Passing.{IsPassed, IsPassedWhat, IsPlainWord, is_write}
use Rattle.event_text.specs.Shown.{is_block}
use Rattle.block_view.specs.Counts.{count_about, block_counts, wants_of, asks_in, misses_of}
use Rattle.block_view.specs.Kept.{AreCostsOf, AreTotals, AreSumsOf}
use Rattle.block_view.specs.Sharing.{writes_of, written_at, written_by}
use Rattle.block_view.specs.Writers.{AreWritersOf}
use Rattle.block_view.specs.declared.costs.BlockCosts.{BlockCosts}
use Rattle.block_view.specs.declared.sums.Sums.{Sums}
use Rattle.block_view.proofs.Costing.{cost_as, counts_more, total_more, misses_more}
use Rattle.block_view.proofs.Writing.{writes_more}

-- 1. What costs nothing

-- an event counts nothing, and asks for nothing
pub record IsFree (w : What) : Type 0 where
  pub about : (b : ℕ) (c : NodeCounts) → count_about b w c ≡ c
  pub counts : (c : NodeCounts) → count_in w c ≡ c
  pub asks : (b : ℕ) → asks_in b w ≡ []

asks_none : (place : Option Place)
    → option_map_or (λ (p : Place). map (λ (v : Wanted). p.address) (filter (λ (v : Wanted). v.asks) [])) place [] ≡ []
asks_none None = refl
asks_none (Some p) = refl

pub plain_free : (w : OfWord) → IsPlainWord w → IsFree (Word w)
plain_free w h = record {
  about = λ b c. ap (λ ws. count_wants (wants_of b ws) c) h.wants;
  counts = λ c. ap (λ ws. count_wants ws (counts_after w.tally c)) h.wants ∙ ap (λ t. counts_after t c) h.tally;
  asks = λ b. ap (λ ws. option_map_or
      (λ (p : Place). map (λ (v : Wanted). p.address) (filter (λ (v : Wanted). v.asks) (wants_of b ws))) w.place [])
      h.wants ∙ asks_none w.place;
}

either : {A : Type 0} (t : Bool) (x y : A) → x ≡ y → cond t x y ≡ y
either true x y h = h
either false x y h = refl

pub costs_free : (blocks : List BlockCosts) (seen : List Traced) (x : Traced) → IsFree x.what
    → AreCostsOf blocks (λ b i. block_counts b i seen) (λ b. misses_of b seen)
    → AreCostsOf blocks (λ b i. block_counts b i (seen ++ x ∷ [])) (λ b. misses_of b (seen ++ x ∷ []))
costs_free blocks seen x free h = λ b d within. cost_as _ _ _ _ _ (h b d within)
    (λ i. sym (counts_more b i seen x no_counts
    ∙ either (eqb x.node i) (count_about b x.what (block_counts b i seen)) (block_counts b i seen)
    (free.about b (block_counts b i seen))))
    (sym (misses_more b seen x ∙ ap (λ l. misses_of b seen ++ l) (free.asks b) ∙ append-nil (misses_of b seen)))

pub totals_free : (n : ℕ) (kept : List NodeCounts) (seen : List Traced) (x : Traced) → IsFree x.what
    → AreTotals n kept (λ i. counts_from i seen no_counts)
    → AreTotals n kept (λ i. counts_from i (seen ++ x ∷ []) no_counts)
totals_free n kept seen x free h = record {
  all = h.all;
  each = λ i low. h.each i low ∙ sym (total_more i seen x no_counts
      ∙ either (eqb x.node i) (count_in x.what (counts_from i seen no_counts)) (counts_from i seen no_counts)
      (free.counts (counts_from i seen no_counts)));
}

-- 2. WrittenWords that write nothing

unwritten_at : (b i : ℕ) (access : Option Accessed)
    → option_map_or (λ (a : Accessed). is_write a.kind) access false ≡ false
    → option_map_or (written_at b i) access [] ≡ []
unwritten_at b i None h = refl
unwritten_at b i (Some a) h =
    ap (λ t. cond (t && is_block b a.block) (record { node = i; word = a.address / 4 } ∷ []) []) h

passed_free : (w : What) → IsPassedWhat until.Write w → IsFree w
passed_free (Word w) h = plain_free w h.plain
passed_free (Taken t) h = absurd h

passed_unwritten : (b i : ℕ) (w : What) → IsPassedWhat until.Write w → written_by b i w ≡ []
passed_unwritten b i (Word w) h = unwritten_at b i w.access h.goes_on
passed_unwritten b i (Taken t) h = absurd h

one_passed : (s : Sums) (seen : List Traced) (x : Traced) → IsPassed until.Write x → AreSumsOf s seen
    → AreSumsOf s (seen ++ x ∷ [])
one_passed s seen x passed h =
    let free = passed_free x.what passed in
    record {
      count = h.count;
      costs = costs_free s.costs.blocks.items seen x free h.costs;
      totals = totals_free s.layout.now.nodes s.totals.nodes.items seen x free h.totals;
      writers = h.writers;
      sharing = λ b d within. subst (AreWritersOf (slice_index_or s.sharing.blocks.items b d))
          (sym (writes_more b seen x
          ∙ ap (λ l. writes_of b seen ++ l) (passed_unwritten b x.node x.what passed)
          ∙ append-nil (writes_of b seen))) (h.sharing b d within);
    }

pub all_passed : (s : Sums) (seen more : List Traced) → AreSumsOf s seen → All (IsPassed until.Write) more
    → AreSumsOf s (seen ++ more)
all_passed s seen [] h passed = subst (AreSumsOf s) (sym (append-nil seen)) h
all_passed s seen (x ∷ xs) h passed =
    let P : Traced → Type 0 = IsPassed until.Write in
    subst (AreSumsOf s) (append_assoc seen (x ∷ []) xs)
    (all_passed s (seen ++ x ∷ []) xs (one_passed s seen x (All-head P x xs passed) h) (All-tail P x xs passed))
