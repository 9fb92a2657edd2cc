-- The journal of a node is of takes one behind another.
use Rattle.std.proofs.Common.{◌≡◌, ℕ, ◌+◌, ◌-◌, ◌<◌, ◌≤◌, List, [], ◌∷◌, ◌++◌, length, Option, Some, None, refl, sym, ap, ◌∙◌, subst, arith}
use Rattle.node_model.specs.dsm_messages.declared.messages.Wire.{Wire}
use Rattle.node_model.specs.declared.Entry.{Entry as JournalEntry}
use Rattle.node_model.specs.Node.{Work, Node, opening_node, word_step}
use Rattle.node_model.specs.Turns.{words_before, journaled}
use Rattle.node_model.specs.Core.{Event, opening_core, IsCoreRun, after}
use Rattle.run_order.specs.OwnRun.{last_take}
use Rattle.run_order.specs.Takes.{IsTakeWithin, AreTakesWithin}
use Rattle.run_order.proofs.History.{LocalEvent, of, Local}
use Rattle.run_order.proofs.Journals.{IsTold, word_told, take_told}
use Rattle.run_order.proofs.Kept.{Kept, kept, word_kept, take_kept}
use Rattle.run_order.proofs.Merging.{run_fits}
use Rattle.run_order.proofs.Moving.{MovesBy, Moves, later_both, run_did}
use Rattle.run_order.proofs.Stamps.{opening_up}
use Rattle.run_order.proofs.Told.{opening_tells}

wider : (n last most more : ℕ) (es : List JournalEntry) → most ≤ more
    → AreTakesWithin n last most es → AreTakesWithin n last more es
wider n last most more [] le h = tt
wider n last most more (e ∷ es) le h = (
  record {
    from = h.0.from;
    behind = h.0.behind;
    within = (let a = h.0.within in omega arith);
  },
  wider n e.stamp most more es le h.1,
)

one_more : (n last most : ℕ) (es : List JournalEntry) (e : JournalEntry)
    → AreTakesWithin n last most es → IsTakeWithin n (last_take last es) most e
    → AreTakesWithin n last most (es ++ e ∷ [])
one_more n last most [] e h k = (k, tt)
one_more n last most (x ∷ xs) e h k = (h.0, one_more n x.stamp most xs e h.1 k)

-- the journal tells the node's stamp, and its takes are one behind another
abbrev pub Keeps : Work → Kept → Type 0
Keeps work k = IsTold k.journal k.executed k.stamp
    × AreTakesWithin work.layout.nodes 0 k.stamp k.journal

move_keeps : (work : Work) (s : Node) (d : LocalEvent) (t : Node) (o : Option (ℕ × Wire))
    → MovesBy work s d t o → Keeps work (kept s) → Keeps work (kept t)
move_keeps work s d t None m h =
    let same : kept t ≡ kept (word_step work s) =
    ap (λ (n : Node). kept n) m.node ∙ word_kept work s in
    let more : Keeps work (kept (word_step work s)) = (
      word_told s.journal s.executed s.stamp h.0,
      wider work.layout.nodes 0 s.stamp (s.stamp + 1) s.journal (omega arith) h.1,
    ) in
    subst (λ k. Keeps work k) (sym same) more
move_keeps work s d t (Some p) m h =
    let same : kept t ≡ kept (journaled s p.0 p.1) =
    ap (λ (n : Node). kept n) m.node ∙ take_kept work s p.0 p.1 in
    let e : JournalEntry = record {
      stamp = (journaled s p.0 p.1).stamp;
      from = p.0;
      words = s.executed - words_before s.journal;
    } in
    let above : s.stamp < e.stamp = (later_both s.stamp p.1.stamp).0 in
    let stamp = h.0.stamp in
    let new : IsTakeWithin work.layout.nodes (last_take 0 s.journal) e.stamp e = record {
      from = m.from;
      behind = omega (arith, above, stamp);
      within = omega arith;
    } in
    let more : Keeps work (kept (journaled s p.0 p.1)) = (
      take_told s.journal s.executed s.stamp e h.0 refl,
      one_more work.layout.nodes 0 e.stamp s.journal e
          (wider work.layout.nodes 0 s.stamp e.stamp s.journal (omega (arith, above)) h.1) new,
    ) in
    subst (λ k. Keeps work k) (sym same) more

local_keeps : (work : Work) (ds : List LocalEvent) (s t : Node) → Local (Moves work) s ds t
    → Keeps work (kept s) → Keeps work (kept t)
local_keeps work [] s t l h = subst (λ (n : Node). Keeps work (kept n)) l h
local_keeps work (d ∷ ds) s t l h =
    local_keeps work ds l.0 t l.2 (move_keeps work s d l.0 d.took l.1 h)

pub takes : (work : Work) (run : List Event) (i : ℕ) → IsCoreRun work (opening_core work) run
    → i < work.layout.nodes
    → AreTakesWithin work.layout.nodes 0 (length run)
    ((after work (opening_core work) run).nodes i).journal
takes work run i may b =
    let c = after work (opening_core work) run in
    let did = run_did work run (opening_core work) may in
    let fits = run_fits (Moves work) did.0 (opening_core work) c did.2 in
    let keeps = local_keeps work (of i did.0) (opening_node work i) (c.nodes i) (fits.0 i)
    (opening_tells work i, tt) in
    wider work.layout.nodes 0 (c.nodes i).stamp (length run) (c.nodes i).journal
    ((opening_up work run may).nodes i b) keeps.1
