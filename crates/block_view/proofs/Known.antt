-- An event of a run counts of blocks of the layout alone.
use Rattle.std.proofs.Common.{◌≡◌, ◌⊎◌, ℕ, ◌<◌, Bool, true, false, cond, ltb, eqb, ◌&&◌, List, [], ◌∷◌, length, map, Option, Some, None, refl, inl, inr}
use Rattle.std.specs.Prelude.{All, option_to_list}
use Rattle.std.specs.Option.{option_map, option_map_or}
use Rattle.std.proofs.lemmas.Bool.{lt-ltb}
use Rattle.std.proofs.lemmas.List.Elements.{All-nil, All-cons}
use Rattle.std.proofs.lemmas.List.Elements.{All-append}
use Rattle.block_layout.specs.Layout.{Shape, blocks, block_of, home}
use Rattle.rv32_program.specs.Program.{line_of}
use Rattle.home_directory.specs.dsm_messages.declared.messages.Message.{Message}
use Rattle.home_directory.specs.dsm_messages.declared.messages.Message.TheVariants.{Read, Write, FwdRead, FwdWrite, Inval, Data, Grant, Ack, Done, Bye}
use Rattle.home_directory.specs.dsm_messages.declared.messages.Wire.{Wire}
use Rattle.home_directory.specs.dsm_messages.Headers.{sent_by}
use Rattle.home_directory.specs.Table.{HomeRow, NodeRow}
use Rattle.miss_handlers.specs.Rows.{Row, clears, at_home, at_node}
use Rattle.templates.specs.declared.plans.PlanEntry.{PlanEntry}
use Rattle.node_model.specs.Node.{Work, Node, Want}
use Rattle.node_model.specs.Turns.{Turn, want_in, by_row_or, journaled, after_word, each_block_once, wants_of}
use Rattle.node_model.specs.Node.{word_outcome}
use Rattle.node_model.specs.Core.{Core, Event, Exec, Take, event_step}
use Rattle.event_text.specs.run_order.OwnRun.{Stamped}
use Rattle.event_text.specs.node_machine.Wanted.{block_with, wanted, wants_along}
use Rattle.event_text.specs.node_machine.declared.wanted.Wanted.{Wanted}
use Rattle.event_text.specs.run_trace.Traced.{Traced, Taken, take_traced, first_traced, traced_at}
use Rattle.event_text.specs.run_trace.Trace.{trace_from}
use Rattle.block_view.specs.Counts.{is_below, IsOfBlocks}

abbrev pub HasBlocks : Shape → Type 0
HasBlocks layout = (b line : ℕ) → block_of layout line ≡ Some b → b < blocks layout

-- 1. A word

module _ (layout : Shape) (has : HasBlocks layout) where
  asked_below : (n : Node) (w : Want) (o : Option ℕ) → block_of layout (line_of w.at) ≡ o
      → (wanted layout n w o).asks ≡ true → is_below (blocks layout) o ≡ true
  asked_below n w None is asks = let no : false ≡ true = asks in absurd cc
  asked_below n w (Some b) is asks = lt-ltb b (blocks layout) (has b (line_of w.at) is)

  along : (ws : List Want) (t : Turn)
      → All (λ (v : Wanted). v.asks ≡ true → is_below (blocks layout) v.block ≡ true) (wants_along layout t ws)
  along [] t = All-nil (λ (v : Wanted). v.asks ≡ true → is_below (blocks layout) v.block ≡ true)
  along (w ∷ ws) t =
      let o = block_with layout w.at in
      All-cons (λ (v : Wanted). v.asks ≡ true → is_below (blocks layout) v.block ≡ true) (wanted layout t.node w o)
      (wants_along layout (want_in layout t w.need o) ws)
      (asked_below t.node w o refl) (along ws (want_in layout t w.need o))

  -- 2. A message

  -- a message of a block, or one that counts nothing
  abbrev Counts : Option ℕ → Option Row → Node → Type 0
  Counts block o n = (is_below (blocks layout) block ≡ true)
      ⊎ ((option_map_or clears o false ≡ false) × (length (map sent_by (by_row_or layout n o).sends) ≡ 0))

  at_other : (n : Node) (b : ℕ) (t : Bool) (r : Option NodeRow) → ltb b (blocks layout) ≡ t
      → Counts (Some b) (at_node b (cond t r None)) n
  at_other n b true r is = inl is
  at_other n b false r is = inr (refl, refl)

  at_its_home : (n : Node) (b : ℕ) (t s : Bool) (r : Option HomeRow) → ltb b (blocks layout) ≡ t
      → Counts (Some b) (at_home b (cond (t && s) r None)) n
  at_its_home n b true s r is = inl is
  at_its_home n b false s r is = inr (refl, refl)

  take_known : (work : Work) → work.layout ≡ layout → (n : Node) (j stamp : ℕ) (m : Message)
      → IsOfBlocks (blocks layout)
      (Taken (take_traced (record work { layout = layout }) n j (record { stamp = stamp; message = m })))
  take_known work is n j stamp (Read b buf) =
      at_its_home (journaled n j (record { stamp = stamp; message = Read b buf })) b
      (ltb b (blocks layout)) (eqb (home layout b) n.me) _ refl
  take_known work is n j stamp (Write b buf) =
      at_its_home (journaled n j (record { stamp = stamp; message = Write b buf })) b
      (ltb b (blocks layout)) (eqb (home layout b) n.me) _ refl
  take_known work is n j stamp (Done b) =
      at_its_home (journaled n j (record { stamp = stamp; message = Done b })) b
      (ltb b (blocks layout)) (eqb (home layout b) n.me) _ refl
  take_known work is n j stamp (FwdRead b r buf) =
      at_other (journaled n j (record { stamp = stamp; message = FwdRead b r buf })) b (ltb b (blocks layout)) _ refl
  take_known work is n j stamp (FwdWrite b r k buf) =
      at_other (journaled n j (record { stamp = stamp; message = FwdWrite b r k buf })) b (ltb b (blocks layout)) _ refl
  take_known work is n j stamp (Inval b r) =
      at_other (journaled n j (record { stamp = stamp; message = Inval b r })) b (ltb b (blocks layout)) _ refl
  take_known work is n j stamp (Data b k buf) =
      at_other (journaled n j (record { stamp = stamp; message = Data b k buf })) b (ltb b (blocks layout)) _ refl
  take_known work is n j stamp (Grant b k buf) =
      at_other (journaled n j (record { stamp = stamp; message = Grant b k buf })) b (ltb b (blocks layout)) _ refl
  take_known work is n j stamp (Ack b) =
      at_other (journaled n j (record { stamp = stamp; message = Ack b })) b (ltb b (blocks layout)) _ refl
  take_known work is n j stamp Bye = inr (refl, refl)

-- 3. A run

module _ (work : Work) (plan : List PlanEntry) (has : HasBlocks work.layout) where
  abbrev Known : Traced → Type 0
  Known x = IsOfBlocks (blocks work.layout) x.what

  first_known : (n : Node) (k j stamp : ℕ) (wires : List Wire) → All Known
      (option_to_list (option_map (λ w. record { stamp = stamp; node = k; what = w }) (first_traced work n j wires)))
  first_known n k j stamp [] = All-nil Known
  first_known n k j stamp (wire ∷ rest) =
      All-cons Known _ [] (take_known work.layout has work refl n j wire.stamp wire.message) (All-nil Known)

  event_known : (c : Core) (stamp : ℕ) (e : Event)
      → All Known (option_to_list (traced_at work plan c (record { stamp = stamp; event = e })))
  event_known c stamp (Exec k) =
      All-cons Known _ []
      (along work.layout has (each_block_once work.layout (wants_of (word_outcome work (c.nodes k)).move))
      (after_word work (c.nodes k))) (All-nil Known)
  event_known c stamp (Take k j) = first_known (c.nodes k) k j stamp (c.list j k)

  pub run_known : (xs : List Stamped) (c : Core) → All Known (trace_from work plan c xs)
  run_known [] c = All-nil Known
  run_known (x ∷ xs) c =
      All-append Known (option_to_list (traced_at work plan c x)) (trace_from work plan (event_step work c x.event) xs)
      (event_known c x.stamp x.event) (run_known xs (event_step work c x.event))
