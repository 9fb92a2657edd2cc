-- The messages that the nodes send are no more than their misses may cost.
use Rattle.std.proofs.Common.{◌≡◌, ℕ, zero, suc, ◌+◌, ◌*◌, ◌<◌, ◌≤◌, cond, Bool, true, false, List, [], ◌∷◌, length, map, Option, Some, None, refl, sym, ap, ◌∙◌, subst, arith}
use Rattle.std.specs.Prelude.{sum_by, unwrap_or, not, ◌&&◌}
use Rattle.std.specs.List.{range_with_len}
use Rattle.std.proofs.lemmas.List.FromFn.{sum_by-map-range_with_len_more}
use Rattle.rewriting_law.proofs.Names.{Shape, block_of, changed, empty_buffer, line_of, State, opening, run, can_read, Need, Message, Bye, Wire, post, BlockFacts, LocalBlock, Miss, meets, state_in_wait, first_wait, want_row, block_facts, Row, AtHome, AtNode, row_of, PlanEntry, wanted, local_block, NodeCounts, Work, Node, NodeMemory, Want, Phase, Tally, Nothing_counted, tally_resumed, word_outcome, Turn, block_at, count_want, holding, is_ended, wants_of, with_miss, want_in, want_all, after_word, after_wants, word_turn, by_row_or, handled, resumed, journaled, after_message, take_turn, each_block_once, Core, Event, Exec, Take, May, IsCoreRun, opening_core, take_first, event_step, after, write_misses, AreFrugal, counts_after, messages_of, picks_at, original_by_node}
use Rattle.state_table.specs.declared.State.{State as BlockState}
use Rattle.home_directory.specs.dsm_messages.declared.messages.Need.TheVariants as need
use Rattle.home_directory.specs.dsm_messages.declared.messages.Message.TheVariants.{Read, Write}
use Rattle.home_directory.specs.Table.{request}
use Rattle.dsm_protocol.proofs.Promised.{proper}
use Rattle.dsm_protocol.specs.node_model.Node.{counts_after as tallied}
use Rattle.rewriting_law.proofs.words.CodeSide.{CodeSide}
use Rattle.rewriting_law.proofs.one_memory.Matching.{Runs}
use Rattle.rewriting_law.proofs.one_memory.Sharing.{with_local, local_here}
use Rattle.rewriting_law.proofs.one_memory.Wants.{block_wanted, ask, ask_all}
use Rattle.rewriting_law.proofs.protocol_side.ProtocolSide.{Handled}
use Rattle.rewriting_law.proofs.protocol_side.Spending.{Counts, no_counts, total, asks_more, few_sent}
use Rattle.rewriting_law.proofs.protocol_side.Directory.{Rest, world_of, missed, miss_in, took, take_from, directory}
use Rattle.rewriting_law.proofs.protocol_side.DirectorySide.{Layout}
use Rattle.rewriting_law.proofs.runs.Turns.{byes_node, resumed_is}
use Rattle.rewriting_law.proofs.runs.TurnTies.{rest_at, locals_of, IsTurn, own_wait, block_by, AllFound, word_turned, want_turned}
use Rattle.rewriting_law.proofs.runs.Composed.{MatchesCore, counts_of_word, counts_of_take, counts_by, may_run, found as blocks_found, event_leads, start_matches, start_counts}
use Rattle.rewriting_law.proofs.progress.Short.{node_total}

-- 1. What a node counts of an event is what the protocol counts

-- so many misses and messages more, on both sides
record Spends (old new : NodeCounts) (before behind : Counts) : Type 0 where
  reads : ℕ
  writes : ℕ
  sends : ℕ
  read : new.read ≡ old.read + reads
  reads_too : behind.reads ≡ before.reads + reads
  write : write_misses new ≡ write_misses old + writes
  writes_too : behind.writes ≡ before.writes + writes
  sent : new.messages ≡ old.messages + sends
  sends_too : behind.sent ≡ before.sent + sends

-- one that counts the same, where no more is sent either
spends_same : (c d : NodeCounts) (k : Counts) → d.read ≡ c.read → write_misses d ≡ write_misses c
    → d.messages ≡ c.messages → Spends c d k k
spends_same c d k read write sent = record {
  reads = 0;
  writes = 0;
  sends = 0;
  read = omega (arith, read);
  reads_too = omega arith;
  write = omega (arith, write);
  writes_too = omega arith;
  sent = omega (arith, sent);
  sends_too = omega arith;
}

spends_none : (c : NodeCounts) (k : Counts) → Spends c c k k
spends_none c k = spends_same c c k refl refl refl

spends_then : (a b c : NodeCounts) (j k l : Counts) → Spends a b j k → Spends b c k l
    → Spends a c j l
spends_then a b c j k l f g =
    let r = f.read in
    let r2 = g.read in
    let w = f.write in
    let w2 = g.write in
    let m = f.sent in
    let m2 = g.sent in
    let x = f.reads_too in
    let x2 = g.reads_too in
    let y = f.writes_too in
    let y2 = g.writes_too in
    let z = f.sends_too in
    let z2 = g.sends_too in
    record {
      reads = f.reads + g.reads;
      writes = f.writes + g.writes;
      sends = f.sends + g.sends;
      read = omega (arith, r, r2);
      reads_too = omega (arith, x, x2);
      write = omega (arith, w, w2);
      writes_too = omega (arith, y, y2);
      sent = omega (arith, m, m2);
      sends_too = omega (arith, z, z2);
    }

-- what a word or a wait counts is no message
tally_spends : (t : Tally) (c : NodeCounts) (k : Counts) → Spends c (tallied t c) k k
tally_spends Nothing_counted c k = spends_none c k
tally_spends other c k = spends_same c (tallied other c) k refl refl refl

-- a request is sent for what is wanted
some_wait : (t : Bool) (asked miss : Miss) (for : Need) → wanted asked.block.wait ≡ Some for
    → cond t None (Some asked) ≡ Some miss → wanted miss.block.wait ≡ Some for
some_wait true asked miss for w e = let bad : None ≡ Some miss = e in cc
some_wait false asked miss for w e =
    let same : asked ≡ miss = cc in ap (λ (z : Miss). wanted z.block.wait) (sym same) ∙ w

request_for : (f : BlockFacts) (l : LocalBlock) (b : ℕ) (for : Need) (miss : Miss)
    → want_row f l b for (empty_buffer 4096) ≡ Some miss → wanted miss.block.wait ≡ Some for
request_for f l b for miss e =
    let asked : Miss = record {
      block = record {
        state = state_in_wait l.state;
        bytes = l.bytes;
        wait = Some (first_wait for);
      };
      post = post f.home (request for b (empty_buffer 4096));
    } in
    some_wait (meets for l.state) asked miss for refl e

want_spends_one : (for : Need) (state : BlockState) (c : NodeCounts) (k : Counts)
    → Spends c (count_want for state c) k (asks_more (Some for) k)
want_spends_one need.Read state c k = record {
  reads = 1;
  writes = 0;
  sends = 1;
  read = omega arith;
  reads_too = omega arith;
  write = omega arith;
  writes_too = omega arith;
  sent = omega arith;
  sends_too = omega arith;
}
want_spends_one need.Write state c k = go (can_read state)
  where
    upgraded : NodeCounts
    upgraded = record c { upgrade = c.upgrade + 1; messages = c.messages + 1 }

    fetched : NodeCounts
    fetched = record c { exclusive = c.exclusive + 1; messages = c.messages + 1 }

    written : (d : NodeCounts) → d.read ≡ c.read → write_misses d ≡ write_misses c + 1
        → d.messages ≡ c.messages + 1 → Spends c d k (asks_more (Some need.Write) k)
    written d read write sent = record {
      reads = 0;
      writes = 1;
      sends = 1;
      read = omega (arith, read);
      reads_too = omega arith;
      write = write;
      writes_too = omega arith;
      sent = sent;
      sends_too = omega arith;
    }

    go : (t : Bool) → Spends c (cond t upgraded fetched) k (asks_more (Some need.Write) k)
    go true = written upgraded refl (omega arith) refl
    go false = written fetched refl (omega arith) refl

miss_spends : (layout : Shape) (b : ℕ) (for : Need) (t : Turn) (n : NodeMemory) (rest : Rest) (i : ℕ)
    (o : Option Miss) → ((x : Miss) → o ≡ Some x → wanted x.block.wait ≡ Some for)
    → Spends t.node.counts (with_miss layout b for t o).node.counts rest.counts
    (missed layout n rest i b o).rest.counts
miss_spends layout b for t n rest i None h = spends_none t.node.counts rest.counts
miss_spends layout b for t n rest i (Some miss) h =
    let state = (block_at layout t.node b).state in
    subst (λ o. Spends t.node.counts (count_want for state t.node.counts) rest.counts
    (asks_more o rest.counts)) (sym (h miss refl))
    (want_spends_one for state t.node.counts rest.counts)

module _ (c : Core) (i : ℕ) (layout : Shape) where
  want_spends : (locals : ℕ → NodeMemory) (t : Turn) (u : Handled Rest) (b : ℕ) (for : Need)
      → IsTurn c i t u
      → Spends t.node.counts (want_in layout t for (Some b)).node.counts u.rest.counts
      ((directory layout).want (with_local locals i u.local) u.rest i b for).rest.counts
  want_spends locals t u b for h =
      let here = local_here locals i u.local in
      let others = with_local locals i u.local in
      let same : block_at layout t.node b ≡ local_block (world_of layout others u.rest) i b =
      ap (λ n. block_by c i layout b n t.node.wait) (h.local ∙ sym here)
      ∙ ap (λ f. block_by c i layout b (others i) f) (own_wait c i t u h) in
      let miss : want_row (block_facts layout b) (block_at layout t.node b) b for
      (empty_buffer 4096) ≡ miss_in layout (world_of layout others u.rest) i b for =
      ap (λ l. want_row (block_facts layout b) l b for (empty_buffer 4096)) same in
      subst (λ o. Spends t.node.counts (want_in layout t for (Some b)).node.counts u.rest.counts
      (missed layout (others i) u.rest i b o).rest.counts) miss
      (miss_spends layout b for t (others i) u.rest i
      (want_row (block_facts layout b) (block_at layout t.node b) b for (empty_buffer 4096))
      (λ x e. request_for (block_facts layout b) (block_at layout t.node b) b for x e))

  wants_spend : (work : Work) (plan : List PlanEntry) (locals : ℕ → NodeMemory) (ws : List Want)
      (t : Turn) (u : Handled Rest) → AllFound c i layout ws → IsTurn c i t u
      → Spends t.node.counts (want_all layout t ws).node.counts u.rest.counts
      (ask_all layout work plan (directory layout) locals i u ws).rest.counts
  wants_spend work plan locals [] t u found h = spends_none t.node.counts u.rest.counts
  wants_spend work plan locals (w ∷ ws) t u found h =
      let b = block_wanted layout work plan (directory layout) w in
      let is : block_of layout (line_of w.at) ≡ Some b =
      found.0.1 ∙ ap (λ o. Some (unwrap_or o 0)) (sym found.0.1) in
      let next = ask layout work plan (directory layout) locals i u w in
      let asked = want_in layout t w.need (block_of layout (line_of w.at)) in
      let one : Spends t.node.counts asked.node.counts u.rest.counts next.rest.counts =
      subst (λ o. Spends t.node.counts (want_in layout t w.need o).node.counts u.rest.counts
      next.rest.counts) (sym is) (want_spends locals t u b w.need h) in
      let turned : IsTurn c i asked next =
      subst (λ o. IsTurn c i (want_in layout t w.need o) next) (sym is)
      (want_turned c i layout locals t u b w.need h) in
      spends_then t.node.counts asked.node.counts (want_all layout asked ws).node.counts
      u.rest.counts next.rest.counts
      (ask_all layout work plan (directory layout) locals i next ws).rest.counts one
      (wants_spend work plan locals ws asked next found.1 turned)

-- what a row sends is counted
module _ (layout : Shape) (n : Node) (x : NodeMemory) (rest : Rest) (i j : ℕ) (ms : List Message) where
  row_spends : (o : Option Row) → Spends n.counts (by_row_or layout n o).node.counts rest.counts
      (took layout x rest i j ms o).rest.counts
  row_spends None = spends_none n.counts rest.counts
  row_spends (Some (AtHome b row)) = record {
    reads = 0;
    writes = 0;
    sends = length row.sends;
    read = omega arith;
    reads_too = omega arith;
    write = omega arith;
    writes_too = omega arith;
    sent = refl;
    sends_too = refl;
  }
  row_spends (Some (AtNode b row)) = record {
    reads = 0;
    writes = 0;
    sends = length row.sends;
    read = omega arith;
    reads_too = omega arith;
    write = omega arith;
    writes_too = omega arith;
    sent = refl;
    sends_too = refl;
  }

  message_spends : (m : Message) → Spends n.counts (handled layout n j m).node.counts rest.counts
      (took layout x rest i j ms (row_of layout n.me (holding layout n) j m)).rest.counts
  message_spends Bye = spends_none n.counts rest.counts
  message_spends other = row_spends (row_of layout n.me (holding layout n) j other)

resumed_spends : (work : Work) (n : Node) (phase : Phase) (k : Counts)
    → Spends n.counts (resumed work n phase).counts k k
resumed_spends work n phase k =
    resumed_is work n (λ m. Spends n.counts m.counts k k) (spends_none n.counts k)
    (λ resume. tally_spends (tally_resumed n.local resume) n.counts k) phase

none_total : (n : ℕ) → total (λ x. 0) n ≡ 0
none_total zero = refl
none_total (suc n) = let rest = none_total n in omega (arith, rest)

sum_is_total : (f : NodeCounts → ℕ) (g : ℕ → NodeCounts) (n : ℕ)
    → sum_by f (map g (range_with_len 0 n)) ≡ total (λ x. f (g x)) n
sum_is_total f g zero = refl
sum_is_total f g (suc n) =
    let rest = sum_is_total f g n in
    let one : n + 1 ≡ suc n = omega arith in
    ap (λ k. sum_by f (map g (range_with_len 0 k))) (sym one)
    ∙ sum_by-map-range_with_len_more f g 0 n n (omega arith) ∙ ap (λ k. k + f (g n)) rest

module _ (work : Work) (plan : List PlanEntry) (lay : Layout work)
    (code : CodeSide work.layout work plan) where
  abbrev layout : Shape
  layout = work.layout

  -- 2. Over all nodes

  record IsPaid (nodes : ℕ → Node) (k : Counts) : Type 0 where
    read : k.reads ≡ total (λ x. (nodes x).counts.read) layout.nodes
    write : k.writes ≡ total (λ x. write_misses (nodes x).counts) layout.nodes
    sent : k.sent ≡ total (λ x. (nodes x).counts.messages) layout.nodes

  paid_one : (nodes : ℕ → Node) (i : ℕ) (m : Node) (k l : Counts) → i < layout.nodes
      → Spends (nodes i).counts m.counts k l → IsPaid nodes k → IsPaid (changed nodes i m) l
  paid_one nodes i m k l low f h =
      let r = node_total (λ x. x.counts.read) nodes i m f.reads layout.nodes low f.read in
      let w = node_total (λ x. write_misses x.counts) nodes i m f.writes layout.nodes low f.write
      in
      let s = node_total (λ x. x.counts.messages) nodes i m f.sends layout.nodes low f.sent in
      let r0 = h.read in
      let w0 = h.write in
      let s0 = h.sent in
      let r1 = f.reads_too in
      let w1 = f.writes_too in
      let s1 = f.sends_too in
      record {
        read = omega (arith, r, r0, r1);
        write = omega (arith, w, w0, w1);
        sent = omega (arith, s, s0, s1);
      }

  -- 3. An event

  module _ (c : Core) (s : State) (m : MatchesCore work plan lay code c s) (i : ℕ)
      (below : i < layout.nodes) where
    abbrev n : Node
    n = c.nodes i

    word_spends : m.doing i ≡ Runs → Spends n.counts (word_turn work n).node.counts m.counts
        (counts_of_word work plan lay code m.counts c i)
    word_spends runs =
        let r = word_outcome work n in
        let ws = each_block_once layout (wants_of r.move) in
        let locals = with_local (locals_of c) i r.local in
        let first : Handled Rest = record { local = locals i; rest = rest_at m.counts c } in
        let t = after_wants work n in
        let turned : IsTurn c i (after_word work n) first =
        subst (λ x. IsTurn c i (after_word work n)
        (record { local = x; rest = rest_at m.counts c }))
        (sym (local_here (locals_of c) i r.local)) (word_turned c i work m.counts) in
        let counts = counts_of_word work plan lay code m.counts c i in
        subst (λ (x : Node). Spends n.counts x.counts m.counts counts)
        (sym (byes_node layout.nodes t (is_ended t.node.phase)))
        (spends_then n.counts (after_word work n).node.counts t.node.counts m.counts m.counts
        counts (tally_spends r.tally n.counts m.counts)
        (wants_spend c i layout work plan locals ws (after_word work n) first
        (blocks_found work plan lay code c s m i below runs) turned))

    take_spends : (j : ℕ) (wire : Wire) (ws : List Wire) → c.list j i ≡ wire ∷ ws
        → Spends n.counts (take_turn work n j wire).node.counts m.counts
        (counts_of_take work plan lay code m.counts c i j)
    take_spends j wire ws front =
        let n1 = journaled n j wire in
        let t1 = handled layout n1 j wire.message in
        let on = after_message work n j wire in
        let rest = rest_at m.counts c in
        let row : took layout n.local rest i j (messages_of ws)
        (row_of layout n1.me (holding layout n1) j wire.message)
        ≡ take_from layout (locals_of c) rest i j (messages_of (c.list j i)) =
        ap (λ k. took layout n.local rest i j (messages_of ws)
        (row_of layout k (holding layout n1) j wire.message)) (m.numbers i below)
        ∙ ap (λ xs. take_from layout (locals_of c) rest i j (messages_of xs)) (sym front) in
        let counts = counts_of_take work plan lay code m.counts c i j in
        let one : Spends n.counts t1.node.counts m.counts counts =
        subst (λ (u : Handled Rest). Spends n.counts t1.node.counts m.counts u.rest.counts) row
        (message_spends layout n1 n.local rest i j (messages_of ws) wire.message) in
        subst (λ (x : Node). Spends n.counts x.counts m.counts counts)
        (sym (byes_node layout.nodes on (is_ended on.node.phase && not (is_ended n.phase))))
        (spends_then n.counts t1.node.counts on.node.counts m.counts counts counts one
        (resumed_spends work t1.node t1.node.phase counts))

  paid_event : (c : Core) (s : State) (m : MatchesCore work plan lay code c s)
      → IsPaid c.nodes m.counts → (e : Event) → May work c e
      → IsPaid (event_step work c e).nodes (counts_by work plan lay code m.counts c e)
  paid_event c s m h (Exec i) may =
      let n = c.nodes i in
      let runs = may_run work plan lay code n (m.doing i) n.phase (m.phases i may.0) may.1 in
      paid_one c.nodes i (word_turn work n).node m.counts
      (counts_of_word work plan lay code m.counts c i) may.0 (word_spends c s m i may.0 runs) h
  paid_event c s m h (Take i j) may = go (c.list j i) refl
    where
      go : (xs : List Wire) → c.list j i ≡ xs → IsPaid (take_first work c i j (c.list j i)).nodes
          (counts_of_take work plan lay code m.counts c i j)
      go [] e = absurd (may.3 e)
      go (wire ∷ ws) e = subst (λ xs. IsPaid (take_first work c i j xs).nodes
          (counts_of_take work plan lay code m.counts c i j)) (sym e)
          (paid_one c.nodes i (take_turn work (c.nodes i) j wire).node m.counts
          (counts_of_take work plan lay code m.counts c i j) may.0
          (take_spends c s m i may.0 j wire ws e) h)

  -- 4. A run

  record Behind (c : Core) : Type 0 where
    state : State
    matches : MatchesCore work plan lay code c state
    paid : IsPaid c.nodes matches.counts

  after_run : (es : List Event) (c : Core) (s : State) (m : MatchesCore work plan lay code c s)
      → IsPaid c.nodes m.counts → IsCoreRun work c es → Behind (after work c es)
  after_run [] c s m h may = record { state = s; matches = m; paid = h }
  after_run (e ∷ es) c s m h may =
      let d = event_step work c e in
      let leads = (event_leads work plan lay code c s m e may.0).0 in
      after_run es d (run (original_by_node work) s (picks_at work plan c e)) leads.behind
      (subst (IsPaid d.nodes) (sym leads.counted) (paid_event c s m h e may.0)) may.1

  start_paid : IsPaid (opening_core work).nodes no_counts
  start_paid = record {
    read = sym (none_total layout.nodes);
    write = sym (none_total layout.nodes);
    sent = sym (none_total layout.nodes);
  }

  pub frugal : (es : List Event) → IsCoreRun work (opening_core work) es
      → AreFrugal layout.nodes (counts_after work es)
  frugal es may =
      let c = after work (opening_core work) es in
      let b = after_run es (opening_core work) (opening (original_by_node work))
      (start_matches work plan lay code)
      (subst (IsPaid (opening_core work).nodes) (sym (start_counts work plan lay code)) start_paid)
      may in
      let held = b.matches.matches.shares.held in
      let few = few_sent layout held.holds.first (proper layout lay.laid held.holds.first)
      held.holds.events b.matches.counts held.counted in
      let counts : ℕ → NodeCounts = λ x. (c.nodes x).counts in
      let read = b.paid.read ∙ sym (sum_is_total (λ k. k.read) counts layout.nodes) in
      let write = b.paid.write ∙ sym (sum_is_total write_misses counts layout.nodes) in
      let sent = b.paid.sent ∙ sym (sum_is_total (λ k. k.messages) counts layout.nodes) in
      subst (λ k. k ≤ 4 * sum_by (λ (k : NodeCounts). k.read) (counts_after work es)
      + (2 * layout.nodes + 1) * sum_by write_misses (counts_after work es)) sent
      (subst (λ k. b.matches.counts.sent ≤ 4 * k
      + (2 * layout.nodes + 1) * sum_by write_misses (counts_after work es)) read
      (subst (λ k. b.matches.counts.sent ≤ 4 * b.matches.counts.reads
      + (2 * layout.nodes + 1) * k) write few))
