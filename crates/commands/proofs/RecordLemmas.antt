-- The record of a run can be written.
use Rattle.std.proofs.Common.{◌≡◌, ℕ, zero, suc, ◌+◌, ◌*◌, ◌^◌, ◌<◌, ◌≤◌, ◌==◌, Bool, true, false, ◌||◌, List, [], ◌∷◌, ◌++◌, length, map, Option, None, Some, refl, sym, ap, ◌∙◌, subst, arith, eqb-true, ltb-true}
use Rattle.std.specs.Prelude.{All, IfSome, Vec}
use Rattle.std.specs.declared.alloc.Global.{Global}
use Rattle.std.specs.List.{list_any, range_with_len}
use Rattle.std.proofs.lemmas.Nat.{mul-le}
use Rattle.std.proofs.lemmas.List.{length-map}
use Rattle.std.proofs.lemmas.List.Elements.{All-nil, All-cons, All-weaker}
use Rattle.std.proofs.lemmas.List.FromFn.{length-map-range_with_len}
use Rattle.block_layout.specs.Layout.{IsValid, IsRange, is_home}
use Rattle.block_layout.specs.declared.layout.BlockRange.{BlockRange}
use Rattle.block_layout.specs.declared.ranges.Lines.{Lines}
use Rattle.rv32_program.specs.Program.{Program, IsAccepted}
use Rattle.templates.specs.declared.plans.PlanEntry.{PlanEntry}
use Rattle.jump_map.specs.Image.{Cell, IsRewriting, read_cell}
use Rattle.node_model.specs.declared.Entry.{Entry}
use Rattle.node_model.specs.Node.{Work, Node, IsLaidOver}
use Rattle.node_model.specs.Core.{Core, Event, IsCoreRun, opening_core, after}
use Rattle.run_order.specs.OwnRun.{Stamped, StandsForOwnRun, run_of}
use Rattle.run_order.specs.Takes.{AreTakesWithin}
use Rattle.rewriting_law.specs.Bounds.{RunsRewritten, most_events}
use Rattle.run_record.specs.Lists.{items_of}
use Rattle.run_record.specs.Record.{IsBlockLine, AreTakesBehind, IsCodeLength, IsRecord}
use Rattle.commands.specs.Records.{record_at, record_of}

-- ---- the ranges of the layout

or_cases : (a b : Bool) → (a || b) ≡ true → (a ≡ false) → b ≡ true
or_cases true b e f = absurd (cc)
or_cases false b e f = e

small : (n : ℕ) (sizes : List ℕ) → All (λ size. size ≤ 4096) sizes
    → list_any (λ size. n == size) sizes ≡ true → n ≤ 4096
small n [] all e = absurd (cc)
small n (s ∷ ss) all e = go (n == s) refl (λ h.
    small n ss (Rattle.std.proofs.lemmas.List.Elements.All-tail (λ size. size ≤ 4096) s ss all)
    (or_cases (n == s) (list_any (λ size. n == size) ss) e h))
  where
    go : (b : Bool) → (n == s) ≡ b → ((n == s) ≡ false → n ≤ 4096) → n ≤ 4096
    go true h more =
        let is = eqb-true n s h in
        let low = Rattle.std.proofs.lemmas.List.Elements.All-head (λ size. size ≤ 4096) s ss all in
        omega (arith, is, low)
    go false h more = more h

sizes_small : All (λ size. size ≤ 4096) (64 ∷ 128 ∷ 256 ∷ 512 ∷ 1024 ∷ 2048 ∷ 4096 ∷ [])
sizes_small =
    All-cons (λ size. size ≤ 4096) 64 (128 ∷ 256 ∷ 512 ∷ 1024 ∷ 2048 ∷ 4096 ∷ []) (omega arith)
    (All-cons (λ size. size ≤ 4096) 128 (256 ∷ 512 ∷ 1024 ∷ 2048 ∷ 4096 ∷ []) (omega arith)
    (All-cons (λ size. size ≤ 4096) 256 (512 ∷ 1024 ∷ 2048 ∷ 4096 ∷ []) (omega arith)
    (All-cons (λ size. size ≤ 4096) 512 (1024 ∷ 2048 ∷ 4096 ∷ []) (omega arith)
    (All-cons (λ size. size ≤ 4096) 1024 (2048 ∷ 4096 ∷ []) (omega arith)
    (All-cons (λ size. size ≤ 4096) 2048 (4096 ∷ []) (omega arith)
    (All-cons (λ size. size ≤ 4096) 4096 [] (omega arith) (All-nil (λ size. size ≤ 4096))))))))

home_low : (nodes : ℕ) (home : Option ℕ) → nodes ≤ 16 → is_home nodes home ≡ true
    → IfSome home (λ node. node ≤ 99)
home_low nodes None few e = tt
home_low nodes (Some h) few e = let low = ltb-true h nodes e in omega (arith, low, few)

pub block_line : (shared : List Lines) (nodes : ℕ) → nodes ≤ 16 → (r : BlockRange) → IsRange shared nodes r
    → IsBlockLine r
block_line shared nodes few r h = record {
  size = (let low = small r.block (64 ∷ 128 ∷ 256 ∷ 512 ∷ 1024 ∷ 2048 ∷ 4096 ∷ []) sizes_small h.size in omega (arith, low));
  home = home_low nodes r.home few h.home;
}

-- ---- the journals

behind : (n last most : ℕ) (es : List Entry) → most < 2 ^ 63 → AreTakesWithin n last most es
    → AreTakesBehind n last es
behind n last most [] low h = tt
behind n last most (e ∷ es) low h =
    let b = h.0.behind in
    let w = h.0.within in (
      record {
        from = h.0.from;
        stamp = b;
        low = omega (arith, w, low);
        few_words = omega (arith, b, w, low);
      },
      behind n e.stamp most es low h.1,
    )

each_from : (f : ℕ → List Entry) (P : List Entry → Type 0) (first count : ℕ)
    → ((i : ℕ) → i < first + count → P (f i)) → All P (map f (range_with_len first count))
each_from f P first zero h = All-nil P
each_from f P first (suc count) h = All-cons P (f first) (map f (range_with_len (first + 1) count))
    (h first (omega arith)) (each_from f P (first + 1) count (λ i low. h i (omega (arith, low))))

pub items_more : (vs : List (Vec Entry Global)) (v : Vec Entry Global)
    → items_of (vs ++ v ∷ []) ≡ items_of vs ++ v.items ∷ []
items_more [] v = refl
items_more (w ∷ vs) v = ap (λ xs. w.items ∷ xs) (items_more vs v)

-- the law of journals, and that of short runs
abbrev pub TellTakes : Type 0
TellTakes = (work : Work) (run : List Event) (i : ℕ) → IsCoreRun work (opening_core work) run
    → i < work.layout.nodes → AreTakesWithin work.layout.nodes 0 (length run)
    ((after work (opening_core work) run).nodes i).journal

abbrev pub AreShort : Type 0
AreShort = (work : Work) (plan : List PlanEntry) (events : List Event)
    → IsAccepted work.program → IsValid work.layout → IsLaidOver work.program work.layout
    → IsRewriting work.program plan work.image → 0 < work.budget
    → IsCoreRun work (opening_core work) events → length events ≤ most_events work

most : (n budget : ℕ) → n ≤ 16 → budget ≤ 2 ^ 32 → (4 * n + 5) * (n * budget) + n * n < 2 ^ 63
most n budget few range =
    let words = mul-le n budget 16 (2 ^ 32) few range in
    let runs = mul-le (4 * n + 5) (n * budget) 69 (16 * 2 ^ 32) (omega arith) words in
    let byes = mul-le n n 16 16 few few in
    omega (arith, runs, byes)

below : (k m top : ℕ) → k ≤ m → m < top → k < top
below k m top p q = omega (arith, p, q)

-- ---- the words of rewritten code, of which word 0 stands before all places

code_length : (program : Program) (plan : List PlanEntry) (image : List Cell)
    → IsRewriting program plan image → IsCodeLength (length image)
code_length program plan image h =
    let words = h.expansion.words in
    let cells : length (map read_cell image) ≡ length image = length-map image read_cell in
    let few = h.expansion.few in
    record {
      some = omega (arith, ap length words, cells);
      few = omega (arith, few);
    }

pub is_record : (batches : Bool) (work : Work) (core : Core) (own : List Stamped) → TellTakes → AreShort
    → RunsRewritten work → StandsForOwnRun work core own → IsRecord (record_at batches work core)
is_record batches work core own tell short r stands =
    let run : List Event = run_of own in
    let n : ℕ = work.layout.nodes in
    let events : ℕ = length run in
    let low : events < 2 ^ 63 = below events (most_events work) (2 ^ 63)
    (short work r.plan run r.accepted r.valid r.laid_over r.rewriting r.some stands.is_run)
    (most n work.budget r.valid.few_nodes r.few) in
    let some = r.valid.some_node in
    let words = r.some in
    record {
      nodes = (omega (arith, some), r.valid.few_nodes);
      budget = (omega (arith, words), r.few);
      code = code_length work.program r.plan work.image r.rewriting;
      blocks = All-weaker (IsRange work.layout.shared n) IsBlockLine
          (block_line work.layout.shared n r.valid.few_nodes) work.layout.named r.valid.named;
      each = length-map-range_with_len (λ i. (core.nodes i).journal) 0 n;
      journals = each_from (λ i. (core.nodes i).journal) (AreTakesBehind n 0) 0 n (λ i lt.
          let is : i < n = omega (arith, lt) in
          subst (λ (x : Node). AreTakesBehind n 0 x.journal) (sym (stands.ends.nodes i is))
          (behind n 0 events _ low (tell work run i stands.is_run is)));
    }

-- ---- the record of a core is that of its own run

same_from : (f g : ℕ → List Entry) (first count : ℕ) → ((i : ℕ) → i < first + count → f i ≡ g i)
    → map f (range_with_len first count) ≡ map g (range_with_len first count)
same_from f g first zero h = refl
same_from f g first (suc count) h =
    let one = h first (omega arith) in
    let more = same_from f g (first + 1) count (λ i low. h i (omega (arith, low))) in
    ap (λ x. x ∷ map f (range_with_len (first + 1) count)) one ∙ ap (λ xs. g first ∷ xs) more

pub own_record : (batches : Bool) (work : Work) (core : Core) (own : List Stamped)
    → StandsForOwnRun work core own → record_at batches work core ≡ record_of batches work own
own_record batches work core own stands =
    let end : Core = after work (opening_core work) (run_of own) in
    ap (λ js. record {
      nodes = work.layout.nodes;
      budget = work.budget;
      batch = batches;
      code = Some (length work.image);
      blocks = work.layout.named;
      journals = js;
    }) (same_from (λ i. (core.nodes i).journal) (λ i. (end.nodes i).journal) 0 work.layout.nodes
    (λ i lt. ap (λ (x : Node). x.journal) (stands.ends.nodes i (omega (arith, lt)))))
