-- What a race comes to.
use Rattle.std.proofs.Common.{◌≡◌, ℕ, zero, suc, ◌+◌, ◌<◌, ◌≤◌, Option, None, Some, Ok, Result, IfOk, List, [], ◌∷◌, ◌++◌, map, length, slice_get, refl, ap, ap₂, ◌∙◌, sym, subst, subst₂, arith, append_assoc, length-append, eq-eqb, ⊎_elim, get_or, Vec, Global, le_of_suc-le-suc, not-suc-le-zero}
use Rattle.std.proofs.lemmas.Bool.{cases_lt}
use Rattle.std.proofs.lemmas.List.{length-map}
use Rattle.std.specs.declared.alloc.AllocError.{AllocError}
use Rattle.std.specs.declared.collections.VecDeque.{VecDeque}
use Rattle.atomic_table.specs.Seated.{TableId}
use Rattle.dsm_messages.specs.declared.messages.Wire.{Wire}
use Rattle.dsm_protocol.specs.node_model.Node.{Work, Node}
use Rattle.dsm_core.specs.node_machine.declared.node_state.NodeState.{NodeState}
use Rattle.dsm_core.specs.node_machine.NodeState.{node_of, work_of}
use Rattle.fifo_link.specs.End.{End}
use Rattle.dsm_core.specs.run_order.Apart.{LocalEvent, LeadsBy, taken_from, sent_to}
use Rattle.node_threads.specs.Rows.{wires_at}
use Rattle.node_threads.specs.Works.{Works, IsReady, through, waiting, links_of, undelivered_from}
use Rattle.node_threads.specs.Mesh.{Crosses, Gathers, GathersRow, AsLong, Unused, Fresh, IsMesh, tail}
use Rattle.node_threads.specs.Crew.{AllIdle, AllWork, AreNodesOf, UndeliveredFit, RowsOf, undelivered_at, list_of}
use Rattle.dsm_core.specs.CoreSteps.{node_or}
use Rattle.node_threads.specs.Races.{HaveRaced}
use Rattle.node_threads.specs.declared.worker.Worker.{Worker}
use Rattle.node_threads.proofs.Working.{links_len}

-- row k of rows, and none past the end
abbrev nth : {A : Type 0} → List (List A) → ℕ → List A
nth [] k = []
nth (r ∷ rs) zero = r
nth (r ∷ rs) (suc k) = nth rs k

-- the results of all workers, as one list
pub all_work : (olds : List Worker) (bs : List Worker) (rs : List (Result Worker AllocError))
    → length rs ≡ length olds → map (λ (b : Worker). Ok b) bs ≡ rs
    → ((i : ℕ) (w : Worker) (x : Result Worker AllocError) → slice_get olds i ≡ Some w
    → slice_get rs i ≡ Some x → IfOk x (λ y. Works w y)) → AllWork olds bs
all_work [] [] rs len is each = tt
all_work [] (b ∷ bs) [] len is each = absurd cc
all_work [] (b ∷ bs) (r ∷ rs) len is each = absurd (omega arith)
all_work (a ∷ olds) [] [] len is each = absurd (omega arith)
all_work (a ∷ olds) [] (r ∷ rs) len is each = absurd cc
all_work (a ∷ olds) (b ∷ bs) [] len is each = absurd cc
all_work (a ∷ olds) (b ∷ bs) (r ∷ rs) len is each =
    let head : Ok b ≡ r = cc in
    let tails : map (λ (b : Worker). Ok b) bs ≡ rs = cc in (
      subst (λ (x : Result Worker AllocError). IfOk x (λ y. Works a y)) (sym head)
          (each 0 a r refl refl),
      all_work olds bs rs (omega arith) tails (λ i w x p q. each (suc i) w x p q),
    )

abbrev L : Vec End Global → List End
L v = v.items

abbrev K : Vec End Global → List (TableId × ℕ)
K v = links_of v.items

abbrev Q : VecDeque Wire Global → List Wire
Q o = o.items

abbrev M : Vec (VecDeque Wire Global) Global → List (List Wire)
M v = map Q v.items

abbrev nodes_of : List Worker → List NodeState
nodes_of ws = map (λ (w : Worker). w.node) ws

abbrev sends_of : List Worker → List (Vec End Global)
sends_of ws = map (λ (w : Worker). w.sends) ws

abbrev takes_of : List Worker → List (Vec End Global)
takes_of ws = map (λ (w : Worker). w.takes) ws

abbrev outboxes_of : List Worker → List (Vec (VecDeque Wire Global) Global)
outboxes_of ws = map (λ (w : Worker). w.outboxes) ws

abbrev undelivered_of : List Worker → List (Option (ℕ × Wire))
undelivered_of ws = map (λ (w : Worker). w.undelivered) ws

pub ready : (work : Work) (n : ℕ) (ws : List Worker) → work.layout.nodes ≡ n
    → AreNodesOf work (nodes_of ws) → Fresh n (map L (sends_of ws)) → Fresh n (map L (takes_of ws))
    → RowsOf n (outboxes_of ws) → AllIdle ws
    → (k : ℕ) (d : Worker) → k < length ws → IsReady (get_or ws k d)
ready work n [] e an fs ft ro idle k d lt = absurd (not-suc-le-zero lt)
ready work n (w ∷ ws) e an fs ft ro idle zero d lt =
    let m : n ≡ (work_of w.node).layout.nodes =
    sym (ap (λ (v : Work). v.layout.nodes) an.0 ∙ e) in
    record {
      rows = record { sends = fs.0 ∙ m; takes = ft.0 ∙ m; outboxes = ro.0 ∙ m };
      undelivered = idle.0;
    }
ready work n (w ∷ ws) e an fs ft ro idle (suc k) d lt =
    ready work n ws e an.1 fs.2 ft.2 ro.1 idle.1 k d (le_of_suc-le-suc lt)

pub sends_kept : (ws bs : List Worker) → AllWork ws bs → map K (sends_of bs) ≡ map K (sends_of ws)
sends_kept [] [] h = refl
sends_kept (w ∷ ws) (b ∷ bs) h = ap₂ (λ x y. x ∷ y) h.0.same_sends (sends_kept ws bs h.1)
sends_kept ws bs h = absurd h

pub takes_kept : (ws bs : List Worker) → AllWork ws bs → map K (takes_of bs) ≡ map K (takes_of ws)
takes_kept [] [] h = refl
takes_kept (w ∷ ws) (b ∷ bs) h = ap₂ (λ x y. x ∷ y) h.0.same_takes (takes_kept ws bs h.1)
takes_kept ws bs h = absurd h

pub as_long : (n : ℕ) (ws bs : List Worker) → AllWork ws bs → Fresh n (map L (sends_of ws))
    → RowsOf n (outboxes_of ws) → AsLong (map M (outboxes_of bs)) (map L (sends_of bs))
as_long n [] [] h f r = tt
as_long n (w ∷ ws) (b ∷ bs) h f r = (
  length-map b.outboxes.items Q ∙ h.0.same_outboxes ∙ r.0
      ∙ sym (links_len b.sends.items w.sends.items h.0.same_sends ∙ f.0),
  as_long n ws bs h.1 f.2 r.1,
)
as_long n ws bs h f r = absurd h

through_unused : (es : List End) → Unused es → (j : ℕ) → through es j ≡ []
through_unused [] u j = refl
through_unused (e ∷ es) u zero = u.0
through_unused (e ∷ es) u (suc j) = through_unused es u.1 j

-- what worker i has done
record Did (work : Work) (ws bs : List Worker) (i : ℕ) : Type 0 where
  pub history : List LocalEvent
  pub leads : (d : Node)
      → LeadsBy work (node_or (nodes_of ws) i d) history (node_or (nodes_of bs) i d)
  pub takes : (j : ℕ) → through (nth (map L (takes_of bs)) i) j
      ≡ taken_from j history ++ undelivered_from j (undelivered_at (undelivered_of bs) i)
  pub pushed : ℕ → List Wire
  pub sends : (k : ℕ) → through (nth (map L (sends_of bs)) i) k ≡ pushed k
  pub outboxes : (d : Node) (k : ℕ) → k < work.layout.nodes → list_of (outboxes_of ws) i k
      ++ sent_to work k (node_or (nodes_of ws) i d) history ≡ pushed k ++ list_of (outboxes_of bs) i k

did : (work : Work) (n : ℕ) (ws bs : List Worker) → AllWork ws bs → AreNodesOf work (nodes_of ws)
    → Fresh n (map L (sends_of ws)) → Fresh n (map L (takes_of ws)) → (i : ℕ) → Did work ws bs i
did work n [] [] h an fs ft i = record {
  history = [];
  leads = λ d. refl;
  takes = λ j. refl;
  pushed = λ k. [];
  sends = λ k. refl;
  outboxes = λ d k lt. refl;
}
did work n (w ∷ ws) (b ∷ bs) h an fs ft zero = let x = h.0 in record {
  history = x.history;
  leads = λ d. subst (λ v. LeadsBy v (node_of w.node) x.history (node_of b.node)) an.0 x.leads;
  takes = λ j. x.takes j ∙ ap (λ l. (l ++ taken_from j x.history) ++ undelivered_from j b.undelivered)
      (through_unused w.takes.items ft.1 j);
  pushed = x.pushed;
  sends = λ k. x.sends k ∙ ap (λ l. l ++ x.pushed k) (through_unused w.sends.items fs.1 k);
  outboxes = λ d. subst (λ v. (k : ℕ) → k < v.layout.nodes → waiting w.outboxes.items k
      ++ sent_to v k (node_of w.node) x.history ≡ x.pushed k ++ waiting b.outboxes.items k) an.0 x.outboxes;
}
did work n (w ∷ ws) (b ∷ bs) h an fs ft (suc i) =
    let p = did work n ws bs h.1 an.1 fs.2 ft.2 i in
    record {
      history = p.history;
      leads = p.leads;
      takes = p.takes;
      pushed = p.pushed;
      sends = p.sends;
      outboxes = p.outboxes;
    }
did work n ws bs h an fs ft i = absurd h

row_gathered : (es : List End) (os : List (List Wire)) (ts : List (List End))
    (ls : List (List Wire)) (us : List (List End)) → GathersRow es os ts ls us → (k : ℕ)
    → (through es k ++ nth os k ≡ through (nth ts k) 0 ++ nth ls k) × (nth us k ≡ tail (nth ts k))
row_gathered [] [] [] [] [] h k = (refl, refl)
row_gathered (e ∷ es) (o ∷ os) ([] ∷ ts) (l ∷ ls) (u ∷ us) h zero = (h.0, h.1)
row_gathered (e ∷ es) (o ∷ os) ((t ∷ more) ∷ ts) (l ∷ ls) (u ∷ us) h zero = (h.0, h.1)
row_gathered (e ∷ es) (o ∷ os) (t ∷ ts) (l ∷ ls) (u ∷ us) h (suc k) =
    row_gathered es os ts ls us h.2 k
row_gathered es os ts ls us h k = absurd h

through_tail : (es : List End) (j : ℕ) → through (tail es) j ≡ through es (suc j)
through_tail [] j = refl
through_tail (e ∷ es) j = refl

length_tail : (es : List End) (n : ℕ) → length es ≤ suc n → length (tail es) ≤ n
length_tail [] n le = omega arith
length_tail (e ∷ es) n le = le_of_suc-le-suc le

through_none : (es : List End) (j : ℕ) → length es ≤ 0 → through es j ≡ []
through_none [] j le = refl
through_none (e ∷ es) j le = absurd (not-suc-le-zero le)

gathered : (ss : List (List End)) (os : List (List (List Wire))) (ts : List (List End))
    (ls : List (List (List Wire))) → Gathers ss os ts ls
    → ((k : ℕ) → length (nth ts k) ≤ length ss) → (j k : ℕ)
    → through (nth ss j) k ++ nth (nth os j) k ≡ through (nth ts k) j ++ nth (nth ls j) k
gathered [] [] ts [] h short j k = ap (λ l. l ++ []) (sym (through_none (nth ts k) j (short k)))
gathered (s ∷ ss) (o ∷ os) ts (l ∷ ls) h short zero k = (row_gathered s o ts l h.0 h.1 k).0
gathered (s ∷ ss) (o ∷ os) ts (l ∷ ls) h short (suc j) k =
    let us = h.0 in let is = (row_gathered s o ts l us h.1 k).1 in
    gathered ss os us ls h.2 (λ i. subst (λ r. length r ≤ length ss)
    (sym (row_gathered s o ts l us h.1 i).1) (length_tail (nth ts i) (length ss) (short i))) j k
    ∙ ap (λ r. r ++ nth (nth ls j) k) (ap (λ r. through r j) is ∙ through_tail (nth ts k) j)
gathered ss os ts ls h short j k = absurd h

nth_map : (os : List (VecDeque Wire Global)) (k : ℕ) → nth (map Q os) k ≡ wires_at Q os k
nth_map [] k = refl
nth_map (o ∷ os) zero = refl
nth_map (o ∷ os) (suc k) = nth_map os k

list_nth : (rows : List (Vec (VecDeque Wire Global) Global)) (j k : ℕ)
    → nth (nth (map M rows) j) k ≡ list_of rows j k
list_nth [] j k = refl
list_nth (r ∷ rs) zero k = nth_map r.items k
list_nth (r ∷ rs) (suc j) k = list_nth rs j k

takes_short : (n : ℕ) (ws bs : List Worker) → AllWork ws bs → Fresh n (map L (takes_of ws))
    → (k : ℕ) → length (nth (map L (takes_of bs)) k) ≤ n
takes_short n [] [] h f k = omega arith
takes_short n (w ∷ ws) (b ∷ bs) h f zero =
    let e = links_len b.takes.items w.takes.items h.0.same_takes in let q = f.0 in omega arith
takes_short n (w ∷ ws) (b ∷ bs) h f (suc k) = takes_short n ws bs h.1 f.2 k
takes_short n ws bs h f k = absurd h

all_length : (ws bs : List Worker) → AllWork ws bs → length bs ≡ length ws
all_length [] [] h = refl
all_length (w ∷ ws) (b ∷ bs) h = ap suc (all_length ws bs h.1)
all_length ws bs h = absurd h

works_kept : (work : Work) (ws bs : List Worker) → AllWork ws bs → AreNodesOf work (nodes_of ws)
    → AreNodesOf work (nodes_of bs)
works_kept work [] [] h an = tt
works_kept work (w ∷ ws) (b ∷ bs) h an = (h.0.work ∙ an.0, works_kept work ws bs h.1 an.1)
works_kept work ws bs h an = absurd h

-- workers with new links
pub record Prepared (ws : List Worker) : Type 0 where
  pub sends : Fresh (length ws) (map L (sends_of ws))
  pub takes : Fresh (length ws) (map L (takes_of ws))
  pub outboxes : RowsOf (length ws) (outboxes_of ws)
  pub cross : Crosses (map K (sends_of ws)) (map K (takes_of ws))

pub prepared : (n : ℕ) (ns : List NodeState) (rows : List (Vec (VecDeque Wire Global) Global))
    (ss ts : List (Vec End Global)) (ws : List Worker)
    → n ≡ length ns → RowsOf (length ns) rows → IsMesh n ss ts → nodes_of ws ≡ ns
    → sends_of ws ≡ ss → takes_of ws ≡ ts → outboxes_of ws ≡ rows → Prepared ws
prepared n ns rows ss ts ws len square mesh is_n is_s is_t is_o =
    let many : length ns ≡ length ws = ap length (sym is_n) ∙ length-map ws _ in
    let nw : n ≡ length ws = len ∙ many in
    record {
      sends = subst₂ (λ a l. Fresh a (map L l)) nw (sym is_s) mesh.2;
      takes = subst₂ (λ a l. Fresh a (map L l)) nw (sym is_t) mesh.3;
      outboxes = subst₂ (λ a l. RowsOf a l) many (sym is_o) square;
      cross = subst₂ (λ a b. Crosses (map K a) (map K b)) (sym is_s) (sym is_t) mesh.4;
    }

pub links_cross : (ws bs : List Worker) (ss ts : List (Vec End Global)) → Prepared ws
    → AllWork ws bs → ss ≡ sends_of bs → ts ≡ takes_of bs → Crosses (map K ss) (map K ts)
links_cross ws bs ss ts p work is_s is_t = subst₂ (λ a b. Crosses a b)
    (sym (ap (map K) is_s ∙ sends_kept ws bs work))
    (sym (ap (map K) is_t ∙ takes_kept ws bs work)) p.cross

pub outboxes_long : (ws bs : List Worker) (ss : List (Vec End Global))
    (os : List (Vec (VecDeque Wire Global) Global)) → Prepared ws → AllWork ws bs
    → ss ≡ sends_of bs → os ≡ outboxes_of bs → AsLong (map M os) (map L ss)
outboxes_long ws bs ss os p work is_s is_o = subst₂ (λ a b. AsLong (map M a) (map L b))
    (sym is_o) (sym is_s) (as_long (length ws) ws bs work p.sends p.outboxes)

row_lens : (es : List End) (os : List (List Wire)) (ts : List (List End)) (ls : List (List Wire))
    (us : List (List End)) → GathersRow es os ts ls us → length ls ≡ length es
row_lens [] [] [] [] [] h = refl
row_lens (e ∷ es) (o ∷ os) (t ∷ ts) (l ∷ ls) (u ∷ us) h = ap suc (row_lens es os ts ls us h.2)
row_lens es os ts ls us h = absurd h

found_rows : (n : ℕ) (ws bs : List Worker) (os : List (List (List Wire))) (ts : List (List End))
    (lists : List (Vec (VecDeque Wire Global) Global)) → AllWork ws bs
    → Fresh n (map L (sends_of ws)) → Gathers (map L (sends_of bs)) os ts (map M lists)
    → RowsOf n lists × (length lists ≡ length ws)
found_rows n [] [] [] ts [] w f g = (tt, refl)
found_rows n (a ∷ ws) (b ∷ bs) (o ∷ os) ts (l ∷ lists) w f g =
    let r = found_rows n ws bs os g.0 lists w.1 f.2 g.2 in (
      (
        sym (length-map l.items Q) ∙ row_lens b.sends.items o ts (M l) g.0 g.1
            ∙ links_len b.sends.items a.sends.items w.0.same_sends ∙ f.0,
        r.0,
      ),
      ap suc r.1,
    )
found_rows n [] [] os ts lists w f g = absurd g
found_rows n (a ∷ ws) (b ∷ bs) os ts lists w f g = absurd g
found_rows n ws bs os ts lists w f g = absurd w

through_past : (es : List End) (j : ℕ) → length es ≤ j → through es j ≡ []
through_past [] j le = refl
through_past (e ∷ es) zero le = absurd (not-suc-le-zero le)
through_past (e ∷ es) (suc j) le = through_past es j (le_of_suc-le-suc le)

undelivered_fits : (n : ℕ) (es : List End) (f : ℕ → List Wire) (h : Option (ℕ × Wire))
    (hs : List (Option (ℕ × Wire))) → length es ≡ n
    → ((j : ℕ) → through es j ≡ f j ++ undelivered_from j h) → UndeliveredFit n hs → UndeliveredFit n (h ∷ hs)
undelivered_fits n es f None hs len takes rest = rest
undelivered_fits n es f (Some p) hs len takes rest = (
  ⊎_elim (λ (lt : p.0 < n). lt)
      (λ (le : n ≤ p.0).
      let none : through es p.0 ≡ [] = through_past es p.0 (omega arith) in
      let one : undelivered_from p.0 (Some p) ≡ p.1 ∷ [] = rw (eq-eqb p.0 p.0 refl) refl in
      let e : [] ≡ f p.0 ++ (p.1 ∷ []) =
      sym none ∙ takes p.0 ∙ ap (λ l. f p.0 ++ l) one in
      let q : 0 ≡ length (f p.0) + 1 = ap length e ∙ length-append (f p.0) (p.1 ∷ []) in
      absurd (omega arith)) (cases_lt p.0 n),
  rest,
)

undelivered_fit : (n : ℕ) (ws bs : List Worker) → AllWork ws bs → Fresh n (map L (takes_of ws))
    → UndeliveredFit n (undelivered_of bs)
undelivered_fit n [] [] w f = tt
undelivered_fit n (a ∷ ws) (b ∷ bs) w f = undelivered_fits n b.takes.items
    (λ j. through a.takes.items j ++ taken_from j w.0.history) b.undelivered (undelivered_of bs)
    (links_len b.takes.items a.takes.items w.0.same_takes ∙ f.0) w.0.takes
    (undelivered_fit n ws bs w.1 f.2)
undelivered_fit n ws bs w f = absurd w

-- what `put_all_undelivered` needs
pub undelivered_ready : (ws bs : List Worker) (ss ts : List (Vec End Global))
    (os : List (Vec (VecDeque Wire Global) Global)) (hs : List (Option (ℕ × Wire)))
    (found : List (Vec (VecDeque Wire Global) Global)) → Prepared ws → AllWork ws bs
    → ss ≡ sends_of bs → hs ≡ undelivered_of bs → Gathers (map L ss) (map M os) (map L ts) (map M found)
    → RowsOf (length found) found × (length hs ≤ length found) × UndeliveredFit (length found) hs
    × (length found ≡ length ws)
undelivered_ready ws bs ss ts os hs found p w is_s is_h g =
    let g' : Gathers (map L (sends_of bs)) (map M os) (map L ts) (map M found) =
    subst (λ a. Gathers (map L a) (map M os) (map L ts) (map M found)) is_s g in
    let r = found_rows (length ws) ws bs (map M os) (map L ts) found w p.sends g' in
    let many : length hs ≡ length ws =
    ap length is_h ∙ length-map bs _ ∙ all_length ws bs w in
    let len = r.1 in (
      subst (λ n. RowsOf n found) (sym r.1) r.0,
      omega arith,
      subst₂ (λ n l. UndeliveredFit n l) (sym r.1) (sym is_h)
          (undelivered_fit (length ws) ws bs w p.takes),
      r.1,
    )

-- what the workers have done together
raced : (work : Work) (ws bs : List Worker) (found new : List (Vec (VecDeque Wire Global) Global))
    → Prepared ws → AllWork ws bs → work.layout.nodes ≡ length ws → AreNodesOf work (nodes_of ws)
    → Gathers (map L (sends_of bs)) (map M (outboxes_of bs)) (map L (takes_of bs)) (map M found)
    → ((a b : ℕ) → list_of new a b ≡ undelivered_from a (undelivered_at (undelivered_of bs) b) ++ list_of found a b)
    → (length new ≡ length found) × RowsOf (length found) new → length found ≡ length ws
    → HaveRaced work (nodes_of ws) (outboxes_of ws) (nodes_of bs) new
raced work ws bs found new p w e an g put rows many =
    let n = length ws in
    let len : length (nodes_of ws) ≡ n = length-map ws _ in
    let d : (i : ℕ) → Did work ws bs i = did work n ws bs w an p.sends p.takes in
    let short : (k : ℕ) → length (nth (map L (takes_of bs)) k) ≤ length (map L (sends_of bs)) =
    λ k. subst (λ q. length (nth (map L (takes_of bs)) k) ≤ q)
    (sym (length-map (sends_of bs) L ∙ length-map bs _ ∙ all_length ws bs w))
    (takes_short n ws bs w p.takes k) in
    record {
      count = length-map bs _ ∙ all_length ws bs w ∙ sym len;
      rows = rows.0 ∙ many ∙ sym len;
      square = subst (λ i. RowsOf i new) (many ∙ sym len) rows.1;
      works = works_kept work ws bs w an;
      history = λ i. (d i).history;
      leads = λ i x. (d i).leads x;
      lists = λ j k x bj bk.
          let sent = through (nth (map L (sends_of bs)) j) k in
          let took = through (nth (map L (takes_of bs)) k) j in
          let ts = taken_from j (d k).history in
          let h = undelivered_from j (undelivered_at (undelivered_of bs) k) in
          ap (λ l. ts ++ l) (put j k) ∙ sym (append_assoc ts h (list_of found j k))
          ∙ ap (λ l. l ++ list_of found j k) (sym ((d k).takes j))
          ∙ ap (λ l. took ++ l) (sym (list_nth found j k))
          ∙ sym (gathered (map L (sends_of bs)) (map M (outboxes_of bs)) (map L (takes_of bs))
          (map M found) g short j k) ∙ ap (λ l. sent ++ l) (list_nth (outboxes_of bs) j k)
          ∙ ap (λ l. l ++ list_of (outboxes_of bs) j k) ((d j).sends k)
          ∙ sym ((d j).outboxes x k (subst (λ i. k < i) (len ∙ sym e) bk));
    }

pub came_to : (work : Work) (ws bs : List Worker) (ns : List NodeState)
    (old : List (Vec (VecDeque Wire Global) Global)) (ns' : List NodeState)
    (ss ts : List (Vec End Global)) (os : List (Vec (VecDeque Wire Global) Global))
    (hs : List (Option (ℕ × Wire))) (found new : List (Vec (VecDeque Wire Global) Global))
    → Prepared ws → AllWork ws bs → work.layout.nodes ≡ length ns → AreNodesOf work ns
    → nodes_of ws ≡ ns → outboxes_of ws ≡ old → ns' ≡ nodes_of bs
    → ss ≡ sends_of bs → ts ≡ takes_of bs → os ≡ outboxes_of bs → hs ≡ undelivered_of bs
    → Gathers (map L ss) (map M os) (map L ts) (map M found)
    → ((a b : ℕ) → list_of new a b ≡ undelivered_from a (undelivered_at hs b) ++ list_of found a b)
    → (length new ≡ length found) × RowsOf (length found) new
    → length found ≡ length ws → HaveRaced work ns old ns' new
came_to work ws bs ns old ns' ss ts os hs found new p w e an is_n is_o is_n' is_s is_t is_os is_h g
    put rows many =
    let g1 : Gathers (map L (sends_of bs)) (map M (outboxes_of bs)) (map L ts) (map M found) =
    subst₂ (λ a b. Gathers (map L a) (map M b) (map L ts) (map M found)) is_s is_os g in
    let g2 : Gathers (map L (sends_of bs)) (map M (outboxes_of bs)) (map L (takes_of bs)) (map M found) =
    subst (λ a. Gathers (map L (sends_of bs)) (map M (outboxes_of bs)) (map L a) (map M found)) is_t g1 in
    let put' : (a b : ℕ) → list_of new a b
    ≡ undelivered_from a (undelivered_at (undelivered_of bs) b) ++ list_of found a b =
    subst (λ l. (a b : ℕ) → list_of new a b ≡ undelivered_from a (undelivered_at l b) ++ list_of found a b)
    is_h put in
    let len : length ns ≡ length ws = ap length (sym is_n) ∙ length-map ws _ in
    let r : HaveRaced work (nodes_of ws) (outboxes_of ws) (nodes_of bs) new =
    raced work ws bs found new p w (e ∙ len) (subst (AreNodesOf work) (sym is_n) an) g2 put' rows
    many in
    subst (λ x. HaveRaced work ns old x new) (sym is_n')
    (subst₂ (λ a b. HaveRaced work a b (nodes_of bs) new) is_n is_o r)
