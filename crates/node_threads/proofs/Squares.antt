-- Rows of lists, and the lists in one.
use Rattle.std.proofs.Common.{◌≡◌, ℕ, zero, suc, ◌+◌, ◌*◌, ◌<◌, List, [], ◌∷◌, ◌++◌, map, length, get_or, refl, ap, ◌∙◌, sym, subst, arith, not-suc-le-zero, le_of_suc-le-suc, Vec, Global}
use Rattle.std.proofs.lemmas.List.{get_or-map, get_or_append_left, get_or-append-add, length-map, length-append}
use Rattle.std.specs.declared.collections.VecDeque.{VecDeque}
use Rattle.dsm_messages.specs.declared.messages.Wire.{Wire}
use Rattle.dsm_protocol.specs.node_model.Node.{Work, opening_node}
use Rattle.dsm_core.specs.node_machine.declared.node_state.NodeState.{NodeState}
use Rattle.dsm_core.specs.run_order.Apart.{HaveDone, taken_from, sent_to}
use Rattle.dsm_protocol.specs.Queue.{Queue, no_queue, wires_of}
use Rattle.message_queues.proofs.Squares.{list_in, place_below}
use Rattle.dsm_core.specs.CoreParts.{HaveWork, core_with}
use Rattle.node_threads.specs.Rows.{wires_at}
use Rattle.node_threads.specs.Crew.{RowsOf, AreNodesOf, flat, list_of}
use Rattle.dsm_core.specs.CoreSteps.{node_or}
use Rattle.node_threads.specs.Races.{HaveRaced}

abbrev Q : VecDeque Wire Global → List Wire
Q o = o.items

wires_get : (os : List (VecDeque Wire Global)) (k : ℕ) → wires_at Q os k ≡ get_or (map Q os) k []
wires_get [] k = refl
wires_get (o ∷ os) zero = refl
wires_get (o ∷ os) (suc k) = wires_get os k

-- the list from j to k in one list of all
flat_at : (n : ℕ) (rows : List (Vec (VecDeque Wire Global) Global)) → RowsOf n rows → (j k : ℕ)
    → j < length rows → k < n → get_or (flat rows) (j * n + k) [] ≡ list_of rows j k
flat_at n [] ro j k lt in_row = absurd (not-suc-le-zero lt)
flat_at n (r ∷ rs) ro zero k lt in_row =
    let e : 0 * n + k ≡ k = omega arith in
    let len : length (map Q r.items) ≡ n = length-map r.items Q ∙ ro.0 in
    ap (λ i. get_or (map Q r.items ++ flat rs) i []) e
    ∙ get_or_append_left (map Q r.items) (flat rs) [] k (subst (λ i. k < i) (sym len) in_row)
    ∙ sym (wires_get r.items k)
flat_at n (r ∷ rs) ro (suc j) k lt in_row =
    let len : length (map Q r.items) ≡ n = length-map r.items Q ∙ ro.0 in
    let e : suc j * n + k ≡ n + (j * n + k) = omega arith in
    ap (λ i. get_or (map Q r.items ++ flat rs) i []) (e ∙ ap (λ m. m + (j * n + k)) (sym len))
    ∙ get_or-append-add (map Q r.items) (flat rs) (j * n + k) []
    ∙ flat_at n rs ro.1 j k (le_of_suc-le-suc lt) in_row

-- the rows are those of the lists
pub list_at : (n : ℕ) (qs : List Queue) (rows : List (Vec (VecDeque Wire Global) Global))
    → length qs ≡ n * n → length rows ≡ n → RowsOf n rows
    → flat rows ≡ map (λ (q : Queue). q.wires) qs → (j k : ℕ) → j < n → k < n
    → wires_of qs n j k ≡ list_of rows j k
list_at n qs rows len many ro is j k bj bk =
    let W : Queue → List Wire = λ q. q.wires in
    let below : j * n + k < length qs =
    subst (λ i. j * n + k < i) (sym len) (place_below n j k bj bk) in
    list_in qs n j k bj bk ∙ sym (get_or-map W qs (j * n + k) no_queue [] below)
    ∙ ap (λ l. get_or l (j * n + k) []) (sym is)
    ∙ flat_at n rows ro j k (subst (λ i. j < i) (sym many) bj) bk

flat_len : (n : ℕ) (rows : List (Vec (VecDeque Wire Global) Global)) → RowsOf n rows
    → length (flat rows) ≡ length rows * n
flat_len n [] ro = omega arith
flat_len n (r ∷ rs) ro =
    let len : length (map Q r.items) ≡ n = length-map r.items Q ∙ ro.0 in
    let rest = flat_len n rs ro.1 in
    let all = length-append (map Q r.items) (flat rs) in
    omega arith

-- so many lists
pub square_len : (n : ℕ) (qs : List Queue) (rows : List (Vec (VecDeque Wire Global) Global))
    → length rows ≡ n → RowsOf n rows → map (λ (q : Queue). q.wires) qs ≡ flat rows
    → length qs ≡ n * n
square_len n qs rows many ro is = let W : Queue → List Wire = λ q. q.wires in
    sym (length-map qs W) ∙ ap length is ∙ flat_len n rows ro ∙ ap (λ m. m * n) many

-- every node runs the work, by place or one after another
pub nodes_of_work : (work : Work) (ns : List NodeState) → HaveWork work ns → AreNodesOf work ns
nodes_of_work work [] h = tt
nodes_of_work work (f ∷ fs) h = (h 0, nodes_of_work work fs (λ i. h (suc i)))

pub have_work : (work : Work) (ns : List NodeState) → AreNodesOf work ns → HaveWork work ns
have_work work [] an i = refl
have_work work (f ∷ fs) an zero = an.0
have_work work (f ∷ fs) an (suc i) = have_work work fs an.1 i

-- what the nodes and rows have done, as nodes and lists
pub have_done : (work : Work) (olds news : List NodeState) (qs rs : List Queue)
    (old new : List (Vec (VecDeque Wire Global) Global)) → work.layout.nodes ≡ length olds
    → length qs ≡ length olds * length olds → length rs ≡ length olds * length olds
    → length old ≡ length olds → RowsOf (length olds) old
    → flat old ≡ map (λ (q : Queue). q.wires) qs → map (λ (q : Queue). q.wires) rs ≡ flat new
    → (h : HaveRaced work olds old news new)
    → HaveDone work (core_with work olds qs) (core_with work news rs) h.history
have_done work olds news qs rs old new e lq lr many ro is_old is_new h =
    let n = length olds in
    record {
      nodes = λ i bi. h.leads i (opening_node work i);
      lists = λ j k bj bk.
          let cj : j < n = subst (λ i. j < i) e bj in
          let ck : k < n = subst (λ i. k < i) e bk in
          let was : wires_of qs work.layout.nodes j k ≡ list_of old j k =
          ap (λ i. wires_of qs i j k) e ∙ list_at n qs old lq many ro is_old j k cj ck in
          let now : wires_of rs work.layout.nodes j k ≡ list_of new j k =
          ap (λ i. wires_of rs i j k) e
          ∙ list_at n rs new lr h.rows h.square (sym is_new) j k cj ck in
          ap (λ l. taken_from j (h.history k) ++ l) now ∙ h.lists j k (opening_node work j) cj ck
          ∙ ap (λ l. l ++ sent_to work k (node_or olds j (opening_node work j)) (h.history j))
          (sym was);
    }
