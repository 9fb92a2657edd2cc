-- A core run and what its events did.
use Rattle.std.proofs.Common.{◌≡◌, ◌≢◌, ℕ, ◌+◌, ◌<◌, Bool, true, false, cond, eqb, ltb, ◌&&◌, List, [], ◌∷◌, ◌++◌, map, Option, Some, None, option_to_list, refl, sym, ap, ◌∙◌, subst, append-nil, arith, eq-eqb, ne_eqb, eqb-true, ltb-false, ltb-true, ⊎_elim}
use Rattle.std.proofs.lemmas.Bool.{cases_eq}
use Rattle.node_model.specs.dsm_messages.declared.messages.Wire.{Wire}
use Rattle.node_model.specs.Node.{Work, Node, standing_of, word_outcome}
use Rattle.node_model.specs.Turns.{Turn, later, word_turn, take_turn}
use Rattle.node_model.specs.Core.{Core, Event, Exec, Take, May, may_execute, may_take, wires_to, with_turn, with_list, take_first, event_step, IsCoreRun, after, printed_at, printed_by}
use Rattle.run_order.specs.OwnRun.{run_of}
use Rattle.run_order.specs.Merge.{Printed, byte_in}
use Rattle.run_order.proofs.History.{LocalEvent, event_by, stamped, byte_by, prints, if_from, sends, IsLater, Steps, Run}
use Rattle.run_order.proofs.Kept.{Kept, word_kept, take_kept}

-- 1. What an event does to its node

pub record Executes (work : Work) (s : Node) (d : LocalEvent) (t : Node) : Type 0 where
  pub below : d.node < work.layout.nodes
  pub may : may_execute (standing_of work s) ≡ true
  pub node : t ≡ (word_turn work s).node
  pub stamp : d.stamp ≡ t.stamp
  pub posts : d.posts ≡ (word_turn work s).sends
  pub byte : d.byte ≡ (word_outcome work s).printed

pub record Receives (work : Work) (s : Node) (d : LocalEvent) (p : ℕ × Wire) (t : Node) : Type 0 where
  pub below : d.node < work.layout.nodes
  pub from : p.0 < work.layout.nodes
  pub may : may_take (standing_of work s) ≡ true
  pub node : t ≡ (take_turn work s p.0 p.1).node
  pub stamp : d.stamp ≡ t.stamp
  pub posts : d.posts ≡ (take_turn work s p.0 p.1).sends
  pub byte : d.byte ≡ None

abbrev pub MovesBy : Work → Node → LocalEvent → Node → Option (ℕ × Wire) → Type 0
MovesBy work s d t None = Executes work s d t
MovesBy work s d t (Some p) = Receives work s d p t

abbrev pub Moves : Work → Node → LocalEvent → Node → Type 0
Moves work s d t = MovesBy work s d t d.took

pub word_stamp : (work : Work) (n : Node) → (word_turn work n).node.stamp ≡ n.stamp + 1
word_stamp work n = ap (λ (k : Kept). k.stamp) (word_kept work n)

pub take_stamp : (work : Work) (n : Node) (j : ℕ) (w : Wire)
    → (take_turn work n j w).node.stamp ≡ later n.stamp w.stamp + 1
take_stamp work n j w = ap (λ (k : Kept). k.stamp) (take_kept work n j w)

pub later_both : (s t : ℕ) → (s < later s t + 1) × (t < later s t + 1)
later_both s t =
    (elim (ltb s t) as (λ z. ltb s t ≡ z → (s < cond z t s + 1) × (t < cond z t s + 1)) [
      | true ↦ (λ e. (ltb_less s t e, omega arith))
      | false ↦ (λ e. (omega arith, let h = ltb-false s t e in omega arith))
    ]) refl
  where
    ltb_less : (s t : ℕ) → ltb s t ≡ true → s < t + 1
    ltb_less s t e = let h = ltb-true s t e in omega arith

grows_by : (work : Work) (s : Node) (d : LocalEvent) (t : Node) (o : Option (ℕ × Wire))
    → MovesBy work s d t o → (s.stamp < d.stamp) × (t.stamp ≡ d.stamp) × IsLater d.stamp o
grows_by work s d t None m =
    let e : d.stamp ≡ s.stamp + 1 =
    m.stamp ∙ ap (λ (n : Node). n.stamp) m.node ∙ word_stamp work s in
    (omega arith, sym m.stamp, tt)
grows_by work s d t (Some p) m =
    let e : d.stamp ≡ later s.stamp p.1.stamp + 1 =
    m.stamp ∙ ap (λ (n : Node). n.stamp) m.node ∙ take_stamp work s p.0 p.1 in
    let h = later_both s.stamp p.1.stamp in
    (rw e h.0, sym m.stamp, rw e h.1)

pub grows : (work : Work) (s : Node) (d : LocalEvent) (t : Node) → Moves work s d t
    → (s.stamp < d.stamp) × (t.stamp ≡ d.stamp) × IsLater d.stamp d.took
grows work s d t m = grows_by work s d t d.took m

-- 2. What an event of a core did

-- the local_event of an event, which leads to the core after it
abbrev pub DeedOf : Work → Core → Event → Core → Type 0
DeedOf work c e u = (d : LocalEvent) × (event_by d.node d.took ≡ e) × Steps (Moves work) c d u

abbrev word_local_event : Work → Core → ℕ → LocalEvent
word_local_event work c i = record {
  node = i;
  stamp = (word_turn work (c.nodes i)).node.stamp;
  took = None;
  posts = (word_turn work (c.nodes i)).sends;
  byte = (word_outcome work (c.nodes i)).printed;
}

abbrev take_local_event : Work → Core → (i j : ℕ) → Wire → LocalEvent
take_local_event work c i j w = record {
  node = i;
  stamp = (take_turn work (c.nodes i) j w).node.stamp;
  took = Some (j, w);
  posts = (take_turn work (c.nodes i) j w).sends;
  byte = None;
}

-- what is sent stands at the end, or nothing is
sent_behind : (b : Bool) (ws more rest : List Wire) → ws ≡ rest
    → cond b (ws ++ more) ws ≡ rest ++ cond b more []
sent_behind true ws more rest e = ap (λ l. l ++ more) e
sent_behind false ws more rest e = e ∙ sym (append-nil rest)

none_taken : (b : Bool) (ws : List Wire) → ws ≡ cond b [] [] ++ ws
none_taken true ws = refl
none_taken false ws = refl

first_taken : (a b : Bool) (w : Wire) (ws rest : List Wire)
    → (a ≡ true → b ≡ true → ws ≡ w ∷ rest)
    → (r : List Wire) × (ws ≡ cond b (cond a (w ∷ []) []) [] ++ r) × (cond (a && b) rest ws ≡ r)
first_taken true true w ws rest f = (rest, f refl refl, refl)
first_taken true false w ws rest f = (ws, refl, refl)
first_taken false true w ws rest f = (ws, refl, refl)
first_taken false false w ws rest f = (ws, refl, refl)

word_did : (work : Work) (c : Core) (i : ℕ) → May work c (Exec i)
    → DeedOf work c (Exec i) (event_step work c (Exec i))
word_did work c i may = let t = word_turn work (c.nodes i) in (
  word_local_event work c i,
  refl,
  (
    record {
      below = may.0;
      may = may.1;
      node = rw (eq-eqb i i refl) refl;
      stamp = rw (eq-eqb i i refl) refl;
      posts = refl;
      byte = refl;
    },
    (λ k other. rw (ne_eqb k i other) refl),
    λ j k. (
      c.list j k,
      none_taken (eqb k i) (c.list j k),
      sent_behind (eqb j i) (c.list j k) (wires_to t.node.stamp k t.sends) (c.list j k) refl,
    ),
  ),
)

take_did : (work : Work) (c : Core) (i j : ℕ) (ws : List Wire) → c.list j i ≡ ws
    → May work c (Take i j) → DeedOf work c (Take i j) (take_first work c i j ws)
take_did work c i j [] is may = absurd (may.3 is)
take_did work c i j (w ∷ rest) is may = let t = take_turn work (c.nodes i) j w in (
  take_local_event work c i j w,
  refl,
  (
    record {
      below = may.0;
      from = may.1;
      may = may.2;
      node = rw (eq-eqb i i refl) refl;
      stamp = rw (eq-eqb i i refl) refl;
      posts = refl;
      byte = refl;
    },
    (λ k other. rw (ne_eqb k i other) refl),
    λ x y. let l = first_taken (eqb x j) (eqb y i) w (c.list x y) rest (λ a b.
        subst (λ z. c.list z y ≡ w ∷ rest) (sym (eqb-true x j a))
        (subst (λ z. c.list j z ≡ w ∷ rest) (sym (eqb-true y i b)) is)) in (
          l.0,
          l.1,
          sent_behind (eqb x i) (cond (eqb x j && eqb y i) rest (c.list x y))
              (wires_to t.node.stamp y t.sends) l.0 l.2,
        ),
  ),
)

did : (work : Work) (c : Core) (e : Event) → May work c e → DeedOf work c e (event_step work c e)
did work c (Exec i) may = word_did work c i may
did work c (Take i j) may = take_did work c i j (c.list j i) refl may

-- what the events of a core run did
pub run_did : (work : Work) (es : List Event) (c : Core) → IsCoreRun work c es
    → (ds : List LocalEvent) × (run_of (map stamped ds) ≡ es)
    × Run (Moves work) c ds (after work c es)
run_did work [] c run = ([], refl, refl)
run_did work (e ∷ es) c run =
    let one = did work c e run.0 in
    let more = run_did work es (event_step work c e) run.1 in
    (one.0 ∷ more.0, cc (one.1, more.1), (event_step work c e, one.2, more.2))

-- 3. History are a core run

-- the event is allowed, leads to the core, and prints the byte of the local_event
pub record IsMade (work : Work) (c : Core) (e : Event) (u : Core) (bytes : List ℕ) : Type 0 where
  pub may : May work c e
  pub leads : event_step work c e ≡ u
  pub prints : printed_at work c e ≡ bytes

same_core : (work : Work) (c u : Core) (d : LocalEvent) (x : Core) (t : Turn)
    → ((k : ℕ) → x.nodes k ≡ c.nodes k)
    → u.nodes d.node ≡ t.node → ((i : ℕ) → i ≢ d.node → u.nodes i ≡ c.nodes i)
    → d.stamp ≡ t.node.stamp → d.posts ≡ t.sends
    → ((j k : ℕ) → (rest : List Wire) × (x.list j k ≡ rest) × (u.list j k ≡ rest ++ sends j k d))
    → with_turn x d.node t ≡ u
same_core work c u d x t nodes mine others stamp posts lists =
    let all : (k : ℕ) → (with_turn x d.node t).nodes k ≡ u.nodes k = λ k. ⊎_elim
    (λ (p : k ≡ d.node). rw (eq-eqb k d.node p) (sym (ap u.nodes p ∙ mine)))
    (λ (p : k ≢ d.node). rw (ne_eqb k d.node p) (nodes k ∙ sym (others k p)))
    (cases_eq k d.node) in
    let each : (j k : ℕ) → (with_turn x d.node t).list j k ≡ u.list j k = λ j k.
    let l = lists j k in
    sent_behind (eqb j d.node) (x.list j k) (wires_to t.node.stamp k t.sends) l.0 l.1
    ∙ ap (λ m. l.0 ++ cond (eqb j d.node) m [])
    (ap (λ s. wires_to s k t.sends) (sym stamp) ∙ ap (λ ps. wires_to d.stamp k ps) (sym posts))
    ∙ sym l.2 in
    λ r. record { nodes = λ k. all k r; list = λ j k. each j k r }

byte_prints : (i stamp : ℕ) (o : Option ℕ) → option_to_list o ≡ map byte_in (byte_by i stamp o)
byte_prints i stamp None = refl
byte_prints i stamp (Some b) = refl

word_made : (work : Work) (c : Core) (d : LocalEvent) (u : Core) → d.took ≡ None
    → Steps (Moves work) c d u → Executes work (c.nodes d.node) d (u.nodes d.node)
    → IsMade work c (Exec d.node) u (map byte_in (byte_by d.node d.stamp d.byte))
word_made work c d u is st m = record {
  may = (m.below, m.may);
  leads = same_core work c u d c (word_turn work (c.nodes d.node)) (λ k. refl) m.node st.1
      (m.stamp ∙ ap (λ (n : Node). n.stamp) m.node) m.posts
      (λ j k. let l = st.2 j k in (
        l.0,
        l.1 ∙ ap (λ o. cond (eqb k d.node) (if_from j o) [] ++ l.0) is
            ∙ sym (none_taken (eqb k d.node) l.0),
        l.2,
      ));
  prints = ap (λ o. option_to_list o) (sym m.byte) ∙ byte_prints d.node d.stamp d.byte;
}

-- what is left of a list once a wire was taken
left_taken : (a b : Bool) (w : Wire) (ws rest mine : List Wire)
    → ws ≡ cond b (cond a (w ∷ []) []) [] ++ rest → (a ≡ true → b ≡ true → rest ≡ mine)
    → cond (a && b) mine ws ≡ rest
left_taken true true w ws rest mine e f = sym (f refl refl)
left_taken true false w ws rest mine e f = e
left_taken false true w ws rest mine e f = e
left_taken false false w ws rest mine e f = e

take_made : (work : Work) (c : Core) (d : LocalEvent) (u : Core) (p : ℕ × Wire) → d.took ≡ Some p
    → Steps (Moves work) c d u → Receives work (c.nodes d.node) d p (u.nodes d.node)
    → IsMade work c (Take d.node p.0) u (map byte_in (byte_by d.node d.stamp d.byte))
take_made work c d u p is st m =
    let i = d.node in let j = p.0 in let w = p.1 in
    let t = take_turn work (c.nodes i) j w in
    let mine = (st.2 j i).0 in
    let from : (x y : ℕ)
    → c.list x y ≡ cond (eqb y i) (cond (eqb x j) (w ∷ []) []) [] ++ (st.2 x y).0 =
    λ x y. (st.2 x y).1 ∙ ap (λ o. cond (eqb y i) (if_from x o) [] ++ (st.2 x y).0) is in
    let first : c.list j i ≡ w ∷ mine =
    from j i ∙ ap (λ b. cond b (cond (eqb j j) (w ∷ []) []) [] ++ mine) (eq-eqb i i refl)
    ∙ ap (λ b. cond b (w ∷ []) [] ++ mine) (eq-eqb j j refl) in
    record {
      may = (
        m.below,
        m.from,
        m.may,
        λ none.
            absurd (let e : [] ≡ w ∷ mine = sym none ∙ first in cc),
      );
      leads = ap (λ ws. take_first work c i j ws) first
          ∙ same_core work c u d (with_list c j i mine) t (λ k. refl) m.node st.1
          (m.stamp ∙ ap (λ (n : Node). n.stamp) m.node) m.posts
          (λ x y. (
            (st.2 x y).0,
            left_taken (eqb x j) (eqb y i) w (c.list x y) (st.2 x y).0 mine (from x y)
                (λ a b. ap (λ z. (st.2 z y).0) (eqb-true x j a)
                ∙ ap (λ z. (st.2 j z).0) (eqb-true y i b)),
            (st.2 x y).2,
          ));
      prints = sym (ap (λ o. map byte_in (byte_by i d.stamp o)) m.byte);
    }

made_by_local_event : (work : Work) (c : Core) (d : LocalEvent) (u : Core) (o : Option (ℕ × Wire)) → d.took ≡ o
    → Steps (Moves work) c d u → MovesBy work (c.nodes d.node) d (u.nodes d.node) o
    → IsMade work c (event_by d.node o) u (map byte_in (byte_by d.node d.stamp d.byte))
made_by_local_event work c d u None is st m = word_made work c d u is st m
made_by_local_event work c d u (Some p) is st m = take_made work c d u p is st m

-- the events of history are a core run to the same core, and print the bytes of the history
pub record AreMade (work : Work) (c : Core) (es : List Event) (t : Core) (bytes : List ℕ)
    : Type 0 where
  pub run : IsCoreRun work c es
  pub leads : after work c es ≡ t
  pub prints : printed_by work c es ≡ bytes

map_append : (xs ys : List Printed) → map byte_in (xs ++ ys) ≡ map byte_in xs ++ map byte_in ys
map_append [] ys = refl
map_append (x ∷ xs) ys = ap (λ l. x.byte ∷ l) (map_append xs ys)

pub run_made : (work : Work) (ds : List LocalEvent) (c t : Core) → Run (Moves work) c ds t
    → AreMade work c (run_of (map stamped ds)) t (map byte_in (prints ds))
run_made work [] c t r = record { run = tt; leads = r; prints = refl }
run_made work (d ∷ ds) c t r =
    let e = event_by d.node d.took in
    let one = made_by_local_event work c d r.0 d.took refl r.1 r.1.0 in
    let more = subst (λ x. AreMade work x (run_of (map stamped ds)) t (map byte_in (prints ds)))
    (sym one.leads) (run_made work ds r.0 t r.2) in
    record {
      run = (one.may, more.run);
      leads = more.leads;
      prints = ap (λ l. l ++ printed_by work (event_step work c e) (run_of (map stamped ds)))
          one.prints
          ∙ ap (λ l. map byte_in (byte_by d.node d.stamp d.byte) ++ l) more.prints
          ∙ sym (map_append (byte_by d.node d.stamp d.byte) (prints ds));
    }
