-- Rows of outboxes and of links after one entry changed.
use Rattle.std.proofs.Common.{◌≡◌, ◌≢◌, ℕ, ◌+◌, ◌<◌, Some, List, [], ◌∷◌, ◌++◌, set, get_or, length, eq-eqb, ne_eqb, refl, ap, ap₂, ◌∙◌, sym, subst, append-nil, ⊎_elim, Global, arith}
use Rattle.std.proofs.lemmas.Bool.{cases_eq}
use Rattle.std.proofs.lemmas.List.{get_or_default}
use Rattle.std.specs.declared.collections.VecDeque.{VecDeque}
use Rattle.dsm_messages.specs.declared.messages.Post.{Post}
use Rattle.dsm_messages.specs.declared.messages.Wire.{Wire}
use Rattle.dsm_protocol.specs.node_model.Core.{wires_to}
use Rattle.fifo_link.specs.End.{End}
use Rattle.dsm_core.specs.run_order.Apart.{Takes, taken_from}
use Rattle.node_threads.specs.Works.{through, waiting, links_of, undelivered_from}
use Rattle.node_threads.proofs.Entries.{wires_same, wires_other, wires_get, map_same}

abbrev G : VecDeque Wire Global → List Wire
G o = o.items

an_outbox : (outboxes : List (VecDeque Wire Global)) (k : ℕ) → k < length outboxes
    → VecDeque Wire Global
an_outbox [] k low = absurd (omega (arith, low))
an_outbox (o ∷ outboxes) k low = o

-- what an event sends stands in the outboxes
pub queued : (old new : List (VecDeque Wire Global)) (stamp : ℕ) (posts : List Post)
    → length new ≡ length old
    → ((to : ℕ) (o : VecDeque Wire Global) → to < length old
    → (get_or new (0 + to) o).items ≡ (get_or old (0 + to) o).items ++ wires_to stamp to posts)
    → (k : ℕ) → k < length old → waiting new k ≡ waiting old k ++ wires_to stamp k posts
queued old new stamp posts len sent k low =
    let o = an_outbox old k low in
    let low_new : k < length new = omega (arith, low, len) in
    let at : 0 + k ≡ k = omega arith in
    let read : (xs : List (VecDeque Wire Global)) → k < length xs
    → waiting xs k ≡ (get_or xs (0 + k) o).items =
    (λ xs below. wires_get (VecDeque Wire Global) Wire G xs k (get_or xs k o) below
    (get_or_default xs k o (get_or xs k o) below)
    ∙ ap (λ i. (get_or xs i o).items) (sym at)) in
    read new low_new ∙ sent k o low ∙ ap (λ l. l ++ wires_to stamp k posts) (sym (read old low))

-- the row of taking ends after a message was taken from it
pub through_pop : (ends : List End) (i j : ℕ) (old new : End) (w : Wire) → i ≡ j → i < length ends
    → old ≡ get_or ends i old → new.wires ≡ old.wires ++ w ∷ []
    → (k : ℕ) → through (set ends i new) k ≡ through ends k ++ undelivered_from k (Some (j, w))
through_pop ends i j old new w at below is wires k = let F : End → List Wire = λ e. e.wires in
    let here : through (set ends i new) k ≡ through ends k ++ undelivered_from k (Some (i, w)) =
    ⊎_elim
    (λ (e : i ≡ k). rw (eq-eqb i k e)
    (subst (λ x. through (set ends i new) x ≡ through ends x ++ w ∷ []) e
    (wires_same End Wire F ends i new below ∙ wires
    ∙ ap (λ l. l ++ w ∷ []) (sym (wires_get End Wire F ends i old below is)))))
    (λ (e : i ≢ k). rw (ne_eqb i k e)
    (wires_other End Wire F ends i k new (λ q. e (sym q)) ∙ sym (append-nil (through ends k))))
    (cases_eq i k) in
    here ∙ ap (λ m. through ends k ++ undelivered_from k (Some (m, w))) at

-- a take has taken that message
pub taken_one : (k j : ℕ) (w : Wire) → undelivered_from k (Some (j, w)) ≡ taken_from k (Takes j w ∷ [])
taken_one k j w = refl

pub through_same : (ends : List End) (i : ℕ) (old new : End) → i < length ends
    → old ≡ get_or ends i old → new.wires ≡ old.wires
    → (j : ℕ) → through (set ends i new) j ≡ through ends j
through_same ends i old new below is wires j = let F : End → List Wire = λ e. e.wires in ⊎_elim
    (λ (e : i ≡ j). subst (λ k. through (set ends i new) k ≡ through ends k) e
    (wires_same End Wire F ends i new below ∙ wires
    ∙ sym (wires_get End Wire F ends i old below is)))
    (λ (e : i ≢ j). wires_other End Wire F ends i j new (λ q. e (sym q)))
    (cases_eq i j)

pub links_same : (ends : List End) (i : ℕ) (old new : End) → i < length ends
    → old ≡ get_or ends i old → new.link ≡ old.link → new.capacity ≡ old.capacity
    → links_of (set ends i new) ≡ links_of ends
links_same ends i old new below is link cap = map_same End _ (λ (e : End). (e.link, e.capacity))
    ends i old new below is (ap₂ (λ x y. (x, y)) link cap)
