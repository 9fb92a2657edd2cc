-- The events that are allowed, as they are listed.
use Rattle.std.proofs.Common.{◌≡◌, ℕ, zero, suc, ◌+◌, Bool, true, false, cond, ◌&&◌, List, [], ◌∷◌, ◌++◌, map, refl, sym, ap, ◌∙◌, arith, append_assoc}
use Rattle.std.specs.Prelude.{filter}
use Rattle.std.specs.List.{flat_map, range_with_len}
use Rattle.std.proofs.lemmas.List.FromFn.{filter_of_map_range_with_len_more}
use Rattle.node_model.specs.Node.{Work, standing_of}
use Rattle.node_model.specs.Core.{Event, Take, may_take}
use Rattle.shared_sim.proofs.Choices.{filtered_more}
use Rattle.lossy_sim.specs.Links.{LossyLink}
use Rattle.lossy_sim.specs.Stored.{link_at}
use Rattle.lossy_sim.specs.WithLoss.{State, is_allowed, has_next}

-- a node that may take nothing takes nothing
pub takes_none : (work : Work) (s : State) (i a k : ℕ)
    → may_take (standing_of work (s.nodes i)) ≡ false
    → filter (is_allowed work s) (map (λ j. Take i j) (range_with_len a k)) ≡ []
takes_none work s i a zero never = refl
takes_none work s i a (suc k) never =
    let rest = takes_none work s i (a + 1) k never in
    λ t. cond (never t && has_next (s.links a i).receiver) (Take i a ∷ rest t) (rest t)

-- a node that may take messages takes one that has come
pub take_told : (work : Work) (s : State) (links : List LossyLink) (n i j : ℕ) (l : LossyLink)
    (b : Bool) → s.links ≡ link_at links n → may_take (standing_of work (s.nodes i)) ≡ true
    → l ≡ link_at links n j i → b ≡ has_next l.receiver → is_allowed work s (Take i j) ≡ b
take_told work s links n i j l b stored may is come =
    (λ t. may t && has_next (s.links j i).receiver)
    ∙ ap (λ (f : ℕ → ℕ → LossyLink). has_next (f j i).receiver) stored
    ∙ ap (λ (x : LossyLink). has_next x.receiver) (sym is) ∙ sym come

-- one event more was told
pub one_more : (p : Event → Bool) (g : ℕ → Event) (j : ℕ) (b : Bool) (before now : List Event)
    → now ≡ before ++ filter p (map g (range_with_len 0 j)) → p (g j) ≡ b
    → now ++ cond b (g j ∷ []) [] ≡ before ++ filter p (map g (range_with_len 0 (j + 1)))
one_more p g j b before now listed is =
    let some = filter p (map g (range_with_len 0 j)) in
    ap (λ xs. xs ++ cond b (g j ∷ []) []) listed ∙ append_assoc before some (cond b (g j ∷ []) [])
    ∙ ap (λ xs. before ++ xs) (ap (λ t. some ++ cond t (g j ∷ []) []) (sym is)
    ∙ sym (filter_of_map_range_with_len_more p g 0 j j (omega arith)))

-- the events of one node more
pub node_more : (p : Event → Bool) (f : ℕ → List Event) (i : ℕ) (before now : List Event)
    → before ≡ filter p (flat_map f (range_with_len 0 i)) → now ≡ before ++ filter p (f i)
    → now ≡ filter p (flat_map f (range_with_len 0 (i + 1)))
node_more p f i before now all more =
    let next : suc i ≡ i + 1 = omega arith in
    let here : i ≡ 0 + i = omega arith in
    more ∙ ap (λ xs. xs ++ filter p (f i)) all
    ∙ ap (λ z. filter p (flat_map f (range_with_len 0 i)) ++ filter p (f z)) here
    ∙ sym (filtered_more p f 0 i) ∙ ap (λ z. filter p (flat_map f (range_with_len 0 z))) next
