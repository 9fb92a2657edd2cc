-- The wants of a word, of each block the first alone.
use Rattle.std.proofs.Common.{◌≡◌, ℕ, ◌⊎◌, ◌≤◌, cond, Bool, true, false, not, List, [], ◌∷◌, length, filter, Some, refl, sym, ap, ◌∙◌, inl, inr, arith}
use Rattle.std.specs.Option.{option_map_or}
use Rattle.rewriting_law.proofs.Names.{Shape, block_of, has_line, line_of, Processor, PlanEntry, Work, NodeMemory, Want, is_same_want, each_block_once}
use Rattle.rewriting_law.proofs.templates.States.{grants}
use Rattle.rewriting_law.proofs.templates.Does.{AreWanted, SomeGranted}
use Rattle.rewriting_law.proofs.words.CodeSide.{IsAmong, IsAlone, AllWanted}
use Rattle.rewriting_law.proofs.one_memory.Messages.{AreLaidOut}

module _ (layout : Shape) (work : Work) (plan : List PlanEntry)
    (laid : AreLaidOut layout work) where
  -- the wants of other blocks than this one's
  abbrev others : Want → List Want → List Want
  others w ws = filter (λ v. not (is_same_want layout w v)) ws

  alone_among : (u w : Want) (ws : List Want) → IsAlone layout u ws → IsAlone layout u (others w ws)
  alone_among u w [] h = h
  alone_among u w (v ∷ vs) h = go (is_same_want layout w v) (alone_among u w vs h.1)
    where
      go : (t : Bool) → IsAlone layout u (others w vs)
          → IsAlone layout u (cond (not t) (v ∷ others w vs) (others w vs))
      go true later = later
      go false later = (h.0, later)

  -- the want is of no other's block
  is_alone : (w : Want) (b : ℕ) → block_of layout (line_of w.at) ≡ Some b → (ws : List Want)
      → IsAlone layout w (others w ws)
  is_alone w b lies [] = tt
  is_alone w b lies (v ∷ vs) = go (is_same_want layout w v) refl (is_alone w b lies vs)
    where
      go : (t : Bool) → is_same_want layout w v ≡ t → IsAlone layout w (others w vs)
          → IsAlone layout w (cond (not t) (v ∷ others w vs) (others w vs))
      go true e later = later
      go false e later = (
        (λ same.
            let inside : is_same_want layout w v ≡ true =
            ap (λ o. option_map_or (λ c. has_line layout c (line_of v.at)) o false) lies
            ∙ laid.within (line_of v.at) b (sym same ∙ lies) in
            let bad : false ≡ true = sym e ∙ inside in cc),
        later,
      )

  others_wanted : (q : Processor) (n : NodeMemory) (w : Want) (ws : List Want)
      → AllWanted layout work plan q n ws → AllWanted layout work plan q n (others w ws)
  others_wanted q n w [] h = h
  others_wanted q n w (v ∷ vs) h = go (is_same_want layout w v) (others_wanted q n w vs h.2)
    where
      go : (t : Bool) → AllWanted layout work plan q n (others w vs)
          → AllWanted layout work plan q n (cond (not t) (v ∷ others w vs) (others w vs))
      go true later = later
      go false later = (h.0, alone_among v w vs h.1, later)

  -- what a word may wait for is wanted, each block once
  pub all_wanted : (q : Processor) (n : NodeMemory) (ws : List Want) → AreWanted work.program q n ws
      → AllWanted layout work plan q n (each_block_once layout ws)
  all_wanted q n [] h = tt
  all_wanted q n (w ∷ ws) h =
      let found = laid.found (line_of w.at) h.0.shared in
      let later = each_block_once layout ws in (
        h.0,
        is_alone w found.0 found.1 later,
        others_wanted q n w later (all_wanted q n ws h.1),
      )

  fewer : (w : Want) (ws : List Want) → length (others w ws) ≤ length ws
  fewer w [] = omega arith
  fewer w (v ∷ vs) = go (is_same_want layout w v) (fewer w vs)
    where
      go : (t : Bool) → length (others w vs) ≤ length vs
          → length (cond (not t) (v ∷ others w vs) (others w vs)) ≤ length (v ∷ vs)
      go true later = omega (arith, later)
      go false later = omega (arith, later)

  pub no_more : (ws : List Want) → length (each_block_once layout ws) ≤ length ws
  no_more [] = omega arith
  no_more (w ∷ ws) =
      let some = fewer w (each_block_once layout ws) in
      let most = no_more ws in omega (arith, some, most)

  among_others : (x w : Want) (ws : List Want) → IsAmong x (others w ws) → IsAmong x ws
  among_others x w [] h = h
  among_others x w (v ∷ vs) h = go (is_same_want layout w v) (λ g. among_others x w vs g) h
    where
      go : (t : Bool) → (IsAmong x (others w vs) → IsAmong x vs)
          → IsAmong x (cond (not t) (v ∷ others w vs) (others w vs)) → (x ≡ v) ⊎ IsAmong x vs
      go true later g = inr (later g)
      go false later g = elim g [ inl e ↦ inl e | inr e ↦ inr (later e) ]

  pub among_all : (x : Want) (ws : List Want) → IsAmong x (each_block_once layout ws) → IsAmong x ws
  among_all x [] h = h
  among_all x (w ∷ ws) h = elim h [
    | inl e ↦ inl e
    | inr e ↦ inr (among_all x ws (among_others x w (each_block_once layout ws) e))
  ]

-- one of these is granted
pub some_granted : (m : NodeMemory) (x : Want) (ws : List Want) → IsAmong x ws
    → grants x.need (m.state (line_of x.at)) ≡ true → SomeGranted m ws
some_granted m x [] h granted = h
some_granted m x (w ∷ ws) h granted = elim h [
  | inl e ↦ inl (ap (λ (z : Want). grants z.need (m.state (line_of z.at))) (sym e) ∙ granted)
  | inr e ↦ inr (some_granted m x ws e granted)
]
