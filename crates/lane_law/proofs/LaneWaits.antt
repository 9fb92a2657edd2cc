-- The waits of a node of several processors are wants of those that hold them: so a processor that
-- runs finds room for two more.
use Rattle.std.proofs.Common.{◌≡◌, ◌≢◌, ℕ, zero, suc, ◌+◌, ◌*◌, ◌<◌, ◌≤◌, cond, eqb, Bool, true, false, List, [], ◌∷◌, ◌++◌, length, length-append, Option, Some, None, refl, sym, ap, ◌∙◌, subst, inl, inr, arith}
use Rattle.std.specs.Prelude.{if◌then◌else◌, ◌==◌, ◌&&◌, is_some}
use Rattle.std.specs.Option.{option_map_or}
use Rattle.std.proofs.lemmas.Bool.Decides.{eqb_tells, nat_tests}
use Rattle.lane_law.proofs.Names.{Shape, block_of, line_of, is_in_block, Need, count_of, Want}
use Rattle.rewriting_law.proofs.templates.RegisterLemmas.{equal, apart}
use Rattle.rewriting_law.proofs.one_memory.Sharing.{is_same}
use Rattle.rewriting_law.proofs.one_memory.Pending.{wanted_in}

module _ (layout : Shape) (wait : ℕ → Option Need) (holder : ℕ → ℕ) where
  -- a want of a block that is waited for, and whose wait this processor holds
  abbrev is_mine : ℕ → Want → Bool
  is_mine p w = option_map_or (λ b. (holder b == p) && is_some (wait b)) (block_of layout (line_of
      w.at)) false

  abbrev mine : ℕ → List Want → List Want
  mine p [] = []
  mine p (w ∷ ws) = if is_mine p w then w ∷ mine p ws else mine p ws

  pub mine_fewer : (p : ℕ) (ws : List Want) → length (mine p ws) ≤ length ws
  mine_fewer p [] = omega arith
  mine_fewer p (w ∷ ws) = go (is_mine p w) (mine_fewer p ws)
    where
      go : (u : Bool) → length (mine p ws) ≤ length ws
          → length (cond u (w ∷ mine p ws) (mine p ws)) ≤ length (w ∷ ws)
      go true h = omega (arith, h)
      go false h = omega (arith, h)

  -- by the block of a want
  inside : (c : ℕ) (o : Option ℕ) → option_map_or (λ b. eqb b c) o false ≡ true → o ≡ Some c
  inside c None e = let bad : false ≡ true = e in cc
  inside c (Some d) e = ap (λ x. Some x) (is_same d c e)

  -- a block's wants are mine where I hold its wait, and none else's
  mine_wanted : (p c : ℕ) (u : Bool) → (eqb (holder c) p && is_some (wait c)) ≡ u → (ws : List Want)
      → wanted_in layout c (mine p ws) ≡ cond u (wanted_in layout c ws) None
  mine_wanted p c true holds [] = refl
  mine_wanted p c false holds [] = refl
  mine_wanted p c u holds (w ∷ ws) =
      go (is_in_block layout c w.at) refl (is_mine p w) refl u holds (mine_wanted p c u holds ws)
    where
      go : (x : Bool) → is_in_block layout c w.at ≡ x → (y : Bool) → is_mine p w ≡ y → (u : Bool)
          → (eqb (holder c) p && is_some (wait c)) ≡ u
          → wanted_in layout c (mine p ws) ≡ cond u (wanted_in layout c ws) None
          → wanted_in layout c (cond (is_mine p w) (w ∷ mine p ws) (mine p ws))
          ≡ cond u (cond (is_in_block layout c w.at) (Some w.need) (wanted_in layout c ws)) None
      go true e true f true h before =
          ap (λ t. wanted_in layout c (cond t (w ∷ mine p ws) (mine p ws))) f
          ∙ ap (λ t. cond t (Some w.need) (wanted_in layout c (mine p ws))) e
          ∙ sym (ap (λ t. cond t (Some w.need) (wanted_in layout c ws)) e)
      go true e true f false h before =
          let at = inside c (block_of layout (line_of w.at)) e in
          let bad : true ≡ false =
          sym f ∙ ap (λ o. option_map_or (λ b. eqb (holder b) p && is_some (wait b)) o false) at ∙ h
          in cc
      go true e false f true h before =
          let at = inside c (block_of layout (line_of w.at)) e in
          let bad : false ≡ true =
          sym f ∙ ap (λ o. option_map_or (λ b. eqb (holder b) p && is_some (wait b)) o false) at ∙ h
          in cc
      go true e false f false h before =
          ap (λ t. wanted_in layout c (cond t (w ∷ mine p ws) (mine p ws))) f ∙ before
      go false e true f u h before =
          ap (λ t. wanted_in layout c (cond t (w ∷ mine p ws) (mine p ws))) f
          ∙ ap (λ t. cond t (Some w.need) (wanted_in layout c (mine p ws))) e ∙ before
          ∙ sym (ap (λ t. cond u (cond t (Some w.need) (wanted_in layout c ws)) None) e)
      go false e false f u h before =
          ap (λ t. wanted_in layout c (cond t (w ∷ mine p ws) (mine p ws))) f ∙ before
          ∙ sym (ap (λ t. cond u (cond t (Some w.need) (wanted_in layout c ws)) None) e)

  append_wanted : (c : ℕ) (xs ys : List Want) → wanted_in layout c xs ≡ None
      → wanted_in layout c (xs ++ ys) ≡ wanted_in layout c ys
  append_wanted c [] ys h = refl
  append_wanted c (x ∷ xs) ys h = go (is_in_block layout c x.at) h (append_wanted c xs ys)
    where
      go : (u : Bool) → cond u (Some x.need) (wanted_in layout c xs) ≡ None
          → (wanted_in layout c xs ≡ None → wanted_in layout c (xs ++ ys) ≡ wanted_in layout c ys)
          → cond u (Some x.need) (wanted_in layout c (xs ++ ys)) ≡ wanted_in layout c ys
      go true h g = let bad : Some x.need ≡ None = h in cc
      go false h g = g h

  append_first : (c : ℕ) (need : Need) (xs ys : List Want) → wanted_in layout c xs ≡ Some need
      → wanted_in layout c (xs ++ ys) ≡ Some need
  append_first c need [] ys h = let bad : None ≡ Some need = h in cc
  append_first c need (x ∷ xs) ys h = go (is_in_block layout c x.at) h (append_first c need xs ys)
    where
      go : (u : Bool) → cond u (Some x.need) (wanted_in layout c xs) ≡ Some need
          → (wanted_in layout c xs ≡ Some need → wanted_in layout c (xs ++ ys) ≡ Some need)
          → cond u (Some x.need) (wanted_in layout c (xs ++ ys)) ≡ Some need
      go true h g = h
      go false h g = g h

  module _ (node_of : ℕ → ℕ) (i : ℕ) (wants : ℕ → List Want) where
    abbrev part : ℕ → List Want
    part p = if node_of p == i then mine p (wants p) else []

    -- the wants of the first processors that hold a wait of node i
    abbrev pub gather : ℕ → List Want
    gather zero = []
    gather (suc p) = part p ++ gather p

    part_other : (c p : ℕ) → (eqb (holder c) p && is_some (wait c)) ≡ false
        → wanted_in layout c (part p) ≡ None
    part_other c p h = go (eqb (node_of p) i)
      where
        go : (u : Bool) → wanted_in layout c (cond u (mine p (wants p)) []) ≡ None
        go true = mine_wanted p c false h (wants p)
        go false = refl

    none_gathered : (c : ℕ) → wait c ≡ None → (k : ℕ) → wanted_in layout c (gather k) ≡ None
    none_gathered c e zero = refl
    none_gathered c e (suc p) =
        append_wanted c (part p) (gather p) (part_other c p
        (ap (λ o. eqb (holder c) p && is_some o) e ∙ last (eqb (holder c) p))) ∙ none_gathered c e p
      where
        last : (u : Bool) → (u && false) ≡ false
        last true = refl
        last false = refl

    held_gathered : (c : ℕ) (need : Need) → wait c ≡ Some need
        → wanted_in layout c (wants (holder c)) ≡ Some need → node_of (holder c) ≡ i → (k : ℕ)
        → holder c < k → wanted_in layout c (gather k) ≡ Some need
    held_gathered c need e wanted at zero low = absurd (omega (arith, low))
    held_gathered c need e wanted at (suc p) low = elim (eqb_tells (holder c) p) [
      | inl f ↦ append_first c need (part p) (gather p)
          (subst (λ z. wanted_in layout c (part z) ≡ Some need) f.1
          (ap (λ t. wanted_in layout c (cond t (mine (holder c) (wants (holder c))) []))
          (equal (node_of (holder c)) i at) ∙ mine_wanted (holder c) c true
          (ap (λ t. t && is_some (wait c)) (equal (holder c) (holder c) refl) ∙ ap is_some e)
          (wants (holder c)) ∙ wanted))
      | inr f ↦ append_wanted c (part p) (gather p) (part_other c p
          (ap (λ t. t && is_some (wait c)) (apart (holder c) p f.1)))
          ∙ held_gathered c need e wanted at p (below (holder c) p low f.1)
    ]
      where
        below : (x y : ℕ) → x < suc y → x ≢ y → x < y
        below x y a b = grind (arith, nat_tests)

    -- they are the node's waits
    pub gathered : (k : ℕ) → ((c : ℕ) (need : Need) → wait c ≡ Some need
        → (holder c < k) × (node_of (holder c) ≡ i)
        × (wanted_in layout c (wants (holder c)) ≡ Some need))
        → (c : ℕ) → wait c ≡ wanted_in layout c (gather k)
    gathered k held c = go (wait c) refl
      where
        go : (o : Option Need) → wait c ≡ o → o ≡ wanted_in layout c (gather k)
        go None e = sym (none_gathered c e k)
        go (Some need) e =
            let h = held c need e in sym (held_gathered c need e h.2 h.1 k h.0)

    -- and few: two for each processor of the node but the one that runs
    module _ (few : (p : ℕ) → length (wants p) ≤ 2) (r : ℕ) (runs : wants r ≡ [])
        (at : node_of r ≡ i) where
      part_few : (p : ℕ) → length (part p) ≤ cond (eqb (node_of p) i) 2 0
      part_few p = go (eqb (node_of p) i)
        where
          go : (u : Bool) → length (cond u (mine p (wants p)) []) ≤ cond u 2 0
          go true = let h = mine_fewer p (wants p) in let f = few p in omega (arith, h, f)
          go false = omega arith

      part_none : length (part r) ≡ 0
      part_none = ap (λ t. length (cond t (mine r (wants r)) [])) (equal (node_of r) i at)
          ∙ ap (λ ws. length (mine r ws)) runs

      twice : (p : ℕ) → (u : Bool) → eqb (node_of p) i ≡ u → (n : ℕ)
          → n ≤ 2 * count_of (λ j. node_of j == i) p + cond u 2 0
          → n ≤ 2 * count_of (λ j. node_of j == i) (suc p)
      twice p true e n h =
          let c : count_of (λ j. node_of j == i) (suc p) ≡ count_of (λ j. node_of j == i) p + 1 =
          ap (λ t. cond t (count_of (λ j. node_of j == i) p + 1) (count_of (λ j. node_of j == i) p))
          e in omega (arith, c, h)
      twice p false e n h =
          let c : count_of (λ j. node_of j == i) (suc p) ≡ count_of (λ j. node_of j == i) p =
          ap (λ t. cond t (count_of (λ j. node_of j == i) p + 1) (count_of (λ j. node_of j == i) p))
          e in omega (arith, c, h)

      gather_few : (k : ℕ) → length (gather k) ≤ 2 * count_of (λ j. node_of j == i) k
      gather_few zero = omega arith
      gather_few (suc p) =
          let h = gather_few p in
          let f = part_few p in
          let l : length (part p ++ gather p) ≡ length (part p) + length (gather p) =
          length-append (part p) (gather p) in
          twice p (eqb (node_of p) i) refl (length (part p ++ gather p)) (omega (arith, h, f, l))

      pub gather_room : (k : ℕ) → r < k
          → length (gather k) + 2 ≤ 2 * count_of (λ j. node_of j == i) k
      gather_room zero low = absurd (omega (arith, low))
      gather_room (suc p) low = elim (eqb_tells r p) [
        | inl e ↦ (
            let h = gather_few p in
            let none : length (part p) ≡ 0 = ap (λ z. length (part z)) (sym e.1) ∙ part_none in
            let l : length (part p ++ gather p) ≡ length (part p) + length (gather p) =
            length-append (part p) (gather p) in
            let here : eqb (node_of p) i ≡ true =
            ap (λ z. eqb (node_of z) i) (sym e.1) ∙ equal (node_of r) i at in
            twice p true here (length (part p ++ gather p) + 2) (omega (arith, h, none, l)))
        | inr e ↦ (
            let h = gather_room p (below r p low e.1) in
            let f = part_few p in
            let l : length (part p ++ gather p) ≡ length (part p) + length (gather p) =
            length-append (part p) (gather p) in
            twice p (eqb (node_of p) i) refl (length (part p ++ gather p) + 2)
            (omega (arith, h, f, l)))
      ]
        where
          below : (x y : ℕ) → x < suc y → x ≢ y → x < y
          below x y a b = grind (arith, nat_tests)
