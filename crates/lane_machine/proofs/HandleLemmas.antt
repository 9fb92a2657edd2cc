-- A message handled on behalf of the lane that waits for its block.
use Rattle.std.proofs.Common.{◌≡◌, ◌≢◌, ℕ, zero, suc, ◌<◌, ◌⊎◌, true, false, cond, List, [], ◌∷◌, length, set, get_or, Option, Some, None, refl, sym, ap, ◌∙◌, subst, inl, inr, arith}
use Rattle.std.specs.Prelude.{is_some}
use Rattle.std.proofs.Math.Path.{fun_ext}
use Rattle.std.proofs.lemmas.List.{set-get_or, get_or-set_same, get_or-set_other}
use Rattle.std.proofs.lemmas.Bool.Decides.{eqb_tells}
use Rattle.home_directory.specs.declared.wait.Wait.{Wait}
use Rattle.node_machine.specs.miss_handlers.Waits.{NodeWaits, wait_of}
use Rattle.lane_machine.specs.declared.lane_protocol.LaneProtocol.{LaneProtocol}
use Rattle.lane_machine.specs.Waits.{first_in, place_in, AtMostOne, waits_for, wait_among, place_among, held_in, AreApart, waits_in}
use Rattle.lane_machine.specs.Places.{wait_at}
use Rattle.lane_machine.proofs.WaitPlaces.{first_set, one_set, holder_alone, place_put}
use Rattle.lane_machine.proofs.PlaceLemmas.{waits_set, waits_get, waits_len}
use Rattle.lane_machine.proofs.RowFrames.{patched, some_same}

-- the wait of a lane, by the list for its block
pub wait_at_is : (ps : List LaneProtocol) (k b : ℕ) → wait_at ps k b ≡ get_or (waits_for (waits_in ps) b) k None
wait_at_is [] k b = refl
wait_at_is (p ∷ ps) zero b = refl
wait_at_is (p ∷ ps) (suc k) b = wait_at_is ps k b

pub some_or : (o : Option ℕ) (x : ℕ) → (o ≡ Some x) ⊎ (o ≢ Some x)
some_or None x = inr (λ e. cc)
some_or (Some y) x = elim (eqb_tells y x) [
  | inl q ↦ inl (ap (λ z. Some z) q.1)
  | inr q ↦ inr (λ e. q.1 (some_same y x e))
]

pub one_of_two : (o p : Option ℕ) (x : ℕ) → ((o ≡ Some x → ⊥) → (p ≡ Some x → ⊥) → ⊥) → (o ≡ Some x) ⊎ (p ≡ Some x)
one_of_two o p x h = elim (some_or o x) [
  | inl e ↦ inl e
  | inr f ↦ (elim (some_or p x) [ inl e ↦ inr e | inr g ↦ absurd (h f g) ])
]

-- the holder's waits have changed for the block that the message names
module _ (ws : List NodeWaits) (h : ℕ) (d w : NodeWaits) (named : Option ℕ) (low : h < length ws) (apart : AreApart ws)
    (held : (b : ℕ) → named ≡ Some b → h ≡ held_in ws b)
    (others : (x : ℕ) → named ≢ Some x → wait_of w x ≡ wait_of (get_or ws h d) x) where
  abbrev new : ℕ → List (Option Wait)
  new x = waits_for (set ws h w) x

  pub new_same : (x : ℕ) → named ≢ Some x → new x ≡ waits_for ws x
  new_same x other = waits_set ws h w x
      ∙ ap (set (waits_for ws x) h) (others x other ∙ sym (waits_get ws h x d low))
      ∙ set-get_or (waits_for ws x) h None

  within : (x : ℕ) → h < length (waits_for ws x)
  within x = let e = waits_len ws x in omega (arith, e, low)

  alone : (b : ℕ) → named ≡ Some b → first_in (set (waits_for ws b) h None) ≡ None
  alone b is = subst (λ k. first_in (set (waits_for ws b) k None) ≡ None) (sym (held b is)) (holder_alone (waits_for ws b) (apart b))

  pub new_named : (b : ℕ) → named ≡ Some b → wait_among (set ws h w) b ≡ wait_of w b
  new_named b is = ap first_in (waits_set ws h w b) ∙ first_set (wait_of w b) (waits_for ws b) h (within b) (alone b is)

  -- the block is named, or isn't
  cases : (x : ℕ) → (named ≡ Some x) ⊎ (named ≢ Some x)
  cases x = go named
    where
      one : (y : ℕ) → (Some y ≡ Some x) ⊎ (Some y ≢ Some x)
      one y = elim (eqb_tells y x) [
        | inl q ↦ inl (ap (λ z. Some z) q.1)
        | inr q ↦ inr (λ e. q.1 (some_same y x e))
      ]

      go : (o : Option ℕ) → (o ≡ Some x) ⊎ (o ≢ Some x)
      go None = inr (λ e. cc)
      go (Some y) = one y

  pub new_apart : AreApart (set ws h w)
  new_apart x = elim (cases x) [
    | inl is ↦ subst AtMostOne (sym (waits_set ws h w x)) (one_set (wait_of w x) (waits_for ws x) h (within x) (alone x is))
    | inr other ↦ subst AtMostOne (sym (new_same x other)) (apart x)
  ]

  pub new_patched : patched named (wait_among ws) (wait_of w) ≡ wait_among (set ws h w)
  new_patched = go named refl
    where
      go : (o : Option ℕ) → named ≡ o → patched o (wait_among ws) (wait_of w) ≡ wait_among (set ws h w)
      go None is = fun_ext (λ x. sym (ap first_in (new_same x (λ e. let f : None ≡ Some x = sym is ∙ e in cc))))
      go (Some b) is = fun_ext (λ x. elim (eqb_tells x b) [
        | inl q ↦ rw q.0 (sym (new_named b is) ∙ ap (wait_among (set ws h w)) (sym q.1))
        | inr q ↦ rw q.0 (sym (ap first_in (new_same x (λ e. q.1 (some_same x b (sym e ∙ is))))))
      ])

  pub new_holders : (x : ℕ) → is_some (wait_among (set ws h w) x) ≡ true → place_among (set ws h w) x ≡ held_in ws x
  new_holders x there = elim (cases x) [
    | inl is ↦ ap place_in (waits_set ws h w x)
        ∙ at_once (wait_of w x) (sym (ap is_some (new_named x is)) ∙ there) (alone x is) ∙ held x is
    | inr other ↦ ap place_in (new_same x other)
        ∙ kept (waits_for ws x) (sym (ap (λ os. is_some (first_in os)) (new_same x other)) ∙ there)
  ]
    where
      at_once : (o : Option Wait) → is_some o ≡ true → first_in (set (waits_for ws x) h None) ≡ None
          → place_in (set (waits_for ws x) h o) ≡ h
      at_once None e a = absurd (cc)
      at_once (Some v) e a = place_put v (waits_for ws x) h (within x) a

      kept : (os : List (Option Wait)) → is_some (first_in os) ≡ true → place_in os ≡ cond (is_some (first_in os)) (place_in os) 0
      kept os e = ap (λ t. cond t (place_in os) 0) (sym e)

  pub new_fewer : ((x : ℕ) → wait_of (get_or ws h d) x ≡ None → wait_of w x ≡ None) → (k x : ℕ)
      → is_some (get_or (new x) k None) ≡ true → is_some (get_or (waits_for ws x) k None) ≡ true
  new_fewer fewer k x there = elim (eqb_tells k h) [
    | inl q ↦ (let a : get_or (new x) k None ≡ wait_of w x =
        ap (λ os. get_or os k None) (waits_set ws h w x) ∙ ap (λ z. get_or (set (waits_for ws x) h (wait_of w x)) z None) q.1
        ∙ get_or-set_same (waits_for ws x) h (wait_of w x) None (within x) in
        let was : get_or (waits_for ws x) k None ≡ wait_of (get_or ws h d) x = ap (λ z. get_or (waits_for ws x) z None) q.1 ∙ waits_get ws h x d low in
        ap is_some was ∙ some_before (wait_of (get_or ws h d) x) (wait_of w x) (fewer x) (sym (ap is_some a) ∙ there))
    | inr q ↦ (let a : get_or (new x) k None ≡ get_or (waits_for ws x) k None =
        ap (λ os. get_or os k None) (waits_set ws h w x) ∙ get_or-set_other (waits_for ws x) h k (wait_of w x) None q.1 in
        sym (ap is_some a) ∙ there)
  ]
    where
      some_before : (o o' : Option Wait) → (o ≡ None → o' ≡ None) → is_some o' ≡ true → is_some o ≡ true
      some_before (Some v) o' f e = refl
      some_before None o' f e = absurd (let g : false ≡ true = sym (ap is_some (f refl)) ∙ e in cc)

  pub new_few : wait_of w ≡ wait_of (get_or ws h d) → (x : ℕ) → is_some (wait_among (set ws h w) x) ≡ is_some (wait_among ws x)
  new_few e x = ap (λ os. is_some (first_in os)) (waits_set ws h w x
      ∙ ap (set (waits_for ws x) h) (ap (λ (g : ℕ → Option Wait). g x) e ∙ sym (waits_get ws h x d low))
      ∙ set-get_or (waits_for ws x) h None)
