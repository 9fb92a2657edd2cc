-- A want reads and changes the wait of its block alone.
use Rattle.std.proofs.Common.{◌≡◌, ℕ, ◌<◌, Bool, true, false, cond, eqb, List, [], ◌∷◌, ◌++◌, length, Option, Some, None, refl, sym, ap, ◌∙◌, inl, inr, arith}
use Rattle.std.specs.Prelude.{is_some, option_map}
use Rattle.std.specs.Option.{option_to_list}
use Rattle.std.proofs.lemmas.List.{append-nil}
use Rattle.std.proofs.Math.Path.{fun_ext}
use Rattle.std.proofs.lemmas.Bool.Decides.{eqb_tells, nat_tests}
use Rattle.block_layout.specs.Layout.{Shape}
use Rattle.block_layout.specs.Update.{changed}
use Rattle.buf_pool.specs.Pool.{empty_buffer}
use Rattle.home_directory.specs.dsm_messages.declared.messages.Need.{Need}
use Rattle.home_directory.specs.declared.wait.Wait.{Wait}
use Rattle.home_directory.specs.Table.{Miss, want_row}
use Rattle.node_machine.specs.miss_handlers.Effects.{block_facts}
use Rattle.node_machine.specs.miss_handlers.Waits.{NodeWaits, wait_of}
use Rattle.lane_model.specs.node_model.Turns.{Turn, block_at, with_miss, want_in}
use Rattle.node_machine.specs.ProtocolState.{turn_by}
use Rattle.node_machine.proofs.WaitLemmas.{none_waits, no_waits}
use Rattle.lane_model.specs.Turns.{still}
use Rattle.lane_machine.specs.Waits.{first_in, waits_for, wait_among}

-- 1. A turn whose node has other waits

abbrev pub with_wait : Turn → (ℕ → Option Wait) → Turn
with_wait t wait = turn_by (record t.node { wait = wait }) t.sends t.printed

pub changed_same : (f : ℕ → Option Wait) (b : ℕ) (v : Option Wait) → f b ≡ v → changed f b v ≡ f
changed_same f b v e = fun_ext (λ x. elim (eqb_tells x b) [
  | inl q ↦ rw q.0 (sym e ∙ ap f (sym q.1))
  | inr q ↦ rw q.0 refl
])

pub changed_at : (f : ℕ → Option Wait) (b : ℕ) (v : Option Wait) → changed f b v b ≡ v
changed_at f b v = let t : eqb b b ≡ true = grind (arith, nat_tests) in rw t refl

module _ (l : Shape) (t : Turn) (need : Need) (b : ℕ) (wait : ℕ → Option Wait) (same : wait b ≡ t.node.wait b) where
  miss_carried : (o : Option Miss) → with_miss l b need (with_wait t wait) o
      ≡ with_wait (with_miss l b need t o) (changed wait b ((with_miss l b need t o).node.wait b))
  miss_carried None = ap (with_wait t) (sym (changed_same wait b (t.node.wait b) same))
  miss_carried (Some miss) = ap (with_wait (with_miss l b need t (Some miss)))
      (ap (changed wait b) (sym (changed_at t.node.wait b miss.block.wait)))

  pub want_carried : want_in l (with_wait t wait) need (Some b)
      ≡ with_wait (want_in l t need (Some b)) (changed wait b ((want_in l t need (Some b)).node.wait b))
  want_carried =
      ap (λ (w : Option Wait). with_miss l b need (with_wait t wait)
      (want_row (block_facts l b) (record (block_at l t.node b) { wait = w }) b need (empty_buffer 4096))) same
      ∙ miss_carried (want_row (block_facts l b) (block_at l t.node b) b need (empty_buffer 4096))

-- 2. All waits, where those in use change for one block that nobody waits for

pub none_both : (o : Option Wait) (os : List (Option Wait)) → first_in (o ∷ os) ≡ None
    → (o ≡ None) × (first_in os ≡ None)
none_both None os e = (refl, e)
none_both (Some w) os e = absurd (cc)

first_alone : (o : Option Wait) (os : List (Option Wait)) → first_in os ≡ None → first_in (o ∷ os) ≡ o
first_alone None os e = e
first_alone (Some w) os e = refl

module _ (w w' : NodeWaits) (ws : List NodeWaits) (b : ℕ) (none : wait_among (w ∷ ws) b ≡ None)
    (others : (x : ℕ) → (x ≡ b → ⊥) → wait_of w' x ≡ wait_of w x) where
  rest : first_in (waits_for ws b) ≡ None
  rest = (none_both (wait_of w b) (waits_for ws b) none).1

  pub begun_here : wait_among (w' ∷ ws) b ≡ wait_of w' b
  begun_here = first_alone (wait_of w' b) (waits_for ws b) rest

  pub begun_elsewhere : (x : ℕ) → (x ≡ b → ⊥) → wait_among (w' ∷ ws) x ≡ wait_among (w ∷ ws) x
  begun_elsewhere x apart = ap (λ o. first_in (o ∷ waits_for ws x)) (others x apart)

  pub begun_all : changed (wait_among (w ∷ ws)) b (wait_of w' b) ≡ wait_among (w' ∷ ws)
  begun_all = fun_ext (λ x. elim (eqb_tells x b) [
    | inl q ↦ rw q.0 (sym begun_here ∙ ap (wait_among (w' ∷ ws)) (sym q.1))
    | inr q ↦ rw q.0 (sym (begun_elsewhere x q.1))
  ])

-- 3. Whether a lane waits

pub still_one : (f g : ℕ → Option Wait) (b : ℕ) → f b ≡ g b → still f (b ∷ []) ≡ still g (b ∷ [])
still_one f g b e = ap (λ o. cond (is_some o) (b ∷ []) []) e

pub still_there : (f : ℕ → Option Wait) (b : ℕ) → is_some (f b) ≡ true → b ∷ [] ≡ still f (b ∷ [])
still_there f b e = ap (λ t. cond t (b ∷ []) []) (sym e)

-- the block of a want that is still waited for
pub kept_block : (o : Option ℕ) (f : ℕ → Option Wait) (b : ℕ) → option_to_list o ≡ still f (b ∷ []) → is_some (f b) ≡ true
    → o ≡ Some b
kept_block o f b e there = one_of o (e ∙ sym (still_there f b there))
  where
    one_of : (o : Option ℕ) → option_to_list o ≡ b ∷ [] → o ≡ Some b
    one_of None e = cc
    one_of (Some x) e = cc

-- a need is that of a wait
pub none_needed : (o : Option Wait) → None ≡ option_map (λ (w : Wait). w.need) o → o ≡ None
none_needed None e = refl
none_needed (Some w) e = absurd (cc)

-- two blocks that are still waited for
still_append : (f : ℕ → Option Wait) (xs ys : List ℕ) → still f (xs ++ ys) ≡ still f xs ++ still f ys
still_append f [] ys = refl
still_append f (x ∷ xs) ys = go (is_some (f x)) (still_append f xs ys)
  where
    go : (t : Bool) → still f (xs ++ ys) ≡ still f xs ++ still f ys
        → cond t (x ∷ still f (xs ++ ys)) (still f (xs ++ ys)) ≡ cond t (x ∷ still f xs) (still f xs) ++ still f ys
    go true e = ap (λ zs. x ∷ zs) e
    go false e = e

pub two_still : (o1 o2 : Option ℕ) (f g : ℕ → Option Wait) (xs ys : List ℕ)
    → xs ≡ still f (option_to_list o1) → ys ≡ still g (option_to_list o2)
    → ((b : ℕ) → o1 ≡ Some b → g b ≡ f b)
    → xs ++ ys ≡ still g (option_to_list o1 ++ (option_to_list o2 ++ []))
two_still o1 o2 f g xs ys a b h =
    (λ t. a t ++ b t) ∙ ap (λ zs. zs ++ still g (option_to_list o2)) (same o1 h)
    ∙ sym (still_append g (option_to_list o1) (option_to_list o2))
    ∙ ap (λ zs. still g (option_to_list o1 ++ zs)) (sym (append-nil (option_to_list o2)))
  where
    same : (o : Option ℕ) → ((b : ℕ) → o ≡ Some b → g b ≡ f b) → still f (option_to_list o) ≡ still g (option_to_list o)
    same None h = refl
    same (Some b) h = sym (still_one g f b (h b refl))

-- a wait was begun for this block
pub begun_one : (w w' : NodeWaits) (b : ℕ) (o : Option ℕ) → length w.waits ≡ 0 → 0 < length w'.waits
    → ((x : ℕ) → (x ≡ b → ⊥) → wait_of w' x ≡ wait_of w x)
    → option_to_list o ≡ still (wait_of w') (b ∷ []) → is_some o ≡ true
begun_one w w' b o idle some others e = go (wait_of w' b) refl
  where
    go : (v : Option Wait) → wait_of w' b ≡ v → is_some o ≡ true
    go (Some v) is = ap is_some (kept_block o (wait_of w') b e (ap is_some is))
    go None is =
        let none : length w'.waits ≡ 0 = no_waits w'.waits (λ x. elim (eqb_tells x b) [
          | inl q ↦ ap (wait_of w') q.1 ∙ is
          | inr q ↦ others x q.1 ∙ none_waits w.waits idle x
        ]) in
        absurd (omega (arith, none, some))
