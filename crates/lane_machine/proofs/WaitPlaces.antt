-- Waits for one block, by the lanes' places.
use Rattle.std.proofs.Common.{◌≡◌, ℕ, zero, suc, ◌<◌, Bool, true, false, cond, List, [], ◌∷◌, length, set, get_or, Option, Some, None, refl, sym, ap, ◌∙◌, subst, arith}
use Rattle.std.specs.Prelude.{is_some}
use Rattle.home_directory.specs.declared.wait.Wait.{Wait}
use Rattle.lane_machine.specs.Waits.{first_in, place_in, AtMostOne}
use Rattle.lane_machine.proofs.WaitLists.{some_none, one_of_none}

-- the first of two
abbrev pub first_of : Option Wait → Option Wait → Option Wait
first_of None o = o
first_of (Some w) o = Some w

pub first_cons : (o : Option Wait) (os : List (Option Wait)) → first_in (o ∷ os) ≡ first_of o (first_in os)
first_cons None os = refl
first_cons (Some w) os = refl

pub get_none : (os : List (Option Wait)) (k : ℕ) → first_in os ≡ None → get_or os k None ≡ None
get_none [] k e = refl
get_none (None ∷ os) zero e = refl
get_none (None ∷ os) (suc k) e = get_none os k e
get_none (Some w ∷ os) k e = absurd (some_none w e)

set_none : (os : List (Option Wait)) (k : ℕ) → first_in os ≡ None → first_in (set os k None) ≡ None
set_none [] k e = refl
set_none (None ∷ os) zero e = e
set_none (None ∷ os) (suc k) e = set_none os k e
set_none (Some w ∷ os) k e = absurd (some_none w e)

-- one is taken out
pub first_out : (os : List (Option Wait)) (k : ℕ) → AtMostOne os
    → first_in os ≡ first_of (get_or os k None) (first_in (set os k None))
first_out [] k h = refl
first_out (None ∷ os) zero h = refl
first_out (Some w ∷ os) zero h = refl
first_out (None ∷ os) (suc k) h = first_out os k h
first_out (Some w ∷ os) (suc k) h = sym (ap (λ o. first_of o (Some w)) (get_none os k h))

pub one_out : (os : List (Option Wait)) (k : ℕ) → AtMostOne os → AtMostOne (get_or os k None ∷ set os k None)
one_out [] k h = tt
one_out (None ∷ os) zero h = h
one_out (Some w ∷ os) zero h = h
one_out (None ∷ os) (suc k) h = go (get_or os k None) (one_out os k h)
  where
    go : (o : Option Wait) → AtMostOne (o ∷ set os k None) → AtMostOne (o ∷ None ∷ set os k None)
    go None h = h
    go (Some w) h = h
one_out (Some w ∷ os) (suc k) h =
    subst (λ o. AtMostOne (o ∷ Some w ∷ set os k None)) (sym (get_none os k h)) (set_none os k h)

-- one is put in, in an empty place
pub first_put : (o : Option Wait) (os : List (Option Wait)) (k : ℕ) → k < length os → get_or os k None ≡ None
    → AtMostOne (o ∷ os) → first_in (set os k o) ≡ first_of o (first_in os)
first_put o [] k l e h = absurd (omega (arith, l))
first_put o (None ∷ os) zero l e h = first_cons o os
first_put o (Some w ∷ os) zero l e h = absurd (some_none w e)
first_put None (None ∷ os) (suc k) l e h = first_put None os k (omega (arith, l)) e h
first_put (Some v) (None ∷ os) (suc k) l e h = first_put (Some v) os k (omega (arith, l)) e h
first_put None (Some w ∷ os) (suc k) l e h = refl
first_put (Some v) (Some w ∷ os) (suc k) l e h = absurd (some_none w h)

pub one_put : (o : Option Wait) (os : List (Option Wait)) (k : ℕ) → k < length os → get_or os k None ≡ None
    → AtMostOne (o ∷ os) → AtMostOne (set os k o)
one_put o [] k l e h = absurd (omega (arith, l))
one_put None (None ∷ os) zero l e h = h
one_put (Some v) (None ∷ os) zero l e h = h
one_put o (Some w ∷ os) zero l e h = absurd (some_none w e)
one_put None (None ∷ os) (suc k) l e h = one_put None os k (omega (arith, l)) e h
one_put (Some v) (None ∷ os) (suc k) l e h = one_put (Some v) os k (omega (arith, l)) e h
one_put None (Some w ∷ os) (suc k) l e h =
    first_put None os k (omega (arith, l)) e (one_of_none os h) ∙ h
one_put (Some v) (Some w ∷ os) (suc k) l e h = absurd (some_none w h)

-- whose place it is
pub place_put : (v : Wait) (os : List (Option Wait)) (k : ℕ) → k < length os → first_in (set os k None) ≡ None
    → place_in (set os k (Some v)) ≡ k
place_put v [] k l e = absurd (omega (arith, l))
place_put v (o ∷ os) zero l e = refl
place_put v (None ∷ os) (suc k) l e = ap suc (place_put v os k (omega (arith, l)) e)
place_put v (Some w ∷ os) (suc k) l e = absurd (some_none w e)

-- the one at its place is there
pub place_has : (os : List (Option Wait)) → is_some (first_in os) ≡ true
    → (place_in os < length os) × (get_or os (place_in os) None ≡ first_in os)
place_has [] e = absurd (cc)
place_has (None ∷ os) e = let r = place_has os e in let l = r.0 in (omega (arith, l), r.1)
place_has (Some w ∷ os) e = (omega arith, refl)

-- the others have none
pub others_none : (os : List (Option Wait)) (k : ℕ) → AtMostOne os → is_some (get_or os k None) ≡ true
    → first_in (set os k None) ≡ None
others_none [] k h e = refl
others_none (None ∷ os) zero h e = absurd (cc)
others_none (Some w ∷ os) zero h e = h
others_none (None ∷ os) (suc k) h e = others_none os k h e
others_none (Some w ∷ os) (suc k) h e = absurd (let f : true ≡ false = sym e ∙ ap is_some (get_none os k h) in cc)

-- one that is alone
pub first_set : (o : Option Wait) (os : List (Option Wait)) (k : ℕ) → k < length os → first_in (set os k None) ≡ None
    → first_in (set os k o) ≡ o
first_set o [] k l e = absurd (omega (arith, l))
first_set None (x ∷ os) zero l e = e
first_set (Some v) (x ∷ os) zero l e = refl
first_set o (None ∷ os) (suc k) l e = first_set o os k (omega (arith, l)) e
first_set o (Some w ∷ os) (suc k) l e = absurd (some_none w e)

pub one_set : (o : Option Wait) (os : List (Option Wait)) (k : ℕ) → k < length os → first_in (set os k None) ≡ None
    → AtMostOne (set os k o)
one_set o [] k l e = absurd (omega (arith, l))
one_set None (x ∷ os) zero l e = one_of_none os e
one_set (Some v) (x ∷ os) zero l e = e
one_set o (None ∷ os) (suc k) l e = one_set o os k (omega (arith, l)) e
one_set o (Some w ∷ os) (suc k) l e = absurd (some_none w e)

-- the place of the first, or place 0, is the only one that may have one
abbrev pub holder : List (Option Wait) → ℕ
holder os = cond (is_some (first_in os)) (place_in os) 0

none_is : (o : Option Wait) → is_some o ≡ false → o ≡ None
none_is None e = refl
none_is (Some w) e = absurd (cc)

pub holder_alone : (os : List (Option Wait)) → AtMostOne os → first_in (set os (holder os) None) ≡ None
holder_alone os h = go (is_some (first_in os)) refl
  where
    go : (t : Bool) → is_some (first_in os) ≡ t → first_in (set os (cond t (place_in os) 0) None) ≡ None
    go true e = others_none os (place_in os) h (ap is_some (place_has os e).1 ∙ e)
    go false e = set_none os 0 (none_is (first_in os) e)

-- one is put into an empty place: the first is where it was, or there
put_there : (v : Wait) (os : List (Option Wait)) (k : ℕ) → k < length os → first_in (set os k (Some v)) ≡ None → ⊥
put_there v [] k l e = omega (arith, l)
put_there v (o ∷ os) zero l e = some_none v e
put_there v (None ∷ os) (suc k) l e = put_there v os k (omega (arith, l)) e
put_there v (Some u ∷ os) (suc k) l e = some_none u e

two_of : (v : Wait) (os : List (Option Wait)) (k : ℕ) → get_or os k None ≡ None → k < length os
    → AtMostOne (set os k (Some v)) → is_some (first_in os) ≡ true → ⊥
two_of v [] k here l one e = omega (arith, l)
two_of v (None ∷ os) zero here l one e = let bad : false ≡ true = sym (ap is_some one) ∙ e in cc
two_of v (Some w ∷ os) zero here l one e = some_none w here
two_of v (None ∷ os) (suc k) here l one e = two_of v os k here (omega (arith, l)) one e
two_of v (Some w ∷ os) (suc k) here l one e = put_there v os k (omega (arith, l)) one

out_none : (os : List (Option Wait)) (k : ℕ) → get_or os k None ≡ None → set os k None ≡ os
out_none [] k e = refl
out_none (o ∷ os) zero e = ap (λ x. x ∷ os) (sym e)
out_none (o ∷ os) (suc k) e = ap (λ x. o ∷ x) (out_none os k e)

pub place_back : (os : List (Option Wait)) (o : Option Wait) (k : ℕ) → get_or os k None ≡ None → k < length os
    → is_some (first_in (set os k o)) ≡ true → AtMostOne (set os k o)
    → place_in (set os k o) ≡ cond (is_some (first_in os)) (place_in os) k
place_back os None k here l there one =
    let same = out_none os k here in
    let some = sym (ap (λ z. is_some (first_in z)) same) ∙ there in
    ap place_in same ∙ ap (λ t. cond t (place_in os) k) (sym some)
place_back os (Some v) k here l there one = go (is_some (first_in os)) refl
  where
    go : (t : Bool) → is_some (first_in os) ≡ t → place_in (set os k (Some v)) ≡ cond t (place_in os) k
    go true e = absurd (two_of v os k here l one e)
    go false e = place_put v os k l (ap first_in (out_none os k here) ∙ none_is (first_in os) e)
