-- The bytes of the lines so far.
use Rattle.std.proofs.Common.{◌≡◌, ℕ, ◌+◌, ◌≤◌, List, [], ◌∷◌, ◌++◌, append_assoc, length, take, Option, refl, sym, ap, ◌∙◌, subst, arith}
use Rattle.std.specs.List.{concat}
use Rattle.std.proofs.lemmas.List.{take_all, append-nil}
use Rattle.std.proofs.lemmas.List.Folds.{concat-append}
use Rattle.rv32_lines.specs.Statements.{Statement}
use Rattle.rv32_lines.specs.Reading.{IsReadStatement}
use Rattle.rv32_lines.specs.declared.statements.Statement.{Statement as ReadStatement}
use Rattle.rv32_asm.specs.declared.places.SegmentsSoFar.{SegmentsSoFar as ReadPlace}
use Rattle.rv32_asm.specs.declared.labels.Labels.{Labels}
use Rattle.rv32_asm.specs.Places.{behind, here, first_place, place_behind}
use Rattle.rv32_asm.specs.Assembling.{AreBytesOf, AreBytesBehind}
use Rattle.rv32_asm.specs.Standing.{place_of, IsSoundLine, IsSoundReading}
use Rattle.rv32_asm.proofs.Going.{Cut, place_next, lengths}

bytes_push : (all before left : List Statement) (s : Statement) (appended : List (List ℕ)) (added : List ℕ)
    → AreBytesBehind all before left appended
    → AreBytesOf all (before ++ left) s added → AreBytesBehind all before (left ++ s ∷ []) (appended ++ added ∷ [])
bytes_push all before [] s [] added h a =
    (subst (λ (b : List Statement). AreBytesOf all b s added) (append-nil before) a, refl)
bytes_push all before [] s (x ∷ xs) added h a = absurd (cc)
bytes_push all before (x ∷ left) s [] added h a = absurd h
bytes_push all before (x ∷ left) s (b ∷ more) added h a = (
  h.0,
  bytes_push all (before ++ x ∷ []) left s more added h.1
      (subst (λ (b : List Statement). AreBytesOf all b s added) (sym (append_assoc before (x ∷ []) left)) a),
)

-- where the lines so far end, and the bytes that they append
pub record BytesSoFar (all : List Statement) (line : ℕ) (place : ReadPlace) (old new : List ℕ) : Type 0 where
  pub place_is : place_of place ≡ place_behind (take line all)
  pub appended : List (List ℕ)
  pub are : AreBytesBehind all [] (take line all) appended
  pub new_is : new ≡ old ++ concat appended

pub bytes_first : (all : List Statement) (place : ReadPlace) (old : List ℕ) → place_of place ≡ first_place
    → BytesSoFar all 0 place old old
bytes_first all place old e = record { place_is = e; appended = []; are = refl; new_is = sym (append-nil old) }

-- the line at a place of a sound text
pub sound_line : (labels : Labels) (items : List ReadStatement) (all : List Statement) (line : ℕ) (x : ReadStatement)
    (place : ReadPlace) (at : Option ℕ)
    → IsSoundReading items labels all → (c : Cut items all line x) → place_of place ≡ place_behind (take line all)
    → at ≡ here (place_of place)
    → IsSoundLine labels x at all (take line all) c.statement
sound_line labels items all line x place at r c e at_is = record {
  rest = c.rest;
  all_are = c.all_are;
  labels_are = r.labels_are;
  read_so = c.read_so;
  at_is = at_is ∙ ap here e;
  sound = r.sound;
}

pub bytes_next : (items : List ReadStatement) (all : List Statement) (line : ℕ) (x : ReadStatement) (p q : ReadPlace)
    (old new newer : List ℕ) → (c : Cut items all line x)
    → BytesSoFar all line p old new → ((s : Statement) → IsReadStatement x s → place_of q ≡ behind (place_of p) s)
    → (added : List ℕ) × (newer ≡ new ++ added) × AreBytesOf all (take line all) c.statement added
    → BytesSoFar all (line + 1) q old newer
bytes_next items all line x p q old new newer c h place more =
    let added = more.0 in
    let joined : concat (h.appended ++ added ∷ []) ≡ concat h.appended ++ added =
    concat-append h.appended (added ∷ []) ∙ ap (λ t. concat h.appended ++ t) (append-nil added) in
    record {
      place_is = place_next items all line x p q c h.place_is place;
      appended = h.appended ++ added ∷ [];
      are = subst (λ (ss : List Statement). AreBytesBehind all [] ss (h.appended ++ added ∷ [])) (sym c.more)
          (bytes_push all [] (take line all) c.statement h.appended added h.are more.2);
      new_is = more.1 ∙ ap (λ t. t ++ added) h.new_is ∙ append_assoc old (concat h.appended) added
          ∙ ap (λ t. old ++ t) (sym joined);
    }

pub bytes_all : (items : List ReadStatement) (labels : Labels) (all : List Statement) (line : ℕ) (p : ReadPlace)
    (old new : List ℕ) → IsSoundReading items labels all → length items ≤ line
    → BytesSoFar all line p old new
    → (appended : List (List ℕ)) × AreBytesBehind all [] all appended × (new ≡ old ++ concat appended)
bytes_all items labels all line p old new r end h =
    let whole = take_all line all (omega (arith, lengths items all r.read_so, end)) in
    (h.appended, subst (λ (ss : List Statement). AreBytesBehind all [] ss h.appended) whole h.are, h.new_is)
