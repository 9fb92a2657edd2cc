-- The names of the lines so far.
use Rattle.std.proofs.Common.{◌≡◌, ℕ, ◌+◌, ◌≤◌, List, [], ◌∷◌, ◌++◌, append_assoc, length, take, Option, None, Some, Bool, true, false, refl, sym, ap, ◌∙◌, subst, arith, inl, inr}
use denote.Ref.{Bor}
use Rattle.std.specs.Prelude.{is_some}
use Rattle.std.specs.BTreeMap.{BTreeMap}
use Rattle.std.proofs.Common.{cond}
use Rattle.std.specs.Str.{bytes_eq}
use Rattle.std.specs.Ordering.{is_eq, nat_cmp}
use Rattle.std.specs.Cmp.Lexicographic.{slice_cmp}
use Rattle.std.proofs.lemmas.Bool.{false≢true}
use Rattle.std.specs.Bool.{Decides}
use Rattle.std.proofs.lemmas.Slice.Eq.{bytes_eq-Decides}
use Rattle.std.proofs.lemmas.Map.Text.{is_eq-slice_cmp}
use Rattle.rv32_lines.specs.declared.statements.Statement.TheVariants as said
use Rattle.std.proofs.lemmas.List.{take_all}
use Rattle.std.proofs.lemmas.List.Elements.{Contains-push_cases}
use Rattle.rv32_lines.specs.Statements.{Statement, Label}
use Rattle.rv32_lines.specs.Reading.{IsReadStatement, AreReadStatements}
use Rattle.rv32_lines.specs.declared.statements.Statement.{Statement as ReadStatement}
use Rattle.rv32_asm.specs.declared.labels.Label.{Label as Labelled}
use Rattle.rv32_asm.specs.declared.places.SegmentsSoFar.{SegmentsSoFar as ReadPlace}
use Rattle.rv32_asm.specs.Places.{behind, here, place_behind, IsLabelled}
use Rattle.rv32_asm.specs.Rules.{IsUnknown}
use Rattle.rv32_asm.specs.Standing.{place_of, found_in, IsFound}
use Rattle.rv32_asm.proofs.Going.{Cut, place_next, lengths}

pub record NamedSoFar (all : List Statement) (line : ℕ) (place : ReadPlace) (first : BTreeMap (Bor (List ℕ)) Labelled) :
    Type 0 where
  pub place_is : place_of place ≡ place_behind (take line all)
  pub names : (name : List ℕ) → IsFound (take line all) name (found_in first name)

labelled_more : (ss : List Statement) (s : Statement) (name : List ℕ) (before : List Statement)
    → IsLabelled ss name before → IsLabelled (ss ++ s ∷ []) name before
labelled_more ss s name before l = record {
  rest = l.rest ++ s ∷ [];
  statements_are = ap (λ t. t ++ s ∷ []) l.statements_are ∙ append_assoc before (Label name ∷ l.rest) (s ∷ []);
  first = l.first;
}

-- a line that names nothing new
pub found_more : (ss : List Statement) (s : Statement) (name : List ℕ) (f : Option Labelled)
    → (f ≡ None → s ≡ Label name → ⊥) → IsFound ss name f → IsFound (ss ++ s ∷ []) name f
found_more ss s name None other h =
    λ c. elim (Contains-push_cases ss s (Label name) c) [ inl b ↦ h b | inr e ↦ other refl e ]
found_more ss s name (Some label) other h = (h.0, labelled_more ss s name h.0 h.1, h.2, h.3)

-- a name's first line
pub found_new : (ss : List Statement) (name : List ℕ) (label : Labelled) → IsUnknown ss name → label.line ≡ length ss
    → label.address ≡ here (place_behind ss)
    → IsFound (ss ++ Label name ∷ []) name (Some label)
found_new ss name label u line address =
    (ss, record { rest = []; statements_are = refl; first = u }, line, address)

pub named_next : (items : List ReadStatement) (all : List Statement) (line : ℕ) (x : ReadStatement) (p q : ReadPlace)
    (f g : BTreeMap (Bor (List ℕ)) Labelled)
    → (c : Cut items all line x) → NamedSoFar all line p f
    → ((s : Statement) → IsReadStatement x s → place_of q ≡ behind (place_of p) s)
    → ((name : List ℕ) → IsFound (take line all) name (found_in f name)
    → IsFound (take line all ++ c.statement ∷ []) name (found_in g name))
    → NamedSoFar all (line + 1) q g
named_next items all line x p q f g c h place names = record {
  place_is = place_next items all line x p q c h.place_is place;
  names = λ name. subst (λ (ss : List Statement). IsFound ss name (found_in g name)) (sym c.more)
      (names name (h.names name));
}

same_told : (b : Bool) (P : Type 0) → Decides b P → b ≡ true → P
same_told b P d e = d.0 e

other_told : (b : Bool) (P : Type 0) → Decides b P → b ≡ false → P → ⊥
other_told b P d e = λ p. false≢true (sym e ∙ d.1 p)

insert_by : (ss : List Statement) (f g : Option Labelled) (key name : List ℕ) (label : Labelled) (b : Bool)
    → bytes_eq key name ≡ b → IsUnknown ss key
    → label.line ≡ length ss → label.address ≡ here (place_behind ss) → g ≡ cond b (Some label) f → IsFound ss name f
    → IsFound (ss ++ Label key ∷ []) name g
insert_by ss f g key name label true e u line address is h =
    let same : key ≡ name = same_told (bytes_eq key name) (key ≡ name) (bytes_eq-Decides key name) e in
    subst (IsFound (ss ++ Label key ∷ []) name) (sym is)
    (subst (λ (n : List ℕ). IsFound (ss ++ Label key ∷ []) n (Some label)) same (found_new ss key label u line address))
insert_by ss f g key name label false e u line address is h =
    let other : key ≡ name → ⊥ = other_told (bytes_eq key name) (key ≡ name) (bytes_eq-Decides key name) e in
    subst (IsFound (ss ++ Label key ∷ []) name) (sym is)
    (found_more ss (Label key) name f (λ n same. let k : key ≡ name = cc (same) in other k) h)

unknown_from : (ss : List Statement) (name : List ℕ) (f : Option Labelled) → f ≡ None → IsFound ss name f
    → IsUnknown ss name
unknown_from ss name None e h = h
unknown_from ss name (Some label) e h = absurd (cc)

-- a new name
pub names_insert : (ss : List Statement) (f g : BTreeMap (Bor (List ℕ)) Labelled) (key : Bor (List ℕ))
    (label : Labelled) (s : Statement)
    → ((name : List ℕ) → IsFound ss name (found_in f name)) → found_in f key.now ≡ None → label.line ≡ length ss
    → label.address ≡ here (place_behind ss)
    → ((name : List ℕ) → found_in g name ≡ cond (is_eq (slice_cmp nat_cmp key.now name)) (Some label) (found_in f name))
    → IsReadStatement (said.Label key) s → (name : List ℕ) → IsFound ss name (found_in f name)
    → IsFound (ss ++ s ∷ []) name (found_in g name)
names_insert ss f g key label (Label n) h none line address update r name old =
    subst (λ (m : List ℕ). IsFound (ss ++ Label m ∷ []) name (found_in g name)) r
    (insert_by ss (found_in f name) (found_in g name) key.now name label (bytes_eq key.now name) refl
    (unknown_from ss key.now (found_in f key.now) none (h key.now)) line address
    (update name ∙ ap (λ (b : Bool). cond b (Some label) (found_in f name)) (is_eq-slice_cmp key.now name)) old)
names_insert ss f g key label s h none line address update r name old = absurd r

-- a name that is there
pub names_again : (ss : List Statement) (f : BTreeMap (Bor (List ℕ)) Labelled) (key : Bor (List ℕ)) (s : Statement)
    → (found_in f key.now ≡ None → ⊥)
    → IsReadStatement (said.Label key) s → (name : List ℕ) → IsFound ss name (found_in f name)
    → IsFound (ss ++ s ∷ []) name (found_in f name)
names_again ss f key (Label n) some r name old =
    found_more ss (Label n) name (found_in f name)
    (λ e same. let k : n ≡ name = cc (same) in some (ap (found_in f) (r ∙ k) ∙ e)) old
names_again ss f key s some r name old = absurd r

-- no name line
pub names_kept : (ss : List Statement) (f : BTreeMap (Bor (List ℕ)) Labelled) (x : ReadStatement) (s : Statement)
    → IsReadStatement x s
    → ((key : Bor (List ℕ)) → x ≡ said.Label key → ⊥) → (name : List ℕ) → IsFound ss name (found_in f name)
    → IsFound (ss ++ s ∷ []) name (found_in f name)
names_kept ss f (said.Label key) s r other name old = absurd (other key refl)
names_kept ss f said.Nothing s r other name old =
    found_more ss s name (found_in f name) (λ e same. subst (IsReadStatement said.Nothing) same r) old
names_kept ss f (said.Segment a b) s r other name old =
    found_more ss s name (found_in f name) (λ e same. subst (IsReadStatement (said.Segment a b)) same r) old
names_kept ss f (said.Bytes a) s r other name old =
    found_more ss s name (found_in f name) (λ e same. subst (IsReadStatement (said.Bytes a)) same r) old
names_kept ss f (said.Word a) s r other name old =
    found_more ss s name (found_in f name) (λ e same. subst (IsReadStatement (said.Word a)) same r) old
names_kept ss f (said.Space a) s r other name old =
    found_more ss s name (found_in f name) (λ e same. subst (IsReadStatement (said.Space a)) same r) old
names_kept ss f (said.Zero a) s r other name old =
    found_more ss s name (found_in f name) (λ e same. subst (IsReadStatement (said.Zero a)) same r) old
names_kept ss f (said.Entry a) s r other name old =
    found_more ss s name (found_in f name) (λ e same. subst (IsReadStatement (said.Entry a)) same r) old
names_kept ss f (said.Instruction a) s r other name old =
    found_more ss s name (found_in f name) (λ e same. subst (IsReadStatement (said.Instruction a)) same r) old
names_kept ss f said.Unread s r other name old =
    found_more ss s name (found_in f name) (λ e same. subst (IsReadStatement said.Unread) same r) old

pub all_named : (items : List ReadStatement) (all : List Statement) (line : ℕ) (p : ReadPlace)
    (f : BTreeMap (Bor (List ℕ)) Labelled) → AreReadStatements items all
    → length items ≤ line → NamedSoFar all line p f → (name : List ℕ) → IsFound all name (found_in f name)
all_named items all line p f r end h name =
    subst (λ (ss : List Statement). IsFound ss name (found_in f name))
    (take_all line all (omega (arith, lengths items all r, end))) (h.names name)

pub none_of : (b : Bool) (o : Option Labelled) → b ≡ is_some o → b ≡ false → o ≡ None
none_of b None e f = refl
none_of b (Some label) e f = absurd (false≢true (sym f ∙ e))

pub some_of : (b : Bool) (o : Option Labelled) → b ≡ is_some o → b ≡ true → o ≡ None → ⊥
some_of b None e f g = false≢true (sym e ∙ f)
some_of b (Some label) e f g = absurd (cc)
