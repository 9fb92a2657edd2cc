-- Going over lines.
use Rattle.std.proofs.Common.{◌≡◌, ℕ, zero, suc, ◌+◌, ◌<◌, ◌≤◌, List, [], ◌∷◌, ◌++◌, length, length-append, take, Some, Bool, true, false, refl, sym, ap, ◌∙◌, subst, arith, inl, inr, ◌⊎◌}
use Rattle.std.specs.Prelude.{Contains, slice_index_or}
use Rattle.std.proofs.lemmas.List.{take_all}
use Rattle.std.proofs.lemmas.List.Elements.{Contains-push, Contains-push_cases}
use denote.Ref.{Bor}
use Rattle.rv32_lines.specs.Statements.{Statement, Entry}
use Rattle.rv32_lines.specs.Reading.{IsReadStatement, AreReadStatements}
use Rattle.rv32_lines.specs.declared.statements.Statement.{Statement as ReadStatement}
use Rattle.rv32_lines.specs.declared.statements.Statement.TheVariants as said
use Rattle.rv32_asm.specs.declared.refused.AsmRule.{AsmRule}
use Rattle.rv32_asm.specs.declared.places.SegmentsSoFar.{SegmentsSoFar as ReadPlace}
use Rattle.rv32_asm.specs.declared.labels.Labels.{Labels}
use Rattle.rv32_asm.specs.Places.{SegmentsSoFar, behind, behind_all, first_place, place_behind}
use Rattle.rv32_asm.specs.Rules.{Breaks, AreSoundUpTo, AreSound}
use Rattle.rv32_asm.specs.Standing.{place_of, IsLine, IsLowest, TellsEntry, AreLabels, IsFoundFault}

-- the line at a place of a text, and those before and behind it
pub record Cut (items : List ReadStatement) (all : List Statement) (line : ℕ) (x : ReadStatement) : Type 0 where
  pub statement : Statement
  pub rest : List Statement
  pub all_are : all ≡ take line all ++ statement ∷ rest
  pub read_so : IsReadStatement x statement
  pub more : take (line + 1) all ≡ take line all ++ statement ∷ []
  pub count : length (take line all) ≡ line

pub cut_at : (items : List ReadStatement) (all : List Statement) (line : ℕ) (x : ReadStatement)
    → AreReadStatements items all → line < length items
    → slice_index_or items line x ≡ x → Cut items all line x
cut_at [] all line x h less e = absurd (omega (arith, less))
cut_at (i ∷ items) [] line x h less e = absurd h
cut_at (i ∷ items) (s ∷ all) zero x h less e =
    record {
      statement = s;
      rest = all;
      all_are = refl;
      read_so = subst (λ y. IsReadStatement y s) e h.0;
      more = refl;
      count = refl;
    }
cut_at (i ∷ items) (s ∷ all) (suc line) x h less e =
    let c = cut_at items all line x h.1 (omega (arith, less)) e in
    let next : suc line + 1 ≡ suc (line + 1) = omega arith in
    record {
      statement = c.statement;
      rest = c.rest;
      all_are = ap (λ t. s ∷ t) c.all_are;
      read_so = c.read_so;
      more = ap (λ n. take n (s ∷ all)) next ∙ ap (λ t. s ∷ t) c.more;
      count = ap suc c.count;
    }

pub lengths : (items : List ReadStatement) (all : List Statement) → AreReadStatements items all
    → length items ≡ length all
lengths [] all h = ap length (sym h)
lengths (i ∷ items) [] h = absurd h
lengths (i ∷ items) (s ∷ all) h = ap suc (lengths items all h.1)

all_behind : (p : SegmentsSoFar) (ss : List Statement) (s : Statement)
    → behind_all p (ss ++ s ∷ []) ≡ behind (behind_all p ss) s
all_behind p [] s = refl
all_behind p (x ∷ ss) s = all_behind (behind p x) ss s

pub place_more : (ss : List Statement) (s : Statement) → place_behind (ss ++ s ∷ []) ≡ behind (place_behind ss) s
place_more ss s = all_behind first_place ss s

-- the place behind a line more
pub place_next : (items : List ReadStatement) (all : List Statement) (line : ℕ) (x : ReadStatement) (p q : ReadPlace)
    → Cut items all line x
    → place_of p ≡ place_behind (take line all)
    → ((s : Statement) → IsReadStatement x s → place_of q ≡ behind (place_of p) s)
    → place_of q ≡ place_behind (take (line + 1) all)
place_next items all line x p q c e f =
    f c.statement c.read_so ∙ ap (λ p. behind p c.statement) e ∙ sym (place_more (take line all) c.statement)
    ∙ ap place_behind (sym c.more)

-- entry lines
pub entry_push : (before : List Statement) (s : Statement) (name : List ℕ) → s ≡ Entry name
    → TellsEntry (before ++ s ∷ []) true
entry_push before s name e = (name, subst (λ (x : Statement). Contains (before ++ s ∷ []) x) e (Contains-push before s))

contains_more : (xs : List Statement) (s x : Statement) → Contains xs x → Contains (xs ++ s ∷ []) x
contains_more [] s x c = absurd (omega (arith, c.1))
contains_more (y ∷ xs) s x (zero, less, e) = (0, omega arith, e)
contains_more (y ∷ xs) s x (suc k, less, e) =
    let more = contains_more xs s x (k, omega (arith, less), e) in
    (suc more.0, omega (arith, more.1), more.2)

pub entry_kept : (before : List Statement) (s : Statement) → TellsEntry before true → TellsEntry (before ++ s ∷ []) true
entry_kept before s h = (h.0, contains_more before s (Entry h.0) h.1)

pub entry_none : (before : List Statement) (s : Statement) → TellsEntry before false
    → ((name : List ℕ) → s ≡ Entry name → ⊥) → TellsEntry (before ++ s ∷ []) false
entry_none before s h other =
    λ name c. elim (Contains-push_cases before s (Entry name) c) [ inl b ↦ h name b | inr e ↦ other name e ]

pub entry_said : (before : List Statement) (s : Statement) (name : Bor (List ℕ)) → IsReadStatement (said.Entry name) s
    → TellsEntry (before ++ s ∷ []) true
entry_said before (Entry n) name h = entry_push before (Entry n) n refl
entry_said before s name h = absurd h

pub entry_unsaid : (before : List Statement) (s : Statement) (x : ReadStatement) → IsReadStatement x s
    → ((name : Bor (List ℕ)) → x ≡ said.Entry name → ⊥)
    → TellsEntry before false → TellsEntry (before ++ s ∷ []) false
entry_unsaid before s (said.Entry name) h other told = absurd (other name refl)
entry_unsaid before s said.Nothing h other told =
    entry_none before s told (λ n e. subst (IsReadStatement said.Nothing) e h)
entry_unsaid before s (said.Segment a b) h other told =
    entry_none before s told (λ n e. subst (IsReadStatement (said.Segment a b)) e h)
entry_unsaid before s (said.Label a) h other told =
    entry_none before s told (λ n e. subst (IsReadStatement (said.Label a)) e h)
entry_unsaid before s (said.Bytes a) h other told =
    entry_none before s told (λ n e. subst (IsReadStatement (said.Bytes a)) e h)
entry_unsaid before s (said.Word a) h other told =
    entry_none before s told (λ n e. subst (IsReadStatement (said.Word a)) e h)
entry_unsaid before s (said.Space a) h other told =
    entry_none before s told (λ n e. subst (IsReadStatement (said.Space a)) e h)
entry_unsaid before s (said.Zero a) h other told =
    entry_none before s told (λ n e. subst (IsReadStatement (said.Zero a)) e h)
entry_unsaid before s (said.Instruction a) h other told =
    entry_none before s told (λ n e. subst (IsReadStatement (said.Instruction a)) e h)
entry_unsaid before s said.Unread h other told =
    entry_none before s told (λ n e. subst (IsReadStatement said.Unread) e h)

-- soundness of a line more
split_push : (ss : List Statement) (s : Statement) (b : List Statement) (x : Statement) (r : List Statement)
    → ss ++ s ∷ [] ≡ b ++ x ∷ r
    → ((b ≡ ss) × (x ≡ s)) ⊎ ((q : List Statement) × (ss ≡ b ++ x ∷ q))
split_push [] s [] x r e = let same : s ≡ x = cc in inl (refl, sym same)
split_push [] s (y ∷ b) x r e =
    let bad : [] ≡ b ++ x ∷ r = cc in absurd (omega (arith, ap length bad, length-append b (x ∷ r)))
split_push (z ∷ ss) s [] x r e = let same : z ≡ x = cc in inr (ss, ap (λ t. t ∷ ss) same)
split_push (z ∷ ss) s (y ∷ b) x r e =
    let head : z ≡ y = cc in
    let tail : ss ++ s ∷ [] ≡ b ++ x ∷ r = cc in
    elim (split_push ss s b x r tail) [
      | inl h ↦ (let all : y ∷ b ≡ z ∷ ss = cc (h.0, head) in inl (all, h.1))
      | inr h ↦ (let all : z ∷ ss ≡ y ∷ (b ++ x ∷ h.0) = cc (h.1, head) in inr (h.0, all))
    ]

pub sound_more : (all ss : List Statement) (s : Statement) → AreSoundUpTo all ss
    → ((r : AsmRule) → Breaks all ss s r → ⊥) → AreSoundUpTo all (ss ++ s ∷ [])
sound_more all ss s h none b x r k e breaks = elim (split_push ss s b x r e) [
  | inl same ↦
      none k (subst (λ (y : Statement). Breaks all ss y k) same.1
      (subst (λ (f : List Statement). Breaks all f x k) same.0 breaks))
  | inr more ↦ h b x more.0 k more.1 breaks
]

pub sound_none : (all : List Statement) → AreSoundUpTo all []
sound_none all [] x r k e breaks = let bad : ◌≡◌ {A = List Statement} [] (x ∷ r) = e in absurd (cc)
sound_none all (y ∷ b) x r k e breaks = let bad : ◌≡◌ {A = List Statement} [] (y ∷ b ++ x ∷ r) = e in absurd (cc)

-- what the lines so far are found to be
pub record SoundSoFar (all : List Statement) (line : ℕ) (place : ReadPlace) (has_entry : Bool) : Type 0 where
  pub place_is : place_of place ≡ place_behind (take line all)
  pub entry_told : TellsEntry (take line all) has_entry
  pub sound : AreSoundUpTo all (take line all)

pub sound_first : (all : List Statement) (place : ReadPlace) → place_of place ≡ first_place
    → SoundSoFar all 0 place false
sound_first all place e =
    record { place_is = e; entry_told = λ name c. absurd (omega (arith, c.1)); sound = sound_none all }

pub line_of : (labels : Labels) (items : List ReadStatement) (all : List Statement) (line : ℕ) (x : ReadStatement)
    (place : ReadPlace) (has_entry : Bool)
    → AreLabels all labels → (c : Cut items all line x) → SoundSoFar all line place has_entry
    → IsLine labels x line place has_entry all (take line all) c.statement
line_of labels items all line x place has_entry l c h = record {
  rest = c.rest;
  all_are = c.all_are;
  labels_are = l;
  read_so = c.read_so;
  line_is = sym c.count;
  place_is = h.place_is;
  entry_told = h.entry_told;
}

pub sound_next : (items : List ReadStatement) (all : List Statement) (line : ℕ) (x : ReadStatement) (p q : ReadPlace)
    (a b : Bool) → (c : Cut items all line x)
    → SoundSoFar all line p a → ((s : Statement) → IsReadStatement x s → place_of q ≡ behind (place_of p) s)
    → (TellsEntry (take line all) a → TellsEntry (take line all ++ c.statement ∷ []) b)
    → ((r : AsmRule) → Breaks all (take line all) c.statement r → ⊥)
    → SoundSoFar all (line + 1) q b
sound_next items all line x p q a b c h place entry none = record {
  place_is = place_next items all line x p q c h.place_is place;
  entry_told = subst (λ (ss : List Statement). TellsEntry ss b) (sym c.more) (entry h.entry_told);
  sound = subst (AreSoundUpTo all) (sym c.more) (sound_more all (take line all) c.statement h.sound none);
}

pub broken_at : (items : List ReadStatement) (all : List Statement) (line : ℕ) (x : ReadStatement) (p : ReadPlace)
    (a : Bool) (r : AsmRule) → (c : Cut items all line x)
    → SoundSoFar all line p a → IsLowest all (take line all) c.statement (Some r)
    → IsFoundFault all (Some (r, line + 1))
broken_at items all line x p a r c h l = inl (record {
  before = take line all;
  statement = c.statement;
  rest = c.rest;
  all_are = c.all_are;
  line_is = ap (λ n. n + 1) (sym c.count);
  sound = h.sound;
  breaks = l.0;
  lowest = l.1;
})

pub sound_all : (items : List ReadStatement) (all : List Statement) (line : ℕ) (p : ReadPlace) (a : Bool)
    → AreReadStatements items all → length items ≤ line
    → SoundSoFar all line p a → AreSound all × (place_of p ≡ place_behind all)
sound_all items all line p a r end h =
    let count = lengths items all r in
    let whole = take_all line all (omega (arith, count, end)) in
    (subst (AreSoundUpTo all) whole h.sound, h.place_is ∙ ap place_behind whole)
