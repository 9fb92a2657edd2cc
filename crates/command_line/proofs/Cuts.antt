-- Words are arguments in one way.
use Rattle.std.proofs.Common.{◌≡◌, ℕ, true, false, List, [], ◌∷◌, ◌++◌, refl, sym, ap, ◌∙◌, subst}
use Rattle.std.specs.Prelude.{All, Contains}
use Rattle.std.specs.List.{flat_map}
use Rattle.std.proofs.lemmas.List.Elements.{All-head, All-tail}
use Rattle.command_line.specs.declared.table.Setting.{Setting}
use Rattle.command_line.specs.Table.{offered}
use Rattle.command_line.specs.Asks.{Argument, Operand, Apart, Joined, Bare, IsArgument, words_of}
use Rattle.command_line.specs.Reading.{IsCut}
use Rattle.command_line.proofs.Words.{offered_apart, offered_joined, offered_plain, offered_whole, other_kind, same_parts}

abbrev Is : List Setting → Argument → Type 0
Is settings = IsArgument (offered settings)

-- the arguments begin with b, and the rest of the words is of those behind it
record Behind (settings : List Setting) (b : Argument) (rest : List (List ℕ))
    (arguments : List Argument) : Type 0 where
  pub more : List Argument
  pub arguments_are : arguments ≡ b ∷ more
  pub rest_is : rest ≡ flat_map words_of more

behind : (settings : List Setting) (b : Argument) (rest : List (List ℕ)) (a : Argument)
    (more : List Argument) → Is settings b → Is settings a
    → words_of b ++ rest ≡ words_of a ++ flat_map words_of more → Behind settings b rest (a ∷ more)
behind settings (Operand w) rest (Operand x) more p q e =
    record { more = more; arguments_are = cc; rest_is = cc }
behind settings (Operand w) rest (Apart t x) more p q e =
    absurd (offered_plain settings t true q.0 w (cc) p)
behind settings (Operand w) rest (Joined t x) more p q e =
    absurd (offered_joined settings t true q x w (cc) p)
behind settings (Operand w) rest (Bare t) more p q e =
    absurd (offered_plain settings t false q w (cc) p)
behind settings (Apart s v) rest (Operand x) more p q e =
    absurd (offered_plain settings s true p.0 x (cc) q)
behind settings (Apart s v) rest (Apart t x) more p q e =
    record { more = more; arguments_are = cc; rest_is = cc }
behind settings (Apart s v) rest (Joined t x) more p q e =
    absurd (offered_apart settings s true p.0 t x (cc))
behind settings (Apart s v) rest (Bare t) more p q e =
    let same : t ≡ s = cc in
    absurd (other_kind settings s p.0 (subst (λ w. Contains (offered settings) (w, false)) same q))
behind settings (Joined s v) rest (Operand x) more p q e =
    absurd (offered_joined settings s true p v x (cc) q)
behind settings (Joined s v) rest (Apart t x) more p q e =
    absurd (offered_apart settings t true q.0 s v (cc))
behind settings (Joined s v) rest (Joined t x) more p q e =
    let parts = same_parts s t v x (offered_whole settings s true p)
    (offered_whole settings t true q) (cc) in
    let word : s ≡ t = parts.0 in
    let value : v ≡ x = parts.1 in
    record { more = more; arguments_are = cc; rest_is = cc }
behind settings (Joined s v) rest (Bare t) more p q e =
    absurd (offered_apart settings t false q s v (cc))
behind settings (Bare s) rest (Operand x) more p q e =
    absurd (offered_plain settings s false p x (cc) q)
behind settings (Bare s) rest (Apart t x) more p q e =
    let same : s ≡ t = cc in
    absurd (other_kind settings t q.0 (subst (λ w. Contains (offered settings) (w, false)) same p))
behind settings (Bare s) rest (Joined t x) more p q e =
    absurd (offered_apart settings s false p t x (cc))
behind settings (Bare s) rest (Bare t) more p q e =
    record { more = more; arguments_are = cc; rest_is = cc }

none_behind : (a : Argument) (more : List Argument) → [] ≡ words_of a ++ flat_map words_of more → ⊥
none_behind (Operand w) more e = absurd (cc)
none_behind other more e = absurd (cc)

same_arguments : (settings : List Setting) (xs ys : List Argument) → All (Is settings) xs
    → All (Is settings) ys → flat_map words_of xs ≡ flat_map words_of ys → xs ≡ ys
same_arguments settings [] [] p q e = refl
same_arguments settings [] (y ∷ ys) p q e = absurd (none_behind y ys e)
same_arguments settings (x ∷ xs) [] p q e = absurd (none_behind x xs (sym e))
same_arguments settings (x ∷ xs) (y ∷ ys) p q e =
    let b = behind settings x (flat_map words_of xs) y ys (All-head (Is settings) x xs p)
    (All-head (Is settings) y ys q) e in
    let more : ys ≡ b.more = same_tail y x ys b.more b.arguments_are in
    let same = same_arguments settings xs ys (All-tail (Is settings) x xs p)
    (All-tail (Is settings) y ys q) (b.rest_is ∙ ap (flat_map words_of) (sym more)) in
    ap (λ zs. x ∷ zs) (same ∙ more) ∙ sym b.arguments_are
  where
    same_tail : (a b : Argument) (more rest : List Argument) → a ∷ more ≡ b ∷ rest → more ≡ rest
    same_tail a b more rest e = cc

pub same_cut : (settings : List Setting) (words : List (List ℕ)) (xs ys : List Argument)
    → IsCut settings words xs → IsCut settings words ys → xs ≡ ys
same_cut settings words xs ys p q =
    same_arguments settings xs ys p.are_arguments q.are_arguments (sym p.words_are ∙ q.words_are)
