-- The words of options.
use Rattle.std.proofs.Common.{◌≡◌, ◌⊎◌, ℕ, suc, Bool, true, false, ◌==◌, ◌||◌, ◌+◌, ◌<◌, List, length, take, get_or, Some, eqb-true, cond, bytes_eq, unwrap_or, [], ◌∷◌, ◌++◌, slice_index, refl, sym, ap, ◌∙◌, subst, arith, codes, length-append, Option, None, inl, inr}
use Rattle.std.specs.Prelude.{Contains, find}
use Rattle.std.proofs.lemmas.List.Elements.{Contains-append_right, Contains-append_cases}
use Rattle.std.specs.List.{list_any, position_or_len, before_first, after_first}
use Rattle.std.proofs.lemmas.List.Sums.{passes_at_first, split_at_first}
use Rattle.std.proofs.lemmas.Slice.Eq.{bytes_eq-Decides}
use Rattle.clap.specs.Lexer.{long_of}
use Rattle.command_line.specs.declared.table.Setting.{Setting}
use Rattle.command_line.specs.declared.table.Setting.TheVariants.{Nodes}
use Rattle.command_line.specs.declared.table.CommandWord.TheVariants as word
use Rattle.command_line.specs.declared.table.ViewWord.TheVariants as view
use Rattle.command_line.specs.Table.{is_valued, name_of, offered, option_word, settings_of, view_settings}
use Rattle.command_line.specs.Asks.{IsPlain}
use Rattle.command_line.specs.Reading.{IsLong}

-- the option of a word
abbrev pub option_of : List Setting → List ℕ → Option Setting
option_of settings word = find (λ s. bytes_eq (option_word s) word) settings

-- a command with these options has such an option
pub record HasOption (settings : List Setting) (setting : Setting) (valued : Bool) : Type 0 where
  pub there : option_of settings (option_word setting) ≡ Some setting
  pub kind : is_valued setting ≡ valued

abbrev pub has_equals : List ℕ → Bool
has_equals word = list_any (λ c. c == 61) word

-- an option's word is two dashes and its name
pub dashed : (s : Setting) → option_word s ≡ 45 ∷ 45 ∷ name_of s
dashed Nodes = refl
dashed s = refl

pub no_equals : (s : Setting) → has_equals (option_word s) ≡ false
no_equals Nodes = refl
no_equals s = refl

dash_first : (s : Setting) (v : List ℕ) → slice_index (option_word s ++ v) 0 ≡ 45
dash_first Nodes v = refl
dash_first s v = refl

pub not_plain : (s : Setting) (w : List ℕ) → w ≡ option_word s → IsPlain w → ⊥
not_plain Nodes w e p = p.no_dash (ap (λ x. slice_index x 0) e)
not_plain s w e p = p.no_dash (ap (λ x. slice_index x 0) e)

pub not_plain_joined : (s : Setting) (v w : List ℕ) → w ≡ option_word s ++ (61 ∷ v) → IsPlain w → ⊥
not_plain_joined s v w e p = p.no_dash (ap (λ x. slice_index x 0) e ∙ dash_first s (61 ∷ v))

-- an option's name is not that of operands
pub no_operand : (s : Setting) → bytes_eq (codes "operand") (name_of s) ≡ false
no_operand Nodes = refl
no_operand s = refl

pub no_option : (s : Setting) → bytes_eq (name_of s) (codes "operand") ≡ false
no_option Nodes = refl
no_option s = refl

-- a word of two dashes and more is an option
pub record Long (word name : List ℕ) (value : Option (List ℕ)) : Type 0 where
  pub dashes : bytes_eq word (45 ∷ 45 ∷ []) ≡ false
  pub long : long_of word ≡ Some (name, value)

pub long_joined : (s : Setting) (v : List ℕ) → Long (option_word s ++ (61 ∷ v)) (name_of s) (Some v)
long_joined Nodes v = record { dashes = refl; long = refl }
long_joined s v = record { dashes = refl; long = refl }

pub long_alone : (s : Setting) → Long (option_word s) (name_of s) None
long_alone Nodes = record { dashes = refl; long = refl }
long_alone s = record { dashes = refl; long = refl }

-- an option's word is long
pub is_long_joined : (s : Setting) (v : List ℕ) → IsLong (option_word s ++ (61 ∷ v))
is_long_joined Nodes v =
    record { more = omega (arith, length-append (codes "--nodes") (61 ∷ v)); first = refl; second = refl }
is_long_joined s v =
    record { more = omega (arith, length-append (option_word s) (61 ∷ v)); first = refl; second = refl }

pub is_long_alone : (s : Setting) → IsLong (option_word s)
is_long_alone Nodes = record { more = omega arith; first = refl; second = refl }
is_long_alone s = record { more = omega arith; first = refl; second = refl }

pub equals_inside : (xs ys : List ℕ) → has_equals (xs ++ (61 ∷ ys)) ≡ true
equals_inside [] ys = refl
equals_inside (x ∷ xs) ys =
    rw (equals_inside xs ys)
    (elim (x == 61) as (λ b. (b || true) ≡ true) [ true ↦ refl | false ↦ refl ])

different : (xs ys : List ℕ) → has_equals xs ≡ false → has_equals ys ≡ true → xs ≡ ys → ⊥
different xs ys e f g =
    let h : false ≡ true = sym e ∙ ap has_equals g ∙ f in absurd (cc)

or_false : (a b : Bool) → (a || b) ≡ false → b ≡ false
or_false true b e = absurd (cc)
or_false false b e = e

-- a word is cut at its first equals sign in one way
pub same_parts :
    (xs ys vs ws : List ℕ) →
    has_equals xs ≡ false → has_equals ys ≡ false → xs ++ (61 ∷ vs) ≡ ys ++ (61 ∷ ws) →
    (xs ≡ ys) × (vs ≡ ws)
same_parts [] [] vs ws p q e = (refl, cc)
same_parts [] (y ∷ ys) vs ws p q e =
    let same : 61 ≡ y = cc in
    let at : (z : ℕ) → 61 ≡ z → has_equals (z ∷ ys) ≡ true = λ z f. rw (sym f) refl in
    let h : false ≡ true = sym q ∙ at y same in
    absurd (cc)
same_parts (x ∷ xs) [] vs ws p q e =
    let same : 61 ≡ x = cc in
    let at : (z : ℕ) → 61 ≡ z → has_equals (z ∷ xs) ≡ true = λ z f. rw (sym f) refl in
    let h : false ≡ true = sym p ∙ at x same in
    absurd (cc)
same_parts (x ∷ xs) (y ∷ ys) vs ws p q e =
    let h : x ≡ y = cc in
    let k = same_parts xs ys vs ws (rest x xs p) (rest y ys q) (cc) in
    (ap (λ z. z ∷ xs) h ∙ ap (λ zs. y ∷ zs) k.0, k.1)
  where
    rest : (z : ℕ) (zs : List ℕ) → has_equals (z ∷ zs) ≡ false → has_equals zs ≡ false
    rest z zs f = or_false (z == 61) (has_equals zs) f

-- the option that is found has the word
pub word_found : (settings : List Setting) (w : List ℕ) (s : Setting) →
    option_of settings w ≡ Some s → option_word s ≡ w
word_found [] w s e = absurd (cc)
word_found (t ∷ settings) w s e =
    found (bytes_eq (option_word t) w) refl e (word_found settings w s)
  where
    found : (b : Bool) → bytes_eq (option_word t) w ≡ b →
        cond b (Some t) (option_of settings w) ≡ Some s →
        (option_of settings w ≡ Some s → option_word s ≡ w) → option_word s ≡ w
    found true h f more = let same : t ≡ s = cc in ap option_word (sym same)
        ∙ (bytes_eq-Decides (option_word t) w).0 h
    found false h f more = more f

pub has_option : (settings : List Setting) (w : List ℕ) (s : Setting) (valued : Bool) →
    option_of settings w ≡ Some s → is_valued s ≡ valued → HasOption settings s valued
has_option settings w s valued e k = record {
  there = ap (option_of settings) (word_found settings w s e) ∙ e;
  kind = k;
}

equals_place : (xs : List ℕ) → has_equals xs ≡ true →
    position_or_len (λ c. c == 61) xs < length xs
equals_place [] e = absurd (cc)
equals_place (x ∷ xs) e = go (x == 61) refl e (equals_place xs)
  where
    go : (b : Bool) → (x == 61) ≡ b → (b || has_equals xs) ≡ true →
        (has_equals xs ≡ true → position_or_len (λ c. c == 61) xs < length xs) →
        position_or_len (λ c. c == 61) (x ∷ xs) < length (x ∷ xs)
    go true h f more = rw h (omega arith)
    go false h f more = let k = more f in rw h (omega (arith, k))

-- a word with an equals sign, round the first one
pub cut_at : (w : List ℕ) → has_equals w ≡ true →
    w ≡ before_first (λ c. c == 61) w ++ (61 ∷ after_first (λ c. c == 61) w)
cut_at w e =
    let here = equals_place w e in
    let is : get_or w (position_or_len (λ b. b == 61) w) 0 ≡ 61 =
    eqb-true _ 61 (passes_at_first (λ b. b == 61) w 0 here) in
    split_at_first (λ b. b == 61) w 0 here
    ∙ ap (λ c. before_first (λ b. b == 61) w ++ (c ∷ after_first (λ b. b == 61) w)) is

-- a word without one is before it whole
pub uncut : (w : List ℕ) → has_equals w ≡ false → before_first (λ c. c == 61) w ≡ w
uncut [] e = refl
uncut (x ∷ xs) e = go (x == 61) refl e (uncut xs)
  where
    go : (b : Bool) → (x == 61) ≡ b → (b || has_equals xs) ≡ false →
        (has_equals xs ≡ false → before_first (λ c. c == 61) xs ≡ xs) →
        before_first (λ c. c == 61) (x ∷ xs) ≡ x ∷ xs
    go true h f more = absurd (cc)
    go false h f more =
        let k : 1 + position_or_len (λ c. c == 61) xs ≡ suc (position_or_len (λ c. c == 61) xs) =
        omega arith in
        rw h (ap (λ n. take n (x ∷ xs)) k ∙ ap (λ ys. x ∷ ys) (more f))

-- ---- the options that a command offers

-- each option is one of these, and has a word of its own
abbrev all_settings : List Setting
all_settings =
    settings_of word.Run ++ (settings_of word.One ++ (settings_of word.Sim
    ++ (view_settings view.Trace ++ (view_settings view.Time ++ view_settings view.Gdb))))

abbrev setting_at : List ℕ → Setting
setting_at word = unwrap_or (option_of all_settings word) Nodes

setting_found : (s : Setting) → setting_at (option_word s) ≡ s
setting_found Nodes = refl
setting_found s = refl

same_setting : (s t : Setting) → option_word s ≡ option_word t → s ≡ t
same_setting s t e = sym (setting_found s) ∙ ap setting_at e ∙ setting_found t

-- the option is one of these
abbrev IsAmong : Setting → List Setting → Type 0
IsAmong s [] = ⊥
IsAmong s (t ∷ ts) = (t ≡ s) ⊎ IsAmong s ts

found_by : (s t : Setting) (ts : List Setting) (b : Bool)
    → bytes_eq (option_word t) (option_word s) ≡ b
    → (b ≡ false → option_of ts (option_word s) ≡ Some s)
    → cond b (Some t) (option_of ts (option_word s)) ≡ Some s
found_by s t ts true e more =
    ap (λ x. Some x) (same_setting t s ((bytes_eq-Decides (option_word t) (option_word s)).0 e))
found_by s t ts false e more = more refl

found : (s : Setting) (ts : List Setting) → IsAmong s ts → option_of ts (option_word s) ≡ Some s
found s [] h = absurd h
found s (t ∷ ts) (inl h) =
    found_by s t ts (bytes_eq (option_word t) (option_word s)) refl (λ no.
    let yes = (bytes_eq-Decides (option_word t) (option_word s)).1 (ap option_word h) in
    let bad : true ≡ false = sym yes ∙ no in absurd (cc))
found s (t ∷ ts) (inr h) =
    found_by s t ts (bytes_eq (option_word t) (option_word s)) refl (λ no. found s ts h)

-- the option that is found is one of these
among_by : (w : List ℕ) (s t : Setting) (ts : List Setting) (b : Bool)
    → cond b (Some t) (option_of ts w) ≡ Some s → (option_of ts w ≡ Some s → IsAmong s ts)
    → IsAmong s (t ∷ ts)
among_by w s t ts true e more = inl (cc)
among_by w s t ts false e more = inr (more e)

among : (w : List ℕ) (s : Setting) (ts : List Setting) → option_of ts w ≡ Some s → IsAmong s ts
among w s [] e = absurd (cc)
among w s (t ∷ ts) e = among_by w s t ts (bytes_eq (option_word t) w) e (among w s ts)

abbrev entry : Setting → List ℕ × Bool
entry s = (option_word s, is_valued s)

offers : (settings : List Setting) (s : Setting) → IsAmong s settings
    → Contains (offered settings) (entry s)
offers [] s h = absurd h
offers (t ∷ ts) s (inl here) = (0, omega arith, ap entry here)
offers (t ∷ ts) s (inr more) =
    Contains-append_right (entry t ∷ []) (offered ts) (entry s) (offers ts s more)

-- an option that the command has is offered by its word
pub has_offered : (settings : List Setting) (s : Setting) (b : Bool) → HasOption settings s b
    → Contains (offered settings) (option_word s, b)
has_offered settings s b h =
    subst (λ x. Contains (offered settings) (option_word s, x)) h.kind
    (offers settings s (among (option_word s) s settings h.there))

record IsFound (settings : List Setting) (word : List ℕ) (b : Bool) : Type 0 where
  pub setting : Setting
  pub word_is : option_word setting ≡ word
  pub kind : is_valued setting ≡ b
  pub among : IsAmong setting settings

only : (x y : List ℕ × Bool) → Contains (x ∷ []) y → x ≡ y
only x y h =
    let zero : h.0 ≡ 0 = omega (arith, h.1) in subst (λ k. get_or (x ∷ []) k y ≡ y) zero h.2

found_in : (settings : List Setting) (word : List ℕ) (b : Bool)
    → Contains (offered settings) (word, b) → IsFound settings word b
found_in [] word b has = absurd (omega (arith, has.1))
found_in (t ∷ ts) word b has =
    elim (Contains-append_cases (entry t ∷ []) (offered ts) (word, b) has) [
      | inl here ↦
          let same = only (entry t) (word, b) here in
          record {
            setting = t;
            word_is = ap (λ (p : List ℕ × Bool). p.0) same;
            kind = ap (λ (p : List ℕ × Bool). p.1) same;
            among = inl refl;
          }
      | inr more ↦
          let rest = found_in ts word b more in
          record {
            setting = rest.setting;
            word_is = rest.word_is;
            kind = rest.kind;
            among = inr rest.among;
          }
    ]

-- the option that a word is which is offered
pub record IsOption (settings : List Setting) (word : List ℕ) (b : Bool) : Type 0 where
  pub setting : Setting
  pub word_is : option_word setting ≡ word
  pub has : HasOption settings setting b

pub option_in : (settings : List Setting) (word : List ℕ) (b : Bool)
    → Contains (offered settings) (word, b) → IsOption settings word b
option_in settings word b has =
    let o = found_in settings word b has in
    record {
      setting = o.setting;
      word_is = o.word_is;
      has = record { there = found o.setting settings o.among; kind = o.kind };
    }

-- a word that is offered isn't plain, nor has it an equals sign
pub offered_plain : (settings : List Setting) (word : List ℕ) (b : Bool)
    → Contains (offered settings) (word, b) → (w : List ℕ) → w ≡ word → IsPlain w → ⊥
offered_plain settings word b has w e p =
    let o = option_in settings word b has in not_plain o.setting w (e ∙ sym o.word_is) p

pub offered_joined : (settings : List Setting) (word : List ℕ) (b : Bool)
    → Contains (offered settings) (word, b) → (v w : List ℕ) → w ≡ word ++ (61 ∷ v) → IsPlain w → ⊥
offered_joined settings word b has v w e p =
    let o = option_in settings word b has in
    not_plain_joined o.setting v w (e ∙ ap (λ x. x ++ (61 ∷ v)) (sym o.word_is)) p

pub offered_whole : (settings : List Setting) (word : List ℕ) (b : Bool)
    → Contains (offered settings) (word, b) → has_equals word ≡ false
offered_whole settings word b has =
    let o = option_in settings word b has in
    ap has_equals (sym o.word_is) ∙ no_equals o.setting

pub offered_apart : (settings : List Setting) (word : List ℕ) (b : Bool)
    → Contains (offered settings) (word, b) → (name v : List ℕ) → word ≡ name ++ (61 ∷ v) → ⊥
offered_apart settings word b has name v e =
    different word (name ++ (61 ∷ v)) (offered_whole settings word b has) (equals_inside name v) e

-- a word is offered with a value, or without one
pub other_kind : (settings : List Setting) (word : List ℕ) → Contains (offered settings) (word, true)
    → Contains (offered settings) (word, false) → ⊥
other_kind settings word h k =
    let o = option_in settings word true h in
    let p = option_in settings word false k in
    let same = same_setting o.setting p.setting (o.word_is ∙ sym p.word_is) in
    let bad : true ≡ false = sym o.has.kind ∙ ap is_valued same ∙ p.has.kind in absurd (cc)
