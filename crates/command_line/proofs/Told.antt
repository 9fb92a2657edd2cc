-- What `clap` makes of the arguments that it is told of.
use Rattle.std.proofs.Common.{◌≡◌, Bool, true, false, ◌||◌, ◌&&◌, List, Some, cond, bytes_eq, [], ◌∷◌, ◌++◌, map, not, is_some, ℕ, ◌+◌, if◌then◌else◌, arith, refl, sym, ap, ◌∙◌, codes}
use Rattle.std.specs.List.{list_any, list_all, fold, count_by}
use Rattle.std.specs.Prelude.{find, option_map}
use Rattle.std.proofs.lemmas.List.{map-append}
use Rattle.clap.specs.declared.builder.value_parser.ValueParser.TheVariants as vp
use Rattle.clap.specs.Walk.{Rule, Row, arg_by_id, arg_by_long, has_long, has_row, with_default, is_early_multiple}
use Rattle.clap.specs.Simple.{Shape, App, built, filled_from, is_simple, is_ready, is_ready_leaf, is_in_order, new_shape, with_rule}
use Rattle.clap.specs.Kinds.{or_else}
use Rattle.clap.specs.Takes.{is_given}
use Rattle.clap.specs.Faults.{is_simple_and_free, is_free_app, defaults_fault, default_fault, given_default_fault, check_fault}
use Rattle.command_line.specs.declared.table.Setting.{Setting}
use Rattle.command_line.specs.Table.{is_valued, name_of, option_word}
use Rattle.command_line.specs.Reading.{rule_for, rule_by, operand_rule, app_for}
use Rattle.command_line.proofs.Words.{HasOption, dashed, no_operand, option_of}

-- the arguments as they are built
abbrev pub option_rule : Bool → List ℕ → Rule
option_rule valued name = record (rule_by valued name) {
  range = Some (cond valued (record { start_inclusive = 1; end_inclusive = 1 })
      (record { start_inclusive = 0; end_inclusive = 0 }));
  parser = Some vp.String;
}

abbrev pub rule : Setting → Rule
rule s = option_rule (is_valued s) (name_of s)

abbrev pub operands : Rule
operands = record operand_rule {
  index = Some 1;
  range = Some (record { start_inclusive = 1; end_inclusive = 1 });
  parser = Some vp.String;
}

abbrev pub rules : List Setting → List Rule
rules settings = operands ∷ map rule settings

abbrev pub shape : List Setting → Shape
shape settings = record (new_shape (codes "shasta")) {
  no_binary_name = true;
  disable_help_flag = true;
  disable_version_flag = true;
  disable_help_subcommand = true;
  is_built = true;
  rules = rules settings;
}

filled_by : (valued : Bool) (name : List ℕ) (settings : List Setting) →
    filled_from 2 (map rule_for settings) ≡ map rule settings →
    filled_from 2 (rule_by valued name ∷ map rule_for settings)
    ≡ option_rule valued name ∷ map rule settings
filled_by true name settings e = ap (λ xs. option_rule true name ∷ xs) e
filled_by false name settings e = ap (λ xs. option_rule false name ∷ xs) e

filled_rules : (settings : List Setting) → filled_from 2 (map rule_for settings) ≡ map rule settings
filled_rules [] = refl
filled_rules (s ∷ settings) = filled_by (is_valued s) (name_of s) settings (filled_rules settings)

abbrev app_of_rules : List Rule → App
app_of_rules rs = record { top = record (shape []) { rules = rs }; subs = [] }

pub built_is : (settings : List Setting) → built (app_for settings)
    ≡ record { top = shape settings; subs = [] }
built_is settings = ap (λ rs. app_of_rules (operands ∷ rs)) (filled_rules settings)

-- the command is simple, and no argument has a rule on another
each : (p : Rule → Bool) → ((valued : Bool) (name : List ℕ) → p (option_rule valued name) ≡ true) →
    (settings : List Setting) → list_all p (map rule settings) ≡ true
each p h [] = refl
each p h (s ∷ settings) = rw (h (is_valued s) (name_of s)) (each p h settings)

none_of : (p : Rule → Bool) → ((valued : Bool) (name : List ℕ) → p (option_rule valued name) ≡ false) →
    (settings : List Setting) → list_any p (map rule settings) ≡ false
none_of p h [] = refl
none_of p h (s ∷ settings) = rw (h (is_valued s) (name_of s)) (none_of p h settings)

raw_by : (b : Bool) (name : List ℕ) (rs : List Rule) → list_all (λ (a : Rule). a.is_simple) rs ≡ true →
    list_all (λ (a : Rule). a.is_simple) (rule_by b name ∷ rs) ≡ true
raw_by true name rs e = e
raw_by false name rs e = e

raw_each : (settings : List Setting) → list_all (λ (a : Rule). a.is_simple) (map rule_for settings) ≡ true
raw_each [] = refl
raw_each (s ∷ settings) = raw_by (is_valued s) (name_of s) (map rule_for settings) (raw_each settings)

-- ---- which argument a name is of

or_no : (b : Bool) → (b || false) ≡ b
or_no true = refl
or_no false = refl

abbrev is_long : List ℕ → Rule → Bool
is_long name a = not (is_some a.index) && has_long a name

long_by : (b : Bool) (n name : List ℕ) → is_long name (option_rule b n) ≡ bytes_eq n name
long_by true n name = or_no (bytes_eq n name)
long_by false n name = or_no (bytes_eq n name)

same_dashed : (s : Setting) (name : List ℕ) →
    bytes_eq (option_word s) (45 ∷ 45 ∷ name) ≡ bytes_eq (name_of s) name
same_dashed s name = ap (λ w. bytes_eq w (45 ∷ 45 ∷ name)) (dashed s)

find_long : (settings : List Setting) (name : List ℕ) →
    find (is_long name) (map rule settings) ≡ option_map rule (option_of settings (45 ∷ 45 ∷ name))
find_long [] name = refl
find_long (s ∷ settings) name =
    rw (long_by (is_valued s) (name_of s) name, same_dashed s name)
    (go (bytes_eq (name_of s) name) (find_long settings name))
  where
    go : (b : Bool) →
        find (is_long name) (map rule settings)
        ≡ option_map rule (option_of settings (45 ∷ 45 ∷ name)) →
        cond b (Some (rule s)) (find (is_long name) (map rule settings))
        ≡ option_map rule (cond b (Some s) (option_of settings (45 ∷ 45 ∷ name)))
    go true e = refl
    go false e = e

pub long_rule : (settings : List Setting) (name : List ℕ) →
    arg_by_long (rules settings) name ≡ option_map rule (option_of settings (45 ∷ 45 ∷ name))
long_rule settings name = find_long settings name

abbrev has_id : List ℕ → Rule → Bool
has_id id a = bytes_eq a.id id

id_by : (b : Bool) (n id : List ℕ) → has_id id (option_rule b n) ≡ bytes_eq n id
id_by true n id = refl
id_by false n id = refl

find_id : (settings : List Setting) (name : List ℕ) →
    find (has_id name) (map rule settings) ≡ option_map rule (option_of settings (45 ∷ 45 ∷ name))
find_id [] name = refl
find_id (s ∷ settings) name =
    rw (id_by (is_valued s) (name_of s) name, same_dashed s name)
    (go (bytes_eq (name_of s) name) (find_id settings name))
  where
    go : (b : Bool) →
        find (has_id name) (map rule settings)
        ≡ option_map rule (option_of settings (45 ∷ 45 ∷ name)) →
        cond b (Some (rule s)) (find (has_id name) (map rule settings))
        ≡ option_map rule (cond b (Some s) (option_of settings (45 ∷ 45 ∷ name)))
    go true e = refl
    go false e = e

rule_at : (s : Setting) (b : Bool) → is_valued s ≡ b →
    Some (rule s) ≡ Some (option_rule b (name_of s))
rule_at s b e = ap (λ v. Some (option_rule v (name_of s))) e

pub by_long : (settings : List Setting) (s : Setting) (b : Bool) → HasOption settings s b →
    arg_by_long (rules settings) (name_of s) ≡ Some (option_rule b (name_of s))
by_long settings s b h =
    long_rule settings (name_of s)
    ∙ ap (λ w. option_map rule (option_of settings w)) (sym (dashed s))
    ∙ ap (option_map rule) h.there ∙ rule_at s b h.kind

pub by_id : (settings : List Setting) (s : Setting) (b : Bool) → HasOption settings s b →
    arg_by_id (rules settings) (name_of s) ≡ Some (option_rule b (name_of s))
by_id settings s b h =
    rw (no_operand s) (find_id settings (name_of s)
    ∙ ap (λ w. option_map rule (option_of settings w)) (sym (dashed s))
    ∙ ap (option_map rule) h.there ∙ rule_at s b h.kind)

-- ---- the command is simple and has no rule on two arguments; and nothing is asked of the rows

and_true : (a b : Bool) → a ≡ true → b ≡ true → (a && b) ≡ true
and_true a b e f = rw (e, f) refl

simple_by : (b : Bool) (n : List ℕ) → (option_rule b n).is_simple ≡ true
simple_by true n = refl
simple_by false n = refl

free_by : (b : Bool) (n : List ℕ) → (option_rule b n).is_free ≡ true
free_by true n = refl
free_by false n = refl

unplaced_by : (b : Bool) (n : List ℕ) → is_some (option_rule b n).index ≡ false
unplaced_by true n = refl
unplaced_by false n = refl

early_by : (k : ℕ) (b : Bool) (n : List ℕ) → is_early_multiple k (option_rule b n) ≡ false
early_by k true n = refl
early_by k false n = refl

optional_by : (rows : List Row) (b : Bool) (n : List ℕ) →
    ((option_rule b n).required && not (is_given (option_rule b n).id rows)) ≡ false
optional_by rows true n = refl
optional_by rows false n = refl

abbrev has_place : Rule → Bool
has_place a = is_some a.index

no_place : (settings : List Setting) (n : ℕ) →
    fold (λ k a. k + (if has_place a then 1 else 0)) n (map rule settings) ≡ n
no_place [] n = refl
no_place (s ∷ settings) n =
    let more = no_place settings n in
    ap (λ b. fold (λ k a. k + (if has_place a then 1 else 0)) (n + (if b then 1 else 0))
    (map rule settings)) (unplaced_by (is_valued s) (name_of s))
    ∙ ap (λ m. fold (λ k a. k + (if has_place a then 1 else 0)) m (map rule settings))
    (omega arith) ∙ more

one_place : (settings : List Setting) → count_by has_place (rules settings) ≡ 1
one_place settings = no_place settings 1

in_order : (settings : List Setting) → is_in_order (rules settings) ≡ true
in_order settings =
    ap (λ n. not (list_any (is_early_multiple n) (rules settings))) (one_place settings)
    ∙ ap not (none_of (is_early_multiple 1) (early_by 1) settings)

ready : (settings : List Setting) → is_ready (shape settings) ≡ true
ready settings =
    and_true _ _ (each (λ (a : Rule). a.is_simple) simple_by settings) (in_order settings)

free : (settings : List Setting) →
    is_free_app (record { top = shape settings; subs = [] }) ≡ true
free settings = and_true _ _ (each (λ (a : Rule). a.is_free) free_by settings) refl

abbrev is_ready_app : App → Bool
is_ready_app a = is_ready a.top

pub is_simple_told : (settings : List Setting) → is_simple (app_for settings) ≡ true
is_simple_told settings =
    and_true _ _ (and_true _ _ (raw_each settings) refl)
    (and_true _ _ (ap is_ready_app (built_is settings) ∙ ready settings)
    (ap (λ a. list_all is_ready_leaf a.subs) (built_is settings)))

pub is_free_told : (settings : List Setting) → is_simple_and_free (app_for settings) ≡ true
is_free_told settings =
    and_true _ _ (is_simple_told settings) (ap is_free_app (built_is settings) ∙ free settings)

-- no argument has a default
no_default : (rows : List Row) (a : Rule) → a.defaults ≡ [] → with_default rows a ≡ rows
no_default rows a e = rw e (go (has_row a.id rows))
  where
    go : (b : Bool) → cond b rows rows ≡ rows
    go true = refl
    go false = refl

pub no_defaults : (rows : List Row) (settings : List Setting) → fold with_default rows (rules settings) ≡ rows
no_defaults rows settings =
    ap (λ r. fold with_default r (map rule settings)) (no_default rows operands refl) ∙ none settings
  where
    bare : (b : Bool) (n : List ℕ) → (option_rule b n).defaults ≡ []
    bare true n = refl
    bare false n = refl

    none : (xs : List Setting) → fold with_default rows (map rule xs) ≡ rows
    none [] = refl
    none (s ∷ xs) = ap (λ r. fold with_default r (map rule xs))
        (no_default rows (rule s) (bare (is_valued s) (name_of s))) ∙ none xs

-- at the end nothing is refused for what the arguments have not
no_default_fault : (rows : List Row) (a : Rule) → a.defaults ≡ [] → default_fault rows a ≡ []
no_default_fault rows a e = rw e (go (has_row a.id rows))
  where
    go : (b : Bool) → (if (b || true) then [] else given_default_fault a []) ≡ []
    go true = refl
    go false = refl

bare_by : (b : Bool) (n : List ℕ) → (option_rule b n).defaults ≡ []
bare_by true n = refl
bare_by false n = refl

option_defaults : (rows : List Row) (settings : List Setting) →
    defaults_fault rows (map rule settings) ≡ []
unfolding defaults_fault
option_defaults rows [] = refl
option_defaults rows (s ∷ settings) =
    let bare = bare_by (is_valued s) (name_of s) in
    ap (λ k. or_else k (defaults_fault (with_default rows (rule s)) (map rule settings)))
    (no_default_fault rows (rule s) bare)
    ∙ ap (λ r. defaults_fault r (map rule settings)) (no_default rows (rule s) bare)
    ∙ option_defaults rows settings

defaults : (rows : List Row) (settings : List Setting) → defaults_fault rows (rules settings) ≡ []
unfolding defaults_fault
defaults rows settings =
    ap (λ k. or_else k (defaults_fault (with_default rows operands) (map rule settings)))
    (no_default_fault rows operands refl)
    ∙ ap (λ r. defaults_fault r (map rule settings)) (no_default rows operands refl)
    ∙ option_defaults rows settings

checks : (rows : List Row) (settings : List Setting) → check_fault (shape settings) rows false ≡ []
checks rows settings =
    rw (none_of (λ (a : Rule). a.required && not (is_given a.id rows)) (optional_by rows) settings) refl

pub ends : (before below rows : List Row) (settings : List Setting) →
    or_else (defaults_fault before (rules settings)) (check_fault (shape settings) rows false) ≡ []
ends before below rows settings =
    ap (λ k. or_else k (check_fault (shape settings) rows false)) (defaults before settings)
    ∙ checks rows settings

-- one more option
pub one_more : (xs : List Setting) (s : Setting) →
    with_rule (app_for xs) (rule_for s) ≡ app_for (xs ++ s ∷ [])
one_more xs s = ap (λ rs. record { top = record (app_for []).top { rules = operand_rule ∷ rs }; subs = [] })
    (sym (map-append rule_for xs (s ∷ [])))
