-- What `clap` gives of words that are arguments.
use Rattle.std.proofs.Common.{◌≡◌, ℕ, Bool, true, false, List, bytes_eq, [], ◌∷◌, ◌++◌, if◌then◌else◌, refl, sym, ap, ◌∙◌, codes, append_assoc, append-nil, inl, inr, subst}
use Rattle.std.specs.List.{fold, flat_map}
use Rattle.std.specs.Prelude.{All, Contains, unwrap_or}
use Rattle.std.proofs.lemmas.List.Elements.{All-head, All-tail}
use Rattle.std.proofs.lemmas.Slice.Eq.{bytes_eq-Decides}
use Rattle.clap.specs.Kinds.{Kinds, or_else}
use Rattle.clap.specs.Walk.{Row, Walk, nothing_held, settled, walked, with_values, all_of, rows_of, rows_after}
use Rattle.clap.specs.Matches.{found_of}
use Rattle.clap.specs.Simple.{App, names_of, matches_of}
use Rattle.clap.specs.declared.parser.matches.ArgMatches.{ArgMatches}
use Rattle.clap.specs.declared.builder.value_parser.Reading.TheVariants.{AsWritten}
use Rattle.clap.specs.declared.parser.matches.ValueSource.TheVariants.{CommandLine}
use Rattle.clap.specs.Faults.{fault_of, built_fault}
use Rattle.clap.proofs.FaultLemmas.{leaf_fault}
use Rattle.command_line.specs.declared.table.Setting.{Setting}
use Rattle.command_line.specs.declared.table.Role.{Role}
use Rattle.command_line.specs.declared.table.Role.TheVariants as role
use Rattle.command_line.specs.Table.{name_of, offered, option_word}
use Rattle.command_line.specs.Asks.{Argument, Operand, Apart, Joined, Bare, operand_in, value_in, words_of}
use Rattle.command_line.specs.Reading.{id_of, words_for, app_for, IsCut, IsLong, Reads, AreReadable}
use Rattle.command_line.proofs.Words.{dashed, is_long_alone, is_long_joined, no_operand, no_option, option_in}
use Rattle.command_line.proofs.Told.{rules, shape, built_is, no_defaults, ends}
use Rattle.command_line.proofs.Walking.{Cut, Is, at, give, give_all, or_nil, reads_all, takes_all, total, waits}

-- what rows give a name
abbrev pub given : List ℕ → List Row → List (List ℕ)
given id rows = unwrap_or (all_of id rows) []

same : (x y : List ℕ) → bytes_eq x y ≡ true → x ≡ y
same x y e = (bytes_eq-Decides x y).0 e

-- values that are added are given to their name alone
pub given_more : (id name : List ℕ) (vs : List (List ℕ)) (rows : List Row) →
    given id (with_values name AsWritten CommandLine vs rows)
    ≡ given id rows ++ (if bytes_eq name id then vs else [])
given_more id name vs [] = go (bytes_eq name id) refl
  where
    go : (b : Bool) → bytes_eq name id ≡ b →
        given id (with_values name AsWritten CommandLine vs []) ≡ [] ++ (if b then vs else [])
    go true e = rw e refl
    go false e = rw e refl
given_more id name vs (r ∷ rs) =
    go (bytes_eq r.id name) refl (bytes_eq r.id id) refl (bytes_eq name id) refl (given_more id name vs rs)
  where
    go : (b : Bool) → bytes_eq r.id name ≡ b → (d : Bool) → bytes_eq r.id id ≡ d →
        (t : Bool) → bytes_eq name id ≡ t →
        given id (with_values name AsWritten CommandLine vs rs)
        ≡ given id rs ++ (if bytes_eq name id then vs else []) →
        given id (with_values name AsWritten CommandLine vs (r ∷ rs))
        ≡ given id (r ∷ rs) ++ (if bytes_eq name id then vs else [])
    go true e true f true g more = rw (e, f, g) refl
    go true e true f false g more =
        let bad : true ≡ false = sym f ∙ ap (λ x. bytes_eq x id) (same r.id name e) ∙ g in absurd (cc)
    go true e false f true g more =
        let bad : true ≡ false = sym g ∙ ap (λ x. bytes_eq x id) (sym (same r.id name e)) ∙ f in absurd (cc)
    go true e false f false g more = rw (e, f, g) (sym (append-nil (given id rs)))
    go false e true f true g more =
        let bad : true ≡ false = sym ((bytes_eq-Decides r.id name).1 (same r.id id f ∙ sym (same name id g))) ∙ e in
        absurd (cc)
    go false e true f false g more = rw (e, f, g) (sym (append-nil r.values))
    go false e false f t g more = rw (e, f) more

-- ---- what an argument gives a role

same_names : (s t : Setting)
    → bytes_eq (name_of s) (name_of t) ≡ bytes_eq (option_word s) (option_word t)
same_names s t = sym (ap (λ w. bytes_eq w (option_word t)) (dashed s)
    ∙ ap (bytes_eq (45 ∷ 45 ∷ name_of s)) (dashed t))

abbrev pub word_for : Role → Argument → List (List ℕ)
word_for role.Operand a = operand_in a
word_for (role.Option s) a = value_in (option_word s) a

-- values of an option are given to its name alone
abbrev value_for : Role → (option : List ℕ) → List (List ℕ) → List (List ℕ)
value_for role.Operand option vs = []
value_for (role.Option t) option vs = if bytes_eq option (option_word t) then vs else []

gives_value : (s : Setting) (vs : List (List ℕ)) (r : Role) (rows : List Row)
    → given (id_of r) (with_values (name_of s) AsWritten CommandLine vs rows)
    ≡ given (id_of r) rows ++ value_for r (option_word s) vs
gives_value s vs role.Operand rows =
    given_more (codes "operand") (name_of s) vs rows
    ∙ ap (λ b. given (codes "operand") rows ++ (if b then vs else [])) (no_option s)
gives_value s vs (role.Option t) rows =
    given_more (name_of t) (name_of s) vs rows
    ∙ ap (λ b. given (name_of t) rows ++ (if b then vs else [])) (same_names s t)

module _ (settings : List Setting) where
  abbrev Gives : Argument → Role → List Row → Type 0
  Gives a r rows = given (id_of r) (give settings a rows) ≡ given (id_of r) rows ++ word_for r a

  gives_operand : (word : List ℕ) (r : Role) (rows : List Row) → Gives (Operand word) r rows
  gives_operand word role.Operand rows =
      given_more (codes "operand") (codes "operand") (word ∷ []) rows
  gives_operand word (role.Option t) rows =
      given_more (name_of t) (codes "operand") (word ∷ []) rows
      ∙ ap (λ b. given (name_of t) rows ++ (if b then word ∷ [] else [])) (no_operand t)

  for_apart : (r : Role) (option v : List ℕ)
      → value_for r option (v ∷ []) ≡ word_for r (Apart option v)
  for_apart role.Operand option v = refl
  for_apart (role.Option t) option v = refl

  for_joined : (r : Role) (option v : List ℕ)
      → value_for r option (v ∷ []) ≡ word_for r (Joined option v)
  for_joined role.Operand option v = refl
  for_joined (role.Option t) option v = refl

  for_bare : (r : Role) (option : List ℕ) → value_for r option ([] ∷ []) ≡ word_for r (Bare option)
  for_bare role.Operand option = refl
  for_bare (role.Option t) option = refl

  gives_one : (a : Argument) (r : Role) (rows : List Row) → Is settings a → Gives a r rows
  gives_one (Operand word) r rows k = gives_operand word r rows
  gives_one (Apart option v) r rows k =
      let o = option_in settings option true k.0 in
      subst (λ w. Gives (Apart w v) r rows) o.word_is (gives_value o.setting (v ∷ []) r rows
      ∙ ap (λ ws. given (id_of r) rows ++ ws) (for_apart r (option_word o.setting) v))
  gives_one (Joined option v) r rows k =
      let o = option_in settings option true k in
      subst (λ w. Gives (Joined w v) r rows) o.word_is (gives_value o.setting (v ∷ []) r rows
      ∙ ap (λ ws. given (id_of r) rows ++ ws) (for_joined r (option_word o.setting) v))
  gives_one (Bare option) r rows k =
      let o = option_in settings option false k in
      subst (λ w. Gives (Bare w) r rows) o.word_is (gives_value o.setting ([] ∷ []) r rows
      ∙ ap (λ ws. given (id_of r) rows ++ ws) (for_bare r (option_word o.setting)))

  words_more : (a : Argument) (more : List Argument) (r : Role) →
      words_for r (a ∷ more) ≡ word_for r a ++ words_for r more
  words_more a more role.Operand = refl
  words_more a more (role.Option t) = refl

  none_for : (r : Role) → words_for r [] ≡ []
  none_for role.Operand = refl
  none_for (role.Option t) = refl

  pub gives_all : (arguments : List Argument) (r : Role) (rows : List Row)
      → All (Is settings) arguments → given (id_of r) (give_all settings arguments rows)
      ≡ given (id_of r) rows ++ words_for r arguments
  gives_all [] r rows k =
      sym (ap (λ ws. given (id_of r) rows ++ ws) (none_for r) ∙ append-nil (given (id_of r) rows))
  gives_all (a ∷ more) r rows k =
      gives_all more r (give settings a rows) (All-tail (Is settings) a more k)
      ∙ ap (λ ws. ws ++ words_for r more) (gives_one a r rows (All-head (Is settings) a more k))
      ∙ append_assoc (given (id_of r) rows) (word_for r a) (words_for r more)
      ∙ ap (λ ws. given (id_of r) rows ++ ws) (sym (words_more a more r))

  -- ---- the parse

  abbrev start : Walk
  start = at nothing_held (waits false)

  whole_fault : (a b d : Kinds) → d ≡ [] → or_else a (or_else [] (or_else b d)) ≡ or_else a b
  whole_fault a b d e = ap (λ x. or_else a (or_else b x)) e ∙ ap (or_else a) (or_nil b)

  pub fault_is : (words : List (List ℕ)) →
      fault_of (app_for settings) words ≡ total settings start words
  fault_is words =
      ap (λ a. built_fault a nothing_held words) (built_is settings)
      ∙ leaf_fault (record { top = shape settings; subs = [] }) nothing_held words refl
      ∙ whole_fault _ _ _ (ends _ [] _ settings)

  pub matches_are : (words : List (List ℕ)) → matches_of (app_for settings) words
      ≡ (settled (rules settings) (fold (walked (rules settings) []) start words).held).rows
  matches_are words =
      ap (λ a. rows_at_end a words) (built_is settings)
      ∙ no_defaults (settled (rules settings) (fold (walked (rules settings) []) start words).held).rows settings
    where
      rows_at_end : App → List (List ℕ) → List Row
      rows_at_end a ws = rows_after a.top.rules (names_of a) ws

  -- words that are arguments are readable
  option_long : (option : List ℕ) (b : Bool) → Contains (offered settings) (option, b)
      → IsLong option
  option_long option b has =
      let o = option_in settings option b has in subst IsLong o.word_is (is_long_alone o.setting)

  joined_long : (option v : List ℕ) → Contains (offered settings) (option, true)
      → IsLong (option ++ (61 ∷ v))
  joined_long option v has =
      let o = option_in settings option true has in
      subst (λ w. IsLong (w ++ (61 ∷ v))) o.word_is (is_long_joined o.setting v)

  readable_one : (a : Argument) (rest : List (List ℕ)) → Is settings a → AreReadable rest
      → AreReadable (words_of a ++ rest)
  readable_one (Operand word) rest k r = (inl k, r)
  readable_one (Apart option v) rest k r = (inr (option_long option true k.0), (inl k.1, r))
  readable_one (Joined option v) rest k r = (inr (joined_long option v k), r)
  readable_one (Bare option) rest k r = (inr (option_long option false k), r)

  readable : (arguments : List Argument) → All (Is settings) arguments →
      AreReadable (flat_map words_of arguments)
  readable [] k = tt
  readable (a ∷ more) k =
      readable_one a (flat_map words_of more) (All-head (Is settings) a more k)
      (readable more (All-tail (Is settings) a more k))

  pub cut_readable : (words : List (List ℕ)) (arguments : List Argument) →
      IsCut settings words arguments → AreReadable words
  cut_readable words arguments k =
      subst AreReadable (sym k.words_are) (readable arguments k.are_arguments)

  taken : (words : List (List ℕ)) (arguments : List Argument) → IsCut settings words arguments →
      (total settings start words ≡ [])
      × ((settled (rules settings) (fold (walked (rules settings) []) start words).held).rows
      ≡ give_all settings arguments [])
  taken words arguments k =
      subst (λ ws. (total settings start ws ≡ [])
      × ((settled (rules settings) (fold (walked (rules settings) []) start ws).held).rows
      ≡ give_all settings arguments [])) (sym k.words_are)
      (takes_all settings arguments nothing_held false k.are_arguments refl)

  pub no_fault : (words : List (List ℕ)) (arguments : List Argument) →
      IsCut settings words arguments → fault_of (app_for settings) words ≡ []
  no_fault words arguments k = fault_is words ∙ (taken words arguments k).0

  pub reads_ok : (words : List (List ℕ)) (m : ArgMatches) → AreReadable words →
      fault_of (app_for settings) words ≡ [] →
      rows_of (found_of m) ≡ matches_of (app_for settings) words → Reads settings words m
  reads_ok words m r e f =
      let cut : Cut settings words = reads_all settings words r nothing_held false (sym (fault_is words) ∙ e) in
      record {
        arguments = cut.0;
        is_cut = cut.1;
        gives = λ x. ap (given (id_of x)) (f ∙ matches_are words ∙ (taken words cut.0 cut.1).1)
            ∙ gives_all cut.0 x [] cut.1.are_arguments;
      }
