-- What `clap` makes of words that are arguments, and of others.
use Rattle.std.proofs.Common.{◌≡◌, inl, inr, ℕ, Bool, true, false, ◌==◌, ◌&&◌, List, Option, Some, None, cond, bytes_eq, [], ◌∷◌, ◌++◌, eqb-true, refl, sym, ap, ◌∙◌, subst, arith, codes}
use Rattle.std.specs.List.{fold, flat_map, before_first, after_first}
use Rattle.std.specs.Prelude.{All, drop, option_map}
use Rattle.std.proofs.lemmas.List.Elements.{All-nil, All-cons, All-head, All-tail}
use Rattle.std.proofs.lemmas.Slice.Eq.{bytes_eq-Decides}
use Rattle.clap.specs.Lexer.{long_of, short_of}
use Rattle.clap.specs.Kinds.{Kinds, or_else}
use Rattle.clap.specs.Walk.{Rule, Row, Held, Walk, Waiting, idle, option, positional, arg_by_id, arg_by_long, settled, reacted, pushed, walked, is_pending, with_values}
use Rattle.clap.specs.declared.builder.value_parser.Reading.TheVariants.{AsWritten}
use Rattle.clap.specs.declared.parser.matches.ValueSource.TheVariants.{CommandLine}
use Rattle.clap.specs.declared.error.kind.ErrorKind.{ErrorKind}
use Rattle.clap.specs.declared.error.kind.ErrorKind.TheVariants.{UnknownArgument, TooManyValues, InvalidValue}
use Rattle.clap.specs.Faults.{walk_fault, turn_fault, settle_fault}
use Rattle.command_line.specs.declared.table.Setting.{Setting}
use Rattle.command_line.specs.Table.{is_valued, name_of, offered, option_word}
use Rattle.command_line.specs.Asks.{Argument, Operand, Apart, Joined, Bare, IsArgument, IsPlain, words_of}
use Rattle.command_line.specs.Reading.{IsCut, IsLong, IsReadable, AreReadable}
use Rattle.command_line.proofs.Words.{HasOption, Long, long_alone, long_joined, word_found, has_equals, cut_at, uncut, has_offered, has_option, option_in, option_of}
use Rattle.command_line.proofs.Told.{rules, rule, option_rule, operands, shape, by_long, by_id, long_rule}

and_false : (b : Bool) → (b && false) ≡ false
and_false true = refl
and_false false = refl

pub or_nil : (a : Kinds) → or_else a [] ≡ a
or_nil [] = refl
or_nil (k ∷ ks) = refl

or_both : (a b : Kinds) → or_else (or_else a []) [] ≡ a
or_both [] b = refl
or_both (k ∷ ks) b = refl

or_assoc : (a b d : Kinds) → or_else (or_else a b) d ≡ or_else a (or_else b d)
or_assoc [] b d = refl
or_assoc (k ∷ ks) b d = refl

or_none : (a b : Kinds) → or_else a b ≡ [] → b ≡ []
or_none [] b e = e
or_none (k ∷ ks) b e = absurd (cc)

-- ---- words

-- a plain word is no option
pub record Plain (word : List ℕ) : Type 0 where
  pub dashes : bytes_eq word (45 ∷ 45 ∷ []) ≡ false
  pub long : long_of word ≡ None
  pub short : short_of word ≡ None

pub plain : (word : List ℕ) → IsPlain word → Plain word
plain [] h = absurd (omega (arith, h.some))
plain (x ∷ xs) h = go (x == 45) refl
  where
    go : (b : Bool) → (x == 45) ≡ b → Plain (x ∷ xs)
    go true e = absurd (h.no_dash (eqb-true x 45 e))
    go false e = record { dashes = rw e refl; long = rw e refl; short = rw e refl }

pub long_word : (x : ℕ) (xs : List ℕ) → Long (45 ∷ 45 ∷ x ∷ xs)
    (before_first (λ d. d == 61) (x ∷ xs))
    (cond (has_equals (x ∷ xs)) (Some (after_first (λ d. d == 61) (x ∷ xs))) None)
long_word x xs = record { dashes = refl; long = refl }

pub split_long : (word : List ℕ) → IsLong word →
    (x : ℕ) × (xs : List ℕ) × (word ≡ 45 ∷ 45 ∷ x ∷ xs)
split_long [] h = absurd (omega (arith, h.more))
split_long (a ∷ []) h = absurd (omega (arith, h.more))
split_long (a ∷ b ∷ []) h = absurd (omega (arith, h.more))
split_long (a ∷ b ∷ x ∷ xs) h =
    (x, xs, ap (λ d. d ∷ b ∷ x ∷ xs) h.first ∙ ap (λ d. 45 ∷ d ∷ x ∷ xs) h.second)

-- ---- states between words

abbrev pub waits : Bool → Waiting
waits true = positional
waits false = idle

abbrev pub at : Held → Waiting → Walk
at h waiting = record {
  held = h;
  waiting = waiting;
  position = 1;
  is_trailing = false;
  stopped = None;
}

module _ (settings : List Setting) where
  abbrev c : List Rule
  c = rules settings

  -- a plain word, where no option waits for its value
  plain_turn : (word : List ℕ) (h : Held) (b : Bool) → Plain word →
      turn_fault (shape settings) [] (at h (waits b)) word ≡ settle_fault c false h
  plain_turn word h true p = rw (p.dashes, p.long, p.short, and_false (is_pending operands h.pending)) refl
  plain_turn word h false p = rw (p.dashes, p.long, p.short, and_false (is_pending operands h.pending)) refl

  plain_walked : (word : List ℕ) (h : Held) (b : Bool) → Plain word →
      walked c [] (at h (waits b)) word ≡ at (pushed (codes "operand") word (settled c h)) positional
  unfolding walked
  plain_walked word h true p = rw (p.dashes, p.long, p.short, and_false (is_pending operands h.pending)) refl
  plain_walked word h false p = rw (p.dashes, p.long, p.short, and_false (is_pending operands h.pending)) refl

  -- an option with its value in one word
  joined_turn : (word name v : List ℕ) (h : Held) (b : Bool) → Long word name (Some v) →
      arg_by_long c name ≡ Some (option_rule true name) →
      turn_fault (shape settings) [] (at h (waits b)) word ≡ settle_fault c false h
  joined_turn word name v h true p e = rw (p.dashes, p.long, e) (or_both (settle_fault c false h) [])
  joined_turn word name v h false p e = rw (p.dashes, p.long, e) (or_both (settle_fault c false h) [])

  joined_walked : (word name v : List ℕ) (h : Held) (b : Bool) → Long word name (Some v) →
      arg_by_long c name ≡ Some (option_rule true name) →
      walked c [] (at h (waits b)) word ≡ at (reacted c (option_rule true name) (v ∷ []) h) idle
  unfolding walked
  joined_walked word name v h true p e = rw (p.dashes, p.long, e) refl
  joined_walked word name v h false p e = rw (p.dashes, p.long, e) refl

  -- a flag
  bare_turn : (word name : List ℕ) (h : Held) (b : Bool) → Long word name None →
      arg_by_long c name ≡ Some (option_rule false name) →
      turn_fault (shape settings) [] (at h (waits b)) word ≡ settle_fault c false h
  bare_turn word name h true p e = rw (p.dashes, p.long, e) (or_both (settle_fault c false h) [])
  bare_turn word name h false p e = rw (p.dashes, p.long, e) (or_both (settle_fault c false h) [])

  bare_walked : (word name : List ℕ) (h : Held) (b : Bool) → Long word name None →
      arg_by_long c name ≡ Some (option_rule false name) →
      walked c [] (at h (waits b)) word ≡ at (reacted c (option_rule false name) [] h) idle
  unfolding walked
  bare_walked word name h true p e = rw (p.dashes, p.long, e) refl
  bare_walked word name h false p e = rw (p.dashes, p.long, e) refl

  -- an option that waits for its value
  abbrev waiting : List ℕ → Held → Held
  waiting name h = record (settled c h) { pending = Some (name, []) }

  apart_turn : (word name : List ℕ) (h : Held) (b : Bool) → Long word name None →
      arg_by_long c name ≡ Some (option_rule true name) →
      turn_fault (shape settings) [] (at h (waits b)) word ≡ settle_fault c false h
  apart_turn word name h true p e = rw (p.dashes, p.long, e) (or_nil (settle_fault c false h))
  apart_turn word name h false p e = rw (p.dashes, p.long, e) (or_nil (settle_fault c false h))

  apart_walked : (word name : List ℕ) (h : Held) (b : Bool) → Long word name None →
      arg_by_long c name ≡ Some (option_rule true name) →
      walked c [] (at h (waits b)) word ≡ at (waiting name h) (option name)
  unfolding walked
  apart_walked word name h true p e = rw (p.dashes, p.long, e) refl
  apart_walked word name h false p e = rw (p.dashes, p.long, e) refl

  -- its value
  abbrev valued : List ℕ → List ℕ → Held → Held
  valued name value h = record (settled c h) { pending = Some (name, value ∷ []) }

  value_turn : (word name : List ℕ) (h : Held) → Plain word →
      arg_by_id c name ≡ Some (option_rule true name) →
      turn_fault (shape settings) [] (at (waiting name h) (option name)) word ≡ []
  value_turn word name h p e = rw (p.dashes, p.long, p.short) refl

  value_walked : (word name : List ℕ) (h : Held) → Plain word →
      arg_by_id c name ≡ Some (option_rule true name) →
      walked c [] (at (waiting name h) (option name)) word ≡ at (valued name word h) idle
  unfolding walked
  value_walked word name h p e =
      rw (p.dashes, p.long, p.short, e, (bytes_eq-Decides name name).1 refl) refl

  -- an option without its value at the end
  no_value : (name : List ℕ) (h : Held) → arg_by_id c name ≡ Some (option_rule true name) →
      settle_fault c false (waiting name h) ≡ InvalidValue ∷ []
  no_value name h e = rw e refl

  -- what is given to an argument is settled
  settled_value : (name value : List ℕ) (h : Held) → arg_by_id c name ≡ Some (option_rule true name) →
      (settle_fault c false (valued name value h) ≡ []) × ((settled c (valued name value h)).rows
      ≡ with_values name AsWritten CommandLine (value ∷ []) (settled c h).rows)
  settled_value name value h e = (rw e refl, rw e refl)

  settled_operand : (value : List ℕ) (h : Held) →
      (settle_fault c false (pushed (codes "operand") value (settled c h)) ≡ [])
      × ((settled c (pushed (codes "operand") value (settled c h))).rows
      ≡ with_values (codes "operand") AsWritten CommandLine (value ∷ []) (settled c h).rows)
  settled_operand value h = (refl, refl)

  -- ---- words that are no arguments

  unknown_turn : (word name : List ℕ) (v : Option (List ℕ)) (h : Held) (b : Bool) →
      Long word name v → arg_by_long c name ≡ None →
      turn_fault (shape settings) [] (at h (waits b)) word ≡ UnknownArgument ∷ []
  unknown_turn word name v h true p e = rw (p.dashes, p.long, e) refl
  unknown_turn word name v h false p e = rw (p.dashes, p.long, e) refl

  given_turn : (word name v : List ℕ) (h : Held) (b : Bool) → Long word name (Some v) →
      arg_by_long c name ≡ Some (option_rule false name) →
      turn_fault (shape settings) [] (at h (waits b)) word ≡ TooManyValues ∷ []
  given_turn word name v h true p e = rw (p.dashes, p.long, e) refl
  given_turn word name v h false p e = rw (p.dashes, p.long, e) refl

  -- an option where a value is wanted
  wanting_turn : (word name id : List ℕ) (v : Option (List ℕ)) (h : Held) →
      Long word name v → arg_by_id c id ≡ Some (option_rule true id) →
      (k : ErrorKind) × (turn_fault (shape settings) [] (at (waiting id h) (option id)) word ≡ k ∷ [])
  wanting_turn word name id v h p e = go (option_of settings (45 ∷ 45 ∷ name)) refl v p
    where
      go : (o : Option Setting) → option_of settings (45 ∷ 45 ∷ name) ≡ o →
          (u : Option (List ℕ)) → Long word name u →
          (k : ErrorKind)
          × (turn_fault (shape settings) [] (at (waiting id h) (option id)) word ≡ k ∷ [])
      go None is u q =
          let none : arg_by_long c name ≡ None =
          long_rule settings name ∙ ap (option_map rule) is in
          (UnknownArgument, rw (q.dashes, q.long, none) refl)
      go (Some s) is u q = by (is_valued s) u q (long_rule settings name ∙ ap (option_map rule) is)
        where
          by : (b : Bool) (u : Option (List ℕ)) → Long word name u →
              arg_by_long c name ≡ Some (option_rule b (name_of s)) →
              (k : ErrorKind)
              × (turn_fault (shape settings) [] (at (waiting id h) (option id)) word ≡ k ∷ [])
          by true None q f = (InvalidValue, rw (q.dashes, q.long, f, e) refl)
          by true (Some x) q f = (InvalidValue, rw (q.dashes, q.long, f, e) refl)
          by false None q f = (InvalidValue, rw (q.dashes, q.long, f, e) refl)
          by false (Some x) q f = (TooManyValues, rw (q.dashes, q.long, f) refl)

  -- ---- the faults of words, with what is left to settle at their end

  abbrev pub total : Walk → List (List ℕ) → Kinds
  total w words = or_else (walk_fault (shape settings) [] w words)
      (settle_fault c false (fold (walked c []) w words).held)

  step : (w next : Walk) (word : List ℕ) (rest : List (List ℕ)) (f : Kinds) →
      turn_fault (shape settings) [] w word ≡ f → walked c [] w word ≡ next →
      total w (word ∷ rest) ≡ or_else f (total next rest)
  unfolding walk_fault
  step w next word rest f e k =
      ap (λ x. or_else (or_else x (walk_fault (shape settings) [] (walked c [] w word) rest))
      (settle_fault c false (fold (walked c []) (walked c [] w word) rest).held)) e
      ∙ ap (λ x. or_else (or_else f (walk_fault (shape settings) [] x rest))
      (settle_fault c false (fold (walked c []) x rest).held)) k
      ∙ or_assoc f (walk_fault (shape settings) [] next rest) _

  walks : (w next : Walk) (word : List ℕ) (rest : List (List ℕ)) → walked c [] w word ≡ next →
      fold (walked c []) w (word ∷ rest) ≡ fold (walked c []) next rest
  walks w next word rest k = ap (λ x. fold (walked c []) x rest) k

  -- ---- an argument

  -- the rows with what the argument gives
  abbrev pub give : Argument → List Row → List Row
  give (Operand word) rows = with_values (codes "operand") AsWritten CommandLine (word ∷ []) rows
  give (Apart word value) rows = with_values (drop 2 word) AsWritten CommandLine (value ∷ []) rows
  give (Joined word value) rows = with_values (drop 2 word) AsWritten CommandLine (value ∷ []) rows
  give (Bare word) rows = with_values (drop 2 word) AsWritten CommandLine ([] ∷ []) rows

  -- what the words of an argument come to
  pub record Consumes (a : Argument) (h : Held) (b : Bool) : Type 0 where
    pub next : Held
    pub waiting_next : Bool
    pub faults : (rest : List (List ℕ)) → total (at h (waits b)) (words_of a ++ rest)
        ≡ or_else (settle_fault c false h) (total (at next (waits waiting_next)) rest)
    pub walk : (rest : List (List ℕ)) → fold (walked c []) (at h (waits b)) (words_of a ++ rest)
        ≡ fold (walked c []) (at next (waits waiting_next)) rest
    pub passes : settle_fault c false next ≡ []
    pub rows : (settled c next).rows ≡ give a (settled c h).rows

  consumes_operand : (word : List ℕ) (h : Held) (b : Bool) → IsPlain word
      → Consumes (Operand word) h b
  consumes_operand word h b k =
      let p = plain word k in
      record {
        next = pushed (codes "operand") word (settled c h);
        waiting_next = true;
        faults = λ rest. step _ _ word rest _ (plain_turn word h b p) (plain_walked word h b p);
        walk = λ rest. walks _ _ word rest (plain_walked word h b p);
        passes = (settled_operand word h).0;
        rows = (settled_operand word h).1;
      }

  consumes_apart : (s : Setting) (value : List ℕ) (h : Held) (b : Bool) → HasOption settings s true
      → IsPlain value → Consumes (Apart (option_word s) value) h b
  consumes_apart s value h b has k =
      let p = plain value k in
      let e = by_id settings s true has in
      let l = by_long settings s true has in
      let w = long_alone s in
      record {
        next = valued (name_of s) value h;
        waiting_next = false;
        faults = λ rest. step _ _ (option_word s) (value ∷ rest) _
            (apart_turn (option_word s) (name_of s) h b w l)
            (apart_walked (option_word s) (name_of s) h b w l)
            ∙ ap (or_else (settle_fault c false h))
            (step _ _ value rest _ (value_turn value (name_of s) h p e)
            (value_walked value (name_of s) h p e));
        walk = λ rest. walks _ _ (option_word s) (value ∷ rest)
            (apart_walked (option_word s) (name_of s) h b w l)
            ∙ walks _ _ value rest (value_walked value (name_of s) h p e);
        passes = (settled_value (name_of s) value h e).0;
        rows = (settled_value (name_of s) value h e).1;
      }

  consumes_joined : (s : Setting) (value : List ℕ) (h : Held) (b : Bool)
      → HasOption settings s true → Consumes (Joined (option_word s) value) h b
  consumes_joined s value h b has =
      let l = by_long settings s true has in
      let w = long_joined s value in
      let word = option_word s ++ (61 ∷ value) in
      record {
        next = reacted c (option_rule true (name_of s)) (value ∷ []) h;
        waiting_next = false;
        faults = λ rest. step _ _ word rest _ (joined_turn word (name_of s) value h b w l)
            (joined_walked word (name_of s) value h b w l);
        walk = λ rest. walks _ _ word rest (joined_walked word (name_of s) value h b w l);
        passes = refl;
        rows = refl;
      }

  consumes_bare : (s : Setting) (h : Held) (b : Bool) → HasOption settings s false
      → Consumes (Bare (option_word s)) h b
  consumes_bare s h b has =
      let l = by_long settings s false has in
      let w = long_alone s in
      record {
        next = reacted c (option_rule false (name_of s)) [] h;
        waiting_next = false;
        faults = λ rest. step _ _ (option_word s) rest _ (bare_turn (option_word s) (name_of s) h b w l)
            (bare_walked (option_word s) (name_of s) h b w l);
        walk = λ rest. walks _ _ (option_word s) rest (bare_walked (option_word s) (name_of s) h b w l);
        passes = refl;
        rows = refl;
      }

  abbrev pub Is : Argument → Type 0
  Is = IsArgument (offered settings)

  pub consumes : (a : Argument) (h : Held) (b : Bool) → Is a → Consumes a h b
  consumes (Operand word) h b k = consumes_operand word h b k
  consumes (Apart word value) h b k =
      let o = option_in settings word true k.0 in
      subst (λ w. Consumes (Apart w value) h b) o.word_is
      (consumes_apart o.setting value h b o.has k.1)
  consumes (Joined word value) h b k =
      let o = option_in settings word true k in
      subst (λ w. Consumes (Joined w value) h b) o.word_is
      (consumes_joined o.setting value h b o.has)
  consumes (Bare word) h b k =
      let o = option_in settings word false k in
      subst (λ w. Consumes (Bare w) h b) o.word_is (consumes_bare o.setting h b o.has)

  abbrev pub give_all : List Argument → List Row → List Row
  give_all [] rows = rows
  give_all (a ∷ more) rows = give_all more (give a rows)

  at_end : (w : Walk) → total w [] ≡ settle_fault c false w.held
  unfolding walk_fault
  at_end w = refl

  -- words that are arguments have no fault, and give what the arguments give
  pub takes_all : (arguments : List Argument) (h : Held) (b : Bool) →
      All Is arguments → settle_fault c false h ≡ [] →
      (total (at h (waits b)) (flat_map words_of arguments) ≡ [])
      × ((settled c (fold (walked c []) (at h (waits b)) (flat_map words_of arguments)).held).rows
      ≡ give_all arguments (settled c h).rows)
  takes_all [] h b k e = (at_end (at h (waits b)) ∙ e, refl)
  takes_all (a ∷ more) h b k e =
      let s = consumes a h b (All-head Is a more k) in
      let m = takes_all more s.next s.waiting_next (All-tail Is a more k) s.passes in (
        s.faults (flat_map words_of more)
            ∙ ap (λ f. or_else f (total (at s.next (waits s.waiting_next)) (flat_map words_of more))) e
            ∙ m.0,
        ap (λ (w : Walk). (settled c w.held).rows) (s.walk (flat_map words_of more))
            ∙ m.1 ∙ ap (give_all more) s.rows,
      )

  -- ---- words without a fault are arguments

  refuses : (w : Walk) (word : List ℕ) (rest : List (List ℕ)) (k : ErrorKind) →
      turn_fault (shape settings) [] w word ≡ k ∷ [] → total w (word ∷ rest) ≡ [] → ⊥
  refuses w word rest k e f =
      let bad : k ∷ [] ≡ [] = sym (step w _ word rest (k ∷ []) e refl) ∙ f in absurd (cc)

  abbrev pub Cut : List (List ℕ) → Type 0
  Cut words = (arguments : List Argument) × IsCut settings words arguments

  abbrev Reading : List (List ℕ) → Type 0
  Reading words = (h : Held) (b : Bool) → total (at h (waits b)) words ≡ [] → Cut words

  abbrev Behind : List (List ℕ) → Type 0
  Behind [] = Unit {0}
  Behind (word ∷ words) = Reading words

  -- an argument, and those of the words behind it
  more_cut : (a : Argument) (words rest : List (List ℕ)) → words ≡ words_of a ++ rest →
      Is a → Reading rest → Reading words
  more_cut a words rest is k reading h b e =
      let s = consumes a h b k in
      let m = reading s.next s.waiting_next
      (or_none (settle_fault c false h) _ (sym (s.faults rest) ∙ ap (total (at h (waits b))) (sym is) ∙ e)) in (
        a ∷ m.0,
        record {
          words_are = is ∙ ap (λ ws. words_of a ++ ws) m.1.words_are;
          are_arguments = All-cons Is a m.0 k m.1.are_arguments;
        },
      )

  unknown_cut : (x : ℕ) (xs : List ℕ) (rest : List (List ℕ)) →
      option_of settings (45 ∷ 45 ∷ before_first (λ d. d == 61) (x ∷ xs)) ≡ None →
      Reading ((45 ∷ 45 ∷ x ∷ xs) ∷ rest)
  unknown_cut x xs rest is h b e =
      absurd (refuses (at h (waits b)) (45 ∷ 45 ∷ x ∷ xs) rest UnknownArgument
      (unknown_turn _ _ _ h b (long_word x xs)
      (long_rule settings (before_first (λ d. d == 61) (x ∷ xs)) ∙ ap (option_map rule) is)) e)

  joined_cut : (s : Setting) (word value : List ℕ) (rest : List (List ℕ)) (b : Bool) →
      word ≡ option_word s ++ (61 ∷ value) → HasOption settings s b → Reading rest →
      Reading (word ∷ rest)
  joined_cut s word value rest true is k reading h b e =
      more_cut (Joined (option_word s) value) (word ∷ rest) rest (ap (λ w. w ∷ rest) is)
      (has_offered settings s true k) reading h b e
  joined_cut s word value rest false is k reading h b e =
      absurd (refuses (at h (waits b)) (option_word s ++ (61 ∷ value)) rest TooManyValues
      (given_turn _ (name_of s) value h b (long_joined s value) (by_long settings s false k))
      (ap (λ w. total (at h (waits b)) (w ∷ rest)) (sym is) ∙ e))

  apart_cut : (s : Setting) (rest : List (List ℕ)) → HasOption settings s true →
      AreReadable rest → Behind rest → Reading (option_word s ∷ rest)
  apart_cut s [] k r behind h b e =
      let l = by_long settings s true k in
      let first = step (at h (waits b)) _ (option_word s) [] _
      (apart_turn (option_word s) (name_of s) h b (long_alone s) l)
      (apart_walked (option_word s) (name_of s) h b (long_alone s) l) in
      let last : InvalidValue ∷ [] ≡ [] = sym (no_value (name_of s) h (by_id settings s true k))
      ∙ sym (at_end (at (waiting (name_of s) h) (option (name_of s))))
      ∙ or_none (settle_fault c false h) _ (sym first ∙ e) in
      absurd (cc)
  apart_cut s (value ∷ more) k (inl p, r) behind h b e =
      more_cut (Apart (option_word s) value) _ more refl (has_offered settings s true k, p) behind h b e
  apart_cut s (value ∷ more) k (inr p, r) behind h b e =
      let l = by_long settings s true k in
      let first = step (at h (waits b)) _ (option_word s) (value ∷ more) _
      (apart_turn (option_word s) (name_of s) h b (long_alone s) l)
      (apart_walked (option_word s) (name_of s) h b (long_alone s) l) in
      let parts = split_long value p in
      let w = wanting_turn (45 ∷ 45 ∷ parts.0 ∷ parts.1) _ (name_of s) _ h
      (long_word parts.0 parts.1) (by_id settings s true k) in
      absurd (refuses (at (waiting (name_of s) h) (option (name_of s)))
      (45 ∷ 45 ∷ parts.0 ∷ parts.1) more w.0 w.1
      (ap (λ v. total (at (waiting (name_of s) h) (option (name_of s))) (v ∷ more)) (sym parts.2)
      ∙ or_none (settle_fault c false h) _ (sym first ∙ e)))

  alone_cut : (s : Setting) (word : List ℕ) (rest : List (List ℕ)) (b : Bool) →
      word ≡ option_word s → HasOption settings s b → AreReadable rest → Reading rest →
      Behind rest → Reading (word ∷ rest)
  alone_cut s word rest true is k r reading behind =
      subst (λ w. Reading (w ∷ rest)) (sym is) (apart_cut s rest k r behind)
  alone_cut s word rest false is k r reading behind =
      more_cut (Bare (option_word s)) (word ∷ rest) rest (ap (λ w. w ∷ rest) is)
      (has_offered settings s false k) reading

  long_cut : (x : ℕ) (xs : List ℕ) (rest : List (List ℕ)) → AreReadable rest → Reading rest →
      Behind rest → Reading ((45 ∷ 45 ∷ x ∷ xs) ∷ rest)
  long_cut x xs rest r reading behind =
      found (option_of settings (45 ∷ 45 ∷ before_first (λ d. d == 61) (x ∷ xs))) refl
    where
      found : (o : Option Setting) →
          option_of settings (45 ∷ 45 ∷ before_first (λ d. d == 61) (x ∷ xs)) ≡ o →
          Reading ((45 ∷ 45 ∷ x ∷ xs) ∷ rest)
      found None is = unknown_cut x xs rest is
      found (Some s) is = by (has_equals (x ∷ xs)) refl
        where
          word : option_word s ≡ 45 ∷ 45 ∷ before_first (λ d. d == 61) (x ∷ xs)
          word = word_found settings _ s is

          by : (b : Bool) → has_equals (x ∷ xs) ≡ b → Reading ((45 ∷ 45 ∷ x ∷ xs) ∷ rest)
          by true e =
              joined_cut s _ (after_first (λ d. d == 61) (x ∷ xs)) rest (is_valued s)
              (ap (λ w. 45 ∷ 45 ∷ w) (cut_at (x ∷ xs) e)
              ∙ ap (λ w. w ++ (61 ∷ after_first (λ d. d == 61) (x ∷ xs))) (sym word))
              (has_option settings _ s (is_valued s) is refl) reading
          by false e =
              alone_cut s _ rest (is_valued s)
              (ap (λ w. 45 ∷ 45 ∷ w) (sym (uncut (x ∷ xs) e)) ∙ sym word)
              (has_option settings _ s (is_valued s) is refl) r reading behind

  word_cut : (word : List ℕ) (rest : List (List ℕ)) → IsReadable word → AreReadable rest →
      Reading rest → Behind rest → Reading (word ∷ rest)
  word_cut word rest (inl p) r reading behind =
      more_cut (Operand word) (word ∷ rest) rest refl p reading
  word_cut word rest (inr p) r reading behind =
      let parts = split_long word p in
      subst (λ w. Reading (w ∷ rest)) (sym parts.2) (long_cut parts.0 parts.1 rest r reading behind)

  pub reads_all : (words : List (List ℕ)) → AreReadable words → Reading words
  reads_all [] r h b e = ([], record { words_are = refl; are_arguments = All-nil Is })
  reads_all (word ∷ []) r h b e = word_cut word [] r.0 tt (reads_all [] tt) tt h b e
  reads_all (word ∷ value ∷ more) r h b e =
      word_cut word (value ∷ more) r.0 r.1 (reads_all (value ∷ more) r.1) (reads_all more r.1.1) h b e
