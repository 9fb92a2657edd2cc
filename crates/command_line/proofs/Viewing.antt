-- What is given says of a view's row one view, and nothing else.
use Rattle.std.proofs.Common.{◌≡◌, ℕ, MatchOption, List, [], ◌∷◌, bytes_eq, unwrap_or, refl, sym, ap, ◌∙◌, subst, Option, Some, None}
use Rattle.std.specs.Prelude.{find}
use Rattle.clap.specs.declared.parser.matches.ArgMatches.{ArgMatches}
use Rattle.command_line.specs.declared.table.Setting.TheVariants.{Verify, NoBatch, From, To, Block, Node, Memory}
use Rattle.command_line.specs.declared.table.ViewWord.{ViewWord}
use Rattle.command_line.specs.declared.table.ViewWord.TheVariants as word
use Rattle.command_line.specs.declared.view.View.{View as OfCode}
use Rattle.command_line.specs.Asks.{ArePlaced, valued}
use Rattle.command_line.specs.Views.{View, CodeArguments, RecordedFiles, TimeArguments, Help, Code, Trace, Blocks, Page, Time, Cost, Gdb, Speedup, AsksView, IsFitView, code_options, meaning_of_view, view_row}
use Rattle.command_line.specs.Table.{name_of, offered, view_settings, view_text}
use Rattle.command_line.specs.Reading.{AreGiven, IsCut, IsOfRow, IsViewGiven, Reads, given_by, words_for}
use Rattle.command_line.proofs.Addresses.{at_one}
use Rattle.command_line.proofs.Cuts.{same_cut}
use Rattle.command_line.proofs.Given.{given_of, gives, row_back, row_cut, row_given, same_head}
use Rattle.command_line.proofs.Times.{one_speedup, one_time}
use Rattle.command_line.proofs.Optional.{same_one_or_two}
use Rattle.command_line.proofs.Triples.{same_three}
use Rattle.command_line.proofs.Rows.{flag_one, maybes_one, names_one, same_file, same_read, says_one}

abbrev Given : Type 0
Given = List ℕ → List (List ℕ)

-- a view, by its word and its arguments
abbrev pub Arguments : ViewWord → Type 0
Arguments word.Help = Unit {0}
Arguments word.Code = CodeArguments
Arguments word.Trace = RecordedFiles × Option ℕ × Option ℕ × Option ℕ × Option ℕ
Arguments word.Blocks = RecordedFiles
Arguments word.Page = RecordedFiles × List ℕ × Option ℕ × Option ℕ
Arguments word.Time = TimeArguments
Arguments word.Cost = CodeArguments × Option (List ℕ)
Arguments word.Speedup = TimeArguments × List ℕ
Arguments word.Gdb = RecordedFiles × ℕ

abbrev pub view : (w : ViewWord) → Arguments w → View
view word.Help a = Help
view word.Code a = Code a
view word.Trace a = Trace a.0 a.1 a.2 a.3 a.4
view word.Blocks a = Blocks a
view word.Page a = Page a.0 a.1 a.2 a.3
view word.Time a = Time a
view word.Cost a = Cost a.0 a.1
view word.Speedup a = Speedup a.0 a.1
view word.Gdb a = Gdb a.0 a.1

abbrev pub view_word : View → ViewWord
view_word Help = word.Help
view_word (Code a) = word.Code
view_word (Trace run from to block node) = word.Trace
view_word (Blocks run) = word.Blocks
view_word (Page run output from to) = word.Page
view_word (Time a) = word.Time
view_word (Cost a record_file) = word.Cost
view_word (Speedup a output) = word.Speedup
view_word (Gdb run memory) = word.Gdb

abbrev IsWhole : View → ViewWord → Type 0
IsWhole v w = (a : Arguments w) × (v ≡ view w a)

arguments_of : (v : View) → IsWhole v (view_word v)
arguments_of Help = (tt, refl)
arguments_of (Code a) = (a, refl)
arguments_of (Trace run from to block node) = ((run, from, to, block, node), refl)
arguments_of (Blocks run) = (run, refl)
arguments_of (Page run output from to) = ((run, output, from, to), refl)
arguments_of (Time a) = (a, refl)
arguments_of (Cost a record_file) = ((a, record_file), refl)
arguments_of (Speedup a output) = ((a, output), refl)
arguments_of (Gdb run memory) = ((run, memory), refl)

pub word_is : (v : View) → view_text (view_word v) ≡ (view_row v).word
word_is Help = refl
word_is other = refl

-- views differ in their words
abbrev view_words : List ViewWord
view_words =
    word.Help ∷ word.Code ∷ word.Trace ∷ word.Blocks ∷ word.Page ∷ word.Time ∷ word.Cost
    ∷ word.Speedup ∷ word.Gdb ∷ []

abbrev word_at : List ℕ → ViewWord
word_at text = unwrap_or (find (λ w. bytes_eq (view_text w) text) view_words) word.Help

word_found : (w : ViewWord) → word_at (view_text w) ≡ w
word_found word.Help = refl
word_found other = refl

same_word : (v w : ViewWord) → view_text v ≡ view_text w → v ≡ w
same_word v w e = sym (word_found v) ∙ ap word_at e ∙ word_found w

of_word : (w : ViewWord) (v : View) → view_text w ≡ (view_row v).word → IsWhole v w
of_word w v e = subst (IsWhole v) (same_word (view_word v) w (word_is v ∙ sym e)) (arguments_of v)

-- what is given of a word is a view of that word
pub record IsOf (w : ViewWord) (g : Given) (a : Arguments w) : Type 0 where
  pub of_row : IsOfRow (view_row (view w a)) g
  pub fits : IsFitView (view w a)

pub as_view : (w : ViewWord) (g : Given) (v : View) → IsViewGiven (view_text w) g v
    → (a : Arguments w) × IsOf w g a
as_view w g v h =
    let is = of_word w v (sym h.word_is) in (
      is.0,
      record {
        of_row = subst (λ x. IsOfRow (view_row x) g) is.1 h.of_row;
        fits = subst IsFitView is.1 h.fits;
      },
    )

-- without a place there is no operand
pub no_place : (words : List (List ℕ)) → ArePlaced [] words → words ≡ []
no_place [] h = refl
no_place (w ∷ ws) h = absurd h

-- what is given says of code that is shown one thing, beside its file
one_code : (g : Given) (a b : CodeArguments) → a.file ≡ b.file → AreGiven (code_options a) g
    → AreGiven (code_options b) g → a ≡ b
one_code g a b file x y =
    let verified = names_one g Verify a.verified b.verified x.0 y.0 in
    let batch = flag_one g NoBatch a.no_batch b.no_batch x.1.0 y.1.0 in
    ap (λ f. record a { file = f }) file
    ∙ ap (λ f. record b { verified = f; no_batch = a.no_batch }) verified
    ∙ ap (λ f. record b { no_batch = f }) batch

one_run : (r s : RecordedFiles) → r.file ≡ s.file → r.record_file ≡ s.record_file
    → r.verified ≡ s.verified → r ≡ s
one_run r s file kept verified =
    ap (λ x. record r { file = x }) file
    ∙ ap (λ x. record s { record_file = x; verified = r.verified }) kept
    ∙ ap (λ x. record s { verified = x }) verified

one_of_word : (g : Given) (w : ViewWord) (a b : Arguments w) → IsOfRow (view_row (view w a)) g
    → IsOfRow (view_row (view w b)) g → view w a ≡ view w b
one_of_word g word.Help a b p q = refl
one_of_word g word.Code a b p q =
    let file = same_file a.file b.file _ p.places q.places in
    ap (λ x. Code x) (one_code g a b file p.options q.options)
one_of_word g word.Trace (run, from, to, block, node) (run', from', to', block', node') p q =
    let files = same_read run.file run.record_file run'.file run'.record_file _ p.places q.places in
    let verified = names_one g Verify run.verified run'.verified p.options.0 q.options.0 in
    let same = one_run run run' files.0 files.1 verified in
    ap (λ x. Trace x from to block node) same ∙ ap (λ x. Trace run' x to block node)
    (maybes_one g From from from' p.options.1.0 q.options.1.0)
    ∙ ap (λ x. Trace run' from' x block node)
    (maybes_one g To to to' p.options.1.1.0 q.options.1.1.0) ∙ ap (λ x. Trace run' from' to' x node)
    (at_one (g (name_of Block)) block block' p.options.1.1.1.0 q.options.1.1.1.0)
    ∙ ap (λ x. Trace run' from' to' block' x)
    (maybes_one g Node node node' p.options.1.1.1.1.0 q.options.1.1.1.1.0)
one_of_word g word.Blocks a b p q =
    let files = same_read a.file a.record_file b.file b.record_file _ p.places q.places in
    let verified = names_one g Verify a.verified b.verified p.options.0 q.options.0 in
    ap (λ x. Blocks x) (one_run a b files.0 files.1 verified)
one_of_word g word.Page (run, output, from, to) (run', output', from', to') p q =
    let files = same_three run.file run.record_file output run'.file run'.record_file output' _
    p.places q.places in
    let verified = names_one g Verify run.verified run'.verified p.options.0 q.options.0 in
    let same = one_run run run' files.0 files.1 verified in
    ap (λ x. Page x output from to) same ∙ ap (λ x. Page run' x from to) files.2
    ∙ ap (λ x. Page run' output' x to) (maybes_one g From from from' p.options.1.0 q.options.1.0)
    ∙ ap (λ x. Page run' output' from' x) (maybes_one g To to to' p.options.1.1.0 q.options.1.1.0)
one_of_word g word.Time a b p q = ap (λ x. Time x) (one_time g a b p q)
one_of_word g word.Cost (a, record_file) (b, record_file') p q =
    let files = same_one_or_two a.file b.file record_file record_file' _ p.places q.places in
    ap (λ x. Cost x record_file) (one_code g a b files.0 p.options q.options)
    ∙ ap (λ x. Cost b x) files.1
one_of_word g word.Speedup (a, output) (b, output') p q =
    let same = one_speedup g a b output output' p q in
    ap (λ x. Speedup x output) same.0 ∙ ap (λ x. Speedup b x) same.1
one_of_word g word.Gdb (run, memory) (run', memory') p q =
    let files = same_read run.file run.record_file run'.file run'.record_file _ p.places q.places in
    let verified = names_one g Verify run.verified run'.verified p.options.0 q.options.0 in
    ap (λ x. Gdb x memory) (one_run run run' files.0 files.1 verified)
    ∙ ap (λ x. Gdb run' x) (says_one g Memory memory memory' p.options.1.0 q.options.1.0)

one_view : (g : Given) (v w : View) → IsOfRow (view_row v) g → IsOfRow (view_row w) g
    → (view_row v).word ≡ (view_row w).word → v ≡ w
one_view g v w p q e =
    let x = view_word v in
    let a = of_word x v (word_is v) in
    let b = of_word x w (word_is v ∙ e) in
    a.1 ∙ one_of_word g x a.0 b.0 (subst (λ y. IsOfRow (view_row y) g) a.1 p)
    (subst (λ y. IsOfRow (view_row y) g) b.1 q) ∙ sym b.1

-- the options of a view are those of its word
settings_by : (w : ViewWord) (a : Arguments w)
    → valued (view_row (view w a)).options ≡ offered (view_settings w)
settings_by word.Help a = refl
settings_by other a = refl

word_settings : (w : ViewWord) (v : View) → view_text w ≡ (view_row v).word
    → valued (view_row v).options ≡ offered (view_settings w)
word_settings w v e =
    let is = of_word w v e in
    ap (λ x. valued (view_row x).options) is.1 ∙ settings_by w is.0

-- a view that is asked for by a word and the words behind it
record IsBehind (w : ViewWord) (rest words : List (List ℕ)) (v : View) : Type 0 where
  pub word_is : (view_row v).word ≡ view_text w
  pub asks : AsksView words v
  pub is_cut : IsCut (view_settings w) rest asks.of_row.arguments

behind : (first : List ℕ) (rest words : List (List ℕ)) (w : ViewWord) (v : View)
    → words ≡ first ∷ rest → view_text w ≡ first → AsksView words v → IsBehind w rest words v
behind first rest words w v e f h =
    let word = same_head _ _ _ _ (sym h.of_row.words_are ∙ e) ∙ sym f in
    record {
      word_is = word;
      asks = h;
      is_cut = row_cut (view_row v) (view_settings w) first rest words
          (word_settings w v (sym word)) e h.of_row;
    }

given : (w : ViewWord) (rest words : List (List ℕ)) (v : View) (m : ArgMatches)
    → Reads (view_settings w) rest m → IsBehind w rest words v
    → IsViewGiven (view_text w) (given_by m) v
given w rest words v m r h =
    let xs = h.asks.of_row.arguments in
    let same = same_cut (view_settings w) rest r.arguments xs r.is_cut h.is_cut in
    record {
      word_is = h.word_is;
      of_row = row_given (view_row v) (view_settings w) words (given_by m)
          (word_settings w v (sym h.word_is)) h.asks.of_row
          (λ x. r.gives x ∙ ap (words_for x) same);
      fits = h.asks.fits;
    }

asked : (first : List ℕ) (rest words : List (List ℕ)) (w : ViewWord) (v : View) (m : ArgMatches)
    → words ≡ first ∷ rest → view_text w ≡ first → Reads (view_settings w) rest m
    → IsViewGiven (view_text w) (given_by m) v → AsksView words v
asked first rest words w v m e f r h = record {
  of_row = row_back (view_row v) (view_settings w) first rest words m
      (word_settings w v (sym h.word_is)) e (h.word_is ∙ f) r h.of_row;
  fits = h.fits;
}

pub only_one : (words : List (List ℕ)) (v w : View) → AsksView words v → AsksView words w → v ≡ w
unfolding behind
only_one words v w p q =
    let x = view_word v in
    let e = p.of_row.words_are in
    let b = behind (view_row v).word _ words x v e (word_is v) p in
    let k = behind (view_row v).word _ words x w e (word_is v) q in
    let xs = p.of_row.arguments in
    let same = same_cut (view_settings x) _ xs q.of_row.arguments b.is_cut k.is_cut in
    one_view (given_of xs) v w
    (row_given (view_row v) (view_settings x) words (given_of xs) (word_settings x v (word_is v))
    p.of_row (gives xs)) (row_given (view_row w) (view_settings x) words (given_of xs)
    (word_settings x w (sym k.word_is)) q.of_row (λ r. gives xs r ∙ ap (words_for r) same))
    (sym (k.word_is ∙ word_is v))

pub answers : (first : List ℕ) (rest words : List (List ℕ)) (w : ViewWord) (m : ArgMatches)
    (r : Option OfCode) → words ≡ first ∷ rest → view_text w ≡ first
    → Reads (view_settings w) rest m
    → MatchOption r ((v : View) → IsViewGiven (view_text w) (given_by m) v → ⊥)
    (λ v. IsViewGiven (view_text w) (given_by m) (meaning_of_view v))
    → MatchOption r ((v : View) → AsksView words v → ⊥) (λ v. AsksView words (meaning_of_view v))
answers first rest words w m None e f reads h = λ v k.
    h v (given w rest words v m reads (behind first rest words w v e f k))
answers first rest words w m (Some x) e f reads h =
    asked first rest words w (meaning_of_view x) m e f reads h
