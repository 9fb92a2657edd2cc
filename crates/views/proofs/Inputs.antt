-- What is read of a view's files.
use Rattle.std.proofs.Common.{◌≡◌, ◌⊎◌, ℕ, ◌<◌, ◌≤◌, Bool, List, [], ◌∷◌, ◌++◌, length, Option, Some, None, option_map, refl, sym, ap, ◌∙◌, subst, inl, inr, arith, get_or}
use Rattle.std.specs.Prelude.{Contains, IfSome, MatchOption}
use Rattle.std.proofs.lemmas.List.Elements.{Contains-append_left, Contains-append_right, Contains-append_cases}
use Rattle.command_line.specs.Views.{View, reads}
use Rattle.dsm_io.specs.Causes.{Rose}
use Rattle.dsm_io.specs.States.{FilesState, SinkState}
use Rattle.text_output.specs.declared.failure.Failure.{Failure}
use Rattle.text_output.specs.declared.failure.Failure.TheVariants.{Input, NotWritten, Refused, Layout, Record, Text, Output, OutOfMemory}
use Rattle.text_output.specs.Failures.{IsNoRefusal}
use Rattle.judged_files.specs.Failures.{AreBytes, AreContents, IsContent, IsNamedFailure, IsReadFailure, IsTooLong, file_limit}
use Rattle.judged_files.specs.Inputs.{Inputs, bytes_in}
use Rattle.views.specs.Failures.{IsFailure}
use Rattle.views.specs.Headline.{AreTold}
use Rattle.views.specs.Inputs.{AreInputs, FileNames, IsInputFailure, inputs_in, list_of, named}

pub content_is : (o : Option (List ℕ)) (bytes content : List ℕ) → IsContent o bytes
    → o ≡ Some content → bytes ≡ content
content_is o bytes content h is =
    subst (λ (x : Option (List ℕ)). IfSome x (λ c. bytes ≡ c)) is h.same

pub no_refusal : (files files_now : FilesState) (name : List ℕ) (f : Failure)
    → IsReadFailure files files_now name f → IsNoRefusal f
no_refusal files files_now name (Input line) h = inl refl
no_refusal files files_now name (NotWritten line) h = absurd h
no_refusal files files_now name (Refused line) h = absurd h
no_refusal files files_now name (Layout line) h = absurd h
no_refusal files files_now name (Record line) h = absurd h
no_refusal files files_now name (Text line) h = absurd h
no_refusal files files_now name Output h = absurd h
no_refusal files files_now name OutOfMemory h = inr refl

-- 1. The names

pub only_of : (x name : List ℕ) → Contains (x ∷ []) name → name ≡ x
only_of x name h =
    let zero : h.0 ≡ 0 = omega (arith, h.1) in
    sym (subst (λ k. get_or (x ∷ []) k name ≡ name) zero h.2)

first_of : (name : List ℕ) → Contains (name ∷ []) name
first_of name = (0, omega arith, refl)

among : (o : Option (List ℕ)) (name : List ℕ) → o ≡ Some name → Contains (named o) name
among o name e = subst (λ x. Contains (named x) name) (sym e) (first_of name)

of_named : (o : Option (List ℕ)) (name : List ℕ) → Contains (named o) name → o ≡ Some name
of_named None name h = absurd (omega (arith, h.1))
of_named (Some other) name h = ap (λ x. Some x) (sym (only_of other name h))

abbrev behind : FileNames → List (List ℕ)
behind n = named n.text ++ (named n.verified ++ named n.layout)

pub has_executable : (n : FileNames) → Contains (list_of n) n.executable
has_executable n =
    Contains-append_left (n.executable ∷ []) (behind n) n.executable (first_of n.executable)

has_behind : (n : FileNames) (name : List ℕ) → Contains (behind n) name → Contains (list_of n) name
has_behind n name h = Contains-append_right (n.executable ∷ []) (behind n) name h

pub has_text : (n : FileNames) (name : List ℕ) → n.text ≡ Some name → Contains (list_of n) name
has_text n name e =
    has_behind n name (Contains-append_left (named n.text) (named n.verified ++ named n.layout) name
    (among n.text name e))

pub has_verified : (n : FileNames) (name : List ℕ) → n.verified ≡ Some name
    → Contains (list_of n) name
has_verified n name e =
    has_behind n name (Contains-append_right (named n.text) (named n.verified ++ named n.layout) name
    (Contains-append_left (named n.verified) (named n.layout) name (among n.verified name e)))

pub has_layout : (n : FileNames) (name : List ℕ) → n.layout ≡ Some name → Contains (list_of n) name
has_layout n name e =
    has_behind n name (Contains-append_right (named n.text) (named n.verified ++ named n.layout) name
    (Contains-append_right (named n.verified) (named n.layout) name (among n.layout name e)))

-- and nothing else
abbrev IsNamed : FileNames → List ℕ → Type 0
IsNamed n name =
    (name ≡ n.executable)
    ⊎ ((n.text ≡ Some name) ⊎ ((n.verified ≡ Some name) ⊎ (n.layout ≡ Some name)))

is_named : (n : FileNames) (name : List ℕ) → Contains (list_of n) name → IsNamed n name
is_named n name h = elim (Contains-append_cases (n.executable ∷ []) (behind n) name h) [
  | inl first ↦ inl (only_of n.executable name first)
  | inr more ↦ inr (elim (Contains-append_cases (named n.text) (named n.verified ++ named n.layout)
      name more) [
        | inl k ↦ inl (of_named n.text name k)
        | inr rest ↦ inr (elim (Contains-append_cases (named n.verified) (named n.layout) name rest) [
          | inl k ↦ inl (of_named n.verified name k)
          | inr k ↦ inr (of_named n.layout name k)
        ])
      ])
]

-- 2. What was read is what the files are told to have

named_is : (files : FilesState) (contents : List ℕ → List ℕ) (o bytes : Option (List ℕ))
    → AreContents files o bytes
    → ((name : List ℕ) → o ≡ Some name → files.held name ≡ Some (contents name))
    → bytes ≡ option_map contents o
named_is files contents None bytes h told = h
named_is files contents (Some name) None h told = absurd h
named_is files contents (Some name) (Some bytes) h told =
    ap (λ x. Some x) (content_is (files.held name) bytes (contents name) h (told name refl))

bytes_are : (files : FilesState) (contents : List ℕ → List ℕ) (o : Option (List ℕ))
    (bytes : List ℕ) → AreBytes files o bytes
    → ((name : List ℕ) → o ≡ Some name → files.held name ≡ Some (contents name))
    → bytes ≡ bytes_in contents o
bytes_are files contents None bytes h told = h
bytes_are files contents (Some name) bytes h told =
    content_is (files.held name) bytes (contents name) h (told name refl)

abbrev inputs : List ℕ → (code verified layout : Option (List ℕ)) → List ℕ → Bool → Inputs
inputs executable code verified layout text batches = record {
  executable = executable;
  code = code;
  verified = verified;
  layout = layout;
  text = text;
  batches = batches;
}

pub inputs_are : (v : View) (n : FileNames) (files : FilesState) (i : Inputs)
    (contents : List ℕ → List ℕ) → reads v ≡ list_of n → AreInputs files n i
    → AreTold v files contents → i ≡ inputs_in n contents
inputs_are v n files i contents e h told =
    let all : (name : List ℕ) → Contains (list_of n) name → files.held name ≡ Some (contents name) =
    λ name has. told name (subst (λ ns. Contains ns name) (sym e) has) in
    let first = contents n.executable in
    let third = option_map contents n.verified in
    let fourth = option_map contents n.layout in
    let fifth = bytes_in contents n.text in
    let one = content_is (files.held n.executable) i.executable first h.executable
    (all n.executable (has_executable n)) in
    let three = named_is files contents n.verified i.verified h.verified
    (λ name is. all name (has_verified n name is)) in
    let four = named_is files contents n.layout i.layout h.layout
    (λ name is. all name (has_layout n name is)) in
    let five = bytes_are files contents n.text i.text h.text
    (λ name is. all name (has_text n name is)) in
    ap (λ x. inputs x i.code i.verified i.layout i.text i.batches) one
    ∙ ap (λ x. inputs first x i.verified i.layout i.text i.batches) h.code
    ∙ ap (λ x. inputs first None x i.layout i.text i.batches) three
    ∙ ap (λ x. inputs first None third x i.text i.batches) four
    ∙ ap (λ x. inputs first None third fourth x i.batches) five
    ∙ ap (λ x. inputs first None third fourth fifth x) h.batches

-- what was read isn't too long
short_content : (o : Option (List ℕ)) (bytes content : List ℕ) → IsContent o bytes
    → o ≡ Some content → file_limit < length content → ⊥
short_content o bytes content h is long =
    let same = ap length (content_is o bytes content h is) in
    let fits = h.fits in
    omega (arith, same, fits, long)

same_inside : (x y : List ℕ) → Some x ≡ Some y → x ≡ y
same_inside x y e = cc

short_named : (files : FilesState) (o bytes : Option (List ℕ)) (name content : List ℕ)
    → AreContents files o bytes → o ≡ Some name → files.held name ≡ Some content
    → file_limit < length content → ⊥
short_named files None bytes name content h e is long = absurd (cc)
short_named files (Some other) None name content h e is long = h
short_named files (Some other) (Some bytes) name content h e is long =
    short_content (files.held other) bytes content h (ap files.held (same_inside other name e) ∙ is)
    long

short_bytes : (files : FilesState) (o : Option (List ℕ)) (bytes name content : List ℕ)
    → AreBytes files o bytes → o ≡ Some name → files.held name ≡ Some content
    → file_limit < length content → ⊥
short_bytes files None bytes name content h e is long = absurd (cc)
short_bytes files (Some other) bytes name content h e is long =
    short_content (files.held other) bytes content h (ap files.held (same_inside other name e) ∙ is)
    long

pub not_long : (v : View) (n : FileNames) (files : FilesState) (i : Inputs) (name content : List ℕ)
    → reads v ≡ list_of n → AreInputs files n i → Contains (reads v) name
    → files.held name ≡ Some content → file_limit < length content → ⊥
not_long v n files i name content e h there is long =
    elim (is_named n name (subst (λ ns. Contains ns name) e there)) [
      | inl k ↦ short_content (files.held n.executable) i.executable content h.executable
          (ap files.held (sym k) ∙ is) long
      | inr (inl k) ↦ short_bytes files n.text i.text name content h.text k is long
      | inr (inr (inl k)) ↦
          short_named files n.verified i.verified name content h.verified k is long
      | inr (inr (inr k)) ↦ short_named files n.layout i.layout name content h.layout k is long
    ]

-- 3. Files are read one after another

rose_before : (a b c : ℕ) → a ≤ b → Rose b c → Rose a c
rose_before a b c low rose = omega (arith, low, rose)

too_long_before : (files between now : FilesState) (name : List ℕ)
    → between.held name ≡ files.held name → files.failed_reads name ≤ between.failed_reads name
    → IsTooLong between now name → IsTooLong files now name
too_long_before files between now name same low h =
    go (files.held name) (subst (λ o. MatchOption o (Rose (between.failed_reads name) (now.failed_reads name))
    (λ file. file_limit < length file)) same h)
  where
    go : (o : Option (List ℕ))
        → MatchOption o (Rose (between.failed_reads name) (now.failed_reads name)) (λ file. file_limit < length file)
        → MatchOption o (Rose (files.failed_reads name) (now.failed_reads name)) (λ file. file_limit < length file)
    go None k = rose_before _ _ _ low k
    go (Some file) k = k

pub later_read : (files between now : FilesState) (name : List ℕ) (f : Failure)
    → between.held name ≡ files.held name → files.failed_reads name ≤ between.failed_reads name
    → IsReadFailure between now name f → IsReadFailure files now name f
later_read files between now name (Input line) same low h = elim h [
  | inl failed ↦ inl (rose_before _ _ _ low failed.0, failed.1)
  | inr long ↦ inr (too_long_before files between now name same low long.0, long.1)
]
later_read files between now name (NotWritten line) same low h = h
later_read files between now name (Refused line) same low h = h
later_read files between now name (Layout line) same low h = h
later_read files between now name (Record line) same low h = h
later_read files between now name (Text line) same low h = h
later_read files between now name Output same low h = h
later_read files between now name OutOfMemory same low h = h

-- a file of a name that may be left out wasn't read, after others
pub named_unread : (n : FileNames) (files between now : FilesState) (o : Option (List ℕ))
    (f : Failure) → ((name : List ℕ) → between.held name ≡ files.held name)
    → ((name : List ℕ) → files.failed_reads name ≤ between.failed_reads name)
    → ((name : List ℕ) → o ≡ Some name → Contains (list_of n) name)
    → IsNamedFailure between now o f → IsInputFailure n files now f
named_unread n files between now o f same low there h =
    (h.0, there h.0 h.1, later_read files between now h.0 f (same h.0) (low h.0) h.2)

pub content_before : (files between : FilesState) (o bytes : Option (List ℕ))
    → ((n : List ℕ) → between.held n ≡ files.held n) → AreContents between o bytes
    → AreContents files o bytes
content_before files between None bytes same h = h
content_before files between (Some name) None same h = h
content_before files between (Some name) (Some bytes) same h =
    subst (λ o. IsContent o bytes) (same name) h

pub bytes_before : (files between : FilesState) (o : Option (List ℕ)) (bytes : List ℕ)
    → ((n : List ℕ) → between.held n ≡ files.held n) → AreBytes between o bytes
    → AreBytes files o bytes
bytes_before files between None bytes same h = h
bytes_before files between (Some name) bytes same h = subst (λ o. IsContent o bytes) (same name) h

-- 4. A view fails where a file isn't read

pub unread_fails : (v : View) (n : FileNames) → reads v ≡ list_of n
    → (files files_now : FilesState) (state : SinkState) (f : Failure)
    → IsInputFailure n files files_now f → IsFailure v files files_now state state f
unread_fails v n e files files_now state (Input line) h =
    (refl, (h.0, subst (λ ns. Contains ns h.0) (sym e) h.1, h.2))
unread_fails v n e files files_now state (NotWritten line) h = absurd h.2
unread_fails v n e files files_now state (Refused line) h = absurd h.2
unread_fails v n e files files_now state (Layout line) h = absurd h.2
unread_fails v n e files files_now state (Record line) h = absurd h.2
unread_fails v n e files files_now state (Text line) h = h.2
unread_fails v n e files files_now state Output h = absurd h.2
unread_fails v n e files files_now state OutOfMemory h = λ contents told. inl refl

pub unread_no_refusal : (n : FileNames) (files files_now : FilesState) (f : Failure)
    → IsInputFailure n files files_now f → IsNoRefusal f
unread_no_refusal n files files_now f h = no_refusal files files_now h.0 f h.2
