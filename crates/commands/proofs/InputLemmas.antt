-- The files that commands read.
use Rattle.std.proofs.Common.{◌≡◌, ◌⊎◌, ℕ, ◌<◌, Bool, List, [], ◌∷◌, ◌++◌, length, Option, Some, None, option_map, refl, sym, ap, ◌∙◌, subst, inl, inr, arith}
use Rattle.std.specs.Prelude.{Contains, IfSome}
use Rattle.std.proofs.lemmas.List.Elements.{Contains-append_left, Contains-append_right, Contains-append_cases}
use Rattle.dsm_io.specs.States.{FilesState}
use Rattle.judged_files.specs.Failures.{file_limit, AreBytes, AreContents, IsContent}
use Rattle.command_line.specs.Tasks.{Execution, RunArguments, SimArguments}
use Rattle.command_line.specs.Commands.{Command, Rewrite, Run, Listing, One, Sim, Replay, Generate, Assemble, reads}
use Rattle.commands.specs.Failures.{AreInputs, AreRead}
use Rattle.judged_files.specs.Inputs.{Inputs, bytes_in}
use Rattle.commands.specs.Inputs.{FileNames, execution_files, file_names}

-- the file of a name that may be left out
abbrev pub named : Option (List ℕ) → List (List ℕ)
named None = []
named (Some name) = name ∷ []

-- a command reads its executable, its record or its assembly text, its code, its verified file and
-- its layout
abbrev named_in : FileNames → List (List ℕ)
named_in names =
    named names.executable ++ (named names.text
    ++ (named names.code ++ (named names.verified ++ named names.layout)))

-- nodes that run, with other files beside the executable
abbrev with_files : Execution → (code verified layout : Option (List ℕ)) → Execution
with_files e code verified layout = record e { code = code; verified = verified; layout = layout }

run_reads : (a : RunArguments) (code verified layout : Option (List ℕ))
    → reads (Run (record a { execution = with_files a.execution code verified layout }))
    ≡ named_in (execution_files (with_files a.execution code verified layout))
run_reads a None None None = refl
run_reads a None None (Some layout) = refl
run_reads a None (Some verified) None = refl
run_reads a None (Some verified) (Some layout) = refl
run_reads a (Some code) None None = refl
run_reads a (Some code) None (Some layout) = refl
run_reads a (Some code) (Some verified) None = refl
run_reads a (Some code) (Some verified) (Some layout) = refl

sim_reads : (a : SimArguments) (code verified layout : Option (List ℕ))
    → reads (Sim (record a { execution = with_files a.execution code verified layout }))
    ≡ named_in (execution_files (with_files a.execution code verified layout))
sim_reads a None None None = refl
sim_reads a None None (Some layout) = refl
sim_reads a None (Some verified) None = refl
sim_reads a None (Some verified) (Some layout) = refl
sim_reads a (Some code) None None = refl
sim_reads a (Some code) None (Some layout) = refl
sim_reads a (Some code) (Some verified) None = refl
sim_reads a (Some code) (Some verified) (Some layout) = refl

reads_are : (c : Command) → reads c ≡ named_in (file_names c)
reads_are (Rewrite a) = refl
reads_are (Run a) = run_reads a a.execution.code a.execution.verified a.execution.layout
reads_are (Listing a) = refl
reads_are (One a) = go a.layout
  where
    go : (layout : Option (List ℕ)) → reads (One (record a { layout = layout }))
        ≡ named_in (file_names (One (record a { layout = layout })))
    go None = refl
    go (Some layout) = refl
reads_are (Sim a) = sim_reads a a.execution.code a.execution.verified a.execution.layout
reads_are (Replay a) = go a.verified
  where
    go : (verified : Option (List ℕ)) → reads (Replay (record a { verified = verified }))
        ≡ named_in (file_names (Replay (record a { verified = verified })))
    go None = refl
    go (Some verified) = refl
reads_are (Generate a) = refl
reads_are (Assemble a) = refl

-- a list of one name
pub only_of : (file name : List ℕ) → Contains (file ∷ []) name → name ≡ file
only_of file name h =
    let zero : h.0 ≡ 0 = omega (arith, h.1) in
    sym (subst (λ k. Rattle.std.proofs.Common.get_or (file ∷ []) k name ≡ name) zero h.2)

first_of : (name : List ℕ) → Contains (name ∷ []) name
first_of name = (0, omega arith, refl)

pub among : (o : Option (List ℕ)) (name : List ℕ) → o ≡ Some name → Contains (named o) name
among o name e = subst (λ x. Contains (named x) name) (sym e) (first_of name)

pub of_named : (o : Option (List ℕ)) (name : List ℕ) → Contains (named o) name → o ≡ Some name
of_named None name h = absurd (omega (arith, h.1))
of_named (Some other) name h = ap Some (sym (only_of other name h))

-- the files behind the code, behind the record, and behind the executable
abbrev behind_code : Command → List (List ℕ)
behind_code c = named ((file_names c).verified) ++ named ((file_names c).layout)

abbrev behind_text : Command → List (List ℕ)
behind_text c = named ((file_names c).code) ++ behind_code c

abbrev behind_input : Command → List (List ℕ)
behind_input c = named ((file_names c).text) ++ behind_text c

read_of : (c : Command) (name : List ℕ) → Contains (named ((file_names c).executable) ++ behind_input c) name
    → Contains (reads c) name
read_of c name h = subst (λ ns. Contains ns name) (sym (reads_are c)) h

pub reads_input : (c : Command) (name : List ℕ) → (file_names c).executable ≡ Some name → Contains (reads c) name
reads_input c name e =
    read_of c name (Contains-append_left (named ((file_names c).executable)) (behind_input c) name
    (among ((file_names c).executable) name e))

pub reads_text : (c : Command) (name : List ℕ) → (file_names c).text ≡ Some name
    → Contains (reads c) name
reads_text c name e =
    read_of c name (Contains-append_right (named ((file_names c).executable)) (behind_input c) name
    (Contains-append_left (named ((file_names c).text)) (behind_text c) name
    (among ((file_names c).text) name e)))

-- behind its record
reads_behind : (c : Command) (name : List ℕ) → Contains (behind_text c) name
    → Contains (reads c) name
reads_behind c name h =
    read_of c name (Contains-append_right (named ((file_names c).executable)) (behind_input c) name
    (Contains-append_right (named ((file_names c).text)) (behind_text c) name h))

pub reads_code : (c : Command) (name : List ℕ) → (file_names c).code ≡ Some name → Contains (reads c) name
reads_code c name e =
    reads_behind c name (Contains-append_left (named ((file_names c).code)) (behind_code c) name
    (among ((file_names c).code) name e))

pub reads_verified : (c : Command) (name : List ℕ) → (file_names c).verified ≡ Some name
    → Contains (reads c) name
reads_verified c name e =
    reads_behind c name (Contains-append_right (named ((file_names c).code)) (behind_code c) name
    (Contains-append_left (named ((file_names c).verified)) (named ((file_names c).layout)) name
    (among ((file_names c).verified) name e)))

pub reads_layout : (c : Command) (name : List ℕ) → (file_names c).layout ≡ Some name → Contains (reads c) name
reads_layout c name e =
    reads_behind c name (Contains-append_right (named ((file_names c).code)) (behind_code c) name
    (Contains-append_right (named ((file_names c).verified)) (named ((file_names c).layout)) name
    (among ((file_names c).layout) name e)))

-- and nothing else
abbrev IsRead : Command → List ℕ → Type 0
IsRead c name = ((file_names c).executable ≡ Some name) ⊎ (((file_names c).text ≡ Some name) ⊎ (((file_names c).code ≡ Some name)
    ⊎ (((file_names c).verified ≡ Some name) ⊎ ((file_names c).layout ≡ Some name))))

reads_only : (c : Command) (name : List ℕ) → Contains (reads c) name → IsRead c name
reads_only c name h =
    elim (Contains-append_cases (named ((file_names c).executable)) (behind_input c) name
    (subst (λ ns. Contains ns name) (reads_are c) h)) [
      | inl first ↦ inl (of_named ((file_names c).executable) name first)
      | inr more ↦ inr (
          elim (Contains-append_cases (named ((file_names c).text)) (behind_text c) name more) [
            | inl k ↦ inl (of_named ((file_names c).text) name k)
            | inr rest ↦ inr (
                elim (Contains-append_cases (named ((file_names c).code)) (behind_code c) name rest) [
                  | inl k ↦ inl (of_named ((file_names c).code) name k)
                  | inr last ↦ inr (
                      elim (Contains-append_cases (named ((file_names c).verified)) (named ((file_names c).layout)) name
                      last) [
                        | inl k ↦ inl (of_named ((file_names c).verified) name k)
                        | inr k ↦ inr (of_named ((file_names c).layout) name k)
                      ])
                ])
          ])
    ]

-- what was read is what the files are told to have

content_is : (o : Option (List ℕ)) (bytes content : List ℕ) → IsContent o bytes
    → o ≡ Some content → bytes ≡ content
content_is o bytes content h is =
    subst (λ (x : Option (List ℕ)). IfSome x (λ c. bytes ≡ c)) is h.same

named_is : (files : FilesState) (contents : List ℕ → List ℕ)
    (o bytes : Option (List ℕ)) → AreContents files o bytes
    → ((name : List ℕ) → o ≡ Some name → files.held name ≡ Some (contents name))
    → bytes ≡ option_map contents o
named_is files contents None bytes h told = h
named_is files contents (Some name) None h told = absurd h
named_is files contents (Some name) (Some bytes) h told =
    ap Some (content_is (files.held name) bytes (contents name) h (told name refl))

bytes_are : (files : FilesState) (contents : List ℕ → List ℕ)
    (o : Option (List ℕ)) (bytes : List ℕ) → AreBytes files o bytes
    → ((name : List ℕ) → o ≡ Some name → files.held name ≡ Some (contents name))
    → bytes ≡ bytes_in contents o
bytes_are files contents None bytes h told = h
bytes_are files contents (Some name) bytes h told =
    content_is (files.held name) bytes (contents name) h (told name refl)

abbrev inputs : List ℕ → (code verified layout : Option (List ℕ)) → List ℕ → Bool → Inputs
inputs executable code verified layout text batches = record {
  executable = executable;
  code = code;
  verified = verified;
  layout = layout;
  text = text;
  batches = batches;
}

pub inputs_read : (c : Command) (files : FilesState) (i : Inputs) → AreRead (file_names c) files i
    → AreInputs c files i
inputs_read c files i h contents told =
    let one = bytes_are files contents ((file_names c).executable) i.executable h.executable
    (λ name e. told name (reads_input c name e)) in
    let two = named_is files contents ((file_names c).code) i.code h.code
    (λ name e. told name (reads_code c name e)) in
    let three = named_is files contents ((file_names c).verified) i.verified h.verified
    (λ name e. told name (reads_verified c name e)) in
    let four = named_is files contents ((file_names c).layout) i.layout h.layout
    (λ name e. told name (reads_layout c name e)) in
    let five = bytes_are files contents ((file_names c).text) i.text h.text
    (λ name e. told name (reads_text c name e)) in
    let first = bytes_in contents ((file_names c).executable) in
    let second = option_map contents ((file_names c).code) in
    let third = option_map contents ((file_names c).verified) in
    let fourth = option_map contents ((file_names c).layout) in
    let fifth = bytes_in contents ((file_names c).text) in
    ap (λ x. inputs x i.code i.verified i.layout i.text i.batches) one
    ∙ ap (λ x. inputs first x i.verified i.layout i.text i.batches) two
    ∙ ap (λ x. inputs first second x i.layout i.text i.batches) three
    ∙ ap (λ x. inputs first second third x i.text i.batches) four
    ∙ ap (λ x. inputs first second third fourth x i.batches) five
    ∙ ap (λ x. inputs first second third fourth fifth x) h.batches

-- no file that was read is too long
short_content : (o : Option (List ℕ)) (bytes content : List ℕ) → IsContent o bytes
    → o ≡ Some content → file_limit < length content → ⊥
short_content o bytes content h is long =
    let same = ap length (content_is o bytes content h is) in
    let fits = h.fits in
    omega (arith, same, fits, long)

short_named : (files : FilesState) (o bytes : Option (List ℕ)) (name content : List ℕ)
    → AreContents files o bytes → o ≡ Some name → files.held name ≡ Some content
    → file_limit < length content → ⊥
short_named files None bytes name content h e is long = absurd (cc)
short_named files (Some other) None name content h e is long = h
short_named files (Some other) (Some bytes) name content h e is long =
    short_content (files.held other) bytes content h (ap files.held (same_inside other name e) ∙ is) long
  where
    same_inside : (x y : List ℕ) → Some x ≡ Some y → x ≡ y
    same_inside x y e = cc

short_bytes : (files : FilesState) (o : Option (List ℕ)) (bytes name content : List ℕ)
    → AreBytes files o bytes → o ≡ Some name → files.held name ≡ Some content
    → file_limit < length content → ⊥
short_bytes files None bytes name content h e is long = absurd (cc)
short_bytes files (Some other) bytes name content h e is long =
    short_content (files.held other) bytes content h (ap files.held (same_inside other name e) ∙ is) long
  where
    same_inside : (x y : List ℕ) → Some x ≡ Some y → x ≡ y
    same_inside x y e = cc

pub none_long : (c : Command) (files : FilesState) (i : Inputs) (name content : List ℕ)
    → AreRead (file_names c) files i → Contains (reads c) name → files.held name ≡ Some content
    → file_limit < length content → ⊥
none_long c files i name content h there is long = elim (reads_only c name there) [
  | inl e ↦ short_bytes files ((file_names c).executable) i.executable name content h.executable e is long
  | inr (inl e) ↦ short_bytes files ((file_names c).text) i.text name content h.text e is long
  | inr (inr (inl e)) ↦ short_named files ((file_names c).code) i.code name content h.code e is long
  | inr (inr (inr (inl e))) ↦
      short_named files ((file_names c).verified) i.verified name content h.verified e is long
  | inr (inr (inr (inr e))) ↦
      short_named files ((file_names c).layout) i.layout name content h.layout e is long
]

-- files are read after others, which leaves what each holds
pub content_before : (files between : FilesState) (o bytes : Option (List ℕ))
    → ((n : List ℕ) → between.held n ≡ files.held n) → AreContents between o bytes → AreContents files o bytes
content_before files between None bytes same h = h
content_before files between (Some name) None same h = h
content_before files between (Some name) (Some bytes) same h =
    subst (λ o. IsContent o bytes) (same name) h

pub bytes_before : (files between : FilesState) (o : Option (List ℕ)) (bytes : List ℕ)
    → ((n : List ℕ) → between.held n ≡ files.held n) → AreBytes between o bytes → AreBytes files o bytes
bytes_before files between None bytes same h = h
bytes_before files between (Some name) bytes same h = subst (λ o. IsContent o bytes) (same name) h
