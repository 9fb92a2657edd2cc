-- What the answer of a command says of the whole.
use Rattle.std.proofs.Common.{◌≡◌, ◌⊎◌, ℕ, ◌<◌, ◌≤◌, Bool, true, false, List, [], ◌++◌, length, Option, Some, None, append-nil, option_map, refl, sym, ap, ◌∙◌, subst, inl, inr, arith}
use Rattle.std.specs.Prelude.{Contains, IfOk, IfErr, MatchOption, Result, Ok, Err, if◌then◌else◌}
use Rattle.dsm_io.specs.Causes.{Rose}
use Rattle.command_line.specs.Commands.{RewriteArguments, Command, Rewrite, Run, Listing, One, Sim, Replay, Generate, Assemble, reads, writes}
use Rattle.command_line.specs.declared.Command.{Command as OfCode}
use Rattle.command_line.specs.Asks.{Asks}
use Rattle.command_line.specs.Meaning.{meaning_of}
use Rattle.text_output.specs.declared.failure.Failure.{Failure}
use Rattle.text_output.specs.declared.failure.Failure.TheVariants.{Input, NotWritten, Refused, Layout, Record, Text, Output, OutOfMemory}
use Rattle.dsm_io.specs.States.{SinkState, FilesState}
use Rattle.commands.specs.Answers.{HasBytes, IsFault, IsUnwritten, IsWriteFault, AreLeft}
use Rattle.judged_files.specs.Failures.{IsTooLong, file_limit, IsReadFailure, IsNamedFailure}
use Rattle.commands.specs.Refusals.{IsRefused, IsLayoutRefused, IsRecordRefused, IsTextRefused}
use Rattle.text_output.specs.Failures.{status_of, line_of, FailsAs, Puts, IsWriteFailure, PutsPrefix}
use Rattle.commands.specs.Failures.{IsFailure, IsPerformFailure, IsRewriteFailure, IsSuccess, IsInputFailure, AreInputs, AreKept}
use Rattle.commands.specs.Headline.{IsText, IsRewrittenFile, IsRewrittenText, PrintsPrefix}
use Rattle.judged_files.specs.Inputs.{Inputs}
use Rattle.commands.specs.Inputs.{AreTold, inputs_of}

-- what the words ask for, and where they ask for nothing
pub asked_as : (words : List (List ℕ)) (r : Option OfCode) (x : OfCode)
    → r ≡ Some x → MatchOption r ((c : Command) → Asks words c → ⊥) (λ c. Asks words (meaning_of c))
    → Asks words (meaning_of x)
asked_as words r x e h =
    subst (λ o. MatchOption o ((c : Command) → Asks words c → ⊥) (λ c. Asks words (meaning_of c))) e h

pub none_as : (words : List (List ℕ)) (r : Option OfCode) → r ≡ None
    → MatchOption r ((c : Command) → Asks words c → ⊥) (λ c. Asks words (meaning_of c))
    → (c : Command) → Asks words c → ⊥
none_as words r e h =
    subst (λ o. MatchOption o ((c : Command) → Asks words c → ⊥) (λ c. Asks words (meaning_of c))) e h

low_status : (b : Bool) → (if b then 0 else 1) ≤ 1
low_status true = omega arith
low_status false = omega arith

pub is_low : (c : Command) (files : FilesState) (inputs : Inputs) (text : List ℕ)
    (status : ℕ) → IsText c files inputs text status → status ≤ 1
is_low (Rewrite a) files inputs text status h =
    let zero = h.status_is in omega (arith, zero)
is_low (Run a) files inputs text status h = subst (λ s. s ≤ 1) (sym h.status_is) (low_status _)
is_low (One a) files inputs text status h = subst (λ s. s ≤ 1) (sym h.status_is) (low_status _)
is_low (Sim a) files inputs text status h = subst (λ s. s ≤ 1) (sym h.status_is) (low_status _)
is_low (Listing a) files inputs text status h = let zero = h.1 in omega (arith, zero)
is_low (Replay a) files inputs text status h = subst (λ s. s ≤ 1) (sym h.status_is) (low_status _)
is_low (Generate a) files inputs text status h =
    let zero = h.1 in omega (arith, zero)
is_low (Assemble a) files inputs text status h =
    let zero = h.status_is in omega (arith, zero)

pub succeeds : (c : Command) (files files_now : FilesState) (before now : SinkState) (inputs : Inputs)
    (status : ℕ) → AreInputs c files inputs
    → Puts (IsText c files_now inputs) status before now
    → IsSuccess c files files_now before now status
succeeds c files files_now before now inputs status read put = record {
  low = is_low c files_now inputs put.0 status put.1;
  prints = λ contents told. record {
    text = put.0;
    is = subst (λ i. IsText c files_now i put.0 status) (read contents told) put.1;
    put = put.2;
  };
}

prefix_as : (c : Command) (files files_now : FilesState) (inputs : Inputs) (before now : SinkState)
    → AreInputs c files inputs → PutsPrefix (IsText c files_now inputs) before now
    → (contents : List ℕ → List ℕ) → AreTold c files contents
    → PrintsPrefix c contents files_now before now
prefix_as c files files_now inputs before now read put contents told = record {
  text = put.0;
  status = put.1;
  is = subst (λ i. IsText c files_now i put.0 put.1) (read contents told) put.2;
  put = put.3;
}

rose_before : (a b c : ℕ) → a ≤ b → Rose b c → Rose a c
rose_before a b c low rose = omega (arith, low, rose)

-- the files were read before the command was done
pub fails_with : (c : Command) (files read_files files_now : FilesState) (before now : SinkState)
    (inputs : Inputs) (f : Failure) → AreInputs c files inputs
    → ((n : List ℕ) → files.failed_writes n ≤ read_files.failed_writes n)
    → IsPerformFailure c inputs read_files files_now before now f
    → IsFailure c files files_now before now f
fails_with c files read_files files_now before now inputs (Input line) read low h = absurd h
fails_with c files read_files files_now before now inputs (NotWritten line) read low h =
    let at : IsUnwritten c read_files files_now (λ l. line.items ≡ l) = h.1.1 in
    let since : IsUnwritten c files files_now (λ l. line.items ≡ l) =
    (at.0, at.1, rose_before _ _ _ (low at.0) at.2, at.3) in
    (h.0, (λ contents told. subst (HasBytes c) (read contents told) h.1.0, since))
fails_with c files read_files files_now before now inputs (Refused line) read low h = (
  h.1,
  λ contents told. subst (λ i. IsRefused c i line.items) (read contents told) h.0,
)
fails_with c files read_files files_now before now inputs (Layout line) read low h = (
  h.1,
  λ contents told. subst (λ i. IsLayoutRefused c i line.items) (read contents told) h.0,
)
fails_with c files read_files files_now before now inputs (Record line) read low h = (
  h.1,
  λ contents told. subst (λ i. IsRecordRefused c i line.items) (read contents told) h.0,
)
fails_with c files read_files files_now before now inputs (Text line) read low h = (
  h.1,
  λ contents told. subst (λ i. IsTextRefused c i line.items) (read contents told) h.0,
)
fails_with c files read_files files_now before now inputs Output read low h =
    (h.0, prefix_as c files files_now inputs before now read h.1)
fails_with c files read_files files_now before now inputs OutOfMemory read low h = λ contents told.
    elim h [
      | inl same ↦ inl same
      | inr part ↦ inr (prefix_as c files files_now inputs before now read part contents told)
    ]

-- a file is read after others
too_long_before : (files between now : FilesState) (name : List ℕ)
    → between.held name ≡ files.held name → files.failed_reads name ≤ between.failed_reads name
    → IsTooLong between now name → IsTooLong files now name
too_long_before files between now name same low h =
    go (files.held name) (subst (λ o. MatchOption o (Rose (between.failed_reads name) (now.failed_reads name))
    (λ file. file_limit < length file)) same h)
  where
    go : (o : Option (List ℕ))
        → MatchOption o (Rose (between.failed_reads name) (now.failed_reads name)) (λ file. file_limit < length file)
        → MatchOption o (Rose (files.failed_reads name) (now.failed_reads name)) (λ file. file_limit < length file)
    go None k = rose_before _ _ _ low k
    go (Some file) k = k

pub later_read : (files between now : FilesState) (name : List ℕ) (f : Failure)
    → between.held name ≡ files.held name → files.failed_reads name ≤ between.failed_reads name
    → IsReadFailure between now name f → IsReadFailure files now name f
later_read files between now name (Input line) same low h = elim h [
  | inl failed ↦ inl (rose_before _ _ _ low failed.0, failed.1)
  | inr long ↦ inr (too_long_before files between now name same low long.0, long.1)
]
later_read files between now name (NotWritten line) same low h = h
later_read files between now name (Refused line) same low h = h
later_read files between now name (Layout line) same low h = h
later_read files between now name (Record line) same low h = h
later_read files between now name (Text line) same low h = h
later_read files between now name Output same low h = h
later_read files between now name OutOfMemory same low h = h

-- a file of the command that is named wasn't read, after others
pub named_fails : (c : Command) (files between now : FilesState) (o : Option (List ℕ)) (f : Failure)
    → ((n : List ℕ) → between.held n ≡ files.held n)
    → ((n : List ℕ) → files.failed_reads n ≤ between.failed_reads n)
    → ((n : List ℕ) → o ≡ Some n → Contains (reads c) n)
    → IsNamedFailure between now o f → IsInputFailure c files now f
named_fails c files between now o f same low is_read h =
    (h.0, is_read h.0 h.1, later_read files between now h.0 f (same h.0) (low h.0) h.2)

-- what the status of a failure says

pub fault_of : (c : Command) (files files_now : FilesState) (before now : SinkState) (f : Failure)
    (Told : List ℕ → Type 0) → IsFailure c files files_now before now f → Told (line_of f)
    → status_of f ≡ 3 → IsFault c files files_now before now Told
fault_of c files files_now before now (Input line) Told h told three =
    let fault = h.1 in
    inl (
      h.0,
      inl (
        fault.0,
        fault.1,
        elim fault.2 [
          | inl failed ↦ inl (failed.0, subst Told failed.1 told)
          | inr long ↦ inr (long.0, subst Told long.1 told)
        ],
      ),
    )
fault_of c files files_now before now (NotWritten line) Told h told three =
    let fault : IsWriteFault c files files_now (λ l. line.items ≡ l) = h.1 in
    let at : IsUnwritten c files files_now (λ l. line.items ≡ l) = fault.1 in
    let told_so : IsUnwritten c files files_now Told = (at.0, at.1, at.2, subst Told at.3 told) in
    inl (h.0, inr (fault.0, told_so))
fault_of c files files_now before now (Refused line) Told h told three = absurd (omega (arith, three))
fault_of c files files_now before now (Layout line) Told h told three = absurd (omega (arith, three))
fault_of c files files_now before now (Record line) Told h told three = absurd (omega (arith, three))
fault_of c files files_now before now (Text line) Told h told three = absurd (omega (arith, three))
fault_of c files files_now before now Output Told h told three = inr (h, told)
fault_of c files files_now before now OutOfMemory Told h told three = absurd (omega (arith, three))

pub refusal_of : (c : Command) (files files_now : FilesState) (before now : SinkState) (f : Failure)
    (Told : List ℕ → Type 0) → IsFailure c files files_now before now f → Told (line_of f)
    → status_of f ≡ 4 → (contents : List ℕ → List ℕ) → AreTold c files contents
    → (line : List ℕ) × IsRefused c (inputs_of c contents) line × Told line
refusal_of c files files_now before now (Input line) Told h told four contents known =
    absurd (omega (arith, four))
refusal_of c files files_now before now (NotWritten line) Told h told four contents known =
    absurd (omega (arith, four))
refusal_of c files files_now before now (Refused line) Told h told four contents known =
    (line.items, h.1 contents known, told)
refusal_of c files files_now before now (Layout line) Told h told four contents known =
    absurd (omega (arith, four))
refusal_of c files files_now before now (Record line) Told h told four contents known =
    absurd (omega (arith, four))
refusal_of c files files_now before now (Text line) Told h told four contents known =
    absurd (omega (arith, four))
refusal_of c files files_now before now Output Told h told four contents known =
    absurd (omega (arith, four))
refusal_of c files files_now before now OutOfMemory Told h told four contents known =
    absurd (omega (arith, four))

pub layout_refusal_of : (c : Command) (files files_now : FilesState) (before now : SinkState)
    (f : Failure) (Told : List ℕ → Type 0) → IsFailure c files files_now before now f → Told (line_of f)
    → status_of f ≡ 6 → (contents : List ℕ → List ℕ) → AreTold c files contents
    → (line : List ℕ) × IsLayoutRefused c (inputs_of c contents) line × Told line
layout_refusal_of c files files_now before now (Input line) Told h told six contents known =
    absurd (omega (arith, six))
layout_refusal_of c files files_now before now (NotWritten line) Told h told six contents known =
    absurd (omega (arith, six))
layout_refusal_of c files files_now before now (Refused line) Told h told six contents known =
    absurd (omega (arith, six))
layout_refusal_of c files files_now before now (Layout line) Told h told six contents known =
    (line.items, h.1 contents known, told)
layout_refusal_of c files files_now before now (Record line) Told h told six contents known =
    absurd (omega (arith, six))
layout_refusal_of c files files_now before now (Text line) Told h told six contents known =
    absurd (omega (arith, six))
layout_refusal_of c files files_now before now Output Told h told six contents known =
    absurd (omega (arith, six))
layout_refusal_of c files files_now before now OutOfMemory Told h told six contents known =
    absurd (omega (arith, six))

pub record_refusal_of : (c : Command) (files files_now : FilesState) (before now : SinkState)
    (f : Failure) (Told : List ℕ → Type 0) → IsFailure c files files_now before now f → Told (line_of f)
    → status_of f ≡ 7 → (contents : List ℕ → List ℕ) → AreTold c files contents
    → (line : List ℕ) × IsRecordRefused c (inputs_of c contents) line × Told line
record_refusal_of c files files_now before now (Input line) Told h told seven contents known =
    absurd (omega (arith, seven))
record_refusal_of c files files_now before now (NotWritten line) Told h told seven contents known =
    absurd (omega (arith, seven))
record_refusal_of c files files_now before now (Refused line) Told h told seven contents known =
    absurd (omega (arith, seven))
record_refusal_of c files files_now before now (Layout line) Told h told seven contents known =
    absurd (omega (arith, seven))
record_refusal_of c files files_now before now (Record line) Told h told seven contents known =
    (line.items, h.1 contents known, told)
record_refusal_of c files files_now before now (Text line) Told h told seven contents known =
    absurd (omega (arith, seven))
record_refusal_of c files files_now before now Output Told h told seven contents known =
    absurd (omega (arith, seven))
record_refusal_of c files files_now before now OutOfMemory Told h told seven contents known =
    absurd (omega (arith, seven))

pub text_refusal_of : (c : Command) (files files_now : FilesState) (before now : SinkState)
    (f : Failure) (Told : List ℕ → Type 0) → IsFailure c files files_now before now f → Told (line_of f)
    → status_of f ≡ 8 → (contents : List ℕ → List ℕ) → AreTold c files contents
    → (line : List ℕ) × IsTextRefused c (inputs_of c contents) line × Told line
text_refusal_of c files files_now before now (Input line) Told h told eight contents known =
    absurd (omega (arith, eight))
text_refusal_of c files files_now before now (NotWritten line) Told h told eight contents known =
    absurd (omega (arith, eight))
text_refusal_of c files files_now before now (Refused line) Told h told eight contents known =
    absurd (omega (arith, eight))
text_refusal_of c files files_now before now (Layout line) Told h told eight contents known =
    absurd (omega (arith, eight))
text_refusal_of c files files_now before now (Record line) Told h told eight contents known =
    absurd (omega (arith, eight))
text_refusal_of c files files_now before now (Text line) Told h told eight contents known =
    (line.items, h.1 contents known, told)
text_refusal_of c files files_now before now Output Told h told eight contents known =
    absurd (omega (arith, eight))
text_refusal_of c files files_now before now OutOfMemory Told h told eight contents known =
    absurd (omega (arith, eight))

pub prefix_of_failure : (c : Command) (files files_now : FilesState) (before now : SinkState)
    (f : Failure) → IsFailure c files files_now before now f → status_of f ≡ 5
    → (contents : List ℕ → List ℕ) → AreTold c files contents
    → (now.taken ≡ before.taken) ⊎ PrintsPrefix c contents files_now before now
prefix_of_failure c files files_now before now (Input line) h five contents told =
    absurd (omega (arith, five))
prefix_of_failure c files files_now before now (NotWritten line) h five contents told =
    absurd (omega (arith, five))
prefix_of_failure c files files_now before now (Refused line) h five contents told =
    absurd (omega (arith, five))
prefix_of_failure c files files_now before now (Layout line) h five contents told =
    absurd (omega (arith, five))
prefix_of_failure c files files_now before now (Record line) h five contents told =
    absurd (omega (arith, five))
prefix_of_failure c files files_now before now (Text line) h five contents told =
    absurd (omega (arith, five))
prefix_of_failure c files files_now before now Output h five contents told =
    absurd (omega (arith, five))
prefix_of_failure c files files_now before now OutOfMemory h five contents told = h contents told

pub ok_as : {T E : Type 0} (P Q : T → Type 0) (r : Result T E) → ((x : T) → P x → Q x)
    → IfOk r P → IfOk r Q
ok_as P Q (Ok x) f h = f x h
ok_as P Q (Err e) f h = tt

pub err_as : {T E : Type 0} (P Q : E → Type 0) (r : Result T E) → ((e : E) → P e → Q e)
    → IfErr r P → IfErr r Q
err_as P Q (Ok x) f h = tt
err_as P Q (Err e) f h = f e h

-- ---- the files that commands write

pub has_output : (a : RewriteArguments) → Contains (writes (Rewrite a)) a.output
has_output a = (0, omega arith, refl)

-- a rewritten file wasn't written
pub rewrite_unwritten : (batches : Bool) (file bytes : List ℕ) (before now : FilesState)
    (name : List ℕ) (f : Failure) → IsRewrittenFile batches file bytes
    → IsWriteFailure before now name f → IsRewriteFailure batches file before now name f
rewrite_unwritten batches file bytes before now name (Input line) is h = absurd h
rewrite_unwritten batches file bytes before now name (NotWritten line) is h = ((bytes, is), h)
rewrite_unwritten batches file bytes before now name (Refused line) is h = absurd h
rewrite_unwritten batches file bytes before now name (Layout line) is h = h
rewrite_unwritten batches file bytes before now name (Record line) is h = h
rewrite_unwritten batches file bytes before now name (Text line) is h = h
rewrite_unwritten batches file bytes before now name Output is h = h
rewrite_unwritten batches file bytes before now name OutOfMemory is h = h

pub rewrite_kept : (batches : Bool) (output file : List ℕ) (before now : FilesState) (f : Failure)
    → IsRewriteFailure batches file before now output f → AreKept before now f
rewrite_kept batches output file before now (Input line) h four = absurd h
rewrite_kept batches output file before now (NotWritten line) h four = absurd (omega (arith, four))
rewrite_kept batches output file before now (Refused line) h four = h.1
rewrite_kept batches output file before now (Layout line) h four = absurd h
rewrite_kept batches output file before now (Record line) h four = absurd h
rewrite_kept batches output file before now (Text line) h four = absurd h
rewrite_kept batches output file before now Output h four = absurd h
rewrite_kept batches output file before now OutOfMemory h four = absurd (omega (arith, four))

pub rewrite_fails : (a : RewriteArguments) (inputs : Inputs) (before now : FilesState) (state : SinkState)
    (f : Failure) → IsRewriteFailure inputs.batches inputs.executable before now a.output f
    → IsPerformFailure (Rewrite a) inputs before now state state f
rewrite_fails a inputs before now state (Input line) h = absurd h
rewrite_fails a inputs before now state (NotWritten line) h =
    let at : IsUnwritten (Rewrite a) before now (λ l. line.items ≡ l) =
    (a.output, has_output a, h.1.0, h.1.1) in
    (refl, (h.0, at))
rewrite_fails a inputs before now state (Refused line) h = (h.0, refl)
rewrite_fails a inputs before now state (Layout line) h = absurd h
rewrite_fails a inputs before now state (Record line) h = absurd h
rewrite_fails a inputs before now state (Text line) h = absurd h
rewrite_fails a inputs before now state Output h = absurd h
rewrite_fails a inputs before now state OutOfMemory h = inl refl

pub same_taken : (o : Option (List ℕ)) → o ≡ option_map (λ t. t ++ []) o
same_taken None = refl
same_taken (Some t) = ap Some (sym (append-nil t))

-- a failure of a command that writes no file
pub plain_fails : (c : Command) (inputs : Inputs) (fb fn : FilesState) (before now : SinkState)
    (f : Failure) → FailsAs (IsText c fn inputs) (IsRefused c inputs) (IsLayoutRefused c inputs) before now f
    → IsPerformFailure c inputs fb fn before now f
plain_fails c inputs fb fn before now (Input line) h = h
plain_fails c inputs fb fn before now (NotWritten line) h = absurd h
plain_fails c inputs fb fn before now (Refused line) h = h
plain_fails c inputs fb fn before now (Layout line) h = h
plain_fails c inputs fb fn before now (Record line) h = absurd h
plain_fails c inputs fb fn before now (Text line) h = absurd h
plain_fails c inputs fb fn before now Output h = h
plain_fails c inputs fb fn before now OutOfMemory h = h

-- what is left is left also from before the file was read
pub left_before : (c : Command) (inputs : Inputs) (before between now : FilesState)
    → ((n : List ℕ) → between.held n ≡ before.held n)
    → ((n : List ℕ) → before.failed_writes n ≤ between.failed_writes n)
    → AreLeft c inputs between now → AreLeft c inputs before now
left_before c inputs before between now same low h name there = elim (h name there) [
  | inl kept ↦ inl (kept ∙ same name)
  | inr (inl written) ↦ inr (inl written)
  | inr (inr rose) ↦ inr (inr (rose_before _ _ _ (low name) rose))
]

pub kept_before : (before between now : FilesState) (f : Failure)
    → ((n : List ℕ) → between.held n ≡ before.held n)
    → AreKept between now f → AreKept before now f
kept_before before between now f same h four name = h four name ∙ same name

pub plain_failure : (c : Command) (inputs : Inputs) (fb fn : FilesState) (before now : SinkState)
    (r : Result ℕ Failure)
    → IfErr r (FailsAs (IsText c fn inputs) (IsRefused c inputs) (IsLayoutRefused c inputs) before now)
    → IfErr r (IsPerformFailure c inputs fb fn before now)
plain_failure c inputs fb fn before now r h =
    err_as (FailsAs (IsText c fn inputs) (IsRefused c inputs) (IsLayoutRefused c inputs) before now)
    (IsPerformFailure c inputs fb fn before now) r (plain_fails c inputs fb fn before now) h

pub puts_nothing : (c : Command) (files : FilesState) (inputs : Inputs) (state : SinkState)
    (r : Result ℕ Failure)
    → ((status : ℕ) → IsRewrittenText inputs.batches inputs.executable [] status
    → IsText c files inputs [] status)
    → IfOk r (IsRewrittenText inputs.batches inputs.executable [])
    → IfOk r (λ status. Puts (IsText c files inputs) status state state)
puts_nothing c files inputs state r is h =
    ok_as (IsRewrittenText inputs.batches inputs.executable [])
    (λ status. Puts (IsText c files inputs) status state state) r
    (λ status k. ([], is status k, same_taken state.taken)) h
