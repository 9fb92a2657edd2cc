use Rattle.std.proofs.lemmas.Result.{err_from_is_err_and}
use Rattle.std.proofs.Common.{◌≤◌, ◌≡◌, ◌∙◌, ℕ, List, option_map, ap, arith, refl, subst}
use Rattle.command_line.specs.Meaning.{meaning_of}
use Rattle.dsm_io.specs.States.{FilesState}
use Rattle.commands.specs.Inputs.{FileNames, file_names}
use Rattle.judged_files.specs.Inputs.{Inputs}
use Rattle.judged_files.specs.Failures.{AreBytes, AreContents, IsNamedFailure}
use Rattle.commands.specs.Failures.{AreRead}
use Rattle.commands.proofs.AnswerLemmas.{named_fails}
use Rattle.commands.proofs.InputLemmas.{bytes_before, content_before, inputs_read, none_long, reads_input, reads_code, reads_verified, reads_layout, reads_text}
use Rattle.commands.proofs.input.read_inputs.Goals as goal

pub returns-in_err-executable-clause-failure : goal.returns-in_err-executable-clause-failure
returns-in_err-executable-clause-failure g c =
    let files : FilesState = g.F.Files.state c.args.files.now in
    let files_now : FilesState = g.F.Files.state c.read_bytes.new.files in
    let cmd = meaning_of c.args.command.now in
    let f = c.in_err-executable.field-0.0 in
    let failed : IsNamedFailure files files_now ((file_names cmd).executable) f =
    subst (λ o. IsNamedFailure files files_now o f) (ap (λ (n : FileNames). n.executable) c.file_names-names.ensures) c.in_err-executable.ensures.failure in
    let p = err_from_is_err_and c.from_residual.result c.from_residual.ensures.1 in
    rw (p.1, p.2) (named_fails cmd files files files_now ((file_names cmd).executable) f (λ n. refl)
    (λ n. omega arith) (reads_input cmd) failed)

pub returns-in_err-code-clause-failure : goal.returns-in_err-code-clause-failure
returns-in_err-code-clause-failure g c =
    let files : FilesState = g.F.Files.state c.args.files.now in
    let between : FilesState = g.F.Files.state c.read_bytes.new.files in
    let files_now : FilesState = g.F.Files.state c.read_named.new.files in
    let cmd = meaning_of c.args.command.now in
    let f = c.in_err-code.field-0.0 in
    let failed : IsNamedFailure between files_now ((file_names cmd).code) f =
    subst (λ o. IsNamedFailure between files_now o f) (ap (λ (n : FileNames). n.code) c.file_names-names.ensures) c.in_err-code.ensures.failure in
    let p = err_from_is_err_and c.from_residual-in_err-code.result c.from_residual-in_err-code.ensures.1 in
    rw (p.1, p.2) (named_fails cmd files between files_now ((file_names cmd).code) f c.in_ok-executable.ensures.contents
    c.in_ok-executable.ensures.reads (reads_code cmd) failed)

pub returns-in_err-verified-clause-failure : goal.returns-in_err-verified-clause-failure
returns-in_err-verified-clause-failure g c =
    let files : FilesState = g.F.Files.state c.args.files.now in
    let between : FilesState = g.F.Files.state c.read_named.new.files in
    let files_now : FilesState = g.F.Files.state c.read_named-2.new.files in
    let cmd = meaning_of c.args.command.now in
    let f = c.in_err-verified.field-0.0 in
    let failed : IsNamedFailure between files_now ((file_names cmd).verified) f =
    subst (λ o. IsNamedFailure between files_now o f) (ap (λ (n : FileNames). n.verified) c.file_names-names.ensures) c.in_err-verified.ensures.failure in
    let low : (n : List ℕ) → files.failed_reads n ≤ between.failed_reads n =
    λ n. let one = c.in_ok-executable.ensures.reads n in
    let two = c.in_ok-code.ensures.reads n in omega (arith, one, two) in
    let p = err_from_is_err_and c.from_residual-in_err-verified.result c.from_residual-in_err-verified.ensures.1 in
    rw (p.1, p.2) (named_fails cmd files between files_now ((file_names cmd).verified) f
    (λ n. c.in_ok-code.ensures.contents n ∙ c.in_ok-executable.ensures.contents n) low
    (reads_verified cmd) failed)

pub returns-in_err-layout-clause-failure : goal.returns-in_err-layout-clause-failure
returns-in_err-layout-clause-failure g c =
    let files : FilesState = g.F.Files.state c.args.files.now in
    let between : FilesState = g.F.Files.state c.read_named-2.new.files in
    let files_now : FilesState = g.F.Files.state c.read_named-3.new.files in
    let cmd = meaning_of c.args.command.now in
    let f = c.in_err-layout.field-0.0 in
    let failed : IsNamedFailure between files_now ((file_names cmd).layout) f =
    subst (λ o. IsNamedFailure between files_now o f) (ap (λ (n : FileNames). n.layout) c.file_names-names.ensures) c.in_err-layout.ensures.failure in
    let low : (n : List ℕ) → files.failed_reads n ≤ between.failed_reads n =
    λ n. let one = c.in_ok-executable.ensures.reads n in
    let two = c.in_ok-code.ensures.reads n in
    let three = c.in_ok-verified.ensures.reads n in omega (arith, one, two, three) in
    let p = err_from_is_err_and c.from_residual-in_err-layout.result c.from_residual-in_err-layout.ensures.1 in
    rw (p.1, p.2) (named_fails cmd files between files_now ((file_names cmd).layout) f
    (λ n. c.in_ok-verified.ensures.contents n ∙ c.in_ok-code.ensures.contents n
    ∙ c.in_ok-executable.ensures.contents n) low (reads_layout cmd) failed)

pub returns-in_err-text-clause-failure : goal.returns-in_err-text-clause-failure
returns-in_err-text-clause-failure g c =
    let files : FilesState = g.F.Files.state c.args.files.now in
    let between : FilesState = g.F.Files.state c.read_named-3.new.files in
    let files_now : FilesState = g.F.Files.state c.read_bytes-2.new.files in
    let cmd = meaning_of c.args.command.now in
    let f = c.in_err-text.field-0.0 in
    let failed : IsNamedFailure between files_now ((file_names cmd).text) f =
    subst (λ o. IsNamedFailure between files_now o f) (ap (λ (n : FileNames). n.text) c.file_names-names.ensures) c.in_err-text.ensures.failure in
    let low : (n : List ℕ) → files.failed_reads n ≤ between.failed_reads n =
    λ n. let one = c.in_ok-executable.ensures.reads n in
    let two = c.in_ok-code.ensures.reads n in
    let three = c.in_ok-verified.ensures.reads n in
    let four = c.in_ok-layout.ensures.reads n in omega (arith, one, two, three, four) in
    let p = err_from_is_err_and c.from_residual-in_err-text.result c.from_residual-in_err-text.ensures.1 in
    rw (p.1, p.2) (named_fails cmd files between files_now ((file_names cmd).text) f
    (λ n. c.in_ok-layout.ensures.contents n ∙ c.in_ok-verified.ensures.contents n
    ∙ c.in_ok-code.ensures.contents n ∙ c.in_ok-executable.ensures.contents n) low (reads_text cmd)
    failed)

pub returns-clause-ok : goal.returns-clause-ok
returns-clause-ok g c =
    let cmd = meaning_of c.args.command.now in
    let files : FilesState = g.F.Files.state c.args.files.now in
    let first : FilesState = g.F.Files.state c.read_bytes.new.files in
    let second : FilesState = g.F.Files.state c.read_named.new.files in
    let third : FilesState = g.F.Files.state c.read_named-2.new.files in
    let fourth : FilesState = g.F.Files.state c.read_named-3.new.files in
    let code = option_map (λ b. b.items) c.in_ok-code.code in
    let verified = option_map (λ b. b.items) c.in_ok-verified.verified in
    let layout = option_map (λ b. b.items) c.in_ok-layout.layout in
    let same_second : (n : List ℕ) → second.held n ≡ files.held n =
    λ n. c.in_ok-code.ensures.contents n ∙ c.in_ok-executable.ensures.contents n in
    let same_third : (n : List ℕ) → third.held n ≡ files.held n =
    λ n. c.in_ok-verified.ensures.contents n ∙ same_second n in
    let given : Inputs = record {
      executable = c.in_ok-executable.executable.items;
      code = code;
      verified = verified;
      layout = layout;
      text = c.in_ok-text.text.items;
      batches = c.file_names-names.result.batches;
    } in
    let read : AreRead (file_names cmd) files given = record {
      executable = subst (λ o. AreBytes files o given.executable) (ap (λ (n : FileNames). n.executable) c.file_names-names.ensures)
          c.in_ok-executable.ensures.ok;
      code = content_before files first ((file_names cmd).code) code c.in_ok-executable.ensures.contents
          (subst (λ o. AreContents first o code) (ap (λ (n : FileNames). n.code) c.file_names-names.ensures) c.in_ok-code.ensures.ok);
      verified = content_before files second ((file_names cmd).verified) verified same_second
          (subst (λ o. AreContents second o verified) (ap (λ (n : FileNames). n.verified) c.file_names-names.ensures)
          c.in_ok-verified.ensures.ok);
      layout = content_before files third ((file_names cmd).layout) layout same_third
          (subst (λ o. AreContents third o layout) (ap (λ (n : FileNames). n.layout) c.file_names-names.ensures) c.in_ok-layout.ensures.ok);
      text = bytes_before files fourth ((file_names cmd).text) given.text
          (λ n. c.in_ok-layout.ensures.contents n ∙ same_third n)
          (subst (λ o. AreBytes fourth o given.text) (ap (λ (n : FileNames). n.text) c.file_names-names.ensures)
          c.in_ok-text.ensures.ok);
      batches = ap (λ (n : FileNames). n.batches) c.file_names-names.ensures;
    } in
    inputs_read cmd files given read

pub returns-clause-longer : goal.returns-clause-longer
returns-clause-longer g c = λ name content there is long.
    let cmd = meaning_of c.args.command.now in
    let files : FilesState = g.F.Files.state c.args.files.now in
    let first : FilesState = g.F.Files.state c.read_bytes.new.files in
    let second : FilesState = g.F.Files.state c.read_named.new.files in
    let third : FilesState = g.F.Files.state c.read_named-2.new.files in
    let fourth : FilesState = g.F.Files.state c.read_named-3.new.files in
    let code = option_map (λ b. b.items) c.in_ok-code.code in
    let verified = option_map (λ b. b.items) c.in_ok-verified.verified in
    let layout = option_map (λ b. b.items) c.in_ok-layout.layout in
    let same_second : (n : List ℕ) → second.held n ≡ files.held n =
    λ n. c.in_ok-code.ensures.contents n ∙ c.in_ok-executable.ensures.contents n in
    let same_third : (n : List ℕ) → third.held n ≡ files.held n =
    λ n. c.in_ok-verified.ensures.contents n ∙ same_second n in
    let given : Inputs = record {
      executable = c.in_ok-executable.executable.items;
      code = code;
      verified = verified;
      layout = layout;
      text = c.in_ok-text.text.items;
      batches = c.file_names-names.result.batches;
    } in
    let read : AreRead (file_names cmd) files given = record {
      executable = subst (λ o. AreBytes files o given.executable) (ap (λ (n : FileNames). n.executable) c.file_names-names.ensures)
          c.in_ok-executable.ensures.ok;
      code = content_before files first ((file_names cmd).code) code c.in_ok-executable.ensures.contents
          (subst (λ o. AreContents first o code) (ap (λ (n : FileNames). n.code) c.file_names-names.ensures) c.in_ok-code.ensures.ok);
      verified = content_before files second ((file_names cmd).verified) verified same_second
          (subst (λ o. AreContents second o verified) (ap (λ (n : FileNames). n.verified) c.file_names-names.ensures)
          c.in_ok-verified.ensures.ok);
      layout = content_before files third ((file_names cmd).layout) layout same_third
          (subst (λ o. AreContents third o layout) (ap (λ (n : FileNames). n.layout) c.file_names-names.ensures) c.in_ok-layout.ensures.ok);
      text = bytes_before files fourth ((file_names cmd).text) given.text
          (λ n. c.in_ok-layout.ensures.contents n ∙ same_third n)
          (subst (λ o. AreBytes fourth o given.text) (ap (λ (n : FileNames). n.text) c.file_names-names.ensures)
          c.in_ok-text.ensures.ok);
      batches = ap (λ (n : FileNames). n.batches) c.file_names-names.ensures;
    } in
    none_long cmd files given name content read there is long
