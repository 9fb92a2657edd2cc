use Rattle.std.proofs.Common.{◌≤◌, ◌≡◌, ◌∙◌, ℕ, List, arith, option_map, refl}
use Rattle.std.proofs.lemmas.Result.{err_from_is_err_and}
use Rattle.dsm_io.specs.States.{FilesState}
use Rattle.views.specs.Inputs.{names_of}
use Rattle.views.proofs.Inputs.{bytes_before, content_before, has_executable, has_layout, has_text, has_verified, named_unread}
use Rattle.views.proofs.input.read_inputs.Goals as goal

pub returns-in_err-executable-clause-failure : goal.returns-in_err-executable-clause-failure
returns-in_err-executable-clause-failure g c =
    let n = names_of c.args.names in
    let p = err_from_is_err_and c.from_residual.result c.from_residual.ensures.1 in
    rw (p.1, p.2) (n.executable, has_executable n, c.in_err-executable.ensures.failure)

pub returns-in_err-verified-clause-failure : goal.returns-in_err-verified-clause-failure
returns-in_err-verified-clause-failure g c =
    let n = names_of c.args.names in
    let files : FilesState = g.F.Files.state c.args.files.now in
    let between : FilesState = g.F.Files.state c.read_file.new.files in
    let files_now : FilesState = g.F.Files.state c.read_named.new.files in
    let p = err_from_is_err_and c.from_residual-in_err-verified.result c.from_residual-in_err-verified.ensures.1 in
    rw (p.1, p.2) (named_unread n files between files_now n.verified c.in_err-verified.field-0.0
    c.in_ok-executable.ensures.contents c.in_ok-executable.ensures.reads (has_verified n)
    c.in_err-verified.ensures.failure)

pub returns-in_err-layout-clause-failure : goal.returns-in_err-layout-clause-failure
returns-in_err-layout-clause-failure g c =
    let n = names_of c.args.names in
    let files : FilesState = g.F.Files.state c.args.files.now in
    let between : FilesState = g.F.Files.state c.read_named.new.files in
    let files_now : FilesState = g.F.Files.state c.read_named-2.new.files in
    let low : (x : List ℕ) → files.failed_reads x ≤ between.failed_reads x =
    λ x. let one = c.in_ok-executable.ensures.reads x in
    let two = c.in_ok-verified.ensures.reads x in omega (arith, one, two) in
    let p = err_from_is_err_and c.from_residual-in_err-layout.result c.from_residual-in_err-layout.ensures.1 in
    rw (p.1, p.2) (named_unread n files between files_now n.layout c.in_err-layout.field-0.0
    (λ x. c.in_ok-verified.ensures.contents x ∙ c.in_ok-executable.ensures.contents x) low (has_layout n)
    c.in_err-layout.ensures.failure)

pub returns-in_err-text-clause-failure : goal.returns-in_err-text-clause-failure
returns-in_err-text-clause-failure g c =
    let n = names_of c.args.names in
    let files : FilesState = g.F.Files.state c.args.files.now in
    let between : FilesState = g.F.Files.state c.read_named-2.new.files in
    let files_now : FilesState = g.F.Files.state c.read_bytes.new.files in
    let low : (x : List ℕ) → files.failed_reads x ≤ between.failed_reads x =
    λ x. let one = c.in_ok-executable.ensures.reads x in
    let two = c.in_ok-verified.ensures.reads x in
    let three = c.in_ok-layout.ensures.reads x in omega (arith, one, two, three) in
    let p = err_from_is_err_and c.from_residual-in_err-text.result c.from_residual-in_err-text.ensures.1 in
    rw (p.1, p.2) (named_unread n files between files_now n.text c.in_err-text.field-0.0
    (λ x. c.in_ok-layout.ensures.contents x ∙ c.in_ok-verified.ensures.contents x
    ∙ c.in_ok-executable.ensures.contents x) low (has_text n) c.in_err-text.ensures.failure)

pub returns-clause-ok : goal.returns-clause-ok
returns-clause-ok g c =
    let n = names_of c.args.names in
    let files : FilesState = g.F.Files.state c.args.files.now in
    let first : FilesState = g.F.Files.state c.read_file.new.files in
    let second : FilesState = g.F.Files.state c.read_named.new.files in
    let third : FilesState = g.F.Files.state c.read_named-2.new.files in
    let verified = option_map (λ b. b.items) c.in_ok-verified.verified in
    let layout = option_map (λ b. b.items) c.in_ok-layout.layout in
    let same_second : (x : List ℕ) → second.held x ≡ files.held x =
    λ x. c.in_ok-verified.ensures.contents x ∙ c.in_ok-executable.ensures.contents x in
    let same_third : (x : List ℕ) → third.held x ≡ files.held x =
    λ x. c.in_ok-layout.ensures.contents x ∙ same_second x in
    record {
      executable = c.in_ok-executable.ensures.ok;
      code = refl;
      verified = content_before files first n.verified verified c.in_ok-executable.ensures.contents
          c.in_ok-verified.ensures.ok;
      layout = content_before files second n.layout layout same_second c.in_ok-layout.ensures.ok;
      text = bytes_before files third n.text c.in_ok-text.text.items same_third
          c.in_ok-text.ensures.ok;
      batches = refl;
    }
