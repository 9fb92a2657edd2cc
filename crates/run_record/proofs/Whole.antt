-- A text that was read line after line, and what is known of its record.
use Rattle.std.proofs.Common.{◌≡◌, ℕ, List, [], ◌++◌, Ok, Err, refl, sym, ap, ◌∙◌, subst, append-nil}
use Rattle.std.specs.Prelude.{codes, IfOk, IfErr, IsErrOf, MatchResult}
use Rattle.std.specs.declared.result.Result.{Result}
use Rattle.run_record.specs.declared.Record.{Record}
use Rattle.run_record.specs.declared.refused.RecordRule.{RecordRule}
use Rattle.run_record.specs.declared.refused.RecordRefused.{RecordRefused}
use Rattle.run_record.specs.declared.refused.RecordRefused.TheVariants.{Broken, OutOfMemory}
use Rattle.run_record.specs.Reading.{IsFault}
use Rattle.run_record.specs.Record.{IsRecord}
use Rattle.run_record.specs.Rules.{Version, IsFirstFault}
use Rattle.run_record.specs.Telling.{IsOfWords}
use Rattle.run_record.specs.Text.{number_line, version_of, version_line, batch_line, code_line, block_lines, journal_lines, record_text}
use Rattle.run_record.proofs.Told.{whole, record_told}
use Rattle.run_record.proofs.NoFault.{no_fault}

pub whole_text : (r : Record) (text a b c d e f g : List ℕ)
    → text ≡ version_line (version_of r.code) ++ a
    → a ≡ number_line (codes "nodes ") r.nodes ++ b → b ≡ number_line (codes "budget ") r.budget ++ c
    → c ≡ batch_line r.batch ++ d → d ≡ code_line r.code ++ e → e ≡ block_lines r.blocks ++ f
    → f ≡ journal_lines (version_of r.code) 0 r.journals ++ g → g ≡ [] → text ≡ record_text r
whole_text r text a b c d e f g h1 h2 h3 h4 h5 h6 h7 h8 =
    let v = version_of r.code in
    let journals : f ≡ journal_lines v 0 r.journals
    = h7 ∙ ap (λ t. journal_lines v 0 r.journals ++ t) h8 ∙ append-nil (journal_lines v 0 r.journals) in
    let blocks : e ≡ block_lines r.blocks ++ journal_lines v 0 r.journals
    = h6 ∙ ap (λ t. block_lines r.blocks ++ t) journals in
    let code = h5 ∙ ap (λ t. code_line r.code ++ t) blocks in
    let batch = h4 ∙ ap (λ t. batch_line r.batch ++ t) code in
    let budget = h3 ∙ ap (λ t. number_line (codes "budget ") r.budget ++ t) batch in
    let nodes = h2 ∙ ap (λ t. number_line (codes "nodes ") r.nodes ++ t) budget in
    h1 ∙ ap (λ t. version_line v ++ t) nodes ∙ sym (whole r)

pub refused_by : (text : List ℕ) (res : Result Record RecordRefused)
    → IfErr res (IsFault Version (record { bytes = text; number = 1 }))
    → (rule : RecordRule) (line : ℕ) → IsErrOf res (Broken rule line) → IsFirstFault text rule line
refused_by text res h rule line e =
    subst (λ r. IfErr r (IsFault Version (record { bytes = text; number = 1 }))) e h

pub complete_by : (text : List ℕ) (res : Result Record RecordRefused)
    → IfOk res (λ s. text ≡ record_text s) → IfOk res IsRecord → IfOk res IsOfWords
    → IfErr res (IsFault Version (record { bytes = text; number = 1 }))
    → (r : Record) → IsRecord r → IsOfWords r → text ≡ record_text r
    → MatchResult res (λ s. s ≡ r) (λ e. e ≡ OutOfMemory)
complete_by text (Ok s) is rec words err r p h e =
    record_told s r rec words p h (sym is ∙ e)
complete_by text (Err OutOfMemory) is rec words err r p h e = refl
complete_by text (Err (Broken rule line)) is rec words err r p h e =
    absurd (no_fault r p h rule line (subst (λ t. IsFirstFault t rule line) e err))
