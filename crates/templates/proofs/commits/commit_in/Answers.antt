use Rattle.std.proofs.Common.{sym, ap, ◌∙◌, inl, inr}
use Rattle.templates.specs.declared.places.Part.{Part}
use Rattle.templates.specs.Code.{code_of}
use Rattle.templates.specs.Runs.{code_from}
use Rattle.templates.specs.Sequences.{items_in}
use Rattle.templates.specs.Committing.{kind_at}
use Rattle.templates.proofs.CommitLemmas.{head_never, fallback_never}
use Rattle.templates.proofs.commits.commit_in.Goals as goal

pub returns-in-Head : goal.returns-in-Head
returns-in-Head c =
    let e = c.args.entry.now in
    let code = code_of c.args.code.now in
    let ws = code_from code e.address e.run in
    elim c.in-Head.is [
      | inl is ↦ (record { value = head_never e.address e.batch ws c.args.word ∙ ap (λ (p : Part). kind_at (items_in code e p) c.args.word) (sym is) })
      | inr is ↦ (record { value = fallback_never e.address e.batch ws c.args.word ∙ ap (λ (p : Part). kind_at (items_in code e p) c.args.word) (sym is) })
    ]
