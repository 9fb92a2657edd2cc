use Rattle.std.proofs.Common.{◌∙◌, false, sym, rules}
use Rattle.std.proofs.lemmas.Bool.{false≢true}
use Rattle.rewrite_verify.proofs.serving.serves.Goals as goal
use Rattle.rewrite_verify.proofs.serving.serves.Goals.{then-eq, else-eq, then-has_single, else-has_single}

pub returns-else-polls_well : goal.returns-else-polls_well
returns-else-polls_well c =
    let no = c.if-polls_well.false in
    record {
      value = (
        λ t. absurd (false≢true (sym no ∙ t)),
        λ h. elim c.if-has_single.branch [
          | then-has_single w ↦ w.value-is ∙ w.polls_well.ensures.value.1 (h.may_poll, h.polls)
          | else-has_single w ↦ elim c.if-eq.branch [
            | then-eq v ↦
                absurd (false≢true (sym w.if-has_single.false ∙ v.value-is
                ∙ v.has_single.ensures.value.1 h.single))
            | else-eq v ↦ absurd (search rules)
          ]
        ],
      );
    }
