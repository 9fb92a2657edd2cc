use Rattle.std.proofs.Common.{◌∙◌, ap, sym, Some}
use Rattle.std.specs.Prelude.{unwrap_or}
use Rattle.rewriter.proofs.FileLemmas.{has_word}
use Rattle.rewriter.proofs.file_bytes.word_of.Goals as goal

pub returns : goal.returns
returns c = record {
  value = has_word c.args.image.now c.args.k 0 c.requires.within
      ∙ ap (λ o. Some (unwrap_or o 0)) (sym c.word_at.ensures.value) ∙ ap Some (sym c.unwrap_or.ensures);
}
