use Rattle.std.proofs.lemmas.Bool.{false≢true}
use Rattle.rewrite_verify.proofs.sections.has_only.Goals as goal

pub returns-in-None : goal.returns-in-None
returns-in-None c = record {
  value = (
    λ t. absurd (false≢true t),
    λ h. absurd (c.in-None.ensures.value c.args.wanted.now.bytes.now h),
  );
}
