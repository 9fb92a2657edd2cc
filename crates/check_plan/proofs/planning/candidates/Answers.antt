use Rattle.std.proofs.Common.{inl, inr}
use Rattle.check_plan.proofs.MemberLemmas.{candidates_are}
use Rattle.check_plan.proofs.planning.candidates.Goals as goal

pub returns : goal.returns
returns c = record {
  value =
      candidates_are c.args.i.now c.union-own.result c.difference.result
      (λ r lt. (
        λ m. elim ((c.union-own.ensures r lt).0 m) [
          | inl u ↦ inl ((c.uses.ensures r lt).0 u)
          | inr d ↦ inr ((c.defs.ensures r lt).0 d)
        ],
        λ h. (c.union-own.ensures r lt).1 (elim h [
          | inl u ↦ inl ((c.uses.ensures r lt).1 u)
          | inr d ↦ inr ((c.defs.ensures r lt).1 d)
        ]),
      ))
      (λ r lt. (
        λ m. ((c.difference.ensures r lt).0 m).1,
        λ out. (c.difference.ensures r lt).1 (c.all.ensures r lt, out),
      ));
}
