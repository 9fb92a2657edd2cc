use Rattle.std.proofs.Common.{◌+◌, ◌≤◌, ◌++◌, ◌∷◌, map, drop, length, take, sym, ap, ◌∙◌, subst}
use Rattle.std.specs.Prelude.{All}
use Rattle.std.specs.List.{flat_map}
use Rattle.templates.specs.Code.{code_of}
use Rattle.check_costs.specs.Kinds.{kinds_of}
use Rattle.check_costs.specs.Tally.{first_label, label_in, labels_at}
use Rattle.check_costs.proofs.Adding.{member_of, front_of, one_taken, not_below}
use Rattle.check_costs.proofs.Labelling.{one_labelled, all_labelled, labels_within, labels_length}
use Rattle.check_costs.proofs.labels.labels_of.Goals as goal

pub push_kinds-requires : goal.push_kinds-requires
push_kinds-requires c = record {
  run = c.requires.runs.each c.entry-item.result
      (member_of c.args.plan.now c.entries-entry-items.result.now c.loop-entry.entry-index c.entry-item.result
      c.entries-entry-items.ensures.value c.loop-entry-test.true c.entry-item.is);
}

pub loop-entry-preserved : goal.loop-entry-preserved
loop-entry-preserved c =
    let e = c.entry-item.result in
    let i = c.loop-entry.entry-index in
    let plan = c.args.plan.now in
    let ys = c.entries-entry-items.result.now in
    let symbols = c.args.symbols.now in
    let code = code_of c.args.code.now in
    let come = c.loop-entry.invariant.come in
    let next = not_below come.0 _ (drop (i + 1) plan) e
    (front_of plan ys i e c.entries-entry-items.ensures.value c.loop-entry-test.true c.entry-item.is) come.2 in
    let of = c.in_ok-function.ensures.function symbols come.0 come.1 next.0 in
    let kinds = c.deref.ensures.value ∙ c.in_ok-push_kinds.ensures.kinds
    ∙ ap (λ ks. ks ++ kinds_of code e) c.clear.ensures.items in
    record {
      come = (e.address, c.in_ok-function.ensures.come symbols come.0 come.1 next.0, next.1);
      labels = c.in_ok-push_labels.ensures
          ∙ (λ j. c.loop-entry.invariant.labels j ++ map (label_in (of j)) (kinds j))
          ∙ one_labelled symbols code (take i plan) e
          ∙ ap (λ es. first_label symbols ∷ flat_map (labels_at symbols code) es)
          (one_taken plan ys i e c.entries-entry-items.ensures.value c.loop-entry-test.true c.entry-item.is);
    }

pub returns-clause-value : goal.returns-clause-value
returns-clause-value c =
    all_labelled c.args.symbols.now (code_of c.args.code.now) c.args.plan.now c.entries-entry-items.result.now
    c.loop-entry.labels.items c.loop-entry.entry-index c.entries-entry-items.ensures.value c.loop-entry-test.false
    c.loop-entry.invariant.labels

pub returns-clause-functions : goal.returns-clause-functions
returns-clause-functions c =
    subst (All (λ l. l.function ≤ length c.args.symbols.now))
    (sym (all_labelled c.args.symbols.now (code_of c.args.code.now) c.args.plan.now c.entries-entry-items.result.now
    c.loop-entry.labels.items c.loop-entry.entry-index c.entries-entry-items.ensures.value c.loop-entry-test.false
    c.loop-entry.invariant.labels))
    (labels_within c.args.symbols.now (code_of c.args.code.now) c.args.plan.now)

pub returns-clause-each : goal.returns-clause-each
returns-clause-each c = λ program image same rewriting.
    ap length (all_labelled c.args.symbols.now (code_of c.args.code.now) c.args.plan.now
    c.entries-entry-items.result.now c.loop-entry.labels.items c.loop-entry.entry-index
    c.entries-entry-items.ensures.value c.loop-entry-test.false c.loop-entry.invariant.labels)
    ∙ labels_length program c.args.symbols.now c.args.plan.now c.args.code.now image same rewriting
