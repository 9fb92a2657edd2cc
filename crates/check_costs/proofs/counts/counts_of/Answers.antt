use mir.Val.{bool_byte}
use Rattle.std.proofs.Common.{◌≡◌, ◌+◌, ◌<◌, ◌++◌, Bool, true, false, cond, refl, length, drop, set, slice_index_or, take, sym, ap, ◌∙◌, subst, arith}
use Rattle.std.specs.Prelude.{All, is_some}
use Rattle.std.proofs.lemmas.List.{length-set}
use Rattle.templates.specs.Code.{code_of}
use Rattle.check_costs.specs.Kinds.{kinds_of}
use Rattle.check_costs.specs.Counts.{AreSums, by_kind, counts_by, has_code, plus}
use Rattle.check_costs.specs.Given.{AreCountsOf}
use Rattle.check_costs.proofs.Adding.{member_of, front_of, one_taken, one_more, not_below, written_back, all_counted}
use Rattle.check_costs.proofs.Numbering.{function_below}
use Rattle.check_costs.proofs.Totals.{kinds_are, sums_are}
use Rattle.check_costs.proofs.counts.counts_of.Goals as goal

byte_is : (b : Bool) → bool_byte b ≡ cond b 1 0
byte_is true = refl
byte_is false = refl

pub push_kinds-requires : goal.push_kinds-requires
push_kinds-requires c = record {
  run = c.requires.runs.each c.entry-item.result
      (member_of c.args.plan.now c.entries-entry-items.result.now c.loop-entry.entry-index c.entry-item.result
      c.entries-entry-items.ensures.value c.loop-entry-test.true c.entry-item.is);
}

pub add-requires : goal.add-requires
add-requires c =
    let e = c.entry-item.result in
    let come = c.loop-entry.invariant.come in
    let next = not_below come.0 _ (drop (c.loop-entry.entry-index + 1) c.args.plan.now) e
    (front_of c.args.plan.now c.entries-entry-items.result.now c.loop-entry.entry-index e
    c.entries-entry-items.ensures.value c.loop-entry-test.true c.entry-item.is) come.2 in
    let below = function_below c.args.symbols.now e.address c.in_ok-function.function
    (c.in_ok-function.ensures.function c.args.symbols.now come.0 come.1 next.0) in
    let long = ap length c.deref_mut.ensures.value in
    omega (arith, below, long, c.loop-entry.invariant.counts.count)

pub loop-entry-preserved : goal.loop-entry-preserved
loop-entry-preserved c =
    let e = c.entry-item.result in
    let i = c.loop-entry.entry-index in
    let plan = c.args.plan.now in
    let ys = c.entries-entry-items.result.now in
    let symbols = c.args.symbols.now in
    let code = code_of c.args.code.now in
    let old = c.loop-entry.counts in
    let n = c.in_ok-function.function in
    let come = c.loop-entry.invariant.come in
    let counts = c.loop-entry.invariant.counts in
    let next = not_below come.0 _ (drop (i + 1) plan) e
    (front_of plan ys i e c.entries-entry-items.ensures.value c.loop-entry-test.true c.entry-item.is) come.2 in
    let of = c.in_ok-function.ensures.function symbols come.0 come.1 next.0 in
    let below = function_below symbols e.address n of in
    let low : n < length old.items = omega (arith, below, counts.count) in
    let kinds = c.deref.ensures.value ∙ c.in_ok-push_kinds.ensures.kinds
    ∙ ap (λ ks. ks ++ kinds_of code e) c.clear.ensures.items in
    let instructions : c.from-instructions.result ≡ cond (has_code code e) 1 0 =
    c.from-instructions.ensures ∙ byte_is c.is_some.result
    ∙ ap (λ b. cond b 1 0) (c.is_some.ensures ∙ ap (λ o. is_some o) c.at.ensures.value) in
    let more = c.of.ensures ∙ (λ j. counts_by (instructions j) (kinds j)) in
    let set_is = c.in_ok-add.ensures
    ∙ ap (λ xs. set xs n (plus (slice_index_or xs n c.of.result) c.of.result)) c.deref_mut.ensures.value in
    let new = c.add.new.counts in
    let left = take old.len (new ++ drop (length new) old.items) in
    let back = written_back old.items new old.len old.ok.0
    (ap length set_is ∙ length-set old.items n (plus (slice_index_or old.items n c.of.result) c.of.result)) in
    record {
      come = (e.address, c.in_ok-function.ensures.come symbols come.0 come.1 next.0, next.1);
      counts = subst (λ es. AreCountsOf symbols code es left)
          (one_taken plan ys i e c.entries-entry-items.ensures.value c.loop-entry-test.true c.entry-item.is)
          (one_more symbols code (take i plan) e old.items left n c.of.result counts of low more (back ∙ set_is));
    }

pub returns-clause-value : goal.returns-clause-value
returns-clause-value c =
    all_counted c.args.symbols.now (code_of c.args.code.now) c.args.plan.now c.entries-entry-items.result.now
    c.loop-entry.counts.items c.loop-entry.entry-index c.entries-entry-items.ensures.value c.loop-entry-test.false
    c.loop-entry.invariant.counts

pub returns-clause-kinds : goal.returns-clause-kinds
returns-clause-kinds c =
    subst (All (λ x. by_kind x ≡ x.words))
    (sym (all_counted c.args.symbols.now (code_of c.args.code.now) c.args.plan.now c.entries-entry-items.result.now
    c.loop-entry.counts.items c.loop-entry.entry-index c.entries-entry-items.ensures.value c.loop-entry-test.false
    c.loop-entry.invariant.counts))
    (kinds_are c.args.symbols.now (code_of c.args.code.now) c.args.plan.now)

pub returns-clause-sums : goal.returns-clause-sums
returns-clause-sums c = λ program image same rewriting.
    subst (AreSums c.args.code.now image)
    (sym (all_counted c.args.symbols.now (code_of c.args.code.now) c.args.plan.now c.entries-entry-items.result.now
    c.loop-entry.counts.items c.loop-entry.entry-index c.entries-entry-items.ensures.value c.loop-entry-test.false
    c.loop-entry.invariant.counts))
    (sums_are program c.args.symbols.now c.args.plan.now c.args.code.now image same c.words.ensures.ascends rewriting)
