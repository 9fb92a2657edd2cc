use Rattle.std.proofs.Common.{◌-◌, refl, ap, ◌∙◌, arith}
use Rattle.check_costs.proofs.Numbering.{none_left, one_left, some_left}
use Rattle.check_costs.proofs.functions.Functions.at.Goals as goal

pub returns-then-count-eq0-clause-function : goal.returns-then-count-eq0-clause-function
returns-then-count-eq0-clause-function c = λ symbols before h le.
    let f = c.begin.new.self in
    c.len.ensures ∙ f.sorted.ok.0
    ∙ none_left symbols c.args.address c.count_running-count.result f
    (record { sorted = f.sorted; begun = f.begun; running = c.truncate.new.self })
    (c.in_ok-begin.ensures.begun symbols before h le) c.count_running-count.ensures refl refl
    c.truncate.ensures.items c.if-count-eq0.true

pub overflow_sub-result : goal.overflow_sub-result
overflow_sub-result c =
    let f = c.begin.new.self in
    let come = c.requires.come in
    let count = c.len-2.ensures ∙ f.sorted.ok.0 in
    let begun = c.in_ok-begin.ensures.begun come.0 come.1 come.2 come.3 in
    let some = some_left come.0 c.args.address c.count_running-count.result f begun c.count_running-count.ensures
    c.if-count-eq0.false in
    omega (arith, count, some)

pub overflow_sub-result-2 : goal.overflow_sub-result-2
overflow_sub-result-2 c =
    let f = c.begin.new.self in
    let come = c.requires.come in
    let count = c.len-2.ensures ∙ f.sorted.ok.0 in
    let one = one_left come.0 c.args.address c.count_running-count.result f
    (record { sorted = f.sorted; begun = f.begun; running = c.truncate.new.self }) c.index.result.now
    (c.in_ok-begin.ensures.begun come.0 come.1 come.2 come.3) c.count_running-count.ensures refl refl
    c.truncate.ensures.items c.if-count-eq0.false c.index.ensures in
    let later = one.1 in
    omega (arith, count, later)

pub returns-clause-function : goal.returns-clause-function
returns-clause-function c = λ symbols before h le.
    let f = c.begin.new.self in
    let one = one_left symbols c.args.address c.count_running-count.result f
    (record { sorted = f.sorted; begun = f.begun; running = c.truncate.new.self }) c.index.result.now
    (c.in_ok-begin.ensures.begun symbols before h le) c.count_running-count.ensures refl refl
    c.truncate.ensures.items c.if-count-eq0.false c.index.ensures in
    ap (λ k. k - 1 - c.index.result.now.later) (c.len-2.ensures ∙ f.sorted.ok.0) ∙ one.0
