use Rattle.std.proofs.Common.{◌≡◌, ◌≤◌, ◌-◌, sym, ap, ◌∙◌, subst, ltb, get_or, rules, of_calls, arith, ℕ}
use Rattle.block_layout.specs.declared.ranges.Lines.{Lines}
use Rattle.block_layout.specs.Layout.{is_in}
use Rattle.block_layout.proofs.Among.{IsPoint, point_found, none_among, one_among}
use Rattle.block_layout.proofs.ranges.Ranges.has.Goals as goal

pub returns-then-behind-eq0 : goal.returns-then-behind-eq0
returns-then-behind-eq0 c =
    let t = point_found c.args.self.now c.self.inside.items.items c.deref.result.now c.args.line c.partition_point-behind.result c.self.invariant c.self.view_is c.deref.ensures.value c.partition_point-behind.ensures.bound c.partition_point-behind.ensures.partitioned (λ a r f. search (rules, of_calls)) in
    let none : c.partition_point-behind.result ≡ 0 = omega arith in
    let P : ℕ → Type 0 = λ i. IsPoint c.args.self.now c.args.line i in
    sym (none_among c.args.self.now c.args.line (subst P none t.1))

pub overflow_sub-result : goal.overflow_sub-result
overflow_sub-result c =
    let t = point_found c.args.self.now c.self.inside.items.items c.deref.result.now c.args.line c.partition_point-behind.result c.self.invariant c.self.view_is c.deref.ensures.value c.partition_point-behind.ensures.bound c.partition_point-behind.ensures.partitioned (λ a r f. search (rules, of_calls)) in
    let P : Lines → Type 0 = λ r. r.first ≤ c.args.line in
    let w = c.index-range.ensures ∙ ap (λ xs. get_or xs (c.partition_point-behind.result - 1) c.index-range.result.now) c.self.view_is in
    subst P (sym w) (one_among c.args.self.now c.args.line c.partition_point-behind.result c.index-range.result.now t.0 t.1 (omega arith)).0

pub returns : goal.returns
returns c =
    let t = point_found c.args.self.now c.self.inside.items.items c.deref.result.now c.args.line c.partition_point-behind.result c.self.invariant c.self.view_is c.deref.ensures.value c.partition_point-behind.ensures.bound c.partition_point-behind.ensures.partitioned (λ a r f. search (rules, of_calls)) in
    let P : Lines → Type 0 = λ r. ltb (c.args.line - r.first) r.lines ≡ is_in c.args.self.now c.args.line in
    let w = c.index-range.ensures ∙ ap (λ xs. get_or xs (c.partition_point-behind.result - 1) c.index-range.result.now) c.self.view_is in
    subst P (sym w) (one_among c.args.self.now c.args.line c.partition_point-behind.result c.index-range.result.now t.0 t.1 (omega arith)).1
