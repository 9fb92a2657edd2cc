use Rattle.std.proofs.Common.{sym, subst}
use Rattle.rv32_lines.specs.Reading.{AreReadStatements}
use Rattle.rv32_asm.specs.Standing.{IsFoundFault, IsSoundReading}
use Rattle.rv32_asm.proofs.Joining.{Joined, joined}
use Rattle.rv32_asm.proofs.assembled.assemble.Goals as goal

made : (c : goal.After-entry_of-entry)
    → Joined c.args.text.now c.append_lines.new.bytes.items c.in_ok-pieces.pieces.items c.entry_of-entry.result
made c =
    let t = c.in_ok-statements.ensures in
    let all = t.0 in
    let items = c.in_ok-statements.statements.items in
    let labels = c.in_ok-labels.labels in
    let named = c.in_ok-labels.ensures all (subst (λ x. AreReadStatements x all) (sym c.deref.ensures.value) t.2) in
    let kept = subst (λ f. IsFoundFault all f) c.in_default.is
    (c.first_fault.ensures all (subst (λ x. AreReadStatements x all) (sym c.deref-2.ensures.value) t.2) named) in
    let read : IsSoundReading items labels all =
    record { read_so = t.2; labels_are = named; sound = kept.0; some = kept.1 } in
    joined c.args.text.now c.new-bytes.result.items c.append_lines.new.bytes.items items labels all
    c.in_ok-pieces.pieces.items c.entry_of-entry.result t.1 t.2 kept.0 kept.1
    c.new-bytes.ensures.items
    (c.in_ok-append_lines.ensures all (subst (λ x. IsSoundReading x labels all) (sym c.deref-3.ensures.value) read))
    (λ appended r. c.in_ok-pieces.ensures all appended
    (subst (λ x. AreReadStatements x all) (sym c.deref-4.ensures.value) r))
    (c.entry_of-entry.ensures all (subst (λ x. IsSoundReading x labels all) (sym c.deref-5.ensures.value) read))

pub invariant_of-result : goal.invariant_of-result
invariant_of-result c = let j = made c in (j.limits, j.within)

pub returns-clause-ok : goal.returns-clause-ok
returns-clause-ok c =
    let t = c.in_ok-statements.ensures in
    let all = t.0 in
    let items = c.in_ok-statements.statements.items in
    let labels = c.in_ok-labels.labels in
    let named = c.in_ok-labels.ensures all (subst (λ x. AreReadStatements x all) (sym c.deref.ensures.value) t.2) in
    let kept = subst (λ f. IsFoundFault all f) c.in_default.is
    (c.first_fault.ensures all (subst (λ x. AreReadStatements x all) (sym c.deref-2.ensures.value) t.2) named) in
    let read : IsSoundReading items labels all =
    record { read_so = t.2; labels_are = named; sound = kept.0; some = kept.1 } in
    let j = joined c.args.text.now c.new-bytes.result.items c.append_lines.new.bytes.items items labels all
    c.in_ok-pieces.pieces.items c.entry_of-entry.result t.1 t.2 kept.0 kept.1
    c.new-bytes.ensures.items
    (c.in_ok-append_lines.ensures all (subst (λ x. IsSoundReading x labels all) (sym c.deref-3.ensures.value) read))
    (λ appended r. c.in_ok-pieces.ensures all appended
    (subst (λ x. AreReadStatements x all) (sym c.deref-4.ensures.value) r))
    (c.entry_of-entry.ensures all (subst (λ x. IsSoundReading x labels all) (sym c.deref-5.ensures.value) read)) in
    j.assembled
