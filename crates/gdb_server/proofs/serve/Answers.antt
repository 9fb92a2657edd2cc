use Rattle.std.proofs.Common.{◌≡◌, ◌+◌, ◌∷◌, [], refl, sym, ◌∙◌, subst, inl, inr, arith}
use Rattle.std.specs.Prelude.{IfNone, IfSome}
use Rattle.std.proofs.lemmas.Result.{err_from_is_err_and}
use Rattle.byte_source.specs.Sources.{Gives, IsAtEnd}
use Rattle.gdb_session.specs.declared.session.After.{After}
use Rattle.gdb_session.specs.declared.session.After.TheVariants.{GoesOn, Leaves, IsKilled}
use Rattle.gdb_server.specs.declared.ServeEnd.TheVariants.{InputEnds, Left, Killed}
use Rattle.gdb_server.specs.Parts.{standing, HasHeard}
use Rattle.gdb_server.proofs.Told.{IsServing, breaks, ends, goes_on, same_input, stops, streams}
use Rattle.gdb_server.proofs.serve.Goals as goal

pub returns-in_err-byte-clause-fails : goal.returns-in_err-byte-clause-fails
returns-in_err-byte-clause-fails g c =
    let p = err_from_is_err_and c.from_residual.result c.from_residual.ensures.1 in
    rw (p.1, p.2) (stops g.T.Target.view g.T.Target.does g.T.Target.moves g.T.Target.tells c.args.target.now
    (g.S.Source.state c.args.source.now) (g.S.Source.state c.loop-count.source) (g.S.Source.state c.next.new.self)
    (g.O.Sink.state c.args.out.now) (g.O.Sink.state c.loop-count.out)
    (standing c.loop-count.server c.loop-count.target GoesOn) c.loop-count._count c.loop-count.invariant
    c.in_err-byte.ensures.nothing c.in_err-byte.ensures.fault)

pub returns-in_default-clause-served : goal.returns-in_default-clause-served
returns-in_default-clause-served g c =
    let view = g.T.Target.view in
    let does = g.T.Target.does in
    let moves = g.T.Target.moves in
    let tells = g.T.Target.tells in
    let t = c.args.target.now in
    let i = g.S.Source.state c.args.source.now in
    let i1 = g.S.Source.state c.loop-count.source in
    let o = g.O.Sink.state c.args.out.now in
    let o1 = g.O.Sink.state c.loop-count.out in
    let i2 = g.S.Source.state c.next.new.self in
    let m = standing c.loop-count.server c.loop-count.target GoesOn in
    let at_end : IsAtEnd i1.rest =
    subst (λ r. IfNone r (IsAtEnd i1.rest)) c.in_default.is c.in_ok-byte.ensures.end in
    let same : i2.rest ≡ i1.rest = subst (λ r. IfNone r (i2.rest ≡ i1.rest)) c.in_default.is c.in_ok-byte.ensures.stays in
    let w = same_input view does moves tells t i i1 i2 o o1 m c.loop-count._count c.loop-count.invariant same
    c.in_ok-byte.ensures.no_fault in
    ends view does moves tells t (streams i i2 o o1) m c.loop-count._count InputEnds c.loop-count.target w refl
    (refl, inl (subst (λ r. IsAtEnd r) (sym same) at_end))

pub returns-in_err-hear-clause-fails : goal.returns-in_err-hear-clause-fails
returns-in_err-hear-clause-fails g c =
    let view = g.T.Target.view in
    let does = g.T.Target.does in
    let moves = g.T.Target.moves in
    let tells = g.T.Target.tells in
    let t = c.args.target.now in
    let i = g.S.Source.state c.args.source.now in
    let i1 = g.S.Source.state c.loop-count.source in
    let o = g.O.Sink.state c.args.out.now in
    let o1 = g.O.Sink.state c.loop-count.out in
    let i2 = g.S.Source.state c.next.new.self in
    let o2 = g.O.Sink.state c.hear.new.out in
    let m = standing c.loop-count.server c.loop-count.target GoesOn in
    let count = c.loop-count._count in
    let byte = c.in-Some.byte in
    let gives : Gives i1.rest (byte ∷ []) i2.rest =
    subst (λ r. IfSome r (λ b. Gives i1.rest (b ∷ []) i2.rest)) c.in-Some.is c.in_ok-byte.ensures.gives in
    let p = err_from_is_err_and c.from_residual-in_err-hear.result c.from_residual-in_err-hear.ensures.1 in
    rw (p.1, p.2) (breaks view does moves tells t i i1 i2 o o1 o2 m count byte c.in_err-hear.field-0.0 c.loop-count.invariant gives
    c.in_err-hear.ensures.breaks)

pub returns-in-Leaves-clause-served : goal.returns-in-Leaves-clause-served
returns-in-Leaves-clause-served g c =
    let view = g.T.Target.view in
    let does = g.T.Target.does in
    let moves = g.T.Target.moves in
    let tells = g.T.Target.tells in
    let t = c.args.target.now in
    let i = g.S.Source.state c.args.source.now in
    let i1 = g.S.Source.state c.loop-count.source in
    let o = g.O.Sink.state c.args.out.now in
    let o1 = g.O.Sink.state c.loop-count.out in
    let i2 = g.S.Source.state c.next.new.self in
    let o2 = g.O.Sink.state c.hear.new.out in
    let m = standing c.loop-count.server c.loop-count.target GoesOn in
    let count = c.loop-count._count in
    let byte = c.in-Some.byte in
    let gives : Gives i1.rest (byte ∷ []) i2.rest =
    subst (λ r. IfSome r (λ b. Gives i1.rest (b ∷ []) i2.rest)) c.in-Some.is c.in_ok-byte.ensures.gives in
    let after : c.in_ok-hear.field-0 ≡ Leaves = c.in-Leaves.is in
    let x = standing c.hear.new.server c.hear.new.target Leaves in
    let heard : HasHeard view does moves tells m byte x o1 o2 =
    subst (λ (a : After). HasHeard view does moves tells m byte (standing c.hear.new.server c.hear.new.target a) o1 o2) after
    c.in_ok-hear.ensures.hears in
    let w : IsServing view does moves tells t (streams i i2 o o2) x (count + 1) =
    goes_on view does moves tells t i i1 i2 o o1 o2 m x count byte c.loop-count.invariant gives c.in_ok-byte.ensures.no_fault heard in
    ends view does moves tells t (streams i i2 o o2) x (count + 1) Left c.hear.new.target w refl refl

pub returns-in-IsKilled-clause-served : goal.returns-in-IsKilled-clause-served
returns-in-IsKilled-clause-served g c =
    let view = g.T.Target.view in
    let does = g.T.Target.does in
    let moves = g.T.Target.moves in
    let tells = g.T.Target.tells in
    let t = c.args.target.now in
    let i = g.S.Source.state c.args.source.now in
    let i1 = g.S.Source.state c.loop-count.source in
    let o = g.O.Sink.state c.args.out.now in
    let o1 = g.O.Sink.state c.loop-count.out in
    let i2 = g.S.Source.state c.next.new.self in
    let o2 = g.O.Sink.state c.hear.new.out in
    let m = standing c.loop-count.server c.loop-count.target GoesOn in
    let count = c.loop-count._count in
    let byte = c.in-Some.byte in
    let gives : Gives i1.rest (byte ∷ []) i2.rest =
    subst (λ r. IfSome r (λ b. Gives i1.rest (b ∷ []) i2.rest)) c.in-Some.is c.in_ok-byte.ensures.gives in
    let after : c.in_ok-hear.field-0 ≡ IsKilled = c.in-IsKilled.is in
    let x = standing c.hear.new.server c.hear.new.target IsKilled in
    let heard : HasHeard view does moves tells m byte x o1 o2 =
    subst (λ (a : After). HasHeard view does moves tells m byte (standing c.hear.new.server c.hear.new.target a) o1 o2) after
    c.in_ok-hear.ensures.hears in
    let w : IsServing view does moves tells t (streams i i2 o o2) x (count + 1) =
    goes_on view does moves tells t i i1 i2 o o1 o2 m x count byte c.loop-count.invariant gives c.in_ok-byte.ensures.no_fault heard in
    ends view does moves tells t (streams i i2 o o2) x (count + 1) Killed c.hear.new.target w refl refl

pub loop-count-preserved : goal.loop-count-preserved
loop-count-preserved g c =
    let view = g.T.Target.view in
    let does = g.T.Target.does in
    let moves = g.T.Target.moves in
    let tells = g.T.Target.tells in
    let t = c.args.target.now in
    let i = g.S.Source.state c.args.source.now in
    let i1 = g.S.Source.state c.loop-count.source in
    let o = g.O.Sink.state c.args.out.now in
    let o1 = g.O.Sink.state c.loop-count.out in
    let i2 = g.S.Source.state c.next.new.self in
    let o2 = g.O.Sink.state c.hear.new.out in
    let m = standing c.loop-count.server c.loop-count.target GoesOn in
    let count = c.loop-count._count in
    let byte = c.in-Some.byte in
    let gives : Gives i1.rest (byte ∷ []) i2.rest =
    subst (λ r. IfSome r (λ b. Gives i1.rest (b ∷ []) i2.rest)) c.in-Some.is c.in_ok-byte.ensures.gives in
    let after : c.in_ok-hear.field-0 ≡ GoesOn = c.in-GoesOn.is in
    let x = standing c.hear.new.server c.hear.new.target GoesOn in
    let heard : HasHeard view does moves tells m byte x o1 o2 =
    subst (λ (a : After). HasHeard view does moves tells m byte (standing c.hear.new.server c.hear.new.target a) o1 o2) after
    c.in_ok-hear.ensures.hears in
    let w : IsServing view does moves tells t (streams i i2 o o2) x (count + 1) =
    goes_on view does moves tells t i i1 i2 o o1 o2 m x count byte c.loop-count.invariant gives c.in_ok-byte.ensures.no_fault heard in
    w

pub returns-clause-served : goal.returns-clause-served
returns-clause-served g c =
    let view = g.T.Target.view in
    let does = g.T.Target.does in
    let moves = g.T.Target.moves in
    let tells = g.T.Target.tells in
    let t = c.args.target.now in
    let i = g.S.Source.state c.args.source.now in
    let i1 = g.S.Source.state c.loop-count.source in
    let o = g.O.Sink.state c.args.out.now in
    let o1 = g.O.Sink.state c.loop-count.out in
    let m = standing c.loop-count.server c.loop-count.target GoesOn in
    let w = c.loop-count.invariant in
    ends view does moves tells t (streams i i1 o o1) m c.loop-count._count InputEnds c.loop-count.target w refl
    (refl, inr (w.as_many ∙ omega (arith, c.loop-count-test.false, c.loop-count.auto._count-end)))
