use Rattle.skew.proofs.Carrying.{stays, firsts, seconds}
use Rattle.skew.proofs.engine.advance.Goals as goal

pub returns-in-First : goal.returns-in-First
returns-in-First g c =
    λ ps few. firsts (g.met.K.Kind.lawful c.args.kind.now) c.args.k c.args.site c.args.s.now c.worths-x.ensures.0 c.worths-x.ensures.1 ps
    c.in-First.ensures c.step.ensures.0 c.step.ensures.1 few

pub returns-in-Second : goal.returns-in-Second
returns-in-Second g c =
    λ ps few. seconds (g.met.K.Kind.lawful c.args.kind.now) c.args.k c.args.site c.args.s.now c.worths-x.ensures.0 c.worths-x.ensures.1 ps
    c.in-Second.ensures c.step-in-Second.ensures.1 c.step-in-Second.ensures.0 few

pub returns-in-Stay : goal.returns-in-Stay
returns-in-Stay g c =
    λ ps few. stays (g.met.K.Kind.lawful c.args.kind.now) c.args.k c.args.site c.args.s.now c.worths-x.ensures.0 c.worths-x.ensures.1 ps c.in-Stay.ensures
