use Rattle.std.proofs.Common.{◌≡◌, ◌+◌, ◌-◌, ◌<◌, min, length, sym, refl, arith}
use Rattle.std.proofs.lemmas.List.{get_or-take}
use Rattle.skew.specs.Few.{held}
use Rattle.skew.proofs.Filling.{long, put_is}
use Rattle.skew.proofs.Adding.{add_starts, add_goes_on, add_ends}
use Rattle.skew.proofs.few.changing.Few+u8+N.add.Goals as goal

pub loop-i-init : goal.loop-i-init
loop-i-init g c = (refl, add_starts (g.met.K.Kind.lawful c.args.kind.now) (held c.args.f.now) c.args.j c.args.c (held c.args.self.now))

pub loop-i-preserved : goal.loop-i-preserved
loop-i-preserved g c =
    let i = c.loop-i.i in
    let cells = c.loop-i.self.cells in
    let known : i < c.args.f.now.len = omega (arith, c.loop-i-test.true, c.min-n.ensures) in
    let inside : i + c.args.j < c.loop-i.self.len = omega (arith, c.loop-i-test.true, c.min-n.ensures, c.saturating_sub.ensures, c.loop-i.invariant.0) in (
      c.loop-i.invariant.0,
      add_goes_on (g.met.K.Kind.lawful c.args.kind.now) c.loop-i.invariant.1 (sym (get_or-take c.args.f.now.len c.args.f.now.cells i 0 known)) c.product-term.ensures
          (sym (get_or-take c.loop-i.self.len cells (i + c.args.j) 0 inside)) c.sum-sum.ensures (put_is c.loop-i.self.len cells (i + c.args.j) c.sum-sum.result inside) c.twist-x.ensures,
    )

pub returns : goal.returns
returns g c =
    let n = long c.args.self.now in
    let k = long c.args.f.now in
    let size : c.min-n.result ≡ min (length (held c.args.f.now)) (length (held c.args.self.now) - c.args.j) = omega (arith, c.min-n.ensures, c.saturating_sub.ensures, n, k) in
    add_ends (g.met.K.Kind.lawful c.args.kind.now) size c.loop-i-test.false c.loop-i.invariant.1
