use mathlib.Core.Path.{refl, sym, ◌∙◌}
use Prim.Native.Nat.{◌*◌, ◌<◌}
use native.Mathlib.Omega.{arith}
use lib.ListN.{length}
use Rattle.hkdf.specs.Buffer.{held}
use Rattle.hkdf.proofs.ExpandLaws.{length-held, step-held, step-out, none_out, all-out}
use Rattle.hkdf.proofs.blocks.Goals as goal

pub loop-i-init : goal.loop-i-init
unfolding held
loop-i-init c = (refl, refl, λ prk info ek ei eb. (eb, none_out prk info c.args.out.now))

pub loop-i-preserved : goal.loop-i-preserved
loop-i-preserved c =
    let l = c.loop-i in
    let i = l.i in
    let n = c.next.ensures in
    let k = l.invariant.0 in
    let m = l.invariant.1 in
    let h : 20 * i < length c.args.out.now = omega arith in (
      n.key ∙ k,
      n.info_len ∙ m,
      λ prk info ek ei eb.
          let v = l.invariant.2 prk info ek ei eb in
          let s = n.by_index (held prk info i) info (length-held prk info i) (ei ∙ sym m) v.0 in
          let b = step-held l.e.key prk info c.next.new.self.buffer i (k ∙ ek) s in
          (b, step-out prk info c.args.out.now i h c.next.new.self.buffer l.out c.emit.new.out b l.auto.out v.1 c.emit.ensures),
    )

pub returns : goal.returns
returns c = λ prk info ek ei eb.
    let l = c.loop-i in
    all-out prk info c.args.out.now l.out l.i (omega arith) (l.invariant.2 prk info ek ei eb).1
