use Rattle.std.proofs.Common.{ℕ, ◌+◌, ◌*◌, ◌/◌, length, ap, sym, ◌∙◌, arith}
use Rattle.poly1305.specs.Limbs.{value}
use Rattle.poly1305.specs.Poly1305.{mod_p, poly_from}
use Rattle.poly1305.proofs.MessageLaws.{zero-loose, zero-value, blocks_next, blocks_none}
use Rattle.poly1305.proofs.PrimeLaws.{below-loose}
use Rattle.poly1305.proofs.blocks.whole.Goals as goal

pub loop-block-init : goal.loop-block-init
loop-block-init c =
    let z = c.default-a.ensures in
    let e = ap (λ x. x.rest.now) c.into_iter-block-iterator.ensures.into_iter_gives ∙ c.chunks_exact-block-items.ensures.rest in
    record {
      loose = zero-loose _ z;
      size = ap (λ x. x.size) c.into_iter-block-iterator.ensures.into_iter_gives ∙ c.chunks_exact-block-items.ensures.size;
      left = λ i. poly_from (length (e i) / 16) (value c.args.r) (zero-value _ z i) (e i);
    }

pub step-a-requires : goal.step-a-requires
step-a-requires c = record { loose = c.loop-block.invariant.loose; below = c.first.ensures.below; loose_2 = below-loose c.requires }

pub loop-block-preserved : goal.loop-block-preserved
loop-block-preserved c =
    let r = value c.args.r in
    let step = c.in-Some.ensures.steps in
    let rest = c.next.new.self.rest.now in
    record {
      loose = c.step-a.ensures.loose_3;
      size = step.0 ∙ c.loop-block.invariant.size;
      left = ap (λ (x : ℕ). poly_from (length rest / 16) r x rest)
          (c.step-a.ensures.result_value ∙ ap (λ (x : ℕ). mod_p ((mod_p (value c.loop-block.a) + x) * r)) c.first.ensures.result_value)
          ∙ sym (blocks_next r (mod_p (value c.loop-block.a)) _ _ rest step.1.0 (step.1.1 ∙ c.loop-block.invariant.size))
          ∙ c.loop-block.invariant.left;
    }

pub returns : goal.returns
returns c =
    let short = c.in-None.ensures.steps.1.0 in
    record {
      loose = c.loop-block.invariant.loose;
      result_value = sym (blocks_none (value c.args.r) (mod_p (value c.loop-block.a)) c.loop-block.block-iterator.rest.now (omega (arith, short, c.loop-block.invariant.size)))
          ∙ c.loop-block.invariant.left;
    }
