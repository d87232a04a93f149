use mathlib.Core.Path.{refl, ap, ◌∙◌}
use native.Mathlib.Omega.{arith}
use borrow.Author.Rules.{rules}
use Rattle.ghash.specs.Field.{next}
use Rattle.ghash.specs.Table.{steps}
use Rattle.ghash.proofs.DoubledLaws.{part-made}
use Rattle.ghash.proofs.product.write_part.Goals as goal

pub double-requires : goal.double-requires
double-requires c = record { t_len = c.set_entry.ensures.t_len_unchanged ∙ search rules; at_bound = omega arith; m_bound = omega arith }

pub double-requires-2 : goal.double-requires-2
double-requires-2 c = record { t_len = c.double.ensures.size ∙ c.set_entry.ensures.t_len_unchanged ∙ search rules; at_bound = omega arith; m_bound = omega arith }

pub returns : goal.returns
unfolding steps
returns c =
    let e3 = c.next-v3.ensures ∙ ap next (c.next-v2.ensures ∙ ap next c.next-v1.ensures) in record {
      by_index = λ h v m.
          part-made _ _ _ _ _ _ _ _ _ _ _ c.set_entry.ensures.t_after c.next-v1.ensures c.next-v2.ensures c.next-v3.ensures
          c.double.ensures c.double-2.ensures c.double-3.ensures c.double-4.ensures
          h c.args.j (search rules) refl v m;
      result_value = c.next.ensures ∙ ap next e3;
    }
