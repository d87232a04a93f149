use mathlib.Core.Path.{ap, ◌∙◌}
use Rattle.blake3_mixing.specs.declared.Quad.{Quad}
use Rattle.blake3_mixing.specs.Mixing.{G}
use Rattle.blake3_compression.specs.Columns.{words, diagonal}
use Rattle.blake3_compression.specs.Compression.{words_at, set_at, mix_at, diagonals}
use Rattle.blake3_compression.proofs.mix_diagonals.Goals as goal

pub returns : goal.returns
unfolding words diagonals mix_at set_at words_at
returns c =
    let m = c.args.m in
    let p = c.mix-p.ensures ∙ ap (λ (x : Quad). G x m.p.c m.q.c) c.diagonal.ensures in
    let q = c.mix-q.ensures ∙ ap (λ (x : Quad). G x m.r.c m.s.c) c.diagonal-2.ensures in
    let r = c.mix-r.ensures ∙ ap (λ (x : Quad). G x m.p.d m.q.d) c.diagonal-3.ensures in
    let s = c.mix-s.ensures ∙ ap (λ (x : Quad). G x m.r.d m.s.d) c.diagonal-4.ensures in
    (λ i.
    words
    (record { p = c.diagonal-5.ensures i; q = c.diagonal-6.ensures i; r = c.diagonal-7.ensures i; s = c.diagonal-8.ensures i }))
    ∙ (λ i.
    words
    (record {
      p = diagonal (p i) (s i) (r i) (q i);
      q = diagonal (q i) (p i) (s i) (r i);
      r = diagonal (r i) (q i) (p i) (s i);
      s = diagonal (s i) (r i) (q i) (p i);
    }))
