use Rattle.std.proofs.Common.{ℕ, ◌^◌, ◌<◌, List, [], ◌∷◌, replicate, sym, ap, ◌∙◌, le_of_eq, mod-eq_of_lt, rules}
use Rattle.octets.specs.Buffers.{put}
use Rattle.octets.proofs.BufferLaws.{put_whole}
use Rattle.chacha.specs.Words.{bytes}
use Rattle.chacha.specs.ChaCha.{initial, doubles, ends, hchacha}
use Rattle.chacha.specs.Lanes.{numbered}
use Rattle.chacha.proofs.StreamLaws.{length-hchacha}
use Rattle.chacha.proofs.hchacha.Goals as goal

pub returns : goal.returns
unfolding hchacha initial numbered
returns c =
    let a = c.args in
    let first = c.read_u32_le-a.result in
    let small : first < 2 ^ 32 = search rules in
    let start = ap (λ (s : List ℕ). numbered s first) c.initial.ensures
    ∙ (λ i. initial a.key.now
    ((mod-eq_of_lt small ∙ c.read_u32_le-a.ensures) i ∷ c.read_u32_le-b.ensures i ∷ c.read_u32_le-c.ensures i ∷ c.read_u32_le-d.ensures i ∷ [])) in
    c.write_words.ensures
    ∙ ap (λ (t : List ℕ). put (replicate 32 0) 0 (bytes t)) (c.mixed_ends-w.ensures ∙ ap (λ (s : List ℕ). ends (doubles a.n s)) start)
    ∙ put_whole (replicate 32 0) (hchacha a.n a.key.now a.nonce.now)
    (le_of_eq (sym (length-hchacha a.n a.key.now a.nonce.now)))
