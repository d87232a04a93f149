use Rattle.std.proofs.Common.{◌≡◌, ℕ, ap, ◌∙◌}
use Rattle.chacha.specs.Words.{add32, rotl, xor}
use Rattle.chacha.specs.ChaCha.{half}
use Rattle.chacha.proofs.WordLaws.{rotated}
use Rattle.chacha.proofs.rounds.half_round.Goals as goal

pub returns : goal.returns
unfolding half add32 xor
returns c =
    let q = c.args.q in
    let r = c.args.r in
    let s = c.args.s in
    let a = add32 q.a q.b in
    let d : c.rotate_left-d.result ≡ rotl (xor q.d a) r = c.rotate_left-d.ensures ∙ rotated _ r c.requires.0 c.requires.1 in
    let b = c.rotate_left-b.ensures ∙ rotated _ s c.requires.2 c.requires.3 in
    λ i. record { a = a; b = (b ∙ ap (λ (x : ℕ). rotl (xor q.b (add32 q.c x)) s) d) i; c = add32 q.c (d i); d = d i }
