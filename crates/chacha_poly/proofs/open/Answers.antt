use Rattle.std.proofs.Common.{◌≡◌, ◌≤◌, cond, Bool, length, take, ap, sym, ◌∙◌, arith}
use Rattle.octets.specs.Buffers.{put}
use Rattle.chacha_poly.specs.Aead.{crypt, tag, text_of, tag_of, authentic, opened}
use Rattle.chacha_poly.proofs.AeadLaws.{front-law, crypt-law, authentic-law}
use Rattle.chacha_poly.proofs.open.Goals as goal
use Rattle.chacha_poly.proofs.open.Goals.{After-equal-good}

verdict : (c : After-equal-good) → c.equal-good.result ≡ authentic c.args.n c.args.key.now c.args.nonce.now c.args.s.now
unfolding text_of tag_of
verdict c =
    let a = c.args in
    let e = c.new-cipher.ensures in
    c.equal-good.ensures
    ∙ authentic-law a.n a.key.now a.nonce.now a.s.now _ _ _ c.split_at.ensures.front
    (c.tag.ensures ∙ (λ i. tag (e.0 i) (e.1 i) (e.2 i) c.split_at.result.0.now)) c.split_at.ensures.back

pub returns-then-good-clause-value : goal.returns-then-good-clause-value
returns-then-good-clause-value c = verdict (goal.at.returns-then-good-clause-value c).After-equal-good

pub returns-then-good-clause-out_after : goal.returns-then-good-clause-out_after
unfolding opened text_of
returns-then-good-clause-out_after c =
    let a = c.args in
    let e = c.new-cipher.ensures in
    let text = c.split_at.result.0.now in
    let fits : length text ≤ length a.out.now = omega (arith, c.requires.tag_length_in_bounds_2, c.split_at.ensures.front_len) in
    let fits-2 : length text ≤ length c.copy.new.out = omega (arith, fits, c.copy.auto.out) in
    let crypted = c.crypt.ensures ∙ (λ i. crypt (e.0 i) (e.1 i) (e.2 i) (take (length text) c.copy.new.out)) in
    crypt-law text a.out.now fits a.n a.key.now a.nonce.now c.copy.new.out _ c.copy.ensures
    (front-law a.n a.key.now a.nonce.now c.copy.new.out _ (length text) fits-2 crypted)
    ∙ ap (λ p. put a.out.now 0 (crypt a.n a.key.now a.nonce.now p)) c.split_at.ensures.front
    ∙ ap (λ (b : Bool). cond b (put a.out.now 0 (opened a.n a.key.now a.nonce.now a.s.now)) a.out.now) (sym c.if-good.true)

pub returns-else-good-clause-value : goal.returns-else-good-clause-value
returns-else-good-clause-value c = verdict (goal.at.returns-else-good-clause-value c).After-equal-good
