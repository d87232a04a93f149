use mathlib.Core.Path.{refl}
use borrow.Author.Rules.{rules}
use Rattle.aes.specs.Cipher.{rounds as rounds_of}
use Rattle.aes.proofs.RoundLaws.{round-law, cipher-law}
use Rattle.aes.proofs.encrypt.Encryptor.cipher.Goals as goal

pub loop-i-init : goal.loop-i-init
unfolding rounds_of
loop-i-init c = refl

pub loop-i-preserved : goal.loop-i-preserved
loop-i-preserved c = round-law _ _ _ _ _ _ (search rules) c.loop-i.invariant c.round_key-in-loop-i.ensures c.round-s.ensures

pub returns : goal.returns
returns c =
    cipher-law _ _ _ _ _ _ _ _ _ c.round_key.ensures c.add-s.ensures (search rules) c.loop-i.invariant
    c.round_key-2.ensures c.final_round.ensures
