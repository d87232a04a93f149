-- AES-GCM under a key, on lent buffers: opening gives a text exactly for authentic messages, and what is sealed opens to the
-- same text. For every key length of AES.
-- Assumes nothing.
use Rattle.std.specs.Prelude.{Ok}
use mathlib.Core.Path.{◌≡◌, sym, ap, ap₂, ◌∙◌}
use mathlib.Core.Bool.{Bool, true, cond, ◌&&◌}
use mathlib.Core.List.{List}
use Prim.Native.Nat.{ℕ}
use Rattle.octets.specs.Buffers.{put}
use Rattle.gcm.specs.Gcm.{seal, Authentic, opened}
use Rattle.gcm.specs.Keyed.{ciph_of, open_lawful, authentic, answer, open_answer, open_out}
use Rattle.gcm.proofs.GcmLaws.{seal-authentic, open-seal, authentic-exactly}
use Rattle.gcm.proofs.KeyedLaws.{answer-text}

module _ (key nonce s out : List ℕ) (lawful : open_lawful key nonce s out ≡ true) where
  answered : open_answer key nonce s out ≡ answer true (authentic (ciph_of key) nonce s)
  unfolding open_answer
  answered = ap (λ (b : Bool). answer b (authentic (ciph_of key) nonce s)) lawful

  pub opens-exactly : (open_answer key nonce s out ≡ (Ok tt) → Authentic (ciph_of key) nonce s)
      × (Authentic (ciph_of key) nonce s → open_answer key nonce s out ≡ (Ok tt))
  opens-exactly = (
    λ e. (authentic-exactly (ciph_of key) nonce s).0 (answer-text (authentic (ciph_of key) nonce s) (sym answered ∙ e)),
    λ a. answered ∙ ap (answer true) ((authentic-exactly (ciph_of key) nonce s).1 a),
  )

  pub opens-to : Authentic (ciph_of key) nonce s → open_out key nonce s out ≡ put out 0 (opened (ciph_of key) nonce s)
  unfolding open_out
  opens-to a =
      ap₂ (λ (l b : Bool). cond (l && b) (put out 0 (opened (ciph_of key) nonce s)) out) lawful
      ((authentic-exactly (ciph_of key) nonce s).1 a)

pub sealed-opens : (key nonce text out : List ℕ) → let s = seal (ciph_of key) nonce text in
    open_lawful key nonce s out ≡ true → (open_answer key nonce s out ≡ (Ok tt)) × (open_out key nonce s out ≡ put out 0 text)
sealed-opens key nonce text out lawful =
    let s = seal (ciph_of key) nonce text in
    let a = seal-authentic (ciph_of key) nonce text in
    ((opens-exactly key nonce s out lawful).1 a, opens-to key nonce s out lawful a ∙ ap (put out 0) (open-seal (ciph_of key) nonce text))
