-- The parts that the writers leave are the datagram.
-- Assumes nothing.
use mathlib.Core.Path.{◌≡◌, sym, ap, ◌∙◌}
use mathlib.Core.List.{List, ◌++◌, append-nil}
use Prim.Native.Nat.{ℕ, ◌+◌, ◌-◌, ◌≤◌}
use native.Mathlib.Omega.{arith}
use lib.ListN.{length, take, drop, length-append, length-drop, drop_of_length-le}
use lib.Seq.{drop_at, length-take-le}
use Rattle.octets.specs.Buffers.{put}
use Rattle.octets.proofs.BufferLaws.{part-put, rest}
use Rattle.gcm.specs.Gcm.{text_of}
use Rattle.gcm.proofs.GcmLaws.{text-put}
use Rattle.protocol.specs.declared.Cipher.{Cipher}
use Rattle.datagram_parts.specs.Headers.{sealed_text}
use Rattle.datagram_parts.specs.Parts.{lead_length, datagram_by}
use Rattle.datagram_parts.proofs.LengthLaws.{length-sealed_text}
use Rattle.datagram_seal.specs.declared.Sender.{Sender}
use Rattle.datagram_seal.specs.Sealing.{sealed_length, datagram}

-- a text in the part of a buffer behind its first k bytes, before room for the tag
pub text-behind : (s b t : List ℕ) (k : ℕ) → k ≤ length s → length s ≡ k + length t + 16 → b ≡ put (take (length s - k) (drop k s)) 0 t
    → text_of (drop k (take k s ++ (b ++ drop (length s - k) (drop k s)))) ≡ t
text-behind s b t k h l eb =
    let r = rest s k in
    let e : length (drop k s) ≤ length s - k = omega (arith, length-drop k s) in
    let n : length (drop k s) ≡ length t + 16 = omega (arith, length-drop k s, l) in
    ap text_of
    (drop_at (take k s) (b ++ drop (length s - k) (drop k s)) k (length-take-le k s h)
    ∙ ap (λ (x : List ℕ). b ++ x) (drop_of_length-le (drop k s) e) ∙ append-nil b)
    ∙ text-put (drop k s) t b n (eb ∙ ap (λ (x : List ℕ). put x 0 t) r)

-- a buffer whose part behind its first k bytes was lent is as long as before
pub part_length : (s b : List ℕ) (k : ℕ) → k ≤ length s → length b ≡ length (take (length s - k) (drop k s))
    → length (take k s ++ (b ++ drop (length s - k) (drop k s))) ≡ length s
part_length s b k h l =
    omega (
      arith,
      length-append (take k s) (b ++ drop (length s - k) (drop k s)),
      length-append b (drop (length s - k) (drop k s)),
      length-take-le k s h,
      l ∙ ap length (rest s k),
      length-drop k s,
      length-drop (length s - k) (drop k s),
    )

module _ (cipher : Cipher) (key nonce : List ℕ) (sender : Sender) (clock : ℕ) (address : List ℕ) (padding : ℕ) (payload : List ℕ) where
  abbrev text : List ℕ
  text = sealed_text cipher sender.id sender.packet sender.side clock padding address payload

  pub datagram-law : (s b w : List ℕ) (k : ℕ) → k ≡ lead_length cipher
      → length s ≡ sealed_length cipher sender.side (length address) padding (length payload)
      → b ≡ put (take (length s - k) (drop k s)) 0 text
      → w
      ≡ datagram_by cipher key nonce sender.id sender.packet
      (text_of (drop (lead_length cipher) (take k s ++ (b ++ drop (length s - k) (drop k s)))))
      → w ≡ datagram cipher key nonce sender clock address padding payload
  unfolding datagram sealed_length
  datagram-law s b w k ek l eb ew =
      let n = length-sealed_text cipher sender.id sender.packet sender.side clock padding address payload in
      ew
      ∙ ap (datagram_by cipher key nonce sender.id sender.packet)
      (ap (λ (j : ℕ). text_of (drop j (take k s ++ (b ++ drop (length s - k) (drop k s))))) (sym ek)
      ∙ text-behind s b text k (omega (arith, n, l, ek)) (omega (arith, n, l, ek)) eb)

-- to the front of a longer buffer
pub front-law : (d s b : List ℕ) (n : ℕ) → length s ≡ n → b ≡ s → b ++ drop n d ≡ put d 0 s
front-law d s b n l e = ap (λ (x : List ℕ). x ++ drop n d) e ∙ part-put d s 0 n l
