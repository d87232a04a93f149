-- SIP022, sections 3.2 and 4: the parts of a datagram under its keys.
use Rattle.std.specs.Prelude.{Bool, true, List, ◌++◌, ℕ, ◌+◌, eqb, length, take, drop, None, Option, Some}
use Rattle.aes.specs.KeyExpansion.{aes}
use Rattle.aes.specs.Keyed.{nk_of}
pub use Rattle.gcm.specs.Gcm.{tag_length}
use Rattle.gcm.specs.Gcm.{seal}
use Rattle.gcm.specs.Keyed.{ciph_of}
use Rattle.chacha_poly.specs.Extended.{extended_seal}
use Rattle.protocol.specs.declared.Cipher.{Cipher}
use Rattle.protocol.specs.declared.Cipher.TheVariants.{AesGcm, ChaChaPoly}
use Rattle.protocol.specs.Method.{method_of}
use Rattle.protocol.specs.Subkey.{session_subkey, subkey}
use Rattle.datagram_parts.specs.Headers.{separate_length, separate_header, nonce, main_start}
use Rattle.protocol.specs.declared.Method.{Method}

-- what UDP can carry over IPv4
abbrev pub max_datagram : ℕ
max_datagram = 65507

-- with ChaCha a datagram begins with a nonce
abbrev pub nonce_length : ℕ
nonce_length = 24

-- what stands before the sealed text: the separate header, or the nonce
abbrev pub lead_length : Cipher → ℕ
lead_length AesGcm = separate_length
lead_length (ChaChaPoly n) = nonce_length

-- how many bytes a datagram has more than its plaintext
abbrev pub overhead : Cipher → ℕ
overhead cipher = lead_length cipher + tag_length

-- and how many besides main header, padding, address and payload
abbrev pub packet_overhead : Cipher → ℕ
packet_overhead cipher = overhead cipher + main_start cipher

-- the same by the method; 0 where there is no such method
abbrev pub overhead_in : Option Method → ℕ
overhead_in (Some m) = packet_overhead m.cipher
overhead_in None = 0

unfoldable pub overhead_of : ℕ → ℕ
overhead_of method = overhead_in (method_of method)

-- whether a nonce of so many bytes serves: with ChaCha it is part of the datagram, and with AES it is not looked at
abbrev pub nonce_fits : Cipher → ℕ → Bool
nonce_fits AesGcm n = true
nonce_fits (ChaChaPoly doubles) n = eqb n nonce_length

-- the separate header as one block under the shared key
unfoldable pub separate_block : List ℕ → ℕ → ℕ → List ℕ
separate_block key id packet = aes (nk_of (length key)) key (separate_header id packet)

-- a body in GCM, by its separate header in the clear: the subkey is that of the session ID, and the nonce is bytes 4 to 15
unfoldable pub seal_under : List ℕ → List ℕ → List ℕ → List ℕ
seal_under key header text = seal (ciph_of (subkey key (take 8 header))) (drop 4 header) text

-- a body in GCM under the session's subkey
unfoldable pub seal_body : List ℕ → ℕ → ℕ → List ℕ → List ℕ
seal_body key id packet text = seal (ciph_of (session_subkey key id)) (nonce id packet) text

-- a datagram of a sealed text. With ChaCha it is a nonce and the text in the extended-nonce form under the shared key; without, the
-- nonce is not looked at.
unfoldable pub datagram_by : Cipher → List ℕ → List ℕ → ℕ → ℕ → List ℕ → List ℕ
datagram_by AesGcm key nonce id packet text = separate_block key id packet ++ seal_body key id packet text
datagram_by (ChaChaPoly n) key nonce id packet text = nonce ++ extended_seal n key nonce text
