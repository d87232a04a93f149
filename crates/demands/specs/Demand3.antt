-- Demand 3 for the openers: every list of their calls, from a new table, follows the plain book; calls of equal clock may be
-- rearranged, each session's own in order; and a session's counts are those of its calls since it began. One claim about the whole
-- list, for one method and key.
-- Assumes nothing.
use Rattle.std.specs.Prelude.{◌≡◌, true, false, List, ℕ, ◌≤◌, ◌<◌, length, take, drop, None, Some}
use Rattle.octets.specs.Numbers.{be}
use Rattle.aes.specs.Keyed.{nk_of}
use Rattle.aes_inverse.specs.InvCipher.{inv_aes}
use Rattle.chacha_poly.specs.Extended.{extended_authentic, extended_opened}
use Rattle.session_book.specs.Call.{Call}
use Rattle.session_book.specs.Demand3.{FollowsBook, Rearrangement}
use Rattle.session_book.specs.Counts.{CallsCounted}
use Rattle.protocol.specs.Method.{key_fits}
use Rattle.datagram_open.specs.Deciding.{decide, belongs}

-- With AES a datagram of 16 bytes or more belongs to the session whose ID its first 16 bytes give under the key, refused or not. A
-- shorter one names none.
pub record MembershipAes (method : ℕ) (key : List ℕ) : Type 0 where
  pub named : (c : Call) → key_fits method (length key) ≡ true → 16 ≤ length c.datagram
      → belongs method key c ≡ Some (be 8 (inv_aes (nk_of (length key)) key (take 16 c.datagram)))
  pub too_short : (c : Call) → length c.datagram < 16 → belongs method key c ≡ None

-- With ChaCha of n double rounds an authentic datagram of 48 bytes or more (a nonce of 24, an ID of 8, a tag of 16) belongs to the session
-- whose ID opens its plaintext, refused or not, whatever its length and the room for it. One that is not authentic, or shorter, names none:
-- its nonce says nothing.
pub record MembershipChaCha (n method : ℕ) (key : List ℕ) : Type 0 where
  pub named : (c : Call) → key_fits method (length key) ≡ true → 48 ≤ length c.datagram
      → extended_authentic n key (take 24 c.datagram) (drop 24 c.datagram) ≡ true
      → belongs method key c ≡ Some (be 8 (extended_opened n key (take 24 c.datagram) (drop 24 c.datagram)))
  pub not-authentic : (c : Call) → extended_authentic n key (take 24 c.datagram) (drop 24 c.datagram) ≡ false → belongs method key c ≡ None
  pub too_short : (c : Call) → length c.datagram < 48 → belongs method key c ≡ None

pub record Membership (method : ℕ) (key : List ℕ) : Type 0 where
  pub aes-128 : method ≡ 1 → MembershipAes method key
  pub aes-256 : method ≡ 2 → MembershipAes method key
  pub chacha20 : method ≡ 3 → MembershipChaCha 10 method key
  pub chacha12 : method ≡ 4 → MembershipChaCha 6 method key
  pub chacha8 : method ≡ 5 → MembershipChaCha 4 method key
  -- none where the method or the key gives refusal 1
  pub no_key : (c : Call) → key_fits method (length key) ≡ false → belongs method key c ≡ None

pub record Demand3 (method : ℕ) (key : List ℕ) : Type 0 where
  -- answers, outputs and alive sessions are the book's
  pub follows-book : FollowsBook (decide method key)
  -- and the same after every rearrangement
  pub rearranges : Rearrangement (decide method key) (belongs method key)
  -- the counts of a session alive are those of its calls since it began
  pub counts : CallsCounted (decide method key) (belongs method key)
  pub membership : Membership method key
