-- RFC 1928, section 5: a target address in a byte string. A kind byte (1, 3 or 4; every other is malformed), the address,
-- and the port. An IPv4 address is a number, an IPv6 address a pair of numbers, a name the place and length of its bytes.
use Rattle.std.specs.Prelude.{Bool, false, cond, List, ℕ, ◌+◌, ◌-◌, eqb, leb, ltb, length, get_or, drop, None, Option, Some}
use Rattle.octets.specs.Numbers.{be}
use Rattle.socks5.specs.declared.Target.{Target}
use Rattle.socks5.specs.declared.Target.TheVariants.{V4, V6, Name}
use Rattle.socks5.specs.declared.Address.{Address}

-- a target with its port at a place, and the place behind that
abbrev pub address_at : List ℕ → Target → ℕ → Option Address
address_at s t p = Some (record { target = t; port = be 2 (drop p s); end = p + 2 })

-- kind 1: 4 bytes
unfoldable pub v4_at : List ℕ → ℕ → Option Address
v4_at s at = cond (leb 7 (length s - at)) (address_at s (V4 (be 4 (drop (at + 1) s))) (at + 5)) None

-- kind 4: 16 bytes
unfoldable pub v6_at : List ℕ → ℕ → Option Address
v6_at s at =
    cond (leb 19 (length s - at)) (address_at s (V6 (be 8 (drop (at + 1) s)) (be 8 (drop (at + 9) s))) (at + 17)) None

-- kind 3: a length byte of 1 to 255 and so many bytes
unfoldable pub name_at : List ℕ → ℕ → ℕ → Option Address
name_at s at n =
    cond (ltb 0 n) (cond (leb (n + 4) (length s - at)) (address_at s (Name (at + 2) n) (at + 2 + n)) None) None

-- the address at a place
unfoldable pub parse_at : List ℕ → ℕ → Option Address
parse_at s at =
    cond (eqb (get_or s at 0) 1) (v4_at s at)
    (cond (eqb (get_or s at 0) 3) (name_at s at (get_or s (at + 1) 0)) (cond (eqb (get_or s at 0) 4) (v6_at s at) None))

-- whether the address found ends where the string does
abbrev pub ends : Option Address → ℕ → Bool
ends (Some a) n = eqb a.end n
ends None n = false

-- exactly one address, and nothing behind it
unfoldable pub is_address : List ℕ → Bool
is_address s = ends (parse_at s 0) (length s)

-- a target in a longer string, whose address begins at place k: a name's bytes stand k places further on
abbrev pub moved : ℕ → Target → Target
moved k (V4 x) = V4 x
moved k (V6 x y) = V6 x y
moved k (Name place n) = Name (k + place) n
