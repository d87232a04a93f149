-- RFC 5869, sections 2.2 and 2.3: HKDF, with SHA-1, so that HashLen is 20.
use Rattle.std.specs.Prelude.{Bool, cond, ◌&&◌, List, [], ◌∷◌, ◌++◌, ℕ, zero, suc, ◌+◌, ◌/◌, leb, length, take}
use Rattle.hmac.specs.Hmac.{hmac}

-- HKDF-Extract(salt, IKM): PRK = HMAC-Hash(salt, IKM)
unfoldable pub extract : List ℕ → List ℕ → List ℕ
extract salt ikm = hmac salt ikm

-- T(0) is empty, and T(i) = HMAC-Hash(PRK, T(i - 1) | info | i)
unfoldable pub T : List ℕ → List ℕ → ℕ → List ℕ
T prk info zero = []
T prk info (suc i) = hmac prk (T prk info i ++ (info ++ suc i ∷ []))

-- T(1) | T(2) | .. | T(n)
unfoldable pub joined_t : List ℕ → List ℕ → ℕ → List ℕ
joined_t prk info zero = []
joined_t prk info (suc n) = joined_t prk info n ++ T prk info (suc n)

-- HKDF-Expand(PRK, info, L): the first L bytes of T(1) | .. | T(N), where N = ceil(L / HashLen)
unfoldable pub expand : List ℕ → List ℕ → ℕ → List ℕ
expand prk info l = take l (joined_t prk info ((l + 19) / 20))

unfoldable pub hkdf : List ℕ → List ℕ → List ℕ → ℕ → List ℕ
hkdf salt ikm info l = expand (extract salt ikm) info l

-- what is taken: L is at most 255 * HashLen, as the document has it, and info at most 235 bytes long, which is a limit of ours
unfoldable pub lawful : List ℕ → ℕ → Bool
lawful info l = leb (length info) 235 && leb l 5100

-- what is left in lent memory: the bytes asked for, or what was there
abbrev pub given : Bool → List ℕ → List ℕ → List ℕ
given r s old = cond r s old
