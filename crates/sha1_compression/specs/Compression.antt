-- FIPS 180-4, section 6.1.2, step 4: the next hash value.
use Rattle.std.specs.Prelude.{ℕ, ◌+◌, ◌%◌, ◌^◌, List}
use Rattle.sha1_compression.specs.declared.State.{State}
use Rattle.sha1_compression.specs.Rounds.{rounds}
use Rattle.sha1_compression.specs.Schedule.{schedule}

-- x + y
unfoldable pub add32 : ℕ → ℕ → ℕ
add32 x y = (x + y) % 2 ^ 32

-- H(i) = what the rounds leave + H(i-1)
unfoldable pub plus : State → State → State
plus s h =
    record { a = add32 s.a h.a; b = add32 s.b h.b; c = add32 s.c h.c; d = add32 s.d h.d; e = add32 s.e h.e }

-- H(i) from H(i-1) and the sixteen words of block i
unfoldable pub compressed : State → List ℕ → State
compressed h m = plus (rounds 80 0 h (schedule 64 m)) h
