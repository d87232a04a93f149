-- FIPS 180-4, section 6.1.2, steps 2 and 3: the five working variables and the rounds.
use Rattle.std.specs.Prelude.{ℕ, zero, suc, ◌+◌, ◌%◌, ◌^◌, List, slice_index}
use Rattle.sha1_compression.specs.declared.State.{State}
use Rattle.sha1_compression.specs.Functions.{ROTL, f, K}

-- T = ROTL⁵(a) + x + e + k + w; e = d; d = c; c = ROTL³⁰(b); b = a; a = T
unfoldable pub turn : State → ℕ → ℕ → ℕ → State
turn s x k w =
    record { a = (ROTL 5 s.a + x + s.e + k + w) % 2 ^ 32; b = s.a; c = ROTL 30 s.b; d = s.c; e = s.d }

-- round t with the word w
unfoldable pub one_round : ℕ → State → ℕ → State
one_round t s w = turn s (f t s.b s.c s.d) (K t) w

-- n rounds from round t on, with the schedule w
unfoldable pub rounds : ℕ → ℕ → State → List ℕ → State
rounds zero t s w = s
rounds (suc n) t s w = rounds n (t + 1) (one_round t s (slice_index w t)) w
