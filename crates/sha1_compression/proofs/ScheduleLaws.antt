-- The words of a block and of the schedule, one by one.
-- Assumes nothing.
use Rattle.std.proofs.Common.{◌≡◌, ℕ, zero, suc, ◌+◌, ◌-◌, ◌*◌, ◌^◌, ◌<◌, ◌≤◌, List, [], ◌∷◌, ◌++◌, length, get_or, take, drop, set, sym, refl, ap, ◌∙◌, ap₂, zero-add, add-one, arith, lit<, length-set, length-append, take_all, get_or-take, drop-drop, take-suc-set}
use native.Mathlib.Decide.{dec_le, ℕ_discrete}
use Rattle.std.proofs.Math.ListN.{get_or-eq_default}
use Rattle.std.proofs.lemmas.List.{get_or-set_same, get_or-set_other}
use lib.Bits.{bit_xor}
use lib.ListN.{get_or-append}
use lib.Seq.{get_or_at}
use Rattle.octets.specs.Numbers.{be}
use Rattle.sha1_compression.specs.Functions.{ROTL}
use Rattle.sha1_compression.specs.declared.State.{State}
use Rattle.sha1_compression.specs.Rounds.{rounds}
use Rattle.sha1_compression.specs.Compression.{plus, compressed}
use Rattle.sha1_compression.specs.Schedule.{words, word_at, grown, schedule}
use Rattle.sha1_compression.proofs.RotationLaws.{further}

-- ---- a block's words

words_snoc : (i : ℕ) (s : List ℕ) → words (suc i) s ≡ words i s ++ be 4 (drop (4 * i) s) ∷ []
unfolding words
words_snoc zero s = refl
words_snoc (suc i) s =
    let e : 4 + 4 * i ≡ 4 * suc i = omega arith in
    ap (λ (l : List ℕ). be 4 s ∷ l)
    (words_snoc i (drop 4 s)
    ∙ ap (λ (l : List ℕ). words i (drop 4 s) ++ be 4 l ∷ []) (drop-drop (4 * i) 4 s ∙ ap (λ (k : ℕ). drop k s) e))

pub load-next : (w s : List ℕ) (i v : ℕ) → i < length w → take i w ≡ words i s → v ≡ be 4 (drop (4 * i) s)
    → take (i + 1) (set w i v) ≡ words (i + 1) s
load-next w s i v h e ev =
    ap (λ (k : ℕ). take k (set w i v)) (add-one i)
    ∙ take-suc-set w i v h
    ∙ ap₂ (λ (l : List ℕ) (x : ℕ). l ++ x ∷ []) e ev
    ∙ sym (words_snoc i s)
    ∙ ap (λ (k : ℕ). words k s) (sym (add-one i))

pub loaded : (w s : List ℕ) (i : ℕ) → i ≡ 16 → take i w ≡ words i s → take 16 w ≡ words 16 s
loaded w s i e h = ap (λ (k : ℕ). take k w) (sym e) ∙ h ∙ ap (λ (k : ℕ). words k s) e

pub length-words : (n : ℕ) (s : List ℕ) → length (words n s) ≡ n
unfolding words
length-words zero s = refl
length-words (suc n) s = ap suc (length-words n (drop 4 s))

-- ---- the schedule's words

-- Wₜ from a buffer that holds the words before it
in_buffer : (w : List ℕ) (t : ℕ) → 16 ≤ t
    → ROTL 1 (bit_xor (bit_xor (bit_xor (get_or w (t - 3) 0) (get_or w (t - 8) 0)) (get_or w (t - 14) 0)) (get_or w (t - 16) 0)) ≡ word_at (take t w) t
unfolding word_at
in_buffer w t h =
    let e3 : t - 3 < t = omega arith in
    let e8 : t - 8 < t = omega arith in
    let e14 : t - 14 < t = omega arith in
    let e16 : t - 16 < t = omega arith in
    λ i. ROTL 1 (bit_xor (bit_xor (bit_xor
    (sym (get_or-take t w (t - 3) 0 e3) i) (sym (get_or-take t w (t - 8) 0 e8) i))
    (sym (get_or-take t w (t - 14) 0 e14) i)) (sym (get_or-take t w (t - 16) 0 e16) i))

pub grow : (m w : List ℕ) (t v : ℕ) → 16 ≤ t → t < length w → take t w ≡ schedule (t - 16) m
    → v ≡ ROTL 1 (bit_xor (bit_xor (bit_xor (get_or w (t - 3) 0) (get_or w (t - 8) 0)) (get_or w (t - 14) 0)) (get_or w (t - 16) 0))
    → take (t + 1) (set w t v) ≡ schedule (t + 1 - 16) m
unfolding schedule grown
grow m w t v h l e ev =
    let et : t ≡ t - 16 + 16 = omega arith in
    let en : suc (t - 16) ≡ t + 1 - 16 = omega arith in
    ap (λ (k : ℕ). take k (set w t v)) (add-one t)
    ∙ take-suc-set w t v l
    ∙ ap (λ (x : ℕ). take t w ++ x ∷ []) (ev ∙ in_buffer w t h)
    ∙ ap₂ grown e et
    ∙ ap (λ (k : ℕ). schedule k m) en

pub grown-to : (m w : List ℕ) (t n : ℕ) → t ≡ n → take t w ≡ schedule (t - 16) m → take n w ≡ schedule (n - 16) m
grown-to m w t n et e = ap (λ (k : ℕ). take k w) (sym et) ∙ e ∙ ap (λ (k : ℕ). schedule (k - 16) m) et

pub grown-up : (m w : List ℕ) (t : ℕ) → t ≡ 80 → length w ≡ 80 → take t w ≡ schedule (t - 16) m → w ≡ schedule 64 m
grown-up m w t et l e =
    let h : length w ≤ t = omega arith in
    sym (take_all t w h) ∙ e ∙ ap (λ (k : ℕ). schedule (k - 16) m) et

-- ---- the words in the schedule that is made so far

length-schedule : (n : ℕ) (m : List ℕ) → length m ≡ 16 → length (schedule n m) ≡ n + 16
unfolding schedule grown
length-schedule zero m e = e ∙ zero-add 16
length-schedule (suc n) m e =
    let s = schedule n m in
    omega (arith, length-append s (word_at s (n + 16) ∷ []), length-schedule n m e)

-- Wₜ does not change as words are put behind
word-append : (s r : List ℕ) (t : ℕ) → 16 ≤ t → t ≤ length s → word_at (s ++ r) t ≡ word_at s t
unfolding word_at
word-append s r t h l =
    let e3 : t - 3 < length s = omega arith in
    let e8 : t - 8 < length s = omega arith in
    let e14 : t - 14 < length s = omega arith in
    let e16 : t - 16 < length s = omega arith in
    λ i. ROTL 1 (bit_xor (bit_xor (bit_xor
    (get_or-append s r 0 (t - 3) e3 i) (get_or-append s r 0 (t - 8) e8 i))
    (get_or-append s r 0 (t - 14) e14 i)) (get_or-append s r 0 (t - 16) e16 i))

schedule-word : (n : ℕ) (m : List ℕ) (j : ℕ) → length m ≡ 16 → 16 ≤ j → j < n + 16 → get_or (schedule n m) j 0 ≡ word_at (schedule n m) j
unfolding schedule grown
schedule-word zero m j e h l = absurd (omega arith)
schedule-word (suc n) m j e h l = pick (dec_le (suc j) (n + 16)) (schedule-word n m j e h)
  where
    pick : Dec (j < n + 16) → (j < n + 16 → get_or (schedule n m) j 0 ≡ word_at (schedule n m) j)
        → get_or (schedule n m ++ word_at (schedule n m) (n + 16) ∷ []) j 0 ≡ word_at (schedule n m ++ word_at (schedule n m) (n + 16) ∷ []) j
    pick (yes k) ih =
        let k' : j < length (schedule n m) = omega (arith, length-schedule n m e) in
        let k'' : j ≤ length (schedule n m) = omega arith in
        get_or-append (schedule n m) (word_at (schedule n m) (n + 16) ∷ []) 0 j k' ∙ ih k
        ∙ sym (word-append (schedule n m) (word_at (schedule n m) (n + 16) ∷ []) j h k'')
    pick (no f) ih =
        let ej : j ≡ n + 16 = omega arith in
        let el : length (schedule n m) ≡ j = length-schedule n m e ∙ sym ej in
        let k'' : j ≤ length (schedule n m) = omega arith in
        get_or_at (schedule n m) (word_at (schedule n m) (n + 16)) [] 0 j el
        ∙ ap (word_at (schedule n m)) (sym ej)
        ∙ sym (word-append (schedule n m) (word_at (schedule n m) (n + 16) ∷ []) j h k'')

-- in a buffer that holds the words before Wₜ
buffer-word : (m w : List ℕ) (t j : ℕ) → length m ≡ 16 → take t w ≡ schedule (t - 16) m → 16 ≤ j → j < t
    → get_or w j 0 ≡ ROTL 1 (bit_xor (bit_xor (bit_xor (get_or w (j - 3) 0) (get_or w (j - 8) 0)) (get_or w (j - 14) 0)) (get_or w (j - 16) 0))
unfolding word_at
buffer-word m w t j em e h l =
    let k : j < t - 16 + 16 = omega arith in
    let e3 : j - 3 < t = omega arith in
    let e8 : j - 8 < t = omega arith in
    let e14 : j - 14 < t = omega arith in
    let e16 : j - 16 < t = omega arith in
    sym (get_or-take t w j 0 l)
    ∙ ap (λ (s : List ℕ). get_or s j 0) e
    ∙ schedule-word (t - 16) m j em h k
    ∙ ap (λ (s : List ℕ). word_at s j) (sym e)
    ∙ (λ i. ROTL 1 (bit_xor (bit_xor (bit_xor
    (get_or-take t w (j - 3) 0 e3 i) (get_or-take t w (j - 8) 0 e8 i))
    (get_or-take t w (j - 14) 0 e14 i)) (get_or-take t w (j - 16) 0 e16 i)))

minus : (t k x a : ℕ) → a ≡ k + x → t - k - x ≡ t - a
minus t k x a e = omega arith

-- k places back from Wₜ
back : (m w : List ℕ) (t : ℕ) → length m ≡ 16 → take t w ≡ schedule (t - 16) m → (k a b c d : ℕ) → 32 ≤ t → 0 < k → k < 17
    → a ≡ k + 3 → b ≡ k + 8 → c ≡ k + 14 → d ≡ k + 16
    → get_or w (t - k) 0 ≡ ROTL 1 (bit_xor (bit_xor (bit_xor (get_or w (t - a) 0) (get_or w (t - b) 0)) (get_or w (t - c) 0)) (get_or w (t - d) 0))
back m w t em e k a b c d h p q ea eb ec ed =
    let h' : 16 ≤ t - k = omega arith in
    let l : t - k < t = omega arith in
    let fa = minus t k 3 a ea in
    let fb = minus t k 8 b eb in
    let fc = minus t k 14 c ec in
    let fd = minus t k 16 d ed in
    buffer-word m w t (t - k) em e h' l
    ∙ (λ i. ROTL 1 (bit_xor (bit_xor (bit_xor (get_or w (fa i) 0) (get_or w (fb i) 0)) (get_or w (fc i) 0)) (get_or w (fd i) 0)))

pub fits-set : (w : List ℕ) (t v : ℕ) → ((i : ℕ) → get_or w i 0 < 2 ^ 32) → v < 2 ^ 32 → (i : ℕ) → get_or (set w t v) i 0 < 2 ^ 32
fits-set w t v h hv i = at (ℕ_discrete i t) (dec_le (suc t) (length w))
  where
    at : Dec (i ≡ t) → Dec (t < length w) → get_or (set w t v) i 0 < 2 ^ 32
    at (no f) _ = rw (get_or-set_other w t i v 0 f) (h i)
    at (yes e) (yes l) = rw (e, get_or-set_same w t v 0 l) hv
    at (yes e) (no f) = let g : length (set w t v) ≤ i = omega (arith, length-set w t v) in rw (get_or-eq_default (set w t v) 0 g) (lit< tt)

-- Wₜ from W₃₂ on
pub grow-further : (m w : List ℕ) (t v : ℕ) → length m ≡ 16 → ((i : ℕ) → get_or w i 0 < 2 ^ 32) → 32 ≤ t → t < length w
    → take t w ≡ schedule (t - 16) m
    → v ≡ ROTL 2 (bit_xor (bit_xor (bit_xor (get_or w (t - 6) 0) (get_or w (t - 16) 0)) (get_or w (t - 28) 0)) (get_or w (t - 32) 0))
    → take (t + 1) (set w t v) ≡ schedule (t + 1 - 16) m
grow-further m w t v em fits h l e ev =
    let u : ℕ → ℕ = λ i. get_or w i 0 in
    let h16 : 16 ≤ t = omega arith in
    grow m w t v h16 l e
    (ev
    ∙ further (u (t - 6)) (u (t - 11)) (u (t - 17)) (u (t - 19)) (u (t - 16)) (u (t - 22)) (u (t - 24)) (u (t - 28)) (u (t - 30)) (u (t - 32))
    (fits (t - 6)) (fits (t - 11)) (fits (t - 17)) (fits (t - 19)) (fits (t - 16)) (fits (t - 22)) (fits (t - 24)) (fits (t - 28)) (fits (t - 30)) (fits (t - 32))
    (back m w t em e 3 6 11 17 19 h (lit< tt) (lit< tt) refl refl refl refl) (back m w t em e 8 11 16 22 24 h (lit< tt) (lit< tt) refl refl refl refl)
    (back m w t em e 14 17 22 28 30 h (lit< tt) (lit< tt) refl refl refl refl) (back m w t em e 16 19 24 30 32 h (lit< tt) (lit< tt) refl refl refl refl))

-- ---- the next hash value, as the code has it

pub next-hash : (h : State) (m : List ℕ) {w : List ℕ} {z r : State} → w ≡ schedule 64 m → z ≡ rounds 80 0 h w → r ≡ plus z h
    → r ≡ compressed h m
unfolding compressed
next-hash h m ew ez er = er ∙ ap (λ (z : State). plus z h) (ez ∙ ap (rounds 80 0 h) ew)
