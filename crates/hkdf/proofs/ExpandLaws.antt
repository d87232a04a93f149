-- T(1) | T(2) | .. written block by block.
-- Assumes nothing.
use mathlib.Core.Bool.{Bool, true, false, ◌&&◌, and-false}
use mathlib.Core.Path.{◌≡◌, refl, sym, ap, ◌∙◌}
use mathlib.Core.List.{List, [], ◌∷◌, ◌++◌}
use Prim.Native.Nat.{ℕ, zero, suc, ◌+◌, ◌-◌, ◌*◌, ◌/◌, ◌<◌, ◌≤◌, min}
use native.Mathlib.Decide.{dec_le}
use native.Mathlib.Numerals.{add-one}
use native.Mathlib.Omega.{arith}
use borrow.Author.Tests.{le-leb, lt-leb}
use lib.Dec.{leb}
use lib.ListN.{length, take, length-append}
use lib.Seq.{take_all, take-nil, take-take, take-append-add, length-take-le}
use Rattle.octets.specs.Buffers.{put}
use Rattle.octets.proofs.BufferLaws.{put-put, put-none, put_whole}
use Rattle.hmac.specs.Hmac.{mac_with, keyed_of}
use Rattle.hmac.specs.declared.Keyed.{Keyed}
use Rattle.hmac.proofs.HmacLaws.{mac-keyed, length-hmac}
use Rattle.hkdf.specs.Hkdf.{T, joined_t, expand, lawful}
use Rattle.hkdf.specs.Buffer.{laid, before, held}
use Rattle.hkdf.proofs.BufferLaws.{take-laid}

-- ---- lengths

length-T : (prk info : List ℕ) (i : ℕ) → length (T prk info (suc i)) ≡ 20
unfolding T
length-T prk info i = length-hmac prk (T prk info i ++ (info ++ suc i ∷ []))

pub length-joined : (prk info : List ℕ) (n : ℕ) → length (joined_t prk info n) ≡ 20 * n
unfolding joined_t
length-joined prk info zero = refl
length-joined prk info (suc n) =
    length-append (joined_t prk info n) (T prk info (suc n)) ∙ omega (arith, length-joined prk info n, length-T prk info n)

pub length-held : (prk info : List ℕ) (i : ℕ) → length (held prk info i) ≡ 20
unfolding held
length-held prk info zero = refl
length-held prk info (suc i) = length-T prk info i

before-held : (prk info : List ℕ) (i : ℕ) → before i (held prk info i) ≡ T prk info i
unfolding before held T
before-held prk info zero = refl
before-held prk info (suc i) = refl

-- ---- one block more

-- what is in the buffer after i turns: T(i), or zeros for none
pub step-held : (k : Keyed) (prk info b' : List ℕ) (i : ℕ) → k ≡ keyed_of prk
    → b' ≡ laid (mac_with k (before i (held prk info i) ++ (info ++ (i + 1) ∷ []))) info (i + 1)
    → b' ≡ laid (held prk info (i + 1)) info (i + 1)
unfolding held T
step-held k prk info b' i ek eb =
    eb
    ∙ ap (λ (t : List ℕ). laid t info (i + 1))
    ((λ j. mac_with (ek j) (before-held prk info i j ++ (info ++ add-one i j ∷ [])))
    ∙ mac-keyed prk (T prk info i ++ (info ++ suc i ∷ []))
    ∙ ap (held prk info) (sym (add-one i)))

-- the first bytes of T(i + 1) in the buffer
cut : (r : ℕ) (b t : List ℕ) → length t ≡ 20 → take 20 b ≡ t → take (min r 20) b ≡ take r t
cut r b t e eb = pick (dec_le r 20)
  where
    pick : Dec (r ≤ 20) → take (min r 20) b ≡ take r t
    pick (yes h) =
        let m : min r 20 ≡ r = omega arith in
        ap (λ (k : ℕ). take k b) m ∙ sym (take-take r 20 b h) ∙ ap (take r) eb
    pick (no f) =
        let m : min r 20 ≡ 20 = omega arith in
        let l : length t ≤ r = omega arith in
        ap (λ (k : ℕ). take k b) m ∙ eb ∙ sym (take_all r t l)

first-bytes : (prk info b' : List ℕ) (i r : ℕ) → b' ≡ laid (held prk info (i + 1)) info (i + 1)
    → take (min r 20) b' ≡ take r (held prk info (i + 1))
first-bytes prk info b' i r eb =
    let h = held prk info (i + 1) in
    cut r b' h (length-held prk info (i + 1)) (ap (take 20) eb ∙ take-laid h info (length-held prk info (i + 1)) (i + 1))

grown-joined : (prk info : List ℕ) (i : ℕ) → joined_t prk info i ++ held prk info (i + 1) ≡ joined_t prk info (i + 1)
unfolding joined_t held
grown-joined prk info i =
    ap (λ (k : ℕ). joined_t prk info i ++ held prk info k) (add-one i) ∙ ap (joined_t prk info) (sym (add-one i))

-- what is written after i turns
module _ (prk info d : List ℕ) (i : ℕ) (more : 20 * i < length d) where
  all : take (length d) (joined_t prk info i) ≡ joined_t prk info i
  all = take_all (length d) (joined_t prk info i) (omega (arith, length-joined prk info i))

  pub step-out : (b' v w : List ℕ) → b' ≡ laid (held prk info (i + 1)) info (i + 1) → length v ≡ length d
      → v ≡ put d 0 (take (length d) (joined_t prk info i)) → w ≡ put v (20 * i) (take (min (length v - 20 * i) 20) b')
      → w ≡ put d 0 (take (length d) (joined_t prk info (i + 1)))
  step-out b' v w eb el ev ew =
      let js = joined_t prk info i in
      let n : length js ≡ 20 * i = length-joined prk info i in
      let n' : 20 * i ≡ 0 + length js = omega arith in
      let f : 0 + length js ≤ length d = omega arith in
      let r : length d ≡ length js + (length d - 20 * i) = omega arith in
      let t = held prk info (i + 1) in
      ew
      ∙ (λ j. put ((ev ∙ ap (put d 0) all) j) (n' j) (take (min (el j - 20 * i) 20) b'))
      ∙ ap (put (put d 0 js) (0 + length js)) (first-bytes prk info b' i (length d - 20 * i) eb)
      ∙ put-put d 0 js f (take (length d - 20 * i) t)
      ∙ ap (put d 0)
      (sym (ap (λ (l : ℕ). take l (js ++ t)) r ∙ take-append-add js t (length d - 20 * i)) ∙ ap (take (length d)) (grown-joined prk info i))

-- nothing yet, and all
pub none_out : (prk info d : List ℕ) → d ≡ put d 0 (take (length d) (joined_t prk info 0))
unfolding joined_t
none_out prk info d = put-none d 0 ∙ ap (put d 0) (sym (take-nil (length d)))

pub all-out : (prk info d v : List ℕ) (i : ℕ) → i ≡ (length d + 19) / 20 → v ≡ put d 0 (take (length d) (joined_t prk info i))
    → v ≡ expand prk info (length d)
unfolding expand
all-out prk info d v i ei ev =
    let js = joined_t prk info i in
    let l : length d ≤ length js = omega (arith, length-joined prk info i) in
    let l' : length d ≤ length (take (length d) js) = omega (arith, length-take-le (length d) js l) in
    ev ∙ put_whole d (take (length d) js) l' ∙ ap (λ (n : ℕ). take (length d) (joined_t prk info n)) ei

-- ---- the answers

module _ (info : List ℕ) (l : ℕ) where
  pub refused-info : 235 < length info → false ≡ lawful info l
  unfolding lawful
  refused-info h = sym (ap (λ (x : Bool). x && leb l 5100) (lt-leb (length info) 235 h))

  pub refused-length : 5100 < l → false ≡ lawful info l
  unfolding lawful
  refused-length h =
      sym (ap (λ (x : Bool). leb (length info) 235 && x) (lt-leb l 5100 h) ∙ and-false (leb (length info) 235))

  pub taken-both : length info ≤ 235 → l ≤ 5100 → true ≡ lawful info l
  unfolding lawful
  taken-both p q = sym (λ i. le-leb (length info) 235 p i && le-leb l 5100 q i)
