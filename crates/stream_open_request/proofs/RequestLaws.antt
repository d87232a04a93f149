-- Opening the front of a request's head: a law for each way out of each function.
-- Assumes nothing.
use mathlib.Core.Path.{◌≡◌, refl, sym, ap, ap₂, ◌∙◌, subst}
use mathlib.Core.Bool.{Bool, true, false, cond, ◌&&◌, and-eq-true_iff}
use mathlib.Core.List.{List}
use mathlib.Core.Logic.{◌⊎◌, inl, inr}
use Prim.Native.Nat.{ℕ, ◌+◌, ◌-◌, ◌<◌, ◌≤◌}
use native.Mathlib.Omega.{arith}
use lib.Dec.{eqb, leb}
use lib.ListN.{length, get_or, take, drop}
use borrow.Author.Tests.{le-leb, lt-leb, eqb-true}
use Rattle.aead.specs.Aead.{KeyFor}
use Rattle.protocol.specs.declared.Cipher.{Cipher}
use Rattle.protocol.specs.declared.Refusal.{Refusal}
use Rattle.protocol.specs.declared.Refusal.TheVariants.{Settings, Replay, Full, More}
use Rattle.protocol.specs.Method.{key_fits, salt_length, cipher_of}
use Rattle.protocol.specs.Subkey.{subkey}
use Rattle.protocol.proofs.MethodLaws.{fits-sizes}
use Rattle.salt_pool.specs.Pool.{Met}
use Rattle.std.specs.Prelude.{Ok, Err, Result}
use Rattle.salt_pool.specs.Pool.{Replay as Known, Full as NoRoom}
use Rattle.salt_pool.specs.Pool.{pool_words, lawful, meet, store}
use Rattle.stream_pieces.specs.declared.Subkey.{Subkey}
use Rattle.stream_pieces.specs.Pieces.{subkey_words, key_of, Keyed, keyed}
use Rattle.stream_pieces.proofs.KeyLaws.{key-of-method, length-subkey, octets-subkey, words-of-either, subkey-back}
use Rattle.stream_heads.specs.Heads.{front_length, fixed_of, open_fixed}
use Rattle.stream_heads.specs.declared.Fixed.{Fixed}
use Rattle.stream_open_request.specs.Requests.{met_as, stored_in, fixed_as, read_front, fixed_pool, front_pool, settings, opened_as, opened_request, request_pool}
use Rattle.stream_open_request.specs.declared.Request.{Request}
use Rattle.stream_open.specs.declared.Receiver.{Receiver}

-- ---- what the salt meets

module _ (pool : List ℕ) (clock : ℕ) (salt : List ℕ) (f : Fixed) (m : Met) (em : m ≡ meet pool clock salt) where
  met_at : (x : Met) → m ≡ x
      → (met_as x f ≡ met_as (meet pool clock salt) f) × (stored_in x clock salt pool ≡ stored_in (meet pool clock salt) clock salt pool)
  met_at x ex =
      let e = sym ex ∙ em in
      (ap (λ (y : Met). met_as y f) e, ap (λ (y : Met). stored_in y clock salt pool) e)

  pub met-room : (i : ℕ) → m ≡ Ok i → (p : List ℕ) → p ≡ store pool i clock salt
      → (Ok f ≡ met_as (meet pool clock salt) f) × (p ≡ stored_in (meet pool clock salt) clock salt pool)
  met-room i e p ep = let d = met_at (Ok i) e in (d.0, ep ∙ d.1)

  pub met-replay : m ≡ Err Known
      → (Err Replay ≡ met_as (meet pool clock salt) f) × (pool ≡ stored_in (meet pool clock salt) clock salt pool)
  met-replay e = met_at (Err Known) e

  pub met-full : m ≡ Err NoRoom → (Err Full ≡ met_as (meet pool clock salt) f) × (pool ≡ stored_in (meet pool clock salt) clock salt pool)
  met-full e = met_at (Err NoRoom) e

-- ---- the front

pub fixed-part : (n : ℕ) (s : List ℕ) → take (n + 27 - n) (drop n s) ≡ fixed_of n 0 s
fixed-part n s = let a : n + 27 - n ≡ 27 + 0 = omega arith in ap (λ (k : ℕ). take k (drop n s)) a

module _ (key : Keyed) (clock n : ℕ) (s pool part : List ℕ) (ep : part ≡ fixed_of n 0 s) (x : Result Fixed Refusal)
    (ex : x ≡ open_fixed key 0 clock part)
  where
    abbrev met : Met
    met = meet pool clock (take n s)

    front_at : (y : Result Fixed Refusal) → x ≡ y
        → (fixed_as met y ≡ read_front key clock n s pool) × (fixed_pool met y clock (take n s) pool ≡ front_pool key clock n s pool)
    unfolding read_front front_pool
    front_at y e =
        let f = sym e ∙ ex ∙ ap (open_fixed key 0 clock) ep in
        (ap (fixed_as met) f, ap (λ (z : Result Fixed Refusal). fixed_pool met z clock (take n s) pool) f)

    pub front-unread : (r : Refusal) → x ≡ Err r → (Err r ≡ read_front key clock n s pool) × (pool ≡ front_pool key clock n s pool)
    front-unread r e = front_at (Err r) e

    pub front_read : (f : Fixed) → x ≡ Ok f → (r : Result Fixed Refusal) (p : List ℕ) → r ≡ met_as met f → p ≡ stored_in met clock (take n s) pool
        → (r ≡ read_front key clock n s pool) × (p ≡ front_pool key clock n s pool)
    front_read f e r p er ep = let d = front_at (Ok f) e in (er ∙ d.0, ep ∙ d.1)

-- ---- the whole

pub settings-law : (method k : ℕ) (pool : List ℕ) (b c x : Bool) → b ≡ key_fits method k → b ≡ x → c ≡ lawful pool method
    → (x && c) ≡ settings method k pool
unfolding settings
settings-law method k pool b c x eb e ec = λ i. (sym e ∙ eb) i && ec i

-- what lawful settings say
pub record Lawful (method k : ℕ) (pool : List ℕ) (n : ℕ) : Type 0 where
  pub salt : n ≡ k
  pub either : (k ≡ 16) ⊎ (k ≡ 32)
  pub good : (c : Cipher) → c ≡ cipher_of method → KeyFor c n
  pub most : n ≤ 32
  pub words : length pool ≡ pool_words

pub lawful-settings : (method k : ℕ) (pool : List ℕ) (b : Bool) (n : ℕ) → b ≡ settings method k pool → b ≡ true → n ≡ salt_length method
    → Lawful method k pool n
unfolding settings
lawful-settings method k pool b n eb e en =
    let h : (key_fits method k && lawful pool method) ≡ true = sym eb ∙ e in
    let both = (and-eq-true_iff (key_fits method k) (lawful pool method)).0 h in
    let fits = both.0 in
    let z = fits-sizes method k fits in
    let same : n ≡ k = en ∙ z.salt-is in
    record {
      salt = same;
      either = z.either;
      good = λ c e. subst (λ (x : Cipher). KeyFor x n) (sym e) (subst (KeyFor (cipher_of method)) (sym same) (key-of-method method k fits));
      most = either-most same z.either;
      words = eqb-true (length pool) pool_words ((and-eq-true_iff (eqb (length pool) pool_words) (eqb (get_or pool 0 0) method)).0 both.1).0;
    }
  where
    either-most : n ≡ k → (k ≡ 16) ⊎ (k ≡ 32) → n ≤ 32
    either-most f (inl g) = omega (arith, f, g)
    either-most f (inr g) = omega (arith, f, g)

module _ (method : ℕ) (key : List ℕ) (clock : ℕ) (s pool : List ℕ) where
  abbrev salt_bytes : ℕ
  salt_bytes = salt_length method

  abbrev k : List ℕ
  k = subkey key (take salt_bytes s)

  -- by the tests of the settings and of the front
  request-at : (a l : Bool) → settings method (length key) pool ≡ a → leb (front_length salt_bytes 0) (length s) ≡ l
      → (cond a
      (cond l (opened_as method (subkey_words k) (front_length salt_bytes 0) (read_front (keyed (cipher_of method) k) clock salt_bytes s pool)) (Err (More (front_length salt_bytes 0))))
      (Err Settings)
      ≡ opened_request method key clock s pool)
      × (cond (a && l) (front_pool (keyed (cipher_of method) k) clock salt_bytes s pool) pool ≡ request_pool method key clock s pool)
  unfolding opened_request request_pool
  request-at a l ea el = (
    λ i. cond (sym ea i)
        (cond (sym el i) (opened_as method (subkey_words k) (front_length salt_bytes 0) (read_front (keyed (cipher_of method) k) clock salt_bytes s pool)) (Err (More (front_length salt_bytes 0))))
        (Err Settings),
    λ i. cond (sym ea i && sym el i) (front_pool (keyed (cipher_of method) k) clock salt_bytes s pool) pool,
  )

  module _ (b : Bool) (eb : b ≡ settings method (length key) pool) where
    pub request-settings : b ≡ false
        → (Err Settings ≡ opened_request method key clock s pool) × (pool ≡ request_pool method key clock s pool)
    request-settings e = request-at false _ (sym eb ∙ e) refl

    module _ (fits : b ≡ true) (n : ℕ) (en : n ≡ salt_bytes) where
      pub request-more : length s < n + 27
          → (Err (More (n + 27)) ≡ opened_request method key clock s pool) × (pool ≡ request_pool method key clock s pool)
      request-more h =
          let l : length s < front_length salt_bytes 0 = omega (arith, en) in
          let e : n + 27 ≡ front_length salt_bytes 0 = omega (arith, en) in
          let d = request-at true false (sym eb ∙ fits) (lt-leb (front_length salt_bytes 0) (length s) l) in
          (ap (λ (m : ℕ). Err (More m)) e ∙ d.0, d.1)

      -- the key from the words that the state has
      key_back : (w : Subkey) → w ≡ subkey_words (subkey key (take n s)) → key_of w n ≡ subkey key (take n s)
      key_back w ew =
          let d = lawful-settings method (length key) pool b n eb fits en in
          let short : length key ≤ 32 = omega (arith, d.salt, d.most) in
          let size : length (subkey key (take n s)) ≡ length key = length-subkey key (take n s) short in
          ap₂ key_of ew (d.salt ∙ sym size)
          ∙ subkey-back (subkey key (take n s)) (octets-subkey key (take n s))
          (words-of-either _ (subst (λ (m : ℕ). (m ≡ 16) ⊎ (m ≡ 32)) (sym size) d.either))

      pub request-done : n + 27 ≤ length s → (w : Subkey) → w ≡ subkey_words (subkey key (take n s)) → (c : Cipher) → c ≡ cipher_of method → (r : Result Fixed Refusal) (p : List ℕ)
          → r ≡ read_front (keyed c (key_of w n)) clock n s pool → p ≡ front_pool (keyed c (key_of w n)) clock n s pool → (x : Result (Request × Receiver) Refusal)
          → x ≡ opened_as method w (n + 27) r
          → (x ≡ opened_request method key clock s pool) × (p ≡ request_pool method key clock s pool)
      request-done h w ew c ec r p er ep x ex =
          let l : front_length salt_bytes 0 ≤ length s = omega (arith, en) in
          let u : n + 27 ≡ front_length salt_bytes 0 = omega (arith, en) in
          let d = request-at true true (sym eb ∙ fits) (le-leb (front_length salt_bytes 0) (length s) l) in
          let kn = ap (λ (m : ℕ). subkey key (take m s)) en in
          let ks = key_back w ew ∙ kn in (
            ex ∙ (λ i. opened_as method ((ew ∙ ap subkey_words kn) i) (u i) ((er ∙ (λ j. read_front (keyed (ec j) (ks j)) clock (en j) s pool)) i)) ∙ d.0,
            ep ∙ (λ i. front_pool (keyed (ec i) (ks i)) clock (en i) s pool) ∙ d.1,
          )
