-- The front of a head is read back from what was sealed, and the key of a stream from its words. For every key length of AES.
-- Assumes nothing.
use Rattle.std.specs.Prelude.{Err, Ok}
use mathlib.Core.Path.{◌≡◌, refl, sym, ap, ◌∙◌}
use mathlib.Core.Bool.{true, cond}
use mathlib.Core.List.{List, ◌++◌, append_assoc}
use mathlib.Core.Logic.{inl, inr, ⊎_elim}
use Prim.Native.Nat.{ℕ, ◌+◌, ◌-◌, ◌^◌, ◌≤◌, ◌<◌}
use native.Mathlib.Nat.{mod-eq_of_lt}
use native.Mathlib.Omega.{arith}
use lib.Dec.{leb}
use lib.ListN.{length, take, drop, length-append}
use lib.Seq.{take_at, drop_at, drop-drop, drop-append_seam}
use borrow.Author.Tests.{eq-eqb, le-leb}
use Rattle.octets.specs.Numbers.{be, to_be}
use Rattle.octets.proofs.NumberLaws.{length-to_be, be-to_be, be-front}
use Rattle.protocol.specs.Method.{key_fits, key_length, cipher_of}
use Rattle.protocol.specs.Subkey.{subkey}
use Rattle.protocol.specs.Time.{time_valid}
use Rattle.protocol.proofs.MethodLaws.{fits-sizes}
use Rattle.protocol.specs.declared.Refusal.TheVariants.{NotAuthentic, WrongType, WrongTime}
use Rattle.stream_pieces.specs.Pieces.{seal_at, authentic_at, open_at, subkey_words, key_of, max_chunk, Keyed, keyed, salted_key}
use Rattle.stream_seal_heads.specs.HeadSealing.{fixed_part, front}
use Rattle.stream_heads.specs.Heads.{front_length, fixed_of, fields_of, read_fixed, open_fixed}
use Rattle.stream_open_response.specs.Responses.{binding_of}
use Rattle.stream_pieces.proofs.LengthLaws.{length-seal_at}
use Rattle.stream_seal_heads.proofs.HeadLengthLaws.{length-fixed_part, length_front}
use Rattle.stream_pieces.proofs.KeyLaws.{length-subkey, octets-subkey, words-of-either, subkey-back}
use Rattle.stream_pieces.proofs.PieceLaws.{piece_back}

-- ---- the front of a head: its salt and its fixed header

-- behind a salt of n bytes, with a binding of b bytes; a length and a time that fit their bytes
module _ (k : Keyed) (salt : List ℕ) (kind time : ℕ) (binding : List ℕ) (size : ℕ) (rest : List ℕ) (n b : ℕ)
    (salt-long : length salt ≡ n) (binding-long : length binding ≡ b) (time-fits : time < 2 ^ 64) (size_fits : size ≤ max_chunk)
  where
    abbrev fixed : List ℕ
    fixed = fixed_part kind time binding size

    abbrev head : List ℕ
    head = front k salt kind time binding size ++ rest

    head-split : head ≡ salt ++ (seal_at k 0 fixed ++ rest)
    unfolding front
    head-split = append_assoc salt (seal_at k 0 fixed) rest

    pub salt-back : take n head ≡ salt
    salt-back = ap (take n) head-split ∙ take_at salt (seal_at k 0 fixed ++ rest) n salt-long

    behind-salt : drop n head ≡ seal_at k 0 fixed ++ rest
    behind-salt = ap (drop n) head-split ∙ drop_at salt (seal_at k 0 fixed ++ rest) n salt-long

    length-sealed : length (seal_at k 0 fixed) ≡ 27 + b
    length-sealed = omega (arith, length-seal_at k 0 fixed, length-fixed_part kind time binding size, binding-long)

    sealed-back : fixed_of n b head ≡ seal_at k 0 fixed
    sealed-back = ap (take (27 + b)) behind-salt ∙ take_at (seal_at k 0 fixed) rest (27 + b) length-sealed

    length-head-front : length (front k salt kind time binding size) ≡ front_length n b
    length-head-front = omega (arith, length_front k salt kind time binding size, salt-long, binding-long)

    pub behind-front : drop (front_length n b) head ≡ rest
    behind-front = drop_at (front k salt kind time binding size) rest (front_length n b) length-head-front

    pub front-whole : leb (front_length n b) (length head) ≡ true
    front-whole =
        le-leb (front_length n b) (length head)
        (omega (arith, length-append (front k salt kind time binding size) rest, length-head-front))

    -- the fields

    time-back : be 8 (drop 1 fixed) ≡ time
    unfolding fixed_part
    time-back = be-front 8 time (binding ++ to_be 2 size) time-fits

    from-binding : drop 9 fixed ≡ binding ++ to_be 2 size
    unfolding fixed_part
    from-binding = drop_at (to_be 8 time) (binding ++ to_be 2 size) 8 (length-to_be 8 time)

    size_back : be 2 (drop (length fixed - 2) fixed) ≡ size
    size_back =
        let e : length fixed - 2 ≡ 9 + length binding = omega (arith, length-fixed_part kind time binding size) in
        ap (λ (x : ℕ). be 2 (drop x fixed)) e
        ∙ ap (be 2)
        (sym (drop-drop (length binding) 9 fixed) ∙ ap (drop (length binding)) from-binding ∙ drop-append_seam binding (to_be 2 size))
        ∙ be-to_be 2 size ∙ mod-eq_of_lt (omega arith)

    fields_back : fields_of fixed ≡ record { time = time; length = size }
    fields_back = λ i. record { time = time-back i; length = size_back i }

    pub binding-back : binding_of b (open_at k 0 (fixed_of n b head)) ≡ binding
    binding-back =
        ap (λ (x : List ℕ). binding_of b (open_at k 0 x)) sealed-back ∙ ap (binding_of b) (piece_back k 0 fixed).1 ∙ ap (take b) from-binding
        ∙ take_at binding (to_be 2 size) b binding-long

    fixed_reads : (clock : ℕ) → time_valid time clock ≡ true → read_fixed kind clock fixed ≡ Ok (record { time = time; length = size })
    unfolding read_fixed fixed_part
    fixed_reads clock valid =
        let valid-there = ap (λ (t : ℕ). time_valid t clock) time-back ∙ valid in
        (λ i. cond (eq-eqb kind kind refl i) (cond (valid-there i) (Ok (fields_of fixed)) (Err WrongTime)) (Err WrongType))
        ∙ ap Ok fields_back

    pub fixed_back : (clock : ℕ) → time_valid time clock ≡ true
        → open_fixed k kind clock (fixed_of n b head) ≡ Ok (record { time = time; length = size })
    unfolding open_fixed
    fixed_back clock valid =
        (λ i. cond (authentic_at k 0 (sealed-back i)) (read_fixed kind clock (open_at k 0 (sealed-back i))) (Err NotAuthentic))
        ∙ (λ i. cond ((piece_back k 0 fixed).0 i) (read_fixed kind clock ((piece_back k 0 fixed).1 i)) (Err NotAuthentic))
        ∙ fixed_reads clock valid

-- ---- the key of a stream, from the words that its state has

pub stream-key : (method : ℕ) (key salt : List ℕ) → key_fits method (length key) ≡ true
    → keyed (cipher_of method) (key_of (subkey_words (subkey key salt)) (key_length method)) ≡ salted_key method key salt
stream-key method key salt fits =
    let z = fits-sizes method (length key) fits in
    let short : length key ≤ 32 = ⊎_elim (λ e. omega (arith, e)) (λ e. omega (arith, e)) z.either in
    let n = length-subkey key salt short in
    ap (keyed (cipher_of method))
    (ap (key_of (subkey_words (subkey key salt))) (z.key-is ∙ sym n)
    ∙ subkey-back (subkey key salt) (octets-subkey key salt)
    (words-of-either _ (⊎_elim (λ e. inl (n ∙ e)) (λ e. inr (n ∙ e)) z.either)))
