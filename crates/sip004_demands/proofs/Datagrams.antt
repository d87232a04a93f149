-- The promises about datagrams.
-- Assumes nothing.
use Rattle.std.specs.Prelude.{Err, Ok, Result}
use mathlib.Core.Path.{◌≡◌, refl, sym, ap, ◌∙◌, subst}
use mathlib.Core.Bool.{Bool, true, false, false≢true}
use mathlib.Core.List.{List, ◌++◌, append_assoc}
use Prim.Native.Nat.{ℕ, ◌+◌, ◌-◌, ◌≤◌}
use native.Mathlib.Nat.{zero-add}
use native.Mathlib.Omega.{arith}
use lib.ListN.{length, take, drop}
use lib.Seq.{take_at}
use Rattle.octets.specs.Buffers.{put}
use Rattle.octets.proofs.BufferLaws.{length-put, drop-put}
use Rattle.gcm.specs.Gcm.{tag, seal}
use Rattle.protocol.specs.declared.Refusal.TheVariants.{NotAuthentic}
use Rattle.sip004.specs.Subkey.{subkey}
use Rattle.sip004.specs.Datagram.{datagram, seal_answer, seal_out, lawful_answer, body_authentic, payload_of, judged, open_answer, open_out}
use Rattle.sip004.proofs.AnswerLaws.{Sealable, sealable, openable, text-fits, own_key, judged-as}
use Rattle.sip004.proofs.DatagramLaws.{length-datagram}
use Rattle.protocol.proofs.OrderLaws.{of-order}
use Rattle.sip004_demands.specs.Datagrams.{cipher, nonce, TagGood, Lawful, OpensExactly, DatagramsExactly, ciphertext, SealsBytes, DatagramsBytes, OpensBack, DatagramsBack, SealKeeps, OpenKeeps, DatagramsKeep, seal_leaves, open_leaves}
use Rattle.sip004_demands.specs.DatagramOrders.{said_sealed, said_opened, sealed_bytes, seal_order, due_bytes, open_order}
use Rattle.sip004_demands.proofs.DatagramLaws.{front, length-payload, payload-is, tag-good, good-tag, datagram-authentic, payload-back}
use Rattle.sip004_demands.proofs.DatagramOrders.{datagram-orders}
use Rattle.protocol.specs.declared.Refusal.{Refusal}

-- ---- answers

abbrev is_text : Result ℕ Refusal → ℕ
is_text (Ok n) = 1
is_text (Err r) = 0

abbrev length_in : Result ℕ Refusal → ℕ
length_in (Ok n) = n
length_in (Err r) = 0

no_text : {n : ℕ} {a : Result ℕ Refusal} → a ≡ Ok n → is_text a ≡ 0 → ⊥
no_text e z = let y : ◌≡◌ {A = ℕ} 0 1 = sym z ∙ ap is_text e in omega arith

judged-text : (m n : ℕ) (b : Bool) → judged (Ok m) b ≡ Ok n → (n ≡ m) × (b ≡ true)
judged-text m n true e = (sym (ap length_in e), refl)
judged-text m n false e = absurd (no_text e refl)

judged-forged : (n : ℕ) (b : Bool) → judged (Ok n) b ≡ Err NotAuthentic → b ≡ false
judged-forged n true e = absurd (no_text (sym e) refl)
judged-forged n false e = refl

-- what is given was due
judged-due : (q : Result ℕ Refusal) (b : Bool) (n : ℕ) → judged q b ≡ Ok n → q ≡ Ok n
judged-due (Ok m) true n e = e
judged-due (Ok m) false n e = absurd (no_text e refl)
judged-due (Err r) b n e = absurd (no_text e refl)

-- ---- opened exactly when it is authentic

module _ (method : ℕ) (key s out : List ℕ) (l : Lawful method key s out) where
  abbrev due : ℕ
  due = length s - (length key + 16)

  decided : (b : Bool) → body_authentic key s ≡ b → judged (Ok due) b ≡ open_answer method key s (length out)
  decided b e =
      judged-as method key s out (Ok due)
      (own_key method (length key) (length s) (length out) l.settings (Ok due)
      (text-fits (length key) (length s) (length out) l.shortest l.longest l.room))
      (Ok due) b refl (sym e)

  opens-exactly : OpensExactly method key s out
  opens-exactly = record {
    accepted = λ n. (
      λ e.
          let j = judged-text due n (body_authentic key s) (decided (body_authentic key s) refl ∙ e) in
          (j.0, tag-good key s l.shortest j.1),
      λ g. sym (decided true (good-tag key s l.shortest g.1)) ∙ ap Ok (sym g.0),
    );
    refused = (
      λ e g. false≢true (sym (judged-forged due (body_authentic key s) (decided (body_authentic key s) refl ∙ e)) ∙ good-tag key s l.shortest g),
      λ f. forged f (body_authentic key s) refl,
    );
    text = λ g.
        ap (λ (a : Result ℕ Refusal). open_out a (payload_of key s) out) (sym (decided true (good-tag key s l.shortest g)))
        ∙ front out (payload_of key s) due (length-payload key s) ∙ ap (λ (t : List ℕ). t ++ drop due out) (payload-is key s);
  }
    where
      forged : (TagGood key s → ⊥) → (b : Bool) → body_authentic key s ≡ b → open_answer method key s (length out) ≡ Err NotAuthentic
      forged f true e = absurd (f (tag-good key s l.shortest e))
      forged f false e = sym (decided false e)

pub datagrams-exactly : DatagramsExactly
datagrams-exactly = opens-exactly

-- ---- sealed byte for byte

module _ (method : ℕ) (key salt payload out : List ℕ) (n : ℕ)
    (answered : seal_answer method (length key) (length salt) (length payload) (length out) ≡ Ok n)
  where
    facts : Sealable method (length key) (length salt) (length payload) (length out) n
    facts = sealable method (length key) (length salt) (length payload) (length out) n answered

    length-sent : length (datagram key salt payload) ≡ n
    length-sent = length-datagram key salt payload ∙ sym facts.size

    leaves : seal_leaves method key salt payload out ≡ put out 0 (datagram key salt payload)
    leaves = ap (λ (a : Result ℕ Refusal). seal_out a (datagram key salt payload) out) answered

    sent : seal_leaves method key salt payload out ≡ datagram key salt payload ++ drop n out
    sent = leaves ∙ front out (datagram key salt payload) n length-sent

    seals-bytes : SealsBytes method key salt payload out n
    unfolding datagram seal subkey
    seals-bytes =
        let c = ciphertext key salt payload in
        let t = tag (cipher key salt) nonce c in
        record {
          size = omega (arith, facts.size);
          bytes = sent ∙ append_assoc salt (c ++ t) (drop n out) ∙ ap (λ (x : List ℕ). salt ++ x) (append_assoc c t (drop n out));
        }

    first-bytes : take n (seal_leaves method key salt payload out) ≡ datagram key salt payload
    first-bytes = ap (take n) sent ∙ take_at (datagram key salt payload) (drop n out) n length-sent

    -- ---- and back

    back : (room : List ℕ) → length payload ≤ length room → OpensBack method key payload (datagram key salt payload) room
    back room fits =
        let d = datagram key salt payload in
        let size = facts.size in
        let same_length = facts.same_length in
        let long : length d ≡ length payload + (length key + 16) = omega (arith, length-sent, size, same_length) in
        let l : Lawful method key d room =
        record { settings = facts.fits; shortest = omega (arith, long); longest = omega (arith, length-sent, facts.most); room = omega (arith, long) } in
        let n : length d - (length key + 16) ≡ length payload = omega (arith, long) in
        let e : open_answer method key d (length room) ≡ Ok (length payload) =
        sym (decided method key d room l true (datagram-authentic key salt payload same_length)) ∙ ap Ok n in
        record {
          answer = e;
          text =
              ap (λ (a : Result ℕ Refusal). open_out a (payload_of key d) room) e ∙ ap (put room 0) (payload-back key salt payload same_length)
              ∙ front room payload (length payload) refl;
        }

    behind-kept : drop n (seal_leaves method key salt payload out) ≡ drop n out
    behind-kept =
        let d = datagram key salt payload in
        let e : 0 + length d ≡ n = zero-add (length d) ∙ length-sent in
        ap (drop n) leaves ∙ ap (λ (k : ℕ). drop k (put out 0 d)) (sym e) ∙ drop-put out 0 d (omega (arith, e, facts.space))
        ∙ ap (λ (k : ℕ). drop k out) e

    sealed-length : length (seal_leaves method key salt payload out) ≡ length out
    sealed-length = ap length leaves ∙ length-put out 0 (datagram key salt payload) (omega (arith, length-sent, facts.space))

pub datagrams-bytes : DatagramsBytes
datagrams-bytes = seals-bytes

pub datagrams-back : DatagramsBack
datagrams-back method key salt payload sent-in n answered out room =
    subst (λ (s : List ℕ). OpensBack method key payload s out) (sym (first-bytes method key salt payload sent-in n answered))
    (back method key salt payload sent-in n answered out room)

-- ---- what is kept

module _ (method : ℕ) (key salt payload out : List ℕ) where
  abbrev sealing : Result ℕ Refusal
  sealing = seal_answer method (length key) (length salt) (length payload) (length out)

  leaves-sealed : (a : Result ℕ Refusal) → sealing ≡ a → seal_leaves method key salt payload out ≡ seal_out a (datagram key salt payload) out
  leaves-sealed a e = ap (λ (x : Result ℕ Refusal). seal_out x (datagram key salt payload) out) e

  seal-length : (a : Result ℕ Refusal) → sealing ≡ a → length (seal_leaves method key salt payload out) ≡ length out
  seal-length (Ok n) e = sealed-length method key salt payload out n e
  seal-length (Err r) e = ap length (leaves-sealed (Err r) e)

  seal-keeps : SealKeeps method key salt payload out
  seal-keeps = record {
    refusals = λ r e.
        of-order (seal_order method (length key) (length salt) (length payload) (length out)) (sealed_bytes (length salt) (length payload)) _ _
        (sym (datagram-orders.sealing method (length key) (length salt) (length payload) (length out)) ∙ ap said_sealed e);
    refused-keeps = λ r e. leaves-sealed (Err r) e;
    behind-kept = behind-kept method key salt payload out;
    length-kept = seal-length sealing refl;
  }

module _ (method : ℕ) (key s out : List ℕ) where
  abbrev opening : Result ℕ Refusal
  opening = open_answer method key s (length out)

  -- the text has room
  text-room : (n : ℕ) → opening ≡ Ok n → 0 + length (payload_of key s) ≤ length out
  unfolding open_answer
  text-room n e =
      let q = lawful_answer method (length key) (length s) (length out) in
      let f = openable method (length key) (length s) (length out) n (judged-due q (body_authentic key s) n e) in
      omega (arith, f.size, f.space, length-payload key s)

  leaves-opened : (a : Result ℕ Refusal) → opening ≡ a → open_leaves method key s out ≡ open_out a (payload_of key s) out
  leaves-opened a e = ap (λ (x : Result ℕ Refusal). open_out x (payload_of key s) out) e

  past-due : (a : Result ℕ Refusal) → opening ≡ a → drop (length s - (length key + 16)) (open_leaves method key s out) ≡ drop (length s - (length key + 16)) out
  past-due (Ok n) e =
      let p = payload_of key s in
      let at : length s - (length key + 16) ≡ 0 + length p = sym (zero-add (length p) ∙ length-payload key s) in
      (λ i. drop (at i) (leaves-opened (Ok n) e i)) ∙ drop-put out 0 p (text-room n e) ∙ ap (λ (k : ℕ). drop k out) (sym at)
  past-due (Err r) e = ap (drop (length s - (length key + 16))) (leaves-opened (Err r) e)

  open-length : (a : Result ℕ Refusal) → opening ≡ a → length (open_leaves method key s out) ≡ length out
  open-length (Ok n) e = ap length (leaves-opened (Ok n) e) ∙ length-put out 0 (payload_of key s) (text-room n e)
  open-length (Err r) e = ap length (leaves-opened (Err r) e)

  open-keeps : OpenKeeps method key s out
  open-keeps = record {
    refusals = λ r e.
        of-order (open_order method key s (length out)) (due_bytes key s) _ _
        (sym (datagram-orders.opening method key s (length out)) ∙ ap said_opened e);
    refused-keeps = λ r e. leaves-opened (Err r) e;
    past-due-kept = past-due opening refl;
    length-kept = open-length opening refl;
  }

pub datagrams-keep : DatagramsKeep
datagrams-keep = record { sealing = seal-keeps; opening = open-keeps }
