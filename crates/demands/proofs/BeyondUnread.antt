-- An accepted call reads no byte behind those that it used: its conditions speak of these alone.
-- Assumes nothing.
use mathlib.Core.Path.{◌≡◌, refl, sym, ap, ◌∙◌, subst}
use mathlib.Core.List.{List, [], ◌∷◌}
use Prim.Native.Nat.{ℕ, zero, suc, ◌+◌, ◌≤◌, min}
use native.Mathlib.Omega.{arith}
use lib.ListN.{length, take, drop, length-take}
use lib.Seq.{take-take, length-take-le}
use Rattle.octets.specs.Buffers.{put}
use Rattle.octets.specs.Numbers.{be}
use Rattle.protocol.specs.Subkey.{subkey}
use Rattle.protocol.specs.Method.{salt_length}
use Rattle.salt_pool.specs.Pool.{store}
use Rattle.salt_pool.specs.Runs.{Unkept}
use Rattle.stream_pieces.specs.Pieces.{authentic_at, open_at, subkey_words, Keyed, salted_key}
use Rattle.stream_open.specs.declared.Turn.{Turn}
use Rattle.stream_open.specs.declared.Turn.TheVariants.{Variable, Length, Payload, Ended}
use Rattle.stream_open.specs.declared.Receiver.{Receiver}
use Rattle.stream_open.specs.declared.Chunk.{Chunk}
use Rattle.stream_open_request.specs.declared.Request.{Request}
use Rattle.stream_open_variable.specs.declared.VariableHeader.{VariableHeader}
use Rattle.stream_open_response.specs.declared.Response.{Response}
use Rattle.stream_heads.specs.Heads.{front_length, fixed_of}
use Rattle.stream_open_response.specs.Responses.{binding_of}
use Rattle.stream_open.specs.Chunks.{receiver, stream_key}
use Rattle.demands.specs.StreamsKeep.{salt_of}
use Rattle.demands.specs.StreamsOpen.{FixedOpens, RequestOpens, ValidVariable, variable_at, VariableOpens, ResponseOpens, Begins, BeyondUnread}
use Rattle.demands.proofs.RequestTells.{request-exactly-when}
use Rattle.demands.proofs.VariableTells.{variable-exactly-when}
use Rattle.demands.proofs.HeadTells.{response-exactly-when}
use Rattle.stream_pieces.specs.declared.Framing.{Framing}
use Rattle.stream_pieces.specs.Framing.{framing_of}
use Rattle.stream_chunks.specs.Opens.{PieceOpens, Within, TurnOpens, turn_text}
use Rattle.stream_chunks.proofs.StepLaws.{step-exactly-when}

-- ---- a part within the first n bytes

-- a part is the end of a beginning
part_end : (m k j : ℕ) (l : List ℕ) → j ≡ m + k → take k (drop m l) ≡ drop m (take j l)
part_end zero k j l e = let f : k ≡ j = omega arith in ap (λ (i : ℕ). take i l) f
part_end (suc m) k zero l e = absurd (omega arith)
part_end (suc m) zero (suc j) [] e = refl
part_end (suc m) (suc k) (suc j) [] e = refl
part_end (suc m) k (suc j) (x ∷ l) e = let f : j ≡ m + k = omega arith in part_end m k j l f

module _ (n : ℕ) (s t : List ℕ) (e : Begins n s t) where
  pub beginning : (m : ℕ) → m ≤ n → take m t ≡ take m s
  beginning m h = sym (take-take m n t h) ∙ ap (take m) e ∙ take-take m n s h

  pub part : (m k : ℕ) → m + k ≤ n → take k (drop m t) ≡ take k (drop m s)
  part m k h = part_end m k (m + k) t refl ∙ ap (drop m) (beginning (m + k) h) ∙ sym (part_end m k (m + k) s refl)

  -- and is as long
  long : n ≤ length s → n ≤ length t
  long h = let m : n ≡ min n (length t) = sym (length-take-le n s h) ∙ sym (ap length e) ∙ length-take n t in omega arith

-- ---- heads

module _ (method : ℕ) (key : List ℕ) (clock : ℕ) (s t : List ℕ) where
  -- the same salt gives the same key
  key-kept : salt_of method t ≡ salt_of method s → salted_key method key (salt_of method s) ≡ salted_key method key (salt_of method t)
  key-kept e = ap (salted_key method key) (sym e)

  fixed_kept : (kind b time size : ℕ) → salt_of method t ≡ salt_of method s → fixed_of (salt_length method) b t ≡ fixed_of (salt_length method) b s
      → FixedOpens (salted_key method key (salt_of method s)) kind clock (fixed_of (salt_length method) b s) time size
      → FixedOpens (salted_key method key (salt_of method t)) kind clock (fixed_of (salt_length method) b t) time size
  fixed_kept kind b time size es ef d =
      subst (λ (k : Keyed). FixedOpens k kind clock (fixed_of (salt_length method) b t) time size) (key-kept es)
      (subst (λ (f : List ℕ). FixedOpens (salted_key method key (salt_of method s)) kind clock f time size) (sym ef) d)

  module _ (pool : List ℕ) (h : Request) (st : Receiver) (d : RequestOpens method key clock s pool h st) (e : Begins h.used s t) where
    used : h.used ≡ front_length (salt_length method) 0
    used = ap (λ (x : Request). x.used) d.says

    salt-kept : salt_of method t ≡ salt_of method s
    salt-kept = beginning h.used s t e (salt_length method) (omega (arith, used))

    front_kept : fixed_of (salt_length method) 0 t ≡ fixed_of (salt_length method) 0 s
    front_kept = part h.used s t e (salt_length method) (27 + 0) (omega (arith, used))

    whole : h.used ≤ length t
    whole = long h.used s t e (omega (arith, used, d.front-whole))

    request-kept : RequestOpens method key clock t pool h st
    request-kept =
        record {
          lawful-settings = d.lawful-settings;
          front-whole = omega (arith, used, whole);
          time = d.time;
          size = d.size;
          fixed-opens = fixed_kept 0 0 d.time d.size salt-kept front_kept d.fixed-opens;
          place = d.place;
          new-salt = subst (Unkept pool clock) (sym salt-kept) d.new-salt;
          free-place = d.free-place;
          says = d.says;
          stream = d.stream ∙ ap (λ (x : List ℕ). receiver method (Variable d.size) 1 (subkey_words (subkey key x))) (sym salt-kept);
        }

  module _ (request_salt : List ℕ) (h : Response) (st : Receiver) (d : ResponseOpens method key clock request_salt s h st) (e : Begins h.used s t) where
    response-used : h.used ≡ front_length (salt_length method) (salt_length method)
    response-used = ap (λ (x : Response). x.used) d.says

    response-salt : salt_of method t ≡ salt_of method s
    response-salt = beginning h.used s t e (salt_length method) (omega (arith, response-used))

    response-front : fixed_of (salt_length method) (salt_length method) t ≡ fixed_of (salt_length method) (salt_length method) s
    response-front = part h.used s t e (salt_length method) (27 + salt_length method) (omega (arith, response-used))

    response-whole : h.used ≤ length t
    response-whole = long h.used s t e (omega (arith, response-used, d.front-whole))

    response-kept : ResponseOpens method key clock request_salt t h st
    response-kept =
        record {
          front-whole = omega (arith, response-used, response-whole);
          time = d.time;
          size = d.size;
          fixed-opens = fixed_kept 1 (salt_length method) d.time d.size response-salt response-front d.fixed-opens;
          not-empty = d.not-empty;
          for-us = (λ i. binding_of (salt_length method) (open_at (salted_key method key (response-salt i)) 0 (response-front i))) ∙ d.for-us;
          says = d.says;
          stream =
              d.stream ∙ ap (λ (x : List ℕ). receiver method (Payload d.size) 1 (subkey_words (subkey key x))) (sym response-salt);
        }

-- ---- a variable header

module _ (st : Receiver) (s t : List ℕ) (room : ℕ) (h : VariableHeader) (d : VariableOpens st s room h) (e : Begins h.used s t) where
  piece-same : variable_at d.size t ≡ variable_at d.size s
  piece-same = subst (λ (n : ℕ). Begins n s t) (ap (λ (x : VariableHeader). x.used) d.valid.says) e

  variable-kept : VariableOpens st t room h
  variable-kept =
      record {
        known = d.known;
        size = d.size;
        at_turn = d.at_turn;
        counts = d.counts;
        whole = long (d.size + 16) s t piece-same d.whole;
        has_room = d.has_room;
        authentic = ap (authentic_at (stream_key st) 1) piece-same ∙ d.authentic;
        valid = subst (λ (x : List ℕ). ValidVariable d.size (open_at (stream_key st) 1 x) h) (sym piece-same) d.valid;
      }

-- ---- steps

module _ (key : Keyed) (counter m : ℕ) (s t : List ℕ) (e : Begins (m + 16) s t) where
  piece-kept : (asked room : ℕ) → PieceOpens key counter m s asked room → PieceOpens key counter m t asked room
  piece-kept asked room d =
      record { usable = d.usable; whole = long (m + 16) s t e d.whole; has_room = d.has_room; authentic = ap (authentic_at key counter) e ∙ d.authentic }

turn-kept : (f : Framing) (key : Keyed) (counter : ℕ) (turn : Turn) (s t out : List ℕ) (c : Chunk) → TurnOpens f key counter turn s (length out) c → Begins c.used s t
    → TurnOpens f key counter turn t (length out) c × (turn_text key counter turn t out ≡ turn_text key counter turn s out)
turn-kept f key counter Length s t out c d e =
    let u : Begins 18 s t = subst (λ (n : ℕ). Begins n s t) (ap (λ (x : Chunk). x.used) d.1.1) e in (
      (
        piece-kept key counter 2 s t u 0 (length out) d.0,
        (
          subst (λ (x : List ℕ). Within f (be 2 (open_at key counter x))) (sym u) d.1.0,
          d.1.1 ∙ ap (λ (x : List ℕ). record { used = 18; length = be 2 (open_at key counter x) }) (sym u),
        ),
      ),
      refl,
    )
turn-kept f key counter (Payload n) s t out c d e =
    let u : Begins (n + 16) s t = subst (λ (k : ℕ). Begins k s t) (ap (λ (x : Chunk). x.used) d.1.1) e in
    ((piece-kept key counter n s t u n (length out) d.0, d.1), ap (λ (x : List ℕ). put out 0 (open_at key counter x)) u)
turn-kept f key counter Ended s t out c d e = absurd d
turn-kept f key counter (Variable n) s t out c d e = absurd d

-- ---- the whole

pub beyond-unread : BeyondUnread
unfolding request-kept variable-kept
beyond-unread =
    record {
      requests = λ method key clock s t pool h st a e.
          let x = request-exactly-when method key clock s pool h st in
          let y = request-exactly-when method key clock t pool h st in
          let d = x.only-when a in
          let k = request-kept method key clock s t pool h st d e in (
            y.always-when k,
            y.salt-stored k ∙ ap (store pool d.place clock) (salt-kept method key clock s t pool h st d e) ∙ sym (x.salt-stored d),
          );
      variable-headers = λ st s t out h a e.
          let x = variable-exactly-when st s out h in
          let y = variable-exactly-when st t out h in
          let d = x.only-when a in
          let k = variable-kept st s t (length out) h d e in (
            y.always-when k,
            y.opened-text k ∙ ap (λ (p : List ℕ). put out 0 (open_at (stream_key st) 1 p)) (piece-same st s t (length out) h d e) ∙ sym (x.opened-text d),
          );
      responses = λ method key clock request_salt s t h st fits size a e.
          let x = response-exactly-when method key clock request_salt s fits size h st in
          let y = response-exactly-when method key clock request_salt t fits size h st in
          y.always-when (response-kept method key clock s t request_salt h st (x.only-when a) e);
      steps = λ st s t out c a e.
          let x = step-exactly-when framing_of st s out c in
          let y = step-exactly-when framing_of st t out c in
          let d = x.only-when a in
          let k = turn-kept (framing_of st.method) (stream_key st) st.counter st.turn s t out c d.opens e in
          let b = y.always-when (record { known = d.known; opens = k.0 }) in
          (b, y.opened-text b ∙ k.1 ∙ sym (x.opened-text a));
    }
