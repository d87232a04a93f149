-- Demand 1, of every call.
-- Assumes nothing.
use Rattle.std.specs.Prelude.{Err, Ok, Result}
use mathlib.Core.Path.{◌≡◌, refl, sym, ap, ◌∙◌}
use mathlib.Core.Bool.{Bool, true, false, cond, and-eq-true_iff}
use mathlib.Core.List.{List}
use Prim.Native.Nat.{ℕ, ◌*◌, ◌≤◌, ◌<◌}
use native.Mathlib.Nat.{add-zero}
use native.Mathlib.Omega.{arith}
use lib.Dec.{eqb}
use lib.ListN.{length, drop, length-replicate}
use borrow.Author.Tests.{eqb-true, eqb-false}
use Rattle.octets.proofs.BufferLaws.{length-put}
use Rattle.protocol.specs.declared.Refusal.{Refusal}
use Rattle.protocol.specs.Method.{cipher_of}
use Rattle.protocol.specs.Refusal.{refusal_number, added}
use Rattle.session_table.specs.Table.{table_words, lawful, taken, new_table, make_lawful, made, made_retention, lawful_retention}
use Rattle.retention.proofs.RetentionLaws.{else-itself}
use Rattle.session_table.proofs.TableLaws.{wrong-length, new-length, made-in-range, below-range, above-range}
use Rattle.salt_pool.specs.Pool as pool
use Rattle.datagram_seal.specs.declared.Sender.{Sender}
use Rattle.reply_session.specs.Beginning.{reply_begun}
use Rattle.reply_session.proofs.BeginLaws.{unlawful, own-client, others-client, free}
use Rattle.reply_session.proofs.Exactly.{reply-begins-exactly}
use Rattle.datagram_seal.specs.Sealing.{seal_answer, seal_next, datagram, seal_out}
use Rattle.datagram_seal.proofs.AnswerLaws.{sealable}
use Rattle.demands.specs.Demand1.{SealAnswered, sealed, refused, SealKeeps, BeginAnswered, begins, refused-1, refused-12, Made, Demand1}
use Rattle.demands.specs.Orders.{said_sealed, seal_order}
use Rattle.demands.proofs.DatagramDemands.{openers-keep}
use Rattle.demands.proofs.DatagramSealing.{answers-length, writes-length}
use Rattle.protocol.proofs.OrderLaws.{of-order}
use Rattle.demands.proofs.Orders.{orders}
use Rattle.demands.proofs.StreamDemands.{streams-demand1}

-- ---- sealing a datagram

module _ (method : ℕ) (key nonce : List ℕ) (sender : Sender) (time : ℕ) (address : List ℕ) (padding : ℕ) (payload out : List ℕ) where
  abbrev text : List ℕ
  text = datagram (cipher_of method) key nonce sender time address padding payload

  abbrev answer : Result ℕ Refusal
  answer = seal_answer method (length key) (length nonce) sender address padding (length payload) (length out)

  refused_as : (a : Result ℕ Refusal) (r : Refusal) → a ≡ Err r → seal_out a text out ≡ out
  refused_as a r e = ap (λ (x : Result ℕ Refusal). seal_out x text out) e

  sealed-fits : (n : ℕ) → answer ≡ Ok n → (length text ≡ n) × (n ≤ length out)
  sealed-fits n e = (
    answers-length method key nonce sender time address padding payload out n e,
    (sealable method (length key) (length nonce) sender address padding (length payload) (length out) n e).space,
  )

  datagram-keeps : SealKeeps sender answer text out
  datagram-keeps =
      record {
        answered = by_order answer refl;
        refused-writes-nothing = refused_as answer;
        refused-keeps-session = λ r e.
            ap (seal_next sender) e
            ∙ ap (λ (p : ℕ). record { side = sender.side; id = sender.id; packet = p }) (add-zero sender.packet);
        sealed-length = sealed-fits;
        sealed-counts = λ n e. ap (seal_next sender) e;
        past-length-kept = λ n e.
            ap (λ (x : Result ℕ Refusal). drop n (seal_out x text out)) e ∙ writes-length method key nonce sender time address padding payload out n e;
        length-kept = kept answer refl;
      }
    where
      by_order : (a : Result ℕ Refusal) → answer ≡ a → SealAnswered answer
      by_order (Ok n) e = sealed n e
      by_order (Err r) e =
          refused r
          (of-order (seal_order method (length key) (length nonce) sender address padding (length payload) (length out)) _ (refusal_number r) (added r)
          (sym (orders.datagram-sealed method (length key) (length nonce) sender address padding (length payload) (length out)) ∙ ap said_sealed e)) e

      kept : (a : Result ℕ Refusal) → answer ≡ a → length (seal_out answer text out) ≡ length out
      kept (Ok n) e =
          let f = sealed-fits n e in
          ap (λ (x : Result ℕ Refusal). length (seal_out x text out)) e ∙ length-put out 0 text (omega (arith, f.0, f.1))
      kept (Err r) e = ap length (refused_as answer r e)

-- ---- beginning

begins-or-refused : (t : List ℕ) (clock id client : ℕ) → BeginAnswered id client (reply_begun t clock id client)
begins-or-refused t clock id client = go (lawful t) (eqb id client) (taken t clock id) refl refl refl
  where
    go : (l s u : Bool) → lawful t ≡ l → eqb id client ≡ s → taken t clock id ≡ u → BeginAnswered id client (reply_begun t clock id client)
    go false s u el es eu = refused-1 (unlawful t clock id client el)
    go true true u el es eu = refused-12 (own-client t clock id client el (eqb-true id client es))
    go true false true el es eu = refused-12 (others-client t clock id client el eu)
    go true false false el es eu = begins (free t clock id client el (eqb-false id client es) eu)

-- ---- making

-- words of their own length, or those lent: n words in place of as many
made-length : (b : Bool) (new t : List ℕ) → (b ≡ true → length new ≡ length t) → length (cond b new t) ≡ length t
made-length true new t e = e refl
made-length false new t e = refl

-- 0 is made 300, and a number above it itself
table-0 : (t : List ℕ) → length t ≡ table_words → (make_lawful 0 t ≡ true) × (made 0 t ≡ new_table 300)
table-0 t e = made-in-range 0 t e (omega arith) (omega arith)

itself : (R : ℕ) → 0 < R → R ≡ made_retention R
itself R l = else-itself R (λ e. omega (arith, l, e))

table-R : (R : ℕ) (t : List ℕ) → length t ≡ table_words → 60 ≤ R → R ≤ 3600 → (make_lawful R t ≡ true) × (made R t ≡ new_table R)
table-R R t e l u =
    let k = itself R (omega (arith, l)) in
    let m = made-in-range R t e (omega (arith, k, l)) (omega (arith, k, u)) in
    (m.0, m.1 ∙ ap new_table (sym k))

tables-made : Made
tables-made =
    record {
      table-of-0 = λ t e. (table-0 t e).1;
      table-of-R = λ R t e l u. (table-R R t e l u).1;
      table-made-0 = λ t e. (table-0 t e).0;
      table-made-R = λ R t e l u. (table-R R t e l u).0;
      too-few-seconds = λ R t l u. let k = itself R l in below-range R t (omega (arith, k, u));
      too-many-seconds = λ R t l. let k = itself R (omega (arith, l)) in above-range R t (omega (arith, k, l));
      other_length = λ R t n. wrong-length (length t) (lawful_retention R) n;
      table-refused = λ R t e. ap (λ (b : Bool). cond b (new_table (made_retention R)) t) e;
      table-length = λ R t. made-length (make_lawful R t) (new_table (made_retention R)) t
          (λ e. new-length (made_retention R) ∙ sym (eqb-true (length t) table_words ((and-eq-true_iff (eqb (length t) table_words) _).0 e).0));
      pool-refused = λ method t e. ap (λ (b : Bool). cond b (pool.new_pool method) t) e;
      pool-length = λ method t. made-length (pool.make_lawful method t) (pool.new_pool method) t
          (λ e. pool-words method ∙ sym (eqb-true (length t) pool.pool_words ((and-eq-true_iff (eqb (length t) pool.pool_words) _).0 e).0));
    }
  where
    pool-words : (method : ℕ) → length (pool.new_pool method) ≡ pool.pool_words
    pool-words method = omega (arith, length-replicate {A = ℕ} (pool.capacity * pool.record_words) 0)

-- ---- all calls

pub demand1 : Demand1
demand1 =
    record {
      datagrams-opened = openers-keep;
      datagrams-sealed = datagram-keeps;
      sessions-begun = record { clients = λ id. refl; servers-answered = begins-or-refused; servers = reply-begins-exactly };
      tables-and-pools-made = tables-made;
      streams = streams-demand1;
    }
