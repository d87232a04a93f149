-- The calls that leave all that they were lent where they refuse: making, beginning and sealing.
-- Assumes nothing.
use Rattle.std.specs.Prelude.{Err, Ok, Result}
use mathlib.Core.Path.{◌≡◌, refl, sym, ap, ◌∙◌}
use mathlib.Core.Bool.{Bool, true, false, cond, ◌&&◌, and-eq-true_iff}
use mathlib.Core.List.{List, [], ◌∷◌}
use Prim.Native.Nat.{ℕ}
use native.Mathlib.Omega.{arith}
use lib.Dec.{eqb}
use lib.ListN.{length, get_or, set, drop}
use Rattle.octets.specs.Buffers.{put}
use Rattle.protocol.specs.Orders.{among}
use Rattle.protocol.specs.Method.{cipher_of}
use Rattle.protocol.specs.declared.Refusal.{Refusal}
use Rattle.protocol.specs.Refusal.{refusal_number}
use Rattle.session_table.specs.Table as table
use Rattle.salt_pool.specs.Pool as pool
use Rattle.datagram_seal.specs.Sealing.{client_sender, seal_answer, datagram}
use Rattle.reply_session.specs.Beginning.{reply_begun}
use Rattle.words.specs.States.{session_size, session_lawful, session_in}
use Rattle.relay.specs.Datagrams as datagrams
use Rattle.demands.specs.Demand1 as demands
use Rattle.demands.specs.Demand1.{SealKeeps, BeginAnswered, begins, refused-1, refused-12}
use Rattle.demands.proofs.Demand1.{demand1}
use Rattle.guarantees.specs.Calls.{Lent, nothing, makes-table, makes-pool, says, writes, leaves, leaves_stream, step, relay_table_new, relay_session_begin_client, relay_session_begin_server, relay_datagram_seal, relay_pool_new}
use Rattle.guarantees.specs.Guarantees.{Ends}
use Rattle.guarantees.proofs.Base.{listed-too, either, written, first_word, length-nine, keeps, accepts}
use Rattle.datagram_seal.specs.declared.Sender.{Sender}

module _ (m : Lent) where
  -- ---- making

  pub table-new : (R : ℕ) → Ends m (step (relay_table_new R) m)
  unfolding step
  table-new R = go (table.make_lawful R m.table) refl
    where
      go : (b : Bool) → table.make_lawful R m.table ≡ b
          → Ends m (says (1 ∷ []) makes-table (datagrams.settings_number b)
          (leaves m (cond b (table.new_table (table.made_retention R)) m.table) m.session m.out m.words m.answer) 0)
      go true e = accepts (1 ∷ []) makes-table _ 0 m refl refl _ refl refl
      go false e = keeps (1 ∷ []) makes-table _ 0 m refl refl 1 refl

  pub pool-new : (method : ℕ) → Ends m (step (relay_pool_new method) m)
  unfolding step
  pool-new method = go (pool.make_lawful method m.pool) refl
    where
      go : (b : Bool) → pool.make_lawful method m.pool ≡ b
          → Ends m (says (1 ∷ []) makes-pool (datagrams.settings_number b)
          (leaves_stream m (cond b (pool.new_pool method) m.pool) m.stream m.out m.answer) 0)
      go true e = accepts (1 ∷ []) makes-pool _ 0 m refl refl _ refl refl
      go false e = keeps (1 ∷ []) makes-pool _ 0 m refl refl 1 refl

  -- ---- beginning

  module _ (ns : List ℕ) (no-10 : among (0 ∷ ns) 10 ≡ false) (no-15 : among (0 ∷ ns) 15 ≡ false) (has_1 : among (0 ∷ ns) 1 ≡ true) where
    begun : (x : Result Sender Refusal) → ((r : Refusal) → x ≡ Err r → among (0 ∷ ns) (refusal_number r) ≡ true)
        → Ends m (says ns nothing (datagrams.begins x m.session).number
        (leaves m m.table (datagrams.begins x m.session).session m.out m.words m.answer) 0)
    unfolding datagrams.begins
    begun x listed =
        either (λ (y : datagrams.AfterBegin). Ends m (says ns nothing y.number (leaves m m.table y.session m.out m.words m.answer) 0))
        (eqb (length m.session) session_size) (datagrams.begun_words x m.session) (record { number = 1; session = m.session })
        (λ e. go x listed) (λ e. keeps ns nothing _ 0 m no-10 no-15 1 has_1)
      where
        go : (x : Result Sender Refusal) → ((r : Refusal) → x ≡ Err r → among (0 ∷ ns) (refusal_number r) ≡ true)
            → Ends m (says ns nothing (datagrams.begun_words x m.session).number
            (leaves m m.table (datagrams.begun_words x m.session).session m.out m.words m.answer) 0)
        go (Ok s) l = accepts ns nothing _ 0 m no-10 no-15 _ refl refl
        go (Err r) l = keeps ns nothing _ 0 m no-10 no-15 (refusal_number r) (l r refl)

  pub begin-client : (id : ℕ) → Ends m (step (relay_session_begin_client id) m)
  unfolding step
  begin-client id = begun (1 ∷ []) refl refl refl (Ok (client_sender id)) (λ r e. absurd (not-both r e))
    where
      is_ready : Result Sender Refusal → ℕ
      is_ready (Ok s) = 1
      is_ready (Err r) = 0

      not-both : (r : Refusal) → Ok (client_sender id) ≡ Err r → ⊥
      not-both r e = let z : ◌≡◌ {A = ℕ} 1 0 = ap is_ready e in omega arith

  pub begin-server : (id client clock : ℕ) → Ends m (step (relay_session_begin_server id client clock) m)
  unfolding step
  begin-server id client clock =
      begun (1 ∷ 12 ∷ []) refl refl refl (reply_begun m.table clock id client) (λ r. by (demand1.sessions-begun.servers-answered m.table clock id client) r)
    where
      number : Result Sender Refusal → ℕ
      number (Ok s) = 0
      number (Err r) = refusal_number r

      by : {x : Result Sender Refusal} → BeginAnswered id client x → (r : Refusal) → x ≡ Err r → among (0 ∷ 1 ∷ 12 ∷ []) (refusal_number r) ≡ true
      by (begins e) r f = ap (among (0 ∷ 1 ∷ 12 ∷ [])) (sym (ap number f) ∙ ap number e)
      by (refused-1 e) r f = ap (among (0 ∷ 1 ∷ 12 ∷ [])) (sym (ap number f) ∙ ap number e)
      by (refused-12 e) r f = ap (among (0 ∷ 1 ∷ 12 ∷ [])) (sym (ap number f) ∙ ap number e)

  -- ---- sealing a datagram

  module _ (method : ℕ) (key nonce : List ℕ) (clock : ℕ) (address : List ℕ) (padding : ℕ) (payload : List ℕ) where
    abbrev ns : List ℕ
    ns = 1 ∷ 12 ∷ 11 ∷ 2 ∷ 3 ∷ []

    abbrev answered : Result ℕ Refusal
    answered = seal_answer method (length key) (length nonce) (session_in m.session) address padding (length payload) (length m.out)

    abbrev text : List ℕ
    text = datagram (cipher_of method) key nonce (session_in m.session) clock address padding payload

    abbrev Says : datagrams.AfterSeal → Type 0
    Says y = Ends m (writes ns y.number (leaves m m.table y.session y.out m.words y.answer))

    sealed-keeps : SealKeeps (session_in m.session) answered text m.out
    sealed-keeps = demand1.datagrams-sealed method key nonce (session_in m.session) clock address padding payload m.out

    datagram-told : length m.answer ≡ 9 → (x : Result ℕ Refusal) → answered ≡ x → Says (datagrams.sealed x text m.session m.out m.answer)
    datagram-told l (Ok n) e =
        let f = sealed-keeps.sealed-length n e in
        let w = written m.out text n f.0 f.1 in
        let a = first_word m.answer n l in
        accepts ns nothing _ (get_or (set m.answer 0 n) 0 0) m refl refl _
        (ap (λ (k : ℕ). drop k (put m.out 0 text)) a ∙ w.0 ∙ sym (ap (λ (k : ℕ). drop k m.out) a)) w.1
    datagram-told l (Err r) e =
        keeps ns nothing _ (get_or m.answer 0 0) m refl refl (refusal_number r) (listed sealed-keeps.answered)
      where
        number : Result ℕ Refusal → ℕ
        number (Ok n) = 0
        number (Err q) = refusal_number q

        listed : demands.SealAnswered answered → among (0 ∷ ns) (refusal_number r) ≡ true
        listed (demands.sealed n f) = ap (among (0 ∷ ns)) (sym (ap number e) ∙ ap number f)
        listed (demands.refused q g f) = listed-too ns (refusal_number r) (ap (among ns) (sym (ap number e) ∙ ap number f) ∙ g)

    pub datagram-seal : Ends m (step (relay_datagram_seal method key nonce clock address padding payload) m)
    unfolding step datagrams.seals_datagram
    datagram-seal =
        either Says (eqb (length m.answer) 9 && session_lawful m.session) _ _
        (λ e. datagram-told (length-nine m.answer ((and-eq-true_iff (eqb (length m.answer) 9) _).0 e).0) answered refl)
        (λ e. keeps ns nothing _ (get_or m.answer 0 0) m refl refl 1 refl)
