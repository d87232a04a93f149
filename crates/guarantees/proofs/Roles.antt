-- What each call does to the table and to the pool that it is lent.
-- Assumes nothing.
use mathlib.Core.Path.{◌≡◌, refl}
use mathlib.Core.List.{List}
use Prim.Native.Nat.{ℕ}
use Rattle.relay.specs.Datagrams.{opens_datagram}
use Rattle.relay.specs.Streams.{opens_request}
use Rattle.guarantees.specs.Calls.{Call, Lent, Said, Role, nothing, makes-table, opens-datagram, makes-pool, opens-front, opens, step, role_of, relay_table_new, relay_session_begin_client, relay_session_begin_server, relay_datagram_seal, relay_datagram_open_server, relay_datagram_open_client, relay_pool_new, relay_stream_seal_request, relay_stream_seal_response, relay_stream_seal_chunk, relay_stream_open_request, relay_stream_open_variable, relay_stream_open_response, relay_stream_open_chunk, relay_sip004_datagram_seal, relay_sip004_datagram_open, relay_sip004_stream_begin_seal, relay_sip004_stream_begin_open, relay_sip004_stream_seal_chunk, relay_sip004_stream_open_chunk, relay_plan_make, relay_plan_check, relay_recording_compare, relay_recording_mend, relay_settings_read, relay_settings_write}

-- a table that is not made is left, or opened on
abbrev pub OnTable : Role → Lent → Said → Type 0
OnTable nothing m x = x.left.table ≡ m.table
OnTable makes-table m x = Unit {0}
OnTable (opens-datagram o) m x =
    x ≡ opens o (opens_datagram o.method o.key o.client o.clock o.peer o.datagram m.table m.out m.answer) m
OnTable makes-pool m x = x.left.table ≡ m.table
OnTable (opens-front f) m x = x.left.table ≡ m.table

pub on-table : (c : Call) (m : Lent) → OnTable (role_of c) m (step c m)
unfolding step
on-table (relay_table_new retention) m = _
on-table (relay_session_begin_client id) m = refl
on-table (relay_session_begin_server id client clock) m = refl
on-table (relay_datagram_seal method key nonce clock address padding payload) m = refl
on-table (relay_datagram_open_server method key clock first second port datagram) m = refl
on-table (relay_datagram_open_client method key clock client first second port datagram) m = refl
on-table (relay_pool_new method) m = refl
on-table (relay_stream_seal_request method key salt clock address padding payload) m = refl
on-table (relay_stream_seal_response method key salt request_salt clock payload) m = refl
on-table (relay_stream_seal_chunk payload) m = refl
on-table (relay_stream_open_request method key clock bytes) m = refl
on-table (relay_stream_open_variable bytes) m = refl
on-table (relay_stream_open_response method key clock request_salt bytes) m = refl
on-table (relay_stream_open_chunk bytes) m = refl
on-table (relay_sip004_datagram_seal method key salt payload) m = refl
on-table (relay_sip004_datagram_open method key datagram) m = refl
on-table (relay_sip004_stream_begin_seal method key salt) m = refl
on-table (relay_sip004_stream_begin_open method key salt) m = refl
on-table (relay_sip004_stream_seal_chunk payload) m = refl
on-table (relay_sip004_stream_open_chunk bytes) m = refl
on-table (relay_plan_make method address limit report) m = refl
on-table (relay_plan_check method address limit report plan) m = refl
on-table (relay_recording_compare first second) m = refl
on-table relay_recording_mend m = refl
on-table (relay_settings_read file) m = refl
on-table (relay_settings_write edition settings bodies) m = refl

-- a pool likewise
pub record FrontLeft (method : ℕ) (key : List ℕ) (clock : ℕ) (s : List ℕ) (m : Lent) (x : Said) : Type 0 where
  pub number : x.number ≡ (opens_request method key clock s m.pool m.stream m.answer).number
  pub pool : x.left.pool ≡ (opens_request method key clock s m.pool m.stream m.answer).pool

abbrev pub OnPool : Role → Lent → Said → Type 0
OnPool nothing m x = x.left.pool ≡ m.pool
OnPool makes-table m x = x.left.pool ≡ m.pool
OnPool (opens-datagram o) m x = x.left.pool ≡ m.pool
OnPool makes-pool m x = Unit {0}
OnPool (opens-front f) m x = FrontLeft f.method f.key f.clock f.bytes m x

pub on-pool : (c : Call) (m : Lent) → OnPool (role_of c) m (step c m)
unfolding step
on-pool (relay_table_new retention) m = refl
on-pool (relay_session_begin_client id) m = refl
on-pool (relay_session_begin_server id client clock) m = refl
on-pool (relay_datagram_seal method key nonce clock address padding payload) m = refl
on-pool (relay_datagram_open_server method key clock first second port datagram) m = refl
on-pool (relay_datagram_open_client method key clock client first second port datagram) m = refl
on-pool (relay_pool_new method) m = _
on-pool (relay_stream_seal_request method key salt clock address padding payload) m = refl
on-pool (relay_stream_seal_response method key salt request_salt clock payload) m = refl
on-pool (relay_stream_seal_chunk payload) m = refl
on-pool (relay_stream_open_request method key clock bytes) m = record { number = refl; pool = refl }
on-pool (relay_stream_open_variable bytes) m = refl
on-pool (relay_stream_open_response method key clock request_salt bytes) m = refl
on-pool (relay_stream_open_chunk bytes) m = refl
on-pool (relay_sip004_datagram_seal method key salt payload) m = refl
on-pool (relay_sip004_datagram_open method key datagram) m = refl
on-pool (relay_sip004_stream_begin_seal method key salt) m = refl
on-pool (relay_sip004_stream_begin_open method key salt) m = refl
on-pool (relay_sip004_stream_seal_chunk payload) m = refl
on-pool (relay_sip004_stream_open_chunk bytes) m = refl
on-pool (relay_plan_make method address limit report) m = refl
on-pool (relay_plan_check method address limit report plan) m = refl
on-pool (relay_recording_compare first second) m = refl
on-pool relay_recording_mend m = refl
on-pool (relay_settings_read file) m = refl
on-pool (relay_settings_write edition settings bodies) m = refl

-- which of these it is does not depend on what is lent
pub role_same : (c : Call) (m : Lent) → (step c m).role ≡ role_of c
unfolding step
role_same (relay_table_new retention) m = refl
role_same (relay_session_begin_client id) m = refl
role_same (relay_session_begin_server id client clock) m = refl
role_same (relay_datagram_seal method key nonce clock address padding payload) m = refl
role_same (relay_datagram_open_server method key clock first second port datagram) m = refl
role_same (relay_datagram_open_client method key clock client first second port datagram) m = refl
role_same (relay_pool_new method) m = refl
role_same (relay_stream_seal_request method key salt clock address padding payload) m = refl
role_same (relay_stream_seal_response method key salt request_salt clock payload) m = refl
role_same (relay_stream_seal_chunk payload) m = refl
role_same (relay_stream_open_request method key clock bytes) m = refl
role_same (relay_stream_open_variable bytes) m = refl
role_same (relay_stream_open_response method key clock request_salt bytes) m = refl
role_same (relay_stream_open_chunk bytes) m = refl
role_same (relay_sip004_datagram_seal method key salt payload) m = refl
role_same (relay_sip004_datagram_open method key datagram) m = refl
role_same (relay_sip004_stream_begin_seal method key salt) m = refl
role_same (relay_sip004_stream_begin_open method key salt) m = refl
role_same (relay_sip004_stream_seal_chunk payload) m = refl
role_same (relay_sip004_stream_open_chunk bytes) m = refl
role_same (relay_plan_make method address limit report) m = refl
role_same (relay_plan_check method address limit report plan) m = refl
role_same (relay_recording_compare first second) m = refl
role_same relay_recording_mend m = refl
role_same (relay_settings_read file) m = refl
role_same (relay_settings_write edition settings bodies) m = refl
