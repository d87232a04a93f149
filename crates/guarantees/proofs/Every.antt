-- Demand 1 of one call, whichever it is.
-- Assumes nothing.
use Rattle.guarantees.specs.Calls.{Call, Lent, step, relay_table_new, relay_session_begin_client, relay_session_begin_server, relay_datagram_seal, relay_datagram_open_server, relay_datagram_open_client, relay_pool_new, relay_stream_seal_request, relay_stream_seal_response, relay_stream_seal_chunk, relay_stream_open_request, relay_stream_open_variable, relay_stream_open_response, relay_stream_open_chunk, relay_sip004_datagram_seal, relay_sip004_datagram_open, relay_sip004_stream_begin_seal, relay_sip004_stream_begin_open, relay_sip004_stream_seal_chunk, relay_sip004_stream_open_chunk, relay_plan_make, relay_plan_check, relay_recording_compare, relay_recording_mend, relay_settings_read, relay_settings_write}
use Rattle.guarantees.specs.Guarantees.{Ends}
use Rattle.guarantees.proofs.Plain.{table-new, pool-new, begin-client, begin-server, datagram-seal}
use Rattle.guarantees.proofs.Sealing.{seal-request, seal-response, seal-chunk, seal-chunk-2017, begin-seal-2017, begin-open-2017, datagram-seal-2017, datagram-open-2017}
use Rattle.guarantees.proofs.Files.{plan-make, plan-check, recording-compare, recording-mend, settings-read, settings-write}
use Rattle.guarantees.proofs.Datagrams.{open-server, open-client}
use Rattle.guarantees.proofs.Heads.{open-request, open-response}
use Rattle.guarantees.proofs.Pieces.{open-variable, open-chunk, open-chunk-2017}

pub every_call : (c : Call) (m : Lent) → Ends m (step c m)
every_call (relay_table_new retention) m = table-new m retention
every_call (relay_session_begin_client id) m = begin-client m id
every_call (relay_session_begin_server id client clock) m = begin-server m id client clock
every_call (relay_datagram_seal method key nonce clock address padding payload) m = datagram-seal m method key nonce clock address padding payload
every_call (relay_datagram_open_server method key clock first second port datagram) m = open-server m method key clock first second port datagram
every_call (relay_datagram_open_client method key clock client first second port datagram) m = open-client m method key clock client first second port datagram
every_call (relay_pool_new method) m = pool-new m method
every_call (relay_stream_seal_request method key salt clock address padding payload) m = seal-request m method key salt clock address padding payload
every_call (relay_stream_seal_response method key salt request_salt clock payload) m = seal-response m method key salt request_salt clock payload
every_call (relay_stream_seal_chunk payload) m = seal-chunk m payload
every_call (relay_stream_open_request method key clock bytes) m = open-request m method key clock bytes
every_call (relay_stream_open_variable bytes) m = open-variable m bytes
every_call (relay_stream_open_response method key clock request_salt bytes) m = open-response m method key clock request_salt bytes
every_call (relay_stream_open_chunk bytes) m = open-chunk m bytes
every_call (relay_sip004_datagram_seal method key salt payload) m = datagram-seal-2017 m method key salt payload
every_call (relay_sip004_datagram_open method key datagram) m = datagram-open-2017 m method key datagram
every_call (relay_sip004_stream_begin_seal method key salt) m = begin-seal-2017 m method key salt
every_call (relay_sip004_stream_begin_open method key salt) m = begin-open-2017 m method key salt
every_call (relay_sip004_stream_seal_chunk payload) m = seal-chunk-2017 m payload
every_call (relay_sip004_stream_open_chunk bytes) m = open-chunk-2017 m bytes
every_call (relay_plan_make method address limit report) m = plan-make m method address limit report
every_call (relay_plan_check method address limit report plan) m = plan-check m method address limit report plan
every_call (relay_recording_compare first second) m = recording-compare m first second
every_call relay_recording_mend m = recording-mend m
every_call (relay_settings_read file) m = settings-read m file
every_call (relay_settings_write edition settings bodies) m = settings-write m edition settings bodies
