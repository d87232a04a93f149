-- The scope's numbers and layouts, by computing all of them.
-- Assumes nothing.
use Rattle.std.specs.Prelude.{None, Option, Some}
use mathlib.Core.Path.{◌≡◌, refl, subst}
use lib.Dec.{T}
use Rattle.octets.specs.Buffers.{put, same}
use Rattle.octets.specs.Numbers.{be, to_be, to_le}
use Rattle.aes.specs.Keyed.{nk_of}
use Rattle.protocol.specs.Method.{methods, method_of, key_fits, key_length, salt_length, cipher_of}
use Rattle.protocol.proofs.MethodLaws.{among}
use Rattle.protocol.specs.Subkey.{subkey, session_subkey}
use Rattle.protocol.specs.Time.{time_valid}
use Rattle.socks5.specs.Address.{v4_at, v6_at, name_at, parse_at, is_address}
use Rattle.session_record.specs.Record.{one_more}
use Rattle.session_table.specs.Table.{session_place, taken}
use Rattle.reply_session.specs.Beginning.{reply_begun}
use Rattle.salt_pool.specs.Pool.{kept, store}
use Rattle.datagram_parts.specs.Headers.{separate_header, nonce, fixed_part, plaintext, sealed_text}
use Rattle.datagram_seal.specs.Sealing.{sealed_length}
use Rattle.datagram_read.specs.Opening.{read_address, read_main}
use Rattle.datagram_open.specs.Deciding.{belongs}
use Rattle.stream_pieces.specs.Pieces.{nonce as counter_nonce}
use Rattle.stream_seal_heads.specs.HeadSealing.{fixed_part as fixed_header, variable_part}
use Rattle.stream_open.specs.Steps.{step_answer}
use Rattle.stream_open_variable.specs.Variable.{header_answer, variable_answer}
use Rattle.words.specs.Answers.{refused_answer}
use Rattle.stream_answers.specs.Chunks.{not_sealing}
use Rattle.edges.specs.Numbers.{method_facts, table_facts, pool_facts, address_facts, datagram_facts, stream_facts, word_facts, host_facts, every, facts, RoundsFit, MethodsFit, Material, Numbers}
use Rattle.protocol.specs.declared.Method.{Method}

all-facts : T (every facts)
unfolding one_more session_place taken reply_begun method_facts table_facts pool_facts address_facts datagram_facts stream_facts word_facts host_facts same method_of cipher_of key_fits key_length salt_length time_valid be to_be to_le store kept v4_at v6_at name_at parse_at is_address separate_header nonce fixed_part plaintext sealed_text variable_part refused_answer put sealed_length read_address read_main belongs counter_nonce fixed_header step_answer not_sealing variable_answer header_answer
all-facts = tt

-- the sizes of a method that there is
abbrev SizesFit : Option Method → Type 0
SizesFit (Some x) = RoundsFit x.cipher x.rounds x.key × (x.salt ≡ x.key)
SizesFit None = Unit {0}

methods-fit : MethodsFit
unfolding method_of nk_of
methods-fit n m e =
    subst SizesFit e
    (among SizesFit tt n methods ((refl, refl), ((refl, refl), (((refl, refl), refl), (((refl, refl), refl), (((refl, refl), refl), tt))))))

material : Material
unfolding subkey session_subkey to_be
material = record { of-salt = λ key salt. refl; of-session = λ key. refl }

pub numbers : Numbers
numbers = record { all-facts = all-facts; methods-fit = methods-fit; material = material }
