-- The scope's edges P1 to P12, by computing all of them.
-- Assumes nothing.
use Rattle.octets.specs.Numbers.{be, to_be}
use Rattle.aes_tables.specs.Field.{x_times, times, ◌•◌, square, powers, inverse}
use Rattle.aes_tables.specs.SBox.{bit, from_bits, affine, s_box}
use Rattle.protocol.specs.Time.{time_valid}
use Rattle.socks5.specs.Address.{name_at, parse_at}
use Rattle.session_table.specs.Table.{meet, session_place, free_place}
use Rattle.datagram_parts.specs.Headers.{fixed_part, plaintext}
use Rattle.datagram_read.specs.Opening.{read_address, read_main}
use Rattle.edges.specs.Edges.{rows, Edges}

pub edges : Edges
unfolding rows time_valid read_main read_address plaintext fixed_part to_be be parse_at name_at meet session_place free_place x_times times ◌•◌ square powers inverse bit from_bits affine s_box
edges = tt
