-- Beginning a server's sending session, in reply to a client's, on the table of the clients' sessions: what is answered.
use Rattle.std.specs.Prelude.{cond, ◌||◌, List, ℕ, eqb, Err, Ok, Result}
use Rattle.protocol.specs.declared.Refusal.TheVariants.{Settings, Argument}
use Rattle.session_table.specs.Table.{lawful, taken}
use Rattle.datagram_seal.specs.Sealing.{server_sender}
use Rattle.datagram_seal.specs.declared.Sender.{Sender}
use Rattle.protocol.specs.declared.Refusal.{Refusal}

-- refusal 1 for a table that is not lawful, then 12 where the ID is its own client's or a session alive has it
unfoldable pub reply_begun : List ℕ → (clock id client : ℕ) → Result Sender Refusal
reply_begun t clock id client =
    cond (lawful t) (cond (eqb id client || taken t clock id) (Err Argument) (Ok (server_sender id client))) (Err Settings)
