-- When exactly a reply session begins, and when it is refused with 1 and with 12. The numbers are written out.
-- Assumes nothing.
use Rattle.std.specs.Prelude.{◌≡◌, ◌≢◌, true, false, List, ℕ, ◌<◌, Err, Ok, Result}
use Rattle.protocol.specs.declared.Refusal.TheVariants.{Settings, Argument}
use Rattle.session_table.specs.Table.{retention, lawful, record_at, live}
use Rattle.datagram_parts.specs.declared.Side.TheVariants.{Server}
use Rattle.reply_session.specs.Beginning.{reply_begun}
use Rattle.datagram_seal.specs.declared.Sender.{Sender}
use Rattle.protocol.specs.declared.Refusal.{Refusal}

-- every record that is alive at the clock has another ID: all 64 of them, not only the lowest of an ID
abbrev pub AllOthers : List ℕ → (clock id : ℕ) → Type 0
AllOthers t clock id = (i : ℕ) → i < 64 → live (retention t) clock (record_at t i) ≡ true → (record_at t i).id ≢ id

-- a is what is answered
pub record BeginsExactly (t : List ℕ) (clock id client : ℕ) (a : Result Sender Refusal) : Type 0 where
  pub begun-only-when : a ≡ Ok (record { side = Server client; id = id; packet = 0 })
      → (lawful t ≡ true) × (AllOthers t clock id × (id ≢ client))
  pub begun-when : lawful t ≡ true → AllOthers t clock id → id ≢ client → a ≡ Ok (record { side = Server client; id = id; packet = 0 })
  pub refused-1-only-when : a ≡ Err Settings → lawful t ≡ false
  pub refused-1-when : lawful t ≡ false → a ≡ Err Settings
  pub refused-12-only-when : a ≡ Err Argument → (lawful t ≡ true) × (AllOthers t clock id → id ≢ client → ⊥)
  pub refused-12-when : lawful t ≡ true → (AllOthers t clock id → id ≢ client → ⊥) → a ≡ Err Argument

abbrev pub ReplyBeginsExactly : Type 0
ReplyBeginsExactly = (t : List ℕ) (clock id client : ℕ) → BeginsExactly t clock id client (reply_begun t clock id client)
