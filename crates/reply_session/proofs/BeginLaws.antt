-- What beginning a reply session answers: a law for each way out. Assumes nothing.
use Rattle.std.specs.Prelude.{Err, Ok}
use mathlib.Core.Path.{◌≡◌, refl, ap, ap₂, ◌∙◌}
use mathlib.Core.Bool.{Bool, true, false, cond, ◌||◌, or-true}
use mathlib.Core.List.{List}
use Prim.Native.Nat.{ℕ}
use lib.Dec.{eqb}
use borrow.Author.Tests.{eq-eqb, ne_eqb}
use Rattle.protocol.specs.declared.Refusal.TheVariants.{Settings, Argument}
use Rattle.session_table.specs.Table.{lawful, taken}
use Rattle.datagram_seal.specs.Sealing.{server_sender}
use Rattle.reply_session.specs.Beginning.{reply_begun}

module _ (t : List ℕ) (clock id client : ℕ) where
  -- by its two tests
  by_tests : (l b : Bool) → lawful t ≡ l → (eqb id client || taken t clock id) ≡ b
      → reply_begun t clock id client ≡ cond l (cond b (Err Argument) (Ok (server_sender id client))) (Err Settings)
  unfolding reply_begun
  by_tests l b el eb = ap₂ (λ (x y : Bool). cond x (cond y (Err Argument) (Ok (server_sender id client))) (Err Settings)) el eb

  pub unlawful : lawful t ≡ false → reply_begun t clock id client ≡ Err Settings
  unlawful l = by_tests false (eqb id client || taken t clock id) l refl

  module _ (l : lawful t ≡ true) where
    pub own-client : id ≡ client → reply_begun t clock id client ≡ Err Argument
    own-client e = by_tests true true l (ap (λ (b : Bool). b || taken t clock id) (eq-eqb id client e))

    pub others-client : taken t clock id ≡ true → reply_begun t clock id client ≡ Err Argument
    others-client e = by_tests true true l (ap (◌||◌ (eqb id client)) e ∙ or-true (eqb id client))

    pub free : (id ≡ client → ⊥) → taken t clock id ≡ false → reply_begun t clock id client ≡ Ok (server_sender id client)
    free n e = by_tests true false l (ap₂ (λ (x y : Bool). x || y) (ne_eqb id client n) e)
