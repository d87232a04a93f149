-- The numbers of a file of settings, by computing them.
-- Assumes nothing.
use mathlib.Core.Path.{◌≡◌, refl, sym, ◌∙◌}
use mathlib.Core.Bool.{Bool, true, false, cond, not, ◌&&◌, ◌||◌}
use mathlib.Core.List.{[], ◌∷◌}
use Prim.Native.Nat.{ℕ, ◌<◌}
use native.Mathlib.Omega.{arith}
use lib.Dec.{T, eqb, leb}
use lib.ListN.{length}
use Rattle.octets.specs.Numbers.{be, to_be}
use Rattle.octets.proofs.Table.{at_each}
use Rattle.protocol.specs.Method.{method_of, key_length}
use Rattle.sip004.specs.Method.{method_of as method_of2017, key_length as key_length2017}
use Rattle.retention.specs.Retention.{in_range, lawful_retention}
use Rattle.socks5.specs.Address.{is_address, parse_at, v4_at}
use Rattle.settings_rules.specs.Rules.{is_known, is_unknown, is_method, lawful_method, lawful_limit, lawful}
use Rattle.settings_rules.proofs.RuleLaws.{no-method, by-retention, no-retention, of_others}
use Rattle.settings_file.specs.Format.{entry_at, body}
use Rattle.settings_write.specs.Writing.{before, entries, covered}
use Rattle.settings_answers.specs.Told.{set_bits, settings_words}
use Rattle.settings_demands.specs.FileNumbers.{FileNumbers}

-- equal tests
abbrev alike : Bool → Bool → Bool
alike true b = b
alike false b = not b

alike_same : (a b : Bool) → T (alike a b) → a ≡ b
alike_same true true t = refl
alike_same true false t = elim t [ ]
alike_same false true t = elim t [ ]
alike_same false false t = refl

abbrev listed : ℕ → Bool
listed n = leb 1 n && leb n 5 || leb 11 n && leb n 13

-- one test over all bytes
methods-test : (n : ℕ) → n < 256 → T (alike (lawful 1 (n ∷ [])) (listed n))
unfolding lawful lawful_method is_method be key_length key_length2017 method_of method_of2017
methods-test = at_each 256 (λ n. alike (lawful 1 (n ∷ [])) (listed n)) tt

-- 0 stands for a number in range
retention-rule : (r : ℕ) → lawful_retention r ≡ (eqb r 0 || leb 60 r && leb r 3600)
retention-rule r = go (eqb r 0)
  where
    go : (b : Bool) → in_range (cond b 300 r) ≡ (b || in_range r)
    go true = refl
    go false = refl

pub file-numbers : FileNumbers
unfolding lawful lawful_method lawful_limit is_address parse_at v4_at is_method is_unknown is_known entry_at body covered before entries settings_words set_bits be to_be
file-numbers =
    record {
      methods = λ n l. alike_same _ _ (methods-test n l);
      no-method = refl;
      two-bytes-of-method = λ a b s. sym (no-method (a ∷ b ∷ s) (λ (e : length (a ∷ b ∷ s) ≡ 1). omega arith));
      retentions = λ b e. sym (by-retention b e) ∙ retention-rule (be 2 b);
      other-retentions = λ b e. sym (no-retention b e);
      limits = λ b. refl;
      targets = λ b. refl;
      one_address = refl;
      byte-behind = refl;
      others = λ n b l. sym (of_others b n (λ e. omega arith) (λ e. omega arith) (λ e. omega arith) (λ e. omega arith));
      zero-any = λ b. refl;
      unknown = refl;
      sizes = refl;
      empty-length = refl;
      written = refl;
      read_back = refl;
      first_entry = refl;
      second-entry = refl;
      second-body = refl;
      set-bits = refl;
      all_words = refl;
      no_words = refl;
      target-words = refl;
    }
