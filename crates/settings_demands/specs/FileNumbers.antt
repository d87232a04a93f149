-- The numbers of a file of settings: what the definitions that contracts cite compute to, and what that should be, written out. A number
-- that is changed alike in a definition and in the code still meets the contract; it does not meet these.
-- Assumes nothing.
use Rattle.std.specs.Prelude.{◌≡◌, true, false, ◌&&◌, ◌||◌, List, [], ◌∷◌, ◌++◌, map, ℕ, ◌<◌, eqb, leb, length, None, Option, Some}
use Rattle.octets.specs.Numbers.{be}
use Rattle.socks5.specs.declared.Target.TheVariants.{V6, Name}
use Rattle.socks5.specs.Address.{is_address}
use Rattle.settings_rules.specs.Rules.{is_unknown, lawful}
use Rattle.settings_file.specs.Format.{hash_length, min_file, max_file, edition, count, entry, body}
use Rattle.settings_read.specs.declared.Settings.{Settings}
use Rattle.settings_write.specs.Writing.{max_number, covered, file_length}
use Rattle.settings_answers.specs.Told.{set_bits, settings_words}

-- what a file of edition 258 with the settings 1 (3) and 130 (9, 8) has before its hash: contents to place 16, bodies to place 19
abbrev pub sample : List ℕ
sample = 1 ∷ 2 ∷ 0 ∷ 2 ∷ 0 ∷ 1 ∷ 0 ∷ 16 ∷ 0 ∷ 1 ∷ 0 ∷ 130 ∷ 0 ∷ 17 ∷ 0 ∷ 2 ∷ 3 ∷ 9 ∷ 8 ∷ []

-- IPv4 1.2.3.4, port 80
abbrev pub address : List ℕ
address = 1 ∷ 1 ∷ 2 ∷ 3 ∷ 4 ∷ 0 ∷ 80 ∷ []

abbrev pub all_set : Settings
all_set =
    record {
      edition = 7;
      method = Some 3;
      retention = Some 0;
      limit = Some 1500;
      target = Some (Name 44 5, 80);
    }

abbrev pub none_set : Settings
none_set = record { edition = 7; method = None; retention = None; limit = None; target = None }

abbrev pub target_alone : Settings
target_alone = record { edition = 0; method = None; retention = None; limit = None; target = Some (V6 5 6, 7) }

-- one setting alone
abbrev pub alone : Option ℕ → Option ℕ → Option ℕ → Settings
alone method retention limit = record { edition = 0; method = method; retention = retention; limit = limit; target = None }

pub record FileNumbers : Type 0 where
  -- ---- lawful bodies
  -- of the 256 bytes 1 to 5 and 11 to 13
  pub methods : (n : ℕ) → n < 256 → lawful 1 (n ∷ []) ≡ (leb 1 n && leb n 5 || leb 11 n && leb n 13)
  pub no-method : lawful 1 [] ≡ false
  pub two-bytes-of-method : (a b : ℕ) (s : List ℕ) → lawful 1 (a ∷ b ∷ s) ≡ false
  pub retentions : (b : List ℕ) → length b ≡ 2 → lawful 2 b ≡ (eqb (be 2 b) 0 || leb 60 (be 2 b) && leb (be 2 b) 3600)
  pub other-retentions : (b : List ℕ) → (length b ≡ 2 → ⊥) → lawful 2 b ≡ false
  pub limits : (b : List ℕ) → lawful 3 b ≡ (eqb (length b) 4 && leb (be 4 b) 65507)
  pub targets : (b : List ℕ) → lawful 4 b ≡ is_address b
  pub one_address : lawful 4 address ≡ true
  pub byte-behind : lawful 4 (address ++ 0 ∷ []) ≡ false
  pub others : (n : ℕ) (b : List ℕ) → 4 < n → lawful n b ≡ true
  pub zero-any : (b : List ℕ) → lawful 0 b ≡ true
  -- ---- unknown settings
  pub unknown :
      map is_unknown (0 ∷ 1 ∷ 2 ∷ 3 ∷ 4 ∷ 5 ∷ 126 ∷ 127 ∷ 128 ∷ 129 ∷ 65535 ∷ [])
      ≡ true ∷ false ∷ false ∷ false ∷ false ∷ true ∷ true ∷ true ∷ false ∷ false ∷ false ∷ []
  -- ---- the file
  pub sizes : hash_length ∷ min_file ∷ max_file ∷ max_number ∷ [] ≡ 32 ∷ 36 ∷ 65535 ∷ 65535 ∷ []
  pub empty-length : file_length [] 0 ≡ 36
  pub written : covered 258 (1 ∷ 1 ∷ 130 ∷ 2 ∷ []) (3 ∷ 9 ∷ 8 ∷ []) ≡ sample
  pub read_back : edition sample ∷ count sample ∷ [] ≡ 258 ∷ 2 ∷ []
  pub first_entry : entry sample 0 ≡ record { number = 1; offset = 16; len = 1 }
  pub second-entry : entry sample 1 ≡ record { number = 130; offset = 17; len = 2 }
  pub second-body : body sample 1 ≡ 9 ∷ 8 ∷ []
  -- ---- the words of an answer
  pub set-bits :
      map set_bits (alone (Some 1) None None ∷ alone None (Some 0) None ∷ alone None None (Some 0) ∷ target_alone ∷ [])
      ≡ 1 ∷ 2 ∷ 4 ∷ 8 ∷ []
  pub all_words : settings_words all_set ≡ 7 ∷ 15 ∷ 3 ∷ 0 ∷ 1500 ∷ 3 ∷ 44 ∷ 5 ∷ 80 ∷ []
  pub no_words : settings_words none_set ≡ 7 ∷ 0 ∷ 0 ∷ 0 ∷ 0 ∷ 0 ∷ 0 ∷ 0 ∷ 0 ∷ []
  pub target-words : settings_words target_alone ≡ 0 ∷ 8 ∷ 0 ∷ 0 ∷ 0 ∷ 4 ∷ 5 ∷ 6 ∷ 7 ∷ []
