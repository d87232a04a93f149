-- What was written is shown as it was given.
-- Assumes nothing.
use Rattle.std.specs.Prelude.{None, Option, Some}
use mathlib.Core.Path.{◌≡◌, refl, sym, ap, subst, ◌∙◌}
use mathlib.Core.List.{List}
use Prim.Native.Nat.{ℕ, ◌+◌, ◌-◌, ◌*◌, ◌<◌}
use native.Mathlib.Omega.{arith}
use lib.ListN.{length, take, drop}
use Rattle.octets.specs.Numbers.{be}
use Rattle.blake3.specs.Tree.{hash}
use Rattle.socks5.specs.Address.{parse_at}
use Rattle.settings_rules.specs.Rules.{is_unknown}
use Rattle.settings_file.specs.declared.Entry.{Entry}
use Rattle.settings_file.specs.Format.{count, entry, body}
use Rattle.settings_read.specs.declared.Settings.{Settings}
use Rattle.settings_read.specs.Reading.{target_found, settings_in}
use Rattle.settings_write.specs.Writing.{size_of, body_at, before, file_of, Writable}
use Rattle.settings_write.proofs.AnswerLaws.{answered}
use Rattle.settings_write.proofs.WritingLaws.{length-file}
use Rattle.settings_write.proofs.FileLaws.{file-covered, file-hash, file-edition, file-count, file-entry, file-body, file-well-made, file-known}
use Rattle.settings_demands.specs.Files.{Says, set, unset, Shows, number_of, Readable, number_given, body_given, WrittenShown}
use Rattle.settings_demands.proofs.ReadExactly.{read-exactly, shows_in, known-below}

module _ (e : ℕ) (ws bodies : List ℕ) (w : Writable ws bodies) where
  abbrev file : List ℕ
  file = file_of e ws bodies

  abbrev size : ℕ
  size = size_of ws

  number-given : (i : ℕ) → i < size → number_of file i ≡ number_given ws i
  number-given i l = ap (λ (x : Entry). x.number) (file-entry e ws bodies w i l)

  place-given : (i : ℕ) → i < size → (entry file i).offset ≡ 4 + 6 * size + before ws i
  place-given i l = ap (λ (x : Entry). x.offset) (file-entry e ws bodies w i l)

  body-given : (i : ℕ) → i < size → body file i ≡ body_given ws bodies i
  unfolding body_at
  body-given i l = file-body e ws bodies w i l

  hash-good : hash (take (length file - 32) file) ≡ drop (length file - 32) file
  hash-good = ap hash (file-covered e ws bodies) ∙ sym (file-hash e ws bodies)

  -- what the file's settings say, those that were given say
  says-given : {A : Type 0} (k : ℕ) (value given : ℕ → A) (absent x : A) → ((i : ℕ) → i < size → value i ≡ given i)
      → Says (count file) (number_of file) k value absent x → Says size (number_given ws) k given absent x
  says-given k value given absent x same (set i l n f) =
      let m : i < size = subst (λ (c : ℕ). i < c) (file-count e ws bodies w) l in
      set i m (sym (number-given i m) ∙ n) (f ∙ same i m)
  says-given k value given absent x same (unset h f) =
      unset (λ i l n. h i (subst (λ (c : ℕ). i < c) (sym (file-count e ws bodies w)) l) (number-given i l ∙ n)) f

  value-given : (n i : ℕ) → i < size → ◌≡◌ {A = Option ℕ} (Some (be n (body file i))) (Some (be n (body_given ws bodies i)))
  value-given n i l = ap (λ (b : List ℕ). Some (be n b)) (body-given i l)

  target-given : (i : ℕ) → i < size
      → target_found (entry file i).offset (parse_at (body file i) 0) ≡ target_found (4 + 6 * size + before ws i) (parse_at (body_given ws bodies i) 0)
  target-given i l = λ j. target_found (place-given i l j) (parse_at (body-given i l j) 0)

  shows-given : (x : Settings) → Shows (count file) (number_of file) (body file) (λ i. (entry file i).offset) x
      → Shows size (number_given ws) (body_given ws bodies) (λ i. 4 + 6 * size + before ws i) x
  shows-given x h =
      record {
        method = says-given 1 _ _ None x.method (value-given 1) h.method;
        retention = says-given 2 _ _ None x.retention (value-given 2) h.retention;
        limit = says-given 3 _ _ None x.limit (value-given 4) h.limit;
        target = says-given 4 _ _ None x.target target-given h.target;
      }

  readable : Readable file (settings_in file)
  unfolding settings_in
  readable =
      let n = length-file e ws bodies in
      record {
        long = omega (arith, n);
        short = omega (arith, n, w.short);
        hashed = hash-good;
        made = file-well-made e ws bodies w;
        known = λ i l b.
            let m : i < size = subst (λ (c : ℕ). i < c) (file-count e ws bodies w) l in
            known-below (number_of file i) (ap is_unknown (number-given i m) ∙ file-known e ws bodies w i m) b;
        edition = refl;
        shows = shows_in file;
      }

pub written-shown : WrittenShown
unfolding settings_in
written-shown e ws bodies room n l a =
    let w = (answered ws bodies room n a).writable in
    record {
      shown = settings_in (file_of e ws bodies);
      answer = (read-exactly (file_of e ws bodies) (settings_in (file_of e ws bodies))).1 (readable e ws bodies w);
      edition = file-edition e ws bodies l;
      shows = shows-given e ws bodies w (settings_in (file_of e ws bodies)) (shows_in (file_of e ws bodies));
    }
