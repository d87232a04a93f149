-- A file is shown exactly when it is readable, and as its settings say.
-- Assumes nothing.
use Rattle.std.specs.Prelude.{Err, None, Ok, Result, Some, Option}
use mathlib.Core.Path.{◌≡◌, refl, sym, ap, subst, ◌∙◌}
use mathlib.Core.Bool.{Bool, true, false, not, ◌&&◌}
use mathlib.Core.List.{List}
use mathlib.Core.Logic.{◌⊎◌, inl, inr}
use Prim.Native.Nat.{ℕ, ◌-◌, ◌≤◌, ◌<◌}
use native.Mathlib.Omega.{arith}
use lib.Dec.{T, leb, ltb}
use lib.ListN.{length, take, drop}
use borrow.Author.Tests.{leb-true, leb-false, ltb-true, le-leb, lt-ltb}
use Rattle.octets.specs.Buffers.{same}
use Rattle.octets.specs.Numbers.{be}
use Rattle.octets.proofs.BufferLaws.{same_refl, same-eq}
use Rattle.blake3.specs.Tree.{hash}
use Rattle.protocol.specs.declared.Refusal.{Refusal}
use Rattle.protocol.specs.declared.Refusal.TheVariants.{Length, NotAuthentic, Malformed, UnknownSetting}
use Rattle.records.proofs.SearchLaws.{from-none}
use Rattle.socks5.specs.Address.{parse_at}
use Rattle.settings_rules.specs.Rules.{is_known, is_unknown}
use Rattle.settings_rules.specs.Contents.{first_unknown}
use Rattle.settings_rules.proofs.ContentsLaws.{unknown-none}
use Rattle.settings_file.specs.Format.{edition, count, entry, body, contents_of, WellMade, is_well_made}
use Rattle.settings_file.proofs.MadeLaws.{well-made-exactly}
use Rattle.settings_read.specs.declared.Settings.{Settings}
use Rattle.settings_read.specs.Reading.{value_of, target_found, target_of, setting_at, settings_in, is_hashed, read_answer}
use Rattle.settings_read.proofs.AnswerLaws.{too_short, too_long, other-hash, right-hash, ill-made, an-unknown, all_known}
use Rattle.settings_demands.specs.Files.{Known, number_of, Shows, Readable, ReadExactly}
use Rattle.settings_demands.proofs.SaysLaws.{pick, index-says, says-index}

-- ---- known and unknown numbers

pub no-unknown : (n : ℕ) → (n < 128 → Known n) → is_unknown n ≡ false
unfolding is_unknown is_known
no-unknown n f = go (ltb n 128) refl
  where
    go : (b : Bool) → ltb n 128 ≡ b → (b && not (leb 1 n && leb n 4)) ≡ false
    go true e =
        let k = f (ltb-true n 128 e) in
        λ i. not (le-leb 1 n k.0 i && le-leb n 4 k.1 i)
    go false e = refl

pub known-below : (n : ℕ) → is_unknown n ≡ false → n < 128 → Known n
unfolding is_unknown is_known
known-below n e l =
    let f : not (leb 1 n && leb n 4) ≡ false = ap (λ (b : Bool). b && not (leb 1 n && leb n 4)) (sym (lt-ltb n 128 l)) ∙ e in
    both (leb 1 n) (leb n 4) refl refl f
  where
    both : (a b : Bool) → leb 1 n ≡ a → leb n 4 ≡ b → not (a && b) ≡ false → Known n
    both true true p q f = (leb-true 1 n p, leb-true n 4 q)
    both true false p q f = absurd (subst T f tt)
    both false b p q f = absurd (subst T f tt)

-- ---- which answer is given, and why

pub data Ways (s : List ℕ) : Type 0 where
  refused : (r : Refusal) → read_answer s ≡ Err r → (r ≡ Length) ⊎ ((r ≡ NotAuthentic) ⊎ (r ≡ Malformed)) → Ways s
  unknown : WellMade s → (i : ℕ) → first_unknown (contents_of s) ≡ Some i → read_answer s ≡ Err (UnknownSetting (number_of s i)) → Ways s
  shown : 36 ≤ length s → length s ≤ 65535 → is_hashed s ≡ true → WellMade s → first_unknown (contents_of s) ≡ None
      → read_answer s ≡ Ok (settings_in s) → Ways s

module _ (s : List ℕ) where
  by-made : 36 ≤ length s → length s ≤ 65535 → is_hashed s ≡ true → Ways s
  by-made l u h = go (is_well_made s) refl
    where
      found : is_well_made s ≡ true → (o : Option ℕ) → first_unknown (contents_of s) ≡ o → Ways s
      found e (Some i) f =
          unknown ((well-made-exactly s).0 e) i f (sym (an-unknown s e i (entry s i) f refl ∙ right-hash s l u h))
      found e None f =
          shown l u h ((well-made-exactly s).0 e) f (sym (all_known s e (settings_in s) f refl ∙ right-hash s l u h))

      go : (b : Bool) → is_well_made s ≡ b → Ways s
      go true e = found e (first_unknown (contents_of s)) refl
      go false e = refused Malformed (sym (ill-made s e ∙ right-hash s l u h)) (inr (inr refl))

  by-hash : 36 ≤ length s → length s ≤ 65535 → Ways s
  by-hash l u = go (is_hashed s) refl
    where
      go : (b : Bool) → is_hashed s ≡ b → Ways s
      go true e = by-made l u e
      go false e = refused NotAuthentic (sym (other-hash s l u e)) (inr (inl refl))

  pub ways : Ways s
  ways = go (leb 36 (length s)) refl (leb (length s) 65535) refl
    where
      go : (a : Bool) → leb 36 (length s) ≡ a → (b : Bool) → leb (length s) 65535 ≡ b → Ways s
      go true e true f = by-hash (leb-true _ _ e) (leb-true _ _ f)
      go true e false f = refused Length (sym (too_long s (leb-true _ _ e) (leb-false _ _ f))) (inl refl)
      go false e b f = refused Length (sym (too_short s (leb-false _ _ e))) (inl refl)

-- ---- answers are told apart

abbrev is_shown : Result Settings Refusal → Bool
is_shown (Ok x) = true
is_shown (Err r) = false

pub not-refused : {x : Settings} {r : Refusal} → Err r ≡ Ok x → ⊥
not-refused e = subst T (sym (ap is_shown e)) tt

abbrev settings_or : Settings → Result Settings Refusal → Settings
settings_or d (Ok x) = x
settings_or d (Err r) = d

pub shown-same : {x y : Settings} → ◌≡◌ {A = Result Settings Refusal} (Ok x) (Ok y) → x ≡ y
shown-same {x} {y} e = ap (settings_or x) e

-- ---- what is shown

module _ (s : List ℕ) where
  value-picks : (w : ℕ) (o : Option ℕ) → value_of w s o ≡ pick (λ i. Some (be w (body s i))) None o
  value-picks w (Some i) = refl
  value-picks w None = refl

  target-picks : (o : Option ℕ) → target_of s o ≡ pick (λ i. target_found (entry s i).offset (parse_at (body s i) 0)) None o
  target-picks (Some i) = refl
  target-picks None = refl

  pub shows_in : Shows (count s) (number_of s) (body s) (λ i. (entry s i).offset) (settings_in s)
  unfolding settings_in
  shows_in =
      record {
        method = index-says (contents_of s) 1 (λ i. Some (be 1 (body s i))) None (setting_at s 1) refl _ (value-picks 1 (setting_at s 1));
        retention = index-says (contents_of s) 2 (λ i. Some (be 2 (body s i))) None (setting_at s 2) refl _ (value-picks 2 (setting_at s 2));
        limit = index-says (contents_of s) 3 (λ i. Some (be 4 (body s i))) None (setting_at s 3) refl _ (value-picks 4 (setting_at s 3));
        target =
            index-says (contents_of s) 4 (λ i. target_found (entry s i).offset (parse_at (body s i) 0)) None (setting_at s 4) refl _
            (target-picks (setting_at s 4));
      }

  shown-as-said : WellMade s → (x : Settings) → x.edition ≡ edition s
      → Shows (count s) (number_of s) (body s) (λ i. (entry s i).offset) x → x ≡ settings_in s
  unfolding settings_in
  shown-as-said w x e h =
      let m = says-index (contents_of s) 1 (λ i. Some (be 1 (body s i))) None w.lawful _ h.method ∙ sym (value-picks 1 (setting_at s 1)) in
      let r = says-index (contents_of s) 2 (λ i. Some (be 2 (body s i))) None w.lawful _ h.retention ∙ sym (value-picks 2 (setting_at s 2)) in
      let l = says-index (contents_of s) 3 (λ i. Some (be 4 (body s i))) None w.lawful _ h.limit ∙ sym (value-picks 4 (setting_at s 3)) in
      let t =
      says-index (contents_of s) 4 (λ i. target_found (entry s i).offset (parse_at (body s i) 0)) None w.lawful _ h.target
      ∙ sym (target-picks (setting_at s 4)) in
      λ i. record { edition = e i; method = m i; retention = r i; limit = l i; target = t i }

  readable-in : 36 ≤ length s → length s ≤ 65535 → is_hashed s ≡ true → WellMade s → first_unknown (contents_of s) ≡ None
      → Readable s (settings_in s)
  unfolding is_hashed settings_in
  readable-in l u h w f =
      record {
        long = l;
        short = u;
        hashed = same-eq _ _ h;
        made = w;
        known = λ i m b. known-below (number_of s i) (unknown-none (contents_of s) f i m) b;
        edition = refl;
        shows = shows_in;
      }

  pub read-is-readable : (x : Settings) → read_answer s ≡ Ok x → Readable s x
  read-is-readable x e = go (ways s)
    where
      go : Ways s → Readable s x
      go (refused r f g) = absurd (not-refused (sym f ∙ e))
      go (unknown w i f g) = absurd (not-refused (sym g ∙ e))
      go (shown l u h w f g) = subst (Readable s) (shown-same (sym g ∙ e)) (readable-in l u h w f)

  hashed-so : hash (take (length s - 32) s) ≡ drop (length s - 32) s → is_hashed s ≡ true
  unfolding is_hashed
  hashed-so e = ap (λ (z : List ℕ). same z (drop (length s - 32) s)) e ∙ same_refl (drop (length s - 32) s)

  nothing-unknown : ((i : ℕ) → i < count s → is_unknown (number_of s i) ≡ false) → first_unknown (contents_of s) ≡ None
  unfolding first_unknown
  nothing-unknown f = from-none (λ i. is_unknown (number_of s i)) 0 (count s) (λ k l u. f k (omega arith))

  readable-is-read : (x : Settings) → Readable s x → read_answer s ≡ Ok x
  readable-is-read x r =
      let e = (well-made-exactly s).1 r.made in
      let f = nothing-unknown (λ i l. no-unknown (number_of s i) (r.known i l)) in
      sym (all_known s e x f (shown-as-said r.made x r.edition r.shows)
      ∙ right-hash s r.long r.short (hashed-so r.hashed))

pub read-exactly : ReadExactly
read-exactly s x = (read-is-readable s x, readable-is-read s x)
