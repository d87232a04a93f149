-- A salt that was stored is a replay as long as it is kept, whatever is stored since. Assumes nothing.
use Prim.Native.Nat.{ℕ, ◌+◌, ◌<◌, ◌≤◌}
use native.Mathlib.Omega.{arith}
use mathlib.Core.Bool.{Bool, true, false, cond, true≢false}
use mathlib.Core.List.{List, [], ◌∷◌, ◌++◌}
use mathlib.Core.Logic.{◌≢◌}
use mathlib.Core.Path.{◌≡◌, refl, sym, ap, ◌∙◌, subst}
use lib.ListN.{length, get_or}
use Rattle.records.proofs.CurrentLaws.{earlier}
use Rattle.salt_pool.specs.Pool.{Met}
use Rattle.std.specs.Prelude.{Ok, Err}
use Rattle.salt_pool.specs.Pool.{Replay, Full}
use Rattle.salt_pool.specs.Pool.{capacity, keep_time, pool_words, start, salt_words, kept, meet, store}
use Rattle.salt_pool.specs.Runs.{Keeps, Item, next_by, next, run, Until, Forward, NeverTwice, NeverTwiceForward}
use Rattle.salt_pool.proofs.StoreLaws.{length-store, kept-other, salt-other, keeps-itself}
use Rattle.salt_pool.proofs.MeetLaws.{is-replay, room-free, room-below}

-- ---- one salt stored

pub stored-kept : (t : List ℕ) (i clock : ℕ) (salt : List ℕ) (c : ℕ) → i < capacity → length t ≡ pool_words → c ≤ clock + keep_time
    → meet (store t i clock salt) c salt ≡ Err Replay
stored-kept t i clock salt c l e h = is-replay (store t i clock salt) c salt i (keeps-itself t i clock salt l e c h)

-- what is kept was kept before
kept-earlier : (t : List ℕ) (c d k : ℕ) → d ≤ c → kept t c k ≡ true → kept t d k ≡ true
unfolding kept
kept-earlier t c d k l e = earlier keep_time c (get_or t (start k) 0) (get_or t (start k + 1) 0) d l e

-- a salt that is kept stays where another one is stored in a record that is not
stays : (t : List ℕ) (k j c d : ℕ) (salt other : List ℕ) → Keeps t c salt k → kept t d j ≡ false → d ≤ c → Keeps (store t j d other) c salt k
stays t k j c d salt other h free l =
    (h.0, kept-other t j d other k apart c ∙ h.1, salt-other t j d other k apart (salt_words salt) (length salt) ∙ h.2)
  where
    apart : k ≢ j
    apart e = true≢false (sym (kept-earlier t c d k l h.1) ∙ ap (kept t d) e ∙ free)

pub stays-replay : (t : List ℕ) (k j c d : ℕ) (salt other : List ℕ) → Keeps t c salt k → kept t d j ≡ false → d ≤ c
    → meet (store t j d other) c salt ≡ Err Replay
stays-replay t k j c d salt other h free l = is-replay (store t j d other) c salt k (stays t k j c d salt other h free l)

-- ---- many

length-next : (t : List ℕ) (x : Item) → length (next t x) ≡ length t
unfolding next
length-next t x = go (meet t x.clock x.salt) x.stored
  where
    pick : (i : ℕ) (b : Bool) → length (cond b (store t i x.clock x.salt) t) ≡ length t
    pick i true = length-store t i x.clock x.salt
    pick i false = refl

    go : (m : Met) (b : Bool) → length (next_by m t x) ≡ length t
    go (Ok i) b = pick i x.stored
    go (Err Replay) b = refl
    go (Err Full) b = refl

length_run : (t : List ℕ) (xs : List Item) → length (run t xs) ≡ length t
length_run t [] = refl
length_run t (x ∷ xs) = length_run (next t x) xs ∙ length-next t x

run-append : (t : List ℕ) (xs ys : List Item) → run t (xs ++ ys) ≡ run (run t xs) ys
run-append t [] ys = refl
run-append t (x ∷ xs) ys = run-append (next t x) xs ys

keeps-next : (t : List ℕ) (x : Item) (c : ℕ) (salt : List ℕ) (k : ℕ) → x.clock ≤ c → Keeps t c salt k → Keeps (next t x) c salt k
unfolding next
keeps-next t x c salt k l h = go (meet t x.clock x.salt) refl
  where
    pick : (i : ℕ) → kept t x.clock i ≡ false → (b : Bool) → Keeps (cond b (store t i x.clock x.salt) t) c salt k
    pick i free true = stays t k i c x.clock salt x.salt h free l
    pick i free false = h

    go : (m : Met) → meet t x.clock x.salt ≡ m → Keeps (next_by m t x) c salt k
    go (Ok i) e = pick i (room-free t x.clock x.salt i e).1.1 x.stored
    go (Err Replay) e = h
    go (Err Full) e = h

keeps-run : (t : List ℕ) (xs : List Item) (c : ℕ) (salt : List ℕ) (k : ℕ) → Until c xs → Keeps t c salt k → Keeps (run t xs) c salt k
keeps-run t [] c salt k u h = h
keeps-run t (x ∷ xs) c salt k u h = keeps-run (next t x) xs c salt k u.1 (keeps-next t x c salt k u.0 h)

-- the one that is stored
next-stored : (t : List ℕ) (x : Item) (i : ℕ) → meet t x.clock x.salt ≡ Ok i → x.stored ≡ true
    → next t x ≡ store t i x.clock x.salt
unfolding next
next-stored t x i m s =
    ap (λ (r : Met). next_by r t x) m ∙ ap (λ (b : Bool). cond b (store t i x.clock x.salt) t) s

pub never-twice : NeverTwice
never-twice t before between x i c e m s u l =
    ap (λ (p : List ℕ). meet p c x.salt) (run-append t before (x ∷ between))
    ∙ is-replay (run (next (run t before) x) between) c x.salt i (keeps-run (next (run t before) x) between c x.salt i u first)
  where
    first : Keeps (next (run t before) x) c x.salt i
    first =
        subst (λ (p : List ℕ). Keeps p c x.salt i) (sym (next-stored (run t before) x i m s))
        (keeps-itself (run t before) i x.clock x.salt (room-below (run t before) x.clock x.salt i m) (length_run t before ∙ e) c l)

-- ---- the clock never goes back

-- all that arrive before y are at most at its clock
until-last : (c : ℕ) (xs : List Item) (y : Item) → Forward c (xs ++ y ∷ []) → (c ≤ y.clock) × Until y.clock xs
until-last c [] y f = (f.0, tt)
until-last c (x ∷ xs) y f =
    let r = until-last x.clock xs y f.1 in (omega (arith, f.0, r.0), (r.0, r.1))

pub never-twice-forward : NeverTwiceForward
never-twice-forward t before between x y i e m s f same l =
    ap (meet (run t (before ++ x ∷ between)) y.clock) same
    ∙ never-twice t before between x i y.clock e m s (until-last x.clock between y f).1 l
