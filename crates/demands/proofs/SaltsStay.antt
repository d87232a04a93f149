-- A salt that the call for a request's front stored stays known while it is kept.
-- Assumes nothing.
use mathlib.Core.Path.{◌≡◌, refl, sym, ap, ap₂, ◌∙◌}
use mathlib.Core.Bool.{Bool, true, false, ◌&&◌, and-eq-true_iff}
use mathlib.Core.List.{List, [], ◌∷◌, ◌++◌}
use Prim.Native.Nat.{ℕ}
use lib.Dec.{eqb, leb}
use lib.ListN.{length}
use borrow.Author.Tests.{leb-false, eqb-true}
use Rattle.protocol.specs.declared.Refusal.TheVariants.{Replay}
use Rattle.protocol.specs.Method.{key_fits, salt_length}
use Rattle.salt_pool.specs.Pool.{Met}
use Rattle.std.specs.Prelude.{Ok, Err, Result}
use Rattle.salt_pool.specs.Pool.{Replay as Known, Full as NoRoom}
use Rattle.salt_pool.specs.Pool.{pool_words, lawful, meet}
use Rattle.salt_pool.specs.Runs.{Item, next_by, next, run, Forward}
use Rattle.salt_pool.proofs.StoreLaws.{lawful-store}
use Rattle.salt_pool.proofs.RunLaws.{never-twice-forward}
use Rattle.stream_pieces.specs.Pieces.{Keyed, salted_key}
use Rattle.stream_open.specs.declared.Receiver.{Receiver}
use Rattle.stream_heads.specs.Heads.{front_length, fixed_of, open_fixed}
use Rattle.stream_open_request.specs.declared.Request.{Request}
use Rattle.stream_open_request.specs.Requests.{settings, request_pool}
use Rattle.demands.specs.StreamsKeep.{of_front, salt_of}
use Rattle.demands.specs.SaltsStay.{FrontCall, HeadCall, opens-front, opens-variable, Held, front_answer, leaves, held_after, ForwardCalls, ReplayOrEarlier, replayed, front-missing, front-refused, SaltStays}
use Rattle.demands.proofs.HeadTells.{of_fixed, not-read, fixed-given, fixed-refusals}
use Rattle.demands.proofs.RequestTells.{not-accepted, answer-by, meets-room, Way, refused, accepted, way, request-tells}
use Rattle.protocol.specs.declared.Refusal.{Refusal}
use Rattle.stream_heads.specs.declared.Fixed.{Fixed}

-- ---- calls as the pool sees them

abbrev is_accepted : Result (Request × Receiver) Refusal → Bool
is_accepted (Ok (h, st)) = true
is_accepted (Err r) = false

module _ (method : ℕ) (key : List ℕ) where
  -- a call for a front, on a pool: its salt is stored where it is accepted
  abbrev item_on : List ℕ → FrontCall → Item
  item_on pool c = record { clock = c.clock; salt = salt_of method c.bytes; stored = is_accepted (front_answer method key c pool) }

  abbrev pool_next : List ℕ → FrontCall → List ℕ
  pool_next pool c = request_pool method key c.clock c.bytes pool

  -- a call for a variable header brings no salt
  abbrev items : List ℕ → List HeadCall → List Item
  items pool [] = []
  items pool (opens-front c ∷ cs) = item_on pool c ∷ items (pool_next pool c) cs
  items pool (opens-variable c ∷ cs) = items pool cs

  abbrev WayOf : List ℕ → FrontCall → Type 0
  WayOf pool c = Way method key c.clock c.bytes pool

  way_of : (pool : List ℕ) (c : FrontCall) → WayOf pool c
  way_of pool c = way method key c.clock c.bytes pool

  next-none : (m : Met) (pool : List ℕ) (clock : ℕ) (salt : List ℕ) → next_by m pool (record { clock = clock; salt = salt; stored = false }) ≡ pool
  next-none (Ok i) pool clock salt = refl
  next-none (Err Known) pool clock salt = refl
  next-none (Err NoRoom) pool clock salt = refl

  module _ (pool : List ℕ) (c : FrontCall) where
    abbrev salt : List ℕ
    salt = salt_of method c.bytes

    next-is : next pool (item_on pool c) ≡ pool_next pool c
    unfolding next
    next-is = go (way_of pool c)
      where
        go : WayOf pool c → next pool (item_on pool c) ≡ pool_next pool c
        go (refused r o er ep) =
            ap (λ (a : Result (Request × Receiver) Refusal). next_by (meet pool c.clock salt) pool (record { clock = c.clock; salt = salt; stored = is_accepted a })) er
            ∙ next-none (meet pool c.clock salt) pool c.clock salt ∙ sym ep
        go (accepted h st d q) =
            (λ i. next_by (meets-room method key c.clock c.bytes pool h st d i) pool
            (record { clock = c.clock; salt = salt; stored = is_accepted (q.accepts i) }))
            ∙ sym q.stores

    lawful-next : lawful (pool_next pool c) method ≡ lawful pool method
    lawful-next = go (way_of pool c)
      where
        go : WayOf pool c → lawful (pool_next pool c) method ≡ lawful pool method
        go (refused r o er ep) = ap (λ (t : List ℕ). lawful t method) ep
        go (accepted h st d q) = ap (λ (t : List ℕ). lawful t method) q.stores ∙ lawful-store pool d.place c.clock salt method

  abbrev pool_after : Held → List HeadCall → List ℕ
  pool_after m cs = (held_after method key m cs).pool

  lawful-after : (m : Held) (cs : List HeadCall) → lawful (pool_after m cs) method ≡ lawful m.pool method
  lawful-after m [] = refl
  lawful-after m (opens-front c ∷ cs) = lawful-after (leaves method key m (opens-front c)) cs ∙ lawful-next m.pool c
  lawful-after m (opens-variable c ∷ cs) = lawful-after (leaves method key m (opens-variable c)) cs

  run_is : (m : Held) (cs : List HeadCall) → run m.pool (items m.pool cs) ≡ pool_after m cs
  run_is m [] = refl
  run_is m (opens-front c ∷ cs) =
      ap (λ (t : List ℕ). run t (items (pool_next m.pool c) cs)) (next-is m.pool c) ∙ run_is (leaves method key m (opens-front c)) cs
  run_is m (opens-variable c ∷ cs) = run_is (leaves method key m (opens-variable c)) cs

  items-append : (m : Held) (cs ds : List HeadCall) → items m.pool (cs ++ ds) ≡ items m.pool cs ++ items (pool_after m cs) ds
  items-append m [] ds = refl
  items-append m (opens-front c ∷ cs) ds =
      ap (λ (xs : List Item). item_on m.pool c ∷ xs) (items-append (leaves method key m (opens-front c)) cs ds)
  items-append m (opens-variable c ∷ cs) ds = items-append (leaves method key m (opens-variable c)) cs ds

  -- y as an item that is not stored
  abbrev last : FrontCall → Item
  last y = record { clock = y.clock; salt = salt_of method y.bytes; stored = false }

  forward-items : (t : ℕ) (pool : List ℕ) (cs : List HeadCall) (y : FrontCall) → ForwardCalls t (cs ++ opens-front y ∷ [])
      → Forward t (items pool cs ++ last y ∷ [])
  forward-items t pool [] y f = (f.0, tt)
  forward-items t pool (opens-front c ∷ cs) y f = (f.0, forward-items c.clock (pool_next pool c) cs y f.1)
  forward-items t pool (opens-variable c ∷ cs) y f = forward-items t pool cs y f

  -- ---- a call whose salt is kept

  module _ (pool : List ℕ) (c : FrontCall) (fits : settings method (length key) pool ≡ true)
      (kept : meet pool c.clock (salt_of method c.bytes) ≡ Err Known) where
    abbrev stream-key : Keyed
    stream-key = salted_key method key (salt_of method c.bytes)

    abbrev front_read : Result Fixed Refusal
    front_read = open_fixed stream-key 0 c.clock (fixed_of (salt_length method) 0 c.bytes)

    by-fixed : leb (front_length (salt_length method) 0) (length c.bytes) ≡ true → (x : Result Fixed Refusal) → front_read ≡ x → ReplayOrEarlier method key c pool
    by-fixed eb (Ok f) ex = replayed (answer-by method key c.clock c.bytes pool true true (Err Known) (Ok f) fits eb kept ex)
    by-fixed eb (Err r) ex =
        front-refused r
        ((and-eq-true_iff (of_front r) _).0 (ap of_fixed (sym ex) ∙ fixed-refusals stream-key 0 c.clock (fixed_of (salt_length method) 0 c.bytes))).0
        (λ time size d. not-read r (record { time = time; length = size })
        (sym ex ∙ fixed-given stream-key 0 c.clock (fixed_of (salt_length method) 0 c.bytes) time size d))
        (answer-by method key c.clock c.bytes pool true true (Err Known) (Err r) fits eb kept ex)

    by_front : (b : Bool) → leb (front_length (salt_length method) 0) (length c.bytes) ≡ b → ReplayOrEarlier method key c pool
    by_front true eb = by-fixed eb front_read refl
    by_front false eb =
        front-missing (leb-false (front_length (salt_length method) 0) (length c.bytes) eb)
        (answer-by method key c.clock c.bytes pool true false (Err Known) front_read fits eb kept refl)

    kept-refused : ReplayOrEarlier method key c pool
    kept-refused = by_front (leb (front_length (salt_length method) 0) (length c.bytes)) refl

  never-accepted : (pool : List ℕ) (c : FrontCall) → ReplayOrEarlier method key c pool → (h : Request) (st : Receiver)
      → front_answer method key c pool ≡ Ok (h, st) → ⊥
  never-accepted pool c (replayed e) h st g = not-accepted (front_answer method key c pool) Replay h st e g
  never-accepted pool c (front-missing l e) h st g = not-accepted (front_answer method key c pool) _ h st e g
  never-accepted pool c (front-refused r o f e) h st g = not-accepted (front_answer method key c pool) r h st e g

-- ---- the statement

pub salt-stays : SaltStays
unfolding settings
salt-stays method key m before between x y h st e f same-salt soon =
    let m₀ = held_after method key m before in
    let p₀ = m₀.pool in
    let p = (held_after method key m (before ++ opens-front x ∷ between)).pool in
    let d = request-tells method key x.clock x.bytes p₀ h st e in
    let fits : (key_fits method (length key) && lawful p₀ method) ≡ true = d.lawful-settings in
    let made : lawful m.pool method ≡ true =
    sym (lawful-after method key m before) ∙ ((and-eq-true_iff (key_fits method (length key)) _).0 fits).1 in
    let size : length m.pool ≡ pool_words =
    eqb-true (length m.pool) pool_words ((and-eq-true_iff (eqb (length m.pool) pool_words) _).0 made).0 in
    let there : run m.pool (items method key m.pool before) ≡ p₀ = run_is method key m before in
    let met =
    never-twice-forward m.pool (items method key m.pool before) (items method key (pool_next method key p₀ x) between)
    (item_on method key p₀ x) (last method key y) d.place size
    (ap (λ (t : List ℕ). meet t x.clock (salt_of method x.bytes)) there ∙ meets-room method key x.clock x.bytes p₀ h st d)
    (ap is_accepted e) (forward-items method key x.clock (pool_next method key p₀ x) between y f) same-salt soon in
    let kept : meet p y.clock (salt_of method y.bytes) ≡ Err Known =
    ap (λ (t : List ℕ). meet t y.clock (salt_of method y.bytes))
    (sym (run_is method key m (before ++ opens-front x ∷ between)) ∙ ap (run m.pool) (items-append method key m before (opens-front x ∷ between)))
    ∙ met in
    let lawful-there : (key_fits method (length key) && lawful p method) ≡ true =
    ap₂ ◌&&◌ ((and-eq-true_iff (key_fits method (length key)) _).0 fits).0 (lawful-after method key m (before ++ opens-front x ∷ between) ∙ made) in
    let answer = kept-refused method key p y lawful-there kept in
    record { not-accepted = never-accepted method key p y answer; answer = answer }
