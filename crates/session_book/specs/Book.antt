-- The plain book of demand 3: a page for each session, with every packet ID that it accepted. Its numbers are its own, and it
-- shares nothing with the table but the type of a caller's address. Assumes nothing.
use Rattle.std.specs.Prelude.{ℕ, ◌+◌, ◌-◌, ◌^◌, max, min, Bool, false, cond, not, ◌&&◌, ◌||◌, List, [], ◌∷◌, leb, ltb, eqb, None, Option, Some}
use Rattle.session_record.specs.declared.Peer.{Peer}
use Rattle.session_book.specs.Call.{Call, Outcome, refused, Decision, early, reaches, opened_outcome, refused_outcome}

-- `accepted` are packet IDs; the two counts behind are of the datagrams accepted and of the repeats refused since the session began
pub record Page : Type 0 where
  pub id : ℕ
  pub h : ℕ
  pub accepted : List ℕ
  pub last : ℕ
  pub peer : Peer
  pub acceptances : ℕ
  pub repeats : ℕ

-- 1 where a test passes
abbrev pub one : Bool → ℕ
one b = cond b 1 0

abbrev pub member : ℕ → List ℕ → Bool
member p [] = false
member p (x ∷ xs) = eqb x p || member p xs

-- a page is alive up to R past its last time
abbrev pub until : ℕ → Page → ℕ
until R q = q.last + R

abbrev pub page_alive : (R clock : ℕ) → Page → Bool
page_alive R clock q = leb clock (until R q)

-- the page alive for an ID
abbrev pub page : (R clock id : ℕ) → List Page → Option Page
page R clock id [] = None
page R clock id (q ∷ b) = cond (eqb q.id id && page_alive R clock q) (Some q) (page R clock id b)

-- how many pages are alive
abbrev pub living : (R clock : ℕ) → List Page → ℕ
living R clock [] = 0
living R clock (q ∷ b) = one (page_alive R clock q) + living R clock b

-- a new session finds no room where as many pages are alive as may be
abbrev pub most : ℕ
most = 64

abbrev pub crowded : (R clock : ℕ) → List Page → Bool
crowded R clock b = leb most (living R clock b)

-- the pages of all other IDs
abbrev pub without : ℕ → List Page → List Page
without id [] = []
without id (q ∷ b) = cond (eqb q.id id) (without id b) (q ∷ without id b)

-- packet ID p is accepted on a page if it is above h, or if h - p is under 256 and p is not among those accepted
abbrev pub fresh : Page → ℕ → Bool
fresh q p = ltb q.h p || ltb (q.h - p) 256 && not (member p q.accepted)

-- one more, up to 2^64 - 1
abbrev pub counted : ℕ → ℕ
counted n = min (n + 1) (2 ^ 64 - 1)

-- the page that accepts p
abbrev pub accept : (clock : ℕ) → Peer → (id p : ℕ) → Page → Page
accept clock a id p q =
    record {
      id = id;
      h = max q.h p;
      accepted = p ∷ q.accepted;
      last = clock;
      peer = a;
      acceptances = counted q.acceptances;
      repeats = q.repeats;
    }

-- the page that refuses p, which it accepted before or which is too late: nothing but its count of repeats changes
abbrev pub refuse : (id p : ℕ) → Page → Page
refuse id p q =
    record {
      id = id;
      h = q.h;
      accepted = q.accepted;
      last = q.last;
      peer = q.peer;
      acceptances = q.acceptances;
      repeats = counted q.repeats;
    }

abbrev pub new_page : (clock : ℕ) → Peer → (id p : ℕ) → Page
new_page clock a id p = record { id = id; h = p; accepted = p ∷ []; last = clock; peer = a; acceptances = 1; repeats = 0 }

-- what a packet ID meets: its page as it then stands, accepted or refused with 8, or refusal 9
pub data BookEntry : Type 0 where
  enters : Page → BookEntry
  replay : Page → BookEntry
  full : BookEntry

abbrev pub judge_by : Option Page → (no_room : Bool) → (clock : ℕ) → Peer → (id p : ℕ) → BookEntry
judge_by (Some q) no_room clock a id p = cond (fresh q p) (enters (accept clock a id p q)) (replay (refuse id p q))
judge_by None no_room clock a id p = cond no_room full (enters (new_page clock a id p))

abbrev pub judge : (R : ℕ) → List Page → (clock : ℕ) → Peer → (id p : ℕ) → BookEntry
judge R b clock a id p = judge_by (page R clock id b) (crowded R clock b) clock a id p

-- the page as it then stands replaces any old one of its ID; refusal 9 changes no page
abbrev pub turn : BookEntry → ℕ → List Page → List Page
turn (enters q) id b = q ∷ without id b
turn (replay q) id b = q ∷ without id b
turn full id b = b

abbrev pub tell : {H : Type 0} → BookEntry → Call → H → List ℕ → Outcome H
tell (enters q) c header plaintext = opened_outcome c header plaintext
tell (replay q) c header plaintext = refused_outcome c 8 plaintext
tell full c header plaintext = refused_outcome c 9 plaintext

-- ---- one step, for what the arguments decided

abbrev pub outcome_by : {H : Type 0} → Decision H → (R : ℕ) → List Page → Call → Outcome H
outcome_by (early number output) R b c = record { answer = refused number; output = output }
outcome_by (reaches id p header plaintext) R b c = tell (judge R b c.clock c.peer id p) c header plaintext

abbrev pub next_by : {H : Type 0} → Decision H → (R : ℕ) → List Page → Call → List Page
next_by (early number output) R b c = b
next_by (reaches id p header plaintext) R b c = turn (judge R b c.clock c.peer id p) id b

-- ---- a run over a list of calls: `decide` is what the arguments of a call decide, for one method and key

module _ {H : Type 0} (decide : Call → Decision H) (R : ℕ) where
  abbrev pub book_outcome : List Page → Call → Outcome H
  book_outcome b c = outcome_by (decide c) R b c

  abbrev pub book_next : List Page → Call → List Page
  book_next b c = next_by (decide c) R b c

  abbrev pub book_outcomes : List Page → List Call → List (Outcome H)
  book_outcomes b [] = []
  book_outcomes b (c ∷ cs) = book_outcome b c ∷ book_outcomes (book_next b c) cs

  abbrev pub book_after : List Page → List Call → List Page
  book_after b [] = b
  book_after b (c ∷ cs) = book_after (book_next b c) cs
