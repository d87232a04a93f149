-- What planning and checking answer, in the words of what a good plan is. Numbers are written out: a client's datagram has 32 + 11
-- bytes besides address, padding and piece, by methods 3 to 5 40 + 27, and at most 65,507 in all. Sums are of whole numbers.
-- Assumes nothing.
use Rattle.std.specs.Prelude.{true, cond, List, ◌↔◌, ◌≡◌, ℕ, ◌+◌, ◌*◌, ◌<◌, ◌≤◌, leb, length, take, drop, Err, Ok, false}
use Rattle.protocol.specs.declared.Refusal.TheVariants.{Settings, Argument, Room}
use Rattle.socks5.specs.Address.{is_address}
use Rattle.plan_pieces.specs.Plans.{Piece, words, Good}
use Rattle.plan.specs.Answers.{most_of, check_answer, make_answer, make_out}

-- ---- lawful arguments

abbrev pub KnownMethod : ℕ → Type 0
KnownMethod method = (1 ≤ method) × (method ≤ 5)

-- what every datagram has besides piece and padding
abbrev pub besides : ℕ → List ℕ → ℕ
besides method address = cond (leb method 2) (32 + 11) (40 + 27) + length address

-- the arguments behind the method, for a report of n bytes
pub record Arguments (method : ℕ) (address : List ℕ) (limit n : ℕ) : Type 0 where
  pub one_address : is_address address ≡ true
  pub limit-most : limit ≤ 65507
  pub room-for-one : 0 < n → besides method address + 1 ≤ limit

abbrev pub Lawful : ℕ → List ℕ → (limit n : ℕ) → Type 0
Lawful method address limit n = KnownMethod method × Arguments method address limit n

-- ---- good plans

-- `Good`: the pieces add up to n, none is empty, no datagram is over the limit, and no other such plan has fewer datagrams
abbrev pub GoodPlan : ℕ → List ℕ → (limit n : ℕ) → List Piece → Type 0
GoodPlan method address limit n p = Good (besides method address) limit n p

-- the words of a good plan
abbrev pub IsGood : ℕ → List ℕ → (limit n : ℕ) → List ℕ → Type 0
IsGood method address limit n w = (p : List Piece) × ((w ≡ words p) × GoodPlan method address limit n p)

-- ---- when checking answers what

pub record ChecksExactly (method : ℕ) (address : List ℕ) (limit n : ℕ) (w : List ℕ) : Type 0 where
  pub settings : (check_answer method address limit n w ≡ Err Settings) ↔ (KnownMethod method → ⊥)
  pub argument : (check_answer method address limit n w ≡ Err Argument) ↔ (KnownMethod method × (Arguments method address limit n → ⊥))
  pub passed : (check_answer method address limit n w ≡ (Ok true)) ↔ (Lawful method address limit n × IsGood method address limit n w)
  pub failed : (check_answer method address limit n w ≡ (Ok false)) ↔ (Lawful method address limit n × (IsGood method address limit n w → ⊥))

-- ---- when planning answers what, in so many lent words

pub record MakesExactly (method : ℕ) (address : List ℕ) (limit n room : ℕ) : Type 0 where
  pub settings : (make_answer method address limit n room ≡ Err Settings) ↔ (KnownMethod method → ⊥)
  pub argument : (make_answer method address limit n room ≡ Err Argument) ↔ (KnownMethod method × (Arguments method address limit n → ⊥))
  -- too short for the fewest
  pub short :
      (make_answer method address limit n room ≡ Err Room)
      ↔ (Lawful method address limit n × ((p : List Piece) → GoodPlan method address limit n p → room < 2 * length p))
  -- the number of every good plan, of which there is one
  pub planned : (k : ℕ)
      → (make_answer method address limit n room ≡ Ok k)
      ↔ (Lawful method address limit n × ((2 * k ≤ room) × ((p : List Piece) × (GoodPlan method address limit n p × (length p ≡ k)))))

-- what planning leaves in the lent words, where it answers k: a plan that passes, and behind it what was there
pub record Leaves (method : ℕ) (address : List ℕ) (limit n k : ℕ) (before after : List ℕ) : Type 0 where
  pub fits : 2 * k ≤ length before
  pub passes : check_answer method address limit n (take (2 * k) after) ≡ (Ok true)
  pub same_length : length after ≡ length before
  pub stays : drop (2 * k) after ≡ drop (2 * k) before

abbrev pub CheckExactly : Type 0
CheckExactly = (method : ℕ) (address : List ℕ) (limit n : ℕ) (w : List ℕ) → ChecksExactly method address limit n w

abbrev pub MakeAnswers : Type 0
MakeAnswers = (method : ℕ) (address : List ℕ) (limit n room : ℕ) → MakesExactly method address limit n room

abbrev pub MadePasses : Type 0
MadePasses =
    (method : ℕ) (address : List ℕ) (limit n k : ℕ) (before : List ℕ) → make_answer method address limit n (length before) ≡ Ok k
    → Leaves method address limit n k before (make_out (Ok k) (most_of method address limit) n before)
