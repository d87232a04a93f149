-- Writing a file of settings: what is given, what is answered, and the file.
use Rattle.std.specs.Prelude.{◌≡◌, Bool, true, false, cond, not, ◌&&◌, List, [], ◌++◌, ℕ, zero, suc, ◌+◌, ◌*◌, ◌/◌, ◌%◌, ◌≤◌, ◌<◌, eqb, leb, length, get_or, take, drop, Err, Ok, Result}
use Rattle.octets.specs.Buffers.{put}
use Rattle.octets.specs.Numbers.{to_be}
use Rattle.blake3.specs.Tree.{hash}
use Rattle.protocol.specs.declared.Refusal.TheVariants.{Settings, Length as TooLong, Room, Argument}
use Rattle.settings_rules.specs.Rules.{is_unknown, lawful}
use Rattle.settings_rules.specs.Contents.{Contents}
use Rattle.settings_file.specs.Format.{place_of, hash_length, max_file}
use Rattle.protocol.specs.declared.Refusal.{Refusal}

-- ---- what is given: two words for each setting, number and length, and the bodies back to back

abbrev pub number_at : List ℕ → ℕ → ℕ
number_at ws i = get_or ws (2 * i) 0

abbrev pub length_at : List ℕ → ℕ → ℕ
length_at ws i = get_or ws (2 * i + 1) 0

abbrev pub size_of : List ℕ → ℕ
size_of ws = length ws / 2

-- how many bytes of bodies stand before setting i
unfoldable pub before : List ℕ → ℕ → ℕ
before ws zero = 0
before ws (suc i) = before ws i + length_at ws i

unfoldable pub body_at : List ℕ → List ℕ → ℕ → List ℕ
body_at ws bodies i = take (length_at ws i) (drop (before ws i) bodies)

abbrev pub given : List ℕ → List ℕ → Contents
given ws bodies = record { size = size_of ws; number = number_at ws; body = body_at ws bodies }

-- the words come in pairs, and their lengths add up to the n bytes of the bodies, as whole numbers
unfoldable pub describes : List ℕ → ℕ → Bool
describes ws n = eqb (length ws % 2) 0 && eqb (before ws (size_of ws)) n

-- ---- what may be written

-- a number has 2 bytes in the file
abbrev pub max_number : ℕ
max_number = 65535

-- a setting, whose number is to be at least `least`
unfoldable pub writable : (number : ℕ) (body : List ℕ) (least : ℕ) → Bool
writable number body least = leb least number && (lawful number body && (leb number max_number && not (is_unknown number)))

abbrev pub is_writable : Contents → (i least : ℕ) → Bool
is_writable t i least = writable (t.number i) (t.body i) least

-- n settings from i on
unfoldable pub are_writable : Contents → (n i least : ℕ) → Bool
are_writable t zero i least = true
are_writable t (suc n) i least = elim (is_writable t i least) [ true ↦ are_writable t n (i + 1) (t.number i + 1) | false ↦ false ]

abbrev pub all_writable : Contents → Bool
all_writable t = are_writable t t.size 0 0

-- ---- the file

abbrev pub entry_bytes : (number offset len : ℕ) → List ℕ
entry_bytes number offset len = to_be 2 number ++ (to_be 2 offset ++ to_be 2 len)

-- n entries from i on; bodies begin behind the contents
unfoldable pub entries : List ℕ → (n i : ℕ) → List ℕ
entries ws zero i = []
entries ws (suc n) i = entry_bytes (number_at ws i) (place_of (size_of ws) + before ws i) (length_at ws i) ++ entries ws n (i + 1)

-- all that the hash covers
unfoldable pub covered : ℕ → (ws bodies : List ℕ) → List ℕ
covered edition ws bodies = to_be 2 edition ++ (to_be 2 (size_of ws) ++ (entries ws (size_of ws) 0 ++ bodies))

unfoldable pub file_of : ℕ → (ws bodies : List ℕ) → List ℕ
file_of edition ws bodies = covered edition ws bodies ++ hash (covered edition ws bodies)

abbrev pub file_length : List ℕ → ℕ → ℕ
file_length ws n = place_of (size_of ws) + n + hash_length

-- what is given has a file
pub record Writable (ws bodies : List ℕ) : Type 0 where
  pub described : describes ws (length bodies) ≡ true
  pub lawful : all_writable (given ws bodies) ≡ true
  pub short : file_length ws (length bodies) ≤ max_file

-- so that all that the contents hold has its 2 bytes
pub record InTwoBytes (ws : List ℕ) : Type 0 where
  pub numbers : (i : ℕ) → i < size_of ws → number_at ws i ≤ max_number
  pub ends : place_of (size_of ws) + before ws (size_of ws) ≤ max_file

-- ---- what is answered: refusals 1, 12, 2 and 3, in this order, or the file's length

unfoldable pub length_answer : (n room : ℕ) → Result ℕ Refusal
length_answer n room = cond (leb n max_file) (cond (leb n room) (Ok n) (Err Room)) (Err TooLong)

unfoldable pub write_answer : (ws bodies : List ℕ) → (room : ℕ) → Result ℕ Refusal
write_answer ws bodies room =
    cond (describes ws (length bodies))
    (cond (all_writable (given ws bodies)) (length_answer (file_length ws (length bodies)) room) (Err Argument))
    (Err Settings)

-- the file at the front of the buffer, and nothing for a refusal
abbrev pub write_out : Result ℕ Refusal → (file out : List ℕ) → List ℕ
write_out (Ok n) file out = put out 0 file
write_out (Err r) file out = out
