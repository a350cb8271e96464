-- Examples of what the rules give, on the board of the program `engine`.
use Rattle.std.specs.Prelude.{ℕ, ◌%◌, Bool, true, false, not, ◌&&◌, List, [], ◌∷◌, ◌++◌, replicate, Some, None, codes, Option, ◌==◌, nat_lt}
use Rattle.device.specs.Sized.{sized}
use Rattle.mapper.specs.Translation.{Target, leads}
use Rattle.frames.specs.Lines.{Line}
use Rattle.rules.specs.Machine.{Machine, fresh}
use Rattle.rules.specs.Step.{step, answer}
use Rattle.frames.specs.Spelling.{digits_of}

-- the board: 32,768 zeroed bytes of RAM, a ROM whose byte at p is p mod 251, 16,384 zeroed backed bytes of which the first 2,048 are write-protected, nothing
abbrev pub board : Machine
board = fresh
    (sized 32768 (λ p. 0) (λ p. true) (λ p. false))
    (sized 16384 (λ p. p % 251) (λ p. false) (λ p. true))
    (sized 16384 (λ p. 0) (λ p. not (nat_lt p 2048)) (λ p. true))
    (sized 0 (λ p. 0) (λ p. false) (λ p. false))

-- an example: lines with their answers, from a new engine on; or where an address leads under a page word
pub data Example : Type 0 where
  talk : List (Line × List ℕ) → Example
  address : ℕ → ℕ → Target → Example

abbrev pub same_bytes : List ℕ → List ℕ → Bool
same_bytes [] [] = true
same_bytes [] (y ∷ ys) = false
same_bytes (x ∷ xs) [] = false
same_bytes (x ∷ xs) (y ∷ ys) = x == y && same_bytes xs ys

abbrev pub answers_hold : Machine → List (Line × List ℕ) → Bool
answers_hold m [] = true
answers_hold m (said ∷ rest) = same_bytes (digits_of (answer m said.0)) said.1 && answers_hold (step m said.0) rest

abbrev pub same_flag : Bool → Bool → Bool
same_flag true b = b
same_flag false b = not b

abbrev pub is_target : Option Target → Target → Bool
is_target None t = false
is_target (Some s) t = s.socket == t.socket && s.place == t.place && same_flag s.readonly t.readonly

abbrev pub holds : Example → Bool
holds (talk lines) = answers_hold board lines
holds (address word a target) = is_target (leads (λ page. word) a) target

abbrev pub all_hold : List Example → Bool
all_hold [] = true
all_hold (e ∷ es) = holds e && all_hold es

abbrev tick : Line × List ℕ
tick = (codes "100000000000", codes "000000000F00")

abbrev pub examples : List Example
examples =
    -- the session
    talk (
    (codes "060FC0050000", codes "000005000F00")
    ∷ (codes "050FC0050041", codes "090000000F00")
    ∷ (codes "030000008000", codes "000000000F00")
    ∷ (codes "05000001005A", codes "000000000F00")
    ∷ (codes "010000000004", codes "000000040000")
    ∷ (codes "060000010000", codes "060000040000")
    ∷ (codes "130000000001", codes "000000000F00")
    ∷ (codes "060000010000", codes "0000FF000F00")
    ∷ [])
    -- D4321h under 802Ah is place A8321h of socket 0, and FFFFFh under FFFFh is place 3FFFFFFh of socket 3
    ∷ address 0x802A 0xD4321 (record { socket = 0; place = 0xA8321; readonly = false })
    ∷ address 0xFFFF 0xFFFFF (record { socket = 3; place = 0x3FFFFFF; readonly = true })
    -- with DOZE 1 the state is On after 31 ticks, and Doze after 32
    ∷ talk ((codes "010000010001", codes "000000000F00") ∷ replicate 31 tick)
    ∷ talk ((codes "010000010001", codes "000000000F00") ∷ (replicate 31 tick ++ (codes "100000000000", codes "000000010F00") ∷ []))
    -- after one low sample a rise is no press, after two it is
    ∷ talk (tick ∷ (codes "010000000003", codes "000000030200") ∷ (codes "120000000001", codes "000000030200") ∷ [])
    ∷ talk (tick ∷ tick ∷ (codes "010000000003", codes "000000030200") ∷ (codes "120000000001", codes "000000000F00") ∷ [])
    ∷ []
