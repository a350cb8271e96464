-- The lines of a stream of bytes, and what they are answered, however the bytes come in chunks.
use Rattle.std.specs.Prelude.{◌≡◌, ℕ, ◌/◌, min, cond, List, [], ◌∷◌, ◌++◌, length, take, Some, None, Option, ◌==◌}
use Rattle.frames.specs.Lines.{Line}
use Rattle.rules.specs.Machine.{Machine}
use Rattle.rules.specs.Step.{after, answer}
use Rattle.frames.specs.Spelling.{spelled}
use Rattle.frames.specs.declared.answer.Answer.{Answer}

-- The lines that have ended, the newest first: those before, and those that the bytes end, where `begun` has come of the first
abbrev pub ended : List Line → Line → List ℕ → List Line
ended older begun [] = older
ended older begun (b ∷ bs) = cond (b == 0x0A) (ended (begun ∷ older) [] bs) (ended older (begun ++ b ∷ []) bs)

-- what has come of the line that has not ended yet
abbrev pub begun_by : Line → List ℕ → Line
begun_by begun [] = begun
begun_by begun (b ∷ bs) = cond (b == 0x0A) (begun_by [] bs) (begun_by (begun ++ b ∷ []) bs)

-- of all bytes so far: the lines that ended, the newest first, and the line that has not
abbrev pub lines : List ℕ → List Line
lines bytes = ended [] [] bytes

abbrev pub unfinished : List ℕ → Line
unfinished bytes = begun_by [] bytes

-- the answers to a list of lines, the newest first, as they are written one after the other
abbrev pub answers : Machine → List Line → List ℕ
answers m [] = []
answers m (l ∷ ls) = answers m ls ++ spelled (answer (after m ls) l)

-- of an unfinished line no more than this is kept: a longer line is no frame, whatever follows
abbrev pub kept : ℕ
kept = 13

-- a link that began with the machine `first` and has been given `bytes` holds this machine and this part of a line
pub record Stands (first : Machine) (bytes : List ℕ) (machine : Machine) (held : List ℕ) : Type 0 where
  pub machine_is : machine ≡ after first (lines bytes)
  pub held_is : held ≡ take kept (unfinished bytes)

-- A link goes on from one machine and part of a line to others by the bytes `more`, and says `new`:
-- in the words of all bytes so far, it stands where those and these lead, and it has said the answers to the lines that ended
pub record GoesOn (m : Machine) (held : List ℕ) (m' : Machine) (held' more new : List ℕ) : Type 0 where
  pub stands : (first : Machine) (bytes : List ℕ) → Stands first bytes m held → Stands first (bytes ++ more) m' held'
  pub says : (first : Machine) (bytes : List ℕ) → Stands first bytes m held → answers first (lines bytes) ++ new ≡ answers first (lines (bytes ++ more))

-- what is written of an answer, if there is one
abbrev pub said : Option Answer → List ℕ
said None = []
said (Some r) = spelled r

-- how many bytes of a chunk are taken: as many as there is room to answer, should each of them end a line
abbrev pub taken : List ℕ → List ℕ → ℕ
taken chunk room = min (length chunk) (length room / 13)

-- at the end of the input a line that has a byte is a line
abbrev pub last_line : Line → List Line
last_line [] = []
last_line (b ∷ l) = (b ∷ l) ∷ []

-- all lines of an input that has ended, the newest first
abbrev pub all_lines : List ℕ → List Line
all_lines bytes = last_line (unfinished bytes) ++ lines bytes
