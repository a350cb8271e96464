-- What holds after every line of every list, on an engine over any four devices.
use Rattle.std.specs.Prelude.{◌≡◌, ℕ, ◌<◌, List, ◌∷◌, ◌++◌, Ok}
use Rattle.device.specs.Meaning.{Meaning}
use Rattle.mapper.specs.declared.word.Socket.{Socket}
use Rattle.frames.specs.Lines.{Line}
use Rattle.rules.specs.Machine.{Machine, fresh}
use Rattle.rules.specs.Step.{outcome, answer, after}
use Rattle.rules.specs.Refusals.{rows, first_fit, refused_with}
use Rattle.rules.specs.Bytes.{device_of, ByteLaw, SameShape, ReadLaw, WriteLaw, RefusedLaw}
use Rattle.rules.specs.Waking.{WakeLaw}
use Rattle.rules.specs.Arising.{ReadsCause, CauseLaw}
use Rattle.frames.specs.declared.answer.Answer.{Answer}

-- of a machine that began as `first`, came to the line l by the lines ls, and was left as `end` with the answer r
pub record LineLaws (first : Machine) (ls : List Line) (l : Line) (r : Answer) (end : Machine) : Type 0 where
  -- `outcome` below is what was answered
  pub answered : r.outcome ≡ outcome (after first ls) l
  -- the number answered is the first row of the refusal table that fits, and 00 exactly where none does
  pub refusals : refused_with r.outcome ≡ first_fit rows (after first ls) l
  -- each existing place of each device holds what the last line that set it gave it, or its first byte
  pub bytes : (s : Socket) (p : ℕ) → p < (device_of first s).size → ByteLaw first (l ∷ ls) end s p
  -- what exists, is writable and is volatile is what was in the first devices
  pub shape : (s : Socket) → SameShape first end s
  -- a taken CPU read answers its place's byte
  pub reads : (value : ℕ) → r.outcome ≡ Ok value → ReadLaw (after first ls) l value
  -- a well-formed CPU write is taken exactly when it is allowed
  pub writes : WriteLaw (after first ls) l
  -- a line that is turned away leaves the machine equal, but for a noted violation
  pub refused : RefusedLaw (after first ls) l end
  -- Suspend and Off end exactly by a reset, a clean press, the programmed ring or an enabled alarm
  pub waking : WakeLaw first ls l end
  -- a taken read of CAUSE shows exactly the causes that arose since the last one and the last reset
  pub causes : (value : ℕ) → r.outcome ≡ Ok value → ReadsCause (after first ls) l → CauseLaw first ls value

-- of any engine that a new one became by some lines, which one line more takes from `start` to `end`
abbrev pub Laws : Machine → Line → Answer → Machine → Type 0
Laws start l r end =
    (ram rom card_a card_b : Meaning) (ls : List Line) → start ≡ after (fresh ram rom card_a card_b) ls
    → LineLaws (fresh ram rom card_a card_b) ls l r end

-- of every line of a list, the newest first
abbrev pub Lawful : Machine → List Line → Type 0
Lawful first ls =
    (newer older : List Line) (l : Line) → ls ≡ newer ++ (l ∷ older)
    → LineLaws first older l (answer (after first older) l) (after first (l ∷ older))
