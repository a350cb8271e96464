-- The register table.
use Rattle.std.specs.Prelude.{ℕ, ◌/◌, ◌%◌, ◌^◌, Bool, cond, ◌||◌, List, [], ◌∷◌, ◌==◌, nat_le, slice_index}
use Rattle.registers.specs.declared.register.Register.{Register}
use Rattle.registers.specs.declared.register.Register.TheVariants as register

abbrev pub index : Register → ℕ
index register.State = 0x00
index register.DozeLoad = 0x01
index register.SleepLoad = 0x02
index register.SuspendLoad = 0x03
index register.Mask = 0x04
index register.Cause = 0x05
index register.Wake = 0x06
index register.ActivityMask = 0x07
index register.OnOutputs = 0x08
index register.DozeOutputs = 0x09
index register.SleepOutputs = 0x0A
index register.SuspendOutputs = 0x0B
index register.ViolationLow = 0x0C
index register.ViolationMiddle = 0x0D
index register.ViolationHigh = 0x0E
index register.Outputs = 0x0F

-- how many registers there are
abbrev pub registers : ℕ
registers = 16

-- what the registers hold after a reset, from index 00h on
abbrev pub reset_values : List ℕ
reset_values = 0x00 ∷ 0x00 ∷ 0x00 ∷ 0x00 ∷ 0x3F ∷ 0x00 ∷ 0x01 ∷ 0x00 ∷ 0x0F ∷ 0x0F ∷ 0x0E ∷ 0x02 ∷ 0x00 ∷ 0x00 ∷ 0x00 ∷ 0x0F ∷ []

abbrev pub reset_table : ℕ → ℕ
reset_table i = slice_index reset_values i

-- one value stored, the others as they were
abbrev pub stored : (ℕ → ℕ) → ℕ → ℕ → ℕ → ℕ
stored table i v = λ k. cond (k == i) v (table k)

-- bit k of a value
abbrev pub bit : ℕ → ℕ → Bool
bit k n = n / 2 ^ k % 2 == 1

-- CAUSE, the violation's address and the present outputs are not written by a frame
abbrev pub write_protected : ℕ → Bool
write_protected i = i == 0x05 || nat_le 0x0C i
