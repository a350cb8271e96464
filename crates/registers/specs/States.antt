-- The five states, and what each is known by.
use Rattle.std.specs.Prelude.{ℕ, ◌*◌, Bool, true, false, cond, Some, None, Option, ◌==◌}
use Rattle.registers.specs.declared.state.State.{State}
use Rattle.registers.specs.declared.state.State.TheVariants.{On, Doze, Sleep, Suspend, Off}

abbrev pub state_number : State → ℕ
state_number On = 0
state_number Doze = 1
state_number Sleep = 2
state_number Suspend = 3
state_number Off = 4

-- the state of a number that STATE takes, 0 to 4
abbrev pub state_of : ℕ → State
state_of n = cond (n == 0) On (cond (n == 1) Doze (cond (n == 2) Sleep (cond (n == 3) Suspend Off)))

-- On, Doze and Sleep are awake
abbrev pub asleep : State → Bool
asleep On = false
asleep Doze = false
asleep Sleep = false
asleep Suspend = true
asleep Off = true

-- by the register table: the power outputs in a state; in Off all lines are 0
abbrev pub outputs_in : State → (ℕ → ℕ) → ℕ
outputs_in On table = table 0x08
outputs_in Doze table = table 0x09
outputs_in Sleep table = table 0x0A
outputs_in Suspend table = table 0x0B
outputs_in Off table = 0

-- by the register table: what the idle counter is set to as a state is entered, 32 ticks for each unit of its load
abbrev pub idle_in : State → (ℕ → ℕ) → ℕ
idle_in On table = 32 * table 0x01
idle_in Doze table = 32 * table 0x02
idle_in Sleep table = 32 * table 0x03
idle_in Suspend table = 0
idle_in Off table = 0

-- the index of the register that holds a state's load; Suspend and Off have none
abbrev pub load_index : State → Option ℕ
load_index On = Some 0x01
load_index Doze = Some 0x02
load_index Sleep = Some 0x03
load_index Suspend = None
load_index Off = None

-- whether a register of that index does
abbrev pub is_load : State → ℕ → Bool
is_load On i = i == 0x01
is_load Doze i = i == 0x02
is_load Sleep i = i == 0x03
is_load Suspend i = false
is_load Off i = false
