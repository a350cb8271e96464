-- The causes of an interrupt.
use Rattle.std.specs.Prelude.{ℕ, ◌/◌, ◌%◌, ◌^◌, Bool, true, false, cond, not, ◌&&◌, ◌==◌, bit_or}
use Rattle.registers.specs.Registers.{bit}
use Rattle.registers.specs.States.{asleep}
use Rattle.power.specs.Power.{Power, mask, cause, put}
use Rattle.power.specs.declared.cause.Cause.{Cause}
use Rattle.power.specs.declared.cause.Cause.TheVariants as cause

-- the bit of CAUSE, and of MASK, that stands for it
abbrev pub position : Cause → ℕ
position cause.Doze = 0
position cause.Sleep = 1
position cause.Suspend = 2
position cause.Ext = 3
position cause.Battery = 4
position cause.Violation = 5
position cause.Activity = 6

-- activity cannot be masked
abbrev pub maskable : Cause → Bool
maskable cause.Doze = true
maskable cause.Sleep = true
maskable cause.Suspend = true
maskable cause.Ext = true
maskable cause.Battery = true
maskable cause.Violation = true
maskable cause.Activity = false

abbrev pub masked : Cause → Power → Bool
masked c u = maskable c && bit (position c) (mask u)

-- a cause given: it arises, and its bit is set, unless it is masked
abbrev pub raised : Cause → Power → Power
raised c u = cond (masked c u) u (put 0x05 (bit_or (cause u) (2 ^ position c)) u)

-- NMI is high exactly while a cause is pending
abbrev pub interrupts : Power → Bool
interrupts u = not (cause u == 0)

-- the last violation's address, low byte first
abbrev pub noted : ℕ → Power → Power
noted address u =
    put 0x0E (address / 0x10000 % 0x100) (put 0x0D (address / 0x100 % 0x100) (put 0x0C (address % 0x100) u))

-- a write that the mapper or a device forbids: its address is noted and its cause raised; no frame writes in Suspend and Off
abbrev pub violated : ℕ → Power → Power
violated address u = cond (asleep u.state) u (raised cause.Violation (noted address u))
