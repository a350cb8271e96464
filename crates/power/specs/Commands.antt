-- What a read or a write of a register is answered, and what it does.
use Rattle.std.specs.Prelude.{ℕ, cond, not, ◌&&◌, is_ok, Ok, Err, Result, ◌==◌, nat_le, nat_lt}
use Rattle.terms.specs.declared.refusal.Refusal.{Refusal}
use Rattle.terms.specs.declared.refusal.Refusal.TheVariants as refusal
use Rattle.registers.specs.Registers.{write_protected}
use Rattle.registers.specs.States.{state_number, state_of, asleep, is_load}
use Rattle.power.specs.Power.{Power, outputs, put, reloaded, entered}
use Rattle.power.specs.Causes.{interrupts}

-- what a register shows: STATE and the present outputs as they are now, any other what it stores
abbrev pub shown : ℕ → Power → ℕ
shown i u = cond (i == 0x00) (state_number u.state) (cond (i == 0x0F) (outputs u) (u.table i))

-- a read is refused in Suspend and Off
abbrev pub read_answer : ℕ → Power → Result ℕ Refusal
read_answer i u = cond (asleep u.state) (Err refusal.Asleep) (Ok (shown i u))

-- an accepted read of CAUSE clears it
abbrev pub read_done : ℕ → Power → Power
read_done i u = cond (not (asleep u.state) && i == 0x05) (put 0x05 0 u) u

-- the rows of the refusal table that a write of a register can meet, in their rank
abbrev pub write_answer : ℕ → ℕ → Power → Result (Unit {0}) Refusal
write_answer i v u =
    cond (i == 0x00 && nat_lt 4 v) (Err refusal.ValueTooLarge)
    (cond (asleep u.state) (Err refusal.Asleep)
    (cond (write_protected i) (Err refusal.RegisterNotWritable)
    (cond (i == 0x00 && nat_le 3 v && interrupts u) (Err refusal.CausePending) (Ok tt))))

-- an accepted write: STATE enters the state, any other register stores the value, and the load of the present state sets the idle counter too
abbrev pub stores : ℕ → ℕ → Power → Power
stores i v u =
    cond (i == 0x00) (entered (state_of v) u)
    (cond (is_load u.state i) (reloaded (put i v u)) (put i v u))

abbrev pub write_done : ℕ → ℕ → Power → Power
write_done i v u = cond (is_ok (write_answer i v u)) (stores i v u) u
