-- What the processor's reads and writes of memory are answered, and what they do.
use Rattle.std.specs.Prelude.{ℕ, Bool, true, false, cond, not, ◌&&◌, Some, None, Ok, Err, Option, Result}
use Rattle.terms.specs.Numbers.{passed_up}
use Rattle.terms.specs.declared.refusal.Refusal.{Refusal}
use Rattle.terms.specs.declared.refusal.Refusal.TheVariants as refusal
use Rattle.terms.specs.declared.refusal.Fault.{Fault}
use Rattle.device.specs.Meaning.{read_at, write_at, written}
use Rattle.mapper.specs.Translation.{Target, leads}
use Rattle.power.specs.Causes.{violated}
use Rattle.rules.specs.Machine.{Machine, with_power, device, with_device, powered}

-- a device's fault comes up as a refusal
abbrev pub lifted : {X : Type 0} → Result X Fault → Result X Refusal
lifted (Ok x) = Ok x
lifted (Err f) = Err (passed_up f)

abbrev pub read_target : Machine → Option Target → Result ℕ Refusal
read_target m None = Err refusal.PageNotMapped
read_target m (Some t) =
    cond (powered m.power t.socket) (lifted (read_at (device m t.socket) t.place)) (Err refusal.SocketUnpowered)

-- the byte that the processor reads at an address
abbrev pub cpu_read : Machine → ℕ → Result ℕ Refusal
cpu_read m a = read_target m (leads m.words a)

abbrev pub write_target : Machine → Option Target → Result (Unit {0}) Refusal
write_target m None = Err refusal.PageNotMapped
write_target m (Some t) =
    cond t.readonly (Err refusal.PageReadOnly)
    (cond (powered m.power t.socket) (lifted (write_at (device m t.socket) t.place)) (Err refusal.SocketUnpowered))

-- whether the processor's write at an address is let through
abbrev pub cpu_write : Machine → ℕ → Result (Unit {0}) Refusal
cpu_write m a = write_target m (leads m.words a)

abbrev pub written_target : Machine → Option Target → ℕ → Machine
written_target m None v = m
written_target m (Some t) v =
    cond (not t.readonly && powered m.power t.socket) (with_device t.socket (written (device m t.socket) t.place v) m) m

-- the two refusals that are noted
abbrev pub is_violation : Refusal → Bool
is_violation refusal.NotAFrame = false
is_violation refusal.UnknownKind = false
is_violation refusal.UnusedFieldNotZero = false
is_violation refusal.ValueTooLarge = false
is_violation refusal.IndexTooLarge = false
is_violation refusal.Asleep = false
is_violation refusal.RegisterNotWritable = false
is_violation refusal.PageNotMapped = false
is_violation refusal.PageReadOnly = true
is_violation refusal.SocketUnpowered = false
is_violation refusal.NoSuchPlace = false
is_violation refusal.WriteProtected = true
is_violation refusal.CausePending = false

-- a write that the page or the place forbids is noted
abbrev pub noted : Result (Unit {0}) Refusal → ℕ → Machine → Machine
noted (Ok x) a m = m
noted (Err r) a m = cond (is_violation r) (with_power (violated a m.power) m) m

-- the machine after the processor's write of v at an address
abbrev pub cpu_written : Machine → ℕ → ℕ → Machine
cpu_written m a v = noted (cpu_write m a) a (written_target m (leads m.words a) v)
