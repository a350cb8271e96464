-- The number of every refusal, and what becomes of a device's fault.
use Rattle.std.specs.Prelude.{ℕ}
use Rattle.terms.specs.declared.refusal.Refusal.{Refusal}
use Rattle.terms.specs.declared.refusal.Refusal.TheVariants as refusal
use Rattle.terms.specs.declared.refusal.Fault.{Fault}
use Rattle.terms.specs.declared.refusal.Fault.TheVariants as fault

abbrev pub number : Refusal → ℕ
number refusal.NotAFrame = 0x01
number refusal.UnknownKind = 0x02
number refusal.UnusedFieldNotZero = 0x03
number refusal.ValueTooLarge = 0x04
number refusal.IndexTooLarge = 0x05
number refusal.Asleep = 0x06
number refusal.RegisterNotWritable = 0x07
number refusal.PageNotMapped = 0x08
number refusal.PageReadOnly = 0x09
number refusal.SocketUnpowered = 0x0A
number refusal.NoSuchPlace = 0x0B
number refusal.WriteProtected = 0x0C
number refusal.CausePending = 0x0D

-- a device's fault comes up unchanged
abbrev pub passed_up : Fault → Refusal
passed_up fault.NoSuchPlace = refusal.NoSuchPlace
passed_up fault.WriteProtected = refusal.WriteProtected
