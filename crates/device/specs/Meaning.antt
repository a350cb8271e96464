-- What a device stands for, and what the five functions of its interface make of that.
use Rattle.std.specs.Prelude.{ℕ, Bool, cond, ◌&&◌, Ok, Err, Result, ◌==◌, nat_lt}
use Rattle.terms.specs.declared.refusal.Fault.{Fault}
use Rattle.terms.specs.declared.refusal.Fault.TheVariants as fault

-- its size, and of each place its byte, whether it can be written, and whether it keeps its byte without power
pub record Meaning : Type 0 where
  pub size : ℕ
  pub byte : ℕ → ℕ
  pub writable : ℕ → Bool
  pub keeps : ℕ → Bool

abbrev pub exists : Meaning → ℕ → Bool
exists m p = nat_lt p m.size

-- a place is open where it exists and can be written
abbrev pub is_open : Meaning → ℕ → Bool
is_open m p = exists m p && m.writable p

-- a read answers the byte of its place, if there is such a place
abbrev pub read_at : Meaning → ℕ → Result ℕ Fault
read_at m p = cond (exists m p) (Ok (m.byte p)) (Err fault.NoSuchPlace)

-- a write is refused where there is no such place, and where it cannot be written
abbrev pub write_at : Meaning → ℕ → Result (Unit {0}) Fault
write_at m p = cond (exists m p) (cond (m.writable p) (Ok tt) (Err fault.WriteProtected)) (Err fault.NoSuchPlace)

-- a write that is not refused makes that byte the value written, and changes no other
abbrev pub written : Meaning → ℕ → ℕ → Meaning
written m p v = record {
  size = m.size;
  byte = λ q. cond (q == p && is_open m p) v (m.byte q);
  writable = m.writable;
  keeps = m.keeps;
}

-- a power loss makes each volatile place FFh, and changes no other
abbrev pub faded : Meaning → Meaning
faded m = record {
  size = m.size;
  byte = λ q. cond (exists m q) (cond (m.keeps q) (m.byte q) 0xFF) (m.byte q);
  writable = m.writable;
  keeps = m.keeps;
}
