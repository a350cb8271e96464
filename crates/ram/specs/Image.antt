-- Loading an image over the bytes of a device.
use Rattle.std.specs.Prelude.{ℕ, ◌+◌, Bool, cond, List, ◌++◌, length, take, drop, Ok, Err, Result, nat_le}
use Rattle.terms.specs.declared.refusal.Fault.{Fault}
use Rattle.terms.specs.declared.refusal.Fault.TheVariants.{NoSuchPlace}

-- an image of so many bytes fits where it does not pass the end: an empty one fits at the end too
abbrev pub fits : ℕ → ℕ → ℕ → Bool
fits end start count = nat_le (start + count) end

abbrev pub load_at : ℕ → ℕ → ℕ → Result (Unit {0}) Fault
load_at end start count = cond (fits end start count) (Ok tt) (Err NoSuchPlace)

-- an image that fits takes the place of as many bytes, and one that does not changes none
abbrev pub loaded : List ℕ → ℕ → List ℕ → List ℕ
loaded bytes start image =
    cond (fits (length bytes) start (length image)) (take start bytes ++ (image ++ drop (start + length image) bytes)) bytes
