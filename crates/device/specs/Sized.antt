-- A meaning that ends at its size.
use Rattle.std.specs.Prelude.{ℕ, min, Bool, cond, ◌&&◌, nat_lt}
use Rattle.device.specs.Meaning.{Meaning}
use Rattle.terms.specs.Limits.{places}

-- how many of so many bytes are places
abbrev pub fitting : ℕ → ℕ
fitting n = min n places

-- a device of that size: beyond it every one of ours tells byte 0, not writable, not kept
abbrev pub sized : ℕ → (ℕ → ℕ) → (ℕ → Bool) → (ℕ → Bool) → Meaning
sized n byte writable keeps = record {
  size = n;
  byte = λ p. cond (nat_lt p n) (byte p) 0;
  writable = λ p. nat_lt p n && writable p;
  keeps = λ p. nat_lt p n && keeps p;
}
