-- What each kind of device over bytes stands for.
use Rattle.std.specs.Prelude.{ℕ, Bool, true, false, List, [], length, slice_index}
use Rattle.device.specs.Meaning.{Meaning}
use Rattle.device.specs.Sized.{sized, fitting}

-- a device over bytes whose places are all alike: writable or not, and keeping their byte without power or not
abbrev pub uniform : Bool → Bool → List ℕ → Meaning
uniform writable keeps bytes = sized (fitting (length bytes)) (λ p. slice_index bytes p) (λ _. writable) (λ _. keeps)

-- RAM: all writable, all volatile
abbrev pub volatile : List ℕ → Meaning
volatile = uniform true false

-- backed RAM: all writable, and all keep their byte
abbrev pub backed : List ℕ → Meaning
backed = uniform true true

-- ROM: none writable, and all keep their byte
abbrev pub read_only : List ℕ → Meaning
read_only = uniform false true

-- an empty socket's device
abbrev pub empty : Meaning
empty = read_only []
