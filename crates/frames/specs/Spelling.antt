-- How an answer is spelled: twelve digits and 0Ah.
use Rattle.std.specs.Prelude.{ℕ, ◌+◌, ◌/◌, ◌%◌, cond, List, [], ◌∷◌, ◌++◌, Ok, Err, Result, nat_lt}
use Rattle.terms.specs.Numbers.{number}
use Rattle.terms.specs.declared.refusal.Refusal.{Refusal}
use Rattle.registers.specs.States.{state_number}
use Rattle.frames.specs.declared.answer.Answer.{Answer}

-- the number of an outcome: 00 taken, or the refusal's
abbrev pub number_of : Result ℕ Refusal → ℕ
number_of (Ok v) = 0
number_of (Err r) = number r

-- the value read, 0 where nothing is read
abbrev pub value_of : Result ℕ Refusal → ℕ
value_of (Ok v) = v
value_of (Err r) = 0

-- the byte that spells a digit, 0-9 and A-F
abbrev pub digit_byte : ℕ → ℕ
digit_byte d = cond (nat_lt d 10) (0x30 + d) (0x37 + d)

abbrev pub two_digits : ℕ → List ℕ
two_digits n = digit_byte (n / 0x10) ∷ digit_byte (n % 0x10) ∷ []

abbrev pub four_digits : ℕ → List ℕ
four_digits n = two_digits (n / 0x100) ++ two_digits (n % 0x100)

-- number, value read, state, outputs, NMI
abbrev pub digits_of : Answer → List ℕ
digits_of r =
    two_digits (number_of r.outcome) ++ four_digits (value_of r.outcome) ++ two_digits (state_number r.state)
    ++ two_digits r.outputs ++ two_digits (cond r.interrupt 1 0)

unfoldable pub spelled : Answer → List ℕ
spelled r = digits_of r ++ 0x0A ∷ []
