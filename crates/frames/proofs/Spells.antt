-- An answer is spelled by six pairs of digits.
use Rattle.std.proofs.Common.{◌≡◌, ℕ, ◌/◌, ◌%◌, Bool, true, false, cond, List, [], ◌∷◌, get_or, refl, ap, ◌∙◌}
use mir.Val.{bool_byte}
use Rattle.registers.specs.States.{state_number}
use Rattle.frames.specs.Spelling.{number_of, value_of, two_digits, spelled}
use Rattle.frames.specs.declared.answer.Answer.{Answer}

abbrev pairs : List ℕ → List ℕ → List ℕ → List ℕ → List ℕ → List ℕ → List ℕ
pairs n h l s o i =
    get_or n 0 0 ∷ get_or n 1 0 ∷ get_or h 0 0 ∷ get_or h 1 0 ∷ get_or l 0 0 ∷ get_or l 1 0 ∷ get_or s 0 0 ∷ get_or s 1 0 ∷ get_or o 0 0 ∷ get_or o 1 0 ∷ get_or i 0 0 ∷ get_or i 1 0 ∷ 0x0A ∷ []

pub spelled_by : (r : Answer) (n h l s o i : List ℕ) → n ≡ two_digits (number_of r.outcome) → h ≡ two_digits (value_of r.outcome / 0x100)
    → l ≡ two_digits (value_of r.outcome % 0x100) → s ≡ two_digits (state_number r.state) → o ≡ two_digits r.outputs
    → i ≡ two_digits (cond r.interrupt 1 0) → pairs n h l s o i ≡ spelled r
unfolding spelled
spelled_by r n h l s o i en eh el es eo ei =
    let n' = two_digits (number_of r.outcome) in
    let h' = two_digits (value_of r.outcome / 0x100) in
    let l' = two_digits (value_of r.outcome % 0x100) in
    let s' = two_digits (state_number r.state) in
    let o' = two_digits r.outputs in
    ap (λ x. pairs x h l s o i) en ∙ ap (λ x. pairs n' x l s o i) eh ∙ ap (λ x. pairs n' h' x s o i) el
    ∙ ap (λ x. pairs n' h' l' x o i) es ∙ ap (λ x. pairs n' h' l' s' x i) eo ∙ ap (λ x. pairs n' h' l' s' o' x) ei

-- a flag as a number
pub flag_byte : (b : Bool) → bool_byte b ≡ cond b 1 0
flag_byte true = refl
flag_byte false = refl
