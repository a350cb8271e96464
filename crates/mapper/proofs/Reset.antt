-- The words of a new table.
use Rattle.std.proofs.Common.{◌≡◌, ℕ, List, get_or, set, replicate, length, inl, inr, arith}
use mathlib.Core.Path.{fun_ext}
use Rattle.std.proofs.lemmas.Bool.{cases_lt}
use Rattle.std.proofs.lemmas.Bool.Decides.{nat_tests}
use Rattle.std.proofs.lemmas.Grind.{elements}
use Rattle.std.proofs.lemmas.List.{get_or-replicate, get_or_past, length-replicate}
use Rattle.mapper.specs.Translation.{reset_words}

abbrev zeros : List ℕ
zeros = replicate 64 0

zero_at : (k : ℕ) → ◌≡◌ {A = ℕ} (get_or zeros k 0) 0
zero_at k =
    elim (cases_lt k 64) [
      | inl h ↦ get_or-replicate {A = ℕ} 64 k 0 0 h
      | inr h ↦ get_or_past zeros k 0 (omega (arith, length-replicate {A = ℕ} 64 0))
    ]

-- the last of 64 words that are 0 stored
last_stored : (words : List ℕ) (page : ℕ) → length words ≡ 64 → ((k : ℕ) → ◌≡◌ {A = ℕ} (get_or words k 0) 0)
    → get_or (set words 63 0xD000) page 0 ≡ reset_words page
last_stored words page n zero = grind (arith, elements, nat_tests, zero)

pub reset_is : (λ (page : ℕ). get_or (set zeros 63 0xD000) page 0) ≡ reset_words
reset_is = fun_ext (λ page. last_stored zeros page (length-replicate {A = ℕ} 64 0) zero_at)
