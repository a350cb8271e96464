-- What is kept of a line that has thirteen bytes.
use Rattle.std.proofs.Common.{◌≡◌, ℕ, ◌≤◌, List, [], ◌∷◌, ◌++◌, length, take, sym, arith}
use Rattle.std.proofs.lemmas.List.{take_all, take_at}

pub no_more : (xs : List ℕ) (n b : ℕ) → length xs ≡ 13 → 13 ≤ n → take n xs ≡ take 13 (take n xs ++ b ∷ [])
no_more xs n b e h =
    let all : take n xs ≡ xs = take_all n xs (omega arith) in
    rw all (sym (take_at xs (b ∷ []) 13 e))
