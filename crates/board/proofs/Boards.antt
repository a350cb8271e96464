-- A new engine whose devices hold certain bytes stands on the board of these bytes.
use Rattle.std.proofs.Common.{◌≡◌, ℕ, Bool, List, take, ap, ◌∙◌}
use Rattle.terms.specs.Limits.{places}
use Rattle.device.specs.Kinds.{volatile, backed, read_only, empty}
use Rattle.guard.specs.Guard.{guarded}
use Rattle.guard.specs.declared.guard.SegmentSize.{SegmentSize}
use Rattle.guard.specs.declared.guard.SegmentSize.TheVariants.{Places2048}
use Rattle.pair.specs.Pair.{paired}
use Rattle.rules.specs.Machine.{Machine, fresh}
use Rattle.board.specs.Board.{card_flags, board}

abbrev over : List ℕ → List ℕ → List ℕ → SegmentSize → List Bool → List ℕ → Machine
over e o r s f k = fresh (paired (volatile e) (volatile o)) (read_only r) (guarded s f (backed k)) empty

pub stands_on : (e o r k even odd burnt kept : List ℕ) (s : SegmentSize) (f : List Bool) → e ≡ take places even → o ≡ take places odd
    → r ≡ take places burnt → s ≡ Places2048 → f ≡ card_flags → k ≡ take places kept → over e o r s f k ≡ board even odd burnt kept
stands_on e o r k even odd burnt kept s f he ho hr hs hf hk =
    ap (λ x. over x o r s f k) he
    ∙ ap (λ x. over (take places even) x r s f k) ho
    ∙ ap (λ x. over (take places even) (take places odd) x s f k) hr
    ∙ ap (λ x. over (take places even) (take places odd) (take places burnt) x f k) hs
    ∙ ap (λ x. over (take places even) (take places odd) (take places burnt) Places2048 x k) hf
    ∙ ap (λ x. over (take places even) (take places odd) (take places burnt) Places2048 card_flags x) hk

pub same_board : (e o r k e' o' r' k' : List ℕ) → e ≡ e' → o ≡ o' → r ≡ r' → k ≡ k' → board e o r k ≡ board e' o' r' k'
same_board e o r k e' o' r' k' he ho hr hk =
    ap (λ x. board x o r k) he ∙ ap (λ x. board e' x r k) ho ∙ ap (λ x. board e' o' x k) hr ∙ ap (λ x. board e' o' r' x) hk
