use Rattle.std.proofs.Common.{◌≡◌, ℕ, List, [], ◌∷◌, ◌++◌, take, subst, rules}
use Rattle.link.proofs.Kept.{no_more}
use Rattle.link.proofs.held.Held.push.Goals as goal

pub returns-else-self-lt-ROOM : goal.returns-else-self-lt-ROOM
returns-else-self-lt-ROOM c =
    subst (λ (h : List ℕ). h ≡ take 13 (h ++ c.args.b ∷ [])) c.self.view_is (no_more c.self.inside.bytes c.self.inside.len c.args.b (search rules) (search rules))
