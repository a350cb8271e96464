use Rattle.std.proofs.Common.{◌≡◌, ◌-◌, ◌*◌, ◌≤◌, length, take, drop}
use Rattle.machine.specs.View.{view}
use Rattle.link.specs.Stream.{GoesOn}
use Rattle.link.specs.View.{held}
use Rattle.link.proofs.link.Link.receive.Given as goal

-- what the contract says of all bytes that are taken holds of those before `rest`
abbrev pub invariant-loop-rest : goal.invariant-loop-rest
invariant-loop-rest g l =
    (l.rest ≡ take (length l.rest) (drop (l.read - length l.rest) l.chunk))
    × (length l.rest ≤ l.read)
    × (l.written ≤ 13 * (l.read - length l.rest))
    × GoesOn (view g.S.Sockets.meaning l.initial.self.engine) (held l.initial.self) (view g.S.Sockets.meaning l.self.engine) (held l.self) (take (l.read - length l.rest) l.chunk) (take l.written l.out)
    × (drop l.written l.out ≡ drop l.written l.initial.out)

abbrev pub decreases-loop-rest : goal.decreases-loop-rest
decreases-loop-rest g l = length l.rest
