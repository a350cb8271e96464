-- A result seen through what its value stands for.
use Rattle.std.specs.Prelude.{Ok, Err, Result}

-- a result, with another value in an Ok
abbrev pub ok_map : {X Y E : Type 0} → (X → Y) → Result X E → Result Y E
ok_map f (Ok x) = Ok (f x)
ok_map f (Err e) = Err e
