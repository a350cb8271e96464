-- What a line asks for, or why it is no well-formed frame.
use Rattle.std.specs.Prelude.{ℕ, Bool, cond, not, ◌&&◌, ◌||◌, Some, None, Ok, Err, Option, Result, ◌==◌, nat_lt}
use Rattle.terms.specs.declared.refusal.Refusal.{Refusal}
use Rattle.terms.specs.declared.refusal.Refusal.TheVariants as refusal
use Rattle.frames.specs.Lines.{Line, is_frame, kind_field, a_field, v_field}
use Rattle.frames.specs.Kinds.{kind_of, a_top, v_top}
use Rattle.frames.specs.declared.kind.Kind.{Kind}

-- a well-formed frame
pub record Frame : Type 0 where
  pub kind : Kind
  pub a : ℕ
  pub v : ℕ

-- an unused field holds something else than 0
abbrev pub unused_set : Kind → ℕ → ℕ → Bool
unused_set k a v = (a_top k == 0 && not (a == 0)) || (v_top k a == 0 && not (v == 0))

-- the fields of a kind, in the rank of the refusals
abbrev pub checked : Kind → ℕ → ℕ → Result Frame Refusal
checked k a v =
    cond (unused_set k a v) (Err refusal.UnusedFieldNotZero)
    (cond (nat_lt (v_top k a) v) (Err refusal.ValueTooLarge)
    (cond (nat_lt (a_top k) a) (Err refusal.IndexTooLarge)
    (Ok (record { kind = k; a = a; v = v }))))

abbrev pub listed : Option Kind → ℕ → ℕ → Result Frame Refusal
listed None a v = Err refusal.UnknownKind
listed (Some k) a v = checked k a v

unfoldable pub decoded : Line → Result Frame Refusal
decoded l = cond (is_frame l) (listed (kind_of (kind_field l)) (a_field l) (v_field l)) (Err refusal.NotAFrame)
