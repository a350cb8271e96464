-- What is known of a line by what it is decoded to.
use Rattle.std.proofs.Common.{◌≡◌, ℕ, Bool, true, false, cond, Some, None, Ok, Err, Option, sym, refl, ap, ◌∙◌, arith}
use Rattle.std.proofs.lemmas.Bool.Decides.{nat_tests}
use Rattle.terms.specs.declared.refusal.Refusal.TheVariants as refusal
use Rattle.frames.specs.Lines.{Line, is_frame, kind_field, a_field, v_field}
use Rattle.frames.specs.Kinds.{kind_of}
use Rattle.frames.specs.Decode.{Frame, checked, listed, decoded}
use Rattle.frames.specs.declared.kind.Kind.{Kind}
use Rattle.frames.specs.declared.kind.Kind.TheVariants as kind
use Rattle.rules.proofs.Press.{impossible}

-- the number of each kind
abbrev pub kind_number : Kind → ℕ
kind_number kind.Reset = 0x00
kind_number kind.RegisterWrite = 0x01
kind_number kind.RegisterRead = 0x02
kind_number kind.PageWrite = 0x03
kind_number kind.PageRead = 0x04
kind_number kind.CpuWrite = 0x05
kind_number kind.CpuRead = 0x06
kind_number kind.Tick = 0x10
kind_number kind.Activity = 0x11
kind_number kind.Ext = 0x12
kind_number kind.Ring = 0x13
kind_number kind.Alarm = 0x14
kind_number kind.Battery = 0x15
kind_number kind.Ac = 0x16

-- a kind is known by its number
listed_kind : (k : Kind) → kind_of (kind_number k) ≡ Some k
listed_kind kind.Reset = refl
listed_kind kind.RegisterWrite = refl
listed_kind kind.RegisterRead = refl
listed_kind kind.PageWrite = refl
listed_kind kind.PageRead = refl
listed_kind kind.CpuWrite = refl
listed_kind kind.CpuRead = refl
listed_kind kind.Tick = refl
listed_kind kind.Activity = refl
listed_kind kind.Ext = refl
listed_kind kind.Ring = refl
listed_kind kind.Alarm = refl
listed_kind kind.Battery = refl
listed_kind kind.Ac = refl

pub same_kind : (k j : Kind) → kind_number k ≡ kind_number j → k ≡ j
same_kind k j e = let both : Some k ≡ Some j = sym (listed_kind k) ∙ ap kind_of e ∙ listed_kind j in cc

-- a frame was made of these fields
pub record OfFields (f : Frame) (k a v : ℕ) : Type 0 where
  pub kind_is : kind_number f.kind ≡ k
  pub a_is : f.a ≡ a
  pub v_is : f.v ≡ v

of_kind : (k : Kind) (n : ℕ) → kind_of n ≡ Some k → kind_number k ≡ n
of_kind k n e = grind (arith, nat_tests)

of_checked : (k : Kind) (n a v : ℕ) (f : Frame) → kind_number k ≡ n → checked k a v ≡ Ok f → OfFields f n a v
of_checked k n a v f num e =
    let same : record { kind = k; a = a; v = v } ≡ f = grind (arith, nat_tests) in
    record { kind_is = ap (λ (x : Frame). kind_number x.kind) (sym same) ∙ num; a_is = ap (λ (x : Frame). x.a) (sym same); v_is = ap (λ (x : Frame). x.v) (sym same) }

of_listed : (o : Option Kind) (n a v : ℕ) (f : Frame) → kind_of n ≡ o → listed o a v ≡ Ok f → OfFields f n a v
of_listed None n a v f o e = impossible (cc)
of_listed (Some k) n a v f o e = of_checked k n a v f (of_kind k n o) e

of_cond : (b : Bool) (n a v : ℕ) (f : Frame) → cond b (listed (kind_of n) a v) (Err refusal.NotAFrame) ≡ Ok f → OfFields f n a v
of_cond true n a v f e = of_listed (kind_of n) n a v f refl e
of_cond false n a v f e = impossible (cc)

-- a line's frame has the line's fields
pub of_line : (l : Line) (f : Frame) → decoded l ≡ Ok f → OfFields f (kind_field l) (a_field l) (v_field l)
unfolding decoded
of_line l f e = of_cond (is_frame l) (kind_field l) (a_field l) (v_field l) f e
