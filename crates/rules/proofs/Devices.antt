-- What a frame does to the devices.
use Rattle.std.proofs.Common.{◌≡◌, ℕ, ◌/◌, ◌<◌, Bool, true, false, cond, not, ◌&&◌, ◌⊎◌, is_ok, Ok, Err, Result, sym, refl, ap, ◌∙◌, subst, inl, inr, arith}
use Rattle.terms.specs.Limits.{page_size}
use Rattle.std.proofs.lemmas.Bool.Decides.{nat_tests}
use Rattle.std.proofs.lemmas.Bool.{cases_eq, cond-true, cond-false, cond_both}
use Rattle.terms.specs.declared.refusal.Refusal.{Refusal}
use Rattle.device.specs.Meaning.{Meaning, faded}
use Rattle.mapper.specs.Words.{split}
use Rattle.mapper.specs.Translation.{socket_number, stored}
use Rattle.registers.specs.States.{asleep}
use Rattle.mapper.specs.declared.word.Socket.{Socket}
use Rattle.mapper.specs.declared.word.Socket.TheVariants as socket
use Rattle.power.specs.Power.{outputs}
use Rattle.registers.specs.Registers.{bit}
use Rattle.frames.specs.Decode.{Frame}
use Rattle.rules.specs.Machine.{Machine, with_words, line, fell, settled}
use Rattle.rules.specs.Step.{done_as, outcome_as, step_if}
use Rattle.rules.specs.Refusals.{socket_at, place_at}
use Rattle.rules.specs.Bytes.{device_of}
use Rattle.frames.specs.declared.kind.Kind.{Kind}
use Rattle.frames.specs.declared.kind.Kind.TheVariants as kind
use Rattle.rules.proofs.Frames.{kind_number, same_kind}
use Rattle.rules.proofs.Signals.{cond_same}

-- a power loss, socket by socket
pub settled_device : (before : ℕ) (m : Machine) (s : Socket) → device_of (settled before m) s ≡ cond (fell before (outputs m.power) (socket_number s)) (faded (device_of m s)) (device_of m s)
settled_device before m socket.Ram = refl
settled_device before m socket.Rom = refl
settled_device before m socket.CardA = refl
settled_device before m socket.CardB = refl

same_devices : (m n : Machine) (s : Socket) → n.ram ≡ m.ram → n.rom ≡ m.rom → n.card_a ≡ m.card_a → n.card_b ≡ m.card_b → device_of n s ≡ device_of m s
same_devices m n socket.Ram p q r t = p
same_devices m n socket.Rom p q r t = q
same_devices m n socket.CardA p q r t = r
same_devices m n socket.CardB p q r t = t

-- only a CPU write changes a device, but for power losses
pub devices_as : (k : Kind) (a v : ℕ) (m : Machine) (s : Socket) → (k ≡ kind.CpuWrite → ⊥) → device_of (done_as k a v m) s ≡ device_of m s
devices_as kind.Reset a v m s n = same_devices m (done_as kind.Reset a v m) s refl refl refl refl
devices_as kind.RegisterWrite a v m s n = same_devices m (done_as kind.RegisterWrite a v m) s refl refl refl refl
devices_as kind.RegisterRead a v m s n = same_devices m (done_as kind.RegisterRead a v m) s refl refl refl refl
devices_as kind.PageWrite a v m s n =
    cond_same (λ (x : Machine). device_of x s) (asleep m.power.state) m (with_words (stored m.words a v) m) (device_of m s) refl
    (same_devices m (with_words (stored m.words a v) m) s refl refl refl refl)
devices_as kind.PageRead a v m s n = refl
devices_as kind.CpuWrite a v m s n = absurd (n refl)
devices_as kind.CpuRead a v m s n = refl
devices_as kind.Tick a v m s n = same_devices m (done_as kind.Tick a v m) s refl refl refl refl
devices_as kind.Activity a v m s n = same_devices m (done_as kind.Activity a v m) s refl refl refl refl
devices_as kind.Ext a v m s n = same_devices m (done_as kind.Ext a v m) s refl refl refl refl
devices_as kind.Ring a v m s n = same_devices m (done_as kind.Ring a v m) s refl refl refl refl
devices_as kind.Alarm a v m s n = same_devices m (done_as kind.Alarm a v m) s refl refl refl refl
devices_as kind.Battery a v m s n = same_devices m (done_as kind.Battery a v m) s refl refl refl refl
devices_as kind.Ac a v m s n = same_devices m (done_as kind.Ac a v m) s refl refl refl refl

-- a CPU write changes no output
pub cpu_outputs : (a v : ℕ) (m : Machine) → outputs (done_as kind.CpuWrite a v m).power ≡ outputs m.power
cpu_outputs a v m = grind (arith, nat_tests)

-- a CPU write that is taken sets the place that its address leads to
pub cpu_sets : (a v : ℕ) (m : Machine) (s : Socket) (p : ℕ) → is_ok (outcome_as kind.CpuWrite a v m) ≡ true → (split (m.words (a / page_size))).mapped ≡ true → socket_at m a ≡ socket_number s → place_at m a ≡ p
    → (device_of (done_as kind.CpuWrite a v m) s).byte p ≡ v
cpu_sets a v m socket.Ram p ok mapped at_socket at_place = grind (arith, nat_tests)
cpu_sets a v m socket.Rom p ok mapped at_socket at_place = grind (arith, nat_tests)
cpu_sets a v m socket.CardA p ok mapped at_socket at_place = grind (arith, nat_tests)
cpu_sets a v m socket.CardB p ok mapped at_socket at_place = grind (arith, nat_tests)

-- and leaves every other
abbrev Leaves : ℕ → ℕ → Machine → Socket → ℕ → Type 0
Leaves a v m s p =
    (is_ok (outcome_as kind.CpuWrite a v m) ≡ true → (split (m.words (a / page_size))).mapped ≡ true → socket_at m a ≡ socket_number s → place_at m a ≡ p → ⊥)
    → (device_of (done_as kind.CpuWrite a v m) s).byte p ≡ (device_of m s).byte p

leaves_ram : (a v : ℕ) (m : Machine) (p : ℕ) → Leaves a v m socket.Ram p
leaves_ram a v m p none = grind (arith, nat_tests)

leaves_rom : (a v : ℕ) (m : Machine) (p : ℕ) → Leaves a v m socket.Rom p
leaves_rom a v m p none = grind (arith, nat_tests)

leaves_card_a : (a v : ℕ) (m : Machine) (p : ℕ) → Leaves a v m socket.CardA p
leaves_card_a a v m p none = grind (arith, nat_tests)

leaves_card_b : (a v : ℕ) (m : Machine) (p : ℕ) → Leaves a v m socket.CardB p
leaves_card_b a v m p none = grind (arith, nat_tests)

pub cpu_leaves : (a v : ℕ) (m : Machine) (s : Socket) (p : ℕ) → Leaves a v m s p
cpu_leaves a v m socket.Ram p = leaves_ram a v m p
cpu_leaves a v m socket.Rom p = leaves_rom a v m p
cpu_leaves a v m socket.CardA p = leaves_card_a a v m p
cpu_leaves a v m socket.CardB p = leaves_card_b a v m p

-- what of a device no frame changes
pub record Shape : Type 0 where
  pub size : ℕ
  pub writable : ℕ → Bool
  pub keeps : ℕ → Bool

abbrev pub shape : Meaning → Shape
shape d = record { size = d.size; writable = d.writable; keeps = d.keeps }

shape_ram : (a v : ℕ) (m : Machine) → shape (done_as kind.CpuWrite a v m).ram ≡ shape m.ram
shape_ram a v m = grind (arith, nat_tests)

shape_rom : (a v : ℕ) (m : Machine) → shape (done_as kind.CpuWrite a v m).rom ≡ shape m.rom
shape_rom a v m = grind (arith, nat_tests)

shape_card_a : (a v : ℕ) (m : Machine) → shape (done_as kind.CpuWrite a v m).card_a ≡ shape m.card_a
shape_card_a a v m = grind (arith, nat_tests)

shape_card_b : (a v : ℕ) (m : Machine) → shape (done_as kind.CpuWrite a v m).card_b ≡ shape m.card_b
shape_card_b a v m = grind (arith, nat_tests)

cpu_shape : (a v : ℕ) (m : Machine) (s : Socket) → shape (device_of (done_as kind.CpuWrite a v m) s) ≡ shape (device_of m s)
cpu_shape a v m socket.Ram = shape_ram a v m
cpu_shape a v m socket.Rom = shape_rom a v m
cpu_shape a v m socket.CardA = shape_card_a a v m
cpu_shape a v m socket.CardB = shape_card_b a v m

-- a kind is that of CPU writes or it is not
pub is_cpu_write : (k : Kind) → (k ≡ kind.CpuWrite) ⊎ (k ≡ kind.CpuWrite → ⊥)
is_cpu_write k =
    elim (cases_eq (kind_number k) 0x05) [
      | inl e ↦ inl (same_kind k kind.CpuWrite e)
      | inr n ↦ inr (λ e. n (ap kind_number e))
    ]

shape_as : (k : Kind) (a v : ℕ) (m : Machine) (s : Socket) → shape (device_of (done_as k a v m) s) ≡ shape (device_of m s)
shape_as k a v m s =
    elim (is_cpu_write k) [
      | inl e ↦ subst (λ (x : Kind). shape (device_of (done_as x a v m) s) ≡ shape (device_of m s)) (sym e) (cpu_shape a v m s)
      | inr n ↦ ap shape (devices_as k a v m s n)
    ]

pub shape_if : (d : Result Frame Refusal) (m : Machine) (s : Socket) → shape (device_of (step_if d m) s) ≡ shape (device_of m s)
shape_if (Err r) m s = refl
shape_if (Ok f) m s =
    let n = done_as f.kind f.a f.v m in
    ap shape (settled_device (outputs m.power) n s)
    ∙ cond_same shape (fell (outputs m.power) (outputs n.power) (socket_number s)) (faded (device_of n s)) (device_of n s) (shape (device_of m s)) (shape_as f.kind f.a f.v m s) (shape_as f.kind f.a f.v m s)

-- no line falls where the outputs stay
same_fell : (x y s : ℕ) → y ≡ x → fell x y s ≡ false
same_fell x y s e = ap (λ n. fell x n s) e ∙ itself (bit (line s) x)
  where
    itself : (b : Bool) → (b && not b) ≡ false
    itself true = refl
    itself false = refl

-- after a CPU write nothing is lost
pub cpu_settled : (a v : ℕ) (m : Machine) (s : Socket) → device_of (settled (outputs m.power) (done_as kind.CpuWrite a v m)) s ≡ device_of (done_as kind.CpuWrite a v m) s
cpu_settled a v m s =
    let n = done_as kind.CpuWrite a v m in
    settled_device (outputs m.power) n s
    ∙ cond-false (fell (outputs m.power) (outputs n.power) (socket_number s)) (faded (device_of n s)) (device_of n s) (same_fell (outputs m.power) (outputs n.power) (socket_number s) (cpu_outputs a v m))

faded_lost : (d : Meaning) (p : ℕ) → p < d.size → d.keeps p ≡ false → (faded d).byte p ≡ 0xFF
faded_lost d p h k = grind (arith, nat_tests)

faded_kept : (d : Meaning) (p : ℕ) → (p < d.size → d.keeps p ≡ false → ⊥) → (faded d).byte p ≡ d.byte p
faded_kept d p none = grind (arith, nat_tests)

-- where the line fell, a volatile place is FFh
pub lost : (k : Kind) (a v : ℕ) (m : Machine) (s : Socket) (p : ℕ) → (k ≡ kind.CpuWrite → ⊥) → fell (outputs m.power) (outputs (done_as k a v m).power) (socket_number s) ≡ true
    → p < (device_of m s).size → (device_of m s).keeps p ≡ false → (device_of (settled (outputs m.power) (done_as k a v m)) s).byte p ≡ 0xFF
lost k a v m s p n down h volatile =
    let after = done_as k a v m in
    ap (λ (x : Meaning). x.byte p) (settled_device (outputs m.power) after s)
    ∙ ap (λ (x : Meaning). x.byte p) (cond-true (fell (outputs m.power) (outputs after.power) (socket_number s)) (faded (device_of after s)) (device_of after s) down)
    ∙ ap (λ (x : Meaning). (faded x).byte p) (devices_as k a v m s n)
    ∙ faded_lost (device_of m s) p h volatile

-- and any other place stays
pub kept : (k : Kind) (a v : ℕ) (m : Machine) (s : Socket) (p : ℕ) → (k ≡ kind.CpuWrite → ⊥)
    → (fell (outputs m.power) (outputs (done_as k a v m).power) (socket_number s) ≡ true → p < (device_of m s).size → (device_of m s).keeps p ≡ false → ⊥)
    → (device_of (settled (outputs m.power) (done_as k a v m)) s).byte p ≡ (device_of m s).byte p
kept k a v m s p n none =
    let after = done_as k a v m in
    let down = fell (outputs m.power) (outputs after.power) (socket_number s) in
    ap (λ (x : Meaning). x.byte p) (settled_device (outputs m.power) after s)
    ∙ cond_both down (faded (device_of after s)) (device_of after s) (λ (x : Meaning). x.byte p ≡ (device_of m s).byte p)
    (λ e. ap (λ (x : Meaning). (faded x).byte p) (devices_as k a v m s n) ∙ faded_kept (device_of m s) p (none e))
    (λ e. ap (λ (x : Meaning). x.byte p) (devices_as k a v m s n))
