-- What a byte is over every list of lines.
use Rattle.std.proofs.Common.{◌≡◌, ℕ, ◌<◌, true, false, not, List, [], ◌∷◌, ◌++◌, is_ok, Ok, Err, Result, sym, refl, ap, ◌∙◌, subst, inl, inr}
use Rattle.std.proofs.lemmas.List.{append-nil}
use Rattle.std.proofs.lemmas.Bool.{and_from, and_parts, both_ways, not-true, not_from_false}
use Rattle.terms.specs.declared.refusal.Refusal.{Refusal}
use Rattle.device.specs.Meaning.{Meaning}
use Rattle.mapper.specs.Translation.{socket_number}
use Rattle.mapper.specs.declared.word.Socket.{Socket}
use Rattle.power.specs.Power.{outputs}
use Rattle.registers.specs.Registers.{bit}
use Rattle.frames.specs.Lines.{Line, kind_field, a_field, v_field}
use Rattle.frames.specs.Decode.{Frame, decoded}
use Rattle.rules.specs.Machine.{Machine, line, powered, settled}
use Rattle.rules.specs.Step.{outcome, outcome_as, outcome_if, step, step_if, done_as, after}
use Rattle.rules.specs.Bytes.{device_of, Leads, Writes, Loses, Sets, by_write, by_loss, Untouched, ByteLaw, SameShape}
use Rattle.frames.specs.declared.kind.Kind.{Kind}
use Rattle.frames.specs.declared.kind.Kind.TheVariants as kind
use Rattle.rules.proofs.Press.{impossible}
use Rattle.rules.proofs.Frames.{kind_number, same_kind, OfFields, of_line}
use Rattle.rules.proofs.Devices.{is_cpu_write, cpu_settled, cpu_sets, cpu_leaves, cpu_outputs, lost, kept, Shape, shape, shape_if}

write_as : (k : Kind) (a v : ℕ) (m : Machine) (s : Socket) (p : ℕ) → k ≡ kind.CpuWrite → is_ok (outcome_as k a v m) ≡ true → Leads m a s p
    → (device_of (settled (outputs m.power) (done_as k a v m)) s).byte p ≡ v
write_as k a v m s p e ok leads =
    subst (λ (x : Kind). is_ok (outcome_as x a v m) ≡ true → (device_of (settled (outputs m.power) (done_as x a v m)) s).byte p ≡ v) (sym e)
    (λ yes_ok. ap (λ (x : Meaning). x.byte p) (cpu_settled a v m s) ∙ cpu_sets a v m s p yes_ok leads.mapped leads.socket leads.place) ok

write_if : (d : Result Frame Refusal) (m : Machine) (s : Socket) (p k a v : ℕ) → ((f : Frame) → d ≡ Ok f → OfFields f k a v) → is_ok (outcome_if d m) ≡ true → k ≡ 0x05 → Leads m a s p
    → (device_of (step_if d m) s).byte p ≡ v
write_if (Err r) m s p k a v of ok five_it leads = impossible (cc)
write_if (Ok f) m s p k a v of ok five_it leads =
    let o = of f refl in
    write_as f.kind f.a f.v m s p (same_kind f.kind kind.CpuWrite (o.kind_is ∙ five_it)) ok (subst (λ (x : ℕ). Leads m x s p) (sym o.a_is) leads) ∙ o.v_is

set_write : (m : Machine) (l : Line) (s : Socket) (p b : ℕ) → Writes m l s p b → (device_of (step m l) s).byte p ≡ b
unfolding step outcome
set_write m l s p b w = write_if (decoded l) m s p (kind_field l) (a_field l) (v_field l) (of_line l) w.taken w.kind w.leads ∙ w.value

-- a CPU write lowers no power line
cpu_powered : (a v : ℕ) (m : Machine) (s : Socket) → powered (done_as kind.CpuWrite a v m).power (socket_number s) ≡ powered m.power (socket_number s)
cpu_powered a v m s = ap (bit (line (socket_number s))) (cpu_outputs a v m)

loss_as : (k : Kind) (a v : ℕ) (m : Machine) (s : Socket) (p : ℕ) → powered m.power (socket_number s) ≡ true → powered (done_as k a v m).power (socket_number s) ≡ false
    → p < (device_of m s).size → (device_of m s).keeps p ≡ false → (device_of (settled (outputs m.power) (done_as k a v m)) s).byte p ≡ 0xFF
loss_as k a v m s p before down h volatile =
    elim (is_cpu_write k) [
      | inl e ↦
          absurd (both_ways (powered m.power (socket_number s))
          (sym (cpu_powered a v m s) ∙ subst (λ (x : Kind). powered (done_as x a v m).power (socket_number s) ≡ false) e down) before)
      | inr n ↦
          lost k a v m s p n
          (and_from (powered m.power (socket_number s)) (not (powered (done_as k a v m).power (socket_number s))) before (not_from_false (powered (done_as k a v m).power (socket_number s)) down))
          h volatile
    ]

loss_if : (d : Result Frame Refusal) (m : Machine) (s : Socket) (p : ℕ) → powered m.power (socket_number s) ≡ true → powered (step_if d m).power (socket_number s) ≡ false
    → p < (device_of m s).size → (device_of m s).keeps p ≡ false → (device_of (step_if d m) s).byte p ≡ 0xFF
loss_if (Err r) m s p before down h volatile = absurd (both_ways (powered m.power (socket_number s)) down before)
loss_if (Ok f) m s p before down h volatile = loss_as f.kind f.a f.v m s p before down h volatile

set_loss : (m : Machine) (l : Line) (s : Socket) (p b : ℕ) → Loses m l s p b → (device_of (step m l) s).byte p ≡ b
unfolding step
set_loss m l s p b w = loss_if (decoded l) m s p w.before w.after_it w.exists w.volatile ∙ sym w.value

set_step : (m : Machine) (l : Line) (s : Socket) (p b : ℕ) → Sets m l s p b → (device_of (step m l) s).byte p ≡ b
set_step m l s p b (by_write w) = set_write m l s p b w
set_step m l s p b (by_loss w) = set_loss m l s p b w

keep_as : (k : Kind) (a v : ℕ) (m : Machine) (s : Socket) (p : ℕ)
    → (k ≡ kind.CpuWrite → is_ok (outcome_as k a v m) ≡ true → Leads m a s p → ⊥)
    → (powered m.power (socket_number s) ≡ true → powered (done_as k a v m).power (socket_number s) ≡ false → p < (device_of m s).size → (device_of m s).keeps p ≡ false → ⊥)
    → (device_of (settled (outputs m.power) (done_as k a v m)) s).byte p ≡ (device_of m s).byte p
keep_as k a v m s p no_write no_loss =
    elim (is_cpu_write k) [
      | inl e ↦
          subst (λ (x : Kind). (x ≡ kind.CpuWrite → is_ok (outcome_as x a v m) ≡ true → Leads m a s p → ⊥) → (device_of (settled (outputs m.power) (done_as x a v m)) s).byte p ≡ (device_of m s).byte p) (sym e)
          (λ none. ap (λ (x : Meaning). x.byte p) (cpu_settled a v m s) ∙ cpu_leaves a v m s p (λ ok mapped at_socket at_place. none refl ok (record { mapped = mapped; socket = at_socket; place = at_place })))
          no_write
      | inr n ↦
          kept k a v m s p n (λ down h volatile.
          let q = and_parts (powered m.power (socket_number s)) (not (powered (done_as k a v m).power (socket_number s))) down in
          no_loss q.0 (not-true (powered (done_as k a v m).power (socket_number s)) q.1) h volatile)
    ]

keep_if : (d : Result Frame Refusal) (m : Machine) (s : Socket) (p k a v : ℕ) → ((f : Frame) → d ≡ Ok f → OfFields f k a v)
    → (is_ok (outcome_if d m) ≡ true → k ≡ 0x05 → Leads m a s p → ⊥)
    → (powered m.power (socket_number s) ≡ true → powered (step_if d m).power (socket_number s) ≡ false → p < (device_of m s).size → (device_of m s).keeps p ≡ false → ⊥)
    → (device_of (step_if d m) s).byte p ≡ (device_of m s).byte p
keep_if (Err r) m s p k a v of no_write no_loss = refl
keep_if (Ok f) m s p k a v of no_write no_loss =
    let o = of f refl in
    keep_as f.kind f.a f.v m s p (λ e ok leads. no_write ok (sym o.kind_is ∙ ap kind_number e) (subst (λ (x : ℕ). Leads m x s p) o.a_is leads)) no_loss

keep_step : (m : Machine) (l : Line) (s : Socket) (p : ℕ) → ((b : ℕ) → Sets m l s p b → ⊥) → (device_of (step m l) s).byte p ≡ (device_of m s).byte p
unfolding step outcome
keep_step m l s p none =
    keep_if (decoded l) m s p (kind_field l) (a_field l) (v_field l) (of_line l)
    (λ ok five_it leads. none (v_field l) (by_write (record { taken = ok; kind = five_it; leads = leads; value = refl })))
    (λ before down h volatile. none 0xFF (by_loss (record { before = before; after_it = down; exists = h; volatile = volatile; value = refl })))

still : (first : Machine) (newer older : List Line) (s : Socket) (p : ℕ) → Untouched first newer older s p → (device_of (after first (newer ++ older)) s).byte p ≡ (device_of (after first older) s).byte p
still first [] older s p u = refl
still first (l ∷ newer) older s p u = keep_step (after first (newer ++ older)) l s p u.0 ∙ still first newer older s p u.1

pub byte_law : (first : Machine) (ls : List Line) (s : Socket) (p : ℕ) → ByteLaw first ls (after first ls) s p
byte_law first ls s p = record {
  set_last = λ newer older l b split sets untouched.
      ap (λ (x : List Line). (device_of (after first x) s).byte p) split
      ∙ still first newer (l ∷ older) s p untouched
      ∙ set_step (after first older) l s p b sets;
  never_set = λ u.
      ap (λ (x : List Line). (device_of (after first x) s).byte p) (sym (append-nil ls)) ∙ still first ls [] s p u;
}

shape_step : (m : Machine) (l : Line) (s : Socket) → shape (device_of (step m l) s) ≡ shape (device_of m s)
unfolding step
shape_step m l s = shape_if (decoded l) m s

shape_after : (first : Machine) (ls : List Line) (s : Socket) → shape (device_of (after first ls) s) ≡ shape (device_of first s)
shape_after first [] s = refl
shape_after first (l ∷ ls) s = shape_step (after first ls) l s ∙ shape_after first ls s

pub same_shape : (first : Machine) (ls : List Line) (s : Socket) → SameShape first (after first ls) s
same_shape first ls s =
    let e = shape_after first ls s in
    record { size = ap (λ (x : Shape). x.size) e; writable = ap (λ (x : Shape). x.writable) e; keeps = ap (λ (x : Shape). x.keeps) e }
