-- When the processor's reads and writes are taken, and what a refused line leaves.
use Rattle.std.proofs.Common.{◌≡◌, ℕ, ◌/◌, ◌<◌, Bool, true, false, cond, not, ◌&&◌, eqb, is_ok, Some, None, Ok, Err, Option, Result, sym, refl, ap, ◌∙◌, subst, inl, inr, arith}
use mathlib.Core.Path.{fun_ext}
use Rattle.std.proofs.lemmas.Bool.Decides.{nat_tests}
use Rattle.std.proofs.lemmas.Nat.{mod_below}
use Rattle.std.proofs.lemmas.Bool.{cases_eq, cond-true, cond-false, cond_both, cases_Bool, ltb-true, lt-ltb, both_ways}
use Rattle.terms.specs.Limits.{page_size}
use Rattle.terms.specs.declared.refusal.Refusal.{Refusal}
use Rattle.terms.specs.declared.refusal.Refusal.TheVariants as refusal
use Rattle.device.specs.Meaning.{Meaning, exists, is_open, written}
use Rattle.mapper.specs.Words.{split}
use Rattle.mapper.specs.Translation.{Target, leads, stored, socket_number}
use Rattle.mapper.specs.declared.word.Socket.{Socket}
use Rattle.mapper.specs.declared.word.Socket.TheVariants as socket
use Rattle.registers.specs.States.{asleep}
use Rattle.power.specs.Power.{Power, outputs, put}
use Rattle.power.specs.Commands.{read_answer, read_done, write_answer, write_done, stores}
use Rattle.registers.specs.Registers.{bit}
use Rattle.power.specs.Causes.{raised, noted, violated}
use Rattle.power.specs.declared.cause.Cause.TheVariants as cause
use Rattle.frames.specs.Lines.{Line, is_frame, kind_field, a_field, v_field}
use Rattle.frames.specs.Kinds.{kind_of}
use Rattle.frames.specs.Decode.{Frame, listed, decoded}
use Rattle.rules.specs.Machine.{Machine, with_power, with_words, device, with_device, line, powered, settled}
use Rattle.rules.specs.Step.{outcome, outcome_as, outcome_if, step, step_if, done_as, no_value, awake_only}
use Rattle.rules.specs.Access as access
use Rattle.rules.specs.Access.{is_violation, write_target, written_target, cpu_read, cpu_write, cpu_written}
use Rattle.rules.specs.Refusals.{socket_at, place_at, refused_with, unused_not_zero, value_above, index_above}
use Rattle.rules.specs.Bytes.{device_of, Leads, ReadLaw, WriteLaw, RefusedLaw}
use Rattle.frames.specs.declared.kind.Kind.{Kind}
use Rattle.frames.specs.declared.kind.Kind.TheVariants as kind
use Rattle.rules.proofs.Press.{impossible}
use Rattle.rules.proofs.Frames.{same_kind, OfFields, of_line}
use Rattle.rules.proofs.Rows.{judged, judged_is}

-- the device of a socket by its number
device_is : (m : Machine) (s : Socket) → device m (socket_number s) ≡ device_of m s
device_is m socket.Ram = refl
device_is m socket.Rom = refl
device_is m socket.CardA = refl
device_is m socket.CardB = refl

-- every number that a page word names is a socket's
pub record IsSocket (n : ℕ) : Type 0 where
  pub which : Socket
  pub number : n ≡ socket_number which

is_socket : (n : ℕ) → n < 4 → IsSocket n
is_socket n h =
    elim (cases_eq n 0) [
      | inl e ↦ record { which = socket.Ram; number = e }
      | inr n0 ↦ elim (cases_eq n 1) [
        | inl e ↦ record { which = socket.Rom; number = e }
        | inr n1 ↦ elim (cases_eq n 2) [
          | inl e ↦ record { which = socket.CardA; number = e }
          | inr n2 ↦ record { which = socket.CardB; number = omega arith }
        ]
      ]
    ]

socket_of : (m : Machine) (a : ℕ) → IsSocket (socket_at m a)
socket_of m a = is_socket (socket_at m a) (mod_below (m.words (a / page_size) / 0x1000) 4 (omega arith))

-- a taken CPU read
read_number : (m : Machine) (a v value : ℕ) → outcome_as kind.CpuRead a v m ≡ Ok value → (split (m.words (a / page_size))).mapped ≡ true
    → value ≡ (device m (socket_at m a)).byte (place_at m a)
read_number m a v value e mapped = grind (arith, nat_tests)

read_as : (k : Kind) (m : Machine) (a v value : ℕ) → k ≡ kind.CpuRead → outcome_as k a v m ≡ Ok value → (s : Socket) (p : ℕ) → Leads m a s p → value ≡ (device_of m s).byte p
read_as k m a v value e ok s p leads =
    read_number m a v value (subst (λ (x : Kind). outcome_as x a v m ≡ Ok value) e ok) leads.mapped
    ∙ ap (λ n. (device m n).byte (place_at m a)) leads.socket
    ∙ ap (λ (d : Meaning). d.byte (place_at m a)) (device_is m s)
    ∙ ap (device_of m s).byte leads.place

read_if : (d : Result Frame Refusal) (m : Machine) (k a v value : ℕ) → ((f : Frame) → d ≡ Ok f → OfFields f k a v) → outcome_if d m ≡ Ok value → k ≡ 0x06 → (s : Socket) (p : ℕ) → Leads m a s p → value ≡ (device_of m s).byte p
read_if (Err r) m k a v value of e is_six s p leads = impossible (cc)
read_if (Ok f) m k a v value of e is_six s p leads =
    let o = of f refl in
    read_as f.kind m f.a f.v value (same_kind f.kind kind.CpuRead (o.kind_is ∙ is_six)) e s p (subst (λ (x : ℕ). Leads m x s p) (sym o.a_is) leads)

pub read_law : (m : Machine) (l : Line) (value : ℕ) → outcome m l ≡ Ok value → ReadLaw m l value
unfolding outcome
read_law m l value e is_six s p leads = read_if (decoded l) m (kind_field l) (a_field l) (v_field l) value (of_line l) e is_six s p leads

-- a CPU write of which no row of form fits, by the other rows
record Free (m : Machine) (a : ℕ) : Type 0 where
  awake : asleep m.power.state ≡ false
  mapped : (split (m.words (a / page_size))).mapped ≡ true
  not_read_only : (split (m.words (a / page_size))).readonly ≡ false
  has_power : powered m.power (socket_at m a) ≡ true
  there : exists (device m (socket_at m a)) (place_at m a) ≡ true
  writable : (device m (socket_at m a)).writable (place_at m a) ≡ true

free_from : (m : Machine) (a v : ℕ) → judged m 0x05 a v ≡ None → Free m a
free_from m a v e = record {
  awake = grind (arith, nat_tests);
  mapped = grind (arith, nat_tests);
  not_read_only = grind (arith, nat_tests);
  has_power = grind (arith, nat_tests);
  there = grind (arith, nat_tests);
  writable = grind (arith, nat_tests);
}

free_to : (m : Machine) (a v : ℕ) → unused_not_zero 0x05 a v ≡ false → value_above 0x05 a v ≡ false → index_above 0x05 a ≡ false → Free m a → judged m 0x05 a v ≡ None
free_to m a v u w x free = grind (arith, nat_tests)

ok_none : (r : Result ℕ Refusal) → is_ok r ≡ true → refused_with r ≡ None
ok_none (Ok v) e = refl
ok_none (Err r) e = impossible (cc)

none_ok : (r : Result ℕ Refusal) → refused_with r ≡ None → is_ok r ≡ true
none_ok (Ok v) e = refl
none_ok (Err r) e = impossible (cc)

pub write_law : (m : Machine) (l : Line) → WriteLaw m l
write_law m l = record {
  only = λ is_five wf ok.
      let a = a_field l in
      let none = subst (λ (k : ℕ). judged m k a (v_field l) ≡ None) is_five (sym (judged_is m l wf.frame) ∙ ok_none (outcome m l) ok) in
      let free = free_from m a (v_field l) none in
      let s = socket_of m a in
      let same : device m (socket_at m a) ≡ device_of m s.which = ap (device m) s.number ∙ device_is m s.which in (
        s.which,
        record {
          awake = free.awake;
          leads = record { mapped = free.mapped; socket = s.number; place = refl };
          not_read_only = free.not_read_only;
          has_power = ap (powered m.power) (sym s.number) ∙ free.has_power;
          exists = ltb-true (place_at m a) (device_of m s.which).size (ap (λ (d : Meaning). exists d (place_at m a)) (sym same) ∙ free.there);
          writable = ap (λ (d : Meaning). d.writable (place_at m a)) (sym same) ∙ free.writable;
        },
      );
  always = λ is_five wf s allowed.
      let a = a_field l in
      let v = v_field l in
      let at = allowed.leads.socket in
      let same : device m (socket_at m a) ≡ device_of m s = ap (device m) at ∙ device_is m s in
      let free : Free m a = record {
        awake = allowed.awake;
        mapped = allowed.leads.mapped;
        not_read_only = allowed.not_read_only;
        has_power = ap (powered m.power) at ∙ allowed.has_power;
        there = ap (λ (d : Meaning). exists d (place_at m a)) same ∙ lt-ltb (place_at m a) (device_of m s).size allowed.exists;
        writable = ap (λ (d : Meaning). d.writable (place_at m a)) same ∙ allowed.writable;
      } in
      none_ok (outcome m l)
      (judged_is m l wf.frame
      ∙ ap (λ k. judged m k a v) is_five
      ∙ free_to m a v
      (subst (λ (k : ℕ). unused_not_zero k a v ≡ false) is_five wf.unused_zero)
      (subst (λ (k : ℕ). value_above k a v ≡ false) is_five wf.value_fits)
      (subst (λ (k : ℕ). index_above k a ≡ false) is_five wf.index_fits) free);
}

-- a machine by its devices
by_devices : (m : Machine) {p q r t : Meaning} → p ≡ m.ram → q ≡ m.rom → r ≡ m.card_a → t ≡ m.card_b
    → ◌≡◌ {A = Machine} (record { power = m.power; words = m.words; ram = p; rom = q; card_a = r; card_b = t }) m
by_devices m e f g h = λ i. record { power = m.power; words = m.words; ram = e i; rom = f i; card_a = g i; card_b = h i }

itself : (b : Bool) → (b && not b) ≡ false
itself true = refl
itself false = refl

-- nothing is lost where the outputs stay
settled_same : (m : Machine) → settled (outputs m.power) m ≡ m
settled_same m =
    let up = λ (s : ℕ). itself (bit (line s) (outputs m.power)) in
    by_devices m (cond-false _ _ _ (up 0)) (cond-false _ _ _ (up 1)) (cond-false _ _ _ (up 2)) (cond-false _ _ _ (up 3))

settled_when : (before : ℕ) (m : Machine) → outputs m.power ≡ before → settled before m ≡ m
settled_when before m e = subst (λ (b : ℕ). settled b m ≡ m) e (settled_same m)

-- a device put back where it was
with_own : (n : ℕ) (m : Machine) → with_device n (device m n) m ≡ m
with_own n m = by_devices m (grind (arith, nat_tests)) (grind (arith, nat_tests)) (grind (arith, nat_tests)) (grind (arith, nat_tests))

-- a write to a place that is not open leaves the device
closed_byte : (b : Bool) (v x : ℕ) → cond (b && false) v x ≡ x
closed_byte true v x = refl
closed_byte false v x = refl

written_closed : (d : Meaning) (p v : ℕ) → is_open d p ≡ false → written d p v ≡ d
written_closed d p v e =
    let byte = fun_ext (λ q. ap (λ t. cond (eqb q p && t) v (d.byte q)) e ∙ closed_byte (eqb q p) v (d.byte q)) in
    λ i. record { size = d.size; byte = byte i; writable = d.writable; keeps = d.keeps }

-- a refused write leaves the devices
target_refused : (m : Machine) (t : Target) (v : ℕ) (r : Refusal) → write_target m (Some t) ≡ Err r → written_target m (Some t) v ≡ m
target_refused m t v r e =
    cond_both (not t.readonly && powered m.power t.socket) (with_device t.socket (written (device m t.socket) t.place v) m) m (λ (x : Machine). x ≡ m)
    (λ through.
    let shut : is_open (device m t.socket) t.place ≡ false = grind (arith, nat_tests) in
    ap (λ (d : Meaning). with_device t.socket d m) (written_closed (device m t.socket) t.place v shut) ∙ with_own t.socket m)
    (λ n. refl)

write_refused : (m : Machine) (o : Option Target) (v : ℕ) (r : Refusal) → write_target m o ≡ Err r → written_target m o v ≡ m
write_refused m None v r e = refl
write_refused m (Some t) v r e = target_refused m t v r e

-- what is made of a refusal
abbrev pub noted_by : Refusal → ℕ → Machine → Machine
noted_by r a m = access.noted (Err r) a m

pub plain_refusal : (r : Refusal) (a : ℕ) (m : Machine) → is_violation r ≡ false → noted_by r a m ≡ m
plain_refusal r a m e = cond-false (is_violation r) (with_power (violated a m.power) m) m e

pub violation : (r : Refusal) (a : ℕ) (m : Machine) → is_violation r ≡ true → noted_by r a m ≡ with_power (violated a m.power) m
violation r a m e = cond-true (is_violation r) (with_power (violated a m.power) m) m e

pub no_value_err : (x : Result (Unit {0}) Refusal) (r : Refusal) → no_value x ≡ Err r → x ≡ Err r
no_value_err (Ok u) r e = impossible (cc)
no_value_err (Err q) r e = let same : q ≡ r = cc in ap (λ (z : Refusal). Err z) same

-- a refused CPU write, while awake
cpu_refused : (m : Machine) (a v : ℕ) (r : Refusal) → cpu_write m a ≡ Err r → cpu_written m a v ≡ noted_by r a m
cpu_refused m a v r e =
    ap (λ (x : Result (Unit {0}) Refusal). access.noted x a (written_target m (leads m.words a) v)) e
    ∙ ap (access.noted (Err r) a) (write_refused m (leads m.words a) v r e)

left_plain : (r : Refusal) (a : ℕ) (m n : Machine) → is_violation r ≡ false → n ≡ m → n ≡ noted_by r a m
left_plain r a m n plain same = same ∙ sym (plain_refusal r a m plain)

pub write_plain : (i v : ℕ) (u : Power) (r : Refusal) → write_answer i v u ≡ Err r → is_violation r ≡ false
write_plain i v u r e = grind (arith, nat_tests)

write_left : (i v : ℕ) (u : Power) (r : Refusal) → write_answer i v u ≡ Err r → write_done i v u ≡ u
write_left i v u r e = cond-false (is_ok (write_answer i v u)) (stores i v u) u (ap is_ok e)

pub read_plain : (i : ℕ) (u : Power) (r : Refusal) → read_answer i u ≡ Err r → is_violation r ≡ false
read_plain i u r e = grind (arith, nat_tests)

read_left : (i : ℕ) (u : Power) (r : Refusal) → read_answer i u ≡ Err r → read_done i u ≡ u
read_left i u r e =
    let z : (not (asleep u.state) && eqb i 0x05) ≡ false = grind (arith, nat_tests) in
    cond-false (not (asleep u.state) && eqb i 0x05) (put 0x05 0 u) u z

read_refusal : (m : Machine) (a : ℕ) (r : Refusal) → cpu_read m a ≡ Err r → is_violation r ≡ false
read_refusal m a r e = grind (arith, nat_tests)

pub asleep_only : {X : Type 0} (m : Machine) (x : X) (r : Refusal) → awake_only m (Ok x) ≡ Err r → (asleep m.power.state ≡ true) × (is_violation r ≡ false)
asleep_only m x r e =
    elim (cases_Bool (asleep m.power.state)) [
      | inl z ↦ (z, let same : Err refusal.Asleep ≡ Err r = sym (cond-true (asleep m.power.state) (Err refusal.Asleep) (Ok x) z) ∙ e in let q : refusal.Asleep ≡ r = cc in ap is_violation (sym q))
      | inr n ↦ impossible (let same : Ok x ≡ Err r = sym (cond-false (asleep m.power.state) (Err refusal.Asleep) (Ok x) n) ∙ e in cc)
    ]

pub refused_done : (k : Kind) (a v : ℕ) (m : Machine) (r : Refusal) → outcome_as k a v m ≡ Err r → done_as k a v m ≡ noted_by r a m
refused_done kind.Reset a v m r e = impossible (cc)
refused_done kind.RegisterWrite a v m r e =
    let w = no_value_err (write_answer a v m.power) r e in
    left_plain r a m (with_power (write_done a v m.power) m) (write_plain a v m.power r w) (ap (λ (u : Power). with_power u m) (write_left a v m.power r w))
refused_done kind.RegisterRead a v m r e =
    left_plain r a m (with_power (read_done a m.power) m) (read_plain a m.power r e) (ap (λ (u : Power). with_power u m) (read_left a m.power r e))
refused_done kind.PageWrite a v m r e =
    let z = asleep_only m 0 r e in
    left_plain r a m (done_as kind.PageWrite a v m) z.1 (cond-true (asleep m.power.state) m (with_words (stored m.words a v) m) z.0)
refused_done kind.PageRead a v m r e = left_plain r a m m (asleep_only m (m.words a) r e).1 refl
refused_done kind.CpuWrite a v m r e =
    let w = no_value_err (awake_only m (cpu_write m a)) r e in
    elim (cases_Bool (asleep m.power.state)) [
      | inl z ↦
          let same : Err refusal.Asleep ≡ Err r = sym (cond-true (asleep m.power.state) (Err refusal.Asleep) (cpu_write m a) z) ∙ w in
          let q : refusal.Asleep ≡ r = cc in
          left_plain r a m (done_as kind.CpuWrite a v m) (ap is_violation (sym q)) (cond-true (asleep m.power.state) m (cpu_written m a v) z)
      | inr n ↦
          cond-false (asleep m.power.state) m (cpu_written m a v) n
          ∙ cpu_refused m a v r (sym (cond-false (asleep m.power.state) (Err refusal.Asleep) (cpu_write m a) n) ∙ w)
    ]
refused_done kind.CpuRead a v m r e =
    elim (cases_Bool (asleep m.power.state)) [
      | inl z ↦
          let same : Err refusal.Asleep ≡ Err r = sym (cond-true (asleep m.power.state) (Err refusal.Asleep) (cpu_read m a) z) ∙ e in
          let q : refusal.Asleep ≡ r = cc in
          left_plain r a m m (ap is_violation (sym q)) refl
      | inr n ↦ left_plain r a m m (read_refusal m a r (sym (cond-false (asleep m.power.state) (Err refusal.Asleep) (cpu_read m a) n) ∙ e)) refl
    ]
refused_done kind.Tick a v m r e = impossible (cc)
refused_done kind.Activity a v m r e = impossible (cc)
refused_done kind.Ext a v m r e = impossible (cc)
refused_done kind.Ring a v m r e = impossible (cc)
refused_done kind.Alarm a v m r e = impossible (cc)
refused_done kind.Battery a v m r e = impossible (cc)
refused_done kind.Ac a v m r e = impossible (cc)

-- a violation happens only while awake
pub violated_awake : (a : ℕ) (u : Power) → asleep u.state ≡ false → violated a u ≡ raised cause.Violation (noted a u)
violated_awake a u z = cond-false (asleep u.state) u (raised cause.Violation (noted a u)) z

violation_outputs : (a : ℕ) (u : Power) → outputs (raised cause.Violation (noted a u)) ≡ outputs u
violation_outputs a u = grind (arith, nat_tests)

asleep_plain : (k : Kind) (a v : ℕ) (m : Machine) (r : Refusal) → asleep m.power.state ≡ true → outcome_as k a v m ≡ Err r → is_violation r ≡ false
asleep_plain kind.Reset a v m r z e = impossible (cc)
asleep_plain kind.RegisterWrite a v m r z e = write_plain a v m.power r (no_value_err (write_answer a v m.power) r e)
asleep_plain kind.RegisterRead a v m r z e = read_plain a m.power r e
asleep_plain kind.PageWrite a v m r z e = (asleep_only m 0 r e).1
asleep_plain kind.PageRead a v m r z e = (asleep_only m (m.words a) r e).1
asleep_plain kind.CpuWrite a v m r z e = grind (arith, nat_tests)
asleep_plain kind.CpuRead a v m r z e = grind (arith, nat_tests)
asleep_plain kind.Tick a v m r z e = impossible (cc)
asleep_plain kind.Activity a v m r z e = impossible (cc)
asleep_plain kind.Ext a v m r z e = impossible (cc)
asleep_plain kind.Ring a v m r z e = impossible (cc)
asleep_plain kind.Alarm a v m r z e = impossible (cc)
asleep_plain kind.Battery a v m r z e = impossible (cc)
asleep_plain kind.Ac a v m r z e = impossible (cc)

pub awake_violation : (k : Kind) (a v : ℕ) (m : Machine) (r : Refusal) → outcome_as k a v m ≡ Err r → is_violation r ≡ true → asleep m.power.state ≡ false
awake_violation k a v m r e noted_it =
    elim (cases_Bool (asleep m.power.state)) [
      | inl z ↦ absurd (both_ways (is_violation r) (asleep_plain k a v m r z e) noted_it)
      | inr n ↦ n
    ]

unchanged_if : (d : Result Frame Refusal) (m : Machine) (r : Refusal) → outcome_if d m ≡ Err r → is_violation r ≡ false → step_if d m ≡ m
unchanged_if (Err q) m r e plain = refl
unchanged_if (Ok f) m r e plain =
    ap (settled (outputs m.power)) (refused_done f.kind f.a f.v m r e ∙ plain_refusal r f.a m plain) ∙ settled_same m

violation_if : (d : Result Frame Refusal) (m : Machine) (k a v : ℕ) (r : Refusal) → ((f : Frame) → d ≡ Ok f → OfFields f k a v) → ((q : Refusal) → d ≡ Err q → is_violation q ≡ false) → outcome_if d m ≡ Err r → is_violation r ≡ true
    → step_if d m ≡ with_power (raised cause.Violation (noted a m.power)) m
violation_if (Err q) m k a v r of none e noted_it = absurd (both_ways (is_violation q) (none q refl) (let same : q ≡ r = cc in ap is_violation same ∙ noted_it))
violation_if (Ok f) m k a v r of none e noted_it =
    let u = raised cause.Violation (noted f.a m.power) in
    ap (settled (outputs m.power))
    (refused_done f.kind f.a f.v m r e
    ∙ violation r f.a m noted_it
    ∙ ap (λ (x : Power). with_power x m) (violated_awake f.a m.power (awake_violation f.kind f.a f.v m r e noted_it)))
    ∙ settled_when (outputs m.power) (with_power u m) (violation_outputs f.a m.power)
    ∙ ap (λ (x : ℕ). with_power (raised cause.Violation (noted x m.power)) m) (of f refl).a_is

listed_plain : (o : Option Kind) (a v : ℕ) (q : Refusal) → listed o a v ≡ Err q → is_violation q ≡ false
listed_plain None a v q e = let same : refusal.UnknownKind ≡ q = cc in ap is_violation (sym same)
listed_plain (Some k) a v q e = grind (arith, nat_tests)

-- a line that is no well-formed frame is no violation
form_plain : (b : Bool) (k : ℕ) (a v : ℕ) (q : Refusal) → cond b (listed (kind_of k) a v) (Err refusal.NotAFrame) ≡ Err q → is_violation q ≡ false
form_plain true k a v q e = listed_plain (kind_of k) a v q e
form_plain false k a v q e = let same : refusal.NotAFrame ≡ q = cc in ap is_violation (sym same)

pub decoded_plain : (l : Line) (q : Refusal) → decoded l ≡ Err q → is_violation q ≡ false
unfolding decoded
decoded_plain l q e = form_plain (is_frame l) (kind_field l) (a_field l) (v_field l) q e

pub refused_law : (m : Machine) (l : Line) → RefusedLaw m l (step m l)
unfolding step outcome
refused_law m l = record {
  unchanged = unchanged_if (decoded l) m;
  noted_only = λ r e noted_it. violation_if (decoded l) m (kind_field l) (a_field l) (v_field l) r (of_line l) (decoded_plain l) e noted_it;
}
