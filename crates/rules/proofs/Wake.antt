-- What ends Suspend and Off is what the list of lines says.
use Rattle.std.proofs.Common.{◌≡◌, ◌+◌, ◌%◌, ◌<◌, Bool, true, false, cond, not, ◌&&◌, eqb, ltb, leb, List, [], ◌∷◌, ◌++◌, Ok, Err, Result, sym, refl, ap, ◌∙◌, subst, inl, inr, arith}
use Rattle.std.proofs.lemmas.Bool.Decides.{nat_tests}
use Rattle.std.proofs.lemmas.Bool.{cases_Bool, both_ways, and_parts, and_from, not_from_false, not-true, eqb-true, ltb-true, leb-true, lt-ltb, le-leb, eq-eqb, cond-true, cond-false}
use Rattle.terms.specs.declared.refusal.Refusal.{Refusal}
use Rattle.registers.specs.States.{asleep}
use Rattle.power.specs.Power.{Power, cause, ring_count}
use Rattle.registers.specs.declared.state.State.{State}
use Rattle.registers.specs.declared.state.State.TheVariants.{On}
use Rattle.frames.specs.Lines.{Line}
use Rattle.frames.specs.Decode.{Frame, decoded}
use Rattle.rules.specs.Machine.{Machine}
use Rattle.rules.specs.Step.{step, step_if, after}
use Rattle.rules.specs.Signals as sig
use Rattle.rules.specs.Signals.{Input, Signal, signal_if, signal, signals, level, Rises, Settled, CleanPress}
use Rattle.rules.specs.Waking.{asleep_at, Entry, AsleepThrough, raises, ring_rises, Wakes, by_reset, by_press, by_ring, by_alarm, WakeLaw}
use Rattle.rules.proofs.Signals.{Inputs, inputs, inputs_after, inputs_agree, level_agrees, signal_is}
use Rattle.rules.proofs.Press.{impossible, settled_low, low_settled}
use Rattle.rules.proofs.Sleeping.{wakes_by, state_as, rings_by, edges_as, wake_as, entry_as}

-- the same of a line, decoded or not
state_if : (d : Result Frame Refusal) (m : Machine) → asleep_at m ≡ true → (step_if d m).power.state ≡ cond (wakes_by (signal_if d) m.power) On m.power.state
state_if (Err r) m z = refl
state_if (Ok f) m z = state_as f.kind f.a f.v m z

edges_if : (d : Result Frame Refusal) (m : Machine) → asleep_at m ≡ true → asleep_at (step_if d m) ≡ true
    → (step_if d m).power.edges ≡ m.power.edges + cond (rings_by (signal_if d) m.power && ltb 0 (ring_count m.power)) 1 0
edges_if (Err r) m z y = omega arith
edges_if (Ok f) m z y = edges_as f.kind f.a f.v m z y

wake_if : (d : Result Frame Refusal) (m : Machine) → asleep_at m ≡ true → asleep_at (step_if d m) ≡ true → (step_if d m).power.table 0x06 ≡ m.power.table 0x06
wake_if (Err r) m z y = refl
wake_if (Ok f) m z y = wake_as f.kind f.a f.v m z y

entry_if : (d : Result Frame Refusal) (m : Machine) → asleep_at m ≡ false → asleep_at (step_if d m) ≡ true → (step_if d m).power.edges ≡ 0
entry_if (Err r) m z y = absurd (both_ways (asleep_at m) z y)
entry_if (Ok f) m z y = entry_as f.kind f.a f.v m z y

state_step : (m : Machine) (l : Line) → asleep_at m ≡ true → (step m l).power.state ≡ cond (wakes_by (signal m l) m.power) On m.power.state
unfolding step
state_step m l z = state_if (decoded l) m z ∙ ap (λ e. cond (wakes_by e m.power) On m.power.state) (sym (signal_is m l))

edges_step : (m : Machine) (l : Line) → asleep_at m ≡ true → asleep_at (step m l) ≡ true
    → (step m l).power.edges ≡ m.power.edges + cond (rings_by (signal m l) m.power && ltb 0 (ring_count m.power)) 1 0
unfolding step
edges_step m l z y =
    edges_if (decoded l) m z y
    ∙ ap (λ e. m.power.edges + cond (rings_by e m.power && ltb 0 (ring_count m.power)) 1 0) (sym (signal_is m l))

wake_step : (m : Machine) (l : Line) → asleep_at m ≡ true → asleep_at (step m l) ≡ true → (step m l).power.table 0x06 ≡ m.power.table 0x06
unfolding step
wake_step m l z y = wake_if (decoded l) m z y

entry_step : (m : Machine) (l : Line) → asleep_at m ≡ false → asleep_at (step m l) ≡ true → (step m l).power.edges ≡ 0
unfolding step
entry_step m l z y = entry_if (decoded l) m z y

-- a machine that is as just reset
pub record New (first : Machine) : Type 0 where
  pub calm : inputs first.power ≡ inputs_after []
  pub awake : asleep_at first ≡ false
  pub no_cause : cause first.power ≡ 0

-- where the list leads into Suspend or Off, there was an entry
record AsleepSince (first : Machine) (ls : List Line) : Type 0 where
  newer : List Line
  entry : Line
  older : List Line
  split : ls ≡ newer ++ (entry ∷ older)
  entered : Entry first entry older
  asleep_since : AsleepThrough first newer (entry ∷ older)

since_more : (first : Machine) (l : Line) (ls : List Line) → asleep_at (after first (l ∷ ls)) ≡ true → AsleepSince first ls → AsleepSince first (l ∷ ls)
since_more first l ls z s = record {
  newer = l ∷ s.newer;
  entry = s.entry;
  older = s.older;
  split = ap (λ (x : List Line). l ∷ x) s.split;
  entered = s.entered;
  asleep_since = (subst (λ (x : List Line). asleep_at (after first (l ∷ x)) ≡ true) s.split z, s.asleep_since);
}

since : (first : Machine) → New first → (ls : List Line) → asleep_at (after first ls) ≡ true → AsleepSince first ls
since first new [] z = absurd (both_ways (asleep_at first) new.awake z)
since first new (l ∷ ls) z =
    elim (cases_Bool (asleep_at (after first ls))) [
      | inl y ↦ since_more first l ls z (since first new ls y)
      | inr n ↦ record { newer = []; entry = l; older = ls; split = refl; entered = (n, z); asleep_since = tt }
    ]

-- in Suspend or Off after the last of the lines
asleep_last : (first : Machine) (newer : List Line) (entry : Line) (older : List Line) → Entry first entry older → AsleepThrough first newer (entry ∷ older) → asleep_at (after first (newer ++ (entry ∷ older))) ≡ true
asleep_last first [] entry older e t = e.1
asleep_last first (l ∷ newer) entry older e t = t.0

rings_agree : (first : Machine) → New first → (ls : List Line) (e : Signal) → rings_by e (after first ls).power ≡ raises sig.ring e (signals first ls)
rings_agree first new ls sig.reset = refl
rings_agree first new ls sig.tick = refl
rings_agree first new ls (sig.gives sig.ext v) = refl
rings_agree first new ls (sig.gives sig.ring v) =
    ap (λ x. v && not x) (ap (λ (x : Inputs). x.ring) (inputs_agree first new.calm ls) ∙ level_agrees sig.ring (signals first ls))
rings_agree first new ls (sig.gives sig.battery v) = refl
rings_agree first new ls (sig.gives sig.ac v) = refl
rings_agree first new ls sig.alarm = refl
rings_agree first new ls sig.other = refl

-- the ring edges are the rises since the entry
edges_count : (first : Machine) → New first → (newer : List Line) (entry : Line) (older : List Line) → Entry first entry older → AsleepThrough first newer (entry ∷ older)
    → (ring_count (after first (newer ++ (entry ∷ older))).power ≡ 0 → ⊥) → (after first (newer ++ (entry ∷ older))).power.edges ≡ ring_rises first newer (entry ∷ older)
edges_count first new [] entry older e t n = entry_step (after first older) entry e.0 e.1
edges_count first new (l ∷ newer) entry older e t n =
    let ls = newer ++ (entry ∷ older) in
    let m = after first ls in
    let z = asleep_last first newer entry older e t.1 in
    let same : ring_count (step m l).power ≡ ring_count m.power = ap (λ x. x % 8) (wake_step m l z t.0) in
    let some : ring_count m.power ≡ 0 → ⊥ = λ zero. n (same ∙ zero) in
    let ih = edges_count first new newer entry older e t.1 some in
    let agree = rings_agree first new ls (signal m l) in
    let up = edges_step m l z t.0 in
    grind (arith, nat_tests)

-- a rise of the ring line that does not wake leaves room below the ring count
ring_unwoken : (e : Signal) (u : Power) → wakes_by e u ≡ false → rings_by e u ≡ true → 0 < ring_count u → u.edges + 1 < ring_count u
ring_unwoken sig.reset u w r n = impossible (cc)
ring_unwoken sig.tick u w r n = impossible (cc)
ring_unwoken (sig.gives sig.ext v) u w r n = impossible (cc)
ring_unwoken (sig.gives sig.ring v) u w r n = grind (arith, nat_tests)
ring_unwoken (sig.gives sig.battery v) u w r n = impossible (cc)
ring_unwoken (sig.gives sig.ac v) u w r n = impossible (cc)
ring_unwoken sig.alarm u w r n = impossible (cc)
ring_unwoken sig.other u w r n = impossible (cc)

-- where a line leaves the machine in Suspend or Off, its signal did not wake
unwoken : (b : Bool) (s : State) → asleep (cond b On s) ≡ true → b ≡ false
unwoken true s z = impossible (cc)
unwoken false s z = refl

edges_below : (first : Machine) (newer : List Line) (entry : Line) (older : List Line) → Entry first entry older → AsleepThrough first newer (entry ∷ older)
    → (ring_count (after first (newer ++ (entry ∷ older))).power ≡ 0 → ⊥) → (after first (newer ++ (entry ∷ older))).power.edges < ring_count (after first (newer ++ (entry ∷ older))).power
edges_below first [] entry older e t n = let z = entry_step (after first older) entry e.0 e.1 in omega arith
edges_below first (l ∷ newer) entry older e t n =
    let m = after first (newer ++ (entry ∷ older)) in
    let z = asleep_last first newer entry older e t.1 in
    let same : ring_count (step m l).power ≡ ring_count m.power = ap (λ x. x % 8) (wake_step m l z t.0) in
    let some : ring_count m.power ≡ 0 → ⊥ = λ zero. n (same ∙ zero) in
    let ih = edges_below first newer entry older e t.1 some in
    let up = edges_step m l z t.0 in
    let not_woken = unwoken (wakes_by (signal m l) m.power) m.power.state (ap asleep (sym (state_step m l z)) ∙ t.0) in
    let room : rings_by (signal m l) m.power ≡ true → m.power.edges + 1 < ring_count m.power = λ r. ring_unwoken (signal m l) m.power not_woken r (omega arith) in
    grind (arith, nat_tests)

-- a signal that wakes by what the machine has counted wakes by the list
wakes_from : (first : Machine) → New first → (l : Line) (ls : List Line) (e : Signal) → signal (after first ls) l ≡ e → asleep_at (after first ls) ≡ true → wakes_by e (after first ls).power ≡ true → Wakes first l ls
wakes_from first new l ls sig.reset is z w = by_reset is
wakes_from first new l ls sig.tick is z w = impossible (cc)
wakes_from first new l ls (sig.gives sig.ext true) is z w =
    let agree = inputs_agree first new.calm ls in
    let p = and_parts (not (after first ls).power.ext) (eqb (after first ls).power.low 2) w in
    let low = sym (ap (λ (x : Inputs). x.low) agree) ∙ eqb-true (after first ls).power.low 2 p.1 in
    let level_low = sym (ap (λ (x : Inputs). x.ext) agree ∙ level_agrees sig.ext (signals first ls)) ∙ not-true (after first ls).power.ext p.0 in
    by_press ((is, level_low), low_settled (signals first ls) low)
wakes_from first new l ls (sig.gives sig.ext false) is z w = impossible (cc)
wakes_from first new l ls (sig.gives sig.ring true) is z w =
    let u = (after first ls).power in
    let s = since first new ls z in
    let agree = inputs_agree first new.calm ls in
    let p = and_parts (not u.ring && ltb 0 (ring_count u)) (leb (ring_count u) (u.edges + 1)) w in
    let q = and_parts (not u.ring) (ltb 0 (ring_count u)) p.0 in
    let level_low = sym (ap (λ (x : Inputs). x.ring) agree ∙ level_agrees sig.ring (signals first ls)) ∙ not-true u.ring q.0 in
    let some : ring_count u ≡ 0 → ⊥ = λ zero. omega (arith, ltb-true 0 (ring_count u) q.1) in
    let at = λ (x : List Line). (after first x).power in
    let there : ring_count (at (s.newer ++ (s.entry ∷ s.older))) ≡ 0 → ⊥ = subst (λ (x : List Line). ring_count (at x) ≡ 0 → ⊥) s.split some in
    let count : u.edges ≡ ring_rises first s.newer (s.entry ∷ s.older) = ap (λ (x : List Line). (at x).edges) s.split ∙ edges_count first new s.newer s.entry s.older s.entered s.asleep_since there in
    let below : u.edges < ring_count u = subst (λ (x : List Line). (at x).edges < ring_count (at x)) (sym s.split) (edges_below first s.newer s.entry s.older s.entered s.asleep_since there) in
    let reached = leb-true (ring_count u) (u.edges + 1) p.1 in
    by_ring (record {
      newer = s.newer;
      entry = s.entry;
      older = s.older;
      split = s.split;
      entered = s.entered;
      asleep_since = s.asleep_since;
      rises = (is, level_low);
      counts = some;
      nth = omega arith;
    })
wakes_from first new l ls (sig.gives sig.ring false) is z w = impossible (cc)
wakes_from first new l ls (sig.gives sig.battery v) is z w = impossible (cc)
wakes_from first new l ls (sig.gives sig.ac v) is z w = impossible (cc)
wakes_from first new l ls sig.alarm is z w = by_alarm is w
wakes_from first new l ls sig.other is z w = impossible (cc)

-- and the other way
wakes_to : (first : Machine) → New first → (l : Line) (ls : List Line) → Wakes first l ls → wakes_by (signal (after first ls) l) (after first ls).power ≡ true
wakes_to first new l ls (by_reset is) = ap (λ e. wakes_by e (after first ls).power) is
wakes_to first new l ls (by_press p) =
    let u = (after first ls).power in
    let agree = inputs_agree first new.calm ls in
    let low : u.low ≡ 2 = ap (λ (x : Inputs). x.low) agree ∙ settled_low (signals first ls) p.1 in
    let level_low : u.ext ≡ false = ap (λ (x : Inputs). x.ext) agree ∙ level_agrees sig.ext (signals first ls) ∙ p.0.1 in
    ap (λ e. wakes_by e u) p.0.0 ∙ and_from (not u.ext) (eqb u.low 2) (not_from_false u.ext level_low) (eq-eqb u.low 2 low)
wakes_to first new l ls (by_ring r) =
    let u = (after first ls).power in
    let agree = inputs_agree first new.calm ls in
    let at = λ (x : List Line). (after first x).power in
    let there : ring_count (at (r.newer ++ (r.entry ∷ r.older))) ≡ 0 → ⊥ = subst (λ (x : List Line). ring_count (at x) ≡ 0 → ⊥) r.split r.counts in
    let count : u.edges ≡ ring_rises first r.newer (r.entry ∷ r.older) = ap (λ (x : List Line). (at x).edges) r.split ∙ edges_count first new r.newer r.entry r.older r.entered r.asleep_since there in
    let level_low : u.ring ≡ false = ap (λ (x : Inputs). x.ring) agree ∙ level_agrees sig.ring (signals first ls) ∙ r.rises.1 in
    let nth = r.nth in
    let some : 0 < ring_count u = omega arith in
    ap (λ e. wakes_by e u) r.rises.0
    ∙ and_from (not u.ring && ltb 0 (ring_count u)) (leb (ring_count u) (u.edges + 1))
    (and_from (not u.ring) (ltb 0 (ring_count u)) (not_from_false u.ring level_low) (lt-ltb 0 (ring_count u) some))
    (le-leb (ring_count u) (u.edges + 1) (omega arith))
wakes_to first new l ls (by_alarm is on) = ap (λ e. wakes_by e (after first ls).power) is ∙ on

on_only : (b : Bool) (s : State) → asleep s ≡ true → cond b On s ≡ On → b ≡ true
on_only true s z e = refl
on_only false s z e = let n : asleep s ≡ false = ap asleep e in absurd (both_ways (asleep s) n z)

not_true_false : (b : Bool) → (b ≡ true → ⊥) → b ≡ false
not_true_false true n = absurd (n refl)
not_true_false false n = refl

pub wake_law : (first : Machine) → New first → (ls : List Line) (l : Line) → WakeLaw first ls l (after first (l ∷ ls))
wake_law first new ls l =
    let m = after first ls in
    let w = wakes_by (signal m l) m.power in
    record {
      always = λ z wakes. state_step m l z ∙ cond-true w On m.power.state (wakes_to first new l ls wakes);
      only = λ z on. wakes_from first new l ls (signal m l) refl z (on_only w m.power.state z (sym (state_step m l z) ∙ on));
      else_same = λ z none.
          state_step m l z
          ∙ cond-false w On m.power.state (not_true_false w (λ yes. none (wakes_from first new l ls (signal m l) refl z yes)));
    }
