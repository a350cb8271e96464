-- The count of low samples is two exactly where the list of signals has settled.
use Rattle.std.proofs.Common.{◌≡◌, ℕ, ◌+◌, ◌≤◌, Bool, true, false, cond, ltb, List, [], ◌∷◌, ◌++◌, sym, refl, ap, ◌∙◌, subst, arith}
use Rattle.std.proofs.lemmas.Bool.Decides.{nat_tests}
use Rattle.rules.specs.Signals as sig
use Rattle.rules.specs.Signals.{Input, Signal, level, Rises, Quiet, Settled, CleanPress}
use Rattle.rules.proofs.Signals.{inputs_after, level_agrees}

abbrev low : List Signal → ℕ
low es = (inputs_after es).low

abbrev Calm : Signal → List Signal → Type 0
Calm e es = (e ≡ sig.tick → ⊥) × (e ≡ sig.reset → ⊥) × (Rises sig.ext e es → ⊥)

pub impossible : {A : Type 0} → ◌≡◌ {A = ℕ} 0 1 → A
impossible e = absurd (omega arith)

-- a calm signal leaves the count
calm_low : (e : Signal) (es : List Signal) → Calm e es → low (e ∷ es) ≡ low es
calm_low sig.reset es c = absurd (c.1 refl)
calm_low sig.tick es c = absurd (c.0 refl)
calm_low (sig.gives sig.ext true) es c =
    let l = level_agrees sig.ext es in
    let n : level sig.ext es ≡ false → ⊥ = λ x. c.2 (refl, x) in
    grind (arith, nat_tests)
calm_low (sig.gives sig.ext false) es c = refl
calm_low (sig.gives sig.ring v) es c = refl
calm_low (sig.gives sig.battery v) es c = refl
calm_low (sig.gives sig.ac v) es c = refl
calm_low sig.alarm es c = refl
calm_low sig.other es c = refl

-- and a low level
calm_level : (e : Signal) (es : List Signal) → Calm e es → level sig.ext es ≡ false → level sig.ext (e ∷ es) ≡ false
calm_level sig.reset es c l = refl
calm_level sig.tick es c l = l
calm_level (sig.gives sig.ext true) es c l = absurd (c.2 (refl, l))
calm_level (sig.gives sig.ext false) es c l = refl
calm_level (sig.gives sig.ring v) es c l = l
calm_level (sig.gives sig.battery v) es c l = l
calm_level (sig.gives sig.ac v) es c l = l
calm_level sig.alarm es c l = l
calm_level sig.other es c l = l

quiet_low : (newer older : List Signal) → Quiet newer older → low (newer ++ older) ≡ low older
quiet_low [] older q = refl
quiet_low (e ∷ newer) older q = calm_low e (newer ++ older) (q.0, q.1, q.2) ∙ quiet_low newer older q.3

quiet_level : (newer older : List Signal) → Quiet newer older → level sig.ext older ≡ false → level sig.ext (newer ++ older) ≡ false
quiet_level [] older q l = l
quiet_level (e ∷ newer) older q l = calm_level e (newer ++ older) (q.0, q.1, q.2) (quiet_level newer older q.3 l)

-- a tick that finds EXT low counts one more, up to two
tick_low : (es : List Signal) → level sig.ext es ≡ false → low (sig.tick ∷ es) ≡ cond (ltb (low es) 2) (low es + 1) 2
tick_low es l = let a = level_agrees sig.ext es in grind (arith, nat_tests)

-- where the list has settled, the count is two
pub settled_low : (es : List Signal) → Settled es → low es ≡ 2
settled_low es s =
    let older = sig.tick ∷ (s.between ++ (sig.tick ∷ s.before)) in
    let first = tick_low s.before s.first_found_low in
    let still = quiet_low s.between (sig.tick ∷ s.before) s.quiet_between in
    let second = tick_low (s.between ++ (sig.tick ∷ s.before)) s.last_found_low in
    let end = quiet_low s.newest older s.quiet_newest in
    let two : low older ≡ 2 = grind (arith, nat_tests) in
    ap low s.split ∙ end ∙ two

-- the last tick, with nothing but quiet after it, found EXT low
record LowOnce (es : List Signal) : Type 0 where
  newest : List Signal
  before : List Signal
  split : es ≡ newest ++ (sig.tick ∷ before)
  quiet : Quiet newest (sig.tick ∷ before)
  found_low : level sig.ext before ≡ false

once_more : (e : Signal) (es : List Signal) → Calm e es → LowOnce es → LowOnce (e ∷ es)
once_more e es c o = record {
  newest = e ∷ o.newest;
  before = o.before;
  split = ap (λ (x : List Signal). e ∷ x) o.split;
  quiet = (c.0, c.1, subst (λ (x : List Signal). Rises sig.ext e x → ⊥) o.split c.2, o.quiet);
  found_low = o.found_low;
}

settled_more : (e : Signal) (es : List Signal) → Calm e es → Settled es → Settled (e ∷ es)
settled_more e es c o = record {
  newest = e ∷ o.newest;
  between = o.between;
  before = o.before;
  split = ap (λ (x : List Signal). e ∷ x) o.split;
  quiet_newest = (c.0, c.1, subst (λ (x : List Signal). Rises sig.ext e x → ⊥) o.split c.2, o.quiet_newest);
  quiet_between = o.quiet_between;
  last_found_low = o.last_found_low;
  first_found_low = o.first_found_low;
}

-- where there is a count, a signal that is neither tick nor reset is calm
calm : (e : Signal) (es : List Signal) → (e ≡ sig.tick → ⊥) → (e ≡ sig.reset → ⊥) → 1 ≤ low (e ∷ es) → Calm e es
calm sig.reset es t r c = absurd (r refl)
calm sig.tick es t r c = absurd (t refl)
calm (sig.gives sig.ext true) es t r c = (t, r, λ u. let l = level_agrees sig.ext es in let w = u.1 in absurd (let z : ◌≡◌ {A = ℕ} 0 1 = grind (arith, nat_tests) in omega arith))
calm (sig.gives sig.ext false) es t r c = (t, r, λ u. impossible (let e = u.0 in cc))
calm (sig.gives sig.ring v) es t r c = (t, r, λ u. impossible (let e = u.0 in cc))
calm (sig.gives sig.battery v) es t r c = (t, r, λ u. impossible (let e = u.0 in cc))
calm (sig.gives sig.ac v) es t r c = (t, r, λ u. impossible (let e = u.0 in cc))
calm sig.alarm es t r c = (t, r, λ u. impossible (let e = u.0 in cc))
calm sig.other es t r c = (t, r, λ u. impossible (let e = u.0 in cc))

-- a signal that is neither tick nor reset: the list it is added to
abbrev Plain : Signal → Type 0
Plain e = (e ≡ sig.tick → ⊥) × (e ≡ sig.reset → ⊥)

plain : (i : Input) (v : Bool) → Plain (sig.gives i v)
plain i v = (λ e. impossible (cc), λ e. impossible (cc))

once_plain : (e : Signal) (es : List Signal) → Plain e → 1 ≤ low (e ∷ es) → (1 ≤ low es → LowOnce es) → LowOnce (e ∷ es)
once_plain e es p c rest =
    let k = calm e es p.0 p.1 c in
    once_more e es k (rest (subst (λ (n : ℕ). 1 ≤ n) (calm_low e es k) c))

once : (es : List Signal) → 1 ≤ low es → LowOnce es
once [] c = impossible (omega arith)
once (sig.reset ∷ es) c = impossible (omega arith)
once (sig.tick ∷ es) c =
    let l = level_agrees sig.ext es in
    record { newest = []; before = es; split = refl; quiet = tt; found_low = grind (arith, nat_tests) }
once (sig.gives i v ∷ es) c = once_plain (sig.gives i v) es (plain i v) c (once es)
once (sig.alarm ∷ es) c = once_plain sig.alarm es (λ e. impossible (cc), λ e. impossible (cc)) c (once es)
once (sig.other ∷ es) c = once_plain sig.other es (λ e. impossible (cc), λ e. impossible (cc)) c (once es)

settled_plain : (e : Signal) (es : List Signal) → Plain e → low (e ∷ es) ≡ 2 → (low es ≡ 2 → Settled es) → Settled (e ∷ es)
settled_plain e es p c rest =
    let k = calm e es p.0 p.1 (omega arith) in
    settled_more e es k (rest (sym (calm_low e es k) ∙ c))

-- where the count is two, the list has settled
pub low_settled : (es : List Signal) → low es ≡ 2 → Settled es
low_settled [] c = impossible (omega arith)
low_settled (sig.reset ∷ es) c = impossible (omega arith)
low_settled (sig.tick ∷ es) c =
    let l = level_agrees sig.ext es in
    let some : 1 ≤ low es = grind (arith, nat_tests) in
    let o = once es some in
    record {
      newest = [];
      between = o.newest;
      before = o.before;
      split = ap (λ (x : List Signal). sig.tick ∷ x) o.split;
      quiet_newest = tt;
      quiet_between = o.quiet;
      last_found_low = quiet_level o.newest (sig.tick ∷ o.before) o.quiet o.found_low;
      first_found_low = o.found_low;
    }
low_settled (sig.gives i v ∷ es) c = settled_plain (sig.gives i v) es (plain i v) c (low_settled es)
low_settled (sig.alarm ∷ es) c = settled_plain sig.alarm es (λ e. impossible (cc), λ e. impossible (cc)) c (low_settled es)
low_settled (sig.other ∷ es) c = settled_plain sig.other es (λ e. impossible (cc), λ e. impossible (cc)) c (low_settled es)
